-- Laws of the measure, for its callers.
use Rattle.std.proofs.Math.Path.{◌≡◌, refl, sym, ap}
use Rattle.std.proofs.Common.{◌∙◌, arith, length-append}
use Rattle.std.specs.Prelude.{Bool, cond, List, [], ◌∷◌, ℕ, ◌≤◌, length}
use Rattle.std.proofs.Math.Bool.{true, false}
use Rattle.diagram.specs.Diagram.{Diagram}
use Rattle.diagram_form.specs.Form.{Tables, form_bytes, form_length, is_too_long}
use Rattle.diagram_form.proofs.FormLaws.{form-length, reward-length, not-too-long}
use Rattle.spelling.specs.Spelling.{measured, form_line}
use Rattle.std.specs.Prelude.{None, Option, Some}

module _ (ar : List ℕ) (n : Tables) (d : Diagram) where
  abbrev answer : Bool → Option ℕ
  answer b = cond b None (Some (form_length ar n d))

  -- what was measured is the form's length, and 19 is not given
  pub measured-bytes : {k : ℕ} → measured ar n d ≡ Some k → (k ≡ form_length ar n d) × (is_too_long ar n d ≡ false)
  unfolding measured
  measured-bytes {k} e = go (is_too_long ar n d) refl
    where
      go : (b : Bool) → is_too_long ar n d ≡ b → (k ≡ form_length ar n d) × (is_too_long ar n d ≡ false)
      go true q = let z : None ≡ Some k = sym (ap answer q) ∙ e in absurd (let y : ◌≡◌ {A = ℕ} 0 1 = cc in omega arith)
      go false q = let z : Some k ≡ Some (form_length ar n d) = sym e ∙ ap answer q in (cc, q)

  -- where it was too long, 19 is given
  pub measured-long : measured ar n d ≡ None → is_too_long ar n d ≡ true
  unfolding measured
  measured-long e = go (is_too_long ar n d) refl
    where
      go : (b : Bool) → is_too_long ar n d ≡ b → is_too_long ar n d ≡ true
      go true q = q
      go false q = let z : Some (form_length ar n d) ≡ None = sym (ap answer q) ∙ e in absurd (let y : ◌≡◌ {A = ℕ} 0 1 = cc in omega arith)

  -- the line that (text) prints has at most 4,087 bytes
  pub line-short : is_too_long ar n d ≡ false → length (form_line ar n d) ≤ 4087
  line-short e =
      omega (arith, length-append (form_bytes ar n d) (10 ∷ []), form-length ar n d, reward-length ar n d, (not-too-long ar n d e).bytes)
