-- The search for a key in the table of key words.
use mathlib.Core.Path.{◌≡◌, refl, sym, ap, ◌∙◌}
use mathlib.Core.List.{List, [], ◌∷◌, map}
use mathlib.Core.Bool.{Bool, true, false, cond}
use Prim.Native.Nat.{ℕ, zero, suc, ◌+◌, ◌≤◌, ◌<◌}
use native.Mathlib.Omega.{arith}
use native.Mathlib.Numerals.{add-one}
use lib.ListN.{length, get_or, drop, drop_of_length-le}
use lib.Seq.{drop-cons}
use Rattle.words.specs.Keys.{key_of}
use Rattle.words.specs.declared.Key.{Key}
use Rattle.text.specs.declared.Kind.{Kind}
use Rattle.text.specs.declared.Kind.TheVariants.{Bad}
use Rattle.line_reader.specs.declared.Keyword.{Keyword}
use Rattle.text.specs.Line.{keyword}
use Rattle.text.specs.LineForm.{is_key, kind_in}
use Rattle.line_reader.specs.Rows.{row_of}

row_at : (ks : List Kind) (i : ℕ) (d : Keyword) → i < length ks → get_or (map row_of ks) i d ≡ row_of (get_or ks i Bad)
row_at [] i d h = absurd (omega arith)
row_at (k ∷ ks) zero d h = refl
row_at (k ∷ ks) (suc i) d h = row_at ks i d (omega arith)

kind-step : (ks : List Kind) (i : ℕ) (k : Key) → i < length ks
    → kind_in (drop i ks) k ≡ cond (is_key k (key_of (keyword (get_or ks i Bad)))) (get_or ks i Bad) (kind_in (drop (i + 1) ks) k)
kind-step ks i k h = rw (add-one, drop-cons ks i Bad h)

-- the table t has the row of each kind; the key k was compared with that of row i
module _ (ks : List Kind) (t : List Keyword) (d : Keyword) (e : t ≡ map row_of ks) (k : Key) (i : ℕ) (h : i < length ks) {b : Bool} (q : b ≡ is_key k (get_or t i d).key) where
  row : get_or t i d ≡ row_of (get_or ks i Bad)
  row = ap (λ (t : List Keyword). get_or t i d) e ∙ row_at ks i d h

  test : is_key k (key_of (keyword (get_or ks i Bad))) ≡ b
  unfolding row_of
  test = sym (q ∙ ap (λ (r : Keyword). is_key k r.key) row)

  pub keyword-here : b ≡ true → get_or t i d ≡ row_of (kind_in (drop i ks) k)
  keyword-here f = row ∙ ap row_of (sym (kind-step ks i k h ∙ ap (λ (x : Bool). cond x (get_or ks i Bad) (kind_in (drop (i + 1) ks) k)) (test ∙ f)))

  pub keyword-on : b ≡ false → kind_in (drop i ks) k ≡ kind_in (drop (i + 1) ks) k
  keyword-on f = kind-step ks i k h ∙ ap (λ (x : Bool). cond x (get_or ks i Bad) (kind_in (drop (i + 1) ks) k)) (test ∙ f)

pub keyword-none : (ks : List Kind) (k : Key) (i : ℕ) → length ks ≤ i → kind_in (drop i ks) k ≡ Bad
keyword-none ks k i h = ap (λ (l : List Kind). kind_in l k) (drop_of_length-le ks h)
