-- What the readers of a line answer, from what their parts answered.
use mathlib.Core.Path.{◌≡◌, sym, ap, ◌∙◌}
use mathlib.Core.List.{List}
use Prim.Native.Nat.{ℕ, ◌-◌, ◌≤◌, ◌<◌}
use lib.ListN.{length, get_or, take, drop}
use borrow.Author.Tests.{eq-eqb, ne_eqb, le-leb, lt-leb}
use Rattle.words.specs.Inner.{name_form}
use Rattle.words.specs.Keys.{key_of}
use Rattle.words.specs.ByteLaws.{part-tail}
use Rattle.words.specs.declared.Key.{Key}
use Rattle.forms.specs.Form.{◌▹◌}
use Rattle.text.specs.declared.Kind.{Kind}
use Rattle.text.specs.declared.Kind.TheVariants.{Bad}
use Rattle.line_reader.specs.declared.Keyword.{Keyword}
use Rattle.text.specs.Line.{most_line_bytes}
use Rattle.text.specs.LineForm.{kind_of, shape_form, words_form, form_kind, line_kind}
use Rattle.line_reader.specs.Rows.{row_of}
use Rattle.std.specs.Prelude.{None, Option, Some}

-- the answer t is u: what is read behind t is what is read behind u
pub behind : {t u r : Option ℕ} (f : ℕ → Option ℕ) → t ≡ u → r ≡ t ▹ f → r ≡ u ▹ f
behind f e h = h ∙ ap (λ (x : Option ℕ). x ▹ f) e

pub behind-two : {t u r : Option ℕ} (f g : ℕ → Option ℕ) → t ≡ u → r ≡ t ▹ f ▹ g → r ≡ u ▹ f ▹ g
behind-two f g e h = h ∙ ap (λ (x : Option ℕ). x ▹ f ▹ g) e

module _ (s : List ℕ) {t : Option ℕ} (p : t ≡ name_form s) where
  pub form-none : t ≡ None → Bad ≡ form_kind s
  unfolding form_kind
  form-none e = rw (← p, e)

  module _ {n : ℕ} {k : Key} {row : Keyword} {r : Option ℕ} (q : t ≡ Some n) (u : k ≡ key_of (take n s)) (v : row ≡ row_of (kind_of k))
      (w : r ≡ shape_form row.shape (take (length s - n) (drop n s))) where
    kind : row.kind ≡ kind_of (key_of (take n s))
    unfolding row_of
    kind = ap (λ (x : Keyword). x.kind) v ∙ ap kind_of u

    words : words_form (kind_of (key_of (take n s))) (drop n s) ≡ r
    unfolding row_of words_form
    words = rw (← u, ← part-tail n s) (ap (λ (x : Keyword). shape_form x.shape (take (length s - n) (drop n s))) (sym v) ∙ sym w)

    pub form-refused : r ≡ None → Bad ≡ form_kind s
    unfolding form_kind
    form-refused e = rw (← p, q, words, e)

    pub form-whole : {m : ℕ} → r ≡ Some m → m ≡ length s - n → row.kind ≡ form_kind s
    unfolding form_kind
    form-whole e l = kind ∙ rw (← p, q, words, e, eq-eqb _ _ l)

    pub form-rest : {m : ℕ} → r ≡ Some m → (m ≡ length s - n → ⊥) → Bad ≡ form_kind s
    unfolding form_kind
    form-rest e l = rw (← p, q, words, e, ne_eqb _ _ l)

pub line-long : (s : List ℕ) → most_line_bytes < length s → Bad ≡ line_kind s
unfolding line_kind
line-long s h = rw (lt-leb _ _ h)

module _ (s : List ℕ) {b : ℕ} (h : length s ≤ most_line_bytes) (p : b ≡ get_or s 0 0) where
  pub line-none : (b ≡ 40 → ⊥) → Bad ≡ line_kind s
  unfolding line_kind
  line-none e = rw (le-leb _ _ h, ← p, ne_eqb b 40 e)

  pub line-form : {k : Kind} → b ≡ 40 → k ≡ form_kind (take (length s - 1) (drop 1 s)) → k ≡ line_kind s
  unfolding line_kind
  line-form e q = rw (le-leb _ _ h, ← p, eq-eqb b 40 e) (q ∙ ap form_kind (part-tail 1 s))
