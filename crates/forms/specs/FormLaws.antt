-- What an accepting answer of each reader says: which tests passed, and that the form lies within the bytes.
use Rattle.std.specs.Prelude.{◌≡◌, refl, List, Bool, true, false, cond, ℕ, zero, suc, ◌+◌, ◌-◌, ◌≤◌, ◌<◌, leb, eqb, length, get_or, drop}
use Rattle.std.proofs.Common.{sym, ap, ◌∙◌, arith, length-drop, eqb-true}
use Rattle.std.proofs.lemmas.Bool.{false≢true}
use Rattle.words.specs.Inner.{name_form}
use Rattle.words.specs.Words.{number_form}
use Rattle.words.specs.ByteLaws.{inside}
use Rattle.words.specs.WordLaws.{refused, bytes_eq, name-within, number-within}
use Rattle.forms.specs.declared.Sort.{Sort}
use Rattle.forms.specs.declared.Sort.TheVariants.{Name, Variable, Parameter, Any, Number}
use Rattle.forms.specs.Form.{◌▹◌, byte, form, marked_form, is_mark, term_form, item_form, many_form, equality_form, plain_form, inner_form, atom_form, if_form, diagram_form}
use Rattle.std.specs.Prelude.{None, Option, Some}

pub cond-inv : (t : Bool) (x : Option ℕ) {n : ℕ} → cond t x None ≡ Some n → (t ≡ true) × (x ≡ Some n)
cond-inv true x e = (refl, e)
cond-inv false x e = absurd (refused e)

-- an accepting sequence: both forms accept
pub then-inv : (t : Option ℕ) (k : ℕ → Option ℕ) {n : ℕ} → t ▹ k ≡ Some n → (i : ℕ) × (t ≡ Some i) × (k i ≡ Some n)
unfolding ◌▹◌
then-inv (Some i) k e = (i, refl, e)
then-inv None k e = absurd (refused e)

pub byte-inv : (s : List ℕ) (b i : ℕ) {n : ℕ} → byte s b i ≡ Some n → (get_or s i 0 ≡ b) × (n ≡ i + 1)
unfolding byte
byte-inv s b i e =
    let h = cond-inv (eqb (get_or s i 0) b) (Some (i + 1)) e in (eqb-true (get_or s i 0) b h.0, sym (bytes_eq h.1))

pub form-inv : (s : List ℕ) (p : List ℕ → Option ℕ) (i : ℕ) {n : ℕ} → form s p i ≡ Some n → (m : ℕ) × (p (drop i s) ≡ Some m) × (n ≡ i + m)
unfolding form
form-inv s p i e = let h = then-inv (p (drop i s)) (λ n. Some (i + n)) e in (h.0, h.1, sym (bytes_eq h.2))

-- the form takes no more bytes than there are
abbrev pub Within : (List ℕ → Option ℕ) → Type 0
Within p = (s : List ℕ) (n : ℕ) → p s ≡ Some n → n ≤ length s

pub form-within : (p : List ℕ → Option ℕ) → Within p → (s : List ℕ) (i : ℕ) {n : ℕ} → i ≤ length s → form s p i ≡ Some n → n ≤ length s
form-within p w s i h e = let g = form-inv s p i e in omega (arith, w (drop i s) g.0 g.1, length-drop i s, g.2)

-- the form p from the place that t answered on, u the bytes there and r what their reader answered: t refuses, the
-- reader refuses, it takes n bytes
pub after-refused : {t a : Option ℕ} (k : ℕ → Option ℕ) → t ≡ a → t ≡ None → None ≡ a ▹ k
unfolding ◌▹◌
after-refused k d q = rw (← d, q)

module _ (s : List ℕ) (p : List ℕ → Option ℕ) {u : List ℕ} {t a r : Option ℕ} {i : ℕ} (d : t ≡ a) (q : t ≡ Some i) (h : u ≡ drop i s) (e : r ≡ p u) where
  pub form-refused : r ≡ None → None ≡ a ▹ form s p
  unfolding ◌▹◌ form
  form-refused z = rw (← d, q, ← h, ← e, z)

  pub form-took : {n : ℕ} → r ≡ Some n → Some (i + n) ≡ a ▹ form s p
  unfolding ◌▹◌ form
  form-took z = rw (← d, q, ← h, ← e, z)

-- it takes no more bytes than there are, and its reader is given no more
pub form-rest : (s : List ℕ) (i : ℕ) (p : List ℕ → Option ℕ) {u : List ℕ} {r : Option ℕ} {n : ℕ} → Within p → u ≡ drop i s → r ≡ p u → r ≡ Some n → n ≤ length s - i
form-rest s i p {u} {r} {n} w h e z = omega (arith, w u n (sym e ∙ z), ap length h, length-drop i s)

pub rest-less : (s : List ℕ) (i : ℕ) {u : List ℕ} → u ≡ drop i s → length u < length s + 1
rest-less s i h = omega (arith, ap length h, length-drop i s)

-- a sequence that ends in a byte
pub ends-within : (s : List ℕ) (t : Option ℕ) (b : ℕ) {n : ℕ} → 0 < b → t ▹ byte s b ≡ Some n → n ≤ length s
ends-within s t b h e =
    let g = then-inv t (byte s b) e in
    let l = byte-inv s b g.0 g.2 in
    omega (arith, inside s g.0 b l.0 h, l.1)

-- and takes one byte at least
pub ends-pos : (s : List ℕ) (t : Option ℕ) (b : ℕ) {n : ℕ} → t ▹ byte s b ≡ Some n → 1 ≤ n
ends-pos s t b e = let g = then-inv t (byte s b) e in omega (arith, byte-inv s b g.0 g.2)

pub mark-pos : (b : ℕ) → is_mark b ≡ true → 0 < b
unfolding is_mark
mark-pos zero e = absurd (false≢true e)
mark-pos (suc b) e = omega arith

marked-within : (b : ℕ) → 0 < b → Within (marked_form b)
unfolding marked_form
marked-within b h s n e =
    let g = then-inv (Some 0 ▹ byte s b) (form s name_form) e in
    form-within name_form name-within s g.0 (ends-within s (Some 0) b h g.1) g.2

term-within : Within term_form
unfolding term_form
term-within s n = go (is_mark (get_or s 0 0)) refl
  where
    go : (t : Bool) → is_mark (get_or s 0 0) ≡ t → cond t (form s name_form 1) (name_form s) ≡ Some n → n ≤ length s
    go true h e = form-within name_form name-within s 1 (inside s 0 (get_or s 0 0) refl (mark-pos (get_or s 0 0) h)) e
    go false h e = name-within s n e

pub item-within : (k : Sort) → Within (item_form k)
unfolding item_form
item-within Name s n e = name-within s n e
item-within Variable s n e = marked-within 63 (omega arith) s n e
item-within Parameter s n e = marked-within 33 (omega arith) s n e
item-within Any s n e = term-within s n e
item-within Number s n e = number-within s n e

pub many-within : (p : List ℕ → Option ℕ) → Within p → (f : ℕ) → Within (many_form p f)
unfolding many_form
many-within p w zero s n e = absurd (refused e)
many-within p w (suc f) s n e = go (eqb (get_or s 0 0) 32) refl (many-within p w f) e
  where
    go : (t : Bool) → eqb (get_or s 0 0) 32 ≡ t → Within (many_form p f)
        → cond t (form s p 1 ▹ form s (many_form p f)) (Some 0) ≡ Some n → n ≤ length s
    go true h ih e =
        let g = then-inv (form s p 1) (form s (many_form p f)) e in
        let l = inside s 0 32 (eqb-true (get_or s 0 0) 32 h) (omega arith) in
        form-within (many_form p f) ih s g.0 (form-within p w s 1 l g.1) g.2
    go false h ih e = omega (arith, bytes_eq e)

pub plain-within : (k : Sort) → Within (plain_form k)
unfolding plain_form
plain-within k s n e = ends-within s _ 41 (omega arith) e

pub inner-within : Within inner_form
unfolding inner_form equality_form
inner-within s n = go (eqb (get_or s 0 0) 61)
  where
    go : (t : Bool) → cond t (equality_form s) (plain_form Any s) ≡ Some n → n ≤ length s
    go true e = ends-within s _ 41 (omega arith) e
    go false e = plain-within Any s n e

pub atom-within : Within atom_form
unfolding atom_form
atom-within s n e =
    let g = then-inv (Some 0 ▹ byte s 40) (form s inner_form) e in
    form-within inner_form inner-within s g.0 (ends-within s (Some 0) 40 (omega arith) g.1) g.2

pub if-within : (d : List ℕ → Option ℕ) → Within (if_form d)
unfolding if_form
if-within d s n e = ends-within s _ 41 (omega arith) e

pub diagram-within : (f depth : ℕ) → Within (diagram_form f depth)
unfolding diagram_form
diagram-within zero depth s n e = absurd (refused e)
diagram-within (suc f) depth s n e = go (eqb (get_or s 0 0) 40) refl (leb depth 62) e
  where
    go : (t : Bool) → eqb (get_or s 0 0) 40 ≡ t → (u : Bool)
        → cond t (cond u (form s (if_form (diagram_form f (depth + 1))) 1) None) (number_form s) ≡ Some n → n ≤ length s
    go true h true e =
        form-within _ (if-within (diagram_form f (depth + 1))) s 1 (inside s 0 40 (eqb-true (get_or s 0 0) 40 h) (omega arith)) e
    go true h false e = absurd (refused e)
    go false h u e = number-within s n e
