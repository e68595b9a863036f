-- What a reader accepts is a well-formed tree, written out.
use Rattle.std.specs.Prelude.{◌≡◌, refl, List, [], ◌∷◌, ◌++◌, Bool, true, false, cond, ◌||◌, ℕ, zero, suc, ◌+◌, ◌-◌, ◌≤◌, ◌<◌, leb, eqb, length, get_or, take, drop}
use Rattle.std.proofs.Common.{sym, ap, ◌∙◌, append_assoc, add-one, arith, take-suc, take-add, eqb-true, leb-true}
use Rattle.words.specs.Inner.{name_form}
use Rattle.words.specs.Words.{IsName, IsNumber, number_form}
use Rattle.words.specs.ByteLaws.{inside}
use Rattle.words.specs.WordLaws.{refused, bytes_eq, name-sound, number-sound}
use Rattle.forms.specs.declared.Sort.{Sort}
use Rattle.forms.specs.declared.Sort.TheVariants.{Name, Variable, Parameter, Any, Number}
use Rattle.forms.specs.Form.{◌▹◌, byte, form, marked_form, is_mark, term_form, item_form, many_form, equality_form, plain_form, inner_form, atom_form, head_form, if_form, diagram_form}
use Rattle.forms.specs.Tree.{Atom, Diagram, many_bytes, term_bytes, atom_bytes, diagram_bytes, All, GoodTerm, GoodAtom, GoodDiagram, brackets}
use Rattle.forms.specs.Tree.Mark.{plain, variable, parameter, minimum}
use Rattle.forms.specs.Tree.Term.{term}
use Rattle.forms.specs.Tree.Atom.{equal, holds}
use Rattle.forms.specs.Tree.Diagram.{number, branch}
use Rattle.forms.specs.FormLaws.{then-inv, byte-inv, form-inv}
use Rattle.std.specs.Prelude.{None, Option, Some}

byte_step : (s : List ℕ) (i b n : ℕ) → get_or s i 0 ≡ b → n ≡ i + 1 → i < length s → take n s ≡ take i s ++ (b ∷ [])
byte_step s i b n e h l = rw (h, add-one, take-suc s i 0 l, e)

form-step : (s : List ℕ) (i m n : ℕ) → n ≡ i + m → take n s ≡ take i s ++ take m (drop i s)
form-step s i m n h = rw h (take-add i m s)

-- a sequence that ends in a byte: what was taken before, and the byte
pub seq-byte : (s : List ℕ) (t : Option ℕ) (b : ℕ) {n : ℕ} → 0 < b → t ▹ byte s b ≡ Some n
    → (i : ℕ) × (t ≡ Some i) × (take n s ≡ take i s ++ (b ∷ []))
seq-byte s t b {n} h e =
    let g = then-inv t (byte s b) e in
    let l = byte-inv s b g.0 g.2 in
    (g.0, g.1, byte_step s g.0 b n l.0 l.1 (inside s g.0 b l.0 h))

-- a sequence that ends in a form: what was taken before, and what the form took
pub seq-form : (s : List ℕ) (t : Option ℕ) (p : List ℕ → Option ℕ) {n : ℕ} → t ▹ form s p ≡ Some n
    → (i : ℕ) × (t ≡ Some i) × (m : ℕ) × (p (drop i s) ≡ Some m) × (take n s ≡ take i s ++ take m (drop i s))
seq-form s t p {n} e =
    let g = then-inv t (form s p) e in
    let l = form-inv s p g.0 g.2 in
    (g.0, g.1, l.0, l.1, form-step s g.0 l.0 n l.2)

-- before the first byte nothing is taken
pub start : (s : List ℕ) {i : ℕ} → Some 0 ≡ Some i → take i s ≡ []
start s e = ap (λ k. take k s) (sym (bytes_eq e))

-- a form behind one byte
pub after-byte : (s : List ℕ) (p : List ℕ → Option ℕ) (b : ℕ) {n : ℕ} → get_or s 0 0 ≡ b → 0 < b → form s p 1 ≡ Some n
    → (m : ℕ) × (p (drop 1 s) ≡ Some m) × (take n s ≡ b ∷ take m (drop 1 s))
after-byte s p b {n} h l e =
    let g = form-inv s p 1 e in
    (g.0, g.1, form-step s 1 g.0 n g.2 ∙ ap (λ x. x ++ take g.0 (drop 1 s)) (byte_step s 0 b 1 h refl (inside s 0 b h l)))

-- the bytes l are what w writes of some good x
abbrev pub WrittenBy : {A : Type 0} → (A → List ℕ) → (A → Type 0) → List ℕ → Type 0
WrittenBy {A} w G l = (x : A) × G x × (l ≡ w x)

-- a reader accepts only what w writes
abbrev pub SoundFor : {A : Type 0} → (A → List ℕ) → (A → Type 0) → (List ℕ → Option ℕ) → Type 0
SoundFor w G p = (s : List ℕ) (n : ℕ) → p s ≡ Some n → WrittenBy w G (take n s)

pub name-sounds : SoundFor (λ n. n) IsName (item_form Name)
unfolding item_form
name-sounds s n e = (take n s, name-sound s e, refl)

pub number-sounds : SoundFor (λ n. n) IsNumber (item_form Number)
unfolding item_form
number-sounds s n e = (take n s, number-sound s e, refl)

marked-sound : (b : ℕ) → 0 < b → SoundFor (λ n. b ∷ n) IsName (marked_form b)
unfolding marked_form
marked-sound b h s n e =
    let p2 = seq-form s _ name_form e in
    let p1 = seq-byte s (Some 0) b h p2.1 in
    let p0 = start s p1.1 in
    (take p2.2 (drop p2.0 s), name-sound (drop p2.0 s) p2.3, cc)

pub variable-sounds : SoundFor (λ n. 63 ∷ n) IsName (item_form Variable)
unfolding item_form
variable-sounds s n e = marked-sound 63 (omega arith) s n e

pub parameter-sounds : SoundFor (λ n. 33 ∷ n) IsName (item_form Parameter)
unfolding item_form
parameter-sounds s n e = marked-sound 33 (omega arith) s n e

pub term-sounds : SoundFor term_bytes GoodTerm (item_form Any)
unfolding item_form term_form is_mark
term-sounds s n = go (eqb (get_or s 0 0) 63) (eqb (get_or s 0 0) 33) (eqb (get_or s 0 0) 37) refl refl refl
  where
    go : (t u v : Bool) → eqb (get_or s 0 0) 63 ≡ t → eqb (get_or s 0 0) 33 ≡ u → eqb (get_or s 0 0) 37 ≡ v
        → cond (t || (u || v)) (form s name_form 1) (name_form s) ≡ Some n → WrittenBy term_bytes GoodTerm (take n s)
    go true u v h k l e =
        let g = after-byte s name_form 63 (eqb-true (get_or s 0 0) 63 h) (omega arith) e in
        (term variable (take g.0 (drop 1 s)), name-sound (drop 1 s) g.1, g.2)
    go false true v h k l e =
        let g = after-byte s name_form 33 (eqb-true (get_or s 0 0) 33 k) (omega arith) e in
        (term parameter (take g.0 (drop 1 s)), name-sound (drop 1 s) g.1, g.2)
    go false false true h k l e =
        let g = after-byte s name_form 37 (eqb-true (get_or s 0 0) 37 l) (omega arith) e in
        (term minimum (take g.0 (drop 1 s)), name-sound (drop 1 s) g.1, g.2)
    go false false false h k l e = (term plain (take n s), name-sound s e, refl)

pub many-sounds : {A : Type 0} (w : A → List ℕ) (G : A → Type 0) (p : List ℕ → Option ℕ) → SoundFor w G p
    → (f : ℕ) → SoundFor (many_bytes w) (All G) (many_form p f)
unfolding many_form
many-sounds w G p d zero s n e = absurd (refused e)
many-sounds w G p d (suc f) s n e = go (eqb (get_or s 0 0) 32) refl (many-sounds w G p d f) e
  where
    go : (t : Bool) → eqb (get_or s 0 0) 32 ≡ t → SoundFor (many_bytes w) (All G) (many_form p f)
        → cond t (form s p 1 ▹ form s (many_form p f)) (Some 0) ≡ Some n → WrittenBy (many_bytes w) (All G) (take n s)
    go true h ih e =
        let g = seq-form s (form s p 1) (many_form p f) e in
        let b = after-byte s p 32 (eqb-true (get_or s 0 0) 32 h) (omega arith) g.1 in
        let x = d (drop 1 s) b.0 b.1 in
        let y = ih (drop g.0 s) g.2 g.3 in
        (x.0 ∷ y.0, (x.1, y.1), g.4 ∙ cc)
    go false h ih e = ([], tt, ap (λ k. take k s) (sym (bytes_eq e)))

pub equal-shape : (a b : List ℕ) → ((((([] ++ (61 ∷ [])) ++ (32 ∷ [])) ++ a) ++ (32 ∷ [])) ++ b) ++ (41 ∷ []) ≡ 61 ∷ 32 ∷ (a ++ 32 ∷ (b ++ 41 ∷ []))
equal-shape a b = simp append_assoc

-- the atom whose inside, behind the bracket, is l
abbrev InnerOf : List ℕ → Type 0
InnerOf l = (a : Atom) × GoodAtom a × (40 ∷ l ≡ atom_bytes a)

equality-sound : (s : List ℕ) {n : ℕ} → equality_form s ≡ Some n → InnerOf (take n s)
unfolding equality_form
equality-sound s e =
    let p6 = seq-byte s _ 41 (omega arith) e in
    let p5 = seq-form s _ (item_form Any) p6.1 in
    let p4 = seq-byte s _ 32 (omega arith) p5.1 in
    let p3 = seq-form s _ (item_form Any) p4.1 in
    let p2 = seq-byte s _ 32 (omega arith) p3.1 in
    let p1 = seq-byte s (Some 0) 61 (omega arith) p2.1 in
    let p0 = start s p1.1 in
    let x = term-sounds (drop p3.0 s) p3.2 p3.3 in
    let y = term-sounds (drop p5.0 s) p5.2 p5.3 in
    (equal x.0 y.0, (x.1, y.1), cc (equal-shape (term_bytes x.0) (term_bytes y.0)))

-- a name and words behind it, up to the closing bracket
pub plain-sound : {A : Type 0} (w : A → List ℕ) (G : A → Type 0) (k : Sort) → SoundFor w G (item_form k)
    → (s : List ℕ) (n : ℕ) → plain_form k s ≡ Some n
    → (p : List ℕ) × (xs : List A) × IsName p × All G xs × (take n s ≡ p ++ (many_bytes w xs ++ 41 ∷ []))
unfolding plain_form
plain-sound w G k d s n e =
    let p3 = seq-byte s _ 41 (omega arith) e in
    let p2 = seq-form s (name_form s) (many_form (item_form k) (length s + 1)) p3.1 in
    let y = many-sounds w G (item_form k) d (length s + 1) (drop p2.0 s) p2.2 p2.3 in
    (take p2.0 s, y.0, name-sound s p2.1, y.1, cc (append_assoc (take p2.0 s) (many_bytes w y.0) (41 ∷ [])))

inner-sound : (s : List ℕ) {n : ℕ} → inner_form s ≡ Some n → InnerOf (take n s)
unfolding inner_form
inner-sound s {n} = go (eqb (get_or s 0 0) 61)
  where
    go : (t : Bool) → cond t (equality_form s) (plain_form Any s) ≡ Some n → InnerOf (take n s)
    go true e = equality-sound s e
    go false e = let x = plain-sound term_bytes GoodTerm Any term-sounds s n e in (holds x.0 x.1, (x.2, x.3), cc)

pub atom-sounds : SoundFor atom_bytes GoodAtom atom_form
unfolding atom_form
atom-sounds s n e =
    let p2 = seq-form s _ inner_form e in
    let p1 = seq-byte s (Some 0) 40 (omega arith) p2.1 in
    let p0 = start s p1.1 in
    let x = inner-sound (drop p2.0 s) p2.3 in
    (x.0, x.1, cc)

-- a diagram with at most k brackets open together
abbrev pub DiagramOf : ℕ → List ℕ → Type 0
DiagramOf k l = (d : Diagram) × GoodDiagram d × (brackets d ≤ k) × (l ≡ diagram_bytes d)

pub head-shape : (a : List ℕ) → (((([] ++ (105 ∷ [])) ++ (102 ∷ [])) ++ (32 ∷ [])) ++ a) ++ (32 ∷ []) ≡ 105 ∷ 102 ∷ 32 ∷ (a ++ 32 ∷ [])
head-shape a = simp append_assoc

head-sound : (s : List ℕ) {n : ℕ} → head_form s ≡ Some n
    → (a : Atom) × GoodAtom a × (take n s ≡ 105 ∷ 102 ∷ 32 ∷ (atom_bytes a ++ 32 ∷ []))
unfolding head_form
head-sound s e =
    let p5 = seq-byte s _ 32 (omega arith) e in
    let p4 = seq-form s _ atom_form p5.1 in
    let p3 = seq-byte s _ 32 (omega arith) p4.1 in
    let p2 = seq-byte s _ 102 (omega arith) p3.1 in
    let p1 = seq-byte s (Some 0) 105 (omega arith) p2.1 in
    let p0 = start s p1.1 in
    let x = atom-sounds (drop p4.0 s) p4.2 p4.3 in
    (x.0, x.1, cc (head-shape (atom_bytes x.0)))

-- the pieces of an if form, put together
pub tail-shape : (h d e : List ℕ) → (((h ++ d) ++ (32 ∷ [])) ++ e) ++ (41 ∷ []) ≡ h ++ (d ++ 32 ∷ (e ++ 41 ∷ []))
tail-shape h d e = simp append_assoc

pub head_tail : (a z : List ℕ) → (105 ∷ 102 ∷ 32 ∷ (a ++ 32 ∷ [])) ++ z ≡ 105 ∷ 102 ∷ 32 ∷ (a ++ 32 ∷ z)
head_tail a z = ap (λ l. 105 ∷ 102 ∷ 32 ∷ l) (append_assoc a (32 ∷ []) z)

glue : (a : List ℕ) {w9 w8 w7 w6 w5 x y d e : List ℕ} → w9 ≡ w8 ++ (41 ∷ []) → w8 ≡ w7 ++ y → w7 ≡ w6 ++ (32 ∷ []) → w6 ≡ w5 ++ x
    → w5 ≡ 105 ∷ 102 ∷ 32 ∷ (a ++ 32 ∷ []) → x ≡ d → y ≡ e
    → 40 ∷ w9 ≡ 40 ∷ 105 ∷ 102 ∷ 32 ∷ (a ++ 32 ∷ (d ++ 32 ∷ (e ++ 41 ∷ [])))
glue a {d} {e} p9 p8 p7 p6 p5 px py =
    let h : List ℕ = 105 ∷ 102 ∷ 32 ∷ (a ++ 32 ∷ []) in
    cc (tail-shape h d e, head_tail a (d ++ 32 ∷ (e ++ 41 ∷ [])))

-- the diagram of an if form, where d is sound for diagrams with at most k brackets
if-sound : (d : List ℕ → Option ℕ) (k : ℕ) → 1 ≤ k → ((u : List ℕ) (m : ℕ) → d u ≡ Some m → DiagramOf k (take m u))
    → (s : List ℕ) (n : ℕ) → if_form d s ≡ Some n → DiagramOf (k + 1) (40 ∷ take n s)
unfolding if_form
if-sound d k h ds s n e =
    let p9 = seq-byte s _ 41 (omega arith) e in
    let p8 = seq-form s _ d p9.1 in
    let p7 = seq-byte s _ 32 (omega arith) p8.1 in
    let p6 = seq-form s (head_form s) d p7.1 in
    let x = head-sound s p6.1 in
    let y = ds (drop p6.0 s) p6.2 p6.3 in
    let z = ds (drop p8.0 s) p8.2 p8.3 in (
      branch x.0 y.0 z.0,
      (x.1, y.1, z.1),
      omega (arith, y.2, z.2),
      glue (atom_bytes x.0) p9.2 p8.4 p7.2 p6.4 x.2 y.3 z.3,
    )

pub diagram-sound : (f depth : ℕ) (s : List ℕ) (n : ℕ) → diagram_form f depth s ≡ Some n → DiagramOf (64 - depth) (take n s)
unfolding diagram_form
diagram-sound zero depth s n e = absurd (refused e)
diagram-sound (suc f) depth s n e = go (eqb (get_or s 0 0) 40) refl (leb depth 62) refl (diagram-sound f (depth + 1)) e
  where
    go : (t : Bool) → eqb (get_or s 0 0) 40 ≡ t → (u : Bool) → leb depth 62 ≡ u
        → ((u : List ℕ) (m : ℕ) → diagram_form f (depth + 1) u ≡ Some m → DiagramOf (64 - (depth + 1)) (take m u))
        → cond t (cond u (form s (if_form (diagram_form f (depth + 1))) 1) None) (number_form s) ≡ Some n
        → DiagramOf (64 - depth) (take n s)
    go true h true k ih e =
        let l = leb-true depth 62 k in
        let g = after-byte s (if_form (diagram_form f (depth + 1))) 40 (eqb-true (get_or s 0 0) 40 h) (omega arith) e in
        let x = if-sound (diagram_form f (depth + 1)) (64 - (depth + 1)) (omega arith) ih (drop 1 s) g.0 g.1 in
        (x.0, x.1, omega (arith, x.2), g.2 ∙ x.3)
    go true h false k ih e = absurd (refused e)
    go false h u k ih e = (number (take n s), number-sound s e, omega arith, refl)
