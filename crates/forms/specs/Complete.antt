-- Each well-formed tree, written out, is accepted by its reader, whole.
use Rattle.std.specs.Prelude.{◌≡◌, Bool, true, false, ◌||◌, eqb, get_or}
use Rattle.std.proofs.Math.Path.{refl, ap}
use Rattle.std.proofs.Common.{sym, ◌∙◌, one-add, arith, eq-eqb, ne_eqb, le-leb}
use mathlib.Core.List.{List, [], ◌∷◌, ◌++◌, append_assoc}
use Prim.Native.Nat.{ℕ, zero, suc, ◌+◌, ◌-◌, ◌≤◌, ◌<◌}
use Rattle.std.proofs.Math.ListN.{length, length-append}
use Rattle.std.proofs.Math.Seq.{get_or-append_seam, drop-append_seam}
use Rattle.words.specs.Bytes.{is_digit, is_name_byte, is_letter}
use Rattle.words.specs.Inner.{name_form}
use Rattle.words.specs.Words.{IsName, IsNumber}
use Rattle.words.specs.WordLaws.{name-complete, number-complete, name-first, number-first}
use Rattle.forms.specs.declared.Sort.{Sort}
use Rattle.forms.specs.declared.Sort.TheVariants.{Name, Variable, Parameter, Any, Number}
use Rattle.forms.specs.Form.{◌▹◌, byte, form, marked_form, is_mark, term_form, item_form, many_form, equality_form, plain_form, inner_form, atom_form, head_form, if_form, diagram_form}
use Rattle.forms.specs.Tree.{Term, Atom, Diagram, many_bytes, term_bytes, atom_bytes, diagram_bytes, All, GoodTerm, GoodAtom, GoodDiagram, brackets}
use Rattle.forms.specs.Tree.Mark.{plain, variable, parameter, minimum}
use Rattle.forms.specs.Tree.Term.{term}
use Rattle.forms.specs.Tree.Atom.{equal, holds}
use Rattle.forms.specs.Tree.Diagram.{number, branch}
use Rattle.forms.specs.Sound.{equal-shape, head-shape, tail-shape, head_tail}
use Rattle.std.specs.Prelude.{Option, Some}

-- t has taken P of the bytes s, and Q is left
pub record At (s : List ℕ) (t : Option ℕ) (P Q : List ℕ) : Type 0 where
  pub bytes : s ≡ P ++ Q
  pub took : t ≡ Some (length P)

pub at-start : (s : List ℕ) → At s (Some 0) [] s
at-start s = record { bytes = refl; took = refl }

byte-there : (s P Q : List ℕ) (b : ℕ) → s ≡ P ++ (b ∷ Q) → byte s b (length P) ≡ Some (length (P ++ (b ∷ [])))
unfolding byte
byte-there s P Q b h = rw (h, get_or-append_seam P b Q 0, eq-eqb b b refl, length-append P (b ∷ []))

pub at_byte : {s P Q : List ℕ} {b : ℕ} {t : Option ℕ} → At s t P (b ∷ Q) → At s (t ▹ byte s b) (P ++ (b ∷ [])) Q
unfolding ◌▹◌
at_byte {s} {P} {Q} {b} a =
    record { bytes = a.bytes ∙ sym (append_assoc P (b ∷ []) Q); took = rw a.took (byte-there s P Q b a.bytes) }

form-there : (s P X Q : List ℕ) (p : List ℕ → Option ℕ) → s ≡ P ++ (X ++ Q) → p (X ++ Q) ≡ Some (length X)
    → form s p (length P) ≡ Some (length (P ++ X))
unfolding form ◌▹◌
form-there s P X Q p h e = rw (h, drop-append_seam P (X ++ Q), e, length-append P X)

pub at-form : {s P : List ℕ} {t : Option ℕ} (p : List ℕ → Option ℕ) (X Q : List ℕ) → At s t P (X ++ Q) → p (X ++ Q) ≡ Some (length X)
    → At s (t ▹ form s p) (P ++ X) Q
unfolding ◌▹◌
at-form {s} {P} p X Q a e =
    record { bytes = a.bytes ∙ sym (append_assoc P X Q); took = rw a.took (form-there s P X Q p a.bytes e) }

-- a space or a closing bracket ends a word
pub space-stops : is_name_byte 32 ≡ false
unfolding is_name_byte is_letter is_digit
space-stops = refl

pub close-stops : is_name_byte 41 ≡ false
unfolding is_name_byte is_letter is_digit
close-stops = refl

pub no-name-no-digit : (b : ℕ) → is_name_byte b ≡ false → is_digit b ≡ false
unfolding is_name_byte
no-name-no-digit b = go (is_letter b) (is_digit b)
  where
    go : (x y : Bool) → (x || y) ≡ false → y ≡ false
    go true true e = e
    go true false e = refl
    go false y e = e

-- the reader takes what w writes, where the bytes go on with no byte of a name
abbrev pub CompleteFor : {A : Type 0} → (A → List ℕ) → (A → Type 0) → (List ℕ → Option ℕ) → Type 0
CompleteFor {A} w G p = (x : A) (q : List ℕ) → G x → is_name_byte (get_or q 0 0) ≡ false → p (w x ++ q) ≡ Some (length (w x))

pub name-completes : CompleteFor (λ n. n) IsName (item_form Name)
unfolding item_form
name-completes n q g h = name-complete n q g h

pub number-completes : CompleteFor (λ n. n) IsNumber (item_form Number)
unfolding item_form
number-completes n q g h = number-complete n q g (no-name-no-digit (get_or q 0 0) h)

marked-complete : (b : ℕ) (n q : List ℕ) → IsName n → is_name_byte (get_or q 0 0) ≡ false → marked_form b (b ∷ (n ++ q)) ≡ Some (suc (length n))
unfolding marked_form
marked-complete b n q g h =
    (at-form name_form n q (at_byte (at-start (b ∷ (n ++ q)))) (name-complete n q g h)).took

pub variable-completes : CompleteFor (λ n. 63 ∷ n) IsName (item_form Variable)
unfolding item_form
variable-completes n q g h = marked-complete 63 n q g h

pub parameter-completes : CompleteFor (λ n. 33 ∷ n) IsName (item_form Parameter)
unfolding item_form
parameter-completes n q g h = marked-complete 33 n q g h

letter-no-mark : (b : ℕ) → 97 ≤ b → is_mark b ≡ false
unfolding is_mark
letter-no-mark b h = rw (ne_eqb b 63 (λ x. omega arith), ne_eqb b 33 (λ x. omega arith), ne_eqb b 37 (λ x. omega arith))

plain-term : (n q : List ℕ) → IsName n → is_name_byte (get_or q 0 0) ≡ false → term_form (n ++ q) ≡ Some (length n)
unfolding term_form
plain-term n q g h = rw (letter-no-mark (get_or (n ++ q) 0 0) (name-first n q g).0) (name-complete n q g h)

pub term-completes : CompleteFor term_bytes GoodTerm (item_form Any)
unfolding item_form term_form is_mark form ◌▹◌
term-completes (term plain n) q g h = plain-term n q g h
term-completes (term variable n) q g h = rw (name-complete n q g h, one-add)
term-completes (term parameter n) q g h = rw (name-complete n q g h, one-add)
term-completes (term minimum n) q g h = rw (name-complete n q g h, one-add)

module _ {A : Type 0} (w : A → List ℕ) (G : A → Type 0) (p : List ℕ → Option ℕ) (d : CompleteFor w G p) where
  pub many-stops : (xs : List A) (q : List ℕ) → is_name_byte (get_or (many_bytes w xs ++ (41 ∷ q)) 0 0) ≡ false
  many-stops [] q = close-stops
  many-stops (x ∷ xs) q = space-stops

  pub many-complete : (xs : List A) (q : List ℕ) (f : ℕ) → All G xs → length (many_bytes w xs ++ (41 ∷ q)) < f
      → many_form p f (many_bytes w xs ++ (41 ∷ q)) ≡ Some (length (many_bytes w xs))
  unfolding many_form ◌▹◌
  many-complete [] q zero g h = absurd (omega arith)
  many-complete [] q (suc f) g h = refl
  many-complete (x ∷ xs) q zero g h = absurd (omega arith)
  many-complete (x ∷ xs) q (suc f) g h =
      let s : List ℕ = 32 ∷ ((w x ++ many_bytes w xs) ++ (41 ∷ q)) in
      let Q : List ℕ = many_bytes w xs ++ (41 ∷ q) in
      let a0 : At s (Some 1) (32 ∷ []) (w x ++ Q) =
      record { bytes = ap (λ l. 32 ∷ l) (append_assoc (w x) (many_bytes w xs) (41 ∷ q)); took = refl } in
      let a1 = at-form p (w x) Q a0 (d x Q g.0 (many-stops xs q)) in
      let l : length Q < f = omega (arith, ap length a1.bytes, length-append (32 ∷ w x) Q) in
      (at-form (many_form p f) (many_bytes w xs) (41 ∷ q) a1 (many-complete xs q f g.1 l)).took

-- a name and words behind it
pub plain-complete : {A : Type 0} (w : A → List ℕ) (G : A → Type 0) (k : Sort) → CompleteFor w G (item_form k)
    → (p : List ℕ) (xs : List A) (q : List ℕ) → IsName p → All G xs
    → plain_form k (p ++ (many_bytes w xs ++ 41 ∷ q)) ≡ Some (length (p ++ (many_bytes w xs ++ 41 ∷ [])))
unfolding plain_form
plain-complete w G k d p xs q gp gt =
    let T = many_bytes w xs in
    let s = p ++ (T ++ 41 ∷ q) in
    let a0 : At s (name_form s) p (T ++ 41 ∷ q) =
    record { bytes = refl; took = name-complete p (T ++ 41 ∷ q) gp (many-stops w G (item_form k) d xs q) } in
    let l : length (T ++ 41 ∷ q) < length s + 1 = omega (arith, length-append p (T ++ 41 ∷ q)) in
    let a2 = at_byte (at-form (many_form (item_form k) (length s + 1)) T (41 ∷ q) a0 (many-complete w G (item_form k) d xs q (length s + 1) gt l)) in
    a2.took ∙ ap (λ l. Some (length l)) (append_assoc p T (41 ∷ []))

equality-complete : (a b : Term) (q : List ℕ) → GoodTerm a → GoodTerm b
    → let l : List ℕ = 61 ∷ 32 ∷ (term_bytes a ++ 32 ∷ (term_bytes b ++ 41 ∷ q)) in
    equality_form l ≡ Some (length (61 ∷ 32 ∷ (term_bytes a ++ 32 ∷ (term_bytes b ++ 41 ∷ []))))
unfolding equality_form
equality-complete a b q ga gb =
    let A = term_bytes a in
    let B = term_bytes b in
    let s : List ℕ = 61 ∷ 32 ∷ (A ++ 32 ∷ (B ++ 41 ∷ q)) in
    let a2 = at_byte (at_byte (at-start s)) in
    let a4 = at_byte (at-form (item_form Any) A (32 ∷ (B ++ 41 ∷ q)) a2 (term-completes a _ ga space-stops)) in
    let a6 = at_byte (at-form (item_form Any) B (41 ∷ q) a4 (term-completes b _ gb close-stops)) in
    a6.took ∙ ap (λ l. Some (length l)) (equal-shape A B)

-- the bytes of an atom behind its first bracket
inside_of : Atom → List ℕ
inside_of (equal a b) = 61 ∷ 32 ∷ (term_bytes a ++ 32 ∷ (term_bytes b ++ 41 ∷ []))
inside_of (holds p ts) = p ++ (many_bytes term_bytes ts ++ 41 ∷ [])

no-equals : (p q : List ℕ) → IsName p → eqb (get_or (p ++ q) 0 0) 61 ≡ false
no-equals p q g = let h = name-first p q g in ne_eqb (get_or (p ++ q) 0 0) 61 (λ x. omega arith)

inner-complete : (a : Atom) (q : List ℕ) → GoodAtom a → inner_form (inside_of a ++ q) ≡ Some (length (inside_of a))
unfolding inner_form inside_of
inner-complete (equal a b) q g =
    rw (append_assoc (term_bytes a) (32 ∷ (term_bytes b ++ 41 ∷ [])) q, append_assoc (term_bytes b) (41 ∷ []) q)
    (equality-complete a b q g.0 g.1)
inner-complete (holds p ts) q g =
    rw (
      append_assoc p (many_bytes term_bytes ts ++ 41 ∷ []) q,
      append_assoc (many_bytes term_bytes ts) (41 ∷ []) q,
      no-equals p (many_bytes term_bytes ts ++ 41 ∷ q) g.0,
    )
    (plain-complete term_bytes GoodTerm Any term-completes p ts q g.0 g.1)

atom-is : (a : Atom) → atom_bytes a ≡ 40 ∷ inside_of a
unfolding inside_of
atom-is (equal a b) = refl
atom-is (holds p ts) = refl

pub atom-complete : (a : Atom) (q : List ℕ) → GoodAtom a → atom_form (atom_bytes a ++ q) ≡ Some (length (atom_bytes a))
unfolding atom_form
atom-complete a q g =
    let s : List ℕ = 40 ∷ (inside_of a ++ q) in
    rw (atom-is a) (at-form inner_form (inside_of a) q (at_byte (at-start s)) (inner-complete a q g)).took

-- a list at the end of an if form's bytes goes to the end of its last piece
pub if-assoc : (a d e q : List ℕ) → (a ++ 32 ∷ (d ++ 32 ∷ (e ++ 41 ∷ []))) ++ q ≡ a ++ 32 ∷ (d ++ 32 ∷ (e ++ 41 ∷ q))
if-assoc a d e q =
    append_assoc a (32 ∷ (d ++ 32 ∷ (e ++ 41 ∷ []))) q
    ∙ ap (λ l. a ++ 32 ∷ l) (append_assoc d (32 ∷ (e ++ 41 ∷ [])) q ∙ ap (λ l. d ++ 32 ∷ l) (append_assoc e (41 ∷ []) q))

if-complete : (d : List ℕ → Option ℕ) (a : Atom) (D E q : List ℕ) → GoodAtom a
    → d (D ++ 32 ∷ (E ++ 41 ∷ q)) ≡ Some (length D) → d (E ++ 41 ∷ q) ≡ Some (length E)
    → if_form d (105 ∷ 102 ∷ 32 ∷ (atom_bytes a ++ 32 ∷ (D ++ 32 ∷ (E ++ 41 ∷ q))))
    ≡ Some (length (105 ∷ 102 ∷ 32 ∷ (atom_bytes a ++ 32 ∷ (D ++ 32 ∷ (E ++ 41 ∷ [])))))
unfolding if_form head_form
if-complete d a D E q g x y =
    let A = atom_bytes a in
    let s : List ℕ = 105 ∷ 102 ∷ 32 ∷ (A ++ 32 ∷ (D ++ 32 ∷ (E ++ 41 ∷ q))) in
    let Z : List ℕ = D ++ 32 ∷ (E ++ 41 ∷ []) in
    let a0 = at-start s in
    let a5 = at_byte (at-form atom_form A (32 ∷ (D ++ 32 ∷ (E ++ 41 ∷ q))) (at_byte (at_byte (at_byte a0))) (atom-complete a _ g)) in
    let a7 = at_byte (at-form d D (32 ∷ (E ++ 41 ∷ q)) a5 x) in
    let a9 = at_byte (at-form d E (41 ∷ q) a7 y) in
    let H : List ℕ = (((([] ++ (105 ∷ [])) ++ (102 ∷ [])) ++ (32 ∷ [])) ++ A) ++ (32 ∷ []) in
    a9.took ∙ ap (λ l. Some (length l)) (tail-shape H D E ∙ ap (λ h. h ++ Z) (head-shape A) ∙ head_tail A Z)

pub digit-first : (n q : List ℕ) → IsNumber n → eqb (get_or (n ++ q) 0 0) 40 ≡ false
digit-first n q g = let h = number-first n q g in ne_eqb (get_or (n ++ q) 0 0) 40 (λ x. omega arith)

number-there : (n q : List ℕ) (f depth : ℕ) → IsNumber n → is_name_byte (get_or q 0 0) ≡ false → diagram_form (suc f) depth (n ++ q) ≡ Some (length n)
unfolding diagram_form
number-there n q f depth g h = rw (digit-first n q g) (number-complete n q g (no-name-no-digit (get_or q 0 0) h))

branch-there : (a : Atom) (D E q : List ℕ) (f depth : ℕ) → GoodAtom a → depth ≤ 62
    → diagram_form f (depth + 1) (D ++ 32 ∷ (E ++ 41 ∷ q)) ≡ Some (length D)
    → diagram_form f (depth + 1) (E ++ 41 ∷ q) ≡ Some (length E)
    → diagram_form (suc f) depth (40 ∷ 105 ∷ 102 ∷ 32 ∷ (atom_bytes a ++ 32 ∷ (D ++ 32 ∷ (E ++ 41 ∷ q))))
    ≡ Some (length (40 ∷ 105 ∷ 102 ∷ 32 ∷ (atom_bytes a ++ 32 ∷ (D ++ 32 ∷ (E ++ 41 ∷ [])))))
unfolding diagram_form form ◌▹◌
branch-there a D E q f depth g l x y =
    rw (le-leb depth 62 l, if-complete (diagram_form f (depth + 1)) a D E q g x y) (ap Some (one-add _))

pub diagram-complete : (d : Diagram) (f depth : ℕ) (q : List ℕ) → GoodDiagram d → brackets d ≤ 64 - depth → is_name_byte (get_or q 0 0) ≡ false
    → length (diagram_bytes d ++ q) < f → diagram_form f depth (diagram_bytes d ++ q) ≡ Some (length (diagram_bytes d))
diagram-complete (number n) zero depth q g k h l = absurd (omega arith)
diagram-complete (number n) (suc f) depth q g k h l = number-there n q f depth g h
diagram-complete (branch a d e) zero depth q g k h l = absurd (omega arith)
diagram-complete (branch a d e) (suc f) depth q g k h l =
    let A = atom_bytes a in
    let D = diagram_bytes d in
    let E = diagram_bytes e in
    let z = if-assoc A D E q in
    let m = ap length z in
    let r = length-append A (32 ∷ (D ++ 32 ∷ (E ++ 41 ∷ q))) in
    let t = length-append D (32 ∷ (E ++ 41 ∷ q)) in
    rw z
    (branch-there a D E q f depth g.0 (omega arith)
    (diagram-complete d f (depth + 1) (32 ∷ (E ++ 41 ∷ q)) g.1 (omega arith) space-stops (omega arith))
    (diagram-complete e f (depth + 1) (41 ∷ q) g.2 (omega arith) close-stops (omega arith)))
