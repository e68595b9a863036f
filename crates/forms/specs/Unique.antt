-- Two well-formed trees that are written as the same bytes are the same tree.
use Rattle.std.specs.Prelude.{◌≡◌, refl, List, [], ◌∷◌, ◌++◌, false, ℕ, suc, ◌≤◌, ◌<◌, length, get_or, take, drop}
use Rattle.std.proofs.Common.{sym, ap, ap₂, ◌∙◌, append_assoc, append-nil, arith, take_at, drop_at}
use Rattle.std.proofs.lemmas.Bool.{eqb-false}
use Rattle.words.specs.Bytes.{is_name_byte}
use Rattle.words.specs.Inner.{name_form}
use Rattle.words.specs.Words.{IsName, IsNumber}
use Rattle.words.specs.WordLaws.{bytes_eq, name-complete, name-first}
use Rattle.forms.specs.declared.Sort.TheVariants.{Any}
use Rattle.forms.specs.Form.{item_form, atom_form, diagram_form}
use Rattle.forms.specs.Tree.{Term, Atom, Diagram, many_bytes, term_bytes, atom_bytes, diagram_bytes, All, GoodTerm, GoodAtom, GoodDiagram, brackets}
use Rattle.forms.specs.Tree.Mark.{plain, variable, parameter, minimum}
use Rattle.forms.specs.Tree.Term.{term}
use Rattle.forms.specs.Tree.Atom.{equal, holds}
use Rattle.forms.specs.Tree.Diagram.{number, branch}
use Rattle.forms.specs.Complete.{CompleteFor, space-stops, close-stops, many-stops, term-completes, atom-complete, if-assoc, digit-first, diagram-complete}
use Rattle.std.specs.Prelude.{Option, Some}

-- one reader, the same bytes: it takes the same from both
pub split : (p : List ℕ → Option ℕ) (A B X Y : List ℕ) → A ++ X ≡ B ++ Y → p (A ++ X) ≡ Some (length A) → p (B ++ Y) ≡ Some (length B)
    → (A ≡ B) × (X ≡ Y)
split p A B X Y e a b =
    let l : length B ≡ length A = bytes_eq (sym b ∙ ap p (sym e) ∙ a) in (
      sym (take_at A X (length A) refl) ∙ ap (take (length A)) e ∙ take_at B Y (length A) l,
      sym (drop_at A X (length A) refl) ∙ ap (drop (length A)) e ∙ drop_at B Y (length A) l,
    )

pub cons_tail : (a : ℕ) (x y : List ℕ) → a ∷ x ≡ a ∷ y → x ≡ y
cons_tail a x y e = cc

pub cons_head : (a b : ℕ) (x y : List ℕ) → a ∷ x ≡ b ∷ y → a ≡ b
cons_head a b x y e = cc

-- a name begins with no mark
no_name : (n : List ℕ) (b : ℕ) (m : List ℕ) → b < 97 → IsName n → n ++ [] ≡ b ∷ m → ⊥
no_name n b m h g e = let f = name-first n [] g in let z : get_or (n ++ []) 0 0 ≡ b = ap (λ l. get_or l 0 0) e in omega arith

pub term-unique : (t u : Term) → GoodTerm t → GoodTerm u → term_bytes t ≡ term_bytes u → t ≡ u
term-unique (term plain n) (term plain m) g h e = ap (term plain) e
term-unique (term plain n) (term variable m) g h e = absurd (no_name n 63 m (omega arith) g (append-nil n ∙ e))
term-unique (term plain n) (term parameter m) g h e = absurd (no_name n 33 m (omega arith) g (append-nil n ∙ e))
term-unique (term plain n) (term minimum m) g h e = absurd (no_name n 37 m (omega arith) g (append-nil n ∙ e))
term-unique (term variable n) (term plain m) g h e = absurd (no_name m 63 n (omega arith) h (append-nil m ∙ sym e))
term-unique (term variable n) (term variable m) g h e = ap (term variable) (cons_tail 63 n m e)
term-unique (term variable n) (term parameter m) g h e = absurd (omega (arith, cons_head 63 33 n m e))
term-unique (term variable n) (term minimum m) g h e = absurd (omega (arith, cons_head 63 37 n m e))
term-unique (term parameter n) (term plain m) g h e = absurd (no_name m 33 n (omega arith) h (append-nil m ∙ sym e))
term-unique (term parameter n) (term variable m) g h e = absurd (omega (arith, cons_head 33 63 n m e))
term-unique (term parameter n) (term parameter m) g h e = ap (term parameter) (cons_tail 33 n m e)
term-unique (term parameter n) (term minimum m) g h e = absurd (omega (arith, cons_head 33 37 n m e))
term-unique (term minimum n) (term plain m) g h e = absurd (no_name m 37 n (omega arith) h (append-nil m ∙ sym e))
term-unique (term minimum n) (term variable m) g h e = absurd (omega (arith, cons_head 37 63 n m e))
term-unique (term minimum n) (term parameter m) g h e = absurd (omega (arith, cons_head 37 33 n m e))
term-unique (term minimum n) (term minimum m) g h e = ap (term minimum) (cons_tail 37 n m e)

-- what w writes is written of one thing only
abbrev pub UniqueFor : {A : Type 0} → (A → List ℕ) → (A → Type 0) → Type 0
UniqueFor {A} w G = (x y : A) → G x → G y → w x ≡ w y → x ≡ y

module _ {A : Type 0} (w : A → List ℕ) (G : A → Type 0) (p : List ℕ → Option ℕ) (d : CompleteFor w G p) (o : UniqueFor w G) where
  pub many-unique : (xs ys : List A) (q r : List ℕ) → All G xs → All G ys
      → many_bytes w xs ++ (41 ∷ q) ≡ many_bytes w ys ++ (41 ∷ r) → (xs ≡ ys) × (q ≡ r)
  many-unique [] [] q r g h e = (refl, cons_tail 41 q r e)
  many-unique [] (y ∷ ys) q r g h e = absurd (omega (arith, cons_head 41 32 _ _ e))
  many-unique (x ∷ xs) [] q r g h e = absurd (omega (arith, cons_head 32 41 _ _ e))
  many-unique (x ∷ xs) (y ∷ ys) q r g h e =
      let X : List ℕ = many_bytes w xs ++ (41 ∷ q) in
      let Y : List ℕ = many_bytes w ys ++ (41 ∷ r) in
      let z : w x ++ X ≡ w y ++ Y =
      sym (append_assoc (w x) (many_bytes w xs) (41 ∷ q)) ∙ cons_tail 32 _ _ e ∙ append_assoc (w y) (many_bytes w ys) (41 ∷ r) in
      let s = split p (w x) (w y) X Y z (d x X g.0 (many-stops w G p d xs q)) (d y Y h.0 (many-stops w G p d ys r)) in
      let t = many-unique xs ys q r g.1 h.1 s.1 in
      (ap₂ (λ x y. x ∷ y) (o x y g.0 h.0 s.0) t.0, t.1)

  -- a name and words behind it
  pub plain-unique : (n m : List ℕ) (xs ys : List A) (q r : List ℕ) → IsName n → IsName m → All G xs → All G ys
      → n ++ (many_bytes w xs ++ 41 ∷ q) ≡ m ++ (many_bytes w ys ++ 41 ∷ r) → (n ≡ m) × (xs ≡ ys) × (q ≡ r)
  plain-unique n m xs ys q r gn gm g h e =
      let s = split name_form n m _ _ e
      (name-complete n _ gn (many-stops w G p d xs q)) (name-complete m _ gm (many-stops w G p d ys r)) in
      let t = many-unique xs ys q r g h s.1 in
      (s.0, t.0, t.1)

no-equals : (p q m : List ℕ) → IsName p → p ++ q ≡ 61 ∷ m → ⊥
no-equals p q m g e = let f = name-first p q g in let z : get_or (p ++ q) 0 0 ≡ 61 = ap (λ l. get_or l 0 0) e in omega arith

pub atom-unique : (a b : Atom) → GoodAtom a → GoodAtom b → atom_bytes a ≡ atom_bytes b → a ≡ b
atom-unique (equal x y) (equal v w) g h e =
    let z = cons_tail 32 _ _ (cons_tail 61 _ _ (cons_tail 40 _ _ e)) in
    let s = split (item_form Any) (term_bytes x) (term_bytes v) (32 ∷ (term_bytes y ++ 41 ∷ [])) (32 ∷ (term_bytes w ++ 41 ∷ [])) z
    (term-completes x _ g.0 space-stops) (term-completes v _ h.0 space-stops) in
    let s2 = split (item_form Any) (term_bytes y) (term_bytes w) (41 ∷ []) (41 ∷ []) (cons_tail 32 _ _ s.1)
    (term-completes y _ g.1 close-stops) (term-completes w _ h.1 close-stops) in
    ap₂ equal (term-unique x v g.0 h.0 s.0) (term-unique y w g.1 h.1 s2.0)
atom-unique (equal x y) (holds p ts) g h e = absurd (no-equals p (many_bytes term_bytes ts ++ 41 ∷ []) _ h.0 (sym (cons_tail 40 _ _ e)))
atom-unique (holds p ts) (equal x y) g h e = absurd (no-equals p (many_bytes term_bytes ts ++ 41 ∷ []) _ g.0 (cons_tail 40 _ _ e))
atom-unique (holds p ts) (holds r us) g h e =
    let s = plain-unique term_bytes GoodTerm (item_form Any) term-completes term-unique p r ts us [] [] g.0 h.0 g.1 h.1 (cons_tail 40 _ _ e) in
    ap₂ holds s.0 s.1

-- two diagrams at the front of the same bytes are written alike, and the same is left
pub diagram-split : (d e : Diagram) (q r : List ℕ) → GoodDiagram d → GoodDiagram e → brackets d ≤ 64 → brackets e ≤ 64
    → is_name_byte (get_or q 0 0) ≡ false → is_name_byte (get_or r 0 0) ≡ false → diagram_bytes d ++ q ≡ diagram_bytes e ++ r
    → (diagram_bytes d ≡ diagram_bytes e) × (q ≡ r)
diagram-split d e q r g h k l x y z =
    let f = suc (length (diagram_bytes d ++ q)) in
    split (diagram_form f 0) (diagram_bytes d) (diagram_bytes e) q r z
    (diagram-complete d f 0 q g (omega arith) x (omega arith))
    (diagram-complete e f 0 r h (omega arith) y (omega (arith, ap length z)))

no_number : (n q m : List ℕ) → IsNumber n → n ++ q ≡ 40 ∷ m → ⊥
no_number n q m g e = eqb-false (get_or (n ++ q) 0 0) 40 (digit-first n q g) (ap (λ l. get_or l 0 0) e)

pub diagram-unique : (d e : Diagram) (q r : List ℕ) → GoodDiagram d → GoodDiagram e → brackets d ≤ 64 → brackets e ≤ 64
    → is_name_byte (get_or q 0 0) ≡ false → is_name_byte (get_or r 0 0) ≡ false → diagram_bytes d ++ q ≡ diagram_bytes e ++ r → d ≡ e
diagram-unique (number n) (number m) q r g h k l x y z = ap number (diagram-split (number n) (number m) q r g h k l x y z).0
diagram-unique (number n) (branch a d e) q r g h k l x y z = absurd (no_number n q _ g z)
diagram-unique (branch a d e) (number n) q r g h k l x y z = absurd (no_number n r _ h (sym z))
diagram-unique (branch a d e) (branch b u v) q r g h k l x y z =
    let X : List ℕ = diagram_bytes e ++ 41 ∷ q in
    let Y : List ℕ = diagram_bytes v ++ 41 ∷ r in
    let P : List ℕ = diagram_bytes d ++ 32 ∷ X in
    let Q : List ℕ = diagram_bytes u ++ 32 ∷ Y in
    let i : atom_bytes a ++ 32 ∷ P ≡ atom_bytes b ++ 32 ∷ Q =
    sym (if-assoc (atom_bytes a) (diagram_bytes d) (diagram_bytes e) q)
    ∙ cons_tail 32 _ _ (cons_tail 102 _ _ (cons_tail 105 _ _ (cons_tail 40 _ _ z)))
    ∙ if-assoc (atom_bytes b) (diagram_bytes u) (diagram_bytes v) r in
    let s = split atom_form (atom_bytes a) (atom_bytes b) (32 ∷ P) (32 ∷ Q) i (atom-complete a _ g.0) (atom-complete b _ h.0) in
    let j : P ≡ Q = cons_tail 32 P Q s.1 in
    let w = diagram-split d u (32 ∷ X) (32 ∷ Y) g.1 h.1 (omega arith) (omega arith) space-stops space-stops j in
    let m : X ≡ Y = cons_tail 32 X Y w.1 in
    let da : a ≡ b = atom-unique a b g.0 h.0 s.0 in
    let du : d ≡ u = diagram-unique d u (32 ∷ X) (32 ∷ Y) g.1 h.1 (omega arith) (omega arith) space-stops space-stops j in
    let ev : e ≡ v = diagram-unique e v (41 ∷ q) (41 ∷ r) g.2 h.2 (omega arith) (omega arith) close-stops close-stops m in
    λ i. branch (da i) (du i) (ev i)
