-- 'line feed at the end': what a well-formed diagram or line writes has none inside, so it is one line of every text that it stands in (document 01, section 'Text').
use Rattle.std.specs.Prelude.{◌≡◌, Bool, not, ◌&&◌, eqb}
use Rattle.std.proofs.Math.Path.{refl}
use Rattle.std.proofs.Common.{sym, ap, true≢false, arith, ne_eqb}
use Rattle.std.proofs.Math.Bool.{true, false, cond}
use mathlib.Core.List.{List, [], ◌∷◌, ◌++◌}
use Prim.Native.Nat.{ℕ, suc}
use Rattle.std.proofs.Math.ListN.{length}
use Rattle.words.specs.Bytes.{is_digit, is_name_byte, run}
use Rattle.words.specs.ByteLaws.{digit-range, name-range}
use Rattle.words.specs.Words.{IsName, IsNumber}
use Rattle.forms.specs.declared.Sort.{Sort}
use Rattle.forms.specs.declared.Sort.TheVariants.{Name, Variable, Parameter, Any, Number}
use Rattle.forms.specs.Tree.{Term, Atom, Diagram, many_bytes, term_bytes, atom_bytes, diagram_bytes, All, GoodTerm, GoodAtom, GoodDiagram}
use Rattle.forms.specs.Tree.Mark.{plain, variable, parameter, minimum}
use Rattle.forms.specs.Tree.Term.{term}
use Rattle.forms.specs.Tree.Atom.{equal, holds}
use Rattle.forms.specs.Tree.Diagram.{number, branch}
use Rattle.text.specs.declared.Shape.{Shape}
use Rattle.text.specs.declared.Shape.TheVariants.{Nothing, One, Two, Listed, Paired, Drawn, Named, Headed, Never}
use Rattle.text.specs.declared.Kind.{Kind}
use Rattle.text.specs.declared.Kind.TheVariants as K
use Rattle.text.specs.Line.{keyword, shape_of, variable_bytes, Item, item_bytes, GoodItem, ShapeWords, shape_bytes, GoodShape, Line, line_bytes, GoodLine}
use Rattle.text.specs.Line.Line.{line}
use Rattle.session.specs.Texts.{line_feed, Lines, behind_byte, lines_of}

-- ===== Bytes without a line feed =====

-- no byte of these is a line feed
abbrev is_unbroken : List ℕ → Bool
is_unbroken [] = true
is_unbroken (b ∷ s) = not (eqb b line_feed) && is_unbroken s

abbrev Unbroken : List ℕ → Type 0
Unbroken s = is_unbroken s ≡ true

unbroken-then : (s t : List ℕ) → Unbroken s → Unbroken t → Unbroken (s ++ t)
unbroken-then [] t g h = h
unbroken-then (b ∷ s) t g h = go (not (eqb b line_feed)) g (λ k. unbroken-then s t k h)
  where
    go : (x : Bool) → (x && is_unbroken s) ≡ true → (Unbroken s → Unbroken (s ++ t)) → (x && is_unbroken (s ++ t)) ≡ true
    go true g ih = ih g
    go false g ih = g

-- they are the first line of what they stand at the front of
first-line : (s t : List ℕ) → Unbroken s → lines_of (s ++ line_feed ∷ t) ≡ record { whole = s ∷ (lines_of t).whole; rest = (lines_of t).rest }
unfolding lines_of
first-line [] t g = refl
first-line (b ∷ s) t g = go (eqb b line_feed) g (first-line s t)
  where
    go : (x : Bool) → (not x && is_unbroken s) ≡ true
        → (Unbroken s → lines_of (s ++ line_feed ∷ t) ≡ record { whole = s ∷ (lines_of t).whole; rest = (lines_of t).rest })
        → cond x (record { whole = [] ∷ (lines_of (s ++ line_feed ∷ t)).whole; rest = (lines_of (s ++ line_feed ∷ t)).rest })
        (behind_byte b (lines_of (s ++ line_feed ∷ t)).whole (lines_of (s ++ line_feed ∷ t)).rest)
        ≡ record { whole = (b ∷ s) ∷ (lines_of t).whole; rest = (lines_of t).rest }
    go true g ih = absurd (true≢false (sym g))
    go false g ih = ap (λ (ls : Lines). behind_byte b ls.whole ls.rest) (ih g)

-- ===== Words =====

-- bytes of one kind, which a line feed is not of
module _ (p : ℕ → Bool) (never : (b : ℕ) → p b ≡ true → eqb b line_feed ≡ false) where
  run-unbroken : (s : List ℕ) → run p s ≡ length s → Unbroken s
  unfolding run
  run-unbroken [] e = refl
  run-unbroken (b ∷ s) e = go (p b) refl e (run-unbroken s)
    where
      go : (t : Bool) → p b ≡ t → cond t (suc (run p s)) 0 ≡ suc (length s) → (run p s ≡ length s → Unbroken s) → Unbroken (b ∷ s)
      go true q e ih = rw (never b q) (ih (omega arith))
      go false q e ih = absurd (omega arith)

name-unbroken : (n : List ℕ) → IsName n → Unbroken n
name-unbroken n g = run-unbroken is_name_byte (λ b e. ne_eqb b line_feed (λ q. omega (arith, name-range b e))) n g.1

number-unbroken : (n : List ℕ) → IsNumber n → Unbroken n
number-unbroken n g = run-unbroken is_digit (λ b e. ne_eqb b line_feed (λ q. omega (arith, digit-range b e))) n g.1

many-unbroken : {A : Type 0} (write : A → List ℕ) (G : A → Type 0) → ((x : A) → G x → Unbroken (write x)) → (xs : List A) → All G xs → Unbroken (many_bytes write xs)
many-unbroken write G each [] g = refl
many-unbroken write G each (x ∷ xs) g = unbroken-then (write x) (many_bytes write xs) (each x g.0) (many-unbroken write G each xs g.1)

-- ===== Diagrams =====

term-unbroken : (t : Term) → GoodTerm t → Unbroken (term_bytes t)
term-unbroken (term plain n) g = name-unbroken n g
term-unbroken (term variable n) g = name-unbroken n g
term-unbroken (term parameter n) g = name-unbroken n g
term-unbroken (term minimum n) g = name-unbroken n g

atom-unbroken : (a : Atom) → GoodAtom a → Unbroken (atom_bytes a)
atom-unbroken (equal a b) g =
    let behind = unbroken-then (term_bytes b) (41 ∷ []) (term-unbroken b g.1) refl in
    unbroken-then (term_bytes a) (32 ∷ (term_bytes b ++ 41 ∷ [])) (term-unbroken a g.0) behind
atom-unbroken (holds p ts) g =
    let behind = unbroken-then (many_bytes term_bytes ts) (41 ∷ []) (many-unbroken term_bytes GoodTerm term-unbroken ts g.1) refl in
    unbroken-then p (many_bytes term_bytes ts ++ 41 ∷ []) (name-unbroken p g.0) behind

diagram-unbroken : (d : Diagram) → GoodDiagram d → Unbroken (diagram_bytes d)
diagram-unbroken (number n) g = number-unbroken n g
diagram-unbroken (branch a d e) g =
    let last = unbroken-then (diagram_bytes e) (41 ∷ []) (diagram-unbroken e g.2) refl in
    let parts = unbroken-then (diagram_bytes d) (32 ∷ (diagram_bytes e ++ 41 ∷ [])) (diagram-unbroken d g.1) last in
    unbroken-then (atom_bytes a) (32 ∷ (diagram_bytes d ++ 32 ∷ (diagram_bytes e ++ 41 ∷ []))) (atom-unbroken a g.0) parts

-- the form of a diagram is one line
pub diagram-whole : (d : Diagram) → GoodDiagram d → (s : List ℕ)
    → lines_of (diagram_bytes d ++ line_feed ∷ s) ≡ record { whole = diagram_bytes d ∷ (lines_of s).whole; rest = (lines_of s).rest }
diagram-whole d g s = first-line (diagram_bytes d) s (diagram-unbroken d g)

-- ===== Lines =====

item-unbroken : (k : Sort) (x : Item k) → GoodItem k x → Unbroken (item_bytes k x)
item-unbroken Name x g = name-unbroken x g
item-unbroken Variable x g = name-unbroken x g
item-unbroken Parameter x g = name-unbroken x g
item-unbroken Any x g = term-unbroken x g
item-unbroken Number x g = number-unbroken x g

listed-unbroken : (k : Sort) (n : List ℕ) (xs : List (Item k)) → IsName n → All (GoodItem k) xs → Unbroken (n ++ many_bytes (item_bytes k) xs)
listed-unbroken k n xs g h =
    unbroken-then n (many_bytes (item_bytes k) xs) (name-unbroken n g) (many-unbroken (item_bytes k) (GoodItem k) (item-unbroken k) xs h)

shape-unbroken : (h : Shape) (w : ShapeWords h) → GoodShape h w → Unbroken (shape_bytes h w)
shape-unbroken Nothing w g = refl
shape-unbroken (One k) x g = item-unbroken k x g
shape-unbroken (Two k l) w g =
    unbroken-then (item_bytes k w.0) (32 ∷ item_bytes l w.1) (item-unbroken k w.0 g.0) (item-unbroken l w.1 g.1)
shape-unbroken (Listed k) w g = listed-unbroken k w.0 w.1 g.0 g.1
shape-unbroken (Paired k) w g =
    unbroken-then w.0 (32 ∷ (w.1 ++ many_bytes (item_bytes k) w.2)) (name-unbroken w.0 g.0) (listed-unbroken k w.1 w.2 g.1 g.2)
shape-unbroken Drawn d g = diagram-unbroken d g
shape-unbroken Named w g = unbroken-then w.0 (32 ∷ diagram_bytes w.1) (name-unbroken w.0 g.0) (diagram-unbroken w.1 g.1)
shape-unbroken Headed w g =
    let head = many-unbroken variable_bytes IsName (λ x h. name-unbroken x h) w.1 g.1 in
    let behind = unbroken-then (many_bytes variable_bytes w.1) (41 ∷ 32 ∷ diagram_bytes w.2) head (diagram-unbroken w.2 g.2) in
    unbroken-then w.0 (many_bytes variable_bytes w.1 ++ 41 ∷ 32 ∷ diagram_bytes w.2) (name-unbroken w.0 g.0) behind
shape-unbroken Never w g = absurd w

keyword-unbroken : (k : Kind) → Unbroken (keyword k)
keyword-unbroken K.Constant = refl
keyword-unbroken K.Predicate = refl
keyword-unbroken K.Total = refl
keyword-unbroken K.Discount = refl
keyword-unbroken K.Reward = refl
keyword-unbroken K.Action = refl
keyword-unbroken K.Variant = refl
keyword-unbroken K.Becomes = refl
keyword-unbroken K.Start = refl
keyword-unbroken K.Objects = refl
keyword-unbroken K.Is = refl
keyword-unbroken K.True = refl
keyword-unbroken K.Value = refl
keyword-unbroken K.Backup = refl
keyword-unbroken K.Cut = refl
keyword-unbroken K.Show = refl
keyword-unbroken K.Reduce = refl
keyword-unbroken K.Text = refl
keyword-unbroken K.Best = refl
keyword-unbroken K.Count = refl
keyword-unbroken K.Did = refl
keyword-unbroken K.Bad = refl

-- a line is one line, whatever stands behind its line feed
pub line-whole : (l : Line) → GoodLine l → (s : List ℕ)
    → lines_of (line_bytes l ++ line_feed ∷ s) ≡ record { whole = line_bytes l ∷ (lines_of s).whole; rest = (lines_of s).rest }
line-whole (line k w) g s =
    let words = unbroken-then (shape_bytes (shape_of k) w) (41 ∷ []) (shape-unbroken (shape_of k) w g.0) refl in
    first-line (line_bytes (line k w)) s (unbroken-then (keyword k) (shape_bytes (shape_of k) w ++ 41 ∷ []) (keyword-unbroken k) words)
