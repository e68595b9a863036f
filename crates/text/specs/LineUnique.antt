-- Two well-formed lines that are written as the same bytes are the same line.
use Rattle.std.specs.Prelude.{◌≡◌, refl, List, [], ◌∷◌, ◌++◌, ℕ, ◌≤◌, length, drop}
use Rattle.std.proofs.Common.{sym, ap, ◌∙◌, subst, append_assoc, arith, drop_at}
use Rattle.words.specs.Words.{IsName}
use Rattle.forms.specs.declared.Sort.{Sort}
use Rattle.forms.specs.declared.Sort.TheVariants.{Name, Variable, Parameter, Any, Number}
use Rattle.forms.specs.Form.{item_form}
use Rattle.forms.specs.Tree.{Diagram, many_bytes, diagram_bytes, All, GoodDiagram, brackets}
use Rattle.forms.specs.Complete.{space-stops, close-stops}
use Rattle.forms.specs.Unique.{UniqueFor, split, cons_tail, term-unique, plain-unique, diagram-unique}
use Rattle.text.specs.declared.Shape.{Shape}
use Rattle.text.specs.declared.Shape.TheVariants.{Nothing, One, Two, Listed, Paired, Drawn, Named, Headed, Never}
use Rattle.text.specs.declared.Kind.{Kind}
use Rattle.text.specs.Line.{most_open_brackets, keyword, shape_of, variable_bytes, Item, item_bytes, GoodItem, ShapeWords, shape_bytes, GoodShape}
use Rattle.text.specs.Line.{shape_brackets, Words, words_bytes, Line, line_bytes, GoodLine, IsLine}
use Rattle.text.specs.Line.Line.{line}
use Rattle.text.specs.LineForm.{line_kind}
use Rattle.text.specs.ShapeLaws.{item-complete}
use Rattle.text.specs.LineLaws.{line-complete, line-sound}

-- no two words of a sort are written alike
item-unique : (k : Sort) → UniqueFor (item_bytes k) (GoodItem k)
item-unique Name x y g h e = e
item-unique Variable x y g h e = cons_tail 63 x y e
item-unique Parameter x y g h e = cons_tail 33 x y e
item-unique Any x y g h e = term-unique x y g h e
item-unique Number x y g h e = e

-- a word of one sort at the front of the same bytes
one-unique : (k : Sort) (x y : Item k) → GoodItem k x → GoodItem k y
    → 32 ∷ (item_bytes k x ++ 41 ∷ []) ≡ 32 ∷ (item_bytes k y ++ 41 ∷ []) → x ≡ y
one-unique k x y g h e =
    item-unique k x y g h
    (split (item_form k) (item_bytes k x) (item_bytes k y) (41 ∷ []) (41 ∷ []) (cons_tail 32 _ _ e)
    (item-complete k x (41 ∷ []) g close-stops) (item-complete k y (41 ∷ []) h close-stops)).0

two-apart : (x y z : List ℕ) → 32 ∷ ((x ++ 32 ∷ y) ++ z) ≡ 32 ∷ (x ++ 32 ∷ (y ++ z))
two-apart x y z = ap (λ l. 32 ∷ l) (append_assoc x (32 ∷ y) z)

-- a word, and what stands behind it
first-unique : (k : Sort) (x y : Item k) (u v : List ℕ) → GoodItem k x → GoodItem k y
    → 32 ∷ ((item_bytes k x ++ 32 ∷ u) ++ 41 ∷ []) ≡ 32 ∷ ((item_bytes k y ++ 32 ∷ v) ++ 41 ∷ []) → (x ≡ y) × (u ++ 41 ∷ [] ≡ v ++ 41 ∷ [])
first-unique k x y u v g h e =
    let X = item_bytes k x in
    let Y = item_bytes k y in
    let s = split (item_form k) X Y (32 ∷ (u ++ 41 ∷ [])) (32 ∷ (v ++ 41 ∷ []))
    (cons_tail 32 _ _ (sym (two-apart X u (41 ∷ [])) ∙ e ∙ two-apart Y v (41 ∷ [])))
    (item-complete k x (32 ∷ (u ++ 41 ∷ [])) g space-stops) (item-complete k y (32 ∷ (v ++ 41 ∷ [])) h space-stops) in
    (item-unique k x y g h s.0, cons_tail 32 _ _ s.1)

-- a name and words up to the closing bracket
listed-unique : (k : Sort) (x y : List ℕ) (xs ys : List (Item k)) → IsName x → IsName y → All (GoodItem k) xs → All (GoodItem k) ys
    → (x ++ many_bytes (item_bytes k) xs) ++ 41 ∷ [] ≡ (y ++ many_bytes (item_bytes k) ys) ++ 41 ∷ [] → (x ≡ y) × (xs ≡ ys)
listed-unique k x y xs ys g h i j e =
    let z = sym (append_assoc x (many_bytes (item_bytes k) xs) (41 ∷ [])) ∙ e ∙ append_assoc y (many_bytes (item_bytes k) ys) (41 ∷ []) in
    let s = plain-unique (item_bytes k) (GoodItem k) (item_form k) (item-complete k) (item-unique k) x y xs ys [] [] g h i j z in
    (s.0, s.1)

drawn-unique : (d e : Diagram) → GoodDiagram d → GoodDiagram e → brackets d ≤ 63 → brackets e ≤ 63
    → diagram_bytes d ++ 41 ∷ [] ≡ diagram_bytes e ++ 41 ∷ [] → d ≡ e
drawn-unique d e g h k l z = diagram-unique d e (41 ∷ []) (41 ∷ []) g h (omega arith) (omega arith) close-stops close-stops z

headed-apart : (x v d : List ℕ) → (x ++ (v ++ 41 ∷ 32 ∷ d)) ++ 41 ∷ [] ≡ x ++ (v ++ 41 ∷ 32 ∷ (d ++ 41 ∷ []))
headed-apart x v d = simp append_assoc

shape-unique : (h : Shape) (v w : ShapeWords h) → GoodShape h v → GoodShape h w → shape_brackets h v ≤ most_open_brackets → shape_brackets h w ≤ most_open_brackets
    → shape_bytes h v ++ 41 ∷ [] ≡ shape_bytes h w ++ 41 ∷ [] → v ≡ w
shape-unique Nothing v w g h k l e = refl
shape-unique (One j) v w g h k l e = one-unique j v w g h e
shape-unique (Two i j) v w g h k l e =
    let s = first-unique i v.0 w.0 (item_bytes j v.1) (item_bytes j w.1) g.0 h.0 e in
    let x : v.0 ≡ w.0 = s.0 in
    let y : v.1 ≡ w.1 = one-unique j v.1 w.1 g.1 h.1 (ap (λ l. 32 ∷ l) s.1) in
    λ i. (x i, y i)
shape-unique (Listed j) v w g h k l e =
    let s = listed-unique j v.0 w.0 v.1 w.1 g.0 h.0 g.1 h.1 (cons_tail 32 _ _ e) in
    let x : v.0 ≡ w.0 = s.0 in
    let y : v.1 ≡ w.1 = s.1 in
    λ i. (x i, y i)
shape-unique (Paired j) v w g h k l e =
    let s = first-unique Name v.0 w.0 (v.1 ++ many_bytes (item_bytes j) v.2) (w.1 ++ many_bytes (item_bytes j) w.2) g.0 h.0 e in
    let t = listed-unique j v.1 w.1 v.2 w.2 g.1 h.1 g.2 h.2 s.1 in
    let x : v.0 ≡ w.0 = s.0 in
    let y : v.1 ≡ w.1 = t.0 in
    let z : v.2 ≡ w.2 = t.1 in
    λ i. (x i, y i, z i)
shape-unique Drawn v w g h k l e = drawn-unique v w g h (omega arith) (omega arith) (cons_tail 32 _ _ e)
shape-unique Named v w g h k l e =
    let s = first-unique Name v.0 w.0 (diagram_bytes v.1) (diagram_bytes w.1) g.0 h.0 e in
    let x : v.0 ≡ w.0 = s.0 in
    let y : v.1 ≡ w.1 = drawn-unique v.1 w.1 g.1 h.1 (omega arith) (omega arith) s.1 in
    λ i. (x i, y i)
shape-unique Headed v w g h k l e =
    let z = sym (headed-apart v.0 (many_bytes variable_bytes v.1) (diagram_bytes v.2))
    ∙ cons_tail 40 _ _ (cons_tail 32 _ _ e)
    ∙ headed-apart w.0 (many_bytes variable_bytes w.1) (diagram_bytes w.2) in
    let s = plain-unique variable_bytes IsName (item_form Variable) (item-complete Variable) (item-unique Variable)
    v.0 w.0 v.1 w.1 (32 ∷ (diagram_bytes v.2 ++ 41 ∷ [])) (32 ∷ (diagram_bytes w.2 ++ 41 ∷ [])) g.0 h.0 g.1 h.1 z in
    let x : v.0 ≡ w.0 = s.0 in
    let y : v.1 ≡ w.1 = s.1 in
    let d : v.2 ≡ w.2 = drawn-unique v.2 w.2 g.2 h.2 (omega arith) (omega arith) (cons_tail 32 _ _ s.2) in
    λ i. (x i, y i, d i)
shape-unique Never v w g h k l e = absurd v

append_left : (a x y : List ℕ) → a ++ x ≡ a ++ y → x ≡ y
append_left a x y e = sym (drop_at a x (length a) refl) ∙ ap (drop (length a)) e ∙ drop_at a y (length a) refl

pub line-unique : (l m : Line) → GoodLine l → GoodLine m → line_bytes l ≡ line_bytes m → l ≡ m
line-unique (line k v) (line j w) g h e =
    subst (λ (j : Kind). (w : Words j) → GoodLine (line j w) → line_bytes (line k v) ≡ line_bytes (line j w) → line k v ≡ line j w)
    (sym (line-complete (line k v) g) ∙ ap line_kind e ∙ line-complete (line j w) h)
    (λ w h e. ap (line k)
    (shape-unique (shape_of k) v w g.0 h.0 g.1 h.1 (append_left (keyword k) (words_bytes k v ++ 41 ∷ []) (words_bytes k w ++ 41 ∷ []) (cons_tail 40 _ _ e))))
    w h e

-- the reader's answer is exact
pub line-exact : (s : List ℕ) → IsLine s (line_kind s)
line-exact s = record {
  written = λ h. line-sound s (line_kind s) refl h;
  only = λ l g e. sym (line-complete l g) ∙ ap line_kind (sym e);
}

pub line-answer : (s : List ℕ) (k : Kind) → k ≡ line_kind s → (k ≡ line_kind s) × IsLine s k
line-answer s k e = (e, subst (IsLine s) (sym e) (line-exact s))
