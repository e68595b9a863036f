-- The events of an accepted line, from the first word behind its key word on, are those of its tree.
use Rattle.std.specs.Prelude.{◌≡◌, refl, List, [], ◌∷◌, ◌++◌, map, Bool, true, false, ℕ, ◌+◌, ◌<◌, eqb, length, get_or, drop}
use Rattle.std.proofs.Common.{sym, ap, ◌∙◌, append_assoc, append-nil, arith, suc-add, length-append, eqb-true}
use Rattle.std.proofs.lemmas.Bool.{false≢true, lt-leb}
use Rattle.basics.specs.Tests.{and_left, and_right}
use Rattle.words.specs.Bytes.{is_letter, is_digit, is_name_byte}
use Rattle.words.specs.ByteLaws.{run_at, name-range}
use Rattle.words.specs.Keys.{key_of}
use Rattle.words.specs.Words.{IsName}
use Rattle.words.specs.WordLaws.{name-pos}
use Rattle.forms.specs.Tree.{Diagram, many_bytes, diagram_bytes, All, GoodDiagram}
use Rattle.forms.specs.Complete.{space-stops, close-stops}
use Rattle.forms.specs.declared.Sort.{Sort}
use Rattle.forms.specs.declared.Sort.TheVariants as S
use Rattle.text.specs.declared.Kind.{Kind}
use Rattle.text.specs.declared.Shape.{Shape}
use Rattle.text.specs.declared.Shape.TheVariants.{Nothing, One, Two, Listed, Paired, Drawn, Named, Headed, Never}
use Rattle.text.specs.Line.{keyword, shape_of, variable_bytes, Item, item_bytes, GoodItem, ShapeWords, shape_bytes, GoodShape, Words, words_bytes, GoodWords, line_bytes}
use Rattle.text.specs.Line.Line.{line}
use Rattle.events.specs.declared.Event.TheVariants.{Holds}
use Rattle.events.specs.Events.{first_word, name_event, variable_event, number_event, diagram_events, item_event, shape_events, words_events}
use Rattle.events.specs.Front.{space, behind, spaces, seen, is_if, atom_front, front_of, events_of}
use Rattle.events.specs.FrontLaws.{event-at, events-short}
use Rattle.events.specs.EventLaws.{unspace, past, past-drop, name-event, variable-event, parameter-event, number-event, unspace-space, unspace-close, past-space, past-close}
use Rattle.events.specs.EventLaws.{variable-events, term-events, many-events, many-stops, variable-quiet, many-spaces, holds-front, diagram-events}

-- nothing more behind the last word
none : events_of [] ≡ []
none = events-short [] (omega arith)

closed : events_of (unspace (41 ∷ [])) ≡ []
closed = ap events_of (unspace-close []) ∙ events-short (41 ∷ []) (omega arith)

unspace-none : unspace [] ≡ []
unfolding unspace space
unspace-none = refl

past-closed : events_of (past (41 ∷ [])) ≡ []
past-closed = ap events_of (past-close [] ∙ unspace-none) ∙ none

-- what stands behind a word of a line, its last one too: no byte of a name, and passing a closing bracket passes no word
record Ending (q : List ℕ) : Type 0 where
  stops : is_name_byte (get_or q 0 0) ≡ false
  some : 0 < length q
  alike : events_of (unspace q) ≡ events_of (past q)

close-ending : Ending (41 ∷ [])
close-ending = record { stops = close-stops; some = omega arith; alike = closed ∙ sym past-closed }

space-ending : (q : List ℕ) → Ending (32 ∷ q)
space-ending q = record { stops = space-stops; some = omega arith; alike = ap events_of (unspace-space q ∙ sym (past-space q)) }

many-ending : {A : Type 0} (w : A → List ℕ) (xs : List A) → Ending (many_bytes w xs ++ 41 ∷ [])
many-ending w [] = close-ending
many-ending w (x ∷ xs) = space-ending ((w x ++ many_bytes w xs) ++ 41 ∷ [])

item-events : (k : Sort) (x : Item k) (q : List ℕ) → GoodItem k x → Ending q → events_of (item_bytes k x ++ q) ≡ item_event k x ∷ events_of (past q)
item-events S.Name n q g e = name-event n q g e.stops e.some
item-events S.Variable n q g e = variable-event n q g e.stops e.some
item-events S.Parameter n q g e = parameter-event n q g e.stops e.some
item-events S.Any t q g e = term-events t q g e.stops e.some
item-events S.Number n q g e = number-event n q g e.stops e.some ∙ ap (λ es. number_event n ∷ es) e.alike

-- the last word of a line
item-last : (k : Sort) (x : Item k) → GoodItem k x → events_of (item_bytes k x ++ 41 ∷ []) ≡ item_event k x ∷ []
item-last k x g = item-events k x (41 ∷ []) g close-ending ∙ ap (λ es. item_event k x ∷ es) past-closed

-- a word, and more behind a space
item-then : (k : Sort) (x : Item k) (q : List ℕ) → GoodItem k x → events_of ((item_bytes k x ++ 32 ∷ q) ++ 41 ∷ []) ≡ item_event k x ∷ events_of (q ++ 41 ∷ [])
item-then k x q g =
    ap events_of (append_assoc (item_bytes k x) (32 ∷ q) (41 ∷ []))
    ∙ item-events k x (32 ∷ (q ++ 41 ∷ [])) g (space-ending (q ++ 41 ∷ []))
    ∙ ap (λ l. item_event k x ∷ events_of l) (past-space (q ++ 41 ∷ []))

-- the words behind a name, up to the line's end
items-last : (k : Sort) (xs : List (Item k)) → All (GoodItem k) xs → events_of (past (many_bytes (item_bytes k) xs ++ 41 ∷ [])) ≡ map (item_event k) xs
items-last k [] g = past-closed
items-last k (x ∷ xs) g =
    let W = many_bytes (item_bytes k) xs in
    ap events_of (past-space ((item_bytes k x ++ W) ++ 41 ∷ []) ∙ append_assoc (item_bytes k x) W (41 ∷ []))
    ∙ item-events k x (W ++ 41 ∷ []) g.0 (many-ending (item_bytes k) xs)
    ∙ ap (λ es. item_event k x ∷ es) (items-last k xs g.1)

listed-events : (k : Sort) (n : List ℕ) (xs : List (Item k)) → IsName n → All (GoodItem k) xs
    → events_of ((n ++ many_bytes (item_bytes k) xs) ++ 41 ∷ []) ≡ name_event n ∷ map (item_event k) xs
listed-events k n xs g h =
    let W = many_bytes (item_bytes k) xs in
    ap events_of (append_assoc n W (41 ∷ []))
    ∙ item-events S.Name n (W ++ 41 ∷ []) g (many-ending (item_bytes k) xs)
    ∙ ap (λ es. name_event n ∷ es) (items-last k xs h)

diagram-last : (d : Diagram) → GoodDiagram d → events_of (diagram_bytes d ++ 41 ∷ []) ≡ diagram_events d
diagram-last d g =
    diagram-events d (41 ∷ []) g close-stops (omega arith) ∙ ap (λ es. diagram_events d ++ es) closed ∙ append-nil (diagram_events d)

-- (p ?a ..) and a diagram: the head is no if form

name-102 : is_name_byte 102 ≡ true
unfolding is_name_byte is_letter is_digit
name-102 = refl

not-if : (p q : List ℕ) → IsName p → is_name_byte (get_or q 0 0) ≡ false → (get_or q 1 0 ≡ 40 → ⊥) → is_if (40 ∷ (p ++ q)) ≡ true → ⊥
unfolding is_if
not-if [] q g h k e = absurd (omega (arith, name-pos [] g))
not-if (a ∷ []) q g h k e =
    let e1 = and_right (eqb a 105) _ e in
    let b : get_or q 0 0 ≡ 102 = eqb-true (get_or q 0 0) 102 (and_left (eqb (get_or q 0 0) 102) _ e1) in
    false≢true (sym h ∙ ap is_name_byte b ∙ name-102)
not-if (a ∷ (b ∷ [])) q g h k e =
    let e1 = and_right (eqb a 105) _ e in
    let e2 = and_right (eqb b 102) _ e1 in
    let e3 = and_right (eqb (get_or q 0 0) 32) (eqb (get_or q 1 0) 40) e2 in
    k (eqb-true (get_or q 1 0) 40 e3)
not-if (a ∷ (b ∷ (c ∷ p))) q g h k e =
    let e1 = and_right (eqb a 105) _ e in
    let e2 = and_right (eqb b 102) _ e1 in
    let x : c ≡ 32 = eqb-true c 32 (and_left (eqb c 32) _ e2) in
    let r = name-range c (run_at is_name_byte (a ∷ (b ∷ (c ∷ p))) 2 (omega (arith, g.1))) in
    omega arith

is_false : (b : Bool) → (b ≡ true → ⊥) → b ≡ false
is_false true f = absurd (f refl)
is_false false f = refl

head-front : (p q : List ℕ) → IsName p → is_name_byte (get_or q 0 0) ≡ false → (get_or q 1 0 ≡ 40 → ⊥) → front_of (40 ∷ (p ++ q)) ≡ atom_front (40 ∷ (p ++ q)) 0
unfolding front_of is_letter is_digit
head-front p q g h k =
    rw (
      lt-leb (length (40 ∷ (p ++ q))) 1 (omega (arith, length-append p q, name-pos p g)),
      is_false (is_if (40 ∷ (p ++ q))) (not-if p q g h k),
    )

second : (vs : List (List ℕ)) (r : List ℕ) → get_or (many_bytes variable_bytes vs ++ 41 ∷ 32 ∷ r) 1 0 ≡ 40 → ⊥
second [] r e = omega arith
second (v ∷ vs) r e = omega arith

head-events : (p : List ℕ) (vs : List (List ℕ)) (r : List ℕ) → IsName p → All IsName vs
    → events_of (40 ∷ (p ++ (many_bytes variable_bytes vs ++ 41 ∷ 32 ∷ r))) ≡ Holds (key_of p) (length vs) ∷ (map variable_event vs ++ events_of r)
head-events p vs r g h =
    let q : List ℕ = many_bytes variable_bytes vs ++ 41 ∷ 32 ∷ r in
    let s : List ℕ = 40 ∷ (p ++ q) in
    event-at s (seen (Holds (key_of p) (spaces q)) (behind s (length (40 ∷ p))))
    (head-front p q g (many-stops variable_bytes vs (32 ∷ r)) (second vs r) ∙ holds-front (40 ∷ []) p q 0 refl g (many-stops variable_bytes vs (32 ∷ r))) refl
    ∙ ap (λ l. Holds (key_of p) (spaces q) ∷ events_of l) (past-drop (40 ∷ p) q)
    ∙ ap (λ k. Holds (key_of p) k ∷ events_of (past q)) (many-spaces variable_bytes IsName variable-quiet vs (32 ∷ r) h)
    ∙ ap (λ es. Holds (key_of p) (length vs) ∷ es)
    (many-events variable_bytes IsName variable_event variable-events vs (32 ∷ r) h
    ∙ ap (λ l. map variable_event vs ++ events_of l) (unspace-space r))

headed-assoc : (x v d : List ℕ) → (x ++ (v ++ 41 ∷ 32 ∷ d)) ++ 41 ∷ [] ≡ x ++ (v ++ 41 ∷ 32 ∷ (d ++ 41 ∷ []))
headed-assoc x v d = simp append_assoc

headed-events : (p : List ℕ) (vs : List (List ℕ)) (d : Diagram) → IsName p → All IsName vs → GoodDiagram d
    → events_of (40 ∷ ((p ++ (many_bytes variable_bytes vs ++ 41 ∷ 32 ∷ diagram_bytes d)) ++ 41 ∷ []))
    ≡ Holds (key_of p) (length vs) ∷ (map variable_event vs ++ diagram_events d)
headed-events p vs d g h i =
    ap (λ l. events_of (40 ∷ l)) (headed-assoc p (many_bytes variable_bytes vs) (diagram_bytes d))
    ∙ head-events p vs (diagram_bytes d ++ 41 ∷ []) g h
    ∙ ap (λ es. Holds (key_of p) (length vs) ∷ (map variable_event vs ++ es)) (diagram-last d i)

pub shape-events : (h : Shape) (w : ShapeWords h) → GoodShape h w → events_of (drop 1 (shape_bytes h w ++ 41 ∷ [])) ≡ shape_events h w
shape-events Nothing w g = none
shape-events (One k) x g = item-last k x g
shape-events (Two k l) w g = item-then k w.0 (item_bytes l w.1) g.0 ∙ ap (λ es. item_event k w.0 ∷ es) (item-last l w.1 g.1)
shape-events (Listed k) w g = listed-events k w.0 w.1 g.0 g.1
shape-events (Paired k) w g =
    item-then S.Name w.0 (w.1 ++ many_bytes (item_bytes k) w.2) g.0 ∙ ap (λ es. name_event w.0 ∷ es) (listed-events k w.1 w.2 g.1 g.2)
shape-events Drawn d g = diagram-last d g
shape-events Named w g = item-then S.Name w.0 (diagram_bytes w.1) g.0 ∙ ap (λ es. name_event w.0 ∷ es) (diagram-last w.1 g.1)
shape-events Headed w g = headed-events w.0 w.1 w.2 g.0 g.1 g.2
shape-events Never w g = absurd w

-- behind the bracket, the key word and a space
behind-keyword : (b : ℕ) (a l : List ℕ) → drop (length a + 2) (b ∷ (a ++ l)) ≡ drop 1 l
behind-keyword b [] l = refl
behind-keyword b (x ∷ a) l = rw suc-add (behind-keyword x a l)

pub line-events : (k : Kind) (w : Words k) → GoodWords k w → events_of (drop (first_word k) (line_bytes (line k w))) ≡ words_events k w
line-events k w g = ap events_of (behind-keyword 40 (keyword k) (words_bytes k w ++ 41 ∷ [])) ∙ shape-events (shape_of k) w g
