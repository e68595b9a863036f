-- The events of the bytes of a well-formed line are those of its tree, in order.
use Rattle.std.specs.Prelude.{◌≡◌, refl, List, [], ◌∷◌, ◌++◌, map, Bool, true, false, cond, ℕ, zero, suc, ◌+◌, ◌≤◌, ◌<◌, leb, eqb, length, get_or, drop}
use Rattle.std.proofs.Common.{ap, ◌∙◌, append_assoc, arith, zero-add, one-add, length-append, take_at, ne_eqb, le-leb}
use Rattle.std.proofs.Math.ListN.{get_or-append}
use Rattle.std.proofs.Math.Seq.{get_or-append_seam, drop-append_seam}
use Rattle.std.proofs.lemmas.Bool.{lt-leb}
use Rattle.words.specs.Bytes.{is_letter, is_digit, is_name_byte}
use Rattle.words.specs.ByteLaws.{run-append, run_at, name-range}
use Rattle.words.specs.Keys.{key_of}
use Rattle.words.specs.Words.{IsName, IsNumber}
use Rattle.words.specs.WordLaws.{name-pos, name-first, number-first}
use Rattle.forms.specs.Tree.{Term, Atom, Diagram, many_bytes, term_bytes, atom_bytes, diagram_bytes, All, GoodTerm, GoodAtom, GoodDiagram}
use Rattle.forms.specs.Tree.Mark.{plain, variable, parameter, minimum}
use Rattle.forms.specs.Tree.Term.{term}
use Rattle.forms.specs.Tree.Atom.{equal, holds}
use Rattle.forms.specs.Tree.Diagram.{number, branch}
use Rattle.forms.specs.Complete.{space-stops, close-stops, no-name-no-digit, if-assoc}
use Rattle.text.specs.Line.{variable_bytes, parameter_bytes}
use Rattle.events.specs.declared.Event.{Event}
use Rattle.events.specs.declared.Event.TheVariants.{Equal, Holds, Step}
use Rattle.events.specs.Events.{name_event, variable_event, parameter_event, minimum_event, number_event, term_event, atom_events, diagram_events}
use Rattle.events.specs.Front.{space, behind, space_bit, spaces, seen, name_key, word_at, is_if, atom_front, number_front, front_of, is_end, events_of}
use Rattle.events.specs.FrontLaws.{event-at}

-- what is left behind a number or a step, and behind a name
unfoldable pub unspace : List ℕ → List ℕ
unspace q = drop (space q 0) q

unfoldable pub past : List ℕ → List ℕ
past q = drop (behind q 0) q

space-suc : (a : ℕ) (s : List ℕ) (i : ℕ) → space (a ∷ s) (suc i) ≡ suc (space s i)
unfolding space
space-suc a s i = go (eqb (get_or s i 0) 32)
  where
    go : (t : Bool) → cond t (suc i + 1) (suc i) ≡ suc (cond t (i + 1) i)
    go true = omega arith
    go false = refl

behind-suc : (a : ℕ) (s : List ℕ) (i : ℕ) → behind (a ∷ s) (suc i) ≡ suc (behind s i)
unfolding behind
behind-suc a s i = go (eqb (get_or s i 0) 41)
  where
    go : (t : Bool) → cond t (space (a ∷ s) (suc i + 1)) (space (a ∷ s) (suc i)) ≡ suc (cond t (space s (i + 1)) (space s i))
    go true = let e : suc i + 1 ≡ suc (i + 1) = omega arith in rw e (space-suc a s (i + 1))
    go false = space-suc a s i

unspace-drop : (x q : List ℕ) → drop (space (x ++ q) (length x)) (x ++ q) ≡ unspace q
unfolding unspace
unspace-drop [] q = refl
unspace-drop (a ∷ x) q = rw (space-suc a (x ++ q) (length x)) (unspace-drop x q)

pub past-drop : (x q : List ℕ) → drop (behind (x ++ q) (length x)) (x ++ q) ≡ past q
unfolding past
past-drop [] q = refl
past-drop (a ∷ x) q = rw (behind-suc a (x ++ q) (length x)) (past-drop x q)

-- a name behind the bytes p
word-there : (p n q : List ℕ) → IsName n → is_name_byte (get_or q 0 0) ≡ false
    → word_at ((p ++ n) ++ q) (length p) ≡ record { key = key_of n; place = behind ((p ++ n) ++ q) (length (p ++ n)) }
unfolding word_at name_key
word-there p n q g h =
    let d : drop (length p) ((p ++ n) ++ q) ≡ n ++ q = ap (drop (length p)) (append_assoc p n q) ∙ drop-append_seam p (n ++ q) in
    rw (d, run-append is_name_byte n q g.1 h, le-leb (length n) 15 g.2, take_at n q (length n) refl, length-append p n)

long : (x q : List ℕ) → 0 < length x → 0 < length q → leb (length (x ++ q)) 1 ≡ false
long x q h k = lt-leb (length (x ++ q)) 1 (omega (arith, length-append x q))

name-front : (n q : List ℕ) → IsName n → is_name_byte (get_or q 0 0) ≡ false → 0 < length q
    → front_of (n ++ q) ≡ seen (name_event n) (behind (n ++ q) (length n))
unfolding front_of
name-front n q g h k =
    rw (long n q (name-pos n g) k, get_or-append n q 0 0 (name-pos n g), g.0, word-there [] n q g h)

variable-front : (n q : List ℕ) → IsName n → is_name_byte (get_or q 0 0) ≡ false → 0 < length q
    → front_of (63 ∷ (n ++ q)) ≡ seen (variable_event n) (behind (63 ∷ (n ++ q)) (suc (length n)))
unfolding front_of is_letter is_digit
variable-front n q g h k = rw (long (63 ∷ n) q (omega arith) k, word-there (63 ∷ []) n q g h)

parameter-front : (n q : List ℕ) → IsName n → is_name_byte (get_or q 0 0) ≡ false → 0 < length q
    → front_of (33 ∷ (n ++ q)) ≡ seen (parameter_event n) (behind (33 ∷ (n ++ q)) (suc (length n)))
unfolding front_of is_letter is_digit
parameter-front n q g h k = rw (long (33 ∷ n) q (omega arith) k, word-there (33 ∷ []) n q g h)

minimum-front : (n q : List ℕ) → IsName n → is_name_byte (get_or q 0 0) ≡ false → 0 < length q
    → front_of (37 ∷ (n ++ q)) ≡ seen (minimum_event n) (behind (37 ∷ (n ++ q)) (suc (length n)))
unfolding front_of is_letter is_digit
minimum-front n q g h k = rw (long (37 ∷ n) q (omega arith) k, word-there (37 ∷ []) n q g h)

-- one name in front
pub name-event : (n q : List ℕ) → IsName n → is_name_byte (get_or q 0 0) ≡ false → 0 < length q → events_of (n ++ q) ≡ name_event n ∷ events_of (past q)
name-event n q g h k =
    event-at (n ++ q) (seen (name_event n) (behind (n ++ q) (length n))) (name-front n q g h k) refl
    ∙ ap (λ l. name_event n ∷ events_of l) (past-drop n q)

-- a name behind the mark b
marked-event : (b : ℕ) (e : Event) (n q : List ℕ) → is_end e ≡ false → front_of (b ∷ (n ++ q)) ≡ seen e (behind (b ∷ (n ++ q)) (suc (length n)))
    → events_of (b ∷ (n ++ q)) ≡ e ∷ events_of (past q)
marked-event b e n q m p =
    event-at (b ∷ (n ++ q)) (seen e (behind (b ∷ (n ++ q)) (suc (length n)))) p m ∙ ap (λ l. e ∷ events_of l) (past-drop (b ∷ n) q)

pub variable-event : (n q : List ℕ) → IsName n → is_name_byte (get_or q 0 0) ≡ false → 0 < length q
    → events_of (63 ∷ (n ++ q)) ≡ variable_event n ∷ events_of (past q)
variable-event n q g h k = marked-event 63 (variable_event n) n q refl (variable-front n q g h k)

pub parameter-event : (n q : List ℕ) → IsName n → is_name_byte (get_or q 0 0) ≡ false → 0 < length q
    → events_of (33 ∷ (n ++ q)) ≡ parameter_event n ∷ events_of (past q)
parameter-event n q g h k = marked-event 33 (parameter_event n) n q refl (parameter-front n q g h k)

minimum-event : (n q : List ℕ) → IsName n → is_name_byte (get_or q 0 0) ≡ false → 0 < length q
    → events_of (37 ∷ (n ++ q)) ≡ minimum_event n ∷ events_of (past q)
minimum-event n q g h k = marked-event 37 (minimum_event n) n q refl (minimum-front n q g h k)

digit-no-letter : (b : ℕ) → b ≤ 57 → is_letter b ≡ false
unfolding is_letter
digit-no-letter b h = rw (lt-leb 97 b (omega arith))

number-there : (n q : List ℕ) → IsNumber n → is_name_byte (get_or q 0 0) ≡ false → 0 < length q
    → front_of (n ++ q) ≡ seen (number_event n) (space (n ++ q) (length n))
unfolding front_of number_front
number-there n q g h k =
    let f = number-first n q g in
    let d : is_digit (get_or (n ++ q) 0 0) ≡ true = ap is_digit (get_or-append n q 0 0 g.0) ∙ run_at is_digit n 0 (omega (arith, g.0, g.1)) in
    rw (
      long n q g.0 k,
      digit-no-letter (get_or (n ++ q) 0 0) f.1,
      d,
      run-append is_digit n q g.1 (no-name-no-digit (get_or q 0 0) h),
      take_at n q (length n) refl,
    )

pub number-event : (n q : List ℕ) → IsNumber n → is_name_byte (get_or q 0 0) ≡ false → 0 < length q
    → events_of (n ++ q) ≡ number_event n ∷ events_of (unspace q)
number-event n q g h k =
    event-at (n ++ q) (seen (number_event n) (space (n ++ q) (length n))) (number-there n q g h k) refl
    ∙ ap (λ l. number_event n ∷ events_of l) (unspace-drop n q)

step-front : (q : List ℕ) → 0 < length q → front_of (41 ∷ q) ≡ seen Step (space (41 ∷ q) 1)
unfolding front_of is_letter is_digit
step-front q k = rw (long (41 ∷ []) q (omega arith) k)

pub step-event : (q : List ℕ) → 0 < length q → events_of (41 ∷ q) ≡ Step ∷ events_of (unspace q)
step-event q k =
    event-at (41 ∷ q) (seen Step (space (41 ∷ q) 1)) (step-front q k) refl
    ∙ ap (λ l. Step ∷ events_of l) (unspace-drop (41 ∷ []) q)

-- what stands behind a word
pub unspace-space : (q : List ℕ) → unspace (32 ∷ q) ≡ q
unfolding unspace space
unspace-space q = refl

pub unspace-close : (q : List ℕ) → unspace (41 ∷ q) ≡ 41 ∷ q
unfolding unspace space
unspace-close q = refl

pub past-space : (q : List ℕ) → past (32 ∷ q) ≡ q
unfolding past behind space
past-space q = refl

pub past-close : (q : List ℕ) → past (41 ∷ q) ≡ unspace q
unfolding past behind unspace
past-close q = rw (space-suc 41 q 0)

-- words of one kind, each with a space before it, up to the closing bracket

-- the event of one word in front
abbrev pub Eventful : {A : Type 0} → (A → List ℕ) → (A → Type 0) → (A → Event) → Type 0
Eventful {A} w G ev = (x : A) (q : List ℕ) → G x → is_name_byte (get_or q 0 0) ≡ false → 0 < length q → events_of (w x ++ q) ≡ ev x ∷ events_of (past q)

pub variable-events : Eventful variable_bytes IsName variable_event
variable-events n q g h k = variable-event n q g h k

pub term-events : Eventful term_bytes GoodTerm term_event
term-events (term plain n) q g h k = name-event n q g h k
term-events (term variable n) q g h k = variable-event n q g h k
term-events (term parameter n) q g h k = parameter-event n q g h k
term-events (term minimum n) q g h k = minimum-event n q g h k

pub many-stops : {A : Type 0} (w : A → List ℕ) (xs : List A) (r : List ℕ) → is_name_byte (get_or (many_bytes w xs ++ 41 ∷ r) 0 0) ≡ false
many-stops w [] r = close-stops
many-stops w (x ∷ xs) r = space-stops

pub many-some : {A : Type 0} (w : A → List ℕ) (xs : List A) (r : List ℕ) → 0 < length (many_bytes w xs ++ 41 ∷ r)
many-some w [] r = omega arith
many-some w (x ∷ xs) r = omega arith

pub many-events : {A : Type 0} (w : A → List ℕ) (G : A → Type 0) (ev : A → Event) → Eventful w G ev → (xs : List A) (r : List ℕ) → All G xs
    → events_of (past (many_bytes w xs ++ 41 ∷ r)) ≡ map ev xs ++ events_of (unspace r)
many-events w G ev d [] r g = ap events_of (past-close r)
many-events w G ev d (x ∷ xs) r g =
    let m : List ℕ = many_bytes w xs ++ 41 ∷ r in
    ap events_of (past-space ((w x ++ many_bytes w xs) ++ 41 ∷ r) ∙ append_assoc (w x) (many_bytes w xs) (41 ∷ r))
    ∙ d x m g.0 (many-stops w xs r) (many-some w xs r)
    ∙ ap (λ es. ev x ∷ es) (many-events w G ev d xs r g.1)

-- the count of words behind a name

spaces-run : (p : ℕ → Bool) → ((b : ℕ) → p b ≡ true → 48 ≤ b) → (n q : List ℕ) → ((k : ℕ) → k < length n → p (get_or n k 0) ≡ true) → spaces (n ++ q) ≡ spaces q
unfolding spaces space_bit
spaces-run p low [] q h = refl
spaces-run p low (b ∷ n) q h =
    let l = low b (h 0 (omega arith)) in
    rw (ne_eqb b 41 (λ e. omega arith), ne_eqb b 32 (λ e. omega arith), zero-add) (spaces-run p low n q (λ k m. h (suc k) (omega arith)))

pub spaces-name : (n q : List ℕ) → IsName n → spaces (n ++ q) ≡ spaces q
spaces-name n q g = spaces-run is_name_byte (λ b e. (name-range b e).0) n q (λ k l. run_at is_name_byte n k (omega (arith, g.1)))

-- words without a space or a closing bracket
abbrev pub Quiet : {A : Type 0} → (A → List ℕ) → (A → Type 0) → Type 0
Quiet {A} w G = (x : A) (q : List ℕ) → G x → spaces (w x ++ q) ≡ spaces q

pub variable-quiet : Quiet variable_bytes IsName
unfolding spaces space_bit
variable-quiet n q g = zero-add (spaces (n ++ q)) ∙ spaces-name n q g

pub parameter-quiet : Quiet parameter_bytes IsName
unfolding spaces space_bit
parameter-quiet n q g = zero-add (spaces (n ++ q)) ∙ spaces-name n q g

minimum-quiet : Quiet (λ n. 37 ∷ n) IsName
unfolding spaces space_bit
minimum-quiet n q g = zero-add (spaces (n ++ q)) ∙ spaces-name n q g

pub term-quiet : Quiet term_bytes GoodTerm
term-quiet (term plain n) q g = spaces-name n q g
term-quiet (term variable n) q g = variable-quiet n q g
term-quiet (term parameter n) q g = parameter-quiet n q g
term-quiet (term minimum n) q g = minimum-quiet n q g

pub many-spaces : {A : Type 0} (w : A → List ℕ) (G : A → Type 0) → Quiet w G → (xs : List A) (r : List ℕ) → All G xs
    → spaces (many_bytes w xs ++ 41 ∷ r) ≡ length xs
unfolding spaces space_bit
many-spaces w G d [] r g = refl
many-spaces w G d (x ∷ xs) r g =
    rw one-add (ap suc (ap spaces (append_assoc (w x) (many_bytes w xs) (41 ∷ r)) ∙ d x (many_bytes w xs ++ 41 ∷ r) g.0 ∙ many-spaces w G d xs r g.1))

-- atoms

-- an atom whose bracket stands at i; p is all up to it
pub holds-front : (p n q : List ℕ) (i : ℕ) → length p ≡ i + 1 → IsName n → is_name_byte (get_or q 0 0) ≡ false
    → atom_front ((p ++ n) ++ q) i ≡ seen (Holds (key_of n) (spaces q)) (behind ((p ++ n) ++ q) (length (p ++ n)))
unfolding atom_front
holds-front p n q i e g h =
    let d : drop (length p) ((p ++ n) ++ q) ≡ n ++ q = ap (drop (length p)) (append_assoc p n q) ∙ drop-append_seam p (n ++ q) in
    let f = name-first n q g in
    let b : get_or ((p ++ n) ++ q) (length p) 0 ≡ get_or (n ++ q) 0 0 = get_d_drop ((p ++ n) ++ q) (length p) ∙ ap (λ l. get_or l 0 0) d in
    rw (
      ← e,
      b,
      ne_eqb (get_or (n ++ q) 0 0) 61 (λ x. omega arith),
      word-there p n q g h,
      d,
      spaces-name n q g,
    )
  where
    get_d_drop : (s : List ℕ) (i : ℕ) → get_or s i 0 ≡ get_or (drop i s) 0 0
    get_d_drop s zero = refl
    get_d_drop [] (suc i) = refl
    get_d_drop (a ∷ s) (suc i) = get_d_drop s i

equal-front : (p q : List ℕ) (i : ℕ) → length p ≡ i + 1 → atom_front (p ++ 61 ∷ q) i ≡ seen Equal (space (p ++ 61 ∷ q) (i + 2))
unfolding atom_front
equal-front p q i e = rw (← e, get_or-append_seam p 61 q 0)

-- (if and the space and bracket behind it
abbrev if_head : List ℕ
if_head = 40 ∷ 105 ∷ 102 ∷ 32 ∷ 40 ∷ []

if-front : (q : List ℕ) → front_of (if_head ++ q) ≡ atom_front (if_head ++ q) 4
unfolding front_of is_letter is_digit is_if
if-front q = rw (lt-leb (length (if_head ++ q)) 1 (omega (arith, length-append if_head q)))

-- words of an atom behind its name; r follows the closing bracket
if-holds : (n : List ℕ) (ts : List Term) (r : List ℕ) → IsName n → All GoodTerm ts
    → events_of (if_head ++ (n ++ (many_bytes term_bytes ts ++ 41 ∷ r))) ≡ (Holds (key_of n) (length ts) ∷ map term_event ts) ++ events_of (unspace r)
if-holds n ts r g h =
    let q : List ℕ = many_bytes term_bytes ts ++ 41 ∷ r in
    let s : List ℕ = (if_head ++ n) ++ q in
    event-at s (seen (Holds (key_of n) (spaces q)) (behind s (length (if_head ++ n))))
    (if-front (n ++ q) ∙ holds-front if_head n q 4 refl g (many-stops term_bytes ts r)) refl
    ∙ ap (λ l. Holds (key_of n) (spaces q) ∷ events_of l) (past-drop (if_head ++ n) q)
    ∙ ap (λ k. Holds (key_of n) k ∷ events_of (past q)) (many-spaces term_bytes GoodTerm term-quiet ts r h)
    ∙ ap (λ es. Holds (key_of n) (length ts) ∷ es) (many-events term_bytes GoodTerm term_event term-events ts r h)

if-equal : (a b : Term) (r : List ℕ) → GoodTerm a → GoodTerm b
    → events_of (if_head ++ (61 ∷ 32 ∷ (term_bytes a ++ 32 ∷ (term_bytes b ++ 41 ∷ r)))) ≡ (Equal ∷ term_event a ∷ term_event b ∷ []) ++ events_of (unspace r)
if-equal a b r g h =
    let x : List ℕ = term_bytes b ++ 41 ∷ r in
    let q : List ℕ = term_bytes a ++ 32 ∷ x in
    let s : List ℕ = if_head ++ (61 ∷ 32 ∷ q) in
    event-at s (seen Equal (space s 6)) (if-front (61 ∷ 32 ∷ q) ∙ equal-front if_head (32 ∷ q) 4 refl) refl
    ∙ ap (λ l. Equal ∷ events_of l) (unspace-drop (if_head ++ (61 ∷ [])) (32 ∷ q) ∙ unspace-space q)
    ∙ ap (λ es. Equal ∷ es)
    (term-events a (32 ∷ x) g space-stops (omega arith)
    ∙ ap (λ l. term_event a ∷ events_of l) (past-space x)
    ∙ ap (λ es. term_event a ∷ es) (term-events b (41 ∷ r) h close-stops (omega arith) ∙ ap (λ l. term_event b ∷ events_of l) (past-close r)))

equal-assoc : (a b q : List ℕ) → (61 ∷ 32 ∷ (a ++ 32 ∷ (b ++ 41 ∷ []))) ++ q ≡ 61 ∷ 32 ∷ (a ++ 32 ∷ (b ++ 41 ∷ q))
equal-assoc a b q = simp append_assoc

holds-assoc : (n m q : List ℕ) → (n ++ (m ++ 41 ∷ [])) ++ q ≡ n ++ (m ++ 41 ∷ q)
holds-assoc n m q = simp append_assoc

-- the head of an if form: its atom's events
pub atom-events : (a : Atom) (q : List ℕ) → GoodAtom a
    → events_of (40 ∷ 105 ∷ 102 ∷ 32 ∷ (atom_bytes a ++ 32 ∷ q)) ≡ atom_events a ++ events_of q
atom-events (equal a b) q g =
    ap (λ l. events_of (if_head ++ l)) (equal-assoc (term_bytes a) (term_bytes b) (32 ∷ q))
    ∙ if-equal a b (32 ∷ q) g.0 g.1
    ∙ ap (λ l. atom_events (equal a b) ++ events_of l) (unspace-space q)
atom-events (holds n ts) q g =
    ap (λ l. events_of (if_head ++ l)) (holds-assoc n (many_bytes term_bytes ts) (32 ∷ q))
    ∙ if-holds n ts (32 ∷ q) g.0 g.1
    ∙ ap (λ l. atom_events (holds n ts) ++ events_of l) (unspace-space q)

-- diagrams

events-assoc : (a d e f : List Event) → a ++ (d ++ (e ++ (Step ∷ f))) ≡ (a ++ (d ++ (e ++ Step ∷ []))) ++ f
events-assoc a d e f = simp append_assoc

pub diagram-events : (d : Diagram) (q : List ℕ) → GoodDiagram d → is_name_byte (get_or q 0 0) ≡ false → 0 < length q
    → events_of (diagram_bytes d ++ q) ≡ diagram_events d ++ events_of (unspace q)
diagram-events (number n) q g h k = number-event n q g h k
diagram-events (branch a d e) q g h k =
    let y : List ℕ = diagram_bytes e ++ 41 ∷ q in
    let x : List ℕ = diagram_bytes d ++ 32 ∷ y in
    ap (λ l. events_of (40 ∷ 105 ∷ 102 ∷ 32 ∷ l)) (if-assoc (atom_bytes a) (diagram_bytes d) (diagram_bytes e) q)
    ∙ atom-events a x g.0
    ∙ ap (λ es. atom_events a ++ es)
    (diagram-events d (32 ∷ y) g.1 space-stops (omega arith)
    ∙ ap (λ l. diagram_events d ++ events_of l) (unspace-space y)
    ∙ ap (λ es. diagram_events d ++ es)
    (diagram-events e (41 ∷ q) g.2 close-stops (omega arith)
    ∙ ap (λ l. diagram_events e ++ events_of l) (unspace-close q)
    ∙ ap (λ es. diagram_events e ++ es) (step-event q k)))
    ∙ events-assoc (atom_events a) (diagram_events d) (diagram_events e) (events_of (unspace q))
