-- How far an event goes, and the events of bytes one after another.
use Rattle.std.specs.Prelude.{◌≡◌, refl, List, [], ◌∷◌, Bool, true, false, cond, ℕ, zero, suc, ◌+◌, ◌≤◌, ◌<◌, leb, eqb, length, get_or, drop}
use Rattle.std.proofs.Common.{ap, ◌∙◌, subst, true≢false, arith, length-drop, drop-drop, eqb-true, leb-false, le-leb}
use Rattle.basics.specs.Tests.{and_right}
use Rattle.words.specs.Bytes.{is_letter, is_digit, is_name_byte, run}
use Rattle.words.specs.ByteLaws.{inside, run-le, run-pos, letter-name}
use Rattle.events.specs.declared.Event.TheVariants.{Name, End}
use Rattle.events.specs.declared.Seen.{Seen}
use Rattle.events.specs.Inner.{next_at}
use Rattle.events.specs.Front.{space, behind, seen, word_at, is_if, atom_front, number_front, front_of, is_end, events_from, events_of}

-- an event stays within n bytes, and takes one at least unless it is the end
pub record Moves (n : ℕ) (x : Seen) : Type 0 where
  pub within : x.taken ≤ n
  pub moves : is_end x.event ≡ false → 0 < x.taken

space-room : (s : List ℕ) (i : ℕ) → i ≤ length s → (i ≤ space s i) × (space s i ≤ length s)
unfolding space
space-room s i h = go (eqb (get_or s i 0) 32) refl
  where
    go : (t : Bool) → eqb (get_or s i 0) 32 ≡ t → (i ≤ cond t (i + 1) i) × (cond t (i + 1) i ≤ length s)
    go true e = let l = inside s i 32 (eqb-true (get_or s i 0) 32 e) (omega arith) in (omega arith, omega arith)
    go false e = (omega arith, omega arith)

behind-room : (s : List ℕ) (i : ℕ) → i ≤ length s → (i ≤ behind s i) × (behind s i ≤ length s)
unfolding behind
behind-room s i h = go (eqb (get_or s i 0) 41) refl
  where
    go : (t : Bool) → eqb (get_or s i 0) 41 ≡ t → (i ≤ cond t (space s (i + 1)) (space s i)) × (cond t (space s (i + 1)) (space s i) ≤ length s)
    go true e =
        let l = inside s i 41 (eqb-true (get_or s i 0) 41 e) (omega arith) in
        let r = space-room s (i + 1) (omega arith) in
        (omega (arith, r), omega (arith, r))
    go false e = space-room s i h

word_room : (s : List ℕ) (i : ℕ) → i ≤ length s → (i + run is_name_byte (drop i s) ≤ (word_at s i).place) × ((word_at s i).place ≤ length s)
unfolding word_at
word_room s i h =
    behind-room s (i + run is_name_byte (drop i s)) (omega (arith, run-le is_name_byte (drop i s), length-drop i s))

pick-moves : (n : ℕ) (b : Bool) (x y : Seen) → (b ≡ true → Moves n x) → (b ≡ false → Moves n y) → Moves n (cond b x y)
pick-moves n true x y f g = f refl
pick-moves n false x y f g = g refl

end-moves : (n : ℕ) → Moves n (seen End 0)
end-moves n = record { within = omega arith; moves = λ e. absurd (true≢false e) }

atom-moves : (s : List ℕ) (i : ℕ) → i + 1 ≤ length s → Moves (length s) (atom_front s i)
unfolding atom_front
atom-moves s i h =
    pick-moves (length s) (eqb (get_or s (i + 1) 0) 61) _ _
    (λ e.
    let l = inside s (i + 1) 61 (eqb-true (get_or s (i + 1) 0) 61 e) (omega arith) in
    let r = space-room s (i + 2) (omega arith) in
    record { within = r.1; moves = λ f. omega (arith, r.0) })
    (λ e. let r = word_room s (i + 1) h in record { within = r.1; moves = λ f. omega (arith, r.0) })

no-digit-0 : is_digit 0 ≡ false
unfolding is_digit
no-digit-0 = refl

no-name-0 : is_name_byte 0 ≡ false
unfolding is_name_byte is_letter is_digit
no-name-0 = refl

if-room : (s : List ℕ) → is_if s ≡ true → 5 ≤ length s
unfolding is_if
if-room s e =
    let e1 = and_right (eqb (get_or s 1 0) 105) _ e in
    let e2 = and_right (eqb (get_or s 2 0) 102) _ e1 in
    let e3 = and_right (eqb (get_or s 3 0) 32) (eqb (get_or s 4 0) 40) e2 in
    inside s 4 40 (eqb-true (get_or s 4 0) 40 e3) (omega arith)

name-moves : (s : List ℕ) → is_letter (get_or s 0 0) ≡ true → Moves (length s) (seen (Name (word_at s 0).key) (word_at s 0).place)
name-moves s e =
    let r = word_room s 0 (omega arith) in
    let l = run-pos is_name_byte s no-name-0 (letter-name (get_or s 0 0) e) in
    record { within = r.1; moves = λ f. omega (arith, r.0) }

number-moves : (s : List ℕ) → is_digit (get_or s 0 0) ≡ true → Moves (length s) (number_front s)
unfolding number_front
number-moves s e =
    let r = space-room s (run is_digit s) (run-le is_digit s) in
    let l = run-pos is_digit s no-digit-0 e in
    record { within = r.1; moves = λ f. omega (arith, r.0) }

pub front-moves : (s : List ℕ) → Moves (length s) (front_of s)
unfolding front_of
front-moves s =
    let n = length s in
    pick-moves n (leb (length s) 1) _ _ (λ e. end-moves n) (λ long.
    let h : 1 < length s = leb-false (length s) 1 long in
    let w = word_room s 1 (omega arith) in
    pick-moves n (is_letter (get_or s 0 0)) _ _ (λ e. name-moves s e) (λ e0.
    pick-moves n (is_digit (get_or s 0 0)) _ _ (λ e. number-moves s e) (λ e1.
    pick-moves n (eqb (get_or s 0 0) 63) _ _ (λ e. record { within = w.1; moves = λ f. omega (arith, w.0) }) (λ e2.
    pick-moves n (eqb (get_or s 0 0) 33) _ _ (λ e. record { within = w.1; moves = λ f. omega (arith, w.0) }) (λ e3.
    pick-moves n (eqb (get_or s 0 0) 37) _ _ (λ e. record { within = w.1; moves = λ f. omega (arith, w.0) }) (λ e4.
    pick-moves n (eqb (get_or s 0 0) 40) _ _
    (λ e. pick-moves n (is_if s) _ _ (λ f. atom-moves s 4 (if-room s f)) (λ f. atom-moves s 0 (omega arith))) (λ e5.
    pick-moves n (eqb (get_or s 0 0) 41) _ _
    (λ e. let r = space-room s 1 (omega arith) in record { within = r.1; moves = λ f. omega (arith, r.0) })
    (λ e6. end-moves n))))))))

-- at most one byte: the end
pub front-short : (s : List ℕ) → length s ≤ 1 → front_of s ≡ seen End 0
unfolding front_of
front-short s h = rw (le-leb (length s) 1 h)

-- more bounds than bytes change nothing
fuel : (f g : ℕ) (s : List ℕ) → length s ≤ f → length s ≤ g → events_from f s ≡ events_from g s
unfolding events_from
fuel zero zero s h k = refl
fuel zero (suc g) s h k = rw (front-short s (omega arith))
fuel (suc f) zero s h k = rw (front-short s (omega arith))
fuel (suc f) (suc g) s h k = go (is_end (front_of s).event) refl (fuel f g (drop (front_of s).taken s))
  where
    go : (b : Bool) → is_end (front_of s).event ≡ b
        → (length (drop (front_of s).taken s) ≤ f → length (drop (front_of s).taken s) ≤ g → events_from f (drop (front_of s).taken s) ≡ events_from g (drop (front_of s).taken s))
        → cond b [] ((front_of s).event ∷ events_from f (drop (front_of s).taken s)) ≡ cond b [] ((front_of s).event ∷ events_from g (drop (front_of s).taken s))
    go true e ih = refl
    go false e ih =
        let m = front-moves s in
        let p = m.moves e in
        let l = length-drop (front_of s).taken s in
        ap (λ es. (front_of s).event ∷ es) (ih (omega (arith, m.within)) (omega (arith, m.within)))

-- at the end there is no event more
pub events-end : (s : List ℕ) → is_end (front_of s).event ≡ true → events_of s ≡ []
unfolding events_of events_from
events-end s e = go (length s)
  where
    go : (f : ℕ) → events_from f s ≡ []
    go zero = refl
    go (suc f) = rw e

one_more : (f : ℕ) (s : List ℕ) → is_end (front_of s).event ≡ false → length s ≤ suc f
    → events_from (suc f) s ≡ (front_of s).event ∷ events_of (drop (front_of s).taken s)
unfolding events_of events_from
one_more f s e h =
    let m = front-moves s in
    let p = m.moves e in
    let l = length-drop (front_of s).taken s in
    rw (e, fuel f (length (drop (front_of s).taken s)) (drop (front_of s).taken s) (omega (arith, m.within)) (omega arith))

-- else the one in front, and those of what is left
pub events-more : (s : List ℕ) → is_end (front_of s).event ≡ false → events_of s ≡ (front_of s).event ∷ events_of (drop (front_of s).taken s)
unfolding events_of
events-more s e = go (length s) refl
  where
    go : (n : ℕ) → length s ≡ n → events_from n s ≡ (front_of s).event ∷ events_from (length (drop (front_of s).taken s)) (drop (front_of s).taken s)
    go zero h = let m = front-moves s in let p = m.moves e in absurd (omega (arith, m.within))
    go (suc f) h = one_more f s e (omega arith)

pub events-short : (s : List ℕ) → length s ≤ 1 → events_of s ≡ []
events-short s h = events-end s (ap (λ (x : Seen). is_end x.event) (front-short s h))

-- the same, where it is known what stands in front
pub event-at : (s : List ℕ) (x : Seen) → front_of s ≡ x → is_end x.event ≡ false → events_of s ≡ x.event ∷ events_of (drop x.taken s)
event-at s x p e =
    subst (λ (y : Seen). is_end y.event ≡ false → events_of s ≡ y.event ∷ events_of (drop y.taken s)) p (events-more s) e

-- at a place of a line

pub next-end : (s : List ℕ) (i : ℕ) → is_end (next_at s i).event ≡ true → events_of (drop i s) ≡ []
unfolding next_at
next-end s i e = events-end (drop i s) e

pub next_more : (s : List ℕ) (i : ℕ) → is_end (next_at s i).event ≡ false
    → events_of (drop i s) ≡ (next_at s i).event ∷ events_of (drop (next_at s i).place s)
unfolding next_at
next_more s i e =
    events-more (drop i s) e ∙ ap (λ l. (front_of (drop i s)).event ∷ events_of l) (drop-drop (front_of (drop i s)).taken i s)

pub next-moves : (s : List ℕ) (i : ℕ) → i ≤ length s → ((next_at s i).place ≤ length s) × (is_end (next_at s i).event ≡ false → i < (next_at s i).place)
unfolding next_at
next-moves s i h =
    let m = front-moves (drop i s) in
    (omega (arith, m.within, length-drop i s), λ e. omega (arith, m.moves e))
