-- Laws of lent states: a row's words one by one; neither order nor repetition of the facts matters.
use Rattle.std.specs.Prelude.{◌≡◌, refl, List, [], ◌∷◌, Bool, true, false, ◌||◌, ℕ, zero, suc, ◌+◌, ◌*◌, ◌<◌, length, get_or, drop, ltb}
use Rattle.std.proofs.Common.{ap, ◌∙◌, arith, length-drop, length-take-le, get_or-take, get_or-drop}
use Rattle.std.proofs.Math.Path.{fun_ext}
use Rattle.basics.specs.Tests.{and_left, and_right, Cmp, below, equal, above, cmp, Either, one, other, either, or-one, or-other}
use Rattle.basics.specs.Members.{clash}
use Rattle.diagram.specs.RowLaws.{same_tests}
use Rattle.label.specs.Limits.{most_places}
use Rattle.state.specs.Lent.{fact_words, fact_count, objects_at, says_fact, some_below, said_by, state_of, all_below}

-- the objects of a whole row: one for each place, word by word
pub objects-length : (facts : List ℕ) (i : ℕ) → i < fact_count facts → length (objects_at facts i) ≡ most_places
unfolding objects_at
objects-length facts i h = length-take-le most_places (drop (suc (i * fact_words)) facts) (rw length-drop (omega arith))

pub object-at : (facts : List ℕ) (i j : ℕ) → j < most_places → get_or (objects_at facts i) j 0 ≡ get_or facts (i * fact_words + 1 + j) 0
unfolding objects_at
object-at facts i j h =
    let e : suc (i * fact_words) + j ≡ i * fact_words + 1 + j = omega arith in
    get_or-take most_places (drop (suc (i * fact_words)) facts) j 0 h ∙ get_or-drop (suc (i * fact_words)) facts j 0 ∙ ap (λ (m : ℕ). get_or facts m 0) e

-- `all_below`, made and taken apart by index
pub all_made : (n : ℕ) (os : List ℕ) → ((j : ℕ) → j < length os → ltb (get_or os j 0) n ≡ true) → all_below n os ≡ true
all_made n [] h = refl
all_made n (o ∷ os) h = rw (h 0 (omega arith), all_made n os (λ j l. h (suc j) (omega arith)))

pub all-at : (n : ℕ) (os : List ℕ) (j : ℕ) → j < length os → all_below n os ≡ true → ltb (get_or os j 0) n ≡ true
all-at n [] j l e = absurd (omega arith)
all-at n (o ∷ os) zero l e = and_left (ltb o n) _ e
all-at n (o ∷ os) (suc j) l e = all-at n os j (omega arith) (and_right (ltb o n) _ e)

-- `some_below`, made and taken apart
pub some-made : (n : ℕ) (q : ℕ → Bool) (i : ℕ) → i < n → q i ≡ true → some_below n q ≡ true
some-made zero q i h e = absurd (omega arith)
some-made (suc n) q i h e = go (cmp i n) (some-made n q i)
  where
    go : Cmp i n → (i < n → q i ≡ true → some_below n q ≡ true) → (some_below n q || q n) ≡ true
    go (below l) ih = or-one (some_below n q) (q n) (ih l e)
    go (equal l) ih = or-other (some_below n q) (q n) (rw (← l) e)
    go (above l) ih = absurd (omega arith)

pub some-found : (n : ℕ) (q : ℕ → Bool) → some_below n q ≡ true → (i : ℕ) × (i < n) × (q i ≡ true)
some-found zero q e = clash e refl
some-found (suc n) q e = go (either (some_below n q) (q n) e) (some-found n q)
  where
    go : Either (some_below n q) (q n) → (some_below n q ≡ true → (i : ℕ) × (i < n) × (q i ≡ true)) → (i : ℕ) × (i < suc n) × (q i ≡ true)
    go (one p) ih = let f = ih p in let l = f.1 in (f.0, omega arith, f.2)
    go (other p) ih = (n, omega arith, p)

pub some-none : (n : ℕ) (q : ℕ → Bool) → ((i : ℕ) → i < n → q i ≡ false) → some_below n q ≡ false
some-none zero q h = refl
some-none (suc n) q h = rw (some-none n q (λ i l. h i (omega arith)), h n (omega arith))

pub some_same : (n : ℕ) (q r : ℕ → Bool) → ((i : ℕ) → i < n → q i ≡ r i) → some_below n q ≡ some_below n r
some_same zero q r h = refl
some_same (suc n) q r h = rw (some_same n q r (λ i l. h i (omega arith)), h n (omega arith))

-- what each row of `facts` says, some row of `others` says too
pub record Among (ar facts others : List ℕ) : Type 0 where
  pub each : (i : ℕ) → i < fact_count facts → (j : ℕ) × (j < fact_count others)
      × ((p : ℕ) (os : List ℕ) → says_fact ar facts p os i ≡ true → says_fact ar others p os j ≡ true)

-- facts in another order or repeated: the state is the same
pub same-facts : (ar : List ℕ) (n : ℕ) (constants facts others : List ℕ) → Among ar facts others → Among ar others facts
    → state_of ar n constants facts ≡ state_of ar n constants others
unfolding state_of said_by
same-facts ar n constants facts others a b =
    let e : (state_of ar n constants facts).fact ≡ (state_of ar n constants others).fact
    = fun_ext (λ p. fun_ext (λ os. same_tests _ _ (there facts others a p os) (there others facts b p os))) in
    λ i. record { size = n; constant = (state_of ar n constants facts).constant; fact = e i }
  where
    there : (fs gs : List ℕ) → Among ar fs gs → (p : ℕ) (os : List ℕ) → some_below (fact_count fs) (says_fact ar fs p os) ≡ true
        → some_below (fact_count gs) (says_fact ar gs p os) ≡ true
    there fs gs w p os e =
        let f = some-found (fact_count fs) (says_fact ar fs p os) e in
        let g = w.each f.0 f.1 in
        some-made (fact_count gs) (says_fact ar gs p os) g.0 g.1 (g.2 p os f.2)
