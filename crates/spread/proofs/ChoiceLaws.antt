-- Laws of choices: a number below 2^g is one choice for g facts and each choice one number; the state of a choice has exactly the facts chosen.
use Rattle.std.specs.Prelude.{◌≡◌, refl, Bool, true, false, ◌&&◌, ◌||◌, ℕ, zero, suc, pred, ◌+◌, ◌*◌, ◌/◌, ◌%◌, ◌^◌, ◌≤◌, ◌<◌, get_or, take, drop, replicate, eqb, ltb}
use Rattle.std.proofs.Math.Path.{ap}
use Rattle.std.proofs.Common.{ap₂, sym, ◌∙◌, arith, length-append, take_at, take-take, length-take-le, get_or-append-add, ext_get_or, eqb-true, eq-eqb, ne_eqb}
use Rattle.std.proofs.Math.Bool.{or_assoc}
use mathlib.Core.List.{List, [], ◌∷◌, ◌++◌, map}
use Rattle.std.proofs.Math.Nat.{pow-zero, pow-succ'}
use Rattle.std.proofs.Math.ListN.{length}
use Rattle.std.proofs.lemmas.List.{length-replicate}
use Rattle.std.proofs.Math.Seq.{drop-append-add}
use Rattle.std.proofs.lemmas.Bool.{eqb-false}
use Rattle.basics.specs.Tests.{Flag, is_true, is_false, flag, and_left, and_right, Either, one, other, either, or-one, or-other}
use Rattle.basics.specs.Members.{mem, NoDup, clash}
use Rattle.label.specs.Limits.{most_places}
use Rattle.label.specs.Labels.{are_arities}
use Rattle.label.proofs.ArityLaws.{arity-most}
use Rattle.diagram.specs.Words.{equal_lists}
use Rattle.diagram.specs.WordLaws.{lists-equal, equal-lists}
use Rattle.diagram.specs.RowLaws.{same_tests}
use Rattle.state.specs.Lent.{fact_words, fact_count, predicate_at, objects_at, says_fact, some_below, said_by, state_of}
use Rattle.state.proofs.LentLaws.{some_same}
use Rattle.spread.specs.Inner.{same_ground, number_of}
use Rattle.spread.specs.Ground.{Ground, ground, ground_facts, is_ground, ground_count, bits, chosen, row_of, rows_of, lent_choice, choice_state}
use Rattle.spread.proofs.GroundLaws.{ground-test, length-ground, mem-ground, ground-nodup}

-- ===== Numbers and choices =====
pub length-bits : (g c : ℕ) → length (bits g c) ≡ g
unfolding bits
length-bits zero c = refl
length-bits (suc g) c = ap suc (length-bits g (c / 2))

pub number-below : (bs : List Bool) → number_of bs < 2 ^ length bs
unfolding number_of
number-below [] = rw (pow-zero 2) (omega arith)
number-below (true ∷ bs) = let h = number-below bs in rw (pow-succ' 2 (length bs)) (omega arith)
number-below (false ∷ bs) = let h = number-below bs in rw (pow-succ' 2 (length bs)) (omega arith)

-- the choice of a choice's number is the choice
pub bits-number : (bs : List Bool) → bits (length bs) (number_of bs) ≡ bs
unfolding bits number_of
bits-number [] = refl
bits-number (true ∷ bs) =
    let a : (1 + 2 * number_of bs) / 2 ≡ number_of bs = omega arith in
    let b : (1 + 2 * number_of bs) % 2 ≡ 1 = omega arith in
    ap₂ ◌∷◌ (eq-eqb ((1 + 2 * number_of bs) % 2) 1 b) (ap (bits (length bs)) a ∙ bits-number bs)
bits-number (false ∷ bs) =
    let a : (2 * number_of bs) / 2 ≡ number_of bs = omega arith in
    let b : (2 * number_of bs) % 2 ≡ 0 = omega arith in
    ap₂ ◌∷◌ (ne_eqb ((2 * number_of bs) % 2) 1 (omega arith)) (ap (bits (length bs)) a ∙ bits-number bs)

-- and the number of a number's choice is the number
pub number-bits : (g c : ℕ) → c < 2 ^ g → number_of (bits g c) ≡ c
unfolding bits number_of
number-bits zero c h = let z = pow-zero 2 in omega arith
number-bits (suc g) c h =
    let z = pow-succ' 2 g in
    go (flag (eqb (c % 2) 1)) (number-bits g (c / 2) (omega arith))
  where
    go : Flag (eqb (c % 2) 1) → number_of (bits g (c / 2)) ≡ c / 2 → number_of (eqb (c % 2) 1 ∷ bits g (c / 2)) ≡ c
    go (is_true e) ih = let q = eqb-true (c % 2) 1 e in rw (e, ih) (omega arith)
    go (is_false e) ih = let q = eqb-false (c % 2) 1 e in rw (e, ih) (omega arith)

-- ===== What is chosen =====
pub chosen-within : (bs : List Bool) (fs : List Ground) (x : Ground) → mem same_ground x (chosen bs fs) ≡ true → mem same_ground x fs ≡ true
unfolding chosen
chosen-within [] fs x e = clash e refl
chosen-within (true ∷ bs) [] x e = clash e refl
chosen-within (false ∷ bs) [] x e = clash e refl
chosen-within (true ∷ bs) (f ∷ fs) x e = go (either (same_ground x f) _ e) (chosen-within bs fs x)
  where
    go : Either (same_ground x f) (mem same_ground x (chosen bs fs)) → (mem same_ground x (chosen bs fs) ≡ true → mem same_ground x fs ≡ true)
        → (same_ground x f || mem same_ground x fs) ≡ true
    go (one d) ih = or-one (same_ground x f) (mem same_ground x fs) d
    go (other d) ih = or-other (same_ground x f) (mem same_ground x fs) (ih d)
chosen-within (false ∷ bs) (f ∷ fs) x e = or-other (same_ground x f) (mem same_ground x fs) (chosen-within bs fs x e)

not-true : (b c : Bool) → (b ≡ true → c ≡ true) → c ≡ false → b ≡ false
not-true true c h e = clash (h refl) e
not-true false c h e = refl

mem-at : (fs : List Ground) (i : ℕ) (d : Ground) → i < length fs → mem same_ground (get_or fs i d) fs ≡ true
mem-at [] i d h = absurd (omega arith)
mem-at (f ∷ fs) zero d h = or-one (same_ground f f) (mem same_ground f fs) (ground-test.complete f)
mem-at (f ∷ fs) (suc i) d h = or-other (same_ground (get_or fs i d) f) (mem same_ground (get_or fs i d) fs) (mem-at fs i d (omega arith))

-- fact i is among the chosen exactly if its bit is true
pub chosen_at : (bs : List Bool) (fs : List Ground) (i : ℕ) (d : Ground) → length bs ≡ length fs → NoDup same_ground fs → i < length fs
    → mem same_ground (get_or fs i d) (chosen bs fs) ≡ get_or bs i false
unfolding chosen
chosen_at [] [] i d e n h = absurd (omega arith)
chosen_at [] (f ∷ fs) i d e n h = absurd (omega arith)
chosen_at (b ∷ bs) [] i d e n h = absurd (omega arith)
chosen_at (true ∷ bs) (f ∷ fs) zero d e n h = or-one (same_ground f f) (mem same_ground f (chosen bs fs)) (ground-test.complete f)
chosen_at (false ∷ bs) (f ∷ fs) zero d e n h = not-true _ _ (chosen-within bs fs f) n.0
chosen_at (true ∷ bs) (f ∷ fs) (suc i) d e n h = go (flag (same_ground (get_or fs i d) f)) (chosen_at bs fs i d (omega arith) n.1 (omega arith))
  where
    go : Flag (same_ground (get_or fs i d) f) → mem same_ground (get_or fs i d) (chosen bs fs) ≡ get_or bs i false
        → (same_ground (get_or fs i d) f || mem same_ground (get_or fs i d) (chosen bs fs)) ≡ get_or bs i false
    go (is_true q) ih = clash (rw (ground-test.sound (get_or fs i d) f q) at (mem-at fs i d (omega arith))) n.0
    go (is_false q) ih = rw q ih
chosen_at (false ∷ bs) (f ∷ fs) (suc i) d e n h = chosen_at bs fs i d (omega arith) n.1 (omega arith)

-- a choice by a test
pub chosen_by : (f : Ground → Bool) (fs : List Ground) (x : Ground) → mem same_ground x (chosen (map f fs) fs) ≡ (mem same_ground x fs && f x)
unfolding chosen
chosen_by f [] x = refl
chosen_by f (y ∷ ys) x = go (f y) refl (flag (same_ground x y)) (chosen_by f ys x)
  where
    go : (b : Bool) → f y ≡ b → Flag (same_ground x y) → mem same_ground x (chosen (map f ys) ys) ≡ (mem same_ground x ys && f x)
        → mem same_ground x (chosen (b ∷ map f ys) (y ∷ ys)) ≡ ((same_ground x y || mem same_ground x ys) && f x)
    go true e (is_true q) ih = rw q (sym (ap f (ground-test.sound x y q) ∙ e))
    go true e (is_false q) ih = rw q ih
    go false e (is_true q) ih = rw (q, ih, ap f (ground-test.sound x y q) ∙ e) (and_no (mem same_ground x ys))
      where
        and_no : (a : Bool) → (a && false) ≡ false
        and_no true = refl
        and_no false = refl
    go false e (is_false q) ih = rw q ih

-- ===== Rows of facts =====

-- as many objects as the predicate has places, at most 6
abbrev pub Shaped : List ℕ → Ground → Type 0
Shaped ar (ground p os) = (length os ≡ get_or ar p 0) × (length os ≤ most_places)

abbrev pub AllShaped : List ℕ → List Ground → Type 0
AllShaped ar [] = Unit {0}
AllShaped ar (f ∷ fs) = Shaped ar f × AllShaped ar fs

length-objects : (os : List ℕ) → length (take most_places (os ++ replicate most_places 0)) ≡ most_places
length-objects os = length-take-le most_places (os ++ replicate most_places 0)
    (let a = length-append os (replicate most_places 0) in let b = length-replicate {A = ℕ} most_places 0 in omega arith)

length-row : (f : Ground) → length (row_of f) ≡ fact_words
length-row (ground p os) = ap suc (length-objects os)

length-rows : (fs : List Ground) → length (rows_of fs) ≡ length fs * fact_words
unfolding rows_of
length-rows [] = refl
length-rows (f ∷ fs) =
    let a = length-append (row_of f) (rows_of fs) in
    let b = length-row f in
    let c = length-rows fs in
    omega arith

pub rows-count : (fs : List Ground) → fact_count (rows_of fs) ≡ length fs
rows-count fs = let a = length-rows fs in omega arith

-- behind a row, the words of the rows that follow
pub row-later : (f : Ground) (rest : List ℕ) (i : ℕ) → (get_or (row_of f ++ rest) (suc i * fact_words) 0 ≡ get_or rest (i * fact_words) 0)
    × (drop (suc (suc i * fact_words)) (row_of f ++ rest) ≡ drop (suc (i * fact_words)) rest)
row-later f rest i =
    let l = length-row f in
    let a : suc i * fact_words ≡ length (row_of f) + i * fact_words = omega arith in
    let b : suc (suc i * fact_words) ≡ length (row_of f) + suc (i * fact_words) = omega arith in (
      ap (λ k. get_or (row_of f ++ rest) k 0) a ∙ get_or-append-add (row_of f) rest (i * fact_words) 0,
      ap (λ k. drop k (row_of f ++ rest)) b ∙ drop-append-add (row_of f) rest (suc (i * fact_words)),
    )

says-later : (ar : List ℕ) (f : Ground) (rest : List ℕ) (p : ℕ) (os : List ℕ) (i : ℕ) → says_fact ar (row_of f ++ rest) p os (suc i) ≡ says_fact ar rest p os i
unfolding says_fact predicate_at objects_at
says-later ar f rest p os i =
    let r = row-later f rest i in
    ap₂ (λ q us. eqb q p && equal_lists (take (get_or ar p 0) (take most_places us)) os) r.0 r.1

pub row-objects : (us rest : List ℕ) (k : ℕ) → length us ≡ k → k ≤ most_places → take k (take most_places (take most_places (us ++ replicate most_places 0) ++ rest)) ≡ us
row-objects us rest k e h =
    ap (take k) (take_at (take most_places (us ++ replicate most_places 0)) rest most_places (length-objects us))
    ∙ take-take k most_places (us ++ replicate most_places 0) h
    ∙ take_at us (replicate most_places 0) k e

says_first : (ar : List ℕ) (f : Ground) (rest : List ℕ) (p : ℕ) (os : List ℕ) → Shaped ar f → says_fact ar (row_of f ++ rest) p os 0 ≡ same_ground (ground p os) f
unfolding says_fact predicate_at objects_at
says_first ar (ground q us) rest p os s = same_tests _ _ there back
  where
    words : List ℕ
    words = take most_places (take most_places (us ++ replicate most_places 0) ++ rest)

    is : take (get_or ar q 0) words ≡ us
    is = row-objects us rest (get_or ar q 0) s.0 (let a = s.0 in let b = s.1 in omega arith)

    there : (eqb q p && equal_lists (take (get_or ar p 0) words) os) ≡ true → (eqb p q && equal_lists os us) ≡ true
    there e =
        let a = eqb-true q p (and_left (eqb q p) _ e) in
        let b = lists-equal (take (get_or ar p 0) words) os (and_right (eqb q p) _ e) in
        let c : us ≡ os = sym is ∙ ap (λ k. take (get_or ar k 0) words) a ∙ b in
        rw (eq-eqb p q (sym a), c) (equal-lists os)

    back : (eqb p q && equal_lists os us) ≡ true → (eqb q p && equal_lists (take (get_or ar p 0) words) os) ≡ true
    back e =
        let a = eqb-true p q (and_left (eqb p q) _ e) in
        let b = lists-equal os us (and_right (eqb p q) _ e) in
        let c : take (get_or ar p 0) words ≡ os = ap (λ k. take (get_or ar k 0) words) a ∙ is ∙ sym b in
        rw (eq-eqb q p (sym a), c) (equal-lists os)

or-none : (a : Bool) → (false || a) ≡ (a || false)
or-none true = refl
or-none false = refl

some-shift : (n : ℕ) (q : ℕ → Bool) → some_below (suc n) q ≡ (q 0 || some_below n (λ i. q (suc i)))
some-shift zero q = or-none (q 0)
some-shift (suc n) q = ap (λ b. b || q (suc n)) (some-shift n q) ∙ or_assoc (q 0) (some_below n (λ i. q (suc i))) (q (suc n))

-- rows of facts say these facts and no others
pub said-rows : (ar : List ℕ) (fs : List Ground) (p : ℕ) (os : List ℕ) → AllShaped ar fs → said_by ar (rows_of fs) p os ≡ mem same_ground (ground p os) fs
unfolding said_by rows_of
said-rows ar fs p os s = ap (λ k. some_below k (says_fact ar (rows_of fs) p os)) (rows-count fs) ∙ go fs s
  where
    go : (fs : List Ground) → AllShaped ar fs → some_below (length fs) (says_fact ar (rows_of fs) p os) ≡ mem same_ground (ground p os) fs
    go [] s = refl
    go (f ∷ fs) s =
        some-shift (length fs) (says_fact ar (row_of f ++ rows_of fs) p os)
        ∙ ap₂ ◌||◌ (says_first ar f (rows_of fs) p os s.0)
        (some_same (length fs) _ _ (λ i l. says-later ar f (rows_of fs) p os i) ∙ go fs s.1)

-- ===== The state of a choice =====

-- no predicate has more than 6 places
pub record FewPlaces (ar : List ℕ) : Type 0 where
  pub each : (p : ℕ) → get_or ar p 0 ≤ most_places

-- as in every arity list
pub arities-few : (ar : List ℕ) → are_arities ar ≡ true → FewPlaces ar
arities-few ar e = record { each = λ p. arity-most ar p e }

ground-shaped : (ar : List ℕ) (count n : ℕ) (f : Ground) → FewPlaces ar → is_ground ar count n f ≡ true → Shaped ar f
unfolding is_ground
ground-shaped ar count n (ground p os) few e =
    let a = eqb-true (length os) (get_or ar p 0) (and_left (eqb (length os) (get_or ar p 0)) _ (and_right (ltb 0 p && ltb (pred p) count) _ e)) in
    let b = few.each p in
    (a, omega arith)

all-shaped : (ar : List ℕ) (fs : List Ground) → ((x : Ground) → mem same_ground x fs ≡ true → Shaped ar x) → AllShaped ar fs
all-shaped ar [] h = tt
all-shaped ar (f ∷ fs) h = (
  h f (or-one (same_ground f f) (mem same_ground f fs) (ground-test.complete f)),
  all-shaped ar fs (λ x e. h x (or-other (same_ground x f) (mem same_ground x fs) e)),
)

module _ (ar : List ℕ) (count n : ℕ) (constants : List ℕ) (few : FewPlaces ar) where
  pub shaped : (bs : List Bool) → AllShaped ar (chosen bs (ground_facts ar count n))
  shaped bs = all-shaped ar (chosen bs (ground_facts ar count n))
      (λ x e. ground-shaped ar count n x few (sym (mem-ground ar count n x) ∙ chosen-within bs (ground_facts ar count n) x e))

  -- a fact of the state is one that is chosen
  pub state-fact : (c p : ℕ) (os : List ℕ) → (choice_state ar count n constants c).fact p os
      ≡ mem same_ground (ground p os) (chosen (bits (ground_count ar count n) c) (ground_facts ar count n))
  unfolding choice_state lent_choice state_of
  state-fact c p os = said-rows ar (chosen (bits (ground_count ar count n) c) (ground_facts ar count n)) p os (shaped (bits (ground_count ar count n) c))

  -- ground fact i is true exactly if bit i of c is 1
  pub state-ground : (c i p : ℕ) (os : List ℕ) → i < ground_count ar count n → get_or (ground_facts ar count n) i (ground 0 []) ≡ ground p os
      → (choice_state ar count n constants c).fact p os ≡ get_or (bits (ground_count ar count n) c) i false
  state-ground c i p os h e =
      let l = length-ground ar count n in
      let b = length-bits (ground_count ar count n) c in
      state-fact c p os ∙ ap (λ g. mem same_ground g (chosen (bits (ground_count ar count n) c) (ground_facts ar count n))) (sym e)
      ∙ chosen_at (bits (ground_count ar count n) c) (ground_facts ar count n) i (ground 0 []) (omega arith) (ground-nodup ar count n) (omega arith)

  -- what is no ground fact is false
  pub state-other : (c p : ℕ) (os : List ℕ) → is_ground ar count n (ground p os) ≡ false → (choice_state ar count n constants c).fact p os ≡ false
  state-other c p os e = state-fact c p os
      ∙ not-true _ _ (chosen-within (bits (ground_count ar count n) c) (ground_facts ar count n) (ground p os)) (mem-ground ar count n (ground p os) ∙ e)

  -- the number of a choice by a test
  unfoldable pub choice_number : (Ground → Bool) → ℕ
  choice_number f = number_of (map f (ground_facts ar count n))

  length-choice : (f : Ground → Bool) (gs : List Ground) → length (map f gs) ≡ length gs
  length-choice f [] = refl
  length-choice f (x ∷ xs) = ap suc (length-choice f xs)

  -- every choice of true or false for the ground facts is that of a number below 2^g
  pub choice-below : (f : Ground → Bool) → choice_number f < 2 ^ ground_count ar count n
  unfolding choice_number
  choice-below f = ap≤ (length-choice f (ground_facts ar count n) ∙ length-ground ar count n) (number-below (map f (ground_facts ar count n)))
    where
      ap≤ : {k g c : ℕ} → k ≡ g → c < 2 ^ k → c < 2 ^ g
      ap≤ e h = rw (← e) h

  pub choice-made : (f : Ground → Bool) (p : ℕ) (os : List ℕ) → is_ground ar count n (ground p os) ≡ true
      → (choice_state ar count n constants (choice_number f)).fact p os ≡ f (ground p os)
  unfolding choice_number
  choice-made f p os e =
      let k : length (map f (ground_facts ar count n)) ≡ ground_count ar count n = length-choice f (ground_facts ar count n) ∙ length-ground ar count n in
      let b : bits (ground_count ar count n) (number_of (map f (ground_facts ar count n))) ≡ map f (ground_facts ar count n)
      = ap (λ g. bits g (number_of (map f (ground_facts ar count n)))) (sym k) ∙ bits-number (map f (ground_facts ar count n)) in
      state-fact (number_of (map f (ground_facts ar count n))) p os
      ∙ ap (λ bs. mem same_ground (ground p os) (chosen bs (ground_facts ar count n))) b
      ∙ chosen_by f (ground_facts ar count n) (ground p os)
      ∙ rw (mem-ground ar count n (ground p os) ∙ e)

  at-ground : (c i : ℕ) (g : Ground) → i < ground_count ar count n → get_or (ground_facts ar count n) i (ground 0 []) ≡ g
      → (d : ℕ) → ((p : ℕ) (os : List ℕ) → is_ground ar count n (ground p os) ≡ true → (choice_state ar count n constants c).fact p os ≡ (choice_state ar count n constants d).fact p os)
      → get_or (bits (ground_count ar count n) c) i false ≡ get_or (bits (ground_count ar count n) d) i false
  at-ground c i (ground p os) h e d same =
      let l = length-ground ar count n in
      let m : mem same_ground (ground p os) (ground_facts ar count n) ≡ true
      = ap (λ g. mem same_ground g (ground_facts ar count n)) (sym e) ∙ mem-at (ground_facts ar count n) i (ground 0 []) (omega arith) in
      sym (state-ground c i p os h e) ∙ same p os (sym (mem-ground ar count n (ground p os)) ∙ m) ∙ state-ground d i p os h e

  -- and of one only
  pub choice-one : (c d : ℕ) → c < 2 ^ ground_count ar count n → d < 2 ^ ground_count ar count n
      → ((p : ℕ) (os : List ℕ) → is_ground ar count n (ground p os) ≡ true → (choice_state ar count n constants c).fact p os ≡ (choice_state ar count n constants d).fact p os)
      → c ≡ d
  choice-one c d h k same =
      sym (number-bits (ground_count ar count n) c h)
      ∙ ap number_of (ext_get_or false (bits (ground_count ar count n) c) (bits (ground_count ar count n) d) (length-bits (ground_count ar count n) c ∙ sym (length-bits (ground_count ar count n) d))
      (λ i l. let b = length-bits (ground_count ar count n) c in at-ground c i (get_or (ground_facts ar count n) i (ground 0 [])) (omega arith) refl d same))
      ∙ number-bits (ground_count ar count n) d k
