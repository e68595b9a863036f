-- Laws of ground facts: how many there are, which they are, and that none is repeated.
use Rattle.std.specs.Prelude.{◌≡◌, Bool, ◌&&◌, ◌||◌, List, [], ◌∷◌, ◌++◌, map, length, get_or, eqb, ltb}
use Rattle.std.proofs.Math.Path.{refl}
use Rattle.std.proofs.Common.{ap, sym, subst, ◌∙◌, arith, length-append, eqb-true, eq-eqb, ne_eqb, ltb-true, lt-ltb}
use Rattle.std.proofs.Math.Bool.{true, false}
use Prim.Native.Nat.{ℕ, zero, suc, pred, ◌+◌, ◌*◌, ◌^◌, ◌<◌}
use Rattle.std.proofs.Math.Nat.{pow-zero, pow-succ'}
use Rattle.std.proofs.lemmas.List.{length-map}
use Rattle.std.proofs.lemmas.Bool.{eqb-false}
use Rattle.basics.specs.Tests.{Flag, is_true, is_false, flag, and_left, and_right}
use Rattle.basics.specs.Members.{IsTest, mem, mem-append, NoDup, clash}
use Rattle.diagram.specs.Words.{up_to, equal_lists}
use Rattle.diagram.specs.WordLaws.{lists-equal, equal-lists}
use Rattle.diagram.specs.RowLaws.{same_tests}
use Rattle.state.specs.Lent.{some_below, all_below}
use Rattle.state.proofs.LentLaws.{some-found, some-made, some-none}
use Rattle.state.specs.Max.{gather, tuples}
use Rattle.state.proofs.MaxLaws.{gather-last}
use Rattle.spread.specs.Inner.{same_ground}
use Rattle.spread.specs.Ground.{Ground, ground, joined, facts_of, ground_facts, ground_count, is_ground}

-- ===== Tests of equality =====
pub list-test : IsTest equal_lists
list-test = record { sound = lists-equal; complete = equal-lists }

ground-sound : (a b : Ground) → same_ground a b ≡ true → a ≡ b
ground-sound (ground p os) (ground q us) e =
    let x = eqb-true p q (and_left (eqb p q) _ e) in
    let y = lists-equal os us (and_right (eqb p q) _ e) in
    cc

ground-complete : (a : Ground) → same_ground a a ≡ true
ground-complete (ground p os) = rw (eq-eqb p p refl, equal-lists os)

pub ground-test : IsTest same_ground
ground-test = record { sound = ground-sound; complete = ground-complete }

-- ===== How many =====
pub length-joined : {A : Type 0} (n k : ℕ) (f : ℕ → List A) → ((i : ℕ) → length (f i) ≡ k) → length (joined n f) ≡ n * k
unfolding joined
length-joined zero k f h = omega arith
length-joined (suc n) k f h =
    let a = length-append (joined n f) (f n) in
    let b = length-joined n k f h in
    let c = h n in
    let z : suc n * k ≡ n * k + k = omega arith in
    omega arith

gather-joined : {A : Type 0} (n : ℕ) (f : ℕ → List A) → gather f (up_to n) ≡ joined n f
unfolding joined
gather-joined zero f = refl
gather-joined (suc n) f = gather-last f (up_to n) n ∙ ap (◌++ f n) (gather-joined n f)

-- the tuples of c + 1 objects: those with first object 0, then those with 1, ..
pub tuples-joined : (n c : ℕ) → tuples n (suc c) ≡ joined n (λ o. map (λ os. o ∷ os) (tuples n c))
unfolding tuples
tuples-joined n c = gather-joined n (λ o. map (λ os. o ∷ os) (tuples n c))

pub length-tuples : (n c : ℕ) → length (tuples n c) ≡ n ^ c
unfolding tuples
length-tuples n zero = sym (pow-zero n)
length-tuples n (suc c) =
    ap length (tuples-joined n c)
    ∙ length-joined n (n ^ c) (λ o. map (λ os. o ∷ os) (tuples n c)) (λ o. length-map (tuples n c) (λ os. o ∷ os) ∙ length-tuples n c)
    ∙ sym (pow-succ' n c)

-- the count is that of the facts
pub length-ground : (ar : List ℕ) (count n : ℕ) → length (ground_facts ar count n) ≡ ground_count ar count n
unfolding ground_facts ground_count facts_of joined
length-ground ar zero n = refl
length-ground ar (suc p) n =
    let a = length-append (ground_facts ar p n) (facts_of ar n (suc p)) in
    let b = length-ground ar p n in
    let c = length-map (tuples n (get_or ar (suc p) 0)) (ground (suc p)) ∙ length-tuples n (get_or ar (suc p) 0) in
    omega arith

-- ===== Which =====
module _ {A : Type 0} (eq : A → A → Bool) where
  mem-joined : (x : A) (n : ℕ) (f : ℕ → List A) → mem eq x (joined n f) ≡ some_below n (λ i. mem eq x (f i))
  unfolding joined
  mem-joined x zero f = refl
  mem-joined x (suc n) f = mem-append eq x (joined n f) (f n) ∙ rw (mem-joined x n f)

and-or : (a b c : Bool) → ((a && b) || (a && c)) ≡ (a && (b || c))
and-or true b c = refl
and-or false b c = refl

and_none : (a : Bool) → false ≡ (a && false)
and_none true = refl
and_none false = refl

mem-heads : (o i : ℕ) (us : List ℕ) (ts : List (List ℕ)) → mem equal_lists (o ∷ us) (map (λ os. i ∷ os) ts) ≡ (eqb o i && mem equal_lists us ts)
mem-heads o i us [] = and_none (eqb o i)
mem-heads o i us (t ∷ ts) = rw (mem-heads o i us ts) (and-or (eqb o i) (equal_lists us t) (mem equal_lists us ts))

nil-heads : (i : ℕ) (ts : List (List ℕ)) → mem equal_lists [] (map (λ os. i ∷ os) ts) ≡ false
nil-heads i [] = refl
nil-heads i (t ∷ ts) = nil-heads i ts

some-same-at : (n o : ℕ) (b : Bool) → some_below n (λ i. eqb o i && b) ≡ (ltb o n && b)
some-same-at n o b = same_tests _ _ there back
  where
    there : some_below n (λ i. eqb o i && b) ≡ true → (ltb o n && b) ≡ true
    there e =
        let f = some-found n (λ i. eqb o i && b) e in
        let q = eqb-true o f.0 (and_left (eqb o f.0) b f.2) in
        let l = f.1 in
        rw (lt-ltb o n (omega arith)) (and_right (eqb o f.0) b f.2)

    back : (ltb o n && b) ≡ true → some_below n (λ i. eqb o i && b) ≡ true
    back e = some-made n (λ i. eqb o i && b) o (ltb-true o n (and_left (ltb o n) b e)) (rw (eq-eqb o o refl) (and_right (ltb o n) b e))

eqb-suc : (a b : ℕ) → eqb (suc a) (suc b) ≡ eqb a b
eqb-suc a b = go (flag (eqb a b))
  where
    go : Flag (eqb a b) → eqb (suc a) (suc b) ≡ eqb a b
    go (is_true e) = let q = eqb-true a b e in eq-eqb (suc a) (suc b) (omega arith) ∙ sym e
    go (is_false e) = let q = eqb-false a b e in ne_eqb (suc a) (suc b) (omega arith) ∙ sym e

and-move : (a b c : Bool) → (a && (b && c)) ≡ (b && (a && c))
and-move true true c = refl
and-move true false c = refl
and-move false true c = refl
and-move false false c = refl

pub mem-tuples : (n : ℕ) (os : List ℕ) (c : ℕ) → mem equal_lists os (tuples n c) ≡ (eqb (length os) c && all_below n os)
unfolding tuples
mem-tuples n [] zero = refl
mem-tuples n [] (suc c) =
    ap (mem equal_lists []) (tuples-joined n c)
    ∙ mem-joined equal_lists [] n (λ o. map (λ os. o ∷ os) (tuples n c)) ∙ some-none n _ (λ i l. nil-heads i (tuples n c)) ∙ sym (rw (ne_eqb 0 (suc c) (omega arith)))
mem-tuples n (o ∷ us) zero = sym (rw (ne_eqb (suc (length us)) 0 (omega arith)))
mem-tuples n (o ∷ us) (suc c) =
    ap (mem equal_lists (o ∷ us)) (tuples-joined n c)
    ∙ mem-joined equal_lists (o ∷ us) n (λ o. map (λ os. o ∷ os) (tuples n c))
    ∙ some-agree n _ _ (λ i. mem-heads o i us (tuples n c))
    ∙ some-same-at n o (mem equal_lists us (tuples n c))
    ∙ rw (mem-tuples n us c, eqb-suc (length us) c) (and-move (ltb o n) (eqb (length us) c) (all_below n us))
  where
    some-agree : (n : ℕ) (q r : ℕ → Bool) → ((i : ℕ) → q i ≡ r i) → some_below n q ≡ some_below n r
    some-agree zero q r h = refl
    some-agree (suc n) q r h = rw (some-agree n q r h, h n)

mem-facts : (p q : ℕ) (os : List ℕ) (ts : List (List ℕ)) → mem same_ground (ground p os) (map (ground q) ts) ≡ (eqb p q && mem equal_lists os ts)
mem-facts p q os [] = and_none (eqb p q)
mem-facts p q os (t ∷ ts) = rw (mem-facts p q os ts) (and-or (eqb p q) (equal_lists os t) (mem equal_lists os ts))

-- the ground facts are those of the declared predicates, with as many objects as the predicate has places, all below n
pub mem-ground : (ar : List ℕ) (count n : ℕ) (g : Ground) → mem same_ground g (ground_facts ar count n) ≡ is_ground ar count n g
unfolding ground_facts facts_of is_ground
mem-ground ar count n (ground p os) =
    mem-joined same_ground (ground p os) count (λ i. map (ground (suc i)) (tuples n (get_or ar (suc i) 0))) ∙ same_tests _ _ there back
  where
    each : (i : ℕ) → mem same_ground (ground p os) (map (ground (suc i)) (tuples n (get_or ar (suc i) 0)))
        ≡ (eqb p (suc i) && (eqb (length os) (get_or ar (suc i) 0) && all_below n os))
    each i = mem-facts p (suc i) os (tuples n (get_or ar (suc i) 0)) ∙ rw (mem-tuples n os (get_or ar (suc i) 0))

    there : some_below count (λ i. mem same_ground (ground p os) (map (ground (suc i)) (tuples n (get_or ar (suc i) 0)))) ≡ true
        → ((ltb 0 p && ltb (pred p) count) && (eqb (length os) (get_or ar p 0) && all_below n os)) ≡ true
    there e =
        let f = some-found count _ e in
        let i = f.0 in
        let l : i < count = f.1 in
        let t = sym (each i) ∙ f.2 in
        let q = eqb-true p (suc i) (and_left (eqb p (suc i)) _ t) in
        rw (q, lt-ltb 0 (suc i) (omega arith), lt-ltb i count l) (and_right (eqb p (suc i)) _ t)

    back : ((ltb 0 p && ltb (pred p) count) && (eqb (length os) (get_or ar p 0) && all_below n os)) ≡ true
        → some_below count (λ i. mem same_ground (ground p os) (map (ground (suc i)) (tuples n (get_or ar (suc i) 0)))) ≡ true
    back e =
        let a = and_left (ltb 0 p && ltb (pred p) count) _ e in
        let b = and_right (ltb 0 p && ltb (pred p) count) _ e in
        let l = ltb-true 0 p (and_left (ltb 0 p) _ a) in
        let q : p ≡ suc (pred p) = omega arith in
        some-made count _ (pred p) (ltb-true (pred p) count (and_right (ltb 0 p) _ a)) (each (pred p) ∙ rw (← q, eq-eqb p p refl) b)

-- ===== None is repeated =====
module _ {A : Type 0} (eq : A → A → Bool) where
  nodup_append : (xs ys : List A) → NoDup eq xs → NoDup eq ys → ((x : A) → mem eq x xs ≡ true → mem eq x ys ≡ false) → IsTest eq → NoDup eq (xs ++ ys)
  nodup_append [] ys a b h t = b
  nodup_append (x ∷ xs) ys a b h t = (
    mem-append eq x xs ys ∙ rw a.0 (h x (rw (t.complete x))),
    nodup_append xs ys a.1 b (λ y m. h y (later (eq y x) m)) t,
  )
    where
      later : (b : Bool) {c : Bool} → c ≡ true → (b || c) ≡ true
      later true e = refl
      later false e = e

  -- lists apart by a key
  nodup-joined : (key : A → ℕ) (n : ℕ) (f : ℕ → List A) → IsTest eq → ((i : ℕ) → NoDup eq (f i)) → ((i : ℕ) (x : A) → mem eq x (f i) ≡ true → key x ≡ i) → NoDup eq (joined n f)
  unfolding joined
  nodup-joined key zero f t d k = tt
  nodup-joined key (suc n) f t d k = nodup_append (joined n f) (f n) (nodup-joined key n f t d k) (d n) (λ x m. go x m (flag (mem eq x (f n)))) t
    where
      go : (x : A) → mem eq x (joined n f) ≡ true → Flag (mem eq x (f n)) → mem eq x (f n) ≡ false
      go x m (is_true e) =
          let s = some-found n _ (sym (mem-joined eq x n f) ∙ m) in
          let a = k s.0 x s.2 in
          let b = k n x e in
          let l = s.1 in
          absurd (omega arith)
      go x m (is_false e) = e

heads-nodup : (i : ℕ) (ts : List (List ℕ)) → NoDup equal_lists ts → NoDup equal_lists (map (λ os. i ∷ os) ts)
heads-nodup i [] d = tt
heads-nodup i (t ∷ ts) d = (mem-heads i i t ts ∙ rw (d.0, eq-eqb i i refl), heads-nodup i ts d.1)

head-key : (i : ℕ) (os : List ℕ) (ts : List (List ℕ)) → mem equal_lists os (map (λ os. i ∷ os) ts) ≡ true → get_or os 0 0 ≡ i
head-key i [] ts e = clash e (nil-heads i ts)
head-key i (o ∷ us) ts e = eqb-true o i (and_left (eqb o i) _ (sym (mem-heads o i us ts) ∙ e))

tuples-nodup : (n c : ℕ) → NoDup equal_lists (tuples n c)
unfolding tuples
tuples-nodup n zero = (refl, tt)
tuples-nodup n (suc c) = subst (NoDup equal_lists) (sym (tuples-joined n c))
    (nodup-joined equal_lists (λ os. get_or os 0 0) n (λ o. map (λ os. o ∷ os) (tuples n c)) list-test
    (λ o. heads-nodup o (tuples n c) (tuples-nodup n c)) (λ o os e. head-key o os (tuples n c) e))

facts-nodup : (q : ℕ) (ts : List (List ℕ)) → NoDup equal_lists ts → NoDup same_ground (map (ground q) ts)
facts-nodup q [] d = tt
facts-nodup q (t ∷ ts) d = (mem-facts q q t ts ∙ rw (d.0, eq-eqb q q refl), facts-nodup q ts d.1)

predicate : Ground → ℕ
predicate (ground p os) = p

fact-key : (i : ℕ) (g : Ground) (ts : List (List ℕ)) → mem same_ground g (map (ground (suc i)) ts) ≡ true → pred (predicate g) ≡ i
unfolding predicate
fact-key i (ground p os) ts e = let q = eqb-true p (suc i) (and_left (eqb p (suc i)) _ (sym (mem-facts p (suc i) os ts) ∙ e)) in omega arith

pub ground-nodup : (ar : List ℕ) (count n : ℕ) → NoDup same_ground (ground_facts ar count n)
unfolding ground_facts facts_of
ground-nodup ar count n = nodup-joined same_ground (λ g. pred (predicate g)) count (λ p. map (ground (suc p)) (tuples n (get_or ar (suc p) 0))) ground-test
    (λ p. facts-nodup (suc p) (tuples n (get_or ar (suc p) 0)) (tuples-nodup n (get_or ar (suc p) 0)))
    (λ p g e. fact-key p g (tuples n (get_or ar (suc p) 0)) e)
