-- Sorting in by moving the greater ones up, with one more than the limit of each kind kept, comes to the same words of a reward: up to the limit the variables are the
-- same, and above it the words' first fault and 8 do not depend on how variables are numbered.
use Rattle.std.specs.Prelude.{ℕ, suc, ◌≤◌, ◌<◌, ◌≡◌, refl, Bool, true, false, cond, eqb, ltb, length}
use Rattle.std.proofs.Math.Path.{ap₂}
use mathlib.Core.List.{List, [], ◌∷◌}
use Rattle.std.proofs.Common.{arith, lt-ltb, le-ltb, eq-eqb, ne_eqb, le-leb}
use Rattle.std.proofs.Math.Decide.{dec_lt}
use Rattle.std.proofs.lemmas.Bool.{lt-leb}
use Rattle.basics.specs.Tests.{Cmp, below, equal, above, cmp}
use Rattle.label.specs.Limits.{variable_count}
use Rattle.words.specs.Keys.{name_of}
use Rattle.words.specs.declared.Key.{Key}
use Rattle.events.specs.declared.Event.{Event}
use Rattle.reading.specs.declared.Binding.TheVariants.{Any}
use Rattle.reading.specs.Reading.{Environment, reading}
use Rattle.reading.specs.NumberingLaws.{reading-many}
use Rattle.reading.specs.NumberingLaws.Over.{variables, minimums}
use Rattle.reading.specs.Occurrences.{variable_keys, minimum_keys}
use Rattle.reading.specs.Numbering.{number_of, all_numbered, inserted, by_number, variables_first, met_first, reward_reading}
use Rattle.reader.specs.Gathering.{moved, moved_in, gathered, kept_first, kept_met}

-- ===== Sorted in =====

abbrev order : Key → ℕ
order k = number_of (name_of k)

-- every N is n at least, and each above the one before it
abbrev Rising : ℕ → List Key → Type 0
Rising n [] = Unit {0}
Rising n (x ∷ xs) = (n ≤ order x) × Rising (suc (order x)) xs

inserted_rising : (n : ℕ) (k : Key) (xs : List Key) → n ≤ order k → Rising n xs → Rising n (inserted k xs)
unfolding inserted
inserted_rising n k [] h r = (h, tt)
inserted_rising n k (x ∷ xs) h r = go (cmp (order k) (order x)) (λ l. inserted_rising (suc (order x)) k xs l r.1)
  where
    go : Cmp (order k) (order x) → (suc (order x) ≤ order k → Rising (suc (order x)) (inserted k xs))
        → Rising n (cond (ltb (order k) (order x)) (k ∷ x ∷ xs) (cond (eqb (order k) (order x)) (x ∷ xs) (x ∷ inserted k xs)))
    go (below l) ih = rw (lt-ltb (order k) (order x) l) (h, (omega arith, r.1))
    go (equal e) ih = rw (le-ltb (order k) (order x) (omega arith), eq-eqb (order k) (order x) e) r
    go (above g) ih = rw (le-ltb (order k) (order x) (omega arith), ne_eqb (order k) (order x) (λ (e : order k ≡ order x). omega arith)) (r.0, ih (omega arith))

inserted-grows : (k : Key) (xs : List Key) → length xs ≤ length (inserted k xs)
unfolding inserted
inserted-grows k [] = omega arith
inserted-grows k (x ∷ xs) = go (ltb (order k) (order x)) (eqb (order k) (order x)) (inserted-grows k xs)
  where
    go : (a b : Bool) → length xs ≤ length (inserted k xs) → suc (length xs) ≤ length (cond a (k ∷ x ∷ xs) (cond b (x ∷ xs) (x ∷ inserted k xs)))
    go true b h = omega arith
    go false true h = omega arith
    go false false h = omega arith

-- what stands before all others moves them up
moved_front : (x : Key) (xs : List Key) → Rising (suc (order x)) xs → moved x xs ≡ x ∷ xs
unfolding moved
moved_front x [] r = refl
moved_front x (y ∷ ys) r = rw (lt-ltb (order x) (order y) (omega (arith, r.0)), moved_front y ys r.1)

moved-inserted : (n : ℕ) (k : Key) (xs : List Key) → Rising n xs → moved k xs ≡ inserted k xs
unfolding moved inserted
moved-inserted n k [] r = refl
moved-inserted n k (x ∷ xs) r =
    ap₂ (λ (us ws : List Key). cond (ltb (order k) (order x)) (k ∷ us) (cond (eqb (order k) (order x)) (x ∷ xs) (x ∷ ws)))
    (moved_front x xs r.1) (moved-inserted (suc (order x)) k xs r.1)

-- ===== Up to the limit the same, above it as many =====

-- the variables kept, and all of them
data Alike (vs us : List Key) : Type 0 where
  same : vs ≡ us → Rising 0 us → Alike vs us
  many : variable_count < length vs → variable_count < length us → Alike vs us

alike-more : (vs us : List Key) (k : Key) → Alike vs us → Alike (moved_in vs k) (inserted k us)
alike-more vs us k (many h l) = many (rw (lt-leb (length vs) variable_count h) h) (omega (arith, inserted-grows k us))
alike-more vs us k (same e r) = go (dec_lt variable_count (length us))
  where
    go : Dec (variable_count < length us) → Alike (moved_in vs k) (inserted k us)
    go (yes h) = many (rw (e, lt-leb (length us) variable_count h) h) (omega (arith, inserted-grows k us))
    go (no h) = same (rw (e, le-leb (length us) variable_count (omega arith)) (moved-inserted 0 k us r)) (inserted_rising 0 k us (omega arith) r)

alike_all : (ks vs us : List Key) → Alike vs us → Alike (gathered vs ks) (by_number us ks)
alike_all [] vs us a = a
alike_all (k ∷ ks) vs us a = alike_all ks (moved_in vs k) (inserted k us) (alike-more vs us k a)

kept-alike : (ks : List Key) → Alike (kept_first [] ks) (variables_first ks)
unfolding variables_first kept_first
kept-alike ks = go (all_numbered ks)
  where
    go : (b : Bool) → Alike (cond b (gathered [] ks) []) (cond b (by_number [] ks) [])
    go true = alike_all ks [] [] (same refl tt)
    go false = same refl tt

-- ===== A reward's words =====

module _ (σ : Environment) (any : σ.binding ≡ Any) where
  -- the variables that the code keeps come to the same
  pub kept-reading : (es : List Event) → reading σ es (kept_met es) ≡ reward_reading σ es
  unfolding reward_reading
  kept-reading es =
      by-kinds (kept_met es).variables (met_first es).variables (kept_met es).minimums (met_first es).minimums (kept-alike (variable_keys es)) (kept-alike (minimum_keys es))
    where
      by-kinds : (us vs xs ys : List Key) → Alike us vs → Alike xs ys
          → reading σ es (record { variables = us; minimums = xs }) ≡ reading σ es (record { variables = vs; minimums = ys })
      by-kinds us vs xs ys (same e r) (same f q) = ap₂ (λ (v x : List Key). reading σ es (record { variables = v; minimums = x })) e f
      by-kinds us vs xs ys (many h l) a = reading-many σ any es _ _ (variables h) (variables l)
      by-kinds us vs xs ys (same e r) (many h l) = reading-many σ any es _ _ (minimums h) (minimums l)
