-- Closing up and moving apart, kind by kind: the number stays, and operands apart have no variable in common.
use Rattle.std.specs.Prelude.{◌≡◌, Bool, true, false, cond, ℕ, ◌+◌, ◌≤◌, ◌<◌, eqb, ltb}
use mathlib.Core.List.{List, ◌∷◌, Memᴰ}
use Rattle.std.proofs.Common.{arith, lt-ltb, le-ltb}
use Rattle.std.proofs.Math.ListN.{length}
use Rattle.basics.specs.Members.{mem}
use Rattle.label.specs.Limits.{first_variable, first_minimum}
use Rattle.label.specs.Renamings.{numbering}
use Rattle.label.proofs.RenamingLaws.{rank_less, rank_below, numbering-low, numbering-variable, numbering-minimum}
use Rattle.diagram.specs.Diagram.{Tree}
use Rattle.state.specs.State.{Atomic, State, Good, value, Fits}
use Rattle.state.specs.Terms.{Each, Terms, rename}
use Rattle.state.proofs.ValueLaws.{by-low, Terms-map}
use Rattle.state.specs.Highest.{vars, Bound}
use Rattle.state.proofs.HighestLaws.{vars-up, vars-in}
use Rattle.minimum.specs.Number.{Number, maximums, minimums, number}
use Rattle.minimum.specs.Inner.{KindByKind}
use Rattle.minimum.specs.Operations.{Rises, closed_kinds, after_kinds}
use Rattle.minimum.proofs.NumberLaws.{number_is, number-equal, below_in, from_in}
use Rattle.minimum.proofs.ApartLaws.{in_mem, Told, number-told}
use Rattle.minimum.proofs.RenamedLaws.{number-renamed, order-single}

-- ===== Numbering kind by kind =====

each_at : (P : ℕ → Type 0) (vs : List ℕ) → Each P vs → (t : ℕ) → Memᴰ t vs → P t
each_at P (v ∷ vs) w t (Memᴰ.head e) = rw e w.0
each_at P (v ∷ vs) w t (Memᴰ.tail m) = each_at P vs w.1 t m
each_at P mathlib.Core.List.[] w t x'' = elim x'' [ ]

vars-variable : (d : Tree Atomic) (t : ℕ) → Memᴰ t (vars d) → first_variable ≤ t
vars-variable d t i = each_at (λ v. first_variable ≤ v) (vars d) (vars-up d) t i

in-maximums : (d : Tree Atomic) (t : ℕ) → Memᴰ t (vars d) → t < first_minimum → mem eqb t (maximums d) ≡ true
unfolding maximums
in-maximums d t i h = in_mem t (maximums d) (below_in first_minimum t h (vars d) i)

in-minimums : (d : Tree Atomic) (t : ℕ) → Memᴰ t (vars d) → first_minimum ≤ t → mem eqb t (minimums d) ≡ true
unfolding minimums
in-minimums d t i h = in_mem t (minimums d) (from_in first_minimum t h (vars d) i)

-- the variables of d numbered from m and from n on: those of the one kind end before those of the other begin
module _ (d : Tree Atomic) (m n : ℕ) (low : first_variable ≤ m) (room : m + length (maximums d) ≤ first_minimum) (high : first_minimum ≤ n) where
  ρ : ℕ → ℕ
  ρ = numbering (maximums d) (minimums d) m n

  at-maximum : (t : ℕ) → Memᴰ t (vars d) → t < first_minimum → (m ≤ ρ t) × (ρ t < m + length (maximums d))
  unfolding ρ
  at-maximum t i h = rw (numbering-variable (maximums d) (minimums d) m n t (vars-variable d t i) h) (omega (arith, rank_below (maximums d) t (in-maximums d t i h)))

  at-minimum : (t : ℕ) → Memᴰ t (vars d) → first_minimum ≤ t → (n ≤ ρ t) × (ρ t < n + length (minimums d))
  unfolding ρ
  at-minimum t i h = rw (numbering-minimum (maximums d) (minimums d) m n t h) (omega (arith, rank_below (minimums d) t (in-minimums d t i h)))

  numbered-order : (t u : ℕ) → Memᴰ t (vars d) → Memᴰ u (vars d) → t < u → ρ t < ρ u
  unfolding ρ
  numbered-order t u i j l = by-low (ρ t < ρ u) first_minimum u
      (λ h. rw (numbering-variable (maximums d) (minimums d) m n t (vars-variable d t i) (omega arith), numbering-variable (maximums d) (minimums d) m n u (vars-variable d u j) h)
      (omega (arith, rank_less (maximums d) t u (in-maximums d t i (omega arith)) l)))
      (λ h. by-low (ρ t < ρ u) first_minimum t
      (λ k. omega (arith, at-maximum t i k, at-minimum u j h))
      (λ k. rw (numbering-minimum (maximums d) (minimums d) m n t k, numbering-minimum (maximums d) (minimums d) m n u h)
      (omega (arith, rank_less (minimums d) t u (in-minimums d t i k) l))))

  pub numbered-kinds : KindByKind (numbering (maximums d) (minimums d) m n) d
  unfolding ρ
  numbered-kinds = record {
    low = numbering-low (maximums d) (minimums d) m n;
    kinds = λ t i. record {
      variable = by-low (first_variable ≤ ρ t) first_minimum t (λ h. omega (arith, at-maximum t i h)) (λ h. omega (arith, at-minimum t i h));
      maximum = λ h. omega (arith, at-maximum t i h);
      minimum = λ h. omega (arith, at-minimum t i h);
    };
    single = order-single (numbering (maximums d) (minimums d) m n) (vars d) numbered-order;
  }

  -- whatever is so of the numbers given, each kind by itself
  pub numbered-terms : (P : ℕ → Type 0) → ((t : ℕ) → m ≤ t → t < m + length (maximums d) → P t) → ((t : ℕ) → n ≤ t → t < n + length (minimums d) → P t)
      → Terms (λ t. first_variable ≤ t → P t) (rename (numbering (maximums d) (minimums d) m n) d)
  unfolding ρ
  numbered-terms P p q = Terms-map (λ t. first_variable ≤ t → Memᴰ t (vars d)) (λ t. first_variable ≤ t → P t) ρ
      (λ t i k. by-low (P (ρ t)) first_variable t
      (λ h. let e = numbering-low (maximums d) (minimums d) m n t h in absurd (omega arith))
      (λ h. by-low (P (ρ t)) first_minimum t
      (λ l. let r = at-maximum t (i h) l in p (ρ t) r.0 r.1)
      (λ l. let r = at-minimum t (i h) l in q (ρ t) r.0 r.1))) d (vars-in d)

-- ===== Closing up =====

pub number-closed : {s : State} {os : List ℕ} (d : Tree Atomic) → first_variable + length (maximums d) ≤ first_minimum → {x : ℕ} → Number s os d x → Number s os (closed_kinds d) x
unfolding closed_kinds
number-closed d room = number-renamed d (numbering (maximums d) (minimums d) first_variable first_minimum)
    (numbered-kinds d first_variable first_minimum (omega arith) room (omega arith))

-- ===== Operands apart =====

-- a variable of the first operand: below its count of the kind
first_of : Tree Atomic → ℕ → Bool
first_of a t = cond (ltb t first_minimum) (ltb t (first_variable + length (maximums a))) (ltb t (first_minimum + length (minimums a)))

module _ (a b : Tree Atomic) (room : first_variable + length (maximums a) + length (maximums b) ≤ first_minimum) where
  apart-told : Told (first_of a) (closed_kinds a) (after_kinds a b)
  unfolding first_of closed_kinds after_kinds
  apart-told = record {
    first = numbered-terms a first_variable first_minimum (omega arith) (omega arith) (omega arith) (λ t. first_of a t ≡ true)
        (λ t h k. rw (lt-ltb t first_minimum (omega arith)) (lt-ltb t (first_variable + length (maximums a)) k))
        (λ t h k. rw (le-ltb t first_minimum h) (lt-ltb t (first_minimum + length (minimums a)) k));
    second = numbered-terms b (first_variable + length (maximums a)) (first_minimum + length (minimums a)) (omega arith) room (omega arith) (λ t. first_of a t ≡ false)
        (λ t h k. rw (lt-ltb t first_minimum (omega arith)) (le-ltb t (first_variable + length (maximums a)) h))
        (λ t h k. rw (le-ltb t first_minimum (omega arith)) (le-ltb t (first_minimum + length (minimums a)) h));
  }

  -- sum, product and max done apart
  pub number-combined : {s : State} {os : List ℕ} (op : ℕ → ℕ → ℕ) → Rises op → (c : Tree Atomic)
      → ((θ : ℕ → ℕ) → Fits s os θ → value s c θ ≡ op (value s (closed_kinds a) θ) (value s (after_kinds a b) θ))
      → {x y : ℕ} → Number s os a x → Number s os b y → Number s os c (op x y)
  unfolding after_kinds
  number-combined {s} {os} op rises c e m k = number-told s os (first_of a) (closed_kinds a) (after_kinds a b) apart-told op rises c e
      (number-closed a (omega arith) m)
      (number-renamed b (numbering (maximums b) (minimums b) (first_variable + length (maximums a)) (first_minimum + length (minimums a)))
      (numbered-kinds b (first_variable + length (maximums a)) (first_minimum + length (minimums a)) (omega arith) room (omega arith)) k)

  pub number-of-combined : (s : State) (os : List ℕ) → Good s → Bound s os → (op : ℕ → ℕ → ℕ) → Rises op → (c : Tree Atomic)
      → ((θ : ℕ → ℕ) → Fits s os θ → value s c θ ≡ op (value s (closed_kinds a) θ) (value s (after_kinds a b) θ))
      → number s os c ≡ op (number s os a) (number s os b)
  number-of-combined s os good bound op rises c e =
      number-equal s os good bound c _ (number-combined op rises c e (number_is s os good bound a) (number_is s os good bound b))
