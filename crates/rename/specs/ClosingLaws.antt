-- Laws of closing up and of moving apart (document 01, section 'Combination'; kind by kind, document 02, L12).
use Rattle.std.specs.Prelude.{◌≡◌, false, List, ℕ, ◌+◌, ◌-◌, ◌≤◌, ◌<◌, length, get_or, eqb}
use Rattle.std.proofs.Math.Bool.{true}
use Rattle.std.proofs.Common.{arith}
use Rattle.basics.specs.Tests.{Flag, is_true, is_false, flag, Cmp, below, equal, above, cmp}
use Rattle.basics.specs.Members.{mem, Within}
use Rattle.label.specs.Limits.{first_variable, variable_count, first_minimum, minimum_count}
use Rattle.label.specs.Labels.{are_arities}
use Rattle.label.proofs.LabelLaws.{term-below}
use Rattle.label.specs.Inner.{Increasing, Numbered}
use Rattle.label.specs.Renamings.{rank, renamed, numbering}
use Rattle.label.proofs.RenamingLaws.{rank_below, numbering-low, numbering-variable, numbering-minimum, numbering-increasing}
use Rattle.diagram.specs.Diagram.{Diagram}
use Rattle.diagram.specs.Rows.{rows}
use Rattle.diagram.specs.Listing.{Fine, Good}
use Rattle.diagram.specs.Variables.{occurs, occurring, variables, minimums, closed_from, closed, after}
use Rattle.rename.specs.Inner.{Named, KindsFit}
use Rattle.rename.specs.RelabelLaws.{labels-weaken, relabel-same}
use Rattle.rename.specs.Ascending.{consecutive}
use Rattle.rename.specs.AscendingLaws.{mem-place, rank-place, ascending-one, consecutive-ascending, in-consecutive, consecutive-in, rank-consecutive}
use Rattle.rename.specs.TermLaws.{renamed-same}
use Rattle.rename.specs.VariableLaws.{Origin, terms-each-occurs, named-labels, in-occurring, occurring-in, occurring-ascending, occurs-term, occurs-variable, occurs-minimum}
use Rattle.rename.specs.VariableLaws.{variables-few, minimums-few, terms-numbered, renaming-good, renaming-rows, occurs-renaming}
use Rattle.rename.specs.VariableLaws.{renaming-occurs}

-- one kind of variables, of the c numbers from f on: ρ gives those of d the numbers from k on, in their order, and no other term of d a number of the kind
record Kind (ar : List ℕ) (d : Diagram) (ρ : ℕ → ℕ) (f c k : ℕ) : Type 0 where
  from : f ≤ k
  end : k + length (occurring ar d f c) ≤ f + c
  on : (t : ℕ) → f ≤ t → t < f + c → ρ t ≡ k + rank (occurring ar d f c) t
  off : (t : ℕ) → occurs ar t d ≡ true → f ≤ ρ t → ρ t < f + c → (f ≤ t) × (t < f + c)

module _ (ar : List ℕ) (m n : ℕ) (d : Diagram) (fit : KindsFit ar m n d) (good : Good ar d) where
  pub closing-increasing : Increasing (Numbered (variables ar d) (minimums ar d)) (numbering (variables ar d) (minimums ar d) m n)
  closing-increasing =
      numbering-increasing (variables ar d) (minimums ar d) m n fit.variables-from fit.variables-end fit.minimums-from fit.minimums-end

  -- the renamed diagram has a listing
  pub closed_from-good : Good ar (closed_from ar m n d)
  unfolding closed_from
  closed_from-good = renaming-good ar good.arities _ _ closing-increasing d good (terms-numbered ar d good.fine)

  pub closed_from-occurs : (t : ℕ) → occurs ar t d ≡ true → occurs ar (numbering (variables ar d) (minimums ar d) m n t) (closed_from ar m n d) ≡ true
  unfolding closed_from
  closed_from-occurs t e = occurs-renaming ar good.arities _ _ closing-increasing d t good.fine (terms-numbered ar d good.fine) e

  pub occurs-closed_from : (t : ℕ) → occurs ar t (closed_from ar m n d) ≡ true → Origin ar (numbering (variables ar d) (minimums ar d) m n) d t
  unfolding closed_from
  occurs-closed_from t e = renaming-occurs ar good.arities _ _ closing-increasing d t good.fine (terms-numbered ar d good.fine) e

  -- the variables of one kind follow one another from k on
  module _ (f c k : ℕ) (kind : Kind ar d (numbering (variables ar d) (minimums ar d) m n) f c k) where
    closed_in : Within eqb (occurring ar (closed_from ar m n d) f c) (consecutive k (length (occurring ar d f c)))
    closed_in t e =
        let v = in-occurring ar (closed_from ar m n d) f c t e in
        let o = occurs-closed_from t v.0 in
        let u = o.origin in
        let g = o.gives in
        let b = kind.off u o.occurring (omega arith) (omega arith) in
        let x = kind.on u b.0 b.1 in
        let r = rank_below (occurring ar d f c) u (occurring-in ar d f c u o.occurring b.0 b.1) in
        consecutive-in k (length (occurring ar d f c)) t (omega arith) (omega arith)

    in-closed : Within eqb (consecutive k (length (occurring ar d f c))) (occurring ar (closed_from ar m n d) f c)
    in-closed t e =
        let b = in-consecutive k (length (occurring ar d f c)) t e in
        let i = t - k in
        let u = get_or (occurring ar d f c) i 0 in
        let v = in-occurring ar d f c u (mem-place (occurring ar d f c) i (omega arith)) in
        let r = rank-place f (occurring ar d f c) i (occurring-ascending ar d f c) (omega arith) in
        let x = kind.on u v.1 v.2 in
        let y : numbering (variables ar d) (minimums ar d) m n u ≡ t = omega arith in
        occurring-in ar (closed_from ar m n d) f c t (rw y at (closed_from-occurs u v.0)) (omega (arith, kind.from)) (omega (arith, kind.end))

    kind-consecutive : occurring ar (closed_from ar m n d) f c ≡ consecutive k (length (occurring ar d f c))
    kind-consecutive =
        ascending-one f k _ _ (occurring-ascending ar (closed_from ar m n d) f c) (consecutive-ascending k (length (occurring ar d f c))) closed_in in-closed

  variable-kind : Kind ar d (numbering (variables ar d) (minimums ar d) m n) first_variable variable_count m
  unfolding variables
  variable-kind = record {
    from = fit.variables-from;
    end = fit.variables-end;
    on = λ t h k. numbering-variable (variables ar d) (minimums ar d) m n t h k;
    off = λ t e h k. go t h k (cmp t first_variable) (cmp t first_minimum);
  }
    where
      least : (t : ℕ) → first_minimum ≤ t → numbering (variables ar d) (minimums ar d) m n t < first_minimum → (first_variable ≤ t) × (t < first_minimum)
      least t h k = absurd (omega (arith, fit.minimums-from, numbering-minimum (variables ar d) (minimums ar d) m n t h))

      go : (t : ℕ) → first_variable ≤ numbering (variables ar d) (minimums ar d) m n t → numbering (variables ar d) (minimums ar d) m n t < first_minimum
          → Cmp t first_variable → Cmp t first_minimum → (first_variable ≤ t) × (t < first_minimum)
      go t h k (below x) y = absurd (omega (arith, numbering-low (variables ar d) (minimums ar d) m n t x))
      go t h k (equal x) (below y) = (omega arith, y)
      go t h k (above x) (below y) = (omega arith, y)
      go t h k (equal x) (equal y) = least t (omega arith) k
      go t h k (equal x) (above y) = least t (omega arith) k
      go t h k (above x) (equal y) = least t (omega arith) k
      go t h k (above x) (above y) = least t (omega arith) k

  minimum-kind : Kind ar d (numbering (variables ar d) (minimums ar d) m n) first_minimum minimum_count n
  unfolding minimums
  minimum-kind = record {
    from = fit.minimums-from;
    end = fit.minimums-end;
    on = λ t h k. numbering-minimum (variables ar d) (minimums ar d) m n t h;
    off = λ t e h k. go t e h (cmp t first_variable) (cmp t first_minimum);
  }
    where
      -- a variable stays below the minimum variables
      high : (t : ℕ) → occurs ar t d ≡ true → first_variable ≤ t → t < first_minimum → first_minimum ≤ numbering (variables ar d) (minimums ar d) m n t → ⊥
      high t e h k l =
          omega (arith, fit.variables-end, numbering-variable (variables ar d) (minimums ar d) m n t h k, rank_below (variables ar d) t (occurs-variable ar d t e h k))

      least : (t : ℕ) → occurs ar t d ≡ true → first_minimum ≤ t → (first_minimum ≤ t) × (t < first_minimum + minimum_count)
      least t e h = (h, term-below t (occurs-term ar d t good.fine e))

      go : (t : ℕ) → occurs ar t d ≡ true → first_minimum ≤ numbering (variables ar d) (minimums ar d) m n t → Cmp t first_variable → Cmp t first_minimum
          → (first_minimum ≤ t) × (t < first_minimum + minimum_count)
      go t e h (below x) y = absurd (omega (arith, numbering-low (variables ar d) (minimums ar d) m n t x))
      go t e h (equal x) (below y) = absurd (high t e (omega arith) y h)
      go t e h (above x) (below y) = absurd (high t e (omega arith) y h)
      go t e h (equal x) (equal y) = least t e (omega arith)
      go t e h (equal x) (above y) = least t e (omega arith)
      go t e h (above x) (equal y) = least t e (omega arith)
      go t e h (above x) (above y) = least t e (omega arith)

  pub closed_from-variables : variables ar (closed_from ar m n d) ≡ consecutive m (length (variables ar d))
  unfolding variables
  closed_from-variables = kind-consecutive first_variable variable_count m variable-kind

  pub closed_from-minimums : minimums ar (closed_from ar m n d) ≡ consecutive n (length (minimums ar d))
  unfolding minimums
  closed_from-minimums = kind-consecutive first_minimum minimum_count n minimum-kind

-- closing up keeps the count of rows
pub closed-count : (ar : List ℕ) (d : Diagram) → are_arities ar ≡ true → Fine ar d → length (rows (closed ar d)) ≡ length (rows d)
unfolding closed closed_from
closed-count ar d arities fine =
    renaming-rows ar arities (Numbered (variables ar d) (minimums ar d)) (numbering (variables ar d) (minimums ar d) first_variable first_minimum)
    (numbering-increasing (variables ar d) (minimums ar d) first_variable first_minimum
    (omega arith) (omega (arith, variables-few ar d)) (omega arith) (omega (arith, minimums-few ar d)))
    d fine (terms-numbered ar d fine)

module _ (ar : List ℕ) (d : Diagram) (good : Good ar d) where
  -- closing up is always possible
  pub closed-fit : KindsFit ar first_variable first_minimum d
  closed-fit = record {
    variables-from = omega arith;
    variables-end = omega (arith, variables-few ar d);
    minimums-from = omega arith;
    minimums-end = omega (arith, minimums-few ar d);
  }

  pub closed-good : Good ar (closed ar d)
  unfolding closed
  closed-good = closed_from-good ar first_variable first_minimum d closed-fit good

  pub closed-rows : length (rows (closed ar d)) ≡ length (rows d)
  closed-rows = closed-count ar d good.arities good.fine

  pub closed-variables : variables ar (closed ar d) ≡ consecutive first_variable (length (variables ar d))
  unfolding closed
  closed-variables = closed_from-variables ar first_variable first_minimum d closed-fit good

  pub closed-minimums : minimums ar (closed ar d) ≡ consecutive first_minimum (length (minimums ar d))
  unfolding closed
  closed-minimums = closed_from-minimums ar first_variable first_minimum d closed-fit good

-- a member of m, m + 1, .. has its own number
rank-stays : (m n t : ℕ) (xs : List ℕ) → xs ≡ consecutive m n → mem eqb t xs ≡ true → m + rank xs t ≡ t
rank-stays m n t xs v i = let b = in-consecutive m n t (rw v at i) in rw v (rank-consecutive m n t b.0 (omega arith))

-- a diagram whose variables of each kind follow one another from the first on stays as it is
pub closed_same : (ar : List ℕ) (d : Diagram) (n k : ℕ) → Good ar d → variables ar d ≡ consecutive first_variable n → minimums ar d ≡ consecutive first_minimum k → closed ar d ≡ d
unfolding closed closed_from
closed_same ar d n k good v w =
    relabel-same (renamed ar (numbering (variables ar d) (minimums ar d) first_variable first_minimum)) d
    (labels-weaken (Named ar Stays) _ d (λ l p. renamed-same ar _ l p.0 p.1) (named-labels ar Stays d good.fine (terms-each-occurs ar Stays d stays)))
  where
    Stays : ℕ → Type 0
    Stays t = numbering (variables ar d) (minimums ar d) first_variable first_minimum t ≡ t

    stays : (t : ℕ) → occurs ar t d ≡ true → numbering (variables ar d) (minimums ar d) first_variable first_minimum t ≡ t
    stays t e = go (cmp t first_variable) (cmp t first_minimum)
      where
        least : first_minimum ≤ t → numbering (variables ar d) (minimums ar d) first_variable first_minimum t ≡ t
        least h =
            rw (numbering-minimum (variables ar d) (minimums ar d) first_variable first_minimum t h)
            (rank-stays first_minimum k t (minimums ar d) w (occurs-minimum ar d t e h (term-below t (occurs-term ar d t good.fine e))))

        high : first_variable ≤ t → Cmp t first_minimum → numbering (variables ar d) (minimums ar d) first_variable first_minimum t ≡ t
        high h (below l) =
            rw (numbering-variable (variables ar d) (minimums ar d) first_variable first_minimum t h l)
            (rank-stays first_variable n t (variables ar d) v (occurs-variable ar d t e h l))
        high h (equal l) = least (omega arith)
        high h (above l) = least (omega arith)

        go : Cmp t first_variable → Cmp t first_minimum → numbering (variables ar d) (minimums ar d) first_variable first_minimum t ≡ t
        go (below h) l = numbering-low (variables ar d) (minimums ar d) first_variable first_minimum t h
        go (equal h) l = high (omega arith) l
        go (above h) l = high (omega arith) l

-- closing up twice is closing up once
pub closed-twice : (ar : List ℕ) (d : Diagram) → Good ar d → closed ar (closed ar d) ≡ closed ar d
closed-twice ar d good =
    closed_same ar (closed ar d) (length (variables ar d)) (length (minimums ar d)) (closed-good ar d good) (closed-variables ar d good) (closed-minimums ar d good)

-- apart: the operands have 64 variables together at most, and 64 minimum variables
pub after-fit : (ar : List ℕ) (a b : Diagram) → length (variables ar a) + length (variables ar b) ≤ variable_count → length (minimums ar a) + length (minimums ar b) ≤ minimum_count
    → KindsFit ar (first_variable + length (variables ar a)) (first_minimum + length (minimums ar a)) b
after-fit ar a b room space = record { variables-from = omega arith; variables-end = omega arith; minimums-from = omega arith; minimums-end = omega arith }

module _ (ar : List ℕ) (a b : Diagram) (good-a : Good ar a) (good-b : Good ar b) (room : length (variables ar a) + length (variables ar b) ≤ variable_count)
    (space : length (minimums ar a) + length (minimums ar b) ≤ minimum_count) where
  pub after-good : Good ar (after ar a b)
  unfolding after
  after-good = closed_from-good ar _ _ b (after-fit ar a b room space) good-b

  pub after-variables : variables ar (after ar a b) ≡ consecutive (first_variable + length (variables ar a)) (length (variables ar b))
  unfolding after
  after-variables = closed_from-variables ar _ _ b (after-fit ar a b room space) good-b

  pub after-minimums : minimums ar (after ar a b) ≡ consecutive (first_minimum + length (minimums ar a)) (length (minimums ar b))
  unfolding after
  after-minimums = closed_from-minimums ar _ _ b (after-fit ar a b room space) good-b

  -- numbers before m + n and from m + n on
  behind : (m n k t : ℕ) (xs ys : List ℕ) → xs ≡ consecutive m n → ys ≡ consecutive (m + n) k → mem eqb t xs ≡ true → mem eqb t ys ≡ true → ⊥
  behind m n k t xs ys v w i j =
      let x = in-consecutive m n t (rw v at i) in
      let y = in-consecutive (m + n) k t (rw w at j) in
      omega arith

  -- the operands have no variable of either kind in common
  pub apart-disjoint : (t : ℕ) → first_variable ≤ t → occurs ar t (closed ar a) ≡ true → occurs ar t (after ar a b) ≡ false
  apart-disjoint t h e = go (flag (occurs ar t (after ar a b)))
    where
      end : t < first_minimum + minimum_count
      end = term-below t (occurs-term ar (closed ar a) t (closed-good ar a good-a).fine e)

      least : first_minimum ≤ t → occurs ar t (after ar a b) ≡ true → ⊥
      least k q =
          behind first_minimum (length (minimums ar a)) (length (minimums ar b)) t _ _ (closed-minimums ar a good-a) after-minimums
          (occurs-minimum ar (closed ar a) t e k end) (occurs-minimum ar (after ar a b) t q k end)

      both : occurs ar t (after ar a b) ≡ true → Cmp t first_minimum → ⊥
      both q (below k) =
          behind first_variable (length (variables ar a)) (length (variables ar b)) t _ _ (closed-variables ar a good-a) after-variables
          (occurs-variable ar (closed ar a) t e h k) (occurs-variable ar (after ar a b) t q h k)
      both q (equal k) = least (omega arith) q
      both q (above k) = least (omega arith) q

      go : Flag (occurs ar t (after ar a b)) → occurs ar t (after ar a b) ≡ false
      go (is_false q) = q
      go (is_true q) = absurd (both q (cmp t first_minimum))
