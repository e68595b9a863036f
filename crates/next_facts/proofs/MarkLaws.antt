-- Laws of the leaves that rows come to, one by one.
use mathlib.Core.Path.{◌≡◌, sym, ap, ap₂, subst, ◌∙◌}
use mathlib.Core.Bool.{Bool, not, ◌||◌}
use mathlib.Core.List.{List}
use Prim.Native.Nat.{ℕ, pred, ◌+◌, ◌-◌, ◌*◌, ◌≤◌, ◌<◌}
use native.Mathlib.Omega.{arith}
use lib.ListN.{length, get_or, set, length-set}
use lib.Seq.{get_or-set_same, get_or-set_other}
use lib.Dec.{eqb}
use Rattle.basics.specs.Tests.{Cmp, below, equal, above, cmp}
use Rattle.label.specs.Limits.{leaf_mark, predicate_count}
use Rattle.label.specs.Labels.{predicate_of, unpacked}
use Rattle.label.proofs.LabelLaws.{label-fits, place_end}
use Rattle.label.proofs.ArityLaws.{arity-most, arity-words}
use Rattle.diagram.specs.Words.{label_at, high_at, low_at, row_count}
use Rattle.diagram.specs.Validity.{BranchRow, tree}
use Rattle.diagram.specs.RowDiagrams.{branch_row}
use Rattle.diagram.specs.DiagramOfListing.{valid-rows, shown-rows}
use Rattle.next_facts.specs.Reach.{is_open, may_hold, may_fail, pick_leaf, reaches, reach_in, reached, Placed, Reaching, Marked}
use Rattle.next_facts.proofs.RowLaws.{pick_same}

module _ {ar facts ws env marks : List ℕ} {i : ℕ} (q : Reaching ar ws env marks) (m : Marked ar facts ws env marks i) (h : i < row_count ws) where
  marked-on : {r : ℕ} → r ≡ reach_in ar facts env (tree ws i) → Marked ar facts ws env (set marks i r) (i + 1)
  marked-on {r} e = record { each = λ u l. go u l (cmp u i) }
    where
      go : (u : ℕ) → u < i + 1 → Cmp u i → get_or (set marks i r) u 0 ≡ reach_in ar facts env (tree ws u)
      go u l (below c) = get_or-set_other marks i u r 0 (omega arith) ∙ m.each u c
      go u l (equal c) =
          subst (λ (y : ℕ). get_or (set marks i r) y 0 ≡ reach_in ar facts env (tree ws y)) (sym c) (get_or-set_same marks i r 0 (omega (arith, q.places)) ∙ e)
      go u l (above c) = absurd (omega arith)

  pub mark-leaf : get_or ws (i * 3) 0 ≡ leaf_mark → Marked ar facts ws env (set marks i (get_or ws (i * 3 + 1) 0)) (i + 1)
  unfolding label_at high_at reach_in reaches
  mark-leaf e = marked-on (sym (ap (reach_in ar facts env) ((shown-rows ar ws q.valid).leaves i h e)))

  module _ (n : get_or ws (i * 3) 0 ≡ leaf_mark → ⊥) where
    row : BranchRow ar ws i
    unfolding label_at
    row = branch_row ar ws (row_count ws) (valid-rows ar ws q.valid) i h n

    pub mark-true : get_or ws (i * 3 + 1) 0 < length marks
    unfolding high_at
    mark-true = omega (arith, row.high-before, q.places)

    pub mark-false : get_or ws (i * 3 + 2) 0 < length marks
    unfolding low_at
    mark-false = omega (arith, row.low-before, q.places)

    pub mark-predicate : {p : ℕ} → p ≡ predicate_of (get_or ws (i * 3) 0) → p < predicate_count
    unfolding label_at predicate_of unpacked
    mark-predicate e = rw e (label-fits ar (get_or ws (i * 3) 0) row.label).predicate-fits

    pub mark-arity : {p : ℕ} → p ≡ predicate_of (get_or ws (i * 3) 0) → p < length ar
    mark-arity e = omega (arith, mark-predicate e, arity-words ar q.valid.arities)

    pub mark-placed : {p : ℕ} → p ≡ predicate_of (get_or ws (i * 3) 0) → Placed env (get_or ws (i * 3) 0) (get_or ar p 0)
    unfolding label_at
    mark-placed {p} e = record {
      words = q.words;
      most = arity-most ar p q.valid.arities;
      below = λ j l. place_end ar (get_or ws (i * 3) 0) j row.label l;
    }

    row-leaf : reach_in ar facts env (tree ws i)
        ≡ pick_leaf (may_hold facts env (get_or ws (i * 3) 0) (get_or ar (predicate_of (get_or ws (i * 3) 0)) 0)) (may_fail facts env (get_or ws (i * 3) 0) (get_or ar (predicate_of (get_or ws (i * 3) 0)) 0))
        (get_or marks (get_or ws (i * 3 + 1) 0) 0) (get_or marks (get_or ws (i * 3 + 2) 0) 0)
    unfolding label_at high_at low_at reach_in reaches
    row-leaf =
        ap (reach_in ar facts env) ((shown-rows ar ws q.valid).branches i h n)
        ∙ ap₂ (pick_leaf (may_hold facts env (get_or ws (i * 3) 0) (get_or ar (predicate_of (get_or ws (i * 3) 0)) 0)) (may_fail facts env (get_or ws (i * 3) 0) (get_or ar (predicate_of (get_or ws (i * 3) 0)) 0)))
        (sym (m.each (get_or ws (i * 3 + 1) 0) row.high-before)) (sym (m.each (get_or ws (i * 3 + 2) 0) row.low-before))

    pub mark-same : get_or marks (get_or ws (i * 3 + 1) 0) 0 ≡ get_or marks (get_or ws (i * 3 + 2) 0) 0
        → Marked ar facts ws env (set marks i (get_or marks (get_or ws (i * 3 + 1) 0) 0)) (i + 1)
    unfolding may_fail
    mark-same e = marked-on (sym (row-leaf ∙ ap (pick_leaf _ _ (get_or marks (get_or ws (i * 3 + 1) 0) 0)) (sym e)
        ∙ pick_same (may_hold facts env (get_or ws (i * 3) 0) (get_or ar (predicate_of (get_or ws (i * 3) 0)) 0)) (is_open env (get_or ws (i * 3) 0) (get_or ar (predicate_of (get_or ws (i * 3) 0)) 0))
        (get_or marks (get_or ws (i * 3 + 1) 0) 0)))

    pub mark-branch : {p r : ℕ} {o b : Bool} → p ≡ predicate_of (get_or ws (i * 3) 0) → o ≡ is_open env (get_or ws (i * 3) 0) (get_or ar p 0)
        → b ≡ may_hold facts env (get_or ws (i * 3) 0) (get_or ar p 0)
        → r ≡ pick_leaf b (o || not b) (get_or marks (get_or ws (i * 3 + 1) 0) 0) (get_or marks (get_or ws (i * 3 + 2) 0) 0) → Marked ar facts ws env (set marks i r) (i + 1)
    unfolding may_fail
    mark-branch {p} {r} {o} {b} e x y z = marked-on (z ∙ both ∙ sym row-leaf)
      where
        k : get_or ar p 0 ≡ get_or ar (predicate_of (get_or ws (i * 3) 0)) 0
        k = ap (λ (u : ℕ). get_or ar u 0) e

        x' : o ≡ is_open env (get_or ws (i * 3) 0) (get_or ar (predicate_of (get_or ws (i * 3) 0)) 0)
        x' = x ∙ ap (is_open env (get_or ws (i * 3) 0)) k

        y' : b ≡ may_hold facts env (get_or ws (i * 3) 0) (get_or ar (predicate_of (get_or ws (i * 3) 0)) 0)
        y' = y ∙ ap (may_hold facts env (get_or ws (i * 3) 0)) k

        both : pick_leaf b (o || not b) (get_or marks (get_or ws (i * 3 + 1) 0) 0) (get_or marks (get_or ws (i * 3 + 2) 0) 0)
            ≡ pick_leaf (may_hold facts env (get_or ws (i * 3) 0) (get_or ar (predicate_of (get_or ws (i * 3) 0)) 0))
            (is_open env (get_or ws (i * 3) 0) (get_or ar (predicate_of (get_or ws (i * 3) 0)) 0)
            || not (may_hold facts env (get_or ws (i * 3) 0) (get_or ar (predicate_of (get_or ws (i * 3) 0)) 0)))
            (get_or marks (get_or ws (i * 3 + 1) 0) 0) (get_or marks (get_or ws (i * 3 + 2) 0) 0)
        both = ap₂ (λ (s t : Bool). pick_leaf t (s || not t) (get_or marks (get_or ws (i * 3 + 1) 0) 0) (get_or marks (get_or ws (i * 3 + 2) 0) 0)) x' y'

-- `reach`
pub record Marking (ar facts ws env marks : List ℕ) (i : ℕ) : Type 0 where
  pub reaching : Reaching ar ws env marks
  pub most : i ≤ row_count ws
  pub marked : Marked ar facts ws env marks i

pub marking-start : {ar ws env marks : List ℕ} (facts : List ℕ) → Reaching ar ws env marks → Marking ar facts ws env marks 0
marking-start facts q = record { reaching = q; most = omega arith; marked = record { each = λ r l. absurd (omega arith) } }

module _ {ar facts ws env marks : List ℕ} {i : ℕ} (s : Marking ar facts ws env marks i) where
  pub marking-room : i < row_count ws → i < length marks
  marking-room h = omega (arith, s.reaching.places)

  pub marking-on : (r : ℕ) → i < row_count ws → Marked ar facts ws env (set marks i r) (i + 1) → Marking ar facts ws env (set marks i r) (i + 1)
  marking-on r h m = record {
    reaching = record { valid = s.reaching.valid; words = s.reaching.words; places = rw length-set s.reaching.places };
    most = omega arith;
    marked = m;
  }

  module _ (h : row_count ws ≤ i) where
    pub marking-some : 1 ≤ row_count ws
    marking-some = s.reaching.valid.some

    pub marking-root : row_count ws - 1 < length marks
    marking-root = omega (arith, marking-some, s.reaching.places)

    pub marking-end : not (eqb (get_or marks (row_count ws - 1) 0) 0) ≡ reached ar facts ws env
    unfolding reached
    marking-end =
        let e : row_count ws - 1 ≡ pred (row_count ws) = omega arith in
        ap (λ (x : ℕ). not (eqb x 0)) (s.marked.each (row_count ws - 1) (omega (arith, marking-some, s.most)) ∙ ap (λ (r : ℕ). reach_in ar facts env (tree ws r)) e)
