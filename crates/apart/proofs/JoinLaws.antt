-- Laws of `join`: two rows of the working space are combined there, and the result is written.
use mathlib.Core.Path.{◌≡◌, refl, sym, ap, ◌∙◌, subst}
use mathlib.Core.Bool.{true, false}
use mathlib.Core.List.{List}
use Prim.Native.Nat.{ℕ, suc, ◌*◌, ◌≤◌, ◌<◌}
use native.Mathlib.Omega.{arith}
use lib.ListN.{length, replicate, length-replicate, get_or-replicate}
use borrow.Author.Tests.{lt-ltb, le-ltb}
use Rattle.basics.specs.Members.{mem}
use Rattle.label.specs.Limits.{leaf_mark}
use Rattle.refusal.specs.declared.Refusal.TheVariants.{Pairs, Value, Space}
use Rattle.diagram.specs.Sizes.{space_rows, most_pairs, highest_value}
use Rattle.diagram.specs.Diagram.{Diagram, Ordered, leaf, branch, same}
use Rattle.diagram.specs.Words.{label_at, high_at, low_at}
use Rattle.diagram.specs.Listing.{Fine}
use Rattle.diagram.specs.ListingLaws.{index-less, get_d-index}
use Rattle.diagram.specs.Validity.{tree}
use Rattle.diagram.specs.Inner.{Encoded}
use Rattle.diagram.specs.RowLists.{row_tree}
use Rattle.diagram.specs.RowLaws.{onto-mem}
use Rattle.diagram.specs.Shown.{Shown}
use Rattle.apply.specs.declared.Operation.{Operation}
use Rattle.apply.specs.declared.Combined.{Combined}
use Rattle.apply.specs.declared.Combined.TheVariants.{Refused}
use Rattle.apply.specs.Apply.{apply}
use Rattle.apply.specs.ApplyLaws.{ordered-apply, reduced-apply}
use Rattle.apply.proofs.GoodLaws.{fine-apply}
use Rattle.apply.specs.Pairs.{pairs, pair_count, overflows}
use Rattle.apply.specs.Combination.{operate}
use Rattle.plan.specs.Walk.{Leads}
use Rattle.plan.specs.Plan.{buckets}
use Rattle.plan.specs.PlanLaws.{index-empty}
use Rattle.store.specs.Space.{diagrams_of, Holds}
use Rattle.store.proofs.SpaceLaws.{length-diagrams, diagram-at, written-trees}
use Rattle.combine.specs.declared.Joined.{Joined}
use Rattle.combine.specs.declared.Joined.TheVariants.{At, TooManyPairs, TooHighValue, NoRoom}
use Rattle.combine.specs.RowPairs.{Operand}
use Rattle.combine.specs.Paired.{Pairable}
use Rattle.combine.specs.Endings.{Told, Ended, many, high, full, row, ended}
use Rattle.combine.specs.Joining.{rows_after, join_answer, count_after, diagrams_after, Joint}
use Rattle.apart.specs.Results.{Regular, Writable, result_answer, ResultWritten, Joinable, joined_answer, JoinedUp}

-- the answers of `join_rows`, each by itself
module _ (op : Operation) (limit : ℕ) (a b : Diagram) (rs : List Diagram) where
  at_told : {k c l : ℕ} → At k c l ≡ join_answer op limit a b rs → Told op limit a b rs k c l
  at_told {k} {c} {l} e = go (ended op limit a b rs e)
    where
      go : Ended op limit a b rs (At k c l) → Told op limit a b rs k c l
      go (many q x) = absurd (let o : ◌≡◌ {A = ℕ} 0 1 = cc in omega arith)
      go (high q x y) = absurd (let o : ◌≡◌ {A = ℕ} 0 1 = cc in omega arith)
      go (full q x y z) = absurd (let o : ◌≡◌ {A = ℕ} 0 1 = cc in omega arith)
      go (row {i} {n} {p} q t) =
          let u : k ≡ i = cc in
          let v : c ≡ n = cc in
          let w : l ≡ p = cc in
          record { few = t.few; calm = t.calm; room = t.room; row = u ∙ t.row; count = v ∙ t.count; reached = w ∙ t.reached }

  many-told : TooManyPairs ≡ join_answer op limit a b rs → limit < pair_count op a b
  many-told e = go (ended op limit a b rs e)
    where
      go : Ended op limit a b rs TooManyPairs → limit < pair_count op a b
      go (many q x) = x
      go (high q x y) = absurd (let o : ◌≡◌ {A = ℕ} 0 1 = cc in omega arith)
      go (full q x y z) = absurd (let o : ◌≡◌ {A = ℕ} 0 1 = cc in omega arith)
      go (row q t) = absurd (let o : ◌≡◌ {A = ℕ} 0 1 = cc in omega arith)

  high-told : TooHighValue ≡ join_answer op limit a b rs → (pair_count op a b ≤ limit) × (overflows (operate op) (pairs op a b) ≡ true)
  high-told e = go (ended op limit a b rs e)
    where
      go : Ended op limit a b rs TooHighValue → (pair_count op a b ≤ limit) × (overflows (operate op) (pairs op a b) ≡ true)
      go (many q x) = absurd (let o : ◌≡◌ {A = ℕ} 0 1 = cc in omega arith)
      go (high q x y) = (x, y)
      go (full q x y z) = absurd (let o : ◌≡◌ {A = ℕ} 0 1 = cc in omega arith)
      go (row q t) = absurd (let o : ◌≡◌ {A = ℕ} 0 1 = cc in omega arith)

  wide-told : NoRoom ≡ join_answer op limit a b rs → (pair_count op a b ≤ limit) × (overflows (operate op) (pairs op a b) ≡ false) × (space_rows < length (rows_after op a b rs))
  wide-told e = go (ended op limit a b rs e)
    where
      go : Ended op limit a b rs NoRoom → (pair_count op a b ≤ limit) × (overflows (operate op) (pairs op a b) ≡ false) × (space_rows < length (rows_after op a b rs))
      go (many q x) = absurd (let o : ◌≡◌ {A = ℕ} 0 1 = cc in omega arith)
      go (high q x y) = absurd (let o : ◌≡◌ {A = ℕ} 0 1 = cc in omega arith)
      go (full q x y z) = (x, y, z)
      go (row q t) = absurd (let o : ◌≡◌ {A = ℕ} 0 1 = cc in omega arith)

-- the laws of `joined_answer`
module _ (op : Operation) (ar : List ℕ) (a b : Diagram) (rs : List Diagram) where
  answer-pairs : most_pairs < pair_count op a b → Refused Pairs ≡ joined_answer op ar a b rs
  unfolding joined_answer
  answer-pairs h = rw (lt-ltb most_pairs (pair_count op a b) h)

  answer-value : pair_count op a b ≤ most_pairs → overflows (operate op) (pairs op a b) ≡ true → Refused Value ≡ joined_answer op ar a b rs
  unfolding joined_answer
  answer-value h e = rw (le-ltb most_pairs (pair_count op a b) h, e)

  answer-space : pair_count op a b ≤ most_pairs → overflows (operate op) (pairs op a b) ≡ false → space_rows < length (rows_after op a b rs) → Refused Space ≡ joined_answer op ar a b rs
  unfolding joined_answer
  answer-space h e l = rw (le-ltb most_pairs (pair_count op a b) h, e, lt-ltb space_rows (length (rows_after op a b rs)) l)

  answer-result : pair_count op a b ≤ most_pairs → overflows (operate op) (pairs op a b) ≡ false → length (rows_after op a b rs) ≤ space_rows
      → result_answer ar (apply (operate op) a b) (pair_count op a b) ≡ joined_answer op ar a b rs
  unfolding joined_answer
  answer-result h e l = rw (le-ltb most_pairs (pair_count op a b) h, e, le-ltb space_rows (length (rows_after op a b rs)) l)

module _ {ar s heads links : List ℕ} {count i j : ℕ} {out : List ℕ} (g : Joinable ar s heads links count i j out) where
  trees : Shown s count (tree s)
  trees = written-trees s count g.holds.written

  -- the words of a row
  label-most : (k : ℕ) → k < count → label_at s k ≤ leaf_mark
  label-most k h = go (row_tree (diagrams_of s count) k) refl (g.holds.written.words k in_rows)
    where
      in_rows : k < length (diagrams_of s count)
      in_rows = omega (arith, length-diagrams s count)

      go : (x : Diagram) → row_tree (diagrams_of s count) k ≡ x → Encoded (diagrams_of s count) x (label_at s k) (high_at s k) (low_at s k) → label_at s k ≤ leaf_mark
      go (leaf v) q n = omega (arith, n.0)
      go (branch l t f) q n = let z = g.holds.written.labels k l t f in_rows q in omega (arith, n.0)

  value-most : (k : ℕ) → k < count → label_at s k ≡ leaf_mark → high_at s k ≤ highest_value
  value-most k h e = subst (Fine ar) (trees.leaves k h e) (g.fine k h)

  operand : (m : ℕ) → m ≤ count → Operand s m (tree s)
  operand m h = record {
    shown = record {
      leaves = λ k l e. trees.leaves k (omega arith) e;
      branches = λ k l e. trees.branches k (omega arith) e;
      kids = λ k l e. trees.kids k (omega arith) e;
      inj = λ a b k l e. trees.inj a b (omega arith) (omega arith) e;
    };
    most = λ k l. label-most k (omega arith);
    values = λ k l e. value-most k (omega arith) e;
  }

  leads : (k : ℕ) → k < count → Leads s k
  leads k h = record {
    room = omega (arith, g.holds.table.words, g.holds.table.within);
    few = omega (arith, g.holds.table.within);
    most = λ r l. label-most r (omega arith);
    high = λ r l e. (trees.kids r (omega arith) e).0;
    low = λ r l e. (trees.kids r (omega arith) e).1;
  }

  pub join-pairable : (limit n₁ n₂ : ℕ) → limit ≤ most_pairs → limit * 5 ≤ n₁ → buckets ≤ n₂ → Pairable s s (replicate n₁ 0) (replicate n₂ 0) limit i j
  join-pairable limit n₁ n₂ m h k = record {
    first = operand (suc i) (omega (arith, g.first));
    second = operand (suc j) (omega (arith, g.second));
    leading = record { first = leads i g.first; second = leads j g.second };
    empty =
        index-empty (replicate n₁ 0) (replicate n₂ 0) limit (rw length-replicate h) (omega arith)
        (record { slots = rw length-replicate k; zeros = λ b l. get_or-replicate n₂ b 0 0 (omega arith) });
  }

  module _ {op : Operation} {limit : ℕ} {x : Joined} {s' h' l' hs : List ℕ} (m : limit ≤ most_pairs) (w : Joint op limit (tree s i) (tree s j) s count x s' h' l' hs) where
    abbrev A : Diagram
    A = tree s i

    abbrev B : Diagram
    B = tree s j

    abbrev Rs : List Diagram
    Rs = diagrams_of s count

    abbrev D : Diagram
    D = apply (operate op) A B

    pub join-many : most_pairs ≤ limit → x ≡ TooManyPairs → JoinedUp op ar A B Rs out (Refused Pairs) out
    join-many h e = let z = many-told op limit A B Rs (sym e ∙ w.answer) in record { answer = answer-pairs op ar A B Rs (omega arith); words = refl }

    pub join-high : x ≡ TooHighValue → JoinedUp op ar A B Rs out (Refused Value) out
    join-high e =
        let t = high-told op limit A B Rs (sym e ∙ w.answer) in
        record { answer = answer-value op ar A B Rs (omega (arith, t.0)) t.1; words = refl }

    pub join-full : x ≡ NoRoom → JoinedUp op ar A B Rs out (Refused Space) out
    join-full e =
        let t = wide-told op limit A B Rs (sym e ∙ w.answer) in
        record { answer = answer-space op ar A B Rs (omega (arith, t.0)) t.1 t.2; words = refl }

    -- where the pairs are above the limit, the space holds what it held, and the call may be made again
    module _ (e : x ≡ TooManyPairs) where
      rows-kept : diagrams_of s' count ≡ Rs
      rows-kept = subst (λ (y : Joined). diagrams_of s' (count_after count y) ≡ diagrams_after op A B Rs y) e w.diagrams

      tree-kept : (k : ℕ) → k < count → tree s k ≡ tree s' k
      tree-kept k h = sym (diagram-at s count k h) ∙ ap (λ (y : List Diagram). row_tree y k) (sym rows-kept) ∙ diagram-at s' count k h

      pub join-again : Joinable ar s' h' l' count i j out
      join-again = record {
        arities = g.arities;
        holds = subst (λ (y : Joined). Holds s' h' l' (count_after count y)) e w.holds;
        first = g.first;
        second = g.second;
        fine = λ k h. subst (Fine ar) (tree-kept k h) (g.fine k h);
        first-ordered = subst Ordered (tree-kept i g.first) g.first-ordered;
        second-ordered = subst Ordered (tree-kept j g.second) g.second-ordered;
        room = g.room;
      }

      pub join-joined : {r : Combined} {out' : List ℕ} → JoinedUp op ar (tree s' i) (tree s' j) (diagrams_of s' count) out r out' → JoinedUp op ar A B Rs out r out'
      join-joined {r} {out'} z =
          subst (λ (rs : List Diagram). JoinedUp op ar A B rs out r out') rows-kept
          (subst (λ (b : Diagram). JoinedUp op ar A b (diagrams_of s' count) out r out') (sym (tree-kept j g.second))
          (subst (λ (a : Diagram). JoinedUp op ar a (tree s' j) (diagrams_of s' count) out r out') (sym (tree-kept i g.first)) z))

    module _ {k n p : ℕ} (e : x ≡ At k n p) where
      told : Told op limit A B Rs k n p
      told = at_told op limit A B Rs (sym e ∙ w.answer)

      holds_then : Holds s' h' l' n
      holds_then = subst (λ (y : Joined). Holds s' h' l' (count_after count y)) e w.holds

      rows_then : diagrams_of s' n ≡ rows_after op A B Rs
      rows_then = subst (λ (y : Joined). diagrams_of s' (count_after count y) ≡ diagrams_after op A B Rs y) e w.diagrams

      result-mem : mem same D (rows_after op A B Rs) ≡ true
      result-mem = onto-mem D Rs

      result-there : k < n
      result-there = omega (arith, told.row, told.count, index-less D (rows_after op A B Rs) result-mem)

      result-tree : tree s' k ≡ D
      result-tree =
          sym (diagram-at s' n k result-there) ∙ ap (λ (y : List Diagram). row_tree y k) rows_then ∙ ap (row_tree (rows_after op A B Rs)) told.row
          ∙ get_d-index D (rows_after op A B Rs) (leaf 0) result-mem

      result-regular : Regular ar D
      result-regular = record {
        arities = g.arities;
        ordered = ordered-apply (operate op) A B g.first-ordered g.second-ordered;
        reduced = reduced-apply (operate op) A B;
        fine = fine-apply op ar A B (g.fine i g.first) (g.fine j g.second) told.calm;
      }

      pub join-writable : Writable ar s' n k out
      join-writable = record {
        written = holds_then.written;
        words = holds_then.table.words;
        within = holds_then.table.within;
        root-there = result-there;
        regular = subst (Regular ar) (sym result-tree) result-regular;
        room = g.room;
      }

      pub join-done : {r : Combined} {out' : List ℕ} → ResultWritten ar (tree s' k) p out r out' → JoinedUp op ar A B Rs out r out'
      join-done {r} {out'} z =
          let y : ResultWritten ar D p out r out' = subst (λ (d : Diagram). ResultWritten ar d p out r out') result-tree z in
          record {
            answer = y.answer ∙ ap (result_answer ar D) told.reached ∙ answer-result op ar A B Rs (omega (arith, told.few)) told.calm told.room;
            words = y.words;
          }
