-- Laws of `combine_moved` and `combine_apart`: both operands' rows are formed as renamed, and their last rows combined.
use mathlib.Core.Path.{◌≡◌, refl, sym, ap, ap₂, ◌∙◌, subst}
use mathlib.Core.Bool.{Bool, true, cond}
use mathlib.Core.List.{List, []}
use Prim.Native.Nat.{ℕ, zero, suc, ◌+◌, ◌≤◌, ◌<◌}
use native.Mathlib.Omega.{arith}
use mir.Val.{Fits}
use mir.Syntax.{w64}
use lib.ListN.{length, get_or, replicate, length-replicate}
use lib.Dec.{eqb, ltb}
use borrow.Author.Tests.{ltb-false, lt-ltb, le-ltb}
use Rattle.basics.specs.Tests.{Flag, is_true, is_false, flag, Either, one, other, neither}
use Rattle.basics.specs.Members.{mem, clash}
use Rattle.basics.specs.Prefix.{Prefix}
use Rattle.label.specs.Limits.{first_variable, variable_count, first_minimum, minimum_count}
use Rattle.refusal.specs.declared.Refusal.TheVariants.{Variables, Space}
use Rattle.table.specs.Table.{buckets}
use Rattle.table.proofs.TableLaws.{clean-made}
use Rattle.diagram.specs.Sizes.{most_rows, space_rows}
use Rattle.diagram.specs.Diagram.{Diagram, same}
use Rattle.diagram.specs.Rows.{onto}
use Rattle.diagram.specs.Listing.{listing, diagram_of, Fine, Good}
use Rattle.diagram.specs.Validity.{tree}
use Rattle.diagram.specs.Variables.{variables, minimums, closed_from, closed, after}
use Rattle.diagram.specs.Inner.{is_part}
use Rattle.diagram.specs.RowLaws.{onto-mem, onto-from, onto-most, onto-kept, kept-none, row-mem, onto-keeps}
use Rattle.diagram.specs.ListingOfDiagram.{part-fine}
use Rattle.diagram.specs.DiagramOfListing.{good-diagram}
use Rattle.listing.specs.Used.{Used, set_from, marked_variables, marked_minimums}
use Rattle.listing.specs.UsedLaws.{marked-variables, marked-minimums}
use Rattle.rename.specs.ClosingLaws.{closed-fit, closed-good, after-fit, after-good}
use Rattle.apply.specs.declared.Operation.{Operation}
use Rattle.apply.specs.declared.Names.TheVariants.{Apart}
use Rattle.apply.specs.declared.Combined.{Combined}
use Rattle.apply.specs.declared.Combined.TheVariants.{Refused}
use Rattle.apply.specs.Apply.{apply}
use Rattle.apply.specs.Combination.{operate, combination, too_many, operand_rows, diagram_answer, written}
use Rattle.apply.proofs.CombinationLaws.{rows-formed, diagrams-variables}
use Rattle.store.specs.Space.{diagrams_of, Formation}
use Rattle.store.proofs.SpaceLaws.{length-diagrams, diagram-at, diagrams-none, holds-none, formation-row, formation-full, formation-tree, formation-old}
use Rattle.combine.specs.Calls.{Callable, CombineAnswered}
use Rattle.apart.specs.Operands.{Enterable, aside_of, Separable}
use Rattle.apart.specs.Results.{Joinable, result_answer, joined_answer, JoinedUp}
use Rattle.std.specs.Prelude.{None, Option, Some}

-- the laws of closing up and moving apart by name
closed_is : (ar : List ℕ) (d : Diagram) → closed_from ar first_variable first_minimum d ≡ closed ar d
unfolding closed
closed_is ar d = refl

after_is : (ar : List ℕ) (a b : Diagram) → closed_from ar (first_variable + length (variables ar a)) (first_minimum + length (minimums ar a)) b ≡ after ar a b
unfolding after
after_is ar a b = refl

-- what is left of the checks once the variables of each kind are counted
answer-joined : (op : Operation) (ar : List ℕ) (a b : Diagram) → length (variables ar a) + length (variables ar b) ≤ variable_count
    → length (minimums ar a) + length (minimums ar b) ≤ minimum_count
    → joined_answer op ar (closed ar a) (after ar a b) (operand_rows Apart ar a b) ≡ diagram_answer op Apart ar a b
unfolding joined_answer result_answer diagram_answer combination
answer-joined op ar a b h k =
    rw (
      le-ltb variable_count (length (variables ar a) + length (variables ar b)) h,
      le-ltb minimum_count (length (minimums ar a) + length (minimums ar b)) k,
      rows-formed op Apart ar a b,
    )

result-is : (op : Operation) (ar : List ℕ) (a b : Diagram) → closed ar (apply (operate op) (closed ar a) (after ar a b)) ≡ combination op Apart ar a b
unfolding combination
result-is op ar a b = refl

-- `combine_moved`
module _ {ar x y used_x used_y : List ℕ} {first minimum : ℕ} {out work : List ℕ} (g : Separable ar x y used_x used_y first minimum out work) where
  abbrev D : Diagram
  D = diagram_of x

  abbrev E : Diagram
  E = diagram_of y

  -- the operands as renamed
  abbrev A : Diagram
  A = closed ar D

  abbrev B : Diagram
  B = after ar D E

  good-x : Good ar D
  good-x = good-diagram ar x g.call.first

  good-y : Good ar E
  good-y = good-diagram ar y g.call.second

  good-a : Good ar A
  good-a = closed-good ar D good-x

  good-b : Good ar B
  good-b = after-good ar D E good-x good-y g.few g.few-minimums

  few-a : length (onto A []) ≤ most_rows
  few-a = omega (arith, onto-most A [] kept-none, good-a.few)

  few-b : length (onto B (onto A [])) ≤ space_rows
  few-b = omega (arith, few-a, onto-most B (onto A []) (onto-kept A [] kept-none), good-b.few)

  pub moved-first : (n₁ n₂ n₃ : ℕ) → buckets ≤ n₁ → space_rows ≤ n₂ → most_rows ≤ n₃
      → Enterable ar x used_x first_variable first_minimum work (replicate n₁ 0) (replicate n₂ 0) 0 (replicate n₃ 0)
  moved-first n₁ n₂ n₃ h k l = record {
    valid = g.call.first;
    marks = g.first_marks;
    fit = closed-fit ar D good-x;
    places = rw length-replicate l;
    holds = holds-none work (replicate n₁ 0) (replicate n₂ 0) (omega (arith, g.call.work-room)) (rw length-replicate k) (clean-made n₁ h);
  }

  module _ {r₁ : Option (ℕ × ℕ)} {s₁ h₁ l₁ : List ℕ}
      (f : Formation (closed_from ar first_variable first_minimum D) (onto (closed_from ar first_variable first_minimum D) (diagrams_of work 0)) r₁ s₁ h₁ l₁) where
    first-formed : Formation A (onto A []) r₁ s₁ h₁ l₁
    first-formed =
        subst (λ (d : Diagram). Formation d (onto d []) r₁ s₁ h₁ l₁) (closed_is ar D)
        (subst (λ (rs : List Diagram). Formation (closed_from ar first_variable first_minimum D) (onto (closed_from ar first_variable first_minimum D) rs) r₁ s₁ h₁ l₁) (diagrams-none work) f)

    pub moved-full : (op : Operation) → r₁ ≡ None → CombineAnswered op Apart ar x y out (Refused Space) out
    moved-full op e =
        let z = formation-full (subst (λ (r : Option (ℕ × ℕ)). Formation A (onto A []) r s₁ h₁ l₁) e first-formed) in
        absurd (omega (arith, few-a))

    module _ {i n : ℕ} (e : r₁ ≡ Some (i, n)) where
      first-row : Formation A (onto A []) (Some (i, n)) s₁ h₁ l₁
      first-row = subst (λ (r : Option (ℕ × ℕ)). Formation A (onto A []) r s₁ h₁ l₁) e first-formed

      first_rows : diagrams_of s₁ n ≡ onto A []
      first_rows = (formation-row first-row).3

      pub moved-second : {numbers : List ℕ} (n₃ : ℕ) → length numbers ≡ n₃ → most_rows ≤ n₃ → Enterable ar y used_y first minimum s₁ h₁ l₁ n numbers
      moved-second n₃ k h = record {
        valid = g.call.second;
        marks = g.second-marks;
        fit = rw (g.first-is, g.minimum-is) (after-fit ar D E g.few g.few-minimums);
        places = omega (arith, k);
        holds = first-row.holds;
      }

      module _ {r₂ : Option (ℕ × ℕ)} {s₂ h₂ l₂ : List ℕ}
          (f' : Formation (closed_from ar first minimum E) (onto (closed_from ar first minimum E) (diagrams_of s₁ n)) r₂ s₂ h₂ l₂) where
        second-formed : Formation B (onto B (onto A [])) r₂ s₂ h₂ l₂
        second-formed =
            subst (λ (d : Diagram). Formation d (onto d (onto A [])) r₂ s₂ h₂ l₂) (ap₂ (λ (m n : ℕ). closed_from ar m n E) g.first-is g.minimum-is ∙ after_is ar D E)
            (subst (λ (rs : List Diagram). Formation (closed_from ar first minimum E) (onto (closed_from ar first minimum E) rs) r₂ s₂ h₂ l₂) first_rows f')

        pub moved-full-2 : (op : Operation) → r₂ ≡ None → CombineAnswered op Apart ar x y out (Refused Space) out
        moved-full-2 op e' =
            let z = formation-full (subst (λ (r : Option (ℕ × ℕ)). Formation B (onto B (onto A [])) r s₂ h₂ l₂) e' second-formed) in
            absurd (omega (arith, few-b))

        module _ {j m : ℕ} (e' : r₂ ≡ Some (j, m)) where
          second-row : Formation B (onto B (onto A [])) (Some (j, m)) s₂ h₂ l₂
          second-row = subst (λ (r : Option (ℕ × ℕ)). Formation B (onto B (onto A [])) r s₂ h₂ l₂) e' second-formed

          second-rows : diagrams_of s₂ m ≡ onto B (onto A [])
          second-rows = (formation-row second-row).3

          begins : Prefix (diagrams_of s₁ n) (onto B (onto A []))
          begins = rw first_rows (onto-keeps B (onto A []))

          second-tree : (j < m) × (tree s₂ j ≡ B)
          second-tree = formation-tree second-row (onto-mem B (onto A []))

          first-tree : (i < m) × (tree s₂ i ≡ A)
          first-tree =
              let t = formation-tree first-row (onto-mem A []) in
              let o = formation-old second-row s₁ n begins i t.0 in
              (o.0, o.1 ∙ t.1)

          -- every row is a part of an operand
          row_fine : (z : Diagram) → mem same z (onto B (onto A [])) ≡ true → Fine ar z
          row_fine z h = go (onto-from B z (onto A []) h)
            where
              deeper : Either (mem same z []) (is_part z A) → Fine ar z
              deeper (one q) = clash q refl
              deeper (other q) = part-fine ar z A good-a.fine q

              go : Either (mem same z (onto A [])) (is_part z B) → Fine ar z
              go (one q) = deeper (onto-from A z [] q)
              go (other q) = part-fine ar z B good-b.fine q

          rows-fine : (k : ℕ) → k < m → Fine ar (tree s₂ k)
          rows-fine k h =
              row_fine (tree s₂ k) (rw second-rows at (row-mem (diagrams_of s₂ m) k (tree s₂ k) (omega (arith, length-diagrams s₂ m)) (diagram-at s₂ m k h)))

          pub moved-joinable : Joinable ar s₂ h₂ l₂ m i j out
          moved-joinable = record {
            arities = good-x.arities;
            holds = second-row.holds;
            first = first-tree.0;
            second = second-tree.0;
            fine = rows-fine;
            first-ordered = rw first-tree.1 good-a.ordered;
            second-ordered = rw second-tree.1 good-b.ordered;
            room = g.call.out-room;
          }

          pub moved-done : {op : Operation} {r : Combined} {out' : List ℕ} → JoinedUp op ar (tree s₂ i) (tree s₂ j) (diagrams_of s₂ m) out r out'
              → CombineAnswered op Apart ar x y out r out'
          moved-done {op} {r} {out'} w =
              let z : JoinedUp op ar A B (operand_rows Apart ar D E) out r out'
              = subst (λ (rs : List Diagram). JoinedUp op ar A B rs out r out') second-rows
              (subst (λ (b : Diagram). JoinedUp op ar A b (diagrams_of s₂ m) out r out') second-tree.1
              (subst (λ (a : Diagram). JoinedUp op ar a (tree s₂ j) (diagrams_of s₂ m) out r out') first-tree.1 w)) in
              record {
                answer = z.answer ∙ answer-joined op ar D E g.few g.few-minimums;
                words = z.words ∙ ap (λ (d : Diagram). written r (listing d) out) (result-is op ar D E);
              }

-- at most n of n marks are set
set-most : (ms : List ℕ) (t n : ℕ) → set_from ms t n ≤ n
unfolding set_from
set-most ms t zero = omega arith
set-most ms t (suc n) = go (flag (eqb (get_or ms t 0) 0)) (set-most ms (suc t) n)
  where
    go : Flag (eqb (get_or ms t 0) 0) → set_from ms (suc t) n ≤ n → cond (eqb (get_or ms t 0) 0) 0 1 + set_from ms (suc t) n ≤ suc n
    go (is_true p) ih = rw p (omega arith)
    go (is_false p) ih = rw p (omega arith)

variables-most : (ms : List ℕ) → marked_variables ms ≤ variable_count
unfolding marked_variables
variables-most ms = set-most ms first_variable variable_count

minimums-most : (ms : List ℕ) → marked_minimums ms ≤ minimum_count
unfolding marked_minimums
minimums-most ms = set-most ms first_minimum minimum_count

-- `set_aside`: the tests of each kind, and where the second operand's variables begin
module _ (used_x used_y : List ℕ) where
  pub variables-fit : {n m : ℕ} → n ≡ marked_variables used_x → m ≡ marked_variables used_y → Fits w64 (n + m)
  variables-fit p q = omega (arith, variables-most used_x, variables-most used_y)

  pub minimums-fit : {n m : ℕ} → n ≡ marked_minimums used_x → m ≡ marked_minimums used_y → Fits w64 (n + m)
  minimums-fit p q = omega (arith, minimums-most used_x, minimums-most used_y)

  pub aside-variables : {n m : ℕ} → n ≡ marked_variables used_x → m ≡ marked_variables used_y → variable_count < n + m → None ≡ aside_of used_x used_y
  unfolding aside_of
  aside-variables p q h = rw (lt-ltb variable_count (marked_variables used_x + marked_variables used_y) (omega arith))

  pub aside-minimums : {n m k l : ℕ} → n ≡ marked_variables used_x → m ≡ marked_variables used_y → n + m ≤ variable_count
      → k ≡ marked_minimums used_x → l ≡ marked_minimums used_y → minimum_count < k + l → None ≡ aside_of used_x used_y
  unfolding aside_of
  aside-minimums p q h r s i = rw (
    le-ltb variable_count (marked_variables used_x + marked_variables used_y) (omega arith),
    lt-ltb minimum_count (marked_minimums used_x + marked_minimums used_y) (omega arith),
  )

  pub aside-from : {n m k l : ℕ} → n ≡ marked_variables used_x → m ≡ marked_variables used_y → n + m ≤ variable_count
      → k ≡ marked_minimums used_x → l ≡ marked_minimums used_y → k + l ≤ minimum_count → Some ((first_variable + n), (first_minimum + k)) ≡ aside_of used_x used_y
  unfolding aside_of
  aside-from p q h r s i = rw (
    le-ltb variable_count (marked_variables used_x + marked_variables used_y) (omega arith),
    le-ltb minimum_count (marked_minimums used_x + marked_minimums used_y) (omega arith),
    p,
    r,
  )

-- `combine_apart`
module _ {ar x y out work : List ℕ} (g : Callable ar x y out work) {used_x used_y : List ℕ} (u : Used ar (diagram_of x) used_x) (v : Used ar (diagram_of y) used_y)
    {s : Option (ℕ × ℕ)} (p : s ≡ aside_of used_x used_y) where
  abbrev many : Bool
  many = too_many Apart ar (diagram_of x) (diagram_of y)

  -- the marks judge as the diagrams do
  judged : s ≡ cond many None (Some ((first_variable + length (variables ar (diagram_of x))), (first_minimum + length (minimums ar (diagram_of x)))))
  unfolding aside_of
  judged =
      p ∙ rw (
        marked-variables ar (diagram_of x) used_x u,
        marked-variables ar (diagram_of y) used_y v,
        marked-minimums ar (diagram_of x) used_x u,
        marked-minimums ar (diagram_of y) used_y v,
      )

  pub apart-many : (op : Operation) → s ≡ None → CombineAnswered op Apart ar x y out (Refused Variables) out
  apart-many op e = go (flag many)
    where
      go : Flag many → CombineAnswered op Apart ar x y out (Refused Variables) out
      go (is_true h) = record { answer = sym (diagrams-variables op Apart ar (diagram_of x) (diagram_of y) h); words = refl }
      go (is_false h) = absurd (let d : s ≡ Some (_, _) = rw h at judged in let z : ◌≡◌ {A = ℕ} 0 1 = cc in omega arith)

  pub apart-separable : {first minimum : ℕ} → s ≡ Some (first, minimum) → Separable ar x y used_x used_y first minimum out work
  apart-separable {first} {minimum} e = go (flag many)
    where
      go : Flag many → Separable ar x y used_x used_y first minimum out work
      go (is_true h) = absurd (let d : s ≡ None = rw h at judged in let z : ◌≡◌ {A = ℕ} 0 1 = cc in omega arith)
      go (is_false h) =
          let n = neither (ltb variable_count (length (variables ar (diagram_of x)) + length (variables ar (diagram_of y)))) _ h in
          let d : ◌≡◌ {A = Option (ℕ × ℕ)} (Some (first, minimum))
          (Some (first_variable + length (variables ar (diagram_of x)), first_minimum + length (minimums ar (diagram_of x)))) = sym e ∙ (rw h at judged) in
          let p : ◌≡◌ {A = ℕ × ℕ} (first, minimum) (first_variable + length (variables ar (diagram_of x)), first_minimum + length (minimums ar (diagram_of x))) = cc in
          record {
            call = g;
            first_marks = u;
            second-marks = v;
            few = ltb-false variable_count (length (variables ar (diagram_of x)) + length (variables ar (diagram_of y))) n.0;
            few-minimums = ltb-false minimum_count (length (minimums ar (diagram_of x)) + length (minimums ar (diagram_of y))) n.1;
            first-is = ap (λ (p : ℕ × ℕ). p.0) p;
            minimum-is = ap (λ (p : ℕ × ℕ). p.1) p;
          }
