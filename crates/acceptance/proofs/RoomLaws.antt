-- Steps of a call whose rows are all among given ones: no more than these are formed, so where they are at most 2,048 no step meets 9.
use Rattle.std.specs.Prelude.{◌≡◌, refl, true, List, [], ℕ, ◌≤◌, length}
use Rattle.std.proofs.Common.{ap, sym, subst, ◌∙◌, arith}
use Rattle.refusal.specs.Outcome.{ok}
use Rattle.basics.specs.Tests.{Flag, is_true, is_false, flag, Either, one, other}
use Rattle.basics.specs.Members.{mem, NoDup, Within, nodup-le, clash}
use Rattle.diagram.specs.Sizes.{space_rows, most_pairs}
use Rattle.diagram.specs.Diagram.{Diagram, leaf, branch, same}
use Rattle.diagram.specs.DiagramLaws.{diagram-test}
use Rattle.diagram.specs.Listing.{Fine}
use Rattle.diagram.specs.Rows.{onto, rows}
use Rattle.diagram.specs.Inner.{is_part}
use Rattle.diagram.specs.RowLaws.{PartOf, it-is, of-high, of_low, part-leaf, part-branch, mem-rows, onto_parts}
use Rattle.apply.specs.declared.Operation.{Operation}
use Rattle.apply.specs.Apply.{node, apply}
use Rattle.apply.specs.ApplyLaws.{node-same, node-differ}
use Rattle.apply.specs.Combination.{operate}
use Rattle.apply.proofs.GoodLaws.{fine-calm}
use Rattle.apply.specs.Pairs.{pair_count}
use Rattle.apply.proofs.RowLaws.{onto-nodup}
use Rattle.regression.specs.Calls.{Run, bind, form, combine}
use Rattle.regression.proofs.CallLaws.{bind-both, form-room, combine-calm}

-- every row of d is one of all
abbrev pub RowsIn : List Diagram → Diagram → Type 0
RowsIn all (leaf v) = mem same (leaf v) all ≡ true
RowsIn all (branch l t f) = (mem same (branch l t f) all ≡ true) × RowsIn all t × RowsIn all f

part_in : (all : List Diagram) (x d : Diagram) → RowsIn all d → is_part x d ≡ true → mem same x all ≡ true
part_in all x (leaf v) r h = rw (part-leaf x v h) r
part_in all x (branch l t f) r h = go (part-branch x l t f h) (part_in all x t r.1) (part_in all x f r.2)
  where
    go : PartOf x l t f → (is_part x t ≡ true → mem same x all ≡ true) → (is_part x f ≡ true → mem same x all ≡ true) → mem same x all ≡ true
    go (it-is e) p q = rw e r.0
    go (of-high e) p q = p e
    go (of_low e) p q = q e

pub rows-node : (all : List Diagram) (l : ℕ) (t f : Diagram) → mem same (node l t f) all ≡ true → RowsIn all t → RowsIn all f → RowsIn all (node l t f)
rows-node all l t f m p q = go (flag (same t f))
  where
    go : Flag (same t f) → RowsIn all (node l t f)
    go (is_true e) = rw (node-same l t f e) p
    go (is_false e) = rw (node-differ l t f e) (subst (λ (x : Diagram). mem same x all ≡ true) (node-differ l t f e) m, p, q)

-- the rows formed are among all, none twice
pub record Room (all rs : List Diagram) : Type 0 where
  pub within : Within same rs all
  pub once : NoDup same rs

pub room-none : (all : List Diagram) → Room all []
room-none all = record { within = λ x h. clash h refl; once = tt }

room-onto : (all : List Diagram) (d : Diagram) (rs : List Diagram) → RowsIn all d → Room all rs → Room all (onto d rs)
room-onto all d rs r room = record { within = λ x h. go x (onto_parts d x rs h); once = onto-nodup d rs room.once }
  where
    go : (x : Diagram) → Either (mem same x rs) (mem same x (rows d)) → mem same x all ≡ true
    go x (one e) = room.within x e
    go x (other e) = part_in all x d r (sym (mem-rows d x) ∙ e)

-- a step gives d, its rows among all
pub record Fits (all : List Diagram) (d : Diagram) (m : Run Diagram) (rs : List Diagram) : Type 0 where
  pub formed : List Diagram
  pub gives : m rs ≡ ok (d, formed)
  pub room : Room all formed

pub fits-bind : (all : List Diagram) (x y : Diagram) (m : Run Diagram) (f : Diagram → Run Diagram) (rs : List Diagram)
    → Fits all x m rs → ((qs : List Diagram) → Room all qs → Fits all y (f x) qs) → Fits all y (bind m f) rs
fits-bind all x y m f rs first next =
    let second = next first.formed first.room in
    record { formed = second.formed; gives = bind-both m f rs x first.formed first.gives ∙ second.gives; room = second.room }

module _ (all : List Diagram) (few : length all ≤ space_rows) where
  pub fits-form : (d : Diagram) (rs : List Diagram) → RowsIn all d → Room all rs → Fits all d (form d) rs
  fits-form d rs r room =
      let after = room-onto all d rs r room in
      let most = nodup-le same diagram-test (onto d rs) all after.once after.within in
      record { formed = onto d rs; gives = form-room d rs (omega arith); room = after }

  pub fits-combine : (ar : List ℕ) (op : Operation) (a b d : Diagram) (rs : List Diagram) → apply (operate op) a b ≡ d → pair_count op a b ≤ most_pairs → Fine ar d
      → RowsIn all d → Room all rs → Fits all d (combine op a b) rs
  fits-combine ar op a b d rs is pairs fine r room =
      let fit = fits-form d rs r room in
      record {
        formed = fit.formed;
        gives =
            combine-calm op a b rs pairs (fine-calm op ar a b (subst (Fine ar) (sym is) fine))
            ∙ ap (λ (x : Diagram). form x rs) is ∙ fit.gives;
        room = fit.room;
      }
