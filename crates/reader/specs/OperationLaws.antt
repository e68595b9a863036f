-- The words of a good diagram's operations: leaves at most 10^18, labels below a leaf's mark.
use Rattle.std.specs.Prelude.{ℕ, ◌+◌, ◌*◌, ◌≤◌, ◌<◌, ◌≡◌, List, [], ◌∷◌, ◌++◌, get_or}
use Rattle.std.proofs.Math.Path.{subst}
use Rattle.label.specs.Limits.{leaf_mark}
use Rattle.label.proofs.LabelLaws.{label-below}
use Rattle.label.specs.declared.Test.{Test}
use Rattle.label.specs.declared.Test.TheVariants.{Always, Is}
use Rattle.diagram.specs.Sizes.{highest_value}
use Rattle.forms.specs.Tree.{All}
use Rattle.names.specs.Many.{many}
use Rattle.names.specs.ManyLaws.{length-many, get_d-many}
use Rattle.reading.specs.AllLaws.{all-at, all_append}
use Rattle.reading.specs.Operations.{Op}
use Rattle.reading.specs.Operations.Op.{leaf_op, ask, step}
use Rattle.reading.specs.Inner.{GoodTest, GoodReading}
use Rattle.reading.specs.Tree.{Reading, ops_of}
use Rattle.reading.specs.Tree.Reading.{number, branch}
use Rattle.reader.specs.OperationWords.{op_of, op_at, ops_in}

-- a leaf's value and a label are in their range
abbrev pub InRange : Op → Type 0
InRange (leaf_op v) = v ≤ highest_value
InRange (ask Always) = Unit {0}
InRange (ask (Is l)) = l.packed < leaf_mark
InRange step = Unit {0}

test-range : (ar : List ℕ) (P : ℕ → Type 0) (t : Test) → GoodTest ar P t → InRange (ask t)
test-range ar P Always g = tt
test-range ar P (Is l) g = label-below ar l.packed g.0

pub operations-range : (ar : List ℕ) (P : ℕ → Type 0) (r : Reading) → GoodReading ar P r → All InRange (ops_of r)
operations-range ar P (number v) g = (g, tt)
operations-range ar P (branch t h f) g = (
  test-range ar P t g.0,
  all_append InRange (ops_of h) (ops_of f ++ (step ∷ [])) (operations-range ar P h g.1)
      (all_append InRange (ops_of f) (step ∷ []) (operations-range ar P f g.2) (tt, tt)),
)

-- in lent words
module _ (s : List ℕ) (n : ℕ) (a : All InRange (ops_in s n)) (k : ℕ) (h : k < n) where
  one-range : InRange (op_at s k)
  unfolding ops_in
  one-range = subst InRange (get_d-many (op_at s) step n k h) (all-at InRange (many (op_at s) n) step k a (rw length-many h))

  pub leaf-range : get_or s (k * 2) 0 ≡ 0 → get_or s (k * 2 + 1) 0 ≤ highest_value
  unfolding op_at
  leaf-range e = let z : InRange (op_of (get_or s (k * 2) 0) (get_or s (k * 2 + 1) 0)) = one-range in subst (λ i. InRange (op_of i (get_or s (k * 2 + 1) 0))) e z

  pub label-range : get_or s (k * 2) 0 ≡ 1 → get_or s (k * 2 + 1) 0 < leaf_mark
  unfolding op_at
  label-range e = let z : InRange (op_of (get_or s (k * 2) 0) (get_or s (k * 2 + 1) 0)) = one-range in subst (λ i. InRange (op_of i (get_or s (k * 2 + 1) 0))) e z
