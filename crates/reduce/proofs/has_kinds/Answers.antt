use mathlib.Core.Path.{sym, ◌∙◌}
use borrow.Author.Tests.{lt-ltb}
use Rattle.basics.specs.Members.{clash}
use native.Mathlib.Omega.{arith}
use Rattle.reduce.proofs.KindLaws.{root-some, root-word, kinds-equality, kinds-constant, kinds-minimum}
use Rattle.reduce.proofs.has_kinds.Goals as goal
use Rattle.reduce.proofs.has_kinds.Goals.{then-words-n-lt-PREDICATE_WEIGHT, else-words-n-lt-PREDICATE_WEIGHT}

pub overflow_sub-n : goal.overflow_sub-n
overflow_sub-n c =
    omega (arith, root-some c.requires)

pub bounds-words-n : goal.bounds-words-n
bounds-words-n c =
    omega (arith, root-word c.requires)

pub returns-then-has_marked : goal.returns-then-has_marked
returns-then-has_marked c =
    elim c.if-words-n-lt-PREDICATE_WEIGHT.branch [
      | then-words-n-lt-PREDICATE_WEIGHT w ↦ w.value-is ∙ kinds-equality c.requires w.if-words-n-lt-PREDICATE_WEIGHT.true
      | else-words-n-lt-PREDICATE_WEIGHT w ↦ kinds-constant c.requires (w.value-is ∙ w.has_marked.ensures) c.if-has_marked.true
    ]

pub returns-else-has_marked : goal.returns-else-has_marked
returns-else-has_marked c =
    elim c.if-words-n-lt-PREDICATE_WEIGHT.branch [
      | then-words-n-lt-PREDICATE_WEIGHT w ↦ clash (lt-ltb _ _ w.if-words-n-lt-PREDICATE_WEIGHT.true) (sym w.value-is ∙ c.if-has_marked.false)
      | else-words-n-lt-PREDICATE_WEIGHT w ↦
          kinds-minimum c.requires (w.value-is ∙ w.has_marked.ensures) c.is_plain.ensures w.if-words-n-lt-PREDICATE_WEIGHT.false c.if-has_marked.false
    ]
