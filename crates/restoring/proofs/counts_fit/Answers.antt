use Rattle.restoring.proofs.TestLaws.{says-no, counts-rest}
use Rattle.restoring.specs.PartLaws.{counts-are}
use native.Mathlib.Omega.{arith}
use Rattle.restoring.proofs.counts_fit.Goals as goal

pub returns-then-n : goal.returns-then-n
returns-then-n c =
    says-no (counts-are _) (λ f. omega (arith, c.if-n.true, f.constants))

pub returns-then-n-ge-PREDICATES : goal.returns-then-n-ge-PREDICATES
returns-then-n-ge-PREDICATES c =
    says-no (counts-are _) (λ f. omega (arith, c.if-n-ge-PREDICATES.true, f.predicates))

pub returns-then-n-gt-ACTIONS : goal.returns-then-n-gt-ACTIONS
returns-then-n-gt-ACTIONS c =
    says-no (counts-are _) (λ f. omega (arith, c.if-n-gt-ACTIONS.true, f.actions))

pub returns-then-n-2 : goal.returns-then-n-2
returns-then-n-2 c =
    says-no (counts-are _) (λ f. omega (arith, c.if-n-2.true, f.parameters))

pub returns-then-n-gt-VARIANTS : goal.returns-then-n-gt-VARIANTS
returns-then-n-gt-VARIANTS c =
    says-no (counts-are _) (λ f. omega (arith, c.if-n-gt-VARIANTS.true, f.variants))

pub returns-then-n-gt-VARIANT_NAMES : goal.returns-then-n-gt-VARIANT_NAMES
returns-then-n-gt-VARIANT_NAMES c =
    says-no (counts-are _) (λ f. omega (arith, c.if-n-gt-VARIANT_NAMES.true, f.earlier))

pub returns : goal.returns
returns c =
    counts-rest _ c.if-n.false c.if-n-ge-PREDICATES.false
    c.if-n-gt-ACTIONS.false c.if-n-2.false c.if-n-gt-VARIANTS.false
