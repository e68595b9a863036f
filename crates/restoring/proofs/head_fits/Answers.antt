use Rattle.restoring.proofs.TestLaws.{says-no, head-rest}
use Rattle.restoring.specs.PartLaws.{head-is}
use native.Mathlib.Omega.{arith}
use Rattle.restoring.proofs.head_fits.Goals as goal

pub returns-then-h-lt1 : goal.returns-then-h-lt1
returns-then-h-lt1 c =
    says-no (head-is _) (λ f. omega (arith, c.if-h-lt1.true, f.total-some))

pub returns-then-h-gt-TOTAL : goal.returns-then-h-gt-TOTAL
returns-then-h-gt-TOTAL c =
    says-no (head-is _) (λ f. omega (arith, c.if-h-gt-TOTAL.true, f.total-few))

pub returns-then-h-lt1-2 : goal.returns-then-h-lt1-2
returns-then-h-lt1-2 c =
    says-no (head-is _) (λ f. omega (arith, c.if-h-lt1-2.true, f.denominator-some))

pub returns-then-h-gt-DENOMINATOR : goal.returns-then-h-gt-DENOMINATOR
returns-then-h-gt-DENOMINATOR c =
    says-no (head-is _) (λ f. omega (arith, c.if-h-gt-DENOMINATOR.true, f.denominator-few))

pub returns-then-h : goal.returns-then-h
returns-then-h c =
    says-no (head-is _) (λ f. omega (arith, c.if-h.true, f.numerator-few))

pub returns-then-h-gt-ACTIONS : goal.returns-then-h-gt-ACTIONS
returns-then-h-gt-ACTIONS c =
    says-no (head-is _) (λ f. omega (arith, c.if-h-gt-ACTIONS.true, f.actions))

pub returns-then-h-gt-LISTING_WORDS : goal.returns-then-h-gt-LISTING_WORDS
returns-then-h-gt-LISTING_WORDS c =
    says-no (head-is _) (λ f. omega (arith, c.if-h-gt-LISTING_WORDS.true, f.words))

pub returns-then-h-2 : goal.returns-then-h-2
returns-then-h-2 c =
    says-no (head-is _) (λ f. c.if-h-2.true f.whole)

pub returns : goal.returns
returns c =
    head-rest _ c.if-h-lt1.false
    c.if-h-gt-TOTAL.false
    c.if-h-lt1-2.false
    c.if-h-gt-DENOMINATOR.false c.if-h.false
    c.if-h-gt-ACTIONS.false c.if-h-gt-LISTING_WORDS.false c.if-h-2.false
    c.is_inside.ensures
