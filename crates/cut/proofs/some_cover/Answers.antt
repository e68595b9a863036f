use mathlib.Core.Path.{refl, ◌∙◌}
use native.Mathlib.Omega.{arith}
use Rattle.cut.proofs.ChoosingLaws.{ask-on, face-on, cover-none, cover-hit, cover_on, cover-end}
use Rattle.cut.proofs.some_cover.Goals as goal

pub loop-q-init : goal.loop-q-init
loop-q-init c =
    (refl, refl, omega arith, c.requires.asking.known, cover-none _ _ _ _ _ _)

pub is_cover-requires-clause-asking : goal.is_cover-requires-clause-asking
is_cover-requires-clause-asking c =
    ask-on c.requires.asking c.loop-q.invariant.3

pub is_cover-requires-clause-facing : goal.is_cover-requires-clause-facing
is_cover-requires-clause-facing c =
    face-on c.requires.facing c.loop-q.invariant.1

pub returns-then-is_cover : goal.returns-then-is_cover
returns-then-is_cover c =
    cover-hit _ _ _ _ _ _ c.loop-q-test.true c.is_cover.ensures c.if-is_cover.true

pub loop-q-preserved : goal.loop-q-preserved
loop-q-preserved c = (
  c.is_cover.auto.memo ∙ c.loop-q.invariant.0,
  c.is_cover.auto.from ∙ c.loop-q.invariant.1,
  omega (arith, c.loop-q-test.true),
  c.is_cover.ensures.known,
  cover_on _ _ _ _ _ _ _ c.loop-q.invariant.4 c.is_cover.ensures c.if-is_cover.false,
)

pub returns : goal.returns
returns c =
    cover-end _ _ _ _ _ _ c.loop-q.invariant.4 c.loop-q.invariant.2 c.loop-q-test.false c.loop-q.invariant.3
