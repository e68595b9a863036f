use native.Mathlib.Omega.{arith}
use mathlib.Core.Path.{refl, sym, ap, ◌∙◌}
use Rattle.words.specs.Keys.{little, key_of}
use Rattle.text.specs.Inner.{kinds}
use Rattle.text.specs.LineForm.{is_key, kind_of}
use Rattle.line_reader.specs.Rows.{row_of}
use Rattle.line_reader.proofs.KeywordCode.{keyword-here, keyword-on, keyword-none}
use Rattle.line_reader.proofs.find_keyword.Goals as goal

pub loop-row-init : goal.loop-row-init
unfolding kind_of
loop-row-init c =
    refl

pub returns-then-eq : goal.returns-then-eq
unfolding is_key row_of key_of little
returns-then-eq c =
    keyword-here kinds _ _ refl _ c.loop-row.row-index c.loop-row-test.true c.eq.ensures c.if-eq.true ∙ ap row_of (sym c.loop-row.invariant)

pub loop-row-preserved : goal.loop-row-preserved
unfolding is_key row_of key_of little
loop-row-preserved c =
    c.loop-row.invariant ∙ keyword-on kinds _ _ refl _ c.loop-row.row-index c.loop-row-test.true c.eq.ensures c.if-eq.false

pub returns : goal.returns
unfolding is_key row_of key_of little
returns c =
    ap row_of (sym (c.loop-row.invariant ∙ keyword-none kinds c.args.key c.loop-row.row-index (omega arith)))
