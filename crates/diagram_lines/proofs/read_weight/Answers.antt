use Rattle.diagram_lines.proofs.VariantLaws.{weight-known, weight-drawable, weight-reads}
use lib.Dec.{lit≤}
use Rattle.reader.specs.Callers.{variable_words}
use Rattle.diagram_lines.proofs.read_weight.Goals as goal

pub returns-then-find-count : goal.returns-then-find-count
returns-then-find-count c =
    weight-known c.requires.lent c.args.at c.args.key c.find.ensures c.if-find-count.true

pub draw-built-requires : goal.draw-built-requires
draw-built-requires c =
    weight-drawable c.requires.lent variable_words (lit≤ tt) c.requires.weight_at c.requires.result_words_in_bounds

pub returns : goal.returns
returns c =
    weight-reads c.requires.lent c.args.at c.args.key c.find.ensures _ c.if-find-count.false c.draw-built.ensures c.room.ensures
