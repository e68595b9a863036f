use Rattle.diagram_lines.proofs.RewardLaws.{reward-drawable, reward-reads}
use mathlib.Core.Path.{refl}
use lib.Dec.{lit≤}
use Rattle.reader.specs.Callers.{variable_words}
use Rattle.diagram_lines.proofs.read_reward.Goals as goal

pub draw_closed-built-requires-clause-drawable : goal.draw_closed-built-requires-clause-drawable
draw_closed-built-requires-clause-drawable c =
    reward-drawable c.requires.lent variable_words (lit≤ tt) c.first_word-at.ensures c.requires.result_words_in_bounds

pub draw_closed-built-requires-clause-binding_value : goal.draw_closed-built-requires-clause-binding_value
draw_closed-built-requires-clause-binding_value c =
    refl

pub returns : goal.returns
returns c =
    reward-reads c.requires.lent c.first_word-at.ensures c.draw_closed-built.ensures c.room.ensures
