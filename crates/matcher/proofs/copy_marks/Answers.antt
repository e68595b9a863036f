use borrow.Author.Rules.{rules}
use mathlib.Core.Path.{◌∙◌}
use Rattle.std.proofs.lemmas.List.{places}
use Rattle.label.specs.Limits.{first_minimum}
use Rattle.matcher.proofs.MarkLaws.{put_at}
use Rattle.matcher.proofs.copy_marks.Goals as goal

pub returns : goal.returns
returns c t h = put_at first_minimum first_minimum c.args.tab.now c.copy_from_slice.new.self t (search rules) (search rules) ∙ rw c.copy_from_slice.ensures.after (search (rules, places))
