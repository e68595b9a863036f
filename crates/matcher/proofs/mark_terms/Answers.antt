use Rattle.matcher.proofs.MarkLaws.{cleared-coded, cleared-marking}
use Rattle.matcher.proofs.mark_terms.Goals as goal

pub mark_path-requires-clause-coded : goal.mark_path-requires-clause-coded
mark_path-requires-clause-coded c =
    cleared-coded c.clear_marks.ensures c.clear_marks.auto.out c.requires

pub returns : goal.returns
returns c =
    cleared-marking c.clear_marks.ensures c.clear_marks.auto.out c.mark_path.ensures
