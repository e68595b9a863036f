use Rattle.matcher.proofs.AnswerLaws.{search-answers}
use Rattle.matcher.proofs.search.Goals as goal

pub returns : goal.returns
returns c =
    search-answers (c.requires) c.copy_marks.ensures c.search_parts.ensures
