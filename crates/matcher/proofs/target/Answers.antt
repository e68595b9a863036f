use Rattle.matcher.proofs.StoreLaws.{enter-coded, stored-room, enter-stored}
use Rattle.matcher.proofs.AnswerLaws.{target-held}
use Rattle.matcher.proofs.target.Goals as goal

pub mark_terms-requires : goal.mark_terms-requires
mark_terms-requires c =
    enter-coded c.requires.enterable c.path_into-a.ensures c.path_into-a.auto.out

pub returns : goal.returns
returns c =
    target-held c.requires.enterable (enter-stored c.requires.enterable c.path_into-a.ensures c.path_into-a.auto.out c.mark_terms.ensures)
    (stored-room c.requires.enterable c.path_into-a.ensures c.path_into-a.auto.out c.mark_terms.ensures) c.mark_kinds.ensures
