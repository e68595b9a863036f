use Rattle.matcher.proofs.StoreLaws.{enter-coded, stored-room, enter-stored}
use Rattle.matcher.proofs.AnswerLaws.{covers-none, covers-stored, covers-answer}
use Rattle.std.proofs.lemmas.Bool.{not_from_false}
use Rattle.matcher.proofs.covers.Goals as goal

pub returns-then-not-have_ways : goal.returns-then-not-have_ways
returns-then-not-have_ways c =
    covers-none c.requires.enterable c.path_into-b.ensures c.have_ways.ensures (not_from_false _ c.if-not-have_ways.true)

pub mark_terms-requires : goal.mark_terms-requires
mark_terms-requires c =
    enter-coded c.requires.enterable c.path_into-b.ensures c.path_into-b.auto.out

pub search-requires : goal.search-requires
search-requires c =
    covers-stored c.requires.enterable c.requires.target (enter-stored c.requires.enterable c.path_into-b.ensures c.path_into-b.auto.out c.mark_terms.ensures)
    (stored-room c.requires.enterable c.path_into-b.ensures c.path_into-b.auto.out c.mark_terms.ensures)

pub returns : goal.returns
returns c =
    covers-answer c.requires.enterable (enter-stored c.requires.enterable c.path_into-b.ensures c.path_into-b.auto.out c.mark_terms.ensures) c.search.ensures
