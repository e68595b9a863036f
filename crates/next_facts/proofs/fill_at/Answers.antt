use Rattle.next_facts.proofs.CallLaws.{ask-read, ask-some, some-filled, ask-few, kept-filled, ask-own, own-filled}
use Rattle.next_facts.proofs.fill_at.Goals as goal

pub fill_by-requires : goal.fill_by-requires
fill_by-requires c =
    ask-some c.requires.askable c.has_truth.ensures c.if-has_truth.true
    c.truth_words-words.ensures

pub returns-then-has_truth : goal.returns-then-has_truth
returns-then-has_truth c =
    some-filled c.requires.askable c.has_truth.ensures _ _ _ _
    c.if-has_truth.true c.truth_words-words.ensures c.fill_by.ensures

pub bounds-arities-p : goal.bounds-arities-p
bounds-arities-p c =
    ask-read c.requires.askable

pub keep-requires-clause-k_le_most_places : goal.keep-requires-clause-k_le_most_places
keep-requires-clause-k_le_most_places c =
    ask-few c.requires.askable

pub keep-requires-clause-room : goal.keep-requires-clause-room
keep-requires-clause-room c =
    c.requires.askable.room

pub returns-then-ordered : goal.returns-then-ordered
returns-then-ordered c =
    kept-filled c.requires.askable c.requires.standing c.has_truth.ensures c.if-has_truth.false c.if-ordered.true
    c.keep.ensures

pub fill_by-requires-2 : goal.fill_by-requires-2
fill_by-requires-2 c =
    ask-own c.requires.askable c.has_truth.ensures c.own_label-l.ensures

pub returns : goal.returns
returns c =
    own-filled c.requires.askable c.has_truth.ensures _ _ _ _
    c.if-has_truth.false c.own_label-l.ensures c.fill_by-2.ensures
