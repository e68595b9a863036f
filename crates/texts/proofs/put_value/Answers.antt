use Rattle.texts.proofs.PutLaws.{form-long}
use Rattle.texts.proofs.put_value.Goals as goal

pub slice_bounds-put_form-end : goal.slice_bounds-put_form-end
slice_bounds-put_form-end c =
    form-long c.requires

pub put_form-requires-clause-words_value : goal.put_form-requires-clause-words_value
put_form-requires-clause-words_value c =
    c.requires.task.listing

pub put_form-requires-clause-named : goal.put_form-requires-clause-named
put_form-requires-clause-named c =
    c.requires.task.named

pub put_form-requires-clause-n_value : goal.put_form-requires-clause-n_value
put_form-requires-clause-n_value c =
    c.requires.count
