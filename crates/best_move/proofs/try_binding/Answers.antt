use Rattle.best_move.proofs.DigitLaws.{digits-taken, digits-count, taken-below}
use Rattle.best_move.proofs.LeadLaws.{taken-value, taken_refused, binding-taken}
use Rattle.std.proofs.lemmas.Result.{err_from_is_err_and}
use Rattle.best_move.proofs.try_binding.Goals as goal

pub slice_bounds-climb-end : goal.slice_bounds-climb-end
slice_bounds-climb-end c =
    digits-count c.args.n _ c.args.i _ c.objects_at.ensures

pub climb-requires-clause-prepared : goal.climb-requires-clause-prepared
climb-requires-clause-prepared c =
    c.requires.prepared

pub climb-requires-clause-objects_value : goal.climb-requires-clause-objects_value
climb-requires-clause-objects_value c =
    taken-below c.args.n _ c.args.i _ c.requires.tupled.some c.objects_at.ensures

pub climb-requires-clause-few_value : goal.climb-requires-clause-few_value
climb-requires-clause-few_value c =
    c.requires.few_value

pub climb-requires-clause-plain_value : goal.climb-requires-clause-plain_value
climb-requires-clause-plain_value c =
    c.requires.plain_value

pub returns-in_err-b : goal.returns-in_err-b
returns-in_err-b c =
    let p = err_from_is_err_and c.from_residual.result c.from_residual.ensures.1 in
    rw (p.1, p.2) (binding-taken _ _ _ _ _ c.requires.prepared.listed c.args.l c.requires.leading _ _ _ c.requires.tupled.few
    (digits-taken _ _ _ _ c.objects_at.ensures) c.climb.ensures (taken_refused _ _ _ _ c.in_err-b.was))

pub returns : goal.returns
returns c =
    binding-taken _ _ _ _ _ c.requires.prepared.listed c.args.l c.requires.leading _ _ _ c.requires.tupled.few
    (digits-taken _ _ _ _ c.objects_at.ensures) c.climb.ensures (taken-value _ _ _ _ c.in_ok-b.was c.raised.ensures)
