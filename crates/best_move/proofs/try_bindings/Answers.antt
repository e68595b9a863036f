use Rattle.valuing.proofs.StartLaws.{root-some}
use Rattle.best_move.proofs.LeadLaws.{binding-start, binding-settled, binding-left, binding-on, binding-stops, binding-end}
use mathlib.Core.Path.{sym, ◌∙◌}
use Rattle.std.proofs.lemmas.Result.{err_from_is_err_and}
use Rattle.best_move.proofs.try_bindings.Goals as goal

pub loop-i-init : goal.loop-i-init
loop-i-init c =
    binding-start c.requires.leading

pub is_settled-requires : goal.is_settled-requires
is_settled-requires c =
    record { some = root-some c.requires.prepared; places = c.requires.prepared.places }

pub returns-then-is_settled : goal.returns-then-is_settled
returns-then-is_settled c =
    binding-left c.loop-i.invariant c.requires.tupled c.requires.total_value (λ k.
    binding-settled _ _ _ _ _ c.requires.prepared.listed c.loop-i.l c.loop-i.invariant.leading _ _ k c.requires.tupled.few c.requires.prepared c.requires.tupled.some c.requires.few_value
    (sym c.is_settled.ensures ∙ c.if-is_settled.true))

pub try_binding-requires-clause-prepared : goal.try_binding-requires-clause-prepared
try_binding-requires-clause-prepared c =
    c.requires.prepared

pub try_binding-requires-clause-few_value : goal.try_binding-requires-clause-few_value
try_binding-requires-clause-few_value c =
    c.requires.few_value

pub try_binding-requires-clause-tupled : goal.try_binding-requires-clause-tupled
try_binding-requires-clause-tupled c =
    c.requires.tupled

pub try_binding-requires-clause-leading : goal.try_binding-requires-clause-leading
try_binding-requires-clause-leading c =
    c.loop-i.invariant.leading

pub try_binding-requires-clause-plain_value : goal.try_binding-requires-clause-plain_value
try_binding-requires-clause-plain_value c =
    c.requires.plain_value

pub returns-in_err-l : goal.returns-in_err-l
returns-in_err-l c =
    let p = err_from_is_err_and c.from_residual.result c.from_residual.ensures.1 in
    rw (p.1, p.2, ← c.in_err-l.was) (binding-stops c.loop-i.invariant c.try_binding.ensures c.loop-i-test.true c.requires.tupled c.requires.total_value c.in_err-l.was)

pub loop-i-preserved : goal.loop-i-preserved
loop-i-preserved c =
    binding-on c.loop-i.invariant c.try_binding.ensures c.loop-i-test.true c.in_ok-l.was

pub returns : goal.returns
returns c =
    binding-end c.loop-i.invariant c.requires.tupled c.requires.total_value c.loop-i-test.false
