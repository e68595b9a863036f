use native.Mathlib.Omega.{arith}
use mathlib.Core.Path.{◌≡◌}
use Rattle.std.specs.Prelude.{None, Some}
use Rattle.std.proofs.lemmas.Result.{err_from_is_err_and}
use Rattle.refusal.specs.declared.Refusal.TheVariants.{Name}
use Rattle.declare.proofs.ParameterLaws.{action-name, action-twice, action-parameters, action-many, action-room, action-done, put-room, names-sum}
use Rattle.declare.proofs.action.Goals as goal

pub returns-then-find-n : goal.returns-then-find-n
returns-then-find-n c =
    search action-name

pub returns-in_err-count : goal.returns-in_err-count
returns-in_err-count c =
    let n : c.read_parameters.result ≡ None = grind arith in
    let w : c.in_err-count.field-0.0 ≡ Name = grind arith in
    let p = err_from_is_err_and c.from_residual.result c.from_residual.ensures.1 in
    rw (p.1, p.2, w) (search action-twice)

pub returns-then-count : goal.returns-then-count
returns-then-count c =
    let n : c.read_parameters.result ≡ Some c.in_ok-count.count = grind arith in
    search action-parameters

pub returns-then-n-ge-ACTIONS : goal.returns-then-n-ge-ACTIONS
returns-then-n-ge-ACTIONS c =
    let n : c.read_parameters.result ≡ Some c.in_ok-count.count = grind arith in
    search action-many

pub copy_parameters-requires-clause-n_in_bounds : goal.copy_parameters-requires-clause-n_in_bounds
copy_parameters-requires-clause-n_in_bounds c =
    let n : c.read_parameters.result ≡ Some c.in_ok-count.count = grind arith in
    action-room _ c.args.n _ _ c.find.ensures c.if-find-n.false n c.read_parameters.ensures

pub copy_parameters-requires-clause-name_words_in_bounds : goal.copy_parameters-requires-clause-name_words_in_bounds
copy_parameters-requires-clause-name_words_in_bounds c =
    put-room _ _ _ _ _ c.requires.good_names c.put.ensures

pub returns : goal.returns
returns c =
    let n : c.read_parameters.result ≡ Some c.in_ok-count.count = grind arith in
    action-done _ _ _ _ c.find.ensures c.if-find-n.false n
    c.read_parameters.ensures c.requires.good_names
    c.if-count.false c.if-n-ge-ACTIONS.false c.put.ensures
    c.copy_parameters.ensures

pub overflow_add-result-2 : goal.overflow_add-result-2
overflow_add-result-2 c =
    record { fits = names-sum c.requires.good_names }
