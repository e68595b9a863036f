use Rattle.lines.proofs.KindLaws.{told-model, told-change, told-ask}
use Rattle.lines.proofs.AnswerLaws.{ready-as, model-ready, objects-answers, is-answers, tell-answers, value-answers, bad-answers}
use Rattle.run_lines.specs.ReadyLaws.{value-task}
use Rattle.state_lines.specs.LineLaws.{for-objects, for-is, for-true}
use Rattle.lines.proofs.perform.Goals as goal

pub objects-requires : goal.objects-requires
objects-requires c =
    for-objects (ready-as c.in-Objects.is c.requires.ready)

pub is-requires : goal.is-requires
is-requires c =
    for-is (ready-as c.in-Is.is c.requires.ready)

pub tell-requires : goal.tell-requires
tell-requires c =
    for-true (ready-as c.in-True.is c.requires.ready)

pub value-requires : goal.value-requires
value-requires c =
    value-task (ready-as c.in-Value.is c.requires.ready) c.requires.work_words_in_bounds

pub perform_model-requires-clause-kind_value : goal.perform_model-requires-clause-kind_value
perform_model-requires-clause-kind_value c =
    told-model c.args.kind c.in-Constant.in-Constant-own.keys5

pub perform_model-requires-clause-model_ready : goal.perform_model-requires-clause-model_ready
perform_model-requires-clause-model_ready c =
    model-ready c.requires.ready

pub perform_model-requires-clause-work_words_in_bounds : goal.perform_model-requires-clause-work_words_in_bounds
perform_model-requires-clause-work_words_in_bounds c =
    c.requires.work_words_in_bounds

pub perform_run-requires-clause-kind_value : goal.perform_run-requires-clause-kind_value
perform_run-requires-clause-kind_value c =
    told-change c.args.kind c.in-Start.in-Start-own.keys6

pub perform_run-requires-clause-ready : goal.perform_run-requires-clause-ready
perform_run-requires-clause-ready c =
    c.requires.ready

pub perform_run-requires-clause-work_words_in_bounds : goal.perform_run-requires-clause-work_words_in_bounds
perform_run-requires-clause-work_words_in_bounds c =
    c.requires.work_words_in_bounds

pub perform_run-requires-in_default-clause-kind_value : goal.perform_run-requires-in_default-clause-kind_value
perform_run-requires-in_default-clause-kind_value c =
    told-ask c.args.kind c.in_default.in_default-own.keys8

pub perform_run-requires-in_default-clause-ready : goal.perform_run-requires-in_default-clause-ready
perform_run-requires-in_default-clause-ready c =
    c.requires.ready

pub perform_run-requires-in_default-clause-work_words_in_bounds : goal.perform_run-requires-in_default-clause-work_words_in_bounds
perform_run-requires-in_default-clause-work_words_in_bounds c =
    c.requires.work_words_in_bounds

pub returns-in-Objects : goal.returns-in-Objects
returns-in-Objects c =
    objects-answers _ c.requires.ready c.in-Objects.is c.objects.ensures

pub returns-in-Is : goal.returns-in-Is
returns-in-Is c =
    is-answers _ c.requires.ready c.in-Is.is c.is.ensures

pub returns-in-True : goal.returns-in-True
returns-in-True c =
    tell-answers _ c.requires.ready c.in-True.is c.tell.ensures

pub returns-in-Value : goal.returns-in-Value
returns-in-Value c =
    value-answers _ c.requires.ready c.in-Value.is c.value.ensures

pub returns-in-Constant : goal.returns-in-Constant
returns-in-Constant c =
    c.perform_model.ensures.says _ _ c.requires.ready

pub returns-in-Start : goal.returns-in-Start
returns-in-Start c =
    c.perform_run.ensures

pub returns-in-Bad : goal.returns-in-Bad
returns-in-Bad c =
    bad-answers _ c.requires.ready c.in-Bad.is c.no_line.ensures

pub returns-in_default : goal.returns-in_default
returns-in_default c =
    c.perform_run-in_default.ensures
