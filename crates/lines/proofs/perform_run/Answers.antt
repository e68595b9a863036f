use borrow.Enum.Refused.{opened}
use Rattle.lines.proofs.KindLaws.{none-of-run}
use Rattle.lines.proofs.AnswerLaws.{ready-as, start-answers, backup-answers, cut-answers, show-answers, reduce-answers, text-answers, best-answers}
use Rattle.lines.proofs.AnswerLaws.{count-answers, did-answers}
use Rattle.desk_lines.specs.ReadyLaws.{best-task, count-task, did-task}
use Rattle.run_lines.specs.ReadyLaws.{start-task, backup-task, cut-task, reduce-task, text-task}
use Rattle.lines.proofs.perform_run.Goals as goal

pub start-requires : goal.start-requires
start-requires c =
    start-task (ready-as c.in-Start.is c.requires.ready) c.requires.work_words_in_bounds

pub backup-requires : goal.backup-requires
backup-requires c =
    backup-task (ready-as c.in-Backup.is c.requires.ready) c.requires.work_words_in_bounds

pub cut-requires : goal.cut-requires
cut-requires c =
    cut-task (ready-as c.in-Cut.is c.requires.ready) c.requires.work_words_in_bounds

pub reduce-requires : goal.reduce-requires
reduce-requires c =
    reduce-task (ready-as c.in-Reduce.is c.requires.ready) c.requires.work_words_in_bounds

pub text-requires : goal.text-requires
text-requires c =
    text-task (ready-as c.in-Text.is c.requires.ready)

pub best-requires : goal.best-requires
best-requires c =
    best-task (ready-as c.in-Best.is c.requires.ready) c.requires.work_words_in_bounds

pub count-requires : goal.count-requires
count-requires c =
    count-task (ready-as c.in-Count.is c.requires.ready) c.requires.work_words_in_bounds

pub did-requires : goal.did-requires
did-requires c =
    did-task (ready-as c.in-Did.is c.requires.ready)

pub returns-in-Start : goal.returns-in-Start
returns-in-Start c =
    start-answers _ c.requires.ready c.in-Start.is c.start.ensures

pub returns-in-Backup : goal.returns-in-Backup
returns-in-Backup c =
    backup-answers _ c.requires.ready c.in-Backup.is c.backup.ensures

pub returns-in-Cut : goal.returns-in-Cut
returns-in-Cut c =
    cut-answers _ c.requires.ready c.in-Cut.is c.cut.ensures

pub returns-in-Show : goal.returns-in-Show
returns-in-Show c =
    show-answers _ c.requires.ready c.in-Show.is c.show.ensures

pub returns-in-Reduce : goal.returns-in-Reduce
returns-in-Reduce c =
    reduce-answers _ c.requires.ready c.in-Reduce.is c.reduce.ensures

pub returns-in-Text : goal.returns-in-Text
returns-in-Text c =
    text-answers _ c.requires.ready c.in-Text.is c.text.ensures

pub returns-in-Best : goal.returns-in-Best
returns-in-Best c =
    best-answers _ c.requires.ready c.in-Best.is c.best.ensures

pub returns-in-Count : goal.returns-in-Count
returns-in-Count c =
    count-answers _ c.requires.ready c.in-Count.is c.count.ensures

pub returns-in-Did : goal.returns-in-Did
returns-in-Did c =
    did-answers _ c.requires.ready c.in-Did.is c.did.ensures

pub returns-in_default : goal.returns-in_default
returns-in_default c =
    absurd (none-of-run c.args.kind c.requires.kind_value (opened c.in_default.in_default-own.keys10))
