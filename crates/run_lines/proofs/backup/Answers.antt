use Rattle.planner.proofs.HeldLaws.{callable-standing, callable-powered}
use Rattle.run_lines.proofs.BackupLaws.{backup-made, backup-stops}
use Rattle.run_lines.proofs.backup.Goals as goal

pub backup-r-requires-clause-laid : goal.backup-r-requires-clause-laid
backup-r-requires-clause-laid c =
    c.requires.laid

pub backup-r-requires-clause-standing : goal.backup-r-requires-clause-standing
backup-r-requires-clause-standing c =
    callable-standing c.requires.callable c.requires.room

pub backup-r-requires-clause-powered : goal.backup-r-requires-clause-powered
backup-r-requires-clause-powered c =
    callable-powered c.requires.laid c.requires.callable

pub returns-in-Ok : goal.returns-in-Ok
returns-in-Ok c =
    backup-made c.requires c.backup-r.ensures c.in-Ok.is c.backup-r.auto.value c.running.ensures

pub returns-in-Err : goal.returns-in-Err
returns-in-Err c =
    backup-stops c.requires c.backup-r.ensures c.in-Err.is
