-- The laws that rest on a theorem of specs/ which a must-fail edit turns.
pub mod BackupValueLaws
