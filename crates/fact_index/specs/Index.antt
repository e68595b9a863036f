-- How many buckets the index of facts has.
use Rattle.std.specs.Prelude.{ℕ}

-- the index has this many buckets
abbrev pub buckets : ℕ
buckets = 1024
