use lib.Dec.{lit≤}
use Rattle.pruning.proofs.KeepingLaws.{keep-empty, keep-nothing, keep-start}
use Rattle.pruning.proofs.keep.Goals as goal

pub leaf-requires : goal.leaf-requires
leaf-requires c =
    keep-empty c.requires 2048 2048 (lit≤ tt) (lit≤ tt)

pub returns-in_err-first : goal.returns-in_err-first
returns-in_err-first c = rw c.from_residual.ensures (keep-nothing c.requires c.leaf.ensures c.in_err-first.was)

pub keep_rows-requires : goal.keep_rows-requires
keep_rows-requires c =
    keep-start c.requires c.leaf.ensures 1024 c.in_ok-first.was (lit≤ tt)
