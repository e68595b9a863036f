use native.Mathlib.Omega.{arith}
use Rattle.valuing.proofs.SearchLaws.{labelled-predicate, labelled-read, looking-start, looking-place, looking-term, looking-free, looking-on, looking-small, looking-done}
use Rattle.valuing.proofs.look_up.Goals as goal

pub offset_bounds-arities-q : goal.offset_bounds-arities-q
offset_bounds-arities-q c =
    omega (arith, labelled-predicate c.requires)

pub bounds-arities-q : goal.bounds-arities-q
bounds-arities-q c =
    search labelled-read

pub loop-j-init : goal.loop-j-init
loop-j-init c =
    search looking-start

pub place-t-requires : goal.place-t-requires
place-t-requires c =
    search looking-place

pub offset_bounds-env-t : goal.offset_bounds-env-t
offset_bounds-env-t c =
    omega (arith, looking-term c.loop-j.invariant c.loop-j-test.true c.place-t.ensures)

pub bounds-env-t : goal.bounds-env-t
bounds-env-t c =
    search looking-term

pub returns-then-o : goal.returns-then-o
returns-then-o c =
    search looking-free

pub hash_step-h-requires : goal.hash_step-h-requires
hash_step-h-requires c =
    search looking-small

pub loop-j-preserved : goal.loop-j-preserved
loop-j-preserved c =
    search looking-on

pub bucket-requires : goal.bucket-requires
bucket-requires c =
    search looking-small

pub returns : goal.returns
returns c =
    search looking-done
