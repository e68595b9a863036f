use Rattle.spelling.proofs.TestLaws.{places-start, space-room, term-room, places-step, places-done}
use Rattle.spelling.proofs.put_places.Goals as goal

pub loop-k-init : goal.loop-k-init
loop-k-init c =
    search places-start

pub put_bytes-i-requires : goal.put_bytes-i-requires
put_bytes-i-requires c =
    search space-room

pub put_term-end-requires-clause-t_in_bounds : goal.put_term-end-requires-clause-t_in_bounds
put_term-end-requires-clause-t_in_bounds c =
    search term-room

pub loop-k-preserved : goal.loop-k-preserved
loop-k-preserved c =
    let q = c.requires in
    let term = c.put_term-end in
    places-step q.n_le_most_places q.n_in_bounds c.loop-k.invariant c.loop-k-test.true c.put_bytes-i.ensures c.put_bytes-i.auto.out c.place.ensures term.ensures term.auto.out

pub returns : goal.returns
returns c =
    search places-done
