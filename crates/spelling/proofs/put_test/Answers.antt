use native.Mathlib.Omega.{arith}
use Rattle.label.proofs.ArityLaws.{arity-most}
use Rattle.spelling.proofs.TestLaws.{predicate-there, constants-room, predicates-room, if-room, word_room, places-room, end-room, test-wrote}
use Rattle.spelling.proofs.put_test.Goals as goal

pub offset_bounds-arities-p : goal.offset_bounds-arities-p
offset_bounds-arities-p c =
    omega (arith, predicate-there c.args.arities.now c.args.label.packed c.requires.arities_value c.requires.packed_value c.predicate-p.ensures)

pub bounds-arities-p : goal.bounds-arities-p
bounds-arities-p c =
    predicate-there c.args.arities.now c.args.label.packed c.requires.arities_value c.requires.packed_value c.predicate-p.ensures

pub put_bytes-i-requires : goal.put_bytes-i-requires
put_bytes-i-requires c =
    if-room c.args.out.now c.args.arities.now c.args.names.now c.args.at c.args.constants c.args.predicates c.args.label.packed c.requires.packed_in_bounds

pub put_head-j-requires : goal.put_head-j-requires
put_head-j-requires c = record {
  predicates_in_bounds = predicates-room c.requires.named;
  p_in_bounds = word_room c.args.out.now c.args.arities.now c.args.names.now c.args.at c.args.constants c.args.predicates c.args.label.packed c.requires.packed_in_bounds
      c.put_bytes-i.ensures c.put_bytes-i.auto.out c.predicate-p.ensures;
}

pub put_places-k-requires-clause-n_le_most_places : goal.put_places-k-requires-clause-n_le_most_places
put_places-k-requires-clause-n_le_most_places c =
    arity-most c.args.arities.now c.predicate-p.result c.requires.arities_value

pub put_places-k-requires-clause-constants_in_bounds : goal.put_places-k-requires-clause-constants_in_bounds
put_places-k-requires-clause-constants_in_bounds c = constants-room c.requires.named

pub put_places-k-requires-clause-n_in_bounds : goal.put_places-k-requires-clause-n_in_bounds
put_places-k-requires-clause-n_in_bounds c =
    places-room c.args.out.now c.args.arities.now c.args.names.now c.args.at c.args.constants c.args.predicates c.args.label.packed c.requires.packed_in_bounds
    c.put_bytes-i.ensures c.put_bytes-i.auto.out c.predicate-p.ensures c.put_head-j.ensures c.put_head-j.auto.out

pub put_bytes-requires : goal.put_bytes-requires
put_bytes-requires c =
    end-room c.args.out.now c.args.arities.now c.args.names.now c.args.at c.args.constants c.args.predicates c.args.label.packed c.requires.packed_in_bounds
    c.put_bytes-i.ensures c.put_bytes-i.auto.out c.predicate-p.ensures c.put_head-j.ensures c.put_head-j.auto.out c.put_places-k.ensures c.put_places-k.auto.out

pub returns : goal.returns
returns c =
    test-wrote c.args.out.now c.args.arities.now c.args.names.now c.args.at c.args.constants c.args.predicates c.args.label.packed c.requires.packed_in_bounds
    c.put_bytes-i.ensures c.put_bytes-i.auto.out c.predicate-p.ensures c.put_head-j.ensures c.put_head-j.auto.out c.put_places-k.ensures c.put_places-k.auto.out
    c.put_bytes.ensures
