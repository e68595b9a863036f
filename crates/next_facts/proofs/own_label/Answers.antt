use Rattle.next_facts.proofs.CallLaws.{label-packable, label-own}
use Rattle.next_facts.proofs.own_label.Goals as goal

pub pack-requires : goal.pack-requires
pack-requires c =
    label-packable _ _ c.own_place.ensures c.own_place-2.ensures
    c.own_place-3.ensures c.own_place-4.ensures c.own_place-5.ensures c.own_place-6.ensures
    c.requires

pub returns : goal.returns
returns c =
    label-own _ _ c.own_place.ensures c.own_place-2.ensures
    c.own_place-3.ensures c.own_place-4.ensures c.own_place-5.ensures c.own_place-6.ensures
    c.pack.ensures
