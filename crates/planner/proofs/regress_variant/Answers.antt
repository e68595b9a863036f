use Rattle.model.proofs.CheckLaws.{part-spans}
use Rattle.planner.proofs.VariantLaws.{regress-able, regress-told}
use Rattle.planner.proofs.regress_variant.Goals as goal

pub regress_checked-r-requires : goal.regress_checked-r-requires
regress_checked-r-requires c =
    regress-able c.requires (part-spans c.args.table.now c.args.place)

pub returns-in_default : goal.returns-in_default
returns-in_default c =
    regress-told c.requires (part-spans c.args.table.now c.args.place) c.regress_checked-r.ensures.value c.regress_checked-r.ensures.out_after

pub returns : goal.returns
returns c =
    let p = regress-told c.requires (part-spans c.args.table.now c.args.place) c.regress_checked-r.ensures.value c.regress_checked-r.ensures.out_after in
    rw (← c.in-Ok.is) p
