use Rattle.apart.proofs.ApartLaws.{apart-many, apart-separable}
use Rattle.apart.proofs.combine_apart.Goals as goal

pub returns-in_default : goal.returns-in_default
returns-in_default c =
    apart-many c.requires c.used.ensures c.used-2.ensures c.set_aside.ensures _ c.in_default.is

pub combine_moved-requires : goal.combine_moved-requires
combine_moved-requires c =
    apart-separable c.requires c.used.ensures c.used-2.ensures c.set_aside.ensures c.in-Some.is
