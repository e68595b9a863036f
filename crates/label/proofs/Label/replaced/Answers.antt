use native.Mathlib.Omega.{arith}
use Rattle.label.proofs.CodeLaws.{read-mappable, read-packable}
use Rattle.label.proofs.CodeLaws.{replaced-is}
use Rattle.label.proofs.Label.replaced.Goals as goal

pub offset_bounds-arities-p : goal.offset_bounds-arities-p
offset_bounds-arities-p c =
    let p = (read-packable c.requires c.unpack-a.ensures).predicate-below in omega arith

pub bounds-arities-p : goal.bounds-arities-p
bounds-arities-p c =
    let p = (read-packable c.requires c.unpack-a.ensures).predicate-below in omega arith

pub mapped-requires : goal.mapped-requires
mapped-requires c =
    search read-mappable

pub returns : goal.returns
returns c =
    search replaced-is
