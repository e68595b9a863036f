use native.Mathlib.Omega.{arith}
use Rattle.texts.proofs.MoveLaws.{placed_at, rest-full, rest-closed}
use Rattle.texts.proofs.close_rest.Goals as goal

pub returns-in_default : goal.returns-in_default
returns-in_default c =
    λ w b t. rest-full c.args.p c.args.out.now c.requires.end_in_bounds w c.put_refusal.ensures b t c.in_default.is

pub close-requires : goal.close-requires
close-requires c =
    let a = placed_at c.put_refusal.ensures _ c.in-Some.is in
    omega (arith, a.within, a.long)

pub returns : goal.returns
returns c =
    λ w b t. rest-closed c.args.p c.args.out.now c.requires.end_in_bounds w c.put_refusal.ensures b t _
    c.in-Some.is c.close.ensures
