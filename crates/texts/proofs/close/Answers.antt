use Rattle.texts.proofs.MoveLaws.{close-none, close-full, close-some}
use Rattle.std.proofs.lemmas.Bool.{not_from_false}
use Rattle.std.proofs.lemmas.Bool.{not_from_true}
use Rattle.texts.proofs.close.Goals as goal

pub returns-then-not-is_unfinished : goal.returns-then-not-is_unfinished
returns-then-not-is_unfinished c =
    λ w. close-none c.args.p c.args.out.now c.requires w c.is_unfinished.ensures (not_from_false _ c.if-not-is_unfinished.true)

pub returns-in-None : goal.returns-in-None
returns-in-None c =
    λ w. close-full c.args.p c.args.out.now c.requires w c.is_unfinished.ensures (not_from_true _ c.if-not-is_unfinished.false) c.put_refusal.ensures c.in-None.is

pub returns-in-Some : goal.returns-in-Some
returns-in-Some c =
    λ w. close-some c.args.p c.args.out.now c.requires w c.is_unfinished.ensures (not_from_true _ c.if-not-is_unfinished.false) c.put_refusal.ensures _
    c.in-Some.is
