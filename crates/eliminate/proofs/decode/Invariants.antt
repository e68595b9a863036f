use Rattle.eliminate.proofs.DigitLaws.{Decoding}
use Rattle.eliminate.proofs.decode.Given as goal

abbrev pub invariant-loop-v : goal.invariant-loop-v
invariant-loop-v l = Decoding l.initial.env l.n l.set l.c l.env l.rest l.code l.v
