use Rattle.combine.proofs.FormLaws.{FormLoop}
use Rattle.combine.proofs.form.Given as goal

abbrev pub invariant-loop-k : goal.invariant-loop-k
invariant-loop-k l = FormLoop l.op l.initial.plan l.initial.space l.initial.heads l.initial.links l.count l.n l.plan l.space l.heads l.links l.rows l.last l.k
