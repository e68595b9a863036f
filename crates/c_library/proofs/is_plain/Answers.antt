use Rattle.c_library.proofs.SessionLaws.{plain-part, plain-total, plain-discount, plain-reward, plain-met}
use Rattle.c_library.proofs.is_plain.Goals as goal

pub returns-then-numbers-gt1 : goal.returns-then-numbers-gt1
returns-then-numbers-gt1 c =
    plain-part c.args.numbers.now c.if-numbers-gt1.true

pub returns-then-numbers-gt1-2 : goal.returns-then-numbers-gt1-2
returns-then-numbers-gt1-2 c =
    plain-total c.args.numbers.now c.if-numbers-gt1.false c.if-numbers-gt1-2.true

pub returns-then-numbers-gt1-3 : goal.returns-then-numbers-gt1-3
returns-then-numbers-gt1-3 c =
    plain-discount c.args.numbers.now
    c.if-numbers-gt1.false c.if-numbers-gt1-2.false c.if-numbers-gt1-3.true

pub returns-then-numbers-gt1-4 : goal.returns-then-numbers-gt1-4
returns-then-numbers-gt1-4 c =
    plain-reward c.args.numbers.now
    c.if-numbers-gt1.false c.if-numbers-gt1-2.false c.if-numbers-gt1-3.false
    c.if-numbers-gt1-4.true

pub returns : goal.returns
returns c =
    plain-met c.args.numbers.now
    c.if-numbers-gt1.false c.if-numbers-gt1-2.false
    c.if-numbers-gt1-3.false c.if-numbers-gt1-4.false
