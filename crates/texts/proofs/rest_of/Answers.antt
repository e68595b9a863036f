use Rattle.texts.proofs.KeepLaws.{rest-whole, rest-short, rest-cut}
use Rattle.texts.proofs.rest_of.Goals as goal

pub returns-then-whole : goal.returns-then-whole
returns-then-whole c =
    rest-whole c.args.left c.if-whole.true

pub returns-then-left-le-LINE_ROOM : goal.returns-then-left-le-LINE_ROOM
returns-then-left-le-LINE_ROOM c =
    rest-short c.args.left c.if-whole.false c.if-left-le-LINE_ROOM.true

pub returns : goal.returns
returns c =
    rest-cut c.args.left c.if-whole.false c.if-left-le-LINE_ROOM.false
