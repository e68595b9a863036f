use Rattle.std.proofs.lemmas.Result.{err_from_is_err_and}
use Rattle.drawing.proofs.DrawLaws.{read-labelled, read-buildable, built-draws, refused-draws}
use Rattle.drawing.proofs.draw_in.Goals as goal

pub build_to-requires-clause-labelled : goal.build_to-requires-clause-labelled
build_to-requires-clause-labelled c =
    read-labelled c.args.ending c.requires.drawable c.read_to.ensures c.in_ok-n.was

pub build_to-requires-clause-buildable : goal.build_to-requires-clause-buildable
build_to-requires-clause-buildable c =
    read-buildable c.args.ending c.requires.drawable c.read_to.ensures c.in_ok-n.was

pub returns : goal.returns
returns c =
    built-draws c.args.ending c.requires.drawable c.read_to.ensures c.in_ok-n.was c.build_to.ensures

pub returns-in_err-n : goal.returns-in_err-n
returns-in_err-n c =
    let p = err_from_is_err_and c.from_residual.result c.from_residual.ensures.1 in
    rw (p.1, p.2) (refused-draws c.args.ending c.requires.drawable c.read_to.ensures c.in_err-n.was)
