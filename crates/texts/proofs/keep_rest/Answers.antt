use mathlib.Core.Path.{refl}
use native.Mathlib.Omega.{arith}
use lib.Dec.{ltb}
use lib.Seq.{length-take-le}
use Rattle.texts.proofs.KeepLaws.{keep-room, keeps}
use Rattle.texts.proofs.keep_rest.Goals as goal

pub move_front-requires : goal.move_front-requires
move_front-requires c =
    keep-room c.args.block.now c.args.at c.args.n c.requires.at_le_n c.requires.n_in_bounds (ltb c.line_end-end.result c.args.n) c.rest_of-rest.ensures

pub returns : goal.returns
returns c =
    keeps c.args.block.now c.args.at c.args.n c.requires.at_le_n c.requires.n_in_bounds c.line_end-end.ensures refl
    c.rest_of-rest.ensures c.move_front.ensures

pub slice_bounds-line_end-end : goal.slice_bounds-line_end-end
slice_bounds-line_end-end c =
    c.requires.n_in_bounds

pub slice_bounds-line_end-end-2 : goal.slice_bounds-line_end-end-2
slice_bounds-line_end-end-2 c =
    omega (arith, length-take-le c.args.n c.args.block.now c.requires.n_in_bounds)

pub overflow_sub-left : goal.overflow_sub-left
overflow_sub-left c =
    c.requires.at_le_n
