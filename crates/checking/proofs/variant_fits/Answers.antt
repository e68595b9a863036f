use Rattle.checking.proofs.TestLaws.{variant-outside, variant-unweighed, variant-rest, inside-within}
use native.Mathlib.Omega.{arith}
use Prim.Native.Nat.{◌+◌}
use lib.ListN.{get_or}
use borrow.Author.Rules.{rules}
use Rattle.std.proofs.lemmas.Bool.{not_from_false}
use Rattle.std.proofs.lemmas.Bool.{not_from_true}
use Rattle.checking.proofs.variant_fits.Goals as goal

pub returns-then-not-is_inside : goal.returns-then-not-is_inside
returns-then-not-is_inside c =
    variant-outside _ _ _ _ _ _ c.is_inside.ensures (not_from_false _ c.if-not-is_inside.true)

pub overflow_add-start : goal.overflow_add-start
overflow_add-start c =
    let s = get_or c.args.table.now c.args.place 0 in
    let n = get_or c.args.table.now (c.args.place + 1) 0 in
    let h = inside-within s n c.args.used c.is_inside.ensures (not_from_true _ c.if-not-is_inside.false) c.requires.lent.room in
    omega arith

pub offset_bounds-listings-start : goal.offset_bounds-listings-start
offset_bounds-listings-start c =
    let s = get_or c.args.table.now c.args.place 0 in
    let n = get_or c.args.table.now (c.args.place + 1) 0 in
    let h = inside-within s n c.args.used c.is_inside.ensures (not_from_true _ c.if-not-is_inside.false) c.requires.lent.room in
    search rules

pub slice_bounds-is_weight-end : goal.slice_bounds-is_weight-end
slice_bounds-is_weight-end c =
    inside-within _ _ _ c.is_inside.ensures (not_from_true _ c.if-not-is_inside.false) c.requires.lent.room

pub is_weight-requires : goal.is_weight-requires
is_weight-requires c =
    c.requires.lent.parameters

pub returns-then-not-is_weight : goal.returns-then-not-is_weight
returns-then-not-is_weight c =
    variant-unweighed _ _ _ _ _ _ c.is_inside.ensures (not_from_true _ c.if-not-is_inside.false) c.is_weight.ensures (not_from_false _ c.if-not-is_weight.true)

pub truths_fit-requires : goal.truths_fit-requires
truths_fit-requires c =
    c.requires

pub returns : goal.returns
returns c =
    variant-rest _ _ _ _ _ _ c.is_inside.ensures (not_from_true _ c.if-not-is_inside.false)
    c.is_weight.ensures (not_from_true _ c.if-not-is_weight.false) c.truths_fit.ensures
