use Rattle.checking.proofs.TestLaws.{truth-outside, truth-equality, truth-none, truth-some, arity-place, inside-within}
use Rattle.label.proofs.ArityLaws.{arity-most}
use native.Mathlib.Omega.{arith}
use Prim.Native.Nat.{◌+◌, ◌*◌}
use lib.ListN.{get_or}
use borrow.Author.Rules.{rules}
use Rattle.std.proofs.lemmas.Bool.{not_from_false}
use Rattle.std.proofs.lemmas.Bool.{not_from_true}
use Rattle.checking.proofs.truth_fits.Goals as goal

pub returns-then-not-is_inside : goal.returns-then-not-is_inside
returns-then-not-is_inside c =
    truth-outside _ _ _ _ _ _ _ c.is_inside.ensures (not_from_false _ c.if-not-is_inside.true)

pub returns-then-p-eq0 : goal.returns-then-p-eq0
returns-then-p-eq0 c =
    truth-equality _ _ _ _ _ _ _ c.is_inside.ensures (not_from_true _ c.if-not-is_inside.false) c.if-p-eq0.true

pub returns-then-count-eq0 : goal.returns-then-count-eq0
returns-then-count-eq0 c =
    truth-none _ _ _ _ _ _ _ c.is_inside.ensures (not_from_true _ c.if-not-is_inside.false) c.if-count-eq0.true

pub bounds-arities-p : goal.bounds-arities-p
bounds-arities-p c =
    arity-place _ c.requires.lent.arities
    c.requires.p_lt_predicate_count

pub overflow_add-start-3 : goal.overflow_add-start-3
overflow_add-start-3 c =
    let s = get_or c.args.table.now (c.args.place + 2 + c.args.p * 2) 0 in
    let n = get_or c.args.table.now (c.args.place + 2 + c.args.p * 2 + 1) 0 in
    let h = inside-within s n c.args.used c.is_inside.ensures (not_from_true _ c.if-not-is_inside.false)
    c.requires.lent.room in
    omega arith

pub offset_bounds-listings-start : goal.offset_bounds-listings-start
offset_bounds-listings-start c =
    let s = get_or c.args.table.now (c.args.place + 2 + c.args.p * 2) 0 in
    let n = get_or c.args.table.now (c.args.place + 2 + c.args.p * 2 + 1) 0 in
    let h = inside-within s n c.args.used c.is_inside.ensures (not_from_true _ c.if-not-is_inside.false)
    c.requires.lent.room in
    search rules

pub slice_bounds-is_truth-end : goal.slice_bounds-is_truth-end
slice_bounds-is_truth-end c =
    inside-within _ _ _ c.is_inside.ensures (not_from_true _ c.if-not-is_inside.false)
    c.requires.lent.room

pub returns : goal.returns
returns c =
    truth-some _ _ _ _ _ _ _ c.is_inside.ensures (not_from_true _ c.if-not-is_inside.false)
    c.if-p-eq0.false c.if-count-eq0.false c.is_truth.ensures

pub is_truth-requires-clause-n_le_most_places : goal.is_truth-requires-clause-n_le_most_places
is_truth-requires-clause-n_le_most_places c =
    search (rules, truth-outside, truth-equality, truth-none, truth-some, arity-place, inside-within, arity-most)
