use native.Mathlib.Omega.{arith}
use mathlib.Core.Path.{◌≡◌, refl, ap, ◌∙◌}
use Rattle.std.specs.Prelude.{Option, None, Some, Result, Err}
use Rattle.std.specs.Option.{ok_or}
use Rattle.std.specs.Result.{result_ok}
use Rattle.refusal.specs.declared.Refusal.{Refusal}
use Rattle.std.proofs.lemmas.Result.{err_from_is_err_and}
use Prim.Native.Nat.{ℕ}
use lib.ListN.{length-replicate}
use Rattle.label.specs.Limits.{term_end}
use Rattle.diagram.specs.Sizes.{most_rows}
use Rattle.elimination.specs.Elimination.{most_entries}
use Rattle.valuing.proofs.TablesLaws.{few-rows, above-none, tables-minimum, tables-ready, tables-over, root-start, tables-value}
use Rattle.valuing.proofs.StartLaws.{listing-some}
use Rattle.std.proofs.lemmas.Bool.{not_from_true}
use Rattle.valuing.proofs.by_tables.Goals as goal

-- where `ok_or` refuses, nothing is there
nothing-there : {T : Type 0} (o : Option T) {r : Result T Refusal} {e d : Refusal} → r ≡ ok_or o d → r ≡ Err e → (o ≡ None) × (e ≡ d)
nothing-there None p q = (refl, cc)
nothing-there (Some x) p q = cc

pub returns-then-not-plain : goal.returns-then-not-plain
returns-then-not-plain c =
    search tables-minimum

pub find_above-requires : goal.find_above-requires
find_above-requires c =
    above-none _ _ most_rows c.requires.words_value c.requires.plain_value (not_from_true _ c.if-not-plain.false) (omega arith)

pub start-requires : goal.start-requires
start-requires c =
    length-replicate {A = ℕ} term_end 0

pub work-requires : goal.work-requires
work-requires c =
    tables-ready _ _ _ _ _ _ c.requires.words_value c.requires.facts_value c.requires.objects_value c.requires.plain_value (not_from_true _ c.if-not-plain.false) c.start.ensures c.find_above.ensures

pub returns-in_err-next : goal.returns-in_err-next
returns-in_err-next c =
    let plain = not_from_true _ c.if-not-plain.false in
    let q = c.requires in
    let gone = nothing-there c.work.result c.ok_or.ensures.value c.in_err-next.was in
    let p = err_from_is_err_and c.from_residual.result c.from_residual.ensures.1 in
    rw (p.1, p.2, gone.1) (tables-over _ _ _ _ _ _ q.words_value q.facts_value q.objects_value q.plain_value plain c.start.ensures c.work.ensures gone.0)

pub overflow_sub-root : goal.overflow_sub-root
overflow_sub-root c =
    listing-some _ _ c.requires.words_value

pub overflow_mul-at : goal.overflow_mul-at
overflow_mul-at c =
    omega (arith, few-rows _ _ c.requires.words_value, listing-some _ _ c.requires.words_value)

pub overflow_add-at : goal.overflow_add-at
overflow_add-at c =
    omega (arith, few-rows _ _ c.requires.words_value, listing-some _ _ c.requires.words_value)

pub offset_bounds-heads-root : goal.offset_bounds-heads-root
offset_bounds-heads-root c =
    omega (arith, few-rows _ _ c.requires.words_value, listing-some _ _ c.requires.words_value)

pub bounds-heads-root : goal.bounds-heads-root
bounds-heads-root c =
    omega (arith, few-rows _ _ c.requires.words_value, listing-some _ _ c.requires.words_value)

pub offset_bounds-space-at : goal.offset_bounds-space-at
offset_bounds-space-at c =
    let plain = not_from_true _ c.if-not-plain.false in
    let q = c.requires in
    let first = root-start _ _ _ _ _ _ q.words_value q.facts_value q.objects_value q.plain_value plain c.start.ensures c.work.ensures (c.ok_or.ensures.ok_part ∙ ap result_ok c.in_ok-next.was) in
    omega (arith, first, c.work.auto.space, length-replicate {A = ℕ} most_entries 0)

pub bounds-space-at : goal.bounds-space-at
bounds-space-at c =
    let plain = not_from_true _ c.if-not-plain.false in
    let q = c.requires in
    let first = root-start _ _ _ _ _ _ q.words_value q.facts_value q.objects_value q.plain_value plain c.start.ensures c.work.ensures (c.ok_or.ensures.ok_part ∙ ap result_ok c.in_ok-next.was) in
    omega (arith, first, c.work.auto.space, length-replicate {A = ℕ} most_entries 0)

pub returns : goal.returns
returns c =
    let plain = not_from_true _ c.if-not-plain.false in
    let q = c.requires in
    tables-value _ _ _ _ _ _ q.words_value q.facts_value q.objects_value q.plain_value plain c.start.ensures c.work.ensures (c.ok_or.ensures.ok_part ∙ ap result_ok c.in_ok-next.was) refl
