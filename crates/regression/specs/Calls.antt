-- Steps that may be refused, and that share the working space of one call (document 01, section 'Combination').
use Rattle.std.specs.Prelude.{cond, List, length, ltb}
use Rattle.refusal.specs.Outcome.{Outcome, ok, refused, and_then}
use Rattle.refusal.specs.declared.Refusal.TheVariants.{Pairs, Value, Space}
use Rattle.diagram.specs.Sizes.{space_rows, most_pairs}
use Rattle.diagram.specs.Diagram.{Diagram}
use Rattle.diagram.specs.Rows.{onto}
use Rattle.apply.specs.declared.Operation.{Operation}
use Rattle.apply.specs.Apply.{apply}
use Rattle.apply.specs.Pairs.{pairs, pair_count, overflows}
use Rattle.apply.specs.Combination.{operate}

-- a step of a call: from the rows formed so far, its answer and the rows formed then
abbrev pub Run : Type 0 → Type 0
Run A = List Diagram → Outcome (A × List Diagram)

-- a step that forms nothing
abbrev pub pure : {A : Type 0} → A → Run A
pure a rs = ok (a, rs)

abbrev pub bind : {A B : Type 0} → Run A → (A → Run B) → Run B
bind m f rs = and_then (m rs) (λ r. f r.0 r.1)

-- rows formed in one call share a working space of 2,048 rows, equal ones counted once, none given up
unfoldable pub form : Diagram → Run Diagram
form d rs = cond (ltb space_rows (length (onto d rs))) (refused Space) (ok (d, onto d rs))

-- a combination with names shared: more than 4,096 pairs (10), a leaf pair whose result is above 10^18 (11), space (9).
-- Every pair forms its reduced diagram: these are the rows of the result (`combine-forms`).
unfoldable pub combine : Operation → Diagram → Diagram → Run Diagram
unfolding form
combine op a b rs =
    cond (ltb most_pairs (pair_count op a b)) (refused Pairs)
    (cond (overflows (operate op) (pairs op a b)) (refused Value)
    (form (apply (operate op) a b) rs))
