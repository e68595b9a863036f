use Rattle.std.proofs.Common.{◌≡◌, ℕ, ◌+◌, ◌-◌, not, eqb, take, drop, ◌∙◌, rules, tests, arith}
use Rattle.std.proofs.lemmas.Iterator.{YieldsList-from_slice}
use Rattle.std.proofs.lemmas.Iterator.Search.{any_from_yields_List}
use Rattle.reduce.proofs.KindLaws.{used_listed}
use Rattle.reduce.proofs.has_marked.Goals as goal

pub returns : goal.returns
returns c =
    let e : c.args.first + c.args.n - c.args.first ≡ c.args.n = omega arith in
    let xs = take c.args.n (drop c.args.first c.args.used.now) in
    any_from_yields_List (λ (x : ℕ). not (eqb x 0)) _ _ c.any.result c.any.ensures.ran (YieldsList-from_slice xs cc) (λ x b q k. search (rules, tests))
    ∙ used_listed c.args.used.now c.args.first c.args.n c.requires
