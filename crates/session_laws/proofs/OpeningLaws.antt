-- The session before the first line is good (document 01, section 'Text').
use Rattle.std.specs.Prelude.{◌≡◌, refl, ℕ, zero, suc, ◌-◌, ◌<◌, get_or, replicate}
use Rattle.std.proofs.Common.{arith}
use Rattle.label.specs.Limits.{predicate_count}
use Rattle.label.specs.Labels.{are_arities}
use Rattle.state.specs.Max.{sum_of}
use Rattle.session.specs.Session.{opening}
use Rattle.session.specs.Good.{GoodTables, variant_count, GoodParts, GoodSession}
use Rattle.session_laws.proofs.PlaceLaws.{model-run}

zeros : (n i : ℕ) → get_or {A = ℕ} (replicate n 0) i 0 ≡ 0
zeros zero i = refl
zeros (suc n) zero = refl
zeros (suc n) (suc i) = zeros n i

no-arity : (p : ℕ) → 0 < p → get_or opening.model.arities p 0 ≡ 0
unfolding opening
no-arity zero h = absurd (omega arith)
no-arity (suc p) h = zeros (predicate_count - 1) p

opening-tables : GoodTables opening.names opening.model.arities
unfolding opening are_arities
opening-tables = record {
  constants = omega arith;
  predicates = omega arith;
  actions = omega arith;
  parameters = omega arith;
  variants = omega arith;
  earlier = omega arith;
  arities = refl;
  undeclared = no-arity;
}

opening-parts : GoodParts opening.singles opening.model
unfolding opening
opening-parts = record {
  total-some = omega arith;
  total-few = omega arith;
  denominator-some = omega arith;
  denominator-few = omega arith;
  numerator-few = omega arith;
  reward = λ e. let z : ◌≡◌ {A = ℕ} 0 1 = cc in absurd (omega arith);
  actions = tt;
}

pub opening-good : GoodSession opening
unfolding opening variant_count sum_of
opening-good = record {
  tables = opening-tables;
  agreeing = record { count = refl; last = refl; all = refl };
  parts = opening-parts;
  few = omega arith;
  state = λ h. absurd (omega arith);
  most = omega arith;
  log = record { count = omega arith; total = omega arith; none = λ e. refl };
  quiet = λ e. refl;
  begun = λ e. model-run e;
}
