-- What contracts of inner functions and proofs cite. Nothing here has to be believed.
use Rattle.std.specs.Prelude.{◌≡◌, true, false, ◌<◌}
use Rattle.refusal.specs.declared.Refusal.TheVariants.{Weightless, Crowded, Valuations, Tally}
use Rattle.refusal.specs.Outcome.{Outcome, ok, refused}
use Rattle.state.specs.Lent.{fact_count, most_facts}
use Rattle.mdp.specs.Model.{Model}
use Rattle.mdp.specs.Bellman.{weight_in}
use Rattle.replay.specs.Replay.{Did, variant_of, Replay, in_hand, moved_by, counted, has_no_weight, has_many_facts, has_valuations, is_too_high}

-- each answer exactly under its condition, in the order 21, 22, 15, 23
pub data Verdict (m : Model) (r : Replay) (d : Did) : Outcome Replay → Type 0 where
  on21 : weight_in m.arities (in_hand m.arities r) d.objects (variant_of m d) ≡ 0 → Verdict m r d (refused Weightless)
  on22 : has_no_weight m r d ≡ false → most_facts < fact_count (moved_by m r d).facts → Verdict m r d (refused Crowded)
  on15 : has_no_weight m r d ≡ false → has_many_facts m r d ≡ false → has_valuations m r d ≡ true → Verdict m r d (refused Valuations)
  on23 : has_no_weight m r d ≡ false → has_many_facts m r d ≡ false → has_valuations m r d ≡ false → is_too_high m r d ≡ true → Verdict m r d (refused Tally)
  allowed : has_no_weight m r d ≡ false → has_many_facts m r d ≡ false → has_valuations m r d ≡ false → is_too_high m r d ≡ false
      → Verdict m r d (ok (counted m r d))
