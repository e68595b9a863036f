-- Laws of the calls of a backup.
use mathlib.Core.Path.{◌≡◌, refl, sym, ap, subst, ◌∙◌}
use mathlib.Core.List.{List}
use Prim.Native.Nat.{ℕ, ◌*◌, ◌≤◌}
use native.Mathlib.Omega.{arith}
use lib.ListN.{length, take, replicate, length-replicate}
use lib.Seq.{length-take-le}
use Rattle.refusal.specs.declared.Refusal.{Refusal}
use Rattle.refusal.specs.Outcome.{Outcome, refused, and_then, Accepted}
use Rattle.refusal.specs.OutcomeLaws.{accepted-refused}
use Rattle.diagram.specs.Sizes.{highest_value, result_words}
use Rattle.diagram.specs.Diagram.{Diagram, leaf}
use Rattle.diagram.specs.Listing.{diagram_of, Good}
use Rattle.apply.specs.declared.Operation.TheVariants.{Sum, Product}
use Rattle.apply.specs.declared.Names.TheVariants.{Apart, Shared}
use Rattle.regression.specs.RegressCall.{written_as}
use Rattle.mdp.specs.Backup.{combined, actions_best, row_of_calls}
use Rattle.model.specs.declared.Head.{Head}
use Rattle.model.specs.Inner.{Laid}
use Rattle.model.specs.Layout.{reward_words, model_of}
use Rattle.steps.specs.Steps.{step_as, Given, Wrote, Operands}
use Rattle.planner.specs.Tasks.{ValueTask, RewardTask, Standing}
use Rattle.steps.specs.GivenLaws.{step-refused}
use Rattle.planner.proofs.FollowLaws.{first_done, both-done, both-operands}
use Rattle.std.specs.Prelude.{Err, Ok, Result}

pub wrote-refused : {ar : List ℕ} {o : Outcome Diagram} {e : Refusal} {out : List ℕ} → o ≡ refused e → Wrote ar o (Err e) out out
wrote-refused {ar} {o} {e} {out} h = record {
  answer = ap step_as (sym h);
  words = ap (λ (x : Outcome Diagram). written_as x out) (sym h);
  good = subst (Accepted (Good ar)) (sym h) accepted-refused;
}

-- a refusal is handed up, and the buffer stays
pub wrote_then : {ar : List ℕ} {o p : Outcome Diagram} (f : Diagram → Outcome Diagram) {r : Result ℕ Refusal} {e : Refusal} {buffer out : List ℕ} → Given ar o r buffer → r ≡ Err e
    → p ≡ and_then o f → Wrote ar p r out out
wrote_then {ar} {o} {p} f {r} {e} {buffer} {out} g h q =
    let k : o ≡ refused e = step-refused o e (sym g.answer ∙ h) in
    subst (λ (x : Result ℕ Refusal). Wrote ar p x out out) (sym h) (wrote-refused (q ∙ ap (λ (x : Outcome Diagram). and_then x f) k))

numerator-small : {ar listings table : List ℕ} {h : Head} → Laid ar listings table h → h.numerator ≤ highest_value
unfolding model_of
numerator-small {ar} {listings} {table} {h} t = let g = t.good in omega (arith, g.numerator-few, g.denominator-few)

module _ {ar listings table : List ℕ} {h : Head} (t : Laid ar listings table h) {value : List ℕ} {rows : ℕ} {work : List ℕ} (u : Standing ar value rows work) (scale : ℕ) where
  pub standing-long : rows * 3 ≡ length (take (rows * 3) value)
  standing-long = sym (length-take-le (rows * 3) value u.inside)

  pub standing-task : (n : ℕ) → result_words ≤ n → ValueTask ar (take (rows * 3) value) h.numerator (replicate n 0) work
  standing-task n k = record {
    value-listing = u.listing;
    within = u.within;
    few = numerator-small t;
    out-room = omega (arith, length-replicate {A = ℕ} n 0);
    work-room = u.work-room;
  }

  pub reward-task : (n : ℕ) → result_words ≤ n → scale ≤ highest_value → {work' : List ℕ} → length work' ≡ length work → RewardTask ar listings h scale (replicate n 0) work'
  reward-task n k few e = record {
    inside = t.inside;
    reward = t.reward;
    few = few;
    out-room = omega (arith, length-replicate {A = ℕ} n 0);
    work-room = omega (arith, e, u.work-room);
  }

  abbrev B : Outcome Diagram
  B = actions_best ar h.numerator (diagram_of (take (rows * 3) value)) (leaf 0) (model_of ar listings table h).actions

  abbrev R : Outcome Diagram
  R = combined Product Shared ar (diagram_of (reward_words listings h)) (leaf scale)

  abbrev C : Outcome Diagram
  C = row_of_calls (model_of ar listings table h) scale (diagram_of (take (rows * 3) value))

  calls_are : C ≡ and_then B (λ best. and_then R (λ r. combined Sum Apart ar best r))
  unfolding row_of_calls model_of
  calls_are = refl

  module _ {a : Result ℕ Refusal} {best : List ℕ} (x : Given ar B a best) where
    pub calls-stop : {e : Refusal} → a ≡ Err e → {out : List ℕ} → Wrote ar C a out out
    calls-stop k = wrote_then (λ best. and_then R (λ r. combined Sum Apart ar best r)) x k calls_are

    module _ {n : ℕ} (k : a ≡ Ok n) {b : Result ℕ Refusal} {reward : List ℕ} (y : Given ar R b reward) where
      pub calls-stop-2 : {e : Refusal} → b ≡ Err e → {out : List ℕ} → Wrote ar C b out out
      calls-stop-2 l = wrote_then (λ r. combined Sum Apart ar (diagram_of (take (n * 3) best)) r) y l (first_done Sum Apart R calls_are x k)

      module _ {m : ℕ} (l : b ≡ Ok m) where
        pub calls-operands : {work' : List ℕ} → length work' ≡ length work → Operands ar (take (n * 3) best) (take (m * 3) reward) value work'
        calls-operands = both-operands Sum Apart R calls_are x k y l u.value_room u.work-room

        pub calls-wrote : {r : Result ℕ Refusal} {value' : List ℕ} → Wrote ar (combined Sum Apart ar (diagram_of (take (n * 3) best)) (diagram_of (take (m * 3) reward))) r value value' → Wrote ar C r value value'
        calls-wrote {r} {value'} w = subst (λ (o : Outcome Diagram). Wrote ar o r value value') (sym (both-done Sum Apart R calls_are x k y l)) w
