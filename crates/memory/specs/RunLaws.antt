-- What holds where a line of the run stands where it may: the part of the text, what is held, and the model laid out in its words.
use Rattle.std.specs.Prelude.{◌≡◌, refl, Bool, true, false, not, List, ℕ, ◌*◌, ◌≤◌, take, leb}
use Rattle.std.proofs.Common.{sym, ap, ◌∙◌, arith, leb-true}
use Rattle.basics.specs.Tests.{and_left}
use Rattle.refusal.specs.declared.Refusal.{Refusal}
use Rattle.refusal.specs.declared.Refusal.TheVariants.{Place}
use Rattle.refusal.specs.Outcome.{Outcome, ok, refused}
use Rattle.diagram.specs.Listing.{diagram_of}
use Rattle.state.specs.State.{meaning}
use Rattle.state.specs.Lent.{is_state}
use Rattle.regression.specs.Parameters.{Within}
use Rattle.mdp.specs.Model.{GoodModel}
use Rattle.text.specs.declared.Kind.{Kind}
use Rattle.session.specs.declared.Part.{Part}
use Rattle.session.specs.declared.Part.TheVariants.{Model, Run}
use Rattle.session.specs.declared.Rule.TheVariants.{Misplaced, AfterObjects}
use Rattle.session.specs.Session.{Session, refuse_if}
use Rattle.session.specs.Place.{rule_of}
use Rattle.session.specs.Replies.{is_placed, allowed}
use Rattle.facts.specs.Words.{live_of}
use Rattle.model.specs.Inner.{Laid}
use Rattle.model.specs.Layout.{model_of}
use Rattle.model_entry.specs.BuildingLaws.{building-laid}
use Rattle.memory.specs.declared.Numbers.{Numbers}
use Rattle.memory.specs.Inner.{Ready}
use Rattle.memory.specs.Memory.{Memory, session_of, Holding, Stored}

placed-run : (σ : Session) (k : Kind) (p : Part) → rule_of k Model ≡ Misplaced → allowed σ (rule_of k p) ≡ ok tt → p ≡ Run
unfolding allowed
placed-run σ k Run e h = refl
placed-run σ k Model e h =
    let z : refused Place ≡ ok tt = sym (ap (allowed σ) e) ∙ h in
    let o : ◌≡◌ {A = ℕ} 0 1 = cc in
    absurd (omega arith)

-- a line that stands nowhere in the model stands in the run
pub in-run : {k : Kind} {s : List ℕ} {n : Numbers} {w : Memory} → rule_of k Model ≡ Misplaced → Ready k s n w → n.part ≡ Run
in-run {k} {s} {n} {w} e r = placed-run (session_of n w) k n.part e r.place

-- what is not refused for want of b has b
pub unrefused : (x : Refusal) (b : Bool) → ◌≡◌ {A = Outcome (Unit {0})} (refuse_if (not b) x (ok tt)) (ok tt) → b ≡ true
unrefused x true e = refl
unrefused x false e = let z : ◌≡◌ {A = ℕ} 0 1 = cc in absurd (omega arith)

-- a line of the run that stands only where there are objects has them
pub some-objects : {k : Kind} {s : List ℕ} {n : Numbers} {w : Memory} → rule_of k Model ≡ Misplaced → rule_of k Run ≡ AfterObjects → Ready k s n w
    → 1 ≤ n.live.objects
unfolding allowed session_of
some-objects {k} {s} {n} {w} m e r =
    let p : rule_of k n.part ≡ AfterObjects = ap (rule_of k) (in-run m r) ∙ e in
    leb-true 1 n.live.objects (unrefused Place (leb 1 n.live.objects) (ap (allowed (session_of n w)) (sym p) ∙ r.place))

-- so has one that stands only where every constant is placed
pub placed-objects : {k : Kind} {s : List ℕ} {n : Numbers} {w : Memory} → Ready k s n w → is_placed (session_of n w) ≡ true → 1 ≤ n.live.objects
unfolding session_of
placed-objects {k} {s} {n} {w} r p = leb-true 1 n.live.objects (and_left (leb 1 n.live.objects) _ p)

-- what is held
pub run-holding : {k : Kind} {s : List ℕ} {n : Numbers} {w : Memory} → rule_of k Model ≡ Misplaced → Ready k s n w → Holding n w
run-holding e r = r.stored.holding (in-run e r)

-- the value has no parameter
pub run-within : {k : Kind} {s : List ℕ} {n : Numbers} {w : Memory} → rule_of k Model ≡ Misplaced → Ready k s n w
    → Within 0 (meaning w.arities (diagram_of (take (n.held.rows * 3) w.value)))
unfolding session_of
run-within e r = (r.good.begun (in-run e r)).value.within

-- the words of a good model with a reward are laid out
pub stored-laid : {n : Numbers} {w : Memory} → Stored n w → GoodModel (model_of w.arities w.listings w.table n.head)
    → (n.head.reward_words ≡ 0 → ⊥) → Laid w.arities w.listings w.table n.head
stored-laid {n} {w} s g = building-laid w.arities s.building (omega (arith, s.building.spanned.used, s.listing-room)) g

-- so are those of a run
pub run-laid : {k : Kind} {s : List ℕ} {n : Numbers} {w : Memory} → rule_of k Model ≡ Misplaced → Ready k s n w
    → Laid w.arities w.listings w.table n.head
unfolding session_of
run-laid e r = stored-laid r.stored (r.good.begun (in-run e r)).good (run-holding e r).reward

-- where there are objects, and every constant is placed, the words are a state
pub placed-state : {k : Kind} {s : List ℕ} {n : Numbers} {w : Memory} → Ready k s n w → is_placed (session_of n w) ≡ true
    → is_state w.arities n.live.objects (live_of w.state n.live).constants (live_of w.state n.live).facts ≡ true
unfolding session_of
placed-state {k} {s} {n} {w} r p = r.good.state (placed-objects r p)
