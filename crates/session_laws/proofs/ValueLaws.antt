-- Demand 3 for one line: what an accepted (value) answers is Mk of the state in hand, k and S^k (document 01, section 'Backup').
use Rattle.std.specs.Prelude.{◌≡◌, refl, true, false, List, [], ◌∷◌, ℕ, ◌^◌, ◌≤◌, ◌<◌, get_or}
use Rattle.std.proofs.Common.{sym, ap, ◌∙◌, subst, arith, lt-ltb}
use Rattle.refusal.specs.declared.Refusal.TheVariants.{Valuations}
use Rattle.label.specs.Limits.{constant_count}
use Rattle.diagram.specs.Variables.{is_plain}
use Rattle.diagram.specs.Listing.{listing}
use Rattle.diagram.specs.ListingOfDiagram.{diagram-listing}
use Rattle.state.specs.State.{Good, meaning, low}
use Rattle.state.proofs.ValueLaws.{low-lt, low-ge, by-low}
use Rattle.state.specs.Lent.{state_of}
use Rattle.state.specs.ValueCall.{most_valuations, valuations}
use Rattle.minimum.specs.Number.{number}
use Rattle.elimination.specs.Answer.{is_too_large}
use Rattle.elimination.proofs.AnswerLaws.{few-not-large}
use Rattle.refusal.specs.Outcome.{ok}
use Rattle.refusal.specs.OutcomeLaws.{accepted-ok, accepted-cond}
use Rattle.mdp.specs.Model.{scale}
use Rattle.mdp.specs.Bellman.{bellman}
use Rattle.text.specs.declared.Kind.{Kind}
use Rattle.text.specs.declared.Kind.TheVariants as K
use Rattle.text.specs.LineForm.{line_kind}
use Rattle.events.specs.declared.Event.{Event}
use Rattle.answers.specs.declared.Answer.TheVariants as A
use Rattle.session.specs.declared.Part.TheVariants.{Run}
use Rattle.session.specs.Place.{rule_of}
use Rattle.session.specs.Session.{Session}
use Rattle.session.specs.Running.{state_in, value_read}
use Rattle.session.specs.Replies.{Reply, is_placed, allowed, value_says, done, at_place, reply_to, words_of, reply}
use Rattle.session.specs.Good.{GoodSession}
use Rattle.session_laws.specs.TextRuns.{HoldsValues, too_large}
use Rattle.session_laws.proofs.PlaceLaws.{in-run, value-placed, value-allowed, placed-objects}
use Rattle.session_laws.specs.LineAnswers.{LineAnswered, quiet, valued, backed, cutting, reducing, showing, printing, moving, counting, replaying}
use Rattle.session_laws.specs.LineAnswers.{OneAnswer, blank, refusing, accepted, IsValue}
use Rattle.session_laws.proofs.AnswerLaws.{one_answer}
use Rattle.session_laws.proofs.StateLaws.{Described, described}

state-good : (ar : List ℕ) (n : ℕ) (constants facts : List ℕ) → Described ar n constants facts → Good (state_of ar n constants facts)
unfolding state_of
state-good ar n constants facts d = record {
  some = d.some;
  placed = λ c. by-low (low constant_count c (get_or constants c 0) 0 < n) constant_count c
      (λ h. rw (low-lt constant_count c (get_or constants c 0) 0 h) (d.placing c h))
      (λ h. rw (low-ge constant_count c (get_or constants c 0) 0 h) d.some);
}

-- once there are objects, in the state in hand
pub held-bellman : (σ : Session) → GoodSession σ → HoldsValues σ → 1 ≤ σ.live.objects
    → number (state_in σ.model.arities σ.live) [] (meaning σ.model.arities σ.held.diagram)
    ≡ bellman σ.model σ.held.steps (state_in σ.model.arities σ.live)
unfolding state_in
held-bellman σ g v some =
    let ar = σ.model.arities in
    let l = σ.live in
    v.each (state_in ar l) (state-good ar l.objects l.constants l.facts (described ar l.objects l.constants l.facts (g.state some)))

-- ===== The line =====

value_found : (σ : Session) (v : ℕ) → value_read σ.model.arities σ.live σ.held.diagram ≡ ok v
    → v ≡ number (state_in σ.model.arities σ.live) [] (meaning σ.model.arities σ.held.diagram)
unfolding value_read
value_found σ v e =
    (accepted-cond {P = λ x. x ≡ number (state_in σ.model.arities σ.live) [] (meaning σ.model.arities σ.held.diagram)}
    (too_large σ) Valuations _ (λ d. accepted-ok refl)).given v e

-- where the place of a (value) is right and it reads v, v is Mk
read-bellman : (σ : Session) → GoodSession σ → (σ.part ≡ Run → HoldsValues σ) → allowed σ (rule_of K.Value σ.part) ≡ ok tt → (v : ℕ)
    → value_read σ.model.arities σ.live σ.held.diagram ≡ ok v → v ≡ bellman σ.model σ.held.steps (state_in σ.model.arities σ.live)
read-bellman σ g h a v e =
    let p = in-run σ (rule_of K.Value) refl σ.part a in
    value_found σ v e ∙ held-bellman σ g (h p) (placed-objects σ (value-placed σ p a))

-- whatever line is answered (value v k w)
pub value-bellman : (σ : Session) → GoodSession σ → (σ.part ≡ Run → HoldsValues σ) → (number : ℕ) (s : List ℕ) (v k w : ℕ)
    → (reply σ number s).answer ≡ A.Value v k w → IsValue σ v k w
value-bellman σ g holds number s v k w e = go (line_kind s) (reply σ number s) (one_answer σ number s) e
  where
    valued-is : (i : Kind) (y : Reply) → allowed σ (rule_of i σ.part) ≡ ok tt → LineAnswered σ (words_of i s) i y → y.answer ≡ A.Value v k w → IsValue σ v k w
    valued-is i y a (quiet p q) e = let z : ◌≡◌ {A = ℕ} 0 1 = cc in absurd (omega arith)
    valued-is i y a (valued x p h t q) e =
        let o = subst (λ j. allowed σ (rule_of j σ.part) ≡ ok tt) p a in
        let b = read-bellman σ g holds o x h in
        let vs : x ≡ v = cc in
        let ks : σ.held.steps ≡ k = cc in
        let ws : scale σ.model ^ σ.held.steps ≡ w = cc in
        record {
          run = in-run σ (rule_of K.Value) refl σ.part o;
          value = sym vs ∙ b ∙ ap (λ j. bellman σ.model j (state_in σ.model.arities σ.live)) ks;
          steps = sym ks;
          power = sym ws ∙ ap (λ j. scale σ.model ^ j) ks;
        }
    valued-is i y a (backed h p r t q) e = let z : ◌≡◌ {A = ℕ} 0 1 = cc in absurd (omega arith)
    valued-is i y a (cutting h row edge left p r d t q) e = let z : ◌≡◌ {A = ℕ} 0 1 = cc in absurd (omega arith)
    valued-is i y a (reducing h p r t q) e = let z : ◌≡◌ {A = ℕ} 0 1 = cc in absurd (omega arith)
    valued-is i y a (showing p t q) e = let z : ◌≡◌ {A = ℕ} 0 1 = cc in absurd (omega arith)
    valued-is i y a (printing n p r t q) e = let z : ◌≡◌ {A = ℕ} 0 1 = cc in absurd (omega arith)
    valued-is i y a (moving x p r t q) e = let z : ◌≡◌ {A = ℕ} 0 1 = cc in absurd (omega arith)
    valued-is i y a (counting l p r t q) e = let z : ◌≡◌ {A = ℕ} 0 1 = cc in absurd (omega arith)
    valued-is i y a (replaying l p r t q) e = let z : ◌≡◌ {A = ℕ} 0 1 = cc in absurd (omega arith)

    go : (i : Kind) (y : Reply) → OneAnswer σ number s i y → y.answer ≡ A.Value v k w → IsValue σ v k w
    go i y (blank q p) e = let d = sym (ap (λ (z : Reply). z.answer) p) ∙ e in let z : ◌≡◌ {A = ℕ} 0 1 = cc in absurd (omega arith)
    go i y (refusing r p) e = let d = sym (ap (λ (z : Reply). z.answer) p) ∙ e in let z : ◌≡◌ {A = ℕ} 0 1 = cc in absurd (omega arith)
    go i y (accepted a p) e = valued-is i y a p e

-- a (value) that stands where it may and is not too large is answered so
value-says : (σ : Session) (number : ℕ) (es : List Event) → allowed σ (rule_of K.Value σ.part) ≡ ok tt → (v : ℕ)
    → value_read σ.model.arities σ.live σ.held.diagram ≡ ok v
    → reply_to σ number K.Value es ≡ record { session = σ; answer = A.Value v σ.held.steps (scale σ.model ^ σ.held.steps) }
unfolding reply_to done
value-says σ number es a v e = ap (λ o. at_place σ number o (done σ number K.Value es)) a ∙ ap (value_says σ number) e

value-few : (σ : Session) → too_large σ ≡ false
    → value_read σ.model.arities σ.live σ.held.diagram
    ≡ ok (number (state_in σ.model.arities σ.live) [] (meaning σ.model.arities σ.held.diagram))
unfolding value_read
value-few σ few = rw few

pub value-accepted : (σ : Session) → GoodSession σ → HoldsValues σ → σ.part ≡ Run → is_placed σ ≡ true
    → too_large σ ≡ false → (number : ℕ) (s : List ℕ) → line_kind s ≡ K.Value
    → reply σ number s ≡ record {
      session = σ;
      answer = A.Value (bellman σ.model σ.held.steps (state_in σ.model.arities σ.live)) σ.held.steps (scale σ.model ^ σ.held.steps);
    }
unfolding reply line_kind
value-accepted σ g v p h few number [] i = let z : ◌≡◌ {A = ℕ} 0 1 = cc in absurd (omega arith)
value-accepted σ g v p h few number (b ∷ t) i =
    let s = b ∷ t in
    ap (λ k. reply_to σ number k (words_of k s)) i
    ∙ value-says σ number (words_of K.Value s) (value-allowed σ p h) _ (value-few σ few ∙ ap ok (held-bellman σ g v (placed-objects σ h)))

-- it is not too large where valuations are at most 1,000,000, as document 01 has it; nor, without minimum variables, where the tables have at most 8,192
-- entries (elimination AnswerLaws `entries-not-large`)
pub few-valuations : (σ : Session) → GoodSession σ → σ.part ≡ Run → valuations σ.model.arities σ.live.objects σ.held.diagram ≤ most_valuations → too_large σ ≡ false
unfolding state_in state_of
few-valuations σ g p h =
    let e = diagram-listing σ.model.arities σ.held.diagram (g.begun p).value.listed in
    few-not-large σ.model.arities (state_in σ.model.arities σ.live) [] (listing σ.held.diagram)
    (subst (λ d. valuations σ.model.arities σ.live.objects d ≤ most_valuations) (sym e) h)

-- "With a minimum variable L6's way isn't used, and 15 is document 01's, v counting both kinds" (document 02, L12)
pub many-valuations : (σ : Session) → GoodSession σ → σ.part ≡ Run → is_plain σ.model.arities σ.held.diagram ≡ false
    → most_valuations < valuations σ.model.arities σ.live.objects σ.held.diagram → too_large σ ≡ true
unfolding is_too_large state_in state_of
many-valuations σ g p plain h =
    let e = diagram-listing σ.model.arities σ.held.diagram (g.begun p).value.listed in
    rw (e, plain, lt-ltb most_valuations (valuations σ.model.arities σ.live.objects σ.held.diagram) h)
