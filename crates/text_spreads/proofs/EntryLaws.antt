-- The entries of (count n) are the spread over the states that are counted, and each value is Mk of its state (document 02, L11; document 01, section 'Backup').
use Rattle.std.specs.Prelude.{◌≡◌, true, ℕ, ◌^◌, ◌≤◌, ◌<◌, length, get_or, eqb}
use Rattle.std.proofs.Math.Path.{refl}
use Rattle.std.proofs.Common.{sym, ap, ◌∙◌, subst, eqb-true, eq-eqb, lt-ltb}
use mathlib.Core.List.{List, [], ◌∷◌, map, Memᴰ}
use Rattle.basics.specs.Members.{mem}
use Rattle.label.specs.Limits.{constant_count}
use Rattle.diagram.specs.Listing.{listing}
use Rattle.rename.specs.Ascending.{Ascending}
use Rattle.state.specs.State.{State, Good, meaning}
use Rattle.state.specs.Lent.{state_of, constants_below}
use Rattle.state.proofs.LentLaws.{some-found, some-made}
use Rattle.minimum.specs.Number.{number}
use Rattle.mdp.specs.Model.{scale}
use Rattle.mdp.specs.Bellman.{bellman}
use Rattle.spread.specs.Ground.{choice_state}
use Rattle.spread.specs.Spread.{Entry, values, count_of, entries, entries_of}
use Rattle.spread.proofs.SpreadLaws.{values-ascend, values-occur, entries-values}
use Rattle.spread.proofs.ChoiceLaws.{arities-few, state-other, choice_number, choice-below, choice-made, choice-one}
use Rattle.spread.proofs.LentChoiceLaws.{choice-good, states-sum}
use Rattle.discounted.specs.Fraction.{Equal, ratio}
use Rattle.discounted.specs.Discounted.{discounted}
use Rattle.discounted.proofs.DiscountedLaws.{bellman-over-scale}
use Rattle.session.specs.declared.Part.TheVariants.{Run}
use Rattle.session.specs.Session.{Session}
use Rattle.session.specs.Running.{entries_in}
use Rattle.session.specs.Good.{GoodSession}
use Rattle.text_spreads.specs.Claims.{ground_in, choice_of, value_at, AllStates, IsSpread, IsValueOf}
use Rattle.text_spreads.proofs.LineLaws.{value-is}

-- ===== The entries =====

entry-states : (m : ℕ) (f : ℕ → ℕ) (vs : List ℕ) (e : Entry) → Memᴰ e (map (λ v. record { value = v; states = count_of m f v }) vs) → e.states ≡ count_of m f e.value
entry-states m f [] e x' = elim x' [ ]
entry-states m f (v ∷ vs) e (Memᴰ.head p) = ap (λ (x : Entry). x.states) p ∙ ap (λ (x : Entry). count_of m f x.value) (sym p)
entry-states m f (v ∷ vs) e (Memᴰ.tail h) = entry-states m f vs e h

pub entries-spread : (σ : Session) (n : ℕ) → IsSpread σ n (entries_in σ.model σ.names σ.live σ.held.diagram n)
unfolding entries_of entries
entries-spread σ n =
    let m = 2 ^ ground_in σ n in
    let f = value_at σ n in
    let vs = entries-values m f in
    record {
      ascends = subst (Ascending 0) (sym vs) (values-ascend m f);
      occurs = λ v e.
          let s = some-found m (λ c. eqb (f c) v) (sym (values-occur m f v) ∙ ap (mem eqb v) (sym vs) ∙ e) in
          (s.0, s.1, eqb-true (f s.0) v s.2);
      each = λ c l. ap (mem eqb (f c)) vs ∙ values-occur m f (f c) ∙ some-made m (λ i. eqb (f i) (f c)) c l (eq-eqb (f c) (f c) refl);
      states = λ e h. entry-states m f (values m f) e h;
      sum = states-sum σ.model.arities (length σ.names.predicates) n σ.live.constants (listing σ.held.diagram);
    }

-- ===== The states =====

module _ (σ : Session) (g : GoodSession σ) (n : ℕ) where
  -- the state of a choice has n objects, and the constants are where they are now
  choice-size : (c : ℕ) → (choice_of σ n c).size ≡ n
  unfolding choice_state state_of
  choice-size c = refl

  choice-constant : (c i : ℕ) → i < constant_count → (choice_of σ n c).constant i ≡ get_or σ.live.constants i 0
  unfolding choice_state state_of
  choice-constant c i h = rw (lt-ltb i constant_count h)

  pub states-choices : AllStates σ n
  states-choices =
      let ar = σ.model.arities in
      let count = length σ.names.predicates in
      let few = arities-few ar g.tables.arities in
      record {
        size = choice-size;
        constants = choice-constant;
        made = λ f. (choice_number ar count n σ.live.constants few f, choice-below ar count n σ.live.constants few f, choice-made ar count n σ.live.constants few f);
        once = choice-one ar count n σ.live.constants few;
        other = state-other ar count n σ.live.constants few;
      }

  module _ (p : σ.part ≡ Run) (some : 1 ≤ n) (below : constants_below n σ.live.constants ≡ true)
      (holds : (s : State) → Good s → number s [] (meaning σ.model.arities σ.held.diagram) ≡ bellman σ.model σ.held.steps s) (c : ℕ) where
    value-steps : value_at σ n c ≡ bellman σ.model σ.held.steps (choice_of σ n c)
    value-steps =
        sym (value-is σ g p n c)
        ∙ holds (choice_of σ n c) (choice-good σ.model.arities (length σ.names.predicates) n σ.live.constants (arities-few σ.model.arities g.tables.arities) some below c)

    pub value-stands : IsValueOf σ n c (value_at σ n c)
    value-stands = record {
      steps = value-steps;
      discount = subst (λ v. Equal (ratio v (scale σ.model ^ σ.held.steps)) (discounted σ.model σ.held.steps (choice_of σ n c))) (sym value-steps)
          (bellman-over-scale σ.model (g.begun p).good σ.held.steps (choice_of σ n c));
    }
