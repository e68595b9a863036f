-- Laws of the check action by action.
use mathlib.Core.Path.{◌≡◌, refl, sym, ap, ◌∙◌}
use mathlib.Core.Bool.{Bool, true, false, not, cond}
use mathlib.Core.List.{List, [], ◌∷◌, ◌++◌}
use Prim.Native.Nat.{ℕ, suc, ◌+◌, ◌*◌, ◌≤◌, ◌<◌}
use native.Mathlib.Omega.{arith}
use native.Mathlib.Numerals.{add-one}
use lib.ListN.{length, take}
use lib.Dec.{ltb}
use Rattle.refusal.specs.declared.Refusal.{Refusal}
use Rattle.refusal.specs.declared.Refusal.TheVariants.{Weights, Paths}
use Rattle.diagram.specs.Sizes.{result_words}
use Rattle.diagram.specs.Diagram.{Diagram, leaf}
use Rattle.diagram.specs.Words.{is_listing}
use Rattle.diagram.specs.Listing.{diagram_of}
use Rattle.paths.specs.Paths.{paths, most_paths}
use Rattle.contradiction.specs.Contradiction.{leads_to}
use Rattle.contradict.specs.declared.Led.{Led}
use Rattle.contradict.specs.declared.Led.TheVariants.{Only, Others, Many}
use Rattle.contradict.specs.Leading.{lead_answer}
use Rattle.refusal.specs.Outcome.{Outcome, ok, refused, and_then}
use Rattle.mdp.specs.Model.{Action}
use Rattle.model.specs.declared.Head.{Head}
use Rattle.names.specs.Many.{many}
use Rattle.model.specs.Layout.{action_at, model_of}
use Rattle.steps.specs.Steps.{Given}
use Rattle.steps.specs.GivenLaws.{then-then, then_same, step-refused, result-long, result-few}
use Rattle.steps.specs.FoldLaws.{many_more, refused-stays}
use Rattle.session.specs.ModelLines.{weights_sum, weighed}
use Rattle.weights.specs.Weighing.{weighed_as, judged_as, ActionTask, Weighable}
use Rattle.std.specs.Prelude.{Err, Ok, Result}

-- ===== One action more, at the end =====

module _ (ar : List ℕ) (total : ℕ) where
  -- a sum has few paths, or 17; it leads to W, or 13; then o
  abbrev judged : Outcome (Unit {0}) → Diagram → Outcome (Unit {0})
  judged o sum = cond (ltb most_paths (length (paths sum))) (refused Paths) (cond (not (leads_to ar total sum)) (refused Weights) o)

  weighed-none : weighed ar total [] ≡ ok tt
  unfolding weighed
  weighed-none = refl

  weighed-next : (a : Action) (l : List Action) → weighed ar total (a ∷ l) ≡ and_then (weights_sum ar (leaf 0) a.variants) (judged (weighed ar total l))
  unfolding weighed
  weighed-next a l = refl

  judged-then : (b c : Bool) (o p : Outcome (Unit {0}))
      → cond b (refused Paths) (cond c (refused Weights) (and_then o (λ u. p))) ≡ and_then (cond b (refused Paths) (cond c (refused Weights) o)) (λ u. p)
  judged-then true c o p = refl
  judged-then false true o p = refl
  judged-then false false o p = refl

  weighed-more : (l : List Action) (a : Action) → weighed ar total (l ++ (a ∷ [])) ≡ and_then (weighed ar total l) (λ u. weighed ar total (a ∷ []))
  weighed-more [] a = ap (λ (o : Outcome (Unit {0})). and_then o (λ u. weighed ar total (a ∷ []))) (sym weighed-none)
  weighed-more (b ∷ l) a =
      weighed-next b (l ++ (a ∷ []))
      ∙ then_same (weights_sum ar (leaf 0) b.variants) (judged (weighed ar total (l ++ (a ∷ [])))) (λ sum. and_then (judged (weighed ar total l) sum) (λ u. weighed ar total (a ∷ []))) (λ sum.
      ap (λ (o : Outcome (Unit {0})). judged o sum) (weighed-more l a)
      ∙ judged-then (ltb most_paths (length (paths sum))) (not (leads_to ar total sum)) (weighed ar total l) (weighed ar total (a ∷ [])))
      ∙ sym (then-then (weights_sum ar (leaf 0) b.variants) (judged (weighed ar total l)) (λ u. weighed ar total (a ∷ [])))
      ∙ ap (λ (o : Outcome (Unit {0})). and_then o (λ u. weighed ar total (a ∷ []))) (sym (weighed-next b l))

-- ===== An action =====

module _ {ar listings table : List ℕ} {a : ℕ} {work : List ℕ} (t : ActionTask ar listings table a work) where
  module _ (total : ℕ) where
    abbrev A : Outcome (Unit {0})
    A = weighed ar total (action_at listings table a ∷ [])

    abbrev Q : Outcome Diagram
    Q = weights_sum ar (leaf 0) (action_at listings table a).variants

    action-is : A ≡ and_then Q (judged ar total (ok tt))
    action-is = weighed-next ar total (action_at listings table a) [] ∙ ap (λ (o : Outcome (Unit {0})). and_then Q (judged ar total o)) (weighed-none ar total)

    module _ {r : Result ℕ Refusal} {sum : List ℕ} (x : Given ar Q r sum) where
      pub action-stops : {e : Refusal} → r ≡ Err e → Err e ≡ weighed_as A
      action-stops {e} h = sym (ap weighed_as (action-is ∙ ap (λ (o : Outcome Diagram). and_then o (judged ar total (ok tt))) (step-refused Q e (sym x.answer ∙ h))))

      module _ {n : ℕ} (h : r ≡ Ok n) where
        pub action-listed : is_listing ar (take (n * 3) sum) ≡ true
        action-listed = (x.result n h).listing

        pub action-inside : n * 3 ≤ length sum
        action-inside = (x.result n h).room

        pub action-long : n * 3 ≡ length (take (n * 3) sum)
        action-long = result-long (x.result n h)

        pub action-few : n * 3 ≤ result_words
        action-few = result-few (x.result n h)

        pub action-judged : {q : Led} {b : Result (Unit {0}) Refusal} → q ≡ lead_answer ar total (diagram_of (take (n * 3) sum)) → b ≡ judged_as q → b ≡ weighed_as A
        action-judged {q} {b} e d =
            d ∙ ap judged_as e ∙ led-judged (diagram_of (take (n * 3) sum))
            ∙ sym (ap weighed_as (action-is ∙ ap (λ (o : Outcome Diagram). and_then o (judged ar total (ok tt))) (x.result n h).is))
          where
            led-as : (y z : Bool) → judged_as (cond y Many (cond z Only Others)) ≡ weighed_as (cond y (refused Paths) (cond (not z) (refused Weights) (ok tt)))
            led-as true z = refl
            led-as false true = refl
            led-as false false = refl

            led-judged : (d : Diagram) → judged_as (lead_answer ar total d) ≡ weighed_as (judged ar total (ok tt) d)
            led-judged d = unfold lead_answer in (led-as (ltb most_paths (length (paths d))) (leads_to ar total d))

weighed-refused : (o : Outcome (Unit {0})) (e : Refusal) → weighed_as o ≡ Err e → o ≡ refused e
weighed-refused (ok u) e h = let z : ◌≡◌ {A = ℕ} 0 1 = cc in absurd (omega arith)
weighed-refused (refused r) e h = ap refused (cc)

weighed-done : (o : Outcome (Unit {0})) → weighed_as o ≡ (Ok tt) → o ≡ ok tt
weighed-done (ok u) h = refl
weighed-done (refused r) h = let z : ◌≡◌ {A = ℕ} 0 1 = cc in absurd (omega arith)

-- ===== The loop =====

-- the first a actions pass
pub record Weighing (ar listings table : List ℕ) (actions total a : ℕ) : Type 0 where
  pub within : a ≤ actions
  pub passed : weighed ar total (many (action_at listings table) a) ≡ ok tt

module _ {ar listings table : List ℕ} {h : Head} {work₀ : List ℕ} (t : Weighable ar listings table h work₀) where
  abbrev F : ℕ → Action
  F a = action_at listings table a

  abbrev G : List Action → Outcome (Unit {0})
  G l = weighed ar h.total l

  actions-are : (model_of ar listings table h).actions ≡ many (action_at listings table) h.actions
  unfolding model_of
  actions-are = refl

  pub weighing-start : Weighing ar listings table h.actions h.total 0
  unfolding many weighed
  weighing-start = record { within = omega arith; passed = refl }

  module _ {a : ℕ} (x : Weighing ar listings table h.actions h.total a) (l : a < h.actions) where
    pub weighing-task : {work : List ℕ} → length work ≡ length work₀ → ActionTask ar listings table a work
    weighing-task q = record {
      arities = t.arities;
      laid = t.actions a l;
      inside = omega (arith, t.room, t.few, l);
      work-room = omega (arith, q, t.work-room);
    }

    step_is : G (many (action_at listings table) (suc a)) ≡ G (F a ∷ [])
    step_is = ap G (many_more (action_at listings table) a) ∙ weighed-more ar h.total (many (action_at listings table) a) (F a)
        ∙ ap (λ (o : Outcome (Unit {0})). and_then o (λ u. G (F a ∷ []))) x.passed

    module _ {r : Result (Unit {0}) Refusal} (e : r ≡ weighed_as (weighed ar h.total (action_at listings table a ∷ []))) where
      pub weighing-stops : {z : Refusal} → r ≡ Err z → r ≡ weighed_as (weighed ar h.total (model_of ar listings table h).actions)
      weighing-stops {z} k =
          let q : G (F a ∷ []) ≡ refused z = weighed-refused (G (F a ∷ [])) z (sym e ∙ k) in
          let s : G (many (action_at listings table) h.actions) ≡ refused z =
          refused-stays G (λ u b. G (b ∷ [])) (action_at listings table) (weighed-more ar h.total) (suc a) h.actions z (step_is ∙ q) l in
          k ∙ sym (ap weighed_as (ap G actions-are ∙ s))

      pub weighing-on : r ≡ (Ok tt) → Weighing ar listings table h.actions h.total (a + 1)
      weighing-on k = record {
        within = omega (arith, l);
        passed = ap (λ (n : ℕ). G (many (action_at listings table) n)) (add-one a) ∙ step_is ∙ weighed-done (G (F a ∷ [])) (sym e ∙ k);
      }

  pub weighing-end : {a : ℕ} → Weighing ar listings table h.actions h.total a → h.actions ≤ a
      → (Ok tt) ≡ weighed_as (weighed ar h.total (model_of ar listings table h).actions)
  weighing-end {a} x k =
      let y = x.within in
      let e : h.actions ≡ a = omega arith in
      sym (ap weighed_as (ap G actions-are ∙ ap (λ (n : ℕ). G (many (action_at listings table) n)) e ∙ x.passed))
