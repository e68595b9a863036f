-- A backup, a cut and a reduction of a value diagram name only what the model and the diagram name (document 01, sections 'Backup' and 'Cut'; document 02, L13).
use Rattle.std.specs.Prelude.{◌≡◌, Bool, true, ℕ, suc, ◌+◌, ◌^◌, ◌≤◌, ◌<◌, get_or}
use Rattle.std.proofs.Common.{subst, arith}
use mathlib.Core.List.{List, [], ◌∷◌}
use Rattle.std.proofs.Math.Option.{some}
use Rattle.refusal.specs.declared.Refusal.TheVariants.{Scale}
use Rattle.refusal.specs.Outcome.{Accepted}
use Rattle.refusal.specs.OutcomeLaws.{accepted-ok, accepted-then, accepted-cond, accepted-mono}
use Rattle.label.specs.Limits.{parameter_count, first_variable, predicate_count}
use Rattle.label.specs.Labels.{are_arities, is_label, unpacked, terms_of}
use Rattle.diagram.specs.Diagram.{Tree, Diagram, leaf, branch, EveryLabel}
use Rattle.diagram.specs.Listing.{Fine}
use Rattle.diagram.specs.Variables.{closed}
use Rattle.apply.specs.declared.Operation.TheVariants.{Sum, Product, Max}
use Rattle.apply.specs.declared.Names.TheVariants.{Apart, Shared}
use Rattle.apply.proofs.GoodLaws.{fine-every}
use Rattle.state.specs.State.{Atomic, atom_of, meaning}
use Rattle.state.specs.Terms.{Each, args, Terms}
use Rattle.state.proofs.ValueLaws.{Each-mono}
use Rattle.regression.specs.Regression.{regressed}
use Rattle.regression.specs.RegressCall.{freed_outcome}
use Rattle.regression.specs.Parameters.{Allowed}
use Rattle.regression.proofs.ResultLaws.{terms-every}
use Rattle.cutting.specs.Cut.{cut_diagram}
use Rattle.reduction.specs.Reduction.{reduced_diagram, reduce_answer}
use Rattle.reduction.proofs.ReductionLaws.{answered}
use Rattle.mdp.specs.Model.{Variant, Action, Model, scale, Every, GoodTruthDiagram, GoodVariant, GoodAction, GoodModel}
use Rattle.mdp.specs.Backup.{combined, variants_sum, actions_best, row_of_calls, scale_ends, backup}
use Rattle.mdp.proofs.BackupLaws.{weight-within}
use Rattle.session.specs.Good.{GoodValue}
use Rattle.declared.specs.Inner.{Constant, DeclaredLabel, Declares, DeclaredVariant, DeclaredAction}
use Rattle.declared.specs.Proper.{Proper, AllProper, Known, KnownArgument}
use Rattle.declared.proofs.ClosingLaws.{every-mono, proper-mono, closed-proper, combined-proper, cut-proper, reduced-proper}
use Rattle.declared.proofs.RegressLaws.{regressed-proper, freed-proper}

-- ===== The row of calls =====

known-free : (c k t : ℕ) → first_variable ≤ t → Known c k t
known-free c k t h = record { constants = λ x. absurd (omega arith); parameters = λ x. h }

known_more : (c k t : ℕ) → Known c 0 t → Known c k t
known_more c k t h = record { constants = h.constants; parameters = λ x. h.parameters (omega arith) }

-- a variant of an action of k parameters
record ProperVariant (ar : List ℕ) (p c k : ℕ) (v : Variant) : Type 0 where
  weight : AllProper ar p (Known c k) v.weight
  truths : (q : ℕ) (d : Diagram) → 0 < q → q < predicate_count → v.truths q ≡ some d → AllProper ar p (KnownArgument c k (get_or ar q 0)) d

record ProperAction (ar : List ℕ) (p c : ℕ) (a : Action) : Type 0 where
  few : a.count ≤ parameter_count
  variants : Every (ProperVariant ar p c a.count) a.variants

module _ (ar : List ℕ) (good : are_arities ar ≡ true) (p c g : ℕ) (d : Diagram) (w : AllProper ar p (Known c 0) d) where
  variants-proper : (k : ℕ) (vs : List Variant) → Every (ProperVariant ar p c k) vs → (sum : Diagram) → AllProper ar p (Known c k) sum
      → Accepted (AllProper ar p (Known c k)) (variants_sum ar g d sum vs)
  unfolding variants_sum
  variants-proper k [] vs sum h = accepted-ok h
  variants-proper k (v ∷ l) vs sum h =
      accepted-then (regressed ar v.truths d) (regressed-proper ar good p c k v.truths vs.0.truths d (proper-mono ar p (Known c 0) (Known c k) (known_more c k) d w)) (λ r hr.
      accepted-then (combined Product Shared ar v.weight (leaf g)) (combined-proper ar good p (Known c k) (known-free c k) Product Shared v.weight (leaf g) vs.0.weight tt) (λ x hx.
      accepted-then (combined Product Shared ar r x) (combined-proper ar good p (Known c k) (known-free c k) Product Shared r x hr hx) (λ y hy.
      accepted-then (combined Sum Apart ar sum y) (combined-proper ar good p (Known c k) (known-free c k) Sum Apart sum y h hy) (λ sum' hs.
      variants-proper k l vs.1 sum' hs))))

  actions-proper : (l : List Action) → Every (ProperAction ar p c) l → (best : Diagram) → AllProper ar p (Known c 0) best
      → Accepted (AllProper ar p (Known c 0)) (actions_best ar g d best l)
  unfolding actions_best
  actions-proper [] hs best h = accepted-ok h
  actions-proper (a ∷ l) hs best h =
      accepted-then (variants_sum ar g d (leaf 0) a.variants) (variants-proper a.count a.variants hs.0.variants (leaf 0) tt) (λ q hq.
      accepted-then (freed_outcome ar a.count q) (freed-proper ar good p c a.count hs.0.few q hq) (λ f hf.
      accepted-then (combined Max Shared ar best (closed ar f))
      (combined-proper ar good p (Known c 0) (known-free c 0) Max Shared best (closed ar f) h (closed-proper ar good p (Known c 0) (known-free c 0) f hf)) (λ best' hb.
      actions-proper l hs.1 best' hb)))

backup-proper : (m : Model) (p c k : ℕ) (d : Diagram) → are_arities m.arities ≡ true → AllProper m.arities p (Known c 0) m.reward
    → Every (ProperAction m.arities p c) m.actions → AllProper m.arities p (Known c 0) d → Accepted (AllProper m.arities p (Known c 0)) (backup m k d)
unfolding backup row_of_calls
backup-proper m p c k d good reward actions w =
    let ar = m.arities in
    let power = scale m ^ suc k in
    accepted-cond (scale_ends m k) Scale _ (λ e.
    accepted-then (actions_best ar m.numerator d (leaf 0) m.actions) (actions-proper ar good p c m.numerator d w m.actions actions (leaf 0) tt) (λ best hb.
    accepted-then (combined Product Shared ar m.reward (leaf power)) (combined-proper ar good p (Known c 0) (known-free c 0) Product Shared m.reward (leaf power) reward tt) (λ r hr.
    combined-proper ar good p (Known c 0) (known-free c 0) Sum Apart best r hb hr)))

-- ===== From what is declared, and what is good =====

each_both : (P Q : ℕ → Type 0) (ts : List ℕ) → Each P ts → Each Q ts → Each (λ t. P t × Q t) ts
each_both P Q [] x y = tt
each_both P Q (t ∷ ts) x y = ((x.0, y.0), each_both P Q ts x.1 y.1)

terms-both : (P Q : ℕ → Type 0) (d : Tree Atomic) → Terms P d → Terms Q d → Terms (λ t. P t × Q t) d
terms-both P Q (leaf v) x y = tt
terms-both P Q (branch a t f) x y = (each_both P Q (args a) x.0 y.0, terms-both P Q t x.1 y.1, terms-both P Q f x.2 y.2)

module _ (ar : List ℕ) (c p : ℕ) where
  -- a diagram with a listing, its terms in P, its constants declared
  pub declared-proper : (P Q : ℕ → Type 0) → ((t : ℕ) → P t → Constant c t → Q t) → (d : Diagram) → Fine ar d → Terms P (meaning ar d) → Declares ar c p d → AllProper ar p Q d
  declared-proper P Q h d f w v = go d (fine-every ar d f) (terms-every P ar d w) v
    where
      each : (ts : List ℕ) → Each P ts → Each (Constant c) ts → Each Q ts
      each [] x y = tt
      each (t ∷ ts) x y = (h t x.0 y.0, each ts x.1 y.1)

      go : (d : Diagram) → EveryLabel (λ l. is_label ar l ≡ true) d → EveryLabel (λ l. Each P (args (atom_of ar l))) d → Declares ar c p d → AllProper ar p Q d
      go (leaf v) x y z = tt
      go (branch l t f) x y z = (
        record { is-label = x.0; predicate = z.0.predicate; terms = unfold atom_of in each (terms_of ar (unpacked l)) y.0 z.0.constants },
        go t x.1 y.1 z.1,
        go f x.2 y.2 z.2,
      )

  -- and back
  pub proper-declared : (Q : ℕ → Type 0) → ((t : ℕ) → Q t → Constant c t) → (d : Diagram) → AllProper ar p Q d → Declares ar c p d
  proper-declared Q h =
      every-mono (Proper ar p Q) (DeclaredLabel ar c p) (λ l w. record { predicate = w.predicate; constants = Each-mono Q (Constant c) h (terms_of ar (unpacked l)) w.terms })

  known : (k t : ℕ) → Allowed k t → Constant c t → Known c k t
  known k t a h = record { constants = h; parameters = a }

  known-argument : (k n t : ℕ) → Allowed k t × (t < first_variable + n) → Constant c t → KnownArgument c k n t
  known-argument k n t a h = record { known = known k t a.0 h; arguments = a.1 }

  pub value-proper : (d : Diagram) → GoodValue ar d → Declares ar c p d → AllProper ar p (Known c 0) d
  value-proper d g h = declared-proper (Allowed 0) (Known c 0) (known 0) d g.listed.fine g.within.terms h

  truth-proper : (k n : ℕ) (d : Diagram) → GoodTruthDiagram ar k n d → Declares ar c p d → AllProper ar p (KnownArgument c k n) d
  truth-proper k n d g h =
      declared-proper (λ t. Allowed k t × (t < first_variable + n)) (KnownArgument c k n) (known-argument k n) d g.listed.fine
      (terms-both (Allowed k) (λ t. t < first_variable + n) (meaning ar d) g.parameters.terms g.arguments) h

  variant-proper : (k : ℕ) (v : Variant) → GoodVariant ar k v → DeclaredVariant ar c p v → ProperVariant ar p c k v
  variant-proper k v g h = record {
    weight = declared-proper (Allowed k) (Known c k) (known k) v.weight g.listed.fine (weight-within ar k v g).terms h.weight;
    truths = λ q d i j e. truth-proper k (get_or ar q 0) d (g.truths q d i j e) (h.truths q d e);
  }

  variants-are : (k : ℕ) (vs : List Variant) → Every (GoodVariant ar k) vs → Every (DeclaredVariant ar c p) vs → Every (ProperVariant ar p c k) vs
  variants-are k [] x y = tt
  variants-are k (v ∷ vs) x y = (variant-proper k v x.0 y.0, variants-are k vs x.1 y.1)

  actions-are : (l : List Action) → Every (GoodAction ar) l → Every (DeclaredAction ar c p) l → Every (ProperAction ar p c) l
  actions-are [] x y = tt
  actions-are (a ∷ l) x y = (record { few = x.0.few; variants = variants-are a.count a.variants x.0.variants y.0 }, actions-are l x.1 y.1)

-- ===== Calls on the value diagram of a good model =====

module _ (m : Model) (c p : ℕ) (gm : GoodModel m) (d : Diagram) (g : GoodValue m.arities d) (w : Declares m.arities c p d) where
  back : (x : Diagram) → AllProper m.arities p (Known c 0) x → Declares m.arities c p x
  back = proper-declared m.arities c p (Known c 0) (λ t k. k.constants)

  before : AllProper m.arities p (Known c 0) d
  before = value-proper m.arities c p d g w

  pub backup-declared : Declares m.arities c p m.reward → Every (DeclaredAction m.arities c p) m.actions → (k : ℕ) → Accepted (Declares m.arities c p) (backup m k d)
  backup-declared reward actions k =
      let ar = m.arities in
      let r = declared-proper ar c p (Allowed 0) (Known c 0) (known ar c p 0) m.reward gm.reward-listed.fine gm.reward.terms reward in
      accepted-mono (backup-proper m p c k d gm.arities r (actions-are ar c p m.actions gm.actions actions) before) back

  pub cut-declared : (k : ℕ) (b : Bool) → Declares m.arities c p (cut_diagram m.arities d k b)
  cut-declared k b = back (cut_diagram m.arities d k b) (cut-proper m.arities gm.arities p (Known c 0) (known-free c 0) d k b before)

  reduced-declared : Declares m.arities c p (reduced_diagram m.arities d)
  reduced-declared = back (reduced_diagram m.arities d) (reduced-proper m.arities gm.arities p (Known c 0) (known-free c 0) d before)

  pub reduce-declared : Accepted (Declares m.arities c p) (reduce_answer m.arities d)
  reduce-declared = record { given = λ r e. subst (Declares m.arities c p) (answered m.arities d r e).is reduced-declared }
