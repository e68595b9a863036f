-- A cut leaves a value diagram one of the same values.
use Rattle.std.specs.Prelude.{◌≡◌, refl, Bool, true, false, not, ◌&&◌, cond, List, [], ℕ, ◌≤◌, length, ltb}
use Rattle.std.proofs.Common.{sym, subst, ltb-false}
use Rattle.refusal.specs.declared.Refusal.TheVariants.{Paths, Minimum}
use Rattle.refusal.specs.Outcome.{Accepted}
use Rattle.refusal.specs.OutcomeLaws.{accepted-ok, accepted-refused}
use Rattle.diagram.specs.Diagram.{Diagram, leaf, branch, same, EveryLabel}
use Rattle.diagram.specs.Rows.{rows}
use Rattle.diagram.specs.RowLists.{row_tree}
use Rattle.diagram.specs.Variables.{is_plain}
use Rattle.rename.specs.ClosingLaws.{closed-good, closed-twice}
use Rattle.state.specs.State.{atom_of, meaning, State}
use Rattle.state.specs.Terms.{Each, args}
use Rattle.minimum.proofs.PlainLaws.{fine-plain}
use Rattle.regression.specs.Parameters.{Allowed, Within}
use Rattle.regression.proofs.ResultLaws.{terms-every, every-terms}
use Rattle.cutting.specs.declared.Cut.TheVariants.{Refused}
use Rattle.paths.specs.Paths.{paths, most_paths}
use Rattle.cutting.specs.Cut.{MayGo, Choice, reduced, cut_at, cut_diagram, edge_of, is_true_edge, chosen_answer, diagram_answer}
use Rattle.cutting.proofs.CoverLaws.{Chosen, highest, nothing, chosen}
use Rattle.cutting.proofs.TruthLaws.{cut_keeps}
use Rattle.cutting.proofs.ReduceLaws.{cut-good}
use Rattle.reduction.specs.Claims.{Values}
use Rattle.reduction.proofs.KeepingLaws.{reduced-every}
use Rattle.reduction.proofs.ClosedLaws.{within-closed, closed-number}
use Rattle.mdp.specs.Runs.{leaves, cut_outcome}

-- the labels that are left are labels of the diagram
every-pick : (P : ℕ → Type 0) (b : Bool) (x y : Diagram) → EveryLabel P x → EveryLabel P y → EveryLabel P (cond b x y)
every-pick P true x y u v = u
every-pick P false x y u v = v

pub every-cut : (P : ℕ → Type 0) (r : Diagram) (b : Bool) (d : Diagram) → EveryLabel P d → EveryLabel P (cut_at r b d)
unfolding cut_at
every-cut P r b (leaf v) h = tt
every-cut P r b (branch l t f) h = (
  h.0,
  every-pick P (same r (branch l t f) && b) (leaf 0) (cut_at r b t) tt (every-cut P r b t h.1),
  every-pick P (same r (branch l t f) && not b) (leaf 0) (cut_at r b f) tt (every-cut P r b f h.2),
)

within-cut : (c : ℕ) (ar : List ℕ) (r : Diagram) (b : Bool) (d : Diagram) → Within c (meaning ar d) → Within c (meaning ar (reduced (cut_at r b d)))
within-cut c ar r b d w = record {
  terms = every-terms (Allowed c) ar (reduced (cut_at r b d)) (reduced-every (λ l. Each (Allowed c) (args (atom_of ar l))) (cut_at r b d)
      (every-cut (λ l. Each (Allowed c) (args (atom_of ar l))) r b d (terms-every (Allowed c) ar d w.terms)));
}

edge-side : (b : Bool) → is_true_edge (edge_of b) ≡ b
edge-side true = refl
edge-side false = refl

cut-values : (ar : List ℕ) (y : State → ℕ) (d : Diagram) → Values ar y d → is_plain ar d ≡ true → length (paths d) ≤ most_paths → (k : ℕ) (b : Bool)
    → MayGo ar d b (row_tree (rows d) k) → Values ar y (cut_diagram ar d k b)
unfolding cut_diagram
cut-values ar y d v plain few k b mg =
    let r = row_tree (rows d) k in
    let good = cut-good ar d r b v.listed few in
    record {
      listed = closed-good ar (reduced (cut_at r b d)) good;
      is-closed = closed-twice ar (reduced (cut_at r b d)) good;
      within = within-closed 0 ar (reduced (cut_at r b d)) good (within-cut 0 ar r b d v.within);
      numbers = λ s g. closed-number ar (reduced (cut_at r b d)) good s [] (y s)
          (cut_keeps ar v.listed.arities d r b mg (fine-plain ar d v.listed.fine plain) s [] (y s) (v.numbers s g));
    }

pub cut-is : (ar : List ℕ) (y : State → ℕ) (d : Diagram) → Values ar y d → Accepted (Values ar y) (cut_outcome ar d)
unfolding cut_outcome diagram_answer chosen_answer
cut-is ar y d v = go (is_plain ar d) refl (ltb most_paths (length (paths d))) refl (chosen ar d v.listed.arities v.listed.fine)
  where
    go : (p : Bool) → is_plain ar d ≡ p → (x : Bool) → ltb most_paths (length (paths d)) ≡ x
        → {c : Choice} → Chosen ar d v.listed.arities v.listed.fine (rows d) (length (rows d)) c
        → Accepted (Values ar y) (leaves ar d (cond (not p) (Refused Minimum) (cond x (Refused Paths) (chosen_answer ar d c))))
    go false q x e c = accepted-refused
    go true q true e c = accepted-refused
    go true q false e (nothing n) = accepted-refused
    go true q false e (highest k b h mg t a) =
        accepted-ok (subst (λ (x : Bool). Values ar y (cut_diagram ar d k x)) (sym (edge-side b)) (cut-values ar y d v q (ltb-false most_paths (length (paths d)) e) k b mg))
