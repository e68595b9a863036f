-- What a cut leaves is ordered and reduced, with labels and values in their ranges, and has few rows: a cut never meets 9.
use Rattle.std.proofs.Common.{sym, subst, arith}
use Rattle.std.specs.Prelude.{◌≢◌, Bool, true, false, not, ◌&&◌, cond, List, ℕ, suc, ◌≤◌, length}
use Rattle.basics.specs.Tests.{Flag, is_true, is_false, flag}
use Rattle.diagram.specs.Diagram.{Diagram, leaf, branch, same, From, Reduced, relabel}
use Rattle.diagram.specs.DiagramLaws.{same-ne, from-weaken}
use Rattle.diagram.specs.Rows.{rows}
use Rattle.diagram.specs.Listing.{Fine, Good}
use Rattle.state.specs.State.{meaning}
use Rattle.state.specs.Terms.{Terms}
use Rattle.apply.specs.Apply.{node}
use Rattle.apply.specs.ApplyLaws.{node-same, node-differ}
use Rattle.paths.specs.Paths.{paths, most_paths}
use Rattle.paths.specs.PathLaws.{paths-leaf, paths-branch, paths-some, rows-paths}
use Rattle.cutting.specs.Cut.{reduced, cut_at}

-- a property of both parts and of the branch is one of their node
by-node : (P : Diagram → Type 0) (l : ℕ) (t f : Diagram) → P t → (t ≢ f → P (branch l t f)) → P (node l t f)
by-node P l t f u v = go (flag (same t f))
  where
    go : Flag (same t f) → P (node l t f)
    go (is_true e) = subst P (sym (node-same l t f e)) u
    go (is_false e) = subst P (sym (node-differ l t f e)) (v (same-ne t f e))

pub reduced-from : (n : ℕ) (d : Diagram) → From n d → From n (reduced d)
unfolding reduced
reduced-from n (leaf v) o = tt
reduced-from n (branch l t f) o =
    by-node (From n) l (reduced t) (reduced f) (from-weaken n (suc l) (reduced t) (omega (arith, o.0)) (reduced-from (suc l) t o.1))
    (λ z. (o.0, reduced-from (suc l) t o.1, reduced-from (suc l) f o.2))

pub reduced-reduced : (d : Diagram) → Reduced (reduced d)
unfolding reduced
reduced-reduced (leaf v) = tt
reduced-reduced (branch l t f) = by-node Reduced l (reduced t) (reduced f) (reduced-reduced t) (λ z. (z, reduced-reduced t, reduced-reduced f))

pub reduced-fine : (ar : List ℕ) (d : Diagram) → Fine ar d → Fine ar (reduced d)
unfolding reduced
reduced-fine ar (leaf v) h = h
reduced-fine ar (branch l t f) h =
    by-node (Fine ar) l (reduced t) (reduced f) (reduced-fine ar t h.1) (λ z. (h.0, reduced-fine ar t h.1, reduced-fine ar f h.2))

by-pick : (P : Diagram → Type 0) (b : Bool) (x y : Diagram) → P x → P y → P (cond b x y)
by-pick P true x y u v = u
by-pick P false x y u v = v

pub cut-from : (r : Diagram) (b : Bool) (n : ℕ) (d : Diagram) → From n d → From n (cut_at r b d)
unfolding cut_at
cut-from r b n (leaf v) o = tt
cut-from r b n (branch l t f) o = (
  o.0,
  by-pick (From (suc l)) (same r (branch l t f) && b) (leaf 0) (cut_at r b t) tt (cut-from r b (suc l) t o.1),
  by-pick (From (suc l)) (same r (branch l t f) && not b) (leaf 0) (cut_at r b f) tt (cut-from r b (suc l) f o.2),
)

pub cut-fine : (ar : List ℕ) (r : Diagram) (b : Bool) (d : Diagram) → Fine ar d → Fine ar (cut_at r b d)
unfolding cut_at
cut-fine ar r b (leaf v) h = h
cut-fine ar r b (branch l t f) h = (
  h.0,
  by-pick (Fine ar) (same r (branch l t f) && b) (leaf 0) (cut_at r b t) (omega arith) (cut-fine ar r b t h.1),
  by-pick (Fine ar) (same r (branch l t f) && not b) (leaf 0) (cut_at r b f) (omega arith) (cut-fine ar r b f h.2),
)

-- its terms are terms of the diagram
reduced-terms : (P : ℕ → Type 0) (ar : List ℕ) (d : Diagram) → Terms P (meaning ar d) → Terms P (meaning ar (reduced d))
unfolding reduced meaning relabel
reduced-terms P ar (leaf v) h = h
reduced-terms P ar (branch l t f) h =
    by-node (λ x. Terms P (meaning ar x)) l (reduced t) (reduced f) (reduced-terms P ar t h.1)
    (λ z. (h.0, reduced-terms P ar t h.1, reduced-terms P ar f h.2))

cut-terms : (P : ℕ → Type 0) (ar : List ℕ) (r : Diagram) (b : Bool) (d : Diagram) → Terms P (meaning ar d) → Terms P (meaning ar (cut_at r b d))
unfolding cut_at meaning relabel
cut-terms P ar r b (leaf v) h = h
cut-terms P ar r b (branch l t f) h = (
  h.0,
  by-pick (λ x. Terms P (meaning ar x)) (same r (branch l t f) && b) (leaf 0) (cut_at r b t) tt (cut-terms P ar r b t h.1),
  by-pick (λ x. Terms P (meaning ar x)) (same r (branch l t f) && not b) (leaf 0) (cut_at r b f) tt (cut-terms P ar r b f h.2),
)

pub left-terms : (P : ℕ → Type 0) (ar : List ℕ) (r : Diagram) (b : Bool) (d : Diagram) → Terms P (meaning ar d) → Terms P (meaning ar (reduced (cut_at r b d)))
left-terms P ar r b d h = reduced-terms P ar (cut_at r b d) (cut-terms P ar r b d h)

-- ===== Counts =====
reduced-paths : (d : Diagram) → length (paths (reduced d)) ≤ length (paths d)
unfolding reduced
reduced-paths (leaf v) = omega arith
reduced-paths (branch l t f) =
    by-node (λ x. length (paths x) ≤ length (paths (branch l t f))) l (reduced t) (reduced f)
    (omega (arith, paths-branch l t f, reduced-paths t))
    (λ z. omega (arith, paths-branch l t f, paths-branch l (reduced t) (reduced f), reduced-paths t, reduced-paths f))

cut-paths : (r : Diagram) (b : Bool) (d : Diagram) → length (paths (cut_at r b d)) ≤ length (paths d)
unfolding cut_at
cut-paths r b (leaf v) = omega arith
cut-paths r b (branch l t f) =
    let x = cond (same r (branch l t f) && b) (leaf 0) (cut_at r b t) in
    let y = cond (same r (branch l t f) && not b) (leaf 0) (cut_at r b f) in
    omega (
      arith,
      paths-branch l t f,
      paths-branch l x y,
      by-pick (λ z. length (paths z) ≤ length (paths t)) (same r (branch l t f) && b) (leaf 0) (cut_at r b t) (omega (arith, paths-leaf 0, paths-some t)) (cut-paths r b t),
      by-pick (λ z. length (paths z) ≤ length (paths f)) (same r (branch l t f) && not b) (leaf 0) (cut_at r b f) (omega (arith, paths-leaf 0, paths-some f)) (cut-paths r b f),
    )

-- a cut never meets 9: at most 511 rows are left
pub cut-few : (d r : Diagram) (b : Bool) → length (paths d) ≤ most_paths → length (rows (reduced (cut_at r b d))) ≤ 511
cut-few d r b h = omega (arith, rows-paths (reduced (cut_at r b d)), reduced-paths (cut_at r b d), cut-paths r b d)

-- what is left has a listing
pub cut-good : (ar : List ℕ) (d r : Diagram) (b : Bool) → Good ar d → length (paths d) ≤ most_paths → Good ar (reduced (cut_at r b d))
cut-good ar d r b g h = record {
  arities = g.arities;
  ordered = reduced-from 0 (cut_at r b d) (cut-from r b 0 d g.ordered);
  reduced = reduced-reduced (cut_at r b d);
  fine = reduced-fine ar (cut_at r b d) (cut-fine ar r b d g.fine);
  few = omega (arith, cut-few d r b h);
}
