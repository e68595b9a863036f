-- Edges that go to leaf 0: no leaf rises, a path whose edges all stay is followed as before, and what is left has a listing. In a cut one edge goes.
use Rattle.std.specs.Prelude.{◌≡◌, ◌⊎◌, Bool, not, ◌&&◌, ℕ, suc, ◌≤◌}
use Rattle.std.proofs.Math.Path.{refl, sym, ap₂}
use Rattle.std.proofs.Common.{[], ap, ◌∙◌, subst, inl, inr}
use Rattle.std.proofs.Math.Bool.{true, false, cond}
use Rattle.std.specs.Bool.{beq}
use mathlib.Core.List.Memᴰ
use mathlib.Core.List.{List, ◌∷◌, map, Memᴰ}
use native.Mathlib.Omega.{arith}
use Rattle.std.proofs.Math.ListN.{length}
use Rattle.basics.specs.Tests.{or-one, or-other}
use Rattle.diagram.specs.Diagram.{Diagram, leaf, branch, same, eval, From, EveryLabel}
use Rattle.diagram.specs.DiagramLaws.{same_refl}
use Rattle.diagram.specs.Rows.{rows}
use Rattle.diagram.specs.Listing.{Fine, Good}
use Rattle.apply.proofs.GoodLaws.{every-node}
use Rattle.paths.specs.Paths.{Step, Path, step_before, paths, literals, literal_of, is_edge, some_step, through, most_paths}
use Rattle.paths.specs.PathLaws.{mem-unmap, paths-leaf, paths-branch, paths-some}
use Rattle.paths.specs.Routes.{step_on, path_at}
use Rattle.cutting.specs.Cut.{reduced, cut_at}
use Rattle.cutting.specs.Truth.{Follows}
use Rattle.cutting.proofs.ReduceLaws.{reduced-from, reduced-reduced, reduced-fine, cut-few}
use Rattle.reduction.specs.Reduction.{is_on, keeping}
use Rattle.reduction.specs.Inner.{all_but}
use Rattle.reduction.proofs.ListLaws.{some_of-in}

-- a property of both is one of the one that is picked
by-pick : (P : Diagram → Type 0) (b : Bool) (x y : Diagram) → P x → P y → P (cond b x y)
by-pick P true x y u v = u
by-pick P false x y u v = v

-- every edge of the path stays
pub record Stays (stays : Diagram → Bool → Bool) (p : Path) : Type 0 where
  pub each : (s : Step) → Memᴰ s p.steps → stays s.from s.side ≡ true

-- ===== Meaning =====
module _ (stays : Diagram → Bool → Bool) (c : ℕ → Bool) where
  -- edges only go to 0, so that nothing rises
  pub keeping-low : (d : Diagram) → eval c (keeping stays d) ≤ eval c d
  unfolding keeping eval
  keeping-low (leaf v) = omega arith
  keeping-low (branch l t f) = go (c l)
      (by-pick (λ x. eval c x ≤ eval c t) (stays (branch l t f) true) (keeping stays t) (leaf 0) (keeping-low t) (omega arith))
      (by-pick (λ x. eval c x ≤ eval c f) (stays (branch l t f) false) (keeping stays f) (leaf 0) (keeping-low f) (omega arith))
    where
      go : (b : Bool) {x y u v : ℕ} → x ≤ u → y ≤ v → cond b x y ≤ cond b u v
      go true h k = h
      go false h k = k

  keeping_step : (l : ℕ) (t f : Diagram) (b : Bool) → c l ≡ b → stays (branch l t f) b ≡ true → eval c (keeping stays (branch l t f)) ≡ eval c (keeping stays (cond b t f))
  unfolding keeping eval
  keeping_step l t f true e k = rw (e, k)
  keeping_step l t f false e k = rw (e, k)

  keeping-leaf : (v : ℕ) (p : Path) → p ≡ record { steps = []; end = v } → eval c (keeping stays (leaf v)) ≡ p.end
  unfolding keeping eval
  keeping-leaf v p e = rw e refl

  -- truths that follow such a path still reach its leaf
  pub keeping-follows : (d : Diagram) (p : Path) → Memᴰ p (paths d) → Follows c p → Stays stays p → eval c (keeping stays d) ≡ p.end
  unfolding paths
  keeping-follows (leaf v) p (Memᴰ.head e) fo st = keeping-leaf v p e
  keeping-follows (leaf v) p (Memᴰ.tail x9) fo st = elim x9 [ ]
  keeping-follows (branch l t f) p m fo st =
      go (Memᴰ.append_cases (map (step_before (step_on true l t f)) (paths t)) m) (keeping-follows t) (keeping-follows f)
    where
      side : (b : Bool) (q : Path) → p ≡ step_before (step_on b l t f) q → (Follows c q → Stays stays q → eval c (keeping stays (cond b t f)) ≡ q.end) → eval c (keeping stays (branch l t f)) ≡ p.end
      side b q e k =
          let fo' : Follows c (step_before (step_on b l t f) q) = rw e at fo in
          let st' : Stays stays (step_before (step_on b l t f) q) = rw e at st in
          keeping_step l t f b (first fo') (kept st') ∙ k (rest fo') (stay st') ∙ sym (ap (λ (x : Path). x.end) e ∙ (unfold step_before in refl))
        where
          first : Follows c (step_before (step_on b l t f) q) → c l ≡ b
          first g = g.each (literal_of (step_on b l t f)) (unfold literals step_before in (Memᴰ.head refl))

          rest : Follows c (step_before (step_on b l t f) q) → Follows c q
          rest g = record { each = λ k n. g.each k (unfold literals step_before in (Memᴰ.tail n)) }

          kept : Stays stays (step_before (step_on b l t f) q) → stays (branch l t f) b ≡ true
          kept g = g.each (step_on b l t f) (unfold step_before in (Memᴰ.head refl))

          stay : Stays stays (step_before (step_on b l t f) q) → Stays stays q
          stay g = record { each = λ k n. g.each k (unfold step_before in (Memᴰ.tail n)) }

      go : Memᴰ p (map (step_before (step_on true l t f)) (paths t)) ⊎ Memᴰ p (map (step_before (step_on false l t f)) (paths f))
          → ((q : Path) → Memᴰ q (paths t) → Follows c q → Stays stays q → eval c (keeping stays t) ≡ q.end)
          → ((q : Path) → Memᴰ q (paths f) → Follows c q → Stays stays q → eval c (keeping stays f) ≡ q.end)
          → eval c (keeping stays (branch l t f)) ≡ p.end
      go (inl n) rt rf = let u = mem-unmap (step_before (step_on true l t f)) (paths t) p n in side true u.0 u.2 (rt u.0 u.1)
      go (inr n) rt rf = let u = mem-unmap (step_before (step_on false l t f)) (paths f) p n in side false u.0 u.2 (rf u.0 u.1)

-- the edges of a winning path stay
side_same : (b : Bool) → beq b b ≡ true
side_same true = refl
side_same false = refl

on_step : (s : Step) (ss : List Step) → Memᴰ s ss → some_step (is_edge s.from s.side) ss ≡ true
unfolding is_edge
on_step s mathlib.Core.List.[] x' = elim x' [ ]
on_step s (x ∷ ss) (Memᴰ.head e) = or-one (is_edge s.from s.side x) _ (rw (← e) (rw (same_refl s.from, side_same s.side)))
on_step s (x ∷ ss) (Memᴰ.tail n) = or-other (is_edge s.from s.side x) _ (on_step s ss n)

pub on-stays : (d : Diagram) (ks : List ℕ) (k : ℕ) → Memᴰ k ks → Stays (is_on d ks) (path_at d k)
unfolding is_on through
on-stays d ks k m = record { each = λ s n. some_of-in (λ j. through s.from s.side (path_at d j)) ks k m (on_step s (path_at d k).steps n) }

-- ===== What is left has a listing =====
module _ (stays : Diagram → Bool → Bool) where
  keeping-from : (n : ℕ) (d : Diagram) → From n d → From n (keeping stays d)
  unfolding keeping
  keeping-from n (leaf v) o = tt
  keeping-from n (branch l t f) o = (
    o.0,
    by-pick (From (suc l)) (stays (branch l t f) true) (keeping stays t) (leaf 0) (keeping-from (suc l) t o.1) tt,
    by-pick (From (suc l)) (stays (branch l t f) false) (keeping stays f) (leaf 0) (keeping-from (suc l) f o.2) tt,
  )

  keeping-fine : (ar : List ℕ) (d : Diagram) → Fine ar d → Fine ar (keeping stays d)
  unfolding keeping
  keeping-fine ar (leaf v) h = h
  keeping-fine ar (branch l t f) h = (
    h.0,
    by-pick (Fine ar) (stays (branch l t f) true) (keeping stays t) (leaf 0) (keeping-fine ar t h.1) (omega arith),
    by-pick (Fine ar) (stays (branch l t f) false) (keeping stays f) (leaf 0) (keeping-fine ar f h.2) (omega arith),
  )

  pub keeping-every : (P : ℕ → Type 0) (d : Diagram) → EveryLabel P d → EveryLabel P (keeping stays d)
  unfolding keeping
  keeping-every P (leaf v) h = tt
  keeping-every P (branch l t f) h = (
    h.0,
    by-pick (EveryLabel P) (stays (branch l t f) true) (keeping stays t) (leaf 0) (keeping-every P t h.1) tt,
    by-pick (EveryLabel P) (stays (branch l t f) false) (keeping stays f) (leaf 0) (keeping-every P f h.2) tt,
  )

  -- no path is added
  keeping-paths : (d : Diagram) → length (paths (keeping stays d)) ≤ length (paths d)
  unfolding keeping
  keeping-paths (leaf v) = omega arith
  keeping-paths (branch l t f) =
      let x = cond (stays (branch l t f) true) (keeping stays t) (leaf 0) in
      let y = cond (stays (branch l t f) false) (keeping stays f) (leaf 0) in
      omega (
        arith,
        paths-branch l t f,
        paths-branch l x y,
        by-pick (λ z. length (paths z) ≤ length (paths t)) (stays (branch l t f) true) (keeping stays t) (leaf 0) (keeping-paths t) (omega (arith, paths-leaf 0, paths-some t)),
        by-pick (λ z. length (paths z) ≤ length (paths f)) (stays (branch l t f) false) (keeping stays f) (leaf 0) (keeping-paths f) (omega (arith, paths-leaf 0, paths-some f)),
      )

  -- a leaf has no edge that could go
  cut-none : (d : Diagram) → cut_at (leaf 0) true d ≡ d
  unfolding cut_at same
  cut-none (leaf v) = refl
  cut-none (branch l t f) = ap₂ (branch l) (cut-none t) (cut-none f)

  -- at most 511 rows are left: 9 is never met
  pub keeping-few : (d : Diagram) → length (paths d) ≤ most_paths → length (rows (reduced (keeping stays d))) ≤ 511
  keeping-few d h = subst (λ x. length (rows (reduced x)) ≤ 511) (cut-none (keeping stays d)) (cut-few (keeping stays d) (leaf 0) true (omega (arith, keeping-paths d)))

  pub keeping-good : (ar : List ℕ) (d : Diagram) → Good ar d → length (paths d) ≤ most_paths → Good ar (reduced (keeping stays d))
  keeping-good ar d g h = record {
    arities = g.arities;
    ordered = reduced-from 0 (keeping stays d) (keeping-from 0 d g.ordered);
    reduced = reduced-reduced (keeping stays d);
    fine = reduced-fine ar (keeping stays d) (keeping-fine ar d g.fine);
    few = omega (arith, keeping-few d h);
  }

pub reduced-every : (P : ℕ → Type 0) (d : Diagram) → EveryLabel P d → EveryLabel P (reduced d)
unfolding reduced
reduced-every P (leaf v) h = tt
reduced-every P (branch l t f) h = every-node P l (reduced t) (reduced f) h.0 (reduced-every P t h.1) (reduced-every P f h.2)

-- ===== A cut keeps every edge but one =====
pick-not : (c : Bool) (x y : Diagram) → cond c x y ≡ cond (not c) y x
pick-not true x y = refl
pick-not false x y = refl

same_true : (b : Bool) → b ≡ beq b true
same_true true = refl
same_true false = refl

same_false : (b : Bool) → not b ≡ beq b false
same_false true = refl
same_false false = refl

pub cut-keeping : (r : Diagram) (b : Bool) (d : Diagram) → cut_at r b d ≡ keeping (all_but r b) d
unfolding cut_at keeping all_but
cut-keeping r b (leaf v) = refl
cut-keeping r b (branch l t f) = ap₂ (branch l) (edge b true (same_true b) t (cut-keeping r b t)) (edge (not b) false (same_false b) f (cut-keeping r b f))
  where
    edge : (x c : Bool) → x ≡ beq b c → (s : Diagram) → cut_at r b s ≡ keeping (all_but r b) s
        → cond (same r (branch l t f) && x) (leaf 0) (cut_at r b s) ≡ cond (not (same r (branch l t f) && beq b c)) (keeping (all_but r b) s) (leaf 0)
    edge x c q s e =
        ap₂ (λ (y : Bool) (z : Diagram). cond (same r (branch l t f) && y) (leaf 0) z) q e
        ∙ pick-not (same r (branch l t f) && beq b c) (leaf 0) (keeping (all_but r b) s)
