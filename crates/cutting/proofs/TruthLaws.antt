-- A cut leaves the number: the theorem, before closing up. Cuts are of diagrams without minimum variables (document 02, L12).
use Rattle.std.specs.Prelude.{◌≡◌, ◌⊎◌, Bool, true, not, cond, ◌||◌, length, eqb, ltb}
use Rattle.std.proofs.Math.Path.{refl, ap}
use Rattle.std.proofs.Common.{sym, ap₂, ◌∙◌, inl, inr, arith, le_of_eq, le_trans, eqb-true, eq-eqb, ne_eqb}
use Rattle.std.proofs.Math.Bool.{false}
use Rattle.std.specs.Bool.{beq}
use mathlib.Core.List.Memᴰ
use mathlib.Core.List.{List, [], ◌∷◌, map, Memᴰ}
use Prim.Native.Nat.{ℕ, zero, suc, ◌≤◌, ◌<◌}
use Rattle.std.proofs.lemmas.List.{length-map}
use Rattle.std.proofs.lemmas.Bool.{eqb-false, lt-leb}
use Rattle.refusal.specs.declared.Refusal.TheVariants.{Paths, Minimum}
use Rattle.basics.specs.Tests.{Flag, is_true, is_false, flag}
use Rattle.label.specs.Limits.{term_base, first_variable, first_minimum}
use Rattle.label.specs.Terms.{is_variable}
use Rattle.label.specs.Labels.{are_arities, predicate_of, unpacked, terms_of}
use Rattle.label.specs.Renamings.{moved}
use Rattle.label.specs.declared.Test.TheVariants.{Always, Is}
use Rattle.diagram.specs.Diagram.{Diagram, leaf, branch, eval, relabel}
use Rattle.diagram.specs.Variables.{is_plain}
use Rattle.state.specs.State.{atom_of, meaning, State, truth, holds, value, Fits}
use Rattle.state.specs.Inner.{Highest}
use Rattle.state.proofs.HighestLaws.{highest-by, highest-same}
use Rattle.minimum.specs.Number.{Number}
use Rattle.minimum.specs.Operations.{Plain}
use Rattle.minimum.proofs.PlainLaws.{highest-number, number-highest}
use Rattle.state.proofs.ValueLaws.{map-map, fits_after}
use Rattle.apply.specs.ApplyLaws.{eval-node}
use Rattle.paths.specs.Paths.{Literal, Step, Path, step_before, paths, literals, literal_of, terms_in, is_edge, through, most_paths}
use Rattle.cutting.specs.Match.{turned}
use Rattle.cutting.specs.Truth.{says, Follows}
use Rattle.cutting.specs.Cut.{Matched, plain, found, Replacement, MayGo, may, choice, reduced, cut_at, chosen_answer, diagram_answer}
use Rattle.cutting.specs.declared.Edge.{Edge}
use Rattle.cutting.specs.declared.Cut.{Cut}
use Rattle.cutting.specs.declared.Cut.TheVariants.{Done, Refused}
use Rattle.label.proofs.ArityLaws.{terms-length}
use Rattle.cutting.proofs.MovedLaws.{moved-asks, Asked, straight, across, ask-is, ask-always}
use Rattle.paths.specs.PathLaws.{mem-map, mem-unmap}
use Rattle.cutting.proofs.CoverLaws.{in_small}
use Rattle.cutting.proofs.ReduceLaws.{left-terms}

-- ===== Truths of labels =====

pub value-says : (ar : List ℕ) (s : State) (θ : ℕ → ℕ) (d : Diagram) → value s (meaning ar d) θ ≡ eval (says ar s θ) d
unfolding value meaning eval relabel
value-says ar s θ (leaf v) = refl
value-says ar s θ (branch l t f) = ap₂ (cond (says ar s θ l)) (value-says ar s θ t) (value-says ar s θ f)

truth-turned : (s : State) (θ : ℕ → ℕ) (us : List ℕ) → truth s 0 (map θ (turned us)) ≡ truth s 0 (map θ us)
truth-turned s θ [] = refl
truth-turned s θ (a ∷ []) = refl
truth-turned s θ (a ∷ b ∷ r) = go (flag (eqb (θ b) (θ a)))
  where
    go : Flag (eqb (θ b) (θ a)) → eqb (θ b) (θ a) ≡ eqb (θ a) (θ b)
    go (is_true e) = e ∙ sym (eq-eqb (θ a) (θ b) (sym (eqb-true _ _ e)))
    go (is_false e) = e ∙ sym (ne_eqb (θ a) (θ b) (λ q. eqb-false _ _ e (sym q)))

module _ (ar : List ℕ) (good : are_arities ar ≡ true) (s : State) (θ σ : ℕ → ℕ) where
  -- what a label says under θ after σ
  says-after : (l : ℕ) → says ar s (λ t. θ (σ t)) l ≡ truth s (predicate_of l) (map θ (map σ (terms_of ar (unpacked l))))
  unfolding holds atom_of
  says-after l = ap (truth s (predicate_of l)) (sym (map-map θ σ (terms_of ar (unpacked l))))

  moved-always : (l : ℕ) → moved ar σ l ≡ Always → says ar s (λ t. θ (σ t)) l ≡ true
  moved-always l e =
      let r = ask-always ar (predicate_of l) (map σ (terms_of ar (unpacked l))) good (length-map (terms_of ar (unpacked l)) σ ∙ terms-length ar l good) (sym (moved-asks ar σ l good) ∙ e) in
      says-after l ∙ ap₂ (λ (p : ℕ) (us : List ℕ). truth s p (map θ us)) r.0 r.2 ∙ eq-eqb (θ r.1) (θ r.1) refl

  moved-is : (l k : ℕ) → ((t : ℕ) → Memᴰ t (terms_of ar (unpacked l)) → σ t < term_base) → moved ar σ l ≡ Is (record { packed = k })
      → says ar s (λ t. θ (σ t)) l ≡ says ar s θ k
  unfolding holds atom_of
  moved-is l k small e =
      says-after l ∙ go (ask-is ar (predicate_of l) us k good (length-map (terms_of ar (unpacked l)) σ ∙ terms-length ar l good) below (sym (moved-asks ar σ l good) ∙ e))
    where
      us : List ℕ
      us = map σ (terms_of ar (unpacked l))

      below : (u : ℕ) → Memᴰ u us → u < term_base
      below u m = let r = mem-unmap σ (terms_of ar (unpacked l)) u m in rw r.2 (small r.0 r.1)

      go : Asked ar (predicate_of l) us k → truth s (predicate_of l) (map θ us) ≡ truth s (predicate_of k) (map θ (terms_of ar (unpacked k)))
      go (straight p q) = sym (ap₂ (λ (x : ℕ) (ts : List ℕ). truth s x (map θ ts)) p q)
      go (across z p q) =
          ap (λ (x : ℕ). truth s x (map θ us)) z ∙ sym (truth-turned s θ us) ∙ sym (ap₂ (λ (x : ℕ) (ts : List ℕ). truth s x (map θ ts)) p q)

-- ===== Paths and truths =====

-- what a followed path says of the diagram and of the cut one
pub record Tells (r : Diagram) (b : Bool) (d : Diagram) (c : ℕ → Bool) (p : Path) : Type 0 where
  pub old : eval c d ≡ p.end
  pub new : eval c (cut_at r b d) ≡ cond (through r b p) 0 p.end

-- the step on the side x of a branch
abbrev step_on : Bool → ℕ → Diagram → Diagram → Step
step_on x l t f = record { from = branch l t f; label = l; side = x }

side-true : (b : Bool) → beq b true ≡ b
side-true true = refl
side-true false = refl

side-false : (b : Bool) → beq b false ≡ not b
side-false true = refl
side-false false = refl

through-step : (r : Diagram) (b : Bool) (s : Step) (p : Path) → through r b (step_before s p) ≡ (is_edge r b s || through r b p)
unfolding through step_before
through-step r b s p = refl

cut-branch : (c : ℕ → Bool) (r : Diagram) (b : Bool) (l : ℕ) (t f : Diagram) (x : Bool) → c l ≡ x
    → eval c (cut_at r b (branch l t f)) ≡ eval c (cond (is_edge r b (step_on x l t f)) (leaf 0) (cut_at r b (cond x t f)))
unfolding eval cut_at is_edge
cut-branch c r b l t f true e = rw (e, side-true b)
cut-branch c r b l t f false e = rw (e, side-false b)

tells-step : (r : Diagram) (b : Bool) (l : ℕ) (t f : Diagram) (c : ℕ → Bool) (x : Bool) (p : Path) → c l ≡ x
    → Tells r b (cond x t f) c p → Tells r b (branch l t f) c (step_before (step_on x l t f) p)
unfolding step_before
tells-step r b l t f c x p e k = record {
  old = side x e ∙ k.old;
  new = cut-branch c r b l t f x e ∙ go (is_edge r b (step_on x l t f)) ∙ sym (ap (λ (m : Bool). cond m 0 p.end) (through-step r b (step_on x l t f) p));
}
  where
    side : (x : Bool) → c l ≡ x → eval c (branch l t f) ≡ eval c (cond x t f)
    side true e = unfold eval in (rw e)
    side false e = unfold eval in (rw e)

    go : (m : Bool) → eval c (cond m (leaf 0) (cut_at r b (cond x t f))) ≡ cond (m || through r b p) 0 p.end
    go true = unfold eval in refl
    go false = k.new

-- at a leaf both read its value
leaf-told : (r : Diagram) (b : Bool) (v : ℕ) (c : ℕ → Bool) (p : Path) → p ≡ record { steps = []; end = v } → Tells r b (leaf v) c p
leaf-told r b v c p e = rw e (record { old = unfold eval in refl; new = unfold eval cut_at through in refl })

pub tells : (r : Diagram) (b : Bool) (d : Diagram) (c : ℕ → Bool) (p : Path) → Memᴰ p (paths d) → Follows c p → Tells r b d c p
unfolding paths
tells r b (leaf v) c p (Memᴰ.head e) fo = leaf-told r b v c p e
tells r b (leaf v) c p (Memᴰ.tail x7) fo = elim x7 [ ]
tells r b (branch l t f) c p m fo =
    go (Memᴰ.append_cases (map (step_before (step_on true l t f)) (paths t)) m) (tells r b t c) (tells r b f c)
  where
    side : (x : Bool) (q : Path) → p ≡ step_before (step_on x l t f) q → (Follows c q → Tells r b (cond x t f) c q) → Tells r b (branch l t f) c p
    side x q e k =
        let fo' : Follows c (step_before (step_on x l t f) q) = rw e at fo in
        rw e (tells-step r b l t f c x q (first fo') (k (rest fo')))
      where
        first : Follows c (step_before (step_on x l t f) q) → c l ≡ x
        first g = g.each (literal_of (step_on x l t f)) (unfold literals step_before in (Memᴰ.head refl))

        rest : Follows c (step_before (step_on x l t f) q) → Follows c q
        rest g = record { each = λ k n. g.each k (unfold literals step_before in (Memᴰ.tail n)) }

    go : Memᴰ p (map (step_before (step_on true l t f)) (paths t)) ⊎ Memᴰ p (map (step_before (step_on false l t f)) (paths f))
        → ((q : Path) → Memᴰ q (paths t) → Follows c q → Tells r b t c q) → ((q : Path) → Memᴰ q (paths f) → Follows c q → Tells r b f c q)
        → Tells r b (branch l t f) c p
    go (inl n) rt rf = let u = mem-unmap (step_before (step_on true l t f)) (paths t) p n in side true u.0 u.2 (rt u.0 u.1)
    go (inr n) rt rf = let u = mem-unmap (step_before (step_on false l t f)) (paths f) p n in side false u.0 u.2 (rf u.0 u.1)

follows-step : (c : ℕ → Bool) (s : Step) (p : Path) → c s.label ≡ s.side → Follows c p → Follows c (step_before s p)
unfolding step_before literals
follows-step c s p e fo = record { each = at }
  where
    at : (l : Literal) → Memᴰ l (literal_of s ∷ map literal_of p.steps) → c l.label ≡ l.sign
    at l (Memᴰ.head q) = rw q e
    at l (Memᴰ.tail n) = fo.each l n

-- every choice of truths follows a path
pub record Followed (c : ℕ → Bool) (d : Diagram) : Type 0 where
  pub path : Path
  pub of : Memᴰ path (paths d)
  pub follows : Follows c path

pub walk : (c : ℕ → Bool) (d : Diagram) → Followed c d
unfolding paths literals
walk c (leaf v) = record {
  path = record { steps = []; end = v };
  of = Memᴰ.head refl;
  follows = record { each = λ l n. absurd (Memᴰ.not-nil n) };
}
walk c (branch l t f) = go (c l) refl (walk c t) (walk c f)
  where
    go : (x : Bool) → c l ≡ x → Followed c t → Followed c f → Followed c (branch l t f)
    go true e u v = record {
      path = step_before (step_on true l t f) u.path;
      of = Memᴰ.append_left (map (step_before (step_on false l t f)) (paths f)) (mem-map (step_before (step_on true l t f)) (paths t) u.path u.of);
      follows = follows-step c (step_on true l t f) u.path e u.follows;
    }
    go false e u v = record {
      path = step_before (step_on false l t f) v.path;
      of = Memᴰ.append_right (map (step_before (step_on true l t f)) (paths t)) (mem-map (step_before (step_on false l t f)) (paths f) v.path v.of);
      follows = follows-step c (step_on false l t f) v.path e v.follows;
    }

-- ===== Soundness =====
module _ (ar : List ℕ) (good : are_arities ar ≡ true) where
  -- where θ follows p, the valuation θ after σ follows the path that covers p
  cover-follows : (s : State) (θ : ℕ → ℕ) (p q : Path) (c : Replacement ar (literals p) (literals q)) → Follows (says ar s θ) p → Follows (says ar s (λ t. θ (c.σ t))) q
  cover-follows s θ p q c fo = record { each = λ l n. at l n (c.matched l n) }
    where
      small : (l : Literal) → Memᴰ l (literals q) → (t : ℕ) → Memᴰ t (terms_of ar (unpacked l.label)) → c.σ t < term_base
      small l n t m = go (Memᴰ.append_cases (terms_in ar (literals p)) (c.terms l n t m))
        where
          go : Memᴰ (c.σ t) (terms_in ar (literals p)) ⊎ Memᴰ (c.σ t) (terms_in ar (literals q)) → c.σ t < term_base
          go (inl i) = in_small ar (literals p) (c.σ t) i
          go (inr i) = in_small ar (literals q) (c.σ t) i

      at : (l : Literal) → Memᴰ l (literals q) → Matched ar c.σ (literals p) l → says ar s (λ t. θ (c.σ t)) l.label ≡ l.sign
      at l n (plain e k) = moved-always ar good s θ c.σ l.label e ∙ sym k
      at l n (found k e i) = moved-is ar good s θ c.σ l.label k (small l n) e ∙ fo.each (record { label = k; sign = l.sign }) i

  low-fixed : (t : ℕ) → t < first_variable → is_variable t ≡ false
  unfolding is_variable
  low-fixed t h = rw (lt-leb first_variable t h)

  -- an edge that may go leaves the highest leaf
  cut-highest : (d r : Diagram) (b : Bool) → MayGo ar d b r → (s : State) (os : List ℕ) (x : ℕ) → Highest s os (meaning ar d) x → Highest s os (meaning ar (cut_at r b d)) x
  cut-highest d (leaf _) b x5 s os x m = elim x5 [ ]
  cut-highest d (branch l t f) b (may n cover) s os x m = highest-by (meaning ar d) (meaning ar (cut_at (branch l t f) b d)) m up down
    where
      r : Diagram
      r = branch l t f

      less : (m : Bool) (n : ℕ) → cond m 0 n ≤ n
      less true n = omega arith
      less false n = omega arith

      down : (θ : ℕ → ℕ) → Fits s os θ → (η : ℕ → ℕ) × Fits s os η × (value s (meaning ar (cut_at r b d)) θ ≤ value s (meaning ar d) η)
      down θ fit =
          let w = walk (says ar s θ) d in
          let k = tells r b d (says ar s θ) w.path w.of w.follows in
          (θ, fit, rw (value-says ar s θ (cut_at r b d), value-says ar s θ d, k.new, k.old) (less (through r b w.path) w.path.end))

      up : (θ : ℕ → ℕ) → Fits s os θ → (η : ℕ → ℕ) × Fits s os η × (value s (meaning ar d) θ ≤ value s (meaning ar (cut_at r b d)) η)
      up θ fit =
          let w = walk (says ar s θ) d in
          go w.path w.of w.follows (tells r b d (says ar s θ) w.path w.of w.follows) (through r b w.path) refl w.path.end refl
        where
          go : (p : Path) → Memᴰ p (paths d) → Follows (says ar s θ) p → Tells r b d (says ar s θ) p → (m : Bool) → through r b p ≡ m → (e : ℕ) → p.end ≡ e
              → (η : ℕ → ℕ) × Fits s os η × (value s (meaning ar d) θ ≤ value s (meaning ar (cut_at r b d)) η)
          go p i fo k false e v z =
              (θ, fit, le_of_eq (value-says ar s θ d ∙ k.old ∙ sym (value-says ar s θ (cut_at r b d) ∙ k.new ∙ ap (λ (m : Bool). cond m 0 p.end) e)))
          go p i fo k true e zero z = (θ, fit, rw (value-says ar s θ d, k.old, z) (omega arith))
          go p i fo k true e (suc v) z =
              let c = cover p i e (omega arith) in
              let η : ℕ → ℕ = λ u. θ (c.replacement.σ u) in
              let j = tells r b d (says ar s η) c.path c.of (cover-follows s θ p c.path c.replacement fo) in (
                η,
                fits_after fit (λ u h. c.replacement.variables u (low-fixed u h)),
                le_trans (le_of_eq (value-says ar s θ d ∙ k.old))
                    (le_trans c.high (le_of_eq (sym (value-says ar s η (cut_at r b d) ∙ j.new ∙ ap (λ (m : Bool). cond m 0 c.path.end) c.avoids)))),
              )

-- ===== Reduction =====
pub eval-reduced : (c : ℕ → Bool) (d : Diagram) → eval c (reduced d) ≡ eval c d
unfolding eval reduced
eval-reduced c (leaf v) = refl
eval-reduced c (branch l t f) = eval-node c l (reduced t) (reduced f) ∙ ap₂ (cond (c l)) (eval-reduced c t) (eval-reduced c f)

-- a cut leaves the number in every state; closing up is left
pub cut_keeps : (ar : List ℕ) → are_arities ar ≡ true → (d r : Diagram) (b : Bool) → MayGo ar d b r → Plain (meaning ar d)
    → (s : State) (os : List ℕ) (x : ℕ) → Number s os (meaning ar d) x → Number s os (meaning ar (reduced (cut_at r b d))) x
cut_keeps ar good d r b m p s os x h =
    highest-number s os (meaning ar (reduced (cut_at r b d))) (left-terms (λ t. t < first_minimum) ar r b d p) x
    (highest-same (meaning ar (cut_at r b d)) (meaning ar (reduced (cut_at r b d))) (cut-highest ar good d r b m s os x (number-highest s os (meaning ar d) p x h))
    (λ θ f. value-says ar s θ (cut_at r b d) ∙ sym (eval-reduced (says ar s θ) (cut_at r b d)) ∙ sym (value-says ar s θ (reduced (cut_at r b d)))))

-- with a minimum variable 25 is said, whatever else there is; so where a cut is done there is none
pub minimum-first : (ar : List ℕ) (d : Diagram) → is_plain ar d ≡ false → diagram_answer ar d ≡ Refused Minimum
unfolding diagram_answer
minimum-first ar d e = rw e

pub done_plain : (ar : List ℕ) (d : Diagram) {k : ℕ} {e : Edge} {n : ℕ} → diagram_answer ar d ≡ Done k e n → is_plain ar d ≡ true
unfolding diagram_answer
done_plain ar d {k} {e} {n} a = go (is_plain ar d) refl a
  where
    rest : Cut
    rest = cond (ltb most_paths (length (paths d))) (Refused Paths) (chosen_answer ar d (choice ar d))

    go : (b : Bool) → is_plain ar d ≡ b → cond (not b) (Refused Minimum) rest ≡ Done k e n → is_plain ar d ≡ true
    go true q z = q
    go false q z = let f : ◌≡◌ {A = ℕ} 0 1 = cc in absurd (omega arith)
