-- Laws of freeing (document 01, section 'Regression').
use Rattle.std.specs.Prelude.{◌≡◌, ◌⊎◌, Bool, true, cond, List, ℕ, ◌+◌, ◌-◌, ◌≤◌, ◌<◌, length, ltb}
use Rattle.std.proofs.Math.Path.{ap}
use Rattle.std.proofs.Common.{◌∙◌, inl, inr}
use native.Mathlib.Omega.{arith}
use borrow.Author.Tests.{lt-ltb, le-ltb}
use Rattle.basics.specs.Tests.{Cmp, below, equal, above, cmp}
use Rattle.label.specs.Limits.{first_parameter, first_variable, first_minimum}
use Rattle.label.specs.Inner.{Increasing, Freed}
use Rattle.label.specs.Renamings.{freeing}
use Rattle.label.proofs.RenamingLaws.{freeing-increasing, freeing-constant, freeing-parameter, freeing-variable, freeing-minimum}
use Rattle.diagram.specs.Diagram.{Diagram}
use Rattle.diagram.specs.Rows.{rows}
use Rattle.diagram.specs.Listing.{Good}
use Rattle.diagram.specs.Variables.{occurs}
use Rattle.rename.specs.Relabelling.{Terms}
use Rattle.rename.specs.VariableLaws.{terms-each-occurs, occurs-term, renaming-good, renaming-rows}
use Rattle.rename.specs.Valuations.{leaf_of}
use Rattle.rename.specs.ValuationLaws.{cond_below, leaf-agree, leaf-renaming}
use Rattle.rename.specs.Inner.{Freeable, FreedBy, BoundBy, FreedFree}
use Rattle.rename.specs.Freeing.{freed}

pub freeing-other : (c t : ℕ) → first_parameter + c ≤ t → t < first_variable → freeing c t ≡ t
unfolding freeing
freeing-other c t h k = rw (le-ltb t first_parameter (omega arith), le-ltb t (first_parameter + c) h, lt-ltb t first_variable k)

-- where a term of a freeable diagram stands
data Kind (c t : ℕ) : Type 0 where
  constant : t < first_parameter → Kind c t
  parameter : first_parameter ≤ t → t < first_parameter + c → Kind c t
  variable : first_variable ≤ t → t + c < first_minimum → Kind c t
  minimum : first_minimum ≤ t → Kind c t

module _ (ar : List ℕ) (c : ℕ) (d : Diagram) (good : Good ar d) (free : Freeable ar c d) where
  kind : (t : ℕ) → occurs ar t d ≡ true → Kind c t
  kind t e = go (cmp t first_parameter) (cmp t first_variable)
    where
      high : first_variable ≤ t → Cmp t first_minimum → Kind c t
      high h (below k) = variable h (free.variables t e h k)
      high h (equal k) = minimum (omega arith)
      high h (above k) = minimum (omega arith)

      go : Cmp t first_parameter → Cmp t first_variable → Kind c t
      go (below h) k = constant h
      go (equal h) (below k) = parameter (omega arith) (free.parameters t e k)
      go (above h) (below k) = parameter (omega arith) (free.parameters t e k)
      go (equal h) (equal k) = high (omega arith) (cmp t first_minimum)
      go (equal h) (above k) = high (omega arith) (cmp t first_minimum)
      go (above h) (equal k) = high (omega arith) (cmp t first_minimum)
      go (above h) (above k) = high (omega arith) (cmp t first_minimum)

  occurs-freed : (t : ℕ) → occurs ar t d ≡ true → Freed c t
  occurs-freed t e = (occurs-term ar d t good.fine e, go (kind t e))
    where
      go : Kind c t → (t < first_parameter + c) ⊎ ((first_variable ≤ t) × (t < first_minimum → t + c < first_minimum))
      go (constant h) = inl (omega arith)
      go (parameter h k) = inl k
      go (variable h k) = inr (h, λ z. k)
      go (minimum h) = inr (omega arith, λ z. absurd (omega arith))

  pub terms-freed : Terms ar (Freed c) d
  terms-freed = terms-each-occurs ar (Freed c) d occurs-freed

  increasing : Increasing (Freed c) (freeing c)
  increasing = freeing-increasing c free.count

  -- the freed diagram has a listing
  pub freed-good : Good ar (freed ar c d)
  unfolding freed
  freed-good = renaming-good ar good.arities (Freed c) (freeing c) increasing d good terms-freed

  pub freed-rows : length (rows (freed ar c d)) ≡ length (rows d)
  unfolding freed
  freed-rows = renaming-rows ar good.arities (Freed c) (freeing c) increasing d good.fine terms-freed

  -- no parameter is left
  pub leaf-freed : (h : ℕ → List ℕ → Bool) (θ : ℕ → ℕ) → leaf_of ar h θ (freed ar c d) ≡ leaf_of ar h (λ t. θ (freeing c t)) d
  unfolding freed
  leaf-freed h θ = leaf-renaming ar good.arities (Freed c) (freeing c) increasing h θ d good.fine terms-freed

  -- constants and minimum variables by η, parameters by ζ, the first c variables by η at the parameters, the others by η at the variables they come from
  unbinding : (ℕ → ℕ) → (ℕ → ℕ) → ℕ → ℕ
  unbinding η ζ t =
      cond (ltb t first_parameter) (η t)
      (cond (ltb t first_variable) (ζ t)
      (cond (ltb t (first_variable + c)) (η (t - (first_variable - first_parameter)))
      (cond (ltb t first_minimum) (η (t - c)) (η t))))

  unbinding-constant : (η ζ : ℕ → ℕ) (t : ℕ) → t < first_parameter → unbinding η ζ t ≡ η t
  unfolding unbinding
  unbinding-constant η ζ t h = rw (lt-ltb t first_parameter h)

  unbinding-parameter : (η ζ : ℕ → ℕ) (t : ℕ) → first_parameter ≤ t → t < first_variable → unbinding η ζ t ≡ ζ t
  unfolding unbinding
  unbinding-parameter η ζ t h k = rw (le-ltb t first_parameter h, lt-ltb t first_variable k)

  unbinding-minimum : (η ζ : ℕ → ℕ) (t : ℕ) → first_minimum ≤ t → unbinding η ζ t ≡ η t
  unfolding unbinding
  unbinding-minimum η ζ t h =
      rw (
        le-ltb t first_parameter (omega arith),
        le-ltb t first_variable (omega arith),
        le-ltb t (first_variable + c) (omega (arith, free.count)),
        le-ltb t first_minimum h,
      )

  unbinding-range : (η ζ : ℕ → ℕ) (n : ℕ) → ((t : ℕ) → η t < n) → ((t : ℕ) → ζ t < n) → (t : ℕ) → unbinding η ζ t < n
  unfolding unbinding
  unbinding-range η ζ n p q t =
      cond_below n (ltb t first_parameter) (p t)
      (cond_below n (ltb t first_variable) (q t)
      (cond_below n (ltb t (first_variable + c)) (p _) (cond_below n (ltb t first_minimum) (p _) (p _))))

  unbinding-freeing : (η ζ : ℕ → ℕ) (t : ℕ) → occurs ar t d ≡ true → unbinding η ζ (freeing c t) ≡ η t
  unfolding unbinding
  unbinding-freeing η ζ t e = go (kind t e)
    where
      go : Kind c t → unbinding η ζ (freeing c t) ≡ η t
      go (constant h) = rw (freeing-constant c t h, lt-ltb t first_parameter h)
      go (parameter h k) =
          let u = t + (first_variable - first_parameter) in
          let z : u - (first_variable - first_parameter) ≡ t = omega arith in
          rw (
            freeing-parameter c t h k,
            le-ltb u first_parameter (omega arith),
            le-ltb u first_variable (omega arith),
            lt-ltb u (first_variable + c) (omega arith),
            z,
          )
      go (variable h k) =
          let m = free.count in
          let u = t + c in
          let z : u - c ≡ t = omega arith in
          rw (
            freeing-variable c t (omega arith) h (omega arith),
            le-ltb u first_parameter (omega arith),
            le-ltb u first_variable (omega arith),
            le-ltb u (first_variable + c) (omega arith),
            lt-ltb u first_minimum k,
            z,
          )
      go (minimum h) = ap (unbinding η ζ) (freeing-minimum c t (omega (arith, free.count)) h) ∙ unbinding-minimum η ζ t h

  freed-by : (η ζ : ℕ → ℕ) → FreedBy ar c d η ζ
  freed-by η ζ = record {
    assign = unbinding η ζ;
    constants = unbinding-constant η ζ;
    parameters = unbinding-parameter η ζ;
    minimums = unbinding-minimum η ζ;
    range = unbinding-range η ζ;
    value = λ h. leaf-freed h (unbinding η ζ) ∙ leaf-agree ar h _ η d (terms-each-occurs ar _ d (unbinding-freeing η ζ));
  }

  bound_by : (θ : ℕ → ℕ) → BoundBy ar c d θ
  bound_by θ = record {
    assign = λ t. θ (freeing c t);
    constants = λ t h. ap θ (freeing-constant c t h);
    parameters = λ i h. ap θ (freeing-parameter c (first_parameter + i) (omega arith) (omega arith) ∙ shift i);
    others = λ t h k. ap θ (freeing-other c t h k);
    minimums = λ t h. ap θ (freeing-minimum c t (omega (arith, free.count)) h);
    range = λ n p t. p _;
    value = λ h. leaf-freed h θ;
  }
    where
      shift : (i : ℕ) → first_parameter + i + (first_variable - first_parameter) ≡ first_variable + i
      shift i = omega arith

  pub freed-free : FreedFree ar c d
  freed-free = record { freed-by = freed-by; bound_by = bound_by }
