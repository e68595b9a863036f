-- A path that does not contradict itself is followed in some state. So the rule asks no more than that a diagram without variables has one value everywhere.
use Rattle.std.specs.Prelude.{◌≡◌, ◌⊎◌, Bool, true, false, ◌&&◌, get_or, eqb}
use Rattle.std.proofs.Math.Path.{refl, ap}
use Rattle.std.proofs.Common.{sym, ap₂, ◌∙◌, inl, inr, arith}
use mathlib.Core.List.Memᴰ
use mathlib.Core.List.{List, [], ◌∷◌, map, Memᴰ}
use Prim.Native.Nat.{ℕ, zero, suc, ◌+◌, ◌-◌, ◌≤◌, ◌<◌}
use borrow.Author.Tests.{eqb-true, eq-eqb, ne_eqb}
use Rattle.basics.specs.Tests.{and_left, and_right, Flag, is_true, is_false, flag, Cmp, cmp, below, equal, above}
use Rattle.label.specs.Limits.{first_parameter, parameter_count, first_variable, term_base}
use Rattle.label.specs.Labels.{are_arities, predicate_of, unpacked, terms_of}
use Rattle.label.proofs.ArityLaws.{arity-two, terms-length}
use Rattle.diagram.specs.Diagram.{Diagram, leaf, branch, relabel}
use Rattle.diagram.specs.Words.{equal_lists}
use Rattle.diagram.specs.WordLaws.{lists-equal, equal-lists}
use Rattle.state.specs.State.{State, Good, atom_of, meaning, truth, value, low, fixed}
use Rattle.state.specs.Terms.{Each, Terms}
use Rattle.state.specs.Max.{Tuple, none, more}
use Rattle.state.specs.Highest.{start}
use Rattle.state.proofs.ValueLaws.{low-lt, low-ge, by-low, map_same}
use Rattle.paths.specs.Paths.{Literal, Step, Path, step_before, paths, literals, literal_of}
use Rattle.paths.specs.PathLaws.{mem-unmap}
use Rattle.cutting.proofs.MovedLaws.{Two, two, length_two}
use Rattle.cutting.specs.Truth.{says, Follows}
use Rattle.cutting.proofs.TruthLaws.{value-says, tells as tells_both}
use Rattle.contradiction.specs.Contradiction.{literal_terms, Equates, Contradicts, unequal, differ, LeadsTo, representative, some_literal, contradicts}
use Rattle.contradiction.proofs.JoinLaws.{one-joined, named-one, terms-base, representative-below}
use Rattle.contradiction.proofs.ContradictionLaws.{some_out, some_in, one-agree, contradicts-sound, contradicts-not}
use Rattle.contradiction.proofs.StateLaws.{says-terms}

-- ===== The state that literals describe =====

module _ (ar : List ℕ) (ls : List Literal) where
  -- the literal says that the predicate p is true of the objects os
  unfoldable pub tells : ℕ → List ℕ → Literal → Bool
  tells p os l = l.sign && (eqb (predicate_of l.label) p && equal_lists (map (representative ar ls) (literal_terms ar l)) os)

  -- a term's object is its representative, and what the literals say is true; an object for each number that a place of a label has room for
  unfoldable pub described : State
  unfolding tells
  described = record {
    size = term_base;
    constant = λ c. low first_parameter c (representative ar ls c) 0;
    fact = λ p os. some_literal (tells p os) ls;
  }

  -- the objects of c parameters, from parameter i on
  unfoldable pub objects : ℕ → ℕ → List ℕ
  objects zero i = []
  objects (suc c) i = representative ar ls (first_parameter + i) ∷ objects c (suc i)

  pub described-good : Good described
  unfolding described
  described-good = record {
    some = omega arith;
    placed = λ c. by-low (low first_parameter c (representative ar ls c) 0 < term_base) first_parameter c
        (λ h. rw (low-lt first_parameter c (representative ar ls c) 0 h) (representative-below term_base ar ls (terms-base ar ls) c (omega arith)))
        (λ h. rw (low-ge first_parameter c (representative ar ls c) 0 h) (omega arith));
  }

  objects-tuple : (c i : ℕ) → i + c ≤ parameter_count → Tuple term_base c (objects c i)
  unfolding objects
  objects-tuple zero i h = none
  objects-tuple (suc c) i h = more (representative-below term_base ar ls (terms-base ar ls) (first_parameter + i) (omega arith)) (objects-tuple c (suc i) (omega arith))

  objects-at : (c i k d : ℕ) → k < c → get_or (objects c i) k d ≡ representative ar ls (first_parameter + (i + k))
  unfolding objects
  objects-at zero i k d h = absurd (omega arith)
  objects-at (suc c) i zero d h = ap (representative ar ls) (omega arith)
  objects-at (suc c) i (suc k) d h = objects-at c (suc i) k d (omega arith) ∙ ap (representative ar ls) (omega arith)

  -- constants and parameters have their representatives
  term-object : (c : ℕ) → c ≤ parameter_count → (t : ℕ) → t < first_parameter + c → start described (objects c 0) t ≡ representative ar ls t
  unfolding start fixed described
  term-object c few t h =
      low-lt first_variable t _ 0 (omega arith)
      ∙ by-low (fixed described (objects c 0) t ≡ representative ar ls t) first_parameter t
      (λ k. low-lt first_parameter t _ _ k ∙ low-lt first_parameter t _ 0 k)
      (λ k. low-ge first_parameter t _ _ k ∙ objects-at c 0 (t - first_parameter) _ (omega arith) ∙ ap (representative ar ls) (omega arith))

  truth-other : (p : ℕ) (os : List ℕ) → 0 < p → truth described p os ≡ some_literal (tells p os) ls
  unfolding described
  truth-other zero os h = absurd (omega arith)
  truth-other (suc p) os h = refl

  truth-names : (p : ℕ) (ts : List ℕ) (t u : ℕ) → p ≡ 0 → ts ≡ t ∷ u ∷ []
      → truth described p (map (representative ar ls) ts) ≡ eqb (representative ar ls t) (representative ar ls u)
  truth-names p ts t u z e = ap₂ (λ (q : ℕ) (us : List ℕ). truth described q (map (representative ar ls) us)) z e

  module _ (good : are_arities ar ≡ true) (free : Contradicts ar ls → ⊥) (l : Literal) (i : Memᴰ l ls) where
    abbrev Os : List ℕ
    Os = map (representative ar ls) (literal_terms ar l)

    equality-truth : predicate_of l.label ≡ 0 → Two (literal_terms ar l) → truth described (predicate_of l.label) Os ≡ l.sign
    equality-truth z (two t u e) = truth-names (predicate_of l.label) (literal_terms ar l) t u z e ∙ go (flag l.sign)
      where
        n : Equates ar l t u
        n = record { equates = z; terms = e }

        go : Flag l.sign → eqb (representative ar ls t) (representative ar ls u) ≡ l.sign
        go (is_true s) = eq-eqb _ _ (named-one ar ls l t u i s n) ∙ sym s
        go (is_false s) = ne_eqb _ _ (λ q. free (unequal l i s n (one-joined ar ls t u q))) ∙ sym s

    other-truth : 0 < predicate_of l.label → truth described (predicate_of l.label) Os ≡ l.sign
    other-truth h = truth-other (predicate_of l.label) Os h ∙ go (flag l.sign)
      where
        itself : l.sign ≡ true → tells (predicate_of l.label) Os l ≡ true
        itself s = unfold tells in (rw (s, eq-eqb (predicate_of l.label) (predicate_of l.label) refl, equal-lists Os))

        another : l.sign ≡ false → (k : Literal) × Memᴰ k ls × (tells (predicate_of l.label) Os k ≡ true) → ⊥
        another s x =
            let k = x.0 in
            let q : (k.sign && (eqb (predicate_of k.label) (predicate_of l.label) && equal_lists (map (representative ar ls) (literal_terms ar k)) Os)) ≡ true = unfold tells in x.2 in
            let a = and_right k.sign _ q in
            let same = eqb-true _ _ (and_left (eqb (predicate_of k.label) (predicate_of l.label)) _ a) in
            let places = lists-equal (map (representative ar ls) (literal_terms ar k)) Os (and_right (eqb (predicate_of k.label) (predicate_of l.label)) _ a) in
            free (differ k l x.1 i same (one-agree ar ls (literal_terms ar k) (literal_terms ar l) places) (and_left k.sign _ q) s)

        none-says : l.sign ≡ false → Flag (some_literal (tells (predicate_of l.label) Os) ls) → some_literal (tells (predicate_of l.label) Os) ls ≡ false
        none-says s (is_false e) = e
        none-says s (is_true e) = absurd (another s (some_out (tells (predicate_of l.label) Os) ls e))

        go : Flag l.sign → some_literal (tells (predicate_of l.label) Os) ls ≡ l.sign
        go (is_true s) = some_in (tells (predicate_of l.label) Os) ls l i (itself s) ∙ sym s
        go (is_false s) = none-says s (flag (some_literal (tells (predicate_of l.label) Os) ls)) ∙ sym s

    literal-truth : truth described (predicate_of l.label) Os ≡ l.sign
    literal-truth = go (cmp 0 (predicate_of l.label))
      where
        go : Cmp 0 (predicate_of l.label) → truth described (predicate_of l.label) Os ≡ l.sign
        go (below h) = other-truth h
        go (equal z) =
            equality-truth (sym z) (length_two (literal_terms ar l) (terms-length ar l.label good ∙ ap (λ (p : ℕ). get_or ar p 0) (sym z) ∙ arity-two ar good))
        go (above h) = absurd (omega arith)

    says-literal : (c : ℕ) → c ≤ parameter_count → Each (λ t. t < first_parameter + c) (literal_terms ar l) → says ar described (start described (objects c 0)) l.label ≡ l.sign
    says-literal c few small =
        says-terms ar described (start described (objects c 0)) l
        ∙ ap (truth described (predicate_of l.label))
        (map_same (λ t. t < first_parameter + c) (start described (objects c 0)) (representative ar ls) (term-object c few) (literal_terms ar l) small)
        ∙ literal-truth

-- ===== The terms of a path =====

-- every term of the path's literals is in P
pub record PathTerms (P : ℕ → Type 0) (ar : List ℕ) (p : Path) : Type 0 where
  pub each : (l : Literal) → Memᴰ l (literals p) → Each P (literal_terms ar l)

step-terms : (P : ℕ → Type 0) (ar : List ℕ) (s : Step) (p : Path) → Each P (terms_of ar (unpacked s.label)) → PathTerms P ar p → PathTerms P ar (step_before s p)
unfolding literals step_before
step-terms P ar s p e k = record { each = at }
  where
    at : (l : Literal) → Memᴰ l (literal_of s ∷ map literal_of p.steps) → Each P (literal_terms ar l)
    at l (Memᴰ.head q) = rw q e
    at l (Memᴰ.tail m) = k.each l m

path-terms : (P : ℕ → Type 0) (ar : List ℕ) (d : Diagram) → Terms P (meaning ar d) → (p : Path) → Memᴰ p (paths d) → PathTerms P ar p
unfolding paths literals meaning relabel atom_of
path-terms P ar (leaf v) f p (Memᴰ.tail x6) = elim x6 [ ]
path-terms P ar (leaf v) f p (Memᴰ.head e) = rw e (record { each = λ l m. absurd (Memᴰ.not-nil m) })
path-terms P ar (branch l t g) f p m = go (Memᴰ.append_cases (map (step_before high) (paths t)) m) (path-terms P ar t f.1) (path-terms P ar g f.2)
  where
    high : Step
    high = record { from = branch l t g; label = l; side = true }

    low : Step
    low = record { from = branch l t g; label = l; side = false }

    go : Memᴰ p (map (step_before high) (paths t)) ⊎ Memᴰ p (map (step_before low) (paths g))
        → ((q : Path) → Memᴰ q (paths t) → PathTerms P ar q) → ((q : Path) → Memᴰ q (paths g) → PathTerms P ar q) → PathTerms P ar p
    go (inl n) rt rf = let u = mem-unmap (step_before high) (paths t) p n in rw u.2 (step-terms P ar high u.0 f.0 (rt u.0 u.1))
    go (inr n) rt rf = let u = mem-unmap (step_before low) (paths g) p n in rw u.2 (step-terms P ar low u.0 f.0 (rf u.0 u.1))

-- ===== The rule asks no more =====

module _ (ar : List ℕ) (good : are_arities ar ≡ true) (c : ℕ) (few : c ≤ parameter_count) where
  -- a path over constants and c parameters that does not contradict itself is followed in a state, with a tuple for the parameters
  pub satisfied : (p : Path) → PathTerms (λ t. t < first_parameter + c) ar p → (Contradicts ar (literals p) → ⊥)
      → Follows (says ar (described ar (literals p)) (start (described ar (literals p)) (objects ar (literals p) c 0))) p
  satisfied p small free = record { each = λ l i. says-literal ar (literals p) good free l i c few (small.each l i) }

  -- a diagram over constants and c parameters that has the value w in every state, for every tuple, leads to w
  pub leads-exact : (w : ℕ) (d : Diagram) → Terms (λ t. t < first_parameter + c) (meaning ar d)
      → ((s : State) → Good s → (os : List ℕ) → Tuple s.size c os → value s (meaning ar d) (start s os) ≡ w) → LeadsTo ar w d
  leads-exact w d terms everywhere p i n = go (flag (contradicts ar (literals p)))
    where
      s : State
      s = described ar (literals p)

      os : List ℕ
      os = objects ar (literals p) c 0

      tuple : Tuple s.size c os
      tuple = unfold described in (objects-tuple ar (literals p) c 0 (omega arith))

      go : Flag (contradicts ar (literals p)) → Contradicts ar (literals p)
      go (is_true e) = contradicts-sound ar good (literals p) e
      go (is_false e) =
          let f = satisfied p (path-terms (λ t. t < first_parameter + c) ar d terms p i) (contradicts-not ar good (literals p) e) in
          absurd (n (sym (value-says ar s (start s os) d ∙ (tells_both (leaf 0) true d (says ar s (start s os)) p i f).old) ∙ everywhere s (described-good ar (literals p)) os tuple))
