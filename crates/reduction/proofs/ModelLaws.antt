-- A state with a best valuation is a combination: the winning path has the best leaf, so that the number stays.
use Rattle.std.specs.Prelude.{◌≡◌, refl, ◌⊎◌, Bool, false, ℕ, ◌≤◌, ◌<◌, length, get_or}
use Rattle.std.proofs.Math.Path.{sym, ap, subst}
use Rattle.std.proofs.Common.{◌∙◌, inl, inr, le_of_eq}
use Rattle.std.proofs.Math.Bool.{true}
use mathlib.Core.List.Memᴰ
use mathlib.Core.List.{List, [], ◌∷◌, map, reverse, Memᴰ}
use Rattle.std.proofs.Math.Nat.{le_trans}
use Rattle.label.specs.Limits.{first_variable, first_minimum}
use Rattle.label.specs.Labels.{predicate_of, unpacked, terms_of}
use Rattle.label.specs.Renamings.{rank}
use Rattle.label.proofs.RenamingLaws.{rank_below}
use Rattle.diagram.specs.Diagram.{Diagram, leaf, branch, eval, EveryLabel}
use Rattle.diagram.specs.Words.{up_to}
use Rattle.diagram.specs.WordLaws.{length-up_to, get_d-up_to}
use Rattle.diagram.specs.Variables.{occurs, variables}
use Rattle.rename.specs.AscendingLaws.{place-rank}
use Rattle.rename.specs.VariableLaws.{occurs-variable, variables-ascending}
use Rattle.state.specs.Max.{Tuple, none, more}
use Rattle.state.specs.State.{atom_of, meaning, State, truth, holds, value, low, Fits}
use Rattle.state.specs.Terms.{Each, args}
use Rattle.state.proofs.ValueLaws.{low-lt, low-ge, by-low, map_same, map-map, value_same}
use Rattle.state.proofs.HighestLaws.{highest-by, highest-same}
use Rattle.minimum.specs.Number.{Number}
use Rattle.minimum.specs.Operations.{Plain}
use Rattle.minimum.proofs.OccurLaws.{occur-terms, terms-occur}
use Rattle.minimum.proofs.PlainLaws.{highest-number, number-highest}
use Rattle.paths.specs.Paths.{Literal, Step, Path, step_before, paths, literals, literal_of}
use Rattle.paths.specs.PathLaws.{mem-map, mem-unmap, path-in, path-number}
use Rattle.paths.specs.Routes.{step_on, path_at}
use Rattle.cutting.specs.Cut.{reduced}
use Rattle.cutting.specs.Truth.{says, Follows}
use Rattle.cutting.proofs.TruthLaws.{value-says, walk, tells, eval-reduced}
use Rattle.reduction.specs.Combinations.{valuations, object_of, Ground, ground_of, grounds, facts, is_consistent, combinations, winner, winners}
use Rattle.reduction.specs.Reduction.{is_on, keeping}
use Rattle.reduction.proofs.ListLaws.{in-up_to, reverse-in, place_of}
use Rattle.reduction.proofs.CombinationLaws.{tuples-in, Holds, holds-consistent, choices-in, at-least-leaf, winner-in, winner-first}
use Rattle.reduction.proofs.KeepingLaws.{keeping-low, keeping-follows, on-stays}

-- a label whose terms are all variables
abbrev pub Varied : List ℕ → ℕ → Type 0
Varied ar l = Each (λ t. first_variable ≤ t) (args (atom_of ar l))

-- a property of every label of a diagram is one of every literal of its paths
record Literals (P : ℕ → Type 0) (p : Path) : Type 0 where
  each : (l : Literal) → Memᴰ l (literals p) → P l.label

literals-step : (P : ℕ → Type 0) (s : Step) (p : Path) → P s.label → Literals P p → Literals P (step_before s p)
unfolding step_before literals
literals-step P s p e k = record { each = at }
  where
    at : (l : Literal) → Memᴰ l (literal_of s ∷ map literal_of p.steps) → P l.label
    at l (Memᴰ.head q) = rw q e
    at l (Memᴰ.tail m) = k.each l m

literals-every : (P : ℕ → Type 0) (d : Diagram) → EveryLabel P d → (p : Path) → Memᴰ p (paths d) → Literals P p
unfolding paths literals
literals-every P (leaf v) h p (Memᴰ.head e) = rw e (record { each = λ l m. absurd (Memᴰ.not-nil m) })
literals-every P (leaf v) h p (Memᴰ.tail x6) = elim x6 [ ]
literals-every P (branch l t f) h p m =
    go (Memᴰ.append_cases (map (step_before (step_on true l t f)) (paths t)) m) (literals-every P t h.1) (literals-every P f h.2)
  where
    go : Memᴰ p (map (step_before (step_on true l t f)) (paths t)) ⊎ Memᴰ p (map (step_before (step_on false l t f)) (paths f))
        → ((q : Path) → Memᴰ q (paths t) → Literals P q) → ((q : Path) → Memᴰ q (paths f) → Literals P q) → Literals P p
    go (inl n) rt rf =
        let u = mem-unmap (step_before (step_on true l t f)) (paths t) p n in
        rw u.2 (literals-step P (step_on true l t f) u.0 h.0 (rt u.0 u.1))
    go (inr n) rt rf =
        let u = mem-unmap (step_before (step_on false l t f)) (paths f) p n in
        rw u.2 (literals-step P (step_on false l t f) u.0 h.0 (rf u.0 u.1))

-- objects below n are a tuple
tuple-of : (n : ℕ) (os : List ℕ) → ((o : ℕ) → Memᴰ o os → o < n) → Tuple n (length os) os
tuple-of n [] h = none
tuple-of n (o ∷ os) h = more (h o (Memᴰ.head refl)) (tuple-of n os (λ x m. h x (Memᴰ.tail m)))

module _ (ar : List ℕ) (d : Diagram) (s : State) (θ : ℕ → ℕ) where
  -- invented object i stands for the object that θ gives the i-th variable
  stands : ℕ → ℕ
  stands i = θ (get_or (variables ar d) i 0)

  -- the facts about invented objects, read off the state
  fact_of : ℕ → List ℕ → Bool
  fact_of p os = truth s p (map stands os)

  -- a valuation over invented objects as one of the state
  valuation : List ℕ → ℕ → ℕ
  valuation os t = low first_variable t (θ t) (stands (object_of (variables ar d) os t))

  valuation-fits : (ps : List ℕ) (os : List ℕ) → Fits s ps θ → Fits s ps (valuation os)
  unfolding valuation stands
  valuation-fits ps os f = record {
    low = λ t h. low-lt first_variable t (θ t) (stands (object_of (variables ar d) os t)) h ∙ f.low t h;
    range = λ t. by-low (valuation os t < s.size) first_variable t
        (λ h. rw (low-lt first_variable t (θ t) (stands (object_of (variables ar d) os t)) h) (f.range t))
        (λ h. rw (low-ge first_variable t (θ t) (stands (object_of (variables ar d) os t)) h) (f.range (get_or (variables ar d) (object_of (variables ar d) os t) 0)));
  }

  -- under it a label says what the ground fact says
  says-fact : (os : List ℕ) (l : ℕ) → Varied ar l
      → fact_of (predicate_of l) (map (object_of (variables ar d) os) (terms_of ar (unpacked l))) ≡ says ar s (valuation os) l
  unfolding fact_of valuation holds atom_of
  says-fact os l w =
      ap (truth s (predicate_of l)) (map-map stands (object_of (variables ar d) os) (terms_of ar (unpacked l))
      ∙ sym (map_same (λ t. first_variable ≤ t) (valuation os) (λ t. stands (object_of (variables ar d) os t))
      (λ t h. low-ge first_variable t (θ t) (stands (object_of (variables ar d) os t)) h) (terms_of ar (unpacked l)) w))

  -- the path that it follows, by its number
  record Run (os : List ℕ) : Type 0 where
    number : ℕ
    below : number < length (paths d)
    follows : Follows (says ar s (valuation os)) (path_at d number)

  run : (os : List ℕ) → Run os
  run os =
      let w = walk (says ar s (valuation os)) d in
      let x : Path = record { steps = []; end = 0 } in
      let r = place_of x w.path (paths d) w.of in
      record {
        number = r.0;
        below = r.1;
        follows = subst (Follows (says ar s (valuation os))) (sym (sym (path-number d r.0 x r.1) ∙ r.2)) w.follows;
      }

  number_of : List ℕ → ℕ
  number_of os = (run os).number

  numbers-tuple : (us : List (List ℕ)) → Tuple (length (paths d)) (length us) (map number_of us)
  unfolding number_of
  numbers-tuple [] = none
  numbers-tuple (os ∷ us) = more (run os).below (numbers-tuple us)

  module _ (varied : EveryLabel (Varied ar) d) where
    numbers-hold : (us : List (List ℕ)) → Holds fact_of (facts ar d us (map number_of us))
    unfolding facts grounds ground_of number_of
    numbers-hold [] = record { each = λ g m. absurd (Memᴰ.not-nil m) }
    numbers-hold (os ∷ us) = record { each = λ g m. go g (Memᴰ.append_cases (grounds ar d os (run os).number) m) (numbers-hold us) }
      where
        go : (g : Ground) → Memᴰ g (grounds ar d os (run os).number) ⊎ Memᴰ g (facts ar d us (map number_of us)) → Holds fact_of (facts ar d us (map number_of us))
            → fact_of g.predicate g.objects ≡ g.sign
        go g (inl n) ih =
            let u = mem-unmap (ground_of ar (variables ar d) os) (literals (path_at d (run os).number)) g n in
            let v = (literals-every (Varied ar) d varied (path_at d (run os).number) (path-in d (run os).number (run os).below)).each u.0 u.1 in
            subst (λ (x : Ground). fact_of x.predicate x.objects ≡ x.sign) (sym u.2)
            (says-fact os u.0.label v ∙ (run os).follows.each u.0 u.1)
        go g (inr n) ih = ih.each g n

    -- the paths that all valuations follow are a combination
    numbers-in : Memᴰ (map number_of (reverse (valuations ar d))) (combinations ar d)
    unfolding combinations is_consistent
    numbers-in = choices-in ar d (reverse (valuations ar d)) (map number_of (reverse (valuations ar d))) (numbers-tuple (reverse (valuations ar d)))
        (holds-consistent fact_of (facts ar d (reverse (valuations ar d)) (map number_of (reverse (valuations ar d)))) (numbers-hold (reverse (valuations ar d))))

  -- each variable with its own object
  own : List ℕ
  own = up_to (length (variables ar d))

  own_in : Memᴰ own (reverse (valuations ar d))
  unfolding own valuations
  own_in = reverse-in (valuations ar d) own (tuples-in (length (variables ar d))
      (subst (λ n. Tuple (length (variables ar d)) n (up_to (length (variables ar d)))) (length-up_to (length (variables ar d)))
      (tuple-of (length (variables ar d)) (up_to (length (variables ar d))) (λ o m. in-up_to (length (variables ar d)) o m))))

  own_same : Plain (meaning ar d) → (t : ℕ) → occurs ar t d ≡ true → valuation own t ≡ θ t
  unfolding valuation stands own object_of
  own_same plain t e = by-low (valuation own t ≡ θ t) first_variable t
      (λ h. low-lt first_variable t (θ t) (stands (object_of (variables ar d) own t)) h)
      (λ h. let m = occurs-variable ar d t e h (terms-occur (λ u. u < first_minimum) ar t d plain e) in
      low-ge first_variable t (θ t) (stands (object_of (variables ar d) own t)) h
      ∙ ap (λ k. θ (get_or (variables ar d) k 0)) (get_d-up_to (length (variables ar d)) (rank (variables ar d) t) (rank_below (variables ar d) t m))
      ∙ ap θ (place-rank first_variable (variables ar d) t (variables-ascending ar d) m))

  -- under it the diagram has θ's leaf
  own_value : Plain (meaning ar d) → value s (meaning ar d) (valuation own) ≡ value s (meaning ar d) θ
  own_value plain = value_same (λ t. occurs ar t d ≡ true) s (meaning ar d) (valuation own) θ (occur-terms ar d) (own_same plain)

  run_value : (os : List ℕ) → value s (meaning ar d) (valuation os) ≡ (path_at d (number_of os)).end
  unfolding number_of
  run_value os =
      let r = run os in
      value-says ar s (valuation os) d ∙ (tells (leaf 0) true d (says ar s (valuation os)) (path_at d r.number) (path-in d r.number r.below) r.follows).old

  -- some valuation of the state still reaches a leaf at least ps high ps θ's
  pub record Reached (ps : List ℕ) : Type 0 where
    pub point : ℕ → ℕ
    pub inside : Fits s ps point
    pub high : value s (meaning ar d) θ ≤ value s (meaning ar (keeping (is_on d (winners ar d)) d)) point

  pub reached : Plain (meaning ar d) → EveryLabel (Varied ar) d → (ps : List ℕ) → Fits s ps θ → Reached ps
  unfolding winners
  reached plain varied ps fit =
      let us = reverse (valuations ar d) in
      let ks = map number_of us in
      let k = mem-map number_of us own own_in in
      let u = mem-unmap number_of us (winner d ks) (winner-in d (number_of own) ks k) in
      let os = u.0 in
      let r = run os in
      let w = mem-map (winner d) (combinations ar d) ks (numbers-in varied) in
      let w' = subst (λ (n : ℕ). Memᴰ n (winners ar d)) u.2 w in
      record {
        point = valuation os;
        inside = valuation-fits ps os fit;
        high = le_trans (le_of_eq (sym (own_value plain) ∙ run_value own))
            (le_trans (at-least-leaf d (winner d ks) (number_of own) (winner-first d ks (number_of own) k))
            (le_of_eq (ap (λ n. (path_at d n).end) u.2
            ∙ sym (value-says ar s (valuation os) (keeping (is_on d (winners ar d)) d) ∙ kept os w'))));
      }
    where
      kept : (os : List ℕ) → Memᴰ (number_of os) (winners ar d) → eval (says ar s (valuation os)) (keeping (is_on d (winners ar d)) d) ≡ (path_at d (number_of os)).end
      kept os m = unfold number_of in (keeping-follows (is_on d (winners ar d)) (says ar s (valuation os)) d (path_at d (run os).number)
          (path-in d (run os).number (run os).below) (run os).follows (on-stays d (winners ar d) (number_of os) m))

-- the number stays, before closing up: it is the highest leaf, since there is no minimum variable
pub keeping-number : (ar : List ℕ) (d : Diagram) → Plain (meaning ar d) → EveryLabel (Varied ar) d → Plain (meaning ar (reduced (keeping (is_on d (winners ar d)) d)))
    → (s : State) (ps : List ℕ) (x : ℕ) → Number s ps (meaning ar d) x → Number s ps (meaning ar (reduced (keeping (is_on d (winners ar d)) d))) x
keeping-number ar d plain varied plain' s ps x m = highest-number s ps (meaning ar (reduced kept)) plain' x
    (highest-same (meaning ar kept) (meaning ar (reduced kept))
    (highest-by (meaning ar d) (meaning ar kept) (number-highest s ps (meaning ar d) plain x m) up down)
    (λ θ g. value-says ar s θ kept ∙ sym (eval-reduced (says ar s θ) kept) ∙ sym (value-says ar s θ (reduced kept))))
  where
    kept : Diagram
    kept = keeping (is_on d (winners ar d)) d

    up : (θ : ℕ → ℕ) → Fits s ps θ → (η : ℕ → ℕ) × Fits s ps η × (value s (meaning ar d) θ ≤ value s (meaning ar kept) η)
    up θ g = let r = reached ar d s θ plain varied ps g in (r.point, r.inside, r.high)

    down : (θ : ℕ → ℕ) → Fits s ps θ → (η : ℕ → ℕ) × Fits s ps η × (value s (meaning ar kept) θ ≤ value s (meaning ar d) η)
    down θ g = (θ, g, rw (value-says ar s θ kept, value-says ar s θ d) (keeping-low (is_on d (winners ar d)) (says ar s θ) d))
