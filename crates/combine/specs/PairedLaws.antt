-- A walk's plan forms the combination of the two diagrams.
use Rattle.std.specs.Prelude.{◌≡◌, refl, Bool, true, false, ℕ, suc, ◌+◌, ◌-◌, ◌≤◌, ◌<◌, leb}
use Rattle.std.proofs.Math.Path.{ap, sym}
use Rattle.std.proofs.Common.{◌∙◌, subst, length-append, take_all, lt-ltb, le-ltb, leb-true, leb-false}
use mathlib.Core.List.{List, [], ◌∷◌, ◌++◌, map}
use native.Mathlib.Omega.{arith}
use Rattle.std.proofs.Math.ListN.{length, get_or}
use Rattle.std.proofs.lemmas.List.{length-map, get_or_at}
use Rattle.basics.specs.Tests.{Flag, is_true, is_false, flag}
use Rattle.diagram.specs.Diagram.{Diagram, leaf}
use Rattle.diagram.specs.Validity.{tree}
use Rattle.apply.specs.declared.Operation.{Operation}
use Rattle.apply.specs.Combination.{operate}
use Rattle.apply.specs.Pairs.{pairs, pair_count, overflows}
use Rattle.apply.specs.Visit.{visit}
use Rattle.apply.proofs.VisitLaws.{visit-count}
use Rattle.apply.proofs.OverflowLaws.{overflows-visit}
use Rattle.apply.specs.Formed.{formed}
use Rattle.apply.proofs.FormedLaws.{formed-visit}
use Rattle.plan.specs.Walk.{is_end, on_high, on_low, finish_pairs, walked}
use Rattle.plan.specs.Walk as rows
use Rattle.plan.specs.WalkLaws.{finish-end, finish-branch}
use Rattle.plan.specs.Plan.{Plan, Clean, Touched, went_to, Planned, origin}
use Rattle.plan.specs.PlanLaws.{plan-touched}
use Rattle.combine.specs.RowPairs.{Operand, AllInside, pair_tree, agrees}
use Rattle.combine.specs.Results.{results, exceeds, Sound}
use Rattle.store.specs.Space.{add_all}
use Rattle.combine.specs.ResultLaws.{pair_result, results-are, added-formed, exceeds-are, plan-sound, get_d_map}
use Rattle.combine.specs.Paired.{Pairable, pair_answer, Forms, PairedUp}
use Rattle.combine.specs.declared.Paired.TheVariants.{Pairs, TooMany, TooHigh}
use Rattle.std.specs.Prelude.{None, Option, Some}

-- the root comes last
root-last : (op : Operation) (x y : List ℕ) (p : rows.Pair) → (get_or (walked op x y p []) (length (walked op x y p []) - 1) origin ≡ p) × (0 < length (walked op x y p []))
unfolding walked
root-last op x y p = go (flag (is_end op x y p))
  where
    d : ℕ
    d = p.0 + p.1

    at-end : (qs : List rows.Pair) → (get_or (qs ++ (p ∷ [])) (length (qs ++ (p ∷ [])) - 1) origin ≡ p) × (0 < length (qs ++ (p ∷ [])))
    at-end qs = (get_or_at qs p [] origin _ (omega (arith, length-append qs (p ∷ []))), omega (arith, length-append qs (p ∷ [])))

    go : Flag (is_end op x y p) → (get_or (finish_pairs op x y (suc d) p []) (length (finish_pairs op x y (suc d) p []) - 1) origin ≡ p) × (0 < length (finish_pairs op x y (suc d) p []))
    go (is_true e) = rw (finish-end op x y d p [] refl e) (at-end [])
    go (is_false e) = rw (finish-branch op x y d p [] refl e) (at-end (finish_pairs op x y d (on_low x y p) (finish_pairs op x y d (on_high x y p) [])))

module _ (op : Operation) (x y : List ℕ) (i j : ℕ) (ox : Operand x (suc i) (tree x)) (oy : Operand y (suc j) (tree y)) where
  ps : List rows.Pair
  ps = walked op x y (i, j) []

  a : Diagram
  a = tree x i

  b : Diagram
  b = tree y j

  walk-agrees : (map (pair_tree x y (suc i) (suc j) (tree x) (tree y) ox oy) ps ≡ visit op a b []) × AllInside x y (suc i) (suc j) (tree x) (tree y) ox oy ps
  unfolding ps a b walked
  walk-agrees = agrees x y (suc i) (suc j) (tree x) (tree y) ox oy op (suc (i + j)) (i, j) [] (omega arith) (omega arith, omega arith) tt

  -- as many pairs as the definition has
  pub pairs-count : length (walked op x y (i, j) []) ≡ pair_count op (tree x i) (tree y j)
  unfolding ps a b
  pairs-count = sym (length-map ps (pair_tree x y (suc i) (suc j) (tree x) (tree y) ox oy)) ∙ ap length walk-agrees.0 ∙ visit-count op a b

  module _ (ws heads : List ℕ) (limit : ℕ) (plan : Plan op x y ws heads limit (walked op x y (i, j) [])) where
    pub plan-exceeds : exceeds (operate op) ws (length (walked op x y (i, j) [])) ≡ overflows (operate op) (pairs op (tree x i) (tree y j))
    unfolding ps a b
    plan-exceeds =
        exceeds-are x y (suc i) (suc j) (tree x) (tree y) ox oy op ws heads limit ps plan walk-agrees.1 (length ps) (omega arith)
        ∙ ap (λ (qs : List rows.Pair). overflows (operate op) (map (pair_tree x y (suc i) (suc j) (tree x) (tree y) ox oy) qs)) (take_all (length ps) ps (omega arith))
        ∙ ap (overflows (operate op)) walk-agrees.0 ∙ overflows-visit (operate op) op a b

    pub plan-entries : Sound ws (length (walked op x y (i, j) []))
    unfolding ps
    plan-entries = plan-sound x y (suc i) (suc j) (tree x) (tree y) ox oy op ws heads limit ps plan walk-agrees.1

    pub plan-forms : overflows (operate op) (pairs op (tree x i) (tree y j)) ≡ false → Forms op (tree x i) (tree y j) ws (length (walked op x y (i, j) []))
    unfolding ps a b
    plan-forms calm =
        let all : results (operate op) ws (length ps) ≡ map (pair_result x y (suc i) (suc j) (tree x) (tree y) ox oy op ws heads limit ps plan walk-agrees.1) ps =
        results-are x y (suc i) (suc j) (tree x) (tree y) ox oy op ws heads limit ps plan walk-agrees.1 (length ps) (omega arith)
        ∙ ap (map (pair_result x y (suc i) (suc j) (tree x) (tree y) ox oy op ws heads limit ps plan walk-agrees.1)) (take_all (length ps) ps (omega arith)) in
        let r = root-last op x y (i, j) in
        record {
          sound = plan-entries;
          calm = plan-exceeds ∙ calm;
          some = r.1;
          last =
              ap (λ (ds : List Diagram). get_or ds (length ps - 1) (leaf 0)) all
              ∙ get_d_map (pair_result x y (suc i) (suc j) (tree x) (tree y) ox oy op ws heads limit ps plan walk-agrees.1) ps (length ps - 1) origin (leaf 0) (omega (arith, r.1))
              ∙ ap (pair_result x y (suc i) (suc j) (tree x) (tree y) ox oy op ws heads limit ps plan walk-agrees.1) r.0;
          rows = λ rs c.
              ap (add_all rs) all ∙ added-formed x y (suc i) (suc j) (tree x) (tree y) ox oy op ws heads limit ps plan walk-agrees.1 rs ps
              ∙ ap (formed (operate op) rs) walk-agrees.0 ∙ formed-visit op rs a b c;
        }

-- the answer's cases
module _ (op : Operation) (limit : ℕ) (a b : Diagram) where
  answer-many : limit < pair_count op a b → TooMany ≡ pair_answer op limit a b
  unfolding pair_answer
  answer-many h = rw (lt-ltb limit (pair_count op a b) h)

  answer-high : pair_count op a b ≤ limit → overflows (operate op) (pairs op a b) ≡ true → TooHigh ≡ pair_answer op limit a b
  unfolding pair_answer
  answer-high h e = rw (le-ltb limit (pair_count op a b) h, e)

  answer-pairs : pair_count op a b ≤ limit → overflows (operate op) (pairs op a b) ≡ false → Pairs (pair_count op a b) ≡ pair_answer op limit a b
  unfolding pair_answer
  answer-pairs h e = rw (le-ltb limit (pair_count op a b) h, e)

went_to_lem : (limit : ℕ) (qs : List rows.Pair) (n m : ℕ) → Some (n, m) ≡ went_to limit qs → (length qs ≤ limit) × (m ≡ length qs)
unfolding went_to
went_to_lem limit qs n m e = go (flag (leb (length qs) limit))
  where
    go : Flag (leb (length qs) limit) → (length qs ≤ limit) × (m ≡ length qs)
    go (is_true q) =
        let k : ◌≡◌ {A = Option (ℕ × ℕ)} (Some (n, m)) (Some (length qs - 1, length qs)) = rw q at e in
        let p : ◌≡◌ {A = ℕ × ℕ} (n, m) (length qs - 1, length qs) = cc in
        (leb-true _ _ q, ap (λ (p : ℕ × ℕ). p.1) p)
    go (is_false q) = let k : ◌≡◌ {A = Option (ℕ × ℕ)} (Some (n, m)) None = rw q at e in absurd (let z : ◌≡◌ {A = ℕ} 0 1 = cc in omega arith)

went-full : (limit : ℕ) (qs : List rows.Pair) → None ≡ went_to limit qs → limit < length qs
unfolding went_to
went-full limit qs e = go (flag (leb (length qs) limit))
  where
    go : Flag (leb (length qs) limit) → limit < length qs
    go (is_true q) = let k : ◌≡◌ {A = Option (ℕ × ℕ)} None (Some (length qs - 1, length qs)) = rw q at e in absurd (let z : ◌≡◌ {A = ℕ} 0 1 = cc in omega arith)
    go (is_false q) = leb-false _ _ q

-- the ways out of `pair_up`, in the words of what `walk`, `clear` and `overflow` ensure
module _ {x y plan heads : List ℕ} {limit i j : ℕ} (able : Pairable x y plan heads limit i j) {op : Operation} {r : Option (ℕ × ℕ)} {ws hs : List ℕ}
    (went : Planned op x y limit (walked op x y (i, j) []) r ws hs) where
  count-is : length (walked op x y (i, j) []) ≡ pair_count op (tree x i) (tree y j)
  count-is = pairs-count op x y i j able.first able.second

  pub full-touched : r ≡ None → Touched ws hs limit
  full-touched e = went.touched (went-full limit _ (sym e ∙ went.answer))

  pub to-touched : (n m : ℕ) → r ≡ Some (n, m) → Touched ws hs m
  to-touched n m e =
      let q = went_to_lem limit _ n m (sym e ∙ went.answer) in
      rw q.1 (plan-touched (went.plan q.0))

  pub to-sound : (n m : ℕ) → r ≡ Some (n, m) → Sound ws m
  to-sound n m e =
      let q = went_to_lem limit _ n m (sym e ∙ went.answer) in
      rw q.1 (plan-entries op x y i j able.first able.second ws hs limit (went.plan q.0))

  pub out-many : {hs' : List ℕ} → r ≡ None → Clean hs' → PairedUp op limit (tree x i) (tree y j) TooMany ws hs'
  out-many e c = record {
    answer = answer-many op limit _ _ (omega (arith, count-is, went-full limit _ (sym e ∙ went.answer)));
    clean = c;
    forms = λ n z. absurd (let q : ◌≡◌ {A = ℕ} 0 1 = cc in omega arith);
  }

  module _ (n m : ℕ) (e : r ≡ Some (n, m)) {hs' : List ℕ} (c : Clean hs') {over : Bool} (o : over ≡ exceeds (operate op) ws m) where
    few : length (walked op x y (i, j) []) ≤ limit
    few = (went_to_lem limit _ n m (sym e ∙ went.answer)).0

    m-is : m ≡ length (walked op x y (i, j) [])
    m-is = (went_to_lem limit _ n m (sym e ∙ went.answer)).1

    over-is : over ≡ overflows (operate op) (pairs op (tree x i) (tree y j))
    over-is = o ∙ ap (exceeds (operate op) ws) m-is ∙ plan-exceeds op x y i j able.first able.second ws hs limit (went.plan few)

    pub out-high : over ≡ true → PairedUp op limit (tree x i) (tree y j) TooHigh ws hs'
    out-high t = record {
      answer = answer-high op limit _ _ (omega (arith, count-is, few)) (sym over-is ∙ t);
      clean = c;
      forms = λ k z. absurd (let q : ◌≡◌ {A = ℕ} 0 1 = cc in omega arith);
    }

    pub out-pairs : over ≡ false → PairedUp op limit (tree x i) (tree y j) (Pairs m) ws hs'
    out-pairs f =
        let calm : overflows (operate op) (pairs op (tree x i) (tree y j)) ≡ false = sym over-is ∙ f in
        record {
          answer = ap Pairs (m-is ∙ count-is) ∙ answer-pairs op limit _ _ (omega (arith, count-is, few)) calm;
          clean = c;
          forms = λ k z. let q : m ≡ k = cc in
              subst (Forms op (tree x i) (tree y j) ws) (sym m-is ∙ q) (plan-forms op x y i j able.first able.second ws hs limit (went.plan few) calm);
        }
