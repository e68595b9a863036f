-- A plan's entries form what its pairs of diagrams form.
use Rattle.std.specs.Prelude.{◌≡◌, refl, true, false, ◌&&◌, ◌||◌, ℕ, zero, suc, ◌≤◌, ◌<◌, length, get_or, take}
use Rattle.std.proofs.Common.{ap, ap₂, ◌∙◌, arith, length-append, take-suc, get_or-take, length-take-le, eq-eqb, ne_eqb}
use Rattle.std.proofs.Math.Path.{sym}
use Rattle.std.proofs.Math.Bool.{or-false}
use mathlib.Core.List.{List, [], ◌∷◌, ◌++◌, map}
use Rattle.std.proofs.Math.Dec.{ltb}
use Rattle.basics.specs.Tests.{Flag, is_true, is_false, flag}
use Rattle.label.specs.Limits.{leaf_mark}
use Rattle.diagram.specs.Sizes.{highest_value}
use Rattle.diagram.specs.Diagram.{Diagram, leaf}
use Rattle.apply.specs.Apply.{node, apply}
use Rattle.apply.specs.declared.Operation.{Operation}
use Rattle.apply.specs.Combination.{operate}
use Rattle.apply.specs.ApplyLaws.{apply-step}
use Rattle.apply.specs.Pairs.{overflows}
use Rattle.apply.proofs.Course.{inner-calm}
use Rattle.apply.proofs.OverflowLaws.{overflows-none, overflows-cons, overflows-append}
use Rattle.apply.specs.Formed.{add, formed}
use Rattle.apply.proofs.FormedLaws.{formed-none, formed-cons}
use Rattle.plan.specs.Walk.{is_end, on_high, on_low}
use Rattle.plan.specs.Walk as rows
use Rattle.plan.specs.WalkLaws.{end-label}
use Rattle.plan.specs.Plan.{pair_label_at, first_at, second_at, origin, Plan}
use Rattle.combine.specs.RowPairs.{Operand, Inside, AllInside, pair_tree, onward, end-forms, word_small}
use Rattle.combine.specs.Results.{is_end_at, result_at, results, exceeds_at, exceeds, Sound}
use Rattle.store.specs.Space.{add_all}

-- the laws of these definitions
pub end-at : (ws : List ℕ) (k : ℕ) → pair_label_at ws k ≡ leaf_mark → is_end_at ws k ≡ true
unfolding is_end_at
end-at ws k e = eq-eqb _ _ e

pub branch-at : (ws : List ℕ) (k : ℕ) → (pair_label_at ws k ≡ leaf_mark → ⊥) → is_end_at ws k ≡ false
unfolding is_end_at
branch-at ws k e = ne_eqb _ _ e

pub result-end : (op : ℕ → ℕ → ℕ) (ws : List ℕ) (done : List Diagram) (k : ℕ) → is_end_at ws k ≡ true → result_at op ws done k ≡ leaf (op (first_at ws k) (second_at ws k))
unfolding result_at
result-end op ws done k e = rw e

pub result-branch : (op : ℕ → ℕ → ℕ) (ws : List ℕ) (done : List Diagram) (k : ℕ) → is_end_at ws k ≡ false
    → result_at op ws done k ≡ node (pair_label_at ws k) (get_or done (first_at ws k) (leaf 0)) (get_or done (second_at ws k) (leaf 0))
unfolding result_at
result-branch op ws done k e = rw e

pub results-none : (op : ℕ → ℕ → ℕ) (ws : List ℕ) → results op ws 0 ≡ []
unfolding results
results-none op ws = refl

pub results-more : (op : ℕ → ℕ → ℕ) (ws : List ℕ) (k : ℕ) → results op ws (suc k) ≡ results op ws k ++ (result_at op ws (results op ws k) k ∷ [])
unfolding results
results-more op ws k = refl

pub length-results : (op : ℕ → ℕ → ℕ) (ws : List ℕ) (k : ℕ) → length (results op ws k) ≡ k
unfolding results
length-results op ws zero = refl
length-results op ws (suc k) = omega (arith, length-append (results op ws k) (result_at op ws (results op ws k) k ∷ []), length-results op ws k)

pub exceeds-none : (op : ℕ → ℕ → ℕ) (ws : List ℕ) → exceeds op ws 0 ≡ false
unfolding exceeds
exceeds-none op ws = refl

pub exceeds-more : (op : ℕ → ℕ → ℕ) (ws : List ℕ) (k : ℕ) → exceeds op ws (suc k) ≡ (exceeds op ws k || exceeds_at op ws k)
unfolding exceeds
exceeds-more op ws k = refl

pub get_d_map : {A B : Type 0} (f : A → B) (xs : List A) (k : ℕ) (d : A) (e : B) → k < length xs → get_or (map f xs) k e ≡ f (get_or xs k d)
get_d_map f [] k d e h = absurd (omega arith)
get_d_map f (x ∷ xs) zero d e h = refl
get_d_map f (x ∷ xs) (suc k) d e h = get_d_map f xs k d e (omega arith)

map-append : {A B : Type 0} (f : A → B) (xs ys : List A) → map f (xs ++ ys) ≡ map f xs ++ map f ys
map-append f [] ys = refl
map-append f (x ∷ xs) ys = ap (◌∷◌ (f x)) (map-append f xs ys)

module _ (x y : List ℕ) (m n : ℕ) (tx ty : ℕ → Diagram) (ox : Operand x m tx) (oy : Operand y n ty)
    (op : Operation) (ws heads : List ℕ) (limit : ℕ) (ps : List rows.Pair) (plan : Plan op x y ws heads limit ps) (inside : AllInside x y m n tx ty ox oy ps) where
  -- what a pair of rows forms
  abbrev pub pair_result : rows.Pair → Diagram
  pair_result p = apply (operate op) (tx p.0) (ty p.1)

  at-inside : (qs : List rows.Pair) → AllInside x y m n tx ty ox oy qs → (k : ℕ) → k < length qs → Inside x y m n tx ty ox oy (get_or qs k origin)
  at-inside [] a k h = absurd (omega arith)
  at-inside (q ∷ qs) a zero h = a.0
  at-inside (q ∷ qs) a (suc k) h = at-inside qs a.1 k (omega arith)

  label-end : (k : ℕ) → k < length ps → is_end_at ws k ≡ is_end op x y (get_or ps k origin)
  label-end k h = go (flag (is_end op x y (get_or ps k origin)))
    where
      go : Flag (is_end op x y (get_or ps k origin)) → is_end_at ws k ≡ is_end op x y (get_or ps k origin)
      go (is_true e) = end-at ws k ((plan.entry k h).label ∙ end-label op x y (get_or ps k origin) e) ∙ sym e
      go (is_false e) =
          let o = onward x y m n tx ty ox oy op (get_or ps k origin) (at-inside ps inside k h) e in
          branch-at ws k (λ z. omega (arith, o.label-less, sym (plan.entry k h).label ∙ z)) ∙ sym e

  results_step : (k : ℕ) → k < length ps → results (operate op) ws k ≡ map pair_result (take k ps)
      → result_at (operate op) ws (results (operate op) ws k) k ≡ pair_result (get_or ps k origin)
  results_step k h ih = go (flag (is_end op x y (get_or ps k origin)))
    where
      p : rows.Pair
      p = get_or ps k origin

      child : (j : ℕ) → j < k → get_or (results (operate op) ws k) j (leaf 0) ≡ pair_result (get_or ps j origin)
      child j l =
          ap (λ (ds : List Diagram). get_or ds j (leaf 0)) ih
          ∙ get_d_map pair_result (take k ps) j origin (leaf 0) (omega (arith, length-take-le k ps (omega arith)))
          ∙ ap pair_result (get_or-take k ps j origin l)

      go : Flag (is_end op x y (get_or ps k origin)) → result_at (operate op) ws (results (operate op) ws k) k ≡ pair_result (get_or ps k origin)
      go (is_true e) =
          let v = (plan.entry k h).end e in
          result-end (operate op) ws (results (operate op) ws k) k (label-end k h ∙ e)
          ∙ ap leaf (ap₂ (operate op) v.first v.second)
          ∙ (end-forms x y m n tx ty ox oy op (get_or ps k origin) (at-inside ps inside k h) e).0
      go (is_false e) =
          let b = (plan.entry k h).branch e in
          let o = onward x y m n tx ty ox oy op (get_or ps k origin) (at-inside ps inside k h) e in
          result-branch (operate op) ws (results (operate op) ws k) k (label-end k h ∙ e)
          ∙ ap₂ (node (pair_label_at ws k)) (child (first_at ws k) b.first-less ∙ ap pair_result b.first) (child (second_at ws k) b.second-less ∙ ap pair_result b.second)
          ∙ ap (λ (l : ℕ). node l (pair_result (on_high x y p)) (pair_result (on_low x y p))) (plan.entry k h).label
          ∙ sym (apply-step (operate op) o.step)

  -- the entries form, in their order, what their pairs of diagrams form
  pub results-are : (k : ℕ) → k ≤ length ps → results (operate op) ws k ≡ map pair_result (take k ps)
  results-are zero h = results-none (operate op) ws
  results-are (suc k) h =
      let ih = results-are k (omega arith) in
      results-more (operate op) ws k ∙ ap₂ (λ (ds : List Diagram) (d : Diagram). ds ++ (d ∷ [])) ih (results_step k h ih)
      ∙ sym (map-append pair_result (take k ps) (get_or ps k origin ∷ [])) ∙ ap (map pair_result) (sym (take-suc ps k origin h))

  -- rows added in the order of the entries are the rows formed by the pairs
  pub added-formed : (rs : List Diagram) (qs : List rows.Pair)
      → add_all rs (map pair_result qs) ≡ formed (operate op) rs (map (pair_tree x y m n tx ty ox oy) qs)
  unfolding add_all
  added-formed rs [] = sym (formed-none (operate op) rs)
  added-formed rs (q ∷ qs) = added-formed (add (pair_result q) rs) qs ∙ sym (formed-cons (operate op) rs _ _)

  exceeds-step : (k : ℕ) → k < length ps → exceeds_at (operate op) ws k ≡ overflows (operate op) (pair_tree x y m n tx ty ox oy (get_or ps k origin) ∷ [])
  unfolding exceeds_at
  exceeds-step k h = go (flag (is_end op x y (get_or ps k origin)))
    where
      go : Flag (is_end op x y (get_or ps k origin))
          → (is_end_at ws k && ltb highest_value (operate op (first_at ws k) (second_at ws k))) ≡ overflows (operate op) (pair_tree x y m n tx ty ox oy (get_or ps k origin) ∷ [])
      go (is_true e) =
          let v = (plan.entry k h).end e in
          let z = end-forms x y m n tx ty ox oy op (get_or ps k origin) (at-inside ps inside k h) e in
          rw (label-end k h, e, v.first, v.second, overflows-cons (operate op) (pair_tree x y m n tx ty ox oy (get_or ps k origin)) [], overflows-none (operate op), z.1) (sym (or-false _))
      go (is_false e) =
          let o = onward x y m n tx ty ox oy op (get_or ps k origin) (at-inside ps inside k h) e in
          rw (label-end k h, e, overflows-cons (operate op) (pair_tree x y m n tx ty ox oy (get_or ps k origin)) [], overflows-none (operate op), inner-calm (operate op) o.step)

  -- an end among the entries exceeds exactly if one of the pairs of leaves does
  pub exceeds-are : (k : ℕ) → k ≤ length ps → exceeds (operate op) ws k ≡ overflows (operate op) (map (pair_tree x y m n tx ty ox oy) (take k ps))
  exceeds-are zero h = exceeds-none (operate op) ws ∙ sym (overflows-none (operate op))
  exceeds-are (suc k) h =
      exceeds-more (operate op) ws k ∙ ap₂ ◌||◌ (exceeds-are k (omega arith)) (exceeds-step k h)
      ∙ sym (overflows-append (operate op) (map (pair_tree x y m n tx ty ox oy) (take k ps)) (pair_tree x y m n tx ty ox oy (get_or ps k origin) ∷ []))
      ∙ ap (overflows (operate op)) (sym (map-append (pair_tree x y m n tx ty ox oy) (take k ps) (get_or ps k origin ∷ [])) ∙ ap (map (pair_tree x y m n tx ty ox oy)) (sym (take-suc ps k origin h)))

  -- the entries can be worked on
  pub plan-sound : Sound ws (length ps)
  plan-sound = record {
    room = omega (arith, plan.index.words, plan.index.within);
    labels = λ k h e. let o = onward x y m n tx ty ox oy op (get_or ps k origin) (at-inside ps inside k h) (sym (label-end k h) ∙ e) in
        rw (plan.entry k h).label o.label-less;
    firsts = λ k h e. ((plan.entry k h).branch (sym (label-end k h) ∙ e)).first-less;
    seconds = λ k h e. ((plan.entry k h).branch (sym (label-end k h) ∙ e)).second-less;
    values = λ k h e. end-values k h (sym (label-end k h) ∙ e);
  }
    where
      end-values : (k : ℕ) → k < length ps → is_end op x y (get_or ps k origin) ≡ true → (first_at ws k ≤ highest_value) × (second_at ws k ≤ highest_value)
      end-values k h e =
          let t = plan.entry k h in
          let v = t.end e in
          let a = at-inside ps inside k h in (
            rw v.first (word_small x m tx ox (get_or ps k origin).0 a.0 t.few-x),
            rw v.second (word_small y n ty oy (get_or ps k origin).1 a.1 t.few-y),
          )
