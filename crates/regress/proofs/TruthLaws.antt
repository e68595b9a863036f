-- Laws of T at a label: the map of its arguments, and what the code forms.
use mathlib.Core.Path.{◌≡◌, refl, sym, ap, subst, ◌∙◌, fun_ext}
use mathlib.Core.Bool.{Bool, true, false, not, cond}
use mathlib.Core.List.{List}
use mathlib.Core.Option.{Option, some, none}
use Prim.Native.Nat.{ℕ, ◌+◌, ◌-◌, ◌≤◌, ◌<◌}
use native.Mathlib.Omega.{arith}
use lib.ListN.{length, get_or, set, length-set, get_or-eq_default}
use lib.Seq.{get_or-set_same, get_or-set_other}
use lib.Dec.{eqb}
use borrow.Author.Tests.{eqb-true, eqb-false, not-true}
use Rattle.basics.specs.Members.{clash}
use Rattle.basics.specs.Tests.{and_left, and_right, Flag, is_true, is_false, flag, Cmp, below, equal, above, cmp}
use Rattle.label.specs.Limits.{first_variable, term_end, predicate_count, most_places, leaf_mark}
use Rattle.label.specs.Labels.{are_arities, places_of, terms_of, unpacked, predicate_of, place_at}
use Rattle.label.proofs.LabelLaws.{term-below, label-below, label-fits, place_of, predicate-of}
use Rattle.label.proofs.ArityLaws.{arity-most, arity-words, take_at, take_past}
use Rattle.label.specs.Inner.{map_of}
use Rattle.label.specs.declared.Label.{Label}
use Rattle.label.specs.declared.Test.TheVariants.{Is}
use Rattle.diagram.specs.Sizes.{highest_value}
use Rattle.diagram.specs.Diagram.{Diagram}
use Rattle.diagram.specs.Rows.{onto}
use Rattle.diagram.specs.Words.{is_listing}
use Rattle.diagram.specs.Listing.{diagram_of}
use Rattle.diagram.specs.Validity.{tree}
use Rattle.diagram.specs.ListingValid.{listing-is-valid}
use Rattle.state.proofs.ValueLaws.{Each-mono}
use Rattle.store.specs.Space.{diagrams_of, Formation}
use Rattle.regression.specs.Calls.{Run, bind, form}
use Rattle.regression.proofs.CallLaws.{form-old, bind-refused}
use Rattle.regression.specs.Step.{label_test, test_diagram}
use Rattle.regression.proofs.StepLaws.{most-test}
use Rattle.regression.specs.Regression.{argument, replacement, truth_of, truth_from, truth_at}
use Rattle.regression.proofs.ResultLaws.{label-terms, argument-low, argument-high, argument-in, argument-terms}
use Rattle.regression.specs.RegressCall.{truth_count, truth_words, truths_of}
use Rattle.regression.proofs.RegressCallLaws.{truths-none, truths-some, listings-at}
use Rattle.regression.specs.Result.{AtMost}
use Rattle.row_steps.specs.Running.{Ready, Ran, Testable}
use Rattle.row_steps.specs.RunLaws.{there-mem, in-room, formed-ran, full-ran, row-known, full-known, one-most, ran-cast, ran-answer}
use Rattle.truths.specs.TruthChecks.{has_truth}
use Rattle.regress.specs.Tasks.{Mapping, told_as, used_places, Usable, Arguable, Argued}
use Rattle.regress.specs.Keeping.{formed_truth, Asking}
use Rattle.refusal.specs.declared.Refusal.{Refusal}
use Rattle.std.specs.Prelude.{None, Option as StdOption, Result, Some}

-- `argument_term`
pub argument-is-low : (ts : List ℕ) {t : ℕ} → t < first_variable → t ≡ argument ts t
argument-is-low ts {t} h = sym (argument-low ts t h)

module _ (n l t : ℕ) (h : first_variable ≤ t) where
  pub argument-is-unused : n ≤ t - first_variable → 0 ≡ argument (used_places n (unpacked l)) t
  argument-is-unused k = sym (argument-high (used_places n (unpacked l)) t h ∙ take_past n (places_of (unpacked l)) (t - first_variable) k)

  pub argument-is-place : n ≤ most_places → t - first_variable < n → {x : ℕ} → x ≡ place_at l (t - first_variable) → x ≡ argument (used_places n (unpacked l)) t
  argument-is-place m k e =
      e ∙ sym (argument-high (used_places n (unpacked l)) t h ∙ take_at n (places_of (unpacked l)) (t - first_variable) k ∙ place_of l (t - first_variable) (omega arith))

-- `argument_map`: the first t words are written
pub record Arguing (ar : List ℕ) (l n : ℕ) (map : List ℕ) (t : ℕ) : Type 0 where
  pub arity : n ≡ get_or ar (predicate_of l) 0
  pub few : n ≤ most_places
  pub whole : length map ≡ term_end
  pub within : t ≤ term_end
  pub each : (u : ℕ) → u < t → get_or map u 0 ≡ argument (used_places n (unpacked l)) u

module _ {ar map : List ℕ} {l : ℕ} (h : Arguable ar l map) {p : ℕ} (e : p ≡ predicate_of l) where
  pub arguing-start : Arguing ar l (get_or ar p 0) map 0
  arguing-start = record {
    arity = ap (λ (q : ℕ). get_or ar q 0) e;
    few = arity-most ar p h.arities;
    whole = h.room;
    within = omega arith;
    each = λ u k. absurd (omega arith);
  }

  pub arguing-room : p < length ar
  arguing-room = omega (arith, e, arity-words ar h.arities, predicate-of l, (label-fits ar l h.label).predicate-fits)

module _ {ar map : List ℕ} {l n t : ℕ} (g : Arguing ar l n map t) where
  pub arguing-on : {x : ℕ} → t < term_end → x ≡ argument (used_places n (unpacked l)) t → Arguing ar l n (set map t x) (t + 1)
  arguing-on {x} h e = record {
    arity = g.arity;
    few = g.few;
    whole = length-set map t x ∙ g.whole;
    within = omega arith;
    each = λ u k. each u k (cmp u t);
  }
    where
      each : (u : ℕ) → u < t + 1 → Cmp u t → get_or (set map t x) u 0 ≡ argument (used_places n (unpacked l)) u
      each u k (below q) = get_or-set_other map t u x 0 (λ z. omega arith) ∙ g.each u q
      each u k (equal q) = rw q (get_or-set_same map t x 0 (omega (arith, g.whole)) ∙ e)
      each u k (above q) = absurd (omega arith)

  pub arguing-end : term_end ≤ t → Argued ar l map
  unfolding terms_of
  arguing-end h = record {
    whole = g.whole;
    each = λ u k. g.each u (omega arith)
        ∙ ap (λ (m : ℕ). argument (used_places m (unpacked l)) u) (g.arity ∙ ap (λ (p : ℕ). get_or ar p 0) (sym (predicate-of l)));
  }

-- `replace_arguments`
module _ {ar ws : List ℕ} {l : ℕ} (u : Usable ar ws l) where
  arities : are_arities ar ≡ true
  arities = (listing-is-valid ar ws u.listing).arities

  pub argument-arguable : {map : List ℕ} → length map ≡ term_end → Arguable ar l map
  argument-arguable e = record { arities = arities; label = u.label; room = e }

  abbrev Ts : List ℕ
  Ts = terms_of ar (unpacked l)

  module _ {map : List ℕ} (g : Argued ar l map) where
    pub argued-mapping : Mapping ar map
    argued-mapping = record {
      arities = arities;
      terms = record {
        whole = omega (arith, g.whole);
        below = λ t h. rw (g.each t h) (argument-in (λ (x : ℕ). x < term_end) (omega arith) Ts (Each-mono _ _ term-below Ts (label-terms ar l u.label)) t (λ k. h));
      };
      keeps = λ t h. rw (g.each t (term-below t h)) (argument-terms Ts (label-terms ar l u.label) t h);
    }

    past : (t : ℕ) → term_end ≤ t → map_of map t ≡ argument Ts t
    unfolding terms_of
    past t h =
        get_or-eq_default map 0 (omega (arith, g.whole))
        ∙ sym (argument-high Ts t (omega arith)
        ∙ take_past (get_or ar (unpacked l).predicate 0) (places_of (unpacked l)) (t - first_variable) (omega (arith, arity-most ar (unpacked l).predicate arities)))

    same_map : (t : ℕ) → Cmp t term_end → map_of map t ≡ argument Ts t
    same_map t (below h) = g.each t h
    same_map t (equal h) = past t (omega arith)
    same_map t (above h) = past t (omega arith)

    pub argued-ran : {limit : ℕ} {s₀ : List ℕ} {count : ℕ} {r : Result (ℕ × ℕ) (Refusal × ℕ)} {s heads links index : List ℕ}
        → Ran limit (replacement ar (map_of map) (diagram_of ws)) s₀ count r s heads links index
        → Ran limit (replacement ar (argument Ts) (diagram_of ws)) s₀ count r s heads links index
    argued-ran x = ran-cast (ap (λ (σ : ℕ → ℕ). replacement ar σ (diagram_of ws)) (fun_ext (λ t. same_map t (cmp t term_end)))) x

-- the answer of forming d, as that of a step
pub formed-told : (d : Diagram) → AtMost highest_value d → {plan index s₀ heads₀ links₀ : List ℕ} {limit count : ℕ} → Ready plan index limit s₀ heads₀ links₀ count
    → {f : StdOption (ℕ × ℕ)} {s heads links : List ℕ} → Formation d (onto d (diagrams_of s₀ count)) f s heads links → {r : Result (ℕ × ℕ) (Refusal × ℕ)} → r ≡ told_as f
    → Ran limit (form d) s₀ count r s heads links index
formed-told d m {plan} {index} {s₀} {heads₀} {links₀} {limit} {count} ready {f} {s} {heads} {links} x {r} t =
    subst (λ (y : Result (ℕ × ℕ) (Refusal × ℕ)). Ran limit (form d) s₀ count y s heads links index) (sym t) (go f refl)
  where
    go : (g : StdOption (ℕ × ℕ)) → f ≡ g → Ran limit (form d) s₀ count (told_as f) s heads links index
    go (Some (i, n)) e = rw e (formed-ran s₀ count d m ready.space.values ready.clean (row-known x e))
    go None e = rw e (full-ran s₀ count d m ready.space.values ready.clean (full-known x e))

-- `form_truth`: T stands in the space once its rows are formed
pub ran-formed : {limit : ℕ} {m : Run Diagram} {s₀ : List ℕ} {count : ℕ} {r : Result (ℕ × ℕ) (Refusal × ℕ)} {s heads links index : List ℕ} → Ran limit m s₀ count r s heads links index
    → Ran limit (bind m form) s₀ count r s heads links index
ran-formed {limit} {m} {s₀} {count} {r} {s} {heads} {links} {index} x = record {
  space = x.space;
  clean = x.clean;
  row = λ i n e.
      let g = x.row i n e in
      let h = (ran-answer e x).space.holds in
      record {
        there = g.there;
        more = g.more;
        gives = rw g.gives (form-old (tree s i) (diagrams_of s n) (there-mem h i g.there) (in-room h));
        stays = g.stays;
      };
  refusal = λ w n e y. bind-refused m form (diagrams_of s₀ count) w (x.refusal w n e y);
}

module _ {ar truths spans : List ℕ} {l : ℕ} (q : Asking ar truths spans l) where
  pub label-predicate : {p : ℕ} → p ≡ predicate_of l → p < predicate_count
  label-predicate e = omega (arith, predicate-of l, (label-fits ar l q.label).predicate-fits)

  pub label-testable : Testable (Is (record { packed = l }))
  label-testable = record { label = λ k e. let z : record { packed = l } ≡ k = cc in subst (λ (x : Label). x.packed < leaf_mark) z (label-below ar l q.label) }

  module _ {p : ℕ} (e : p ≡ predicate_of l) where
    has_some : has_truth spans p ≡ true → (truth_of (truths_of truths spans) p ≡ some (diagram_of (truth_words truths spans p))) × (is_listing ar (truth_words truths spans p) ≡ true)
    unfolding has_truth truth_of
    has_some h =
        let x = not-true (eqb p 0) (and_left (not (eqb p 0)) _ h) in
        let y = not-true (eqb (truth_count spans p) 0) (and_right (not (eqb p 0)) _ h) in
        let n : truth_count spans p ≡ 0 → ⊥ = eqb-false _ _ y in (
          rw x (truths-some truths spans p n),
          listings-at ar truths spans 1 (predicate_count - 1) q.lent.listings p (let z : p ≡ 0 → ⊥ = eqb-false _ _ x in omega arith) (let z = label-predicate e in omega arith) n,
        )

    has_no : has_truth spans p ≡ false → truth_of (truths_of truths spans) p ≡ none
    unfolding has_truth truth_of
    has_no h = go (flag (eqb p 0)) (flag (eqb (truth_count spans p) 0))
      where
        go : Flag (eqb p 0) → Flag (eqb (truth_count spans p) 0) → cond (eqb p 0) none (truths_of truths spans p) ≡ none
        go (is_true x) y = rw x
        go (is_false x) (is_true y) = rw x (truths-none truths spans p (eqb-true _ _ y))
        go (is_false x) (is_false y) = clash (rw (x, y) refl) h

    module _ {b : Bool} (told-b : b ≡ has_truth spans p) where
      pub truth-usable : b ≡ true → {ws : List ℕ} → ws ≡ truth_words truths spans p → Usable ar ws l
      truth-usable h {ws} w = record { listing = rw w (has_some (sym told-b ∙ h)).1; label = q.label }

      pub truth-used : b ≡ true → {ws : List ℕ} → ws ≡ truth_words truths spans p → {limit : ℕ} {s₀ : List ℕ} {count : ℕ} {r : Result (ℕ × ℕ) (Refusal × ℕ)} {s heads links index : List ℕ}
          → Ran limit (replacement ar (argument (terms_of ar (unpacked l))) (diagram_of ws)) s₀ count r s heads links index
          → Ran limit (formed_truth ar (truths_of truths spans) l) s₀ count r s heads links index
      unfolding truth_at truth_from
      truth-used h {ws} w x =
          let z : truth_of (truths_of truths spans) (predicate_of l) ≡ some (diagram_of ws) = rw (← e, w) (has_some (sym told-b ∙ h)).0 in
          ran-formed (ran-cast (sym (ap (λ (o : Option Diagram). truth_from ar o l) z)) x)

      pub truth-stays : b ≡ false → {plan index s₀ heads₀ links₀ : List ℕ} {limit count : ℕ} → Ready plan index limit s₀ heads₀ links₀ count
          → {f : StdOption (ℕ × ℕ)} {s heads links : List ℕ}
          → Formation (test_diagram (Is (record { packed = l }))) (onto (test_diagram (Is (record { packed = l }))) (diagrams_of s₀ count)) f s heads links
          → {r : Result (ℕ × ℕ) (Refusal × ℕ)} → r ≡ told_as f → Ran limit (formed_truth ar (truths_of truths spans) l) s₀ count r s heads links index
      unfolding truth_at truth_from test_diagram
      truth-stays h {plan} {index} {s₀} {heads₀} {links₀} {limit} {count} ready {f} {s} {heads} {links} x {r} t =
          let z : truth_of (truths_of truths spans) (predicate_of l) ≡ none = rw (← e) (has_no (sym told-b ∙ h)) in
          ran-cast (sym (ap (λ (o : Option Diagram). bind (truth_from ar o l) form) z)) (formed-told (label_test l) (one-most (label_test l) (most-test (Is (record { packed = l })))) ready x t)
