-- What a form writes: every word of it is a name or a number as texts have them, and resolved it is the diagram row for row.
use Rattle.std.specs.Prelude.{◌≡◌, refl, true, false, cond, length, get_or, eqb}
use Rattle.std.proofs.Common.{sym, ap, ◌∙◌, subst}
use mathlib.Core.List.{List, [], ◌∷◌, map}
use Prim.Native.Nat.{ℕ, ◌+◌, ◌-◌, ◌≤◌, ◌<◌}
use native.Mathlib.Omega.{arith}
use Rattle.std.proofs.lemmas.List.{length-map}
use borrow.Author.Tests.{eqb-true, eqb-false, eq-eqb, le-leb}
use Rattle.basics.specs.Tests.{Flag, is_true, is_false, flag, Cmp, below, equal, above, cmp}
use Rattle.refusal.specs.Outcome.{ok}
use Rattle.label.specs.Limits.{first_variable, variable_count, first_minimum, minimum_count, equality}
use Rattle.label.specs.Terms.{is_term}
use Rattle.label.specs.Labels.{are_arities, predicate_of, place_at, unpacked, terms_of, is_label, atom_from, test_of}
use Rattle.label.specs.Inner.{Increasing}
use Rattle.label.specs.Renamings.{EachIn, renamed, moved, mapped}
use Rattle.label.proofs.LabelLaws.{predicate-of, label-fits}
use Rattle.label.proofs.ArityLaws.{terms-length, terms-atom}
use Rattle.label.proofs.RenamingLaws.{renamed-atom, moved-renamed}
use Rattle.label.specs.declared.Test.{Test}
use Rattle.label.specs.declared.Test.TheVariants.{Is}
use Rattle.diagram.specs.Sizes.{highest_value}
use Rattle.diagram.specs.Diagram.{Diagram, leaf, branch, EveryLabel}
use Rattle.diagram.specs.Listing.{Fine}
use Rattle.rename.specs.Ascending as S
use Rattle.rename.specs.TermLaws.{each_weaken, label-terms, renamed-same}
use Rattle.words.specs.Keys.{key_of}
use Rattle.names.specs.Keys.{place_of, is_among}
use Rattle.forms.specs.Tree as T
use Rattle.forms.specs.Tree.Atom.{equal as equality-of, holds}
use Rattle.answers.specs.DigitLaws.{digits_number, digits_value}
use Rattle.reading.specs.declared.Binding.TheVariants.{Any}
use Rattle.reading.specs.Reading.{Environment, Met, constant_number, met, number_in, variable_number, minimum_number}
use Rattle.reading.specs.Inner.{Reach}
use Rattle.reading.specs.Tree.{having, resolve_term, resolve_terms, resolve_atom, resolve_diagram}
use Rattle.line_trees.proofs.VariableLaws.{number-exact}
use Rattle.diagram_form.specs.Form.{Tables, variable_name, term_tree, atom_tree, form_tree}
use Rattle.diagram_form.proofs.FormLaws.{Kinds, constant, maximum, least, kinds, constant-tree, variable-tree, minimum-tree}
use Rattle.round_trip.specs.RoundTrip.{Declared, reward_names, reading_of}
use Rattle.round_trip.proofs.NumberingLaws.{equality-terms}
use Rattle.round_trip.proofs.NameLaws.{place-name, among-name, variable-is-name, first_names, first-length, first-at, first-named, first-differ, first_keys, keys_length, first_met}

-- a term that a form can write: a declared constant, or of each kind one of the first v variables
pub record Known (n : Tables) (v : Reach) (t : ℕ) : Type 0 where
  pub constants : t < first_variable → t < length n.constants
  pub variables : first_variable ≤ t → t < first_minimum → t < first_variable + v.variables
  pub minimums : first_minimum ≤ t → t < first_minimum + v.minimums

-- so for a label
pub record Plain (ar : List ℕ) (n : Tables) (v : Reach) (l : ℕ) : Type 0 where
  pub is-label : is_label ar l ≡ true
  pub terms : S.All (Known n v) (terms_of ar (unpacked l))
  pub predicate : predicate_of l ≤ length n.predicates

-- what a label's atom asks is the label
label-test : (ar : List ℕ) (l : ℕ) → are_arities ar ≡ true → is_label ar l ≡ true → test_of (atom_from (predicate_of l) (terms_of ar (unpacked l))) ≡ Is (record { packed = l })
unfolding moved
label-test ar l good e =
    let stay : renamed ar (λ t. t) l ≡ l = renamed-same ar (λ t. t) l e (each_weaken _ _ _ (unpacked l) (λ t h. refl) terms) in
    let atom : atom_from (predicate_of l) (terms_of ar (unpacked l)) ≡ mapped (λ t. t) (get_or ar (predicate_of l) 0) (unpacked l) =
    ap (λ (p : ℕ). atom_from p (terms_of ar (unpacked l))) (sym (predicate-of l))
    ∙ terms-atom ar (unpacked l) (label-fits ar l e).places-fit
    ∙ ap unpacked (sym stay)
    ∙ renamed-atom (λ t. is_term t ≡ true) (λ t. t) same ar good l e terms in
    ap test_of atom ∙ moved_same ∙ ap (λ (k : ℕ). Is (record { packed = k })) stay
  where
    terms : EachIn ar (λ t. is_term t ≡ true) l
    terms = label-terms ar l e

    same : Increasing (λ t. is_term t ≡ true) (λ t. t)
    same = record { terms = λ t h. h; order = λ t u p q h. h }

    moved_same : test_of (mapped (λ t. t) (get_or ar (predicate_of l) 0) (unpacked l)) ≡ Is (record { packed = renamed ar (λ t. t) l })
    moved_same = moved-renamed (λ t. is_term t ≡ true) (λ t. t) same ar good l e terms

-- one of the first c variables of a kind, whose first number is f
module _ (c : ℕ) (few : c ≤ variable_count) (i : ℕ) (h : i < c) where
  variable-place : place_of (key_of (variable_name i)) (first_keys c) ≡ i
  variable-place =
      ap (λ (s : List ℕ). place_of (key_of s) (first_keys c)) (sym (first-at c i h))
      ∙ place-name (first_names c) (first-named c few) (first-differ c) i (omega (arith, first-length c))

  variable-among : is_among (key_of (variable_name i)) (first_keys c) ≡ true
  variable-among =
      ap (λ (s : List ℕ). is_among (key_of s) (first_keys c)) (sym (first-at c i h))
      ∙ among-name (first_names c) (first-named c few) (first-differ c) i (omega (arith, first-length c))

  variable-met : met Any (first_keys c) (key_of (variable_name i)) ≡ first_keys c
  unfolding met
  variable-met = rw variable-among

  variable-number : (f t : ℕ) → f + i ≡ t → number_in f (first_keys c) (key_of (variable_name i)) ≡ t
  variable-number f t e =
      number-exact f (first_keys c) (key_of (variable_name i)) (omega (arith, keys_length c)) (omega (arith, keys_length c, variable-place))
      ∙ ap (λ (j : ℕ). f + j) variable-place ∙ e

module _ (ar : List ℕ) (n : Tables) (v : Reach) (good : are_arities ar ≡ true) (declared : Declared n) (few : v.variables ≤ variable_count)
    (few-minimums : v.minimums ≤ minimum_count) where
  -- ===== Well formed =====

  term-good : (t : ℕ) → Known n v t → T.GoodTerm (term_tree n t)
  term-good t k = go (kinds t)
    where
      go : Kinds t → T.GoodTerm (term_tree n t)
      go (constant h) = rw (constant-tree n t h) (declared.constants-named t (k.constants h))
      go (maximum h l) = let w = k.variables h l in rw (variable-tree n t h l) (variable-is-name (t - first_variable) (omega arith))
      go (least h) = let w = k.minimums h in rw (minimum-tree n t h) (variable-is-name (t - first_minimum) (omega arith))

  terms-good : (ts : List ℕ) → S.All (Known n v) ts → T.All T.GoodTerm (map (term_tree n) ts)
  terms-good [] a = tt
  terms-good (t ∷ ts) a = (term-good t a.0, terms-good ts a.1)

  -- a predicate but equality is declared
  predicate-place : (l : ℕ) → Plain ar n v l → eqb (predicate_of l) equality ≡ false → predicate_of l - 1 < length n.predicates
  predicate-place l p h = let ne = eqb-false (predicate_of l) equality h in go (cmp 0 (predicate_of l)) ne p.predicate
    where
      go : Cmp 0 (predicate_of l) → (predicate_of l ≡ equality → ⊥) → predicate_of l ≤ length n.predicates → predicate_of l - 1 < length n.predicates
      go (below q) ne le = omega arith
      go (equal q) ne le = absurd (ne (sym q))
      go (above q) ne le = absurd (omega arith)

  atom-good : (l : ℕ) → Plain ar n v l → T.GoodAtom (atom_tree ar n l)
  unfolding atom_tree
  atom-good l p = go (flag (eqb (predicate_of l) equality))
    where
      go : Flag (eqb (predicate_of l) equality)
          → T.GoodAtom (cond (eqb (predicate_of l) equality) (equality-of (term_tree n (place_at l 0)) (term_tree n (place_at l 1)))
          (holds (get_or n.predicates (predicate_of l - 1) []) (map (term_tree n) (terms_of ar (unpacked l)))))
      go (is_true h) =
          let a = terms-good (place_at l 0 ∷ place_at l 1 ∷ []) (subst (S.All (Known n v)) (equality-terms ar l good (eqb-true _ _ h)) p.terms) in
          rw h (a.0, a.1.0)
      go (is_false h) = rw h (declared.predicates-named (predicate_of l - 1) (predicate-place l p h), terms-good (terms_of ar (unpacked l)) p.terms)

  pub form-good : (d : Diagram) → EveryLabel (Plain ar n v) d → T.GoodDiagram (form_tree ar n d)
  unfolding form_tree
  form-good (leaf x) p = digits_number x
  form-good (branch l t f) p = (atom-good l p.0, form-good t p.1, form-good f p.2)

  -- ===== Resolved =====

  abbrev pub names : Environment
  names = reward_names ar n

  abbrev pub vs : Met
  vs = first_met v

  constant_number_lem : (t : ℕ) → t < length n.constants → constant_number (map key_of n.constants) (key_of (get_or n.constants t [])) ≡ ok t
  unfolding constant_number
  constant_number_lem t h =
      rw (among-name n.constants declared.constants-named declared.constants-differ t h, place-name n.constants declared.constants-named declared.constants-differ t h)

  term-resolved : (t : ℕ) → Known n v t → resolve_term names vs (term_tree n t) ≡ ok (record { value = t; met = vs })
  unfolding variable_number minimum_number
  term-resolved t k = go (kinds t)
    where
      go : Kinds t → resolve_term names vs (term_tree n t) ≡ ok (record { value = t; met = vs })
      go (constant h) = rw (constant-tree n t h) (ap (having vs) (constant_number_lem t (k.constants h)))
      go (maximum h l) =
          let w = k.variables h l in
          let i = t - first_variable in
          let b : i < v.variables = omega arith in
          rw (variable-tree n t h l, variable-met v.variables few i b)
          (ap (λ (x : ℕ). ok (record { value = x; met = vs })) (variable-number v.variables few i b first_variable t (omega arith)))
      go (least h) =
          let w = k.minimums h in
          let i = t - first_minimum in
          let b : i < v.minimums = omega arith in
          rw (minimum-tree n t h, variable-met v.minimums few-minimums i b)
          (ap (λ (x : ℕ). ok (record { value = x; met = vs })) (variable-number v.minimums few-minimums i b first_minimum t (omega arith)))

  terms-resolved : (ts : List ℕ) → S.All (Known n v) ts → resolve_terms names vs (map (term_tree n) ts) ≡ ok (record { value = ts; met = vs })
  terms-resolved [] a = refl
  terms-resolved (t ∷ ts) a = rw (term-resolved t a.0, terms-resolved ts a.1)

  atom-resolved : (l : ℕ) → Plain ar n v l → resolve_atom names vs (atom_tree ar n l) ≡ ok (record { value = Is (record { packed = l }); met = vs })
  unfolding atom_tree
  atom-resolved l p = go (flag (eqb (predicate_of l) equality))
    where
      ts : List ℕ
      ts = terms_of ar (unpacked l)

      q : List ℕ
      q = get_or n.predicates (predicate_of l - 1) []

      asks : (m : ℕ) → m ≡ predicate_of l → test_of (atom_from m ts) ≡ Is (record { packed = l })
      asks m e = ap (λ (x : ℕ). test_of (atom_from x ts)) e ∙ label-test ar l good p.is-label

      go : Flag (eqb (predicate_of l) equality)
          → resolve_atom names vs (cond (eqb (predicate_of l) equality) (equality-of (term_tree n (place_at l 0)) (term_tree n (place_at l 1))) (holds q (map (term_tree n) ts)))
          ≡ ok (record { value = Is (record { packed = l }); met = vs })
      go (is_true h) =
          let two = equality-terms ar l good (eqb-true _ _ h) in
          rw (h, terms-resolved (place_at l 0 ∷ place_at l 1 ∷ []) (subst (S.All (Known n v)) two p.terms))
          (ap (λ (x : Test). ok (record { value = x; met = vs }))
          (ap (λ (us : List ℕ). test_of (atom_from equality us)) (sym two) ∙ asks equality (sym (eqb-true _ _ h))))
      go (is_false h) =
          let b = predicate-place l p h in
          let ne = eqb-false (predicate_of l) equality h in
          let place : place_of (key_of q) (map key_of n.predicates) ≡ predicate_of l - 1 =
          place-name n.predicates declared.predicates-named declared.predicates-differ (predicate_of l - 1) b in
          let one : predicate_of l - 1 + 1 ≡ predicate_of l = above_zero (cmp 0 (predicate_of l)) ne in
          let count : length (map (term_tree n) ts) ≡ get_or ar (predicate_of l) 0 = length-map ts (term_tree n) ∙ terms-length ar l good in
          rw (
            h,
            among-name n.predicates declared.predicates-named declared.predicates-differ (predicate_of l - 1) b,
            place,
            one,
            eq-eqb _ _ count,
            terms-resolved ts p.terms,
          )
          (ap (λ (x : Test). ok (record { value = x; met = vs })) (asks (predicate_of l) refl))
        where
          above_zero : Cmp 0 (predicate_of l) → (predicate_of l ≡ equality → ⊥) → predicate_of l - 1 + 1 ≡ predicate_of l
          above_zero (below x) ne = omega arith
          above_zero (equal x) ne = absurd (ne (sym x))
          above_zero (above x) ne = absurd (omega arith)

  pub form-resolved : (d : Diagram) → EveryLabel (Plain ar n v) d → Fine ar d
      → resolve_diagram names vs (form_tree ar n d) ≡ ok (record { value = reading_of d; met = vs })
  unfolding form_tree reading_of
  form-resolved (leaf x) p h = rw (digits_value x (omega arith), le-leb x highest_value h)
  form-resolved (branch l t f) p h = rw (atom-resolved l p.0, form-resolved t p.1 h.1, form-resolved f p.2 h.2)
