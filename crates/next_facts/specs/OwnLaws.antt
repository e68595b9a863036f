-- The diagram of a predicate that stays: a listing, and 1 exactly where the predicate holds.
use Rattle.std.specs.Prelude.{◌≡◌, Bool, false, length, get_or, ltb}
use Rattle.std.proofs.Math.Path.{refl, ap}
use Rattle.std.proofs.Common.{sym, subst, ◌∙◌, arith, ext_get_or, ne_eqb, lt-ltb, le-ltb, eq-eqb}
use Rattle.std.proofs.Math.Bool.{true, cond}
use mathlib.Core.List.{List, [], ◌∷◌, map, Memᴰ}
use Prim.Native.Nat.{ℕ, zero, suc, ◌+◌, ◌-◌, ◌≤◌, ◌<◌}
use Rattle.std.proofs.lemmas.List.{length-map}
use Rattle.std.proofs.Math.ListN.{get_or-eq_default}
use Rattle.std.proofs.Math.Dec.{eqb}
use Rattle.basics.specs.Tests.{Cmp, below, equal, above, cmp}
use Rattle.label.specs.Limits.{first_variable, equality, most_places, predicate_count, term_base}
use Rattle.label.specs.Terms.{is_constant, is_parameter, is_variable, is_term}
use Rattle.label.specs.Labels.{are_arities, is_label, in_order, unpacked, predicate_of, atom_from, place_in, place_fits, terms_of}
use Rattle.label.proofs.LabelLaws.{each-place, place-from, fits-atom, label-packed, unpacked-packed, predicate-of}
use Rattle.label.proofs.ArityLaws.{arity-most, atom-terms, from_places}
use Rattle.label.specs.Callers.{Places}
use Rattle.diagram.specs.Diagram.{Diagram, leaf, branch, same, eval, relabel}
use Rattle.diagram.specs.Rows.{onto, rows}
use Rattle.diagram.specs.Words.{up_to}
use Rattle.diagram.specs.WordLaws.{get_d_map, get_d-up_to, length-up_to}
use Rattle.diagram.specs.Listing.{index, encode, listing, diagram_of, Good}
use Rattle.diagram.specs.Validity.{Valid}
use Rattle.diagram.specs.ListingOfDiagram.{valid-listing, diagram-listing}
use Rattle.paths.specs.PathLaws.{mem-unmap}
use Rattle.state.specs.State.{truth, holds, atom_of, meaning, value}
use Rattle.state.specs.Next.{inner}
use Rattle.state.specs.Lent.{said_by, state_of}
use Rattle.reduction.proofs.ListLaws.{in-up_to}
use Rattle.next_facts.specs.Filling.{own_terms, own_label, own_words}
use Rattle.next_facts.specs.UnderLaws.{inner-high}

-- ===== Its terms =====
pub own-length : (k : ℕ) → length (own_terms k) ≡ k
own-length k = length-map (up_to k) (first_variable +◌) ∙ length-up_to k

pub own-term : (k i : ℕ) → i < k → get_or (own_terms k) i 0 ≡ first_variable + i
own-term k i h = get_d_map (first_variable +◌) (up_to k) i 0 0 (omega (arith, length-up_to k)) ∙ ap (first_variable +◌) (get_d-up_to k i h)

pub own-past : (k i : ℕ) → k ≤ i → get_or (own_terms k) i 0 ≡ 0
own-past k i h = get_or-eq_default (own_terms k) 0 (omega (arith, own-length k))

module _ (k : ℕ) (few : k ≤ most_places) where
  own_below : (t : ℕ) → Memᴰ t (own_terms k) → t < term_base
  own_below t m = let u = mem-unmap (first_variable +◌) (up_to k) t m in omega (arith, u.2, in-up_to k u.0 u.1)

  pub own-places : (p : ℕ) → Places term_base (atom_from p (own_terms k))
  own-places p = from_places p (own_terms k) own_below

  is-term : (i : ℕ) → i < most_places → is_term (first_variable + i) ≡ true
  unfolding is_term is_constant is_parameter is_variable
  is-term = each-place (λ i. is_term (first_variable + i) ≡ true) refl refl refl refl refl refl

  place-fits : (p i : ℕ) → i < most_places → place_fits k i (place_in (atom_from p (own_terms k)) i) ≡ true
  unfolding place_fits
  place-fits p i h = rw (place-from p (own_terms k) i h) (go (cmp i k))
    where
      past : k ≤ i → cond (ltb i k) (is_term (get_or (own_terms k) i 0)) (eqb (get_or (own_terms k) i 0) 0) ≡ true
      past l = rw (le-ltb i k l) (eq-eqb _ 0 (own-past k i l))

      go : Cmp i k → cond (ltb i k) (is_term (get_or (own_terms k) i 0)) (eqb (get_or (own_terms k) i 0) 0) ≡ true
      go (below l) = rw (lt-ltb i k l, own-term k i l) (is-term i h)
      go (equal l) = past (omega arith)
      go (above l) = past (omega arith)

module _ (ar : List ℕ) (good : are_arities ar ≡ true) (p : ℕ) (some : 0 < p) (fits : p < predicate_count) where
  abbrev k : ℕ
  k = get_or ar p 0

  few : get_or ar p 0 ≤ most_places
  few = arity-most ar p good

  pub own-label : is_label ar (own_label p (get_or ar p 0)) ≡ true
  unfolding own_label in_order
  own-label = label-packed ar (atom_from p (own_terms (get_or ar p 0))) (own-places (get_or ar p 0) few p)
      ∙ fits-atom ar (atom_from p (own_terms (get_or ar p 0))) (record {
        predicate-fits = fits;
        places-fit = record { fits = place-fits (get_or ar p 0) few p };
        ordered = rw (ne_eqb p equality (λ z. omega arith)) refl;
      })

  -- ===== Its diagram =====
  own-rows : rows (branch (own_label p (get_or ar p 0)) (leaf 1) (leaf 0)) ≡ leaf 1 ∷ leaf 0 ∷ branch (own_label p (get_or ar p 0)) (leaf 1) (leaf 0) ∷ []
  unfolding rows onto same
  own-rows = refl

  own-good : Good ar (branch (own_label p (get_or ar p 0)) (leaf 1) (leaf 0))
  own-good = record {
    arities = good;
    ordered = (omega arith, tt, tt);
    reduced = ((λ e. let z : ◌≡◌ {A = ℕ} 1 0 = cc in omega arith), tt, tt);
    fine = (own-label, omega arith, omega arith);
    few = rw own-rows (omega arith);
  }

  own-listing : listing (branch (own_label p (get_or ar p 0)) (leaf 1) (leaf 0)) ≡ own_words p (get_or ar p 0)
  unfolding listing rows onto same encode index own_words
  own-listing = refl

  pub own-valid : Valid ar (own_words p (get_or ar p 0))
  own-valid = subst (Valid ar) own-listing (valid-listing ar (branch (own_label p (get_or ar p 0)) (leaf 1) (leaf 0)) own-good)

  pub own-diagram : diagram_of (own_words p (get_or ar p 0)) ≡ branch (own_label p (get_or ar p 0)) (leaf 1) (leaf 0)
  own-diagram = ap diagram_of (sym own-listing) ∙ diagram-listing ar (branch (own_label p (get_or ar p 0)) (leaf 1) (leaf 0)) own-good

  -- ===== What it says =====
  module _ (n : ℕ) (constants facts os vs : List ℕ) (size : length vs ≡ get_or ar p 0) where
    own-unpacked : unpacked (own_label p (get_or ar p 0)) ≡ atom_from p (own_terms (get_or ar p 0))
    unfolding own_label
    own-unpacked = unpacked-packed (atom_from p (own_terms (get_or ar p 0))) (own-places (get_or ar p 0) few p)

    own-terms : terms_of ar (unpacked (own_label p (get_or ar p 0))) ≡ own_terms (get_or ar p 0)
    own-terms = ap (terms_of ar) own-unpacked ∙ atom-terms ar p (own_terms (get_or ar p 0)) good (own-length (get_or ar p 0))

    own-objects : map (inner (state_of ar n constants facts) os vs) (own_terms (get_or ar p 0)) ≡ vs
    own-objects = ext_get_or 0 (map (inner (state_of ar n constants facts) os vs) (own_terms (get_or ar p 0))) vs (length-map (own_terms (get_or ar p 0)) _ ∙ own-length (get_or ar p 0) ∙ sym size) (λ i m.
        let h : i < get_or ar p 0 = omega (arith, length-map (own_terms (get_or ar p 0)) (inner (state_of ar n constants facts) os vs), own-length (get_or ar p 0)) in
        let z : first_variable + i - first_variable ≡ i = omega arith in
        get_d_map (inner (state_of ar n constants facts) os vs) (own_terms (get_or ar p 0)) i 0 0 (omega (arith, own-length (get_or ar p 0)))
        ∙ ap (inner (state_of ar n constants facts) os vs) (own-term (get_or ar p 0) i h)
        ∙ inner-high ar n constants facts os vs (first_variable + i) (omega arith)
        ∙ ap (λ (x : ℕ). get_or vs x (get_or constants 0 0)) z ∙ any vs i (get_or constants 0 0) 0 (omega arith))
      where
        any : (xs : List ℕ) (i d e : ℕ) → i < length xs → get_or xs i d ≡ get_or xs i e
        any [] i d e l = absurd (omega arith)
        any (x ∷ xs) zero d e l = refl
        any (x ∷ xs) (suc i) d e l = any xs i d e (omega arith)

    own-holds : (q : ℕ) → q ≡ p → truth (state_of ar n constants facts) q vs ≡ said_by ar facts p vs
    unfolding state_of
    own-holds zero e = absurd (omega arith)
    own-holds (suc q) e = ap (λ (x : ℕ). said_by ar facts x vs) e

    bit : (b : Bool) → eqb (cond b 1 0) 1 ≡ b
    bit true = refl
    bit false = refl

    pub own-says : eqb (value (state_of ar n constants facts) (meaning ar (diagram_of (own_words p (get_or ar p 0)))) (inner (state_of ar n constants facts) os vs)) 1 ≡ said_by ar facts p vs
    unfolding value meaning relabel eval holds atom_of
    own-says =
        ap (λ (d : Diagram). eqb (value (state_of ar n constants facts) (meaning ar d) (inner (state_of ar n constants facts) os vs)) 1) own-diagram
        ∙ bit _
        ∙ ap (λ (xs : List ℕ). truth (state_of ar n constants facts) (predicate_of (own_label p (get_or ar p 0))) (map (inner (state_of ar n constants facts) os vs) xs)) own-terms
        ∙ ap (truth (state_of ar n constants facts) (predicate_of (own_label p (get_or ar p 0)))) own-objects
        ∙ own-holds (predicate_of (own_label p (get_or ar p 0))) (sym (predicate-of (own_label p (get_or ar p 0))) ∙ ap (λ a. a.predicate) own-unpacked)
