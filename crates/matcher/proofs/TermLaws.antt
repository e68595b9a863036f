-- The terms of a label are its first places, as many as its arity; its other places are 0, and binding them adds nothing.
use mathlib.Core.Path.{◌≡◌, refl, sym, ap, ap₂, subst, ◌∙◌}
use mathlib.Core.Bool.{true}
use mathlib.Core.List.{List, [], ◌∷◌, Memᴰ}
use mathlib.Core.Option.{some}
use Prim.Native.Nat.{ℕ, zero, suc, ◌≤◌, ◌<◌}
use native.Mathlib.Omega.{arith}
use lib.ListN.{length, get_or}
use lib.Seq.{ext_get_or, get_or-take}
use borrow.Author.Tests.{le-ltb, eqb-true}
use Rattle.basics.specs.Tests.{Cmp, cmp, below, equal, above}
use Rattle.label.specs.Limits.{most_places}
use Rattle.label.specs.Labels.{are_arities, is_label, predicate_of, place_at, unpacked, places_of, place_fits, terms_of}
use Rattle.label.proofs.LabelLaws.{place_of, place-fits}
use Rattle.label.proofs.ArityLaws.{terms-length, arity-most}
use Rattle.cutting.specs.Match.{Partial, bind_terms}
use Rattle.matcher.specs.Search.{along, places_in}
use Rattle.matcher.proofs.AlongLaws.{along-length, along-at, along-of, along-list, bind-unused}

fits-unused : (n k t : ℕ) → n ≤ k → place_fits n k t ≡ true → t ≡ 0
unfolding place_fits
fits-unused n k t h e = eqb-true t 0 (rw (le-ltb k n h) at e)

get_d_past : (us : List ℕ) (k : ℕ) → length us ≤ k → get_or us k 0 ≡ 0
get_d_past [] k h = refl
get_d_past (u ∷ us) zero h = absurd (omega arith)
get_d_past (u ∷ us) (suc k) h = get_d_past us k (omega arith)

module _ (ar : List ℕ) (l : ℕ) (good : are_arities ar ≡ true) where
  arity : ℕ
  arity = get_or ar (predicate_of l) 0

  few : arity ≤ most_places
  unfolding arity
  few = omega (arith, arity-most ar (predicate_of l) good)

  term-place : (k : ℕ) → k < arity → get_or (terms_of ar (unpacked l)) k 0 ≡ place_at l k
  unfolding arity terms_of
  term-place k h =
      let e : get_or ar (unpacked l).predicate 0 ≡ get_or ar (predicate_of l) 0 = unfold unpacked predicate_of in refl in
      get_or-take (get_or ar (unpacked l).predicate 0) (places_of (unpacked l)) k 0 (omega arith) ∙ place_of l k (omega (arith, few))

  -- the terms are the first places
  pub terms-along : terms_of ar (unpacked l) ≡ along (place_at l) (get_or ar (predicate_of l) 0)
  unfolding arity
  terms-along =
      ext_get_or 0 (terms_of ar (unpacked l)) (along (place_at l) arity) (terms-length ar l good ∙ sym (along-length (place_at l) arity))
      (λ k h. let i : k < arity = omega (arith, terms-length ar l good) in term-place k i ∙ sym (along-at (place_at l) arity k i))

  -- a term stands in a place
  pub in_place : (u : ℕ) → Memᴰ u (terms_of ar (unpacked l)) → (k : ℕ) × (k < most_places) × (u ≡ place_at l k)
  unfolding arity
  in_place u m = let r = along-of (place_at l) arity u (subst (Memᴰ u) terms-along m) in (r.0, omega (arith, r.1, few), r.2)

  module _ (label : is_label ar l ≡ true) where
    unused : (k : ℕ) → arity ≤ k → k < most_places → place_at l k ≡ 0
    unfolding arity
    unused k h i = fits-unused (get_or ar (predicate_of l) 0) k (place_at l k) h (place-fits ar l k label i)

    -- the terms with 0 behind them are the places
    pub place-term : (k : ℕ) → k < most_places → get_or (terms_of ar (unpacked l)) k 0 ≡ place_at l k
    unfolding arity
    place-term k h = go (cmp k arity)
      where
        past : arity ≤ k → get_or (terms_of ar (unpacked l)) k 0 ≡ place_at l k
        past i = get_d_past (terms_of ar (unpacked l)) k (omega (arith, terms-length ar l good)) ∙ sym (unused k i h)

        go : Cmp k arity → get_or (terms_of ar (unpacked l)) k 0 ≡ place_at l k
        go (below i) = term-place k i
        go (equal i) = past (omega arith)
        go (above i) = past (omega arith)

    -- binding the terms is binding the places
    pub bind-places : (us : List ℕ) (τ : Partial) → length us ≡ get_or ar (predicate_of l) 0 → τ 0 ≡ some 0
        → bind_terms τ (terms_of ar (unpacked l)) us ≡ bind_terms τ (places_in l) (along (λ k. get_or us k 0) most_places)
    unfolding arity
    bind-places us τ e z =
        ap₂ (bind_terms τ) terms-along (sym (ap (along (λ k. get_or us k 0)) (sym e) ∙ along-list us))
        ∙ sym (bind-unused τ (place_at l) (λ k. get_or us k 0) arity most_places few z unused (λ k h i. get_d_past us k (omega arith)))
