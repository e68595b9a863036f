-- What a failure says of matches: which way a match takes a literal, and which ways do not fit it.
use mathlib.Core.Path.{◌≡◌, refl, sym, ap, ap₂, subst, ◌∙◌}
use mathlib.Core.Bool.{true, cond}
use mathlib.Core.List.{List, [], ◌∷◌, map, Memᴰ}
use mathlib.Core.Option.{Option, some, none}
use Prim.Native.Nat.{ℕ, ◌/◌, ◌<◌}
use native.Mathlib.Omega.{arith}
use lib.ListN.{drop}
use borrow.Author.Tests.{eq-eqb, lt-leb}
use Rattle.label.specs.Limits.{first_variable, first_minimum, most_places}
use Rattle.label.specs.Terms.{is_variable}
use Rattle.label.specs.Labels.{is_label, place_at, terms_of, unpacked}
use Rattle.paths.specs.Paths.{Literal}
use Rattle.paths.specs.Inner.{literal_at, literals_in}
use Rattle.cutting.specs.Match.{Partial, start, agree, bind_term, then_bind, bind_terms, targets}
use Rattle.cutting.specs.Cut.{Matched}
use Rattle.cutting.specs.Searchable.{Solves}
use Rattle.cutting.proofs.MatchLaws.{binds-some, binds-only, target_sound, target-complete}
use Rattle.matcher.specs.Search.{places_in, way_place, way_places, Setting}
use Rattle.matcher.specs.declared.Way.{Way}
use Rattle.matcher.proofs.AlongLaws.{along-same, along-equal, along-map}
use Rattle.matcher.proofs.TargetLaws.{WayOf, way_out}
use Rattle.matcher.proofs.MeetLaws.{replaced_by}

-- what τ knows, else u
abbrev pub or_of : Option ℕ → ℕ → ℕ
or_of none u = u
or_of (some w) u = w

map_same : (f g : ℕ → ℕ) (ts : List ℕ) → ((t : ℕ) → Memᴰ t ts → f t ≡ g t) → map f ts ≡ map g ts
map_same f g [] h = refl
map_same f g (t ∷ ts) h = ap₂ ◌∷◌ (h t (Memᴰ.head refl)) (map_same f g ts (λ u m. h u (Memᴰ.tail m)))

pub map_at : (f g : ℕ → ℕ) (ts : List ℕ) → map f ts ≡ map g ts → (t : ℕ) → Memᴰ t ts → f t ≡ g t
map_at f g [] e t x'' = elim x'' [ ]
map_at f g (u ∷ ts) e t (Memᴰ.head q) = let y : f u ≡ g u = cc in ap f q ∙ y ∙ ap g (sym q)
map_at f g (u ∷ ts) e t (Memᴰ.tail m) = let y : map f ts ≡ map g ts = cc in map_at f g ts y t m

-- terms that are all known are bound to what they are
pub bind-known : (ts : List ℕ) (τ : Partial) (f : ℕ → ℕ) → ((t : ℕ) → Memᴰ t ts → τ t ≡ some (f t)) → bind_terms τ ts (map f ts) ≡ some τ
unfolding bind_terms bind_term
bind-known [] τ f k = refl
bind-known (t ∷ ts) τ f k =
    ap (λ o. then_bind (agree τ t (f t) o) (λ σ. bind_terms σ ts (map f ts))) (k t (Memᴰ.head refl))
    ∙ ap (λ b. then_bind (cond b (some τ) none) (λ σ. bind_terms σ ts (map f ts))) (eq-eqb (f t) (f t) refl)
    ∙ bind-known ts τ f (λ u m. k u (Memᴰ.tail m))

-- a way that σ takes fits, if σ agrees with what is known of the literal's terms
agreed-binds : (τ : Partial) (σ : ℕ → ℕ) (ts : List ℕ) → ((t w : ℕ) → Memᴰ t ts → τ t ≡ some w → σ t ≡ w)
    → (τ' : Partial) × (bind_terms τ ts (map σ ts) ≡ some τ')
agreed-binds τ σ ts h =
    let b = binds-some (λ t. or_of (τ t) (σ t)) τ ts (record { known = λ t u e. ap (λ o. or_of o (σ t)) e }) in
    (b.0, ap (bind_terms τ ts) (map_same σ (λ t. or_of (τ t) (σ t)) ts (λ t m. at t m (τ t) refl)) ∙ b.1)
  where
    at : (t : ℕ) → Memᴰ t ts → (o : Option ℕ) → τ t ≡ o → σ t ≡ or_of (τ t) (σ t)
    at t m none e = sym (ap (λ o. or_of o (σ t)) e)
    at t m (some w) e = h t w m e ∙ sym (ap (λ o. or_of o (σ t)) e)

-- what a way that fits has written
pub bound-images : (τ τ' : Partial) (ts us : List ℕ) → bind_terms τ ts us ≡ some τ' → map (λ t. or_of (τ' t) t) ts ≡ us
bound-images τ τ' ts us e = (binds-only (λ t. or_of (τ' t) t) τ τ' ts us e (record { known = λ t u q. ap (λ o. or_of o t) q })).1

-- a way that does not fit is none that a match takes, if the match agrees with what is known of the literal's terms
pub misfit : (τ : Partial) (σ : ℕ → ℕ) (ts us : List ℕ) → bind_terms τ ts us ≡ none → map σ ts ≡ us → ((t w : ℕ) → Memᴰ t ts → τ t ≡ some w → σ t ≡ w) → ⊥
misfit τ σ ts us e q h =
    let b = agreed-binds τ σ ts h in
    let y : none ≡ some b.0 = sym e ∙ ap (bind_terms τ ts) (sym q) ∙ b.1 in
    let z : ◌≡◌ {A = ℕ} 0 1 = cc in
    absurd (omega arith)

-- σ takes the places of the label l by the way w
abbrev pub Takes : (ℕ → ℕ) → ℕ → Way → Type 0
Takes σ l w = (k : ℕ) → k < most_places → σ (place_at l k) ≡ way_place w k

pub takes-list : (σ : ℕ → ℕ) (l : ℕ) (w : Way) → Takes σ l w → map σ (places_in l) ≡ way_places w
takes-list σ l w h = along-map σ (place_at l) most_places ∙ along-same (λ k. σ (place_at l k)) (way_place w) most_places h

pub list-takes : (σ : ℕ → ℕ) (l : ℕ) (w : Way) → map σ (places_in l) ≡ way_places w → Takes σ l w
list-takes σ l w e = along-equal (λ k. σ (place_at l k)) (way_place w) most_places (sym (along-map σ (place_at l) most_places) ∙ e)

-- a match takes literal x by one of its ways
module _ (ar T ord into tab : List ℕ) (s : Setting ar T ord into tab) (qs : List Literal) (z : Solves ar (literals_in (drop first_minimum into)) T qs start) where
  pub constant-stays : (v : ℕ) → v < first_variable → z.σ v ≡ v
  unfolding start is_variable
  constant-stays v h = z.extends.known v v (start_is v h)
    where
      start_is : (v : ℕ) → v < first_variable → start v ≡ some v
      start_is v h = rw (lt-leb first_variable v h) refl

  module _ (x : ℕ) (label : is_label ar (x / 2) ≡ true) (m : Memᴰ (literal_at x) qs) where
    abbrev all : Partial
    all t = some (z.σ t)

    pub taken : WayOf ar T ord into tab s x label (map z.σ (terms_of ar (unpacked (x / 2))))
    unfolding literal_at
    taken = way_out ar T ord into tab s x label (map z.σ (terms_of ar (unpacked (x / 2))))
        (target-complete ar s.search.arities z.σ (literals_in (drop first_minimum into)) T (literal_at x) s.search.small (z.image (literal_at x) m) (z.matched (literal_at x) m))

    pub taken_is : (w : WayOf ar T ord into tab s x label (map z.σ (terms_of ar (unpacked (x / 2))))) → Takes z.σ (x / 2) w.way
    taken_is w =
        list-takes z.σ (x / 2) w.way
        (binds-only z.σ all all (places_in (x / 2)) (way_places w.way)
        (sym (w.same all (ap some (constant-stays 0 (omega arith)))) ∙ bind-known (terms_of ar (unpacked (x / 2))) all z.σ (λ t i. refl))
        (record { known = λ t u e. cc })).1

    -- a literal whose terms are all known and that is not met: no match agrees with theta on its terms
    pub unmet : (theta : List ℕ) → ((t : ℕ) → Memᴰ t (terms_of ar (unpacked (x / 2))) → z.σ t ≡ replaced_by theta t)
        → (Matched ar (replaced_by theta) (literals_in (drop first_minimum into)) (literal_at x) → ⊥) → ⊥
    unfolding literal_at
    unmet theta h f =
        f (target_sound ar s.search.arities (replaced_by theta) (literals_in (drop first_minimum into)) T (literal_at x) s.search.labels
        (subst (λ (us : List ℕ). Memᴰ us (targets ar (literals_in (drop first_minimum into)) T (literal_at x)))
        (map_same z.σ (replaced_by theta) (terms_of ar (unpacked (x / 2))) h)
        (target-complete ar s.search.arities z.σ (literals_in (drop first_minimum into)) T (literal_at x) s.search.small (z.image (literal_at x) m)
        (z.matched (literal_at x) m))))
