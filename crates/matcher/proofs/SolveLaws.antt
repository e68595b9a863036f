-- The search of the code is the search of the definition.
use mathlib.Core.Path.{◌≡◌, refl, sym, ap, ap₂, subst, ◌∙◌}
use mathlib.Core.Logic.{◌⊎◌, inl, inr}
use mathlib.Core.Bool.{Bool, true, false, cond}
use mathlib.Core.List.{List, [], ◌∷◌, map, Memᴰ}
use mathlib.Core.Option.{Option, some, none}
use Prim.Native.Nat.{ℕ, zero, suc, ◌+◌, ◌-◌, ◌*◌, ◌/◌, ◌%◌, ◌≤◌, ◌<◌}
use native.Mathlib.Omega.{arith}
use native.Mathlib.Numerals.{add-one}
use lib.ListN.{length, get_or, take, drop}
use lib.Seq.{drop-cons}
use lib.Dec.{eqb, ltb}
use borrow.Author.Tests.{eqb-true}
use Rattle.basics.specs.Tests.{Flag, is_true, is_false, flag, Cmp, cmp, below, equal, above}
use Rattle.basics.specs.Members.{clash}
use Rattle.label.specs.Limits.{first_variable, first_minimum, most_places, equality_arity}
use Rattle.label.specs.Labels.{is_label, place_at, terms_of, unpacked}
use Rattle.diagram.specs.RowLaws.{same_tests}
use Rattle.paths.specs.Paths.{Literal, terms_in}
use Rattle.cutting.specs.Match.{Partial, assign, agree, bind_term, then_bind, bind_terms, targets, some_of, go_on, matches}
use Rattle.cutting.proofs.MatchLaws.{some_in, some_out, target-image, target-complete, in-terms}
use Rattle.paths.specs.Inner.{InRange, AllInRange, literal_at, literals_in}
use Rattle.matcher.specs.Search.{places_in, turn, way_place, way_places, is_nothing, term_at, segment, known, Slots, Replacing, way_at, way_count, all_known, Images}
use Rattle.matcher.specs.Search.{Met, Sorted, Tabled, Setting, Inside}
use Rattle.matcher.specs.declared.Way.{Way}
use Rattle.matcher.proofs.AlongLaws.{none-some}
use Rattle.matcher.proofs.TermLaws.{in_place}
use Rattle.matcher.proofs.WayLaws.{turn_below}
use Rattle.matcher.proofs.BindLaws.{known_some, known_same}
use Rattle.matcher.proofs.FindLaws.{known_at}
use Rattle.matcher.proofs.NogoodLaws.{bind-known}
use Rattle.matcher.proofs.TargetLaws.{WayView, no-view, one-view, turned-view, twice-view, way-view, WayTo, way_in}
use Rattle.matcher.proofs.MeetLaws.{replaced_by, Meets, meets}

-- ===== Places and literals =====
module _ {ord tab : List ℕ} {n : ℕ} (t : Tabled ord tab n) where
  term-at : (k j : ℕ) → j < most_places → term_at ord (k * most_places + j) ≡ place_at (get_or ord k 0 / 2) j
  term-at k j h =
      let a : (k * most_places + j) / most_places ≡ k = omega arith in
      let b : (k * most_places + j) % most_places ≡ j = omega arith in
      ap₂ (λ (i q : ℕ). place_at (get_or ord i 0 / 2) q) a b

  pub slots_at : {k x : ℕ} → AllInRange first_minimum ord → k < n → x ≡ get_or ord k 0 → Slots tab (k * most_places) (x / 2)
  slots_at {k} {x} g h e = record {
    room = omega (arith, t.tab-room);
    range = subst (λ (y : ℕ). InRange first_minimum (y / 2)) (sym e) (g.each k (omega (arith, t.room)));
    seen = λ j l. subst (λ (v : ℕ). get_or tab v 0 ≤ k * most_places + j + 1) (at j l) (t.seen (k * most_places + j) (omega arith));
    only = λ j v l p q. t.only (k * most_places + j) v (omega arith) p q ∙ at j l;
  }
    where
      at : (j : ℕ) → j < most_places → term_at ord (k * most_places + j) ≡ place_at (x / 2) j
      at j l = term-at k j l ∙ ap (λ (y : ℕ). place_at (y / 2) j) (sym e)

pub segment-cons : (ord : List ℕ) (k n : ℕ) → k < n → n ≤ length ord → segment ord k n ≡ literal_at (get_or ord k 0) ∷ segment ord (k + 1) n
unfolding segment literals_in
segment-cons ord k n h l =
    let e : n - k ≡ suc (n - (k + 1)) = omega arith in
    ap₂ (λ (i : ℕ) (xs : List ℕ). map literal_at (take i xs)) e (drop-cons ord k 0 (omega arith))
    ∙ ap (λ (i : ℕ). literal_at (get_or ord k 0) ∷ map literal_at (take (n - (k + 1)) (drop i ord))) (sym (add-one k))

pub segment-end : (ord : List ℕ) (n : ℕ) → segment ord n n ≡ []
unfolding segment literals_in
segment-end ord n = let e : n - n ≡ 0 = omega arith in ap (λ (i : ℕ). map literal_at (take i (drop n ord))) e

known-zero : {ord tab : List ℕ} {n : ℕ} (theta : List ℕ) (m : ℕ) → Tabled ord tab n → get_or theta 0 0 ≡ 0 → known tab theta m 0 ≡ some 0
known-zero {tab = tab} theta m t z = known_some tab theta m 0 (omega arith) (omega (arith, t.fixed 0 (omega arith))) ∙ ap some z

-- the labels of the literals
label_at : {ar T ord into tab : List ℕ} (k : ℕ) → Setting ar T ord into tab → k < length ord → is_label ar (get_or ord k 0 / 2) ≡ true
unfolding literals_in literal_at
label_at {ord = ord} k s h = s.labels.each (literal_at (get_or ord k 0)) (mem-at ord k h)
  where
    mem-at : (xs : List ℕ) (i : ℕ) → i < length xs → Memᴰ (literal_at (get_or xs i 0)) (map literal_at xs)
    mem-at [] i h = absurd (omega arith)
    mem-at (x ∷ xs) zero h = Memᴰ.head refl
    mem-at (x ∷ xs) (suc i) h = Memᴰ.tail (mem-at xs i (omega arith))

-- ===== Values =====
bind-value : (τ τ' : Partial) (t u : ℕ) → bind_term τ t u ≡ some τ' → (v w : ℕ) → τ' v ≡ some w → (τ v ≡ some w) ⊎ (w ≡ u)
unfolding bind_term assign
bind-value τ τ' t u e v w q = go (τ t) refl e
  where
    fresh : (b : Bool) → cond b (some u) (τ v) ≡ some w → (τ v ≡ some w) ⊎ (w ≡ u)
    fresh true z = let y : w ≡ u = cc in inr y
    fresh false z = inl z

    same : (b : Bool) → cond b (some τ) none ≡ some τ' → (τ v ≡ some w) ⊎ (w ≡ u)
    same true z = let y : τ ≡ τ' = cc in inl (ap (λ (f : Partial). f v) y ∙ q)
    same false z = none-some τ' z

    go : (o : Option ℕ) → τ t ≡ o → agree τ t u o ≡ some τ' → (τ v ≡ some w) ⊎ (w ≡ u)
    go none n z = let y : assign τ t u ≡ τ' = cc in fresh (eqb v t) (ap (λ (f : Partial). f v) y ∙ q)
    go (some o) n z = same (eqb o u) z

-- what is known after binding was known before, or is one of the terms
pub bind-values : (ts us : List ℕ) (τ τ' : Partial) → bind_terms τ ts us ≡ some τ' → (v w : ℕ) → τ' v ≡ some w → (τ v ≡ some w) ⊎ Memᴰ w us
unfolding bind_terms
bind-values [] [] τ τ' e v w q = let y : τ ≡ τ' = cc in inl (ap (λ (f : Partial). f v) y ∙ q)
bind-values [] (u ∷ us) τ τ' e v w q = none-some τ' e
bind-values (t ∷ ts) [] τ τ' e v w q = none-some τ' e
bind-values (t ∷ ts) (u ∷ us) τ τ' e v w q = go (bind_term τ t u) refl e (λ σ z. bind-values ts us σ τ' z v w q)
  where
    first : (τ v ≡ some w) ⊎ (w ≡ u) → (τ v ≡ some w) ⊎ Memᴰ w (u ∷ us)
    first (inl a) = inl a
    first (inr a) = inr (Memᴰ.head a)

    go : (o : Option Partial) → bind_term τ t u ≡ o → then_bind o (λ σ. bind_terms σ ts us) ≡ some τ'
        → ((σ : Partial) → bind_terms σ ts us ≡ some τ' → (σ v ≡ some w) ⊎ Memᴰ w us) → (τ v ≡ some w) ⊎ Memᴰ w (u ∷ us)
    go none p z rec = none-some τ' z
    go (some σ) p z rec = next (rec σ z)
      where
        next : (σ v ≡ some w) ⊎ Memᴰ w us → (τ v ≡ some w) ⊎ Memᴰ w (u ∷ us)
        next (inl a) = first (bind-value τ σ t u p v w a)
        next (inr a) = inr (Memᴰ.tail a)

known-bind : (ts us : List ℕ) (τ τ' : Partial) (f : ℕ → ℕ) → ((t : ℕ) → Memᴰ t ts → τ t ≡ some (f t)) → bind_terms τ ts us ≡ some τ' → (us ≡ map f ts) × (τ' ≡ τ)
unfolding bind_terms bind_term
known-bind [] [] τ τ' f k e = let y : τ' ≡ τ = cc in (refl, y)
known-bind [] (u ∷ us) τ τ' f k e = none-some τ' e
known-bind (t ∷ ts) [] τ τ' f k e = none-some τ' e
known-bind (t ∷ ts) (u ∷ us) τ τ' f k e = go (eqb (f t) u) refl (sym (ap (λ o. then_bind (agree τ t u o) (λ σ. bind_terms σ ts us)) (k t (Memᴰ.head refl))) ∙ e)
    (λ z. known-bind ts us τ τ' f (λ v m. k v (Memᴰ.tail m)) z)
  where
    go : (b : Bool) → eqb (f t) u ≡ b → then_bind (cond b (some τ) none) (λ σ. bind_terms σ ts us) ≡ some τ'
        → (bind_terms τ ts us ≡ some τ' → (us ≡ map f ts) × (τ' ≡ τ)) → (u ∷ us ≡ f t ∷ map f ts) × (τ' ≡ τ)
    go true q z rec = let r = rec z in (ap₂ ◌∷◌ (sym (eqb-true (f t) u q)) r.0, r.1)
    go false q z rec = none-some τ' z

-- ===== One literal =====
module _ {ord into tab theta : List ℕ} {n k x : ℕ} (t : Tabled ord tab n) (r : Replacing tab theta (k * most_places)) (h : k < n) (e : x ≡ get_or ord k 0) where
  module _ (ar T : List ℕ) (s : Setting ar T ord into tab) where
    abbrev pub rest : Partial → Bool
    rest τ = matches ar (literals_in (drop first_minimum into)) T (segment ord (k + 1) n) τ

    pub label-x : is_label ar (x / 2) ≡ true
    label-x = ap (λ (y : ℕ). is_label ar (y / 2)) e ∙ label_at k s (omega (arith, t.room))

    pub step : (τ : Partial) → matches ar (literals_in (drop first_minimum into)) T (segment ord k n) τ
        ≡ some_of (targets ar (literals_in (drop first_minimum into)) T (literal_at x)) (λ us. go_on (bind_terms τ (terms_of ar (unpacked (x / 2))) us) rest)
    unfolding matches literal_at
    step τ =
        ap (λ (qs : List Literal). matches ar (literals_in (drop first_minimum into)) T qs τ) (segment-cons ord k n h t.room)
        ∙ ap (λ (y : ℕ). matches ar (literals_in (drop first_minimum into)) T (literal_at y ∷ segment ord (k + 1) n) τ) (sym e)

    zero-known : known tab theta (k * most_places) 0 ≡ some 0
    zero-known = known-zero theta (k * most_places) t (r.stays 0 (omega arith))

    -- a way that goes on to the end
    pub way-hits : (j : ℕ) (w : Way) → j < way_count into x → way_at into tab x j ≡ w → is_nothing w ≡ false
        → go_on (bind_terms (known tab theta (k * most_places)) (places_in (x / 2)) (way_places w)) rest ≡ true
        → matches ar (literals_in (drop first_minimum into)) T (segment ord k n) (known tab theta (k * most_places)) ≡ true
    way-hits j w l q f z =
        let v = way_in ar T ord into tab s x label-x (subst (WayView into tab x) q (way-view into tab x j l)) f in
        step (known tab theta (k * most_places)) ∙ some_in (targets ar (literals_in (drop first_minimum into)) T (literal_at x)) _ v.terms v.one_of
        (ap (λ o. go_on o rest) (v.same (known tab theta (k * most_places)) zero-known) ∙ z)

    -- what is known stays within T
    pub inside-after : (j : ℕ) (w : Way) → j < way_count into x → way_at into tab x j ≡ w → is_nothing w ≡ false → Inside T (known tab theta (k * most_places)) → (τ' : Partial)
        → bind_terms (known tab theta (k * most_places)) (places_in (x / 2)) (way_places w) ≡ some τ' → Inside T τ'
    inside-after j w l q f i τ' z =
        record {
          each = λ v y lo hi p. at v y lo hi (bind-values (terms_of ar (unpacked (x / 2))) o.terms (known tab theta (k * most_places)) τ'
              (o.same (known tab theta (k * most_places)) zero-known ∙ z) v y p);
        }
      where
        o : WayTo ar (literals_in (drop first_minimum into)) T x w
        o = way_in ar T ord into tab s x label-x (subst (WayView into tab x) q (way-view into tab x j l)) f

        at : (v y : ℕ) → first_variable ≤ v → v < first_minimum → (known tab theta (k * most_places) v ≡ some y) ⊎ Memᴰ y o.terms → Memᴰ y T
        at v y lo hi (inl p) = i.each v y lo hi p
        at v y lo hi (inr m) = target-image ar (literals_in (drop first_minimum into)) T (literal_at x) s.search.holds-terms o.terms o.one_of y m

pub some_inj : (a b : ℕ) → some a ≡ some b → a ≡ b
some_inj a b e = cc

-- a way has terms
pub view-terms : {into tab : List ℕ} {x : ℕ} {w : Way} → Sorted into → WayView into tab x w → (k : ℕ) → k < most_places → way_place w k < first_minimum
unfolding way_place
view-terms s no-view k h = omega arith
view-terms s (one-view i l q) k h = (s.ranged i l).places k h
view-terms s (turned-view i l p q) k h = (s.ranged i l).places (turn k) (turn_below k h)
view-terms s (twice-view t l p q o) k h = go (flag (ltb k equality_arity))
  where
    go : Flag (ltb k equality_arity) → cond (ltb k equality_arity) t 0 < first_minimum
    go (is_true e) = rw e l
    go (is_false e) = rw e (omega arith)

pub replacing-kept : {tab theta theta' : List ℕ} {m : ℕ} → ((v : ℕ) → v < first_variable → get_or tab v 0 ≡ 0) → Replacing tab theta m → length theta' ≡ length theta
    → ((v : ℕ) → v < first_minimum → get_or tab v 0 ≤ m → get_or theta' v 0 ≡ get_or theta v 0) → Replacing tab theta' m
replacing-kept {m = m} fixed r l k = record {
  room = omega (arith, r.room);
  stays = λ v h. k v (omega arith) (omega (arith, fixed v h)) ∙ r.stays v h;
  terms = λ v h q. omega (arith, k v h q, r.terms v h q);
}

-- ===== A literal whose terms are known =====
module _ {ord : List ℕ} (into : List ℕ) {tab theta : List ℕ} {n k x : ℕ} (t : Tabled ord tab n) (g : AllInRange first_minimum ord)
    (r : Replacing tab theta (k * most_places)) (h : k < n) (e : x ≡ get_or ord k 0)
    {b : Bool} (q : b ≡ all_known tab (k * most_places) (x / 2)) (f : b ≡ true) where
  pub known-early : (j : ℕ) → j < most_places → get_or tab (place_at (x / 2) j) 0 ≤ k * most_places
  known-early = known_at tab (k * most_places) (x / 2) (sym q ∙ f)

  slots : Slots tab (k * most_places) (x / 2)
  slots = slots_at t g h e

  -- no term comes first here
  pub none_here : (v : ℕ) → v < first_minimum → k * most_places < get_or tab v 0 → (k + 1) * most_places < get_or tab v 0
  none_here v p l = go (cmp ((k + 1) * most_places) (get_or tab v 0))
    where
      not-here : get_or tab v 0 ≤ (k + 1) * most_places → ⊥
      not-here u =
          let j = get_or tab v 0 - k * most_places - 1 in
          let w = slots.only (get_or tab v 0 - k * most_places - 1) v (omega arith) p (omega arith) in
          let z = known-early (get_or tab v 0 - k * most_places - 1) (omega arith) in
          let y : get_or tab v 0 ≤ k * most_places = subst (λ (i : ℕ). get_or tab i 0 ≤ k * most_places) (sym w) z in
          omega arith

      go : Cmp ((k + 1) * most_places) (get_or tab v 0) → (k + 1) * most_places < get_or tab v 0
      go (below c) = c
      go (equal c) = absurd (not-here (omega arith))
      go (above c) = absurd (not-here (omega arith))

  pub same_known : known tab theta (k * most_places) ≡ known tab theta ((k + 1) * most_places)
  same_known = known_same tab theta theta (k * most_places) ((k + 1) * most_places) (omega arith) (λ v p l. refl) none_here

  pub known-replacing : Replacing tab theta ((k + 1) * most_places)
  known-replacing = record { room = r.room; stays = r.stays; terms = λ v p l. r.terms v p (back v p l (cmp (get_or tab v 0) (k * most_places + 1))) }
    where
      back : (v : ℕ) → v < first_minimum → get_or tab v 0 ≤ (k + 1) * most_places → Cmp (get_or tab v 0) (k * most_places + 1) → get_or tab v 0 ≤ k * most_places
      back v p l (below c) = omega arith
      back v p l (equal c) = absurd (omega (arith, none_here v p (omega arith)))
      back v p l (above c) = absurd (omega (arith, none_here v p (omega arith)))

  pub known-images : Images theta (x / 2)
  known-images = record { room = r.room; range = slots.range; terms = λ j p. r.terms (place_at (x / 2) j) (slots.range.places j p) (known-early j p) }

  module _ (ar T : List ℕ) (s : Setting ar T ord into tab) (ins : Inside T (known tab theta (k * most_places))) where
    term-below : (u : ℕ) → Memᴰ u (terms_of ar (unpacked (x / 2))) → u < first_minimum
    term-below u m = let p = in_place ar (x / 2) s.search.arities u m in subst (λ (v : ℕ). v < first_minimum) (sym p.2) (slots.range.places p.0 p.1)

    terms-known : (u : ℕ) → Memᴰ u (terms_of ar (unpacked (x / 2))) → known tab theta (k * most_places) u ≡ some (replaced_by theta u)
    terms-known u m =
        let p = in_place ar (x / 2) s.search.arities u m in
        known_some tab theta (k * most_places) u (term-below u m) (subst (λ (v : ℕ). get_or tab v 0 ≤ k * most_places) (sym p.2) (known-early p.0 p.1))

    terms-inside : (u : ℕ) → Memᴰ u (terms_of ar (unpacked (x / 2))) → Memᴰ (replaced_by theta u) T
    unfolding literal_at
    terms-inside u m = go (cmp u first_variable)
      where
        own : Memᴰ u (terms_in ar (literals_in ord))
        own = in-terms ar (literals_in ord) (literal_at (get_or ord k 0)) u (there t.room) (subst (λ (y : ℕ). Memᴰ u (terms_of ar (unpacked (y / 2)))) e m)
          where
            there : n ≤ length ord → Memᴰ (literal_at (get_or ord k 0)) (literals_in ord)
            there l = unfold literals_in in (mem-at ord k (omega arith))
              where
                mem-at : (xs : List ℕ) (i : ℕ) → i < length xs → Memᴰ (literal_at (get_or xs i 0)) (map literal_at xs)
                mem-at [] i h = absurd (omega arith)
                mem-at (x ∷ xs) zero h = Memᴰ.head refl
                mem-at (x ∷ xs) (suc i) h = Memᴰ.tail (mem-at xs i (omega arith))

        variable : first_variable ≤ u → Memᴰ (replaced_by theta u) T
        variable l = ins.each u (replaced_by theta u) l (term-below u m) (terms-known u m)

        go : Cmp u first_variable → Memᴰ (replaced_by theta u) T
        go (below c) = subst (λ (w : ℕ). Memᴰ w T) (sym (r.stays u c)) (s.own u own)
        go (equal c) = variable (omega arith)
        go (above c) = variable (omega arith)

    us : List ℕ
    us = map (replaced_by theta) (terms_of ar (unpacked (x / 2)))

    -- what is bound is the image alone
    bound : (vs : List ℕ) → go_on (bind_terms (known tab theta (k * most_places)) (terms_of ar (unpacked (x / 2))) vs) (rest t r h e ar T s) ≡ true
        → (vs ≡ us) × (rest t r h e ar T s (known tab theta (k * most_places)) ≡ true)
    unfolding us
    bound vs z = go (bind_terms (known tab theta (k * most_places)) (terms_of ar (unpacked (x / 2))) vs) refl z
      where
        go : (o : Option Partial) → bind_terms (known tab theta (k * most_places)) (terms_of ar (unpacked (x / 2))) vs ≡ o → go_on o (rest t r h e ar T s) ≡ true
            → (vs ≡ map (replaced_by theta) (terms_of ar (unpacked (x / 2)))) × (rest t r h e ar T s (known tab theta (k * most_places)) ≡ true)
        go none p w = clash w refl
        go (some τ) p w =
            let y = known-bind (terms_of ar (unpacked (x / 2))) vs (known tab theta (k * most_places)) τ (replaced_by theta) terms-known p in
            (y.0, ap (rest t r h e ar T s) (sym y.1) ∙ w)

    pub met : {m : Bool} → Met into theta x m → Meets ar T ord into tab s x (label-x t r h e ar T s) theta (r.stays 0 (omega arith)) m
    met w = meets ar T ord into tab s x (label-x t r h e ar T s) theta (r.stays 0 (omega arith)) w

    pub is-met : {m : Bool} → Met into theta x m → m ≡ true
        → matches ar (literals_in (drop first_minimum into)) T (segment ord k n) (known tab theta (k * most_places)) ≡ rest t r h e ar T s (known tab theta (k * most_places))
    unfolding us
    is-met w g = same_tests _ _ forth back
      where
        forth : matches ar (literals_in (drop first_minimum into)) T (segment ord k n) (known tab theta (k * most_places)) ≡ true → rest t r h e ar T s (known tab theta (k * most_places)) ≡ true
        forth z =
            let u = some_out (targets ar (literals_in (drop first_minimum into)) T (literal_at x)) _ (sym (step t r h e ar T s (known tab theta (k * most_places))) ∙ z) in
            (bound u.0 u.2).1

        back : rest t r h e ar T s (known tab theta (k * most_places)) ≡ true → matches ar (literals_in (drop first_minimum into)) T (segment ord k n) (known tab theta (k * most_places)) ≡ true
        back z =
            step t r h e ar T s (known tab theta (k * most_places))
            ∙ some_in (targets ar (literals_in (drop first_minimum into)) T (literal_at x)) _ (map (replaced_by theta) (terms_of ar (unpacked (x / 2))))
            (unfold literal_at in (target-complete ar s.search.arities (replaced_by theta) (literals_in (drop first_minimum into)) T (literal_at x) s.search.small terms-inside ((met w).yes g)))
            (ap (λ o. go_on o (rest t r h e ar T s)) (bind-known (terms_of ar (unpacked (x / 2))) (known tab theta (k * most_places)) (replaced_by theta) terms-known) ∙ z)
