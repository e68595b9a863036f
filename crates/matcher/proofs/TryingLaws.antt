-- The search keeps what it says: a match is one of the definition's search, and a failure depends on its mask alone.
use mathlib.Core.Path.{◌≡◌, refl, sym, ap, subst, ◌∙◌}
use mathlib.Core.Logic.{◌⊎◌, inl, inr, ⊎_elim}
use mathlib.Core.Bool.{Bool, true, false}
use mathlib.Core.List.{List, map, Memᴰ}
use mathlib.Core.Option.{some}
use Prim.Native.Nat.{ℕ, ◌+◌, ◌-◌, ◌*◌, ◌/◌, ◌≤◌, ◌<◌}
use native.Mathlib.Omega.{arith}
use lib.ListN.{length, get_or, drop}
use lib.Bits.{bit_and, bit_or}
use Rattle.basics.specs.Tests.{Cmp, cmp, below, equal, above}
use Rattle.basics.specs.Members.{clash}
use Rattle.label.specs.Limits.{first_variable, variable_count, first_minimum, most_places}
use Rattle.label.specs.Labels.{place_at}
use Rattle.paths.specs.Inner.{literals_in}
use Rattle.cutting.specs.Match.{Partial, start, bind_terms, go_on, matches}
use Rattle.cutting.specs.Searchable.{Solves}
use Rattle.matcher.specs.Search.{places_in, segment, known, Replacing, way_place, way_places, is_nothing, BindPost, TryPost, no_way, a-way, way_at, way_count, Tabled, Setting, Inside}
use Rattle.matcher.specs.Failure.{In, Variables, Agrees, Nogood, Remembers, RememberPost, mask_of, HandedUp, Solving, SolvePost}
use Rattle.matcher.specs.declared.Way.{Way}
use Rattle.matcher.specs.declared.Answer.{Answer}
use Rattle.matcher.specs.declared.Answer.TheVariants.{Found, Failed}
use Rattle.matcher.proofs.AlongLaws.{none-some, along-of}
use Rattle.matcher.proofs.BindLaws.{known_some, known-none, known_same}
use Rattle.matcher.proofs.TargetLaws.{way-view}
use Rattle.matcher.proofs.MaskLaws.{in_left, in_right, in_either, in_both, in-second}
use Rattle.matcher.proofs.FailureLaws.{nogood-same, remembers-more}
use Rattle.matcher.proofs.NogoodLaws.{or_of, map_at, bound-images, misfit, Takes, takes-list, constant-stays, taken, taken_is}
use Rattle.matcher.proofs.SolveLaws.{some_inj, bind-values, label-x, way-hits, inside-after, view-terms}
use Rattle.matcher.proofs.LevelLaws.{failed-post, Level, level_in, level-slots, level-bound, level-here}

-- theta now, and no match that has the words of theta on the mask takes literal x by a way before j
pub record Trying (ord into tab theta store : List ℕ) (k x bound vars total : ℕ) (theta' store' : List ℕ) (mask j : ℕ) : Type 0 where
  pub level : Level ord into tab theta store k x bound vars total
  pub kept : (v : ℕ) → v < first_minimum → get_or tab v 0 ≤ k * most_places → get_or theta' v 0 ≡ get_or theta v 0
  pub length-kept : length theta' ≡ length theta
  pub store_kept : length store' ≡ length store
  pub within : (i : ℕ) → In mask i → In bound i
  pub old : (i : ℕ) → In vars i → In bound i → In mask i
  pub remembers : Remembers ord into tab store'
  pub failed : (i : ℕ) → i < j → (ar T : List ℕ) → Setting ar T ord into tab → (z : Solves ar (literals_in (drop first_minimum into)) T (segment ord 0 (length ord)) start)
      → Agrees mask theta first_variable z.σ → is_nothing (way_at into tab x i) ≡ false → Takes z.σ (x / 2) (way_at into tab x i) → ⊥

pub trying_start : {ord into tab theta store : List ℕ} {k x bound vars total : ℕ} → Solving ord into tab theta store k bound → (k ≡ length ord → ⊥)
    → x ≡ get_or ord k 0 → Variables (x / 2) most_places vars → total ≡ way_count into x
    → Trying ord into tab theta store k x bound vars total theta store (bit_and vars bound) 0
trying_start {k = k} {bound = bound} {vars = vars} g f e v c = record {
  level = record { solving = g; low = omega (arith, g.most, f); is = e; variables = v; count = c };
  kept = λ v h l. refl;
  length-kept = refl;
  store_kept = refl;
  within = λ i h. in-second i vars bound h;
  old = λ i h b. in_both i vars bound h b;
  remembers = g.remembers;
  failed = λ i h. absurd (omega arith);
}

module _ {ord into tab theta store : List ℕ} {k x bound vars total : ℕ} {theta' store' : List ℕ} {mask j : ℕ}
    (y : Trying ord into tab theta store k x bound vars total theta' store' mask j) where
  tabled : Tabled ord tab (length ord)
  tabled = y.level.solving.tabled

  replacing : Replacing tab theta (k * most_places)
  replacing = y.level.solving.replacing

  now-known : known tab theta' (k * most_places) ≡ known tab theta (k * most_places)
  now-known = sym (known_same tab theta theta' (k * most_places) (k * most_places) (omega arith) y.kept (λ v p q. q))

  pub trying-room : first_minimum ≤ length theta'
  trying-room = omega (arith, y.length-kept, replacing.room)

  all-failed : total ≤ j → Nogood ord into tab mask theta first_variable
  all-failed l = record {
    nothing = λ ar T s z a.
        let lab = label-x tabled replacing y.level.low y.level.is ar T s in
        let w = taken ar T ord into tab s (segment ord 0 (length ord)) z x lab (level_in y.level) in
        y.failed w.place (omega (arith, w.counted, y.level.count)) ar T s z a (ap is_nothing w.is ∙ w.some-way)
        (subst (Takes z.σ (x / 2)) (sym w.is) (taken_is ar T ord into tab s (segment ord 0 (length ord)) z x lab (level_in y.level) w));
  }

  now-failed : total ≤ j → Nogood ord into tab mask theta' first_variable
  now-failed l = nogood-same (all-failed l) (λ i h o. y.kept (first_variable + i) (omega arith) (y.level.solving.bounds.early i h (y.within i o)))

  pub trying-end : {store₂ : List ℕ} → total ≤ j → RememberPost theta' store' mask store₂ → length store₂ ≡ length store'
      → SolvePost ord into tab theta store k bound (Failed mask) theta' store₂
  trying-end l p e = failed-post (all-failed l) y.within y.kept (remembers-more y.remembers (now-failed l) e p)

  -- a match that agrees on the mask agrees with what is known of the literal's terms
  agrees-old : (ar T : List ℕ) (s : Setting ar T ord into tab) (z : Solves ar (literals_in (drop first_minimum into)) T (segment ord 0 (length ord)) start)
      → Agrees mask theta first_variable z.σ → (u w : ℕ) → Memᴰ u (places_in (x / 2)) → known tab theta' (k * most_places) u ≡ some w → z.σ u ≡ w
  agrees-old ar T s z a u w m e = go (cmp u first_variable) (cmp (get_or tab u 0) (k * most_places + 1))
    where
      place : (j : ℕ) × (j < most_places) × (u ≡ place_at (x / 2) j)
      place = along-of (place_at (x / 2)) most_places u m

      small : u < first_minimum
      small = subst (λ (i : ℕ). i < first_minimum) (sym place.2) ((level-slots y.level).range.places place.0 place.1)

      word : get_or tab u 0 ≤ k * most_places → get_or theta u 0 ≡ w
      word l = sym (y.kept u small l) ∙ some_inj _ _ (sym (known_some tab theta' (k * most_places) u small l) ∙ e)

      variable : first_variable ≤ u → get_or tab u 0 ≤ k * most_places → z.σ u ≡ w
      variable l o =
          let q : first_variable + (u - first_variable) ≡ u = omega arith in
          let b = y.level.solving.bounds.has (u - first_variable) (omega (arith, small)) (subst (λ (i : ℕ). get_or tab i 0 ≤ k * most_places) (sym q) o) in
          let v = y.level.variables.has place.0 (u - first_variable) place.1 (sym place.2 ∙ sym q) in
          subst (λ (i : ℕ). z.σ i ≡ get_or theta i 0) q (a (u - first_variable) (omega (arith, small)) (y.old (u - first_variable) v b)) ∙ word o

      late : k * most_places < get_or tab u 0 → z.σ u ≡ w
      late o = none-some w (sym (known-none tab theta' (k * most_places) u small o) ∙ e)

      go : Cmp u first_variable → Cmp (get_or tab u 0) (k * most_places + 1) → z.σ u ≡ w
      go (below p) c =
          constant-stays ar T ord into tab s (segment ord 0 (length ord)) z u p ∙ sym (replacing.stays u p) ∙ word (omega (arith, tabled.fixed u p))
      go (equal p) (below c) = variable (omega arith) (omega arith)
      go (above p) (below c) = variable (omega arith) (omega arith)
      go (equal p) (equal c) = late (omega arith)
      go (equal p) (above c) = late (omega arith)
      go (above p) (equal c) = late (omega arith)
      go (above p) (above c) = late (omega arith)

  module _ (l : j < total) {b : Bool} {theta₁ : List ℕ} (p : TryPost tab theta' (k * most_places) x b theta₁ (way_at into tab x j)) (len : length theta₁ ≡ length theta') where
    j-less : j < way_count into x
    j-less = omega (arith, y.level.count)

    try-kept : (w : Way) → TryPost tab theta' (k * most_places) x b theta₁ w → (v : ℕ) → v < first_minimum → get_or tab v 0 ≤ k * most_places → get_or theta₁ v 0 ≡ get_or theta' v 0
    try-kept w (no_way n f g) v q z = ap (λ (th : List ℕ). get_or th v 0) g
    try-kept w (a-way n f) v q z = f.kept v q z

    kept_on : (v : ℕ) → v < first_minimum → get_or tab v 0 ≤ k * most_places → get_or theta₁ v 0 ≡ get_or theta v 0
    kept_on v q z = try-kept (way_at into tab x j) p v q z ∙ y.kept v q z

    -- the way does not fit
    pub trying-misfit : b ≡ false → Trying ord into tab theta store k x bound vars total theta₁ store' mask (j + 1)
    trying-misfit f = record {
      level = y.level;
      kept = kept_on;
      length-kept = len ∙ y.length-kept;
      store_kept = y.store_kept;
      within = y.within;
      old = y.old;
      remembers = y.remembers;
      failed = λ i q. more i q (cmp i j);
    }
      where
        miss : (ar T : List ℕ) (s : Setting ar T ord into tab) (z : Solves ar (literals_in (drop first_minimum into)) T (segment ord 0 (length ord)) start)
            → Agrees mask theta first_variable z.σ → TryPost tab theta' (k * most_places) x b theta₁ (way_at into tab x j)
            → is_nothing (way_at into tab x j) ≡ false → Takes z.σ (x / 2) (way_at into tab x j) → ⊥
        miss ar T s z ag (no_way n g o) q e = clash n q
        miss ar T s z ag (a-way n g) q e =
            misfit (known tab theta' (k * most_places)) z.σ (places_in (x / 2)) (way_places (way_at into tab x j)) (g.no f) (takes-list z.σ (x / 2) (way_at into tab x j) e)
            (agrees-old ar T s z ag)

        more : (i : ℕ) → i < j + 1 → Cmp i j → (ar T : List ℕ) → Setting ar T ord into tab
            → (z : Solves ar (literals_in (drop first_minimum into)) T (segment ord 0 (length ord)) start) → Agrees mask theta first_variable z.σ
            → is_nothing (way_at into tab x i) ≡ false → Takes z.σ (x / 2) (way_at into tab x i) → ⊥
        more i q (below o) = y.failed i o
        more i q (equal o) = λ ar T s z ag n e.
            miss ar T s z ag p (ap (λ (a : ℕ). is_nothing (way_at into tab x a)) (sym o) ∙ n) (subst (λ (a : ℕ). Takes z.σ (x / 2) (way_at into tab x a)) o e)
        more i q (above o) = absurd (omega arith)

    module _ (f : b ≡ true) where
      -- what the way binds
      is-way : is_nothing (way_at into tab x j) ≡ false
      is-way = go p
        where
          go : TryPost tab theta' (k * most_places) x b theta₁ (way_at into tab x j) → is_nothing (way_at into tab x j) ≡ false
          go (no_way n g z) = clash f g
          go (a-way n g) = n

      binds : BindPost tab theta' (k * most_places) (x / 2) (way_at into tab x j) b theta₁
      binds = go p
        where
          go : TryPost tab theta' (k * most_places) x b theta₁ (way_at into tab x j) → BindPost tab theta' (k * most_places) (x / 2) (way_at into tab x j) b theta₁
          go (no_way n g z) = clash f g
          go (a-way n g) = g

      fits : bind_terms (known tab theta (k * most_places)) (places_in (x / 2)) (way_places (way_at into tab x j)) ≡ some (known tab theta₁ ((k + 1) * most_places))
      fits =
          let i : k * most_places + most_places ≡ (k + 1) * most_places = omega arith in
          ap (λ (τ : Partial). bind_terms τ (places_in (x / 2)) (way_places (way_at into tab x j))) (sym now-known) ∙ binds.yes f
          ∙ ap (λ (o : ℕ). some (known tab theta₁ o)) i

      new-terms : (v : ℕ) → v < first_minimum → get_or tab v 0 ≤ (k + 1) * most_places → get_or theta₁ v 0 < first_minimum
      new-terms v q u =
          go (bind-values (places_in (x / 2)) (way_places (way_at into tab x j)) (known tab theta (k * most_places)) (known tab theta₁ ((k + 1) * most_places)) fits
          v (get_or theta₁ v 0) (known_some tab theta₁ ((k + 1) * most_places) v q u))
        where
          old : Cmp (get_or tab v 0) (k * most_places + 1) → known tab theta (k * most_places) v ≡ some (get_or theta₁ v 0) → get_or theta₁ v 0 < first_minimum
          old (below c) z =
              let m : get_or theta v 0 ≡ get_or theta₁ v 0 = some_inj _ _ (sym (known_some tab theta (k * most_places) v q (omega arith)) ∙ z) in
              omega (arith, replacing.terms v q (omega arith))
          old (equal c) z = none-some _ (sym (known-none tab theta (k * most_places) v q (omega arith)) ∙ z)
          old (above c) z = none-some _ (sym (known-none tab theta (k * most_places) v q (omega arith)) ∙ z)

          go : (known tab theta (k * most_places) v ≡ some (get_or theta₁ v 0)) ⊎ Memᴰ (get_or theta₁ v 0) (way_places (way_at into tab x j)) → get_or theta₁ v 0 < first_minimum
          go (inl z) = old (cmp (get_or tab v 0) (k * most_places + 1)) z
          go (inr m) =
              let r = along-of (way_place (way_at into tab x j)) most_places (get_or theta₁ v 0) m in
              omega (arith, view-terms y.level.solving.sorted (way-view into tab x j j-less) r.0 r.1, r.2)

      pub trying-next : Solving ord into tab theta₁ store' (k + 1) (bit_or bound vars)
      trying-next = record {
        tabled = tabled;
        ranged = y.level.solving.ranged;
        sorted = y.level.solving.sorted;
        replacing = record {
          room = omega (arith, len, y.length-kept, replacing.room);
          stays = λ v q. kept_on v (omega arith) (omega (arith, tabled.fixed v q)) ∙ replacing.stays v q;
          terms = new-terms;
        };
        most = omega (arith, y.level.low);
        bounds = level-bound y.level;
        remembers = y.remembers;
      }

      module _ {r : Answer} {theta₂ store₂ : List ℕ} (z : SolvePost ord into tab theta₁ store' (k + 1) (bit_or bound vars) r theta₂ store₂) where
        kept₂ : (v : ℕ) → v < first_minimum → get_or tab v 0 ≤ k * most_places → get_or theta₂ v 0 ≡ get_or theta v 0
        kept₂ v q u = z.kept v q (omega arith) ∙ kept_on v q u

        hit : r ≡ Found → (ar T : List ℕ) (s : Setting ar T ord into tab) → Inside T (known tab theta (k * most_places))
            → matches ar (literals_in (drop first_minimum into)) T (segment ord k (length ord)) (known tab theta (k * most_places)) ≡ true
        hit g ar T s ins =
            way-hits tabled replacing y.level.low y.level.is ar T s j (way_at into tab x j) j-less refl is-way
            (ap (λ u. go_on u (λ τ. matches ar (literals_in (drop first_minimum into)) T (segment ord (k + 1) (length ord)) τ)) fits
            ∙ z.found g ar T s (inside-after tabled replacing y.level.low y.level.is ar T s j (way_at into tab x j) j-less refl is-way ins
            (known tab theta₁ ((k + 1) * most_places)) fits))

        -- the answer is handed up: a failure depends on nothing that was bound here
        pub trying-up : {g : Bool} → HandedUp r bound g → g ≡ true → SolvePost ord into tab theta store k bound r theta₂ store₂
        trying-up u g = record {
          found = hit;
          failed = λ q e. nogood-same (z.failed q e)
              (λ i h o. sym (kept_on (first_variable + i) (omega arith) (y.level.solving.bounds.early i h (u.yes g q e i o))));
          within = λ q e. u.yes g q e;
          weary = λ e. omega (arith, z.weary e, y.store_kept);
          kept = kept₂;
          remembers = z.remembers;
        }

        -- the failure depends on what was bound here: the next way
        pub trying-failed : {g : Bool} {q : ℕ} → HandedUp r bound g → g ≡ false → q ≡ mask_of r → length theta₂ ≡ length theta₁ → length store₂ ≡ length store'
            → Trying ord into tab theta store k x bound vars total theta₂ store₂ (bit_or mask (bit_and q bound)) (j + 1)
        trying-failed {g} {q} u g₁ e l₂ l₃ = record {
          level = y.level;
          kept = kept₂;
          length-kept = l₂ ∙ len ∙ y.length-kept;
          store_kept = l₃ ∙ y.store_kept;
          within = λ i h. ⊎_elim (λ (o : In mask i). y.within i o) (λ (o : In (bit_and q bound) i). in-second i q bound o) (in_either i mask (bit_and q bound) h);
          old = λ i h o. in_left i mask (bit_and q bound) (y.old i h o);
          remembers = z.remembers;
          failed = λ i h. more i h (cmp i j);
        }
          where
            is-q : r ≡ Failed q
            is-q = u.no g₁ ∙ ap Failed (sym e)

            late : (i : ℕ) → i < variable_count → In q i → get_or tab (first_variable + i) 0 ≤ (k + 1) * most_places
            late i h o = (level-bound y.level).early i h (z.within q is-q i o)

            here : (ar T : List ℕ) (s : Setting ar T ord into tab) (zs : Solves ar (literals_in (drop first_minimum into)) T (segment ord 0 (length ord)) start)
                → Agrees (bit_or mask (bit_and q bound)) theta first_variable zs.σ → Takes zs.σ (x / 2) (way_at into tab x j) → ⊥
            here ar T s zs ag m = (z.failed q is-q).nothing ar T s zs (λ i h o. word i h o (cmp (get_or tab (first_variable + i) 0) (k * most_places + 1)))
              where
                images : map zs.σ (places_in (x / 2)) ≡ map (λ i. or_of (known tab theta₁ (k * most_places + most_places) i) i) (places_in (x / 2))
                images =
                    takes-list zs.σ (x / 2) (way_at into tab x j) m
                    ∙ sym (bound-images (known tab theta' (k * most_places)) (known tab theta₁ (k * most_places + most_places)) (places_in (x / 2)) (way_places (way_at into tab x j)) (binds.yes f))

                new : (i : ℕ) → i < variable_count → In q i → k * most_places < get_or tab (first_variable + i) 0 → zs.σ (first_variable + i) ≡ get_or theta₁ (first_variable + i) 0
                new i h o n =
                    let c = late i h o in
                    map_at zs.σ (λ i. or_of (known tab theta₁ (k * most_places + most_places) i) i) (places_in (x / 2)) images (first_variable + i) (level-here y.level i h n c)
                    ∙ ap (λ r. or_of r (first_variable + i)) (known_some tab theta₁ (k * most_places + most_places) (first_variable + i) (omega arith) (omega arith))

                word : (i : ℕ) → i < variable_count → In q i → Cmp (get_or tab (first_variable + i) 0) (k * most_places + 1) → zs.σ (first_variable + i) ≡ get_or theta₁ (first_variable + i) 0
                word i h o (below n) =
                    let c : get_or tab (first_variable + i) 0 ≤ k * most_places = omega arith in
                    ag i h (in_right i mask (bit_and q bound) (in_both i q bound o (y.level.solving.bounds.has i h c))) ∙ sym (kept_on (first_variable + i) (omega arith) c)
                word i h o (equal n) = new i h o (omega arith)
                word i h o (above n) = new i h o (omega arith)

            more : (i : ℕ) → i < j + 1 → Cmp i j → (ar T : List ℕ) → Setting ar T ord into tab
                → (zs : Solves ar (literals_in (drop first_minimum into)) T (segment ord 0 (length ord)) start) → Agrees (bit_or mask (bit_and q bound)) theta first_variable zs.σ
                → is_nothing (way_at into tab x i) ≡ false → Takes zs.σ (x / 2) (way_at into tab x i) → ⊥
            more i h (below o) = λ ar T s zs ag. y.failed i o ar T s zs (λ v g m. ag v g (in_left v mask (bit_and q bound) m))
            more i h (equal o) = λ ar T s zs ag n m. here ar T s zs ag (subst (λ (a : ℕ). Takes zs.σ (x / 2) (way_at into tab x a)) o m)
            more i h (above o) = absurd (omega arith)
