-- A level of the search: answers with their promises, and what is known at a literal and at the next.
use mathlib.Core.Path.{◌≡◌, refl, sym, ap, subst, ◌∙◌}
use mathlib.Core.Logic.{◌⊎◌, inl, inr}
use mathlib.Core.Bool.{Bool, true, not}
use mathlib.Core.List.{List, Memᴰ}
use Prim.Native.Nat.{ℕ, zero, suc, ◌+◌, ◌-◌, ◌*◌, ◌/◌, ◌≤◌, ◌<◌}
use native.Mathlib.Omega.{arith}
use lib.ListN.{length, get_or, drop}
use lib.Bits.{bit_or}
use Rattle.basics.specs.Tests.{Cmp, cmp, below, equal, above}
use Rattle.basics.specs.Members.{clash}
use Rattle.label.specs.Limits.{first_variable, variable_count, first_minimum, most_places}
use Rattle.label.specs.Labels.{place_at}
use Rattle.paths.specs.Paths.{Literal}
use Rattle.paths.specs.Inner.{literal_at, literals_in}
use Rattle.cutting.specs.Match.{matches}
use Rattle.matcher.specs.Search.{places_in, segment, known, Slots, way_count}
use Rattle.matcher.specs.Failure.{In, Variables, Bound, Nogood, Remembers, RecallPost, is_found, Solving, SolvePost}
use Rattle.matcher.specs.declared.Answer.{Answer}
use Rattle.matcher.specs.declared.Answer.TheVariants.{Found, Failed, Weary}
use Rattle.matcher.proofs.AlongLaws.{along-in}
use Rattle.matcher.proofs.WayLaws.{untaken}
use Rattle.matcher.proofs.MaskLaws.{in_left, in_right, in_either}
use Rattle.matcher.proofs.FailureLaws.{recalled-nogood}
use Rattle.matcher.proofs.SolveLaws.{slots_at, segment-cons, segment-end}

-- ===== Answers =====
failed-is : (p q : ℕ) → Failed p ≡ Failed q → p ≡ q
failed-is p q e = cc

not-failed : {A : Type 0} (q : ℕ) → Found ≡ Failed q → A
not-failed q e = let z : ◌≡◌ {A = ℕ} 0 1 = cc in absurd (omega arith)

not_found : {A : Type 0} (q : ℕ) → Failed q ≡ Found → A
not_found q e = not-failed q (sym e)

not-weary : {A : Type 0} (q : ℕ) → Failed q ≡ Weary → A
not-weary q e = let z : ◌≡◌ {A = ℕ} 0 1 = cc in absurd (omega arith)

found-weary : {A : Type 0} → Found ≡ Weary → A
found-weary e = let z : ◌≡◌ {A = ℕ} 0 1 = cc in absurd (omega arith)

-- a failure with its promise
pub failed-post : {ord into tab theta store theta' store' : List ℕ} {k bound q : ℕ} → Nogood ord into tab q theta first_variable → ((i : ℕ) → In q i → In bound i)
    → ((v : ℕ) → v < first_minimum → get_or tab v 0 ≤ k * most_places → get_or theta' v 0 ≡ get_or theta v 0) → Remembers ord into tab store'
    → SolvePost ord into tab theta store k bound (Failed q) theta' store'
failed-post {ord} {into} {tab} {theta} {q = q} g w k m = record {
  found = λ e. not_found q e;
  failed = λ p e. subst (λ (x : ℕ). Nogood ord into tab x theta first_variable) (failed-is q p e) g;
  within = λ p e i h. w i (subst (λ (x : ℕ). In x i) (sym (failed-is q p e)) h);
  weary = λ e. not-weary q e;
  kept = k;
  remembers = m;
}

pub solve-end : {ord into tab theta store : List ℕ} {k bound : ℕ} → k ≡ length ord → Solving ord into tab theta store k bound
    → SolvePost ord into tab theta store k bound Found theta store
unfolding matches
solve-end {ord} {into} {tab} {theta} {store} {k} {bound} e g = record {
  found = λ z ar T s i.
      ap (λ (qs : List Literal). matches ar (literals_in (drop first_minimum into)) T qs (known tab theta (k * most_places)))
      (ap (λ (m : ℕ). segment ord m (length ord)) e ∙ segment-end ord (length ord));
  failed = λ q z. not-failed q z;
  within = λ q z. not-failed q z;
  weary = λ z. found-weary z;
  kept = λ v h l. refl;
  remembers = g.remembers;
}

-- a failure that was remembered, or too many
pub solve-recalled : {ord into tab theta store : List ℕ} {k bound : ℕ} {r : Answer} {b : Bool} → Solving ord into tab theta store k bound
    → RecallPost theta store bound r → b ≡ is_found r → not b ≡ true → SolvePost ord into tab theta store k bound r theta store
solve-recalled {r = r} g p e f = record {
  found = λ z. clash (e ∙ ap is_found z) (untaken f);
  failed = λ q z. recalled-nogood g.remembers (p.failed q z);
  within = λ q z. (p.failed q z).within;
  weary = p.weary;
  kept = λ v h l. refl;
  remembers = g.remembers;
}

-- ===== Literals =====
pub in-segment : (ord : List ℕ) (n k d m : ℕ) → m + d ≡ k → k < n → n ≤ length ord → Memᴰ (literal_at (get_or ord k 0)) (segment ord m n)
in-segment ord n k zero m e h l =
    let q : k ≡ m = omega arith in
    subst (λ (qs : List Literal). Memᴰ (literal_at (get_or ord k 0)) qs) (sym (segment-cons ord m n (omega arith) l)) (Memᴰ.head (ap (λ (i : ℕ). literal_at (get_or ord i 0)) q))
in-segment ord n k (suc d) m e h l =
    subst (λ (qs : List Literal). Memᴰ (literal_at (get_or ord k 0)) qs) (sym (segment-cons ord m n (omega arith) l))
    (Memᴰ.tail (in-segment ord n k d (m + 1) (omega arith) h l))

-- what a level has: literal k is x, its variables and the number of its ways
pub record Level (ord into tab theta store : List ℕ) (k x bound vars total : ℕ) : Type 0 where
  pub solving : Solving ord into tab theta store k bound
  pub low : k < length ord
  pub is : x ≡ get_or ord k 0
  pub variables : Variables (x / 2) most_places vars
  pub count : total ≡ way_count into x

module _ {ord into tab theta store : List ℕ} {k x bound vars total : ℕ} (y : Level ord into tab theta store k x bound vars total) where
  pub level_in : Memᴰ (literal_at x) (segment ord 0 (length ord))
  level_in =
      subst (λ (i : ℕ). Memᴰ (literal_at i) (segment ord 0 (length ord))) (sym y.is) (in-segment ord (length ord) k k 0 (omega arith) y.low (omega arith))

  pub level-slots : Slots tab (k * most_places) (x / 2)
  level-slots = slots_at y.solving.tabled y.solving.ranged y.low y.is

  -- what is known at the next level
  pub level-bound : Bound tab (bit_or bound vars) ((k + 1) * most_places)
  level-bound = record { early = early; has = λ i h l. has i h l (cmp (get_or tab (first_variable + i) 0) (k * most_places + 1)) }
    where
      early : (i : ℕ) → i < variable_count → In (bit_or bound vars) i → get_or tab (first_variable + i) 0 ≤ (k + 1) * most_places
      early i h o = go (in_either i bound vars o)
        where
          go : In bound i ⊎ In vars i → get_or tab (first_variable + i) 0 ≤ (k + 1) * most_places
          go (inl q) = omega (arith, y.solving.bounds.early i h q)
          go (inr q) =
              let w = y.variables.only i q in
              subst (λ (v : ℕ). get_or tab v 0 ≤ (k + 1) * most_places) w.2 (omega (arith, level-slots.seen w.0 w.1, w.1))

      here : (i : ℕ) → i < variable_count → k * most_places < get_or tab (first_variable + i) 0 → get_or tab (first_variable + i) 0 ≤ (k + 1) * most_places → In (bit_or bound vars) i
      here i h l m =
          in_right i bound vars (y.variables.has (get_or tab (first_variable + i) 0 - k * most_places - 1) i (omega arith)
          (sym (level-slots.only (get_or tab (first_variable + i) 0 - k * most_places - 1) (first_variable + i) (omega arith) (omega arith) (omega arith))))

      has : (i : ℕ) → i < variable_count → get_or tab (first_variable + i) 0 ≤ (k + 1) * most_places → Cmp (get_or tab (first_variable + i) 0) (k * most_places + 1) → In (bit_or bound vars) i
      has i h l (below c) = in_left i bound vars (y.solving.bounds.has i h (omega arith))
      has i h l (equal c) = here i h (omega arith) l
      has i h l (above c) = here i h (omega arith) l

  -- a variable that comes first here is one of the literal's terms
  pub level-here : (i : ℕ) → i < variable_count → k * most_places < get_or tab (first_variable + i) 0 → get_or tab (first_variable + i) 0 ≤ (k + 1) * most_places
      → Memᴰ (first_variable + i) (places_in (x / 2))
  level-here i h l m =
      let w = level-slots.only (get_or tab (first_variable + i) 0 - k * most_places - 1) (first_variable + i) (omega arith) (omega arith) (omega arith) in
      subst (λ (v : ℕ). Memᴰ v (places_in (x / 2))) (sym w) (along-in (place_at (x / 2)) most_places (get_or tab (first_variable + i) 0 - k * most_places - 1) (omega arith))
