-- The search at a literal whose terms are known: it is met, or no match agrees with what is known.
use mathlib.Core.Path.{◌≡◌, refl, sym, ap, subst, ◌∙◌}
use mathlib.Core.Bool.{Bool, true, false, not}
use mathlib.Core.List.{List, Memᴰ}
use Prim.Native.Nat.{ℕ, ◌+◌, ◌-◌, ◌*◌, ◌/◌, ◌≤◌, ◌<◌}
use native.Mathlib.Omega.{arith}
use lib.ListN.{length, get_or, drop}
use Rattle.basics.specs.Tests.{Cmp, cmp, below, equal, above}
use Rattle.label.specs.Limits.{first_variable, variable_count, first_minimum, most_places}
use Rattle.label.specs.Labels.{is_label, place_at, terms_of, unpacked}
use Rattle.cutting.specs.Match.{Partial, start, matches}
use Rattle.cutting.specs.Searchable.{Solves}
use Rattle.paths.specs.Inner.{InRange, literal_at, literals_in}
use Rattle.matcher.specs.Search.{segment, all_known, Met, Setting, Inside}
use Rattle.matcher.specs.Failure.{In, Variables, Agrees, Solving, SolvePost}
use Rattle.matcher.specs.declared.Answer.{Answer}
use Rattle.matcher.specs.declared.Answer.TheVariants.{Failed}
use Rattle.matcher.proofs.TermLaws.{in_place}
use Rattle.matcher.proofs.WayLaws.{untaken, unleft}
use Rattle.matcher.proofs.MeetLaws.{meets}
use Rattle.matcher.proofs.NogoodLaws.{constant-stays, unmet}
use Rattle.matcher.proofs.SolveLaws.{slots_at, label-x}
use Rattle.matcher.proofs.SolveLaws.{none_here, known-early, same_known, known-replacing, is-met}
use Rattle.matcher.proofs.LevelLaws.{failed-post, in-segment}

module _ {ord into tab theta store : List ℕ} {k x bound : ℕ} (g : Solving ord into tab theta store k bound) (h : k ≡ length ord → ⊥) (e : x ≡ get_or ord k 0)
    {b : Bool} (q : b ≡ all_known tab (k * most_places) (x / 2)) (f : b ≡ true) where
  low : k < length ord
  low = omega (arith, g.most, h)

  range : InRange first_minimum (x / 2)
  range = (slots_at g.tabled g.ranged low e).range

  early-in : (i : ℕ) → i < variable_count → (j : ℕ) → j < most_places → place_at (x / 2) j ≡ first_variable + i → In bound i
  early-in i l j p o =
      g.bounds.has i l (subst (λ (v : ℕ). get_or tab v 0 ≤ k * most_places) o (known-early into g.tabled g.ranged g.replacing low e q f j p))

  pub unmet-post : {vars : ℕ} {m : Bool} → Variables (x / 2) most_places vars → Met into theta x m → not m ≡ true → SolvePost ord into tab theta store k bound (Failed vars) theta store
  unmet-post {vars} v w n = failed-post (record { nothing = nothing }) within (λ v p l. refl) g.remembers
    where
      within : (i : ℕ) → In vars i → In bound i
      within i o = let p = v.only i o in early-in i (omega (arith, range.places p.0 p.1, p.2)) p.0 p.1 p.2

      nothing : (ar T : List ℕ) → Setting ar T ord into tab → (z : Solves ar (literals_in (drop first_minimum into)) T (segment ord 0 (length ord)) start)
          → Agrees vars theta first_variable z.σ → ⊥
      nothing ar T s z a =
          unmet ar T ord into tab s (segment ord 0 (length ord)) z x lab member theta same
          ((meets ar T ord into tab s x lab theta (g.replacing.stays 0 (omega arith)) w).no (untaken n))
        where
          lab : is_label ar (x / 2) ≡ true
          lab = label-x g.tabled g.replacing low e ar T s

          member : Memᴰ (literal_at x) (segment ord 0 (length ord))
          member = subst (λ (i : ℕ). Memᴰ (literal_at i) (segment ord 0 (length ord))) (sym e) (in-segment ord (length ord) k k 0 (omega arith) low (omega arith))

          same : (u : ℕ) → Memᴰ u (terms_of ar (unpacked (x / 2))) → z.σ u ≡ get_or theta u 0
          same u m = go (cmp u first_variable)
            where
              place : (j : ℕ) × (j < most_places) × (u ≡ place_at (x / 2) j)
              place = in_place ar (x / 2) s.search.arities u m

              small : u < first_minimum
              small = subst (λ (i : ℕ). i < first_minimum) (sym place.2) (range.places place.0 place.1)

              variable : first_variable ≤ u → z.σ u ≡ get_or theta u 0
              variable l =
                  let o : first_variable + (u - first_variable) ≡ u = omega arith in
                  subst (λ (i : ℕ). z.σ i ≡ get_or theta i 0) o
                  (a (u - first_variable) (omega (arith, small)) (v.has place.0 (u - first_variable) place.1 (sym place.2 ∙ sym o)))

              go : Cmp u first_variable → z.σ u ≡ get_or theta u 0
              go (below c) = constant-stays ar T ord into tab s (segment ord 0 (length ord)) z u c ∙ sym (g.replacing.stays u c)
              go (equal c) = variable (omega arith)
              go (above c) = variable (omega arith)

  pub met_next : Solving ord into tab theta store (k + 1) bound
  met_next = record {
    tabled = g.tabled;
    ranged = g.ranged;
    sorted = g.sorted;
    replacing = known-replacing into g.tabled g.ranged g.replacing low e q f;
    most = omega (arith, low);
    bounds = record {
      early = λ i l o. omega (arith, g.bounds.early i l o);
      has = λ i l o. back i l o (cmp (k * most_places) (get_or tab (first_variable + i) 0));
    };
    remembers = g.remembers;
  }
    where
      back : (i : ℕ) → i < variable_count → get_or tab (first_variable + i) 0 ≤ (k + 1) * most_places → Cmp (k * most_places) (get_or tab (first_variable + i) 0) → In bound i
      back i l o (below c) = absurd (omega (arith, none_here into g.tabled g.ranged g.replacing low e q f (first_variable + i) (omega arith) c))
      back i l o (equal c) = g.bounds.has i l (omega arith)
      back i l o (above c) = g.bounds.has i l (omega arith)

  pub met-post : {m : Bool} {r : Answer} {theta' store' : List ℕ} → Met into theta x m → not m ≡ false
      → SolvePost ord into tab theta store (k + 1) bound r theta' store' → SolvePost ord into tab theta store k bound r theta' store'
  met-post w n z = record {
    found = λ o ar T s i.
        is-met into g.tabled g.ranged g.replacing low e q f ar T s i w (unleft n)
        ∙ ap (λ (τ : Partial). matches ar (literals_in (drop first_minimum into)) T (segment ord (k + 1) (length ord)) τ) (same_known into g.tabled g.ranged g.replacing low e q f)
        ∙ z.found o ar T s (subst (λ (τ : Partial). Inside T τ) (same_known into g.tabled g.ranged g.replacing low e q f) i);
    failed = z.failed;
    within = z.within;
    weary = z.weary;
    kept = λ v p l. z.kept v p (omega arith);
    remembers = z.remembers;
  }
