-- A search from the start over two stored paths answers whether one covers the other.
use mathlib.Core.Path.{◌≡◌, refl, sym, ap, ap₂, subst, ◌∙◌, fun_ext}
use mathlib.Core.Logic.{◌⊎◌, inl, inr}
use mathlib.Core.Bool.{Bool, true, false, cond}
use mathlib.Core.List.Memᴰ
use mathlib.Core.List.{List, [], ◌∷◌, ◌++◌, Memᴰ}
use mathlib.Core.Option.{some, none}
use Prim.Native.Nat.{ℕ, ◌+◌, ◌-◌, ◌*◌, ◌≤◌, ◌<◌}
use native.Mathlib.Omega.{arith}
use lib.ListN.{length, get_or, drop, replicate, length-replicate, get_or-replicate}
use lib.Seq.{take_all}
use borrow.Author.Tests.{lt-ltb, le-ltb, le-leb, lt-leb}
use Rattle.basics.specs.Tests.{Cmp, cmp, below, equal, above, Flag, is_true, is_false, flag}
use Rattle.basics.specs.Members.{clash}
use Rattle.label.specs.Limits.{first_variable, first_minimum, most_places}
use Rattle.label.specs.Terms.{is_variable}
use Rattle.label.specs.Labels.{are_arities, unpacked, terms_of}
use Rattle.paths.specs.Paths.{Literal, Path, literals, terms_in}
use Rattle.paths.specs.Inner.{literals_in}
use Rattle.cutting.specs.Match.{Partial, start, matches}
use Rattle.cutting.specs.Cut.{covers}
use Rattle.cutting.specs.Searchable.{Searchable}
use Rattle.cutting.proofs.MatchLaws.{in-terms, matches-sound, matches-order}
use Rattle.cutting.specs.Searchable.{PathLabels}
use Rattle.cutting.proofs.CoverLaws.{searchable}
use Rattle.matcher.specs.Stored.{Marks, Ready, PartPost}
use Rattle.matcher.specs.Search.{segment, known, Replacing, Tabled, Setting, Inside, Unplaced, Placing}
use Rattle.matcher.specs.Failure.{store_words, row_of, Remembers, is_found, is_weary, Solving, SolvePost, Decidable, Decided}
use Rattle.matcher.specs.declared.Answer.{Answer}
use Rattle.matcher.specs.declared.Answer.TheVariants.{Found, Failed, Weary}
use Rattle.matcher.proofs.MaskLaws.{zero-none}
use Rattle.matcher.proofs.SolveLaws.{replacing-kept}
use Rattle.matcher.proofs.BindLaws.{known_some, known-none, known_past}

-- a term of literals is one of a literal
pub of-terms : (ar : List ℕ) (ls : List Literal) (t : ℕ) → Memᴰ t (terms_in ar ls) → (l : Literal) × Memᴰ l ls × Memᴰ t (terms_of ar (unpacked l.label))
unfolding terms_in
of-terms ar [] t m = absurd (Memᴰ.not-nil m)
of-terms ar (l ∷ ls) t m = go (Memᴰ.append_cases (terms_of ar (unpacked l.label)) m) (of-terms ar ls t)
  where
    go : Memᴰ t (terms_of ar (unpacked l.label)) ⊎ Memᴰ t (terms_in ar ls)
        → (Memᴰ t (terms_in ar ls) → (k : Literal) × Memᴰ k ls × Memᴰ t (terms_of ar (unpacked k.label)))
        → (k : Literal) × Memᴰ k (l ∷ ls) × Memᴰ t (terms_of ar (unpacked k.label))
    go (inl n) rec = (l, Memᴰ.head refl, n)
    go (inr n) rec = let r = rec n in (r.0, Memᴰ.tail r.1, r.2)

-- at the start only what is no variable is known
pub variable-not : (t : ℕ) → t < first_variable → is_variable t ≡ false
unfolding is_variable
variable-not t h = rw (lt-leb first_variable t h)

variable-is : (t : ℕ) → first_variable ≤ t → t < first_minimum → is_variable t ≡ true
unfolding is_variable
variable-is t h k = rw (le-leb first_variable t h, lt-ltb t first_minimum k)

variable-past : (t : ℕ) → first_minimum ≤ t → is_variable t ≡ false
unfolding is_variable
variable-past t h = rw (le-leb first_variable t (omega arith), le-ltb t first_minimum h)

module _ {ord tab theta : List ℕ} {n : ℕ} (t : Tabled ord tab n) (r : Replacing tab theta 0) where
  pub known_start : known tab theta 0 ≡ start
  unfolding start
  known_start = fun_ext (λ v. go v (cmp v first_variable) (cmp v first_minimum))
    where
      past : (v : ℕ) → first_minimum ≤ v → known tab theta 0 v ≡ cond (is_variable v) none (some v)
      past v q = known_past tab theta 0 v q ∙ sym (ap (λ (b : Bool). cond b none (some v)) (variable-past v q))

      free : (v : ℕ) → first_variable ≤ v → v < first_minimum → known tab theta 0 v ≡ cond (is_variable v) none (some v)
      free v p q = known-none tab theta 0 v q (t.free v p q) ∙ sym (ap (λ (b : Bool). cond b none (some v)) (variable-is v p q))

      go : (v : ℕ) → Cmp v first_variable → Cmp v first_minimum → known tab theta 0 v ≡ cond (is_variable v) none (some v)
      go v (below p) c = known_some tab theta 0 v (omega arith) (omega (arith, t.fixed v p)) ∙ ap some (r.stays v p) ∙ sym (ap (λ (b : Bool). cond b none (some v)) (variable-not v p))
      go v (equal p) (below q) = free v (omega arith) q
      go v (equal p) (equal q) = past v (omega arith)
      go v (equal p) (above q) = past v (omega arith)
      go v (above p) (below q) = free v (omega arith) q
      go v (above p) (equal q) = past v (omega arith)
      go v (above p) (above q) = past v (omega arith)

  none_inside : (T : List ℕ) → Inside T (known tab theta 0)
  none_inside T = record { each = λ v w a b e. absurd (clashes (sym (known-none tab theta 0 v b (t.free v a b)) ∙ e)) }
    where
      clashes : {w : ℕ} → none ≡ some w → ⊥
      clashes e = let z : ◌≡◌ {A = ℕ} 0 1 = cc in omega arith

segment-all : (ord : List ℕ) → segment ord 0 (length ord) ≡ literals_in ord
unfolding segment
segment-all ord = ap literals_in (take_all (length ord - 0) ord (omega arith))

-- ===== The whole search =====
pub remembers-empty : {ord into tab : List ℕ} (m : ℕ) → 0 < m → Remembers ord into tab (replicate m 0)
remembers-empty m h = record {
  some = omega (arith, length-replicate {A = ℕ} m 0);
  each = λ l i b u. absurd (omega (arith, u, get_or-replicate {A = ℕ} m (row_of i) 0 0 (omega (arith, length-replicate {A = ℕ} m 0))));
}

module _ {ord into tab theta : List ℕ} (g : Decidable ord into tab theta) where
  pub decide-start : {store : List ℕ} → Remembers ord into tab store → Solving ord into tab theta store 0 0
  decide-start m = record {
    tabled = g.tabled;
    ranged = g.ranged;
    sorted = g.sorted;
    replacing = g.replacing;
    most = omega arith;
    bounds = record { early = λ i h o. absurd (zero-none i o); has = λ i h o. absurd (omega (arith, g.tabled.free (first_variable + i) (omega arith) (omega arith))) };
    remembers = m;
  }

  module _ {store : List ℕ} {r : Answer} {theta' store' : List ℕ} (s : SolvePost ord into tab theta store 0 0 r theta' store') where
    -- where too much failed, the search begins again
    pub decide-again : length theta' ≡ length theta → Decidable ord into tab theta'
    decide-again l = record { tabled = g.tabled; ranged = g.ranged; sorted = g.sorted; replacing = replacing-kept g.tabled.fixed g.replacing l s.kept }

    pub decided : {b : Bool} → (r ≡ Weary → ⊥) → b ≡ is_found r → Decided ord into tab b theta'
    decided {b} f e = record {
      answer = λ ar T z. go ar T z r refl;
      stays = λ v h. s.kept v (omega arith) (omega (arith, g.tabled.fixed v h)) ∙ g.replacing.stays v h;
    }
      where
        all : (ar T : List ℕ) → matches ar (literals_in (drop first_minimum into)) T (segment ord 0 (length ord)) (known tab theta 0)
            ≡ matches ar (literals_in (drop first_minimum into)) T (literals_in ord) start
        all ar T = ap₂ (λ (qs : List Literal) (τ : Partial). matches ar (literals_in (drop first_minimum into)) T qs τ) (segment-all ord) (known_start g.tabled g.replacing)

        fails : (ar T : List ℕ) → Setting ar T ord into tab → (q : ℕ) → r ≡ Failed q → matches ar (literals_in (drop first_minimum into)) T (literals_in ord) start ≡ false
        fails ar T z q o = at (flag (matches ar (literals_in (drop first_minimum into)) T (literals_in ord) start))
          where
            at : Flag (matches ar (literals_in (drop first_minimum into)) T (literals_in ord) start) → matches ar (literals_in (drop first_minimum into)) T (literals_in ord) start ≡ false
            at (is_false w) = w
            at (is_true w) =
                absurd ((s.failed q o).nothing ar T z
                (matches-sound ar (literals_in (drop first_minimum into)) T z.search (segment ord 0 (length ord)) start
                (ap (λ (qs : List Literal). matches ar (literals_in (drop first_minimum into)) T qs start) (segment-all ord) ∙ w))
                (λ i h u. absurd (zero-none i (s.within q o i u))))

        go : (ar T : List ℕ) → Setting ar T ord into tab → (a : Answer) → r ≡ a → b ≡ matches ar (literals_in (drop first_minimum into)) T (literals_in ord) start
        go ar T z Found o = e ∙ ap is_found o ∙ sym (s.found o ar T z (none_inside g.tabled g.replacing T)) ∙ all ar T
        go ar T z (Failed q) o = e ∙ ap is_found o ∙ sym (fails ar T z q o)
        go ar T z Weary o = absurd (f o)

-- a search with rows is not given up
pub decided-long : {ord into tab theta theta' store' : List ℕ} {r : Answer} {b : Bool} (m : ℕ) → store_words ≤ m → Decidable ord into tab theta
    → SolvePost ord into tab theta (replicate m 0) 0 0 r theta' store' → b ≡ is_found r → Decided ord into tab b theta'
decided-long m h g s e = decided g s (λ z. omega (arith, s.weary z, length-replicate {A = ℕ} m 0)) e

pub unweary : {r : Answer} {b : Bool} → b ≡ is_weary r → b ≡ false → r ≡ Weary → ⊥
unweary e f z = clash (e ∙ ap is_weary z) f

-- ===== match_part =====
module _ {ord into tab theta : List ℕ} (g : Ready ord into tab theta) {tab₁ tab₂ : List ℕ} (u : Unplaced tab₁) (k : (v : ℕ) → first_minimum ≤ v → get_or tab₁ v 0 ≡ get_or tab v 0)
    (l : length tab₁ ≡ length tab) (p : Placing ord tab₁ tab₂ (length ord * most_places)) where
  part-tabled : Tabled ord tab₂ (length ord)
  part-tabled = record {
    room = omega arith;
    few = g.few;
    tab-room = omega (arith, g.tab-room, p.length-kept);
    fixed = p.fixed;
    free = p.free;
    seen = p.seen;
    only = p.only;
  }

  part-replacing : Replacing tab₂ theta 0
  part-replacing = record { room = g.theta-room; stays = g.stays; terms = λ v h z. low v h z (cmp v first_variable) }
    where
      low : (v : ℕ) → v < first_minimum → get_or tab₂ v 0 ≤ 0 → Cmp v first_variable → get_or theta v 0 < first_minimum
      low v h z (below c) = omega (arith, g.stays v c)
      low v h z (equal c) = absurd (omega (arith, p.free v (omega arith) h))
      low v h z (above c) = absurd (omega (arith, p.free v (omega arith) h))

  pub part-decidable : Decidable ord into tab₂ theta
  part-decidable = record { tabled = part-tabled; ranged = g.ranged; sorted = g.sorted; replacing = part-replacing }

  module _ {theta' : List ℕ} {r : Bool} (s : Decided ord into tab₂ r theta') where
    same : (t : ℕ) → get_or tab₂ (first_minimum + t) 0 ≡ get_or tab (first_minimum + t) 0
    same t = p.kept (first_minimum + t) (omega arith) ∙ k (first_minimum + t) (omega arith)

    placed : (ar T : List ℕ) → Setting ar T ord into tab → Setting ar T ord into tab₂
    placed ar T e = record {
      search = e.search;
      labels = e.labels;
      below = e.below;
      own = e.own;
      has = λ t m. omega (arith, e.has t m, same t);
      of = λ t h m. e.of t h (omega (arith, same t));
    }

    pub part_post : PartPost ord into tab r tab₂ theta'
    part_post = record {
      answer = λ ar T e. s.answer ar T (placed ar T e);
      tab-kept = λ v h. p.kept v h ∙ k v h;
      stays = s.stays;
    }

-- ===== Two stored paths =====
module _ (ar : List ℕ) (good : are_arities ar ≡ true) (p q : Path) (np : PathLabels ar p) (nq : PathLabels ar q) where
  abbrev pub both_terms : List ℕ
  both_terms = terms_in ar (literals p) ++ terms_in ar (literals q)

  covers-searchable : Searchable ar (literals p) both_terms
  covers-searchable = searchable ar (literals p) (literals q) good np.each

  -- the first path's literals stand behind their terms' marks, some of the second's in ord, the marks of its terms behind tab's first places
  pub covers-setting : {ord into tab : List ℕ} → literals_in (drop first_minimum into) ≡ literals p → ((l : Literal) → Memᴰ l (literals_in ord) → Memᴰ l (literals q))
      → Marks ar (λ t. get_or into t 0) (literals p) → Marks ar (λ t. get_or tab (first_minimum + t) 0) (literals q) → Setting ar both_terms ord into tab
  covers-setting {ord} {into} {tab} e f mp mq = record {
    search = subst (λ (ls : List Literal). Searchable ar ls both_terms) (sym e) covers-searchable;
    labels = record { each = λ l m. nq.each.each l (f l m) };
    below = small;
    own = own;
    has = has;
    of = of;
  }
    where
      small : (u : ℕ) → Memᴰ u both_terms → u < first_minimum
      small u m = go (Memᴰ.append_cases (terms_in ar (literals p)) m)
        where
          go : Memᴰ u (terms_in ar (literals p)) ⊎ Memᴰ u (terms_in ar (literals q)) → u < first_minimum
          go (inl n) = mp.below u n
          go (inr n) = mq.below u n

      own : (u : ℕ) → Memᴰ u (terms_in ar (literals_in ord)) → Memᴰ u both_terms
      own u m = let o = of-terms ar (literals_in ord) u m in Memᴰ.append_right (terms_in ar (literals p)) (in-terms ar (literals q) o.0 u (f o.0 o.1) o.2)

      has : (u : ℕ) → Memᴰ u both_terms → 0 < get_or into u 0 + get_or tab (first_minimum + u) 0
      has u m = go (Memᴰ.append_cases (terms_in ar (literals p)) m)
        where
          go : Memᴰ u (terms_in ar (literals p)) ⊎ Memᴰ u (terms_in ar (literals q)) → 0 < get_or into u 0 + get_or tab (first_minimum + u) 0
          go (inl n) = omega (arith, mp.has u n)
          go (inr n) = omega (arith, mq.has u n)

      of : (u : ℕ) → u < first_minimum → 0 < get_or into u 0 + get_or tab (first_minimum + u) 0 → Memᴰ u both_terms
      of u h k = go (cmp 0 (get_or into u 0))
        where
          second : get_or into u 0 ≤ 0 → Memᴰ u both_terms
          second z = Memᴰ.append_right (terms_in ar (literals p)) (mq.of u h (omega arith))

          go : Cmp 0 (get_or into u 0) → Memᴰ u both_terms
          go (below c) = Memᴰ.append_left (terms_in ar (literals q)) (mp.of u h c)
          go (equal c) = second (omega arith)
          go (above c) = absurd (omega arith)

  -- a search over the second path's literals in some order answers whether it covers the first
  pub covers-order : (qs : List Literal) → ((l : Literal) → Memᴰ l qs → Memᴰ l (literals q)) → ((l : Literal) → Memᴰ l (literals q) → Memᴰ l qs)
      → matches ar (literals p) both_terms qs start ≡ covers ar p q
  unfolding covers
  covers-order qs f g = matches-order ar (literals p) both_terms covers-searchable qs (literals q) start f g
