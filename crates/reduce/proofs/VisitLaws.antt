-- Laws of the walk of the search: `reach`, `visit` and `fork`.
use mathlib.Core.Path.{◌≡◌, refl, sym, ap, ap₂, subst, ◌∙◌}
use mathlib.Core.Bool.{Bool, true, false, ◌||◌, cond, or_assoc}
use mathlib.Core.List.{List, [], ◌∷◌, ◌++◌, append_assoc, append-nil}
use Prim.Native.Nat.{ℕ, zero, suc, ◌+◌, ◌-◌, ◌*◌, ◌≤◌, ◌<◌}
use native.Mathlib.Omega.{arith}
use lib.ListN.{length, get_or, set, length-set}
use lib.Seq.{get_or-set_same, get_or-set_other}
use lib.Dec.{eqb}
use borrow.Author.Tests.{eqb-true, eqb-false}
use Rattle.basics.specs.Tests.{Flag, is_true, is_false, flag}
use Rattle.basics.specs.Members.{mem, mem-append}
use Rattle.label.specs.Limits.{leaf_mark}
use Rattle.diagram.specs.Diagram.{Diagram, leaf, branch}
use Rattle.diagram.specs.Words.{label_at, high_at, low_at}
use Rattle.diagram.specs.Validity.{tree}
use Rattle.paths.specs.Paths.{paths}
use Rattle.paths.specs.PathLaws.{paths-leaf, paths-branch}
use Rattle.reduction.specs.Combinations.{before}
use Rattle.reduction.specs.Reduction.{most_formed}
use Rattle.reduce.specs.Searching.{fact_end, stacked, sign_of, Way, ways, better_of, formed_on, winners_on, formed_from}
use Rattle.reduce.specs.Searching.{winners_from, Facing, Searching, Standing, is_marked, Searched, Same, Reached, Visited, Forked}
use Rattle.reduce.proofs.SearchLaws.{stacked-set}

-- ===== Formed, and winning =====
module _ (d : Diagram) (facts : List (ℕ → ℕ)) where
  formed-one : (w : Way) → formed_from d facts (w ∷ []) ≡ suc (formed_on d facts w.known)
  unfolding formed_from
  formed-one w = omega arith

  formed-append : (xs ys : List Way) → formed_from d facts (xs ++ ys) ≡ formed_from d facts xs + formed_from d facts ys
  unfolding formed_from
  formed-append [] ys = omega arith
  formed-append (x ∷ xs) ys = omega (arith, formed-append xs ys)

formed-none : (d : Diagram) (known : List ℕ) → formed_on d [] known ≡ 0
unfolding formed_on
formed-none d known = refl

pub formed-next : (d : Diagram) (fact : ℕ → ℕ) (facts : List (ℕ → ℕ)) (known : List ℕ) → formed_on d (fact ∷ facts) known ≡ formed_from d facts (ways fact d known 0)
unfolding formed_on formed_from
formed-next d fact facts known = refl

module _ (d : Diagram) (m : ℕ) where
  winners-one : (facts : List (ℕ → ℕ)) (best : ℕ) (w : Way) → winners_from d m facts best (w ∷ []) ≡ winners_on d m facts w.known (better_of d m best w.path)
  unfolding winners_from
  winners-one facts best w = append-nil (winners_on d m facts w.known (better_of d m best w.path))

  winners-append : (facts : List (ℕ → ℕ)) (best : ℕ) (xs ys : List Way)
      → winners_from d m facts best (xs ++ ys) ≡ winners_from d m facts best xs ++ winners_from d m facts best ys
  unfolding winners_from
  winners-append facts best [] ys = refl
  winners-append facts best (x ∷ xs) ys =
      ap (λ (l : List ℕ). winners_on d m facts x.known (better_of d m best x.path) ++ l) (winners-append facts best xs ys)
      ∙ sym (append_assoc (winners_on d m facts x.known (better_of d m best x.path)) (winners_from d m facts best xs) (winners_from d m facts best ys))

  winners-none : (known : List ℕ) (best : ℕ) → winners_on d m [] known best ≡ best ∷ []
  unfolding winners_on
  winners-none known best = refl

  pub winners-next : (fact : ℕ → ℕ) (facts : List (ℕ → ℕ)) (known : List ℕ) (best : ℕ)
      → winners_on d m (fact ∷ facts) known best ≡ winners_from d m facts best (ways fact d known 0)
  unfolding winners_on winners_from
  winners-next fact facts known best = refl

  better-below : (best k : ℕ) → best ≤ m → k < m → better_of d m best k < m
  unfolding better_of
  better-below best k h l = go (flag (eqb best m)) (flag (before d k best))
    where
      go : Flag (eqb best m) → Flag (before d k best) → cond (eqb best m) k (cond (before d k best) k best) < m
      go (is_true e) b = rw e l
      go (is_false e) (is_true b) = rw (e, b) l
      go (is_false e) (is_false b) = let z = eqb-false best m e in rw (e, b) (omega arith)

-- ===== Ways =====
module _ (fact : ℕ → ℕ) (known : List ℕ) (k : ℕ) where
  ways-leaf : (v : ℕ) → ways fact (leaf v) known k ≡ record { known = known; path = k } ∷ []
  unfolding ways
  ways-leaf v = refl

  module _ (l : ℕ) (t f : Diagram) where
    ways-true : sign_of known (fact l) ≡ 1 → ways fact (branch l t f) known k ≡ ways fact t known k
    unfolding ways
    ways-true e = rw e

    ways-false : sign_of known (fact l) ≡ 0 → ways fact (branch l t f) known k ≡ ways fact f known (k + length (paths t))
    unfolding ways
    ways-false e = rw e

    ways-fork : (s : ℕ) → sign_of known (fact l) ≡ suc (suc s) → ways fact (branch l t f) known k
        ≡ ways fact t ((fact l * 2 + 1) ∷ known) k ++ ways fact f ((fact l * 2) ∷ known) (k + length (paths t))
    unfolding ways
    ways-fork s e = rw e

-- ===== `reach` =====
pub left_one : (left n : ℕ) → (left ≡ 0 → ⊥) → left * n ≡ n + (left - 1) * n
left_one zero n h = absurd (h refl)
left_one (suc l) n h =
    let e : suc l * n ≡ n + l * n = omega arith in
    let z : suc l - 1 ≡ l = omega arith in
    e ∙ ap (λ (x : ℕ). n + x * n) (sym z)

or-false : (a : Bool) → (a || false) ≡ a
or-false true = refl
or-false false = refl

or-true : (a : Bool) → (a || true) ≡ true
or-true true = refl
or-true false = refl

module _ {ws counts facts leaves known wins : List ℕ} {n m base left best formed : ℕ} (g : Searching ws counts facts leaves known wins n m base left best formed)
    {count k : ℕ} (h : k < m) (l : count ≤ base + n) where
  abbrev D : Diagram
  D = tree ws (n - 1)

  abbrev here : Way
  here = record { known = stacked known count; path = k }

  pub reach-full : formed ≡ most_formed → Reached ws facts known wins n m base left count best formed k known wins (most_formed + 1)
  reach-full e = record {
    same = λ i p. refl;
    found = λ rest q f. record { answer = omega (arith, formed-one D rest here); marks = λ z. absurd (omega arith) };
  }

  module _ (e : formed ≡ most_formed → ⊥) where
    pub reach-more : formed + 1 ≤ most_formed
    reach-more = omega (arith, g.few)

    module _ {b : ℕ} (p : b ≡ better_of D m best k) where
      pub winner-below : b < m
      winner-below = let z = better-below D m best k g.least h in omega arith

      pub reach-place : b < length wins
      reach-place = omega (arith, winner-below, g.places)

      pub reach-last : left ≡ 0 → Reached ws facts known wins n m base left count best formed k known (set wins b 1) (formed + 1)
      reach-last z = record { same = λ i q. refl; found = λ rest q f. go rest q }
        where
          marked : (q : ℕ) → is_marked (set wins b 1) q ≡ (is_marked wins q || mem eqb q (winners_from D m [] best (here ∷ [])))
          marked q =
              let w : winners_from D m [] best (here ∷ []) ≡ b ∷ []
              = winners-one D m [] best here ∙ winners-none D m (stacked known count) (better_of D m best k) ∙ ap (λ (x : ℕ). x ∷ []) (sym p) in
              at w (flag (eqb q b))
            where
              at : winners_from D m [] best (here ∷ []) ≡ b ∷ [] → Flag (eqb q b)
                  → is_marked (set wins b 1) q ≡ (is_marked wins q || mem eqb q (winners_from D m [] best (here ∷ [])))
              at w (is_true x) =
                  let y = eqb-true q b x in
                  rw (w, x, y, get_or-set_same wins b 1 0 reach-place) (sym (or-true (is_marked wins b)))
              at w (is_false x) =
                  rw (w, x, get_or-set_other wins b q 1 0 (eqb-false q b x)) (sym (or-false (is_marked wins q)))

          go : (rest : List (ℕ → ℕ)) → length rest ≡ left → Searched D m rest best formed (here ∷ []) wins (set wins b 1) (formed + 1)
          go [] q = record {
            answer = omega (arith, formed-one D [] here, formed-none D (stacked known count), reach-more);
            marks = λ x y u. marked y;
          }
          go (fact ∷ rest) q = absurd (omega arith)

      module _ (z : left ≡ 0 → ⊥) where
        pub reach-searching : Searching ws counts facts leaves known wins n m (base + n) (left - 1) b (formed + 1)
        reach-searching = record {
          routed = g.routed;
          ends = g.ends;
          room = omega (arith, g.room, left_one left n z);
          space = omega (arith, g.space, left_one left n z);
          codes = g.codes;
          places = g.places;
          least = omega (arith, winner-below);
          few = reach-more;
        }

        pub reach-standing : Standing ws n m (base + n) count (n - 1) 0
        reach-standing = record {
          row = omega (arith, g.routed.some);
          paths-there = omega (arith, g.routed.all);
          known-few = omega (arith, g.routed.some);
        }

        pub reach-on : {known' wins' : List ℕ} {x : ℕ} → Visited ws facts known wins n m (base + n) (left - 1) count b (formed + 1) (n - 1) 0 known' wins' x
            → Reached ws facts known wins n m base left count best formed k known' wins' x
        reach-on {known'} {wins'} {x} v = record { same = v.same; found = go }
          where
            go : (rest : List (ℕ → ℕ)) → length rest ≡ left → Facing ws facts n (base + n) rest → Searched D m rest best formed (here ∷ []) wins wins' x
            go [] q f = absurd (z (sym q))
            go (fact ∷ rest) q f =
                let s = v.found fact rest (omega arith) f in
                let w : winners_from D m rest b (ways fact D (stacked known count) 0) ≡ winners_from D m (fact ∷ rest) best (here ∷ [])
                = ap (λ (y : ℕ). winners_from D m rest y (ways fact D (stacked known count) 0)) p
                ∙ sym (winners-one D m (fact ∷ rest) best here ∙ winners-next D m fact rest (stacked known count) (better_of D m best k)) in
                record {
                  answer = s.answer ∙ omega (arith, formed-one D (fact ∷ rest) here, formed-next D fact rest (stacked known count));
                  marks = λ y q u. s.marks y q u ∙ ap (λ (ps : List ℕ). is_marked wins q || mem eqb q ps) w;
                }

-- ===== Rows =====
pub raw-label : (ws : List ℕ) (r : ℕ) → (label_at ws r ≡ leaf_mark → ⊥) → get_or ws (r * 3) 0 ≡ leaf_mark → ⊥
unfolding label_at
raw-label ws r e = e

pub label-raw : (ws : List ℕ) (r : ℕ) → (get_or ws (r * 3) 0 ≡ leaf_mark → ⊥) → label_at ws r ≡ leaf_mark → ⊥
unfolding label_at
label-raw ws r e = e

module _ {ws counts facts leaves known wins : List ℕ} {n m base left best formed : ℕ} (g : Searching ws counts facts leaves known wins n m base left best formed)
    {count r k : ℕ} (st : Standing ws n m base count r k) where
  pub visit-few : r < 1024
  visit-few = omega (arith, st.row, g.routed.rows.few)

  pub visit-fact : base + r < length facts
  visit-fact = omega (arith, st.row, g.room)

  pub visit-known : count < length known
  visit-known = omega (arith, st.known-few, g.space)

  pub visit-count : count ≤ base + n
  visit-count = omega (arith, st.known-few)

  abbrev L : ℕ
  L = get_or ws (r * 3) 0

  abbrev T : ℕ
  T = get_or ws (r * 3 + 1) 0

  abbrev F : ℕ
  F = get_or ws (r * 3 + 2) 0

  -- a leaf
  module _ (e : L ≡ leaf_mark) where
    leaf-is : tree ws r ≡ leaf T
    unfolding label_at high_at
    leaf-is = g.routed.rows.shown.leaves r st.row e

    pub visit-path : k < m
    visit-path = omega (arith, st.paths-there, ap (λ (d : Diagram). length (paths d)) leaf-is, paths-leaf T)

    pub visit-leaf : {known' wins' : List ℕ} {x : ℕ} → Reached ws facts known wins n m base left count best formed k known' wins' x
        → Visited ws facts known wins n m base left count best formed r k known' wins' x
    visit-leaf {known'} {wins'} {x} v = record {
      same = v.same;
      found = λ fact rest q f. subst (λ (on : List Way). Searched (tree ws (n - 1)) m rest best formed on wins wins' x)
          (sym (ap (λ (d : Diagram). ways fact d (stacked known count) k) leaf-is ∙ ways-leaf fact (stacked known count) k T)) (v.found rest q f.1);
    }

  -- a branch
  module _ (e : L ≡ leaf_mark → ⊥) where
    is-branch : tree ws r ≡ branch L (tree ws T) (tree ws F)
    unfolding label_at high_at low_at
    is-branch = g.routed.rows.shown.branches r st.row e

    kids : (T < r) × (F < r)
    unfolding label_at high_at low_at
    kids = g.routed.rows.shown.kids r st.row e

    pub row-high : T < r
    row-high = kids.0

    pub row_low : F < r
    row_low = kids.1

    both : length (paths (tree ws r)) ≡ length (paths (tree ws T)) + length (paths (tree ws F))
    both = ap (λ (d : Diagram). length (paths d)) is-branch ∙ paths-branch L (tree ws T) (tree ws F)

    pub high-place : T < length counts
    high-place = omega (arith, kids.0, st.row, g.routed.counted.room)

    pub high-few : T < 1024
    high-few = omega (arith, kids.0, visit-few)

    high-count : get_or counts T 0 ≡ length (paths (tree ws T))
    high-count = omega (arith, g.routed.counted.each T (omega (arith, kids.0, st.row)), both, st.paths-there, g.routed.few)

    pub high_small : k + get_or counts T 0 ≤ 256
    high_small = omega (arith, high-count, both, st.paths-there, g.routed.few)

    pub standing-high : Standing ws n m base count T k
    standing-high = record { row = omega (arith, kids.0, st.row); paths-there = omega (arith, both, st.paths-there); known-few = omega (arith, kids.0, st.known-few) }

    pub standing-low : Standing ws n m base count F (k + get_or counts T 0)
    standing-low = record { row = omega (arith, kids.1, st.row); paths-there = omega (arith, both, high-count, st.paths-there); known-few = omega (arith, kids.1, st.known-few) }

    pub further-high : Standing ws n m base (count + 1) T k
    further-high = record { row = omega (arith, kids.0, st.row); paths-there = omega (arith, both, st.paths-there); known-few = omega (arith, kids.0, st.known-few) }

    pub further-low : Standing ws n m base (count + 1) F (k + get_or counts T 0)
    further-low = record { row = omega (arith, kids.1, st.row); paths-there = omega (arith, both, high-count, st.paths-there); known-few = omega (arith, kids.1, st.known-few) }

    abbrev K : List ℕ
    K = stacked known count

    -- the fact of the row is that of its label
    told : (fact : ℕ → ℕ) (rest : List (ℕ → ℕ)) → Facing ws facts n base (fact ∷ rest) → get_or facts (base + r) 0 ≡ fact L
    unfolding label_at
    told fact rest f = f.0 r st.row e

    module _ {s : ℕ} (Known-as : s ≡ sign_of K (get_or facts (base + r) 0)) where
      sign-is : (fact : ℕ → ℕ) (rest : List (ℕ → ℕ)) → Facing ws facts n base (fact ∷ rest) → sign_of K (fact L) ≡ s
      sign-is fact rest f = ap (sign_of K) (sym (told fact rest f)) ∙ sym Known-as

      module _ {known' wins' : List ℕ} {x : ℕ} where
        pub visit-true : s ≡ 1 → Visited ws facts known wins n m base left count best formed T k known' wins' x
            → Visited ws facts known wins n m base left count best formed r k known' wins' x
        visit-true z v = record {
          same = v.same;
          found = λ fact rest q f. subst (λ (on : List Way). Searched (tree ws (n - 1)) m rest best formed on wins wins' x)
              (sym (ap (λ (d : Diagram). ways fact d K k) is-branch ∙ ways-true fact K k L (tree ws T) (tree ws F) (sign-is fact rest f ∙ z))) (v.found fact rest q f);
        }

        pub visit-false : s ≡ 0 → Visited ws facts known wins n m base left count best formed F (k + get_or counts T 0) known' wins' x
            → Visited ws facts known wins n m base left count best formed r k known' wins' x
        visit-false z v = record {
          same = v.same;
          found = λ fact rest q f. subst (λ (on : List Way). Searched (tree ws (n - 1)) m rest best formed on wins wins' x)
              (sym (ap (λ (d : Diagram). ways fact d K k) is-branch ∙ ways-false fact K k L (tree ws T) (tree ws F) (sign-is fact rest f ∙ z)
              ∙ ap (λ (c : ℕ). ways fact (tree ws F) K (k + c)) (sym high-count))) (v.found fact rest q f);
        }

        pub visit-fork : (s ≡ 1 → ⊥) → (s ≡ 0 → ⊥) → Forked ws facts known wins n m base left count best formed r k known' wins' x
            → Visited ws facts known wins n m base left count best formed r k known' wins' x
        unfolding label_at high_at low_at
        visit-fork y z v =
            let two : s ≡ suc (suc (s - 2)) = omega arith in
            record {
              same = v.same;
              found = λ fact rest q f. subst (λ (on : List Way). Searched (tree ws (n - 1)) m rest best formed on wins wins' x)
                  (sym (ap (λ (d : Diagram). ways fact d K k) is-branch ∙ ways-fork fact K k L (tree ws T) (tree ws F) (s - 2) (sign-is fact rest f ∙ two)))
                  (v.found fact rest q f);
            }

    -- ===== `fork` =====
    pub code-small : get_or facts (base + r) 0 < fact_end
    code-small = g.codes (base + r) visit-fact

    pub fork-first : (x : ℕ) → Searching ws counts facts leaves (set known count x) wins n m base left best formed
    fork-first x = record {
      routed = g.routed;
      ends = g.ends;
      room = g.room;
      space = rw length-set g.space;
      codes = g.codes;
      places = g.places;
      least = g.least;
      few = g.few;
    }

    abbrev Code : ℕ
    Code = get_or facts (base + r) 0 * 2

    -- both ways down
    abbrev Both : (ℕ → ℕ) → List Way
    Both fact = ways fact (tree ws T) ((fact L * 2 + 1) ∷ K) k ++ ways fact (tree ws F) ((fact L * 2) ∷ K) (k + length (paths (tree ws T)))

    module _ {known₁ wins₁ : List ℕ} {a : ℕ}
        (v : Visited ws facts (set known count (Code + 1)) wins n m base left (count + 1) best formed T k known₁ wins₁ a)
        (lk : length known₁ ≡ length (set known count (Code + 1))) (lw : length wins₁ ≡ length wins) where
      pub long : length known₁ ≡ length known
      long = lk ∙ length-set known count (Code + 1)

      pub longer : {x : ℕ} → x ≡ length (set known₁ count Code) → x ≡ length known
      longer l = l ∙ length-set known₁ count Code ∙ long

      pub fork-place : count < length known₁
      fork-place = omega (arith, visit-known, long)

      before_same : Same count known known₁
      before_same i h = v.same i (omega arith) ∙ get_or-set_other known count i (Code + 1) 0 (λ z. omega arith)

      first-known : stacked (set known count (Code + 1)) (count + 1) ≡ (Code + 1) ∷ K
      first-known = stacked-set known known count (Code + 1) (λ i h. refl) visit-known

      first : (fact : ℕ → ℕ) (rest : List (ℕ → ℕ)) → length rest ≡ left → Facing ws facts n base (fact ∷ rest)
          → Searched (tree ws (n - 1)) m rest best formed (ways fact (tree ws T) ((fact L * 2 + 1) ∷ K) k) wins wins₁ a
      first fact rest q f = subst (λ (on : List Way). Searched (tree ws (n - 1)) m rest best formed on wins wins₁ a)
          (ap (λ (ks : List ℕ). ways fact (tree ws T) ks k) (first-known ∙ ap (λ (y : ℕ). (y * 2 + 1) ∷ K) (told fact rest f))) (v.found fact rest q f)

      pub fork-full : most_formed < a → Forked ws facts known wins n m base left count best formed r k known₁ wins₁ a
      unfolding label_at high_at low_at
      fork-full h = record { same = before_same; found = go }
        where
          go : (fact : ℕ → ℕ) (rest : List (ℕ → ℕ)) → length rest ≡ left → Facing ws facts n base (fact ∷ rest)
              → Searched (tree ws (n - 1)) m rest best formed (Both fact) wins wins₁ a
          go fact rest q f =
              let s = first fact rest q f in
              record {
                answer = omega (
                  arith,
                  s.answer,
                  formed-append (tree ws (n - 1)) rest (ways fact (tree ws T) ((fact L * 2 + 1) ∷ K) k) (ways fact (tree ws F) ((fact L * 2) ∷ K) (k + length (paths (tree ws T)))),
                );
                marks = λ z. absurd (omega arith);
              }

      module _ (h : a ≤ most_formed) where
        pub fork-second : Searching ws counts facts leaves (set known₁ count Code) wins₁ n m base left best a
        fork-second = record {
          routed = g.routed;
          ends = g.ends;
          room = g.room;
          space = rw length-set (omega (arith, g.space, long));
          codes = g.codes;
          places = omega (arith, g.places);
          least = g.least;
          few = h;
        }

        second-known : stacked (set known₁ count Code) (count + 1) ≡ Code ∷ K
        second-known = stacked-set known known₁ count Code before_same fork-place

        pub fork-done : {known₂ wins₂ : List ℕ} {x : ℕ}
            → Visited ws facts (set known₁ count Code) wins₁ n m base left (count + 1) best a F (k + get_or counts T 0) known₂ wins₂ x
            → Forked ws facts known wins n m base left count best formed r k known₂ wins₂ x
        unfolding label_at high_at low_at
        fork-done {known₂} {wins₂} {x} w = record { same = λ i l. w.same i (omega arith) ∙ get_or-set_other known₁ count i Code 0 (λ z. omega arith) ∙ before_same i l; found = go }
          where
            go : (fact : ℕ → ℕ) (rest : List (ℕ → ℕ)) → length rest ≡ left → Facing ws facts n base (fact ∷ rest)
                → Searched (tree ws (n - 1)) m rest best formed (Both fact) wins wins₂ x
            go fact rest q f = record { answer = s₂.answer ∙ omega (arith, s₁.answer, apart); marks = marks }
              where
                hi : List Way
                hi = ways fact (tree ws T) ((fact L * 2 + 1) ∷ K) k

                lo : List Way
                lo = ways fact (tree ws F) ((fact L * 2) ∷ K) (k + length (paths (tree ws T)))

                s₁ : Searched (tree ws (n - 1)) m rest best formed hi wins wins₁ a
                s₁ = first fact rest q f

                s₂ : Searched (tree ws (n - 1)) m rest best a lo wins₁ wins₂ x
                s₂ = subst (λ (on : List Way). Searched (tree ws (n - 1)) m rest best a on wins₁ wins₂ x)
                    (ap₂ (λ (ks : List ℕ) (c : ℕ). ways fact (tree ws F) ks (k + c)) (second-known ∙ ap (λ (y : ℕ). (y * 2) ∷ K) (told fact rest f)) high-count)
                    (w.found fact rest q f)

                apart : formed_from (tree ws (n - 1)) rest (Both fact) ≡ formed_from (tree ws (n - 1)) rest hi + formed_from (tree ws (n - 1)) rest lo
                apart = formed-append (tree ws (n - 1)) rest hi lo

                marks : x ≤ most_formed → (p : ℕ) → p < m → is_marked wins₂ p ≡ (is_marked wins p || mem eqb p (winners_from (tree ws (n - 1)) m rest best (Both fact)))
                marks z p l =
                    s₂.marks z p l
                    ∙ ap (λ (b : Bool). b || mem eqb p (winners_from (tree ws (n - 1)) m rest best lo)) (s₁.marks h p l)
                    ∙ or_assoc (is_marked wins p) (mem eqb p (winners_from (tree ws (n - 1)) m rest best hi)) (mem eqb p (winners_from (tree ws (n - 1)) m rest best lo))
                    ∙ ap (λ (b : Bool). is_marked wins p || b)
                    (sym
                    (ap (mem eqb p) (winners-append (tree ws (n - 1)) m rest best hi lo)
                    ∙ mem-append eqb p (winners_from (tree ws (n - 1)) m rest best hi) (winners_from (tree ws (n - 1)) m rest best lo)))
