-- Laws of `find_winners`.
use mathlib.Core.Path.{◌≡◌, refl, sym, ap, ap₂, subst, ◌∙◌}
use mathlib.Core.Bool.{true, ◌||◌}
use mathlib.Core.List.{List, [], ◌∷◌, ◌++◌, map}
use Prim.Native.Nat.{ℕ, zero, suc, pred, ◌+◌, ◌-◌, ◌*◌, ◌/◌, ◌%◌, ◌^◌, ◌≤◌, ◌<◌, min}
use native.Mathlib.Omega.{arith}
use native.Mathlib.Nat.{pow-suc, pow-zero, pow-succ', mod-lt, div-lt_iff_lt-mul, div-add-mod', mul-le-mul_left, mul_assoc, add-zero, zero-add}
use lib.ListN.{length, get_or, replicate, length-replicate, length-map, get_or-append}
use lib.Seq.{get_or-append-add}
use lib.Dec.{eqb}
use borrow.Author.Tests.{eqb-true}
use Rattle.basics.specs.Tests.{and_left}
use Rattle.basics.specs.Members.{mem}
use Rattle.label.specs.Limits.{predicate_count}
use Rattle.label.specs.Labels.{are_arities}
use Rattle.diagram.specs.Diagram.{Diagram}
use Rattle.diagram.specs.Rows.{rows}
use Rattle.diagram.specs.Words.{label_at, row_count, up_to}
use Rattle.diagram.specs.WordLaws.{length-up_to, get_d_map}
use Rattle.diagram.specs.Listing.{diagram_of}
use Rattle.diagram.specs.Validity.{Valid, tree}
use Rattle.diagram.specs.Variables.{variables}
use Rattle.diagram.specs.RowDiagrams.{branch_row}
use Rattle.diagram.specs.DiagramOfListing.{diagram-is, rows_are, valid-rows}
use Rattle.diagram.specs.ListingValid.{listing-is-valid}
use Rattle.rename.specs.Maps.{used_variables}
use Rattle.rename.specs.MapLaws.{used-variables}
use Rattle.rename.specs.VariableLaws.{variables-few}
use Rattle.paths.specs.Paths.{paths}
use Rattle.paths.specs.Inner.{Leaves}
use Rattle.paths.specs.PathLaws.{rows-paths}
use Rattle.state.specs.Max.{gather, tuples}
use Rattle.reduction.specs.Combinations.{valuations, formed, winners}
use Rattle.reduction.proofs.CombinationLaws.{tuples-length}
use Rattle.reduction.specs.Reduction.{most_formed}
use Rattle.reduce.specs.Searching.{fact_end, stacked, ways, formed_on, winners_on, formed_from, winners_from, Facing, Searching, Standing, is_marked, Visited}
use Rattle.reduce.specs.Facts.{fact_of}
use Rattle.reduce.specs.FormedLaws.{count, up-count, formed-is, winners-are}
use Rattle.reduce.specs.Tables.{digits, Tabling, Tabled}
use Rattle.reduce.specs.Winning.{Winnable, Winning}
use Rattle.reduce.proofs.BlockLaws.{zeros}
use Rattle.reduce.proofs.VisitLaws.{left_one, formed-next, winners-next}

-- ===== Valuations by number =====
module _ {A : Type 0} (f : ℕ → List A) (l : ℕ) (h : (a : ℕ) → length (f a) ≡ l) (x : A) where
  gather-at : (n k o r : ℕ) → o < n → r < l → get_or (gather f (count k n)) (o * l + r) x ≡ get_or (f (k + o)) r x
  gather-at zero k o r p q = absurd (omega arith)
  gather-at (suc n) k zero r p q =
      ap (λ (i : ℕ). get_or (f k ++ gather f (count (suc k) n)) i x) (let z : zero * l + r ≡ r = omega arith in z)
      ∙ get_or-append (f k) (gather f (count (suc k) n)) x r (omega (arith, h k)) ∙ ap (λ (i : ℕ). get_or (f i) r x) (sym (add-zero k))
  gather-at (suc n) k (suc o) r p q =
      let e : suc o * l ≡ l + o * l = omega arith in
      ap (λ (i : ℕ). get_or (f k ++ gather f (count (suc k) n)) i x) (let z : suc o * l + r ≡ length (f k) + (o * l + r) = omega (arith, h k, e) in z)
      ∙ get_or-append-add (f k) (gather f (count (suc k) n)) (o * l + r) x ∙ gather-at n (suc k) o r (omega arith) q
      ∙ ap (λ (i : ℕ). get_or (f i) r x) (let z : suc k + o ≡ k + suc o = omega arith in z)

factor : (x a b : ℕ) → x < a * b → 0 < b
factor x a zero l = absurd (let z : a * zero ≡ 0 = omega arith in omega arith)
factor x a (suc b) l = omega arith

tuple_at : (n c i : ℕ) → i < n ^ c → get_or (tuples n c) i [] ≡ digits n c i
unfolding tuples digits
tuple_at n zero zero h = refl
tuple_at n zero (suc i) h = absurd (omega (arith, pow-zero n))
tuple_at n (suc c) i h = go (tuple_at n c (i % n ^ c))
  where
    m : i < n * n ^ c
    m = subst (λ (x : ℕ). i < x) (pow-succ' n c) h

    p : 0 < n ^ c
    p = factor i n (n ^ c) m

    o : ℕ
    o = i / n ^ c

    r : ℕ
    r = i % n ^ c

    low : r < n ^ c
    low = mod-lt i p

    f : ℕ → List (List ℕ)
    f a = map (λ os. a ∷ os) (tuples n c)

    long : (a : ℕ) → length (f a) ≡ n ^ c
    long a = length-map (tuples n c) (λ os. a ∷ os) ∙ tuples-length n c

    go : (i % n ^ c < n ^ c → get_or (tuples n c) (i % n ^ c) [] ≡ digits n c (i % n ^ c)) → get_or (gather (λ a. map (λ os. a ∷ os) (tuples n c)) (up_to n)) i [] ≡ (i / n ^ c) ∷ digits n c (i % n ^ c)
    go ih =
        ap₂ (λ (l : List ℕ) (k : ℕ). get_or (gather f l) k []) (up-count n) (sym (div-add-mod' i (n ^ c)))
        ∙ gather-at f (n ^ c) long [] n 0 o r ((div-lt_iff_lt-mul p).1 m) low
        ∙ ap (λ (a : ℕ). get_or (f a) r []) (zero-add o)
        ∙ get_d_map (λ os. o ∷ os) (tuples n c) r [] [] (subst (λ (k : ℕ). r < k) (sym (tuples-length n c)) low)
        ∙ ap (λ (os : List ℕ). o ∷ os) (ih low)

times-some : (a b : ℕ) → 0 < a → 0 < b → 0 < a * b
times-some zero b h k = absurd (omega arith)
times-some (suc a) b h k = let z : suc a * b ≡ b + a * b = omega arith in omega arith

pow-some : (n c : ℕ) → 0 < n → 0 < n ^ c
pow-some n zero h = omega (arith, pow-zero n)
pow-some n (suc c) h = subst (λ (x : ℕ). 0 < x) (sym (pow-suc n c)) (times-some (n ^ c) n (pow-some n c h) h)

pub self-power : (v : ℕ) → 0 < v ^ v
self-power zero = omega (arith, pow-zero 0)
self-power (suc v) = pow-some (suc v) (suc v) (omega arith)

nothing_known : (known : List ℕ) → stacked known 0 ≡ []
unfolding stacked
nothing_known known = refl

-- ===== `find_winners` =====
module _ {ar ws counts marks wins : List ℕ} {n m v all : ℕ} (g : Winnable ar ws counts marks wins n m v all) where
  valid : Valid ar ws
  valid = listing-is-valid ar ws g.listing

  abbrev d : Diagram
  d = diagram_of ws

  pub all-some : 0 < all
  all-some = omega (arith, g.power, self-power v)

  root_is : tree ws (n - 1) ≡ d
  root_is = let e : n - 1 ≡ pred (row_count ws) = omega (arith, g.whole, valid.some) in ap (tree ws) e ∙ sym (diagram-is ar ws valid)

  row_count_lem : length (rows d) ≡ n
  row_count_lem = ap length (rows_are ar ws valid) ∙ length-map (up_to (row_count ws)) (tree ws) ∙ length-up_to (row_count ws) ∙ sym g.whole

  rows_few : n + 1 ≤ m * 2
  rows_few = omega (arith, rows-paths d, row_count_lem, ap (λ (x : Diagram). length (paths x)) root_is, g.routed.all)

  table-few : all * n ≤ 1024
  table-few =
      let a = mul-le-mul_left all (let z : n ≤ m * 2 = omega (arith, rows_few) in z) in
      let b : all * (m * 2) ≡ all * m * 2 = sym (mul_assoc all m 2) in
      omega (arith, a, b, g.few)

  pub win-tabling : (k : ℕ) → 1024 ≤ k → Tabling ar ws marks (replicate k 0) n v all
  win-tabling k h = record {
    labelled = record {
      arities = omega (arith, arities-long valid.arities);
      rows = g.routed.rows.room;
      few = g.routed.rows.few;
      labels = λ r l e. (branch_row ar ws (row_count ws) (valid-rows ar ws valid) r (omega (arith, g.whole)) e).label;
    };
    marked = omega (arith, g.used.whole);
    few = omega (arith, g.count, variables-few ar d);
    power = g.power;
    room = omega (arith, table-few, length-replicate {A = ℕ} k 0);
    clean = λ j. subst (λ (x : ℕ). x < fact_end) (sym (zeros k j)) (omega arith);
  }
    where
      arities-long : are_arities ar ≡ true → length ar ≡ predicate_count
      arities-long e = unfold are_arities in (eqb-true (length ar) predicate_count (and_left (eqb (length ar) predicate_count) _ e))

  module _ {facts leaves : List ℕ} (t : Tabled ar ws marks n v all facts) (lv : Leaves ws leaves n m) where
    pub win-searching : (k : ℕ) → 1024 ≤ k → length facts ≡ length {A = ℕ} (replicate k 0) → Searching ws counts facts leaves (replicate k 0) wins n m 0 (all - 1) m 0
    win-searching k h q = record {
      routed = g.routed;
      ends = lv;
      room = omega (arith, table-few, left_one all n (λ z. omega (arith, all-some)), q, length-replicate {A = ℕ} k 0);
      space = omega (arith, table-few, left_one all n (λ z. omega (arith, all-some)), length-replicate {A = ℕ} k 0);
      codes = λ i l. t.codes i;
      places = g.places;
      least = omega arith;
      few = omega arith;
    }

    pub win-standing : Standing ws n m 0 0 (n - 1) 0
    win-standing = record { row = omega (arith, g.routed.some); paths-there = omega (arith, g.routed.all); known-few = omega (arith, g.routed.some) }

    used-are : used_variables marks ≡ variables ar d
    used-are = used-variables ar d marks (record { whole = omega (arith, g.used.whole); mark = g.used.each })

    abbrev fact : List ℕ → ℕ → ℕ
    fact os = fact_of ar (variables ar d) os

    facing : (rs : List (List ℕ)) (k : ℕ) → k + length rs ≤ all → ((j : ℕ) → j < length rs → get_or rs j [] ≡ digits v v (k + j)) → Facing ws facts n (k * n) (map fact rs)
    facing [] k h e = tt
    facing (os ∷ rs) k h e = (
      (λ r l b. t.each k r (omega arith) l b
          ∙ ap₂ (λ (u o : List ℕ). fact_of ar u o (label_at ws r)) used-are (ap (digits v v) (sym (add-zero k)) ∙ sym (e 0 (omega arith)))),
      subst (λ (b : ℕ). Facing ws facts n b (map fact rs)) (let z : suc k * n ≡ k * n + n = omega arith in z)
          (facing rs (suc k) (omega arith) (λ j l. e (suc j) (omega arith) ∙ ap (digits v v) (let z : k + suc j ≡ suc k + j = omega arith in z))),
    )

    values-are : valuations ar d ≡ tuples v v
    unfolding valuations
    values-are = sym (ap (λ (x : ℕ). tuples x x) g.count)

    values-long : length (valuations ar d) ≡ all
    values-long = ap length values-are ∙ tuples-length v v ∙ sym g.power

    values-at : (j : ℕ) → j < length (valuations ar d) → get_or (valuations ar d) j [] ≡ digits v v (0 + j)
    values-at j h = ap (λ (l : List (List ℕ)). get_or l j []) values-are ∙ tuple_at v v j (omega (arith, values-long, g.power)) ∙ ap (digits v v) (sym (zero-add j))

    all-facing : Facing ws facts n 0 (map fact (valuations ar d))
    all-facing = subst (λ (b : ℕ). Facing ws facts n b (map fact (valuations ar d))) (let z : 0 * n ≡ 0 = omega arith in z) (facing (valuations ar d) 0 (omega (arith, values-long)) values-at)

    pub win_done : {known known' wins' : List ℕ} {x : ℕ} → Visited ws facts known wins n m 0 (all - 1) 0 m 0 (n - 1) 0 known' wins' x → Winning ar ws m wins wins' x
    win_done {known} {known'} {wins'} {x} w = go (valuations ar d) all-facing values-long (formed-is ar d) (winners-are ar d)
      where
        paths-are : length (paths d) ≡ m
        paths-are = ap (λ (y : Diagram). length (paths y)) (sym root_is) ∙ g.routed.all

        go : (vs : List (List ℕ)) → Facing ws facts n 0 (map fact vs) → length vs ≡ all → formed ar d ≡ formed_on d (map fact vs) []
            → winners ar d ≡ winners_on d (length (paths d)) (map fact vs) [] (length (paths d)) → Winning ar ws m wins wins' x
        go [] f l a b = absurd (omega (arith, all-some))
        go (os ∷ vs) f l a b =
            let s = w.found (fact os) (map fact vs) (length-map vs fact ∙ (let z : length vs ≡ all - 1 = omega arith in z)) f in
            record {
              answer = s.answer ∙ ap (λ (y : ℕ). min (suc most_formed) y)
                  (zero-add (formed_from (tree ws (n - 1)) (map fact vs) (ways (fact os) (tree ws (n - 1)) (stacked known 0) 0))
                  ∙ ap (λ (y : Diagram). formed_from y (map fact vs) (ways (fact os) y (stacked known 0) 0)) root_is
                  ∙ ap (λ (y : List ℕ). formed_from d (map fact vs) (ways (fact os) d y 0)) (nothing_known known)
                  ∙ sym (a ∙ formed-next d (fact os) (map fact vs) []));
              marks = λ h p q. s.marks h p q ∙ ap (λ (ks : List ℕ). is_marked wins p || mem eqb p ks)
                  (ap (λ (y : Diagram). winners_from y m (map fact vs) m (ways (fact os) y (stacked known 0) 0)) root_is
                  ∙ ap (λ (y : List ℕ). winners_from d m (map fact vs) m (ways (fact os) d y 0)) (nothing_known known)
                  ∙ sym (b ∙ ap (λ (y : ℕ). winners_on d y (fact os ∷ map fact vs) [] y) paths-are ∙ winners-next d m (fact os) (map fact vs) [] m));
            }
