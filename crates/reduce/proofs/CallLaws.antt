-- Laws of the public call.
use mathlib.Core.Path.{◌≡◌, refl, sym, ap, ap₂, subst, ◌∙◌}
use mathlib.Core.Bool.{Bool, true, false, not, ◌||◌, cond}
use mathlib.Core.List.{List, [], ◌∷◌}
use Prim.Native.Nat.{ℕ, zero, suc, pred, ◌+◌, ◌-◌, ◌*◌, ◌^◌, ◌≤◌, ◌<◌, min}
use native.Mathlib.Omega.{arith}
use native.Mathlib.Nat.{pow-suc, pow-le-pow_right, mul-le-mul}
use native.Mathlib.Numerals.{add-one}
use lib.ListN.{length, get_or, replicate, length-replicate}
use lib.Dec.{eqb, ltb}
use borrow.Author.Tests.{lt-ltb, le-ltb, eqb-true, eq-eqb}
use Rattle.refusal.specs.declared.Refusal.TheVariants.{Paths, Kinds, Runs, Combinations}
use Rattle.refusal.specs.Outcome.{Outcome, ok, refused}
use Rattle.basics.specs.Tests.{Flag, is_true, is_false, flag, Cmp, cmp, below, equal, above, Either, one, other, either, or-one, or-other}
use Rattle.basics.specs.Members.{mem, clash}
use Rattle.label.specs.Limits.{variable_count}
use Rattle.diagram.specs.Sizes.{most_rows}
use Rattle.diagram.specs.Diagram.{Diagram}
use Rattle.diagram.specs.Rows.{rows}
use Rattle.diagram.specs.Words.{row_count}
use Rattle.diagram.specs.Listing.{listing, diagram_of}
use Rattle.diagram.specs.Validity.{Valid, tree}
use Rattle.diagram.specs.Variables.{closed}
use Rattle.diagram.specs.DiagramOfListing.{diagram-is}
use Rattle.diagram.specs.ListingValid.{listing-is-valid}
use Rattle.paths.specs.Paths.{paths, most_paths, through}
use Rattle.paths.specs.Inner.{Routed}
use Rattle.paths.specs.Routes.{path_at}
use Rattle.cutting.specs.Cut.{reduced, written}
use Rattle.reduction.specs.Combinations.{some_of, formed, winners}
use Rattle.reduction.specs.Reduction.{is_on, keeping, reduced_diagram, has_kinds, most_runs, runs, most_formed, reduce_answer, answer_of, buffer_of}
use Rattle.pruning.specs.Pruning.{kept_of, Agrees, Prunable, Pruned}
use Rattle.reduce.specs.Routing.{winning, stays_in, Won}
use Rattle.reduce.specs.FormedLaws.{winner-below}
use Rattle.reduce.specs.Searching.{is_marked}
use Rattle.reduce.specs.Winning.{Winnable, Winning, Plain, ReduceCallAnswered}
use Rattle.std.specs.Prelude.{Err, Ok}

-- ===== `count_valuations` =====
module _ {v p j : ℕ} (few : v ≤ variable_count) (e : p ≡ v ^ j) (h : p ≤ most_runs) (l : j < v) where
  pub power_small : p * v ≤ most_runs * variable_count
  power_small = mul-le-mul h few

  pub power-next : p * v ≡ v ^ (j + 1)
  power-next = ap (λ (x : ℕ). x * v) e ∙ sym (pow-suc v j) ∙ ap (λ (x : ℕ). v ^ x) (sym (add-one j))

  pub power-many : most_runs < p * v → most_runs + 1 ≡ min (suc most_runs) (v ^ v)
  power-many m =
      let z : v ^ (j + 1) ≤ v ^ v = pow-le-pow_right (let y : 0 < v = omega arith in y) (let y : j + 1 ≤ v = omega arith in y) in
      omega (arith, power-next, z)

pub power-all : {v p j : ℕ} → p ≡ v ^ j → p ≤ most_runs → j ≤ v → v ≤ j → p ≡ min (suc most_runs) (v ^ v)
power-all {v} {p} {j} e h k l = let z : v ^ j ≡ v ^ v = ap (λ (x : ℕ). v ^ x) (let y : j ≡ v = omega arith in y) in omega arith

-- ===== Paths by their marks =====
module _ (p : ℕ → Bool) where
  pub some-mem : (k : ℕ) (l : List ℕ) → mem eqb k l ≡ true → p k ≡ true → some_of p l ≡ true
  some-mem k [] m e = clash m refl
  some-mem k (x ∷ l) m e = go (either (eqb k x) (mem eqb k l) m) (some-mem k l)
    where
      go : Either (eqb k x) (mem eqb k l) → (mem eqb k l ≡ true → p k ≡ true → some_of p l ≡ true) → (p x || some_of p l) ≡ true
      go (one q) ih = or-one _ _ (ap p (sym (eqb-true k x q)) ∙ e)
      go (other q) ih = or-other (p x) _ (ih q e)

  pub mem-some : (l : List ℕ) → some_of p l ≡ true → (k : ℕ) × (mem eqb k l ≡ true) × (p k ≡ true)
  mem-some [] e = clash e refl
  mem-some (x ∷ l) e = go (either (p x) (some_of p l) e) (mem-some l)
    where
      go : Either (p x) (some_of p l) → (some_of p l ≡ true → (k : ℕ) × (mem eqb k l ≡ true) × (p k ≡ true)) → (k : ℕ) × (mem eqb k (x ∷ l) ≡ true) × (p k ≡ true)
      go (one q) ih = (x, or-one (eqb x x) _ (eq-eqb x x refl), q)
      go (other q) ih = let r = ih q in (r.0, or-other (eqb r.0 x) _ r.1, r.2)

  some_same : (l l' : List ℕ) → ((k : ℕ) → mem eqb k l ≡ true → mem eqb k l' ≡ true) → ((k : ℕ) → mem eqb k l' ≡ true → mem eqb k l ≡ true) → some_of p l ≡ some_of p l'
  some_same l l' f g = go (flag (some_of p l)) (flag (some_of p l'))
    where
      go : Flag (some_of p l) → Flag (some_of p l') → some_of p l ≡ some_of p l'
      go (is_true a) (is_true b) = a ∙ sym b
      go (is_true a) (is_false b) = let r = mem-some l a in clash (some-mem r.0 l' (f r.0 r.1) r.2) b
      go (is_false a) (is_true b) = let r = mem-some l' b in clash (some-mem r.0 l (g r.0 r.1) r.2) a
      go (is_false a) (is_false b) = a ∙ sym b

winning-in : (wins : List ℕ) (m k : ℕ) → k < m → is_marked wins k ≡ true → mem eqb k (winning wins m) ≡ true
unfolding winning
winning-in wins zero k h e = absurd (omega arith)
winning-in wins (suc m) k h e = go (flag (eqb (get_or wins m 0) 0)) (cmp k m) (winning-in wins m k)
  where
    go : Flag (eqb (get_or wins m 0) 0) → Cmp k m → (k < m → is_marked wins k ≡ true → mem eqb k (winning wins m) ≡ true)
        → mem eqb k (cond (eqb (get_or wins m 0) 0) (winning wins m) (m ∷ winning wins m)) ≡ true
    go (is_true q) (below l) ih = rw q (ih l e)
    go (is_true q) (equal l) ih = clash e (rw (l, q))
    go (is_false q) (below l) ih = rw q (or-other (eqb k m) _ (ih l e))
    go (is_false q) (equal l) ih = rw q (or-one (eqb k m) _ (eq-eqb k m l))
    go q (above l) ih = absurd (omega arith)

in-winning : (wins : List ℕ) (m k : ℕ) → mem eqb k (winning wins m) ≡ true → (k < m) × (is_marked wins k ≡ true)
unfolding winning
in-winning wins zero k e = clash e refl
in-winning wins (suc m) k e = go (flag (eqb (get_or wins m 0) 0)) (in-winning wins m k)
  where
    last : eqb (get_or wins m 0) 0 ≡ false → Either (eqb k m) (mem eqb k (winning wins m))
        → (mem eqb k (winning wins m) ≡ true → (k < m) × (is_marked wins k ≡ true)) → (k < suc m) × (is_marked wins k ≡ true)
    last q (one x) ih = let y = eqb-true k m x in (omega arith, rw (y, q))
    last q (other x) ih = let r = ih x in (omega (arith, r.0), r.1)

    go : Flag (eqb (get_or wins m 0) 0) → (mem eqb k (winning wins m) ≡ true → (k < m) × (is_marked wins k ≡ true)) → (k < suc m) × (is_marked wins k ≡ true)
    go (is_true q) ih = let r = ih (rw q at e) in (omega (arith, r.0), r.1)
    go (is_false q) ih = last q (either (eqb k m) _ (rw q at e)) ih

-- ===== Answers =====
abbrev pick : Bool → Bool → Bool → Bool → Diagram → Outcome Diagram
pick a b c e x = cond a (refused Paths) (cond b (refused Kinds) (cond c (refused Runs) (cond e (refused Combinations) (ok x))))

module _ (ar : List ℕ) (d : Diagram) where
  answer-pick : reduce_answer ar d ≡ pick (ltb most_paths (length (paths d))) (has_kinds ar d) (ltb most_runs (runs ar d)) (ltb most_formed (formed ar d)) (reduced_diagram ar d)
  unfolding reduce_answer
  answer-pick = refl

  pub answer-paths : most_paths < length (paths d) → reduce_answer ar d ≡ refused Paths
  answer-paths h =
      answer-pick
      ∙ ap (λ (a : Bool). pick a (has_kinds ar d) (ltb most_runs (runs ar d)) (ltb most_formed (formed ar d)) (reduced_diagram ar d)) (lt-ltb most_paths (length (paths d)) h)

  module _ (h : length (paths d) ≤ most_paths) where
    few : ltb most_paths (length (paths d)) ≡ false
    few = le-ltb most_paths (length (paths d)) h

    pub answer-kinds : has_kinds ar d ≡ true → reduce_answer ar d ≡ refused Kinds
    answer-kinds p = answer-pick ∙ ap₂ (λ (a b : Bool). pick a b (ltb most_runs (runs ar d)) (ltb most_formed (formed ar d)) (reduced_diagram ar d)) few p

    module _ (p : has_kinds ar d ≡ false) where
      pub answer-runs : most_runs < runs ar d → reduce_answer ar d ≡ refused Runs
      answer-runs l =
          answer-pick ∙ ap₂ (λ (a b : Bool). pick a b (ltb most_runs (runs ar d)) (ltb most_formed (formed ar d)) (reduced_diagram ar d)) few p
          ∙ ap (λ (c : Bool). pick false false c (ltb most_formed (formed ar d)) (reduced_diagram ar d)) (lt-ltb most_runs (runs ar d) l)

      answer-plain : runs ar d ≤ most_runs → reduce_answer ar d ≡ cond (ltb most_formed (formed ar d)) (refused Combinations) (ok (reduced_diagram ar d))
      answer-plain l =
          answer-pick ∙ ap₂ (λ (a b : Bool). pick a b (ltb most_runs (runs ar d)) (ltb most_formed (formed ar d)) (reduced_diagram ar d)) few p
          ∙ ap (λ (c : Bool). pick false false c (ltb most_formed (formed ar d)) (reduced_diagram ar d)) (le-ltb most_runs (runs ar d) l)

-- ===== `reduce_plain` =====
module _ {ar ws counts used : List ℕ} {n m v all : ℕ} {out work : List ℕ} (g : Plain ar ws counts used n m v all out work) where
  valid : Valid ar ws
  valid = listing-is-valid ar ws g.listing

  abbrev d : Diagram
  d = diagram_of ws

  pub plain-winnable : (k : ℕ) → most_paths ≤ k → Winnable ar ws counts used (replicate k 0) n m v all
  plain-winnable k h = record {
    listing = g.listing;
    whole = g.whole;
    routed = g.routed;
    used = g.marks;
    count = g.count;
    power = g.power;
    few = g.few;
    places = omega (arith, g.routed.few, length-replicate {A = ℕ} k 0);
  }

  root_is : tree ws (n - 1) ≡ d
  root_is = let e : n - 1 ≡ pred (row_count ws) = omega (arith, g.whole, valid.some) in ap (tree ws) e ∙ sym (diagram-is ar ws valid)

  paths-are : length (paths d) ≡ m
  paths-are = ap (λ (y : Diagram). length (paths y)) (sym root_is) ∙ g.routed.all

  runs-are : runs ar d ≡ all * m
  unfolding runs
  runs-are = ap₂ (λ (x y : ℕ). x ^ x * y) (sym g.count) paths-are ∙ ap (λ (x : ℕ). x * m) (sym g.power)

  answer_at : (c : Bool) → ltb most_formed (formed ar d) ≡ c → reduce_answer ar d ≡ cond c (refused Combinations) (ok (reduced_diagram ar d))
  answer_at c e =
      answer-plain ar d (omega (arith, paths-are, g.routed.few)) g.kinds (omega (arith, runs-are, g.few))
      ∙ ap (λ (c : Bool). cond c (refused Combinations) (ok (reduced_diagram ar d))) e

  pub plain-edges : row_count ws * 2 ≤ most_rows * 2
  plain-edges = omega (arith, g.routed.rows.few, g.whole)

  pub plain-prunable : {edges : List ℕ} (k : ℕ) → most_rows * 2 ≤ k → length edges ≡ length {A = ℕ} (replicate k 0) → Prunable ar ws edges out work
  plain-prunable k h l = record {
    listing = g.listing;
    few = omega (arith, paths-are, g.routed.few);
    places = omega (arith, plain-edges, length-replicate {A = ℕ} k 0);
    out-room = g.out-room;
    work-room = g.work-room;
  }

  module _ {wins wins' : List ℕ} {x : ℕ} (w : Winning ar ws m wins wins' x) where
    pub plain-many : most_formed < x → ReduceCallAnswered ar ws out (Err Combinations) out
    plain-many h =
        let e : reduce_answer ar d ≡ refused Combinations = answer_at true (lt-ltb most_formed (formed ar d) (omega (arith, w.answer))) in
        record { answer = sym (ap answer_of e); words = sym (ap (buffer_of out) e) }

    pub plain-won : (k : ℕ) → most_paths ≤ k → length wins' ≡ length {A = ℕ} (replicate k 0) → Won ws counts wins' (row_count ws) m
    plain-won k h l = record {
      routed = subst (λ (k : ℕ). Routed ws counts k m) g.whole g.routed;
      places = omega (arith, g.routed.few, l, length-replicate {A = ℕ} k 0);
    }

    module _ (h : x ≤ most_formed) (clean : (p : ℕ) → get_or wins p 0 ≡ 0) where
      won-is : (p : ℕ) → p < m → is_marked wins' p ≡ mem eqb p (winners ar d)
      won-is p l = w.marks h p l ∙ ap (λ (y : ℕ). not (eqb y 0) || mem eqb p (winners ar d)) (clean p)

      stays-is : (r : Diagram) (b : Bool) → stays_in ws wins' m r b ≡ is_on d (winners ar d) r b
      unfolding is_on
      stays-is r b =
          ap (λ (y : Diagram). some_of (λ k. through r b (path_at y k)) (winning wins' m)) (ap (tree ws) (let z : row_count ws - 1 ≡ n - 1 = omega (arith, g.whole) in z) ∙ root_is)
          ∙ some_same (λ k. through r b (path_at d k)) (winning wins' m) (winners ar d)
          (λ k e. let z = in-winning wins' m k e in sym (won-is k z.0) ∙ z.1)
          (λ k e. let z : k < m = omega (arith, winner-below ar d k e, paths-are) in winning-in wins' m k z (won-is k z ∙ e))

      left_is : closed ar (kept_of (stays_in ws wins' m) d) ≡ reduced_diagram ar d
      unfolding kept_of reduced_diagram
      left_is = λ i. closed ar (reduced (keeping (λ r b. stays-is r b i) d))

      pub plain_done : {edges out' : List ℕ} {k : ℕ} → Agrees ws edges (stays_in ws wins' m)
          → ((stays : Diagram → Bool → Bool) → Agrees ws edges stays → Pruned ar ws stays out k out') → ReduceCallAnswered ar ws out (Ok k) out'
      plain_done a p =
          let t = p (stays_in ws wins' m) a in
          let e : reduce_answer ar d ≡ ok (reduced_diagram ar d) = answer_at false (le-ltb most_formed (formed ar d) (omega (arith, w.answer))) in
          record {
            answer = ap Ok (t.answer ∙ ap (λ (y : Diagram). length (rows y)) left_is) ∙ sym (ap answer_of e);
            words = t.words ∙ ap (λ (y : Diagram). written (listing y) out) left_is ∙ sym (ap (buffer_of out) e);
          }
