-- The search over two stored paths answers whether one covers the other.
use mathlib.Core.Path.{◌≡◌, sym, ap, subst, ◌∙◌}
use mathlib.Core.Bool.{Bool, true, false, not}
use mathlib.Core.List.{List, Memᴰ}
use Prim.Native.Nat.{ℕ, ◌+◌, ◌-◌, ◌≤◌, ◌<◌}
use native.Mathlib.Omega.{arith}
use lib.ListN.{length, get_or, take, drop, length-take}
use lib.Seq.{length-take-le, take-add, drop_at, get_or-take}
use Rattle.label.specs.Limits.{first_minimum}
use Rattle.label.specs.Labels.{are_arities}
use Rattle.diagram.specs.Validity.{tree}
use Rattle.diagram.specs.ListingValid.{listing-is-valid}
use Rattle.paths.specs.Paths.{Literal, Path, literals, terms_in}
use Rattle.paths.specs.CodeLaws.{codes-are}
use Rattle.cutting.specs.Match.{start, matches}
use Rattle.cutting.specs.Cut.{covers}
use Rattle.cutting.specs.Searchable.{Searchable, PathLabels}
use Rattle.cutting.proofs.CoverLaws.{searchable}
use Rattle.paths.specs.Inner.{AllInRange, Entered, literals_in}
use Rattle.paths.specs.Routes.{path_at}
use Rattle.matcher.specs.Covering.{Target, Held, Covering}
use Rattle.matcher.specs.Stored.{Marks, Enterable, Stored, Ready, BothStored, Answers}
use Rattle.matcher.specs.Parts.{Kinds, PartsPost, WaysPost}
use Rattle.matcher.proofs.StoreLaws.{listed-labels}
use Rattle.matcher.proofs.SomeWayLaws.{ways-fail}
use Rattle.matcher.proofs.CoversLaws.{both_terms, covers-setting, covers-order}

-- the literals behind the marks
front-literals : (into : List ℕ) (a : ℕ) → first_minimum + a ≤ length into → literals_in (drop first_minimum (take (first_minimum + a) into)) ≡ literals_in (take a (drop first_minimum into))
front-literals into a h =
    ap literals_in
    (ap (drop first_minimum) (take-add first_minimum a into) ∙ drop_at (take first_minimum into) (take a (drop first_minimum into)) first_minimum (length-take-le first_minimum into (omega arith)))

pub front_long : (into : List ℕ) (a : ℕ) → first_minimum + a ≤ length into → first_minimum + a ≡ length (take (first_minimum + a) into)
front_long into a h = sym (length-take-le (first_minimum + a) into h)

-- ===== search =====
module _ {into from : List ℕ} {a b : ℕ} (g : BothStored into a from b) where
  pub search-ready : {tab theta : List ℕ} → length tab ≡ first_minimum + first_minimum → length theta ≡ first_minimum → ((v : ℕ) → v < first_minimum → get_or theta v 0 ≡ v)
      → Ready (take (first_minimum + b - first_minimum) (drop first_minimum from)) (take (first_minimum + a) into) tab theta
  search-ready x y same = record {
    few = omega (arith, length-take (first_minimum + b - first_minimum) (drop first_minimum from), g.few);
    ranged = let e : b ≡ first_minimum + b - first_minimum = omega arith in subst (λ (i : ℕ). AllInRange first_minimum (take i (drop first_minimum from))) e g.ranged;
    sorted = g.sorted;
    tab-room = omega arith;
    theta-room = omega arith;
    stays = λ v h. same v (omega arith);
  }

  -- the literals behind the marks
  into-literals : literals_in (drop first_minimum (take (first_minimum + a) into)) ≡ literals_in (take a (drop first_minimum into))
  into-literals = front-literals into a g.into-room

  module _ (ar : List ℕ) (p : Path) (sp : Stored ar p into a) where
    into-marks : Marks ar (λ t. get_or (take (first_minimum + a) into) t 0) (literals p)
    into-marks = record { below = sp.marks.below; has = has; of = of }
      where
        same : (t : ℕ) → t < first_minimum → get_or (take (first_minimum + a) into) t 0 ≡ get_or into t 0
        same t h = get_or-take (first_minimum + a) into t 0 (omega arith)

        has : (t : ℕ) → Memᴰ t (terms_in ar (literals p)) → 0 < get_or (take (first_minimum + a) into) t 0
        has t m = omega (arith, same t (sp.marks.below t m), sp.marks.has t m)

        of : (t : ℕ) → t < first_minimum → 0 < get_or (take (first_minimum + a) into) t 0 → Memᴰ t (terms_in ar (literals p))
        of t h m = sp.marks.of t h (omega (arith, same t h))

  tab-marks : (tab : List ℕ) → ((t : ℕ) → t < first_minimum → get_or tab (first_minimum + t) 0 ≡ get_or from t 0) → (ar : List ℕ) (q : Path) → Stored ar q from b
      → Marks ar (λ t. get_or tab (first_minimum + t) 0) (literals q)
  tab-marks tab copied ar q sq = record {
    below = sq.marks.below;
    has = λ t m. omega (arith, copied t (sq.marks.below t m), sq.marks.has t m);
    of = λ t h m. sq.marks.of t h (omega (arith, copied t h));
  }

  module _ {tab : List ℕ} (copied : (t : ℕ) → t < first_minimum → get_or tab (first_minimum + t) 0 ≡ get_or from t 0) where
    pub search-answers : {r : Bool} → PartsPost (take (first_minimum + b - first_minimum) (drop first_minimum from)) (take (first_minimum + a) into) tab r → Answers into a from b r
    search-answers {r} s = record { each = each }
      where
        each : (ar : List ℕ) → are_arities ar ≡ true → (p q : Path) → PathLabels ar p → PathLabels ar q → Stored ar p into a → Stored ar q from b → r ≡ covers ar p q
        each ar good p q np nq sp sq =
            s.answer ar (both_terms ar good p q np nq)
            (covers-setting ar good p q np nq first (λ l m. subst (Memᴰ l) second m) (into-marks ar p sp) (tab-marks tab copied ar q sq))
            ∙ ap (λ (ls : List Literal). matches ar ls (both_terms ar good p q np nq) (literals_in (take (first_minimum + b - first_minimum) (drop first_minimum from))) start) first
            ∙ covers-order ar good p q np nq (literals_in (take (first_minimum + b - first_minimum) (drop first_minimum from)))
            (λ l m. subst (Memᴰ l) second m) (λ l m. subst (Memᴰ l) (sym second) m)
          where
            first : literals_in (drop first_minimum (take (first_minimum + a) into)) ≡ literals p
            first = into-literals ∙ sp.are

            second : literals_in (take (first_minimum + b - first_minimum) (drop first_minimum from)) ≡ literals q
            second = let e : first_minimum + b - first_minimum ≡ b = omega arith in ap (λ (i : ℕ). literals_in (take i (drop first_minimum from))) e ∙ sq.are

-- ===== target =====

-- marks of the kinds of a path's literals are those of the path that is held
pub target-held : {ar ws counts : List ℕ} {n k : ℕ} {out into kinds : List ℕ} {a : ℕ} → Enterable ar ws counts n k out → Stored ar (path_at (tree ws (n - 1)) k) into a
    → first_minimum + a ≤ length into → Kinds (take (first_minimum + a) into) kinds (length (take (first_minimum + a) into))
    → Held ar (path_at (tree ws (n - 1)) k) into a kinds
target-held g s h m = record {
  target = record { room = h; sorted = s.sorted; kind-room = m.room };
  labels = listed-labels g.listed g.whole g.path;
  stored = s;
  marked = m;
}

-- ===== covers =====
module _ {ar ws counts : List ℕ} {n k : ℕ} {out : List ℕ} (g : Enterable ar ws counts n k out) where
  abbrev second-path : Path
  second-path = path_at (tree ws (n - 1)) k

  good : are_arities ar ≡ true
  good = (listing-is-valid ar ws g.listed).arities

  second-labels : PathLabels ar second-path
  second-labels = listed-labels g.listed g.whole g.path

  -- a literal without a way: nothing is covered
  pub covers-none : {into kinds from₀ from : List ℕ} {a b : ℕ} {r : Bool} → Entered ws (n - 1) k from₀ from first_minimum b
      → WaysPost (take (first_minimum + b - first_minimum) (drop first_minimum from)) kinds r → not r ≡ true → Covering ar into a kinds (path_at (tree ws (n - 1)) k) false
  covers-none {into} {kinds} {from₀} {from} {a} {b} y w z = record { each = each }
    where
      each : (p : Path) → Held ar p into a kinds → false ≡ covers ar p second-path
      each p x =
          ways-fail w x.marked z ar T (subst (λ (ls : List Literal). Searchable ar ls T) (sym first) (searchable ar (literals p) (literals second-path) good x.labels.each))
          ∙ ap (λ (ls : List Literal). matches ar ls T ord start) first
          ∙ covers-order ar good p second-path x.labels second-labels ord (λ l m. subst (Memᴰ l) second m) (λ l m. subst (Memᴰ l) (sym second) m)
        where
          T : List ℕ
          T = both_terms ar good p second-path x.labels second-labels

          ord : List Literal
          ord = literals_in (take (first_minimum + b - first_minimum) (drop first_minimum from))

          first : literals_in (drop first_minimum (take (first_minimum + a) into)) ≡ literals p
          first = front-literals into a x.target.room ∙ x.stored.are

          second : literals_in (take (first_minimum + b - first_minimum) (drop first_minimum from)) ≡ literals second-path
          second =
              let e : first_minimum + b - first_minimum ≡ b = omega arith in
              ap (λ (i : ℕ). literals_in (take i (drop first_minimum from))) e ∙ ap literals_in y.are ∙ codes-are second-path

  -- both paths are stored
  pub covers-stored : {into kinds from : List ℕ} {a b : ℕ} → Target into a kinds → Stored ar (path_at (tree ws (n - 1)) k) from b → first_minimum + b ≤ length from → BothStored into a from b
  covers-stored t s h = record { into-room = t.room; sorted = t.sorted; from-room = h; ranged = s.ranged; few = s.few }

  pub covers-answer : {into kinds from : List ℕ} {a b : ℕ} {r : Bool} → Stored ar (path_at (tree ws (n - 1)) k) from b → Answers into a from b r
      → Covering ar into a kinds (path_at (tree ws (n - 1)) k) r
  covers-answer s t = record { each = λ p x. t.each ar good p second-path x.labels second-labels x.stored s }
