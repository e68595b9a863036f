-- An edge may go, by the numbers of the paths.
use Rattle.std.specs.Prelude.{◌≡◌, Bool, true, false, not, List, [], ◌∷◌, ◌++◌, map, get_or, eqb}
use Rattle.std.proofs.Math.Path.{refl, ap, ap₂}
use Rattle.std.proofs.Common.{sym, ◌∙◌, arith}
use Rattle.std.proofs.Math.Bool.{◌&&◌, ◌||◌, cond, or-false}
use Prim.Native.Nat.{ℕ, zero, suc, ◌+◌, ◌-◌, ◌*◌, ◌≤◌, ◌<◌}
use borrow.Author.Tests.{eqb-true, eqb-false}
use Rattle.basics.specs.Tests.{Flag, is_true, is_false, flag}
use Rattle.diagram.specs.Diagram.{Diagram, leaf, branch, same}
use Rattle.diagram.specs.Words.{label_at, high_at, low_at, up_to}
use Rattle.diagram.specs.WordLaws.{map_snoc}
use Rattle.diagram.specs.Validity.{tree}
use Rattle.paths.specs.Paths.{Path, paths, through}
use Rattle.cutting.specs.Cut.{is_cover, is_free, some_path, every_path, may_go, target}
use Rattle.paths.specs.Inner.{Routed, Sided}
use Rattle.paths.specs.Routes.{path_at}
use Rattle.paths.specs.PathLaws.{paths-are}
use Rattle.cut.specs.Choosing.{path_of, Edged, is_cover_on, cover_below, is_free_on, free_below}

-- tests over one more path
and-true : (a : Bool) → (a && true) ≡ a
and-true true = refl
and-true false = refl

or-or : (a b c : Bool) → (a || (b || c)) ≡ ((a || b) || c)
or-or true b c = refl
or-or false b c = refl

and-and : (a b c : Bool) → (a && (b && c)) ≡ ((a && b) && c)
and-and true b c = refl
and-and false b c = refl

some_more : (f : Path → Bool) (l : List Path) (p : Path) → some_path f (l ++ (p ∷ [])) ≡ (some_path f l || f p)
some_more f [] p = or-false (f p)
some_more f (q ∷ l) p = ap (λ (b : Bool). f q || b) (some_more f l p) ∙ or-or (f q) (some_path f l) (f p)

every_more : (f : Path → Bool) (l : List Path) (p : Path) → every_path f (l ++ (p ∷ [])) ≡ (every_path f l && f p)
every_more f [] p = and-true (f p)
every_more f (q ∷ l) p = ap (λ (b : Bool). f q && b) (every_more f l p) ∙ and-and (f q) (every_path f l) (f p)

-- a path goes through the edge if its side is the edge's
side-is : {r : Diagram} {p : Path} {s : ℕ} (side : ℕ) → 1 ≤ side → side ≤ 2 → Sided r p s → through r (eqb side 1) p ≡ eqb s side
side-is {r} {p} {s} side h k d = go (flag (eqb side 1))
  where
    go : Flag (eqb side 1) → through r (eqb side 1) p ≡ eqb s side
    go (is_true e) = rw (e, eqb-true side 1 e) d.on-true
    go (is_false e) = let q : side ≡ 2 = omega (arith, eqb-false side 1 e) in rw (e, q) d.on-false

module _ (ar : List ℕ) {ws counts sides : List ℕ} {n m r side : ℕ} (w : Routed ws counts n m) (e : Edged ws sides n m r side) where
  abbrev Root : Diagram
  Root = tree ws (n - 1)

  abbrev Side : Bool
  Side = eqb side 1

  through-is : (p : ℕ) → p < m → through (tree ws r) Side (path_of ws n p) ≡ eqb (get_or sides p 0) side
  through-is p h = side-is side e.low e.high (e.on.each p h)

  cover-is : (p q : ℕ) → q < m → is_cover ar (tree ws r) Side (path_of ws n p) (path_of ws n q) ≡ is_cover_on ar ws n sides side p q
  unfolding is_cover is_cover_on
  cover-is p q h = rw (through-is q h)

  some_below : (p k : ℕ) → k ≤ m → some_path (is_cover ar (tree ws r) Side (path_of ws n p)) (map (path_at Root) (up_to k)) ≡ cover_below ar ws n sides side p k
  unfolding cover_below
  some_below p zero h = refl
  some_below p (suc k) h =
      ap (some_path (is_cover ar (tree ws r) Side (path_of ws n p))) (map_snoc (path_at Root) (up_to k) k)
      ∙ some_more (is_cover ar (tree ws r) Side (path_of ws n p)) (map (path_at Root) (up_to k)) (path_of ws n k)
      ∙ ap₂ ◌||◌ (some_below p k (omega arith)) (cover-is p k (omega arith))

  all-paths : paths Root ≡ map (path_at Root) (up_to m)
  all-paths = paths-are Root ∙ ap (λ (k : ℕ). map (path_at Root) (up_to k)) w.all

  free-is : (p : ℕ) → p < m → is_free ar (tree ws r) Side (paths Root) (path_of ws n p) ≡ is_free_on ar ws n sides side m p
  unfolding is_free is_free_on
  free-is p h = rw (all-paths, through-is p h, some_below p m (omega arith))

  every-below : (k : ℕ) → k ≤ m → every_path (is_free ar (tree ws r) Side (paths Root)) (map (path_at Root) (up_to k)) ≡ free_below ar ws n sides side m k
  unfolding free_below
  every-below zero h = refl
  every-below (suc k) h =
      ap (every_path (is_free ar (tree ws r) Side (paths Root))) (map_snoc (path_at Root) (up_to k) k)
      ∙ every_more (is_free ar (tree ws r) Side (paths Root)) (map (path_at Root) (up_to k)) (path_of ws n k)
      ∙ ap₂ ◌&&◌ (every-below k (omega arith)) (free-is k (omega arith))

  -- where the edge goes
  child : tree ws (get_or ws (r * 3 + side) 0) ≡ target Side (tree ws (high_at ws r)) (tree ws (low_at ws r))
  unfolding high_at low_at
  child = go (flag (eqb side 1))
    where
      go : Flag (eqb side 1) → tree ws (get_or ws (r * 3 + side) 0) ≡ cond (eqb side 1) (tree ws (get_or ws (r * 3 + 1) 0)) (tree ws (get_or ws (r * 3 + 2) 0))
      go (is_true x) = rw (x, eqb-true side 1 x)
      go (is_false x) = let q : side ≡ 2 = omega (arith, eqb-false side 1 x, e.low, e.high) in rw (x, q)

  branch-is : tree ws r ≡ branch (label_at ws r) (tree ws (high_at ws r)) (tree ws (low_at ws r))
  branch-is = w.rows.shown.branches r e.row e.branch

  pub child-before : get_or ws (r * 3 + side) 0 < n
  unfolding high_at low_at
  child-before = go (flag (eqb side 1))
    where
      kids : (get_or ws (r * 3 + 1) 0 < r) × (get_or ws (r * 3 + 2) 0 < r)
      kids = w.rows.shown.kids r e.row e.branch

      go : Flag (eqb side 1) → get_or ws (r * 3 + side) 0 < n
      go (is_true x) = rw (eqb-true side 1 x) (omega (arith, kids.0, e.row))
      go (is_false x) = let q : side ≡ 2 = omega (arith, eqb-false side 1 x, e.low, e.high) in rw q (omega (arith, kids.1, e.row))

  may-branch : (d : Diagram) (b : Bool) (l : ℕ) (t f : Diagram)
      → may_go ar d b (branch l t f) ≡ (not (same (target b t f) (leaf 0)) && every_path (is_free ar (branch l t f) b (paths d)) (paths d))
  unfolding may_go
  may-branch d b l t f = refl

  pub may-go-is : may_go ar Root Side (tree ws r) ≡ (not (same (tree ws (get_or ws (r * 3 + side) 0)) (leaf 0)) && free_below ar ws n sides side m m)
  may-go-is =
      ap (may_go ar Root Side) branch-is
      ∙ may-branch Root Side (label_at ws r) (tree ws (high_at ws r)) (tree ws (low_at ws r))
      ∙ ap₂ (λ (x : Diagram) (y : Diagram). not (same x (leaf 0)) && every_path (is_free ar y Side (paths Root)) (paths Root)) (sym child) (sym branch-is)
      ∙ ap (λ (b : Bool). not (same (tree ws (get_or ws (r * 3 + side) 0)) (leaf 0)) && b)
      (ap (every_path (is_free ar (tree ws r) Side (paths Root))) all-paths ∙ every-below m (omega arith))
