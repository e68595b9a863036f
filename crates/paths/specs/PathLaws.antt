-- Laws of paths: how many there are, paths by their numbers, and the rows of a listing that the walk takes.
use Rattle.std.specs.Prelude.{◌≡◌, ◌⊎◌, true, false, ℕ, zero, suc, ◌+◌, ◌-◌, ◌*◌, ◌/◌, ◌≤◌, ◌<◌, length, get_or}
use Rattle.std.proofs.Math.Path.{refl}
use Rattle.std.proofs.Common.{sym, ap, subst, ◌∙◌, inl, inr, arith, length-append, ext_get_or, get_or-append-add, lt-ltb, le-ltb}
use mathlib.Core.List.Memᴰ
use mathlib.Core.List.{List, [], ◌∷◌, ◌++◌, map, Memᴰ}
use Rattle.std.proofs.lemmas.List.{length-map}
use Rattle.std.proofs.Math.ListN.{get_or-append}
use Rattle.basics.specs.Tests.{Flag, is_true, is_false, flag, Cmp, cmp, below, equal, above}
use Rattle.basics.specs.Members.{mem}
use Rattle.label.specs.Limits.{term_end, predicate_count, predicate_weight}
use Rattle.label.specs.Labels.{is_label, predicate_of, unpacked, terms_of}
use Rattle.label.proofs.LabelLaws.{place_of, predicate-of, label-fits, place_end}
use Rattle.label.proofs.ArityLaws.{terms-are}
use Rattle.diagram.specs.Diagram.{Diagram, leaf, branch, same}
use Rattle.diagram.specs.DiagramLaws.{onto-old, onto-leaf, onto-branch}
use Rattle.diagram.specs.Rows.{onto, rows}
use Rattle.diagram.specs.RowLists.{row_tree}
use Rattle.diagram.specs.Words.{label_at, row_count, up_to, is_listing}
use Rattle.diagram.specs.WordLaws.{length-up_to, get_d_map, get_d-up_to}
use Rattle.diagram.specs.Listing.{diagram_of}
use Rattle.diagram.specs.Validity.{tree}
use Rattle.diagram.specs.RowDiagrams.{branch_row}
use Rattle.diagram.specs.DiagramOfListing.{valid-rows, shown-rows, rows_are}
use Rattle.diagram.specs.ListingValid.{listing-is-valid}
use Rattle.paths.specs.Paths.{Step, Path, step_before, paths, literals, literal_of}
use Rattle.paths.specs.Inner.{bit, code_of, codes, InRange, label_end, Rows}
use Rattle.paths.specs.Routes.{step_on, path_at}

-- members of a list under a map
pub mem-map : {A B : Type 0} (f : A → B) (l : List A) (a : A) → Memᴰ a l → Memᴰ (f a) (map f l)
mem-map {A = A} {B = B} f [] a x' = elim x' [ ]
mem-map f (x ∷ l) a (Memᴰ.head e) = Memᴰ.head (ap f e)
mem-map f (x ∷ l) a (Memᴰ.tail m) = Memᴰ.tail (mem-map f l a m)

pub mem-unmap : {A B : Type 0} (f : A → B) (l : List A) (b : B) → Memᴰ b (map f l) → (a : A) × Memᴰ a l × (b ≡ f a)
mem-unmap {A = A} {B = B} f [] b x' = elim x' [ ]
mem-unmap f (x ∷ l) b (Memᴰ.head e) = (x, Memᴰ.head refl, e)
mem-unmap f (x ∷ l) b (Memᴰ.tail m) = let r = mem-unmap f l b m in (r.0, Memᴰ.tail r.1, r.2)

-- ===== Counts =====
pub paths-leaf : (v : ℕ) → length (paths (leaf v)) ≡ 1
unfolding paths
paths-leaf v = refl

pub paths-branch : (l : ℕ) (t f : Diagram) → length (paths (branch l t f)) ≡ length (paths t) + length (paths f)
unfolding paths
paths-branch l t f =
    length-append (map (step_before (record { from = branch l t f; label = l; side = true })) (paths t)) _
    ∙ omega (
      arith,
      length-map (paths t) (step_before (record { from = branch l t f; label = l; side = true })),
      length-map (paths f) (step_before (record { from = branch l t f; label = l; side = false })),
    )

pub paths-some : (d : Diagram) → 1 ≤ length (paths d)
paths-some (leaf v) = omega (arith, paths-leaf v)
paths-some (branch l t f) = omega (arith, paths-branch l t f, paths-some t)

-- a diagram has fewer rows than twice its paths
onto-paths : (d : Diagram) (rs : List Diagram) → length (onto d rs) + 1 ≤ length rs + length (paths d) * 2
onto-paths (leaf v) rs = go (flag (mem same (leaf v) rs))
  where
    go : Flag (mem same (leaf v) rs) → length (onto (leaf v) rs) + 1 ≤ length rs + length (paths (leaf v)) * 2
    go (is_true e) = rw (onto-old (leaf v) rs e) (omega (arith, paths-leaf v))
    go (is_false e) = rw (onto-leaf v rs e) (omega (arith, paths-leaf v, length-append rs (leaf v ∷ [])))
onto-paths (branch l t f) rs = go (flag (mem same (branch l t f) rs)) (onto-paths t rs) (onto-paths f (onto t rs))
  where
    go : Flag (mem same (branch l t f) rs) → length (onto t rs) + 1 ≤ length rs + length (paths t) * 2
        → length (onto f (onto t rs)) + 1 ≤ length (onto t rs) + length (paths f) * 2
        → length (onto (branch l t f) rs) + 1 ≤ length rs + length (paths (branch l t f)) * 2
    go (is_true e) h k = rw (onto-old (branch l t f) rs e) (omega (arith, paths-some (branch l t f)))
    go (is_false e) h k =
        rw (onto-branch l t f rs e) (omega (arith, paths-branch l t f, length-append (onto f (onto t rs)) (branch l t f ∷ [])))

pub rows-paths : (d : Diagram) → length (rows d) + 1 ≤ length (paths d) * 2
unfolding rows
rows-paths d = omega (arith, onto-paths d [])

-- a path has fewer steps than there are paths
pub path-short : (d : Diagram) (p : Path) → Memᴰ p (paths d) → length p.steps < length (paths d)
unfolding paths step_before
path-short (leaf v) p (Memᴰ.tail x5) = elim x5 [ ]
path-short (leaf v) p (Memᴰ.head e) = rw e (omega arith)
path-short (branch l t f) p m = go (Memᴰ.append_cases (map (step_before high) (paths t)) m) (path-short t) (path-short f)
  where
    high : Step
    high = record { from = branch l t f; label = l; side = true }

    low : Step
    low = record { from = branch l t f; label = l; side = false }

    go : Memᴰ p (map (step_before high) (paths t)) ⊎ Memᴰ p (map (step_before low) (paths f))
        → ((q : Path) → Memᴰ q (paths t) → length q.steps < length (paths t)) → ((q : Path) → Memᴰ q (paths f) → length q.steps < length (paths f))
        → length p.steps < length (paths (branch l t f))
    go (inl n) rt rf =
        let u = mem-unmap (step_before high) (paths t) p n in
        omega (arith, ap (λ (q : Path). length q.steps) u.2, rt u.0 u.1, paths-branch l t f, paths-some f)
    go (inr n) rt rf =
        let u = mem-unmap (step_before low) (paths f) p n in
        omega (arith, ap (λ (q : Path). length q.steps) u.2, rf u.0 u.1, paths-branch l t f, paths-some t)

-- ===== Paths by number =====
pub path-high : (l k : ℕ) (t f : Diagram) → k < length (paths t) → path_at (branch l t f) k ≡ step_before (step_on true l t f) (path_at t k)
unfolding path_at
path-high l k t f h = rw (lt-ltb k (length (paths t)) h)

pub path-low : (l k : ℕ) (t f : Diagram) → length (paths t) ≤ k → path_at (branch l t f) k ≡ step_before (step_on false l t f) (path_at f (k - length (paths t)))
unfolding path_at
path-low l k t f h = rw (le-ltb k (length (paths t)) h)

pub path-in : (d : Diagram) (k : ℕ) → k < length (paths d) → Memᴰ (path_at d k) (paths d)
unfolding path_at paths
path-in (leaf v) k h = Memᴰ.head refl
path-in (branch l t f) k h = go (cmp k (length (paths t))) (path-in t) (path-in f)
  where
    low : length (paths t) ≤ k → ((j : ℕ) → j < length (paths f) → Memᴰ (path_at f j) (paths f)) → Memᴰ (path_at (branch l t f) k) (paths (branch l t f))
    low q rf = subst (λ (p : Path). Memᴰ p (paths (branch l t f))) (sym (path-low l k t f q))
        (Memᴰ.append_right (map (step_before (step_on true l t f)) (paths t)) (mem-map (step_before (step_on false l t f)) (paths f) _ (rf (k - length (paths t)) (omega (arith, paths-branch l t f)))))

    go : Cmp k (length (paths t)) → ((j : ℕ) → j < length (paths t) → Memᴰ (path_at t j) (paths t)) → ((j : ℕ) → j < length (paths f) → Memᴰ (path_at f j) (paths f))
        → Memᴰ (path_at (branch l t f) k) (paths (branch l t f))
    go (below q) rt rf = subst (λ (p : Path). Memᴰ p (paths (branch l t f))) (sym (path-high l k t f q))
        (Memᴰ.append_left (map (step_before (step_on false l t f)) (paths f)) (mem-map (step_before (step_on true l t f)) (paths t) _ (rt k q)))
    go (equal q) rt rf = low (omega arith) rf
    go (above q) rt rf = low (omega arith) rf

pub codes-length : (p : Path) → length (codes p) ≡ length p.steps
unfolding codes literals
codes-length p = length-map (map literal_of p.steps) code_of ∙ length-map p.steps literal_of

pub codes-step : (s : Step) (p : Path) → codes (step_before s p) ≡ (s.label * 2 + bit s.side) ∷ codes p
unfolding codes literals step_before code_of
codes-step s p = refl

-- the paths of a diagram by their numbers
module _ (l : ℕ) (t f : Diagram) (k : ℕ) (x : Path) where
  abbrev High : List Path
  High = map (step_before (step_on true l t f)) (paths t)

  abbrev Low : List Path
  Low = map (step_before (step_on false l t f)) (paths f)

  long : length High ≡ length (paths t)
  long = length-map (paths t) (step_before (step_on true l t f))

  paths-both : paths (branch l t f) ≡ High ++ Low
  unfolding paths
  paths-both = refl

  number-high : k < length (paths t) → get_or (paths t) k x ≡ path_at t k → get_or (paths (branch l t f)) k x ≡ path_at (branch l t f) k
  number-high q e =
      ap (λ (ps : List Path). get_or ps k x) paths-both ∙ get_or-append High Low x k (omega (arith, long)) ∙ get_d_map (step_before (step_on true l t f)) (paths t) k x x q
      ∙ ap (step_before (step_on true l t f)) e ∙ sym (path-high l k t f q)

  number-low : length (paths t) ≤ k → k - length (paths t) < length (paths f) → get_or (paths f) (k - length (paths t)) x ≡ path_at f (k - length (paths t))
      → get_or (paths (branch l t f)) k x ≡ path_at (branch l t f) k
  number-low q b e =
      let j = k - length (paths t) in
      let i : k ≡ length High + j = omega (arith, long) in
      ap (λ (ps : List Path). get_or ps k x) paths-both ∙ ap (λ (i : ℕ). get_or (High ++ Low) i x) i ∙ get_or-append-add High Low j x
      ∙ get_d_map (step_before (step_on false l t f)) (paths f) j x x b ∙ ap (step_before (step_on false l t f)) e ∙ sym (path-low l k t f q)

pub path-number : (d : Diagram) (k : ℕ) (x : Path) → k < length (paths d) → get_or (paths d) k x ≡ path_at d k
unfolding paths path_at
path-number (leaf v) zero x h = refl
path-number (leaf v) (suc k) x h = absurd (omega arith)
path-number (branch l t f) k x h = go (cmp k (length (paths t))) (path-number t k x) (path-number f (k - length (paths t)) x)
  where
    rest : length (paths t) ≤ k → k - length (paths t) < length (paths f)
    rest q = omega (arith, paths-branch l t f)

    go : Cmp k (length (paths t)) → (k < length (paths t) → get_or (paths t) k x ≡ path_at t k)
        → (k - length (paths t) < length (paths f) → get_or (paths f) (k - length (paths t)) x ≡ path_at f (k - length (paths t)))
        → get_or (paths (branch l t f)) k x ≡ path_at (branch l t f) k
    go (below q) hi lo = number-high l t f k x q (hi q)
    go (equal q) hi lo = number-low l t f k x (omega arith) (rest (omega arith)) (lo (rest (omega arith)))
    go (above q) hi lo = number-low l t f k x (omega arith) (rest (omega arith)) (lo (rest (omega arith)))

pub paths-are : (d : Diagram) → paths d ≡ map (path_at d) (up_to (length (paths d)))
paths-are d =
    let n = length (paths d) in
    let x : Path = record { steps = []; end = 0 } in
    let l : length (up_to n) ≡ n = length-up_to n in
    ext_get_or x (paths d) (map (path_at d) (up_to n)) (sym (length-map (up_to n) (path_at d) ∙ l))
    (λ k h. path-number d k x h ∙ sym (get_d_map (path_at d) (up_to n) k 0 x (omega arith) ∙ ap (path_at d) (get_d-up_to n k h)))

-- ===== Labels in range =====

-- a label under an arity list is in range of the terms
pub label-range : (ar : List ℕ) (l : ℕ) → is_label ar l ≡ true → InRange term_end l
label-range ar l e = record {
  predicate = subst (λ (p : ℕ). p < predicate_count) (predicate-of l) (label-fits ar l e).predicate-fits;
  places = λ k h. place_end ar l k e h;
}

-- the terms of a label in range are below its end, under every list of arities
pub range-terms : (e : ℕ) (ar : List ℕ) (l : ℕ) → InRange e l → (t : ℕ) → Memᴰ t (terms_of ar (unpacked l)) → t < e
range-terms e ar l r = terms-are (λ t. t < e) ar (unpacked l) (λ k h i. subst (λ (t : ℕ). t < e) (sym (place_of l k i)) (r.places k i))

-- ===== The rows of a listing =====
-- a label has one of 32 predicates
label-most : (ar : List ℕ) (l : ℕ) → is_label ar l ≡ true → l < label_end
unfolding unpacked predicate_of
label-most ar l e =
    let h : l / predicate_weight < predicate_count = (label-fits ar l e).predicate-fits in
    omega arith

pub listing-rows : (ar ws : List ℕ) → is_listing ar ws ≡ true → Rows ws (row_count ws)
listing-rows ar ws e =
    let v = listing-is-valid ar ws e in
    record {
      room = omega (arith, v.whole);
      few = v.few;
      shown = shown-rows ar ws v;
      labels = λ i h n. label-most ar (label_at ws i) (branch_row ar ws (row_count ws) (valid-rows ar ws v) i h n).label;
    }

pub row_is : (ar ws : List ℕ) → is_listing ar ws ≡ true → (k : ℕ) → k < row_count ws → row_tree (rows (diagram_of ws)) k ≡ tree ws k
row_is ar ws e k h =
    ap (λ rs. row_tree rs k) (rows_are ar ws (listing-is-valid ar ws e))
    ∙ get_d_map (tree ws) (up_to (row_count ws)) k 0 (leaf 0) (omega (arith, length-up_to (row_count ws)))
    ∙ ap (tree ws) (get_d-up_to (row_count ws) k h)
