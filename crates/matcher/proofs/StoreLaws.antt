-- A path's literals behind the marks of its terms: they are in order, and the marks are those of its terms.
use mathlib.Core.Path.{◌≡◌, refl, sym, ap, subst, ◌∙◌}
use mathlib.Core.Bool.{Bool, true, false}
use mathlib.Core.List.{List, [], ◌∷◌, map, Memᴰ}
use Prim.Native.Nat.{ℕ, zero, suc, pred, ◌+◌, ◌-◌, ◌*◌, ◌/◌, ◌≤◌, ◌<◌}
use native.Mathlib.Omega.{arith}
use lib.ListN.{length, get_or, take, drop, length-take, length-drop}
use lib.Seq.{get_or-take, get_or-drop}
use Rattle.basics.specs.Tests.{Cmp, cmp, below, equal, above}
use Rattle.label.specs.Limits.{first_minimum}
use Rattle.label.specs.Labels.{unpacked, terms_of}
use Rattle.diagram.specs.Diagram.{Diagram, leaf, branch, From}
use Rattle.diagram.specs.Words.{label_at, row_count, is_listing}
use Rattle.diagram.specs.Variables.{is_plain}
use Rattle.diagram.specs.Validity.{Valid, tree}
use Rattle.diagram.specs.ListingValid.{listing-is-valid}
use Rattle.diagram.specs.DiagramOfListing.{valid-rows, diagram-is}
use Rattle.diagram.specs.RowDiagrams.{tree-from, tree-fine}
use Rattle.paths.specs.Paths.{Literal, Path, paths, literals, terms_in}
use Rattle.cutting.proofs.MatchLaws.{in-terms}
use Rattle.cutting.specs.Searchable.{PathLabels}
use Rattle.cutting.proofs.CoverLaws.{path-labels, path-plain}
use Rattle.paths.specs.CodeLaws.{half, codes-are}
use Rattle.paths.specs.PathLaws.{range-terms, paths-branch}
use Rattle.paths.specs.Inner.{bit, code_of, codes, At, Entered, InRange, literals_in}
use Rattle.paths.specs.Routes.{step_on, path_at}
use Rattle.matcher.specs.Stored.{terms_of_code, Coded, Marking, Enterable, Stored}
use Rattle.paths.specs.PathLaws.{path-in, path-high, path-low, codes-step}
use Rattle.matcher.proofs.CoversLaws.{of-terms}

-- ===== Literals and their numbers =====
-- ===== The numbers along a path ascend =====
abbrev Ascends : ℕ → List ℕ → Type 0
Ascends n [] = Unit {0}
Ascends n (x ∷ xs) = (n ≤ x / 2) × Ascends (suc (x / 2)) xs

ascends-at : (n : ℕ) (xs : List ℕ) (j : ℕ) → Ascends n xs → j < length xs → n ≤ get_or xs j 0 / 2
ascends-at n [] j a h = absurd (omega arith)
ascends-at n (x ∷ xs) zero a h = a.0
ascends-at n (x ∷ xs) (suc j) a h = omega (arith, a.0, ascends-at (suc (x / 2)) xs j a.1 (omega arith))

ascends-order : (n : ℕ) (xs : List ℕ) (i j : ℕ) → Ascends n xs → i < j → j < length xs → get_or xs i 0 < get_or xs j 0
ascends-order n [] i j a l h = absurd (omega arith)
ascends-order n (x ∷ xs) i zero a l h = absurd (omega arith)
ascends-order n (x ∷ xs) zero (suc j) a l h = omega (arith, ascends-at (suc (x / 2)) xs j a.1 (omega arith))
ascends-order n (x ∷ xs) (suc i) (suc j) a l h = ascends-order (suc (x / 2)) xs i j a.1 (omega arith) (omega arith)

codes-ascend : (n : ℕ) (d : Diagram) (k : ℕ) → From n d → k < length (paths d) → Ascends n (codes (path_at d k))
codes-ascend n (leaf v) k f h = subst (Ascends n) (sym none) tt
  where
    none : codes (path_at (leaf v) k) ≡ []
    none = unfold codes path_at literals in refl
codes-ascend n (branch l t f) k o h = go (cmp k (length (paths t))) (λ j. codes-ascend (suc l) t j o.1) (λ j. codes-ascend (suc l) f j o.2)
  where
    step : (b : Bool) (p : Path) → Ascends (suc l) (codes p) → Ascends n ((l * 2 + bit b) ∷ codes p)
    step b p a = let e = half l b in (omega (arith, e, o.0), subst (λ (m : ℕ). Ascends (suc m) (codes p)) (sym e) a)

    low : length (paths t) ≤ k → ((j : ℕ) → j < length (paths f) → Ascends (suc l) (codes (path_at f j))) → Ascends n (codes (path_at (branch l t f) k))
    low q rf =
        subst (Ascends n) (sym (ap codes (path-low l k t f q) ∙ codes-step (step_on false l t f) (path_at f (k - length (paths t)))))
        (step false (path_at f (k - length (paths t))) (rf (k - length (paths t)) (omega (arith, paths-branch l t f))))

    go : Cmp k (length (paths t)) → ((j : ℕ) → j < length (paths t) → Ascends (suc l) (codes (path_at t j))) → ((j : ℕ) → j < length (paths f) → Ascends (suc l) (codes (path_at f j)))
        → Ascends n (codes (path_at (branch l t f) k))
    go (below q) rt rf =
        subst (Ascends n) (sym (ap codes (path-high l k t f q) ∙ codes-step (step_on true l t f) (path_at t k))) (step true (path_at t k) (rt k q))
    go (equal q) rt rf = low (omega arith) rf
    go (above q) rt rf = low (omega arith) rf

-- ===== Marks =====
code-label : (ar : List ℕ) (ls : List Literal) (j : ℕ) → j < length (map code_of ls)
    → (l : Literal) × Memᴰ l ls × (get_or (map code_of ls) j 0 / 2 ≡ l.label)
unfolding code_of
code-label ar [] j h = absurd (omega arith)
code-label ar (l ∷ ls) zero h = (l, Memᴰ.head refl, half l.label l.sign)
code-label ar (l ∷ ls) (suc j) h = let r = code-label ar ls j (omega arith) in (r.0, Memᴰ.tail r.1, r.2)

label-code : (ls : List Literal) (l : Literal) → Memᴰ l ls → (j : ℕ) × (j < length (map code_of ls)) × (get_or (map code_of ls) j 0 / 2 ≡ l.label)
unfolding code_of
label-code [] l x' = elim x' [ ]
label-code (k ∷ ls) l (Memᴰ.head e) = (0, omega arith, half k.label k.sign ∙ ap (λ (x : Literal). x.label) (sym e))
label-code (k ∷ ls) l (Memᴰ.tail m) = let r = label-code ls l m in (suc r.0, omega (arith, r.1), r.2)

-- ===== enter_path =====
pub listed-labels : {ar ws : List ℕ} {n k : ℕ} → is_listing ar ws ≡ true → n ≡ row_count ws → At ws n (n - 1) k → PathLabels ar (path_at (tree ws (n - 1)) k)
listed-labels {ar} {ws} {n} {k} e w a =
    path-labels ar (tree ws (n - 1)) (tree-fine ar ws (row_count ws) (valid-rows ar ws (listing-is-valid ar ws e)) (n - 1) (omega (arith, a.row)))
    (path_at (tree ws (n - 1)) k) (path-in (tree ws (n - 1)) k a.path)

module _ {ar ws counts : List ℕ} {n k : ℕ} {out out₁ : List ℕ} {j : ℕ} (g : Enterable ar ws counts n k out) (e : Entered ws (n - 1) k out out₁ first_minimum j)
    (same : length out₁ ≡ length out) where
  valid : Valid ar ws
  valid = listing-is-valid ar ws g.listed

  root : n - 1 < row_count ws
  root = omega (arith, g.whole, g.path.row)

  abbrev p : Path
  p = path_at (tree ws (n - 1)) k

  -- no place of its labels has a minimum variable
  plain : (l : Literal) → Memᴰ l (literals p) → InRange first_minimum l.label
  plain =
      let r : n - 1 ≡ pred (row_count ws) = omega (arith, g.whole) in
      path-plain ar (tree ws (n - 1)) (tree-fine ar ws (row_count ws) (valid-rows ar ws valid) (n - 1) root)
      (ap (is_plain ar) (ap (tree ws) r ∙ sym (diagram-is ar ws valid)) ∙ g.plain) p (path-in (tree ws (n - 1)) k g.path.path)

  long : length (codes p) ≡ j
  long = sym (ap length e.are) ∙ length-take j (drop first_minimum out₁) ∙ omega (arith, length-drop first_minimum out₁, same, g.room, e.few)

  at : (i : ℕ) → i < j → get_or out₁ (first_minimum + i) 0 ≡ get_or (codes p) i 0
  at i h = sym (get_or-take j (drop first_minimum out₁) i 0 h ∙ get_or-drop first_minimum out₁ i 0) ∙ ap (λ (xs : List ℕ). get_or xs i 0) e.are

  pub enter-room : first_minimum + j ≤ length out₁
  enter-room = omega (arith, same, g.room, e.few)

  pub enter-coded : Coded ar out₁ j
  unfolding codes
  enter-coded = record {
    arities = valid.arities;
    room = omega (arith, same, g.room, e.few);
    few = e.few;
    ranged = ranged;
  }
    where
      ranged : (i : ℕ) → i < j → InRange first_minimum (get_or out₁ (first_minimum + i) 0 / 2)
      ranged i h =
          let r = code-label ar (literals p) i (omega (arith, long)) in
          subst (InRange first_minimum) (sym (ap (λ (x : ℕ). x / 2) (at i h) ∙ r.2)) (plain r.0 r.1)

  module _ {out₂ : List ℕ} (m : Marking ar out₁ out₂ j) where
    behind-at : (i : ℕ) → get_or out₂ (first_minimum + i) 0 ≡ get_or out₁ (first_minimum + i) 0
    behind-at i = sym (get_or-drop first_minimum out₂ i 0) ∙ ap (λ (xs : List ℕ). get_or xs i 0) m.behind ∙ get_or-drop first_minimum out₁ i 0

    count : length (take (first_minimum + j) out₂) ≡ first_minimum + j
    count = length-take (first_minimum + j) out₂ ∙ omega (arith, m.length-kept, same, g.room, e.few)

    into-code : (i : ℕ) → i < j → get_or (take (first_minimum + j) out₂) (first_minimum + i) 0 ≡ get_or (codes p) i 0
    into-code i h = get_or-take (first_minimum + j) out₂ (first_minimum + i) 0 (omega arith) ∙ behind-at i ∙ at i h

    same_code : (i : ℕ) → i < j → get_or (take (first_minimum + j) out₂) (first_minimum + i) 0 ≡ get_or out₁ (first_minimum + i) 0
    same_code i h = get_or-take (first_minimum + j) out₂ (first_minimum + i) 0 (omega arith) ∙ behind-at i

    code-range : (i : ℕ) → i < j → InRange first_minimum (get_or out₁ (first_minimum + i) 0 / 2)
    code-range i h = enter-coded.ranged i h

    ranged : (i : ℕ) → i < length (take j (drop first_minimum out₂)) → InRange first_minimum (get_or (take j (drop first_minimum out₂)) i 0 / 2)
    ranged i h =
        let q : i < j = omega (arith, length-take j (drop first_minimum out₂)) in
        subst (λ (y : ℕ). InRange first_minimum (y / 2)) (sym (get_or-take j (drop first_minimum out₂) i 0 q ∙ get_or-drop first_minimum out₂ i 0 ∙ behind-at i)) (code-range i q)

    terms-code : (i : ℕ) (l : Literal) → i < j → get_or (codes p) i 0 / 2 ≡ l.label → terms_of_code ar (get_or out₁ (first_minimum + i) 0) ≡ terms_of ar (unpacked l.label)
    unfolding terms_of_code
    terms-code i l h q = ap (λ (x : ℕ). terms_of ar (unpacked x)) (ap (λ (x : ℕ). x / 2) (at i h) ∙ q)

    pub stored-room : first_minimum + j ≤ length out₂
    stored-room = omega (arith, enter-room, m.length-kept)

    pub enter-stored : Stored ar (path_at (tree ws (n - 1)) k) out₂ j
    unfolding codes
    enter-stored = record {
      few = e.few;
      are = ap (λ (xs : List ℕ). literals_in (take j xs)) m.behind ∙ ap literals_in e.are ∙ codes-are p;
      sorted = record {
        room = omega (arith, count);
        order = order;
        ranged = λ i h. subst (λ (y : ℕ). InRange first_minimum (y / 2)) (sym (same_code i (omega (arith, count)))) (code-range i (omega (arith, count)));
      };
      ranged = record { each = ranged };
      marks = record { below = small; has = has; of = of };
    }
      where
        order : (x y : ℕ) → x < y → y < length (take (first_minimum + j) out₂) - first_minimum
            → get_or (take (first_minimum + j) out₂) (first_minimum + x) 0 < get_or (take (first_minimum + j) out₂) (first_minimum + y) 0
        order x y l h =
            let u : y < j = omega (arith, count) in
            omega (
              arith,
              into-code x (omega arith),
              into-code y u,
              ascends-order (label_at ws (n - 1)) (codes p) x y
                  (codes-ascend (label_at ws (n - 1)) (tree ws (n - 1)) k (tree-from ar ws (row_count ws) (valid-rows ar ws valid) (n - 1) root) g.path.path) l (omega (arith, long)),
            )

        small : (t : ℕ) → Memᴰ t (terms_in ar (literals p)) → t < first_minimum
        small t w = let o = of-terms ar (literals p) t w in range-terms first_minimum ar o.0.label (plain o.0 o.1) t o.2

        has : (t : ℕ) → Memᴰ t (terms_in ar (literals p)) → 0 < get_or out₂ t 0
        has t w =
            let o = of-terms ar (literals p) t w in
            let r = label-code (literals p) o.0 o.1 in
            let h : r.0 < j = omega (arith, r.1, long) in
            m.has r.0 t h (subst (Memᴰ t) (sym (terms-code r.0 o.0 h r.2)) o.2)

        of : (t : ℕ) → t < first_minimum → 0 < get_or out₂ t 0 → Memᴰ t (terms_in ar (literals p))
        of t h w =
            let r = m.of t h w in
            let c = code-label ar (literals p) r.0 (omega (arith, r.1, long)) in
            in-terms ar (literals p) c.0 t c.1 (subst (Memᴰ t) (terms-code r.0 c.0 r.1 c.2) r.2)
