-- Laws of the walk over the paths of a listing.
use mathlib.Core.Path.{◌≡◌, refl, sym, ap, subst, ◌∙◌}
use mathlib.Core.Bool.{Bool, true, false, not, ◌||◌, cond}
use mathlib.Core.List.{List, [], ◌∷◌, map, Memᴰ}
use Prim.Native.Nat.{ℕ, zero, suc, pred, ◌+◌, ◌-◌, ◌/◌, ◌≤◌, ◌<◌, min}
use native.Mathlib.Omega.{arith}
use lib.ListN.{length, get_or, take, replicate, length-replicate}
use lib.Seq.{length-take-le}
use lib.Dec.{eqb}
use borrow.Author.Tests.{eq-eqb, ne_eqb, lt-ltb, le-ltb}
use Rattle.basics.specs.Tests.{Flag, is_true, is_false, flag, or-one, Cmp, cmp, below, equal, above}
use Rattle.basics.specs.Members.{clash, mem}
use Rattle.label.specs.Labels.{is_label}
use Rattle.diagram.specs.Sizes.{most_rows}
use Rattle.diagram.specs.Diagram.{Diagram}
use Rattle.diagram.specs.Words.{row_count, up_to, is_listing}
use Rattle.diagram.specs.WordLaws.{in-up_to}
use Rattle.diagram.specs.Listing.{diagram_of}
use Rattle.diagram.specs.Validity.{Valid, tree}
use Rattle.diagram.specs.RowDiagrams.{tree-fine}
use Rattle.diagram.specs.DiagramOfListing.{diagram-is, valid-rows}
use Rattle.diagram.specs.ListingValid.{listing-is-valid}
use Rattle.paths.specs.Paths.{Literal, Path, paths, literals, most_paths}
use Rattle.paths.specs.Inner.{code_of, codes, Rows, Counted, At, Entered, literals_in}
use Rattle.paths.specs.Routes.{path_at}
use Rattle.paths.specs.CodeLaws.{half, codes-are}
use Rattle.paths.specs.PathLaws.{mem-unmap, path-in, paths-are, listing-rows}
use Rattle.cutting.specs.Searchable.{PathLabels}
use Rattle.cutting.proofs.CoverLaws.{path-labels, every-path-in, every-path-out}
use Rattle.contradiction.specs.Contradiction.{contradicts, passes, leads_to}
use Rattle.contradict.specs.declared.Led.TheVariants.{Only, Others, Many}
use Rattle.contradict.specs.Representing.{Labelled}
use Rattle.contradict.specs.Leading.{lead_answer, Route, Routed}

-- ===== Literals and their numbers =====

code-labels : (ar : List ℕ) (ls : List Literal) → ((l : Literal) → Memᴰ l ls → is_label ar l.label ≡ true)
    → (j : ℕ) → j < length (map code_of ls) → is_label ar (get_or (map code_of ls) j 0 / 2) ≡ true
unfolding code_of
code-labels ar [] a j h = absurd (omega arith)
code-labels ar (l ∷ ls) a zero h = ap (is_label ar) (half l.label l.sign) ∙ a l (Memᴰ.head refl)
code-labels ar (l ∷ ls) a (suc j) h = code-labels ar ls (λ k m. a k (Memᴰ.tail m)) j (omega arith)

-- ===== One path =====

module _ {ar ws counts : List ℕ} {n k : ℕ} (r : Route ar ws counts n k) where
  abbrev P : Path
  P = path_at (tree ws (n - 1)) k

  valid : Valid ar ws
  valid = listing-is-valid ar ws r.mapped.listed

  labelled : PathLabels ar P
  labelled = path-labels ar (tree ws (n - 1)) (tree-fine ar ws (row_count ws) (valid-rows ar ws valid) (n - 1) (omega (arith, r.path.row, r.mapped.whole))) P
      (path-in (tree ws (n - 1)) k r.path.path)

  pub route-into : (x : ℕ) → 0 + most_paths ≤ x → Rows ws n × (Counted ws counts n × (At ws n (n - 1) k × (0 + most_paths ≤ length {A = ℕ} (replicate x 0))))
  route-into x h = (r.mapped.rows, (r.mapped.counted, (r.path, rw length-replicate h)))

  pub route-leaf : Rows ws n × (Counted ws counts n × At ws n (n - 1) k)
  route-leaf = (r.mapped.rows, (r.mapped.counted, r.path))

  module _ {out₀ out : List ℕ} {j : ℕ} (e : Entered ws (n - 1) k out₀ out 0 j) where
    abbrev Xs : List ℕ
    Xs = take j out

    words_are : Xs ≡ codes P
    words_are = e.are

    pub route-long : (x : ℕ) → most_paths ≤ x → length out ≡ length {A = ℕ} (replicate x 0) → j ≡ length Xs
    route-long x h s = sym (length-take-le j out (omega (arith, e.few, s, length-replicate {A = ℕ} x 0)))

    pub route-labelled : Labelled ar Xs
    unfolding codes
    route-labelled = subst (Labelled ar) (sym words_are) (record { arities = valid.arities; labels = code-labels ar (literals P) labelled.each.each })

    pub route-contradicts : {b : Bool} → b ≡ contradicts ar (literals_in Xs) → b ≡ contradicts ar (literals P)
    route-contradicts d = d ∙ ap (λ (xs : List ℕ). contradicts ar (literals_in xs)) words_are ∙ ap (contradicts ar) (codes-are P)

  module _ {v w : ℕ} (e : v ≡ P.end) where
    pub passes-leaf : v ≡ w → true ≡ passes ar w P
    unfolding passes
    passes-leaf q = sym (or-one (eqb P.end w) (contradicts ar (literals P)) (eq-eqb P.end w (sym e ∙ q)))

    pub passes-other : (v ≡ w → ⊥) → {b : Bool} → b ≡ contradicts ar (literals P) → b ≡ passes ar w P
    unfolding passes
    passes-other n d = d ∙ sym (ap (λ (c : Bool). c || contradicts ar (literals P)) (ne_eqb P.end w (λ z. n (e ∙ z))))

-- ===== All paths =====

mem_below : (m k : ℕ) → Memᴰ k (up_to m) → k < m
mem_below m k i = in-up_to k m (has (up_to m) k i)
  where
    has : (l : List ℕ) (x : ℕ) → Memᴰ x l → mem eqb x l ≡ true
    has [] x x3 = elim x3 [ ]
    has (y ∷ l) x (Memᴰ.head e) = or-one (eqb x y) (mem eqb x l) (eq-eqb x y e)
    has (y ∷ l) x (Memᴰ.tail i) = go (eqb x y) (has l x i)
      where
        go : (b : Bool) → mem eqb x l ≡ true → (b || mem eqb x l) ≡ true
        go true q = refl
        go false q = q

-- the first k of m paths pass
abbrev pub Passed : List ℕ → List ℕ → ℕ → ℕ → ℕ → ℕ → Type 0
Passed ar ws n m w k = (k ≤ m) × ((i : ℕ) → i < k → passes ar w (path_at (tree ws (n - 1)) i) ≡ true)

module _ {ar ws counts : List ℕ} {n m : ℕ} (r : Routed ar ws counts n m) (w : ℕ) where
  abbrev Root : Diagram
  Root = tree ws (n - 1)

  pub passed_none : Passed ar ws n m w 0
  passed_none = (omega arith, λ i h. absurd (omega arith))

  pub path-small : {k : ℕ} → k < m → k < most_paths
  path-small h = omega (arith, r.few)

  pub path-route : {k : ℕ} → k < m → Route ar ws counts n k
  path-route h = record {
    mapped = r.mapped;
    path = record { row = omega (arith, r.some); path = omega (arith, r.all); few = omega (arith, r.all, r.few) };
  }

  module _ {k : ℕ} (x : Passed ar ws n m w k) (h : k < m) {b : Bool} (e : b ≡ passes ar w (path_at (tree ws (n - 1)) k)) where
    pub passed-more : not b ≡ false → Passed ar ws n m w (k + 1)
    passed-more q = (omega arith, λ i c. at i c (cmp i k))
      where
        yes : (b : Bool) → not b ≡ false → b ≡ true
        yes true z = refl
        yes false z = sym z

        at : (i : ℕ) → i < k + 1 → Cmp i k → passes ar w (path_at Root i) ≡ true
        at i c (below z) = x.1 i z
        at i c (equal z) = ap (λ (y : ℕ). passes ar w (path_at Root y)) z ∙ sym e ∙ yes b q
        at i c (above z) = absurd (omega arith)

    pub passed-stop : not b ≡ true → false ≡ leads_to ar w (tree ws (n - 1))
    passed-stop q = go (flag (leads_to ar w Root))
      where
        no : (b : Bool) → not b ≡ true → b ≡ false
        no true z = sym z
        no false z = refl

        go : Flag (leads_to ar w Root) → false ≡ leads_to ar w Root
        go (is_false z) = sym z
        go (is_true z) =
            let y : passes ar w (path_at Root k) ≡ true = unfold leads_to in (every-path-out (passes ar w) (paths Root) z (path_at Root k) (path-in Root k (omega (arith, r.all)))) in
            clash y (sym e ∙ no b q)

  pub passed-all : {k : ℕ} → Passed ar ws n m w k → m ≤ k → true ≡ leads_to ar w (tree ws (n - 1))
  unfolding leads_to
  passed-all {k} x h = sym (every-path-in (passes ar w) (paths Root) each)
    where
      each : (p : Path) → Memᴰ p (paths Root) → passes ar w p ≡ true
      each p i =
          let u = mem-unmap (path_at Root) (up_to (length (paths Root))) p (subst (Memᴰ p) (paths-are Root) i) in
          ap (passes ar w) u.2 ∙ x.1 u.0 (omega (arith, mem_below (length (paths Root)) u.0 u.1, r.all))

-- ===== A listing =====

module _ (ar ws : List ℕ) (l : is_listing ar ws ≡ true) where
  listed : Valid ar ws
  listed = listing-is-valid ar ws l

  abbrev D : Diagram
  D = diagram_of ws

  pub leads-some : 1 ≤ length ws / 3
  leads-some = listed.some

  pub leads-count : (x : ℕ) → most_rows ≤ x → Rows ws (length ws / 3) × (length ws / 3 ≤ length {A = ℕ} (replicate x 0))
  leads-count x h = (listing-rows ar ws l, rw length-replicate (omega (arith, listed.few)))

  root_is : tree ws (length ws / 3 - 1) ≡ D
  root_is = let e : length ws / 3 - 1 ≡ pred (row_count ws) = omega arith in ap (tree ws) e ∙ sym (diagram-is ar ws listed)

  module _ (w : ℕ) {counts : List ℕ} (c : Counted ws counts (length ws / 3)) where
    abbrev M : ℕ
    M = get_or counts (length ws / 3 - 1) 0

    count-is : M ≡ min (suc most_paths) (length (paths D))
    count-is = c.each (length ws / 3 - 1) (omega (arith, leads-some)) ∙ ap (λ (d : Diagram). min (suc most_paths) (length (paths d))) root_is

    pub leads-many : most_paths < M → Many ≡ lead_answer ar w (diagram_of ws)
    unfolding lead_answer
    leads-many h = rw (lt-ltb most_paths (length (paths D)) (omega (arith, count-is)))

    module _ (h : M ≤ most_paths) where
      few : length (paths D) ≡ M
      few = omega (arith, count-is)

      pub leads-routed : Routed ar ws counts (length ws / 3) M
      leads-routed = record {
        mapped = record { listed = l; whole = refl; rows = listing-rows ar ws l; counted = c };
        some = leads-some;
        all = ap (λ (d : Diagram). length (paths d)) root_is ∙ few;
        few = h;
      }

      answer-is : lead_answer ar w (diagram_of ws) ≡ cond (leads_to ar w (diagram_of ws)) Only Others
      unfolding lead_answer
      answer-is = rw (le-ltb most_paths (length (paths D)) (omega (arith, few)))

      module _ {b : Bool} (e : b ≡ leads_to ar w (tree ws (length ws / 3 - 1))) where
        by-test : lead_answer ar w (diagram_of ws) ≡ cond b Only Others
        by-test = answer-is ∙ ap (λ (x : Bool). cond x Only Others) (ap (leads_to ar w) (sym root_is) ∙ sym e)

        pub leads-only : b ≡ true → Only ≡ lead_answer ar w (diagram_of ws)
        leads-only q = sym (by-test ∙ ap (λ (x : Bool). cond x Only Others) q)

        pub leads-others : b ≡ false → Others ≡ lead_answer ar w (diagram_of ws)
        leads-others q = sym (by-test ∙ ap (λ (x : Bool). cond x Only Others) q)
