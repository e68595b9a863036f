-- The test by which an edge goes is document 01's condition, both ways; and 16 is said exactly where no edge may go.
use Rattle.std.specs.Prelude.{◌≡◌, ◌⊎◌, Bool, not, ◌||◌, cond, length, get_or, eqb, leb}
use Rattle.std.proofs.Math.Path.{refl, sym}
use Rattle.std.proofs.Common.{ap, subst, ◌∙◌, inl, inr}
use Rattle.std.proofs.Math.Bool.{true, false}
use mathlib.Core.List.Memᴰ
use mathlib.Core.List.{List, [], ◌∷◌, ◌++◌, map, Memᴰ}
use Rattle.std.proofs.Math.Option.{some, none}
use Prim.Native.Nat.{ℕ, zero, suc, ◌<◌}
use native.Mathlib.Omega.{arith}
use borrow.Author.Tests.{eqb-false, ne_eqb, leb-true, le-leb, not-true}
use Rattle.basics.specs.Tests.{and_left, and_right, Flag, is_true, is_false, flag, Either, one, other, either, or-one, or-other, Cmp, cmp, below, equal, above}
use Rattle.basics.specs.Members.{clash}
use Rattle.label.specs.Limits.{first_minimum, term_base, most_places}
use Rattle.label.specs.Terms.{is_variable}
use Rattle.label.specs.Labels.{are_arities, is_label, place_in, place_at, unpacked, terms_of}
use Rattle.label.specs.declared.Atom.{Atom}
use Rattle.label.proofs.LabelLaws.{place_of, place-from, label-fits}
use Rattle.diagram.specs.Diagram.{Diagram, leaf, branch, same, relabel, EveryLabel}
use Rattle.diagram.specs.Listing.{Fine}
use Rattle.diagram.specs.DiagramLaws.{same-eq, same-ne}
use Rattle.diagram.specs.Rows.{rows}
use Rattle.diagram.specs.RowLists.{row_tree}
use Rattle.diagram.specs.Variables.{is_plain}
use Rattle.apply.proofs.GoodLaws.{fine-every}
use Rattle.state.specs.State.{atom_of, meaning}
use Rattle.state.specs.Terms.{Each}
use Rattle.minimum.specs.Operations.{Plain}
use Rattle.minimum.proofs.PlainLaws.{fine-plain}
use Rattle.paths.specs.Paths.{Literal, Step, Path, step_before, paths, literals, terms_in, through}
use Rattle.cutting.specs.Match.{start}
use Rattle.cutting.specs.Cut.{Replacement, Cover, target, MayGo, may, covers, is_cover, some_path, every_path, is_free, may_go, Choice, goes, stays, choice_below, choice}
use Rattle.label.proofs.ArityLaws.{terms-below, terms-atom}
use Rattle.cutting.proofs.MatchLaws.{matches-sound, matches-complete}
use Rattle.cutting.specs.Searchable.{PathLabels, AllLabels, Searchable}
use Rattle.paths.specs.Inner.{InRange}
use Rattle.paths.specs.PathLaws.{mem-unmap, label-range}

-- ===== Literals of a path have labels =====
step-each : (P : ℕ → Type 0) (s : Step) (p : Path) → P s.label → ((l : Literal) → Memᴰ l (literals p) → P l.label)
    → (l : Literal) → Memᴰ l (literals (step_before s p)) → P l.label
unfolding step_before literals
step-each P s p e k l (Memᴰ.head q) = subst (λ (x : Literal). P x.label) (sym q) e
step-each P s p e k l (Memᴰ.tail m) = k l m

-- what is so of every label of a diagram is so on its paths
pub path-each : (P : ℕ → Type 0) (d : Diagram) → EveryLabel P d → (p : Path) → Memᴰ p (paths d) → (l : Literal) → Memᴰ l (literals p) → P l.label
unfolding paths literals
path-each P (leaf v) f p (Memᴰ.tail x6) = elim x6 [ ]
path-each P (leaf v) f p (Memᴰ.head e) = rw e (λ l m. absurd (Memᴰ.not-nil m))
path-each P (branch l t g) f p m =
    go (Memᴰ.append_cases (map (step_before high) (paths t)) m) (path-each P t f.1) (path-each P g f.2)
  where
    high : Step
    high = record { from = branch l t g; label = l; side = true }

    low : Step
    low = record { from = branch l t g; label = l; side = false }

    On : Path → Type 0
    On q = (k : Literal) → Memᴰ k (literals q) → P k.label

    go : Memᴰ p (map (step_before high) (paths t)) ⊎ Memᴰ p (map (step_before low) (paths g))
        → ((q : Path) → Memᴰ q (paths t) → On q) → ((q : Path) → Memᴰ q (paths g) → On q) → On p
    go (inl n) rt rf = let u = mem-unmap (step_before high) (paths t) p n in rw u.2 (step-each P high u.0 f.0 (rt u.0 u.1))
    go (inr n) rt rf = let u = mem-unmap (step_before low) (paths g) p n in rw u.2 (step-each P low u.0 f.0 (rf u.0 u.1))

pub path-labels : (ar : List ℕ) (d : Diagram) → Fine ar d → (p : Path) → Memᴰ p (paths d) → PathLabels ar p
path-labels ar d f p m = record { each = record { each = path-each (λ l. is_label ar l ≡ true) d (fine-every ar d f) p m } }

-- no place of a label on the paths of a plain diagram has a minimum variable
get_d-each : (P : ℕ → Type 0) (ts : List ℕ) (k : ℕ) → P 0 → Each P ts → P (get_or ts k 0)
get_d-each P [] k z w = z
get_d-each P (t ∷ ts) zero z w = w.0
get_d-each P (t ∷ ts) (suc k) z w = get_d-each P ts k z w.1

plain_label : (ar : List ℕ) (l : ℕ) → is_label ar l ≡ true → Each (λ t. t < first_minimum) (terms_of ar (unpacked l)) → InRange first_minimum l
plain_label ar l e w = record { predicate = (label-range ar l e).predicate; places = places }
  where
    places : (k : ℕ) → k < most_places → place_at l k < first_minimum
    places k h =
        subst (λ (t : ℕ). t < first_minimum)
        (sym (place-from (unpacked l).predicate (terms_of ar (unpacked l)) k h) ∙ ap (λ (a : Atom). place_in a k) (terms-atom ar (unpacked l) (label-fits ar l e).places-fit) ∙ place_of l k h)
        (get_d-each (λ t. t < first_minimum) (terms_of ar (unpacked l)) k (omega arith) w)

plain-every : (ar : List ℕ) (d : Diagram) → Fine ar d → Plain (meaning ar d) → EveryLabel (InRange first_minimum) d
unfolding meaning relabel atom_of
plain-every ar (leaf v) f w = tt
plain-every ar (branch l t g) f w = (plain_label ar l f.0 w.0, plain-every ar t f.1 w.1, plain-every ar g f.2 w.2)

pub path-plain : (ar : List ℕ) (d : Diagram) → Fine ar d → is_plain ar d ≡ true → (p : Path) → Memᴰ p (paths d)
    → (l : Literal) → Memᴰ l (literals p) → InRange first_minimum l.label
path-plain ar d f e = path-each (InRange first_minimum) d (plain-every ar d f (fine-plain ar d f e))

-- ===== Covers =====
pub in_small : (ar : List ℕ) (ls : List Literal) (t : ℕ) → Memᴰ t (terms_in ar ls) → t < term_base
unfolding terms_in
in_small ar [] t m = absurd (Memᴰ.not-nil m)
in_small ar (l ∷ ls) t m = go (Memᴰ.append_cases (terms_of ar (unpacked l.label)) m) (in_small ar ls t)
  where
    go : Memᴰ t (terms_of ar (unpacked l.label)) ⊎ Memᴰ t (terms_in ar ls) → (Memᴰ t (terms_in ar ls) → t < term_base) → t < term_base
    go (inl n) rec = terms-below ar l.label t n
    go (inr n) rec = rec n

pub searchable : (ar : List ℕ) (ls qs : List Literal) → are_arities ar ≡ true → AllLabels ar ls → Searchable ar ls (terms_in ar ls ++ terms_in ar qs)
searchable ar ls qs g al = record { arities = g; labels = al; holds-terms = λ t m. Memᴰ.append_left (terms_in ar qs) m; small = small }
  where
    small : (t : ℕ) → Memᴰ t (terms_in ar ls ++ terms_in ar qs) → t < term_base
    small t m = go (Memᴰ.append_cases (terms_in ar ls) m)
      where
        go : Memᴰ t (terms_in ar ls) ⊎ Memᴰ t (terms_in ar qs) → t < term_base
        go (inl n) = in_small ar ls t n
        go (inr n) = in_small ar qs t n

pub start-other : (t : ℕ) → is_variable t ≡ false → start t ≡ some t
unfolding start
start-other t e = rw e

start-known : (t u : ℕ) → start t ≡ some u → (is_variable t ≡ false) × (u ≡ t)
unfolding start
start-known t u e = go (is_variable t) refl e
  where
    go : (b : Bool) → is_variable t ≡ b → cond b none (some t) ≡ some u → (is_variable t ≡ false) × (u ≡ t)
    go true q z = let f : ◌≡◌ {A = ℕ} 0 1 = cc in absurd (omega arith)
    go false q z = let f : u ≡ t = cc in (q, f)

module _ (ar : List ℕ) (good : are_arities ar ≡ true) where
  pub covers-sound : (p q : Path) → PathLabels ar p → covers ar p q ≡ true → Replacement ar (literals p) (literals q)
  unfolding covers
  covers-sound p q np e =
      let s = matches-sound ar (literals p) _ (searchable ar (literals p) (literals q) good np.each) (literals q) start e in
      record { σ = s.σ; variables = λ t v. s.extends.known t t (start-other t v); terms = s.image; matched = s.matched }

  pub covers-complete : (p q : Path) → PathLabels ar p → Replacement ar (literals p) (literals q) → covers ar p q ≡ true
  unfolding covers
  covers-complete p q np r =
      matches-complete ar (literals p) _ (searchable ar (literals p) (literals q) good np.each) (literals q) start (record {
        σ = r.σ;
        extends = record { known = λ t u e. let k = start-known t u e in r.variables t k.0 ∙ sym k.1 };
        image = r.terms;
        matched = r.matched;
      })

-- ===== Tests over paths =====
pub some-path-out : (f : Path → Bool) (l : List Path) → some_path f l ≡ true → (q : Path) × Memᴰ q l × (f q ≡ true)
some-path-out f [] e = clash e refl
some-path-out f (p ∷ l) e = go (either (f p) (some_path f l) e) (some-path-out f l)
  where
    go : Either (f p) (some_path f l) → (some_path f l ≡ true → (q : Path) × Memᴰ q l × (f q ≡ true)) → (q : Path) × Memᴰ q (p ∷ l) × (f q ≡ true)
    go (one q) rec = (p, Memᴰ.head refl, q)
    go (other q) rec = let k = rec q in (k.0, Memᴰ.tail k.1, k.2)

pub some-path-in : (f : Path → Bool) (l : List Path) (q : Path) → Memᴰ q l → f q ≡ true → some_path f l ≡ true
some-path-in f [] q x'' k = elim x'' [ ]
some-path-in f (p ∷ l) q (Memᴰ.head e) k = or-one (f p) (some_path f l) (ap f (sym e) ∙ k)
some-path-in f (p ∷ l) q (Memᴰ.tail n) k = or-other (f p) (some_path f l) (some-path-in f l q n k)

pub every-path-out : (f : Path → Bool) (l : List Path) → every_path f l ≡ true → (p : Path) → Memᴰ p l → f p ≡ true
every-path-out f [] e p x'' = elim x'' [ ]
every-path-out f (q ∷ l) e p (Memᴰ.head k) = ap f k ∙ and_left (f q) _ e
every-path-out f (q ∷ l) e p (Memᴰ.tail n) = every-path-out f l (and_right (f q) _ e) p n

pub every-path-in : (f : Path → Bool) (l : List Path) → ((p : Path) → Memᴰ p l → f p ≡ true) → every_path f l ≡ true
every-path-in f [] k = refl
every-path-in f (p ∷ l) k = rw (k p (Memᴰ.head refl), every-path-in f l (λ q i. k q (Memᴰ.tail i))) refl

-- ===== When an edge may go =====
module _ (ar : List ℕ) (d : Diagram) (good : are_arities ar ≡ true) (fine : Fine ar d) where
  cover-is : (r : Diagram) (b : Bool) (p : Path) → Memᴰ p (paths d) → (q : Path) → Memᴰ q (paths d) → is_cover ar r b p q ≡ true → Cover ar d r b p
  unfolding is_cover
  cover-is r b p i q j e =
      let k = and_right (not (through r b q)) _ e in
      record {
        path = q;
        of = j;
        avoids = not-true (through r b q) (and_left (not (through r b q)) _ e);
        high = leb-true p.end q.end (and_left (leb p.end q.end) _ k);
        replacement = covers-sound ar good p q (path-labels ar d fine p i) (and_right (leb p.end q.end) _ k);
      }

  is-cover : (r : Diagram) (b : Bool) (p : Path) → Memᴰ p (paths d) → (c : Cover ar d r b p) → is_cover ar r b p c.path ≡ true
  unfolding is_cover
  is-cover r b p i c =
      rw (c.avoids, le-leb p.end c.path.end c.high) (covers-complete ar good p c.path (path-labels ar d fine p i) c.replacement)

  free-cover : (r : Diagram) (b : Bool) (p : Path) → Memᴰ p (paths d) → is_free ar r b (paths d) p ≡ true → through r b p ≡ true → 0 < p.end → Cover ar d r b p
  unfolding is_free
  free-cover r b p i e th pos =
      let w : some_path (is_cover ar r b p) (paths d) ≡ true = rw (th, ne_eqb p.end 0 (omega arith)) at e in
      let u = some-path-out (is_cover ar r b p) (paths d) w in
      cover-is r b p i u.0 u.1 u.2

  cover-free : (r : Diagram) (b : Bool) (p : Path) → Memᴰ p (paths d) → (through r b p ≡ true → 0 < p.end → Cover ar d r b p) → is_free ar r b (paths d) p ≡ true
  unfolding is_free
  cover-free r b p i h = go (flag (through r b p)) (flag (eqb p.end 0))
    where
      go : Flag (through r b p) → Flag (eqb p.end 0) → (not (through r b p) || (eqb p.end 0 || some_path (is_cover ar r b p) (paths d))) ≡ true
      go (is_false e) z = rw e
      go (is_true e) (is_true z) = rw (e, z)
      go (is_true e) (is_false z) =
          let n = eqb-false p.end 0 z in
          let c = h e (omega arith) in
          rw (e, z) (some-path-in (is_cover ar r b p) (paths d) c.path c.of (is-cover r b p i c))

  pub may_go-sound : (b : Bool) (r : Diagram) → may_go ar d b r ≡ true → MayGo ar d b r
  unfolding may_go
  may_go-sound b (leaf v) e = clash e refl
  may_go-sound b (branch l t f) e =
      may (same-ne _ _ (not-true _ (and_left (not (same (target b t f) (leaf 0))) _ e)))
      (λ p i. free-cover (branch l t f) b p i
      (every-path-out (is_free ar (branch l t f) b (paths d)) (paths d) (and_right (not (same (target b t f) (leaf 0))) _ e) p i))

  pub may_go-complete : (b : Bool) (r : Diagram) → MayGo ar d b r → may_go ar d b r ≡ true
  unfolding may_go
  may_go-complete b (leaf _) x'' = elim x'' [ ]
  may_go-complete b (branch l t f) (may n c) =
      rw (not_same (flag (same (target b t f) (leaf 0)))) (every-path-in (is_free ar (branch l t f) b (paths d)) (paths d) (λ p i. cover-free (branch l t f) b p i (c p i)))
    where
      not_same : Flag (same (target b t f) (leaf 0)) → same (target b t f) (leaf 0) ≡ false
      not_same (is_true e) = absurd (n (same-eq _ _ e))
      not_same (is_false e) = e

  -- ===== Which edge goes =====

  -- of the first n rows, row k is the highest, true edge first, whose edge on the side b may go; or none may
  pub data Chosen (rs : List Diagram) (n : ℕ) : Choice → Type 0 where
    highest : (k : ℕ) (b : Bool) → k < n → MayGo ar d b (row_tree rs k) → (b ≡ false → MayGo ar d true (row_tree rs k) → ⊥)
        → ((i : ℕ) (c : Bool) → k < i → i < n → MayGo ar d c (row_tree rs i) → ⊥) → Chosen rs n (goes k b)
    nothing : ((i : ℕ) (c : Bool) → i < n → MayGo ar d c (row_tree rs i) → ⊥) → Chosen rs n stays

  may-not : (c : Bool) (r : Diagram) → may_go ar d c r ≡ false → MayGo ar d c r → ⊥
  may-not c r e m = clash (may_go-complete c r m) e

  pub chosen-below : (rs : List Diagram) (n : ℕ) → Chosen rs n (choice_below ar d rs n)
  unfolding choice_below
  chosen-below rs zero = nothing (λ i c h. absurd (omega arith))
  chosen-below rs (suc n) = go (may_go ar d true (row_tree rs n)) refl (may_go ar d false (row_tree rs n)) refl (chosen-below rs n)
    where
      above-none : (i : ℕ) (c : Bool) → n < i → i < suc n → MayGo ar d c (row_tree rs i) → ⊥
      above-none i c h k m = omega arith

      here-none : may_go ar d true (row_tree rs n) ≡ false → may_go ar d false (row_tree rs n) ≡ false → (i : ℕ) (c : Bool) → i ≡ n → MayGo ar d c (row_tree rs i) → ⊥
      here-none x y i true e m = may-not true (row_tree rs n) x (rw e at m)
      here-none x y i false e m = may-not false (row_tree rs n) y (rw e at m)

      go : (x : Bool) → may_go ar d true (row_tree rs n) ≡ x → (y : Bool) → may_go ar d false (row_tree rs n) ≡ y → {o : Choice} → Chosen rs n o
          → Chosen rs (suc n) (cond x (goes n true) (cond y (goes n false) o))
      go true p y q c = highest n true (omega arith) (may_go-sound true (row_tree rs n) p) (λ e m. clash (sym e) refl) above-none
      go false p true q c = highest n false (omega arith) (may_go-sound false (row_tree rs n) q) (λ e m. may-not true (row_tree rs n) p m) above-none
      go false p false q (highest k b h m t a) = highest k b (omega arith) m t (λ i c u v w. more i c u v w (cmp i n))
        where
          more : (i : ℕ) (c : Bool) → k < i → i < suc n → MayGo ar d c (row_tree rs i) → Cmp i n → ⊥
          more i c u v w (below z) = a i c u z w
          more i c u v w (equal z) = here-none p q i c z w
          more i c u v w (above z) = omega arith
      go false p false q (nothing a) = nothing (λ i c v w. more i c v w (cmp i n))
        where
          more : (i : ℕ) (c : Bool) → i < suc n → MayGo ar d c (row_tree rs i) → Cmp i n → ⊥
          more i c v w (below z) = a i c z w
          more i c v w (equal z) = here-none p q i c z w
          more i c v w (above z) = omega arith

  -- the choice is the highest row number, true edge first, whose edge may go; there is none exactly if no edge may go
  pub chosen : Chosen (rows d) (length (rows d)) (choice ar d)
  unfolding choice
  chosen = chosen-below (rows d) (length (rows d))
