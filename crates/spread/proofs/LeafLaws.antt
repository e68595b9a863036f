-- Laws of the entries and the leaves: a value is a leaf of the diagram, so that a listing has at most 1,023 entries.
use Rattle.std.specs.Prelude.{◌≡◌, refl, Bool, true, false, ◌||◌, cond, List, [], ◌∷◌, map, ℕ, suc, ◌≤◌, ◌<◌, length, eqb}
use Rattle.std.proofs.Common.{ap, sym, ◌∙◌, arith, eqb-true, eq-eqb}
use Rattle.std.proofs.lemmas.List.{length-map}
use Rattle.basics.specs.Tests.{Either, one, other, either, or-one, or-other}
use Rattle.basics.specs.Members.{mem, NoDup, Within, clash, nodup-le}
use Rattle.diagram.specs.Sizes.{most_rows}
use Rattle.diagram.specs.Diagram.{Tree, leaf, branch, Diagram, eval, relabel, same}
use Rattle.diagram.specs.DiagramLaws.{same-eq, diagram-test}
use Rattle.diagram.specs.Rows.{rows}
use Rattle.diagram.specs.Inner.{is_part}
use Rattle.diagram.specs.RowLaws.{part-self, part-high, part_low, mem-rows}
use Rattle.diagram.specs.Words.{is_listing}
use Rattle.diagram.specs.Listing.{diagram_of}
use Rattle.diagram.specs.Listings.{is-listing-good}
use Rattle.diagram.specs.WordLaws.{number-test}
use Rattle.rename.specs.AscendingLaws.{ascending-nodup}
use Rattle.state.specs.Max.{none}
use Rattle.state.specs.State.{State, Good, value, meaning}
use Rattle.state.proofs.HighestLaws.{bound-tuple}
use Rattle.minimum.specs.Number.{number}
use Rattle.minimum.proofs.NumberLaws.{number_is, number-attained}
use Rattle.state.proofs.LentLaws.{some-found}
use Rattle.spread.specs.Ground.{choice_state}
use Rattle.spread.specs.Spread.{Entry, values, count_of, entries, value_in}
use Rattle.spread.proofs.SpreadLaws.{values-ascend, values-occur}

-- v is a leaf of d
abbrev pub has_leaf : {L : Type 0} → ℕ → Tree L → Bool
has_leaf v (leaf x) = eqb v x
has_leaf v (branch l t f) = has_leaf v t || has_leaf v f

eval-leaf : {L : Type 0} (c : L → Bool) (d : Tree L) → has_leaf (eval c d) d ≡ true
unfolding eval
eval-leaf c (leaf x) = eq-eqb x x refl
eval-leaf c (branch l t f) = go (c l) (eval-leaf c t) (eval-leaf c f)
  where
    go : (b : Bool) → has_leaf (eval c t) t ≡ true → has_leaf (eval c f) f ≡ true
        → (has_leaf (cond b (eval c t) (eval c f)) t || has_leaf (cond b (eval c t) (eval c f)) f) ≡ true
    go true x y = or-one (has_leaf (eval c t) t) (has_leaf (eval c t) f) x
    go false x y = or-other (has_leaf (eval c f) t) (has_leaf (eval c f) f) y

relabel-leaf : {L M : Type 0} (g : L → M) (v : ℕ) (d : Tree L) → has_leaf v (relabel g d) ≡ has_leaf v d
unfolding relabel
relabel-leaf g v (leaf x) = refl
relabel-leaf g v (branch l t f) = rw (relabel-leaf g v t, relabel-leaf g v f)

leaf-part : (v : ℕ) (d : Diagram) → has_leaf v d ≡ true → is_part (leaf v) d ≡ true
leaf-part v (leaf x) e = rw (eqb-true v x e) (part-self (leaf x))
leaf-part v (branch l t f) e = go (either (has_leaf v t) (has_leaf v f) e) (leaf-part v t) (leaf-part v f)
  where
    go : Either (has_leaf v t) (has_leaf v f) → (has_leaf v t ≡ true → is_part (leaf v) t ≡ true) → (has_leaf v f ≡ true → is_part (leaf v) f ≡ true)
        → is_part (leaf v) (branch l t f) ≡ true
    go (one h) x y = part-high (leaf v) l t f (x h)
    go (other h) x y = part_low (leaf v) l t f (y h)

-- the number is a leaf
pub number-leaf : (ar : List ℕ) (s : State) (d : Diagram) → Good s → has_leaf (number s [] (meaning ar d)) d ≡ true
unfolding meaning value
number-leaf ar s d good =
    let m = number-attained (meaning ar d) (number_is s [] good (bound-tuple good none) (meaning ar d)) in
    sym (relabel-leaf _ (number s [] (meaning ar d)) d)
    ∙ ap (λ v. has_leaf v (meaning ar d)) (sym m.2) ∙ eval-leaf _ (meaning ar d)

-- ===== How many =====
mem-leaves : (v : ℕ) (vs : List ℕ) → mem same (leaf v) (map leaf vs) ≡ mem eqb v vs
unfolding same
mem-leaves v [] = refl
mem-leaves v (x ∷ xs) = rw (mem-leaves v xs)

no-branch : (l : ℕ) (t f : Diagram) (vs : List ℕ) → mem same (branch l t f) (map leaf vs) ≡ false
unfolding same
no-branch l t f [] = refl
no-branch l t f (x ∷ xs) = no-branch l t f xs

leaves-nodup : (vs : List ℕ) → NoDup eqb vs → NoDup same (map leaf vs)
leaves-nodup [] d = tt
leaves-nodup (v ∷ vs) d = (mem-leaves v vs ∙ d.0, leaves-nodup vs d.1)

length-leaves : (vs : List ℕ) → length (map {B = Diagram} leaf vs) ≡ length vs
length-leaves [] = refl
length-leaves (v ∷ vs) = ap suc (length-leaves vs)

-- different leaves of a diagram: one if it is a leaf, else fewer than its rows
pub leaves-few : (d : Diagram) (vs : List ℕ) → NoDup eqb vs → ((v : ℕ) → mem eqb v vs ≡ true → has_leaf v d ≡ true) → length (rows d) ≤ most_rows → length vs < most_rows
leaves-few (leaf x) vs n h few =
    let a = nodup-le eqb number-test vs (x ∷ []) n (λ v e. or-one (eqb v x) false (h v e)) in
    omega arith
leaves-few (branch l t f) vs n h few =
    let a = nodup-le same diagram-test (branch l t f ∷ map leaf vs) (rows (branch l t f)) (no-branch l t f vs, leaves-nodup vs n) within in
    let b = length-leaves vs in
    omega arith
  where
    leafy : (y : Diagram) → mem same y (map leaf vs) ≡ true → is_part y (branch l t f) ≡ true
    leafy (leaf v) e = leaf-part v (branch l t f) (h v (sym (mem-leaves v vs) ∙ e))
    leafy (branch k u g) e = clash e (no-branch k u g vs)

    go : (y : Diagram) → Either (same y (branch l t f)) (mem same y (map leaf vs)) → is_part y (branch l t f) ≡ true
    go y (one e) = rw (same-eq y (branch l t f) e) (part-self (branch l t f))
    go y (other e) = leafy y e

    within : Within same (branch l t f ∷ map leaf vs) (rows (branch l t f))
    within y e = mem-rows (branch l t f) y ∙ go y (either (same y (branch l t f)) (mem same y (map leaf vs)) e)

-- the values are leaves of the diagram
pub values-leaves : (m : ℕ) (f : ℕ → ℕ) (d : Diagram) → ((c : ℕ) → c < m → has_leaf (f c) d ≡ true) → (v : ℕ) → mem eqb v (values m f) ≡ true → has_leaf v d ≡ true
values-leaves m f d h v e =
    let s = some-found m (λ c. eqb (f c) v) (sym (values-occur m f v) ∙ e) in
    ap (λ x. has_leaf x d) (sym (eqb-true (f s.0) v s.2)) ∙ h s.0 s.1

-- a listing has at most 1,023 entries
pub entries-few : (ar : List ℕ) (count n : ℕ) (constants ws : List ℕ) (m : ℕ) → is_listing ar ws ≡ true
    → ((c : ℕ) → Good (choice_state ar count n constants c)) → length (entries m (value_in ar count n constants ws)) < most_rows
unfolding entries value_in
entries-few ar count n constants ws m listed good =
    rw (length-map {B = Entry} (values m f) (λ (v : ℕ). record { value = v; states = count_of m f v }))
    (leaves-few (diagram_of ws) (values m f) (ascending-nodup 0 (values m f) (values-ascend m f))
    (values-leaves m f (diagram_of ws) (λ c l. number-leaf ar (choice_state ar count n constants c) (diagram_of ws) (good c)))
    (is-listing-good ar ws listed).few)
  where
    f : ℕ → ℕ
    f = value_in ar count n constants ws
