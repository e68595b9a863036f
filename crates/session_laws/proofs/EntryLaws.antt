-- The entries that (count n) counts: at most 1,023, of machine words, and a line for each (document 02, L11).
use Rattle.std.specs.Prelude.{◌≡◌, refl, Bool, true, false, not, cond, ◌&&◌, eqb, leb, ltb}
use Rattle.std.proofs.Math.Path.{sym, ap₂}
use Rattle.std.proofs.Common.{ap, ◌∙◌, pow_mono, leb-true, ltb-false, eqb-true, eq-eqb}
use mathlib.Core.List.{List, [], ◌∷◌, ◌++◌, map, append-nil, append_assoc}
use Prim.Native.Nat.{ℕ, zero, suc, ◌+◌, ◌*◌, ◌^◌, ◌≤◌, ◌<◌}
use native.Mathlib.Omega.{arith}
use Rattle.std.proofs.Math.ListN.{length, get_or}
use Rattle.std.proofs.lemmas.Bool.{not-false}
use Rattle.basics.specs.Tests.{and_left, and_right, Either, one, other, either, or-one, or-other}
use Rattle.basics.specs.Members.{mem}
use Rattle.refusal.specs.declared.Refusal.TheVariants.{Range, Ground, Valuations}
use Rattle.refusal.specs.Outcome.{ok, Accepted}
use Rattle.refusal.specs.OutcomeLaws.{accepted-ok, accepted-cond}
use Rattle.diagram.specs.Sizes.{most_rows}
use Rattle.diagram.specs.Diagram.{Diagram, leaf, branch}
use Rattle.diagram.specs.Words.{is_listing}
use Rattle.diagram.specs.Listing.{Good, Fine, listing, diagram_of}
use Rattle.diagram.specs.Listings.{good-is-listing, is-listing-good}
use Rattle.state.specs.Lent.{constants_below, most_objects}
use Rattle.mdp.specs.Model.{Model}
use Rattle.spread.specs.Ground.{most_ground, ground_count, choice_state}
use Rattle.spread.specs.Spread.{Entry, entry_words, values, count_of, entries, value_in, entries_of, some_too_large, spread}
use Rattle.spread.proofs.LeafLaws.{has_leaf, number-leaf, values-leaves}
use Rattle.spread.proofs.ChoiceLaws.{FewPlaces, arities-few}
use Rattle.spread.proofs.LentChoiceLaws.{choice-good, lines-few}
use Rattle.answers.specs.Answers.{field, line_end, count_head, count_line_at, count_lines}
use Rattle.answers.specs.Writing.{IsWord}
use Rattle.session.specs.Session.{Names, Live}
use Rattle.session.specs.Running.{entries_in, count_read}
use Rattle.session_laws.specs.LineAnswers.{entry_lines}

-- ===== What an accepted (count n) says of n =====

pub record Counted (m : Model) (names : Names) (l : Live) (d : Diagram) (n : ℕ) (es : List Entry) : Type 0 where
  pub some : 1 ≤ n
  pub most : n ≤ most_objects
  pub placed : constants_below n l.constants ≡ true
  pub ground : ground_count m.arities (length names.predicates) n ≤ most_ground
  pub small : some_too_large m.arities (length names.predicates) n l.constants (listing d) ≡ false
  pub counted : es ≡ entries_in m names l d n

pub count-read : (m : Model) (names : Names) (l : Live) (d : Diagram) (n : ℕ) → Accepted (Counted m names l d n) (count_read m names l d n)
unfolding count_read spread
count-read m names l d n =
    let ar = m.arities in
    let count = length names.predicates in
    let ws = listing d in
    accepted-cond (not (leb 1 n && leb n most_objects)) Range _ (λ e₁.
    accepted-cond (not (constants_below n l.constants)) Range _ (λ e₂.
    accepted-cond (ltb most_ground (ground_count ar count n)) Ground _ (λ e₃.
    accepted-cond (some_too_large ar count n l.constants ws) Valuations (ok (entries_of ar count n l.constants ws)) (λ e₄.
    let r = not-false (leb 1 n && leb n most_objects) e₁ in
    accepted-ok (record {
      some = leb-true 1 n (and_left (leb 1 n) _ r);
      most = leb-true n most_objects (and_right (leb 1 n) _ r);
      placed = not-false (constants_below n l.constants) e₂;
      ground = ltb-false most_ground (ground_count ar count n) e₃;
      small = e₄;
      counted = refl;
    })))))

-- ===== Their words =====

pub entry-count : (es : List Entry) → length (entry_words es) ≡ length es * 2
unfolding entry_words
entry-count [] = refl
entry-count (e ∷ es) = let h = entry-count es in omega arith

abbrev Worded : List Entry → Type 0
Worded [] = Unit {0}
Worded (e ∷ es) = IsWord e.value × IsWord e.states × Worded es

worded-at : (es : List Entry) → Worded es → (i : ℕ) → IsWord (get_or (entry_words es) i 0)
unfolding entry_words
worded-at [] w i = omega arith
worded-at (e ∷ es) w zero = w.0
worded-at (e ∷ es) w (suc zero) = w.1
worded-at (e ∷ es) w (suc (suc i)) = worded-at es w.2 i

-- a leaf of a diagram that has a listing is at most 10^18
leaf-word : (ar : List ℕ) (v : ℕ) (d : Diagram) → Fine ar d → has_leaf v d ≡ true → IsWord v
leaf-word ar v (leaf x) g e = omega (arith, eqb-true v x e)
leaf-word ar v (branch l t f) g e = go (either (has_leaf v t) (has_leaf v f) e) (leaf-word ar v t g.1) (leaf-word ar v f g.2)
  where
    go : Either (has_leaf v t) (has_leaf v f) → (has_leaf v t ≡ true → IsWord v) → (has_leaf v f ≡ true → IsWord v) → IsWord v
    go (one h) x y = x h
    go (other h) x y = y h

count_most : (m : ℕ) (f : ℕ → ℕ) (v : ℕ) → count_of m f v ≤ m
unfolding count_of
count_most zero f v = omega arith
count_most (suc m) f v = go (eqb (f m) v) (count_most m f v)
  where
    go : (b : Bool) → count_of m f v ≤ m → count_of m f v + cond b 1 0 ≤ suc m
    go true h = omega arith
    go false h = omega arith

all-worded : (g : ℕ → ℕ) (vs : List ℕ) → ((v : ℕ) → mem eqb v vs ≡ true → IsWord v) → ((v : ℕ) → IsWord (g v)) → Worded (map (λ v. record { value = v; states = g v }) vs)
all-worded g [] h k = tt
all-worded g (v ∷ vs) h k =
    (h v (or-one (eqb v v) (mem eqb v vs) (eq-eqb v v refl)), k v, all-worded g vs (λ x e. h x (or-other (eqb x v) (mem eqb x vs) e)) k)

-- 2^16 states at most
few-choices : (g : ℕ) → g ≤ most_ground → IsWord (2 ^ g)
few-choices g h = let p = pow_mono h in omega arith

module _ (m : Model) (names : Names) (l : Live) (d : Diagram) (n : ℕ) (es : List Entry) (c : Counted m names l d n es) (good : Good m.arities d) where
  few : FewPlaces m.arities
  few = arities-few m.arities good.arities

  listed : is_listing m.arities (listing d) ≡ true
  listed = good-is-listing m.arities d good

  pub entries-few : length (entries_in m names l d n) < most_rows
  entries-few = lines-few m.arities (length names.predicates) n l.constants few c.some c.placed (listing d) listed

  entries-worded : Worded (entries_in m names l d n)
  unfolding entries_of entries value_in
  entries-worded =
      let ar = m.arities in
      let count = length names.predicates in
      let cs = l.constants in
      let g = 2 ^ ground_count ar count n in
      let f = value_in ar count n cs (listing d) in
      let tree = diagram_of (listing d) in
      all-worded (count_of g f) (values g f)
      (λ v e. leaf-word ar v tree (is-listing-good ar (listing d) listed).fine
      (values-leaves g f tree (λ i h. number-leaf ar (choice_state ar count n cs i) tree (choice-good ar count n cs few c.some c.placed i)) v e))
      (λ v. omega (arith, count_most g f v, few-choices (ground_count ar count n) c.ground))

  pub entries-words : (i : ℕ) → IsWord (get_or (entry_words (entries_in m names l d n)) i 0)
  entries-words = worded-at (entries_in m names l d n) entries-worded

-- ===== Their lines =====

module _ (e : Entry) (es : List Entry) where
  line-later : (k : ℕ) → count_line_at (entry_words (e ∷ es)) (suc k) ≡ count_line_at (entry_words es) k
  unfolding count_line_at entry_words
  line-later k =
      let at : (i : ℕ) → ℕ = λ i. get_or (entry_words (e ∷ es)) i 0 in
      let i : suc k * 2 ≡ suc (suc (k * 2)) = omega arith in
      let j : suc k * 2 + 1 ≡ suc (suc (k * 2 + 1)) = omega arith in
      ap₂ (λ v w. count_head ++ field v ++ field w ++ line_end) (ap at i) (ap at j)

  lines-later : (k : ℕ) → count_lines (entry_words (e ∷ es)) (suc k) ≡ count_line_at (entry_words (e ∷ es)) 0 ++ count_lines (entry_words es) k
  unfolding count_lines
  lines-later zero = sym (append-nil (count_line_at (entry_words (e ∷ es)) 0))
  lines-later (suc k) =
      ap₂ ◌++◌ (lines-later k) (line-later k)
      ∙ append_assoc (count_line_at (entry_words (e ∷ es)) 0) (count_lines (entry_words es) k) (count_line_at (entry_words es) k)

pub entries-lines : (es : List Entry) → count_lines (entry_words es) (length es) ≡ entry_lines es
unfolding count_lines entry_lines count_line_at entry_words
entries-lines [] = refl
entries-lines (e ∷ es) = lines-later e es (length es) ∙ ap (λ bs. count_line_at (entry_words (e ∷ es)) 0 ++ bs) (entries-lines es)
