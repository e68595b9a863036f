-- Laws of the truth diagrams of the last variant: whether there is one, and one more.
use mathlib.Core.Path.{◌≡◌, refl, sym, ap, ap₂, subst, ◌∙◌, fun_ext}
use mathlib.Core.Bool.{Bool, true, false, not, cond}
use mathlib.Core.List.{List, [], ◌∷◌, ◌++◌}
use mathlib.Core.Option.{some, none}
use Prim.Native.Nat.{ℕ, suc, ◌+◌, ◌*◌, ◌-◌, ◌≤◌, ◌<◌}
use native.Mathlib.Omega.{arith}
use lib.ListN.{length, get_or, set, take, length-set}
use lib.Seq.{get_or-set_same, get_or-set_other, paste}
use lib.Dec.{eqb}
use borrow.Author.Tests.{ne_eqb, eqb-true, eqb-false}
use Rattle.basics.specs.Tests.{Flag, is_true, is_false, flag}
use Rattle.basics.specs.Members.{clash}
use Rattle.label.specs.Limits.{predicate_count}
use Rattle.names.specs.Many.{many}
use Rattle.names.specs.ManyLaws.{many-ext}
use Rattle.diagram.specs.Diagram.{Diagram}
use Rattle.diagram.specs.Listing.{diagram_of}
use Rattle.state.proofs.ValueLaws.{by-low}
use Rattle.regression.specs.Regression.{Truths}
use Rattle.regression.specs.RegressCall.{truths_of}
use Rattle.mdp.specs.Model.{Variant, Action, most_variants}
use Rattle.session.specs.Session.{with_actions}
use Rattle.model.specs.declared.Head.{Head}
use Rattle.model.specs.Layout.{part, variant_words, action_words, variant_place, weight_words, spans_at, variant_at, variants_of, action_at, model_of}
use Rattle.session.specs.ModelLines.{last_variant, last_truths, with_truth_at, truths_now, truths_of_last, is_some}
use Rattle.model_entry.specs.Inner.{model_with, HasListing, KeepsStarts}
use Rattle.model_entry.specs.Building.{Inside, truth_place, SpannedVariant, SpannedAction, Canonical, ListedVariant, Listed}
use Rattle.model_entry.specs.Starts.{Slot, reward, weight, truth, starts_in}
use Rattle.model_entry.specs.Adding.{RowsRoom, TruthRoom}
use Rattle.model_entry.specs.Adding.{HasTruth, TruthAdded, last_place, TruthPlaced, more_words}
use Rattle.model_entry.specs.WordLaws.{Same, variant_of, action_of, action_use, part-under, truth-none, truth-here, truth-same, truths-over, span_same, action-same, variant-same}
use Rattle.model_entry.specs.WordLaws.{inside-kept, spanned-variant, spanned-action, canonical-on, listed-variant}
use Rattle.model_entry.proofs.AddLaws.{snoc, below-action, Appended, appended}

-- ===== The last of a list =====

now-last : (l : List Action) (a : Action) → truths_now (l ++ (a ∷ [])) ≡ truths_of_last a.variants
now-last [] a = refl
now-last (x ∷ []) a = refl
now-last (x ∷ y ∷ l) a = now-last (y ∷ l) a

of-last : (l : List Variant) (v : Variant) → truths_of_last (l ++ (v ∷ [])) ≡ v.truths
of-last [] v = refl
of-last (x ∷ []) v = refl
of-last (x ∷ y ∷ l) v = of-last (y ∷ l) v

variant-last : (l : List Action) (a : Action) (f : Truths → Truths) → last_variant (l ++ (a ∷ [])) f ≡ l ++ (action_of a.count (last_truths a.variants f) ∷ [])
variant-last [] a f = refl
variant-last (x ∷ []) a f = refl
variant-last (x ∷ y ∷ l) a f = ap (λ (r : List Action). x ∷ r) (variant-last (y ∷ l) a f)

truths-last : (l : List Variant) (v : Variant) (f : Truths → Truths) → last_truths (l ++ (v ∷ [])) f ≡ l ++ (variant_of v.weight (f v.truths) ∷ [])
truths-last [] v f = refl
truths-last (x ∷ []) v f = refl
truths-last (x ∷ y ∷ l) v f = ap (λ (r : List Variant). x ∷ r) (truths-last (y ∷ l) v f)

-- ===== Whether there is one =====

module _ (l t : List ℕ) (h : Head) (p a n : ℕ) (ea : h.actions ≡ suc a) (en : variants_of t a ≡ suc n) where
  variants-now : truths_of_last (action_at l t a).variants ≡ truths_of l (spans_at t (variant_place a n))
  unfolding action_at many variant_at
  variants-now =
      let g : ℕ → Variant = λ u. variant_at l t (variant_place a u) in
      ap (λ (k : ℕ). truths_of_last (many g k)) en ∙ of-last (many g n) (g n)

  now-is : truths_now (many (action_at l t) h.actions) p ≡ truths_of l (spans_at t (variant_place a n)) p
  unfolding many
  now-is =
      ap (λ (k : ℕ). truths_now (many (action_at l t) k) p) ea
      ∙ ap (λ (u : Truths). u p) (now-last (many (action_at l t) a) (action_at l t a) ∙ variants-now)

module _ {t : List ℕ} {h : Head} {p : ℕ} (r : TruthRoom t h p) where
  now-here : (ar l : List ℕ) → truths_now (model_of ar l t h).actions p ≡ truths_of l (spans_at t (last_place t h)) p
  unfolding model_of
  now-here ar l = now-is l t h p (h.actions - 1) (variants_of t (h.actions - 1) - 1) (omega (arith, r.some)) (omega (arith, r.has))

  pub has-none : {i : ℕ} → TruthPlaced t h p i → get_or t (i + 1) 0 ≡ 0 → HasTruth t h p false
  has-none {i} e z = record {
    answer = λ ar l. sym (ap is_some (now-here ar l ∙ truth-none t (last_place t h) p l (λ k. ap (λ (x : ℕ). get_or t (x + 1) 0) (sym e.place) ∙ z)));
  }

  pub has_one : {i : ℕ} → TruthPlaced t h p i → (get_or t (i + 1) 0 ≡ 0 → ⊥) → HasTruth t h p true
  has_one {i} e z = record {
    answer = λ ar l.
        let n : get_or t (truth_place (last_place t h) p + 1) 0 ≡ 0 → ⊥ = λ y. z (ap (λ (x : ℕ). get_or t (x + 1) 0) e.place ∙ y) in
        sym (ap is_some
        (now-here ar l
        ∙ truth-here t (last_place t h) p l r.declared
        ∙ ap (λ (b : Bool). cond b none (some (diagram_of (weight_words l t (truth_place (last_place t h) p))))) (ne_eqb (get_or t (truth_place (last_place t h) p + 1) 0) 0 n)));
  }

  pub has-truth : {i : ℕ} → TruthPlaced t h p i → HasTruth t h p (not (eqb (get_or t (i + 1) 0) 0))
  has-truth {i} e = go (flag (eqb (get_or t (i + 1) 0) 0))
    where
      go : Flag (eqb (get_or t (i + 1) 0) 0) → HasTruth t h p (not (eqb (get_or t (i + 1) 0) 0))
      go (is_true z) = rw z (has-none e (eqb-true (get_or t (i + 1) 0) 0 z))
      go (is_false z) = rw z (has_one e (eqb-false (get_or t (i + 1) 0) 0 z))

  pub last-few : variants_of t (h.actions - 1) ≤ most_variants
  last-few = (r.spanned.actions (h.actions - 1) (omega (arith, r.some))).few

  -- the words of the last variant lie in the table
  last-room : last_place t h + variant_words ≤ length t
  last-room = omega (arith, r.spanned.room, r.spanned.few, r.some, r.has, last-few)

  pub truth-placed : TruthPlaced t h p ((h.actions - 1) * action_words + 2 + (variants_of t (h.actions - 1) - 1) * variant_words + 2 + p * 2)
  truth-placed = record { place = refl; inside = omega (arith, last-room, r.declared) }

  -- no diagram: no words
  none_here : (ar l : List ℕ) → is_some (truths_now (model_of ar l t h).actions p) ≡ false → get_or t (truth_place (last_place t h) p + 1) 0 ≡ 0
  none_here ar l e = go (flag (eqb (get_or t (truth_place (last_place t h) p + 1) 0) 0))
    where
      go : Flag (eqb (get_or t (truth_place (last_place t h) p + 1) 0) 0) → get_or t (truth_place (last_place t h) p + 1) 0 ≡ 0
      go (is_true z) = eqb-true (get_or t (truth_place (last_place t h) p + 1) 0) 0 z
      go (is_false z) = clash refl ((has_one truth-placed (eqb-false (get_or t (truth_place (last_place t h) p + 1) 0) 0 z)).answer ar l ∙ e)

-- ===== One more =====

-- the variant u of the action k stays with all its words, or it is the last variant n of the last action a
data Where (t t' : List ℕ) (a n k u : ℕ) : Type 0 where
  before-it : Same t t' (variant_place k u) variant_words → Where t t' a n k u
  itself : k ≡ a → u ≡ n → Where t t' a n k u

pub second-room : {t : List ℕ} {h : Head} {p i : ℕ} (x : ℕ) → TruthPlaced t h p i → i + 1 < length (set t i x)
second-room {t} {h} {p} {i} x s = omega (arith, length-set t i x, s.inside)

-- the two words at the place q become x and y
abbrev pub pair_set : List ℕ → ℕ → ℕ → ℕ → List ℕ
pair_set t q x y = set (set t q x) (q + 1) y

module _ (t : List ℕ) (q x y : ℕ) where
  pair-kept : (j : ℕ) → (j ≡ q → ⊥) → (j ≡ q + 1 → ⊥) → get_or (pair_set t q x y) j 0 ≡ get_or t j 0
  pair-kept j e f = get_or-set_other (set t q x) (q + 1) j y 0 f ∙ get_or-set_other t q j x 0 e

  pair-first : q + 2 ≤ length t → get_or (pair_set t q x y) q 0 ≡ x
  pair-first h = get_or-set_other (set t q x) (q + 1) q y 0 (λ e. omega arith) ∙ get_or-set_same t q x 0 (omega arith)

  pair-second : q + 2 ≤ length t → get_or (pair_set t q x y) (q + 1) 0 ≡ y
  pair-second h = get_or-set_same (set t q x) (q + 1) y 0 (omega (arith, length-set t q x))

  pair-length : length (pair_set t q x y) ≡ length t
  pair-length = length-set (set t q x) (q + 1) y ∙ length-set t q x

module _ {l l' t out : List ℕ} {h : Head} {rows p : ℕ} (r : RowsRoom l h out rows) (some-rows : 0 < rows) (v : TruthRoom t h p)
    (e : l' ≡ paste l h.words out (rows * 3)) where
  abbrev a : ℕ
  a = h.actions - 1

  abbrev n : ℕ
  n = variants_of t a - 1

  abbrev i : ℕ
  i = variant_place a n

  abbrev q : ℕ
  q = truth_place i p

  abbrev d : Diagram
  d = diagram_of (take (rows * 3) out)

  abbrev t' : List ℕ
  t' = pair_set t q h.words (rows * 3)

  c : Appended l h.words out (rows * 3) l'
  c = appended r e

  actions-some : h.actions ≡ suc a
  actions-some = omega (arith, v.some)

  variants-some : variants_of t a ≡ suc n
  variants-some = omega (arith, v.has)

  last-action : SpannedAction t h.words a
  last-action = v.spanned.actions a (omega (arith, actions-some))

  last-variant : SpannedVariant t h.words i
  last-variant = last-action.variants n (omega (arith, variants-some))

  room : q + 2 ≤ length t
  room = omega (arith, last-room v, v.declared)

  kept : (j : ℕ) → (j ≡ q → ⊥) → (j ≡ q + 1 → ⊥) → get_or t' j 0 ≡ get_or t j 0
  kept = pair-kept t q h.words (rows * 3)

  before : (j : ℕ) → j < i + 2 → get_or t' j 0 ≡ get_or t j 0
  before j z = kept j (λ y. omega arith) (λ y. omega arith)

  earlier : (k : ℕ) → k < a → Same t t' (k * action_words) (action_use t k)
  earlier k z = below-action t t' a k h.words (λ j y. before j (omega arith)) z (v.spanned.actions k (omega (arith, actions-some)))

  earlier-variant : (u : ℕ) → u < n → Same t t' (variant_place a u) variant_words
  earlier-variant u z j x y = before j (omega arith)

  -- the words of the last variant's other truth diagrams
  other-stays : (k u g : ℕ) → k ≡ a → u ≡ n → (g ≡ p → ⊥)
      → (get_or t' (truth_place (variant_place k u) g) 0 ≡ get_or t (truth_place (variant_place k u) g) 0)
      × (get_or t' (truth_place (variant_place k u) g + 1) 0 ≡ get_or t (truth_place (variant_place k u) g + 1) 0)
  other-stays k u g x y z = (
    kept (truth_place (variant_place k u) g) (λ o. z (omega arith)) (λ o. z (omega arith)),
    kept (truth_place (variant_place k u) g + 1) (λ o. z (omega arith)) (λ o. z (omega arith)),
  )

  other-truth : (k : ℕ) → (k ≡ p → ⊥) → (get_or t' (truth_place i k) 0 ≡ get_or t (truth_place i k) 0) × (get_or t' (truth_place i k + 1) 0 ≡ get_or t (truth_place i k + 1) 0)
  other-truth k z = other-stays a n k refl refl z

  new-words : weight_words l' t' q ≡ take (rows * 3) out
  new-words = ap₂ (part l') (pair-first t q h.words (rows * 3) room) (pair-second t q h.words (rows * 3) room) ∙ c.there

  new-some : get_or t' (q + 1) 0 ≡ 0 → ⊥
  new-some z = omega (arith, pair-second t q h.words (rows * 3) room, z)

  new-truth : truths_of l' (spans_at t' i) p ≡ some d
  new-truth =
      truth-here t' i p l' v.declared
      ∙ ap₂ (λ (b : Bool) (ws : List ℕ). cond b none (some (diagram_of ws))) (ne_eqb (get_or t' (q + 1) 0) 0 new-some) new-words

  truth-is : (k : ℕ) → Flag (eqb k p) → truths_of l' (spans_at t' i) k ≡ with_truth_at (truths_of l (spans_at t i)) p d k
  unfolding with_truth_at
  truth-is k (is_true z) =
      ap (truths_of l' (spans_at t' i)) (eqb-true k p z) ∙ new-truth ∙ sym (ap (λ (b : Bool). cond b (some d) (truths_of l (spans_at t i) k)) z)
  truth-is k (is_false z) =
      let w = other-truth k (eqb-false k p z) in
      by-low (truths_of l' (spans_at t' i) k ≡ truths_of l (spans_at t i) k) predicate_count k
      (λ y. truth-same l l' t t' h.words c.before i k y w.0 w.1 (last-variant.truths k y))
      (truths-over l l' t t' h.words c.before i k)
      ∙ sym (ap (λ (b : Bool). cond b (some d) (truths_of l (spans_at t i) k)) z)

  variant_is : variant_at l' t' i ≡ variant_of (variant_at l t i).weight (with_truth_at (variant_at l t i).truths p d)
  unfolding variant_at
  variant_is =
      ap₂ variant_of (ap diagram_of (span_same l l' t t' h.words c.before i (before i (omega arith)) (before (i + 1) (omega arith)) last-variant.weight))
      (fun_ext (λ k. truth-is k (flag (eqb k p))))

  action-is : action_at l' t' a ≡ action_of (action_at l t a).count (last_truths (action_at l t a).variants (λ truths. with_truth_at truths p d))
  unfolding action_at many
  action-is =
      let g : ℕ → Variant = λ u. variant_at l t (variant_place a u) in
      let g' : ℕ → Variant = λ u. variant_at l' t' (variant_place a u) in
      ap₂ action_of (before (a * action_words) (omega arith))
      (ap (many g') (before (a * action_words + 1) (omega arith) ∙ variants-some)
      ∙ ap₂ snoc
      (many-ext g' g n
      (λ u z. variant-same l l' t t' h.words c.before (variant_place a u) (earlier-variant u z) (last-action.variants u (omega (arith, variants-some)))))
      variant_is
      ∙ sym (truths-last (many g n) (g n) (λ truths. with_truth_at truths p d))
      ∙ ap (λ (k : ℕ). last_truths (many g k) (λ truths. with_truth_at truths p d)) (sym variants-some))

  actions-are : many (action_at l' t') h.actions ≡ last_variant (many (action_at l t) h.actions) (λ truths. with_truth_at truths p d)
  unfolding many
  actions-are =
      ap (many (action_at l' t')) actions-some
      ∙ ap₂ snoc
      (many-ext (action_at l' t') (action_at l t) a
      (λ k z. action-same l l' t t' h.words c.before k (earlier k z) (v.spanned.actions k (omega (arith, actions-some)))))
      action-is
      ∙ sym (variant-last (many (action_at l t) a) (action_at l t a) (λ truths. with_truth_at truths p d))
      ∙ ap (λ (k : ℕ). last_variant (many (action_at l t) k) (λ truths. with_truth_at truths p d)) (sym actions-some)

  reward-same : part l' h.reward_start h.reward_words ≡ part l h.reward_start h.reward_words
  reward-same = part-under h.words l l' c.before h.reward_start h.reward_words v.spanned.reward

  model_is : (ar : List ℕ) → model_of ar l' t' (more_words h (rows * 3))
      ≡ with_actions (model_of ar l t h) (last_variant (model_of ar l t h).actions (λ truths. with_truth_at truths p d))
  unfolding model_of
  model_is ar = ap₂ (model_with ar h) (ap diagram_of reward-same) actions-are

  -- ===== What stays good =====

  abbrev w : ℕ
  w = h.words + rows * 3

  truth-inside : (k : ℕ) → k < predicate_count → Flag (eqb k p) → Inside t' w (truth_place i k)
  truth-inside k y (is_true z) =
      subst (λ (x : ℕ). Inside t' w (truth_place i x)) (sym (eqb-true k p z)) (omega (arith, pair-first t q h.words (rows * 3) room, pair-second t q h.words (rows * 3) room))
  truth-inside k y (is_false z) =
      let x = other-truth k (eqb-false k p z) in
      inside-kept l l' t t' h.words w c.before (omega arith) (truth_place i k) x.0 x.1 (last-variant.truths k y)

  new-spanned : SpannedVariant t' w i
  new-spanned = record {
    weight = inside-kept l l' t t' h.words w c.before (omega arith) i (before i (omega arith)) (before (i + 1) (omega arith)) last-variant.weight;
    truths = λ k y. truth-inside k y (flag (eqb k p));
  }

  variant-spanned : (u : ℕ) → u < suc n → SpannedVariant t' w (variant_place a u)
  variant-spanned u y = by-low (SpannedVariant t' w (variant_place a u)) n u
      (λ z.
      spanned-variant l l' t t' h.words w c.before (omega arith) (variant_place a u) (earlier-variant u z) (last-action.variants u (omega (arith, variants-some))))
      (λ z. let m : n ≡ u = omega arith in subst (λ (x : ℕ). SpannedVariant t' w (variant_place a x)) m new-spanned)

  variants-now-some : variants_of t' a ≡ suc n
  variants-now-some = before (a * action_words + 1) (omega arith) ∙ variants-some

  action-spanned : (k : ℕ) → k < h.actions → SpannedAction t' w k
  action-spanned k y = by-low (SpannedAction t' w k) a k
      (λ z. spanned-action l l' t t' h.words w c.before (omega arith) k (earlier k z) (v.spanned.actions k y))
      (λ z.
      let m : a ≡ k = omega (arith, actions-some) in
      subst (SpannedAction t' w) m (record {
        few = omega (arith, variants-now-some, variants-some, last-action.few);
        variants = λ u g. variant-spanned u (omega (arith, variants-now-some, g));
      }))

  module _ (b : Listed l t h) (listed : Canonical (take (rows * 3) out)) where
    old : ListedVariant l t i
    old = b.variants a n (omega (arith, actions-some)) (omega (arith, variants-some))

    truth-listed : (k : ℕ) → 0 < k → k < predicate_count → (get_or t' (truth_place i k + 1) 0 ≡ 0 → ⊥) → Flag (eqb k p) → Canonical (weight_words l' t' (truth_place i k))
    truth-listed k f y s (is_true z) =
        subst (λ (x : ℕ). Canonical (weight_words l' t' (truth_place i x))) (sym (eqb-true k p z)) (canonical-on new-words listed)
    truth-listed k f y s (is_false z) =
        let x = other-truth k (eqb-false k p z) in
        canonical-on (span_same l l' t t' h.words c.before (truth_place i k) x.0 x.1 (last-variant.truths k y)) (old.truths k f y (λ g. s (x.1 ∙ g)))

    new-listed : ListedVariant l' t' i
    new-listed = record {
      weight =
          canonical-on (span_same l l' t t' h.words c.before i (before i (omega arith)) (before (i + 1) (omega arith)) last-variant.weight) old.weight;
      truths = λ k f y s. truth-listed k f y s (flag (eqb k p));
    }

    variant-listed : (u : ℕ) → u < suc n → ListedVariant l' t' (variant_place a u)
    variant-listed u y = by-low (ListedVariant l' t' (variant_place a u)) n u
        (λ z.
        let g : u < variants_of t a = omega (arith, variants-some) in
        listed-variant l l' t t' h.words w c.before (omega arith) (variant_place a u) (earlier-variant u z) (last-action.variants u g)
        (b.variants a u (omega (arith, actions-some)) g))
        (λ z. let m : n ≡ u = omega arith in subst (λ (x : ℕ). ListedVariant l' t' (variant_place a x)) m new-listed)

    all_listed : (k u : ℕ) → k < h.actions → u < variants_of t' k → ListedVariant l' t' (variant_place k u)
    all_listed k u y s = by-low (ListedVariant l' t' (variant_place k u)) a k
        (λ z.
        let f = earlier k z in
        let x = v.spanned.actions k y in
        let g : u < variants_of t k = omega (arith, f (k * action_words + 1) (omega arith) (omega arith), s) in
        listed-variant l l' t t' h.words w c.before (omega arith) (variant_place k u) (λ j o m. f j (omega arith) (omega arith)) (x.variants u g) (b.variants k u y g))
        (λ z.
        let m : a ≡ k = omega (arith, actions-some) in
        let g : u < variants_of t' a = subst (λ (x : ℕ). u < variants_of t' x) (sym m) s in
        subst (λ (x : ℕ). ListedVariant l' t' (variant_place x u)) m (variant-listed u (omega (arith, variants-now-some, g))))

  -- ===== Where listings begin =====

  where-is : (k u : ℕ) → k < h.actions → u < variants_of t k → Where t t' a n k u
  where-is k u y s = by-low (Where t t' a n k u) a k
      (λ z. before-it (λ j f g. earlier k z j (omega arith) (omega (arith, s))))
      (λ z.
      let m : k ≡ a = omega (arith, actions-some) in
      let g : u < variants_of t a = subst (λ (x : ℕ). u < variants_of t x) m s in
      by-low (Where t t' a n k u) n u
      (λ o. before-it (subst (λ (x : ℕ). Same t t' (variant_place x u) variant_words) (sym m) (earlier-variant u o)))
      (λ o. itself m (omega (arith, variants-some))))

  variants-stay : (k : ℕ) → k < h.actions → variants_of t' k ≡ variants_of t k
  variants-stay k y = before (k * action_words + 1) (omega (arith, actions-some))

  module _ (none_yet : get_or t (q + 1) 0 ≡ 0) where
    weight-stays : (k u : ℕ) → Where t t' a n k u → get_or t' (variant_place k u) 0 ≡ get_or t (variant_place k u) 0
    weight-stays k u (before-it s) = s (variant_place k u) (omega arith) (omega arith)
    weight-stays k u (itself x y) = before (variant_place k u) (omega arith)

    truth-stays : (k u g : ℕ) → g < predicate_count → (get_or t (truth_place (variant_place k u) g + 1) 0 ≡ 0 → ⊥) → Where t t' a n k u → Flag (eqb g p)
        → get_or t' (truth_place (variant_place k u) g) 0 ≡ get_or t (truth_place (variant_place k u) g) 0
    truth-stays k u g f s (before-it y) z = y (truth_place (variant_place k u) g) (omega arith) (omega arith)
    truth-stays k u g f s (itself x y) (is_true z) =
        let m : truth_place (variant_place k u) g + 1 ≡ q + 1 = omega (arith, eqb-true g p z) in
        absurd (s (ap (λ (j : ℕ). get_or t j 0) m ∙ none_yet))
    truth-stays k u g f s (itself x y) (is_false z) = (other-stays k u g x y (eqb-false g p z)).0

    truth-new : (k u g : ℕ) → g < predicate_count → (get_or t' (truth_place (variant_place k u) g + 1) 0 ≡ 0 → ⊥)
        → ((get_or t (truth_place (variant_place k u) g + 1) 0 ≡ 0 → ⊥) → ⊥) → Where t t' a n k u → Flag (eqb g p)
        → get_or t' (truth_place (variant_place k u) g) 0 ≡ h.words
    truth-new k u g f s o (before-it y) z = absurd (o (λ d. s (y (truth_place (variant_place k u) g + 1) (omega arith) (omega arith) ∙ d)))
    truth-new k u g f s o (itself x y) (is_true z) =
        let m : truth_place (variant_place k u) g ≡ q = omega (arith, eqb-true g p z) in
        ap (λ (j : ℕ). get_or t' j 0) m ∙ pair-first t q h.words (rows * 3) room
    truth-new k u g f s o (itself x y) (is_false z) = absurd (o (λ d. s ((other-stays k u g x y (eqb-false g p z)).1 ∙ d)))

    stays : (s : Slot) → HasListing t h s → starts_in t' (more_words h (rows * 3)) s ≡ starts_in t h s
    stays reward x = refl
    stays (weight k u) x = weight-stays k u (where-is k u x.0 x.1)
    stays (truth k u g) x = truth-stays k u g x.1 x.4 (where-is k u x.2 x.3) (flag (eqb g p))

    new : (s : Slot) → HasListing t' (more_words h (rows * 3)) s → (HasListing t h s → ⊥) → starts_in t' (more_words h (rows * 3)) s ≡ h.words
    new reward x o = absurd (o x)
    new (weight k u) x o = absurd (o (x.0, omega (arith, variants-stay k x.0, x.1)))
    new (truth k u g) x o =
        let y : u < variants_of t k = omega (arith, variants-stay k x.2, x.3) in
        truth-new k u g x.1 x.4 (λ d. o (x.0, x.1, x.2, y, d)) (where-is k u x.2 y) (flag (eqb g p))

    starts-are : KeepsStarts t h t' (more_words h (rows * 3))
    starts-are = record { stays = stays; new = new; none = λ z. refl }

  pub truth-added : {j : ℕ} → TruthPlaced t h p j → TruthAdded l t h p out rows l' (set (set t j h.words) (j + 1) (rows * 3)) (more_words h (rows * 3))
  truth-added s = subst (λ (x : ℕ). TruthAdded l t h p out rows l' (set (set t x h.words) (x + 1) (rows * 3)) (more_words h (rows * 3))) (sym s.place) (record {
    answer = refl;
    variants = before (a * action_words + 1) (omega arith);
    model = model_is;
    building = λ b g. record {
      spanned = record {
        room = omega (arith, pair-length t q h.words (rows * 3), v.spanned.room);
        few = v.spanned.few;
        used = r.room;
        reward = omega (arith, v.spanned.reward);
        actions = action-spanned;
      };
      listed = record {
        reward = λ z. canonical-on reward-same (b.listed.reward z);
        variants = all_listed b.listed g;
      };
    };
    starts = λ ar z. starts-are (none_here v ar l z);
  })
