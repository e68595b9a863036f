-- Laws of one variant more.
use mathlib.Core.Path.{◌≡◌, refl, sym, ap, ap₂, subst, ◌∙◌, fun_ext}
use mathlib.Core.List.{List, [], ◌∷◌, ◌++◌}
use Prim.Native.Nat.{ℕ, suc, ◌+◌, ◌*◌, ◌-◌, ◌≤◌, ◌<◌}
use native.Mathlib.Omega.{arith}
use borrow.Author.Rules.{rules}
use borrow.Rule.Slice.PartMut.{put_mid}
use Rattle.std.proofs.lemmas.List.{places}
use lib.ListN.{length, get_or, set, take, length-set}
use lib.Seq.{get_or-set_same, get_or-set_other, paste}
use Rattle.names.specs.Many.{many}
use Rattle.names.specs.ManyLaws.{many-ext}
use Rattle.diagram.specs.Listing.{diagram_of}
use Rattle.state.proofs.ValueLaws.{by-low}
use Rattle.mdp.specs.Model.{Variant, Action, most_variants}
use Rattle.session.specs.Session.{with_actions}
use Rattle.model.specs.declared.Head.{Head}
use Rattle.model.specs.Layout.{part, span_words, variant_words, action_words, variant_place, variant_at, variants_of, action_at, model_of}
use Rattle.session.specs.ModelLines.{add_variant}
use Rattle.model_entry.specs.Inner.{model_with}
use Rattle.model_entry.specs.Building.{truth_place, SpannedVariant, SpannedAction, Canonical, ListedVariant, Listed, new_variant}
use Rattle.model_entry.specs.Adding.{RowsRoom, VariantRoom}
use Rattle.model_entry.specs.Adding.{VariantAdded, Cleared, new_place, Opened, more_words}
use Rattle.model_entry.specs.WordLaws.{Same, variant_of, action_of, action_use, part-under, truth-none, action-same, variant-same, spanned-variant, spanned-action, canonical-on, listed-variant}
use Rattle.model_entry.proofs.StartLaws.{NewVariant, starts-kept}
use Rattle.model_entry.proofs.AddLaws.{snoc, below-action, Appended, appended}

-- ===== Clearing =====

pub words-cleared : (s m : List ℕ) (i k : ℕ) → i + span_words ≤ length s → k ≡ span_words → length m ≡ k → ((j : ℕ) → j < k → get_or m j 0 ≡ 0) → Cleared s i span_words (put_mid i k s m)
words-cleared s m i k h e f z = record {
  size = search (rules, places);
  before = λ j l. search (rules, places);
  zeros = λ j x y.
      let p : j ≡ i + (j - i) = omega arith in
      let q : get_or (put_mid i k s m) (i + (j - i)) 0 ≡ get_or m (j - i) 0 = search (rules, places) in
      ap (λ (n : ℕ). get_or (put_mid i k s m) n 0) p ∙ q ∙ z (j - i) (omega arith);
}

-- ===== The table =====

module _ (t t₁ : List ℕ) (a x n i m : ℕ) (l : a * action_words + action_words ≤ length t) (few : variants_of t a < most_variants) (c : Cleared t i m t₁) where
  pub place-second : new_place t a + 1 < length (set t₁ (new_place t a) x)
  place-second = omega (arith, length-set t₁ (new_place t a) x, c.size)

  pub place-count : a * action_words + 1 < length (set (set t₁ (new_place t a) x) (new_place t a + 1) n)
  place-count = omega (arith, length-set t₁ (new_place t a) x, length-set (set t₁ (new_place t a) x) (new_place t a + 1) n, c.size)

module _ (t t₁ : List ℕ) (a x n : ℕ) (l : a * action_words + action_words ≤ length t) (few : variants_of t a < most_variants)
    (c : Cleared t (new_place t a + 2) span_words t₁) where
  abbrev t₂ : List ℕ
  t₂ = set t₁ (new_place t a) x

  abbrev t₃ : List ℕ
  t₃ = set t₂ (new_place t a + 1) n

  kept : (j : ℕ) → (j ≡ a * action_words + 1 → ⊥) → j < new_place t a → get_or (set t₃ (a * action_words + 1) (variants_of t a + 1)) j 0 ≡ get_or t j 0
  kept j e h =
      get_or-set_other t₃ (a * action_words + 1) j (variants_of t a + 1) 0 e
      ∙ get_or-set_other t₂ (new_place t a + 1) j n 0 (λ q. omega arith)
      ∙ get_or-set_other t₁ (new_place t a) j x 0 (λ q. omega arith)
      ∙ c.before j (omega arith)

  length_two : length t₂ ≡ length t
  length_two = length-set t₁ (new_place t a) x ∙ c.size

  length_three : length t₃ ≡ length t
  length_three = length-set t₂ (new_place t a + 1) n ∙ length_two

  pub opened : Opened t a x n (set (set (set t₁ (new_place t a) x) (new_place t a + 1) n) (a * action_words + 1) (variants_of t a + 1))
  opened = record {
    size = length-set t₃ (a * action_words + 1) (variants_of t a + 1) ∙ length_three;
    before = λ j h. kept j (λ e. omega arith) (omega arith);
    more = get_or-set_same t₃ (a * action_words + 1) (variants_of t a + 1) 0 (omega (arith, length_three));
    others = λ j h k. kept j (λ e. omega arith) k;
    begins =
        get_or-set_other t₃ (a * action_words + 1) (new_place t a) (variants_of t a + 1) 0 (λ e. omega arith)
        ∙ get_or-set_other t₂ (new_place t a + 1) (new_place t a) n 0 (λ e. omega arith)
        ∙ get_or-set_same t₁ (new_place t a) x 0 (omega (arith, c.size));
    counts =
        get_or-set_other t₃ (a * action_words + 1) (new_place t a + 1) (variants_of t a + 1) 0 (λ e. omega arith)
        ∙ get_or-set_same t₂ (new_place t a + 1) n 0 (omega (arith, length_two));
    zeros = λ j h k.
        get_or-set_other t₃ (a * action_words + 1) j (variants_of t a + 1) 0 (λ e. omega arith)
        ∙ get_or-set_other t₂ (new_place t a + 1) j n 0 (λ e. omega arith)
        ∙ get_or-set_other t₁ (new_place t a) j x 0 (λ e. omega arith)
        ∙ c.zeros j h (omega arith);
  }

-- ===== The model =====

add-last : (l : List Action) (a : Action) (v : Variant) → add_variant (l ++ (a ∷ [])) v ≡ l ++ (action_of a.count (a.variants ++ (v ∷ [])) ∷ [])
add-last [] a v = refl
add-last (x ∷ []) a v = refl
add-last (x ∷ y ∷ l) a v = ap (λ (r : List Action). x ∷ r) (add-last (y ∷ l) a v)

module _ {l l' t t' out : List ℕ} {h : Head} {rows : ℕ} (r : RowsRoom l h out rows) (v : VariantRoom t h) (e : l' ≡ paste l h.words out (rows * 3))
    (o : Opened t (h.actions - 1) h.words (rows * 3) t') where
  abbrev new : Variant
  new = new_variant (diagram_of (take (rows * 3) out))

  p : Appended l h.words out (rows * 3) l'
  p = appended r e

  last-below : h.actions - 1 < h.actions
  last-below = omega (arith, v.some)

  last-spanned : SpannedAction t h.words (h.actions - 1)
  last-spanned = v.spanned.actions (h.actions - 1) last-below

  earlier : (k : ℕ) → k < h.actions - 1 → Same t t' (k * action_words) (action_use t k)
  earlier k q = below-action t t' (h.actions - 1) k h.words (λ j z. o.before j (omega arith)) q (v.spanned.actions k (omega arith))

  earlier-variant : (u : ℕ) → u < variants_of t (h.actions - 1) → Same t t' (variant_place (h.actions - 1) u) variant_words
  earlier-variant u q j y z = o.others j (omega arith) (omega arith)

  variant-new : variant_at l' t' (new_place t (h.actions - 1)) ≡ new
  unfolding variant_at
  variant-new =
      ap₂ variant_of (ap diagram_of (ap₂ (part l') o.begins o.counts ∙ p.there))
      (fun_ext (λ q. truth-none t' (new_place t (h.actions - 1)) q l' (λ k. o.zeros (truth_place (new_place t (h.actions - 1)) q + 1) (omega arith) (omega arith))))

  action-last : action_at l' t' (h.actions - 1) ≡ action_of (action_at l t (h.actions - 1)).count (snoc (action_at l t (h.actions - 1)).variants new)
  unfolding action_at many
  action-last =
      let g : ℕ → Variant = λ u. variant_at l t (variant_place (h.actions - 1) u) in
      let g' : ℕ → Variant = λ u. variant_at l' t' (variant_place (h.actions - 1) u) in
      let m : variants_of t (h.actions - 1) + 1 ≡ suc (variants_of t (h.actions - 1)) = omega arith in
      ap₂ action_of (o.before ((h.actions - 1) * action_words) (omega arith))
      (ap (many g') (o.more ∙ m)
      ∙ ap₂ snoc
      (many-ext g' g (variants_of t (h.actions - 1))
      (λ u q. variant-same l l' t t' h.words p.before (variant_place (h.actions - 1) u) (earlier-variant u q) (last-spanned.variants u q)))
      variant-new)

  actions-are : many (action_at l' t') h.actions ≡ add_variant (many (action_at l t) h.actions) new
  unfolding many
  actions-are =
      let m : h.actions ≡ suc (h.actions - 1) = omega (arith, v.some) in
      ap (many (action_at l' t')) m
      ∙ ap₂ snoc
      (many-ext (action_at l' t') (action_at l t) (h.actions - 1)
      (λ k q. action-same l l' t t' h.words p.before k (earlier k q) (v.spanned.actions k (omega arith))))
      action-last
      ∙ sym (add-last (many (action_at l t) (h.actions - 1)) (action_at l t (h.actions - 1)) new)
      ∙ ap (λ (k : ℕ). add_variant (many (action_at l t) k) new) (sym m)

  model_is : (ar : List ℕ) → model_of ar l' t' (more_words h (rows * 3)) ≡ with_actions (model_of ar l t h) (add_variant (model_of ar l t h).actions new)
  unfolding model_of
  model_is ar =
      ap₂ (model_with ar h) (ap diagram_of (part-under h.words l l' p.before h.reward_start h.reward_words v.spanned.reward)) actions-are

  variant-spanned : (u : ℕ) → u < variants_of t (h.actions - 1) + 1 → SpannedVariant t' (h.words + rows * 3) (variant_place (h.actions - 1) u)
  variant-spanned u q = by-low (SpannedVariant t' (h.words + rows * 3) (variant_place (h.actions - 1) u)) (variants_of t (h.actions - 1)) u
      (λ k. spanned-variant l l' t t' h.words (h.words + rows * 3) p.before (omega arith) (variant_place (h.actions - 1) u) (earlier-variant u k) (last-spanned.variants u k))
      (λ k.
      let m : variants_of t (h.actions - 1) ≡ u = omega arith in
      subst (λ (x : ℕ). SpannedVariant t' (h.words + rows * 3) (variant_place (h.actions - 1) x)) m (record {
        weight = omega (arith, o.begins, o.counts);
        truths = λ q y. omega (
          arith,
          o.zeros (truth_place (new_place t (h.actions - 1)) q) (omega arith) (omega arith),
          o.zeros (truth_place (new_place t (h.actions - 1)) q + 1) (omega arith) (omega arith),
        );
      }))

  action-spanned : (k : ℕ) → k < h.actions → SpannedAction t' (h.words + rows * 3) k
  action-spanned k q = by-low (SpannedAction t' (h.words + rows * 3) k) (h.actions - 1) k
      (λ y. spanned-action l l' t t' h.words (h.words + rows * 3) p.before (omega arith) k (earlier k y) (v.spanned.actions k q))
      (λ y.
      let m : h.actions - 1 ≡ k = omega arith in
      subst (SpannedAction t' (h.words + rows * 3)) m (record {
        few = omega (arith, o.more, v.more);
        variants = λ u z. variant-spanned u (omega (arith, o.more, z));
      }))

  variant-listed : Listed l t h → Canonical (take (rows * 3) out) → (u : ℕ) → u < variants_of t (h.actions - 1) + 1
      → ListedVariant l' t' (variant_place (h.actions - 1) u)
  variant-listed b i u q = by-low (ListedVariant l' t' (variant_place (h.actions - 1) u)) (variants_of t (h.actions - 1)) u
      (λ k.
      listed-variant l l' t t' h.words (h.words + rows * 3) p.before (omega arith) (variant_place (h.actions - 1) u) (earlier-variant u k) (last-spanned.variants u k)
      (b.variants (h.actions - 1) u last-below k))
      (λ k.
      let m : variants_of t (h.actions - 1) ≡ u = omega arith in
      subst (λ (x : ℕ). ListedVariant l' t' (variant_place (h.actions - 1) x)) m (record {
        weight = canonical-on (ap₂ (part l') o.begins o.counts ∙ p.there) i;
        truths = λ q f y n. absurd (n (o.zeros (truth_place (new_place t (h.actions - 1)) q + 1) (omega arith) (omega arith)));
      }))

  all_listed : Listed l t h → Canonical (take (rows * 3) out) → (k u : ℕ) → k < h.actions → u < variants_of t' k
      → ListedVariant l' t' (variant_place k u)
  all_listed b i k u q z = by-low (ListedVariant l' t' (variant_place k u)) (h.actions - 1) k
      (λ y.
      let s = earlier k y in
      let x = v.spanned.actions k q in
      let g : u < variants_of t k = omega (arith, s (k * action_words + 1) (omega arith) (omega arith), z) in
      listed-variant l l' t t' h.words (h.words + rows * 3) p.before (omega arith) (variant_place k u) (λ j f d. s j (omega arith) (omega arith)) (x.variants u g)
      (b.variants k u q g))
      (λ y.
      let m : h.actions - 1 ≡ k = omega arith in
      let g : u < variants_of t' (h.actions - 1) = subst (λ (x : ℕ). u < variants_of t' x) (sym m) z in
      subst (λ (x : ℕ). ListedVariant l' t' (variant_place x u)) m (variant-listed b i u (omega (arith, o.more, g))))

  -- ===== Where listings begin =====

  old-same : (k u : ℕ) → k < h.actions → u < variants_of t k → Same t t' (variant_place k u) variant_words
  old-same k u q z = by-low (Same t t' (variant_place k u) variant_words) (h.actions - 1) k
      (λ y j f d. earlier k y j (omega arith) (omega (arith, z)))
      (λ y.
      let m : h.actions - 1 ≡ k = omega arith in
      subst (λ (x : ℕ). Same t t' (variant_place x u) variant_words) m (earlier-variant u (subst (λ (x : ℕ). u < variants_of t x) (sym m) z)))

  last-new : NewVariant t' h.words (new_place t (h.actions - 1))
  last-new = record { begins = o.begins; none = λ q y. o.zeros (truth_place (new_place t (h.actions - 1)) q + 1) (omega arith) (omega arith) }

  new-here : (k u : ℕ) → k < h.actions → u < variants_of t' k → (k < h.actions → u < variants_of t k → ⊥) → NewVariant t' h.words (variant_place k u)
  new-here k u q z n = by-low (NewVariant t' h.words (variant_place k u)) (h.actions - 1) k
      (λ y. absurd (n q (omega (arith, earlier k y (k * action_words + 1) (omega arith) (omega arith), z))))
      (λ y.
      let m : h.actions - 1 ≡ k = omega arith in
      let g : u < variants_of t' (h.actions - 1) = subst (λ (x : ℕ). u < variants_of t' x) (sym m) z in
      let d : variants_of t (h.actions - 1) ≤ u = subst (λ (x : ℕ). variants_of t x ≤ u) (sym m) (by-low (variants_of t k ≤ u) (variants_of t k) u (λ s. absurd (n q s)) (λ s. s)) in
      let e : variants_of t (h.actions - 1) ≡ u = omega (arith, o.more, g, d) in
      subst (λ (x : ℕ). NewVariant t' h.words (variant_place x u)) m
      (subst (λ (x : ℕ). NewVariant t' h.words (variant_place (h.actions - 1) x)) e last-new))

  pub variant-added : VariantAdded l t h out rows l' t' (more_words h (rows * 3))
  variant-added = record {
    answer = refl;
    variants = o.more;
    model = model_is;
    building = λ b i. record {
      spanned = record {
        room = omega (arith, o.size, v.spanned.room);
        few = v.spanned.few;
        used = r.room;
        reward = omega (arith, v.spanned.reward);
        actions = action-spanned;
      };
      listed = record {
        reward = λ n.
            canonical-on (part-under h.words l l' p.before h.reward_start h.reward_words v.spanned.reward) (b.listed.reward n);
        variants = all_listed b.listed i;
      };
    };
    starts = starts-kept t t' h (more_words h (rows * 3)) refl refl old-same new-here;
  }
