-- Laws of the lines that add to a model: the model afterwards, and what stays good.
use mathlib.Core.Path.{◌≡◌, refl, ap, ap₂, ◌∙◌}
use mathlib.Core.List.{List, [], ◌∷◌, ◌++◌}
use Prim.Native.Nat.{ℕ, suc, ◌+◌, ◌*◌, ◌≤◌, ◌<◌}
use native.Mathlib.Omega.{arith}
use lib.ListN.{length, get_or, set, take, length-set}
use lib.Seq.{get_or-set_same, get_or-set_other, paste}
use Rattle.names.specs.Many.{many}
use Rattle.names.specs.ManyLaws.{many-ext}
use Rattle.diagram.specs.Listing.{diagram_of}
use Rattle.state.proofs.ValueLaws.{by-low}
use Rattle.session.specs.Session.{with_actions, rewarded}
use Rattle.model.specs.declared.Head.{Head}
use Rattle.model.specs.Layout.{part, listing_words, action_words, variant_place, variant_at, variants_of, action_at, reward_words, model_of}
use Rattle.model_entry.specs.Inner.{model_with, KeepsStarts}
use Rattle.model_entry.specs.Building.{SpannedAction, Spanned, Canonical, ListedVariant, Listed, Building, new_action}
use Rattle.model_entry.specs.Adding.{more_actions, reward_head}
use Rattle.model_entry.specs.Adding.{ActionRoom, ActionAdded, RowsRoom, RewardAdded}
use Rattle.model_entry.specs.WordLaws.{Same, action_of, action_use, paste-before, paste-there, action-same, spanned-action, canonical-on, listed-variant}
use Rattle.model_entry.proofs.StartLaws.{NewVariant, starts-kept, starts-rewarded}

-- a list and one more
abbrev pub snoc : {A : Type 0} → List A → A → List A
snoc l x = l ++ (x ∷ [])

-- ===== One action more =====

-- the words of the action a in use stay where no word before the action n changes
pub below-action : (t t' : List ℕ) (n a w : ℕ) → ((j : ℕ) → j < n * action_words → get_or t' j 0 ≡ get_or t j 0) → a < n → SpannedAction t w a
    → Same t t' (a * action_words) (action_use t a)
below-action t t' n a w s h x j y z = s j (omega (arith, x.few))

module _ (t : List ℕ) (h : Head) (c : ℕ) (r : ActionRoom t h) where
  abbrev t₁ : List ℕ
  t₁ = set t (h.actions * action_words) c

  abbrev t' : List ℕ
  t' = set t₁ (h.actions * action_words + 1) 0

  pub second-room : h.actions * action_words + 1 < length (set t (h.actions * action_words) c)
  second-room = omega (arith, length-set t (h.actions * action_words) c, r.more, r.spanned.room)

  words_same : (j : ℕ) → j < h.actions * action_words → get_or t' j 0 ≡ get_or t j 0
  words_same j q =
      get_or-set_other t₁ (h.actions * action_words + 1) j 0 0 (λ e. omega arith) ∙ get_or-set_other t (h.actions * action_words) j c 0 (λ e. omega arith)

  count-is : get_or t' (h.actions * action_words) 0 ≡ c
  count-is =
      get_or-set_other t₁ (h.actions * action_words + 1) (h.actions * action_words) 0 0 (λ e. omega arith)
      ∙ get_or-set_same t (h.actions * action_words) c 0 (omega (arith, r.more, r.spanned.room))

  variants-none : variants_of t' h.actions ≡ 0
  variants-none = get_or-set_same t₁ (h.actions * action_words + 1) 0 0 second-room

  none_from : (a : ℕ) → a < h.actions + 1 → h.actions ≤ a → variants_of t' a ≡ 0
  none_from a x y = let e : a ≡ h.actions = omega arith in ap (variants_of t') e ∙ variants-none

  stays : (a : ℕ) → a < h.actions → Same t t' (a * action_words) (action_use t a)
  stays a q = below-action t t' h.actions a h.words words_same q (r.spanned.actions a q)

  action-new : (l : List ℕ) → action_at l t' h.actions ≡ new_action c
  unfolding action_at many
  action-new l = ap₂ action_of count-is (ap (many (λ v. variant_at l t' (variant_place h.actions v))) variants-none)

  actions-more : (l : List ℕ) → many (action_at l t') (h.actions + 1) ≡ snoc (many (action_at l t) h.actions) (new_action c)
  unfolding many
  actions-more l =
      let e : h.actions + 1 ≡ suc h.actions = omega arith in
      ap (many (action_at l t')) e
      ∙ ap₂ snoc
      (many-ext (action_at l t') (action_at l t) h.actions
      (λ a q. action-same l l t t' h.words refl a (stays a q) (r.spanned.actions a q)))
      (action-new l)

  action-model : (ar l : List ℕ) → model_of ar l t' (more_actions h) ≡ with_actions (model_of ar l t h) ((model_of ar l t h).actions ++ (new_action c ∷ []))
  unfolding model_of
  action-model ar l = ap (model_with ar h (diagram_of (reward_words l h))) (actions-more l)

  action-spanned : Spanned t' (more_actions h)
  action-spanned = record {
    room = omega (arith, length-set t (h.actions * action_words) c, length-set t₁ (h.actions * action_words + 1) 0, r.spanned.room);
    few = omega (arith, r.more);
    used = r.spanned.used;
    reward = r.spanned.reward;
    actions = λ a q. by-low (SpannedAction t' h.words a) h.actions a
        (λ k. spanned-action [] [] t t' h.words h.words refl (omega arith) a (stays a k) (r.spanned.actions a k))
        (λ k. let z = none_from a q k in record { few = omega (arith, z); variants = λ v y. absurd (omega (arith, z, y)) });
  }

  action-listed : (l : List ℕ) → Listed l t h → Listed l t' (more_actions h)
  action-listed l x = record {
    reward = x.reward;
    variants = λ a v q k. by-low (ListedVariant l t' (variant_place a v)) h.actions a
        (λ z.
        let y = r.spanned.actions a z in
        let s = stays a z in
        let u = s (a * action_words + 1) (omega arith) (omega arith) in
        let g : v < variants_of t a = omega (arith, u, k) in
        listed-variant l l t t' h.words h.words refl (omega arith) (variant_place a v) (λ j m o. s j (omega arith) (omega arith)) (y.variants v g) (x.variants a v z g))
        (λ z. absurd (omega (arith, none_from a q z, k)));
  }

  action-starts : KeepsStarts t h t' (more_actions h)
  action-starts = starts-kept t t' h (more_actions h) refl refl (λ a v q k j y z. stays a q j (omega arith) (omega (arith, k)))
      (λ a v q k n. by-low (NewVariant t' h.words (variant_place a v)) h.actions a
      (λ z. absurd (n z (omega (arith, stays a z (a * action_words + 1) (omega arith) (omega arith), k))))
      (λ z. absurd (omega (arith, none_from a q z, k))))

  pub action-added : ActionAdded t h c (set (set t (h.actions * action_words) c) (h.actions * action_words + 1) 0) (more_actions h)
  action-added = record {
    answer = refl;
    variants = variants-none;
    model = action-model;
    building = λ l b. record { spanned = action-spanned; listed = action-listed l b.listed };
    starts = action-starts;
  }

-- ===== A reward =====

-- n words behind the first w
pub record Appended (l : List ℕ) (w : ℕ) (out : List ℕ) (n : ℕ) (l' : List ℕ) : Type 0 where
  pub before : take w l' ≡ take w l
  pub there : part l' w n ≡ take n out

pub appended : {l l' out : List ℕ} {h : Head} {rows : ℕ} → RowsRoom l h out rows → l' ≡ paste l h.words out (rows * 3) → Appended l h.words out (rows * 3) l'
appended {l} {l'} {out} {h} {rows} r e =
    let k : h.words ≤ length l = omega (arith, r.words, r.room) in
    record {
      before = ap (take h.words) e ∙ paste-before l h.words out (rows * 3) k r.result;
      there = ap (λ (z : List ℕ). part z h.words (rows * 3)) e ∙ paste-there l h.words out (rows * 3) k r.result;
    }

module _ {l l' out : List ℕ} {h : Head} {n : ℕ} (p : Appended l h.words out n l') where
  reward-model : (ar t : List ℕ) → Spanned t h → model_of ar l' t (reward_head h n) ≡ rewarded (model_of ar l t h) (diagram_of (take n out))
  unfolding model_of
  reward-model ar t s =
      ap₂ (model_with ar h) (ap diagram_of p.there)
      (many-ext (action_at l' t) (action_at l t) h.actions (λ a q. action-same l l' t t h.words p.before a (λ j y z. refl) (s.actions a q)))

  reward-building : h.words + n ≤ listing_words → (t : List ℕ) → Building l t h → Canonical (take n out)
      → Building l' t (reward_head h n)
  reward-building m t b i = record {
    spanned = record {
      room = b.spanned.room;
      few = b.spanned.few;
      used = m;
      reward = omega arith;
      actions = λ a q. spanned-action l l' t t h.words (h.words + n) p.before (omega arith) a (λ j y z. refl) (b.spanned.actions a q);
    };
    listed = record {
      reward = λ x. canonical-on p.there i;
      variants = λ a v q k.
          listed-variant l l' t t h.words (h.words + n) p.before (omega arith) (variant_place a v) (λ j y z. refl) ((b.spanned.actions a q).variants v k)
          (b.listed.variants a v q k);
    };
  }

pub reward-added : {l l' out : List ℕ} {h : Head} {rows : ℕ} → RowsRoom l h out rows → l' ≡ paste l h.words out (rows * 3)
    → RewardAdded l h out rows l' (reward_head h (rows * 3))
reward-added {h = h} {rows} r e =
    let p = appended r e in
    record { answer = refl; model = reward-model p; building = reward-building p r.room; starts = λ t z s. starts-rewarded t h rows z s }
