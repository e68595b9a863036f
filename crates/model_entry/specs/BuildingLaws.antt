-- Laws of a model while its lines are read: how it begins, that each line adds what the session says, and that its words are laid out as the planner asks.
use Rattle.std.specs.Prelude.{◌≡◌, true, ◌||◌, ◌&&◌, List, [], ◌∷◌, ◌++◌, ℕ, zero, suc, ◌+◌, ◌*◌, ◌-◌, ◌≤◌, ◌<◌, length, get_or, eqb}
use Rattle.std.proofs.Common.{sym, ap, ap₂, subst, ◌∙◌, arith}
use Rattle.std.proofs.lemmas.Bool.{eqb-false}
use Rattle.basics.specs.Tests.{Flag, is_true, is_false, flag, or-one, or-other}
use Rattle.label.specs.Limits.{predicate_count}
use Rattle.names.specs.Many.{many}
use Rattle.diagram.specs.Diagram.{leaf}
use Rattle.diagram.specs.Words.{is_listing}
use Rattle.diagram.specs.Listing.{tree_at, diagram_of, Good}
use Rattle.diagram.specs.Listings.{good-is-listing}
use Rattle.state.proofs.ValueLaws.{by-low}
use Rattle.regression.specs.RegressCall.{truth_count, truth_words, are_listings}
use Rattle.regression.proofs.RegressCallLaws.{listings-none, listings-cons, truths-some}
use Rattle.mdp.specs.Model.{Every, GoodVariant, GoodAction, GoodModel}
use Rattle.model.specs.declared.Head.{Head}
use Rattle.model.specs.Inner.{LaidVariant, LaidAction, Laid}
use Rattle.model.specs.Layout.{part, table_words, action_words, variant_place, weight_words, spans_at, variant_at, variants_of, action_at, reward_words, model_of}
use Rattle.model_entry.specs.Inner.{model_with}
use Rattle.model_entry.specs.Building.{truth_place, Canonical, Building, SpannedVariant, ListedVariant}
use Rattle.model_entry.specs.WordLaws.{span-count, span-start, canonical-on}

-- ===== The first =====

-- no action and no reward yet
pub begun : {listings table : List ℕ} {h : Head} → table_words ≤ length table → h.actions ≡ 0 → h.words ≡ 0 → h.reward_start ≡ 0 → h.reward_words ≡ 0
    → Building listings table h
begun r a w s n = record {
  spanned = record { room = r; few = omega arith; used = omega arith; reward = omega arith; actions = λ k q. absurd (omega arith) };
  listed = record { reward = λ f. absurd (f n); variants = λ k v q y. absurd (omega arith) };
}

pub begun-model : (ar listings table : List ℕ) (h : Head) → h.actions ≡ 0 → h.reward_words ≡ 0
    → model_of ar listings table h
    ≡ record { arities = ar; total = h.total; numerator = h.numerator; denominator = h.denominator; reward = leaf 0; actions = [] }
unfolding model_of many diagram_of tree_at
begun-model ar listings table h a n =
    ap₂ (model_with ar h) (ap (λ (k : ℕ). diagram_of (part listings h.reward_start k)) n) (ap (many (action_at listings table)) a)

-- ===== Laid out =====

-- n predicates from p on
listings-are : (ar truths spans : List ℕ) (p n : ℕ)
    → ((q : ℕ) → p ≤ q → q < p + n → (truth_count spans q ≡ 0 → ⊥) → is_listing ar (truth_words truths spans q) ≡ true) → are_listings ar truths spans p n ≡ true
listings-are ar truths spans p zero f = listings-none ar truths spans p
listings-are ar truths spans p (suc n) f =
    listings-cons ar truths spans p n ∙ ap₂ ◌&&◌ (here (flag (eqb (truth_count spans p) 0))) (listings-are ar truths spans (suc p) n (λ q h k. f q (omega arith) (omega arith)))
  where
    here : Flag (eqb (truth_count spans p) 0) → (eqb (truth_count spans p) 0 || is_listing ar (truth_words truths spans p)) ≡ true
    here (is_true e) = or-one (eqb (truth_count spans p) 0) (is_listing ar (truth_words truths spans p)) e
    here (is_false e) = or-other (eqb (truth_count spans p) 0) (is_listing ar (truth_words truths spans p)) (f p (omega arith) (omega arith) (eqb-false (truth_count spans p) 0 e))

every-last : {A : Type 0} (P : A → Type 0) (l : List A) (x : A) → Every P (l ++ (x ∷ [])) → Every P l × P x
every-last P [] x h = (tt, h.0)
every-last P (y ∷ l) x h = let r = every-last P l x h.1 in ((h.0, r.0), r.1)

many-every : {A : Type 0} (P : A → Type 0) (f : ℕ → A) (n v : ℕ) → Every P (many f n) → v < n → P (f v)
unfolding many
many-every P f zero v h k = absurd (omega arith)
many-every P f (suc n) v h k =
    let r = every-last P (many f n) (f n) h in
    by-low (P (f v)) n v (λ q. many-every P f n v r.0 q) (λ q. let e : n ≡ v = omega arith in subst (λ (x : ℕ). P (f x)) e r.1)

listed-under : (ar ws : List ℕ) → Canonical ws → Good ar (diagram_of ws) → is_listing ar ws ≡ true
listed-under ar ws c g = ap (is_listing ar) (sym c) ∙ good-is-listing ar (diagram_of ws) g

variant-laid : (ar l t : List ℕ) (w i c : ℕ) → w ≤ length l → SpannedVariant t w i → ListedVariant l t i → GoodVariant ar c (variant_at l t i) → LaidVariant ar l t i
unfolding variant_at
variant-laid ar l t w i c h s x g = record {
  inside = omega (arith, s.weight);
  weight = listed-under ar (weight_words l t i) x.weight g.listed;
  truths = listings-are ar l (spans_at t i) 1 (predicate_count - 1)
      (λ q y z n.
      let k : q < predicate_count = omega arith in
      let e : truth_words l (spans_at t i) q ≡ weight_words l t (truth_place i q) = ap₂ (part l) (span-start t i q k) (span-count t i q k) in
      listed-under ar (truth_words l (spans_at t i) q) (canonical-on e (x.truths q (omega arith) k (λ o. n (span-count t i q k ∙ o))))
      (g.truths q (diagram_of (truth_words l (spans_at t i) q)) (omega arith) k (truths-some l (spans_at t i) q n)).listed);
}

module _ (ar : List ℕ) {l t : List ℕ} {h : Head} (b : Building l t h) (m : h.words ≤ length l) (g : GoodModel (model_of ar l t h)) where
  action-laid : (a : ℕ) → a < h.actions → LaidAction ar l t a
  unfolding model_of action_at
  action-laid a q =
      let x = many-every (GoodAction ar) (action_at l t) h.actions a g.actions q in
      record {
        few = (b.spanned.actions a q).few;
        variants = λ v k.
            variant-laid ar l t h.words (variant_place a v) (get_or t (a * action_words) 0) m ((b.spanned.actions a q).variants v k) (b.listed.variants a v q k)
            (many-every (GoodVariant ar (get_or t (a * action_words) 0)) (λ u. variant_at l t (variant_place a u)) (variants_of t a) v x.variants k);
      }

  reward-laid : (h.reward_words ≡ 0 → ⊥) → is_listing ar (reward_words l h) ≡ true
  unfolding model_of
  reward-laid n = listed-under ar (reward_words l h) (b.listed.reward n) g.reward-listed

  -- with a reward, and good: what the planner asks of a model in words
  pub building-laid : (h.reward_words ≡ 0 → ⊥) → Laid ar l t h
  building-laid n = record {
    room = b.spanned.room;
    few = b.spanned.few;
    inside = omega (arith, b.spanned.reward);
    reward = reward-laid n;
    actions = action-laid;
    good = g;
  }
