-- Laws of the listings of a model: the words have one where the session has it, and it begins where a line's places say.
use Rattle.std.specs.Prelude.{◌≡◌, Bool, false, leb, eqb}
use Rattle.std.proofs.Math.Path.{sym, ap, ap₂}
use Rattle.std.proofs.Common.{◌∙◌, arith}
use Rattle.std.proofs.Math.Bool.{true, not, cond, ◌&&◌}
use mathlib.Core.List.{List, []}
use Rattle.std.proofs.Math.Option.{Option, some, none}
use Prim.Native.Nat.{ℕ, ◌<◌, ◌≤◌}
use borrow.Author.Tests.{ltb-true, lt-ltb, leb-true, le-leb, eqb-true, ne_eqb, not-false}
use Rattle.std.proofs.Math.ListN.{length, get_or-eq_default}
use Rattle.basics.specs.Members.{clash}
use Rattle.basics.specs.Tests.{and_left, and_right, Flag, is_true, is_false, flag}
use Rattle.label.specs.Limits.{predicate_count}
use Rattle.diagram.specs.Diagram.{Diagram, leaf}
use Rattle.diagram.specs.Listing.{diagram_of}
use Rattle.state.proofs.ValueLaws.{by-low}
use Rattle.mdp.specs.Model.{Variant, Action}
use Rattle.names.specs.Many.{many}
use Rattle.names.specs.ManyLaws.{length-many, get_d-many}
use Rattle.regression.specs.RegressCall.{truths_of}
use Rattle.model.specs.Layout.{weight_words, spans_at, variant_place, variant_at, variants_of, action_at, model_of}
use Rattle.session.specs.ModelLines.{is_some}
use Rattle.model_entry.specs.Building.{new_action, new_variant, truth_place}
use Rattle.model_entry.specs.Inner.{HasListing}
use Rattle.model_entry.specs.Starts.{Slot, reward, weight, truth, variants_in, truths_at, has_listing, has_start, starts_behind}
use Rattle.model_entry.specs.WordLaws.{truth-here, truth-none}
use Rattle.model_entry.specs.NameLaws.{variants-are}
use Rattle.memory.specs.declared.Numbers.{Numbers}
use Rattle.memory.specs.Inner.{Carried}
use Rattle.memory.specs.Memory.{Memory, session_of, starts_of, Stored}

-- ===== Variants and truth diagrams of the actions in words =====

module _ (listings table : List ℕ) where
  -- those past the last have none
  variants-past : (n a : ℕ) → n ≤ a → variants_in (many (action_at listings table) n) a ≡ []
  variants-past n a h =
      ap (λ (x : Action). x.variants) (get_or-eq_default (many (action_at listings table) n) (new_action 0) (omega (arith, length-many (action_at listings table) n)))

  variants-here : (n a : ℕ) → a < n → variants_in (many (action_at listings table) n) a ≡ (action_at listings table a).variants
  variants-here n a h = ap (λ (x : Action). x.variants) (get_d-many (action_at listings table) (new_action 0) n a h)

  truths-past : (a v p : ℕ) → variants_of table a ≤ v → truths_at (action_at listings table a).variants v p ≡ none
  truths-past a v p h =
      ap (λ (x : Variant). x.truths p) (get_or-eq_default (action_at listings table a).variants (new_variant (leaf 0)) (omega (arith, variants-are listings table a)))

  truths-here : (a v p : ℕ) → v < variants_of table a → truths_at (action_at listings table a).variants v p ≡ truths_of listings (spans_at table (variant_place a v)) p
  unfolding action_at variant_at
  truths-here a v p h =
      ap (λ (x : Variant). x.truths p) (get_d-many (λ u. variant_at listings table (variant_place a u)) (new_variant (leaf 0)) (variants_of table a) v h)

-- ===== Which listings there are =====

module _ {n : Numbers} {w : Memory} (g : Stored n w) where
  -- what the words have, the session has
  pub has-listing : (s : Slot) → HasListing w.table n.head s → has_listing (session_of n w) s ≡ true
  unfolding has_listing session_of model_of
  has-listing reward h = g.reward ∙ ap not (ne_eqb n.head.reward_words 0 h)
  has-listing (weight a v) h =
      let e = variants-here w.listings w.table n.head.actions a h.0 in
      lt-ltb v _ (omega (arith, h.1, ap (λ (l : List Variant). length l) e, variants-are w.listings w.table a))
  has-listing (truth a v p) h =
      let i = variant_place a v in
      ap₂ ◌&&◌ (le-leb 1 p (omega (arith, h.0)))
      (ap is_some
      (ap (λ (l : List Variant). truths_at l v p) (variants-here w.listings w.table n.head.actions a h.2)
      ∙ truths-here w.listings w.table a v p h.3
      ∙ truth-here w.table i p w.listings h.1
      ∙ ap (λ (b : Bool). cond b none (some (diagram_of (weight_words w.listings w.table (truth_place i p))))) (ne_eqb _ 0 h.4)))

  -- and the other way
  pub listing-has : (s : Slot) → has_listing (session_of n w) s ≡ true → HasListing w.table n.head s
  unfolding has_listing session_of model_of
  listing-has reward e = λ z. clash (sym g.reward ∙ e) (ap (λ (k : ℕ). not (eqb k 0)) z)
  listing-has (weight a v) e =
      let m = n.head.actions in
      let k : v < length (variants_in (many (action_at w.listings w.table) m) a) = ltb-true v _ e in
      by-low (HasListing w.table n.head (weight a v)) m a
      (λ h. (h, omega (arith, k, ap (λ (l : List Variant). length l) (variants-here w.listings w.table m a h), variants-are w.listings w.table a)))
      (λ h. absurd (omega (arith, k, ap (λ (l : List Variant). length l) (variants-past w.listings w.table m a h))))
  listing-has (truth a v p) e =
      let m = n.head.actions in
      let t : ℕ → Option Diagram = truths_at (variants_in (many (action_at w.listings w.table) m) a) v in
      let k : is_some (t p) ≡ true = and_right (leb 1 p) (is_some (t p)) e in
      by-low (HasListing w.table n.head (truth a v p)) m a
      (λ h.
      let f : t p ≡ truths_at (action_at w.listings w.table a).variants v p = ap (λ (l : List Variant). truths_at l v p) (variants-here w.listings w.table m a h) in
      by-low (HasListing w.table n.head (truth a v p)) (variants_of w.table a) v
      (λ l.
      let s : t p ≡ truths_of w.listings (spans_at w.table (variant_place a v)) p = f ∙ truths-here w.listings w.table a v p l in
      by-low (HasListing w.table n.head (truth a v p)) predicate_count p
      (λ q. (
        omega (arith, leb-true 1 p (and_left (leb 1 p) (is_some (t p)) e)),
        q,
        h,
        l,
        λ z. clash k (ap is_some (s ∙ truth-none w.table (variant_place a v) p w.listings (λ y. z))),
      ))
      (λ q. clash k (ap is_some (s ∙ truth-none w.table (variant_place a v) p w.listings (λ y. absurd (omega arith))))))
      (λ l. clash k (ap is_some (f ∙ truths-past w.listings w.table a v p l))))
      (λ h. clash k (ap (λ (l : List Variant). is_some (truths_at l v p)) (variants-past w.listings w.table m a h)))

-- ===== Where they begin behind a line =====

module _ {n n' : Numbers} {w w' : Memory} (g : Stored n w) (g' : Stored n' w') (c : Carried n w n' w') where
  behind-some : (s : Slot) → has_listing (session_of n' w') s ≡ true → starts_of n' w' s ≡ starts_behind (session_of n w) (session_of n' w') (starts_of n w) s
  unfolding starts_behind session_of
  behind-some s e = go (flag (has_listing (session_of n w) s))
    where
      go : Flag (has_listing (session_of n w) s) → starts_of n' w' s ≡ starts_behind (session_of n w) (session_of n' w') (starts_of n w) s
      go (is_true f) = rw (e, f) (c.starts.stays s (listing-has g s f))
      go (is_false f) = rw (e, f) (c.starts.new s (listing-has g' s e) (λ h. clash (has-listing g s h) f) ∙ sym g.whole)

  behind-none : has_listing (session_of n' w') reward ≡ false → starts_of n' w' reward ≡ starts_behind (session_of n w) (session_of n' w') (starts_of n w) reward
  unfolding starts_behind session_of has_listing
  behind-none e = rw e (c.starts.none (eqb-true n'.head.reward_words 0 (not-false _ (sym g'.reward ∙ e))))

  -- each place is what the sessions before and behind it say
  pub carried-starts : (s : Slot) → has_start (session_of n' w') s ≡ true → starts_of n' w' s ≡ starts_behind (session_of n w) (session_of n' w') (starts_of n w) s
  unfolding has_start
  carried-starts reward e = go (flag (has_listing (session_of n' w') reward))
    where
      go : Flag (has_listing (session_of n' w') reward) → starts_of n' w' reward ≡ starts_behind (session_of n w) (session_of n' w') (starts_of n w) reward
      go (is_true f) = behind-some reward f
      go (is_false f) = behind-none f
  carried-starts (weight a v) e = behind-some (weight a v) e
  carried-starts (truth a v p) e = behind-some (truth a v p) e
