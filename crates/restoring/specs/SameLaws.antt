-- Numbers and words that are a session, are the same session and have the model's listings at the same places are the same in every word in use.
use Rattle.std.specs.Prelude.{◌≡◌, true, cond, ℕ, ◌+◌, ◌*◌, ◌/◌, ◌^◌, ◌≤◌, ◌<◌, get_or, drop, eqb}
use Rattle.std.proofs.Math.Path.{refl, sym, ap, ap₂}
use Rattle.std.proofs.Common.{subst, ◌∙◌, ext_get_or, drop-drop, eqb-true}
use Rattle.std.proofs.Math.Bool.{not}
use mathlib.Core.List.{List, ◌++◌}
use Rattle.std.proofs.Math.Option.{Option, some, none}
use native.Mathlib.Omega.{arith}
use Rattle.std.proofs.Math.ListN.{length, take}
use Rattle.std.proofs.Math.Seq.{take-add}
use Rattle.std.proofs.lemmas.Bool.{eqb-false}
use Rattle.basics.specs.Tests.{Flag, is_true, is_false, flag}
use Rattle.basics.specs.Members.{clash}
use Rattle.label.specs.Limits.{constant_count, predicate_count}
use Rattle.diagram.specs.Diagram.{Diagram}
use Rattle.diagram.specs.Listing.{listing, diagram_of}
use Rattle.diagram.specs.Listings.{is-listing-diagram}
use Rattle.state.proofs.ValueLaws.{by-low}
use Rattle.state.specs.Lent.{fact_words}
use Rattle.names.specs.Many.{many}
use Rattle.names.specs.ManyLaws.{length-many, get_d-many}
use Rattle.names.specs.Keys.{key_at, keys_at}
use Rattle.names.specs.KeyLaws.{length-keys}
use Rattle.names.specs.Layout.{constants_at, declared_at, actions_at, parameters_at, variants_at, name_words}
use Rattle.mdp.specs.Model.{scale}
use Rattle.session.specs.declared.Part.{Part}
use Rattle.session.specs.declared.Part.TheVariants.{Model as ModelPart, Run}
use Rattle.session.specs.Session.{Session}
use Rattle.declare.specs.Tables.{names_of}
use Rattle.facts.specs.Words.{placed_base, facts_base, live_of}
use Rattle.facts.specs.PartLaws.{length_part, part_at}
use Rattle.model.specs.Layout.{part, action_words, variant_place, weight_words, variant_at, variants_of, action_at, model_of}
use Rattle.model_entry.specs.Building.{Inside, truth_place, Canonical, SpannedVariant, ListedVariant}
use Rattle.model_entry.specs.Inner.{HasListing}
use Rattle.model_entry.specs.Starts.{Slot, reward, weight, truth, has_listing, has_start}
use Rattle.model_entry.specs.WordLaws.{truth-here}
use Rattle.memory.specs.declared.Numbers.{Numbers}
use Rattle.memory.specs.Memory.{Memory, session_of, starts_of, Stored, IsSession}
use Rattle.memory.specs.SlotLaws.{listing-has}
use Rattle.restoring.specs.Words.{count_at, listing_at, SameWords}

-- ===== Lists made of a function, and keys =====

module _ {A : Type 0} (f g : ℕ → A) (m n : ℕ) (e : many f m ≡ many g n) where
  many-long : m ≡ n
  many-long = sym (length-many f m) ∙ ap length e ∙ length-many g n

  many-at : (i : ℕ) → i < m → i < n → f i ≡ g i
  many-at i h k = sym (get_d-many f (f i) m i h) ∙ ap (λ (l : List A). get_or l i (f i)) e ∙ get_d-many g (f i) n i k

-- two words
pair-words : (s t : List ℕ) (b : ℕ) → get_or s b 0 ≡ get_or t b 0 → get_or s (b + 1) 0 ≡ get_or t (b + 1) 0
    → (i : ℕ) → b ≤ i → i < b + 2 → get_or s i 0 ≡ get_or t i 0
pair-words s t b x y i h k =
    by-low (get_or s i 0 ≡ get_or t i 0) (b + 1) i
    (λ l. let o : b ≡ i = omega arith in subst (λ (z : ℕ). get_or s z 0 ≡ get_or t z 0) o x)
    (λ l. let o : b + 1 ≡ i = omega arith in subst (λ (z : ℕ). get_or s z 0 ≡ get_or t z 0) o y)

-- a part, word by word
part-words : (s t : List ℕ) (b n : ℕ) → b + n ≤ length s → b + n ≤ length t → ((i : ℕ) → i < n → get_or s (b + i) 0 ≡ get_or t (b + i) 0) → part s b n ≡ part t b n
part-words s t b n h k f =
    let m = length_part s b n h in
    ext_get_or 0 (part s b n) (part t b n) (m ∙ sym (length_part t b n k))
    (λ i q. let z : i < n = (rw m at q) in part_at s b n i z ∙ f i z ∙ sym (part_at t b n i z))

-- keys tell how many they are, and two words each
keys-long : (s t : List ℕ) (b c m n : ℕ) → keys_at s b m ≡ keys_at t c n → m ≡ n
keys-long s t b c m n e = sym (length-keys s b m) ∙ ap length e ∙ length-keys t c n

keys-words : (s t : List ℕ) (b n : ℕ) → b + n * 2 ≤ length s → b + n * 2 ≤ length t → keys_at s b n ≡ keys_at t b n → part s b (n * 2) ≡ part t b (n * 2)
unfolding keys_at key_at
keys-words s t b n h k e =
    part-words s t b (n * 2) h k
    (λ i q.
    let x = many-at (key_at s b) (key_at t b) n n e (i / 2) (omega arith) (omega arith) in
    pair-words s t (b + i / 2 * 2) (λ j. (x j).a) (λ j. (x j).b) (b + i) (omega arith) (omega arith))

-- ===== Listings =====

-- the diagram tells the words of a listing, and how many they are
module _ (l l' : List ℕ) (x c x' c' : ℕ) (a : Canonical (part l x c)) (a' : Canonical (part l' x' c')) (e : diagram_of (part l x c) ≡ diagram_of (part l' x' c')) where
  listing-words : part l x c ≡ part l' x' c'
  listing-words = sym a ∙ ap listing e ∙ a'

  listing-long : x + c ≤ length l → x' + c' ≤ length l' → c ≡ c'
  listing-long h h' = sym (length_part l x c h) ∙ ap length listing-words ∙ length_part l' x' c' h'

-- a diagram d of c words, or none
abbrev truth_in : ℕ → Diagram → Option Diagram
truth_in c d = cond (eqb c 0) none (some d)

-- none in both, or the same diagram
data Alike (c c' : ℕ) (d d' : Diagram) : Type 0 where
  neither : c ≡ 0 → c' ≡ 0 → Alike c c' d d'
  both : (c ≡ 0 → ⊥) → (c' ≡ 0 → ⊥) → d ≡ d' → Alike c c' d d'

alike : (c c' : ℕ) (d d' : Diagram) → truth_in c d ≡ truth_in c' d' → Alike c c' d d'
alike c c' d d' e = go (flag (eqb c 0)) (flag (eqb c' 0))
  where
    apart : {A : Type 0} (x : Diagram) → none ≡ some x → A
    apart x p = let z : ◌≡◌ {A = ℕ} 0 1 = cc in absurd (omega arith)

    go : Flag (eqb c 0) → Flag (eqb c' 0) → Alike c c' d d'
    go (is_true p) (is_true q) = neither (eqb-true c 0 p) (eqb-true c' 0 q)
    go (is_true p) (is_false q) = apart d' (rw (p, q) at e)
    go (is_false p) (is_true q) = apart d (sym (rw (p, q) at e))
    go (is_false p) (is_false q) = both (eqb-false c 0 p) (eqb-false c' 0 q) (let x : some d ≡ some d' = (rw (p, q) at e) in cc)

-- ===== Numbers =====

module _ {n n' : Numbers} {w w' : Memory} (k : Stored n w) (k' : Stored n' w') (e : session_of n w ≡ session_of n' w') where
  counts_same : n.counts ≡ n'.counts
  unfolding session_of names_of
  counts_same =
      let long = keys-long w.names w'.names in
      let constants = long _ _ _ _ (λ i. (e i).names.constants) in
      let predicates = long _ _ _ _ (λ i. (e i).names.predicates) in
      let actions = long _ _ _ _ (λ i. (e i).names.actions) in
      let parameters = long _ _ _ _ (λ i. (e i).names.parameters) in
      let variants = long _ _ _ _ (λ i. (e i).names.variants) in
      let earlier = long _ _ _ _ (λ i. (e i).names.earlier) in
      λ i. record { constants = constants i; predicates = predicates i; actions = actions i; parameters = parameters i; variants = variants i; earlier = earlier i }

  reward-same : n.head.reward_words ≡ n'.head.reward_words
  unfolding session_of model_of
  reward-same = go (flag (eqb n.head.reward_words 0)) (flag (eqb n'.head.reward_words 0))
    where
      flags : not (eqb n.head.reward_words 0) ≡ not (eqb n'.head.reward_words 0)
      flags = sym k.reward ∙ (λ i. (e i).singles.reward) ∙ k'.reward

      go : Flag (eqb n.head.reward_words 0) → Flag (eqb n'.head.reward_words 0) → n.head.reward_words ≡ n'.head.reward_words
      go (is_true p) (is_true q) = eqb-true n.head.reward_words 0 p ∙ sym (eqb-true n'.head.reward_words 0 q)
      go (is_true p) (is_false q) = clash {b = true} refl (sym (rw (p, q) at flags))
      go (is_false p) (is_true q) = clash {b = true} refl (rw (p, q) at flags)
      go (is_false p) (is_false q) =
          listing-long w.listings w'.listings n.head.reward_start n.head.reward_words n'.head.reward_start n'.head.reward_words
          (k.building.listed.reward (eqb-false n.head.reward_words 0 p)) (k'.building.listed.reward (eqb-false n'.head.reward_words 0 q))
          (λ i. (e i).model.reward)
          (omega (arith, k.building.spanned.reward, k.building.spanned.used, k.listing-room))
          (omega (arith, k'.building.spanned.reward, k'.building.spanned.used, k'.listing-room))

  head-same : n.head.reward_start ≡ n'.head.reward_start → n.head ≡ n'.head
  unfolding session_of model_of
  head-same start =
      let rows : n.head.words / 3 ≡ n'.head.words / 3 = λ i. (e i).rows in
      let words : n.head.words ≡ n'.head.words = sym k.whole ∙ ap (λ (r : ℕ). r * 3) rows ∙ k'.whole in
      let actions = many-long (action_at w.listings w.table) (action_at w'.listings w'.table) _ _ (λ i. (e i).model.actions) in
      let span = reward-same in
      λ i. record {
        total = (e i).model.total;
        numerator = (e i).model.numerator;
        denominator = (e i).model.denominator;
        reward_start = start i;
        reward_words = span i;
        actions = actions i;
        words = words i;
      }

  live_same : n.live ≡ n'.live
  unfolding session_of live_of
  live_same =
      let r = k.live.room in
      let r' = k'.live.room in
      let h = k.live.facts in
      let h' = k'.live.facts in
      let long : n.live.facts * fact_words ≡ n'.live.facts * fact_words =
      sym (length_part w.state facts_base (n.live.facts * fact_words) (omega arith))
      ∙ ap length (λ i. (e i).live.facts)
      ∙ length_part w'.state facts_base (n'.live.facts * fact_words) (omega arith) in
      let facts : n.live.facts ≡ n'.live.facts = omega (arith, long) in
      λ i. record { objects = (e i).live.objects; facts = facts i; count = (e i).live.count; total = (e i).live.total }

  -- in the run
  held_same : n.part ≡ Run → n.held ≡ n'.held
  unfolding session_of
  held_same p =
      let h = k.holding p in
      let h' = k'.holding (sym (λ i. (e i).part) ∙ p) in
      let long =
      listing-long w.value w'.value 0 (n.held.rows * 3) 0 (n'.held.rows * 3) (is-listing-diagram w.arities _ h.listing) (is-listing-diagram w'.arities _ h'.listing)
      (λ i. (e i).held.diagram) (omega (arith, k.value-rows)) (omega (arith, k'.value-rows)) in
      let rows : n.held.rows ≡ n'.held.rows = omega (arith, long) in
      let power : n.held.power ≡ n'.held.power = h.power ∙ (λ i. scale (e i).model ^ (e i).held.steps) ∙ sym h'.power in
      λ i. record { rows = rows i; steps = (e i).held.steps; power = power i }

  numbers-same : n.head.reward_start ≡ n'.head.reward_start → (n.part ≡ ModelPart → n.held ≡ n'.held) → n ≡ n'
  unfolding session_of
  numbers-same start idle =
      let counts = counts_same in
      let head = head-same start in
      let live = live_same in
      let held = go n.part refl in
      λ i. record {
        part = (e i).part;
        total = (e i).singles.total;
        discount = (e i).singles.discount;
        reward = (e i).singles.reward;
        counts = counts i;
        head = head i;
        live = live i;
        held = held i;
      }
    where
      go : (p : Part) → n.part ≡ p → n.held ≡ n'.held
      go ModelPart q = idle q
      go Run q = held_same q

-- ===== Words beside the same numbers =====

module _ {n : Numbers} {w w' : Memory} (k : Stored n w) (k' : Stored n w') (e : session_of n w ≡ session_of n w') where
  -- keys at a place of the names
  names-words : (b m : ℕ) → b + m * 2 ≤ name_words → keys_at w.names b m ≡ keys_at w'.names b m → part w.names b (m * 2) ≡ part w'.names b (m * 2)
  names-words b m h = keys-words w.names w'.names b m (omega (arith, k.vocabulary.names.room)) (omega (arith, k'.vocabulary.names.room))

  variants-words :
      part w.names variants_at ((n.counts.earlier + n.counts.variants) * 2) ≡ part w'.names variants_at ((n.counts.earlier + n.counts.variants) * 2)
  unfolding session_of names_of
  variants-words =
      let c = n.counts.earlier in
      let d = n.counts.variants in
      let h = k.vocabulary.names.earlier in
      split w.names
      ∙ ap₂ ◌++◌ (names-words variants_at c (omega arith) (λ i. (e i).names.earlier)) (names-words (variants_at + c * 2) d (omega arith) (λ i. (e i).names.variants))
      ∙ sym (split w'.names)
    where
      split : (s : List ℕ) → part s variants_at ((n.counts.earlier + n.counts.variants) * 2)
          ≡ part s variants_at (n.counts.earlier * 2) ++ part s (variants_at + n.counts.earlier * 2) (n.counts.variants * 2)
      split s =
          let c = n.counts.earlier in
          let d = n.counts.variants in
          let z : (c + d) * 2 ≡ c * 2 + d * 2 = omega arith in
          ap (part s variants_at) z ∙ take-add (c * 2) (d * 2) (drop variants_at s) ∙ ap (λ (t : List ℕ). part s variants_at (c * 2) ++ take (d * 2) t) (drop-drop (c * 2) variants_at s)

  -- two words of the table, where a listing begins and how many words it has
  module _ (i : ℕ) (x : Canonical (weight_words w.listings w.table i)) (x' : Canonical (weight_words w'.listings w'.table i))
      (d : diagram_of (weight_words w.listings w.table i) ≡ diagram_of (weight_words w'.listings w'.table i)) where
    span-words : weight_words w.listings w.table i ≡ weight_words w'.listings w'.table i
    span-words = listing-words w.listings w'.listings (get_or w.table i 0) (get_or w.table (i + 1) 0) (get_or w'.table i 0) (get_or w'.table (i + 1) 0) x x' d

    span-long : Inside w.table n.head.words i → Inside w'.table n.head.words i → get_or w.table (i + 1) 0 ≡ get_or w'.table (i + 1) 0
    span-long h h' =
        let u = k.building.spanned.used in
        listing-long w.listings w'.listings (get_or w.table i 0) (get_or w.table (i + 1) 0) (get_or w'.table i 0) (get_or w'.table (i + 1) 0) x x' d
        (omega (arith, h, u, k.listing-room)) (omega (arith, h', u, k'.listing-room))

  -- actions and variants
  module _ (a : ℕ) (h : a < n.head.actions) where
    action-same : action_at w.listings w.table a ≡ action_at w'.listings w'.table a
    unfolding session_of model_of
    action-same = many-at (action_at w.listings w.table) (action_at w'.listings w'.table) _ _ (λ i. (e i).model.actions) a h h

    variants-same : variants_of w.table a ≡ variants_of w'.table a
    unfolding action_at
    variants-same =
        let x = action-same in
        many-long (λ v. variant_at w.listings w.table (variant_place a v)) (λ v. variant_at w'.listings w'.table (variant_place a v)) _ _ (λ i. (x i).variants)

    heads-same : part w.table (a * action_words) 2 ≡ part w'.table (a * action_words) 2
    unfolding action_at
    heads-same =
        let x = action-same in
        let few = k.building.spanned.few in
        part-words w.table w'.table (a * action_words) 2 (omega (arith, k.building.spanned.room)) (omega (arith, k'.building.spanned.room))
        (λ i q. pair-words w.table w'.table (a * action_words) (λ j. (x j).count) variants-same (a * action_words + i) (omega arith) (omega arith))

    module _ (v : ℕ) (q : v < variants_of w.table a) where
      inside-variants : v < variants_of w'.table a
      inside-variants = omega (arith, variants-same)

      variant-same : variant_at w.listings w.table (variant_place a v) ≡ variant_at w'.listings w'.table (variant_place a v)
      unfolding action_at
      variant-same =
          let x = action-same in
          many-at (λ u. variant_at w.listings w.table (variant_place a u)) (λ u. variant_at w'.listings w'.table (variant_place a u)) _ _ (λ i. (x i).variants) v
          q inside-variants

      spanned : SpannedVariant w.table n.head.words (variant_place a v)
      spanned = (k.building.spanned.actions a h).variants v q

      spanned' : SpannedVariant w'.table n.head.words (variant_place a v)
      spanned' = (k'.building.spanned.actions a h).variants v inside-variants

      listed : ListedVariant w.listings w.table (variant_place a v)
      listed = k.building.listed.variants a v h q

      listed' : ListedVariant w'.listings w'.table (variant_place a v)
      listed' = k'.building.listed.variants a v h inside-variants

      weight-same : diagram_of (weight_words w.listings w.table (variant_place a v)) ≡ diagram_of (weight_words w'.listings w'.table (variant_place a v))
      unfolding variant_at
      weight-same = let x = variant-same in λ i. (x i).weight

      module _ (p : ℕ) (f : 0 < p) (o : p < predicate_count) where
        truths-alike : Alike (count_at n w (truth a v p)) (count_at n w' (truth a v p)) (diagram_of (listing_at n w (truth a v p))) (diagram_of (listing_at n w' (truth a v p)))
        unfolding variant_at
        truths-alike =
            let x = variant-same in
            alike _ _ _ _ (sym (truth-here w.table (variant_place a v) p w.listings o) ∙ (λ i. (x i).truths p) ∙ truth-here w'.table (variant_place a v) p w'.listings o)

        truth-long : count_at n w (truth a v p) ≡ count_at n w' (truth a v p)
        truth-long = go truths-alike
          where
            go : Alike (count_at n w (truth a v p)) (count_at n w' (truth a v p)) (diagram_of (listing_at n w (truth a v p))) (diagram_of (listing_at n w' (truth a v p)))
                → count_at n w (truth a v p) ≡ count_at n w' (truth a v p)
            go (neither z z') = z ∙ sym z'
            go (both y y' d) = span-long (truth_place (variant_place a v) p) (listed.truths p f o y) (listed'.truths p f o y') d (spanned.truths p o) (spanned'.truths p o)

        truth-words : (count_at n w (truth a v p) ≡ 0 → ⊥) → listing_at n w (truth a v p) ≡ listing_at n w' (truth a v p)
        truth-words y = go truths-alike
          where
            go : Alike (count_at n w (truth a v p)) (count_at n w' (truth a v p)) (diagram_of (listing_at n w (truth a v p))) (diagram_of (listing_at n w' (truth a v p)))
                → listing_at n w (truth a v p) ≡ listing_at n w' (truth a v p)
            go (neither z z') = absurd (y z)
            go (both z z' d) = span-words (truth_place (variant_place a v) p) (listed.truths p f o z) (listed'.truths p f o z') d

  -- a listing that is there
  slot-long : (s : Slot) → HasListing w.table n.head s → count_at n w s ≡ count_at n w' s
  slot-long reward h = refl
  slot-long (weight a v) h =
      span-long (variant_place a v) (listed a h.0 v h.1).weight (listed' a h.0 v h.1).weight (weight-same a h.0 v h.1)
      (spanned a h.0 v h.1).weight (spanned' a h.0 v h.1).weight
  slot-long (truth a v p) h = truth-long a h.2 v h.3 p h.0 h.1

  slot-words : (s : Slot) → HasListing w.table n.head s → listing_at n w s ≡ listing_at n w' s
  unfolding session_of model_of
  slot-words reward h =
      listing-words w.listings w'.listings n.head.reward_start n.head.reward_words n.head.reward_start n.head.reward_words
      (k.building.listed.reward h) (k'.building.listed.reward h) (λ i. (e i).model.reward)
  slot-words (weight a v) h =
      span-words (variant_place a v) (listed a h.0 v h.1).weight (listed' a h.0 v h.1).weight (weight-same a h.0 v h.1)
  slot-words (truth a v p) h = truth-words a h.2 v h.3 p h.0 h.1 h.4

  -- the constants' objects, and marks of those placed
  objects-words : take facts_base w.state ≡ take facts_base w'.state
  unfolding session_of live_of
  objects-words =
      take-add placed_base constant_count w.state
      ∙ ap₂ ◌++◌ (λ i. (e i).live.constants) (λ i. (e i).live.placed)
      ∙ sym (take-add placed_base constant_count w'.state)

  value-words : n.part ≡ Run → take (n.held.rows * 3) w.value ≡ take (n.held.rows * 3) w'.value
  unfolding session_of
  value-words p =
      listing-words w.value w'.value 0 (n.held.rows * 3) 0 (n.held.rows * 3)
      (is-listing-diagram w.arities _ (k.holding p).listing) (is-listing-diagram w'.arities _ (k'.holding p).listing) (λ i. (e i).held.diagram)

-- ===== All of it =====

-- a listing has a place
place-had : (σ : Session) (s : Slot) → has_listing σ s ≡ true → has_start σ s ≡ true
unfolding has_start
place-had σ reward e = refl
place-had σ (weight a v) e = e
place-had σ (truth a v p) e = e

-- with the same numbers
words_same : {n : Numbers} {w w' : Memory} → Stored n w → Stored n w' → session_of n w ≡ session_of n w'
    → ((s : Slot) → has_start (session_of n w) s ≡ true → starts_of n w s ≡ starts_of n w' s) → SameWords n w n w'
unfolding session_of names_of model_of live_of
words_same {n} {w} {w'} k k' e places =
    let c = k.vocabulary.names in
    record {
      numbers = refl;
      constants = names-words k k' e constants_at n.counts.constants (omega (arith, c.constants)) (λ i. (e i).names.constants);
      predicates = names-words k k' e declared_at n.counts.predicates (omega (arith, c.predicates)) (λ i. (e i).names.predicates);
      actions = names-words k k' e actions_at n.counts.actions (omega (arith, c.actions)) (λ i. (e i).names.actions);
      parameters = names-words k k' e parameters_at n.counts.parameters (omega (arith, c.parameters)) (λ i. (e i).names.parameters);
      variants = variants-words k k' e;
      arities = λ i. (e i).model.arities;
      heads = heads-same k k' e;
      counts = λ a v h q p f o. truth-long k k' e a h v q p f o;
      starts = λ s h. places s (place-had (session_of n w) s h);
      lengths = λ s h. slot-long k k' e s (listing-has k s h);
      listings = λ s h. slot-words k k' e s (listing-has k s h);
      constants-objects = objects-words k k' e;
      facts = λ i. (e i).live.facts;
      value = value-words k k' e;
    }

-- the session and the places of its listings tell every word in use; before the run, which has no value yet, its numbers stand beside them
pub same-words : {n n' : Numbers} {w w' : Memory} → IsSession n w → IsSession n' w' → session_of n w ≡ session_of n' w'
    → ((s : Slot) → has_start (session_of n w) s ≡ true → starts_of n w s ≡ starts_of n' w' s) → (n.part ≡ ModelPart → n.held ≡ n'.held) → SameWords n w n' w'
unfolding has_start
same-words {n} {n'} {w} {w'} k k' e places idle =
    subst
    (λ (m : Numbers). Stored m w' → session_of n w ≡ session_of m w'
    → ((s : Slot) → has_start (session_of n w) s ≡ true → starts_of n w s ≡ starts_of m w' s) → SameWords n w m w')
    (numbers-same k.stored k'.stored e (places reward refl) idle) (words_same k.stored) k'.stored e places

-- numbers and words are the same as they are
pub same_refl : (n : Numbers) (w : Memory) → SameWords n w n w
same_refl n w = record {
  numbers = refl;
  constants = refl;
  predicates = refl;
  actions = refl;
  parameters = refl;
  variants = refl;
  arities = refl;
  heads = λ a h. refl;
  counts = λ a v h k p z l. refl;
  starts = λ s h. refl;
  lengths = λ s h. refl;
  listings = λ s h. refl;
  constants-objects = refl;
  facts = refl;
  value = λ e. refl;
}
