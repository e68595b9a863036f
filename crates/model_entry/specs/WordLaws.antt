-- Laws of words in use: what lies behind them changes no part of them, and a word of one block of the table changes no other block.
use Rattle.std.specs.Prelude.{cond, ◌≡◌, refl, List, [], ◌∷◌, ℕ, zero, suc, ◌+◌, ◌*◌, ◌≤◌, ◌<◌, length, get_or, set, take, drop, eqb}
use Rattle.std.proofs.Common.{sym, ap, subst, ◌∙◌, arith, length-set, take-take, take_at, drop_at, length-take-le, get_or-take, get_or-drop}
use Rattle.std.proofs.Math.Path.{ap₂, fun_ext}
use Rattle.std.proofs.Math.Option.{Option, some, none}
use Rattle.std.proofs.Math.Seq.{paste, paste-zero, paste-suc}
use Rattle.std.proofs.lemmas.List.Edits.{take-paste}
use Rattle.label.specs.Limits.{predicate_count}
use Rattle.names.specs.Many.{many}
use Rattle.names.specs.ManyLaws.{many-ext}
use Rattle.diagram.specs.Diagram.{Diagram}
use Rattle.diagram.specs.Listing.{diagram_of}
use Rattle.state.proofs.ValueLaws.{by-low}
use Rattle.regression.specs.Regression.{Truths}
use Rattle.regression.specs.RegressCall.{truths_of}
use Rattle.regression.proofs.RegressCallLaws.{truths-none}
use Rattle.mdp.specs.Model.{Variant, Action}
use Rattle.model.specs.Layout.{part, span_words, variant_words, action_words, variant_place, weight_words, spans_at, variant_at, variants_of, action_at}
use Rattle.model_entry.specs.Building.{Inside, truth_place, SpannedVariant, SpannedAction, Canonical, ListedVariant}

-- ===== Parts of lists =====

part-take : (i n w : ℕ) (s : List ℕ) → i + n ≤ w → part (take w s) i n ≡ part s i n
part-take zero n w s h = take-take n w s (omega arith)
part-take (suc i) n zero s h = absurd (omega arith)
part-take (suc i) n (suc w) [] h = refl
part-take (suc i) n (suc w) (x ∷ s) h = part-take i n w s (omega arith)

-- a part of the first w words, where two lists have these in common
pub part-under : (w : ℕ) (s s' : List ℕ) → take w s' ≡ take w s → (i n : ℕ) → i + n ≤ w → part s' i n ≡ part s i n
part-under w s s' e i n h = sym (part-take i n w s' h) ∙ ap (λ (z : List ℕ). part z i n) e ∙ part-take i n w s h

module _ (d : List ℕ) (k : ℕ) (s : List ℕ) (n : ℕ) (h : k ≤ length d) (l : n ≤ length s) where
  pub paste-before : take k (paste d k s n) ≡ take k d
  paste-before =
      sym (take-take k (k + n) (paste d k s n) (omega arith)) ∙ ap (take k) (take-paste d k s n h l) ∙ take_at (take k d) (take n s) k (length-take-le k d h)

  pub paste-there : part (paste d k s n) k n ≡ take n s
  paste-there =
      sym (part-take k n (k + n) (paste d k s n) (omega arith))
      ∙ ap (λ (z : List ℕ). part z k n) (take-paste d k s n h l)
      ∙ ap (take n) (drop_at (take k d) (take n s) k (length-take-le k d h))
      ∙ take-take n n s (omega arith)

get_d_over : (n : ℕ) (l : List ℕ) (i : ℕ) → n ≤ i → get_or (take n l) i 0 ≡ 0
get_d_over zero l i h = refl
get_d_over (suc n) [] i h = refl
get_d_over (suc n) (x ∷ l) zero h = absurd (omega arith)
get_d_over (suc n) (x ∷ l) (suc i) h = get_d_over n l i (omega arith)

-- ===== The copy behind the words in use =====

pub record Copying (d : List ℕ) (k : ℕ) (s : List ℕ) (n i : ℕ) (d' : List ℕ) : Type 0 where
  pub size : length d' ≡ length d
  pub below : i ≤ n
  pub words : d' ≡ paste d k s i

pub copy_start : (d : List ℕ) (k : ℕ) (s : List ℕ) (n : ℕ) → Copying d k s n 0 d
copy_start d k s n = record { size = refl; below = omega arith; words = paste-zero d k s }

module _ {d d' s : List ℕ} {k n i : ℕ} (c : Copying d k s n i d') where
  pub copy-room : k + n ≤ length d → i < n → k + i < length d'
  copy-room h q = omega (arith, c.size)

  pub copy-on : k + n ≤ length d → n ≤ length s → i < n → Copying d k s n (i + 1) (set d' (k + i) (get_or s i 0))
  copy-on h l q =
      let m : suc i ≡ i + 1 = omega arith in
      record {
        size = length-set d' (k + i) (get_or s i 0) ∙ c.size;
        below = omega arith;
        words = ap (λ (z : List ℕ). set z (k + i) (get_or s i 0)) c.words ∙ paste-suc d k s i 0 (omega arith) (omega arith) ∙ ap (paste d k s) m;
      }

  pub copy-end : n ≤ i → d' ≡ paste d k s n
  copy-end h = let m : i ≡ n = omega (arith, c.below) in c.words ∙ ap (paste d k s) m

-- ===== Variants =====

-- n words from the place i on are the same
abbrev pub Same : List ℕ → List ℕ → ℕ → ℕ → Type 0
Same t t' i n = (j : ℕ) → i ≤ j → j < i + n → get_or t' j 0 ≡ get_or t j 0

abbrev pub variant_of : Diagram → Truths → Variant
variant_of d u = record { weight = d; truths = u }

abbrev pub action_of : ℕ → List Variant → Action
action_of c l = record { count = c; variants = l }

-- a truth diagram of n words from the word x on
abbrev truth_at : List ℕ → ℕ → ℕ → Option Diagram
truth_at l x n = cond (eqb n 0) none (some (diagram_of (part l x n)))

span-word : (t : List ℕ) (i j : ℕ) → j < span_words → get_or (spans_at t i) j 0 ≡ get_or t (i + 2 + j) 0
span-word t i j h = get_or-take span_words (drop (i + 2) t) j 0 h ∙ get_or-drop (i + 2) t j 0

module _ (t : List ℕ) (i p : ℕ) where
  pub span-count : p < predicate_count → get_or (spans_at t i) (p * 2 + 1) 0 ≡ get_or t (truth_place i p + 1) 0
  span-count h =
      let e : i + 2 + (p * 2 + 1) ≡ truth_place i p + 1 = omega arith in
      span-word t i (p * 2 + 1) (omega arith) ∙ ap (λ (k : ℕ). get_or t k 0) e

  pub span-start : p < predicate_count → get_or (spans_at t i) (p * 2) 0 ≡ get_or t (truth_place i p) 0
  span-start h = span-word t i (p * 2) (omega arith)

  span_none : predicate_count ≤ p → get_or (spans_at t i) (p * 2 + 1) 0 ≡ 0
  span_none h = get_d_over span_words (drop (i + 2) t) (p * 2 + 1) (omega arith)

  pub truth-here : (l : List ℕ) → p < predicate_count
      → truths_of l (spans_at t i) p ≡ cond (eqb (get_or t (truth_place i p + 1) 0) 0) none (some (diagram_of (weight_words l t (truth_place i p))))
  unfolding truths_of
  truth-here l h = ap₂ (truth_at l) (span-start h) (span-count h)

  pub truth-none : (l : List ℕ) → (p < predicate_count → get_or t (truth_place i p + 1) 0 ≡ 0) → truths_of l (spans_at t i) p ≡ none
  truth-none l h = truths-none l (spans_at t i) p (by-low (get_or (spans_at t i) (p * 2 + 1) 0 ≡ 0) predicate_count p (λ k. span-count k ∙ h k) span_none)

module _ (l l' t t' : List ℕ) (w : ℕ) (e : take w l' ≡ take w l) where
  -- the words of one listing
  pub span_same : (i : ℕ) → get_or t' i 0 ≡ get_or t i 0 → get_or t' (i + 1) 0 ≡ get_or t (i + 1) 0 → Inside t w i → weight_words l' t' i ≡ weight_words l t i
  span_same i x y h = ap₂ (part l') x y ∙ part-under w l l' e (get_or t i 0) (get_or t (i + 1) 0) h

  pub truth-same : (i p : ℕ) → p < predicate_count → get_or t' (truth_place i p) 0 ≡ get_or t (truth_place i p) 0
      → get_or t' (truth_place i p + 1) 0 ≡ get_or t (truth_place i p + 1) 0 → Inside t w (truth_place i p) → truths_of l' (spans_at t' i) p ≡ truths_of l (spans_at t i) p
  truth-same i p h x y k =
      truth-here t' i p l' h
      ∙ ap₂ (λ (n : ℕ) (ws : List ℕ). cond (eqb n 0) none (some (diagram_of ws))) y (span_same (truth_place i p) x y k)
      ∙ sym (truth-here t i p l h)

  pub truths-over : (i p : ℕ) → predicate_count ≤ p → truths_of l' (spans_at t' i) p ≡ truths_of l (spans_at t i) p
  truths-over i p h = truth-none t' i p l' (λ k. absurd (omega arith)) ∙ sym (truth-none t i p l (λ k. absurd (omega arith)))

  pub variant-same : (i : ℕ) → Same t t' i variant_words → SpannedVariant t w i → variant_at l' t' i ≡ variant_at l t i
  unfolding variant_at
  variant-same i s v =
      ap₂ variant_of (ap diagram_of (span_same i (s i (omega arith) (omega arith)) (s (i + 1) (omega arith) (omega arith)) v.weight))
      (fun_ext (λ p. by-low (truths_of l' (spans_at t' i) p ≡ truths_of l (spans_at t i) p) predicate_count p
      (λ h. truth-same i p h (s (truth_place i p) (omega arith) (omega arith)) (s (truth_place i p + 1) (omega arith) (omega arith)) (v.truths p h))
      (truths-over i p)))

-- ===== Actions =====

-- the words of the action a that are in use
abbrev pub action_use : List ℕ → ℕ → ℕ
action_use t a = 2 + variants_of t a * variant_words

module _ (l l' t t' : List ℕ) (w : ℕ) (e : take w l' ≡ take w l) (a : ℕ) where
  pub action-same : Same t t' (a * action_words) (action_use t a) → SpannedAction t w a → action_at l' t' a ≡ action_at l t a
  unfolding action_at
  action-same s x =
      ap₂ action_of (s (a * action_words) (omega arith) (omega arith))
      (ap (many (λ v. variant_at l' t' (variant_place a v))) (s (a * action_words + 1) (omega arith) (omega arith))
      ∙ many-ext (λ v. variant_at l' t' (variant_place a v)) (λ v. variant_at l t (variant_place a v)) (variants_of t a)
      (λ v q. variant-same l l' t t' w e (variant_place a v) (λ j y z. s j (omega arith) (omega arith)) (x.variants v q)))

-- ===== What stays good =====

pub canonical-on : {ws ws' : List ℕ} → ws' ≡ ws → Canonical ws → Canonical ws'
canonical-on e x = subst Canonical (sym e) x

module _ (l l' t t' : List ℕ) (w w' : ℕ) (e : take w l' ≡ take w l) (m : w ≤ w') where
  pub inside-kept : (i : ℕ) → get_or t' i 0 ≡ get_or t i 0 → get_or t' (i + 1) 0 ≡ get_or t (i + 1) 0 → Inside t w i → Inside t' w' i
  inside-kept i x y h = omega (arith, x, y, h)

  pub spanned-variant : (i : ℕ) → Same t t' i variant_words → SpannedVariant t w i → SpannedVariant t' w' i
  spanned-variant i s v = record {
    weight = inside-kept i (s i (omega arith) (omega arith)) (s (i + 1) (omega arith) (omega arith)) v.weight;
    truths = λ p h. inside-kept (truth_place i p) (s (truth_place i p) (omega arith) (omega arith)) (s (truth_place i p + 1) (omega arith) (omega arith)) (v.truths p h);
  }

  pub spanned-action : (a : ℕ) → Same t t' (a * action_words) (action_use t a) → SpannedAction t w a → SpannedAction t' w' a
  spanned-action a s x =
      let y = s (a * action_words + 1) (omega arith) (omega arith) in
      record {
        few = omega (arith, y, x.few);
        variants = λ v q. let k : v < variants_of t a = omega (arith, y) in spanned-variant (variant_place a v) (λ j g z. s j (omega arith) (omega arith)) (x.variants v k);
      }

  pub listed-variant : (i : ℕ) → Same t t' i variant_words → SpannedVariant t w i → ListedVariant l t i → ListedVariant l' t' i
  listed-variant i s v x = record {
    weight = canonical-on (span_same l l' t t' w e i (s i (omega arith) (omega arith)) (s (i + 1) (omega arith) (omega arith)) v.weight) x.weight;
    truths = λ p f h n.
        let y = s (truth_place i p) (omega arith) (omega arith) in
        let z = s (truth_place i p + 1) (omega arith) (omega arith) in
        canonical-on (span_same l l' t t' w e (truth_place i p) y z (v.truths p h)) (x.truths p f h (λ o. n (z ∙ o)));
  }
