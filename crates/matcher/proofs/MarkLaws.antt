-- Marking the terms of literals, and the tables that a search starts from.
use mathlib.Core.Path.{◌≡◌, refl, sym, ap, ap₂, subst, ◌∙◌}
use mathlib.Core.Logic.{◌⊎◌, inl, inr}
use mathlib.Core.List.{List, [], ◌∷◌, ◌++◌, Memᴰ}
use Prim.Native.Nat.{ℕ, ◌+◌, ◌-◌, ◌/◌, ◌≤◌, ◌<◌}
use native.Mathlib.Omega.{arith}
use native.Mathlib.Numerals.{add-one}
use lib.ListN.{length, get_or, set, take, drop, length-set, get_or-append}
use lib.Seq.{length-take-le, get_or-set_same, get_or-set_other, drop-set-lt, get_or-drop}
use borrow.Rule.Slice.PartMut.{put_mid, post_of}
use Rattle.std.proofs.lemmas.List.{get_or-append_right}
use Rattle.basics.specs.Tests.{Cmp, cmp, below, equal, above}
use Rattle.label.specs.Limits.{first_minimum, first_variable, most_places}
use Rattle.label.specs.Labels.{predicate_of, place_at}
use Rattle.label.proofs.ArityLaws.{arity-most}
use Rattle.label.proofs.CodeLaws.{under_all}
use Rattle.listing.specs.Used.{marked}
use Rattle.paths.specs.Inner.{InRange}
use Rattle.matcher.specs.Search.{along, late, Unplaced}
use Rattle.matcher.specs.Stored.{terms_of_code, Markable, Coded, Cleared, Marking}
use Rattle.paths.specs.PathLaws.{range-terms}
use Rattle.matcher.proofs.AlongLaws.{along-suc, marked-snoc}
use Rattle.matcher.proofs.TermLaws.{terms-along}

-- ===== Marks after terms were marked =====
abbrev AllTerms : List ℕ → Type 0
AllTerms ts = (t : ℕ) → Memᴰ t ts → t < first_minimum

code-terms : (ar : List ℕ) (x : ℕ) → InRange first_minimum (x / 2) → AllTerms (terms_of_code ar x)
unfolding terms_of_code
code-terms ar x r = range-terms first_minimum ar (x / 2) r

pub length_marked : (ts ms : List ℕ) → length (marked ts ms) ≡ length ms
length_marked [] ms = refl
length_marked (t ∷ ts) ms = length_marked ts (set ms t 1) ∙ length-set ms t 1

drop-marked : (ts ms : List ℕ) → AllTerms ts → drop first_minimum (marked ts ms) ≡ drop first_minimum ms
drop-marked [] ms h = refl
drop-marked (t ∷ ts) ms h = drop-marked ts (set ms t 1) (λ u m. h u (Memᴰ.tail m)) ∙ drop-set-lt first_minimum ms t 1 (h t (Memᴰ.head refl))

-- a mark that is set stays
pub marked-stays : (ts ms : List ℕ) (t : ℕ) → t < length ms → 0 < get_or ms t 0 → 0 < get_or (marked ts ms) t 0
marked-stays [] ms t l h = h
marked-stays (u ∷ us) ms t l h = marked-stays us (set ms u 1) t (omega (arith, length-set ms u 1)) (go (cmp t u))
  where
    go : Cmp t u → 0 < get_or (set ms u 1) t 0
    go (below q) = omega (arith, get_or-set_other ms u t 1 0 (omega arith))
    go (equal q) = omega (arith, ap (λ (i : ℕ). get_or (set ms u 1) i 0) q, get_or-set_same ms u 1 0 (omega arith))
    go (above q) = omega (arith, get_or-set_other ms u t 1 0 (omega arith))

pub marked-set : (ts ms : List ℕ) (t : ℕ) → t < length ms → Memᴰ t ts → 0 < get_or (marked ts ms) t 0
marked-set [] ms t l x'' = elim x'' [ ]
marked-set (u ∷ us) ms t l (Memᴰ.head e) =
    marked-stays us (set ms u 1) t (omega (arith, length-set ms u 1)) (omega (arith, ap (λ (i : ℕ). get_or (set ms u 1) i 0) e, get_or-set_same ms u 1 0 (omega arith)))
marked-set (u ∷ us) ms t l (Memᴰ.tail m) = marked-set us (set ms u 1) t (omega (arith, length-set ms u 1)) m

marked_from : (ts ms : List ℕ) (t : ℕ) → 0 < get_or (marked ts ms) t 0 → (0 < get_or ms t 0) ⊎ Memᴰ t ts
marked_from [] ms t h = inl h
marked_from (u ∷ us) ms t h = go (marked_from us (set ms u 1) t h) (cmp t u)
  where
    was : (t ≡ u → ⊥) → 0 < get_or (set ms u 1) t 0 → (0 < get_or ms t 0) ⊎ Memᴰ t (u ∷ us)
    was d k = inl (omega (arith, get_or-set_other ms u t 1 0 d))

    go : (0 < get_or (set ms u 1) t 0) ⊎ Memᴰ t us → Cmp t u → (0 < get_or ms t 0) ⊎ Memᴰ t (u ∷ us)
    go (inr m) c = inr (Memᴰ.tail m)
    go (inl k) (equal q) = inr (Memᴰ.head q)
    go (inl k) (below q) = was (omega arith) k
    go (inl k) (above q) = was (omega arith) k

-- ===== mark_places =====

-- one place more is marked
pub places-next : (ms₀ : List ℕ) (l k : ℕ) {ms : List ℕ} {t : ℕ} → ms ≡ marked (along (place_at l) k) ms₀ → t ≡ place_at l k
    → set ms t 1 ≡ marked (along (place_at l) (k + 1)) ms₀
places-next ms₀ l k m e =
    ap₂ (λ (xs : List ℕ) (v : ℕ). set xs v 1) m e ∙ sym (marked-snoc (along (place_at l) k) (place_at l k) ms₀)
    ∙ ap (λ (ts : List ℕ). marked ts ms₀) (sym (along-suc (place_at l) k) ∙ ap (along (place_at l)) (sym (add-one k)))

-- ===== mark_literal =====
module _ {ar ms : List ℕ} {x : ℕ} (m : Markable ar ms x) where
  pub predicate-within : {p : ℕ} → p ≡ predicate_of (x / 2) → p < length ar
  predicate-within e = omega (arith, m.range.predicate, under_all ar (sym m.arities) refl)

  pub literal-few : {p : ℕ} → p ≡ predicate_of (x / 2) → get_or ar p 0 ≤ most_places
  literal-few {p} e = omega (arith, arity-most ar p m.arities)

  pub literal-marked : {p : ℕ} {ms' : List ℕ} → p ≡ predicate_of (x / 2) → ms' ≡ marked (along (place_at (x / 2)) (get_or ar p 0)) ms → ms' ≡ marked (terms_of_code ar x) ms
  unfolding terms_of_code
  literal-marked e q =
      q ∙ ap (λ (ts : List ℕ). marked ts ms) (ap (λ (i : ℕ). along (place_at (x / 2)) (get_or ar i 0)) e ∙ sym (terms-along ar (x / 2) m.arities))

-- ===== mark_path =====
module _ {ar out₀ : List ℕ} {n : ℕ} (u : Coded ar out₀ n) where
  pub marking-start : ((t : ℕ) → t < first_minimum → get_or out₀ t 0 ≡ 0) → Marking ar out₀ out₀ 0
  marking-start c = record { length-kept = refl; behind = refl; has = λ j t h. absurd (omega arith); of = λ t h k. absurd (omega (arith, c t h)) }

  module _ {out : List ℕ} {i : ℕ} (m : Marking ar out₀ out i) (h : i < n) where
    pub marking-room : first_minimum + i < length out
    marking-room = omega (arith, u.room, m.length-kept)

    same_code : get_or out (first_minimum + i) 0 ≡ get_or out₀ (first_minimum + i) 0
    same_code = sym (get_or-drop first_minimum out i 0) ∙ ap (λ (xs : List ℕ). get_or xs i 0) m.behind ∙ get_or-drop first_minimum out₀ i 0

    module _ {x : ℕ} (e : x ≡ get_or out (first_minimum + i) 0) where
      pub marking-markable : Markable ar out x
      marking-markable =
          record { arities = u.arities; room = omega (arith, u.room, m.length-kept); range = rw (e, same_code) (u.ranged i h) }

      pub marking-next : {out' : List ℕ} → out' ≡ marked (terms_of_code ar x) out → Marking ar out₀ out' (i + 1)
      marking-next {out'} q = subst (λ (xs : List ℕ). Marking ar out₀ xs (i + 1)) (sym (q ∙ ap (λ (y : ℕ). marked (terms_of_code ar y) out) (e ∙ same_code))) (record {
        length-kept = length_marked ts out ∙ m.length-kept;
        behind = drop-marked ts out (λ t. small i t h) ∙ m.behind;
        has = λ j t k w. has j t k w (cmp j i);
        of = λ t k w. of t k (marked_from ts out t w);
      })
        where
          ts : List ℕ
          ts = terms_of_code ar (get_or out₀ (first_minimum + i) 0)

          small : (j t : ℕ) → j < n → Memᴰ t (terms_of_code ar (get_or out₀ (first_minimum + j) 0)) → t < first_minimum
          small j t k = code-terms ar (get_or out₀ (first_minimum + j) 0) (u.ranged j k) t

          has : (j t : ℕ) → j < i + 1 → Memᴰ t (terms_of_code ar (get_or out₀ (first_minimum + j) 0)) → Cmp j i → 0 < get_or (marked ts out) t 0
          has j t k w (below c) = marked-stays ts out t (omega (arith, small j t (omega arith) w, u.room, m.length-kept)) (m.has j t c w)
          has j t k w (equal c) =
              marked-set ts out t (omega (arith, small j t (omega arith) w, u.room, m.length-kept))
              (subst (λ (l : ℕ). Memᴰ t (terms_of_code ar (get_or out₀ (first_minimum + l) 0))) c w)
          has j t k w (above c) = absurd (omega arith)

          of : (t : ℕ) → t < first_minimum → (0 < get_or out t 0) ⊎ Memᴰ t ts
              → (j : ℕ) × (j < i + 1) × Memᴰ t (terms_of_code ar (get_or out₀ (first_minimum + j) 0))
          of t k (inl w) = let r = m.of t k w in (r.0, omega (arith, r.1), r.2)
          of t k (inr w) = (i, omega arith, w)

  pub marking-end : {out : List ℕ} {i : ℕ} → Marking ar out₀ out i → n ≤ i → i ≤ n → Marking ar out₀ out n
  marking-end {out} {i} m h k = let e : i ≡ n = omega arith in subst (Marking ar out₀ out) e m

-- ===== mark_terms =====
module _ {out₀ out : List ℕ} (c : Cleared out₀ out) (l : length out ≡ length out₀) where
  same_word : (j : ℕ) → get_or out (first_minimum + j) 0 ≡ get_or out₀ (first_minimum + j) 0
  same_word j = sym (get_or-drop first_minimum out j 0) ∙ ap (λ (xs : List ℕ). get_or xs j 0) c.behind ∙ get_or-drop first_minimum out₀ j 0

  pub cleared-coded : {ar : List ℕ} {n : ℕ} → Coded ar out₀ n → Coded ar out n
  cleared-coded u = record { arities = u.arities; room = omega (arith, u.room); few = u.few; ranged = λ j h. rw (same_word j) (u.ranged j h) }

  pub cleared-marking : {ar out' : List ℕ} {n : ℕ} → Marking ar out out' n → Marking ar out₀ out' n
  cleared-marking {ar} {out'} {n} m = record { length-kept = m.length-kept ∙ l; behind = m.behind ∙ c.behind; has = has; of = of }
    where
      has : (j t : ℕ) → j < n → Memᴰ t (terms_of_code ar (get_or out₀ (first_minimum + j) 0)) → 0 < get_or out' t 0
      has j t h w = m.has j t h (subst (λ (x : ℕ). Memᴰ t (terms_of_code ar x)) (sym (same_word j)) w)

      of : (t : ℕ) → t < first_minimum → 0 < get_or out' t 0 → (j : ℕ) × (j < n) × Memᴰ t (terms_of_code ar (get_or out₀ (first_minimum + j) 0))
      of t h w = let r = m.of t h w in (r.0, r.1, subst (λ (x : ℕ). Memᴰ t (terms_of_code ar x)) (same_word r.0) r.2)

-- ===== A run of words that was written from a on =====
pub put_at : (a k : ℕ) (xs ys : List ℕ) (i : ℕ) → a ≤ length xs → i < length ys → get_or (put_mid a k xs ys) (a + i) 0 ≡ get_or ys i 0
put_at a k xs ys i h l =
    get_or-append_right (take a xs) (ys ++ post_of a k xs) a (a + i) 0 (length-take-le a xs h) (omega arith)
    ∙ (let e : a + i - a ≡ i = omega arith in rw e (get_or-append ys (post_of a k xs) 0 i l))

-- ===== unplace =====

-- the terms before v, and the variables before first_variable + v, have no place
pub record Unplacing (tab₀ tab : List ℕ) (v : ℕ) : Type 0 where
  pub length-kept : length tab ≡ length tab₀
  pub fixed : (u : ℕ) → u < v → get_or tab u 0 ≡ 0
  pub free : (u : ℕ) → u < v → get_or tab (first_variable + u) 0 ≡ late
  pub kept : (u : ℕ) → first_minimum ≤ u → get_or tab u 0 ≡ get_or tab₀ u 0

pub unplacing-end : {tab₀ tab : List ℕ} {v : ℕ} → first_minimum + first_minimum ≤ length tab₀ → Unplacing tab₀ tab v → first_variable ≤ v → Unplaced tab
unplacing-end {tab₀} {tab} {v} room c h = record { room = omega (arith, c.length-kept); fixed = λ u k. c.fixed u (omega arith); free = free }
  where
    free : (u : ℕ) → first_variable ≤ u → u < first_minimum → get_or tab u 0 ≡ late
    free u l k = let e : first_variable + (u - first_variable) ≡ u = omega arith in subst (λ (i : ℕ). get_or tab i 0 ≡ late) e (c.free (u - first_variable) (omega arith))
