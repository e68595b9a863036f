-- Remembered failures: rows of words.
use mathlib.Core.Path.{◌≡◌, refl, sym, ap, subst, ◌∙◌}
use mathlib.Core.Bool.{Bool, true, false, not}
use mathlib.Core.List.{List}
use Prim.Native.Nat.{ℕ, ◌+◌, ◌≤◌, ◌<◌}
use native.Mathlib.Omega.{arith}
use lib.ListN.{length, get_or, set, length-set}
use lib.Seq.{get_or-set_same, get_or-set_other}
use lib.Dec.{eqb}
use borrow.Author.Tests.{eqb-false}
use Rattle.basics.specs.Tests.{Cmp, cmp, below, equal, above}
use Rattle.label.specs.Limits.{first_variable, variable_count}
use Rattle.matcher.specs.Failure.{
  bit_at,
  In,
  Nogood,
  store_rows,
  row_words,
  store_words,
  row_of,
  Same,
  Remembers,
  Recalled,
  RecallPost,
  Copied,
  Rewritten,
  RememberPost,
  mask_of,
  HandedUp,
}
use Rattle.matcher.specs.declared.Answer.{Answer}
use Rattle.matcher.specs.declared.Answer.TheVariants.{Found, Failed, Weary}
use Rattle.matcher.proofs.WayLaws.{unleft}

-- ===== Comparing =====
pub same_start : (theta store : List ℕ) (at mask : ℕ) → Same theta store at mask 0
same_start theta store at mask = record { each = λ i h. absurd (omega arith) }

pub same_more : {theta store : List ℕ} {at mask i : ℕ} → Same theta store at mask i → get_or theta (first_variable + i) 0 ≡ get_or store (at + i) 0
    → Same theta store at mask (i + 1)
same_more {theta} {store} {at} {mask} {i} s e = record { each = λ w h o. go w h o (cmp w i) }
  where
    go : (w : ℕ) → w < i + 1 → In mask w → Cmp w i → get_or theta (first_variable + w) 0 ≡ get_or store (at + w) 0
    go w h o (below c) = s.each w c o
    go w h o (equal c) = ap (λ (x : ℕ). get_or theta (first_variable + x) 0) c ∙ e ∙ ap (λ (x : ℕ). get_or store (at + x) 0) (sym c)
    go w h o (above c) = absurd (omega arith)

pub same-skip : {theta store : List ℕ} {at mask i : ℕ} {b : Bool} → Same theta store at mask i → b ≡ eqb (bit_at mask i) 1 → b ≡ false
    → Same theta store at mask (i + 1)
same-skip {theta} {store} {at} {mask} {i} s q f = record { each = λ w h o. go w h o (cmp w i) }
  where
    go : (w : ℕ) → w < i + 1 → In mask w → Cmp w i → get_or theta (first_variable + w) 0 ≡ get_or store (at + w) 0
    go w h o (below c) = s.each w c o
    go w h o (equal c) = absurd (eqb-false (bit_at mask i) 1 (sym q ∙ f) (ap (bit_at mask) (sym c) ∙ o))
    go w h o (above c) = absurd (omega arith)

pub same_end : {theta store : List ℕ} {at mask i : ℕ} → Same theta store at mask i → variable_count ≤ i → true ≡ true → Same theta store at mask variable_count
same_end s h e = record { each = λ w l o. s.each w (omega arith) o }

pub same_not : {A : Type 0} → false ≡ true → A
same_not e = let z : ◌≡◌ {A = ℕ} 0 1 = cc in absurd (omega arith)

-- ===== Copying =====
pub copied-start : (theta store : List ℕ) (at : ℕ) → Copied theta store store at 0
copied-start theta store at = record { length-kept = refl; words = λ i h. absurd (omega arith); before = λ i h. refl; behind = λ i h. refl }

pub copied_more : {theta store store' : List ℕ} {at i : ℕ} → at + variable_count ≤ length store → i < variable_count → Copied theta store store' at i
    → Copied theta store (set store' (at + i) (get_or theta (first_variable + i) 0)) at (i + 1)
copied_more {theta} {store} {store'} {at} {i} r h s = record {
  length-kept = length-set store' (at + i) (get_or theta (first_variable + i) 0) ∙ s.length-kept;
  words = λ w l. go w l (cmp w i);
  before = λ w l. get_or-set_other store' (at + i) w (get_or theta (first_variable + i) 0) 0 (λ (z : w ≡ at + i). omega arith) ∙ s.before w l;
  behind = λ w l. get_or-set_other store' (at + i) w (get_or theta (first_variable + i) 0) 0 (λ (z : w ≡ at + i). omega arith) ∙ s.behind w l;
}
  where
    go : (w : ℕ) → w < i + 1 → Cmp w i → get_or (set store' (at + i) (get_or theta (first_variable + i) 0)) (at + w) 0 ≡ get_or theta (first_variable + w) 0
    go w l (below c) = get_or-set_other store' (at + i) (at + w) (get_or theta (first_variable + i) 0) 0 (λ (z : at + w ≡ at + i). omega arith) ∙ s.words w c
    go w l (equal c) =
        ap (λ (o : ℕ). get_or (set store' (at + i) (get_or theta (first_variable + i) 0)) (at + o) 0) c
        ∙ get_or-set_same store' (at + i) (get_or theta (first_variable + i) 0) 0 (omega (arith, s.length-kept))
        ∙ ap (λ (o : ℕ). get_or theta (first_variable + o) 0) (sym c)
    go w l (above c) = absurd (omega arith)

pub copied-end : {theta store store' : List ℕ} {at i : ℕ} → Copied theta store store' at i → variable_count ≤ i → Copied theta store store' at variable_count
copied-end s h = record { length-kept = s.length-kept; words = λ w l. s.words w (omega arith); before = s.before; behind = s.behind }

-- ===== A row is written =====
module _ {theta store store' : List ℕ} {mask row : ℕ} (long : store_words ≤ length store) (low : row < store_rows)
    (c : Copied theta (set (set store (row_of row) 1) (row_of row + 1) mask) store' (row_of row + 2) variable_count) where
  pub row_written : Rewritten theta store mask row store'
  row_written = record {
    length-kept = c.length-kept ∙ length-set (set store (row_of row) 1) (row_of row + 1) mask ∙ length-set store (row_of row) 1;
    mask_is =
        c.before (row_of row + 1) (omega arith)
        ∙ get_or-set_same (set store (row_of row) 1) (row_of row + 1) mask 0 (omega (arith, length-set store (row_of row) 1));
    words = c.words;
    others = λ i o n h. other i o n h (cmp i row);
  }
    where
      still : (i o : ℕ) → (i ≡ row → ⊥) → o < row_words → get_or (set (set store (row_of row) 1) (row_of row + 1) mask) (row_of i + o) 0 ≡ get_or store (row_of i + o) 0
      still i o n h =
          get_or-set_other (set store (row_of row) 1) (row_of row + 1) (row_of i + o) mask 0 (λ (z : row_of i + o ≡ row_of row + 1). n (omega arith))
          ∙ get_or-set_other store (row_of row) (row_of i + o) 1 0 (λ (z : row_of i + o ≡ row_of row). n (omega arith))

      other : (i o : ℕ) → (i ≡ row → ⊥) → o < row_words → Cmp i row → get_or store' (row_of i + o) 0 ≡ get_or store (row_of i + o) 0
      other i o n h (below q) = c.before (row_of i + o) (omega arith) ∙ still i o n h
      other i o n h (equal q) = absurd (n q)
      other i o n h (above q) = c.behind (row_of i + o) (omega arith) ∙ still i o n h

-- the guess before the rows says nothing
pub remember-length : {theta store' : List ℕ} (store : List ℕ) {mask k row : ℕ} → k < store_rows → Rewritten theta (set store k mask) mask row store'
    → length store' ≡ length store
remember-length store {mask} {k} l w = w.length-kept ∙ length-set store k mask

pub remember-row : {theta store store' : List ℕ} {mask k row : ℕ} → k < store_rows → row < store_rows → Rewritten theta (set store k mask) mask row store'
    → RememberPost theta store mask store'
remember-row {theta} {store} {store'} {mask} {k} {row} l b w = record {
  rewritten = λ h. (
    row,
    b,
    record {
      length-kept = remember-length store l w;
      mask_is = w.mask_is;
      words = w.words;
      others = λ i o n q. w.others i o n q ∙ get_or-set_other store k (row_of i + o) mask 0 (λ (z : row_of i + o ≡ k). omega arith);
    },
  );
}

pub remember-short : {theta store store' : List ℕ} {mask : ℕ} → length store < store_words → RememberPost theta store mask store'
remember-short h = record { rewritten = λ l. absurd (omega arith) }

-- ===== A row is looked at =====
no-failure : {A : Type 0} (q : ℕ) → Found ≡ Failed q → A
no-failure q e = let z : ◌≡◌ {A = ℕ} 0 1 = cc in absurd (omega arith)

pub recall-none : {theta store : List ℕ} {bound : ℕ} → RecallPost theta store bound Found
recall-none = record { failed = λ q e. no-failure q e; weary = λ e. let z : ◌≡◌ {A = ℕ} 0 1 = cc in absurd (omega arith) }

pub recall-weary : {theta store : List ℕ} {bound : ℕ} → length store < store_words → RecallPost theta store bound Weary
recall-weary h = record { failed = λ q e. let z : ◌≡◌ {A = ℕ} 0 1 = cc in absurd (omega arith); weary = λ e. h }

pub recall-row : {theta store : List ℕ} {bound row : ℕ} {p a : Bool} → store_words ≤ length store → row < store_rows → get_or store (row_of row) 0 ≡ 1
    → (p ≡ true → (i : ℕ) → In (get_or store (row_of row + 1) 0) i → In bound i) → not p ≡ false
    → (a ≡ true → Same theta store (row_of row + 2) (get_or store (row_of row + 1) 0) variable_count) → not a ≡ false
    → RecallPost theta store bound (Failed (get_or store (row_of row + 1) 0))
recall-row {theta} {store} {bound} {row} l b u f g k h = record {
  failed = λ q e. let o : get_or store (row_of row + 1) 0 ≡ q = cc in subst (Recalled theta store bound) o here;
  weary = λ e. let z : ◌≡◌ {A = ℕ} 0 1 = cc in absurd (omega arith);
}
  where
    here : Recalled theta store bound (get_or store (row_of row + 1) 0)
    here = record { row = row; long = l; below = b; used = u; mask = refl; words = k (unleft h); within = f (unleft g) }

-- ===== Answers =====
pub handed-found : {a : Answer} {bound : ℕ} → a ≡ Found → HandedUp a bound true
handed-found e = record { yes = λ f q z. no-failure q (sym e ∙ z); no = λ f. same_not (sym f) }

pub handed-weary : {a : Answer} {bound : ℕ} → a ≡ Weary → HandedUp a bound true
handed-weary e = record { yes = λ f q z. weary-failure q (sym e ∙ z); no = λ f. same_not (sym f) }
  where
    weary-failure : {A : Type 0} (q : ℕ) → Weary ≡ Failed q → A
    weary-failure q e = let z : ◌≡◌ {A = ℕ} 0 1 = cc in absurd (omega arith)

pub handed-failed : {a : Answer} {bound p : ℕ} {b : Bool} → a ≡ Failed p → (b ≡ true → (i : ℕ) → In p i → In bound i) → HandedUp a bound b
handed-failed {a} {bound} {p} {b} e f = record {
  yes = λ g q z i h. f g i (subst (λ (x : ℕ). In x i) (sym (is-failed p q (sym e ∙ z))) h);
  no = λ g. e ∙ ap Failed (sym (ap mask_of e));
}
  where
    is-failed : (p q : ℕ) → Failed p ≡ Failed q → p ≡ q
    is-failed p q e = cc

-- ===== What rows say =====
module _ {ord into tab : List ℕ} where
  -- where the words are the same on the mask, so is the failure
  pub nogood-same : {s s' : List ℕ} {mask at at' : ℕ} → Nogood ord into tab mask s at
      → ((i : ℕ) → i < variable_count → In mask i → get_or s' (at' + i) 0 ≡ get_or s (at + i) 0) → Nogood ord into tab mask s' at'
  nogood-same g e = record { nothing = λ ar T x z a. g.nothing ar T x z (λ i h o. a i h o ∙ e i h o) }

  pub recalled-nogood : {theta store : List ℕ} {bound q : ℕ} → Remembers ord into tab store → Recalled theta store bound q → Nogood ord into tab q theta first_variable
  recalled-nogood {theta} {store} {bound} {q} m r =
      nogood-same (subst (λ (x : ℕ). Nogood ord into tab x store (row_of r.row + 2)) r.mask (m.each r.long r.row r.below r.used)) r.words.each

  pub remembers-more : {theta store store' : List ℕ} {mask : ℕ} → Remembers ord into tab store → Nogood ord into tab mask theta first_variable
      → length store' ≡ length store → RememberPost theta store mask store' → Remembers ord into tab store'
  remembers-more {theta} {store} {store'} {mask} m g l p = record {
    some = omega (arith, m.some);
    each = λ h i b u. row i b u (p.rewritten (omega arith)) (omega arith);
  }
    where
      row : (i : ℕ) → i < store_rows → get_or store' (row_of i) 0 ≡ 1 → (s : ℕ) × (s < store_rows) × Rewritten theta store mask s store' → store_words ≤ length store
          → Nogood ord into tab (get_or store' (row_of i + 1) 0) store' (row_of i + 2)
      row i b u w h = go (cmp i w.0)
        where
          other : (i ≡ w.0 → ⊥) → Nogood ord into tab (get_or store' (row_of i + 1) 0) store' (row_of i + 2)
          other n =
              subst (λ (x : ℕ). Nogood ord into tab x store' (row_of i + 2)) (sym (w.2.others i 1 n (omega arith)))
              (nogood-same (m.each h i b (sym flag ∙ u)) (λ o q e. word o q))
            where
              flag : get_or store' (row_of i) 0 ≡ get_or store (row_of i) 0
              flag = let z : row_of i + 0 ≡ row_of i = omega arith in ap (λ (x : ℕ). get_or store' x 0) (sym z) ∙ w.2.others i 0 n (omega arith) ∙ ap (λ (x : ℕ). get_or store x 0) z

              word : (o : ℕ) → o < variable_count → get_or store' (row_of i + 2 + o) 0 ≡ get_or store (row_of i + 2 + o) 0
              word o q =
                  let z : row_of i + (2 + o) ≡ row_of i + 2 + o = omega arith in
                  ap (λ (x : ℕ). get_or store' x 0) (sym z) ∙ w.2.others i (2 + o) n (omega arith) ∙ ap (λ (x : ℕ). get_or store x 0) z

          mine : i ≡ w.0 → Nogood ord into tab (get_or store' (row_of i + 1) 0) store' (row_of i + 2)
          mine e =
              subst (λ (x : ℕ). Nogood ord into tab (get_or store' (row_of x + 1) 0) store' (row_of x + 2)) (sym e)
              (subst (λ (x : ℕ). Nogood ord into tab x store' (row_of w.0 + 2)) (sym w.2.mask_is) (nogood-same g (λ o q z. w.2.words o q)))

          go : Cmp i w.0 → Nogood ord into tab (get_or store' (row_of i + 1) 0) store' (row_of i + 2)
          go (below q) = other (λ (e : i ≡ w.0). omega arith)
          go (equal q) = mine q
          go (above q) = other (λ (e : i ≡ w.0). omega arith)
