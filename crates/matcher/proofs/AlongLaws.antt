-- Lists made by index, tests of all or one of them, and binding term by term along such lists.
use mathlib.Core.Path.{◌≡◌, refl, sym, ap, ap₂, subst, ◌∙◌}
use mathlib.Core.Logic.{◌⊎◌, inl, inr}
use mathlib.Core.Bool.{Bool, true, false, ◌&&◌, ◌||◌, cond}
use mathlib.Core.List.Memᴰ
use mathlib.Core.List.{
  List,
  [],
  ◌∷◌,
  ◌++◌,
  map,
  map-append,
  Memᴰ,
}
use mathlib.Core.Option.{Option, some, none}
use Prim.Native.Nat.{ℕ, zero, suc, ◌+◌, ◌≤◌, ◌<◌}
use native.Mathlib.Omega.{arith}
use native.Mathlib.Numerals.{add-one}
use lib.ListN.{length, get_or, set, length-append, get_or-append}
use lib.Dec.{eqb}
use lib.Seq.{ext_get_or}
use borrow.Author.Tests.{eqb-true}
use Rattle.basics.specs.Tests.{and_left, and_right, Cmp, cmp, below, equal, above}
use Rattle.basics.specs.Members.{clash}
use Rattle.listing.specs.Used.{marked}
use Rattle.cutting.specs.Match.{Partial, assign, agree, bind_term, then_bind, bind_terms}
use Rattle.matcher.specs.Search.{along, all_of, any_of}

pub none-some : {A : Type 0} {B : Type 0} (a : A) → none ≡ some a → B
none-some a e = let z : ◌≡◌ {A = ℕ} 0 1 = cc in absurd (omega arith)

-- ===== Lists made by index =====
pub along-suc : (f : ℕ → ℕ) (n : ℕ) → along f (suc n) ≡ along f n ++ (f n ∷ [])
unfolding along
along-suc f n = refl

pub along-length : (f : ℕ → ℕ) (n : ℕ) → length (along f n) ≡ n
unfolding along
along-length f zero = refl
along-length f (suc n) = omega (arith, length-append (along f n) (f n ∷ []), along-length f n)

pub along-at : (f : ℕ → ℕ) (n k : ℕ) → k < n → get_or (along f n) k 0 ≡ f k
unfolding along
along-at f zero k h = absurd (omega arith)
along-at f (suc n) k h = go (cmp k n) (along-at f n k)
  where
    last : (xs : List ℕ) (x : ℕ) → get_or (xs ++ (x ∷ [])) (length xs) 0 ≡ x
    last [] x = refl
    last (y ∷ xs) x = last xs x

    go : Cmp k n → (k < n → get_or (along f n) k 0 ≡ f k) → get_or (along f n ++ (f n ∷ [])) k 0 ≡ f k
    go (below q) rec = get_or-append (along f n) (f n ∷ []) 0 k (omega (arith, along-length f n)) ∙ rec q
    go (equal q) rec = ap (λ (i : ℕ). get_or (along f n ++ (f n ∷ [])) i 0) (q ∙ sym (along-length f n)) ∙ last (along f n) (f n) ∙ ap f (sym q)
    go (above q) rec = absurd (omega arith)

pub along-same : (f g : ℕ → ℕ) (n : ℕ) → ((k : ℕ) → k < n → f k ≡ g k) → along f n ≡ along g n
unfolding along
along-same f g zero h = refl
along-same f g (suc n) h = ap₂ (λ (xs : List ℕ) (x : ℕ). xs ++ (x ∷ [])) (along-same f g n (λ k l. h k (omega arith))) (h n (omega arith))

pub along-equal : (f g : ℕ → ℕ) (n : ℕ) → along f n ≡ along g n → (k : ℕ) → k < n → f k ≡ g k
along-equal f g n e k h = sym (along-at f n k h) ∙ ap (λ (xs : List ℕ). get_or xs k 0) e ∙ along-at g n k h

pub along-map : (σ f : ℕ → ℕ) (n : ℕ) → map σ (along f n) ≡ along (λ k. σ (f k)) n
unfolding along
along-map σ f zero = refl
along-map σ f (suc n) = map-append σ (along f n) (f n ∷ []) ∙ ap (λ (xs : List ℕ). xs ++ (σ (f n) ∷ [])) (along-map σ f n)

pub along-in : (f : ℕ → ℕ) (n k : ℕ) → k < n → Memᴰ (f k) (along f n)
unfolding along
along-in f zero k h = absurd (omega arith)
along-in f (suc n) k h = go (cmp k n) (along-in f n k)
  where
    go : Cmp k n → (k < n → Memᴰ (f k) (along f n)) → Memᴰ (f k) (along f n ++ (f n ∷ []))
    go (below q) rec = Memᴰ.append_left (f n ∷ []) (rec q)
    go (equal q) rec = Memᴰ.append_right (along f n) (Memᴰ.head (ap f q))
    go (above q) rec = absurd (omega arith)

pub along-of : (f : ℕ → ℕ) (n u : ℕ) → Memᴰ u (along f n) → (k : ℕ) × (k < n) × (u ≡ f k)
unfolding along
along-of f zero u m = absurd (Memᴰ.not-nil m)
along-of f (suc n) u m = go (Memᴰ.append_cases (along f n) m) (along-of f n u)
  where
    go : Memᴰ u (along f n) ⊎ Memᴰ u (f n ∷ []) → (Memᴰ u (along f n) → (k : ℕ) × (k < n) × (u ≡ f k)) → (k : ℕ) × (k < suc n) × (u ≡ f k)
    go (inl w) rec = let r = rec w in (r.0, omega (arith, r.1), r.2)
    go (inr w) rec = (n, omega arith, Memᴰ.eq_of_singleton w)

-- a list is made of its entries
pub along-list : (us : List ℕ) → along (λ k. get_or us k 0) (length us) ≡ us
along-list us =
    ext_get_or 0 (along (λ k. get_or us k 0) (length us)) us (along-length (λ k. get_or us k 0) (length us))
    (λ k h. along-at (λ k. get_or us k 0) (length us) k (omega (arith, along-length (λ k. get_or us k 0) (length us))))

-- ===== Tests of all, of one =====
module _ (f : ℕ → Bool) where
  pub all_more : (n : ℕ) → all_of f n ≡ true → f n ≡ true → all_of f (n + 1) ≡ true
  unfolding all_of
  all_more n e q = ap (all_of f) (add-one n) ∙ rw (e, q)

  pub all-not : (n k : ℕ) → k < n → f k ≡ false → all_of f n ≡ false
  unfolding all_of
  all-not zero k h q = absurd (omega arith)
  all-not (suc n) k h q = go (cmp k n) (λ l. all-not n k l q)
    where
      no_more : (b : Bool) → (b && false) ≡ false
      no_more true = refl
      no_more false = refl

      go : Cmp k n → (k < n → all_of f n ≡ false) → (all_of f n && f n) ≡ false
      go (below l) rec = rw (rec l)
      go (equal l) rec = ap (λ (b : Bool). all_of f n && b) (ap f (sym l) ∙ q) ∙ no_more (all_of f n)
      go (above l) rec = absurd (omega arith)

  pub all-at : (n k : ℕ) → all_of f n ≡ true → k < n → f k ≡ true
  unfolding all_of
  all-at zero k e h = absurd (omega arith)
  all-at (suc n) k e h = go (cmp k n) (λ l. all-at n k (and_left (all_of f n) (f n) e) l)
    where
      go : Cmp k n → (k < n → f k ≡ true) → f k ≡ true
      go (below l) rec = rec l
      go (equal l) rec = ap f l ∙ and_right (all_of f n) (f n) e
      go (above l) rec = absurd (omega arith)

  pub any-more : (n : ℕ) → any_of f n ≡ false → f n ≡ false → any_of f (n + 1) ≡ false
  unfolding any_of
  any-more n e q = ap (any_of f) (add-one n) ∙ rw (e, q)

  pub any-hit : (n k : ℕ) → k < n → f k ≡ true → any_of f n ≡ true
  unfolding any_of
  any-hit zero k h q = absurd (omega arith)
  any-hit (suc n) k h q = go (cmp k n) (λ l. any-hit n k l q)
    where
      one_more : (b : Bool) → (b || true) ≡ true
      one_more true = refl
      one_more false = refl

      go : Cmp k n → (k < n → any_of f n ≡ true) → (any_of f n || f n) ≡ true
      go (below l) rec = rw (rec l)
      go (equal l) rec = ap (λ (b : Bool). any_of f n || b) (ap f (sym l) ∙ q) ∙ one_more (any_of f n)
      go (above l) rec = absurd (omega arith)

  pub any-never : (n : ℕ) → ((k : ℕ) → k < n → f k ≡ false) → any_of f n ≡ false
  unfolding any_of
  any-never zero h = refl
  any-never (suc n) h = rw (any-never n (λ k l. h k (omega arith)), h n (omega arith))

  pub any_none : (n k : ℕ) → any_of f n ≡ false → k < n → f k ≡ false
  any_none n k e h = go (f k) refl
    where
      go : (b : Bool) → f k ≡ b → f k ≡ false
      go false q = q
      go true q = clash (any-hit n k h q) e

-- ===== Marking =====
pub marked-snoc : (ts : List ℕ) (t : ℕ) (ms : List ℕ) → marked (ts ++ (t ∷ [])) ms ≡ set (marked ts ms) t 1
marked-snoc [] t ms = refl
marked-snoc (u ∷ ts) t ms = marked-snoc ts t (set ms u 1)

-- ===== Binding =====
bind-last : (τ : Partial) (t u : ℕ) → bind_terms τ (t ∷ []) (u ∷ []) ≡ bind_term τ t u
unfolding bind_terms
bind-last τ t u = go (bind_term τ t u)
  where
    go : (o : Option Partial) → then_bind o (λ σ. some σ) ≡ o
    go none = refl
    go (some σ) = refl

bind-snoc : (τ : Partial) (ts us : List ℕ) (t u : ℕ) → length ts ≡ length us
    → bind_terms τ (ts ++ (t ∷ [])) (us ++ (u ∷ [])) ≡ then_bind (bind_terms τ ts us) (λ σ. bind_term σ t u)
unfolding bind_terms
bind-snoc τ [] [] t u e = bind-last τ t u
bind-snoc τ [] (w ∷ us) t u e = absurd (omega arith)
bind-snoc τ (v ∷ ts) [] t u e = absurd (omega arith)
bind-snoc τ (v ∷ ts) (w ∷ us) t u e = go (bind_term τ v w) (λ σ. bind-snoc σ ts us t u (omega arith))
  where
    go : (o : Option Partial) → ((σ : Partial) → bind_terms σ (ts ++ (t ∷ [])) (us ++ (u ∷ [])) ≡ then_bind (bind_terms σ ts us) (λ σ. bind_term σ t u))
        → then_bind o (λ σ. bind_terms σ (ts ++ (t ∷ [])) (us ++ (u ∷ []))) ≡ then_bind (then_bind o (λ σ. bind_terms σ ts us)) (λ σ. bind_term σ t u)
    go none rec = refl
    go (some σ) rec = rec σ

-- one place more
pub bind-along : (τ : Partial) (f g : ℕ → ℕ) (n : ℕ) → bind_terms τ (along f (suc n)) (along g (suc n)) ≡ then_bind (bind_terms τ (along f n) (along g n)) (λ σ. bind_term σ (f n) (g n))
bind-along τ f g n =
    ap₂ (bind_terms τ) (along-suc f n) (along-suc g n) ∙ bind-snoc τ (along f n) (along g n) (f n) (g n) (along-length f n ∙ sym (along-length g n))

-- what fails after some places fails after all
pub bind-fails : (τ : Partial) (f g : ℕ → ℕ) (n m : ℕ) → n ≤ m → bind_terms τ (along f n) (along g n) ≡ none → bind_terms τ (along f m) (along g m) ≡ none
bind-fails τ f g n zero h e = let z : n ≡ 0 = omega arith in subst (λ (i : ℕ). bind_terms τ (along f i) (along g i) ≡ none) z e
bind-fails τ f g n (suc m) h e = go (cmp n (suc m)) (λ l. bind-fails τ f g n m l e)
  where
    go : Cmp n (suc m) → (n ≤ m → bind_terms τ (along f m) (along g m) ≡ none) → bind_terms τ (along f (suc m)) (along g (suc m)) ≡ none
    go (below q) rec = bind-along τ f g m ∙ ap (λ o. then_bind o (λ σ. bind_term σ (f m) (g m))) (rec (omega arith))
    go (equal q) rec = subst (λ (i : ℕ). bind_terms τ (along f i) (along g i) ≡ none) q e
    go (above q) rec = absurd (omega arith)

-- ===== Unused places =====
bind-zero : (τ τ' : Partial) (t u : ℕ) → τ 0 ≡ some 0 → bind_term τ t u ≡ some τ' → τ' 0 ≡ some 0
unfolding bind_term assign
bind-zero τ τ' t u z e = go (τ t) refl e
  where
    fresh : τ t ≡ none → (b : Bool) → eqb 0 t ≡ b → cond (eqb 0 t) (some u) (τ 0) ≡ some 0
    fresh n true q = none-some 0 (sym n ∙ ap τ (sym (eqb-true 0 t q)) ∙ z)
    fresh n false q = rw q z

    same : (w : ℕ) (b : Bool) → cond b (some τ) none ≡ some τ' → τ' 0 ≡ some 0
    same w true q = let s : τ ≡ τ' = cc in ap (λ (f : Partial). f 0) (sym s) ∙ z
    same w false q = none-some τ' q

    go : (o : Option ℕ) → τ t ≡ o → agree τ t u o ≡ some τ' → τ' 0 ≡ some 0
    go none n q = let s : assign τ t u ≡ τ' = cc in ap (λ (f : Partial). f 0) (sym s) ∙ fresh n (eqb 0 t) refl
    go (some w) n q = same w (eqb w u) q

binds-zero : (τ : Partial) (f g : ℕ → ℕ) (n : ℕ) → τ 0 ≡ some 0 → (τ' : Partial) → bind_terms τ (along f n) (along g n) ≡ some τ' → τ' 0 ≡ some 0
unfolding bind_terms along
binds-zero τ f g zero z τ' e = let s : τ ≡ τ' = cc in ap (λ (h : Partial). h 0) (sym s) ∙ z
binds-zero τ f g (suc n) z τ' e = go (bind_terms τ (along f n) (along g n)) refl (sym (bind-along τ f g n) ∙ e) (binds-zero τ f g n z)
  where
    go : (o : Option Partial) → bind_terms τ (along f n) (along g n) ≡ o → then_bind o (λ σ. bind_term σ (f n) (g n)) ≡ some τ'
        → ((σ : Partial) → bind_terms τ (along f n) (along g n) ≡ some σ → σ 0 ≡ some 0) → τ' 0 ≡ some 0
    go none q w rec = none-some τ' w
    go (some σ) q w rec = bind-zero σ τ' (f n) (g n) (rec σ q) w

-- places that are 0 on both sides add nothing
pub bind-unused : (τ : Partial) (f g : ℕ → ℕ) (n m : ℕ) → n ≤ m → τ 0 ≡ some 0 → ((k : ℕ) → n ≤ k → k < m → f k ≡ 0) → ((k : ℕ) → n ≤ k → k < m → g k ≡ 0)
    → bind_terms τ (along f m) (along g m) ≡ bind_terms τ (along f n) (along g n)
bind-unused τ f g n zero h z p q = let e : 0 ≡ n = omega arith in ap (λ (i : ℕ). bind_terms τ (along f i) (along g i)) e
bind-unused τ f g n (suc m) h z p q =
    go (cmp n (suc m)) (λ l. bind-unused τ f g n m l z (λ k a b. p k a (omega arith)) (λ k a b. q k a (omega arith)))
  where
    keeps : (σ : Partial) → σ 0 ≡ some 0 → bind_term σ 0 0 ≡ some σ
    keeps σ y = unfold bind_term in (rw y)

    last : n ≤ m → (o : Option Partial) → bind_terms τ (along f m) (along g m) ≡ o → then_bind o (λ σ. bind_term σ (f m) (g m)) ≡ o
    last l none e = refl
    last l (some σ) e = ap₂ (bind_term σ) (p m l (omega arith)) (q m l (omega arith)) ∙ keeps σ (binds-zero τ f g m z σ e)

    go : Cmp n (suc m) → (n ≤ m → bind_terms τ (along f m) (along g m) ≡ bind_terms τ (along f n) (along g n))
        → bind_terms τ (along f (suc m)) (along g (suc m)) ≡ bind_terms τ (along f n) (along g n)
    go (below c) rec = bind-along τ f g m ∙ last (omega arith) (bind_terms τ (along f m) (along g m)) refl ∙ rec (omega arith)
    go (equal c) rec = ap (λ (i : ℕ). bind_terms τ (along f i) (along g i)) (sym c)
    go (above c) rec = absurd (omega arith)
