-- What the search allows is what is consistent, and the ways down a diagram are its paths that are allowed.
use Rattle.std.specs.Prelude.{◌≡◌, Bool, true, false, not, ◌&&◌, ◌||◌, cond, ℕ, zero, suc, ◌+◌, ◌*◌, ◌/◌, ◌%◌, ◌<◌, eqb}
use Rattle.std.proofs.Math.Path.{refl, sym}
use Rattle.std.proofs.Common.{ap, ap₂, ◌∙◌, arith, add-zero, eqb-true, eq-eqb, ne_eqb}
use mathlib.Core.List.{List, [], ◌∷◌, ◌++◌, map, append-nil}
use Rattle.std.proofs.Math.ListN.{length}
use Rattle.std.proofs.lemmas.List.{length-map}
use Rattle.std.proofs.lemmas.Bool.{eqb-false, not-true}
use Rattle.basics.specs.Tests.{Flag, is_true, is_false, flag, and_left, and_right, Either, one, other, either, or-one, or-other}
use Rattle.basics.specs.Members.{mem, clash, append-one, append-other, append_cases}
use Rattle.diagram.specs.Diagram.{Diagram, leaf, branch}
use Rattle.paths.specs.Paths.{Path, step_before, paths, literals}
use Rattle.paths.specs.Inner.{bit}
use Rattle.paths.specs.Routes.{step_on}
use Rattle.reduction.specs.Combinations.{some_of}
use Rattle.reduce.specs.Searching.{sign_of, pick_known, Way, ways}
use Rattle.reduce.specs.Facts.{code_of, codes_of, clashing, is_clear}

-- ===== Members =====
abbrev pub Within : List ℕ → List ℕ → Type 0
Within xs ys = (x : ℕ) → mem eqb x xs ≡ true → mem eqb x ys ≡ true

here : (x : ℕ) (xs : List ℕ) → mem eqb x (x ∷ xs) ≡ true
here x xs = or-one (eqb x x) (mem eqb x xs) (eq-eqb x x refl)

some-clash : (x : ℕ) (xs : List ℕ) (y : ℕ) → mem eqb y xs ≡ true → clashing x y ≡ true → some_of (clashing x) xs ≡ true
some-clash x [] y m e = clash m refl
some-clash x (z ∷ zs) y m e = go (either (eqb y z) (mem eqb y zs) m) (some-clash x zs y)
  where
    go : Either (eqb y z) (mem eqb y zs) → (mem eqb y zs ≡ true → clashing x y ≡ true → some_of (clashing x) zs ≡ true) → (clashing x z || some_of (clashing x) zs) ≡ true
    go (one q) ih = or-one _ _ (ap (clashing x) (sym (eqb-true y z q)) ∙ e)
    go (other q) ih = or-other (clashing x z) _ (ih q e)

clash-some : (x : ℕ) (xs : List ℕ) → some_of (clashing x) xs ≡ true → (y : ℕ) × (mem eqb y xs ≡ true) × (clashing x y ≡ true)
clash-some x [] e = clash e refl
clash-some x (z ∷ zs) e = go (either (clashing x z) (some_of (clashing x) zs) e) (clash-some x zs)
  where
    go : Either (clashing x z) (some_of (clashing x) zs) → (some_of (clashing x) zs ≡ true → (y : ℕ) × (mem eqb y zs ≡ true) × (clashing x y ≡ true))
        → (y : ℕ) × (mem eqb y (z ∷ zs) ≡ true) × (clashing x y ≡ true)
    go (one q) ih = (z, here z zs, q)
    go (other q) ih = let r = ih q in (r.0, or-other (eqb r.0 z) _ r.1, r.2)

clash-flip : (x y : ℕ) → clashing x y ≡ true → clashing y x ≡ true
unfolding clashing
clash-flip x y e =
    let a = eqb-true (x / 2) (y / 2) (and_left _ _ e) in
    let b = eqb-false x y (not-true (eqb x y) (and_right (eqb (x / 2) (y / 2)) _ e)) in
    rw (eq-eqb (y / 2) (x / 2) (sym a), ne_eqb y x (λ z. b (sym z)))

clash-self : (x : ℕ) → clashing x x ≡ false
unfolding clashing
clash-self x = rw (eq-eqb x x refl, eq-eqb (x / 2) (x / 2) refl)

-- no two members clash
abbrev pub Quiet : List ℕ → Type 0
Quiet xs = (x y : ℕ) → mem eqb x xs ≡ true → mem eqb y xs ≡ true → clashing x y ≡ true → ⊥

pub clear-quiet : (xs : List ℕ) → is_clear xs ≡ true → Quiet xs
unfolding is_clear
clear-quiet [] e x y m n c = clash m refl
clear-quiet (z ∷ zs) e x y m n c = go (either (eqb x z) _ m) (either (eqb y z) _ n) (clear-quiet zs (and_right (not (some_of (clashing z) zs)) _ e))
  where
    none : (w : ℕ) → mem eqb w zs ≡ true → clashing z w ≡ true → ⊥
    none w i k = clash (some-clash z zs w i k) (not-true (some_of (clashing z) zs) (and_left (not (some_of (clashing z) zs)) _ e))

    go : Either (eqb x z) (mem eqb x zs) → Either (eqb y z) (mem eqb y zs) → Quiet zs → ⊥
    go (one p) (one q) ih = clash (ap₂ clashing (sym (eqb-true x z p ∙ sym (eqb-true y z q))) refl ∙ c) (clash-self y)
    go (one p) (other q) ih = none y q (ap (λ (w : ℕ). clashing w y) (sym (eqb-true x z p)) ∙ c)
    go (other p) (one q) ih = none x p (ap (λ (w : ℕ). clashing w x) (sym (eqb-true y z q)) ∙ clash-flip x y c)
    go (other p) (other q) ih = ih x y p q c

pub quiet-clear : (xs : List ℕ) → Quiet xs → is_clear xs ≡ true
unfolding is_clear
quiet-clear [] q = refl
quiet-clear (z ∷ zs) q = go (flag (some_of (clashing z) zs)) (quiet-clear zs (λ x y m n. q x y (or-other (eqb x z) _ m) (or-other (eqb y z) _ n)))
  where
    go : Flag (some_of (clashing z) zs) → is_clear zs ≡ true → (not (some_of (clashing z) zs) && is_clear zs) ≡ true
    go (is_true e) r = let c = clash-some z zs e in absurd (q z c.0 (here z zs) (or-other (eqb c.0 z) _ c.1) c.2)
    go (is_false e) r = rw (e, r)

-- clear is about members only
pub clear_within : (xs ys : List ℕ) → Within xs ys → is_clear ys ≡ true → is_clear xs ≡ true
clear_within xs ys w e = quiet-clear xs (λ x y m n. clear-quiet ys e x y (w x m) (w y n))

pub clear-same : (xs ys : List ℕ) → Within xs ys → Within ys xs → is_clear xs ≡ is_clear ys
clear-same xs ys v w = go (flag (is_clear xs)) (flag (is_clear ys))
  where
    go : Flag (is_clear xs) → Flag (is_clear ys) → is_clear xs ≡ is_clear ys
    go (is_true e) (is_true f) = e ∙ sym f
    go (is_true e) (is_false f) = clash (clear_within ys xs w e) f
    go (is_false e) (is_true f) = clash (clear_within xs ys v f) e
    go (is_false e) (is_false f) = e ∙ sym f

-- ===== What is known =====
sign-cons : (x : ℕ) (xs : List ℕ) (f : ℕ) → sign_of (x ∷ xs) f ≡ cond (eqb (x / 2) f) (x % 2) (sign_of xs f)
unfolding sign_of
sign-cons x xs f = refl

-- nothing is known of a fact
pub sign-unknown : (xs : List ℕ) (f s : ℕ) → sign_of xs f ≡ suc (suc s) → (x : ℕ) → mem eqb x xs ≡ true → x / 2 ≡ f → ⊥
sign-unknown [] f s e x m h = clash m refl
sign-unknown (y ∷ ys) f s e x m h = go (flag (eqb (y / 2) f)) (either (eqb x y) _ m) (sign-unknown ys f s)
  where
    go : Flag (eqb (y / 2) f) → Either (eqb x y) (mem eqb x ys) → (sign_of ys f ≡ suc (suc s) → (x : ℕ) → mem eqb x ys ≡ true → x / 2 ≡ f → ⊥) → ⊥
    go (is_true q) i ih = let z : y % 2 ≡ suc (suc s) = sym (sign-cons y ys f ∙ rw q) ∙ e in omega arith
    go (is_false q) (one p) ih = eqb-false (y / 2) f q (ap (λ (w : ℕ). w / 2) (sym (eqb-true x y p)) ∙ h)
    go (is_false q) (other p) ih = ih (sym (sign-cons y ys f ∙ rw q) ∙ e) x p h

-- a known fact is there with its sign
pub sign-known : (xs : List ℕ) (f s : ℕ) → sign_of xs f ≡ s → s < 2 → mem eqb (f * 2 + s) xs ≡ true
sign-known [] f s e h = absurd (let z : 2 ≡ s = (unfold sign_of in e) in omega arith)
sign-known (y ∷ ys) f s e h = go (flag (eqb (y / 2) f)) (sign-known ys f s)
  where
    go : Flag (eqb (y / 2) f) → (sign_of ys f ≡ s → s < 2 → mem eqb (f * 2 + s) ys ≡ true) → mem eqb (f * 2 + s) (y ∷ ys) ≡ true
    go (is_true q) ih =
        let z : y % 2 ≡ s = sym (sign-cons y ys f ∙ rw q) ∙ e in
        let w = eqb-true (y / 2) f q in
        or-one (eqb (f * 2 + s) y) (mem eqb (f * 2 + s) ys) (eq-eqb (f * 2 + s) y (omega arith))
    go (is_false q) ih = or-other (eqb (f * 2 + s) y) _ (ih (sym (sign-cons y ys f ∙ rw q) ∙ e) h)

-- ===== Literals taken one after another =====
-- whether literals may be added to what is known, and what is known then
unfoldable pub allowed : List ℕ → List ℕ → Bool
allowed [] known = true
allowed (c ∷ cs) known =
    pick_known (sign_of known (c / 2)) (cond (eqb (c % 2) 0) (allowed cs known) false) (cond (eqb (c % 2) 0) false (allowed cs known)) (allowed cs (c ∷ known))

unfoldable pub learnt : List ℕ → List ℕ → List ℕ
learnt [] known = known
learnt (c ∷ cs) known = pick_known (sign_of known (c / 2)) (learnt cs known) (learnt cs known) (learnt cs (c ∷ known))

-- one that is there already
more_within : (c : ℕ) (xs : List ℕ) → mem eqb c xs ≡ true → Within (c ∷ xs) xs
more_within c xs m x n = go (either (eqb x c) (mem eqb x xs) n)
  where
    go : Either (eqb x c) (mem eqb x xs) → mem eqb x xs ≡ true
    go (one e) = ap (λ (y : ℕ). mem eqb y xs) (eqb-true x c e) ∙ m
    go (other e) = e

within_more : (c : ℕ) (xs : List ℕ) → Within xs (c ∷ xs)
within_more c xs x n = or-other (eqb x c) (mem eqb x xs) n

-- one in the middle
middle-front : (c : ℕ) (xs ys : List ℕ) → Within (xs ++ (c ∷ ys)) (c ∷ (xs ++ ys))
middle-front c xs ys x n = go (append_cases eqb x xs (c ∷ ys) n)
  where
    last : Either (eqb x c) (mem eqb x ys) → mem eqb x (c ∷ (xs ++ ys)) ≡ true
    last (one e) = or-one (eqb x c) (mem eqb x (xs ++ ys)) e
    last (other e) = or-other (eqb x c) _ (append-other eqb x xs ys e)

    go : Either (mem eqb x xs) (mem eqb x (c ∷ ys)) → mem eqb x (c ∷ (xs ++ ys)) ≡ true
    go (one e) = or-other (eqb x c) _ (append-one eqb x xs ys e)
    go (other e) = last (either (eqb x c) (mem eqb x ys) e)

front-middle : (c : ℕ) (xs ys : List ℕ) → Within (c ∷ (xs ++ ys)) (xs ++ (c ∷ ys))
front-middle c xs ys x n = go (either (eqb x c) (mem eqb x (xs ++ ys)) n)
  where
    rest : Either (mem eqb x xs) (mem eqb x ys) → mem eqb x (xs ++ (c ∷ ys)) ≡ true
    rest (one e) = append-one eqb x xs (c ∷ ys) e
    rest (other e) = append-other eqb x xs (c ∷ ys) (or-other (eqb x c) _ e)

    go : Either (eqb x c) (mem eqb x (xs ++ ys)) → mem eqb x (xs ++ (c ∷ ys)) ≡ true
    go (one e) = append-other eqb x xs (c ∷ ys) (or-one (eqb x c) (mem eqb x ys) e)
    go (other e) = rest (append_cases eqb x xs ys e)

-- the literals are allowed if no fact is both true and false then, and what is known then are both
pub record Allowed (cs known : List ℕ) : Type 0 where
  pub test : allowed cs known ≡ is_clear (cs ++ known)
  pub learns : allowed cs known ≡ true → Within (learnt cs known) (cs ++ known)
  pub keeps : allowed cs known ≡ true → Within (cs ++ known) (learnt cs known)

-- a literal that is known, or against what is known
opposite : (c s : ℕ) (xs : List ℕ) → mem eqb (c / 2 * 2 + s) xs ≡ true → (c % 2 ≡ s → ⊥) → s < 2 → is_clear (c ∷ xs) ≡ false
unfolding clashing
opposite c s xs m n h = go (flag (is_clear (c ∷ xs)))
  where
    against : clashing c (c / 2 * 2 + s) ≡ true
    against = rw (eq-eqb (c / 2) ((c / 2 * 2 + s) / 2) (omega arith), ne_eqb c (c / 2 * 2 + s) (λ z. n (omega arith)))

    go : Flag (is_clear (c ∷ xs)) → is_clear (c ∷ xs) ≡ false
    go (is_true e) = absurd (clear-quiet (c ∷ xs) e c (c / 2 * 2 + s) (here c xs) (or-other (eqb (c / 2 * 2 + s) c) _ m) against)
    go (is_false e) = e

halves : (a b : ℕ) → clashing a b ≡ true → a / 2 ≡ b / 2
unfolding clashing
halves a b z = eqb-true (a / 2) (b / 2) (and_left _ _ z)

quiet-more : (c s : ℕ) (xs : List ℕ) → sign_of xs (c / 2) ≡ suc (suc s) → Quiet xs → Quiet (c ∷ xs)
quiet-more c s xs e q x y m n k = go (either (eqb x c) _ m) (either (eqb y c) _ n)
  where
    go : Either (eqb x c) (mem eqb x xs) → Either (eqb y c) (mem eqb y xs) → ⊥
    go (one p) (one r) = clash (ap (λ (w : ℕ). clashing w y) (eqb-true y c r ∙ sym (eqb-true x c p)) ∙ k) (clash-self y)
    go (one p) (other r) = sign-unknown xs (c / 2) s e y r (sym (halves x y k) ∙ ap (λ (w : ℕ). w / 2) (eqb-true x c p))
    go (other p) (one r) = sign-unknown xs (c / 2) s e x p (halves x y k ∙ ap (λ (w : ℕ). w / 2) (eqb-true y c r))
    go (other p) (other r) = q x y p r k

allowed-cons : (c : ℕ) (cs known : List ℕ) → allowed (c ∷ cs) known
    ≡ pick_known (sign_of known (c / 2)) (cond (eqb (c % 2) 0) (allowed cs known) false) (cond (eqb (c % 2) 0) false (allowed cs known)) (allowed cs (c ∷ known))
unfolding allowed
allowed-cons c cs known = refl

learnt-cons : (c : ℕ) (cs known : List ℕ) → learnt (c ∷ cs) known ≡ pick_known (sign_of known (c / 2)) (learnt cs known) (learnt cs known) (learnt cs (c ∷ known))
unfolding learnt
learnt-cons c cs known = refl

allowed-none : (known : List ℕ) → allowed [] known ≡ true
unfolding allowed
allowed-none known = refl

learnt-none : (known : List ℕ) → learnt [] known ≡ known
unfolding learnt
learnt-none known = refl

pub all-allowed : (cs known : List ℕ) → Quiet known → Allowed cs known
all-allowed [] known q = record {
  test = allowed-none known ∙ sym (quiet-clear known q);
  learns = λ z x m. ap (mem eqb x) (sym (learnt-none known)) ∙ m;
  keeps = λ z x m. ap (mem eqb x) (learnt-none known) ∙ m;
}
all-allowed (c ∷ cs) known q = go (sign_of known (c / 2)) refl (all-allowed cs known q) (all-allowed cs (c ∷ known))
  where
    allowed-is : allowed (c ∷ cs) known ≡ pick_known (sign_of known (c / 2)) (cond (eqb (c % 2) 0) (allowed cs known) false) (cond (eqb (c % 2) 0) false (allowed cs known)) (allowed cs (c ∷ known))
    allowed-is = allowed-cons c cs known

    learnt_is : learnt (c ∷ cs) known ≡ pick_known (sign_of known (c / 2)) (learnt cs known) (learnt cs known) (learnt cs (c ∷ known))
    learnt_is = learnt-cons c cs known

    -- it is known already
    old : (s : ℕ) → sign_of known (c / 2) ≡ s → s < 2 → c % 2 ≡ s → allowed (c ∷ cs) known ≡ allowed cs known → learnt (c ∷ cs) known ≡ learnt cs known → Allowed cs known → Allowed (c ∷ cs) known
    old s e h z a l ih =
        let m : mem eqb c known ≡ true = ap (λ (y : ℕ). mem eqb y known) (let w : c ≡ c / 2 * 2 + s = omega arith in w) ∙ sign-known known (c / 2) s e h in
        let n : mem eqb c (cs ++ known) ≡ true = append-other eqb c cs known m in
        record {
          test = a ∙ ih.test ∙ clear-same (cs ++ known) (c ∷ (cs ++ known)) (within_more c (cs ++ known)) (more_within c (cs ++ known) n);
          learns = λ t x i. within_more c (cs ++ known) x (ih.learns (sym a ∙ t) x (ap (mem eqb x) (sym l) ∙ i));
          keeps = λ t x i. ap (mem eqb x) l ∙ ih.keeps (sym a ∙ t) x (more_within c (cs ++ known) n x i);
        }

    -- it is against what is known
    bad : (s : ℕ) → sign_of known (c / 2) ≡ s → s < 2 → (c % 2 ≡ s → ⊥) → allowed (c ∷ cs) known ≡ false → Allowed (c ∷ cs) known
    bad s e h z a = record {
      test = a ∙ sym (opposite c s (cs ++ known) (append-other eqb (c / 2 * 2 + s) cs known (sign-known known (c / 2) s e h)) z h);
      learns = λ t. clash t a;
      keeps = λ t. clash t a;
    }

    -- nothing is known of it
    new : (s : ℕ) → sign_of known (c / 2) ≡ suc (suc s) → Allowed cs (c ∷ known) → Allowed (c ∷ cs) known
    new s e ih =
        let a : allowed (c ∷ cs) known ≡ allowed cs (c ∷ known) = allowed-is ∙ rw e in
        let l : learnt (c ∷ cs) known ≡ learnt cs (c ∷ known) = learnt_is ∙ rw e in
        record {
          test = a ∙ ih.test ∙ clear-same (cs ++ (c ∷ known)) (c ∷ (cs ++ known)) (middle-front c cs known) (front-middle c cs known);
          learns = λ t x i. middle-front c cs known x (ih.learns (sym a ∙ t) x (ap (mem eqb x) (sym l) ∙ i));
          keeps = λ t x i. ap (mem eqb x) l ∙ ih.keeps (sym a ∙ t) x (front-middle c cs known x i);
        }

    go : (s : ℕ) → sign_of known (c / 2) ≡ s → Allowed cs known → (Quiet (c ∷ known) → Allowed cs (c ∷ known)) → Allowed (c ∷ cs) known
    go zero e ih next = by (flag (eqb (c % 2) 0))
      where
        by : Flag (eqb (c % 2) 0) → Allowed (c ∷ cs) known
        by (is_true z) = old 0 e (omega arith) (eqb-true (c % 2) 0 z) (allowed-is ∙ rw (e, z)) (learnt_is ∙ rw e) ih
        by (is_false z) = bad 0 e (omega arith) (eqb-false (c % 2) 0 z) (allowed-is ∙ rw (e, z))
    go (suc zero) e ih next = by (flag (eqb (c % 2) 0))
      where
        by : Flag (eqb (c % 2) 0) → Allowed (c ∷ cs) known
        by (is_true z) = let y = eqb-true (c % 2) 0 z in bad 1 e (omega arith) (λ w. omega arith) (allowed-is ∙ rw (e, z))
        by (is_false z) = let y = eqb-false (c % 2) 0 z in old 1 e (omega arith) (omega arith) (allowed-is ∙ rw (e, z)) (learnt_is ∙ rw e) ih
    go (suc (suc s)) e ih next = new s e (next (quiet-more c s known e q))

-- ===== The ways down a diagram =====
-- the paths, by their literals, that are allowed
abbrev pub ways_over : List (List ℕ) → List ℕ → ℕ → List Way
ways_over [] known k = []
ways_over (cs ∷ css) known k = cond (allowed cs known) (record { known = learnt cs known; path = k } ∷ ways_over css known (suc k)) (ways_over css known (suc k))

over-append : (ds bs : List (List ℕ)) (known : List ℕ) (k : ℕ) → ways_over (ds ++ bs) known k ≡ ways_over ds known k ++ ways_over bs known (k + length ds)
over-append [] bs known k = ap (ways_over bs known) (sym (add-zero k))
over-append (a ∷ ds) bs known k = go (allowed a known)
    (over-append ds bs known (suc k) ∙ ap (λ (j : ℕ). ways_over ds known (suc k) ++ ways_over bs known j) (let e : suc k + length ds ≡ k + suc (length ds) = omega arith in e))
  where
    go : (b : Bool) → ways_over (ds ++ bs) known (suc k) ≡ ways_over ds known (suc k) ++ ways_over bs known (k + suc (length ds))
        → cond b (record { known = learnt a known; path = k } ∷ ways_over (ds ++ bs) known (suc k)) (ways_over (ds ++ bs) known (suc k))
        ≡ cond b (record { known = learnt a known; path = k } ∷ ways_over ds known (suc k)) (ways_over ds known (suc k)) ++ ways_over bs known (k + suc (length ds))
    go true ih = ap (λ (l : List Way). record { known = learnt a known; path = k } ∷ l) ih
    go false ih = ih

-- a first literal before all of them
module _ (c : ℕ) (known : List ℕ) where
  over-true : (css : List (List ℕ)) (k : ℕ) → ((cs : List ℕ) → allowed (c ∷ cs) known ≡ allowed cs known) → ((cs : List ℕ) → learnt (c ∷ cs) known ≡ learnt cs known)
      → ways_over (map (λ cs. c ∷ cs) css) known k ≡ ways_over css known k
  over-true [] k a l = refl
  over-true (cs ∷ css) k a l =
      let ih = over-true css (suc k) a l in
      λ i. cond (a cs i) (record { known = l cs i; path = k } ∷ ih i) (ih i)

  over_false : (css : List (List ℕ)) (k : ℕ) → ((cs : List ℕ) → allowed (c ∷ cs) known ≡ false) → ways_over (map (λ cs. c ∷ cs) css) known k ≡ []
  over_false [] k a = refl
  over_false (cs ∷ css) k a = rw (a cs) (over_false css (suc k) a)

  over-new : (css : List (List ℕ)) (k : ℕ) → ((cs : List ℕ) → allowed (c ∷ cs) known ≡ allowed cs (c ∷ known)) → ((cs : List ℕ) → learnt (c ∷ cs) known ≡ learnt cs (c ∷ known))
      → ways_over (map (λ cs. c ∷ cs) css) known k ≡ ways_over css (c ∷ known) k
  over-new [] k a l = refl
  over-new (cs ∷ css) k a l =
      let ih = over-new css (suc k) a l in
      λ i. cond (a cs i) (record { known = l cs i; path = k } ∷ ih i) (ih i)

module _ (fact : ℕ → ℕ) where
  codes-before : (b : Bool) (l : ℕ) (t f : Diagram) (p : Path) → codes_of fact (step_before (step_on b l t f) p) ≡ (fact l * 2 + bit b) ∷ codes_of fact p
  unfolding codes_of literals step_before code_of
  codes-before b l t f p = refl

  codes-map : (b : Bool) (l : ℕ) (t f : Diagram) (ps : List Path)
      → map (codes_of fact) (map (step_before (step_on b l t f)) ps) ≡ map (λ cs. (fact l * 2 + bit b) ∷ cs) (map (codes_of fact) ps)
  codes-map b l t f [] = refl
  codes-map b l t f (p ∷ ps) = ap₂ ◌∷◌ (codes-before b l t f p) (codes-map b l t f ps)

  map-append : (ds bs : List Path) → map (codes_of fact) (ds ++ bs) ≡ map (codes_of fact) ds ++ map (codes_of fact) bs
  map-append [] bs = refl
  map-append (a ∷ ds) bs = ap (λ (l : List (List ℕ)). codes_of fact a ∷ l) (map-append ds bs)

  -- the ways are the paths that are allowed
  pub ways-over : (x : Diagram) (known : List ℕ) (k : ℕ) → ways fact x known k ≡ ways_over (map (codes_of fact) (paths x)) known k
  unfolding ways paths
  ways-over (leaf v) known k = (unfold codes_of literals allowed learnt in refl)
  ways-over (branch l t f) known k = go (sign_of known (fact l)) refl (ways-over t) (ways-over f) ∙ sym both
    where
      ct : List (List ℕ)
      ct = map (codes_of fact) (paths t)

      cf : List (List ℕ)
      cf = map (codes_of fact) (paths f)

      hi : ℕ
      hi = fact l * 2 + 1

      lo : ℕ
      lo = fact l * 2 + 0

      both : ways_over (map (codes_of fact) (paths (branch l t f))) known k
          ≡ ways_over (map (λ cs. hi ∷ cs) ct) known k ++ ways_over (map (λ cs. lo ∷ cs) cf) known (k + length (paths t))
      both =
          ap (λ (css : List (List ℕ)). ways_over css known k)
          (map-append (map (step_before (step_on true l t f)) (paths t)) (map (step_before (step_on false l t f)) (paths f))
          ∙ ap₂ ◌++◌ (codes-map true l t f (paths t)) (codes-map false l t f (paths f)))
          ∙ over-append (map (λ cs. hi ∷ cs) ct) (map (λ cs. lo ∷ cs) cf) known k
          ∙ ap (λ (n : ℕ). ways_over (map (λ cs. hi ∷ cs) ct) known k ++ ways_over (map (λ cs. lo ∷ cs) cf) known (k + n))
          (length-map ct (λ cs. hi ∷ cs) ∙ length-map (paths t) (codes_of fact))

      hi-half : hi / 2 ≡ fact l
      hi-half = omega arith

      lo-half : lo / 2 ≡ fact l
      lo-half = omega arith

      hi-odd : eqb (hi % 2) 0 ≡ false
      hi-odd = ne_eqb (hi % 2) 0 (λ z. omega arith)

      lo-even : eqb (lo % 2) 0 ≡ true
      lo-even = eq-eqb (lo % 2) 0 (omega arith)

      go : (s : ℕ) → sign_of known (fact l) ≡ s
          → ((known : List ℕ) (k : ℕ) → ways fact t known k ≡ ways_over ct known k) → ((known : List ℕ) (k : ℕ) → ways fact f known k ≡ ways_over cf known k)
          → pick_known (sign_of known (fact l)) (ways fact f known (k + length (paths t))) (ways fact t known k)
          (ways fact t ((fact l * 2 + 1) ∷ known) k ++ ways fact f ((fact l * 2) ∷ known) (k + length (paths t)))
          ≡ ways_over (map (λ cs. hi ∷ cs) ct) known k ++ ways_over (map (λ cs. lo ∷ cs) cf) known (k + length (paths t))
      go zero e on-high on-low =
          rw e (on-low known (k + length (paths t))
          ∙ sym (ap₂ ◌++◌
          (over_false hi known ct k (λ cs. (unfold allowed in (rw (hi-half, e, hi-odd)))))
          (over-true lo known cf (k + length (paths t)) (λ cs. (unfold allowed in (rw (lo-half, e, lo-even)))) (λ cs. (unfold learnt in (rw (lo-half, e)))))))
      go (suc zero) e on-high on-low =
          rw e (on-high known k
          ∙ sym (ap₂ ◌++◌
          (over-true hi known ct k (λ cs. (unfold allowed in (rw (hi-half, e, hi-odd)))) (λ cs. (unfold learnt in (rw (hi-half, e)))))
          (over_false lo known cf (k + length (paths t)) (λ cs. (unfold allowed in (rw (lo-half, e, lo-even))))) ∙ append-nil (ways_over ct known k)))
      go (suc (suc s)) e on-high on-low =
          rw e (ap₂ ◌++◌ (on-high (hi ∷ known) k) (ap (λ (c : ℕ). ways fact f (c ∷ known) (k + length (paths t))) (sym (add-zero (fact l * 2))) ∙ on-low (lo ∷ known) (k + length (paths t)))
          ∙ sym (ap₂ ◌++◌
          (over-new hi known ct k (λ cs. (unfold allowed in (rw (hi-half, e)))) (λ cs. (unfold learnt in (rw (hi-half, e)))))
          (over-new lo known cf (k + length (paths t)) (λ cs. (unfold allowed in (rw (lo-half, e)))) (λ cs. (unfold learnt in (rw (lo-half, e)))))))

pub append-within : (xs ys zs : List ℕ) → Within ys zs → Within (xs ++ ys) (xs ++ zs)
append-within xs ys zs w x m = go (append_cases eqb x xs ys m)
  where
    go : Either (mem eqb x xs) (mem eqb x ys) → mem eqb x (xs ++ zs) ≡ true
    go (one e) = append-one eqb x xs zs e
    go (other e) = append-other eqb x xs zs (w x e)
