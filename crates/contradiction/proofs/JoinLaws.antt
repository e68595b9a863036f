-- Terms have one representative exactly if the true equalities join them.
use Rattle.std.specs.Prelude.{◌≡◌, refl, Bool, true, false, ◌&&◌, cond, ℕ, ◌<◌, eqb}
use Rattle.std.proofs.Common.{sym, ap, subst, ◌∙◌, eqb-true, eq-eqb}
use mathlib.Core.List.{List, [], ◌∷◌, Memᴰ}
use Rattle.basics.specs.Tests.{Flag, is_true, is_false, flag}
use Rattle.label.specs.Limits.{equality, term_base, term_end}
use Rattle.label.specs.Labels.{predicate_of, is_label}
use Rattle.label.proofs.ArityLaws.{terms-below, terms-end}
use Rattle.paths.specs.Paths.{Literal}
use Rattle.contradiction.specs.Contradiction.{literal_terms, Equates, Joined, named, itself, turned, along, joining, join_terms, join_literal, representative}

-- a literal joins two terms, or leaves the representatives as they are
pub data Joins (ar : List ℕ) (l : Literal) : Type 0 where
  joins : (t u : ℕ) → l.sign ≡ true → Equates ar l t u → ((r : ℕ → ℕ) (x : ℕ) → join_literal ar l r x ≡ joining t u r x) → Joins ar l
  leaves : ((r : ℕ → ℕ) (x : ℕ) → join_literal ar l r x ≡ r x) → Joins ar l

-- by its sign, its predicate and its terms
literal-is : (ar : List ℕ) (l : Literal) (b : Bool) (ts : List ℕ) → (l.sign && eqb (predicate_of l.label) equality) ≡ b → literal_terms ar l ≡ ts
    → (r : ℕ → ℕ) (x : ℕ) → join_literal ar l r x ≡ cond b (join_terms ts r x) (r x)
unfolding join_literal
literal-is ar l b ts e f r x =
    ap (λ (c : Bool). cond c (join_terms (literal_terms ar l) r x) (r x)) e ∙ ap (λ (us : List ℕ). cond b (join_terms us r x) (r x)) f

pub literal-names : (ar : List ℕ) (l : Literal) (t u : ℕ) → l.sign ≡ true → Equates ar l t u → (r : ℕ → ℕ) (x : ℕ) → join_literal ar l r x ≡ joining t u r x
literal-names ar l t u s n = literal-is ar l true (t ∷ u ∷ []) (rw (s, n.equates)) n.terms

pub literal-stays : (ar : List ℕ) (l : Literal) → (l.sign && eqb (predicate_of l.label) equality) ≡ false → (r : ℕ → ℕ) (x : ℕ) → join_literal ar l r x ≡ r x
literal-stays ar l e = literal-is ar l false (literal_terms ar l) e refl

pub joins-is : (ar : List ℕ) (l : Literal) → Joins ar l
joins-is ar l = go (flag l.sign) (flag (eqb (predicate_of l.label) equality)) (literal_terms ar l) refl
  where
    go : Flag l.sign → Flag (eqb (predicate_of l.label) equality) → (ts : List ℕ) → literal_terms ar l ≡ ts → Joins ar l
    go (is_false s) q ts e = leaves (literal-stays ar l (rw s))
    go (is_true s) (is_false q) ts e = leaves (literal-stays ar l (rw (s, q)))
    go (is_true s) (is_true q) [] e = leaves (literal-is ar l true [] (rw (s, q)) e)
    go (is_true s) (is_true q) (t ∷ []) e = leaves (literal-is ar l true (t ∷ []) (rw (s, q)) e)
    go (is_true s) (is_true q) (t ∷ u ∷ []) e =
        let n : Equates ar l t u = record { equates = eqb-true _ _ q; terms = e } in joins t u s n (literal-names ar l t u s n)
    go (is_true s) (is_true q) (t ∷ u ∷ v ∷ ts) e = leaves (literal-is ar l true (t ∷ u ∷ v ∷ ts) (rw (s, q)) e)

joining-here : (t u : ℕ) (r : ℕ → ℕ) (x : ℕ) → r x ≡ r t → joining t u r x ≡ r u
unfolding joining
joining-here t u r x e = rw (eq-eqb (r x) (r t) e)

joining-other : (t u : ℕ) (r : ℕ → ℕ) (x : ℕ) → eqb (r x) (r t) ≡ false → joining t u r x ≡ r x
unfolding joining
joining-other t u r x e = rw e

joining-same : (t u : ℕ) (r : ℕ → ℕ) (x y : ℕ) → r x ≡ r y → joining t u r x ≡ joining t u r y
unfolding joining
joining-same t u r x y e = ap (λ (z : ℕ). cond (eqb z (r t)) (r u) z) e

pub representative-more : (ar : List ℕ) (l : Literal) (ls : List Literal) (x : ℕ) → representative ar (l ∷ ls) x ≡ join_literal ar l (representative ar ls) x
unfolding representative
representative-more ar l ls x = refl

-- ===== No others =====

-- literals more
wider : {ar : List ℕ} {ls : List Literal} {t u : ℕ} (l : Literal) → Joined ar ls t u → Joined ar (l ∷ ls) t u
wider l (named k m s n) = named k (Memᴰ.tail m) s n
wider l itself = itself
wider l (turned j) = turned (wider l j)
wider l (along j k) = along (wider l j) (wider l k)

to : {ar : List ℕ} {ls : List Literal} {t u v : ℕ} → Joined ar ls t u → u ≡ v → Joined ar ls t v
to {ar} {ls} {t} j e = subst (Joined ar ls t) e j

-- a term is joined with its representative
pub with-representative : (ar : List ℕ) (ls : List Literal) (x : ℕ) → Joined ar ls x (representative ar ls x)
with-representative ar [] x = to itself (unfold representative in refl)
with-representative ar (l ∷ ls) x = to (go (joins-is ar l) (with-representative ar ls)) (sym (representative-more ar l ls x))
  where
    r : ℕ → ℕ
    r = representative ar ls

    go : Joins ar l → ((y : ℕ) → Joined ar ls y (r y)) → Joined ar (l ∷ ls) x (join_literal ar l r x)
    go (leaves e) j = to (wider l (j x)) (sym (e r x))
    go (joins t u s n e) j = at (flag (eqb (r x) (r t)))
      where
        at : Flag (eqb (r x) (r t)) → Joined ar (l ∷ ls) x (join_literal ar l r x)
        at (is_false q) = to (wider l (j x)) (sym (e r x ∙ joining-other t u r x q))
        at (is_true q) =
            let p : r x ≡ r t = eqb-true (r x) (r t) q in
            to (along (to (wider l (j x)) p) (along (turned (wider l (j t))) (along (named l (Memᴰ.head refl) s n) (wider l (j u)))))
            (sym (e r x ∙ joining-here t u r x p))

pub one-joined : (ar : List ℕ) (ls : List Literal) (t u : ℕ) → representative ar ls t ≡ representative ar ls u → Joined ar ls t u
one-joined ar ls t u e = along (to (with-representative ar ls t) e) (turned (with-representative ar ls u))

-- ===== All of them =====

same_more : (ar : List ℕ) (l : Literal) (r : ℕ → ℕ) (x y : ℕ) → r x ≡ r y → join_literal ar l r x ≡ join_literal ar l r y
same_more ar l r x y e = go (joins-is ar l)
  where
    go : Joins ar l → join_literal ar l r x ≡ join_literal ar l r y
    go (leaves q) = q r x ∙ e ∙ sym (q r y)
    go (joins t u s n q) = q r x ∙ joining-same t u r x y e ∙ sym (q r y)

both-joined : (t u : ℕ) (r : ℕ → ℕ) → joining t u r t ≡ joining t u r u
both-joined t u r = joining-here t u r t refl ∙ sym (go (flag (eqb (r u) (r t))))
  where
    go : Flag (eqb (r u) (r t)) → joining t u r u ≡ r u
    go (is_true q) = joining-here t u r u (eqb-true (r u) (r t) q)
    go (is_false q) = joining-other t u r u q

pub named-one : (ar : List ℕ) (ls : List Literal) (l : Literal) (t u : ℕ) → Memᴰ l ls → l.sign ≡ true → Equates ar l t u
    → representative ar ls t ≡ representative ar ls u
named-one ar [] l t u x3 s n = elim x3 [ ]
named-one ar (k ∷ ls) l t u (Memᴰ.head e) s n =
    let q = literal-names ar k t u (sym (ap (λ (m : Literal). m.sign) e) ∙ s) (subst (λ (m : Literal). Equates ar m t u) e n) (representative ar ls) in
    representative-more ar k ls t ∙ q t ∙ both-joined t u (representative ar ls) ∙ sym (q u) ∙ sym (representative-more ar k ls u)
named-one ar (k ∷ ls) l t u (Memᴰ.tail m) s n =
    representative-more ar k ls t ∙ same_more ar k (representative ar ls) t u (named-one ar ls l t u m s n) ∙ sym (representative-more ar k ls u)

pub joined-one : {ar : List ℕ} {ls : List Literal} {t u : ℕ} → Joined ar ls t u → representative ar ls t ≡ representative ar ls u
joined-one {ar} {ls} (named {t = t} {u = u} l m s n) = named-one ar ls l t u m s n
joined-one itself = refl
joined-one (turned j) = sym (joined-one j)
joined-one (along j k) = joined-one j ∙ joined-one k

-- ===== Representatives are as small as terms =====

-- every term of the literals is below n
pub record TermsBelow (n : ℕ) (ar : List ℕ) (ls : List Literal) : Type 0 where
  pub each : (l : Literal) → Memᴰ l ls → (t : ℕ) → Memᴰ t (literal_terms ar l) → t < n

-- below the base of the packing they all are, and below the end of the terms if the literals have labels
pub terms-base : (ar : List ℕ) (ls : List Literal) → TermsBelow term_base ar ls
terms-base ar ls = record { each = λ l m t i. terms-below ar l.label t i }

pub terms-labels : (ar : List ℕ) (ls : List Literal) → ((l : Literal) → Memᴰ l ls → is_label ar l.label ≡ true) → TermsBelow term_end ar ls
terms-labels ar ls e = record { each = λ l m t i. terms-end ar l.label (e l m) t i }

-- the terms that an equality names are its terms
pub first-named : {ar : List ℕ} {l : Literal} {t u : ℕ} → Equates ar l t u → Memᴰ t (literal_terms ar l)
first-named {t = t} n = subst (Memᴰ t) (sym n.terms) (Memᴰ.head refl)

pub second-named : {ar : List ℕ} {l : Literal} {t u : ℕ} → Equates ar l t u → Memᴰ u (literal_terms ar l)
second-named {u = u} n = subst (Memᴰ u) (sym n.terms) (Memᴰ.tail (Memᴰ.head refl))

pub representative-below : (n : ℕ) (ar : List ℕ) (ls : List Literal) → TermsBelow n ar ls → (x : ℕ) → x < n → representative ar ls x < n
unfolding representative
representative-below n ar [] k x h = h
representative-below n ar (l ∷ ls) k x h =
    go (joins-is ar l) (representative-below n ar ls (record { each = λ m i. k.each m (Memᴰ.tail i) }))
  where
    r : ℕ → ℕ
    r = representative ar ls

    go : Joins ar l → ((y : ℕ) → y < n → representative ar ls y < n) → join_literal ar l r x < n
    go (leaves e) b = subst (λ (y : ℕ). y < n) (sym (e r x)) (b x h)
    go (joins t u s q e) b = subst (λ (y : ℕ). y < n) (sym (e r x)) (at (flag (eqb (r x) (r t))))
      where
        at : Flag (eqb (r x) (r t)) → joining t u r x < n
        at (is_true f) = subst (λ (y : ℕ). y < n) (sym (joining-here t u r x (eqb-true (r x) (r t) f))) (b u (k.each l (Memᴰ.head refl) u (second-named q)))
        at (is_false f) = subst (λ (y : ℕ). y < n) (sym (joining-other t u r x f)) (b x h)
