-- The test says of literals that they contradict themselves exactly if they do.
use Rattle.std.specs.Prelude.{◌≡◌, Bool, not, ◌&&◌, ℕ, ◌<◌, length, get_or, eqb}
use Rattle.std.proofs.Math.Path.{refl}
use Rattle.std.proofs.Common.{sym, ap, ap₂, subst, ◌∙◌, arith}
use Rattle.std.proofs.Math.Bool.{true, false}
use mathlib.Core.List.{List, [], ◌∷◌, map, Memᴰ}
use Rattle.std.proofs.lemmas.List.{length-map}
use borrow.Author.Tests.{eqb-true, eqb-false, eq-eqb, not-true}
use Rattle.basics.specs.Tests.{and_left, and_right, Flag, is_true, is_false, flag, Either, one, other, either, or-one, or-other, Cmp, cmp, below, equal, above}
use Rattle.basics.specs.Members.{clash}
use Rattle.label.specs.Limits.{term_base}
use Rattle.label.specs.Labels.{are_arities, predicate_of, unpacked, terms_of}
use Rattle.label.proofs.ArityLaws.{arity-two, terms-length, terms-below}
use Rattle.label.specs.declared.Test.{Test}
use Rattle.label.specs.declared.Test.TheVariants.{Always, Is}
use Rattle.diagram.specs.Diagram.{Diagram}
use Rattle.paths.specs.Paths.{Literal, Path, paths, literals}
use Rattle.paths.specs.PathLaws.{mem-unmap}
use Rattle.cutting.proofs.MovedLaws.{asks, asks-twice, moved-asks, Two, two, length_two, Asked, straight, across, ask-is, ask-always}
use Rattle.cutting.proofs.CoverLaws.{every-path-out, every-path-in}
use Rattle.contradiction.specs.Contradiction.{literal_terms, Equates, Agree, Contradicts, unequal, differ, LeadsTo, representative, some_literal, asked, asks_for}
use Rattle.contradiction.specs.Contradiction.{affirms, is_said, clashes, clash_under, contradicts, passes, leads_to}
use Rattle.contradiction.proofs.JoinLaws.{one-joined, named-one, joined-one, terms-base, representative-below}

-- ===== Some literal =====

pub some_out : (f : Literal → Bool) (ls : List Literal) → some_literal f ls ≡ true → (l : Literal) × Memᴰ l ls × (f l ≡ true)
some_out f [] e = clash e refl
some_out f (l ∷ ls) e = go (either (f l) (some_literal f ls) e) (some_out f ls)
  where
    go : Either (f l) (some_literal f ls) → (some_literal f ls ≡ true → (k : Literal) × Memᴰ k ls × (f k ≡ true)) → (k : Literal) × Memᴰ k (l ∷ ls) × (f k ≡ true)
    go (one q) ih = (l, Memᴰ.head refl, q)
    go (other q) ih = let r = ih q in (r.0, Memᴰ.tail r.1, r.2)

pub some_in : (f : Literal → Bool) (ls : List Literal) (l : Literal) → Memᴰ l ls → f l ≡ true → some_literal f ls ≡ true
some_in f [] l x'' q = elim x'' [ ]
some_in f (k ∷ ls) l (Memᴰ.head e) q = or-one (f k) (some_literal f ls) (ap f (sym e) ∙ q)
some_in f (k ∷ ls) l (Memᴰ.tail m) q = or-other (f k) (some_literal f ls) (some_in f ls l m q)

-- ===== Agreeing =====

agree-one : (ar : List ℕ) (ls : List Literal) (ts us : List ℕ) → Agree ar ls ts us → map (representative ar ls) ts ≡ map (representative ar ls) us
agree-one ar ls [] [] a = refl
agree-one ar ls [] (u ∷ us) a = absurd a
agree-one ar ls (t ∷ ts) [] a = absurd a
agree-one ar ls (t ∷ ts) (u ∷ us) a = ap₂ ◌∷◌ (joined-one a.0) (agree-one ar ls ts us a.1)

pub one-agree : (ar : List ℕ) (ls : List Literal) (ts us : List ℕ) → map (representative ar ls) ts ≡ map (representative ar ls) us → Agree ar ls ts us
one-agree ar ls [] [] e = tt
one-agree ar ls [] (u ∷ us) e = let z : ◌≡◌ {A = ℕ} 0 1 = cc in omega arith
one-agree ar ls (t ∷ ts) [] e = let z : ◌≡◌ {A = ℕ} 0 1 = cc in omega arith
one-agree ar ls (t ∷ ts) (u ∷ us) e =
    let p : representative ar ls t ≡ representative ar ls u = cc in
    let q : map (representative ar ls) ts ≡ map (representative ar ls) us = cc in (one-joined ar ls t u p, one-agree ar ls ts us q)

-- two terms with one representative
data Twins (r : ℕ → ℕ) (ts : List ℕ) : Type 0 where
  twins : (t u : ℕ) → ts ≡ t ∷ u ∷ [] → r t ≡ r u → Twins r ts

twins-is : (r : ℕ → ℕ) (ts : List ℕ) (v : ℕ) → map r ts ≡ v ∷ v ∷ [] → Twins r ts
twins-is r [] v e = absurd (let z : ◌≡◌ {A = ℕ} 0 1 = cc in omega arith)
twins-is r (t ∷ []) v e = absurd (let z : ◌≡◌ {A = ℕ} 0 1 = cc in omega arith)
twins-is r (t ∷ u ∷ []) v e = twins t u refl (cc)
twins-is r (t ∷ u ∷ x ∷ ts) v e = absurd (let z : ◌≡◌ {A = ℕ} 0 1 = cc in omega arith)

asks-for : (k : ℕ) (t : Test) → asks_for k t ≡ true → t ≡ Is (record { packed = k })
asks-for k Always e = clash e refl
asks-for k (Is l) e = λ i. Is (record { packed = eqb-true l.packed k e i })

module _ (ar : List ℕ) (good : are_arities ar ≡ true) (ls : List Literal) where
  abbrev R : ℕ → ℕ
  R = representative ar ls

  -- what a literal asks, by its predicate and its terms' representatives
  asked_is : (l : Literal) → asked ar R l ≡ asks (predicate_of l.label) (map R (literal_terms ar l))
  asked_is l = moved-asks ar R l.label good

  asked-long : (l : Literal) → length (map R (literal_terms ar l)) ≡ get_or ar (predicate_of l.label) 0
  asked-long l = length-map (literal_terms ar l) R ∙ terms-length ar l.label good

  asked-small : (l : Literal) (t : ℕ) → Memᴰ t (map R (literal_terms ar l)) → t < term_base
  asked-small l t m =
      let u = mem-unmap R (literal_terms ar l) t m in
      subst (λ (x : ℕ). x < term_base) (sym u.2) (representative-below term_base ar ls (terms-base ar ls) u.0 (terms-below ar l.label u.0 u.1))

  asked-label : (l : Literal) (k : ℕ) → asked ar R l ≡ Is (record { packed = k }) → Asked ar (predicate_of l.label) (map R (literal_terms ar l)) k
  asked-label l k e = ask-is ar (predicate_of l.label) (map R (literal_terms ar l)) k good (asked-long l) (asked-small l) (sym (asked_is l) ∙ e)

  -- an equality of terms with one representative is plain truth
  names-truth : (l : Literal) (t u : ℕ) → Equates ar l t u → R t ≡ R u → asked ar R l ≡ Always
  names-truth l t u n e =
      asked_is l ∙ ap₂ (λ (p : ℕ) (us : List ℕ). asks p (map R us)) n.equates n.terms
      ∙ ap (λ (x : ℕ). asks 0 (x ∷ R u ∷ [])) e ∙ asks-twice (R u)

  truth-names : (l : Literal) → asked ar R l ≡ Always → (t : ℕ) × (u : ℕ) × Equates ar l t u × (R t ≡ R u)
  truth-names l e = go (ask-always ar (predicate_of l.label) (map R (literal_terms ar l)) good (asked-long l) (sym (asked_is l) ∙ e))
    where
      go : (predicate_of l.label ≡ 0) × (v : ℕ) × (map R (literal_terms ar l) ≡ v ∷ v ∷ []) → (t : ℕ) × (u : ℕ) × Equates ar l t u × (R t ≡ R u)
      go x = at (twins-is R (literal_terms ar l) x.1 x.2)
        where
          at : Twins R (literal_terms ar l) → (t : ℕ) × (u : ℕ) × Equates ar l t u × (R t ≡ R u)
          at (twins t u z q) = (t, u, record { equates = x.0; terms = z }, q)

  -- ===== What the test finds contradicts =====

  -- a true literal that asks for a label is no equality, and so has the label's predicate and terms
  affirmed : (l : Literal) (k : ℕ) → Memᴰ l ls → l.sign ≡ true → asked ar R l ≡ Is (record { packed = k })
      → (0 < predicate_of l.label) × (predicate_of k ≡ predicate_of l.label) × (terms_of ar (unpacked k) ≡ map R (literal_terms ar l))
  affirmed l k i s e = go (cmp 0 (predicate_of l.label))
    where
      equates : predicate_of l.label ≡ 0 → Two (literal_terms ar l) → asked ar R l ≡ Always
      equates z (two t u q) = let n : Equates ar l t u = record { equates = z; terms = q } in names-truth l t u n (named-one ar ls l t u i s n)

      no_label : {A : Type 0} → asked ar R l ≡ Always → A
      no_label a = let b : Always ≡ Is (record { packed = k }) = sym a ∙ e in let z : ◌≡◌ {A = ℕ} 0 1 = cc in absurd (omega arith)

      at : 0 < predicate_of l.label → Asked ar (predicate_of l.label) (map R (literal_terms ar l)) k
          → (0 < predicate_of l.label) × (predicate_of k ≡ predicate_of l.label) × (terms_of ar (unpacked k) ≡ map R (literal_terms ar l))
      at h (straight p q) = (h, p, q)
      at h (across z p q) = absurd (omega arith)

      go : Cmp 0 (predicate_of l.label)
          → (0 < predicate_of l.label) × (predicate_of k ≡ predicate_of l.label) × (terms_of ar (unpacked k) ≡ map R (literal_terms ar l))
      go (below h) = at h (asked-label l k e)
      go (equal z) =
          no_label (equates (sym z) (length_two (literal_terms ar l) (terms-length ar l.label good ∙ ap (λ (p : ℕ). get_or ar p 0) (sym z) ∙ arity-two ar good)))
      go (above h) = absurd (omega arith)

  two-agree : (l m : Literal) (k : ℕ) → Memᴰ l ls → Memᴰ m ls → l.sign ≡ true → m.sign ≡ false
      → asked ar R l ≡ Is (record { packed = k }) → asked ar R m ≡ Is (record { packed = k }) → Contradicts ar ls
  two-agree l m k i j s f e d = go (affirmed l k i s e) (asked-label m k d)
    where
      go : (0 < predicate_of l.label) × (predicate_of k ≡ predicate_of l.label) × (terms_of ar (unpacked k) ≡ map R (literal_terms ar l))
          → Asked ar (predicate_of m.label) (map R (literal_terms ar m)) k → Contradicts ar ls
      go a (straight p q) = differ l m i j (sym a.1 ∙ p) (one-agree ar ls (literal_terms ar l) (literal_terms ar m) (sym a.2 ∙ q)) s f
      go a (across z p q) = absurd (omega (arith, a.0, a.1, p))

  clash-contradicts : (m : Literal) → Memᴰ m ls → clashes ar R ls m ≡ true → Contradicts ar ls
  unfolding clashes
  clash-contradicts m i e = go (asked ar R m) refl (and_right (not m.sign) _ e)
    where
      f : m.sign ≡ false
      f = not-true m.sign (and_left (not m.sign) _ e)

      go : (t : Test) → asked ar R m ≡ t → is_said ar R ls t ≡ true → Contradicts ar ls
      go Always q h = let x = truth-names m q in unequal m i f x.2 (one-joined ar ls x.0 x.1 x.3)
      go (Is k) q h = at (some_out (affirms ar R k.packed) ls h)
        where
          at : (l : Literal) × Memᴰ l ls × (affirms ar R k.packed l ≡ true) → Contradicts ar ls
          at x =
              let y : (x.0.sign && asks_for k.packed (asked ar R x.0)) ≡ true = unfold affirms in x.2 in
              two-agree x.0 m k.packed x.1 i (and_left x.0.sign _ y) f (asks-for k.packed (asked ar R x.0) (and_right x.0.sign _ y)) q

  pub contradicts-sound : contradicts ar ls ≡ true → Contradicts ar ls
  unfolding contradicts clash_under
  contradicts-sound e = let x = some_out (clashes ar R ls) ls e in clash-contradicts x.0 x.1 x.2

  -- ===== What contradicts is found =====

  clash-in : (m : Literal) → Memᴰ m ls → m.sign ≡ false → is_said ar R ls (asked ar R m) ≡ true → contradicts ar ls ≡ true
  unfolding contradicts clash_under clashes
  clash-in m i f h = some_in (clashes ar R ls) ls m i (rw (f, h))

  pub contradicts-complete : Contradicts ar ls → contradicts ar ls ≡ true
  contradicts-complete (unequal {t = t} {u = u} m i f n j) = clash-in m i f (ap (is_said ar R ls) (names-truth m t u n (joined-one j)))
  contradicts-complete (differ l m i j p a s f) =
      clash-in m j f (go (asked ar R m) refl)
    where
      same : asked ar R l ≡ asked ar R m
      same = asked_is l ∙ ap₂ asks p (agree-one ar ls (literal_terms ar l) (literal_terms ar m) a) ∙ sym (asked_is m)

      affirm : (k : ℕ) → asked ar R m ≡ Is (record { packed = k }) → affirms ar R k l ≡ true
      affirm k q = unfold affirms in (rw (s, same, q) (eq-eqb k k refl))

      go : (t : Test) → asked ar R m ≡ t → is_said ar R ls (asked ar R m) ≡ true
      go Always q = ap (is_said ar R ls) q
      go (Is k) q = ap (is_said ar R ls) q ∙ some_in (affirms ar R k.packed) ls l i (affirm k.packed q)

  -- exactly
  pub contradicts-not : contradicts ar ls ≡ false → Contradicts ar ls → ⊥
  contradicts-not e c = clash (contradicts-complete c) e

-- ===== Diagrams =====

module _ (ar : List ℕ) (good : are_arities ar ≡ true) (w : ℕ) (d : Diagram) where
  pub leads-sound : leads_to ar w d ≡ true → LeadsTo ar w d
  unfolding leads_to passes
  leads-sound e p i n = contradicts-sound ar good (literals p) (go (either (eqb p.end w) _ (every-path-out (passes ar w) (paths d) e p i)))
    where
      go : Either (eqb p.end w) (contradicts ar (literals p)) → contradicts ar (literals p) ≡ true
      go (one q) = absurd (n (eqb-true p.end w q))
      go (other q) = q

  pub leads-complete : LeadsTo ar w d → leads_to ar w d ≡ true
  unfolding leads_to passes
  leads-complete c = every-path-in (passes ar w) (paths d) (λ p i. go p i (flag (eqb p.end w)))
    where
      go : (p : Path) → Memᴰ p (paths d) → Flag (eqb p.end w) → passes ar w p ≡ true
      go p i (is_true q) = unfold passes in (or-one (eqb p.end w) _ q)
      go p i (is_false q) = unfold passes in (or-other (eqb p.end w) _ (contradicts-complete ar good (literals p) (c p i (eqb-false p.end w q))))
