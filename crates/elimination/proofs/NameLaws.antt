-- Laws of lists of names: what is put in and what is left out; and valuations that agree on names.
use Rattle.std.specs.Prelude.{◌≡◌, refl, Bool, true, false, not, ◌&&◌, ◌||◌, cond, List, [], ◌∷◌, ℕ, suc, ◌≤◌, length, eqb, ltb}
use Rattle.std.proofs.Common.{ap, sym, ◌∙◌, arith, ltb-true, ltb-false, eqb-true, eq-eqb, ne_eqb}
use Rattle.std.proofs.Math.Path.{fun_ext}
use Rattle.std.proofs.Math.Bool.{and-false}
use Rattle.std.proofs.lemmas.Bool.{eqb-false}
use Rattle.basics.specs.Tests.{Flag, is_true, is_false, flag, Either, one, other, either, or-one, or-other}
use Rattle.basics.specs.Members.{mem, clash}
use Rattle.label.specs.Limits.{first_variable}
use Rattle.rename.specs.Ascending.{Ascending}
use Rattle.rename.specs.AscendingLaws.{ascending-weaken, ascending-above, ascending-not, ascending-one}
use Rattle.state.specs.State.{Atomic, atom, State, truth, holds}
use Rattle.state.specs.Terms.{Each, args}
use Rattle.state.proofs.ValueLaws.{map_same, Each-mono}
use Rattle.state.specs.Highest.{put, insert, vars_of}
use Rattle.state.proofs.HighestLaws.{put_same, put_other, by-eq}
use Rattle.elimination.specs.Tables.{without}
use Rattle.elimination.specs.Inner.{Agree}

-- ===== Members =====

or_swap : (a b c : Bool) → (a || (b || c)) ≡ (b || (a || c))
or_swap true true c = refl
or_swap true false c = refl
or_swap false b c = refl

or-twice : (a b : Bool) → (a || b) ≡ (a || (a || b))
or-twice true b = refl
or-twice false b = refl

pub mem-insert : (u t : ℕ) (vs : List ℕ) → mem eqb u (insert t vs) ≡ (eqb u t || mem eqb u vs)
unfolding insert
mem-insert u t [] = refl
mem-insert u t (v ∷ vs) = go (flag (ltb t v)) (flag (eqb t v)) (mem-insert u t vs)
  where
    go : Flag (ltb t v) → Flag (eqb t v) → mem eqb u (insert t vs) ≡ (eqb u t || mem eqb u vs)
        → mem eqb u (cond (ltb t v) (t ∷ v ∷ vs) (cond (eqb t v) (v ∷ vs) (v ∷ insert t vs))) ≡ (eqb u t || (eqb u v || mem eqb u vs))
    go (is_true e) d h = rw e
    go (is_false e) (is_true d) h = rw (e, d, eqb-true t v d) (or-twice (eqb u v) (mem eqb u vs))
    go (is_false e) (is_false d) h = rw (e, d, h) (or_swap (eqb u v) (eqb u t) (mem eqb u vs))

-- what is put in: the variables of the terms
pub vars_of-keeps : (u : ℕ) (ts vs : List ℕ) → mem eqb u vs ≡ true → mem eqb u (vars_of ts vs) ≡ true
unfolding vars_of
vars_of-keeps u [] vs m = m
vars_of-keeps u (t ∷ ts) vs m = go (ltb t first_variable) (vars_of-keeps u ts vs m)
  where
    go : (b : Bool) → mem eqb u (vars_of ts vs) ≡ true → mem eqb u (cond b (vars_of ts vs) (insert t (vars_of ts vs))) ≡ true
    go true h = h
    go false h = rw (mem-insert u t (vars_of ts vs)) (or-other (eqb u t) _ h)

pub vars_of-in : (u : ℕ) (ts vs : List ℕ) → first_variable ≤ u → mem eqb u ts ≡ true → mem eqb u (vars_of ts vs) ≡ true
unfolding vars_of
vars_of-in u [] vs l m = clash m refl
vars_of-in u (t ∷ ts) vs l m = go (flag (ltb t first_variable)) (flag (eqb u t)) (vars_of-in u ts vs l)
  where
    go : Flag (ltb t first_variable) → Flag (eqb u t) → (mem eqb u ts ≡ true → mem eqb u (vars_of ts vs) ≡ true)
        → mem eqb u (cond (ltb t first_variable) (vars_of ts vs) (insert t (vars_of ts vs))) ≡ true
    go (is_true e) (is_true d) ih = let p = ltb-true t first_variable e in let q = eqb-true u t d in absurd (omega arith)
    go (is_true e) (is_false d) ih = rw e (ih (rw d at m))
    go (is_false e) (is_true d) ih = rw (e, mem-insert u t (vars_of ts vs), d)
    go (is_false e) (is_false d) ih = rw (e, mem-insert u t (vars_of ts vs), d) (ih (rw d at m))

-- and nothing else
pub data Whence (u : ℕ) (ts vs : List ℕ) : Type 0 where
  new : first_variable ≤ u → mem eqb u ts ≡ true → Whence u ts vs
  old : mem eqb u vs ≡ true → Whence u ts vs

pub in-vars_of : (u : ℕ) (ts vs : List ℕ) → mem eqb u (vars_of ts vs) ≡ true → Whence u ts vs
unfolding vars_of
in-vars_of u [] vs m = old m
in-vars_of u (t ∷ ts) vs m = go (flag (ltb t first_variable)) (flag (eqb u t)) (in-vars_of u ts vs)
  where
    later : Whence u ts vs → Whence u (t ∷ ts) vs
    later (new l e) = new l (or-other (eqb u t) _ e)
    later (old e) = old e

    go : Flag (ltb t first_variable) → Flag (eqb u t) → (mem eqb u (vars_of ts vs) ≡ true → Whence u ts vs) → Whence u (t ∷ ts) vs
    go (is_true e) d ih = later (ih (rw e at m))
    go (is_false e) (is_true d) ih = let p = ltb-false t first_variable e in let q = eqb-true u t d in new (omega arith) (or-one _ _ d)
    go (is_false e) (is_false d) ih = later (ih (rw (e, mem-insert u t (vars_of ts vs), d) at m))

pub mem-without : (u v : ℕ) (us : List ℕ) → mem eqb u (without v us) ≡ (mem eqb u us && not (eqb u v))
unfolding without
mem-without u v [] = refl
mem-without u v (w ∷ us) = go (flag (eqb v w)) (flag (eqb u w)) (mem-without u v us)
  where
    go : Flag (eqb v w) → Flag (eqb u w) → mem eqb u (without v us) ≡ (mem eqb u us && not (eqb u v))
        → mem eqb u (cond (eqb v w) (without v us) (w ∷ without v us)) ≡ ((eqb u w || mem eqb u us) && not (eqb u v))
    go (is_true e) (is_true d) h =
        let z : eqb u v ≡ true = rw (eqb-true v w e) d in
        rw (e, d, h, z) (and-false (mem eqb u us))
    go (is_true e) (is_false d) h = rw (e, d, h)
    go (is_false e) (is_true d) h =
        let p = eqb-true u w d in
        let q = eqb-false v w e in
        rw (e, d, ne_eqb u v (λ z. q (sym z ∙ p)))
    go (is_false e) (is_false d) h = rw (e, d, h)

pub without-none : (v : ℕ) (us : List ℕ) → mem eqb v us ≡ false → without v us ≡ us
unfolding without
without-none v [] m = refl
without-none v (u ∷ us) m = go (flag (eqb v u)) (flag (mem eqb v us)) (without-none v us)
  where
    go : Flag (eqb v u) → Flag (mem eqb v us) → (mem eqb v us ≡ false → without v us ≡ us) → cond (eqb v u) (without v us) (u ∷ without v us) ≡ u ∷ us
    go (is_true e) d ih = clash (or-one _ _ e) m
    go (is_false e) (is_true d) ih = clash (or-other (eqb v u) _ d) m
    go (is_false e) (is_false d) ih = rw e (ap (u ∷◌) (ih d))

pub none_left : (us : List ℕ) → ((u : ℕ) → mem eqb u us ≡ true → ⊥) → us ≡ []
none_left [] h = refl
none_left (u ∷ us) h = absurd (h u (or-one _ _ (eq-eqb u u refl)))

-- ===== Ascending lists of variables =====

pub insert-ascending : (n t : ℕ) (vs : List ℕ) → n ≤ t → Ascending n vs → Ascending n (insert t vs)
unfolding insert
insert-ascending n t [] h a = (h, tt)
insert-ascending n t (v ∷ vs) h a = go (flag (ltb t v)) (flag (eqb t v)) (insert-ascending (suc v) t vs)
  where
    go : Flag (ltb t v) → Flag (eqb t v) → (suc v ≤ t → Ascending (suc v) vs → Ascending (suc v) (insert t vs))
        → Ascending n (cond (ltb t v) (t ∷ v ∷ vs) (cond (eqb t v) (v ∷ vs) (v ∷ insert t vs)))
    go (is_true e) d ih = let l = ltb-true t v e in rw e (h, (omega arith, a.1))
    go (is_false e) (is_true d) ih = rw (e, d) a
    go (is_false e) (is_false d) ih =
        let k = ltb-false t v e in
        let q = eqb-false t v d in
        rw (e, d) (a.0, ih (omega arith) a.1)

pub vars_of-ascending : (ts vs : List ℕ) → Ascending first_variable vs → Ascending first_variable (vars_of ts vs)
unfolding vars_of
vars_of-ascending [] vs a = a
vars_of-ascending (t ∷ ts) vs a = go (flag (ltb t first_variable)) (vars_of-ascending ts vs a)
  where
    go : Flag (ltb t first_variable) → Ascending first_variable (vars_of ts vs) → Ascending first_variable (cond (ltb t first_variable) (vars_of ts vs) (insert t (vars_of ts vs)))
    go (is_true e) r = rw e r
    go (is_false e) r = rw e (insert-ascending first_variable t (vars_of ts vs) (ltb-false t first_variable e) r)

pub without-ascending : (n v : ℕ) (us : List ℕ) → Ascending n us → Ascending n (without v us)
unfolding without
without-ascending n v [] a = tt
without-ascending n v (u ∷ us) a = go (flag (eqb v u)) (without-ascending (suc u) v us a.1)
  where
    go : Flag (eqb v u) → Ascending (suc u) (without v us) → Ascending n (cond (eqb v u) (without v us) (u ∷ without v us))
    go (is_true e) r = let h = a.0 in rw e (ascending-weaken n (suc u) (without v us) (omega arith) r)
    go (is_false e) r = rw e (a.0, r)

-- what is there already is not put in again
pub insert-old : (n t : ℕ) (vs : List ℕ) → Ascending n vs → mem eqb t vs ≡ true → insert t vs ≡ vs
insert-old n t vs a m = ascending-one n n (insert t vs) vs (insert-ascending n t vs (ascending-above n vs t a m) a) a
    (λ u e. go u (either (eqb u t) (mem eqb u vs) (sym (mem-insert u t vs) ∙ e)))
    (λ u e. mem-insert u t vs ∙ or-other (eqb u t) _ e)
  where
    go : (u : ℕ) → Either (eqb u t) (mem eqb u vs) → mem eqb u vs ≡ true
    go u (one e) = rw (eqb-true u t e) m
    go u (other e) = e

-- a variable of the list may as well be put in afterwards
pub vars_of-cons : (ts : List ℕ) (v : ℕ) (vs : List ℕ) → Ascending first_variable (v ∷ vs) → vars_of ts (v ∷ vs) ≡ insert v (vars_of ts vs)
vars_of-cons ts v vs a = ascending-one first_variable first_variable (vars_of ts (v ∷ vs)) (insert v (vars_of ts vs))
    (vars_of-ascending ts (v ∷ vs) a) (insert-ascending first_variable v (vars_of ts vs) a.0 (vars_of-ascending ts vs tail))
    (λ u e. mem-insert u v (vars_of ts vs) ∙ there u (in-vars_of u ts (v ∷ vs) e))
    (λ u e. back u (either (eqb u v) (mem eqb u (vars_of ts vs)) (sym (mem-insert u v (vars_of ts vs)) ∙ e)))
  where
    tail : Ascending first_variable vs
    tail = let h = a.0 in ascending-weaken first_variable (suc v) vs (omega arith) a.1

    there : (u : ℕ) → Whence u ts (v ∷ vs) → (eqb u v || mem eqb u (vars_of ts vs)) ≡ true
    there u (new l e) = or-other (eqb u v) _ (vars_of-in u ts vs l e)
    there u (old e) = inner (either (eqb u v) (mem eqb u vs) e)
      where
        inner : Either (eqb u v) (mem eqb u vs) → (eqb u v || mem eqb u (vars_of ts vs)) ≡ true
        inner (one q) = or-one _ _ q
        inner (other q) = or-other (eqb u v) _ (vars_of-keeps u ts vs q)

    back : (u : ℕ) → Either (eqb u v) (mem eqb u (vars_of ts vs)) → mem eqb u (vars_of ts (v ∷ vs)) ≡ true
    back u (one e) = vars_of-keeps u ts (v ∷ vs) (or-one _ _ e)
    back u (other e) = inner (in-vars_of u ts vs e)
      where
        inner : Whence u ts vs → mem eqb u (vars_of ts (v ∷ vs)) ≡ true
        inner (new l q) = vars_of-in u ts (v ∷ vs) l q
        inner (old q) = vars_of-keeps u ts (v ∷ vs) (or-other (eqb u v) _ q)

-- a member less
pub length_without : (n v : ℕ) (us : List ℕ) → Ascending n us → mem eqb v us ≡ true → suc (length (without v us)) ≡ length us
unfolding without
length_without n v [] a m = clash m refl
length_without n v (u ∷ us) a m = go (flag (eqb v u)) (length_without (suc u) v us a.1)
  where
    go : Flag (eqb v u) → (mem eqb v us ≡ true → suc (length (without v us)) ≡ length us) → suc (length (cond (eqb v u) (without v us) (u ∷ without v us))) ≡ suc (length us)
    go (is_true e) ih = rw e (ap (λ l. suc (length l)) (without-none v us (ascending-not (suc u) us v a.1 (let q = eqb-true v u e in omega arith))))
    go (is_false e) ih = rw e (ap suc (ih (rw e at m)))

-- ===== Valuations that agree on names =====

each_in : (ts : List ℕ) → Each (λ t. mem eqb t ts ≡ true) ts
each_in [] = tt
each_in (t ∷ ts) = (or-one _ _ (eq-eqb t t refl), Each-mono _ _ (λ u h. or-other (eqb u t) _ h) ts (each_in ts))

pub holds_agree : (s : State) (a : Atomic) (vs : List ℕ) (θ η : ℕ → ℕ) → Agree (vars_of (args a) vs) θ η → holds s θ a ≡ holds s η a
unfolding holds
holds_agree s (atom p ts) vs θ η g =
    ap (truth s p) (map_same (λ t. mem eqb t ts ≡ true) θ η (λ t m. g t (λ l. vars_of-in t ts vs l m)) ts (each_in ts))

-- one object more
pub agree-put : (v o : ℕ) (vs : List ℕ) (θ η : ℕ → ℕ) → Agree (without v vs) θ η → Agree vs (put θ v o) (put η v o)
agree-put v o vs θ η g t m = by-eq (put θ v o t ≡ put η v o t) v t
    (λ e. rw (e, put_same θ v o, put_same η v o))
    (λ e. put_other θ v o t e ∙ g t (λ l. rw (mem-without t v vs, m l, ne_eqb t v e)) ∙ sym (put_other η v o t e))

-- the object that is there, put again
pub put_back : (θ : ℕ → ℕ) (v o : ℕ) → put (put θ v o) v (θ v) ≡ θ
put_back θ v o = fun_ext (λ t. by-eq (put (put θ v o) v (θ v) t ≡ θ t) v t
    (λ e. rw (e, put_same (put θ v o) v (θ v)))
    (λ e. put_other (put θ v o) v (θ v) t e ∙ put_other θ v o t e))
