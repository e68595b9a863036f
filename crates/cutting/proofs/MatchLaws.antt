-- The search for a replacement is sound and complete, and blind to the order of the literals.
use Rattle.std.specs.Prelude.{◌≡◌, ◌⊎◌, Bool, true, false, ◌&&◌, cond, length, get_or, eqb}
use Rattle.std.proofs.Math.Path.{refl, ap}
use Rattle.std.proofs.Common.{sym, ap₂, subst, ◌∙◌, inl, inr, arith, eqb-true, eq-eqb}
use Rattle.std.specs.Bool.{beq}
use mathlib.Core.List.Memᴰ
use mathlib.Core.List.{List, [], ◌∷◌, map, Memᴰ}
use Rattle.std.proofs.Math.Option.{Option, some, none}
use Prim.Native.Nat.{ℕ, zero, suc, ◌<◌}
use Rattle.std.proofs.lemmas.List.{length-map}
use Rattle.basics.specs.Tests.{Either, one, other, either, or-one, or-other}
use Rattle.basics.specs.Members.{clash}
use Rattle.label.specs.Limits.{term_base}
use Rattle.label.specs.Labels.{are_arities, predicate_of, unpacked, terms_of}
use Rattle.label.specs.Renamings.{moved}
use Rattle.diagram.specs.RowLaws.{same_tests}
use Rattle.paths.specs.PathLaws.{mem-map, mem-unmap}
use Rattle.paths.specs.Paths.{Literal, terms_in}
use Rattle.cutting.specs.Match.{Partial, assign, agree, bind_term, then_bind, bind_terms, turned, ways, ways_to, ways_among, twice, plain_ways, targets, some_of, go_on, matches}
use Rattle.cutting.specs.Cut.{Matched, plain, found}
use Rattle.cutting.specs.Searchable.{AllLabels, Searchable, ExtendsPartial, Solves}
use Rattle.label.proofs.ArityLaws.{terms-length}
use Rattle.cutting.proofs.MovedLaws.{asks, moved-asks, asks_turned, asks-twice, label-asks, Asked, straight, across, ask-is, ask-always}

none-not : {A : Type 0} {B : Type 0} (a : A) → none ≡ some a → B
none-not a e = let z : ◌≡◌ {A = ℕ} 0 1 = cc in absurd (omega arith)

-- ===== Binding =====
assign-extends : (σ : ℕ → ℕ) (τ : Partial) (t u : ℕ) → ExtendsPartial σ τ → σ t ≡ u → ExtendsPartial σ (assign τ t u)
unfolding assign
assign-extends σ τ t u x e = record { known = λ v w z. go v w (eqb v t) refl z }
  where
    go : (v w : ℕ) (b : Bool) → eqb v t ≡ b → cond b (some u) (τ v) ≡ some w → σ v ≡ w
    go v w true r z = let s = eqb-true v t r in let y : u ≡ w = cc in ap σ s ∙ e ∙ y
    go v w false r z = x.known v w z

assign-only : (σ : ℕ → ℕ) (τ : Partial) (t u : ℕ) → τ t ≡ none → ExtendsPartial σ (assign τ t u) → ExtendsPartial σ τ × (σ t ≡ u)
unfolding assign
assign-only σ τ t u n x = (record { known = λ v w z. x.known v w (was v w z (eqb v t) refl) }, x.known t u (rw (eq-eqb t t refl) refl))
  where
    was : (v w : ℕ) → τ v ≡ some w → (b : Bool) → eqb v t ≡ b → cond (eqb v t) (some u) (τ v) ≡ some w
    was v w z true r = none-not w (sym n ∙ ap τ (sym (eqb-true v t r)) ∙ z)
    was v w z false r = rw r z

pub bind-some : (σ : ℕ → ℕ) (τ : Partial) (t u : ℕ) → ExtendsPartial σ τ → σ t ≡ u → (τ' : Partial) × (bind_term τ t u ≡ some τ') × ExtendsPartial σ τ'
unfolding bind_term
bind-some σ τ t u x e = go (τ t) refl
  where
    go : (o : Option ℕ) → τ t ≡ o → (τ' : Partial) × (agree τ t u o ≡ some τ') × ExtendsPartial σ τ'
    go none q = (assign τ t u, refl, assign-extends σ τ t u x e)
    go (some w) q = (τ, rw (eq-eqb w u (sym (x.known t w q) ∙ e)) refl, x)

pub bind-only : (σ : ℕ → ℕ) (τ τ' : Partial) (t u : ℕ) → bind_term τ t u ≡ some τ' → ExtendsPartial σ τ' → ExtendsPartial σ τ × (σ t ≡ u)
unfolding bind_term
bind-only σ τ τ' t u e x = go (τ t) refl e
  where
    same : (w : ℕ) → τ t ≡ some w → (b : Bool) → eqb w u ≡ b → cond b (some τ) none ≡ some τ' → ExtendsPartial σ τ × (σ t ≡ u)
    same w q true r y = let s : τ ≡ τ' = cc in let x' : ExtendsPartial σ τ = rw s x in (x', x'.known t w q ∙ eqb-true w u r)
    same w q false r y = none-not τ' y

    go : (o : Option ℕ) → τ t ≡ o → agree τ t u o ≡ some τ' → ExtendsPartial σ τ × (σ t ≡ u)
    go none q z = let s : assign τ t u ≡ τ' = cc in assign-only σ τ t u q (rw s x)
    go (some w) q z = same w q (eqb w u) refl z

pub binds-some : (σ : ℕ → ℕ) (τ : Partial) (ts : List ℕ) → ExtendsPartial σ τ → (τ' : Partial) × (bind_terms τ ts (map σ ts) ≡ some τ') × ExtendsPartial σ τ'
unfolding bind_terms
binds-some σ τ [] x = (τ, refl, x)
binds-some σ τ (t ∷ ts) x =
    let b = bind-some σ τ t (σ t) x refl in
    let r = binds-some σ b.0 ts b.2 in
    (r.0, ap (λ o. then_bind o (λ τ'. bind_terms τ' ts (map σ ts))) b.1 ∙ r.1, r.2)

pub binds-only : (σ : ℕ → ℕ) (τ τ' : Partial) (ts us : List ℕ) → bind_terms τ ts us ≡ some τ' → ExtendsPartial σ τ' → ExtendsPartial σ τ × (map σ ts ≡ us)
unfolding bind_terms
binds-only σ τ τ' [] [] e x = let s : τ ≡ τ' = cc in (rw s x, refl)
binds-only σ τ τ' [] (u ∷ us) e x = none-not τ' e
binds-only σ τ τ' (t ∷ ts) [] e x = none-not τ' e
binds-only σ τ τ' (t ∷ ts) (u ∷ us) e x = go (bind_term τ t u) refl e (λ τ₁ z. binds-only σ τ₁ τ' ts us z x)
  where
    go : (o : Option Partial) → bind_term τ t u ≡ o → then_bind o (λ τ₁. bind_terms τ₁ ts us) ≡ some τ'
        → ((τ₁ : Partial) → bind_terms τ₁ ts us ≡ some τ' → ExtendsPartial σ τ₁ × (map σ ts ≡ us)) → ExtendsPartial σ τ × (map σ (t ∷ ts) ≡ u ∷ us)
    go none q z rec = none-not τ' z
    go (some τ₁) q z rec =
        let r = rec τ₁ z in
        let b = bind-only σ τ τ₁ t u q r.0 in
        (b.0, ap₂ ◌∷◌ b.1 r.1)

-- ===== Targets =====
abbrev pub lit : ℕ → Bool → Literal
lit k b = record { label = k; sign = b }

pub beq-true : (b c : Bool) → beq b c ≡ true → b ≡ c
beq-true true true e = refl
beq-true true false e = clash e refl
beq-true false true e = clash e refl
beq-true false false e = refl

pub beq_same : (b : Bool) → beq b b ≡ true
beq_same true = refl
beq_same false = refl

pub among_in : (ar : List ℕ) (p : ℕ) (b : Bool) (ls : List Literal) (k : ℕ) (us : List ℕ) → Memᴰ (lit k b) ls → p ≡ predicate_of k
    → Memᴰ us (ways p (terms_of ar (unpacked k))) → Memᴰ us (ways_among ar p b ls)
unfolding ways_among ways_to
among_in ar p b [] k us x3 z w = elim x3 [ ]
among_in ar p b (m ∷ ls) k us (Memᴰ.head e) z w =
    Memᴰ.append_left (ways_among ar p b ls) (subst (λ (l : Literal). Memᴰ us (ways_to ar p b l)) e (rw (eq-eqb p (predicate_of k) z, beq_same b) w))
among_in ar p b (m ∷ ls) k us (Memᴰ.tail n) z w = Memᴰ.append_right (ways_to ar p b m) (among_in ar p b ls k us n z w)

pub record Among (ar : List ℕ) (p : ℕ) (b : Bool) (ls : List Literal) (us : List ℕ) : Type 0 where
  pub label : ℕ
  pub one_of : Memᴰ (lit label b) ls
  pub same-predicate : p ≡ predicate_of label
  pub way : Memᴰ us (ways p (terms_of ar (unpacked label)))

pub among-out : (ar : List ℕ) (p : ℕ) (b : Bool) (ls : List Literal) (us : List ℕ) → Memᴰ us (ways_among ar p b ls) → Among ar p b ls us
unfolding ways_among ways_to
among-out ar p b [] us w = absurd (Memᴰ.not-nil w)
among-out ar p b (m ∷ ls) us w = go (Memᴰ.append_cases (ways_to ar p b m) w) (among-out ar p b ls us)
  where
    here : (x y : Bool) → eqb p (predicate_of m.label) ≡ x → beq b m.sign ≡ y
        → Memᴰ us (cond (x && y) (ways p (terms_of ar (unpacked m.label))) []) → Among ar p b (m ∷ ls) us
    here true true e d n =
        record { label = m.label; one_of = Memᴰ.head (ap (lit m.label) (beq-true b m.sign d)); same-predicate = eqb-true _ _ e; way = n }
    here true false e d n = absurd (Memᴰ.not-nil n)
    here false true e d n = absurd (Memᴰ.not-nil n)
    here false false e d n = absurd (Memᴰ.not-nil n)

    go : Memᴰ us (ways_to ar p b m) ⊎ Memᴰ us (ways_among ar p b ls) → (Memᴰ us (ways_among ar p b ls) → Among ar p b ls us) → Among ar p b (m ∷ ls) us
    go (inl n) rec = here (eqb p (predicate_of m.label)) (beq b m.sign) refl refl n
    go (inr n) rec = let r = rec n in record { label = r.label; one_of = Memᴰ.tail r.one_of; same-predicate = r.same-predicate; way = r.way }

pub twice_in : (T : List ℕ) (t : ℕ) → Memᴰ t T → Memᴰ (t ∷ t ∷ []) (twice T)
twice_in [] t x' = elim x' [ ]
twice_in (u ∷ T) t (Memᴰ.head e) = Memᴰ.head (ap (λ (v : ℕ). v ∷ v ∷ []) e)
twice_in (u ∷ T) t (Memᴰ.tail n) = Memᴰ.tail (twice_in T t n)

pub twice-out : (T us : List ℕ) → Memᴰ us (twice T) → (t : ℕ) × (us ≡ t ∷ t ∷ []) × Memᴰ t T
twice-out [] us w = absurd (Memᴰ.not-nil w)
twice-out (t ∷ T) us (Memᴰ.head e) = (t, e, Memᴰ.head refl)
twice-out (t ∷ T) us (Memᴰ.tail n) = let r = twice-out T us n in (r.0, r.1, Memᴰ.tail r.2)

-- terms in one of the ways ask what the label asks
way-asks : (p : ℕ) (us vs : List ℕ) → Memᴰ us (ways p vs) → asks p us ≡ asks p vs
way-asks zero us vs (Memᴰ.head e) = ap (asks 0) e
way-asks zero us vs (Memᴰ.tail (Memᴰ.head e)) = ap (asks 0) e ∙ asks_turned vs
way-asks zero us vs (Memᴰ.tail (Memᴰ.tail m)) = absurd (Memᴰ.not-nil m)
way-asks (suc p) us vs m = ap (asks (suc p)) (Memᴰ.eq_of_singleton m)

module _ (ar : List ℕ) (good : are_arities ar ≡ true) where
  pub target_sound : (σ : ℕ → ℕ) (ls : List Literal) (T : List ℕ) (l : Literal) → AllLabels ar ls
      → Memᴰ (map σ (terms_of ar (unpacked l.label))) (targets ar ls T l) → Matched ar σ ls l
  unfolding targets
  target_sound σ ls T l al w = go (Memᴰ.append_cases (ways_among ar (predicate_of l.label) l.sign ls) w)
    where
      us : List ℕ
      us = map σ (terms_of ar (unpacked l.label))

      asked : moved ar σ l.label ≡ asks (predicate_of l.label) us
      asked = moved-asks ar σ l.label good

      truly : (p : ℕ) (b : Bool) → predicate_of l.label ≡ p → l.sign ≡ b → Memᴰ us (plain_ways p b T) → Matched ar σ ls l
      truly zero true e d m = let r = twice-out T us m in plain (asked ∙ ap₂ asks e r.1 ∙ asks-twice r.0) d
      truly zero false e d m = absurd (Memᴰ.not-nil m)
      truly (suc p) b e d m = absurd (Memᴰ.not-nil m)

      go : Memᴰ us (ways_among ar (predicate_of l.label) l.sign ls) ⊎ Memᴰ us (plain_ways (predicate_of l.label) l.sign T) → Matched ar σ ls l
      go (inl m) =
          let r = among-out ar (predicate_of l.label) l.sign ls us m in
          let k = r.label in
          found k (asked ∙ way-asks (predicate_of l.label) us (terms_of ar (unpacked k)) r.way ∙ ap (λ (p : ℕ). asks p (terms_of ar (unpacked k))) r.same-predicate
          ∙ label-asks ar k good (al.each (lit k l.sign) r.one_of)) r.one_of
      go (inr m) = truly (predicate_of l.label) l.sign refl refl m

  turned-twice : (us : List ℕ) → turned (turned us) ≡ us
  turned-twice [] = refl
  turned-twice (a ∷ []) = refl
  turned-twice (a ∷ b ∷ r) = refl

  way-straight : (p : ℕ) (us vs : List ℕ) → vs ≡ us → Memᴰ us (ways p vs)
  way-straight zero us vs e = Memᴰ.head (sym e)
  way-straight (suc p) us vs e = Memᴰ.head (sym e)

  pub target-complete : (σ : ℕ → ℕ) (ls : List Literal) (T : List ℕ) (l : Literal) → ((t : ℕ) → Memᴰ t T → t < term_base)
      → ((t : ℕ) → Memᴰ t (terms_of ar (unpacked l.label)) → Memᴰ (σ t) T) → Matched ar σ ls l
      → Memᴰ (map σ (terms_of ar (unpacked l.label))) (targets ar ls T l)
  unfolding targets
  target-complete σ ls T l small image w = go w
    where
      ts : List ℕ
      ts = terms_of ar (unpacked l.label)

      us : List ℕ
      us = map σ ts

      p : ℕ
      p = predicate_of l.label

      inside : (u : ℕ) → Memᴰ u us → Memᴰ u T
      inside u m = let r = mem-unmap σ ts u m in subst (λ (v : ℕ). Memᴰ v T) (sym r.2) (image r.0 r.1)

      count : length us ≡ get_or ar p 0
      count = length-map ts σ ∙ terms-length ar l.label good

      asked : asks p us ≡ moved ar σ l.label
      asked = sym (moved-asks ar σ l.label good)

      truly : (q : ℕ) (b : Bool) (t : ℕ) → q ≡ 0 → b ≡ true → us ≡ t ∷ t ∷ [] → Memᴰ us (plain_ways q b T)
      truly zero true t e d z = subst (λ (v : List ℕ). Memᴰ v (twice T)) (sym z)
          (twice_in T t (inside t (subst (λ (v : List ℕ). Memᴰ t v) (sym z) (Memᴰ.head refl))))
      truly zero false t e d z = clash d refl
      truly (suc q) b t e d z = absurd (omega arith)

      cross : (q k : ℕ) → q ≡ 0 → terms_of ar (unpacked k) ≡ turned us → Memᴰ us (ways q (terms_of ar (unpacked k)))
      cross zero k e z = Memᴰ.tail (Memᴰ.head (sym (turned-twice us) ∙ ap turned (sym z)))
      cross (suc q) k e z = absurd (omega arith)

      at : (k : ℕ) → Memᴰ (lit k l.sign) ls → Asked ar p us k → Memᴰ us (targets ar ls T l)
      at k i (straight q z) = Memᴰ.append_left (plain_ways p l.sign T) (among_in ar p l.sign ls k us i (sym q) (way-straight p us (terms_of ar (unpacked k)) z))
      at k i (across q r z) = Memᴰ.append_left (plain_ways p l.sign T) (among_in ar p l.sign ls k us i (q ∙ sym r) (cross p k q z))

      go : Matched ar σ ls l → Memᴰ us (targets ar ls T l)
      go (plain e d) = let r = ask-always ar p us good count (asked ∙ e) in Memᴰ.append_right (ways_among ar p l.sign ls) (truly p l.sign r.1 r.0 d r.2)
      go (found k e i) = at k i (ask-is ar p us k good count (λ t m. small t (inside t m)) (asked ∙ e))

-- the terms of a target are among T
pub in-terms : (ar : List ℕ) (ls : List Literal) (l : Literal) (t : ℕ) → Memᴰ l ls → Memᴰ t (terms_of ar (unpacked l.label)) → Memᴰ t (terms_in ar ls)
unfolding terms_in
in-terms ar [] l t x'' i = elim x'' [ ]
in-terms ar (m ∷ ls) l t (Memᴰ.head e) i =
    Memᴰ.append_left (terms_in ar ls) (subst (λ (x : Literal). Memᴰ t (terms_of ar (unpacked x.label))) e i)
in-terms ar (m ∷ ls) l t (Memᴰ.tail n) i = Memᴰ.append_right (terms_of ar (unpacked m.label)) (in-terms ar ls l t n i)

mem-turned : (us : List ℕ) (t : ℕ) → Memᴰ t (turned us) → Memᴰ t us
mem-turned [] t m = m
mem-turned (a ∷ []) t m = m
mem-turned (a ∷ b ∷ r) t (Memᴰ.head e) = Memᴰ.tail (Memᴰ.head e)
mem-turned (a ∷ b ∷ r) t (Memᴰ.tail (Memᴰ.head e)) = Memᴰ.head e
mem-turned (a ∷ b ∷ r) t (Memᴰ.tail (Memᴰ.tail m)) = Memᴰ.tail (Memᴰ.tail m)

mem-way : (p : ℕ) (us vs : List ℕ) (t : ℕ) → Memᴰ us (ways p vs) → Memᴰ t us → Memᴰ t vs
mem-way zero us vs t (Memᴰ.head e) m = subst (λ (x : List ℕ). Memᴰ t x) e m
mem-way zero us vs t (Memᴰ.tail (Memᴰ.head e)) m = mem-turned vs t (subst (λ (x : List ℕ). Memᴰ t x) e m)
mem-way zero us vs t (Memᴰ.tail (Memᴰ.tail n)) m = absurd (Memᴰ.not-nil n)
mem-way (suc p) us vs t n m = subst (λ (x : List ℕ). Memᴰ t x) (Memᴰ.eq_of_singleton n) m

pub target-image : (ar : List ℕ) (ls : List Literal) (T : List ℕ) (l : Literal) → ((t : ℕ) → Memᴰ t (terms_in ar ls) → Memᴰ t T)
    → (us : List ℕ) → Memᴰ us (targets ar ls T l) → (t : ℕ) → Memᴰ t us → Memᴰ t T
unfolding targets
target-image ar ls T l in_t us w t m = go (Memᴰ.append_cases (ways_among ar (predicate_of l.label) l.sign ls) w)
  where
    same : (x : ℕ) → Memᴰ t (x ∷ x ∷ []) → t ≡ x
    same x (Memᴰ.head e) = e
    same x (Memᴰ.tail (Memᴰ.head e)) = e
    same x (Memᴰ.tail (Memᴰ.tail n)) = absurd (Memᴰ.not-nil n)

    truly : (p : ℕ) (b : Bool) → Memᴰ us (plain_ways p b T) → Memᴰ t T
    truly zero true n =
        let r = twice-out T us n in
        subst (λ (x : ℕ). Memᴰ x T) (sym (same r.0 (subst (λ (x : List ℕ). Memᴰ t x) r.1 m))) r.2
    truly zero false n = absurd (Memᴰ.not-nil n)
    truly (suc p) b n = absurd (Memᴰ.not-nil n)

    go : Memᴰ us (ways_among ar (predicate_of l.label) l.sign ls) ⊎ Memᴰ us (plain_ways (predicate_of l.label) l.sign T) → Memᴰ t T
    go (inl n) =
        let r = among-out ar (predicate_of l.label) l.sign ls us n in
        in_t t (in-terms ar ls (lit r.label l.sign) t r.one_of (mem-way (predicate_of l.label) us (terms_of ar (unpacked r.label)) t r.way m))
    go (inr n) = truly (predicate_of l.label) l.sign n

-- ===== The search =====
pub some_out : (l : List (List ℕ)) (f : List ℕ → Bool) → some_of l f ≡ true → (us : List ℕ) × Memᴰ us l × (f us ≡ true)
some_out [] f e = clash e refl
some_out (us ∷ r) f e = go (either (f us) (some_of r f) e) (some_out r f)
  where
    go : Either (f us) (some_of r f) → (some_of r f ≡ true → (vs : List ℕ) × Memᴰ vs r × (f vs ≡ true)) → (vs : List ℕ) × Memᴰ vs (us ∷ r) × (f vs ≡ true)
    go (one q) rec = (us, Memᴰ.head refl, q)
    go (other q) rec = let k = rec q in (k.0, Memᴰ.tail k.1, k.2)

pub some_in : (l : List (List ℕ)) (f : List ℕ → Bool) (us : List ℕ) → Memᴰ us l → f us ≡ true → some_of l f ≡ true
some_in [] f us x'' k = elim x'' [ ]
some_in (vs ∷ r) f us (Memᴰ.head e) k = or-one (f vs) (some_of r f) (ap f (sym e) ∙ k)
some_in (vs ∷ r) f us (Memᴰ.tail n) k = or-other (f vs) (some_of r f) (some_in r f us n k)

or_else : Option ℕ → ℕ → ℕ
or_else none t = t
or_else (some u) t = u

module _ (ar : List ℕ) (ls : List Literal) (T : List ℕ) (ok : Searchable ar ls T) where
  pub matches-sound : (qs : List Literal) (τ : Partial) → matches ar ls T qs τ ≡ true → Solves ar ls T qs τ
  unfolding matches or_else
  matches-sound [] τ e = record {
    σ = λ t. or_else (τ t) t;
    extends = record { known = λ t u q. ap (λ o. or_else o t) q };
    image = λ l n. absurd (Memᴰ.not-nil n);
    matched = λ l n. absurd (Memᴰ.not-nil n);
  }
  matches-sound (l ∷ qs) τ e = go (some_out (targets ar ls T l) _ e) (λ τ'. matches-sound qs τ')
    where
      ts : List ℕ
      ts = terms_of ar (unpacked l.label)

      more : (us : List ℕ) → Memᴰ us (targets ar ls T l) → (τ' : Partial) → bind_terms τ ts us ≡ some τ' → Solves ar ls T qs τ' → Solves ar ls T (l ∷ qs) τ
      more us w τ' q s =
          let b = binds-only s.σ τ τ' ts us q s.extends in
          record { σ = s.σ; extends = b.0; image = image b.1; matched = matched b.1 }
        where
          image : map s.σ ts ≡ us → (m : Literal) → Memᴰ m (l ∷ qs) → (t : ℕ) → Memᴰ t (terms_of ar (unpacked m.label)) → Memᴰ (s.σ t) T
          image z m (Memᴰ.head k) t i =
              target-image ar ls T l ok.holds-terms us w (s.σ t)
              (subst (λ (x : List ℕ). Memᴰ (s.σ t) x) z (mem-map s.σ ts t (subst (λ (x : Literal). Memᴰ t (terms_of ar (unpacked x.label))) k i)))
          image z m (Memᴰ.tail k) t i = s.image m k t i

          matched : map s.σ ts ≡ us → (m : Literal) → Memᴰ m (l ∷ qs) → Matched ar s.σ ls m
          matched z m (Memᴰ.head k) =
              rw k (target_sound ar ok.arities s.σ ls T l ok.labels (subst (λ (x : List ℕ). Memᴰ x (targets ar ls T l)) (sym z) w))
          matched z m (Memᴰ.tail k) = s.matched m k

      go : (us : List ℕ) × Memᴰ us (targets ar ls T l) × (go_on (bind_terms τ ts us) (λ τ'. matches ar ls T qs τ') ≡ true)
          → ((τ' : Partial) → matches ar ls T qs τ' ≡ true → Solves ar ls T qs τ') → Solves ar ls T (l ∷ qs) τ
      go r rec = at (bind_terms τ ts r.0) refl r.2
        where
          at : (o : Option Partial) → bind_terms τ ts r.0 ≡ o → go_on o (λ τ'. matches ar ls T qs τ') ≡ true → Solves ar ls T (l ∷ qs) τ
          at none q z = clash z refl
          at (some τ') q z = more r.0 r.1 τ' q (rec τ' z)

  pub matches-complete : (qs : List Literal) (τ : Partial) → Solves ar ls T qs τ → matches ar ls T qs τ ≡ true
  unfolding matches
  matches-complete [] τ s = refl
  matches-complete (l ∷ qs) τ s =
      let ts = terms_of ar (unpacked l.label) in
      let b = binds-some s.σ τ ts s.extends in
      some_in (targets ar ls T l) _ (map s.σ ts)
      (target-complete ar ok.arities s.σ ls T l ok.small (s.image l (Memᴰ.head refl)) (s.matched l (Memᴰ.head refl)))
      (ap (λ o. go_on o (λ τ'. matches ar ls T qs τ')) b.1
      ∙ matches-complete qs b.0 (record {
        σ = s.σ;
        extends = b.2;
        image = λ m n. s.image m (Memᴰ.tail n);
        matched = λ m n. s.matched m (Memᴰ.tail n);
      }))

  -- the order of the literals does not matter
  pub matches-order : (qs rs : List Literal) (τ : Partial) → ((l : Literal) → Memᴰ l qs → Memᴰ l rs) → ((l : Literal) → Memᴰ l rs → Memᴰ l qs)
      → matches ar ls T qs τ ≡ matches ar ls T rs τ
  matches-order qs rs τ f g = same_tests _ _ (λ e. matches-complete rs τ (turn qs rs g (matches-sound qs τ e))) (λ e. matches-complete qs τ (turn rs qs f (matches-sound rs τ e)))
    where
      turn : (xs ys : List Literal) → ((l : Literal) → Memᴰ l ys → Memᴰ l xs) → Solves ar ls T xs τ → Solves ar ls T ys τ
      turn xs ys h s = record { σ = s.σ; extends = s.extends; image = λ l n. s.image l (h l n); matched = λ l n. s.matched l (h l n) }
