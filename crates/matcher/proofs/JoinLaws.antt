-- Literals that share no variable match exactly if each of them match.
use mathlib.Core.Path.{◌≡◌, refl, sym, ap, ap₂, subst, ◌∙◌}
use mathlib.Core.Logic.{◌⊎◌, inl, inr}
use mathlib.Core.Bool.{Bool, true, false, cond}
use mathlib.Core.List.Memᴰ
use mathlib.Core.List.{List, [], ◌∷◌, ◌++◌, map, Memᴰ}
use mathlib.Core.Option.{some}
use Prim.Native.Nat.{ℕ}
use lib.Dec.{eqb}
use borrow.Author.Tests.{eqb-true, eq-eqb}
use Rattle.basics.specs.Tests.{Flag, is_true, is_false, flag, Either, one, other, either, or-one, or-other}
use Rattle.basics.specs.Members.{mem, clash}
use Rattle.label.specs.Terms.{is_variable}
use Rattle.label.specs.Labels.{are_arities, predicate_of, unpacked, terms_of}
use Rattle.label.specs.Renamings.{moved}
use Rattle.paths.specs.Paths.{Literal, terms_in}
use Rattle.cutting.specs.Match.{start, matches}
use Rattle.cutting.specs.Cut.{Matched, plain, found}
use Rattle.cutting.proofs.MovedLaws.{asks, moved-asks}
use Rattle.cutting.specs.Searchable.{Searchable, Solves}
use Rattle.cutting.proofs.MatchLaws.{matches-sound, matches-complete, in-terms}
use Rattle.cutting.proofs.CoverLaws.{start-other}
use Rattle.matcher.proofs.CoversLaws.{of-terms}

map_same : (σ υ : ℕ → ℕ) (ts : List ℕ) → ((t : ℕ) → Memᴰ t ts → σ t ≡ υ t) → map σ ts ≡ map υ ts
map_same σ υ [] h = refl
map_same σ υ (t ∷ ts) h = ap₂ ◌∷◌ (h t (Memᴰ.head refl)) (map_same σ υ ts (λ u m. h u (Memᴰ.tail m)))

-- what a literal becomes depends on its terms alone
matched-same : (ar : List ℕ) → are_arities ar ≡ true → (σ υ : ℕ → ℕ) (ls : List Literal) (l : Literal)
    → ((t : ℕ) → Memᴰ t (terms_of ar (unpacked l.label)) → σ t ≡ υ t) → Matched ar σ ls l → Matched ar υ ls l
matched-same ar good σ υ ls l h m = go m
  where
    same : moved ar υ l.label ≡ moved ar σ l.label
    same =
        moved-asks ar υ l.label good ∙ ap (asks (predicate_of l.label)) (sym (map_same σ υ (terms_of ar (unpacked l.label)) h))
        ∙ sym (moved-asks ar σ l.label good)

    go : Matched ar σ ls l → Matched ar υ ls l
    go (plain e k) = plain (same ∙ e) k
    go (found k e i) = found k (same ∙ e) i

mem-true : (t : ℕ) (ts : List ℕ) → Memᴰ t ts → mem eqb t ts ≡ true
mem-true t [] x' = elim x' [ ]
mem-true t (u ∷ ts) (Memᴰ.head e) = or-one (eqb t u) (mem eqb t ts) (eq-eqb t u e)
mem-true t (u ∷ ts) (Memᴰ.tail m) = or-other (eqb t u) (mem eqb t ts) (mem-true t ts m)

true-mem : (t : ℕ) (ts : List ℕ) → mem eqb t ts ≡ true → Memᴰ t ts
true-mem t [] e = clash e refl
true-mem t (u ∷ ts) e = go (either (eqb t u) (mem eqb t ts) e) (true-mem t ts)
  where
    go : Either (eqb t u) (mem eqb t ts) → (mem eqb t ts ≡ true → Memᴰ t ts) → Memᴰ t (u ∷ ts)
    go (one q) rec = Memᴰ.head (eqb-true t u q)
    go (other q) rec = Memᴰ.tail (rec q)

module _ (ar : List ℕ) (ls : List Literal) (T : List ℕ) (ok : Searchable ar ls T) where
  -- fewer literals match too
  pub matches-fewer : (qs rs : List Literal) → ((l : Literal) → Memᴰ l rs → Memᴰ l qs) → matches ar ls T qs start ≡ true → matches ar ls T rs start ≡ true
  matches-fewer qs rs f e =
      let s = matches-sound ar ls T ok qs start e in
      matches-complete ar ls T ok rs start (record { σ = s.σ; extends = s.extends; image = λ l n. s.image l (f l n); matched = λ l n. s.matched l (f l n) })

  -- two lists that share no variable
  abbrev pub Disjoint : List Literal → List Literal → Type 0
  Disjoint qs rs = (l m : Literal) → Memᴰ l qs → Memᴰ m rs → (t : ℕ) → Memᴰ t (terms_of ar (unpacked l.label))
      → Memᴰ t (terms_of ar (unpacked m.label)) → is_variable t ≡ false

  solves-join : (qs rs : List Literal) → Disjoint qs rs → Solves ar ls T qs start → Solves ar ls T rs start → Solves ar ls T (qs ++ rs) start
  solves-join qs rs apart s u = record { σ = σ; extends = record { known = λ t w z. known t w z (mem eqb t (terms_in ar qs)) }; image = image; matched = matched }
    where
      σ : ℕ → ℕ
      σ t = cond (mem eqb t (terms_in ar qs)) (s.σ t) (u.σ t)

      known : (t w : ℕ) → start t ≡ some w → (b : Bool) → cond b (s.σ t) (u.σ t) ≡ w
      known t w z true = s.extends.known t w z
      known t w z false = u.extends.known t w z

      left : (l : Literal) → Memᴰ l qs → (t : ℕ) → Memᴰ t (terms_of ar (unpacked l.label)) → s.σ t ≡ σ t
      left l n t i = sym (ap (λ (b : Bool). cond b (s.σ t) (u.σ t)) (mem-true t (terms_in ar qs) (in-terms ar qs l t n i)))

      right : (l : Literal) → Memᴰ l rs → (t : ℕ) → Memᴰ t (terms_of ar (unpacked l.label)) → u.σ t ≡ σ t
      right l n t i = go (flag (mem eqb t (terms_in ar qs)))
        where
          go : Flag (mem eqb t (terms_in ar qs)) → u.σ t ≡ σ t
          go (is_false q) = sym (ap (λ (b : Bool). cond b (s.σ t) (u.σ t)) q)
          go (is_true q) =
              let o = of-terms ar qs t (true-mem t (terms_in ar qs) q) in
              let f = start-other t (apart o.0 l o.1 n t o.2 i) in
              u.extends.known t t f ∙ sym (s.extends.known t t f) ∙ sym (ap (λ (b : Bool). cond b (s.σ t) (u.σ t)) q)

      image : (l : Literal) → Memᴰ l (qs ++ rs) → (t : ℕ) → Memᴰ t (terms_of ar (unpacked l.label)) → Memᴰ (σ t) T
      image l n t i = go (Memᴰ.append_cases qs n)
        where
          go : Memᴰ l qs ⊎ Memᴰ l rs → Memᴰ (σ t) T
          go (inl m) = subst (λ (v : ℕ). Memᴰ v T) (left l m t i) (s.image l m t i)
          go (inr m) = subst (λ (v : ℕ). Memᴰ v T) (right l m t i) (u.image l m t i)

      matched : (l : Literal) → Memᴰ l (qs ++ rs) → Matched ar σ ls l
      matched l n = go (Memᴰ.append_cases qs n)
        where
          go : Memᴰ l qs ⊎ Memᴰ l rs → Matched ar σ ls l
          go (inl m) = matched-same ar ok.arities s.σ σ ls l (left l m) (s.matched l m)
          go (inr m) = matched-same ar ok.arities u.σ σ ls l (right l m) (u.matched l m)

  pub matches-join : (qs rs : List Literal) → Disjoint qs rs → matches ar ls T qs start ≡ true → matches ar ls T rs start ≡ true → matches ar ls T (qs ++ rs) start ≡ true
  matches-join qs rs apart e d =
      matches-complete ar ls T ok (qs ++ rs) start (solves-join qs rs apart (matches-sound ar ls T ok qs start e) (matches-sound ar ls T ok rs start d))
