-- Laws of rows filled place by place, in the words of the code.
use mathlib.Core.Path.{◌≡◌, refl, sym, ap, subst, ◌∙◌}
use mathlib.Core.Bool.{Bool, true, false, not}
use mathlib.Core.List.{List, [], ◌∷◌, ◌++◌}
use Prim.Native.Nat.{ℕ, zero, suc, ◌+◌, ◌-◌, ◌*◌, ◌≤◌, ◌<◌}
use native.Mathlib.Omega.{arith}
use borrow.Author.Tests.{not-true, not-false}
use lib.ListN.{length, get_or, set, length-set}
use lib.Seq.{set-get_or, set-set}
use Rattle.label.specs.Limits.{first_variable, most_places}
use Rattle.diagram.specs.Words.{up_to}
use Rattle.state.specs.Lent.{fact_words, most_facts, fact_row}
use Rattle.state.specs.Max.{gather}
use Rattle.next_facts.specs.Reach.{reached, Reaching}
use Rattle.next_facts.specs.Filling.{objects_in, under, spread, Filled, FilledBy, Fillable}
use Rattle.next_facts.specs.FillingLaws.{gather-up_to, gather-most, filled_none, filled-few, filled-then, filled_more}
use Rattle.std.specs.Prelude.{None, Option, Some}

-- the rows of a prefix, by what the diagram can come to
module _ (ar facts ws : List ℕ) (p k n : ℕ) (env : List ℕ) where
  under_none : (c : ℕ) → reached ar facts ws env ≡ false → under ar facts ws p k n c env ≡ []
  unfolding under
  under_none zero e = rw e refl
  under_none (suc c) e = rw e refl

  under_whole : (c : ℕ) → c ≡ 0 → reached ar facts ws env ≡ true → under ar facts ws p k n c env ≡ fact_row p (objects_in env first_variable k) ∷ []
  unfolding under
  under_whole zero z e = rw e refl
  under_whole (suc c) z e = absurd (omega arith)

  under_left : (c : ℕ) → (c ≡ 0 → ⊥) → reached ar facts ws env ≡ true → under ar facts ws p k n c env ≡ spread ar facts ws p k n (c - 1) env n
  unfolding under spread
  under_left zero z e = absurd (z refl)
  under_left (suc c) z e = let q : suc c - 1 ≡ c = omega arith in rw (e, q) refl

-- `fill`
module _ (ar facts ws : List ℕ) (p k n c : ℕ) {env marks out : List ℕ} {count : ℕ} (s : Fillable ar ws env marks out k c count) {b : Bool} (q : b ≡ reached ar facts ws env) where
  pub fill_none : not b ≡ true → FilledBy (under ar facts ws p k n c env) count env out (Some count) env out
  fill_none e = record {
    filled = subst (λ (l : List (List ℕ)). Filled l count out (Some count) out) (sym (under_none ar facts ws p k n env c (sym q ∙ not-true b e))) (filled_none out s.room.few);
    restored = λ m z. refl;
  }

  module _ (e : not b ≡ false) where
    pub fill-row : {r : Option ℕ} {out' : List ℕ} → c ≡ 0 → Filled (fact_row p (objects_in env first_variable k) ∷ []) count out r out'
        → FilledBy (under ar facts ws p k n c env) count env out r env out'
    fill-row {r} {out'} z f = record {
      filled = subst (λ (l : List (List ℕ)). Filled l count out r out') (sym (under_whole ar facts ws p k n env c z (sym q ∙ not-false b e))) f;
      restored = λ m y. refl;
    }

    pub fill-left : {r : Option ℕ} {env' out' : List ℕ} → (c ≡ 0 → ⊥) → FilledBy (spread ar facts ws p k n (c - 1) env n) count env out r env' out'
        → FilledBy (under ar facts ws p k n c env) count env out r env' out'
    fill-left {r} {env'} {out'} z f =
        subst (λ (l : List (List ℕ)). FilledBy l count env out r env' out') (sym (under_left ar facts ws p k n env c z (sym q ∙ not-false b e))) f

pub fill_on : {ar ws env marks marks' out : List ℕ} {k c count : ℕ} → Fillable ar ws env marks out k c count → length marks' ≡ length marks → (c ≡ 0 → ⊥)
    → Fillable ar ws env marks' out k (c - 1 + 1) count
fill_on {c = c} s e n = record {
  reaching = record { valid = s.reaching.valid; words = s.reaching.words; places = omega (arith, s.reaching.places) };
  most = s.most;
  left = omega (arith, s.left);
  room = s.room;
}

-- `spread`: the rows below v are written; with what stood there before, env is as it was
pub record Spreading (ar facts ws env₀ env marks₀ marks out₀ out : List ℕ) (p k n c count m v : ℕ) : Type 0 where
  pub reaching : Reaching ar ws env marks
  pub most : k ≤ most_places
  pub left : c + 1 ≤ k
  pub room : most_facts * fact_words ≤ length out
  pub env-same : length env ≡ length env₀
  pub marks-same : length marks ≡ length marks₀
  pub out-same : length out ≡ length out₀
  pub before : set env (first_variable + (k - (c + 1))) (get_or env₀ (first_variable + (k - (c + 1))) 0) ≡ env₀
  pub within : v ≤ n
  pub filled : Filled (spread ar facts ws p k n c env₀ v) count out₀ (Some m) out

pub spreading-start : {ar ws env marks out : List ℕ} (facts : List ℕ) (p : ℕ) {k : ℕ} (n : ℕ) {c count : ℕ} → Fillable ar ws env marks out k (c + 1) count
    → Spreading ar facts ws env env marks marks out out p k n c count count 0
unfolding spread
spreading-start {env = env} {out = out} facts p {k} n {c} s = record {
  reaching = s.reaching;
  most = s.most;
  left = s.left;
  room = s.room.words;
  env-same = refl;
  marks-same = refl;
  out-same = refl;
  before = set-get_or env (first_variable + (k - (c + 1))) 0;
  within = omega arith;
  filled = filled_none out s.room.few;
}

module _ {ar facts ws env₀ env marks₀ marks out₀ out : List ℕ} {p k n c count m v : ℕ} (s : Spreading ar facts ws env₀ env marks₀ marks out₀ out p k n c count m v) where
  pub spreading-room : first_variable + (k - (c + 1)) < length env
  spreading-room = omega (arith, s.reaching.words, s.most, s.left)

  here : (o : ℕ) → set env (first_variable + (k - (c + 1))) o ≡ set env₀ (first_variable + (k - (c + 1))) o
  here o =
      sym (set-set env (first_variable + (k - (c + 1))) (get_or env₀ (first_variable + (k - (c + 1))) 0) o)
      ∙ ap (λ (l : List ℕ). set l (first_variable + (k - (c + 1))) o) s.before

  module _ (h : v < n) where
    pub spreading-fillable : Fillable ar ws (set env (first_variable + (k - (c + 1))) v) marks out k c m
    spreading-fillable = record {
      reaching = record { valid = s.reaching.valid; words = rw length-set s.reaching.words; places = s.reaching.places };
      most = s.most;
      left = omega (arith, s.left);
      room = record { words = s.room; few = filled-few s.filled };
    }

    module _ {r : Option ℕ} {env' out' : List ℕ} (f : FilledBy (under ar facts ws p k n c (set env (first_variable + (k - (c + 1))) v)) m
        (set env (first_variable + (k - (c + 1))) v) out r env' out') where
      more : Filled (spread ar facts ws p k n c env₀ (v + 1)) count out₀ r out'
      unfolding spread
      more =
          subst (λ (l : List (List ℕ)). Filled l count out₀ r out')
          (ap (λ (l : List ℕ). gather (λ o. under ar facts ws p k n c (set env₀ (first_variable + (k - (c + 1))) o)) (up_to v) ++ under ar facts ws p k n c l) (here v)
          ∙ sym (gather-up_to (λ o. under ar facts ws p k n c (set env₀ (first_variable + (k - (c + 1))) o)) v))
          (filled-then s.filled f.filled)

      pub spreading-many : (e : r ≡ None) → FilledBy (spread ar facts ws p k n c env₀ n) count env₀ out₀ None env' out'
      unfolding spread
      spreading-many e = record {
        filled = filled_more (subst (λ (x : Option ℕ). Filled (spread ar facts ws p k n c env₀ (v + 1)) count out₀ x out') e more)
            (gather-most (λ o. under ar facts ws p k n c (set env₀ (first_variable + (k - (c + 1))) o)) (v + 1) n (omega arith));
        restored = λ x z. absurd (let o : ◌≡◌ {A = ℕ} 0 1 = cc in omega arith);
      }

      pub spreading-on : {marks' : List ℕ} {m' : ℕ} → length env' ≡ length (set env (first_variable + (k - (c + 1))) v) → length marks' ≡ length marks → length out' ≡ length out
          → r ≡ Some m' → Spreading ar facts ws env₀ env' marks₀ marks' out₀ out' p k n c count m' (v + 1)
      spreading-on {marks'} {m'} a b d e = record {
        reaching = record { valid = s.reaching.valid; words = a ∙ length-set env (first_variable + (k - (c + 1))) v ∙ s.reaching.words; places = omega (arith, s.reaching.places) };
        most = s.most;
        left = s.left;
        room = omega (arith, s.room);
        env-same = a ∙ length-set env (first_variable + (k - (c + 1))) v ∙ s.env-same;
        marks-same = b ∙ s.marks-same;
        out-same = d ∙ s.out-same;
        before =
            ap (λ (l : List ℕ). set l (first_variable + (k - (c + 1))) (get_or env₀ (first_variable + (k - (c + 1))) 0)) (f.restored m' e)
            ∙ set-set env (first_variable + (k - (c + 1))) v (get_or env₀ (first_variable + (k - (c + 1))) 0) ∙ s.before;
        within = omega arith;
        filled = subst (λ (x : Option ℕ). Filled (spread ar facts ws p k n c env₀ (v + 1)) count out₀ x out') e more;
      }

  pub spreading-env : {x : ℕ} → x ≡ length (set env (first_variable + (k - (c + 1))) v) → x ≡ length env₀
  spreading-env e = e ∙ length-set env (first_variable + (k - (c + 1))) v ∙ s.env-same

  pub spreading-end : n ≤ v → FilledBy (spread ar facts ws p k n c env₀ n) count env₀ out₀ (Some m)
      (set env (first_variable + (k - (c + 1))) (get_or env₀ (first_variable + (k - (c + 1))) 0)) out
  spreading-end h =
      let z : v ≡ n = omega (arith, s.within) in
      record {
        filled = subst (λ (x : ℕ). Filled (spread ar facts ws p k n c env₀ x) count out₀ (Some m) out) z s.filled;
        restored = λ x e. s.before;
      }
