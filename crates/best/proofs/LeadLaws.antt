-- The row of moves has every move once, in order, and the best of a row is the first highest.
use Rattle.std.specs.Prelude.{◌≡◌, ◌⊎◌, Bool, true, false, ℕ, zero, suc, ◌≤◌, ◌<◌, length, replicate, ltb}
use Rattle.std.proofs.Math.Path.{refl, sym, ap, subst}
use Rattle.std.proofs.Common.{◌∙◌, zero-add, add-zero, le_refl, le_trans, ltb-true, ltb-false}
use Rattle.std.proofs.Math.Logic.{inl, inr}
use Rattle.std.proofs.Math.Bool.{cond}
use mathlib.Core.List.Memᴰ
use mathlib.Core.List.{List, [], ◌∷◌, ◌++◌, map, Memᴰ}
use native.Mathlib.Omega.{arith}
use Rattle.basics.specs.Tests.{Cmp, below, equal, above, cmp, Flag, is_true, is_false, flag}
use Rattle.state.specs.State.{State}
use Rattle.state.specs.Max.{Tuple, none, more, tuples}
use Rattle.paths.specs.PathLaws.{mem-map, mem-unmap}
use Rattle.reduction.specs.Inner.{Sorted}
use Rattle.reduction.specs.Claims.{Lower, differs, onwards}
use Rattle.reduction.proofs.CombinationLaws.{tuples-in, in-tuples}
use Rattle.reduction.proofs.OrderLaws.{sorted-append, sorted-map, tuples-order}
use Rattle.mdp.specs.Model.{Action, Model}
use Rattle.best.specs.Moves.{Move, move, action_at, first_move}
use Rattle.best.specs.Best.{Rated, rated, better}
use Rattle.best.specs.Claims.{IsMove, Earlier}
use Rattle.best.specs.Lead.{From, moves_from, lead, Won}

-- ===== The order of moves =====

-- `lower-not` with the lists of the second step apart from those of the first
lower-apart : {os ps os' ps' : List ℕ} → Lower os ps → Lower ps' os' → os ≡ os' → ps ≡ ps' → ⊥
lower-apart (differs {o = o} {p = p} h) (differs {o = p'} {p = o'} k) e d = let a : o ≡ o' = cc in let b : p ≡ p' = cc in omega arith
lower-apart (differs {o = o} {p = p} h) (onwards {o = q} k) e d = let a : o ≡ q = cc in let b : p ≡ q = cc in omega arith
lower-apart (onwards {o = q} h) (differs {o = p'} {p = o'} k) e d = let a : q ≡ o' = cc in let b : q ≡ p' = cc in omega arith
lower-apart (onwards h) (onwards k) e d = lower-apart h k (cc) (cc)

lower-not : {os ps : List ℕ} → Lower os ps → Lower ps os → ⊥
lower-not h k = lower-apart h k refl refl

earlier-not : (x y : Move) → Earlier x y → Earlier y x → ⊥
earlier-not x y (inl h) (inl k) = omega arith
earlier-not x y (inl h) (inr k) = let e = k.0 in omega arith
earlier-not x y (inr h) (inl k) = let e = h.0 in omega arith
earlier-not x y (inr h) (inr k) = lower-not h.1 k.1

-- nothing is earlier than the first move
lower-none : {os ps : List ℕ} (c : ℕ) → Lower os ps → ps ≡ replicate c 0 → ⊥
lower-none zero (differs h) e = let z : ◌≡◌ {A = ℕ} 0 1 = cc in omega arith
lower-none zero (onwards h) e = let z : ◌≡◌ {A = ℕ} 0 1 = cc in omega arith
lower-none (suc c) (differs {p = p} h) e = let z : p ≡ 0 = cc in omega arith
lower-none (suc c) (onwards h) e = lower-none c h (cc)

pub first-none : (m : Model) (x : Move) → Earlier x (first_move m) → ⊥
unfolding first_move
first-none m x (inl h) = omega arith
first-none m x (inr h) = lower-none (action_at m 0).count h.1 refl

noughts : (n c : ℕ) → 0 < n → Tuple n c (replicate c 0)
noughts n zero h = none
noughts n (suc c) h = more h (noughts n c h)

pub first-is : (m : Model) (s : State) → 0 < length m.actions → 0 < s.size → IsMove m s (first_move m)
unfolding first_move
first-is m s h k = record { action-is = h; objects-are = noughts s.size (action_at m 0).count k }

-- ===== The row of moves =====

pub from_all : (m : Model) → From m 0 m.actions
unfolding action_at
from_all m = record { count = omega arith; each = λ j h. rw zero-add refl }

module _ {m : Model} {i : ℕ} {a : Action} {l : List Action} where
  pub from-head : From m i (a ∷ l) → a ≡ action_at m i
  from-head r = r.each 0 (omega arith) ∙ ap (action_at m) (add-zero i)

  pub from_tail : From m i (a ∷ l) → From m (suc i) l
  from_tail r = record {
    count = let e = r.count in omega arith;
    each = λ j h. r.each (suc j) (omega arith) ∙ ap (action_at m) (omega arith);
  }

  from-here : From m i (a ∷ l) → i < length m.actions
  from-here r = let e = r.count in omega arith

module _ (m : Model) (s : State) where
  move-is : (i : ℕ) (a : Action) (l : List Action) → From m i (a ∷ l) → (os : List ℕ) → Tuple s.size a.count os → IsMove m s (move i os)
  move-is i a l r os t = record { action-is = from-here r; objects-are = subst (λ (b : Action). Tuple s.size b.count os) (from-head r) t }

  -- only moves, of actions from number i on
  pub in-moves_from : (i : ℕ) (l : List Action) → From m i l → (x : Move) → Memᴰ x (moves_from s.size i l) → (i ≤ x.action) × IsMove m s x
  unfolding moves_from
  in-moves_from i [] r x h = absurd (Memᴰ.not-nil h)
  in-moves_from i (a ∷ l) r x h = go (Memᴰ.append_cases (map (move i) (tuples s.size a.count)) h) (in-moves_from (suc i) l (from_tail r) x)
    where
      go : Memᴰ x (map (move i) (tuples s.size a.count)) ⊎ Memᴰ x (moves_from s.size (suc i) l)
          → (Memᴰ x (moves_from s.size (suc i) l) → (suc i ≤ x.action) × IsMove m s x) → (i ≤ x.action) × IsMove m s x
      go (inl k) rest =
          let u = mem-unmap (move i) (tuples s.size a.count) x k in
          subst (λ (y : Move). (i ≤ y.action) × IsMove m s y) (sym u.2) (le_refl i, move-is i a l r u.0 (in-tuples s.size a.count u.0 u.1))
      go (inr k) rest = let z = (rest k).0 in (omega arith, (rest k).1)

  -- every one
  pub moves_from-in : (i : ℕ) (l : List Action) → From m i l → (x : Move) → i ≤ x.action → IsMove m s x → Memᴰ x (moves_from s.size i l)
  unfolding moves_from
  moves_from-in i [] r x h k = let e = r.count in let z = k.action-is in absurd (omega arith)
  moves_from-in i (a ∷ l) r x h k = go (cmp i x.action) (moves_from-in (suc i) l (from_tail r) x)
    where
      go : Cmp i x.action → (suc i ≤ x.action → IsMove m s x → Memᴰ x (moves_from s.size (suc i) l))
          → Memᴰ x (map (move i) (tuples s.size a.count) ++ moves_from s.size (suc i) l)
      go (below q) rest = Memᴰ.append_right (map (move i) (tuples s.size a.count)) (rest (omega arith) k)
      go (equal q) rest =
          let t : Tuple s.size a.count x.objects = subst (λ (b : Action). Tuple s.size b.count x.objects) (ap (action_at m) (sym q) ∙ sym (from-head r)) k.objects-are in
          let e : move i x.objects ≡ x = λ j. move (q j) x.objects in
          Memᴰ.append_left (moves_from s.size (suc i) l) (subst (λ (y : Move). Memᴰ y (map (move i) (tuples s.size a.count))) e
          (mem-map (move i) (tuples s.size a.count) x.objects (tuples-in s.size t)))
      go (above q) rest = absurd (omega arith)

  -- in their order
  pub moves_from-order : (i : ℕ) (l : List Action) → From m i l → Sorted Earlier (moves_from s.size i l)
  unfolding moves_from
  moves_from-order i [] r = tt
  moves_from-order i (a ∷ l) r =
      sorted-append Earlier (map (move i) (tuples s.size a.count)) (moves_from s.size (suc i) l)
      (sorted-map Lower Earlier (move i) (tuples s.size a.count) (λ x y h. inr (refl, h)) (tuples-order s.size a.count))
      (moves_from-order (suc i) l (from_tail r))
      (λ x y p q.
      let e = ap (λ (z : Move). z.action) (mem-unmap (move i) (tuples s.size a.count) x p).2 in
      let h = (in-moves_from (suc i) l (from_tail r) y q).0 in
      inl (omega arith))

-- ===== The best of a row =====

module _ (best new : Rated) where
  pub better-new : ltb best.sum new.sum ≡ true → better best new ≡ new
  unfolding better
  better-new e = ap (λ (b : Bool). cond b new best) e

  pub better-old : ltb best.sum new.sum ≡ false → better best new ≡ best
  unfolding better
  better-old e = ap (λ (b : Bool). cond b new best) e

  better-bound : (best.sum ≤ (better best new).sum) × (new.sum ≤ (better best new).sum)
  better-bound = go (flag (ltb best.sum new.sum))
    where
      go : Flag (ltb best.sum new.sum) → (best.sum ≤ (better best new).sum) × (new.sum ≤ (better best new).sum)
      go (is_true e) = let h = ltb-true best.sum new.sum e in rw (better-new e) (omega arith)
      go (is_false e) = let h = ltb-false best.sum new.sum e in rw (better-old e) (omega arith)

module _ (f : Move → ℕ) where
  -- nothing is above it
  pub lead-bound : (best : Rated) (l : List Move) → (best.sum ≤ (lead f best l).sum) × ((y : Move) → Memᴰ y l → f y ≤ (lead f best l).sum)
  unfolding lead
  lead-bound best [] = (le_refl best.sum, λ y h. absurd (Memᴰ.not-nil h))
  lead-bound best (x ∷ l) =
      let r = lead-bound (better best (rated x (f x))) l in
      let b = better-bound best (rated x (f x)) in
      (le_trans b.0 r.0, λ y h. go (lead f (better best (rated x (f x))) l).sum y h (le_trans b.1 r.0) (r.1 y))
    where
      go : (n : ℕ) (y : Move) → Memᴰ y (x ∷ l) → f x ≤ n → (Memᴰ y l → f y ≤ n) → f y ≤ n
      go n y (Memᴰ.head e) h k = subst (λ (z : Move). f z ≤ n) (sym e) h
      go n y (Memᴰ.tail i) h k = k i

  -- it is the best from the beginning, or the first of the row with its sum
  pub lead-won : (best : Rated) (l : List Move) → Sorted Earlier l → (lead f best l ≡ best) ⊎ Won f best l (lead f best l)
  unfolding lead
  lead-won best [] h = inl refl
  lead-won best (x ∷ l) h = go (lead f (better best (rated x (f x))) l) (flag (ltb best.sum (f x))) (lead-won (better best (rated x (f x))) l h.1)
    where
      not-before : (y : Move) → Memᴰ y (x ∷ l) → Earlier y x → ⊥
      not-before y (Memᴰ.head e) k = earlier-not x x (subst (λ (z : Move). Earlier z x) e k) (subst (λ (z : Move). Earlier z x) e k)
      not-before y (Memᴰ.tail i) k = earlier-not x y (h.0 y i) k

      kept : (r : Rated) → Won f (better best (rated x (f x))) l r → Won f best (x ∷ l) r
      kept r w = record {
        member = Memᴰ.tail w.member;
        value = w.value;
        above = let b = better-bound best (rated x (f x)) in let a = w.above in omega arith;
        first = each;
      }
        where
          each : (y : Move) → Memᴰ y (x ∷ l) → Earlier y r.move → f y < r.sum
          each y (Memᴰ.head e) k = subst (λ (z : Move). f z < r.sum) (sym e) (let b = better-bound best (rated x (f x)) in let a = w.above in omega arith)
          each y (Memᴰ.tail i) k = w.first y i k

      go : (r : Rated) → Flag (ltb best.sum (f x)) → (r ≡ better best (rated x (f x))) ⊎ Won f (better best (rated x (f x))) l r → (r ≡ best) ⊎ Won f best (x ∷ l) r
      go r (is_true e) (inl p) = inr (subst (Won f best (x ∷ l)) (sym (p ∙ better-new best (rated x (f x)) e)) (record {
        member = Memᴰ.head refl;
        value = refl;
        above = ltb-true best.sum (f x) e;
        first = λ y i k. absurd (not-before y i k);
      }))
      go r (is_false e) (inl p) = inl (p ∙ better-old best (rated x (f x)) e)
      go r (is_true e) (inr w) = inr (kept r w)
      go r (is_false e) (inr w) = inr (kept r w)

  pub lead-append : (best : Rated) (l m : List Move) → lead f best (l ++ m) ≡ lead f (lead f best l) m
  unfolding lead
  lead-append best [] m = refl
  lead-append best (x ∷ l) m = lead-append (better best (rated x (f x))) l m
