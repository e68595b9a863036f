-- The first n operations of lent words are those that the part of 2n words holds.
use mathlib.Core.Path.{◌≡◌, refl, sym, ap, subst, ◌∙◌}
use mathlib.Core.List.{List, [], ◌∷◌, ◌++◌}
use Prim.Native.Nat.{ℕ, zero, suc, ◌+◌, ◌*◌, ◌/◌, ◌≤◌, ◌<◌}
use native.Mathlib.Omega.{arith}
use lib.ListN.{length, get_or, take}
use lib.Seq.{length-take-le, get_or-take}
use Rattle.build.specs.Machine.{built, built_closed}
use Rattle.drawing.specs.Stacks.{ops_from, whole_ops}
use Rattle.drawing.specs.Writing.{Buildable, Labelled, Callable, Under, BuildAnswered}
use Rattle.names.specs.Many.{many}
use Rattle.reading.specs.Operations.{Op}
use Rattle.reader.specs.OperationWords.{op_at, ops_in}
use Rattle.refusal.specs.declared.Refusal.{Refusal}
use Rattle.std.specs.Prelude.{Result}

from_last : (ws : List ℕ) (k n : ℕ) → ops_from ws k (suc n) ≡ ops_from ws k n ++ (op_at ws (k + n) ∷ [])
unfolding ops_from
from_last ws k zero = let e : k + zero ≡ k = omega arith in rw e
from_last ws k (suc n) =
    let e : suc k + n ≡ k + suc n = omega arith in
    ap (λ (os : List Op). op_at ws k ∷ os) (from_last ws (suc k) n ∙ ap (λ (j : ℕ). ops_from ws (suc k) n ++ (op_at ws j ∷ [])) e)

in-from : (ws : List ℕ) (n : ℕ) → ops_in ws n ≡ ops_from ws 0 n
unfolding ops_in many ops_from
in-from ws zero = refl
in-from ws (suc n) =
    let e : 0 + n ≡ n = omega arith in
    ap (λ (os : List Op). os ++ (op_at ws n ∷ [])) (in-from ws n) ∙ sym (from_last ws 0 n ∙ ap (λ (j : ℕ). ops_from ws 0 n ++ (op_at ws j ∷ [])) e)

module _ (ws : List ℕ) (n : ℕ) (h : n * 2 ≤ length ws) where
  long : length (take (n * 2) ws) ≡ n * 2
  long = length-take-le (n * 2) ws h

  word_at : (i : ℕ) → i < n * 2 → get_or (take (n * 2) ws) i 0 ≡ get_or ws i 0
  word_at i l = get_or-take (n * 2) ws i 0 l

  op-at : (k : ℕ) → k < n → op_at (take (n * 2) ws) k ≡ op_at ws k
  unfolding op_at
  op-at k l = rw (word_at (k * 2) (omega arith), word_at (k * 2 + 1) (omega arith))

  from-part : (k m : ℕ) → k + m ≤ n → ops_from (take (n * 2) ws) k m ≡ ops_from ws k m
  unfolding ops_from
  from-part k zero l = refl
  from-part k (suc m) l = let e = op-at k (omega arith) in let p = from-part (suc k) m (omega arith) in λ i. e i ∷ p i

  part-ops : whole_ops (take (n * 2) ws) ≡ ops_in ws n
  unfolding whole_ops
  part-ops =
      let e : length (take (n * 2) ws) / 2 ≡ n = omega (arith, long) in
      ap (λ (m : ℕ). ops_from (take (n * 2) ws) 0 m) e ∙ from-part 0 n (omega arith) ∙ sym (in-from ws n)

pub part_length : {ops out work : List ℕ} {n : ℕ} → Buildable ops n out work → n * 2 ≡ length (take (n * 2) ops)
part_length {ops} {n = n} g = sym (long ops n g.words)

pub part-callable : {ops out work : List ℕ} {n : ℕ} → Buildable ops n out work → Callable (take (n * 2) ops) out work
part-callable {ops} {n = n} g = record {
  good = record {
    values = λ k l e. rw (word_at ops n g.words (k * 2 + 1) (omega (arith, long ops n g.words)))
        (g.values k (omega (arith, long ops n g.words)) (sym (word_at ops n g.words (k * 2) (omega (arith, long ops n g.words))) ∙ e));
    labels = λ k l e. rw (word_at ops n g.words (k * 2 + 1) (omega (arith, long ops n g.words)))
        (g.labels k (omega (arith, long ops n g.words)) (sym (word_at ops n g.words (k * 2) (omega (arith, long ops n g.words))) ∙ e));
  };
  out-room = g.out-room;
  work-room = g.work-room;
}

pub part-under : {ar ops out work : List ℕ} {n : ℕ} → Labelled ar ops n → Buildable ops n out work → Under ar (take (n * 2) ops)
part-under {ar} {ops} {n = n} l g = record {
  arities = l.arities;
  labels = λ k h e. rw (word_at ops n g.words (k * 2 + 1) (omega (arith, long ops n g.words)))
      (l.labels k (omega (arith, long ops n g.words)) (sym (word_at ops n g.words (k * 2) (omega (arith, long ops n g.words))) ∙ e));
}

module _ {ops out work : List ℕ} {n : ℕ} (g : Buildable ops n out work) {r : Result ℕ Refusal} {out' : List ℕ} where
  pub part-built : BuildAnswered (built (whole_ops (take (n * 2) ops))) out r out' → BuildAnswered (built (ops_in ops n)) out r out'
  part-built a = subst (λ (os : List Op). BuildAnswered (built os) out r out') (part-ops ops n g.words) a

  pub part-closed : (ar : List ℕ) → BuildAnswered (built_closed ar (whole_ops (take (n * 2) ops))) out r out' → BuildAnswered (built_closed ar (ops_in ops n)) out r out'
  part-closed ar a = subst (λ (os : List Op). BuildAnswered (built_closed ar os) out r out') (part-ops ops n g.words) a
