-- Laws of `overflows`: that a pair is there is all that matters.
use Rattle.std.specs.Prelude.{◌≡◌, refl, true, false, ◌||◌, List, [], ◌∷◌, ◌++◌, ℕ}
use Rattle.std.proofs.Common.{sym, ◌∙◌}
use Rattle.std.proofs.Math.Bool.{or_assoc}
use Rattle.basics.specs.Tests.{Flag, is_true, is_false, flag, Either, one, other, either, or-one, or-other}
use Rattle.basics.specs.Members.{mem, Within, clash}
use Rattle.diagram.specs.Diagram.{Diagram}
use Rattle.apply.specs.declared.Operation.{Operation}
use Rattle.apply.specs.Pairs.{Pair, same_pair, ends, pairs, too_high, overflows}
use Rattle.apply.specs.Visit.{visit}
use Rattle.apply.specs.Walk.{Step}
use Rattle.apply.proofs.PairLaws.{pair-test, pairs-root, in-true, in-false}
use Rattle.apply.proofs.VisitLaws.{visit-within, pairs-within}

-- the laws of `overflows`: nothing else unfolds it
pub overflows-none : (op : ℕ → ℕ → ℕ) → overflows op [] ≡ false
unfolding overflows
overflows-none op = refl

pub overflows-cons : (op : ℕ → ℕ → ℕ) (p : Pair) (ps : List Pair) → overflows op (p ∷ ps) ≡ (too_high op p.0 p.1 || overflows op ps)
unfolding overflows
overflows-cons op p ps = refl

pub overflows-append : (op : ℕ → ℕ → ℕ) (ps qs : List Pair) → overflows op (ps ++ qs) ≡ (overflows op ps || overflows op qs)
unfolding overflows
overflows-append op [] qs = refl
overflows-append op (p ∷ ps) qs = rw (overflows-append op ps qs) (sym (or_assoc (too_high op p.0 p.1) (overflows op ps) (overflows op qs)))

-- a pair of ps whose result is above 10^18
pub record Overflow (op : ℕ → ℕ → ℕ) (ps : List Pair) : Type 0 where
  pub pair : Pair
  pub member : mem same_pair pair ps ≡ true
  pub high : too_high op pair.0 pair.1 ≡ true

pub overflow-made : (op : ℕ → ℕ → ℕ) (ps : List Pair) (p : Pair) → mem same_pair p ps ≡ true → too_high op p.0 p.1 ≡ true → overflows op ps ≡ true
unfolding overflows
overflow-made op [] p h k = clash h refl
overflow-made op (q ∷ qs) p h k = go (either (same_pair p q) (mem same_pair p qs) h) (overflow-made op qs p)
  where
    go : Either (same_pair p q) (mem same_pair p qs) → (mem same_pair p qs ≡ true → too_high op p.0 p.1 ≡ true → overflows op qs ≡ true)
        → overflows op (q ∷ qs) ≡ true
    go (one e) ih = or-one (too_high op q.0 q.1) (overflows op qs) (rw (pair-test.sound p q e) at k)
    go (other e) ih = or-other (too_high op q.0 q.1) (overflows op qs) (ih e k)

pub overflow-found : (op : ℕ → ℕ → ℕ) (ps : List Pair) → overflows op ps ≡ true → Overflow op ps
unfolding overflows
overflow-found op [] h = clash h refl
overflow-found op (q ∷ qs) h = go (either (too_high op q.0 q.1) (overflows op qs) h) (overflow-found op qs)
  where
    go : Either (too_high op q.0 q.1) (overflows op qs) → (overflows op qs ≡ true → Overflow op qs) → Overflow op (q ∷ qs)
    go (one e) ih = record { pair = q; member = or-one (same_pair q q) _ (pair-test.complete q); high = e }
    go (other e) ih = let o = ih e in record { pair = o.pair; member = or-other (same_pair o.pair q) _ o.member; high = o.high }

pub overflows-more : (op : ℕ → ℕ → ℕ) (ps qs : List Pair) → Within same_pair ps qs → overflows op ps ≡ true → overflows op qs ≡ true
overflows-more op ps qs w h = let o = overflow-found op ps h in overflow-made op qs o.pair (w o.pair o.member) o.high

pub overflows-less : (op : ℕ → ℕ → ℕ) (ps qs : List Pair) → Within same_pair ps qs → overflows op qs ≡ false → overflows op ps ≡ false
overflows-less op ps qs w h = go (flag (overflows op ps))
  where
    go : Flag (overflows op ps) → overflows op ps ≡ false
    go (is_true e) = clash (overflows-more op ps qs w e) h
    go (is_false e) = e

pub overflows-same : (op : ℕ → ℕ → ℕ) (ps qs : List Pair) → Within same_pair ps qs → Within same_pair qs ps → overflows op ps ≡ overflows op qs
overflows-same op ps qs v w = go (flag (overflows op qs))
  where
    go : Flag (overflows op qs) → overflows op ps ≡ overflows op qs
    go (is_true e) = overflows-more op qs ps w e ∙ sym e
    go (is_false e) = overflows-less op ps qs v e ∙ sym e

pub overflows-visit : (o : ℕ → ℕ → ℕ) (op : Operation) (a b : Diagram) → overflows o (visit op a b []) ≡ overflows o (pairs op a b)
overflows-visit o op a b = overflows-same o (visit op a b []) (pairs op a b) (visit-within op a b) (pairs-within op a b)

-- where no pair overflows, the pair itself does not, and none that it goes down to does
module _ (o : ℕ → ℕ → ℕ) (op : Operation) where
  pub calm-root : (a b : Diagram) → overflows o (pairs op a b) ≡ false → too_high o a b ≡ false
  calm-root a b h = go (flag (too_high o a b))
    where
      go : Flag (too_high o a b) → too_high o a b ≡ false
      go (is_true e) = clash (overflow-made o (pairs op a b) (a, b) (pairs-root op a b) e) h
      go (is_false e) = e

  pub calm-true : {l : ℕ} {a b t u f g : Diagram} → ends op a b ≡ false → Step l a b t u f g → overflows o (pairs op a b) ≡ false → overflows o (pairs op t u) ≡ false
  calm-true {a = a} {b = b} {t = t} {u = u} n s h = overflows-less o (pairs op t u) (pairs op a b) (λ p e. in-true op p n s e) h

  pub calm-false : {l : ℕ} {a b t u f g : Diagram} → ends op a b ≡ false → Step l a b t u f g → overflows o (pairs op a b) ≡ false → overflows o (pairs op f g) ≡ false
  calm-false {a = a} {b = b} {f = f} {g = g} n s h = overflows-less o (pairs op f g) (pairs op a b) (λ p e. in-false op p n s e) h
