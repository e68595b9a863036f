-- Tests that decide, put together.
use Rattle.std.specs.Prelude.{◌≡◌, refl, Bool, true, false, ◌&&◌, ◌||◌, ℕ, ◌≤◌, ◌<◌, eqb, ltb, leb}
use Rattle.std.proofs.Common.{ap₂, eqb-true, eq-eqb, ltb-true, lt-ltb, leb-true, le-leb}
use Rattle.basics.specs.Tests.{Flag, is_true, is_false, flag, and_left, and_right}
use Rattle.basics.specs.Members.{clash}
use Rattle.diagram.specs.Words.{every_below}
use Rattle.diagram.specs.WordLaws.{every-below, below-every}
use Rattle.listing.specs.Check.{Decides}

pub decide : {b : Bool} {P : Type 0} → (b ≡ true → P) → (P → b ≡ true) → Decides b P
decide f g = record { yes = f; no = λ e p. clash (g p) e }

pub decided : {b : Bool} {P : Type 0} → Decides b P → P → b ≡ true
decided {b} {P} d p = go (flag b)
  where
    go : Flag b → b ≡ true
    go (is_true e) = e
    go (is_false e) = absurd (d.no e p)

-- the same fact in other words
pub on : {b : Bool} {P Q : Type 0} → Decides b P → (P → Q) → (Q → P) → Decides b Q
on d f g = decide (λ e. f (d.yes e)) (λ q. decided d (g q))

-- two tests, the second one only where the first is passed
pub both : {a b : Bool} {P Q : Type 0} → Decides a P → (P → Decides b Q) → Decides (a && b) (P × Q)
both {a} {b} x y =
    decide (λ e. let p = x.yes (and_left a b e) in (p, (y p).yes (and_right a b e))) (λ r. ap₂ ◌&&◌ (decided x r.0) (decided (y r.0) r.1))

-- a test that is skipped where a is true
pub unless : {b : Bool} {Q : Type 0} (a : Bool) → Decides b Q → Decides (a || b) (a ≡ false → Q)
unless true d = decide (λ e f. clash refl f) (λ f. refl)
unless false d = decide (λ e f. d.yes e) (λ f. decided d (f refl))

pub at_most : (m n : ℕ) → Decides (leb m n) (m ≤ n)
at_most m n = decide (leb-true m n) (le-leb m n)

pub less : (m n : ℕ) → Decides (ltb m n) (m < n)
less m n = decide (ltb-true m n) (lt-ltb m n)

pub equal : (m n : ℕ) → Decides (eqb m n) (m ≡ n)
equal m n = decide (eqb-true m n) (eq-eqb m n)

pub is_true_lem : (b : Bool) → Decides b (b ≡ true)
is_true_lem b = decide (λ e. e) (λ e. e)

pub every : (n : ℕ) (p : ℕ → Bool) (P : ℕ → Type 0) → ((k : ℕ) → k < n → Decides (p k) (P k)) → Decides (every_below n p) ((k : ℕ) → k < n → P k)
every n p P d = decide (λ e k h. (d k h).yes (below-every n p k e h)) (λ f. every-below n p (λ k h. decided (d k h) (f k h)))
