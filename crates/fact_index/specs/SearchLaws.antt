-- Laws of a search for a row of the facts: through the chain of its bucket.
use Rattle.std.specs.Prelude.{◌≡◌, refl, Bool, true, false, List, ℕ, ◌+◌, ◌-◌, ◌*◌, ◌≤◌, ◌<◌, length, get_or}
use Rattle.std.proofs.Common.{sym, ◌∙◌, arith}
use Rattle.basics.specs.Members.{clash}
use Rattle.state.specs.Lent.{fact_words}
use Rattle.table.specs.Chains.{Walking}
use Rattle.table.specs.ChainedLaws.{walking_start, walking_on, link-less}
use Rattle.fact_index.specs.Inner.{bucket_at, indexed_count, Asks, Sought}
use Rattle.fact_index.specs.Index.{buckets}
use Rattle.fact_index.specs.IndexLaws.{chained}

not-true : (b : Bool) → (b ≡ true → ⊥) → b ≡ false
not-true true h = absurd (h refl)
not-true false h = refl

-- the walk of a bucket's chain
pub record Chain (facts index : List ℕ) (q : ℕ → Bool) (b at : ℕ) : Type 0 where
  pub asks : Asks facts index q b
  pub walking : Walking (bucket_at asks.arities facts) (indexed_count facts index) b (λ j. q j ≡ true) at

module _ {facts index : List ℕ} {q : ℕ → Bool} {b : ℕ} (a : Asks facts index q b) where
  pub chain_head : b < length index
  chain_head = omega (arith, a.bucket, a.fits.places)

  pub chain-start : Chain facts index q b (get_or index b 0)
  chain-start = record { asks = a; walking = walking_start (chained a.fits) a.only a.bucket refl }

module _ {facts index : List ℕ} {q : ℕ → Bool} {b at : ℕ} (w : Chain facts index q b at) (n : at ≡ 0 → ⊥) where
  pub chain-row : (at - 1) * fact_words + fact_words ≤ length facts
  chain-row = omega (arith, w.walking.below, w.asks.fits.rows)

  pub chain_link : buckets + (at - 1) < length index
  chain_link = omega (arith, w.walking.below, w.asks.fits.places)

  pub chain-less : get_or index (buckets + (at - 1)) 0 < at
  chain-less = link-less (chained w.asks.fits) w.walking.below n

  pub chain-hit : {r : Bool} → r ≡ q (at - 1) → r ≡ true → Sought q 0 (indexed_count facts index) true
  chain-hit e t = record {
    yes = λ z. (at - 1, omega (arith, w.walking.below), sym e ∙ t);
    no = λ z. clash refl z;
  }

  pub chain-on : {r : Bool} → r ≡ q (at - 1) → r ≡ false → Chain facts index q b (get_or index (buckets + (at - 1)) 0)
  chain-on e t = record { asks = w.asks; walking = walking_on (chained w.asks.fits) w.asks.only w.walking n (λ z. clash z (sym e ∙ t)) }

pub chain-none : {facts index : List ℕ} {q : ℕ → Bool} {b at : ℕ} → Chain facts index q b at → at ≡ 0 → Sought q 0 (indexed_count facts index) false
chain-none {q = q} w z = record {
  yes = λ t. clash t refl;
  no = λ t i h m. not-true (q i) (w.walking.passed i (omega arith) m);
}
