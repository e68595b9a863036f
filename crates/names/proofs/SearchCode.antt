-- What the search in a table of names needs to know: the keys that it has passed.
use mathlib.Core.Bool.{Bool, true, false}
use mathlib.Core.Path.{◌≡◌, sym, ◌∙◌}
use mathlib.Core.List.{List}
use Prim.Native.Nat.{ℕ, ◌+◌, ◌<◌, ◌≤◌}
use native.Mathlib.Omega.{arith}
use borrow.Author.Count.{below_more}
use Rattle.words.specs.declared.Key.{Key}
use Rattle.names.specs.Keys.{same_key, key_at, keys_at, place_of}
use Rattle.names.specs.KeyLaws.{same_true, same_false, place_at, place_none}

-- the key is none of the first i
pub record Passed (s : List ℕ) (base n : ℕ) (k : Key) (i : ℕ) : Type 0 where
  pub within : i ≤ n
  pub others : (j : ℕ) → j < i → key_at s base j ≡ k → ⊥

module _ {s : List ℕ} {base n : ℕ} {k : Key} where
  pub passed_none : Passed s base n k 0
  passed_none = record { within = omega arith; others = λ j h. absurd (omega arith) }

  module _ {i : ℕ} (p : Passed s base n k i) where
    module _ {x : Key} {b : Bool} (r : x ≡ key_at s base i) (q : b ≡ same_key x k) (l : i < n) where
      pub found : b ≡ true → i ≡ place_of k (keys_at s base n)
      found e = sym (place_at s base n k i l (sym r ∙ same_true x k (sym q ∙ e)) p.others)

      pub passed-more : b ≡ false → Passed s base n k (i + 1)
      passed-more e = record {
        within = omega arith;
        others = below_more _ _ p.others (λ f. same_false x k (sym q ∙ e) (r ∙ f));
      }

    pub found_none : n ≤ i → n ≡ place_of k (keys_at s base n)
    found_none h = sym (place_none s base n k (λ j l. p.others j (omega (arith, p.within))))
