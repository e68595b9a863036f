-- Laws of a hash index, for any places and buckets: none indexed, one more, the walk of a chain, and the heads cleared place by place.
use Rattle.std.specs.Prelude.{◌≡◌, ℕ, ◌+◌, ◌-◌, ◌≤◌, ◌<◌}
use Rattle.std.proofs.Common.{sym, ap, subst, ◌∙◌, ⊎_elim, zero-le, add-one, arith}
use Rattle.basics.specs.Tests.{Cmp, below, equal, above, cmp}
use Rattle.table.specs.Chains.{prev, Chained, Walking, Cleared}
use Rattle.table.specs.ChainLaws.{test, prev-zero, prev-same, prev-other, prev-le, prev-gap, prev-hits, prev-none, prev-ext}

pub chained-none : (f : ℕ → ℕ) {slots : ℕ} {head : ℕ → ℕ} (link : ℕ → ℕ) → ((b : ℕ) → b < slots → head b ≡ 0) → Chained f slots head link 0
chained-none f link z = record { heads = λ b l. z b l ∙ sym (prev-zero f b); links = λ k l. absurd (omega arith) }

module _ {f : ℕ → ℕ} {slots : ℕ} {head link : ℕ → ℕ} {n : ℕ} (t : Chained f slots head link n) where
  -- the same places by another function
  pub chained-as : (g : ℕ → ℕ) → ((k : ℕ) → k < n → f k ≡ g k) → Chained g slots head link n
  chained-as g e = record {
    heads = λ b l. t.heads b l ∙ prev-ext f g b n e;
    links = λ k l. t.links k l ∙ ap (λ (b : ℕ). prev f b k) (e k l) ∙ prev-ext f g (g k) k (λ j m. e j (omega arith));
  }

  -- one more place, in bucket b: it becomes the head, and what was the head its link
  pub chained_more : (b : ℕ) (head' link' : ℕ → ℕ) → f n ≡ b → b < slots → head' b ≡ n + 1 → ((x : ℕ) → x < slots → (x ≡ b → ⊥) → head' x ≡ head x)
      → link' n ≡ head b → ((k : ℕ) → k < n → link' k ≡ link k) → Chained f slots head' link' (n + 1)
  chained_more b head' link' e l h others p stay = record {
    heads = λ x m. ⊎_elim
        (λ (q : x ≡ b). subst (λ (y : ℕ). head' y ≡ prev f y (n + 1)) (sym q) (h ∙ rw add-one (sym (prev-same f b n e))))
        (λ (q : x ≡ b → ⊥). others x m q ∙ t.heads x m ∙ rw add-one (sym (prev-other f x n (λ z. q (sym z ∙ e)))))
        (test x b);
    links = λ k m. ⊎_elim
        (λ (q : k ≡ n). subst (λ (y : ℕ). link' y ≡ prev f (f y) y) (sym q) (p ∙ t.heads b l ∙ ap (λ (x : ℕ). prev f x n) (sym e)))
        (λ (q : k ≡ n → ⊥). stay k (omega arith) ∙ t.links k (omega arith))
        (test k n);
  }

  module _ {P : ℕ → Type 0} {b at : ℕ} (only : (k : ℕ) → P k → f k ≡ b) where
    pub walking_start : b < slots → at ≡ head b → Walking f n b P at
    walking_start l e =
        let q : at ≡ prev f b n = e ∙ t.heads b l in
        record {
          below = omega (arith, prev-le f b n);
          bucket = λ i p. prev-hits f b n i (sym q ∙ p);
          passed = λ k h m p. prev-gap f b n k (omega arith) m (only k p);
        }

    pub walking_on : Walking f n b P at → (at ≡ 0 → ⊥) → (P (at - 1) → ⊥) → Walking f n b P (link (at - 1))
    walking_on w z not = record {
      below = omega (arith, q, prev-le f (f i) i, w.below);
      bucket = λ j p. prev-hits f (f i) i j (sym q ∙ p) ∙ e;
      passed = λ k h m p. on k h m p (cmp k i);
    }
      where
        i : ℕ
        i = at - 1

        e : f i ≡ b
        e = w.bucket i (omega arith)

        q : link i ≡ prev f (f i) i
        q = t.links i (omega (arith, w.below))

        on : (k : ℕ) → link i ≤ k → k < n → P k → Cmp k i → ⊥
        on k h m p (below u) = prev-gap f (f i) i k (omega (arith, q)) u (only k p ∙ sym e)
        on k h m p (equal u) = not (subst P u p)
        on k h m p (above u) = w.passed k (omega arith) m p

  -- a link leads down
  pub link-less : {at : ℕ} → at ≤ n → (at ≡ 0 → ⊥) → link (at - 1) < at
  link-less {at} l z = omega (arith, t.links (at - 1) (omega arith), prev-le f (f (at - 1)) (at - 1))

  pub cleared-start : Cleared f slots head n 0
  cleared-start = record { others = λ b l h. t.heads b l ∙ prev-none f b n (λ k m. h k zero-le m) }

module _ {f : ℕ → ℕ} {slots : ℕ} {head : ℕ → ℕ} {n i : ℕ} (w : Cleared f slots head n i) where
  pub cleared-on : (b : ℕ) (head' : ℕ → ℕ) → b ≡ f i → head' b ≡ 0 → ((x : ℕ) → x < slots → (x ≡ b → ⊥) → head' x ≡ head x) → Cleared f slots head' n (i + 1)
  cleared-on b head' e h others = record {
    others = λ x l g. ⊎_elim
        (λ (q : x ≡ b). subst (λ (y : ℕ). head' y ≡ 0) (sym q) h)
        (λ (q : x ≡ b → ⊥). others x l q
        ∙ w.others x l (λ k u v p. ⊎_elim (λ (s : k ≡ i). q (sym p ∙ ap f s ∙ sym e)) (λ (s : k ≡ i → ⊥). g k (omega arith) v p) (test k i)))
        (test x b);
  }

  pub cleared-all : n ≤ i → (b : ℕ) → b < slots → head b ≡ 0
  cleared-all h b l = w.others b l (λ k u v p. omega arith)
