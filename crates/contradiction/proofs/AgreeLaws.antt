-- Only the representatives of terms matter: two maps that agree on the terms of the literals say the same.
use Rattle.std.specs.Prelude.{◌≡◌, refl, Bool, true, ◌&&◌, ◌||◌, ℕ, ◌<◌, eqb}
use Rattle.std.proofs.Common.{sym, ap₂, ◌∙◌}
use Rattle.std.proofs.Math.Path.{ap}
use Rattle.std.proofs.Math.Bool.{not, cond}
use mathlib.Core.List.{List, [], ◌∷◌, map, Memᴰ}
use Rattle.label.specs.Labels.{are_arities, predicate_of}
use Rattle.label.specs.declared.Test.{Test}
use Rattle.label.specs.declared.Test.TheVariants.{Always, Is}
use Rattle.paths.specs.Paths.{Literal}
use Rattle.cutting.proofs.MovedLaws.{asks, moved-asks}
use Rattle.contradiction.specs.Contradiction.{literal_terms, joining, join_literal, some_literal, asked, asks_for, affirms, is_said, clashes, clash_under}
use Rattle.contradiction.proofs.JoinLaws.{Joins, joins, leaves, joins-is, TermsBelow, first-named, second-named}

-- tests that agree on the literals
some-agree : (p q : Literal → Bool) (ls : List Literal) → ((l : Literal) → Memᴰ l ls → p l ≡ q l) → some_literal p ls ≡ some_literal q ls
some-agree p q [] e = refl
some-agree p q (k ∷ ls) e = ap₂ ◌||◌ (e k (Memᴰ.head refl)) (some-agree p q ls (λ l m. e l (Memᴰ.tail m)))

-- maps that agree below n, where the terms are
module _ (n : ℕ) (f g : ℕ → ℕ) (same : (t : ℕ) → t < n → f t ≡ g t) where
  joining-agree : (t u x : ℕ) → t < n → u < n → x < n → joining t u f x ≡ joining t u g x
  unfolding joining
  joining-agree t u x a b c = λ i. cond (eqb (same x c i) (same t a i)) (same u b i) (same x c i)

  pub join-agree : (ar : List ℕ) (l : Literal) → ((t : ℕ) → Memᴰ t (literal_terms ar l) → t < n)
      → (x : ℕ) → x < n → join_literal ar l f x ≡ join_literal ar l g x
  join-agree ar l small x h = go (joins-is ar l)
    where
      go : Joins ar l → join_literal ar l f x ≡ join_literal ar l g x
      go (leaves e) = e f x ∙ same x h ∙ sym (e g x)
      go (joins t u s q e) = e f x ∙ joining-agree t u x (small t (first-named q)) (small u (second-named q)) h ∙ sym (e g x)

  map-agree : (ts : List ℕ) → ((t : ℕ) → Memᴰ t ts → t < n) → map f ts ≡ map g ts
  map-agree [] b = refl
  map-agree (t ∷ ts) b = ap₂ ◌∷◌ (same t (b t (Memᴰ.head refl))) (map-agree ts (λ u m. b u (Memᴰ.tail m)))

  module _ (ar : List ℕ) (good : are_arities ar ≡ true) where
    asked-agree : (l : Literal) → ((t : ℕ) → Memᴰ t (literal_terms ar l) → t < n) → asked ar f l ≡ asked ar g l
    asked-agree l small =
        moved-asks ar f l.label good ∙ ap (asks (predicate_of l.label)) (map-agree (literal_terms ar l) small) ∙ sym (moved-asks ar g l.label good)

    module _ (ls : List Literal) (small : TermsBelow n ar ls) where
      affirms-agree : (k : ℕ) (l : Literal) → Memᴰ l ls → affirms ar f k l ≡ affirms ar g k l
      unfolding affirms
      affirms-agree k l m = ap (λ (t : Test). l.sign && asks_for k t) (asked-agree l (small.each l m))

      said-agree : (t : Test) → is_said ar f ls t ≡ is_said ar g ls t
      said-agree Always = refl
      said-agree (Is k) = some-agree (affirms ar f k.packed) (affirms ar g k.packed) ls (affirms-agree k.packed)

      clashes-agree : (l : Literal) → Memᴰ l ls → clashes ar f ls l ≡ clashes ar g ls l
      unfolding clashes
      clashes-agree l m =
          ap (λ (t : Test). not l.sign && is_said ar f ls t) (asked-agree l (small.each l m)) ∙ ap (λ (b : Bool). not l.sign && b) (said-agree (asked ar g l))

      pub clash-agree : clash_under ar f ls ≡ clash_under ar g ls
      unfolding clash_under
      clash-agree = some-agree (clashes ar f ls) (clashes ar g ls) ls clashes-agree
