-- A list that begins another one.
use Rattle.std.specs.Prelude.{◌≡◌, refl, Bool, true, List, [], ◌∷◌, ◌++◌, ℕ, ◌≤◌, ◌<◌, length, get_or}
use Rattle.std.proofs.Common.{ap, sym, ◌∙◌, append-nil, append_assoc, arith, length-append}
use Rattle.std.proofs.Math.ListN.{get_or-append}
use Rattle.basics.specs.Members.{mem, append-one}

-- m is l with more behind it
pub record Prefix {A : Type 0} (l m : List A) : Type 0 where
  pub more : List A
  pub is : m ≡ l ++ more

module _ {A : Type 0} where
  pub prefix_refl : (l : List A) → Prefix l l
  prefix_refl l = record { more = []; is = sym (append-nil l) }

  pub prefix-snoc : (l : List A) (x : A) → Prefix l (l ++ (x ∷ []))
  prefix-snoc l x = record { more = x ∷ []; is = refl }

  pub prefix-append : {l m : List A} (n : List A) → Prefix l m → Prefix l (m ++ n)
  prefix-append {l} {m} n p = record { more = p.more ++ n; is = ap (λ (z : List A). z ++ n) p.is ∙ append_assoc l p.more n }

  pub prefix_trans : {l m n : List A} → Prefix l m → Prefix m n → Prefix l n
  prefix_trans {l} {m} {n} p q = let r = prefix-append q.more p in record { more = r.more; is = q.is ∙ r.is }

  pub prefix-length : {l m : List A} → Prefix l m → length l ≤ length m
  prefix-length {l} {m} p = omega (arith, ap length p.is, length-append l p.more)

  pub prefix-get_d : {l m : List A} → Prefix l m → (i : ℕ) (d : A) → i < length l → get_or m i d ≡ get_or l i d
  prefix-get_d {l} {m} p i d h = ap (λ (z : List A). get_or z i d) p.is ∙ get_or-append l p.more d i h

  pub mem-prefix : (eq : A → A → Bool) (x : A) {l m : List A} → Prefix l m → mem eq x l ≡ true → mem eq x m ≡ true
  mem-prefix eq x {l} {m} p h = ap (mem eq x) p.is ∙ append-one eq x l p.more h
