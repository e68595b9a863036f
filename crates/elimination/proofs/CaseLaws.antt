-- Laws of the cases of a label and of the entries of aggregations, as the code counts them.
use Rattle.std.specs.Prelude.{◌≡◌, refl, Bool, true, false, not, cond, List, [], ◌∷◌, ℕ, zero, suc, ◌+◌, ◌*◌, ◌^◌, ◌<◌, length, eqb}
use Rattle.std.proofs.Common.{ap, ap₂, sym, ◌∙◌, arith, mul_comm, pow-add, eq-eqb, ne_eqb, eqb-true}
use Rattle.std.proofs.Math.Path.{fun_ext}
use Rattle.std.proofs.Math.Nat.{pow-zero, pow-succ'}
use Rattle.basics.specs.Tests.{Flag, is_true, is_false, flag, or-one, or-other}
use Rattle.basics.specs.Members.{mem, NoDup, clash}
use Rattle.label.specs.Limits.{first_variable}
use Rattle.state.specs.State.{Atomic, State, holds}
use Rattle.state.specs.Terms.{args}
use Rattle.state.specs.Highest.{put, vars_of, start}
use Rattle.state.proofs.HighestLaws.{put_same, put_other, by-eq}
use Rattle.elimination.specs.Tables.{Table, sum_to, count_choices, without, aggregate, aggregate_entries}
use Rattle.elimination.proofs.NameLaws.{without-ascending, mem-without, length_without}
use Rattle.elimination.specs.Inner.{Full, Named, geometric}
use Rattle.elimination.proofs.TableLaws.{aggregate-full}
use Rattle.elimination.proofs.CountLaws.{sum-const, full-entries, label_cases}

-- ===== Sums =====
swap-sums : (a b c d : ℕ) → (a + b) + (c + d) ≡ (a + c) + (b + d)
swap-sums a b c d = omega arith

pub sum-add : (n : ℕ) (f g : ℕ → ℕ) → sum_to n (λ o. f o + g o) ≡ sum_to n f + sum_to n g
unfolding sum_to
sum-add zero f g = refl
sum-add (suc n) f g = rw (sum-add n f g) (swap-sums (sum_to n f) (sum_to n g) (f n) (g n))

-- two sums change places
pub sum-swap : (n m : ℕ) (f : ℕ → ℕ → ℕ) → sum_to n (λ o. sum_to m (f o)) ≡ sum_to m (λ q. sum_to n (λ o. f o q))
unfolding sum_to
sum-swap n zero f = sum-const n 0 ∙ omega arith
sum-swap n (suc m) f = sum-add n (λ o. sum_to m (f o)) (λ o. f o m) ∙ ap (λ x. x + sum_to n (λ o. f o m)) (sum-swap n m f)

-- ===== The two cases of a label =====
one_of_two : (b : Bool) → cond b 1 0 + cond (not b) 1 0 ≡ 1
one_of_two true = refl
one_of_two false = refl

pub count-split : (n : ℕ) (vs : List ℕ) (θ : ℕ → ℕ) (p : (ℕ → ℕ) → Bool) → count_choices n vs θ p + count_choices n vs θ (λ η. not (p η)) ≡ n ^ length vs
unfolding count_choices
count-split n [] θ p = one_of_two (p θ) ∙ sym (pow-zero n)
count-split n (v ∷ vs) θ p =
    sym (sum-add n (λ o. count_choices n vs (put θ v o) p) (λ o. count_choices n vs (put θ v o) (λ η. not (p η))))
    ∙ ap (sum_to n) (fun_ext (λ o. count-split n vs (put θ v o) p)) ∙ sum-const n (n ^ length vs) ∙ sym (pow-succ' n (length vs))

-- the true and the false cases of a label are all choices for its variables
pub cases-split : (s : State) (os : List ℕ) (a : Atomic) → label_cases s os true a + label_cases s os false a ≡ s.size ^ length (vars_of (args a) [])
unfolding label_cases
cases-split s os a = count-split s.size (vars_of (args a) []) (start s os) (λ θ. holds s θ a)

-- choices from two valuations that agree on what p sees and is not chosen
pub count-agree : (n : ℕ) (S : ℕ → Type 0) (p : (ℕ → ℕ) → Bool) → ((θ η : ℕ → ℕ) → ((t : ℕ) → S t → θ t ≡ η t) → p θ ≡ p η)
    → (vs : List ℕ) (θ η : ℕ → ℕ) → ((t : ℕ) → S t → mem eqb t vs ≡ false → θ t ≡ η t) → count_choices n vs θ p ≡ count_choices n vs η p
unfolding count_choices
count-agree n S p local [] θ η e = ap (λ b. cond b 1 0) (local θ η (λ t s. e t s refl))
count-agree n S p local (v ∷ vs) θ η e = ap (sum_to n) (fun_ext (λ o. count-agree n S p local vs (put θ v o) (put η v o)
    (λ t s m. by-eq (put θ v o t ≡ put η v o t) v t
    (λ q. rw (q, put_same θ v o, put_same η v o))
    (λ q. put_other θ v o t q ∙ e t s (rw (ne_eqb t v q) m) ∙ sym (put_other η v o t q)))))

-- ===== The entries of aggregations =====

pub aggregate-sum : (s : State) (os vs : List ℕ) (x : Table) → 0 < s.size → Full x → Named x → NoDup eqb vs
    → ((t : ℕ) → mem eqb t vs ≡ true → mem eqb t x.names ≡ true) → (k : ℕ) → length x.names ≡ length vs + k
    → aggregate_entries s os vs x ≡ geometric s.size (s.size ^ k) (length vs)
unfolding aggregate_entries geometric aggregate
aggregate-sum s os [] x h w named d inside k e = refl
aggregate-sum s os (v ∷ vs) x h w named d inside k e =
    let l : suc (length (without v x.names)) ≡ length x.names = length_without first_variable v x.names named (inside v (or-one (eqb v v) (mem eqb v vs) (self v))) in
    let l' : length (without v x.names) ≡ length vs + k = omega arith in
    ap₂ ◌+◌
    (full-entries s os (aggregate s.size v x) (aggregate-full s.size v x h w) ∙ ap (λ j. s.size ^ j) l' ∙ power s.size (length vs) k)
    (aggregate-sum s os vs (aggregate s.size v x) h (aggregate-full s.size v x h w) (without-ascending first_variable v x.names named) d.1
    (λ t m. mem-without t v x.names ∙ rw (inside t (or-other (eqb t v) _ m), other_name t m)) k l')
  where
    self : (t : ℕ) → eqb t t ≡ true
    self t = eq-eqb t t refl

    other_name : (t : ℕ) → mem eqb t vs ≡ true → eqb t v ≡ false
    other_name t m = go (flag (eqb t v))
      where
        go : Flag (eqb t v) → eqb t v ≡ false
        go (is_true q) = clash m (rw (eqb-true t v q) d.0)
        go (is_false q) = q

    power : (n a b : ℕ) → n ^ (a + b) ≡ n ^ b * n ^ a
    power n a b = pow-add n a b ∙ mul_comm (n ^ a) (n ^ b)
