-- Laws of what a row counts, in the words of the code: the cases of its label, its union's names, and the names that its label lacks.
use mathlib.Core.Path.{◌≡◌, refl, ap, ap₂, sym, ◌∙◌, fun_ext, subst}
use mathlib.Core.Bool.{Bool, true, ◌||◌, cond}
use mathlib.Core.List.{List, [], ◌∷◌}
use Prim.Native.Nat.{ℕ, zero, suc, ◌+◌, ◌*◌, ◌/◌, ◌%◌, ◌^◌, ◌≤◌, ◌<◌}
use native.Mathlib.Omega.{arith}
use native.Mathlib.Nat.{pow-zero, pow-succ', mul_comm, mod-eq_of_lt, div-eq_of_lt, add-mul-mod_self_right, add-mul-div_right, add_comm}
use lib.ListN.{length, set}
use lib.Bits.{bit_or}
use lib.Dec.{eqb}
use borrow.Author.Tests.{eq-eqb}
use Rattle.basics.specs.Tests.{Either, one, other, either, or-one, or-other}
use Rattle.basics.specs.Members.{mem, clash}
use Rattle.label.specs.Limits.{first_variable, term_end}
use Rattle.rename.specs.Ascending.{Ascending}
use Rattle.rename.specs.AscendingLaws.{ascending-one, ascending-above}
use Rattle.state.specs.State.{atom_of, State, holds, fixed}
use Rattle.state.specs.Terms.{args}
use Rattle.state.proofs.ValueLaws.{by-low, low-lt}
use Rattle.state.specs.Highest.{vars_of, start}
use Rattle.elimination.specs.Tables.{Table, sum_to, count_choices, join, unite}
use Rattle.elimination.specs.Elimination.{label_variables}
use Rattle.elimination.proofs.NameLaws.{Whence, new, old, in-vars_of, vars_of-in, vars_of-keeps, vars_of-ascending, holds_agree}
use Rattle.elimination.proofs.CountLaws.{label_cases}
use Rattle.elimination.proofs.CaseLaws.{sum-swap, count-agree}
use Rattle.eliminate.specs.Masks.{names_of, env_of, decoded}
use Rattle.eliminate.specs.MaskLaws.{of-ascending, of_or}
use Rattle.eliminate.specs.PlaceLaws.{Within, within-set, env-set}
use Rattle.eliminate.specs.Calls.{cases_of}
use Rattle.eliminate.specs.Stores.{Said, union_of}
use Rattle.eliminate.proofs.SetLaws.{within-names}
use Rattle.eliminate.proofs.FillLaws.{tells-holds}

-- ===== A sum over places is a sum over choices =====
sum-append : (a b : ℕ) (f : ℕ → ℕ) → sum_to (a + b) f ≡ sum_to a f + sum_to b (λ o. f (a + o))
unfolding sum_to
sum-append a zero f = let e : a + 0 ≡ a = omega arith in rw e (omega arith)
sum-append a (suc b) f = let e : a + suc b ≡ suc (a + b) = omega arith in rw (e, sum-append a b f) (omega arith)

sum_same : (n : ℕ) (f g : ℕ → ℕ) → ((o : ℕ) → o < n → f o ≡ g o) → sum_to n f ≡ sum_to n g
unfolding sum_to
sum_same zero f g e = refl
sum_same (suc n) f g e = ap₂ ◌+◌ (sum_same n f g (λ o h. e o (omega arith))) (e n (omega arith))

sum-blocks : (n N : ℕ) (h : ℕ → ℕ → ℕ) → sum_to (N * n) (λ c. h (c % n) (c / n)) ≡ sum_to N (λ q. sum_to n (λ o. h o q))
unfolding sum_to
sum-blocks n zero h = let e : 0 * n ≡ 0 = omega arith in rw e
sum-blocks n (suc N) h =
    let e : suc N * n ≡ N * n + n = omega arith in
    rw (e, sum-append (N * n) n (λ c. h (c % n) (c / n)), sum-blocks n N h)
    (ap (λ x. sum_to N (λ q. sum_to n (λ o. h o q)) + x) (sum_same n (λ o. h ((N * n + o) % n) ((N * n + o) / n)) (λ o. h o N) (λ o l. ap₂ h (low o l) (high o l))))
  where
    low : (o : ℕ) → o < n → (N * n + o) % n ≡ o
    low o l = ap (λ x. x % n) (add_comm (N * n) o) ∙ add-mul-mod_self_right o N n ∙ mod-eq_of_lt l

    high : (o : ℕ) → o < n → (N * n + o) / n ≡ N
    high o l =
        let p : 0 < n = omega arith in
        ap (λ x. x / n) (add_comm (N * n) o) ∙ add-mul-div_right o N p ∙ ap (λ x. x + N) (div-eq_of_lt l) ∙ omega arith

pub decode-sum : (n : ℕ) (vs env : List ℕ) (p : (ℕ → ℕ) → Bool) → Within env vs
    → sum_to (n ^ length vs) (λ c. cond (p (env_of (decoded n vs c env))) 1 0) ≡ count_choices n vs (env_of env) p
unfolding count_choices decoded sum_to
decode-sum n [] env p w = let e = pow-zero n in rw e (omega arith)
decode-sum n (v ∷ vs) env p w =
    let room = w v (or-one _ _ (eq-eqb v v refl)) in
    let e : n ^ length (v ∷ vs) ≡ n ^ length vs * n = pow-succ' n (length vs) ∙ mul_comm n (n ^ length vs) in
    ap (λ k. sum_to k (λ c. cond (p (env_of (decoded n vs (c / n) (set env v (c % n))))) 1 0)) e
    ∙ sum-blocks n (n ^ length vs) (λ o q. cond (p (env_of (decoded n vs q (set env v o)))) 1 0)
    ∙ sym (sum-swap n (n ^ length vs) (λ o q. cond (p (env_of (decoded n vs q (set env v o)))) 1 0))
    ∙ ap (sum_to n) (fun_ext (λ o. decode-sum n vs (set env v o) p (within-set env vs v o (λ t m. w t (or-other (eqb t v) _ m)))
    ∙ ap (λ θ. count_choices n vs θ p) (env-set env v o room)))

-- ===== The cases of a label =====
pub cases-are : (s : State) (os : List ℕ) (ar facts env : List ℕ) (n l own : ℕ) → Said s os ar facts env n → term_end ≤ length env → names_of own ≡ label_variables ar l
    → cases_of ar facts env n l own (n ^ length (names_of own)) ≡ label_cases s os true (atom_of ar l)
unfolding cases_of label_cases label_variables start
cases-are s os ar facts env n l own g room is =
    sum_same (n ^ length (names_of own)) _ _ (λ c h. ap (λ b. cond b 1 0) (tells-holds s ar facts (decoded n (names_of own) c env) l g.facts-are))
    ∙ decode-sum n (names_of own) env (λ θ. holds s θ (atom_of ar l)) (within-names own env room)
    ∙ ap₂ (λ m vs. count_choices m vs (env_of env) (λ θ. holds s θ (atom_of ar l))) (sym g.size_is) is
    ∙ count-agree s.size (λ t. first_variable ≤ t → mem eqb t (vars_of (args (atom_of ar l)) []) ≡ true) (λ θ. holds s θ (atom_of ar l))
    (λ θ η e. holds_agree s (atom_of ar l) [] θ η e) (vars_of (args (atom_of ar l)) []) (env_of env) (start s os)
    (λ t c m. by-low (env_of env t ≡ start s os t) first_variable t
    (λ h. g.fits.low t h ∙ sym (start-low t h))
    (λ h. clash (c h) m))
  where
    start-low : (t : ℕ) → t < first_variable → start s os t ≡ fixed s os t
    start-low t h = low-lt first_variable t (fixed s os t) 0 h

-- ===== Names =====

-- the union names what the label and both tables name
pub union-names : (s : State) (ar : List ℕ) (l own high low : ℕ) (x y : Table) → names_of own ≡ label_variables ar l → names_of high ≡ x.names → names_of low ≡ y.names
    → (union_of s ar l x y).names ≡ names_of (bit_or (bit_or own high) low)
unfolding unite join label_variables
union-names s ar l own high low x y p q r = ascending-one first_variable first_variable (union_of s ar l x y).names (names_of (bit_or (bit_or own high) low))
    (vars_of-ascending (vars_of (args (atom_of ar l)) x.names) (vars_of (args (atom_of ar l)) y.names)
    (vars_of-ascending (args (atom_of ar l)) y.names (subst (Ascending first_variable) r (of-ascending low))))
    (of-ascending (bit_or (bit_or own high) low)) there back
  where
    a : List ℕ
    a = args (atom_of ar l)

    all : (t : ℕ) → mem eqb t (names_of (bit_or (bit_or own high) low)) ≡ ((mem eqb t (vars_of a []) || mem eqb t x.names) || mem eqb t y.names)
    all t =
        of_or (bit_or own high) low t
        ∙ ap₂ ◌||◌ (of_or own high t ∙ ap₂ ◌||◌ (ap (mem eqb t) p) (ap (mem eqb t) q)) (ap (mem eqb t) r)

    there : (t : ℕ) → mem eqb t (vars_of (vars_of a x.names) (vars_of a y.names)) ≡ true → mem eqb t (names_of (bit_or (bit_or own high) low)) ≡ true
    there t m = all t ∙ from (in-vars_of t (vars_of a x.names) (vars_of a y.names) m)
      where
        low-side : Whence t a y.names → ((mem eqb t (vars_of a []) || mem eqb t x.names) || mem eqb t y.names) ≡ true
        low-side (new f e) = or-one _ _ (or-one _ _ (vars_of-in t a [] f e))
        low-side (old e) = or-other (mem eqb t (vars_of a []) || mem eqb t x.names) _ e

        high-side : Whence t a x.names → ((mem eqb t (vars_of a []) || mem eqb t x.names) || mem eqb t y.names) ≡ true
        high-side (new f e) = or-one _ _ (or-one _ _ (vars_of-in t a [] f e))
        high-side (old e) = or-one _ _ (or-other (mem eqb t (vars_of a [])) _ e)

        from : Whence t (vars_of a x.names) (vars_of a y.names) → ((mem eqb t (vars_of a []) || mem eqb t x.names) || mem eqb t y.names) ≡ true
        from (new f e) = high-side (in-vars_of t a x.names e)
        from (old e) = low-side (in-vars_of t a y.names e)

    back : (t : ℕ) → mem eqb t (names_of (bit_or (bit_or own high) low)) ≡ true → mem eqb t (vars_of (vars_of a x.names) (vars_of a y.names)) ≡ true
    back t m = outer (either (mem eqb t (vars_of a []) || mem eqb t x.names) (mem eqb t y.names) (sym (all t) ∙ m))
      where
        variable : first_variable ≤ t
        variable = ascending-above first_variable (names_of (bit_or (bit_or own high) low)) t (of-ascending (bit_or (bit_or own high) low)) m

        own-side : Whence t a [] → mem eqb t (vars_of (vars_of a x.names) (vars_of a y.names)) ≡ true
        own-side (new f e) = vars_of-keeps t (vars_of a x.names) (vars_of a y.names) (vars_of-in t a y.names f e)
        own-side (old e) = clash e refl

        inner : Either (mem eqb t (vars_of a [])) (mem eqb t x.names) → mem eqb t (vars_of (vars_of a x.names) (vars_of a y.names)) ≡ true
        inner (one e) = own-side (in-vars_of t a [] e)
        inner (other e) = vars_of-in t (vars_of a x.names) (vars_of a y.names) variable (vars_of-keeps t a x.names e)

        outer : Either (mem eqb t (vars_of a []) || mem eqb t x.names) (mem eqb t y.names) → mem eqb t (vars_of (vars_of a x.names) (vars_of a y.names)) ≡ true
        outer (one e) = inner (either (mem eqb t (vars_of a [])) (mem eqb t x.names) e)
        outer (other e) = vars_of-keeps t (vars_of a x.names) (vars_of a y.names) (vars_of-keeps t a y.names e)
