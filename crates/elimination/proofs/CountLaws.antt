-- Laws of counts: a full table has n to its names entries; a join as many as its atom's cases, times n for each name that the atom lacks;
-- the count grows row by row.
use Rattle.std.specs.Prelude.{◌≡◌, refl, Bool, true, false, cond, List, [], ◌∷◌, ℕ, zero, suc, ◌+◌, ◌*◌, ◌^◌, ◌≤◌, ◌<◌, length, eqb, ltb}
use Rattle.std.proofs.Common.{ap, sym, ◌∙◌, arith, mul-one, mul-add, mul_comm, mul_assoc}
use Rattle.std.proofs.Math.Path.{fun_ext}
use Rattle.std.proofs.Math.Bool.{and-true}
use Rattle.std.proofs.Math.Nat.{pow-zero, pow-succ'}
use Rattle.basics.specs.Tests.{Flag, is_true, is_false, flag, Cmp, cmp, below, equal, above, or-one, or-other}
use Rattle.basics.specs.Members.{mem, clash}
use Rattle.label.specs.Limits.{first_variable}
use Rattle.diagram.specs.Words.{row_count}
use Rattle.rename.specs.Ascending.{Ascending}
use Rattle.rename.specs.AscendingLaws.{ascending-weaken, ascending-not}
use Rattle.state.specs.State.{Atomic, State, holds}
use Rattle.state.specs.Terms.{args}
use Rattle.state.specs.Highest.{put, insert, vars_of, start}
use Rattle.state.proofs.HighestLaws.{put_same, put_other, by-eq}
use Rattle.elimination.specs.Tables.{Table, sum_to, count_choices, entries, leaf_table, is_case, join, without, aggregate}
use Rattle.elimination.specs.Elimination.{row_entries, tables, entries_to, all_entries}
use Rattle.elimination.proofs.NameLaws.{Whence, new, old, in-vars_of, vars_of-in, vars_of-ascending, vars_of-cons, insert-old, length_without, holds_agree}
use Rattle.elimination.specs.Inner.{Full, Named}
use Rattle.elimination.proofs.TableLaws.{aggregate-full}

-- ===== Sums =====
pub sum-const : (n c : ℕ) → sum_to n (λ o. c) ≡ n * c
unfolding sum_to
sum-const zero c = omega arith
sum-const (suc n) c = let z : suc n * c ≡ n * c + c = omega arith in rw (sum-const n c, z)

sum-scale : (n c : ℕ) (f : ℕ → ℕ) → sum_to n (λ o. c * f o) ≡ c * sum_to n f
unfolding sum_to
sum-scale zero c f = omega arith
sum-scale (suc n) c f = rw (sum-scale n c f) (sym (mul-add c (sum_to n f) (f n)))

-- ===== Choices =====

-- every choice
pub count-all : (n : ℕ) (vs : List ℕ) (θ : ℕ → ℕ) (p : (ℕ → ℕ) → Bool) → ((η : ℕ → ℕ) → p η ≡ true) → count_choices n vs θ p ≡ n ^ length vs
unfolding count_choices
count-all n [] θ p h = rw (h θ) (sym (pow-zero n))
count-all n (v ∷ vs) θ p h =
    ap (sum_to n) (fun_ext (λ o. count-all n vs (put θ v o) p h)) ∙ sum-const n (n ^ length vs) ∙ sym (pow-succ' n (length vs))

-- p does not see v
abbrev pub Blind : ((ℕ → ℕ) → Bool) → ℕ → Type 0
Blind p v = (θ : ℕ → ℕ) (o : ℕ) → p (put θ v o) ≡ p θ

put-over : (θ : ℕ → ℕ) (v o q : ℕ) → put (put θ v o) v q ≡ put θ v q
put-over θ v o q = fun_ext (λ t. by-eq (put (put θ v o) v q t ≡ put θ v q t) v t
    (λ e. rw (e, put_same (put θ v o) v q, put_same θ v q))
    (λ e. put_other (put θ v o) v q t e ∙ put_other θ v o t e ∙ sym (put_other θ v q t e)))

put-swap : (θ : ℕ → ℕ) (v w o q : ℕ) → (w ≡ v → ⊥) → put (put θ v o) w q ≡ put (put θ w q) v o
put-swap θ v w o q d = fun_ext (λ t. by-eq (put (put θ v o) w q t ≡ put (put θ w q) v o t) w t
    (λ e. rw (e, put_same (put θ v o) w q, put_other (put θ w q) v o w d, put_same θ w q))
    (λ e. put_other (put θ v o) w q t e ∙ by-eq (put θ v o t ≡ put (put θ w q) v o t) v t
    (λ z. rw (z, put_same θ v o, put_same (put θ w q) v o))
    (λ z. put_other θ v o t z ∙ sym (put_other θ w q t e) ∙ sym (put_other (put θ w q) v o t z))))

count-put : (n : ℕ) (vs : List ℕ) (θ : ℕ → ℕ) (p : (ℕ → ℕ) → Bool) (v o : ℕ) → Blind p v → count_choices n vs (put θ v o) p ≡ count_choices n vs θ p
unfolding count_choices
count-put n [] θ p v o b = rw (b θ o)
count-put n (w ∷ vs) θ p v o b = ap (sum_to n) (fun_ext (λ q. by-eq (count_choices n vs (put (put θ v o) w q) p ≡ count_choices n vs (put θ w q) p) v w
    (λ e. rw (e, put-over θ v o q))
    (λ e. rw (put-swap θ v w o q e) (count-put n vs (put θ w q) p v o b))))

-- a variable that p does not see, put in anywhere: n times as many choices
pub count-insert : (n : ℕ) (v : ℕ) (vs : List ℕ) (θ : ℕ → ℕ) (p : (ℕ → ℕ) → Bool) → mem eqb v vs ≡ false → Blind p v
    → count_choices n (insert v vs) θ p ≡ n * count_choices n vs θ p
unfolding count_choices insert
count-insert n v [] θ p m b = ap (sum_to n) (fun_ext (λ o. rw (b θ o))) ∙ sum-const n (cond (p θ) 1 0)
count-insert n v (w ∷ vs) θ p m b = go (flag (ltb v w)) (flag (eqb v w)) (flag (mem eqb v vs)) (λ η e. count-insert n v vs η p e b)
  where
    go : Flag (ltb v w) → Flag (eqb v w) → Flag (mem eqb v vs) → ((η : ℕ → ℕ) → mem eqb v vs ≡ false → count_choices n (insert v vs) η p ≡ n * count_choices n vs η p)
        → count_choices n (cond (ltb v w) (v ∷ w ∷ vs) (cond (eqb v w) (w ∷ vs) (w ∷ insert v vs))) θ p ≡ n * sum_to n (λ o. count_choices n vs (put θ w o) p)
    go (is_true e) d z ih =
        rw e (ap (sum_to n) (fun_ext (λ o. count-put n (w ∷ vs) θ p v o b)) ∙ sum-const n (sum_to n (λ o. count_choices n vs (put θ w o) p)))
    go (is_false e) (is_true d) z ih = clash (or-one _ _ d) m
    go (is_false e) (is_false d) (is_true z) ih = clash (or-other (eqb v w) _ z) m
    go (is_false e) (is_false d) (is_false z) ih =
        rw (e, d) (ap (sum_to n) (fun_ext (λ o. ih (put θ w o) z)) ∙ sum-scale n n (λ o. count_choices n vs (put θ w o) p))

-- ===== Entries =====

pub leaf-entries : (s : State) (os : List ℕ) (v : ℕ) → entries s os (leaf_table v) ≡ 1
unfolding entries leaf_table count_choices
leaf-entries s os v = refl

pub full-entries : (s : State) (os : List ℕ) (x : Table) → Full x → entries s os x ≡ s.size ^ length x.names
unfolding entries
full-entries s os x w = count-all s.size x.names (start s os) x.has w

-- the cases of an atom: the choices for its variables for which it is the case b
unfoldable pub label_cases : State → List ℕ → Bool → Atomic → ℕ
label_cases s os b a = count_choices s.size (vars_of (args a) []) (start s os) (λ θ. is_case b (holds s θ a))

-- how many of the variables vs the list us lacks
unfoldable pub lacking : List ℕ → List ℕ → ℕ
lacking us [] = 0
lacking us (v ∷ vs) = cond (mem eqb v us) (lacking us vs) (suc (lacking us vs))

-- an atom does not see what is no variable of its own
atom-blind : (s : State) (b : Bool) (a : Atomic) (v : ℕ) → first_variable ≤ v → mem eqb v (vars_of (args a) []) ≡ false → Blind (λ θ. is_case b (holds s θ a)) v
atom-blind s b a v h m θ o = ap (is_case b) (holds_agree s a [] (put θ v o) θ (λ t c. put_other θ v o t (λ e. clash (c (rw e h)) (rw e m))))

cases-times : (s : State) (os : List ℕ) (b : Bool) (a : Atomic) (vs : List ℕ) → Ascending first_variable vs
    → count_choices s.size (vars_of (args a) vs) (start s os) (λ θ. is_case b (holds s θ a))
    ≡ label_cases s os b a * s.size ^ lacking (vars_of (args a) []) vs
unfolding label_cases lacking
cases-times s os b a [] w = rw (pow-zero s.size) (sym (mul-one (label_cases s os b a)))
cases-times s os b a (v ∷ vs) w = rw (vars_of-cons (args a) v vs w) (go (flag (mem eqb v (vars_of (args a) []))) (cases-times s os b a vs tail))
  where
    n : ℕ
    n = s.size

    tail : Ascending first_variable vs
    tail = let h = w.0 in ascending-weaken first_variable (suc v) vs (omega arith) w.1

    -- what is no variable of the atom and not in vs is new
    fresh : mem eqb v (vars_of (args a) []) ≡ false → Flag (mem eqb v (vars_of (args a) vs)) → mem eqb v (vars_of (args a) vs) ≡ false
    fresh e (is_false m) = m
    fresh e (is_true m) = whence (in-vars_of v (args a) vs m)
      where
        whence : Whence v (args a) vs → mem eqb v (vars_of (args a) vs) ≡ false
        whence (new l q) = clash (vars_of-in v (args a) [] l q) e
        whence (old q) = clash q (ascending-not (suc v) vs v w.1 (omega arith))

    known : mem eqb v (vars_of (args a) []) ≡ true → mem eqb v (vars_of (args a) vs) ≡ true
    known e = whence (in-vars_of v (args a) [] e)
      where
        whence : Whence v (args a) [] → mem eqb v (vars_of (args a) vs) ≡ true
        whence (new l q) = vars_of-in v (args a) vs l q
        whence (old q) = clash q refl

    go : Flag (mem eqb v (vars_of (args a) []))
        → count_choices n (vars_of (args a) vs) (start s os) (λ θ. is_case b (holds s θ a)) ≡ label_cases s os b a * n ^ lacking (vars_of (args a) []) vs
        → count_choices n (insert v (vars_of (args a) vs)) (start s os) (λ θ. is_case b (holds s θ a))
        ≡ label_cases s os b a * n ^ cond (mem eqb v (vars_of (args a) [])) (lacking (vars_of (args a) []) vs) (suc (lacking (vars_of (args a) []) vs))
    go (is_true e) ih = rw (e, insert-old first_variable v (vars_of (args a) vs) (vars_of-ascending (args a) vs tail) (known e)) ih
    go (is_false e) ih =
        rw (
          e,
          count-insert n v (vars_of (args a) vs) (start s os) (λ θ. is_case b (holds s θ a)) (fresh e (flag (mem eqb v (vars_of (args a) vs)))) (atom-blind s b a v w.0 e),
          ih,
          pow-succ' n (lacking (vars_of (args a) []) vs),
        )
        (turned n (label_cases s os b a) (n ^ lacking (vars_of (args a) []) vs))
      where
        turned : (x y z : ℕ) → x * (y * z) ≡ y * (x * z)
        turned x y z = sym (mul_assoc x y z) ∙ ap (λ q. q * z) (mul_comm x y) ∙ mul_assoc y x z

-- a join with a full table: the atom's cases, times n for each of the child's names that the atom lacks
pub join-entries : (s : State) (os : List ℕ) (b : Bool) (a : Atomic) (x : Table) → Full x → Named x
    → entries s os (join s b a x) ≡ label_cases s os b a * s.size ^ lacking (vars_of (args a) []) x.names
unfolding entries join
join-entries s os b a x w named =
    ap (count_choices s.size (vars_of (args a) x.names) (start s os)) (fun_ext (λ θ. rw (w θ) (and-true (is_case b (holds s θ a)))))
    ∙ cases-times s os b a x.names named

-- an aggregation of a full table divides its entries by n
pub aggregate-entries : (s : State) (os : List ℕ) (v : ℕ) (x : Table) → 0 < s.size → Full x → Named x → mem eqb v x.names ≡ true
    → s.size * entries s os (aggregate s.size v x) ≡ entries s os x
unfolding aggregate
aggregate-entries s os v x h w named m =
    rw (
      full-entries s os (aggregate s.size v x) (aggregate-full s.size v x h w),
      full-entries s os x w,
      ← length_without first_variable v x.names named m,
    )
    (sym (pow-succ' s.size (length (without v x.names))))

-- ===== Row by row =====

pub entries-step : (s : State) (os ar ws : List ℕ) (k : ℕ) → entries_to s os ar ws (suc k) ≡ entries_to s os ar ws k + row_entries s os ar ws (tables s ar ws k) k
unfolding entries_to
entries-step s os ar ws k = refl

-- what the first rows pass, all rows pass
pub entries-grow : (s : State) (os ar ws : List ℕ) (j k : ℕ) → j ≤ k → entries_to s os ar ws j ≤ entries_to s os ar ws k
unfolding entries_to
entries-grow s os ar ws j zero h = let e : j ≡ 0 = omega arith in rw e (omega arith)
entries-grow s os ar ws j (suc k) h = go (cmp j (suc k)) (entries-grow s os ar ws j k)
  where
    go : Cmp j (suc k) → (j ≤ k → entries_to s os ar ws j ≤ entries_to s os ar ws k) → entries_to s os ar ws j ≤ entries_to s os ar ws (suc k)
    go (below q) ih = let r = ih (omega arith) in omega arith
    go (equal q) ih = rw q (omega arith)
    go (above q) ih = absurd (omega arith)

pub entries-passed : (s : State) (os ar ws : List ℕ) (k : ℕ) → k ≤ row_count ws → entries_to s os ar ws k ≤ all_entries s os ar ws
unfolding all_entries
entries-passed s os ar ws k h = entries-grow s os ar ws k (row_count ws) h
