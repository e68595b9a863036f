-- What the calls of a backup give, each in terms of listings, parameters and numbers.
use Rattle.std.specs.Prelude.{◌≡◌, refl, Bool, true, ◌&&◌, cond, List, [], ℕ, ◌+◌, ◌-◌, ◌≤◌, ◌<◌, max, ltb}
use Rattle.std.proofs.Common.{ap, ap₂, sym, ◌∙◌, subst, arith, ltb-false}
use Rattle.std.proofs.Math.Bool.{false}
use Rattle.std.proofs.Math.ListN.{length}
use Rattle.refusal.specs.declared.Refusal.TheVariants.{Variables}
use Rattle.refusal.specs.Outcome.{Accepted}
use Rattle.refusal.specs.OutcomeLaws.{accepted-ok, accepted-refused, accepted-cond, accepted-mono}
use Rattle.basics.specs.Tests.{and_left, and_right, Cmp, below, equal, above, cmp, Flag, is_true, is_false, flag, neither}
use Rattle.basics.specs.Members.{clash}
use Rattle.label.specs.Limits.{first_parameter, parameter_count, first_variable, variable_count, first_minimum, minimum_count}
use Rattle.label.specs.Labels.{are_arities}
use Rattle.diagram.specs.Sizes.{most_rows, highest_value}
use Rattle.diagram.specs.Diagram.{Diagram, leaf, eval, relabel}
use Rattle.diagram.specs.Rows.{rows, onto}
use Rattle.diagram.specs.Listing.{Fine, Good as Listed}
use Rattle.diagram.specs.Variables.{occurs, variables, minimums, is_plain, closed, after}
use Rattle.rename.specs.Inner.{Freeable}
use Rattle.rename.specs.Freeing.{freed}
use Rattle.rename.specs.ClosingLaws.{closed-count, closed-good, closed-twice, after-fit, after-good}
use Rattle.rename.specs.FreeingLaws.{freed-good}
use Rattle.apply.specs.declared.Operation.{Operation}
use Rattle.apply.specs.declared.Operation.TheVariants.{Sum, Product, Max}
use Rattle.apply.specs.declared.Names.{Names}
use Rattle.apply.specs.declared.Names.TheVariants.{Apart, Shared}
use Rattle.apply.specs.declared.Combined.{Combined}
use Rattle.apply.specs.declared.Combined.TheVariants.{Done, Refused}
use Rattle.apply.specs.Apply.{apply}
use Rattle.apply.specs.ApplyLaws.{eval_apply}
use Rattle.apply.proofs.GoodLaws.{every-apply, fine-apply, good_apply, fine-every}
use Rattle.apply.specs.Combination.{operate, combination, diagram_answer, done_as}
use Rattle.apply.proofs.CombinationLaws.{done-accepted, good-shared}
use Rattle.state.specs.Max.{Tuple, max_tuples}
use Rattle.state.specs.State.{atom_of, meaning, State, Good, holds, value}
use Rattle.state.specs.Terms.{Each, args, Terms}
use Rattle.state.proofs.ValueLaws.{Terms-mono}
use Rattle.minimum.specs.Number.{Number}
use Rattle.minimum.specs.Operations.{Plain, Rises}
use Rattle.minimum.proofs.OccurLaws.{terms-occur, occur-terms}
use Rattle.minimum.proofs.PlainLaws.{fine-plain}
use Rattle.minimum.proofs.ApartLaws.{sum-rises, product-rises, max-rises, number-max-shared}
use Rattle.minimum.proofs.ClosingLaws.{number-combined}
use Rattle.regression.specs.Parameters.{Allowed, Within}
use Rattle.regression.proofs.ResultLaws.{value-meaning, terms-every, every-terms}
use Rattle.regression.specs.RegressCall.{any_occurs, freed_outcome}
use Rattle.regression.proofs.RegressCallLaws.{any-quiet}
use Rattle.regression.proofs.FreeCallLaws.{IsFreed, meaning-freed, room-freed, freed-number, freed-within}
use Rattle.reduction.proofs.KindLaws.{maximums-variables, closed-kinds, after-kinds}
use Rattle.reduction.proofs.ClosedLaws.{within-closed_from, within-closed, closed-number}
use Rattle.mdp.specs.Backup.{given, combined}

-- ===== Meanings and parameters =====

pub within-each : (c : ℕ) (ar : List ℕ) (d : Diagram) → ((t : ℕ) → occurs ar t d ≡ true → Allowed c t) → Within c (meaning ar d)
within-each c ar d h = record { terms = Terms-mono (λ t. occurs ar t d ≡ true) (Allowed c) h (meaning ar d) (occur-terms ar d) }

pub each_within : (c : ℕ) (ar : List ℕ) (d : Diagram) → Within c (meaning ar d) → (t : ℕ) → occurs ar t d ≡ true → Allowed c t
each_within c ar d w t e = terms-occur (Allowed c) ar t d w.terms e

pub within_more : (c : ℕ) (ar : List ℕ) (d : Diagram) → Within 0 (meaning ar d) → Within c (meaning ar d)
within_more c ar d w = record { terms = Terms-mono (Allowed 0) (Allowed c) (λ t a h. a (omega arith)) (meaning ar d) w.terms }

-- the terms of a combination are its operands'
terms-apply : (P : ℕ → Type 0) (op : ℕ → ℕ → ℕ) (ar : List ℕ) (a b : Diagram) → Terms P (meaning ar a) → Terms P (meaning ar b) → Terms P (meaning ar (apply op a b))
terms-apply P op ar a b x y = every-terms P ar (apply op a b) (every-apply op (λ l. Each P (args (atom_of ar l))) a b (terms-every P ar a x) (terms-every P ar b y))

within-apply : (op : ℕ → ℕ → ℕ) (c : ℕ) (ar : List ℕ) (a b : Diagram) → Within c (meaning ar a) → Within c (meaning ar b) → Within c (meaning ar (apply op a b))
within-apply op c ar a b x y = record { terms = terms-apply (Allowed c) op ar a b x.terms y.terms }

-- a leaf
pub leaf-listed : (ar : List ℕ) (x : ℕ) → are_arities ar ≡ true → x ≤ highest_value → Listed ar (leaf x)
unfolding rows onto
leaf-listed ar x good h = record { arities = good; ordered = tt; reduced = tt; fine = h; few = omega arith }

pub leaf-within : (c : ℕ) (ar : List ℕ) (x : ℕ) → Within c (meaning ar (leaf x))
unfolding meaning relabel
leaf-within c ar x = record { terms = tt }

pub leaf-value : (ar : List ℕ) (s : State) (x : ℕ) (θ : ℕ → ℕ) → value s (meaning ar (leaf x)) θ ≡ x
unfolding value meaning relabel eval
leaf-value ar s x θ = refl

-- ===== Combination, names shared =====

pub record Made (op : ℕ → ℕ → ℕ) (ar : List ℕ) (a b r : Diagram) : Type 0 where
  pub listed : Listed ar r
  pub values : (s : State) (θ : ℕ → ℕ) → value s (meaning ar r) θ ≡ op (value s (meaning ar a) θ) (value s (meaning ar b) θ)
  pub within : (c : ℕ) → Within c (meaning ar a) → Within c (meaning ar b) → Within c (meaning ar r)
  pub plain : Plain (meaning ar a) → Plain (meaning ar b) → Plain (meaning ar r)

value-apply : (op : ℕ → ℕ → ℕ) (ar : List ℕ) (a b : Diagram) (s : State) (θ : ℕ → ℕ)
    → value s (meaning ar (apply op a b)) θ ≡ op (value s (meaning ar a) θ) (value s (meaning ar b) θ)
value-apply op ar a b s θ =
    value-meaning s ar (apply op a b) θ ∙ eval_apply op (λ l. holds s θ (atom_of ar l)) a b
    ∙ ap₂ op (sym (value-meaning s ar a θ)) (sym (value-meaning s ar b θ))

-- of a call that is done with names shared
pub shared-made : (op : Operation) (names : Names) (ar : List ℕ) (a b : Diagram) → done_as op names ar a b ≡ Shared → Listed ar a → Listed ar b
    → Accepted (Made (operate op) ar a b) (combined op names ar a b)
unfolding combined combination
shared-made op names ar a b done x y =
    subst (λ (n : Names). Accepted (Made (operate op) ar a b) (given (diagram_answer op n ar a b) (combination op n ar a b))) (sym done) (go (diagram_answer op Shared ar a b) refl)
  where
    go : (o : Combined) → diagram_answer op Shared ar a b ≡ o → Accepted (Made (operate op) ar a b) (given o (combination op Shared ar a b))
    go (Done n m) e = accepted-ok (record {
      listed = good-shared op ar a b n m x y (done-accepted op Shared ar a b n m e);
      values = value-apply (operate op) ar a b;
      within = λ c. within-apply (operate op) c ar a b;
      plain = terms-apply (λ t. t < first_minimum) (operate op) ar a b;
    })
    go (Refused r) e = accepted-refused

-- ===== Combination, apart =====

-- the operation of the two numbers
pub record Joined (op : ℕ → ℕ → ℕ) (ar : List ℕ) (a b r : Diagram) : Type 0 where
  pub listed : Listed ar r
  pub is-closed : closed ar r ≡ r
  pub within : (c : ℕ) → Within c (meaning ar a) → Within c (meaning ar b) → Within c (meaning ar r)
  pub numbers : (s : State) (os : List ℕ) (x y : ℕ) → Number s os (meaning ar a) x → Number s os (meaning ar b) y → Number s os (meaning ar r) (op x y)

operate-rises : (op : Operation) → Rises (operate op)
operate-rises Sum = sum-rises
operate-rises Product = product-rises
operate-rises Max = max-rises

-- the result before it is closed up
abbrev before : Operation → List ℕ → Diagram → Diagram → Diagram
before op ar a b = apply (operate op) (closed ar a) (after ar a b)

module _ (op : Operation) (ar : List ℕ) (a b : Diagram) (good-a : Listed ar a) (good-b : Listed ar b) (room : length (variables ar a) + length (variables ar b) ≤ variable_count)
    (space : length (minimums ar a) + length (minimums ar b) ≤ minimum_count) where
  -- the operands have no variable of either kind in common, so that the number of the result is that of the numbers
  apart-number : (s : State) (os : List ℕ) (x y : ℕ) → Number s os (meaning ar a) x → Number s os (meaning ar b) y
      → Number s os (meaning ar (before op ar a b)) (operate op x y)
  apart-number s os x y m k =
      let fits : first_variable + length (variables ar a) + length (variables ar b) ≤ first_minimum = omega arith in
      number-combined (meaning ar a) (meaning ar b) (rw (maximums-variables ar a good-a, maximums-variables ar b good-b) fits) (operate op) (operate-rises op)
      (meaning ar (before op ar a b))
      (λ θ f. value-apply (operate op) ar (closed ar a) (after ar a b) s θ
      ∙ ap₂ (λ c d. operate op (value s c θ) (value s d θ)) (closed-kinds ar a good-a) (after-kinds ar a b good-a good-b room space)) m k

  within-before : (c : ℕ) → Within c (meaning ar a) → Within c (meaning ar b) → Within c (meaning ar (before op ar a b))
  unfolding after
  within-before c x y = within-apply (operate op) c ar (closed ar a) (after ar a b) (within-closed c ar a good-a x)
      (within-closed_from c ar (first_variable + length (variables ar a)) (first_minimum + length (minimums ar a)) b (after-fit ar a b room space) good-b y)

-- of a call that is done apart: sum, product and max give the sum, product and max of the numbers
pub apart-joined : (op : Operation) (names : Names) (ar : List ℕ) (a b : Diagram) → done_as op names ar a b ≡ Apart → Listed ar a → Listed ar b
    → Accepted (Joined (operate op) ar a b) (combined op names ar a b)
unfolding combined combination
apart-joined op names ar a b done x y =
    subst (λ (n : Names). Accepted (Joined (operate op) ar a b) (given (diagram_answer op n ar a b) (combination op n ar a b))) (sym done) (go (diagram_answer op Apart ar a b) refl)
  where
    d : Diagram
    d = before op ar a b

    go : (o : Combined) → diagram_answer op Apart ar a b ≡ o → Accepted (Joined (operate op) ar a b) (given o (combination op Apart ar a b))
    go (Done n m) e =
        let h = done-accepted op Apart ar a b n m e in
        let v = length (variables ar a) + length (variables ar b) in
        let u = length (minimums ar a) + length (minimums ar b) in
        let few = neither (ltb variable_count v) (ltb minimum_count u) h.variables in
        let room = ltb-false variable_count v few.0 in
        let space = ltb-false minimum_count u few.1 in
        let second = after-good ar a b x y room space in
        let fine : Fine ar d = fine-apply op ar (closed ar a) (after ar a b) (closed-good ar a x).fine second.fine h.calm in
        let most : length (rows d) ≤ most_rows = subst (λ (n : ℕ). n ≤ most_rows) (closed-count ar d x.arities fine) h.few in
        let good : Listed ar d = good_apply op ar (closed ar a) (after ar a b) (closed-good ar a x) second h.calm most in
        accepted-ok (record {
          listed = closed-good ar d good;
          is-closed = closed-twice ar d good;
          within = λ c p q. within-closed c ar d good (within-before op ar a b x y room space c p q);
          numbers = λ s os p q m k. closed-number ar d good s os (operate op p q) (apart-number op ar a b x y room space s os p q m k);
        })
    go (Refused r) e = accepted-refused

-- ===== Combination, as it is asked for =====

-- whatever the names
pub combined-listed : (op : Operation) (names : Names) (ar : List ℕ) (a b : Diagram) → Listed ar a → Listed ar b → Accepted (Listed ar) (combined op names ar a b)
combined-listed op names ar a b x y = go (done_as op names ar a b) refl
  where
    go : (n : Names) → done_as op names ar a b ≡ n → Accepted (Listed ar) (combined op names ar a b)
    go Shared e = accepted-mono (shared-made op names ar a b e x y) (λ r m. m.listed)
    go Apart e = accepted-mono (apart-joined op names ar a b e x y) (λ r j. j.listed)

-- the higher of the two numbers
pub record Higher (ar : List ℕ) (a b r : Diagram) : Type 0 where
  pub listed : Listed ar r
  pub within : (c : ℕ) → Within c (meaning ar a) → Within c (meaning ar b) → Within c (meaning ar r)
  pub numbers : (s : State) (os : List ℕ) (x y : ℕ) → Number s os (meaning ar a) x → Number s os (meaning ar b) y → Number s os (meaning ar r) (max x y)

-- a max asked for with shared names: shared where neither side has a minimum variable, else apart
pub max-higher : (ar : List ℕ) (a b : Diagram) → Listed ar a → Listed ar b → Accepted (Higher ar a b) (combined Max Shared ar a b)
max-higher ar a b x y = go (flag (is_plain ar a && is_plain ar b))
  where
    go : Flag (is_plain ar a && is_plain ar b) → Accepted (Higher ar a b) (combined Max Shared ar a b)
    go (is_true e) = accepted-mono (shared-made Max Shared ar a b (ap (λ (t : Bool). cond t Shared Apart) e) x y) (λ r m.
        let p = fine-plain ar a x.fine (and_left (is_plain ar a) (is_plain ar b) e) in
        let q = fine-plain ar b y.fine (and_right (is_plain ar a) (is_plain ar b) e) in
        record {
          listed = m.listed;
          within = m.within;
          numbers = λ s os u v h k. number-max-shared (meaning ar a) (meaning ar b) (meaning ar r) p q (m.plain p q) (λ θ f. m.values s θ) h k;
        })
    go (is_false e) = accepted-mono (apart-joined Max Shared ar a b (ap (λ (t : Bool). cond t Shared Apart) e) x y)
        (λ r j. record { listed = j.listed; within = j.within; numbers = j.numbers })

-- ===== Freeing =====

pub record FreedTo (ar : List ℕ) (c : ℕ) (d r : Diagram) : Type 0 where
  pub listed : Listed ar r
  pub within : Within 0 (meaning ar r)
  pub numbers : (s : State) → Good s → (x : List ℕ → ℕ) → ((os : List ℕ) → Tuple s.size c os → Number s os (meaning ar d) (x os))
      → Number s [] (meaning ar r) (max_tuples s.size c x)

pub freed-to : (ar : List ℕ) (c : ℕ) (d : Diagram) → Listed ar d → c ≤ parameter_count → Within c (meaning ar d) → Accepted (FreedTo ar c d) (freed_outcome ar c d)
unfolding freed_outcome
freed-to ar c d good few w = accepted-cond (any_occurs ar d (first_minimum - c) c) Variables _ (λ q. accepted-ok (record {
  listed = freed-good ar c d good (freeable q);
  within = freed-within ar c d (freed ar c d) (is-freed q) w;
  numbers = λ s g x h. freed-number ar c d (freed ar c d) (is-freed q) s g x h;
}))
  where
    freeable : any_occurs ar d (first_minimum - c) c ≡ false → Freeable ar c d
    freeable q = record {
      count = few;
      parameters = λ t e h. by_count t (each_within c ar d w t e) h (cmp t (first_parameter + c));
      variables = λ t e h k. by-room t e k (cmp (t + c) first_minimum);
    }
      where
        by_count : (t : ℕ) → Allowed c t → t < first_variable → Cmp t (first_parameter + c) → t < first_parameter + c
        by_count t a h (below k) = k
        by_count t a h (equal k) = let z = a (omega arith) in absurd (omega arith)
        by_count t a h (above k) = let z = a (omega arith) in absurd (omega arith)

        by-room : (t : ℕ) → occurs ar t d ≡ true → t < first_minimum → Cmp (t + c) first_minimum → t + c < first_minimum
        by-room t e h (below k) = k
        by-room t e h (equal k) = clash e (any-quiet ar d (first_minimum - c) c q t (omega arith) (omega arith))
        by-room t e h (above k) = clash e (any-quiet ar d (first_minimum - c) c q t (omega arith) (omega arith))

    is-freed : any_occurs ar d (first_minimum - c) c ≡ false → IsFreed ar c d (freed ar c d)
    is-freed q = record {
      is = unfold freed in refl;
      few = few;
      parameters = ps;
      variables = vs;
      means = unfold freed in meaning-freed ar c d few ps vs good.arities (fine-every ar d good.fine);
      room = room-freed ar c d few ps vs (fine-every ar d good.fine);
    }
      where
        ps : (t : ℕ) → first_parameter + c ≤ t → t < first_parameter + parameter_count → occurs ar t d ≡ false
        ps t h k = quiet (flag (occurs ar t d))
          where
            quiet : Flag (occurs ar t d) → occurs ar t d ≡ false
            quiet (is_false e) = e
            quiet (is_true e) = let z = each_within c ar d w t e h in absurd (omega arith)

        vs : (t : ℕ) → first_minimum ≤ t + c → t < first_minimum → occurs ar t d ≡ false
        vs t h k = any-quiet ar d (first_minimum - c) c q t (omega arith) (omega arith)
