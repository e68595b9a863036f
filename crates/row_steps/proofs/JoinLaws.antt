-- Laws of one combination of two rows, names shared.
use mathlib.Core.Path.{◌≡◌, refl, sym, ap, subst, ◌∙◌}
use mathlib.Core.Bool.{false}
use mathlib.Core.List.{List}
use Prim.Native.Nat.{ℕ, ◌≤◌}
use native.Mathlib.Omega.{arith}
use borrow.Author.Tests.{ltb-false}
use Rattle.refusal.specs.declared.Refusal.{Refusal}
use Rattle.refusal.specs.declared.Refusal.TheVariants.{Space as NoSpace, Pairs as ManyPairs, Value as HighValue}
use Rattle.refusal.specs.Outcome.{refused}
use Rattle.basics.specs.Tests.{Flag, is_true, is_false, flag}
use Rattle.diagram.specs.Sizes.{highest_value, space_rows, most_pairs}
use Rattle.diagram.specs.Diagram.{Diagram, same}
use Rattle.diagram.specs.Inner.{Written}
use Rattle.apply.specs.declared.Operation.{Operation}
use Rattle.apply.specs.Combination.{operate}
use Rattle.apply.specs.Apply.{node, apply}
use Rattle.apply.specs.ApplyLaws.{node-same, node-differ, apply-step}
use Rattle.apply.specs.Pairs.{pairs, overflows}
use Rattle.apply.proofs.Course.{Course, stops, descends, course, ending}
use Rattle.apply.proofs.OverflowLaws.{calm-root, calm-true, calm-false}
use Rattle.store.specs.Space.{diagrams_of, Holds}
use Rattle.store.proofs.SpaceLaws.{formed-room}
use Rattle.regression.specs.Calls.{combine}
use Rattle.regression.proofs.CallLaws.{form-space, combine-pairs, combine-value, combine-calm}
use Rattle.regression.specs.Result.{AtMost}
use Rattle.combine.specs.Joining.{rows_after, count_after, diagrams_after, Joint}
use Rattle.combine.specs.Endings.{Told, Ended, many, high, full, row, ended}
use Rattle.combine.specs.declared.Joined.{Joined}
use Rattle.combine.specs.declared.Joined.TheVariants.{At}
use Rattle.row_steps.specs.Running.{Valued, Final, told_as, Ran}
use Rattle.row_steps.specs.RunLaws.{formed-ran, valued-onto, valued-take, ran-answer}
use Rattle.std.specs.Prelude.{Err, Ok, Result}

-- leaves in their range
most-node : (b l : ℕ) (t f : Diagram) → AtMost b t → AtMost b f → AtMost b (node l t f)
most-node b l t f x y = go (flag (same t f))
  where
    go : Flag (same t f) → AtMost b (node l t f)
    go (is_true e) = rw (node-same l t f e) x
    go (is_false e) = rw (node-differ l t f e) (x, y)

most-course : (op : Operation) {a b : Diagram} → Course op a b → overflows (operate op) (pairs op a b) ≡ false → AtMost highest_value (apply (operate op) a b)
most-course op (stops {a = a} {b = b} n) h =
    let z = ending op a b n in
    rw z.forms (ltb-false highest_value z.value (sym z.high ∙ calm-root (operate op) op a b h))
most-course op (descends {l = l} {t = t} {u = u} {f = f} {g = g} n s x y) h =
    rw (apply-step (operate op) s) (most-node highest_value l (apply (operate op) t u) (apply (operate op) f g)
    (most-course op x (calm-true (operate op) op n s h)) (most-course op y (calm-false (operate op) op n s h)))

most-apply : (op : Operation) (a b : Diagram) → overflows (operate op) (pairs op a b) ≡ false → AtMost highest_value (apply (operate op) a b)
most-apply op a b h = most-course op (course op a b) h

-- `join`
-- equal refusals of a step have one word
err_word : {w o : Refusal} {n m : ℕ} → ◌≡◌ {A = Result (ℕ × ℕ) (Refusal × ℕ)} (Err (w, n)) (Err (o, m)) → o ≡ w
err_word {w} {o} {n} {m} x = let z : ◌≡◌ {A = Refusal × ℕ} (w, n) (o, m) = cc in sym (ap (λ (z : Refusal × ℕ). z.0) z)

module _ {limit : ℕ} {op : Operation} {a b : Diagram} {s₀ : List ℕ} {count : ℕ} {r : Joined} {s heads links index : List ℕ} (most : limit ≤ most_pairs)
    (v : Valued (diagrams_of s₀ count)) (j : Joint op limit a b s₀ count r s heads links index) where
  abbrev D : Diagram
  D = apply (operate op) a b

  abbrev Rows : List Diagram
  Rows = rows_after op a b (diagrams_of s₀ count)

  -- what the space holds, where the answer is known
  holds : {y : Joined} → r ≡ y → Holds s heads links (count_after count y)
  holds e = subst (λ (x : Joined). Holds s heads links (count_after count x)) e j.holds

  diagrams : {y : Joined} → r ≡ y → diagrams_of s (count_after count y) ≡ diagrams_after op a b (diagrams_of s₀ count) y
  diagrams e = subst (λ (x : Joined). diagrams_of s (count_after count x) ≡ diagrams_after op a b (diagrams_of s₀ count) x) e j.diagrams

  result : {i n p : ℕ} → r ≡ At i n p → Told op limit a b (diagrams_of s₀ count) i n p → Ran limit (combine op a b) s₀ count (Ok (i, n)) s heads links index
  result {i} {n} {p} e q =
      let f = formed-room s heads links Rows n (sym q.count) (subst (Written s) (diagrams e) (holds e).written) (holds e).table D i (sym q.row) in
      let c = combine-calm op a b (diagrams_of s₀ count) (omega (arith, most, q.few)) q.calm in
      let z = formed-ran s₀ count D (most-apply op a b q.calm) v j.clean f in
      record {
        space = z.space;
        clean = z.clean;
        row = λ k m x. let g = z.row k m x in record { there = g.there; more = g.more; gives = c ∙ g.gives; stays = g.stays };
        refusal = λ w m x y. c ∙ z.refusal w m x y;
      }

  -- refused for w, with n rows then
  stopped : (w : Refusal) (n : ℕ) → Holds s heads links n → Valued (diagrams_of s n) → (Final limit w → combine op a b (diagrams_of s₀ count) ≡ refused w)
      → Ran limit (combine op a b) s₀ count (Err (w, n)) s heads links index
  stopped w n h u g = record {
    space = record { holds = h; values = u };
    clean = j.clean;
    row = λ k m x. let z : ◌≡◌ {A = ℕ} 0 1 = cc in absurd (omega arith);
    refusal = λ o m x y. let p = err_word x in rw p (g (λ q. y (p ∙ q)));
  }

  pub joined : {x : Result (ℕ × ℕ) (Refusal × ℕ)} → x ≡ told_as count r → Ran limit (combine op a b) s₀ count x s heads links index
  joined {x} t = go (ended op limit a b (diagrams_of s₀ count) j.answer)
    where
      told : {y : Joined} → r ≡ y → Ran limit (combine op a b) s₀ count (told_as count y) s heads links index → Ran limit (combine op a b) s₀ count x s heads links index
      told e z = ran-answer (sym (t ∙ ap (told_as count) e)) z

      go : Ended op limit a b (diagrams_of s₀ count) r → Ran limit (combine op a b) s₀ count x s heads links index
      go (many e h) =
          told e (stopped ManyPairs count (holds e) (subst Valued (sym (diagrams e)) v)
          (λ y. let l = y refl in combine-pairs op a b (diagrams_of s₀ count) (omega arith)))
      go (high e h o) =
          told e (stopped HighValue count (holds e) (subst Valued (sym (diagrams e)) v)
          (λ y. combine-value op a b (diagrams_of s₀ count) (omega (arith, most, h)) o))
      go (full e h o l) =
          told e (stopped NoSpace space_rows (holds e)
          (subst Valued (sym (diagrams e)) (valued-take space_rows Rows (valued-onto D (diagrams_of s₀ count) (most-apply op a b o) v)))
          (λ y. combine-calm op a b (diagrams_of s₀ count) (omega (arith, most, h)) o ∙ form-space D (diagrams_of s₀ count) l))
      go (row e q) = told e (result e q)
