-- Laws of the sum of an action's weights.
use mathlib.Core.Path.{◌≡◌, refl, sym, ap, ◌∙◌}
use mathlib.Core.List.{List, [], ◌∷◌, ◌++◌}
use Prim.Native.Nat.{ℕ, ◌+◌, ◌*◌, ◌≤◌, ◌<◌}
use native.Mathlib.Omega.{arith}
use lib.ListN.{length, take}
use Rattle.refusal.specs.declared.Refusal.{Refusal}
use Rattle.diagram.specs.Diagram.{Diagram, leaf}
use Rattle.diagram.specs.Words.{is_listing}
use Rattle.diagram.specs.Listing.{diagram_of}
use Rattle.apply.specs.declared.Operation.TheVariants.{Sum}
use Rattle.apply.specs.declared.Names.TheVariants.{Shared}
use Rattle.refusal.specs.Outcome.{Outcome, ok, refused, and_then}
use Rattle.mdp.specs.Model.{Variant}
use Rattle.mdp.specs.Backup.{combined}
use Rattle.names.specs.Many.{many}
use Rattle.model.specs.Layout.{variant_place, weight_words, variant_at, variants_of, action_at}
use Rattle.steps.specs.Steps.{Given, Begun, Folding}
use Rattle.steps.specs.GivenLaws.{then-then, then_same, given-same}
use Rattle.steps.specs.FoldLaws.{Folded, folded_start, folded-begins, folded-stops, folded_on, folded-end}
use Rattle.session.specs.ModelLines.{weights_sum}
use Rattle.weights.specs.Weighing.{AddTask, SumTask}
use Rattle.std.specs.Prelude.{Err, Ok, Result}

-- ===== A weight added =====

module _ {ar listings table : List ℕ} {place : ℕ} {sum : List ℕ} {n : ℕ} {work : List ℕ} (t : AddTask ar listings table place sum n work) where
  pub add-folding : {ws : List ℕ} → ws ≡ weight_words listings table place → Folding ar sum n ws work
  add-folding {ws} e = record {
    first = t.begins.listing;
    second = ap (is_listing ar) e ∙ t.laid.weight;
    inside = t.begins.room;
    buffer-room = t.sum_room;
    work-room = t.work-room;
  }

  pub add-given : {ws : List ℕ} → ws ≡ weight_words listings table place → {r : Result ℕ Refusal} {sum' : List ℕ}
      → Given ar (combined Sum Shared ar (diagram_of (take (n * 3) sum)) (diagram_of ws)) r sum'
      → Given ar (combined Sum Shared ar (diagram_of (take (n * 3) sum)) (variant_at listings table place).weight) r sum'
  unfolding variant_at
  add-given {ws} e g = given-same (ap (λ (s : List ℕ). combined Sum Shared ar (diagram_of (take (n * 3) sum)) (diagram_of s)) e) g

-- ===== One weight more, at the end =====

module _ (ar : List ℕ) where
  sum-none : (sum : Diagram) → weights_sum ar sum [] ≡ ok sum
  unfolding weights_sum
  sum-none sum = refl

  sum-next : (sum : Diagram) (v : Variant) (vs : List Variant) → weights_sum ar sum (v ∷ vs) ≡ and_then (combined Sum Shared ar sum v.weight) (λ s. weights_sum ar s vs)
  unfolding weights_sum
  sum-next sum v vs = refl

  sum_more : (sum : Diagram) (vs : List Variant) (v : Variant) → weights_sum ar sum (vs ++ (v ∷ [])) ≡ and_then (weights_sum ar sum vs) (λ s. combined Sum Shared ar s v.weight)
  sum_more sum [] v =
      sum-next sum v []
      ∙ last (combined Sum Shared ar sum v.weight)
      ∙ ap (λ (o : Outcome Diagram). and_then o (λ s. combined Sum Shared ar s v.weight)) (sym (sum-none sum))
    where
      last : (o : Outcome Diagram) → and_then o (λ s. weights_sum ar s []) ≡ o
      last (ok s) = sum-none s
      last (refused r) = refl
  sum_more sum (u ∷ vs) v =
      sum-next sum u (vs ++ (v ∷ []))
      ∙ then_same (combined Sum Shared ar sum u.weight) _ _ (λ s. sum_more s vs v)
      ∙ sym (then-then (combined Sum Shared ar sum u.weight) (λ s. weights_sum ar s vs) (λ s. combined Sum Shared ar s v.weight))
      ∙ ap (λ (o : Outcome Diagram). and_then o (λ s. combined Sum Shared ar s v.weight)) (sym (sum-next sum u vs))

-- ===== The loop =====

-- the weights of the first v variants of the action a are added up in the buffer
pub record Summing (ar listings table : List ℕ) (a : ℕ) (out : List ℕ) (n v : ℕ) : Type 0 where
  pub within : v ≤ variants_of table a
  pub folded : Folded ar (λ vs. weights_sum ar (leaf 0) vs) (λ w. variant_at listings table (variant_place a w)) out n v

module _ {ar listings table : List ℕ} {a : ℕ} {out₀ work₀ : List ℕ} (t : SumTask ar listings table a out₀ work₀) where
  abbrev F : ℕ → Variant
  F v = variant_at listings table (variant_place a v)

  abbrev S : List Variant → Outcome Diagram
  S vs = weights_sum ar (leaf 0) vs

  abbrev D : Diagram → Variant → Outcome Diagram
  D d v = combined Sum Shared ar d v.weight

  variants-are : (action_at listings table a).variants ≡ many F (variants_of table a)
  unfolding action_at
  variants-are = refl

  pub summing_start : {n : ℕ} {out : List ℕ} → Begun n out → Summing ar listings table a out n 0
  summing_start b = record { within = omega arith; folded = folded_start S D F (sum_more ar (leaf 0)) t.action.arities (sum-none ar (leaf 0)) b }

  module _ {out : List ℕ} {n v : ℕ} (x : Summing ar listings table a out n v) (l : v < variants_of table a) where
    pub summing-task : {work : List ℕ} → length out ≡ length out₀ → length work ≡ length work₀ → AddTask ar listings table (variant_place a v) out n work
    summing-task p q = record {
      laid = t.action.laid.variants v l;
      inside = omega (arith, t.action.inside, t.action.laid.few, l);
      begins = folded-begins S D F (sum_more ar (leaf 0)) x.folded;
      sum_room = omega (arith, p, t.out-room);
      work-room = omega (arith, q, t.action.work-room);
    }

    module _ {r : Result ℕ Refusal} {out' : List ℕ} (w : Given ar (combined Sum Shared ar (diagram_of (take (n * 3) out)) (variant_at listings table (variant_place a v)).weight) r out') where
      pub summing-stops : {e : Refusal} → r ≡ Err e → {out'' : List ℕ} → Given ar (weights_sum ar (leaf 0) (action_at listings table a).variants) r out''
      summing-stops h = given-same (ap S (sym variants-are)) (folded-stops S D F (sum_more ar (leaf 0)) x.folded w h (variants_of table a) l)

      pub summing_on : {m : ℕ} → r ≡ Ok m → Summing ar listings table a out' m (v + 1)
      summing_on h = record { within = omega (arith, l); folded = folded_on S D F (sum_more ar (leaf 0)) x.folded w h }

  pub summing-end : {out : List ℕ} {n v : ℕ} → Summing ar listings table a out n v → variants_of table a ≤ v
      → Given ar (weights_sum ar (leaf 0) (action_at listings table a).variants) (Ok n) out
  summing-end {out} {n} {v} x h =
      let k = x.within in
      let e : variants_of table a ≡ v = omega arith in
      given-same (ap S (sym variants-are)) (folded-end S D F (sum_more ar (leaf 0)) x.folded e)
