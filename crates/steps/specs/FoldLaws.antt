-- Laws of loops that fold parts into a buffer, begun at leaf 0.
use Rattle.std.specs.Prelude.{◌≡◌, refl, ◌⊎◌, true, List, [], ◌∷◌, ◌++◌, ℕ, zero, suc, ◌+◌, ◌*◌, ◌≤◌, ◌<◌, take}
use Rattle.std.proofs.Common.{sym, ◌∙◌, inl, inr, arith, eq-or-lt_of_le, le_of_suc-le-suc, add-one}
use Rattle.std.proofs.Math.Path.{ap, subst}
use Rattle.refusal.specs.declared.Refusal.{Refusal}
use Rattle.refusal.specs.Outcome.{Outcome, ok, refused, and_then}
use Rattle.label.specs.Labels.{are_arities}
use Rattle.names.specs.Many.{many}
use Rattle.diagram.specs.Diagram.{Diagram, leaf}
use Rattle.diagram.specs.Words.{is_listing}
use Rattle.diagram.specs.Listing.{diagram_of}
use Rattle.steps.specs.Steps.{ResultIn, Given, Begun, BufferListing}
use Rattle.steps.specs.GivenLaws.{leaf-listing, leaf-diagram, given-refused, result-given, done-then, step-refused}
use Rattle.std.specs.Prelude.{Err, Ok}
use Rattle.std.specs.Prelude.{Result}

-- ===== Lists by number =====

pub many_more : {A : Type 0} (f : ℕ → A) (n : ℕ) → many f (suc n) ≡ many f n ++ (f n ∷ [])
unfolding many
many_more f n = refl

-- a refusal met is the answer, whatever follows
pub refused-stays : {A D : Type 0} (s : List A → Outcome D) (step : D → A → Outcome D) (f : ℕ → A)
    → ((l : List A) (a : A) → s (l ++ (a ∷ [])) ≡ and_then (s l) (λ d. step d a)) → (v n : ℕ) (e : Refusal) → s (many f v) ≡ refused e → v ≤ n → s (many f n) ≡ refused e
unfolding many
refused-stays s step f more v zero e h k = let z : v ≡ 0 = omega arith in subst (λ (x : ℕ). s (many f x) ≡ refused e) z h
refused-stays {A} {D} s step f more v (suc n) e h k = go (refused-stays s step f more v n e h) (eq-or-lt_of_le k)
  where
    go : (v ≤ n → s (many f n) ≡ refused e) → (v ≡ suc n) ⊎ (v < suc n) → s (many f n ++ (f n ∷ [])) ≡ refused e
    go rest (inl z) = subst (λ (x : ℕ). s (many f x) ≡ refused e) z h
    go rest (inr l) = more (many f n) (f n) ∙ ap (λ (o : Outcome D). and_then o (λ d. step d (f n))) (rest (le_of_suc-le-suc l))

-- ===== A fold over n parts, as the loops run it =====

pub record Folded {A : Type 0} (ar : List ℕ) (s : List A → Outcome Diagram) (f : ℕ → A) (out : List ℕ) (n v : ℕ) : Type 0 where
  pub result : ResultIn ar (s (many f v)) n out

module _ {A : Type 0} (s : List A → Outcome Diagram) (step : Diagram → A → Outcome Diagram) (f : ℕ → A)
    (more : (l : List A) (a : A) → s (l ++ (a ∷ [])) ≡ and_then (s l) (λ d. step d a)) {ar : List ℕ} where
  -- leaf 0 first
  pub folded_start : are_arities ar ≡ true → s [] ≡ ok (leaf 0) → {n : ℕ} {out : List ℕ} → Begun n out → Folded ar s f out n 0
  unfolding many
  folded_start good e {n} {out} b = record {
    result = subst (λ (x : ℕ). ResultIn ar (s []) x out) (sym b.one) (record {
      is = e ∙ ap ok (sym (ap diagram_of b.words ∙ leaf-diagram ar 0 good (omega arith)));
      listing = ap (is_listing ar) b.words ∙ leaf-listing ar 0 good (omega arith);
      room = b.room;
    });
  }

  module _ {out : List ℕ} {n v : ℕ} (x : Folded ar s f out n v) where
    pub folded-begins : BufferListing ar n out
    folded-begins = record { listing = x.result.listing; room = x.result.room }

    step_is : s (many f (suc v)) ≡ step (diagram_of (take (n * 3) out)) (f v)
    unfolding many
    step_is = done-then (λ d. step d (f v)) x.result (more (many f v) (f v))

    module _ {r : Result ℕ Refusal} {out' : List ℕ} (g : Given ar (step (diagram_of (take (n * 3) out)) (f v)) r out') where
      pub folded-stops : {e : Refusal} → r ≡ Err e → (count : ℕ) → v < count → {out'' : List ℕ} → Given ar (s (many f count)) r out''
      folded-stops {e} h count l {out''} =
          let k : s (many f (suc v)) ≡ refused e = step_is ∙ step-refused (step (diagram_of (take (n * 3) out)) (f v)) e (sym g.answer ∙ h) in
          subst (λ (z : Result ℕ Refusal). Given ar (s (many f count)) z out'') (sym h) (given-refused (refused-stays s step f more (suc v) count e k l))

      pub folded_on : {m : ℕ} → r ≡ Ok m → Folded ar s f out' m (v + 1)
      folded_on {m} h = record {
        result = subst (λ (k : ℕ). ResultIn ar (s (many f k)) m out') (sym (add-one v))
            (subst (λ (o : Outcome Diagram). ResultIn ar o m out') (sym step_is) (g.result m h));
      }

    pub folded-end : {count : ℕ} → count ≡ v → Given ar (s (many f count)) (Ok n) out
    folded-end {count} e = subst (λ (k : ℕ). Given ar (s (many f k)) (Ok n) out) (sym e) (result-given x.result)
