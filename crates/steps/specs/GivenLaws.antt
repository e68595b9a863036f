-- Laws of the steps that backups and sums of weights are made of.
use Rattle.std.specs.Prelude.{◌≡◌, refl, true, List, [], ◌∷◌, ◌++◌, ℕ, ◌*◌, ◌≤◌, length, set, take, drop}
use Rattle.std.proofs.Common.{sym, ap, subst, ◌∙◌, arith, length-append, take_at, length-take-le}
use Rattle.refusal.specs.declared.Refusal.{Refusal}
use Rattle.refusal.specs.Outcome.{Outcome, ok, refused, and_then, Accepted}
use Rattle.label.specs.Limits.{leaf_mark}
use Rattle.label.specs.Labels.{are_arities}
use Rattle.diagram.specs.Sizes.{highest_value, result_words}
use Rattle.diagram.specs.Diagram.{Diagram, leaf}
use Rattle.diagram.specs.Rows.{onto, rows}
use Rattle.diagram.specs.Words.{is_listing}
use Rattle.diagram.specs.Listing.{encode, listing, diagram_of, Good}
use Rattle.diagram.specs.ListingLaws.{length-listing}
use Rattle.diagram.specs.ListingOfDiagram.{diagram-listing}
use Rattle.diagram.specs.ListingValid.{listing-is-valid}
use Rattle.diagram.specs.Listings.{is-listing-diagram, is-listing-good, good-is-listing}
use Rattle.apply.specs.declared.Operation.{Operation}
use Rattle.apply.specs.declared.Operation.TheVariants.{Product}
use Rattle.apply.specs.declared.Names.{Names}
use Rattle.apply.specs.declared.Names.TheVariants.{Shared}
use Rattle.apply.specs.declared.Combined.{Combined}
use Rattle.apply.specs.declared.Combined.TheVariants.{Done, Refused as NotCombined}
use Rattle.apply.specs.Combination.{done_as}
use Rattle.apply.proofs.CombinationLaws.{done-accepted}
use Rattle.regression.specs.RegressCall.{written_as}
use Rattle.combine.specs.Calls.{Callable, CombineAnswered}
use Rattle.mdp.specs.Backup.{combined}
use Rattle.mdp.proofs.StepLaws.{combined-done, combined-refused}
use Rattle.mdp.proofs.CallLaws.{leaf-listed, combined-listed}
use Rattle.steps.specs.Steps.{step_as, told_as, ResultIn, Given, Wrote, Begun, Operands, Scalable, Folding}
use Rattle.std.specs.Prelude.{Err, Ok}
use Rattle.std.specs.Prelude.{Result}

-- ===== Steps one after another =====

pub then-then : {A B C : Type 0} (o : Outcome A) (f : A → Outcome B) (g : B → Outcome C) → and_then (and_then o f) g ≡ and_then o (λ a. and_then (f a) g)
then-then (ok a) f g = refl
then-then (refused r) f g = refl

pub then_same : {A B : Type 0} (o : Outcome A) (f g : A → Outcome B) → ((a : A) → f a ≡ g a) → and_then o f ≡ and_then o g
then_same (ok a) f g h = h a
then_same (refused r) f g h = refl

-- ===== Combination =====

pub callable : {ar x y out work : List ℕ} → Operands ar x y out work → Callable ar x y out work
callable {ar} {x} {y} o = record { first = listing-is-valid ar x o.first; second = listing-is-valid ar y o.second; out-room = o.out-room; work-room = o.work-room }

-- the answer and the words of a combination, as those of a step
module _ (op : Operation) (names : Names) (ar x y out : List ℕ) where
  combined-wrote : (r : Combined) (out' : List ℕ) → CombineAnswered op (done_as op names ar (diagram_of x) (diagram_of y)) ar x y out r out'
      → Accepted (Good ar) (combined op names ar (diagram_of x) (diagram_of y)) → Wrote ar (combined op names ar (diagram_of x) (diagram_of y)) (told_as r) out out'
  combined-wrote (Done n pairs) out' a g =
      let e = combined-done op names ar (diagram_of x) (diagram_of y) n pairs (sym a.answer) in
      let d = done-accepted op (done_as op names ar (diagram_of x) (diagram_of y)) ar (diagram_of x) (diagram_of y) n pairs (sym a.answer) in
      record {
        answer = ap Ok d.rows_are ∙ ap step_as (sym e);
        words = a.words ∙ ap (λ (o : Outcome Diagram). written_as o out) (sym e);
        good = g;
      }
  combined-wrote (NotCombined r) out' a g =
      let e = combined-refused op names ar (diagram_of x) (diagram_of y) r (sym a.answer) in
      record {
        answer = ap step_as (sym e);
        words = a.words ∙ ap (λ (o : Outcome Diagram). written_as o out) (sym e);
        good = g;
      }

pub named-wrote : {op : Operation} (names : Names) {ar x y out work : List ℕ} → Operands ar x y out work
    → {r : Combined} {out' : List ℕ} → CombineAnswered op (done_as op names ar (diagram_of x) (diagram_of y)) ar x y out r out'
    → {q : Result ℕ Refusal} → q ≡ told_as r → Wrote ar (combined op names ar (diagram_of x) (diagram_of y)) q out out'
named-wrote {op} names {ar} {x} {y} {out} o {r} {out'} a {q} e =
    subst (λ (z : Result ℕ Refusal). Wrote ar (combined op names ar (diagram_of x) (diagram_of y)) z out out') (sym e)
    (combined-wrote op names ar x y out r out' a
    (combined-listed op names ar (diagram_of x) (diagram_of y) (is-listing-good ar x o.first) (is-listing-good ar y o.second)))

-- ===== A leaf as a listing =====

leaf-words : (v : ℕ) → listing (leaf v) ≡ leaf_mark ∷ v ∷ 0 ∷ []
unfolding listing rows onto encode
leaf-words v = refl

module _ (ar : List ℕ) (v : ℕ) (good : are_arities ar ≡ true) (few : v ≤ highest_value) where
  pub leaf-listing : is_listing ar (leaf_mark ∷ v ∷ 0 ∷ []) ≡ true
  leaf-listing = subst (λ (ws : List ℕ). is_listing ar ws ≡ true) (leaf-words v) (good-is-listing ar (leaf v) (leaf-listed ar v good few))

  pub leaf-diagram : diagram_of (leaf_mark ∷ v ∷ 0 ∷ []) ≡ leaf v
  leaf-diagram = sym (ap diagram_of (leaf-words v)) ∙ diagram-listing ar (leaf v) (leaf-listed ar v good few)

module _ {ar x : List ℕ} {v : ℕ} {out work : List ℕ} (s : Scalable ar x v out work) where
  arities : are_arities ar ≡ true
  arities = (is-listing-good ar x s.first).arities

  pub leaf-operands : Operands ar x (leaf_mark ∷ v ∷ 0 ∷ []) out work
  leaf-operands = record { first = s.first; second = leaf-listing ar v arities s.few; out-room = s.out-room; work-room = s.work-room }

  pub leaf-wrote : {r : Result ℕ Refusal} {out' : List ℕ} → Wrote ar (combined Product Shared ar (diagram_of x) (diagram_of (leaf_mark ∷ v ∷ 0 ∷ []))) r out out'
      → Wrote ar (combined Product Shared ar (diagram_of x) (leaf v)) r out out'
  leaf-wrote {r} {out'} w = subst (λ (d : Diagram). Wrote ar (combined Product Shared ar (diagram_of x) d) r out out') (leaf-diagram ar v arities s.few) w

-- ===== Answers and results =====

step-rows : (o : Outcome Diagram) (n : ℕ) → step_as o ≡ Ok n → {A : Type 0} → ((d : Diagram) → o ≡ ok d → length (rows d) ≡ n → A) → A
step-rows (ok d) n e f = f d refl (cc)
step-rows (refused r) n e f = let z : ◌≡◌ {A = ℕ} 0 1 = cc in absurd (omega arith)

pub step-refused : (o : Outcome Diagram) (e : Refusal) → step_as o ≡ Err e → o ≡ refused e
step-refused (ok d) e h = let z : ◌≡◌ {A = ℕ} 0 1 = cc in absurd (omega arith)
step-refused (refused r) e h = ap refused (cc)

-- the words of a listing at a buffer's start
pub listing-result : (ar : List ℕ) (d : Diagram) (rest : List ℕ) (n : ℕ) → Good ar d → length (rows d) ≡ n → ResultIn ar (ok d) n (listing d ++ rest)
listing-result ar d rest n g e =
    let k : length (listing d) ≡ n * 3 = length-listing d ∙ ap (λ (m : ℕ). m * 3) e in
    let t : take (n * 3) (listing d ++ rest) ≡ listing d = take_at (listing d) rest (n * 3) k in
    record {
      is = ap ok (sym (ap diagram_of t ∙ diagram-listing ar d g));
      listing = ap (is_listing ar) t ∙ good-is-listing ar d g;
      room = omega (arith, length-append (listing d) rest);
    }

pub result_count : {ar : List ℕ} {o : Outcome Diagram} {n : ℕ} {out : List ℕ} → ResultIn ar o n out → length (rows (diagram_of (take (n * 3) out))) ≡ n
result_count {ar} {o} {n} {out} r =
    let ws = take (n * 3) out in
    let p = length-listing (diagram_of ws) in
    let q = ap length (is-listing-diagram ar ws r.listing) in
    let l = length-take-le (n * 3) out r.room in
    omega arith

pub given-ok : {ar : List ℕ} {o : Outcome Diagram} {d : Diagram} {n : ℕ} {out : List ℕ} → o ≡ ok d → ResultIn ar (ok d) n out → length (rows d) ≡ n → Given ar o (Ok n) out
given-ok {ar} {o} {d} {n} {out} e r l = record {
  answer = ap Ok (sym l) ∙ ap step_as (sym e);
  result = λ m h. let k : n ≡ m = cc in subst (λ (x : Outcome Diagram). ResultIn ar x m out) (sym e) (subst (λ (x : ℕ). ResultIn ar (ok d) x out) k r);
}

pub given-refused : {ar : List ℕ} {o : Outcome Diagram} {e : Refusal} {out : List ℕ} → o ≡ refused e → Given ar o (Err e) out
given-refused {ar} {o} {e} {out} h = record {
  answer = ap step_as (sym h);
  result = λ n i. let x : ◌≡◌ {A = ℕ} 0 1 = cc in absurd (omega arith);
}

pub wrote-given : {ar : List ℕ} {o : Outcome Diagram} {r : Result ℕ Refusal} {out out' : List ℕ} → Wrote ar o r out out' → Given ar o r out'
wrote-given {ar} {o} {r} {out} {out'} w = record {
  answer = w.answer;
  result = λ n e. step-rows o n (sym w.answer ∙ e) (λ d q l.
      let g : Good ar d = w.good.given d q in
      let u : out' ≡ listing d ++ drop (length (listing d)) out = w.words ∙ ap (λ (z : Outcome Diagram). written_as z out) q in
      subst (λ (z : Outcome Diagram). ResultIn ar z n out') (sym q)
      (subst (ResultIn ar (ok d) n) (sym u) (listing-result ar d (drop (length (listing d)) out) n g l)));
}

-- a refusal is handed up
pub refused-then : {ar : List ℕ} {o p : Outcome Diagram} (f : Diagram → Outcome Diagram) {r : Result ℕ Refusal} {e : Refusal} {out out' : List ℕ} → Given ar o r out → r ≡ Err e
    → p ≡ and_then o f → Given ar p r out'
refused-then {ar} {o} {p} f {r} {e} {out} {out'} g h q =
    let k : o ≡ refused e = step-refused o e (sym g.answer ∙ h) in
    subst (λ (x : Result ℕ Refusal). Given ar p x out') (sym h) (given-refused (q ∙ ap (λ (x : Outcome Diagram). and_then x f) k))

-- a step is taken: what follows goes on from its result
pub done-then : {ar : List ℕ} {o p : Outcome Diagram} (f : Diagram → Outcome Diagram) {n : ℕ} {out : List ℕ} → ResultIn ar o n out → p ≡ and_then o f
    → p ≡ f (diagram_of (take (n * 3) out))
done-then f r q = q ∙ ap (λ (x : Outcome Diagram). and_then x f) r.is

pub result-given : {ar : List ℕ} {o : Outcome Diagram} {n : ℕ} {out : List ℕ} → ResultIn ar o n out → Given ar o (Ok n) out
result-given {ar} {o} {n} {out} r = given-ok r.is (record { is = refl; listing = r.listing; room = r.room }) (result_count r)

pub given-same : {ar : List ℕ} {o p : Outcome Diagram} {r : Result ℕ Refusal} {out : List ℕ} → o ≡ p → Given ar o r out → Given ar p r out
given-same {ar} {o} {p} {r} {out} e g = subst (λ (x : Outcome Diagram). Given ar x r out) e g

-- ===== A result taken over into a buffer =====

pub result-long : {ar : List ℕ} {o : Outcome Diagram} {n : ℕ} {out : List ℕ} → ResultIn ar o n out → n * 3 ≡ length (take (n * 3) out)
result-long {ar} {o} {n} {out} r = sym (length-take-le (n * 3) out r.room)

pub result-few : {ar : List ℕ} {o : Outcome Diagram} {n : ℕ} {out : List ℕ} → ResultIn ar o n out → n * 3 ≤ result_words
result-few {ar} {o} {n} {out} r = let v = listing-is-valid ar (take (n * 3) out) r.listing in omega (arith, v.whole, v.few, result-long r)

pub folding-long : {ar buffer : List ℕ} {n : ℕ} {y work : List ℕ} → Folding ar buffer n y work → n * 3 ≡ length (take (n * 3) buffer)
folding-long {ar} {buffer} {n} f = sym (length-take-le (n * 3) buffer f.inside)

module _ {ar : List ℕ} {o : Outcome Diagram} {r : Result ℕ Refusal} {out out' : List ℕ} (w : Wrote ar o r out out') where
  pub fold-stops : {e : Refusal} → r ≡ Err e → {buffer : List ℕ} → Given ar o r buffer
  fold-stops {e} h {buffer} =
      let k : o ≡ refused e = step-refused o e (sym w.answer ∙ h) in
      subst (λ (x : Result ℕ Refusal). Given ar o x buffer) (sym h) (given-refused k)

  module _ {m : ℕ} (e : r ≡ Ok m) where
    pub fold-there : m * 3 ≤ length out'
    fold-there = ((wrote-given w).result m e).room

    pub fold-room : {buffer : List ℕ} {n : ℕ} {y work : List ℕ} → Folding ar buffer n y work → m * 3 ≤ length buffer
    fold-room f = omega (arith, result-few ((wrote-given w).result m e), f.buffer-room)

    pub fold-given : (buffer : List ℕ) {buffer' : List ℕ} → buffer' ≡ take (m * 3) out' ++ drop (m * 3) buffer → Given ar o (Ok m) buffer'
    fold-given buffer {buffer'} q =
        let x = (wrote-given w).result m e in
        let t : take (m * 3) buffer' ≡ take (m * 3) out' = ap (take (m * 3)) q ∙ take_at (take (m * 3) out') (drop (m * 3) buffer) (m * 3) (sym (result-long x)) in
        given-ok x.is (record {
          is = ap (λ (ws : List ℕ). ok (diagram_of ws)) (sym t);
          listing = ap (is_listing ar) t ∙ x.listing;
          room = omega (arith, ap length q, length-append (take (m * 3) out') (drop (m * 3) buffer), result-long x);
        }) (result_count x)

-- ===== Leaf 0 =====

pub begun : (out : List ℕ) → result_words ≤ length out → Begun 1 (set (set (set out 0 leaf_mark) 1 0) 2 0)
begun [] h = absurd (omega arith)
begun (a ∷ []) h = absurd (omega arith)
begun (a ∷ b ∷ []) h = absurd (omega arith)
begun (a ∷ b ∷ c ∷ s) h = record { one = refl; words = refl; room = omega arith }
