-- Laws of what a variant adds.
use mathlib.Core.Path.{◌≡◌, refl, sym, ap, subst, ◌∙◌}
use mathlib.Core.List.{List, ◌++◌}
use Prim.Native.Nat.{ℕ, ◌*◌, ◌≤◌}
use native.Mathlib.Omega.{arith}
use lib.ListN.{length, take, drop, replicate, length-replicate}
use Rattle.refusal.specs.declared.Refusal.{Refusal}
use Rattle.refusal.specs.Outcome.{Outcome, ok, refused, and_then, Accepted}
use Rattle.refusal.specs.OutcomeLaws.{accepted-mono}
use Rattle.diagram.specs.Sizes.{highest_value, result_words}
use Rattle.diagram.specs.Diagram.{Diagram, leaf}
use Rattle.diagram.specs.Rows.{rows}
use Rattle.diagram.specs.Listing.{listing, diagram_of, Good}
use Rattle.diagram.specs.Listings.{is-listing-good}
use Rattle.apply.specs.declared.Operation.TheVariants.{Sum, Product}
use Rattle.apply.specs.declared.Names.TheVariants.{Apart, Shared}
use Rattle.regression.specs.Regression.{Truths, regressed}
use Rattle.regression.specs.RegressCall.{truths_of, regressed_as, written_as}
use Rattle.regression.proofs.TellsLaws.{regressed-tells}
use Rattle.mdp.specs.Model.{Variant}
use Rattle.mdp.specs.Backup.{combined}
use Rattle.regress.specs.Regressing.{Regressable}
use Rattle.model.specs.Layout.{weight_words, spans_at, variant_at, reward_words}
use Rattle.model.specs.declared.Head.{Head}
use Rattle.steps.specs.Steps.{ResultIn, Given, Wrote, Operands, Scalable}
use Rattle.planner.specs.Parts.{variant_product, variant_added}
use Rattle.planner.specs.Tasks.{VariantTask, WeightTask, RewardTask}
use Rattle.steps.specs.GivenLaws.{listing-result, given-ok, given-refused, wrote-given, refused-then, given-same}
use Rattle.planner.proofs.FollowLaws.{first_done, both-done, both-operands}
use Rattle.std.specs.Prelude.{Err, Ok}
use Rattle.std.specs.Prelude.{Result}

-- ===== A variant regressed =====

module _ {ar listings table : List ℕ} {place : ℕ} {value out work : List ℕ} (t : VariantTask ar listings table place value out work) where
  pub regress-able : {spans : List ℕ} → spans ≡ spans_at table place → Regressable ar value listings spans out work
  regress-able {spans} e = subst (λ (s : List ℕ). Regressable ar value listings s out work) (sym e)
      (record { value-listing = t.value-listing; truth-listings = t.laid.truths; result = t.out-room; room = t.work-room })

  regressed-good : Accepted (Good ar) (regressed ar (variant_at listings table place).truths (diagram_of value))
  regressed-good = accepted-mono (regressed-tells ar (variant_at listings table place).truths (diagram_of value) t.truths (is-listing-good ar value t.value-listing)) (λ d h. h.good)

  truths-are : {spans : List ℕ} → spans ≡ spans_at table place → truths_of listings spans ≡ (variant_at listings table place).truths
  unfolding variant_at
  truths-are e = ap (truths_of listings) e

  module _ {spans : List ℕ} (e : spans ≡ spans_at table place) {r : Result ℕ Refusal} (q : r ≡ regressed_as (regressed ar (truths_of listings spans) (diagram_of value)))
      {out' : List ℕ} (w : out' ≡ written_as (regressed ar (truths_of listings spans) (diagram_of value)) out) where
    abbrev O : Outcome Diagram
    O = regressed ar (variant_at listings table place).truths (diagram_of value)

    same : regressed ar (truths_of listings spans) (diagram_of value) ≡ O
    same = ap (λ (ts : Truths). regressed ar ts (diagram_of value)) (truths-are e)

    done : (o : Outcome Diagram) (n : ℕ) → regressed_as o ≡ Ok n → {A : Type 0} → ((d : Diagram) → o ≡ ok d → length (rows d) ≡ n → A) → A
    done (ok d) n e f = f d refl (cc)
    done (refused r) n e f = let z : ◌≡◌ {A = ℕ} 0 1 = cc in absurd (omega arith)

    stopped : (o : Outcome Diagram) (e : Refusal) → regressed_as o ≡ Err e → o ≡ refused e
    stopped (ok d) e h = let z : ◌≡◌ {A = ℕ} 0 1 = cc in absurd (omega arith)
    stopped (refused r) e h = ap refused (cc)

    regress-given : {n : ℕ} → r ≡ Ok n → Given ar O (Ok n) out'
    regress-given {n} h = done O n (ap regressed_as (sym same) ∙ sym q ∙ h) (λ d p l.
        let u : out' ≡ listing d ++ drop (length (listing d)) out = w ∙ ap (λ (x : Outcome Diagram). written_as x out) (same ∙ p) in
        given-ok p (subst (ResultIn ar (ok d) n) (sym u) (listing-result ar d (drop (length (listing d)) out) n (regressed-good.given d p) l)) l)

    regress-stops : {x : Refusal} → r ≡ Err x → {out'' : List ℕ} → Given ar O (Err x) out''
    regress-stops {x} h = given-refused (stopped O x (ap regressed_as (sym same) ∙ sym q ∙ h))

    pub regress-told : Given ar O r out'
    regress-told = go r refl
      where
        go : (x : Result ℕ Refusal) → r ≡ x → Given ar O r out'
        go (Ok n) k = rw k (regress-given k)
        go (Err x) k = rw k (regress-stops k)

-- ===== A weight =====

module _ {ar listings table : List ℕ} {place g : ℕ} {out work : List ℕ} (t : WeightTask ar listings table place g out work) where
  pub weigh-scalable : {ws : List ℕ} → ws ≡ weight_words listings table place → Scalable ar ws g out work
  weigh-scalable {ws} e = subst (λ (s : List ℕ). Scalable ar s g out work) (sym e) (record { first = t.laid.weight; few = t.few; out-room = t.out-room; work-room = t.work-room })

  pub weigh-given : {ws : List ℕ} → ws ≡ weight_words listings table place → {r : Result ℕ Refusal} {out' : List ℕ} → Wrote ar (combined Product Shared ar (diagram_of ws) (leaf g)) r out out'
      → Given ar (combined Product Shared ar (variant_at listings table place).weight (leaf g)) r out'
  unfolding variant_at
  weigh-given {ws} e w = given-same (ap (λ (s : List ℕ). combined Product Shared ar (diagram_of s) (leaf g)) e) (wrote-given w)

-- ===== Their product =====

module _ {ar listings table : List ℕ} {place : ℕ} {value out work : List ℕ} (t : VariantTask ar listings table place value out work) where
  pub task-fresh : (n : ℕ) → result_words ≤ n → VariantTask ar listings table place value (replicate n 0) work
  task-fresh n h = record {
    laid = t.laid;
    inside = t.inside;
    truths = t.truths;
    value-listing = t.value-listing;
    out-room = omega (arith, length-replicate {A = ℕ} n 0);
    work-room = t.work-room;
  }

  pub task-weight : (n g : ℕ) → result_words ≤ n → g ≤ highest_value → {work' : List ℕ} → length work' ≡ length work → WeightTask ar listings table place g (replicate n 0) work'
  task-weight n g h few e = record { laid = t.laid; inside = t.inside; few = few; out-room = omega (arith, length-replicate {A = ℕ} n 0); work-room = omega (arith, e, t.work-room) }

  module _ (g : ℕ) where
    abbrev R : Outcome Diagram
    R = regressed ar (variant_at listings table place).truths (diagram_of value)

    abbrev W : Outcome Diagram
    W = combined Product Shared ar (variant_at listings table place).weight (leaf g)

    abbrev P : Outcome Diagram
    P = variant_product ar g (diagram_of value) (variant_at listings table place)

    product_is : P ≡ and_then R (λ r. and_then W (λ w. combined Product Shared ar r w))
    unfolding variant_product
    product_is = refl

    module _ {a : Result ℕ Refusal} {reg : List ℕ} (x : Given ar R a reg) where
      pub product-stops : {e : Refusal} → a ≡ Err e → {out' : List ℕ} → Given ar P a out'
      product-stops h = refused-then (λ r. and_then W (λ w. combined Product Shared ar r w)) x h product_is

      module _ {n : ℕ} (h : a ≡ Ok n) {b : Result ℕ Refusal} {wei : List ℕ} (y : Given ar W b wei) where
        pub product-stops-2 : {e : Refusal} → b ≡ Err e → {out' : List ℕ} → Given ar P b out'
        product-stops-2 k = refused-then (λ w. combined Product Shared ar (diagram_of (take (n * 3) reg)) w) y k (first_done Product Shared W product_is x h)

        module _ {m : ℕ} (k : b ≡ Ok m) where
          pub product-operands : {work' : List ℕ} → length work' ≡ length work → Operands ar (take (n * 3) reg) (take (m * 3) wei) out work'
          product-operands = both-operands Product Shared W product_is x h y k t.out-room t.work-room

          pub product-given : {r : Result ℕ Refusal} {out' : List ℕ} → Wrote ar (combined Product Shared ar (diagram_of (take (n * 3) reg)) (diagram_of (take (m * 3) wei))) r out out' → Given ar P r out'
          product-given w = given-same (sym (both-done Product Shared W product_is x h y k)) (wrote-given w)

-- ===== Added to the sum =====

pub added_is : (ar : List ℕ) (g : ℕ) (d sum : Diagram) (v : Variant) → variant_added ar g d sum v ≡ and_then (variant_product ar g d v) (λ p. combined Sum Apart ar sum p)
unfolding variant_added
added_is ar g d sum v = refl

-- ===== The reward =====

module _ {ar listings : List ℕ} {h : Head} {v : ℕ} {out work : List ℕ} (t : RewardTask ar listings h v out work) where
  pub reward-scalable : {ws : List ℕ} → ws ≡ reward_words listings h → Scalable ar ws v out work
  reward-scalable {ws} e = subst (λ (s : List ℕ). Scalable ar s v out work) (sym e) (record { first = t.reward; few = t.few; out-room = t.out-room; work-room = t.work-room })

  pub reward-given : {ws : List ℕ} → ws ≡ reward_words listings h → {r : Result ℕ Refusal} {out' : List ℕ} → Wrote ar (combined Product Shared ar (diagram_of ws) (leaf v)) r out out'
      → Given ar (combined Product Shared ar (diagram_of (reward_words listings h)) (leaf v)) r out'
  reward-given {ws} e w = given-same (ap (λ (s : List ℕ). combined Product Shared ar (diagram_of s) (leaf v)) e) (wrote-given w)
