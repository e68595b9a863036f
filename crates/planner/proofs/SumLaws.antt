-- Laws of the loops over variants and actions.
use mathlib.Core.Path.{◌≡◌, refl, sym, ap, subst, ◌∙◌}
use mathlib.Core.List.{List}
use Prim.Native.Nat.{ℕ, ◌+◌, ◌*◌, ◌≤◌, ◌<◌}
use native.Mathlib.Omega.{arith}
use lib.ListN.{length, get_or, take, replicate, length-replicate}
use Rattle.refusal.specs.declared.Refusal.{Refusal}
use Rattle.refusal.specs.Outcome.{Outcome, and_then}
use Rattle.names.specs.Many.{many}
use Rattle.diagram.specs.Sizes.{result_words}
use Rattle.diagram.specs.Diagram.{Diagram, leaf}
use Rattle.diagram.specs.Listing.{diagram_of}
use Rattle.diagram.specs.Listings.{is-listing-good}
use Rattle.apply.specs.declared.Operation.TheVariants.{Max}
use Rattle.apply.specs.declared.Names.TheVariants.{Shared}
use Rattle.mdp.specs.Model.{Variant, Action, Every, GoodVariant, GoodAction}
use Rattle.mdp.specs.Backup.{combined, variants_sum, actions_best}
use Rattle.mdp.proofs.StepLaws.{sum-none, best_none}
use Rattle.mdp.proofs.BackupLaws.{truths-good}
use Rattle.model.specs.declared.Head.{Head}
use Rattle.model.specs.Inner.{Laid}
use Rattle.model.specs.Layout.{action_words, variant_place, variant_at, variants_of, action_at, model_of}
use Rattle.steps.specs.Steps.{Given, Begun, BufferListing}
use Rattle.planner.specs.Parts.{variant_added, freed_up, action_value, action_tried}
use Rattle.planner.specs.PartLaws.{many-every, sum_more, best-more, sum_fits}
use Rattle.planner.specs.Tasks.{VariantTask, ValueTask, ActionTask, FreeUp}
use Rattle.steps.specs.GivenLaws.{given-same, refused-then, done-then}
use Rattle.steps.specs.FoldLaws.{Folded, folded_start, folded-begins, folded-stops, folded_on, folded-end}
use Rattle.std.specs.Prelude.{Err, Ok, Result}

-- ===== The sum over the variants =====

-- the first v variants of the action a are added up in the buffer
pub record Summing (ar listings table : List ℕ) (a g : ℕ) (value out : List ℕ) (n v : ℕ) : Type 0 where
  pub within : v ≤ variants_of table a
  pub folded : Folded ar (λ vs. variants_sum ar g (diagram_of value) (leaf 0) vs) (λ w. variant_at listings table (variant_place a w)) out n v

pub value-next : {ar value : List ℕ} {g : ℕ} {out work out' work' : List ℕ} → ValueTask ar value g out work → length out' ≡ length out → length work' ≡ length work → ValueTask ar value g out' work'
value-next t p q = record { value-listing = t.value-listing; within = t.within; few = t.few; out-room = omega (arith, p, t.out-room); work-room = omega (arith, q, t.work-room) }

pub value-fresh : {ar value : List ℕ} {g : ℕ} {out work : List ℕ} → ValueTask ar value g out work → (n : ℕ) → result_words ≤ n → ValueTask ar value g (replicate n 0) work
value-fresh t n h = record { value-listing = t.value-listing; within = t.within; few = t.few; out-room = omega (arith, length-replicate {A = ℕ} n 0); work-room = t.work-room }

module _ {ar listings table : List ℕ} {a : ℕ} (t : ActionTask ar listings table a) {value : List ℕ} {g : ℕ} {out₀ work₀ : List ℕ} (u : ValueTask ar value g out₀ work₀) where
  abbrev F : ℕ → Variant
  F v = variant_at listings table (variant_place a v)

  abbrev Summed : List Variant → Outcome Diagram
  Summed vs = variants_sum ar g (diagram_of value) (leaf 0) vs

  abbrev D : Diagram → Variant → Outcome Diagram
  D d v = variant_added ar g (diagram_of value) d v

  variants-are : (action_at listings table a).variants ≡ many F (variants_of table a)
  unfolding action_at
  variants-are = refl

  good-variants : Every (GoodVariant ar (action_at listings table a).count) (many F (variants_of table a))
  good-variants = subst (Every (GoodVariant ar (action_at listings table a).count)) variants-are t.good.variants

  pub summing_start : {n : ℕ} {out : List ℕ} → Begun n out → Summing ar listings table a g value out n 0
  summing_start b = record {
    within = omega arith;
    folded = folded_start Summed D F (sum_more ar g (diagram_of value) (leaf 0)) (is-listing-good ar value u.value-listing).arities (sum-none ar g (diagram_of value) (leaf 0)) b;
  }

  module _ {out : List ℕ} {n v : ℕ} (x : Summing ar listings table a g value out n v) (l : v < variants_of table a) where
    pub summing-task : {work : List ℕ} → length out ≡ length out₀ → length work ≡ length work₀ → VariantTask ar listings table (variant_place a v) value out work
    summing-task p q = record {
      laid = t.laid.variants v l;
      inside = omega (arith, t.inside, t.laid.few, l);
      truths = truths-good ar (action_at listings table a).count (F v)
          (many-every (GoodVariant ar (action_at listings table a).count) F (variants_of table a) v good-variants l);
      value-listing = u.value-listing;
      out-room = omega (arith, p, u.out-room);
      work-room = omega (arith, q, u.work-room);
    }

    pub summing-begins : BufferListing ar n out
    summing-begins = folded-begins Summed D F (sum_more ar g (diagram_of value) (leaf 0)) x.folded

    module _ {r : Result ℕ Refusal} {out' : List ℕ} (w : Given ar (variant_added ar g (diagram_of value) (diagram_of (take (n * 3) out)) (variant_at listings table (variant_place a v))) r out') where
      pub summing-stops : {e : Refusal} → r ≡ Err e → {out'' : List ℕ} → Given ar (variants_sum ar g (diagram_of value) (leaf 0) (action_at listings table a).variants) r out''
      summing-stops h = given-same (ap Summed (sym variants-are)) (folded-stops Summed D F (sum_more ar g (diagram_of value) (leaf 0)) x.folded w h (variants_of table a) l)

      pub summing_on : {m : ℕ} → r ≡ Ok m → Summing ar listings table a g value out' m (v + 1)
      summing_on h = record { within = omega (arith, l); folded = folded_on Summed D F (sum_more ar g (diagram_of value) (leaf 0)) x.folded w h }

  pub summing-end : {out : List ℕ} {n v : ℕ} → Summing ar listings table a g value out n v → variants_of table a ≤ v
      → Given ar (variants_sum ar g (diagram_of value) (leaf 0) (action_at listings table a).variants) (Ok n) out
  summing-end {out} {n} {v} x h =
      let k = x.within in
      let e : variants_of table a ≡ v = omega arith in
      given-same (ap Summed (sym variants-are)) (folded-end Summed D F (sum_more ar g (diagram_of value) (leaf 0)) x.folded e)

  -- ===== An action's value =====

  abbrev Q : Outcome Diagram
  Q = variants_sum ar g (diagram_of value) (leaf 0) (action_at listings table a).variants

  abbrev A : Outcome Diagram
  A = action_value ar g (diagram_of value) (action_at listings table a)

  action-is : A ≡ and_then Q (λ q. freed_up ar (action_at listings table a).count q)
  unfolding action_value
  action-is = refl

  count-is : (action_at listings table a).count ≡ get_or table (a * action_words) 0
  unfolding action_at
  count-is = refl

  module _ {r : Result ℕ Refusal} {sum : List ℕ} (x : Given ar Q r sum) where
    pub action-stops : {e : Refusal} → r ≡ Err e → {out : List ℕ} → Given ar A r out
    action-stops h = refused-then (λ q. freed_up ar (action_at listings table a).count q) x h action-is

    module _ {n : ℕ} (h : r ≡ Ok n) where
      pub action-freeup : FreeUp ar (take (n * 3) sum) (get_or table (a * action_words) 0) out₀
      action-freeup = subst (λ (c : ℕ). FreeUp ar (take (n * 3) sum) c out₀) count-is (record {
        listing = (x.result n h).listing;
        few = t.good.few;
        within = ((sum_fits ar (is-listing-good ar value u.value-listing).arities g u.few (diagram_of value)
            (record { listed = is-listing-good ar value u.value-listing; within = u.within }) (action_at listings table a) t.good
            ).given (diagram_of (take (n * 3) sum)) (x.result n h).is).within;
        out-room = u.out-room;
      })

      pub action-given : {q : Result ℕ Refusal} {out' : List ℕ} → Given ar (freed_up ar (get_or table (a * action_words) 0) (diagram_of (take (n * 3) sum))) q out' → Given ar A q out'
      action-given w = given-same (
          ap (λ (c : ℕ). freed_up ar c (diagram_of (take (n * 3) sum))) (sym count-is)
          ∙ sym (done-then (λ q. freed_up ar (action_at listings table a).count q) (x.result n h) action-is)) w

-- ===== Tried =====

pub tried-is : (ar : List ℕ) (g : ℕ) (d best : Diagram) (a : Action) → action_tried ar g d best a ≡ and_then (action_value ar g d a) (λ q. combined Max Shared ar best q)
unfolding action_tried
tried-is ar g d best a = refl

-- ===== The best over the actions =====

-- the first a actions are tried, and the best of them is in the buffer
pub record Trying (ar listings table : List ℕ) (actions g : ℕ) (value out : List ℕ) (n a : ℕ) : Type 0 where
  pub within : a ≤ actions
  pub folded : Folded ar (λ l. actions_best ar g (diagram_of value) (leaf 0) l) (action_at listings table) out n a

module _ {ar listings table : List ℕ} {h : Head} (t : Laid ar listings table h) {value out₀ work₀ : List ℕ} (u : ValueTask ar value h.numerator out₀ work₀) where
  abbrev G : List Action → Outcome Diagram
  G l = actions_best ar h.numerator (diagram_of value) (leaf 0) l

  abbrev E : Diagram → Action → Outcome Diagram
  E d a = action_tried ar h.numerator (diagram_of value) d a

  actions-are : (model_of ar listings table h).actions ≡ many (action_at listings table) h.actions
  unfolding model_of
  actions-are = refl

  good-actions : Every (GoodAction ar) (many (action_at listings table) h.actions)
  unfolding model_of
  good-actions = t.good.actions

  pub trying_start : {n : ℕ} {out : List ℕ} → Begun n out → Trying ar listings table h.actions h.numerator value out n 0
  trying_start b = record {
    within = omega arith;
    folded = folded_start G E (action_at listings table) (best-more ar h.numerator (diagram_of value) (leaf 0)) (is-listing-good ar value u.value-listing).arities
        (best_none ar h.numerator (diagram_of value) (leaf 0)) b;
  }

  module _ {out : List ℕ} {n a : ℕ} (x : Trying ar listings table h.actions h.numerator value out n a) (l : a < h.actions) where
    pub trying-task : ActionTask ar listings table a
    trying-task = record {
      laid = t.actions a l;
      good = many-every (GoodAction ar) (action_at listings table) h.actions a good-actions l;
      inside = omega (arith, t.room, t.few, l);
    }

    pub trying-begins : BufferListing ar n out
    trying-begins = folded-begins G E (action_at listings table) (best-more ar h.numerator (diagram_of value) (leaf 0)) x.folded

    module _ {r : Result ℕ Refusal} {out' : List ℕ} (w : Given ar (action_tried ar h.numerator (diagram_of value) (diagram_of (take (n * 3) out)) (action_at listings table a)) r out') where
      pub trying-stops : {e : Refusal} → r ≡ Err e → {out'' : List ℕ}
          → Given ar (actions_best ar h.numerator (diagram_of value) (leaf 0) (model_of ar listings table h).actions) r out''
      trying-stops k =
          given-same (ap G (sym actions-are)) (folded-stops G E (action_at listings table) (best-more ar h.numerator (diagram_of value) (leaf 0)) x.folded w k h.actions l)

      pub trying-on : {m : ℕ} → r ≡ Ok m → Trying ar listings table h.actions h.numerator value out' m (a + 1)
      trying-on k = record { within = omega (arith, l); folded = folded_on G E (action_at listings table) (best-more ar h.numerator (diagram_of value) (leaf 0)) x.folded w k }

  pub trying-end : {out : List ℕ} {n a : ℕ} → Trying ar listings table h.actions h.numerator value out n a → h.actions ≤ a
      → Given ar (actions_best ar h.numerator (diagram_of value) (leaf 0) (model_of ar listings table h).actions) (Ok n) out
  trying-end {out} {n} {a} x k =
      let y = x.within in
      let e : h.actions ≡ a = omega arith in
      given-same (ap G (sym actions-are)) (folded-end G E (action_at listings table) (best-more ar h.numerator (diagram_of value) (leaf 0)) x.folded e)
