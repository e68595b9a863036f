-- Laws of the code that tells whether a line stands where it may.
use mathlib.Core.Path.{◌≡◌, refl, sym, ap, ap₂, subst, ◌∙◌}
use mathlib.Core.Bool.{Bool, true, false, not, ◌&&◌, and-true, and-false, and_assoc}
use mathlib.Core.List.{List, [], ◌∷◌, ◌++◌}
use Prim.Native.Nat.{ℕ, zero, suc, ◌+◌, ◌*◌, ◌<◌, ◌≤◌}
use native.Mathlib.Omega.{arith}
use borrow.Author.Tests.{le-leb, lt-leb, eq-eqb, ne_eqb}
use lib.ListN.{length, get_or, drop}
use lib.Seq.{get_or-take, get_or-drop}
use lib.Dec.{leb, eqb}
use Rattle.label.specs.Limits.{constant_count}
use Rattle.diagram.specs.Words.{every_below}
use Rattle.valuing.proofs.PassedLaws.{Passed, passed_start, passed_on, passed-no, passed-all}
use Rattle.mdp.specs.Model.{Action}
use Rattle.names.specs.Layout.{actions_at, variants_at}
use Rattle.names.specs.KeyLaws.{length-keys}
use Rattle.refusal.specs.declared.Refusal.TheVariants.{Form, Place, Missing}
use Rattle.refusal.specs.Outcome.{ok}
use Rattle.session.specs.declared.Rule.{Rule}
use Rattle.session.specs.declared.Rule.TheVariants as R
use Rattle.session.specs.Session.{refuse_if}
use Rattle.session.specs.Replies.{each_varied, each_placed, allowed}
use Rattle.declare.specs.Tables.{names_of}
use Rattle.facts.specs.Words.{part, placed_base, live_of}
use Rattle.names.specs.Many.{many}
use Rattle.names.specs.ManyLaws.{length-many}
use Rattle.model.specs.Layout.{action_words, variant_at, variant_place, variants_of, action_at, model_of}
use Rattle.memory.specs.declared.Numbers.{Numbers}
use Rattle.memory.specs.Memory.{session_of}
use Rattle.lines.specs.Placing.{placed_as, Varied, Whole, AllPlaced, Placing}
use Rattle.refusal.specs.declared.Refusal.{Refusal}
use Rattle.std.specs.Prelude.{Err, Ok, Result}

-- ===== A variant of each action =====

abbrev pub has_variant : List ℕ → ℕ → Bool
has_variant table a = leb 1 (variants_of table a)

each_snoc : (l : List Action) (a : Action) → each_varied (l ++ (a ∷ [])) ≡ (each_varied l && leb 1 (length a.variants))
each_snoc [] a = and-true (leb 1 (length a.variants))
each_snoc (b ∷ l) a = rw (each_snoc l a) (sym (and_assoc (leb 1 (length b.variants)) (each_varied l) (leb 1 (length a.variants))))

varied-actions : (listings table : List ℕ) (n : ℕ) → each_varied (many (action_at listings table) n) ≡ every_below n (has_variant table)
unfolding many action_at
varied-actions listings table zero = refl
varied-actions listings table (suc n) =
    each_snoc (many (action_at listings table) n) (action_at listings table n)
    ∙ ap₂ ◌&&◌ (varied-actions listings table n) (ap (leb 1) (length-many (λ v. variant_at listings table (variant_place n v)) (variants_of table n)))

-- the actions one by one
pub record Varying (table : List ℕ) (n a : ℕ) : Type 0 where
  pub most : a ≤ n
  pub passed : Passed (has_variant table) a

pub varying-start : (table : List ℕ) (n : ℕ) → Varying table n 0
varying-start table n = record { most = omega arith; passed = passed_start }

pub varying-on : {table : List ℕ} {n a : ℕ} → Varying table n a → a < n → (get_or table (a * action_words + 1) 0 ≡ 0 → ⊥) → Varying table n (a + 1)
varying-on {table} {n} {a} v h z = record { most = omega arith; passed = passed_on v.passed refl (le-leb 1 (variants_of table a) (omega arith)) }

pub varied-no : (table : List ℕ) (n a : ℕ) → a < n → get_or table (a * action_words + 1) 0 ≡ 0 → Varied table n false
varied-no table n a h z = record {
  is = λ listings. passed-no n (has_variant table) a h refl (lt-leb 1 (variants_of table a) (omega arith)) ∙ sym (varied-actions listings table n);
}

pub varied-all : {table : List ℕ} {n a : ℕ} → Varying table n a → n ≤ a → Varied table n true
varied-all {table} {n} {a} v h = record {
  is = λ listings. passed-all n (has_variant table) a v.passed h ∙ sym (varied-actions listings table n);
}

-- ===== A whole model =====

module _ (n : Numbers) (table : List ℕ) where
  pub whole-idle : n.counts.actions ≡ 0 → Whole n table false
  unfolding session_of names_of
  whole-idle z = record {
    is = λ names arities listings state value. rw (length-keys names actions_at n.counts.actions, z) (sym (and-false n.reward));
  }

  pub whole-varied : {r : Bool} → (n.counts.actions ≡ 0 → ⊥) → n.reward ≡ true → Varied table n.head.actions r → Whole n table r
  unfolding session_of names_of model_of
  whole-varied z e v = record {
    is = λ names arities listings state value. rw (e, length-keys names actions_at n.counts.actions, le-leb 1 n.counts.actions (omega arith)) (v.is listings);
  }

  pub whole-unrewarded : n.reward ≡ false → Whole n table n.reward
  unfolding session_of
  whole-unrewarded e = subst (Whole n table) (sym e) (record { is = λ names arities listings state value. rw e })

-- ===== Every constant placed =====

abbrev pub is_marked : List ℕ → ℕ → Bool
is_marked state c = eqb (get_or (part state placed_base constant_count) c 0) 1

mark-at : (state : List ℕ) (c : ℕ) → c < constant_count → get_or (part state placed_base constant_count) c 0 ≡ get_or state (placed_base + c) 0
mark-at state c h = get_or-take constant_count (drop placed_base state) c 0 h ∙ get_or-drop placed_base state c 0

-- the constants one by one
pub record Marking (state : List ℕ) (n c : ℕ) : Type 0 where
  pub most : c ≤ n
  pub passed : Passed (is_marked state) c

pub marking-start : (state : List ℕ) (n : ℕ) → Marking state n 0
marking-start state n = record { most = omega arith; passed = passed_start }

module _ (state : List ℕ) {n c : ℕ} (k : n ≤ constant_count) (h : c < n) where
  pub marking-on : Marking state n c → get_or state (placed_base + c) 0 ≡ 1 → Marking state n (c + 1)
  marking-on m e = record { most = omega arith; passed = passed_on m.passed refl (eq-eqb _ 1 (mark-at state c (omega arith) ∙ e)) }

  pub marked-no : (get_or state (placed_base + c) 0 ≡ 1 → ⊥) → false ≡ each_placed (part state placed_base constant_count) n
  marked-no f = passed-no n (is_marked state) c h refl (ne_eqb _ 1 (λ e. f (sym (mark-at state c (omega arith)) ∙ e)))

pub marked_all : {state : List ℕ} {n c : ℕ} → Marking state n c → n ≤ c → true ≡ each_placed (part state placed_base constant_count) n
marked_all {state} {n} {c} m h = passed-all n (is_marked state) c m.passed h

module _ (n : Numbers) (state : List ℕ) where
  pub placed-none : n.live.objects ≡ 0 → AllPlaced n state (not (eqb n.live.objects 0))
  unfolding session_of live_of
  placed-none z =
      subst (λ (k : ℕ). AllPlaced n state (not (eqb k 0))) (sym z) (record { is = λ names arities listings table value. rw z })

  pub placed-each : {r : Bool} → (n.live.objects ≡ 0 → ⊥) → r ≡ each_placed (part state placed_base constant_count) n.counts.constants → AllPlaced n state r
  unfolding session_of live_of names_of
  placed-each z e = record {
    is = λ names arities listings table value. rw (le-leb 1 n.live.objects (omega arith), length-keys names 0 n.counts.constants) e;
  }

-- ===== What a rule asks for =====

none_or_some : (k : ℕ) → eqb k 0 ≡ not (leb 1 k)
none_or_some zero = refl
none_or_some (suc k) = rw (ne_eqb (suc k) 0 (omega arith), le-leb 1 (suc k) (omega arith))

module _ (n : Numbers) (table state : List ℕ) {rule : Rule} where
  pub place-no-form : rule ≡ R.NoForm → Placing rule n table state (Err Form)
  unfolding allowed
  place-no-form e = record { is = λ names arities listings value. rw e }

  pub place-misplaced : rule ≡ R.Misplaced → Placing rule n table state (Err Place)
  unfolding allowed
  place-misplaced e = record { is = λ names arities listings value. rw e }

  pub place-anywhere : rule ≡ R.Anywhere → Placing rule n table state (Ok tt)
  unfolding allowed
  place-anywhere e = record { is = λ names arities listings value. rw e }

  module _ {r : Result (Unit {0}) Refusal} where
    pub place-total : rule ≡ R.OneTotal → r ≡ placed_as (refuse_if n.total Place (ok tt)) → Placing rule n table state r
    unfolding allowed session_of
    place-total e u = record { is = λ names arities listings value. rw e u }

    pub place-discount : rule ≡ R.OneDiscount → r ≡ placed_as (refuse_if n.discount Place (ok tt)) → Placing rule n table state r
    unfolding allowed session_of
    place-discount e u = record { is = λ names arities listings value. rw e u }

    pub place-reward : rule ≡ R.OneReward → r ≡ placed_as (refuse_if n.reward Place (ok tt)) → Placing rule n table state r
    unfolding allowed session_of
    place-reward e u = record { is = λ names arities listings value. rw e u }

    pub place-action : rule ≡ R.AfterAction → r ≡ placed_as (refuse_if (eqb n.counts.actions 0) Place (ok tt)) → Placing rule n table state r
    unfolding allowed session_of names_of
    place-action e u = record {
      is = λ names arities listings value. rw (e, length-keys names actions_at n.counts.actions, ← none_or_some n.counts.actions) u;
    }

    pub place-variant : rule ≡ R.AfterVariant → r ≡ placed_as (refuse_if (eqb n.counts.variants 0) Place (ok tt)) → Placing rule n table state r
    unfolding allowed session_of names_of
    place-variant e u = record {
      is = λ names arities listings value. rw (e, length-keys names (variants_at + n.counts.earlier * 2) n.counts.variants, ← none_or_some n.counts.variants) u;
    }

    pub place-objects : rule ≡ R.AfterObjects → r ≡ placed_as (refuse_if (eqb n.live.objects 0) Place (ok tt)) → Placing rule n table state r
    unfolding allowed session_of live_of
    place-objects e u = record { is = λ names arities listings value. rw (e, ← none_or_some n.live.objects) u }

    module _ {b : Bool} (u : r ≡ placed_as (refuse_if (not b) Place (ok tt))) where
      pub place-whole : rule ≡ R.WholeModel → Whole n table b → Placing rule n table state r
      unfolding allowed
      place-whole e w = record {
        is = λ names arities listings value. rw (e, ← w.is names arities listings state value) u;
      }

      pub place-placed : rule ≡ R.WholeState → AllPlaced n state b → Placing rule n table state r
      unfolding allowed
      place-placed e w = record {
        is = λ names arities listings value. rw (e, ← w.is names arities listings table value) u;
      }

      pub place-constants : rule ≡ R.Constants → b ≡ each_placed (part state placed_base constant_count) n.counts.constants → Placing rule n table state r
      unfolding allowed session_of live_of names_of
      place-constants e q = record {
        is = λ names arities listings value. rw (e, length-keys names 0 n.counts.constants, ← q) u;
      }

    pub place-move : {b : Bool} → r ≡ placed_as (refuse_if (not b) Missing (ok tt)) → rule ≡ R.MoveState → AllPlaced n state b → Placing rule n table state r
    unfolding allowed
    place-move u e w = record {
      is = λ names arities listings value. rw (e, ← w.is names arities listings table value) u;
    }
