-- Laws of a session in lent words before its first line.
use mathlib.Core.Path.{◌≡◌, refl, sym, ap, subst, ◌∙◌}
use mathlib.Core.List.{List, [], ◌∷◌}
use Prim.Native.Nat.{ℕ, zero, suc, ◌+◌, ◌-◌, ◌<◌, ◌≤◌}
use native.Mathlib.Omega.{arith}
use lib.ListN.{length, get_or, set, replicate, length-set, length-replicate, get_or-replicate}
use lib.Seq.{ext_get_or, get_or-set_same, get_or-set_other}
use Rattle.label.specs.Limits.{predicate_count, equality, equality_arity}
use Rattle.diagram.specs.Diagram.{leaf}
use Rattle.diagram.specs.Listing.{tree_at, diagram_of}
use Rattle.names.specs.Many.{many}
use Rattle.names.specs.Keys.{keys_at}
use Rattle.session.specs.Session.{Session, opening, default_total, default_numerator, default_denominator}
use Rattle.session.specs.Facts.{cleared}
use Rattle.session.specs.Good.{GoodSession}
use Rattle.session_laws.proofs.OpeningLaws.{opening-good}
use Rattle.declare.specs.Tables.{names_of}
use Rattle.facts.specs.Inner.{Cleared, Emptied}
use Rattle.facts.specs.Words.{state_words, facts_base, live_of}
use Rattle.facts.specs.WordLaws.{cleared-live, index-none}
use Rattle.model_entry.specs.BuildingLaws.{begun, begun-model}
use Rattle.memory.specs.declared.Numbers.{Numbers}
use Rattle.memory.specs.Memory.{memory_of, session_of, Stored, Rooms, opening_numbers}
use Rattle.lines.specs.Lines.{Opening, Opened}

-- ===== The arity list =====

first-then-zeros : (ar : List ℕ) (a m : ℕ) → length ar ≡ suc m → get_or ar 0 0 ≡ a → ((i : ℕ) → 0 < i → i < suc m → get_or ar i 0 ≡ 0) → ar ≡ a ∷ replicate m 0
first-then-zeros ar a m e f z = ext_get_or 0 ar (a ∷ replicate m 0) (e ∙ ap suc (sym (length-replicate {A = ℕ} m 0))) (λ i h. go i h)
  where
    go : (i : ℕ) → i < length ar → get_or ar i 0 ≡ get_or (a ∷ replicate m 0) i 0
    go zero h = f
    go (suc i) h = z (suc i) (omega arith) (omega arith) ∙ sym (get_or-replicate {A = ℕ} m i 0 0 (omega arith))

pub opening-arities : (ar : List ℕ) → length ar ≡ predicate_count → ((i : ℕ) → i < predicate_count → get_or ar i 0 ≡ 0)
    → set ar equality equality_arity ≡ opening.model.arities
unfolding opening
opening-arities ar e z =
    first-then-zeros (set ar equality equality_arity) equality_arity (predicate_count - 1) (length-set ar equality equality_arity ∙ e)
    (get_or-set_same ar equality equality_arity 0 (omega arith))
    (λ i h l. get_or-set_other ar equality i equality_arity 0 (omega arith) ∙ z i (omega arith))

-- ===== The session =====

session-ext : (σ τ : Session) → σ.part ≡ τ.part → σ.names ≡ τ.names → σ.singles ≡ τ.singles → σ.model ≡ τ.model → σ.rows ≡ τ.rows
    → σ.live ≡ τ.live → σ.held ≡ τ.held → σ ≡ τ
session-ext σ τ a b c d e f g = λ i. record { part = a i; names = b i; singles = c i; model = d i; rows = e i; live = f i; held = g i }

-- no objects and no facts, no constant placed
live-opening : {s t : List ℕ} → state_words ≤ length s → Cleared s t facts_base → live_of t opening_numbers.live ≡ opening.live
unfolding cleared opening
live-opening r c = cleared-live 0 r c

module _ {ar s t : List ℕ} (e : ar ≡ opening.model.arities) (r : state_words ≤ length s) (m : Emptied s t) where
  session-opening : (names listings table value : List ℕ) → session_of opening_numbers (memory_of names ar listings table t value) ≡ opening
  unfolding session_of names_of keys_at many diagram_of tree_at opening
  session-opening names listings table value =
      session-ext _ _ refl refl refl
      (begun-model ar listings table opening_numbers.head refl refl
      ∙ ap (λ x. record { arities = x; total = default_total; numerator = default_numerator; denominator = default_denominator; reward = leaf 0; actions = [] }) e)
      refl (live-opening r m.cleared) refl

  stored-opening : {br names listings table value : List ℕ} → Rooms (memory_of names br listings table s value)
      → Stored opening_numbers (memory_of names ar listings table t value)
  stored-opening w = record {
    vocabulary = record {
      names = record { room = w.names; constants = omega arith; predicates = omega arith; actions = omega arith; parameters = omega arith; variants = omega arith; earlier = omega arith };
      arities = rw e opening-good.tables.arities;
    };
    building = begun w.table refl refl refl refl;
    listing-room = w.listings;
    whole = refl;
    reward = refl;
    live = record { room = let z = m.cleared.size in omega arith; objects = omega arith; facts = omega arith };
    value_room = w.value;
    value-rows = omega arith;
    holding = λ f. let z : ◌≡◌ {A = ℕ} 0 1 = cc in absurd (omega arith);
  }

  opening-all : (br names listings table value : List ℕ) → Rooms (memory_of names br listings table s value)
      → Opening opening_numbers (memory_of names ar listings table t value)
  opening-all br names listings table value w =
      let q = session-opening names listings table value in
      record { kept = record { stored = stored-opening w; good = subst GoodSession (sym q) opening-good; indexed = index-none refl m.clean }; session = q }

pub opened : {br ar s t : List ℕ} {n : Numbers} → state_words ≤ length s → ar ≡ opening.model.arities → Emptied s t → n ≡ opening_numbers → Opened br s n ar t
opened {br} r e m q = rw q (record { numbers = refl; says = opening-all e r m br })
