-- The words of a line from a place on: the first, and those behind it.
use Rattle.std.specs.Prelude.{ℕ, suc, ◌≡◌, refl, Bool, true, false, List, [], ◌∷◌, length, drop}
use Rattle.std.proofs.Common.{sym, ap, ◌∙◌, arith}
use Rattle.events.specs.declared.Event.{Event}
use Rattle.events.specs.Inner.{next_at}
use Rattle.events.specs.Front.{is_end, events_of}
use Rattle.events.specs.FrontLaws.{next-end, next_more}

-- the event at a place, where the events from there on are known
pub record Splits (s : List ℕ) (i : ℕ) (e : Event) (es : List Event) : Type 0 where
  pub event : (next_at s i).event ≡ e
  pub rest : events_of (drop (next_at s i).place s) ≡ es

pub next-splits : (s : List ℕ) (i : ℕ) (e : Event) (es : List Event) → events_of (drop i s) ≡ e ∷ es → Splits s i e es
next-splits s i e es p = go (is_end (next_at s i).event) refl
  where
    go : (b : Bool) → is_end (next_at s i).event ≡ b → Splits s i e es
    go true q =
        let z : ◌≡◌ {A = List Event} [] (e ∷ es) = sym (next-end s i q) ∙ p in
        absurd (let y : ◌≡◌ {A = ℕ} 0 (suc (length es)) = ap length z in omega arith)
    go false q =
        let z : (next_at s i).event ∷ events_of (drop (next_at s i).place s) ≡ e ∷ es = sym (next_more s i q) ∙ p in
        record { event = cc; rest = cc }
