-- What the code of a (did ..) line, behind its names and counts, requires and answers (document 02, L10).
use Rattle.std.specs.Prelude.{◌≡◌, true, List, ℕ, ◌*◌, ◌≤◌, ◌<◌, length, take}
use Rattle.refusal.specs.Outcome.{Outcome, ok, refused}
use Rattle.diagram.specs.Sizes.{highest_value}
use Rattle.state.specs.Lent.{fact_words, is_state, all_below, most_facts}
use Rattle.fact_index.specs.Inner.{indexed_count, Indexed}
use Rattle.model.specs.declared.Head.{Head}
use Rattle.model.specs.Inner.{Laid}
use Rattle.model.specs.Layout.{variants_of, model_of}
use Rattle.replay.specs.Replay.{Did, Replay, did}
use Rattle.refusal.specs.declared.Refusal.{Refusal}
use Rattle.std.specs.Prelude.{Err, Ok, Result}

-- the state in hand as it is lent, with count and total
abbrev pub lent_replay : ℕ → List ℕ → List ℕ → ℕ → ℕ → Replay
lent_replay n constants facts count total = record { size = n; constants = constants; facts = facts; count = count; total = total }

abbrev pub lent_did : ℕ → ℕ → List ℕ → Did
lent_did a v os = record { action = a; variant = v; objects = os }

-- what the line gives, of a model in lent words
abbrev pub lent_step : List ℕ → List ℕ → List ℕ → Head → ℕ → ℕ → ℕ → List ℕ → List ℕ → ℕ → ℕ → List ℕ → Outcome Replay
lent_step ar listings table h a v n constants facts count total os =
    did (model_of ar listings table h) (lent_replay n constants facts count total) (lent_did a v os)

-- a model laid out in words, one of its variants, a state with the index of its facts, count and total, objects of it, and room for the facts of the next state
pub record StepTask (ar listings table : List ℕ) (h : Head) (a v n : ℕ) (constants facts index : List ℕ) (count total : ℕ) (os out : List ℕ) : Type 0 where
  pub laid : Laid ar listings table h
  pub action : a < h.actions
  pub variant : v < variants_of table a
  pub lent : is_state ar n constants facts ≡ true
  pub indexed : Indexed ar facts index (indexed_count facts index)
  pub count-few : count ≤ highest_value
  pub total-few : total ≤ highest_value
  pub objects : all_below n os ≡ true
  pub room : most_facts * fact_words ≤ length out

-- the line is accepted: the first f rows written are the facts of the next state, c and t its count and total
pub record Moved (o : Outcome Replay) (n : ℕ) (constants : List ℕ) (f c t : ℕ) (out : List ℕ) : Type 0 where
  pub is : o ≡ ok (lent_replay n constants (take (f * fact_words) out) c t)
  pub few : f ≤ most_facts
  pub room : f * fact_words ≤ length out

-- the answer of what o is; after a refusal the words written are free
abbrev pub Steps : Outcome Replay → ℕ → List ℕ → Result (ℕ × ℕ × ℕ) Refusal → List ℕ → Type 0
Steps o n constants (Ok (f, c, t)) out = Moved o n constants f c t out
Steps o n constants (Err e) out = o ≡ refused e
