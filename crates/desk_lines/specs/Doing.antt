-- What the parts of the code of (did action variant object ..) require and answer. Nobody must believe these: Lines has what the function of the line promises.
use Rattle.std.specs.Prelude.{◌≡◌, true, List, ℕ, ◌+◌, ◌*◌, ◌<◌, ◌≤◌, length, get_or, take}
use Rattle.refusal.specs.Outcome.{Outcome, refused}
use Rattle.label.specs.Limits.{constant_count}
use Rattle.diagram.specs.Sizes.{highest_value}
use Rattle.state.specs.Lent.{fact_words, all_below, is_state}
use Rattle.words.specs.declared.Key.{Key}
use Rattle.names.specs.Keys.{keys_at}
use Rattle.names.specs.Layout.{variants_at, name_words}
use Rattle.mdp.specs.Model.{Model}
use Rattle.replay.specs.Replay.{did}
use Rattle.answers.specs.declared.Answer.TheVariants as A
use Rattle.session.specs.Session.{Live as SessionLive}
use Rattle.session.specs.Replaying.{replay_in, did_to, did_line}
use Rattle.declare.specs.declared.Counts.{Counts}
use Rattle.declare.specs.Tables.{names_of}
use Rattle.facts.specs.declared.Live.{Live}
use Rattle.facts.specs.declared.Tuple.{Tuple}
use Rattle.facts.specs.Inner.{FactIndex, TupleOf}
use Rattle.facts.specs.Words.{facts_base, part, live_of, GoodLive}
use Rattle.model.specs.declared.Head.{Head}
use Rattle.model.specs.Inner.{Laid}
use Rattle.model.specs.Layout.{action_words, variants_of, model_of}
use Rattle.model_entry.specs.Inner.{FewVariants}
use Rattle.model_entry.specs.Building.{variants_before}
use Rattle.replay_step.specs.Stepped.{lent_did, Steps}
use Rattle.memory.specs.declared.Numbers.{Numbers}
use Rattle.memory.specs.declared.Said.{Said}
use Rattle.memory.specs.Inner.{with_state}
use Rattle.desk_lines.specs.Lines.{Agreed}
use Rattle.refusal.specs.declared.Refusal.{Refusal}
use Rattle.std.specs.Prelude.{Err, Ok, Result}

-- ===== Its names =====

-- the keys of the variants of the action a
abbrev pub variant_keys : List ℕ → List ℕ → ℕ → List Key
variant_keys names table a = keys_at names (variants_at + variants_before table a * 2) (variants_of table a)

-- room for all names, and few variants of each action
pub record Findable (names table : List ℕ) (actions : ℕ) : Type 0 where
  pub room : name_words ≤ length names
  pub few : FewVariants table actions

-- the action a and its variant v are there, with as many objects as it has parameters, all in the state
abbrev pub Fits : List ℕ → ℕ → Tuple → Result (ℕ × ℕ) Refusal → Type 0
Fits table actions o (Ok (a, v)) = (a < actions) × (v < variants_of table a) × (o.count ≡ get_or table (a * action_words) 0) × (o.within ≡ true)
Fits table actions o (Err e) = Unit {0}

abbrev pub FoundAs : Outcome SessionLive → Model → SessionLive → List ℕ → Result (ℕ × ℕ) Refusal → Type 0
FoundAs o m l os (Ok (a, v)) = o ≡ did_to m l (record { action = a; variant = v; objects = os })
FoundAs o m l os (Err e) = o ≡ refused e

-- a line with the keys k and v, whose objects os are kept as o and a row: 2, 3, 2 and 4, or what is done
pub record Finding (names table : List ℕ) (n : Counts) (k v : Key) (o : Tuple) (r : Result (ℕ × ℕ) Refusal) : Type 0 where
  pub fits : Fits table n.actions o r
  pub found : (ar listings : List ℕ) (h : Head) (l : SessionLive) (os row : List ℕ) → Agreed table n h → TupleOf l.objects os o row
      → FoundAs (did_line (model_of ar listings table h) (names_of names n) l k v os) (model_of ar listings table h) l os r

-- ===== What it does =====

-- a model laid out in words, a state in hand with count and total, and a line whose names are found
pub record Movable (ar listings table : List ℕ) (h : Head) (a v : ℕ) (os state : List ℕ) (l : Live) : Type 0 where
  pub laid : Laid ar listings table h
  pub live : GoodLive state l
  pub indexed : FactIndex ar state l
  pub lent : is_state ar l.objects (take constant_count state) (part state facts_base (l.facts * fact_words)) ≡ true
  pub count : l.count ≤ highest_value
  pub total : l.total ≤ highest_value
  pub action : a < h.actions
  pub variant : v < variants_of table a
  pub objects : all_below l.objects os ≡ true

-- what replay says of it, in the state in hand
pub record StepsIn (ar listings table : List ℕ) (h : Head) (a v : ℕ) (os state : List ℕ) (l : Live) (r : Result (ℕ × ℕ × ℕ) Refusal) (rows : List ℕ) : Type 0 where
  pub steps : Steps (did (model_of ar listings table h) (replay_in (live_of state l)) (lent_did a v os)) l.objects (take constant_count state) r rows

-- an accepted line: another state, and its count and total
abbrev pub moved : Numbers → Live → Said
moved n l = record { numbers = with_state n l; answer = A.Did l.count l.total }
