-- What the theorems on (did action variant object ..) in texts say, in types (document 02, L10).
use Rattle.std.specs.Prelude.{◌≡◌, ◌⊎◌, Bool, true, false, cond, List, [], ◌∷◌, ◌++◌, map, ℕ, suc, ◌+◌, ◌≤◌, ◌<◌, length, get_or, eqb}
use Rattle.refusal.specs.declared.Refusal.{Refusal}
use Rattle.refusal.specs.declared.Refusal.TheVariants as F
use Rattle.diagram.specs.Sizes.{highest_value}
use Rattle.diagram.specs.Listing.{listing}
use Rattle.state.specs.State.{State}
use Rattle.state.specs.Lent.{fact_count, most_facts}
use Rattle.elimination.specs.Answer.{is_too_large}
use Rattle.mdp.specs.Bellman.{weight_in, reward_in}
use Rattle.replay.specs.Replay.{Did, action_of, variant_of, fact_rows, state_next}
use Rattle.replay.specs.Along.{Alike, Comes}
use Rattle.words.specs.Bytes.{decimal}
use Rattle.words.specs.Keys.{key_of}
use Rattle.names.specs.Keys.{is_among}
use Rattle.text.specs.declared.Kind.{Kind}
use Rattle.text.specs.declared.Kind.TheVariants as K
use Rattle.text.specs.Line.{Words, line_bytes, GoodLine}
use Rattle.text.specs.Line.Line.{line}
use Rattle.text.specs.LineForm.{line_kind}
use Rattle.answers.specs.declared.Answer.TheVariants as A
use Rattle.answers.specs.Answers.{did_head, field, line_end}
use Rattle.session.specs.declared.Part.TheVariants.{Model as ModelPart, Run}
use Rattle.session.specs.Session.{Session, opening, with_live}
use Rattle.session.specs.Running.{state_in}
use Rattle.session.specs.Replaying.{variant_names, did_of, replay_in}
use Rattle.session.specs.Replies.{Reply, is_placed, refusal, reply}
use Rattle.session.specs.Texts.{reply_bytes, after_lines, beginning}
use Rattle.session_laws.specs.TextReplies.{replies}
use Rattle.session_laws.specs.TextRuns.{is_refused}
use Rattle.session_laws.specs.LineAnswers.{value_line}
use Rattle.text_moves.specs.Claims.{in_hand}

-- ===== Lines and sessions =====

-- the line (did action variant object ..), w its words, in bytes
abbrev pub did_bytes : Words K.Did → List ℕ
did_bytes w = line_bytes (line K.Did w)

-- the session behind the lines of a text; the replies to the lines `log` behind the lines `before`
abbrev pub reached : List (List ℕ) → Session
reached ls = (after_lines beginning ls).session

abbrev pub replies_after : List (List ℕ) → List (List ℕ) → List Reply
replies_after before log = replies (reached before) (length before) log

-- the line s, which is answered y, is an accepted line of the kind k
abbrev pub AcceptedAs : Kind → List ℕ → Reply → Type 0
AcceptedAs k s y = (line_kind s ≡ k) × (is_refused y.answer ≡ false)

-- what the words w name: the numbers of the action and of its variant among the names declared, and the objects
abbrev pub did_in : Session → Words K.Did → Did
did_in σ w = did_of σ.model σ.names (key_of w.0) (key_of w.1) (map decimal w.2)

-- ===== What a list of lines comes to =====

-- none of the lines, with their replies, is an accepted (objects n), (is c o) or (true p o ..)
abbrev pub Undisturbed : List (List ℕ) → List Reply → Type 0
Undisturbed [] ys = Unit {0}
Undisturbed (s ∷ ls) [] = ⊥
Undisturbed (s ∷ ls) (y ∷ ys) = (AcceptedAs K.Objects s y → ⊥) × (AcceptedAs K.Is s y → ⊥) × (AcceptedAs K.True s y → ⊥) × Undisturbed ls ys

-- ds are the accepted (did action variant object ..) lines among the lines, with their replies, in order, with the names that τ has
pub data Logs (τ : Session) : List (List ℕ) → List Reply → List Did → Type 0 where
  none : Logs τ [] [] []
  did : {s : List ℕ} {ls : List (List ℕ)} {y : Reply} {ys : List Reply} {ds : List Did} (w : Words K.Did) → GoodLine (line K.Did w)
      → s ≡ did_bytes w → is_refused y.answer ≡ false → Logs τ ls ys ds → Logs τ (s ∷ ls) (y ∷ ys) (did_in τ w ∷ ds)
  other : {s : List ℕ} {ls : List (List ℕ)} {y : Reply} {ys : List Reply} {ds : List Did} → (AcceptedAs K.Did s y → ⊥)
      → Logs τ ls ys ds → Logs τ (s ∷ ls) (y ∷ ys) ds

-- the state in hand behind `before`, under the model of the text `before ++ log`: the same model where the run had begun
abbrev pub state_before : List (List ℕ) → List (List ℕ) → State
state_before before log = state_in (reached (before ++ log)).model.arities (reached before).live

-- ds are the accepted (did ..) lines of the lines `log` behind the lines `before`
abbrev pub LogOf : List (List ℕ) → List (List ℕ) → List Did → Type 0
LogOf before log ds = Logs (reached (before ++ log)) log (replies_after before log) ds

-- 'After every list of such lines begun at count 0, with at least one accepted, count is how many were, the state is the one that their truth diagrams give in that order,
-- and total is the sum of rewards along it' (replay, Comes: and 0 with none accepted): behind the lines `before` and `log`, from the state in hand behind `before` on
abbrev pub Replays : List (List ℕ) → List (List ℕ) → List Did → Type 0
Replays before log ds = Comes (reached (before ++ log)).model (state_before before log) ds (replay_in (reached (before ++ log)).live)

-- ===== When it is accepted, and what it does =====

-- 'needs what (value) needs'
pub record Stands (σ : Session) : Type 0 where
  pub run : σ.part ≡ Run
  pub placed : is_placed σ ≡ true

-- the action is declared; how many parameters it has; the variant is one of the action's
abbrev pub has_action : Session → Words K.Did → Bool
has_action σ w = is_among (key_of w.0) σ.names.actions

abbrev pub action_parameters : Session → Words K.Did → ℕ
action_parameters σ w = (action_of σ.model (did_in σ w)).count

abbrev pub has_variant : Session → Words K.Did → Bool
has_variant σ w = is_among (key_of w.1) (variant_names σ.names σ.model.actions (did_in σ w).action)

-- names and counts pass
pub record NamesPass (σ : Session) (w : Words K.Did) : Type 0 where
  pub action : has_action σ w ≡ true
  pub count : length w.2 ≡ action_parameters σ w
  pub variant : has_variant σ w ≡ true
  pub objects : (i : ℕ) → i < length w.2 → decimal (get_or w.2 i []) < σ.live.objects

-- 'the variant's weight .. in the state'
abbrev pub weight_of : Session → Words K.Did → ℕ
weight_of σ w = weight_in σ.model.arities (in_hand σ) (did_in σ w).objects (variant_of σ.model (did_in σ w))

-- 'the next state', and how many facts it has (replay, facts-once: each is counted once)
abbrev pub next_of : Session → Words K.Did → State
next_of σ w = state_next σ.model (in_hand σ) (did_in σ w)

abbrev pub facts_of_next : Session → Words K.Did → ℕ
facts_of_next σ w = length (fact_rows σ.model.arities (next_of σ w))

-- 15 of the reward in a state
abbrev pub TooLargeIn : Session → State → Type 0
TooLargeIn σ s = is_too_large σ.model.arities s [] (listing σ.model.reward) ≡ true

-- of the reward before the move, for the first line; of the reward after it
abbrev pub RewardTooLarge : Session → Words K.Did → Type 0
RewardTooLarge σ w = ((σ.live.count ≡ 0) × TooLargeIn σ (in_hand σ)) ⊎ TooLargeIn σ (next_of σ w)

-- 'The first such line accepted adds the reward before and after its move, each later one the reward after'
abbrev pub rewards_met : Session → Words K.Did → ℕ
rewards_met σ w = cond (eqb σ.live.count 0) (reward_in σ.model (in_hand σ)) 0 + reward_in σ.model (next_of σ w)

-- r is what refuses (did action variant object ..) in the session σ, in this order, each where none before it is met: 5 in the model part, and where (value) is answered 5;
-- 2 and 3 at the action, 2 at the variant, 4 at an object; 21, 22, 15 and 23
pub data RefusesDid (σ : Session) (w : Words K.Did) : Refusal → Type 0 where
  in-model : σ.part ≡ ModelPart → RefusesDid σ w F.Place
  missing : σ.part ≡ Run → ((number : ℕ) → reply σ number value_line ≡ refusal σ number F.Place) → RefusesDid σ w F.Place
  no-action : Stands σ → has_action σ w ≡ false → RefusesDid σ w F.Name
  other-count : Stands σ → has_action σ w ≡ true → (length w.2 ≡ action_parameters σ w → ⊥) → RefusesDid σ w F.Arity
  no_variant : Stands σ → has_action σ w ≡ true → length w.2 ≡ action_parameters σ w → has_variant σ w ≡ false → RefusesDid σ w F.Name
  no-object : Stands σ → has_action σ w ≡ true → length w.2 ≡ action_parameters σ w → has_variant σ w ≡ true
      → (i : ℕ) → i < length w.2 → σ.live.objects ≤ decimal (get_or w.2 i []) → RefusesDid σ w F.Range
  weightless : Stands σ → NamesPass σ w → weight_of σ w ≡ 0 → RefusesDid σ w F.Weightless
  crowded : Stands σ → NamesPass σ w → 1 ≤ weight_of σ w → most_facts < facts_of_next σ w → RefusesDid σ w F.Crowded
  large : Stands σ → NamesPass σ w → 1 ≤ weight_of σ w → facts_of_next σ w ≤ most_facts → RewardTooLarge σ w → RefusesDid σ w F.Valuations
  tally : Stands σ → NamesPass σ w → 1 ≤ weight_of σ w → facts_of_next σ w ≤ most_facts → (RewardTooLarge σ w → ⊥)
      → (highest_value < suc σ.live.count) ⊎ (highest_value < σ.live.total + rewards_met σ w) → RefusesDid σ w F.Tally

-- it is accepted: none of these is met
pub record MayDid (σ : Session) (w : Words K.Did) : Type 0 where
  pub stands : Stands σ
  pub named : NamesPass σ w
  pub weight : 1 ≤ weight_of σ w
  pub facts : facts_of_next σ w ≤ most_facts
  pub valued : RewardTooLarge σ w → ⊥
  pub count : suc σ.live.count ≤ highest_value
  pub total : σ.live.total + rewards_met σ w ≤ highest_value

-- the reply y to it, accepted: only the facts, count and total of the session change; the state in hand is the one that the variant's truth diagrams give, and has as many
-- facts; one more line, and the rewards met; these two are printed
pub record MovesOn (σ : Session) (w : Words K.Did) (y : Reply) : Type 0 where
  pub rest : y.session ≡ with_live σ y.session.live
  pub placed : y.session.live.placed ≡ σ.live.placed
  pub state : Alike σ.model.arities (in_hand y.session) (next_of σ w)
  pub facts : fact_count y.session.live.facts ≡ facts_of_next σ w
  pub count : y.session.live.count ≡ suc σ.live.count
  pub total : y.session.live.total ≡ σ.live.total + rewards_met σ w
  pub answer : y.answer ≡ A.Did (suc σ.live.count) (σ.live.total + rewards_met σ w)
  pub bytes : reply_bytes y ≡ did_head ++ field (suc σ.live.count) ++ field (σ.live.total + rewards_met σ w) ++ line_end

-- ===== The names declared =====

-- an accepted (action n !p ..) line, its name and parameters, and the names of the accepted (variant n WEIGHT) lines behind it, before the next accepted (action ..) line
pub record ActionLines : Type 0 where
  pub action : Words K.Action
  pub variants : List (List ℕ)

-- the accepted (action ..) and (variant ..) lines among the lines, with their replies, in order: vs are the variants before the first action, xs the actions with theirs
pub data Declarations : List (List ℕ) → List Reply → List (List ℕ) → List ActionLines → Type 0 where
  none : Declarations [] [] [] []
  action : {s : List ℕ} {ls : List (List ℕ)} {y : Reply} {ys : List Reply} {vs : List (List ℕ)} {xs : List ActionLines} (w : Words K.Action) → GoodLine (line K.Action w)
      → s ≡ line_bytes (line K.Action w) → is_refused y.answer ≡ false → Declarations ls ys vs xs
      → Declarations (s ∷ ls) (y ∷ ys) [] (record { action = w; variants = vs } ∷ xs)
  variant : {s : List ℕ} {ls : List (List ℕ)} {y : Reply} {ys : List Reply} {vs : List (List ℕ)} {xs : List ActionLines} (w : Words K.Variant) → GoodLine (line K.Variant w)
      → s ≡ line_bytes (line K.Variant w) → is_refused y.answer ≡ false → Declarations ls ys vs xs → Declarations (s ∷ ls) (y ∷ ys) (w.0 ∷ vs) xs
  other : {s : List ℕ} {ls : List (List ℕ)} {y : Reply} {ys : List Reply} {vs : List (List ℕ)} {xs : List ActionLines} → (AcceptedAs K.Action s y → ⊥)
      → (AcceptedAs K.Variant s y → ⊥) → Declarations ls ys vs xs → Declarations (s ∷ ls) (y ∷ ys) vs xs

abbrev pub no_lines : ActionLines
no_lines = record { action = ([], []); variants = [] }

-- xs are the actions and variants that the lines of a text declare
abbrev pub DeclarationsOf : List (List ℕ) → List ActionLines → Type 0
DeclarationsOf ls xs = Declarations ls (replies opening 0 ls) [] xs

-- place i of the names is the first that has the bytes n
pub record PlaceOf (n : List ℕ) (names : List (List ℕ)) (i : ℕ) : Type 0 where
  pub place : i < length names
  pub name : get_or names i [] ≡ n
  pub first : (j : ℕ) → j < i → get_or names j [] ≡ n → ⊥

-- the names of the actions, and of the variants of the action a
abbrev pub action_names : List ActionLines → List (List ℕ)
action_names xs = map (λ x. x.action.0) xs

abbrev pub variant_names_at : List ActionLines → ℕ → List (List ℕ)
variant_names_at xs a = (get_or xs a no_lines).variants

-- the names of the words w are declared: the action's number is the place of its name among the accepted (action ..) lines, the variant's the place of its name among the
-- accepted (variant ..) lines of that action, and there is an object for each of the action's parameters
pub record NamesDid (ls : List (List ℕ)) (xs : List ActionLines) (w : Words K.Did) : Type 0 where
  pub action : PlaceOf w.0 (action_names xs) (did_in (reached ls) w).action
  pub variant : PlaceOf w.1 (variant_names_at xs (did_in (reached ls) w).action) (did_in (reached ls) w).variant
  pub objects : length w.2 ≡ length (get_or xs (did_in (reached ls) w).action no_lines).action.1
