-- What the theorems on (count n) in texts say, in types (document 02, L11).
use Rattle.std.specs.Prelude.{◌≡◌, ◌⊎◌, Bool, true, false, ℕ, ◌^◌, ◌≤◌, ◌<◌, length, get_or, eqb}
use mathlib.Core.List.{List, map, Memᴰ}
use Rattle.refusal.specs.declared.Refusal.{Refusal}
use Rattle.refusal.specs.declared.Refusal.TheVariants as F
use Rattle.basics.specs.Members.{mem}
use Rattle.label.specs.Limits.{constant_count}
use Rattle.diagram.specs.Listing.{listing}
use Rattle.rename.specs.Ascending.{Ascending}
use Rattle.state.specs.State.{State}
use Rattle.state.specs.Max.{sum_of}
use Rattle.state.specs.Lent.{most_objects}
use Rattle.mdp.specs.Model.{scale}
use Rattle.mdp.specs.Bellman.{bellman}
use Rattle.spread.specs.Ground.{most_ground, Ground, ground, is_ground, ground_count, lent_choice, choice_state}
use Rattle.spread.specs.Spread.{Entry, count_of, value_in}
use Rattle.discounted.specs.Fraction.{Equal, ratio}
use Rattle.discounted.specs.Discounted.{discounted}
use Rattle.text.specs.declared.Kind.TheVariants as K
use Rattle.text.specs.Line.{line_bytes}
use Rattle.text.specs.Line.Line.{line}
use Rattle.answers.specs.declared.Answer.TheVariants as A
use Rattle.session.specs.declared.Part.TheVariants.{Model as ModelPart, Run}
use Rattle.session.specs.Session.{Session, with_live}
use Rattle.session.specs.Replies.{Reply, refusal, reply}
use Rattle.session.specs.Texts.{reply_bytes}
use Rattle.session_laws.specs.LineAnswers.{value_line, entry_lines}

-- the line (count n), w the digits of n
abbrev pub count_line : List ℕ → List ℕ
count_line w = line_bytes (line K.Count w)

-- ===== The states =====

-- the number of ground facts of all declared predicates, with n objects
abbrev pub ground_in : Session → ℕ → ℕ
ground_in σ n = ground_count σ.model.arities (length σ.names.predicates) n

-- 'A state is one choice of true or false for each ground fact': the state of choice c, 'with the constants placed as they are now'
abbrev pub choice_of : Session → ℕ → ℕ → State
choice_of σ n c = choice_state σ.model.arities (length σ.names.predicates) n σ.live.constants c

-- the session with that state in hand, begun at count 0
abbrev pub with_choice : Session → ℕ → ℕ → Session
with_choice σ n c =
    with_live σ (record {
      objects = n;
      placed = σ.live.placed;
      constants = σ.live.constants;
      facts = lent_choice σ.model.arities (length σ.names.predicates) n c;
      count = 0;
      total = 0;
    })

-- the value in it
abbrev pub value_at : Session → ℕ → ℕ → ℕ
value_at σ n c = value_in σ.model.arities (length σ.names.predicates) n σ.live.constants (listing σ.held.diagram) c

-- a ground fact of a declared predicate, objects below n
abbrev pub ground_here : Session → ℕ → Ground → Bool
ground_here σ n g = is_ground σ.model.arities (length σ.names.predicates) n g

-- 'all states of n objects, with the constants placed as they are now': the states are those choices, each once: every choice of true or false is that of one number below 2^g,
-- and nothing else is true in its state
pub record AllStates (σ : Session) (n : ℕ) : Type 0 where
  pub size : (c : ℕ) → (choice_of σ n c).size ≡ n
  pub constants : (c i : ℕ) → i < constant_count → (choice_of σ n c).constant i ≡ get_or σ.live.constants i 0
  pub made : (f : Ground → Bool) → (c : ℕ) × (c < 2 ^ ground_in σ n)
      × ((p : ℕ) (os : List ℕ) → ground_here σ n (ground p os) ≡ true → (choice_of σ n c).fact p os ≡ f (ground p os))
  pub once : (c d : ℕ) → c < 2 ^ ground_in σ n → d < 2 ^ ground_in σ n
      → ((p : ℕ) (os : List ℕ) → ground_here σ n (ground p os) ≡ true → (choice_of σ n c).fact p os ≡ (choice_of σ n d).fact p os) → c ≡ d
  pub other : (c p : ℕ) (os : List ℕ) → ground_here σ n (ground p os) ≡ false → (choice_of σ n c).fact p os ≡ false

-- ===== When it is accepted =====

-- every declared constant is placed
abbrev pub AllPlaced : Session → Type 0
AllPlaced σ = (c : ℕ) → c < length σ.names.constants → get_or σ.live.placed c 0 ≡ 1

-- and at an object below n
abbrev pub AllBelow : Session → ℕ → Type 0
AllBelow σ n = (c : ℕ) → c < length σ.names.constants → get_or σ.live.constants c 0 < n

-- (value) meets 15 in the state of choice c
abbrev pub MeetsLarge : Session → ℕ → ℕ → Type 0
MeetsLarge σ n c = (number : ℕ) → reply (with_choice σ n c) number value_line ≡ refusal (with_choice σ n c) number F.Valuations

-- it prints the value v
abbrev pub PrintsValue : Session → ℕ → ℕ → ℕ → Type 0
PrintsValue σ n c v =
    (number : ℕ) → reply (with_choice σ n c) number value_line
    ≡ record { session = with_choice σ n c; answer = A.Value v σ.held.steps (scale σ.model ^ σ.held.steps) }

-- (count n) is accepted: in the run, every constant placed, n from 1 to 64, none placed beyond n, at most 16 ground facts, and no state meets 15
pub record MayCount (σ : Session) (n : ℕ) : Type 0 where
  pub run : σ.part ≡ Run
  pub placed : AllPlaced σ
  pub some : 1 ≤ n
  pub most : n ≤ most_objects
  pub below : AllBelow σ n
  pub few : ground_in σ n ≤ most_ground
  pub valued : (c : ℕ) → c < 2 ^ ground_in σ n → PrintsValue σ n c (value_at σ n c)

-- r is what refuses it: 5 in the model part and for an unplaced constant; 4 for n, 4 for a constant placed beyond n; 24; 15 in a state
pub data RefusesCount (σ : Session) (n : ℕ) : Refusal → Type 0 where
  in-model : σ.part ≡ ModelPart → RefusesCount σ n F.Place
  unplaced : σ.part ≡ Run → (c : ℕ) → c < length σ.names.constants → (get_or σ.live.placed c 0 ≡ 1 → ⊥) → RefusesCount σ n F.Place
  outside : σ.part ≡ Run → AllPlaced σ → (n < 1) ⊎ (most_objects < n) → RefusesCount σ n F.Range
  beyond : σ.part ≡ Run → AllPlaced σ → 1 ≤ n → n ≤ most_objects → (c : ℕ) → c < length σ.names.constants → n ≤ get_or σ.live.constants c 0 → RefusesCount σ n F.Range
  many_ground : σ.part ≡ Run → AllPlaced σ → 1 ≤ n → n ≤ most_objects → AllBelow σ n → most_ground < ground_in σ n → RefusesCount σ n F.Ground
  large : σ.part ≡ Run → AllPlaced σ → 1 ≤ n → n ≤ most_objects → AllBelow σ n → ground_in σ n ≤ most_ground
      → (c : ℕ) → c < 2 ^ ground_in σ n → MeetsLarge σ n c → RefusesCount σ n F.Valuations

-- ===== What it prints =====

-- the entries es are the spread of the states of n objects: values ascend strictly; each value that occurs has an entry, and no other; each number is how many of the states
-- have the value; and they add up to 2^g
pub record IsSpread (σ : Session) (n : ℕ) (es : List Entry) : Type 0 where
  pub ascends : Ascending 0 (map (λ e. e.value) es)
  pub occurs : (v : ℕ) → mem eqb v (map (λ e. e.value) es) ≡ true → (c : ℕ) × (c < 2 ^ ground_in σ n) × (value_at σ n c ≡ v)
  pub each : (c : ℕ) → c < 2 ^ ground_in σ n → mem eqb (value_at σ n c) (map (λ e. e.value) es) ≡ true
  pub states : (e : Entry) → Memᴰ e es → e.states ≡ count_of (2 ^ ground_in σ n) (value_at σ n) e.value
  pub sum : sum_of es (λ e. e.states) ≡ 2 ^ ground_in σ n

-- v is the value of choice c as document 01 has it: Mk of its state, so that v / S^k is the k-step Bellman value
pub record IsValueOf (σ : Session) (n c v : ℕ) : Type 0 where
  pub steps : v ≡ bellman σ.model σ.held.steps (choice_of σ n c)
  pub discount : Equal (ratio v (scale σ.model ^ σ.held.steps)) (discounted σ.model σ.held.steps (choice_of σ n c))

-- the reply y to (count n) in the session σ are the lines of the entries es: it was accepted; '(count value states)' for each, in their order, and nothing else is printed; the
-- session stays; they are the spread over the states, which are the choices, each once; and each value is the one that (value) prints in its state, as document 01 has it
pub record Spreads (σ : Session) (n : ℕ) (es : List Entry) (y : Reply) : Type 0 where
  pub may : MayCount σ n
  pub session : y.session ≡ σ
  pub answer : y.answer ≡ A.Count n (length es)
  pub bytes : reply_bytes y ≡ entry_lines es
  pub spread : IsSpread σ n es
  pub choices : AllStates σ n
  pub values : (c : ℕ) → c < 2 ^ ground_in σ n → IsValueOf σ n c (value_at σ n c)
