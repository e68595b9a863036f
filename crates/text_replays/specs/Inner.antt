-- What contracts of inner functions and proofs cite. Nothing here has to be believed.
use Rattle.std.specs.Prelude.{◌≡◌, false, List, [], ◌∷◌, ◌++◌, map, ℕ, ◌<◌, length, get_or}
use Rattle.std.proofs.Math.Option.{none}
use Rattle.state.specs.State.{State}
use Rattle.replay.specs.Replay.{Did, no_action}
use Rattle.replay.specs.Along.{rewards_along}
use Rattle.words.specs.Keys.{key_of}
use Rattle.text.specs.declared.Kind.TheVariants as K
use Rattle.answers.specs.Answers.{did_head, field, line_end}
use Rattle.session.specs.Session.{Session}
use Rattle.session.specs.Replaying.{variant_names}
use Rattle.session.specs.Replies.{Reply}
use Rattle.diagram.specs.Diagram.{Diagram}
use Rattle.mdp.specs.Model.{Action, Every}
use Rattle.text_replays.specs.Claims.{reached, replies_after, AcceptedAs, Undisturbed, ActionLines, no_lines, DeclarationsOf}
use Rattle.text_replays.specs.Drawings.{ActionDrawn, lines_of, drawn_for, variant_from}

-- ===== What a list of lines comes to =====

-- none of the lines is an accepted (objects n)
abbrev pub NoObjects : List (List ℕ) → List Reply → Type 0
NoObjects [] ys = Unit {0}
NoObjects (s ∷ ls) [] = ⊥
NoObjects (s ∷ ls) (y ∷ ys) = (AcceptedAs K.Objects s y → ⊥) × NoObjects ls ys

-- the lines are `before`, which leave count 0, and `log`, of which none is an accepted (objects n), (is c o) or (true p o ..)
pub record Begins (ls : List (List ℕ)) : Type 0 where
  pub before : List (List ℕ)
  pub log : List (List ℕ)
  pub lines : ls ≡ before ++ log
  pub begun : (reached before).live.count ≡ 0
  pub undisturbed : Undisturbed log (replies_after before log)

-- '(did count total)': what is printed where ds are the lines accepted since the state s, this one the last of them
abbrev pub did_prints : Session → State → List Did → List ℕ
did_prints σ s ds = did_head ++ field (length ds) ++ field (rewards_along σ.model s ds) ++ line_end

-- ===== When a (did ..) line is accepted =====

-- no fact of a predicate that is not declared is true in the state: 22 counts facts of declared predicates alone
abbrev pub NoneUndeclared : Session → State → Type 0
NoneUndeclared σ s = (p : ℕ) (os : List ℕ) → length σ.names.predicates < p → s.fact p os ≡ false

-- ===== The names declared =====

-- the session behind the lines has what xs says: its actions are the accepted (action ..) lines, each with as many parameters and the same variants
pub record DeclaredBy (ls : List (List ℕ)) (xs : List ActionLines) : Type 0 where
  pub actions : (reached ls).names.actions ≡ map (λ x. key_of x.action.0) xs
  pub parameters : (a : ℕ) → (get_or (reached ls).model.actions a no_action).count ≡ length (get_or xs a no_lines).action.1
  pub variants : (a : ℕ) → variant_names (reached ls).names (reached ls).model.actions a ≡ map key_of (get_or xs a no_lines).variants

-- none of the names has the bytes n
abbrev pub NoPlace : List ℕ → List (List ℕ) → Type 0
NoPlace n names = (i : ℕ) → i < length names → get_or names i [] ≡ n → ⊥

-- ===== The model that lines give =====

-- no two truth diagrams are for one predicate
abbrev pub OneEach : List (ℕ × Diagram) → Type 0
OneEach [] = Unit {0}
OneEach (t ∷ ts) = (drawn_for ts t.0 ≡ none) × OneEach ts

abbrev pub DrawnOnce : List ActionDrawn → Type 0
DrawnOnce xs = Every (λ x. Every (λ v. OneEach v.truths) x.variants) xs

abbrev pub action_from : ActionDrawn → Action
action_from x = record { count = length x.action.1; variants = map variant_from x.variants }

-- the session behind the lines has what the lines draw: action a and its variant v are the lines at these places, with the diagrams that they drew, under the names that they declare
pub record DrawnBy (ls : List (List ℕ)) (xs : List ActionDrawn) : Type 0 where
  pub names : DeclarationsOf ls (map lines_of xs)
  pub actions : (reached ls).model.actions ≡ map action_from xs
