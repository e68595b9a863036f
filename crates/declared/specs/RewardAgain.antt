-- The value diagram of a session taken as the reward of another (document 02, L2): 'A reward read from this text, under the same constants and predicates declared in
-- the same order, has the very listing it was printed from.'
use Rattle.std.specs.Prelude.{◌≡◌, false, List, [], ◌∷◌, ◌++◌, ℕ, ◌≤◌}
use Rattle.diagram.specs.Listing.{listing}
use Rattle.session.specs.declared.Part.TheVariants.{Model}
use Rattle.session.specs.Session.{Session}
use Rattle.session.specs.ModelLines.{most_model_rows, rows_with, with_reward}
use Rattle.session.specs.Replies.{silent, reply}
use Rattle.session.specs.Texts.{line_feed, lines_of}

-- τ is in its model part, has no reward yet, and the constants and predicates of σ in their order
pub record SameNames (σ τ : Session) : Type 0 where
  pub part : τ.part ≡ Model
  pub reward : τ.singles.reward ≡ false
  pub constants : τ.names.constants ≡ σ.names.constants
  pub predicates : τ.names.predicates ≡ σ.names.predicates
  pub arities : τ.model.arities ≡ σ.model.arities

-- and room for the rows of the value diagram of σ
pub record CanTake (σ τ : Session) : Type 0 where
  pub same : SameNames σ τ
  pub room : rows_with τ.rows σ.held.diagram ≤ most_model_rows

-- the reward line made of a form: `(reward `, the form, `)`
abbrev pub reward_with : List ℕ → List ℕ
reward_with form = 40 ∷ 114 ∷ 101 ∷ 119 ∷ 97 ∷ 114 ∷ 100 ∷ 32 ∷ (form ++ 41 ∷ [])

-- the bytes printed are a form and a line feed, one line; the session τ answers the reward line made of the form, line j, by nothing, and leaves the value diagram of
-- σ as its reward, with the very listing
pub record ReadBack (σ τ : Session) (j : ℕ) (printed : List ℕ) : Type 0 where
  pub form : List ℕ
  pub prints : printed ≡ form ++ line_feed ∷ []
  pub one_line : lines_of printed ≡ record { whole = form ∷ []; rest = [] }
  pub reads : reply τ j (reward_with form) ≡ silent (with_reward τ σ.held.diagram)
  pub same : listing (reply τ j (reward_with form)).session.model.reward ≡ listing σ.held.diagram
