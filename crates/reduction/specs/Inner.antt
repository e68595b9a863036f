-- What contracts of inner functions and proofs cite. Nothing here has to be believed.
use Rattle.std.specs.Prelude.{◌≡◌, ◌⊎◌, Bool, true, false, not, ◌&&◌, ◌||◌, ℕ, ◌≤◌, ◌<◌, length, ltb}
use Rattle.std.specs.Bool.{beq}
use mathlib.Core.List.{List, [], ◌∷◌, Memᴰ}
use Rattle.refusal.specs.Outcome.{ok}
use Rattle.diagram.specs.Sizes.{result_words, space_words}
use Rattle.diagram.specs.Diagram.{Diagram, same}
use Rattle.diagram.specs.Words.{is_listing}
use Rattle.diagram.specs.Listing.{diagram_of}
use Rattle.diagram.specs.Variables.{is_plain}
use Rattle.paths.specs.Paths.{Step, paths, most_paths}
use Rattle.paths.specs.Routes.{step_on, path_at}
use Rattle.reduction.specs.Combinations.{Ground, formed}
use Rattle.reduction.specs.Reduction.{reduced_diagram, is_general, runs, most_runs, most_formed, reduce_answer, has_parameter}

-- ===== Lists =====

-- each member once
abbrev pub Once : {A : Type 0} → List A → Type 0
Once [] = Unit {0}
Once (a ∷ l) = (Memᴰ a l → ⊥) × Once l

-- each member stands in R to those behind it
abbrev pub Sorted : {A : Type 0} (R : A → A → Type 0) → List A → Type 0
Sorted R [] = Unit {0}
Sorted {A} R (a ∷ l) = ((b : A) → Memᴰ b l → R a b) × Sorted R l

-- ===== Orders =====

-- where two paths part, the one takes the true edge
pub data Sooner : List Step → List Step → Type 0 where
  parts : {l : ℕ} {t f : Diagram} {ss rs : List Step} → Sooner (step_on true l t f ∷ ss) (step_on false l t f ∷ rs)
  along : {s : Step} {ss rs : List Step} → Sooner ss rs → Sooner (s ∷ ss) (s ∷ rs)

-- path k has no place behind path j: a higher leaf, or the same and no higher number
abbrev pub AtLeast : Diagram → ℕ → ℕ → Type 0
AtLeast d k j = ((path_at d j).end < (path_at d k).end) ⊎ (((path_at d j).end ≡ (path_at d k).end) × (k ≤ j))

-- ===== Combinations =====

-- a fact that is both true and false
pub record Clash (gs : List Ground) : Type 0 where
  pub high : Ground
  pub low : Ground
  pub high-in : Memᴰ high gs
  pub low-in : Memᴰ low gs
  pub predicate : high.predicate ≡ low.predicate
  pub objects : high.objects ≡ low.objects
  pub high-sign : high.sign ≡ true
  pub low-sign : low.sign ≡ false

-- ===== Answers =====

-- none of 17, 26, 27 and 28 is met, and r is the reduced diagram
pub record ReductionAnswered (ar : List ℕ) (d r : Diagram) : Type 0 where
  pub paths-few : length (paths d) ≤ most_paths
  pub general : is_general ar d ≡ true
  pub plain : is_plain ar d ≡ true
  pub runs-few : runs ar d ≤ most_runs
  pub formed-few : formed ar d ≤ most_formed
  pub is : reduced_diagram ar d ≡ r

-- the call on lent words has an answer: a listing, enough words, no parameter, and none of 17, 26, 27 and 28
pub record Called (ar ws : List ℕ) (n m : ℕ) (r : Diagram) : Type 0 where
  pub listed : is_listing ar ws ≡ true
  pub room : (ltb n result_words || ltb m space_words) ≡ false
  pub quiet : has_parameter ar (diagram_of ws) ≡ false
  pub answer : reduce_answer ar (diagram_of ws) ≡ ok r

-- ===== Edges =====

-- every edge but that of the row r on the side b
unfoldable pub all_but : Diagram → Bool → Diagram → Bool → Bool
all_but r b x c = not (same r x && beq b c)
