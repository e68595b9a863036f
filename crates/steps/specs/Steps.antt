-- What a row of calls answers, and the result that a buffer then holds (document 01, section 'Backup': "the first refusal met is the answer").
use Rattle.std.specs.Prelude.{◌≡◌, true, List, [], ◌∷◌, ℕ, ◌*◌, ◌≤◌, length, take}
use Rattle.refusal.specs.Outcome.{Outcome, ok, refused, Accepted}
use Rattle.label.specs.Limits.{leaf_mark}
use Rattle.diagram.specs.Sizes.{highest_value, result_words, space_words}
use Rattle.diagram.specs.Diagram.{Diagram}
use Rattle.diagram.specs.Rows.{rows}
use Rattle.diagram.specs.Words.{is_listing}
use Rattle.diagram.specs.Listing.{diagram_of, Good}
use Rattle.apply.specs.declared.Combined.{Combined}
use Rattle.apply.specs.declared.Combined.TheVariants.{Done, Refused as NotCombined}
use Rattle.regression.specs.RegressCall.{written_as}
use Rattle.refusal.specs.declared.Refusal.{Refusal}
use Rattle.std.specs.Prelude.{Err, Ok, Result}

-- the rows of the result, or the refusal
abbrev pub step_as : Outcome Diagram → Result ℕ Refusal
step_as (ok d) = Ok (length (rows d))
step_as (refused r) = Err r

-- the answer of a combination as that of a step
abbrev pub told_as : Combined → Result ℕ Refusal
told_as (Done n pairs) = Ok n
told_as (NotCombined r) = Err r

-- the first n rows of the buffer are the listing of what o gives
pub record ResultIn (ar : List ℕ) (o : Outcome Diagram) (n : ℕ) (out : List ℕ) : Type 0 where
  pub is : o ≡ ok (diagram_of (take (n * 3) out))
  pub listing : is_listing ar (take (n * 3) out) ≡ true
  pub room : n * 3 ≤ length out

-- the answer r of what o is, and its result in the buffer; after a refusal the buffer is free
pub record Given (ar : List ℕ) (o : Outcome Diagram) (r : Result ℕ Refusal) (out : List ℕ) : Type 0 where
  pub answer : r ≡ step_as o
  pub result : (n : ℕ) → r ≡ Ok n → ResultIn ar o n out

-- the same where the words behind a result stay, and a refusal changes none
pub record Wrote (ar : List ℕ) (o : Outcome Diagram) (r : Result ℕ Refusal) (out out' : List ℕ) : Type 0 where
  pub answer : r ≡ step_as o
  pub words : out' ≡ written_as o out
  pub good : Accepted (Good ar) o

-- the first n rows of the buffer are a listing
pub record BufferListing (ar : List ℕ) (n : ℕ) (out : List ℕ) : Type 0 where
  pub listing : is_listing ar (take (n * 3) out) ≡ true
  pub room : n * 3 ≤ length out

-- leaf 0 begins the buffer: one row
pub record Begun (n : ℕ) (out : List ℕ) : Type 0 where
  pub one : n ≡ 1
  pub words : take 3 out ≡ leaf_mark ∷ 0 ∷ 0 ∷ []
  pub room : 3 ≤ length out

-- two listings, and room for a result and for the rows formed
pub record Operands (ar x y out work : List ℕ) : Type 0 where
  pub first : is_listing ar x ≡ true
  pub second : is_listing ar y ≡ true
  pub out-room : result_words ≤ length out
  pub work-room : space_words ≤ length work

-- a listing and the value of a leaf
pub record Scalable (ar x : List ℕ) (v : ℕ) (out work : List ℕ) : Type 0 where
  pub first : is_listing ar x ≡ true
  pub few : v ≤ highest_value
  pub out-room : result_words ≤ length out
  pub work-room : space_words ≤ length work

-- the first n rows of a buffer are a listing, and so is y
pub record Folding (ar buffer : List ℕ) (n : ℕ) (y work : List ℕ) : Type 0 where
  pub first : is_listing ar (take (n * 3) buffer) ≡ true
  pub second : is_listing ar y ≡ true
  pub inside : n * 3 ≤ length buffer
  pub buffer-room : result_words ≤ length buffer
  pub work-room : space_words ≤ length work
