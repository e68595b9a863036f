-- What contracts of inner functions and proofs cite. Nothing here has to be believed.
use Rattle.std.specs.Prelude.{◌≡◌, true, false, List, [], ℕ, ◌*◌, ◌≤◌, length}
use Rattle.words.specs.declared.Key.{Key}
use Rattle.names.specs.Keys.{keys_at}
use Rattle.names.specs.KeyLaws.{Same}
use Rattle.names.specs.Layout.{parameters_at, variants_at}
use Rattle.refusal.specs.Outcome.{Outcome, ok, refused}
use Rattle.session.specs.Session.{Names}
use Rattle.session.specs.Declaring.{Vocabulary, repeated}
use Rattle.session.specs.Good.{most_variant_names}
use Rattle.declare.specs.declared.Counts.{Counts}
use Rattle.declare.specs.Tables.{names_of, GoodNames, GoodVocabulary}
use Rattle.refusal.specs.declared.Refusal.{Refusal}
use Rattle.std.specs.Prelude.{Err, None, Ok, Option, Result, Some}

-- the names behind an accepted line; a refused one leaves the words as they were
abbrev pub Named : Outcome Names → List ℕ → Result Counts Refusal → List ℕ → Type 0
Named o s (Ok n) t = (o ≡ ok (names_of t n)) × GoodNames t n
Named o s (Err r) t = (o ≡ refused r) × (t ≡ s)

pub record Naming (o : Outcome Names) (s : List ℕ) (r : Result Counts Refusal) (t : List ℕ) : Type 0 where
  pub named : Named o s r t

unfoldable pub vocabulary_of : List ℕ → List ℕ → Counts → Vocabulary
unfolding names_of
vocabulary_of s ar n = record { names = names_of s n; arities = ar }

abbrev pub Worded : Outcome Vocabulary → List ℕ → List ℕ → Result Counts Refusal → List ℕ → List ℕ → Type 0
Worded o s ar (Ok n) t br = (o ≡ ok (vocabulary_of t br n)) × GoodVocabulary t br n
Worded o s ar (Err r) t br = (o ≡ refused r) × (t ≡ s) × (br ≡ ar)

pub record Wording (o : Outcome Vocabulary) (s ar : List ℕ) (r : Result Counts Refusal) (t br : List ℕ) : Type 0 where
  pub worded : Worded o s ar r t br

-- the parameters ps of an action, as keys in words
abbrev pub Distinguished : List Key → Option ℕ → List ℕ → Type 0
Distinguished ps (Some n) s = (repeated [] ps ≡ false) × (keys_at s 0 n ≡ ps) × (n * 2 ≤ length s)
Distinguished ps None s = repeated [] ps ≡ true

pub record ParametersOf (ps : List Key) (r : Option ℕ) (s : List ℕ) : Type 0 where
  pub told : Distinguished ps r s

-- the first n keys of ks stand as parameters in t, all else is as in s
pub record Copied (ks s t : List ℕ) (n : ℕ) : Type 0 where
  pub size : length t ≡ length s
  pub keys : keys_at t parameters_at n ≡ keys_at ks 0 n
  pub before : Same s t 0 parameters_at
  pub behind : Same s t variants_at (most_variant_names * 2)
