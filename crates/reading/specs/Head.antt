-- The head of (becomes (p ?a ..) DIAGRAM): a declared predicate or 2, the count of its arguments or 3, 'arguments distinct' or 2 at the
-- repeated word (document 01, section 'Text').
use Rattle.std.specs.Prelude.{ℕ, zero, suc, ◌+◌, cond, List, [], ◌∷◌, ◌++◌, eqb, length}
use Rattle.refusal.specs.declared.Refusal.TheVariants.{Form, Name, Arity}
use Rattle.refusal.specs.Outcome.{Outcome, ok, refused}
use Rattle.words.specs.Keys.{key_of}
use Rattle.words.specs.declared.Key.{Key}
use Rattle.names.specs.Keys.{place_of, is_among}
use Rattle.events.specs.declared.Event.{Event}
use Rattle.events.specs.declared.Event.TheVariants as E
use Rattle.std.specs.Prelude.{Option}
use Rattle.std.specs.Prelude.{Some, None}

-- an atom's name with its count of terms, or another word
abbrev pub opening_of : Event → Option (Key × ℕ)
opening_of (E.Name k) = None
opening_of (E.Variable k) = None
opening_of (E.Parameter k) = None
opening_of (E.Minimum k) = None
opening_of (E.Number v) = None
opening_of E.Equal = None
opening_of (E.Holds k n) = Some (k, n)
opening_of E.Step = None
opening_of E.End = None

-- ?name, or another word
abbrev pub argument_of : Event → Option Key
argument_of (E.Name k) = None
argument_of (E.Variable k) = Some k
argument_of (E.Parameter k) = None
argument_of (E.Minimum k) = None
argument_of (E.Number v) = None
argument_of E.Equal = None
argument_of (E.Holds k n) = None
argument_of E.Step = None
argument_of E.End = None

-- the predicate's number, the declared predicates ks numbered from 1, or 2
unfoldable pub opened_number : List Key → Option (Key × ℕ) → Outcome ℕ
opened_number ks (Some (k, n)) = cond (is_among k ks) (ok (place_of k ks + 1)) (refused Name)
opened_number ks None = refused Form

unfoldable pub head_number : List Key → List Event → Outcome ℕ
head_number ks [] = refused Form
head_number ks (e ∷ es) = opened_number ks (opening_of e)

-- the arguments in their order, and the words behind them
pub record Head : Type 0 where
  pub variables : List Key
  pub rest : List Event

abbrev pub pick_argument : Option Key → (Key → Outcome Head) → Outcome Head
pick_argument (Some k) f = f k
pick_argument None f = refused Form

-- n arguments more, the keys vs before them: one that was there is 2
unfoldable pub arguments_from : ℕ → List Key → List Event → Outcome Head
arguments_from zero vs es = ok (record { variables = vs; rest = es })
arguments_from (suc n) vs [] = refused Form
arguments_from (suc n) vs (e ∷ es) =
    pick_argument (argument_of e) (λ k. cond (is_among k vs) (refused Name) (arguments_from n (vs ++ (k ∷ [])) es))

-- the head of a predicate of the arity n: another count is 3
abbrev pub opened_arguments : ℕ → Option (Key × ℕ) → List Event → Outcome Head
opened_arguments n (Some (k, m)) es = cond (eqb m n) (arguments_from n [] es) (refused Arity)
opened_arguments n None es = refused Form

unfoldable pub head_arguments : ℕ → List Event → Outcome Head
head_arguments n [] = refused Form
head_arguments n (e ∷ es) = opened_arguments n (opening_of e) es

-- the same on the line's tree: the keys of the arguments vs, behind the keys ks
abbrev pub argument_keys : List Key → List (List ℕ) → Outcome (List Key)
argument_keys ks [] = ok ks
argument_keys ks (v ∷ vs) = cond (is_among (key_of v) ks) (refused Name) (argument_keys (ks ++ (key_of v ∷ [])) vs)

abbrev pub head_keys : ℕ → List (List ℕ) → Outcome (List Key)
head_keys n vs = cond (eqb (length vs) n) (argument_keys [] vs) (refused Arity)
