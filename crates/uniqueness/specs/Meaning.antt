-- What a result means, choice by choice, and what it is to be the only diagram with a meaning (document 01, sections 'Terms, labels, listings',
-- 'Combination' and 'Regression'; minimum variables, document 02, L12).
use Rattle.std.specs.Prelude.{◌≡◌, Bool, true, List, ℕ, ◌+◌, length, eqb}
use Rattle.std.proofs.Math.Option.{Option, some, none}
use Rattle.label.specs.Limits.{first_variable, first_minimum}
use Rattle.label.specs.Labels.{predicate_of, unpacked, terms_of}
use Rattle.label.specs.Renamings.{moved, numbering, freeing}
use Rattle.diagram.specs.Diagram.{Diagram, eval, Ordered, Reduced}
use Rattle.diagram.specs.Words.{is_listing}
use Rattle.diagram.specs.Listing.{diagram_of, Good}
use Rattle.diagram.specs.Variables.{variables, minimums}
use Rattle.apply.specs.declared.Operation.{Operation}
use Rattle.apply.specs.declared.Names.{Names}
use Rattle.apply.specs.declared.Names.TheVariants.{Apart, Shared}
use Rattle.apply.specs.Combination.{operate}
use Rattle.regression.specs.Regression.{argument, Truths, truth_of}
use Rattle.regression.specs.Result.{asked}

-- 'A diagram's meaning is the leaf that each choice of true or false for all labels leads to, choices against equality included'
abbrev pub Choice : Type 0
Choice = ℕ → Bool

abbrev pub Meaning : Type 0
Meaning = Choice → ℕ

-- d is good, means M, and is the only ordered reduced diagram that does
pub record TheOnly (ar : List ℕ) (M : Meaning) (d : Diagram) : Type 0 where
  pub good : Good ar d
  pub means : (c : Choice) → eval c d ≡ M c
  pub only : (x : Diagram) → Ordered x → Reduced x → ((c : Choice) → eval c x ≡ M c) → x ≡ d

-- the words are a listing that means M, and the only one
pub record TheOnlyListing (ar : List ℕ) (M : Meaning) (words : List ℕ) : Type 0 where
  pub listed : is_listing ar words ≡ true
  pub means : (c : Choice) → eval c (diagram_of words) ≡ M c
  pub only : (other : List ℕ) → is_listing ar other ≡ true → ((c : Choice) → eval c (diagram_of other) ≡ M c) → other ≡ words

-- ===== Terms replaced =====

-- a choice for the new labels as one for the old: each label has the truth of what it asks once all of its terms are replaced together by ρ; 't = t is no
-- label but plain truth'
abbrev pub read_through : List ℕ → (ℕ → ℕ) → Choice → Choice
read_through ar ρ c l = asked c (moved ar ρ l)

-- 'Closing up renames the used variables to 32, 33, .. in their order', 64, 65, .. since L8, and 'keeps the two kinds separate', the minimum variables 128, 129, ..
-- (L12): those of d
abbrev pub closing_up : List ℕ → Diagram → ℕ → ℕ
closing_up ar d = numbering (variables ar d) (minimums ar d) first_variable first_minimum

-- M where the variables that d uses are closed up
abbrev pub closed_meaning : List ℕ → Diagram → Meaning → Meaning
closed_meaning ar d M c = M (read_through ar (closing_up ar d) c)

-- d is the only diagram that means M closed up: `before` is the only one that means M, and its variables are the used ones
pub record TheOnlyClosed (ar : List ℕ) (M : Meaning) (d : Diagram) : Type 0 where
  pub before : Diagram
  pub first : TheOnly ar M before
  pub one : TheOnly ar (closed_meaning ar before M) d

-- the same of words
pub record TheOnlyClosedListing (ar : List ℕ) (M : Meaning) (words : List ℕ) : Type 0 where
  pub before : Diagram
  pub first : TheOnly ar M before
  pub one : TheOnlyListing ar (closed_meaning ar before M) words

-- ===== Combination =====

-- 'Shared: names stay': the operation on the two leaves
abbrev pub shared_meaning : Operation → Diagram → Diagram → Meaning
shared_meaning op a b c = operate op (eval c a) (eval c b)

-- 'Apart: the first operand is closed up, the second's variables follow after', and its minimum variables are moved 'aside too' (L12)
abbrev pub following : List ℕ → Diagram → Diagram → ℕ → ℕ
following ar a b = numbering (variables ar b) (minimums ar b) (first_variable + length (variables ar a)) (first_minimum + length (minimums ar a))

abbrev pub apart_meaning : Operation → List ℕ → Diagram → Diagram → Meaning
apart_meaning op ar a b c = operate op (eval (read_through ar (closing_up ar a) c) a) (eval (read_through ar (following ar a b) c) b)

-- the words are the combination of a and b, done with these names: 'results are closed up only when apart'
abbrev pub OnlyCombined : Operation → Names → List ℕ → Diagram → Diagram → List ℕ → Type 0
OnlyCombined op Shared ar a b words = TheOnlyListing ar (shared_meaning op a b) words
OnlyCombined op Apart ar a b words = TheOnlyClosedListing ar (apart_meaning op ar a b) words

-- ===== Regression =====

-- the truth of the label l, a p(t1 ..), in the next state, c being the truths in the old one: by p's truth diagram, if it has one, 'exactly if [it] gives 1';
-- 'to use it at p(t1..), all arguments are replaced together'
unfoldable pub used_at : List ℕ → Option Diagram → Choice → Choice
unfolding eval
used_at ar none c l = c l
used_at ar (some d) c l = eqb (eval (read_through ar (argument (terms_of ar (unpacked l))) c) d) 1

-- the choice in the next state: each label by the truth diagram of its predicate; 'a predicate without one, and equality, stay'
unfoldable pub next_choice : List ℕ → Truths → Choice → Choice
unfolding used_at truth_of
next_choice ar truths c l = used_at ar (truth_of truths (predicate_of l)) c l

-- what the regression of d means: the leaf that d leads to in the next state
unfoldable pub regress_meaning : List ℕ → Truths → Diagram → Meaning
unfolding next_choice
regress_meaning ar truths d c = eval (next_choice ar truths c) d

-- ===== Freeing =====

-- 'Freeing turns parameter 16 + i into variable 32 + i and moves the other variables up by the action's parameter count'; 64 + i since L8. It 'leaves [the]
-- numbers' of minimum variables (L12)
unfoldable pub free_meaning : List ℕ → ℕ → Diagram → Meaning
unfolding eval
free_meaning ar count d c = eval (read_through ar (freeing count) c) d
