-- Laws of kinds by their numbers: what an arm of a decision over the kinds is told.
use mathlib.Core.Path.{◌≡◌, refl, sym, ap, ◌∙◌}
use mathlib.Core.Logic.{inl, inr}
use mathlib.Core.Bool.{Bool, true, not, ◌&&◌, true≢false}
use mathlib.Core.List.{List, [], ◌∷◌}
use Prim.Native.Nat.{ℕ}
use lib.ListN.{get_or}
use types.Run.{OneOf}
use denote.Enum.Declared.{tag_of}
use Rattle.basics.specs.Tests.{and_left, and_right}
use Rattle.text.specs.contracts.Kind.{the_type}
use Rattle.text.specs.declared.Kind.{Kind}
use Rattle.text.specs.declared.Kind.TheVariants as K
use Rattle.text.specs.Inner.{kinds}
use Rattle.lines.specs.Kinds.{is_of_model, is_of_run}

-- a kind's number is its place in the list of kinds, Bad behind them
abbrev tag : Kind → ℕ
tag k = tag_of the_type k

abbrev kind_at : ℕ → Kind
kind_at i = get_or kinds i K.Bad

kind-at : (k : Kind) → kind_at (tag k) ≡ k
kind-at K.Constant = refl
kind-at K.Predicate = refl
kind-at K.Total = refl
kind-at K.Discount = refl
kind-at K.Reward = refl
kind-at K.Action = refl
kind-at K.Variant = refl
kind-at K.Becomes = refl
kind-at K.Start = refl
kind-at K.Objects = refl
kind-at K.Is = refl
kind-at K.True = refl
kind-at K.Value = refl
kind-at K.Backup = refl
kind-at K.Cut = refl
kind-at K.Show = refl
kind-at K.Reduce = refl
kind-at K.Text = refl
kind-at K.Best = refl
kind-at K.Count = refl
kind-at K.Did = refl
kind-at K.Bad = refl

-- the test holds of the kinds of these numbers
abbrev each_of : (Kind → Bool) → List ℕ → Bool
each_of f [] = true
each_of f (i ∷ is) = f (kind_at i) && each_of f is

at_one : (f : Kind → Bool) {i x : ℕ} → x ≡ i → f (kind_at i) ≡ true → f (kind_at x) ≡ true
at_one f e h = ap (λ (i : ℕ). f (kind_at i)) e ∙ h

at_some : (f : Kind → Bool) (is : List ℕ) → each_of f is ≡ true → (x : ℕ) → OneOf is x → f (kind_at x) ≡ true
at_some f [] h x y = absurd y
at_some f (i ∷ []) h x y = at_one f y (and_left (f (kind_at i)) true h)
at_some f (i ∷ j ∷ is) h x (inl e) = at_one f e (and_left (f (kind_at i)) (each_of f (j ∷ is)) h)
at_some f (i ∷ j ∷ is) h x (inr y) = at_some f (j ∷ is) (and_right (f (kind_at i)) (each_of f (j ∷ is)) h) x y

-- so it holds of a kind that has one of them
told : (f : Kind → Bool) (is : List ℕ) → each_of f is ≡ true → (k : Kind) → OneOf is (tag k) → f k ≡ true
told f is h k y = sym (ap f (kind-at k)) ∙ at_some f is h (tag k) y

refuted : {b : Bool} → b ≡ true → not b ≡ true → ⊥
refuted e f = true≢false (sym f ∙ ap not e)

-- ===== The arms: lines of the model, all others; lines of the run, all others =====

abbrev model_numbers : List ℕ
model_numbers = 0 ∷ 1 ∷ 2 ∷ 3 ∷ 4 ∷ 5 ∷ 6 ∷ 7 ∷ []

abbrev not_model_numbers : List ℕ
not_model_numbers = 8 ∷ 9 ∷ 10 ∷ 11 ∷ 12 ∷ 13 ∷ 14 ∷ 15 ∷ 16 ∷ 17 ∷ 18 ∷ 19 ∷ 20 ∷ 21 ∷ []

-- those of the run that change the value, and those that ask for something
abbrev change_numbers : List ℕ
change_numbers = 8 ∷ 13 ∷ 14 ∷ 16 ∷ []

abbrev ask_numbers : List ℕ
ask_numbers = 15 ∷ 17 ∷ 18 ∷ 19 ∷ 20 ∷ []

abbrev not_run_numbers : List ℕ
not_run_numbers = 0 ∷ 1 ∷ 2 ∷ 3 ∷ 4 ∷ 5 ∷ 6 ∷ 7 ∷ 9 ∷ 10 ∷ 11 ∷ 12 ∷ 21 ∷ []

module _ (k : Kind) where
  pub told-model : OneOf model_numbers (tag k) → is_of_model k ≡ true
  told-model y = told is_of_model model_numbers refl k y

  pub none-of-model : is_of_model k ≡ true → OneOf not_model_numbers (tag k) → ⊥
  none-of-model e y = refuted e (told (λ (l : Kind). not (is_of_model l)) not_model_numbers refl k y)

  pub told-change : OneOf change_numbers (tag k) → is_of_run k ≡ true
  told-change y = told is_of_run change_numbers refl k y

  pub told-ask : OneOf ask_numbers (tag k) → is_of_run k ≡ true
  told-ask y = told is_of_run ask_numbers refl k y

  pub none-of-run : is_of_run k ≡ true → OneOf not_run_numbers (tag k) → ⊥
  none-of-run e y = refuted e (told (λ (l : Kind). not (is_of_run l)) not_run_numbers refl k y)
