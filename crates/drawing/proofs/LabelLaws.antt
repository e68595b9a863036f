-- The labels that the operations of a good diagram ask are labels under the arity list.
use Prim.Native.Nat.{ℕ, ◌+◌, ◌*◌, ◌<◌}
use mathlib.Core.Path.{◌≡◌, sym, subst}
use mathlib.Core.Bool.{true}
use mathlib.Core.List.{List, [], ◌∷◌, ◌++◌}
use lib.ListN.{get_or}
use Rattle.label.specs.Labels.{is_label}
use Rattle.label.specs.declared.Test.{Test}
use Rattle.label.specs.declared.Test.TheVariants.{Always, Is}
use Rattle.forms.specs.Tree.{All}
use Rattle.names.specs.Many.{many}
use Rattle.names.specs.ManyLaws.{length-many, get_d-many}
use Rattle.reading.specs.AllLaws.{all-at, all_append}
use Rattle.reading.specs.Operations.{Op}
use Rattle.reading.specs.Operations.Op.{leaf_op, ask, step}
use Rattle.reading.specs.Inner.{GoodTest, GoodReading}
use Rattle.reading.specs.Tree.{Reading, ops_of}
use Rattle.reading.specs.Tree.Reading.{number, branch}
use Rattle.reader.specs.OperationWords.{op_of, op_at, ops_in}
use Rattle.build.specs.Written.{EachAsked, EachValue}

-- a label that is asked is one
abbrev AsksLabel : List ℕ → Op → Type 0
AsksLabel ar (leaf_op v) = Unit {0}
AsksLabel ar (ask Always) = Unit {0}
AsksLabel ar (ask (Is l)) = is_label ar l.packed ≡ true
AsksLabel ar step = Unit {0}

module _ (ar : List ℕ) (P : ℕ → Type 0) where
  test-label : (t : Test) → GoodTest ar P t → AsksLabel ar (ask t)
  test-label Always g = tt
  test-label (Is l) g = g.0

  operations-label : (r : Reading) → GoodReading ar P r → All (AsksLabel ar) (ops_of r)
  operations-label (number v) g = (tt, tt)
  operations-label (branch t h f) g = (
    test-label t g.0,
    all_append (AsksLabel ar) (ops_of h) (ops_of f ++ (step ∷ [])) (operations-label h g.1)
        (all_append (AsksLabel ar) (ops_of f) (step ∷ []) (operations-label f g.2) (tt, tt)),
  )

  -- in lent words
  pub asked-label : (s : List ℕ) (n : ℕ) (r : Reading) → GoodReading ar P r → ops_in s n ≡ ops_of r → (k : ℕ) → k < n → get_or s (k * 2) 0 ≡ 1
      → is_label ar (get_or s (k * 2 + 1) 0) ≡ true
  unfolding ops_in op_at
  asked-label s n r g e k h z =
      let a : All (AsksLabel ar) (many (op_at s) n) = subst (All (AsksLabel ar)) (sym e) (operations-label r g) in
      let y : AsksLabel ar (op_of (get_or s (k * 2) 0) (get_or s (k * 2 + 1) 0)) =
      subst (AsksLabel ar) (get_d-many (op_at s) step n k h) (all-at (AsksLabel ar) (many (op_at s) n) step k a (rw length-many h)) in
      subst (λ i. AsksLabel ar (op_of i (get_or s (k * 2 + 1) 0))) z y

  -- and in the diagram
  pub each-asked : (r : Reading) → GoodReading ar P r → EachAsked (λ l. is_label ar l ≡ true) r
  each-asked (number v) g = tt
  each-asked (branch Always h f) g = (each-asked h g.1, each-asked f g.2)
  each-asked (branch (Is l) h f) g = (g.0.0, each-asked h g.1, each-asked f g.2)

  pub each-value : (r : Reading) → GoodReading ar P r → EachValue r
  each-value (number v) g = g
  each-value (branch t h f) g = (each-value h g.1, each-value f g.2)
