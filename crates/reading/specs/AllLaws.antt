-- A property of each of a list: at a place, and of lists joined.
use Rattle.std.specs.Prelude.{ℕ, zero, suc, ◌<◌, List, [], ◌∷◌, ◌++◌, length, get_or}
use Rattle.std.proofs.Common.{arith}
use Rattle.forms.specs.Tree.{All}

pub all-at : {A : Type 0} (P : A → Type 0) (xs : List A) (d : A) (k : ℕ) → All P xs → k < length xs → P (get_or xs k d)
all-at P [] d k a h = absurd (omega arith)
all-at P (x ∷ xs) d zero a h = a.0
all-at P (x ∷ xs) d (suc k) a h = all-at P xs d k a.1 (omega arith)

pub all_append : {A : Type 0} (P : A → Type 0) (xs ys : List A) → All P xs → All P ys → All P (xs ++ ys)
all_append P [] ys a b = b
all_append P (x ∷ xs) ys a b = (a.0, all_append P xs ys a.1 b)
