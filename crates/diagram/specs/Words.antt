-- When words are a listing under an arity list (document 01, section 'Terms, labels, listings').
use Rattle.std.specs.Prelude.{Bool, true, false, not, ◌&&◌, ◌||◌, List, [], ◌∷◌, ◌++◌, ℕ, zero, suc, pred, ◌+◌, ◌*◌, ◌/◌, length, get_or, eqb, ltb, leb}
use Rattle.basics.specs.Members.{mem}
use Rattle.label.specs.Limits.{leaf_mark}
use Rattle.label.specs.Labels.{are_arities, is_label}
use Rattle.diagram.specs.Sizes.{most_rows, highest_value}

-- the words of row i: its label, or a leaf's mark; its true row (the field's high child), or its value; its false row (low child), or 0
unfoldable pub label_at : List ℕ → ℕ → ℕ
label_at ws i = get_or ws (i * 3) 0

unfoldable pub high_at : List ℕ → ℕ → ℕ
high_at ws i = get_or ws (i * 3 + 1) 0

unfoldable pub low_at : List ℕ → ℕ → ℕ
low_at ws i = get_or ws (i * 3 + 2) 0

abbrev pub row_count : List ℕ → ℕ
row_count ws = length ws / 3

-- a leaf is the leaf mark, its value (0 to 10^18), 0
unfoldable pub is_leaf_row : List ℕ → ℕ → Bool
is_leaf_row ws i = eqb (label_at ws i) leaf_mark && (leb (high_at ws i) highest_value && eqb (low_at ws i) 0)

-- a branch is its label, true row, false row; a child's label is greater than its parent's; no branch has two equal children
unfoldable pub is_branch_row : List ℕ → List ℕ → ℕ → Bool
is_branch_row ar ws i =
    is_label ar (label_at ws i)
    && (ltb (high_at ws i) (row_count ws)
    && (ltb (low_at ws i) (row_count ws)
    && (ltb (label_at ws i) (label_at ws (high_at ws i))
    && (ltb (label_at ws i) (label_at ws (low_at ws i))
    && not (eqb (high_at ws i) (low_at ws i))))))

-- p holds of every number below n
abbrev pub every_below : ℕ → (ℕ → Bool) → Bool
every_below zero p = true
every_below (suc n) p = every_below n p && p n

-- two rows are equal
unfoldable pub equal_rows : List ℕ → ℕ → ℕ → Bool
equal_rows ws i j = eqb (label_at ws i) (label_at ws j) && (eqb (high_at ws i) (high_at ws j) && eqb (low_at ws i) (low_at ws j))

unfoldable pub are_distinct : List ℕ → Bool
are_distinct ws = every_below (row_count ws) (λ i. every_below i (λ j. not (equal_rows ws j i)))

-- the rows that a walk from row i finishes, true branch first, after those of `done`; it goes at most `depth` rows deep
unfoldable pub finish : List ℕ → ℕ → ℕ → List ℕ → List ℕ
finish ws zero i done = done
finish ws (suc depth) i done = elim (mem eqb i done) [
  | true ↦ done
  | false ↦ elim (eqb (label_at ws i) leaf_mark) [
    | true ↦ done ++ (i ∷ [])
    | false ↦ finish ws depth (low_at ws i) (finish ws depth (high_at ws i) done) ++ (i ∷ [])
  ]
]

-- 0, 1, .., n - 1
abbrev pub up_to : ℕ → List ℕ
up_to zero = []
up_to (suc n) = up_to n ++ (n ∷ [])

abbrev pub equal_lists : List ℕ → List ℕ → Bool
equal_lists [] [] = true
equal_lists [] (y ∷ ys) = false
equal_lists (x ∷ xs) [] = false
equal_lists (x ∷ xs) (y ∷ ys) = eqb x y && equal_lists xs ys

-- rows are numbered as a walk from the root finishes them, none unreachable. The root is the last row; labels grow along a path, so that no path is
-- longer than the rows are many.
unfoldable pub are_numbered : List ℕ → Bool
are_numbered ws = equal_lists (finish ws (row_count ws) (pred (row_count ws)) []) (up_to (row_count ws))

-- the words ws are a listing under the arity list ar
unfoldable pub is_listing : List ℕ → List ℕ → Bool
is_listing ar ws =
    are_arities ar
    && (eqb (length ws) (row_count ws * 3)
    && (leb 1 (row_count ws)
    && (leb (row_count ws) most_rows
    && (every_below (row_count ws) (λ i. is_leaf_row ws i || is_branch_row ar ws i)
    && (are_distinct ws
    && are_numbered ws)))))
