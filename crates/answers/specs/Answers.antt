-- The answers of a text (document 01, section 'A run, whole'): one line each, for (show) a line for each row, for (text) the value as a form, for (count n) a line for
-- each value (document 02, L2 and L11).
use Rattle.std.specs.Prelude.{ℕ, zero, suc, ◌+◌, ◌*◌, cond, List, [], ◌∷◌, ◌++◌, eqb, get_or, take}
use Rattle.words.specs.declared.Key.{Key}
use Rattle.words.specs.Keys.{name_of}
use Rattle.refusal.specs.Numbers.{number_of}
use Rattle.label.specs.Limits.{leaf_mark}
use Rattle.diagram.specs.Words.{label_at, high_at, low_at}
use Rattle.cutting.specs.declared.Edge.{Edge}
use Rattle.cutting.specs.declared.Edge.TheVariants.{True, False}
use Rattle.answers.specs.declared.Answer.{Answer}
use Rattle.answers.specs.declared.Answer.TheVariants.{Value, Backup, Cut, Reduce, Refused, Show, Text, Best, Count, Did, Nothing}
use Rattle.answers.specs.Digits.{digits}

-- a number, a space before it
unfoldable pub field : ℕ → List ℕ
unfolding digits
field v = 32 ∷ digits v

-- ` true` or ` false`
abbrev pub edge_field : Edge → List ℕ
edge_field True = 32 ∷ 116 ∷ 114 ∷ 117 ∷ 101 ∷ []
edge_field False = 32 ∷ 102 ∷ 97 ∷ 108 ∷ 115 ∷ 101 ∷ []

-- ` leaf`
abbrev pub leaf_field : List ℕ
leaf_field = 32 ∷ 108 ∷ 101 ∷ 97 ∷ 102 ∷ []

-- a name, a space before it
unfoldable pub name_field : Key → List ℕ
unfolding name_of
name_field k = 32 ∷ name_of k

-- numbers, a space before each
unfoldable pub fields : List ℕ → List ℕ
unfolding field
fields [] = []
fields (v ∷ vs) = field v ++ fields vs

-- `(value`, `(backup`, `(cut`, `(reduce`, `(best`, `(count`, `(did` (document 02, L13, L9, L11, L10), `(refused`, `(row`
abbrev pub value_head : List ℕ
value_head = 40 ∷ 118 ∷ 97 ∷ 108 ∷ 117 ∷ 101 ∷ []

abbrev pub backup_head : List ℕ
backup_head = 40 ∷ 98 ∷ 97 ∷ 99 ∷ 107 ∷ 117 ∷ 112 ∷ []

abbrev pub cut_head : List ℕ
cut_head = 40 ∷ 99 ∷ 117 ∷ 116 ∷ []

abbrev pub reduce_head : List ℕ
reduce_head = 40 ∷ 114 ∷ 101 ∷ 100 ∷ 117 ∷ 99 ∷ 101 ∷ []

abbrev pub best_head : List ℕ
best_head = 40 ∷ 98 ∷ 101 ∷ 115 ∷ 116 ∷ []

abbrev pub count_head : List ℕ
count_head = 40 ∷ 99 ∷ 111 ∷ 117 ∷ 110 ∷ 116 ∷ []

abbrev pub did_head : List ℕ
did_head = 40 ∷ 100 ∷ 105 ∷ 100 ∷ []

abbrev pub refused_head : List ℕ
refused_head = 40 ∷ 114 ∷ 101 ∷ 102 ∷ 117 ∷ 115 ∷ 101 ∷ 100 ∷ []

abbrev pub row_head : List ℕ
row_head = 40 ∷ 114 ∷ 111 ∷ 119 ∷ []

abbrev pub line_feed : List ℕ
line_feed = 10 ∷ []

-- `)` and a line feed
abbrev pub line_end : List ℕ
line_end = 41 ∷ 10 ∷ []

-- the line of an answer. Fields: value, k, S^k; k, rows; cut row, edge, rows left; rows left; number, line; an action's name and the first n objects; count,
-- total (document 02, L10). Other lines print nothing.
unfoldable pub answer_line : Answer → List ℕ
unfolding field name_field fields
answer_line (Value v k s) = value_head ++ field v ++ field k ++ field s ++ line_end
answer_line (Backup k n) = backup_head ++ field k ++ field n ++ line_end
answer_line (Cut i e n) = cut_head ++ field i ++ edge_field e ++ field n ++ line_end
answer_line (Reduce n) = reduce_head ++ field n ++ line_end
answer_line (Refused r line) = refused_head ++ field (number_of r) ++ field line ++ line_end
answer_line (Show n) = []
answer_line (Text n) = []
answer_line (Best k n a b c d) = best_head ++ name_field k ++ fields (take n (a ∷ b ∷ c ∷ d ∷ [])) ++ line_end
answer_line (Count n m) = []
answer_line (Did n t) = did_head ++ field n ++ field t ++ line_end
answer_line Nothing = []

-- the line of row k, whose words are l, h and w. Fields: row number, label, true, false; a leaf's value behind `leaf`.
unfoldable pub row_line : ℕ → ℕ → ℕ → ℕ → List ℕ
unfolding field
row_line k l h w =
    cond (eqb l leaf_mark)
    (row_head ++ field k ++ leaf_field ++ field h ++ line_end)
    (row_head ++ field k ++ field l ++ field h ++ field w ++ line_end)

-- row k of a listing
unfoldable pub row_line_at : List ℕ → ℕ → List ℕ
unfolding row_line
row_line_at ws k = row_line k (label_at ws k) (high_at ws k) (low_at ws k)

-- the first n rows
unfoldable pub row_lines : List ℕ → ℕ → List ℕ
unfolding row_line_at
row_lines ws zero = []
row_lines ws (suc n) = row_lines ws n ++ row_line_at ws n

-- line k of a spread, whose words are a value and its number of states, line by line
unfoldable pub count_line_at : List ℕ → ℕ → List ℕ
unfolding field
count_line_at table k = count_head ++ field (get_or table (k * 2) 0) ++ field (get_or table (k * 2 + 1) 0) ++ line_end

-- the first n lines
unfoldable pub count_lines : List ℕ → ℕ → List ℕ
unfolding count_line_at
count_lines table zero = []
count_lines table (suc n) = count_lines table n ++ count_line_at table n

-- an answer's bytes, where the value's listing begins the words ws, the value as a form has these bytes, and a spread these words: (text) prints the form 'with
-- nothing around it, on one line' (document 02, L2), (count n) '(count value states) for each value' (L11)
unfoldable pub answer_bytes : List ℕ → List ℕ → List ℕ → Answer → List ℕ
unfolding answer_line row_lines count_lines
answer_bytes ws form table (Value v k s) = answer_line (Value v k s)
answer_bytes ws form table (Backup k n) = answer_line (Backup k n)
answer_bytes ws form table (Cut i e n) = answer_line (Cut i e n)
answer_bytes ws form table (Reduce n) = answer_line (Reduce n)
answer_bytes ws form table (Refused r line) = answer_line (Refused r line)
answer_bytes ws form table (Show n) = row_lines ws n
answer_bytes ws form table (Text n) = form ++ line_feed
answer_bytes ws form table (Best k n a b c d) = answer_line (Best k n a b c d)
answer_bytes ws form table (Count n m) = count_lines table m
answer_bytes ws form table (Did n t) = answer_line (Did n t)
answer_bytes ws form table Nothing = []
