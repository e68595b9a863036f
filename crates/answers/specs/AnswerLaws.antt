-- How many bytes an answer has at most, so that a buffer has room for it.
use Rattle.std.specs.Prelude.{ℕ, zero, suc, ◌+◌, ◌*◌, ◌/◌, ◌%◌, ◌≤◌, ◌≡◌, Bool, true, false, cond, List, [], ◌∷◌, ◌++◌, eqb, length, get_or, take}
use Rattle.std.proofs.Common.{arith, length-append}
use Rattle.refusal.specs.declared.Refusal.{Refusal}
use Rattle.refusal.specs.declared.Refusal.TheVariants.{
  Form,
  Name,
  Arity,
  Range,
  Place,
  Unbound,
  Truth,
  Variables,
  Space,
  Pairs,
  Value as AboveValue,
  Scale,
  Weights,
  Listing,
  Valuations,
  Nothing as NothingToCut,
  Paths,
  Buffer,
  Length,
  Missing,
  Weightless,
  Crowded,
  Tally,
  Ground,
  Minimum,
  Kinds,
  Runs,
  Combinations,
}
use Rattle.refusal.specs.Numbers.{number_of}
use Rattle.words.specs.declared.Key.{Key}
use Rattle.words.specs.Keys.{bytes_within, name_of}
use Rattle.label.specs.Limits.{leaf_mark}
use Rattle.diagram.specs.Sizes.{most_rows}
use Rattle.diagram.specs.Words.{label_at, high_at, low_at}
use Rattle.cutting.specs.declared.Edge.{Edge}
use Rattle.cutting.specs.declared.Edge.TheVariants.{True, False}
use Rattle.answers.specs.declared.Answer.{Answer}
use Rattle.answers.specs.declared.Answer.TheVariants.{Value, Backup, Cut, Reduce, Refused, Show, Text, Best, Count, Did, Nothing}
use Rattle.answers.specs.DigitLaws.{digits-short, digits-byte}
use Rattle.answers.specs.Answers.{field, fields, name_field, edge_field, leaf_field, line_end, answer_line, row_line, row_line_at, row_lines, count_line_at, count_lines, answer_bytes}
use Rattle.answers.specs.Answers.{value_head, backup_head, cut_head, reduce_head, best_head, count_head, did_head, refused_head, row_head}
use Rattle.answers.specs.Inner.{line_bytes}
use Rattle.answers.specs.Writing.{Plain, IsWord, IsByte, OfWords, most_bytes}

field-short : (v : ℕ) → IsWord v → length (field v) ≤ 21
unfolding field
field-short v h = omega (arith, digits-short v h)

byte-short : (v : ℕ) → IsByte v → length (field v) ≤ 4
unfolding field
byte-short v h = omega (arith, digits-byte v h)

-- a name has at most 15 bytes
bytes-short : (left m : ℕ) → length (bytes_within left m) ≤ left
unfolding bytes_within
bytes-short zero m = omega arith
bytes-short (suc left) m = go (eqb m 0) (bytes-short left (m / 256))
  where
    go : (t : Bool) → length (bytes_within left (m / 256)) ≤ left → length (cond t [] (m % 256 ∷ bytes_within left (m / 256))) ≤ suc left
    go true ih = omega arith
    go false ih = omega arith

name-short : (k : Key) → length (name_field k) ≤ 16
unfolding name_field name_of
name-short k = omega (arith, length-append (bytes_within 8 k.a) (bytes_within 7 k.b), bytes-short 8 k.a, bytes-short 7 k.b)

-- objects that are bytes, as many as are there
abbrev Bytes : List ℕ → Type 0
Bytes [] = Unit {0}
Bytes (v ∷ vs) = IsByte v × Bytes vs

fields-short : (n : ℕ) (vs : List ℕ) → Bytes vs → length (fields (take n vs)) ≤ length vs * 4
unfolding fields
fields-short zero [] h = omega arith
fields-short zero (v ∷ vs) h = omega arith
fields-short (suc n) [] h = omega arith
fields-short (suc n) (v ∷ vs) h = omega (arith, length-append (field v) (fields (take n vs)), byte-short v h.0, fields-short n vs h.1)

edge-short : (e : Edge) → length (edge_field e) ≤ 6
edge-short True = omega arith
edge-short False = omega arith

number_word : (r : Refusal) → IsWord (number_of r)
number_word Form = omega arith
number_word Name = omega arith
number_word Arity = omega arith
number_word Range = omega arith
number_word Place = omega arith
number_word Unbound = omega arith
number_word Truth = omega arith
number_word Variables = omega arith
number_word Space = omega arith
number_word Pairs = omega arith
number_word AboveValue = omega arith
number_word Scale = omega arith
number_word Weights = omega arith
number_word Listing = omega arith
number_word Valuations = omega arith
number_word NothingToCut = omega arith
number_word Paths = omega arith
number_word Buffer = omega arith
number_word Length = omega arith
number_word Missing = omega arith
number_word Weightless = omega arith
number_word Crowded = omega arith
number_word Tally = omega arith
number_word Ground = omega arith
number_word Minimum = omega arith
number_word Kinds = omega arith
number_word Runs = omega arith
number_word Combinations = omega arith

-- a line of parts, each with its length at most
three-short : (a b c : List ℕ) → length (a ++ b ++ c) ≡ length a + length b + length c
three-short a b c = omega (arith, length-append (a ++ b) c, length-append a b)

four-short : (a b c d : List ℕ) → length (a ++ b ++ c ++ d) ≡ length a + length b + length c + length d
four-short a b c d = omega (arith, length-append (a ++ b ++ c) d, length-append (a ++ b) c, length-append a b)

five-short : (a b c d e : List ℕ) → length (a ++ b ++ c ++ d ++ e) ≡ length a + length b + length c + length d + length e
five-short a b c d e = omega (arith, four-short a b c d, length-append (a ++ b ++ c ++ d) e)

-- a line has at most 90 bytes
pub line-short : (a : Answer) → OfWords a → length (answer_line a) ≤ line_bytes
unfolding answer_line
line-short (Value v k s) h =
    omega (arith, five-short value_head (field v) (field k) (field s) line_end, field-short v h.0, field-short k h.1, field-short s h.2)
line-short (Backup k n) h = omega (arith, four-short backup_head (field k) (field n) line_end, field-short k h.0, field-short n h.1)
line-short (Cut i e n) h =
    omega (arith, five-short cut_head (field i) (edge_field e) (field n) line_end, field-short i h.0, edge-short e, field-short n h.1)
line-short (Reduce n) h = omega (arith, three-short reduce_head (field n) line_end, field-short n h)
line-short (Refused r line) h =
    omega (arith, four-short refused_head (field (number_of r)) (field line) line_end, field-short (number_of r) (number_word r), field-short line h)
line-short (Show n) h = omega arith
line-short (Text n) h = omega arith
line-short (Best k n a b c d) h =
    omega (
      arith,
      four-short best_head (name_field k) (fields (take n (a ∷ b ∷ c ∷ d ∷ []))) line_end,
      name-short k,
      fields-short n (a ∷ b ∷ c ∷ d ∷ []) (h.0, (h.1, (h.2, (h.3, tt)))),
    )
line-short (Count n m) h = omega arith
line-short (Did n t) h = omega (arith, four-short did_head (field n) (field t) line_end, field-short n h.0, field-short t h.1)
line-short Nothing h = omega arith

-- and so has a row's line
row-short : (k l h w : ℕ) → IsWord k → IsWord l → IsWord h → IsWord w → length (row_line k l h w) ≤ line_bytes
unfolding row_line
row-short k l h w a b c d = go (eqb l leaf_mark)
  where
    go : (t : Bool) → length (cond t (row_head ++ field k ++ leaf_field ++ field h ++ line_end) (row_head ++ field k ++ field l ++ field h ++ field w ++ line_end)) ≤ line_bytes
    go true = omega (arith, five-short row_head (field k) leaf_field (field h) line_end, field-short k a, field-short h c)
    go false =
        omega (
          arith,
          length-append (row_head ++ field k ++ field l ++ field h ++ field w) line_end,
          five-short row_head (field k) (field l) (field h) (field w),
          field-short k a,
          field-short l b,
          field-short h c,
          field-short w d,
        )

rows_short : (ws : List ℕ) (n : ℕ) → ((i : ℕ) → IsWord (get_or ws i 0)) → IsWord n → length (row_lines ws n) ≤ n * line_bytes
unfolding row_lines row_line_at label_at high_at low_at
rows_short ws zero g h = omega arith
rows_short ws (suc n) g h =
    omega (
      arith,
      length-append (row_lines ws n) (row_line_at ws n),
      rows_short ws n g (omega arith),
      row-short n (label_at ws n) (high_at ws n) (low_at ws n) (omega arith) (g (n * 3)) (g (n * 3 + 1)) (g (n * 3 + 2)),
    )

-- and so has a spread's line
count-short : (table : List ℕ) (k : ℕ) → ((i : ℕ) → IsWord (get_or table i 0)) → length (count_line_at table k) ≤ line_bytes
unfolding count_line_at
count-short table k g =
    let v = get_or table (k * 2) 0 in
    let s = get_or table (k * 2 + 1) 0 in
    omega (arith, four-short count_head (field v) (field s) line_end, field-short v (g (k * 2)), field-short s (g (k * 2 + 1)))

counts-within : (table : List ℕ) (n : ℕ) → ((i : ℕ) → IsWord (get_or table i 0)) → length (count_lines table n) ≤ n * line_bytes
unfolding count_lines
counts-within table zero g = omega arith
counts-within table (suc n) g = omega (arith, length-append (count_lines table n) (count_line_at table n), counts-within table n g, count-short table n g)

-- a spread of at most 1,024 lines has no more bytes than 1,024 rows may have
pub counts-short : (table : List ℕ) (n : ℕ) → ((i : ℕ) → IsWord (get_or table i 0)) → n ≤ most_rows → length (count_lines table n) ≤ most_bytes
counts-short table n g h = omega (arith, counts-within table n g)

-- no answer but a form or a spread has more bytes than 1,024 rows may have
pub answer-short : (ws form table : List ℕ) (a : Answer) → ((i : ℕ) → IsWord (get_or ws i 0)) → OfWords a → Plain a → length (answer_bytes ws form table a) ≤ most_bytes
unfolding answer_bytes
answer-short ws form table (Value v k s) g h p = omega (arith, line-short (Value v k s) h)
answer-short ws form table (Backup k n) g h p = omega (arith, line-short (Backup k n) h)
answer-short ws form table (Cut i e n) g h p = omega (arith, line-short (Cut i e n) h)
answer-short ws form table (Reduce n) g h p = omega (arith, line-short (Reduce n) h)
answer-short ws form table (Refused r line) g h p = omega (arith, line-short (Refused r line) h)
answer-short ws form table (Show n) g h p = omega (arith, rows_short ws n g (omega arith))
answer-short ws form table (Text n) g h p = absurd p
answer-short ws form table (Best k n a b c d) g h p = omega (arith, line-short (Best k n a b c d) h)
answer-short ws form table (Count n m) g h p = absurd p
answer-short ws form table (Did n t) g h p = omega (arith, line-short (Did n t) h)
answer-short ws form table Nothing g h p = omega arith
