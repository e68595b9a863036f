-- The limits of listings and of calls on them: each number of document 01 stands here once.
use Rattle.std.specs.Prelude.{ℕ}

-- a listing has 1 to 1,024 rows of three words
abbrev pub most_rows : ℕ
most_rows = 1024

-- a leaf's value is 0 to 10^18
abbrev pub highest_value : ℕ
highest_value = 1000000000000000000

-- rows formed in one call share a working space of 2,048 rows
abbrev pub space_rows : ℕ
space_rows = 2048

-- a combination walks at most 4,096 pairs
abbrev pub most_pairs : ℕ
most_pairs = 4096

-- a result buffer has at least 3,072 words, a working space 6,144
abbrev pub result_words : ℕ
result_words = 3072

abbrev pub space_words : ℕ
space_words = 6144
