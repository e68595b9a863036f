-- The limits of terms and labels, and how a label is packed: the numbers of document 01, section 'Terms, labels, listings',
-- as document 02, L8 and L12 have them, by name.
use Rattle.std.specs.Prelude.{ℕ, ◌-◌, ◌*◌, ◌^◌}

-- a term is a constant (numbers 0 to 15), an action parameter (16 to 19), a variable (64 to 127) or a minimum variable (128 to 191; document 02, L12)
abbrev pub constant_count : ℕ
constant_count = 16

abbrev pub first_parameter : ℕ
first_parameter = 16

abbrev pub parameter_count : ℕ
parameter_count = 4

abbrev pub first_variable : ℕ
first_variable = 64

abbrev pub variable_count : ℕ
variable_count = 64

abbrev pub first_minimum : ℕ
first_minimum = 128

abbrev pub minimum_count : ℕ
minimum_count = 64

-- numbers of terms are below this
abbrev pub term_end : ℕ
term_end = 192

-- a place of a label takes so many bits: its places are packed in this base
abbrev pub term_bits : ℕ
term_bits = 8

abbrev pub term_base : ℕ
term_base = 256

-- predicates are numbered 0 to 31, with arities 0 to 6; predicate 0 is equality, of arity 2
abbrev pub predicate_count : ℕ
predicate_count = 32

abbrev pub most_places : ℕ
most_places = 6

abbrev pub equality : ℕ
equality = 0

abbrev pub equality_arity : ℕ
equality_arity = 2

-- what the predicate of a label is multiplied by: 2^48
abbrev pub predicate_weight : ℕ
predicate_weight = 281474976710656

-- what place k of a label is multiplied by, the first being place 0: the last by 1, each one before it by the base more
abbrev pub weight_at : ℕ → ℕ
weight_at k = 2 ^ ((most_places - 1 - k) * term_bits)

-- what stands in a leaf's first word: above every label
abbrev pub leaf_mark : ℕ
leaf_mark = 18446744073709551615
