-- Where the tables of a session's names begin, and how many words they take together: each number stands here once.
use Rattle.std.specs.Prelude.{ℕ}

-- the constants' keys, 16 at most
abbrev pub constants_at : ℕ
constants_at = 0

-- the declared predicates' keys, 31 at most: the predicates' begin at 32, by number; equality is number 0 and has none
abbrev pub declared_at : ℕ
declared_at = 34

-- the actions' keys, 8 at most
abbrev pub actions_at : ℕ
actions_at = 96

-- the keys of the last action's parameters, 4 at most; those of the variants of all actions, 64 at most, one action's behind another's
abbrev pub parameters_at : ℕ
parameters_at = 112

abbrev pub variants_at : ℕ
variants_at = 120

abbrev pub name_words : ℕ
name_words = 248
