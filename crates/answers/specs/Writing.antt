-- Bytes written into a lent buffer at a place: an answer that has no room is not written (document 01, section 'A run, whole').
use Rattle.std.specs.Prelude.{ℕ, ◌≤◌, ◌<◌}
use Rattle.diagram.specs.Sizes.{most_rows}
use Rattle.answers.specs.declared.Answer.{Answer}
use Rattle.answers.specs.declared.Answer.TheVariants.{Value, Backup, Cut, Reduce, Refused, Show, Text, Best, Count, Did, Nothing}

-- the bytes of any answer at most: a line for each of 1,024 rows
abbrev pub most_bytes : ℕ
most_bytes = 92160

-- no form and no spread is to be printed
abbrev pub Plain : Answer → Type 0
Plain (Value v k s) = Unit {0}
Plain (Backup k n) = Unit {0}
Plain (Cut i e n) = Unit {0}
Plain (Reduce n) = Unit {0}
Plain (Refused r line) = Unit {0}
Plain (Show n) = Unit {0}
Plain (Text n) = ⊥
Plain (Best k n a b c d) = Unit {0}
Plain (Count n m) = ⊥
Plain (Did n t) = Unit {0}
Plain Nothing = Unit {0}

-- a machine word
abbrev pub IsWord : ℕ → Type 0
IsWord v = v < 18446744073709551616

-- a byte
abbrev pub IsByte : ℕ → Type 0
IsByte v = v < 256

-- an answer of machine words, with at most 1,024 rows to show and as many lines of a spread
abbrev pub OfWords : Answer → Type 0
OfWords (Value v k s) = IsWord v × IsWord k × IsWord s
OfWords (Backup k n) = IsWord k × IsWord n
OfWords (Cut i e n) = IsWord i × IsWord n
OfWords (Reduce n) = IsWord n
OfWords (Refused r line) = IsWord line
OfWords (Show n) = n ≤ most_rows
OfWords (Text n) = Unit {0}
OfWords (Best k n a b c d) = IsByte a × IsByte b × IsByte c × IsByte d
OfWords (Count n m) = m ≤ most_rows
OfWords (Did n t) = IsWord n × IsWord t
OfWords Nothing = Unit {0}
