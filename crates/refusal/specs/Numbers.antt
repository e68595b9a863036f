-- The number of each trade word (document 01, table 'Refusals by trade word'; document 02, the new numbers of its requests).
use Rattle.std.specs.Prelude.{ℕ}
use Rattle.refusal.specs.declared.Refusal.{Refusal}
use Rattle.refusal.specs.declared.Refusal.TheVariants.{Form, Name, Arity, Range, Place, Unbound, Truth, Variables, Space}
use Rattle.refusal.specs.declared.Refusal.TheVariants.{Pairs, Value, Scale, Weights, Listing, Valuations, Nothing, Paths, Buffer}
use Rattle.refusal.specs.declared.Refusal.TheVariants.{Length, Missing, Weightless, Crowded, Tally, Ground, Minimum, Kinds, Runs, Combinations}

abbrev pub number_of : Refusal → ℕ
number_of Form = 1
number_of Name = 2
number_of Arity = 3
number_of Range = 4
number_of Place = 5
number_of Unbound = 6
number_of Truth = 7
number_of Variables = 8
number_of Space = 9
number_of Pairs = 10
number_of Value = 11
number_of Scale = 12
number_of Weights = 13
number_of Listing = 14
number_of Valuations = 15
number_of Nothing = 16
number_of Paths = 17
number_of Buffer = 18
-- document 02, L2, L9, L10, L11 and L13
number_of Length = 19
number_of Missing = 20
number_of Weightless = 21
number_of Crowded = 22
number_of Tally = 23
number_of Ground = 24
number_of Minimum = 25
number_of Kinds = 26
number_of Runs = 27
number_of Combinations = 28
