-- An answer as numbers: 0 for an accepted call and the refusal's number for a refused one; counts and values that a refusal leaves as they were (document 01, section 'Refusals by
-- trade word'; document 02, L13).
use Rattle.std.specs.Prelude.{Bool, true, false, ℕ}
use Rattle.refusal.specs.Numbers.{number_of}
use Rattle.refusal.specs.declared.Refusal.TheVariants.{Listing, Buffer}
use Rattle.apply.specs.declared.Combined.{Combined}
use Rattle.apply.specs.declared.Combined.TheVariants.{Done as CombinedDone, Refused as CombinedRefused}
use Rattle.cutting.specs.declared.Edge.{Edge}
use Rattle.cutting.specs.declared.Edge.TheVariants.{True, False}
use Rattle.cutting.specs.declared.Cut.{Cut}
use Rattle.cutting.specs.declared.Cut.TheVariants.{Done as CutDone, Refused as CutRefused}
use Rattle.texts.specs.declared.Ran.{Ran}
use Rattle.texts.specs.declared.Ran.TheVariants.{Done as RanDone, Full}
use Rattle.refusal.specs.declared.Refusal.{Refusal}
use Rattle.std.specs.Prelude.{Err, Ok, Result}

-- a combination: its number, its rows and its pairs
abbrev pub combined_number : Combined → ℕ
combined_number (CombinedDone n p) = 0
combined_number (CombinedRefused r) = number_of r

abbrev pub combined_rows : Combined → ℕ → ℕ
combined_rows (CombinedDone n p) before = n
combined_rows (CombinedRefused r) before = before

abbrev pub combined_pairs : Combined → ℕ → ℕ
combined_pairs (CombinedDone n p) before = p
combined_pairs (CombinedRefused r) before = before

-- a regression, freeing or a reduction: its number and the rows that it leaves
abbrev pub rows_number : Result ℕ Refusal → ℕ
rows_number (Ok n) = 0
rows_number (Err r) = number_of r

abbrev pub rows_after : Result ℕ Refusal → ℕ → ℕ
rows_after (Ok n) before = n
rows_after (Err r) before = before

-- a cut: its number, the row and the edge that went (1 for the true edge, 0 for the false one) and the rows left
abbrev pub cut_number : Cut → ℕ
cut_number (CutDone k e n) = 0
cut_number (CutRefused r) = number_of r

abbrev pub cut_row : Cut → ℕ → ℕ
cut_row (CutDone k e n) before = k
cut_row (CutRefused r) before = before

abbrev pub edge_number : Edge → ℕ
edge_number True = 1
edge_number False = 0

abbrev pub cut_edge : Cut → ℕ → ℕ
cut_edge (CutDone k e n) before = edge_number e
cut_edge (CutRefused r) before = before

abbrev pub cut_rows : Cut → ℕ → ℕ
cut_rows (CutDone k e n) before = n
cut_rows (CutRefused r) before = before

-- valuing: its number and the value
abbrev pub valued_number : Result ℕ Refusal → ℕ
valued_number (Ok v) = 0
valued_number (Err r) = number_of r

abbrev pub valued_value : Result ℕ Refusal → ℕ → ℕ
valued_value (Ok v) before = v
valued_value (Err r) before = before

-- the check of a listing
abbrev pub listing_number : Bool → ℕ
listing_number true = 0
listing_number false = number_of Listing

-- the answers do not fit: no refusal, so its number is none of 01's table; answers were written, and their bytes and lines are told
abbrev pub full_number : ℕ
full_number = 100

-- a text: its number, the bytes written, and the lines answered where the next answer has no room
abbrev pub ran_number : Ran → ℕ
ran_number (RanDone n) = 0
ran_number (Full n k) = full_number

abbrev pub ran_bytes : Ran → ℕ
ran_bytes (RanDone n) = n
ran_bytes (Full n k) = n

abbrev pub ran_lines : Ran → ℕ → ℕ
ran_lines (RanDone n) before = before
ran_lines (Full n k) before = k

-- whether the lent memory is large enough
abbrev pub room_number : Bool → ℕ
room_number true = 0
room_number false = number_of Buffer

-- a session's lines, and its end: 14 where the words are no session's, then 18 where there is too little room ('14 by operand .., then 18')
unfoldable pub entry_number : Bool → Bool → ℕ
entry_number false room = number_of Listing
entry_number true false = number_of Buffer
entry_number true true = 0
