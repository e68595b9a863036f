-- What an answer prints: rows of the value's listing, its form, lines of a spread, or one line of its own, if any.
use Rattle.answers.specs.declared.Answer.{Answer}
use Rattle.answers.specs.declared.Answer.TheVariants as A
use Rattle.answering.specs.declared.Printed.{Printed}
use Rattle.answering.specs.declared.Printed.TheVariants as P

abbrev pub printed_by : Answer → Printed
printed_by (A.Value v k s) = P.Line
printed_by (A.Backup k n) = P.Line
printed_by (A.Cut i e n) = P.Line
printed_by (A.Reduce n) = P.Line
printed_by (A.Refused r line) = P.Line
printed_by (A.Show n) = P.Rows n
printed_by (A.Text n) = P.Form n
printed_by (A.Best k n a b c d) = P.Line
printed_by (A.Count n m) = P.Counts m
printed_by (A.Did n t) = P.Line
printed_by A.Nothing = P.Line
