-- What is put of a reply in a buffer: the bytes of its answer, which for (show) and (text) are read from a session's lent words, for (count n) from the working space.
use Rattle.std.specs.Prelude.{◌≡◌, false, List, ℕ, ◌*◌, ◌≤◌, length, take}
use Rattle.diagram.specs.Sizes.{most_rows}
use Rattle.diagram.specs.Diagram.{Diagram}
use Rattle.diagram.specs.Listing.{diagram_of}
use Rattle.diagram_form.specs.Form.{Tables, form_bytes, form_length, is_too_long}
use Rattle.spelling.specs.Spelling.{tables_at}
use Rattle.answers.specs.declared.Answer.{Answer}
use Rattle.answers.specs.declared.Answer.TheVariants as A
use Rattle.answers.specs.Answers.{answer_bytes}
use Rattle.memory.specs.declared.Numbers.{Numbers}
use Rattle.run_lines.specs.Lines.{TextTask}

-- the names declared, and the value diagram
abbrev pub tables_in : Numbers → List ℕ → Tables
tables_in n names = tables_at names n.counts.constants n.counts.predicates

abbrev pub value_in : Numbers → List ℕ → Diagram
value_in n value = diagram_of (take (n.held.rows * 3) value)

-- the bytes of an answer; the words of a spread begin the working space
unfoldable pub answer_in : Answer → Numbers → List ℕ → List ℕ → List ℕ → List ℕ → List ℕ
unfolding answer_bytes
answer_in a n names arities value work = answer_bytes value (form_bytes arities (tables_in n names) (value_in n value)) work a

-- a form of so many bytes can be put: it is the value's, and not too long to be a reward
pub record Form (bytes : ℕ) (n : Numbers) (names arities value : List ℕ) : Type 0 where
  pub task : TextTask n names arities value
  pub count : bytes ≡ form_length arities (tables_in n names) (value_in n value)
  pub fits : is_too_long arities (tables_in n names) (value_in n value) ≡ false

-- an answer can be put: rows to be shown are there, a form is the value's, and the words of a spread are there
pub record Puttable (a : Answer) (n : Numbers) (names arities value work : List ℕ) : Type 0 where
  pub there : (m : ℕ) → a ≡ A.Show m → m * 3 ≤ length value
  pub few : (m : ℕ) → a ≡ A.Show m → m ≤ most_rows
  pub form : (m : ℕ) → a ≡ A.Text m → Form m n names arities value
  pub table : (k m : ℕ) → a ≡ A.Count k m → (m * 2 ≤ length work) × (m ≤ most_rows)
