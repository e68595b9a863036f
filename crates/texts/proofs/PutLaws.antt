-- Laws of an answer put in a buffer: rows, the value as a form, a spread, or a line of its own.
use mathlib.Core.Path.{◌≡◌, refl, sym, ap, subst, ◌∙◌}
use mathlib.Core.List.{List}
use Prim.Native.Nat.{ℕ, ◌*◌, ◌≤◌}
use native.Mathlib.Omega.{arith}
use lib.ListN.{length, take}
use lib.Seq.{length-take-le}
use Rattle.diagram.specs.Sizes.{most_rows}
use Rattle.spelling.specs.Spelling.{form_line}
use Rattle.spelling.specs.SpellingLaws.{line-short}
use Rattle.answers.specs.declared.Answer.{Answer}
use Rattle.answers.specs.declared.Answer.TheVariants as A
use Rattle.answers.specs.Answers.{answer_line, row_lines, count_lines, answer_bytes}
use Rattle.answers.specs.Inner.{line_bytes, Placed}
use Rattle.answers.specs.Writing.{most_bytes}
use Rattle.answering.specs.declared.Printed.{Printed}
use Rattle.answering.specs.declared.Printed.TheVariants as P
use Rattle.answering.specs.Printing.{printed_by}
use Rattle.memory.specs.declared.Numbers.{Numbers}
use Rattle.texts.specs.Putting.{tables_in, value_in, answer_in, Form, Puttable}
use Rattle.std.specs.Prelude.{Option}

printed-rows : (a : Answer) {m : ℕ} → P.Rows m ≡ printed_by a → a ≡ A.Show m
printed-rows (A.Value v k s) e = let z : ◌≡◌ {A = ℕ} 0 1 = cc in absurd (omega arith)
printed-rows (A.Backup k n) e = let z : ◌≡◌ {A = ℕ} 0 1 = cc in absurd (omega arith)
printed-rows (A.Cut i d n) e = let z : ◌≡◌ {A = ℕ} 0 1 = cc in absurd (omega arith)
printed-rows (A.Reduce n) e = let z : ◌≡◌ {A = ℕ} 0 1 = cc in absurd (omega arith)
printed-rows (A.Refused r line) e = let z : ◌≡◌ {A = ℕ} 0 1 = cc in absurd (omega arith)
printed-rows (A.Show n) e = ap A.Show (cc)
printed-rows (A.Text n) e = let z : ◌≡◌ {A = ℕ} 0 1 = cc in absurd (omega arith)
printed-rows (A.Best k n a b c d) e = let z : ◌≡◌ {A = ℕ} 0 1 = cc in absurd (omega arith)
printed-rows (A.Count k n) e = let z : ◌≡◌ {A = ℕ} 0 1 = cc in absurd (omega arith)
printed-rows (A.Did n t) e = let z : ◌≡◌ {A = ℕ} 0 1 = cc in absurd (omega arith)
printed-rows A.Nothing e = let z : ◌≡◌ {A = ℕ} 0 1 = cc in absurd (omega arith)

printed-form : (a : Answer) {m : ℕ} → P.Form m ≡ printed_by a → a ≡ A.Text m
printed-form (A.Value v k s) e = let z : ◌≡◌ {A = ℕ} 0 1 = cc in absurd (omega arith)
printed-form (A.Backup k n) e = let z : ◌≡◌ {A = ℕ} 0 1 = cc in absurd (omega arith)
printed-form (A.Cut i d n) e = let z : ◌≡◌ {A = ℕ} 0 1 = cc in absurd (omega arith)
printed-form (A.Reduce n) e = let z : ◌≡◌ {A = ℕ} 0 1 = cc in absurd (omega arith)
printed-form (A.Refused r line) e = let z : ◌≡◌ {A = ℕ} 0 1 = cc in absurd (omega arith)
printed-form (A.Show n) e = let z : ◌≡◌ {A = ℕ} 0 1 = cc in absurd (omega arith)
printed-form (A.Text n) e = ap A.Text (cc)
printed-form (A.Best k n a b c d) e = let z : ◌≡◌ {A = ℕ} 0 1 = cc in absurd (omega arith)
printed-form (A.Count k n) e = let z : ◌≡◌ {A = ℕ} 0 1 = cc in absurd (omega arith)
printed-form (A.Did n t) e = let z : ◌≡◌ {A = ℕ} 0 1 = cc in absurd (omega arith)
printed-form A.Nothing e = let z : ◌≡◌ {A = ℕ} 0 1 = cc in absurd (omega arith)

printed-counts : (a : Answer) {m : ℕ} → P.Counts m ≡ printed_by a → (k : ℕ) × (a ≡ A.Count k m)
printed-counts (A.Value v k s) e = let z : ◌≡◌ {A = ℕ} 0 1 = cc in absurd (omega arith)
printed-counts (A.Backup k n) e = let z : ◌≡◌ {A = ℕ} 0 1 = cc in absurd (omega arith)
printed-counts (A.Cut i d n) e = let z : ◌≡◌ {A = ℕ} 0 1 = cc in absurd (omega arith)
printed-counts (A.Reduce n) e = let z : ◌≡◌ {A = ℕ} 0 1 = cc in absurd (omega arith)
printed-counts (A.Refused r line) e = let z : ◌≡◌ {A = ℕ} 0 1 = cc in absurd (omega arith)
printed-counts (A.Show n) e = let z : ◌≡◌ {A = ℕ} 0 1 = cc in absurd (omega arith)
printed-counts (A.Text n) e = let z : ◌≡◌ {A = ℕ} 0 1 = cc in absurd (omega arith)
printed-counts (A.Best k n a b c d) e = let z : ◌≡◌ {A = ℕ} 0 1 = cc in absurd (omega arith)
printed-counts (A.Count k n) e = (k, ap (A.Count k) (cc))
printed-counts (A.Did n t) e = let z : ◌≡◌ {A = ℕ} 0 1 = cc in absurd (omega arith)
printed-counts A.Nothing e = let z : ◌≡◌ {A = ℕ} 0 1 = cc in absurd (omega arith)

printed-line : (ws form table : List ℕ) (a : Answer) → P.Line ≡ printed_by a → answer_bytes ws form table a ≡ answer_line a
unfolding answer_bytes
printed-line ws form table (A.Value v k s) e = refl
printed-line ws form table (A.Backup k n) e = refl
printed-line ws form table (A.Cut i d n) e = refl
printed-line ws form table (A.Reduce n) e = refl
printed-line ws form table (A.Refused r line) e = refl
printed-line ws form table (A.Show n) e = let z : ◌≡◌ {A = ℕ} 0 1 = cc in absurd (omega arith)
printed-line ws form table (A.Text n) e = let z : ◌≡◌ {A = ℕ} 0 1 = cc in absurd (omega arith)
printed-line ws form table (A.Best k n a b c d) e = refl
printed-line ws form table (A.Count k n) e = let z : ◌≡◌ {A = ℕ} 0 1 = cc in absurd (omega arith)
printed-line ws form table (A.Did n t) e = refl
printed-line ws form table A.Nothing e = refl

-- the rows of the value are there
pub form-long : {m : ℕ} {n : Numbers} {names ar value : List ℕ} → Form m n names ar value → n.held.rows * 3 ≡ length (take (n.held.rows * 3) value)
form-long {m} {n} {names} {ar} {value} f = sym (length-take-le (n.held.rows * 3) value f.task.rows)

-- what is put of an answer: its bytes, if there is room; and they are few
abbrev Puts : List ℕ → ℕ → List ℕ → Option ℕ → List ℕ → Type 0
Puts out at b r out' = Placed out at b r out' × (length b ≤ most_bytes)

module _ {a : Answer} {n : Numbers} {names ar value work : List ℕ} (t : Puttable a n names ar value work) {p : Printed} (q : p ≡ printed_by a) where
  as-put : {out out' b : List ℕ} {at : ℕ} {r : Option ℕ} → answer_in a n names ar value work ≡ b → Puts out at b r out' → Puts out at (answer_in a n names ar value work) r out'
  as-put {out} {out'} {b} {at} {r} e x = subst (λ (bs : List ℕ). Puts out at bs r out') (sym e) x

  module _ {m : ℕ} (e : p ≡ P.Rows m) where
    rows_are : a ≡ A.Show m
    rows_are = printed-rows a (sym e ∙ q)

    pub rows-there : m * 3 ≤ length value
    rows-there = t.there m rows_are

    pub put-rows : {out out' : List ℕ} {at : ℕ} {r : Option ℕ} → Placed out at (row_lines value m) r out' × (m ≤ most_rows → length (row_lines value m) ≤ most_bytes)
        → Puts out at (answer_in a n names ar value work) r out'
    unfolding answer_in answer_bytes
    put-rows b = as-put (ap (λ (c : Answer). answer_in c n names ar value work) rows_are) (b.0, b.1 (t.few m rows_are))

  module _ {m : ℕ} (e : p ≡ P.Form m) where
    form-is : a ≡ A.Text m
    form-is = printed-form a (sym e ∙ q)

    pub form-there : Form m n names ar value
    form-there = t.form m form-is

    pub put-form : {out out' : List ℕ} {at : ℕ} {r : Option ℕ} → Placed out at (form_line ar (tables_in n names) (value_in n value)) r out'
        → Puts out at (answer_in a n names ar value work) r out'
    unfolding answer_in answer_bytes
    put-form b =
        let l = line-short ar (tables_in n names) (value_in n value) form-there.fits in
        as-put (ap (λ (c : Answer). answer_in c n names ar value work) form-is) (b, omega (arith, l))

  module _ {m : ℕ} (e : p ≡ P.Counts m) where
    counts-are : (k : ℕ) × (a ≡ A.Count k m)
    counts-are = printed-counts a (sym e ∙ q)

    table-there : (m * 2 ≤ length work) × (m ≤ most_rows)
    table-there = t.table counts-are.0 m counts-are.1

    pub counts-there : m * 2 ≤ length work
    counts-there = table-there.0

    pub put-counts : {out out' : List ℕ} {at : ℕ} {r : Option ℕ} → Placed out at (count_lines work m) r out' × (m ≤ most_rows → length (count_lines work m) ≤ most_bytes)
        → Puts out at (answer_in a n names ar value work) r out'
    unfolding answer_in answer_bytes
    put-counts b = as-put (ap (λ (c : Answer). answer_in c n names ar value work) counts-are.1) (b.0, b.1 table-there.1)

  pub put-line : p ≡ P.Line → {out out' : List ℕ} {at : ℕ} {r : Option ℕ} → Placed out at (answer_line a) r out' × (length (answer_line a) ≤ line_bytes)
      → Puts out at (answer_in a n names ar value work) r out'
  unfolding answer_in
  put-line e b = as-put (printed-line value _ work a (sym e ∙ q)) (b.0, omega (arith, b.1))
