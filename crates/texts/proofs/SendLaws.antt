-- Laws of a line answered in lent words: its answer's bytes are those of the reply.
use mathlib.Core.Path.{◌≡◌, sym, ap, ap₂, subst, ◌∙◌}
use mathlib.Core.Bool.{true}
use mathlib.Core.List.{List}
use Prim.Native.Nat.{ℕ, ◌*◌, ◌≤◌}
use native.Mathlib.Omega.{arith}
use lib.ListN.{length, take}
use Rattle.diagram.specs.Rows.{rows}
use Rattle.diagram.specs.Sizes.{most_rows}
use Rattle.diagram.specs.Words.{is_listing}
use Rattle.diagram.specs.Listing.{listing, diagram_of}
use Rattle.diagram.specs.Listings.{is-listing-diagram, is-listing-good}
use Rattle.diagram_form.specs.Form.{is_too_long}
use Rattle.diagram_form.proofs.FormLaws.{form-length}
use Rattle.answers.specs.declared.Answer.{Answer}
use Rattle.answers.specs.declared.Answer.TheVariants.{Show, Text, Count}
use Rattle.answers.specs.Answers.{row_lines, count_lines, answer_bytes}
use Rattle.answers.specs.Inner.{Placed}
use Rattle.answers.specs.Writing.{most_bytes}
use Rattle.session.specs.declared.Part.TheVariants.{Run}
use Rattle.session.specs.Session.{Session}
use Rattle.session.specs.Running as running
use Rattle.session.specs.Replies.{reply}
use Rattle.session.specs.Texts.{value_form, table_of, reply_bytes}
use Rattle.session_laws.proofs.PrintLaws.{reply-shows, reply-prints, reply-counts}
use Rattle.memory.specs.declared.Numbers.{Numbers}
use Rattle.memory.specs.declared.Said.{Said}
use Rattle.memory.specs.Inner.{Kept, Replied}
use Rattle.memory.specs.Memory.{Memory, session_of}
use Rattle.run_lines.specs.ReadyLaws.{stored-text}
use Rattle.texts.specs.Putting.{tables_in, value_in, answer_in, Form, Puttable}
use Rattle.texts.specs.ShowLaws.{rows-begin, counts-begin, begins, answers-same, held-count}
use Rattle.texts.specs.Inner.{Sends}
use Rattle.std.specs.Prelude.{Option}

-- the rows to be shown are the listing that the words hold
record Held (r : Said) (w : Memory) (m : ℕ) : Type 0 where
  count : m ≡ r.numbers.held.rows
  listed : is_listing w.arities (take (r.numbers.held.rows * 3) w.value) ≡ true
  few : m ≤ most_rows
  room : r.numbers.held.rows * 3 ≤ length w.value

-- the words of a spread of m lines begin the working space
record Begun (table work : List ℕ) (m : ℕ) : Type 0 where
  room : m * 2 ≤ length work
  few : m ≤ most_rows
  same : count_lines table m ≡ count_lines work m

module _ {s : List ℕ} {number : ℕ} {n : Numbers} {w : Memory} (good : Kept n w) {r : Said} {w' : Memory} {work : List ℕ} (x : Replied s number n w r w' work) where
  held-shown : (m : ℕ) → r.answer ≡ Show m → Held r w' m
  unfolding session_of
  held-shown m h =
      let v = reply-shows (session_of n w) number s m (sym x.answer ∙ h) in
      let q : session_of r.numbers w' ≡ session_of n w = x.session ∙ v.session in
      let g = x.kept.stored in
      let p : r.numbers.part ≡ Run = ap (λ (σ : Session). σ.part) q ∙ v.run in
      let l = (g.holding p).listing in
      let e : m ≡ length (rows (diagram_of (take (r.numbers.held.rows * 3) w'.value))) =
      v.count ∙ ap (λ (σ : Session). length (rows σ.held.diagram)) (sym q) in
      record {
        count = e ∙ held-count w'.arities w'.value r.numbers.held.rows l g.value-rows;
        listed = l;
        few = omega (arith, e, (is-listing-good w'.arities (take (r.numbers.held.rows * 3) w'.value) l).few);
        room = g.value-rows;
      }

  -- the form to be printed is that of the value that the words hold
  form-printed : (m : ℕ) → r.answer ≡ Text m → Form m r.numbers w'.names w'.arities w'.value
  unfolding session_of value_form
  form-printed m h =
      let v = reply-prints (session_of n w) number s m (sym x.answer ∙ h) in
      let q : session_of r.numbers w' ≡ session_of n w = x.session ∙ v.session in
      record {
        task = stored-text x.kept.stored (ap (λ (σ : Session). σ.part) q ∙ v.run);
        count =
            v.count ∙ ap (λ (σ : Session). length (value_form σ)) (sym q)
            ∙ form-length w'.arities (tables_in r.numbers w'.names) (value_in r.numbers w'.value);
        fits = ap (λ (σ : Session). is_too_long σ.model.arities (running.tables_in σ.names) σ.held.diagram) q ∙ v.fits;
      }

  -- the lines to be printed are those of the spread in front of the working space
  spread-begun : (k m : ℕ) → r.answer ≡ Count k m → Begun (table_of (session_of r.numbers w') r.answer) work m
  spread-begun k m h =
      let y = reply (session_of n w) number s in
      let a : y.answer ≡ Count k m = sym x.answer ∙ h in
      let v = reply-counts (session_of n w) good.good number s k m a in
      let table : List ℕ = table_of y.session y.answer in
      let count : length table ≡ m * 2 = ap₂ (λ (σ : Session) (b : Answer). length (table_of σ b)) v.session a ∙ v.table in
      let same : table_of (session_of r.numbers w') r.answer ≡ table = ap₂ table_of x.session x.answer in
      record {
        room = omega (arith, begins work table x.shown, count);
        few = omega (arith, v.few);
        same = ap (λ (us : List ℕ). count_lines us m) (same ∙ sym x.shown) ∙ counts-begin (length table) work m (omega (arith, count));
      }

  pub sent-puttable : Puttable r.answer r.numbers w'.names w'.arities w'.value work
  sent-puttable = record {
    there = λ m h. let v = held-shown m h in omega (arith, v.count, v.room);
    few = λ m h. (held-shown m h).few;
    form = form-printed;
    table = λ k m h. let v = spread-begun k m h in (v.room, v.few);
  }

  sent-bytes : reply_bytes (reply (session_of n w) number s) ≡ answer_in r.answer r.numbers w'.names w'.arities w'.value work
  unfolding reply_bytes session_of value_form answer_in
  sent-bytes =
      let ws : List ℕ = take (r.numbers.held.rows * 3) w'.value in
      sym (λ i. answer_bytes (listing (x.session i).held.diagram) (value_form (x.session i)) (table_of (x.session i) (x.answer i)) (x.answer i))
      ∙ answers-same (listing (diagram_of ws)) w'.value _ (table_of (session_of r.numbers w') r.answer) work r.answer
      (λ m h.
      let v = held-shown m h in
      ap (λ (vs : List ℕ). row_lines vs m) (is-listing-diagram w'.arities ws v.listed)
      ∙ rows-begin (r.numbers.held.rows * 3) w'.value m (omega (arith, v.count)))
      (λ k m h. (spread-begun k m h).same)

  pub sent : {put : Option ℕ} {out out' : List ℕ} {place : ℕ}
      → Placed out place (answer_in r.answer r.numbers w'.names w'.arities w'.value work) put out'
      × (length (answer_in r.answer r.numbers w'.names w'.arities w'.value work) ≤ most_bytes)
      → Sends s number n w out place (record { numbers = r.numbers; put = put }) w' out'
  sent {put} {out} {out'} {place} p = record {
    session = x.session;
    kept = x.kept;
    placed = subst (λ (b : List ℕ). Placed out place b put out') (sym sent-bytes) p.0;
    short = omega (arith, ap length sent-bytes, p.1);
    carried = x.carried;
  }
