-- Laws of (text).
use mathlib.Core.Path.{◌≡◌, refl, sym, ap, ◌∙◌}
use mathlib.Core.Bool.{Bool, true, false, cond}
use mathlib.Core.List.{List}
use Prim.Native.Nat.{ℕ, ◌*◌}
use native.Mathlib.Omega.{arith}
use lib.ListN.{length, take}
use lib.Seq.{length-take-le}
use Rattle.refusal.specs.declared.Refusal.TheVariants.{Length}
use Rattle.refusal.specs.Outcome.{ok}
use Rattle.diagram.specs.Diagram.{Diagram}
use Rattle.diagram.specs.Listing.{diagram_of}
use Rattle.diagram_form.specs.Form.{Tables, form_length, is_too_long}
use Rattle.spelling.specs.Spelling.{tables_at, measured}
use Rattle.answers.specs.declared.Answer.TheVariants as A
use Rattle.text.specs.declared.Kind.TheVariants as K
use Rattle.session.specs.Session.{Session, refuse_if}
use Rattle.session.specs.Running.{form_read}
use Rattle.session.specs.Replies.{text_says, done}
use Rattle.memory.specs.declared.Numbers.{Numbers}
use Rattle.memory.specs.Inner.{Ready, Answers}
use Rattle.memory.specs.Memory.{Memory, session_of}
use Rattle.memory.specs.CarriedLaws.{carried_same}
use Rattle.run_lines.specs.Lines.{TextTask, TextAnswered}
use Rattle.std.specs.Prelude.{None, Option, Some}

-- the rows that are lent are there
pub text-long : {n : Numbers} {names arities value : List ℕ} → TextTask n names arities value → n.held.rows * 3 ≡ length (take (n.held.rows * 3) value)
text-long {n} {names} {arities} {value} t = sym (length-take-le (n.held.rows * 3) value t.rows)

-- ===== What the line is answered, by what is measured of a form of k bytes =====

module _ (σ : Session) (number k : ℕ) where
  bytes-says : (b : Bool) {m : ℕ} → cond b None (Some k) ≡ Some m → A.Text m ≡ (text_says σ number (refuse_if b Length (ok k))).answer
  bytes-says true e = let z : ◌≡◌ {A = ℕ} 0 1 = cc in absurd (omega arith)
  bytes-says false e = ap A.Text (cc)

  long-says : (b : Bool) → cond b None (Some k) ≡ None → A.Refused Length number ≡ (text_says σ number (refuse_if b Length (ok k))).answer
  long-says true e = refl
  long-says false e = let z : ◌≡◌ {A = ℕ} 0 1 = cc in absurd (omega arith)

  same-session : (b : Bool) → σ ≡ (text_says σ number (refuse_if b Length (ok k))).session
  same-session true = refl
  same-session false = refl

-- ===== The session behind it =====

module _ {s : List ℕ} (number : ℕ) {n : Numbers} {w : Memory} (r : Ready K.Text s n w) {q : Option ℕ}
    (a : q ≡ measured w.arities (tables_at w.names n.counts.constants n.counts.predicates) (diagram_of (take (n.held.rows * 3) w.value))) where
  abbrev T : Tables
  T = tables_at w.names n.counts.constants n.counts.predicates

  abbrev D : Diagram
  D = diagram_of (take (n.held.rows * 3) w.value)

  bytes-answers : {m : ℕ} → q ≡ Some m → Answers K.Text s number n w (record { numbers = n; answer = A.Text m }) w
  unfolding session_of done form_read measured
  bytes-answers d = record {
    answer = bytes-says (session_of n w) number (form_length w.arities T D) (is_too_long w.arities T D) (sym a ∙ d);
    session = same-session (session_of n w) number (form_length w.arities T D) (is_too_long w.arities T D);
    stored = r.stored;
    indexed = r.indexed;
    carried = carried_same n w;
  }

  long-answers : q ≡ None → Answers K.Text s number n w (record { numbers = n; answer = A.Refused Length number }) w
  unfolding session_of done form_read measured
  long-answers d = record {
    answer = long-says (session_of n w) number (form_length w.arities T D) (is_too_long w.arities T D) (sym a ∙ d);
    session = same-session (session_of n w) number (form_length w.arities T D) (is_too_long w.arities T D);
    stored = r.stored;
    indexed = r.indexed;
    carried = carried_same n w;
  }

module _ {number : ℕ} {n : Numbers} {names ar value : List ℕ} {q : Option ℕ}
    (a : q ≡ measured ar (tables_at names n.counts.constants n.counts.predicates) (diagram_of (take (n.held.rows * 3) value))) where
  pub text-bytes : {m : ℕ} → q ≡ Some m → TextAnswered number n names ar value (record { numbers = n; answer = A.Text m })
  text-bytes d = record { says = λ s listings table state r. bytes-answers number r a d }

  pub text-refused : q ≡ None → TextAnswered number n names ar value (record { numbers = n; answer = A.Refused Length number })
  text-refused d = record { says = λ s listings table state r. long-answers number r a d }
