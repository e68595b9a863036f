-- Laws of the function of any line.
use mathlib.Core.Path.{◌≡◌, refl, sym, ap, subst, ◌∙◌}
use mathlib.Core.Bool.{false}
use mathlib.Core.List.{List, [], ◌∷◌}
use Prim.Native.Nat.{ℕ}
use native.Mathlib.Omega.{arith}
use lib.ListN.{length}
use Rattle.refusal.specs.declared.Refusal.{Refusal}
use Rattle.refusal.specs.Outcome.{Outcome, ok, refused}
use Rattle.text.specs.declared.Kind.{Kind}
use Rattle.text.specs.declared.Kind.TheVariants as K
use Rattle.text.specs.Line.{is_bad, IsLine}
use Rattle.text.specs.LineForm.{line_kind}
use Rattle.answers.specs.declared.Answer.TheVariants as A
use Rattle.session.specs.declared.Part.{Part}
use Rattle.session.specs.declared.Part.TheVariants.{Model, Run}
use Rattle.session.specs.declared.Rule.{Rule}
use Rattle.session.specs.Session.{Session}
use Rattle.session.specs.Place.{rule_of}
use Rattle.session.specs.Replies.{Reply, allowed, done, reply_to, reply, words_of}
use Rattle.session.specs.Texts.{table_of}
use Rattle.session.specs.Good.{GoodSession}
use Rattle.session_laws.proofs.CaseLaws.{reply-line}
use Rattle.session_laws.proofs.BlankLaws.{blank-leaves}
use Rattle.memory.specs.declared.Numbers.{Numbers}
use Rattle.memory.specs.declared.Said.{Said}
use Rattle.memory.specs.Inner.{Ready, Shown, Kept, Replied}
use Rattle.memory.specs.Memory.{Memory, session_of}
use Rattle.memory.specs.CarriedLaws.{carried_same}
use Rattle.lines.specs.Lines.{Performed}
use Rattle.lines.specs.Placing.{placed_as, Counted, Placing}
use Rattle.lines.proofs.KeptLaws.{kept-good}
use Rattle.std.specs.Prelude.{Err, Ok, Result}

-- ===== The place =====

placed-done : (o : Outcome (Unit {0})) → (Ok tt) ≡ placed_as o → o ≡ ok tt
placed-done (ok u) e = refl
placed-done (refused r) e = absurd (let z : ◌≡◌ {A = ℕ} 0 1 = cc in omega arith)

placed-refused : (o : Outcome (Unit {0})) (r : Refusal) → Err r ≡ placed_as o → o ≡ refused r
placed-refused (ok u) r e = absurd (let z : ◌≡◌ {A = ℕ} 0 1 = cc in omega arith)
placed-refused (refused x) r e = cc

-- a line that is none stands nowhere
bad-nowhere : (σ : Session) (p : Part) → allowed σ (rule_of K.Bad p) ≡ ok tt → ⊥
unfolding allowed
bad-nowhere σ Model e = let z : ◌≡◌ {A = ℕ} 0 1 = cc in omega arith
bad-nowhere σ Run e = let z : ◌≡◌ {A = ℕ} 0 1 = cc in omega arith

some-kind : (σ : Session) (k : Kind) (p : Part) → allowed σ (rule_of k p) ≡ ok tt → is_bad k ≡ false
unfolding is_bad
some-kind σ K.Constant p e = refl
some-kind σ K.Predicate p e = refl
some-kind σ K.Total p e = refl
some-kind σ K.Discount p e = refl
some-kind σ K.Reward p e = refl
some-kind σ K.Action p e = refl
some-kind σ K.Variant p e = refl
some-kind σ K.Becomes p e = refl
some-kind σ K.Start p e = refl
some-kind σ K.Objects p e = refl
some-kind σ K.Is p e = refl
some-kind σ K.True p e = refl
some-kind σ K.Value p e = refl
some-kind σ K.Backup p e = refl
some-kind σ K.Cut p e = refl
some-kind σ K.Show p e = refl
some-kind σ K.Reduce p e = refl
some-kind σ K.Text p e = refl
some-kind σ K.Best p e = refl
some-kind σ K.Count p e = refl
some-kind σ K.Did p e = refl
some-kind σ K.Bad p e = absurd (bad-nowhere σ p e)

-- ===== The answer =====

-- table and state of a session
pub kept-counted : {n : Numbers} {w : Memory} → Kept n w → Counted n w.table w.state
kept-counted k =
    let s = k.stored in
    record {
      table-room = s.building.spanned.room;
      actions = s.building.spanned.few;
      state-room = s.live.room;
      constants = s.vocabulary.names.constants;
    }

module _ (σ : Session) (number : ℕ) (s : List ℕ) (b : length s ≡ 0 → ⊥) where
  reply-done : allowed σ (rule_of (line_kind s) σ.part) ≡ ok tt → reply σ number s ≡ done σ number (line_kind s) (words_of (line_kind s) s)
  unfolding reply_to
  reply-done e = reply-line σ number s b ∙ rw e

  reply-refused : (r : Refusal) → allowed σ (rule_of (line_kind s) σ.part) ≡ refused r → reply σ number s ≡ record { session = σ; answer = A.Refused r number }
  unfolding reply_to
  reply-refused r e = reply-line σ number s b ∙ rw e

-- a blank line
pub answer-blank : {n : Numbers} {w : Memory} → Kept n w → (s : List ℕ) (number : ℕ) → length s ≡ 0 → {work : List ℕ}
    → Replied s number n w (record { numbers = n; answer = A.Nothing }) w work
unfolding table_of
answer-blank {n} {w} h [] number e {work} =
    let y = sym (blank-leaves (session_of n w) number) in
    record {
      answer = ap (λ (t : Reply). t.answer) y;
      session = ap (λ (t : Reply). t.session) y;
      kept = h;
      shown = subst (λ (t : Reply). Shown t work) y refl;
      carried = carried_same n w;
    }
answer-blank h (b ∷ s) number e = absurd (omega arith)

place-told : (σ : Session) (k : Kind) (q : Part) {rule : Rule} {p : Result (Unit {0}) Refusal} → rule ≡ rule_of k q → p ≡ placed_as (allowed σ rule) → p ≡ placed_as (allowed σ (rule_of k q))
place-told σ k q e h = h ∙ ap (λ x. placed_as (allowed σ x)) e

place_ok : (σ : Session) (k : Kind) (q : Part) {rule : Rule} {p : Result (Unit {0}) Refusal} → rule ≡ rule_of k q → p ≡ placed_as (allowed σ rule) → p ≡ Ok tt → allowed σ (rule_of k q) ≡ ok tt
place_ok σ k q e h d = placed-done (allowed σ (rule_of k q)) (sym d ∙ place-told σ k q e h)

module _ {n : Numbers} {w : Memory} {k : Kind} {rule : Rule} {p : Result (Unit {0}) Refusal} (h : Kept n w) (b : rule ≡ rule_of k n.part) (c : Placing rule n w.table w.state p) where
  pub answer-ready : {s : List ℕ} → IsLine s k → p ≡ Ok tt → Ready k s n w
  answer-ready l e =
      let x = place_ok (session_of n w) k n.part b (c.is w.names w.arities w.listings w.value) e in
      let t = l.written (some-kind (session_of n w) k n.part x) in
      record { line = record { words = t.0; good = t.1; bytes = t.2 }; stored = h.stored; good = h.good; indexed = h.indexed; place = x }

  pub answer-refused : (s : List ℕ) (number : ℕ) {r : Refusal} → (length s ≡ 0 → ⊥) → k ≡ line_kind s → p ≡ Err r
      → {work : List ℕ} → Replied s number n w (record { numbers = n; answer = A.Refused r number }) w work
  unfolding session_of table_of
  answer-refused s number {r} o a e {work} =
      let σ = session_of n w in
      let x = placed-refused (allowed σ (rule_of k n.part)) r (sym e ∙ place-told σ k n.part b (c.is w.names w.arities w.listings w.value)) in
      let y = sym (reply-refused σ number s o r (subst (λ (z : Kind). allowed σ (rule_of z n.part) ≡ refused r) a x)) in
      record {
        answer = ap (λ t. t.answer) y;
        session = ap (λ t. t.session) y;
        kept = h;
        shown = subst (λ (t : Reply). Shown t work) y refl;
        carried = carried_same n w;
      }

  pub answer-done : {s : List ℕ} {number : ℕ} {r : Said} {w' : Memory} {work' : List ℕ} → (length s ≡ 0 → ⊥) → k ≡ line_kind s → p ≡ (Ok tt)
      → Performed k s number n w r w' work' → Replied s number n w r w' work'
  unfolding session_of
  answer-done {s} {number} {r} {w'} {work'} o a e f =
      let d = f.answers in
      let σ = session_of n w in
      let x = place_ok σ k n.part b (c.is w.names w.arities w.listings w.value) e in
      let y = sym (reply-done σ number s o (subst (λ (z : Kind). allowed σ (rule_of z n.part) ≡ ok tt) a x)) in
      let z = ap (λ x. done σ number x (words_of x s)) a ∙ y in
      let m = d.session ∙ ap (λ t. t.session) z in
      record {
        answer = d.answer ∙ ap (λ t. t.answer) z;
        session = m;
        kept = record { stored = d.stored; good = subst GoodSession (sym m) (kept-good n w h number s); indexed = d.indexed };
        shown = subst (λ (t : Reply). Shown t work') z f.shown;
        carried = d.carried;
      }
