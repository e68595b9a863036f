-- Laws of (value).
use mathlib.Core.Path.{◌≡◌, refl, sym, ap, ap₂, subst, ◌∙◌}
use mathlib.Core.Bool.{Bool, true, false, cond}
use mathlib.Core.List.{List, []}
use Prim.Native.Nat.{ℕ, ◌*◌, ◌^◌}
use native.Mathlib.Omega.{arith}
use lib.ListN.{length, take}
use lib.Seq.{length-take-le}
use Rattle.refusal.specs.declared.Refusal.{Refusal}
use Rattle.refusal.specs.declared.Refusal.TheVariants.{Valuations}
use Rattle.label.specs.Limits.{constant_count}
use Rattle.diagram.specs.Words.{is_listing}
use Rattle.diagram.specs.Listing.{diagram_of}
use Rattle.diagram.specs.Listings.{is-listing-diagram}
use Rattle.state.specs.State.{meaning}
use Rattle.state.specs.Lent.{fact_words, is_state}
use Rattle.minimum.specs.Number.{number}
use Rattle.elimination.specs.Answer.{is_too_large}
use Rattle.fact_index.specs.Inner.{indexed_count, Indexed}
use Rattle.valuing.specs.Walks.{bound_answer}
use Rattle.valuing.proofs.CheckLaws.{lent-some}
use Rattle.refusal.specs.Outcome.{Outcome, ok, refused}
use Rattle.mdp.specs.Model.{scale}
use Rattle.answers.specs.declared.Answer.TheVariants as A
use Rattle.text.specs.declared.Kind.TheVariants as K
use Rattle.session.specs.Session.{Live, Session, refuse_if}
use Rattle.session.specs.Running.{state_in, value_read}
use Rattle.session.specs.Replies.{value_says, done}
use Rattle.facts.specs.Words.{facts_base, index_base, index_words, part, live_of}
use Rattle.facts.specs.WordLaws.{index-all}
use Rattle.memory.specs.declared.Numbers.{Numbers}
use Rattle.memory.specs.Inner.{Ready, Answers}
use Rattle.memory.specs.Memory.{Memory, session_of}
use Rattle.memory.specs.CarriedLaws.{carried_same}
use Rattle.memory.specs.RunLaws.{run-holding}
use Rattle.run_lines.specs.Lines.{ValueTask, ValueAnswered}
use Rattle.std.specs.Prelude.{Err, Ok, Result}

-- ===== What is lent =====

module _ {n : Numbers} {ar state value work : List ℕ} (t : ValueTask n ar state value work) where
  pub rows_long : n.held.rows * 3 ≡ length (take (n.held.rows * 3) value)
  rows_long = sym (length-take-le (n.held.rows * 3) value t.rows)

  pub constants-long : constant_count ≡ length (take constant_count state)
  constants-long = sym (length-take-le constant_count state (omega (arith, t.live.room)))

  -- the facts as they are lent
  module _ {ps : List ℕ} (f : ps ≡ part state facts_base (n.live.facts * fact_words)) where
    pub value_lent : is_state ar n.live.objects (take constant_count state) ps ≡ true
    value_lent = subst (λ (fs : List ℕ). is_state ar n.live.objects (take constant_count state) fs ≡ true) (sym f) t.lent

    pub value-indexed : Indexed ar ps (part state index_base index_words) (indexed_count ps (part state index_base index_words))
    value-indexed =
        subst (λ (fs : List ℕ). Indexed ar fs (part state index_base index_words) (indexed_count fs (part state index_base index_words))) (sym f)
        (index-all t.live (lent-some ar n.live.objects _ _ t.lent) t.indexed)

-- ===== The value call reads the value =====

abbrev valued_as : Outcome ℕ → Result ℕ Refusal
valued_as (ok v) = Ok v
valued_as (refused x) = Err x

-- 15 where it is judged
value-reads : (ar ws : List ℕ) (l : Live) → is_listing ar ws ≡ true
    → bound_answer ar ws l.objects l.constants l.facts [] ≡ valued_as (value_read ar l (diagram_of ws))
unfolding bound_answer value_read state_in
value-reads ar ws l i =
    last (is_too_large ar (state_in ar l) [] ws) (number (state_in ar l) [] (meaning ar (diagram_of ws)))
    ∙ ap (λ (xs : List ℕ). valued_as (refuse_if (is_too_large ar (state_in ar l) [] xs) Valuations (ok (number (state_in ar l) [] (meaning ar (diagram_of ws))))))
    (sym (is-listing-diagram ar ws i))
  where
    last : (d : Bool) (v : ℕ) → cond d (Err Valuations) (Ok v) ≡ valued_as (refuse_if d Valuations (ok v))
    last true v = refl
    last false v = refl

module _ {s : List ℕ} {n : Numbers} {w : Memory} (r : Ready K.Value s n w) where
  lent_reads : {ps : List ℕ} → ps ≡ part w.state facts_base (n.live.facts * fact_words)
      → {q : Result ℕ Refusal} → q ≡ bound_answer w.arities (take (n.held.rows * 3) w.value) n.live.objects (take constant_count w.state) ps []
      → q ≡ valued_as (value_read w.arities (live_of w.state n.live) (diagram_of (take (n.held.rows * 3) w.value)))
  unfolding live_of
  lent_reads e a =
      a
      ∙ ap (λ (fs : List ℕ). bound_answer w.arities (take (n.held.rows * 3) w.value) n.live.objects (take constant_count w.state) fs []) e
      ∙ value-reads w.arities (take (n.held.rows * 3) w.value) (live_of w.state n.live) (run-holding refl r).listing

-- ===== What the line is answered =====

module _ (σ : Session) (number : ℕ) where
  read_answer : (o : Outcome ℕ) {v power : ℕ} → valued_as o ≡ Ok v → power ≡ scale σ.model ^ σ.held.steps
      → A.Value v σ.held.steps power ≡ (value_says σ number o).answer
  read_answer (ok u) {v} e p = let z : v ≡ u = cc in ap₂ (λ (x y : ℕ). A.Value x σ.held.steps y) z p
  read_answer (refused x) e p = let z : ◌≡◌ {A = ℕ} 0 1 = cc in absurd (omega arith)

  unread-answer : (o : Outcome ℕ) {x : Refusal} → valued_as o ≡ Err x → A.Refused x number ≡ (value_says σ number o).answer
  unread-answer (ok v) e = let z : ◌≡◌ {A = ℕ} 0 1 = cc in absurd (omega arith)
  unread-answer (refused y) {x} e = let z : x ≡ y = cc in ap (λ (r : Refusal). A.Refused r number) z

  same-session : (o : Outcome ℕ) → σ ≡ (value_says σ number o).session
  same-session (ok v) = refl
  same-session (refused x) = refl

module _ {s : List ℕ} (number : ℕ) {n : Numbers} {w : Memory} (r : Ready K.Value s n w) {q : Result ℕ Refusal}
    (a : q ≡ valued_as (value_read w.arities (live_of w.state n.live) (diagram_of (take (n.held.rows * 3) w.value)))) where
  abbrev O : Outcome ℕ
  O = value_read w.arities (live_of w.state n.live) (diagram_of (take (n.held.rows * 3) w.value))

  read-answers : {v : ℕ} → q ≡ Ok v → Answers K.Value s number n w (record { numbers = n; answer = A.Value v n.held.steps n.held.power }) w
  unfolding session_of done
  read-answers e = record {
    answer = read_answer (session_of n w) number O (sym a ∙ e) (run-holding refl r).power;
    session = same-session (session_of n w) number O;
    stored = r.stored;
    indexed = r.indexed;
    carried = carried_same n w;
  }

  unread-answers : {x : Refusal} → q ≡ Err x → Answers K.Value s number n w (record { numbers = n; answer = A.Refused x number }) w
  unfolding session_of done
  unread-answers e = record {
    answer = unread-answer (session_of n w) number O (sym a ∙ e);
    session = same-session (session_of n w) number O;
    stored = r.stored;
    indexed = r.indexed;
    carried = carried_same n w;
  }

module _ {number : ℕ} {n : Numbers} {ar state value ps : List ℕ} (f : ps ≡ part state facts_base (n.live.facts * fact_words)) {q : Result ℕ Refusal}
    (a : q ≡ bound_answer ar (take (n.held.rows * 3) value) n.live.objects (take constant_count state) ps []) where
  pub value_read_lem : {v : ℕ} → q ≡ Ok v → ValueAnswered number n ar state value (record { numbers = n; answer = A.Value v n.held.steps n.held.power })
  value_read_lem e = record { says = λ s names listings table r. read-answers number r (lent_reads r f a) e }

  pub value-refused : {x : Refusal} → q ≡ Err x → ValueAnswered number n ar state value (record { numbers = n; answer = A.Refused x number })
  value-refused e = record { says = λ s names listings table r. unread-answers number r (lent_reads r f a) e }
