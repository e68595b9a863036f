-- What is shown of the reply to a line by cases: it is refused, or it is accepted as a line of its kind.
use Rattle.std.specs.Prelude.{◌≡◌, List, [], ◌∷◌, ℕ, ◌^◌, length, drop}
use Rattle.std.proofs.Math.Path.{refl}
use Rattle.std.proofs.Common.{ap}
use Rattle.refusal.specs.declared.Refusal.{Refusal}
use Rattle.refusal.specs.declared.Refusal.TheVariants.{Form}
use Rattle.diagram.specs.Rows.{rows}
use Rattle.refusal.specs.Outcome.{Outcome, ok, refused}
use Rattle.cutting.specs.declared.Edge.{Edge}
use Rattle.cutting.specs.declared.Cut.{Cut}
use Rattle.cutting.specs.declared.Cut.TheVariants as C
use Rattle.cutting.specs.Cut.{diagram_answer}
use Rattle.mdp.specs.Model.{scale}
use Rattle.mdp.specs.Runs.{a_backup, a_cut, a_reduce, Held, leaves, held_with, call}
use Rattle.best.specs.Moves.{Move}
use Rattle.spread.specs.Spread.{Entry}
use Rattle.text.specs.declared.Kind.{Kind}
use Rattle.text.specs.declared.Kind.TheVariants as K
use Rattle.text.specs.LineForm.{line_kind}
use Rattle.events.specs.declared.Event.{Event}
use Rattle.events.specs.Contents.{key_in, number_in, word_at, keys_in, numbers_in}
use Rattle.answers.specs.declared.Answer.TheVariants as A
use Rattle.session.specs.Place.{rule_of}
use Rattle.session.specs.Session.{Names, Live, Session, with_names, with_live, with_held}
use Rattle.session.specs.Declaring.{constant_line, Vocabulary, predicate_line, with_vocabulary, total_line, with_total, discount_line, with_discount, action_line, with_action}
use Rattle.session.specs.Facts.{objects_line, is_line, true_line}
use Rattle.session.specs.ModelLines.{reward_line, variant_line, becomes_line}
use Rattle.session.specs.Running.{start_line, value_read, backup_is, cut_is, reduce_is, form_read, best_read, best_is, count_read}
use Rattle.session.specs.Replies.{Reply, refusal, silent, answered, call_says, allowed, done, at_place, reply_to, words_of, reply}
use Rattle.session_laws.specs.LineAnswers.{did_read}

abbrev pub vocabulary_of : Session → Vocabulary
vocabulary_of σ = record { names = σ.names; arities = σ.model.arities }

-- P holds of a refusal, and of what an accepted line of each kind with the words es is answered
pub record Cases (σ : Session) (number : ℕ) (es : List Event) (P : Kind → Reply → Type 0) : Type 0 where
  pub refusing : (k : Kind) (r : Refusal) → P k (refusal σ number r)
  pub for_constant : (n : Names) → constant_line σ.names (key_in (word_at es 0)) ≡ ok n → P K.Constant (silent (with_names σ n))
  pub for_predicate : (v : Vocabulary) → predicate_line (vocabulary_of σ) (key_in (word_at es 0)) (number_in (word_at es 1)) ≡ ok v → P K.Predicate (silent (with_vocabulary σ v))
  pub for_total : (w : ℕ) → total_line (number_in (word_at es 0)) ≡ ok w → P K.Total (silent (with_total σ w))
  pub for_discount : (q : ℕ × ℕ) → discount_line (number_in (word_at es 0)) (number_in (word_at es 1)) ≡ ok q → P K.Discount (silent (with_discount σ q))
  pub for_reward : (τ : Session) → reward_line σ es ≡ ok τ → P K.Reward (silent τ)
  pub for_action : (n : Names) → action_line σ.names (key_in (word_at es 0)) (keys_in (drop 1 es)) ≡ ok n → P K.Action (silent (with_action σ n))
  pub for_variant : (τ : Session) → variant_line σ (key_in (word_at es 0)) (drop 1 es) ≡ ok τ → P K.Variant (silent τ)
  pub for_becomes : (τ : Session) → becomes_line σ es ≡ ok τ → P K.Becomes (silent τ)
  pub for_start : (τ : Session) → start_line σ ≡ ok τ → P K.Start (silent τ)
  pub for_objects : (l : Live) → objects_line (number_in (word_at es 0)) ≡ ok l → P K.Objects (silent (with_live σ l))
  pub for_is : (l : Live) → is_line σ.names σ.live (key_in (word_at es 0)) (number_in (word_at es 1)) ≡ ok l → P K.Is (silent (with_live σ l))
  pub for_true : (l : Live) → true_line σ.model.arities σ.names σ.live (key_in (word_at es 0)) (numbers_in (drop 1 es)) ≡ ok l → P K.True (silent (with_live σ l))
  pub for_value : (v : ℕ) → value_read σ.model.arities σ.live σ.held.diagram ≡ ok v
      → P K.Value (record { session = σ; answer = A.Value v σ.held.steps (scale σ.model ^ σ.held.steps) })
  pub for_backup : (h : Held) → call σ.model a_backup σ.held ≡ ok h → P K.Backup (record { session = with_held σ σ.part h; answer = backup_is h })
  pub for_cut : (h : Held) (row : ℕ) (edge : Edge) (left : ℕ) → call σ.model a_cut σ.held ≡ ok h
      → diagram_answer σ.model.arities σ.held.diagram ≡ C.Done row edge left → P K.Cut (record { session = with_held σ σ.part h; answer = A.Cut row edge left })
  pub for_reduce : (h : Held) → call σ.model a_reduce σ.held ≡ ok h → P K.Reduce (record { session = with_held σ σ.part h; answer = reduce_is h })
  pub for_show : P K.Show (record { session = σ; answer = A.Show (length (rows σ.held.diagram)) })
  pub for_text : (n : ℕ) → form_read σ.model.arities σ.names σ.held.diagram ≡ ok n → P K.Text (record { session = σ; answer = A.Text n })
  pub for_best : (x : Move) → best_read σ.model σ.live σ.held.diagram ≡ ok x → P K.Best (record { session = σ; answer = best_is σ.names x })
  pub for_count : (l : List Entry) → count_read σ.model σ.names σ.live σ.held.diagram (number_in (word_at es 0)) ≡ ok l
      → P K.Count (record { session = σ; answer = A.Count (number_in (word_at es 0)) (length l) })
  pub for_did : (l : Live) → did_read σ es ≡ ok l → P K.Did (record { session = with_live σ l; answer = A.Did l.count l.total })

-- ===== By the outcome of a line =====

module _ (σ : Session) (number : ℕ) (P : Reply → Type 0) (r : (t : Refusal) → P (refusal σ number t)) where
  answered-by : {A : Type 0} {f : A → Reply} (o : Outcome A) → ((a : A) → o ≡ ok a → P (f a)) → P (answered σ number f o)
  answered-by (ok a) h = h a refl
  answered-by (refused t) h = r t

  pub placed_by : (o : Outcome (Unit {0})) (y : Reply) → (o ≡ ok tt → P y) → P (at_place σ number o y)
  placed_by o y h = answered-by {f = λ u. y} o (λ u e. h e)

-- ===== By the kind of a line =====

module _ (σ : Session) (number : ℕ) (es : List Event) (P : Kind → Reply → Type 0) (c : Cases σ number es P) where
  by : {A : Type 0} {f : A → Reply} {o : Outcome A} (k : Kind) → ((a : A) → o ≡ ok a → P k (f a)) → P k (answered σ number f o)
  by {o = o} k h = answered-by σ number (P k) (c.refusing k) o h

  -- a cut by its own answer
  cut_by : (q : Cut) → diagram_answer σ.model.arities σ.held.diagram ≡ q
      → P K.Cut (call_says σ number (λ h. cut_is q) (held_with σ.held.steps (leaves σ.model.arities σ.held.diagram q)))
  unfolding call
  cut_by (C.Done row edge left) e = c.for_cut _ row edge left (ap (λ (q : Cut). held_with σ.held.steps (leaves σ.model.arities σ.held.diagram q)) e) e
  cut_by (C.Refused r) e = c.refusing K.Cut r

  pub done-by : (k : Kind) → P k (done σ number k es)
  unfolding done
  done-by K.Constant = by K.Constant c.for_constant
  done-by K.Predicate = by K.Predicate c.for_predicate
  done-by K.Total = by K.Total c.for_total
  done-by K.Discount = by K.Discount c.for_discount
  done-by K.Reward = by K.Reward c.for_reward
  done-by K.Action = by K.Action c.for_action
  done-by K.Variant = by K.Variant c.for_variant
  done-by K.Becomes = by K.Becomes c.for_becomes
  done-by K.Start = by K.Start c.for_start
  done-by K.Objects = by K.Objects c.for_objects
  done-by K.Is = by K.Is c.for_is
  done-by K.True = by K.True c.for_true
  done-by K.Value = by K.Value c.for_value
  done-by K.Backup = by K.Backup c.for_backup
  done-by K.Cut = cut_by (diagram_answer σ.model.arities σ.held.diagram) refl
  done-by K.Show = c.for_show
  done-by K.Reduce = by K.Reduce c.for_reduce
  done-by K.Text = by K.Text c.for_text
  done-by K.Best = by K.Best c.for_best
  done-by K.Count = by K.Count c.for_count
  done-by K.Did = by K.Did c.for_did
  done-by K.Bad = c.refusing K.Bad Form

-- a line in bytes: blank, refused for its place, or done
pub reply-by : (σ : Session) (number : ℕ) (s : List ℕ) (P : Kind → Reply → Type 0)
    → (s ≡ [] → P (line_kind s) (silent σ))
    → ((r : Refusal) → P (line_kind s) (refusal σ number r))
    → (allowed σ (rule_of (line_kind s) σ.part) ≡ ok tt → P (line_kind s) (done σ number (line_kind s) (words_of (line_kind s) s)))
    → P (line_kind s) (reply σ number s)
unfolding reply reply_to
reply-by σ number [] P b r h = b refl
reply-by σ number (c ∷ s) P b r h =
    let k = line_kind (c ∷ s) in
    placed_by σ number (P k) r (allowed σ (rule_of k σ.part)) (done σ number k (words_of k (c ∷ s))) h

-- a line with bytes is answered by its kind and words
pub reply-line : (σ : Session) (number : ℕ) (s : List ℕ) → (length s ≡ 0 → ⊥) → reply σ number s ≡ reply_to σ number (line_kind s) (words_of (line_kind s) s)
unfolding reply
reply-line σ number [] h = absurd (h refl)
reply-line σ number (c ∷ s) h = refl
