-- The reply to (best), by what it finds: the part of the text, the state in hand, the move or what refuses it (document 02, L9).
use Rattle.std.specs.Prelude.{◌≡◌, refl, Bool, true, false, not, List, [], ℕ}
use Rattle.std.proofs.Common.{sym, ◌∙◌, subst, arith}
use Rattle.std.proofs.Math.Path.{ap}
use Rattle.basics.specs.Tests.{Flag, is_true, is_false, flag}
use Rattle.refusal.specs.declared.Refusal.{Refusal}
use Rattle.refusal.specs.declared.Refusal.TheVariants.{Place, Missing, Scale, Valuations}
use Rattle.refusal.specs.Outcome.{Outcome, ok, refused}
use Rattle.diagram.specs.Diagram.{Diagram}
use Rattle.diagram.specs.Listing.{listing}
use Rattle.state.specs.State.{meaning}
use Rattle.minimum.specs.Number.{number}
use Rattle.elimination.specs.Answer.{is_too_large}
use Rattle.mdp.specs.Model.{Every}
use Rattle.best.specs.Moves.{Move}
use Rattle.best.specs.Inner.{Passes}
use Rattle.best.proofs.RefusalLaws.{stopped-refused, refused-stopped, passes-answered, answered-passes}
use Rattle.best.proofs.NumberLaws.{best-not-scale}
use Rattle.text.specs.declared.Kind.{Kind}
use Rattle.text.specs.declared.Kind.TheVariants as K
use Rattle.text.specs.Line.{is_bad}
use Rattle.text.specs.Line.Line.{line}
use Rattle.text.specs.LineForm.{line_kind}
use Rattle.text.specs.LineLaws.{line-complete, line-sound}
use Rattle.words.specs.declared.Key.{Key}
use Rattle.answers.specs.declared.Answer.TheVariants as A
use Rattle.session.specs.declared.Part.{Part}
use Rattle.session.specs.declared.Part.TheVariants.{Model as ModelPart, Run}
use Rattle.session.specs.Place.{rule_of}
use Rattle.session.specs.Session.{Live, Session, refuse_if}
use Rattle.session.specs.Running.{state_in, best_read, best_is, value_read}
use Rattle.session.specs.Replies.{Reply, is_placed, allowed, unless, refusal, best_says, value_says, done, at_place, reply_to, words_of, reply}
use Rattle.session_laws.specs.LineAnswers.{value_line}
use Rattle.text_moves.specs.Inner.{RefusesBest, in-model, missing, stopping}
use Rattle.text_moves.specs.Claims.{best_line, backup_line, in_hand}

-- ===== The line =====

-- no other bytes are a (best) line
pub best-only : (s : List ℕ) → line_kind s ≡ K.Best → s ≡ best_line
unfolding is_bad
best-only s e = (line-sound s K.Best e refl).2

pub best-kind : line_kind best_line ≡ K.Best
best-kind = line-complete (line K.Best tt) (tt, omega arith, omega arith)

pub backup-kind : line_kind backup_line ≡ K.Backup
backup-kind = line-complete (line K.Backup tt) (tt, omega arith, omega arith)

value-kind : line_kind value_line ≡ K.Value
value-kind = line-complete (line K.Value tt) (tt, omega arith, omega arith)

-- a value that is read and refused is 15
value-large : (ar : List ℕ) (l : Live) (d : Diagram) (r : Refusal) → value_read ar l d ≡ refused r → r ≡ Valuations
unfolding value_read
value-large ar l d r e = go (is_too_large ar (state_in ar l) [] (listing d)) e
  where
    go : (b : Bool) → refuse_if b Valuations (ok (number (state_in ar l) [] (meaning ar d))) ≡ refused r → r ≡ Valuations
    go true f = cc
    go false f = let z : ◌≡◌ {A = ℕ} 0 1 = cc in absurd (omega arith)

module _ (σ : Session) (number : ℕ) where
  best-reply : reply σ number best_line ≡ at_place σ number (allowed σ (rule_of K.Best σ.part)) (best_says σ number (best_read σ.model σ.live σ.held.diagram))
  unfolding reply reply_to done
  best-reply = ap (λ (k : Kind). reply_to σ number k (words_of k best_line)) best-kind

  value-reply : reply σ number value_line ≡ at_place σ number (allowed σ (rule_of K.Value σ.part)) (value_says σ number (value_read σ.model.arities σ.live σ.held.diagram))
  unfolding reply reply_to done
  value-reply = ap (λ (k : Kind). reply_to σ number k (words_of k value_line)) value-kind

  best-at : (o : Outcome (Unit {0})) → allowed σ (rule_of K.Best σ.part) ≡ o
      → reply σ number best_line ≡ at_place σ number o (best_says σ number (best_read σ.model σ.live σ.held.diagram))
  best-at o e = best-reply ∙ ap (λ (u : Outcome (Unit {0})). at_place σ number u (best_says σ number (best_read σ.model σ.live σ.held.diagram))) e

  value-at : (o : Outcome (Unit {0})) → allowed σ (rule_of K.Value σ.part) ≡ o
      → reply σ number value_line ≡ at_place σ number o (value_says σ number (value_read σ.model.arities σ.live σ.held.diagram))
  value-at o e = value-reply ∙ ap (λ (u : Outcome (Unit {0})). at_place σ number u (value_says σ number (value_read σ.model.arities σ.live σ.held.diagram))) e

  -- ===== Its place =====

  allowed-model : σ.part ≡ ModelPart → allowed σ (rule_of K.Best σ.part) ≡ refused Place
  unfolding allowed
  allowed-model p = ap (λ (q : Part). allowed σ (rule_of K.Best q)) p

  allowed-run : (b : Bool) → σ.part ≡ Run → is_placed σ ≡ b → allowed σ (rule_of K.Best σ.part) ≡ refuse_if (not b) Missing (ok tt)
  unfolding allowed
  allowed-run b p e = ap (λ (q : Part). allowed σ (rule_of K.Best q)) p ∙ ap (λ (c : Bool). refuse_if (not c) Missing (ok tt)) e

  value-run : (b : Bool) → σ.part ≡ Run → is_placed σ ≡ b → allowed σ (rule_of K.Value σ.part) ≡ unless (not b)
  unfolding allowed
  value-run b p e = ap (λ (q : Part). allowed σ (rule_of K.Value q)) p ∙ ap (λ (c : Bool). unless (not c)) e

  -- ===== What it answers =====

  pub in-model-refused : σ.part ≡ ModelPart → reply σ number best_line ≡ refusal σ number Place
  in-model-refused p = best-at (refused Place) (allowed-model p)

  pub missing-refused : σ.part ≡ Run → is_placed σ ≡ false → reply σ number best_line ≡ refusal σ number Missing
  missing-refused p e = best-at (refused Missing) (allowed-run false p e)

  -- (value) is answered 5 there
  pub unplaced-value : σ.part ≡ Run → is_placed σ ≡ false → reply σ number value_line ≡ refusal σ number Place
  unplaced-value p e = value-at (refused Place) (value-run false p e)

  -- and nowhere else in the run
  pub value-unplaced : σ.part ≡ Run → reply σ number value_line ≡ refusal σ number Place → is_placed σ ≡ false
  value-unplaced p e = go (flag (is_placed σ))
    where
      go : Flag (is_placed σ) → is_placed σ ≡ false
      go (is_false d) = d
      go (is_true d) = absurd (said (value_read σ.model.arities σ.live σ.held.diagram) refl (sym (value-at (ok tt) (value-run true p d)) ∙ e))
        where
          said : (o : Outcome ℕ) → value_read σ.model.arities σ.live σ.held.diagram ≡ o → value_says σ number o ≡ refusal σ number Place → ⊥
          said (ok v) f g = let a = ap (λ (y : Reply). y.answer) g in let z : ◌≡◌ {A = ℕ} 0 1 = cc in omega arith
          said (refused r) f g =
              let a = ap (λ (y : Reply). y.answer) g in
              let q = value-large σ.model.arities σ.live σ.held.diagram r f in
              let z : ◌≡◌ {A = ℕ} 0 1 = cc in
              omega arith

  pub placed-said : σ.part ≡ Run → is_placed σ ≡ true → reply σ number best_line ≡ best_says σ number (best_read σ.model σ.live σ.held.diagram)
  placed-said p e = best-at (ok tt) (allowed-run true p e)

  -- ===== Exactly so =====

  -- each of these refuses it
  pub refuses-best : (r : Refusal) → RefusesBest σ r → reply σ number best_line ≡ refusal σ number r
  unfolding best_read
  refuses-best r (in-model p) = in-model-refused p
  refuses-best r (missing p v) = missing-refused p (value-unplaced p (v number))
  refuses-best r (stopping {r = r'} p e h) = placed-said p e ∙ ap (best_says σ number) (stopped-refused σ.model (in_hand σ) σ.held.diagram r' h)

  -- a move is answered where every action passes
  pub passes-best : σ.part ≡ Run → is_placed σ ≡ true → Every (Passes σ.model (in_hand σ) σ.held.diagram) σ.model.actions
      → (x : Move) × (reply σ number best_line ≡ record { session = σ; answer = best_is σ.names x })
  unfolding best_read
  passes-best p e h =
      let w = passes-answered σ.model (in_hand σ) σ.held.diagram h in
      (w.0, placed-said p e ∙ ap (best_says σ number) w.1)

-- what is said of a move, or what refuses it
data Found (σ : Session) (number : ℕ) : Type 0 where
  refusing : (r : Refusal) → RefusesBest σ r → Found σ number
  moving : (x : Move) → σ.part ≡ Run → is_placed σ ≡ true → best_read σ.model σ.live σ.held.diagram ≡ ok x
      → reply σ number best_line ≡ record { session = σ; answer = best_is σ.names x } → Found σ number

found : (σ : Session) (number : ℕ) → Found σ number
found σ number = by_part σ.part refl
  where
    by_read : σ.part ≡ Run → is_placed σ ≡ true → (o : Outcome Move) → best_read σ.model σ.live σ.held.diagram ≡ o → Found σ number
    by_read p e (ok x) f = moving x p e f (placed-said σ number p e ∙ ap (best_says σ number) f)
    by_read p e (refused r) f = refusing r (stopping p e (refused-stopped σ.model (in_hand σ) σ.held.diagram r (unfold best_read in f)))

    by_place : σ.part ≡ Run → Flag (is_placed σ) → Found σ number
    by_place p (is_true e) = by_read p e (best_read σ.model σ.live σ.held.diagram) refl
    by_place p (is_false e) = refusing Missing (missing p (λ i. unplaced-value σ i p e))

    by_part : (q : Part) → σ.part ≡ q → Found σ number
    by_part ModelPart p = refusing Place (in-model p)
    by_part Run p = by_place p (flag (is_placed σ))

module _ (σ : Session) (number : ℕ) where
  -- nothing else refuses it
  pub best-refuses : (r : Refusal) (n : ℕ) → (reply σ number best_line).answer ≡ A.Refused r n → RefusesBest σ r
  best-refuses r n e = go (found σ number)
    where
      go : Found σ number → RefusesBest σ r
      go (refusing r' h) =
          let a = sym (ap (λ (y : Reply). y.answer) (refuses-best σ number r' h)) ∙ e in
          let q : r' ≡ r = cc in
          subst (RefusesBest σ) q h
      go (moving x p i f h) = let a = sym (ap (λ (y : Reply). y.answer) h) ∙ e in let z : ◌≡◌ {A = ℕ} 0 1 = cc in absurd (omega arith)

  -- a move that is answered is the one read
  pub best-moves : (k : Key) (n a b c d : ℕ) → (reply σ number best_line).answer ≡ A.Best k n a b c d
      → (x : Move) × (σ.part ≡ Run) × (is_placed σ ≡ true) × (best_read σ.model σ.live σ.held.diagram ≡ ok x)
      × (reply σ number best_line ≡ record { session = σ; answer = best_is σ.names x })
  best-moves k n a b c d e = go (found σ number)
    where
      go : Found σ number → (x : Move) × (σ.part ≡ Run) × (is_placed σ ≡ true) × (best_read σ.model σ.live σ.held.diagram ≡ ok x)
          × (reply σ number best_line ≡ record { session = σ; answer = best_is σ.names x })
      go (refusing r h) = let f = sym (ap (λ (y : Reply). y.answer) (refuses-best σ number r h)) ∙ e in let z : ◌≡◌ {A = ℕ} 0 1 = cc in absurd (omega arith)
      go (moving x p i f h) = (x, p, i, f, h)

  -- where a move is answered, every action passes
  pub best-passes : (k : Key) (n a b c d : ℕ) → (reply σ number best_line).answer ≡ A.Best k n a b c d
      → Every (Passes σ.model (in_hand σ) σ.held.diagram) σ.model.actions
  best-passes k n a b c d e = let w = best-moves k n a b c d e in answered-passes σ.model (in_hand σ) σ.held.diagram w.0 (unfold best_read in w.3)

  -- "not 12"
  pub never-scale : (n : ℕ) → (reply σ number best_line).answer ≡ A.Refused Scale n → ⊥
  never-scale n e = go (best-refuses Scale n e)
    where
      go : RefusesBest σ Scale → ⊥
      go (stopping p i h) = best-not-scale σ.model (in_hand σ) σ.held.diagram (stopped-refused σ.model (in_hand σ) σ.held.diagram Scale h)
