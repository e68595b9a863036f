-- The move that (best) prints, in a session whose value diagram a run of its model leads to (document 02, L9).
use Rattle.std.specs.Prelude.{◌≡◌, true, List, ℕ}
use Rattle.std.proofs.Common.{sym, arith}
use Rattle.std.proofs.Math.Path.{subst}
use Rattle.refusal.specs.Outcome.{ok}
use Rattle.state.specs.State.{Good}
use Rattle.elimination.proofs.AnswerLaws.{lent-good}
use Rattle.mdp.specs.Runs.{Call, Held, run}
use Rattle.best.specs.Moves.{Move}
use Rattle.best.specs.Best.{best_answer}
use Rattle.best.specs.Claims.{StepsBy}
use Rattle.best.proofs.BestLaws.{best-run}
use Rattle.words.specs.declared.Key.{Key}
use Rattle.answers.specs.declared.Answer.TheVariants as A
use Rattle.session.specs.declared.Part.TheVariants.{Run}
use Rattle.session.specs.Session.{Session}
use Rattle.session.specs.Running.{state_in, best_read}
use Rattle.session.specs.Replies.{is_placed, reply}
use Rattle.session.specs.Good.{GoodSession}
use Rattle.session_laws.proofs.PlaceLaws.{placed-objects}
use Rattle.session_laws.proofs.PrintLaws.{reply-moves}
use Rattle.text_moves.specs.Claims.{in_hand, MovesBy}

-- where every constant is placed, the state in hand is one
placed-good : (σ : Session) → GoodSession σ → is_placed σ ≡ true → Good (in_hand σ)
unfolding state_in
placed-good σ g e =
    let l = σ.live in
    lent-good σ.model.arities l.objects l.constants l.facts (g.state (placed-objects σ e))

module _ (σ : Session) (g : GoodSession σ) (l : List Call) (h : σ.held ≡ run σ.model l) where
  read-steps : σ.part ≡ Run → is_placed σ ≡ true → (x : Move) → best_read σ.model σ.live σ.held.diagram ≡ ok x
      → StepsBy σ.model σ.held.steps (in_hand σ) x
  unfolding best_read
  read-steps p e x =
      subst (λ (z : Held). best_answer σ.model (in_hand σ) z.diagram ≡ ok x → StepsBy σ.model z.steps (in_hand σ) x) (sym h)
      (best-run σ.model (g.begun p).good (omega (arith, (g.begun p).some)) l (in_hand σ) (placed-good σ g e) x)

  -- whatever line is answered by a move: the Bellman step is made by it
  pub answered-steps : (number : ℕ) (s : List ℕ) (k : Key) (n a b c d : ℕ) → (reply σ number s).answer ≡ A.Best k n a b c d
      → (x : Move) × MovesBy σ x (reply σ number s)
  answered-steps number s k n a b c d e =
      let w = reply-moves σ g number s k n a b c d e in
      let x = w.0 in
      let r = w.1 in
      let t = read-steps r.run r.placed x r.read in (
        x,
        record {
          run = r.run;
          placed = r.placed;
          session = r.session;
          bytes = r.bytes;
          declared = omega (arith, g.agreeing.count, t.chosen.is_move.action-is);
          steps = t;
        },
      )
