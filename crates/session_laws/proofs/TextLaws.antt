-- Demand 3 for texts: after whatever lines, a value that is answered is Mk of the state in hand (document 01, section 'Backup').
use Rattle.std.specs.Prelude.{◌≡◌, refl, true, false, List, [], ◌∷◌, ℕ, suc, ◌^◌}
use Rattle.std.proofs.Common.{sym, subst, arith}
use Rattle.mdp.specs.Model.{Every, scale}
use Rattle.mdp.specs.Bellman.{bellman}
use Rattle.text.specs.declared.Kind.TheVariants as K
use Rattle.text.specs.Line.{line_bytes}
use Rattle.text.specs.Line.Line.{line}
use Rattle.text.specs.LineLaws.{line-complete}
use Rattle.answers.specs.declared.Answer.TheVariants as A
use Rattle.session.specs.declared.Part.TheVariants.{Run}
use Rattle.session.specs.Session.{Session, opening}
use Rattle.session.specs.Running.{state_in}
use Rattle.session.specs.Replies.{is_placed, reply}
use Rattle.session.specs.Good.{GoodSession}
use Rattle.session.specs.Texts.{has_bytes, Progress, replied, after_line, after_lines, after_rest, beginning, lines_of, text_read}
use Rattle.model_laws.specs.ModelRows.{Counted}
use Rattle.model_laws.specs.Adding.{AddsUp}
use Rattle.model_laws.proofs.WeightLaws.{weighed-adds-up}
use Rattle.session_laws.proofs.OpeningLaws.{opening-good}
use Rattle.session_laws.proofs.FactLaws.{WholeRows}
use Rattle.session_laws.proofs.ReplyLaws.{reply-good}
use Rattle.session_laws.proofs.WholeLaws.{reply-whole}
use Rattle.session_laws.specs.TextRuns.{RunOf, too_large}
use Rattle.session_laws.proofs.CountLaws.{opening-counted, reply-counted}
use Rattle.session_laws.specs.LineAnswers.{IsValue}
use Rattle.session_laws.proofs.ValueLaws.{value-bellman, value-accepted}
use Rattle.session_laws.proofs.TextRunLaws.{run_of}

-- what holds of a session from line to line: it is good, its facts are whole rows, and `rows` counts the rows of its model
pub record Sound (σ : Session) : Type 0 where
  pub good : GoodSession σ
  pub whole : WholeRows σ.live.facts
  pub counted : Counted σ

opening-sound : Sound opening
unfolding opening
opening-sound = record { good = opening-good; whole = refl; counted = opening-counted }

pub reply-sound : (σ : Session) → Sound σ → (number : ℕ) (s : List ℕ) → Sound (reply σ number s).session
reply-sound σ h number s = record {
  good = reply-good σ h.good h.whole number s;
  whole = reply-whole σ h.whole number s;
  counted = reply-counted σ h.good h.counted number s;
}

lines-sound : (p : Progress) → Sound p.session → (ls : List (List ℕ)) → Sound (after_lines p ls).session
unfolding after_lines after_line
lines-sound p h [] = h
lines-sound p h (s ∷ ls) =
    lines-sound (replied p (has_bytes s) (reply p.session (suc p.lines) s)) (reply-sound p.session h (suc p.lines) s) ls

pub text-sound : (ls : List (List ℕ)) → Sound (after_lines beginning ls).session
unfolding beginning
text-sound ls = lines-sound beginning opening-sound ls

-- behind whatever lines, once the run has begun
pub text-run : (ls : List (List ℕ)) → (after_lines beginning ls).session.part ≡ Run → RunOf ls (after_lines beginning ls).session
text-run ls p = run_of ls p ((text-sound ls).good.begun p).good

-- bytes behind the last line feed leave the session as it was
rest-session : (p : Progress) (s : List ℕ) → (after_rest p s).session ≡ p.session
unfolding after_rest
rest-session p [] = refl
rest-session p (b ∷ s) = refl

-- so behind whatever text
pub read-run : (s : List ℕ) → (text_read s).session.part ≡ Run → RunOf (lines_of s).whole (text_read s).session
unfolding text_read
read-run s =
    let ls = (lines_of s).whole in
    subst (λ (σ : Session). σ.part ≡ Run → RunOf ls σ) (sym (rest-session (after_lines beginning ls) (lines_of s).rest)) (text-run ls)

-- after whatever lines, whatever line is answered (value v k w)
pub text-bellman : (ls : List (List ℕ)) (number : ℕ) (s : List ℕ) (v k w : ℕ) → (reply (after_lines beginning ls).session number s).answer ≡ A.Value v k w
    → IsValue (after_lines beginning ls).session v k w
text-bellman ls number s v k w e = value-bellman (after_lines beginning ls).session (text-sound ls).good (λ p. (text-run ls p).values) number s v k w e

-- and a (value) that stands where it may, where not both ways are too large, is answered so
pub text-value : (ls : List (List ℕ)) (σ : Session) → σ ≡ (after_lines beginning ls).session → σ.part ≡ Run → is_placed σ ≡ true
    → too_large σ ≡ false → (number : ℕ)
    → reply σ number (line_bytes (line K.Value tt)) ≡ record {
      session = σ;
      answer = A.Value (bellman σ.model σ.held.steps (state_in σ.model.arities σ.live)) σ.held.steps (scale σ.model ^ σ.held.steps);
    }
text-value ls σ q p h few number =
    let sound = subst Sound (sym q) (text-sound ls) in
    let run = subst (λ (τ : Session). τ.part ≡ Run → RunOf ls τ) (sym q) (text-run ls) p in
    value-accepted σ sound.good run.values p h few number (line_bytes (line K.Value tt)) (line-complete (line K.Value tt) (tt, omega arith, omega arith))

-- and once (start) was accepted, the weights of each action add up to W in every state, for every tuple (document 02, L5)
pub text-adds-up : (ls : List (List ℕ)) (σ : Session) → σ ≡ (after_lines beginning ls).session → σ.part ≡ Run
    → Every (AddsUp σ.model.arities σ.model.total) σ.model.actions
text-adds-up ls σ q p =
    let sound = subst Sound (sym q) (text-sound ls) in
    let run = subst (λ (τ : Session). τ.part ≡ Run → RunOf ls τ) (sym q) (text-run ls) p in
    weighed-adds-up σ.model.arities sound.good.tables.arities σ.model.total σ.model.actions run.weights
