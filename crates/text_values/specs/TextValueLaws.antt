-- Demand 3 for texts, in fractions: what a printed (value v k w) stands for (document 01, section 'Backup').
use Rattle.std.specs.Prelude.{◌≡◌, List, ℕ}
use Rattle.std.proofs.Common.{sym, subst}
use Rattle.answers.specs.declared.Answer.TheVariants as A
use Rattle.session.specs.Session.{Session}
use Rattle.session.specs.Running.{state_in}
use Rattle.session.specs.Replies.{reply}
use Rattle.session.specs.Texts.{after_lines, beginning}
use Rattle.session_laws.specs.LineAnswers.{IsValue}
use Rattle.session_laws.proofs.TextLaws.{Sound, text-sound, text-bellman}
use Rattle.discounted.specs.Fraction.{Equal, ratio}
use Rattle.discounted.specs.Discounted.{discounted}
use Rattle.discounted.proofs.DiscountedLaws.{bellman-over-scale}

-- after whatever lines, whatever line is answered (value v k w): v / w is the k-step Bellman value of the state in hand
pub text-discounted : (ls : List (List ℕ)) (σ : Session) → σ ≡ (after_lines beginning ls).session → (number : ℕ) (s : List ℕ) (v k w : ℕ)
    → (reply σ number s).answer ≡ A.Value v k w → Equal (ratio v w) (discounted σ.model k (state_in σ.model.arities σ.live))
text-discounted ls σ q number s v k w e =
    let sound = subst Sound (sym q) (text-sound ls) in
    let b = subst (λ (τ : Session). (reply τ number s).answer ≡ A.Value v k w → IsValue τ v k w) (sym q) (text-bellman ls number s v k w) e in
    rw (b.value, b.power) (bellman-over-scale σ.model (sound.good.begun b.run).good k (state_in σ.model.arities σ.live))
