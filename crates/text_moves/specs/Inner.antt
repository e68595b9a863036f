-- What contracts of inner functions and proofs cite. Nothing here has to be believed.
use Rattle.std.specs.Prelude.{◌≡◌, true, ℕ}
use Rattle.refusal.specs.declared.Refusal.{Refusal}
use Rattle.refusal.specs.declared.Refusal.TheVariants.{Place, Missing}
use Rattle.best.specs.Inner.{Stopped}
use Rattle.session.specs.declared.Part.TheVariants.{Model as ModelPart, Run}
use Rattle.session.specs.Session.{Session}
use Rattle.session.specs.Replies.{is_placed, refusal, reply}
use Rattle.session_laws.specs.LineAnswers.{value_line}
use Rattle.text_moves.specs.Claims.{in_hand}

-- ===== What refuses (best) =====

-- r is what refuses (best) in the session σ: 5 in the model part; 20 where (value) is answered 5; then as the first action that does not pass stops
pub data RefusesBest (σ : Session) : Refusal → Type 0 where
  in-model : σ.part ≡ ModelPart → RefusesBest σ Place
  missing : σ.part ≡ Run → ((number : ℕ) → reply σ number value_line ≡ refusal σ number Place) → RefusesBest σ Missing
  stopping : {r : Refusal} → σ.part ≡ Run → is_placed σ ≡ true → Stopped σ.model (in_hand σ) σ.held.diagram σ.model.actions r → RefusesBest σ r
