-- Laws of (show).
use mathlib.Core.Path.{refl, sym, ap}
use mathlib.Core.List.{List}
use Prim.Native.Nat.{ℕ, ◌*◌}
use lib.ListN.{take}
use Rattle.diagram.specs.Listing.{diagram_of}
use Rattle.refusal.specs.Outcome.{ok}
use Rattle.answers.specs.declared.Answer.TheVariants as A
use Rattle.text.specs.declared.Kind.TheVariants as K
use Rattle.session.specs.Replies.{done}
use Rattle.steps.specs.Steps.{ResultIn}
use Rattle.steps.specs.GivenLaws.{result_count}
use Rattle.memory.specs.declared.Numbers.{Numbers}
use Rattle.memory.specs.Inner.{Ready, Answers}
use Rattle.memory.specs.Memory.{Memory, session_of}
use Rattle.memory.specs.CarriedLaws.{carried_same}
use Rattle.memory.specs.RunLaws.{run-holding}
use Rattle.run_lines.specs.Lines.{ShowAnswered}

show-answers : {s : List ℕ} (number : ℕ) {n : Numbers} {w : Memory} → Ready K.Show s n w → Answers K.Show s number n w (record { numbers = n; answer = A.Show n.held.rows }) w
unfolding session_of done
show-answers number {n} {w} r =
    let x : ResultIn w.arities (ok (diagram_of (take (n.held.rows * 3) w.value))) n.held.rows w.value
    = record { is = refl; listing = (run-holding refl r).listing; room = r.stored.value-rows } in
    record { answer = ap A.Show (sym (result_count x)); session = refl; stored = r.stored; indexed = r.indexed; carried = carried_same n w }

pub show-shows : (n : Numbers) → ShowAnswered n (record { numbers = n; answer = A.Show n.held.rows })
show-shows n = record { says = λ s number names arities listings table state value r. show-answers number r }
