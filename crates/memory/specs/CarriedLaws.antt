-- Laws of what a line carries over beside the session.
use Rattle.std.specs.Prelude.{◌≡◌, refl, List, ℕ}
use Rattle.std.proofs.Common.{sym, ap, ◌∙◌, arith}
use Rattle.model.specs.declared.Head.{Head}
use Rattle.session.specs.declared.Part.{Part}
use Rattle.session.specs.declared.Part.TheVariants.{Model, Run}
use Rattle.model_entry.specs.StartLaws.{starts-same}
use Rattle.memory.specs.declared.Numbers.{Numbers}
use Rattle.memory.specs.Inner.{Carried}
use Rattle.memory.specs.Memory.{Memory, memory_of}

-- nothing is done
pub carried_same : (n : Numbers) (w : Memory) → Carried n w n w
carried_same n w = record { starts = starts-same w.table n.head n.head refl refl refl; idle = λ e. (e, refl) }

run-no-model : {A : Type 0} {p : Part} → p ≡ Run → p ≡ Model → A
run-no-model r m = let e : ◌≡◌ {A = Part} Run Model = sym r ∙ m in let z : ◌≡◌ {A = ℕ} 0 1 = cc in absurd (omega arith)

module _ {n n' : Numbers} {names ar listings table state value names' ar' listings' state' value' : List ℕ} (e : n'.head ≡ n.head) where
  -- the table and the head stay, and the part and the numbers of the value
  pub carried_on : n'.part ≡ n.part → n'.held ≡ n.held
      → Carried n (memory_of names ar listings table state value) n' (memory_of names' ar' listings' table state' value')
  carried_on p v = record {
    starts = starts-same table n.head n'.head (ap (λ (x : Head). x.actions) e) (ap (λ (x : Head). x.reward_start) e)
        (ap (λ (x : Head). x.reward_words) e);
    idle = λ q. (sym p ∙ q, v);
  }

  -- the table and the head stay, in the run
  pub carried-run : n'.part ≡ Run → Carried n (memory_of names ar listings table state value) n' (memory_of names' ar' listings' table state' value')
  carried-run p = record {
    starts = starts-same table n.head n'.head (ap (λ (x : Head). x.actions) e) (ap (λ (x : Head). x.reward_start) e)
        (ap (λ (x : Head). x.reward_words) e);
    idle = run-no-model p;
  }
