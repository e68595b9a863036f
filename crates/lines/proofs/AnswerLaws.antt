-- Laws of the function of a line that stands where it may: one for each kind.
use mathlib.Core.Path.{◌≡◌, refl, sym, ap, subst, ◌∙◌}
use mathlib.Core.Bool.{Bool, true, false, true≢false}
use mathlib.Core.List.{List}
use Prim.Native.Nat.{ℕ}
use lib.ListN.{length, take}
use Rattle.text.specs.declared.Kind.{Kind}
use Rattle.text.specs.declared.Kind.TheVariants as K
use Rattle.session.specs.Replies.{done, words_of}
use Rattle.session_laws.proofs.TableLaws.{done-bare}
use Rattle.memory.specs.declared.Numbers.{Numbers}
use Rattle.memory.specs.declared.Said.{Said}
use Rattle.memory.specs.Inner.{Ready, Answers}
use Rattle.memory.specs.Memory.{Memory, memory_of, session_of}
use Rattle.memory.specs.CarriedLaws.{carried_same}
use Rattle.declaration_lines.specs.Lines.{ConstantSays, PredicateSays, TotalSays, DiscountSays, ActionSays}
use Rattle.desk_lines.specs.Lines.{BestAnswered, CountAnswered, DidAnswered}
use Rattle.diagram_lines.specs.Lines.{RewardSays, VariantSays, BecomesSays}
use Rattle.run_lines.specs.Lines.{StartAnswered, ValueAnswered, BackupAnswered, CutAnswered, ReduceAnswered, ShowAnswered, TextAnswered}
use Rattle.state_lines.specs.Lines.{ObjectsSays, IsSays, TrueSays}
use Rattle.lines.specs.Lines.{Performed, ModelReady, no_line}

pub ready-as : {k l : Kind} {s : List ℕ} {n : Numbers} {w : Memory} → k ≡ l → Ready k s n w → Ready l s n w
ready-as {k} {l} {s} {n} {w} e h = subst (λ (x : Kind). Ready x s n w) e h

pub model-ready : {k : Kind} {s : List ℕ} {n : Numbers} {names arities listings table state value : List ℕ}
    → Ready k s n (memory_of names arities listings table state value) → ModelReady k s n names arities listings table
model-ready {k} {s} {n} {names} {arities} {listings} {table} {state} {value} h = record { state = state; value = value; ready = h }

-- only (count n) shows words
abbrev is_count : Kind → Bool
is_count K.Constant = false
is_count K.Predicate = false
is_count K.Total = false
is_count K.Discount = false
is_count K.Reward = false
is_count K.Action = false
is_count K.Variant = false
is_count K.Becomes = false
is_count K.Start = false
is_count K.Objects = false
is_count K.Is = false
is_count K.True = false
is_count K.Value = false
is_count K.Backup = false
is_count K.Cut = false
is_count K.Show = false
is_count K.Reduce = false
is_count K.Text = false
is_count K.Best = false
is_count K.Count = true
is_count K.Did = false
is_count K.Bad = false

performed : {k l : Kind} {s : List ℕ} {number : ℕ} {n : Numbers} {w : Memory} {r : Said} {w' : Memory} {work' : List ℕ} → k ≡ l → is_count l ≡ false
    → Answers k s number n w r w' → Performed k s number n w r w' work'
performed {k} {l} {s} {number} {n} {w} {r} {w'} {work'} e f a =
    let σ = session_of n w in
    let bare = done-bare σ number k (words_of k s) (λ (g : k ≡ K.Count). true≢false (sym (ap is_count g) ∙ (ap is_count e ∙ f))) (done σ number k (words_of k s)).session in
    record { answers = a; shown = subst (λ (t : List ℕ). take (length t) work' ≡ t) (sym bare) refl }

module _ {k : Kind} {s : List ℕ} (number : ℕ) {n : Numbers} {names arities listings table state value work' : List ℕ}
    (h : Ready k s n (memory_of names arities listings table state value)) where
  pub constant-answers : {r : Said} {names' : List ℕ} → k ≡ K.Constant → ConstantSays s number n names r names'
      → Performed k s number n (memory_of names arities listings table state value) r (memory_of names' arities listings table state value) work'
  constant-answers e c = performed e refl (rw e (c.says arities listings table state value (ready-as e h)))

  pub predicate-answers : {r : Said} {names' arities' : List ℕ} → k ≡ K.Predicate → PredicateSays s number n names arities r names' arities'
      → Performed k s number n (memory_of names arities listings table state value) r (memory_of names' arities' listings table state value) work'
  predicate-answers e c = performed e refl (rw e (c.says listings table state value (ready-as e h)))

  pub total-answers : {r : Said} → k ≡ K.Total → TotalSays s number n r
      → Performed k s number n (memory_of names arities listings table state value) r (memory_of names arities listings table state value) work'
  total-answers e c = performed e refl (rw e (c.says names arities listings table state value (ready-as e h)))

  pub discount-answers : {r : Said} → k ≡ K.Discount → DiscountSays s number n r
      → Performed k s number n (memory_of names arities listings table state value) r (memory_of names arities listings table state value) work'
  discount-answers e c = performed e refl (rw e (c.says names arities listings table state value (ready-as e h)))

  pub reward-answers : {r : Said} {listings' : List ℕ} → k ≡ K.Reward → RewardSays s number n names arities listings r listings'
      → Performed k s number n (memory_of names arities listings table state value) r (memory_of names arities listings' table state value) work'
  reward-answers e c = performed e refl (rw e (c.says table state value (ready-as e h)))

  pub action-answers : {r : Said} {names' table' : List ℕ} → k ≡ K.Action → ActionSays s number n names table r names' table'
      → Performed k s number n (memory_of names arities listings table state value) r (memory_of names' arities listings table' state value) work'
  action-answers e c = performed e refl (rw e (c.says arities listings state value (ready-as e h)))

  pub variant-answers : {r : Said} {names' listings' table' : List ℕ} → k ≡ K.Variant → VariantSays s number n names arities listings table r names' listings' table'
      → Performed k s number n (memory_of names arities listings table state value) r (memory_of names' arities listings' table' state value) work'
  variant-answers e c = performed e refl (rw e (c.says state value (ready-as e h)))

  pub becomes-answers : {r : Said} {listings' table' : List ℕ} → k ≡ K.Becomes → BecomesSays s number n names arities listings table r listings' table'
      → Performed k s number n (memory_of names arities listings table state value) r (memory_of names arities listings' table' state value) work'
  becomes-answers e c = performed e refl (rw e (c.says state value (ready-as e h)))

  pub start-answers : {r : Said} {value' : List ℕ} → k ≡ K.Start → StartAnswered number n arities listings table value r value'
      → Performed k s number n (memory_of names arities listings table state value) r (memory_of names arities listings table state value') work'
  start-answers e c = performed e refl (rw e (c.says s names state (ready-as e h)))

  pub objects-answers : {r : Said} {state' : List ℕ} → k ≡ K.Objects → ObjectsSays s number n arities state r state'
      → Performed k s number n (memory_of names arities listings table state value) r (memory_of names arities listings table state' value) work'
  objects-answers e c = performed e refl (rw e (c.says names listings table value (ready-as e h)))

  pub is-answers : {r : Said} {state' : List ℕ} → k ≡ K.Is → IsSays s number n names state r state'
      → Performed k s number n (memory_of names arities listings table state value) r (memory_of names arities listings table state' value) work'
  is-answers e c = performed e refl (rw e (c.says arities listings table value (ready-as e h)))

  pub tell-answers : {r : Said} {state' : List ℕ} → k ≡ K.True → TrueSays s number n names arities state r state'
      → Performed k s number n (memory_of names arities listings table state value) r (memory_of names arities listings table state' value) work'
  tell-answers e c = performed e refl (rw e (c.says listings table value (ready-as e h)))

  pub value-answers : {r : Said} → k ≡ K.Value → ValueAnswered number n arities state value r
      → Performed k s number n (memory_of names arities listings table state value) r (memory_of names arities listings table state value) work'
  value-answers e c = performed e refl (rw e (c.says s names listings table (ready-as e h)))

  pub backup-answers : {r : Said} {value' : List ℕ} → k ≡ K.Backup → BackupAnswered number n arities listings table value r value'
      → Performed k s number n (memory_of names arities listings table state value) r (memory_of names arities listings table state value') work'
  backup-answers e c = performed e refl (rw e (c.says s names state (ready-as e h)))

  pub cut-answers : {r : Said} {value' : List ℕ} → k ≡ K.Cut → CutAnswered number n arities value r value'
      → Performed k s number n (memory_of names arities listings table state value) r (memory_of names arities listings table state value') work'
  cut-answers e c = performed e refl (rw e (c.says s names listings table state (ready-as e h)))

  pub reduce-answers : {r : Said} {value' : List ℕ} → k ≡ K.Reduce → ReduceAnswered number n arities value r value'
      → Performed k s number n (memory_of names arities listings table state value) r (memory_of names arities listings table state value') work'
  reduce-answers e c = performed e refl (rw e (c.says s names listings table state (ready-as e h)))

  pub show-answers : {r : Said} → k ≡ K.Show → ShowAnswered n r
      → Performed k s number n (memory_of names arities listings table state value) r (memory_of names arities listings table state value) work'
  show-answers e c = performed e refl (rw e (c.says s number names arities listings table state value (ready-as e h)))

  pub text-answers : {r : Said} → k ≡ K.Text → TextAnswered number n names arities value r
      → Performed k s number n (memory_of names arities listings table state value) r (memory_of names arities listings table state value) work'
  text-answers e c = performed e refl (rw e (c.says s listings table state (ready-as e h)))

  pub best-answers : {r : Said} → k ≡ K.Best → BestAnswered number n names arities listings table state value r
      → Performed k s number n (memory_of names arities listings table state value) r (memory_of names arities listings table state value) work'
  best-answers e c = performed e refl (rw e (c.says s (ready-as e h)))

  -- (count n) shows the words that it left
  pub count-answers : {r : Said} → k ≡ K.Count → CountAnswered s number n arities state value r work'
      → Performed k s number n (memory_of names arities listings table state value) r (memory_of names arities listings table state value) work'
  count-answers e c =
      let q = ready-as e h in
      record { answers = rw e (c.says names listings table q); shown = rw e (c.shows names listings table q) }

  pub did-answers : {r : Said} {state' : List ℕ} → k ≡ K.Did → DidAnswered s number n names arities listings table state r state'
      → Performed k s number n (memory_of names arities listings table state value) r (memory_of names arities listings table state' value) work'
  did-answers e c = performed e refl (rw e (c.says value (ready-as e h)))

  pub bad-answers : {r : Said} → k ≡ K.Bad → r ≡ no_line number n
      → Performed k s number n (memory_of names arities listings table state value) r (memory_of names arities listings table state value) work'
  unfolding done
  bad-answers {r} e q =
      let w = memory_of names arities listings table state value in
      let a : Answers k s number n w (no_line number n) w = record { answer = rw e; session = rw e; stored = h.stored; indexed = h.indexed; carried = carried_same n w } in
      performed e refl (subst (λ (x : Said). Answers k s number n w x w) (sym q) a)
