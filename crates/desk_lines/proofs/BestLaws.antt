-- Laws of (best).
use mathlib.Core.Path.{◌≡◌, refl, sym, ap, subst, ◌∙◌}
use mathlib.Core.Bool.{Bool, true, false, cond}
use mathlib.Core.List.{List, [], ◌∷◌}
use Prim.Native.Nat.{ℕ, suc, ◌+◌, ◌*◌, ◌≤◌, ◌<◌}
use native.Mathlib.Omega.{arith}
use lib.ListN.{length, get_or, take}
use lib.Seq.{length-take-le}
use lib.Dec.{ltb}
use Rattle.refusal.specs.declared.Refusal.{Refusal}
use Rattle.refusal.specs.Outcome.{Outcome, ok, refused, Accepted}
use Rattle.refusal.specs.OutcomeLaws.{accepted-ok, accepted-then, accepted-next}
use Rattle.label.specs.Limits.{constant_count}
use Rattle.diagram.specs.Diagram.{Diagram, leaf}
use Rattle.diagram.specs.Listing.{diagram_of}
use Rattle.state.specs.State.{State}
use Rattle.state.specs.Lent.{fact_words, state_of}
use Rattle.state.specs.Max.{tuples}
use Rattle.mdp.specs.Model.{Action, Model}
use Rattle.mdp.specs.Backup.{variants_sum}
use Rattle.words.specs.declared.Key.{Key}
use Rattle.names.specs.Keys.{key_at, keys_at}
use Rattle.names.specs.ManyLaws.{length-many, get_d-many}
use Rattle.names.specs.Layout.{actions_at}
use Rattle.best.specs.Moves.{Move, move, first_move}
use Rattle.best.specs.Best.{Rated, rated, better, binding_value, bindings_best, moves_best, best_answer}
use Rattle.answers.specs.declared.Answer.TheVariants as A
use Rattle.text.specs.declared.Kind.TheVariants as K
use Rattle.session.specs.Session.{Session}
use Rattle.session.specs.Running.{no_key, state_in, best_read}
use Rattle.session.specs.Replies.{best_says, done}
use Rattle.declare.specs.Tables.{names_of}
use Rattle.facts.specs.Words.{facts_base, index_base, index_words, part, live_of}
use Rattle.model.specs.Layout.{action_at, model_of}
use Rattle.best_move.specs.declared.Chosen.{Chosen}
use Rattle.best_move.specs.declared.Chosen.TheVariants.{Move as TheMove, Refused}
use Rattle.best_move.specs.Chosen.{chosen_as, BestTask}
use Rattle.memory.specs.declared.Numbers.{Numbers}
use Rattle.memory.specs.Inner.{Ready, Answers}
use Rattle.memory.specs.Memory.{Memory, session_of}
use Rattle.memory.specs.CarriedLaws.{carried_same}
use Rattle.desk_lines.specs.Lines.{MoveTask, BestAnswered}

-- ===== The action is there =====

abbrev Low : ℕ → Rated → Type 0
Low k r = r.move.action < k

better-low : (k : ℕ) (best new : Rated) → Low k best → Low k new → Low k (better best new)
unfolding better
better-low k best new p q = go (ltb best.sum new.sum)
  where
    go : (b : Bool) → Low k (cond b new best)
    go true = q
    go false = p

bindings-low : (ar : List ℕ) (s : State) (k i : ℕ) (q : Diagram) → i < k → (l : List (List ℕ)) (best : Rated) → Low k best → Accepted (Low k) (bindings_best ar s i q l best)
unfolding bindings_best
bindings-low ar s k i q h [] best p = accepted-ok p
bindings-low ar s k i q h (os ∷ l) best p =
    accepted-next (binding_value ar s q os) (λ x. bindings_best ar s i q l (better best (rated (move i os) x)))
    (λ x e. bindings-low ar s k i q h l (better best (rated (move i os) x)) (better-low k best (rated (move i os) x) p h))

moves-low : (m : Model) (s : State) (d : Diagram) (k i : ℕ) (l : List Action) (best : Rated) → i + length l ≤ k → Low k best → Accepted (Low k) (moves_best m s d i l best)
unfolding moves_best
moves-low m s d k i [] best h p = accepted-ok p
moves-low m s d k i (a ∷ l) best h p =
    accepted-next (variants_sum m.arities m.numerator d (leaf 0) a.variants) _
    (λ q e.
    accepted-then (bindings_best m.arities s i q (tuples s.size a.count) best) (bindings-low m.arities s k i q (omega arith) (tuples s.size a.count) best p)
    (λ best' p'. moves-low m s d k (suc i) l best' (omega arith) p'))

best-low : (m : Model) (s : State) (d : Diagram) → 0 < length m.actions → Accepted (λ (x : Move). x.action < length m.actions) (best_answer m s d)
unfolding best_answer first_move
best-low m s d h =
    accepted-then (moves_best m s d 0 m.actions (rated (first_move m) 0)) (moves-low m s d (length m.actions) 0 m.actions (rated (first_move m) 0) (omega arith) h)
    (λ r p. accepted-ok p)

chosen-low : (k : ℕ) (o : Outcome Move) {i count a b c d : ℕ} → Accepted (λ (x : Move). x.action < k) o → chosen_as o ≡ TheMove i count a b c d → i < k
chosen-low k (ok x) {i} p e = let z : x.action ≡ i = cc in omega (arith, z, p.given x refl)
chosen-low k (refused r) p e = let z : ◌≡◌ {A = ℕ} 0 1 = cc in absurd (omega arith)

module _ {n : Numbers} {names ar listings table state value work : List ℕ} (t : MoveTask n names ar listings table state value work) (s : State) (d : Diagram) {q : Chosen}
    (a : q ≡ chosen_as (best_answer (model_of ar listings table n.head) s d)) {i count b c e f : ℕ} (g : q ≡ TheMove i count b c e f) where
  action-there : i < n.counts.actions
  unfolding model_of
  action-there =
      let l = length-many (action_at listings table) n.head.actions in
      let m = model_of ar listings table n.head in
      let low = chosen-low (length m.actions) (best_answer m s d) (best-low m s d (omega (arith, l, t.some))) (sym a ∙ g) in
      omega (arith, low, l, t.actions)

  pub key-room : actions_at + i * 2 + 2 ≤ length names
  key-room = omega (arith, action-there, t.named.actions, t.named.room)

  pub key-there : {k : Key} → k ≡ key_at names actions_at i → k ≡ get_or (keys_at names actions_at n.counts.actions) i no_key
  unfolding keys_at
  key-there h = h ∙ sym (get_d-many (key_at names actions_at) no_key n.counts.actions i action-there)

-- ===== What is lent =====

module _ {n : Numbers} {names ar listings table state value work : List ℕ} (t : MoveTask n names ar listings table state value work) where
  pub best-rows-long : n.held.rows * 3 ≡ length (take (n.held.rows * 3) value)
  best-rows-long = sym (length-take-le (n.held.rows * 3) value t.rows)

  pub best-constants-long : constant_count ≡ length (take constant_count state)
  best-constants-long = sym (length-take-le constant_count state (omega (arith, t.live.room)))

  pub best-lent : {ps : List ℕ} → ps ≡ part state facts_base (n.live.facts * fact_words)
      → BestTask ar listings table n.head n.live.objects (take constant_count state) ps (part state index_base index_words) (take (n.held.rows * 3) value) work
  best-lent f =
      subst
      (λ (fs : List ℕ).
      BestTask ar listings table n.head n.live.objects (take constant_count state) fs (part state index_base index_words) (take (n.held.rows * 3) value) work) (sym f)
      t.task

-- ===== What the line is answered =====

module _ (σ : Session) (number : ℕ) where
  moved-says : (o : Outcome Move) {i count a b c d : ℕ} {k : Key} → chosen_as o ≡ TheMove i count a b c d → k ≡ get_or σ.names.actions i no_key
      → A.Best k count a b c d ≡ (best_says σ number o).answer
  moved-says (ok x) e p = cc
  moved-says (refused x) e p = let z : ◌≡◌ {A = ℕ} 0 1 = cc in absurd (omega arith)

  refused_says : (o : Outcome Move) {x : Refusal} → chosen_as o ≡ Refused x → A.Refused x number ≡ (best_says σ number o).answer
  refused_says (ok v) e = let z : ◌≡◌ {A = ℕ} 0 1 = cc in absurd (omega arith)
  refused_says (refused y) {x} e = let z : x ≡ y = cc in ap (λ (r : Refusal). A.Refused r number) z

  same-session : (o : Outcome Move) → σ ≡ (best_says σ number o).session
  same-session (ok v) = refl
  same-session (refused x) = refl

module _ {s : List ℕ} (number : ℕ) {n : Numbers} {w : Memory} (r : Ready K.Best s n w) {q : Chosen}
    (a : q ≡ chosen_as (best_read (session_of n w).model (session_of n w).live (session_of n w).held.diagram)) where
  abbrev O : Outcome Move
  O = best_read (session_of n w).model (session_of n w).live (session_of n w).held.diagram

  moved-answers : {i count b c d e : ℕ} {k : Key} → q ≡ TheMove i count b c d e → k ≡ get_or (keys_at w.names actions_at n.counts.actions) i no_key
      → Answers K.Best s number n w (record { numbers = n; answer = A.Best k count b c d e }) w
  unfolding session_of done names_of
  moved-answers e p = record {
    answer = moved-says (session_of n w) number O (sym a ∙ e) p;
    session = same-session (session_of n w) number O;
    stored = r.stored;
    indexed = r.indexed;
    carried = carried_same n w;
  }

  refused-answers : {x : Refusal} → q ≡ Refused x → Answers K.Best s number n w (record { numbers = n; answer = A.Refused x number }) w
  unfolding done
  refused-answers e = record {
    answer = refused_says (session_of n w) number O (sym a ∙ e);
    session = same-session (session_of n w) number O;
    stored = r.stored;
    indexed = r.indexed;
    carried = carried_same n w;
  }

module _ (n : Numbers) (names ar listings table state value : List ℕ) {ps : List ℕ} (f : ps ≡ part state facts_base (n.live.facts * fact_words)) {q : Chosen}
    (a : q
    ≡ chosen_as (best_answer (model_of ar listings table n.head) (state_of ar n.live.objects (take constant_count state) ps)
    (diagram_of (take (n.held.rows * 3) value)))) where
  lent_reads : (w : Memory) → w ≡ record { names = names; arities = ar; listings = listings; table = table; state = state; value = value }
      → q ≡ chosen_as (best_read (session_of n w).model (session_of n w).live (session_of n w).held.diagram)
  unfolding session_of best_read state_in live_of model_of
  lent_reads w e =
      a
      ∙ ap (λ (fs : List ℕ). chosen_as (best_answer (model_of ar listings table n.head) (state_of ar n.live.objects (take constant_count state) fs)
      (diagram_of (take (n.held.rows * 3) value)))) f
      ∙ ap (λ (v : Memory). chosen_as (best_read (session_of n v).model (session_of n v).live (session_of n v).held.diagram)) (sym e)

  pub best-moved : {number i count b c d e : ℕ} → q ≡ TheMove i count b c d e → {k : Key} → k ≡ get_or (keys_at names actions_at n.counts.actions) i no_key
      → BestAnswered number n names ar listings table state value (record { numbers = n; answer = A.Best k count b c d e })
  best-moved {number} e p = record { says = λ s r. moved-answers number r (lent_reads _ refl) e p }

  pub best-refused : {number : ℕ} {x : Refusal} → q ≡ Refused x
      → BestAnswered number n names ar listings table state value (record { numbers = n; answer = A.Refused x number })
  best-refused {number} e = record { says = λ s r. refused-answers number r (lent_reads _ refl) e }
