-- The move chosen is the first with the highest sum, and that sum is the one that M(k+1) has.
use Rattle.std.specs.Prelude.{◌≡◌, ◌⊎◌, length, get_or}
use Rattle.std.proofs.Math.Path.{refl, sym, ap}
use Rattle.std.proofs.Common.{◌∙◌, subst, inl, inr, le_of_eq}
use mathlib.Core.List.{List, [], ◌∷◌, map, Memᴰ}
use Prim.Native.Nat.{ℕ, zero, suc, ◌+◌, ◌*◌, ◌^◌, ◌≤◌, ◌<◌}
use native.Mathlib.Omega.{arith}
use Rattle.std.proofs.Math.Nat.{zero-add, le_trans, le_antisymm}
use Rattle.refusal.specs.declared.Refusal.TheVariants.{Valuations}
use Rattle.refusal.specs.Outcome.{ok, Accepted}
use Rattle.refusal.specs.OutcomeLaws.{accepted-ok, accepted-then, accepted-cond, accepted-mono}
use Rattle.diagram.specs.Diagram.{Diagram, leaf}
use Rattle.diagram.specs.Listing.{listing}
use Rattle.state.specs.State.{meaning, State, Good}
use Rattle.state.specs.Max.{Tuple, max_tuples, max_of, tuples}
use Rattle.state.proofs.MaxLaws.{max_tuples-is}
use Rattle.state.proofs.HighestLaws.{bound-tuple}
use Rattle.minimum.specs.Number.{number}
use Rattle.minimum.proofs.NumberLaws.{number-equal}
use Rattle.elimination.specs.Answer.{is_too_large}
use Rattle.reduction.specs.Claims.{Values}
use Rattle.reduction.proofs.CombinationLaws.{in-tuples}
use Rattle.mdp.specs.Model.{Action, Model, scale, Every, GoodAction, GoodModel}
use Rattle.mdp.specs.Bellman.{reward_in, bellman}
use Rattle.mdp.specs.Backup.{backup}
use Rattle.mdp.specs.Runs.{Call, run}
use Rattle.mdp.proofs.BackupLaws.{leaf-has, variants-sum, bound-none, backup-is}
use Rattle.mdp.proofs.RunLaws.{run-right}
use Rattle.best.specs.Moves.{Move, move, action_at, action_sum, move_sum, first_move}
use Rattle.best.specs.Best.{Rated, rated, better, binding_value, bindings_best, moves_best, best_answer}
use Rattle.best.specs.Inner.{sum_calls}
use Rattle.best.specs.Claims.{IsMove, FirstHighest, StepsBy}
use Rattle.best.specs.Lead.{From, moves_from, lead, Won}
use Rattle.best.proofs.LeadLaws.{first-none, first-is, from_all, from-head, from_tail, in-moves_from, moves_from-in, moves_from-order, lead-bound, lead-won, lead-append}

-- ===== The step's highest =====

module _ {A : Type 0} (f : A → ℕ) (n : A) where
  max_of-above : (l : List A) (i : ℕ) → i < length l → f (get_or l i n) ≤ max_of l f
  unfolding max_of
  max_of-above [] i h = absurd (omega arith)
  max_of-above (a ∷ l) zero h = omega arith
  max_of-above (a ∷ l) (suc i) h = let z = max_of-above l i (omega arith) in omega arith

  max_of-least : (l : List A) (b : ℕ) → ((i : ℕ) → i < length l → f (get_or l i n) ≤ b) → max_of l f ≤ b
  unfolding max_of
  max_of-least [] b h = omega arith
  max_of-least (a ∷ l) b h =
      let x = h 0 (omega arith) in
      let y = max_of-least l b (λ i k. h (suc i) (omega arith)) in
      omega arith

module _ (m : Model) (k : ℕ) (s : State) (here : Good s) where
  -- "It must equal that step's highest"
  pub step-highest : (x : Move) → FirstHighest m k s x → move_sum m k s x ≡ max_of m.actions (λ a. max_tuples s.size a.count (action_sum m k s a))
  unfolding move_sum action_at
  step-highest x c = le_antisymm
      (le_trans ((max_tuples-is s.size (action_at m x.action).count (action_sum m k s (action_at m x.action)) here.some).bound x.objects c.is_move.objects-are)
      (max_of-above (λ a. max_tuples s.size a.count (action_sum m k s a)) (record { count = 0; variants = [] }) m.actions x.action c.is_move.action-is))
      (max_of-least (λ a. max_tuples s.size a.count (action_sum m k s a)) (record { count = 0; variants = [] }) m.actions (move_sum m k s x) (λ i h.
      let top = max_tuples-is s.size (action_at m i).count (action_sum m k s (action_at m i)) here.some in
      le_trans (le_of_eq (sym top.value)) (c.highest (move i top.point) (record { action-is = h; objects-are = top.inside }))))

  pub first-steps : (x : Move) → FirstHighest m k s x → StepsBy m k s x
  unfolding bellman action_sum
  first-steps x c = record {
    chosen = c;
    step = step-highest x c;
    next = ap (λ (n : ℕ). scale m ^ suc k * reward_in m s + n) (sym (step-highest x c));
  }

-- ===== The choice =====

module _ (ar : List ℕ) (s : State) (i : ℕ) (q : Diagram) (f : Move → ℕ) where
  binding-is : (os : List ℕ) → number s os (meaning ar q) ≡ f (move i os) → Accepted (λ (x : ℕ). x ≡ f (move i os)) (binding_value ar s q os)
  unfolding binding_value
  binding-is os e = accepted-cond (is_too_large ar s os (listing q)) Valuations (ok (number s os (meaning ar q))) (λ z. accepted-ok e)

  bindings-lead : (l : List (List ℕ)) → ((os : List ℕ) → Memᴰ os l → number s os (meaning ar q) ≡ f (move i os)) → (best : Rated)
      → Accepted (λ (r : Rated). r ≡ lead f best (map (move i) l)) (bindings_best ar s i q l best)
  unfolding bindings_best lead
  bindings-lead [] h best = accepted-ok refl
  bindings-lead (os ∷ l) h best =
      accepted-then (binding_value ar s q os) (binding-is os (h os (Memᴰ.head refl))) (λ x e.
      accepted-mono (bindings-lead l (λ p j. h p (Memᴰ.tail j)) (better best (rated (move i os) x)))
      (λ r z. z ∙ ap (λ (n : ℕ). lead f (better best (rated (move i os) n)) (map (move i) l)) e))

module _ (m : Model) (good : GoodModel m) (k : ℕ) (d : Diagram) (vals : Values m.arities (bellman m k) d) (s : State) (here : Good s) where
  -- a regressed sum's number, with the objects of a move for the parameters, is the move's sum
  sum_is : (a : Action) → GoodAction m.arities a
      → Accepted (λ (q : Diagram). (os : List ℕ) → Tuple s.size a.count os → number s os (meaning m.arities q) ≡ action_sum m k s a os) (sum_calls m d a)
  unfolding action_sum
  sum_is a g = accepted-mono
      (variants-sum m.arities good.arities m.numerator (let u = good.numerator-few in let v = good.denominator-few in omega arith) (bellman m k) d vals
      a.count g.few a.variants g.variants (λ s os. 0) (leaf 0) (leaf-has m.arities a.count 0 good.arities (omega arith)))
      (λ q h os t. number-equal s os here (bound-tuple here t) (meaning m.arities q) _ (h.numbers s here os t) ∙ zero-add (action_sum m k s a os))

  at-move : (i : ℕ) (a : Action) (l : List Action) → From m i (a ∷ l) → (os : List ℕ) → action_sum m k s a os ≡ move_sum m k s (move i os)
  unfolding move_sum
  at-move i a l r os = ap (λ (b : Action). action_sum m k s b os) (from-head r)

  -- the answer is the best of the row of moves
  moves-lead : (i : ℕ) (l : List Action) → From m i l → Every (GoodAction m.arities) l → (best : Rated)
      → Accepted (λ (r : Rated). r ≡ lead (move_sum m k s) best (moves_from s.size i l)) (moves_best m s d i l best)
  unfolding moves_best moves_from lead
  moves-lead i [] r g best = accepted-ok refl
  moves-lead i (a ∷ l) r g best =
      accepted-then (sum_calls m d a) (sum_is a g.0) (λ q h.
      accepted-then (bindings_best m.arities s i q (tuples s.size a.count) best)
      (bindings-lead m.arities s i q (move_sum m k s) (tuples s.size a.count)
      (λ os j. h os (in-tuples s.size a.count os j) ∙ at-move i a l r os) best) (λ b e.
      accepted-mono (moves-lead (suc i) l (from_tail r) g.1 b) (λ z p.
      p ∙ ap (λ (c : Rated). lead (move_sum m k s) c (moves_from s.size (suc i) l)) e
      ∙ sym (lead-append (move_sum m k s) best (map (move i) (tuples s.size a.count)) (moves_from s.size (suc i) l)))))

  row_first : 0 < length m.actions → FirstHighest m k s (lead (move_sum m k s) (rated (first_move m) 0) (moves_from s.size 0 m.actions)).move
  row_first some = go (lead (move_sum m k s) (rated (first_move m) 0) row) (lead-bound (move_sum m k s) (rated (first_move m) 0) row).1
      (lead-won (move_sum m k s) (rated (first_move m) 0) row (moves_from-order m s 0 m.actions (from_all m)))
    where
      row : List Move
      row = moves_from s.size 0 m.actions

      in_row : (y : Move) → IsMove m s y → Memᴰ y (moves_from s.size 0 m.actions)
      in_row y h = moves_from-in m s 0 m.actions (from_all m) y (omega arith) h

      go : (r : Rated) → ((y : Move) → Memᴰ y (moves_from s.size 0 m.actions) → move_sum m k s y ≤ r.sum)
          → (r ≡ rated (first_move m) 0) ⊎ Won (move_sum m k s) (rated (first_move m) 0) (moves_from s.size 0 m.actions) r → FirstHighest m k s r.move
      go r above (inl e) = subst (λ (z : Rated). FirstHighest m k s z.move) (sym e) (record {
        is_move = first-is m s some here.some;
        highest = λ y h. let z = above y (in_row y h) in let n = ap (λ (z : Rated). z.sum) e in omega arith;
        first = λ y h b. absurd (first-none m y b);
      })
      go r above (inr w) = record {
        is_move = (in-moves_from m s 0 m.actions (from_all m) r.move w.member).1;
        highest = λ y h. let z = above y (in_row y h) in let n = w.value in omega arith;
        first = λ y h b. let z = w.first y (in_row y h) b in let n = w.value in omega arith;
      }

  first-best : 0 < length m.actions → Accepted (FirstHighest m k s) (best_answer m s d)
  unfolding best_answer
  first-best some =
      accepted-then (moves_best m s d 0 m.actions (rated (first_move m) 0)) (moves-lead 0 m.actions (from_all m) good.actions (rated (first_move m) 0)) (λ b e.
      accepted-ok (subst (λ (c : Rated). FirstHighest m k s c.move) (sym e) (row_first some)))

  -- with a value diagram of the values Mk, the move that is answered is the first whose sum is highest, and that sum is the step's
  pub best-steps : 0 < length m.actions → (x : Move) → best_answer m s d ≡ ok x → StepsBy m k s x
  best-steps some x e = first-steps m k s here x ((first-best some).given x e)

  -- "so a desk that follows it gets the value that the next backup, if accepted, states"
  pub best-backup : 0 < length m.actions → (x : Move) → best_answer m s d ≡ ok x → (d' : Diagram) → backup m k d ≡ ok d'
      → number s [] (meaning m.arities d') ≡ scale m ^ suc k * reward_in m s + move_sum m k s x
  best-backup some x e d' b =
      number-equal s [] here (bound-none s here) (meaning m.arities d') _ (((backup-is m good k d vals).given d' b).numbers s here)
      ∙ (best-steps some x e).next

-- so behind every list of backups, cuts and reductions, refused ones among them, in every state
pub best-run : (m : Model) → GoodModel m → 0 < length m.actions → (l : List Call) (s : State) → Good s → (x : Move)
    → best_answer m s (run m l).diagram ≡ ok x → StepsBy m (run m l).steps s x
best-run m good some l s here x e = best-steps m good (run m l).steps (run m l).diagram (run-right m good l) s here some x e
