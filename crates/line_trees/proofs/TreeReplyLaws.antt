-- The reply to the bytes of a well-formed line is what its tree says, and bytes that no tree writes are 1.
use Rattle.std.specs.Prelude.{◌≡◌, ◌≢◌, Bool, true, false, not, ◌||◌, cond, leb, eqb, length, get_or}
use Rattle.std.proofs.Math.Path.{refl, ap}
use Rattle.std.proofs.Common.{◌∙◌, arith, add-one}
use mathlib.Core.List.{List, [], ◌∷◌, map}
use Prim.Native.Nat.{ℕ, ◌+◌, ◌≤◌}
use Rattle.std.proofs.Math.Dec.{ltb}
use Rattle.refusal.specs.declared.Refusal.TheVariants.{Form, Name, Arity, Truth, Space}
use Rattle.refusal.specs.Outcome.{Outcome, ok, refused, and_then}
use Rattle.words.specs.Bytes.{value_of}
use Rattle.words.specs.Keys.{key_of}
use Rattle.words.specs.declared.Key.{Key}
use Rattle.names.specs.Keys.{place_of, is_among}
use Rattle.forms.specs.Tree as T
use Rattle.text.specs.declared.Kind.{Kind}
use Rattle.text.specs.declared.Kind.TheVariants as K
use Rattle.text.specs.Line.{is_bad, Words, GoodWords, open_brackets, Line, line_bytes, GoodLine}
use Rattle.text.specs.Line.Line.{line}
use Rattle.text.specs.LineForm.{line_kind}
use Rattle.text.specs.LineLaws.{line-complete}
use Rattle.text.specs.LineUnique.{line-exact}
use Rattle.diagram.specs.Diagram.{Diagram}
use Rattle.regression.specs.RegressCall.{leaf_above}
use Rattle.events.specs.declared.Event.{Event}
use Rattle.events.specs.Events.{parameter_event, number_event, diagram_events, words_events}
use Rattle.events.specs.LineEvents.{line-events}
use Rattle.events.specs.Contents.{keys_in, numbers_in}
use Rattle.reading.specs.declared.Binding.TheVariants.{Any, None, Only}
use Rattle.reading.specs.Reading.{Environment, Met, arguments, Written, reading}
use Rattle.reading.specs.Numbering.{reward_reading}
use Rattle.reading.specs.Head.{head_number, opened_number, head_arguments}
use Rattle.reading.specs.OccurrenceLaws.{kept_met}
use Rattle.build.specs.Build.{text_diagram, reward_diagram}
use Rattle.build.specs.Machine.{most_tests, built, built_closed}
use Rattle.build.specs.MachineLaws.{built-text, built-reward}
use Rattle.mdp.specs.Model.{most_variants}
use Rattle.session.specs.declared.Part.{Part}
use Rattle.session.specs.declared.Part.TheVariants.{Model, Run}
use Rattle.session.specs.Place.{rule_of}
use Rattle.session.specs.Session.{Session, refuse_if}
use Rattle.session.specs.Declaring.{repeated}
use Rattle.session.specs.Facts.{predicate_of}
use Rattle.session.specs.ModelLines.{most_model_rows, names_for, rows_with, with_reward, reward_read, reward_line, with_variant, weight_read, variant_line}
use Rattle.session.specs.ModelLines.{truths_now, is_some, with_truth, truth_read, becomes_line}
use Rattle.session.specs.Replaying.{did_line}
use Rattle.session.specs.Replies.{Reply, allowed, refusal, quietly, did_says, done, at_place, reply_to, words_of, reply}
use Rattle.line_trees.specs.TreeReading.{first_variables, reward_variables, read_tree}
use Rattle.line_trees.specs.TreeReplies.{reward_tree, weight_tree, truth_tree, tree_done, tree_reply}
use Rattle.line_trees.proofs.VariableLaws.{reading-kept, diagram-keys}
use Rattle.line_trees.proofs.ResolvedLaws.{reads_none, reads_only, reads-any}
use Rattle.line_trees.proofs.TreeReadLaws.{read-built}
use Rattle.line_trees.proofs.TreeHeadLaws.{head-tree}

-- ===== Steps =====

-- a line's outcome, and what an accepted one does
quietly-then : {A B : Type 0} (σ : Session) (number : ℕ) (f : B → Session) (g : A → B) (o : Outcome A)
    → quietly σ number f (and_then o (λ a. ok (g a))) ≡ quietly σ number (λ a. f (g a)) o
quietly-then σ number f g (ok a) = refl
quietly-then σ number f g (refused r) = refl

-- two steps and a last one, then one more
steps_then : {A B C D : Type 0} (o : Outcome A) (f : A → Outcome B) (last : B → Outcome C) (g : C → Outcome D) (both : B → Outcome D)
    → ((b : B) → both b ≡ and_then (last b) g) → and_then o (λ a. and_then (f a) both) ≡ and_then (and_then o (λ a. and_then (f a) last)) g
steps_then {A} {B} o f last g both e = go o
  where
    inner : (x : Outcome B) → and_then x both ≡ and_then (and_then x last) g
    inner (ok b) = e b
    inner (refused r) = refl

    go : (x : Outcome A) → and_then x (λ a. and_then (f a) both) ≡ and_then (and_then x (λ a. and_then (f a) last)) g
    go (ok a) = inner (f a)
    go (refused r) = refl

map_keys : (ps : List (List ℕ)) → keys_in (map parameter_event ps) ≡ map key_of ps
map_keys [] = refl
map_keys (p ∷ ps) = ap (λ (l : List Key). key_of p ∷ l) (map_keys ps)

map-numbers : (os : List (List ℕ)) → numbers_in (map number_event os) ≡ map value_of os
map-numbers [] = refl
map-numbers (o ∷ os) = ap (λ (l : List ℕ). value_of o ∷ l) (map-numbers os)

-- ===== Lines with a diagram =====

module _ (σ : Session) where
  reward-tree : (d : T.Diagram) → T.brackets d ≤ most_tests → reward_read σ.names σ.model.arities σ.rows (diagram_events d) ≡ reward_tree σ d
  unfolding reward_read reward_reading reward_tree
  reward-tree d shallow =
      let last : Diagram → Outcome Diagram = λ x. refuse_if (ltb most_model_rows (rows_with σ.rows x)) Space (ok x) in
      let us : Met = first_variables d in
      let ν = names_for σ.names σ.model.arities Any [] in
      ap (λ (j : Outcome Written). and_then j (λ w. and_then (built_closed σ.model.arities w.operations) last))
      (ap (reading ν (diagram_events d)) (diagram-keys d) ∙ reading-kept ν refl (diagram_events d) us)
      ∙ read-built (built_closed σ.model.arities) (reward_diagram σ.model.arities) (built-reward σ.model.arities)
      σ Any [] (reward_variables d) (kept_met us) d shallow (reads-any σ [] us d) last

  weight-tree : (k : Key) (d : T.Diagram) → T.brackets d ≤ most_tests → weight_read σ.names σ.model.arities σ.rows k (diagram_events d) ≡ weight_tree σ k d
  unfolding weight_read weight_tree
  weight-tree k d shallow =
      ap (refuse_if (is_among k σ.names.variants) Name)
      (read-built built text_diagram built-text σ None σ.names.parameters (arguments []) (arguments []) d shallow (reads_none σ σ.names.parameters d)
      (λ x. refuse_if (leb most_variants (length σ.names.variants) || ltb most_model_rows (rows_with σ.rows x)) Space (ok x)))

  truth-tree : (w : Words K.Becomes) → GoodWords K.Becomes w → T.brackets w.2 ≤ most_tests
      → truth_read σ.names σ.model.arities (truths_now σ.model.actions) σ.rows (words_events K.Becomes w)
      ≡ and_then (truth_tree σ (key_of w.0) (map key_of w.1) w.2) (λ x. ok (predicate_of σ.names (key_of w.0), x))
  unfolding truth_read truth_tree head_number opened_number
  truth-tree w g shallow = declared (is_among (key_of w.0) σ.names.predicates)
    where
      ar : List ℕ
      ar = σ.model.arities

      ps : List Key
      ps = σ.names.parameters

      ν : Environment
      ν = names_for σ.names ar Only ps

      -- the predicate's number, and its arguments
      p : ℕ
      p = predicate_of σ.names (key_of w.0)

      vs : List Key
      vs = map key_of w.1

      paired : Diagram → ℕ × Diagram
      paired x = (p, x)

      -- the last checks
      checks : {A : Type 0} → (Diagram → A) → Diagram → Outcome A
      checks f x = refuse_if (leaf_above 1 x) Truth (refuse_if (ltb most_model_rows (rows_with σ.rows x)) Space (ok (f x)))

      last : (x : Diagram) (b c : Bool) → refuse_if b Truth (refuse_if c Space (ok (paired x))) ≡ and_then (refuse_if b Truth (refuse_if c Space (ok x))) (λ y. ok (paired y))
      last x true c = refl
      last x false true = refl
      last x false false = refl

      -- the diagram by words, behind the head
      by-words : ℕ → List Event → List Key → Outcome (ℕ × Diagram)
      by-words q es us = and_then (reading ν es (arguments us)) (λ u. and_then (built u.operations) (checks {A = ℕ × Diagram} (λ x. (q, x))))

      by-tree : Outcome Diagram
      by-tree = and_then (read_tree σ ps (arguments vs) w.2) (λ r. and_then (text_diagram r) (checks (λ x. x)))

      diagram : by-words p (diagram_events w.2) vs ≡ and_then by-tree (λ x. ok (paired x))
      diagram =
          read-built built text_diagram built-text σ Only ps (arguments vs) (arguments vs) w.2 shallow (reads_only σ ps vs w.2) (checks paired)
          ∙ steps_then (read_tree σ ps (arguments vs) w.2) text_diagram (checks (λ x. x)) (λ x. ok (paired x)) (checks paired)
          (λ x. last x (leaf_above 1 x) (ltb most_model_rows (rows_with σ.rows x)))

      -- the head
      head : (b c : Bool) → refuse_if (not b) Arity (refuse_if c Name (by-words p (diagram_events w.2) vs))
          ≡ and_then (refuse_if (not b) Arity (refuse_if c Name by-tree)) (λ x. ok (paired x))
      head true true = refl
      head true false = diagram
      head false c = refl

      headed : ℕ → Outcome (ℕ × Diagram)
      headed q = and_then (head_arguments (get_or ar q 0) (words_events K.Becomes w)) (λ h. by-words q h.rest h.variables)

      head-by-tree : Outcome Diagram
      head-by-tree = refuse_if (not (eqb (length vs) (get_or ar p 0))) Arity (refuse_if (repeated [] vs) Name by-tree)

      -- it has no truth diagram yet
      new : (b : Bool) → refuse_if b Name (headed p) ≡ and_then (refuse_if b Name head-by-tree) (λ x. ok (paired x))
      new true = refl
      new false = head-tree (get_or ar p 0) w g (by-words p) ∙ head (eqb (length vs) (get_or ar p 0)) (repeated [] vs)

      after : ℕ → Outcome (ℕ × Diagram)
      after q = refuse_if (is_some (truths_now σ.model.actions q)) Name (headed q)

      declared : (b : Bool) → and_then (cond b (ok (place_of (key_of w.0) σ.names.predicates + 1)) (refused Name)) after
          ≡ and_then (refuse_if (not b || is_some (truths_now σ.model.actions p)) Name head-by-tree) (λ x. ok (paired x))
      declared true = ap after (add-one _) ∙ new (is_some (truths_now σ.model.actions p))
      declared false = refl

  -- ===== Each kind of line =====

  done-tree : (number : ℕ) (k : Kind) (w : Words k) → GoodWords k w → open_brackets k w ≤ most_tests → done σ number k (words_events k w) ≡ tree_done σ number k w
  unfolding done tree_done reward_line variant_line becomes_line
  done-tree number K.Constant w g h = refl
  done-tree number K.Predicate w g h = refl
  done-tree number K.Total w g h = refl
  done-tree number K.Discount w g h = refl
  done-tree number K.Reward d g h =
      quietly-then σ number (λ τ. τ) (with_reward σ) (reward_read σ.names σ.model.arities σ.rows (diagram_events d))
      ∙ ap (quietly σ number (with_reward σ)) (reward-tree d (omega arith))
  done-tree number K.Action w g h = rw (map_keys w.1)
  done-tree number K.Variant w g h =
      quietly-then σ number (λ τ. τ) (with_variant σ (key_of w.0)) (weight_read σ.names σ.model.arities σ.rows (key_of w.0) (diagram_events w.1))
      ∙ ap (quietly σ number (with_variant σ (key_of w.0))) (weight-tree (key_of w.0) w.1 (omega arith))
  done-tree number K.Becomes w g h =
      let p : ℕ = predicate_of σ.names (key_of w.0) in
      let f : ℕ × Diagram → Session = λ t. with_truth σ t.0 t.1 in
      quietly-then σ number (λ τ. τ) f (truth_read σ.names σ.model.arities (truths_now σ.model.actions) σ.rows (words_events K.Becomes w))
      ∙ ap (quietly σ number f) (truth-tree w g (omega arith))
      ∙ quietly-then σ number f (λ x. (p, x)) (truth_tree σ (key_of w.0) (map key_of w.1) w.2)
  done-tree number K.Start w g h = refl
  done-tree number K.Objects w g h = refl
  done-tree number K.Is w g h = refl
  done-tree number K.True w g h = rw (map-numbers w.1)
  done-tree number K.Value w g h = refl
  done-tree number K.Backup w g h = refl
  done-tree number K.Cut w g h = refl
  done-tree number K.Show w g h = refl
  done-tree number K.Reduce w g h = refl
  done-tree number K.Text w g h = refl
  done-tree number K.Best w g h = refl
  done-tree number K.Count w g h = refl
  done-tree number K.Did w g h =
      ap (λ (os : List ℕ). did_says σ number (did_line σ.model σ.names σ.live (key_of w.0) (key_of w.1) os)) (map-numbers w.2)
  done-tree number K.Bad w g h = refl

-- ===== A line in bytes =====

-- what a well-formed line writes is answered as its tree says
pub reply-tree : (σ : Session) (number : ℕ) (l : Line) → GoodLine l → reply σ number (line_bytes l) ≡ tree_reply σ number l
unfolding reply reply_to tree_reply
reply-tree σ number (line k w) g =
    let s : List ℕ = line_bytes (line k w) in
    ap (λ (j : Kind). reply_to σ number j (words_of j s)) (line-complete (line k w) g)
    ∙ ap (reply_to σ number k) (line-events k w g.0)
    ∙ ap (at_place σ number (allowed σ (rule_of k σ.part))) (done-tree σ number k w g.0 g.1)

-- the kind of lines that are not the grammar; no tree is of it
pub only-bad : (k : Kind) → (is_bad k ≡ false → ⊥) → k ≡ K.Bad
unfolding is_bad
only-bad K.Constant h = absurd (h refl)
only-bad K.Predicate h = absurd (h refl)
only-bad K.Total h = absurd (h refl)
only-bad K.Discount h = absurd (h refl)
only-bad K.Reward h = absurd (h refl)
only-bad K.Action h = absurd (h refl)
only-bad K.Variant h = absurd (h refl)
only-bad K.Becomes h = absurd (h refl)
only-bad K.Start h = absurd (h refl)
only-bad K.Objects h = absurd (h refl)
only-bad K.Is h = absurd (h refl)
only-bad K.True h = absurd (h refl)
only-bad K.Value h = absurd (h refl)
only-bad K.Backup h = absurd (h refl)
only-bad K.Cut h = absurd (h refl)
only-bad K.Show h = absurd (h refl)
only-bad K.Reduce h = absurd (h refl)
only-bad K.Text h = absurd (h refl)
only-bad K.Best h = absurd (h refl)
only-bad K.Count h = absurd (h refl)
only-bad K.Did h = absurd (h refl)
only-bad K.Bad h = refl

bad-reply : (σ : Session) (number : ℕ) (part : Part) (y : Reply) → at_place σ number (allowed σ (rule_of K.Bad part)) y ≡ refusal σ number Form
unfolding allowed
bad-reply σ number Model y = refl
bad-reply σ number Run y = refl

-- bytes that no well-formed line writes are 1
pub reply-unwritten : (σ : Session) (number : ℕ) (s : List ℕ) → s ≢ [] → ((l : Line) → GoodLine l → s ≢ line_bytes l) → reply σ number s ≡ refusal σ number Form
unfolding reply reply_to
reply-unwritten σ number [] some other = absurd (some refl)
reply-unwritten σ number (b ∷ s) some other =
    let bad = only-bad (line_kind (b ∷ s)) (λ h. let x = (line-exact (b ∷ s)).written h in other (line (line_kind (b ∷ s)) x.0) x.1 x.2) in
    ap (λ (k : Kind). reply_to σ number k (words_of k (b ∷ s))) bad ∙ bad-reply σ number σ.part (done σ number K.Bad (words_of K.Bad (b ∷ s)))
