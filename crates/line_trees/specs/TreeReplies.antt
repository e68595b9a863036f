-- What a line is answered, by its tree (document 01, sections 'Text' and 'Refusals by trade word'): 'A line is checked 1, 5, then word by word 2, 3, 6, 4, with 3
-- found at the predicate's own word; then its diagram 8, then 10, 11, 9 at each row step in turn, 9 for its result, 7; last 9 for declarations, facts and model
-- rows'.
use Rattle.std.specs.Prelude.{not, ◌||◌, List, [], map, ℕ, length, get_or, ltb, leb, eqb}
use Rattle.refusal.specs.declared.Refusal.TheVariants.{Form, Name, Arity, Truth, Space}
use Rattle.refusal.specs.Outcome.{Outcome, ok, and_then}
use Rattle.words.specs.Bytes.{value_of}
use Rattle.words.specs.Keys.{key_of}
use Rattle.words.specs.declared.Key.{Key}
use Rattle.names.specs.Keys.{is_among}
use Rattle.forms.specs.Tree as T
use Rattle.text.specs.declared.Kind.{Kind}
use Rattle.text.specs.declared.Kind.TheVariants as K
use Rattle.text.specs.Line.{Words, Line}
use Rattle.text.specs.Line.Line.{line}
use Rattle.diagram.specs.Diagram.{Diagram}
use Rattle.diagram.specs.Rows.{rows}
use Rattle.regression.specs.RegressCall.{leaf_above}
use Rattle.reading.specs.Reading.{arguments}
use Rattle.build.specs.Build.{text_diagram, reward_diagram}
use Rattle.cutting.specs.Cut.{diagram_answer}
use Rattle.mdp.specs.Model.{most_variants}
use Rattle.mdp.specs.Runs.{a_backup, a_cut, a_reduce, call}
use Rattle.answers.specs.declared.Answer.TheVariants as A
use Rattle.session.specs.Place.{rule_of}
use Rattle.session.specs.Session.{Session, with_names, with_live, refuse_if}
use Rattle.session.specs.Declaring.{constant_line, predicate_line, with_vocabulary, total_line, with_total, discount_line, with_discount, repeated, action_line, with_action}
use Rattle.session.specs.Facts.{predicate_of, objects_line, is_line, true_line}
use Rattle.session.specs.ModelLines.{most_model_rows, rows_with, with_reward, with_variant, truths_now, is_some, with_truth}
use Rattle.session.specs.Replaying.{did_line}
use Rattle.session.specs.Running.{start_line, value_read, backup_is, cut_is, reduce_is, form_read, best_read, count_read}
use Rattle.session.specs.Replies.{Reply, allowed, refusal, quietly, value_says, call_says, text_says, best_says, count_says, did_says, at_place}
use Rattle.line_trees.specs.TreeReading.{reward_variables, read_tree}

-- (reward DIAGRAM): no parameter, any variables, of each kind by ascending N where each is written so; its row steps, closed up; last 9 for model rows
unfoldable pub reward_tree : Session → T.Diagram → Outcome Diagram
unfolding read_tree reward_diagram rows
reward_tree σ d =
    and_then (read_tree σ [] (reward_variables d) d) (λ r.
    and_then (reward_diagram σ.model.arities r) (λ x.
    refuse_if (ltb most_model_rows (rows_with σ.rows x)) Space
    (ok x)))

-- (variant n WEIGHT): 2 at its name; no variable; its row steps; last 9 for 8 variants and model rows
unfoldable pub weight_tree : Session → Key → T.Diagram → Outcome Diagram
unfolding is_among read_tree text_diagram rows
weight_tree σ k d =
    refuse_if (is_among k σ.names.variants) Name
    (and_then (read_tree σ σ.names.parameters (arguments []) d) (λ r.
    and_then (text_diagram r) (λ x.
    refuse_if (leb most_variants (length σ.names.variants) || ltb most_model_rows (rows_with σ.rows x)) Space
    (ok x))))

-- (becomes (p ?a ..) DIAGRAM): at p 2 (undeclared, or it has one already), then 3; 2 at a repeated argument; the arguments are the only variables, numbered in
-- their order; its row steps; 7; last 9 for model rows
unfoldable pub truth_tree : Session → Key → List Key → T.Diagram → Outcome Diagram
unfolding is_among repeated read_tree text_diagram leaf_above rows
truth_tree σ k vs d =
    refuse_if (not (is_among k σ.names.predicates) || is_some (truths_now σ.model.actions (predicate_of σ.names k))) Name
    (refuse_if (not (eqb (length vs) (get_or σ.model.arities (predicate_of σ.names k) 0))) Arity
    (refuse_if (repeated [] vs) Name
    (and_then (read_tree σ σ.names.parameters (arguments vs) d) (λ r.
    and_then (text_diagram r) (λ x.
    refuse_if (leaf_above 1 x) Truth
    (refuse_if (ltb most_model_rows (rows_with σ.rows x)) Space
    (ok x)))))))

-- what a line of each kind does and is answered, where it stands where it may; no tree is of the last kind
unfoldable pub tree_done : Session → ℕ → (k : Kind) → Words k → Reply
unfolding key_of value_of constant_line predicate_line total_line discount_line action_line reward_tree with_reward weight_tree with_variant truth_tree with_truth
    start_line objects_line is_line true_line with_vocabulary with_total with_discount with_action value_read call diagram_answer form_read best_read count_read
    did_line rows
tree_done σ number K.Constant n = quietly σ number (with_names σ) (constant_line σ.names (key_of n))
tree_done σ number K.Predicate w =
    quietly σ number (with_vocabulary σ) (predicate_line (record { names = σ.names; arities = σ.model.arities }) (key_of w.0) (value_of w.1))
tree_done σ number K.Total n = quietly σ number (with_total σ) (total_line (value_of n))
tree_done σ number K.Discount w = quietly σ number (with_discount σ) (discount_line (value_of w.0) (value_of w.1))
tree_done σ number K.Reward d = quietly σ number (with_reward σ) (reward_tree σ d)
tree_done σ number K.Action w = quietly σ number (with_action σ) (action_line σ.names (key_of w.0) (map key_of w.1))
tree_done σ number K.Variant w = quietly σ number (with_variant σ (key_of w.0)) (weight_tree σ (key_of w.0) w.1)
tree_done σ number K.Becomes w =
    quietly σ number (with_truth σ (predicate_of σ.names (key_of w.0))) (truth_tree σ (key_of w.0) (map key_of w.1) w.2)
tree_done σ number K.Start w = quietly σ number (λ τ. τ) (start_line σ)
tree_done σ number K.Objects n = quietly σ number (with_live σ) (objects_line (value_of n))
tree_done σ number K.Is w = quietly σ number (with_live σ) (is_line σ.names σ.live (key_of w.0) (value_of w.1))
tree_done σ number K.True w =
    quietly σ number (with_live σ) (true_line σ.model.arities σ.names σ.live (key_of w.0) (map value_of w.1))
tree_done σ number K.Value w = value_says σ number (value_read σ.model.arities σ.live σ.held.diagram)
tree_done σ number K.Backup w = call_says σ number backup_is (call σ.model a_backup σ.held)
tree_done σ number K.Cut w = call_says σ number (λ h. cut_is (diagram_answer σ.model.arities σ.held.diagram)) (call σ.model a_cut σ.held)
tree_done σ number K.Show w = record { session = σ; answer = A.Show (length (rows σ.held.diagram)) }
tree_done σ number K.Reduce w = call_says σ number reduce_is (call σ.model a_reduce σ.held)
tree_done σ number K.Text w = text_says σ number (form_read σ.model.arities σ.names σ.held.diagram)
tree_done σ number K.Best w = best_says σ number (best_read σ.model σ.live σ.held.diagram)
tree_done σ number K.Count n = count_says σ number (value_of n) (count_read σ.model σ.names σ.live σ.held.diagram (value_of n))
tree_done σ number K.Did w =
    did_says σ number (did_line σ.model σ.names σ.live (key_of w.0) (key_of w.1) (map value_of w.2))
tree_done σ number K.Bad w = refusal σ number Form

-- line `number` of a text: 5, for (best) also 20, for its place, then the line's own checks
unfoldable pub tree_reply : Session → ℕ → Line → Reply
unfolding allowed tree_done
tree_reply σ number (line k w) = at_place σ number (allowed σ (rule_of k σ.part)) (tree_done σ number k w)
