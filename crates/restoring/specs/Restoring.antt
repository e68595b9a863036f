-- Whether words are a session's: a test that computes, part by part (document 01, section 'Text').
use Rattle.std.specs.Prelude.{Bool, not, ◌&&◌, ◌||◌, cond, List, ℕ, ◌+◌, ◌*◌, ◌-◌, ◌/◌, ◌^◌, length, get_or, take, eqb, ltb, leb}
use Rattle.label.specs.Limits.{constant_count, predicate_count, parameter_count}
use Rattle.label.specs.Labels.{are_arities}
use Rattle.diagram.specs.Sizes.{result_words, highest_value}
use Rattle.diagram.specs.Words.{every_below}
use Rattle.state.specs.Lent.{fact_words, is_state, most_facts, most_objects}
use Rattle.mdp.specs.Model.{most_total, most_denominator, most_actions, most_variants}
use Rattle.mdp.specs.Backup.{most_steps}
use Rattle.names.specs.Layout.{name_words}
use Rattle.session.specs.declared.Part.{Part}
use Rattle.session.specs.declared.Part.TheVariants.{Model, Run}
use Rattle.session.specs.Good.{most_variant_names}
use Rattle.model_entry.specs.Building.{variants_before}
use Rattle.declare.specs.declared.Counts.{Counts}
use Rattle.facts.specs.declared.Live.{Live}
use Rattle.facts.specs.Words.{part, facts_base, state_words}
use Rattle.model.specs.declared.Head.{Head}
use Rattle.model.specs.Layout.{listing_words, table_words, action_words, variants_of, reward_words}
use Rattle.planner.specs.declared.RunNumbers.{RunNumbers}
use Rattle.memory.specs.declared.Numbers.{Numbers}
use Rattle.memory.specs.Memory.{Memory}
use Rattle.checking.specs.Fitting.{is_value, actions_fit}

-- tables of these lengths have their room
unfoldable pub rooms_fit : ℕ → ℕ → ℕ → ℕ → ℕ → ℕ → Bool
rooms_fit names arities listings table state value =
    leb name_words names
    && (eqb arities predicate_count
    && (leb listing_words listings
    && (leb table_words table
    && (leb state_words state
    && leb result_words value))))

-- ===== The model =====

-- counts of names within their limits
unfoldable pub counts_fit : Counts → Bool
counts_fit n =
    leb n.constants constant_count
    && (ltb n.predicates predicate_count
    && (leb n.actions most_actions
    && (leb n.parameters parameter_count
    && (leb n.variants most_variants
    && leb (n.earlier + n.variants) most_variant_names))))

-- an arity list, where n predicates are declared: a predicate that is not has arity 0
unfoldable pub arities_fit : List ℕ → ℕ → Bool
unfolding are_arities
arities_fit ar n = are_arities ar && every_below predicate_count (λ p. leb p n || eqb (get_or ar p 0) 0)

-- the model's numbers within their limits; the words in use are whole rows, and the reward's are among them
unfoldable pub head_fits : Head → Bool
head_fits h =
    leb 1 h.total
    && (leb h.total most_total
    && (leb 1 h.denominator
    && (leb h.denominator most_denominator
    && (leb h.numerator h.denominator
    && (leb h.actions most_actions
    && (leb h.words listing_words
    && (eqb (h.words / 3 * 3) h.words
    && leb (h.reward_start + h.reward_words) h.words)))))))

-- the reward, if one was accepted: a value diagram; if not, it has no words
unfoldable pub reward_fits : List ℕ → List ℕ → Head → Bool → Bool
unfolding is_value
reward_fits ar listings h accepted =
    cond accepted (not (eqb h.reward_words 0) && is_value ar (reward_words listings h)) (eqb h.reward_words 0)

-- the last action has the parameters and the variants whose names are kept; without one there are none of a variant
unfoldable pub last_named : List ℕ → Counts → ℕ → Bool
last_named table n actions =
    cond (eqb actions 0) (eqb n.variants 0)
    (eqb (get_or table ((actions - 1) * action_words) 0) n.parameters && eqb (variants_of table (actions - 1)) n.variants)

-- as many actions as names of them, the last one is that of the names, and as many variants of all actions as names of them (document 02, L10)
unfoldable pub last_fits : List ℕ → Counts → ℕ → Bool
unfolding last_named
last_fits table n actions = eqb n.actions actions && (last_named table n actions && eqb (n.earlier + n.variants) (variants_before table actions))

unfoldable pub model_fits : Numbers → List ℕ → List ℕ → List ℕ → Bool
unfolding counts_fit arities_fit head_fits reward_fits last_fits
model_fits n ar listings table =
    counts_fit n.counts
    && (arities_fit ar n.counts.predicates
    && (head_fits n.head
    && (reward_fits ar listings n.head n.reward
    && (actions_fit ar listings table n.head.words n.head.actions
    && last_fits table n.counts n.head.actions))))

-- ===== The state and the run =====

-- count and total of (did ..) lines at most 10^18; no total before the first (document 02, L10)
unfoldable pub log_fits : Live → Bool
log_fits l = leb l.count highest_value && (leb l.total highest_value && (not (eqb l.count 0) || eqb l.total 0))

-- a state that is given is one
unfoldable pub state_fits : List ℕ → List ℕ → Live → Bool
unfolding is_state log_fits
state_fits ar s l =
    leb l.objects most_objects
    && (leb l.facts most_facts
    && (log_fits l
    && (eqb l.objects 0 || is_state ar l.objects (part s 0 constant_count) (part s facts_base (l.facts * fact_words)))))

-- the value diagram, k, and S^k
unfoldable pub run_fits : List ℕ → List ℕ → Head → RunNumbers → Bool
unfolding is_value
run_fits ar value h v =
    is_value ar (take (v.rows * 3) value) && (leb v.steps most_steps && eqb v.power ((h.total * h.denominator) ^ v.steps))

-- in the model no state is given; the run has a reward, an action and a value diagram
unfoldable pub part_fits : Numbers → List ℕ → List ℕ → Part → Bool
unfolding run_fits
part_fits n ar value Model = eqb n.live.objects 0
part_fits n ar value Run = n.reward && (leb 1 n.head.actions && run_fits ar value n.head n.held)

-- numbers and words are a session's
unfoldable pub is_session : Numbers → Memory → Bool
unfolding rooms_fit model_fits state_fits part_fits
is_session n w =
    rooms_fit (length w.names) (length w.arities) (length w.listings) (length w.table) (length w.state) (length w.value)
    && (model_fits n w.arities w.listings w.table
    && (state_fits w.arities w.state n.live
    && (leb (n.held.rows * 3) (length w.value)
    && part_fits n w.arities w.value n.part)))
