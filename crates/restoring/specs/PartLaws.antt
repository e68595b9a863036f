-- Each part of the test is true exactly if the words are what it says.
use Rattle.std.specs.Prelude.{◌≡◌, refl, Bool, true, false, not, ◌&&◌, ◌||◌, cond, List, [], ◌∷◌, ◌++◌, ℕ, zero, suc, ◌+◌, ◌*◌, ◌-◌, ◌/◌, ◌^◌, ◌≤◌, ◌<◌, length, get_or, take, eqb, ltb, leb}
use Rattle.std.proofs.Common.{sym, ap, subst, ◌∙◌, arith, eqb-true, eq-eqb, ne_eqb, ltb-true, ltb-false, leb-false}
use Rattle.std.proofs.lemmas.Bool.{eqb-false, lt-leb, not-false}
use Rattle.basics.specs.Tests.{Flag, is_true, is_false, flag, and_left}
use Rattle.basics.specs.Members.{clash}
use Rattle.label.specs.Limits.{constant_count, predicate_count, parameter_count}
use Rattle.label.specs.Labels.{are_arities}
use Rattle.diagram.specs.Sizes.{result_words, highest_value}
use Rattle.listing.specs.Check.{Decides}
use Rattle.state.specs.Lent.{fact_words, is_state, most_facts, most_objects}
use Rattle.names.specs.Many.{many}
use Rattle.names.specs.ManyLaws.{length-many}
use Rattle.mdp.specs.Model.{Action, most_total, most_denominator, most_actions, most_variants}
use Rattle.mdp.specs.Backup.{most_steps}
use Rattle.names.specs.Layout.{name_words}
use Rattle.session.specs.declared.Part.{Part}
use Rattle.session.specs.declared.Part.TheVariants.{Model, Run}
use Rattle.session.specs.Good.{most_variant_names, LastAction, variant_count, GoodLog}
use Rattle.declare.specs.declared.Counts.{Counts}
use Rattle.facts.specs.declared.Live.{Live}
use Rattle.facts.specs.Words.{part, facts_base, state_words, live_of}
use Rattle.model.specs.declared.Head.{Head}
use Rattle.model.specs.Layout.{listing_words, table_words, action_words, variant_place, variant_at, variants_of, action_at, reward_words}
use Rattle.model_entry.specs.Building.{variants_before}
use Rattle.model_entry.specs.NameLaws.{variants-before}
use Rattle.planner.specs.declared.RunNumbers.{RunNumbers}
use Rattle.memory.specs.declared.Numbers.{Numbers}
use Rattle.memory.specs.Memory.{Memory, Rooms}
use Rattle.checking.specs.DecisionLaws.{on, both, unless, at_most, less, equal, is_true_lem, every}
use Rattle.checking.specs.FittingLaws.{IsValue, value-is, FitAction, actions-are}
use Rattle.restoring.specs.Restoring.{rooms_fit, counts_fit, arities_fit, head_fits, reward_fits, last_fits, model_fits, log_fits, state_fits, run_fits, part_fits}

pub rooms-are : (w : Memory)
    → Decides (rooms_fit (length w.names) (length w.arities) (length w.listings) (length w.table) (length w.state) (length w.value)) (Rooms w)
unfolding rooms_fit
rooms-are w =
    on (both (at_most name_words (length w.names))
    (λ a. both (equal (length w.arities) predicate_count)
    (λ b. both (at_most listing_words (length w.listings))
    (λ c. both (at_most table_words (length w.table))
    (λ d. both (at_most state_words (length w.state))
    (λ e. at_most result_words (length w.value)))))))
    (λ x. record { names = x.0; arities = x.1.0; listings = x.1.1.0; table = x.1.1.1.0; state = x.1.1.1.1.0; value = x.1.1.1.1.1 })
    (λ r. (r.names, (r.arities, (r.listings, (r.table, (r.state, r.value))))))

-- ===== The model =====

pub record CountsFit (n : Counts) : Type 0 where
  pub constants : n.constants ≤ constant_count
  pub predicates : n.predicates < predicate_count
  pub actions : n.actions ≤ most_actions
  pub parameters : n.parameters ≤ parameter_count
  pub variants : n.variants ≤ most_variants
  pub earlier : n.earlier + n.variants ≤ most_variant_names

pub counts-are : (n : Counts) → Decides (counts_fit n) (CountsFit n)
unfolding counts_fit
counts-are n =
    on (both (at_most n.constants constant_count)
    (λ a. both (less n.predicates predicate_count)
    (λ b. both (at_most n.actions most_actions)
    (λ c. both (at_most n.parameters parameter_count)
    (λ d. both (at_most n.variants most_variants)
    (λ e. at_most (n.earlier + n.variants) most_variant_names))))))
    (λ x. record { constants = x.0; predicates = x.1.0; actions = x.1.1.0; parameters = x.1.1.1.0; variants = x.1.1.1.1.0; earlier = x.1.1.1.1.1 })
    (λ r. (r.constants, (r.predicates, (r.actions, (r.parameters, (r.variants, r.earlier))))))

pub record AritiesFit (ar : List ℕ) (n : ℕ) : Type 0 where
  pub arities : are_arities ar ≡ true
  pub undeclared : (p : ℕ) → n < p → get_or ar p 0 ≡ 0

-- there is no word behind the last
get_d_past : (l : List ℕ) (i : ℕ) → length l ≤ i → get_or l i 0 ≡ 0
get_d_past [] i h = refl
get_d_past (x ∷ l) zero h = absurd (omega arith)
get_d_past (x ∷ l) (suc i) h = get_d_past l i (omega arith)

pub arities-long : (ar : List ℕ) → are_arities ar ≡ true → length ar ≡ predicate_count
unfolding are_arities
arities-long ar e = eqb-true (length ar) predicate_count (and_left (eqb (length ar) predicate_count) _ e)

pub arities-are : (ar : List ℕ) (n : ℕ) → Decides (arities_fit ar n) (AritiesFit ar n)
unfolding arities_fit
arities-are ar n =
    on (both (is_true_lem (are_arities ar))
    (λ e. every predicate_count (λ p. leb p n || eqb (get_or ar p 0) 0) (λ p. leb p n ≡ false → get_or ar p 0 ≡ 0) (λ p h. unless (leb p n) (equal (get_or ar p 0) 0))))
    (λ x. record { arities = x.0; undeclared = λ p h. past x.0 x.1 p h (flag (ltb p predicate_count)) })
    (λ r. (r.arities, λ p h f. r.undeclared p (leb-false p n f)))
  where
    past : are_arities ar ≡ true → ((p : ℕ) → p < predicate_count → leb p n ≡ false → get_or ar p 0 ≡ 0) → (p : ℕ) → n < p → Flag (ltb p predicate_count) → get_or ar p 0 ≡ 0
    past e f p h (is_true q) = f p (ltb-true p predicate_count q) (lt-leb p n h)
    past e f p h (is_false q) = let k = ltb-false p predicate_count q in get_d_past ar p (omega (arith, arities-long ar e))

pub record HeadFit (h : Head) : Type 0 where
  pub total-some : 1 ≤ h.total
  pub total-few : h.total ≤ most_total
  pub denominator-some : 1 ≤ h.denominator
  pub denominator-few : h.denominator ≤ most_denominator
  pub numerator-few : h.numerator ≤ h.denominator
  pub actions : h.actions ≤ most_actions
  pub words : h.words ≤ listing_words
  pub whole : h.words / 3 * 3 ≡ h.words
  pub reward : h.reward_start + h.reward_words ≤ h.words

pub head-is : (h : Head) → Decides (head_fits h) (HeadFit h)
unfolding head_fits
head-is h =
    on (both (at_most 1 h.total)
    (λ a. both (at_most h.total most_total)
    (λ b. both (at_most 1 h.denominator)
    (λ c. both (at_most h.denominator most_denominator)
    (λ d. both (at_most h.numerator h.denominator)
    (λ e. both (at_most h.actions most_actions)
    (λ f. both (at_most h.words listing_words)
    (λ g. both (equal (h.words / 3 * 3) h.words)
    (λ i. at_most (h.reward_start + h.reward_words) h.words)))))))))
    (λ x. record {
      total-some = x.0;
      total-few = x.1.0;
      denominator-some = x.1.1.0;
      denominator-few = x.1.1.1.0;
      numerator-few = x.1.1.1.1.0;
      actions = x.1.1.1.1.1.0;
      words = x.1.1.1.1.1.1.0;
      whole = x.1.1.1.1.1.1.1.0;
      reward = x.1.1.1.1.1.1.1.1;
    })
    (λ r. (r.total-some, (r.total-few, (r.denominator-some, (r.denominator-few, (r.numerator-few, (r.actions, (r.words, (r.whole, r.reward)))))))))

pub record RewardFit (ar listings : List ℕ) (h : Head) (accepted : Bool) : Type 0 where
  pub words : accepted ≡ not (eqb h.reward_words 0)
  pub value : accepted ≡ true → IsValue ar (reward_words listings h)

pub reward-is : (ar listings : List ℕ) (h : Head) (a : Bool) → Decides (reward_fits ar listings h a) (RewardFit ar listings h a)
unfolding reward_fits
reward-is ar listings h true =
    on (both (is_true_lem (not (eqb h.reward_words 0))) (λ e. value-is ar (reward_words listings h)))
    (λ x. record { words = sym x.0; value = λ e. x.1 })
    (λ r. (sym r.words, r.value refl))
reward-is ar listings h false =
    on (equal h.reward_words 0)
    (λ z. record { words = sym (ap not (eq-eqb h.reward_words 0 z)); value = λ e. clash e refl })
    (λ r. eqb-true h.reward_words 0 (not-false (eqb h.reward_words 0) (sym r.words)))

-- ===== The last action =====

last_more : (l : List Action) (a : Action) (c v : ℕ) → (a.count ≡ c) × (length a.variants ≡ v) → LastAction (l ++ (a ∷ [])) c v
last_more [] a c v h = h
last_more (x ∷ []) a c v h = h
last_more (x ∷ y ∷ l) a c v h = last_more (y ∷ l) a c v h

more-last : (l : List Action) (a : Action) (c v : ℕ) → LastAction (l ++ (a ∷ [])) c v → (a.count ≡ c) × (length a.variants ≡ v)
more-last [] a c v h = h
more-last (x ∷ []) a c v h = h
more-last (x ∷ y ∷ l) a c v h = more-last (y ∷ l) a c v h

pub record LastFit (listings table : List ℕ) (n : Counts) (actions : ℕ) : Type 0 where
  pub count : n.actions ≡ actions
  pub last : LastAction (many (action_at listings table) actions) n.parameters n.variants
  pub all : n.earlier + n.variants ≡ variant_count (many (action_at listings table) actions)

last-at : (listings table : List ℕ) (k c v : ℕ)
    → Decides (eqb (get_or table (k * action_words) 0) c && eqb (variants_of table k) v) (LastAction (many (action_at listings table) k ++ (action_at listings table k ∷ [])) c v)
unfolding action_at
last-at listings table k c v =
    let m = length-many (λ w. variant_at listings table (variant_place k w)) (variants_of table k) in
    on (both (equal (get_or table (k * action_words) 0) c) (λ e. equal (variants_of table k) v))
    (λ x. last_more (many (action_at listings table) k) (action_at listings table k) c v (x.0, m ∙ x.1))
    (λ h. let r = more-last (many (action_at listings table) k) (action_at listings table k) c v h in (r.0, sym m ∙ r.1))

abbrev last_test : List ℕ → ℕ → ℕ → ℕ → Bool
last_test table k c v = eqb (get_or table (k * action_words) 0) c && eqb (variants_of table k) v

last-acted : (listings table : List ℕ) (c v k : ℕ)
    → Decides (cond (eqb k 0) (eqb v 0) (last_test table (k - 1) c v)) (LastAction (many (action_at listings table) k) c v)
unfolding many
last-acted listings table c v zero = equal v 0
last-acted listings table c v (suc k) =
    let e : eqb (suc k) 0 ≡ false = ne_eqb (suc k) 0 (λ z. omega (arith, z)) in
    let m : k ≡ suc k - 1 = omega arith in
    let l : List Action = many (action_at listings table) k ++ (action_at listings table k ∷ []) in
    subst (λ (b : Bool). Decides (cond b (eqb v 0) (last_test table (suc k - 1) c v)) (LastAction l c v)) (sym e)
    (subst (λ (j : ℕ). Decides (last_test table j c v) (LastAction l c v)) m (last-at listings table k c v))

last-is : (listings table : List ℕ) (n : Counts) (actions : ℕ) → Decides (last_fits table n actions) (LastFit listings table n actions)
unfolding last_fits
last-is listings table n actions =
    let m = variants-before listings table actions in
    on (both (equal n.actions actions)
    (λ e. both (last-acted listings table n.parameters n.variants actions)
    (λ f. equal (n.earlier + n.variants) (variants_before table actions))))
    (λ x. record { count = x.0; last = x.1.0; all = x.1.1 ∙ m })
    (λ l. (l.count, (l.last, l.all ∙ sym m)))

-- ===== The state and the run =====

pub log_is : (s : List ℕ) (l : Live) → Decides (log_fits l) (GoodLog (live_of s l))
unfolding log_fits live_of
log_is s l =
    on (both (at_most l.count highest_value)
    (λ a. both (at_most l.total highest_value)
    (λ b. unless (not (eqb l.count 0)) (equal l.total 0))))
    (λ x. record { count = x.0; total = x.1.0; none = λ z. x.1.1 (ap not (eq-eqb l.count 0 z)) })
    (λ r. (r.count, (r.total, λ f. r.none (eqb-true l.count 0 (not-false (eqb l.count 0) f)))))

pub record StateFit (ar s : List ℕ) (l : Live) : Type 0 where
  pub objects : l.objects ≤ most_objects
  pub facts : l.facts ≤ most_facts
  pub log : GoodLog (live_of s l)
  pub state : 1 ≤ l.objects → is_state ar l.objects (part s 0 constant_count) (part s facts_base (l.facts * fact_words)) ≡ true

pub state-is : (ar s : List ℕ) (l : Live) → Decides (state_fits ar s l) (StateFit ar s l)
unfolding state_fits
state-is ar s l =
    on (both (at_most l.objects most_objects)
    (λ a. both (at_most l.facts most_facts)
    (λ b. both (log_is s l)
    (λ c. unless (eqb l.objects 0) (is_true_lem (is_state ar l.objects (part s 0 constant_count) (part s facts_base (l.facts * fact_words))))))))
    (λ x. record { objects = x.0; facts = x.1.0; log = x.1.1.0; state = λ h. x.1.1.1 (ne_eqb l.objects 0 (λ z. omega (arith, h, z))) })
    (λ r. (r.objects, (r.facts, (r.log, λ f. r.state (let z = eqb-false l.objects 0 f in omega arith)))))

pub record RunFit (ar value : List ℕ) (h : Head) (v : RunNumbers) : Type 0 where
  pub diagram : IsValue ar (take (v.rows * 3) value)
  pub steps : v.steps ≤ most_steps
  pub power : v.power ≡ (h.total * h.denominator) ^ v.steps

run_is : (ar value : List ℕ) (h : Head) (v : RunNumbers) → Decides (run_fits ar value h v) (RunFit ar value h v)
unfolding run_fits
run_is ar value h v =
    on (both (value-is ar (take (v.rows * 3) value)) (λ a. both (at_most v.steps most_steps) (λ b. equal v.power ((h.total * h.denominator) ^ v.steps))))
    (λ x. record { diagram = x.0; steps = x.1.0; power = x.1.1 })
    (λ r. (r.diagram, (r.steps, r.power)))

pub record PartFit (n : Numbers) (ar value : List ℕ) (p : Part) : Type 0 where
  pub quiet : p ≡ Model → n.live.objects ≡ 0
  pub rewarded : p ≡ Run → n.reward ≡ true
  pub acting : p ≡ Run → 1 ≤ n.head.actions
  pub run : p ≡ Run → RunFit ar value n.head n.held

pub part-is : (n : Numbers) (ar value : List ℕ) (p : Part) → Decides (part_fits n ar value p) (PartFit n ar value p)
unfolding part_fits
part-is n ar value Model =
    on (equal n.live.objects 0)
    (λ z. record { quiet = λ e. z; rewarded = λ e. absurd (apart e); acting = λ e. absurd (apart e); run = λ e. absurd (apart e) })
    (λ r. r.quiet refl)
  where
    apart : Model ≡ Run → ⊥
    apart e = let z : ◌≡◌ {A = ℕ} 0 1 = cc in omega arith
part-is n ar value Run =
    on (both (is_true_lem n.reward) (λ e. both (at_most 1 n.head.actions) (λ f. run_is ar value n.head n.held)))
    (λ x. record { quiet = λ e. absurd (apart e); rewarded = λ e. x.0; acting = λ e. x.1.0; run = λ e. x.1.1 })
    (λ r. (r.rewarded refl, (r.acting refl, r.run refl)))
  where
    apart : Run ≡ Model → ⊥
    apart e = let z : ◌≡◌ {A = ℕ} 0 1 = cc in omega arith

pub record ModelFit (n : Numbers) (ar listings table : List ℕ) : Type 0 where
  pub counts : CountsFit n.counts
  pub arities : AritiesFit ar n.counts.predicates
  pub head : HeadFit n.head
  pub reward : RewardFit ar listings n.head n.reward
  pub actions : (a : ℕ) → a < n.head.actions → FitAction ar listings table n.head.words a
  pub last : LastFit listings table n.counts n.head.actions

pub model_is : (n : Numbers) (ar listings table : List ℕ) → Decides (model_fits n ar listings table) (ModelFit n ar listings table)
unfolding model_fits
model_is n ar listings table =
    on (both (counts-are n.counts)
    (λ a. both (arities-are ar n.counts.predicates)
    (λ b. both (head-is n.head)
    (λ c. both (reward-is ar listings n.head n.reward)
    (λ d. both (actions-are ar listings table n.head.words n.head.actions)
    (λ e. last-is listings table n.counts n.head.actions))))))
    (λ x. record { counts = x.0; arities = x.1.0; head = x.1.1.0; reward = x.1.1.1.0; actions = x.1.1.1.1.0; last = x.1.1.1.1.1 })
    (λ r. (r.counts, (r.arities, (r.head, (r.reward, (r.actions, r.last))))))
