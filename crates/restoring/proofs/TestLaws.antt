-- Laws of the test, on the ways through the code.
use mathlib.Core.Path.{◌≡◌, refl, sym, ap, ◌∙◌}
use mathlib.Core.Bool.{Bool, true, false, not, ◌&&◌, ◌||◌, cond, true≢false}
use mathlib.Core.List.{List}
use Prim.Native.Nat.{ℕ, ◌+◌, ◌*◌, ◌-◌, ◌/◌, ◌^◌, ◌≤◌, ◌<◌}
use native.Mathlib.Omega.{arith}
use native.Mathlib.Nat.{mul-le-mul}
use lib.ListN.{length, get_or, take, drop}
use lib.Dec.{eqb, leb}
use borrow.Author.Tests.{le-leb, lt-leb, leb-true, leb-false, lt-ltb, eq-eqb, ne_eqb, not-true, not-false}
use Rattle.basics.specs.Tests.{Flag, is_true, is_false, flag}
use Rattle.label.specs.Limits.{constant_count, predicate_count}
use Rattle.label.specs.Labels.{are_arities}
use Rattle.diagram.specs.Sizes.{result_words, highest_value}
use Rattle.diagram.specs.Words.{every_below}
use Rattle.listing.specs.Check.{Decides}
use Rattle.state.specs.Lent.{fact_words, is_state, most_facts, most_objects}
use Rattle.mdp.specs.Model.{most_actions}
use Rattle.mdp.specs.Backup.{most_steps}
use Rattle.names.specs.Layout.{name_words}
use Rattle.session.specs.declared.Part.TheVariants.{Model, Run}
use Rattle.session.specs.Good.{most_variant_names}
use Rattle.declare.specs.declared.Counts.{Counts}
use Rattle.facts.specs.declared.Live.{Live}
use Rattle.facts.specs.Words.{part, facts_base, state_words}
use Rattle.model.specs.declared.Head.{Head}
use Rattle.model.specs.Layout.{listing_words, table_words, action_words, variants_of}
use Rattle.model_entry.specs.Inner.{FewVariants}
use Rattle.model_entry.specs.Building.{variants_before}
use Rattle.planner.specs.declared.RunNumbers.{RunNumbers}
use Rattle.memory.specs.declared.Numbers.{Numbers}
use Rattle.memory.specs.Memory.{memory_of, Rooms}
use Rattle.checking.specs.Fitting.{is_value, actions_fit}
use Rattle.checking.specs.Lent.{Lent}
use Rattle.checking.proofs.TestLaws.{stops, goes, refused, passed}
use Rattle.restoring.specs.Restoring.{rooms_fit, counts_fit, arities_fit, head_fits, reward_fits, last_named, last_fits, model_fits, log_fits, state_fits, run_fits, part_fits, is_session}
use Rattle.restoring.specs.PartLaws.{head-is, log_is, state-is, counts-are, arities-are, rooms-are, model_is}
use Rattle.checking.specs.DecisionLaws.{decided}
use Rattle.checking.specs.FittingLaws.{actions-are}

-- a test that is decided otherwise too
pub says-no : {b : Bool} {P : Type 0} → Decides b P → (P → ⊥) → false ≡ b
says-no {b} d f = go (flag b)
  where
    go : Flag b → false ≡ b
    go (is_true e) = absurd (f (d.yes e))
    go (is_false e) = sym e

pub says-yes : {b : Bool} {P : Type 0} → Decides b P → P → true ≡ b
says-yes {b} d p = go (flag b)
  where
    go : Flag b → true ≡ b
    go (is_true e) = sym e
    go (is_false e) = absurd (d.no e p)

-- one test refuses; one is passed, and the others decide
first : {b x : Bool} (y : Bool) → b ≡ x → not b ≡ true → false ≡ (x && y)
first y e f = stops y (refused e f)

next : {b x y r : Bool} → b ≡ x → not b ≡ false → r ≡ y → r ≡ (x && y)
next e f q = goes (passed e f) q

-- ===== Rooms =====

module _ (names arities listings table state value : ℕ) where
  pub rooms-names : names < name_words → false ≡ rooms_fit names arities listings table state value
  unfolding rooms_fit
  rooms-names h = stops _ (lt-leb name_words names h)

  module _ (a : name_words ≤ names) where
    pub rooms-arities : (arities ≡ predicate_count → ⊥) → false ≡ rooms_fit names arities listings table state value
    unfolding rooms_fit
    rooms-arities h = goes (le-leb name_words names a) (stops _ (ne_eqb arities predicate_count h))

    module _ (b : arities ≡ predicate_count) where
      pub rooms-listings : listings < listing_words → false ≡ rooms_fit names arities listings table state value
      unfolding rooms_fit
      rooms-listings h = goes (le-leb name_words names a) (goes (eq-eqb arities predicate_count b) (stops _ (lt-leb listing_words listings h)))

      module _ (c : listing_words ≤ listings) where
        pub rooms-table : table < table_words → false ≡ rooms_fit names arities listings table state value
        unfolding rooms_fit
        rooms-table h =
            goes (le-leb name_words names a) (goes (eq-eqb arities predicate_count b) (goes (le-leb listing_words listings c) (stops _ (lt-leb table_words table h))))

        module _ (d : table_words ≤ table) where
          pub rooms-state : state < state_words → false ≡ rooms_fit names arities listings table state value
          unfolding rooms_fit
          rooms-state h =
              goes (le-leb name_words names a) (goes (eq-eqb arities predicate_count b) (goes (le-leb listing_words listings c) (goes (le-leb table_words table d)
              (stops _ (lt-leb state_words state h)))))

          pub rooms-value : state_words ≤ state → leb result_words value ≡ rooms_fit names arities listings table state value
          unfolding rooms_fit
          rooms-value e =
              goes (le-leb name_words names a) (goes (eq-eqb arities predicate_count b) (goes (le-leb listing_words listings c) (goes (le-leb table_words table d)
              (goes (le-leb state_words state e) refl))))

-- ===== The model =====

pub counts-rest : (n : Counts) → n.constants ≤ 16 → n.predicates < 32 → n.actions ≤ 8 → n.parameters ≤ 4 → n.variants ≤ 8
    → leb (n.earlier + n.variants) 64 ≡ counts_fit n
unfolding counts_fit
counts-rest n a b c d e =
    goes (le-leb n.constants 16 a) (goes (lt-ltb n.predicates 32 b) (goes (le-leb n.actions 8 c) (goes (le-leb n.parameters 4 d)
    (goes (le-leb n.variants 8 e) refl))))

pub arity-declared : (p n a : ℕ) → p ≤ n → true ≡ (leb p n || eqb a 0)
arity-declared p n a h = sym (ap (λ (b : Bool). b || eqb a 0) (le-leb p n h))

pub arity-none : (p n : ℕ) {x a : ℕ} → n < p → x ≡ a → eqb x 0 ≡ (leb p n || eqb a 0)
arity-none p n {x} {a} h e = ap (λ (y : ℕ). eqb y 0) e ∙ sym (ap (λ (b : Bool). b || eqb a 0) (lt-leb p n h))

module _ (ar : List ℕ) (n : ℕ) {b : Bool} (e : b ≡ are_arities ar) where
  pub arities-none : not b ≡ true → false ≡ arities_fit ar n
  unfolding arities_fit
  arities-none f = first _ e f

  pub arities-rest : {r : Bool} → not b ≡ false → r ≡ every_below predicate_count (λ p. leb p n || eqb (get_or ar p 0) 0) → r ≡ arities_fit ar n
  unfolding arities_fit
  arities-rest f q = next e f q

pub head-rest : (h : Head) {r : Bool} → 1 ≤ h.total → h.total ≤ 1000000 → 1 ≤ h.denominator → h.denominator ≤ 1000000 → h.numerator ≤ h.denominator → h.actions ≤ 8
    → h.words ≤ 6144 → h.words / 3 * 3 ≡ h.words → r ≡ leb (h.reward_start + h.reward_words) h.words → r ≡ head_fits h
unfolding head_fits
head-rest h a b c d e f g i q =
    goes (le-leb 1 h.total a) (goes (le-leb h.total 1000000 b) (goes (le-leb 1 h.denominator c) (goes (le-leb h.denominator 1000000 d)
    (goes (le-leb h.numerator h.denominator e) (goes (le-leb h.actions 8 f) (goes (le-leb h.words 6144 g) (goes (eq-eqb (h.words / 3 * 3) h.words i) q)))))))

-- the words of a part that begins at i and ends at i + n
part-words : (s : List ℕ) (i n : ℕ) → take (i + n - i) (drop i s) ≡ take n (drop i s)
part-words s i n = let e : i + n - i ≡ n = omega arith in ap (λ (k : ℕ). take k (drop i s)) e

module _ (ar listings : List ℕ) (h : Head) where
  pub reward-none : (a : Bool) → not a ≡ true → eqb h.reward_words 0 ≡ reward_fits ar listings h a
  unfolding reward_fits
  reward-none true f = let z : ◌≡◌ {A = Bool} false true = f in absurd (true≢false (sym z))
  reward-none false f = refl

  pub reward-empty : (a : Bool) → not a ≡ false → h.reward_words ≡ 0 → false ≡ reward_fits ar listings h a
  unfolding reward_fits
  reward-empty true f z = stops _ (ap not (eq-eqb h.reward_words 0 z))
  reward-empty false f z = let y : ◌≡◌ {A = Bool} true false = f in absurd (true≢false y)

  pub reward-some : (a : Bool) {r : Bool} → not a ≡ false → (h.reward_words ≡ 0 → ⊥)
      → r ≡ is_value ar (take (h.reward_start + h.reward_words - h.reward_start) (drop h.reward_start listings)) → r ≡ reward_fits ar listings h a
  unfolding reward_fits
  reward-some true f n q =
      goes (ap not (ne_eqb h.reward_words 0 n)) (q ∙ ap (is_value ar) (part-words listings h.reward_start h.reward_words))
  reward-some false f n q = let y : ◌≡◌ {A = Bool} true false = f in absurd (true≢false y)

module _ (table : List ℕ) (n : Counts) (k : ℕ) where
  abbrev rest : Bool
  rest = eqb (get_or table ((k - 1) * action_words) 0) n.parameters && eqb (variants_of table (k - 1)) n.variants

  pub named_none : k ≡ 0 → eqb n.variants 0 ≡ last_named table n k
  unfolding last_named
  named_none z = sym (ap (λ (b : Bool). cond b (eqb n.variants 0) rest) (eq-eqb k 0 z))

  module _ (f : k ≡ 0 → ⊥) where
    acted : {r : Bool} → r ≡ rest → r ≡ last_named table n k
    unfolding last_named
    acted q = q ∙ sym (ap (λ (b : Bool). cond b (eqb n.variants 0) rest) (ne_eqb k 0 f))

    pub named-parameters : (get_or table ((k - 1) * action_words) 0 ≡ n.parameters → ⊥) → false ≡ last_named table n k
    named-parameters g = acted (stops _ (ne_eqb (get_or table ((k - 1) * action_words) 0) n.parameters g))

    pub named-rest : get_or table ((k - 1) * action_words) 0 ≡ n.parameters → eqb (variants_of table (k - 1)) n.variants ≡ last_named table n k
    named-rest g = acted (goes (eq-eqb (get_or table ((k - 1) * action_words) 0) n.parameters g) refl)

  pub last-other : (n.actions ≡ k → ⊥) → false ≡ last_fits table n k
  unfolding last_fits
  last-other f = stops _ (ne_eqb n.actions k f)

  module _ (e : n.actions ≡ k) {b : Bool} (eb : b ≡ last_named table n k) where
    pub last-unnamed : not b ≡ true → false ≡ last_fits table n k
    unfolding last_fits
    last-unnamed f = goes (eq-eqb n.actions k e) (first _ eb f)

    pub last_rest : {v : ℕ} → not b ≡ false → v ≡ variants_before table k → eqb (n.earlier + n.variants) v ≡ last_fits table n k
    unfolding last_fits
    last_rest f q = goes (eq-eqb n.actions k e) (next eb f (ap (λ (x : ℕ). eqb (n.earlier + n.variants) x) q))

-- counts that passed are few
pub names-few : (n : Counts) → counts_fit n ≡ true → n.earlier + n.variants ≤ most_variant_names
names-few n e = ((counts-are n).yes e).earlier

-- the reward is within the listings
pub reward-within : (h : Head) (room : ℕ) {b : Bool} → b ≡ head_fits h → not b ≡ false → listing_words ≤ room → h.reward_start + h.reward_words ≤ room
reward-within h room e f l = let x = (head-is h).yes (passed e f) in omega (arith, x.reward, x.words)

pub actions-few : (h : Head) {b : Bool} → b ≡ head_fits h → not b ≡ false → h.actions ≤ most_actions
actions-few h e f = ((head-is h).yes (passed e f)).actions

pub actions-lent : (ar listings : List ℕ) (n : ℕ) (h : Head) {a b : Bool} → a ≡ arities_fit ar n → not a ≡ false → b ≡ head_fits h → not b ≡ false
    → listing_words ≤ length listings → Lent ar listings h.words 0
actions-lent ar listings n h p q e f l = record {
  arities = ((arities-are ar n).yes (passed p q)).arities;
  room = let x = (head-is h).yes (passed e f) in omega (arith, x.words);
  parameters = omega arith;
}

pub variants-few : (ar listings table : List ℕ) (h : Head) {a b : Bool} → a ≡ head_fits h → not a ≡ false
    → b ≡ actions_fit ar listings table h.words h.actions → not b ≡ false → table_words ≤ length table → FewVariants table h.actions
variants-few ar listings table h e f p q r = record {
  room = r;
  few = actions-few h e f;
  each = λ i l. ((actions-are ar listings table h.words h.actions).yes (passed p q) i l).few;
}

-- the tests of a model, one after another
abbrev model_tests : Numbers → List ℕ → List ℕ → List ℕ → Bool
model_tests n ar listings table =
    counts_fit n.counts
    && (arities_fit ar n.counts.predicates
    && (head_fits n.head
    && (reward_fits ar listings n.head n.reward
    && (actions_fit ar listings table n.head.words n.head.actions
    && last_fits table n.counts n.head.actions))))

model-tests : (n : Numbers) (ar listings table : List ℕ) {r : Bool} → r ≡ model_tests n ar listings table → r ≡ model_fits n ar listings table
unfolding model_fits
model-tests n ar listings table q = q

module _ (n : Numbers) (ar listings table : List ℕ) {a : Bool} (ea : a ≡ counts_fit n.counts) where
  pub model-counts : not a ≡ true → false ≡ model_fits n ar listings table
  model-counts f = model-tests n ar listings table (first _ ea f)

  module _ (fa : not a ≡ false) {b : Bool} (eb : b ≡ arities_fit ar n.counts.predicates) where
    pub model-arities : not b ≡ true → false ≡ model_fits n ar listings table
    model-arities f = model-tests n ar listings table (next ea fa (first _ eb f))

    module _ (fb : not b ≡ false) {c : Bool} (ec : c ≡ head_fits n.head) where
      pub model-head : not c ≡ true → false ≡ model_fits n ar listings table
      model-head f = model-tests n ar listings table (next ea fa (next eb fb (first _ ec f)))

      module _ (fc : not c ≡ false) {d : Bool} (ed : d ≡ reward_fits ar listings n.head n.reward) where
        pub model-reward : not d ≡ true → false ≡ model_fits n ar listings table
        model-reward f = model-tests n ar listings table (next ea fa (next eb fb (next ec fc (first _ ed f))))

        module _ (fd : not d ≡ false) {e : Bool} (ee : e ≡ actions_fit ar listings table n.head.words n.head.actions) where
          pub model-actions : not e ≡ true → false ≡ model_fits n ar listings table
          model-actions f = model-tests n ar listings table (next ea fa (next eb fb (next ec fc (next ed fd (first _ ee f)))))

          pub model-rest : {r : Bool} → not e ≡ false → r ≡ last_fits table n.counts n.head.actions → r ≡ model_fits n ar listings table
          model-rest fe q = model-tests n ar listings table (next ea fa (next eb fb (next ec fc (next ed fd (next ee fe q)))))

-- ===== The state and the run =====

module _ (l : Live) where
  pub log-count : highest_value < l.count → false ≡ log_fits l
  unfolding log_fits
  log-count h = stops _ (lt-leb l.count highest_value h)

  module _ (a : l.count ≤ highest_value) where
    pub log-total : highest_value < l.total → false ≡ log_fits l
    unfolding log_fits
    log-total h = goes (le-leb l.count highest_value a) (stops _ (lt-leb l.total highest_value h))

    module _ (b : l.total ≤ highest_value) where
      log-last : {r : Bool} → r ≡ (not (eqb l.count 0) || eqb l.total 0) → r ≡ log_fits l
      unfolding log_fits
      log-last q = goes (le-leb l.count highest_value a) (goes (le-leb l.total highest_value b) q)

      pub log-some : (l.count ≡ 0 → ⊥) → true ≡ log_fits l
      log-some f = log-last (sym (ap (λ (x : Bool). not x || eqb l.total 0) (ne_eqb l.count 0 f)))

      pub log-none : l.count ≡ 0 → eqb l.total 0 ≡ log_fits l
      log-none z = log-last (sym (ap (λ (x : Bool). not x || eqb l.total 0) (eq-eqb l.count 0 z)))

pub state-many : (ar s : List ℕ) (l : Live) → most_objects < l.objects → false ≡ state_fits ar s l
state-many ar s l h = says-no (state-is ar s l) (λ f. omega (arith, h, f.objects))

pub state-long : (ar s : List ℕ) (l : Live) → most_facts < l.facts → false ≡ state_fits ar s l
state-long ar s l h = says-no (state-is ar s l) (λ f. omega (arith, h, f.facts))

module _ (ar s : List ℕ) (l : Live) {b : Bool} (e : b ≡ log_fits l) where
  pub state-log : not b ≡ true → false ≡ state_fits ar s l
  state-log f = says-no (state-is ar s l) (λ g. (log_is s l).no (refused e f) g.log)

  module _ (f : not b ≡ false) where
    pub state-none : l.facts ≤ most_facts → l.objects ≡ 0 → true ≡ state_fits ar s l
    state-none h z =
        says-yes (state-is ar s l) (record { objects = omega arith; facts = h; log = (log_is s l).yes (passed e f); state = λ k. absurd (omega (arith, k, z)) })

    pub state-rest : {r : Bool} → l.objects ≤ most_objects → l.facts ≤ most_facts → (l.objects ≡ 0 → ⊥)
        → r ≡ is_state ar l.objects (take constant_count s) (take (facts_base + l.facts * fact_words - facts_base) (drop facts_base s)) → r ≡ state_fits ar s l
    unfolding state_fits
    state-rest a d c q =
        goes (le-leb l.objects most_objects a) (goes (le-leb l.facts most_facts d) (next e f
        (q ∙ ap (is_state ar l.objects (take constant_count s)) (part-words s facts_base (l.facts * fact_words))
        ∙ sym (ap (λ (x : Bool). x || is_state ar l.objects (part s 0 constant_count) (part s facts_base (l.facts * fact_words))) (ne_eqb l.objects 0 c)))))

pub scale-some : (h : Head) → head_fits h ≡ true → 1 ≤ h.total * h.denominator
scale-some h e = let x = (head-is h).yes e in let m : 1 * 1 ≤ h.total * h.denominator = mul-le-mul x.total-some x.denominator-some in omega arith

pub scale-few : (h : Head) → head_fits h ≡ true → h.total * h.denominator ≤ 1000000000000
scale-few h e = let x = (head-is h).yes e in let m : h.total * h.denominator ≤ 1000000 * 1000000 = mul-le-mul x.total-few x.denominator-few in omega arith

module _ (ar value : List ℕ) (h : Head) (v : RunNumbers) {b : Bool} (e : b ≡ is_value ar (take (v.rows * 3) value)) where
  pub run_none : not b ≡ true → false ≡ run_fits ar value h v
  unfolding run_fits
  run_none f = first _ e f

  pub run_long : not b ≡ false → most_steps < v.steps → false ≡ run_fits ar value h v
  unfolding run_fits
  run_long f l = next e f (stops _ (lt-leb v.steps most_steps l))

  pub run-rest : {r : Bool} → not b ≡ false → v.steps ≤ most_steps → r ≡ eqb v.power ((h.total * h.denominator) ^ v.steps) → r ≡ run_fits ar value h v
  unfolding run_fits
  run-rest f l q = next e f (goes (le-leb v.steps most_steps l) q)

module _ (n : Numbers) (ar value : List ℕ) where
  pub part-model : n.part ≡ Model → eqb n.live.objects 0 ≡ part_fits n ar value n.part
  unfolding part_fits
  part-model e = sym (ap (part_fits n ar value) e)

  pub part-unrewarded : n.part ≡ Run → not n.reward ≡ true → false ≡ part_fits n ar value n.part
  unfolding part_fits
  part-unrewarded e f = stops _ (not-true n.reward f) ∙ sym (ap (part_fits n ar value) e)

  pub part-idle : n.part ≡ Run → not n.reward ≡ false → n.head.actions < 1 → false ≡ part_fits n ar value n.part
  unfolding part_fits
  part-idle e f l = goes (not-false n.reward f) (stops _ (lt-leb 1 n.head.actions l)) ∙ sym (ap (part_fits n ar value) e)

  pub part-rest : {r : Bool} → n.part ≡ Run → not n.reward ≡ false → 1 ≤ n.head.actions → r ≡ run_fits ar value n.head n.held
      → r ≡ part_fits n ar value n.part
  unfolding part_fits
  part-rest e f l q = goes (not-false n.reward f) (goes (le-leb 1 n.head.actions l) q) ∙ sym (ap (part_fits n ar value) e)

pub rows_are : (rows words : ℕ) → leb rows (words / 3) ≡ leb (rows * 3) words
rows_are rows words = go (flag (leb rows (words / 3)))
  where
    go : Flag (leb rows (words / 3)) → leb rows (words / 3) ≡ leb (rows * 3) words
    go (is_true e) = e ∙ sym (le-leb (rows * 3) words (let k = leb-true rows (words / 3) e in omega arith))
    go (is_false e) = e ∙ sym (lt-leb (rows * 3) words (let k = leb-false rows (words / 3) e in omega arith))

-- ===== The whole =====

module _ (n : Numbers) (names ar listings table state value : List ℕ) {a : Bool}
    (ea : a ≡ rooms_fit (length names) (length ar) (length listings) (length table) (length state) (length value)) where
  pub session-small : not a ≡ true → false ≡ is_session n (memory_of names ar listings table state value)
  unfolding is_session
  session-small f = first _ ea f

  module _ (fa : not a ≡ false) where
    pub rooms-given : Rooms (memory_of names ar listings table state value)
    rooms-given = (rooms-are (memory_of names ar listings table state value)).yes (passed ea fa)

    module _ {b : Bool} (eb : b ≡ model_fits n ar listings table) where
      pub session-model : not b ≡ true → false ≡ is_session n (memory_of names ar listings table state value)
      unfolding is_session
      session-model f = next ea fa (first _ eb f)

      module _ (fb : not b ≡ false) {c : Bool} (ec : c ≡ state_fits ar state n.live) where
        pub session-state : not c ≡ true → false ≡ is_session n (memory_of names ar listings table state value)
        unfolding is_session
        session-state f = next ea fa (next eb fb (first _ ec f))

        module _ (fc : not c ≡ false) {d : Bool} (ed : d ≡ leb (n.held.rows * 3) (length value)) where
          pub session-rows : not d ≡ true → false ≡ is_session n (memory_of names ar listings table state value)
          unfolding is_session
          session-rows f = next ea fa (next eb fb (next ec fc (first _ ed f)))

          pub session-rest : {r : Bool} → not d ≡ false → r ≡ part_fits n ar value n.part → r ≡ is_session n (memory_of names ar listings table state value)
          unfolding is_session
          session-rest fd q = next ea fa (next eb fb (next ec fc (next ed fd q)))

-- the head passed its test, as the model did
pub head_passed : (n : Numbers) (ar listings table : List ℕ) {b : Bool} → b ≡ model_fits n ar listings table → not b ≡ false → head_fits n.head ≡ true
head_passed n ar listings table e f = decided (head-is n.head) ((model_is n ar listings table).yes (passed e f)).head

pub rows-passed : (rows words : ℕ) {d : Bool} → d ≡ leb (rows * 3) words → not d ≡ false → rows * 3 ≤ words
rows-passed rows words e f = leb-true (rows * 3) words (passed e f)
