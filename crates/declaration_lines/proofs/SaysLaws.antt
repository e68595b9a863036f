-- What the functions of a declaration left, as the session behind the line and its answer.
use mathlib.Core.Path.{◌≡◌, refl, sym, ap, ap₂, subst, ◌∙◌}
use mathlib.Core.Bool.{Bool, true, false, not, ◌||◌}
use mathlib.Core.List.{List, [], ◌∷◌, ◌++◌}
use Prim.Native.Nat.{ℕ, ◌*◌, ◌/◌, ◌<◌, ◌≤◌}
use native.Mathlib.Omega.{arith}
use lib.Dec.{eqb, ltb, leb}
use lib.ListN.{length, drop}
use borrow.Author.Tests.{leb-false}
use Rattle.basics.specs.Tests.{neither}
use Rattle.refusal.specs.declared.Refusal.{Refusal}
use Rattle.refusal.specs.declared.Refusal.TheVariants.{Name, Range, Space}
use Rattle.label.specs.Limits.{parameter_count}
use Rattle.words.specs.declared.Key.{Key}
use Rattle.names.specs.Keys.{is_among}
use Rattle.names.specs.Layout.{actions_at, parameters_at}
use Rattle.names.specs.KeyLaws.{length-keys}
use Rattle.refusal.specs.Outcome.{Outcome, ok}
use Rattle.mdp.specs.Model.{most_actions}
use Rattle.text.specs.declared.Kind.TheVariants.{Constant, Predicate, Total, Discount, Action}
use Rattle.events.specs.declared.Next.{Next}
use Rattle.events.specs.Events.{first_word}
use Rattle.events.specs.Inner.{next_at}
use Rattle.events.specs.Front.{events_of}
use Rattle.events.specs.Contents.{key_in, number_in, word_at, keys_in}
use Rattle.answers.specs.declared.Answer.TheVariants.{Refused as RefusedAs, Nothing}
use Rattle.session.specs.declared.Part.{Part}
use Rattle.session.specs.declared.Part.TheVariants.{Model, Run}
use Rattle.session.specs.Session.{Names, with_names, refuse_if, with_actions}
use Rattle.session.specs.Declaring.{constant_line, Vocabulary, predicate_line, with_vocabulary, is_total, total_line, with_total, is_discount, discount_line, with_discount, repeated, action_line, with_action}
use Rattle.session.specs.Replies.{done, words_of}
use Rattle.declare.specs.declared.Counts.{Counts}
use Rattle.declare.specs.Inner.{Named, Naming, vocabulary_of, Worded, Wording}
use Rattle.declare.specs.Tables.{names_of, GoodVocabulary}
use Rattle.facts.specs.Words.{live_of}
use Rattle.facts.specs.WordLaws.{index-quiet}
use Rattle.model.specs.declared.Head.{Head}
use Rattle.model.specs.Layout.{model_of}
use Rattle.model_entry.specs.Building.{Building, new_action}
use Rattle.model_entry.specs.Adding.{ActionRoom, ActionAdded}
use Rattle.model_entry.specs.StartLaws.{starts-same}
use Rattle.planner.specs.Run.{held_in}
use Rattle.memory.specs.declared.Numbers.{Numbers}
use Rattle.memory.specs.Inner.{Ready, Carried}
use Rattle.memory.specs.Memory.{Memory, memory_of, session_of, Stored}
use Rattle.memory.specs.WordLaws.{first-is, second_is, rest-is}
use Rattle.memory.specs.CarriedLaws.{carried_on}
use Rattle.memory.specs.QuietLaws.{quiet-refused, quiet-done, no_run}
use Rattle.declaration_lines.specs.Lines.{with_tables, with_weights, ForAction, ConstantSays, PredicateSays, TotalSays, DiscountSays, ActionSays}
use Rattle.std.specs.Prelude.{Err, Ok, Result}

-- ===== Words that have their room still have it, and what is carried over =====

-- other names, and a model with another table
stored-tables : {n : Numbers} {names ar l t st v : List ℕ} (names' ar' t' : List ℕ) (c : Counts) (h : Head)
    → Stored n (memory_of names ar l t st v) → (n.part ≡ Run → ⊥) → GoodVocabulary names' ar' c → Building l t' h
    → h.words ≡ n.head.words → h.reward_words ≡ n.head.reward_words → Stored (with_tables n c h) (memory_of names' ar' l t' st v)
stored-tables names' ar' t' c h g m v b p q = record {
  vocabulary = v;
  building = b;
  listing-room = g.listing-room;
  whole = omega (arith, p, g.whole);
  reward = g.reward ∙ ap (λ (x : ℕ). not (eqb x 0)) (sym q);
  live = g.live;
  value_room = g.value_room;
  value-rows = g.value-rows;
  holding = λ e. absurd (m e);
}

-- other weights
stored-weights : {n : Numbers} {w : Memory} (total discount : Bool) (x y z : ℕ)
    → Stored n w → (n.part ≡ Run → ⊥) → Stored (with_weights n total discount x y z) w
stored-weights total discount x y z g m = record {
  vocabulary = g.vocabulary;
  building = record {
    spanned = record {
      room = g.building.spanned.room;
      few = g.building.spanned.few;
      used = g.building.spanned.used;
      reward = g.building.spanned.reward;
      actions = g.building.spanned.actions;
    };
    listed = record { reward = g.building.listed.reward; variants = g.building.listed.variants };
  };
  listing-room = g.listing-room;
  whole = g.whole;
  reward = g.reward;
  live = g.live;
  value_room = g.value_room;
  value-rows = g.value-rows;
  holding = λ e. absurd (m e);
}

carried-weights : {n : Numbers} {w : Memory} (total discount : Bool) (x y z : ℕ) → Carried n w (with_weights n total discount x y z) w
carried-weights {n} {w} total discount x y z = record {
  starts = starts-same w.table n.head (with_weights n total discount x y z).head refl refl refl;
  idle = λ e. (e, refl);
}

-- ===== (constant n) =====

module _ (s : List ℕ) (n : Numbers) {names names' : List ℕ} {i : ℕ} {x : Next} {k : Key} {d : Result Counts Refusal}
    (p : i ≡ first_word Constant) (q : x ≡ next_at s i) (u : k ≡ key_in x.event) (g : Naming (constant_line (names_of names n.counts) k) names d names') where
  abbrev constant_of : Outcome Names
  constant_of = constant_line (names_of names n.counts) (key_in (word_at (words_of Constant s) 0))

  constant-named : (r : Result Counts Refusal) → d ≡ r → Named constant_of names r names'
  constant-named r e =
      subst (λ y. Named constant_of names y names') e
      (subst (λ y. Named (constant_line (names_of names n.counts) y) names d names') (u ∙ ap key_in (first-is Constant s p q)) g.named)

  pub constant-done : {number : ℕ} {c : Counts} {m : Numbers} → d ≡ Ok c → m ≡ with_tables n c n.head
      → ConstantSays s number n names (record { numbers = m; answer = Nothing }) names'
  unfolding done session_of
  constant-done {number} {c} e f =
      let h = constant-named (Ok c) e in
      subst (λ y. ConstantSays s number n names (record { numbers = y; answer = Nothing }) names') (sym f)
      (record {
        says = λ ar l t st v r.
            quiet-done (with_names (session_of n (memory_of names ar l t st v))) constant_of refl h.0 refl
            (stored-tables names' ar t c n.head r.stored (no_run refl r) (record { names = h.1; arities = r.stored.vocabulary.arities })
            r.stored.building refl refl) r.indexed (carried_on refl refl refl);
      })

  pub constant-refused : {number : ℕ} {why : Refusal} → d ≡ Err why
      → ConstantSays s number n names (record { numbers = n; answer = RefusedAs why number }) names'
  unfolding done session_of
  constant-refused {number} {why} e =
      let h = constant-named (Err why) e in
      subst (λ y. ConstantSays s number n names (record { numbers = n; answer = RefusedAs why number }) y) (sym h.1)
      (record {
        says = λ ar l t st v r. quiet-refused (with_names (session_of n (memory_of names ar l t st v))) constant_of refl h.0 r.stored r.indexed;
      })

-- ===== (predicate n arity) =====

-- it stands in the model, where there are no objects
no-objects : {s : List ℕ} {n : Numbers} {w : Memory} → Ready Predicate s n w → n.live.objects ≡ 0
unfolding session_of
no-objects {s} {n} {w} r = r.good.quiet (go n.part refl)
  where
    go : (p : Part) → n.part ≡ p → n.part ≡ Model
    go Model e = e
    go Run e = absurd (no_run refl r e)

module _ (s : List ℕ) (n : Numbers) {names ar names' ar' : List ℕ} {i : ℕ} {x y : Next} {k : Key} {a : ℕ} {d : Result Counts Refusal}
    (p : i ≡ first_word Predicate) (q : x ≡ next_at s i) (u : k ≡ key_in x.event) (w : y ≡ next_at s x.place) (z : a ≡ number_in y.event)
    (g : Wording (predicate_line (vocabulary_of names ar n.counts) k a) names ar d names' ar') where
  abbrev predicate_of : Outcome Vocabulary
  predicate_of =
      predicate_line (vocabulary_of names ar n.counts) (key_in (word_at (words_of Predicate s) 0)) (number_in (word_at (words_of Predicate s) 1))

  predicate-worded : (r : Result Counts Refusal) → d ≡ r → Worded predicate_of names ar r names' ar'
  predicate-worded r e =
      subst (λ d₁. Worded predicate_of names ar d₁ names' ar') e
      (subst (λ o. Worded o names ar d names' ar')
      (ap₂ (predicate_line (vocabulary_of names ar n.counts)) (u ∙ ap key_in (first-is Predicate s p q)) (z ∙ ap number_in (second_is Predicate s p q w)))
      g.worded)

  pub predicate-done : {number : ℕ} {c : Counts} {m : Numbers} → d ≡ Ok c → m ≡ with_tables n c n.head
      → PredicateSays s number n names ar (record { numbers = m; answer = Nothing }) names' ar'
  unfolding done session_of with_vocabulary vocabulary_of
  predicate-done {number} {c} e f =
      let h = predicate-worded (Ok c) e in
      subst (λ m. PredicateSays s number n names ar (record { numbers = m; answer = Nothing }) names' ar') (sym f)
      (record {
        says = λ l t st v r.
            quiet-done (with_vocabulary (session_of n (memory_of names ar l t st v))) predicate_of refl h.0 refl
            (stored-tables names' ar' t c n.head r.stored (no_run refl r) h.1 r.stored.building refl refl) (index-quiet (no-objects r) r.indexed)
            (carried_on refl refl refl);
      })

  pub predicate-refused : {number : ℕ} {why : Refusal} → d ≡ Err why
      → PredicateSays s number n names ar (record { numbers = n; answer = RefusedAs why number }) names' ar'
  unfolding done session_of vocabulary_of
  predicate-refused {number} {why} e =
      let h = predicate-worded (Err why) e in
      rw (h.1, h.2)
      (record {
        says = λ l t st v r. quiet-refused (with_vocabulary (session_of n (memory_of names ar l t st v))) predicate_of refl h.0 r.stored r.indexed;
      })

-- ===== (total W) =====

module _ (s : List ℕ) {i : ℕ} {x : Next} {w : ℕ} {b : Bool}
    (p : i ≡ first_word Total) (q : x ≡ next_at s i) (u : w ≡ number_in x.event) (t : b ≡ is_total w) where
  total_of : (f : Bool) → b ≡ f → total_line (number_in (word_at (words_of Total s) 0)) ≡ refuse_if (not f) Range (ok w)
  unfolding total_line
  total_of f e =
      sym (ap total_line (u ∙ ap number_in (first-is Total s p q))) ∙ ap (λ c. refuse_if (not c) Range (ok w)) (sym t ∙ e)

  pub total-done : {number : ℕ} {n m : Numbers} → b ≡ true → m ≡ with_weights n true n.discount w n.head.numerator n.head.denominator
      → TotalSays s number n (record { numbers = m; answer = Nothing })
  unfolding done session_of with_total
  total-done {number} {n} e f =
      subst (λ m. TotalSays s number n (record { numbers = m; answer = Nothing })) (sym f)
      (record {
        says = λ names ar l tb st v r.
            quiet-done (with_total (session_of n (memory_of names ar l tb st v))) (total_line (number_in (word_at (words_of Total s) 0))) refl (total_of true e) refl
            (stored-weights true n.discount w n.head.numerator n.head.denominator r.stored (no_run refl r)) r.indexed
            (carried-weights true n.discount w n.head.numerator n.head.denominator);
      })

  pub total-refused : {number : ℕ} {n : Numbers} → b ≡ false → TotalSays s number n (record { numbers = n; answer = RefusedAs Range number })
  unfolding done session_of
  total-refused {number} {n} e = record {
    says = λ names ar l tb st v r.
        quiet-refused (with_total (session_of n (memory_of names ar l tb st v))) (total_line (number_in (word_at (words_of Total s) 0))) refl (total_of false e) r.stored r.indexed;
  }

-- ===== (discount G D) =====

module _ (s : List ℕ) {i : ℕ} {x y : Next} {g d : ℕ} {b : Bool} (p : i ≡ first_word Discount) (q : x ≡ next_at s i) (u : g ≡ number_in x.event)
    (w : y ≡ next_at s x.place) (z : d ≡ number_in y.event) (t : b ≡ is_discount g d) where
  abbrev discount_of : Outcome (ℕ × ℕ)
  discount_of = discount_line (number_in (word_at (words_of Discount s) 0)) (number_in (word_at (words_of Discount s) 1))

  discount-of : (f : Bool) → b ≡ f → discount_of ≡ refuse_if (not f) Range (ok (g, d))
  unfolding discount_line
  discount-of f e =
      sym (ap₂ discount_line (u ∙ ap number_in (first-is Discount s p q)) (z ∙ ap number_in (second_is Discount s p q w)))
      ∙ ap (λ c. refuse_if (not c) Range (ok (g, d))) (sym t ∙ e)

  pub discount-done : {number : ℕ} {n m : Numbers} → b ≡ true → m ≡ with_weights n n.total true n.head.total g d
      → DiscountSays s number n (record { numbers = m; answer = Nothing })
  unfolding done session_of with_discount
  discount-done {number} {n} e f =
      subst (λ m. DiscountSays s number n (record { numbers = m; answer = Nothing })) (sym f)
      (record {
        says = λ names ar l tb st v r.
            quiet-done (with_discount (session_of n (memory_of names ar l tb st v))) discount_of refl (discount-of true e) refl
            (stored-weights n.total true n.head.total g d r.stored (no_run refl r)) r.indexed (carried-weights n.total true n.head.total g d);
      })

  pub discount-refused : {number : ℕ} {n : Numbers} → b ≡ false → DiscountSays s number n (record { numbers = n; answer = RefusedAs Range number })
  unfolding done session_of
  discount-refused {number} {n} e = record {
    says = λ names ar l tb st v r.
        quiet-refused (with_discount (session_of n (memory_of names ar l tb st v))) discount_of refl (discount-of false e) r.stored r.indexed;
  }

-- ===== (action n !p ..) =====

-- accepted by a check, and by those behind it
passed : {A : Type 0} (b : Bool) (why : Refusal) (o : Outcome A) {a : A} → refuse_if b why o ≡ ok a → (b ≡ false) × (o ≡ ok a)
passed true why o e = let z : ◌≡◌ {A = ℕ} 0 1 = cc in absurd (omega arith)
passed false why o e = (refl, e)

few-actions : (m : Names) (k : Key) (ps : List Key) {r : Names} → action_line m k ps ≡ ok r → length m.actions < most_actions
unfolding action_line
few-actions m k ps e =
    let f = (passed (ltb parameter_count (length ps) || leb most_actions (length m.actions)) Space _ (passed (is_among k m.actions || repeated [] ps) Name _ e).1).0 in
    leb-false most_actions (length m.actions) (neither (ltb parameter_count (length ps)) _ f).1

-- two words for each word behind the action's name
pub action-keys : {s : List ℕ} {n : Numbers} {names table work : List ℕ} {i : ℕ} {x : Next} → i ≡ first_word Action → x ≡ next_at s i
    → ForAction s n names table work → length (events_of (drop x.place s)) * 2 ≤ length work
action-keys {s} p q r = let e = ap (λ (y : Next). y.place) (q ∙ ap (next_at s) p) in rw e r.keys

module _ (s : List ℕ) (n : Numbers) {names names' : List ℕ} {i : ℕ} {x : Next} {k : Key} {d : Result Counts Refusal} (p : i ≡ first_word Action) (q : x ≡ next_at s i) (u : k ≡ key_in x.event)
    (g : Naming (action_line (names_of names n.counts) k (keys_in (events_of (drop x.place s)))) names d names') where
  abbrev action_of : Outcome Names
  action_of = action_line (names_of names n.counts) (key_in (word_at (words_of Action s) 0)) (keys_in (drop 1 (words_of Action s)))

  action-named : (r : Result Counts Refusal) → d ≡ r → Named action_of names r names'
  action-named r e =
      subst (λ y. Named action_of names y names') e
      (subst (λ o. Named o names d names')
      (ap₂ (λ y es. action_line (names_of names n.counts) y (keys_in es)) (u ∙ ap key_in (first-is Action s p q)) (rest-is Action s p q)) g.named)

  pub action-fits : {table work : List ℕ} {c : Counts} → ForAction s n names table work → d ≡ Ok c → ActionRoom table n.head
  unfolding names_of
  action-fits {table} {work} {c} r e = record {
    spanned = r.spanned;
    more = omega (
      arith,
      r.agreeing,
      length-keys names actions_at n.counts.actions,
      few-actions (names_of names n.counts) (key_in (word_at (words_of Action s) 0)) (keys_in (drop 1 (words_of Action s))) (action-named (Ok c) e).0,
    );
  }

  pub action-refused : {number : ℕ} {table : List ℕ} {why : Refusal} → d ≡ Err why
      → ActionSays s number n names table (record { numbers = n; answer = RefusedAs why number }) names' table
  unfolding done session_of
  action-refused {number} {table} {why} e =
      let h = action-named (Err why) e in
      subst (λ y. ActionSays s number n names table (record { numbers = n; answer = RefusedAs why number }) y table) (sym h.1)
      (record {
        says = λ ar l st v r. quiet-refused (with_action (session_of n (memory_of names ar l table st v))) action_of refl h.0 r.stored r.indexed;
      })

  module _ {table table' : List ℕ} {c : Counts} {h : Head} (e : d ≡ Ok c) (a : ActionAdded table n.head c.parameters table' h) where
    action-session : (ar l st v : List ℕ) → session_of (with_tables n c h) (memory_of names' ar l table' st v)
        ≡ with_action (session_of n (memory_of names ar l table st v)) (names_of names' c)
    unfolding session_of with_action names_of
    action-session ar l st v =
        let m = a.model ar l
        ∙ ap (λ y. with_actions (model_of ar l table n.head) ((model_of ar l table n.head).actions ++ (new_action y ∷ []))) (sym (length-keys names' parameters_at c.parameters)) in
        let w : h.words / 3 ≡ n.head.words / 3 = ap (λ (y : Head). y.words / 3) a.answer in
        λ j. record {
          part = n.part;
          names = names_of names' c;
          singles = record { total = n.total; discount = n.discount; reward = n.reward };
          model = m j;
          rows = w j;
          live = live_of st n.live;
          held = held_in n.held v;
        }

    pub action-done : {number : ℕ} {m : Numbers} → m ≡ with_tables n c h
        → ActionSays s number n names table (record { numbers = m; answer = Nothing }) names' table'
    unfolding done session_of
    action-done {number} f =
        let y = action-named (Ok c) e in
        subst (λ m. ActionSays s number n names table (record { numbers = m; answer = Nothing }) names' table') (sym f)
        (record {
          says = λ ar l st v r.
              quiet-done (with_action (session_of n (memory_of names ar l table st v))) action_of refl y.0 (action-session ar l st v)
              (stored-tables names' ar table' c h r.stored (no_run refl r) (record { names = y.1; arities = r.stored.vocabulary.arities })
              (a.building l r.stored.building) (ap (λ (z : Head). z.words) a.answer) (ap (λ (z : Head). z.reward_words) a.answer)) r.indexed
              (record { starts = a.starts; idle = λ o. (o, refl) });
        })
