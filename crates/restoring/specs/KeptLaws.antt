-- The test is true exactly if numbers and words are a session's.
use Rattle.std.proofs.Math.Path.{◌≡◌, sym, ap, ap₂, subst}
use Rattle.std.proofs.Common.{◌∙◌, arith}
use Rattle.std.specs.Prelude.{true, List, [], ◌∷◌, ◌++◌, length, get_or, take, eqb}
use Rattle.std.proofs.Math.Bool.{not}
use Rattle.std.proofs.Math.Option.{some}
use Prim.Native.Nat.{ℕ, zero, suc, ◌+◌, ◌*◌, ◌≤◌, ◌<◌}
use borrow.Author.Tests.{eqb-true, eqb-false, ne_eqb}
use Rattle.basics.specs.Tests.{Flag, is_true, is_false, flag}
use Rattle.basics.specs.Members.{clash}
use Rattle.label.specs.Limits.{predicate_count}
use Rattle.diagram.specs.Diagram.{Diagram}
use Rattle.diagram.specs.Words.{is_listing}
use Rattle.diagram.specs.Listing.{diagram_of, Good}
use Rattle.diagram.specs.Listings.{is-listing-diagram, is-listing-good, good-is-listing}
use Rattle.listing.specs.Check.{Decides}
use Rattle.state.proofs.ValueLaws.{by-low}
use Rattle.regression.specs.RegressCall.{truth_count, truth_words, truths_of}
use Rattle.regression.proofs.RegressCallLaws.{truths-none, truths-some}
use Rattle.names.specs.Many.{many}
use Rattle.names.specs.ManyLaws.{length-many}
use Rattle.names.specs.KeyLaws.{length-keys}
use Rattle.names.specs.Layout.{constants_at, declared_at, actions_at, parameters_at, variants_at}
use Rattle.mdp.specs.Model.{Every, GoodTruthDiagram, GoodVariant, GoodAction, scale}
use Rattle.session.specs.Good.{LastAction, GoodSession, GoodValue}
use Rattle.declare.specs.Tables.{names_of}
use Rattle.facts.specs.Words.{live_of}
use Rattle.model.specs.Layout.{part, action_words, variant_place, weight_words, spans_at, variant_at, variants_of, action_at, reward_words, model_of}
use Rattle.model_entry.specs.Building.{truth_place, Canonical, SpannedVariant, SpannedAction, ListedVariant, Building}
use Rattle.model_entry.specs.WordLaws.{span-count, span-start}
use Rattle.memory.specs.declared.Numbers.{Numbers}
use Rattle.memory.specs.Memory.{Memory, session_of, Stored, IsSession, Rooms}
use Rattle.memory.specs.StoredLaws.{stored-reward}
use Rattle.checking.specs.DecisionLaws.{on, both, at_most}
use Rattle.checking.specs.FittingLaws.{IsValue, FitVariant, FitAction}
use Rattle.restoring.specs.Restoring.{is_session}
use Rattle.restoring.specs.PartLaws.{arities-long, StateFit, PartFit, ModelFit, rooms-are, model_is, state-is, part-is}

-- ===== Lists made of a function =====

every-many : {A : Type 0} (P : A → Type 0) (f : ℕ → A) (n : ℕ) → ((v : ℕ) → v < n → P (f v)) → Every P (many f n)
unfolding many
every-many P f zero h = tt
every-many P f (suc n) h = every-last P (many f n) (f n) (every-many P f n (λ v k. h v (omega arith))) (h n (omega arith))
  where
    every-last : {A : Type 0} (P : A → Type 0) (l : List A) (a : A) → Every P l → P a → Every P (l ++ (a ∷ []))
    every-last P [] a e p = (p, tt)
    every-last P (b ∷ l) a e p = (e.0, every-last P l a e.1 p)

last-every : {A : Type 0} (P : A → Type 0) (l : List A) (x : A) → Every P (l ++ (x ∷ [])) → Every P l × P x
last-every P [] x h = (tt, h.0)
last-every P (y ∷ l) x h = let r = last-every P l x h.1 in ((h.0, r.0), r.1)

many-every : {A : Type 0} (P : A → Type 0) (f : ℕ → A) (n v : ℕ) → Every P (many f n) → v < n → P (f v)
unfolding many
many-every P f zero v h k = absurd (omega arith)
many-every P f (suc n) v h k =
    let r = last-every P (many f n) (f n) h in
    by-low (P (f v)) n v (λ q. many-every P f n v r.0 q) (λ q. let e : n ≡ v = omega arith in subst (λ (x : ℕ). P (f x)) e r.1)

-- ===== A variant =====

listed-under : (ar ws : List ℕ) → Canonical ws → Good ar (diagram_of ws) → is_listing ar ws ≡ true
listed-under ar ws c g = ap (is_listing ar) (sym c) ∙ good-is-listing ar (diagram_of ws) g

-- the words of a truth diagram
truth-words : (l t : List ℕ) (i p : ℕ) → p < predicate_count → truth_words l (spans_at t i) p ≡ weight_words l t (truth_place i p)
truth-words l t i p h = ap₂ (part l) (span-start t i p h) (span-count t i p h)

module _ (ar l t : List ℕ) (w c i : ℕ) where
  variant-good : FitVariant ar l t w c i → GoodVariant ar c (variant_at l t i)
  unfolding variant_at
  variant-good f = record {
    listed = is-listing-good ar (weight_words l t i) f.weight.listing;
    weight = f.weight.terms;
    truths = λ p d h k e. go p d h k e (flag (eqb (truth_count (spans_at t i) p) 0));
  }
    where
      go : (p : ℕ) (d : Diagram) → 0 < p → p < predicate_count → truths_of l (spans_at t i) p ≡ some d → Flag (eqb (truth_count (spans_at t i) p) 0) → GoodTruthDiagram ar c (get_or ar p 0) d
      go p d h k e (is_true z) =
          let q = sym (truths-none l (spans_at t i) p (eqb-true (truth_count (spans_at t i) p) 0 z)) ∙ e in
          let y : ◌≡◌ {A = ℕ} 0 1 = cc in
          absurd (omega arith)
      go p d h k e (is_false z) =
          let n = eqb-false (truth_count (spans_at t i) p) 0 z in
          let q = sym (truths-some l (spans_at t i) p n) ∙ e in
          let y : diagram_of (truth_words l (spans_at t i) p) ≡ d = cc in
          subst (GoodTruthDiagram ar c (get_or ar p 0)) (ap diagram_of (sym (truth-words l t i p k)) ∙ y)
          ((f.truths p k).truth h (λ o. n (span-count t i p k ∙ o))).good

  variant-spanned : FitVariant ar l t w c i → SpannedVariant t w i
  variant-spanned f = record { weight = f.inside; truths = λ p h. (f.truths p h).inside }

  variant-listed : FitVariant ar l t w c i → ListedVariant l t i
  variant-listed f = record {
    weight = is-listing-diagram ar (weight_words l t i) f.weight.listing;
    truths = λ p f' h n. is-listing-diagram ar (weight_words l t (truth_place i p)) ((f.truths p h).truth f' n).listing;
  }

  variant-fit : SpannedVariant t w i → ListedVariant l t i → GoodVariant ar c (variant_at l t i) → FitVariant ar l t w c i
  unfolding variant_at
  variant-fit s x g = record {
    inside = s.weight;
    weight = record { listing = listed-under ar (weight_words l t i) x.weight g.listed; terms = g.weight };
    truths = λ p h. record {
      inside = s.truths p h;
      truth = λ f n.
          let d : Diagram = diagram_of (truth_words l (spans_at t i) p) in
          let y = g.truths p d f h (truths-some l (spans_at t i) p (λ o. n (sym (span-count t i p h) ∙ o))) in
          let z : GoodTruthDiagram ar c (get_or ar p 0) (diagram_of (weight_words l t (truth_place i p))) =
          subst (GoodTruthDiagram ar c (get_or ar p 0)) (ap diagram_of (truth-words l t i p h)) y in
          record { listing = listed-under ar (weight_words l t (truth_place i p)) (x.truths p f h n) z.listed; good = z };
    };
  }

-- ===== An action =====

module _ (ar l t : List ℕ) (w a : ℕ) where
  action-good : FitAction ar l t w a → GoodAction ar (action_at l t a)
  unfolding action_at
  action-good f = record {
    few = f.parameters;
    variants-few = omega (arith, f.few, length-many (λ v. variant_at l t (variant_place a v)) (variants_of t a));
    variants = every-many (GoodVariant ar (get_or t (a * action_words) 0)) (λ v. variant_at l t (variant_place a v)) (variants_of t a)
        (λ v k. variant-good ar l t w (get_or t (a * action_words) 0) (variant_place a v) (f.variants v k));
  }

  action-spanned : FitAction ar l t w a → SpannedAction t w a
  action-spanned f = record { few = f.few; variants = λ v k. variant-spanned ar l t w (get_or t (a * action_words) 0) (variant_place a v) (f.variants v k) }

  action-fit : SpannedAction t w a → ((v : ℕ) → v < variants_of t a → ListedVariant l t (variant_place a v)) → GoodAction ar (action_at l t a) → FitAction ar l t w a
  unfolding action_at
  action-fit s x g = record {
    parameters = g.few;
    few = s.few;
    variants = λ v k. variant-fit ar l t w (get_or t (a * action_words) 0) (variant_place a v) (s.variants v k) (x v k)
        (many-every (GoodVariant ar (get_or t (a * action_words) 0)) (λ u. variant_at l t (variant_place a u)) (variants_of t a) v g.variants k);
  }

-- ===== The whole =====

-- all parts of the test
record Fits (n : Numbers) (w : Memory) : Type 0 where
  rooms : Rooms w
  model : ModelFit n w.arities w.listings w.table
  state : StateFit w.arities w.state n.live
  rows : n.held.rows * 3 ≤ length w.value
  part-fits : PartFit n w.arities w.value n.part

fits-are : (n : Numbers) (w : Memory) → Decides (is_session n w) (Fits n w)
unfolding is_session
fits-are n w =
    on (both (rooms-are w)
    (λ a. both (model_is n w.arities w.listings w.table)
    (λ b. both (state-is w.arities w.state n.live)
    (λ c. both (at_most (n.held.rows * 3) (length w.value))
    (λ d. part-is n w.arities w.value n.part)))))
    (λ x. record { rooms = x.0; model = x.1.0; state = x.1.1.0; rows = x.1.1.1.0; part-fits = x.1.1.1.1 })
    (λ r. (r.rooms, (r.model, (r.state, (r.rows, r.part-fits)))))

good-value : (ar ws : List ℕ) → IsValue ar ws → GoodValue ar (diagram_of ws)
good-value ar ws v = record { listed = is-listing-good ar ws v.listing; is-closed = v.is-closed; within = v.within }

module _ (n : Numbers) (w : Memory) where
  -- the names of variants: the last action's, and those before
  length-variants : length (names_of w.names n.counts).variants ≡ n.counts.variants
  unfolding names_of
  length-variants = length-keys w.names (variants_at + n.counts.earlier * 2) n.counts.variants

  length-earlier : length (names_of w.names n.counts).earlier ≡ n.counts.earlier
  unfolding names_of
  length-earlier = length-keys w.names variants_at n.counts.earlier

  fits-building : Fits n w → Building w.listings w.table n.head
  fits-building f = record {
    spanned = record {
      room = f.rooms.table;
      few = f.model.head.actions;
      used = f.model.head.words;
      reward = f.model.head.reward;
      actions = λ a h. action-spanned w.arities w.listings w.table n.head.words a (f.model.actions a h);
    };
    listed = record {
      reward = λ z.
          is-listing-diagram w.arities (reward_words w.listings n.head)
          (f.model.reward.value (f.model.reward.words ∙ ap not (ne_eqb n.head.reward_words 0 z))).listing;
      variants = λ a v h k.
          variant-listed w.arities w.listings w.table n.head.words (get_or w.table (a * action_words) 0) (variant_place a v)
          ((f.model.actions a h).variants v k);
    };
  }

  fits-stored : Fits n w → Stored n w
  unfolding model_of scale
  fits-stored f = record {
    vocabulary = record {
      names = record {
        room = f.rooms.names;
        constants = f.model.counts.constants;
        predicates = f.model.counts.predicates;
        actions = f.model.counts.actions;
        parameters = f.model.counts.parameters;
        variants = f.model.counts.variants;
        earlier = f.model.counts.earlier;
      };
      arities = f.model.arities.arities;
    };
    building = fits-building f;
    listing-room = f.rooms.listings;
    whole = f.model.head.whole;
    reward = f.model.reward.words;
    live = record { room = f.rooms.state; objects = f.state.objects; facts = f.state.facts };
    value_room = f.rooms.value;
    value-rows = f.rows;
    holding = λ e. record {
      reward = λ z. clash (f.part-fits.rewarded e) (f.model.reward.words ∙ ap (λ (x : ℕ). not (eqb x 0)) z);
      listing = (f.part-fits.run e).diagram.listing;
      steps = (f.part-fits.run e).steps;
      power = (f.part-fits.run e).power;
    };
  }

  fits-actions : Fits n w → Every (GoodAction w.arities) (many (action_at w.listings w.table) n.head.actions)
  fits-actions f =
      every-many (GoodAction w.arities) (action_at w.listings w.table) n.head.actions
      (λ a h. action-good w.arities w.listings w.table n.head.words a (f.model.actions a h))

  fits-good : Fits n w → GoodSession (session_of n w)
  unfolding session_of names_of model_of live_of
  fits-good f =
      let c = f.model.counts in
      let h = f.model.head in
      let v = good-value w.arities (reward_words w.listings n.head) in
      record {
        tables = record {
          constants = omega (arith, c.constants, length-keys w.names constants_at n.counts.constants);
          predicates = omega (arith, c.predicates, length-keys w.names declared_at n.counts.predicates);
          actions = omega (arith, c.actions, length-keys w.names actions_at n.counts.actions);
          parameters = omega (arith, c.parameters, length-keys w.names parameters_at n.counts.parameters);
          variants = omega (arith, c.variants, length-variants);
          earlier = omega (arith, c.earlier, length-earlier, length-variants);
          arities = f.model.arities.arities;
          undeclared = λ p l. f.model.arities.undeclared p (omega (arith, l, length-keys w.names declared_at n.counts.predicates));
        };
        agreeing = record {
          count = length-keys w.names actions_at n.counts.actions ∙ f.model.last.count ∙ sym (length-many (action_at w.listings w.table) n.head.actions);
          last =
              subst (λ (k : ℕ). LastAction (many (action_at w.listings w.table) n.head.actions) k (length (names_of w.names n.counts).variants))
              (sym (length-keys w.names parameters_at n.counts.parameters))
              (subst (LastAction (many (action_at w.listings w.table) n.head.actions) n.counts.parameters)
              (sym length-variants) f.model.last.last);
          all = ap₂ ◌+◌ length-earlier length-variants ∙ f.model.last.all;
        };
        parts = record {
          total-some = h.total-some;
          total-few = h.total-few;
          denominator-some = h.denominator-some;
          denominator-few = h.denominator-few;
          numerator-few = h.numerator-few;
          reward = λ e. v (f.model.reward.value e);
          actions = fits-actions f;
        };
        few = omega (arith, h.words);
        state = f.state.state;
        most = f.state.objects;
        log = f.state.log;
        quiet = f.part-fits.quiet;
        begun = λ e.
            let r = v (f.model.reward.value (f.part-fits.rewarded e)) in
            record {
              some = omega (arith, f.part-fits.acting e, length-many (action_at w.listings w.table) n.head.actions);
              good = record {
                arities = f.model.arities.arities;
                total-some = h.total-some;
                total-few = h.total-few;
                denominator-some = h.denominator-some;
                denominator-few = h.denominator-few;
                numerator-few = h.numerator-few;
                reward-listed = r.listed;
                reward-closed = r.is-closed;
                reward = r.within;
                actions-few = omega (arith, h.actions, length-many (action_at w.listings w.table) n.head.actions);
                actions = fits-actions f;
              };
              value = good-value w.arities (take (n.held.rows * 3) w.value) (f.part-fits.run e).diagram;
            };
      }

  -- and back
  stored-rooms : Stored n w → Rooms w
  stored-rooms s = record {
    names = s.vocabulary.names.room;
    arities = arities-long w.arities s.vocabulary.arities;
    listings = s.listing-room;
    table = s.building.spanned.room;
    state = s.live.room;
    value = s.value_room;
  }

  session-model : IsSession n w → ModelFit n w.arities w.listings w.table
  unfolding session_of names_of model_of
  session-model k =
      let s = k.stored in
      let g = k.good in
      let p = g.parts in
      let c = s.vocabulary.names in
      record {
        counts = record { constants = c.constants; predicates = c.predicates; actions = c.actions; parameters = c.parameters; variants = c.variants; earlier = c.earlier };
        arities = record {
          arities = s.vocabulary.arities;
          undeclared = λ q l. g.tables.undeclared q (omega (arith, l, length-keys w.names declared_at n.counts.predicates));
        };
        head = record {
          total-some = p.total-some;
          total-few = p.total-few;
          denominator-some = p.denominator-some;
          denominator-few = p.denominator-few;
          numerator-few = p.numerator-few;
          actions = s.building.spanned.few;
          words = s.building.spanned.used;
          whole = s.whole;
          reward = s.building.spanned.reward;
        };
        reward = record {
          words = s.reward;
          value = λ e. record {
            listing = listed-under w.arities (reward_words w.listings n.head) (s.building.listed.reward (stored-reward s e)) (p.reward e).listed;
            is-closed = (p.reward e).is-closed;
            within = (p.reward e).within;
          };
        };
        actions = λ a h.
            action-fit w.arities w.listings w.table n.head.words a (s.building.spanned.actions a h) (λ v q. s.building.listed.variants a v h q)
            (many-every (GoodAction w.arities) (action_at w.listings w.table) n.head.actions a p.actions h);
        last = record {
          count = sym (length-keys w.names actions_at n.counts.actions) ∙ g.agreeing.count ∙ length-many (action_at w.listings w.table) n.head.actions;
          last =
              subst (LastAction (many (action_at w.listings w.table) n.head.actions) n.counts.parameters) length-variants
              (subst (λ (k : ℕ). LastAction (many (action_at w.listings w.table) n.head.actions) k (length (names_of w.names n.counts).variants))
              (length-keys w.names parameters_at n.counts.parameters) g.agreeing.last);
          all = sym (ap₂ ◌+◌ length-earlier length-variants) ∙ g.agreeing.all;
        };
      }

  session-part : IsSession n w → PartFit n w.arities w.value n.part
  unfolding session_of model_of live_of scale
  session-part k =
      let s = k.stored in
      let g = k.good in
      record {
        quiet = g.quiet;
        rewarded = λ e. s.reward ∙ ap not (ne_eqb n.head.reward_words 0 (s.holding e).reward);
        acting = λ e. omega (arith, (g.begun e).some, length-many (action_at w.listings w.table) n.head.actions);
        run = λ e. record {
          diagram = record { listing = (s.holding e).listing; is-closed = (g.begun e).value.is-closed; within = (g.begun e).value.within };
          steps = (s.holding e).steps;
          power = (s.holding e).power;
        };
      }

  session-fits : IsSession n w → Fits n w
  unfolding session_of model_of live_of
  session-fits k = record {
    rooms = stored-rooms k.stored;
    model = session-model k;
    state = record { objects = k.stored.live.objects; facts = k.stored.live.facts; log = k.good.log; state = k.good.state };
    rows = k.stored.value-rows;
    part-fits = session-part k;
  }

-- numbers and words are a session's exactly if the test says so
pub session-is : (n : Numbers) (w : Memory) → Decides (is_session n w) (IsSession n w)
session-is n w = on (fits-are n w) (λ f. record { stored = fits-stored n w f; good = fits-good n w f }) (λ k. session-fits n w k)
