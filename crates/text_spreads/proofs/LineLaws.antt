-- The reply to (count n) by its place, and what it reads by n, the constants, the ground facts and the states (document 02, L11).
use Rattle.std.specs.Prelude.{◌≡◌, ◌⊎◌, Bool, not, ◌&&◌, ℕ, zero, suc, ◌≤◌, ◌<◌, leb, eqb}
use Rattle.std.proofs.Math.Path.{refl, ap}
use Rattle.std.proofs.Common.{sym, ◌∙◌, inl, inr}
use Rattle.std.proofs.Math.Bool.{true, false}
use mathlib.Core.List.{List, []}
use native.Mathlib.Omega.{arith}
use Rattle.std.proofs.Math.ListN.{length, get_or}
use Rattle.std.proofs.Math.Dec.{ltb}
use borrow.Author.Tests.{ltb-true, ltb-false, lt-ltb, le-leb, lt-leb, eqb-true, eq-eqb}
use Rattle.basics.specs.Tests.{Flag, is_true, is_false, flag, Cmp, below, equal, above, cmp}
use Rattle.basics.specs.Members.{clash}
use Rattle.refusal.specs.declared.Refusal.TheVariants as F
use Rattle.refusal.specs.Outcome.{Outcome, ok, refused}
use Rattle.label.specs.Limits.{constant_count}
use Rattle.diagram.specs.Listing.{listing}
use Rattle.diagram.specs.ListingOfDiagram.{diagram-listing}
use Rattle.diagram.specs.Words.{every_below}
use Rattle.diagram.specs.WordLaws.{every-below, below-every}
use Rattle.state.specs.State.{meaning}
use Rattle.state.specs.Lent.{constants_below, most_objects}
use Rattle.minimum.specs.Number.{number}
use Rattle.elimination.specs.Answer.{is_too_large}
use Rattle.spread.specs.Ground.{choice_state}
use Rattle.spread.specs.Spread.{value_in, spread}
use Rattle.words.specs.Bytes.{value_of}
use Rattle.text.specs.declared.Kind.{Kind}
use Rattle.text.specs.declared.Kind.TheVariants as K
use Rattle.text.specs.Line.{GoodLine}
use Rattle.text.specs.Line.Line.{line}
use Rattle.text.specs.LineLaws.{line-complete}
use Rattle.events.specs.LineEvents.{line-events}
use Rattle.session.specs.declared.Part.{Part}
use Rattle.session.specs.declared.Part.TheVariants.{Model as ModelPart, Run}
use Rattle.session.specs.Place.{rule_of}
use Rattle.session.specs.Session.{Session, refuse_if}
use Rattle.session.specs.Running.{state_in, value_read, count_read}
use Rattle.session.specs.Replies.{Reply, each_placed, unless, allowed, refusal, value_says, count_says, done, at_place, reply_to, words_of, reply}
use Rattle.session.specs.Good.{GoodSession}
use Rattle.session_laws.specs.LineAnswers.{value_line}
use Rattle.text_spreads.specs.Claims.{count_line, choice_of, with_choice, value_at, AllPlaced, AllBelow, MeetsLarge, PrintsValue}

-- ===== Its place =====

module _ (σ : Session) (number : ℕ) (w : List ℕ) (good : GoodLine (line K.Count w)) where
  count-reply : reply σ number (count_line w) ≡ at_place σ number (allowed σ (rule_of K.Count σ.part))
      (count_says σ number (value_of w) (count_read σ.model σ.names σ.live σ.held.diagram (value_of w)))
  unfolding reply reply_to done
  count-reply =
      ap (λ (k : Kind). reply_to σ number k (words_of k (count_line w))) (line-complete (line K.Count w) good)
      ∙ ap (reply_to σ number K.Count) (line-events K.Count w good.0)

  count_at : (o : Outcome (Unit {0})) → allowed σ (rule_of K.Count σ.part) ≡ o → reply σ number (count_line w) ≡ at_place σ number o
      (count_says σ number (value_of w) (count_read σ.model σ.names σ.live σ.held.diagram (value_of w)))
  count_at o e =
      let y = count_says σ number (value_of w) (count_read σ.model σ.names σ.live σ.held.diagram (value_of w)) in
      count-reply ∙ ap (λ (u : Outcome (Unit {0})). at_place σ number u y) e

  pub model-refused : σ.part ≡ ModelPart → reply σ number (count_line w) ≡ refusal σ number F.Place
  unfolding allowed
  model-refused p = count_at (refused F.Place) (ap (λ (q : Part). allowed σ (rule_of K.Count q)) p)

  allowed-run : (b : Bool) → σ.part ≡ Run → each_placed σ.live.placed (length σ.names.constants) ≡ b
      → allowed σ (rule_of K.Count σ.part) ≡ unless (not b)
  unfolding allowed
  allowed-run b p e = ap (λ (q : Part). allowed σ (rule_of K.Count q)) p ∙ ap (λ (c : Bool). unless (not c)) e

  pub unplaced-refused : σ.part ≡ Run → each_placed σ.live.placed (length σ.names.constants) ≡ false → reply σ number (count_line w) ≡ refusal σ number F.Place
  unplaced-refused p e = count_at (refused F.Place) (allowed-run false p e)

  pub placed-said : σ.part ≡ Run → each_placed σ.live.placed (length σ.names.constants) ≡ true
      → reply σ number (count_line w) ≡ count_says σ number (value_of w) (count_read σ.model σ.names σ.live σ.held.diagram (value_of w))
  placed-said p e = count_at (ok tt) (allowed-run true p e)

-- ===== Tests and what they say =====

pub every-false : (n : ℕ) (q : ℕ → Bool) → every_below n q ≡ false → (i : ℕ) × (i < n) × (q i ≡ false)
every-false zero q e = clash refl e
every-false (suc n) q e = go (flag (every_below n q)) (every-false n q)
  where
    go : Flag (every_below n q) → (every_below n q ≡ false → (i : ℕ) × (i < n) × (q i ≡ false)) → (i : ℕ) × (i < suc n) × (q i ≡ false)
    go (is_true d) ih = (n, omega arith, sym (ap (λ (b : Bool). b && q n) d) ∙ e)
    go (is_false d) ih = let f = ih d in let l = f.1 in (f.0, omega arith, f.2)

module _ (σ : Session) where
  pub marks-placed : each_placed σ.live.placed (length σ.names.constants) ≡ true → AllPlaced σ
  marks-placed e c h = eqb-true _ 1 (below-every (length σ.names.constants) (λ i. eqb (get_or σ.live.placed i 0) 1) c e h)

  pub placed-marks : AllPlaced σ → each_placed σ.live.placed (length σ.names.constants) ≡ true
  placed-marks h = every-below (length σ.names.constants) (λ i. eqb (get_or σ.live.placed i 0) 1) (λ c l. eq-eqb _ 1 (h c l))

-- constants that are not declared have object 0
pub record Settled (σ : Session) : Type 0 where
  pub rest : (c : ℕ) → length σ.names.constants ≤ c → get_or σ.live.constants c 0 ≡ 0

module _ (σ : Session) (settled : Settled σ) (n : ℕ) (some : 1 ≤ n) where
  pub all-below : AllBelow σ n → constants_below n σ.live.constants ≡ true
  unfolding constants_below
  all-below h = every-below constant_count (λ c. ltb (get_or σ.live.constants c 0) n) (λ c l. go c (cmp c (length σ.names.constants)))
    where
      rest : (c : ℕ) → length σ.names.constants ≤ c → ltb (get_or σ.live.constants c 0) n ≡ true
      rest c k = let z = settled.rest c k in lt-ltb _ n (omega arith)

      go : (c : ℕ) → Cmp c (length σ.names.constants) → ltb (get_or σ.live.constants c 0) n ≡ true
      go c (below k) = lt-ltb _ n (h c k)
      go c (equal k) = rest c (omega arith)
      go c (above k) = rest c (omega arith)

  pub below_all : length σ.names.constants ≤ constant_count → constants_below n σ.live.constants ≡ true → AllBelow σ n
  unfolding constants_below
  below_all few e c h = ltb-true _ n (below-every constant_count (λ i. ltb (get_or σ.live.constants i 0) n) c e (omega arith))

  -- a declared constant is placed beyond n
  pub not-below : constants_below n σ.live.constants ≡ false → (c : ℕ) × (c < length σ.names.constants) × (n ≤ get_or σ.live.constants c 0)
  unfolding constants_below
  not-below e =
      let f = every-false constant_count (λ i. ltb (get_or σ.live.constants i 0) n) e in
      let l = ltb-false _ n f.2 in
      (f.0, go f.0 (cmp f.0 (length σ.names.constants)) l, l)
    where
      go : (c : ℕ) → Cmp c (length σ.names.constants) → n ≤ get_or σ.live.constants c 0 → c < length σ.names.constants
      go c (below k) l = k
      go c (equal k) l = let z = settled.rest c (omega arith) in absurd (omega arith)
      go c (above k) l = let z = settled.rest c (omega arith) in absurd (omega arith)

-- ===== What is read =====

module _ (σ : Session) (n : ℕ) where
  -- 'n from 1 to 64 or else 4'
  pub read-outside : (n < 1) ⊎ (most_objects < n) → count_read σ.model σ.names σ.live σ.held.diagram n ≡ refused F.Range
  unfolding count_read
  read-outside (inl h) = rw (lt-leb 1 n h)
  read-outside (inr h) = go (leb 1 n) (lt-leb n most_objects h)
    where
      go : (b : Bool) {d : Bool} → d ≡ false → refuse_if (not (b && d)) F.Range (refuse_if (not (constants_below n σ.live.constants)) F.Range
          (spread σ.model.arities (length σ.names.predicates) n σ.live.constants (listing σ.held.diagram))) ≡ refused F.Range
      go true e = rw e
      go false e = refl

  module _ (some : 1 ≤ n) (most : n ≤ most_objects) where
    -- 'a constant placed beyond n meets 4'
    pub read-beyond : constants_below n σ.live.constants ≡ false → count_read σ.model σ.names σ.live σ.held.diagram n ≡ refused F.Range
    unfolding count_read
    read-beyond e = rw (le-leb 1 n some, le-leb n most_objects most, e)

    pub read-spread : constants_below n σ.live.constants ≡ true
        → count_read σ.model σ.names σ.live σ.held.diagram n
        ≡ spread σ.model.arities (length σ.names.predicates) n σ.live.constants (listing σ.held.diagram)
    unfolding count_read
    read-spread e = rw (le-leb 1 n some, le-leb n most_objects most, e)

-- ===== (value) in the state of a choice =====

-- the listing is that of the value diagram
pub value-is : (σ : Session) → GoodSession σ → σ.part ≡ Run → (n c : ℕ) → number (choice_of σ n c) [] (meaning σ.model.arities σ.held.diagram) ≡ value_at σ n c
unfolding value_in
value-is σ g p n c =
    ap (λ d. number (choice_of σ n c) [] (meaning σ.model.arities d)) (sym (diagram-listing σ.model.arities σ.held.diagram (g.begun p).value.listed))

module _ (σ : Session) (g : GoodSession σ) (p : σ.part ≡ Run) (marks : each_placed σ.live.placed (length σ.names.constants) ≡ true) (n : ℕ) (some : 1 ≤ n) (c : ℕ) where
  allowed-value : allowed (with_choice σ n c) (rule_of K.Value σ.part) ≡ ok tt
  unfolding allowed
  allowed-value =
      ap (λ (q : Part). allowed (with_choice σ n c) (rule_of K.Value q)) p
      ∙ rw (le-leb 1 n some, marks)

  value_in_lem : (place : ℕ) (b : Bool) → is_too_large σ.model.arities (choice_of σ n c) [] (listing σ.held.diagram) ≡ b
      → reply (with_choice σ n c) place value_line
      ≡ value_says (with_choice σ n c) place (refuse_if b F.Valuations (ok (number (choice_of σ n c) [] (meaning σ.model.arities σ.held.diagram))))
  unfolding reply reply_to done value_read state_in choice_state
  value_in_lem place b e =
      let τ = with_choice σ n c in
      ap (λ (k : Kind). reply_to τ place k (words_of k value_line)) (line-complete (line K.Value tt) (tt, omega arith, omega arith))
      ∙ ap (λ (o : Outcome (Unit {0})). at_place τ place o (done τ place K.Value (words_of K.Value value_line))) allowed-value
      ∙ ap (λ (d : Bool). value_says τ place (refuse_if d F.Valuations (ok (number (choice_of σ n c) [] (meaning σ.model.arities σ.held.diagram))))) e

  pub prints-value : is_too_large σ.model.arities (choice_of σ n c) [] (listing σ.held.diagram) ≡ false → PrintsValue σ n c (value_at σ n c)
  prints-value e number = value_in_lem number false e ∙ ap (λ v. value_says (with_choice σ n c) number (ok v)) (value-is σ g p n c)

  pub meets-large : is_too_large σ.model.arities (choice_of σ n c) [] (listing σ.held.diagram) ≡ true → MeetsLarge σ n c
  meets-large e number = value_in_lem number true e

  pub prints-few : (v : ℕ) → PrintsValue σ n c v → is_too_large σ.model.arities (choice_of σ n c) [] (listing σ.held.diagram) ≡ false
  prints-few v h = go (flag (is_too_large σ.model.arities (choice_of σ n c) [] (listing σ.held.diagram)))
    where
      go : Flag (is_too_large σ.model.arities (choice_of σ n c) [] (listing σ.held.diagram)) → is_too_large σ.model.arities (choice_of σ n c) [] (listing σ.held.diagram) ≡ false
      go (is_false e) = e
      go (is_true e) = let a = ap (λ (y : Reply). y.answer) (sym (meets-large e 0) ∙ h 0) in let z : ◌≡◌ {A = ℕ} 0 1 = cc in absurd (omega arith)

  pub large-meets : MeetsLarge σ n c → is_too_large σ.model.arities (choice_of σ n c) [] (listing σ.held.diagram) ≡ true
  large-meets h = go (flag (is_too_large σ.model.arities (choice_of σ n c) [] (listing σ.held.diagram)))
    where
      go : Flag (is_too_large σ.model.arities (choice_of σ n c) [] (listing σ.held.diagram)) → is_too_large σ.model.arities (choice_of σ n c) [] (listing σ.held.diagram) ≡ true
      go (is_true e) = e
      go (is_false e) = let a = ap (λ (y : Reply). y.answer) (sym (prints-value e 0) ∙ h 0) in let z : ◌≡◌ {A = ℕ} 0 1 = cc in absurd (omega arith)
