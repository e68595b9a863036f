-- (count n) is accepted exactly if MayCount says so, and refused exactly as RefusesCount says (document 02, L11).
use Rattle.std.specs.Prelude.{◌≡◌, refl, ◌⊎◌, Bool, true, false, List, [], ℕ, ◌^◌, ◌≤◌, ◌<◌, min, length, get_or, eqb}
use Rattle.std.proofs.Common.{sym, ap, ◌∙◌, subst, inl, inr, arith}
use Rattle.std.proofs.lemmas.Bool.{eqb-false}
use Rattle.basics.specs.Tests.{Flag, is_true, is_false, flag, Cmp, below, equal, above, cmp}
use Rattle.basics.specs.Members.{clash}
use Rattle.refusal.specs.declared.Refusal.{Refusal}
use Rattle.refusal.specs.declared.Refusal.TheVariants as F
use Rattle.refusal.specs.Outcome.{Outcome, ok, refused}
use Rattle.diagram.specs.Listing.{listing}
use Rattle.state.specs.Lent.{some_below, constants_below, most_objects}
use Rattle.state.proofs.LentLaws.{some-found, some-made, some-none}
use Rattle.elimination.specs.Answer.{is_too_large}
use Rattle.spread.specs.Ground.{most_ground}
use Rattle.spread.specs.Spread.{Entry, some_too_large}
use Rattle.spread.proofs.LentChoiceLaws.{spread-many, spread-large, spread_lines}
use Rattle.words.specs.Bytes.{over, decimal, value_of}
use Rattle.text.specs.declared.Kind.TheVariants as K
use Rattle.text.specs.Line.{GoodLine}
use Rattle.text.specs.Line.Line.{line}
use Rattle.answers.specs.declared.Answer.TheVariants as A
use Rattle.session.specs.declared.Part.{Part}
use Rattle.session.specs.declared.Part.TheVariants.{Model as ModelPart, Run}
use Rattle.session.specs.Session.{Session}
use Rattle.session.specs.Running.{entries_in, count_read}
use Rattle.session.specs.Replies.{Reply, each_placed, refusal, count_says, reply}
use Rattle.session.specs.Good.{GoodSession}
use Rattle.text_spreads.specs.Claims.{count_line, ground_in, choice_of, value_at, AllPlaced, AllBelow, MayCount, RefusesCount, in-model, unplaced, outside, beyond, many_ground, large}
use Rattle.text_spreads.proofs.LineLaws.{model-refused, unplaced-refused, placed-said, every-false, marks-placed, placed-marks, Settled, all-below, below_all}
use Rattle.text_spreads.proofs.LineLaws.{not-below, read-outside, read-beyond, read-spread, prints-value, meets-large, prints-few, large-meets}

-- not both answers of a test
not-true : (b : Bool) → (b ≡ true → ⊥) → b ≡ false
not-true true h = absurd (h refl)
not-true false h = refl

module _ (σ : Session) (g : GoodSession σ) (settled : Settled σ) (n : ℕ) where
  abbrev read : Outcome (List Entry)
  read = count_read σ.model σ.names σ.live σ.held.diagram n

  abbrev found-entries : List Entry
  found-entries = entries_in σ.model σ.names σ.live σ.held.diagram n

  abbrev too_large_at : ℕ → Bool
  too_large_at c = is_too_large σ.model.arities (choice_of σ n c) [] (listing σ.held.diagram)

  -- ===== What is read, where the place is right =====

  -- r refuses it for n, the constants, the ground facts or a state
  data Refuses : Refusal → Type 0 where
    by-range : (n < 1) ⊎ (most_objects < n) → Refuses F.Range
    by-constant : 1 ≤ n → n ≤ most_objects → (c : ℕ) → c < length σ.names.constants → n ≤ get_or σ.live.constants c 0 → Refuses F.Range
    by-ground : 1 ≤ n → n ≤ most_objects → AllBelow σ n → most_ground < ground_in σ n → Refuses F.Ground
    by_state : 1 ≤ n → n ≤ most_objects → AllBelow σ n → ground_in σ n ≤ most_ground → (c : ℕ) → c < 2 ^ ground_in σ n → too_large_at c ≡ true → Refuses F.Valuations

  record Passes : Type 0 where
    some : 1 ≤ n
    most : n ≤ most_objects
    below_all : AllBelow σ n
    few : ground_in σ n ≤ most_ground
    valued : (c : ℕ) → c < 2 ^ ground_in σ n → too_large_at c ≡ false

  read-refused : (r : Refusal) → Refuses r → read ≡ refused r
  unfolding some_too_large
  read-refused r (by-range h) = read-outside σ n h
  read-refused r (by-constant a b c k l) =
      read-beyond σ n a b (not-true (constants_below n σ.live.constants) (λ e. let z = below_all σ settled n a g.tables.constants e c k in omega arith))
  read-refused r (by-ground a b h k) =
      read-spread σ n a b (all-below σ settled n a h)
      ∙ spread-many σ.model.arities (length σ.names.predicates) n σ.live.constants (listing σ.held.diagram) k
  read-refused r (by_state a b h k c l e) =
      read-spread σ n a b (all-below σ settled n a h)
      ∙ spread-large σ.model.arities (length σ.names.predicates) n σ.live.constants (listing σ.held.diagram) k
      (some-made (2 ^ ground_in σ n) too_large_at c l e)

  read-passes : Passes → read ≡ ok found-entries
  unfolding some_too_large
  read-passes h =
      read-spread σ n h.some h.most (all-below σ settled n h.some h.below_all)
      ∙ spread_lines σ.model.arities (length σ.names.predicates) n σ.live.constants (listing σ.held.diagram) h.few
      (some-none (2 ^ ground_in σ n) too_large_at h.valued)

  -- one of the two
  data Judged : Type 0 where
    refusing : (r : Refusal) → Refuses r → Judged
    passing : Passes → Judged

  judged : Judged
  judged = by-low (cmp n 1)
    where
      states : 1 ≤ n → n ≤ most_objects → AllBelow σ n → ground_in σ n ≤ most_ground → (b : Bool) → some_below (2 ^ ground_in σ n) too_large_at ≡ b → Judged
      states a b h k true e =
          let f = some-found (2 ^ ground_in σ n) too_large_at e in
          refusing F.Valuations (by_state a b h k f.0 f.1 f.2)
      states a b h k false e = passing (record {
        some = a;
        most = b;
        below_all = h;
        few = k;
        valued = λ c l. not-true (too_large_at c) (λ t. clash (some-made (2 ^ ground_in σ n) too_large_at c l t) e);
      })

      facts : 1 ≤ n → n ≤ most_objects → AllBelow σ n → Cmp most_ground (ground_in σ n) → Judged
      facts a b h (below k) = refusing F.Ground (by-ground a b h k)
      facts a b h (equal k) = states a b h (omega arith) (some_below (2 ^ ground_in σ n) too_large_at) refl
      facts a b h (above k) = states a b h (omega arith) (some_below (2 ^ ground_in σ n) too_large_at) refl

      constants : 1 ≤ n → n ≤ most_objects → Flag (constants_below n σ.live.constants) → Judged
      constants a b (is_true e) = facts a b (below_all σ settled n a g.tables.constants e) (cmp most_ground (ground_in σ n))
      constants a b (is_false e) = let f = not-below σ settled n a e in refusing F.Range (by-constant a b f.0 f.1 f.2)

      by_most : 1 ≤ n → Cmp most_objects n → Judged
      by_most a (below h) = refusing F.Range (by-range (inr h))
      by_most a (equal h) = constants a (omega arith) (flag (constants_below n σ.live.constants))
      by_most a (above h) = constants a (omega arith) (flag (constants_below n σ.live.constants))

      by-low : Cmp n 1 → Judged
      by-low (below h) = refusing F.Range (by-range (inl h))
      by-low (equal h) = by_most (omega arith) (cmp most_objects n)
      by-low (above h) = by_most (omega arith) (cmp most_objects n)

-- ===== The number written =====

-- numbers above 10^18 are held at 10^18 + 1: no such number is an n
abbrev Alike : ℕ → ℕ → Type 0
Alike m n = (m ≡ n) ⊎ ((most_objects < m) × (most_objects < n))

alike : (w : List ℕ) → Alike (value_of w) (decimal w)
unfolding value_of
alike w = go (cmp (decimal w) over)
  where
    go : Cmp (decimal w) over → Alike (min over (decimal w)) (decimal w)
    go (below h) = inl (omega arith)
    go (equal h) = inl (omega arith)
    go (above h) = inr (omega arith)

alike-refuses : (σ : Session) (m n : ℕ) (r : Refusal) → Alike m n → RefusesCount σ m r → RefusesCount σ n r
alike-refuses σ m n r (inl e) h = subst (λ i. RefusesCount σ i r) e h
alike-refuses σ m n r (inr k) (in-model p) = in-model p
alike-refuses σ m n r (inr k) (unplaced p c l u) = unplaced p c l u
alike-refuses σ m n r (inr k) (outside p a o) = outside p a (inr k.1)
alike-refuses σ m n r (inr k) (beyond p a s o c l u) = absurd (omega (arith, k.0))
alike-refuses σ m n r (inr k) (many_ground p a s o b u) = absurd (omega (arith, k.0))
alike-refuses σ m n r (inr k) (large p a s o b f c l u) = absurd (omega (arith, k.0))

turned : (m n : ℕ) → Alike m n → Alike n m
turned m n (inl e) = inl (sym e)
turned m n (inr k) = inr (k.1, k.0)

few-alike : (m n : ℕ) → Alike m n → m ≤ most_objects → m ≡ n
few-alike m n (inl e) h = e
few-alike m n (inr k) h = absurd (omega (arith, k.0))

-- ===== The reply =====

module _ (σ : Session) (g : GoodSession σ) (settled : Settled σ) (number : ℕ) (w : List ℕ) (line-good : GoodLine (line K.Count w)) where
  read-said : σ.part ≡ Run → AllPlaced σ → (o : Outcome (List Entry)) → count_read σ.model σ.names σ.live σ.held.diagram (value_of w) ≡ o
      → reply σ number (count_line w) ≡ count_says σ number (value_of w) o
  read-said p a o e = placed-said σ number w line-good p (placed-marks σ a) ∙ ap (count_says σ number (value_of w)) e

  held-refuses : (r : Refusal) → RefusesCount σ (value_of w) r → reply σ number (count_line w) ≡ refusal σ number r
  held-refuses r (in-model p) = model-refused σ number w line-good p
  held-refuses r (unplaced p c l u) =
      unplaced-refused σ number w line-good p
      (not-true (each_placed σ.live.placed (length σ.names.constants)) (λ e. u (marks-placed σ e c l)))
  held-refuses r (outside p a o) = read-said p a (refused F.Range) (read-refused σ g settled (value_of w) F.Range (by-range o))
  held-refuses r (beyond p a s o c l u) = read-said p a (refused F.Range) (read-refused σ g settled (value_of w) F.Range (by-constant s o c l u))
  held-refuses r (many_ground p a s o b u) = read-said p a (refused F.Ground) (read-refused σ g settled (value_of w) F.Ground (by-ground s o b u))
  held-refuses r (large p a s o b f c l u) =
      read-said p a (refused F.Valuations)
      (read-refused σ g settled (value_of w) F.Valuations (by_state s o b f c l (large-meets σ g p (placed-marks σ a) (value_of w) s c u)))

  held-may : MayCount σ (value_of w)
      → reply σ number (count_line w) ≡ record { session = σ; answer = A.Count (value_of w) (length (entries_in σ.model σ.names σ.live σ.held.diagram (value_of w))) }
  held-may h =
      read-said h.run h.placed (ok (entries_in σ.model σ.names σ.live σ.held.diagram (value_of w)))
      (read-passes σ g settled (value_of w) (record {
        some = h.some;
        most = h.most;
        below_all = h.below;
        few = h.few;
        valued = λ c l. prints-few σ g h.run (placed-marks σ h.placed) (value_of w) h.some c (value_at σ (value_of w) c) (h.valued c l);
      }))

  -- one of the two
  decided : ((r : Refusal) × RefusesCount σ (value_of w) r) ⊎ MayCount σ (value_of w)
  decided = by_part σ.part refl
    where
      in_place : σ.part ≡ Run → AllPlaced σ → Judged σ g settled (value_of w) → ((r : Refusal) × RefusesCount σ (value_of w) r) ⊎ MayCount σ (value_of w)
      in_place p a (refusing r (by-range o)) = inl (F.Range, outside p a o)
      in_place p a (refusing r (by-constant s o c l u)) = inl (F.Range, beyond p a s o c l u)
      in_place p a (refusing r (by-ground s o b u)) = inl (F.Ground, many_ground p a s o b u)
      in_place p a (refusing r (by_state s o b f c l u)) = inl (F.Valuations, large p a s o b f c l (meets-large σ g p (placed-marks σ a) (value_of w) s c u))
      in_place p a (passing h) = inr (record {
        run = p;
        placed = a;
        some = h.some;
        most = h.most;
        below = h.below_all;
        few = h.few;
        valued = λ c l. prints-value σ g p (placed-marks σ a) (value_of w) h.some c (h.valued c l);
      })

      by-marks : σ.part ≡ Run → Flag (each_placed σ.live.placed (length σ.names.constants)) → ((r : Refusal) × RefusesCount σ (value_of w) r) ⊎ MayCount σ (value_of w)
      by-marks p (is_true e) = in_place p (marks-placed σ e) (judged σ g settled (value_of w))
      by-marks p (is_false e) =
          let f = every-false (length σ.names.constants) (λ c. eqb (get_or σ.live.placed c 0) 1) e in
          inl (F.Place, unplaced p f.0 f.1 (eqb-false (get_or σ.live.placed f.0 0) 1 f.2))

      by_part : (q : Part) → σ.part ≡ q → ((r : Refusal) × RefusesCount σ (value_of w) r) ⊎ MayCount σ (value_of w)
      by_part ModelPart p = inl (F.Place, in-model p)
      by_part Run p = by-marks p (flag (each_placed σ.live.placed (length σ.names.constants)))

  -- each of these refuses it
  pub refuses-count : (r : Refusal) → RefusesCount σ (decimal w) r → reply σ number (count_line w) ≡ refusal σ number r
  refuses-count r h = held-refuses r (alike-refuses σ (decimal w) (value_of w) r (turned (value_of w) (decimal w) (alike w)) h)

  -- nothing else refuses it
  pub count-refuses : (r : Refusal) (i : ℕ) → (reply σ number (count_line w)).answer ≡ A.Refused r i → RefusesCount σ (decimal w) r
  count-refuses r i e = go decided
    where
      go : ((q : Refusal) × RefusesCount σ (value_of w) q) ⊎ MayCount σ (value_of w) → RefusesCount σ (decimal w) r
      go (inl h) =
          let a = sym (ap (λ (y : Reply). y.answer) (held-refuses h.0 h.1)) ∙ e in
          let q : h.0 ≡ r = cc in
          alike-refuses σ (value_of w) (decimal w) r (alike w) (subst (RefusesCount σ (value_of w)) q h.1)
      go (inr h) = let a = sym (ap (λ (y : Reply). y.answer) (held-may h)) ∙ e in let z : ◌≡◌ {A = ℕ} 0 1 = cc in absurd (omega arith)

  -- it is accepted where it may be
  pub may-count : MayCount σ (decimal w)
      → reply σ number (count_line w) ≡ record { session = σ; answer = A.Count (decimal w) (length (entries_in σ.model σ.names σ.live σ.held.diagram (decimal w))) }
  may-count h =
      let e = few-alike (decimal w) (value_of w) (turned (value_of w) (decimal w) (alike w)) h.most in
      held-may (subst (MayCount σ) e h)
      ∙ ap (λ n. record { session = σ; answer = A.Count n (length (entries_in σ.model σ.names σ.live σ.held.diagram n)) }) (sym e)

  -- and nowhere else
  pub count-may : (n m : ℕ) → (reply σ number (count_line w)).answer ≡ A.Count n m → MayCount σ (decimal w)
  count-may n m e = go decided
    where
      go : ((q : Refusal) × RefusesCount σ (value_of w) q) ⊎ MayCount σ (value_of w) → MayCount σ (decimal w)
      go (inl h) = let a = sym (ap (λ (y : Reply). y.answer) (held-refuses h.0 h.1)) ∙ e in let z : ◌≡◌ {A = ℕ} 0 1 = cc in absurd (omega arith)
      go (inr h) = subst (MayCount σ) (few-alike (value_of w) (decimal w) (alike w) h.most) h
