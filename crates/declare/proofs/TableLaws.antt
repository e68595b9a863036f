-- Laws of the tables of names, one for each way out of a declaration.
use mathlib.Core.Path.{◌≡◌, refl, sym, ap, ◌∙◌}
use mathlib.Core.Bool.{Bool, true, false, not, ◌&&◌}
use mathlib.Core.List.{List, [], ◌∷◌, ◌++◌}
use Prim.Native.Nat.{ℕ, zero, suc, ◌+◌, ◌*◌, ◌<◌, ◌≤◌}
use native.Mathlib.Omega.{arith}
use borrow.Author.Tests.{le-leb, lt-leb, le-ltb, lt-ltb, eqb-true, ltb-true, ltb-false}
use lib.ListN.{length, get_or, set, length-set}
use lib.Seq.{get_or-set_other}
use lib.Dec.{leb, ltb, eqb}
use Rattle.basics.specs.Tests.{Flag, is_true, is_false, flag, and_left, and_right}
use Rattle.label.specs.Limits.{predicate_count, most_places, equality, equality_arity, constant_count}
use Rattle.label.specs.Labels.{all_at_most, are_arities}
use Rattle.refusal.specs.declared.Refusal.TheVariants.{Name, Range, Space}
use Rattle.words.specs.declared.Key.{Key}
use Rattle.names.specs.Inner.{put_key}
use Rattle.names.specs.Keys.{keys_at, place_of, is_among}
use Rattle.names.specs.Layout.{constants_at, declared_at, actions_at, parameters_at, variants_at}
use Rattle.names.specs.KeyLaws.{among-at, among_none, length-keys, keys-same, length-put, put-before, put-behind, keys-more}
use Rattle.refusal.specs.Outcome.{ok}
use Rattle.mdp.specs.Model.{most_total, most_denominator}
use Rattle.session.specs.Session.{Names}
use Rattle.session.specs.Declaring.{is_declared, constant_line, Vocabulary, predicate_line, is_total, is_discount}
use Rattle.declare.specs.declared.Counts.{Counts}
use Rattle.declare.specs.Inner.{Naming, vocabulary_of, Wording}
use Rattle.declare.specs.Tables.{names_of, GoodNames, GoodVocabulary}
use Rattle.std.specs.Prelude.{Err, Ok}

pub names-ext : (x y : Names) → x.constants ≡ y.constants → x.predicates ≡ y.predicates → x.actions ≡ y.actions → x.parameters ≡ y.parameters
    → x.variants ≡ y.variants → x.earlier ≡ y.earlier → x ≡ y
names-ext x y a b c d e f = λ i. record { constants = a i; predicates = b i; actions = c i; parameters = d i; variants = e i; earlier = f i }

module _ (s : List ℕ) (n : Counts) (k : Key) {i : ℕ} (p : i ≡ place_of k (keys_at s constants_at n.constants)) where
  pub declared-constant : (h : i < n.constants) → ltb i n.constants ≡ is_declared (names_of s n) k
  unfolding is_declared names_of
  declared-constant h = rw (lt-ltb i n.constants h, among-at s constants_at n.constants k p h)

  pub declared-predicate : {j : ℕ} → j ≡ place_of k (keys_at s declared_at n.predicates) → n.constants ≤ i → ltb j n.predicates ≡ is_declared (names_of s n) k
  unfolding is_declared names_of
  declared-predicate {j} q h = rw (among_none s constants_at n.constants k p h) (go (flag (ltb j n.predicates)))
    where
      go : Flag (ltb j n.predicates) → ltb j n.predicates ≡ is_among k (keys_at s declared_at n.predicates)
      go (is_true e) = rw (e, among-at s declared_at n.predicates k q (ltb-true j n.predicates e))
      go (is_false e) = rw (e, among_none s declared_at n.predicates k q (ltb-false j n.predicates e))

-- ===== (constant n) =====

abbrev one_constant_more : Counts → Counts
one_constant_more n = record {
  constants = n.constants + 1;
  predicates = n.predicates;
  actions = n.actions;
  parameters = n.parameters;
  variants = n.variants;
  earlier = n.earlier;
}

constant-put : (s : List ℕ) (n : Counts) (k : Key) → GoodNames s n → n.constants < constant_count
    → names_of (put_key s (constants_at + n.constants * 2) k) (one_constant_more n)
    ≡ record {
      constants = keys_at s constants_at n.constants ++ (k ∷ []);
      predicates = (names_of s n).predicates;
      actions = (names_of s n).actions;
      parameters = (names_of s n).parameters;
      variants = (names_of s n).variants;
      earlier = (names_of s n).earlier;
    }
unfolding names_of
constant-put s n k g h =
    let r = g.room in
    let i : ℕ = constants_at + n.constants * 2 in
    names-ext _ _
    (keys-more s constants_at n.constants k (omega arith))
    (kept declared_at n.predicates (omega arith))
    (kept actions_at n.actions (omega arith))
    (kept parameters_at n.parameters (omega arith))
    (kept (variants_at + n.earlier * 2) n.variants (omega arith))
    (kept variants_at n.earlier (omega arith))
  where
    kept : (base m : ℕ) → constants_at + n.constants * 2 + 2 ≤ base → keys_at (put_key s (constants_at + n.constants * 2) k) base m ≡ keys_at s base m
    kept base m l = keys-same s (put_key s (constants_at + n.constants * 2) k) base m (put-behind s (constants_at + n.constants * 2) k base (m * 2) l)

module _ (s : List ℕ) (n : Counts) (k : Key) where
  pub constant-name : {b : Bool} → b ≡ is_declared (names_of s n) k → b ≡ true → Naming (constant_line (names_of s n) k) s (Err Name) s
  unfolding constant_line
  constant-name p e = record { named = (rw (← p, e), refl) }

  module _ {b : Bool} (p : b ≡ is_declared (names_of s n) k) (e : b ≡ false) where
    pub constant-space : constant_count ≤ n.constants → Naming (constant_line (names_of s n) k) s (Err Space) s
    unfolding constant_line names_of
    constant-space h = record { named = (rw (← p, e, length-keys, le-leb constant_count n.constants h), refl) }

    pub constant-done : {t : List ℕ} → GoodNames s n → n.constants < constant_count → t ≡ put_key s (constants_at + n.constants * 2) k
        → Naming (constant_line (names_of s n) k) s
        (Ok (one_constant_more n)) t
    unfolding constant_line names_of
    constant-done g h q = rw q (record { named = (rw (← p, e, length-keys, lt-leb constant_count n.constants h) (ap ok (sym (constant-put s n k g h))), good) })
      where
        good : GoodNames (put_key s (constants_at + n.constants * 2) k) (one_constant_more n)
        good = record {
          room = rw (length-put) g.room;
          constants = omega arith;
          predicates = g.predicates;
          actions = g.actions;
          parameters = g.parameters;
          variants = g.variants;
          earlier = g.earlier;
        }

-- ===== (predicate n arity) =====

abbrev one_predicate_more : Counts → Counts
one_predicate_more n = record {
  constants = n.constants;
  predicates = n.predicates + 1;
  actions = n.actions;
  parameters = n.parameters;
  variants = n.variants;
  earlier = n.earlier;
}

and_both : (a b : Bool) → a ≡ true → b ≡ true → (a && b) ≡ true
and_both a b p q = rw (p, q)

at-most-set : (ar : List ℕ) (i a : ℕ) → all_at_most most_places ar ≡ true → a ≤ most_places → all_at_most most_places (set ar i a) ≡ true
at-most-set [] i a h f = h
at-most-set (x ∷ xs) zero a h f = and_both _ _ (le-leb a most_places f) (and_right (leb x most_places) _ h)
at-most-set (x ∷ xs) (suc i) a h f = and_both _ _ (and_left (leb x most_places) _ h) (at-most-set xs i a (and_right (leb x most_places) _ h) f)

-- an arity list with another arity for a predicate but equality
arities-set : (ar : List ℕ) (i a : ℕ) → are_arities ar ≡ true → 0 < i → a ≤ most_places → are_arities (set ar i a) ≡ true
unfolding are_arities
arities-set ar i a h p f =
    let u = and_left (eqb (length ar) predicate_count) _ h in
    let v = and_right (eqb (length ar) predicate_count) _ h in
    let w = and_left (eqb (get_or ar equality 0) equality_arity) _ v in
    let x = and_right (eqb (get_or ar equality 0) equality_arity) _ v in
    and_both (eqb (length (set ar i a)) predicate_count) _ (rw length-set u)
    (and_both (eqb (get_or (set ar i a) equality 0) equality_arity) _ (rw (get_or-set_other ar i equality a 0 (λ e. omega arith)) w) (at-most-set ar i a x f))

predicate-put : (s : List ℕ) (n : Counts) (k : Key) → GoodNames s n → n.predicates + 1 < predicate_count
    → names_of (put_key s (declared_at + n.predicates * 2) k) (one_predicate_more n)
    ≡ record {
      constants = (names_of s n).constants;
      predicates = keys_at s declared_at n.predicates ++ (k ∷ []);
      actions = (names_of s n).actions;
      parameters = (names_of s n).parameters;
      variants = (names_of s n).variants;
      earlier = (names_of s n).earlier;
    }
unfolding names_of
predicate-put s n k g h =
    let r = g.room in
    let c = g.constants in
    names-ext _ _
    (keys-same s (put_key s (declared_at + n.predicates * 2) k) constants_at n.constants
    (put-before s (declared_at + n.predicates * 2) k constants_at (n.constants * 2) (omega arith)))
    (keys-more s declared_at n.predicates k (omega arith))
    (kept actions_at n.actions (omega arith))
    (kept parameters_at n.parameters (omega arith))
    (kept (variants_at + n.earlier * 2) n.variants (omega arith))
    (kept variants_at n.earlier (omega arith))
  where
    kept : (base m : ℕ) → declared_at + n.predicates * 2 + 2 ≤ base → keys_at (put_key s (declared_at + n.predicates * 2) k) base m ≡ keys_at s base m
    kept base m l = keys-same s (put_key s (declared_at + n.predicates * 2) k) base m (put-behind s (declared_at + n.predicates * 2) k base (m * 2) l)

vocabulary-ext : (x y : Vocabulary) → x.names ≡ y.names → x.arities ≡ y.arities → x ≡ y
vocabulary-ext x y a b = λ i. record { names = a i; arities = b i }

module _ (s ar : List ℕ) (n : Counts) (k : Key) (a : ℕ) where
  pub predicate-name : {b : Bool} → b ≡ is_declared (names_of s n) k → b ≡ true → Wording (predicate_line (vocabulary_of s ar n) k a) s ar (Err Name) s ar
  unfolding predicate_line vocabulary_of
  predicate-name p e = record { worded = (rw (← p, e), refl, refl) }

  module _ {b : Bool} (p : b ≡ is_declared (names_of s n) k) (e : b ≡ false) where
    pub predicate-range : most_places < a → Wording (predicate_line (vocabulary_of s ar n) k a) s ar (Err Range) s ar
    unfolding predicate_line vocabulary_of
    predicate-range h = record { worded = (rw (← p, e, lt-ltb most_places a h), refl, refl) }

    pub predicate-space : a ≤ most_places → predicate_count ≤ n.predicates + 1 → Wording (predicate_line (vocabulary_of s ar n) k a) s ar (Err Space) s ar
    unfolding predicate_line vocabulary_of names_of
    predicate-space f h = record { worded = (rw (← p, e, le-ltb most_places a f, length-keys, le-leb predicate_count (suc n.predicates) (omega arith)), refl, refl) }

    pub predicate-done : {t br : List ℕ} → GoodVocabulary s ar n → a ≤ most_places → n.predicates + 1 < predicate_count → t ≡ put_key s (declared_at + n.predicates * 2) k
        → br ≡ set ar (n.predicates + 1) a
        → Wording (predicate_line (vocabulary_of s ar n) k a) s ar
        (Ok (one_predicate_more n)) t br
    unfolding predicate_line vocabulary_of names_of
    predicate-done g f h q u = rw (q, u) (record { worded = (rw (← p, e, le-ltb most_places a f, length-keys, lt-leb predicate_count (suc n.predicates) (omega arith)) (ap ok (sym same)), good) })
      where
        same : vocabulary_of (put_key s (declared_at + n.predicates * 2) k) (set ar (n.predicates + 1) a) (one_predicate_more n)
            ≡ record {
              names = record {
                constants = (names_of s n).constants;
                predicates = keys_at s declared_at n.predicates ++ (k ∷ []);
                actions = (names_of s n).actions;
                parameters = (names_of s n).parameters;
                variants = (names_of s n).variants;
                earlier = (names_of s n).earlier;
              };
              arities = set ar (suc n.predicates) a;
            }
        same = vocabulary-ext _ _ (predicate-put s n k g.names h) (ap (λ (i : ℕ). set ar i a) (omega arith))

        good : GoodVocabulary (put_key s (declared_at + n.predicates * 2) k) (set ar (n.predicates + 1) a) (one_predicate_more n)
        good = record {
          names = record {
            room = rw (length-put) g.names.room;
            constants = g.names.constants;
            predicates = h;
            actions = g.names.actions;
            parameters = g.names.parameters;
            variants = g.names.variants;
            earlier = g.names.earlier;
          };
          arities = arities-set ar (n.predicates + 1) a g.arities (omega arith) f;
        }

pub arity-room : (s ar : List ℕ) (n : Counts) → GoodVocabulary s ar n → n.predicates + 1 < predicate_count → n.predicates + 1 < length ar
unfolding are_arities
arity-room s ar n g h = let e = eqb-true (length ar) predicate_count (and_left (eqb (length ar) predicate_count) _ g.arities) in omega arith

-- ===== (total W) and (discount G D) =====

pub total-none : (w : ℕ) → w ≡ 0 → not (eqb w 0) ≡ is_total w
unfolding is_total
total-none w e = rw e

pub total-some : (w : ℕ) → (w ≡ 0 → ⊥) → leb w most_total ≡ is_total w
unfolding is_total
total-some w e = rw (le-leb 1 w (omega (arith, e)))

pub discount-none : (g d : ℕ) {b : Bool} → d ≡ 0 → b ≡ not (eqb d 0) → b ≡ is_discount g d
unfolding is_discount
discount-none g d e p = p ∙ rw e

pub discount-over : (g d : ℕ) {b : Bool} → (d ≡ 0 → ⊥) → most_denominator < d → b ≡ leb d most_denominator → b ≡ is_discount g d
unfolding is_discount
discount-over g d e h p = rw (p, le-leb 1 d (omega (arith, e)), lt-leb d most_denominator h)

pub discount-some : (g d : ℕ) → (d ≡ 0 → ⊥) → d ≤ most_denominator → leb g d ≡ is_discount g d
unfolding is_discount
discount-some g d e h = rw (le-leb 1 d (omega (arith, e)), le-leb d most_denominator h)
