-- Which names are written with their N; and with more variables of a kind than the limit, the words' first fault and 8 do not depend on how variables are numbered.
use Rattle.std.specs.Prelude.{ℕ, ◌+◌, ◌-◌, ◌≤◌, ◌<◌, ◌≡◌, refl, Bool, true, false, ◌&&◌, cond, eqb, leb, length, get_or, take, drop}
use Rattle.std.proofs.Common.{sym, subst, ◌∙◌, arith, eqb-true, length-append}
use Rattle.std.proofs.Math.Path.{ap}
use mathlib.Core.List.{List, [], ◌∷◌, ◌++◌}
use Rattle.std.proofs.lemmas.Bool.{lt-leb}
use Rattle.std.proofs.Math.Seq.{take-length}
use Rattle.basics.specs.Tests.{and_left, and_right}
use Rattle.basics.specs.Members.{clash}
use Rattle.refusal.specs.declared.Refusal.{Refusal}
use Rattle.refusal.specs.declared.Refusal.TheVariants as F
use Rattle.refusal.specs.Outcome.{Outcome, ok, refused, and_then}
use Rattle.label.specs.Limits.{variable_count, minimum_count, equality, equality_arity}
use Rattle.label.specs.Labels.{atom_from, test_of}
use Rattle.diagram.specs.Sizes.{highest_value}
use Rattle.words.specs.declared.Key.{Key}
use Rattle.words.specs.Words.{IsNumber, number_form}
use Rattle.words.specs.WordLaws.{number-sound}
use Rattle.names.specs.Keys.{place_of, is_among}
use Rattle.events.specs.declared.Event.{Event}
use Rattle.events.specs.declared.Event.TheVariants as E
use Rattle.reading.specs.declared.Binding.{Binding}
use Rattle.reading.specs.declared.Binding.TheVariants.{Any, None as NoName, Only}
use Rattle.reading.specs.Operations.Op.{ask}
use Rattle.reading.specs.Reading.{Environment, met, Met, met_at, Pass, more, asked, beginning, begun, filling, term_word}
use Rattle.reading.specs.Reading.{number_word, atom_word, constant_number, parameter_number, variable_number, minimum_number, word, State, with-pass, read_words, is_within, finished, begin, reading}
use Rattle.reading.specs.Numbering.{letter_v, takes, is_numbered}
use Rattle.reading.specs.OutcomeLaws.{Match}
use Rattle.std.specs.Prelude.{None, Option, Some}

-- ===== Names with their N =====

number_is : (s : List ℕ) → takes (length s) (number_form s) ≡ true → IsNumber s
number_is s = go (number_form s) refl
  where
    go : (t : Option ℕ) → number_form s ≡ t → takes (length s) t ≡ true → IsNumber s
    go (Some n) q f =
        let z : n ≡ length s = eqb-true n (length s) f in
        subst (λ (x : List ℕ). IsNumber x) (ap (λ (m : ℕ). take m s) z ∙ take-length s) (number-sound s q)
    go None q f = clash f refl

-- v and a whole number without leading zeros, nothing else
pub numbered-number : (n : List ℕ) → is_numbered n ≡ true → (get_or n 0 0 ≡ letter_v) × IsNumber (drop 1 n)
unfolding is_numbered
numbered-number n e = (eqb-true (get_or n 0 0) letter_v (and_left _ _ e), number_is (drop 1 n) (and_right (eqb (get_or n 0 0) letter_v) _ e))

-- ===== The first fault, and 8 =====

-- as many terms are due
abbrev Due : Pass → Pass → Type 0
Due p q = p.due ≡ q.due

match-same : {A : Type 0} (P : A → A → Type 0) (o : Outcome A) → ((x : A) → P x x) → Match P o o
match-same P (ok x) f = f x
match-same P (refused r) f = refl

match-test : {A : Type 0} (P : A → A → Type 0) (b : Bool) (o p : Outcome A) (r : Refusal) → Match P o p → Match P (cond b o (refused r)) (cond b p (refused r))
match-test P true o p r m = m
match-test P false o p r m = refl

asked-same : (p : Pass) → (asked p).due ≡ p.due
unfolding asked
asked-same p = go (eqb p.due 0)
  where
    go : (b : Bool) → (cond b (more p (ask (test_of (atom_from p.predicate p.terms)))) p).due ≡ p.due
    go true = refl
    go false = refl

begun-same : (p q : Pass) (r n : ℕ) → Due (begun p r n) (begun q r n)
unfolding begun
begun-same p q r n = asked-same (beginning p r n) ∙ sym (asked-same (beginning q r n))

-- a term, whatever its number
term-match : (p q : Pass) (i j : Outcome ℕ) → Due p q → Match (λ x y. Unit {0}) i j → Match Due (term_word p i) (term_word q j)
unfolding term_word
term-match p q (ok x) (ok y) d m =
    subst (λ (n : ℕ). Match Due (cond (eqb p.due 0) (refused F.Form) (ok (asked (filling p x)))) (cond (eqb n 0) (refused F.Form) (ok (asked (filling q y))))) d
    (go (eqb p.due 0))
  where
    go : (b : Bool) → Match Due (cond b (refused F.Form) (ok (asked (filling p x)))) (cond b (refused F.Form) (ok (asked (filling q y))))
    go true = refl
    go false = asked-same (filling p x) ∙ ap (λ (n : ℕ). n - 1) d ∙ sym (asked-same (filling q y))
term-match p q (ok x) (refused s) d m = absurd m
term-match p q (refused r) (ok y) d m = absurd m
term-match p q (refused r) (refused s) d m = m

-- more variables of a kind than the limit
pub data Over (m : Met) : Type 0 where
  variables : variable_count < length m.variables → Over m
  minimums : minimum_count < length m.minimums → Over m

met-grows : (b : Binding) (vs : List Key) (k : Key) → length vs ≤ length (met b vs k)
unfolding met
met-grows Any vs k = go (is_among k vs) (leb (length vs) variable_count)
  where
    go : (x y : Bool) → length vs ≤ length (cond x vs (cond y (vs ++ (k ∷ [])) vs))
    go true y = omega arith
    go false true = omega (arith, length-append vs (k ∷ []))
    go false false = omega arith
met-grows NoName vs k = omega arith
met-grows Only vs k = omega arith

over-stays : (b : Binding) (m : Met) (e : Event) → Over m → Over (met_at b m e)
over-stays b m (E.Name k) o = o
over-stays b m (E.Variable k) (variables h) = variables (omega (arith, met-grows b m.variables k))
over-stays b m (E.Variable k) (minimums h) = minimums h
over-stays b m (E.Parameter k) o = o
over-stays b m (E.Minimum k) (variables h) = variables h
over-stays b m (E.Minimum k) (minimums h) = minimums (omega (arith, met-grows b m.minimums k))
over-stays b m (E.Number v) o = o
over-stays b m E.Equal o = o
over-stays b m (E.Holds k n) o = o
over-stays b m E.Step o = o
over-stays b m E.End o = o

over-refused : (m : Met) → Over m → is_within m ≡ false
over-refused m (variables h) = rw (lt-leb (length m.variables) variable_count h)
over-refused m (minimums h) = rw (lt-leb (length m.minimums) minimum_count h) (go (leb (length m.variables) variable_count))
  where
    go : (b : Bool) → (b && false) ≡ false
    go true = refl
    go false = refl

module _ (σ : Environment) (any : σ.binding ≡ Any) where
  word-match : (us vs : Met) (p q : Pass) (e : Event) → Due p q → Match Due (word σ us p e) (word σ vs q e)
  unfolding word number_word atom_word variable_number minimum_number
  word-match us vs p q (E.Name k) d = term-match p q _ _ d (match-same _ (constant_number σ.constants k) (λ x. tt))
  word-match us vs p q (E.Variable k) d =
      term-match p q (variable_number σ.binding us.variables k) (variable_number σ.binding vs.variables k) d
      (subst (λ (b : Binding). Match (λ x y. Unit {0}) (variable_number b us.variables k) (variable_number b vs.variables k)) (sym any) tt)
  word-match us vs p q (E.Parameter k) d = term-match p q _ _ d (match-same _ (parameter_number σ.parameters k) (λ x. tt))
  word-match us vs p q (E.Minimum k) d =
      term-match p q (minimum_number σ.binding us.minimums k) (minimum_number σ.binding vs.minimums k) d
      (subst (λ (b : Binding). Match (λ x y. Unit {0}) (minimum_number b us.minimums k) (minimum_number b vs.minimums k)) (sym any) tt)
  word-match us vs p q (E.Number v) d = match-test Due (leb v highest_value) _ _ F.Range d
  word-match us vs p q E.Equal d = begun-same p q equality equality_arity
  word-match us vs p q (E.Holds k n) d =
      match-test Due (is_among k σ.predicates) _ _ F.Name
      (match-test Due (eqb n (get_or σ.arities (place_of k σ.predicates + 1) 0)) _ _ F.Arity (begun-same p q (place_of k σ.predicates + 1) n))
  word-match us vs p q E.Step d = d
  word-match us vs p q E.End d = d

  abbrev Full : State → State → Type 0
  Full s t = Over s.met × Over t.met

  abbrev at : Met → Pass → State
  at m p = record { met = m; pass = p }

  words-match : (es : List Event) (us vs : Met) (p q : Pass) → Over us → Over vs → Due p q → Match Full (read_words σ es (at us p)) (read_words σ es (at vs q))
  unfolding read_words
  words-match [] us vs p q h l d = (h, l)
  words-match (e ∷ es) us vs p q h l d =
      let us' = met_at σ.binding us e in
      let vs' = met_at σ.binding vs e in
      go us' vs' (word σ us' p e) (word σ vs' q e) (word-match us' vs' p q e d)
      (λ x y. words-match es us' vs' x y (over-stays σ.binding us e h) (over-stays σ.binding vs e l))
    where
      go : (us vs : Met) (i j : Outcome Pass) → Match Due i j → ((x y : Pass) → Due x y → Match Full (read_words σ es (at us x)) (read_words σ es (at vs y)))
          → Match Full (and_then (with-pass us i) (read_words σ es)) (and_then (with-pass vs j) (read_words σ es))
      go us vs (ok x) (ok y) m ih = ih x y m
      go us vs (ok x) (refused s) m ih = absurd m
      go us vs (refused r) (ok y) m ih = absurd m
      go us vs (refused r) (refused s) m ih = m

  -- with more variables of a kind than the limit, the words come to their first fault, or to 8, whatever the order of the variables
  pub reading-many : (es : List Event) (us vs : Met) → Over us → Over vs → reading σ es us ≡ reading σ es vs
  unfolding reading
  reading-many es us vs h l = go (read_words σ es (begin us)) (read_words σ es (begin vs)) (words-match es us vs _ _ h l refl)
    where
      go : (i j : Outcome State) → Match Full i j → and_then i finished ≡ and_then j finished
      go (ok s) (ok t) m = rw (over-refused s.met m.0, over-refused t.met m.1)
      go (ok s) (refused r) m = absurd m
      go (refused r) (ok t) m = absurd m
      go (refused r) (refused s) m = ap refused m
