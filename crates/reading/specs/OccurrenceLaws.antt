-- The words pass keeps one variable of each kind more than the limit, and yet judges 8 by all: more distinct names of a kind than the limit are
-- refused, and up to it none is left out.
use Rattle.std.specs.Prelude.{◌+◌, ◌≤◌, ◌<◌, ◌≡◌, refl, Bool, true, false, ◌&&◌, cond, List, [], ◌∷◌, ◌++◌, leb, length, take}
use Rattle.std.proofs.Common.{sym, ap, ap₂, ◌∙◌, arith, le-leb, length-append, length-take-le, take_all}
use Rattle.std.proofs.Math.Decide.{dec_lt}
use Rattle.std.proofs.lemmas.Bool.{lt-leb}
use Rattle.std.proofs.lemmas.List.{take-append-le}
use Rattle.refusal.specs.declared.Refusal.TheVariants as F
use Rattle.refusal.specs.Outcome.{Outcome, ok, refused, and_then}
use Rattle.label.specs.Limits.{variable_count}
use Rattle.words.specs.declared.Key.{Key}
use Rattle.names.specs.Keys.{is_among}
use Rattle.events.specs.declared.Event.{Event}
use Rattle.events.specs.declared.Event.TheVariants as E
use Rattle.reading.specs.declared.Binding.{Binding}
use Rattle.reading.specs.declared.Binding.TheVariants.{Any}
use Rattle.reading.specs.Operations.{Op}
use Rattle.reading.specs.Reading.{Environment, met, Met, arguments, met_at, Pass, word}
use Rattle.reading.specs.Reading.{State, with-pass, read_word, read_words, finished, begin, Written, written, reading}
use Rattle.reading.specs.Inner.{occurring_met}
use Rattle.reading.specs.OutcomeLaws.{apart, chained}

-- the pass keeps this many of a kind
abbrev pub kept : List Key → List Key
kept us = take (variable_count + 1) us

abbrev pub kept_met : Met → Met
kept_met m = record { variables = kept m.variables; minimums = kept m.minimums }

pick_same : (b : Bool) (x : List Key) → cond b x x ≡ x
pick_same true x = refl
pick_same false x = refl

-- one variable more, in the table and among all
pub met-kept : (us : List Key) (k : Key) → met Any (kept us) k ≡ kept (cond (is_among k us) us (us ++ (k ∷ [])))
unfolding met
met-kept us k = go (dec_lt (length us) (variable_count + 1))
  where
    by-test : (b : Bool) → length us < variable_count + 1 → cond b us (us ++ (k ∷ [])) ≡ kept (cond b us (us ++ (k ∷ [])))
    by-test true h = sym (take_all (variable_count + 1) us (omega arith))
    by-test false h = sym (take_all (variable_count + 1) (us ++ (k ∷ [])) (omega (arith, length-append us (k ∷ []))))

    full : (b : Bool) → variable_count + 1 ≤ length us → kept us ≡ kept (cond b us (us ++ (k ∷ [])))
    full true h = refl
    full false h = sym (take-append-le (variable_count + 1) us (k ∷ []) h)

    go : Dec (length us < variable_count + 1)
        → cond (is_among k (kept us)) (kept us) (cond (leb (length (kept us)) variable_count) (kept us ++ (k ∷ [])) (kept us))
        ≡ kept (cond (is_among k us) us (us ++ (k ∷ [])))
    go (yes h) = rw (take_all (variable_count + 1) us (omega arith), le-leb (length us) variable_count (omega arith)) (by-test (is_among k us) h)
    go (no h) =
        let l : variable_count + 1 ≤ length us = omega arith in
        rw (length-take-le (variable_count + 1) us l) (pick_same (is_among k (kept us)) (kept us) ∙ full (is_among k us) l)

-- the variables after all words
abbrev met_by : Binding → Met → List Event → Met
met_by b m [] = m
met_by b m (e ∷ es) = met_by b (met_at b m e) es

met_all : (es : List Event) (m : Met) → met_by Any (kept_met m) es ≡ kept_met (occurring_met m es)
met_all [] m = refl
met_all (E.Name k ∷ es) m = met_all es m
met_all (E.Variable k ∷ es) m =
    ap (λ vs. met_by Any (record { variables = vs; minimums = kept m.minimums }) es) (met-kept m.variables k)
    ∙ met_all es (record { variables = cond (is_among k m.variables) m.variables (m.variables ++ (k ∷ [])); minimums = m.minimums })
met_all (E.Parameter k ∷ es) m = met_all es m
met_all (E.Minimum k ∷ es) m =
    ap (λ vs. met_by Any (record { variables = kept m.variables; minimums = vs }) es) (met-kept m.minimums k)
    ∙ met_all es (record { variables = m.variables; minimums = cond (is_among k m.minimums) m.minimums (m.minimums ++ (k ∷ [])) })
met_all (E.Number v ∷ es) m = met_all es m
met_all (E.Equal ∷ es) m = met_all es m
met_all (E.Holds k n ∷ es) m = met_all es m
met_all (E.Step ∷ es) m = met_all es m
met_all (E.End ∷ es) m = met_all es m

passed_on : (m : Met) (j : Outcome Pass) (s : State) → with-pass m j ≡ ok s → m ≡ s.met
passed_on m (ok p) s e =
    let z : ◌≡◌ {A = State} (record { met = m; pass = p }) s = cc in ap (λ (x : State). x.met) z
passed_on m (refused r) s e = absurd (apart e)

words-met : (σ : Environment) (es : List Event) (s t : State) → read_words σ es s ≡ ok t → t.met ≡ met_by σ.binding s.met es
unfolding read_words
words-met σ [] s t e = let z : s ≡ t = cc in ap (λ (x : State). x.met) (sym z)
words-met σ (e ∷ es) s t p =
    let c = chained (read_word σ s e) (read_words σ es) t p in
    words-met σ es c.first t c.then
    ∙ ap (λ m. met_by σ.binding m es) (sym (passed_on (met_at σ.binding s.met e) (word σ (met_at σ.binding s.met e) s.pass e) c.first c.answers))

-- the counts of the table against the limits are those of all
module _ (m : Met) (o : List Op) where
  few-kept : length m.variables < variable_count + 1 → length m.minimums < variable_count + 1 → written (kept_met m) o ≡ written m o
  few-kept h l =
      ap₂ (λ (us vs : List Key). written (record { variables = us; minimums = vs }) o)
      (take_all (variable_count + 1) m.variables (omega arith)) (take_all (variable_count + 1) m.minimums (omega arith))

  many-variables : variable_count + 1 ≤ length m.variables → written (kept_met m) o ≡ written m o
  many-variables l = rw (length-take-le (variable_count + 1) m.variables l, lt-leb (length m.variables) variable_count (omega arith))

  many-minimums : length m.variables < variable_count + 1 → variable_count + 1 ≤ length m.minimums → written (kept_met m) o ≡ written m o
  many-minimums h l =
      rw (take_all (variable_count + 1) m.variables (omega arith), length-take-le (variable_count + 1) m.minimums l, lt-leb (length m.minimums) variable_count (omega arith))
      (refuses (leb (length m.variables) variable_count) _ _)
    where
      refuses : (b : Bool) (x y : Written) → cond (b && false) (ok x) (refused F.Variables) ≡ cond (b && false) (ok y) (refused F.Variables)
      refuses true x y = refl
      refuses false x y = refl

  count_kept : written (kept_met m) o ≡ written m o
  count_kept = go (dec_lt (length m.variables) (variable_count + 1)) (dec_lt (length m.minimums) (variable_count + 1))
    where
      go : Dec (length m.variables < variable_count + 1) → Dec (length m.minimums < variable_count + 1) → written (kept_met m) o ≡ written m o
      go (yes h) (yes l) = few-kept h l
      go (yes h) (no l) = many-minimums h (omega arith)
      go (no h) l = many-variables (omega arith)

-- a reward's words without a fault: 8 by all of their variables, kind by kind, or all of them in their order
pub reading-counts : (σ : Environment) → σ.binding ≡ Any → (es : List Event) (s : State) → read_words σ es (begin (arguments [])) ≡ ok s
    → reading σ es (arguments []) ≡ written (occurring_met (arguments []) es) s.pass.operations
unfolding reading
reading-counts σ b es s e =
    let all : Met = occurring_met (arguments []) es in
    let v : s.met ≡ kept_met all = words-met σ es (begin (arguments [])) s e ∙ ap (λ c. met_by c (arguments []) es) b ∙ met_all es (arguments []) in
    ap (λ j. and_then j finished) e
    ∙ ap (λ m. written m s.pass.operations) v
    ∙ count_kept all s.pass.operations
