-- Variables of a kind by first occurrence: those met first stay first, and the pass over words, which keeps one more than the limit, loses none that has a number.
-- The variables of a diagram's words are those of its terms.
use Rattle.std.specs.Prelude.{◌≡◌, refl, Bool, true, false, cond, ◌&&◌, List, [], ◌∷◌, ◌++◌, map, ℕ, suc, ◌+◌, ◌≤◌, ◌<◌, leb, length}
use Rattle.std.proofs.Common.{sym, ap, ap₂, ◌∙◌, append-nil, append_assoc, arith, length-append, length-take-le, take_all, ltb-true, lt-ltb}
use Rattle.std.proofs.Math.Decide.{dec_lt}
use Rattle.std.proofs.lemmas.Bool.{lt-leb}
use Rattle.basics.specs.Tests.{Flag, is_true, is_false, flag}
use Rattle.basics.specs.Prefix.{Prefix, prefix_refl, prefix-snoc, prefix_trans}
use Rattle.label.specs.Limits.{variable_count}
use Rattle.words.specs.Keys.{key_of}
use Rattle.words.specs.declared.Key.{Key}
use Rattle.names.specs.Keys.{same_key, place_of, is_among}
use Rattle.names.specs.KeyLaws.{same_refl}
use Rattle.forms.specs.Tree as T
use Rattle.forms.specs.Tree.Mark.{plain, variable, parameter, minimum}
use Rattle.forms.specs.Tree.Term.{term}
use Rattle.forms.specs.Tree.Atom.{equal, holds}
use Rattle.forms.specs.Tree.Diagram.{number as numeral, branch as conditional}
use Rattle.events.specs.declared.Event.{Event}
use Rattle.events.specs.declared.Event.TheVariants as E
use Rattle.events.specs.Events.{term_event, atom_events, diagram_events}
use Rattle.reading.specs.declared.Binding.TheVariants.{Any}
use Rattle.reading.specs.declared.Kind.{Kind}
use Rattle.reading.specs.declared.Kind.TheVariants as K
use Rattle.reading.specs.Reading.{Environment, Met, number_in, is_within, reading}
use Rattle.reading.specs.Occurrences.{variable_of, word_keys, keys_of}
use Rattle.reading.specs.Numbering.{variables_first, met_first}
use Rattle.reading.specs.OccurrenceLaws.{kept, kept_met}
use Rattle.reading.specs.NumberingLaws.{reading-many}
use Rattle.reading.specs.NumberingLaws.Over.{variables, minimums}
use Rattle.line_trees.specs.TreeReading.{atom_terms, diagram_terms, with_one, variables_after, term_keys, first_variables}

-- ===== Places =====

among_below : (k : Key) (us : List Key) → is_among k us ≡ true → place_of k us < length us
unfolding is_among
among_below k us e = ltb-true (place_of k us) (length us) e

-- a key's place stays where more keys follow
place-more : (k : Key) (us more : List Key) → place_of k us < length us → place_of k (us ++ more) ≡ place_of k us
unfolding place_of
place-more k [] more h = absurd (omega arith)
place-more k (x ∷ us) more h = go (same_key x k) h (place-more k us more)
  where
    go : (b : Bool) → cond b 0 (suc (place_of k us)) < suc (length us) → (place_of k us < length us → place_of k (us ++ more) ≡ place_of k us)
        → cond b 0 (suc (place_of k (us ++ more))) ≡ cond b 0 (suc (place_of k us))
    go true l ih = refl
    go false l ih = ap suc (ih (omega arith))

place-last : (k : Key) (us : List Key) → place_of k (us ++ (k ∷ [])) ≤ length us
unfolding place_of
place-last k [] = rw (same_refl k) (omega arith)
place-last k (x ∷ us) = go (same_key x k) (place-last k us)
  where
    go : (b : Bool) → place_of k (us ++ (k ∷ [])) ≤ length us → cond b 0 (suc (place_of k (us ++ (k ∷ [])))) ≤ suc (length us)
    go true ih = omega arith
    go false ih = omega arith

-- ===== One variable more =====

one_below : (us : List Key) (k : Key) → place_of k (with_one us k) < length (with_one us k)
one_below us k = go (flag (is_among k us))
  where
    go : Flag (is_among k us) → place_of k (with_one us k) < length (with_one us k)
    go (is_true e) = rw e (among_below k us e)
    go (is_false e) = rw e (omega (arith, place-last k us, length-append us (k ∷ [])))

-- what follows only adds
prefix-one : (us : List Key) (k : Key) (vs : List Key) (b : Bool) → Prefix (cond b us (us ++ (k ∷ []))) vs → Prefix us vs
prefix-one us k vs true x = x
prefix-one us k vs false x = prefix_trans (prefix-snoc us k) x

-- of each kind
pub extends : (ts : List T.Term) (m : Met) → Prefix m.variables (variables_after m ts).variables × Prefix m.minimums (variables_after m ts).minimums
extends [] m = (prefix_refl m.variables, prefix_refl m.minimums)
extends (term plain n ∷ ts) m = extends ts m
extends (term parameter n ∷ ts) m = extends ts m
extends (term variable n ∷ ts) m =
    let x = extends ts (record { variables = with_one m.variables (key_of n); minimums = m.minimums }) in
    (prefix-one m.variables (key_of n) _ (is_among (key_of n) m.variables) x.0, x.1)
extends (term minimum n ∷ ts) m =
    let x = extends ts (record { variables = m.variables; minimums = with_one m.minimums (key_of n) }) in
    (x.0, prefix-one m.minimums (key_of n) _ (is_among (key_of n) m.minimums) x.1)

-- ===== A variable's number =====

-- the last variable of a kind has the last number
pub number-exact : (first : ℕ) (vs : List Key) (k : Key) → length vs ≤ variable_count → place_of k vs < length vs → number_in first vs k ≡ first + place_of k vs
unfolding number_in
number-exact first vs k few h = ap (λ (i : ℕ). first + i) (omega arith)

-- the count of those that the pass keeps against the limit is that of all
count_kept : (us : List Key) → leb (length (kept us)) variable_count ≡ leb (length us) variable_count
count_kept us = go (dec_lt (length us) (suc variable_count))
  where
    go : Dec (length us < suc variable_count) → leb (length (kept us)) variable_count ≡ leb (length us) variable_count
    go (yes h) = ap (λ (l : List Key). leb (length l) variable_count) (take_all (suc variable_count) us (omega arith))
    go (no h) =
        let l : suc variable_count ≤ length us = omega arith in
        rw (length-take-le (suc variable_count) us l, lt-leb (length us) variable_count (omega arith))

pub within-kept : (m : Met) → is_within (kept_met m) ≡ is_within m
within-kept m = ap₂ (λ (a b : Bool). a && b) (count_kept m.variables) (count_kept m.minimums)

-- a variable that is met: it is among all of its kind on the line, and where these are within the limit, it has the number of its place among them
pub record Numbered (first : ℕ) (vs ws : List Key) (k : Key) : Type 0 where
  pub among : is_among k vs ≡ true
  pub number : length vs ≤ variable_count → number_in first ws k ≡ first + place_of k vs

pub met-numbered : (first : ℕ) (us : List Key) (k : Key) (vs : List Key) → Prefix (with_one us k) vs → Numbered first vs (kept (with_one us k)) k
unfolding is_among
met-numbered first us k vs x =
    let os : List Key = with_one us k in
    let n : length vs ≡ length (os ++ x.more) = ap length x.is in
    let p : place_of k vs ≡ place_of k os = ap (place_of k) x.is ∙ place-more k os x.more (one_below us k) in
    let l = length-append os x.more in
    record {
      among = lt-ltb (place_of k vs) (length vs) (omega (arith, one_below us k));
      number = λ few.
          ap (λ (ws : List Key). number_in first ws k) (take_all (suc variable_count) os (omega arith))
          ∙ number-exact first os k (omega arith) (one_below us k)
          ∙ ap (λ (i : ℕ). first + i) (sym p);
    }

-- known before a reward's words, one more than the limit of each kind does
pub reading-kept : (σ : Environment) → σ.binding ≡ Any → (es : List Event) (m : Met) → reading σ es m ≡ reading σ es (kept_met m)
reading-kept σ any es m = go (dec_lt variable_count (length m.variables)) (dec_lt variable_count (length m.minimums))
  where
    over : (us : List Key) → variable_count < length us → variable_count < length (kept us)
    over us h = omega (arith, length-take-le (suc variable_count) us h)

    all : (us : List Key) → (variable_count < length us → ⊥) → us ≡ kept us
    all us h = sym (take_all (suc variable_count) us (omega arith))

    go : Dec (variable_count < length m.variables) → Dec (variable_count < length m.minimums) → reading σ es m ≡ reading σ es (kept_met m)
    go (yes h) l = reading-many σ any es m (kept_met m) (variables h) (variables (over m.variables h))
    go (no h) (yes l) = reading-many σ any es m (kept_met m) (minimums l) (minimums (over m.minimums l))
    go (no h) (no l) = ap₂ (λ (us vs : List Key). reading σ es (record { variables = us; minimums = vs })) (all m.variables h) (all m.minimums l)

-- ===== The variables of a diagram's words =====

-- those of one kind
abbrev kind : Kind → Met → List Key
kind K.Maximum m = m.variables
kind K.Minimum m = m.minimums

join-words : (c : Kind) (xs ys : List Event) → keys_of c (xs ++ ys) ≡ keys_of c xs ++ keys_of c ys
join-words c [] ys = refl
join-words c (e ∷ xs) ys =
    ap (λ (l : List Key). word_keys (variable_of c e) ++ l) (join-words c xs ys) ∙ sym (append_assoc (word_keys (variable_of c e)) (keys_of c xs) (keys_of c ys))

join-terms : (c : Kind) (ss ts : List T.Term) → kind c (term_keys (ss ++ ts)) ≡ kind c (term_keys ss) ++ kind c (term_keys ts)
join-terms K.Maximum [] ts = refl
join-terms K.Minimum [] ts = refl
join-terms c (term plain n ∷ ss) ts = join-terms c ss ts
join-terms c (term parameter n ∷ ss) ts = join-terms c ss ts
join-terms K.Maximum (term variable n ∷ ss) ts = ap (λ (l : List Key). key_of n ∷ l) (join-terms K.Maximum ss ts)
join-terms K.Minimum (term variable n ∷ ss) ts = join-terms K.Minimum ss ts
join-terms K.Maximum (term minimum n ∷ ss) ts = join-terms K.Maximum ss ts
join-terms K.Minimum (term minimum n ∷ ss) ts = ap (λ (l : List Key). key_of n ∷ l) (join-terms K.Minimum ss ts)

terms-keys : (c : Kind) (ts : List T.Term) → keys_of c (map term_event ts) ≡ kind c (term_keys ts)
terms-keys K.Maximum [] = refl
terms-keys K.Minimum [] = refl
terms-keys K.Maximum (term plain n ∷ ts) = terms-keys K.Maximum ts
terms-keys K.Minimum (term plain n ∷ ts) = terms-keys K.Minimum ts
terms-keys K.Maximum (term parameter n ∷ ts) = terms-keys K.Maximum ts
terms-keys K.Minimum (term parameter n ∷ ts) = terms-keys K.Minimum ts
terms-keys K.Maximum (term variable n ∷ ts) = ap (λ (l : List Key). key_of n ∷ l) (terms-keys K.Maximum ts)
terms-keys K.Minimum (term variable n ∷ ts) = terms-keys K.Minimum ts
terms-keys K.Maximum (term minimum n ∷ ts) = terms-keys K.Maximum ts
terms-keys K.Minimum (term minimum n ∷ ts) = ap (λ (l : List Key). key_of n ∷ l) (terms-keys K.Minimum ts)

atom-keys : (c : Kind) (a : T.Atom) → keys_of c (atom_events a) ≡ kind c (term_keys (atom_terms a))
atom-keys K.Maximum (equal a b) = terms-keys K.Maximum (a ∷ b ∷ [])
atom-keys K.Minimum (equal a b) = terms-keys K.Minimum (a ∷ b ∷ [])
atom-keys K.Maximum (holds p ts) = terms-keys K.Maximum ts
atom-keys K.Minimum (holds p ts) = terms-keys K.Minimum ts

step-keys : (c : Kind) → keys_of c (E.Step ∷ []) ≡ []
step-keys K.Maximum = refl
step-keys K.Minimum = refl

kind-keys : (c : Kind) (d : T.Diagram) → keys_of c (diagram_events d) ≡ kind c (term_keys (diagram_terms d))
kind-keys K.Maximum (numeral n) = refl
kind-keys K.Minimum (numeral n) = refl
kind-keys c (conditional a d e) =
    join-words c (atom_events a) (diagram_events d ++ (diagram_events e ++ (E.Step ∷ [])))
    ∙ ap₂ (λ (x y : List Key). x ++ y) (atom-keys c a)
    (join-words c (diagram_events d) (diagram_events e ++ (E.Step ∷ []))
    ∙ ap₂ (λ (x y : List Key). x ++ y) (kind-keys c d)
    (join-words c (diagram_events e) (E.Step ∷ []) ∙ ap (λ (l : List Key). keys_of c (diagram_events e) ++ l) (step-keys c) ∙ append-nil (keys_of c (diagram_events e)) ∙ kind-keys c e)
    ∙ sym (join-terms c (diagram_terms d) (diagram_terms e)))
    ∙ sym (join-terms c (atom_terms a) (diagram_terms d ++ diagram_terms e))

-- so those that have their number first are the tree's
pub diagram-keys : (d : T.Diagram) → met_first (diagram_events d) ≡ first_variables d
diagram-keys d =
    ap₂ (λ (us vs : List Key). record { variables = variables_first us; minimums = variables_first vs }) (kind-keys K.Maximum d) (kind-keys K.Minimum d)
