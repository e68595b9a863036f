-- Names in tables are found at their places, and the names of variables are names.
use Rattle.std.specs.Prelude.{◌≡◌, refl, true, cond, List, [], ◌∷◌, map, ℕ, zero, suc, ◌+◌, ◌/◌, ◌≤◌, ◌<◌, length, get_or}
use Rattle.std.proofs.Common.{sym, ap, ◌∙◌, arith, lt-ltb}
use Rattle.std.proofs.Math.Decide.{dec_lt}
use Rattle.std.proofs.lemmas.List.{length-map}
use Rattle.basics.specs.Tests.{Flag, is_true, is_false, flag, or-other}
use Rattle.label.specs.Limits.{variable_count}
use Rattle.diagram.specs.Diagram.{Diagram}
use Rattle.diagram.specs.Variables.{variables, minimums}
use Rattle.rename.specs.Ascending.{consecutive}
use Rattle.rename.specs.AscendingLaws.{length-consecutive}
use Rattle.words.specs.Bytes.{is_letter, is_digit, is_name_byte, run, decimal}
use Rattle.words.specs.Words.{IsName}
use Rattle.words.specs.Keys.{key_of}
use Rattle.words.specs.KeyLaws.{name-key}
use Rattle.words.specs.declared.Key.{Key}
use Rattle.names.specs.Keys.{place_of, is_among}
use Rattle.names.specs.KeyLaws.{same_refl, same_not}
use Rattle.answers.specs.Digits.{digits}
use Rattle.answers.specs.DigitLaws.{digits-one, digits_more, digits-read, digits_number}
use Rattle.reading.specs.Reading.{Met}
use Rattle.reading.specs.Inner.{Reach}
use Rattle.diagram_form.specs.Form.{variable_name}
use Rattle.round_trip.specs.RoundTrip.{Different, AreNames}

pub place-name : (ns : List (List ℕ)) → AreNames ns → Different ns → (i : ℕ) → i < length ns → place_of (key_of (get_or ns i [])) (map key_of ns) ≡ i
unfolding place_of
place-name [] named differ i h = absurd (omega arith)
place-name (x ∷ ns) named differ zero h = rw (same_refl (key_of x))
place-name (x ∷ ns) named differ (suc i) h =
    let other : key_of x ≡ key_of (get_or ns i []) → ⊥ =
    λ e. let z = differ 0 (suc i) (omega arith) h (name-key x (get_or ns i []) (named 0 (omega arith)) (named (suc i) h) e) in absurd (omega arith) in
    rw (same_not (key_of x) (key_of (get_or ns i [])) other)
    (ap suc (place-name ns (λ j l. named (suc j) (omega arith)) (λ j k a b e. less j k (differ (suc j) (suc k) (omega arith) (omega arith) e)) i (omega arith)))
  where
    less : (j k : ℕ) → suc j ≡ suc k → j ≡ k
    less j k e = omega arith

pub among-name : (ns : List (List ℕ)) → AreNames ns → Different ns → (i : ℕ) → i < length ns → is_among (key_of (get_or ns i [])) (map key_of ns) ≡ true
unfolding is_among
among-name ns named differ i h = rw (place-name ns named differ i h, length-map ns key_of) (lt-ltb i (length ns) h)

-- ===== Names of variables =====

run-names : (s : List ℕ) → run is_digit s ≡ length s → run is_name_byte s ≡ length s
unfolding run is_name_byte
run-names [] e = refl
run-names (a ∷ s) e = go (flag (is_digit a)) (run-names s)
  where
    go : Flag (is_digit a) → (run is_digit s ≡ length s → run is_name_byte s ≡ length s) → cond (is_name_byte a) (suc (run is_name_byte s)) 0 ≡ suc (length s)
    go (is_true h) ih =
        let q : suc (run is_digit s) ≡ suc (length s) = rw h at e in
        rw (or-other (is_letter a) (is_digit a) h) (ap suc (ih (omega arith)))
    go (is_false h) ih = let q : 0 ≡ suc (length s) = rw h at e in absurd (omega arith)

few-digits : (i : ℕ) → i < variable_count → length (digits i) ≤ 2
few-digits i h = go (dec_lt 9 i)
  where
    go : Dec (9 < i) → length (digits i) ≤ 2
    go (yes g) = rw (digits_more i g, digits-one (i / 10) (omega arith)) (omega arith)
    go (no g) = rw (digits-one i (omega arith)) (omega arith)

pub variable-is-name : (i : ℕ) → i < variable_count → IsName (variable_name i)
unfolding variable_name is_letter run is_name_byte is_digit
variable-is-name i h = (refl, ap suc (run-names (digits i) (digits_number i).1), omega (arith, few-digits i h))

pub variable-one : (i j : ℕ) → variable_name i ≡ variable_name j → i ≡ j
unfolding variable_name
variable-one i j e =
    let q : digits i ≡ digits j = cc in
    sym (digits-read i) ∙ ap decimal q ∙ digits-read j

get_d-variable : (m v i : ℕ) → i < v → get_or (map variable_name (consecutive m v)) i [] ≡ variable_name (m + i)
get_d-variable m zero i h = absurd (omega arith)
get_d-variable m (suc v) zero h = ap variable_name (omega arith)
get_d-variable m (suc v) (suc i) h = get_d-variable (suc m) v i (omega arith) ∙ ap variable_name (omega arith)

abbrev pub first_names : ℕ → List (List ℕ)
first_names v = map variable_name (consecutive 0 v)

pub first-length : (v : ℕ) → length (first_names v) ≡ v
first-length v = length-map (consecutive 0 v) variable_name ∙ length-consecutive 0 v

pub first-at : (v i : ℕ) → i < v → get_or (first_names v) i [] ≡ variable_name i
first-at v i h = get_d-variable 0 v i h ∙ ap variable_name (omega arith)

pub first-named : (v : ℕ) → v ≤ variable_count → AreNames (first_names v)
first-named v few i h =
    let l : i < v = omega (arith, first-length v) in
    rw (first-at v i l) (variable-is-name i (omega arith))

pub first-differ : (v : ℕ) → Different (first_names v)
first-differ v i j h k e =
    let l : i < v = omega (arith, first-length v) in
    let m : j < v = omega (arith, first-length v) in
    variable-one i j (sym (first-at v i l) ∙ e ∙ first-at v j m)

-- their keys
abbrev pub first_keys : ℕ → List Key
first_keys v = map key_of (first_names v)

pub keys_length : (v : ℕ) → length (first_keys v) ≡ v
keys_length v = length-map (first_names v) key_of ∙ first-length v

-- the first variables of each kind, so many
abbrev pub first_met : Reach → Met
first_met m = record { variables = first_keys m.variables; minimums = first_keys m.minimums }

-- how many variables of each kind d has
abbrev pub counted : List ℕ → Diagram → Reach
counted ar d = record { variables = length (variables ar d); minimums = length (minimums ar d) }
