-- Laws of names and terms written as bytes.
use mathlib.Core.Path.{◌≡◌, sym, ap, ◌∙◌}
use mathlib.Core.List.{List, [], ◌∷◌, ◌++◌, map}
use Prim.Native.Nat.{ℕ, ◌+◌, ◌-◌, ◌≤◌, ◌<◌}
use native.Mathlib.Omega.{arith}
use lib.ListN.{length, length-append, length-map, get_or-eq_default}
use Rattle.basics.specs.Tests.{Cmp, cmp, below, equal, above}
use Rattle.label.specs.Limits.{first_variable, first_minimum}
use Rattle.diagram.specs.WordLaws.{get_d_map}
use Rattle.words.specs.declared.Key.{Key}
use Rattle.words.specs.Keys.{name_of}
use Rattle.names.specs.Layout.{constants_at}
use Rattle.names.specs.Keys.{key_at, keys_at}
use Rattle.names.specs.ManyLaws.{get_d-many}
use Rattle.names.specs.KeyLaws.{length-keys}
use Rattle.answers.specs.Digits.{digits}
use Rattle.answers.specs.DigitLaws.{digits-short}
use Rattle.answering.specs.Wrote.{Wrote}
use Rattle.answering.proofs.WriteLaws.{wrote_nothing, wrote_then}
use Rattle.answering.proofs.KeyLaws.{name-short}
use Rattle.diagram_form.specs.Form.{tables_of, variable_name}
use Rattle.diagram_form.proofs.FormLaws.{Kinds, constant, maximum, least, kinds, constant-tree, variable-tree, minimum-tree}
use Rattle.spelling.specs.Spelling.{tables_at}
use Rattle.spelling.specs.Parts.{name_at, term_text}

-- a name of a table

name-at : (names : List ℕ) (base n i : ℕ) → i < n → name_at names base n i ≡ name_of (key_at names base i)
unfolding name_at keys_at
name-at names base n i h =
    get_d_map name_of (keys_at names base n) i (key_at names base i) [] (omega (arith, length-keys names base n))
    ∙ ap name_of (get_d-many (key_at names base) (key_at names base i) n i h)

name-none : (names : List ℕ) (base n i : ℕ) → n ≤ i → name_at names base n i ≡ []
unfolding name_at
name-none names base n i h = get_or-eq_default (map name_of (keys_at names base n)) [] (omega (arith, length-map (keys_at names base n) name_of, length-keys names base n))

pub name-within : (names : List ℕ) (base n i : ℕ) → length (name_at names base n i) ≤ 15
name-within names base n i = go (cmp i n)
  where
    go : Cmp i n → length (name_at names base n i) ≤ 15
    go (below h) = rw (name-at names base n i h) (name-short (key_at names base i))
    go (equal h) = rw (name-none names base n i (omega arith)) (omega arith)
    go (above h) = rw (name-none names base n i (omega arith)) (omega arith)

pub name-past : (s names : List ℕ) (place base : ℕ) {n i : ℕ} → n ≤ i → Wrote s place (name_at names base n i) place s
name-past s names place base {n} {i} h = rw (name-none names base n i h) (wrote_nothing s place)

module _ (names : List ℕ) (base n i : ℕ) (k : Key) (h : i < n) (e : k ≡ key_at names base i) where
  named-is : name_at names base n i ≡ name_of k
  named-is = name-at names base n i h ∙ ap name_of (sym e)

  pub named-room : (s : List ℕ) (place : ℕ) → place + length (name_at names base n i) ≤ length s → place + length (name_of k) ≤ length s
  named-room s place p = omega (arith, ap length named-is)

  pub named-wrote : {s s' : List ℕ} {place r : ℕ} → Wrote s place (name_of k) r s' → Wrote s place (name_at names base n i) r s'
  named-wrote p = rw named-is p

-- a variable of either kind

module _ (s before : List ℕ) (place i : ℕ) (room : place + length (before ++ digits i) ≤ length s) where
  pub before-room : place + length before ≤ length s
  before-room = omega (arith, length-append before (digits i))

  module _ {s₁ : List ℕ} {q : ℕ} (x : Wrote s place before q s₁) where
    pub digits-room : length s₁ ≡ length s → q + length (digits i) ≤ length s₁
    digits-room e = omega (arith, length-append before (digits i), x.behind)

    pub variable-wrote : {s₂ : List ℕ} {r : ℕ} → Wrote s₁ q (digits i) r s₂ → Wrote s place (before ++ digits i) r s₂
    variable-wrote y = wrote_then (omega (arith, before-room, x.behind)) x y

-- a term

module _ (names : List ℕ) (constants t : ℕ) where
  term-name : t < first_variable → term_text names constants t ≡ name_at names constants_at constants t
  unfolding term_text name_at tables_of
  term-name h = rw (constant-tree (tables_at names constants 0) t h)

  term-variable : first_variable ≤ t → t < first_minimum → term_text names constants t ≡ (63 ∷ 118 ∷ []) ++ digits (t - first_variable)
  unfolding term_text variable_name
  term-variable h k = rw (variable-tree (tables_at names constants 0) t h k)

  term-minimum : first_minimum ≤ t → term_text names constants t ≡ (37 ∷ 118 ∷ []) ++ digits (t - first_minimum)
  unfolding term_text variable_name
  term-minimum h = rw (minimum-tree (tables_at names constants 0) t h)

  pub term-within : t < 256 → length (term_text names constants t) ≤ 22
  term-within l = go (kinds t)
    where
      go : Kinds t → length (term_text names constants t) ≤ 22
      go (constant h) = rw (term-name h) (omega (arith, name-within names constants_at constants t))
      go (maximum h k) = rw (term-variable h k) (omega (arith, digits-short (t - first_variable) (omega arith)))
      go (least h) = rw (term-minimum h) (omega (arith, digits-short (t - first_minimum) (omega arith)))

module _ (s names : List ℕ) (place constants t : ℕ) where
  pub constant-room : t < first_variable → place + length (term_text names constants t) ≤ length s → place + length (name_at names constants_at constants t) ≤ length s
  constant-room h room = omega (arith, ap length (term-name names constants t h))

  pub variable-room : first_variable ≤ t → t < first_minimum → place + length (term_text names constants t) ≤ length s
      → place + length ((63 ∷ 118 ∷ []) ++ digits (t - first_variable)) ≤ length s
  variable-room h k room = omega (arith, ap length (term-variable names constants t h k))

  pub minimum-room : first_minimum ≤ t → place + length (term_text names constants t) ≤ length s
      → place + length ((37 ∷ 118 ∷ []) ++ digits (t - first_minimum)) ≤ length s
  minimum-room h room = omega (arith, ap length (term-minimum names constants t h))

module _ {s s' : List ℕ} (names : List ℕ) {place : ℕ} (constants : ℕ) {t r : ℕ} where
  pub constant-term : t < first_variable → Wrote s place (name_at names constants_at constants t) r s' → Wrote s place (term_text names constants t) r s'
  constant-term h p = rw (term-name names constants t h) p

  pub variable-term : first_variable ≤ t → t < first_minimum → Wrote s place ((63 ∷ 118 ∷ []) ++ digits (t - first_variable)) r s'
      → Wrote s place (term_text names constants t) r s'
  variable-term h k p = rw (term-variable names constants t h k) p

  pub minimum-term : first_minimum ≤ t → Wrote s place ((37 ∷ 118 ∷ []) ++ digits (t - first_minimum)) r s' → Wrote s place (term_text names constants t) r s'
  minimum-term h p = rw (term-minimum names constants t h) p
