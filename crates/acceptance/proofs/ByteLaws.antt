-- The bytes of a form bound the rows that may be formed while it is read.
use Rattle.std.specs.Prelude.{◌≡◌, refl, Bool, true, false, cond, List, [], ◌∷◌, ◌++◌, ℕ, zero, suc, ◌+◌, ◌-◌, ◌*◌, ◌/◌, ◌%◌, ◌≤◌, ◌<◌, length, get_or, eqb, ltb}
use Rattle.std.proofs.Common.{ap, arith, length-append, ltb-false}
use Rattle.std.proofs.lemmas.Bool.{eqb-false}
use Rattle.label.specs.Limits.{equality}
use Rattle.label.specs.Labels.{predicate_of, place_at, unpacked, terms_of}
use Rattle.diagram.specs.Sizes.{space_rows, most_pairs}
use Rattle.diagram.specs.Diagram.{Diagram, leaf, branch, EveryLabel}
use Rattle.diagram.specs.Inner.{size}
use Rattle.words.specs.Words.{IsName}
use Rattle.words.specs.ByteLaws.{letter-range}
use Rattle.answers.specs.Digits.{digits}
use Rattle.answers.specs.DigitLaws.{digits_more, digits-some}
use Rattle.diagram_form.specs.Form.{Tables, term_length, terms_length, atom_length, form_length, is_too_long}
use Rattle.diagram_form.proofs.FormLaws.{reward-length, not-too-long}
use Rattle.round_trip.specs.RoundTrip.{Declared, Covers}
use Rattle.acceptance.specs.FormedRows.{three_digits, low_leaves, high_leaves, branch_rows, formed_rows}

-- ===== How many rows =====

low_count : (n : ℕ) → length (low_leaves n) ≡ n
unfolding low_leaves
low_count zero = refl
low_count (suc n) = ap suc (low_count n)

-- a tree with m tests has m + 1 leaves
high-few : (d : Diagram) → length (high_leaves d) ≤ suc (size d)
unfolding high_leaves size
high-few (leaf v) = go (ltb v three_digits)
  where
    go : (b : Bool) → length (cond {A = List Diagram} b [] (leaf v ∷ [])) ≤ 1
    go true = omega arith
    go false = omega arith
high-few (branch l t f) = omega (arith, length-append (high_leaves t) (high_leaves f), high-few t, high-few f)

-- five for each test
branch-count : (d : Diagram) → length (branch_rows d) ≡ 5 * size d
unfolding branch_rows size
branch-count (leaf v) = refl
branch-count (branch l t f) = omega (arith, length-append (branch_rows t) (branch_rows f), branch-count t, branch-count f)

formed-count : (d : Diagram) → length (formed_rows d) ≡ three_digits + length (high_leaves d) + 5 * size d
unfolding formed_rows
formed-count d =
    omega (
      arith,
      length-append (low_leaves three_digits) (high_leaves d ++ branch_rows d),
      length-append (high_leaves d) (branch_rows d),
      low_count three_digits,
      branch-count d,
    )

-- ===== How many bytes =====

digits-three : (v : ℕ) → three_digits ≤ v → 3 ≤ length (digits v)
digits-three v h =
    omega (
      arith,
      ap length (digits_more v (omega arith)),
      length-append (digits (v / 10)) ((v % 10 + 48) ∷ []),
      ap length (digits_more (v / 10) (omega arith)),
      length-append (digits (v / 10 / 10)) ((v / 10 % 10 + 48) ∷ []),
      digits-some (v / 10 / 10),
    )

name-some : (s : List ℕ) → IsName s → 1 ≤ length s
name-some [] h = let z = letter-range 0 h.0 in absurd (omega arith)
name-some (b ∷ s) h = omega arith

-- an atom takes three bytes at least: two brackets, and = or a name
atom-bytes : (ar : List ℕ) (n : Tables) (l : ℕ) → Declared n → predicate_of l ≤ length n.predicates → 3 ≤ atom_length ar n l
unfolding atom_length
atom-bytes ar n l declared h = go (eqb (predicate_of l) equality) refl
  where
    go : (b : Bool) → eqb (predicate_of l) equality ≡ b
        → 3 ≤ cond b (5 + term_length n (place_at l 0) + term_length n (place_at l 1))
        (2 + length (get_or n.predicates (predicate_of l - 1) []) + terms_length n (terms_of ar (unpacked l)))
    go true e = omega arith
    go false e =
        let some = eqb-false (predicate_of l) equality e in
        let name = name-some (get_or n.predicates (predicate_of l - 1) []) (declared.predicates-named (predicate_of l - 1) (omega arith)) in
        omega arith

-- a test takes ten bytes at least, a leaf one, and a high leaf two more
form-bytes : (ar : List ℕ) (n : Tables) (d : Diagram) → Declared n → EveryLabel (λ l. predicate_of l ≤ length n.predicates) d
    → 11 * size d + 2 * length (high_leaves d) < form_length ar n d
unfolding form_length size high_leaves
form-bytes ar n (leaf v) declared h = go (ltb v three_digits) refl
  where
    go : (b : Bool) → ltb v three_digits ≡ b → 0 + 2 * length (cond {A = List Diagram} b [] (leaf v ∷ [])) < length (digits v)
    go true e = digits-some v
    go false e = let high = digits-three v (ltb-false v three_digits e) in omega arith
form-bytes ar n (branch l t f) declared h =
    omega (
      arith,
      atom-bytes ar n l declared h.0,
      form-bytes ar n t declared h.1,
      form-bytes ar n f declared h.2,
      length-append (high_leaves t) (high_leaves f),
    )

-- ===== Together =====

pub record Few (d : Diagram) : Type 0 where
  pub rows : length (formed_rows d) ≤ space_rows
  pub tests : 4 * size d + 3 ≤ most_pairs

pub form-few : (ar : List ℕ) (n : Tables) (d : Diagram) → Declared n → Covers ar n d → is_too_long ar n d ≡ false → Few d
form-few ar n d declared covers e =
    let line = (not-too-long ar n d e).bytes in
    let whole = reward-length ar n d in
    let form = form-bytes ar n d declared covers.predicates in
    let high = high-few d in
    record { rows = omega (arith, formed-count d); tests = omega arith }
