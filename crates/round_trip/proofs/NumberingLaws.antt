-- The variables of a form, by ascending N: those of a closed diagram are the first of their kind in their order.
use Rattle.std.specs.Prelude.{◌≡◌, Bool, false, cond, not, ◌&&◌, ◌||◌, length, get_or, drop, ltb}
use Rattle.std.proofs.Math.Path.{refl}
use Rattle.std.proofs.Common.{sym, ap, ap₂, ◌∙◌, subst, arith}
use Rattle.std.proofs.Math.Bool.{true}
use mathlib.Core.List.{List, [], ◌∷◌, ◌++◌, map, append-nil, append_assoc}
use Prim.Native.Nat.{ℕ, suc, ◌+◌, ◌-◌, ◌*◌, ◌/◌, ◌%◌, ◌≤◌, ◌<◌}
use Rattle.std.proofs.Math.Dec.{eqb}
use borrow.Author.Tests.{ltb-true, ltb-false, lt-ltb, le-ltb, eqb-true, eq-eqb, ne_eqb, not-true}
use Rattle.basics.specs.Tests.{Flag, is_true, is_false, flag, Either, one, other, either, or-one, or-other, and_left, and_right, Cmp, below, equal, above, cmp}
use Rattle.basics.specs.Members.{mem, mem-append, clash}
use Rattle.label.specs.Limits.{first_variable, variable_count, first_minimum, equality}
use Rattle.label.specs.Labels.{are_arities, predicate_of, place_at, unpacked, terms_of}
use Rattle.label.proofs.ArityLaws.{arity-two}
use Rattle.label.proofs.LabelLaws.{term-below}
use Rattle.diagram.specs.Diagram.{Diagram, leaf, branch}
use Rattle.diagram.specs.Listing.{Good}
use Rattle.diagram.specs.Variables.{occurs, variables, minimums, closed}
use Rattle.rename.specs.Ascending as S
use Rattle.rename.specs.Ascending.{Ascending, consecutive}
use Rattle.rename.specs.AscendingLaws.{ascending-one, consecutive-ascending, in-consecutive, consecutive-in}
use Rattle.rename.specs.ClosingLaws.{closed-variables, closed-minimums}
use Rattle.rename.specs.VariableLaws.{occurs-term, variable-occurs, occurs-variable, variables-few, minimum-occurs, occurs-minimum, minimums-few}
use Rattle.words.specs.Bytes.{is_digit, run, decimal_from, decimal}
use Rattle.words.specs.ByteLaws.{digit-range}
use Rattle.words.specs.Words.{IsName, IsNumber, number_form}
use Rattle.words.specs.WordLaws.{number-complete}
use Rattle.words.specs.Keys.{key_of, name_of}
use Rattle.words.specs.KeyLaws.{name-of}
use Rattle.words.specs.declared.Key.{Key}
use Rattle.forms.specs.Tree as T
use Rattle.forms.specs.Tree.Mark.{plain, variable, minimum}
use Rattle.forms.specs.Tree.Term.{term}
use Rattle.forms.specs.Tree.Atom.{equal as equality-of, holds}
use Rattle.events.specs.Events.{diagram_events}
use Rattle.answers.specs.Digits.{digits}
use Rattle.answers.specs.DigitLaws.{digits-one, digits_more, digits-read, digits_number}
use Rattle.reading.specs.Reading.{Met}
use Rattle.reading.specs.Numbering.{takes, is_numbered, number_of, all_numbered, inserted as inserted_key, by_number, variables_first, met_first}
use Rattle.reading.specs.NumberingLaws.{numbered-number}
use Rattle.line_trees.specs.TreeReading.{atom_terms, diagram_terms, term_keys}
use Rattle.line_trees.proofs.VariableLaws.{diagram-keys}
use Rattle.diagram_form.specs.Form.{Tables, variable_name, term_tree, atom_tree, form_tree}
use Rattle.round_trip.specs.Numbering.{every, inserted, sorted}
use Rattle.round_trip.proofs.NameLaws.{variable-is-name, counted, first_met}
use Rattle.std.specs.Prelude.{Some}

-- ===== Sorted =====

inserted-ascending : (n x : ℕ) (ys : List ℕ) → n ≤ x → Ascending n ys → Ascending n (inserted x ys)
unfolding inserted
inserted-ascending n x [] h a = (h, tt)
inserted-ascending n x (y ∷ ys) h a = go (cmp x y) (λ l. inserted-ascending (suc y) x ys l a.1)
  where
    go : Cmp x y → (suc y ≤ x → Ascending (suc y) (inserted x ys)) → Ascending n (cond (ltb x y) (x ∷ y ∷ ys) (cond (eqb x y) (y ∷ ys) (y ∷ inserted x ys)))
    go (below l) ih = rw (lt-ltb x y l) (h, (omega arith, a.1))
    go (equal e) ih = rw (le-ltb x y (omega arith), eq-eqb x y e) a
    go (above g) ih = rw (le-ltb x y (omega arith), ne_eqb x y (λ (e : x ≡ y). omega arith)) (a.0, ih (omega arith))

pub sorted-ascending : (xs : List ℕ) → Ascending 0 (sorted xs)
unfolding sorted
sorted-ascending [] = tt
sorted-ascending (x ∷ xs) = inserted-ascending 0 x (sorted xs) (omega arith) (sorted-ascending xs)

or_swap : (a b c : Bool) → (a || (b || c)) ≡ (b || (a || c))
or_swap true true c = refl
or_swap true false c = refl
or_swap false true c = refl
or_swap false false c = refl

or-twice : (a b : Bool) → (a || b) ≡ (a || (a || b))
or-twice true b = refl
or-twice false b = refl

mem-inserted : (u x : ℕ) (ys : List ℕ) → mem eqb u (inserted x ys) ≡ (eqb u x || mem eqb u ys)
unfolding inserted
mem-inserted u x [] = refl
mem-inserted u x (y ∷ ys) = go (cmp x y) (mem-inserted u x ys)
  where
    go : Cmp x y → mem eqb u (inserted x ys) ≡ (eqb u x || mem eqb u ys)
        → mem eqb u (cond (ltb x y) (x ∷ y ∷ ys) (cond (eqb x y) (y ∷ ys) (y ∷ inserted x ys))) ≡ (eqb u x || (eqb u y || mem eqb u ys))
    go (below l) ih = rw (lt-ltb x y l)
    go (equal e) ih = rw (le-ltb x y (omega arith), eq-eqb x y e, e) (or-twice (eqb u y) (mem eqb u ys))
    go (above g) ih = rw (le-ltb x y (omega arith), ne_eqb x y (λ (e : x ≡ y). omega arith), ih) (or_swap (eqb u y) (eqb u x) (mem eqb u ys))

pub mem-sorted : (u : ℕ) (xs : List ℕ) → mem eqb u (sorted xs) ≡ mem eqb u xs
unfolding sorted
mem-sorted u [] = refl
mem-sorted u (x ∷ xs) = mem-inserted u x (sorted xs) ∙ ap (λ (b : Bool). eqb u x || b) (mem-sorted u xs)

-- one after another, begun with vs
abbrev sorted_in : List ℕ → List ℕ → List ℕ
sorted_in vs [] = vs
sorted_in vs (x ∷ xs) = sorted_in (inserted x vs) xs

in-ascending : (vs xs : List ℕ) → Ascending 0 vs → Ascending 0 (sorted_in vs xs)
in-ascending vs [] a = a
in-ascending vs (x ∷ xs) a = in-ascending (inserted x vs) xs (inserted-ascending 0 x vs (omega arith) a)

mem-in : (u : ℕ) (vs xs : List ℕ) → mem eqb u (sorted_in vs xs) ≡ (mem eqb u xs || mem eqb u vs)
mem-in u vs [] = refl
mem-in u vs (x ∷ xs) =
    mem-in u (inserted x vs) xs
    ∙ ap (λ (b : Bool). mem eqb u xs || b) (mem-inserted u x vs)
    ∙ or_swap (mem eqb u xs) (eqb u x) (mem eqb u vs)
    ∙ or-join (eqb u x) (mem eqb u xs) (mem eqb u vs)
  where
    or-join : (a b c : Bool) → (a || (b || c)) ≡ ((a || b) || c)
    or-join true b c = refl
    or-join false b c = refl

-- the same numbers, ascending
in-sorted : (xs : List ℕ) → sorted_in [] xs ≡ sorted xs
in-sorted xs =
    ascending-one 0 0 (sorted_in [] xs) (sorted xs) (in-ascending [] xs tt) (sorted-ascending xs) (λ u e. mem-sorted u xs ∙ sym (members u) ∙ e) (λ u e. members u ∙ sym (mem-sorted u xs) ∙ e)
  where
    or_nothing : (b : Bool) → (b || false) ≡ b
    or_nothing true = refl
    or_nothing false = refl

    members : (u : ℕ) → mem eqb u (sorted_in [] xs) ≡ mem eqb u xs
    members u = mem-in u [] xs ∙ or_nothing (mem eqb u xs)

-- ===== Numbers as they are written =====

is_number : (s : List ℕ) → IsNumber s → takes (length s) (number_form s) ≡ true
unfolding is_digit
is_number s g =
    let e : number_form s ≡ Some (length s) = ap number_form (sym (append-nil s)) ∙ number-complete s [] g refl in
    rw e (eq-eqb (length s) (length s) refl)

-- the digits of a number, and digits behind them
digits-behind : (s : List ℕ) (v : ℕ) → 0 < v → run is_digit s ≡ length s → digits (decimal_from v s) ≡ digits v ++ s
unfolding decimal_from run
digits-behind [] v h e = sym (append-nil (digits v))
digits-behind (b ∷ s) v h e = go (flag (is_digit b)) (digits-behind s (v * 10 + (b - 48)))
  where
    go : Flag (is_digit b) → (0 < v * 10 + (b - 48) → run is_digit s ≡ length s → digits (decimal_from (v * 10 + (b - 48)) s) ≡ digits (v * 10 + (b - 48)) ++ s)
        → digits (decimal_from (v * 10 + (b - 48)) s) ≡ digits v ++ (b ∷ s)
    go (is_true d) ih =
        let r = digit-range b d in
        let q : suc (run is_digit s) ≡ suc (length s) = rw d at e in
        let high : (v * 10 + (b - 48)) / 10 ≡ v = omega (arith, r) in
        let low : (v * 10 + (b - 48)) % 10 + 48 ≡ b = omega (arith, r) in
        let whole : digits (v * 10 + (b - 48)) ≡ digits v ++ (b ∷ []) =
        digits_more (v * 10 + (b - 48)) (omega (arith, r)) ∙ ap₂ (λ (x y : ℕ). digits x ++ (y ∷ [])) high low in
        ih (omega arith) (omega arith) ∙ ap (λ (x : List ℕ). x ++ s) whole ∙ append_assoc (digits v) (b ∷ []) s
    go (is_false d) ih = let q : 0 ≡ suc (length s) = rw d at e in absurd (omega arith)

zero-alone : (s : List ℕ) → length s ≡ 0 → digits (decimal_from 0 s) ≡ 48 ∷ s
unfolding decimal_from
zero-alone [] h = digits-one 0 (omega arith)
zero-alone (x ∷ s) h = absurd (omega arith)

-- what is decimal without leading zeros is the digits of its number
number_digits : (s : List ℕ) → IsNumber s → digits (decimal s) ≡ s
unfolding decimal decimal_from run
number_digits [] g = absurd (omega (arith, g.0))
number_digits (b ∷ s) g = go (flag (is_digit b)) (cmp b 48) g.1 g.2
  where
    go : Flag (is_digit b) → Cmp b 48 → cond (is_digit b) (suc (run is_digit s)) 0 ≡ suc (length s) → (not (eqb b 48) || eqb (suc (length s)) 1) ≡ true
        → digits (decimal_from (0 * 10 + (b - 48)) s) ≡ b ∷ s
    go (is_false d) c e z = let q : 0 ≡ suc (length s) = rw d at e in absurd (omega arith)
    go (is_true d) (below h) e z = absurd (omega (arith, digit-range b d))
    go (is_true d) (equal h) e z =
        let l : eqb (suc (length s)) 1 ≡ true = rw (eq-eqb b 48 h) at z in
        let m : suc (length s) ≡ 1 = eqb-true (suc (length s)) 1 l in
        let n : 0 * 10 + (b - 48) ≡ 0 = omega arith in
        ap (λ (v : ℕ). digits (decimal_from v s)) n ∙ zero-alone s (omega arith) ∙ ap (λ (x : ℕ). x ∷ s) (sym h)
    go (is_true d) (above h) e z =
        let r = digit-range b d in
        let q : suc (run is_digit s) ≡ suc (length s) = rw d at e in
        let n : 0 * 10 + (b - 48) + 48 ≡ b = omega (arith, r) in
        digits-behind s (0 * 10 + (b - 48)) (omega arith) (omega arith)
        ∙ ap (λ (x : List ℕ). x ++ s) (digits-one (0 * 10 + (b - 48)) (omega (arith, r)) ∙ ap (λ (x : ℕ). x ∷ []) n)

-- ===== Names of variables =====

pub is-numbered : (i : ℕ) → is_numbered (variable_name i) ≡ true
unfolding is_numbered variable_name
is-numbered i = is_number (digits i) (digits_number i)

rest_read : (i : ℕ) → decimal (drop 1 (variable_name i)) ≡ i
unfolding variable_name
rest_read i = digits-read i

number-of : (i : ℕ) → number_of (variable_name i) ≡ i
unfolding number_of
number-of i = rw (is-numbered i) (rest_read i)

-- a name is written in that way exactly if it is v and some N in decimal
pub numbered-exact : (n : List ℕ) → is_numbered n ≡ true → n ≡ variable_name (number_of n)
unfolding is_numbered number_of variable_name
numbered-exact [] e = clash e refl
numbered-exact (b ∷ m) e =
    let h = numbered-number (b ∷ m) e in
    ap (λ (x : ℕ). x ∷ m) h.0
    ∙ ap (λ (s : List ℕ). 118 ∷ s) (sym (number_digits m h.1))
    ∙ ap (λ (c : Bool). 118 ∷ digits (cond c (decimal m) 0)) (sym e)

every-numbered : (xs : List ℕ) → every is_numbered (map variable_name xs) ≡ true
every-numbered [] = refl
every-numbered (x ∷ xs) = rw (is-numbered x) (every-numbered xs)

numbers_of : (xs : List ℕ) → map number_of (map variable_name xs) ≡ xs
numbers_of [] = refl
numbers_of (x ∷ xs) = rw (number-of x, numbers_of xs)

-- ===== Their keys, sorted =====

abbrev Named : ℕ → Type 0
Named i = IsName (variable_name i)

abbrev pub keyed : List ℕ → List Key
keyed xs = map key_of (map variable_name xs)

key-number : (i : ℕ) → Named i → number_of (name_of (key_of (variable_name i))) ≡ i
key-number i g = ap number_of (name-of (variable_name i) g) ∙ number-of i

all-keyed : (xs : List ℕ) → S.All Named xs → all_numbered (keyed xs) ≡ true
all-keyed [] g = refl
all-keyed (x ∷ xs) g = rw (name-of (variable_name x) g.0, is-numbered x) (all-keyed xs g.1)

inserted-keyed : (x : ℕ) (ys : List ℕ) → Named x → S.All Named ys → inserted_key (key_of (variable_name x)) (keyed ys) ≡ keyed (inserted x ys)
unfolding inserted_key inserted
inserted-keyed x [] g h = refl
inserted-keyed x (y ∷ ys) g h = rw (key-number x g, key-number y h.0) (go (ltb x y) (eqb x y) (inserted-keyed x ys g h.1))
  where
    go : (a b : Bool) → inserted_key (key_of (variable_name x)) (keyed ys) ≡ keyed (inserted x ys)
        → cond a (key_of (variable_name x) ∷ key_of (variable_name y) ∷ keyed ys)
        (cond b (key_of (variable_name y) ∷ keyed ys) (key_of (variable_name y) ∷ inserted_key (key_of (variable_name x)) (keyed ys)))
        ≡ keyed (cond a (x ∷ y ∷ ys) (cond b (y ∷ ys) (y ∷ inserted x ys)))
    go true b e = refl
    go false true e = refl
    go false false e = ap (λ (m : List Key). key_of (variable_name y) ∷ m) e

inserted-named : (x : ℕ) (ys : List ℕ) → Named x → S.All Named ys → S.All Named (inserted x ys)
unfolding inserted
inserted-named x [] g h = (g, tt)
inserted-named x (y ∷ ys) g h = go (ltb x y) (eqb x y) (inserted-named x ys g h.1)
  where
    go : (a b : Bool) → S.All Named (inserted x ys) → S.All Named (cond a (x ∷ y ∷ ys) (cond b (y ∷ ys) (y ∷ inserted x ys)))
    go true b m = (g, h)
    go false true m = h
    go false false m = (h.0, m)

in-keyed : (xs vs : List ℕ) → S.All Named vs → S.All Named xs → by_number (keyed vs) (keyed xs) ≡ keyed (sorted_in vs xs)
in-keyed [] vs g h = refl
in-keyed (x ∷ xs) vs g h =
    ap (λ (us : List Key). by_number us (keyed xs)) (inserted-keyed x vs h.0 g) ∙ in-keyed xs (inserted x vs) (inserted-named x vs h.0 g) h.1

numbered-keys : (ns : List (List ℕ)) → every is_numbered ns ≡ true → map key_of ns ≡ keyed (map number_of ns)
numbered-keys [] e = refl
numbered-keys (n ∷ ns) e =
    ap₂ (λ (k : Key) (ks : List Key). k ∷ ks) (ap key_of (numbered-exact n (and_left _ _ e))) (numbered-keys ns (and_right (is_numbered n) _ e))

numbered-named : (ns : List (List ℕ)) → T.All IsName ns → every is_numbered ns ≡ true → S.All Named (map number_of ns)
numbered-named [] g e = tt
numbered-named (n ∷ ns) g e =
    (subst (λ (x : List ℕ). IsName x) (numbered-exact n (and_left _ _ e)) g.0, numbered-named ns g.1 (and_right (is_numbered n) _ e))

-- the variables that the reader begins with, by ascending N
pub variables-first : (ns : List (List ℕ)) → T.All IsName ns → every is_numbered ns ≡ true → variables_first (map key_of ns) ≡ keyed (sorted (map number_of ns))
unfolding variables_first
variables-first ns g e =
    let named = numbered-named ns g e in
    ap variables_first (numbered-keys ns e)
    ∙ rw (all-keyed (map number_of ns) named) (in-keyed (map number_of ns) [] tt named ∙ ap keyed (in-sorted (map number_of ns)))

all-names : (xs : List ℕ) → ((i : ℕ) → mem eqb i xs ≡ true → i < variable_count) → T.All IsName (map variable_name xs)
all-names [] h = tt
all-names (x ∷ xs) h = (variable-is-name x (h x (or-one _ _ (eq-eqb x x refl))), all-names xs (λ i m. h i (or-other (eqb i x) _ m)))

-- ===== The terms of a form =====

-- the terms of a diagram in the order of its form
unfoldable written : List ℕ → Diagram → List ℕ
written ar (leaf v) = []
written ar (branch l t f) = terms_of ar (unpacked l) ++ (written ar t ++ written ar f)

-- a kind of variables, maximum or minimum: its first number, and which terms are of it, by the tests that their form asks
data Kind : Type 0 where
  most least : Kind

abbrev first_of : Kind → ℕ
first_of most = first_variable
first_of least = first_minimum

abbrev is_of : Kind → Bool → Bool → Bool
is_of most low high = not low && high
is_of least low high = not low && not high

abbrev of_kind : Kind → ℕ → Bool
of_kind c t = is_of c (ltb t first_variable) (ltb t first_minimum)

-- the variables of the kind, numbered from 0
unfoldable indices : Kind → List ℕ → List ℕ
indices c [] = []
indices c (t ∷ ts) = cond (of_kind c t) ((t - first_of c) ∷ indices c ts) (indices c ts)

pub equality-terms : (ar : List ℕ) (l : ℕ) → are_arities ar ≡ true → predicate_of l ≡ equality → terms_of ar (unpacked l) ≡ place_at l 0 ∷ place_at l 1 ∷ []
unfolding terms_of unpacked
equality-terms ar l good e = rw (e, arity-two ar good)

atom-terms : (ar : List ℕ) (n : Tables) (l : ℕ) → are_arities ar ≡ true → atom_terms (atom_tree ar n l) ≡ map (term_tree n) (terms_of ar (unpacked l))
unfolding atom_tree
atom-terms ar n l good = go (flag (eqb (predicate_of l) equality))
  where
    go : Flag (eqb (predicate_of l) equality)
        → atom_terms (cond (eqb (predicate_of l) equality) (equality-of (term_tree n (place_at l 0)) (term_tree n (place_at l 1)))
        (holds (get_or n.predicates (predicate_of l - 1) []) (map (term_tree n) (terms_of ar (unpacked l)))))
        ≡ map (term_tree n) (terms_of ar (unpacked l))
    go (is_true e) = rw (e, equality-terms ar l good (eqb-true _ _ e))
    go (is_false e) = rw e

map-join : (f : ℕ → T.Term) (xs ys : List ℕ) → map f (xs ++ ys) ≡ map f xs ++ map f ys
map-join f [] ys = refl
map-join f (x ∷ xs) ys = ap (λ l. f x ∷ l) (map-join f xs ys)

form-terms : (ar : List ℕ) (n : Tables) (d : Diagram) → are_arities ar ≡ true → diagram_terms (form_tree ar n d) ≡ map (term_tree n) (written ar d)
unfolding form_tree written
form-terms ar n (leaf v) good = refl
form-terms ar n (branch l t f) good =
    rw (
      map-join (term_tree n) (terms_of ar (unpacked l)) (written ar t ++ written ar f),
      map-join (term_tree n) (written ar t) (written ar f),
      atom-terms ar n l good,
      form-terms ar n t good,
      form-terms ar n f good,
    )

-- the keys of the kind
abbrev keys_in : Kind → Met → List Key
keys_in most m = m.variables
keys_in least m = m.minimums

keys-indices : (c : Kind) (n : Tables) (ts : List ℕ) → keys_in c (term_keys (map (term_tree n) ts)) ≡ keyed (indices c ts)
unfolding term_tree indices
keys-indices most n [] = refl
keys-indices least n [] = refl
keys-indices c n (t ∷ ts) = go c (ltb t first_variable) (ltb t first_minimum) (keys-indices c n ts)
  where
    go : (c : Kind) (low high : Bool) → keys_in c (term_keys (map (term_tree n) ts)) ≡ keyed (indices c ts)
        → keys_in c (term_keys (cond low (term plain (get_or n.constants t []))
        (cond high (term variable (variable_name (t - first_variable))) (term minimum (variable_name (t - first_minimum)))) ∷ map (term_tree n) ts))
        ≡ keyed (cond (is_of c low high) ((t - first_of c) ∷ indices c ts) (indices c ts))
    go most true high ih = ih
    go most false true ih = ap (λ (l : List Key). key_of (variable_name (t - first_variable)) ∷ l) ih
    go most false false ih = ih
    go least true high ih = ih
    go least false true ih = ih
    go least false false ih = ap (λ (l : List Key). key_of (variable_name (t - first_minimum)) ∷ l) ih

-- ===== Which they are =====

mem_written : (ar : List ℕ) (t : ℕ) (d : Diagram) → mem eqb t (written ar d) ≡ occurs ar t d
unfolding written occurs
mem_written ar t (leaf v) = refl
mem_written ar t (branch l x y) =
    rw (
      mem-append eqb t (terms_of ar (unpacked l)) (written ar x ++ written ar y),
      mem-append eqb t (written ar x) (written ar y),
      mem_written ar t x,
      mem_written ar t y,
    )

from_first : (c : Kind) (t : ℕ) → of_kind c t ≡ true → first_of c ≤ t
from_first most t e = ltb-false t first_variable (not-true _ (and_left _ _ e))
from_first least t e = ltb-false t first_minimum (not-true _ (and_right (not (ltb t first_variable)) _ e))

module _ (c : Kind) where
  index-term : (i : ℕ) (ts : List ℕ) → mem eqb i (indices c ts) ≡ true → (mem eqb (first_of c + i) ts ≡ true) × (of_kind c (first_of c + i) ≡ true)
  unfolding indices
  index-term i [] e = clash e refl
  index-term i (t ∷ ts) e = go (flag (of_kind c t)) (index-term i ts)
    where
      Found : List ℕ → Type 0
      Found us = (mem eqb (first_of c + i) us ≡ true) × (of_kind c (first_of c + i) ≡ true)

      later : Found ts → Found (t ∷ ts)
      later f = (or-other (eqb (first_of c + i) t) _ f.0, f.1)

      here : of_kind c t ≡ true → (mem eqb i (indices c ts) ≡ true → Found ts) → Either (eqb i (t - first_of c)) (mem eqb i (indices c ts)) → Found (t ∷ ts)
      here h ih (one q) =
          let z : first_of c + i ≡ t = omega (arith, eqb-true i (t - first_of c) q, from_first c t h) in
          (or-one _ _ (eq-eqb (first_of c + i) t z), ap (of_kind c) z ∙ h)
      here h ih (other q) = later (ih q)

      go : Flag (of_kind c t) → (mem eqb i (indices c ts) ≡ true → Found ts) → Found (t ∷ ts)
      go (is_true h) ih = here h ih (either (eqb i (t - first_of c)) _ (rw h at e))
      go (is_false h) ih = later (ih (rw h at e))

  term-index : (i : ℕ) (ts : List ℕ) → of_kind c (first_of c + i) ≡ true → mem eqb (first_of c + i) ts ≡ true → mem eqb i (indices c ts) ≡ true
  unfolding indices
  term-index i [] k e = e
  term-index i (t ∷ ts) k e = go (flag (of_kind c t)) (either (eqb (first_of c + i) t) _ e) (term-index i ts k)
    where
      go : Flag (of_kind c t) → Either (eqb (first_of c + i) t) (mem eqb (first_of c + i) ts) → (mem eqb (first_of c + i) ts ≡ true → mem eqb i (indices c ts) ≡ true)
          → mem eqb i (cond (of_kind c t) ((t - first_of c) ∷ indices c ts) (indices c ts)) ≡ true
      go (is_true h) (one q) ih = rw h (or-one _ _ (eq-eqb i (t - first_of c) (omega (arith, eqb-true (first_of c + i) t q))))
      go (is_true h) (other q) ih = rw h (or-other (eqb i (t - first_of c)) _ (ih q))
      go (is_false h) (one q) ih = clash (ap (of_kind c) (sym (eqb-true (first_of c + i) t q)) ∙ k) h
      go (is_false h) (other q) ih = rw h (ih q)

module _ (ar : List ℕ) (d : Diagram) (good : Good ar d) where
  -- the variables of the kind
  abbrev variables_of : Kind → List ℕ
  variables_of most = variables ar d
  variables_of least = minimums ar d

  abbrev count : Kind → ℕ
  count c = length (variables_of c)

  few : (c : Kind) → count c ≤ variable_count
  few most = variables-few ar d
  few least = minimums-few ar d

  occurs-kind : (c : Kind) (t : ℕ) → occurs ar t d ≡ true → of_kind c t ≡ true → mem eqb t (variables_of c) ≡ true
  occurs-kind most t o e = occurs-variable ar d t o (from_first most t e) (ltb-true t first_minimum (and_right (not (ltb t first_variable)) _ e))
  occurs-kind least t o e = occurs-minimum ar d t o (from_first least t e) (term-below t (occurs-term ar d t good.fine o))

  kind-occurs : (c : Kind) (t : ℕ) → mem eqb t (variables_of c) ≡ true → (occurs ar t d ≡ true) × (of_kind c t ≡ true)
  kind-occurs most t m = let v = variable-occurs ar d t m in (v.0, rw (le-ltb t first_variable v.1, lt-ltb t first_minimum v.2))
  kind-occurs least t m = let v = minimum-occurs ar d t m in (v.0, rw (le-ltb t first_variable (omega arith), le-ltb t first_minimum v.1))

  module _ (is-closed : closed ar d ≡ d) where
    in_order : (c : Kind) → variables_of c ≡ consecutive (first_of c) (count c)
    in_order most = ap (variables ar) (sym is-closed) ∙ closed-variables ar d good
    in_order least = ap (minimums ar) (sym is-closed) ∙ closed-minimums ar d good

    kind-below : (c : Kind) (t : ℕ) → occurs ar t d ≡ true → of_kind c t ≡ true → t < first_of c + count c
    kind-below c t o e = (in-consecutive (first_of c) (count c) t (subst (λ (vs : List ℕ). mem eqb t vs ≡ true) (in_order c) (occurs-kind c t o e))).1

    below-kind : (c : Kind) (i : ℕ) → i < count c → (occurs ar (first_of c + i) d ≡ true) × (of_kind c (first_of c + i) ≡ true)
    below-kind c i h =
        kind-occurs c (first_of c + i)
        (subst (λ (vs : List ℕ). mem eqb (first_of c + i) vs ≡ true) (sym (in_order c)) (consecutive-in (first_of c) (count c) (first_of c + i) (omega arith) (omega arith)))

    -- the variables of a value diagram are the first of their kind
    pub variable-below : (t : ℕ) → occurs ar t d ≡ true → first_variable ≤ t → t < first_minimum → t < first_variable + length (variables ar d)
    variable-below t o h k = kind-below most t o (rw (le-ltb t first_variable h, lt-ltb t first_minimum k))

    pub minimum-below : (t : ℕ) → occurs ar t d ≡ true → first_minimum ≤ t → t < first_minimum + length (minimums ar d)
    minimum-below t o h = kind-below least t o (rw (le-ltb t first_variable (omega arith), le-ltb t first_minimum h))

    module _ (c : Kind) where
      index_below : (i : ℕ) → mem eqb i (indices c (written ar d)) ≡ true → i < count c
      index_below i e =
          let f = index-term c i (written ar d) e in
          omega (arith, kind-below c (first_of c + i) (sym (mem_written ar (first_of c + i) d) ∙ f.0) f.1)

      sorted-indices : sorted (indices c (written ar d)) ≡ consecutive 0 (count c)
      sorted-indices =
          ascending-one 0 0 (sorted (indices c (written ar d))) (consecutive 0 (count c)) (sorted-ascending (indices c (written ar d)))
          (consecutive-ascending 0 (count c))
          (λ i e. consecutive-in 0 (count c) i (omega arith) (omega (arith, index_below i (sym (mem-sorted i (indices c (written ar d))) ∙ e))))
          (λ i e.
          let v = below-kind c i (omega (arith, (in-consecutive 0 (count c) i e).1)) in
          mem-sorted i (indices c (written ar d)) ∙ term-index c i (written ar d) v.1 (mem_written ar (first_of c + i) d ∙ v.0))

      few-indices : (i : ℕ) → mem eqb i (indices c (written ar d)) ≡ true → i < variable_count
      few-indices i e = omega (arith, few c, index_below i e)

      kind-variables : (n : Tables) → variables_first (keys_in c (term_keys (diagram_terms (form_tree ar n d)))) ≡ keyed (consecutive 0 (count c))
      kind-variables n =
          let xs : List ℕ = indices c (written ar d) in
          ap variables_first (ap (λ (ts : List T.Term). keys_in c (term_keys ts)) (form-terms ar n d good.arities) ∙ keys-indices c n (written ar d))
          ∙ variables-first (map variable_name xs) (all-names xs few-indices) (every-numbered xs)
          ∙ ap (λ (ys : List ℕ). keyed (sorted ys)) (numbers_of xs)
          ∙ ap keyed sorted-indices

    -- the variables of a form are numbered as the diagram has them, kind by kind
    pub form-variables : (n : Tables) → met_first (diagram_events (form_tree ar n d)) ≡ first_met (counted ar d)
    form-variables n = diagram-keys (form_tree ar n d) ∙ (λ i. record { variables = kind-variables most n i; minimums = kind-variables least n i })
