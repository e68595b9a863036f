-- Laws of the order of labels: under one arity list it answers as the packed numbers do, and so it is a strict total order on the labels.
use Rattle.std.specs.Prelude.{◌≡◌, refl, ◌⊎◌, Bool, true, false, cond, List, [], ◌∷◌, ℕ, zero, suc, ◌+◌, ◌-◌, ◌*◌, ◌≤◌, ◌<◌, length, get_or, take, eqb, ltb, leb}
use Rattle.std.proofs.Common.{sym, ap, ap₂, ◌∙◌, inl, inr, arith, ltb-true, ltb-false, leb-true, eqb-true, lt-ltb, le-ltb, eq-eqb, ne_eqb}
use Rattle.basics.specs.Tests.{and_left, and_right, Flag, is_true, is_false, flag, Cmp, below, equal, above, cmp}
use Rattle.basics.specs.Members.{clash}
use Rattle.label.specs.Limits.{constant_count, first_parameter, parameter_count, first_variable, variable_count, first_minimum, term_base, leaf_mark}
use Rattle.label.specs.Terms.{is_constant, is_parameter, is_variable, is_minimum, is_term, kind_of}
use Rattle.label.specs.Labels.{packed, unpacked, place_fits, places_of, is_label, terms_of}
use Rattle.label.proofs.LabelLaws.{place-below, unused-zero, used-term, PlacesFit, Fitting, label-fits, label-below, packed-unpacked}
use Rattle.label.specs.Inner.{is_first_word, word_before, Compared}
use Rattle.label.specs.Order.{term_before, places_before, atom_before, label_before, StrictTotal}
use Rattle.label.specs.declared.Atom.{Atom}
use Rattle.label.specs.declared.Kind.TheVariants.{Constant, Parameter, Variable, Minimum}

-- the kind of a term by its number
data Kinded (t : ℕ) : Type 0 where
  constant : t < constant_count → kind_of t ≡ Constant → Kinded t
  parameter : first_parameter ≤ t → t < first_parameter + parameter_count → kind_of t ≡ Parameter → Kinded t
  variable : first_variable ≤ t → t < first_minimum → kind_of t ≡ Variable → Kinded t
  minimum : first_minimum ≤ t → kind_of t ≡ Minimum → Kinded t

kinded : (t : ℕ) → is_term t ≡ true → Kinded t
unfolding is_term kind_of is_constant is_parameter is_variable is_minimum
kinded t e = go (flag (is_constant t)) (flag (is_parameter t)) (flag (is_variable t)) (flag (is_minimum t))
  where
    go : Flag (is_constant t) → Flag (is_parameter t) → Flag (is_variable t) → Flag (is_minimum t) → Kinded t
    go (is_true p) q r s = constant (ltb-true t constant_count p) (rw p)
    go (is_false p) (is_true q) r s =
        parameter (leb-true first_parameter t (and_left _ _ q)) (ltb-true t (first_parameter + parameter_count) (and_right (leb first_parameter t) _ q)) (rw (p, q))
    go (is_false p) (is_false q) (is_true r) s =
        variable (leb-true first_variable t (and_left _ _ r)) (ltb-true t (first_variable + variable_count) (and_right (leb first_variable t) _ r)) (rw (p, q, r))
    go (is_false p) (is_false q) (is_false r) (is_true s) = minimum (leb-true first_minimum t (and_left _ _ s)) (rw (p, q, r, s))
    go (is_false p) (is_false q) (is_false r) (is_false s) = clash e (rw (p, q, r, s))

-- the numbers of terms go by kind
pub term-numbers : (t u : ℕ) → is_term t ≡ true → is_term u ≡ true → term_before t u ≡ ltb t u
unfolding term_before
term-numbers t u p q = go (kinded t p) (kinded u q)
  where
    go : Kinded t → Kinded u → term_before t u ≡ ltb t u
    go (constant h e) (constant k f) = rw (e, f)
    go (constant h e) (parameter j k f) = rw (e, f, lt-ltb t u (omega arith))
    go (constant h e) (variable j k f) = rw (e, f, lt-ltb t u (omega arith))
    go (constant h e) (minimum k f) = rw (e, f, lt-ltb t u (omega arith))
    go (parameter g h e) (constant k f) = rw (e, f, le-ltb t u (omega arith))
    go (parameter g h e) (parameter j k f) = rw (e, f)
    go (parameter g h e) (variable j k f) = rw (e, f, lt-ltb t u (omega arith))
    go (parameter g h e) (minimum k f) = rw (e, f, lt-ltb t u (omega arith))
    go (variable g h e) (constant k f) = rw (e, f, le-ltb t u (omega arith))
    go (variable g h e) (parameter j k f) = rw (e, f, le-ltb t u (omega arith))
    go (variable g h e) (variable j k f) = rw (e, f)
    go (variable g h e) (minimum k f) = rw (e, f, lt-ltb t u (omega arith))
    go (minimum h e) (constant k f) = rw (e, f, le-ltb t u (omega arith))
    go (minimum h e) (parameter j k f) = rw (e, f, le-ltb t u (omega arith))
    go (minimum h e) (variable j k f) = rw (e, f, le-ltb t u (omega arith))
    go (minimum h e) (minimum k f) = rw (e, f)

-- the places from place k on of an atom of arity n
abbrev pub Fits : ℕ → ℕ → List ℕ → Type 0
Fits n k [] = Unit {0}
Fits n k (t ∷ ts) = (place_fits n k t ≡ true) × Fits n (suc k) ts

pub places-fit : {n : ℕ} {a : Atom} → PlacesFit n a → Fits n 0 (places_of a)
places-fit f = (
  f.fits 0 (omega arith),
  (f.fits 1 (omega arith), (f.fits 2 (omega arith), (f.fits 3 (omega arith), (f.fits 4 (omega arith), (f.fits 5 (omega arith), tt))))),
)

-- a number x with digits behind it
abbrev horner : ℕ → List ℕ → ℕ
horner x [] = x
horner x (t ∷ ts) = horner (x * term_base + t) ts

horner-packed : (a : Atom) → packed a ≡ horner a.predicate (places_of a)
unfolding packed
horner-packed a = omega arith

-- a lower number stays lower, whatever digits are behind it
horner-less : (n k x y : ℕ) (ts us : List ℕ) → Fits n k ts → length ts ≡ length us → x < y → horner x ts < horner y us
horner-less n k x y [] [] f e h = h
horner-less n k x y [] (u ∷ us) f e h = absurd (omega arith)
horner-less n k x y (t ∷ ts) [] f e h = absurd (omega arith)
horner-less n k x y (t ∷ ts) (u ∷ us) f e h =
    let b : t < term_base = omega (arith, place-below n k t f.0) in
    horner-less n (suc k) (x * term_base + t) (y * term_base + u) ts us f.1 (omega arith) (omega arith)

-- behind the same number the first place that differs decides, and the places past the arity take no part
horner-places : (n k m x : ℕ) → m ≡ n - k → (ts us : List ℕ) → Fits n k ts → Fits n k us → length ts ≡ length us
    → places_before (take m ts) (take m us) ≡ ltb (horner x ts) (horner x us)
unfolding places_before
horner-places n k zero x z [] [] f g e = sym (le-ltb x x (omega arith))
horner-places n k (suc m) x z [] [] f g e = sym (le-ltb x x (omega arith))
horner-places n k m x z [] (u ∷ us) f g e = absurd (omega arith)
horner-places n k m x z (t ∷ ts) [] f g e = absurd (omega arith)
horner-places n k zero x z (t ∷ ts) (u ∷ us) f g e =
    let p : t ≡ u = unused-zero n k t (omega arith) f.0 ∙ sym (unused-zero n k u (omega arith) g.0) in
    horner-places n (suc k) zero (x * term_base + t) (omega arith) ts us f.1 g.1 (omega arith)
    ∙ ap (λ (w : ℕ). ltb (horner (x * term_base + t) ts) (horner (x * term_base + w) us)) p
horner-places n k (suc m) x z (t ∷ ts) (u ∷ us) f g e =
    go (cmp t u) (horner-places n (suc k) m (x * term_base + t) (omega arith) ts us f.1 g.1 (omega arith))
  where
    terms : term_before t u ≡ ltb t u
    terms = term-numbers t u (used-term n k t (omega arith) f.0) (used-term n k u (omega arith) g.0)

    go : Cmp t u → places_before (take m ts) (take m us) ≡ ltb (horner (x * term_base + t) ts) (horner (x * term_base + t) us)
        → cond (eqb t u) (places_before (take m ts) (take m us)) (term_before t u) ≡ ltb (horner (x * term_base + t) ts) (horner (x * term_base + u) us)
    go (below h) ih =
        let l = horner-less n (suc k) (x * term_base + t) (x * term_base + u) ts us f.1 (omega arith) (omega arith) in
        rw (ne_eqb t u (omega arith), terms, lt-ltb t u h, lt-ltb (horner (x * term_base + t) ts) (horner (x * term_base + u) us) l)
    go (equal h) ih = rw (eq-eqb t u h) (ih ∙ ap (λ (w : ℕ). ltb (horner (x * term_base + t) ts) (horner (x * term_base + w) us)) h)
    go (above h) ih =
        let l = horner-less n (suc k) (x * term_base + u) (x * term_base + t) us ts g.1 (omega arith) (omega arith) in
        rw (ne_eqb t u (omega arith), terms, le-ltb t u (omega arith), le-ltb (horner (x * term_base + t) ts) (horner (x * term_base + u) us) (omega arith))

atom-numbers : (ar : List ℕ) (a b : Atom) → Fitting ar a → Fitting ar b → atom_before ar a b ≡ ltb (packed a) (packed b)
unfolding atom_before terms_of
atom-numbers ar a b f g = go (cmp a.predicate b.predicate) ∙ sym (ap₂ ltb (horner-packed a) (horner-packed b))
  where
    na : ℕ
    na = get_or ar a.predicate 0

    nb : ℕ
    nb = get_or ar b.predicate 0

    fa : Fits na 0 (places_of a)
    fa = places-fit f.places-fit

    fb : Fits nb 0 (places_of b)
    fb = places-fit g.places-fit

    go : Cmp a.predicate b.predicate
        → cond (eqb a.predicate b.predicate) (places_before (take na (places_of a)) (take nb (places_of b))) (ltb a.predicate b.predicate)
        ≡ ltb (horner a.predicate (places_of a)) (horner b.predicate (places_of b))
    go (below h) =
        let l = horner-less na 0 a.predicate b.predicate (places_of a) (places_of b) fa refl h in
        rw (ne_eqb a.predicate b.predicate (omega arith), lt-ltb a.predicate b.predicate h) (sym (lt-ltb _ _ l))
    go (equal h) =
        let n : nb ≡ na = ap (λ (p : ℕ). get_or ar p 0) (sym h) in
        rw (eq-eqb a.predicate b.predicate h, n)
        (horner-places na 0 na a.predicate (omega arith) (places_of a) (places_of b) fa (rw n at fb) refl
        ∙ ap (λ (p : ℕ). ltb (horner a.predicate (places_of a)) (horner p (places_of b))) h)
    go (above h) =
        let l = horner-less nb 0 b.predicate a.predicate (places_of b) (places_of a) fb refl h in
        rw (ne_eqb a.predicate b.predicate (omega arith), le-ltb a.predicate b.predicate (omega arith))
        (sym (le-ltb (horner a.predicate (places_of a)) (horner b.predicate (places_of b)) (omega arith)))

-- for every pair of labels under one arity list the order answers as the packed numbers do
pub order-numbers : (ar : List ℕ) (l k : ℕ) → is_label ar l ≡ true → is_label ar k ≡ true → label_before ar l k ≡ ltb l k
order-numbers ar l k e f =
    atom-numbers ar (unpacked l) (unpacked k) (label-fits ar l e) (label-fits ar k f) ∙ ap₂ ltb (packed-unpacked l) (packed-unpacked k)

-- and so it is a strict total order on them
pub order-strict-total : (ar : List ℕ) → StrictTotal (λ l. is_label ar l ≡ true) (label_before ar)
order-strict-total ar = record {
  irreflexive = λ l e. order-numbers ar l l e e ∙ le-ltb l l (omega arith);
  transitive = λ l k m e f g p q. order-numbers ar l m e g
      ∙ lt-ltb l m (omega (arith, ltb-true l k (sym (order-numbers ar l k e f) ∙ p), ltb-true k m (sym (order-numbers ar k m f g) ∙ q)));
  trichotomous = λ l k e f. one_of l k e f (cmp l k);
}
  where
    one_of : (l k : ℕ) → is_label ar l ≡ true → is_label ar k ≡ true → Cmp l k → (label_before ar l k ≡ true) ⊎ ((l ≡ k) ⊎ (label_before ar k l ≡ true))
    one_of l k e f (below h) = inl (order-numbers ar l k e f ∙ lt-ltb l k h)
    one_of l k e f (equal h) = inr (inl h)
    one_of l k e f (above h) = inr (inr (order-numbers ar k l f e ∙ lt-ltb k l h))

-- first words of rows too are in the order of their numbers: a leaf's mark is above every label
pub word-numbers : (ar : List ℕ) (w v : ℕ) → is_first_word ar w ≡ true → is_first_word ar v ≡ true → word_before ar w v ≡ ltb w v
word-numbers ar w v e f = go (flag (eqb w leaf_mark)) (flag (eqb v leaf_mark))
  where
    label : (u : ℕ) → is_first_word ar u ≡ true → eqb u leaf_mark ≡ false → is_label ar u ≡ true
    label u d q = rw q at d

    go : Flag (eqb w leaf_mark) → Flag (eqb v leaf_mark) → word_before ar w v ≡ ltb w v
    go (is_true p) (is_true q) = let z = eqb-true w leaf_mark p in let z' = eqb-true v leaf_mark q in rw p (sym (le-ltb w v (omega arith)))
    go (is_true p) (is_false q) = let z = eqb-true w leaf_mark p in rw p (sym (le-ltb w v (omega (arith, label-below ar v (label v f q)))))
    go (is_false p) (is_true q) = let z = eqb-true v leaf_mark q in rw (p, q) (sym (lt-ltb w v (omega (arith, label-below ar w (label w e p)))))
    go (is_false p) (is_false q) = rw (p, q) (order-numbers ar w v (label w e p) (label v f q))

pub compared_is : (w v : ℕ) → Compared w v (ltb w v)
compared_is w v = record { ordered = λ ar e f. sym (word-numbers ar w v e f); numbers = refl }

-- what a caller learns of the two numbers
pub compared-less : (w v : ℕ) {r : Bool} → Compared w v r → r ≡ true → w < v
compared-less w v c e = ltb-true w v (sym c.numbers ∙ e)

pub compared-not : (w v : ℕ) {r : Bool} → Compared w v r → r ≡ false → v ≤ w
compared-not w v c e = ltb-false w v (sym c.numbers ∙ e)
