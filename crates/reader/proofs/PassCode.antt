-- What the code of atoms and operations needs to know.
use Prim.Native.Nat.{ℕ, suc, ◌+◌, ◌-◌, ◌*◌, ◌≤◌, ◌<◌}
use mathlib.Core.Path.{◌≡◌, refl, sym, ap, ap₂, subst, ◌∙◌}
use mathlib.Core.List.{List, [], ◌∷◌, ◌++◌}
use native.Mathlib.Omega.{arith}
use borrow.Author.Tests.{eq-eqb, ne_eqb, le-leb, lt-leb}
use lib.ListN.{length, get_or, take, set, length-set}
use lib.Seq.{get_or-set_same, get_or-set_other, take-suc-set}
use Rattle.refusal.specs.declared.Refusal.{Refusal}
use Rattle.refusal.specs.declared.Refusal.TheVariants.{Form, Name, Arity, Range}
use Rattle.refusal.specs.Outcome.{ok}
use Rattle.label.specs.Limits.{predicate_count, predicate_weight, term_end, most_places}
use Rattle.label.specs.Labels.{places_of, place_in, atom_from, unpacked, test_of}
use Rattle.label.proofs.ArityLaws.{arity-most, arity-words}
use Rattle.label.specs.Callers.{Packable}
use Rattle.label.specs.declared.Atom.{Atom}
use Rattle.label.specs.declared.Label.{Label}
use Rattle.label.specs.declared.Test.{Test}
use Rattle.label.specs.declared.Test.TheVariants.{Always, Is}
use Rattle.diagram.specs.Sizes.{highest_value}
use Rattle.words.specs.declared.Key.{Key}
use Rattle.names.specs.Keys.{keys_at, place_of}
use Rattle.names.specs.KeyLaws.{among-at, among_none}
use Rattle.names.specs.Layout.{declared_at}
use Rattle.names.specs.ManyLaws.{many_more}
use Rattle.reading.specs.Operations.{Op}
use Rattle.reading.specs.Operations.Op.{ask}
use Rattle.reading.specs.Reading.{Pass, more, asked, begun, term_word, number_word, atom_word}
use Rattle.reader.specs.declared.Scope.{Scope}
use Rattle.reader.specs.declared.Progress.{Progress}
use Rattle.reader.specs.OperationWords.{op_of, op_at, ops_in}
use Rattle.reader.specs.Callers.{names_of, placed, atom_of, pass_of, judged_number, Tables, Room, Fillable, TermBelow, Goes, Steps}
use Rattle.reader.proofs.FillCode.{whole, empty-unpacked, empty-packs, empty-unfilled, placed-places, placed-other, placed-packs}
use Rattle.std.specs.Prelude.{Result}
use Rattle.std.specs.Prelude.{Ok, Err}

-- one operation more

op_same : (s t : List ℕ) (i : ℕ) → get_or t (i * 2) 0 ≡ get_or s (i * 2) 0 → get_or t (i * 2 + 1) 0 ≡ get_or s (i * 2 + 1) 0 → op_at t i ≡ op_at s i
unfolding op_at
op_same s t i p q = rw (p, q)

op-new : (s : List ℕ) (n k v : ℕ) → n * 2 + 2 ≤ length s → op_at (set (set s (n * 2) k) (n * 2 + 1) v) n ≡ op_of k v
unfolding op_at
op-new s n k v h =
    let t : List ℕ = set s (n * 2) k in
    rw (
      get_or-set_other t (n * 2 + 1) (n * 2) v 0 (λ e. omega arith),
      get_or-set_same s (n * 2) k 0 (omega arith),
      get_or-set_same t (n * 2 + 1) v 0 (rw length-set (omega arith)),
    )

pub ops-more : (s : List ℕ) (n k v : ℕ) → n * 2 + 2 ≤ length s
    → ops_in (set (set s (n * 2) k) (n * 2 + 1) v) (n + 1) ≡ ops_in s n ++ (op_of k v ∷ [])
unfolding ops_in
ops-more s n k v h =
    let t : List ℕ = set (set s (n * 2) k) (n * 2 + 1) v in
    many_more (op_at s) (op_at t) n (op_of k v)
    (λ i l. op_same s t i
    (get_or-set_other (set s (n * 2) k) (n * 2 + 1) (i * 2) v 0 (λ e. omega arith) ∙ get_or-set_other s (n * 2) (i * 2) k 0 (λ e. omega arith))
    (get_or-set_other (set s (n * 2) k) (n * 2 + 1) (i * 2 + 1) v 0 (λ e. omega arith) ∙ get_or-set_other s (n * 2) (i * 2 + 1) k 0 (λ e. omega arith)))
    (op-new s n k v h)

pass-ext : (q : ℕ) (ts : List ℕ) (d : ℕ) (x y : List Op) → x ≡ y
    → ◌≡◌ {A = Pass} (record { predicate = q; terms = ts; due = d; operations = x }) (record { predicate = q; terms = ts; due = d; operations = y })
pass-ext q ts d x y e = λ i. record { predicate = q; terms = ts; due = d; operations = e i }

pub add_goes : (os : List ℕ) (p : Progress) (k v : ℕ) → Room os p
    → Goes p (more (pass_of os p) (op_of k v)) (record { label = p.label; filled = p.filled; due = p.due; operations = p.operations + 1 })
    (set (set os (p.operations * 2) k) (p.operations * 2 + 1) v)
add_goes os p k v r = record {
  pass = pass-ext _ _ p.due _ _ (ops-more os p.operations k v r.room);
  advanced = record {
    going = record { packable = r.going.packable; places = r.going.places; unfilled = r.going.unfilled };
    one = omega arith;
  };
}

-- the atom, asked or not

asked-due : (p : Pass) → (p.due ≡ 0 → ⊥) → asked p ≡ p
unfolding asked
asked-due p f = rw (ne_eqb p.due 0 f)

asked-none : (p : Pass) → p.due ≡ 0 → asked p ≡ more p (ask (test_of (atom_from p.predicate p.terms)))
unfolding asked
asked-none p e = rw (eq-eqb p.due 0 e)

pub ask-waits : (os : List ℕ) (p : Progress) → Room os p → (p.due ≡ 0 → ⊥) → Goes p (asked (pass_of os p)) p os
ask-waits os p r f = record {
  pass = sym (asked-due (pass_of os p) f);
  advanced = record { going = r.going; one = omega arith };
}

module _ (os : List ℕ) (p : Progress) (w : Room os p) {os' : List ℕ} {r : Progress} {a : Atom} {t : Test} (e : p.due ≡ 0) (u : a ≡ atom_of p) (q : t ≡ test_of a) where
  ask-goes : Goes p (more (pass_of os p) (ask t)) r os' → Goes p (asked (pass_of os p)) r os'
  ask-goes g = record {
    pass =
        g.pass
        ∙ ap (λ x. more (pass_of os p) (ask x)) (q ∙ ap test_of (u ∙ sym (whole (atom_of p) p.filled w.going.unfilled)))
        ∙ sym (asked-none (pass_of os p) e);
    advanced = g.advanced;
  }

  pub ask-truth : t ≡ Always → Goes p (more (pass_of os p) (op_of 2 0)) r os' → Goes p (asked (pass_of os p)) r os'
  ask-truth z g = ask-goes (record { pass = g.pass ∙ ap (λ x. more (pass_of os p) (ask x)) (sym z); advanced = g.advanced })

  pub ask-label : {l : Label} → t ≡ Is l → Goes p (more (pass_of os p) (op_of 1 l.packed)) r os' → Goes p (asked (pass_of os p)) r os'
  ask-label z g = ask-goes (record { pass = g.pass ∙ ap (λ x. more (pass_of os p) (ask x)) (sym z); advanced = g.advanced })

pub ask-packs : (os : List ℕ) (p : Progress) {a : Atom} → Room os p → a ≡ atom_of p → Packable a
ask-packs os p r e = rw e r.going.packable

-- an atom begins

abbrev start : Progress → ℕ → ℕ → Progress
start p q n = record { label = record { packed = q * predicate_weight }; filled = 0; due = n; operations = p.operations }

pub begin-room : (os : List ℕ) (p : Progress) (q n : ℕ) → Room os p → q < predicate_count → n ≤ most_places → Room os (start p q n)
begin-room os p q n r h l = record {
  going = record { packable = empty-packs q h; places = omega arith; unfilled = λ k m. empty-unfilled q k };
  room = r.room;
}

pub begin-goes : (os : List ℕ) (p : Progress) (q n : ℕ) {r : Progress} {os' : List ℕ} → Goes (start p q n) (asked (pass_of os (start p q n))) r os'
    → Goes p (begun (pass_of os p) q n) r os'
unfolding begun
begin-goes os p q n g = record {
  pass =
      g.pass
      ∙ ap (λ (a : Atom). asked (record { predicate = a.predicate; terms = []; due = n; operations = ops_in os p.operations })) (empty-unpacked q);
  advanced = record { going = g.advanced.going; one = g.advanced.one };
}

-- a place is filled

abbrev next : Progress → Label → Progress
next p l = record { label = l; filled = p.filled + 1; due = p.due - 1; operations = p.operations }

pub give-fills : (os : List ℕ) (p : Progress) (t : ℕ) → Room os p → t < term_end → (p.due ≡ 0 → ⊥) → Fillable p.label.packed p.filled t
give-fills os p t r h f = record {
  packable = r.going.packable;
  place = omega (arith, r.going.places);
  zero = r.going.unfilled p.filled (omega arith);
  term = omega arith;
}

module _ (os : List ℕ) (p : Progress) (t : ℕ) (l : Label) (w : Room os p) (f : p.due ≡ 0 → ⊥) (e : unpacked l.packed ≡ placed (atom_of p) p.filled t) where
  pub give-room : t < term_end → Room os (next p l)
  give-room h = record {
    going = record {
      packable = rw e (placed-packs (atom_of p) p.filled t w.going.packable (omega arith));
      places = omega (arith, w.going.places);
      unfilled = λ k m.
          ap (λ (a : Atom). place_in a k) e ∙ placed-other (atom_of p) p.filled t k (omega arith) ∙ w.going.unfilled k (omega arith);
    };
    room = w.room;
  }

  terms-more : take (p.filled + 1) (places_of (unpacked l.packed)) ≡ take p.filled (places_of (atom_of p)) ++ (t ∷ [])
  terms-more =
      let n : p.filled + 1 ≡ suc p.filled = omega arith in
      ap (λ (a : Atom). take (p.filled + 1) (places_of a)) e
      ∙ ap (λ (ts : List ℕ). take (p.filled + 1) ts) (placed-places (atom_of p) p.filled t)
      ∙ ap (λ (m : ℕ). take m (set (places_of (atom_of p)) p.filled t)) n
      ∙ take-suc-set (places_of (atom_of p)) p.filled t (omega (arith, w.going.places))

  pub give-goes : {r : Progress} {os' : List ℕ} → Goes (next p l) (asked (pass_of os (next p l))) r os' → Steps p (term_word (pass_of os p) (ok t)) (Ok r) os'
  unfolding term_word
  give-goes g = record {
    answer =
        rw (ne_eqb p.due 0 f)
        (ap ok (g.pass ∙ ap₂ (λ (q : ℕ) (ts : List ℕ). asked (record { predicate = q; terms = ts; due = p.due - 1; operations = ops_in os p.operations }))
        (ap (λ (a : Atom). a.predicate) e) terms-more));
    advanced = record { going = g.advanced.going; one = g.advanced.one };
  }

pub give-none : (os : List ℕ) (p : Progress) (t : ℕ) → p.due ≡ 0 → Steps p (term_word (pass_of os p) (ok t)) (Err Form) os
unfolding term_word
give-none os p t e = record { answer = rw (eq-eqb p.due 0 e); advanced = tt }

-- a term, resolved

pub term-below : {r : Result ℕ Refusal} {t : ℕ} → TermBelow r → r ≡ Ok t → t < term_end
term-below h e = subst TermBelow e h

module _ (os : List ℕ) (p : Progress) {r : Result ℕ Refusal} where
  pub term-number : {t : ℕ} {x : Result Progress Refusal} {os' : List ℕ} → r ≡ Ok t → Steps p (term_word (pass_of os p) (ok t)) x os'
      → Steps p (term_word (pass_of os p) (judged_number r)) x os'
  term-number e g = rw e g

  pub term-refused : {x : Refusal} → r ≡ Err x → Steps p (term_word (pass_of os p) (judged_number r)) (Err x) os
  unfolding term_word
  term-refused e = rw e (record { answer = refl; advanced = tt })

-- a leaf

pub number-range : (os : List ℕ) (p : Progress) (v : ℕ) → highest_value < v → Steps p (number_word (pass_of os p) v) (Err Range) os
unfolding number_word
number-range os p v h = record { answer = rw (lt-leb v highest_value h); advanced = tt }

pub number-goes : (os : List ℕ) (p : Progress) (v : ℕ) {r : Progress} {os' : List ℕ} → v ≤ highest_value → Goes p (more (pass_of os p) (op_of 0 v)) r os'
    → Steps p (number_word (pass_of os p) v) (Ok r) os'
unfolding number_word
number-goes os p v h g = record { answer = rw (le-leb v highest_value h) (ap ok g.pass); advanced = g.advanced }

-- an atom's name

module _ (ns ar os : List ℕ) (s : Scope) (p : Progress) (k : Key) (n : ℕ) {i : ℕ} (q : i ≡ place_of k (keys_at ns declared_at s.predicates)) where
  pub atom-name : s.predicates ≤ i → Steps p (atom_word (names_of ns ar s) (pass_of os p) k n) (Err Name) os
  unfolding atom_word
  atom-name h = record { answer = rw (among_none ns declared_at s.predicates k q h); advanced = tt }

  module _ (l : i < s.predicates) where
    pub atom-arity : (n ≡ get_or ar (i + 1) 0 → ⊥) → Steps p (atom_word (names_of ns ar s) (pass_of os p) k n) (Err Arity) os
    unfolding atom_word
    atom-arity f = record { answer = rw (among-at ns declared_at s.predicates k q l, ← q, ne_eqb n (get_or ar (i + 1) 0) f); advanced = tt }

    pub atom-goes : n ≡ get_or ar (i + 1) 0 → {r : Progress} {os' : List ℕ} → Goes p (begun (pass_of os p) (i + 1) n) r os'
        → Steps p (atom_word (names_of ns ar s) (pass_of os p) k n) (Ok r) os'
    unfolding atom_word
    atom-goes e g = record { answer = rw (among-at ns declared_at s.predicates k q l, ← q, eq-eqb n (get_or ar (i + 1) 0) e) (ap ok g.pass); advanced = g.advanced }

module _ (ns ar : List ℕ) (s : Scope) (t : Tables ns ar s) where
  pub atom-room : {i : ℕ} → i < s.predicates → i + 1 < length ar
  atom-room l = omega (arith, arity-words ar t.arities-fit, t.predicates-fit)

  pub atom-places : (i : ℕ) {n : ℕ} → n ≡ get_or ar (i + 1) 0 → n ≤ most_places
  atom-places i e = omega (arith, arity-most ar (i + 1) t.arities-fit)
