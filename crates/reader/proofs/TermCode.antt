-- What the code of terms and variables needs to know.
use Prim.Native.Nat.{ℕ, ◌+◌, ◌*◌, ◌≤◌, ◌<◌, min}
use mathlib.Core.Logic.{◌⊎◌, inl, inr}
use mathlib.Core.Path.{◌≡◌, refl, sym, ap, subst, ◌∙◌}
use mathlib.Core.List.{List, [], ◌∷◌}
use native.Mathlib.Omega.{arith}
use borrow.Author.Tests.{le-leb, lt-leb}
use types.Run.{OneOf, miss}
use denote.Enum.Declared.{tag_of}
use Rattle.refusal.specs.declared.Refusal.TheVariants.{Name, Unbound}
use Rattle.refusal.specs.Outcome.{ok}
use Rattle.label.specs.Limits.{constant_count, parameter_count, first_variable, variable_count, first_minimum}
use Rattle.label.specs.Terms.{constant_term, parameter_term, variable_term, minimum_term}
use Rattle.words.specs.declared.Key.{Key}
use Rattle.names.specs.Inner.{put_key}
use Rattle.names.specs.Keys.{keys_at, place_of}
use Rattle.names.specs.KeyLaws.{length-keys, among-at, among_none, keys-more, length-put}
use Rattle.names.specs.Layout.{constants_at, parameters_at}
use Rattle.events.specs.contracts.Event.{the_type}
use Rattle.events.specs.declared.Event.{Event}
use Rattle.events.specs.declared.Event.TheVariants as E
use Rattle.reading.specs.declared.Binding.{Binding}
use Rattle.reading.specs.declared.Binding.TheVariants.{Any, None, Only}
use Rattle.reading.specs.Reading.{constant_number, parameter_number, met, variable_met, minimum_met, met_at, last_variable, number_in, variable_number, minimum_number}
use Rattle.reader.specs.declared.Known.{Known}
use Rattle.reader.specs.Callers.{part_words, met_in, Part, Variables, Resolves, Meets, MeetsWord}
use Rattle.refusal.specs.declared.Refusal.{Refusal}
use Rattle.std.specs.Prelude.{Result}
use Rattle.std.specs.Prelude.{Ok, Err}

module _ (ns : List ℕ) (n : ℕ) (k : Key) {i : ℕ} where
  pub constant-none : i ≡ place_of k (keys_at ns constants_at n) → n ≤ i → Resolves (constant_number (keys_at ns constants_at n) k) (Err Name)
  unfolding constant_number
  constant-none q h = record { answer = rw (among_none ns constants_at n k q h); below = tt }

  pub constant-is : i ≡ place_of k (keys_at ns constants_at n) → i < n → n ≤ constant_count → {v : ℕ} → v ≡ constant_term i
      → Resolves (constant_number (keys_at ns constants_at n) k) (Ok v)
  unfolding constant_number
  constant-is q h l e = subst (λ (x : ℕ). Resolves (constant_number (keys_at ns constants_at n) k) (Ok x)) (sym e)
      (record { answer = rw (among-at ns constants_at n k q h, ← q); below = omega arith })

  pub parameter-none : i ≡ place_of k (keys_at ns parameters_at n) → n ≤ i → Resolves (parameter_number (keys_at ns parameters_at n) k) (Err Unbound)
  unfolding parameter_number
  parameter-none q h = record { answer = rw (among_none ns parameters_at n k q h); below = tt }

  pub parameter-is : i ≡ place_of k (keys_at ns parameters_at n) → i < n → n ≤ parameter_count → {v : ℕ} → v ≡ parameter_term i
      → Resolves (parameter_number (keys_at ns parameters_at n) k) (Ok v)
  unfolding parameter_number
  parameter-is q h l e = subst (λ (x : ℕ). Resolves (parameter_number (keys_at ns parameters_at n) k) (Ok x)) (sym e)
      (record { answer = rw (among-at ns parameters_at n k q h, ← q); below = omega arith })

-- a variable's number

number_is : (first : ℕ) (ks : List Key) (k : Key) {i v : ℕ} → i ≡ place_of k ks → v ≡ first + min i last_variable → v ≡ number_in first ks k
unfolding number_in
number_is first ks k q e = e ∙ ap (λ j. first + min j last_variable) q

module _ (vs : List ℕ) (n : ℕ) (k : Key) {i v : ℕ} (q : i ≡ place_of k (keys_at vs 0 n)) where
  pub any-is : v ≡ variable_term (min i last_variable) → Resolves (variable_number Any (keys_at vs 0 n) k) (Ok v)
  unfolding variable_number
  any-is e = record { answer = ap ok (number_is first_variable (keys_at vs 0 n) k q e); below = omega arith }

  pub bound-is : i < n → v ≡ variable_term (min i last_variable) → Resolves (variable_number Only (keys_at vs 0 n) k) (Ok v)
  unfolding variable_number
  bound-is h e = record { answer = rw (among-at vs 0 n k q h, ← number_is first_variable (keys_at vs 0 n) k q e); below = omega arith }

pub bound-none : (vs : List ℕ) (n : ℕ) (k : Key) {i : ℕ} → i ≡ place_of k (keys_at vs 0 n) → n ≤ i
    → Resolves (variable_number Only (keys_at vs 0 n) k) (Err Unbound)
unfolding variable_number
bound-none vs n k q h = record { answer = rw (among_none vs 0 n k q h); below = tt }

module _ (b : Binding) (vs : List Key) (k : Key) {r : Result ℕ Refusal} where
  pub number-any : b ≡ Any → Resolves (variable_number Any vs k) r → Resolves (variable_number b vs k) r
  number-any e g = rw e g

  pub number-only : b ≡ Only → Resolves (variable_number Only vs k) r → Resolves (variable_number b vs k) r
  number-only e g = rw e g

pub number-none : (b : Binding) (vs : List Key) (k : Key) → b ≡ None → Resolves (variable_number b vs k) (Err Unbound)
unfolding variable_number
number-none b vs k e = rw e (record { answer = refl; below = tt })

-- a minimum variable's number

module _ (vs : List ℕ) (n : ℕ) (b : Binding) (k : Key) where
  pub minimum-is : b ≡ Any → {i v : ℕ} → i ≡ place_of k (keys_at vs part_words n) → v ≡ minimum_term (min i last_variable)
      → Resolves (minimum_number b (keys_at vs part_words n) k) (Ok v)
  unfolding minimum_number
  minimum-is z q e = rw z (record { answer = ap ok (number_is first_minimum (keys_at vs part_words n) k q e); below = omega arith })

  pub minimum-unbound : (b ≡ None) ⊎ (b ≡ Only) → Resolves (minimum_number b (keys_at vs part_words n) k) (Err Unbound)
  unfolding minimum_number
  minimum-unbound (inl z) = rw z (record { answer = refl; below = tt })
  minimum-unbound (inr z) = rw z (record { answer = refl; below = tt })

-- a part of the table of variables

module _ (vs : List ℕ) (n : ℕ) (k : Key) (t : Part vs n) {i : ℕ} (q : i ≡ place_of k (keys_at vs 0 n)) where
  pub join-known : i < n → Meets (met Any (keys_at vs 0 n) k) n vs
  unfolding met
  join-known h = record { variables = rw (among-at vs 0 n k q h); table = t }

  module _ (h : n ≤ i) where
    pub join-full : variable_count < n → Meets (met Any (keys_at vs 0 n) k) n vs
    unfolding met
    join-full l = record { variables = rw (among_none vs 0 n k q h, length-keys vs 0 n, lt-leb n variable_count l); table = t }

    pub join-new : n ≤ variable_count → {vs' : List ℕ} → vs' ≡ put_key vs (n * 2) k → Meets (met Any (keys_at vs 0 n) k) (n + 1) vs'
    unfolding met
    join-new l {vs'} e =
        let z : vs' ≡ put_key vs (0 + n * 2) k = e ∙ ap (λ i. put_key vs i k) (omega arith) in
        rw z (record {
          variables = rw (among_none vs 0 n k q h, length-keys vs 0 n, le-leb n variable_count l) (keys-more vs 0 n k (omega (arith, t.words)));
          table = record { words = rw (length-put vs (0 + n * 2) k) t.words; within = omega arith };
        })

module _ (b : Binding) (vs : List ℕ) (n : ℕ) (k : Key) where
  pub meet-any : b ≡ Any → {r : ℕ} {vs' : List ℕ} → Meets (met Any (keys_at vs 0 n) k) r vs' → Meets (met b (keys_at vs 0 n) k) r vs'
  meet-any e g = rw e g

  pub meet-bound : (b ≡ None) ⊎ (b ≡ Only) → Part vs n → Meets (met b (keys_at vs 0 n) k) n vs
  unfolding met
  meet-bound (inl e) t = rw e (record { variables = refl; table = t })
  meet-bound (inr e) t = rw e (record { variables = refl; table = t })

-- a word's variables

module _ (b : Binding) (vs : List ℕ) (n : Known) (e : Event) {k : Key} {r : Known} {vs' : List ℕ} where
  pub word-variable : e ≡ E.Variable k → MeetsWord (variable_met b (met_in vs n) k) r vs' → MeetsWord (met_at b (met_in vs n) e) r vs'
  word-variable p g = rw p g

  pub word-minimum : e ≡ E.Minimum k → MeetsWord (minimum_met b (met_in vs n) k) r vs' → MeetsWord (met_at b (met_in vs n) e) r vs'
  word-minimum p g = rw p g

-- the other words, by their numbers
abbrev others : List ℕ
others = 0 ∷ 2 ∷ 4 ∷ 5 ∷ 6 ∷ 7 ∷ 8 ∷ []

module _ (b : Binding) (vs : List ℕ) (n : Known) (t : Variables vs n) where
  pub word-other : (e : Event) → OneOf others (tag_of the_type e) → MeetsWord (met_at b (met_in vs n) e) n vs
  word-other (E.Name k) y = record { met = refl; table = t }
  word-other (E.Variable k) y = absurd (miss others 1 tt y)
  word-other (E.Parameter k) y = record { met = refl; table = t }
  word-other (E.Minimum k) y = absurd (miss others 3 tt y)
  word-other (E.Number v) y = record { met = refl; table = t }
  word-other E.Equal y = record { met = refl; table = t }
  word-other (E.Holds k m) y = record { met = refl; table = t }
  word-other E.Step y = record { met = refl; table = t }
  word-other E.End y = record { met = refl; table = t }
