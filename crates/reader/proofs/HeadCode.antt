-- What the code of a (becomes) head needs to know.
use Prim.Native.Nat.{ℕ, suc, ◌+◌, ◌-◌, ◌*◌, ◌≤◌, ◌<◌}
use mathlib.Core.Path.{◌≡◌, refl, sym, ap, ◌∙◌}
use mathlib.Core.Bool.{Bool, true, false, cond}
use mathlib.Core.List.{List, [], ◌∷◌, ◌++◌}
use native.Mathlib.Omega.{arith}
use borrow.Author.Tests.{eq-eqb, ne_eqb}
use lib.ListN.{length, drop}
use Rattle.refusal.specs.declared.Refusal.TheVariants.{Form, Name, Arity}
use Rattle.refusal.specs.Outcome.{Outcome, ok, refused}
use Rattle.words.specs.declared.Key.{Key}
use Rattle.names.specs.Many.{many}
use Rattle.basics.specs.Members.{clash}
use Rattle.names.specs.Inner.{put_key}
use Rattle.names.specs.Keys.{keys_at, place_of, is_among}
use Rattle.names.specs.KeyLaws.{among-at, among_none, keys-more, length-put}
use Rattle.names.specs.Layout.{declared_at}
use Rattle.events.specs.declared.Event.{Event}
use Rattle.events.specs.declared.Event.TheVariants as E
use Rattle.events.specs.declared.Next.{Next}
use Rattle.events.specs.Inner.{next_at}
use Rattle.events.specs.Front.{is_end, events_of}
use Rattle.events.specs.FrontLaws.{next-end, next_more}
use Rattle.reading.specs.Head.{Head, opening_of, argument_of, opened_number, head_number, pick_argument, arguments_from, opened_arguments, head_arguments}
use Rattle.reader.specs.Callers.{Opens, Heads}
use Rattle.reader.proofs.WordCode.{moves}
use Rattle.refusal.specs.declared.Refusal.{Refusal}
use Rattle.std.specs.Prelude.{Option, Result}
use Rattle.std.specs.Prelude.{Some, None}
use Rattle.std.specs.Prelude.{Ok, Err}

-- the events from a place on, by what stands there

data Standing (line : List ℕ) (place : ℕ) : Type 0 where
  ends : events_of (drop place line) ≡ [] → is_end (next_at line place).event ≡ true → Standing line place
  goes : is_end (next_at line place).event ≡ false → Standing line place

standing : (line : List ℕ) (place : ℕ) → Standing line place
standing line place = go (is_end (next_at line place).event) refl
  where
    go : (b : Bool) → is_end (next_at line place).event ≡ b → Standing line place
    go true e = ends (next-end line place e) e
    go false e = goes e

end-opening : (e : Event) → is_end e ≡ true → opening_of e ≡ None
end-opening (E.Name k) p = refl
end-opening (E.Variable k) p = refl
end-opening (E.Parameter k) p = refl
end-opening (E.Minimum k) p = refl
end-opening (E.Number v) p = refl
end-opening E.Equal p = refl
end-opening (E.Holds k n) p = absurd (clash p refl)
end-opening E.Step p = refl
end-opening E.End p = refl

end-argument : (e : Event) → is_end e ≡ true → argument_of e ≡ None
end-argument (E.Name k) p = refl
end-argument (E.Variable k) p = absurd (clash p refl)
end-argument (E.Parameter k) p = refl
end-argument (E.Minimum k) p = refl
end-argument (E.Number v) p = refl
end-argument E.Equal p = refl
end-argument (E.Holds k n) p = refl
end-argument E.Step p = refl
end-argument E.End p = refl

-- the head's words, by the opening that stands at the place

number_at : (line : List ℕ) (place : ℕ) (ks : List Key) → head_number ks (events_of (drop place line)) ≡ opened_number ks (opening_of (next_at line place).event)
unfolding head_number opened_number
number_at line place ks = go (standing line place)
  where
    go : Standing line place → head_number ks (events_of (drop place line)) ≡ opened_number ks (opening_of (next_at line place).event)
    go (ends e b) = rw (e, end-opening (next_at line place).event b)
    go (goes b) = rw (next_more line place b)

arguments-at : (line : List ℕ) (place n : ℕ)
    → head_arguments n (events_of (drop place line)) ≡ opened_arguments n (opening_of (next_at line place).event) (events_of (drop (next_at line place).place line))
unfolding head_arguments
arguments-at line place n = go (standing line place)
  where
    go : Standing line place
        → head_arguments n (events_of (drop place line)) ≡ opened_arguments n (opening_of (next_at line place).event) (events_of (drop (next_at line place).place line))
    go (ends e b) = rw (e, end-opening (next_at line place).event b)
    go (goes b) = rw (next_more line place b)

-- an argument, the keys vs before it, and n more behind it in the words es
abbrev argument_then : ℕ → List Key → List Event → Option Key → Outcome Head
argument_then n vs es a = pick_argument a (λ k. cond (is_among k vs) (refused Name) (arguments_from n (vs ++ (k ∷ [])) es))

from_at : (line : List ℕ) (place n : ℕ) (vs : List Key)
    → arguments_from (suc n) vs (events_of (drop place line))
    ≡ argument_then n vs (events_of (drop (next_at line place).place line)) (argument_of (next_at line place).event)
unfolding arguments_from
from_at line place n vs = go (standing line place)
  where
    go : Standing line place
        → arguments_from (suc n) vs (events_of (drop place line))
        ≡ argument_then n vs (events_of (drop (next_at line place).place line)) (argument_of (next_at line place).event)
    go (ends e b) = rw (e, end-argument (next_at line place).event b)
    go (goes b) = rw (next_more line place b)

-- the kinds of words

pub opening-atom : (e : Event) {k : Key} {n : ℕ} → e ≡ E.Holds k n → Some (k, n) ≡ opening_of e
opening-atom e p = rw p

pub argument-named : (e : Event) {k : Key} → e ≡ E.Variable k → Some k ≡ argument_of e
argument-named e p = rw p

-- the head's predicate

module _ (line : List ℕ) (place : ℕ) (ns : List ℕ) (n : ℕ) {x : Next} (q : x ≡ next_at line place) {o : Option (Key × ℕ)} (t : o ≡ opening_of x.event) where
  opened : (p : Option (Key × ℕ)) → o ≡ p → head_number (keys_at ns declared_at n) (events_of (drop place line)) ≡ opened_number (keys_at ns declared_at n) p
  opened p e =
      number_at line place (keys_at ns declared_at n)
      ∙ ap (opened_number (keys_at ns declared_at n)) (sym (ap (λ (y : Next). opening_of y.event) q) ∙ sym t ∙ e)

  pub predicate-other : o ≡ None → Opens n (head_number (keys_at ns declared_at n) (events_of (drop place line))) (Err Form)
  unfolding opened_number
  predicate-other e = record { answer = sym (opened None e); within = tt }

  module _ {k : Key} {m i : ℕ} (e : o ≡ Some (k, m)) (u : i ≡ place_of k (keys_at ns declared_at n)) where
    pub predicate-name : n ≤ i → Opens n (head_number (keys_at ns declared_at n) (events_of (drop place line))) (Err Name)
    unfolding opened_number
    predicate-name h = record { answer = rw (opened (Some (k, m)) e, among_none ns declared_at n k u h); within = tt }

    pub predicate-is : i < n → Opens n (head_number (keys_at ns declared_at n) (events_of (drop place line))) (Ok (i + 1))
    unfolding opened_number
    predicate-is h = record { answer = rw (opened (Some (k, m)) e, among-at ns declared_at n k u h, ← u); within = (omega arith, omega arith) }

-- the head's arguments, one after another

-- n of them are read
pub record Arguments (line : List ℕ) (place₀ arity : ℕ) (vs₀ vs : List ℕ) (place n : ℕ) : Type 0 where
  pub within : place ≤ length line
  pub count : n ≤ arity
  pub words : length vs ≡ length vs₀
  pub still : arguments_from arity [] (events_of (drop place₀ line)) ≡ arguments_from (arity - n) (keys_at vs 0 n) (events_of (drop place line))

no_keys : (vs : List ℕ) → keys_at vs 0 0 ≡ []
unfolding keys_at many
no_keys vs = refl

from-none : (line : List ℕ) (place : ℕ) (n : ℕ) (vs : List Key) → n ≡ 0
    → arguments_from n vs (events_of (drop place line)) ≡ ok (record { variables = vs; rest = events_of (drop place line) })
unfolding arguments_from
from-none line place n vs e = rw e

pub arguments-start : (line : List ℕ) (place arity : ℕ) (vs : List ℕ) → place ≤ length line → Arguments line place arity vs vs place 0
arguments-start line place arity vs h = record {
  within = h;
  count = omega arith;
  words = refl;
  still = ap (λ ks. arguments_from arity ks (events_of (drop place line))) (sym (no_keys vs))
      ∙ ap (λ m. arguments_from m (keys_at vs 0 0) (events_of (drop place line))) (omega arith);
}

module _ {line : List ℕ} {place₀ arity : ℕ} {vs₀ vs : List ℕ} {place n : ℕ} (l : Arguments line place₀ arity vs₀ vs place n) where
  pub arguments-done : arity ≤ n → Heads line arity (arguments_from arity [] (events_of (drop place₀ line))) (Ok place) vs
  arguments-done h = record {
    answer =
        let e : arity ≡ n = omega (arith, l.count) in
        ap (λ m. ok (record { variables = keys_at vs 0 m; rest = events_of (drop place line) })) e
        ∙ sym (l.still ∙ from-none line place (arity - n) (keys_at vs 0 n) (omega arith));
    within = l.within;
  }

  module _ (h : n < arity) {x : Next} (q : x ≡ next_at line place) {a : Option Key} (t : a ≡ argument_of x.event) where
    next-is : (b : Option Key) → a ≡ b → arguments_from arity [] (events_of (drop place₀ line))
        ≡ argument_then (arity - (n + 1)) (keys_at vs 0 n) (events_of (drop x.place line)) b
    next-is b e =
        l.still
        ∙ ap (λ m. arguments_from m (keys_at vs 0 n) (events_of (drop place line))) (omega (arith, h))
        ∙ from_at line place (arity - (n + 1)) (keys_at vs 0 n)
        ∙ ap (λ (y : Next). argument_then (arity - (n + 1)) (keys_at vs 0 n) (events_of (drop y.place line)) (argument_of y.event)) (sym q)
        ∙ ap (argument_then (arity - (n + 1)) (keys_at vs 0 n) (events_of (drop x.place line))) (sym t ∙ e)

    pub arguments-other : a ≡ None → Heads line arity (arguments_from arity [] (events_of (drop place₀ line))) (Err Form) vs
    arguments-other e = record { answer = sym (next-is None e); within = tt }

    module _ {k : Key} {i : ℕ} (e : a ≡ Some k) (u : i ≡ place_of k (keys_at vs 0 n)) where
      pub arguments-twice : i < n → Heads line arity (arguments_from arity [] (events_of (drop place₀ line))) (Err Name) vs
      arguments-twice g = record { answer = rw (next-is (Some k) e, among-at vs 0 n k u g); within = tt }

      pub arguments-more : n ≤ i → arity * 2 ≤ length vs₀ → {vs' : List ℕ} → vs' ≡ put_key vs (n * 2) k → Arguments line place₀ arity vs₀ vs' x.place (n + 1)
      arguments-more g w {vs'} z =
          let z' : vs' ≡ put_key vs (0 + n * 2) k = z ∙ ap (λ i. put_key vs i k) (omega arith) in
          let m = keys-more vs 0 n k (omega (arith, l.words, h)) in
          record {
            within = (moves line place x q l.within).0;
            count = omega (arith, h);
            words = ap length z' ∙ length-put vs (0 + n * 2) k ∙ l.words;
            still =
                rw (next-is (Some k) e, among_none vs 0 n k u g)
                (ap (λ ks. arguments_from (arity - (n + 1)) ks (events_of (drop x.place line))) (sym m ∙ ap (λ y. keys_at y 0 (n + 1)) (sym z')));
          }

-- the whole head

module _ (line : List ℕ) (place n : ℕ) {x : Next} (q : x ≡ next_at line place) {o : Option (Key × ℕ)} (t : o ≡ opening_of x.event) where
  begins : (p : Option (Key × ℕ)) → o ≡ p → head_arguments n (events_of (drop place line)) ≡ opened_arguments n p (events_of (drop x.place line))
  begins p e =
      arguments-at line place n
      ∙ ap (λ (y : Next). opened_arguments n (opening_of y.event) (events_of (drop y.place line))) (sym q)
      ∙ ap (λ c. opened_arguments n c (events_of (drop x.place line))) (sym t ∙ e)

  pub head-other : (vs : List ℕ) → o ≡ None → Heads line n (head_arguments n (events_of (drop place line))) (Err Form) vs
  head-other vs e = record { answer = sym (begins None e); within = tt }

  module _ {k : Key} {m : ℕ} (e : o ≡ Some (k, m)) where
    pub head-arity : (vs : List ℕ) → (m ≡ n → ⊥) → Heads line n (head_arguments n (events_of (drop place line))) (Err Arity) vs
    head-arity vs f = record { answer = rw (begins (Some (k, m)) e, ne_eqb m n f); within = tt }

    pub head-reads : m ≡ n → {r : Result ℕ Refusal} {vs : List ℕ} → Heads line n (arguments_from n [] (events_of (drop x.place line))) r vs
        → Heads line n (head_arguments n (events_of (drop place line))) r vs
    head-reads f g = record { answer = g.answer ∙ sym (rw (begins (Some (k, m)) e, eq-eqb m n f)); within = g.within }

  pub next-within : place ≤ length line → x.place ≤ length line
  next-within h = (moves line place x q h).0
