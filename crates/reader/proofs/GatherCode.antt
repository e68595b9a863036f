-- What the code that gathers a reward's variables needs to know.
use Prim.Native.Nat.{ℕ, ◌-◌, ◌≤◌, ◌<◌}
use mathlib.Core.Path.{◌≡◌, refl, sym, ap, subst, ◌∙◌}
use mathlib.Core.Bool.{Bool, true, false, ◌&&◌}
use mathlib.Core.List.{List, [], ◌∷◌, ◌++◌}
use native.Mathlib.Omega.{arith}
use borrow.Author.Tests.{le-leb, lt-leb}
use lib.ListN.{length, drop, length-drop}
use Rattle.refusal.specs.Outcome.{Outcome}
use Rattle.label.specs.Limits.{variable_count}
use Rattle.words.specs.Keys.{name_of}
use Rattle.words.specs.declared.Key.{Key}
use Rattle.names.specs.Many.{many}
use Rattle.names.specs.Keys.{keys_at}
use Rattle.names.specs.KeyLaws.{length-keys}
use Rattle.events.specs.declared.Event.{Event}
use Rattle.events.specs.declared.Event.TheVariants as E
use Rattle.events.specs.declared.Next.{Next}
use Rattle.events.specs.Inner.{next_at}
use Rattle.events.specs.Front.{is_end, events_of}
use Rattle.events.specs.FrontLaws.{events-short}
use Rattle.reading.specs.declared.Binding.TheVariants.{Any}
use Rattle.reading.specs.declared.Kind.{Kind}
use Rattle.reading.specs.Reading.{Written, reading}
use Rattle.reading.specs.Occurrences.{minimum_of, variable_of, word_keys, keys_of}
use Rattle.reading.specs.Numbering.{is_numbered, all_numbered, reward_reading}
use Rattle.reader.specs.declared.Known.{Known}
use Rattle.reader.specs.declared.Scope.{Scope}
use Rattle.reader.specs.GatheringLaws.{kept-reading}
use Rattle.reader.specs.Gathering.{moved_in, numbered_as, moved, gathered, kept_first, kept_met, Insertable, GathersAs, Gathers}
use Rattle.reader.specs.Callers.{met_in, names_of, Part, Reads, Meets, MeetsWord}
use Rattle.reader.proofs.WordCode.{moves, events-next, events-none}
use Rattle.reader.proofs.NumberCode.{order-number, order_is, order-not}
use Rattle.refusal.specs.declared.Refusal.{Refusal}
use Rattle.std.specs.Prelude.{Option, Result}
use Rattle.std.specs.Prelude.{Some, None}

-- ===== One variable =====

module _ (k : Key) {t : Option ℕ} (q : t ≡ numbered_as (name_of k)) where
  pub gather-other : (us : List Key) {vs : List ℕ} → t ≡ None → Gathers us (k ∷ []) None vs
  gather-other us e = record { is = rw (order-not (name_of k) q e) }

  module _ (vs : List ℕ) (count : ℕ) {n : ℕ} (e : t ≡ Some n) where
    is-numbered : all_numbered (k ∷ []) ≡ true
    is-numbered = rw (order_is (name_of k) q e)

    pub gather-full : Part vs count → variable_count < count → Gathers (keys_at vs 0 count) (k ∷ []) (Some count) vs
    gather-full t h = record { is = (is-numbered, rw (lt-leb (length (keys_at vs 0 count)) variable_count (omega (arith, length-keys vs 0 count))), t) }

    pub gather-insertable : Part vs count → count ≤ variable_count → Insertable vs count k n
    gather-insertable t h = record { table = t; room = h; number = order-number (name_of k) q e }

    pub gather-more : count ≤ variable_count → {r : ℕ} {vs' : List ℕ} → Meets (moved k (keys_at vs 0 count)) r vs' → Gathers (keys_at vs 0 count) (k ∷ []) (Some r) vs'
    gather-more h m = record {
      is = (is-numbered, rw (le-leb (length (keys_at vs 0 count)) variable_count (omega (arith, length-keys vs 0 count))) m.variables, m.table);
    }

module _ (w : Option Key) where
  pub word-gathers : (us : List Key) {k : Key} {r : Option ℕ} {vs' : List ℕ} → w ≡ Some k → Gathers us (k ∷ []) r vs' → Gathers us (word_keys w) r vs'
  word-gathers us e g = rw e g

  pub word-passes : (vs : List ℕ) (count : ℕ) → w ≡ None → Part vs count → Gathers (keys_at vs 0 count) (word_keys w) (Some count) vs
  word-passes vs count e t = rw e (record { is = (refl, refl, t) })

-- ===== All variables of a line =====

pub minimum-named : (e : Event) {k : Key} → e ≡ E.Minimum k → Some k ≡ minimum_of e
minimum-named e p = rw p

all_join : (xs ys : List Key) → all_numbered (xs ++ ys) ≡ (all_numbered xs && all_numbered ys)
all_join [] ys = refl
all_join (x ∷ xs) ys = ap (λ (b : Bool). is_numbered (name_of x) && b) (all_join xs ys) ∙ go (is_numbered (name_of x))
  where
    go : (b : Bool) → (b && (all_numbered xs && all_numbered ys)) ≡ ((b && all_numbered xs) && all_numbered ys)
    go true = refl
    go false = refl

gathered-join : (us xs ys : List Key) → gathered us (xs ++ ys) ≡ gathered (gathered us xs) ys
gathered-join us [] ys = refl
gathered-join us (x ∷ xs) ys = gathered-join (moved_in us x) xs ys

kept_more : (us xs ys : List Key) → all_numbered xs ≡ true → kept_first us (xs ++ ys) ≡ kept_first (gathered us xs) ys
unfolding kept_first
kept_more us xs ys e = rw (all_join xs ys, e, gathered-join us xs ys)

kept-other : (us xs ys : List Key) → all_numbered xs ≡ false → kept_first us (xs ++ ys) ≡ []
unfolding kept_first
kept-other us xs ys e = rw (all_join xs ys, e)

no_keys : (vs : List ℕ) → keys_at vs 0 0 ≡ []
unfolding keys_at many
no_keys vs = refl

-- the words before the place are passed
pub record Gathering (line : List ℕ) (place₀ : ℕ) (vs₀ : List ℕ) (c : Kind) (vs : List ℕ) (place count : ℕ) : Type 0 where
  pub within : place ≤ length line
  pub table : Part vs count
  pub size : length vs ≡ length vs₀
  pub still : kept_first [] (keys_of c (events_of (drop place₀ line))) ≡ kept_first (keys_at vs 0 count) (keys_of c (events_of (drop place line)))

module _ {line : List ℕ} {place₀ : ℕ} {vs₀ : List ℕ} {c : Kind} where
  pub gathering-start : place₀ ≤ length line → Part vs₀ 0 → Gathering line place₀ vs₀ c vs₀ place₀ 0
  gathering-start h t = record {
    within = h;
    table = t;
    size = refl;
    still = ap (λ (us : List Key). kept_first us (keys_of c (events_of (drop place₀ line)))) (sym (no_keys vs₀));
  }

  module _ {vs : List ℕ} {place count : ℕ} (l : Gathering line place₀ vs₀ c vs place count) where
    ends : events_of (drop place line) ≡ [] → Meets (kept_first [] (keys_of c (events_of (drop place₀ line)))) count vs
    unfolding kept_first
    ends e = record { variables = sym (l.still ∙ ap (λ (es : List Event). kept_first (keys_at vs 0 count) (keys_of c es)) e); table = l.table }

    pub gathering-over : length line ≤ place → Meets (kept_first [] (keys_of c (events_of (drop place₀ line)))) count vs
    gathering-over h = ends (events-short (drop place line) (omega (arith, length-drop place line)))

    module _ {n : Next} (q : n ≡ next_at line place) {b : Bool} (t : b ≡ is_end n.event) where
      pub gathering-end : b ≡ true → Meets (kept_first [] (keys_of c (events_of (drop place₀ line)))) count vs
      gathering-end e = ends (events-none line place n q (sym t ∙ e))

      module _ (f : b ≡ false) where
        pub gathering-shrinks : length line - n.place < length line - place
        gathering-shrinks = let m = moves line place n q l.within in omega (arith, m.0, m.1 (sym t ∙ f))

        module _ {w : Option Key} (p : w ≡ variable_of c n.event) where
          keys : keys_of c (events_of (drop place line)) ≡ word_keys w ++ keys_of c (events_of (drop n.place line))
          keys =
              ap (keys_of c) (events-next line place n q (sym t ∙ f))
              ∙ ap (λ (a : Option Key). word_keys a ++ keys_of c (events_of (drop n.place line))) (sym p)

          pub gathering-other : {vs' : List ℕ} → length vs' ≡ length vs → {x : Option ℕ} → Gathers (keys_at vs 0 count) (word_keys w) x vs' → x ≡ None
              → Meets (kept_first [] (keys_of c (events_of (drop place₀ line)))) 0 vs'
          gathering-other {vs'} size' g e =
              let o : all_numbered (word_keys w) ≡ false = subst (GathersAs (keys_at vs 0 count) (word_keys w) vs') e g.is in
              record {
                variables =
                    no_keys vs'
                    ∙ sym (l.still ∙ ap (kept_first (keys_at vs 0 count)) keys ∙ kept-other (keys_at vs 0 count) (word_keys w) (keys_of c (events_of (drop n.place line))) o);
                table = record { words = omega (arith, size', l.table.words); within = omega arith };
              }

          pub gathering-more : {vs' : List ℕ} → length vs' ≡ length vs → {x : Option ℕ} {m : ℕ} → Gathers (keys_at vs 0 count) (word_keys w) x vs' → x ≡ Some m
              → Gathering line place₀ vs₀ c vs' n.place m
          gathering-more {vs'} size' {x} {m} g e =
              let o : GathersAs (keys_at vs 0 count) (word_keys w) vs' (Some m) = subst (GathersAs (keys_at vs 0 count) (word_keys w) vs') e g.is in
              let rest : List Key = keys_of c (events_of (drop n.place line)) in
              record {
                within = (moves line place n q l.within).0;
                table = o.2;
                size = size' ∙ l.size;
                still =
                    l.still
                    ∙ ap (kept_first (keys_at vs 0 count)) keys
                    ∙ kept_more (keys_at vs 0 count) (word_keys w) rest o.0
                    ∙ ap (λ (us : List Key). kept_first us rest) (sym o.1);
              }

-- ===== A reward's words =====

pub reward-reads : (line : List ℕ) (place : ℕ) (ns ar : List ℕ) (s : Scope) {known : Known} {vs : List ℕ} → s.binding ≡ Any
    → MeetsWord (kept_met (events_of (drop place line))) known vs → {r : Result (ℕ × Known) Refusal} {vs' os' : List ℕ}
    → Reads (reading (names_of ns ar s) (events_of (drop place line)) (met_in vs known)) r vs' os' → Reads (reward_reading (names_of ns ar s) (events_of (drop place line))) r vs' os'
reward-reads line place ns ar s any m {r} {vs'} {os'} h =
    let es : List Event = events_of (drop place line) in
    subst (λ (j : Outcome Written). Reads j r vs' os') (ap (reading (names_of ns ar s) es) m.met ∙ kept-reading (names_of ns ar s) any es) h
