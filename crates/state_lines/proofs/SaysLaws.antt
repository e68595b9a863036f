-- What the functions of the state left, as the session behind the line and its answer.
use mathlib.Core.Path.{◌≡◌, refl, sym, ap, ap₂, subst, ◌∙◌}
use mathlib.Core.List.{List}
use Prim.Native.Nat.{ℕ}
use lib.ListN.{drop}
use Rattle.refusal.specs.declared.Refusal.{Refusal}
use Rattle.words.specs.declared.Key.{Key}
use Rattle.refusal.specs.Outcome.{Outcome}
use Rattle.text.specs.declared.Kind.{Kind}
use Rattle.text.specs.declared.Kind.TheVariants.{Objects, Is, True}
use Rattle.events.specs.declared.Next.{Next}
use Rattle.events.specs.Events.{first_word}
use Rattle.events.specs.Inner.{next_at}
use Rattle.events.specs.Front.{events_of}
use Rattle.events.specs.Contents.{key_in, number_in, word_at, numbers_in}
use Rattle.answers.specs.declared.Answer.TheVariants.{Refused as RefusedAs, Nothing}
use Rattle.session.specs.Session.{Live as SessionLive, with_live}
use Rattle.session.specs.Facts.{objects_line, is_line, true_line}
use Rattle.session.specs.Replies.{quietly, done, words_of}
use Rattle.declare.specs.Tables.{names_of}
use Rattle.facts.specs.declared.Live.{Live}
use Rattle.facts.specs.declared.Tuple.{Tuple}
use Rattle.facts.specs.Inner.{FactIndex, Lives, Living, Placing, TupleOf, Telling}
use Rattle.facts.specs.Words.{live_of}
use Rattle.memory.specs.declared.Numbers.{Numbers}
use Rattle.memory.specs.Inner.{Ready, Answers, with_state}
use Rattle.memory.specs.Memory.{memory_of, session_of}
use Rattle.memory.specs.StoredLaws.{stored-state}
use Rattle.memory.specs.WordLaws.{first-is, second_is, rest-is}
use Rattle.memory.specs.CarriedLaws.{carried_on}
use Rattle.memory.specs.QuietLaws.{quiet-refused, quiet-done}
use Rattle.state_lines.specs.Lines.{ObjectsSays, IsSays, TrueSays}
use Rattle.std.specs.Prelude.{Err, Ok, Result}

-- ===== Any line of the state =====

module _ {k : Kind} {s : List ℕ} {number : ℕ} {n : Numbers} {names ar ls tb st v : List ℕ} (o : Outcome SessionLive)
    (e : done (session_of n (memory_of names ar ls tb st v)) number k (words_of k s)
    ≡ quietly (session_of n (memory_of names ar ls tb st v)) number (with_live (session_of n (memory_of names ar ls tb st v))) o)
    (r : Ready k s n (memory_of names ar ls tb st v)) where
  lives-done : (st' : List ℕ) (l : Live) → Lives ar o st (Ok l) st'
      → Answers k s number n (memory_of names ar ls tb st v) (record { numbers = with_state n l; answer = Nothing }) (memory_of names ar ls tb st' v)
  unfolding session_of
  lives-done st' l h =
      quiet-done (with_live (session_of n (memory_of names ar ls tb st v))) o e h.0 refl (stored-state st' l r.stored h.1) h.2 (carried_on refl refl refl)

  lives-refused : {why : Refusal} {st' : List ℕ} → Lives ar o st (Err why) st'
      → Answers k s number n (memory_of names ar ls tb st v) (record { numbers = n; answer = RefusedAs why number }) (memory_of names ar ls tb st' v)
  lives-refused {why} h =
      subst (λ y. Answers k s number n (memory_of names ar ls tb st v) (record { numbers = n; answer = RefusedAs why number }) (memory_of names ar ls tb y v)) (sym h.1)
      (quiet-refused (with_live (session_of n (memory_of names ar ls tb st v))) o e h.0 r.stored r.indexed)

lives-as : {ar : List ℕ} {o o' : Outcome SessionLive} {st st' : List ℕ} {d r : Result Live Refusal} → Living ar o st d st' → o ≡ o' → d ≡ r → Lives ar o' st r st'
lives-as {ar} {o} {o'} {st} {st'} {d} {r} g p q = subst (λ y. Lives ar o' st y st') q (subst (λ y. Lives ar y st d st') p g.lives)

-- ===== (objects n) =====

module _ (s : List ℕ) {ar st st' : List ℕ} {i : ℕ} {x : Next} {c : ℕ} {d : Result Live Refusal}
    (p : i ≡ first_word Objects) (q : x ≡ next_at s i) (u : c ≡ number_in x.event) (g : Living ar (objects_line c) st d st') where
  objects-lives : {r : Result Live Refusal} → d ≡ r → Lives ar (objects_line (number_in (word_at (words_of Objects s) 0))) st r st'
  objects-lives e = lives-as g (ap objects_line (u ∙ ap number_in (first-is Objects s p q))) e

  pub objects-done : {number : ℕ} {n m : Numbers} {l : Live} → d ≡ Ok l → m ≡ with_state n l
      → ObjectsSays s number n ar st (record { numbers = m; answer = Nothing }) st'
  unfolding done
  objects-done {number} {n} {m} {l} e f =
      subst (λ y. ObjectsSays s number n ar st (record { numbers = y; answer = Nothing }) st') (sym f)
      (record {
        says = λ names ls tb v r. lives-done (objects_line (number_in (word_at (words_of Objects s) 0))) refl r st' l (objects-lives e);
      })

  pub objects-refused : {number : ℕ} {n : Numbers} {why : Refusal} → d ≡ Err why
      → ObjectsSays s number n ar st (record { numbers = n; answer = RefusedAs why number }) st'
  unfolding done
  objects-refused e = record {
    says = λ names ls tb v r. lives-refused (objects_line (number_in (word_at (words_of Objects s) 0))) refl r (objects-lives e);
  }

-- ===== (is c o) =====

module _ (s : List ℕ) (n : Numbers) (names : List ℕ) {st st' : List ℕ} {i : ℕ} {x y : Next} {k : Key} {a : ℕ} {d : Result Live Refusal}
    (p : i ≡ first_word Is) (q : x ≡ next_at s i) (u : k ≡ key_in x.event) (w : y ≡ next_at s x.place) (z : a ≡ number_in y.event)
    (g : Placing (is_line (names_of names n.counts) (live_of st n.live) k a) st n.live d st') where
  abbrev placing : Outcome SessionLive
  placing = is_line (names_of names n.counts) (live_of st n.live) (key_in (word_at (words_of Is s) 0)) (number_in (word_at (words_of Is s) 1))

  is-lives : {ar : List ℕ} {r : Result Live Refusal} → FactIndex ar st n.live → d ≡ r → Lives ar placing st r st'
  is-lives {ar} h e =
      lives-as (g.living ar h)
      (ap₂ (is_line (names_of names n.counts) (live_of st n.live)) (u ∙ ap key_in (first-is Is s p q)) (z ∙ ap number_in (second_is Is s p q w))) e

  pub is-done : {number : ℕ} {m : Numbers} {l : Live} → d ≡ Ok l → m ≡ with_state n l
      → IsSays s number n names st (record { numbers = m; answer = Nothing }) st'
  unfolding done session_of
  is-done {number} {m} {l} e f =
      subst (λ h. IsSays s number n names st (record { numbers = h; answer = Nothing }) st') (sym f)
      (record { says = λ ar ls tb v r. lives-done placing refl r st' l (is-lives r.indexed e) })

  pub is-refused : {number : ℕ} {why : Refusal} → d ≡ Err why
      → IsSays s number n names st (record { numbers = n; answer = RefusedAs why number }) st'
  unfolding done session_of
  is-refused e = record { says = λ ar ls tb v r. lives-refused placing refl r (is-lives r.indexed e) }

-- ===== (true p o ..) =====

module _ (s : List ℕ) (n : Numbers) (names ar : List ℕ) {st st' : List ℕ} {i : ℕ} {x : Next} {k : Key} {o : Tuple} {row : List ℕ} {d : Result Live Refusal}
    (p : i ≡ first_word True) (q : x ≡ next_at s i) (u : k ≡ key_in x.event) (w : TupleOf n.live.objects (numbers_in (events_of (drop x.place s))) o row)
    (g : Telling ar names n.counts st n.live k o row d st') where
  abbrev telling : Outcome SessionLive
  telling = true_line ar (names_of names n.counts) (live_of st n.live) (key_in (word_at (words_of True s) 0)) (numbers_in (drop 1 (words_of True s)))

  true-lives : {r : Result Live Refusal} → d ≡ r → Lives ar telling st r st'
  true-lives e =
      lives-as (g.told (numbers_in (events_of (drop x.place s))) w)
      (ap₂ (λ h es. true_line ar (names_of names n.counts) (live_of st n.live) h (numbers_in es)) (u ∙ ap key_in (first-is True s p q)) (rest-is True s p q)) e

  pub true-done : {number : ℕ} {m : Numbers} {l : Live} → d ≡ Ok l → m ≡ with_state n l
      → TrueSays s number n names ar st (record { numbers = m; answer = Nothing }) st'
  unfolding done session_of
  true-done {number} {m} {l} e f =
      subst (λ h. TrueSays s number n names ar st (record { numbers = h; answer = Nothing }) st') (sym f)
      (record { says = λ ls tb v r. lives-done telling refl r st' l (true-lives e) })

  pub true-refused : {number : ℕ} {why : Refusal} → d ≡ Err why
      → TrueSays s number n names ar st (record { numbers = n; answer = RefusedAs why number }) st'
  unfolding done session_of
  true-refused e = record { says = λ ls tb v r. lives-refused telling refl r (true-lives e) }
