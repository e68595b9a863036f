-- What the code of words needs to know: a word by its kind, and the words of a line one after another.
use Prim.Native.Nat.{ℕ, ◌-◌, ◌*◌, ◌≤◌, ◌<◌}
use mathlib.Core.Path.{◌≡◌, refl, sym, ap, ap₂, subst, ◌∙◌}
use mathlib.Core.Bool.{Bool, true, false, ◌&&◌, cond}
use mathlib.Core.List.{List, [], ◌∷◌}
use native.Mathlib.Omega.{arith}
use borrow.Author.Tests.{le-leb, lt-leb}
use lib.Dec.{leb}
use lib.ListN.{length, drop, length-drop}
use Rattle.refusal.specs.declared.Refusal.{Refusal}
use Rattle.refusal.specs.declared.Refusal.TheVariants as F
use Rattle.refusal.specs.Outcome.{ok, refused, and_then}
use Rattle.label.specs.Limits.{equality, equality_arity, variable_count, minimum_count}
use Rattle.label.specs.declared.Atom.{Atom}
use Rattle.words.specs.declared.Key.{Key}
use Rattle.names.specs.Many.{many}
use Rattle.names.specs.Keys.{keys_at}
use Rattle.names.specs.KeyLaws.{length-keys}
use Rattle.names.specs.Layout.{constants_at, parameters_at}
use Rattle.events.specs.declared.Event.{Event}
use Rattle.events.specs.declared.Event.TheVariants as E
use Rattle.events.specs.declared.Next.{Next}
use Rattle.events.specs.Inner.{next_at}
use Rattle.events.specs.Front.{is_end, events_of}
use Rattle.events.specs.FrontLaws.{next-end, next_more, next-moves, events-short}
use Rattle.reading.specs.Operations.{Op}
use Rattle.reading.specs.Reading.{Environment, Met, State, more, begun, term_word, number_word, atom_word, constant_number, parameter_number}
use Rattle.reading.specs.Reading.{variable_number, minimum_number, arguments, met_at, word, with-pass, read_word, read_words, finished, begin, reading}
use Rattle.reader.specs.declared.Scope.{Scope}
use Rattle.reader.specs.declared.Known.{Known}
use Rattle.reader.specs.declared.Progress.{Progress}
use Rattle.reader.specs.OperationWords.{op_of, ops_in}
use Rattle.reader.specs.Callers.{part_words, met_in, argument_count, names_of, pass_of, state_of, judged_number, judged_pass, read_answer, judged_written}
use Rattle.reader.specs.Callers.{ReadWithin, Reads, Variables, Readable, Going, Room, Advanced, AdvancedBy, Resolves, MeetsWord, Goes, Steps}
use Rattle.reader.proofs.FillCode.{empty-unpacked, empty-packs, empty-unfilled}
use Rattle.std.specs.Prelude.{Result}
use Rattle.std.specs.Prelude.{Ok, Err}

-- a word by its kind

module _ (ns ar : List ℕ) (s : Scope) (vs : Met) (os : List ℕ) (p : Progress) (e : Event) where
  module _ {t : Result ℕ Refusal} {r : Result Progress Refusal} {os' : List ℕ} (g : Steps p (term_word (pass_of os p) (judged_number t)) r os') {k : Key} where
    pub word-name : e ≡ E.Name k → Resolves (constant_number (keys_at ns constants_at s.constants) k) t → Steps p (word (names_of ns ar s) vs (pass_of os p) e) r os'
    unfolding word
    word-name q h = rw (q, ← h.answer) g

    pub word-variable : e ≡ E.Variable k → Resolves (variable_number s.binding vs.variables k) t → Steps p (word (names_of ns ar s) vs (pass_of os p) e) r os'
    unfolding word
    word-variable q h = rw (q, ← h.answer) g

    pub word-parameter : e ≡ E.Parameter k → Resolves (parameter_number (keys_at ns parameters_at s.parameters) k) t → Steps p (word (names_of ns ar s) vs (pass_of os p) e) r os'
    unfolding word
    word-parameter q h = rw (q, ← h.answer) g

    pub word-minimum : e ≡ E.Minimum k → Resolves (minimum_number s.binding vs.minimums k) t → Steps p (word (names_of ns ar s) vs (pass_of os p) e) r os'
    unfolding word
    word-minimum q h = rw (q, ← h.answer) g

  module _ {os' : List ℕ} where
    pub word_number : {v : ℕ} {r : Result Progress Refusal} → e ≡ E.Number v → Steps p (number_word (pass_of os p) v) r os' → Steps p (word (names_of ns ar s) vs (pass_of os p) e) r os'
    unfolding word
    word_number q g = rw q g

    pub word-equal : {r : Progress} → e ≡ E.Equal → Goes p (begun (pass_of os p) equality equality_arity) r os' → Steps p (word (names_of ns ar s) vs (pass_of os p) e) (Ok r) os'
    unfolding word
    word-equal q g = rw q (record { answer = ap ok g.pass; advanced = g.advanced })

    pub word_holds : {k : Key} {n : ℕ} {r : Result Progress Refusal} → e ≡ E.Holds k n → Steps p (atom_word (names_of ns ar s) (pass_of os p) k n) r os'
        → Steps p (word (names_of ns ar s) vs (pass_of os p) e) r os'
    unfolding word
    word_holds q g = rw q g

    pub word-step : {r : Progress} → e ≡ E.Step → Goes p (more (pass_of os p) (op_of 3 0)) r os' → Steps p (word (names_of ns ar s) vs (pass_of os p) e) (Ok r) os'
    unfolding word
    word-step q g = rw q (record { answer = ap ok g.pass; advanced = g.advanced })

  pub word_end : e ≡ E.End → Room os p → Steps p (word (names_of ns ar s) vs (pass_of os p) e) (Ok p) os
  unfolding word
  word_end q g = rw q (record { answer = refl; advanced = record { going = g.going; one = omega arith } })

-- the answer after all words

module _ (n : Known) (m : ℕ) where
  pub finish-variables : variable_count < n.variables → Err F.Variables ≡ read_answer n m
  finish-variables h = rw (lt-leb n.variables variable_count h)

  pub finish-minimums : n.variables ≤ variable_count → minimum_count < n.minimums → Err F.Variables ≡ read_answer n m
  finish-minimums h l = rw (le-leb n.variables variable_count h, lt-leb n.minimums minimum_count l)

  pub finish-done : n.variables ≤ variable_count → n.minimums ≤ minimum_count → Ok (m, n) ≡ read_answer n m
  finish-done h l = rw (le-leb n.variables variable_count h, le-leb n.minimums minimum_count l)

answer-finished : (vs : List ℕ) (n : Known) (os : List ℕ) (p : Progress) → judged_written vs os (read_answer n p.operations) ≡ finished (state_of vs n os p)
answer-finished vs n os p =
    rw (length-keys vs 0 n.variables, length-keys vs part_words n.minimums) (go (leb n.variables variable_count && leb n.minimums minimum_count))
  where
    go : (b : Bool) → judged_written vs os (cond b (Ok (p.operations, n)) (Err F.Variables))
        ≡ cond b (ok (record { met = met_in vs n; operations = ops_in os p.operations })) (refused F.Variables)
    go true = refl
    go false = refl

answer-within : (os : List ℕ) (n : Known) (m : ℕ) → m * 2 ≤ length os → ReadWithin os (read_answer n m)
answer-within os n m h = go (leb n.variables variable_count && leb n.minimums minimum_count)
  where
    go : (b : Bool) → ReadWithin os (cond b (Ok (m, n)) (Err F.Variables))
    go true = h
    go false = tt

-- the words before the place are read, and those from it on give the answer
pub record Loop (line : List ℕ) (place₀ : ℕ) (ns ar vs₀ os₀ : List ℕ) (s : Scope) (known : Known) (vs os : List ℕ) (place : ℕ) (count : Known) (p : Progress) : Type 0 where
  pub within : place ≤ length line
  pub table : Variables vs count
  pub going : Going p
  pub bytes : p.operations ≤ place
  pub variable-words : length vs ≡ length vs₀
  pub operation-words : length os ≡ length os₀
  pub still : read_words (names_of ns ar s) (events_of (drop place₀ line)) (begin (met_in vs₀ known))
      ≡ read_words (names_of ns ar s) (events_of (drop place line)) (state_of vs count os p)

nothing : (os : List ℕ) → [] ≡ ops_in os 0
unfolding ops_in many
nothing os = refl

-- the event at a place, and those behind it

pub events-next : (line : List ℕ) (place : ℕ) (n : Next) → n ≡ next_at line place → is_end n.event ≡ false
    → events_of (drop place line) ≡ n.event ∷ events_of (drop n.place line)
events-next line place n q =
    subst (λ (x : Next). is_end x.event ≡ false → events_of (drop place line) ≡ x.event ∷ events_of (drop x.place line)) (sym q) (next_more line place)

pub events-none : (line : List ℕ) (place : ℕ) (n : Next) → n ≡ next_at line place → is_end n.event ≡ true → events_of (drop place line) ≡ []
events-none line place n q = subst (λ (x : Next). is_end x.event ≡ true → events_of (drop place line) ≡ []) (sym q) (next-end line place)

pub moves : (line : List ℕ) (place : ℕ) (n : Next) → n ≡ next_at line place → place ≤ length line → (n.place ≤ length line) × (is_end n.event ≡ false → place < n.place)
moves line place n q h =
    subst (λ (x : Next). (x.place ≤ length line) × (is_end x.event ≡ false → place < x.place)) (sym q) (next-moves line place h)

words-none : (σ : Environment) (es : List Event) (s : State) → es ≡ [] → read_words σ es s ≡ ok s
unfolding read_words
words-none σ es s e = rw e

words_more : (σ : Environment) (es fs : List Event) (e : Event) (s : State) → es ≡ e ∷ fs → read_words σ es s ≡ and_then (read_word σ s e) (read_words σ fs)
unfolding read_words
words_more σ es fs e s q = rw q

-- r answers for the words of the line
abbrev Answers : List ℕ → ℕ → List ℕ → List ℕ → List ℕ → Scope → Known → List ℕ → List ℕ → Result (ℕ × Known) Refusal → Type 0
Answers line place ns ar vs₀ s known vs os r = Reads (reading (names_of ns ar s) (events_of (drop place line)) (met_in vs₀ known)) r vs os

module _ {line : List ℕ} {place₀ : ℕ} {ns ar vs₀ os₀ : List ℕ} {s : Scope} {known : Known} where
  pub loop-start : Readable line place₀ ns ar vs₀ os₀ s known
      → Loop line place₀ ns ar vs₀ os₀ s known vs₀ os₀ place₀ known (record { label = record { packed = 0 }; filled = 0; due = 0; operations = 0 })
  loop-start g = record {
    within = g.within;
    table = g.variables;
    going = record { packable = empty-packs equality (omega arith); places = omega arith; unfilled = λ k h. empty-unfilled equality k };
    bytes = omega arith;
    variable-words = refl;
    operation-words = refl;
    still = ap₂ (λ (q : ℕ) (ops : List Op).
        read_words (names_of ns ar s) (events_of (drop place₀ line))
        (record { met = met_in vs₀ known; pass = record { predicate = q; terms = []; due = 0; operations = ops } }))
        (ap (λ (a : Atom). a.predicate) (sym (empty-unpacked equality))) (nothing os₀);
  }

  module _ {vs os : List ℕ} {place : ℕ} {count : Known} {p : Progress} (l : Loop line place₀ ns ar vs₀ os₀ s known vs os place count p) where
    finishes : Readable line place₀ ns ar vs₀ os₀ s known → events_of (drop place line) ≡ [] → Answers line place₀ ns ar vs₀ s known vs os (read_answer count p.operations)
    unfolding reading
    finishes g e = record {
      answer =
          answer-finished vs count os p
          ∙ ap (λ j. and_then j finished) (sym (l.still ∙ words-none (names_of ns ar s) (events_of (drop place line)) (state_of vs count os p) e));
      within = answer-within os count p.operations (omega (arith, l.bytes, l.within, l.operation-words, g.words));
    }

    -- the last byte passed
    pub loop-over : Readable line place₀ ns ar vs₀ os₀ s known → {r : Result (ℕ × Known) Refusal} → length line ≤ place → r ≡ read_answer count p.operations → Answers line place₀ ns ar vs₀ s known vs os r
    loop-over g h q = rw q (finishes g (events-short (drop place line) (omega (arith, length-drop place line))))

    module _ {n : Next} (q : n ≡ next_at line place) {b : Bool} (t : b ≡ is_end n.event) where
      -- the line's end
      pub loop-end : Readable line place₀ ns ar vs₀ os₀ s known → {r : Result (ℕ × Known) Refusal} → b ≡ true → r ≡ read_answer count p.operations → Answers line place₀ ns ar vs₀ s known vs os r
      loop-end g e a = rw a (finishes g (events-none line place n q (sym t ∙ e)))

      pub loop-room : Readable line place₀ ns ar vs₀ os₀ s known → place < length line → Room os p
      loop-room g h = record { going = l.going; room = omega (arith, l.bytes, l.operation-words, g.words) }

      module _ (f : b ≡ false) where
        pub loop-shrinks : length line - n.place < length line - place
        loop-shrinks = let m = moves line place n q l.within in omega (arith, m.0, m.1 (sym t ∙ f))

        module _ {vs' os' : List ℕ} {count' : Known} {x : Result Progress Refusal} (m : MeetsWord (met_at s.binding (met_in vs count) n.event) count' vs')
            (g : Steps p (word (names_of ns ar s) (met_in vs' count') (pass_of os p) n.event) x os') where
          stepped : read_words (names_of ns ar s) (events_of (drop place₀ line)) (begin (met_in vs₀ known))
              ≡ and_then (with-pass (met_in vs' count') (judged_pass os' x)) (read_words (names_of ns ar s) (events_of (drop n.place line)))
          stepped =
              let σ : Environment = names_of ns ar s in
              let fs : List Event = events_of (drop n.place line) in
              l.still
              ∙ words_more σ (events_of (drop place line)) fs n.event (state_of vs count os p) (events-next line place n q (sym t ∙ f))
              ∙ ap (λ ks. and_then (with-pass ks (word σ ks (pass_of os p) n.event)) (read_words σ fs)) (sym m.met)
              ∙ ap (λ j. and_then (with-pass (met_in vs' count') j) (read_words σ fs)) (sym g.answer)

          pub loop-refused : {z : Refusal} {r : Result (ℕ × Known) Refusal} → x ≡ Err z → r ≡ Err z → Answers line place₀ ns ar vs₀ s known vs' os' r
          unfolding reading
          loop-refused {z} e a = record {
            answer =
                ap (judged_written vs' os') a
                ∙ ap (λ j. and_then j finished)
                (sym (stepped ∙ ap (λ y. and_then (with-pass (met_in vs' count') (judged_pass os' y)) (read_words (names_of ns ar s) (events_of (drop n.place line)))) e));
            within = subst (ReadWithin os') (sym a) tt;
          }

          pub loop-more : {then : Progress} → x ≡ Ok then → length vs' ≡ length vs → length os' ≡ length os
              → Loop line place₀ ns ar vs₀ os₀ s known vs' os' n.place count' then
          loop-more {then} e y w =
              let k = moves line place n q l.within in
              let d : Advanced p then = subst (AdvancedBy p) e g.advanced in
              record {
                within = k.0;
                table = m.table;
                going = d.going;
                bytes = omega (arith, k.1 (sym t ∙ f), d.one, l.bytes);
                variable-words = y ∙ l.variable-words;
                operation-words = w ∙ l.operation-words;
                still = stepped ∙ ap (λ u. and_then (with-pass (met_in vs' count') (judged_pass os' u)) (read_words (names_of ns ar s) (events_of (drop n.place line)))) e;
              }

-- the arguments alone are known before the words

no_keys : (vs : List ℕ) (at : ℕ) → keys_at vs at 0 ≡ []
unfolding keys_at many
no_keys vs at = refl

pub words-read : (line : List ℕ) (place : ℕ) (ns ar vs : List ℕ) (s : Scope) (n : ℕ) {r : Result (ℕ × Known) Refusal} {vs' os' : List ℕ} → Answers line place ns ar vs s (argument_count n) vs' os' r
    → Reads (reading (names_of ns ar s) (events_of (drop place line)) (arguments (keys_at vs 0 n))) r vs' os'
words-read line place ns ar vs s n {r} {vs'} {os'} g =
    subst (λ (ms : List Key). Reads (reading (names_of ns ar s) (events_of (drop place line)) (record { variables = keys_at vs 0 n; minimums = ms })) r vs' os') (no_keys vs part_words) g
