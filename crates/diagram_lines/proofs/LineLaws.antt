-- Laws that the lines share: where a diagram stands on a line, what is lent to draw it, and the session behind a line that prints nothing.
use mathlib.Core.Path.{◌≡◌, refl, sym, ap, subst}
use mathlib.Core.Bool.{Bool, not}
use lib.Dec.{eqb}
use mathlib.Core.List.{List, [], ◌∷◌, ◌++◌}
use Prim.Native.Nat.{ℕ, ◌+◌, ◌*◌, ◌≤◌}
use native.Mathlib.Omega.{arith}
use lib.ListN.{length, replicate, length-append, length-replicate}
use Rattle.refusal.specs.declared.Refusal.{Refusal}
use Rattle.refusal.specs.Outcome.{Outcome, ok, refused}
use Rattle.text.specs.declared.Kind.{Kind}
use Rattle.text.specs.Line.{keyword, words_bytes}
use Rattle.events.specs.Events.{first_word}
use Rattle.names.specs.Many.{many}
use Rattle.names.specs.Keys.{keys_at}
use Rattle.reading.specs.declared.Binding.{Binding}
use Rattle.reader.specs.Callers.{kept_count, variable_words, argument_count, Tables, Variables}
use Rattle.answers.specs.declared.Answer.TheVariants.{Refused, Nothing}
use Rattle.session.specs.declared.Part.TheVariants.{Run}
use Rattle.session.specs.declared.Rule.TheVariants.{Misplaced}
use Rattle.session.specs.Session.{Session}
use Rattle.session.specs.Place.{rule_of}
use Rattle.session.specs.Replies.{quietly, done, words_of}
use Rattle.declare.specs.declared.Counts.{Counts}
use Rattle.declare.specs.Tables.{GoodVocabulary}
use Rattle.facts.specs.Inner.{FactIndex}
use Rattle.model.specs.declared.Head.{Head}
use Rattle.model_entry.specs.Building.{Building}
use Rattle.memory.specs.declared.Numbers.{Numbers}
use Rattle.memory.specs.Inner.{LineOf, Ready, Carried, Answers}
use Rattle.memory.specs.Memory.{Memory, memory_of, session_of, Stored}
use Rattle.memory.specs.QuietLaws.{quiet-refused, quiet-done, no_run}

-- ===== What is lent =====

pub line-short : {k : Kind} {s : List ℕ} → LineOf k s → length s ≤ 4095
line-short l = subst (λ (x : List ℕ). length x ≤ 4095) (sym l.bytes) l.good.2

-- its first word stands on the line
pub line-begins : {k : Kind} {s : List ℕ} {i : ℕ} → LineOf k s → i ≡ first_word k → i ≤ length s
line-begins {k} {s} l e =
    let w : List ℕ = words_bytes k l.words in
    omega (arith, e, ap length l.bytes, length-append (keyword k) (w ++ 41 ∷ []), length-append w (41 ∷ []))

-- the names of a session, the parameters of an action counted or not
pub tables-of : {names ar : List ℕ} {n : Counts} (m : ℕ) (b : Binding) → GoodVocabulary names ar n → m ≤ n.parameters
    → Tables names ar (record { constants = n.constants; predicates = n.predicates; parameters = m; binding = b })
tables-of m b g h = record {
  words = g.names.room;
  constants-fit = g.names.constants;
  predicates-fit = g.names.predicates;
  parameters-fit = omega (arith, g.names.parameters);
  arities-fit = g.arities;
}

pub no_keys : (s : List ℕ) (base : ℕ) → keys_at s base 0 ≡ []
unfolding keys_at many
no_keys s base = refl

pub fresh-variables : (m k : ℕ) → variable_words ≤ m → k ≤ kept_count → Variables (replicate m 0) (argument_count k)
fresh-variables m k h l = record { words = rw (length-replicate) h; variables-fit = l; minimums-fit = omega arith }

-- ===== The session behind a line that prints nothing =====

module _ {k : Kind} {s : List ℕ} (number : ℕ) {n : Numbers} {w : Memory} (q : Ready k s n w) {o : Outcome Session}
    (e : done (session_of n w) number k (words_of k s) ≡ quietly (session_of n w) number (λ τ. τ) o) where
  pub line_refused : {r : Refusal} → o ≡ refused r → Answers k s number n w (record { numbers = n; answer = Refused r number }) w
  line_refused f = quiet-refused (λ τ. τ) o e f q.stored q.indexed

  pub line-accepted : {m : Numbers} {v : Memory} {τ : Session} → o ≡ ok τ → session_of m v ≡ τ → Stored m v → FactIndex v.arities v.state m.live
      → Carried n w m v → Answers k s number n w (record { numbers = m; answer = Nothing }) v
  line-accepted f g b x c = quiet-done (λ τ. τ) o e f g b x c

-- the numbers with a reward or none, the counts c and the head h
abbrev pub numbers_with : Numbers → Bool → Counts → Head → Numbers
numbers_with n f c h = record {
  part = n.part;
  total = n.total;
  discount = n.discount;
  reward = f;
  counts = c;
  head = h;
  live = n.live;
  held = n.held;
}

-- a listing of k rows more: what the numbers and words are then
pub record ListingAdded (n : Numbers) (ar listings names' listings' table' : List ℕ) (f : Bool) (c : Counts) (h : Head) (k : ℕ) : Type 0 where
  pub vocabulary : GoodVocabulary names' ar c
  pub building : Building listings' table' h
  pub size : length listings' ≡ length listings
  pub words : h.words ≡ n.head.words + k * 3
  pub reward : f ≡ not (eqb h.reward_words 0)

pub added-stored : {k : Kind} {s names ar listings table state value names' listings' table' : List ℕ} {n : Numbers} {f : Bool} {c : Counts} {h : Head} {m : ℕ}
    → Ready k s n (memory_of names ar listings table state value) → rule_of k Run ≡ Misplaced → ListingAdded n ar listings names' listings' table' f c h m
    → Stored (numbers_with n f c h) (memory_of names' ar listings' table' state value)
added-stored q e g = record {
  vocabulary = g.vocabulary;
  building = g.building;
  listing-room = omega (arith, g.size, q.stored.listing-room);
  whole = omega (arith, g.words, q.stored.whole);
  reward = g.reward;
  live = q.stored.live;
  value_room = q.stored.value_room;
  value-rows = q.stored.value-rows;
  holding = λ r. absurd (no_run e q r);
}
