-- What each function needs, from what a dispatch over all kinds of lines has.
use Rattle.std.specs.Prelude.{◌≡◌, refl, Bool, true, false, List, [], ◌∷◌, ◌++◌, ℕ, ◌*◌, ◌≤◌, length, drop}
use Rattle.std.proofs.Common.{sym, ap, ◌∙◌, arith, length-append}
use Rattle.std.proofs.lemmas.List.{length-map}
use Rattle.forms.specs.Tree.{many_bytes}
use Rattle.text.specs.declared.Kind.TheVariants.{Constant, Predicate, Total, Discount, Action}
use Rattle.text.specs.Line.{parameter_bytes}
use Rattle.events.specs.Events.{first_word, parameter_event, words_events}
use Rattle.events.specs.Inner.{next_at}
use Rattle.events.specs.Front.{is_end, events_of}
use Rattle.events.specs.FrontLaws.{next-end, next_more}
use Rattle.events.specs.LineEvents.{line-events}
use Rattle.names.specs.Layout.{actions_at}
use Rattle.names.specs.KeyLaws.{length-keys}
use Rattle.declare.specs.Tables.{names_of}
use Rattle.names.specs.ManyLaws.{length-many}
use Rattle.model.specs.Layout.{action_at, model_of}
use Rattle.memory.specs.declared.Numbers.{Numbers}
use Rattle.memory.specs.Inner.{LineOf, Ready}
use Rattle.memory.specs.Memory.{memory_of, session_of, work_words}
use Rattle.memory.specs.WordLaws.{line-begins, line-ends}
use Rattle.declaration_lines.specs.Lines.{ForConstant, ForPredicate, ForAction}

-- each parameter takes two bytes at least
parameters-long : (ps : List (List ℕ)) → length ps * 2 ≤ length (many_bytes parameter_bytes ps)
parameters-long [] = omega arith
parameters-long (p ∷ ps) = omega (arith, parameters-long ps, length-append p (many_bytes parameter_bytes ps))

-- so the words behind an action's name are at most half as many as the line's bytes
parameters-few : {s : List ℕ} → LineOf Action s → length (events_of (drop (next_at s (first_word Action)).place s)) * 2 ≤ length s
parameters-few {s} l =
    let w = l.words in
    let first = next_at s (first_word Action) in
    let tail = many_bytes parameter_bytes w.1 in
    omega (arith, go (is_end first.event) refl, parameters-long w.1, ap length l.bytes, length-append w.0 tail, length-append (w.0 ++ tail) (41 ∷ []))
  where
    all : events_of (drop (first_word Action) s) ≡ words_events Action l.words
    all = ap (λ (t : List ℕ). events_of (drop (first_word Action) t)) l.bytes ∙ line-events Action l.words l.good.0

    go : (b : Bool) → is_end (next_at s (first_word Action)).event ≡ b → length (events_of (drop (next_at s (first_word Action)).place s)) ≡ length l.words.1
    go true e = absurd (omega (arith, ap length (sym all ∙ next-end s (first_word Action) e)))
    go false e = omega (arith, ap length (sym (next_more s (first_word Action) e) ∙ all), length-map l.words.1 parameter_event)

module _ {s : List ℕ} {n : Numbers} {names arities listings table state value : List ℕ} where
  pub for-constant : Ready Constant s n (memory_of names arities listings table state value) → ForConstant s n names
  for-constant r = record { begins = line-begins r.line; good = r.stored.vocabulary.names }

  pub for-predicate : Ready Predicate s n (memory_of names arities listings table state value) → ForPredicate s n names arities
  for-predicate r = record { begins = line-begins r.line; good = r.stored.vocabulary }

  pub for-total : Ready Total s n (memory_of names arities listings table state value) → first_word Total ≤ length s
  for-total r = line-begins r.line

  pub for-discount : Ready Discount s n (memory_of names arities listings table state value) → first_word Discount ≤ length s
  for-discount r = line-begins r.line

module _ {s : List ℕ} {n : Numbers} {names arities listings table state value : List ℕ}
    (r : Ready Action s n (memory_of names arities listings table state value)) where
  actions-agree : n.head.actions ≡ n.counts.actions
  unfolding session_of names_of model_of
  actions-agree =
      omega (arith, r.good.agreeing.count, length-keys names actions_at n.counts.actions, length-many (action_at listings table) n.head.actions)

  pub for-action : {work : List ℕ} → work_words ≤ length work → ForAction s n names table work
  for-action h = record {
    begins = line-begins r.line;
    keys = omega (arith, parameters-few r.line, line-ends r.line, h);
    good = r.stored.vocabulary.names;
    spanned = r.stored.building.spanned;
    agreeing = actions-agree;
  }
