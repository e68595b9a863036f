-- Laws of (becomes (p ?a ..) DIAGRAM): the session behind it.
use mathlib.Core.Path.{◌≡◌, refl, sym, ap, subst, ◌∙◌}
use mathlib.Core.Bool.{Bool, true, false, not, cond}
use mathlib.Core.List.{List}
use Prim.Native.Nat.{ℕ, ◌+◌, ◌*◌, ◌/◌, ◌≤◌, ◌<◌}
use native.Mathlib.Omega.{arith}
use lib.ListN.{length, get_or}
use lib.Dec.{eqb, ltb}
use Rattle.refusal.specs.declared.Refusal.{Refusal}
use Rattle.refusal.specs.declared.Refusal.TheVariants.{Name, Truth, Space}
use Rattle.label.specs.Limits.{predicate_count}
use Rattle.diagram.specs.Diagram.{Diagram}
use Rattle.diagram.specs.Rows.{rows}
use Rattle.refusal.specs.Outcome.{Outcome, ok, refused, and_then}
use Rattle.regression.specs.Regression.{Truths}
use Rattle.regression.specs.RegressCall.{leaf_above}
use Rattle.text.specs.declared.Kind.TheVariants.{Becomes}
use Rattle.events.specs.declared.Event.{Event}
use Rattle.reading.specs.declared.Binding.TheVariants.{Only}
use Rattle.reading.specs.Reading.{Written, arguments, reading}
use Rattle.reading.specs.Head.{Head, head_number, head_arguments}
use Rattle.reading.specs.OutcomeLaws.{apart, ok-one}
use Rattle.reader.specs.Callers.{judged_predicate, PredicateWithin}
use Rattle.build.specs.Machine.{built}
use Rattle.answers.specs.declared.Answer.TheVariants as A
use Rattle.session.specs.Session.{Names, Session, with_actions}
use Rattle.session.specs.ModelLines.{most_model_rows, rows_with, names_for, is_some, truths_now, last_variant, with_truth_at, truth_read, with_truth, becomes_line}
use Rattle.session.specs.Replies.{done, quietly, words_of}
use Rattle.declare.specs.Tables.{names_of, GoodVocabulary}
use Rattle.facts.specs.Words.{live_of}
use Rattle.steps.specs.GivenLaws.{then-then, then_same}
use Rattle.planner.specs.Run.{held_in}
use Rattle.model.specs.declared.Head.{Head as ModelHead}
use Rattle.model.specs.Layout.{model_of}
use Rattle.model_entry.specs.Adding.{RowsRoom, TruthRoom, TruthAdded}
use Rattle.memory.specs.declared.Numbers.{Numbers}
use Rattle.memory.specs.Inner.{Ready}
use Rattle.memory.specs.Memory.{Memory, memory_of, session_of}
use Rattle.drawing.specs.Drawing.{drawn, Draws}
use Rattle.diagram_lines.specs.Lines.{roomed, lowered, truth_number, truth_of, TruthOpens, BecomesReady, BecomesSays}
use Rattle.diagram_lines.proofs.RoomLaws.{roomed-ok, Drew, draws-refused, draws-done, drew-diagram, drew-canonical, drew-some, drew-room}
use Rattle.diagram_lines.proofs.LineLaws.{line_refused, line-accepted, numbers_with, ListingAdded, added-stored}
use Rattle.std.specs.Prelude.{Err, Ok, Result}

-- ===== Read =====

-- the predicate and its truth diagram
abbrev told : ℕ → Diagram → Outcome (ℕ × Diagram)
told p d = ok (p, d)

-- 7, then 9
checked : (p r : ℕ) (o : Outcome Diagram)
    → and_then o (λ d. cond (leaf_above 1 d) (refused Truth) (cond (ltb most_model_rows (rows_with r d)) (refused Space) (told p d)))
    ≡ and_then (roomed false r (lowered o)) (told p)
checked p r (ok d) = go (leaf_above 1 d)
  where
    inner : (t : Bool) → cond t (refused Space) (told p d) ≡ and_then (cond t (refused Space) (ok d)) (told p)
    inner true = refl
    inner false = refl

    go : (b : Bool) → cond b (refused Truth) (cond (ltb most_model_rows (rows_with r d)) (refused Space) (told p d))
        ≡ and_then (roomed false r (cond b (refused Truth) (ok d))) (told p)
    go true = refl
    go false = inner (ltb most_model_rows (rows_with r d))
checked p r (refused w) = refl

module _ (n : Names) (ar : List ℕ) (truths : Truths) (r : ℕ) (es : List Event) where
  abbrev checks : ℕ → Diagram → Outcome (ℕ × Diagram)
  checks p d = cond (leaf_above 1 d) (refused Truth) (cond (ltb most_model_rows (rows_with r d)) (refused Space) (told p d))

  abbrev words : Head → Outcome Written
  words h = reading (names_for n ar Only n.parameters) h.rest (arguments h.variables)

  behind : (p : ℕ) → and_then (head_arguments (get_or ar p 0) es) (λ h. and_then (words h) (λ w. and_then (built w.operations) (checks p)))
      ≡ and_then (truth_of n ar p r es) (told p)
  unfolding truth_of drawn
  behind p =
      then_same (head_arguments (get_or ar p 0) es) (λ (h : Head). and_then (words h) (λ w. and_then (built w.operations) (checks p)))
      (λ (h : Head). and_then (roomed false r (lowered (and_then (words h) (λ w. built w.operations)))) (told p))
      (λ (h : Head). sym (then-then (words h) (λ (w : Written). built w.operations) (checks p)) ∙ checked p r (and_then (words h) (λ w. built w.operations)))
      ∙ sym (then-then (head_arguments (get_or ar p 0) es) (λ (h : Head). roomed false r (lowered (and_then (words h) (λ w. built w.operations)))) (told p))

  pick-then : (b : Bool) (p : ℕ) → cond b (refused Name) (and_then (truth_of n ar p r es) (told p))
      ≡ and_then (cond b (refused Name) (ok p)) (λ q. and_then (truth_of n ar q r es) (told q))
  pick-then true p = refl
  pick-then false p = refl

  truth-read : truth_read n ar truths r es ≡ and_then (truth_number n truths es) (λ p. and_then (truth_of n ar p r es) (told p))
  unfolding truth_read truth_number
  truth-read =
      then_same (head_number n.predicates es)
      (λ (p : ℕ). cond (is_some (truths p)) (refused Name)
      (and_then (head_arguments (get_or ar p 0) es) (λ h. and_then (words h) (λ w. and_then (built w.operations) (checks p)))))
      (λ (p : ℕ). and_then (cond (is_some (truths p)) (refused Name) (ok p)) (λ q. and_then (truth_of n ar q r es) (told q)))
      (λ (p : ℕ). ap (cond (is_some (truths p)) (refused Name)) (behind p) ∙ pick-then (is_some (truths p)) p)
      ∙ sym (then-then (head_number n.predicates es) (λ (p : ℕ). cond (is_some (truths p)) (refused Name) (ok p))
      (λ (p : ℕ). and_then (truth_of n ar p r es) (told p)))

truth-few : (n : Names) (ar : List ℕ) (p r : ℕ) (es : List Event) {d : Diagram} → truth_of n ar p r es ≡ ok d → r + length (rows d) ≤ most_model_rows
unfolding truth_of
truth-few n ar p r es {d} e = go (head_arguments (get_or ar p 0) es) e
  where
    go : (o : Outcome Head) → and_then o (λ h. roomed false r (lowered (drawn (names_for n ar Only n.parameters) h.rest h.variables))) ≡ ok d
        → r + length (rows d) ≤ most_model_rows
    go (ok h) f = (roomed-ok false r (lowered (drawn (names_for n ar Only n.parameters) h.rest h.variables)) d f).room
    go (refused w) f = absurd (apart f)

-- the predicate of an accepted head has no truth diagram yet
number-free : (n : Names) (truths : Truths) (es : List Event) {p : ℕ} → truth_number n truths es ≡ ok p → is_some (truths p) ≡ false
unfolding truth_number
number-free n truths es {p} e = go (head_number n.predicates es) e
  where
    here : (q : ℕ) (b : Bool) → is_some (truths q) ≡ b → cond b (refused Name) (ok q) ≡ ok p → is_some (truths p) ≡ false
    here q true f g = absurd (apart g)
    here q false f g = ap (λ (r : ℕ). is_some (truths r)) (sym (ok-one g)) ∙ f

    go : (o : Outcome ℕ) → and_then o (λ q. cond (is_some (truths q)) (refused Name) (ok q)) ≡ ok p → is_some (truths p) ≡ false
    go (ok q) f = here q (is_some (truths q)) refl f
    go (refused w) f = absurd (apart f)

-- ===== Answered =====

becomes-done : (s : List ℕ) (number : ℕ) (n : Numbers) (w : Memory)
    → done (session_of n w) number Becomes (words_of Becomes s)
    ≡ quietly (session_of n w) number (λ τ. τ)
    (and_then (truth_read (names_of w.names n.counts) w.arities (truths_now (model_of w.arities w.listings w.table n.head).actions) (n.head.words / 3) (words_of Becomes s))
    (λ t. ok (with_truth (session_of n w) t.0 t.1)))
unfolding done becomes_line session_of model_of
becomes-done s number n w = refl

module _ (s : List ℕ) (n : Numbers) (names ar listings table : List ℕ) where
  abbrev E : List Event
  E = words_of Becomes s

  abbrev N : Outcome ℕ
  N = truth_number (names_of names n.counts) (truths_now (model_of ar listings table n.head).actions) E

  abbrev O : ℕ → Outcome Diagram
  O p = truth_of (names_of names n.counts) ar p (n.head.words / 3) E

  module _ (number : ℕ) (state value : List ℕ) where
    abbrev Before : Memory
    Before = memory_of names ar listings table state value

    abbrev L : Outcome Session
    L = and_then (and_then N (λ p. and_then (O p) (told p))) (λ t. ok (with_truth (session_of n Before) t.0 t.1))

    line-is : done (session_of n Before) number Becomes E ≡ quietly (session_of n Before) number (λ τ. τ) L
    line-is =
        becomes-done s number n Before
        ∙ ap (λ (o : Outcome (ℕ × Diagram)). quietly (session_of n Before) number (λ τ. τ) (and_then o (λ t. ok (with_truth (session_of n Before) t.0 t.1))))
        (truth-read (names_of names n.counts) ar (truths_now (model_of ar listings table n.head).actions) (n.head.words / 3) E)

    stops : {w : Refusal} → N ≡ refused w → L ≡ refused w
    stops e =
        ap (λ (o : Outcome ℕ). and_then (and_then o (λ p. and_then (O p) (told p))) (λ t. ok (with_truth (session_of n Before) t.0 t.1))) e

    goes : {p : ℕ} → N ≡ ok p → L ≡ and_then (and_then (O p) (told p)) (λ t. ok (with_truth (session_of n Before) t.0 t.1))
    goes e =
        ap (λ (o : Outcome ℕ). and_then (and_then o (λ p. and_then (O p) (told p))) (λ t. ok (with_truth (session_of n Before) t.0 t.1))) e

    module _ {p : ℕ} (e : N ≡ ok p) where
      stops-behind : {w : Refusal} → O p ≡ refused w → L ≡ refused w
      stops-behind f =
          goes e ∙ ap (λ (o : Outcome Diagram). and_then (and_then o (told p)) (λ t. ok (with_truth (session_of n Before) t.0 t.1))) f

      adds : {d : Diagram} → O p ≡ ok d → L ≡ ok (with_truth (session_of n Before) p d)
      adds f = goes e ∙ ap (λ (o : Outcome Diagram). and_then (and_then o (told p)) (λ t. ok (with_truth (session_of n Before) t.0 t.1))) f

  module _ {t : Result ℕ Refusal} (x : TruthOpens n names table E t) where
    pub becomes-unopened : (number : ℕ) {w : Refusal} → t ≡ Err w
        → BecomesSays s number n names ar listings table (record { numbers = n; answer = A.Refused w number }) listings table
    becomes-unopened number e = record {
      says = λ state value q.
          line_refused number q (line-is number state value)
          (stops number state value (sym (x.answer ar listings) ∙ ap judged_predicate e));
    }

    module _ {p : ℕ} (e : t ≡ Ok p) where
      number_is : N ≡ ok p
      number_is = sym (x.answer ar listings) ∙ ap judged_predicate e

      truth-free : is_some (truths_now (model_of ar listings table n.head).actions p) ≡ false
      truth-free = number-free (names_of names n.counts) (truths_now (model_of ar listings table n.head).actions) E number_is

      pub becomes-declared : GoodVocabulary names ar n.counts → p < predicate_count
      becomes-declared g =
          let h : (0 < p) × (p ≤ n.counts.predicates) = subst (PredicateWithin n.counts.predicates) e x.within in
          omega (arith, h.1, g.names.predicates)

      module _ {out : List ℕ} {b : Result ℕ Refusal} (d : Draws ar (O p) b out) where
        pub becomes-refused : (number : ℕ) {w : Refusal} → b ≡ Err w
            → BecomesSays s number n names ar listings table (record { numbers = n; answer = A.Refused w number }) listings table
        becomes-refused number f = record {
          says = λ state value q. line_refused number q (line-is number state value) (stops-behind number state value number_is (draws-refused d f));
        }

        module _ {work : List ℕ} (y : BecomesReady s n names ar listings table work) {k : ℕ} (f : b ≡ Ok k) where
          abbrev D : Drew ar (O p) k out
          D = draws-done d f

          few : n.head.words / 3 + k ≤ most_model_rows
          few = omega (arith, D.count, truth-few (names_of names n.counts) ar p (n.head.words / 3) E D.is)

          pub becomes-room : RowsRoom listings n.head out k
          becomes-room = record { words = y.listed.room; result = drew-room D; room = omega (arith, few, y.listed.whole) }

          pub becomes-some : 0 < k
          becomes-some = drew-some D

          pub becomes-place : TruthRoom table n.head p
          becomes-place = record {
            spanned = y.opened.last.spanned;
            some = y.opened.last.some;
            has = omega (arith, y.opened.has, y.opened.last.variants);
            declared = becomes-declared y.lent.vocabulary;
          }

          module _ {listings' table' : List ℕ} {h : ModelHead} (a : TruthAdded listings table n.head p out k listings' table' h)
              (l : length listings' ≡ length listings) where
            words_are : h.words ≡ n.head.words + k * 3
            words_are = ap (λ (z : ModelHead). z.words) a.answer

            module _ (state value : List ℕ) (q : Ready Becomes s n (memory_of names ar listings table state value)) where
              abbrev After : Memory
              After = memory_of names ar listings' table' state value

              model_is : model_of ar listings' table' h
                  ≡ with_actions (model_of ar listings table n.head) (last_variant (model_of ar listings table n.head).actions (λ truths. with_truth_at truths p D.diagram))
              model_is =
                  a.model ar
                  ∙ ap (λ (z : Diagram). with_actions (model_of ar listings table n.head) (last_variant (model_of ar listings table n.head).actions (λ truths. with_truth_at truths p z)))
                  (drew-diagram D)

              rows_are : h.words / 3 ≡ n.head.words / 3 + length (rows D.diagram)
              rows_are = omega (arith, words_are, D.count)

              session-is : session_of (numbers_with n n.reward n.counts h) After ≡ with_truth (session_of n (memory_of names ar listings table state value)) p D.diagram
              unfolding session_of with_truth
              session-is = λ i. record {
                part = n.part;
                names = names_of names n.counts;
                singles = record { total = n.total; discount = n.discount; reward = n.reward };
                model = model_is i;
                rows = rows_are i;
                live = live_of state n.live;
                held = held_in n.held value;
              }

              grown : ListingAdded n ar listings names listings' table' n.reward n.counts h k
              grown = record {
                vocabulary = q.stored.vocabulary;
                building = a.building q.stored.building (drew-canonical D);
                size = l;
                words = words_are;
                reward = q.stored.reward ∙ ap (λ (g : ModelHead). not (eqb g.reward_words 0)) (sym a.answer);
              }

            pub becomes-accepted : (number : ℕ) → BecomesSays s number n names ar listings table (record { numbers = numbers_with n n.reward n.counts h; answer = A.Nothing }) listings' table'
            becomes-accepted number = record {
              says = λ state value q.
                  line-accepted number q (line-is number state value) (adds number state value number_is D.is) (session-is state value q) (added-stored q refl (grown state value q)) q.indexed
                  (record { starts = a.starts ar truth-free; idle = λ z. (z, refl) });
            }
