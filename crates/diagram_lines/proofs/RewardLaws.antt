-- Laws of (reward DIAGRAM).
use mathlib.Core.Path.{◌≡◌, refl, sym, ap, subst, ◌∙◌}
use mathlib.Core.Bool.{true, false, not}
use borrow.Author.Tests.{ne_eqb}
use mathlib.Core.List.{List, []}
use Prim.Native.Nat.{ℕ, ◌+◌, ◌*◌, ◌/◌, ◌≤◌}
use native.Mathlib.Omega.{arith}
use lib.ListN.{length, drop, replicate}
use Rattle.refusal.specs.declared.Refusal.{Refusal}
use Rattle.diagram.specs.Sizes.{result_words}
use Rattle.diagram.specs.Diagram.{Diagram}
use Rattle.diagram.specs.Rows.{rows}
use Rattle.refusal.specs.Outcome.{Outcome, ok, and_then}
use Rattle.words.specs.declared.Key.{Key}
use Rattle.text.specs.declared.Kind.TheVariants.{Reward}
use Rattle.events.specs.declared.Event.{Event}
use Rattle.events.specs.Events.{first_word}
use Rattle.events.specs.Front.{events_of}
use Rattle.events.specs.LineEvents.{line-events}
use Rattle.names.specs.Keys.{keys_at}
use Rattle.names.specs.Layout.{parameters_at}
use Rattle.reading.specs.declared.Binding.TheVariants.{Any}
use Rattle.reading.specs.Reading.{Written}
use Rattle.reading.specs.Numbering.{reward_reading}
use Rattle.reader.specs.declared.Scope.{Scope}
use Rattle.reader.specs.Callers.{variable_words, names_of as table_names}
use Rattle.build.specs.Machine.{built_closed}
use Rattle.answers.specs.declared.Answer.TheVariants as A
use Rattle.session.specs.Session.{Names, rewarded}
use Rattle.session.specs.ModelLines.{most_model_rows, names_for, reward_read, with_reward, reward_line}
use Rattle.session.specs.Replies.{done, quietly, words_of}
use Rattle.declare.specs.Tables.{names_of}
use Rattle.facts.specs.Words.{live_of}
use Rattle.steps.specs.GivenLaws.{then-then}
use Rattle.planner.specs.Run.{held_in}
use Rattle.model.specs.declared.Head.{Head}
use Rattle.model.specs.Layout.{model_of}
use Rattle.model_entry.specs.Adding.{RowsRoom, RewardAdded}
use Rattle.memory.specs.declared.Numbers.{Numbers}
use Rattle.memory.specs.Inner.{Ready}
use Rattle.memory.specs.Memory.{Memory, memory_of, session_of}
use Rattle.drawing.specs.Drawing.{drawn_closed, DiagramAt, Drawable, Draws}
use Rattle.diagram_lines.specs.Lines.{roomed, roomed_as, Lent, RewardReady, RewardSays}
use Rattle.diagram_lines.specs.ReadyLaws.{no-reward}
use Rattle.diagram_lines.proofs.RoomLaws.{roomed-ok, draws-room, Drew, draws-refused, draws-done, drew-diagram, drew-canonical, drew-some, drew-room}
use Rattle.diagram_lines.proofs.LineLaws.{line-short, line-begins, tables-of, no_keys, fresh-variables, line_refused, line-accepted, numbers_with, ListingAdded, added-stored}
use Rattle.std.specs.Prelude.{Err, Ok, Result}

-- ===== Read =====

reward-drawn : (n : Names) (ar : List ℕ) (r : ℕ) (es : List Event) → reward_read n ar r es ≡ roomed false r (drawn_closed (names_for n ar Any []) es)
unfolding reward_read drawn_closed
reward-drawn n ar r es =
    sym (then-then (reward_reading (names_for n ar Any []) es) (λ (w : Written). built_closed ar w.operations) (λ (d : Diagram). roomed false r (ok d)))

-- the counts of names on the line: a reward has no parameters
abbrev pub reward_scope : Numbers → Scope
reward_scope n = record { constants = n.counts.constants; predicates = n.counts.predicates; parameters = 0; binding = Any }

module _ {s : List ℕ} {n : Numbers} {names ar work : List ℕ} (x : Lent Reward s n names ar work) where
  reward-there : DiagramAt s (first_word Reward)
  reward-there = record {
    diagram = x.line.words;
    events = ap (λ (z : List ℕ). events_of (drop (first_word Reward) z)) x.line.bytes ∙ line-events Reward x.line.words x.line.good.0;
    shallow = omega (arith, x.line.good.1);
  }

  pub reward-drawable : {out : List ℕ} {at : ℕ} (m : ℕ) → variable_words ≤ m → at ≡ first_word Reward → result_words ≤ length out
      → Drawable s at names ar (reward_scope n) (replicate m 0) 0 out work
  reward-drawable m h e l = record {
    short = line-short x.line;
    within = line-begins x.line e;
    there = subst (DiagramAt s) (sym e) reward-there;
    tables = tables-of 0 Any x.vocabulary (omega arith);
    variables = fresh-variables m 0 h (omega arith);
    out-room = l;
    work-room = x.work-room;
  }

  -- `read_reward`
  pub reward-reads : {out : List ℕ} {at : ℕ} {b r : Result ℕ Refusal} → at ≡ first_word Reward
      → Draws ar (drawn_closed (table_names names ar (reward_scope n)) (events_of (drop at s))) b out → r ≡ roomed_as false (n.head.words / 3) b
      → Draws ar (reward_read (names_of names n.counts) ar (n.head.words / 3) (words_of Reward s)) r out
  unfolding names_of
  reward-reads {out} {at} {b} {r} f d e =
      let q : ℕ → List Key → Outcome Diagram = λ i ps. drawn_closed (names_for (names_of names n.counts) ar Any ps) (events_of (drop i s)) in
      let y : q at (keys_at names parameters_at 0) ≡ q (first_word Reward) []
      = ap (λ (i : ℕ). q i (keys_at names parameters_at 0)) f ∙ ap (q (first_word Reward)) (no_keys names parameters_at) in
      subst (λ (o : Outcome Diagram). Draws ar o r out) (sym (reward-drawn (names_of names n.counts) ar (n.head.words / 3) (words_of Reward s)))
      (draws-room false (n.head.words / 3) (subst (λ (o : Outcome Diagram). Draws ar o b out) y d) e)

-- ===== Answered =====

reward-done : (s : List ℕ) (number : ℕ) (n : Numbers) (w : Memory)
    → done (session_of n w) number Reward (words_of Reward s)
    ≡ quietly (session_of n w) number (λ τ. τ)
    (and_then (reward_read (names_of w.names n.counts) w.arities (n.head.words / 3) (words_of Reward s)) (λ e. ok (with_reward (session_of n w) e)))
unfolding done reward_line session_of model_of
reward-done s number n w = refl

module _ (s : List ℕ) (n : Numbers) (names ar listings : List ℕ) where
  abbrev O : Outcome Diagram
  O = reward_read (names_of names n.counts) ar (n.head.words / 3) (words_of Reward s)

  module _ {out : List ℕ} {b : Result ℕ Refusal} (d : Draws ar O b out) where
    pub reward-refused : (number : ℕ) {r : Refusal} → b ≡ Err r → RewardSays s number n names ar listings (record { numbers = n; answer = A.Refused r number }) listings
    reward-refused number e = record {
      says = λ table state value q.
          let w : Memory = memory_of names ar listings table state value in
          line_refused number q (reward-done s number n w) (ap (λ (o : Outcome Diagram). and_then o (λ y. ok (with_reward (session_of n w) y))) (draws-refused d e));
    }

    module _ {work : List ℕ} (x : RewardReady s n names ar listings work) {k : ℕ} (e : b ≡ Ok k) where
      abbrev D : Drew ar O k out
      D = draws-done d e

      few : n.head.words / 3 + k ≤ most_model_rows
      few =
          omega (
            arith,
            D.count,
            (roomed-ok false (n.head.words / 3) (drawn_closed (names_for (names_of names n.counts) ar Any []) (words_of Reward s)) D.diagram
                (sym (reward-drawn (names_of names n.counts) ar (n.head.words / 3) (words_of Reward s)) ∙ D.is)).room,
          )

      pub reward-room : RowsRoom listings n.head out k
      reward-room = record { words = x.listed.room; result = drew-room D; room = omega (arith, few, x.listed.whole) }

      module _ {listings' : List ℕ} {h : Head} (a : RewardAdded listings n.head out k listings' h) (l : length listings' ≡ length listings) where
        words_are : h.words ≡ n.head.words + k * 3
        words_are = ap (λ (y : Head). y.words) a.answer

        module _ (table state value : List ℕ) (q : Ready Reward s n (memory_of names ar listings table state value)) where
          abbrev Before : Memory
          Before = memory_of names ar listings table state value

          abbrev After : Memory
          After = memory_of names ar listings' table state value

          model_is : model_of ar listings' table h ≡ rewarded (model_of ar listings table n.head) D.diagram
          model_is = a.model ar table q.stored.building.spanned ∙ ap (rewarded (model_of ar listings table n.head)) (drew-diagram D)

          rows_are : h.words / 3 ≡ n.head.words / 3 + length (rows D.diagram)
          rows_are = omega (arith, words_are, D.count)

          session-is : session_of (numbers_with n true n.counts h) After ≡ with_reward (session_of n Before) D.diagram
          unfolding session_of with_reward
          session-is = λ i. record {
            part = n.part;
            names = names_of names n.counts;
            singles = record { total = n.total; discount = n.discount; reward = true };
            model = model_is i;
            rows = rows_are i;
            live = live_of state n.live;
            held = held_in n.held value;
          }

          grown : ListingAdded n ar listings names listings' table true n.counts h k
          grown = record {
            vocabulary = q.stored.vocabulary;
            building = a.building table q.stored.building (drew-canonical D);
            size = l;
            words = words_are;
            reward = sym (ap not (ne_eqb h.reward_words 0 (λ z. omega (arith, z, ap (λ (g : Head). g.reward_words) a.answer, drew-some D))));
          }

        pub reward-accepted : (number : ℕ) → RewardSays s number n names ar listings (record { numbers = numbers_with n true n.counts h; answer = A.Nothing }) listings'
        reward-accepted number = record {
          says = λ table state value q.
              let w : Memory = memory_of names ar listings table state value in
              line-accepted number q (reward-done s number n w) (ap (λ (o : Outcome Diagram). and_then o (λ y. ok (with_reward (session_of n w) y))) D.is)
              (session-is table state value q) (added-stored q refl (grown table state value q)) q.indexed
              (record { starts = a.starts table (no-reward q) (drew-some D); idle = λ y. (y, refl) });
        }
