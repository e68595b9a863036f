-- Laws of the program's end: what is written last, and that all answers of the text are written then.
use mathlib.Core.Path.{◌≡◌, refl, sym, ap, subst, ◌∙◌}
use mathlib.Core.Bool.{Bool, true, false, cond, not, true≢false}
use mathlib.Core.List.{List, [], ◌∷◌, ◌++◌, append-nil}
use Prim.Native.Nat.{ℕ, suc, ◌+◌, ◌<◌, ◌≤◌}
use native.Mathlib.Omega.{arith}
use borrow.Author.Tests.{le-leb, not-true, not-false, ltb-false}
use lib.ListN.{length, take, replicate, length-append, length-replicate}
use lib.Seq.{length-take-le, take_all}
use Rattle.refusal.specs.declared.Refusal.TheVariants.{Form, Place}
use Rattle.answers.specs.declared.Answer.TheVariants.{Refused}
use Rattle.answers.specs.Answers.{answer_line, answer_bytes}
use Rattle.answers.specs.Inner.{line_bytes}
use Rattle.answers.specs.Writing.{most_bytes}
use Rattle.answers.specs.AnswerLaws.{line-short}
use Rattle.session.specs.declared.Part.{Part}
use Rattle.session.specs.Texts.{Progress, reply_bytes, after_rest, unfinished, closing, text_answers}
use Rattle.memory.specs.Memory.{Memory, memory_of}
use Rattle.pipes.specs.declared.Flow.{Flow}
use Rattle.pipes.specs.declared.Flow.TheVariants.{Open, Ended, Unread, Unwritten, TooLong}
use Rattle.pipes.specs.declared.Tally.{Tally}
use Rattle.pipes.specs.Tally.{is_open, is_ended, is_unread, written, Writes}
use Rattle.texts.specs.declared.Position.{Position}
use Rattle.texts.specs.declared.Rest.{Rest}
use Rattle.texts.specs.declared.Ran.{Ran}
use Rattle.texts.specs.declared.Ran.TheVariants.{Done, Full}
use Rattle.texts.specs.Ends.{line_length}
use Rattle.texts.specs.LineLaws.{line-within}
use Rattle.texts.specs.Running.{Filled, all_bytes, fill_closing, fill_rest, Fills}
use Rattle.texts.specs.Inner.{progress_of}
use Rattle.texts.specs.Sending.{most_lines}
use Rattle.texts.specs.Streaming.{line_room, Stream, fresh, on_bytes, stream_start, on_end}
use Rattle.texts.specs.StreamLaws.{on_line, stream-whole, end-apart}
use Rattle.yindolve.specs.Program.{Finishes, Ends}
use Rattle.yindolve.proofs.EndLaws.{Run}

clash : {A : Type 0} {b : Bool} → b ≡ true → b ≡ false → A
clash p q = absurd (true≢false (sym p ∙ q))

differ : {A : Type 0} → ◌≡◌ {A = ℕ} 0 1 → A
differ e = absurd (omega arith)

take_none : (s : List ℕ) → take 0 s ≡ []
take_none [] = refl
take_none (b ∷ s) = refl

-- ===== The answers of the end are short =====

closing-short : (part : Part) (met : Bool) → length (closing part met) ≤ line_bytes
unfolding closing
closing-short part met = go (unfinished part met)
  where
    go : (u : Bool) → length (cond u (answer_line (Refused Place 0)) []) ≤ line_bytes
    go true = line-short (Refused Place 0) (omega arith)
    go false = omega arith

module _ (p : Position) (out : List ℕ) (none : p.end ≡ 0) (few : p.lines < most_lines) where
  rest-short : (w : Memory) (s : List ℕ) → length (after_rest (progress_of p w out) s).bytes ≤ line_bytes
  unfolding after_rest progress_of reply_bytes answer_bytes
  rest-short w [] = omega (arith, ap (λ (i : ℕ). length (take i out)) none, ap length (take_none out))
  rest-short w (b ∷ s) =
      omega (
        arith,
        length-append (take p.end out) (answer_line (Refused Form (suc p.lines))),
        ap (λ (i : ℕ). length (take i out)) none,
        ap length (take_none out),
        line-short (Refused Form (suc p.lines)) (omega arith),
      )

  all_short : (w : Memory) (s : List ℕ) → length (all_bytes (after_rest (progress_of p w out) s)) ≤ line_bytes + line_bytes
  all_short w s =
      let q : Progress = after_rest (progress_of p w out) s in
      omega (arith, length-append q.bytes (closing q.session.part q.met), rest-short w s, closing-short q.session.part q.met)

  module _ (room : most_bytes ≤ length out) where
    end_is : (w : Memory) (s : List ℕ) → fill_rest (length out) (progress_of p w out) s
        ≡ record { bytes = all_bytes (after_rest (progress_of p w out) s); answer = Done (length (all_bytes (after_rest (progress_of p w out) s))) }
    unfolding fill_rest fill_closing
    end_is w s =
        rw (
          le-leb (length (after_rest (progress_of p w out) s).bytes) (length out) (omega (arith, rest-short w s)),
          le-leb (length (all_bytes (after_rest (progress_of p w out) s))) (length out) (omega (arith, all_short w s)),
        )

    module _ {count : ℕ} {r : Ran} {out' : List ℕ} (x : (w : Memory) (s : List ℕ) → length s ≡ count → Fills (fill_rest (length out) (progress_of p w out) s) out r out') where
      done : (w : Memory) (s : List ℕ) → length s ≡ count → r ≡ Done (length (all_bytes (after_rest (progress_of p w out) s)))
      done w s l = (x w s l).answer ∙ ap (λ (f : Filled). f.answer) (end_is w s)

      any : Memory
      any = memory_of [] [] [] [] [] []

      pub never-full : {A : Type 0} {m n : ℕ} → r ≡ Full m n → A
      never-full e = let d = sym e ∙ done any (replicate count 0) (length-replicate count 0) in differ (cc)

      pub done-room : {n : ℕ} → r ≡ Done n → length out' ≡ length out → n ≤ length out'
      done-room {n} e k =
          let d = sym e ∙ done any (replicate count 0) (length-replicate count 0) in
          let m : n ≡ length (all_bytes (after_rest (progress_of p any out) (replicate count 0))) = cc in
          omega (arith, all_short any (replicate count 0))

      pub done-taken : {n : ℕ} → r ≡ Done n → length out' ≡ length out → length (take n out') ≡ n
      done-taken {n} e k = length-take-le n out' (done-room e k)

      pub finish-done : {t : Tally} {n : ℕ} {u : Tally} → t.flow ≡ Ended → r ≡ Done n → length out' ≡ length out → Writes t (length (take n out')) u → Finishes t count p out u
      finish-done {t} {n} {u} f e k v = record {
        ended = λ g w s l.
            let d = sym e ∙ done w s l in
            let m : n ≡ length (all_bytes (after_rest (progress_of p w out) s)) = cc in
            subst (λ (i : ℕ). Writes t i u) (done-taken e k ∙ m) v;
        other = λ h. absurd (h f);
      }

pub finish-other : (t : Tally) (count : ℕ) (p : Position) (out : List ℕ) → (t.flow ≡ Ended → ⊥) → Finishes t count p out t
finish-other t count p out h = record { ended = λ e. absurd (h e); other = λ o. refl }

pub unread-not : (t : Tally) {b : Bool} → b ≡ is_unread t.flow → b ≡ true → t.flow ≡ Ended → ⊥
unread-not t q e f = clash e (q ∙ ap is_unread f)

pub ended-not : (t : Tally) {b : Bool} → b ≡ is_ended t.flow → not b ≡ true → t.flow ≡ Ended → ⊥
ended-not t {b} q e f = clash (q ∙ ap is_ended f) (not-true b e)

pub ended_is : (t : Tally) {b : Bool} → b ≡ is_ended t.flow → not b ≡ false → t.flow ≡ Ended
ended_is t {b} q e = go t.flow (sym q ∙ not-false b e)
  where
    go : (f : Flow) → is_ended f ≡ true → f ≡ Ended
    go Open i = clash i refl
    go Ended i = refl
    go Unread i = clash i refl
    go Unwritten i = clash i refl
    go TooLong i = clash i refl

-- ===== The end of a run =====

pub run-few : {t : Tally} {open? : Bool} {p : Position} {rest : Rest} {w : Memory} {block out : List ℕ} → Run t open? p rest w block out → p.lines < most_lines
run-few x = omega (arith, x.hand.lines, x.counts)

module _ {t : Tally} {open? : Bool} {p : Position} {rest : Rest} {w : Memory} {block out : List ℕ} (x : Run t open? p rest w block out) where
  none-bytes : (progress_of p w out).bytes ≡ []
  unfolding progress_of
  none-bytes = ap (λ (i : ℕ). take i out) x.hand.none ∙ take_none out

  -- the bytes in hand have begun a line
  begun : rest.whole ≡ false → on_bytes (fresh (progress_of p w out)) (take rest.count block) ≡ record { progress = progress_of p w out; partial = take rest.count block }
  begun c =
      let s : List ℕ = take rest.count block in
      let q = sym x.whole ∙ c in
      let l : length s ≡ rest.count = length-take-le rest.count block x.inside in
      on_line (progress_of p w out) [] s (omega arith) (omega (arith, ltb-false (line_length s) (length s) q, line-within s))
      ∙ ap (λ (z : List ℕ). record { progress = progress_of p w out; partial = z }) (take_all line_room s (omega (arith, x.few c)))

  all-answers : rest.whole ≡ false → text_answers x.hand.text ≡ x.hand.answers ++ all_bytes (after_rest (progress_of p w out) (take rest.count block))
  unfolding on_end
  all-answers c =
      sym (stream-whole x.hand.text) ∙ ap on_end (sym x.hand.is)
      ∙ end-apart x.hand.answers (on_bytes (fresh (progress_of p w out)) (take rest.count block))
      ∙ ap (λ (z : Stream). x.hand.answers ++ on_end z) (begun c)

  so_far : rest.whole ≡ false → (on_bytes stream_start x.hand.text).progress.bytes ≡ x.hand.answers
  so_far c =
      ap (λ (z : Stream). z.progress.bytes) (sym x.hand.is)
      ∙ ap (λ (z : Stream). x.hand.answers ++ z.progress.bytes) (begun c)
      ∙ ap (λ (z : List ℕ). x.hand.answers ++ z) none-bytes ∙ append-nil x.hand.answers

  module _ (b : open? ≡ false) {r : Tally} (y : Finishes t rest.count p out r) where
    off : is_open t.flow ≡ false
    off = sym x.open_is ∙ b

    at-end : t.flow ≡ Ended → Ends (length block) r
    at-end f = go (y.ended f w (take rest.count block) (length-take-le rest.count block x.inside))
      where
        c : rest.whole ≡ false
        c = x.over off (λ e. differ (cc))

        go : Writes t (length (all_bytes (after_rest (progress_of p w out) (take rest.count block)))) r → Ends (length block) r
        go (Writes.all i) =
            let g : r.flow ≡ Ended = ap (λ (q : Tally). q.flow) i ∙ f in
            record {
              over = λ e. let z : ◌≡◌ {A = ℕ} 0 1 = cc in omega arith;
              ended = λ e. record {
                text = x.hand.text;
                long = x.hand.read ∙ sym (ap (λ (q : Tally). q.read) i);
                answers = ap length (all-answers c)
                    ∙ length-append x.hand.answers (all_bytes (after_rest (progress_of p w out) (take rest.count block)))
                    ∙ ap (λ (k : ℕ). k + length (all_bytes (after_rest (progress_of p w out) (take rest.count block)))) (x.hand.written (λ e. differ (cc)))
                    ∙ sym (ap (λ (q : Tally). q.written) i);
              };
              unread = λ e. differ (cc);
              long = λ e. differ (cc);
            }
        go (Writes.failed i) =
            let g : r.flow ≡ Unwritten = ap (λ (q : Tally). q.flow) i in
            record {
              over = λ e. let z : ◌≡◌ {A = ℕ} 0 1 = cc in omega arith;
              ended = λ e. differ (cc);
              unread = λ e. differ (cc);
              long = λ e. differ (cc);
            }

    elsewhere : (t.flow ≡ Ended → ⊥) → Ends (length block) r
    elsewhere h =
        let g : r ≡ t = y.other h in
        record {
          over = λ e. clash (ap is_open (sym (ap (λ (q : Tally). q.flow) g) ∙ e)) off;
          ended = λ e. absurd (h (sym (ap (λ (q : Tally). q.flow) g) ∙ e));
          unread = λ e.
              let f : t.flow ≡ Unread = sym (ap (λ (q : Tally). q.flow) g) ∙ e in
              record {
                text = x.hand.text;
                long = x.hand.read ∙ sym (ap (λ (q : Tally). q.read) g);
                answers = ap length (so_far (x.over off (λ e. differ (cc)))) ∙ x.hand.written (λ e. differ (cc)) ∙ sym (ap (λ (q : Tally). q.written) g);
              };
          long = λ e. omega (arith, x.far (sym (ap (λ (q : Tally). q.flow) g) ∙ e), ap (λ (q : Tally). q.read) g);
        }

    pub run_ends : Ends (length block) r
    run_ends = go t.flow refl
      where
        go : (f : Flow) → t.flow ≡ f → Ends (length block) r
        go Open f = elsewhere (λ e. let z : ◌≡◌ {A = ℕ} 0 1 = cc in omega arith)
        go Ended f = at-end f
        go Unread f = elsewhere (λ e. let z : ◌≡◌ {A = ℕ} 0 1 = cc in omega arith)
        go Unwritten f = elsewhere (λ e. let z : ◌≡◌ {A = ℕ} 0 1 = cc in omega arith)
        go TooLong f = elsewhere (λ e. let z : ◌≡◌ {A = ℕ} 0 1 = cc in omega arith)
