-- Laws of (did ..): the state moved, and what the line is answered.
use mathlib.Core.Path.{◌≡◌, refl, sym, ap, ap₂, subst, ◌∙◌}
use mathlib.Core.List.{List, [], ◌∷◌}
use Prim.Native.Nat.{ℕ, suc, ◌+◌, ◌*◌, ◌-◌, ◌<◌, ◌≤◌}
use native.Mathlib.Omega.{arith}
use lib.ListN.{length, get_or, take, drop}
use lib.Seq.{paste, length-paste, length-take-le, ext_get_or}
use Rattle.refusal.specs.declared.Refusal.{Refusal}
use Rattle.refusal.specs.Outcome.{Outcome, ok, and_then}
use Rattle.label.specs.Limits.{constant_count, most_places, parameter_count}
use Rattle.state.specs.Lent.{fact_words, most_facts}
use Rattle.fact_index.specs.Inner.{Indexed, Clean}
use Rattle.valuing.proofs.CheckLaws.{lent-some}
use Rattle.words.specs.declared.Key.{Key}
use Rattle.text.specs.declared.Kind.TheVariants as K
use Rattle.events.specs.declared.Next.{Next}
use Rattle.events.specs.declared.Event.{Event}
use Rattle.events.specs.Events.{first_word}
use Rattle.events.specs.Inner.{next_at}
use Rattle.events.specs.Front.{events_of}
use Rattle.events.specs.FrontLaws.{next-moves}
use Rattle.events.specs.Contents.{key_in, word_at, numbers_in}
use Rattle.mdp.specs.Model.{Model}
use Rattle.replay.specs.Replay.{Did, Replay}
use Rattle.answers.specs.declared.Answer.TheVariants as A
use Rattle.session.specs.Session.{Live as SessionLive, with_live}
use Rattle.session.specs.Replaying.{replay_in, replayed, did_to, did_line}
use Rattle.session.specs.Replies.{Reply, did_says, done, words_of}
use Rattle.declare.specs.Tables.{names_of}
use Rattle.facts.specs.declared.Live.{Live}
use Rattle.facts.specs.declared.Tuple.{Tuple}
use Rattle.facts.specs.Inner.{Unindexed, Rowed, Lives, Living, TupleOf}
use Rattle.facts.specs.Words.{placed_base, facts_base, index_base, index_words, state_words, part, live_of, GoodLive}
use Rattle.facts.specs.WordLaws.{live-ext, index-rows, index-holds, index-all, reindexed-live}
use Rattle.facts.specs.PartLaws.{length_part, part_at, part-lent, same-before, paste-in, paste-before, paste-behind}
use Rattle.model.specs.declared.Head.{Head}
use Rattle.model.specs.Layout.{model_of}
use Rattle.best_move.proofs.ActionLaws.{laid-task, task-few}
use Rattle.replay_step.specs.Stepped.{lent_did, lent_step, StepTask, Steps}
use Rattle.memory.specs.declared.Numbers.{Numbers}
use Rattle.memory.specs.declared.Said.{Said}
use Rattle.memory.specs.Inner.{Answers, with_state}
use Rattle.memory.specs.Memory.{memory_of, session_of}
use Rattle.memory.specs.CarriedLaws.{carried_same, carried_on}
use Rattle.memory.specs.StoredLaws.{stored-state}
use Rattle.memory.specs.WordLaws.{next-drops, first-is, second_is, rest-is}
use Rattle.desk_lines.specs.Lines.{LogTask, DidAnswered}
use Rattle.desk_lines.specs.Doing.{Fits, Findable, Finding, Movable, StepsIn, moved}
use Rattle.std.specs.Prelude.{Err, Ok, Result}

-- ===== The state moved =====

-- m rows of facts behind one another, count and total
abbrev live_with : Live → ℕ → ℕ → ℕ → Live
live_with l m c t = record { objects = l.objects; facts = m; count = c; total = t }

-- the first m rows copied to where the facts stand, in words whose index has no rows
module _ {state s : List ℕ} {l : Live} (g : GoodLive state l) (u : Unindexed state s) {m : ℕ} (few : m ≤ most_facts) (rows : List ℕ) (room : m * fact_words ≤ length rows) where
  abbrev copied : List ℕ
  copied = paste s facts_base rows (m * fact_words)

  there : facts_base ≤ length s
  there = omega (arith, u.stays.size, g.room)

  copied-size : length copied ≡ length state
  copied-size = length-paste s facts_base rows (m * fact_words) (omega (arith, u.stays.size, g.room)) room ∙ u.stays.size

  -- words before the facts are as they were
  before-stays : (b n : ℕ) → b + n ≤ facts_base → part copied b n ≡ part state b n
  before-stays b n h = paste-before s facts_base rows (m * fact_words) there room b n h ∙ same-before state s index_base b n u.stays.front (omega arith)

  copied-clean : Clean (part copied index_base index_words)
  copied-clean = subst Clean (sym (paste-behind s facts_base rows (m * fact_words) there room index_base index_words (omega arith))) u.clean

  copied-good : (c t : ℕ) → GoodLive copied (live_with l m c t)
  copied-good c t = record { room = omega (arith, copied-size, g.room); objects = g.objects; facts = few }

  -- the facts are the rows, all else is as it was
  copied-live : (c t : ℕ) → live_of copied (live_with l m c t)
      ≡ replayed (live_of state l) (record { size = l.objects; constants = take constant_count state; facts = take (m * fact_words) rows; count = c; total = t })
  unfolding live_of replayed
  copied-live c t =
      live-ext _ _ refl (before-stays placed_base constant_count (omega arith)) (before-stays 0 constant_count (omega arith))
      (paste-in s facts_base rows (m * fact_words) there room) refl refl

module _ {ar listings table : List ℕ} {h : Head} {a v : ℕ} {os state : List ℕ} {l : Live} (x : Movable ar listings table h a v os state l) where
  abbrev M : Model
  M = model_of ar listings table h

  pub constants-long : constant_count ≡ length (take constant_count state)
  constants-long = sym (length-take-le constant_count state (omega (arith, x.live.room)))

  some-objects : 1 ≤ l.objects
  some-objects = lent-some ar l.objects _ _ x.lent

  -- the index holds the facts
  pub facts-held : Indexed ar (part state facts_base (l.facts * fact_words)) (part state index_base index_words) l.facts
  facts-held = index-holds some-objects x.indexed

  -- the facts as they are lent
  module _ {ps : List ℕ} (f : ps ≡ part state facts_base (l.facts * fact_words)) where
    pub step-task : {rows : List ℕ} → most_facts * fact_words ≤ length rows
        → StepTask ar listings table h a v l.objects (take constant_count state) ps (part state index_base index_words) l.count l.total os rows
    step-task {rows} r =
        subst
        (λ (fs : List ℕ). StepTask ar listings table h a v l.objects (take constant_count state) fs (part state index_base index_words) l.count l.total os rows) (sym f)
        (record {
          laid = x.laid;
          action = x.action;
          variant = x.variant;
          lent = x.lent;
          indexed = index-all x.live some-objects x.indexed;
          count-few = x.count;
          total-few = x.total;
          objects = x.objects;
          room = r;
        })

    pub step-hand : {r : Result (ℕ × ℕ × ℕ) Refusal} {rows : List ℕ}
        → Steps (lent_step ar listings table h a v l.objects (take constant_count state) ps l.count l.total os) l.objects (take constant_count state) r rows
        → StepsIn ar listings table h a v os state l r rows
    unfolding replay_in live_of
    step-hand {r} {rows} s = record {
      steps =
          subst (λ (fs : List ℕ). Steps (lent_step ar listings table h a v l.objects (take constant_count state) fs l.count l.total os)
          l.objects (take constant_count state) r rows) f s;
    }

  module _ {r : Result (ℕ × ℕ × ℕ) Refusal} {rows : List ℕ} (s : StepsIn ar listings table h a v os state l r rows) where
    -- the answer is known
    steps-as : {q : Result (ℕ × ℕ × ℕ) Refusal} → r ≡ q → StepsIn ar listings table h a v os state l q rows
    steps-as e = subst (λ (z : Result (ℕ × ℕ × ℕ) Refusal). StepsIn ar listings table h a v os state l z rows) e s

    pub rows_few : {m c t : ℕ} → r ≡ Ok (m, c, t) → m ≤ most_facts
    rows_few e = (steps-as e).steps.few

    pub rows-room : {m c t : ℕ} → r ≡ Ok (m, c, t) → m * fact_words ≤ length rows
    rows-room e = (steps-as e).steps.room

    -- the index has no rows, then the rows are copied to the facts
    module _ {s₁ : List ℕ} (u : Unindexed state s₁) {m c t : ℕ} (e : r ≡ Ok (m, c, t)) where
      pub facts-room : facts_base + m * fact_words ≤ length s₁
      facts-room = omega (arith, rows_few e, u.stays.size, x.live.room)

      module _ {s₂ : List ℕ} (y : s₂ ≡ paste s₁ facts_base rows (m * fact_words)) where
        pub moved-room : state_words ≤ length s₂
        moved-room = omega (arith, ap length y, copied-size x.live u (rows_few e) rows (rows-room e), x.live.room)

        pub moved-clean : Clean (part s₂ index_base index_words)
        moved-clean = subst (λ (z : List ℕ). Clean (part z index_base index_words)) (sym y) (copied-clean x.live u (rows_few e) rows (rows-room e))

        pub replay-done : {s₃ : List ℕ} → Rowed ar s₂ m s₃ → Living ar (did_to M (live_of state l) (lent_did a v os)) state (Ok (live_with l m c t)) s₃
        unfolding did_to
        replay-done {s₃} i =
            let q = (steps-as e).steps in
            let g = reindexed-live i.stays (subst (λ (z : List ℕ). GoodLive z (live_with l m c t)) (sym y) (copied-good x.live u q.few rows q.room c t)) in
            let w : live_of s₃ (live_with l m c t) ≡ live_of (paste s₁ facts_base rows (m * fact_words)) (live_with l m c t)
            = g.0 ∙ ap (λ (z : List ℕ). live_of z (live_with l m c t)) y in
            record {
              lives = (
                ap (λ (o : Outcome Replay). and_then o (λ r. ok (replayed (live_of state l) r))) q.is
                    ∙ ap ok (sym (w ∙ copied-live x.live u q.few rows q.room c t)),
                g.1,
                index-rows some-objects i.indexed,
              );
            }

    pub replay-refused : {why : Refusal} → r ≡ Err why → Living ar (did_to M (live_of state l) (lent_did a v os)) state (Err why) state
    unfolding did_to
    replay-refused e = record { lives = (ap (λ (o : Outcome Replay). and_then o (λ r. ok (replayed (live_of state l) r))) (steps-as e).steps, refl) }

-- ===== The line's words =====

-- the objects in the row are those of the line, where there are not too many
row-objects : {n : ℕ} {os : List ℕ} {o : Tuple} {row : List ℕ} → TupleOf n os o row → o.count ≤ most_places → part row 1 o.count ≡ os
row-objects {n} {os} {o} {row} w h =
    let size : length (part row 1 o.count) ≡ o.count = length_part row 1 o.count (omega (arith, w.size)) in
    ext_get_or 0 (part row 1 o.count) os (size ∙ w.count)
    (λ j q.
    let i : j < o.count = omega (arith, size, q) in
    let e : 1 + j ≡ suc j = omega arith in
    part_at row 1 o.count j i ∙ (ap (λ (k : ℕ). get_or row k 0) e ∙ w.objects j (omega arith)))

pub log-findable : {n : Numbers} {names ar listings table state : List ℕ} → LogTask n names ar listings table state → Findable names table n.counts.actions
log-findable t = record {
  room = t.named.room;
  few = record { room = t.laid.room; few = t.named.actions; each = λ i h. (t.laid.actions i (omega (arith, t.agreed.actions))).few };
}

module _ {n : Numbers} {names ar listings table state : List ℕ} (t : LogTask n names ar listings table state) {os row : List ℕ} {o : Tuple}
    (w : TupleOf n.live.objects os o row) {k v : Key} {r : Result (ℕ × ℕ) Refusal} (g : Finding names table n.counts k v o r) where
  abbrev Line : Outcome SessionLive
  Line = did_line (model_of ar listings table n.head) (names_of names n.counts) (live_of state n.live) k v os

  -- what is found, in the state in hand
  found-is : {q : Result (ℕ × ℕ) Refusal} → r ≡ q → Finding names table n.counts k v o q
  found-is e = subst (Finding names table n.counts k v o) e g

  pub carry-refused : {why : Refusal} → r ≡ Err why → Living ar Line state (Err why) state
  unfolding live_of
  carry-refused e = record { lives = ((found-is e).found ar listings n.head (live_of state n.live) os row t.agreed w, refl) }

  module _ {a b : ℕ} (e : r ≡ Ok (a, b)) where
    fits_in : Fits table n.counts.actions o (Ok (a, b))
    fits_in = (found-is e).fits

    action-low : a < n.head.actions
    action-low = omega (arith, fits_in.0, t.agreed.actions)

    pub objects-few : o.count ≤ parameter_count
    objects-few = omega (arith, fits_in.2, task-few (laid-task t.laid action-low))

    pub objects-room : 1 + o.count ≤ length row
    objects-room = omega (arith, objects-few, w.size)

    -- the objects as they are lent
    abbrev lent : List ℕ
    lent = take (1 + o.count - 1) (drop 1 row)

    lent-are : os ≡ lent
    lent-are = sym (part-lent row 1 o.count ∙ row-objects w (omega (arith, objects-few)))

    pub carry-movable : Movable ar listings table n.head a b lent state n.live
    carry-movable =
        subst (λ (xs : List ℕ). Movable ar listings table n.head a b xs state n.live) lent-are
        (record {
          laid = t.laid;
          live = t.live;
          indexed = t.indexed;
          lent = t.lent;
          count = t.count;
          total = t.total;
          action = action-low;
          variant = fits_in.1;
          objects = sym w.within ∙ fits_in.3;
        })

    pub carry-done : {q : Result Live Refusal} {state' : List ℕ} → Living ar (did_to (model_of ar listings table n.head) (live_of state n.live) (lent_did a b lent)) state q state'
        → Living ar Line state q state'
    unfolding live_of
    carry-done {q} {state'} d =
        subst (λ (z : Outcome SessionLive). Living ar z state q state')
        (ap (λ (xs : List ℕ). did_to (model_of ar listings table n.head) (live_of state n.live) (lent_did a b xs)) (sym lent-are)
        ∙ sym ((found-is e).found ar listings n.head (live_of state n.live) os row t.agreed w)) d

-- ===== What the line is answered =====

pub moved-is : (n : Numbers) (l : Live) {m : Numbers} → m ≡ with_state n l → ◌≡◌ {A = Said} (record { numbers = m; answer = A.Did l.count l.total }) (moved n l)
moved-is n l e = ap (λ (m : Numbers). record { numbers = m; answer = A.Did l.count l.total }) e

two-behind : (es : List Event) → drop 1 (drop 1 es) ≡ drop 2 es
two-behind [] = refl
two-behind (e ∷ []) = refl
two-behind (e ∷ f ∷ es) = refl

pub third-in : (s : List ℕ) {i : ℕ} {y : Next} → i ≤ length s → y ≡ next_at s i → y.place ≤ length s
third-in s {i} h e = omega (arith, ap (λ (z : Next). z.place) e, (next-moves s i h).0)

module _ (s : List ℕ) (number : ℕ) (n : Numbers) (names ar ls tb : List ℕ) {st st' : List ℕ} {i : ℕ} {x y : Next} {k v : Key} {d : Result Live Refusal}
    (p : i ≡ first_word K.Did) (q : x ≡ next_at s i) (u : k ≡ key_in x.event) (w : y ≡ next_at s x.place) (z : v ≡ key_in y.event)
    (g : Living ar (did_line (model_of ar ls tb n.head) (names_of names n.counts) (live_of st n.live) k v (numbers_in (events_of (drop y.place s)))) st d st') where
  abbrev L : Key → Key → List Event → Outcome SessionLive
  L a b es = did_line (model_of ar ls tb n.head) (names_of names n.counts) (live_of st n.live) a b (numbers_in es)

  words_are : events_of (drop y.place s) ≡ drop 2 (words_of K.Did s)
  words_are =
      ap (λ (a : Next). events_of (drop a.place s)) w ∙ (next-drops s x.place ∙ (ap (drop 1) (rest-is K.Did s p q) ∙ two-behind (words_of K.Did s)))

  line-is : L k v (events_of (drop y.place s)) ≡ L (key_in (word_at (words_of K.Did s) 0)) (key_in (word_at (words_of K.Did s) 1)) (drop 2 (words_of K.Did s))
  line-is =
      ap (λ (es : List Event). L k v es) words_are
      ∙ ap₂ (λ (a b : Key). L a b (drop 2 (words_of K.Did s))) (u ∙ ap key_in (first-is K.Did s p q)) (z ∙ ap key_in (second_is K.Did s p q w))

  lives-as : {r : Result Live Refusal} → d ≡ r → Lives ar (L (key_in (word_at (words_of K.Did s) 0)) (key_in (word_at (words_of K.Did s) 1)) (drop 2 (words_of K.Did s))) st r st'
  lives-as {r} e =
      subst (λ (o : Outcome SessionLive). Lives ar o st r st') line-is (subst (λ (t : Result Live Refusal). Lives ar (L k v (events_of (drop y.place s))) st t st') e g.lives)

  done-as : (value : List ℕ) {o : Outcome SessionLive}
      → L (key_in (word_at (words_of K.Did s) 0)) (key_in (word_at (words_of K.Did s) 1)) (drop 2 (words_of K.Did s)) ≡ o
      → done (session_of n (memory_of names ar ls tb st value)) number K.Did (words_of K.Did s) ≡ did_says (session_of n (memory_of names ar ls tb st value)) number o
  unfolding done session_of
  done-as value e = ap (did_says (session_of n (memory_of names ar ls tb st value)) number) e

  session-moved : (value : List ℕ) (l : Live) → session_of (moved n l).numbers (memory_of names ar ls tb st' value)
      ≡ with_live (session_of n (memory_of names ar ls tb st value)) (live_of st' l)
  unfolding session_of
  session-moved value l = refl

  pub did-done : {l : Live} → d ≡ Ok l → {m : Said} → m ≡ moved n l → DidAnswered s number n names ar ls tb st m st'
  unfolding live_of
  did-done {l} e {m} f =
      subst (λ (a : Said). DidAnswered s number n names ar ls tb st a st') (sym f)
      (record {
        says = λ value r.
            let h = lives-as e in
            let a = done-as value h.0 in
            record {
              answer = sym (ap (λ (b : Reply). b.answer) a);
              session = session-moved value l ∙ sym (ap (λ (b : Reply). b.session) a);
              stored = stored-state st' l r.stored h.1;
              indexed = h.2;
              carried = carried_on refl refl refl;
            };
      })

  pub did-refused : {why : Refusal} → d ≡ Err why → DidAnswered s number n names ar ls tb st (record { numbers = n; answer = A.Refused why number }) st'
  did-refused {why} e = record {
    says = λ value r.
        let h = lives-as e in
        let a = done-as value h.0 in
        subst (λ (t : List ℕ). Answers K.Did s number n (memory_of names ar ls tb st value) (record { numbers = n; answer = A.Refused why number }) (memory_of names ar ls tb t value))
        (sym h.1)
        (record {
          answer = sym (ap (λ (b : Reply). b.answer) a);
          session = sym (ap (λ (b : Reply). b.session) a);
          stored = r.stored;
          indexed = r.indexed;
          carried = carried_same n (memory_of names ar ls tb st value);
        });
  }
