-- Laws of a session that a host keeps in words, on the ways through the calls.
use mathlib.Core.Path.{◌≡◌, refl, sym, ap, ap₂, subst, ◌∙◌}
use mathlib.Core.Bool.{Bool, true, false, cond, not, ◌&&◌, ◌||◌}
use mathlib.Core.List.{List, [], ◌∷◌, ◌++◌}
use Prim.Native.Nat.{ℕ, suc, ◌+◌, ◌-◌, ◌≤◌, ◌<◌}
use native.Mathlib.Omega.{arith}
use native.Mathlib.Numerals.{add-one}
use native.Mathlib.Nat.{zero-add}
use borrow.Author.Tests.{eq-eqb, ne_eqb, le-leb, lt-leb, leb-true, leb-false, eqb-true, not-true, not-false}
use lib.Dec.{leb, eqb}
use lib.ListN.{length, get_or, take, drop, take-append-drop}
use lib.Seq.{length-take-le}
use Rattle.basics.specs.Tests.{and_left, and_right, Flag, is_true, is_false, flag}
use Rattle.refusal.specs.declared.Refusal.TheVariants.{Place, Buffer, Listing}
use Rattle.refusal.specs.Numbers.{number_of}
use Rattle.label.specs.Limits.{predicate_count}
use Rattle.diagram.specs.Sizes.{result_words}
use Rattle.names.specs.Layout.{name_words}
use Rattle.model.specs.Layout.{listing_words, table_words}
use Rattle.answers.specs.declared.Answer.TheVariants.{Refused}
use Rattle.answers.specs.Inner.{put_answer, put_result, Placed}
use Rattle.answers.specs.Writing.{most_bytes}
use Rattle.session.specs.declared.Part.{Part}
use Rattle.session.specs.Session.{Session, opening, with_live}
use Rattle.session.specs.Good.{GoodSession}
use Rattle.session.specs.Replies.{reply}
use Rattle.session.specs.Texts.{has_bytes, lines_of, Progress, reply_bytes, unfinished, closing, after_line}
use Rattle.facts.specs.Inner.{Remade}
use Rattle.facts.specs.Words.{state_words, GoodLive}
use Rattle.facts.specs.WordLaws.{reindexed-live}
use Rattle.memory.specs.declared.Numbers.{Numbers}
use Rattle.model_entry.specs.Inner.{KeepsStarts}
use Rattle.model_entry.specs.Starts.{Slot, has_start, starts_behind}
use Rattle.memory.specs.Inner.{Carried, Kept}
use Rattle.memory.specs.Memory.{Memory, memory_of, session_of, starts_of, Stored, IsSession, work_words}
use Rattle.memory.specs.SlotLaws.{carried-starts}
use Rattle.memory.specs.StoredLaws.{stored-state}
use Rattle.memory.specs.Saving.{number_words, saved_words, numbers_at, lines_at, met_at}
use Rattle.memory.specs.SavingLaws.{saved-numbers}
use Rattle.lines.specs.Lines.{Opened}
use Rattle.texts.specs.declared.Sent.{Sent}
use Rattle.answers.specs.Answers.{answer_line}
use Rattle.texts.specs.declared.Ran.{Ran}
use Rattle.texts.specs.declared.Ran.TheVariants as R
use Rattle.texts.specs.declared.Position.{Position}
use Rattle.texts.specs.Running.{Filled, fits, all_bytes, fill_closing, fill_rest, Fills}
use Rattle.texts.specs.RunningLaws.{rest-none}
use Rattle.texts.specs.declared.Answered.{Answered}
use Rattle.texts.specs.Inner.{Sends, progress_of, whole_of, Answerable, Reaches, CarriedOver}
use Rattle.texts.specs.Sending.{most_lines}
use Rattle.texts.specs.Whole.{Whole, whole_from, starts_from}
use Rattle.restoring.specs.Restoring.{is_session}
use Rattle.restoring.specs.KeptLaws.{session-is}
use Rattle.checking.specs.DecisionLaws.{decided}
use Rattle.checking.proofs.TestLaws.{stops, goes, refused, passed}
use Rattle.c_library.specs.Answers.{room_number, entry_number}
use Rattle.c_library.specs.Inner.{position_at, put_end}
use Rattle.c_library.specs.Sessions.{has_room, OpenOrLeft, Opens, has_rooms, is_plain, can_answer, is_open, progress_at, IsAnswered, IsUntouched, DoneOrLeft, starts_after, Replies}
use Rattle.c_library.specs.Sessions.{answered_lines, answered_starts, AreAnswered, AreUntouched, RepliesAll, can_close, closing_at, IsClosed, IsUnclosed, Closes}
use Rattle.std.specs.Prelude.{None, Option, Some}

-- ===== Room =====

module _ (n a s : ℕ) where
  pub room-numbers : n < number_words → false ≡ has_room n a s
  room-numbers h = rw (lt-leb number_words n h)

  pub room-arities : number_words ≤ n → (a ≡ predicate_count → ⊥) → false ≡ has_room n a s
  room-arities h f = rw (le-leb number_words n h, ne_eqb a predicate_count f)

  pub room-state : number_words ≤ n → a ≡ predicate_count → eqb s state_words ≡ has_room n a s
  room-state h e = rw (le-leb number_words n h, eq-eqb a predicate_count e)

pub record Room (n a s : ℕ) : Type 0 where
  pub numbers : number_words ≤ n
  pub arities : a ≡ predicate_count
  pub state : state_words ≤ s

pub room-is : (n a s : ℕ) {b : Bool} → b ≡ has_room n a s → not b ≡ false → Room n a s
room-is n a s {b} q f =
    let h = sym q ∙ not-false b f in
    let t = and_right (leb number_words n) (eqb a predicate_count && eqb s state_words) h in
    record {
      numbers = leb-true number_words n (and_left (leb number_words n) (eqb a predicate_count && eqb s state_words) h);
      arities = eqb-true a predicate_count (and_left (eqb a predicate_count) (eqb s state_words) t);
      state = omega (arith, eqb-true s state_words (and_right (eqb a predicate_count) (eqb s state_words) t));
    }

-- ===== Opening =====

module _ (numbers arities state : List ℕ) {b : Bool} (q : b ≡ has_room (length numbers) (length arities) (length state)) where
  pub open-left : {k : ℕ} → not b ≡ true → k ≡ number_of Buffer → Opens numbers arities state k numbers arities state
  open-left f h = record {
    answer = h ∙ ap room_number (sym (not-true b f) ∙ q);
    does =
        subst (λ (x : Bool). OpenOrLeft x numbers arities state numbers arities state) (sym (not-true b f) ∙ q)
        (record { numbers-left = refl; arities-left = refl; state-left = refl });
  }

  pub open_done : {n : Numbers} {numbers' arities' state' : List ℕ} → not b ≡ false → Opened arities state n arities' state'
      → numbers' ≡ saved_words n 0 false ++ drop number_words numbers → Opens numbers arities state 0 numbers' arities' state'
  open_done {n} {numbers'} {arities'} {state'} f o u =
      let e = not-false b f in
      let z : numbers_at numbers' ≡ n = ap numbers_at u ∙ saved-numbers n 0 false (drop number_words numbers) in
      record {
        answer = ap room_number (sym e ∙ q);
        does =
            subst (λ (x : Bool). OpenOrLeft x numbers arities state numbers' arities' state') (sym e ∙ q)
            (record {
              session = λ names listings table value rooms.
                  subst (λ (m : Numbers). session_of m (memory_of names arities' listings table state' value) ≡ opening) (sym z) (o.says names listings table value rooms).session;
              again = λ names listings table value rooms.
                  let k = (o.says names listings table value rooms).kept in
                  subst (λ (m : Numbers). is_session m (memory_of names arities' listings table state' value) ≡ true) (sym z)
                  (decided (session-is n (memory_of names arities' listings table state' value)) (record { stored = k.stored; good = k.good }));
              numbers-are = u ∙ ap (λ (m : Numbers). saved_words m 0 false ++ drop number_words numbers) o.numbers;
            });
      }

-- ===== Room for lines =====

module _ (work answer : ℕ) where
  abbrev roomy : Bool
  roomy = leb work_words work && leb most_bytes answer

  pub answer-work : work < work_words → false ≡ roomy
  answer-work h = stops _ (lt-leb work_words work h)

  pub answer-rest : work_words ≤ work → leb most_bytes answer ≡ roomy
  answer-rest h = goes (le-leb work_words work h) refl

-- ===== A session's words =====

module _ (numbers names arities listings table state value : ℕ) where
  abbrev rooms : Bool
  rooms = has_rooms numbers names arities listings table state value

  pub rooms-numbers : numbers < number_words → false ≡ rooms
  rooms-numbers h = stops _ (lt-leb number_words numbers h)

  module _ (a : number_words ≤ numbers) where
    pub rooms-names : (names ≡ name_words → ⊥) → false ≡ rooms
    rooms-names f = goes (le-leb number_words numbers a) (stops _ (ne_eqb names name_words f))

    module _ (b : names ≡ name_words) where
      from-arities : {r : Bool} → r ≡ (eqb arities predicate_count && (eqb listings listing_words && (eqb table table_words && (eqb state state_words && eqb value result_words))))
          → r ≡ rooms
      from-arities q = goes (le-leb number_words numbers a) (goes (eq-eqb names name_words b) q)

      pub rooms-arities : (arities ≡ predicate_count → ⊥) → false ≡ rooms
      rooms-arities f = from-arities (stops _ (ne_eqb arities predicate_count f))

      module _ (c : arities ≡ predicate_count) where
        pub rooms-listings : (listings ≡ listing_words → ⊥) → false ≡ rooms
        rooms-listings f = from-arities (goes (eq-eqb arities predicate_count c) (stops _ (ne_eqb listings listing_words f)))

        module _ (d : listings ≡ listing_words) where
          from-table : {r : Bool} → r ≡ (eqb table table_words && (eqb state state_words && eqb value result_words)) → r ≡ rooms
          from-table q = from-arities (goes (eq-eqb arities predicate_count c) (goes (eq-eqb listings listing_words d) q))

          pub rooms-table : (table ≡ table_words → ⊥) → false ≡ rooms
          rooms-table f = from-table (stops _ (ne_eqb table table_words f))

          module _ (e : table ≡ table_words) where
            pub rooms-state : (state ≡ state_words → ⊥) → false ≡ rooms
            rooms-state f = from-table (goes (eq-eqb table table_words e) (stops _ (ne_eqb state state_words f)))

            pub rooms-value : state ≡ state_words → eqb value result_words ≡ rooms
            rooms-value f = from-table (goes (eq-eqb table table_words e) (goes (eq-eqb state state_words f) refl))

-- what is told by 0 or 1
module _ (s : List ℕ) where
  pub plain-part : 1 < get_or s 0 0 → false ≡ is_plain s
  plain-part h = stops _ (lt-leb (get_or s 0 0) 1 h)

  module _ (a : get_or s 0 0 ≤ 1) where
    pub plain-total : 1 < get_or s 1 0 → false ≡ is_plain s
    plain-total h = goes (le-leb (get_or s 0 0) 1 a) (stops _ (lt-leb (get_or s 1 0) 1 h))

    module _ (b : get_or s 1 0 ≤ 1) where
      pub plain-discount : 1 < get_or s 2 0 → false ≡ is_plain s
      plain-discount h = goes (le-leb (get_or s 0 0) 1 a) (goes (le-leb (get_or s 1 0) 1 b) (stops _ (lt-leb (get_or s 2 0) 1 h)))

      module _ (c : get_or s 2 0 ≤ 1) where
        pub plain-reward : 1 < get_or s 3 0 → false ≡ is_plain s
        plain-reward h =
            goes (le-leb (get_or s 0 0) 1 a) (goes (le-leb (get_or s 1 0) 1 b) (goes (le-leb (get_or s 2 0) 1 c) (stops _ (lt-leb (get_or s 3 0) 1 h))))

        pub plain-met : get_or s 3 0 ≤ 1 → leb (get_or s 25 0) 1 ≡ is_plain s
        plain-met d =
            goes (le-leb (get_or s 0 0) 1 a) (goes (le-leb (get_or s 1 0) 1 b) (goes (le-leb (get_or s 2 0) 1 c) (goes (le-leb (get_or s 3 0) 1 d) refl)))

module _ (numbers : List ℕ) (w : Memory) (more : ℕ) {a : Bool}
    (ea : a ≡ has_rooms (length numbers) (length w.names) (length w.arities) (length w.listings) (length w.table) (length w.state) (length w.value)) where
  pub open-rooms : not a ≡ true → false ≡ is_open numbers w more
  open-rooms f = stops _ (refused ea f)

  module _ (fa : not a ≡ false) where
    pub open-numbers : number_words ≤ length numbers
    open-numbers = leb-true number_words (length numbers) (and_left (leb number_words (length numbers)) _ (passed ea fa))

    module _ {p : Bool} (ep : p ≡ is_plain numbers) where
      pub open_plain : not p ≡ true → false ≡ is_open numbers w more
      open_plain f = goes (passed ea fa) (stops _ (refused ep f))

      module _ (fp : not p ≡ false) {n : Numbers} (en : n ≡ numbers_at numbers) {b : Bool} (e : b ≡ is_session n w) where
        session-test : b ≡ is_session (numbers_at numbers) w
        session-test = e ∙ ap (λ (m : Numbers). is_session m w) en

        pub open_none : not b ≡ true → false ≡ is_open numbers w more
        open_none f = goes (passed ea fa) (goes (passed ep fp) (stops _ (refused session-test f)))

        pub open-rest : {k : ℕ} → not b ≡ false → more ≤ most_lines → k ≡ lines_at numbers → leb k (most_lines - more) ≡ is_open numbers w more
        open-rest {k} f h q = goes (passed ea fa) (goes (passed ep fp) (goes (passed session-test f) (go (flag (leb k (most_lines - more))))))
          where
            go : Flag (leb k (most_lines - more)) → leb k (most_lines - more) ≡ leb (lines_at numbers + more) most_lines
            go (is_true z) = z ∙ sym (le-leb (lines_at numbers + more) most_lines (let l = leb-true k (most_lines - more) z in omega (arith, l, q)))
            go (is_false z) = z ∙ sym (lt-leb (lines_at numbers + more) most_lines (let l = leb-false k (most_lines - more) z in omega (arith, l, q)))

module _ {a : Bool} (x y : Bool) (e : a ≡ x) where
  pub enter-none : {k : ℕ} → not a ≡ true → k ≡ number_of Listing → k ≡ entry_number x y
  unfolding entry_number
  enter-none f q = q ∙ sym (ap (λ (t : Bool). entry_number t y) (refused e f))

  module _ (f : not a ≡ false) {b : Bool} (d : b ≡ y) where
    pub enter-small : {k : ℕ} → not b ≡ true → k ≡ number_of Buffer → k ≡ entry_number x y
    unfolding entry_number
    enter-small g q = q ∙ sym (ap₂ entry_number (passed e f) (refused d g))

    pub enter-in : not b ≡ false → 0 ≡ entry_number x y
    unfolding entry_number
    enter-in g = sym (ap₂ entry_number (passed e f) (passed d g))

-- both tests are passed, or one is not
entered : (a b : Bool) {k : ℕ} → k ≡ entry_number a b → k ≡ 0 → (a ≡ true) × (b ≡ true)
unfolding entry_number
entered true true e z = (refl, refl)
entered true false e z = absurd (omega (arith, e, z))
entered false b e z = absurd (omega (arith, e, z))

turned-away : (a b : Bool) {k : ℕ} → k ≡ entry_number a b → (k ≡ 0 → ⊥) → (a && b) ≡ false
unfolding entry_number
turned-away true true e f = absurd (f e)
turned-away true false e f = refl
turned-away false b e f = refl

-- what both tests give
pub record Given (numbers : List ℕ) (w : Memory) (work answer : List ℕ) (more : ℕ) : Type 0 where
  pub numbers-room : number_words ≤ length numbers
  pub work-room : work_words ≤ length work
  pub answer-room : most_bytes ≤ length answer
  pub session : IsSession (numbers_at numbers) w
  pub lines : lines_at numbers + more ≤ most_lines
  pub both : (is_open numbers w more && can_answer work answer) ≡ true

module _ (numbers : List ℕ) (w : Memory) (work answer : List ℕ) (more : ℕ) {k : ℕ} (e : k ≡ entry_number (is_open numbers w more) (can_answer work answer)) where
  pub given : k ≡ 0 → Given numbers w work answer more
  given z =
      let x = entered (is_open numbers w more) (can_answer work answer) e z in
      let tables : Bool =
      has_rooms (length numbers) (length w.names) (length w.arities) (length w.listings) (length w.table) (length w.state) (length w.value) in
      let rest = and_right (is_plain numbers) _ (and_right tables _ x.0) in
      record {
        numbers-room = leb-true number_words (length numbers) (and_left (leb number_words (length numbers)) _ (and_left tables _ x.0));
        work-room = leb-true work_words (length work) (and_left (leb work_words (length work)) _ x.1);
        answer-room = leb-true most_bytes (length answer) (and_right (leb work_words (length work)) _ x.1);
        session = (session-is (numbers_at numbers) w).yes (and_left (is_session (numbers_at numbers) w) _ rest);
        lines = leb-true (lines_at numbers + more) most_lines (and_right (is_session (numbers_at numbers) w) _ rest);
        both = ap₂ ◌&&◌ x.0 x.1;
      }

  untouched : (k ≡ 0 → ⊥) → (P Q : Type 0) → Q → DoneOrLeft (is_open numbers w more && can_answer work answer) P Q
  untouched f P Q q = subst (λ (b : Bool). DoneOrLeft b P Q) (sym (turned-away (is_open numbers w more) (can_answer work answer) e f)) q

pub line_refused : (line numbers : List ℕ) (w : Memory) (work answer : List ℕ) {bytes k : ℕ} → k ≡ entry_number (is_open numbers w 1) (can_answer work answer)
    → (k ≡ 0 → ⊥) → Replies line numbers w work answer bytes k numbers w answer bytes
line_refused line numbers w work answer {bytes} e f = record {
  number = e;
  does = untouched numbers w work answer 1 e f (IsAnswered (after_line (progress_at numbers w) line) (starts_after line numbers w) numbers answer numbers w answer bytes)
      (IsUntouched numbers w answer bytes numbers w answer bytes) (record { numbers-left = refl; memory-left = refl; answer-left = refl; bytes_left = refl });
}

pub lines-refused : (block numbers : List ℕ) (w : Memory) (work answer : List ℕ) {bytes read k : ℕ}
    → k ≡ entry_number (is_open numbers w (length block)) (can_answer work answer)
    → (k ≡ 0 → ⊥) → RepliesAll block numbers w work answer bytes read k numbers w answer bytes read
lines-refused block numbers w work answer {bytes} {read} e f = record {
  number = e;
  does = untouched numbers w work answer (length block) e f
      (AreAnswered block (answered_lines block numbers w answer) (answered_starts block numbers w answer) numbers answer numbers w answer bytes read)
      (AreUntouched numbers w answer bytes read numbers w answer bytes read) (record {
        untouched = record { numbers-left = refl; memory-left = refl; answer-left = refl; bytes_left = refl };
        read_left = refl;
      });
}

take_none : (s : List ℕ) → take 0 s ≡ []
take_none [] = refl
take_none (b ∷ s) = refl

-- how far a session is
pub position-is : (numbers : List ℕ) {n : Numbers} {l : ℕ} {m : Bool} → n ≡ numbers_at numbers → l ≡ lines_at numbers → m ≡ met_at numbers
    → record { numbers = n; lines = l; met = m; end = 0 } ≡ position_at numbers
position-is numbers e f g = λ i. record { numbers = e i; lines = f i; met = g i; end = 0 }

-- ===== The index of the facts, made anew =====

-- the words with other words of the state
abbrev pub with_words : Memory → List ℕ → Memory
with_words w state = memory_of w.names w.arities w.listings w.table state w.value

module _ {n : Numbers} {w : Memory} {state : List ℕ} (k : IsSession n w) (m : Remade w.arities w.state n.live state) where
  -- the session is the same
  remade-session : session_of n (with_words w state) ≡ session_of n w
  unfolding session_of
  remade-session = ap (with_live (session_of n w)) (reindexed-live m.stays k.stored.live).0

  -- and has its index
  remade-kept : Kept n (with_words w state)
  remade-kept = record {
    stored = stored-state state n.live k.stored (reindexed-live m.stays k.stored.live).1;
    good = subst GoodSession (sym remade-session) k.good;
    indexed = m.index;
  }

-- behind a line too
kept-session : {n : Numbers} {w : Memory} → Kept n w → IsSession n w
kept-session k = record { stored = k.stored; good = k.good }

module _ {numbers : List ℕ} {w : Memory} {work answer : List ℕ} {more : ℕ} {p : Position} (g : Given numbers w work answer more) (e : p ≡ position_at numbers) where
  session-here : IsSession p.numbers w
  session-here = subst (λ (q : Position). IsSession q.numbers w) (sym e) g.session

  pub line-live : GoodLive w.state p.numbers.live
  line-live = session-here.stored.live

  module _ {state : List ℕ} (m : Remade w.arities w.state p.numbers.live state) where
    pub line_kept : Kept p.numbers (with_words w state)
    line_kept = remade-kept session-here m

    same-session : session_of p.numbers (with_words w state) ≡ session_of p.numbers w
    same-session = remade-session session-here m

-- ===== A line =====

-- a text that goes on
pub line-few : {numbers : List ℕ} {w : Memory} {work answer : List ℕ} {p : Position} → Given numbers w work answer 1 → p ≡ position_at numbers → p.lines < most_lines
line-few g e = omega (arith, g.lines, ap (λ (q : Position). q.lines) e)

-- an answer that has room
module _ {s answer answer' : List ℕ} {r : Option ℕ} (g : most_bytes ≤ length answer) (short : length s ≤ most_bytes) (x : Placed answer 0 s r answer') where
  has-place : leb (0 + length s) (length answer) ≡ true
  has-place = le-leb (0 + length s) (length answer) (omega (arith, short, g))

  placed_end : put_end r ≡ length s
  unfolding put_answer
  placed_end = ap put_end (x.answer ∙ ap (λ (b : Bool). cond b (Some (0 + length s)) None) has-place) ∙ zero-add (length s)

  placed-buffer : answer' ≡ s ++ drop (length s) answer
  unfolding put_result
  placed-buffer =
      x.result ∙ ap (λ (b : Bool). cond b (take 0 answer ++ s ++ drop (0 + length s) answer) answer) has-place
      ∙ ap₂ (λ (t : List ℕ) (n : ℕ). t ++ s ++ drop n answer) (take_none answer) (zero-add (length s))

-- words that are one session are answered alike
sent-as : {s out out' : List ℕ} {number place : ℕ} {n : Numbers} {w v w' : Memory} {r : Sent} → session_of n v ≡ session_of n w → v.table ≡ w.table
    → Sends s number n v out place r w' out' → Sends s number n w out place r w' out'
sent-as {s} {out} {out'} {number} {place} {n} {w} {v} {w'} {r} e t x = record {
  session = x.session ∙ ap (λ (σ : Session). (reply σ number s).session) e;
  kept = x.kept;
  placed = subst (λ (σ : Session). Placed out place (reply_bytes (reply σ number s)) r.put out') e x.placed;
  short = subst (λ (σ : Session). length (reply_bytes (reply σ number s)) ≤ most_bytes) e x.short;
  carried = record {
    starts = subst (λ (z : List ℕ). KeepsStarts z n.head w'.table r.numbers.head) t x.carried.starts;
    idle = x.carried.idle;
  };
}

-- the part of a session's numbers
part_of : (n : Numbers) (w : Memory) {σ : Session} {p : Part} → session_of n w ≡ σ → σ.part ≡ p → n.part ≡ p
unfolding session_of
part_of n w e h = ap (λ (σ : Session). σ.part) e ∙ h

-- where listings begin behind a line, by the session that it leads to
behind-starts : {n n' : Numbers} {w w' : Memory} {σ : Session} → Stored n w → Stored n' w' → Carried n w n' w' → session_of n' w' ≡ σ
    → (s : Slot) → has_start σ s ≡ true → starts_of n' w' s ≡ starts_behind (session_of n w) σ (starts_of n w) s
behind-starts {n} {n'} {w} {w'} a b c e s =
    subst (λ (τ : Session). has_start τ s ≡ true → starts_of n' w' s ≡ starts_behind (session_of n w) τ (starts_of n w) s) e (carried-starts a b c s)

module _ (line : List ℕ) {numbers : List ℕ} {w : Memory} {work answer : List ℕ} (g : Given numbers w work answer 1) {k : ℕ}
    (en : k ≡ entry_number (is_open numbers w 1) (can_answer work answer)) (z : k ≡ 0) where
  module _ (bytes : ℕ) {p : Position} {r : Sent} {m : Bool} {numbers' : List ℕ} {w' : Memory} {answer' : List ℕ} (ep : p ≡ position_at numbers)
      (em : m ≡ (p.met || has_bytes line)) {state : List ℕ} (made : Remade w.arities w.state p.numbers.live state)
      (x : Sends line (p.lines + 1) p.numbers (with_words w state) answer 0 r w' answer')
      (u : numbers' ≡ saved_words r.numbers (p.lines + 1) m ++ drop number_words numbers) {bytes' : ℕ} (v : bytes' ≡ put_end r.put) where
    pub line-done : Replies line numbers w work answer bytes 0 numbers' w' answer' bytes'
    unfolding after_line
    line-done =
        let t : List ℕ = drop number_words numbers in
        let j : p.lines + 1 ≡ suc (lines_at numbers) = add-one p.lines ∙ ap (λ (q : Position). suc q.lines) ep in
        let y : Sends line (suc (lines_at numbers)) (numbers_at numbers) w answer 0 r w' answer' =
        subst (λ (o : Numbers). Sends line (suc (lines_at numbers)) o w answer 0 r w' answer') (ap (λ (q : Position). q.numbers) ep)
        (subst (λ (i : ℕ). Sends line i p.numbers w answer 0 r w' answer') j (sent-as (same-session g ep made) refl x)) in
        let o : numbers_at numbers' ≡ r.numbers = ap numbers_at u ∙ saved-numbers r.numbers (p.lines + 1) m t in
        record {
          number = sym z ∙ en;
          does = subst (λ (b : Bool). DoneOrLeft b
              (IsAnswered (after_line (progress_at numbers w) line) (starts_after line numbers w) numbers answer numbers' w' answer' bytes')
              (IsUntouched numbers w answer bytes numbers' w' answer' bytes')) (sym g.both) (record {
                session = ap (λ (q : Numbers). session_of q w') o ∙ y.session;
                starts = λ t h. ap (λ (q : Numbers). starts_of q w' t) o
                    ∙ behind-starts g.session.stored y.kept.stored y.carried y.session t h;
                idle = λ h. ap (λ (q : Numbers). q.held) o ∙ (y.carried.idle (part_of r.numbers w' y.session h)).1;
                again = decided (session-is (numbers_at numbers') w') (subst (λ (q : Numbers). IsSession q w') (sym o) (kept-session y.kept));
                saved = u ∙ (λ i. saved_words (sym o i) (j i) ((em ∙ ap (λ (q : Position). q.met || has_bytes line) ep) i) ++ t);
                buffer = placed-buffer g.answer-room y.short y.placed;
                byte-count = v ∙ placed_end g.answer-room y.short y.placed;
              });
        }

-- ===== A block of lines =====

pub lines-answerable : {block numbers : List ℕ} {w : Memory} {work answer : List ℕ} {p : Position} {state : List ℕ} → Given numbers w work answer (length block)
    → p ≡ position_at numbers → Remade w.arities w.state p.numbers.live state → Answerable block 0 p (with_words w state) work answer
lines-answerable g e m = record {
  inside = omega arith;
  going = record { kept = line_kept g e m; within = omega (arith, ap (λ (q : Position). q.end) e) };
  lines = omega (arith, g.lines, ap (λ (q : Position). q.lines) e);
  work-room = g.work-room;
}

-- where no answer is written yet
progress-here : (numbers : List ℕ) (w : Memory) (answer : List ℕ) → progress_of (position_at numbers) w answer ≡ progress_at numbers w
unfolding progress_of
progress-here numbers w answer =
    λ i. record { session = session_of (numbers_at numbers) w; lines = lines_at numbers; met = met_at numbers; bytes = take_none answer i }

module _ {block numbers : List ℕ} {w : Memory} {work answer : List ℕ} (g : Given numbers w work answer (length block)) {k : ℕ}
    (en : k ≡ entry_number (is_open numbers w (length block)) (can_answer work answer)) (z : k ≡ 0) {p : Position} (ep : p ≡ position_at numbers)
    {state : List ℕ} (made : Remade w.arities w.state p.numbers.live state) {r : Answered} {w' : Memory} {answer' : List ℕ}
    (reaches : Reaches block 0 most_bytes (progress_of p (with_words w state) answer) (whole_of block 0 most_bytes (progress_of p (with_words w state) answer) answer) answer r w' answer')
    (stands : CarriedOver block 0 most_bytes (progress_of p (with_words w state) answer) p (with_words w state) answer r w') where
  abbrev x : Whole
  x = answered_lines block numbers w answer

  progress-same : progress_of p (with_words w state) answer ≡ progress_of p w answer
  unfolding progress_of
  progress-same = λ i. record { session = same-session g ep made i; lines = p.lines; met = p.met; bytes = take p.end answer }

  y : Reaches block 0 most_bytes (progress_of p w answer) (whole_of block 0 most_bytes (progress_of p w answer) answer) answer r w' answer'
  y = subst (λ (q : Progress). Reaches block 0 most_bytes q (whole_of block 0 most_bytes q answer) answer r w' answer') progress-same reaches

  whole_here : whole_of block 0 most_bytes (progress_of p w answer) answer ≡ x
  whole_here =
      ap (λ (q : Progress). whole_from most_bytes (length answer) q (lines_of block).whole)
      (ap (λ (q : Position). progress_of q w answer) ep ∙ progress-here numbers w answer)

  reached : progress_of r.position w' answer' ≡ x.progress
  reached = y.is ∙ ap (λ (t : Whole). t.progress) whole_here

  here-same : progress_of p (with_words w state) answer ≡ progress_at numbers w
  here-same = progress-same ∙ ap (λ (q : Position). progress_of q w answer) ep ∙ progress-here numbers w answer

  session-reached : session_of r.position.numbers w' ≡ x.progress.session
  unfolding progress_of
  session-reached = ap (λ (q : Progress). q.session) reached

  starts-are : (s : Slot) → has_start x.progress.session s ≡ true → starts_of r.position.numbers w' s ≡ answered_starts block numbers w answer s
  starts-are s h =
      stands.starts s (subst (λ (τ : Session). has_start τ s ≡ true) (sym session-reached) h)
      ∙ (λ i. starts_from most_bytes (length answer) (here-same i) (lines_of block).whole (starts_of (ep i).numbers w) s)

  bytes-are : take r.position.end answer' ≡ x.progress.bytes
  unfolding progress_of
  bytes-are = ap (λ (q : Progress). q.bytes) reached

  end_is : r.position.end ≡ length x.progress.bytes
  end_is = sym (length-take-le r.position.end answer' y.going.within) ∙ ap length bytes-are

  buffer-is : answer' ≡ x.progress.bytes ++ drop (length x.progress.bytes) answer
  buffer-is =
      sym (take-append-drop r.position.end answer')
      ∙ ap₂ ◌++◌ bytes-are (y.behind ∙ ap (λ (n : ℕ). drop n answer) end_is)

  module _ (bytes read : ℕ) {numbers' : List ℕ}
      (u : numbers' ≡ saved_words r.position.numbers r.position.lines r.position.met ++ drop number_words numbers) where
    numbers-are : numbers_at numbers' ≡ r.position.numbers
    numbers-are = ap numbers_at u ∙ saved-numbers r.position.numbers r.position.lines r.position.met (drop number_words numbers)

    answered : IsAnswered x.progress (answered_starts block numbers w answer) numbers answer numbers' w' answer' r.position.end
    unfolding progress_of
    answered =
        let t : List ℕ = drop number_words numbers in
        record {
          session = ap (λ (q : Numbers). session_of q w') numbers-are ∙ session-reached;
          starts = λ t h. ap (λ (q : Numbers). starts_of q w' t) numbers-are ∙ starts-are t h;
          idle = λ h. ap (λ (q : Numbers). q.held) numbers-are ∙ stands.idle (part_of r.position.numbers w' session-reached h) ∙ ap (λ (q : Position). q.numbers.held) ep;
          again = decided (session-is (numbers_at numbers') w') (subst (λ (q : Numbers). IsSession q w') (sym numbers-are) (kept-session y.going.kept));
          saved = u ∙ (λ i. saved_words (sym numbers-are i) (reached i).lines (reached i).met ++ t);
          buffer = buffer-is;
          byte-count = end_is;
        }

    pub lines-done : RepliesAll block numbers w work answer bytes read 0 numbers' w' answer' r.position.end r.at
    lines-done = record {
      number = sym z ∙ en;
      does = subst (λ (b : Bool). DoneOrLeft b
          (AreAnswered block x (answered_starts block numbers w answer) numbers answer numbers' w' answer' r.position.end r.at)
          (AreUntouched numbers w answer bytes read numbers' w' answer' r.position.end r.at)) (sym g.both) (record {
            answered = answered;
            fits = sym (y.full ∙ ap (λ (t : Whole). t.full) whole_here) ∙ y.never (omega arith);
            inside = y.inside;
            left = y.left ∙ ap (λ (t : Whole). record { whole = t.left; rest = (lines_of block).rest }) whole_here;
          });
    }

-- ===== The end =====

module _ (numbers : List ℕ) where
  pub close-numbers : length numbers < number_words → false ≡ can_close numbers
  close-numbers h = stops _ (lt-leb number_words (length numbers) h)

  pub close-plain : {b : Bool} → number_words ≤ length numbers → b ≡ is_plain numbers → b ≡ can_close numbers
  close-plain h q = goes (le-leb number_words (length numbers) h) q

  pub close-room : {b : Bool} → b ≡ can_close numbers → not b ≡ false → number_words ≤ length numbers
  close-room q f = leb-true number_words (length numbers) (and_left (leb number_words (length numbers)) _ (passed q f))

-- the closing answer is short
closing-short : (p : Part) (m : Bool) → length (closing p m) ≤ most_bytes
unfolding closing answer_line
closing-short p m = go (unfinished p m)
  where
    go : (u : Bool) → length (cond u (answer_line (Refused Place 0)) []) ≤ most_bytes
    go true = omega arith
    go false = omega arith

-- the position that the end of a text is asked of, its answers given away
abbrev pub last_at : Numbers → Bool → Position
last_at n m = record { numbers = n; lines = 0; met = m; end = 0 }

-- and how far the text is read
abbrev here_at : Numbers → Bool → List ℕ → Progress
here_at n m answer = progress_of (last_at n m) (memory_of [] [] [] [] [] []) answer

module _ (numbers answer : List ℕ) {b : Bool} (q : b ≡ can_close numbers) where
  unclosed : {bytes k : ℕ} → k ≡ entry_number (can_close numbers) (leb most_bytes (length answer)) → (can_close numbers && leb most_bytes (length answer)) ≡ false
      → Closes numbers answer bytes k answer bytes
  unclosed {bytes} h e = record {
    number = h;
    does = subst (λ (x : Bool). DoneOrLeft x (IsClosed numbers answer answer bytes) (IsUnclosed answer bytes answer bytes)) (sym e)
        (record { answer-left = refl; bytes_left = refl });
  }

  pub close-none : {bytes k : ℕ} → not b ≡ true → k ≡ number_of Listing → Closes numbers answer bytes k answer bytes
  close-none f h =
      let z = refused q f in
      unclosed (enter-none (can_close numbers) (leb most_bytes (length answer)) q f h) (ap (λ (x : Bool). x && leb most_bytes (length answer)) z)

  pub close-small : {bytes k : ℕ} → not b ≡ false → length answer < most_bytes → k ≡ number_of Buffer → Closes numbers answer bytes k answer bytes
  unfolding entry_number
  close-small f l h =
      let z = passed q f in
      let y = lt-leb most_bytes (length answer) l in
      unclosed (h ∙ sym (ap₂ entry_number z y)) (ap₂ ◌&&◌ z y)

  module _ {n : Numbers} {m : Bool} (f : not b ≡ false) (long : most_bytes ≤ length answer) (e : n ≡ numbers_at numbers) (g : m ≡ met_at numbers) where
    module _ {r : Ran} {answer' : List ℕ} (x : (w : Memory) (s : List ℕ) → length s ≡ 0 → Fills (fill_rest (length answer) (progress_of (last_at n m) w answer) s) answer r answer') where
      all : all_bytes (here_at n m answer) ≡ closing_at numbers
      unfolding progress_of session_of
      all = ap (λ (s : List ℕ). s ++ closing n.part m) (take_none answer) ∙ (λ i. closing (e i).part (g i))

      room : length (closing_at numbers) ≤ length answer
      room = omega (arith, long, closing-short (numbers_at numbers).part (met_at numbers))

      none-long : length (here_at n m answer).bytes ≡ 0
      unfolding progress_of
      none-long = ap length (take_none answer)

      filled_is : fill_rest (length answer) (here_at n m answer) [] ≡ record { bytes = closing_at numbers; answer = R.Done (length (closing_at numbers)) }
      unfolding fill_closing
      filled_is =
          rest-none (length answer) (here_at n m answer) (omega (arith, none-long))
          ∙ rw (le-leb (length (all_bytes (here_at n m answer))) (length answer) (omega (arith, room, ap length all)))
          (λ i. record { bytes = all i; answer = R.Done (length (all i)) })

      closed : Fills (record { bytes = closing_at numbers; answer = R.Done (length (closing_at numbers)) }) answer r answer'
      closed = subst (λ (f : Filled). Fills f answer r answer') filled_is (x (memory_of [] [] [] [] [] []) [] refl)

      pub close-done : {bytes k : ℕ} → r ≡ R.Done k → Closes numbers answer bytes 0 answer' k
      unfolding entry_number
      close-done {bytes} {k} i =
          let d = sym i ∙ closed.answer in
          let l : k ≡ length (closing_at numbers) = cc in
          let z = passed q f in
          let y = le-leb most_bytes (length answer) long in
          record {
            number = sym (ap₂ entry_number z y);
            does = subst (λ (x : Bool). DoneOrLeft x (IsClosed numbers answer answer' k) (IsUnclosed answer bytes answer' k)) (sym (ap₂ ◌&&◌ z y))
                (record { buffer = closed.result; byte-count = l });
          }

      -- it has room
      pub close_never : {bytes u v k : ℕ} → r ≡ R.Full u v → Closes numbers answer bytes k answer' bytes
      close_never i = absurd (let d = sym i ∙ closed.answer in let z : ◌≡◌ {A = ℕ} 0 1 = cc in omega arith)
