-- Laws of (count n).
use mathlib.Core.Path.{◌≡◌, refl, sym, ap, ap₂, subst, ◌∙◌}
use mathlib.Core.Bool.{Bool, true, false, not, ◌&&◌, cond}
use mathlib.Core.List.{List}
use Prim.Native.Nat.{ℕ, ◌*◌}
use native.Mathlib.Omega.{arith}
use lib.ListN.{length, take}
use lib.Seq.{length-take-le}
use lib.Dec.{leb, ltb}
use Rattle.refusal.specs.declared.Refusal.{Refusal}
use Rattle.refusal.specs.declared.Refusal.TheVariants.{Range, Ground, Valuations}
use Rattle.refusal.specs.Outcome.{Outcome, ok, refused}
use Rattle.label.specs.Limits.{constant_count}
use Rattle.diagram.specs.Listing.{diagram_of, listing}
use Rattle.diagram.specs.Listings.{is-listing-diagram}
use Rattle.state.specs.Lent.{constants_below, most_objects}
use Rattle.names.specs.KeyLaws.{length-keys}
use Rattle.names.specs.Layout.{declared_at}
use Rattle.spread.specs.Ground.{most_ground, ground_count}
use Rattle.spread.specs.Spread.{Entry, entry_words, some_too_large, spread}
use Rattle.events.specs.declared.Next.{Next}
use Rattle.events.specs.Events.{first_word}
use Rattle.events.specs.Inner.{next_at}
use Rattle.events.specs.Contents.{number_in}
use Rattle.answers.specs.declared.Answer.{Answer}
use Rattle.answers.specs.declared.Answer.TheVariants as A
use Rattle.text.specs.declared.Kind.TheVariants as K
use Rattle.session.specs.Session.{Session, refuse_if}
use Rattle.session.specs.Running.{count_read, entries_in}
use Rattle.session.specs.Replies.{Reply, count_says, done, words_of}
use Rattle.session.specs.Texts.{table_of}
use Rattle.declare.specs.Tables.{names_of}
use Rattle.facts.specs.Words.{live_of}
use Rattle.model.specs.Layout.{model_of}
use Rattle.count_states.specs.Counted.{counted_as, Counts}
use Rattle.memory.specs.declared.Numbers.{Numbers}
use Rattle.memory.specs.Inner.{Ready, Answers, Shown}
use Rattle.memory.specs.Memory.{Memory, memory_of, session_of}
use Rattle.memory.specs.CarriedLaws.{carried_same}
use Rattle.memory.specs.WordLaws.{first-is}
use Rattle.memory.specs.RunLaws.{run-holding}
use Rattle.desk_lines.specs.Lines.{CountTask, CountAnswered}
use Rattle.desk_lines.specs.Counting.{spread_read, Spreadable}
use Rattle.std.specs.Prelude.{Err, Ok, Result}

-- ===== What is lent =====

module _ {s : List ℕ} {n : Numbers} {ar state value work : List ℕ} (t : CountTask s n ar state value work) where
  pub count-rows-long : n.held.rows * 3 ≡ length (take (n.held.rows * 3) value)
  count-rows-long = sym (length-take-le (n.held.rows * 3) value t.rows)

  pub count-constants-long : constant_count ≡ length (take constant_count state)
  count-constants-long = sym (length-take-le constant_count state (omega (arith, t.live.room)))

  pub spreadable : Spreadable ar n.counts.predicates (take (n.held.rows * 3) value) work
  spreadable = record { declared = t.predicates; listed = t.listing; room = omega (arith, t.room) }

-- ===== What is read of a session's words =====

module _ (n : Numbers) (w : Memory) (objects : ℕ) where
  abbrev O : Outcome (List Entry)
  O = count_read (session_of n w).model (session_of n w).names (session_of n w).live (session_of n w).held.diagram objects

  abbrev ws : List ℕ
  ws = take (n.held.rows * 3) w.value

  reads : listing (diagram_of ws) ≡ ws → spread_read w.arities n.counts.predicates objects (take constant_count w.state) ws ≡ O
  unfolding session_of count_read spread_read names_of live_of model_of
  reads e =
      ap₂ (λ (c : ℕ) (l : List ℕ). spread_read w.arities c objects (take constant_count w.state) l)
      (sym (length-keys w.names declared_at n.counts.predicates)) (sym e)

-- the entries that are shown are those that were counted
accepted : (a b c d : Bool) (fs : List Entry) {es : List Entry}
    → refuse_if a Range (refuse_if b Range (cond c (refused Ground) (cond d (refused Valuations) (ok fs)))) ≡ ok es → fs ≡ es
accepted false false false false fs e = cc
accepted true b c d fs e = let z : ◌≡◌ {A = ℕ} 0 1 = cc in absurd (omega arith)
accepted false true c d fs e = let z : ◌≡◌ {A = ℕ} 0 1 = cc in absurd (omega arith)
accepted false false true d fs e = let z : ◌≡◌ {A = ℕ} 0 1 = cc in absurd (omega arith)
accepted false false false true fs e = let z : ◌≡◌ {A = ℕ} 0 1 = cc in absurd (omega arith)

module _ (σ : Session) (objects : ℕ) where
  abbrev read : Outcome (List Entry)
  read = count_read σ.model σ.names σ.live σ.held.diagram objects

  pub entries-are : {es : List Entry} → read ≡ ok es → entries_in σ.model σ.names σ.live σ.held.diagram objects ≡ es
  unfolding count_read spread
  entries-are e =
      let ar = σ.model.arities in
      let count = length σ.names.predicates in
      accepted (not (leb 1 objects && leb objects most_objects)) (not (constants_below objects σ.live.constants)) (ltb most_ground (ground_count ar count objects))
      (some_too_large ar count objects σ.live.constants (listing σ.held.diagram)) _ e

-- ===== What the line is answered =====

module _ (σ : Session) (number objects : ℕ) where
  lines-says : (o : Outcome (List Entry)) {m : ℕ} → counted_as o ≡ Ok m → A.Count objects m ≡ (count_says σ number objects o).answer
  lines-says (ok es) e = ap (A.Count objects) (cc)
  lines-says (refused x) e = let z : ◌≡◌ {A = ℕ} 0 1 = cc in absurd (omega arith)

  refused_says : (o : Outcome (List Entry)) {x : Refusal} → counted_as o ≡ Err x → A.Refused x number ≡ (count_says σ number objects o).answer
  refused_says (ok es) e = let z : ◌≡◌ {A = ℕ} 0 1 = cc in absurd (omega arith)
  refused_says (refused y) {x} e = let z : x ≡ y = cc in ap (λ (r : Refusal). A.Refused r number) z

  same-session : (o : Outcome (List Entry)) → σ ≡ (count_says σ number objects o).session
  same-session (ok es) = refl
  same-session (refused x) = refl

  -- the words of the entries stand in front of the table
  shown-says : (o : Outcome (List Entry)) (table : List ℕ) → read σ objects ≡ o
      → ((es : List Entry) → o ≡ ok es → take (length (entry_words es)) table ≡ entry_words es) → Shown (count_says σ number objects o) table
  unfolding table_of
  shown-says (ok es) table e h = subst (λ (x : List Entry). take (length (entry_words x)) table ≡ entry_words x) (sym (entries-are σ objects e)) (h es refl)
  shown-says (refused x) table e h = refl

module _ (s : List ℕ) (number : ℕ) (n : Numbers) (ar state value : List ℕ) {i objects : ℕ} {x : Next} {q : Result ℕ Refusal} {table : List ℕ}
    (p : i ≡ first_word K.Count) (e : x ≡ next_at s i) (u : objects ≡ number_in x.event)
    (c : Counts (spread_read ar n.counts.predicates objects (take constant_count state) (take (n.held.rows * 3) value)) q table) where
  -- whatever the words are that are not lent
  module _ (names listings tables : List ℕ) (r : Ready K.Count s n (memory_of names ar listings tables state value)) where
    done-is :
        done (session_of n (memory_of names ar listings tables state value)) number K.Count (words_of K.Count s)
        ≡ count_says (session_of n (memory_of names ar listings tables state value)) number objects (read (session_of n (memory_of names ar listings tables state value)) objects)
    unfolding done
    done-is =
        let σ = session_of n (memory_of names ar listings tables state value) in
        ap (λ (k : ℕ). count_says σ number k (read σ k)) (sym (u ∙ ap number_in (first-is K.Count s p e)))

    counted : Counts (read (session_of n (memory_of names ar listings tables state value)) objects) q table
    counted =
        let d = is-listing-diagram ar (take (n.held.rows * 3) value) (run-holding refl r).listing in
        subst (λ (o : Outcome (List Entry)). Counts o q table) (reads n (memory_of names ar listings tables state value) objects d) c

    answers : {a : Answer}
        → a ≡ (count_says (session_of n (memory_of names ar listings tables state value)) number objects (read (session_of n (memory_of names ar listings tables state value)) objects)).answer
        → Answers K.Count s number n (memory_of names ar listings tables state value) (record { numbers = n; answer = a }) (memory_of names ar listings tables state value)
    answers f =
        let σ = session_of n (memory_of names ar listings tables state value) in
        record {
          answer = f ∙ sym (ap (λ (y : Reply). y.answer) done-is);
          session = same-session σ number objects (read σ objects) ∙ sym (ap (λ (y : Reply). y.session) done-is);
          stored = r.stored;
          indexed = r.indexed;
          carried = carried_same n (memory_of names ar listings tables state value);
        }

    lines-answers : {m : ℕ} → q ≡ Ok m
        → Answers K.Count s number n (memory_of names ar listings tables state value) (record { numbers = n; answer = A.Count objects m })
        (memory_of names ar listings tables state value)
    lines-answers f =
        let σ = session_of n (memory_of names ar listings tables state value) in
        answers (lines-says σ number objects (read σ objects) (sym counted.answer ∙ f))

    refused-answers : {why : Refusal} → q ≡ Err why
        → Answers K.Count s number n (memory_of names ar listings tables state value) (record { numbers = n; answer = A.Refused why number })
        (memory_of names ar listings tables state value)
    refused-answers f =
        let σ = session_of n (memory_of names ar listings tables state value) in
        answers (refused_says σ number objects (read σ objects) (sym counted.answer ∙ f))

    shows : Shown (done (session_of n (memory_of names ar listings tables state value)) number K.Count (words_of K.Count s)) table
    shows =
        let σ = session_of n (memory_of names ar listings tables state value) in
        subst (λ (y : Reply). Shown y table) (sym done-is) (shown-says σ number objects (read σ objects) table refl counted.lines)

  pub count-lines : {m : ℕ} → q ≡ Ok m → CountAnswered s number n ar state value (record { numbers = n; answer = A.Count objects m }) table
  count-lines f = record { says = λ names listings tables r. lines-answers names listings tables r f; shows = λ names listings tables r. shows names listings tables r }

  pub count-refused : {why : Refusal} → q ≡ Err why → CountAnswered s number n ar state value (record { numbers = n; answer = A.Refused why number }) table
  count-refused f = record { says = λ names listings tables r. refused-answers names listings tables r f; shows = λ names listings tables r. shows names listings tables r }
