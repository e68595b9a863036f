-- Laws of valuing and counting the choices, in the words of the code.
use mathlib.Core.Path.{◌≡◌, refl, ap, ap₂, sym, ◌∙◌, subst, fun_ext}
use mathlib.Core.Bool.{Bool, true, false, ◌||◌, cond}
use mathlib.Core.List.{List, [], ◌∷◌}
use Prim.Native.Nat.{ℕ, zero, suc, ◌+◌, ◌-◌, ◌*◌, ◌^◌, ◌≤◌, ◌<◌, max}
use native.Mathlib.Omega.{arith}
use native.Mathlib.Nat.{pow-le-pow_right}
use lib.ListN.{length, take, replicate, length-replicate}
use lib.Seq.{length-take-le}
use borrow.Author.Tests.{le-ltb}
use Rattle.basics.specs.Tests.{Flag, is_true, is_false, flag}
use Rattle.refusal.specs.declared.Refusal.{Refusal}
use Rattle.refusal.specs.declared.Refusal.TheVariants.{Ground as TooManyGround, Valuations}
use Rattle.refusal.specs.Outcome.{Outcome, ok, refused}
use Rattle.diagram.specs.Sizes.{most_rows}
use Rattle.diagram.specs.Words.{row_count}
use Rattle.diagram.specs.Listing.{diagram_of}
use Rattle.diagram.specs.Variables.{is_plain}
use Rattle.diagram.specs.ListingValid.{listing-is-valid}
use Rattle.state.specs.Lent.{fact_words, some_below, state_of, is_state}
use Rattle.state.proofs.LentLaws.{some-made}
use Rattle.elimination.specs.Answer.{is_too_large}
use Rattle.spread.specs.Ground.{most_ground, ground_facts, ground_count, rows_of, lent_choice, choice_state}
use Rattle.spread.specs.Spread.{Entry, entry_words, entries, values, value_in, entries_of, some_too_large, spread}
use Rattle.spread.proofs.ChoiceLaws.{arities-few}
use Rattle.spread.proofs.LeafLaws.{entries-few}
use Rattle.spread.proofs.LentChoiceLaws.{lent-choice, choice-good, spread-many}
use Rattle.fact_index.specs.Inner.{Indexed, indexed_count, Clean}
use Rattle.valuing.specs.Search.{Topping, Tops}
use Rattle.valuing.specs.Walks.{bound_number, bound_answer, climbed, is_few, Prepared}
use Rattle.valuing.specs.WalkLaws.{topping-room, prepared}
use Rattle.count_states.specs.Counted.{counted_as, Countable, Counts}
use Rattle.count_states.specs.Facts.{Power, Declared, picked, Chosen}
use Rattle.count_states.specs.Table.{line_words, entries_at, most_states, enter, Enterable, Entered}
use Rattle.count_states.specs.States.{Valuing, Choices, value_of, large_at, rows_spread, Spreading}
use Rattle.count_states.proofs.ChoiceLaws.{picked-lent}
use Rattle.count_states.proofs.TableLaws.{entries-words}
use Rattle.count_states.proofs.EntryLaws.{entries-step, entries-count, entries-enterable}
use Rattle.std.specs.Prelude.{Err, Ok, Result}

-- ===== value_facts =====
pub facts-prepared : {ar ws high : List ℕ} {few plain : Bool} {n : ℕ} {constants facts index : List ℕ} → Valuing ar ws high few plain n → is_state ar n constants facts ≡ true
    → Indexed ar facts index (indexed_count facts index) → Prepared ar ws high n constants facts index
facts-prepared {ar} {ws} {high} {few} {plain} {n} {constants} {facts} {index} v s i = prepared ar ws high n constants facts index v.listed s v.places v.tops i

-- ===== value_choice =====
pub chosen-length : {rows facts' : List ℕ} {g c m : ℕ} → Chosen rows g c m facts' → m ≡ length (take m facts')
chosen-length {facts' = facts'} {m = m} k = sym (length-take-le m facts' k.most)

pub chosen-state : {ar : List ℕ} {n : ℕ} {constants rows : List ℕ} {g : ℕ} {facts facts' : List ℕ} {c m : ℕ} → Choices ar n constants rows g facts → Chosen rows g c m facts'
    → is_state ar n constants (take m facts') ≡ true
chosen-state {ar} {n} {constants} {c = c} h k = ap (is_state ar n constants) k.words ∙ h.lent c

pub chosen-value : (ar ws : List ℕ) (n : ℕ) (constants : List ℕ) {rows facts' : List ℕ} {g c m : ℕ} {r : Result ℕ Refusal} → Chosen rows g c m facts'
    → r ≡ climbed 0 (bound_answer ar ws n constants (take m facts') []) → r ≡ climbed 0 (bound_answer ar ws n constants (picked rows g c) [])
chosen-value ar ws n constants k e = e ∙ ap (λ z. climbed 0 (bound_answer ar ws n constants z [])) k.words

-- ===== count_choices =====
pub choices-power : {ar : List ℕ} {n : ℕ} {constants rows : List ℕ} {g : ℕ} {facts : List ℕ} → Choices ar n constants rows g facts → Power 2 g
choices-power h = record { some = omega arith; few = omega (arith, pow-le-pow_right {n = 2} (omega arith) h.few) }

-- what is lent stays long enough, the values of the first c choices are entered, and none of them meets 15
pub record Counting (ar ws : List ℕ) (n : ℕ) (constants rows : List ℕ) (g : ℕ) (facts₀ index₀ table₀ : List ℕ) (states : ℕ) (facts index table : List ℕ) (count c : ℕ) : Type 0 where
  pub facts-size : length facts ≡ length facts₀
  pub index-size : length index ≡ length index₀
  pub table-size : length table ≡ length table₀
  pub clean : Clean index
  pub within : c ≤ states
  pub small : some_below c (large_at ar ws n constants rows g) ≡ false
  pub entered : entries_at table count ≡ entries c (value_of ar ws n constants rows g)

pub counting-start : (ar ws : List ℕ) (n : ℕ) (constants rows : List ℕ) (g : ℕ) (facts index table : List ℕ) (states : ℕ) → Clean index
    → Counting ar ws n constants rows g facts index table states facts index table 0 0
unfolding entries_at entries values
counting-start ar ws n constants rows g facts index table states k =
    record { facts-size = refl; index-size = refl; table-size = refl; clean = k; within = omega arith; small = refl; entered = refl }

-- a value that is answered, and a refusal
abbrev pub too_large : List ℕ → List ℕ → ℕ → List ℕ → List ℕ → Bool
too_large ar ws n constants facts = is_too_large ar (state_of ar n constants facts) [] ws

module _ (ar ws : List ℕ) (n : ℕ) (constants facts : List ℕ) {r : Result ℕ Refusal} (e : r ≡ climbed 0 (bound_answer ar ws n constants facts [])) where
  answered : (b : Bool) → too_large ar ws n constants facts ≡ b → r ≡ climbed 0 (cond b (Err Valuations) (Ok (bound_number ar ws n constants facts [])))
  unfolding bound_answer
  answered b q = e ∙ ap (λ z. climbed 0 (cond z (Err Valuations) (Ok (bound_number ar ws n constants facts [])))) q

  pub value-told : {v : ℕ} → r ≡ Ok v → (too_large ar ws n constants facts ≡ false) × (v ≡ suc (bound_number ar ws n constants facts []))
  unfolding climbed
  value-told {v} q = go (flag (too_large ar ws n constants facts))
    where
      go : Flag (too_large ar ws n constants facts) → (too_large ar ws n constants facts ≡ false) × (v ≡ suc (bound_number ar ws n constants facts []))
      go (is_true t) = let z : Ok v ≡ Err Valuations = sym q ∙ answered true t in let w : ◌≡◌ {A = ℕ} 0 1 = cc in absurd (omega arith)
      go (is_false t) =
          let z : Ok v ≡ Ok (max 0 (suc (bound_number ar ws n constants facts []))) = sym q ∙ answered false t in
          let w : v ≡ max 0 (suc (bound_number ar ws n constants facts [])) = cc in
          (t, omega arith)

  pub refusal-told : {why : Refusal} → r ≡ Err why → too_large ar ws n constants facts ≡ true
  unfolding climbed
  refusal-told {why} q = go (flag (too_large ar ws n constants facts))
    where
      go : Flag (too_large ar ws n constants facts) → too_large ar ws n constants facts ≡ true
      go (is_true t) = t
      go (is_false t) =
          let z : Err why ≡ Ok (max 0 (suc (bound_number ar ws n constants facts []))) = sym q ∙ answered false t in
          let w : ◌≡◌ {A = ℕ} 0 1 = cc in
          absurd (omega arith)

  why-told : {why : Refusal} → r ≡ Err why → why ≡ Valuations
  unfolding climbed
  why-told {why} q = go (flag (too_large ar ws n constants facts))
    where
      go : Flag (too_large ar ws n constants facts) → why ≡ Valuations
      go (is_true t) = let z : Err why ≡ Err Valuations = sym q ∙ answered true t in cc
      go (is_false t) = let z : Err why ≡ Ok (max 0 (suc (bound_number ar ws n constants facts []))) = sym q ∙ answered false t in cc

module _ {ar ws : List ℕ} {n : ℕ} {constants rows : List ℕ} {g : ℕ} {facts₀ index₀ table₀ : List ℕ} {states : ℕ} {facts index table : List ℕ} {count c : ℕ}
    (h : Choices ar n constants rows g facts₀) (e : states ≡ 2 ^ g) (k : Counting ar ws n constants rows g facts₀ index₀ table₀ states facts index table count c) where
  pub choices-kept : Choices ar n constants rows g facts
  choices-kept = record { few = h.few; rows-there = h.rows-there; room = omega (arith, h.room, k.facts-size); lent = h.lent }

  states-few : states ≤ most_states
  states-few = omega (arith, e, pow-le-pow_right {n = 2} (omega arith) h.few)

  -- a choice that meets 15 refuses all
  pub counting-refused : {r : Result ℕ Refusal} {why : Refusal} → c < states → r ≡ climbed 0 (bound_answer ar ws n constants (picked rows g c) []) → r ≡ Err why
      → Counts (rows_spread ar ws n constants rows g) (Err why) table
  unfolding rows_spread
  counting-refused {r} {why} l q t = record {
    answer = ap Err (why-told ar ws n constants (picked rows g c) q t) ∙ sym (ap counted_as is);
    lines = λ es z. absurd (none es z);
  }
    where
      some : some_below (2 ^ g) (large_at ar ws n constants rows g) ≡ true
      some = some-made (2 ^ g) (large_at ar ws n constants rows g) c (omega (arith, e)) (refusal-told ar ws n constants (picked rows g c) q t)

      is : rows_spread ar ws n constants rows g ≡ refused Valuations
      is = rw some

      none : (es : List Entry) → rows_spread ar ws n constants rows g ≡ ok es → ⊥
      none es z = let y : ◌≡◌ {A = Outcome (List Entry)} (refused Valuations) (ok es) = sym is ∙ z in let w : ◌≡◌ {A = ℕ} 0 1 = cc in omega arith

  module _ (s : Spreading ar ws n constants rows g table₀) where
    lines-room : count * line_words + line_words ≤ length table
    lines-room = omega (arith, entries-count table count c (value_of ar ws n constants rows g) k.entered, s.lines c, s.room, k.table-size)

    pub counting-enterable : c < states → Enterable table count
    counting-enterable l = entries-enterable table count c (value_of ar ws n constants rows g) k.entered (omega (arith, states-few)) lines-room

    pub counting-end : states ≤ c → Counts (rows_spread ar ws n constants rows g) (Ok count) table
    unfolding rows_spread
    counting-end l = record { answer = ap Ok (entries-count table count c (value_of ar ws n constants rows g) k.entered) ∙ sym (ap counted_as is); lines = λ es z. words es z }
      where
        f : ℕ → ℕ
        f = value_of ar ws n constants rows g

        all : c ≡ 2 ^ g
        all = omega (arith, e, k.within)

        is : rows_spread ar ws n constants rows g ≡ ok (entries c f)
        is = ap (λ z. cond (some_below z (large_at ar ws n constants rows g)) (refused Valuations) (ok (entries z f))) (sym all) ∙ rw k.small

        words : (es : List Entry) → rows_spread ar ws n constants rows g ≡ ok es → take (length (entry_words es)) table ≡ entry_words es
        words es z =
            let y : ◌≡◌ {A = Outcome (List Entry)} (ok es) (ok (entries c f)) = sym z ∙ is in
            let x : es ≡ entries c f = cc in
            let w : entry_words es ≡ take (count * line_words) table = ap entry_words (x ∙ sym k.entered) ∙ entries-words table count (omega (arith, lines-room)) in
            ap (λ u. take (length u) table) w ∙ whole table (count * line_words) (omega (arith, lines-room)) ∙ sym w
          where
            whole : (t : List ℕ) (i : ℕ) → i ≤ length t → take (length (take i t)) t ≡ take i t
            whole t zero h = refl
            whole [] (suc i) h = refl
            whole (x ∷ t) (suc i) h = ap (λ z. x ∷ z) (whole t i (omega arith))

  pub value-some : {r : Result ℕ Refusal} {v : ℕ} → r ≡ climbed 0 (bound_answer ar ws n constants (picked rows g c) []) → r ≡ Ok v → 1 ≤ v
  value-some {r} {v} q t = omega (arith, (value-told ar ws n constants (picked rows g c) q t).1)

  -- one choice more
  pub counting-on : {r : Result ℕ Refusal} {v : ℕ} {facts' index' table' : List ℕ} {count' : ℕ} → c < states
      → r ≡ climbed 0 (bound_answer ar ws n constants (picked rows g c) []) → r ≡ Ok v
      → length facts' ≡ length facts → length index' ≡ length index → length table' ≡ length table
      → Clean index' → Entered table count (v - 1) count' table'
      → Counting ar ws n constants rows g facts₀ index₀ table₀ states facts' index' table' count' (c + 1)
  counting-on {r} {v} {facts'} {index'} {table'} {count'} l q t a b d clean' x =
      let f : ℕ → ℕ = value_of ar ws n constants rows g in
      let told = value-told ar ws n constants (picked rows g c) q t in
      let m : suc c ≡ c + 1 = omega arith in
      let y : v - 1 ≡ f c = omega (arith, told.1) in
      record {
        facts-size = a ∙ k.facts-size;
        index-size = b ∙ k.index-size;
        table-size = d ∙ k.table-size;
        clean = clean';
        within = omega arith;
        small = ap (λ z. some_below z (large_at ar ws n constants rows g)) (sym m) ∙ ap₂ ◌||◌ k.small told.0;
        entered = x.entries ∙ ap₂ enter y k.entered ∙ sym (entries-step c f) ∙ ap (λ z. entries z f) m;
      }

-- ===== count =====
module _ {ar : List ℕ} {count n : ℕ} {constants ws table : List ℕ} (h : Countable ar count n constants ws table) where
  pub countable-declared : Declared ar count n
  countable-declared = record { arities = (listing-is-valid ar ws h.listed).arities; few = h.declared; some = h.some; most = h.few }

  pub high-room : (m : ℕ) → most_rows ≤ m → Topping ws (replicate m 0)
  high-room m o = topping-room ar ws (replicate m 0) h.listed (omega (arith, length-replicate {A = ℕ} m 0))

  pub count-valuing : {high : List ℕ} {few plain : Bool} (m : ℕ) → most_rows ≤ m → length high ≡ length (replicate {A = ℕ} m 0) → Tops ws high (row_count ws) → few ≡ is_few ar n ws
      → plain ≡ is_plain ar (diagram_of ws) → Valuing ar ws high few plain n
  count-valuing m o s t f k = record { listed = h.listed; places = omega (arith, length-replicate {A = ℕ} m 0); tops = t; fits = f; kinds = k }

  module _ {g : ℕ} (e : g ≡ ground_count ar count n) where
    pub count-many : most_ground < g → Counts (spread ar count n constants ws) (Err TooManyGround) table
    count-many l = record { answer = sym (ap counted_as is); lines = λ es z. absurd (none es z) }
      where
        is : spread ar count n constants ws ≡ refused TooManyGround
        is = spread-many ar count n constants ws (omega (arith, e))

        none : (es : List Entry) → spread ar count n constants ws ≡ ok es → ⊥
        none es z = let y : ◌≡◌ {A = Outcome (List Entry)} (refused TooManyGround) (ok es) = sym is ∙ z in let w : ◌≡◌ {A = ℕ} 0 1 = cc in omega arith

    pub ground-rows-room : g ≤ most_ground → (m : ℕ) → most_ground * fact_words ≤ m → ground_count ar count n * fact_words ≤ length (replicate {A = ℕ} m 0)
    ground-rows-room l m o = omega (arith, e, length-replicate {A = ℕ} m 0)

    module _ (rows : List ℕ) (l : g ≤ most_ground) (r : take (ground_count ar count n * fact_words) rows ≡ rows_of (ground_facts ar count n)) where
      rows-lent : (c : ℕ) → picked rows g c ≡ lent_choice ar count n c
      rows-lent c = ap (λ z. picked rows z c) e ∙ picked-lent ar count n rows r c

      all-lent : (λ c. picked rows g c) ≡ lent_choice ar count n
      all-lent = fun_ext rows-lent

      pub count-choices : (m : ℕ) → most_ground * fact_words ≤ m → length rows ≡ length (replicate {A = ℕ} m 0) → Choices ar n constants rows g (replicate m 0)
      count-choices m a b = record {
        few = l;
        rows-there = omega (arith, length-replicate {A = ℕ} m 0);
        room = omega (arith, length-replicate {A = ℕ} m 0);
        lent = λ c. ap (is_state ar n constants) (rows-lent c) ∙ lent-choice ar count n constants (arities-few ar countable-declared.arities) h.some h.placed c;
      }

      same-values : value_of ar ws n constants rows g ≡ value_in ar count n constants ws
      unfolding value_in choice_state
      same-values = ap (λ z c. bound_number ar ws n constants (z c) []) all-lent

      pub count-spreading : Spreading ar ws n constants rows g table
      count-spreading = record {
        room = h.room;
        lines = λ m. subst (λ f. length (entries m f) < most_rows) (sym same-values)
            (entries-few ar count n constants ws m h.listed (choice-good ar count n constants (arities-few ar countable-declared.arities) h.some h.placed));
      }

      same-spread : rows_spread ar ws n constants rows g ≡ spread ar count n constants ws
      unfolding rows_spread spread some_too_large entries_of value_in choice_state
      same-spread =
          ap (λ z. cond (some_below (2 ^ g) (λ c. is_too_large ar (state_of ar n constants (z c)) [] ws)) (refused Valuations)
          (ok (entries (2 ^ g) (λ c. bound_number ar ws n constants (z c) [])))) all-lent
          ∙ ap (λ z. cond (some_below (2 ^ z) (λ c. is_too_large ar (state_of ar n constants (lent_choice ar count n c)) [] ws)) (refused Valuations)
          (ok (entries (2 ^ z) (λ c. bound_number ar ws n constants (lent_choice ar count n c) [])))) e
          ∙ sym (rw (le-ltb most_ground (ground_count ar count n) (omega (arith, e))))

      pub count-done : {x : Result ℕ Refusal} {table' : List ℕ} → Counts (rows_spread ar ws n constants rows g) x table' → Counts (spread ar count n constants ws) x table'
      count-done {x} {table'} c = subst (λ o. Counts o x table') same-spread c
