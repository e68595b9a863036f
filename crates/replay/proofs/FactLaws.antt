-- The facts of a state, listed as rows and lent again, are its facts; none is listed twice; the rows are whole and name its objects only.
use Rattle.std.specs.Prelude.{◌≡◌, Bool, ◌&&◌, drop, eqb, leb}
use Rattle.std.proofs.Math.Path.{refl, sym, ap, ap₂, subst}
use Rattle.std.proofs.Common.{◌∙◌, length-append, length-take-le}
use Rattle.std.proofs.Math.Bool.{true}
use mathlib.Core.List.{List, [], ◌∷◌, ◌++◌, map, Memᴰ}
use Prim.Native.Nat.{ℕ, zero, suc, pred, ◌+◌, ◌*◌, ◌≤◌, ◌<◌}
use native.Mathlib.Omega.{arith}
use Rattle.std.proofs.Math.ListN.{length, get_or, take, replicate}
use Rattle.std.proofs.Math.Seq.{take-append_seam, drop-append-add, get_or-append-add}
use borrow.Author.Tests.{eqb-true, eq-eqb, lt-ltb}
use Rattle.basics.specs.Tests.{and_left, and_right}
use Rattle.label.specs.Limits.{predicate_count, most_places}
use Rattle.label.specs.Labels.{are_arities}
use Rattle.label.proofs.ArityLaws.{arity-most}
use Rattle.diagram.specs.Words.{up_to, equal_lists, every_below}
use Rattle.diagram.specs.WordLaws.{lists-equal, equal-lists, every-below}
use Rattle.diagram.specs.RowLaws.{same_tests}
use Rattle.paths.specs.PathLaws.{mem-map, mem-unmap}
use Rattle.state.specs.State.{State}
use Rattle.state.specs.Max.{Tuple, none, more, those, tuples}
use Rattle.state.specs.Lent.{fact_words, fact_count, predicate_at, objects_at, says_fact, said_by, fact_row, all_below, names_below, constants_below, is_state}
use Rattle.state.proofs.LentLaws.{some-made, some-found}
use Rattle.reduction.specs.Inner.{Once}
use Rattle.reduction.proofs.ListLaws.{gather-in, in-gather, those-in, in-those, up_to-in, place_of, once-those, once-gather, once-up_to}
use Rattle.reduction.proofs.CombinationLaws.{tuples-in, in-tuples, tuples-once}
use Rattle.replay.specs.Replay.{rows_at, fact_rows, flat, facts_of}

-- ===== Rows behind one another =====

-- each row has the words of a row of facts
record Whole (rows : List (List ℕ)) : Type 0 where
  each : (row : List ℕ) → Memᴰ row rows → length row ≡ fact_words

whole-rest : {row : List ℕ} {rows : List (List ℕ)} → Whole (row ∷ rows) → Whole rows
whole-rest w = record { each = λ r m. w.each r (Memᴰ.tail m) }

whole-first : {row : List ℕ} {rows : List (List ℕ)} → Whole (row ∷ rows) → length row ≡ fact_words
whole-first {row} w = w.each row (Memᴰ.head refl)

flat-length : (rows : List (List ℕ)) → Whole rows → length (flat rows) ≡ length rows * fact_words
flat-length [] w = refl
flat-length (row ∷ rows) w =
    let h = flat-length rows (whole-rest w) in
    let k = whole-first w in
    length-append row (flat rows) ∙ omega arith

flat-count : (rows : List (List ℕ)) → Whole rows → fact_count (flat rows) ≡ length rows
flat-count rows w = let h = flat-length rows w in omega arith

-- what one row says
row_says : List ℕ → ℕ → List ℕ → List ℕ → Bool
row_says ar p os row = eqb (get_or row 0 0) p && equal_lists (take (get_or ar p 0) (drop 1 row)) os

front-word : (row rest : List ℕ) → length row ≡ fact_words → get_or (row ++ rest) 0 0 ≡ get_or row 0 0
front-word [] rest e = absurd (omega arith)
front-word (w ∷ ws) rest e = refl

front-objects : (row rest : List ℕ) → length row ≡ fact_words → take most_places (drop 1 (row ++ rest)) ≡ drop 1 row
front-objects [] rest e = absurd (omega arith)
front-objects (w ∷ ws) rest e =
    let k : length ws ≡ most_places = omega arith in
    ap (λ (n : ℕ). take n (ws ++ rest)) (sym k) ∙ take-append_seam ws rest

module _ (rows : List (List ℕ)) (i : ℕ) where
  flat-next : (row : List ℕ) → length row ≡ fact_words → (predicate_at (row ++ flat rows) (suc i) ≡ predicate_at (flat rows) i)
      × (objects_at (row ++ flat rows) (suc i) ≡ objects_at (flat rows) i)
  unfolding predicate_at objects_at
  flat-next row k =
      let e : suc i * fact_words ≡ length row + i * fact_words = omega arith in
      let f : suc (suc i * fact_words) ≡ length row + suc (i * fact_words) = omega arith in (
        ap (λ (j : ℕ). get_or (row ++ flat rows) j 0) e ∙ get_or-append-add row (flat rows) (i * fact_words) 0,
        ap (λ (j : ℕ). take most_places (drop j (row ++ flat rows))) f ∙ ap (take most_places) (drop-append-add row (flat rows) (suc (i * fact_words))),
      )

-- predicate and objects of row i
flat-at : (rows : List (List ℕ)) → Whole rows → (i : ℕ) → i < length rows
    → (predicate_at (flat rows) i ≡ get_or (get_or rows i []) 0 0) × (objects_at (flat rows) i ≡ drop 1 (get_or rows i []))
unfolding predicate_at objects_at
flat-at [] w i h = absurd (omega arith)
flat-at (row ∷ rows) w zero h = (front-word row (flat rows) (whole-first w), front-objects row (flat rows) (whole-first w))
flat-at (row ∷ rows) w (suc i) h =
    let n = flat-next rows i row (whole-first w) in
    let r = flat-at rows (whole-rest w) i (omega arith) in
    (n.0 ∙ r.0, n.1 ∙ r.1)

says-flat : (ar : List ℕ) (p : ℕ) (os : List ℕ) (rows : List (List ℕ)) → Whole rows → (i : ℕ) → i < length rows
    → says_fact ar (flat rows) p os i ≡ row_says ar p os (get_or rows i [])
unfolding says_fact row_says
says-flat ar p os rows w i h =
    let r = flat-at rows w i h in
    ap₂ (λ (q : ℕ) (us : List ℕ). eqb q p && equal_lists (take (get_or ar p 0) us) os) r.0 r.1

get_in : (rows : List (List ℕ)) (i : ℕ) → i < length rows → Memᴰ (get_or rows i []) rows
get_in [] i h = absurd (omega arith)
get_in (row ∷ rows) zero h = Memᴰ.head refl
get_in (row ∷ rows) (suc i) h = Memᴰ.tail (get_in rows i (omega arith))

said_in : (ar : List ℕ) (p : ℕ) (os : List ℕ) (rows : List (List ℕ)) → Whole rows → (row : List ℕ) → Memᴰ row rows → row_says ar p os row ≡ true
    → said_by ar (flat rows) p os ≡ true
unfolding said_by
said_in ar p os rows w row m e =
    let q = place_of [] row rows m in
    some-made (fact_count (flat rows)) (says_fact ar (flat rows) p os) q.0 (rw (flat-count rows w) q.1)
    (says-flat ar p os rows w q.0 q.1 ∙ ap (row_says ar p os) q.2 ∙ e)

in-said : (ar : List ℕ) (p : ℕ) (os : List ℕ) (rows : List (List ℕ)) → Whole rows → said_by ar (flat rows) p os ≡ true
    → (row : List ℕ) × Memᴰ row rows × (row_says ar p os row ≡ true)
unfolding said_by
in-said ar p os rows w e =
    let q = some-found (fact_count (flat rows)) (says_fact ar (flat rows) p os) e in
    let h = subst (q.0 <◌) (flat-count rows w) q.1 in
    (get_or rows q.0 [], get_in rows q.0 h, sym (says-flat ar p os rows w q.0 h) ∙ q.2)

-- ===== The row of a fact =====

tuple-length : {n c : ℕ} {os : List ℕ} → Tuple n c os → length os ≡ c
tuple-length none = refl
tuple-length (more h t) = ap suc (tuple-length t)

front : (xs ys : List ℕ) (j : ℕ) → length xs ≤ j → take (length xs) (take j (xs ++ ys)) ≡ xs
front [] ys j h = refl
front (x ∷ xs) ys zero h = absurd (omega arith)
front (x ∷ xs) ys (suc j) h = ap (x ∷◌) (front xs ys j (omega arith))

pub row-length : (p : ℕ) (os : List ℕ) → length (fact_row p os) ≡ fact_words
row-length p os = ap suc (length-take-le most_places (os ++ replicate most_places 0) (omega (arith, length-append os (replicate most_places 0))))

tuple-below : {n c : ℕ} {os : List ℕ} → Tuple n c os → all_below n os ≡ true
tuple-below none = refl
tuple-below {n} (more {o} h t) = rw (lt-ltb o n h) (tuple-below t)

rows_whole : (ar : List ℕ) (s : State) → Whole (fact_rows ar s)
unfolding fact_rows rows_at
rows_whole ar s = record {
  each = λ row m.
      let q = in-gather (λ p. rows_at ar s (suc p)) (up_to (pred predicate_count)) row m in
      let u = mem-unmap (fact_row (suc q.0)) (those (s.fact (suc q.0)) (tuples s.size (get_or ar (suc q.0) 0))) row q.2 in
      ap length u.2 ∙ row-length (suc q.0) u.0;
}

-- they are whole rows
pub facts-whole : (ar : List ℕ) (s : State) → fact_count (facts_of ar s) * fact_words ≡ length (facts_of ar s)
unfolding facts_of
facts-whole ar s = let h = flat-length (fact_rows ar s) (rows_whole ar s) in omega arith

module _ (ar : List ℕ) (good : are_arities ar ≡ true) where
  row-objects : (n q : ℕ) (os : List ℕ) → Tuple n (get_or ar q 0) os → take (get_or ar q 0) (take most_places (os ++ replicate most_places 0)) ≡ os
  row-objects n q os t =
      let e = tuple-length t in
      let k = arity-most ar q good in
      subst (λ (c : ℕ). take c (take most_places (os ++ replicate most_places 0)) ≡ os) e (front os (replicate most_places 0) most_places (omega arith))

  row-says : (n q : ℕ) (os : List ℕ) → Tuple n (get_or ar q 0) os → row_says ar q os (fact_row q os) ≡ true
  unfolding row_says
  row-says n q os t = rw (eq-eqb q q refl, row-objects n q os t, equal-lists os)

  says_row : (n q : ℕ) (os : List ℕ) → Tuple n (get_or ar q 0) os → (p : ℕ) (os' : List ℕ) → row_says ar p os' (fact_row q os) ≡ true → (q ≡ p) × (os ≡ os')
  unfolding row_says
  says_row n q os t p os' e =
      let h = eqb-true q p (and_left (eqb q p) _ e) in
      let k = lists-equal _ os' (and_right (eqb q p) _ e) in
      (h, sym (row-objects n q os t) ∙ ap (λ (c : ℕ). take (get_or ar c 0) (take most_places (os ++ replicate most_places 0))) h ∙ k)

  -- the rows say what is true, of every declared predicate and all tuples of objects
  pub facts-said : (s : State) (p : ℕ) (os : List ℕ) → 0 < p → p < predicate_count → Tuple s.size (get_or ar p 0) os → said_by ar (facts_of ar s) p os ≡ s.fact p os
  unfolding facts_of fact_rows rows_at
  facts-said s zero os h k t = absurd (omega arith)
  facts-said s (suc p) os h k t = same_tests _ _ there back
    where
      there : said_by ar (flat (fact_rows ar s)) (suc p) os ≡ true → s.fact (suc p) os ≡ true
      there e =
          let r = in-said ar (suc p) os (fact_rows ar s) (rows_whole ar s) e in
          let q = in-gather (λ i. rows_at ar s (suc i)) (up_to (pred predicate_count)) r.0 r.1 in
          let l = those (s.fact (suc q.0)) (tuples s.size (get_or ar (suc q.0) 0)) in
          let u = mem-unmap (fact_row (suc q.0)) (those (s.fact (suc q.0)) (tuples s.size (get_or ar (suc q.0) 0))) r.0 q.2 in
          let i = in-those (s.fact (suc q.0)) (tuples s.size (get_or ar (suc q.0) 0)) u.0 u.1 in
          let w = in-tuples s.size (get_or ar (suc q.0) 0) u.0 i.0 in
          let z = says_row s.size (suc q.0) u.0 w (suc p) os (sym (ap (row_says ar (suc p) os) u.2) ∙ r.2) in
          subst (λ (c : ℕ). s.fact c os ≡ true) z.0 (subst (λ (x : List ℕ). s.fact (suc q.0) x ≡ true) z.1 i.1)

      back : s.fact (suc p) os ≡ true → said_by ar (flat (fact_rows ar s)) (suc p) os ≡ true
      back e = said_in ar (suc p) os (fact_rows ar s) (rows_whole ar s) (fact_row (suc p) os)
          (gather-in (λ i. rows_at ar s (suc i)) (up_to (pred predicate_count)) p (fact_row (suc p) os) (up_to-in (pred predicate_count) p (omega arith))
          (mem-map (fact_row (suc p)) (those (s.fact (suc p)) (tuples s.size (get_or ar (suc p) 0))) os
          (those-in (s.fact (suc p)) (tuples s.size (get_or ar (suc p) 0)) os (tuples-in s.size t) e)))
          (row-says s.size (suc p) os t)

  -- ===== Each fact once =====

  once-rows : (s : State) (p : ℕ) (l : List (List ℕ)) → ((os : List ℕ) → Memᴰ os l → Tuple s.size (get_or ar p 0) os) → Once l → Once (map (fact_row p) l)
  once-rows s p [] t u = tt
  once-rows s p (os ∷ l) t u = (
    (λ i. let r = mem-unmap (fact_row p) l (fact_row p os) i in
        let e = says_row s.size p r.0 (t r.0 (Memᴰ.tail r.1)) p os
        (ap (row_says ar p os) (sym r.2) ∙ row-says s.size p os (t os (Memᴰ.head refl))) in
        u.0 (subst (λ (z : List ℕ). Memᴰ z l) e.1 r.1)),
    once-rows s p l (λ x i. t x (Memᴰ.tail i)) u.1,
  )

  -- no fact is listed twice, so that 22 counts facts
  pub facts-once : (s : State) → Once (fact_rows ar s)
  unfolding fact_rows rows_at
  facts-once s = once-gather (λ p. rows_at ar s (suc p)) (λ row. pred (get_or row 0 0)) (up_to (pred predicate_count))
      (λ p row i. ap (λ (r : List ℕ). pred (get_or r 0 0)) (mem-unmap (fact_row (suc p)) (those (s.fact (suc p)) (tuples s.size (get_or ar (suc p) 0))) row i).2)
      (λ p. once-rows s (suc p) (those (s.fact (suc p)) (tuples s.size (get_or ar (suc p) 0)))
      (λ os i. in-tuples s.size (get_or ar (suc p) 0) os (in-those (s.fact (suc p)) (tuples s.size (get_or ar (suc p) 0)) os i).0)
      (once-those (s.fact (suc p)) (tuples s.size (get_or ar (suc p) 0)) (tuples-once s.size (get_or ar (suc p) 0))))
      (once-up_to (pred predicate_count))

  pub facts-count : (s : State) → fact_count (facts_of ar s) ≡ length (fact_rows ar s)
  unfolding facts_of
  facts-count s = flat-count (fact_rows ar s) (rows_whole ar s)

  -- ===== Lent again =====

  row_below : (s : State) (row : List ℕ) → Memᴰ row (fact_rows ar s) → all_below s.size (take (get_or ar (get_or row 0 0) 0) (drop 1 row)) ≡ true
  unfolding fact_rows rows_at
  row_below s row m =
      let q = in-gather (λ p. rows_at ar s (suc p)) (up_to (pred predicate_count)) row m in
      let p = suc q.0 in
      let l = tuples s.size (get_or ar p 0) in
      let u = mem-unmap (fact_row p) (those (s.fact p) l) row q.2 in
      let t = in-tuples s.size (get_or ar p 0) u.0 (in-those (s.fact p) l u.0 u.1).0 in
      subst (λ (r : List ℕ). all_below s.size (take (get_or ar (get_or r 0 0) 0) (drop 1 r)) ≡ true) (sym u.2)
      (ap (all_below s.size) (row-objects s.size p u.0 t) ∙ tuple-below t)

  names-flat : (s : State) (i : ℕ) → i < length (fact_rows ar s) → names_below ar s.size (flat (fact_rows ar s)) i ≡ true
  unfolding names_below
  names-flat s i h =
      let r = flat-at (fact_rows ar s) (rows_whole ar s) i h in
      ap₂ (λ (q : ℕ) (us : List ℕ). all_below s.size (take (get_or ar q 0) us)) r.0 r.1 ∙ row_below s (get_or (fact_rows ar s) i []) (get_in (fact_rows ar s) i h)

  -- a state that is lent with them in place of its own facts
  pub facts-lent : (n : ℕ) (constants facts : List ℕ) → is_state ar n constants facts ≡ true → (s : State) → s.size ≡ n → is_state ar n constants (facts_of ar s) ≡ true
  unfolding is_state facts_of
  facts-lent n constants facts e s q =
      let c = flat-count (fact_rows ar s) (rows_whole ar s) in
      let z : every_below (fact_count (flat (fact_rows ar s))) (names_below ar n (flat (fact_rows ar s))) ≡ true =
      every-below (fact_count (flat (fact_rows ar s))) (names_below ar n (flat (fact_rows ar s))) (λ i l.
      subst (λ (x : ℕ). names_below ar x (flat (fact_rows ar s)) i ≡ true) q (names-flat s i (omega arith))) in
      rw (and_left (leb 1 n) _ e, and_left (constants_below n constants) _ (and_right (leb 1 n) _ e), z)
