-- (true p o ..) keeps a session good: the facts are whole rows, and one row more names objects only (document 01, section 'States and value').
use Rattle.std.specs.Prelude.{◌≡◌, refl, true, not, List, [], ◌∷◌, ◌++◌, get_or, take, ltb, leb, eqb}
use Rattle.std.proofs.Math.Path.{sym, ap, ap₂}
use Rattle.std.proofs.Common.{◌∙◌, arith, length-append, ext_get_or, drop-drop, drop_at, lt-ltb}
use Prim.Native.Nat.{ℕ, zero, suc, ◌+◌, ◌*◌, ◌≤◌, ◌<◌}
use Rattle.std.proofs.Math.ListN.{length, drop, replicate, get_or-append}
use Rattle.std.proofs.Math.Seq.{take-take}
use Rattle.std.proofs.lemmas.Bool.{not-false}
use Rattle.basics.specs.Tests.{and_left, and_right, Cmp, below, equal, above, cmp, Flag, is_true, is_false, flag}
use Rattle.refusal.specs.declared.Refusal.TheVariants.{Name, Arity, Range, Space}
use Rattle.label.specs.Limits.{most_places}
use Rattle.words.specs.declared.Key.{Key}
use Rattle.names.specs.Keys.{is_among}
use Rattle.state.specs.Lent.{fact_words, fact_count, predicate_at, objects_at, all_below, names_below, is_state, most_facts, fact_row}
use Rattle.state.proofs.LentLaws.{objects-length, object-at}
use Rattle.replay.proofs.FactLaws.{row-length}
use Rattle.refusal.specs.Outcome.{ok, Accepted}
use Rattle.refusal.specs.OutcomeLaws.{accepted-ok, accepted-cond}
use Rattle.session.specs.declared.Part.TheVariants.{Run}
use Rattle.session.specs.Session.{Live, Session, with_live}
use Rattle.session.specs.Facts.{with_fact, begun_again, is_fact, fact_line, predicate_of, true_line}
use Rattle.session.specs.Good.{GoodSession}
use Rattle.session_laws.proofs.StateLaws.{Described, described, state-made, live-good, log-none}

-- the facts are whole rows
abbrev pub WholeRows : List ℕ → Type 0
WholeRows facts = fact_count facts * fact_words ≡ length facts

take_below : (n a : ℕ) (os : List ℕ) → all_below n os ≡ true → all_below n (take a os) ≡ true
take_below n zero os e = refl
take_below n (suc a) [] e = refl
take_below n (suc a) (o ∷ os) e = rw (and_left (ltb o n) _ e, take_below n a os (and_right (ltb o n) _ e))

-- objects with 0 behind them
padded-below : (n m : ℕ) (os : List ℕ) → 1 ≤ n → all_below n os ≡ true → all_below n (os ++ replicate m 0) ≡ true
padded-below n zero [] h e = refl
padded-below n (suc m) [] h e = rw (lt-ltb 0 n h, padded-below n m [] h e)
padded-below n m (o ∷ os) h e = rw (and_left (ltb o n) _ e, padded-below n m os h (and_right (ltb o n) _ e))

-- ===== One row more =====

module _ (facts : List ℕ) (whole : WholeRows facts) (p : ℕ) (os : List ℕ) where
  row_count : fact_count (facts ++ fact_row p os) ≡ suc (fact_count facts)
  row_count = omega (arith, length-append facts (fact_row p os), row-length p os, whole)

  row-whole : WholeRows (facts ++ fact_row p os)
  row-whole = omega (arith, length-append facts (fact_row p os), row-length p os, whole)

  old-predicate : (i : ℕ) → i < fact_count facts → predicate_at (facts ++ fact_row p os) i ≡ predicate_at facts i
  unfolding predicate_at
  old-predicate i h = get_or-append facts (fact_row p os) 0 (i * fact_words) (omega (arith, whole))

  old-objects : (i : ℕ) → i < fact_count facts → objects_at (facts ++ fact_row p os) i ≡ objects_at facts i
  old-objects i h =
      let k : i < fact_count (facts ++ fact_row p os) = omega (arith, row_count) in
      ext_get_or 0 (objects_at (facts ++ fact_row p os) i) (objects_at facts i) (objects-length (facts ++ fact_row p os) i k ∙ sym (objects-length facts i h)) (λ j l.
      let m : j < most_places = omega (arith, objects-length (facts ++ fact_row p os) i k) in
      object-at (facts ++ fact_row p os) i j m ∙ get_or-append facts (fact_row p os) 0 (i * fact_words + 1 + j) (omega (arith, whole)) ∙ sym (object-at facts i j m))

  new-objects : objects_at (facts ++ fact_row p os) (fact_count facts) ≡ take most_places (os ++ replicate most_places 0)
  unfolding objects_at
  new-objects =
      let e : suc (fact_count facts * fact_words) ≡ length facts + 1 = omega (arith, whole) in
      ap (take most_places) (ap (λ (k : ℕ). drop k (facts ++ fact_row p os)) e ∙ sym (drop-drop 1 (length facts) (facts ++ fact_row p os))
      ∙ ap (drop 1) (drop_at facts (fact_row p os) (length facts) refl)) ∙ take-take most_places most_places (os ++ replicate most_places 0) (omega arith)

  old-names : (ar : List ℕ) (n i : ℕ) → i < fact_count facts → names_below ar n (facts ++ fact_row p os) i ≡ names_below ar n facts i
  unfolding names_below
  old-names ar n i h = ap₂ (λ q xs. all_below n (take (get_or ar q 0) xs)) (old-predicate i h) (old-objects i h)

  new-names : (ar : List ℕ) (n : ℕ) → 1 ≤ n → all_below n os ≡ true → names_below ar n (facts ++ fact_row p os) (fact_count facts) ≡ true
  unfolding names_below
  new-names ar n h e =
      take_below n (get_or ar (predicate_at (facts ++ fact_row p os) (fact_count facts)) 0) (objects_at (facts ++ fact_row p os) (fact_count facts))
      (ap (all_below n) new-objects ∙ take_below n most_places (os ++ replicate most_places 0) (padded-below n most_places os h e))

  row-state : (ar : List ℕ) (n : ℕ) (constants : List ℕ) → all_below n os ≡ true → is_state ar n constants facts ≡ true
      → is_state ar n constants (facts ++ fact_row p os) ≡ true
  row-state ar n constants b e = state-made ar n constants (facts ++ fact_row p os) (record {
    some = d.some;
    placing = d.placing;
    naming = λ i h. go i (omega (arith, row_count)) (cmp i (fact_count facts));
  })
    where
      d : Described ar n constants facts
      d = described ar n constants facts e

      go : (i : ℕ) → i ≤ fact_count facts → Cmp i (fact_count facts) → names_below ar n (facts ++ fact_row p os) i ≡ true
      go i h (below k) = old-names ar n i k ∙ d.naming i k
      go i h (equal k) = rw k (new-names ar n d.some b)
      go i h (above k) = absurd (omega arith)

-- ===== The line =====

fact-kept : (P : Live → Type 0) (l : Live) (row : List ℕ) → P (begun_again l) → P (with_fact l row) → Accepted P (fact_line l row)
unfolding fact_line
fact-kept P l row old new = go (flag (is_fact l.facts row))
  where
    go : Flag (is_fact l.facts row) → Accepted P (fact_line l row)
    go (is_true e) = rw e (accepted-ok old)
    go (is_false e) = rw e (accepted-cond (leb most_facts (fact_count l.facts)) Space (ok (with_fact l row)) (λ d. accepted-ok new))

true-kept : (P : Live → Type 0) (σ : Session) (k : Key) (os : List ℕ)
    → (all_below σ.live.objects os ≡ true → Accepted P (fact_line σ.live (fact_row (predicate_of σ.names k) os)))
    → Accepted P (true_line σ.model.arities σ.names σ.live k os)
unfolding true_line
true-kept P σ k os h =
    accepted-cond (not (is_among k σ.names.predicates)) Name _ (λ d₁.
    accepted-cond (not (eqb (length os) (get_or σ.model.arities (predicate_of σ.names k) 0))) Arity _ (λ d₂.
    accepted-cond (not (all_below σ.live.objects os)) Range _ (λ d₃.
    h (not-false (all_below σ.live.objects os) d₃))))

fact-good : (σ : Session) → GoodSession σ → σ.part ≡ Run → WholeRows σ.live.facts → (p : ℕ) (os : List ℕ) → all_below σ.live.objects os ≡ true
    → GoodSession (with_live σ (with_fact σ.live (fact_row p os)))
unfolding with_fact
fact-good σ g r w p os b =
    live-good σ g r (with_fact σ.live (fact_row p os))
    (λ h. row-state σ.live.facts w p os σ.model.arities σ.live.objects σ.live.constants b (g.state h)) g.most
    (log-none (with_fact σ.live (fact_row p os)) refl refl)

-- a repeated fact
again-good : (σ : Session) → GoodSession σ → σ.part ≡ Run → GoodSession (with_live σ (begun_again σ.live))
unfolding begun_again
again-good σ g r = live-good σ g r (begun_again σ.live) g.state g.most (log-none (begun_again σ.live) refl refl)

pub true-good : (σ : Session) → GoodSession σ → σ.part ≡ Run → WholeRows σ.live.facts → (k : Key) (os : List ℕ) (l : Live)
    → true_line σ.model.arities σ.names σ.live k os ≡ ok l → GoodSession (with_live σ l)
true-good σ g r w k os l e =
    let p = predicate_of σ.names k in
    (true-kept (λ m. GoodSession (with_live σ m)) σ k os (λ b.
    fact-kept (λ m. GoodSession (with_live σ m)) σ.live (fact_row p os) (again-good σ g r) (fact-good σ g r w p os b))).given l e

fact-whole : (l : Live) → WholeRows l.facts → (p : ℕ) (os : List ℕ) → WholeRows (with_fact l (fact_row p os)).facts
unfolding with_fact
fact-whole l w p os = row-whole l.facts w p os

pub true-whole : (σ : Session) → WholeRows σ.live.facts → (k : Key) (os : List ℕ) (l : Live)
    → true_line σ.model.arities σ.names σ.live k os ≡ ok l → WholeRows l.facts
unfolding begun_again
true-whole σ w k os l e =
    let p = predicate_of σ.names k in
    (true-kept (λ m. WholeRows m.facts) σ k os (λ b.
    fact-kept (λ m. WholeRows m.facts) σ.live (fact_row p os) w (fact-whole σ.live w p os))).given l e
