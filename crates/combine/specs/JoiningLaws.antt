-- A plan's rows formed are the rows of the combination.
use Rattle.std.proofs.Math.Path.{◌≡◌, ap}
use Rattle.std.specs.Prelude.{refl, true, false, List, ℕ, ◌-◌, ◌≤◌, ◌<◌, length, take, ltb}
use Rattle.std.proofs.Common.{sym, ◌∙◌, subst, arith}
use Rattle.std.proofs.Math.ListN.{get_or}
use borrow.Author.Tests.{lt-ltb, le-ltb, ltb-true, ltb-false}
use Rattle.basics.specs.Tests.{Flag, is_true, is_false, flag}
use Rattle.diagram.specs.Sizes.{space_rows}
use Rattle.diagram.specs.Diagram.{Diagram, leaf}
use Rattle.diagram.specs.Listing.{index}
use Rattle.diagram.specs.Inner.{Kept}
use Rattle.diagram.specs.RowLaws.{kept-children}
use Rattle.apply.specs.declared.Operation.{Operation}
use Rattle.apply.specs.Combination.{operate}
use Rattle.apply.specs.Apply.{apply}
use Rattle.apply.specs.Pairs.{pairs, pair_count, overflows}
use Rattle.apply.specs.Inner.{ClosedRows}
use Rattle.store.specs.Space.{diagrams_of, Holds, Formation, add_all}
use Rattle.store.proofs.SpaceLaws.{formation-row, formation-full}
use Rattle.combine.specs.Results.{results}
use Rattle.combine.specs.ResultLaws.{length-results}
use Rattle.combine.specs.Forming.{last_of, Formable}
use Rattle.combine.specs.Paired.{pair_answer, Forms, PairedUp}
use Rattle.combine.specs.Joining.{rows_after, join_answer, Joint, joined_as, FormedAll}
use Rattle.combine.specs.declared.Paired.{Paired}
use Rattle.combine.specs.declared.Paired.TheVariants.{Pairs, TooMany, TooHigh}
use Rattle.combine.specs.declared.Joined.{Joined}
use Rattle.combine.specs.declared.Joined.TheVariants.{At, TooManyPairs, TooHighValue, NoRoom}
use Rattle.std.specs.Prelude.{None, Option, Some}

-- the rows of a space hold with each branch its children
pub kept-closed : (rs : List Diagram) → Kept rs → ClosedRows rs
kept-closed rs k = record { children = λ l t f m. ((kept-children rs l t f k m).0.is_row, (kept-children rs l t f k m).1.is_row) }

-- the answers of `pair_up`, taken apart
module _ (op : Operation) (limit : ℕ) (a b : Diagram) where
  pairs-few : (n : ℕ) → Pairs n ≡ pair_answer op limit a b → (pair_count op a b ≤ limit) × (overflows (operate op) (pairs op a b) ≡ false) × (n ≡ pair_count op a b)
  unfolding pair_answer
  pairs-few n e = go (flag (ltb limit (pair_count op a b))) (flag (overflows (operate op) (pairs op a b)))
    where
      go : Flag (ltb limit (pair_count op a b)) → Flag (overflows (operate op) (pairs op a b)) → (pair_count op a b ≤ limit) × (overflows (operate op) (pairs op a b) ≡ false) × (n ≡ pair_count op a b)
      go (is_true p) q = let k : Pairs n ≡ TooMany = rw p at e in absurd (let z : ◌≡◌ {A = ℕ} 0 1 = cc in omega arith)
      go (is_false p) (is_true q) = let k : Pairs n ≡ TooHigh = rw (p, q) at e in absurd (let z : ◌≡◌ {A = ℕ} 0 1 = cc in omega arith)
      go (is_false p) (is_false q) = let k : Pairs n ≡ Pairs (pair_count op a b) = rw (p, q) at e in (ltb-false _ _ p, q, (cc))

  many-over : TooMany ≡ pair_answer op limit a b → limit < pair_count op a b
  unfolding pair_answer
  many-over e = go (flag (ltb limit (pair_count op a b))) (flag (overflows (operate op) (pairs op a b)))
    where
      go : Flag (ltb limit (pair_count op a b)) → Flag (overflows (operate op) (pairs op a b)) → limit < pair_count op a b
      go (is_true p) q = ltb-true _ _ p
      go (is_false p) (is_true q) = let k : TooMany ≡ TooHigh = rw (p, q) at e in absurd (let z : ◌≡◌ {A = ℕ} 0 1 = cc in omega arith)
      go (is_false p) (is_false q) = let k : TooMany ≡ Pairs (pair_count op a b) = rw (p, q) at e in absurd (let z : ◌≡◌ {A = ℕ} 0 1 = cc in omega arith)

  high-over : TooHigh ≡ pair_answer op limit a b → (pair_count op a b ≤ limit) × (overflows (operate op) (pairs op a b) ≡ true)
  unfolding pair_answer
  high-over e = go (flag (ltb limit (pair_count op a b))) (flag (overflows (operate op) (pairs op a b)))
    where
      go : Flag (ltb limit (pair_count op a b)) → Flag (overflows (operate op) (pairs op a b)) → (pair_count op a b ≤ limit) × (overflows (operate op) (pairs op a b) ≡ true)
      go (is_true p) q = let k : TooHigh ≡ TooMany = rw p at e in absurd (let z : ◌≡◌ {A = ℕ} 0 1 = cc in omega arith)
      go (is_false p) (is_true q) = (ltb-false _ _ p, q)
      go (is_false p) (is_false q) = let k : TooHigh ≡ Pairs (pair_count op a b) = rw (p, q) at e in absurd (let z : ◌≡◌ {A = ℕ} 0 1 = cc in omega arith)

  -- the answers of a combination
  module _ (rs : List Diagram) where
    answer-many : limit < pair_count op a b → TooManyPairs ≡ join_answer op limit a b rs
    unfolding join_answer
    answer-many h = rw (lt-ltb limit (pair_count op a b) h)

    answer-high : pair_count op a b ≤ limit → overflows (operate op) (pairs op a b) ≡ true → TooHighValue ≡ join_answer op limit a b rs
    unfolding join_answer
    answer-high h e = rw (le-ltb limit (pair_count op a b) h, e)

    answer-full : pair_count op a b ≤ limit → overflows (operate op) (pairs op a b) ≡ false → space_rows < length (rows_after op a b rs) → NoRoom ≡ join_answer op limit a b rs
    unfolding join_answer
    answer-full h e l = rw (le-ltb limit (pair_count op a b) h, e, lt-ltb space_rows (length (rows_after op a b rs)) l)

    answer_at : pair_count op a b ≤ limit → overflows (operate op) (pairs op a b) ≡ false → length (rows_after op a b rs) ≤ space_rows
        → At (index (apply (operate op) a b) (rows_after op a b rs)) (length (rows_after op a b rs)) (pair_count op a b) ≡ join_answer op limit a b rs
    unfolding join_answer
    answer_at h e l = rw (le-ltb limit (pair_count op a b) h, e, le-ltb space_rows (length (rows_after op a b rs)) l)

-- what `pair_up` leaves can be formed
pub forms-formable : {op : Operation} {a b : Diagram} {ws : List ℕ} {n : ℕ} → Forms op a b ws n → Formable op ws n
forms-formable f = record { sound = f.sound; calm = f.calm; some = f.some }

pub paired-formable : {op : Operation} {limit : ℕ} {a b : Diagram} {r : Paired} {ws index : List ℕ} → PairedUp op limit a b r ws index → {n : ℕ} → r ≡ Pairs n → Formable op ws n
paired-formable p {n} e = forms-formable (p.forms n e)

-- the ways out of `join_listings` and `join_rows`
module _ {op : Operation} {limit : ℕ} {a b : Diagram} {p : Paired} {ws hs : List ℕ} (up : PairedUp op limit a b p ws hs) {s heads links : List ℕ} {count : ℕ} (holds : Holds s heads links count) where
  pub joint-many : p ≡ TooMany → Joint op limit a b s count TooManyPairs s heads links hs
  joint-many e = record { answer = answer-many op limit a b (diagrams_of s count) (many-over op limit a b (sym e ∙ up.answer)); clean = up.clean; holds = holds; diagrams = refl }

  pub joint-high : p ≡ TooHigh → Joint op limit a b s count TooHighValue s heads links hs
  joint-high e =
      let q = high-over op limit a b (sym e ∙ up.answer) in
      record { answer = answer-high op limit a b (diagrams_of s count) q.0 q.1; clean = up.clean; holds = holds; diagrams = refl }

  module _ {n : ℕ} (e : p ≡ Pairs n) where
    q : (pair_count op a b ≤ limit) × (overflows (operate op) (pairs op a b) ≡ false) × (n ≡ pair_count op a b)
    q = pairs-few op limit a b n (sym e ∙ up.answer)

    last-is : last_of (results (operate op) ws n) ≡ apply (operate op) a b
    unfolding last_of
    last-is = ap (λ (k : ℕ). get_or (results (operate op) ws n) (k - 1) (leaf 0)) (length-results (operate op) ws n) ∙ (up.forms n e).last

    rows_are : add_all (diagrams_of s count) (results (operate op) ws n) ≡ rows_after op a b (diagrams_of s count)
    rows_are = (up.forms n e).rows (diagrams_of s count) (kept-closed (diagrams_of s count) holds.written.kept)

    pub joint-formed : {r : Joined} {s' h' l' : List ℕ} → FormedAll op ws n s count r s' h' l' → Joint op limit a b s count r s' h' l' hs
    joint-formed {r} {s'} {h'} {l'} f = go f.made f.answer f.formation
      where
        go : (x : Option (ℕ × ℕ)) → r ≡ joined_as n x → Formation (last_of (results (operate op) ws n)) (add_all (diagrams_of s count) (results (operate op) ws n)) x s' h' l'
            → Joint op limit a b s count r s' h' l' hs
        go (Some (i, m)) z g =
            let k = formation-row g in
            let len : length (rows_after op a b (diagrams_of s count)) ≡ m = sym (ap length rows_are) ∙ sym k.2 in
            let place : i ≡ index (apply (operate op) a b) (rows_after op a b (diagrams_of s count)) = k.1 ∙ (λ j. index (last-is j) (rows_are j)) in
            let room : length (rows_after op a b (diagrams_of s count)) ≤ space_rows = subst (λ (ds : List Diagram). length ds ≤ space_rows) rows_are k.0 in
            rw z (record {
              answer = (λ j. At (place j) (sym len j) (q.2 j)) ∙ answer_at op limit a b (diagrams_of s count) q.0 q.1 room;
              clean = up.clean;
              holds = g.holds;
              diagrams = k.3 ∙ rows_are;
            })
        go None z g =
            rw z (record {
              answer = answer-full op limit a b (diagrams_of s count) q.0 q.1 (subst (λ (ds : List Diagram). space_rows < length ds) rows_are (formation-full g));
              clean = up.clean;
              holds = g.holds;
              diagrams = g.diagrams ∙ ap (take space_rows) rows_are;
            })

-- the ways out of `formed`
module _ {op : Operation} {ws s : List ℕ} {n count : ℕ} {x : Option (ℕ × ℕ)} {s' h' l' : List ℕ}
    (f : Formation (last_of (results (operate op) ws n)) (add_all (diagrams_of s count) (results (operate op) ws n)) x s' h' l') where
  pub all-full : x ≡ None → FormedAll op ws n s count NoRoom s' h' l'
  all-full e = record { made = x; answer = ap (joined_as n) (sym e); formation = f }

  pub all-rows : {i m : ℕ} → x ≡ Some (i, m) → FormedAll op ws n s count (At i m n) s' h' l'
  all-rows e = record { made = x; answer = ap (joined_as n) (sym e); formation = f }
