-- Laws of what a regression call answers and writes.
use mathlib.Core.Path.{◌≡◌, refl, sym, ap, subst, ◌∙◌}
use mathlib.Core.Bool.{Bool, true, false, not}
use mathlib.Core.List.{List, ◌++◌}
use Prim.Native.Nat.{ℕ, ◌*◌, ◌-◌, ◌≤◌, ◌<◌}
use native.Mathlib.Omega.{arith}
use lib.ListN.{length, drop, replicate, length-replicate, get_or-replicate}
use lib.Dec.{ltb, leb}
use borrow.Author.Tests.{leb-true, leb-false, lt-ltb, le-ltb, not-true, not-false}
use Rattle.refusal.specs.declared.Refusal.{Refusal}
use Rattle.refusal.specs.declared.Refusal.TheVariants.{Listing, Buffer, Space as NoSpace}
use Rattle.refusal.specs.Outcome.{Outcome, ok, refused, and_then}
use Rattle.basics.specs.Tests.{Flag, is_true, is_false, flag, or-one, or-other}
use Rattle.basics.specs.Members.{mem, clash}
use Rattle.table.proofs.TableLaws.{clean-made}
use Rattle.label.specs.Limits.{predicate_count}
use Rattle.diagram.specs.Sizes.{result_words, space_words, most_rows, most_pairs}
use Rattle.diagram.specs.Diagram.{Diagram, leaf, same}
use Rattle.diagram.specs.Rows.{rows}
use Rattle.diagram.specs.Words.{is_listing}
use Rattle.diagram.specs.Listing.{listing, diagram_of}
use Rattle.diagram.specs.ListingLaws.{length-listing}
use Rattle.diagram.specs.ListingValid.{listing-is-valid}
use Rattle.diagram.specs.Validity.{tree}
use Rattle.store.specs.Space.{diagrams_of, Holds}
use Rattle.store.proofs.SpaceLaws.{holds-none, diagrams-none}
use Rattle.regression.specs.Calls.{Run}
use Rattle.regression.specs.Regression.{regression, regressed}
use Rattle.regression.specs.RegressCall.{truths_of, are_listings, regress_outcome, regressed_as, written_as, regress_answer, regress_result}
use Rattle.regression.proofs.RegressCallLaws.{regress-value, regress-truths, regress-buffer, regress-checks, regress-refused, result-refused}
use Rattle.write.specs.Writing.{Writable, write_answer, write_words, WritePost}
use Rattle.row_steps.specs.Running.{Valued, Ready, count_then, is_crowded, Ran}
use Rattle.row_steps.specs.RunLaws.{uncrowded-final, all-final}
use Rattle.truths.specs.TruthChecks.{Lent, Judged, after_verdict}
use Rattle.regress.specs.Regressing.{Regressable, Runnable, Regresses, Listable, held, RegressAnswered}
use Rattle.std.specs.Prelude.{Err, None, Ok, Option, Result, Some}
use Rattle.std.specs.Option.{ok_or}

-- `list_result`
pub list-writable : {s out : List ℕ} {count root : ℕ} → Listable s count root out → (n m : ℕ) → 2048 ≤ n → 2048 ≤ m → Writable s count root (replicate n 0) (replicate m 0) out
list-writable {s} {out} {count} {root} l n m h k = record {
  written = l.written;
  words = l.words;
  within = l.within;
  root-there = l.root-there;
  unmarked = record { places = rw length-replicate h; zeros = λ i j. get_or-replicate n i 0 0 (omega arith) };
  order-places = rw length-replicate k;
  room = l.room;
}

words-few : (d : Diagram) (out : List ℕ) → leb (length (rows d)) most_rows ≡ true → write_words d out ≡ listing d ++ drop (length (rows d) * 3) out
unfolding write_words
words-few d out e = rw e

words-many : (d : Diagram) (out : List ℕ) → leb (length (rows d)) most_rows ≡ false → write_words d out ≡ out
unfolding write_words
words-many d out e = rw e

module _ {s : List ℕ} {root : ℕ} {out : List ℕ} {r : Option ℕ} {marks' out' : List ℕ} (p : WritePost s root out r marks' out') where
  abbrev D : Diagram
  D = tree s root

  pub list-answer : {v : Result ℕ Refusal} → v ≡ ok_or r NoSpace → RegressAnswered (held D) v out out'
  unfolding write_answer
  list-answer {v} e = go (flag (leb (length (rows D)) most_rows))
    where
      go : Flag (leb (length (rows D)) most_rows) → RegressAnswered (held D) v out out'
      go (is_true q) =
          let k : r ≡ Some (length (rows D)) = rw q at p.answer in
          let w : out' ≡ listing D ++ drop (length (rows D) * 3) out = p.words ∙ words-few D out q in
          rw (le-ltb most_rows (length (rows D)) (leb-true _ _ q)) (record {
            answer = e ∙ ap (λ (o : Option ℕ). ok_or o NoSpace) k;
            result = w ∙ ap (λ (i : ℕ). listing D ++ drop i out) (sym (length-listing D));
          })
      go (is_false q) =
          let k : r ≡ None = rw q at p.answer in
          let w : out' ≡ out = p.words ∙ words-many D out q in
          rw (lt-ltb most_rows (length (rows D)) (leb-false _ _ q)) (record { answer = e ∙ ap (λ (o : Option ℕ). ok_or o NoSpace) k; result = w })

-- `regress_in`
module _ {ar value truths spans work : List ℕ} (c : Runnable ar value truths spans work) where
  empty-valued : Valued (diagrams_of work 0)
  empty-valued = record { most = λ v h. clash (subst (λ (rs : List Diagram). mem same (leaf v) rs ≡ true) (diagrams-none work) h) refl }

  pub in-ready : {limit : ℕ} (a b d e : ℕ) → limit * 5 ≤ a → a ≤ most_pairs * 5 → 4096 ≤ b → 2048 ≤ d → 2048 ≤ e
      → Ready (replicate a 0) (replicate b 0) limit work (replicate d 0) (replicate e 0) 0
  in-ready {limit} a b d e p q i j k = record {
    space = record { holds = holds-none work (replicate d 0) (replicate e 0) c.room (rw length-replicate k) (clean-made d j); values = empty-valued };
    clean = record { slots = rw length-replicate i; zeros = λ n l. get_or-replicate b n 0 0 (omega arith) };
    words = rw length-replicate p;
    most = omega arith;
  }

pub in-regresses : (m : Run Diagram) {limit : ℕ} {work : List ℕ} {r : Result (ℕ × ℕ) (Refusal × ℕ)} {s heads links index : List ℕ} → Ran limit m work 0 r s heads links index
    → Regresses limit m r s
in-regresses m {limit} {work} {r} {s} {heads} {links} {index} x = record {
  heads = heads;
  links = links;
  holds = x.space.holds;
  row = λ i n e. let g = x.row i n e in (g.there, subst (λ (rs : List Diagram). m rs ≡ ok (tree s i, diagrams_of s n)) (diagrams-none work) g.gives);
  refusal = λ w n e f. subst (λ (rs : List Diagram). m rs ≡ refused w) (diagrams-none work) (x.refusal w n e f);
}

-- `regress_space`
pub uncrowded-regresses : {m : Run Diagram} {limit limit' : ℕ} {r : Result (ℕ × ℕ) (Refusal × ℕ)} {s : List ℕ} {b : Bool} → Regresses limit m r s → b ≡ is_crowded r → b ≡ false
    → Regresses limit' m r s
uncrowded-regresses {m} {limit} {limit'} {r} {s} {b} x p q = record {
  heads = x.heads;
  links = x.links;
  holds = x.holds;
  row = x.row;
  refusal = λ w n e f. x.refusal w n e (uncrowded-final r w n (sym p ∙ q) e);
}

-- `regress_checked`
module _ {ar value truths spans out work : List ℕ} (c : Regressable ar value truths spans out work) where
  pub checked-runnable : Runnable ar value truths spans work
  checked-runnable = record {
    value-listing = c.value-listing;
    lent = record { arities = (listing-is-valid ar value c.value-listing).arities; listings = c.truth-listings };
    room = c.room;
  }

  module _ {r : Result (ℕ × ℕ) (Refusal × ℕ)} {s : List ℕ} (x : Regresses most_pairs (regression ar (truths_of truths spans) (diagram_of value)) r s) where
    pub checked-listable : {root n : ℕ} → r ≡ Ok (root, n) → Listable s n root out
    checked-listable {root} {n} e =
        let h : Holds s x.heads x.links n = subst (λ (y : Result (ℕ × ℕ) (Refusal × ℕ)). Holds s x.heads x.links (count_then y)) e x.holds in
        record { written = h.written; words = h.table.words; within = h.table.within; root-there = (x.row root n e).0; room = c.result }

    gives_row : {root n : ℕ} → r ≡ Ok (root, n) → regressed ar (truths_of truths spans) (diagram_of value) ≡ held (tree s root)
    unfolding regressed
    gives_row {root} {n} e = ap (λ (o : Outcome (Diagram × List Diagram)). and_then o (λ z. held z.0)) (x.row root n e).1

    gives-refusal : {w : Refusal} {n : ℕ} → r ≡ Err (w, n) → regressed ar (truths_of truths spans) (diagram_of value) ≡ refused w
    unfolding regressed
    gives-refusal {w} {n} e = ap (λ (o : Outcome (Diagram × List Diagram)). and_then o (λ z. held z.0)) (x.refusal w n e (all-final w))

    pub checked-done : {root n : ℕ} → r ≡ Ok (root, n) → {q : Result ℕ Refusal} {out' : List ℕ} → RegressAnswered (held (tree s root)) q out out'
        → (q ≡ regressed_as (regressed ar (truths_of truths spans) (diagram_of value))) × (out' ≡ written_as (regressed ar (truths_of truths spans) (diagram_of value)) out)
    checked-done {root} {n} e {q} {out'} a = rw (gives_row e) (a.answer, a.result)

    pub checked-stop : {w : Refusal} {n : ℕ} → r ≡ Err (w, n)
        → (Err w ≡ regressed_as (regressed ar (truths_of truths spans) (diagram_of value))) × (out ≡ written_as (regressed ar (truths_of truths spans) (diagram_of value)) out)
    checked-stop {w} {n} e = rw (gives-refusal e) (refl, refl)

-- `regress`
module _ (ar value truths spans out work : List ℕ) where
  abbrev Says : Result ℕ Refusal → List ℕ → Type 0
  Says r out' = (r ≡ regress_answer ar value truths spans (length out) (length work)) × (out' ≡ regress_result ar value truths spans (length work) out)

  says : {why : Refusal} → regress_outcome ar value truths spans (length out) (length work) ≡ refused why → Says (Err why) out
  says {why} e = (sym (regress-refused ar value truths spans (length out) (length work) why e), sym (result-refused ar value truths spans (length work) out why e))

  module _ {b : Bool} (p : b ≡ is_listing ar value) where
    pub regress-none : not b ≡ true → Says (Err Listing) out
    regress-none e = says (regress-value ar value truths spans (length out) (length work) (sym p ∙ not-true b e))

    module _ (f : not b ≡ false) {d : Bool} (q : d ≡ are_listings ar truths spans 1 (predicate_count - 1)) where
      v : is_listing ar value ≡ true
      v = sym p ∙ not-false b f

      pub regress-unlisted : not d ≡ true → Says (Err Listing) out
      regress-unlisted e = says (regress-truths ar value truths spans (length out) (length work) v (sym q ∙ not-true d e))

      module _ (g : not d ≡ false) where
        t : are_listings ar truths spans 1 (predicate_count - 1) ≡ true
        t = sym q ∙ not-false d g

        pub regress-short : length out < result_words → Says (Err Buffer) out
        regress-short h = says (regress-buffer ar value truths spans (length out) (length work) v t (or-one _ _ (lt-ltb (length out) result_words h)))

        pub regress-narrow : length work < space_words → Says (Err Buffer) out
        regress-narrow h = says (regress-buffer ar value truths spans (length out) (length work) v t (or-other (ltb (length out) result_words) _ (lt-ltb (length work) space_words h)))

        module _ (h : result_words ≤ length out) (k : space_words ≤ length work) where
          pub regress-lent : Lent ar truths spans
          regress-lent = record { arities = (listing-is-valid ar value v).arities; listings = t }

          pub regress-regressable : Regressable ar value truths spans out work
          regress-regressable = record { value-listing = v; truth-listings = t; result = h; room = k }

          module _ {x : Result (Unit {0}) Refusal} (j : Judged ar truths spans x) where
            judged : regress_outcome ar value truths spans (length out) (length work) ≡ after_verdict x (regressed ar (truths_of truths spans) (diagram_of value))
            judged = regress-checks ar value truths spans (length out) (length work) v t h k ∙ j.each (regressed ar (truths_of truths spans) (diagram_of value))

            pub regress-faulty : {w : Refusal} → x ≡ Err w → Says (Err w) out
            regress-faulty e = says (judged ∙ ap (λ (y : Result (Unit {0}) Refusal). after_verdict y (regressed ar (truths_of truths spans) (diagram_of value))) e)

            pub regress-passed : x ≡ (Ok tt) → {r : Result ℕ Refusal} {out' : List ℕ}
                → (r ≡ regressed_as (regressed ar (truths_of truths spans) (diagram_of value))) × (out' ≡ written_as (regressed ar (truths_of truths spans) (diagram_of value)) out)
                → Says r out'
            unfolding regress_answer regress_result
            regress-passed e a =
                let z = judged ∙ ap (λ (y : Result (Unit {0}) Refusal). after_verdict y (regressed ar (truths_of truths spans) (diagram_of value))) e in
                rw z a
