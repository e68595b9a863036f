-- Laws of one row written.
use mathlib.Core.Path.{◌≡◌, refl, sym, ap, ◌∙◌}
use mathlib.Core.Bool.{cond}
use mathlib.Core.List.{List, [], ◌∷◌, ◌++◌, append-nil, append_assoc}
use Prim.Native.Nat.{ℕ, zero, suc, ◌+◌, ◌-◌, ◌*◌, ◌≤◌, ◌<◌}
use native.Mathlib.Omega.{arith}
use lib.ListN.{length, get_or, set, take, drop, replicate, length-set, length-drop, length-append, get_or-replicate, get_or-append}
use lib.Seq.{length-take-le, take_all, take-suc, take-suc-set, get_or-take, get_or-drop, get_or-append-add}
use borrow.Author.Tests.{le-leb, lt-leb}
use Rattle.basics.specs.Tests.{Cmp, below, equal, above, cmp}
use Rattle.label.specs.Limits.{most_places}
use Rattle.state.specs.Lent.{fact_words, most_facts, fact_row}
use Rattle.next_facts.specs.Filling.{objects_in, row_word, rows_counted, Filled, Room}
use Rattle.next_facts.proofs.StartLaws.{word_first, word-behind, word-object}
use Rattle.std.specs.Prelude.{None, Some}

row-length : (p : ℕ) (os : List ℕ) → length (fact_row p os) ≡ fact_words
row-length p os = ap suc (length-take-le most_places (os ++ replicate most_places 0) (omega (arith, length-append os (replicate most_places 0))))

module _ (ws : List ℕ) (at p k : ℕ) (w : at + k ≤ length ws) (few : k ≤ most_places) where
  size : length (objects_in ws at k) ≡ k
  unfolding objects_in
  size = length-take-le k (drop at ws) (omega (arith, length-drop at ws))

  -- the words of the row, one by one
  row_is : (i : ℕ) → i < fact_words → get_or (fact_row p (objects_in ws at k)) i 0 ≡ row_word ws at p k i
  unfolding objects_in
  row_is zero h = word_first ws at p k 0 refl
  row_is (suc j) h = get_or-take most_places (objects_in ws at k ++ replicate most_places 0) j 0 (omega arith) ∙ go (cmp j k)
    where
      inside : j < k → get_or (objects_in ws at k ++ replicate most_places 0) j 0 ≡ row_word ws at p k (suc j)
      inside l =
          let e : at + j ≡ at + (suc j - 1) = omega arith in
          get_or-append (objects_in ws at k) (replicate most_places 0) 0 j (omega (arith, size))
          ∙ get_or-take k (drop at ws) j 0 l ∙ get_or-drop at ws j 0 ∙ ap (λ (x : ℕ). get_or ws x 0) e
          ∙ word-object ws at p k (suc j) (λ z. omega arith) (omega arith)

      beyond : k ≤ j → get_or (objects_in ws at k ++ replicate most_places 0) j 0 ≡ row_word ws at p k (suc j)
      beyond l =
          let e : j ≡ length (objects_in ws at k) + (j - k) = omega (arith, size) in
          ap (λ (x : ℕ). get_or (objects_in ws at k ++ replicate most_places 0) x 0) e
          ∙ get_or-append-add (objects_in ws at k) (replicate most_places 0) (j - k) 0
          ∙ get_or-replicate most_places (j - k) 0 0 (omega arith)
          ∙ word-behind ws at p k (suc j) (λ z. omega arith) (omega arith)

      go : Cmp j k → get_or (objects_in ws at k ++ replicate most_places 0) j 0 ≡ row_word ws at p k (suc j)
      go (below l) = inside l
      go (equal l) = beyond (omega arith)
      go (above l) = beyond (omega arith)

-- `put`: the first i words of the row are written
pub record Putting (ws out₀ out : List ℕ) (at p k count i : ℕ) : Type 0 where
  pub words : at + k ≤ length ws
  pub few : k ≤ most_places
  pub place : count < most_facts
  pub room : most_facts * fact_words ≤ length out
  pub same : length out ≡ length out₀
  pub most : i ≤ fact_words
  pub written : take (count * fact_words + i) out ≡ take (count * fact_words) out₀ ++ take i (fact_row p (objects_in ws at k))

pub putting-start : {ws out : List ℕ} {at : ℕ} (p : ℕ) {k count : ℕ} → at + k ≤ length ws → k ≤ most_places → Room out count → (count ≡ most_facts → ⊥)
    → Putting ws out out at p k count 0
putting-start {ws} {out} {at} p {k} {count} w few r n = record {
  words = w;
  few = few;
  place = omega (arith, r.few);
  room = r.words;
  same = refl;
  most = omega arith;
  written =
      let e : count * fact_words + 0 ≡ count * fact_words = omega arith in
      ap (λ (x : ℕ). take x out) e ∙ sym (append-nil (take (count * fact_words) out));
}

module _ {ws out₀ out : List ℕ} {at p k count i : ℕ} (s : Putting ws out₀ out at p k count i) where
  module _ (h : i < fact_words) where
    pub putting-room : count * fact_words + i < length out
    putting-room = omega (arith, s.place, s.room)

    pub putting-on : {w : ℕ} → w ≡ row_word ws at p k i → Putting ws out₀ (set out (count * fact_words + i) w) at p k count (i + 1)
    putting-on {w} e = record {
      words = s.words;
      few = s.few;
      place = s.place;
      room = rw length-set s.room;
      same = length-set out (count * fact_words + i) w ∙ s.same;
      most = omega arith;
      written =
          let row : List ℕ = fact_row p (objects_in ws at k) in
          let a : count * fact_words + (i + 1) ≡ suc (count * fact_words + i) = omega arith in
          let b : suc i ≡ i + 1 = omega arith in
          ap (λ (x : ℕ). take x (set out (count * fact_words + i) w)) a
          ∙ take-suc-set out (count * fact_words + i) w putting-room
          ∙ ap (λ (xs : List ℕ). xs ++ (w ∷ [])) s.written
          ∙ append_assoc (take (count * fact_words) out₀) (take i row) (w ∷ [])
          ∙ ap (λ (x : ℕ). take (count * fact_words) out₀ ++ (take i row ++ (x ∷ []))) (e ∙ sym (row_is ws at p k s.words s.few i h))
          ∙ ap (λ (xs : List ℕ). take (count * fact_words) out₀ ++ xs) (sym (take-suc row i 0 (omega (arith, row-length p (objects_in ws at k)))) ∙ ap (λ (x : ℕ). take x row) b);
    }

  pub putting-end : fact_words ≤ i → Filled (fact_row p (objects_in ws at k) ∷ []) count out₀ (Some (count + 1)) out
  unfolding rows_counted
  putting-end h = record {
    answer = sym (ap (λ b. cond b (Some (count + 1)) None) (le-leb (count + 1) most_facts (omega (arith, s.place))));
    written = λ m e.
        let z : count + 1 ≡ m = cc in
        let row : List ℕ = fact_row p (objects_in ws at k) in
        let a : m * fact_words ≡ count * fact_words + i = omega (arith, s.most) in
        ap (λ (x : ℕ). take x out) a ∙ s.written
        ∙ ap (λ (xs : List ℕ). take (count * fact_words) out₀ ++ xs) (take_all i row (omega (arith, row-length p (objects_in ws at k))) ∙ sym (append-nil row));
  }

pub put-many : (row out : List ℕ) {count : ℕ} → count ≡ most_facts → Filled (row ∷ []) count out None out
unfolding rows_counted
put-many row out {count} e = record {
  answer = sym (ap (λ b. cond b (Some (count + 1)) None) (lt-leb (count + 1) most_facts (omega arith)));
  written = λ m z. absurd (let o : ◌≡◌ {A = ℕ} 0 1 = cc in omega arith);
}
