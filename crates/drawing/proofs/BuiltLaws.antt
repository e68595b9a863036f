-- Laws of the result: a row of the space written as the listing of what was built.
use mathlib.Core.Path.{◌≡◌, refl, sym, ap, subst, ◌∙◌}
use mathlib.Core.Bool.{Bool, true, false, cond, false≢true}
use mathlib.Core.List.{List, [], ◌++◌}
use Prim.Native.Nat.{ℕ, ◌*◌, ◌≤◌, ◌<◌}
use native.Mathlib.Omega.{arith}
use lib.ListN.{length, replicate, drop, length-replicate, get_or-replicate}
use lib.Dec.{ltb}
use borrow.Author.Tests.{lt-leb, le-leb, lt-ltb, le-ltb}
use Rattle.basics.specs.Tests.{Cmp, cmp, below, equal, above}
use Rattle.refusal.specs.declared.Refusal.{Refusal}
use Rattle.refusal.specs.declared.Refusal.TheVariants.{Space as NoSpace}
use Rattle.table.proofs.TableLaws.{clean-made}
use Rattle.diagram.specs.Sizes.{most_rows, space_rows, space_words, most_pairs}
use Rattle.diagram.specs.Diagram.{Diagram}
use Rattle.diagram.specs.Rows.{rows}
use Rattle.diagram.specs.Listing.{listing}
use Rattle.diagram.specs.ListingLaws.{length-listing}
use Rattle.diagram.specs.Validity.{tree}
use Rattle.diagram.specs.Variables.{closed}
use Rattle.store.specs.Space.{diagrams_of, Holds}
use Rattle.store.proofs.SpaceLaws.{holds-none}
use Rattle.write.specs.Writing.{write_answer, write_words, WritePost}
use Rattle.write.specs.Writing as write
use Rattle.apply.specs.declared.Combined.{Combined}
use Rattle.apply.specs.declared.Combined.TheVariants.{Done as CombinedDone, Refused as CombinedRefused}
use Rattle.apply.specs.Combination.{written}
use Rattle.apart.specs.Results.{Writable, result_answer, ResultWritten}
use Rattle.apart.proofs.ResultLaws.{unmarked-made}
use Rattle.refusal.specs.Outcome.{Outcome, ok, refused, and_then}
use Rattle.row_steps.specs.Running.{Valued, Ready, Ran, count_then, is_crowded}
use Rattle.row_steps.specs.RunLaws.{uncrowded-final, all-final}
use Rattle.build.specs.Build.{held}
use Rattle.build.specs.Machine.{build, built, built_closed}
use Rattle.drawing.proofs.RegularLaws.{built-regular}
use Rattle.drawing.specs.Stacks.{whole_ops}
use Rattle.drawing.specs.Writing.{Callable, Under, BuildAnswered, RowWritable, Roomy, Builds}
use Rattle.reading.specs.Operations.{Op}
use Rattle.std.specs.Option.{ok_or}
use Rattle.std.specs.Prelude.{Err, None, Ok, Option, Result, Some}

-- a result held to 1,024 rows
held-many : (d : Diagram) → most_rows < length (rows d) → held d ≡ refused NoSpace
held-many d h = rw (lt-ltb most_rows (length (rows d)) h)

held-few : (d : Diagram) → length (rows d) ≤ most_rows → held d ≡ ok d
held-few d h = rw (le-ltb most_rows (length (rows d)) h)

answer-many : (d : Diagram) → most_rows < length (rows d) → write_answer d ≡ None
unfolding write_answer
answer-many d h = rw (lt-leb (length (rows d)) most_rows h)

answer-few : (d : Diagram) → length (rows d) ≤ most_rows → write_answer d ≡ Some (length (rows d))
unfolding write_answer
answer-few d h = rw (le-leb (length (rows d)) most_rows h)

words-many : (d : Diagram) (out : List ℕ) → most_rows < length (rows d) → write_words d out ≡ out
unfolding write_words
words-many d out h = rw (lt-leb (length (rows d)) most_rows h)

words-few : (d : Diagram) (out : List ℕ) → length (rows d) ≤ most_rows → write_words d out ≡ listing d ++ drop (length (listing d)) out
unfolding write_words
words-few d out h = rw (le-leb (length (rows d)) most_rows h, length-listing d)

-- `write_row`
pub row-writable : {s : List ℕ} {count root : ℕ} {out : List ℕ} → RowWritable s count root out → (n₁ n₂ : ℕ) → space_rows ≤ n₁ → space_rows ≤ n₂
    → write.Writable s count root (replicate n₁ 0) (replicate n₂ 0) out
row-writable g n₁ n₂ h k = record {
  written = g.written;
  words = g.space-words;
  within = g.within;
  root-there = g.there;
  unmarked = unmarked-made n₁ h;
  order-places = rw length-replicate k;
  room = omega (arith, g.room);
}

module _ {s : List ℕ} {root : ℕ} {out : List ℕ} {x : Option ℕ} {marks' out' : List ℕ} (w : WritePost s root out x marks' out') where
  pub row-many : x ≡ None → BuildAnswered (held (tree s root)) out (Err NoSpace) out'
  row-many e = go (cmp most_rows (length (rows (tree s root))))
    where
      few : length (rows (tree s root)) ≤ most_rows → ⊥
      few h = let y : Some (length (rows (tree s root))) ≡ None = sym (answer-few (tree s root) h) ∙ sym w.answer ∙ e in let z : ◌≡◌ {A = ℕ} 0 1 = cc in omega arith

      go : Cmp most_rows (length (rows (tree s root))) → BuildAnswered (held (tree s root)) out (Err NoSpace) out'
      go (below h) = record { answer = rw (held-many (tree s root) h); words = rw (held-many (tree s root) h) (w.words ∙ words-many (tree s root) out h) }
      go (equal h) = absurd (few (omega arith))
      go (above h) = absurd (few (omega arith))

  pub row-few : {m : ℕ} → x ≡ Some m → BuildAnswered (held (tree s root)) out (Ok m) out'
  row-few {m} e = go (cmp most_rows (length (rows (tree s root))))
    where
      done : length (rows (tree s root)) ≤ most_rows → BuildAnswered (held (tree s root)) out (Ok m) out'
      done h =
          let y : Some m ≡ Some (length (rows (tree s root))) = sym e ∙ w.answer ∙ answer-few (tree s root) h in
          let n : m ≡ length (rows (tree s root)) = cc in
          record { answer = rw (held-few (tree s root) h) (ap Ok n); words = rw (held-few (tree s root) h) (w.words ∙ words-few (tree s root) out h) }

      go : Cmp most_rows (length (rows (tree s root))) → BuildAnswered (held (tree s root)) out (Ok m) out'
      go (below h) = let y : Some m ≡ None = sym e ∙ w.answer ∙ answer-many (tree s root) h in absurd (let z : ◌≡◌ {A = ℕ} 0 1 = cc in omega arith)
      go (equal h) = done (omega arith)
      go (above h) = done (omega arith)

  pub row-told : {r : Result ℕ Refusal} → r ≡ ok_or x NoSpace → BuildAnswered (held (tree s root)) out r out'
  row-told q = rw q (go x refl)
    where
      go : (o : Option ℕ) → x ≡ o → BuildAnswered (held (tree s root)) out (ok_or o NoSpace) out'
      go (Some m) e = row-few e
      go None e = row-many e

-- `build_in`: the tables of a call, made anew
none-valued : (s : List ℕ) → Valued (diagrams_of s 0)
unfolding diagrams_of
none-valued s = record { most = λ v h. let z : ◌≡◌ {A = Bool} false true = h in absurd (false≢true z) }

pub tables-ready : {plan work : List ℕ} {limit : ℕ} → Roomy plan limit work → (n₁ n₂ n₃ : ℕ) → 4096 ≤ n₁ → 2048 ≤ n₂ → 2048 ≤ n₃
    → Ready plan (replicate n₁ 0) limit work (replicate n₂ 0) (replicate n₃ 0) 0
tables-ready {work = work} g n₁ n₂ n₃ h k l = record {
  space = record { holds = holds-none work (replicate n₂ 0) (replicate n₃ 0) g.work-room (rw length-replicate l) (clean-made n₂ k); values = none-valued work };
  clean = record { slots = rw length-replicate h; zeros = λ b q. get_or-replicate n₁ b 0 0 (omega arith) };
  words = g.words;
  most = g.most;
}

start : (os : List Op) (s : List ℕ) → build os (diagrams_of s 0) ≡ build os []
unfolding diagrams_of
start os s = refl

pub ran-builds : {limit : ℕ} {os : List Op} {work : List ℕ} {r : Result (ℕ × ℕ) (Refusal × ℕ)} {s heads links index : List ℕ} → Ran limit (build os) work 0 r s heads links index
    → Builds limit os r s
ran-builds {limit} {os} {work} {r} {s} {heads} {links} x = record {
  row = λ root count e.
      let h : Holds s heads links count = subst (λ (y : Result (ℕ × ℕ) (Refusal × ℕ)). Holds s heads links (count_then y)) e x.space.holds in
      let g = x.row root count e in
      record { written = h.written; within = h.table.within; there = g.there; gives = sym (start os work) ∙ g.gives };
  refusal = λ w count e f. sym (start os work) ∙ x.refusal w count e f;
}

-- `build_few`, `build_many`
pub made-roomy : (n limit : ℕ) {work : List ℕ} → limit * 5 ≤ n → limit ≤ most_pairs → space_words ≤ length work → Roomy (replicate n 0) limit work
made-roomy n limit h k l = record { words = rw length-replicate h; most = k; work-room = l }

-- `build_space`: what few pairs suffice for
pub few-suffice : {limit : ℕ} {os : List Op} {r : Result (ℕ × ℕ) (Refusal × ℕ)} {s : List ℕ} → is_crowded r ≡ false → Builds limit os r s → Builds most_pairs os r s
few-suffice {r = r} c b = record { row = b.row; refusal = λ w count e f. b.refusal w count e (uncrowded-final r w count c e) }

-- `build_words`
module _ {ops out work : List ℕ} (g : Callable ops out work) {r : Result (ℕ × ℕ) (Refusal × ℕ)} {s : List ℕ} (same_length : length s ≡ length work)
    (x : Builds most_pairs (whole_ops ops) r s) where
  pub built-refused : {w : Refusal} {c : ℕ} → r ≡ Err (w, c) → BuildAnswered (built (whole_ops ops)) out (Err w) out
  unfolding built
  built-refused {w} {c} e =
      let q : build (whole_ops ops) [] ≡ refused w = x.refusal w c e (all-final w) in
      record { answer = rw q; words = rw q }

  module _ {root count : ℕ} (e : r ≡ Ok (root, count)) where
    pub built-writable : RowWritable s count root out
    built-writable =
        let h = x.row root count e in
        record { written = h.written; space-words = omega (arith, g.work-room); within = h.within; there = h.there; room = g.out-room }

    pub built-row : {b : Result ℕ Refusal} {out' : List ℕ} → BuildAnswered (held (tree s root)) out b out' → BuildAnswered (built (whole_ops ops)) out b out'
    unfolding built
    built-row a =
        let q : build (whole_ops ops) [] ≡ ok (tree s root, diagrams_of s count) = (x.row root count e).gives in
        record { answer = rw q a.answer; words = rw q a.words }

-- `write_closed`
module _ {ar : List ℕ} {d : Diagram} {p : ℕ} {out : List ℕ} {q : Combined} {out' : List ℕ} (x : ResultWritten ar d p out q out') where
  pub closed-done : {m n : ℕ} → q ≡ CombinedDone m n → BuildAnswered (held (closed ar d)) out (Ok m) out'
  unfolding result_answer
  closed-done {m} {n} e = go (ltb most_rows (length (rows (closed ar d)))) refl
    where
      go : (b : Bool) → ltb most_rows (length (rows (closed ar d))) ≡ b → BuildAnswered (held (closed ar d)) out (Ok m) out'
      go true f =
          let y : CombinedDone m n ≡ CombinedRefused NoSpace = sym e ∙ x.answer ∙ ap (λ (b : Bool). cond b (CombinedRefused NoSpace) (CombinedDone (length (rows (closed ar d))) p)) f in
          absurd (let z : ◌≡◌ {A = ℕ} 0 1 = cc in omega arith)
      go false f =
          let y : CombinedDone m n ≡ CombinedDone (length (rows (closed ar d))) p =
          sym e ∙ x.answer ∙ ap (λ (b : Bool). cond b (CombinedRefused NoSpace) (CombinedDone (length (rows (closed ar d))) p)) f in
          let k : m ≡ length (rows (closed ar d)) = cc in
          record { answer = rw f (ap Ok k); words = rw f (x.words ∙ ap (λ (c : Combined). written c (listing (closed ar d)) out) e) }

  pub closed-refused : {w : Refusal} → q ≡ CombinedRefused w → BuildAnswered (held (closed ar d)) out (Err w) out'
  unfolding result_answer
  closed-refused {w} e = go (ltb most_rows (length (rows (closed ar d)))) refl
    where
      go : (b : Bool) → ltb most_rows (length (rows (closed ar d))) ≡ b → BuildAnswered (held (closed ar d)) out (Err w) out'
      go true f =
          let y : CombinedRefused w ≡ CombinedRefused NoSpace = sym e ∙ x.answer ∙ ap (λ (b : Bool). cond b (CombinedRefused NoSpace) (CombinedDone (length (rows (closed ar d))) p)) f in
          let k : w ≡ NoSpace = cc in
          record { answer = rw f (ap Err k); words = rw f (x.words ∙ ap (λ (c : Combined). written c (listing (closed ar d)) out) e) }
      go false f =
          let y : CombinedRefused w ≡ CombinedDone (length (rows (closed ar d))) p =
          sym e ∙ x.answer ∙ ap (λ (b : Bool). cond b (CombinedRefused NoSpace) (CombinedDone (length (rows (closed ar d))) p)) f in
          absurd (let z : ◌≡◌ {A = ℕ} 0 1 = cc in omega arith)

-- `build_closed_words`
closed_of : (ar : List ℕ) (os : List Op) {o : Outcome (Diagram × List Diagram)} → build os [] ≡ o → built_closed ar os ≡ and_then o (λ p. held (closed ar p.0))
unfolding built_closed
closed_of ar os e = ap (λ (o : Outcome (Diagram × List Diagram)). and_then o (λ p. held (closed ar p.0))) e

module _ {ar ops out work : List ℕ} (l : Under ar ops) (g : Callable ops out work) {r : Result (ℕ × ℕ) (Refusal × ℕ)} {s : List ℕ} (same_length : length s ≡ length work)
    (x : Builds most_pairs (whole_ops ops) r s) where
  pub reward-refused : {w : Refusal} {c : ℕ} → r ≡ Err (w, c) → BuildAnswered (built_closed ar (whole_ops ops)) out (Err w) out
  reward-refused {w} {c} e =
      let q : build (whole_ops ops) [] ≡ refused w = x.refusal w c e (all-final w) in
      subst (λ (o : Outcome Diagram). BuildAnswered o out (Err w) out) (sym (closed_of ar (whole_ops ops) q)) (record { answer = refl; words = refl })

  module _ {root count : ℕ} (e : r ≡ Ok (root, count)) where
    pub reward-writable : Writable ar s count root out
    reward-writable =
        let h = x.row root count e in
        record {
          written = h.written;
          words = omega (arith, g.work-room);
          within = h.within;
          root-there = h.there;
          regular = built-regular ar ops (tree s root) (diagrams_of s count) g.good l h.gives;
          room = g.out-room;
        }

    pub reward-row : {b : Result ℕ Refusal} {out' : List ℕ} → BuildAnswered (held (closed ar (tree s root))) out b out' → BuildAnswered (built_closed ar (whole_ops ops)) out b out'
    reward-row {b} {out'} a = subst (λ (o : Outcome Diagram). BuildAnswered o out b out') (sym (closed_of ar (whole_ops ops) (x.row root count e).gives)) a
