-- Laws of texts answered in a buffer: with room for all answers they are the answers of the text, otherwise they begin them.
use Rattle.std.specs.Prelude.{◌≡◌, refl, Bool, true, false, cond, List, [], ◌∷◌, ℕ, suc, ◌≤◌, ◌<◌, length}
use Rattle.std.proofs.Math.Path.{ap}
use Rattle.std.proofs.Common.{◌∙◌, arith, le-leb}
use Rattle.std.proofs.Math.Decide.{dec_lt}
use Rattle.std.proofs.lemmas.Bool.{lt-leb}
use Rattle.basics.specs.Prefix.{Prefix, prefix_refl, prefix_trans, prefix-length}
use Rattle.session.specs.Texts.{Progress, after_line, after_lines, after_rest, closing, beginning, lines_of, text_answers}
use Rattle.texts.specs.declared.Ran.{Ran}
use Rattle.texts.specs.declared.Ran.TheVariants.{Done}
use Rattle.texts.specs.Running.{Filled, fits, stopped, all_bytes, fill_closing, fill_rest, fill_lines, filled, in_front, Fills, Reached, after, behind, RunStops}

-- answers are only added
pub line-begins : (p : Progress) (l : List ℕ) → Prefix p.bytes (after_line p l).bytes
unfolding after_line
line-begins p l = record { more = _; is = refl }

rest-begins : (p : Progress) (s : List ℕ) → Prefix p.bytes (after_rest p s).bytes
unfolding after_rest
rest-begins p [] = prefix_refl p.bytes
rest-begins p (b ∷ s) = record { more = _; is = refl }

closing-begins : (p : Progress) → Prefix p.bytes (all_bytes p)
closing-begins p = record { more = closing p.session.part p.met; is = refl }

abbrev whole : Progress → List (List ℕ) → List ℕ → List ℕ
whole p ls s = all_bytes (after_rest (after_lines p ls) s)

whole-rest : (p : Progress) (s : List ℕ) → Prefix (after_rest p s).bytes (all_bytes (after_rest p s))
whole-rest p s = closing-begins (after_rest p s)

whole-begins : (p : Progress) (ls : List (List ℕ)) (s : List ℕ) → Prefix p.bytes (whole p ls s)
unfolding after_lines
whole-begins p [] s = prefix_trans (rest-begins p s) (whole-rest p s)
whole-begins p (l ∷ ls) s = prefix_trans (line-begins p l) (whole-begins (after_line p l) ls s)

-- all answers have room
fill-all : (room : ℕ) (p : Progress) (ls : List (List ℕ)) (s : List ℕ) → length (whole p ls s) ≤ room
    → fill_lines room p ls s ≡ record { bytes = whole p ls s; answer = Done (length (whole p ls s)) }
unfolding fill_lines fill_rest fill_closing after_lines
fill-all room p [] s h =
    rw (
      le-leb (length (after_rest p s).bytes) room (omega (arith, prefix-length (whole-rest p s))),
      le-leb (length (whole p [] s)) room h,
    )
fill-all room p (l ∷ ls) s h =
    rw (le-leb (length (after_line p l).bytes) room (omega (arith, prefix-length (whole-begins (after_line p l) ls s))))
    (fill-all room (after_line p l) ls s h)

reached-more : {p q : Progress} {l : List ℕ} {ls : List (List ℕ)} {s : List ℕ} → Reached (after_line p l) ls s q → Reached p (l ∷ ls) s q
unfolding after_lines
reached-more (after k e) = after (suc k) e
reached-more (behind e) = behind e

-- it stops where the next answer has no room
pub record Stops (room : ℕ) (p : Progress) (ls : List (List ℕ)) (s : List ℕ) (x : Filled) : Type 0 where
  pub progress : Progress
  pub is : x ≡ stopped progress
  pub reached : Reached p ls s progress
  pub begins : Prefix progress.bytes (whole p ls s)
  pub within : length progress.bytes ≤ room

fill-some : (room : ℕ) (p : Progress) (ls : List (List ℕ)) (s : List ℕ) → length p.bytes ≤ room → room < length (whole p ls s)
    → Stops room p ls s (fill_lines room p ls s)
unfolding fill_lines fill_rest fill_closing after_lines
fill-some room p [] s l h = go (dec_lt room (length (after_rest p s).bytes))
  where
    go : Dec (room < length (after_rest p s).bytes) → Stops room p [] s (fill_lines room p [] s)
    go (yes g) = record {
      progress = p;
      is = rw (lt-leb (length (after_rest p s).bytes) room g);
      reached = after 0 refl;
      begins = whole-begins p [] s;
      within = l;
    }
    go (no g) = record {
      progress = after_rest p s;
      is = rw (le-leb (length (after_rest p s).bytes) room (omega arith), lt-leb (length (whole p [] s)) room h);
      reached = behind refl;
      begins = whole-rest p s;
      within = omega arith;
    }
fill-some room p (l ∷ ls) s b h = go (dec_lt room (length (after_line p l).bytes)) (λ (g : length (after_line p l).bytes ≤ room). fill-some room (after_line p l) ls s g h)
  where
    go : Dec (room < length (after_line p l).bytes)
        → (length (after_line p l).bytes ≤ room → Stops room (after_line p l) ls s (fill_lines room (after_line p l) ls s))
        → Stops room p (l ∷ ls) s (fill_lines room p (l ∷ ls) s)
    go (yes g) ih = record {
      progress = p;
      is = rw (lt-leb (length (after_line p l).bytes) room g);
      reached = after 0 refl;
      begins = whole-begins p (l ∷ ls) s;
      within = b;
    }
    go (no g) ih =
        let t = ih (omega arith) in
        record {
          progress = t.progress;
          is = rw (le-leb (length (after_line p l).bytes) room (omega arith)) t.is;
          reached = reached-more t.reached;
          begins = t.begins;
          within = t.within;
        }

-- no byte behind the last line feed
pub rest-none : (room : ℕ) (p : Progress) → length p.bytes ≤ room → fill_rest room p [] ≡ fill_closing room p
unfolding fill_rest after_rest
rest-none room p h = rw (le-leb (length p.bytes) room h)

-- what was written stays
pub closing-grows : (room : ℕ) (p : Progress) → length p.bytes ≤ length (fill_closing room p).bytes
unfolding fill_closing
closing-grows room p = go (fits room (all_bytes p))
  where
    go : (b : Bool) → length p.bytes ≤ length (cond b (record { bytes = all_bytes p; answer = Done (length (all_bytes p)) }) (stopped p)).bytes
    go true = prefix-length (closing-begins p)
    go false = omega arith

pub rest-grows : (room : ℕ) (p : Progress) (s : List ℕ) → length p.bytes ≤ length (fill_rest room p s).bytes
unfolding fill_rest
rest-grows room p s = go (fits room (after_rest p s).bytes)
  where
    go : (b : Bool) → length p.bytes ≤ length (cond b (fill_closing room (after_rest p s)) (stopped p)).bytes
    go true = omega (arith, prefix-length (rest-begins p s), closing-grows room (after_rest p s))
    go false = omega arith

module _ (s out : List ℕ) {out' : List ℕ} {r : Ran} (x : Fills (filled (length out) s) out r out') where
  -- with room for all answers
  pub run-done : length (text_answers s) ≤ length out → (r ≡ Done (length (text_answers s))) × (out' ≡ in_front (text_answers s) out)
  unfolding text_answers filled
  run-done h =
      let e = fill-all (length out) beginning (lines_of s).whole (lines_of s).rest h in
      (x.answer ∙ ap (λ (f : Filled). f.answer) e, x.result ∙ ap (λ (f : Filled). in_front f.bytes out) e)

  -- without
  pub run-full : length out < length (text_answers s) → RunStops s out r out'
  unfolding text_answers filled beginning
  run-full h =
      let t = fill-some (length out) beginning (lines_of s).whole (lines_of s).rest (omega arith) h in
      record {
        progress = t.progress;
        answer = x.answer ∙ ap (λ (f : Filled). f.answer) t.is;
        result = x.result ∙ ap (λ (f : Filled). in_front f.bytes out) t.is;
        reached = t.reached;
        begins = t.begins;
      }
