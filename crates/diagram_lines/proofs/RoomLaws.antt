-- Laws of a diagram that is built: room for its rows, and the words that it leaves in the result buffer.
use mathlib.Core.Path.{◌≡◌, refl, sym, ap, subst, ◌∙◌}
use mathlib.Core.Bool.{Bool, true, false, ◌||◌, cond}
use mathlib.Core.List.{List}
use Prim.Native.Nat.{ℕ, ◌+◌, ◌*◌, ◌-◌, ◌/◌, ◌≤◌, ◌<◌}
use native.Mathlib.Omega.{arith}
use borrow.Author.Tests.{lt-ltb, le-ltb, ltb-false}
use lib.ListN.{length, take}
use lib.Dec.{ltb}
use Rattle.refusal.specs.declared.Refusal.{Refusal}
use Rattle.refusal.specs.declared.Refusal.TheVariants.{Space}
use Rattle.diagram.specs.Diagram.{Diagram}
use Rattle.diagram.specs.Rows.{rows}
use Rattle.diagram.specs.Listing.{listing, diagram_of}
use Rattle.refusal.specs.Outcome.{Outcome, ok, refused}
use Rattle.reading.specs.OutcomeLaws.{apart}
use Rattle.drawing.specs.Writing.{built_as}
use Rattle.session.specs.ModelLines.{most_model_rows}
use Rattle.model.specs.Layout.{listing_words}
use Rattle.model_entry.specs.Building.{Canonical}
use Rattle.drawing.specs.Drawing.{Holds, Draws}
use Rattle.drawing.specs.DrawingLaws.{ListingOf, draws-canonical}
use Rattle.diagram_lines.specs.Lines.{roomed, pick_built, roomed_as}
use Rattle.std.specs.Prelude.{Err, Ok, Result}

-- `room`

pub room-full : (r : ℕ) {n : ℕ} {b : Result ℕ Refusal} {full : Bool} → b ≡ Ok n → full ≡ true → Err Space ≡ roomed_as full r b
room-full r e f = rw (e, f)

module _ {words n : ℕ} {b : Result ℕ Refusal} {full : Bool} (h : words ≤ listing_words) (e : b ≡ Ok n) (f : full ≡ false) where
  pub room-none : most_model_rows - words / 3 < n → Err Space ≡ roomed_as full (words / 3) b
  room-none l = rw (e, f, lt-ltb most_model_rows (words / 3 + n) (omega arith))

  pub room-some : n ≤ most_model_rows - words / 3 → Ok n ≡ roomed_as full (words / 3) b
  room-some l = rw (e, f, le-ltb most_model_rows (words / 3 + n) (omega arith))

-- what is drawn, with room for it

roomed-answer : (f : Bool) (r : ℕ) (o : Outcome Diagram) → roomed_as f r (built_as o) ≡ built_as (roomed f r o)
roomed-answer f r (ok d) = go (f || ltb most_model_rows (r + length (rows d)))
  where
    go : (b : Bool) → pick_built b (Err Space) (Ok (length (rows d))) ≡ built_as (cond b (refused Space) (ok d))
    go true = refl
    go false = refl
roomed-answer f r (refused w) = refl

pub record Roomed (f : Bool) (r : ℕ) (o : Outcome Diagram) (d : Diagram) : Type 0 where
  pub drawn : o ≡ ok d
  pub free : f ≡ false
  pub room : r + length (rows d) ≤ most_model_rows

pub roomed-ok : (f : Bool) (r : ℕ) (o : Outcome Diagram) (d : Diagram) → roomed f r o ≡ ok d → Roomed f r o d
roomed-ok true r (ok x) d e = absurd (apart e)
roomed-ok false r (ok x) d e = go (ltb most_model_rows (r + length (rows x))) refl e
  where
    go : (b : Bool) → ltb most_model_rows (r + length (rows x)) ≡ b → cond b (refused Space) (ok x) ≡ ok d → Roomed false r (ok x) d
    go true q e = absurd (apart e)
    go false q e = record {
      drawn = e;
      free = refl;
      room = let z : x ≡ d = cc in omega (arith, ltb-false most_model_rows (r + length (rows x)) q, ap (λ (y : Diagram). length (rows y)) z);
    }
roomed-ok true r (refused w) d e = absurd (apart e)
roomed-ok false r (refused w) d e = absurd (apart e)

pub draws-room : {ar out : List ℕ} {o : Outcome Diagram} {b c : Result ℕ Refusal} (f : Bool) (r : ℕ) → Draws ar o b out → c ≡ roomed_as f r b → Draws ar (roomed f r o) c out
draws-room {o = o} f r x e = record {
  answer = e ∙ ap (roomed_as f r) x.answer ∙ roomed-answer f r o;
  result = λ d q. x.result d (roomed-ok f r o d q).drawn;
}

pub draws-none : {ar out : List ℕ} {o : Outcome Diagram} {w : Refusal} → o ≡ refused w → Draws ar o (Err w) out
draws-none e = record { answer = ap built_as (sym e); result = λ d q. absurd (apart (sym e ∙ q)) }

-- a diagram in the result buffer

pub record Drew (ar : List ℕ) (o : Outcome Diagram) (n : ℕ) (out : List ℕ) : Type 0 where
  pub diagram : Diagram
  pub is : o ≡ ok diagram
  pub count : n ≡ length (rows diagram)
  pub holds : Holds ar diagram out

pub built-refused : {o : Outcome Diagram} {w : Refusal} → Err w ≡ built_as o → o ≡ refused w
built-refused {o} = go o
  where
    go : (o : Outcome Diagram) {w : Refusal} → Err w ≡ built_as o → o ≡ refused w
    go (ok d) e = let z : ◌≡◌ {A = ℕ} 0 1 = cc in absurd (omega arith)
    go (refused r) e = ap refused (cc)

module _ {ar out : List ℕ} {o : Outcome Diagram} {b : Result ℕ Refusal} (x : Draws ar o b out) where
  pub draws-refused : {w : Refusal} → b ≡ Err w → o ≡ refused w
  draws-refused e = built-refused (sym e ∙ x.answer)

  pub draws-done : {n : ℕ} → b ≡ Ok n → Drew ar o n out
  draws-done {n} e = go o refl
    where
      go : (p : Outcome Diagram) → o ≡ p → Drew ar o n out
      go (ok d) q =
          let z : Ok n ≡ Ok (length (rows d)) = sym e ∙ x.answer ∙ ap built_as q in
          record { diagram = d; is = q; count = cc; holds = x.result d q }
      go (refused w) q =
          let y : Ok n ≡ Err w = sym e ∙ x.answer ∙ ap built_as q in
          let z : ◌≡◌ {A = ℕ} 0 1 = cc in absurd (omega arith)

module _ {ar out : List ℕ} {o : Outcome Diagram} {n : ℕ} (x : Drew ar o n out) where
  pub drew-words : take (n * 3) out ≡ listing x.diagram
  drew-words = ap (λ (k : ℕ). take (k * 3) out) x.count ∙ x.holds.words

  drew-listing : ListingOf x.diagram (take (n * 3) out)
  drew-listing = subst (λ (k : ℕ). ListingOf x.diagram (take (k * 3) out)) (sym x.count) (draws-canonical x.holds)

  pub drew-diagram : diagram_of (take (n * 3) out) ≡ x.diagram
  drew-diagram = drew-listing.is

  pub drew-canonical : Canonical (take (n * 3) out)
  drew-canonical = drew-listing.canonical

  pub drew-some : 0 < n
  drew-some = omega (arith, x.count, drew-listing.some)

  pub drew-room : n * 3 ≤ length out
  drew-room = omega (arith, x.count, x.holds.room)
