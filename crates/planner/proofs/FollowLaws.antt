-- Laws of what follows a call: its result is folded into a buffer, or two results are combined.
use mathlib.Core.Path.{◌≡◌, sym}
use mathlib.Core.List.{List}
use Prim.Native.Nat.{ℕ, ◌*◌, ◌≤◌}
use native.Mathlib.Omega.{arith}
use lib.ListN.{length, take}
use Rattle.refusal.specs.declared.Refusal.{Refusal}
use Rattle.refusal.specs.Outcome.{Outcome, and_then}
use Rattle.diagram.specs.Sizes.{result_words, space_words}
use Rattle.diagram.specs.Diagram.{Diagram}
use Rattle.diagram.specs.Listing.{diagram_of}
use Rattle.apply.specs.declared.Operation.{Operation}
use Rattle.apply.specs.declared.Names.{Names}
use Rattle.mdp.specs.Backup.{combined}
use Rattle.steps.specs.Steps.{Given, BufferListing, Operands, Folding}
use Rattle.steps.specs.GivenLaws.{refused-then, done-then, given-same}
use Rattle.std.specs.Prelude.{Err, Ok, Result}

-- p is o, folded by an operation into the listing that the buffer begins with
module _ {ar out : List ℕ} {n : ℕ} (s : BufferListing ar n out) (op : Operation) (names : Names) {o p : Outcome Diagram}
    (e : p ≡ and_then o (λ q. combined op names ar (diagram_of (take (n * 3) out)) q)) {r : Result ℕ Refusal} {part : List ℕ} (x : Given ar o r part) where
  pub folded-refused : {w : Refusal} → r ≡ Err w → {out' : List ℕ} → Given ar p r out'
  folded-refused h = refused-then (λ q. combined op names ar (diagram_of (take (n * 3) out)) q) x h e

  module _ {m : ℕ} (h : r ≡ Ok m) where
    pub folded-able : result_words ≤ length out → {k : ℕ} → space_words ≤ k → {work : List ℕ} → length work ≡ k → Folding ar out n (take (m * 3) part) work
    folded-able room free same = record {
      first = s.listing;
      second = (x.result m h).listing;
      inside = s.room;
      buffer-room = room;
      work-room = omega (arith, same, free);
    }

    pub folded-given : {q : Result ℕ Refusal} {out' : List ℕ} → Given ar (combined op names ar (diagram_of (take (n * 3) out)) (diagram_of (take (m * 3) part))) q out' → Given ar p q out'
    folded-given w = given-same (sym (done-then (λ q. combined op names ar (diagram_of (take (n * 3) out)) q) (x.result m h) e)) w

-- p is o and then u, and both combined
module _ {ar : List ℕ} (op : Operation) (names : Names) (u : Outcome Diagram) {o p : Outcome Diagram} (e : p ≡ and_then o (λ x. and_then u (λ y. combined op names ar x y)))
    {a : Result ℕ Refusal} {one : List ℕ} (x : Given ar o a one) {n : ℕ} (h : a ≡ Ok n) where
  pub first_done : p ≡ and_then u (λ y. combined op names ar (diagram_of (take (n * 3) one)) y)
  first_done = done-then (λ x. and_then u (λ y. combined op names ar x y)) (x.result n h) e

  module _ {b : Result ℕ Refusal} {two : List ℕ} (y : Given ar u b two) {m : ℕ} (k : b ≡ Ok m) where
    pub both-done : p ≡ combined op names ar (diagram_of (take (n * 3) one)) (diagram_of (take (m * 3) two))
    both-done = done-then (λ y. combined op names ar (diagram_of (take (n * 3) one)) y) (y.result m k) first_done

    pub both-operands : {out : List ℕ} → result_words ≤ length out → {k : ℕ} → space_words ≤ k → {work : List ℕ} → length work ≡ k
        → Operands ar (take (n * 3) one) (take (m * 3) two) out work
    both-operands room free same = record { first = (x.result n h).listing; second = (y.result m k).listing; out-room = room; work-room = omega (arith, same, free) }
