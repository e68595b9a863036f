-- Laws of `prune`: what is left is formed, its listing written, then closed up.
use mathlib.Core.Path.{◌≡◌, sym, ap, subst, ◌∙◌}
use mathlib.Core.Bool.{Bool}
use mathlib.Core.List.{List, ◌++◌}
use Prim.Native.Nat.{ℕ, pred, ◌*◌, ◌≤◌}
use native.Mathlib.Omega.{arith}
use lib.ListN.{length, drop, replicate}
use Rattle.diagram.specs.Sizes.{space_rows}
use Rattle.diagram.specs.Diagram.{Diagram}
use Rattle.diagram.specs.Rows.{rows}
use Rattle.diagram.specs.Words.{row_count}
use Rattle.diagram.specs.Listing.{listing, diagram_of, Good}
use Rattle.diagram.specs.Validity.{Valid, tree}
use Rattle.diagram.specs.Variables.{closed}
use Rattle.diagram.specs.DiagramOfListing.{diagram-is, good-diagram}
use Rattle.diagram.specs.ListingValid.{listing-is-valid}
use Rattle.write.specs.Renaming.{listed_in}
use Rattle.write.specs.Writing as write
use Rattle.write.specs.Writing.{WritePost}
use Rattle.apart.specs.Results.{Closable}
use Rattle.apart.proofs.StandingLaws.{Ready, stands-ready, ready-writable, ready-few, ready-closable, ready-done}
use Rattle.cutting.specs.Cut.{written}
use Rattle.reduction.proofs.KeepingLaws.{keeping-good}
use Rattle.pruning.specs.Pruning.{kept_of, Agrees, stays_in, Prunable, Pruned}
use Rattle.pruning.specs.Keeping.{Keepable, Kept}
use Rattle.pruning.specs.PruningLaws.{kept-agrees}
use Rattle.paths.specs.PathLaws.{listing-rows}
use Rattle.std.specs.Prelude.{None, Option, Some}

-- there was room
pub prune-room : {A : Type 0} {ws edges s : List ℕ} {x : Option (ℕ × ℕ)} → Kept ws edges x s → x ≡ None → A
prune-room f e =
    let z : ◌≡◌ {A = Option (ℕ × ℕ)} None (Some (f.stands.root, f.stands.count)) = sym e ∙ f.stands.answer in
    absurd (let u : ◌≡◌ {A = ℕ} 0 1 = cc in omega arith)

module _ {ar ws edges out work : List ℕ} (g : Prunable ar ws edges out work) where
  valid : Valid ar ws
  valid = listing-is-valid ar ws g.listing

  pub prune-keepable : Keepable ws edges work
  prune-keepable = record {
    edged = record { rows = listing-rows ar ws g.listing; some = valid.some; places = g.places };
    room = g.work-room;
  }

  module _ {x : Option (ℕ × ℕ)} {s : List ℕ} (f : Kept ws edges x s) {root count : ℕ} (e : x ≡ Some (root, count)) (l : length s ≡ length work) where
    -- what is left, before it is closed up
    abbrev D : Diagram
    D = kept_of (stays_in ws edges) (tree ws (pred (row_count ws)))

    kept-good : Good ar D
    unfolding kept_of
    kept-good =
        subst (λ (d : Diagram). Good ar (kept_of (stays_in ws edges) d)) (diagram-is ar ws valid)
        (keeping-good (stays_in ws edges) ar (diagram_of ws) (good-diagram ar ws valid) g.few)

    ready : Ready ar D s root count out
    ready = stands-ready f.stands e kept-good (omega (arith, g.work-room)) g.out-room

    pub prune-writable : (n₁ n₂ : ℕ) → space_rows ≤ n₁ → space_rows ≤ n₂ → write.Writable s count root (replicate n₁ 0) (replicate n₂ 0) out
    prune-writable n₁ n₂ h h' = ready-writable ready n₁ n₂ h h'

    module _ {y : Option ℕ} {marks' out' : List ℕ} (w : WritePost s root out y marks' out') where
      pub prune-many : {A : Type 0} → y ≡ None → A
      prune-many q = ready-few ready w q

      module _ {k : ℕ} (q : y ≡ Some k) where
        pub prune-closable : Closable ar out' k
        prune-closable = ready-closable ready w q

        -- what every test leaves that the words agree with
        kept-is : {stays : Diagram → Bool → Bool} → Agrees ws edges stays → closed ar D ≡ closed ar (kept_of stays (diagram_of ws))
        kept-is {stays} a =
            let z = kept-agrees ws edges (listing-rows ar ws g.listing).shown a (pred (row_count ws)) (omega (arith, valid.some)) in
            ap (closed ar) (sym z ∙ sym (ap (kept_of stays) (diagram-is ar ws valid)))

        pub prune-done : {out'' : List ℕ} → out'' ≡ listing (closed ar (listed_in out' k)) ++ drop (k * 3) out'
            → (stays : Diagram → Bool → Bool) → Agrees ws edges stays → Pruned ar ws stays out k out''
        unfolding written
        prune-done u stays a =
            let z = ready-done ready w q u in
            record {
              answer = z.0 ∙ ap (λ (d : Diagram). length (rows d)) (kept-is a);
              words = z.1 ∙ ap (λ (d : Diagram). listing d ++ drop (length (listing d)) out) (kept-is a);
            }
