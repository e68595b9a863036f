-- Laws of freeing and closing up.
use mathlib.Core.Path.{◌≡◌, refl, sym, ap, subst, ◌∙◌}
use mathlib.Core.List.{List, ◌++◌}
use Prim.Native.Nat.{ℕ, ◌*◌}
use native.Mathlib.Omega.{arith}
use lib.ListN.{length, take, drop}
use Rattle.refusal.specs.declared.Refusal.{Refusal}
use Rattle.refusal.specs.Outcome.{Outcome, ok, refused, and_then, Accepted}
use Rattle.refusal.specs.OutcomeLaws.{accepted-mono}
use Rattle.diagram.specs.Diagram.{Diagram}
use Rattle.diagram.specs.Rows.{rows}
use Rattle.diagram.specs.Listing.{listing, diagram_of, Good}
use Rattle.diagram.specs.ListingValid.{listing-is-valid}
use Rattle.diagram.specs.Listings.{is-listing-good}
use Rattle.diagram.specs.Variables.{closed}
use Rattle.rename.specs.ClosingLaws.{closed-count, closed-good}
use Rattle.regression.specs.RegressCall.{written_as, freed_as, free_own, freed_outcome}
use Rattle.write.specs.Renaming.{listed_in}
use Rattle.apart.specs.Results.{Closable}
use Rattle.freeing.specs.FreeTasks.{FreeTask, FreedWith}
use Rattle.mdp.proofs.StepLaws.{own-within}
use Rattle.mdp.proofs.CallLaws.{freed-to}
use Rattle.steps.specs.Steps.{ResultIn, Given}
use Rattle.planner.specs.Parts.{freed_up}
use Rattle.planner.specs.Tasks.{FreeUp}
use Rattle.steps.specs.GivenLaws.{result_count, listing-result, given-refused, given-ok}
use Rattle.std.specs.Prelude.{Err, Ok}
use Rattle.std.specs.Prelude.{Result}

module _ {ar words : List ℕ} {c : ℕ} {out : List ℕ} (t : FreeUp ar words c out) where
  pub free-task : FreeTask ar words c out
  free-task = record { listing = t.listing; few = t.few; room = let v = listing-is-valid ar words t.listing in omega (arith, v.whole, v.few, t.out-room) }

  own_is : free_own ar words c ≡ freed_outcome ar c (diagram_of words)
  own_is = own-within ar words c t.within

  good : Accepted (Good ar) (freed_outcome ar c (diagram_of words))
  good = accepted-mono (freed-to ar c (diagram_of words) (is-listing-good ar words t.listing) t.few t.within) (λ d f. f.listed)

  freed-done : (o : Outcome Diagram) (n : ℕ) → freed_as o ≡ Ok n → {A : Type 0} → ((d : Diagram) → o ≡ ok d → length (rows d) ≡ n → A) → A
  freed-done (ok d) n e f = f d refl (cc)
  freed-done (refused r) n e f = let z : ◌≡◌ {A = ℕ} 0 1 = cc in absurd (omega arith)

  freed-refused : (o : Outcome Diagram) (e : Refusal) → freed_as o ≡ Err e → o ≡ refused e
  freed-refused (ok d) e h = let z : ◌≡◌ {A = ℕ} 0 1 = cc in absurd (omega arith)
  freed-refused (refused r) e h = ap refused (cc)

  module _ {r : Result ℕ Refusal} {out' : List ℕ} (w : FreedWith (free_own ar words c) r out out') where
    freed-result : {n : ℕ} → r ≡ Ok n → ResultIn ar (freed_outcome ar c (diagram_of words)) n out'
    freed-result {n} e = freed-done (free_own ar words c) n (sym w.answer ∙ e) (λ d q l.
        let p : freed_outcome ar c (diagram_of words) ≡ ok d = sym own_is ∙ q in
        let u : out' ≡ listing d ++ drop (length (listing d)) out = w.result ∙ ap (λ (z : Outcome Diagram). written_as z out) q in
        subst (λ (z : Outcome Diagram). ResultIn ar z n out') (sym p)
        (subst (ResultIn ar (ok d) n) (sym u) (listing-result ar d (drop (length (listing d)) out) n (good.given d p) l)))

    pub freed-closable : {n : ℕ} → r ≡ Ok n → Closable ar out' n
    freed-closable {n} e = let x = freed-result e in record { valid = listing-is-valid ar (take (n * 3) out') x.listing; room = x.room }

    pub freed-given : {n : ℕ} → r ≡ Ok n → {out'' : List ℕ} → out'' ≡ listing (closed ar (listed_in out' n)) ++ drop (n * 3) out'
        → Given ar (freed_up ar c (diagram_of words)) (Ok n) out''
    unfolding freed_up
    freed-given {n} e {out''} q =
        let x = freed-result e in
        let d = listed_in out' n in
        let g : Good ar d = is-listing-good ar (take (n * 3) out') x.listing in
        let l : length (rows (closed ar d)) ≡ n = closed-count ar d g.arities g.fine ∙ result_count x in
        given-ok (ap (λ (z : Outcome Diagram). and_then z (λ f. ok (closed ar f))) x.is)
        (subst (ResultIn ar (ok (closed ar d)) n) (sym q) (listing-result ar (closed ar d) (drop (n * 3) out') n (closed-good ar d g) l)) l

    pub freed-stops : {e : Refusal} → r ≡ Err e → {out'' : List ℕ} → Given ar (freed_up ar c (diagram_of words)) r out''
    unfolding freed_up
    freed-stops {e} h {out''} =
        let k : freed_outcome ar c (diagram_of words) ≡ refused e = sym own_is ∙ freed-refused (free_own ar words c) e (sym w.answer ∙ h) in
        subst (λ (x : Result ℕ Refusal). Given ar (and_then (freed_outcome ar c (diagram_of words)) (λ f. ok (closed ar f))) x out'') (sym h)
        (given-refused (ap (λ (z : Outcome Diagram). and_then z (λ f. ok (closed ar f))) k))
