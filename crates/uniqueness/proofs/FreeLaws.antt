-- What freeing gives is the only reduced ordered diagram with its meaning (demand 2).
use Rattle.std.proofs.Math.Path.{◌≡◌, subst}
use Rattle.std.specs.Prelude.{refl, true, List, ℕ, ◌+◌, ◌*◌, ◌<◌, take}
use Rattle.std.proofs.Common.{sym, arith}
use Rattle.std.proofs.Math.ListN.{length}
use Rattle.basics.specs.Tests.{Flag, is_true, is_false, flag, Cmp, below, equal, above, cmp}
use Rattle.basics.specs.Members.{clash}
use Rattle.refusal.specs.Outcome.{Outcome, ok, refused, Accepted}
use Rattle.refusal.specs.OutcomeLaws.{accepted-mono, accepted-refused}
use Rattle.label.specs.Limits.{first_parameter, first_variable, first_minimum}
use Rattle.label.specs.Terms.{is_term}
use Rattle.label.proofs.LabelLaws.{low-term}
use Rattle.label.specs.Renamings.{freeing}
use Rattle.label.specs.Inner.{Freed}
use Rattle.label.proofs.RenamingLaws.{freeing-increasing}
use Rattle.diagram.specs.Diagram.{Diagram}
use Rattle.diagram.specs.Rows.{rows}
use Rattle.diagram.specs.Words.{is_listing}
use Rattle.diagram.specs.Listing.{diagram_of, Good}
use Rattle.diagram.specs.Listings.{is-listing-good}
use Rattle.diagram.specs.Variables.{occurs}
use Rattle.rename.specs.Inner.{Freeable}
use Rattle.rename.specs.Freeing.{freed}
use Rattle.rename.specs.FreeingLaws.{terms-freed, freed-good}
use Rattle.rename.specs.VariableLaws.{occurs-term}
use Rattle.regression.specs.RegressCall.{freed_as, written_as, free_outcome, free_answer, free_result}
use Rattle.regression.proofs.FreeCallLaws.{IsFreed, free-is, free-listing}
use Rattle.uniqueness.specs.Meaning.{TheOnly, TheOnlyListing, free_meaning}
use Rattle.uniqueness.proofs.OnlyLaws.{good-only, only-written}
use Rattle.uniqueness.proofs.ThroughLaws.{renamed-means}
use Rattle.std.specs.Prelude.{Ok}

module _ (ar : List ℕ) (count : ℕ) (d r : Diagram) (g : Good ar d) (f : IsFreed ar count d r) where
  freeable : Freeable ar count d
  freeable = record {
    count = f.few;
    parameters = λ t o h. parameter t o h (cmp t (first_parameter + count));
    variables = λ t o h k. variable t o k (cmp (t + count) first_minimum);
  }
    where
      term : (t : ℕ) → occurs ar t d ≡ true → is_term t ≡ true
      term t o = occurs-term ar d t g.fine o

      parameter : (t : ℕ) → occurs ar t d ≡ true → t < first_variable → Cmp t (first_parameter + count) → t < first_parameter + count
      parameter t o h (below x) = x
      parameter t o h (equal x) = clash o (f.parameters t (omega arith) (low-term t (term t o) h))
      parameter t o h (above x) = clash o (f.parameters t (omega arith) (low-term t (term t o) h))

      variable : (t : ℕ) → occurs ar t d ≡ true → t < first_minimum → Cmp (t + count) first_minimum → t + count < first_minimum
      variable t o k (below x) = x
      variable t o k (equal x) = clash o (f.variables t (omega arith) k)
      variable t o k (above x) = clash o (f.variables t (omega arith) k)

  freed-only : TheOnly ar (free_meaning ar count d) r
  unfolding free_meaning freed
  freed-only =
      subst (TheOnly ar (free_meaning ar count d)) (sym f.is) (good-only ar (free_meaning ar count d) (freed ar count d) (freed-good ar count d g freeable)
      (renamed-means ar (Freed count) (freeing count) (freeing-increasing count f.few) d g (terms-freed ar count d g freeable)))

module _ (ar words : List ℕ) (count : ℕ) where
  outcome-only : (out_length work_length : ℕ) → Accepted (TheOnly ar (free_meaning ar count (diagram_of words))) (free_outcome ar words count out_length work_length)
  outcome-only out_length work_length = go (flag (is_listing ar words))
    where
      go : Flag (is_listing ar words) → Accepted (TheOnly ar (free_meaning ar count (diagram_of words))) (free_outcome ar words count out_length work_length)
      go (is_true e) = accepted-mono (free-is ar words count out_length work_length) (λ r f. freed-only ar count (diagram_of words) r (is-listing-good ar words e) f)
      go (is_false e) = rw (free-listing ar words count out_length work_length e) accepted-refused

  -- where the call is answered with n rows, the result buffer begins with the only listing that means what freeing gives
  pub free-only : (work_length : ℕ) (out : List ℕ) (n : ℕ) → free_answer ar words count (length out) work_length ≡ Ok n
      → TheOnlyListing ar (free_meaning ar count (diagram_of words)) (take (n * 3) (free_result ar words count work_length out))
  unfolding free_answer free_result
  free-only work_length out n e = go (free_outcome ar words count (length out) work_length) (outcome-only (length out) work_length) e
    where
      go : (o : Outcome Diagram) → Accepted (TheOnly ar (free_meaning ar count (diagram_of words))) o → freed_as o ≡ Ok n
          → TheOnlyListing ar (free_meaning ar count (diagram_of words)) (take (n * 3) (written_as o out))
      go (ok d) a q = let z : length (rows d) ≡ n = cc in only-written ar _ d n out z (a.given d refl)
      go (refused r) a q = let z : ◌≡◌ {A = ℕ} 0 1 = cc in absurd (omega arith)
