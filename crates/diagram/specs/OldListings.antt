-- "Listings of the old kind meet 14" (document 02, L8): their labels and their mark of leaves are words below 2^32, which are neither labels nor the mark of now.
use Rattle.std.specs.Prelude.{◌≡◌, false, List, ℕ, ◌≤◌, ◌<◌}
use native.Mathlib.Omega.{arith}
use Rattle.basics.specs.Tests.{Flag, is_true, is_false, flag}
use Rattle.basics.specs.Members.{clash}
use Rattle.label.specs.Limits.{equality}
use Rattle.label.specs.Labels.{is_label, unpacked, predicate_of, place_at, in_order}
use Rattle.label.proofs.LabelLaws.{label-fits}
use Rattle.label.specs.declared.Atom.{Atom}
use Rattle.diagram.specs.Words.{label_at, row_count, is_listing}
use Rattle.diagram.specs.Validity.{ValidRow, a-leaf, a-branch}
use Rattle.diagram.specs.ListingValid.{listing-is-valid}

-- what stood in a leaf's first word, above every label, before document 02, L8
abbrev pub old_mark : ℕ
old_mark = 4294967295

-- an equality of a term with itself is no label
itself : (a : Atom) → a.predicate ≡ equality → a.first ≡ 0 → a.second ≡ 0 → in_order a ≡ false
unfolding in_order
itself a p q r = rw (p, q, r)

-- read as a label, a word up to the old mark is an equality of constant 0 with itself
pub old-no-label : (ar : List ℕ) (l : ℕ) → l ≤ old_mark → is_label ar l ≡ false
old-no-label ar l h = go (flag (is_label ar l))
  where
    predicate-is : (unpacked l).predicate ≡ equality
    predicate-is = unfold unpacked predicate_of in omega arith

    first-is : (unpacked l).first ≡ 0
    first-is = unfold unpacked place_at in omega arith

    second_is : (unpacked l).second ≡ 0
    second_is = unfold unpacked place_at in omega arith

    go : Flag (is_label ar l) → is_label ar l ≡ false
    go (is_true e) = clash (label-fits ar l e).ordered (itself (unpacked l) predicate-is first-is second_is)
    go (is_false e) = e

-- so words with such a row are no listing; every row of an old listing is one
pub old-none : (ar ws : List ℕ) (i : ℕ) → i < row_count ws → label_at ws i ≤ old_mark → is_listing ar ws ≡ false
old-none ar ws i h k = go (flag (is_listing ar ws))
  where
    no : ValidRow ar ws i → is_listing ar ws ≡ false
    no (a-leaf r) = let m = r.mark in absurd (omega arith)
    no (a-branch r) = clash r.label (old-no-label ar (label_at ws i) k)

    go : Flag (is_listing ar ws) → is_listing ar ws ≡ false
    go (is_true e) = no ((listing-is-valid ar ws e).each i h)
    go (is_false e) = e
