-- Maps in words do as the renamings that they write down, and the renamed words are listings of renamed diagrams.
use Rattle.std.specs.Prelude.{◌≡◌, ◌⊎◌, true, List, ◌++◌, ℕ, ◌≤◌, ◌<◌, eqb}
use Rattle.std.proofs.Common.{ap, ap₂, sym, ◌∙◌, inl, inr}
use Rattle.basics.specs.Members.{mem}
use Rattle.label.specs.Limits.{first_variable, first_minimum, term_end}
use Rattle.label.proofs.LabelLaws.{term-below}
use Rattle.label.specs.Inner.{map_of, Increasing, Numbered, Freed}
use Rattle.label.specs.Renamings.{renamed, numbering, freeing, EachIn}
use Rattle.label.proofs.RenamingLaws.{freeing-increasing}
use Rattle.diagram.specs.Diagram.{Diagram, relabel}
use Rattle.diagram.specs.Listing.{listing, Good}
use Rattle.diagram.specs.Variables.{variables, minimums}
use Rattle.rename.specs.Inner.{relabelled, Freeable}
use Rattle.rename.specs.Relabelling.{Terms}
use Rattle.rename.specs.RelabelLaws.{labels-weaken, relabel-agree}
use Rattle.rename.specs.TermLaws.{each_weaken, renamed-agree}
use Rattle.rename.specs.VariableLaws.{variable-occurs, minimum-occurs, renaming-listing}
use Rattle.rename.specs.Freeing.{freed}
use Rattle.rename.specs.FreeingLaws.{terms-freed}
use Rattle.rename.specs.Maps.{tabled, is_used, Marks, close_at}
use Rattle.rename.specs.MapLaws.{tabled-at, used-occurs, used-variables, used-minimums, close-numbers}

-- a map that does as ρ does on the terms that P names
pub agreeing : (P : ℕ → Type 0) (ρ σ : ℕ → ℕ) → Increasing P ρ → ((t : ℕ) → P t → σ t ≡ ρ t) → Increasing P σ
agreeing P ρ σ inc h = record {
  terms = λ t p. rw (h t p) (inc.terms t p);
  order = λ t u p q k. rw (h t p, h u q) (inc.order t u p q k);
}

-- the renamed words are the listing of the renamed diagram, for a map that keeps the order of the terms
pub renamed-listing : (ar : List ℕ) (d : Diagram) (P : ℕ → Type 0) (ρ σ : ℕ → ℕ) → Good ar d → Increasing P ρ → Terms ar P d → ((t : ℕ) → P t → σ t ≡ ρ t)
    → relabelled (renamed ar σ) (listing d) ≡ listing (relabel (renamed ar ρ) d)
renamed-listing ar d P ρ σ good inc q h =
    sym (renaming-listing ar good.arities P σ (agreeing P ρ σ inc h) d good.fine q)
    ∙ ap listing (relabel-agree (renamed ar σ) (renamed ar ρ) d (labels-weaken (EachIn ar P) _ d (λ l e. renamed-agree ar σ ρ l (each_weaken P _ _ _ h e)) q))

-- the map that close_map writes numbers the variables of a diagram whose terms are marked
pub close-agrees : (ar : List ℕ) (d : Diagram) (used : List ℕ) → Marks ar d used → (m n : ℕ) (rest : List ℕ) (t : ℕ) → Numbered (variables ar d) (minimums ar d) t
    → map_of (tabled (close_at used m n) term_end ++ rest) t ≡ numbering (variables ar d) (minimums ar d) m n t
close-agrees ar d used marks m n rest t p =
    close-numbers used m n rest t end (go p.1) ∙ ap₂ (λ us vs. numbering us vs m n t) (used-variables ar d used marks) (used-minimums ar d used marks)
  where
    end : t < term_end
    end = term-below t p.0

    go : (t < first_variable) ⊎ (((t < first_minimum) × (mem eqb t (variables ar d) ≡ true)) ⊎ ((first_minimum ≤ t) × (mem eqb t (minimums ar d) ≡ true)))
        → (t < first_variable) ⊎ (is_used used t ≡ true)
    go (inl x) = inl x
    go (inr (inl x)) = inr (used-occurs ar d used marks t end ∙ (variable-occurs ar d t x.1).0)
    go (inr (inr x)) = inr (used-occurs ar d used marks t end ∙ (minimum-occurs ar d t x.1).0)

-- freeing, by the map that free_map writes
pub freed-words : (ar : List ℕ) (c : ℕ) (d : Diagram) (good : Good ar d) (free : Freeable ar c d) (rest : List ℕ)
    → relabelled (renamed ar (map_of (tabled (freeing c) term_end ++ rest))) (listing d) ≡ listing (freed ar c d)
unfolding freed
freed-words ar c d good free rest =
    renamed-listing ar d (Freed c) (freeing c) _ good (freeing-increasing c free.count) (terms-freed ar c d good free)
    (λ t p. tabled-at (freeing c) term_end rest t (term-below t p.0))
