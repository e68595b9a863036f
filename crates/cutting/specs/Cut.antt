-- Cuts: when an edge may go, which one goes, and what is left (document 01, section 'Cut').
use Rattle.std.specs.Prelude.{◌≡◌, ◌≢◌, Bool, true, false, not, ◌&&◌, ◌||◌, cond, ℕ, zero, suc, ◌≤◌, ◌<◌, length, drop, eqb, ltb, leb}
use mathlib.Core.List.{List, [], ◌∷◌, ◌++◌, Memᴰ}
use Rattle.refusal.specs.declared.Refusal.TheVariants.{Listing, Buffer, Nothing, Paths, Minimum}
use Rattle.label.specs.Terms.{is_variable}
use Rattle.label.specs.Labels.{unpacked, terms_of}
use Rattle.label.specs.Renamings.{moved}
use Rattle.label.specs.declared.Test.TheVariants.{Always, Is}
use Rattle.diagram.specs.Sizes.{result_words, space_words}
use Rattle.diagram.specs.Diagram.{Diagram, leaf, branch, same}
use Rattle.diagram.specs.Rows.{rows}
use Rattle.diagram.specs.RowLists.{row_tree}
use Rattle.diagram.specs.Words.{is_listing}
use Rattle.diagram.specs.Listing.{listing, diagram_of}
use Rattle.diagram.specs.Variables.{is_plain, closed}
use Rattle.apply.specs.Apply.{node}
use Rattle.paths.specs.Paths.{Literal, Path, paths, literals, terms_in, through, most_paths}
use Rattle.cutting.specs.Match.{start, matches}
use Rattle.cutting.specs.declared.Edge.{Edge}
use Rattle.cutting.specs.declared.Edge.TheVariants.{True, False}
use Rattle.cutting.specs.declared.Cut.{Cut}
use Rattle.cutting.specs.declared.Cut.TheVariants.{Done, Refused}

-- ===== When an edge may go, in document 01's words =====

-- under the replacement σ the literal l is one of ls, or is t = t true
pub data Matched (ar : List ℕ) (σ : ℕ → ℕ) (ls : List Literal) (l : Literal) : Type 0 where
  plain : moved ar σ l.label ≡ Always → l.sign ≡ true → Matched ar σ ls l
  found : (k : ℕ) → moved ar σ l.label ≡ Is (record { packed = k }) → Memᴰ (record { label = k; sign = l.sign }) ls → Matched ar σ ls l

-- a replacement of the variables of the literals qs by terms of both lists, under which each literal of qs is one of ls or is t = t true
pub record Replacement (ar : List ℕ) (ls qs : List Literal) : Type 0 where
  pub σ : ℕ → ℕ
  pub variables : (t : ℕ) → is_variable t ≡ false → σ t ≡ t
  pub terms : (l : Literal) → Memᴰ l qs → (t : ℕ) → Memᴰ t (terms_of ar (unpacked l.label))
      → Memᴰ (σ t) (terms_in ar ls ++ terms_in ar qs)
  pub matched : (l : Literal) → Memᴰ l qs → Matched ar σ ls l

-- a path of d that avoids the edge of the row r on the side b, with a leaf at least p's, and a replacement that takes its literals to those of p
pub record Cover (ar : List ℕ) (d r : Diagram) (b : Bool) (p : Path) : Type 0 where
  pub path : Path
  pub of : Memᴰ path (paths d)
  pub avoids : through r b path ≡ false
  pub high : p.end ≤ path.end
  pub replacement : Replacement ar (literals p) (literals path)

-- where the edge of a branch goes on the side b
abbrev pub target : Bool → Diagram → Diagram → Diagram
target b t f = cond b t f

-- an edge may go to leaf 0 if it doesn't yet, and each path through it to a leaf above 0 has a cover; a leaf has no edge
pub data MayGo (ar : List ℕ) (d : Diagram) (b : Bool) : Diagram → Type 0 where
  may : {l : ℕ} {t f : Diagram} → target b t f ≢ leaf 0
      → ((p : Path) → Memᴰ p (paths d) → through (branch l t f) b p ≡ true → 0 < p.end → Cover ar d (branch l t f) b p)
      → MayGo ar d b (branch l t f)

-- ===== The same as a test that computes =====

-- a replacement takes the literals of q to those of p: the same for every edge
unfoldable pub covers : List ℕ → Path → Path → Bool
unfolding matches start terms_in literals
covers ar p q = matches ar (literals p) (terms_in ar (literals p) ++ terms_in ar (literals q)) (literals q) start

unfoldable pub is_cover : List ℕ → Diagram → Bool → Path → Path → Bool
unfolding covers through
is_cover ar r b p q = not (through r b q) && (leb p.end q.end && covers ar p q)

abbrev pub some_path : (Path → Bool) → List Path → Bool
some_path f [] = false
some_path f (p ∷ ps) = f p || some_path f ps

abbrev pub every_path : (Path → Bool) → List Path → Bool
every_path f [] = true
every_path f (p ∷ ps) = f p && every_path f ps

-- p is not in the way of the edge: it does not go through it, or has leaf 0, or has a cover among ps
unfoldable pub is_free : List ℕ → Diagram → Bool → List Path → Path → Bool
unfolding is_cover
is_free ar r b ps p = not (through r b p) || (eqb p.end 0 || some_path (is_cover ar r b p) ps)

unfoldable pub may_go : List ℕ → Diagram → Bool → Diagram → Bool
unfolding is_free paths same
may_go ar d b (leaf v) = false
may_go ar d b (branch l t f) = not (same (target b t f) (leaf 0)) && every_path (is_free ar (branch l t f) b (paths d)) (paths d)

-- ===== Which edge goes =====

pub data Choice : Type 0 where
  goes : ℕ → Bool → Choice
  stays : Choice

-- among the first n of the rows: the highest row number, true edge first, whose edge may go
unfoldable pub choice_below : List ℕ → Diagram → List Diagram → ℕ → Choice
unfolding may_go
choice_below ar d rs zero = stays
choice_below ar d rs (suc n) =
    cond (may_go ar d true (row_tree rs n)) (goes n true)
    (cond (may_go ar d false (row_tree rs n)) (goes n false)
    (choice_below ar d rs n))

unfoldable pub choice : List ℕ → Diagram → Choice
unfolding choice_below rows
choice ar d = choice_below ar d (rows d) (length (rows d))

-- ===== What is left =====

-- the diagram d reduced
unfoldable pub reduced : Diagram → Diagram
unfolding node
reduced (leaf v) = leaf v
reduced (branch l t f) = node l (reduced t) (reduced f)

-- the edge of the row r on the side b goes to leaf 0, wherever r stands in the diagram
unfoldable pub cut_at : Diagram → Bool → Diagram → Diagram
unfolding same
cut_at r b (leaf v) = leaf v
cut_at r b (branch l t f) =
    branch l
    (cond (same r (branch l t f) && b) (leaf 0) (cut_at r b t))
    (cond (same r (branch l t f) && not b) (leaf 0) (cut_at r b f))

-- the edge of row k on the side b goes, and the diagram is reduced and closed up
unfoldable pub cut_diagram : List ℕ → Diagram → ℕ → Bool → Diagram
unfolding cut_at reduced closed rows
cut_diagram ar d k b = closed ar (reduced (cut_at (row_tree (rows d) k) b d))

-- ===== What the call answers =====

abbrev pub edge_of : Bool → Edge
edge_of true = True
edge_of false = False

-- the edge that goes; 16 if there is none
unfoldable pub chosen_answer : List ℕ → Diagram → Choice → Cut
unfolding cut_diagram
chosen_answer ar d (goes k b) = Done k (edge_of b) (length (rows (cut_diagram ar d k b)))
chosen_answer ar d stays = Refused Nothing

-- "25, a cut on a diagram with a minimum variable, checked first" (document 02, L12); over 256 paths: 17, checked next
unfoldable pub diagram_answer : List ℕ → Diagram → Cut
unfolding chosen_answer choice paths is_plain
diagram_answer ar d =
    cond (not (is_plain ar d)) (Refused Minimum)
    (cond (ltb most_paths (length (paths d))) (Refused Paths)
    (chosen_answer ar d (choice ar d)))

-- what a cut of the words ws under the arity list ar answers, with n words of result buffer and m of working space
unfoldable pub cut_answer : List ℕ → List ℕ → ℕ → ℕ → Cut
unfolding diagram_answer is_listing diagram_of
cut_answer ar ws n m =
    cond (not (is_listing ar ws)) (Refused Listing)
    (cond (ltb n result_words || ltb m space_words) (Refused Buffer)
    (diagram_answer ar (diagram_of ws)))

abbrev pub is_true_edge : Edge → Bool
is_true_edge True = true
is_true_edge False = false

-- the words of a listing, and behind them those that were there
unfoldable pub written : List ℕ → List ℕ → List ℕ
written ws out = ws ++ drop (length ws) out

-- the result buffer after a cut with that answer: the listing of what is left, the words behind it as they were; after a refusal as it was
unfoldable pub answer_buffer : List ℕ → List ℕ → List ℕ → Cut → List ℕ
unfolding written cut_diagram listing diagram_of
answer_buffer ar ws out (Done k e n) = written (listing (cut_diagram ar (diagram_of ws) k (is_true_edge e))) out
answer_buffer ar ws out (Refused x) = out

unfoldable pub cut_buffer : List ℕ → List ℕ → List ℕ → ℕ → List ℕ
unfolding answer_buffer cut_answer
cut_buffer ar ws out m = answer_buffer ar ws out (cut_answer ar ws (length out) m)
