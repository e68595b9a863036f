-- The search for the winning paths, as the code goes: valuation by valuation down the diagram, with the facts known so far (document 02, L13).
use Rattle.std.specs.Prelude.{◌≡◌, ◌≢◌, Bool, not, ◌||◌, cond, List, [], ◌∷◌, ◌++◌, ℕ, zero, suc, ◌+◌, ◌-◌, ◌*◌, ◌/◌, ◌%◌, ◌≤◌, ◌<◌, min, length, get_or, eqb}
use Rattle.basics.specs.Members.{mem}
use Rattle.label.specs.Limits.{leaf_mark, predicate_count, predicate_weight}
use Rattle.diagram.specs.Diagram.{Diagram, leaf, branch}
use Rattle.diagram.specs.Words.{label_at, high_at, low_at}
use Rattle.diagram.specs.Validity.{tree}
use Rattle.paths.specs.Paths.{paths}
use Rattle.paths.specs.Inner.{Routed, Leaves}
use Rattle.state.specs.Max.{gather}
use Rattle.reduction.specs.Combinations.{before}
use Rattle.reduction.specs.Reduction.{most_formed}

-- ===== Facts known =====

-- a fact is a label with objects in the place of its terms: numbers of facts are below this
abbrev pub fact_end : ℕ
fact_end = predicate_count * predicate_weight

-- a ground literal is a number: its fact's number twice, and one more where it is true. The last one known stands first.
unfoldable pub stacked : List ℕ → ℕ → List ℕ
stacked s zero = []
stacked s (suc c) = get_or s c 0 ∷ stacked s c

-- what is known of the fact f: 0 that it is false, 1 that it is true, 2 nothing
unfoldable pub sign_of : List ℕ → ℕ → ℕ
sign_of [] f = 2
sign_of (x ∷ xs) f = cond (eqb (x / 2) f) (x % 2) (sign_of xs f)

-- ===== The paths that a valuation may follow =====

-- by what is known: the first for 0, the second for 1, else the third
abbrev pub pick_known : {A : Type 0} → ℕ → A → A → A → A
pick_known zero x y z = x
pick_known (suc zero) x y z = y
pick_known (suc (suc s)) x y z = z

-- a path, and what is known once it is followed
pub record Way : Type 0 where
  pub known : List ℕ
  pub path : ℕ

-- the ways down a diagram whose paths have the numbers from k on, under a valuation that makes of the label l the fact numbered fact l
unfoldable pub ways : (ℕ → ℕ) → Diagram → List ℕ → ℕ → List Way
unfolding sign_of paths
ways fact (leaf v) known k = record { known = known; path = k } ∷ []
ways fact (branch l t f) known k =
    pick_known (sign_of known (fact l))
    (ways fact f known (k + length (paths t)))
    (ways fact t known k)
    (ways fact t ((fact l * 2 + 1) ∷ known) k ++ ways fact f ((fact l * 2) ∷ known) (k + length (paths t)))

-- ===== What is formed, and what wins =====

abbrev pub sum_of : {A : Type 0} → (A → ℕ) → List A → ℕ
sum_of f [] = 0
sum_of f (a ∷ l) = f a + sum_of f l

-- of the winning path so far and path k the one of least place; m stands for none so far
unfoldable pub better_of : Diagram → ℕ → ℕ → ℕ → ℕ
better_of d m best k = cond (eqb best m) k (cond (before d k best) k best)

-- the choices formed for the valuations of the list, each as its map of labels to facts
unfoldable pub formed_on : Diagram → List (ℕ → ℕ) → List ℕ → ℕ
formed_on d [] known = 0
formed_on d (fact ∷ facts) known = sum_of (λ (w : Way). suc (formed_on d facts w.known)) (ways fact d known 0)

-- the winning paths of the combinations
unfoldable pub winners_on : Diagram → ℕ → List (ℕ → ℕ) → List ℕ → ℕ → List ℕ
winners_on d m [] known best = best ∷ []
winners_on d m (fact ∷ facts) known best = gather (λ (w : Way). winners_on d m facts w.known (better_of d m best w.path)) (ways fact d known 0)

-- the same from the middle of a valuation on
unfoldable pub formed_from : Diagram → List (ℕ → ℕ) → List Way → ℕ
formed_from d facts ws = sum_of (λ (w : Way). suc (formed_on d facts w.known)) ws

unfoldable pub winners_from : Diagram → ℕ → List (ℕ → ℕ) → ℕ → List Way → List ℕ
winners_from d m facts best ws = gather (λ (w : Way). winners_on d m facts w.known (better_of d m best w.path)) ws

-- ===== What the code keeps =====

-- the facts of the n rows' labels under each valuation of the list stand from the place `base` on
abbrev pub Facing : List ℕ → List ℕ → ℕ → ℕ → List (ℕ → ℕ) → Type 0
Facing ws facts n base [] = Unit {0}
Facing ws facts n base (fact ∷ rest) =
    ((r : ℕ) → r < n → label_at ws r ≢ leaf_mark → get_or facts (base + r) 0 ≡ fact (label_at ws r)) × Facing ws facts n (base + n) rest

-- what the search requires: the facts of this valuation and `left` more, room for what is known, at most so many formed
pub record Searching (ws counts facts leaves known wins : List ℕ) (n m base left best formed : ℕ) : Type 0 where
  pub routed : Routed ws counts n m
  pub ends : Leaves ws leaves n m
  pub room : base + n + left * n ≤ length facts
  pub space : base + n + left * n ≤ length known
  pub codes : (i : ℕ) → i < length facts → get_or facts i 0 < fact_end
  pub places : m ≤ length wins
  pub least : best ≤ m
  pub few : formed ≤ most_formed

-- .. at row r, whose first path is path k; there is a place for a literal of each row below
pub record Standing (ws : List ℕ) (n m base count r k : ℕ) : Type 0 where
  pub row : r < n
  pub paths-there : k + length (paths (tree ws r)) ≤ m
  pub known-few : count + r < base + n

-- path p is marked
abbrev pub is_marked : List ℕ → ℕ → Bool
is_marked wins p = not (eqb (get_or wins p 0) 0)

-- what the search finds on some ways, with `rest` the valuations behind: how many are formed then, as far as one above the most; if it is not above, the winning
-- paths are marked besides those that were
pub record Searched (d : Diagram) (m : ℕ) (rest : List (ℕ → ℕ)) (best formed : ℕ) (on : List Way) (wins wins' : List ℕ) (r : ℕ) : Type 0 where
  pub answer : r ≡ min (suc most_formed) (formed + formed_from d rest on)
  pub marks : r ≤ most_formed → (p : ℕ) → p < m → is_marked wins' p ≡ (is_marked wins p || mem eqb p (winners_from d m rest best on))

-- the first count words are as they were
abbrev pub Same : ℕ → List ℕ → List ℕ → Type 0
Same count s s' = (i : ℕ) → i < count → get_or s' i 0 ≡ get_or s i 0

-- what the search ensures: behind a path of this valuation
pub record Reached (ws facts known wins : List ℕ) (n m base left count best formed k : ℕ) (known' wins' : List ℕ) (x : ℕ) : Type 0 where
  pub same : Same count known known'
  pub found : (rest : List (ℕ → ℕ)) → length rest ≡ left → Facing ws facts n (base + n) rest
      → Searched (tree ws (n - 1)) m rest best formed (record { known = stacked known count; path = k } ∷ []) wins wins' x

-- .. down from row r
pub record Visited (ws facts known wins : List ℕ) (n m base left count best formed r k : ℕ) (known' wins' : List ℕ) (x : ℕ) : Type 0 where
  pub same : Same count known known'
  pub found : (fact : ℕ → ℕ) (rest : List (ℕ → ℕ)) → length rest ≡ left → Facing ws facts n base (fact ∷ rest)
      → Searched (tree ws (n - 1)) m rest best formed (ways fact (tree ws r) (stacked known count) k) wins wins' x

-- .. down both edges of the branch row r, whose fact is not known
pub record Forked (ws facts known wins : List ℕ) (n m base left count best formed r k : ℕ) (known' wins' : List ℕ) (x : ℕ) : Type 0 where
  pub same : Same count known known'
  pub found : (fact : ℕ → ℕ) (rest : List (ℕ → ℕ)) → length rest ≡ left → Facing ws facts n base (fact ∷ rest)
      → Searched (tree ws (n - 1)) m rest best formed
      (ways fact (tree ws (high_at ws r)) ((fact (label_at ws r) * 2 + 1) ∷ stacked known count) k
      ++ ways fact (tree ws (low_at ws r)) ((fact (label_at ws r) * 2) ∷ stacked known count) (k + length (paths (tree ws (high_at ws r)))))
      wins wins' x
