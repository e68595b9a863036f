-- Paths that contradict themselves by equality (document 02, L5).
use Rattle.std.specs.Prelude.{◌≡◌, ◌≢◌, Bool, true, false, not, ◌&&◌, ◌||◌, cond, ℕ, eqb}
use mathlib.Core.List.{List, [], ◌∷◌, Memᴰ}
use Rattle.label.specs.Limits.{equality}
use Rattle.label.specs.Labels.{predicate_of, unpacked, terms_of}
use Rattle.label.specs.Renamings.{moved}
use Rattle.label.specs.declared.Test.{Test}
use Rattle.label.specs.declared.Test.TheVariants.{Always, Is}
use Rattle.diagram.specs.Diagram.{Diagram}
use Rattle.paths.specs.Paths.{Literal, Path, paths, literals}
use Rattle.cutting.specs.Cut.{every_path}

-- ===== In document 02's words =====

-- the terms of a literal, place by place
abbrev pub literal_terms : List ℕ → Literal → List ℕ
literal_terms ar l = terms_of ar (unpacked l.label)

-- the literal is an equality, and names the terms t and u
pub record Equates (ar : List ℕ) (l : Literal) (t u : ℕ) : Type 0 where
  pub equates : predicate_of l.label ≡ equality
  pub terms : literal_terms ar l ≡ t ∷ u ∷ []

-- the true equalities among the literals join t and u: the least equivalence that holds them, so through any number of them
pub data Joined (ar : List ℕ) (ls : List Literal) : ℕ → ℕ → Type 0 where
  named : {t u : ℕ} (l : Literal) → Memᴰ l ls → l.sign ≡ true → Equates ar l t u → Joined ar ls t u
  itself : {t : ℕ} → Joined ar ls t t
  turned : {t u : ℕ} → Joined ar ls t u → Joined ar ls u t
  along : {t u v : ℕ} → Joined ar ls t u → Joined ar ls u v → Joined ar ls t v

-- "agree place by place under them"
abbrev pub Agree : List ℕ → List Literal → List ℕ → List ℕ → Type 0
Agree ar ls [] [] = Unit {0}
Agree ar ls [] (u ∷ us) = ⊥
Agree ar ls (t ∷ ts) [] = ⊥
Agree ar ls (t ∷ ts) (u ∷ us) = Joined ar ls t u × Agree ar ls ts us

-- "its true equalities join two terms that one of its false equalities names, or two of its literals on one predicate agree place by place under them and
-- differ in truth"
pub data Contradicts (ar : List ℕ) (ls : List Literal) : Type 0 where
  unequal : {t u : ℕ} (l : Literal) → Memᴰ l ls → l.sign ≡ false → Equates ar l t u → Joined ar ls t u → Contradicts ar ls
  differ : (l m : Literal) → Memᴰ l ls → Memᴰ m ls → predicate_of l.label ≡ predicate_of m.label
      → Agree ar ls (literal_terms ar l) (literal_terms ar m) → l.sign ≡ true → m.sign ≡ false → Contradicts ar ls

-- "every path .. that has a leaf other than W contradicts itself by equality"
abbrev pub LeadsTo : List ℕ → ℕ → Diagram → Type 0
LeadsTo ar w d = (p : Path) → Memᴰ p (paths d) → p.end ≢ w → Contradicts ar (literals p)

-- ===== The same as tests that compute =====

-- r gives each term a representative; with t and u joined, what had t's has that of u
unfoldable pub joining : ℕ → ℕ → (ℕ → ℕ) → ℕ → ℕ
joining t u r x = cond (eqb (r x) (r t)) (r u) (r x)

abbrev pub join_terms : List ℕ → (ℕ → ℕ) → ℕ → ℕ
join_terms [] r x = r x
join_terms (t ∷ []) r x = r x
join_terms (t ∷ u ∷ []) r x = joining t u r x
join_terms (t ∷ u ∷ v ∷ ts) r x = r x

-- a true equality joins the terms that it names
unfoldable pub join_literal : List ℕ → Literal → (ℕ → ℕ) → ℕ → ℕ
unfolding joining
join_literal ar l r x = cond (l.sign && eqb (predicate_of l.label) equality) (join_terms (literal_terms ar l) r x) (r x)

-- terms that the true equalities join, and no others, have one representative
unfoldable pub representative : List ℕ → List Literal → ℕ → ℕ
unfolding join_literal
representative ar [] x = x
representative ar (l ∷ ls) x = join_literal ar l (representative ar ls) x

abbrev pub some_literal : (Literal → Bool) → List Literal → Bool
some_literal f [] = false
some_literal f (l ∷ ls) = f l || some_literal f ls

-- what a literal asks with each term's representative in its place: an equality of joined terms is then plain truth, and literals on one predicate that agree
-- place by place ask the same
abbrev pub asked : List ℕ → (ℕ → ℕ) → Literal → Test
asked ar r l = moved ar r l.label

abbrev pub asks_for : ℕ → Test → Bool
asks_for k Always = false
asks_for k (Is l) = eqb l.packed k

-- the literal says that the label k is true
unfoldable pub affirms : List ℕ → (ℕ → ℕ) → ℕ → Literal → Bool
unfolding moved
affirms ar r k l = l.sign && asks_for k (asked ar r l)

-- plain truth, or what a literal says is true
abbrev pub is_said : List ℕ → (ℕ → ℕ) → List Literal → Test → Bool
is_said ar r ls Always = true
is_said ar r ls (Is k) = some_literal (affirms ar r k.packed) ls

-- the literal says that it is false
unfoldable pub clashes : List ℕ → (ℕ → ℕ) → List Literal → Literal → Bool
unfolding affirms moved
clashes ar r ls l = not l.sign && is_said ar r ls (asked ar r l)

unfoldable pub clash_under : List ℕ → (ℕ → ℕ) → List Literal → Bool
unfolding clashes
clash_under ar r ls = some_literal (clashes ar r ls) ls

unfoldable pub contradicts : List ℕ → List Literal → Bool
unfolding clash_under representative
contradicts ar ls = clash_under ar (representative ar ls) ls

unfoldable pub passes : List ℕ → ℕ → Path → Bool
unfolding contradicts literals
passes ar w p = eqb p.end w || contradicts ar (literals p)

unfoldable pub leads_to : List ℕ → ℕ → Diagram → Bool
unfolding passes paths
leads_to ar w d = every_path (passes ar w) (paths d)
