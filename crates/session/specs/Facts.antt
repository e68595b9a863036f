-- Lines of the state: their checks in order, and what an accepted one does (document 01, sections 'Text' and 'States and value').
use Rattle.std.specs.Prelude.{Bool, not, ◌||◌, ◌&&◌, cond, List, [], ◌++◌, ℕ, suc, ◌+◌, ◌*◌, length, set, get_or, replicate, leb, eqb}
use Rattle.refusal.specs.declared.Refusal.TheVariants.{Name, Arity, Range, Space}
use Rattle.label.specs.Limits.{constant_count}
use Rattle.words.specs.declared.Key.{Key}
use Rattle.names.specs.Keys.{place_of, is_among}
use Rattle.refusal.specs.Outcome.{Outcome, ok}
use Rattle.diagram.specs.Words.{every_below}
use Rattle.state.specs.Lent.{fact_words, fact_row, most_objects, most_facts, fact_count, some_below, all_below}
use Rattle.session.specs.Session.{Names, Live, refuse_if}

-- (objects n) clears the state: no constant is placed, no fact is true
unfoldable pub cleared : ℕ → Live
cleared n = record { objects = n; placed = replicate constant_count 0; constants = replicate constant_count 0; facts = []; count = 0; total = 0 }

unfoldable pub objects_line : ℕ → Outcome Live
unfolding cleared
objects_line n = refuse_if (not (leb 1 n && leb n most_objects)) Range (ok (cleared n))

-- constant c has the object o
unfoldable pub placed : Live → ℕ → ℕ → Live
placed l c o = record { objects = l.objects; placed = set l.placed c 1; constants = set l.constants c o; facts = l.facts; count = l.count; total = l.total }

-- (is c o): at c 2 if it is no constant or is placed already; at o 4 if it is no object
unfoldable pub is_line : Names → Live → Key → ℕ → Outcome Live
unfolding is_among place_of placed
is_line n l k o =
    refuse_if (not (is_among k n.constants) || eqb (get_or l.placed (place_of k n.constants) 0) 1) Name
    (refuse_if (leb l.objects o) Range
    (ok (placed l (place_of k n.constants) o)))

-- one fact more; count and total begin again
unfoldable pub with_fact : Live → List ℕ → Live
with_fact l row = record { objects = l.objects; placed = l.placed; constants = l.constants; facts = l.facts ++ row; count = 0; total = 0 }

-- word j of row i of the facts is that of the row
abbrev pub same_word : List ℕ → List ℕ → ℕ → ℕ → Bool
same_word facts row i j = eqb (get_or facts (i * fact_words + j) 0) (get_or row j 0)

-- row i of the facts is the row
abbrev pub row_is : List ℕ → List ℕ → ℕ → Bool
row_is facts row i = every_below fact_words (same_word facts row i)

-- the row is one of the facts
unfoldable pub is_fact : List ℕ → List ℕ → Bool
is_fact facts row = some_below (fact_count facts) (row_is facts row)

-- 'An accepted (objects n) or (true) begins again with count and total 0' (document 02, L10), a repeated one too
unfoldable pub begun_again : Live → Live
begun_again l = record { objects = l.objects; placed = l.placed; constants = l.constants; facts = l.facts; count = 0; total = 0 }

-- a fact that is there may be repeated without effect on the state; last 9
unfoldable pub fact_line : Live → List ℕ → Outcome Live
unfolding with_fact begun_again is_fact
fact_line l row =
    cond (is_fact l.facts row) (ok (begun_again l))
    (refuse_if (leb most_facts (fact_count l.facts)) Space
    (ok (with_fact l row)))

-- the number of the predicate with the key k
abbrev pub predicate_of : Names → Key → ℕ
predicate_of n k = suc (place_of k n.predicates)

-- (true p o ..): at p 2, then 3; 4 at an object
unfoldable pub true_line : List ℕ → Names → Live → Key → List ℕ → Outcome Live
unfolding is_among place_of fact_line
true_line ar n l k os =
    refuse_if (not (is_among k n.predicates)) Name
    (refuse_if (not (eqb (length os) (get_or ar (predicate_of n k) 0))) Arity
    (refuse_if (not (all_below l.objects os)) Range
    (fact_line l (fact_row (predicate_of n k) os))))
