-- (start) and the lines of the run: what they answer, and how (start) begins the run (document 01, sections 'Text', 'Backup' and 'A run, whole'; document 02, L2, L9,
-- L11 and L13).
use Rattle.std.specs.Prelude.{not, ◌&&◌, List, [], ℕ, length, get_or, leb}
use Rattle.refusal.specs.declared.Refusal.TheVariants.{Range, Valuations, Length}
use Rattle.diagram.specs.Diagram.{Diagram}
use Rattle.diagram.specs.Rows.{rows}
use Rattle.diagram.specs.Listing.{listing}
use Rattle.state.specs.State.{State, meaning}
use Rattle.state.specs.Lent.{state_of, constants_below, most_objects}
use Rattle.minimum.specs.Number.{number}
use Rattle.elimination.specs.Answer.{is_too_large}
use Rattle.refusal.specs.Outcome.{Outcome, ok, and_then}
use Rattle.cutting.specs.declared.Cut.{Cut}
use Rattle.cutting.specs.declared.Cut.TheVariants as C
use Rattle.mdp.specs.Model.{Model}
use Rattle.mdp.specs.Runs.{Held, begin}
use Rattle.best.specs.Moves.{Move}
use Rattle.best.specs.Best.{best_answer}
use Rattle.spread.specs.Spread.{Entry, entries_of, spread}
use Rattle.words.specs.declared.Key.{Key}
use Rattle.diagram_form.specs.Form.{Tables, tables_of, form_length, is_too_long}
use Rattle.answers.specs.declared.Answer.{Answer}
use Rattle.answers.specs.declared.Answer.TheVariants as A
use Rattle.session.specs.declared.Part.TheVariants.{Run}
use Rattle.session.specs.Session.{Names, Live, Session, with_held, refuse_if}
use Rattle.session.specs.ModelLines.{weighed}

-- ===== (start) =====

-- its sums of weights; then the run begins: 'the value diagram starts as the reward read, k as 0'
unfoldable pub start_line : Session → Outcome Session
unfolding weighed begin
start_line σ =
    and_then (weighed σ.model.arities σ.model.total σ.model.actions) (λ u.
    ok (with_held σ Run (begin σ.model)))

-- ===== (value) =====

-- the state in hand
unfoldable pub state_in : List ℕ → Live → State
unfolding state_of
state_in ar l = state_of ar l.objects l.constants l.facts

-- the number of the value diagram (document 02, L12); 15 if the valuations are above 1,000,000, and there is a minimum variable or the entries of
-- the tables are above 8,192 (L6)
unfoldable pub value_read : List ℕ → Live → Diagram → Outcome ℕ
unfolding is_too_large number meaning state_in
value_read ar l d =
    refuse_if (is_too_large ar (state_in ar l) [] (listing d)) Valuations
    (ok (number (state_in ar l) [] (meaning ar d)))

-- ===== (backup), (cut) and (reduce), which are calls of the run =====

-- k, rows
abbrev pub backup_is : Held → Answer
backup_is h = A.Backup h.steps (length (rows h.diagram))

-- row, edge, rows left; a refused cut is answered by its refusal and never comes here
abbrev pub cut_is : Cut → Answer
cut_is (C.Done k e n) = A.Cut k e n
cut_is (C.Refused r) = A.Nothing

-- rows
abbrev pub reduce_is : Held → Answer
reduce_is h = A.Reduce (length (rows h.diagram))

-- ===== (text) =====

-- names of constants and predicates as declared
abbrev pub tables_in : Names → Tables
tables_in n = tables_of n.constants n.predicates

-- how many bytes the value diagram has as a form; '19, the reward line made of the form would pass 4,095 bytes or 64 open brackets' (document 02, L2)
unfoldable pub form_read : List ℕ → Names → Diagram → Outcome ℕ
unfolding is_too_long form_length tables_of
form_read ar n d = refuse_if (is_too_long ar (tables_in n) d) Length (ok (form_length ar (tables_in n) d))

-- ===== (best) =====

-- 'for the state in hand and k': the first action, then the lowest objects in order, whose weighted sum over variants is highest, or what refuses it (document 02,
-- L9)
unfoldable pub best_read : Model → Live → Diagram → Outcome Move
unfolding best_answer state_in
best_read m l d = best_answer m (state_in m.arities l) d

-- the key of no name
abbrev pub no_key : Key
no_key = record { a = 0; b = 0 }

-- '(best action object ..)': the action's name as declared, and its objects
abbrev pub best_is : Names → Move → Answer
best_is n x =
    A.Best (get_or n.actions x.action no_key) (length x.objects)
    (get_or x.objects 0 0) (get_or x.objects 1 0) (get_or x.objects 2 0) (get_or x.objects 3 0)

-- ===== (count n) =====

-- 'over all states of n objects, with the constants placed as they are now': how many declared predicates there are, and the value's listing
abbrev pub entries_in : Model → Names → Live → Diagram → ℕ → List Entry
entries_in m names l d n = entries_of m.arities (length names.predicates) n l.constants (listing d)

-- 'n from 1 to 64 or else 4'; 'a constant placed beyond n meets 4' (of the 16 words those that are not declared are 0: text_spreads `text-settled`); then 24 and 15
-- (document 02, L11)
unfoldable pub count_read : Model → Names → Live → Diagram → ℕ → Outcome (List Entry)
unfolding constants_below spread
count_read m names l d n =
    refuse_if (not (leb 1 n && leb n most_objects)) Range
    (refuse_if (not (constants_below n l.constants)) Range
    (spread m.arities (length names.predicates) n l.constants (listing d)))
