-- Terms, atoms and labels (document 01, section 'Terms, labels, listings'; document 02, L3, L8 and L12).
--
-- Definitions: numbers
--   constant_count, first_parameter, parameter_count, first_variable, variable_count == 16 constants from 0, 4 parameters from 16, 64 variables from 64
--   first_minimum, minimum_count == 64 minimum variables from 128
--   term_end == 192: every term's number is below it
--   term_bits, term_base == 8 bits for a place: the base 256 in which a label's places are packed
--   predicate_count, most_places == 32 predicates, with at most 6 places each
--   equality, equality_arity == equality is predicate 0 and has 2 places
--   predicate_weight == 2^48, by which the predicate is multiplied
--   weight_at == what place k is multiplied by, the first being place 0
--   leaf_mark == 2^64 - 1, a leaf's first word: above every label
--
-- Definitions: terms, atoms, labels
--   is_constant, is_parameter, is_variable, is_minimum, is_term == t is the number of a constant, a parameter, a (maximum) variable, a minimum variable; of one of these
--   Kind, kind_of == the kind of the term with a number, or that no term has it (an enum of the code)
--   constant_term, parameter_term, variable_term, minimum_term == the number of constant, parameter, variable, minimum variable i
--   all_at_most, are_arities == an arity list: 32 arities, the first of them 2, each at most 6
--   Atom == a predicate and six places, unused ones 0 (a struct of the code)
--   packed, weighed, Label == the number of an atom: predicate · 2^48 + t1 · 2^40 + .. + t6, first place highest; it as a struct of the code
--   predicate_of, place_at, unpacked == the predicate, place k and the atom of a label
--   places_of, place_in, atom_from == the places of an atom; place k of it; the atom of a predicate and its places
--   place_fits, places_fit == place k of a predicate of arity n holds a term, or 0 where it is unused
--   in_order == an equality has its smaller term first, so that t = t is no label
--   is_atom, is_label, is_label_under == an atom, a label under an arity list; the list is one, and it a label under it
--   terms_of == the terms of an atom: its used places
--   Test == what an atom asks: a label, or t = t, which is plain truth (an enum of the code)
--   test_of, label_of, equates, equal_atom == what an atom asks: its label; of an equality plain truth, or the label with the smaller term first
--
-- Definitions: the order of labels, as the thesis writes it (document 02, L3)
--   kind_rank, term_before == constants before parameters before variables before minimum variables; two terms by kind, then by number
--   places_before, atom_before, label_before == by the first place that differs; by predicate, then by the used places; of labels
--   StrictTotal == irreflexive, transitive, trichotomous
--   is_first_word, word_before, Compared == first words of rows, a leaf after every label; what the comparison of two words answers
--
-- Definitions: terms replaced
--   placed, mapped == a place, an atom with all its terms replaced together; unused places stay 0
--   moved == what a label asks once its terms are replaced
--   renamed == the label renamed, by a map that keeps the order of its terms
--   map_of, Increasing == a map of terms as a list of words; a map that turns terms into terms and keeps their order
--   Numbered, Freed == the terms that closing up and moving apart, and freeing, are such maps of
--   EachTerm, EachIn == what is so of every term of an atom, of a label
--   rank == how many numbers of a list are below t
--   numbering == the variables us renamed to m, m + 1, .., the minimum variables vs to n, n + 1, .., each kind in its order: closing up, moving apart
--   freeing == parameter i turns into variable i, the other variables move up by the parameter count, minimum variables stay
--
-- Theorems
--   limits-agree: the limits agree with each other
--   packed-unpacked: packing the atom of a label gives the label back
--   unpacked-packed: unpacking a packed atom gives the atom back
--   label-packed: the labels are the packed atoms
--   order-numbers: for every pair of labels under one arity list the order answers as their numbers do
--   order-strict-total: it is a strict total order on them
--   word-numbers: first words of rows too are in the order of their numbers
--   numbering-increasing: closing up and moving apart keep the order of terms
--   freeing-increasing: so does freeing
--
-- Callers and Inner have inner contracts.

pub mod Limits
pub mod Terms
pub mod Labels
pub mod Order
pub mod Renamings
pub mod Inner
pub mod Callers
