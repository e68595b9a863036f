use Rattle.reader.proofs.PassCode.{atom-name, atom-room, atom-arity, atom-places, atom-goes}
use borrow.Author.Rules.{rules}
use Rattle.reader.proofs.read_atom.Goals as goal

pub returns-then-n-i : goal.returns-then-n-i
returns-then-n-i c =
    search atom-name

pub bounds-arities-p : goal.bounds-arities-p
bounds-arities-p c =
    search atom-room

pub returns-then-count-arity : goal.returns-then-count-arity
returns-then-count-arity c =
    search atom-arity

pub begin-requires-clause-predicate_lt_predicate_count : goal.begin-requires-clause-predicate_lt_predicate_count
begin-requires-clause-predicate_lt_predicate_count c =
    search rules

pub begin-requires-clause-due_le_most_places : goal.begin-requires-clause-due_le_most_places
begin-requires-clause-due_le_most_places c =
    atom-places c.args.names.now c.args.arities.now c.args.scope c.requires.tables c.find-i.result c.if-count-arity.false

pub returns : goal.returns
returns c =
    search atom-goes
