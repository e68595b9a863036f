use Prim.Native.Nat.{◌*◌}
use Rattle.state.specs.Lent.{fact_words}
use Rattle.facts.specs.Words.{facts_base}
use Rattle.facts.specs.PartLaws.{part-lent}
use Rattle.desk_lines.proofs.BestLaws.{key-room, key-there, best-rows-long, best-constants-long, best-lent, best-moved, best-refused}
use Rattle.desk_lines.proofs.best.Goals as goal

pub slice_bounds-best_move-end : goal.slice_bounds-best_move-end
slice_bounds-best_move-end c =
    best-constants-long c.requires

pub slice_bounds-best_move-end-4 : goal.slice_bounds-best_move-end-4
slice_bounds-best_move-end-4 c =
    best-rows-long c.requires

pub best_move-m-requires : goal.best_move-m-requires
best_move-m-requires c =
    best-lent c.requires (part-lent c.args.state.now facts_base (c.args.n.live.facts * fact_words))

pub key_at-requires : goal.key_at-requires
key_at-requires c =
    key-room c.requires _ _
    c.best_move-m.ensures c.in-Move.is

pub returns-in-Move : goal.returns-in-Move
returns-in-Move c =
    best-moved _ _ _ _ _ _ _ (part-lent c.args.state.now facts_base (c.args.n.live.facts * fact_words)) c.best_move-m.ensures
    c.in-Move.is
    (key-there c.requires _ _ c.best_move-m.ensures c.in-Move.is c.key_at.ensures)

pub returns-in-Refused : goal.returns-in-Refused
returns-in-Refused c =
    best-refused _ _ _ _ _ _ _ (part-lent c.args.state.now facts_base (c.args.n.live.facts * fact_words)) c.best_move-m.ensures c.in-Refused.is
