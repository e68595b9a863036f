use Rattle.answering.proofs.LineLaws.{name-room, objects-room, end-room, move-parts}
use borrow.Author.Rules.{rules}
use Rattle.answering.proofs.best_line.Goals as goal

pub put_key-j-requires : goal.put_key-j-requires
put_key-j-requires c =
    name-room c.args.action c.requires c.put_bytes-i.ensures c.put_bytes-i.auto.out

pub put_objects-k-requires : goal.put_objects-k-requires
put_objects-k-requires c =
    objects-room c.args.action c.requires c.put_bytes-i.ensures c.put_key-j.ensures c.put_bytes-i.auto.out c.put_key-j.auto.out

pub put_bytes-requires : goal.put_bytes-requires
put_bytes-requires c =
    end-room c.args.action c.requires c.put_bytes-i.ensures c.put_key-j.ensures c.put_bytes-i.auto.out c.put_key-j.auto.out c.put_objects-k.auto.out c.put_objects-k.ensures

pub returns : goal.returns
returns c =
    search (rules, move-parts)
