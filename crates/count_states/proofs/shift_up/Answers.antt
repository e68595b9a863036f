use Rattle.count_states.proofs.TableLaws.{shift-start, shift-room, shift-on, shift-end}
use Rattle.count_states.proofs.shift_up.Goals as goal

pub loop-i-init : goal.loop-i-init
loop-i-init c =
    search shift-start

pub put_entry-requires : goal.put_entry-requires
put_entry-requires c =
    search shift-room

pub loop-i-preserved : goal.loop-i-preserved
loop-i-preserved c =
    search shift-on

pub returns : goal.returns
returns c =
    search shift-end
