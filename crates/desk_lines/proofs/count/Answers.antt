use Rattle.desk_lines.proofs.CountLaws.{count-rows-long, count-constants-long, spreadable, count-lines, count-refused}
use Rattle.desk_lines.proofs.count.Goals as goal

pub slice_bounds-spread-end : goal.slice_bounds-spread-end
slice_bounds-spread-end c =
    search count-constants-long

pub slice_bounds-spread-end-2 : goal.slice_bounds-spread-end-2
slice_bounds-spread-end-2 c =
    search count-rows-long

pub spread-lines-requires : goal.spread-lines-requires
spread-lines-requires c =
    search spreadable

pub returns-in-Ok : goal.returns-in-Ok
returns-in-Ok c =
    search count-lines

pub returns-in-Err : goal.returns-in-Err
returns-in-Err c =
    search count-refused
