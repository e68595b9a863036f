use Rattle.answering.proofs.WriteLaws.{field_room, wrote-field}
use Rattle.answering.proofs.put_field.Goals as goal

pub put_number-requires : goal.put_number-requires
put_number-requires c =
    search field_room

pub returns : goal.returns
returns c =
    search wrote-field
