use Rattle.model_entry.proofs.VariantLaws.{place-second, place-count, opened}
use Rattle.model_entry.proofs.open_variant.Goals as goal

pub bounds-table-place-2 : goal.bounds-table-place-2
bounds-table-place-2 c =
    search place-second

pub bounds-table-a-2 : goal.bounds-table-a-2
bounds-table-a-2 c =
    search place-count

pub returns : goal.returns
returns c =
    search opened
