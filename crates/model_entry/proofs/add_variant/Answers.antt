use Rattle.model_entry.proofs.VariantLaws.{variant-added}
use Rattle.model_entry.proofs.add_variant.Goals as goal

pub returns : goal.returns
returns c =
    search variant-added
