use Rattle.run_lines.proofs.ShowLaws.{show-shows}
use Rattle.run_lines.proofs.show.Goals as goal

pub returns : goal.returns
returns c =
    show-shows _
