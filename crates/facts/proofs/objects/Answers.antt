use Rattle.facts.proofs.StateLaws.{objects-none, objects-many, objects-done}
use Rattle.facts.proofs.objects.Goals as goal

pub returns-then-n-eq0 : goal.returns-then-n-eq0
returns-then-n-eq0 c =
    search objects-none

pub returns-then-n-gt-OBJECTS : goal.returns-then-n-gt-OBJECTS
returns-then-n-gt-OBJECTS c =
    search objects-many

pub returns : goal.returns
returns c =
    search objects-done
