use Rattle.combine.specs.JoiningLaws.{paired-formable, joint-formed, joint-many, joint-high}
use Rattle.combine.proofs.join_listings.Goals as goal

pub formed-requires-clause-formable : goal.formed-requires-clause-formable
formed-requires-clause-formable c =
    paired-formable c.pair_up.ensures c.in-Pairs.is

pub returns-in-Pairs : goal.returns-in-Pairs
returns-in-Pairs c =
    joint-formed c.pair_up.ensures c.requires.holds c.in-Pairs.is c.formed.ensures

pub returns-in-TooMany : goal.returns-in-TooMany
returns-in-TooMany c =
    joint-many c.pair_up.ensures c.requires.holds c.in-TooMany.is

pub returns-in-TooHigh : goal.returns-in-TooHigh
returns-in-TooHigh c =
    joint-high c.pair_up.ensures c.requires.holds c.in-TooHigh.is
