use mathlib.Core.Path.{refl}
use Rattle.regress.proofs.TruthLaws.{argument-arguable, argued-mapping, argued-ran}
use Rattle.regress.proofs.replace_arguments.Goals as goal

pub argument_map-requires : goal.argument_map-requires
argument_map-requires c =
    argument-arguable c.requires.usable refl

pub replace-requires-clause-words_value : goal.replace-requires-clause-words_value
replace-requires-clause-words_value c =
    c.requires.usable.listing

pub replace-requires-clause-mapping : goal.replace-requires-clause-mapping
replace-requires-clause-mapping c =
    argued-mapping c.requires.usable c.argument_map.ensures

pub replace-requires-clause-ready : goal.replace-requires-clause-ready
replace-requires-clause-ready c =
    c.requires.ready

pub returns : goal.returns
returns c =
    argued-ran c.requires.usable c.argument_map.ensures c.replace.ensures
