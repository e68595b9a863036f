use lib.Dec.{lit≤}
use Rattle.diagram.specs.Sizes.{most_rows}
use Rattle.contradict.proofs.PathLaws.{leads-some, leads-count, leads-many, leads-routed, leads-only, leads-others}
use Rattle.contradict.proofs.leads_to.Goals as goal

pub count_paths-requires-clause-rows : goal.count_paths-requires-clause-rows
count_paths-requires-clause-rows c =
    (leads-count c.args.arities.now c.args.words.now c.requires most_rows (lit≤ tt)).0

pub count_paths-requires-clause-n_in_bounds : goal.count_paths-requires-clause-n_in_bounds
count_paths-requires-clause-n_in_bounds c =
    (leads-count c.args.arities.now c.args.words.now c.requires most_rows (lit≤ tt)).1

pub overflow_sub-m : goal.overflow_sub-m
overflow_sub-m c =
    leads-some c.args.arities.now c.args.words.now c.requires

pub returns-then-m-gt-PATHS : goal.returns-then-m-gt-PATHS
returns-then-m-gt-PATHS c =
    leads-many c.args.arities.now c.args.words.now c.requires c.args.w c.count_paths.ensures c.if-m-gt-PATHS.true

pub all_pass-requires : goal.all_pass-requires
all_pass-requires c =
    leads-routed c.args.arities.now c.args.words.now c.requires c.args.w c.count_paths.ensures c.if-m-gt-PATHS.false

pub returns-then-all_pass : goal.returns-then-all_pass
returns-then-all_pass c =
    leads-only c.args.arities.now c.args.words.now c.requires c.args.w c.count_paths.ensures c.if-m-gt-PATHS.false
    c.all_pass.ensures c.if-all_pass.true

pub returns : goal.returns
returns c =
    leads-others c.args.arities.now c.args.words.now c.requires c.args.w c.count_paths.ensures c.if-m-gt-PATHS.false
    c.all_pass.ensures c.if-all_pass.false
