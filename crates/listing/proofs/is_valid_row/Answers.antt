use Rattle.listing.proofs.RowLaws.{bad-value, bad-third, good-leaf, bad-label, bad-high, bad-low, bad-same, bad-above-high, bad-above-low, good-branch}
use Rattle.listing.proofs.is_valid_row.Goals as goal

pub returns-then-words-i-gt-VALUE : goal.returns-then-words-i-gt-VALUE
returns-then-words-i-gt-VALUE c =
    search bad-value

pub returns-then-words-i-ne0 : goal.returns-then-words-i-ne0
returns-then-words-i-ne0 c =
    search bad-third

pub returns-then-l : goal.returns-then-l
returns-then-l c =
    search good-leaf

pub returns-then-not-fits : goal.returns-then-not-fits
returns-then-not-fits c =
    search bad-label

pub returns-then-t-i : goal.returns-then-t-i
returns-then-t-i c =
    search bad-high

pub returns-then-f-i : goal.returns-then-f-i
returns-then-f-i c =
    search bad-low

pub returns-then-t-f : goal.returns-then-t-f
returns-then-t-f c =
    search bad-same

pub returns-then-not-before : goal.returns-then-not-before
returns-then-not-before c =
    search bad-above-high

pub returns-then-not-before-2 : goal.returns-then-not-before-2
returns-then-not-before-2 c =
    search bad-above-low

pub returns : goal.returns
returns c =
    search good-branch
