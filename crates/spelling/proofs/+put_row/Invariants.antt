use Rattle.spelling.proofs.+put_row.Given as goal

abbrev pub decreases-put_row : goal.decreases-put_row
decreases-put_row l = l.i
