-- Operations in lent words, two to each.
use Rattle.std.specs.Prelude.{ℕ, zero, suc, ◌+◌, ◌*◌, List, get_or}
use Rattle.label.specs.declared.Test.TheVariants.{Always, Is}
use Rattle.names.specs.Many.{many}
use Rattle.reading.specs.Operations.{Op}
use Rattle.reading.specs.Operations.Op.{leaf_op, ask, step}

-- as two words: (0, v) leaf v, (1, l) ask the label l, (2, 0) ask t = t, (3, 0) step
abbrev pub op_of : ℕ → ℕ → Op
op_of zero v = leaf_op v
op_of (suc zero) v = ask (Is (record { packed = v }))
op_of (suc (suc zero)) v = ask Always
op_of (suc (suc (suc k))) v = step

-- operation i, and the first n
unfoldable pub op_at : List ℕ → ℕ → Op
op_at s i = op_of (get_or s (i * 2) 0) (get_or s (i * 2 + 1) 0)

unfoldable pub ops_in : List ℕ → ℕ → List Op
ops_in s n = many (op_at s) n
