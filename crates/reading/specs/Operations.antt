-- What a diagram's words say is to be done, one after another (document 01, section 'Text': an if form is 'read as the row step
-- above when it closes'): form a leaf, ask an atom's test, make the row step of the test asked last with the last two results.
use Rattle.std.specs.Prelude.{ℕ}
use Rattle.label.specs.declared.Test.{Test}

pub data Op : Type 0 where
  leaf_op : ℕ → Op
  ask : Test → Op
  step : Op
