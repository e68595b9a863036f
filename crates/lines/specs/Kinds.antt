-- The kinds of lines by what they belong to: the model, the run, or the state and its value.
use Rattle.std.specs.Prelude.{Bool, true, false}
use Rattle.text.specs.declared.Kind.{Kind}
use Rattle.text.specs.declared.Kind.TheVariants as K

-- lines that declare the model
abbrev pub is_of_model : Kind → Bool
is_of_model K.Constant = true
is_of_model K.Predicate = true
is_of_model K.Total = true
is_of_model K.Discount = true
is_of_model K.Reward = true
is_of_model K.Action = true
is_of_model K.Variant = true
is_of_model K.Becomes = true
is_of_model K.Start = false
is_of_model K.Objects = false
is_of_model K.Is = false
is_of_model K.True = false
is_of_model K.Value = false
is_of_model K.Backup = false
is_of_model K.Cut = false
is_of_model K.Show = false
is_of_model K.Reduce = false
is_of_model K.Text = false
is_of_model K.Best = false
is_of_model K.Count = false
is_of_model K.Did = false
is_of_model K.Bad = false

-- lines that begin the run, change or show its value, or ask for moves; not those of the state, nor (value)
abbrev pub is_of_run : Kind → Bool
is_of_run K.Constant = false
is_of_run K.Predicate = false
is_of_run K.Total = false
is_of_run K.Discount = false
is_of_run K.Reward = false
is_of_run K.Action = false
is_of_run K.Variant = false
is_of_run K.Becomes = false
is_of_run K.Start = true
is_of_run K.Objects = false
is_of_run K.Is = false
is_of_run K.True = false
is_of_run K.Value = false
is_of_run K.Backup = true
is_of_run K.Cut = true
is_of_run K.Show = true
is_of_run K.Reduce = true
is_of_run K.Text = true
is_of_run K.Best = true
is_of_run K.Count = true
is_of_run K.Did = true
is_of_run K.Bad = false
