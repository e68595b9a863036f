-- What contracts of inner functions and proofs cite. Nothing here has to be believed.
use Rattle.std.specs.Prelude.{List, [], ◌∷◌}
use Rattle.text.specs.declared.Kind.{Kind}
use Rattle.text.specs.declared.Kind.TheVariants as K

-- all kinds of lines but Bad
abbrev pub kinds : List Kind
kinds =
    K.Constant ∷ K.Predicate ∷ K.Total ∷ K.Discount ∷ K.Reward ∷ K.Action ∷ K.Variant ∷ K.Becomes ∷
    K.Start ∷ K.Objects ∷ K.Is ∷ K.True ∷ K.Value ∷ K.Backup ∷ K.Cut ∷ K.Show ∷ K.Reduce ∷ K.Text ∷ K.Best ∷
    K.Count ∷ K.Did ∷ []
