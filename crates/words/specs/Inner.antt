-- What contracts of inner functions and proofs cite. Nothing here has to be believed.
use Rattle.std.specs.Prelude.{List, ◌&&◌, cond, ℕ, leb, get_or}
use Rattle.words.specs.Bytes.{is_letter, is_name_byte, run}
use Rattle.std.specs.Prelude.{None, Option, Some}

-- the name that the bytes begin with
unfoldable pub name_form : List ℕ → Option ℕ
name_form s = cond (is_letter (get_or s 0 0) && leb (run is_name_byte s) 15) (Some (run is_name_byte s)) None
