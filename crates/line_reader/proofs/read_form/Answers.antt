use borrow.Author.Rules.{rules}
use native.Mathlib.Omega.{arith}
use mathlib.Core.Path.{sym, ◌∙◌}
use Prim.Native.Nat.{◌≤◌}
use lib.ListN.{length}
use lib.Seq.{length-take-le}
use Rattle.words.specs.WordLaws.{name-within, name-inv}
use Rattle.line_reader.proofs.LineCode.{form-none, form-refused, form-whole, form-rest}
use Rattle.line_reader.proofs.read_form.Goals as goal
use Rattle.line_reader.proofs.read_form.Goals.{In-Some}

-- the key word lies within the bytes, and has at most 15
room : (c : In-Some)
    → (c.in-Some.n ≤ length c.args.s.now) × (c.in-Some.n ≤ 15)
room c =
    let e = sym c.read_name.ensures ∙ c.in-Some.is in
    (name-within _ _ e, (name-inv _ e).2)

pub returns-in_default : goal.returns-in_default
returns-in_default c =
    search form-none

pub slice_bounds-key_of-end : goal.slice_bounds-key_of-end
slice_bounds-key_of-end c =
    sym (length-take-le _ _ (room c).0)

pub key_of-requires : goal.key_of-requires
key_of-requires c =
    omega (arith, room c, length-take-le c.in-Some.n c.args.s.now (room c).0)

pub overflow_sub-s : goal.overflow_sub-s
overflow_sub-s c =
    search (rules, name-within, name-inv, form-none, form-refused, form-whole, form-rest)

pub slice_bounds-read_shape-count : goal.slice_bounds-read_shape-count
slice_bounds-read_shape-count c =
    search (rules, name-within, name-inv, form-none, form-refused, form-whole, form-rest)

pub slice_bounds-read_shape-start : goal.slice_bounds-read_shape-start
slice_bounds-read_shape-start c =
    search (rules, name-within, name-inv, form-none, form-refused, form-whole, form-rest)

pub returns-in_default-read_shape : goal.returns-in_default-read_shape
returns-in_default-read_shape c =
    search form-refused

pub returns-then-m-s : goal.returns-then-m-s
returns-then-m-s c =
    search form-whole

pub returns-else-m-s : goal.returns-else-m-s
returns-else-m-s c =
    search form-rest
