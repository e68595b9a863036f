-- What each function needs, from what a dispatch over all kinds of lines has.
use Rattle.std.specs.Prelude.{refl, List, ℕ}
use Rattle.text.specs.declared.Kind.TheVariants.{Objects, Is, True}
use Rattle.memory.specs.declared.Numbers.{Numbers}
use Rattle.memory.specs.Inner.{Ready}
use Rattle.memory.specs.Memory.{memory_of}
use Rattle.memory.specs.RunLaws.{some-objects}
use Rattle.memory.specs.WordLaws.{line-begins, line-ends}
use Rattle.state_lines.specs.Lines.{ForObjects, ForIs, ForTrue}

module _ {s : List ℕ} {n : Numbers} {names arities listings table state value : List ℕ} where
  pub for-objects : Ready Objects s n (memory_of names arities listings table state value) → ForObjects s n arities state
  for-objects r = record { begins = line-begins r.line; live = r.stored.live; indexed = r.indexed }

  pub for-is : Ready Is s n (memory_of names arities listings table state value) → ForIs s n names state
  for-is r = record { begins = line-begins r.line; good = r.stored.vocabulary.names; live = r.stored.live }

  pub for-true : Ready True s n (memory_of names arities listings table state value) → ForTrue s n names arities state
  for-true r = record {
    begins = line-begins r.line;
    ends = line-ends r.line;
    good = r.stored.vocabulary;
    live = r.stored.live;
    indexed = r.indexed;
    some = some-objects refl refl r;
  }
