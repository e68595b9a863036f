use Rattle.memory.specs.WordLaws.{second-in}
use Rattle.text.specs.declared.Kind.TheVariants.{Discount}
use Rattle.declaration_lines.proofs.SaysLaws.{discount-done, discount-refused}
use Rattle.declaration_lines.proofs.discount.Goals as goal

pub next_event-second-requires : goal.next_event-second-requires
next_event-second-requires c =
    search (second-in Discount)

pub returns-then-is_discount : goal.returns-then-is_discount
returns-then-is_discount c =
    search discount-done

pub returns : goal.returns
returns c =
    search discount-refused
