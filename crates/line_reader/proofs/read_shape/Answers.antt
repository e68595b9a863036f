use Rattle.text.specs.LineForm.{shape_form}
use Rattle.line_reader.proofs.read_shape.Goals as goal

pub returns-in-Nothing : goal.returns-in-Nothing
unfolding shape_form
returns-in-Nothing c =
    rw c.in-Nothing.is c.read_end.ensures

pub returns-in-One : goal.returns-in-One
unfolding shape_form
returns-in-One c =
    rw c.in-One.is c.read_one.ensures

pub returns-in-Two : goal.returns-in-Two
unfolding shape_form
returns-in-Two c =
    rw c.in-Two.is c.read_two.ensures

pub returns-in-Listed : goal.returns-in-Listed
unfolding shape_form
returns-in-Listed c =
    rw c.in-Listed.is c.read_listed.ensures

pub returns-in-Paired : goal.returns-in-Paired
unfolding shape_form
returns-in-Paired c =
    rw c.in-Paired.is c.read_paired.ensures

pub returns-in-Drawn : goal.returns-in-Drawn
unfolding shape_form
returns-in-Drawn c =
    rw c.in-Drawn.is c.read_drawn.ensures

pub returns-in-Named : goal.returns-in-Named
unfolding shape_form
returns-in-Named c =
    rw c.in-Named.is c.read_named.ensures

pub returns-in-Headed : goal.returns-in-Headed
unfolding shape_form
returns-in-Headed c =
    rw c.in-Headed.is c.read_headed.ensures

pub returns-in-Never : goal.returns-in-Never
unfolding shape_form
returns-in-Never c =
    rw c.in-Never.is
