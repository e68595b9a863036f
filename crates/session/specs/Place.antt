-- Which line may stand in which part of a text (document 01, section 'Text'; document 02, L2, L9, L10, L11 and L13).
use Rattle.text.specs.declared.Kind.{Kind}
use Rattle.text.specs.declared.Kind.TheVariants.{Constant, Predicate, Total, Discount, Reward, Action, Variant, Becomes, Start, Objects, Is, True, Value, Backup, Cut, Show, Reduce, Text, Bad}
use Rattle.text.specs.declared.Kind.TheVariants.{Best, Count, Did}
use Rattle.session.specs.declared.Part.{Part}
use Rattle.session.specs.declared.Part.TheVariants.{Model, Run}
use Rattle.session.specs.declared.Rule.{Rule}
use Rattle.session.specs.declared.Rule.TheVariants.{NoForm, Misplaced, Anywhere, OneTotal, OneDiscount, OneReward, AfterAction, AfterVariant, WholeModel}
use Rattle.session.specs.declared.Rule.TheVariants.{AfterObjects, WholeState, MoveState, Constants}

-- lines of the model: single forms once; a variant is of the last action, (becomes) of the last variant; (start) ends the model. Lines of the run stand
-- after (start): (is), (true) and (value) need an accepted (objects n) before them, and (value) needs every declared constant placed. (best) and
-- (did ..) need what (value) needs, (count n) needs the constants placed (document 02, L9, L10 and L11).
abbrev pub rule_of : Kind → Part → Rule
rule_of Constant Model = Anywhere
rule_of Predicate Model = Anywhere
rule_of Total Model = OneTotal
rule_of Discount Model = OneDiscount
rule_of Reward Model = OneReward
rule_of Action Model = Anywhere
rule_of Variant Model = AfterAction
rule_of Becomes Model = AfterVariant
rule_of Start Model = WholeModel
rule_of Objects Model = Misplaced
rule_of Is Model = Misplaced
rule_of True Model = Misplaced
rule_of Value Model = Misplaced
rule_of Backup Model = Misplaced
rule_of Cut Model = Misplaced
rule_of Show Model = Misplaced
rule_of Reduce Model = Misplaced
rule_of Text Model = Misplaced
rule_of Best Model = Misplaced
rule_of Count Model = Misplaced
rule_of Did Model = Misplaced
rule_of Bad Model = NoForm
rule_of Constant Run = Misplaced
rule_of Predicate Run = Misplaced
rule_of Total Run = Misplaced
rule_of Discount Run = Misplaced
rule_of Reward Run = Misplaced
rule_of Action Run = Misplaced
rule_of Variant Run = Misplaced
rule_of Becomes Run = Misplaced
rule_of Start Run = Misplaced
rule_of Objects Run = Anywhere
rule_of Is Run = AfterObjects
rule_of True Run = AfterObjects
rule_of Value Run = WholeState
rule_of Backup Run = Anywhere
rule_of Cut Run = Anywhere
rule_of Show Run = Anywhere
rule_of Reduce Run = Anywhere
rule_of Text Run = Anywhere
rule_of Best Run = MoveState
rule_of Count Run = Constants
rule_of Did Run = WholeState
rule_of Bad Run = NoForm
