use mathlib.Core.Path.{refl}
use Rattle.matcher.proofs.WayLaws.{equal-nothing, equal-straight, equal-turned, equal-false, equal-into, equal-tab, equal-none}
use borrow.Author.Rules.{rules}
use Rattle.matcher.proofs.equal_way.Goals as goal

pub returns-then-not-alike : goal.returns-then-not-alike
returns-then-not-alike c =
    search equal-nothing

pub returns-then-j-eq0 : goal.returns-then-j-eq0
returns-then-j-eq0 c =
    search (rules, equal-nothing, equal-straight, equal-turned, equal-false, equal-into, equal-tab, equal-none)

pub returns-then-j-n : goal.returns-then-j-n
returns-then-j-n c =
    search (rules, equal-nothing, equal-straight, equal-turned, equal-false, equal-into, equal-tab, equal-none)

pub returns-then-x-ne1 : goal.returns-then-x-ne1
returns-then-x-ne1 c =
    search equal-false

pub returns-then-into-t-ne0 : goal.returns-then-into-t-ne0
returns-then-into-t-ne0 c =
    equal-into _ _ _ _ c.if-j-n.false c.if-x-ne1.false refl c.if-into-t-ne0.true

pub returns-then-tab-t-ne0 : goal.returns-then-tab-t-ne0
returns-then-tab-t-ne0 c =
    equal-tab _ _ _ _ c.if-j-n.false c.if-x-ne1.false refl c.if-tab-t-ne0.true

pub returns : goal.returns
returns c =
    search equal-none
