use Rattle.reader.proofs.PassCode.{ask-packs, ask-waits, ask-truth, ask-label}
use Rattle.reader.proofs.ask.Goals as goal

pub returns-then-pass-ne0 : goal.returns-then-pass-ne0
returns-then-pass-ne0 c =
    search ask-waits

pub test-requires : goal.test-requires
test-requires c =
    ask-packs _ _ c.requires c.unpack.ensures

pub returns-in-Always : goal.returns-in-Always
returns-in-Always c =
    search ask-truth

pub returns-in-Is : goal.returns-in-Is
returns-in-Is c =
    search ask-label
