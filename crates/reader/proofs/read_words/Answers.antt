use Rattle.reader.proofs.WordCode.{words-read}
use Rattle.reader.proofs.read_words.Goals as goal

pub returns : goal.returns
returns c =
    search words-read
