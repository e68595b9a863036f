-- What contracts of inner functions and proofs cite. Nothing here has to be believed.
use Rattle.std.specs.Prelude.{◌≡◌, List, ℕ, length, take}
use Rattle.refusal.specs.Outcome.{ok}
use Rattle.text.specs.declared.Kind.{Kind}
use Rattle.text.specs.Line.{Words, GoodLine, line_bytes}
use Rattle.text.specs.Line.Line.{line}
use Rattle.session.specs.declared.Part.TheVariants.{Model}
use Rattle.session.specs.Place.{rule_of}
use Rattle.session.specs.Replies.{Reply, allowed, done, words_of, reply}
use Rattle.session.specs.Texts.{table_of}
use Rattle.session.specs.Good.{GoodSession}
use Rattle.facts.specs.declared.Live.{Live}
use Rattle.facts.specs.Inner.{FactIndex}
use Rattle.model_entry.specs.Inner.{KeepsStarts}
use Rattle.memory.specs.declared.Numbers.{Numbers}
use Rattle.memory.specs.declared.Said.{Said}
use Rattle.memory.specs.Memory.{Memory, session_of, Stored}

-- the bytes s are a line of the kind k
pub record LineOf (k : Kind) (s : List ℕ) : Type 0 where
  pub words : Words k
  pub good : GoodLine (line k words)
  pub bytes : s ≡ line_bytes (line k words)

-- what the function of a line of the kind k may rely on: the words are a session's, and the line stands where it may
pub record Ready (k : Kind) (s : List ℕ) (n : Numbers) (w : Memory) : Type 0 where
  pub line : LineOf k s
  pub stored : Stored n w
  pub good : GoodSession (session_of n w)
  pub indexed : FactIndex w.arities w.state n.live
  pub place : allowed (session_of n w) (rule_of k n.part) ≡ ok tt

-- what a line carries over beside the session: where listings begin; before the run, to which no line leads back, the numbers of the value, which is none yet
pub record Carried (n : Numbers) (w : Memory) (n' : Numbers) (w' : Memory) : Type 0 where
  pub starts : KeepsStarts w.table n.head w'.table n'.head
  pub idle : n'.part ≡ Model → (n.part ≡ Model) × (n'.held ≡ n.held)

-- what it promises: the answer, the session behind it, and what is carried over
pub record Answers (k : Kind) (s : List ℕ) (number : ℕ) (n : Numbers) (w : Memory) (r : Said) (w' : Memory) : Type 0 where
  pub answer : r.answer ≡ (done (session_of n w) number k (words_of k s)).answer
  pub session : session_of r.numbers w' ≡ (done (session_of n w) number k (words_of k s)).session
  pub stored : Stored r.numbers w'
  pub indexed : FactIndex w'.arities w'.state r.numbers.live
  pub carried : Carried n w r.numbers w'

-- numbers and words that are a session's (Memory `IsSession`), with the index of its facts, from line to line
pub record Kept (n : Numbers) (w : Memory) : Type 0 where
  pub stored : Stored n w
  pub good : GoodSession (session_of n w)
  pub indexed : FactIndex w.arities w.state n.live

-- the words that the answer of a reply shows stand in front of the working space: those of a spread for (count n), none for every other line
-- (document 02, L11)
abbrev pub Shown : Reply → List ℕ → Type 0
Shown r work = take (length (table_of r.session r.answer)) work ≡ table_of r.session r.answer

-- what the function of any line promises; `work'` is the working space behind the line
pub record Replied (s : List ℕ) (number : ℕ) (n : Numbers) (w : Memory) (r : Said) (w' : Memory) (work' : List ℕ) : Type 0 where
  pub answer : r.answer ≡ (reply (session_of n w) number s).answer
  pub session : session_of r.numbers w' ≡ (reply (session_of n w) number s).session
  pub kept : Kept r.numbers w'
  pub shown : Shown (reply (session_of n w) number s) work'
  pub carried : Carried n w r.numbers w'

-- the numbers with another state
abbrev pub with_state : Numbers → Live → Numbers
with_state n l = record {
  part = n.part;
  total = n.total;
  discount = n.discount;
  reward = n.reward;
  counts = n.counts;
  head = n.head;
  live = l;
  held = n.held;
}
