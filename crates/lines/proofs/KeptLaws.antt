-- A session that is kept in lent words: its facts are whole rows, and every line keeps it good.
use mathlib.Core.List.{List}
use Prim.Native.Nat.{ℕ, ◌*◌}
use native.Mathlib.Omega.{arith}
use lib.ListN.{drop, length-take, length-drop}
use Rattle.state.specs.Lent.{fact_words}
use Rattle.facts.specs.declared.Live.{Live}
use Rattle.facts.specs.Words.{facts_base, live_of, GoodLive}
use Rattle.session.specs.Replies.{reply}
use Rattle.session.specs.Good.{GoodSession}
use Rattle.memory.specs.declared.Numbers.{Numbers}
use Rattle.memory.specs.Inner.{Kept}
use Rattle.memory.specs.Memory.{Memory, session_of, Stored}
use Rattle.session_laws.proofs.FactLaws.{WholeRows}
use Rattle.session_laws.proofs.ReplyLaws.{reply-good}

live-whole : (s : List ℕ) (l : Live) → GoodLive s l → WholeRows (live_of s l).facts
unfolding live_of
live-whole s l g =
    let f = g.facts in
    let r = g.room in
    omega (arith, length-take (l.facts * fact_words) (drop facts_base s), length-drop facts_base s)

stored-whole : (n : Numbers) (w : Memory) → Stored n w → WholeRows (session_of n w).live.facts
unfolding session_of
stored-whole n w h = live-whole w.state n.live h.live

pub kept-good : (n : Numbers) (w : Memory) → Kept n w → (number : ℕ) (s : List ℕ) → GoodSession (reply (session_of n w) number s).session
kept-good n w k number s = reply-good (session_of n w) k.good (stored-whole n w k.stored) number s
