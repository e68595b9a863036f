use native.Mathlib.Omega.{arith}
use Rattle.valuing.proofs.SearchLaws.{giving-start, giving-ready, giving-on, giving-cut, giving-end, go-falls}
use Rattle.valuing.proofs.SearchLaws.{
  going_start,
  going-cut,
  going-value,
  going-leaf,
  going-bind,
  going-labelled,
  going-telling,
  going-term,
  going-free,
  going-falls,
  going_on,
  going_less,
}
use Rattle.valuing.proofs.+bind_go.Goals as goal

pub bind-loop-v-init : goal.bind-loop-v-init
bind-loop-v-init t c = search giving-start

pub bind-returns-then-high-r : goal.bind-returns-then-high-r
bind-returns-then-high-r t c = giving-cut c.loop-v.invariant c.if-high-r.true

pub bind-go-b-requires : goal.bind-go-b-requires
bind-go-b-requires t c =
    (go-falls c.loop-v.invariant c.loop-v-test.true c.decreases, (giving-ready c.loop-v.invariant c.loop-v-test.true, c.requires.r_bound))

pub bind-loop-v-preserved : goal.bind-loop-v-preserved
bind-loop-v-preserved t c = giving-on c.loop-v.invariant c.loop-v-test.true c.go-b.ensures

pub bind-returns : goal.bind-returns
bind-returns t c = giving-end c.loop-v.invariant c.loop-v-test.false

pub go-loop-r-init : goal.go-loop-r-init
go-loop-r-init t c = search going_start

pub go-overflow_add-result : goal.go-overflow_add-result
go-overflow_add-result t c = omega (arith, going-value c.loop-r.invariant c.if-w.true)

pub go-returns-then-w : goal.go-returns-then-w
go-returns-then-w t c = going-leaf c.loop-r.invariant c.loop-r-test.true c.if-w.true

pub go-look_up-requires : goal.go-look_up-requires
go-look_up-requires t c = going-labelled c.loop-r.invariant c.if-w.false

pub go-bind-requires : goal.go-bind-requires
go-bind-requires t c =
    let g = c.loop-r.invariant in
    let nl = c.if-w.false in
    let q = c.look_up.ensures in
    let e = c.in-Free.is in
    (going-falls g nl q e c.decreases, (g.along.ready, (g.along.within, (going-term g nl q e, going-free g nl q e))))

pub go-returns-in-Free : goal.go-returns-in-Free
go-returns-in-Free t c = going-bind c.loop-r.invariant c.bind.ensures

pub go-truth-requires : goal.go-truth-requires
go-truth-requires t c = going-telling c.loop-r.invariant c.if-w.false c.look_up.ensures c.in-Bucket.is

pub go-loop-r-smaller : goal.go-loop-r-smaller
go-loop-r-smaller t c =
    going_less c.loop-r.invariant c.if-w.false c.look_up.ensures c.in-Bucket.is c.truth.ensures c.follow-r.ensures

pub go-loop-r-preserved : goal.go-loop-r-preserved
go-loop-r-preserved t c =
    going_on c.loop-r.invariant c.if-w.false c.look_up.ensures c.in-Bucket.is c.truth.ensures c.follow-r.ensures

pub go-returns : goal.go-returns
go-returns t c = going-cut c.loop-r.invariant c.loop-r-test.false
