use Rattle.combination.proofs.SharedLaws.{shared-pairable, shared-holds, shared-in}
use native.Mathlib.Omega.{arith}
use lib.Dec.{lit≤}
use Rattle.combination.proofs.shared_with.Goals as goal

pub returns : goal.returns
returns g c =
    shared-in _ _ _ _ _ _ c.requires.operands c.join_listings.ensures

pub join_listings-requires : goal.join_listings-requires
join_listings-requires g c = record {
  pairable = shared-pairable _ _ 4096 _ c.requires.operands.first c.requires.operands.second c.requires.room (lit≤ tt) (omega arith);
  holds = shared-holds _ 2048 2048 c.requires.operands.room (lit≤ tt) (lit≤ tt);
}

pub whole_as_slice-join_listings : goal.whole_as_slice-join_listings
whole_as_slice-join_listings g c =
    omega arith
