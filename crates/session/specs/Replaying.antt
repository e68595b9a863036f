-- (did action variant object ..): its checks in order, and what an accepted one does (document 02, L10).
use Rattle.std.specs.Prelude.{not, List, [], ◌∷◌, ◌++◌, ℕ, zero, suc, length, take, drop, eqb}
use Rattle.refusal.specs.declared.Refusal.TheVariants.{Name, Arity, Range}
use Rattle.refusal.specs.Outcome.{Outcome, ok, and_then}
use Rattle.words.specs.declared.Key.{Key}
use Rattle.names.specs.Keys.{place_of, is_among}
use Rattle.state.specs.Lent.{all_below}
use Rattle.mdp.specs.Model.{Action, Model}
use Rattle.replay.specs.Replay.{Did, Replay, action_of, did}
use Rattle.session.specs.Session.{Names, Live, refuse_if}

-- the names of the variants of action a, where those of all actions stand one behind another
abbrev pub variant_names_from : List Key → List Action → ℕ → List Key
variant_names_from ks [] a = []
variant_names_from ks (x ∷ l) zero = take (length x.variants) ks
variant_names_from ks (x ∷ l) (suc a) = variant_names_from (drop (length x.variants) ks) l a

unfoldable pub variant_names : Names → List Action → ℕ → List Key
variant_names n l a = variant_names_from (n.earlier ++ n.variants) l a

-- the action with the key a, its variant with the key v, and the objects
unfoldable pub did_of : Model → Names → Key → Key → List ℕ → Did
unfolding place_of variant_names
did_of m n a v os = record {
  action = place_of a n.actions;
  variant = place_of v (variant_names n m.actions (place_of a n.actions));
  objects = os;
}

-- the state in hand, with count and total
unfoldable pub replay_in : Live → Replay
replay_in l = record { size = l.objects; constants = l.constants; facts = l.facts; count = l.count; total = l.total }

-- its facts, count and total become those of the replay
unfoldable pub replayed : Live → Replay → Live
replayed l r = record { objects = l.objects; placed = l.placed; constants = l.constants; facts = r.facts; count = r.count; total = r.total }

-- what replay says of the line in the state in hand: 21, 22, 15 and 23, or that state moved
unfoldable pub did_to : Model → Live → Did → Outcome Live
unfolding replay_in replayed did
did_to m l d = and_then (did m (replay_in l) d) (λ r. ok (replayed l r))

-- at the action's word 2, then 3 ('a count of objects other than the action's parameters is 3, found at the action's word'); 2 at the variant; 4 at an object; then 21,
-- 22, 15 and 23
unfoldable pub did_line : Model → Names → Live → Key → Key → List ℕ → Outcome Live
unfolding is_among place_of variant_names did_of did_to
did_line m n l a v os =
    refuse_if (not (is_among a n.actions)) Name
    (refuse_if (not (eqb (length os) (action_of m (did_of m n a v os)).count)) Arity
    (refuse_if (not (is_among v (variant_names n m.actions (place_of a n.actions)))) Name
    (refuse_if (not (all_below l.objects os)) Range
    (did_to m l (did_of m n a v os)))))
