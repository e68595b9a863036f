-- Laws of the checks of a (did ..) line in a session: names, count and objects, in their order.
use mathlib.Core.Path.{◌≡◌}
use mathlib.Core.Bool.{true, false}
use mathlib.Core.List.{List}
use Prim.Native.Nat.{ℕ}
use lib.ListN.{length, get_or}
use borrow.Author.Tests.{eq-eqb, ne_eqb}
use Rattle.refusal.specs.declared.Refusal.TheVariants.{Name, Arity, Range}
use Rattle.refusal.specs.Outcome.{refused}
use Rattle.state.specs.Lent.{all_below}
use Rattle.words.specs.declared.Key.{Key}
use Rattle.names.specs.Keys.{place_of, is_among}
use Rattle.mdp.specs.Model.{Model}
use Rattle.replay.specs.Replay.{no_action}
use Rattle.session.specs.Session.{Names, Live}
use Rattle.session.specs.Replaying.{variant_names, did_of, did_to, did_line}

module _ (m : Model) (n : Names) (l : Live) (k v : Key) (os : List ℕ) where
  pub line-name : is_among k n.actions ≡ false → did_line m n l k v os ≡ refused Name
  unfolding did_line
  line-name e = rw e

  -- the action a is there, with its parameters and the names of its variants
  module _ (e : is_among k n.actions ≡ true) {a : ℕ} (p : a ≡ place_of k n.actions) {c : ℕ} (u : (get_or m.actions a no_action).count ≡ c) {ks : List Key}
      (w : variant_names n m.actions a ≡ ks) where
    pub line-count : (length os ≡ c → ⊥) → did_line m n l k v os ≡ refused Arity
    unfolding did_line did_of
    line-count f = rw (e, ← p, u, ne_eqb (length os) c f)

    module _ (f : length os ≡ c) where
      pub line-variant : is_among v ks ≡ false → did_line m n l k v os ≡ refused Name
      unfolding did_line did_of
      line-variant g = rw (e, ← p, u, eq-eqb (length os) c f, w, g)

      module _ (g : is_among v ks ≡ true) where
        pub line-range : all_below l.objects os ≡ false → did_line m n l k v os ≡ refused Range
        unfolding did_line did_of
        line-range h = rw (e, ← p, u, eq-eqb (length os) c f, w, g, h)

        pub line-found : all_below l.objects os ≡ true → {b : ℕ} → b ≡ place_of v ks → did_line m n l k v os ≡ did_to m l (record { action = a; variant = b; objects = os })
        unfolding did_line did_of
        line-found h {b} q = rw (e, ← p, u, eq-eqb (length os) c f, w, g, h, ← q)
