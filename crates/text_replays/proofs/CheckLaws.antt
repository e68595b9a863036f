-- Names and counts that pass name an action of the model and a variant of it, with an object of the state for each parameter (document 02, L10).
use Rattle.std.specs.Prelude.{◌≡◌, List, [], ◌∷◌, ◌++◌, ℕ, zero, suc, ◌+◌, ◌<◌, length, get_or, drop}
use Rattle.std.proofs.Math.Path.{subst}
use Rattle.std.proofs.Common.{◌∙◌, arith, length-append, length-drop, length-take-le}
use borrow.Author.Tests.{ltb-true}
use Rattle.state.specs.Max.{Tuple, sum_of}
use Rattle.mdp.specs.Model.{Action}
use Rattle.replay.specs.Replay.{no_action, action_of}
use Rattle.replay.specs.Along.{Checked}
use Rattle.words.specs.declared.Key.{Key}
use Rattle.names.specs.Keys.{is_among}
use Rattle.text.specs.declared.Kind.TheVariants as K
use Rattle.text.specs.Line.{Words}
use Rattle.session.specs.Session.{Session}
use Rattle.session.specs.Replaying.{variant_names_from, variant_names, did_of}
use Rattle.session.specs.Good.{variant_count, GoodSession}
use Rattle.text_replays.specs.Claims.{did_in, NamesPass}
use Rattle.text_replays.proofs.ObjectLaws.{objects-tuple}

-- as many names as the action has variants
from-length : (l : List Action) (ks : List Key) (a : ℕ) → length ks ≡ sum_of l (λ x. length x.variants) → a < length l
    → length (variant_names_from ks l a) ≡ length (get_or l a no_action).variants
unfolding sum_of
from-length [] ks a e h = absurd (omega arith)
from-length (x ∷ l) ks zero e h = length-take-le (length x.variants) ks (omega arith)
from-length (x ∷ l) ks (suc a) e h = from-length l (drop (length x.variants) ks) a (length-drop (length x.variants) ks ∙ omega arith) (omega arith)

module _ (σ : Session) (g : GoodSession σ) (w : Words K.Did) (n : NamesPass σ w) where
  action-there : (did_in σ w).action < length σ.model.actions
  unfolding did_of is_among
  action-there = let h = ltb-true (did_in σ w).action (length σ.names.actions) n.action in omega (arith, g.agreeing.count)

  names-are : length (variant_names σ.names σ.model.actions (did_in σ w).action) ≡ length (action_of σ.model (did_in σ w)).variants
  unfolding variant_names variant_count
  names-are =
      from-length σ.model.actions (σ.names.earlier ++ σ.names.variants) (did_in σ w).action
      (length-append σ.names.earlier σ.names.variants ∙ g.agreeing.all) action-there

  pub named-checked : Checked σ.model σ.live.objects (did_in σ w)
  unfolding did_of is_among
  named-checked = record {
    action = action-there;
    variant =
        let h = ltb-true (did_in σ w).variant (length (variant_names σ.names σ.model.actions (did_in σ w).action)) n.variant in
        omega (arith, names-are);
    objects = subst (λ (c : ℕ). Tuple σ.live.objects c (did_in σ w).objects) n.count (objects-tuple σ.live.objects g.most w.2 n.objects);
  }
