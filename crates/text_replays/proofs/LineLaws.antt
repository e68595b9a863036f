-- The reply to (did action variant object ..) by its place, and what it reads by its names, counts and objects (document 02, L10).
use Rattle.std.specs.Prelude.{◌≡◌, Bool, true, false, not, ℕ, length, eqb}
use Rattle.std.proofs.Math.Path.{refl, ap}
use Rattle.std.proofs.Common.{◌∙◌}
use mathlib.Core.List.{List, map}
use Rattle.refusal.specs.declared.Refusal.TheVariants as F
use Rattle.refusal.specs.Outcome.{Outcome, ok, refused}
use Rattle.state.specs.Lent.{all_below}
use Rattle.replay.specs.Replay.{Did}
use Rattle.words.specs.Bytes.{value_of}
use Rattle.words.specs.Keys.{key_of}
use Rattle.text.specs.declared.Kind.{Kind}
use Rattle.text.specs.declared.Kind.TheVariants as K
use Rattle.text.specs.Line.{is_bad, Words, GoodLine}
use Rattle.text.specs.Line.Line.{line}
use Rattle.text.specs.LineForm.{line_kind}
use Rattle.text.specs.LineLaws.{line-complete, line-sound}
use Rattle.events.specs.LineEvents.{line-events}
use Rattle.session.specs.declared.Part.{Part}
use Rattle.session.specs.declared.Part.TheVariants.{Model as ModelPart, Run}
use Rattle.session.specs.Place.{rule_of}
use Rattle.session.specs.Session.{Live, Session, refuse_if}
use Rattle.session.specs.Replaying.{did_of, did_to, did_line}
use Rattle.session.specs.Replies.{is_placed, unless, allowed, refusal, did_says, done, at_place, reply_to, words_of, reply}
use Rattle.text_replays.specs.Claims.{did_bytes, Stands, has_action, action_parameters, has_variant}
use Rattle.text_replays.proofs.ObjectLaws.{numbers-held}

-- ===== The line =====

-- no other bytes are a (did ..) line
pub did-only : (s : List ℕ) → line_kind s ≡ K.Did → (w : Words K.Did) × GoodLine (line K.Did w) × (s ≡ did_bytes w)
unfolding is_bad
did-only s e = line-sound s K.Did e refl

pub did-kind : (w : Words K.Did) → GoodLine (line K.Did w) → line_kind (did_bytes w) ≡ K.Did
did-kind w good = line-complete (line K.Did w) good

-- what is read of the words w: the objects as they are held
abbrev pub read_of : Session → Words K.Did → Outcome Live
read_of σ w = did_line σ.model σ.names σ.live (key_of w.0) (key_of w.1) (map value_of w.2)

-- ===== Its place =====

module _ (σ : Session) (number : ℕ) (w : Words K.Did) (good : GoodLine (line K.Did w)) where
  did-reply : reply σ number (did_bytes w) ≡ at_place σ number (allowed σ (rule_of K.Did σ.part)) (did_says σ number (read_of σ w))
  unfolding reply reply_to done
  did-reply =
      ap (λ (k : Kind). reply_to σ number k (words_of k (did_bytes w))) (did-kind w good)
      ∙ ap (reply_to σ number K.Did) (line-events K.Did w good.0)
      ∙ ap (λ (os : List ℕ). at_place σ number (allowed σ (rule_of K.Did σ.part)) (did_says σ number (did_line σ.model σ.names σ.live (key_of w.0) (key_of w.1) os)))
      (numbers-held w.2)

  did_at : (o : Outcome (Unit {0})) → allowed σ (rule_of K.Did σ.part) ≡ o → reply σ number (did_bytes w) ≡ at_place σ number o (did_says σ number (read_of σ w))
  did_at o e = did-reply ∙ ap (λ (u : Outcome (Unit {0})). at_place σ number u (did_says σ number (read_of σ w))) e

  pub model-refused : σ.part ≡ ModelPart → reply σ number (did_bytes w) ≡ refusal σ number F.Place
  unfolding allowed
  model-refused p = did_at (refused F.Place) (ap (λ (q : Part). allowed σ (rule_of K.Did q)) p)

  allowed-run : (b : Bool) → σ.part ≡ Run → is_placed σ ≡ b → allowed σ (rule_of K.Did σ.part) ≡ unless (not b)
  unfolding allowed
  allowed-run b p e = ap (λ (q : Part). allowed σ (rule_of K.Did q)) p ∙ ap (λ (c : Bool). unless (not c)) e

  pub unplaced-refused : σ.part ≡ Run → is_placed σ ≡ false → reply σ number (did_bytes w) ≡ refusal σ number F.Place
  unplaced-refused p e = did_at (refused F.Place) (allowed-run false p e)

  pub stands-said : Stands σ → reply σ number (did_bytes w) ≡ did_says σ number (read_of σ w)
  stands-said h = did_at (ok tt) (allowed-run true h.run h.placed)

-- ===== What is read, by its checks =====

abbrev checks : Bool → Bool → Bool → Bool → Outcome Live → Outcome Live
checks a b c d o = refuse_if (not a) F.Name (refuse_if (not b) F.Arity (refuse_if (not c) F.Name (refuse_if (not d) F.Range o)))

-- what replay says of the objects os
abbrev pub moved_to : Session → Words K.Did → List ℕ → Outcome Live
moved_to σ w os = did_to σ.model σ.live (did_of σ.model σ.names (key_of w.0) (key_of w.1) os)

module _ (σ : Session) (w : Words K.Did) where
  abbrev has_count : Bool
  has_count = eqb (length (map value_of w.2)) (action_parameters σ w)

  abbrev has_objects : Bool
  has_objects = all_below σ.live.objects (map value_of w.2)

  read-checks : read_of σ w ≡ checks (has_action σ w) has_count (has_variant σ w) has_objects (moved_to σ w (map value_of w.2))
  unfolding did_line did_of
  read-checks = refl

  pub read_by : (a b c d : Bool) → has_action σ w ≡ a → has_count ≡ b → has_variant σ w ≡ c → has_objects ≡ d
      → read_of σ w ≡ checks a b c d (moved_to σ w (map value_of w.2))
  read_by a b c d p q u v = read-checks ∙ rw (p, q, u, v)
