-- (did action variant object ..) in texts: after whatever lines, when it is refused, what it does, and what it names (document 02, L10).
use Rattle.std.specs.Prelude.{◌≡◌, false, List, ℕ}
use Rattle.refusal.specs.declared.Refusal.{Refusal}
use Rattle.text.specs.declared.Kind.TheVariants as K
use Rattle.text.specs.Line.{Words, GoodLine}
use Rattle.text.specs.Line.Line.{line}
use Rattle.answers.specs.declared.Answer.TheVariants as A
use Rattle.session.specs.Replies.{refusal, reply}
use Rattle.session.specs.Good.{GoodSession}
use Rattle.session_laws.specs.TextRuns.{is_refused}
use Rattle.session_laws.proofs.TextLaws.{text-sound}
use Rattle.text_replays.specs.Claims.{did_bytes, reached, RefusesDid, MayDid, MovesOn, ActionLines, DeclarationsOf, NamesDid}
use Rattle.text_replays.proofs.RefusalLaws.{refuses-did, did-refuses, may-did, did-may}
use Rattle.text_replays.specs.Drawings.{ActionDrawn, DrawingsOf, DidDrawn}
use Rattle.text_replays.proofs.NameLaws.{text-did-names}
use Rattle.text_replays.proofs.DrawnLaws.{text-did-drawn}

module _ (ls : List (List ℕ)) (number : ℕ) (w : Words K.Did) (line-good : GoodLine (line K.Did w)) where
  good : GoodSession (reached ls)
  good = (text-sound ls).good

  -- refused exactly so, in this order
  pub text-refuses : (r : Refusal) → RefusesDid (reached ls) w r → reply (reached ls) number (did_bytes w) ≡ refusal (reached ls) number r
  text-refuses = refuses-did (reached ls) good number w line-good

  pub text-refused : (r : Refusal) (i : ℕ) → (reply (reached ls) number (did_bytes w)).answer ≡ A.Refused r i → RefusesDid (reached ls) w r
  text-refused = did-refuses (reached ls) good number w line-good

  -- and accepted exactly so: it moves the state
  pub text-did : MayDid (reached ls) w → MovesOn (reached ls) w (reply (reached ls) number (did_bytes w))
  text-did = may-did (reached ls) good number w line-good

  pub text-may : is_refused (reply (reached ls) number (did_bytes w)).answer ≡ false → MayDid (reached ls) w
  text-may = did-may (reached ls) good number w line-good

  -- by the action and the variant that the text declares under its names
  pub accepted-names : is_refused (reply (reached ls) number (did_bytes w)).answer ≡ false → (xs : List ActionLines) → DeclarationsOf ls xs → NamesDid ls xs w
  accepted-names e xs d = text-did-names ls xs d w line-good (text-may e).named

  -- and by the weight and the truth diagrams that the lines of these names draw
  pub accepted-drawn : is_refused (reply (reached ls) number (did_bytes w)).answer ≡ false → (xs : List ActionDrawn) → DrawingsOf ls xs → DidDrawn ls xs w
  accepted-drawn e xs d = text-did-drawn ls xs d w line-good (text-may e).named
