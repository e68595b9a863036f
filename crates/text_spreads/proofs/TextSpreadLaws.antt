-- (count n) in texts: after whatever lines, what it prints, and when it is refused (document 02, L11).
use Rattle.std.specs.Prelude.{◌≡◌, refl, List, ℕ, length}
use Rattle.std.proofs.Common.{sym, ap, subst}
use Rattle.refusal.specs.declared.Refusal.{Refusal}
use Rattle.words.specs.Bytes.{decimal}
use Rattle.text.specs.declared.Kind.TheVariants as K
use Rattle.text.specs.Line.{is_bad, GoodLine}
use Rattle.text.specs.Line.Line.{line}
use Rattle.text.specs.LineForm.{line_kind}
use Rattle.text.specs.LineLaws.{line-sound}
use Rattle.answers.specs.declared.Answer.TheVariants as A
use Rattle.session.specs.declared.Part.TheVariants.{Run}
use Rattle.session.specs.Session.{Session}
use Rattle.session.specs.Running.{entries_in}
use Rattle.session.specs.Replies.{Reply, refusal, reply}
use Rattle.session.specs.Texts.{after_lines, beginning}
use Rattle.session_laws.specs.TextRuns.{RunOf}
use Rattle.session_laws.proofs.PrintLaws.{reply-counts}
use Rattle.session_laws.proofs.TextLaws.{Sound, text-sound, text-run}
use Rattle.text_spreads.specs.Claims.{count_line, MayCount, RefusesCount, Spreads}
use Rattle.text_spreads.proofs.LineLaws.{Settled, all-below}
use Rattle.text_spreads.proofs.RefusalLaws.{refuses-count, count-refuses, may-count, count-may}
use Rattle.text_spreads.proofs.EntryLaws.{entries-spread, states-choices, value-stands}
use Rattle.text_spreads.proofs.SettledLaws.{text-settled}

-- no other bytes are a (count n) line
pub count-only : (s : List ℕ) → line_kind s ≡ K.Count → (w : List ℕ) × GoodLine (line K.Count w) × (s ≡ count_line w)
unfolding is_bad
count-only s e = line-sound s K.Count e refl

module _ (ls : List (List ℕ)) (σ : Session) (q : σ ≡ (after_lines beginning ls).session) (number : ℕ) (w : List ℕ) (good : GoodLine (line K.Count w)) where
  sound : Sound σ
  sound = subst Sound (sym q) (text-sound ls)

  settled : Settled σ
  settled = subst Settled (sym q) (text-settled ls)

  -- refused exactly so, in this order
  pub text-refuses : (r : Refusal) → RefusesCount σ (decimal w) r → reply σ number (count_line w) ≡ refusal σ number r
  text-refuses = refuses-count σ sound.good settled number w good

  pub text-refused : (r : Refusal) (i : ℕ) → (reply σ number (count_line w)).answer ≡ A.Refused r i → RefusesCount σ (decimal w) r
  text-refused = count-refuses σ sound.good settled number w good

  -- and accepted exactly so, with these lines
  pub text-spreads : MayCount σ (decimal w)
      → Spreads σ (decimal w) (entries_in σ.model σ.names σ.live σ.held.diagram (decimal w)) (reply σ number (count_line w))
  text-spreads h =
      let n = decimal w in
      let es = entries_in σ.model σ.names σ.live σ.held.diagram n in
      let e = may-count σ sound.good settled number w good h in
      let a = ap (λ (y : Reply). y.answer) e in
      let c = reply-counts σ sound.good number (count_line w) n (length es) a in
      let run = subst (λ (τ : Session). τ.part ≡ Run → RunOf ls τ) (sym q) (text-run ls) h.run in
      record {
        may = h;
        session = c.session;
        answer = a;
        bytes = c.bytes;
        spread = entries-spread σ n;
        choices = states-choices σ sound.good n;
        values = λ i l. value-stands σ sound.good n h.run h.some (all-below σ settled n h.some h.below) run.values.each i;
      }

  pub text-counted : (n m : ℕ) → (reply σ number (count_line w)).answer ≡ A.Count n m → MayCount σ (decimal w)
  text-counted = count-may σ sound.good settled number w good
