-- The round trip through texts: what (text) prints, read as a reward line, is the value diagram again, with the very listing (document 02, L2).
use Rattle.std.specs.Prelude.{◌≡◌, refl, Bool, true, false, ltb}
use Rattle.std.proofs.Common.{sym, ◌∙◌, arith, le-ltb, lt-ltb}
use Rattle.std.proofs.Math.Path.{ap}
use mathlib.Core.List.{List, [], ◌∷◌, ◌++◌}
use Prim.Native.Nat.{ℕ, suc, ◌≤◌, ◌<◌}
use Rattle.refusal.specs.declared.Refusal.TheVariants.{Space}
use Rattle.refusal.specs.Outcome.{Outcome, ok, and_then}
use Rattle.diagram.specs.Diagram.{Diagram}
use Rattle.diagram.specs.Listing.{listing}
use Rattle.forms.specs.Tree as T
use Rattle.text.specs.declared.Kind.{Kind}
use Rattle.text.specs.declared.Kind.TheVariants as K
use Rattle.text.specs.Line.{line_bytes, GoodLine}
use Rattle.text.specs.Line.Line.{line}
use Rattle.text.specs.LineLaws.{line-complete}
use Rattle.events.specs.declared.Event.{Event}
use Rattle.events.specs.Events.{diagram_events}
use Rattle.events.specs.LineEvents.{line-events}
use Rattle.answers.specs.declared.Answer.TheVariants as A
use Rattle.reading.specs.declared.Binding.TheVariants.{Any}
use Rattle.reading.specs.Reading.{Environment, Written}
use Rattle.reading.specs.Numbering.{reward_reading}
use Rattle.build.specs.Machine.{built_closed}
use Rattle.session.specs.declared.Part.{Part}
use Rattle.session.specs.declared.Part.TheVariants.{Model, Run}
use Rattle.session.specs.Place.{rule_of}
use Rattle.session.specs.Session.{Names, Session, refuse_if}
use Rattle.session.specs.ModelLines.{most_model_rows, names_for, rows_with, with_reward, reward_read, reward_line}
use Rattle.session.specs.Running.{tables_in}
use Rattle.session.specs.Replies.{Reply, refusal, silent, allowed, unless, done, at_place, quietly, reply_to, words_of, reply}
use Rattle.session.specs.Good.{GoodSession}
use Rattle.session.specs.Texts.{line_feed, Lines, lines_of, Progress, value_form, reply_bytes, after_line, after_lines, after_rest, beginning, text_read}
use Rattle.session_laws.specs.Inner.{Prints}
use Rattle.session_laws.proofs.CaseLaws.{reply-line}
use Rattle.session_laws.proofs.PrintLaws.{reply-prints}
use Rattle.session_laws.specs.FoldLaws.{read-then}
use Rattle.session_laws.proofs.TextLaws.{Sound, text-sound}
use Rattle.line_trees.proofs.LineFeedLaws.{diagram-whole, line-whole}
use Rattle.diagram_form.specs.Form.{form_tree, is_too_long}
use Rattle.round_trip.specs.RoundTrip.{reward_names}
use Rattle.acceptance.specs.ReadAgain.{ReadAgain}
use Rattle.acceptance.proofs.SessionLaws.{value-accepted}
use Rattle.declared.specs.Declares.{Named}
use Rattle.declared.specs.Inner.{value_line}
use Rattle.declared.specs.RewardAgain.{SameNames, CanTake, reward_with, ReadBack}
use Rattle.declared.proofs.TextLaws.{text-declared}

-- ===== A reward line that stands where it may =====

place-free : (τ : Session) → τ.part ≡ Model → τ.singles.reward ≡ false → allowed τ (rule_of K.Reward τ.part) ≡ ok tt
unfolding allowed
place-free τ p r = ap (λ (q : Part). allowed τ (rule_of K.Reward q)) p ∙ ap unless r

-- the session with the reward that was read, or the refusal met
abbrev rewarded : Session → ℕ → Outcome Diagram → Reply
rewarded τ number o = quietly τ number (λ ρ. ρ) (and_then o (λ d. ok (with_reward τ d)))

-- the words of the line are those of its tree
reward-reply : (τ : Session) (number : ℕ) (t : T.Diagram) → GoodLine (line K.Reward t) → τ.part ≡ Model → τ.singles.reward ≡ false
    → reply τ number (line_bytes (line K.Reward t)) ≡ rewarded τ number (reward_read τ.names τ.model.arities τ.rows (diagram_events t))
unfolding reply_to done reward_line
reward-reply τ number t g p r =
    let bytes = line_bytes (line K.Reward t) in
    reply-line τ number bytes (λ z. omega arith)
    ∙ ap (λ (k : Kind). reply_to τ number k (words_of k bytes)) (line-complete (line K.Reward t) g)
    ∙ ap (λ (es : List Event). reply_to τ number K.Reward es) (line-events K.Reward t g.0)
    ∙ ap (λ (o : Outcome (Unit {0})). at_place τ number o (done τ number K.Reward (diagram_events t))) (place-free τ p r)

-- ===== The form's line =====

-- the diagram d, or 9 where r rows and its own are too many
abbrev roomy : ℕ → Diagram → Outcome Diagram
roomy r d = refuse_if (ltb most_model_rows (rows_with r d)) Space (ok d)

-- words that are read and built
reward-from : (ar : List ℕ) (r : ℕ) (j : Outcome Written) (w : Written) (d : Diagram) → j ≡ ok w → built_closed ar w.operations ≡ ok d
    → and_then j (λ v. and_then (built_closed ar v.operations) (roomy r)) ≡ roomy r d
reward-from ar r j w d e b = rw (e, b)

reward-read : (n : Names) (ar : List ℕ) (r : ℕ) (es : List Event) (w : Written) (d : Diagram) → reward_reading (names_for n ar Any []) es ≡ ok w
    → built_closed ar w.operations ≡ ok d → reward_read n ar r es ≡ roomy r d
unfolding reward_read
reward-read n ar r es w d = reward-from ar r (reward_reading (names_for n ar Any []) es) w d

-- a session whose names are declared, after (start), where 19 is not given
module _ (σ : Session) (good : GoodSession σ) (named : Named σ) (run : σ.part ≡ Run) (short : is_too_long σ.model.arities (tables_in σ.names) σ.held.diagram ≡ false) where
  tree : T.Diagram
  tree = form_tree σ.model.arities (tables_in σ.names) σ.held.diagram

  again : ReadAgain σ.model.arities (tables_in σ.names) σ.held.diagram
  again = value-accepted σ (tables_in σ.names) named.declared named.keys good run named.covers short

  pub well-formed : GoodLine (value_line σ)
  well-formed = again.trip.well-formed

  -- 'on one line'
  pub form-one-line : lines_of (value_form σ ++ line_feed ∷ []) ≡ record { whole = value_form σ ∷ []; rest = [] }
  unfolding tree value_form lines_of
  form-one-line = diagram-whole tree again.trip.well-formed.0 []

  module _ (τ : Session) (can : SameNames σ τ) where
    -- 'under the same constants and predicates declared in the same order'
    names_same : names_for τ.names τ.model.arities Any [] ≡ reward_names σ.model.arities (tables_in σ.names)
    names_same =
        let c = can.constants ∙ named.keys.constants in
        let p = can.predicates ∙ named.keys.predicates in
        λ i. record { constants = c i; predicates = p i; arities = can.arities i; parameters = []; binding = Any }

    words-read : reward_reading (names_for τ.names τ.model.arities Any []) (diagram_events tree) ≡ ok again.trip.words
    unfolding tree
    words-read = ap (λ (ν : Environment). reward_reading ν (diagram_events tree)) names_same ∙ again.trip.accepted

    -- the line is answered by nothing, and the diagram is the reward, unless its rows find no room
    answered : (number : ℕ) → reply τ number (line_bytes (value_line σ)) ≡ rewarded τ number (roomy τ.rows σ.held.diagram)
    unfolding tree
    answered number =
        reward-reply τ number tree again.trip.well-formed can.part can.reward
        ∙ ap (rewarded τ number) (reward-read τ.names τ.model.arities τ.rows (diagram_events tree) again.trip.words σ.held.diagram words-read
        (ap (λ (ar : List ℕ). built_closed ar again.trip.words.operations) can.arities ∙ again.built))

    roomy-reply : (number : ℕ) (b : Bool) → ltb most_model_rows (rows_with τ.rows σ.held.diagram) ≡ b
        → reply τ number (line_bytes (value_line σ)) ≡ rewarded τ number (refuse_if b Space (ok σ.held.diagram))
    roomy-reply number b e = answered number ∙ ap (λ (x : Bool). rewarded τ number (refuse_if x Space (ok σ.held.diagram))) e

    pub session-round-trip : rows_with τ.rows σ.held.diagram ≤ most_model_rows → (number : ℕ)
        → reply τ number (line_bytes (value_line σ)) ≡ silent (with_reward τ σ.held.diagram)
    session-round-trip room number = roomy-reply number false (le-ltb most_model_rows (rows_with τ.rows σ.held.diagram) room)

    pub session-no-room : most_model_rows < rows_with τ.rows σ.held.diagram → (number : ℕ)
        → reply τ number (line_bytes (value_line σ)) ≡ refusal τ number Space
    session-no-room many number = roomy-reply number true (lt-ltb most_model_rows (rows_with τ.rows σ.held.diagram) many)

-- the reward line made of the form that (text) prints is the line of the value diagram
made-of-form : (σ : Session) → line_bytes (value_line σ) ≡ reward_with (value_form σ)
unfolding value_form
made-of-form σ = refl

-- ===== Texts =====

rest-sound : (p : Progress) (s : List ℕ) → Sound p.session → Sound (after_rest p s).session
unfolding after_rest
rest-sound p [] h = h
rest-sound p (b ∷ s) h = h

read-sound : (s : List ℕ) → Sound (text_read s).session
unfolding text_read
read-sound s = rest-sound (after_lines beginning (lines_of s).whole) (lines_of s).rest (text-sound (lines_of s).whole)

-- what any text leads to, and a line there that is answered by a form
module _ (s : List ℕ) (i : ℕ) (l : List ℕ) (n : ℕ) (e : (reply (text_read s).session i l).answer ≡ A.Text n) where
  σ : Session
  σ = (text_read s).session

  -- it is an accepted (text)
  printing : Prints (text_read s).session n (reply (text_read s).session i l)
  printing = reply-prints (text_read s).session i l n e

  -- what it prints, in a reward line of a session that can take it, is read as the very diagram, with the very listing
  pub text-reads-back : (τ : Session) → CanTake (text_read s).session τ → (j : ℕ)
      → ReadBack (text_read s).session τ j (reply_bytes (reply (text_read s).session i l))
  unfolding σ with_reward
  text-reads-back τ can j =
      let good = (read-sound s).good in
      let named = text-declared s in
      let read : reply τ j (reward_with (value_form σ)) ≡ silent (with_reward τ σ.held.diagram) =
      ap (reply τ j) (sym (made-of-form σ)) ∙ session-round-trip σ good named printing.run printing.fits τ can.same can.room j in
      record {
        form = value_form σ;
        prints = printing.bytes;
        one_line = ap lines_of printing.bytes ∙ form-one-line σ good named printing.run printing.fits;
        reads = read;
        same = ap (λ (y : Reply). listing y.session.model.reward) read;
      }

  -- without room for its rows the reward line is 9
  pub text-no-room : (τ : Session) → SameNames (text_read s).session τ → most_model_rows < rows_with τ.rows (text_read s).session.held.diagram → (j : ℕ)
      → reply τ j (reward_with (value_form (text_read s).session)) ≡ refusal τ j Space
  unfolding σ
  text-no-room τ same many j =
      ap (reply τ j) (sym (made-of-form σ)) ∙ session-no-room σ (read-sound s).good (text-declared s) printing.run printing.fits τ same many j

  -- so a text that can take it, with the reward line behind it, leads to the very diagram as its reward
  pub text-again : (t : List ℕ) → (lines_of t).rest ≡ [] → CanTake (text_read s).session (text_read t).session
      → (text_read (t ++ (reward_with (value_form (text_read s).session) ++ line_feed ∷ []))).session ≡ with_reward (text_read t).session (text_read s).session.held.diagram
  unfolding σ lines_of after_rest after_lines after_line value_form
  text-again t whole can =
      let good = (read-sound s).good in
      let named = text-declared s in
      let u : List ℕ = reward_with (value_form σ) ++ line_feed ∷ [] in
      let one : lines_of u ≡ record { whole = reward_with (value_form σ) ∷ []; rest = [] } = line-whole (value_line σ) (well-formed σ good named printing.run printing.fits) [] in
      ap (λ (p : Progress). p.session) (read-then t u whole)
      ∙ ap (λ (ls : Lines). (after_rest (after_lines (text_read t) ls.whole) ls.rest).session) one
      ∙ ap (λ (y : Reply). y.session) (session-round-trip σ good named printing.run printing.fits (text_read t).session can.same can.room (suc (text_read t).lines))
