-- L10's theorem for texts: after every list of lines begun at count 0, count, state and total are what document 02 says, and are printed so.
use Rattle.std.specs.Prelude.{◌≡◌, refl, true, false}
use Rattle.std.proofs.Math.Path.{sym, ap, ap₂, subst}
use Rattle.std.proofs.Common.{◌∙◌}
use mathlib.Core.List.{List, [], ◌∷◌, ◌++◌, append-nil, append_assoc}
use Prim.Native.Nat.{ℕ, suc, ◌≤◌, ◌<◌}
use native.Mathlib.Omega.{arith}
use Rattle.std.proofs.Math.ListN.{length}
use Rattle.basics.specs.Tests.{Cmp, below, equal, above, cmp}
use Rattle.basics.specs.Members.{clash}
use Rattle.state.specs.State.{State, Good}
use Rattle.state.specs.Lent.{state_of}
use Rattle.elimination.proofs.AnswerLaws.{lent-good}
use Rattle.mdp.specs.Model.{Model, GoodModel}
use Rattle.replay.specs.Replay.{Did, Replay, in_hand as hand_of, begun, replay, accepted_of}
use Rattle.replay.specs.Along.{state_behind, rewards_along, Comes}
use Rattle.replay.proofs.AlikeLaws.{alike_same}
use Rattle.replay.proofs.ReplayLaws.{replay-is}
use Rattle.text.specs.declared.Kind.{Kind}
use Rattle.text.specs.declared.Kind.TheVariants as K
use Rattle.text.specs.Line.{Words, GoodLine}
use Rattle.text.specs.Line.Line.{line}
use Rattle.text.specs.LineForm.{line_kind}
use Rattle.answers.specs.Answers.{did_head, field, line_end}
use Rattle.session.specs.declared.Part.{Part}
use Rattle.session.specs.declared.Part.TheVariants.{Model as ModelPart, Run}
use Rattle.session.specs.Session.{Live, Session, opening}
use Rattle.session.specs.Running.{state_in}
use Rattle.session.specs.Replaying.{replay_in}
use Rattle.session.specs.Replies.{Reply, is_placed, reply}
use Rattle.session.specs.Texts.{after_lines, beginning, reply_bytes}
use Rattle.session.specs.Good.{GoodSession}
use Rattle.session_laws.specs.TextReplies.{replies}
use Rattle.session_laws.specs.Inner.{moves_state}
use Rattle.session_laws.specs.TextRuns.{is_refused}
use Rattle.session_laws.specs.FoldLaws.{replies-count}
use Rattle.session_laws.proofs.KeepLaws.{Keeps, line-keeps, Kept, lines_keep}
use Rattle.session_laws.proofs.TextLaws.{text-sound}
use Rattle.text_moves.specs.Claims.{in_hand}
use Rattle.text_replays.specs.Inner.{Begins, did_prints}
use Rattle.text_replays.specs.Claims.{did_bytes, reached, replies_after, AcceptedAs, did_in, Undisturbed, Logs, state_before, LogOf, Replays}
use Rattle.text_replays.proofs.LineLaws.{did-kind}
use Rattle.text_replays.proofs.RefusalLaws.{may-did, did-may}
use Rattle.text_replays.proofs.KeepLaws.{StateEffect, stays, clears, places, tells, does, effect}
use Rattle.text_replays.proofs.FoldLaws.{behind-both, behind-line, replies-are, replies-line, text-goods}
use Rattle.text_replays.proofs.BeginLaws.{did-stands, text-placed}
use Rattle.text_replays.proofs.FollowLaws.{logs-are, same-logs, more-logs, Followed, follow, still}

-- begun at count 0: count and total are 0
begun-is : (l : Live) → l.count ≡ 0 → l.total ≡ 0 → replay_in l ≡ begun l.objects l.constants l.facts
unfolding replay_in begun
begun-is l c t = λ i. record { size = l.objects; constants = l.constants; facts = l.facts; count = c i; total = t i }

module _ (before log : List (List ℕ)) where
  -- there is such a list of accepted lines, behind any lines
  pub text-logs : (ds : List Did) × LogOf before log ds
  text-logs =
      let x = logs-are (after_lines beginning before) log (reached (before ++ log)) in
      (x.0, subst (λ (ys : List Reply). Logs (reached (before ++ log)) log ys x.0) (replies-are before log) x.1)

  -- in the run names and model stay
  kept : (reached before).part ≡ Run → Kept (reached before) log (reached (before ++ log))
  kept p = subst (Kept (reached before) log) (sym (behind-both before log)) (lines_keep (after_lines beginning before) p log)

  -- and it begins with the state in hand behind `before`
  pub state-before : (reached before).part ≡ Run → state_before before log ≡ in_hand (reached before)
  state-before p = ap (λ (m : Model). state_in m.arities (reached before).live) (kept p).model

module _ (before log : List (List ℕ)) (count : (reached before).live.count ≡ 0) (u : Undisturbed log (replies_after before log)) (ds : List Did) (logged : LogOf before log ds) where
  abbrev σ : Session
  σ = reached before

  abbrev τ : Session
  τ = reached (before ++ log)

  good : GoodSession σ
  good = (text-sound before).good

  total : σ.live.total ≡ 0
  total = good.log.none count

  -- the same as they are numbered from a progress on
  undisturbed : Undisturbed log (replies σ (after_lines beginning before).lines log)
  undisturbed = subst (Undisturbed log) (sym (replies-are before log)) u

  logs : Logs τ log (replies σ (after_lines beginning before).lines log) ds
  logs = subst (λ (ys : List Reply). Logs τ log ys ds) (sym (replies-are before log)) logged

  in-run : Followed τ.model σ.live ds τ.live → 1 ≤ σ.live.objects → σ.part ≡ Run → Replays before log ds
  unfolding state_in
  in-run f h p =
      let l = σ.live in
      let m = τ.model in
      let b = begun-is l count total in
      let s : State = state_of m.arities l.objects l.constants l.facts in
      let same = (kept before log p).model in
      let gm = subst GoodModel (sym same) (good.begun p).good in
      let lent = subst (λ (x : Model). Good (state_of x.arities l.objects l.constants l.facts)) (sym same)
      (lent-good σ.model.arities l.objects l.constants l.facts (good.state h)) in
      let c = replay-is m gm l.objects l.constants l.facts lent ds f.checked in
      subst (Comes m s ds) (ap (λ (r : Replay). replay m r ds) (sym b) ∙ f.left)
      (subst (λ (es : List Did). Comes m s es (replay m (begun l.objects l.constants l.facts) ds)) (ap (λ (r : Replay). accepted_of m r ds) (sym b) ∙ f.taken) c)

  quiet : ds ≡ [] → τ.live ≡ σ.live → Replays before log ds
  unfolding state_in hand_of replay_in state_behind
  quiet d e = subst (Replays before log) (sym d) (record {
    count = ap (λ (l : Live). l.count) e ∙ count;
    state = alike_same τ.model.arities _ _ (ap (λ (l : Live). state_of τ.model.arities l.objects l.constants l.facts) e);
    total = λ h. absurd (omega arith);
    none = λ h. ap (λ (l : Live). l.total) e ∙ total;
  })

  -- 'After every list of such lines begun at count 0, with at least one accepted, count is how many were, the state is the one that their truth diagrams give in that
  -- order, and total is the sum of rewards along it'
  pub text-replays : Replays before log ds
  text-replays = by-objects (cmp σ.live.objects 0)
    where
      by_part : 1 ≤ σ.live.objects → (q : Part) → σ.part ≡ q → Replays before log ds
      by_part h ModelPart p = let z = good.quiet p in absurd (omega arith)
      by_part h Run p =
          let same = kept before log p in
          let f = follow (after_lines beginning before) (text-goods before) p log undisturbed τ same.model same.names ds logs in
          in-run (subst (λ (ρ : Session). Followed τ.model σ.live ds ρ.live) (sym (behind-both before log)) f) h p

      by-objects : Cmp σ.live.objects 0 → Replays before log ds
      by-objects (below h) = absurd (omega arith)
      by-objects (equal h) =
          let x = still (after_lines beginning before) h log undisturbed τ ds logs in
          quiet x.0 (ap (λ (ρ : Session). ρ.live) (behind-both before log) ∙ x.1)
      by-objects (above h) = by_part h σ.part refl

-- ===== What is printed =====

undisturbed-more : (ls : List (List ℕ)) (ys : List Reply) → length ys ≡ length ls → Undisturbed ls ys → (s : List ℕ) (y : Reply) → Undisturbed (s ∷ []) (y ∷ [])
    → Undisturbed (ls ++ (s ∷ [])) (ys ++ (y ∷ []))
undisturbed-more [] [] e u s y h = h
undisturbed-more [] (z ∷ ys) e u s y h = absurd (omega arith)
undisturbed-more (t ∷ ls) [] e u s y h = absurd (omega arith)
undisturbed-more (t ∷ ls) (z ∷ ys) e u s y h = (u.0, u.1, u.2, undisturbed-more ls ys (omega arith) u.3 s y h)

-- a line more
log-more : (before log : List (List ℕ)) → Undisturbed log (replies_after before log)
    → (s : List ℕ) → Undisturbed (s ∷ []) (reply (reached (before ++ log)) (suc (length (before ++ log))) s ∷ [])
    → Undisturbed (log ++ (s ∷ [])) (replies_after before (log ++ (s ∷ [])))
log-more before log u s h = rw (replies-line before log s)
    (undisturbed-more log (replies_after before log) (replies-count (reached before) (length before) log) u s
    (reply (reached (before ++ log)) (suc (length (before ++ log))) s) h)

module _ (before log : List (List ℕ)) (begins : (reached before).live.count ≡ 0) (u : Undisturbed log (replies_after before log)) (ds : List Did) (logged : LogOf before log ds)
    (w : Words K.Did) (good : GoodLine (line K.Did w)) where
  abbrev here : Session
  here = reached (before ++ log)

  abbrev number : ℕ
  number = suc (length (before ++ log))

  abbrev answered : Reply
  answered = reply here number (did_bytes w)

  -- the lines with this one, and what it names
  abbrev longer : List (List ℕ)
  longer = log ++ (did_bytes w ∷ [])

  abbrev more : List Did
  more = ds ++ (did_in here w ∷ [])

  there : reached (before ++ longer) ≡ answered.session
  there = ap reached (sym (append_assoc before log (did_bytes w ∷ []))) ∙ behind-line (before ++ log) (did_bytes w)

  none-else : (k : Kind) → (K.Did ≡ k → ⊥) → AcceptedAs k (did_bytes w) answered → ⊥
  none-else k n a = n (sym (did-kind w good) ∙ a.0)

  longer-undisturbed : Undisturbed longer (replies_after before longer)
  longer-undisturbed = log-more before log u (did_bytes w) (
    none-else K.Objects (λ e. let z : ◌≡◌ {A = ℕ} 0 1 = cc in omega arith),
    none-else K.Is (λ e. let z : ◌≡◌ {A = ℕ} 0 1 = cc in omega arith),
    none-else K.True (λ e. let z : ◌≡◌ {A = ℕ} 0 1 = cc in omega arith),
    tt,
  )

  module _ (f : is_refused answered.answer ≡ false) where
    -- it stands in the run, so that names and model stay
    stays_on : Keeps here (line_kind (did_bytes w)) (reached (before ++ longer))
    stays_on = subst (Keeps here (line_kind (did_bytes w))) (sym there) (line-keeps here (did-stands here number (did_bytes w) (did-kind w good, f)).run number (did_bytes w))

    longer-logged : LogOf before longer more
    longer-logged =
        same-logs here (reached (before ++ longer)) stays_on.model stays_on.names
        (subst (λ (ys : List Reply). Logs here longer ys more) (sym (replies-line before log (did_bytes w))) (more-logs here logged w good answered f))

    -- 'prints (did count total)': of the accepted lines up to this one, how many they are and the sum of rewards along them
    pub text-prints : reply_bytes answered ≡ did_prints here (state_before before log) more
    unfolding replay_in
    text-prints =
        let g = (text-sound (before ++ log)).good in
        let m = may-did here g number w good (did-may here g number w good f) in
        let c = text-replays before longer begins longer-undisturbed more longer-logged in
        let l = ap (λ (ρ : Session). ρ.live) there in
        let count : suc here.live.count ≡ length more = sym m.count ∙ ap (λ (x : Live). x.count) (sym l) ∙ c.count in
        let some : 0 < length more = omega arith in
        let total = sym m.total ∙ ap (λ (x : Live). x.total) (sym l) ∙ c.total some in
        m.bytes ∙ ap₂ (λ (x y : ℕ). did_head ++ field x ++ field y ++ line_end) count total
        ∙ ap (λ (x : Model). did_head ++ field (length more) ++ field (rewards_along x (state_in x.arities (reached before).live) more) ++ line_end) stays_on.model

-- ===== Every text =====

-- the log begins again behind the line, or goes on
begins-more : (ls : List (List ℕ)) (s : List ℕ) → Begins ls → Begins (ls ++ (s ∷ []))
begins-more ls s b = go (effect (reached ls) (suc (length ls)) s)
  where
    y : Reply
    y = reply (reached ls) (suc (length ls)) s

    again : y.session.live.count ≡ 0 → Begins (ls ++ (s ∷ []))
    again c = record {
      before = ls ++ (s ∷ []);
      log = [];
      lines = sym (append-nil (ls ++ (s ∷ [])));
      begun = ap (λ (ρ : Session). ρ.live.count) (behind-line ls s) ∙ c;
      undisturbed = tt;
    }

    on : Undisturbed (s ∷ []) (y ∷ []) → Begins (ls ++ (s ∷ []))
    on u = record {
      before = b.before;
      log = b.log ++ (s ∷ []);
      lines = ap (λ (l : List (List ℕ)). l ++ (s ∷ [])) b.lines ∙ append_assoc b.before b.log (s ∷ []);
      begun = b.begun;
      undisturbed = log-more b.before b.log b.undisturbed s
          (subst (λ (l : List (List ℕ)). Undisturbed (s ∷ []) (reply (reached l) (suc (length l)) s ∷ [])) b.lines u);
    }

    not-counted : (is_placed (reached ls) ≡ true → ⊥) → Cmp (reached ls).live.count 0 → (reached ls).live.count ≡ 0
    not-counted n (below h) = absurd (omega arith)
    not-counted n (equal h) = h
    not-counted n (above h) = absurd (n (text-placed ls h).placed)

    go : StateEffect (reached ls) (line_kind s) y → Begins (ls ++ (s ∷ []))
    go (stays t e) = on (
      (λ a. clash (t (ap moves_state a.0)) a.1),
      (λ a. clash (t (ap moves_state a.0)) a.1),
      (λ a. clash (t (ap moves_state a.0)) a.1),
      tt,
    )
    go (clears k f p c t) = again c
    go (places k f p n c t) = again (c ∙ not-counted n (cmp (reached ls).live.count 0))
    go (tells k f p c t o q) = again c
    go (does k f p o q) = on (
      (λ a. let e = sym k ∙ a.0 in let z : ◌≡◌ {A = ℕ} 0 1 = cc in omega arith),
      (λ a. let e = sym k ∙ a.0 in let z : ◌≡◌ {A = ℕ} 0 1 = cc in omega arith),
      (λ a. let e = sym k ∙ a.0 in let z : ◌≡◌ {A = ℕ} 0 1 = cc in omega arith),
      tt,
    )

begins-all : (ms ls : List (List ℕ)) → Begins ls → Begins (ls ++ ms)
begins-all [] ls b = subst Begins (sym (append-nil ls)) b
begins-all (s ∷ ms) ls b = subst Begins (append_assoc ls (s ∷ []) ms) (begins-all ms (ls ++ (s ∷ [])) (begins-more ls s b))

-- every text is such lines: an (is c o) is accepted at count 0 only
pub text-begins : (ls : List (List ℕ)) → Begins ls
unfolding after_lines beginning opening
text-begins ls = begins-all ls [] (record { before = []; log = []; lines = refl; begun = refl; undisturbed = tt })

-- so the theorem holds of every text
pub text-log : (ls : List (List ℕ)) → (b : Begins ls) × (ds : List Did) × LogOf b.before b.log ds × Replays b.before b.log ds
text-log ls =
    let b = text-begins ls in
    let x = text-logs b.before b.log in
    (b, x.0, x.1, text-replays b.before b.log b.begun b.undisturbed x.0 x.1)
