-- Lines behind a session, of which none is an accepted (objects n), (is c o) or (true p o ..): replay counts the accepted (did ..) lines among them (document 02, L10).
use Rattle.std.specs.Prelude.{◌≡◌, refl, false, List, [], ◌∷◌, ◌++◌, map, ℕ, suc}
use Rattle.std.proofs.Common.{sym, ap, ap₂, subst, ◌∙◌, arith}
use Rattle.basics.specs.Members.{clash}
use Rattle.refusal.specs.Outcome.{Outcome, ok}
use Rattle.mdp.specs.Model.{Model, Every}
use Rattle.replay.specs.Replay.{Did, Replay, counted, did as did_by, behind as behind_of, replay, if_accepted, accepted_of}
use Rattle.replay.specs.Along.{Checked}
use Rattle.words.specs.Bytes.{decimal}
use Rattle.words.specs.Keys.{key_of}
use Rattle.text.specs.declared.Kind.{Kind}
use Rattle.text.specs.declared.Kind.TheVariants as K
use Rattle.text.specs.Line.{Words, GoodLine}
use Rattle.text.specs.Line.Line.{line}
use Rattle.text.specs.LineForm.{line_kind}
use Rattle.session.specs.declared.Part.TheVariants.{Run}
use Rattle.session.specs.Session.{Live, Names, Session}
use Rattle.session.specs.Replaying.{did_of, replay_in, replayed}
use Rattle.session.specs.Replies.{Reply, reply}
use Rattle.session.specs.Texts.{has_bytes, Progress, replied, after_line, after_lines}
use Rattle.session.specs.Good.{GoodSession}
use Rattle.session_laws.specs.TextReplies.{replies}
use Rattle.session_laws.specs.Inner.{moves_state}
use Rattle.session_laws.specs.TextRuns.{is_refused}
use Rattle.session_laws.proofs.PlaceLaws.{placed-objects}
use Rattle.session_laws.proofs.KeepLaws.{line-keeps}
use Rattle.text_replays.specs.Claims.{did_bytes, AcceptedAs, did_in, Undisturbed, Logs, none, did, other}
use Rattle.text_replays.proofs.LineLaws.{did-only, did-kind}
use Rattle.text_replays.proofs.MoveLaws.{replay_by, session_by}
use Rattle.text_replays.proofs.RefusalLaws.{may-counts, may-said, did-may}
use Rattle.text_replays.proofs.KeepLaws.{StateEffect, stays, clears, places, tells, does, effect}
use Rattle.text_replays.proofs.FoldLaws.{Goods}
use Rattle.text_replays.proofs.BeginLaws.{did-stands}
use Rattle.text_replays.proofs.CheckLaws.{named-checked}

-- ===== The accepted (did ..) lines =====

-- there are such, behind any lines
pub logs-are : (q : Progress) (ls : List (List ℕ)) (ρ : Session) → (ds : List Did) × Logs ρ ls (replies q.session q.lines ls) ds
unfolding replies
logs-are q [] ρ = ([], none)
logs-are q (s ∷ ls) ρ = go (effect q.session (suc q.lines) s) (logs-are (replied q (has_bytes s) z) ls ρ)
  where
    z : Reply
    z = reply q.session (suc q.lines) s

    ys : List Reply
    ys = replies z.session (suc q.lines) ls

    not-did : (i : Kind) → (i ≡ K.Did → ⊥) → line_kind s ≡ i → AcceptedAs K.Did s z → ⊥
    not-did i n k a = n (sym k ∙ a.0)

    go : StateEffect q.session (line_kind s) z → (ds : List Did) × Logs ρ ls ys ds → (ds : List Did) × Logs ρ (s ∷ ls) (z ∷ ys) ds
    go (stays t e) r = (r.0, other (λ a. clash (t (ap moves_state a.0)) a.1) r.1)
    go (clears k f p c t) r = (r.0, other (not-did K.Objects (λ e. let x : ◌≡◌ {A = ℕ} 0 1 = cc in omega arith) k) r.1)
    go (places k f p n c t) r = (r.0, other (not-did K.Is (λ e. let x : ◌≡◌ {A = ℕ} 0 1 = cc in omega arith) k) r.1)
    go (tells k f p c t o l) r = (r.0, other (not-did K.True (λ e. let x : ◌≡◌ {A = ℕ} 0 1 = cc in omega arith) k) r.1)
    go (does k f p o l) r = let x = did-only s k in (did_in ρ x.0 ∷ r.0, did x.0 x.1 x.2 f r.1)

-- the words name the same where model and names are the same
pub same-did : (σ τ : Session) (w : Words K.Did) → τ.model ≡ σ.model → τ.names ≡ σ.names → did_in σ w ≡ did_in τ w
same-did σ τ w m n = ap₂ (λ (x : Model) (y : Names). did_of x y (key_of w.0) (key_of w.1) (map decimal w.2)) (sym m) (sym n)

pub same-logs : (σ τ : Session) → τ.model ≡ σ.model → τ.names ≡ σ.names → {ls : List (List ℕ)} {ys : List Reply} {ds : List Did} → Logs σ ls ys ds → Logs τ ls ys ds
same-logs σ τ m n none = none
same-logs σ τ m n (did {s = s} {ls = ls} {y = y} {ys = ys} {ds = ds} w g b f r) =
    subst (λ (d : Did). Logs τ (s ∷ ls) (y ∷ ys) (d ∷ ds)) (sym (same-did σ τ w m n)) (did w g b f (same-logs σ τ m n r))
same-logs σ τ m n (other k r) = other k (same-logs σ τ m n r)

-- one more behind the others
pub more-logs : (τ : Session) {ls : List (List ℕ)} {ys : List Reply} {ds : List Did} → Logs τ ls ys ds → (w : Words K.Did) → GoodLine (line K.Did w)
    → (y : Reply) → is_refused y.answer ≡ false → Logs τ (ls ++ (did_bytes w ∷ [])) (ys ++ (y ∷ [])) (ds ++ (did_in τ w ∷ []))
more-logs τ none w g y f = did w g refl f none
more-logs τ (did v h b e r) w g y f = did v h b e (more-logs τ r w g y f)
more-logs τ (other k r) w g y f = other k (more-logs τ r w g y f)

-- ===== Lines that follow in the run =====

-- from the state l on replay counts each of the lines ds, and what is left is in l'
pub record Followed (m : Model) (l : Live) (ds : List Did) (l' : Live) : Type 0 where
  pub checked : Every (Checked m l.objects) ds
  pub taken : accepted_of m (replay_in l) ds ≡ ds
  pub left : replay m (replay_in l) ds ≡ replay_in l'

-- the line is counted: what is in hand behind it
left-in-hand : (σ : Session) (w : Words K.Did) → replay_by σ w ≡ replay_in (session_by σ w).live
unfolding replayed counted replay_in
left-in-hand σ w = refl

live-objects : (σ : Session) (w : Words K.Did) → (session_by σ w).live.objects ≡ σ.live.objects
unfolding replayed
live-objects σ w = refl

-- a line more before those that follow, counted by replay
taken_more : (m : Model) (r r' : Replay) (d : Did) (ds : List Did) → did_by m r d ≡ ok r' → accepted_of m r' ds ≡ ds → accepted_of m r (d ∷ ds) ≡ d ∷ ds
unfolding accepted_of
taken_more m r r' d ds e h = ap (λ (o : Outcome Replay). if_accepted o d (accepted_of m (behind_of r o) ds)) e ∙ ap (λ (l : List Did). d ∷ l) h

left-more : (m : Model) (r r' : Replay) (d : Did) (ds : List Did) → did_by m r d ≡ ok r' → replay m r (d ∷ ds) ≡ replay m r' ds
unfolding replay
left-more m r r' d ds e = ap (λ (o : Outcome Replay). replay m (behind_of r o) ds) e

-- an accepted (did ..), then lines that are followed; ρ has the names and the model of σ
counted-first : (σ : Session) → GoodSession σ → (number : ℕ) (s : List ℕ) (w : Words K.Did) → GoodLine (line K.Did w) → s ≡ did_bytes w
    → is_refused (reply σ number s).answer ≡ false → (ρ : Session) → ρ.model ≡ σ.model → ρ.names ≡ σ.names
    → (ds : List Did) (l : Live) → Followed ρ.model (reply σ number s).session.live ds l → Followed ρ.model σ.live (did_in ρ w ∷ ds) l
counted-first σ g number s w good b f ρ mo na ds l r =
    let y = reply σ number s in
    let m = ρ.model in
    let may = did-may σ g number w good (subst (λ (x : List ℕ). is_refused (reply σ number x).answer ≡ false) b f) in
    let said = ap (reply σ number) b ∙ may-said σ g number w good may in
    let live : y.session.live ≡ (session_by σ w).live = ap (λ (x : Reply). x.session.live) said in
    let in-hand : replay_by σ w ≡ replay_in y.session.live = left-in-hand σ w ∙ ap replay_in (sym live) in
    let same = same-did σ ρ w mo na in
    let step : did_by m (replay_in σ.live) (did_in ρ w) ≡ ok (replay_in y.session.live) =
    ap₂ (λ (x : Model) (d : Did). did_by x (replay_in σ.live) d) mo (sym same) ∙ may-counts σ g w may ∙ ap ok in-hand in
    record {
      checked = (
        subst (λ (x : Model). Checked x σ.live.objects (did_in ρ w)) (sym mo) (subst (Checked σ.model σ.live.objects) same (named-checked σ g w may.named)),
        subst (λ (n : ℕ). Every (Checked m n) ds) (ap (λ (x : Live). x.objects) live ∙ live-objects σ w) r.checked,
      );
      taken = taken_more m (replay_in σ.live) (replay_in y.session.live) (did_in ρ w) ds step r.taken;
      left = left-more m (replay_in σ.live) (replay_in y.session.live) (did_in ρ w) ds step ∙ r.left;
    }

pub follow : (q : Progress) → Goods q → q.session.part ≡ Run → (ls : List (List ℕ)) → Undisturbed ls (replies q.session q.lines ls)
    → (ρ : Session) → ρ.model ≡ q.session.model → ρ.names ≡ q.session.names → (ds : List Did) → Logs ρ ls (replies q.session q.lines ls) ds
    → Followed ρ.model q.session.live ds (after_lines q ls).session.live
unfolding after_lines after_line replies replay accepted_of
follow q g p [] u ρ mo na ds none = record { checked = tt; taken = refl; left = refl }
follow q g p (s ∷ ls) u ρ mo na ds (did {ds = es} w good b f r) =
    let number = suc q.lines in
    let kept = line-keeps q.session p number s in
    counted-first q.session (g []) number s w good b f ρ mo na es _
    (follow (replied q (has_bytes s) (reply q.session number s)) (λ ms. g (s ∷ ms)) kept.part ls u.3 ρ (mo ∙ sym kept.model) (na ∙ sym kept.names) es r)
follow q g p (s ∷ ls) u ρ mo na ds (other n r) =
    let number = suc q.lines in
    let kept = line-keeps q.session p number s in
    go (effect q.session number s)
    (follow (replied q (has_bytes s) (reply q.session number s)) (λ ms. g (s ∷ ms)) kept.part ls u.3 ρ (mo ∙ sym kept.model) (na ∙ sym kept.names) ds r)
  where
    σ : Session
    σ = q.session

    z : Reply
    z = reply q.session (suc q.lines) s

    l : Live
    l = (after_lines (replied q (has_bytes s) z) ls).session.live

    go : StateEffect σ (line_kind s) z → Followed ρ.model z.session.live ds l → Followed ρ.model σ.live ds l
    go (stays t e) h = subst (λ (x : Live). Followed ρ.model x ds l) e h
    go (clears k f i c t) h = absurd (u.0 (k, f))
    go (places k f i x c t) h = absurd (u.1 (k, f))
    go (tells k f i c t o x) h = absurd (u.2 (k, f))
    go (does k f i o x) h = absurd (n (k, f))

-- ===== Lines before any (objects n) =====

-- no (did ..) is accepted, and the state stays as it is
pub still : (q : Progress) → q.session.live.objects ≡ 0 → (ls : List (List ℕ)) → Undisturbed ls (replies q.session q.lines ls)
    → (ρ : Session) (ds : List Did) → Logs ρ ls (replies q.session q.lines ls) ds → (ds ≡ []) × ((after_lines q ls).session.live ≡ q.session.live)
unfolding after_lines after_line replies
still q h [] u ρ ds none = (refl, refl)
still q h (s ∷ ls) u ρ ds (did w good b f r) =
    let st = did-stands q.session (suc q.lines) s (ap line_kind b ∙ did-kind w good, f) in
    let n = placed-objects q.session st.placed in
    absurd (omega arith)
still q h (s ∷ ls) u ρ ds (other n r) =
    go (effect q.session (suc q.lines) s) (λ e. still (replied q (has_bytes s) z) (ap (λ (x : Live). x.objects) e ∙ h) ls u.3 ρ ds r)
  where
    σ : Session
    σ = q.session

    z : Reply
    z = reply q.session (suc q.lines) s

    l : Live
    l = (after_lines (replied q (has_bytes s) z) ls).session.live

    go : StateEffect σ (line_kind s) z → (z.session.live ≡ σ.live → (ds ≡ []) × (l ≡ z.session.live)) → (ds ≡ []) × (l ≡ σ.live)
    go (stays t e) i = let x = i e in (x.0, x.1 ∙ e)
    go (clears k f p c t) i = absurd (u.0 (k, f))
    go (places k f p x c t) i = absurd (u.1 (k, f))
    go (tells k f p c t o x) i = absurd (u.2 (k, f))
    go (does k f p o x) i = absurd (n (k, f))
