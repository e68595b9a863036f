-- Where count and total begin again, and that no (is c o) is accepted behind an accepted (did ..) (document 02, L10).
use Rattle.std.specs.Prelude.{◌≡◌, ◌⊎◌, ◌&&◌, List, [], ◌∷◌, ◌++◌, ℕ, suc, ◌<◌, length, leb}
use Rattle.std.proofs.Common.{sym, ap, subst, ◌∙◌, inl, inr, arith}
use Rattle.basics.specs.Members.{clash}
use Rattle.text.specs.declared.Kind.TheVariants as K
use Rattle.text.specs.LineForm.{line_kind}
use Rattle.session.specs.Session.{Live, Names, Session, opening}
use Rattle.session.specs.Replies.{each_placed, is_placed, reply}
use Rattle.session.specs.Texts.{has_bytes, Progress, replied, after_line, after_lines, beginning}
use Rattle.session_laws.specs.TextReplies.{replies}
use Rattle.session_laws.specs.Inner.{moves_state}
use Rattle.session_laws.proofs.KeepLaws.{line-keeps}
use Rattle.text_replays.specs.Inner.{NoObjects}
use Rattle.text_replays.specs.Claims.{reached, replies_after, AcceptedAs, Stands}
use Rattle.text_replays.proofs.KeepLaws.{StateEffect, stays, clears, places, tells, does, effect}
use Rattle.text_replays.proofs.FoldLaws.{behind-both, behind-line, replies-are}

-- ===== One line =====

module _ (σ : Session) (number : ℕ) (s : List ℕ) where
  -- 'An accepted (objects n) or (true) begins again with count and total 0', a repeated (true p o ..) too
  pub begins-again : AcceptedAs K.Objects s (reply σ number s) ⊎ AcceptedAs K.True s (reply σ number s)
      → ((reply σ number s).session.live.count ≡ 0) × ((reply σ number s).session.live.total ≡ 0)
  begins-again a = go a (effect σ number s)
    where
      go : AcceptedAs K.Objects s (reply σ number s) ⊎ AcceptedAs K.True s (reply σ number s) → StateEffect σ (line_kind s) (reply σ number s)
          → ((reply σ number s).session.live.count ≡ 0) × ((reply σ number s).session.live.total ≡ 0)
      go (inl h) (stays t e) = clash (t (ap moves_state h.0)) h.1
      go (inr h) (stays t e) = clash (t (ap moves_state h.0)) h.1
      go a (clears k f p c t) = (c, t)
      go (inl h) (places k f p n c t) = let e = sym k ∙ h.0 in let z : ◌≡◌ {A = ℕ} 0 1 = cc in absurd (omega arith)
      go (inr h) (places k f p n c t) = let e = sym k ∙ h.0 in let z : ◌≡◌ {A = ℕ} 0 1 = cc in absurd (omega arith)
      go a (tells k f p c t o q) = (c, t)
      go (inl h) (does k f p o q) = let e = sym k ∙ h.0 in let z : ◌≡◌ {A = ℕ} 0 1 = cc in absurd (omega arith)
      go (inr h) (does k f p o q) = let e = sym k ∙ h.0 in let z : ◌≡◌ {A = ℕ} 0 1 = cc in absurd (omega arith)

  -- an accepted (is c o) leaves both
  pub is-leaves : AcceptedAs K.Is s (reply σ number s)
      → ((reply σ number s).session.live.count ≡ σ.live.count) × ((reply σ number s).session.live.total ≡ σ.live.total)
  is-leaves h = go (effect σ number s)
    where
      go : StateEffect σ (line_kind s) (reply σ number s) → ((reply σ number s).session.live.count ≡ σ.live.count) × ((reply σ number s).session.live.total ≡ σ.live.total)
      go (stays t e) = clash (t (ap moves_state h.0)) h.1
      go (clears k f p c t) = let e = sym k ∙ h.0 in let z : ◌≡◌ {A = ℕ} 0 1 = cc in absurd (omega arith)
      go (places k f p n c t) = (c, t)
      go (tells k f p c t o q) = let e = sym k ∙ h.0 in let z : ◌≡◌ {A = ℕ} 0 1 = cc in absurd (omega arith)
      go (does k f p o q) = let e = sym k ∙ h.0 in let z : ◌≡◌ {A = ℕ} 0 1 = cc in absurd (omega arith)

  -- a line that is no accepted (objects n), (is c o), (true p o ..) or (did ..) leaves the state, count and total
  pub others-leave : (AcceptedAs K.Objects s (reply σ number s) → ⊥) → (AcceptedAs K.Is s (reply σ number s) → ⊥) → (AcceptedAs K.True s (reply σ number s) → ⊥)
      → (AcceptedAs K.Did s (reply σ number s) → ⊥) → (reply σ number s).session.live ≡ σ.live
  others-leave a b c d = go (effect σ number s)
    where
      go : StateEffect σ (line_kind s) (reply σ number s) → (reply σ number s).session.live ≡ σ.live
      go (stays t e) = e
      go (clears k f p x t) = absurd (a (k, f))
      go (places k f p n x t) = absurd (b (k, f))
      go (tells k f p x t o q) = absurd (c (k, f))
      go (does k f p o q) = absurd (d (k, f))

-- ===== Constants stay placed =====

placed_same : (σ τ : Session) → τ.live.objects ≡ σ.live.objects → τ.live.placed ≡ σ.live.placed → τ.names ≡ σ.names → is_placed τ ≡ is_placed σ
placed_same σ τ o p n =
    ap (λ (i : ℕ). leb 1 i && each_placed τ.live.placed (length τ.names.constants)) o
    ∙ ap (λ (l : List ℕ). leb 1 σ.live.objects && each_placed l (length τ.names.constants)) p
    ∙ ap (λ (m : Names). leb 1 σ.live.objects && each_placed σ.live.placed (length m.constants)) n

-- in the run, where every declared constant is placed: a line that is no accepted (objects n) leaves it so, and is no accepted (is c o)
module _ (σ : Session) (st : Stands σ) (number : ℕ) (s : List ℕ) where
  pub stands_on : (AcceptedAs K.Objects s (reply σ number s) → ⊥) → Stands (reply σ number s).session
  stands_on a =
      let kept = line-keeps σ st.run number s in
      record { run = kept.part; placed = go kept.names (effect σ number s) ∙ st.placed }
    where
      go : (reply σ number s).session.names ≡ σ.names → StateEffect σ (line_kind s) (reply σ number s) → is_placed (reply σ number s).session ≡ is_placed σ
      go n (stays t e) = placed_same σ (reply σ number s).session (ap (λ (l : Live). l.objects) e) (ap (λ (l : Live). l.placed) e) n
      go n (clears k f p x t) = absurd (a (k, f))
      go n (places k f p u x t) = absurd (u st.placed)
      go n (tells k f p x t o q) = placed_same σ (reply σ number s).session o q n
      go n (does k f p o q) = placed_same σ (reply σ number s).session o q n

  pub stands-is : AcceptedAs K.Is s (reply σ number s) → ⊥
  stands-is h = go (effect σ number s)
    where
      go : StateEffect σ (line_kind s) (reply σ number s) → ⊥
      go (stays t e) = clash (t (ap moves_state h.0)) h.1
      go (clears k f p c t) = let e = sym k ∙ h.0 in let z : ◌≡◌ {A = ℕ} 0 1 = cc in omega arith
      go (places k f p n c t) = n st.placed
      go (tells k f p c t o q) = let e = sym k ∙ h.0 in let z : ◌≡◌ {A = ℕ} 0 1 = cc in omega arith
      go (does k f p o q) = let e = sym k ∙ h.0 in let z : ◌≡◌ {A = ℕ} 0 1 = cc in omega arith

lines-stand : (q : Progress) → Stands q.session → (ls : List (List ℕ)) → NoObjects ls (replies q.session q.lines ls) → Stands (after_lines q ls).session
unfolding after_lines after_line replies
lines-stand q st [] n = st
lines-stand q st (s ∷ ls) n =
    lines-stand (replied q (has_bytes s) (reply q.session (suc q.lines) s)) (stands_on q.session st (suc q.lines) s n.0) ls n.1

-- an accepted (did ..) stands where (value) may, and leaves it so
pub did-stands : (σ : Session) (number : ℕ) (s : List ℕ) → AcceptedAs K.Did s (reply σ number s) → Stands σ
did-stands σ number s h = go (effect σ number s)
  where
    go : StateEffect σ (line_kind s) (reply σ number s) → Stands σ
    go (stays t e) = clash (t (ap moves_state h.0)) h.1
    go (clears k f p c t) = let e = sym k ∙ h.0 in let z : ◌≡◌ {A = ℕ} 0 1 = cc in absurd (omega arith)
    go (places k f p n c t) = let e = sym k ∙ h.0 in let z : ◌≡◌ {A = ℕ} 0 1 = cc in absurd (omega arith)
    go (tells k f p c t o q) = let e = sym k ∙ h.0 in let z : ◌≡◌ {A = ℕ} 0 1 = cc in absurd (omega arith)
    go (does k f p o q) = p

-- behind an accepted (did ..) no (is c o) is accepted before the next accepted (objects n)
pub did-then-is : (before : List (List ℕ)) (s : List ℕ) → AcceptedAs K.Did s (reply (reached before) (suc (length before)) s)
    → (ms : List (List ℕ)) → NoObjects ms (replies_after (before ++ (s ∷ [])) ms)
    → (number : ℕ) (t : List ℕ) → AcceptedAs K.Is t (reply (reached ((before ++ (s ∷ [])) ++ ms)) number t) → ⊥
did-then-is before s a ms n number t =
    let ls = before ++ (s ∷ []) in
    let σ = reached before in
    let i = suc (length before) in
    let not-objects : AcceptedAs K.Objects s (reply σ i s) → ⊥ = λ h. let e = sym a.0 ∙ h.0 in let z : ◌≡◌ {A = ℕ} 0 1 = cc in omega arith in
    let st = subst Stands (sym (behind-line before s)) (stands_on σ (did-stands σ i s a) i s not-objects) in
    let on = lines-stand (after_lines beginning ls) st ms (subst (NoObjects ms) (sym (replies-are ls ms)) n) in
    stands-is (reached (ls ++ ms)) (subst Stands (sym (behind-both ls ms)) on) number t

-- ===== Where a line is counted, every declared constant is placed =====

abbrev Placed : Session → Type 0
Placed σ = 0 < σ.live.count → Stands σ

line-placed : (σ : Session) → Placed σ → (number : ℕ) (s : List ℕ) → Placed (reply σ number s).session
line-placed σ h number s c = go (effect σ number s)
  where
    same : (reply σ number s).session.live ≡ σ.live → 0 < σ.live.count
    same e = subst (λ (l : Live). 0 < l.count) e c

    go : StateEffect σ (line_kind s) (reply σ number s) → Stands (reply σ number s).session
    go (stays t e) =
        stands_on σ (h (same e)) number s (λ a. clash (t (ap moves_state a.0)) a.1)
    go (clears k f p x t) = absurd (omega arith)
    go (places k f p u x t) = absurd (u (h (omega arith)).placed)
    go (tells k f p x t o q) = absurd (omega arith)
    go (does k f p o q) = stands_on σ p number s (λ a. let e = sym k ∙ a.0 in let z : ◌≡◌ {A = ℕ} 0 1 = cc in omega arith)

lines-placed : (q : Progress) → Placed q.session → (ls : List (List ℕ)) → Placed (after_lines q ls).session
unfolding after_lines after_line
lines-placed q h [] = h
lines-placed q h (s ∷ ls) = lines-placed (replied q (has_bytes s) (reply q.session (suc q.lines) s)) (line-placed q.session h (suc q.lines) s) ls

pub text-placed : (ls : List (List ℕ)) → 0 < (reached ls).live.count → Stands (reached ls)
unfolding beginning opening
text-placed ls = lines-placed beginning (λ c. absurd (omega arith)) ls
