-- Each line has one answer, of its kind; a refused line leaves the session as it was (document 01, sections 'Text' and 'A run, whole').
use Rattle.std.specs.Prelude.{◌≡◌, refl, List, ℕ}
use Rattle.std.proofs.Common.{sym, ap, ◌∙◌, subst, arith}
use Rattle.refusal.specs.declared.Refusal.{Refusal}
use Rattle.refusal.specs.Outcome.{ok}
use Rattle.text.specs.declared.Kind.{Kind}
use Rattle.text.specs.declared.Kind.TheVariants as K
use Rattle.text.specs.LineForm.{line_kind}
use Rattle.events.specs.declared.Event.{Event}
use Rattle.answers.specs.declared.Answer.TheVariants as A
use Rattle.session.specs.Place.{rule_of}
use Rattle.session.specs.Session.{Session}
use Rattle.session.specs.Replies.{Reply, refusal, allowed, words_of, reply}
use Rattle.session_laws.specs.LineAnswers.{LineAnswered, quiet, valued, backed, cutting, reducing, showing, printing, moving, counting, replaying, OneAnswer, blank, refusing, accepted}
use Rattle.session_laws.proofs.CaseLaws.{Cases, done-by, reply-by}

-- where a line of the kind k with the words es may stand, the reply is y
abbrev InPlace : Session → ℕ → List Event → Kind → Reply → Type 0
InPlace σ number es k y = (s : List ℕ) → es ≡ words_of k s → allowed σ (rule_of k σ.part) ≡ ok tt → OneAnswer σ number s k y

module _ (σ : Session) (number : ℕ) (es : List Event) where
  standing : (k : Kind) (y : Reply) → LineAnswered σ es k y → InPlace σ number es k y
  standing k y h s w a = accepted a (subst (λ (us : List Event). LineAnswered σ us k y) w h)

  cases : Cases σ number es (InPlace σ number es)
  cases = record {
    refusing = λ k r s w a. refusing r refl;
    for_constant = λ n e. standing K.Constant _ (quiet (n, e, refl) refl);
    for_predicate = λ v e. standing K.Predicate _ (quiet (v, e, refl) refl);
    for_total = λ w e. standing K.Total _ (quiet (w, e, refl) refl);
    for_discount = λ q e. standing K.Discount _ (quiet (q, e, refl) refl);
    for_reward = λ τ e. standing K.Reward _ (quiet e refl);
    for_action = λ n e. standing K.Action _ (quiet (n, e, refl) refl);
    for_variant = λ τ e. standing K.Variant _ (quiet e refl);
    for_becomes = λ τ e. standing K.Becomes _ (quiet e refl);
    for_start = λ τ e. standing K.Start _ (quiet e refl);
    for_objects = λ l e. standing K.Objects _ (quiet (l, e, refl) refl);
    for_is = λ l e. standing K.Is _ (quiet (l, e, refl) refl);
    for_true = λ l e. standing K.True _ (quiet (l, e, refl) refl);
    for_value = λ v e. standing K.Value _ (valued v refl e refl refl);
    for_backup = λ h e. standing K.Backup _ (backed h refl e refl refl);
    for_cut = λ h row edge left e d. standing K.Cut _ (cutting h row edge left refl e d refl refl);
    for_reduce = λ h e. standing K.Reduce _ (reducing h refl e refl refl);
    for_show = standing K.Show _ (showing refl refl refl);
    for_text = λ n e. standing K.Text _ (printing n refl e refl refl);
    for_best = λ x e. standing K.Best _ (moving x refl e refl refl);
    for_count = λ l e. standing K.Count _ (counting l refl e refl refl);
    for_did = λ l e. standing K.Did _ (replaying l refl e refl refl);
  }

pub one_answer : (σ : Session) (number : ℕ) (s : List ℕ) → OneAnswer σ number s (line_kind s) (reply σ number s)
one_answer σ number s =
    let es = words_of (line_kind s) s in
    reply-by σ number s (OneAnswer σ number s) (λ e. blank e refl) (λ r. refusing r refl)
    (done-by σ number es (InPlace σ number es) (cases σ number es) (line_kind s) s refl)

-- an accepted line is answered no refusal
accepted-none : (σ : Session) (es : List Event) (k : Kind) (y : Reply) (r : Refusal) (n : ℕ) → LineAnswered σ es k y → y.answer ≡ A.Refused r n → ⊥
accepted-none σ es k y r n (quiet p q) e = let z : ◌≡◌ {A = ℕ} 0 1 = cc in omega arith
accepted-none σ es k y r n (valued v p h t q) e = let z : ◌≡◌ {A = ℕ} 0 1 = cc in omega arith
accepted-none σ es k y r n (backed h p i t q) e = let z : ◌≡◌ {A = ℕ} 0 1 = cc in omega arith
accepted-none σ es k y r n (cutting h row edge left p i d t q) e = let z : ◌≡◌ {A = ℕ} 0 1 = cc in omega arith
accepted-none σ es k y r n (reducing h p i t q) e = let z : ◌≡◌ {A = ℕ} 0 1 = cc in omega arith
accepted-none σ es k y r n (showing p t q) e = let z : ◌≡◌ {A = ℕ} 0 1 = cc in omega arith
accepted-none σ es k y r n (printing m p h t q) e = let z : ◌≡◌ {A = ℕ} 0 1 = cc in omega arith
accepted-none σ es k y r n (moving x p h t q) e = let z : ◌≡◌ {A = ℕ} 0 1 = cc in omega arith
accepted-none σ es k y r n (counting l p h t q) e = let z : ◌≡◌ {A = ℕ} 0 1 = cc in omega arith
accepted-none σ es k y r n (replaying l p h t q) e = let z : ◌≡◌ {A = ℕ} 0 1 = cc in omega arith

-- a refusal has the line's own number, and leaves the session as it was
pub refused-reply : (σ : Session) (number : ℕ) (s : List ℕ) (r : Refusal) (n : ℕ) → (reply σ number s).answer ≡ A.Refused r n
    → reply σ number s ≡ refusal σ number r
refused-reply σ number s r n e = go (reply σ number s) (one_answer σ number s) e
  where
    go : (y : Reply) → OneAnswer σ number s (line_kind s) y → y.answer ≡ A.Refused r n → y ≡ refusal σ number r
    go y (blank q p) e =
        let d = sym e ∙ ap (λ (x : Reply). x.answer) p in
        let z : ◌≡◌ {A = ℕ} 0 1 = cc in
        absurd (omega arith)
    go y (refusing q p) e =
        let d = sym e ∙ ap (λ (x : Reply). x.answer) p in
        let j : q ≡ r = cc in
        p ∙ ap (refusal σ number) j
    go y (accepted a p) e = absurd (accepted-none σ (words_of (line_kind s) s) (line_kind s) y r n p e)

pub refused-leaves : (σ : Session) (number : ℕ) (s : List ℕ) (r : Refusal) (n : ℕ) → (reply σ number s).answer ≡ A.Refused r n
    → (reply σ number s).session ≡ σ
refused-leaves σ number s r n e = ap (λ (y : Reply). y.session) (refused-reply σ number s r n e)
