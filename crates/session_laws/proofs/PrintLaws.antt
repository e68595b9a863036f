-- Which line shows the value diagram, prints it as a form, or answers a move, a spread or a replay, and what is printed (document 01, section 'A run, whole';
-- document 02, L2, L9, L10 and L11).
use Rattle.std.specs.Prelude.{◌≡◌, refl, Bool, true, false, List, ◌++◌, ℕ, length, get_or}
use Rattle.std.proofs.Common.{sym, ap, ap₂, ◌∙◌, subst, arith}
use Rattle.refusal.specs.declared.Refusal.TheVariants.{Length}
use Rattle.refusal.specs.Outcome.{ok}
use Rattle.diagram.specs.Diagram.{Diagram}
use Rattle.diagram.specs.Rows.{rows}
use Rattle.diagram.specs.Listing.{listing}
use Rattle.diagram_form.specs.Form.{form_length, is_too_long}
use Rattle.diagram_form.proofs.FormLaws.{form-length, reward-length, not-too-long}
use Rattle.state.specs.Lent.{state_of}
use Rattle.best.specs.Moves.{Move}
use Rattle.spread.specs.Spread.{Entry, entry_words}
use Rattle.words.specs.declared.Key.{Key}
use Rattle.text.specs.declared.Kind.{Kind}
use Rattle.text.specs.declared.Kind.TheVariants as K
use Rattle.text.specs.LineForm.{line_kind}
use Rattle.events.specs.declared.Event.{Event}
use Rattle.events.specs.Contents.{number_in, word_at}
use Rattle.answers.specs.declared.Answer.{Answer}
use Rattle.answers.specs.declared.Answer.TheVariants as A
use Rattle.answers.specs.Answers.{fields, name_field, line_end, best_head, answer_line, count_lines, answer_bytes}
use Rattle.session.specs.Place.{rule_of}
use Rattle.session.specs.Session.{Names, Live, Session, with_live, refuse_if}
use Rattle.session.specs.Running.{state_in, tables_in, form_read, best_read, no_key, best_is, entries_in, count_read}
use Rattle.session.specs.Replies.{Reply, allowed, words_of, reply}
use Rattle.session.specs.Texts.{value_form, table_of, reply_bytes}
use Rattle.session.specs.Good.{GoodSession}
use Rattle.session_laws.proofs.PlaceLaws.{in-run, best-placed, did-placed, placed-objects}
use Rattle.session_laws.specs.LineAnswers.{LineAnswered, quiet, valued, backed, cutting, reducing, showing, printing, moving, counting, replaying}
use Rattle.session_laws.specs.Inner.{Shows, Prints, PrintsMove, PrintsCounts, PrintsReplay}
use Rattle.session_laws.specs.LineAnswers.{OneAnswer, blank, refusing, accepted, did_read}
use Rattle.session_laws.proofs.MoveLaws.{best-bound, action-few, tuple-length, four-taken}
use Rattle.session_laws.proofs.EntryLaws.{count-read, entry-count, entries-few, entries-words, entries-lines}
use Rattle.session_laws.proofs.ReplayLaws.{did-log}
use Rattle.session_laws.proofs.AnswerLaws.{one_answer}

-- ===== (show) =====

pub reply-shows : (σ : Session) (number : ℕ) (s : List ℕ) (n : ℕ) → (reply σ number s).answer ≡ A.Show n → Shows σ n (reply σ number s)
reply-shows σ number s n e = go (line_kind s) (reply σ number s) (one_answer σ number s) e
  where
    shown : (k : Kind) (y : Reply) → allowed σ (rule_of k σ.part) ≡ ok tt → LineAnswered σ (words_of k s) k y → y.answer ≡ A.Show n → Shows σ n y
    shown k y a (quiet p q) e = let z : ◌≡◌ {A = ℕ} 0 1 = cc in absurd (omega arith)
    shown k y a (valued v p h t q) e = let z : ◌≡◌ {A = ℕ} 0 1 = cc in absurd (omega arith)
    shown k y a (backed h p i t q) e = let z : ◌≡◌ {A = ℕ} 0 1 = cc in absurd (omega arith)
    shown k y a (cutting h row edge left p i d t q) e = let z : ◌≡◌ {A = ℕ} 0 1 = cc in absurd (omega arith)
    shown k y a (reducing h p i t q) e = let z : ◌≡◌ {A = ℕ} 0 1 = cc in absurd (omega arith)
    shown k y a (showing p t q) e =
        let c : length (rows σ.held.diagram) ≡ n = cc in
        record { run = in-run σ (rule_of K.Show) refl σ.part (subst (λ j. allowed σ (rule_of j σ.part) ≡ ok tt) p a); session = t; count = sym c }
    shown k y a (printing m p h t q) e = let z : ◌≡◌ {A = ℕ} 0 1 = cc in absurd (omega arith)
    shown k y a (moving x p h t q) e = let z : ◌≡◌ {A = ℕ} 0 1 = cc in absurd (omega arith)
    shown k y a (counting l p h t q) e = let z : ◌≡◌ {A = ℕ} 0 1 = cc in absurd (omega arith)
    shown k y a (replaying l p h t q) e = let z : ◌≡◌ {A = ℕ} 0 1 = cc in absurd (omega arith)

    go : (k : Kind) (y : Reply) → OneAnswer σ number s k y → y.answer ≡ A.Show n → Shows σ n y
    go k y (blank q p) e = let d = sym (ap (λ (z : Reply). z.answer) p) ∙ e in let z : ◌≡◌ {A = ℕ} 0 1 = cc in absurd (omega arith)
    go k y (refusing r p) e = let d = sym (ap (λ (z : Reply). z.answer) p) ∙ e in let z : ◌≡◌ {A = ℕ} 0 1 = cc in absurd (omega arith)
    go k y (accepted a p) e = shown k y a p e

-- ===== (text) =====

-- what is read is the form's length, and 19 is not given
form-read : (ar : List ℕ) (n : Names) (d : Diagram) (m : ℕ) → form_read ar n d ≡ ok m → (m ≡ form_length ar (tables_in n) d) × (is_too_long ar (tables_in n) d ≡ false)
unfolding form_read
form-read ar n d m e = go (is_too_long ar (tables_in n) d) refl
  where
    go : (b : Bool) → is_too_long ar (tables_in n) d ≡ b → (m ≡ form_length ar (tables_in n) d) × (is_too_long ar (tables_in n) d ≡ false)
    go true q =
        let f = sym (ap (λ (b : Bool). refuse_if b Length (ok (form_length ar (tables_in n) d))) q) ∙ e in
        let z : ◌≡◌ {A = ℕ} 0 1 = cc in
        absurd (omega arith)
    go false q = let f = sym (ap (λ (b : Bool). refuse_if b Length (ok (form_length ar (tables_in n) d))) q) ∙ e in (cc, q)

printed : (σ : Session) (n : ℕ) (y : Reply) → allowed σ (rule_of K.Text σ.part) ≡ ok tt
    → form_read σ.model.arities σ.names σ.held.diagram ≡ ok n → y.session ≡ σ → y.answer ≡ A.Text n → Prints σ n y
unfolding reply_bytes value_form answer_bytes
printed σ n y a h t q =
    let ar = σ.model.arities in
    let ns = tables_in σ.names in
    let d = σ.held.diagram in
    let r = form-read ar σ.names d n h in
    record {
      run = in-run σ (rule_of K.Text) refl σ.part a;
      session = t;
      bytes = ap₂ (λ (τ : Session) (b : Answer). answer_bytes (listing τ.held.diagram) (value_form τ) (table_of τ b) b) t q;
      count = r.0 ∙ sym (form-length ar ns d);
      short = omega (arith, r.0, reward-length ar ns d, (not-too-long ar ns d r.1).bytes);
      fits = r.1;
    }

-- a line that is answered so is an accepted (text), and what it prints is the value's form
pub reply-prints : (σ : Session) (number : ℕ) (s : List ℕ) (n : ℕ) → (reply σ number s).answer ≡ A.Text n → Prints σ n (reply σ number s)
reply-prints σ number s n e = go (line_kind s) (reply σ number s) (one_answer σ number s) e
  where
    by_kind : (k : Kind) (y : Reply) → allowed σ (rule_of k σ.part) ≡ ok tt → LineAnswered σ (words_of k s) k y → y.answer ≡ A.Text n → Prints σ n y
    by_kind k y a (quiet p q) e = let z : ◌≡◌ {A = ℕ} 0 1 = cc in absurd (omega arith)
    by_kind k y a (valued v p h t q) e = let z : ◌≡◌ {A = ℕ} 0 1 = cc in absurd (omega arith)
    by_kind k y a (backed h p i t q) e = let z : ◌≡◌ {A = ℕ} 0 1 = cc in absurd (omega arith)
    by_kind k y a (cutting h row edge left p i d t q) e = let z : ◌≡◌ {A = ℕ} 0 1 = cc in absurd (omega arith)
    by_kind k y a (reducing h p i t q) e = let z : ◌≡◌ {A = ℕ} 0 1 = cc in absurd (omega arith)
    by_kind k y a (showing p t q) e = let z : ◌≡◌ {A = ℕ} 0 1 = cc in absurd (omega arith)
    by_kind k y a (printing m p h t q) e =
        let c : m ≡ n = cc in
        printed σ n y (subst (λ j. allowed σ (rule_of j σ.part) ≡ ok tt) p a) (h ∙ ap ok c) t e
    by_kind k y a (moving x p h t q) e = let z : ◌≡◌ {A = ℕ} 0 1 = cc in absurd (omega arith)
    by_kind k y a (counting l p h t q) e = let z : ◌≡◌ {A = ℕ} 0 1 = cc in absurd (omega arith)
    by_kind k y a (replaying l p h t q) e = let z : ◌≡◌ {A = ℕ} 0 1 = cc in absurd (omega arith)

    go : (k : Kind) (y : Reply) → OneAnswer σ number s k y → y.answer ≡ A.Text n → Prints σ n y
    go k y (blank q p) e = let d = sym (ap (λ (z : Reply). z.answer) p) ∙ e in let z : ◌≡◌ {A = ℕ} 0 1 = cc in absurd (omega arith)
    go k y (refusing r p) e = let d = sym (ap (λ (z : Reply). z.answer) p) ∙ e in let z : ◌≡◌ {A = ℕ} 0 1 = cc in absurd (omega arith)
    go k y (accepted a p) e = by_kind k y a p e

-- ===== (best) =====

moved : (σ : Session) → GoodSession σ → (x : Move) (y : Reply) → allowed σ (rule_of K.Best σ.part) ≡ ok tt
    → best_read σ.model σ.live σ.held.diagram ≡ ok x → y.session ≡ σ → y.answer ≡ best_is σ.names x → PrintsMove σ x y
unfolding reply_bytes answer_bytes answer_line best_read state_in state_of
moved σ good x y a h t q =
    let p = in-run σ (rule_of K.Best) refl σ.part a in
    let placed = best-placed σ p a in
    let objects = best-bound σ.model (state_in σ.model.arities σ.live) σ.held.diagram (placed-objects σ placed) x h in
    let most = action-few σ.model x.action good.parts.actions in
    record {
      run = p;
      placed = placed;
      read = h;
      session = t;
      answer = q;
      objects = objects;
      bytes =
          ap (λ (b : Answer). answer_bytes (listing y.session.held.diagram) (value_form y.session) (table_of y.session b) b) q
          ∙ ap (λ (os : List ℕ). best_head ++ name_field (get_or σ.names.actions x.action no_key) ++ fields os ++ line_end)
          (four-taken x.objects (omega (arith, tuple-length objects, most)));
    }

-- a line that is answered so is an accepted (best), and what it prints is the move
pub reply-moves : (σ : Session) → GoodSession σ → (number : ℕ) (s : List ℕ) (i : Key) (n a b c d : ℕ) → (reply σ number s).answer ≡ A.Best i n a b c d
    → (x : Move) × PrintsMove σ x (reply σ number s)
reply-moves σ good number s i n a b c d e = go (line_kind s) (reply σ number s) (one_answer σ number s) e
  where
    by_kind : (k : Kind) (y : Reply) → allowed σ (rule_of k σ.part) ≡ ok tt → LineAnswered σ (words_of k s) k y → y.answer ≡ A.Best i n a b c d → (x : Move) × PrintsMove σ x y
    by_kind k y w (quiet p q) e = let z : ◌≡◌ {A = ℕ} 0 1 = cc in absurd (omega arith)
    by_kind k y w (valued v p h t q) e = let z : ◌≡◌ {A = ℕ} 0 1 = cc in absurd (omega arith)
    by_kind k y w (backed h p r t q) e = let z : ◌≡◌ {A = ℕ} 0 1 = cc in absurd (omega arith)
    by_kind k y w (cutting h row edge left p i d t q) e = let z : ◌≡◌ {A = ℕ} 0 1 = cc in absurd (omega arith)
    by_kind k y w (reducing h p r t q) e = let z : ◌≡◌ {A = ℕ} 0 1 = cc in absurd (omega arith)
    by_kind k y w (showing p t q) e = let z : ◌≡◌ {A = ℕ} 0 1 = cc in absurd (omega arith)
    by_kind k y w (printing m p h t q) e = let z : ◌≡◌ {A = ℕ} 0 1 = cc in absurd (omega arith)
    by_kind k y w (moving x p h t q) e = (x, moved σ good x y (subst (λ j. allowed σ (rule_of j σ.part) ≡ ok tt) p w) h t q)
    by_kind k y w (counting l p h t q) e = let z : ◌≡◌ {A = ℕ} 0 1 = cc in absurd (omega arith)
    by_kind k y w (replaying l p h t q) e = let z : ◌≡◌ {A = ℕ} 0 1 = cc in absurd (omega arith)

    go : (k : Kind) (y : Reply) → OneAnswer σ number s k y → y.answer ≡ A.Best i n a b c d → (x : Move) × PrintsMove σ x y
    go k y (blank q p) e = let d = sym (ap (λ (z : Reply). z.answer) p) ∙ e in let z : ◌≡◌ {A = ℕ} 0 1 = cc in absurd (omega arith)
    go k y (refusing r p) e = let d = sym (ap (λ (z : Reply). z.answer) p) ∙ e in let z : ◌≡◌ {A = ℕ} 0 1 = cc in absurd (omega arith)
    go k y (accepted w p) e = by_kind k y w p e

-- ===== (count n) =====

counted : (σ : Session) → GoodSession σ → (n m : ℕ) (l : List Entry) (y : Reply) → allowed σ (rule_of K.Count σ.part) ≡ ok tt
    → count_read σ.model σ.names σ.live σ.held.diagram n ≡ ok l → length l ≡ m → y.session ≡ σ → y.answer ≡ A.Count n m → PrintsCounts σ n m y
unfolding reply_bytes answer_bytes table_of
counted σ good n m l y a h c t q =
    let p = in-run σ (rule_of K.Count) refl σ.part a in
    let es = entries_in σ.model σ.names σ.live σ.held.diagram n in
    let r = (count-read σ.model σ.names σ.live σ.held.diagram n).given l h in
    let listed = (good.begun p).value.listed in
    let m-is : m ≡ length es = sym c ∙ ap length r.counted in
    record {
      run = p;
      read = h ∙ ap ok r.counted;
      session = t;
      bytes =
          ap₂ (λ (τ : Session) (b : Answer). answer_bytes (listing τ.held.diagram) (value_form τ) (table_of τ b) b) t q
          ∙ ap (count_lines (entry_words es)) m-is ∙ entries-lines es;
      count = m-is;
      few = omega (arith, m-is, entries-few σ.model σ.names σ.live σ.held.diagram n l r listed);
      table = omega (arith, m-is, entry-count es);
      words = entries-words σ.model σ.names σ.live σ.held.diagram n l r listed;
    }

-- a line that is answered so is an accepted (count n), and what it prints are the entries
pub reply-counts : (σ : Session) → GoodSession σ → (number : ℕ) (s : List ℕ) (n m : ℕ) → (reply σ number s).answer ≡ A.Count n m → PrintsCounts σ n m (reply σ number s)
reply-counts σ good number s n m e = go (line_kind s) (reply σ number s) (one_answer σ number s) e
  where
    by_kind : (k : Kind) (y : Reply) → allowed σ (rule_of k σ.part) ≡ ok tt → LineAnswered σ (words_of k s) k y → y.answer ≡ A.Count n m → PrintsCounts σ n m y
    by_kind k y w (quiet p q) e = let z : ◌≡◌ {A = ℕ} 0 1 = cc in absurd (omega arith)
    by_kind k y w (valued v p h t q) e = let z : ◌≡◌ {A = ℕ} 0 1 = cc in absurd (omega arith)
    by_kind k y w (backed h p r t q) e = let z : ◌≡◌ {A = ℕ} 0 1 = cc in absurd (omega arith)
    by_kind k y w (cutting h row edge left p i d t q) e = let z : ◌≡◌ {A = ℕ} 0 1 = cc in absurd (omega arith)
    by_kind k y w (reducing h p r t q) e = let z : ◌≡◌ {A = ℕ} 0 1 = cc in absurd (omega arith)
    by_kind k y w (showing p t q) e = let z : ◌≡◌ {A = ℕ} 0 1 = cc in absurd (omega arith)
    by_kind k y w (printing i p h t q) e = let z : ◌≡◌ {A = ℕ} 0 1 = cc in absurd (omega arith)
    by_kind k y w (moving x p h t q) e = let z : ◌≡◌ {A = ℕ} 0 1 = cc in absurd (omega arith)
    by_kind k y w (counting l p h t q) e =
        let i : number_in (word_at (words_of k s) 0) ≡ n = cc in
        let c : length l ≡ m = cc in
        counted σ good n m l y (subst (λ j. allowed σ (rule_of j σ.part) ≡ ok tt) p w)
        (subst (λ j. count_read σ.model σ.names σ.live σ.held.diagram j ≡ ok l) i h) c t e
    by_kind k y w (replaying l p h t q) e = let z : ◌≡◌ {A = ℕ} 0 1 = cc in absurd (omega arith)

    go : (k : Kind) (y : Reply) → OneAnswer σ number s k y → y.answer ≡ A.Count n m → PrintsCounts σ n m y
    go k y (blank q p) e = let d = sym (ap (λ (z : Reply). z.answer) p) ∙ e in let z : ◌≡◌ {A = ℕ} 0 1 = cc in absurd (omega arith)
    go k y (refusing r p) e = let d = sym (ap (λ (z : Reply). z.answer) p) ∙ e in let z : ◌≡◌ {A = ℕ} 0 1 = cc in absurd (omega arith)
    go k y (accepted w p) e = by_kind k y w p e

-- ===== (did ..) =====

replayed : (σ : Session) (es : List Event) (l : Live) (y : Reply) → allowed σ (rule_of K.Did σ.part) ≡ ok tt → did_read σ es ≡ ok l
    → y.session ≡ with_live σ l → y.answer ≡ A.Did l.count l.total → PrintsReplay σ es l y
unfolding reply_bytes answer_bytes answer_line
replayed σ es l y a h t q =
    let p = in-run σ (rule_of K.Did) refl σ.part a in
    let log = did-log σ.model σ.names σ.live _ _ _ l h in
    record {
      run = p;
      placed = did-placed σ p a;
      read = h;
      session = t;
      answer = q;
      bytes = ap (λ (b : Answer). answer_bytes (listing y.session.held.diagram) (value_form y.session) (table_of y.session b) b) q;
      words = omega (arith, log.count, log.total);
    }

-- a line that is answered so is an accepted (did ..), and what it prints are count and total of the state in hand behind it
pub reply-replays : (σ : Session) (number : ℕ) (s : List ℕ) (n m : ℕ) → (reply σ number s).answer ≡ A.Did n m
    → (l : Live) × PrintsReplay σ (words_of K.Did s) l (reply σ number s)
reply-replays σ number s n m e = go (line_kind s) (reply σ number s) (one_answer σ number s) e
  where
    by_kind : (k : Kind) (y : Reply) → allowed σ (rule_of k σ.part) ≡ ok tt → LineAnswered σ (words_of k s) k y → y.answer ≡ A.Did n m
        → (l : Live) × PrintsReplay σ (words_of K.Did s) l y
    by_kind k y w (quiet p q) e = let z : ◌≡◌ {A = ℕ} 0 1 = cc in absurd (omega arith)
    by_kind k y w (valued v p h t q) e = let z : ◌≡◌ {A = ℕ} 0 1 = cc in absurd (omega arith)
    by_kind k y w (backed h p r t q) e = let z : ◌≡◌ {A = ℕ} 0 1 = cc in absurd (omega arith)
    by_kind k y w (cutting h row edge left p i d t q) e = let z : ◌≡◌ {A = ℕ} 0 1 = cc in absurd (omega arith)
    by_kind k y w (reducing h p r t q) e = let z : ◌≡◌ {A = ℕ} 0 1 = cc in absurd (omega arith)
    by_kind k y w (showing p t q) e = let z : ◌≡◌ {A = ℕ} 0 1 = cc in absurd (omega arith)
    by_kind k y w (printing i p h t q) e = let z : ◌≡◌ {A = ℕ} 0 1 = cc in absurd (omega arith)
    by_kind k y w (moving x p h t q) e = let z : ◌≡◌ {A = ℕ} 0 1 = cc in absurd (omega arith)
    by_kind k y w (counting l p h t q) e = let z : ◌≡◌ {A = ℕ} 0 1 = cc in absurd (omega arith)
    by_kind k y w (replaying l p h t q) e = (
      l,
      replayed σ (words_of K.Did s) l y (subst (λ j. allowed σ (rule_of j σ.part) ≡ ok tt) p w)
          (subst (λ j. did_read σ (words_of j s) ≡ ok l) p h) t q,
    )

    go : (k : Kind) (y : Reply) → OneAnswer σ number s k y → y.answer ≡ A.Did n m → (l : Live) × PrintsReplay σ (words_of K.Did s) l y
    go k y (blank q p) e = let d = sym (ap (λ (z : Reply). z.answer) p) ∙ e in let z : ◌≡◌ {A = ℕ} 0 1 = cc in absurd (omega arith)
    go k y (refusing r p) e = let d = sym (ap (λ (z : Reply). z.answer) p) ∙ e in let z : ◌≡◌ {A = ℕ} 0 1 = cc in absurd (omega arith)
    go k y (accepted w p) e = by_kind k y w p e
