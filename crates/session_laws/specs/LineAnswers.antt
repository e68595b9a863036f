-- What a line is answered, and the session behind it, kind by kind (document 01, sections 'Text' and 'A run, whole'; document 02, L2, L9, L10, L11 and L13).
use Rattle.std.specs.Prelude.{◌≡◌, List, [], ◌∷◌, ◌++◌, ℕ, ◌^◌, length, drop}
use Rattle.refusal.specs.declared.Refusal.{Refusal}
use Rattle.diagram.specs.Rows.{rows}
use Rattle.refusal.specs.Outcome.{Outcome, ok}
use Rattle.cutting.specs.declared.Edge.{Edge}
use Rattle.cutting.specs.declared.Cut.TheVariants as C
use Rattle.cutting.specs.Cut.{diagram_answer}
use Rattle.mdp.specs.Model.{scale}
use Rattle.mdp.specs.Bellman.{bellman}
use Rattle.mdp.specs.Runs.{a_backup, a_cut, a_reduce, Held, call}
use Rattle.best.specs.Moves.{Move}
use Rattle.spread.specs.Spread.{Entry}
use Rattle.text.specs.declared.Kind.{Kind}
use Rattle.text.specs.declared.Kind.TheVariants as K
use Rattle.text.specs.Line.{line_bytes}
use Rattle.text.specs.Line.Line.{line}
use Rattle.events.specs.declared.Event.{Event}
use Rattle.events.specs.Contents.{key_in, number_in, word_at, keys_in, numbers_in}
use Rattle.answers.specs.declared.Answer.TheVariants as A
use Rattle.answers.specs.Answers.{field, line_end, count_head}
use Rattle.session.specs.declared.Part.TheVariants.{Run}
use Rattle.session.specs.Place.{rule_of}
use Rattle.session.specs.Session.{Live, Session, with_names, with_live, with_held}
use Rattle.session.specs.Declaring.{constant_line, predicate_line, with_vocabulary, total_line, with_total, discount_line, with_discount, action_line, with_action}
use Rattle.session.specs.Facts.{objects_line, is_line, true_line}
use Rattle.session.specs.ModelLines.{reward_line, variant_line, becomes_line}
use Rattle.session.specs.Replaying.{did_line}
use Rattle.session.specs.Running.{start_line, state_in, value_read, backup_is, reduce_is, form_read, best_read, best_is, count_read}
use Rattle.session.specs.Replies.{Reply, refusal, silent, allowed, words_of}

-- the outcome is accepted, and the session is made of it
abbrev pub Makes : {A : Type 0} → Outcome A → (A → Session) → Session → Type 0
Makes {A} o f τ = (a : A) × (o ≡ ok a) × (τ ≡ f a)

-- the line (value), in bytes
abbrev pub value_line : List ℕ
value_line = line_bytes (line K.Value tt)

-- τ is the session behind an accepted line of the kind k with the words es, one that prints nothing: a line of the model, (start), (objects), (is) or (true)
abbrev pub MovesTo : Session → List Event → Kind → Session → Type 0
MovesTo σ es K.Constant τ = Makes (constant_line σ.names (key_in (word_at es 0))) (with_names σ) τ
MovesTo σ es K.Predicate τ =
    Makes (predicate_line (record { names = σ.names; arities = σ.model.arities }) (key_in (word_at es 0)) (number_in (word_at es 1))) (with_vocabulary σ) τ
MovesTo σ es K.Total τ = Makes (total_line (number_in (word_at es 0))) (with_total σ) τ
MovesTo σ es K.Discount τ = Makes (discount_line (number_in (word_at es 0)) (number_in (word_at es 1))) (with_discount σ) τ
MovesTo σ es K.Reward τ = reward_line σ es ≡ ok τ
MovesTo σ es K.Action τ = Makes (action_line σ.names (key_in (word_at es 0)) (keys_in (drop 1 es))) (with_action σ) τ
MovesTo σ es K.Variant τ = variant_line σ (key_in (word_at es 0)) (drop 1 es) ≡ ok τ
MovesTo σ es K.Becomes τ = becomes_line σ es ≡ ok τ
MovesTo σ es K.Start τ = start_line σ ≡ ok τ
MovesTo σ es K.Objects τ = Makes (objects_line (number_in (word_at es 0))) (with_live σ) τ
MovesTo σ es K.Is τ = Makes (is_line σ.names σ.live (key_in (word_at es 0)) (number_in (word_at es 1))) (with_live σ) τ
MovesTo σ es K.True τ = Makes (true_line σ.model.arities σ.names σ.live (key_in (word_at es 0)) (numbers_in (drop 1 es))) (with_live σ) τ
MovesTo σ es K.Value τ = ⊥
MovesTo σ es K.Backup τ = ⊥
MovesTo σ es K.Cut τ = ⊥
MovesTo σ es K.Show τ = ⊥
MovesTo σ es K.Reduce τ = ⊥
MovesTo σ es K.Text τ = ⊥
MovesTo σ es K.Best τ = ⊥
MovesTo σ es K.Count τ = ⊥
MovesTo σ es K.Did τ = ⊥
MovesTo σ es K.Bad τ = ⊥

-- the state in hand behind an accepted (did ..) with the words es
abbrev pub did_read : Session → List Event → Outcome Live
did_read σ es = did_line σ.model σ.names σ.live (key_in (word_at es 0)) (key_in (word_at es 1)) (numbers_in (drop 2 es))

-- the reply y to an accepted line of the kind k with the words es; (value), (show), (text), (best) and (count n) leave the session as it was, (did ..) moves the state
-- in hand alone
pub data LineAnswered (σ : Session) (es : List Event) (k : Kind) (y : Reply) : Type 0 where
  quiet : MovesTo σ es k y.session → y.answer ≡ A.Nothing → LineAnswered σ es k y
  valued : (v : ℕ) → k ≡ K.Value → value_read σ.model.arities σ.live σ.held.diagram ≡ ok v
      → y.session ≡ σ → y.answer ≡ A.Value v σ.held.steps (scale σ.model ^ σ.held.steps) → LineAnswered σ es k y
  backed : (h : Held) → k ≡ K.Backup → call σ.model a_backup σ.held ≡ ok h → y.session ≡ with_held σ σ.part h → y.answer ≡ backup_is h → LineAnswered σ es k y
  cutting : (h : Held) (row : ℕ) (edge : Edge) (left : ℕ) → k ≡ K.Cut → call σ.model a_cut σ.held ≡ ok h
      → diagram_answer σ.model.arities σ.held.diagram ≡ C.Done row edge left
      → y.session ≡ with_held σ σ.part h → y.answer ≡ A.Cut row edge left → LineAnswered σ es k y
  reducing : (h : Held) → k ≡ K.Reduce → call σ.model a_reduce σ.held ≡ ok h → y.session ≡ with_held σ σ.part h → y.answer ≡ reduce_is h → LineAnswered σ es k y
  showing : k ≡ K.Show → y.session ≡ σ → y.answer ≡ A.Show (length (rows σ.held.diagram)) → LineAnswered σ es k y
  printing : (n : ℕ) → k ≡ K.Text → form_read σ.model.arities σ.names σ.held.diagram ≡ ok n → y.session ≡ σ → y.answer ≡ A.Text n → LineAnswered σ es k y
  moving : (x : Move) → k ≡ K.Best → best_read σ.model σ.live σ.held.diagram ≡ ok x
      → y.session ≡ σ → y.answer ≡ best_is σ.names x → LineAnswered σ es k y
  counting : (l : List Entry) → k ≡ K.Count → count_read σ.model σ.names σ.live σ.held.diagram (number_in (word_at es 0)) ≡ ok l
      → y.session ≡ σ → y.answer ≡ A.Count (number_in (word_at es 0)) (length l) → LineAnswered σ es k y
  replaying : (l : Live) → k ≡ K.Did → did_read σ es ≡ ok l
      → y.session ≡ with_live σ l → y.answer ≡ A.Did l.count l.total → LineAnswered σ es k y

-- the reply y to line `number`, which has the bytes s and is of the kind k: it is blank, prints nothing and leaves the session as it was; or it is
-- refused under its own number and leaves the session as it was (which refusal: session Replies, and line_trees TreeReplies); or it stands where it may and is answered as its kind is
pub data OneAnswer (σ : Session) (number : ℕ) (s : List ℕ) (k : Kind) (y : Reply) : Type 0 where
  blank : s ≡ [] → y ≡ silent σ → OneAnswer σ number s k y
  refusing : (r : Refusal) → y ≡ refusal σ number r → OneAnswer σ number s k y
  accepted : allowed σ (rule_of k σ.part) ≡ ok tt → LineAnswered σ (words_of k s) k y → OneAnswer σ number s k y

-- the answer of (value), in the run: Mk of the state in hand, k and S^k
pub record IsValue (σ : Session) (v k w : ℕ) : Type 0 where
  pub run : σ.part ≡ Run
  pub value : v ≡ bellman σ.model k (state_in σ.model.arities σ.live)
  pub steps : k ≡ σ.held.steps
  pub power : w ≡ scale σ.model ^ k

-- the line of each entry, in order
unfoldable pub entry_lines : List Entry → List ℕ
unfolding field
entry_lines [] = []
entry_lines (e ∷ es) = (count_head ++ field e.value ++ field e.states ++ line_end) ++ entry_lines es
