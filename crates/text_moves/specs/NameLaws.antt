-- The name that (best) prints is the one that the text declares of the action, and the objects are as many as its parameters (document 01, section 'Text'; document 02, L9).
use Rattle.std.specs.Prelude.{◌≡◌, Bool, true, false, ℕ, zero, suc, ◌<◌, get_or, drop, eqb}
use Rattle.std.proofs.Math.Path.{refl, ap, ap₂}
use Rattle.std.proofs.Common.{sym, ◌∙◌, subst, arith}
use mathlib.Core.List.{List, [], ◌∷◌, ◌++◌, map, append-nil, append_assoc}
use Rattle.std.proofs.Math.ListN.{length}
use Rattle.std.proofs.lemmas.List.{length-map}
use Rattle.refusal.specs.Outcome.{ok}
use Rattle.state.specs.Max.{Tuple, none, more}
use Rattle.regression.specs.Regression.{Truths}
use Rattle.mdp.specs.Model.{Variant, Action}
use Rattle.mdp.specs.Runs.{begin}
use Rattle.best.specs.Moves.{Move, action_at}
use Rattle.words.specs.declared.Key.{Key}
use Rattle.words.specs.Keys.{key_of, name_of}
use Rattle.words.specs.Words.{IsName}
use Rattle.words.specs.KeyLaws.{name-of}
use Rattle.text.specs.declared.Kind.{Kind}
use Rattle.text.specs.declared.Kind.TheVariants as K
use Rattle.text.specs.Line.{Words, is_bad, line_bytes, GoodLine}
use Rattle.text.specs.Line.Line.{line}
use Rattle.text.specs.LineForm.{line_kind}
use Rattle.text.specs.LineLaws.{line-complete, line-sound}
use Rattle.events.specs.declared.Event.{Event}
use Rattle.events.specs.Events.{parameter_event}
use Rattle.events.specs.Contents.{key_in, word_at, keys_in}
use Rattle.events.specs.LineEvents.{line-events}
use Rattle.answers.specs.Answers.{best_head, name_field, fields, line_end}
use Rattle.session.specs.declared.Part.TheVariants.{Run}
use Rattle.session.specs.Session.{Session, opening, with_held}
use Rattle.session.specs.Session as S
use Rattle.session.specs.Declaring.{with_vocabulary, with_total, with_discount, with_action}
use Rattle.session.specs.ModelLines.{with_reward, reward_read, reward_line, add_variant, with_variant, weight_read, variant_line, last_variant, truths_now, with_truth, truth_read, becomes_line, weighed}
use Rattle.session.specs.Running.{no_key, start_line}
use Rattle.session.specs.Replies.{Reply, words_of, reply}
use Rattle.session.specs.Texts.{has_bytes, Progress, replied, after_line, after_lines, beginning, reply_bytes}
use Rattle.session_laws.specs.TextReplies.{replies}
use Rattle.session_laws.specs.TextRuns.{is_refused}
use Rattle.session_laws.proofs.RunLaws.{made_by}
use Rattle.session_laws.proofs.CaseLaws.{Cases, vocabulary_of, done-by, reply-by}
use Rattle.session_laws.proofs.MadeLaws.{constant_by, predicate-by, action-by, change_of}
use Rattle.text_moves.specs.Claims.{MovesBy, Declares, none as no_line_lem, action, other, NamesMove}

-- ===== What a line does to the actions =====

-- how many parameters the actions of the model have
abbrev counts_of : Session → List ℕ
counts_of σ = map (λ (a : Action). a.count) σ.model.actions

abbrev is_action : Kind → Bool
is_action k = eqb (change_of k) 1

-- an accepted (action ..) adds one; any other line leaves their names and parameters
data Effect (σ : Session) (es : List Event) (k : Kind) (y : Reply) : Type 0 where
  adds : k ≡ K.Action → is_refused y.answer ≡ false → y.session.names.actions ≡ σ.names.actions ++ (key_in (word_at es 0) ∷ [])
      → counts_of y.session ≡ counts_of σ ++ (length (keys_in (drop 1 es)) ∷ []) → Effect σ es k y
  keeps : (is_action k ≡ true → is_refused y.answer ≡ true) → y.session.names.actions ≡ σ.names.actions → counts_of y.session ≡ counts_of σ → Effect σ es k y

never : {A : Type 0} → false ≡ true → A
never e = let z : ◌≡◌ {A = ℕ} 0 1 = cc in absurd (omega arith)

pub map_snoc : {A B : Type 0} (f : A → B) (l : List A) (a : A) → map f (l ++ (a ∷ [])) ≡ map f l ++ (f a ∷ [])
map_snoc f [] a = refl
map_snoc f (b ∷ l) a = ap (λ t. f b ∷ t) (map_snoc f l a)

pub counts-variant : (l : List Action) (v : Variant) → map (λ (b : Action). b.count) (add_variant l v) ≡ map (λ (b : Action). b.count) l
counts-variant [] v = refl
counts-variant (a ∷ []) v = refl
counts-variant (a ∷ b ∷ l) v = ap (λ (t : List ℕ). a.count ∷ t) (counts-variant (b ∷ l) v)

pub counts-truth : (l : List Action) (f : Truths → Truths) → map (λ (b : Action). b.count) (last_variant l f) ≡ map (λ (b : Action). b.count) l
counts-truth [] f = refl
counts-truth (a ∷ []) f = refl
counts-truth (a ∷ b ∷ l) f = ap (λ (t : List ℕ). a.count ∷ t) (counts-truth (b ∷ l) f)

module _ (σ : Session) (number : ℕ) (es : List Event) where
  -- the names of the actions as they were, and with one more
  abbrev SameNames : S.Names → Type 0
  SameNames n = n.actions ≡ σ.names.actions

  abbrev Added : S.Names → Type 0
  Added n = (n.actions ≡ σ.names.actions ++ (key_in (word_at es 0) ∷ [])) × (n.parameters ≡ keys_in (drop 1 es))

  -- names and counts of a session made from what a line reads
  abbrev Same : Session → Type 0
  Same τ = (τ.names.actions ≡ σ.names.actions) × (counts_of τ ≡ counts_of σ)

  reward-same : (τ : Session) → reward_line σ es ≡ ok τ → Same τ
  unfolding reward_line with_reward
  reward-same τ e = made_by Same (reward_read σ.names σ.model.arities σ.rows es) (with_reward σ) (λ d. (refl, refl)) τ e

  variant-same : (k : Key) (fs : List Event) (τ : Session) → variant_line σ k fs ≡ ok τ → Same τ
  unfolding variant_line with_variant
  variant-same k fs τ e = made_by Same (weight_read σ.names σ.model.arities σ.rows k fs) (with_variant σ k) (λ d. (refl, counts-variant σ.model.actions _)) τ e

  becomes-same : (τ : Session) → becomes_line σ es ≡ ok τ → Same τ
  unfolding becomes_line with_truth
  becomes-same τ e =
      made_by Same (truth_read σ.names σ.model.arities (truths_now σ.model.actions) σ.rows es) (λ t. with_truth σ t.0 t.1)
      (λ t. (refl, counts-truth σ.model.actions _)) τ e

  start-same : (τ : Session) → start_line σ ≡ ok τ → Same τ
  unfolding start_line
  start-same τ e = made_by Same (weighed σ.model.arities σ.model.total σ.model.actions) (λ u. with_held σ Run (begin σ.model)) (λ u. (refl, refl)) τ e

  cases : Cases σ number es (Effect σ es)
  unfolding with_vocabulary with_total with_discount with_action
  cases = record {
    refusing = λ k r. keeps (λ q. refl) refl refl;
    for_constant = λ n e. keeps never (constant_by SameNames σ.names _ refl n e) refl;
    for_predicate = λ v e. keeps never (predicate-by SameNames (vocabulary_of σ) _ _ refl v e) refl;
    for_total = λ x e. keeps never refl refl;
    for_discount = λ q e. keeps never refl refl;
    for_reward = λ τ e. let s = reward-same τ e in keeps never s.0 s.1;
    for_action = λ n e.
        let s = action-by Added σ.names (key_in (word_at es 0)) (keys_in (drop 1 es)) (refl, refl) n e in
        adds refl refl s.0 (map_snoc (λ (a : Action). a.count) σ.model.actions _ ∙ ap (λ (ps : List Key). counts_of σ ++ (length ps ∷ [])) s.1);
    for_variant = λ τ e. let s = variant-same _ _ τ e in keeps never s.0 s.1;
    for_becomes = λ τ e. let s = becomes-same τ e in keeps never s.0 s.1;
    for_start = λ τ e. let s = start-same τ e in keeps never s.0 s.1;
    for_objects = λ l e. keeps never refl refl;
    for_is = λ l e. keeps never refl refl;
    for_true = λ l e. keeps never refl refl;
    for_value = λ v e. keeps never refl refl;
    for_backup = λ h e. keeps never refl refl;
    for_cut = λ h row edge left e d. keeps never refl refl;
    for_reduce = λ h e. keeps never refl refl;
    for_show = keeps never refl refl;
    for_text = λ n e. keeps never refl refl;
    for_best = λ x e. keeps never refl refl;
    for_count = λ l e. keeps never refl refl;
    for_did = λ l e. keeps never refl refl;
  }

effect : (σ : Session) (number : ℕ) (s : List ℕ) → Effect σ (words_of (line_kind s) s) (line_kind s) (reply σ number s)
unfolding line_kind
effect σ number s =
    let es = words_of (line_kind s) s in
    reply-by σ number s (Effect σ es) (λ e. keeps (λ q. blank e q) refl refl) (λ r. keeps (λ q. refl) refl refl)
    (λ a. done-by σ number es (Effect σ es) (cases σ number es) (line_kind s))
  where
    blank : {A : Type 0} → s ≡ [] → is_action (line_kind s) ≡ true → A
    blank e q = never (sym (ap (λ (t : List ℕ). is_action (line_kind t)) e) ∙ q)

-- ===== The lines of a text =====

-- the words of an (action n !p ..) line
pub action-key : (w : Words K.Action) → GoodLine (line K.Action w) → key_in (word_at (words_of K.Action (line_bytes (line K.Action w))) 0) ≡ key_of w.0
action-key w g = ap (λ (es : List Event). key_in (word_at es 0)) (line-events K.Action w g.0)

pub action-count : (w : Words K.Action) → GoodLine (line K.Action w) → length (keys_in (drop 1 (words_of K.Action (line_bytes (line K.Action w))))) ≡ length w.1
action-count w g =
    ap (λ (es : List Event). length (keys_in (drop 1 es))) (line-events K.Action w g.0)
    ∙ length-map (map parameter_event w.1) key_in ∙ length-map w.1 parameter_event

abbrev keys_of : List (Words K.Action) → List Key
keys_of ws = map (λ (w : Words K.Action). key_of w.0) ws

abbrev parameters_of : List (Words K.Action) → List ℕ
parameters_of ws = map (λ (w : Words K.Action). length w.1) ws

-- the actions behind lines are those before them, then the ones declared
record ActionsGrown (σ : Session) (ls : List (List ℕ)) (ys : List Reply) (τ : Session) : Type 0 where
  lines : List (Words K.Action)
  declared : Declares ls ys lines
  names : τ.names.actions ≡ σ.names.actions ++ keys_of lines
  counts : counts_of τ ≡ counts_of σ ++ parameters_of lines

lines-grow : (p : Progress) (ls : List (List ℕ)) → ActionsGrown p.session ls (replies p.session p.lines ls) (after_lines p ls).session
unfolding after_lines after_line replies
lines-grow p [] = record { lines = []; declared = no_line_lem; names = sym (append-nil p.session.names.actions); counts = sym (append-nil (counts_of p.session)) }
lines-grow p (s ∷ ls) = go (effect σ (suc p.lines) s) (lines-grow (replied p (has_bytes s) y) ls)
  where
    σ : Session
    σ = p.session

    y : Reply
    y = reply p.session (suc p.lines) s

    τ : Session
    τ = (after_lines (replied p (has_bytes s) y) ls).session

    ys : List Reply
    ys = replies y.session (suc p.lines) ls

    go : Effect σ (words_of (line_kind s) s) (line_kind s) y → ActionsGrown y.session ls ys τ → ActionsGrown σ (s ∷ ls) (y ∷ ys) τ
    go (keeps k n c) r = record {
      lines = r.lines;
      declared = other (λ w g e. k (ap is_action (ap line_kind e ∙ line-complete (line K.Action w) g))) r.declared;
      names = r.names ∙ ap (λ (l : List Key). l ++ keys_of r.lines) n;
      counts = r.counts ∙ ap (λ (l : List ℕ). l ++ parameters_of r.lines) c;
    }
    go (adds k f n c) r =
        let u = line-sound s K.Action k (unfold is_bad in refl) in
        let w = u.0 in
        let es : words_of (line_kind s) s ≡ words_of K.Action (line_bytes (line K.Action w)) = ap₂ words_of k u.2 in
        let key : key_in (word_at (words_of (line_kind s) s) 0) ≡ key_of w.0 = ap (λ (l : List Event). key_in (word_at l 0)) es ∙ action-key w u.1 in
        let count : length (keys_in (drop 1 (words_of (line_kind s) s))) ≡ length w.1 = ap (λ (l : List Event). length (keys_in (drop 1 l))) es ∙ action-count w u.1 in
        record {
          lines = w ∷ r.lines;
          declared = action w u.1 u.2 f r.declared;
          names =
              r.names ∙ ap (λ (l : List Key). l ++ keys_of r.lines) (n ∙ ap (λ (i : Key). σ.names.actions ++ (i ∷ [])) key)
              ∙ append_assoc σ.names.actions (key_of w.0 ∷ []) (keys_of r.lines);
          counts =
              r.counts ∙ ap (λ (l : List ℕ). l ++ parameters_of r.lines) (c ∙ ap (λ (i : ℕ). counts_of σ ++ (i ∷ [])) count)
              ∙ append_assoc (counts_of σ) (length w.1 ∷ []) (parameters_of r.lines);
        }

-- behind whatever lines
text-grown : (ls : List (List ℕ)) → ActionsGrown opening ls (replies opening 0 ls) (after_lines beginning ls).session
unfolding beginning
text-grown ls = lines-grow beginning ls

-- ===== The move's name =====

-- the default matches
map_at : {A B : Type 0} (f : A → B) (xs : List A) (i : ℕ) (d : A) (e : B) → f d ≡ e → get_or (map f xs) i e ≡ f (get_or xs i d)
map_at f [] i d e q = sym q
map_at f (x ∷ xs) zero d e q = refl
map_at f (x ∷ xs) (suc i) d e q = map_at f xs i d e q

map-within : {A B : Type 0} (f : A → B) (xs : List A) (i : ℕ) (d : A) (e : B) → i < length xs → get_or (map f xs) i e ≡ f (get_or xs i d)
map-within f [] i d e h = absurd (omega arith)
map-within f (x ∷ xs) zero d e h = refl
map-within f (x ∷ xs) (suc i) d e h = map-within f xs i d e (omega arith)

abbrev no_line : Words K.Action
no_line = ([], [])

declared-name : {ls : List (List ℕ)} {ys : List Reply} {ws : List (Words K.Action)} → Declares ls ys ws → (i : ℕ) → i < length ws → IsName (get_or ws i no_line).0
declared-name no_line_lem i h = absurd (omega arith)
declared-name (action w g e f r) zero h = g.0.0
declared-name (action w g e f r) (suc i) h = declared-name r i (omega arith)
declared-name (other k r) i h = declared-name r i h

tuple-length : {n c : ℕ} {os : List ℕ} → Tuple n c os → length os ≡ c
tuple-length none = refl
tuple-length (more h t) = ap suc (tuple-length t)

-- the name that is printed is the one that the text declares, and the objects are as many as the action has parameters
pub text-names : (ls : List (List ℕ)) (σ : Session) → σ ≡ (after_lines beginning ls).session → (x : Move) (y : Reply) → MovesBy σ x y → NamesMove ls x (reply_bytes y)
unfolding opening name_field action_at
text-names ls σ q x y h =
    let g = subst (λ (τ : Session). ActionsGrown opening ls (replies opening 0 ls) τ) (sym q) (text-grown ls) in
    let ws = g.lines in
    let i = x.action in
    let place : i < length ws = omega (arith, h.declared, ap length g.names, length-map ws (λ (w : Words K.Action). key_of w.0)) in
    let key = ap (λ (l : List Key). get_or l i no_key) g.names ∙ map-within (λ (w : Words K.Action). key_of w.0) ws i no_line no_key place in
    let name = ap name_of key ∙ name-of (get_or ws i no_line).0 (declared-name g.declared i place) in
    record {
      lines = ws;
      declared = g.declared;
      place = place;
      bytes = h.bytes ∙ ap (λ (n : List ℕ). best_head ++ (32 ∷ n) ++ fields x.objects ++ line_end) name;
      objects =
          tuple-length h.steps.chosen.is_move.objects-are
          ∙ sym (map_at (λ (a : Action). a.count) σ.model.actions i (record { count = 0; variants = [] }) 0 refl)
          ∙ ap (λ (l : List ℕ). get_or l i 0) g.counts
          ∙ map_at (λ (w : Words K.Action). length w.1) ws i no_line 0 refl;
    }
