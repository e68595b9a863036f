-- What each line does to the names of actions and variants (document 01, section 'Text'; document 02, L10).
use Rattle.std.specs.Prelude.{◌≡◌, Bool, true, false, ◌&&◌, ℕ, suc, ◌+◌, drop, leb}
use Rattle.std.proofs.Math.Path.{refl, sym, ap}
use Rattle.std.proofs.Common.{◌∙◌, arith, length-append}
use mathlib.Core.List.{List, [], ◌∷◌, ◌++◌, map, append-nil, append_assoc}
use Rattle.std.proofs.Math.ListN.{length}
use Rattle.basics.specs.Members.{clash}
use Rattle.refusal.specs.Outcome.{ok}
use Rattle.regression.specs.Regression.{Truths}
use Rattle.mdp.specs.Model.{Variant, Action}
use Rattle.mdp.specs.Runs.{begin}
use Rattle.words.specs.declared.Key.{Key}
use Rattle.text.specs.declared.Kind.{Kind}
use Rattle.text.specs.declared.Kind.TheVariants as K
use Rattle.text.specs.LineForm.{line_kind}
use Rattle.events.specs.declared.Event.{Event}
use Rattle.events.specs.Contents.{key_in, word_at, keys_in}
use Rattle.session.specs.declared.Part.TheVariants.{Run}
use Rattle.session.specs.Session.{Session, with_held}
use Rattle.session.specs.Session as S
use Rattle.session.specs.Declaring.{with_vocabulary, with_total, with_discount, with_action}
use Rattle.session.specs.ModelLines.{with_reward, reward_read, reward_line, add_variant, with_variant, weight_read, variant_line}
use Rattle.session.specs.ModelLines.{last_truths, last_variant, truths_now, with_truth, truth_read, becomes_line, weighed}
use Rattle.session.specs.Running.{start_line}
use Rattle.session.specs.Replies.{Reply, words_of, reply}
use Rattle.session_laws.specs.TextRuns.{is_refused}
use Rattle.session_laws.proofs.RunLaws.{made_by}
use Rattle.session_laws.proofs.CaseLaws.{Cases, vocabulary_of, done-by, reply-by}
use Rattle.session_laws.proofs.MadeLaws.{constant_by, predicate-by, action-by, change_of}
use Rattle.text_moves.specs.NameLaws.{map_snoc, counts-variant, counts-truth}

-- of the actions of the model: how many parameters, how many variants; the names of all variants, action by action
abbrev pub counts_of : Session → List ℕ
counts_of σ = map (λ (a : Action). a.count) σ.model.actions

abbrev pub lens_of : Session → List ℕ
lens_of σ = map (λ (a : Action). length a.variants) σ.model.actions

abbrev pub all_of : Session → List Key
all_of σ = σ.names.earlier ++ σ.names.variants

-- n more for the last of the numbers
abbrev pub add_last : List ℕ → ℕ → List ℕ
add_last [] n = []
add_last (a ∷ []) n = (a + n) ∷ []
add_last (a ∷ b ∷ l) n = a ∷ add_last (b ∷ l) n

pub add_none : (l : List ℕ) → add_last l 0 ≡ l
add_none [] = refl
add_none (a ∷ []) = ap (λ (x : ℕ). x ∷ []) (omega arith)
add_none (a ∷ b ∷ l) = ap (λ (t : List ℕ). a ∷ t) (add_none (b ∷ l))

pub add-more : (l : List ℕ) (n : ℕ) → add_last (add_last l 1) n ≡ add_last l (suc n)
add-more [] n = refl
add-more (a ∷ []) n = ap (λ (x : ℕ). x ∷ []) (omega arith)
add-more (a ∷ b ∷ []) n = ap (λ (x : ℕ). a ∷ x ∷ []) (omega arith)
add-more (a ∷ b ∷ c ∷ l) n = ap (λ (t : List ℕ). a ∷ t) (add-more (b ∷ c ∷ l) n)

pub add-new : (l : List ℕ) (n : ℕ) → add_last (l ++ (0 ∷ [])) n ≡ l ++ (n ∷ [])
add-new [] n = ap (λ (x : ℕ). x ∷ []) (omega arith)
add-new (a ∷ []) n = ap (λ (x : ℕ). a ∷ x ∷ []) (omega arith)
add-new (a ∷ b ∷ l) n = ap (λ (t : List ℕ). a ∷ t) (add-new (b ∷ l) n)

lens-variant : (l : List Action) (v : Variant) → map (λ (b : Action). length b.variants) (add_variant l v) ≡ add_last (map (λ (b : Action). length b.variants) l) 1
lens-variant [] v = refl
lens-variant (a ∷ []) v = ap (λ (x : ℕ). x ∷ []) (length-append a.variants (v ∷ []))
lens-variant (a ∷ b ∷ l) v = ap (λ (t : List ℕ). length a.variants ∷ t) (lens-variant (b ∷ l) v)

truths-length : (l : List Variant) (f : Truths → Truths) → length (last_truths l f) ≡ length l
truths-length [] f = refl
truths-length (v ∷ []) f = refl
truths-length (v ∷ u ∷ l) f = ap suc (truths-length (u ∷ l) f)

lens-truth : (l : List Action) (f : Truths → Truths) → map (λ (b : Action). length b.variants) (last_variant l f) ≡ map (λ (b : Action). length b.variants) l
lens-truth [] f = refl
lens-truth (a ∷ []) f = ap (λ (x : ℕ). x ∷ []) (truths-length a.variants f)
lens-truth (a ∷ b ∷ l) f = ap (λ (t : List ℕ). length a.variants ∷ t) (lens-truth (b ∷ l) f)

-- the kinds that declare actions and variants
abbrev pub declaring : Kind → Bool
declaring k = leb 1 (change_of k) && leb (change_of k) 2

-- the names and numbers of τ are those of σ
pub record Same (σ τ : Session) : Type 0 where
  pub actions : τ.names.actions ≡ σ.names.actions
  pub counts : counts_of τ ≡ counts_of σ
  pub lens : lens_of τ ≡ lens_of σ
  pub all : all_of τ ≡ all_of σ

-- an accepted (action ..) adds an action with no variant, an accepted (variant ..) a variant of the last action; any other line leaves names and numbers
pub data NamesEffect (σ : Session) (es : List Event) (k : Kind) (y : Reply) : Type 0 where
  an-action : k ≡ K.Action → is_refused y.answer ≡ false → y.session.names.actions ≡ σ.names.actions ++ (key_in (word_at es 0) ∷ [])
      → counts_of y.session ≡ counts_of σ ++ (length (keys_in (drop 1 es)) ∷ []) → lens_of y.session ≡ lens_of σ ++ (0 ∷ []) → all_of y.session ≡ all_of σ → NamesEffect σ es k y
  a_variant : k ≡ K.Variant → is_refused y.answer ≡ false → y.session.names.actions ≡ σ.names.actions → counts_of y.session ≡ counts_of σ
      → lens_of y.session ≡ add_last (lens_of σ) 1 → all_of y.session ≡ all_of σ ++ (key_in (word_at es 0) ∷ []) → NamesEffect σ es k y
  leaves : (declaring k ≡ true → is_refused y.answer ≡ true) → Same σ y.session → NamesEffect σ es k y

never : {A : Type 0} → false ≡ true → A
never e = clash e refl

same : (σ : Session) → Same σ σ
same σ = record { actions = refl; counts = refl; lens = refl; all = refl }

module _ (σ : Session) (number : ℕ) (es : List Event) where
  -- the names of actions and variants as they were, and with one action more
  abbrev SameNames : S.Names → Type 0
  SameNames n = (n.actions ≡ σ.names.actions) × (n.earlier ++ n.variants ≡ all_of σ)

  abbrev Added : S.Names → Type 0
  Added n = (n.actions ≡ σ.names.actions ++ (key_in (word_at es 0) ∷ [])) × (n.parameters ≡ keys_in (drop 1 es)) × (n.earlier ++ n.variants ≡ all_of σ)

  reward-same : (τ : Session) → reward_line σ es ≡ ok τ → Same σ τ
  unfolding reward_line with_reward
  reward-same τ e = made_by (Same σ) (reward_read σ.names σ.model.arities σ.rows es) (with_reward σ) (λ d. record { actions = refl; counts = refl; lens = refl; all = refl }) τ e

  becomes-same : (τ : Session) → becomes_line σ es ≡ ok τ → Same σ τ
  unfolding becomes_line with_truth
  becomes-same τ e =
      made_by (Same σ) (truth_read σ.names σ.model.arities (truths_now σ.model.actions) σ.rows es) (λ t. with_truth σ t.0 t.1)
      (λ t. record { actions = refl; counts = counts-truth σ.model.actions _; lens = lens-truth σ.model.actions _; all = refl }) τ e

  start-same : (τ : Session) → start_line σ ≡ ok τ → Same σ τ
  unfolding start_line
  start-same τ e =
      made_by (Same σ) (weighed σ.model.arities σ.model.total σ.model.actions) (λ u. with_held σ Run (begin σ.model))
      (λ u. record { actions = refl; counts = refl; lens = refl; all = refl }) τ e

  -- one variant more
  abbrev Varied : Key → Session → Type 0
  Varied k τ = (τ.names.actions ≡ σ.names.actions) × (counts_of τ ≡ counts_of σ) × (lens_of τ ≡ add_last (lens_of σ) 1) × (all_of τ ≡ all_of σ ++ (k ∷ []))

  variant-more : (k : Key) (fs : List Event) (τ : Session) → variant_line σ k fs ≡ ok τ → Varied k τ
  unfolding variant_line with_variant
  variant-more k fs τ e =
      made_by (Varied k) (weight_read σ.names σ.model.arities σ.rows k fs) (with_variant σ k)
      (λ d. (refl, counts-variant σ.model.actions _, lens-variant σ.model.actions _, sym (append_assoc σ.names.earlier σ.names.variants (k ∷ [])))) τ e

  cases : Cases σ number es (NamesEffect σ es)
  unfolding with_vocabulary with_total with_discount with_action
  cases = record {
    refusing = λ k r. leaves (λ q. refl) (same σ);
    for_constant = λ n e. let s = constant_by SameNames σ.names _ (refl, refl) n e in leaves never (record { actions = s.0; counts = refl; lens = refl; all = s.1 });
    for_predicate = λ v e. let s = predicate-by SameNames (vocabulary_of σ) _ _ (refl, refl) v e in leaves never (record { actions = s.0; counts = refl; lens = refl; all = s.1 });
    for_total = λ x e. leaves never (record { actions = refl; counts = refl; lens = refl; all = refl });
    for_discount = λ q e. leaves never (record { actions = refl; counts = refl; lens = refl; all = refl });
    for_reward = λ τ e. leaves never (reward-same τ e);
    for_action = λ n e.
        let s = action-by Added σ.names (key_in (word_at es 0)) (keys_in (drop 1 es)) (refl, refl, append-nil (all_of σ)) n e in
        an-action refl refl s.0 (map_snoc (λ (a : Action). a.count) σ.model.actions _ ∙ ap (λ (ps : List Key). counts_of σ ++ (length ps ∷ [])) s.1)
        (map_snoc (λ (a : Action). length a.variants) σ.model.actions _) s.2;
    for_variant = λ τ e. let s = variant-more _ _ τ e in a_variant refl refl s.0 s.1 s.2 s.3;
    for_becomes = λ τ e. leaves never (becomes-same τ e);
    for_start = λ τ e. leaves never (start-same τ e);
    for_objects = λ l e. leaves never (record { actions = refl; counts = refl; lens = refl; all = refl });
    for_is = λ l e. leaves never (record { actions = refl; counts = refl; lens = refl; all = refl });
    for_true = λ l e. leaves never (record { actions = refl; counts = refl; lens = refl; all = refl });
    for_value = λ v e. leaves never (same σ);
    for_backup = λ h e. leaves never (record { actions = refl; counts = refl; lens = refl; all = refl });
    for_cut = λ h row edge left e d. leaves never (record { actions = refl; counts = refl; lens = refl; all = refl });
    for_reduce = λ h e. leaves never (record { actions = refl; counts = refl; lens = refl; all = refl });
    for_show = leaves never (same σ);
    for_text = λ n e. leaves never (same σ);
    for_best = λ x e. leaves never (same σ);
    for_count = λ l e. leaves never (same σ);
    for_did = λ l e. leaves never (record { actions = refl; counts = refl; lens = refl; all = refl });
  }

pub effect : (σ : Session) (number : ℕ) (s : List ℕ) → NamesEffect σ (words_of (line_kind s) s) (line_kind s) (reply σ number s)
unfolding line_kind
effect σ number s =
    let es = words_of (line_kind s) s in
    reply-by σ number s (NamesEffect σ es) (λ e. leaves (λ q. blank e q) (same σ)) (λ r. leaves (λ q. refl) (same σ))
    (λ a. done-by σ number es (NamesEffect σ es) (cases σ number es) (line_kind s))
  where
    blank : {A : Type 0} → s ≡ [] → declaring (line_kind s) ≡ true → A
    blank e q = never (sym (ap (λ (t : List ℕ). declaring (line_kind t)) e) ∙ q)
