-- The names of actions and variants behind the lines of a text are those of its accepted (action ..) and (variant ..) lines, in order (document 02, L10).
use Rattle.std.specs.Prelude.{◌≡◌, refl, false, ℕ, zero, suc, ◌+◌, get_or, drop}
use Rattle.std.proofs.Common.{sym, ap₂, subst, ◌∙◌, arith, take_at, drop_at}
use Rattle.std.proofs.Math.Path.{ap}
use mathlib.Core.List.{List, [], ◌∷◌, ◌++◌, map, append-nil, append_assoc}
use Rattle.std.proofs.Math.ListN.{length, length-append, length-map}
use Rattle.basics.specs.Members.{clash}
use Rattle.state.specs.Max.{sum_of}
use Rattle.mdp.specs.Model.{Variant, Action}
use Rattle.replay.specs.Replay.{no_action}
use Rattle.words.specs.declared.Key.{Key}
use Rattle.words.specs.Keys.{key_of}
use Rattle.text.specs.declared.Kind.TheVariants as K
use Rattle.text.specs.Line.{Words, is_bad, line_bytes, GoodLine}
use Rattle.text.specs.Line.Line.{line}
use Rattle.text.specs.LineForm.{line_kind}
use Rattle.text.specs.LineLaws.{line-complete, line-sound}
use Rattle.events.specs.declared.Event.{Event}
use Rattle.events.specs.Contents.{key_in, word_at, keys_in}
use Rattle.events.specs.LineEvents.{line-events}
use Rattle.session.specs.Session.{Session, opening}
use Rattle.session.specs.Replaying.{variant_names_from, variant_names}
use Rattle.session.specs.Replies.{Reply, words_of, reply}
use Rattle.session.specs.Texts.{has_bytes, Progress, replied, after_line, after_lines, beginning}
use Rattle.session.specs.Good.{variant_count}
use Rattle.session_laws.specs.TextReplies.{replies}
use Rattle.session_laws.specs.TextRuns.{is_refused}
use Rattle.session_laws.proofs.TextLaws.{text-sound}
use Rattle.text_moves.specs.NameLaws.{action-key, action-count}
use Rattle.text_replays.specs.Claims.{reached, ActionLines, no_lines, AcceptedAs, Declarations, none, action, variant, other}
use Rattle.text_replays.specs.Inner.{DeclaredBy}
use Rattle.text_replays.specs.Claims.{DeclarationsOf}
use Rattle.text_replays.proofs.DeclaringLaws.{counts_of, lens_of, all_of, add_last, add_none, add-more, add-new, declaring, Same, NamesEffect, an-action, a_variant, leaves, effect}

-- the name of a (variant n WEIGHT) line
variant-key : (w : Words K.Variant) → GoodLine (line K.Variant w) → key_in (word_at (words_of K.Variant (line_bytes (line K.Variant w))) 0) ≡ key_of w.0
variant-key w g = ap (λ (es : List Event). key_in (word_at es 0)) (line-events K.Variant w g.0)

abbrev keys_of : List ActionLines → List Key
keys_of xs = map (λ (x : ActionLines). key_of x.action.0) xs

abbrev parameters_of : List ActionLines → List ℕ
parameters_of xs = map (λ (x : ActionLines). length x.action.1) xs

abbrev lens_in : List ActionLines → List ℕ
lens_in xs = map (λ (x : ActionLines). length x.variants) xs

abbrev all_in : List ActionLines → List Key
all_in [] = []
all_in (x ∷ xs) = map key_of x.variants ++ all_in xs

-- the names of τ are those of σ, then the variants vs of the last action, then the actions xs with theirs
record NamesGrown (σ τ : Session) (vs : List (List ℕ)) (xs : List ActionLines) : Type 0 where
  actions : τ.names.actions ≡ σ.names.actions ++ keys_of xs
  counts : counts_of τ ≡ counts_of σ ++ parameters_of xs
  lens : lens_of τ ≡ add_last (lens_of σ) (length vs) ++ lens_in xs
  all : all_of τ ≡ all_of σ ++ (map key_of vs ++ all_in xs)

module _ (σ ρ τ : Session) (vs : List (List ℕ)) (xs : List ActionLines) (r : NamesGrown ρ τ vs xs) where
  grow-leaves : Same σ ρ → NamesGrown σ τ vs xs
  grow-leaves e = record {
    actions = r.actions ∙ ap (λ (l : List Key). l ++ keys_of xs) e.actions;
    counts = r.counts ∙ ap (λ (l : List ℕ). l ++ parameters_of xs) e.counts;
    lens = r.lens ∙ ap (λ (l : List ℕ). add_last l (length vs) ++ lens_in xs) e.lens;
    all = r.all ∙ ap (λ (l : List Key). l ++ (map key_of vs ++ all_in xs)) e.all;
  }

  grow-action : (w : Words K.Action) → ρ.names.actions ≡ σ.names.actions ++ (key_of w.0 ∷ []) → counts_of ρ ≡ counts_of σ ++ (length w.1 ∷ [])
      → lens_of ρ ≡ lens_of σ ++ (0 ∷ []) → all_of ρ ≡ all_of σ → NamesGrown σ τ [] (record { action = w; variants = vs } ∷ xs)
  grow-action w n c l v = record {
    actions = r.actions ∙ ap (λ (z : List Key). z ++ keys_of xs) n ∙ append_assoc σ.names.actions (key_of w.0 ∷ []) (keys_of xs);
    counts = r.counts ∙ ap (λ (z : List ℕ). z ++ parameters_of xs) c ∙ append_assoc (counts_of σ) (length w.1 ∷ []) (parameters_of xs);
    lens =
        r.lens ∙ ap (λ (z : List ℕ). add_last z (length vs) ++ lens_in xs) l
        ∙ ap (λ (z : List ℕ). z ++ lens_in xs) (add-new (lens_of σ) (length vs))
        ∙ append_assoc (lens_of σ) (length vs ∷ []) (lens_in xs)
        ∙ ap (λ (z : List ℕ). z ++ (length vs ∷ lens_in xs)) (sym (add_none (lens_of σ)));
    all = r.all ∙ ap (λ (z : List Key). z ++ (map key_of vs ++ all_in xs)) v;
  }

  grow-variant : (w : Words K.Variant) → ρ.names.actions ≡ σ.names.actions → counts_of ρ ≡ counts_of σ
      → lens_of ρ ≡ add_last (lens_of σ) 1 → all_of ρ ≡ all_of σ ++ (key_of w.0 ∷ []) → NamesGrown σ τ (w.0 ∷ vs) xs
  grow-variant w n c l v = record {
    actions = r.actions ∙ ap (λ (z : List Key). z ++ keys_of xs) n;
    counts = r.counts ∙ ap (λ (z : List ℕ). z ++ parameters_of xs) c;
    lens = r.lens ∙ ap (λ (z : List ℕ). add_last z (length vs) ++ lens_in xs) l ∙ ap (λ (z : List ℕ). z ++ lens_in xs) (add-more (lens_of σ) (length vs));
    all = r.all ∙ ap (λ (z : List Key). z ++ (map key_of vs ++ all_in xs)) v ∙ append_assoc (all_of σ) (key_of w.0 ∷ []) (map key_of vs ++ all_in xs);
  }

-- one line, then lines that declare vs and xs
module _ (σ : Session) (number : ℕ) (s : List ℕ) (τ : Session) (vs : List (List ℕ)) (xs : List ActionLines) (r : NamesGrown (reply σ number s).session τ vs xs) where
  abbrev y : Reply
  y = reply σ number s

  first-action : (w : Words K.Action) → GoodLine (line K.Action w) → s ≡ line_bytes (line K.Action w) → is_refused y.answer ≡ false
      → NamesGrown σ τ [] (record { action = w; variants = vs } ∷ xs)
  first-action w g b f = go (effect σ number s)
    where
      kind : line_kind s ≡ K.Action
      kind = ap line_kind b ∙ line-complete (line K.Action w) g

      go : NamesEffect σ (words_of (line_kind s) s) (line_kind s) y → NamesGrown σ τ [] (record { action = w; variants = vs } ∷ xs)
      go (leaves k e) = clash (k (ap declaring kind)) f
      go (a_variant k h n c l v) = let e = sym kind ∙ k in let z : ◌≡◌ {A = ℕ} 0 1 = cc in absurd (omega arith)
      go (an-action k h n c l v) =
          let es : words_of (line_kind s) s ≡ words_of K.Action (line_bytes (line K.Action w)) = ap₂ words_of kind b in
          let key = ap (λ (z : List Event). key_in (word_at z 0)) es ∙ action-key w g in
          let count = ap (λ (z : List Event). length (keys_in (drop 1 z))) es ∙ action-count w g in
          grow-action σ y.session τ vs xs r w (n ∙ ap (λ (i : Key). σ.names.actions ++ (i ∷ [])) key) (c ∙ ap (λ (i : ℕ). counts_of σ ++ (i ∷ [])) count) l v

  first-variant : (w : Words K.Variant) → GoodLine (line K.Variant w) → s ≡ line_bytes (line K.Variant w) → is_refused y.answer ≡ false → NamesGrown σ τ (w.0 ∷ vs) xs
  first-variant w g b f = go (effect σ number s)
    where
      kind : line_kind s ≡ K.Variant
      kind = ap line_kind b ∙ line-complete (line K.Variant w) g

      go : NamesEffect σ (words_of (line_kind s) s) (line_kind s) y → NamesGrown σ τ (w.0 ∷ vs) xs
      go (leaves k e) = clash (k (ap declaring kind)) f
      go (an-action k h n c l v) = let e = sym kind ∙ k in let z : ◌≡◌ {A = ℕ} 0 1 = cc in absurd (omega arith)
      go (a_variant k h n c l v) =
          let es : words_of (line_kind s) s ≡ words_of K.Variant (line_bytes (line K.Variant w)) = ap₂ words_of kind b in
          let key = ap (λ (z : List Event). key_in (word_at z 0)) es ∙ variant-key w g in
          grow-variant σ y.session τ vs xs r w n c l (v ∙ ap (λ (i : Key). all_of σ ++ (i ∷ [])) key)

  first-other : (AcceptedAs K.Action s y → ⊥) → (AcceptedAs K.Variant s y → ⊥) → NamesGrown σ τ vs xs
  first-other a b = go (effect σ number s)
    where
      go : NamesEffect σ (words_of (line_kind s) s) (line_kind s) y → NamesGrown σ τ vs xs
      go (leaves k e) = grow-leaves σ y.session τ vs xs r e
      go (an-action k h n c l v) = absurd (a (k, h))
      go (a_variant k h n c l v) = absurd (b (k, h))

grown : (p : Progress) (ls : List (List ℕ)) (vs : List (List ℕ)) (xs : List ActionLines) → Declarations ls (replies p.session p.lines ls) vs xs
    → NamesGrown p.session (after_lines p ls).session vs xs
unfolding after_lines after_line replies
grown p [] vs xs none = record {
  actions = sym (append-nil p.session.names.actions);
  counts = sym (append-nil (counts_of p.session));
  lens = sym (add_none (lens_of p.session)) ∙ sym (append-nil (add_last (lens_of p.session) 0));
  all = sym (append-nil (all_of p.session));
}
grown p (s ∷ ls) vs xs (action {vs = us} {xs = zs} w g b f d) =
    first-action p.session (suc p.lines) s _ us zs (grown (replied p (has_bytes s) (reply p.session (suc p.lines) s)) ls us zs d) w g b f
grown p (s ∷ ls) vs xs (variant {vs = us} w g b f d) =
    first-variant p.session (suc p.lines) s _ us xs (grown (replied p (has_bytes s) (reply p.session (suc p.lines) s)) ls us xs d) w g b f
grown p (s ∷ ls) vs xs (other a b d) =
    first-other p.session (suc p.lines) s _ vs xs (grown (replied p (has_bytes s) (reply p.session (suc p.lines) s)) ls vs xs d) a b

-- there are such, behind any lines
declarations-are : (p : Progress) (ls : List (List ℕ)) → (vs : List (List ℕ)) × (xs : List ActionLines) × Declarations ls (replies p.session p.lines ls) vs xs
unfolding replies
declarations-are p [] = ([], [], none)
declarations-are p (s ∷ ls) = go (effect p.session (suc p.lines) s) (declarations-are (replied p (has_bytes s) y) ls)
  where
    y : Reply
    y = reply p.session (suc p.lines) s

    ys : List Reply
    ys = replies y.session (suc p.lines) ls

    go : NamesEffect p.session (words_of (line_kind s) s) (line_kind s) y → (vs : List (List ℕ)) × (xs : List ActionLines) × Declarations ls ys vs xs
        → (vs : List (List ℕ)) × (xs : List ActionLines) × Declarations (s ∷ ls) (y ∷ ys) vs xs
    go (leaves k e) r = (r.0, r.1, other (λ a. clash (k (ap declaring a.0)) a.1) (λ a. clash (k (ap declaring a.0)) a.1) r.2)
    go (an-action k f n c l v) r =
        let u = line-sound s K.Action k (unfold is_bad in refl) in
        ([], record { action = u.0; variants = r.0 } ∷ r.1, action u.0 u.1 u.2 f r.2)
    go (a_variant k f n c l v) r =
        let u = line-sound s K.Variant k (unfold is_bad in refl) in
        (u.0.0 ∷ r.0, r.1, variant u.0 u.1 u.2 f r.2)

-- ===== The names behind a text =====

all-length : (xs : List ActionLines) → length (all_in xs) ≡ sum_of (lens_in xs) (λ n. n)
unfolding sum_of
all-length [] = refl
all-length (x ∷ xs) =
    let h = all-length xs in
    let k = length-map x.variants key_of in
    length-append (map key_of x.variants) (all_in xs) ∙ omega arith

lens-sum : (l : List Action) → variant_count l ≡ sum_of (map (λ (a : Action). length a.variants) l) (λ n. n)
unfolding variant_count sum_of
lens-sum [] = refl
lens-sum (a ∷ l) = ap (λ (n : ℕ). length a.variants + n) (lens-sum l)

no_names : (vs : List (List ℕ)) → length vs ≡ 0 → vs ≡ []
no_names [] e = refl
no_names (v ∷ vs) e = absurd (omega arith)

-- the names of the variants of an action, taken out of all
names_at : (l : List Action) (xs : List ActionLines) → map (λ (a : Action). length a.variants) l ≡ lens_in xs → (a : ℕ)
    → variant_names_from (all_in xs) l a ≡ map key_of (get_or xs a no_lines).variants
names_at [] [] e a = refl
names_at [] (x ∷ xs) e a = absurd (omega (arith, ap length e))
names_at (b ∷ l) [] e a = absurd (omega (arith, ap length e))
names_at (b ∷ l) (x ∷ xs) e zero =
    let n : length (map key_of x.variants) ≡ length b.variants = length-map x.variants key_of ∙ sym (ap (λ (z : List ℕ). get_or z 0 0) e) in
    take_at (map key_of x.variants) (all_in xs) (length b.variants) n
names_at (b ∷ l) (x ∷ xs) e (suc a) =
    let n : length (map key_of x.variants) ≡ length b.variants = length-map x.variants key_of ∙ sym (ap (λ (z : List ℕ). get_or z 0 0) e) in
    ap (λ (ks : List Key). variant_names_from ks l a) (drop_at (map key_of x.variants) (all_in xs) (length b.variants) n)
    ∙ names_at l xs (ap (drop 1) e) a

-- the default matches
pub map_at : {A B : Type 0} (f : A → B) (xs : List A) (i : ℕ) (d : A) (e : B) → f d ≡ e → get_or (map f xs) i e ≡ f (get_or xs i d)
map_at f [] i d e q = sym q
map_at f (x ∷ xs) zero d e q = refl
map_at f (x ∷ xs) (suc i) d e q = map_at f xs i d e q

module _ (ls : List (List ℕ)) (vs : List (List ℕ)) (xs : List ActionLines) (d : Declarations ls (replies opening 0 ls) vs xs) where
  text-grown : NamesGrown opening (reached ls) vs xs
  unfolding beginning
  text-grown = grown beginning ls vs xs d

  -- no variant is declared before the first action
  pub none_before : vs ≡ []
  unfolding opening
  none_before =
      let g = text-grown in
      let σ = reached ls in
      let a = length-append σ.names.earlier σ.names.variants in
      let b = ap length g.all in
      let c = length-append (map key_of vs) (all_in xs) in
      let e = length-map vs key_of in
      let f = all-length xs in
      let h = (text-sound ls).good.agreeing.all ∙ lens-sum σ.model.actions ∙ ap (λ (l : List ℕ). sum_of l (λ n. n)) g.lens in
      no_names vs (omega arith)

-- behind whatever lines there are such declarations
pub text-declares : (ls : List (List ℕ)) → (xs : List ActionLines) × DeclarationsOf ls xs
unfolding beginning
text-declares ls =
    let r = declarations-are beginning ls in
    (r.1, subst (λ (vs : List (List ℕ)). Declarations ls (replies opening 0 ls) vs r.1) (none_before ls r.0 r.1 r.2) r.2)

-- and the session has their names
pub text-declared : (ls : List (List ℕ)) (xs : List ActionLines) → DeclarationsOf ls xs → DeclaredBy ls xs
unfolding opening variant_names
text-declared ls xs d =
    let g = text-grown ls [] xs d in
    let σ = reached ls in
    record {
      actions = g.actions;
      parameters = λ a.
          sym (map_at (λ (x : Action). x.count) σ.model.actions a no_action 0 refl) ∙ ap (λ (l : List ℕ). get_or l a 0) g.counts
          ∙ map_at (λ (x : ActionLines). length x.action.1) xs a no_lines 0 refl;
      variants = λ a. ap (λ (ks : List Key). variant_names_from ks σ.model.actions a) g.all ∙ names_at σ.model.actions xs g.lens a;
    }
