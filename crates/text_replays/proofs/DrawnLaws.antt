-- The weights and truth diagrams behind the lines of a text are those that its accepted (variant ..) and (becomes ..) lines draw (document 01, section 'Text'; document 02, L10).
use Rattle.std.specs.Prelude.{◌≡◌, refl, Bool, true, false, cond, ℕ, suc, ◌<◌, length, get_or, drop, eqb}
use Rattle.std.proofs.Math.Path.{sym, fun_ext}
use Rattle.std.proofs.Common.{ap, ap₂, subst, ◌∙◌, arith}
use mathlib.Core.List.{List, [], ◌∷◌, ◌++◌, map, append-nil, append_assoc}
use Rattle.std.proofs.Math.Option.{Option, some, none}
use Rattle.basics.specs.Members.{clash}
use Rattle.diagram.specs.Diagram.{Diagram}
use Rattle.regression.specs.Regression.{Truths}
use Rattle.mdp.specs.Model.{Variant, Action}
use Rattle.replay.specs.Replay.{Did, no_action, no_variant, variant_of}
use Rattle.words.specs.Keys.{key_of}
use Rattle.text.specs.declared.Kind.TheVariants as K
use Rattle.text.specs.Line.{Words, is_bad, line_bytes, GoodLine}
use Rattle.text.specs.Line.Line.{line}
use Rattle.text.specs.LineForm.{line_kind}
use Rattle.text.specs.LineLaws.{line-complete, line-sound}
use Rattle.events.specs.declared.Event.{Event}
use Rattle.events.specs.Events.{diagram_events, words_events}
use Rattle.events.specs.Contents.{keys_in}
use Rattle.events.specs.LineEvents.{line-events}
use Rattle.session.specs.Session.{Session, opening}
use Rattle.session.specs.ModelLines.{weight_read, add_variant, no_truths, with_truth_at, last_truths, last_variant}
use Rattle.session.specs.Replies.{Reply, words_of, reply}
use Rattle.session.specs.Texts.{has_bytes, Progress, replied, after_line, after_lines, beginning}
use Rattle.session_laws.specs.TextReplies.{replies}
use Rattle.session_laws.specs.TextRuns.{is_refused}
use Rattle.text_moves.specs.NameLaws.{action-count}
use Rattle.text_replays.specs.Claims.{reached, AcceptedAs, did_in, NamesPass, ActionLines, Declarations}
use Rattle.text_replays.specs.Claims as C
use Rattle.text_replays.specs.Drawings.{VariantDrawn, ActionDrawn, DrawsWeight, DrawsTruth, Drawings, ends, action, variant, becomes, other, DrawingsOf, lines_of}
use Rattle.text_replays.specs.Inner.{action_from, DrawnBy}
use Rattle.text_replays.specs.Drawings.{or_else, if_so, drawn_for, variant_from, no_drawing, none_drawn, drawn_at, DidDrawn}
use Rattle.text_replays.proofs.DrawingLaws.{drawing, actions_of, Same, read_weight, read_truth, ActionsEffect, an-action, a_variant, a-truth, leaves, effect}
use Rattle.text_replays.proofs.DeclaredLaws.{map_at, none_before}
use Rattle.text_replays.proofs.NameLaws.{text-did-names}

-- ===== The last variant =====

-- the truth diagrams t, and those drawn behind them
abbrev over : List (ℕ × Diagram) → Truths → Truths
over ts t q = or_else (drawn_for ts q) (t q)

else-none : (x : Option Diagram) → or_else x none ≡ x
else-none none = refl
else-none (some d) = refl

else-more : (x : Option Diagram) (b : Bool) (d : Diagram) (z : Option Diagram) → or_else x (cond b (some d) z) ≡ or_else (or_else x (if_so b d)) z
else-more none true d z = refl
else-more none false d z = refl
else-more (some c) b d z = refl

over_none : (ts : List (ℕ × Diagram)) → over ts no_truths ≡ drawn_for ts
over_none ts = fun_ext (λ q. else-none (drawn_for ts q))

over-more : (t : ℕ × Diagram) (ts : List (ℕ × Diagram)) (truths : Truths) → over ts (with_truth_at truths t.0 t.1) ≡ over (t ∷ ts) truths
unfolding with_truth_at
over-more t ts truths = fun_ext (λ q. else-more (drawn_for ts q) (eqb q t.0) t.1 (truths q))

truths-stay : (l : List Variant) → last_truths l (λ t. t) ≡ l
truths-stay [] = refl
truths-stay (v ∷ []) = refl
truths-stay (v ∷ u ∷ l) = ap (v ∷◌) (truths-stay (u ∷ l))

last-stays : (l : List Action) → last_variant l (λ t. t) ≡ l
last-stays [] = refl
last-stays (a ∷ []) = ap (λ (vs : List Variant). record { count = a.count; variants = vs } ∷ []) (truths-stay a.variants)
last-stays (a ∷ b ∷ l) = ap (a ∷◌) (last-stays (b ∷ l))

module _ (f g : Truths → Truths) where
  truths-twice : (l : List Variant) → last_truths (last_truths l f) g ≡ last_truths l (λ t. g (f t))
  truths-twice [] = refl
  truths-twice (v ∷ []) = refl
  truths-twice (v ∷ u ∷ []) = refl
  truths-twice (v ∷ u ∷ w ∷ l) = ap (v ∷◌) (truths-twice (u ∷ w ∷ l))

  last-twice : (l : List Action) → last_variant (last_variant l f) g ≡ last_variant l (λ t. g (f t))
  last-twice [] = refl
  last-twice (a ∷ []) = ap (λ (vs : List Variant). record { count = a.count; variants = vs } ∷ []) (truths-twice a.variants)
  last-twice (a ∷ b ∷ []) = ap (λ (vs : List Variant). a ∷ record { count = b.count; variants = vs } ∷ []) (truths-twice b.variants)
  last-twice (a ∷ b ∷ c ∷ l) = ap (a ∷◌) (last-twice (b ∷ c ∷ l))

module _ (f : Truths → Truths) (v : Variant) where
  abbrev changed : Variant
  changed = record { weight = v.weight; truths = f v.truths }

  truths-new : (l : List Variant) → last_truths (l ++ (v ∷ [])) f ≡ l ++ (changed ∷ [])
  truths-new [] = refl
  truths-new (u ∷ []) = refl
  truths-new (u ∷ w ∷ l) = ap (u ∷◌) (truths-new (w ∷ l))

  last-new : (l : List Action) → last_variant (add_variant l v) f ≡ add_variant l changed
  last-new [] = refl
  last-new (a ∷ []) = ap (λ (vs : List Variant). record { count = a.count; variants = vs } ∷ []) (truths-new a.variants)
  last-new (a ∷ b ∷ []) = ap (λ (vs : List Variant). a ∷ record { count = b.count; variants = vs } ∷ []) (truths-new b.variants)
  last-new (a ∷ b ∷ c ∷ l) = ap (a ∷◌) (last-new (b ∷ c ∷ l))

-- ===== Variants of the last action =====

abbrev add_all : List Action → List Variant → List Action
add_all l [] = l
add_all l (v ∷ vs) = add_all (add_variant l v) vs

add-last : (l : List Action) (a : Action) (v : Variant) → add_variant (l ++ (a ∷ [])) v ≡ l ++ (record { count = a.count; variants = a.variants ++ (v ∷ []) } ∷ [])
add-last [] a v = refl
add-last (b ∷ []) a v = refl
add-last (b ∷ c ∷ l) a v = ap (b ∷◌) (add-last (c ∷ l) a v)

all-last : (l : List Action) (a : Action) (vs : List Variant) → add_all (l ++ (a ∷ [])) vs ≡ l ++ (record { count = a.count; variants = a.variants ++ vs } ∷ [])
all-last l a [] = ap (λ (us : List Variant). l ++ (record { count = a.count; variants = us } ∷ [])) (sym (append-nil a.variants))
all-last l a (v ∷ vs) =
    ap (λ (x : List Action). add_all x vs) (add-last l a v)
    ∙ all-last l (record { count = a.count; variants = a.variants ++ (v ∷ []) }) vs
    ∙ ap (λ (us : List Variant). l ++ (record { count = a.count; variants = us } ∷ [])) (append_assoc a.variants (v ∷ []) vs)

-- ===== Line by line =====

-- the actions l, then the truths ts of the last variant, the variants vs of the last action, and the actions xs
abbrev grown_by : List Action → List (ℕ × Diagram) → List VariantDrawn → List ActionDrawn → List Action
grown_by l ts vs xs = add_all (last_variant l (over ts)) (map variant_from vs) ++ map action_from xs

grow-none : (l : List Action) → l ≡ grown_by l [] [] []
grow-none l = sym (append-nil (last_variant l (over [])) ∙ last-stays l)

module _ (l : List Action) (vs : List VariantDrawn) (xs : List ActionDrawn) where
  grow-action : (w : Words K.Action) → grown_by (l ++ (record { count = length w.1; variants = [] } ∷ [])) [] vs xs ≡ grown_by l [] [] (record { action = w; variants = vs } ∷ xs)
  grow-action w =
      let a : Action = record { count = length w.1; variants = [] } in
      ap (λ (x : List Action). add_all x (map variant_from vs) ++ map action_from xs) (last-stays (l ++ (a ∷ [])))
      ∙ ap (λ (x : List Action). x ++ map action_from xs) (all-last l a (map variant_from vs))
      ∙ append_assoc l (record { count = length w.1; variants = map variant_from vs } ∷ []) (map action_from xs)
      ∙ ap (λ (x : List Action). x ++ (record { count = length w.1; variants = map variant_from vs } ∷ map action_from xs)) (sym (last-stays l))

  grow-variant : (n : List ℕ) (d : Diagram) (ts : List (ℕ × Diagram))
      → grown_by (add_variant l (record { weight = d; truths = no_truths })) ts vs xs ≡ grown_by l [] (record { name = n; weight = d; truths = ts } ∷ vs) xs
  grow-variant n d ts =
      ap (λ (x : List Action). add_all x (map variant_from vs) ++ map action_from xs) (last-new (over ts) (record { weight = d; truths = no_truths }) l)
      ∙ ap (λ (t : Truths). add_all (add_variant l (record { weight = d; truths = t })) (map variant_from vs) ++ map action_from xs) (over_none ts)
      ∙ ap (λ (x : List Action). add_all (add_variant x (record { weight = d; truths = drawn_for ts })) (map variant_from vs) ++ map action_from xs) (sym (last-stays l))

  grow-truth : (t : ℕ × Diagram) (ts : List (ℕ × Diagram)) → grown_by (last_variant l (λ truths. with_truth_at truths t.0 t.1)) ts vs xs ≡ grown_by l (t ∷ ts) vs xs
  grow-truth t ts =
      ap (λ (x : List Action). add_all x (map variant_from vs) ++ map action_from xs) (last-twice (λ truths. with_truth_at truths t.0 t.1) (over ts) l)
      ∙ ap (λ (f : Truths → Truths). add_all (last_variant l f) (map variant_from vs) ++ map action_from xs) (fun_ext (over-more t ts))

-- one line
module _ (σ : Session) (number : ℕ) (s : List ℕ) where
  abbrev y : Reply
  y = reply σ number s

  weight-words : (w : Words K.Variant) → GoodLine (line K.Variant w) → s ≡ line_bytes (line K.Variant w) → line_kind s ≡ K.Variant
      → read_weight σ (words_of (line_kind s) s) ≡ weight_read σ.names σ.model.arities σ.rows (key_of w.0) (diagram_events w.1)
  weight-words w g b k = ap (read_weight σ) (ap₂ words_of k b ∙ line-events K.Variant w g.0)

  truth-words : (w : Words K.Becomes) → GoodLine (line K.Becomes w) → s ≡ line_bytes (line K.Becomes w) → line_kind s ≡ K.Becomes
      → read_truth σ (words_of (line_kind s) s) ≡ read_truth σ (words_events K.Becomes w)
  truth-words w g b k = ap (read_truth σ) (ap₂ words_of k b ∙ line-events K.Becomes w g.0)

  first-action : (w : Words K.Action) → GoodLine (line K.Action w) → s ≡ line_bytes (line K.Action w) → is_refused y.answer ≡ false
      → actions_of y.session ≡ actions_of σ ++ (record { count = length w.1; variants = [] } ∷ [])
  first-action w g b f = go (effect σ number s)
    where
      kind : line_kind s ≡ K.Action
      kind = ap line_kind b ∙ line-complete (line K.Action w) g

      go : ActionsEffect σ (words_of (line_kind s) s) (line_kind s) y → actions_of y.session ≡ actions_of σ ++ (record { count = length w.1; variants = [] } ∷ [])
      go (leaves k e) = clash (k (ap drawing kind)) f
      go (a_variant k h d q e) = let x = sym kind ∙ k in let z : ◌≡◌ {A = ℕ} 0 1 = cc in absurd (omega arith)
      go (a-truth k h t q e n) = let x = sym kind ∙ k in let z : ◌≡◌ {A = ℕ} 0 1 = cc in absurd (omega arith)
      go (an-action k h e n) =
          let es : words_of (line_kind s) s ≡ words_of K.Action (line_bytes (line K.Action w)) = ap₂ words_of kind b in
          let count = ap (λ (z : List Event). length (keys_in (drop 1 z))) es ∙ action-count w g in
          e ∙ ap (λ (i : ℕ). actions_of σ ++ (record { count = i; variants = [] } ∷ [])) count

  first-variant : (w : Words K.Variant) → GoodLine (line K.Variant w) → s ≡ line_bytes (line K.Variant w) → is_refused y.answer ≡ false → (d : Diagram) → DrawsWeight σ w d
      → actions_of y.session ≡ add_variant (actions_of σ) (record { weight = d; truths = no_truths })
  first-variant w g b f c o = go (effect σ number s)
    where
      kind : line_kind s ≡ K.Variant
      kind = ap line_kind b ∙ line-complete (line K.Variant w) g

      go : ActionsEffect σ (words_of (line_kind s) s) (line_kind s) y → actions_of y.session ≡ add_variant (actions_of σ) (record { weight = c; truths = no_truths })
      go (leaves k e) = clash (k (ap drawing kind)) f
      go (an-action k h e n) = let x = sym kind ∙ k in let z : ◌≡◌ {A = ℕ} 0 1 = cc in absurd (omega arith)
      go (a-truth k h t q e n) = let x = sym kind ∙ k in let z : ◌≡◌ {A = ℕ} 0 1 = cc in absurd (omega arith)
      go (a_variant k h d q e) =
          let x = sym q ∙ weight-words w g b kind ∙ o in
          let z : d ≡ c = cc in
          e ∙ ap (λ (i : Diagram). add_variant (actions_of σ) (record { weight = i; truths = no_truths })) z

  pub first-truth : (w : Words K.Becomes) → GoodLine (line K.Becomes w) → s ≡ line_bytes (line K.Becomes w) → is_refused y.answer ≡ false → (t : ℕ × Diagram) → DrawsTruth σ w t
      → (actions_of y.session ≡ last_variant (actions_of σ) (λ truths. with_truth_at truths t.0 t.1)) × (0 < length σ.names.variants)
  first-truth w g b f c o = go (effect σ number s)
    where
      kind : line_kind s ≡ K.Becomes
      kind = ap line_kind b ∙ line-complete (line K.Becomes w) g

      go : ActionsEffect σ (words_of (line_kind s) s) (line_kind s) y
          → (actions_of y.session ≡ last_variant (actions_of σ) (λ truths. with_truth_at truths c.0 c.1)) × (0 < length σ.names.variants)
      go (leaves k e) = clash (k (ap drawing kind)) f
      go (an-action k h e n) = let x = sym kind ∙ k in let z : ◌≡◌ {A = ℕ} 0 1 = cc in absurd (omega arith)
      go (a_variant k h d q e) = let x = sym kind ∙ k in let z : ◌≡◌ {A = ℕ} 0 1 = cc in absurd (omega arith)
      go (a-truth k h t q e n) =
          let x = sym q ∙ truth-words w g b kind ∙ o in
          let z : t ≡ c = cc in
          (e ∙ ap (λ (i : ℕ × Diagram). last_variant (actions_of σ) (λ truths. with_truth_at truths i.0 i.1)) z, n)

  pub first-other : (AcceptedAs K.Action s y → ⊥) → (AcceptedAs K.Variant s y → ⊥) → (AcceptedAs K.Becomes s y → ⊥) → Same σ y.session
  first-other a b c = go (effect σ number s)
    where
      go : ActionsEffect σ (words_of (line_kind s) s) (line_kind s) y → Same σ y.session
      go (leaves k e) = e
      go (an-action k h e n) = absurd (a (k, h))
      go (a_variant k h d q e) = absurd (b (k, h))
      go (a-truth k h t q e n) = absurd (c (k, h))

abbrev pub next : Progress → List ℕ → Progress
next p s = replied p (has_bytes s) (reply p.session (suc p.lines) s)

grown : (p : Progress) (ls : List (List ℕ)) (ts : List (ℕ × Diagram)) (vs : List VariantDrawn) (xs : List ActionDrawn)
    → Drawings p.session ls (replies p.session p.lines ls) ts vs xs → actions_of (after_lines p ls).session ≡ grown_by (actions_of p.session) ts vs xs
unfolding after_lines after_line replies
grown p [] ts vs xs ends = grow-none (actions_of p.session)
grown p (s ∷ ls) ts vs xs (action {vs = us} {xs = zs} w g b f d) =
    grown (next p s) ls [] us zs d
    ∙ ap (λ (l : List Action). grown_by l [] us zs) (first-action p.session (suc p.lines) s w g b f)
    ∙ grow-action (actions_of p.session) us zs w
grown p (s ∷ ls) ts vs xs (variant {ts = rs} {vs = us} w g b f c o d) =
    grown (next p s) ls rs us xs d
    ∙ ap (λ (l : List Action). grown_by l rs us xs) (first-variant p.session (suc p.lines) s w g b f c o)
    ∙ grow-variant (actions_of p.session) us xs w.0 c rs
grown p (s ∷ ls) ts vs xs (becomes {ts = rs} w g b f t o d) =
    grown (next p s) ls rs vs xs d
    ∙ ap (λ (l : List Action). grown_by l rs vs xs) (first-truth p.session (suc p.lines) s w g b f t o).0
    ∙ grow-truth (actions_of p.session) vs xs t rs
grown p (s ∷ ls) ts vs xs (other a b c d) =
    grown (next p s) ls ts vs xs d ∙ ap (λ (l : List Action). grown_by l ts vs xs) (first-other p.session (suc p.lines) s a b c).actions

-- ===== There are such, behind any lines =====

-- no (becomes ..) is accepted where the last action has no variant
none_open : (p : Progress) (ls : List (List ℕ)) (ts : List (ℕ × Diagram)) (vs : List VariantDrawn) (xs : List ActionDrawn) → p.session.names.variants ≡ []
    → Drawings p.session ls (replies p.session p.lines ls) ts vs xs → ts ≡ []
unfolding replies
none_open p [] ts vs xs e ends = refl
none_open p (s ∷ ls) ts vs xs e (action w g b f d) = refl
none_open p (s ∷ ls) ts vs xs e (variant w g b f c o d) = refl
none_open p (s ∷ ls) ts vs xs e (becomes w g b f t o d) =
    let n = (first-truth p.session (suc p.lines) s w g b f t o).1 in
    absurd (omega (arith, n, ap length e))
none_open p (s ∷ ls) ts vs xs e (other a b c d) = none_open (next p s) ls ts vs xs ((first-other p.session (suc p.lines) s a b c).variants ∙ e) d

abbrev SomeDrawn : Session → List (List ℕ) → List Reply → Type 0
SomeDrawn σ ls ys = (ts : List (ℕ × Diagram)) × (vs : List VariantDrawn) × (xs : List ActionDrawn) × Drawings σ ls ys ts vs xs

drawings-are : (p : Progress) (ls : List (List ℕ)) → SomeDrawn p.session ls (replies p.session p.lines ls)
unfolding replies
drawings-are p [] = ([], [], [], ends)
drawings-are p (s ∷ ls) = go (effect p.session (suc p.lines) s) (drawings-are (next p s) ls)
  where
    z : Reply
    z = reply p.session (suc p.lines) s

    zs : List Reply
    zs = replies z.session (suc p.lines) ls

    go : ActionsEffect p.session (words_of (line_kind s) s) (line_kind s) z → SomeDrawn z.session ls zs → SomeDrawn p.session (s ∷ ls) (z ∷ zs)
    go (leaves k e) r =
        (r.0, r.1, r.2, other (λ a. clash (k (ap drawing a.0)) a.1) (λ a. clash (k (ap drawing a.0)) a.1) (λ a. clash (k (ap drawing a.0)) a.1) r.3)
    go (an-action k f e n) r =
        let u = line-sound s K.Action k (unfold is_bad in refl) in
        let o = none_open (next p s) ls r.0 r.1 r.2 n r.3 in (
          [],
          [],
          record { action = u.0; variants = r.1 } ∷ r.2,
          action u.0 u.1 u.2 f (subst (λ (ts : List (ℕ × Diagram)). Drawings z.session ls zs ts r.1 r.2) o r.3),
        )
    go (a_variant k f d q e) r =
        let u = line-sound s K.Variant k (unfold is_bad in refl) in
        let o = sym (weight-words p.session (suc p.lines) s u.0 u.1 u.2 k) ∙ q in
        ([], record { name = u.0.0; weight = d; truths = r.0 } ∷ r.1, r.2, variant u.0 u.1 u.2 f d o r.3)
    go (a-truth k f t q e n) r =
        let u = line-sound s K.Becomes k (unfold is_bad in refl) in
        let o = sym (truth-words p.session (suc p.lines) s u.0 u.1 u.2 k) ∙ q in
        (t ∷ r.0, r.1, r.2, becomes u.0 u.1 u.2 f t o r.3)

-- ===== Their names =====

no-action : (s : List ℕ) → line_kind s ≡ K.Becomes → line_kind s ≡ K.Action → ⊥
no-action s k e = let x = sym k ∙ e in let z : ◌≡◌ {A = ℕ} 0 1 = cc in absurd (omega arith)

no_variant_lem : (s : List ℕ) → line_kind s ≡ K.Becomes → line_kind s ≡ K.Variant → ⊥
no_variant_lem s k e = let x = sym k ∙ e in let z : ◌≡◌ {A = ℕ} 0 1 = cc in absurd (omega arith)

drawn-names : {σ : Session} {ls : List (List ℕ)} {ys : List Reply} {ts : List (ℕ × Diagram)} {vs : List VariantDrawn} {xs : List ActionDrawn}
    → Drawings σ ls ys ts vs xs → Declarations ls ys (map (λ (v : VariantDrawn). v.name) vs) (map lines_of xs)
drawn-names ends = C.none
drawn-names (action w g b f d) = C.action w g b f (drawn-names d)
drawn-names (variant w g b f c o d) = C.variant w g b f (drawn-names d)
drawn-names (becomes {s = s} w g b f t o d) =
    let k = ap line_kind b ∙ line-complete (line K.Becomes w) g in
    C.other (λ a. no-action s k a.0) (λ a. no_variant_lem s k a.0) (drawn-names d)
drawn-names (other a b c d) = C.other a b (drawn-names d)

-- ===== The diagrams behind a text =====

none-drawn : (vs : List VariantDrawn) → map (λ (v : VariantDrawn). v.name) vs ≡ [] → vs ≡ []
none-drawn [] e = refl
none-drawn (v ∷ vs) e = absurd (omega (arith, ap length e))

-- behind whatever lines there are such drawings
pub text-draws : (ls : List (List ℕ)) → (xs : List ActionDrawn) × DrawingsOf ls xs
unfolding beginning opening
text-draws ls =
    let r = drawings-are beginning ls in
    let t = none_open beginning ls r.0 r.1 r.2 refl r.3 in
    let v = none-drawn r.1 (none_before ls _ _ (drawn-names r.3)) in
    let a = subst (λ (ts : List (ℕ × Diagram)). Drawings opening ls (replies opening 0 ls) ts r.1 r.2) t r.3 in
    (r.2, subst (λ (vs : List VariantDrawn). Drawings opening ls (replies opening 0 ls) [] vs r.2) v a)

-- and the model has them
pub text-drawn : (ls : List (List ℕ)) (xs : List ActionDrawn) → DrawingsOf ls xs → DrawnBy ls xs
unfolding beginning opening
text-drawn ls xs d = record { names = drawn-names d; actions = grown beginning ls [] [] xs d }

-- ===== A (did ..) line =====

module _ (ls : List (List ℕ)) (xs : List ActionDrawn) (d : DrawingsOf ls xs) (w : Words K.Did) (good : GoodLine (line K.Did w)) where
  abbrev did : Did
  did = did_in (reached ls) w

  lines_at : get_or (map lines_of xs) did.action C.no_lines ≡ lines_of (get_or xs did.action no_drawing)
  lines_at = map_at lines_of xs did.action no_drawing C.no_lines refl

  variant-drawn : variant_of (reached ls).model did ≡ variant_from (drawn_at xs did.action did.variant)
  variant-drawn =
      ap (λ (l : List Action). get_or (get_or l did.action no_action).variants did.variant no_variant) (text-drawn ls xs d).actions
      ∙ ap (λ (a : Action). get_or a.variants did.variant no_variant) (map_at action_from xs did.action no_drawing no_action refl)
      ∙ map_at variant_from (get_or xs did.action no_drawing).variants did.variant none_drawn no_variant refl

  -- where names and counts pass, it moves by the diagrams that the lines of these names draw
  pub text-did-drawn : NamesPass (reached ls) w → DidDrawn ls xs w
  text-did-drawn n =
      let h = text-did-names ls (map lines_of xs) (drawn-names d) w good n in
      record {
        names = h;
        action = sym (ap (λ (x : ActionLines). x.action.0) lines_at) ∙ sym (map_at (λ (x : ActionLines). x.action.0) (map lines_of xs) did.action C.no_lines [] refl) ∙ h.action.name;
        name =
            sym (map_at (λ (v : VariantDrawn). v.name) (get_or xs did.action no_drawing).variants did.variant none_drawn [] refl)
            ∙ sym (ap (λ (x : ActionLines). get_or x.variants did.variant []) lines_at) ∙ h.variant.name;
        variant = variant-drawn;
      }
