-- No two truth diagrams of a variant are drawn for one predicate: a second (becomes (p ?a ..) DIAGRAM) is refused by 2 (document 01, section 'Text').
use Rattle.std.specs.Prelude.{◌≡◌, true, false, List, [], ◌∷◌, ℕ, suc, ◌<◌, length, get_or, ltb, eqb}
use Rattle.std.proofs.Math.Path.{refl}
use Rattle.std.proofs.Common.{ap, subst, ◌∙◌, arith, eqb-true, eq-eqb}
use Rattle.std.proofs.Math.Option.{none}
use Rattle.basics.specs.Tests.{Flag, is_true, is_false, flag}
use Rattle.basics.specs.Members.{clash}
use Rattle.refusal.specs.declared.Refusal.TheVariants.{Name, Truth, Space}
use Rattle.refusal.specs.Outcome.{Accepted}
use Rattle.refusal.specs.OutcomeLaws.{accepted-ok, accepted-next, accepted-cond}
use Rattle.diagram.specs.Diagram.{Diagram}
use Rattle.regression.specs.Regression.{Truths}
use Rattle.regression.specs.RegressCall.{leaf_above}
use Rattle.mdp.specs.Model.{Variant, Action, Every}
use Rattle.text.specs.declared.Kind.TheVariants as K
use Rattle.events.specs.declared.Event.{Event}
use Rattle.events.specs.Events.{words_events}
use Rattle.reading.specs.declared.Binding.TheVariants.{Only}
use Rattle.reading.specs.Reading.{arguments, reading}
use Rattle.reading.specs.Head.{head_number, head_arguments}
use Rattle.build.specs.Machine.{built}
use Rattle.session.specs.Session.{Names, Session}
use Rattle.session.specs.Good.{LastAction}
use Rattle.session.specs.ModelLines.{most_model_rows, names_for, rows_with, with_truth_at, last_truths, last_variant, truths_of_last, truths_now, is_some, truth_read}
use Rattle.session.specs.Texts.{Progress, after_lines, beginning}
use Rattle.session_laws.specs.TextReplies.{replies}
use Rattle.session_laws.proofs.TextLaws.{Sound, reply-sound, text-sound}
use Rattle.text_replays.specs.Inner.{OneEach, DrawnOnce}
use Rattle.text_replays.specs.Drawings.{VariantDrawn, ActionDrawn, Drawings, ends, action, variant, becomes, other, DrawingsOf, or_else, if_so, drawn_for}
use Rattle.text_replays.proofs.DrawingLaws.{actions_of}
use Rattle.text_replays.proofs.DrawnLaws.{first-truth, first-other, next}

-- ===== The truth diagrams of the last variant =====

module _ (f : Truths → Truths) where
  last-truth : (l : List Variant) → 0 < length l → truths_of_last (last_truths l f) ≡ f (truths_of_last l)
  last-truth [] h = absurd (omega arith)
  last-truth (v ∷ []) h = refl
  last-truth (v ∷ u ∷ []) h = refl
  last-truth (v ∷ u ∷ w ∷ l) h = last-truth (u ∷ w ∷ l) (omega arith)

  now-truth : (l : List Action) (c v : ℕ) → LastAction l c v → 0 < v → truths_now (last_variant l f) ≡ f (truths_now l)
  now-truth [] c v e h = absurd (omega arith)
  now-truth (a ∷ []) c v e h = last-truth a.variants (omega (arith, e.1))
  now-truth (a ∷ b ∷ []) c v e h = last-truth b.variants (omega (arith, e.1))
  now-truth (a ∷ b ∷ d ∷ l) c v e h = now-truth (b ∷ d ∷ l) c v e h

-- a line is accepted for a predicate without one
truth-new : (n : Names) (ar : List ℕ) (truths : Truths) (r : ℕ) (es : List Event) → Accepted (λ (t : ℕ × Diagram). is_some (truths t.0) ≡ false) (truth_read n ar truths r es)
unfolding truth_read
truth-new n ar truths r es =
    accepted-next (head_number n.predicates es) _ (λ p h.
    accepted-cond (is_some (truths p)) Name _ (λ a.
    accepted-next (head_arguments (get_or ar p 0) es) _ (λ x b.
    accepted-next (reading (names_for n ar Only n.parameters) x.rest (arguments x.variables)) _ (λ y c.
    accepted-next (built y.operations) _ (λ d e.
    accepted-cond (leaf_above 1 d) Truth _ (λ f.
    accepted-cond (ltb most_model_rows (rows_with r d)) Space _ (λ g.
    accepted-ok a)))))))

-- none is drawn for a predicate that has one
abbrev Apart : Truths → List (ℕ × Diagram) → Type 0
Apart truths ts = (q : ℕ) → is_some (truths q) ≡ true → drawn_for ts q ≡ none

module _ (truths : Truths) (t : ℕ × Diagram) (ts : List (ℕ × Diagram)) (new : is_some (truths t.0) ≡ false) (h : Apart (with_truth_at truths t.0 t.1) ts) where
  apart-first : drawn_for ts t.0 ≡ none
  unfolding with_truth_at
  apart-first = h t.0 (rw (eq-eqb t.0 t.0 refl) refl)

  apart_more : Apart truths (t ∷ ts)
  unfolding with_truth_at
  apart_more q e = go (flag (eqb q t.0))
    where
      go : Flag (eqb q t.0) → or_else (drawn_for ts q) (if_so (eqb q t.0) t.1) ≡ none
      go (is_true z) = clash e (ap (λ (i : ℕ). is_some (truths i)) (eqb-true q t.0 z) ∙ new)
      go (is_false z) = let d : drawn_for ts q ≡ none = h q (rw z e) in rw (z, d) refl

-- ===== Line by line =====

record Single (σ : Session) (ts : List (ℕ × Diagram)) (vs : List VariantDrawn) (xs : List ActionDrawn) : Type 0 where
  apart : Apart (truths_now (actions_of σ)) ts
  first : OneEach ts
  variants : Every (λ (v : VariantDrawn). OneEach v.truths) vs
  actions : DrawnOnce xs

single : (p : Progress) → Sound p.session → (ls : List (List ℕ)) (ts : List (ℕ × Diagram)) (vs : List VariantDrawn) (xs : List ActionDrawn)
    → Drawings p.session ls (replies p.session p.lines ls) ts vs xs → Single p.session ts vs xs
unfolding replies
single p g [] ts vs xs ends = record { apart = λ q e. refl; first = tt; variants = tt; actions = tt }
single p g (s ∷ ls) ts vs xs (action {vs = us} {xs = zs} w l b f d) =
    let r = single (next p s) (reply-sound p.session g (suc p.lines) s) ls [] us zs d in
    record { apart = λ q e. refl; first = tt; variants = tt; actions = (r.variants, r.actions) }
single p g (s ∷ ls) ts vs xs (variant {ts = rs} {vs = us} w l b f c o d) =
    let r = single (next p s) (reply-sound p.session g (suc p.lines) s) ls rs us xs d in
    record { apart = λ q e. refl; first = tt; variants = (r.first, r.variants); actions = r.actions }
single p g (s ∷ ls) ts vs xs (becomes {ts = rs} w l b f t o d) =
    let σ = p.session in
    let r = single (next p s) (reply-sound p.session g (suc p.lines) s) ls rs vs xs d in
    let k = first-truth p.session (suc p.lines) s w l b f t o in
    let truths = truths_now (actions_of p.session) in
    let e = ap truths_now k.0 ∙ now-truth (λ x. with_truth_at x t.0 t.1) (actions_of p.session) _ _ g.good.agreeing.last k.1 in
    let new = (truth-new σ.names σ.model.arities truths σ.rows (words_events K.Becomes w)).given t o in
    let h = subst (λ (x : Truths). Apart x rs) e r.apart in
    record { apart = apart_more truths t rs new h; first = (apart-first truths t rs new h, r.first); variants = r.variants; actions = r.actions }
single p g (s ∷ ls) ts vs xs (other a b c d) =
    let r = single (next p s) (reply-sound p.session g (suc p.lines) s) ls ts vs xs d in
    let e = (first-other p.session (suc p.lines) s a b c).actions in
    record { apart = subst (λ (x : List Action). Apart (truths_now x) ts) e r.apart; first = r.first; variants = r.variants; actions = r.actions }

-- behind whatever lines
pub drawn-once : (ls : List (List ℕ)) (xs : List ActionDrawn) → DrawingsOf ls xs → DrawnOnce xs
unfolding beginning after_lines
drawn-once ls xs d = (single beginning (text-sound []) ls [] [] xs d).actions
