-- What the lines of a text draw for each variant: its weight and its truth diagrams, in types (document 01, section 'Text'; document 02, L10).
use Rattle.std.specs.Prelude.{◌≡◌, Bool, true, false, List, [], ◌∷◌, map, ℕ, get_or, eqb}
use Rattle.std.proofs.Math.Option.{Option, some, none}
use Rattle.refusal.specs.Outcome.{ok}
use Rattle.diagram.specs.Diagram.{Diagram, leaf}
use Rattle.regression.specs.Regression.{Truths}
use Rattle.mdp.specs.Model.{Variant, Action}
use Rattle.replay.specs.Replay.{variant_of}
use Rattle.words.specs.Keys.{key_of}
use Rattle.text.specs.declared.Kind.TheVariants as K
use Rattle.text.specs.Line.{Words, line_bytes, GoodLine}
use Rattle.text.specs.Line.Line.{line}
use Rattle.events.specs.Events.{diagram_events, words_events}
use Rattle.session.specs.Session.{Session, opening}
use Rattle.session.specs.ModelLines.{weight_read, truths_now, truth_read}
use Rattle.session.specs.Replies.{Reply}
use Rattle.session_laws.specs.TextReplies.{replies}
use Rattle.session_laws.specs.TextRuns.{is_refused}
use Rattle.text_replays.specs.Claims.{AcceptedAs, reached, did_in, ActionLines, NamesDid}

-- an accepted (variant n WEIGHT) line: its name, the diagram of WEIGHT, and those of the accepted (becomes (p ?a ..) DIAGRAM) lines behind it, before the next accepted
-- (variant ..) or (action ..) line, each with the number of p
pub record VariantDrawn : Type 0 where
  pub name : List ℕ
  pub weight : Diagram
  pub truths : List (ℕ × Diagram)

-- an accepted (action n !p ..) line, and its variants
pub record ActionDrawn : Type 0 where
  pub action : Words K.Action
  pub variants : List VariantDrawn

-- d is what WEIGHT of the line with the words w is read as, in the session σ before it
abbrev pub DrawsWeight : Session → Words K.Variant → Diagram → Type 0
DrawsWeight σ w d = weight_read σ.names σ.model.arities σ.rows (key_of w.0) (diagram_events w.1) ≡ ok d

-- t is the number of p, and what DIAGRAM is read as
abbrev pub DrawsTruth : Session → Words K.Becomes → ℕ × Diagram → Type 0
DrawsTruth σ w t = truth_read σ.names σ.model.arities (truths_now σ.model.actions) σ.rows (words_events K.Becomes w) ≡ ok t

-- the accepted (action ..), (variant ..) and (becomes ..) lines among the lines behind the session σ, with their replies, in order: ts are drawn before the first variant,
-- vs are the variants before the first action, xs the actions with theirs. No (becomes ..) stands between an action and its first variant.
pub data Drawings : Session → List (List ℕ) → List Reply → List (ℕ × Diagram) → List VariantDrawn → List ActionDrawn → Type 0 where
  ends : {σ : Session} → Drawings σ [] [] [] [] []
  action : {σ : Session} {s : List ℕ} {ls : List (List ℕ)} {y : Reply} {ys : List Reply} {vs : List VariantDrawn} {xs : List ActionDrawn} (w : Words K.Action)
      → GoodLine (line K.Action w) → s ≡ line_bytes (line K.Action w) → is_refused y.answer ≡ false → Drawings y.session ls ys [] vs xs
      → Drawings σ (s ∷ ls) (y ∷ ys) [] [] (record { action = w; variants = vs } ∷ xs)
  variant : {σ : Session} {s : List ℕ} {ls : List (List ℕ)} {y : Reply} {ys : List Reply} {ts : List (ℕ × Diagram)} {vs : List VariantDrawn} {xs : List ActionDrawn}
      (w : Words K.Variant) → GoodLine (line K.Variant w) → s ≡ line_bytes (line K.Variant w) → is_refused y.answer ≡ false
      → (d : Diagram) → DrawsWeight σ w d → Drawings y.session ls ys ts vs xs
      → Drawings σ (s ∷ ls) (y ∷ ys) [] (record { name = w.0; weight = d; truths = ts } ∷ vs) xs
  becomes : {σ : Session} {s : List ℕ} {ls : List (List ℕ)} {y : Reply} {ys : List Reply} {ts : List (ℕ × Diagram)} {vs : List VariantDrawn} {xs : List ActionDrawn}
      (w : Words K.Becomes) → GoodLine (line K.Becomes w) → s ≡ line_bytes (line K.Becomes w) → is_refused y.answer ≡ false
      → (t : ℕ × Diagram) → DrawsTruth σ w t → Drawings y.session ls ys ts vs xs → Drawings σ (s ∷ ls) (y ∷ ys) (t ∷ ts) vs xs
  other : {σ : Session} {s : List ℕ} {ls : List (List ℕ)} {y : Reply} {ys : List Reply} {ts : List (ℕ × Diagram)} {vs : List VariantDrawn} {xs : List ActionDrawn}
      → (AcceptedAs K.Action s y → ⊥) → (AcceptedAs K.Variant s y → ⊥) → (AcceptedAs K.Becomes s y → ⊥) → Drawings y.session ls ys ts vs xs
      → Drawings σ (s ∷ ls) (y ∷ ys) ts vs xs

-- xs is what the lines of a text draw
abbrev pub DrawingsOf : List (List ℕ) → List ActionDrawn → Type 0
DrawingsOf ls xs = Drawings opening ls (replies opening 0 ls) [] [] xs

-- their names, without the diagrams
abbrev pub lines_of : ActionDrawn → ActionLines
lines_of x = record { action = x.action; variants = map (λ v. v.name) x.variants }

-- ===== The model that they give =====

abbrev pub or_else : Option Diagram → Option Diagram → Option Diagram
or_else none y = y
or_else (some d) y = some d

abbrev pub if_so : Bool → Diagram → Option Diagram
if_so true d = some d
if_so false d = none

-- the diagram that was drawn for the predicate q; none where none was (a second one for q is refused by 2: DrawnOnce)
abbrev pub drawn_for : List (ℕ × Diagram) → Truths
drawn_for [] q = none
drawn_for (t ∷ ts) q = or_else (drawn_for ts q) (if_so (eqb q t.0) t.1)

abbrev pub variant_from : VariantDrawn → Variant
variant_from v = record { weight = v.weight; truths = drawn_for v.truths }

-- what the lines draw for variant v of action a
abbrev pub no_drawing : ActionDrawn
no_drawing = record { action = ([], []); variants = [] }

abbrev pub none_drawn : VariantDrawn
none_drawn = record { name = []; weight = leaf 0; truths = [] }

abbrev pub drawn_at : List ActionDrawn → ℕ → ℕ → VariantDrawn
drawn_at xs a v = get_or (get_or xs a no_drawing).variants v none_drawn

-- the words w of a (did ..) line name an action and a variant of the text, and it moves the state by the weight and the truth diagrams that the lines of these names draw
pub record DidDrawn (ls : List (List ℕ)) (xs : List ActionDrawn) (w : Words K.Did) : Type 0 where
  pub names : NamesDid ls (map lines_of xs) w
  pub action : (get_or xs (did_in (reached ls) w).action no_drawing).action.0 ≡ w.0
  pub name : (drawn_at xs (did_in (reached ls) w).action (did_in (reached ls) w).variant).name ≡ w.1
  pub variant : variant_of (reached ls).model (did_in (reached ls) w) ≡ variant_from (drawn_at xs (did_in (reached ls) w).action (did_in (reached ls) w).variant)
