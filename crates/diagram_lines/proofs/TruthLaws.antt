-- Laws of what stands on a (becomes (p ?a ..) DIAGRAM): its head, and its diagram.
use mathlib.Core.Path.{◌≡◌, refl, sym, ap, subst, ◌∙◌}
use mathlib.Core.Bool.{Bool, true, false, cond}
use mathlib.Core.List.{List}
use Prim.Native.Nat.{ℕ, ◌*◌, ◌/◌, ◌≤◌, ◌<◌}
use native.Mathlib.Omega.{arith}
use lib.ListN.{length, get_or, take, drop}
use lib.Seq.{length-take-le}
use Rattle.refusal.specs.declared.Refusal.{Refusal}
use Rattle.refusal.specs.declared.Refusal.TheVariants.{Name, Truth}
use Rattle.label.specs.Limits.{predicate_count, most_places}
use Rattle.diagram.specs.Sizes.{result_words}
use Rattle.diagram.specs.Diagram.{Diagram}
use Rattle.diagram.specs.Rows.{rows}
use Rattle.diagram.specs.Listing.{diagram_of}
use Rattle.diagram.specs.Validity.{Valid}
use Rattle.diagram.specs.ListingOfDiagram.{valid-listing}
use Rattle.refusal.specs.Outcome.{Outcome, ok, refused, and_then}
use Rattle.regression.specs.Regression.{Truths}
use Rattle.regression.specs.RegressCall.{leaf_above}
use Rattle.words.specs.declared.Key.{Key}
use Rattle.text.specs.declared.Kind.TheVariants.{Becomes}
use Rattle.text.specs.Line.{line_bytes}
use Rattle.text.specs.Line.Line.{line}
use Rattle.events.specs.declared.Event.{Event}
use Rattle.events.specs.Events.{first_word, diagram_events}
use Rattle.events.specs.Front.{events_of}
use Rattle.names.specs.Keys.{keys_at}
use Rattle.names.specs.Layout.{declared_at}
use Rattle.reading.specs.declared.Binding.TheVariants.{Only}
use Rattle.reading.specs.Head.{Head, head_number, head_arguments, head_keys}
use Rattle.reading.specs.LineLaws.{becomes-arguments}
use Rattle.reading.specs.OutcomeLaws.{apart, ok-one, chained}
use Rattle.reader.specs.Callers.{variable_words, names_of as table_names, judged_predicate, PredicateWithin, Opens, judged_head, HeadWithin, Heads}
use Rattle.label.proofs.ArityLaws.{arity-most, arity-words}
use Rattle.drawing.specs.Writing.{built_as}
use Rattle.session.specs.Session.{Names}
use Rattle.session.specs.ModelLines.{names_for, is_some, truths_now}
use Rattle.session.specs.Replies.{words_of}
use Rattle.declare.specs.Tables.{names_of, GoodNames}
use Rattle.model.specs.Layout.{model_of}
use Rattle.model_entry.specs.Adding.{TruthRoom, HasTruth}
use Rattle.memory.specs.declared.Numbers.{Numbers}
use Rattle.drawing.specs.Drawing.{drawn, Drawable, Draws}
use Rattle.diagram_lines.specs.Lines.{roomed, pick_built, roomed_as, lowered, lowered_as, BuiltIn, truth_number, truth_of, Lent, action_scope, VariantOpen, TruthOpens}
use Rattle.diagram_lines.proofs.RoomLaws.{draws-room, draws-none, draws-refused, draws-done, drew-words, drew-diagram, drew-room}
use Rattle.diagram_lines.proofs.LineLaws.{line-short, tables-of}
use Rattle.std.specs.Prelude.{Err, Ok, Result}

-- ===== 7 =====

module _ {ar out : List ℕ} {b : Result ℕ Refusal} (x : BuiltIn ar b out) {n : ℕ} (e : b ≡ Ok n) where
  pub lower-room : n * 3 ≤ length out
  lower-room = x.room n e

  pub lower_long : n * 3 ≡ length (take (n * 3) out)
  lower_long = sym (length-take-le (n * 3) out lower-room)

  pub lower-valid : Valid ar (take (n * 3) out)
  lower-valid = x.valid n e

module _ (out : List ℕ) {b : Result ℕ Refusal} {n : ℕ} (e : b ≡ Ok n) {c : Bool} (f : c ≡ leaf_above 1 (diagram_of (take (n * 3) out))) where
  pub lower_high : c ≡ true → Err Truth ≡ lowered_as out b
  lower_high g = rw (e, ← f, g)

  pub lower-low : c ≡ false → Ok n ≡ lowered_as out b
  lower-low g = rw (e, ← f, g)

lowered-ok : (o : Outcome Diagram) (d : Diagram) → lowered o ≡ ok d → o ≡ ok d
lowered-ok (ok x) d e = go (leaf_above 1 x) e
  where
    go : (b : Bool) → cond b (refused Truth) (ok x) ≡ ok d → ok x ≡ ok d
    go true e = absurd (apart e)
    go false e = e
lowered-ok (refused w) d e = absurd (apart e)

module _ {ar out : List ℕ} {o : Outcome Diagram} {b : Result ℕ Refusal} (x : Draws ar o b out) where
  pub draws-built : BuiltIn ar b out
  draws-built = record {
    room = λ n e. drew-room (draws-done x e);
    valid = λ n e. let y = draws-done x e in subst (Valid ar) (sym (drew-words y)) (valid-listing ar y.diagram y.holds.good);
  }

  pub draws-low : {c : Result ℕ Refusal} → c ≡ lowered_as out b → Draws ar (lowered o) c out
  draws-low {c} e = record { answer = e ∙ go b refl; result = λ d q. x.result d (lowered-ok o d q) }
    where
      pick : (t : Bool) (d : Diagram) → pick_built t (Err Truth) (Ok (length (rows d))) ≡ built_as (cond t (refused Truth) (ok d))
      pick true d = refl
      pick false d = refl

      go : (y : Result ℕ Refusal) → b ≡ y → lowered_as out b ≡ built_as (lowered o)
      go (Ok n) q =
          let y = draws-done x q in
          ap (lowered_as out) q
          ∙ ap (λ (d : Diagram). pick_built (leaf_above 1 d) (Err Truth) (Ok n)) (drew-diagram y)
          ∙ ap (λ (k : ℕ). pick_built (leaf_above 1 y.diagram) (Err Truth) (Ok k)) y.count
          ∙ pick (leaf_above 1 y.diagram) y.diagram
          ∙ ap (λ (p : Outcome Diagram). built_as (lowered p)) (sym y.is)
      go (Err w) q = ap (lowered_as out) q ∙ ap (λ (p : Outcome Diagram). built_as (lowered p)) (sym (draws-refused x q))

-- ===== The diagram =====

-- `draw_truth`
pub draws-truth : {ar out : List ℕ} {o : Outcome Diagram} {b c d : Result ℕ Refusal} (r : ℕ) → Draws ar o b out → c ≡ lowered_as out b → d ≡ roomed_as false r c
    → Draws ar (roomed false r (lowered o)) d out
draws-truth r x e f = draws-room false r (draws-low x e) f

-- `read_truth`

module _ (n : Names) (ar : List ℕ) (p r : ℕ) (es : List Event) where
  truth-refused : {w : Refusal} → head_arguments (get_or ar p 0) es ≡ refused w → truth_of n ar p r es ≡ refused w
  unfolding truth_of
  truth-refused e = ap (λ (j : Outcome Head). and_then j (λ h. roomed false r (lowered (drawn (names_for n ar Only n.parameters) h.rest h.variables)))) e

  truth-headed : {h : Head} → head_arguments (get_or ar p 0) es ≡ ok h
      → truth_of n ar p r es ≡ roomed false r (lowered (drawn (names_for n ar Only n.parameters) h.rest h.variables))
  unfolding truth_of
  truth-headed e = ap (λ (j : Outcome Head). and_then j (λ h. roomed false r (lowered (drawn (names_for n ar Only n.parameters) h.rest h.variables)))) e

abbrev head_of : List Key → List Event → Head
head_of ks es = record { variables = ks; rest = es }

module _ {s : List ℕ} {n : Numbers} {names ar work : List ℕ} (x : Lent Becomes s n names ar work) where
  module _ (p : ℕ) where
    pub becomes-arity : get_or ar p 0 ≤ most_places
    becomes-arity = arity-most ar p x.vocabulary.arities

    pub becomes-known : p < predicate_count → p < length ar
    becomes-known h = omega (arith, arity-words ar x.vocabulary.arities)

    module _ {first : ℕ} (f : first ≡ first_word Becomes) {vs : List ℕ} {t : Result ℕ Refusal}
        (h : Heads s (get_or ar p 0) (head_arguments (get_or ar p 0) (events_of (drop first s))) t vs) where
      head-is : judged_head s vs (get_or ar p 0) t ≡ head_arguments (get_or ar p 0) (words_of Becomes s)
      head-is = h.answer ∙ ap (λ (i : ℕ). head_arguments (get_or ar p 0) (events_of (drop i s))) f

      pub read-refused : {out : List ℕ} {w : Refusal} → t ≡ Err w
          → Draws ar (truth_of (names_of names n.counts) ar p (n.head.words / 3) (words_of Becomes s)) (Err w) out
      read-refused e =
          draws-none (truth-refused (names_of names n.counts) ar p (n.head.words / 3) (words_of Becomes s) (sym (ap (judged_head s vs (get_or ar p 0)) (sym e) ∙ head-is)))

      module _ {i : ℕ} (e : t ≡ Ok i) where
        headed-is : head_arguments (get_or ar p 0) (words_of Becomes s) ≡ ok (record { variables = keys_at vs 0 (get_or ar p 0); rest = events_of (drop i s) })
        headed-is = sym (ap (judged_head s vs (get_or ar p 0)) (sym e) ∙ head-is)

        behind-is : events_of (drop i s) ≡ diagram_events x.line.words.2
        behind-is =
            let y : head_arguments (get_or ar p 0) (words_of Becomes s) ≡ head_arguments (get_or ar p 0) (words_of Becomes (line_bytes (line Becomes x.line.words)))
            = ap (λ (z : List ℕ). head_arguments (get_or ar p 0) (words_of Becomes z)) x.line.bytes in
            let c = chained (head_keys (get_or ar p 0) x.line.words.1) (λ (ks : List Key). ok (head_of ks (diagram_events x.line.words.2)))
            (head_of (keys_at vs 0 (get_or ar p 0)) (events_of (drop i s)))
            (sym (becomes-arguments (get_or ar p 0) x.line.words x.line.good.0) ∙ sym y ∙ headed-is) in
            let d : head_of c.first (diagram_events x.line.words.2) ≡ head_of (keys_at vs 0 (get_or ar p 0)) (events_of (drop i s)) = ok-one c.then in
            sym (ap (λ (g : Head). g.rest) d)

        pub read-drawable : {out : List ℕ} → variable_words ≤ length vs → result_words ≤ length out
            → Drawable s i names ar (action_scope n Only) vs (get_or ar p 0) out work
        read-drawable l m = record {
          short = line-short x.line;
          within = subst (HeadWithin s) e h.within;
          there = record { diagram = x.line.words.2; events = behind-is; shallow = omega (arith, x.line.good.1) };
          tables = tables-of n.counts.parameters Only x.vocabulary (omega arith);
          variables = record { words = l; variables-fit = omega (arith, becomes-arity); minimums-fit = omega arith };
          out-room = m;
          work-room = x.work-room;
        }

        pub read-drawn : {out : List ℕ} {b : Result ℕ Refusal}
            → Draws ar (roomed false (n.head.words / 3) (lowered (drawn (table_names names ar (action_scope n Only)) (events_of (drop i s)) (keys_at vs 0 (get_or ar p 0))))) b out
            → Draws ar (truth_of (names_of names n.counts) ar p (n.head.words / 3) (words_of Becomes s)) b out
        unfolding names_of
        read-drawn {out} {b} d =
            subst (λ (o : Outcome Diagram). Draws ar o b out) (sym (truth-headed (names_of names n.counts) ar p (n.head.words / 3) (words_of Becomes s) headed-is)) d

-- ===== The head =====

-- `open_truth`
module _ (s : List ℕ) (n : Numbers) (names table : List ℕ) {first : ℕ} (f : first ≡ first_word Becomes) {t : Result ℕ Refusal}
    (o : Opens n.counts.predicates (head_number (keys_at names declared_at n.counts.predicates) (events_of (drop first s))) t) where
  number_is : (truths : Truths) → truth_number (names_of names n.counts) truths (words_of Becomes s)
      ≡ and_then (judged_predicate t) (λ p. cond (is_some (truths p)) (refused Name) (ok p))
  unfolding truth_number names_of
  number_is truths = ap (λ (j : Outcome ℕ). and_then j (λ p. cond (is_some (truths p)) (refused Name) (ok p)))
      (sym (o.answer ∙ ap (λ (i : ℕ). head_number (keys_at names declared_at n.counts.predicates) (events_of (drop i s))) f))

  pub open-refused : {w : Refusal} → t ≡ Err w → TruthOpens n names table (words_of Becomes s) (Err w)
  open-refused e = record {
    answer = λ ar listings.
        let truths : Truths = truths_now (model_of ar listings table n.head).actions in
        sym (number_is truths ∙ ap (λ (y : Result ℕ Refusal). and_then (judged_predicate y) (λ p. cond (is_some (truths p)) (refused Name) (ok p))) e);
    within = tt;
  }

  module _ {p : ℕ} (e : t ≡ Ok p) where
    declared-is : (0 < p) × (p ≤ n.counts.predicates)
    declared-is = subst (PredicateWithin n.counts.predicates) e o.within

    pub open-room : GoodNames names n.counts → VariantOpen table n → TruthRoom table n.head p
    open-room g v = record {
      spanned = v.last.spanned;
      some = v.last.some;
      has = omega (arith, v.has, v.last.variants);
      declared = omega (arith, declared-is.1, g.predicates);
    }

    module _ {b : Bool} (h : HasTruth table n.head p b) where
      there-is : (ar listings : List ℕ) → truth_number (names_of names n.counts) (truths_now (model_of ar listings table n.head).actions) (words_of Becomes s)
          ≡ cond b (refused Name) (ok p)
      there-is ar listings =
          let truths : Truths = truths_now (model_of ar listings table n.head).actions in
          number_is truths ∙ ap (λ (y : Result ℕ Refusal). and_then (judged_predicate y) (λ q. cond (is_some (truths q)) (refused Name) (ok q))) e
          ∙ ap (λ (c : Bool). cond c (refused Name) (ok p)) (sym (h.answer ar listings))

      pub open_twice : b ≡ true → TruthOpens n names table (words_of Becomes s) (Err Name)
      open_twice g = record { answer = λ ar listings. sym (there-is ar listings ∙ ap (λ (c : Bool). cond c (refused Name) (ok p)) g); within = tt }

      pub open-found : b ≡ false → TruthOpens n names table (words_of Becomes s) (Ok p)
      open-found g = record { answer = λ ar listings. sym (there-is ar listings ∙ ap (λ (c : Bool). cond c (refused Name) (ok p)) g); within = declared-is }
