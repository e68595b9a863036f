-- Laws of (variant n WEIGHT).
use mathlib.Core.Path.{◌≡◌, refl, sym, ap, ap₂, subst, ◌∙◌}
use mathlib.Core.Bool.{Bool, true, false, not, cond}
use mathlib.Core.List.{List, [], ◌∷◌, ◌++◌}
use Prim.Native.Nat.{ℕ, ◌+◌, ◌*◌, ◌/◌, ◌≤◌, ◌<◌}
use native.Mathlib.Omega.{arith}
use borrow.Author.Tests.{leb-false}
use lib.ListN.{length, drop, replicate}
use lib.Dec.{eqb, leb}
use Rattle.refusal.specs.declared.Refusal.{Refusal}
use Rattle.refusal.specs.declared.Refusal.TheVariants.{Name}
use Rattle.diagram.specs.Sizes.{result_words}
use Rattle.diagram.specs.Diagram.{Diagram}
use Rattle.diagram.specs.Rows.{rows}
use Rattle.refusal.specs.Outcome.{Outcome, ok, refused, and_then}
use Rattle.mdp.specs.Model.{most_variants}
use Rattle.words.specs.declared.Key.{Key}
use Rattle.text.specs.declared.Kind.TheVariants.{Variant}
use Rattle.events.specs.declared.Event.{Event}
use Rattle.events.specs.declared.Next.{Next}
use Rattle.events.specs.Events.{first_word, name_event, diagram_events}
use Rattle.events.specs.Contents.{key_in, word_at}
use Rattle.events.specs.Inner.{next_at}
use Rattle.events.specs.Front.{events_of}
use Rattle.events.specs.FrontLaws.{next-moves}
use Rattle.events.specs.LineEvents.{line-events}
use Rattle.names.specs.Inner.{put_key}
use Rattle.names.specs.Keys.{keys_at, place_of, is_among}
use Rattle.names.specs.Layout.{constants_at, declared_at, actions_at, parameters_at, variants_at}
use Rattle.names.specs.KeyLaws.{length-keys, among-at, among_none, keys-same, length-put, put-before, keys-more}
use Rattle.reading.specs.declared.Binding.TheVariants.{None}
use Rattle.reading.specs.Reading.{Written, arguments, reading}
use Rattle.reading.specs.OutcomeLaws.{apart}
use Rattle.reader.specs.Callers.{variable_words, names_of as table_names}
use Rattle.reader.specs.SplitLaws.{next-splits}
use Rattle.build.specs.Machine.{built}
use Rattle.answers.specs.declared.Answer.TheVariants as A
use Rattle.session.specs.Session.{Names, with_actions}
use Rattle.session.specs.Good.{most_variant_names}
use Rattle.session.specs.ModelLines.{most_model_rows, names_for, add_variant, weight_read, with_variant, variant_line}
use Rattle.session.specs.Replies.{done, quietly, words_of}
use Rattle.declare.specs.declared.Counts.{Counts}
use Rattle.declare.specs.Tables.{names_of, GoodNames}
use Rattle.declare.proofs.TableLaws.{names-ext}
use Rattle.facts.specs.Words.{live_of}
use Rattle.steps.specs.GivenLaws.{then-then}
use Rattle.planner.specs.Run.{held_in}
use Rattle.model.specs.declared.Head.{Head}
use Rattle.model.specs.Layout.{model_of}
use Rattle.model_entry.specs.Building.{new_variant}
use Rattle.model_entry.specs.Adding.{RowsRoom, VariantRoom, VariantAdded}
use Rattle.memory.specs.declared.Numbers.{Numbers}
use Rattle.memory.specs.Inner.{LineOf, Ready}
use Rattle.memory.specs.Memory.{Memory, memory_of, session_of}
use Rattle.drawing.specs.Drawing.{drawn, Drawable, Draws}
use Rattle.diagram_lines.specs.Lines.{roomed, roomed_as, Lent, action_scope, WeightAt, more_variants, VariantNamed, VariantReady, VariantSays}
use Rattle.diagram_lines.proofs.RoomLaws.{roomed-ok, draws-room, draws-none, Drew, draws-refused, draws-done, drew-diagram, drew-canonical, drew-room}
use Rattle.diagram_lines.proofs.LineLaws.{line-short, line-begins, tables-of, no_keys, fresh-variables, line_refused, line-accepted, numbers_with, ListingAdded, added-stored}
use Rattle.std.specs.Prelude.{Err, Ok, Result}

-- ===== Its name, and the place behind it =====

pub record NamedAt (s : List ℕ) (k : Key) (at : ℕ) : Type 0 where
  pub key : key_in (word_at (words_of Variant s) 0) ≡ k
  pub rest : drop 1 (words_of Variant s) ≡ events_of (drop at s)
  pub weight : WeightAt s at

module _ {s : List ℕ} (l : LineOf Variant s) where
  words_are : words_of Variant s ≡ name_event l.words.0 ∷ diagram_events l.words.1
  words_are = ap (words_of Variant) l.bytes ∙ line-events Variant l.words l.good.0

  pub variant-named : {x : Next} {k : Key} {i : ℕ} → i ≡ first_word Variant → x ≡ next_at s i → k ≡ key_in x.event → NamedAt s k x.place
  variant-named {x} {k} {i} f p q =
      let y = next-splits s i (name_event l.words.0) (diagram_events l.words.1) (ap (λ (j : ℕ). events_of (drop j s)) f ∙ words_are) in
      let e : x.event ≡ name_event l.words.0 = ap (λ (z : Next). z.event) p ∙ y.event in
      let r : events_of (drop x.place s) ≡ diagram_events l.words.1 = ap (λ (z : Next). events_of (drop z.place s)) p ∙ y.rest in
      record {
        key = ap (λ (es : List Event). key_in (word_at es 0)) words_are ∙ sym (q ∙ ap key_in e);
        rest = ap (drop 1) words_are ∙ sym r;
        weight = record {
          within = subst (λ (z : Next). z.place ≤ length s) (sym p) (next-moves s i (line-begins l f)).0;
          there = record { diagram = l.words.1; events = r; shallow = omega (arith, l.good.1) };
        };
      }

-- ===== Read =====

weight-drawn : (n : Names) (ar : List ℕ) (r : ℕ) (k : Key) (es : List Event)
    → weight_read n ar r k es
    ≡ cond (is_among k n.variants) (refused Name) (roomed (leb most_variants (length n.variants)) r (drawn (names_for n ar None n.parameters) es []))
unfolding weight_read drawn
weight-drawn n ar r k es =
    ap (cond (is_among k n.variants) (refused Name))
    (sym (then-then (reading (names_for n ar None n.parameters) es (arguments [])) (λ (w : Written). built w.operations)
    (λ (d : Diagram). roomed (leb most_variants (length n.variants)) r (ok d))))

module _ {s : List ℕ} {n : Numbers} {names ar work : List ℕ} (x : Lent Variant s n names ar work) where
  pub weight-drawable : {out : List ℕ} {at : ℕ} (m : ℕ) → variable_words ≤ m → WeightAt s at → result_words ≤ length out
      → Drawable s at names ar (action_scope n None) (replicate m 0) 0 out work
  weight-drawable m h w l = record {
    short = line-short x.line;
    within = w.within;
    there = w.there;
    tables = tables-of n.counts.parameters None x.vocabulary (omega arith);
    variables = fresh-variables m 0 h (omega arith);
    out-room = l;
    work-room = x.work-room;
  }

  -- `read_weight`
  module _ (at : ℕ) (k : Key) {i : ℕ} (p : i ≡ place_of k (keys_at names (variants_at + n.counts.earlier * 2) n.counts.variants)) where
    abbrev read : Outcome Diagram
    read = weight_read (names_of names n.counts) ar (n.head.words / 3) k (events_of (drop at s))

    pub weight-known : {out : List ℕ} → i < n.counts.variants → Draws ar read (Err Name) out
    unfolding names_of
    weight-known h =
        draws-none (weight-drawn (names_of names n.counts) ar (n.head.words / 3) k (events_of (drop at s))
        ∙ ap (λ (b : Bool). cond b (refused Name) (roomed (leb most_variants (length (names_of names n.counts).variants)) (n.head.words / 3)
        (drawn (names_for (names_of names n.counts) ar None (names_of names n.counts).parameters) (events_of (drop at s)) [])))
        (among-at names (variants_at + n.counts.earlier * 2) n.counts.variants k p h))

    pub weight-reads : (vs : List ℕ) {out : List ℕ} {b r : Result ℕ Refusal} → n.counts.variants ≤ i
        → Draws ar (drawn (table_names names ar (action_scope n None)) (events_of (drop at s)) (keys_at vs 0 0)) b out
        → r ≡ roomed_as (leb most_variants n.counts.variants) (n.head.words / 3) b → Draws ar read r out
    unfolding names_of
    weight-reads vs {out} {b} {r} h d e =
        let σ = names_of names n.counts in
        let o : List Key → Outcome Diagram = λ ks. drawn (names_for σ ar None σ.parameters) (events_of (drop at s)) ks in
        let y : read ≡ roomed (leb most_variants n.counts.variants) (n.head.words / 3) (o [])
        = weight-drawn σ ar (n.head.words / 3) k (events_of (drop at s))
        ∙ ap (λ (c : Bool). cond c (refused Name) (roomed (leb most_variants (length σ.variants)) (n.head.words / 3) (o [])))
        (among_none names (variants_at + n.counts.earlier * 2) n.counts.variants k p h)
        ∙ ap (λ (v : ℕ). roomed (leb most_variants v) (n.head.words / 3) (o [])) (length-keys names (variants_at + n.counts.earlier * 2) n.counts.variants) in
        subst (λ (z : Outcome Diagram). Draws ar z r out) (sym y)
        (draws-room (leb most_variants n.counts.variants) (n.head.words / 3) (subst (λ (z : Outcome Diagram). Draws ar z b out) (ap o (no_keys vs 0)) d) e)

-- accepted, there is room for the variant and for its weight
pub record WeightFits (n : Names) (r : ℕ) (d : Diagram) : Type 0 where
  pub variant : length n.variants < most_variants
  pub room : r + length (rows d) ≤ most_model_rows

weight-fits : (n : Names) (ar : List ℕ) (r : ℕ) (k : Key) (es : List Event) {d : Diagram} → weight_read n ar r k es ≡ ok d → WeightFits n r d
weight-fits n ar r k es {d} e = go (is_among k n.variants) (sym (weight-drawn n ar r k es) ∙ e)
  where
    go : (b : Bool) → cond b (refused Name) (roomed (leb most_variants (length n.variants)) r (drawn (names_for n ar None n.parameters) es [])) ≡ ok d
        → WeightFits n r d
    go true f = absurd (apart f)
    go false f =
        let y = roomed-ok (leb most_variants (length n.variants)) r (drawn (names_for n ar None n.parameters) es []) d f in
        record { variant = leb-false most_variants (length n.variants) y.free; room = y.room }

-- ===== Its name among the names =====

abbrev with_name : Names → Key → Names
with_name n k = record {
  constants = n.constants;
  predicates = n.predicates;
  actions = n.actions;
  parameters = n.parameters;
  variants = n.variants ++ (k ∷ []);
  earlier = n.earlier;
}

-- where the next variant's name goes
abbrev next_name : Counts → ℕ
next_name n = variants_at + (n.earlier + n.variants) * 2

module _ (s : List ℕ) (n : Counts) (k : Key) (g : GoodNames s n) (h : n.variants < most_variants) (r : n.earlier + n.variants < most_variant_names) where
  variant_put : names_of (put_key s (next_name n) k) (more_variants n) ≡ with_name (names_of s n) k
  unfolding names_of
  variant_put =
      names-ext _ _
      (kept constants_at n.constants (omega (arith, g.constants)))
      (kept declared_at n.predicates (omega (arith, g.predicates)))
      (kept actions_at n.actions (omega (arith, g.actions)))
      (kept parameters_at n.parameters (omega (arith, g.parameters)))
      (ap (λ (i : ℕ). keys_at (put_key s i k) (variants_at + n.earlier * 2) (n.variants + 1)) behind
      ∙ keys-more s (variants_at + n.earlier * 2) n.variants k (omega (arith, g.room)))
      (kept variants_at n.earlier (omega arith))
    where
      kept : (base m : ℕ) → base + m * 2 ≤ next_name n → keys_at (put_key s (next_name n) k) base m ≡ keys_at s base m
      kept base m l = keys-same s (put_key s (next_name n) k) base m (put-before s (next_name n) k base (m * 2) l)

      behind : next_name n ≡ variants_at + n.earlier * 2 + n.variants * 2
      behind = omega arith

  names-good : GoodNames (put_key s (next_name n) k) (more_variants n)
  names-good = record {
    room = omega (arith, g.room, length-put s (next_name n) k);
    constants = g.constants;
    predicates = g.predicates;
    actions = g.actions;
    parameters = g.parameters;
    variants = omega arith;
    earlier = omega arith;
  }

named-good : {s t : List ℕ} {n c : Counts} {k : Key} → VariantNamed s n k c t → GoodNames (put_key s (next_name n) k) (more_variants n) → GoodNames t c
named-good {s} {t} {n} {c} p g = subst (λ (z : List ℕ). GoodNames z c) (sym p.words) (subst (GoodNames _) (sym p.counts) g)

-- ===== Answered =====

variant-done : (s : List ℕ) (number : ℕ) (n : Numbers) (w : Memory)
    → done (session_of n w) number Variant (words_of Variant s)
    ≡ quietly (session_of n w) number (λ τ. τ)
    (and_then (weight_read (names_of w.names n.counts) w.arities (n.head.words / 3) (key_in (word_at (words_of Variant s) 0)) (drop 1 (words_of Variant s)))
    (λ d. ok (with_variant (session_of n w) (key_in (word_at (words_of Variant s) 0)) d)))
unfolding done variant_line session_of model_of
variant-done s number n w = refl

module _ (s : List ℕ) (n : Numbers) (names ar listings table : List ℕ) {k : Key} {at : ℕ} (x : NamedAt s k at) where
  abbrev O : Outcome Diagram
  O = weight_read (names_of names n.counts) ar (n.head.words / 3) k (events_of (drop at s))

  line-is : (number : ℕ) (state value : List ℕ) → let w = memory_of names ar listings table state value in
      done (session_of n w) number Variant (words_of Variant s) ≡ quietly (session_of n w) number (λ τ. τ) (and_then O (λ d. ok (with_variant (session_of n w) k d)))
  line-is number state value =
      let w = memory_of names ar listings table state value in
      variant-done s number n w
      ∙ ap₂ (λ (y : Key) (es : List Event). quietly (session_of n w) number (λ τ. τ)
      (and_then (weight_read (names_of names n.counts) ar (n.head.words / 3) y es) (λ d. ok (with_variant (session_of n w) y d)))) x.key x.rest

  module _ {out : List ℕ} {b : Result ℕ Refusal} (d : Draws ar O b out) where
    pub variant-refused : (number : ℕ) {r : Refusal} → b ≡ Err r
        → VariantSays s number n names ar listings table (record { numbers = n; answer = A.Refused r number }) names listings table
    variant-refused number e = record {
      says = λ state value q.
          line_refused number q (line-is number state value)
          (ap (λ (o : Outcome Diagram). and_then o (λ y. ok (with_variant (session_of n (memory_of names ar listings table state value)) k y))) (draws-refused d e));
    }

    module _ {work : List ℕ} (y : VariantReady s n names ar listings table work) {m : ℕ} (e : b ≡ Ok m) where
      abbrev D : Drew ar O m out
      D = draws-done d e

      fits : WeightFits (names_of names n.counts) (n.head.words / 3) D.diagram
      fits = weight-fits (names_of names n.counts) ar (n.head.words / 3) k (events_of (drop at s)) D.is

      pub variant-few : n.counts.variants < most_variants
      unfolding names_of
      variant-few = omega (arith, fits.variant, length-keys names (variants_at + n.counts.earlier * 2) n.counts.variants)

      pub variant-room : RowsRoom listings n.head out m
      variant-room = record { words = y.listed.room; result = drew-room D; room = omega (arith, fits.room, D.count, y.listed.whole) }

      pub variant-place : VariantRoom table n.head
      variant-place = record { spanned = y.last.spanned; some = y.last.some; more = omega (arith, variant-few, y.last.variants) }

      variant-more : n.counts.earlier + n.counts.variants < most_variant_names
      variant-more = y.room variant-few

      pub variant-words : variants_at + (n.counts.earlier + n.counts.variants) * 2 + 2 ≤ length names
      variant-words = omega (arith, variant-more, y.lent.vocabulary.names.room)

      module _ {names' listings' table' : List ℕ} {h : Head} {c : Counts} (a : VariantAdded listings table n.head out m listings' table' h)
          (l : length listings' ≡ length listings) (p : VariantNamed names n.counts k c names') where
        used-are : h.words ≡ n.head.words + m * 3
        used-are = ap (λ (z : Head). z.words) a.answer

        module _ (state value : List ℕ) (q : Ready Variant s n (memory_of names ar listings table state value)) where
          abbrev Before : Memory
          Before = memory_of names ar listings table state value

          abbrev After : Memory
          After = memory_of names' ar listings' table' state value

          names-are : names_of names' c ≡ with_name (names_of names n.counts) k
          names-are = ap₂ names_of p.words p.counts ∙ variant_put names n.counts k y.lent.vocabulary.names variant-few variant-more

          model_is : model_of ar listings' table' h
              ≡ with_actions (model_of ar listings table n.head) (add_variant (model_of ar listings table n.head).actions (new_variant D.diagram))
          model_is =
              a.model ar
              ∙ ap (λ (z : Diagram). with_actions (model_of ar listings table n.head) (add_variant (model_of ar listings table n.head).actions (new_variant z))) (drew-diagram D)

          rows_are : h.words / 3 ≡ n.head.words / 3 + length (rows D.diagram)
          rows_are = omega (arith, used-are, D.count)

          session-is : session_of (numbers_with n n.reward c h) After ≡ with_variant (session_of n Before) k D.diagram
          unfolding session_of with_variant
          session-is = λ i. record {
            part = n.part;
            names = names-are i;
            singles = record { total = n.total; discount = n.discount; reward = n.reward };
            model = model_is i;
            rows = rows_are i;
            live = live_of state n.live;
            held = held_in n.held value;
          }

          grown : ListingAdded n ar listings names' listings' table' n.reward c h m
          grown = record {
            vocabulary = record {
              names = named-good p (names-good names n.counts k y.lent.vocabulary.names variant-few variant-more);
              arities = y.lent.vocabulary.arities;
            };
            building = a.building q.stored.building (drew-canonical D);
            size = l;
            words = used-are;
            reward = q.stored.reward ∙ ap (λ (g : Head). not (eqb g.reward_words 0)) (sym a.answer);
          }

        pub variant-accepted : (number : ℕ)
            → VariantSays s number n names ar listings table (record { numbers = numbers_with n n.reward c h; answer = A.Nothing }) names' listings' table'
        variant-accepted number = record {
          says = λ state value q.
              line-accepted number q (line-is number state value)
              (ap (λ (o : Outcome Diagram). and_then o (λ z. ok (with_variant (session_of n (memory_of names ar listings table state value)) k z))) D.is)
              (session-is state value q) (added-stored q refl (grown state value q)) q.indexed (record { starts = a.starts; idle = λ z. (z, refl) });
        }
