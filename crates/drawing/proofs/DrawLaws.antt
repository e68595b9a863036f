-- Laws of the code: what is read can be built, and what is built is what the line draws.
use Prim.Native.Nat.{ℕ, ◌*◌, ◌≤◌}
use mathlib.Core.Path.{◌≡◌, sym, ap, subst, ◌∙◌}
use mathlib.Core.Bool.{true}
use mathlib.Core.List.{List, ◌++◌}
use native.Mathlib.Omega.{arith}
use native.Mathlib.Nat.{le_trans}
use lib.ListN.{length, drop, length-append}
use lib.Seq.{take_at}
use Rattle.refusal.specs.declared.Refusal.{Refusal}
use Rattle.label.specs.Labels.{are_arities}
use Rattle.diagram.specs.Diagram.{Diagram}
use Rattle.diagram.specs.Rows.{rows}
use Rattle.diagram.specs.Listing.{listing, Good}
use Rattle.diagram.specs.ListingLaws.{length-listing}
use Rattle.refusal.specs.Outcome.{Outcome, ok, refused, and_then}
use Rattle.regression.specs.RegressCall.{written_as}
use Rattle.words.specs.declared.Key.{Key}
use Rattle.events.specs.declared.Event.{Event}
use Rattle.events.specs.Front.{events_of}
use Rattle.names.specs.Keys.{keys_at}
use Rattle.reading.specs.declared.Binding.TheVariants.{Any}
use Rattle.reading.specs.Operations.{Op}
use Rattle.reading.specs.Reading.{Environment, Met, arguments, Written, reading}
use Rattle.reading.specs.Inner.{depth, Named, reach, GoodReading}
use Rattle.reading.specs.Tree.{Reading, ops_of}
use Rattle.reading.specs.Numbering.{reward_reading}
use Rattle.reader.specs.declared.Scope.{Scope}
use Rattle.reader.specs.declared.Known.{Known}
use Rattle.reader.specs.OperationWords.{ops_in}
use Rattle.reader.specs.Callers.{names_of, argument_count, Readable, Reads}
use Rattle.reader.specs.ReadLaws.{tables-fit, Diagrammed, read-diagram}
use Rattle.build.specs.Machine.{built, built_closed, most_tests}
use Rattle.build.specs.MachineLaws.{built-text, built-reward}
use Rattle.build.specs.ReadingLaws.{text-good, reward-good}
use Rattle.drawing.specs.Writing.{built_as, Buildable, Labelled, BuildAnswered}
use Rattle.drawing.specs.Drawing.{Drawable, Holds, Draws}
use Rattle.drawing.specs.Endings.{built_to, known_to, Allows, drawn_to}
use Rattle.drawing.specs.declared.Ending.{Ending}
use Rattle.drawing.specs.declared.Ending.TheVariants.{Plain, Closed}
use Rattle.drawing.proofs.LabelLaws.{asked-label, each-asked, each-value}
use Rattle.std.specs.Prelude.{Err, Result}
use Rattle.std.specs.Prelude.{Ok}

-- ===== What is drawn, by what is read =====

drawn-by : (x : Ending) (σ : Environment) (es : List Event) (vs : List Key) (j : Outcome Written) → reading σ es (known_to x es vs) ≡ j
    → drawn_to x σ es vs ≡ and_then j (λ w. built_to x σ.arities w.operations)
unfolding built_to drawn_to known_to reward_reading
drawn-by Plain σ es vs j e = ap (λ (i : Outcome Written). and_then i (λ w. built w.operations)) e
drawn-by Closed σ es vs j e = ap (λ (i : Outcome Written). and_then i (λ w. built_closed σ.arities w.operations)) e

-- ===== Results =====

-- the operations of a good diagram build one that has a listing
built-good : (x : Ending) (ar : List ℕ) (P : ℕ → Type 0) (r : Reading) (d : Diagram) → are_arities ar ≡ true → GoodReading ar P r → depth r ≤ most_tests
    → built_to x ar (ops_of r) ≡ ok d → Good ar d
unfolding built_to
built-good Plain ar P r d a g h e = text-good ar r d a (each-asked ar P r g) (each-value ar P r g) (sym (built-text r h) ∙ e)
built-good Closed ar P r d a g h e = reward-good ar r d a (each-asked ar P r g) (each-value ar P r g) (sym (built-reward ar r h) ∙ e)

listing-holds : (ar : List ℕ) (d : Diagram) (rest : List ℕ) → Good ar d → Holds ar d (listing d ++ rest)
listing-holds ar d rest g = record {
  words = take_at (listing d) rest (length (rows d) * 3) (length-listing d);
  room = omega (arith, length-append (listing d) rest, length-listing d);
  good = g;
}

answered-draws : {ar : List ℕ} {o p : Outcome Diagram} {out out' : List ℕ} {r : Result ℕ Refusal} → p ≡ o → ((d : Diagram) → o ≡ ok d → Good ar d) → BuildAnswered o out r out' → Draws ar p r out'
answered-draws {ar} {o} {p} {out} {out'} e g a = record {
  answer = a.answer ∙ ap built_as (sym e);
  result = λ d h.
      let q : o ≡ ok d = sym e ∙ h in
      let u : out' ≡ listing d ++ drop (length (listing d)) out = a.words ∙ ap (λ (z : Outcome Diagram). written_as z out) q in
      subst (Holds ar d) (sym u) (listing-holds ar d (drop (length (listing d)) out) (g d q));
}

-- ===== The code =====

module _ (ar : List ℕ) (os : List Op) {x : Ending} {out out' : List ℕ} {r : Result ℕ Refusal} where
  pub answered-plain : x ≡ Plain → BuildAnswered (built os) out r out' → BuildAnswered (built_to x ar os) out r out'
  unfolding built_to
  answered-plain e a = subst (λ (y : Ending). BuildAnswered (built_to y ar os) out r out') (sym e) a

  pub answered-closed : x ≡ Closed → BuildAnswered (built_closed ar os) out r out' → BuildAnswered (built_to x ar os) out r out'
  unfolding built_to
  answered-closed e a = subst (λ (y : Ending). BuildAnswered (built_to y ar os) out r out') (sym e) a

-- the words by how the diagram ends

pub reads-fresh : {line : List ℕ} {at : ℕ} {names arities vs os : List ℕ} {scope : Scope} {known : ℕ} → Readable line at names arities vs os scope (argument_count known)
    → Readable line at names arities vs os scope (argument_count 0)
reads-fresh g = record {
  within = g.within;
  tables = g.tables;
  variables = record { words = g.variables.words; variables-fit = omega arith; minimums-fit = omega arith };
  words = g.words;
}

pub reads-any : (x : Ending) (scope : Scope) → x ≡ Closed → Allows x scope → scope.binding ≡ Any
reads-any x scope e a = subst (λ (y : Ending). Allows y scope) e a

module _ (σ : Environment) (es : List Event) (ks : List Key) {x : Ending} {r : Result (ℕ × Known) Refusal} {vs' os' : List ℕ} where
  pub reads_plain : x ≡ Plain → Reads (reading σ es (arguments ks)) r vs' os' → Reads (reading σ es (known_to x es ks)) r vs' os'
  unfolding known_to
  reads_plain e g = subst (λ (y : Ending). Reads (reading σ es (known_to y es ks)) r vs' os') (sym e) g

  pub reads-closed : x ≡ Closed → Reads (reward_reading σ es) r vs' os' → Reads (reading σ es (known_to x es ks)) r vs' os'
  unfolding known_to reward_reading
  reads-closed e g = subst (λ (y : Ending). Reads (reading σ es (known_to y es ks)) r vs' os') (sym e) g

module _ (ending : Ending) {line : List ℕ} {at : ℕ} {names arities : List ℕ} {scope : Scope} {vs : List ℕ} {known : ℕ} {out work : List ℕ}
    (x : Drawable line at names arities scope vs known out work) {r : Result (ℕ × Known) Refusal} {vs' os' : List ℕ}
    (g : Reads (reading (names_of names arities scope) (events_of (drop at line)) (known_to ending (events_of (drop at line)) (keys_at vs 0 known))) r vs' os') where
  abbrev σ : Environment
  σ = names_of names arities scope

  abbrev es : List Event
  es = events_of (drop at line)

  abbrev ks : Met
  ks = known_to ending es (keys_at vs 0 known)

  abbrev us : List Key
  us = keys_at vs 0 known

  module _ {n : ℕ} {m : Known} (e : r ≡ Ok (n, m)) where
    done : Reads (reading σ es ks) (Ok (n, m)) vs' os'
    done = subst (λ (y : Result (ℕ × Known) Refusal). Reads (reading σ es ks) y vs' os') e g

    read_as : Diagrammed σ ks x.there.diagram n os'
    read_as = read-diagram σ (tables-fit names arities scope x.tables) x.there.diagram es x.there.events ks done

    pub read-labelled : Labelled arities os' n
    read-labelled = record {
      arities = x.tables.arities-fit;
      labels = asked-label arities (Named (length σ.parameters) (reach σ.binding ks)) os' n read_as.tree read_as.good read_as.operations;
    }

    pub read-buildable : Buildable os' n out work
    read-buildable = record {
      words = done.within;
      values = read_as.values;
      labels = read_as.labels;
      out-room = x.out-room;
      work-room = x.work-room;
    }

    pub built-draws : {q : Result ℕ Refusal} {out' : List ℕ} → BuildAnswered (built_to ending arities (ops_in os' n)) out q out'
        → Draws arities (drawn_to ending σ es us) q out'
    built-draws a = answered-draws (drawn-by ending σ es us _ (sym done.answer)) good a
      where
        good : (d : Diagram) → built_to ending arities (ops_in os' n) ≡ ok d → Good arities d
        good d h = built-good ending arities (Named (length σ.parameters) (reach σ.binding ks)) read_as.tree d x.tables.arities-fit read_as.good
            (le_trans read_as.shallow x.there.shallow) (ap (built_to ending arities) (sym read_as.operations) ∙ h)

  pub refused-draws : {w : Refusal} {out' : List ℕ} → r ≡ Err w → Draws arities (drawn_to ending σ es us) (Err w) out'
  refused-draws {w} e =
      let b : Reads (reading σ es ks) (Err w) vs' os' = subst (λ (y : Result (ℕ × Known) Refusal). Reads (reading σ es ks) y vs' os') e g in
      let z : drawn_to ending σ es us ≡ refused w = drawn-by ending σ es us _ (sym b.answer) in
      record {
        answer = ap built_as (sym z);
        result = λ d h. let y : ◌≡◌ {A = ℕ} 0 1 = cc in absurd (omega arith);
      }
