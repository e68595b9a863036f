-- A form that is read again as a reward is the very diagram, with the very listing (document 02, L2).
use Rattle.std.specs.Prelude.{◌≡◌, refl, Bool, true, false, List, [], ◌∷◌, ℕ, ◌≤◌, ◌<◌, length}
use Rattle.std.proofs.Common.{sym, ◌∙◌, arith, le-leb}
use Rattle.std.proofs.Math.Path.{ap}
use Rattle.basics.specs.Tests.{Cmp, below, equal, above, cmp}
use Rattle.refusal.specs.Outcome.{ok, and_then}
use Rattle.label.specs.Limits.{first_parameter, first_variable, variable_count, minimum_count}
use Rattle.label.specs.Labels.{is_label, predicate_of, unpacked, terms_of}
use Rattle.diagram.specs.Diagram.{Diagram, leaf, branch, eval, relabel, Ordered, Reduced, EveryLabel}
use Rattle.diagram.specs.Listing.{listing}
use Rattle.diagram.specs.Canonicity.{canonicity}
use Rattle.diagram.specs.Variables.{occurs, closed}
use Rattle.rename.specs.Ascending as S
use Rattle.rename.specs.Relabelling.{Terms}
use Rattle.rename.specs.TermLaws.{each-terms, terms-each}
use Rattle.rename.specs.VariableLaws.{occurs-terms, terms-each-occurs, variables-few, minimums-few}
use Rattle.apply.proofs.GoodLaws.{fine-every}
use Rattle.state.specs.State.{meaning, atom_of}
use Rattle.state.specs.Terms as A
use Rattle.regression.specs.Parameters.{Allowed}
use Rattle.events.specs.Events.{diagram_events}
use Rattle.reading.specs.Reading.{Written, is_within, reading}
use Rattle.reading.specs.Numbering.{reward_reading}
use Rattle.reading.specs.Inner.{Reach, depth, diagram_reading, writing}
use Rattle.reading.specs.Tree.{ops_of}
use Rattle.reading.specs.TreeLaws.{reading-diagram}
use Rattle.build.specs.Build as B
use Rattle.build.specs.Written.{diagram_for}
use Rattle.build.specs.Machine.{most_tests, built_closed}
use Rattle.build.specs.MachineLaws.{built-reward}
use Rattle.build.specs.ReadingLaws.{ordered-for, reduced-for, eval-for, reward-held}
use Rattle.session.specs.Good.{GoodValue}
use Rattle.diagram_form.specs.Form.{Tables, form_tree, open_brackets, is_too_long}
use Rattle.round_trip.specs.RoundTrip.{Declared, Covers, reward_names, words_read, reading_of, RoundTrip}
use Rattle.diagram_form.proofs.FormLaws.{Within, form-brackets, not-too-long}
use Rattle.round_trip.proofs.BuildLaws.{form-no-value}
use Rattle.round_trip.proofs.NumberingLaws.{variable-below, minimum-below, form-variables}
use Rattle.round_trip.proofs.NameLaws.{first_keys, keys_length, first_met, counted}
use Rattle.round_trip.proofs.WrittenLaws.{Known, Plain, form-good, form-resolved}

-- ===== Every label of a value diagram can be written =====

each_all : (P : ℕ → Type 0) (ts : List ℕ) → A.Each P ts → S.All P ts
each_all P [] w = tt
each_all P (t ∷ ts) w = (w.0, each_all P ts w.1)

within-terms : (ar : List ℕ) (P : ℕ → Type 0) (d : Diagram) → A.Terms P (meaning ar d) → Terms ar P d
unfolding meaning relabel atom_of
within-terms ar P (leaf v) w = tt
within-terms ar P (branch l x y) w = (terms-each P ar l (each_all P (terms_of ar (unpacked l)) w.0), within-terms ar P x w.1, within-terms ar P y w.2)

plain-labels : (ar : List ℕ) (n : Tables) (v : Reach) (d : Diagram) → EveryLabel (λ l. is_label ar l ≡ true) d → Terms ar (Known n v) d
    → EveryLabel (λ l. predicate_of l ≤ length n.predicates) d → EveryLabel (Plain ar n v) d
plain-labels ar n v (leaf x) a b c = tt
plain-labels ar n v (branch l t f) a b c = (
  record { is-label = a.0; terms = each-terms (Known n v) ar l b.0; predicate = c.0 },
  plain-labels ar n v t a.1 b.1 c.1,
  plain-labels ar n v f a.2 b.2 c.2,
)

-- ===== What is built from a diagram as it is written =====

reading-means : (c : ℕ → Bool) (d : Diagram) → B.meaning c (reading_of d) ≡ eval c d
unfolding reading_of eval
reading-means c (leaf v) = refl
reading-means c (branch l t f) = rw (reading-means c t, reading-means c f)

-- reading gives the only ordered reduced diagram that means what is written
built-same : (d : Diagram) → Ordered d → Reduced d → diagram_for (reading_of d) ≡ d
built-same d o r =
    canonicity (diagram_for (reading_of d)) d (ordered-for (reading_of d)) (reduced-for (reading_of d)) o r (λ c. eval-for c (reading_of d) ∙ reading-means c d)

pub reading-depth : (d : Diagram) → depth (reading_of d) ≤ open_brackets d
unfolding reading_of open_brackets
reading-depth (leaf v) = omega arith
reading-depth (branch l t f) = omega (arith, reading-depth t, reading-depth f)

-- ===== The round trip =====

module _ (ar : List ℕ) (n : Tables) (d : Diagram) (value : GoodValue ar d) (declared : Declared n) (covers : Covers ar n d) where
  -- how many variables of each kind
  abbrev v : Reach
  v = counted ar d

  known : (t : ℕ) → occurs ar t d ≡ true → Known n v t
  known t o = record {
    constants = λ h. constant h (cmp t first_parameter);
    variables = variable-below ar d value.listed value.is-closed t o;
    minimums = minimum-below ar d value.listed value.is-closed t o;
  }
    where
      constant : t < first_variable → Cmp t first_parameter → t < length n.constants
      constant h (below x) = occurs-terms ar _ d t covers.constants o x
      constant h (equal x) = let z = occurs-terms ar (Allowed 0) d t (within-terms ar (Allowed 0) d value.within.terms) o (omega arith) in absurd (omega arith)
      constant h (above x) = let z = occurs-terms ar (Allowed 0) d t (within-terms ar (Allowed 0) d value.within.terms) o (omega arith) in absurd (omega arith)

  pub plain : EveryLabel (Plain ar n v) d
  plain = plain-labels ar n v d (fine-every ar d value.listed.fine) (terms-each-occurs ar (Known n v) d known) covers.predicates

  read : Written
  read = record { met = first_met v; operations = ops_of (reading_of d) }

  -- 8 judges each kind by itself: at most 64 of each
  within-limits : is_within (first_met v) ≡ true
  within-limits =
      rw (
        le-leb (length (first_keys v.variables)) variable_count (omega (arith, variables-few ar d, keys_length v.variables)),
        le-leb (length (first_keys v.minimums)) minimum_count (omega (arith, minimums-few ar d, keys_length v.minimums)),
      )

  words-read : words_read ar n d ≡ ok read
  unfolding diagram_reading read reward_reading
  words-read =
      ap (reading (reward_names ar n) (diagram_events (form_tree ar n d))) (form-variables ar d value.listed value.is-closed n)
      ∙ reading-diagram (reward_names ar n) (form_tree ar n d) (first_met v)
      ∙ ap (λ r. and_then r writing)
      (form-resolved ar n v value.listed.arities declared (variables-few ar d) (minimums-few ar d) d plain value.listed.fine)
      ∙ rw within-limits

  pub round_trip : is_too_long ar n d ≡ false → RoundTrip ar n d
  unfolding read
  round_trip e = record {
    well-formed =
        (form-good ar n v value.listed.arities declared (variables-few ar d) (minimums-few ar d) d plain, within.brackets, within.bytes);
    words = read;
    accepted = words-read;
    operations = refl;
    same-diagram = same;
    same-listing = λ r h. ap listing (same r h);
    no_value = form-no-value ar d value.listed.fine shallow;
  }
    where
      within : Within ar n d
      within = not-too-long ar n d e

      shallow : depth (reading_of d) ≤ most_tests
      shallow = omega (arith, reading-depth d, form-brackets ar n d, within.brackets)

      same : (r : Diagram) → built_closed ar (ops_of (reading_of d)) ≡ ok r → r ≡ d
      same r h =
          ((reward-held ar (reading_of d)).given r (sym (built-reward ar (reading_of d) shallow) ∙ h)).is
          ∙ ap (closed ar) (built-same d value.listed.ordered value.listed.reduced)
          ∙ value.is-closed
