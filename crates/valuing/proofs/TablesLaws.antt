-- Laws of the second way of working: where it begins, and what its end says of the state (document 02, L6).
use mathlib.Core.Path.{◌≡◌, refl, sym, ap, subst, ◌∙◌}
use mathlib.Core.Logic.{◌≢◌}
use mathlib.Core.Bool.{Bool, true, false, not, or-true}
use mathlib.Core.List.{List, []}
use Prim.Native.Nat.{ℕ, pred, ◌+◌, ◌-◌, ◌*◌, ◌^◌, ◌≤◌, ◌<◌}
use native.Mathlib.Nat.{pow-zero}
use native.Mathlib.Omega.{arith}
use lib.ListN.{length, get_or, replicate, length-replicate, get_or-replicate}
use lib.Dec.{eqb}
use borrow.Author.Tests.{eqb-true, lt-ltb, le-ltb, not-true, not-false}
use Rattle.basics.specs.Members.{mem, clash}
use Rattle.label.specs.Limits.{term_end, first_variable, first_minimum, minimum_count, leaf_mark}
use Rattle.label.specs.Labels.{predicate_of, place_at, unpacked, terms_of}
use Rattle.label.proofs.LabelLaws.{place_end}
use Rattle.label.proofs.ArityLaws.{arity-most, terms-length}
use Rattle.refusal.specs.declared.Refusal.TheVariants.{Valuations}
use Rattle.diagram.specs.Sizes.{most_rows}
use Rattle.diagram.specs.Words.{label_at, row_count, is_listing}
use Rattle.diagram.specs.Listing.{diagram_of}
use Rattle.diagram.specs.Validity.{Valid}
use Rattle.diagram.specs.Variables.{minimums, is_plain}
use Rattle.diagram.specs.RowDiagrams.{branch_row}
use Rattle.diagram.specs.DiagramOfListing.{valid-rows}
use Rattle.diagram.specs.ListingValid.{listing-is-valid}
use Rattle.diagram.specs.Listings.{is-listing-good}
use Rattle.state.specs.State.{State, Good, meaning}
use Rattle.state.proofs.ValueLaws.{by-low}
use Rattle.state.specs.Highest.{start, Bound}
use Rattle.state.proofs.HighestLaws.{start_fits}
use Rattle.state.specs.Lent.{all_below, state_of, is_state}
use Rattle.rename.specs.AscendingLaws.{mem-place}
use Rattle.listing.specs.UsedLaws.{terms-branch, row-mentioned, mentioned-occurs}
use Rattle.minimum.proofs.OccurLaws.{none-occurs}
use Rattle.minimum.proofs.PlainLaws.{number-plain, fine-plain}
use Rattle.elimination.specs.Elimination.{row_table, tables, root_table, entries_to, all_entries, most_entries}
use Rattle.elimination.specs.Tables.{leaf_table}
use Rattle.elimination.proofs.RowLaws.{table_at}
use Rattle.elimination.proofs.RootLaws.{root_names, root-value}
use Rattle.elimination.proofs.AnswerLaws.{lent-good}
use Rattle.eliminate.specs.Masks.{names_of, env_of, place_of}
use Rattle.eliminate.specs.MaskLaws.{of_zero}
use Rattle.eliminate.specs.Calls.{PlainLabel, set_at, start_at, Stored}
use Rattle.eliminate.specs.Above.{Above}
use Rattle.eliminate.specs.Stores.{Holds}
use Rattle.eliminate.specs.Rows.{Ready, Tabled, Finished}
use Rattle.valuing.specs.Search.{Placing}
use Rattle.valuing.specs.Tables.{tables_answer}
use Rattle.valuing.proofs.FactLaws.{read_past}
use Rattle.valuing.proofs.SearchLaws.{place-term}
use Rattle.valuing.proofs.StartLaws.{Lendable, state-lendable, lent_bound, lent-fixed, fixed-below}
use Rattle.std.specs.Prelude.{Err, None, Ok, Option, Some}

pub few-rows : (ar ws : List ℕ) → is_listing ar ws ≡ true → row_count ws ≤ most_rows
few-rows ar ws e = (listing-is-valid ar ws e).few

-- no row of a listing without minimum variables has one in its label
rows-plain : (ar ws : List ℕ) → Valid ar ws → is_plain ar (diagram_of ws) ≡ true → (i : ℕ) → i < row_count ws → label_at ws i ≢ leaf_mark → PlainLabel ar (label_at ws i)
unfolding is_plain minimums
rows-plain ar ws v plain i h branch k l = by-low (t < first_minimum) first_minimum t (λ q. q)
    (λ q. clash (sym (mentioned-occurs ar ws v t) ∙ row-mentioned ar ws t i (row_count ws) h (rw (terms-branch ar ws i branch) in-label))
    (none-occurs ar (diagram_of ws) first_minimum minimum_count (eqb-true (length (minimums ar (diagram_of ws))) 0 plain) t q
    (place_end ar (label_at ws i) k (branch_row ar ws (row_count ws) (valid-rows ar ws v) i h branch).label (omega (arith, arity-most ar (predicate_of (label_at ws i)) v.arities)))))
  where
    t : ℕ
    t = place_at (label_at ws i) k

    in-label : mem eqb t (terms_of ar (unpacked (label_at ws i))) ≡ true
    in-label = subst (λ (u : ℕ). mem eqb u (terms_of ar (unpacked (label_at ws i))) ≡ true) (place-term ar (label_at ws i) v.arities k l)
        (mem-place (terms_of ar (unpacked (label_at ws i))) k (omega (arith, terms-length ar (label_at ws i) v.arities)))

-- no row has handed on anything yet
pub above-none : (ar ws : List ℕ) (m : ℕ) → is_listing ar ws ≡ true → {plain : Bool} → plain ≡ is_plain ar (diagram_of ws) → not plain ≡ false → most_rows ≤ m
    → Above ar ws (replicate m 0) (row_count ws)
above-none ar ws m e {plain} f g h = record {
  valid = v;
  plain = rows-plain ar ws v (sym f ∙ not-false plain g);
  places = omega (arith, v.few, length-replicate {A = ℕ} m 0);
  sound = λ c u i k. clash k (rw (get_or-replicate {A = ℕ} m c 0 0 (omega (arith, v.few)), of_zero));
  complete = λ c u j p q. absurd (omega arith);
}
  where
    v : Valid ar ws
    v = listing-is-valid ar ws e

abbrev zeros : List ℕ
zeros = replicate term_end 0

no-objects : (t : ℕ) → get_or zeros t 0 ≡ 0
no-objects t = by-low (get_or zeros t 0 ≡ 0) term_end t
    (λ h. get_or-replicate {A = ℕ} term_end t 0 0 h)
    (λ h. sym (read_past zeros t (omega (arith, length-replicate {A = ℕ} term_end 0))))

-- with a minimum variable they are not used
pub tables-minimum : (ar ws : List ℕ) (n : ℕ) (constants facts os : List ℕ) {plain : Bool} → plain ≡ is_plain ar (diagram_of ws) → not plain ≡ true
    → Err Valuations ≡ tables_answer ar ws n constants facts os
unfolding tables_answer
tables-minimum ar ws n constants facts os {plain} e f = rw (sym e ∙ not-true plain f)

module _ (ar ws : List ℕ) (n : ℕ) (constants facts os : List ℕ) (listed : is_listing ar ws ≡ true) (lent : is_state ar n constants facts ≡ true)
    (below : all_below n os ≡ true) {plain : Bool} (is-plain : plain ≡ is_plain ar (diagram_of ws)) (yes : not plain ≡ false) where
  abbrev s : State
  s = state_of ar n constants facts

  plain-so : is_plain ar (diagram_of ws) ≡ true
  plain-so = sym is-plain ∙ not-false plain yes

  lendable : Lendable n constants os
  lendable = state-lendable ar n constants facts os lent below

  good : Good (state_of ar n constants facts)
  good = lent-good ar n constants facts lent

  bound : Bound (state_of ar n constants facts) os
  bound = lent_bound ar n constants facts os lent below

  module _ {env : List ℕ} (p : Placing constants os zeros env first_variable) where
    in-range : (t : ℕ) → env_of env t < n
    in-range t = by-low (get_or env t 0 < n) first_variable t
        (λ k. rw (p.bound t k) (fixed-below ar n constants facts os lent below t))
        (λ k. rw (p.others t k, no-objects t) lendable.some)

    -- nothing is worked out yet
    pub tables-ready : {above : List ℕ} → Above ar ws above 0 → Ready ar ws above (replicate (most_rows * 2) 0) (replicate most_entries 0) env n 0 0 0
    tables-ready a =
        let v = listing-is-valid ar ws listed in
        record {
          sets = a;
          heads-room = omega (arith, v.few, length-replicate {A = ℕ} (most_rows * 2) 0);
          space-room = omega (arith, length-replicate {A = ℕ} most_entries 0);
          some = lendable.some;
          places = omega (arith, p.places);
          range = in-range;
          next-used = omega arith;
          used-few = omega arith;
          stored = λ j h. absurd (omega arith);
          ends = λ j h. absurd (omega arith);
        }

    tables-begun : (heads space : List ℕ) → Tabled s os ar facts ws heads space env n 0 0
    unfolding state_of entries_to
    tables-begun heads space = record {
      said = record {
        good = good;
        size_is = refl;
        facts-are = refl;
        fits = record { low = λ t h. p.bound t h ∙ sym (lent-fixed ar n constants facts os lent below t); range = in-range };
      };
      holds = λ j h. absurd (omega arith);
      count = refl;
    }

    module _ {above heads space : List ℕ} {r : Option (ℕ × ℕ)} {heads' space' env' : List ℕ} (f : Finished ar facts ws above heads space env n r heads' space' env') where
      pub tables-over : r ≡ None → Err Valuations ≡ tables_answer ar ws n constants facts os
      unfolding tables_answer
      tables-over e = rw (lt-ltb most_entries (all_entries s os ar ws) (f.over e s os (tables-begun heads space)), or-true (not (is_plain ar (diagram_of ws))))

      module _ {next used : ℕ} (e : r ≡ Some (next, used)) where
        ready : Ready ar ws above heads' space' env' n (row_count ws) next used
        ready = f.ready next used e

        tabled : Tabled s os ar facts ws heads' space' env' n (row_count ws) used
        tabled = f.tabled next used e s os (tables-begun heads space)

        abbrev root : ℕ
        root = row_count ws - 1

        last : root < row_count ws
        last = omega (arith, (listing-is-valid ar ws listed).some)

        root_is : row_table s ar ws (tables s ar ws root) root ≡ root_table s ar ws
        unfolding root_table
        root_is =
            let z : pred (row_count ws) ≡ root = omega arith in
            sym (ap (λ (i : ℕ). get_or (tables s ar ws (row_count ws)) i (leaf_table 0)) z ∙ table_at s ar ws (row_count ws) root last)

        holds : Holds s os heads' space' root (root_table s ar ws)
        holds = subst (Holds s os heads' space' root) root_is (tabled.holds root last)

        no_names : names_of (set_at heads' root) ≡ []
        no_names = holds.names-are ∙ root_names s os good bound ar ws listed

        stored : Stored heads' space' n root
        stored = ready.stored root last

        pub root-start : get_or heads' (root * 2 + 1) 0 < length space'
        unfolding start_at
        root-start =
            let q = stored.room in
            let w : start_at heads' root + n ^ 0 ≤ length space' = subst (λ (xs : List ℕ). start_at heads' root + n ^ length xs ≤ length space') no_names q in
            omega (arith, pow-zero n)

        few-entries : all_entries s os ar ws ≤ most_entries
        unfolding all_entries
        few-entries = subst (λ (x : ℕ). x ≤ most_entries) tabled.count ready.used-few

        pub tables-value : {a : ℕ} → a ≡ get_or heads' (root * 2 + 1) 0 → Ok (get_or space' a 0) ≡ tables_answer ar ws n constants facts os
        unfolding tables_answer start_at place_of
        tables-value {a} q =
            let few : all_entries s os ar ws ≤ most_entries = few-entries in
            let entry = holds.entry (start s os) (start_fits s os good bound) in
            let place : start_at heads' root + place_of s.size (root_table s ar ws).names (start s os) ≡ a =
            ap (λ (xs : List ℕ). start_at heads' root + place_of s.size xs (start s os)) (root_names s os good bound ar ws listed) ∙ here ∙ sym q in
            rw (plain-so, le-ltb most_entries (all_entries s os ar ws) few)
            (ap Ok (ap (λ (x : ℕ). get_or space' x 0) (sym place) ∙ entry ∙ root-value s os good bound ar ws listed
            ∙ sym (number-plain s os (meaning ar (diagram_of ws)) (fine-plain ar (diagram_of ws) (is-listing-good ar ws listed).fine plain-so))))
          where
            here : start_at heads' root + 0 ≡ get_or heads' (root * 2 + 1) 0
            here = omega arith
