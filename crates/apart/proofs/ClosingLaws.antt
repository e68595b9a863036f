-- The map that `close_map` writes closes up, or moves apart, the diagram whose terms are marked. Laws of `enter` and `close_up`.
use mathlib.Core.Path.{◌≡◌, sym, ap, ◌∙◌, subst}
use mathlib.Core.List.{List, ◌++◌, map}
use Prim.Native.Nat.{ℕ, ◌*◌, ◌≤◌}
use native.Mathlib.Omega.{arith}
use lib.ListN.{length, take, drop}
use lib.Seq.{length-take-le}
use Rattle.label.specs.Limits.{first_variable, first_minimum, term_end}
use Rattle.label.specs.Inner.{map_of, Increasing, Numbered}
use Rattle.label.specs.Renamings.{renamed, numbering, EachIn}
use Rattle.diagram.specs.Diagram.{Diagram}
use Rattle.diagram.specs.Rows.{onto, rows}
use Rattle.diagram.specs.Listing.{listing, diagram_of, Good}
use Rattle.diagram.specs.Variables.{variables, minimums, closed_from, closed}
use Rattle.diagram.specs.ListingValid.{valid-is-listing}
use Rattle.diagram.specs.DiagramOfListing.{good-diagram}
use Rattle.listing.specs.Used.{Used}
use Rattle.rename.specs.Inner.{Named, KindsFit}
use Rattle.rename.specs.RelabelLaws.{labels-weaken, relabel-agree, relabel-rows}
use Rattle.rename.specs.TermLaws.{each_weaken, renamed-agree}
use Rattle.rename.specs.VariableLaws.{terms-numbered, named-labels, renaming-keeps}
use Rattle.rename.specs.ClosingLaws.{closing-increasing, closed-fit}
use Rattle.rename.specs.Maps.{tabled, Marks, close_at}
use Rattle.rename.specs.MapLaws.{close-terms, marks-closable}
use Rattle.rename.specs.RenamedWords.{agreeing, close-agrees}
use Rattle.rename.specs.Calls as rename
use Rattle.store.specs.Space.{diagrams_of, Formation, add_all}
use Rattle.store.specs.Load.{renamed_of, Loadable, Loaded}
use Rattle.store.specs.AddLaws.{add-all-relabelled}
use Rattle.store.proofs.SpaceLaws.{holds-closed}
use Rattle.write.specs.Renaming as write
use Rattle.write.specs.Renaming.{listed_in}
use Rattle.apart.specs.Operands.{Enterable}
use Rattle.apart.specs.Results.{Closable}
use Rattle.std.specs.Prelude.{Option}

pub used-marks : {ar : List ℕ} {d : Diagram} {used : List ℕ} → Used ar d used → Marks ar d used
used-marks u = record { whole = omega (arith, u.whole); mark = u.each }

module _ (ar : List ℕ) (d : Diagram) (good : Good ar d) (used : List ℕ) (marks : Marks ar d used) (m n : ℕ) (fit : KindsFit ar m n d)
    (rest : List ℕ) where
  abbrev Ts : List ℕ
  Ts = tabled (close_at used m n) term_end ++ rest

  abbrev P : ℕ → Type 0
  P = Numbered (variables ar d) (minimums ar d)

  agrees : (t : ℕ) → P t → map_of Ts t ≡ numbering (variables ar d) (minimums ar d) m n t
  agrees = close-agrees ar d used marks m n rest

  increasing : Increasing P (map_of Ts)
  increasing = agreeing P (numbering (variables ar d) (minimums ar d) m n) (map_of Ts) (closing-increasing ar m n d fit good) agrees

  -- the written map renames the diagram to the closed one
  pub map-closes : renamed_of ar Ts d ≡ closed_from ar m n d
  unfolding closed_from
  map-closes =
      relabel-agree (renamed ar (map_of Ts)) (renamed ar (numbering (variables ar d) (minimums ar d) m n)) d
      (labels-weaken (EachIn ar P) _ d (λ l e. renamed-agree ar (map_of Ts) (numbering (variables ar d) (minimums ar d) m n) l (each_weaken P _ _ _ agrees e))
      (terms-numbered ar d good.fine))

  -- and keeps its rows apart
  pub map-keeps : rows (renamed_of ar Ts d) ≡ map (renamed_of ar Ts) (rows d)
  map-keeps =
      relabel-rows (Named ar P) (renamed ar (map_of Ts)) (renaming-keeps ar good.arities P (map_of Ts) increasing) d
      (named-labels ar P d good.fine (terms-numbered ar d good.fine))

-- `enter`
module _ {ar ws used : List ℕ} {first minimum : ℕ} {s heads links : List ℕ} {count : ℕ} {numbers : List ℕ}
    (g : Enterable ar ws used first minimum s heads links count numbers) where
  good : Good ar (diagram_of ws)
  good = good-diagram ar ws g.valid

  pub enter-closable : (ts : List ℕ) → term_end ≤ length ts → rename.Closable used first minimum ts
  enter-closable ts h = marks-closable ar (diagram_of ws) used first minimum ts (used-marks g.marks) h g.fit

  module _ (rest : List ℕ) {ts : List ℕ} (p : ts ≡ tabled (close_at used first minimum) term_end ++ rest) where
    pub enter-loadable : Loadable ar ws ts s heads links count numbers
    enter-loadable = record {
      listing = valid-is-listing ar ws g.valid;
      terms = rw p (close-terms used first minimum used rest (enter-closable used (omega (arith, g.marks.whole))));
      places = omega (arith, g.valid.few, g.places);
      holds = g.holds;
    }

    pub enter-formed : {r : Option (ℕ × ℕ)} {s' h' l' n' : List ℕ} → Loaded ar ws ts s count r s' h' l' n'
        → Formation (closed_from ar first minimum (diagram_of ws)) (onto (closed_from ar first minimum (diagram_of ws)) (diagrams_of s count)) r s' h' l'
    enter-formed {r} {s'} {h'} {l'} f =
        let d = diagram_of ws in
        let ms = used-marks g.marks in
        let e : renamed_of ar ts d ≡ closed_from ar first minimum d = rw p (map-closes ar d good used ms first minimum g.fit rest) in
        let k : rows (renamed_of ar ts d) ≡ map (renamed_of ar ts) (rows d) = rw p (map-keeps ar d good used ms first minimum g.fit rest) in
        let a : add_all (diagrams_of s count) (map (renamed_of ar ts) (rows d)) ≡ onto (closed_from ar first minimum d) (diagrams_of s count)
        = add-all-relabelled (renamed ar (map_of ts)) d (diagrams_of s count) (holds-closed g.holds) k ∙ ap (λ (x : Diagram). onto x (diagrams_of s count)) e in
        subst (λ (x : Diagram). Formation x (onto (closed_from ar first minimum d) (diagrams_of s count)) r s' h' l') e
        (subst (λ (x : List Diagram). Formation (renamed_of ar ts d) x r s' h' l') a f.formation)

-- `close_up`
pub part-long : {ar out : List ℕ} {m : ℕ} → Closable ar out m → m * 3 ≡ length (take (m * 3) out)
part-long {ar} {out} {m} g = sym (length-take-le (m * 3) out g.room)

module _ {ar out : List ℕ} {m : ℕ} (g : Closable ar out m) {used : List ℕ} (u : Used ar (listed_in out m) used) where
  listed-good : Good ar (listed_in out m)
  listed-good = good-diagram ar (take (m * 3) out) g.valid

  fit : KindsFit ar first_variable first_minimum (listed_in out m)
  fit = closed-fit ar (listed_in out m) listed-good

  pub close-closable : (ts : List ℕ) → term_end ≤ length ts → rename.Closable used first_variable first_minimum ts
  close-closable ts h = marks-closable ar (listed_in out m) used first_variable first_minimum ts (used-marks u) h fit

  module _ (rest : List ℕ) {ts : List ℕ} (p : ts ≡ tabled (close_at used first_variable first_minimum) term_end ++ rest) where
    pub close-renamable : write.Renamable ar ts out m
    close-renamable = record {
      listing = valid-is-listing ar (take (m * 3) out) g.valid;
      terms = rw p (close-terms used first_variable first_minimum used rest (close-closable used (omega (arith, u.whole))));
      room = g.room;
      keeps = rw p (map-keeps ar (listed_in out m) listed-good used (used-marks u) first_variable first_minimum fit rest);
    }

    pub close-written : {out' : List ℕ} → out' ≡ listing (renamed_of ar ts (listed_in out m)) ++ drop (m * 3) out
        → out' ≡ listing (closed ar (listed_in out m)) ++ drop (m * 3) out
    unfolding closed
    close-written q =
        let e : renamed_of ar ts (listed_in out m) ≡ closed_from ar first_variable first_minimum (listed_in out m)
        = rw p (map-closes ar (listed_in out m) listed-good used (used-marks u) first_variable first_minimum fit rest) in
        q ∙ ap (λ (x : Diagram). listing x ++ drop (m * 3) out) e
