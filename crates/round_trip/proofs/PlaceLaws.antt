-- By ascending N: a variable's place is how many different N on the line are below its own, and there are as many variables as different N.
use Rattle.std.specs.Prelude.{◌≡◌, refl, true, List, [], ◌∷◌, map, ℕ, zero, suc, ◌<◌, length, get_or, eqb}
use Rattle.std.proofs.Common.{sym, ap, ◌∙◌, subst, arith, eqb-true}
use Rattle.std.proofs.lemmas.List.{length-map}
use Rattle.basics.specs.Tests.{Either, one, other, either, and_left, and_right}
use Rattle.basics.specs.Members.{mem, clash}
use Rattle.label.specs.Renamings.{rank}
use Rattle.label.proofs.RenamingLaws.{rank_below}
use Rattle.rename.specs.Ascending.{Ascending}
use Rattle.rename.specs.AscendingLaws.{mem-place, rank-place, place-rank}
use Rattle.words.specs.Words.{IsName}
use Rattle.words.specs.Keys.{key_of}
use Rattle.names.specs.Keys.{place_of}
use Rattle.forms.specs.Tree as T
use Rattle.diagram_form.specs.Form.{variable_name}
use Rattle.reading.specs.Numbering.{number_of, is_numbered, variables_first}
use Rattle.round_trip.specs.Numbering.{every, sorted}
use Rattle.round_trip.specs.RoundTrip.{Different, AreNames}
use Rattle.round_trip.proofs.NumberingLaws.{sorted-ascending, mem-sorted, numbered-exact, variables-first}
use Rattle.round_trip.proofs.NameLaws.{variable-one, place-name}

get_d-names : (xs : List ℕ) (i : ℕ) → i < length xs → get_or (map variable_name xs) i [] ≡ variable_name (get_or xs i 0)
get_d-names [] i h = absurd (omega arith)
get_d-names (x ∷ xs) zero h = refl
get_d-names (x ∷ xs) (suc i) h = get_d-names xs i (omega arith)

-- each N of the line writes a name
written-name : (ns : List (List ℕ)) → T.All IsName ns → every is_numbered ns ≡ true → (u : ℕ) → mem eqb u (map number_of ns) ≡ true → IsName (variable_name u)
written-name [] g e u m = clash m refl
written-name (n ∷ ns) g e u m =
    go (either (eqb u (number_of n)) _ m) (written-name ns g.1 (and_right (is_numbered n) _ e) u)
  where
    go : Either (eqb u (number_of n)) (mem eqb u (map number_of ns)) → (mem eqb u (map number_of ns) ≡ true → IsName (variable_name u)) → IsName (variable_name u)
    go (one q) ih = rw (eqb-true u (number_of n) q) (subst IsName (numbered-exact n (and_left _ _ e)) g.0)
    go (other q) ih = ih q

number-there : (ns : List (List ℕ)) (i : ℕ) → i < length ns → get_or (map number_of ns) i 0 ≡ number_of (get_or ns i [])
number-there [] i h = absurd (omega arith)
number-there (n ∷ ns) zero h = refl
number-there (n ∷ ns) (suc i) h = number-there ns i (omega arith)

every-at : (ns : List (List ℕ)) → every is_numbered ns ≡ true → (i : ℕ) → i < length ns → is_numbered (get_or ns i []) ≡ true
every-at [] e i h = absurd (omega arith)
every-at (n ∷ ns) e zero h = and_left _ _ e
every-at (n ∷ ns) e (suc i) h = every-at ns (and_right (is_numbered n) _ e) i (omega arith)

module _ (ns : List (List ℕ)) (named : T.All IsName ns) (all : every is_numbered ns ≡ true) where
  abbrev pub numbers : List ℕ
  numbers = sorted (map number_of ns)

  rising : Ascending 0 numbers
  rising = sorted-ascending (map number_of ns)

  count : length (map variable_name numbers) ≡ length numbers
  count = length-map numbers variable_name

  are-names : AreNames (map variable_name numbers)
  are-names i h =
      let l : i < length numbers = omega (arith, count) in
      rw (get_d-names numbers i l)
      (written-name ns named all (get_or numbers i 0) (sym (mem-sorted (get_or numbers i 0) (map number_of ns)) ∙ mem-place numbers i l))

  differ : Different (map variable_name numbers)
  differ i j h k e =
      let l : i < length numbers = omega (arith, count) in
      let m : j < length numbers = omega (arith, count) in
      let same = variable-one (get_or numbers i 0) (get_or numbers j 0) (sym (get_d-names numbers i l) ∙ e ∙ get_d-names numbers j m) in
      sym (rank-place 0 numbers i rising l) ∙ ap (rank numbers) same ∙ rank-place 0 numbers j rising m

  -- there are as many variables as different N
  pub ascending-count : length (variables_first (map key_of ns)) ≡ length numbers
  ascending-count = ap length (variables-first ns named all) ∙ length-map (map variable_name numbers) key_of ∙ count

  -- every variable that is written: its place among the variables that the pass begins with, by which it is numbered
  pub ascending-place : (i : ℕ) → i < length ns → place_of (key_of (get_or ns i [])) (variables_first (map key_of ns)) ≡ rank numbers (number_of (get_or ns i []))
  ascending-place i h =
      let u : ℕ = number_of (get_or ns i []) in
      let inside : mem eqb u numbers ≡ true =
      mem-sorted u (map number_of ns)
      ∙ subst (λ (x : ℕ). mem eqb x (map number_of ns) ≡ true) (number-there ns i h) (mem-place (map number_of ns) i (omega (arith, length-map ns number_of))) in
      let below = rank_below numbers u inside in
      let name : get_or (map variable_name numbers) (rank numbers u) [] ≡ get_or ns i [] =
      get_d-names numbers (rank numbers u) below
      ∙ ap variable_name (place-rank 0 numbers u rising inside)
      ∙ sym (numbered-exact (get_or ns i []) (every-at ns all i h)) in
      ap (place_of (key_of (get_or ns i []))) (variables-first ns named all)
      ∙ ap (λ (s : List ℕ). place_of (key_of s) (map key_of (map variable_name numbers))) (sym name)
      ∙ place-name (map variable_name numbers) are-names differ (rank numbers u) (omega (arith, count))
