-- Laws of what rows hand on to their children, in the words of the code.
use mathlib.Core.Path.{◌≡◌, refl, ap, sym, ◌∙◌}
use mathlib.Core.Bool.{Bool, true, false, not, ◌&&◌, ◌||◌}
use mathlib.Core.List.{List}
use Prim.Native.Nat.{ℕ, suc, ◌+◌, ◌-◌, ◌*◌, ◌≤◌, ◌<◌}
use native.Mathlib.Omega.{arith}
use lib.ListN.{length, get_or, set, length-set}
use lib.Seq.{get_or-set_same, get_or-set_other}
use lib.Bits.{bit_or}
use lib.Dec.{eqb}
use borrow.Author.Tests.{eqb-true, eqb-false, eq-eqb}
use Rattle.basics.specs.Tests.{and_left, and_right, Flag, is_true, is_false, flag, Cmp, below, equal, above, cmp, Either, one, other, either, or-one, or-other}
use Rattle.basics.specs.Members.{mem, clash}
use Rattle.label.specs.Limits.{leaf_mark}
use Rattle.diagram.specs.Words.{label_at, high_at, low_at, row_count}
use Rattle.diagram.specs.Validity.{BranchRow}
use Rattle.diagram.specs.RowDiagrams.{branch_row}
use Rattle.diagram.specs.DiagramOfListing.{valid-rows}
use Rattle.elimination.specs.Elimination.{label_variables, has_edge, tested_above}
use Rattle.elimination.proofs.AboveLaws.{edge-high, edge-low, edge-down, tested-own, tested-on, tested-from}
use Rattle.eliminate.specs.Masks.{names_of}
use Rattle.eliminate.specs.MaskLaws.{of_or}
use Rattle.eliminate.specs.Calls.{Labelled}
use Rattle.eliminate.specs.Above.{Above, Handing}

-- a set with more in it at place h
or_at : (sets : List ℕ) (h m c v : ℕ) → h < length sets
    → mem eqb v (names_of (get_or (set sets h (bit_or (get_or sets h 0) m)) c 0)) ≡ (mem eqb v (names_of (get_or sets c 0)) || (eqb c h && mem eqb v (names_of m)))
or_at sets h m c v l = go (flag (eqb c h))
  where
    or-none : (b : Bool) → b ≡ (b || false)
    or-none true = refl
    or-none false = refl

    go : Flag (eqb c h) → mem eqb v (names_of (get_or (set sets h (bit_or (get_or sets h 0) m)) c 0)) ≡ (mem eqb v (names_of (get_or sets c 0)) || (eqb c h && mem eqb v (names_of m)))
    go (is_true e) =
        let z = eqb-true c h e in
        ap (λ j. mem eqb v (names_of (get_or (set sets h (bit_or (get_or sets h 0) m)) j 0))) z
        ∙ ap (λ x. mem eqb v (names_of x)) (get_or-set_same sets h (bit_or (get_or sets h 0) m) 0 l)
        ∙ of_or (get_or sets h 0) m v ∙ rw (e, z)
    go (is_false e) = ap (λ x. mem eqb v (names_of x)) (get_or-set_other sets h c (bit_or (get_or sets h 0) m) 0 (eqb-false c h e)) ∙ rw e (or-none (mem eqb v (names_of (get_or sets c 0))))

leaf-edge : (ws : List ℕ) (i c : ℕ) → get_or ws (i * 3) 0 ≡ leaf_mark → has_edge ws i c ≡ true → ⊥
unfolding has_edge label_at
leaf-edge ws i c e d = clash (and_left (not (eqb (label_at ws i) leaf_mark)) _ d) (ap not (eq-eqb (label_at ws i) leaf_mark e))

-- an edge of a branch row is one of its two
data Side (ws : List ℕ) (i c : ℕ) : Type 0 where
  high-side : c ≡ high_at ws i → Side ws i c
  low-side : c ≡ low_at ws i → Side ws i c

side : (ws : List ℕ) (i c : ℕ) → has_edge ws i c ≡ true → Side ws i c
unfolding has_edge
side ws i c d = go (either (eqb (high_at ws i) c) (eqb (low_at ws i) c) (and_right (not (eqb (label_at ws i) leaf_mark)) _ d))
  where
    go : Either (eqb (high_at ws i) c) (eqb (low_at ws i) c) → Side ws i c
    go (one q) = high-side (sym (eqb-true (high_at ws i) c q))
    go (other q) = low-side (sym (eqb-true (low_at ws i) c q))

module _ {ar ws sets : List ℕ} {i : ℕ} (h : Handing ar ws sets i) where
  pub hand-leaf : get_or ws (i * 3) 0 ≡ leaf_mark → Above ar ws sets i
  unfolding label_at
  hand-leaf e = record {
    valid = h.sets.valid;
    plain = h.sets.plain;
    places = h.sets.places;
    sound = h.sets.sound;
    complete = λ c v j k l d t. go c v j (cmp j i) k l d t;
  }
    where
      go : (c v j : ℕ) → Cmp j i → i ≤ j → j < row_count ws → has_edge ws j c ≡ true
          → (mem eqb v (label_variables ar (label_at ws j)) || tested_above ar ws j v) ≡ true → mem eqb v (names_of (get_or sets c 0)) ≡ true
      go c v j (below q) k l d t = absurd (omega arith)
      go c v j (equal q) k l d t = absurd (leaf-edge ws i c e (rw q at d))
      go c v j (above q) k l d t = h.sets.complete c v j (omega arith) l d t

  module _ (branching : get_or ws (i * 3) 0 ≡ leaf_mark → ⊥) where
    row_is : BranchRow ar ws i
    unfolding label_at
    row_is = branch_row ar ws (row_count ws) (valid-rows ar ws h.sets.valid) i h.row branching

    pub hand-labelled : Labelled ar (get_or ws (i * 3) 0)
    unfolding label_at
    hand-labelled = record { arities = h.sets.valid.arities; label = row_is.label; plain = h.sets.plain i h.row branching }

    pub hand-high : get_or ws (i * 3 + 1) 0 < row_count ws
    unfolding high_at
    hand-high = let q = row_is.high-before in let r = h.row in omega arith

    pub hand-low : get_or ws (i * 3 + 2) 0 < row_count ws
    unfolding low_at
    hand-low = let q = row_is.low-before in let r = h.row in omega arith

    pub hand-high-in : get_or ws (i * 3 + 1) 0 < length sets
    hand-high-in = let q = hand-high in let p = h.sets.places in omega arith

    pub hand-low-in : get_or ws (i * 3 + 2) 0 < length sets
    hand-low-in = let q = hand-low in let p = h.sets.places in omega arith

    -- what is handed on: what the row tests and what is tested above it
    module _ (r : ℕ) (is : names_of r ≡ label_variables ar (label_at ws i)) where
      abbrev m : ℕ
      m = bit_or (get_or sets i 0) r

      abbrev sets₁ : List ℕ
      sets₁ = set sets (high_at ws i) (bit_or (get_or sets (high_at ws i) 0) m)

      abbrev sets₂ : List ℕ
      sets₂ = set sets₁ (low_at ws i) (bit_or (get_or sets₁ (low_at ws i) 0) m)

      in-high : high_at ws i < length sets
      unfolding high_at
      in-high = hand-high-in

      in-low : low_at ws i < length sets₁
      unfolding low_at
      in-low = rw (length-set sets (high_at ws i) (bit_or (get_or sets (high_at ws i) 0) m)) hand-low-in

      after : (c v : ℕ) → mem eqb v (names_of (get_or sets₂ c 0))
          ≡ ((mem eqb v (names_of (get_or sets c 0)) || (eqb c (high_at ws i) && mem eqb v (names_of m))) || (eqb c (low_at ws i) && mem eqb v (names_of m)))
      after c v = or_at sets₁ (low_at ws i) m c v in-low ∙ ap (λ b. b || (eqb c (low_at ws i) && mem eqb v (names_of m))) (or_at sets (high_at ws i) m c v in-high)

      m-tested : (c v : ℕ) → has_edge ws i c ≡ true → mem eqb v (names_of m) ≡ true → tested_above ar ws c v ≡ true
      m-tested c v d t = go (either (mem eqb v (names_of (get_or sets i 0))) (mem eqb v (names_of r)) (sym (of_or (get_or sets i 0) r v) ∙ t))
        where
          go : Either (mem eqb v (names_of (get_or sets i 0))) (mem eqb v (names_of r)) → tested_above ar ws c v ≡ true
          go (one q) = tested-on ar ws h.sets.valid i c v h.row d (h.sets.sound i v h.row q)
          go (other q) = tested-own ar ws h.sets.valid i c v h.row d (ap (mem eqb v) (sym is) ∙ q)

      in-m : (v : ℕ) → (mem eqb v (label_variables ar (label_at ws i)) || tested_above ar ws i v) ≡ true → mem eqb v (names_of m) ≡ true
      in-m v t = of_or (get_or sets i 0) r v ∙ go (either (mem eqb v (label_variables ar (label_at ws i))) (tested_above ar ws i v) t)
        where
          go : Either (mem eqb v (label_variables ar (label_at ws i))) (tested_above ar ws i v) → (mem eqb v (names_of (get_or sets i 0)) || mem eqb v (names_of r)) ≡ true
          go (one q) = or-other (mem eqb v (names_of (get_or sets i 0))) _ (ap (mem eqb v) is ∙ q)
          go (other q) =
              let f = tested-from ar ws h.sets.valid i v q in
              let d = edge-down ar ws h.sets.valid f.0 i f.1 f.2 in
              or-one _ _ (h.sets.complete i v f.0 d f.1 f.2 f.3)

      all_sound : (c v : ℕ) → c < row_count ws → mem eqb v (names_of (get_or sets₂ c 0)) ≡ true → tested_above ar ws c v ≡ true
      unfolding label_at
      all_sound c v l t = outer (either (mem eqb v (names_of (get_or sets c 0)) || (eqb c (high_at ws i) && mem eqb v (names_of m))) _ (sym (after c v) ∙ t))
        where
          inner : Either (mem eqb v (names_of (get_or sets c 0))) (eqb c (high_at ws i) && mem eqb v (names_of m)) → tested_above ar ws c v ≡ true
          inner (one q) = h.sets.sound c v l q
          inner (other q) =
              let z = eqb-true c (high_at ws i) (and_left (eqb c (high_at ws i)) _ q) in
              m-tested c v (rw z (edge-high ws i branching)) (and_right (eqb c (high_at ws i)) _ q)

          outer : Either (mem eqb v (names_of (get_or sets c 0)) || (eqb c (high_at ws i) && mem eqb v (names_of m))) (eqb c (low_at ws i) && mem eqb v (names_of m)) → tested_above ar ws c v ≡ true
          outer (one q) = inner (either (mem eqb v (names_of (get_or sets c 0))) _ q)
          outer (other q) =
              let z = eqb-true c (low_at ws i) (and_left (eqb c (low_at ws i)) _ q) in
              m-tested c v (rw z (edge-low ws i branching)) (and_right (eqb c (low_at ws i)) _ q)

      all-complete : (c v j : ℕ) → Cmp j i → i ≤ j → j < row_count ws → has_edge ws j c ≡ true
          → (mem eqb v (label_variables ar (label_at ws j)) || tested_above ar ws j v) ≡ true → mem eqb v (names_of (get_or sets₂ c 0)) ≡ true
      all-complete c v j (below q) k l d t = absurd (omega arith)
      all-complete c v j (above q) k l d t = after c v ∙ or-one _ _ (or-one _ _ (h.sets.complete c v j (omega arith) l d t))
      all-complete c v j (equal q) k l d t =
          let d' : has_edge ws i c ≡ true = ap (λ x. has_edge ws x c) (sym q) ∙ d in
          let t' : (mem eqb v (label_variables ar (label_at ws i)) || tested_above ar ws i v) ≡ true
          = ap (λ x. mem eqb v (label_variables ar (label_at ws x)) || tested_above ar ws x v) (sym q) ∙ t in
          after c v ∙ go (side ws i c d') (in-m v t')
        where
          go : Side ws i c → mem eqb v (names_of m) ≡ true
              → ((mem eqb v (names_of (get_or sets c 0)) || (eqb c (high_at ws i) && mem eqb v (names_of m))) || (eqb c (low_at ws i) && mem eqb v (names_of m))) ≡ true
          go (high-side z) o = or-one _ _ (or-other (mem eqb v (names_of (get_or sets c 0))) _ (rw (eq-eqb c (high_at ws i) z, o)))
          go (low-side z) o = or-other (mem eqb v (names_of (get_or sets c 0)) || (eqb c (high_at ws i) && mem eqb v (names_of m))) _ (rw (eq-eqb c (low_at ws i) z, o))

      all_above : Above ar ws sets₂ i
      all_above = record {
        valid = h.sets.valid;
        plain = h.sets.plain;
        places =
            let p = h.sets.places in
            let a = length-set sets (high_at ws i) (bit_or (get_or sets (high_at ws i) 0) m) in
            let b = length-set sets₁ (low_at ws i) (bit_or (get_or sets₁ (low_at ws i) 0) m) in
            omega arith;
        sound = all_sound;
        complete = λ c v j k l d t. all-complete c v j (cmp j i) k l d t;
      }

    pub hand-done : (r : ℕ) → names_of r ≡ label_variables ar (get_or ws (i * 3) 0)
        → Above ar ws (set (set sets (get_or ws (i * 3 + 1) 0) (bit_or (get_or sets (get_or ws (i * 3 + 1) 0) 0) (bit_or (get_or sets i 0) r))) (get_or ws (i * 3 + 2) 0)
        (bit_or (get_or (set sets (get_or ws (i * 3 + 1) 0) (bit_or (get_or sets (get_or ws (i * 3 + 1) 0) 0) (bit_or (get_or sets i 0) r))) (get_or ws (i * 3 + 2) 0) 0)
        (bit_or (get_or sets i 0) r))) i
    unfolding label_at high_at low_at
    hand-done r is = all_above r is

-- ===== All rows =====
pub hand-none : (ar ws sets : List ℕ) (k : ℕ) → Above ar ws sets k → k ≤ 0 → Above ar ws sets 0
hand-none ar ws sets k a h = let e : k ≡ 0 = omega arith in rw (← e) a

pub hand-next : {ar ws sets : List ℕ} {k : ℕ} → Above ar ws sets k → k ≤ row_count ws → 0 < k → Handing ar ws sets (k - 1)
hand-next {ar} {ws} {sets} {k} a l h = record { sets = let e : k ≡ suc (k - 1) = omega arith in rw (← e) a; row = omega arith }
