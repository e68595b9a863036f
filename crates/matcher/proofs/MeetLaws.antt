-- A literal whose terms are known is met exactly if its image is a target.
use mathlib.Core.Path.{◌≡◌, refl, sym, ap, ap₂, subst, ◌∙◌}
use mathlib.Core.Bool.{Bool, true, false}
use mathlib.Core.List.{List, [], ◌∷◌, map, Memᴰ}
use Prim.Native.Nat.{ℕ, zero, suc, ◌+◌, ◌*◌, ◌/◌, ◌%◌, ◌<◌}
use native.Mathlib.Omega.{arith}
use lib.ListN.{get_or, drop, length-map}
use lib.Dec.{eqb}
use Rattle.basics.specs.Members.{clash}
use Rattle.label.specs.Limits.{first_minimum, term_base, most_places}
use Rattle.label.specs.Labels.{are_arities, is_label, predicate_of, atom_from, unpacked, terms_of, packed, equates, test_of}
use Rattle.label.proofs.ArityLaws.{terms-length, arity-two}
use Rattle.label.specs.Renamings.{moved}
use Rattle.label.specs.declared.Test.{Test}
use Rattle.label.specs.declared.Test.TheVariants.{Always, Is}
use Rattle.paths.specs.Paths.{Literal}
use Rattle.paths.specs.Inner.{literal_at, literals_in}
use Rattle.cutting.specs.Cut.{Matched, plain, found}
use Rattle.cutting.proofs.MovedLaws.{asks, moved-asks, asks-other, Two, two, length_two}
use Rattle.cutting.proofs.MatchLaws.{lit}
use Rattle.matcher.specs.Search.{is_equality, into_at, Setting, Met, truth, other, Finds, image_of, packing, image_label}
use Rattle.matcher.specs.Search.{equal as matched}
use Rattle.matcher.proofs.LiteralLaws.{into-mem, mem-into, number_same, predicate-zero, predicate-more}
use Rattle.matcher.proofs.TermLaws.{place-term}

-- packing place by place is packing
packed-packing : (p : ℕ) (us : List ℕ) → packed (atom_from p us) ≡ packing p (λ k. get_or us k 0) most_places
unfolding packed packing
packed-packing p us = omega arith

packing-same : (p : ℕ) (f g : ℕ → ℕ) (n : ℕ) → ((k : ℕ) → k < n → f k ≡ g k) → packing p f n ≡ packing p g n
unfolding packing
packing-same p f g zero h = refl
packing-same p f g (suc n) h = ap₂ (λ (a b : ℕ). a * term_base + b) (packing-same p f g n (λ k l. h k (omega arith))) (h n (omega arith))

-- a term replaced as theta has it
abbrev pub replaced_by : List ℕ → ℕ → ℕ
replaced_by theta t = get_or theta t 0

module _ (ar T ord into tab : List ℕ) (set : Setting ar T ord into tab) (x : ℕ) (label : is_label ar (x / 2) ≡ true) where
  good : are_arities ar ≡ true
  good = set.search.arities

  module _ (theta : List ℕ) (stays : get_or theta 0 0 ≡ 0) where
    us : List ℕ
    us = map (replaced_by theta) (terms_of ar (unpacked (x / 2)))

    get_d-map-zero : (ts : List ℕ) (j : ℕ) → get_or (map (replaced_by theta) ts) j 0 ≡ get_or theta (get_or ts j 0) 0
    get_d-map-zero [] j = sym stays
    get_d-map-zero (t ∷ ts) zero = refl
    get_d-map-zero (t ∷ ts) (suc j) = get_d-map-zero ts j

    us-at : (k : ℕ) → k < most_places → get_or us k 0 ≡ image_of theta (x / 2) k
    unfolding us
    us-at k h = get_d-map-zero (terms_of ar (unpacked (x / 2))) k ∙ ap (λ (t : ℕ). get_or theta t 0) (place-term ar (x / 2) good label k h)

    asked : moved ar (replaced_by theta) (x / 2) ≡ asks (predicate_of (x / 2)) us
    unfolding us
    asked = moved-asks ar (replaced_by theta) (x / 2) good

    test-packed : (k y : ℕ) → ◌≡◌ {A = Test} (Is (record { packed = k })) (Is (record { packed = y })) → k ≡ y
    test-packed k y e = ap number e
      where
        number : Test → ℕ
        number Always = 0
        number (Is z) = z.packed

    always-is : {A : Type 0} (k : ℕ) → Always ≡ Is (record { packed = k }) → A
    always-is k e = let z : ◌≡◌ {A = ℕ} 0 1 = cc in absurd (omega arith)

    -- the (replaced_by theta) is the label k: it is met exactly if k is found with the sign of x
    module _ (k : ℕ) (is : moved ar (replaced_by theta) (x / 2) ≡ Is (record { packed = k })) where
      found-matched : (r : Bool) → Finds into (k * 2 + x % 2) r → r ≡ true → Matched ar (replaced_by theta) (literals_in (drop first_minimum into)) (literal_at x)
      unfolding literal_at
      found-matched r f e =
          let w = f.yes e in
          let h : into_at into w.0 / 2 ≡ k = ap (λ (y : ℕ). y / 2) w.2 ∙ omega arith in
          let g : into_at into w.0 % 2 ≡ x % 2 = ap (λ (y : ℕ). y % 2) w.2 ∙ omega arith in
          found k is (subst (λ (m : Literal). Memᴰ m (literals_in (drop first_minimum into))) (λ i. record { label = h i; sign = eqb (g i) 1 }) (into-mem into w.0 w.1))

      matched-found : (r : Bool) → Finds into (k * 2 + x % 2) r → r ≡ false → Matched ar (replaced_by theta) (literals_in (drop first_minimum into)) (literal_at x) → ⊥
      unfolding literal_at
      matched-found r f e (plain q z) = always-is k (sym q ∙ is)
      matched-found r f e (found y q m) =
          let j : k ≡ y = test-packed k y (sym is ∙ q) in
          let s = mem-into into (lit y (eqb (x % 2) 1)) m in
          let h : y ≡ into_at into s.0 / 2 = ap (λ (l : Literal). l.label) s.2 in
          let b : eqb (x % 2) 1 ≡ eqb (into_at into s.0 % 2) 1 = ap (λ (l : Literal). l.sign) s.2 in
          let e₂ : x % 2 ≡ (k * 2 + x % 2) % 2 = omega arith in
          let c : into_at into s.0 ≡ k * 2 + x % 2 = number_same (into_at into s.0) (k * 2 + x % 2) (sym h ∙ sym j ∙ omega arith)
          (sym b ∙ ap (λ (n : ℕ). eqb n 1) e₂) in
          f.no e s.0 s.1 c

    pub record Meets (r : Bool) : Type 0 where
      pub yes : r ≡ true → Matched ar (replaced_by theta) (literals_in (drop first_minimum into)) (literal_at x)
      pub no : r ≡ false → Matched ar (replaced_by theta) (literals_in (drop first_minimum into)) (literal_at x) → ⊥

    equal-us : is_equality x ≡ true → us ≡ image_of theta (x / 2) 0 ∷ image_of theta (x / 2) 1 ∷ []
    unfolding us
    equal-us h =
        go
        (length_two us
        (length-map (terms_of ar (unpacked (x / 2))) (replaced_by theta)
        ∙ terms-length ar (x / 2) good
        ∙ ap (λ (p : ℕ). get_or ar p 0) (predicate-zero x h)
        ∙ arity-two ar good))
      where
        go : Two us → us ≡ image_of theta (x / 2) 0 ∷ image_of theta (x / 2) 1 ∷ []
        go (two a b z) =
            let p : a ≡ image_of theta (x / 2) 0 = ap (λ (vs : List ℕ). get_or vs 0 0) (sym z) ∙ us-at 0 (omega arith) in
            let q : b ≡ image_of theta (x / 2) 1 = ap (λ (vs : List ℕ). get_or vs 1 0) (sym z) ∙ us-at 1 (omega arith) in
            z ∙ (λ i. p i ∷ q i ∷ [])

    equal-asked : is_equality x ≡ true → moved ar (replaced_by theta) (x / 2) ≡ equates (image_of theta (x / 2) 0) (image_of theta (x / 2) 1)
    equal-asked h = asked ∙ ap₂ asks (predicate-zero x h) (equal-us h) ∙ (unfold asks test_of in refl)

    -- the label that x becomes, place by place
    image-packed : packed (atom_from (predicate_of (x / 2)) us) ≡ image_label theta (x / 2)
    image-packed = packed-packing (predicate_of (x / 2)) us ∙ packing-same (predicate_of (x / 2)) (λ k. get_or us k 0) (image_of theta (x / 2)) most_places us-at

    pub meets : {r : Bool} → Met into theta x r → Meets r
    unfolding literal_at
    meets {r} (truth h e q) = record { yes = λ z. plain (equal-asked h ∙ e) (sym q ∙ z); no = λ z m. not_plain z m }
      where
        not_plain : r ≡ false → Matched ar (replaced_by theta) (literals_in (drop first_minimum into)) (literal_at x) → ⊥
        not_plain z (plain w s) = clash s (sym q ∙ z)
        not_plain z (found y w m) = always-is y (sym (equal-asked h ∙ e) ∙ w)
    meets {r} (matched y h e f) =
        record { yes = λ z. found-matched y (equal-asked h ∙ e) r f z; no = λ z m. matched-found y (equal-asked h ∙ e) r f z m }
    meets {r} (other h f) = record { yes = λ z. found-matched k is r f' z; no = λ z m. matched-found k is r f' z m }
      where
        k : ℕ
        k = packed (atom_from (predicate_of (x / 2)) us)

        is : moved ar (replaced_by theta) (x / 2) ≡ Is (record { packed = k })
        is = asked ∙ asks-other (predicate_of (x / 2)) us (predicate-more x h)

        f' : Finds into (k * 2 + x % 2) r
        f' = subst (λ (n : ℕ). Finds into (n * 2 + x % 2) r) (sym image-packed) f
