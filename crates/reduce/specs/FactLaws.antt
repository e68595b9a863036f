-- Two ground literals are opposed exactly if their numbers clash.
use Rattle.std.specs.Prelude.{◌≡◌, refl, Bool, not, ◌&&◌, get_or, take}
use Rattle.std.proofs.Common.{sym, subst, ◌∙◌, eqb-true, eq-eqb, ne_eqb}
use Rattle.std.proofs.Math.Path.{ap, ap₂}
use Rattle.std.proofs.Math.Bool.{true, false, cond}
use Rattle.std.specs.Bool.{beq}
use mathlib.Core.List.{List, [], ◌∷◌, map}
use Prim.Native.Nat.{ℕ, zero, suc, ◌+◌, ◌*◌, ◌/◌, ◌^◌, ◌≤◌, ◌<◌}
use native.Mathlib.Omega.{arith}
use Rattle.std.proofs.Math.Nat.{mul-le-mul_right, mul_assoc, pow-zero, pow-succ'}
use Rattle.std.proofs.Math.ListN.{length}
use lib.Dec.{eqb}
use Rattle.basics.specs.Tests.{Flag, is_true, is_false, flag}
use Rattle.basics.specs.Members.{clash}
use Rattle.label.specs.Limits.{term_base, term_end, predicate_count, predicate_weight}
use Rattle.label.specs.Labels.{packed, predicate_of, unpacked, places_of, terms_of, is_label}
use Rattle.label.proofs.LabelLaws.{place_of, place_end, label-fits}
use Rattle.label.specs.Renamings.{placed, mapped, renamed}
use Rattle.label.proofs.RenamingLaws.{placed-used, placed-unused}
use Rattle.label.specs.declared.Atom.{Atom}
use Rattle.diagram.specs.Words.{equal_lists}
use Rattle.diagram.specs.WordLaws.{lists-equal, equal-lists}
use Rattle.paths.specs.Paths.{Literal}
use Rattle.paths.specs.Inner.{bit}
use Rattle.reduction.specs.Combinations.{object_of, ground_of, opposed}
use Rattle.reduce.specs.Facts.{fact_of, code_of, clashing}

-- ===== A label as its predicate and places =====
horner : ℕ → List ℕ → ℕ
horner p [] = p
horner p (t ∷ ts) = horner (p * term_base + t) ts

horner-packed : (a : Atom) → packed a ≡ horner a.predicate (places_of a)
unfolding packed horner
horner-packed a = omega arith

abbrev Low : List ℕ → Type 0
Low [] = Unit {0}
Low (t ∷ ts) = (t < term_base) × Low ts

horner-one : (p q : ℕ) (ts us : List ℕ) → length ts ≡ length us → Low ts → Low us → horner p ts ≡ horner q us → (p ≡ q) × (ts ≡ us)
unfolding horner
horner-one p q [] [] l x y e = (e, refl)
horner-one p q [] (u ∷ us) l x y e = absurd (omega arith)
horner-one p q (t ∷ ts) [] l x y e = absurd (omega arith)
horner-one p q (t ∷ ts) (u ∷ us) l x y e =
    let r = horner-one (p * term_base + t) (q * term_base + u) ts us (omega arith) x.1 y.1 e in
    let a : p ≡ q = omega (arith, r.0, x.0, y.0) in
    let b : t ≡ u = omega (arith, r.0, x.0, y.0) in
    (a, ap₂ ◌∷◌ b r.1)

-- ===== Replaced places =====
abbrev placed_all : (ℕ → ℕ) → ℕ → ℕ → List ℕ → List ℕ
placed_all ρ n k [] = []
placed_all ρ n k (t ∷ ts) = placed ρ n k t ∷ placed_all ρ n (suc k) ts

places-mapped : (ρ : ℕ → ℕ) (n : ℕ) (a : Atom) → places_of (mapped ρ n a) ≡ placed_all ρ n 0 (places_of a)
unfolding mapped
places-mapped ρ n a = refl

placed-length : (ρ : ℕ → ℕ) (n k : ℕ) (ts : List ℕ) → length (placed_all ρ n k ts) ≡ length ts
placed-length ρ n k [] = refl
placed-length ρ n k (t ∷ ts) = ap suc (placed-length ρ n (suc k) ts)

module _ (ρ : ℕ → ℕ) (small : (t : ℕ) → ρ t < term_base) where
  placed-low : (n k : ℕ) (ts : List ℕ) → Low (placed_all ρ n k ts)
  unfolding placed
  placed-low n k [] = tt
  placed-low n k (t ∷ ts) = (go (lib.Dec.ltb k n), placed-low n (suc k) ts)
    where
      go : (b : Bool) → cond b (ρ t) 0 < term_base
      go true = small t
      go false = omega arith

-- the used places are the terms replaced
placed-terms : (ρ : ℕ → ℕ) (n k j : ℕ) → n ≡ k + j → (ts : List ℕ) → take j (placed_all ρ n k ts) ≡ map ρ (take j ts)
placed-terms ρ n k zero e ts = refl
placed-terms ρ n k (suc j) e [] = refl
placed-terms ρ n k (suc j) e (t ∷ ts) = ap₂ ◌∷◌ (placed-used ρ n k t (omega arith)) (placed-terms ρ n (suc k) j (omega arith) ts)

placed_same : (ρ σ : ℕ → ℕ) (n k j : ℕ) → n ≡ k + j → (ts us : List ℕ) → length ts ≡ length us → map ρ (take j ts) ≡ map σ (take j us) → placed_all ρ n k ts ≡ placed_all σ n k us
placed_same ρ σ n k j e [] [] l q = refl
placed_same ρ σ n k j e [] (u ∷ us) l q = absurd (omega arith)
placed_same ρ σ n k j e (t ∷ ts) [] l q = absurd (omega arith)
placed_same ρ σ n k zero e (t ∷ ts) (u ∷ us) l q =
    ap₂ ◌∷◌ (placed-unused ρ n k t (omega arith) ∙ sym (placed-unused σ n k u (omega arith))) (unused ρ σ n (suc k) (omega arith) ts us (omega arith))
  where
    unused : (ρ σ : ℕ → ℕ) (n k : ℕ) → n ≤ k → (ts us : List ℕ) → length ts ≡ length us → placed_all ρ n k ts ≡ placed_all σ n k us
    unused ρ σ n k h [] [] l = refl
    unused ρ σ n k h [] (u ∷ us) l = absurd (omega arith)
    unused ρ σ n k h (t ∷ ts) [] l = absurd (omega arith)
    unused ρ σ n k h (t ∷ ts) (u ∷ us) l = ap₂ ◌∷◌ (placed-unused ρ n k t h ∙ sym (placed-unused σ n k u h)) (unused ρ σ n (suc k) (omega arith) ts us (omega arith))
placed_same ρ σ n k (suc j) e (t ∷ ts) (u ∷ us) l q =
    let a : ρ t ≡ σ u = cc in
    let b : map ρ (take j ts) ≡ map σ (take j us) = cc in
    ap₂ ◌∷◌ (placed-used ρ n k t (omega arith) ∙ a ∙ sym (placed-used σ n k u (omega arith))) (placed_same ρ σ n (suc k) j (omega arith) ts us (omega arith) b)

-- ===== Facts =====
terms-raw : (ar : List ℕ) (x : ℕ) → terms_of ar (unpacked x) ≡ take (get_or ar (predicate_of x) 0) (places_of (unpacked x))
unfolding terms_of unpacked predicate_of
terms-raw ar x = refl

module _ (ar : List ℕ) where
  renamed-horner : (τ : ℕ → ℕ) (x : ℕ) → renamed ar τ x ≡ horner (predicate_of x) (placed_all τ (get_or ar (predicate_of x) 0) 0 (places_of (unpacked x)))
  unfolding renamed
  renamed-horner τ x =
      horner-packed (mapped τ (get_or ar (predicate_of x) 0) (unpacked x))
      ∙ ap₂ horner (unfold mapped unpacked predicate_of in refl) (places-mapped τ (get_or ar (predicate_of x) 0) (unpacked x))

  terms-are : (τ : ℕ → ℕ) (x : ℕ) → map τ (terms_of ar (unpacked x)) ≡ take (get_or ar (predicate_of x) 0) (placed_all τ (get_or ar (predicate_of x) 0) 0 (places_of (unpacked x)))
  terms-are τ x =
      ap (map τ) (terms-raw ar x) ∙ sym (placed-terms τ (get_or ar (predicate_of x) 0) 0 (get_or ar (predicate_of x) 0) (omega arith) (places_of (unpacked x)))

  module _ (ρ σ : ℕ → ℕ) (l m : ℕ) where
    abbrev nl : ℕ
    nl = get_or ar (predicate_of l) 0

    abbrev nm : ℕ
    nm = get_or ar (predicate_of m) 0

    same-fact : ((t : ℕ) → ρ t < term_base) → ((t : ℕ) → σ t < term_base) → renamed ar ρ l ≡ renamed ar σ m
        → (predicate_of l ≡ predicate_of m) × (map ρ (terms_of ar (unpacked l)) ≡ map σ (terms_of ar (unpacked m)))
    same-fact rs ss e =
        let r = horner-one (predicate_of l) (predicate_of m) (placed_all ρ nl 0 (places_of (unpacked l))) (placed_all σ nm 0 (places_of (unpacked m)))
        (placed-length ρ nl 0 (places_of (unpacked l)) ∙ sym (placed-length σ nm 0 (places_of (unpacked m))))
        (placed-low ρ rs nl 0 (places_of (unpacked l))) (placed-low σ ss nm 0 (places_of (unpacked m)))
        (sym (renamed-horner ρ l) ∙ e ∙ renamed-horner σ m) in
        (r.0, terms-are ρ l ∙ ap₂ (λ (p : ℕ) (ts : List ℕ). take (get_or ar p 0) ts) r.0 r.1 ∙ sym (terms-are σ m))

    pub fact-same : predicate_of l ≡ predicate_of m → map ρ (terms_of ar (unpacked l)) ≡ map σ (terms_of ar (unpacked m)) → renamed ar ρ l ≡ renamed ar σ m
    fact-same p q =
        let n : nl ≡ nm = ap (λ (x : ℕ). get_or ar x 0) p in
        let q' : map ρ (take nl (places_of (unpacked l))) ≡ map σ (take nl (places_of (unpacked m)))
        = sym (ap (map ρ) (terms-raw ar l)) ∙ q ∙ ap (map σ) (terms-raw ar m) ∙ ap (λ (x : ℕ). map σ (take x (places_of (unpacked m)))) (sym n) in
        renamed-horner ρ l
        ∙ ap₂ horner p (placed_same ρ σ nl 0 nl (omega arith) (places_of (unpacked l)) (places_of (unpacked m)) refl q'
        ∙ ap (λ (x : ℕ). placed_all σ x 0 (places_of (unpacked m))) n)
        ∙ sym (renamed-horner σ m)

  -- maps that agree on terms give one fact
  agree : (ρ σ : ℕ → ℕ) → ((t : ℕ) → t < term_end → ρ t ≡ σ t) → (n : ℕ) (ts : List ℕ) → ((k : ℕ) → k < length ts → get_or ts k 0 < term_end) → map ρ (take n ts) ≡ map σ (take n ts)
  agree ρ σ e zero ts h = refl
  agree ρ σ e (suc n) [] h = refl
  agree ρ σ e (suc n) (t ∷ ts) h = ap₂ ◌∷◌ (e t (h 0 (omega arith))) (agree ρ σ e n ts (λ k l. h (suc k) (omega arith)))

  pub renamed-agree : (ρ σ : ℕ → ℕ) (l : ℕ) → is_label ar l ≡ true → ((t : ℕ) → t < term_end → ρ t ≡ σ t) → renamed ar ρ l ≡ renamed ar σ l
  renamed-agree ρ σ l g e = fact-same ρ σ l l refl
      (ap (map ρ) (terms-raw ar l) ∙ agree ρ σ e (get_or ar (predicate_of l) 0) (places_of (unpacked l)) (λ k h. subst (λ (t : ℕ). t < term_end) (sym (place_of l k h)) (place_end ar l k g h))
      ∙ sym (ap (map σ) (terms-raw ar l)))

  -- a fact's number is below the end of facts
  horner-below : (p : ℕ) (ts : List ℕ) → Low ts → horner p ts < suc p * term_base ^ length ts
  unfolding horner
  horner-below p [] l = omega (arith, pow-zero term_base)
  horner-below p (t ∷ ts) l =
      let ih = horner-below (p * term_base + t) ts l.1 in
      let a : suc (p * term_base + t) ≤ suc p * term_base = omega (arith, l.0) in
      let b = mul-le-mul_right (term_base ^ length ts) a in
      let c : suc p * term_base * term_base ^ length ts ≡ suc p * term_base ^ suc (length ts)
      = mul_assoc (suc p) term_base (term_base ^ length ts) ∙ ap (λ (x : ℕ). suc p * x) (sym (pow-succ' term_base (length ts))) in
      omega (arith, ih, b, c)

  pub fact-below : (ρ : ℕ → ℕ) (l : ℕ) → is_label ar l ≡ true → ((t : ℕ) → ρ t < term_base) → renamed ar ρ l < predicate_count * predicate_weight
  fact-below ρ l g s =
      let h = horner-below (predicate_of l) (placed_all ρ (get_or ar (predicate_of l) 0) 0 (places_of (unpacked l))) (placed-low ρ s (get_or ar (predicate_of l) 0) 0 (places_of (unpacked l))) in
      let p : predicate_of l < predicate_count = predicate-below l g in
      omega (arith, h, p, renamed-horner ρ l)
    where
      predicate-below : (l : ℕ) → is_label ar l ≡ true → predicate_of l < predicate_count
      predicate-below l g = unfold predicate_of unpacked in (label-fits ar l g).predicate-fits

bits : (f : ℕ) (a b : Bool) → eqb (f * 2 + bit a) (f * 2 + bit b) ≡ beq a b
bits f true true = eq-eqb (f * 2 + 1) (f * 2 + 1) refl
bits f true false = ne_eqb (f * 2 + 1) (f * 2 + 0) (λ z. omega arith)
bits f false true = ne_eqb (f * 2 + 0) (f * 2 + 1) (λ z. omega arith)
bits f false false = eq-eqb (f * 2 + 0) (f * 2 + 0) refl

half : (f : ℕ) (a : Bool) → (f * 2 + bit a) / 2 ≡ f
half f true = omega arith
half f false = omega arith

module _ (ar vs os us : List ℕ) (so : (t : ℕ) → object_of vs os t < term_base) (su : (t : ℕ) → object_of vs us t < term_base) where
  pub opposed-clash : (x y : Literal) → opposed (ground_of ar vs os x) (ground_of ar vs us y) ≡ clashing (code_of (fact_of ar vs os) x) (code_of (fact_of ar vs us) y)
  unfolding opposed ground_of clashing code_of fact_of
  opposed-clash x y = go (flag (eqb f g)) (flag (eqb p q)) (flag (equal_lists a b))
    where
      f : ℕ
      f = renamed ar (object_of vs os) x.label

      g : ℕ
      g = renamed ar (object_of vs us) y.label

      p : ℕ
      p = predicate_of x.label

      q : ℕ
      q = predicate_of y.label

      a : List ℕ
      a = map (object_of vs os) (terms_of ar (unpacked x.label))

      b : List ℕ
      b = map (object_of vs us) (terms_of ar (unpacked y.label))

      Left : Bool
      Left = eqb p q && (equal_lists a b && not (beq x.sign y.sign))

      Right : Bool
      Right = eqb ((f * 2 + bit x.sign) / 2) ((g * 2 + bit y.sign) / 2) && not (eqb (f * 2 + bit x.sign) (g * 2 + bit y.sign))

      right-false : eqb f g ≡ false → Right ≡ false
      right-false e = rw (half f x.sign, half g y.sign, e)

      go : Flag (eqb f g) → Flag (eqb p q) → Flag (equal_lists a b) → Left ≡ Right
      go (is_true e) u v =
          let z = eqb-true f g e in
          let s = same-fact ar (object_of vs os) (object_of vs us) x.label y.label so su z in
          let l : Left ≡ not (beq x.sign y.sign) = rw (eq-eqb p q s.0, s.1, equal-lists b) in
          let r : Right ≡ not (beq x.sign y.sign) = rw (half f x.sign, half g y.sign, e, z, bits g x.sign y.sign) in
          l ∙ sym r
      go (is_false e) (is_false u) v = rw u (sym (right-false e))
      go (is_false e) (is_true u) (is_false v) = rw (u, v) (sym (right-false e))
      go (is_false e) (is_true u) (is_true v) = clash (eq-eqb f g (fact-same ar (object_of vs os) (object_of vs us) x.label y.label (eqb-true p q u) (lists-equal a b v))) e
