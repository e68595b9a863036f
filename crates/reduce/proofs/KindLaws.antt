-- Laws of `has_marked`, `has_kinds` and `has_parameter`.
use mathlib.Core.Path.{◌≡◌, refl, sym, ap, ap₂, subst, ◌∙◌}
use mathlib.Core.Logic.{◌⊎◌, inl, ⊎_elim}
use mathlib.Core.Bool.{Bool, true, false, not, ◌||◌, ◌&&◌, cond}
use mathlib.Core.List.{List}
use Prim.Native.Nat.{ℕ, zero, suc, pred, ◌+◌, ◌-◌, ◌*◌, ◌/◌, ◌≤◌, ◌<◌}
use native.Mathlib.Omega.{arith}
use native.Mathlib.Nat.{zero-add}
use lib.ListN.{length, get_or, take, drop, length-drop}
use Rattle.std.proofs.Math.Seq.{take-suc}
use Rattle.std.proofs.lemmas.List.{get_or-drop}
use Rattle.std.proofs.lemmas.List.Folds.{list_any-append}
use Rattle.std.specs.List.{list_any}
use lib.Dec.{eqb, ltb}
use borrow.Author.Tests.{eq-eqb, ne_eqb, eqb-true, eqb-false, lt-ltb, ltb-true}
use Rattle.basics.specs.Tests.{Flag, is_true, is_false, flag, Cmp, cmp, below, equal, above, Either, one, other, either, or-one, or-other}
use Rattle.basics.specs.Members.{mem, clash}
use Rattle.label.specs.Limits.{constant_count, first_parameter, parameter_count, term_end, leaf_mark, predicate_weight, equality}
use Rattle.label.specs.Terms.{is_constant}
use Rattle.label.specs.Labels.{predicate_of, unpacked, terms_of}
use Rattle.diagram.specs.Diagram.{Diagram, leaf, branch, From}
use Rattle.diagram.specs.Words.{label_at, high_at, low_at, row_count}
use Rattle.diagram.specs.Listing.{diagram_of}
use Rattle.diagram.specs.Validity.{Valid, tree}
use Rattle.diagram.specs.Variables.{occurs, is_plain}
use Rattle.diagram.specs.DiagramOfListing.{diagram-is, good-diagram, shown-rows}
use Rattle.diagram.specs.ListingValid.{listing-is-valid}
use Rattle.listing.specs.Used.{Used, marked_minimums}
use Rattle.listing.specs.UsedLaws.{marked-plain}
use Rattle.reduction.specs.Combinations.{some_of}
use Rattle.reduction.specs.Reduction.{is_general, has_kinds, has_parameter}
use Rattle.reduction.proofs.CallLaws.{parameter-quiet, quiet-parameter}
use Rattle.reduce.specs.Winning.{some_used, Markable}
use Rattle.reduce.proofs.CallLaws.{some-mem, mem-some}

-- `has_marked`
turned : (a b : Bool) → (a || (b || false)) ≡ (b || a)
turned true true = refl
turned true false = refl
turned false true = refl
turned false false = refl

module _ (used : List ℕ) (first : ℕ) where
  used_step : (t : ℕ) → some_used used first (suc t) ≡ (not (eqb (get_or used (first + t) 0) 0) || some_used used first t)
  unfolding some_used
  used_step t = refl

  used-later : (t n : ℕ) → t < n → (get_or used (first + t) 0 ≡ 0 → ⊥) → some_used used first n ≡ true
  used-later t zero h e = absurd (omega arith)
  used-later t (suc n) h e = used_step n ∙ go (cmp t n) (used-later t n)
    where
      go : Cmp t n → (t < n → (get_or used (first + t) 0 ≡ 0 → ⊥) → some_used used first n ≡ true) → (not (eqb (get_or used (first + n) 0) 0) || some_used used first n) ≡ true
      go (below q) ih = or-other (not (eqb (get_or used (first + n) 0) 0)) _ (ih q e)
      go (equal q) ih = or-one _ (some_used used first n) (ap not (ne_eqb (get_or used (first + n) 0) 0 (λ z. e (ap (λ (k : ℕ). get_or used (first + k) 0) q ∙ z))))
      go (above q) ih = absurd (omega arith)

  pub used_listed : (n : ℕ) → first + n ≤ length used → list_any (λ (x : ℕ). not (eqb x 0)) (take n (drop first used)) ≡ some_used used first n
  unfolding some_used
  used_listed zero h = refl
  used_listed (suc n) h =
      let l : n < length (drop first used) = omega (arith, length-drop first used) in
      rw (take-suc (drop first used) n 0 l, list_any-append, get_or-drop, used_listed n (omega arith)) (turned (some_used used first n) (not (eqb (get_or used (first + n) 0) 0)))

  used-from : (n : ℕ) → some_used used first n ≡ true → (t : ℕ) × (t < n) × (get_or used (first + t) 0 ≡ 0 → ⊥)
  used-from zero e = clash e (unfold some_used in refl)
  used-from (suc n) e = go (flag (eqb (get_or used (first + n) 0) 0)) (used-from n)
    where
      go : Flag (eqb (get_or used (first + n) 0) 0) → (some_used used first n ≡ true → (t : ℕ) × (t < n) × (get_or used (first + t) 0 ≡ 0 → ⊥))
          → (t : ℕ) × (t < suc n) × (get_or used (first + t) 0 ≡ 0 → ⊥)
      go (is_true q) ih =
          let r = ih (sym (used_step n ∙ ap (λ (b : Bool). not b || some_used used first n) q) ∙ e) in
          (r.0, omega (arith, r.1), r.2)
      go (is_false q) ih = (n, omega arith, eqb-false (get_or used (first + n) 0) 0 q)

-- ===== Neither equality nor a constant =====
abbrev node : Bool → Bool → Bool → Bool → Bool
node a b x y = not a && (not b && (x && y))

general-branch : (ar : List ℕ) (l : ℕ) (t f : Diagram)
    → is_general ar (branch l t f) ≡ node (eqb (predicate_of l) equality) (some_of is_constant (terms_of ar (unpacked l))) (is_general ar t) (is_general ar f)
unfolding is_general
general-branch ar l t f = refl

occurs-branch : (ar : List ℕ) (u l : ℕ) (t f : Diagram) → occurs ar u (branch l t f) ≡ (mem eqb u (terms_of ar (unpacked l)) || (occurs ar u t || occurs ar u f))
unfolding occurs
occurs-branch ar u l t f = refl

high-label : (l : ℕ) → predicate_weight ≤ l → eqb (predicate_of l) equality ≡ false
unfolding predicate_of
high-label l h = ne_eqb (l / predicate_weight) equality (λ z. omega arith)

low-label : (l : ℕ) → l < predicate_weight → eqb (predicate_of l) equality ≡ true
unfolding predicate_of
low-label l h = eq-eqb (l / predicate_weight) equality (omega arith)

-- no equality, for labels from the weight of a predicate on, and no constant
general-true : (ar : List ℕ) (d : Diagram) (n : ℕ) → From n d → predicate_weight ≤ n → ((t : ℕ) → is_constant t ≡ true → occurs ar t d ≡ false) → is_general ar d ≡ true
general-true ar (leaf v) n o h c = (unfold is_general in refl)
general-true ar (branch l t f) n o h c = go (flag (some_of is_constant (terms_of ar (unpacked l))))
    (general-true ar t (suc l) o.1 (omega (arith, o.0))) (general-true ar f (suc l) o.2 (omega (arith, o.0)))
  where
    none-high : (u : ℕ) → is_constant u ≡ true → occurs ar u t ≡ false
    none-high u e = off (flag (occurs ar u t))
      where
        off : Flag (occurs ar u t) → occurs ar u t ≡ false
        off (is_true q) = clash (occurs-branch ar u l t f ∙ or-other (mem eqb u (terms_of ar (unpacked l))) _ (or-one _ _ q)) (c u e)
        off (is_false q) = q

    none-low : (u : ℕ) → is_constant u ≡ true → occurs ar u f ≡ false
    none-low u e = off (flag (occurs ar u f))
      where
        off : Flag (occurs ar u f) → occurs ar u f ≡ false
        off (is_true q) = clash (occurs-branch ar u l t f ∙ or-other (mem eqb u (terms_of ar (unpacked l))) _ (or-other (occurs ar u t) _ q)) (c u e)
        off (is_false q) = q

    go : Flag (some_of is_constant (terms_of ar (unpacked l))) → (((u : ℕ) → is_constant u ≡ true → occurs ar u t ≡ false) → is_general ar t ≡ true)
        → (((u : ℕ) → is_constant u ≡ true → occurs ar u f ≡ false) → is_general ar f ≡ true) → is_general ar (branch l t f) ≡ true
    go (is_true q) x y = let r = mem-some is_constant (terms_of ar (unpacked l)) q in clash (occurs-branch ar r.0 l t f ∙ or-one _ (occurs ar r.0 t || occurs ar r.0 f) r.1) (c r.0 r.2)
    go (is_false q) x y =
        general-branch ar l t f ∙ ap₂ (λ (a b : Bool). node a b (is_general ar t) (is_general ar f)) (high-label l (omega (arith, o.0))) q
        ∙ ap₂ (λ (a b : Bool). a && b) (x none-high) (y none-low)

not-general : (a b x y : Bool) → (a ≡ true → node a b x y ≡ false) × (b ≡ true → node a b x y ≡ false) × (x ≡ false → node a b x y ≡ false) × (y ≡ false → node a b x y ≡ false)
not-general true b x y = ((λ e. refl), (λ e. refl), (λ e. refl), (λ e. refl))
not-general false true x y = ((λ e. clash e refl), (λ e. refl), (λ e. refl), (λ e. refl))
not-general false false true y = ((λ e. clash e refl), (λ e. clash e refl), (λ e. clash refl e), (λ e. e))
not-general false false false y = ((λ e. clash e refl), (λ e. clash e refl), (λ e. refl), (λ e. refl))

-- a constant
general-constant : (ar : List ℕ) (u : ℕ) → is_constant u ≡ true → (d : Diagram) → occurs ar u d ≡ true → is_general ar d ≡ false
general-constant ar u c (leaf v) e = clash e (unfold occurs in refl)
general-constant ar u c (branch l t f) e =
    general-branch ar l t f ∙ go (either (mem eqb u (terms_of ar (unpacked l))) _ (sym (occurs-branch ar u l t f) ∙ e)) (general-constant ar u c t) (general-constant ar u c f)
  where
    all : (eqb (predicate_of l) equality ≡ true → node (eqb (predicate_of l) equality) (some_of is_constant (terms_of ar (unpacked l))) (is_general ar t) (is_general ar f) ≡ false)
        × (some_of is_constant (terms_of ar (unpacked l)) ≡ true → node (eqb (predicate_of l) equality) (some_of is_constant (terms_of ar (unpacked l))) (is_general ar t) (is_general ar f) ≡ false)
        × (is_general ar t ≡ false → node (eqb (predicate_of l) equality) (some_of is_constant (terms_of ar (unpacked l))) (is_general ar t) (is_general ar f) ≡ false)
        × (is_general ar f ≡ false → node (eqb (predicate_of l) equality) (some_of is_constant (terms_of ar (unpacked l))) (is_general ar t) (is_general ar f) ≡ false)
    all = not-general (eqb (predicate_of l) equality) (some_of is_constant (terms_of ar (unpacked l))) (is_general ar t) (is_general ar f)

    below-it : Either (occurs ar u t) (occurs ar u f) → (occurs ar u t ≡ true → is_general ar t ≡ false) → (occurs ar u f ≡ true → is_general ar f ≡ false)
        → node (eqb (predicate_of l) equality) (some_of is_constant (terms_of ar (unpacked l))) (is_general ar t) (is_general ar f) ≡ false
    below-it (one q) x y = all.2 (x q)
    below-it (other q) x y = all.3 (y q)

    go : Either (mem eqb u (terms_of ar (unpacked l))) (occurs ar u t || occurs ar u f) → (occurs ar u t ≡ true → is_general ar t ≡ false) → (occurs ar u f ≡ true → is_general ar f ≡ false)
        → node (eqb (predicate_of l) equality) (some_of is_constant (terms_of ar (unpacked l))) (is_general ar t) (is_general ar f) ≡ false
    go (one q) x y = all.1 (some-mem is_constant u (terms_of ar (unpacked l)) q c)
    go (other q) x y = below-it (either (occurs ar u t) _ q) x y

-- `has_kinds`
module _ (ar : List ℕ) (d : Diagram) where
  kinds-are : has_kinds ar d ≡ not (is_general ar d && is_plain ar d)
  unfolding has_kinds
  kinds-are = refl

  some-kind : (a b : Bool) → (a ≡ false) ⊎ (b ≡ false) → not (a && b) ≡ true
  some-kind false b h = refl
  some-kind true false h = refl
  some-kind true true h = ⊎_elim (λ (e : true ≡ false). clash refl e) (λ (e : true ≡ false). clash refl e) h

  kinds-some : (is_general ar d ≡ false) ⊎ (is_plain ar d ≡ false) → true ≡ has_kinds ar d
  kinds-some h = sym (kinds-are ∙ some-kind (is_general ar d) (is_plain ar d) h)

module _ {ar ws used : List ℕ} {n : ℕ} (g : Markable ar ws used n) where
  valid : Valid ar ws
  valid = listing-is-valid ar ws g.listing

  abbrev d : Diagram
  d = diagram_of ws

  pub root-some : 1 ≤ n
  root-some = omega (arith, g.whole, valid.some)

  pub root-word : (n - 1) * 3 + 3 ≤ length ws
  root-word = omega (arith, g.whole, valid.some, valid.whole)

  root_is : tree ws (n - 1) ≡ d
  root_is = let e : n - 1 ≡ pred (row_count ws) = omega (arith, g.whole, valid.some) in ap (tree ws) e ∙ sym (diagram-is ar ws valid)

  abbrev L : ℕ
  L = get_or ws ((n - 1) * 3) 0

  branch-is : (L ≡ leaf_mark → ⊥) → d ≡ branch L (tree ws (get_or ws ((n - 1) * 3 + 1) 0)) (tree ws (get_or ws ((n - 1) * 3 + 2) 0))
  unfolding label_at high_at low_at
  branch-is e = sym root_is ∙ (shown-rows ar ws valid).branches (n - 1) (omega (arith, g.whole, valid.some)) e

  leaf-is : L ≡ leaf_mark → d ≡ leaf (get_or ws ((n - 1) * 3 + 1) 0)
  unfolding label_at high_at
  leaf-is e = sym root_is ∙ (shown-rows ar ws valid).leaves (n - 1) (omega (arith, g.whole, valid.some)) e

  pub kinds-equality : L < predicate_weight → ltb L predicate_weight ≡ has_kinds ar d
  kinds-equality h =
      let t = tree ws (get_or ws ((n - 1) * 3 + 1) 0) in
      let f = tree ws (get_or ws ((n - 1) * 3 + 2) 0) in
      lt-ltb L predicate_weight h ∙ kinds-some ar d (inl (ap (is_general ar) (branch-is (λ z. omega arith)) ∙ general-branch ar L t f
      ∙ (not-general (eqb (predicate_of L) equality) (some_of is_constant (terms_of ar (unpacked L))) (is_general ar t) (is_general ar f)).0 (low-label L h)))

  occurs-used : (t : ℕ) → t < term_end → (get_or used t 0 ≡ 0 → ⊥) → occurs ar t d ≡ true
  occurs-used t h e = go (flag (occurs ar t d))
    where
      go : Flag (occurs ar t d) → occurs ar t d ≡ true
      go (is_true q) = q
      go (is_false q) = absurd (e (g.marks.each t h ∙ ap (λ (b : Bool). cond b 1 0) q))

  used-occurs : (t : ℕ) → t < term_end → occurs ar t d ≡ true → get_or used t 0 ≡ 0 → ⊥
  used-occurs t h q z = let o : ◌≡◌ {A = ℕ} 1 0 = sym (g.marks.each t h ∙ ap (λ (b : Bool). cond b 1 0) q) ∙ z in omega arith

  constant-is : (t : ℕ) → t < constant_count → is_constant t ≡ true
  unfolding is_constant
  constant-is t h = lt-ltb t constant_count h

  constant-below : (t : ℕ) → is_constant t ≡ true → t < constant_count
  unfolding is_constant
  constant-below t e = ltb-true t constant_count e

  module _ {b : Bool} (q : b ≡ some_used used 0 constant_count) where
    pub kinds-constant : b ≡ true → b ≡ has_kinds ar d
    kinds-constant e =
        let r = used-from used 0 constant_count (sym q ∙ e) in
        let o = occurs-used r.0 (omega (arith, r.1)) (λ z. r.2 (ap (λ (k : ℕ). get_or used k 0) (zero-add r.0) ∙ z)) in
        e ∙ kinds-some ar d (inl (general-constant ar r.0 (constant-is r.0 r.1) d o))

    general-yes : predicate_weight ≤ L → b ≡ false → is_general ar d ≡ true
    general-yes h e = general-true ar d predicate_weight (from (flag (eqb L leaf_mark))) (omega arith) none
      where
        none : (t : ℕ) → is_constant t ≡ true → occurs ar t d ≡ false
        none t c = off (flag (occurs ar t d))
          where
            off : Flag (occurs ar t d) → occurs ar t d ≡ false
            off (is_true o) =
                let l = constant-below t c in
                clash (used-later used 0 t constant_count l (λ z. used-occurs t (omega arith) o (ap (λ (k : ℕ). get_or used k 0) (sym (zero-add t)) ∙ z))) (sym q ∙ e)
            off (is_false o) = o

        raised : (x : Diagram) (l : ℕ) (t f : Diagram) → x ≡ branch l t f → From 0 x → predicate_weight ≤ l → From predicate_weight x
        raised (leaf v) l t f z o k = tt
        raised (branch m u w) l t f z o k = let y : m ≡ l = cc in (omega arith, o.1, o.2)

        flat : (x : Diagram) (v : ℕ) → x ≡ leaf v → From predicate_weight x
        flat (leaf v) w z = tt
        flat (branch m u y) w z = absurd (let o : ◌≡◌ {A = ℕ} 0 1 = cc in omega arith)

        from : Flag (eqb L leaf_mark) → From predicate_weight d
        from (is_true z) = flat d (get_or ws ((n - 1) * 3 + 1) 0) (leaf-is (eqb-true L leaf_mark z))
        from (is_false z) = raised d L (tree ws (get_or ws ((n - 1) * 3 + 1) 0)) (tree ws (get_or ws ((n - 1) * 3 + 2) 0)) (branch-is (eqb-false L leaf_mark z)) (good-diagram ar ws valid).ordered h

    module _ {p : Bool} (w : p ≡ eqb (marked_minimums used) 0) where
      plain-is : p ≡ is_plain ar d
      plain-is = w ∙ marked-plain ar d used g.marks

      pub kinds-minimum : predicate_weight ≤ L → b ≡ false → not p ≡ has_kinds ar d
      kinds-minimum h z = sym (kinds-are ar d ∙ ap₂ (λ (x y : Bool). not (x && y)) (general-yes h z) (sym plain-is))

-- `has_parameter`
module _ (ar used : List ℕ) (x : Diagram) (u : Used ar x used) where
  parameter-used : (i : ℕ) → i < parameter_count → occurs ar (first_parameter + i) x ≡ true → get_or used (first_parameter + i) 0 ≡ 0 → ⊥
  parameter-used i h q z = let o : ◌≡◌ {A = ℕ} 1 0 = sym (u.each (first_parameter + i) (omega arith) ∙ ap (λ (b : Bool). cond b 1 0) q) ∙ z in omega arith

  used-parameter : (i : ℕ) → i < parameter_count → (get_or used (first_parameter + i) 0 ≡ 0 → ⊥) → occurs ar (first_parameter + i) x ≡ true
  used-parameter i h e = go (flag (occurs ar (first_parameter + i) x))
    where
      go : Flag (occurs ar (first_parameter + i) x) → occurs ar (first_parameter + i) x ≡ true
      go (is_true q) = q
      go (is_false q) = absurd (e (u.each (first_parameter + i) (omega arith) ∙ ap (λ (b : Bool). cond b 1 0) q))

  parameter-is : some_used used first_parameter parameter_count ≡ has_parameter ar x
  parameter-is = go (flag (some_used used first_parameter parameter_count)) (flag (has_parameter ar x))
    where
      none : some_used used first_parameter parameter_count ≡ false → (t : ℕ) → first_parameter ≤ t → t < first_parameter + parameter_count → occurs ar t x ≡ false
      none a t h k = off (flag (occurs ar (first_parameter + (t - first_parameter)) x))
        where
          off : Flag (occurs ar (first_parameter + (t - first_parameter)) x) → occurs ar t x ≡ false
          off (is_true o) =
              clash (used-later used first_parameter (t - first_parameter) parameter_count (omega arith) (parameter-used (t - first_parameter) (omega arith) o)) a
          off (is_false o) = subst (λ (u : ℕ). occurs ar u x ≡ false) (let z : first_parameter + (t - first_parameter) ≡ t = omega arith in z) o

      go : Flag (some_used used first_parameter parameter_count) → Flag (has_parameter ar x) → some_used used first_parameter parameter_count ≡ has_parameter ar x
      go (is_true a) (is_true b) = a ∙ sym b
      go (is_true a) (is_false b) =
          let r = used-from used first_parameter parameter_count a in
          clash (used-parameter r.0 r.1 r.2) (parameter-quiet ar x b (first_parameter + r.0) (omega arith) (omega (arith, r.1)))
      go (is_false a) (is_true b) = clash b (quiet-parameter ar x (none a))
      go (is_false a) (is_false b) = a ∙ sym b

  pub parameter-marked : {b : Bool} → b ≡ some_used used first_parameter parameter_count → b ≡ has_parameter ar x
  parameter-marked q = q ∙ parameter-is
