-- Laws of what stands before the search: each row's highest leaf, the terms' first objects; and what the search's end says of the state.
use mathlib.Core.Path.{◌≡◌, refl, sym, ap, subst, ◌∙◌}
use mathlib.Core.Bool.{Bool, true, false, cond}
use mathlib.Core.List.{List, [], ◌∷◌, map}
use Prim.Native.Nat.{ℕ, zero, suc, ◌+◌, ◌-◌, ◌*◌, ◌≤◌, ◌<◌, max}
use native.Mathlib.Omega.{arith}
use borrow.Author.Tests.{ltb-true, leb-true, eqb-true, eqb-false, eq-eqb, ne_eqb}
use lib.ListN.{length, get_or, set, replicate, length-set, get_or-replicate, get_or-eq_default}
use lib.Seq.{get_or-set_same, get_or-set_other}
use lib.Dec.{eqb, ltb, leb}
use Rattle.basics.specs.Tests.{Cmp, below, equal, above, cmp, Flag, is_true, is_false, flag, and_left, and_right}
use Rattle.label.specs.Limits.{term_end, leaf_mark, first_parameter, first_variable, constant_count}
use Rattle.label.specs.Labels.{predicate_of, unpacked, terms_of}
use Rattle.diagram.specs.Diagram.{Diagram, leaf, branch, eval, relabel}
use Rattle.diagram.specs.Words.{label_at, high_at, low_at, row_count, is_listing}
use Rattle.diagram.specs.WordLaws.{below-every}
use Rattle.diagram.specs.Listing.{diagram_of}
use Rattle.diagram.specs.Validity.{Valid, tree}
use Rattle.diagram.specs.Variables.{is_plain}
use Rattle.diagram.specs.RowDiagrams.{branch_row}
use Rattle.diagram.specs.DiagramOfListing.{valid-rows, shown-rows, diagram-is}
use Rattle.diagram.specs.ListingValid.{listing-is-valid}
use Rattle.diagram.specs.Listings.{is-listing-good}
use Rattle.state.specs.State.{atom_of, meaning, State, truth, holds, value, low, fixed, Fits}
use Rattle.state.proofs.ValueLaws.{low-lt, low-ge, by-low}
use Rattle.state.specs.Inner.{Highest}
use Rattle.state.specs.Highest.{Bound}
use Rattle.state.specs.Lent.{all_below, constants_below, state_of, is_state}
use Rattle.minimum.specs.Number.{Under, Number}
use Rattle.minimum.proofs.NumberLaws.{number_is, number-attained}
use Rattle.minimum.proofs.PlainLaws.{fine-plain, number-highest}
use Rattle.elimination.proofs.AnswerLaws.{lent-good}
use Rattle.valuing.specs.Search.{free, Topping, TopsBy, top_by, fixed_in, Placing, Started, lent_truth, lent_holds, leaf_from, Extends, Hit, old, new, Best, Ready}
use Rattle.valuing.proofs.SearchLaws.{end-number, tops-in-state}
use Rattle.valuing.specs.Rising.{leaf_of, Beneath, Held, Risen, Topmost, Chosen}
use Rattle.valuing.specs.Rising as rising
use Rattle.valuing.specs.Walks.{bound_number, Prepared}
use Rattle.valuing.specs.WalkLaws.{bound-below}

-- a row's number, test by test
module _ (g : ℕ → ℕ) (ws high : List ℕ) (i : ℕ) where
  pub top-leaf : {x : ℕ} → get_or ws (i * 3) 0 ≡ leaf_mark → x ≡ g (get_or ws (i * 3 + 1) 0) → x ≡ top_by g ws high i
  unfolding top_by label_at high_at
  top-leaf e q = q ∙ rw (eq-eqb _ leaf_mark e)

  module _ (n : get_or ws (i * 3) 0 ≡ leaf_mark → ⊥) where
    pub top-higher : {x : ℕ} → x ≡ max (get_or high (get_or ws (i * 3 + 1) 0) 0) (get_or high (get_or ws (i * 3 + 2) 0) 0) → x ≡ top_by g ws high i
    unfolding top_by label_at high_at low_at
    top-higher e = e ∙ rw (ne_eqb _ leaf_mark n)

    pub top-branch : (f : ℕ → ℕ) {x : ℕ} → x ≡ top_by f ws high i → x ≡ top_by g ws high i
    unfolding top_by label_at
    top-branch f q = q ∙ rw (ne_eqb _ leaf_mark n)

-- a branch's children have numbers
module _ {ws high : List ℕ} (t : Topping ws high) {i : ℕ} (h : i < row_count ws) (n : get_or ws (i * 3) 0 ≡ leaf_mark → ⊥) where
  pub top-true : get_or ws (i * 3 + 1) 0 < length high
  unfolding label_at high_at
  top-true = omega (arith, (branch_row t.arities ws (row_count ws) (valid-rows t.arities ws t.valid) i h n).high-before, t.places)

  pub top-false : get_or ws (i * 3 + 2) 0 < length high
  unfolding label_at low_at
  top-false = omega (arith, (branch_row t.arities ws (row_count ws) (valid-rows t.arities ws t.valid) i h n).low-before, t.places)

-- rows in-state one by one
pub record Topped (g : ℕ → ℕ) (ws high : List ℕ) (i : ℕ) : Type 0 where
  pub topping : Topping ws high
  pub most : i ≤ row_count ws
  pub done : TopsBy g ws high i

pub topped-start : {g : ℕ → ℕ} {ws high : List ℕ} → Topping ws high → Topped g ws high 0
topped-start t = record { topping = t; most = omega arith; done = record { bound = λ r l c. absurd (omega arith); leaves = λ r l e. absurd (omega arith) } }

pub topped-on : {g : ℕ → ℕ} {ws high : List ℕ} {i x : ℕ} → Topped g ws high i → i < row_count ws → x ≡ top_by g ws high i → Topped g ws (set high i x) (i + 1)
unfolding top_by eval
topped-on {g} {ws} {high} {i} {x} t l e = record {
  topping = record { arities = t.topping.arities; valid = t.topping.valid; places = rw length-set t.topping.places };
  most = omega arith;
  done = record {
    bound = λ r h c. bounded r c (cmp r i) h;
    leaves = λ r h m. leafy r m (cmp r i) h;
  };
}
  where
    here : get_or (set high i x) i 0 ≡ x
    here = get_or-set_same high i x 0 (omega (arith, t.topping.places))

    v : Valid t.topping.arities ws
    v = t.topping.valid

    at_leaf : label_at ws i ≡ leaf_mark → x ≡ g (high_at ws i)
    at_leaf q = e ∙ ap (λ b. cond b (g (high_at ws i)) (max (get_or high (high_at ws i) 0) (get_or high (low_at ws i) 0))) (eq-eqb _ leaf_mark q)

    cond-most : (b : Bool) (y z m k : ℕ) → g y ≤ m → g z ≤ k → g (cond b y z) ≤ max m k
    cond-most true y z m k p q = omega arith
    cond-most false y z m k p q = omega arith

    top : (c : ℕ → Bool) → Flag (eqb (label_at ws i) leaf_mark) → g (eval c (tree ws i)) ≤ x
    top c (is_true q) =
        let z = (shown-rows t.topping.arities ws v).leaves i l (eqb-true _ _ q) in
        omega (arith, ap (λ d. g (eval c d)) z, at_leaf (eqb-true _ _ q))
    top c (is_false q) =
        let n = eqb-false _ _ q in
        let z = (shown-rows t.topping.arities ws v).branches i l n in
        let row = branch_row t.topping.arities ws (row_count ws) (valid-rows t.topping.arities ws v) i l n in
        let k = e ∙ ap (λ b. cond b (g (high_at ws i)) (max (get_or high (high_at ws i) 0) (get_or high (low_at ws i) 0))) q in
        omega (
          arith,
          k,
          ap (λ d. g (eval c d)) z,
          cond-most (c (label_at ws i)) (eval c (tree ws (high_at ws i))) (eval c (tree ws (low_at ws i))) (get_or high (high_at ws i) 0) (get_or high (low_at ws i) 0)
              (t.done.bound (high_at ws i) row.high-before c) (t.done.bound (low_at ws i) row.low-before c),
        )

    bounded : (r : ℕ) (c : ℕ → Bool) → Cmp r i → r < i + 1 → g (eval c (tree ws r)) ≤ get_or (set high i x) r 0
    bounded r c (below q) h = rw (get_or-set_other high i r x 0 (omega arith)) (t.done.bound r q c)
    bounded r c (equal q) h = subst (λ (y : ℕ). g (eval c (tree ws y)) ≤ get_or (set high i x) y 0) (sym q) (rw here (top c (flag (eqb (label_at ws i) leaf_mark))))
    bounded r c (above q) h = absurd (omega arith)

    leafy : (r : ℕ) → label_at ws r ≡ leaf_mark → Cmp r i → r < i + 1 → get_or (set high i x) r 0 ≡ g (high_at ws r)
    leafy r m (below q) h = get_or-set_other high i r x 0 (omega arith) ∙ t.done.leaves r q m
    leafy r m (equal q) h =
        let m' : label_at ws i ≡ leaf_mark = sym (ap (label_at ws) q) ∙ m in
        subst (λ (y : ℕ). get_or (set high i x) y 0 ≡ g (high_at ws y)) (sym q) (here ∙ at_leaf m')
    leafy r m (above q) h = absurd (omega arith)

pub topped-end : {g : ℕ → ℕ} {ws high : List ℕ} {i : ℕ} → Topped g ws high i → row_count ws ≤ i → TopsBy g ws high (row_count ws)
topped-end {g} {ws} {high} t h = subst (TopsBy g ws high) (omega (arith, t.most)) t.done

-- the terms' first objects
module _ (constants os : List ℕ) (t : ℕ) where
  pub fixed-constant : {x : ℕ} → t < first_parameter → x ≡ get_or constants t 0 → x ≡ fixed_in constants os t
  unfolding fixed_in
  fixed-constant h e = e ∙ sym (low-lt first_parameter t (get_or constants t 0) (get_or os (t - first_parameter) (get_or constants 0 0)) h)

  pub fixed-object : first_parameter ≤ t → t - first_parameter < length os → get_or os (t - first_parameter) 0 ≡ fixed_in constants os t
  unfolding fixed_in
  fixed-object h l =
      any-default os (t - first_parameter) 0 (get_or constants 0 0) l
      ∙ sym (low-ge first_parameter t (get_or constants t 0) (get_or os (t - first_parameter) (get_or constants 0 0)) h)
    where
      any-default : (xs : List ℕ) (i d e : ℕ) → i < length xs → get_or xs i d ≡ get_or xs i e
      any-default [] i d e l = absurd (omega arith)
      any-default (x ∷ xs) zero d e l = refl
      any-default (x ∷ xs) (suc i) d e l = any-default xs i d e (omega arith)

  pub fixed-parameter : {x : ℕ} → first_parameter ≤ t → length os ≤ t - first_parameter → x ≡ get_or constants 0 0 → x ≡ fixed_in constants os t
  unfolding fixed_in
  fixed-parameter h l e =
      e ∙ sym (get_or-eq_default os (get_or constants 0 0) l)
      ∙ sym (low-ge first_parameter t (get_or constants t 0) (get_or os (t - first_parameter) (get_or constants 0 0)) h)

pub placing-on : {constants os env₀ env : List ℕ} {t o : ℕ} → Placing constants os env₀ env t → t < first_variable → o ≡ fixed_in constants os t
    → Placing constants os env₀ (set env t o) (t + 1)
placing-on {constants} {os} {env₀} {env} {t} {o} s l e = record {
  places = length-set env t o ∙ s.places;
  bound = λ u m. given u m (cmp u t);
  others = λ u m. get_or-set_other env t u o 0 (omega arith) ∙ s.others u (omega arith);
}
  where
    given : (u : ℕ) → u < t + 1 → Cmp u t → get_or (set env t o) u 0 ≡ fixed_in constants os u
    given u m (below q) = get_or-set_other env t u o 0 (omega arith) ∙ s.bound u q
    given u m (equal q) = subst (λ (y : ℕ). get_or (set env t o) y 0 ≡ fixed_in constants os y) (sym q) (get_or-set_same env t o 0 (omega (arith, s.places)) ∙ e)
    given u m (above q) = absurd (omega arith)

pub placing-end : {constants os env₀ env : List ℕ} {t : ℕ} → Placing constants os env₀ env t → t ≤ first_variable → first_variable ≤ t
    → Placing constants os env₀ env first_variable
placing-end {constants} {os} {env₀} {env} s l m = subst (Placing constants os env₀ env) (omega arith) s

-- with no object for the variables
pub started : {constants os env : List ℕ} → Placing constants os (replicate term_end free) env first_variable → Started constants os env
started p = record { places = p.places; bound = p.bound; unbound = λ t l m. p.others t l ∙ get_or-replicate term_end t free 0 m }

-- what a lent state and a tuple of its objects are
pub record Lendable (n : ℕ) (constants os : List ℕ) : Type 0 where
  pub some : 0 < n
  pub placed : (c : ℕ) → c < constant_count → get_or constants c 0 < n
  pub tuple : (i : ℕ) → get_or os i (get_or constants 0 0) < n

module _ (ar : List ℕ) (n : ℕ) (constants facts os : List ℕ) (e : is_state ar n constants facts ≡ true) (o : all_below n os ≡ true) where
  abbrev st : State
  st = state_of ar n constants facts

  pub lent_bound : Bound (state_of ar n constants facts) os
  unfolding state_of
  lent_bound = bound-below (lent-good ar n constants facts e) os o

  pub state-lendable : Lendable n constants os
  unfolding state_of is_state constants_below
  state-lendable = record {
    some = leb-true 1 n (and_left (leb 1 n) _ e);
    placed = λ c h. ltb-true _ _ (below-every constant_count (λ c. ltb (get_or constants c 0) n) c (and_left (constants_below n constants) _ (and_right (leb 1 n) _ e)) h);
    tuple = lent_bound.each;
  }

  pub lent-fixed : (t : ℕ) → fixed (state_of ar n constants facts) os t ≡ fixed_in constants os t
  unfolding state_of fixed fixed_in
  lent-fixed t = by-low (fixed st os t ≡ fixed_in constants os t) first_parameter t
      (λ h. low-lt first_parameter t _ (get_or os (t - first_parameter) (get_or constants 0 0)) h ∙ low-lt constant_count t (get_or constants t 0) 0 h
      ∙ sym (low-lt first_parameter t (get_or constants t 0) (get_or os (t - first_parameter) (get_or constants 0 0)) h))
      (λ h. low-ge first_parameter t (low constant_count t (get_or constants t 0) 0) (get_or os (t - first_parameter) (get_or constants 0 0)) h
      ∙ sym (low-ge first_parameter t (get_or constants t 0) (get_or os (t - first_parameter) (get_or constants 0 0)) h))

  pub fixed-below : (t : ℕ) → fixed_in constants os t < n
  unfolding fixed_in
  fixed-below t = by-low (fixed_in constants os t < n) first_parameter t
      (λ h. rw (low-lt first_parameter t (get_or constants t 0) (get_or os (t - first_parameter) (get_or constants 0 0)) h) (state-lendable.placed t h))
      (λ h. rw (low-ge first_parameter t (get_or constants t 0) (get_or os (t - first_parameter) (get_or constants 0 0)) h) (state-lendable.tuple (t - first_parameter)))

  module _ (env : List ℕ) (s : Started constants os env) (θ : ℕ → ℕ) where
    fits-extends : Fits (state_of ar n constants facts) os θ → Extends n env θ
    unfolding state_of
    fits-extends x = record {
      agrees = λ t l h. by-low (θ t ≡ get_or env t 0) first_variable t
          (λ k. x.low t k ∙ lent-fixed t ∙ sym (s.bound t k))
          (λ k. absurd (h (s.unbound t k l)));
      range = x.range;
    }

    extends-fits : n ≤ free → Extends n env θ → Fits (state_of ar n constants facts) os θ
    unfolding state_of
    extends-fits m x = record {
      low = λ t k. x.agrees t (omega arith) (λ z. omega (arith, s.bound t k, fixed-below t)) ∙ s.bound t k ∙ sym (lent-fixed t);
      range = x.range;
    }

module _ (ar : List ℕ) (n : ℕ) (constants facts : List ℕ) where
  lent-truth : (p : ℕ) (os : List ℕ) → truth (state_of ar n constants facts) p os ≡ lent_truth ar facts p os
  unfolding state_of
  lent-truth zero os = refl
  lent-truth (suc p) os = refl

  pub lent-value : (θ : ℕ → ℕ) (d : Diagram) → value (state_of ar n constants facts) (meaning ar d) θ ≡ eval (lent_holds ar facts θ) d
  unfolding value meaning relabel eval holds atom_of lent_holds
  lent-value θ (leaf v) = refl
  lent-value θ (branch l t g) = rw (lent-truth (predicate_of l) (map θ (terms_of ar (unpacked l))), lent-value θ t, lent-value θ g)

root-tree : (ar ws : List ℕ) → Valid ar ws → diagram_of ws ≡ tree ws (row_count ws - 1)
root-tree ar ws v = diagram-is ar ws v ∙ ap (tree ws) (omega arith)

-- the number from the root is that of the leaf
pub root-number : {g : ℕ → ℕ} {ws high : List ℕ} (ar facts : List ℕ) → Valid ar ws → TopsBy g ws high (row_count ws) → (θ : ℕ → ℕ)
    → leaf_from ar facts ws high θ (row_count ws - 1) ≡ g (leaf_of ar facts ws θ)
unfolding leaf_from leaf_of
root-number {g} {ws} {high} ar facts v t θ =
    end-number ar v t (lent_holds ar facts θ) (row_count ws - 1) (omega (arith, v.some)) ∙ ap (λ d. g (eval (lent_holds ar facts θ) d)) (sym (root-tree ar ws v))

pub listing-some : (ar ws : List ℕ) → is_listing ar ws ≡ true → 1 ≤ row_count ws
listing-some ar ws e = (listing-is-valid ar ws e).some

module _ {ar ws high : List ℕ} {n : ℕ} {constants facts index : List ℕ} (p : Prepared ar ws high n constants facts index) where
  pub root-some : 1 ≤ row_count ws
  root-some = listing-some ar ws p.listed

  pub root-read : row_count ws - 1 < length high
  root-read = omega (arith, root-some, p.places)

  leaf-value : (θ : ℕ → ℕ) → value (state_of ar n constants facts) (meaning ar (diagram_of ws)) θ ≡ leaf_of ar facts ws θ
  unfolding leaf_of
  leaf-value θ = lent-value ar n constants facts θ (diagram_of ws)

  module _ (os : List ℕ) (o : all_below n os ≡ true) where
    the_number : Number (state_of ar n constants facts) os (meaning ar (diagram_of ws)) (bound_number ar ws n constants facts os)
    the_number = number_is (state_of ar n constants facts) os (lent-good ar n constants facts p.lent) (lent_bound ar n constants facts os p.lent o) (meaning ar (diagram_of ws))

    -- where no leaf passes the best so far, neither does the number, which is a leaf
    number_cut : {best : ℕ} → ((θ : ℕ → ℕ) → Fits (state_of ar n constants facts) os θ → leaf_of ar facts ws θ < best)
        → best ≡ max best (suc (bound_number ar ws n constants facts os))
    number_cut {best} h =
        let a = number-attained (meaning ar (diagram_of ws)) the_number in
        omega (arith, leaf-value a.0, a.2, h a.0 a.1)

    -- no leaf below the root passes the best so far
    pub root-cut : {best : ℕ} → get_or high (row_count ws - 1) 0 < best → best ≡ max best (suc (bound_number ar ws n constants facts os))
    unfolding leaf_of
    root-cut {best} h =
        let v = listing-is-valid ar ws p.listed in
        number_cut (λ θ f. omega (arith, ap (eval (lent_holds ar facts θ)) (root-tree ar ws v), p.tops.bound (row_count ws - 1) (omega (arith, v.some)) (lent_holds ar facts θ)))

    module _ {env : List ℕ} (s : Started constants os env) (m : n ≤ free) where
      -- the search may begin
      pub start-ready : Ready ws high ar facts index env n
      start-ready = record {
        valid = listing-is-valid ar ws p.listed;
        places = p.places;
        tops = tops-in-state ar (listing-is-valid ar ws p.listed) p.tops (λ x h. h);
        indexed = p.indexed;
        env-fits = record {
          places = s.places;
          some = (state-lendable ar n constants facts os p.lent o).some;
          most = m;
          range = λ t l z. by-low (get_or env t 0 < n) first_variable t
              (λ k. rw (s.bound t k) (fixed-below ar n constants facts os p.lent o t))
              (λ k. absurd (z (s.unbound t k l)));
        };
      }

      module _ {best b : ℕ} {env' : List ℕ} (t : Best ar facts ws high env n (row_count ws - 1) best b env') where
        root-leaf : (θ : ℕ → ℕ) → leaf_from ar facts ws high θ (row_count ws - 1) ≡ leaf_of ar facts ws θ
        root-leaf θ = root-number ar facts (listing-is-valid ar ws p.listed) p.tops θ

        -- its end is the highest leaf
        most : Topmost ar facts ws env n b
        most θ x = omega (arith, root-leaf θ, t.above θ x)

        pub found-most : Topmost ar facts ws env' n b
        found-most = subst (λ (e : List ℕ). Topmost ar facts ws e n b) (sym t.restored) most

        -- which is the number where there is no minimum variable
        pub found_number : {plain : Bool} → plain ≡ is_plain ar (diagram_of ws) → plain ≡ true → b ≡ max best (suc (bound_number ar ws n constants facts os))
        found_number e q =
            let θ = best-is.point in
            let v = best-is.value in
            let k = t.kept in
            let l = t.above θ (fits-extends ar n constants facts os p.lent o env s θ best-is.inside) in
            omega (arith, leaf-value θ, root-leaf θ, top t.hit)
          where
            best-is : Highest (state_of ar n constants facts) os (meaning ar (diagram_of ws)) (bound_number ar ws n constants facts os)
            best-is = number-highest (state_of ar n constants facts) os (meaning ar (diagram_of ws))
                (fine-plain ar (diagram_of ws) (is-listing-good ar ws p.listed).fine (sym e ∙ q)) _ the_number

            top : Hit ar facts ws high env n (row_count ws - 1) best b → b ≤ max best (suc (bound_number ar ws n constants facts os))
            top (old z) = omega arith
            top (new θ x z) =
                let f = best-is.bound θ (extends-fits ar n constants facts os p.lent o env s θ m x) in
                omega (arith, leaf-value θ, root-leaf θ)

        -- and where it is the best so far, the number does not pass that either
        pub found_none : b ≡ best → best ≡ max best (suc (bound_number ar ws n constants facts os))
        found_none e = number_cut (λ θ f. omega (arith, most θ (fits-extends ar n constants facts os p.lent o env s θ f)))

        -- the search over the maximum variables may begin
        pub found-chosen : Chosen ws ar facts index env' n first_variable
        found-chosen = subst (λ (e : List ℕ). Chosen ws ar facts index e n first_variable) (sym t.restored) (record {
          valid = listing-is-valid ar ws p.listed;
          indexed = p.indexed;
          env-fits = start-ready.env-fits;
          end = omega arith;
          bound = λ u h z e. omega (arith, s.bound u h, fixed-below ar n constants facts os p.lent o u);
          unbound = s.unbound;
        })

      -- and its end is the number: the highest of the lowest leaves
      under : (θ η : ℕ → ℕ) → Fits (state_of ar n constants facts) os θ → Beneath n θ η → Under (state_of ar n constants facts) os θ η
      unfolding state_of
      under θ η f u = record { fits = record { low = λ t h. u.same t (omega arith) ∙ f.low t h; range = u.range }; same = u.same }

      beneath : (θ η : ℕ → ℕ) → Under (state_of ar n constants facts) os θ η → Beneath n θ η
      unfolding state_of
      beneath θ η u = record { same = u.same; range = u.fits.range }

      pub risen-number : {best b r : ℕ} {env' : List ℕ} → Best ar facts ws high env n (row_count ws - 1) best b env' → Risen ar facts ws env' n best r
          → r ≡ max best (suc (bound_number ar ws n constants facts os))
      risen-number {best} {b} {r} t w = ends (subst (λ (e : List ℕ). Risen ar facts ws e n best r) t.restored w)
        where
          top : Held ar facts ws env n best r → r ≤ max best (suc (bound_number ar ws n constants facts os))
          top (rising.old z) = omega arith
          top (rising.new θ x f) =
              let h = the_number.bound θ (extends-fits ar n constants facts os p.lent o env s θ m x) in
              omega (arith, h.2, leaf-value h.0, f h.0 (beneath θ h.0 h.1))

          ends : Risen ar facts ws env n best r → r ≡ max best (suc (bound_number ar ws n constants facts os))
          ends w =
              let a = w.above the_number.point (fits-extends ar n constants facts os p.lent o env s the_number.point the_number.inside) in
              omega (arith, w.kept, a.2, leaf-value a.0, the_number.lowest.bound a.0 (under the_number.point a.0 the_number.inside a.1), top w.held)
