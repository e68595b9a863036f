-- Ground listings have equal numbers exactly if they are equal: where each constant has an object of its own, facts decide each ground label freely.
use Rattle.std.specs.Prelude.{◌≡◌, refl, ◌≢◌, Bool, true, false, not, ◌&&◌, ◌||◌, List, [], ◌∷◌, map, ℕ, zero, suc, pred, ◌<◌, length, get_or, eqb, ltb}
use Rattle.std.proofs.Common.{ap, ap₂, sym, subst, ◌∙◌, arith, ltb-true, eqb-true, eq-eqb, ne_eqb}
use Rattle.std.proofs.lemmas.Bool.{eqb-false}
use Rattle.basics.specs.Tests.{and_left, and_right, Flag, is_true, is_false, flag}
use Rattle.basics.specs.Members.{clash}
use Rattle.label.specs.Limits.{constant_count, equality, first_parameter, first_variable, leaf_mark}
use Rattle.label.specs.Terms.{is_constant}
use Rattle.label.specs.Labels.{atom_from, packed, predicate_of, unpacked, terms_of, is_label, are_arities}
use Rattle.label.proofs.LabelLaws.{packed-unpacked, label-below}
use Rattle.label.proofs.ArityLaws.{terms-length}
use Rattle.diagram.specs.Diagram.{Diagram, leaf, branch, eval, EveryLabel}
use Rattle.diagram.specs.Words.{label_at, high_at, low_at, row_count, equal_lists, is_listing}
use Rattle.diagram.specs.Listing.{tree_at, diagram_of}
use Rattle.diagram.specs.Validity.{Valid}
use Rattle.diagram.specs.WordLaws.{below-every, lists-equal, equal-lists}
use Rattle.diagram.specs.ListingLaws.{tree-leaf, tree-branch}
use Rattle.diagram.specs.RowLaws.{same_tests}
use Rattle.diagram.specs.RowDiagrams.{branch_row}
use Rattle.diagram.specs.DiagramOfListing.{valid-rows}
use Rattle.diagram.specs.ListingValid.{listing-is-valid}
use Rattle.diagram.specs.Listings.{is-one-listing, is-listing-good}
use Rattle.rename.specs.RelabelLaws.{eval-relabel, eval-agree, labels-weaken}
use Rattle.state.specs.Max.{none}
use Rattle.state.specs.State.{atom_of, meaning, State, Good, truth, holds, value, low, fixed}
use Rattle.state.specs.Terms.{Each, Terms}
use Rattle.state.specs.Highest.{start}
use Rattle.state.specs.Lent.{some_below}
use Rattle.state.proofs.LentLaws.{some-made, some-found}
use Rattle.state.proofs.ValueLaws.{low-lt, low-ge, by-low, Terms-mono}
use Rattle.state.proofs.HighestLaws.{bound-tuple, start_fits}
use Rattle.minimum.specs.Number.{number}
use Rattle.minimum.proofs.NumberLaws.{number-equal}
use Rattle.minimum.proofs.ApartLaws.{number-fixed}
use Rattle.cutting.proofs.MovedLaws.{label-atom}
use Rattle.ground.specs.Ground.{all_constants, is_ground_label, is_ground, value_in, StateUnder, DistinctConstants, own_objects, EqualNumbers}

-- ===== Labels =====

-- a label is its predicate and its terms
pub label-one : (ar : List ℕ) (l k : ℕ) → is_label ar l ≡ true → is_label ar k ≡ true → predicate_of l ≡ predicate_of k
    → terms_of ar (unpacked l) ≡ terms_of ar (unpacked k) → l ≡ k
label-one ar l k el ek p t =
    sym (packed-unpacked l) ∙ ap packed (sym (label-atom ar l el) ∙ ap₂ atom_from p t ∙ label-atom ar k ek) ∙ packed-unpacked k

-- the labels of a row's diagram are labels of rows
tree-labels : (Q : ℕ → Type 0) (ar ws : List ℕ) → Valid ar ws → ((i : ℕ) → i < row_count ws → label_at ws i ≢ leaf_mark → Q (label_at ws i))
    → (depth i : ℕ) → i < row_count ws → EveryLabel Q (tree_at ws depth i)
unfolding tree_at
tree-labels Q ar ws v q zero i h = tt
tree-labels Q ar ws v q (suc depth) i h = go (flag (eqb (label_at ws i) leaf_mark)) (tree-labels Q ar ws v q depth)
  where
    go : Flag (eqb (label_at ws i) leaf_mark) → ((j : ℕ) → j < row_count ws → EveryLabel Q (tree_at ws depth j)) → EveryLabel Q (tree_at ws (suc depth) i)
    go (is_true e) ih = rw (tree-leaf ws depth i (eqb-true _ _ e)) tt
    go (is_false e) ih =
        let e' = eqb-false _ _ e in
        let r = branch_row ar ws (row_count ws) (valid-rows ar ws v) i h e' in
        rw (tree-branch ws depth i e') (q i h e', ih (high_at ws i) (omega arith), ih (low_at ws i) (omega arith))

-- a ground label under the arity list ar
abbrev GroundLabel : List ℕ → ℕ → Type 0
GroundLabel ar l = (is_label ar l ≡ true) × (is_ground_label ar l ≡ true)

-- the diagram of a ground listing has such labels only
ground-labels : (ar ws : List ℕ) → is_listing ar ws ≡ true → is_ground ar ws ≡ true → EveryLabel (GroundLabel ar) (diagram_of ws)
unfolding is_ground diagram_of
ground-labels ar ws e g = tree-labels (GroundLabel ar) ar ws v each (row_count ws) (pred (row_count ws)) (let h = v.some in omega arith)
  where
    v : Valid ar ws
    v = listing-is-valid ar ws e

    each : (i : ℕ) → i < row_count ws → label_at ws i ≢ leaf_mark → GroundLabel ar (label_at ws i)
    each i h n =
        let t : (eqb (label_at ws i) leaf_mark || is_ground_label ar (label_at ws i)) ≡ true
        = below-every (row_count ws) (λ j. eqb (label_at ws j) leaf_mark || is_ground_label ar (label_at ws j)) i g h in
        ((branch_row ar ws (row_count ws) (valid-rows ar ws v) i h n).label, rw (ne_eqb (label_at ws i) leaf_mark n) at t)

-- ===== With no variable there is one leaf =====

constants-each : (ts : List ℕ) → all_constants ts ≡ true → Each (λ t. t < constant_count) ts
unfolding is_constant
constants-each [] e = tt
constants-each (t ∷ ts) e = (ltb-true t constant_count (and_left (ltb t constant_count) _ e), constants-each ts (and_right (ltb t constant_count) _ e))

ground-constants : (ar : List ℕ) (l : ℕ) → is_ground_label ar l ≡ true → Each (λ t. t < constant_count) (terms_of ar (unpacked l))
unfolding is_ground_label
ground-constants ar l g = constants-each (terms_of ar (unpacked l)) (and_left (all_constants (terms_of ar (unpacked l))) _ g)

ground-terms : (ar : List ℕ) (d : Diagram) → EveryLabel (GroundLabel ar) d → Terms (λ t. t < constant_count) (meaning ar d)
unfolding meaning
ground-terms ar (leaf v) w = tt
ground-terms ar (branch l t f) w = (ground-constants ar l w.0.1, ground-terms ar t w.1, ground-terms ar f w.2)

-- the number of a ground diagram is the leaf that the facts lead to
ground-number : (ar : List ℕ) (d : Diagram) → EveryLabel (GroundLabel ar) d → (s : State) → Good s
    → number s [] (meaning ar d) ≡ eval (λ l. holds s (start s []) (atom_of ar l)) d
unfolding value meaning
ground-number ar d w s g =
    let m = meaning ar d in
    let b = bound-tuple g none in
    number-equal s [] g b m _ (number-fixed s [] m (Terms-mono (λ t. t < constant_count) (λ t. t < first_variable) (λ t h. omega arith) m (ground-terms ar d w))
    (start s []) (start_fits s [] g b))
    ∙ eval-relabel (holds s (start s [])) (atom_of ar) d

-- ===== Facts chosen freely =====

-- the ground label l is true by the choice c, and gives p of os
gives : List ℕ → (ℕ → Bool) → ℕ → List ℕ → ℕ → Bool
gives ar c p os l = is_label ar l && (is_ground_label ar l && (c l && (eqb (predicate_of l) p && equal_lists (terms_of ar (unpacked l)) os)))

-- p holds of os exactly if it does so by such a label below n
chosen : List ℕ → (ℕ → Bool) → ℕ → ℕ → List ℕ → Bool
chosen ar c n p os = some_below n (gives ar c p os)

record Gives (ar : List ℕ) (c : ℕ → Bool) (p : ℕ) (os : List ℕ) (l : ℕ) : Type 0 where
  label : GroundLabel ar l
  choice : c l ≡ true
  predicate : predicate_of l ≡ p
  objects : terms_of ar (unpacked l) ≡ os

gives-out : (ar : List ℕ) (c : ℕ → Bool) (p : ℕ) (os : List ℕ) (l : ℕ) → gives ar c p os l ≡ true → Gives ar c p os l
unfolding gives
gives-out ar c p os l t =
    let g = and_right (is_label ar l) _ t in
    let b = and_right (is_ground_label ar l) _ g in
    let d = and_right (c l) _ b in
    record {
      label = (and_left (is_label ar l) _ t, and_left (is_ground_label ar l) _ g);
      choice = and_left (c l) _ b;
      predicate = eqb-true _ _ (and_left (eqb (predicate_of l) p) _ d);
      objects = lists-equal _ _ (and_right (eqb (predicate_of l) p) _ d);
    }

-- a chosen fact is given by a ground label
chosen-gives : (ar : List ℕ) (c : ℕ → Bool) (n p : ℕ) (os : List ℕ) → chosen ar c n p os ≡ true → (l : ℕ) × Gives ar c p os l
unfolding chosen
chosen-gives ar c n p os t = let f = some-found n (gives ar c p os) t in (f.0, gives-out ar c p os f.0 f.2)

chosen-made : (ar : List ℕ) (c : ℕ → Bool) (n l : ℕ) → l < n → GroundLabel ar l → c l ≡ true → chosen ar c n (predicate_of l) (terms_of ar (unpacked l)) ≡ true
unfolding chosen gives
chosen-made ar c n l h g t =
    some-made n (gives ar c (predicate_of l) (terms_of ar (unpacked l))) l h
    (rw (g.0, g.1, t, eq-eqb (predicate_of l) (predicate_of l) refl, equal-lists (terms_of ar (unpacked l))))

chosen_is : (ar : List ℕ) (c : ℕ → Bool) (n l : ℕ) → l < n → GroundLabel ar l → chosen ar c n (predicate_of l) (terms_of ar (unpacked l)) ≡ c l
chosen_is ar c n l h g = same_tests _ (c l) there back
  where
    there : chosen ar c n (predicate_of l) (terms_of ar (unpacked l)) ≡ true → c l ≡ true
    there t =
        let f = chosen-gives ar c n (predicate_of l) (terms_of ar (unpacked l)) t in
        let k = f.0 in
        let a = f.1 in
        ap c (sym (label-one ar k l a.label.0 g.0 a.predicate a.objects)) ∙ a.choice

    back : c l ≡ true → chosen ar c n (predicate_of l) (terms_of ar (unpacked l)) ≡ true
    back = chosen-made ar c n l h g

-- the state in which each ground label has the truth that c gives it
freely : List ℕ → (ℕ → Bool) → State
freely ar c = own_objects (chosen ar c leaf_mark)

pub own-good : (facts : ℕ → List ℕ → Bool) → Good (own_objects facts)
unfolding own_objects
own-good facts = record {
  some = omega arith;
  placed = λ c. by-low (low constant_count c c 0 < constant_count) constant_count c
      (λ h. rw (low-lt constant_count c c 0 h) h)
      (λ h. rw (low-ge constant_count c c 0 h) (omega arith));
}

-- each constant is at its own number
own-number : (facts : ℕ → List ℕ → Bool) (c : ℕ) → c < constant_count → (own_objects facts).constant c ≡ c
unfolding own_objects
own-number facts c h = low-lt constant_count c c 0 h

-- such a state whose facts are chosen is one of document 01
freely-state : (ar : List ℕ) → are_arities ar ≡ true → (c : ℕ → Bool) → StateUnder ar (freely ar c)
unfolding freely own_objects
freely-state ar good c = record {
  good = own-good (chosen ar c leaf_mark);
  own = λ p os t. let f = chosen-gives ar c leaf_mark p os t in subst (Each (λ o. o < constant_count)) f.1.objects (ground-constants ar f.0 f.1.label.1);
  count = λ p os t.
      let f = chosen-gives ar c leaf_mark p os t in
      sym (ap length f.1.objects) ∙ terms-length ar f.0 good ∙ ap (λ q. get_or ar q 0) f.1.predicate;
}

pub own-distinct : (ar : List ℕ) (facts : ℕ → List ℕ → Bool) → StateUnder ar (own_objects facts) → DistinctConstants ar (own_objects facts)
own-distinct ar facts d = record { state = d; different = λ c d h k e. sym (own-number facts c h) ∙ e ∙ own-number facts d k }

own-start : (facts : ℕ → List ℕ → Bool) (t : ℕ) → t < constant_count → start (own_objects facts) [] t ≡ t
unfolding fixed
own-start facts t h =
    (start_fits (own_objects facts) [] (own-good facts) (bound-tuple (own-good facts) none)).low t (omega arith)
    ∙ low-lt first_parameter t ((own_objects facts).constant t) _ (omega arith)
    ∙ own-number facts t h

map-own : (θ : ℕ → ℕ) (ts : List ℕ) → Each (λ t. t < constant_count) ts → ((t : ℕ) → t < constant_count → θ t ≡ t) → map θ ts ≡ ts
map-own θ [] w e = refl
map-own θ (t ∷ ts) w e = ap₂ ◌∷◌ (e t w.0) (map-own θ ts w.1 e)

-- what is not equality holds by the facts
truth-fact : (s : State) (p : ℕ) (os : List ℕ) → eqb p equality ≡ false → truth s p os ≡ s.fact p os
truth-fact s zero os e = clash refl e
truth-fact s (suc p) os e = refl

own-fact : (facts : ℕ → List ℕ → Bool) (p : ℕ) (os : List ℕ) → (own_objects facts).fact p os ≡ facts p os
unfolding own_objects
own-fact facts p os = refl

not-true : (b : Bool) → not b ≡ true → b ≡ false
not-true true e = sym e
not-true false e = refl

ground-other : (ar : List ℕ) (l : ℕ) → is_ground_label ar l ≡ true → eqb (predicate_of l) equality ≡ false
unfolding is_ground_label
ground-other ar l g = not-true _ (and_right (all_constants (terms_of ar (unpacked l))) _ g)

-- facts decide each ground label freely
freely-holds : (ar : List ℕ) (c : ℕ → Bool) (l : ℕ) → GroundLabel ar l → holds (freely ar c) (start (freely ar c) []) (atom_of ar l) ≡ c l
unfolding holds atom_of freely
freely-holds ar c l g =
    let facts = chosen ar c leaf_mark in
    let ts = terms_of ar (unpacked l) in
    ap (truth (own_objects facts) (predicate_of l)) (map-own (start (own_objects facts) []) ts (ground-constants ar l g.1) (own-start facts))
    ∙ truth-fact (own_objects facts) (predicate_of l) ts (ground-other ar l g.1)
    ∙ own-fact facts (predicate_of l) ts
    ∙ chosen_is ar c leaf_mark l (label-below ar l g.0) g

-- so the value of a ground diagram in that state is its leaf under c
freely-value : (ar ws : List ℕ) → EveryLabel (GroundLabel ar) (diagram_of ws) → (c : ℕ → Bool) → value_in ar ws (freely ar c) ≡ eval c (diagram_of ws)
unfolding value_in freely
freely-value ar ws w c =
    let s = freely ar c in
    ground-number ar (diagram_of ws) w s (own-good (chosen ar c leaf_mark))
    ∙ eval-agree _ c (diagram_of ws) (labels-weaken (GroundLabel ar) _ (diagram_of ws) (freely-holds ar c) w)

-- ===== L14, whole =====

pub equal-numbers : (ar x y : List ℕ) → is_listing ar x ≡ true → is_listing ar y ≡ true → is_ground ar x ≡ true → is_ground ar y ≡ true → EqualNumbers ar x y
unfolding freely
equal-numbers ar x y lx ly gx gy = record {
  values = λ e s g. ap (λ ws. value_in ar ws s) e;
  rows = λ h. by-own (λ facts d. h (own_objects facts) d);
  rows-distinct = λ h. by-own (λ facts d. h (own_objects facts) (own-distinct ar facts d));
  rows-own = by-own;
}
  where
    by-own : ((facts : ℕ → List ℕ → Bool) → StateUnder ar (own_objects facts) → value_in ar x (own_objects facts) ≡ value_in ar y (own_objects facts)) → x ≡ y
    by-own h = is-one-listing ar x y lx ly (λ c.
        sym (freely-value ar x (ground-labels ar x lx gx) c)
        ∙ h (chosen ar c leaf_mark) (freely-state ar (is-listing-good ar x lx).arities c)
        ∙ freely-value ar y (ground-labels ar y ly gy) c)
