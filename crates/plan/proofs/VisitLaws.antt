-- The ways through `visit`, `below` and `walk`, each in the words of what its callees ensure.
use mathlib.Core.Bool.{true, false}
use mathlib.Core.Path.{◌≡◌, refl, sym, ap, subst, ◌∙◌}
use mathlib.Core.List.{List, [], ◌∷◌, ◌++◌}
use Prim.Native.Nat.{ℕ, ◌+◌, ◌-◌, ◌*◌, ◌/◌, ◌%◌, ◌<◌, ◌≤◌}
use native.Mathlib.Omega.{arith}
use borrow.Author.Tests.{le-leb, lt-leb}
use lib.ListN.{length, get_or, set, length-append}
use lib.Seq.{get_or_at}
use Rattle.basics.specs.Tests.{Flag, is_true, is_false, flag}
use Rattle.basics.specs.Members.{mem, clash}
use Rattle.basics.specs.Prefix.{prefix-length, prefix-get_d}
use Rattle.label.specs.Limits.{leaf_mark}
use Rattle.table.specs.Chains.{prev}
use Rattle.table.specs.ChainLaws.{prev-le, prev-gap, prev-hits}
use Rattle.diagram.specs.Sizes.{space_rows}
use Rattle.diagram.specs.Words.{high_at}
use Rattle.apply.specs.declared.Operation.{Operation}
use Rattle.plan.specs.Walk.{Pair, same_pair, is_end, pair_label, on_high, on_low, walked, Leading}
use Rattle.plan.specs.WalkLaws.{mem-at, mem-nowhere, place-one, end-label, branch-label, high-below, low_below, high-leading, low-leading}
use Rattle.plan.specs.WalkLaws.{walked-old, walked_end, walked-branch, walked-begins, walked-fresh, walked-root}
use Rattle.plan.specs.Plan.{key_count, key_of, pair_of, hash_of, key_at, put_entry, Index, origin, Entry, Plan, Touched, went_to, pack_base, Ready, Planned, pairs_at, Reached, Overrun, Visited, Entered}
use Rattle.plan.specs.PlanLaws.{pair-of-key, key_one, length_pairs, plan-pairs, plan-added, index-touched}
use Rattle.std.specs.Prelude.{None, Option, Some}

-- the two answers
module _ {op : Operation} {x y ws heads : List ℕ} {limit : ℕ} {p : Pair} {ps : List Pair} where
  visited-to : {number count : ℕ} → Reached op x y limit p ps number count ws heads → Visited op x y limit p ps (Some (number, count)) ws heads
  visited-to {number} {count} r = record {
    to = λ a b q.
        let z : ◌≡◌ {A = ℕ × ℕ} (number, count) (a, b) = cc in
        let u : number ≡ a = ap (λ (p : ℕ × ℕ). p.0) z in
        let v : count ≡ b = ap (λ (p : ℕ × ℕ). p.1) z in
        subst (λ (m : ℕ). Reached op x y limit p ps m b ws heads) u (subst (λ (n : ℕ). Reached op x y limit p ps number n ws heads) v r);
    full = λ q. absurd (let z : ◌≡◌ {A = ℕ} 0 1 = cc in omega arith);
  }

  visited-full : Overrun limit ps ws heads → Visited op x y limit p ps None ws heads
  visited-full o = record { to = λ a b q. absurd (let z : ◌≡◌ {A = ℕ} 0 1 = cc in omega arith); full = λ q. o }

-- the plan with the entry that `add` wrote, or none
module _ (op : Operation) (x y ws heads : List ℕ) (limit : ℕ) (ps : List Pair) (t : Plan op x y ws heads limit ps) (p : Pair) (few-x : p.0 < space_rows) (few-y : p.1 < space_rows)
    (new : mem same_pair p ps ≡ false) (label first second : ℕ) (Label-is : label ≡ pair_label op x y p)
    (end_is : is_end op x y p ≡ true → (first ≡ high_at x p.0) × (second ≡ high_at y p.1))
    (branch-is : is_end op x y p ≡ false → (first < length ps) × (second < length ps) × (get_or ps first origin ≡ on_high x y p) × (get_or ps second origin ≡ on_low x y p)) where
  entered : (z : Option (ℕ × ℕ)) (ws' heads' : List ℕ) → Entered ws heads limit (length ps) (key_of p) label first second z ws' heads' → Visited op x y limit p (ps ++ (p ∷ [])) z ws' heads'
  entered z ws' heads' e = record {
    to = λ a b q. reached a b (e.to a b q);
    full = λ q. overrun (e.full q);
  }
    where
      more : length (ps ++ (p ∷ [])) ≡ length ps + 1
      more = length-append ps (p ∷ [])

      reached : (a b : ℕ)
          → (a ≡ length ps) × (b ≡ length ps + 1) × (length ps < limit)
          × (ws' ≡ put_entry ws (length ps) (key_of p) (get_or heads (hash_of (key_of p)) 0) label first second) × (heads' ≡ set heads (hash_of (key_of p)) (length ps + 1))
          → Reached op x y limit p (ps ++ (p ∷ [])) a b ws' heads'
      reached a b h = record {
        less = omega (arith, h.0, h.1);
        count-is = more ∙ sym h.1;
        number_is = get_or_at ps p [] origin a (sym h.0);
        plan = subst (λ (w : List ℕ). Plan op x y w heads' limit (ps ++ (p ∷ []))) (sym h.3)
            (subst (λ (g : List ℕ). Plan op x y (put_entry ws (length ps) (key_of p) (get_or heads (hash_of (key_of p)) 0) label first second) g limit (ps ++ (p ∷ []))) (sym h.4)
            (plan-added op x y ws heads limit ps t p few-x few-y new h.2 label first second Label-is end_is branch-is));
      }

      overrun : (length ps ≡ limit) × (ws' ≡ ws) × (heads' ≡ heads) → Overrun limit (ps ++ (p ∷ [])) ws' heads'
      overrun h = record {
        many = omega (arith, h.0, more);
        touched = subst (λ (w : List ℕ). Touched w heads' limit) (sym h.1)
            (subst (λ (g : List ℕ). Touched ws g limit) (sym h.2) (subst (Touched ws heads) h.0 (index-touched t.index)));
      }

  -- the same, with the count and the key by their equations
  pub entered_at : {n k : ℕ} {z : Option (ℕ × ℕ)} {ws' heads' : List ℕ} → length ps ≡ n → k ≡ key_of p → Entered ws heads limit n k label first second z ws' heads'
      → Visited op x y limit p (ps ++ (p ∷ [])) z ws' heads'
  entered_at {n} {k} {z} {ws'} {heads'} c d e =
      entered z ws' heads'
      (subst (λ (m : ℕ). Entered ws heads limit m (key_of p) label first second z ws' heads') (sym c)
      (subst (λ (m : ℕ). Entered ws heads limit n m label first second z ws' heads') d e))

-- the pair of a key
at_key : {k : ℕ} (p : Pair) → p.1 < space_rows → k ≡ key_of p → pair_of k ≡ p
at_key p h e = ap (λ (z : ℕ). pair_of z) e ∙ pair-of-key p h

pub ready-key : {op : Operation} {x y ws heads : List ℕ} {limit count k : ℕ} → Ready op x y ws heads limit count (pair_of k) → (k ≡ key_of (pair_of k)) × (k < key_count)
unfolding key_of
ready-key {k = k} r = (omega arith, omega (arith, r.leading.first.few))

module _ {op : Operation} {x y ws heads : List ℕ} {limit count i j : ℕ} (r : Ready op x y ws heads limit count (i, j)) where
  pub ready-few : (i < space_rows) × (j < space_rows)
  ready-few = (r.leading.first.few, r.leading.second.few)

  pub ready-index : Index ws heads limit count
  ready-index = subst (Index ws heads limit) (length_pairs ws count) r.plan.index

  pub ready-rooms : (i * 3 + 3 ≤ length x) × (j * 3 + 3 ≤ length y)
  ready-rooms = (r.leading.first.room, r.leading.second.room)

  -- the search for the pair
  module _ {k at : ℕ} (key : (k ≡ key_of (i, j)) × (k < key_count)) (found : at ≡ prev (key_at ws) k count) where
    visit-old : (at ≡ 0 → ⊥) → Visited op x y limit (i, j) (walked op x y (i, j) (pairs_at ws count)) (Some ((at - 1), count)) ws heads
    visit-old n = visited-to (record {
      less = l;
      count-is = ap length w ∙ length_pairs ws count;
      number_is = ap (λ (qs : List Pair). get_or qs (at - 1) origin) w ∙ is;
      plan = subst (Plan op x y ws heads limit) (sym w) r.plan;
    })
      where
        l : at - 1 < count
        l = omega (arith, prev-le (key_at ws) k count)

        m : at - 1 < length (pairs_at ws count)
        m = omega (arith, length_pairs ws count, l)

        e : Entry op x y ws (pairs_at ws count) (at - 1) (get_or (pairs_at ws count) (at - 1) origin)
        e = r.plan.entry (at - 1) m

        is : get_or (pairs_at ws count) (at - 1) origin ≡ (i, j)
        is = key_one (get_or (pairs_at ws count) (at - 1) origin) (i, j) e.few-y ready-few.1
            (sym e.key ∙ prev-hits (key_at ws) k count (at - 1) (omega arith) ∙ key.0)

        w : walked op x y (i, j) (pairs_at ws count) ≡ pairs_at ws count
        w = walked-old op x y (i, j) (pairs_at ws count) (subst (λ (q : Pair). mem same_pair q (pairs_at ws count) ≡ true) is (mem-at origin (pairs_at ws count) (at - 1) m))

    pub visit-packable : (at ≡ 0 → ⊥) → (at - 1 < pack_base) × (0 < count) × (count < pack_base)
    visit-packable n = let i = ready-index in
        (omega (arith, prev-le (key_at ws) k count, i.within, i.small), omega (arith, prev-le (key_at ws) k count), omega (arith, i.within, i.small))

    pub visit-answer : {z : Option (ℕ × ℕ)} → (at ≡ 0 → ⊥) → z ≡ Some ((at - 1), count) → Visited op x y limit (i, j) (walked op x y (i, j) (pairs_at ws count)) z ws heads
    visit-answer n e = subst (λ (w : Option (ℕ × ℕ)). Visited op x y limit (i, j) (walked op x y (i, j) (pairs_at ws count)) w ws heads) (sym e) (visit-old n)

    pub visit-new : at ≡ 0 → mem same_pair (i, j) (pairs_at ws count) ≡ false
    visit-new z = mem-nowhere origin (i, j) (pairs_at ws count)
        (λ n h e. let l : n < count = omega (arith, length_pairs ws count) in
        prev-gap (key_at ws) k count n (omega arith) l ((r.plan.entry n h).key ∙ ap key_of e ∙ sym key.0))

  -- the pair is new
  module _ {l : ℕ} (new : mem same_pair (i, j) (pairs_at ws count) ≡ false) (Label-is : l ≡ pair_label op x y (i, j)) where
    is-end : l ≡ leaf_mark → is_end op x y (i, j) ≡ true
    is-end e = go (flag (is_end op x y (i, j)))
      where
        go : Flag (is_end op x y (i, j)) → is_end op x y (i, j) ≡ true
        go (is_true h) = h
        go (is_false h) = absurd (omega (arith, branch-label op x y (i, j) r.leading h, Label-is, e))

    is-branch : (l ≡ leaf_mark → ⊥) → is_end op x y (i, j) ≡ false
    is-branch f = go (flag (is_end op x y (i, j)))
      where
        go : Flag (is_end op x y (i, j)) → is_end op x y (i, j) ≡ false
        go (is_true h) = absurd (f (Label-is ∙ end-label op x y (i, j) h))
        go (is_false h) = h

    pub below_end : {k : ℕ} {z : Option (ℕ × ℕ)} {ws' heads' : List ℕ} → l ≡ leaf_mark → (k ≡ key_of (i, j)) × (k < key_count)
        → Entered ws heads limit count k l (get_or x (i * 3 + 1) 0) (get_or y (j * 3 + 1) 0) z ws' heads'
        → Visited op x y limit (i, j) (walked op x y (i, j) (pairs_at ws count)) z ws' heads'
    unfolding high_at
    below_end {k} {z} {ws'} {heads'} e key a =
        subst (λ (qs : List Pair). Visited op x y limit (i, j) qs z ws' heads') (sym (walked_end op x y (i, j) (pairs_at ws count) new (is-end e)))
        (entered_at op x y ws heads limit (pairs_at ws count) r.plan (i, j) ready-few.0 ready-few.1 new l (high_at x i) (high_at y j) Label-is
        (λ h. (refl, refl)) (λ h. clash (is-end e) h) (length_pairs ws count) key.0 a)

    -- a branch pair
    module _ {hi hj li lj : ℕ} (branch : l ≡ leaf_mark → ⊥) (s : ((hi, hj) ≡ on_high x y (i, j)) × ((li, lj) ≡ on_low x y (i, j))) where
      lead_high : Leading x y (hi, hj)
      lead_high = subst (Leading x y) (sym s.0) (high-leading op x y (i, j) r.leading (is-branch branch))

      lead_low : Leading x y (li, lj)
      lead_low = subst (Leading x y) (sym s.1) (low-leading op x y (i, j) r.leading (is-branch branch))

      pub high-few : (hi < space_rows) × (hj < space_rows)
      high-few = (lead_high.first.few, lead_high.second.few)

      pub low-few : (li < space_rows) × (lj < space_rows)
      low-few = (lead_low.first.few, lead_low.second.few)

      -- its successors by their keys
      module _ {h o : ℕ} (h-key : (h ≡ key_of (hi, hj)) × (h < key_count)) (o-key : (o ≡ key_of (li, lj)) × (o < key_count)) where
        high_is : pair_of h ≡ on_high x y (i, j)
        high_is = at_key (hi, hj) high-few.1 h-key.0 ∙ s.0

        low-is : pair_of o ≡ on_low x y (i, j)
        low-is = at_key (li, lj) low-few.1 o-key.0 ∙ s.1

        us : List Pair
        us = walked op x y (on_high x y (i, j)) (pairs_at ws count)

        vs : List Pair
        vs = walked op x y (on_low x y (i, j)) (walked op x y (on_high x y (i, j)) (pairs_at ws count))

        after : walked op x y (i, j) (pairs_at ws count) ≡ vs ++ ((i, j) ∷ [])
        unfolding vs
        after = walked-branch op x y (i, j) (pairs_at ws count) r.leading new (is-branch branch)

        after-length : length (walked op x y (i, j) (pairs_at ws count)) ≡ length vs + 1
        after-length = ap length after ∙ length-append vs ((i, j) ∷ [])

        pub high-less : h / space_rows + h % space_rows < i + j
        high-less = subst (λ (q : Pair). q.0 + q.1 < i + j) (sym high_is) (high-below op x y (i, j) r.leading (is-branch branch)).less

        pub low-less : o / space_rows + o % space_rows < i + j
        low-less = subst (λ (q : Pair). q.0 + q.1 < i + j) (sym low-is) (low_below op x y (i, j) r.leading (is-branch branch)).less

        pub high-ready : Ready op x y ws heads limit count (pair_of h)
        high-ready = record { leading = subst (Leading x y) (sym high_is) (high-leading op x y (i, j) r.leading (is-branch branch)); plan = r.plan }

        module _ {z : Option (ℕ × ℕ)} {ws₁ heads₁ : List ℕ} (v : Visited op x y limit (pair_of h) (walked op x y (pair_of h) (pairs_at ws count)) z ws₁ heads₁) where
          pub high-full : z ≡ None → Visited op x y limit (i, j) (walked op x y (i, j) (pairs_at ws count)) None ws₁ heads₁
          unfolding us vs
          high-full e = visited-full (record {
            many =
                let a : limit < length us = subst (λ (q : Pair). limit < length (walked op x y q (pairs_at ws count))) high_is (v.full e).many in
                omega (arith, after-length, prefix-length (walked-begins op x y (on_low x y (i, j)) us));
            touched = (v.full e).touched;
          })

          module _ {t n : ℕ} (to : z ≡ Some (t, n)) where
            high-reached : Reached op x y limit (on_high x y (i, j)) us t n ws₁ heads₁
            unfolding us
            high-reached = subst (λ (q : Pair). Reached op x y limit q (walked op x y q (pairs_at ws count)) t n ws₁ heads₁) high_is (v.to t n to)

            pairs-high : pairs_at ws₁ n ≡ us
            pairs-high = ap (pairs_at ws₁) (sym high-reached.count-is) ∙ plan-pairs high-reached.plan

            pub low-ready : Ready op x y ws₁ heads₁ limit n (pair_of o)
            low-ready = record {
              leading = subst (Leading x y) (sym low-is) (low-leading op x y (i, j) r.leading (is-branch branch));
              plan = subst (Plan op x y ws₁ heads₁ limit) (sym pairs-high) high-reached.plan;
            }

            module _ {z₂ : Option (ℕ × ℕ)} {ws₂ heads₂ : List ℕ} (v₂ : Visited op x y limit (pair_of o) (walked op x y (pair_of o) (pairs_at ws₁ n)) z₂ ws₂ heads₂) where
              low-visited : Visited op x y limit (on_low x y (i, j)) vs z₂ ws₂ heads₂
              unfolding us vs
              low-visited =
                  subst (λ (qs : List Pair). Visited op x y limit (on_low x y (i, j)) (walked op x y (on_low x y (i, j)) qs) z₂ ws₂ heads₂) pairs-high
                  (subst (λ (q : Pair). Visited op x y limit q (walked op x y q (pairs_at ws₁ n)) z₂ ws₂ heads₂) low-is v₂)

              pub low-full : z₂ ≡ None → Visited op x y limit (i, j) (walked op x y (i, j) (pairs_at ws count)) None ws₂ heads₂
              low-full e = visited-full (record { many = omega (arith, after-length, (low-visited.full e).many); touched = (low-visited.full e).touched })

              module _ {f m : ℕ} (to₂ : z₂ ≡ Some (f, m)) where
                low-reached : Reached op x y limit (on_low x y (i, j)) vs f m ws₂ heads₂
                low-reached = low-visited.to f m to₂

                pub low-index : Index ws₂ heads₂ limit m
                low-index = subst (Index ws₂ heads₂ limit) low-reached.count-is low-reached.plan.index

                first-less : t < length vs
                unfolding us vs
                first-less = omega (arith, high-reached.less, high-reached.count-is, prefix-length (walked-begins op x y (on_low x y (i, j)) us))

                first-is : get_or vs t origin ≡ on_high x y (i, j)
                unfolding us vs
                first-is = prefix-get_d (walked-begins op x y (on_low x y (i, j)) us) t origin (omega (arith, high-reached.less, high-reached.count-is)) ∙ high-reached.number_is

                pub below-branch : {k : ℕ} {z₃ : Option (ℕ × ℕ)} {ws₃ heads₃ : List ℕ} → (k ≡ key_of (i, j)) × (k < key_count) → Entered ws₂ heads₂ limit m k l t f z₃ ws₃ heads₃
                    → Visited op x y limit (i, j) (walked op x y (i, j) (pairs_at ws count)) z₃ ws₃ heads₃
                unfolding vs
                below-branch {k} {z₃} {ws₃} {heads₃} key a =
                    subst (λ (qs : List Pair). Visited op x y limit (i, j) qs z₃ ws₃ heads₃) (sym after)
                    (entered_at op x y ws₂ heads₂ limit vs low-reached.plan (i, j) ready-few.0 ready-few.1
                    (walked-fresh op x y (i, j) (pairs_at ws count) r.leading (is-branch branch) new) l t f Label-is
                    (λ h. clash h (is-branch branch))
                    (λ h. (first-less, omega (arith, low-reached.less, low-reached.count-is), first-is, low-reached.number_is))
                    low-reached.count-is key.0 a)

-- the ways through `walk`
pub walk-few : {x y : List ℕ} {i j : ℕ} → Leading x y (i, j) → (i < space_rows) × (j < space_rows)
walk-few a = (a.first.few, a.second.few)

pub walk-ready : {op : Operation} {x y ws heads : List ℕ} {limit i j k : ℕ} → Leading x y (i, j) → Index ws heads limit 0 → (k ≡ key_of (i, j)) × (k < key_count)
    → Ready op x y ws heads limit 0 (pair_of k)
unfolding pairs_at
walk-ready {x = x} {y = y} {i = i} {j = j} a t e = record {
  leading = subst (Leading x y) (sym (at_key (i, j) (walk-few a).1 e.0)) a;
  plan = record { index = t; entry = λ n h. absurd (omega arith); apart = tt };
}

pub walk-new : (ws : List ℕ) (p : Pair) → mem same_pair p (pairs_at ws 0) ≡ false
unfolding pairs_at
walk-new ws p = refl

-- the answer, where the pairs are few enough, and where not
went-few : (limit : ℕ) (ps : List Pair) → length ps ≤ limit → went_to limit ps ≡ Some ((length ps - 1), (length ps))
unfolding went_to
went-few limit ps h = rw (le-leb (length ps) limit h)

went-many : (limit : ℕ) (ps : List Pair) → limit < length ps → went_to limit ps ≡ None
unfolding went_to
went-many limit ps h = rw (lt-leb (length ps) limit h)

planned : (op : Operation) (x y : List ℕ) (limit : ℕ) (p : Pair) → Leading x y p → (z : Option (ℕ × ℕ)) (ws heads : List ℕ) → Visited op x y limit p (walked op x y p []) z ws heads
    → Planned op x y limit (walked op x y p []) z ws heads
planned op x y limit p a (Some (k, n)) ws heads v =
    let r : Reached op x y limit p (walked op x y p []) k n ws heads = v.to k n refl in
    let few : length (walked op x y p []) ≤ limit = r.plan.index.within in
    let is : k ≡ length (walked op x y p []) - 1 =
    place-one origin (walked op x y p []) r.plan.apart k (length (walked op x y p []) - 1) (omega (arith, r.less, r.count-is))
    (omega (arith, (walked-root op x y p a origin).0)) (r.number_is ∙ sym (walked-root op x y p a origin).1) in
    record {
      answer = ap (λ (m : ℕ). Some (m, n)) is ∙ ap (λ u. Some ((length (walked op x y p []) - 1), u)) (sym r.count-is) ∙ sym (went-few limit (walked op x y p []) few);
      plan = λ h. r.plan;
      touched = λ h. absurd (omega arith);
    }
planned op x y limit p a None ws heads v =
    let o : Overrun limit (walked op x y p []) ws heads = v.full refl in
    record { answer = sym (went-many limit (walked op x y p []) o.many); plan = λ h. absurd (omega (arith, o.many)); touched = λ h. o.touched }

pub walk-out : (ws : List ℕ) {op : Operation} {x y ws' heads' : List ℕ} {limit i j k : ℕ} {z w : Option (ℕ × ℕ)} → Leading x y (i, j) → (k ≡ key_of (i, j)) × (k < key_count) → w ≡ z
    → Visited op x y limit (pair_of k) (walked op x y (pair_of k) (pairs_at ws 0)) w ws' heads'
    → Planned op x y limit (walked op x y (i, j) []) z ws' heads'
unfolding pairs_at
walk-out ws {op} {x} {y} {ws'} {heads'} {limit} {i} {j} {k} {z} {w} a d e v =
    planned op x y limit (i, j) a z ws' heads'
    (subst (λ (t : Option (ℕ × ℕ)). Visited op x y limit (i, j) (walked op x y (i, j) []) t ws' heads') e
    (subst (λ (q : Pair). Visited op x y limit q (walked op x y q []) w ws' heads') (at_key (i, j) (walk-few a).1 d.0) v))
