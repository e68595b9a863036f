-- Laws of the walk of pairs: where a step leads, one step of the walk, that it only adds, what it adds, that it adds no pair twice, and that its depth does not matter.
use Rattle.std.specs.Prelude.{true, false, ◌||◌, ◌≡◌, refl, ◌⊎◌, ℕ, zero, suc, ◌+◌, ◌-◌, ◌<◌, ◌≤◌, length, get_or, eqb}
use Rattle.std.proofs.Common.{sym, subst, ◌∙◌, inl, inr, ⊎_elim, suc-le-suc, le_of_suc-le-suc, arith, length-append}
use Rattle.std.proofs.Math.Path.{ap}
use mathlib.Core.List.{List, [], ◌∷◌, ◌++◌}
use borrow.Author.Tests.{eqb-true, eq-eqb, le-leb, lt-leb}
use Rattle.std.proofs.lemmas.List.{get_or_at}
use Rattle.basics.specs.Tests.{Cmp, below, equal, above, cmp, Flag, is_true, is_false, flag, Either, one, other, and_left, and_right, or-one, or-other}
use Rattle.basics.specs.Members.{IsTest, mem, NoDup, clash, snoc-cases}
use Rattle.basics.specs.Prefix.{Prefix, prefix_refl, prefix-append, prefix_trans}
use Rattle.label.specs.Limits.{leaf_mark}
use Rattle.diagram.specs.Words.{label_at, high_at, low_at}
use Rattle.apply.specs.declared.Operation.{Operation}
use Rattle.plan.specs.Walk.{Pair, same_pair, is_end, lesser, pair_label, descend, on_high, on_low, finish_pairs, walked, Leads, Leading}

-- pairs
pub pair-ext : (p q : Pair) → p.0 ≡ q.0 → p.1 ≡ q.1 → p ≡ q
pair-ext p q a b = λ t. (a t, b t)

pub pair-test : IsTest same_pair
unfolding same_pair
pair-test = record {
  sound = λ p q e. pair-ext p q (eqb-true _ _ (and_left _ _ e)) (eqb-true _ _ (and_right (eqb p.0 q.0) _ e));
  complete = λ p. rw (eq-eqb p.0 p.0 refl, eq-eqb p.1 p.1 refl);
}

-- the lesser of two numbers
pub lesser-le : (a b : ℕ) → a ≤ b → lesser a b ≡ a
unfolding lesser
lesser-le a b h = rw (le-leb a b h)

pub lesser-gt : (a b : ℕ) → b < a → lesser a b ≡ b
unfolding lesser
lesser-gt a b h = rw (lt-leb a b h)

-- when a pair is an end
module _ (op : Operation) (x y : List ℕ) (p : Pair) where
  leaves-end : label_at x p.0 ≡ leaf_mark → label_at y p.1 ≡ leaf_mark → is_end op x y p ≡ true
  unfolding is_end
  leaves-end a b = rw (eq-eqb (label_at x p.0) leaf_mark a, eq-eqb (label_at y p.1) leaf_mark b)

  pub branch_one : is_end op x y p ≡ false → label_at x p.0 ≡ leaf_mark → label_at y p.1 ≡ leaf_mark → ⊥
  branch_one e a b = clash (leaves-end a b) e

  -- the label of an end is a leaf's mark, that of another pair the lower of the two
  pub end-label : is_end op x y p ≡ true → pair_label op x y p ≡ leaf_mark
  unfolding pair_label
  end-label e = rw e

  pub lower-label : is_end op x y p ≡ false → pair_label op x y p ≡ lesser (label_at x p.0) (label_at y p.1)
  unfolding pair_label
  lower-label e = rw e

-- where a pair leads
module _ (child : List ℕ → ℕ → ℕ) (x y : List ℕ) (p : Pair) where
  pub descend-first : label_at x p.0 < label_at y p.1 → descend child x y p ≡ (child x p.0, p.1)
  unfolding descend
  descend-first h = rw (le-leb (label_at x p.0) (label_at y p.1) (omega arith), lt-leb (label_at y p.1) (label_at x p.0) h)

  pub descend-second : label_at y p.1 < label_at x p.0 → descend child x y p ≡ (p.0, child y p.1)
  unfolding descend
  descend-second h = rw (lt-leb (label_at x p.0) (label_at y p.1) h, le-leb (label_at y p.1) (label_at x p.0) (omega arith))

  pub descend-both : label_at x p.0 ≡ label_at y p.1 → descend child x y p ≡ (child x p.0, child y p.1)
  unfolding descend
  descend-both h = rw (le-leb (label_at x p.0) (label_at y p.1) (omega arith), le-leb (label_at y p.1) (label_at x p.0) (omega arith))

-- q has no later row than p on either side
pub record Under (q p : Pair) : Type 0 where
  pub first : q.0 ≤ p.0
  pub second : q.1 ≤ p.1

pub record Below (q p : Pair) : Type 0 where
  pub under : Under q p
  pub less : q.0 + q.1 < p.0 + p.1

pub under-trans : {p q r : Pair} → Under p q → Under q r → Under p r
under-trans a b = record { first = omega (arith, a.first, b.first); second = omega (arith, a.second, b.second) }

pub leads-under : {x : List ℕ} {i k : ℕ} → Leads x i → k ≤ i → Leads x k
leads-under {x} {i} {k} a h = record {
  room = omega (arith, a.room);
  few = omega (arith, a.few);
  most = λ n l. a.most n (omega arith);
  high = λ n l. a.high n (omega arith);
  low = λ n l. a.low n (omega arith);
}

pub leading-under : {x y : List ℕ} {p q : Pair} → Leading x y p → Under q p → Leading x y q
leading-under a u = record { first = leads-under a.first u.first; second = leads-under a.second u.second }

module _ (op : Operation) (x y : List ℕ) (p : Pair) (a : Leading x y p) (e : is_end op x y p ≡ false) where
  descend-below : (child : List ℕ → ℕ → ℕ) → ((label_at x p.0 ≡ leaf_mark → ⊥) → child x p.0 < p.0) → ((label_at y p.1 ≡ leaf_mark → ⊥) → child y p.1 < p.1)
      → Below (descend child x y p) p
  descend-below child f g = go (cmp (label_at x p.0) (label_at y p.1))
    where
      made : (q : Pair) → descend child x y p ≡ q → Below q p → Below (descend child x y p) p
      made q d b = subst (λ (z : Pair). Below z p) (sym d) b

      go : Cmp (label_at x p.0) (label_at y p.1) → Below (descend child x y p) p
      go (below h) =
          let c : child x p.0 < p.0 = f (λ l. omega (arith, a.second.most p.1 (omega arith))) in
          made _ (descend-first child x y p h) (record { under = record { first = omega arith; second = omega arith }; less = omega arith })
      go (above h) =
          let c : child y p.1 < p.1 = g (λ l. omega (arith, a.first.most p.0 (omega arith))) in
          made _ (descend-second child x y p h) (record { under = record { first = omega arith; second = omega arith }; less = omega arith })
      go (equal h) =
          let c : child x p.0 < p.0 = f (λ l. branch_one op x y p e l (sym h ∙ l)) in
          let d : child y p.1 < p.1 = g (λ l. branch_one op x y p e (h ∙ l) l) in
          made _ (descend-both child x y p h) (record { under = record { first = omega arith; second = omega arith }; less = omega arith })

  pub high-below : Below (on_high x y p) p
  high-below = descend-below high_at (a.first.high p.0 (omega arith)) (a.second.high p.1 (omega arith))

  pub low_below : Below (on_low x y p) p
  low_below = descend-below low_at (a.first.low p.0 (omega arith)) (a.second.low p.1 (omega arith))

  pub high-leading : Leading x y (on_high x y p)
  high-leading = leading-under a high-below.under

  pub low-leading : Leading x y (on_low x y p)
  low-leading = leading-under a low_below.under

  -- only an end has a leaf's mark for its label
  pub branch-label : pair_label op x y p < leaf_mark
  branch-label = rw (lower-label op x y p e) (go (cmp (label_at x p.0) (label_at y p.1)))
    where
      i : label_at x p.0 ≤ leaf_mark
      i = a.first.most p.0 (omega arith)

      j : label_at y p.1 ≤ leaf_mark
      j = a.second.most p.1 (omega arith)

      go : Cmp (label_at x p.0) (label_at y p.1) → lesser (label_at x p.0) (label_at y p.1) < leaf_mark
      go (below h) = omega (arith, j, lesser-le (label_at x p.0) (label_at y p.1) (omega arith))
      go (above h) = omega (arith, i, lesser-gt (label_at x p.0) (label_at y p.1) h)
      go (equal h) = go' (cmp (label_at x p.0) leaf_mark)
        where
          go' : Cmp (label_at x p.0) leaf_mark → lesser (label_at x p.0) (label_at y p.1) < leaf_mark
          go' (below l) = omega (arith, lesser-le (label_at x p.0) (label_at y p.1) (omega arith))
          go' (equal l) = absurd (branch_one op x y p e l (sym h ∙ l))
          go' (above l) = absurd (omega (arith, i))

-- one step of the walk
module _ (op : Operation) (x y : List ℕ) (depth : ℕ) (p : Pair) (done : List Pair) where
  pub finish-old : mem same_pair p done ≡ true → finish_pairs op x y (suc depth) p done ≡ done
  unfolding finish_pairs
  finish-old m = rw (m, finish_pairs)

  pub finish-end : mem same_pair p done ≡ false → is_end op x y p ≡ true → finish_pairs op x y (suc depth) p done ≡ done ++ (p ∷ [])
  unfolding finish_pairs
  finish-end m e = rw (m, e, finish_pairs)

  pub finish-branch : mem same_pair p done ≡ false → is_end op x y p ≡ false
      → finish_pairs op x y (suc depth) p done ≡ finish_pairs op x y depth (on_low x y p) (finish_pairs op x y depth (on_high x y p) done) ++ (p ∷ [])
  unfolding finish_pairs
  finish-branch m e = rw (m, e, finish_pairs)

-- the walk only adds
pub finish-begins : (op : Operation) (x y : List ℕ) (depth : ℕ) (p : Pair) (done : List Pair) → Prefix done (finish_pairs op x y depth p done)
unfolding finish_pairs
finish-begins op x y zero p done = prefix_refl done
finish-begins op x y (suc depth) p done =
    go (flag (mem same_pair p done)) (flag (is_end op x y p)) (finish-begins op x y depth (on_high x y p) done)
    (finish-begins op x y depth (on_low x y p) (finish_pairs op x y depth (on_high x y p) done))
  where
    go : Flag (mem same_pair p done) → Flag (is_end op x y p) → Prefix done (finish_pairs op x y depth (on_high x y p) done)
        → Prefix (finish_pairs op x y depth (on_high x y p) done) (finish_pairs op x y depth (on_low x y p) (finish_pairs op x y depth (on_high x y p) done))
        → Prefix done (finish_pairs op x y (suc depth) p done)
    go (is_true m) e a b = subst (Prefix done) (sym (finish-old op x y depth p done m)) (prefix_refl done)
    go (is_false m) (is_true e) a b = subst (Prefix done) (sym (finish-end op x y depth p done m e)) (prefix-append _ (prefix_refl done))
    go (is_false m) (is_false e) a b = subst (Prefix done) (sym (finish-branch op x y depth p done m e)) (prefix-append _ (prefix_trans a b))

-- membership by index
pub mem-at : (o : Pair) (ps : List Pair) (k : ℕ) → k < length ps → mem same_pair (get_or ps k o) ps ≡ true
mem-at o [] k h = absurd (omega arith)
mem-at o (p ∷ ps) zero h = or-one (same_pair p p) (mem same_pair p ps) (pair-test.complete p)
mem-at o (p ∷ ps) (suc k) h = or-other (same_pair (get_or ps k o) p) _ (mem-at o ps k (le_of_suc-le-suc h))

pub mem-nowhere : (o q : Pair) (ps : List Pair) → ((k : ℕ) → k < length ps → get_or ps k o ≡ q → ⊥) → mem same_pair q ps ≡ false
mem-nowhere o q [] f = refl
mem-nowhere o q (p ∷ ps) f = go (flag (same_pair q p)) (mem-nowhere o q ps (λ k h. f (suc k) (suc-le-suc h)))
  where
    go : Flag (same_pair q p) → mem same_pair q ps ≡ false → (same_pair q p || mem same_pair q ps) ≡ false
    go (is_true e) m = absurd (f 0 (omega arith) (sym (pair-test.sound q p e)))
    go (is_false e) m = rw (e, m)

-- every pair that it adds has no later rows than the pair where it starts
pub finish-members : (op : Operation) (x y : List ℕ) (depth : ℕ) (p : Pair) (done : List Pair) → Leading x y p → (q : Pair) → mem same_pair q (finish_pairs op x y depth p done) ≡ true
    → (mem same_pair q done ≡ true) ⊎ Under q p
unfolding finish_pairs
finish-members op x y zero p done a q h = inl h
finish-members op x y (suc depth) p done a q h =
    go (flag (mem same_pair p done)) (flag (is_end op x y p)) (λ a q. finish-members op x y depth (on_high x y p) done a q)
    (λ a q. finish-members op x y depth (on_low x y p) (finish_pairs op x y depth (on_high x y p) done) a q)
  where
    self : (l : List Pair) → (mem same_pair q l ≡ true → (mem same_pair q done ≡ true) ⊎ Under q p) → mem same_pair q (l ++ (p ∷ [])) ≡ true
        → (mem same_pair q done ≡ true) ⊎ Under q p
    self l f k = end (snoc-cases same_pair q p l k)
      where
        end : Either (mem same_pair q l) (same_pair q p) → (mem same_pair q done ≡ true) ⊎ Under q p
        end (one e) = f e
        end (other e) = let s = pair-test.sound q p e in inr (record { first = omega (arith, ap (λ (z : Pair). z.0) s); second = omega (arith, ap (λ (z : Pair). z.1) s) })

    go : Flag (mem same_pair p done) → Flag (is_end op x y p)
        → (Leading x y (on_high x y p) → (q : Pair) → mem same_pair q (finish_pairs op x y depth (on_high x y p) done) ≡ true → (mem same_pair q done ≡ true) ⊎ Under q (on_high x y p))
        → (Leading x y (on_low x y p) → (q : Pair) → mem same_pair q (finish_pairs op x y depth (on_low x y p) (finish_pairs op x y depth (on_high x y p) done)) ≡ true
        → (mem same_pair q (finish_pairs op x y depth (on_high x y p) done) ≡ true) ⊎ Under q (on_low x y p))
        → (mem same_pair q done ≡ true) ⊎ Under q p
    go (is_true m) e u v = inl (subst (λ (l : List Pair). mem same_pair q l ≡ true) (finish-old op x y depth p done m) h)
    go (is_false m) (is_true e) u v = self done inl (subst (λ (l : List Pair). mem same_pair q l ≡ true) (finish-end op x y depth p done m e) h)
    go (is_false m) (is_false e) u v =
        self (finish_pairs op x y depth (on_low x y p) (finish_pairs op x y depth (on_high x y p) done))
        (λ k. ⊎_elim (λ i. ⊎_elim inl (λ j. inr (under-trans j (high-below op x y p a e).under)) (u (high-leading op x y p a e) q i))
        (λ j. inr (under-trans j (low_below op x y p a e).under)) (v (low-leading op x y p a e) q k))
        (subst (λ (l : List Pair). mem same_pair q l ≡ true) (finish-branch op x y depth p done m e) h)

-- a branch pair that is not there is not there after the walks from its successors
pub finish-fresh : (op : Operation) (x y : List ℕ) (f g : ℕ) (p : Pair) (done : List Pair) → Leading x y p → is_end op x y p ≡ false → mem same_pair p done ≡ false
    → mem same_pair p (finish_pairs op x y f (on_low x y p) (finish_pairs op x y g (on_high x y p) done)) ≡ false
finish-fresh op x y f g p done a e m = go (flag (mem same_pair p (finish_pairs op x y f (on_low x y p) (finish_pairs op x y g (on_high x y p) done))))
  where
    not-under : (q : Pair) → Below q p → Under p q → ⊥
    not-under q b u = omega (arith, b.less, u.first, u.second)

    go : Flag (mem same_pair p (finish_pairs op x y f (on_low x y p) (finish_pairs op x y g (on_high x y p) done)))
        → mem same_pair p (finish_pairs op x y f (on_low x y p) (finish_pairs op x y g (on_high x y p) done)) ≡ false
    go (is_true h) =
        absurd (⊎_elim
        (λ k. ⊎_elim (λ (i : mem same_pair p done ≡ true). clash i m) (not-under (on_high x y p) (high-below op x y p a e))
        (finish-members op x y g (on_high x y p) done (high-leading op x y p a e) p k))
        (not-under (on_low x y p) (low_below op x y p a e))
        (finish-members op x y f (on_low x y p) (finish_pairs op x y g (on_high x y p) done) (low-leading op x y p a e) p h))
    go (is_false h) = h

-- any depth above the sum of the pair's rows will do
pub finish-depth : (op : Operation) (x y : List ℕ) (f g : ℕ) (p : Pair) (done : List Pair) → Leading x y p → p.0 + p.1 < f → p.0 + p.1 < g
    → finish_pairs op x y f p done ≡ finish_pairs op x y g p done
finish-depth op x y zero g p done a lf lg = absurd (omega arith)
finish-depth op x y (suc f) zero p done a lf lg = absurd (omega arith)
finish-depth op x y (suc f) (suc g) p done a lf lg = go (flag (mem same_pair p done)) (flag (is_end op x y p)) (λ q l. finish-depth op x y f g q l)
  where
    go : Flag (mem same_pair p done) → Flag (is_end op x y p)
        → ((q : Pair) (l : List Pair) → Leading x y q → q.0 + q.1 < f → q.0 + q.1 < g → finish_pairs op x y f q l ≡ finish_pairs op x y g q l)
        → finish_pairs op x y (suc f) p done ≡ finish_pairs op x y (suc g) p done
    go (is_true m) e u = finish-old op x y f p done m ∙ sym (finish-old op x y g p done m)
    go (is_false m) (is_true e) u = finish-end op x y f p done m e ∙ sym (finish-end op x y g p done m e)
    go (is_false m) (is_false e) u =
        let b : (on_high x y p).0 + (on_high x y p).1 < p.0 + p.1 = (high-below op x y p a e).less in
        let c : (on_low x y p).0 + (on_low x y p).1 < p.0 + p.1 = (low_below op x y p a e).less in
        finish-branch op x y f p done m e
        ∙ ap (λ (l : List Pair). l ++ (p ∷ [])) (ap (finish_pairs op x y f (on_low x y p)) (u (on_high x y p) done (high-leading op x y p a e) (omega arith) (omega arith))
        ∙ u (on_low x y p) (finish_pairs op x y g (on_high x y p) done) (low-leading op x y p a e) (omega arith) (omega arith))
        ∙ sym (finish-branch op x y g p done m e)

-- the walk as deep as it goes
module _ (op : Operation) (x y : List ℕ) (p : Pair) (done : List Pair) where
  pub walked-old : mem same_pair p done ≡ true → walked op x y p done ≡ done
  unfolding walked
  walked-old m = finish-old op x y (p.0 + p.1) p done m

  pub walked_end : mem same_pair p done ≡ false → is_end op x y p ≡ true → walked op x y p done ≡ done ++ (p ∷ [])
  unfolding walked
  walked_end m e = finish-end op x y (p.0 + p.1) p done m e

  pub walked-branch : Leading x y p → mem same_pair p done ≡ false → is_end op x y p ≡ false
      → walked op x y p done ≡ walked op x y (on_low x y p) (walked op x y (on_high x y p) done) ++ (p ∷ [])
  unfolding walked
  walked-branch a m e =
      let b : (on_high x y p).0 + (on_high x y p).1 < p.0 + p.1 = (high-below op x y p a e).less in
      let c : (on_low x y p).0 + (on_low x y p).1 < p.0 + p.1 = (low_below op x y p a e).less in
      finish-branch op x y (p.0 + p.1) p done m e
      ∙ ap (λ (l : List Pair). l ++ (p ∷ []))
      (ap (finish_pairs op x y (p.0 + p.1) (on_low x y p))
      (finish-depth op x y (p.0 + p.1) (suc ((on_high x y p).0 + (on_high x y p).1)) (on_high x y p) done (high-leading op x y p a e) b (omega arith))
      ∙ finish-depth op x y (p.0 + p.1) (suc ((on_low x y p).0 + (on_low x y p).1)) (on_low x y p) (walked op x y (on_high x y p) done) (low-leading op x y p a e) c (omega arith))

  pub walked-begins : Prefix done (walked op x y p done)
  unfolding walked
  walked-begins = finish-begins op x y (suc (p.0 + p.1)) p done

  pub walked-fresh : Leading x y p → is_end op x y p ≡ false → mem same_pair p done ≡ false → mem same_pair p (walked op x y (on_low x y p) (walked op x y (on_high x y p) done)) ≡ false
  unfolding walked
  walked-fresh a e m = finish-fresh op x y _ _ p done a e m

-- a list without repeats has each pair at one place
pub place-one : (o : Pair) (ps : List Pair) → NoDup same_pair ps → (k l : ℕ) → k < length ps → l < length ps → get_or ps k o ≡ get_or ps l o → k ≡ l
place-one o [] d k l h g e = absurd (omega arith)
place-one o (p ∷ ps) d zero zero h g e = refl
place-one o (p ∷ ps) d zero (suc l) h g e = clash (subst (λ (q : Pair). mem same_pair q ps ≡ true) (sym e) (mem-at o ps l (le_of_suc-le-suc g))) d.0
place-one o (p ∷ ps) d (suc k) zero h g e = clash (subst (λ (q : Pair). mem same_pair q ps ≡ true) e (mem-at o ps k (le_of_suc-le-suc h))) d.0
place-one o (p ∷ ps) d (suc k) (suc l) h g e = ap suc (place-one o ps d.1 k l (le_of_suc-le-suc h) (le_of_suc-le-suc g) e)

-- the walk of no pairs yet finishes its root, and that last
pub walked-root : (op : Operation) (x y : List ℕ) (p : Pair) → Leading x y p → (o : Pair) → (0 < length (walked op x y p [])) × (get_or (walked op x y p []) (length (walked op x y p []) - 1) o ≡ p)
walked-root op x y p a o = go (flag (is_end op x y p))
  where
    root : (us : List Pair) → walked op x y p [] ≡ us ++ (p ∷ []) → (0 < length (walked op x y p [])) × (get_or (walked op x y p []) (length (walked op x y p []) - 1) o ≡ p)
    root us e =
        let l : length (walked op x y p []) ≡ length us + 1 = ap length e ∙ length-append us (p ∷ []) in
        (omega arith, ap (λ (qs : List Pair). get_or qs (length (walked op x y p []) - 1) o) e ∙ get_or_at us p [] o (length (walked op x y p []) - 1) (omega arith))

    go : Flag (is_end op x y p) → (0 < length (walked op x y p [])) × (get_or (walked op x y p []) (length (walked op x y p []) - 1) o ≡ p)
    go (is_true e) = root [] (walked_end op x y p [] refl e)
    go (is_false e) = root (walked op x y (on_low x y p) (walked op x y (on_high x y p) [])) (walked-branch op x y p [] a refl e)
