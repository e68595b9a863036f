-- Laws of the plan: its keys, its words after a store, the index over them, an entry more, and clearing.
use Rattle.std.specs.Prelude.{true, false, ◌≡◌}
use Rattle.std.proofs.Math.Path.{refl, ap, subst}
use Rattle.std.proofs.Common.{sym, ◌∙◌, eq-or-lt_of_le, le_of_suc-le-suc, add-one, arith, ext_get_or}
use Rattle.std.proofs.Math.Logic.{⊎_elim}
use mathlib.Core.List.{List, [], ◌∷◌, ◌++◌}
use Prim.Native.Nat.{ℕ, zero, suc, ◌+◌, ◌*◌, ◌<◌, ◌≤◌, zero-le}
use Rattle.std.proofs.Math.ListN.{length, get_or, set, length-append, length-set, get_or-append}
use Rattle.std.proofs.Math.Seq.{get_or_at, get_or-set_same, get_or-set_other}
use Rattle.basics.specs.Members.{mem, nodup-snoc}
use Rattle.diagram.specs.Sizes.{space_rows}
use Rattle.diagram.specs.Words.{high_at}
use Rattle.table.specs.Chains.{Chained}
use Rattle.table.specs.Table.{most_indexed}
use Rattle.table.specs.ChainLaws.{test}
use Rattle.table.specs.ChainedLaws.{chained-none, chained-as, chained_more, cleared-start}
use Rattle.apply.specs.declared.Operation.{Operation}
use Rattle.plan.specs.Walk.{Pair, same_pair, is_end, pair_label, on_high, on_low}
use Rattle.plan.specs.WalkLaws.{pair-ext, pair-test}
use Rattle.plan.specs.Plan.{buckets, key_count, key_of, pair_of, hash_of, key_at, link_at, pair_label_at, first_at, second_at, hash_at, put_entry, Index, origin, Entry, Plan}
use Rattle.plan.specs.Plan.{Clean, Touched, pairs_at}

-- keys
pub key-less : (p : Pair) → p.0 < space_rows → p.1 < space_rows → key_of p < key_count
unfolding key_of
key-less p a b = omega arith

pub pair-of-key : (p : Pair) → p.1 < space_rows → pair_of (key_of p) ≡ p
unfolding key_of
pair-of-key p b = pair-ext _ p (omega arith) (omega arith)

pub key_one : (p q : Pair) → p.1 < space_rows → q.1 < space_rows → key_of p ≡ key_of q → p ≡ q
unfolding key_of
key_one p q a b e = pair-ext p q (omega arith) (omega arith)

pub hash-less : (k : ℕ) → hash_of k < buckets
unfolding hash_of
hash-less k = omega arith

-- the pairs by their keys
pub length_pairs : (ws : List ℕ) (n : ℕ) → length (pairs_at ws n) ≡ n
unfolding pairs_at
length_pairs ws zero = refl
length_pairs ws (suc n) = rw (length-append, length_pairs ws n, add-one)

pub get_d-pairs : (ws : List ℕ) (o : Pair) (n k : ℕ) → k < n → get_or (pairs_at ws n) k o ≡ pair_of (key_at ws k)
unfolding pairs_at
get_d-pairs ws o zero k h = absurd (omega arith)
get_d-pairs ws o (suc n) k h =
    ⊎_elim (λ e. get_or_at (pairs_at ws n) (pair_of (key_at ws n)) [] o k (length_pairs ws n ∙ sym e) ∙ ap (λ (i : ℕ). pair_of (key_at ws i)) (sym e))
    (λ l. get_or-append (pairs_at ws n) _ o k (rw length_pairs l) ∙ get_d-pairs ws o n k l)
    (eq-or-lt_of_le (le_of_suc-le-suc h))

-- a plan's pairs are those of its keys
pub plan-pairs : {op : Operation} {x y ws heads : List ℕ} {limit : ℕ} {ps : List Pair} → Plan op x y ws heads limit ps → pairs_at ws (length ps) ≡ ps
plan-pairs {op} {x} {y} {ws} {heads} {limit} {ps} t =
    ext_get_or origin (pairs_at ws (length ps)) ps (length_pairs ws (length ps))
    (λ k h. let l : k < length ps = omega (arith, length_pairs ws (length ps)) in
    get_d-pairs ws origin (length ps) k l ∙ ap pair_of (t.entry k l).key ∙ pair-of-key (get_or ps k origin) (t.entry k l).few-y)

-- the words after an entry is written
module _ (ws : List ℕ) (n key link label first second : ℕ) where
  pub length-entry : length (put_entry ws n key link label first second) ≡ length ws
  unfolding put_entry
  length-entry = rw (length-set, length-set, length-set, length-set, length-set)

  word-other : (m k c : ℕ) → m ≡ k * 5 + c → c < 5 → (k ≡ n → ⊥) → get_or (put_entry ws n key link label first second) m 0 ≡ get_or ws m 0
  unfolding put_entry
  word-other m k c q h f =
      let a : List ℕ = set ws (n * 5) key in
      let b : List ℕ = set a (n * 5 + 1) link in
      let d : List ℕ = set b (n * 5 + 2) label in
      let e : List ℕ = set d (n * 5 + 3) first in
      get_or-set_other e (n * 5 + 4) m second 0 (λ i. omega arith) ∙ get_or-set_other d (n * 5 + 3) m first 0 (λ i. omega arith)
      ∙ get_or-set_other b (n * 5 + 2) m label 0 (λ i. omega arith) ∙ get_or-set_other a (n * 5 + 1) m link 0 (λ i. omega arith)
      ∙ get_or-set_other ws (n * 5) m key 0 (λ i. omega arith)

  module _ (k : ℕ) (f : k ≡ n → ⊥) where
    pub key-other : key_at (put_entry ws n key link label first second) k ≡ key_at ws k
    unfolding key_at
    key-other = word-other (k * 5) k 0 (omega arith) (omega arith) f

    pub link-other : link_at (put_entry ws n key link label first second) k ≡ link_at ws k
    unfolding link_at
    link-other = word-other (k * 5 + 1) k 1 refl (omega arith) f

    pub label-other : pair_label_at (put_entry ws n key link label first second) k ≡ pair_label_at ws k
    unfolding pair_label_at
    label-other = word-other (k * 5 + 2) k 2 refl (omega arith) f

    pub first-other : first_at (put_entry ws n key link label first second) k ≡ first_at ws k
    unfolding first_at
    first-other = word-other (k * 5 + 3) k 3 refl (omega arith) f

    pub second-other : second_at (put_entry ws n key link label first second) k ≡ second_at ws k
    unfolding second_at
    second-other = word-other (k * 5 + 4) k 4 refl (omega arith) f

    pub hash-other : hash_at (put_entry ws n key link label first second) k ≡ hash_at ws k
    unfolding hash_at
    hash-other = ap hash_of key-other

  module _ (room : n * 5 + 5 ≤ length ws) where
    a : List ℕ
    a = set ws (n * 5) key

    b : List ℕ
    b = set a (n * 5 + 1) link

    d : List ℕ
    d = set b (n * 5 + 2) label

    e : List ℕ
    e = set d (n * 5 + 3) first

    length-a : length a ≡ length ws
    unfolding a
    length-a = length-set ws (n * 5) key

    length-b : length b ≡ length ws
    unfolding b
    length-b = length-set a (n * 5 + 1) link ∙ length-a

    length-d : length d ≡ length ws
    unfolding d
    length-d = length-set b (n * 5 + 2) label ∙ length-b

    length-e : length e ≡ length ws
    unfolding e
    length-e = length-set d (n * 5 + 3) first ∙ length-d

    pub key-same : key_at (put_entry ws n key link label first second) n ≡ key
    unfolding key_at put_entry a b d e
    key-same =
        get_or-set_other e (n * 5 + 4) (n * 5) second 0 (λ i. omega arith) ∙ get_or-set_other d (n * 5 + 3) (n * 5) first 0 (λ i. omega arith)
        ∙ get_or-set_other b (n * 5 + 2) (n * 5) label 0 (λ i. omega arith) ∙ get_or-set_other a (n * 5 + 1) (n * 5) link 0 (λ i. omega arith)
        ∙ get_or-set_same ws (n * 5) key 0 (omega arith)

    pub link-same : link_at (put_entry ws n key link label first second) n ≡ link
    unfolding link_at put_entry a b d e
    link-same =
        get_or-set_other e (n * 5 + 4) (n * 5 + 1) second 0 (λ i. omega arith) ∙ get_or-set_other d (n * 5 + 3) (n * 5 + 1) first 0 (λ i. omega arith)
        ∙ get_or-set_other b (n * 5 + 2) (n * 5 + 1) label 0 (λ i. omega arith) ∙ get_or-set_same a (n * 5 + 1) link 0 (omega (arith, length-a))

    pub label_same : pair_label_at (put_entry ws n key link label first second) n ≡ label
    unfolding pair_label_at put_entry a b d e
    label_same =
        get_or-set_other e (n * 5 + 4) (n * 5 + 2) second 0 (λ i. omega arith) ∙ get_or-set_other d (n * 5 + 3) (n * 5 + 2) first 0 (λ i. omega arith)
        ∙ get_or-set_same b (n * 5 + 2) label 0 (omega (arith, length-b))

    pub first-same : first_at (put_entry ws n key link label first second) n ≡ first
    unfolding first_at put_entry a b d e
    first-same =
        get_or-set_other e (n * 5 + 4) (n * 5 + 3) second 0 (λ i. omega arith) ∙ get_or-set_same d (n * 5 + 3) first 0 (omega (arith, length-d))

    pub second-same : second_at (put_entry ws n key link label first second) n ≡ second
    unfolding second_at put_entry a b d e
    second-same = get_or-set_same e (n * 5 + 4) second 0 (omega (arith, length-e))

-- the index as chains of any places
pub chained : {ws heads : List ℕ} {limit n : ℕ} → Index ws heads limit n → Chained (hash_at ws) buckets (λ b. get_or heads b 0) (link_at ws) n
chained t = record { heads = t.head; links = t.link }

-- the index with an entry more
module _ (ws heads : List ℕ) (limit n : ℕ) (t : Index ws heads limit n) (room : n < limit) (key label first second : ℕ) (small : key < key_count) where
  to : List ℕ
  to = put_entry ws n key (get_or heads (hash_of key) 0) label first second

  fits : n * 5 + 5 ≤ length ws
  fits = omega (arith, t.words)

  to-key : key_at to n ≡ key
  unfolding to
  to-key = key-same ws n key (get_or heads (hash_of key) 0) label first second fits

  to-link : link_at to n ≡ get_or heads (hash_of key) 0
  unfolding to
  to-link = link-same ws n key (get_or heads (hash_of key) 0) label first second fits

  to-hash : hash_at to n ≡ hash_of key
  unfolding hash_at
  to-hash = ap hash_of to-key

  old-key : (k : ℕ) → k < n → key_at to k ≡ key_at ws k
  unfolding to
  old-key k h = key-other ws n key (get_or heads (hash_of key) 0) label first second k (λ e. omega arith)

  old-link : (k : ℕ) → k < n → link_at to k ≡ link_at ws k
  unfolding to
  old-link k h = link-other ws n key (get_or heads (hash_of key) 0) label first second k (λ e. omega arith)

  old-hash : (k : ℕ) → k < n → hash_at to k ≡ hash_at ws k
  unfolding to
  old-hash k h = hash-other ws n key (get_or heads (hash_of key) 0) label first second k (λ e. omega arith)

  to-length : length to ≡ length ws
  unfolding to
  to-length = length-entry ws n key (get_or heads (hash_of key) 0) label first second

  index-more : Index to (set heads (hash_of key) (n + 1)) limit (n + 1)
  index-more = record {
    words = omega (arith, t.words, to-length);
    slots = rw length-set t.slots;
    small = t.small;
    within = omega arith;
    keys = λ k h. ⊎_elim (λ (e : k ≡ n). subst (λ (z : ℕ). key_at to z < key_count) (sym e) (omega (arith, to-key)))
        (λ (e : k ≡ n → ⊥). omega (arith, old-key k (omega arith), t.keys k (omega arith))) (test k n);
    head = more.heads;
    link = more.links;
  }
    where
      more : Chained (hash_at to) buckets (λ b. get_or (set heads (hash_of key) (n + 1)) b 0) (link_at to) (n + 1)
      more =
          chained_more (chained-as (chained t) (hash_at to) (λ k l. sym (old-hash k l))) (hash_of key) _ _ to-hash (hash-less key)
          (get_or-set_same heads (hash_of key) (n + 1) 0 (omega (arith, hash-less key, t.slots))) (λ b l e. get_or-set_other heads (hash_of key) b (n + 1) 0 e) to-link old-link

  pub index-added : Index (put_entry ws n key (get_or heads (hash_of key) 0) label first second) (set heads (hash_of key) (n + 1)) limit (n + 1)
  unfolding to
  index-added = index-more

-- the plan with the entry of a pair more
module _ (op : Operation) (x y ws heads : List ℕ) (limit : ℕ) (ps : List Pair) (t : Plan op x y ws heads limit ps) (p : Pair) (few-x : p.0 < space_rows) (few-y : p.1 < space_rows)
    (new : mem same_pair p ps ≡ false) (room : length ps < limit) (label first second : ℕ) where
  more : List ℕ
  more = put_entry ws (length ps) (key_of p) (get_or heads (hash_of (key_of p)) 0) label first second

  all : List Pair
  all = ps ++ (p ∷ [])

  all-length : length all ≡ length ps + 1
  unfolding all
  all-length = length-append ps (p ∷ [])

  all_old : (k : ℕ) → k < length ps → get_or all k origin ≡ get_or ps k origin
  unfolding all
  all_old k h = get_or-append ps (p ∷ []) origin k h

  all_new : get_or all (length ps) origin ≡ p
  unfolding all
  all_new = get_or_at ps p [] origin (length ps) refl

  fits' : length ps * 5 + 5 ≤ length ws
  fits' = omega (arith, t.index.words)

  first-old : (k : ℕ) → k < length ps → first_at more k ≡ first_at ws k
  unfolding more
  first-old k h = first-other ws (length ps) (key_of p) (get_or heads (hash_of (key_of p)) 0) label first second k (λ e. omega arith)

  second-old : (k : ℕ) → k < length ps → second_at more k ≡ second_at ws k
  unfolding more
  second-old k h = second-other ws (length ps) (key_of p) (get_or heads (hash_of (key_of p)) 0) label first second k (λ e. omega arith)

  first-new : first_at more (length ps) ≡ first
  unfolding more
  first-new = first-same ws (length ps) (key_of p) (get_or heads (hash_of (key_of p)) 0) label first second fits'

  second-new : second_at more (length ps) ≡ second
  unfolding more
  second-new = second-same ws (length ps) (key_of p) (get_or heads (hash_of (key_of p)) 0) label first second fits'

  entry_old : (k : ℕ) → k < length ps → Entry op x y more all k (get_or ps k origin)
  unfolding more
  entry_old k h = record {
    few-x = e.few-x;
    few-y = e.few-y;
    key = key-other ws (length ps) (key_of p) (get_or heads (hash_of (key_of p)) 0) label first second k (λ i. omega arith) ∙ e.key;
    label = label-other ws (length ps) (key_of p) (get_or heads (hash_of (key_of p)) 0) label first second k (λ i. omega arith) ∙ e.label;
    end = λ i. record { first = first-old k h ∙ (e.end i).first; second = second-old k h ∙ (e.end i).second };
    branch = λ i. record {
      first-less = omega (arith, first-old k h, (e.branch i).first-less);
      second-less = omega (arith, second-old k h, (e.branch i).second-less);
      first = ap (λ (m : ℕ). get_or all m origin) (first-old k h) ∙ all_old (first_at ws k) (omega (arith, (e.branch i).first-less)) ∙ (e.branch i).first;
      second = ap (λ (m : ℕ). get_or all m origin) (second-old k h) ∙ all_old (second_at ws k) (omega (arith, (e.branch i).second-less)) ∙ (e.branch i).second;
    };
  }
    where
      e : Entry op x y ws ps k (get_or ps k origin)
      e = t.entry k h

  module _ (Label-is : label ≡ pair_label op x y p) (end_is : is_end op x y p ≡ true → (first ≡ high_at x p.0) × (second ≡ high_at y p.1))
      (branch-is : is_end op x y p ≡ false → (first < length ps) × (second < length ps) × (get_or ps first origin ≡ on_high x y p) × (get_or ps second origin ≡ on_low x y p)) where
    entry_new : Entry op x y more all (length ps) p
    unfolding more
    entry_new = record {
      few-x = few-x;
      few-y = few-y;
      key = key-same ws (length ps) (key_of p) (get_or heads (hash_of (key_of p)) 0) label first second fits';
      label = label_same ws (length ps) (key_of p) (get_or heads (hash_of (key_of p)) 0) label first second fits' ∙ Label-is;
      end = λ i. record { first = first-new ∙ (end_is i).0; second = second-new ∙ (end_is i).1 };
      branch = λ i. record {
        first-less = omega (arith, first-new, (branch-is i).0);
        second-less = omega (arith, second-new, (branch-is i).1);
        first = ap (λ (m : ℕ). get_or all m origin) first-new ∙ all_old first (branch-is i).0 ∙ (branch-is i).2;
        second = ap (λ (m : ℕ). get_or all m origin) second-new ∙ all_old second (branch-is i).1 ∙ (branch-is i).3;
      };
    }

    pub plan-added : Plan op x y (put_entry ws (length ps) (key_of p) (get_or heads (hash_of (key_of p)) 0) label first second) (set heads (hash_of (key_of p)) (length ps + 1)) limit (ps ++ (p ∷ []))
    unfolding more all
    plan-added = record {
      index = subst (Index more (set heads (hash_of (key_of p)) (length ps + 1)) limit) (sym all-length)
          (index-added ws heads limit (length ps) t.index room (key_of p) label first second (key-less p few-x few-y));
      entry = λ k h. ⊎_elim
          (λ (e : k ≡ length ps). subst (λ (z : ℕ). Entry op x y more all z (get_or all z origin)) (sym e) (subst (Entry op x y more all (length ps)) (sym all_new) entry_new))
          (λ (e : k ≡ length ps → ⊥). let l : k < length ps = omega (arith, all-length) in subst (Entry op x y more all k) (sym (all_old k l)) (entry_old k l))
          (test k (length ps));
      apart = nodup-snoc same_pair pair-test ps p t.apart new;
    }

-- an index of no entries; any words
pub index-empty : (ws heads : List ℕ) (limit : ℕ) → limit * 5 ≤ length ws → limit ≤ most_indexed → Clean heads → Index ws heads limit 0
index-empty ws heads limit h g c = record {
  words = h;
  slots = c.slots;
  small = g;
  within = zero-le;
  keys = λ k l. absurd (omega arith);
  head = none.heads;
  link = none.links;
}
  where
    none : Chained (hash_at ws) buckets (λ b. get_or heads b 0) (link_at ws) 0
    none = chained-none (hash_at ws) _ c.zeros

-- an index may be cleared
pub index-touched : {ws heads : List ℕ} {limit count : ℕ} → Index ws heads limit count → Touched ws heads count
index-touched {ws} {heads} {limit} {count} t = record {
  words = omega (arith, t.words, t.within);
  slots = t.slots;
  keys = t.keys;
  others = λ b h f. (cleared-start (chained t)).others b h (λ k u l. f k l);
}

pub plan-touched : {op : Operation} {x y ws heads : List ℕ} {limit : ℕ} {ps : List Pair} → Plan op x y ws heads limit ps → Touched ws heads (length ps)
plan-touched t = index-touched t.index
