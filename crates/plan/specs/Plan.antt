-- The plan of a combination: the pairs of a walk in finishing order, five words each, with a hash index over them.
use Rattle.std.specs.Prelude.{true, false, cond, ◌≡◌, List, [], ◌∷◌, ◌++◌, ℕ, zero, suc, ◌+◌, ◌-◌, ◌*◌, ◌/◌, ◌%◌, ◌<◌, ◌≤◌, length, get_or, set, leb, eqb}
use Rattle.basics.specs.Members.{NoDup}
use Rattle.table.specs.Chains.{prev}
use Rattle.table.specs.Table.{most_indexed}
use Rattle.diagram.specs.Sizes.{space_rows}
use Rattle.diagram.specs.Words.{high_at}
use Rattle.apply.specs.declared.Operation.{Operation}
use Rattle.plan.specs.Walk.{Pair, same_pair, is_end, pair_label, on_high, on_low, Leading}
use Rattle.std.specs.Prelude.{None, Option, Some}

-- the number of buckets of the index
abbrev pub buckets : ℕ
buckets = 4096

-- a pair as one number, and back
abbrev pub key_count : ℕ
key_count = space_rows * space_rows

unfoldable pub key_of : Pair → ℕ
key_of p = p.0 * space_rows + p.1

abbrev pub pair_of : ℕ → Pair
pair_of k = (k / space_rows, k % space_rows)

-- the bucket of a key
unfoldable pub hash_of : ℕ → ℕ
hash_of k = k * 2654435769 / 65536 % buckets

-- the words of entry k: its pair's key; its link; its pair's label; the numbers of the successors by true and by false, or an end's two words
unfoldable pub key_at : List ℕ → ℕ → ℕ
key_at ws k = get_or ws (k * 5) 0

unfoldable pub link_at : List ℕ → ℕ → ℕ
link_at ws k = get_or ws (k * 5 + 1) 0

unfoldable pub pair_label_at : List ℕ → ℕ → ℕ
pair_label_at ws k = get_or ws (k * 5 + 2) 0

unfoldable pub first_at : List ℕ → ℕ → ℕ
first_at ws k = get_or ws (k * 5 + 3) 0

unfoldable pub second_at : List ℕ → ℕ → ℕ
second_at ws k = get_or ws (k * 5 + 4) 0

unfoldable pub hash_at : List ℕ → ℕ → ℕ
hash_at ws k = hash_of (key_at ws k)

-- the plan with an entry written at place k, in the order of the stores
unfoldable pub put_entry : List ℕ → (k key link label first second : ℕ) → List ℕ
put_entry ws k key link label first second =
    set (set (set (set (set ws (k * 5) key) (k * 5 + 1) link) (k * 5 + 2) label) (k * 5 + 3) first) (k * 5 + 4) second

-- heads index the first count entries of the plan, which has room for `limit`: a bucket's head is its last entry, an entry's link the one
-- before it in its bucket, both one up, and 0 for none
pub record Index (ws heads : List ℕ) (limit count : ℕ) : Type 0 where
  pub words : limit * 5 ≤ length ws
  pub slots : buckets ≤ length heads
  pub small : limit ≤ most_indexed
  pub within : count ≤ limit
  pub keys : (k : ℕ) → k < count → key_at ws k < key_count
  pub head : (b : ℕ) → b < buckets → get_or heads b 0 ≡ prev (hash_at ws) b count
  pub link : (k : ℕ) → k < count → link_at ws k ≡ prev (hash_at ws) (hash_at ws k) k

-- what stands for no pair
abbrev pub origin : Pair
origin = (0, 0)

-- a branch pair's entry k holds the numbers of its two successors, which are earlier entries
pub record Branch (x y ws : List ℕ) (ps : List Pair) (k : ℕ) (p : Pair) : Type 0 where
  pub first-less : first_at ws k < k
  pub second-less : second_at ws k < k
  pub first : get_or ps (first_at ws k) origin ≡ on_high x y p
  pub second : get_or ps (second_at ws k) origin ≡ on_low x y p

-- an end's entry k holds the words behind the labels of its two rows: a leaf's value, a branch's true row
pub record End (x y ws : List ℕ) (k : ℕ) (p : Pair) : Type 0 where
  pub first : first_at ws k ≡ high_at x p.0
  pub second : second_at ws k ≡ high_at y p.1

-- entry k is that of the pair p
pub record Entry (op : Operation) (x y ws : List ℕ) (ps : List Pair) (k : ℕ) (p : Pair) : Type 0 where
  pub few-x : p.0 < space_rows
  pub few-y : p.1 < space_rows
  pub key : key_at ws k ≡ key_of p
  pub label : pair_label_at ws k ≡ pair_label op x y p
  pub end : is_end op x y p ≡ true → End x y ws k p
  pub branch : is_end op x y p ≡ false → Branch x y ws ps k p

-- the first entries of the plan are those of the pairs ps, no pair twice, and are indexed
pub record Plan (op : Operation) (x y ws heads : List ℕ) (limit : ℕ) (ps : List Pair) : Type 0 where
  pub index : Index ws heads limit (length ps)
  pub entry : (k : ℕ) → k < length ps → Entry op x y ws ps k (get_or ps k origin)
  pub apart : NoDup same_pair ps

-- no bucket is in use
pub record Clean (heads : List ℕ) : Type 0 where
  pub slots : buckets ≤ length heads
  pub zeros : (b : ℕ) → b < buckets → get_or heads b 0 ≡ 0

-- what `clear` requires: only the buckets of the first count entries may be in use
pub record Touched (ws heads : List ℕ) (count : ℕ) : Type 0 where
  pub words : count * 5 ≤ length ws
  pub slots : buckets ≤ length heads
  pub keys : (k : ℕ) → k < count → key_at ws k < key_count
  pub others : (b : ℕ) → b < buckets → ((k : ℕ) → k < count → hash_at ws k ≡ b → ⊥) → get_or heads b 0 ≡ 0

-- the answer of a walk that finishes the pairs ps, the root last: its number and how many they are, or that they are more than `limit`
unfoldable pub went_to : ℕ → List Pair → Option (ℕ × ℕ)
went_to limit ps = cond (leb (length ps) limit) (Some ((length ps - 1), (length ps))) None

-- the same in one word: a pair's number below 2^16, the count of pairs above it; 0 says that they are too many
abbrev pub pack_base : ℕ
pack_base = 65536

unfoldable pub went_of : ℕ → Option (ℕ × ℕ)
went_of r = cond (eqb r 0) None (Some ((r % pack_base), (r / pack_base)))

-- what `walk` ensures, ps being the pairs of the walk: the answer, the plan of these pairs, and, where they are too many, that the index can be cleared
pub record Planned (op : Operation) (x y : List ℕ) (limit : ℕ) (ps : List Pair) (r : Option (ℕ × ℕ)) (ws heads : List ℕ) : Type 0 where
  pub answer : r ≡ went_to limit ps
  pub plan : length ps ≤ limit → Plan op x y ws heads limit ps
  pub touched : limit < length ps → Touched ws heads limit

-- the pairs of the first n entries of a plan, by their keys
unfoldable pub pairs_at : List ℕ → ℕ → List Pair
pairs_at ws zero = []
pairs_at ws (suc n) = pairs_at ws n ++ (pair_of (key_at ws n) ∷ [])

-- what a walk from p that goes on after count entries requires
pub record Ready (op : Operation) (x y ws heads : List ℕ) (limit count : ℕ) (p : Pair) : Type 0 where
  pub leading : Leading x y p
  pub plan : Plan op x y ws heads limit (pairs_at ws count)

-- what `visit` and `below` ensure, ps being the pairs after a walk from p: p's number and how many pairs there are, with their plan, or that they are too many
pub record Reached (op : Operation) (x y : List ℕ) (limit : ℕ) (p : Pair) (ps : List Pair) (number count : ℕ) (ws heads : List ℕ) : Type 0 where
  pub less : number < count
  pub count-is : length ps ≡ count
  pub number_is : get_or ps number origin ≡ p
  pub plan : Plan op x y ws heads limit ps

pub record Overrun (limit : ℕ) (ps : List Pair) (ws heads : List ℕ) : Type 0 where
  pub many : limit < length ps
  pub touched : Touched ws heads limit

pub record Visited (op : Operation) (x y : List ℕ) (limit : ℕ) (p : Pair) (ps : List Pair) (r : Option (ℕ × ℕ)) (ws heads : List ℕ) : Type 0 where
  pub to : (number count : ℕ) → r ≡ Some (number, count) → Reached op x y limit p ps number count ws heads
  pub full : r ≡ None → Overrun limit ps ws heads

-- what `add` ensures: an entry at the end, or that there is no room
pub record Entered (ws heads : List ℕ) (limit count key label first second : ℕ) (r : Option (ℕ × ℕ)) (ws' heads' : List ℕ) : Type 0 where
  pub to : (number n : ℕ) → r ≡ Some (number, n)
      → (number ≡ count) × (n ≡ count + 1) × (count < limit)
      × (ws' ≡ put_entry ws count key (get_or heads (hash_of key) 0) label first second)
      × (heads' ≡ set heads (hash_of key) (count + 1))
  pub full : r ≡ None → (count ≡ limit) × (ws' ≡ ws) × (heads' ≡ heads)
