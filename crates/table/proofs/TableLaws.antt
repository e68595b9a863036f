-- Laws of the hash index: the walk of a bucket's chain, and what adding a row keeps.
use mathlib.Core.Bool.{Bool, true, false, cond}
use mathlib.Core.Path.{◌≡◌, refl, sym, ap, subst, ◌∙◌}
use mathlib.Core.Logic.{⊎_elim}
use mathlib.Core.List.{List, [], ◌∷◌, ◌++◌}
use Prim.Native.Nat.{ℕ, ◌+◌, ◌-◌, ◌*◌, ◌<◌, ◌≤◌, zero-le}
use native.Mathlib.Omega.{arith}
use borrow.Author.Tests.{eqb-true, eqb-false, eq-eqb, ne_eqb}
use lib.ListN.{length, get_or, set, length-set, replicate, length-replicate, get_or-replicate}
use lib.Seq.{get_or-set_same, get_or-set_other}
use lib.Dec.{eqb}
use Rattle.table.specs.declared.Row.{Row}
use Rattle.table.specs.declared.Added.{Added}
use Rattle.table.specs.declared.Added.TheVariants.{Old, New, Full}
use Rattle.table.specs.Rows.{row_at, put_at, rows, first_in, same_row}
use Rattle.table.specs.Chains.{Chained, Walking}
use Rattle.table.specs.ChainLaws.{test}
use Rattle.table.specs.ChainedLaws.{chained-none, chained-as, chained_more, walking_start, walking_on, link-less}
use Rattle.table.specs.Table.{buckets, most_indexed, hash_of, hash_at, Table, Addable, Clean, add_answer, add_rows, add_where, AddPost}
use Rattle.table.proofs.RowLaws.{found_at, found_none, put_other, put_same, length-put, length-rows, rows-put, drop-put, none_found, said_same, said-other}
use Rattle.std.specs.Prelude.{None, Option, Some}

-- the walk of a chain for the row r
pub record Walk (s : List ℕ) (count : ℕ) (r : Row) (at : ℕ) : Type 0 where
  pub walking : Walking (hash_at s) count (hash_of r) (λ k. row_at s k ≡ r) at

-- a row of another bucket is another row
in-bucket : (s : List ℕ) (r : Row) (k : ℕ) → row_at s k ≡ r → hash_at s k ≡ hash_of r
unfolding hash_at
in-bucket s r k e = ap hash_of e

chained : {s heads links : List ℕ} {limit count : ℕ} → Table s heads links limit count → Chained (hash_at s) buckets (λ b. get_or heads b 0) (λ i. get_or links i 0) count
chained t = record { heads = t.head; links = t.link }

-- a link that is not 0 leads down
pub walk-less : {s heads links : List ℕ} {limit count at next : ℕ} {r : Row} → Table s heads links limit count → Walk s count r at → (at ≡ 0 → ⊥)
    → next ≡ get_or links (at - 1) 0 → next < at
walk-less t w n e = let l = link-less (chained t) w.walking.below n in omega arith

-- a new row at the end
module _ (s heads links : List ℕ) (limit count : ℕ) (t : Table s heads links limit count) (r : Row) (room : count < limit)
    (new : (i : ℕ) → i < count → row_at s i ≡ r → ⊥) (b : ℕ) (e : b ≡ hash_of r) (lt : b < buckets) where
  old_row : (i : ℕ) → i < count → row_at (put_at s count r) i ≡ row_at s i
  old_row i h = put_other s count r i (omega arith)

  old-hash : (i : ℕ) → i < count → hash_at (put_at s count r) i ≡ hash_at s i
  unfolding hash_at
  old-hash i h = ap hash_of (old_row i h)

  new_row : row_at (put_at s count r) count ≡ r
  new_row = put_same s count r (omega arith)

  new-hash : hash_at (put_at s count r) count ≡ b
  unfolding hash_at
  new-hash = ap hash_of new_row ∙ sym e

  pub added : Table (put_at s count r) (set heads b (count + 1)) (set links count (get_or heads b 0)) limit (count + 1)
  added = record {
    words = rw length-put t.words;
    slots = rw length-set t.slots;
    places = rw length-set t.places;
    small = t.small;
    within = omega arith;
    head = more.heads;
    link = more.links;
    apart = λ i j h l p. ⊎_elim
        (λ (q : i ≡ count). new j (omega arith) (sym (old_row j (omega arith)) ∙ p ∙ subst (λ (y : ℕ). row_at (put_at s count r) y ≡ r) (sym q) new_row))
        (λ (q : i ≡ count → ⊥). t.apart i j (omega arith) l (sym (old_row j (omega arith)) ∙ p ∙ old_row i (omega arith)))
        (test i count);
  }
    where
      more : Chained (hash_at (put_at s count r)) buckets (λ x. get_or (set heads b (count + 1)) x 0) (λ i. get_or (set links count (get_or heads b 0)) i 0) (count + 1)
      more =
          chained_more (chained-as (chained t) (hash_at (put_at s count r)) (λ k l. sym (old-hash k l))) b _ _ new-hash lt (get_or-set_same heads b _ 0 (omega arith))
          (λ x h p. get_or-set_other heads b x _ 0 p) (get_or-set_same links count _ 0 (omega arith)) (λ k l. get_or-set_other links count k _ 0 (omega arith))

-- the three ways out of `find_or_add`
module _ (s heads links : List ℕ) (limit count : ℕ) (t : Table s heads links limit count) (r : Row) where
  pub post-old : (i : ℕ) → first_in (rows s count) r ≡ Some i → AddPost s limit count r (Old i) s heads links
  unfolding add_answer add_rows
  post-old i e = record { answer = rw e; now-rows = rw e; rest = refl; table = t }

  pub post-full : first_in (rows s count) r ≡ None → count ≡ limit → AddPost s limit count r Full s heads links
  unfolding add_answer add_rows
  post-full e f =
      record { answer = rw (e, length-rows s count, eq-eqb count limit f); now-rows = rw (e, length-rows s count, eq-eqb count limit f); rest = refl; table = t }

  pub post-new : first_in (rows s count) r ≡ None → (count ≡ limit → ⊥) → (s' heads' links' : List ℕ) → s' ≡ put_at s count r
      → Table s' heads' links' limit (count + 1) → AddPost s limit count r (New count) s' heads' links'
  unfolding add_answer add_rows
  post-new e f s' heads' links' p t' = record {
    answer = rw (e, length-rows s count, ne_eqb count limit f);
    now-rows = rw (e, length-rows s count, ne_eqb count limit f, p) (rows-put s count r (omega arith));
    rest = rw p (drop-put s count r ((count + 1) * 3) (omega arith));
    table = t';
  }

-- what each answer of `find_or_add` tells its caller
module _ (limit : ℕ) (xs : List Row) (r : Row) where
  full? : Bool → Added
  full? b = cond b Full (New (length xs))

  old-is : (i : ℕ) → Old i ≡ add_answer limit xs r → first_in xs r ≡ Some i
  unfolding add_answer full?
  old-is i h = go (first_in xs r) refl (eqb (length xs) limit) refl
    where
      go : (f : Option ℕ) → first_in xs r ≡ f → (b : Bool) → eqb (length xs) limit ≡ b → first_in xs r ≡ Some i
      go (Some j) e b q = let k : Old i ≡ Old j = h ∙ ap (add_where limit xs) e in cc
      go None e true q = let k : Old i ≡ Full = h ∙ ap (add_where limit xs) e ∙ ap full? q in absurd (let z : ◌≡◌ {A = ℕ} 0 1 = cc in omega arith)
      go None e false q = let k : Old i ≡ New (length xs) = h ∙ ap (add_where limit xs) e ∙ ap full? q in absurd (let z : ◌≡◌ {A = ℕ} 0 1 = cc in omega arith)

  new_is : (i : ℕ) → New i ≡ add_answer limit xs r → (first_in xs r ≡ None) × (length xs ≡ limit → ⊥)
  unfolding add_answer full?
  new_is i h = go (first_in xs r) refl (eqb (length xs) limit) refl
    where
      go : (f : Option ℕ) → first_in xs r ≡ f → (b : Bool) → eqb (length xs) limit ≡ b → (first_in xs r ≡ None) × (length xs ≡ limit → ⊥)
      go (Some j) e b q = let k : New i ≡ Old j = h ∙ ap (add_where limit xs) e in absurd (let z : ◌≡◌ {A = ℕ} 0 1 = cc in omega arith)
      go None e true q = let k : New i ≡ Full = h ∙ ap (add_where limit xs) e ∙ ap full? q in absurd (let z : ◌≡◌ {A = ℕ} 0 1 = cc in omega arith)
      go None e false q = (e, eqb-false _ _ q)

  full_is : Full ≡ add_answer limit xs r → (first_in xs r ≡ None) × (length xs ≡ limit)
  unfolding add_answer full?
  full_is h = go (first_in xs r) refl (eqb (length xs) limit) refl
    where
      go : (f : Option ℕ) → first_in xs r ≡ f → (b : Bool) → eqb (length xs) limit ≡ b → (first_in xs r ≡ None) × (length xs ≡ limit)
      go (Some j) e b q = let k : Full ≡ Old j = h ∙ ap (add_where limit xs) e in absurd (let z : ◌≡◌ {A = ℕ} 0 1 = cc in omega arith)
      go None e true q = (e, eqb-true _ _ q)
      go None e false q = let k : Full ≡ New (length xs) = h ∙ ap (add_where limit xs) e ∙ ap full? q in absurd (let z : ◌≡◌ {A = ℕ} 0 1 = cc in omega arith)

  rows-old : (i : ℕ) → first_in xs r ≡ Some i → add_rows limit xs r ≡ xs
  unfolding add_rows
  rows-old i e = rw e

  rows_new : first_in xs r ≡ None → (length xs ≡ limit → ⊥) → add_rows limit xs r ≡ xs ++ (r ∷ [])
  unfolding add_rows
  rows_new e f = rw (e, ne_eqb (length xs) limit f)

module _ {s : List ℕ} {limit count : ℕ} {r : Row} {x : Added} {s' heads' links' : List ℕ} (p : AddPost s limit count r x s' heads' links') where
  pub case-old : (i : ℕ) → x ≡ Old i → (first_in (rows s count) r ≡ Some i) × (rows s' count ≡ rows s count) × Table s' heads' links' limit count
  case-old i e =
      let f : first_in (rows s count) r ≡ Some i = old-is limit (rows s count) r i (sym e ∙ p.answer) in
      (f, rw e at p.now-rows ∙ rows-old limit (rows s count) r i f, rw e at p.table)

  pub case-new : (i : ℕ) → x ≡ New i → (first_in (rows s count) r ≡ None) × (rows s' (count + 1) ≡ rows s count ++ (r ∷ [])) × Table s' heads' links' limit (count + 1)
  case-new i e =
      let f : (first_in (rows s count) r ≡ None) × (length (rows s count) ≡ limit → ⊥) = new_is limit (rows s count) r i (sym e ∙ p.answer) in
      (f.0, (rw e at p.now-rows) ∙ rows_new limit (rows s count) r f.0 f.1, rw e at p.table)

  pub case_full : x ≡ Full → (first_in (rows s count) r ≡ None) × (count ≡ limit)
  case_full e =
      let f : (first_in (rows s count) r ≡ None) × (length (rows s count) ≡ limit) = full_is limit (rows s count) r (sym e ∙ p.answer) in
      (f.0, sym (length-rows s count) ∙ f.1)

-- a table with no rows, over a clean index; any words, any links
pub empty : (s heads links : List ℕ) (limit : ℕ) → limit * 3 ≤ length s → limit ≤ length links → limit ≤ most_indexed → Clean heads → Table s heads links limit 0
empty s heads links limit h₁ h₂ h₃ c = record {
  words = h₁;
  slots = c.slots;
  places = h₂;
  small = h₃;
  within = zero-le;
  head = none.heads;
  link = none.links;
  apart = λ i j h l p. omega arith;
}
  where
    none : Chained (hash_at s) buckets (λ b. get_or heads b 0) (λ i. get_or links i 0) 0
    none = chained-none (hash_at s) _ c.zeros

-- an index that was just made is clean
pub clean-made : (n : ℕ) → buckets ≤ n → Clean (replicate n 0)
clean-made n h = record { slots = rw length-replicate h; zeros = λ b l. get_or-replicate n b 0 0 (omega arith) }

pub empty-made : (s : List ℕ) (n₁ n₂ limit : ℕ) → limit * 3 ≤ length s → buckets ≤ n₁ → limit ≤ n₂ → limit ≤ most_indexed → Table s (replicate n₁ 0) (replicate n₂ 0) limit 0
empty-made s n₁ n₂ limit h₁ h₂ h₃ h₄ = empty s _ _ limit h₁ (rw length-replicate h₃) h₄ (clean-made n₁ h₂)

-- the ways out of `find_or_add`, in the words of what `lookup` and `add` ensure, for `search`
module _ {s heads links : List ℕ} {limit count : ℕ} {r : Row} {f : Option ℕ} (t : Table s heads links limit count) (l : f ≡ first_in (rows s count) r) where
  pub out-old : {i : ℕ} → f ≡ Some i → AddPost s limit count r (Old i) s heads links
  out-old {i} e = post-old s heads links limit count t r i (sym l ∙ e)

  pub out-full : f ≡ None → count ≡ limit → AddPost s limit count r Full s heads links
  out-full e h = post-full s heads links limit count t r (sym l ∙ e) h

  pub out-new : f ≡ None → (count ≡ limit → ⊥) → {s' heads' links' : List ℕ} → s' ≡ put_at s count r → Table s' heads' links' limit (count + 1)
      → AddPost s limit count r (New count) s' heads' links'
  out-new e h p t' = post-new s heads links limit count t r (sym l ∙ e) h _ _ _ p t'

  pub out-fresh : f ≡ None → (i : ℕ) → i < count → row_at s i ≡ r → ⊥
  out-fresh e = none_found s count r (sym l ∙ e)

-- the ways through `lookup`, in the words of what `row_at` and `same` ensure
module _ {s heads links : List ℕ} {limit count : ℕ} {r : Row} (t : Table s heads links limit count) where
  pub look-start : {b at : ℕ} → (b ≡ hash_of r) × (b < buckets) → at ≡ get_or heads b 0 → Walk s count r at
  look-start {b} {at} h e =
      record { walking = walking_start (chained t) (in-bucket s r) (omega (arith, h.0, h.1)) (e ∙ ap (λ (x : ℕ). get_or heads x 0) h.0) }

  pub look_none : {at : ℕ} → Walk s count r at → at ≡ 0 → None ≡ first_in (rows s count) r
  look_none w e = sym (found_none s count r (λ j l p. w.walking.passed j (omega arith) l p))

  module _ {at : ℕ} {x : Row} {b : Bool} (w : Walk s count r at) (n : at ≡ 0 → ⊥) (p : x ≡ row_at s (at - 1)) (q : b ≡ same_row x r) where
    pub look_hit : b ≡ true → Some (at - 1) ≡ first_in (rows s count) r
    look_hit e =
        let z = said_same q p e in
        let m : at - 1 < count = omega (arith, w.walking.below) in
        sym (found_at s count r (at - 1) m z (λ j l y. t.apart (at - 1) j m l (y ∙ sym z)))

    pub look-on : {next : ℕ} → b ≡ false → next ≡ get_or links (at - 1) 0 → Walk s count r next
    look-on e f = rw f (record { walking = walking_on (chained t) (in-bucket s r) w.walking n (said-other q p e) })

-- the way out of `add`, in the words of what `hash` and `put` ensure
pub add-out : {s heads links : List ℕ} {limit count : ℕ} {r : Row} {b : ℕ} {s' : List ℕ} → Addable s heads links limit count r
    → (b ≡ hash_of r) × (b < buckets) → s' ≡ put_at s count r → Table s' (set heads b (count + 1)) (set links count (get_or heads b 0)) limit (count + 1)
add-out {s} {heads} {links} {limit} {count} {r} {b} a h e = rw e (added s heads links limit count a.table r a.room a.fresh b h.0 h.1)
