-- Laws of writing a table, in the words of the code: the highest entry of the union is the aggregated value.
use mathlib.Core.Path.{◌≡◌, refl, ap, ap₂, sym, ◌∙◌, subst, fun_ext}
use mathlib.Core.Bool.{true, false}
use mathlib.Core.List.{List, map}
use Prim.Native.Nat.{ℕ, zero, suc, ◌+◌, ◌^◌, ◌≤◌, ◌<◌}
use native.Mathlib.Omega.{arith}
use lib.ListN.{length, get_or, set, length-set}
use lib.Seq.{get_or-set_same, get_or-set_other}
use lib.Dec.{eqb}
use Rattle.basics.specs.Tests.{and_left, and_right, Flag, is_true, is_false, flag, Cmp, below, equal, above, cmp}
use Rattle.basics.specs.Members.{mem}
use Rattle.label.specs.Limits.{first_variable, term_end}
use Rattle.label.specs.Labels.{predicate_of, unpacked, terms_of}
use Rattle.rename.specs.AscendingLaws.{ascending-above, ascending-not}
use Rattle.state.proofs.MaxLaws.{max_to-is, max-one}
use Rattle.state.specs.State.{atom_of, State, Good, truth, holds, Fits}
use Rattle.state.proofs.ValueLaws.{by-low}
use Rattle.state.specs.Lent.{said_by}
use Rattle.elimination.specs.Tables.{Table, join, aggregate_all}
use Rattle.elimination.specs.Inner.{Agree, Sees, Full}
use Rattle.elimination.proofs.AboveLaws.{not-true}
use Rattle.elimination.proofs.TableLaws.{join-sees, unite-sees, aggregate_all-sees, mem-aggregate_all, union-full, union-value, aggregate-hit, aggregate-bound}
use Rattle.eliminate.specs.Masks.{names_of, env_of, place_of, decoded}
use Rattle.eliminate.specs.MaskLaws.{of-ascending}
use Rattle.eliminate.specs.PlaceLaws.{place-less, place-one, place-decoded, decoded-length, decoded-other}
use Rattle.eliminate.specs.Calls.{objects_of, lent_truth, tells, set_at, start_at, entry_in, look_in, best_in, Stored, Looking, Moved, Best, Decodable, Filling}
use Rattle.eliminate.specs.Stores.{Said, Holds, union_of, Filled}
use Rattle.eliminate.proofs.SetLaws.{within-names, moved_none, moved-decode}

-- ===== Objects stay objects =====
low-out : (set t : ℕ) → t < first_variable → mem eqb t (names_of set) ≡ false
low-out set t h = ascending-not first_variable (names_of set) t (of-ascending set) h

pub fits_moved : {s : State} {os : List ℕ} {n set : ℕ} {env env' : List ℕ} → s.size ≡ n → Fits s os (env_of env) → Moved n set env env' → Fits s os (env_of env')
fits_moved {s} {os} {n} {set} {env} {env'} e f w = record {
  low = λ t h. w.others t (low-out set t h) ∙ f.low t h;
  range = λ t. subst (λ x. env_of env' t < x) (sym e) (w.range (λ u. subst (λ x. env_of env u < x) e (f.range u)) t);
}

-- ===== The union in words =====
pub tells-holds : (s : State) (ar facts env : List ℕ) (l : ℕ) → s.fact ≡ said_by ar facts → tells ar facts env l ≡ holds s (env_of env) (atom_of ar l)
unfolding tells objects_of holds atom_of
tells-holds s ar facts env l e = go (predicate_of l) (map (env_of env) (terms_of ar (unpacked l)))
  where
    go : (p : ℕ) (os : List ℕ) → lent_truth ar facts p os ≡ truth s p os
    go zero os = refl
    go (suc p) os = ap (λ f. f (suc p) os) (sym e)

module _ (s : State) (os : List ℕ) (ar facts heads space : List ℕ) (n l high low : ℕ) (x y : Table) (good : Good s) (size_is : s.size ≡ n) (facts-are : s.fact ≡ said_by ar facts)
    (hx : Holds s os heads space high x) (hy : Holds s os heads space low y) where
  entry_value : (i : ℕ) (z : Table) → Holds s os heads space i z → (env : List ℕ) → Fits s os (env_of env) → entry_in heads space env n i ≡ z.value (env_of env)
  unfolding entry_in
  entry_value i z h env f =
      ap₂ (λ m vs. get_or space (start_at heads i + place_of m vs (env_of env)) 0) (sym size_is) h.names-are ∙ h.entry (env_of env) f

  look-value : (env : List ℕ) → Fits s os (env_of env) → look_in ar facts heads space n l high low env ≡ (union_of s ar l x y).value (env_of env)
  unfolding look_in
  look-value env f =
      rw (tells-holds s ar facts env l facts-are, entry_value high x hx env f, entry_value low y hy env f)
      (sym (union-value s (atom_of ar l) x y hx.full (env_of env)))

  u-full : Full (union_of s ar l x y)
  u-full = union-full s (atom_of ar l) x y hx.full hy.full

  u-sees : Sees (union_of s ar l x y)
  u-sees = unite-sees (join s true (atom_of ar l) x) (join s false (atom_of ar l) y) (join-sees s true (atom_of ar l) x hx.sees) (join-sees s false (atom_of ar l) y hy.sees)

  -- the highest entry is the aggregated value
  module _ (drops m : ℕ) (m-is : m ≡ n ^ length (names_of drops)) (env : List ℕ) (places : term_end ≤ length env) (f : Fits s os (env_of env)) where
    some : 0 < n
    some = subst (λ k. 0 < k) size_is good.some

    choice : ℕ → List ℕ
    choice c = decoded n (names_of drops) c env

    choice-fits : (c : ℕ) → Fits s os (env_of (choice c))
    unfolding choice
    choice-fits c = fits_moved {set = drops} size_is f (moved-decode c some places (moved_none n drops env) refl)

    top : ℕ
    top = (aggregate_all s.size (names_of drops) (union_of s ar l x y)).value (env_of env)

    under : (c : ℕ) → c < m → look_in ar facts heads space n l high low (choice c) ≤ top
    unfolding choice top
    under c h = rw (look-value (choice c) (choice-fits c))
        (aggregate-bound s os good (names_of drops) (union_of s ar l x y) u-full (env_of env) (env_of (choice c)) f (choice-fits c).range
        (λ t o. decoded-other n (names_of drops) c env t o))

    hit : (c : ℕ) × (c < m) × (look_in ar facts heads space n l high low (choice c) ≡ top)
    unfolding choice top
    hit =
        let r = aggregate-hit s os good (names_of drops) (union_of s ar l x y) (λ t o. ascending-above first_variable (names_of drops) t (of-ascending drops) o) u-full (env_of env) f in
        let η = r.0 in
        let rng : (t : ℕ) → η t < n = λ t. subst (λ k. η t < k) size_is (r.1.range t) in
        let c : ℕ = place_of n (names_of drops) η in
        let less : c < n ^ length (names_of drops) = place-less n (names_of drops) η rng in
        let at : place_of n (names_of drops) (env_of (choice c)) ≡ c = place-decoded n first_variable (names_of drops) c env some (of-ascending drops) (within-names drops env places) less in
        let same : env_of (choice c) ≡ η = fun_ext (λ t. agree η r.2 rng c at t) in
        (c, subst (λ k. c < k) (sym m-is) less, look-value (choice c) (choice-fits c) ∙ ap (union_of s ar l x y).value same ∙ r.3)
      where
        agree : (η : ℕ → ℕ) → ((t : ℕ) → mem eqb t (names_of drops) ≡ false → η t ≡ env_of env t) → ((t : ℕ) → η t < n) → (c : ℕ)
            → place_of n (names_of drops) (env_of (choice c)) ≡ place_of n (names_of drops) η → (t : ℕ) → env_of (choice c) t ≡ η t
        agree η off rng c e t = go (flag (mem eqb t (names_of drops)))
          where
            go : Flag (mem eqb t (names_of drops)) → env_of (choice c) t ≡ η t
            go (is_true o) = place-one n (names_of drops) (env_of (choice c)) η (λ u. subst (λ k. env_of (choice c) u < k) size_is ((choice-fits c).range u)) rng e t o
            go (is_false o) = decoded-other n (names_of drops) c env t o ∙ sym (off t o)

    pub best-value : best_in ar facts heads space n l high low drops m env ≡ (aggregate_all s.size (names_of drops) (union_of s ar l x y)).value (env_of env)
    unfolding best_in top choice
    best-value =
        let z = hit in
        let w = max_to-is m (λ c. look_in ar facts heads space n l high low (choice c)) (omega (arith, z.1)) in
        max-one w (record { point = z.0; inside = z.1; value = z.2; bound = under })

-- ===== Writing, entry by entry =====

-- tables that stand before `start` are held still
pub holds-before : {s : State} {os : List ℕ} {heads space space' : List ℕ} {n start i : ℕ} {z : Table} → s.size ≡ n → start_at heads i + n ^ length (names_of (set_at heads i)) ≤ start
    → ((j : ℕ) → j < start → get_or space' j 0 ≡ get_or space j 0) → Holds s os heads space i z → Holds s os heads space' i z
holds-before {s} {os} {heads} {space} {space'} {n} {start} {i} {z} e l b h = record {
  names-are = h.names-are;
  full = h.full;
  sees = h.sees;
  entry = λ θ f.
      let p : place_of s.size z.names θ < s.size ^ length z.names = place-less s.size z.names θ f.range in
      let q : s.size ^ length z.names ≡ n ^ length (names_of (set_at heads i)) = ap₂ (λ m vs. m ^ length vs) e (sym h.names-are) in
      b (start_at heads i + place_of s.size z.names θ) (omega arith) ∙ h.entry θ f;
}

-- what the names of a row's table are
abbrev pub Covers : State → List ℕ → ℕ → Table → Table → ℕ → ℕ → Type 0
Covers s ar l x y kept drops = (t : ℕ) → mem eqb t (union_of s ar l x y).names ≡ true → mem eqb t (names_of drops) ≡ false → mem eqb t (names_of kept) ≡ true

-- the first e entries are written
pub record Writing (ar facts heads space₀ env₀ : List ℕ) (n l high low kept start count drops m : ℕ) (space env : List ℕ) (e : ℕ) : Type 0 where
  pub filling : Filling ar heads space₀ env₀ n l high low kept start count drops m
  pub end : e ≤ count
  pub space-kept : length space ≡ length space₀
  pub env-kept : length env ≡ length env₀
  pub before : (j : ℕ) → j < start → get_or space j 0 ≡ get_or space₀ j 0
  pub range : (t : ℕ) → env_of env t < n
  pub fits : (s : State) (os : List ℕ) → Said s os ar facts env₀ n → Fits s os (env_of env)
  pub table : (s : State) (os : List ℕ) (x y : Table) → Said s os ar facts env₀ n → Holds s os heads space₀ high x → Holds s os heads space₀ low y → Covers s ar l x y kept drops
      → (θ : ℕ → ℕ) → Fits s os θ → place_of n (names_of kept) θ < e
      → get_or space (start + place_of n (names_of kept) θ) 0 ≡ (aggregate_all n (names_of drops) (union_of s ar l x y)).value θ

pub fill_start : (ar facts heads space env : List ℕ) (n l high low kept start count drops m : ℕ) → Filling ar heads space env n l high low kept start count drops m
    → Writing ar facts heads space env n l high low kept start count drops m space env 0
fill_start ar facts heads space env n l high low kept start count drops m f = record {
  filling = f;
  end = omega arith;
  space-kept = refl;
  env-kept = refl;
  before = λ j h. refl;
  range = f.looking.range;
  fits = λ s os w. w.fits;
  table = λ s os x y w hx hy cover θ g h. absurd (omega arith);
}

module _ {ar facts heads space₀ env₀ : List ℕ} {n l high low kept start count drops m : ℕ} {space env : List ℕ} {e : ℕ}
    (w : Writing ar facts heads space₀ env₀ n l high low kept start count drops m space env e) where
  places : term_end ≤ length env
  places = let k = w.env-kept in let p = w.filling.looking.asked.places in omega arith

  pub fill-decodable : Decodable env n
  fill-decodable = record { some = w.filling.looking.some; places = places }

  still-stored : (i : ℕ) → Stored heads space₀ n i → Stored heads space n i
  still-stored i h = record { head = h.head; few = h.few; room = let k = w.space-kept in let r = h.room in omega arith }

  pub fill-looking : {env' : List ℕ} → env' ≡ decoded n (names_of kept) e env → Looking ar heads space env' n l high low
  fill-looking d = record {
    asked = record { labelled = w.filling.looking.asked.labelled; places = let p = places in let q = ap length d in let k = decoded-length n (names_of kept) e env in omega arith };
    some = w.filling.looking.some;
    range = (moved-decode e w.filling.looking.some places (moved_none n kept env) d).range w.range;
    high-stored = still-stored high w.filling.looking.high-stored;
    low-stored = still-stored low w.filling.looking.low-stored;
  }

  pub fill-room : e < count → start + e < length space
  fill-room h = let k = w.space-kept in let r = w.filling.room in omega arith

  pub fill_on : {env₁ env₂ : List ℕ} {b : ℕ} → e < count → env₁ ≡ decoded n (names_of kept) e env → Best ar facts heads space n l high low drops m env₁ b env₂
      → Writing ar facts heads space₀ env₀ n l high low kept start count drops m (set space (start + e) b) env₂ (e + 1)
  fill_on {env₁} {env₂} {b} h d r = record {
    filling = w.filling;
    end = omega arith;
    space-kept = length-set space (start + e) b ∙ w.space-kept;
    env-kept = r.moved.kept ∙ first.kept ∙ w.env-kept;
    before = λ j q. get_or-set_other space (start + e) j b 0 (omega arith) ∙ w.before j q;
    range = r.moved.range (first.range w.range);
    fits = λ s os g. fits_moved {set = drops} g.size_is (one-fits s os g) r.moved;
    table = λ s os x y g hx hy cover θ f q. go s os x y g hx hy cover θ f (cmp (place_of n (names_of kept) θ) e) q;
  }
    where
      first : Moved n kept env env₁
      first = moved-decode e w.filling.looking.some places (moved_none n kept env) d

      one-places : term_end ≤ length env₁
      one-places = let p = places in let k = first.kept in omega arith

      one-fits : (s : State) (os : List ℕ) → Said s os ar facts env₀ n → Fits s os (env_of env₁)
      one-fits s os g = fits_moved {set = kept} g.size_is (w.fits s os g) first

      -- the entry that is written now
      now-is : (s : State) (os : List ℕ) (x y : Table) → Said s os ar facts env₀ n → Holds s os heads space₀ high x → Holds s os heads space₀ low y → Covers s ar l x y kept drops
          → (θ : ℕ → ℕ) → Fits s os θ → place_of n (names_of kept) θ ≡ e → b ≡ (aggregate_all n (names_of drops) (union_of s ar l x y)).value θ
      now-is s os x y g hx hy cover θ f q =
          let k = g.size_is in
          let hx' = holds-before {n = n} k w.filling.high_end w.before hx in
          let hy' = holds-before {n = n} k w.filling.low_end w.before hy in
          let v = best-value s os ar facts heads space n l high low x y g.good k g.facts-are hx' hy' drops m w.filling.m-is env₁ one-places (one-fits s os g) in
          let u = union_of s ar l x y in
          let sees = aggregate_all-sees s.size (names_of drops) u (u-sees s os ar facts heads space n l high low x y g.good k g.facts-are hx' hy') in
          r.is ∙ v ∙ sees.same-value (env_of env₁) θ (agree s os x y g cover θ f q) ∙ ap (λ z. (aggregate_all z (names_of drops) u).value θ) k
        where
          agree : (s : State) (os : List ℕ) (x y : Table) (g : Said s os ar facts env₀ n) → Covers s ar l x y kept drops → (θ : ℕ → ℕ) → Fits s os θ → place_of n (names_of kept) θ ≡ e
              → Agree (aggregate_all s.size (names_of drops) (union_of s ar l x y)).names (env_of env₁) θ
          agree s os x y g cover θ f q t c = by-low (env_of env₁ t ≡ θ t) first_variable t
              (λ o. (one-fits s os g).low t o ∙ sym (f.low t o))
              (λ o.
              let i = sym (mem-aggregate_all s.size t (names_of drops) (union_of s ar l x y)) ∙ c o in
              let p = cover t (and_left (mem eqb t (union_of s ar l x y).names) _ i) (not-true (mem eqb t (names_of drops)) (and_right (mem eqb t (union_of s ar l x y).names) _ i)) in
              place-one n (names_of kept) (env_of env₁) θ (first.range w.range) (λ u. subst (λ z. θ u < z) g.size_is (f.range u)) (at ∙ sym q) t p)
            where
              at : place_of n (names_of kept) (env_of env₁) ≡ e
              at = ap (λ z. place_of n (names_of kept) (env_of z)) d
                  ∙ place-decoded n first_variable (names_of kept) e env w.filling.looking.some (of-ascending kept) (within-names kept env places)
                  (subst (λ z. e < z) w.filling.count-is h)

      go : (s : State) (os : List ℕ) (x y : Table) → Said s os ar facts env₀ n → Holds s os heads space₀ high x → Holds s os heads space₀ low y → Covers s ar l x y kept drops
          → (θ : ℕ → ℕ) → Fits s os θ → Cmp (place_of n (names_of kept) θ) e → place_of n (names_of kept) θ < e + 1
          → get_or (set space (start + e) b) (start + place_of n (names_of kept) θ) 0 ≡ (aggregate_all n (names_of drops) (union_of s ar l x y)).value θ
      go s os x y g hx hy cover θ f (below p) q =
          get_or-set_other space (start + e) (start + place_of n (names_of kept) θ) b 0 (omega arith) ∙ w.table s os x y g hx hy cover θ f p
      go s os x y g hx hy cover θ f (equal p) q =
          ap (λ z. get_or (set space (start + e) b) (start + z) 0) p ∙ get_or-set_same space (start + e) b 0 (fill-room h) ∙ now-is s os x y g hx hy cover θ f p
      go s os x y g hx hy cover θ f (above p) q = absurd (omega arith)

  pub fill_end : count ≤ e → Filled ar facts heads space₀ env₀ n l high low kept start drops space env
  fill_end h = record {
    before = w.before;
    table = λ s os x y g hx hy cover θ f.
        let p = place-less n (names_of kept) θ (λ t. subst (λ z. θ t < z) g.size_is (f.range t)) in
        let c = w.filling.count-is in
        w.table s os x y g hx hy cover θ f (omega arith);
    fits = w.fits;
    range = w.range;
  }
