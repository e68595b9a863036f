-- Laws of the steps that the code runs in the working space: what the tables hold, and one step after another.
use Rattle.std.specs.Prelude.{◌≡◌, refl, ◌≢◌, true, false, ◌||◌, List, [], ◌∷◌, ℕ, zero, suc, ◌≤◌, ◌<◌, length, take, eqb}
use Rattle.std.proofs.Common.{sym, ap, ap₂, subst, ◌∙◌, arith, eq-eqb}
use Rattle.refusal.specs.declared.Refusal.{Refusal}
use Rattle.refusal.specs.declared.Refusal.TheVariants.{Space as NoSpace, Pairs}
use Rattle.refusal.specs.Numbers.{number_of}
use Rattle.refusal.specs.Outcome.{ok, refused}
use Rattle.basics.specs.Tests.{Either, one, other, either, or-one, or-other}
use Rattle.basics.specs.Members.{mem, clash}
use Rattle.label.specs.Limits.{leaf_mark}
use Rattle.diagram.specs.Sizes.{highest_value, space_rows, most_pairs}
use Rattle.diagram.specs.Diagram.{Diagram, leaf, branch, same}
use Rattle.diagram.specs.Rows.{onto}
use Rattle.diagram.specs.Words.{label_at, high_at, low_at}
use Rattle.diagram.specs.Validity.{tree}
use Rattle.diagram.specs.Inner.{Encoded, is_part}
use Rattle.diagram.specs.RowLists.{row_tree}
use Rattle.diagram.specs.RowLaws.{onto-mem, row-mem, onto-from, part-leaf, part-branch, PartOf, it-is, of-high, of_low, onto-keeps}
use Rattle.diagram.specs.Shown.{Shown}
use Rattle.diagram.specs.WrittenRows.{written-shown}
use Rattle.plan.specs.Walk.{Leads}
use Rattle.plan.specs.Plan.{Clean}
use Rattle.plan.specs.PlanLaws.{index-empty}
use Rattle.apply.specs.Formed.{add}
use Rattle.apply.proofs.FormedLaws.{add-leaf}
use Rattle.store.specs.Space.{diagrams_of, Holds, Formation}
use Rattle.store.proofs.SpaceLaws.{length-diagrams, tree-row, formation-row, formation-full, formation-tree, formation-old}
use Rattle.regression.specs.Calls.{Run, bind, form}
use Rattle.regression.proofs.CallLaws.{form-room, form-space, form-old, bind-refused}
use Rattle.regression.specs.Result.{AtMost}
use Rattle.combine.specs.RowPairs.{Operand}
use Rattle.combine.specs.Paired.{Pairable}
use Rattle.row_steps.specs.Running.{Valued, Space, Ready, Two, Gave, Final, is_crowded, Ran}
use Rattle.std.specs.Prelude.{Err, None, Ok, Option, Result, Some}

-- leaves in their range
most-part : (b v : ℕ) (d : Diagram) → AtMost b d → is_part (leaf v) d ≡ true → v ≤ b
most-part b v (leaf w) a h = let e = part-leaf (leaf v) w h in let q : v ≡ w = cc in omega arith
most-part b v (branch l t f) a h = go (part-branch (leaf v) l t f h) (most-part b v t a.0) (most-part b v f a.1)
  where
    go : PartOf (leaf v) l t f → (is_part (leaf v) t ≡ true → v ≤ b) → (is_part (leaf v) f ≡ true → v ≤ b) → v ≤ b
    go (it-is e) x y = let z : ◌≡◌ {A = ℕ} 0 1 = cc in absurd (omega arith)
    go (of-high e) x y = x e
    go (of_low e) x y = y e

pub valued-onto : (d : Diagram) (rs : List Diagram) → AtMost highest_value d → Valued rs → Valued (onto d rs)
valued-onto d rs a v = record { most = λ w h. go w (onto-from d (leaf w) rs h) }
  where
    go : (w : ℕ) → Either (mem same (leaf w) rs) (is_part (leaf w) d) → w ≤ highest_value
    go w (one k) = v.most w k
    go w (other k) = most-part highest_value w d a k

mem-take : (n : ℕ) (x : Diagram) (rs : List Diagram) → mem same x (take n rs) ≡ true → mem same x rs ≡ true
mem-take zero x rs h = clash h refl
mem-take (suc n) x [] h = h
mem-take (suc n) x (y ∷ ys) h = go (either (same x y) (mem same x (take n ys)) h) (mem-take n x ys)
  where
    go : Either (same x y) (mem same x (take n ys)) → (mem same x (take n ys) ≡ true → mem same x ys ≡ true) → (same x y || mem same x ys) ≡ true
    go (one k) ih = or-one _ _ k
    go (other k) ih = or-other (same x y) _ (ih k)

pub valued-take : (n : ℕ) (rs : List Diagram) → Valued rs → Valued (take n rs)
valued-take n rs v = record { most = λ w h. v.most w (mem-take n (leaf w) rs h) }

-- a space as an operand
module _ {s heads links : List ℕ} {count : ℕ} (h : Holds s heads links count) where
  abbrev Rs : List Diagram
  Rs = diagrams_of s count

  few : length Rs ≡ count
  few = length-diagrams s count

  at_row : (k : ℕ) → k < count → tree s k ≡ row_tree Rs k
  at_row k l = tree-row s Rs h.written k (omega (arith, few))

  shown : Shown s (length Rs) (row_tree Rs)
  shown = written-shown s Rs h.written

  pub there-mem : (k : ℕ) → k < count → mem same (tree s k) Rs ≡ true
  there-mem k l = row-mem Rs k (tree s k) (omega (arith, few)) (sym (at_row k l))

  pub in-room : length Rs ≤ space_rows
  in-room = omega (arith, few, h.table.within)

  pub row_label : (k : ℕ) → k < count → label_at s k ≤ leaf_mark
  row_label k l = go (row_tree Rs k) refl (h.written.words k (omega (arith, few)))
    where
      go : (d : Diagram) → row_tree Rs k ≡ d → Encoded Rs d (label_at s k) (high_at s k) (low_at s k) → label_at s k ≤ leaf_mark
      go (leaf v) e x = omega (arith, x.0)
      go (branch m t f) e x = omega (arith, x.0, h.written.labels k m t f (omega (arith, few)) e)

  pub row-leaf : (k : ℕ) → k < count → label_at s k ≡ leaf_mark → tree s k ≡ leaf (high_at s k)
  row-leaf k l e = at_row k l ∙ shown.leaves k (omega (arith, few)) e

  pub row-kids : (k : ℕ) → k < count → label_at s k ≢ leaf_mark → (high_at s k < k) × (low_at s k < k)
  row-kids k l e = shown.kids k (omega (arith, few)) e

  pub row-branch : (k : ℕ) → k < count → label_at s k ≢ leaf_mark → tree s k ≡ branch (label_at s k) (tree s (high_at s k)) (tree s (low_at s k))
  row-branch k l e =
      let q = row-kids k l e in
      at_row k l ∙ shown.branches k (omega (arith, few)) e
      ∙ ap₂ (branch (label_at s k)) (sym (at_row (high_at s k) (omega arith))) (sym (at_row (low_at s k) (omega arith)))

  module _ (v : Valued Rs) (i : ℕ) (l : i < count) where
    space-operand : Operand s (suc i) (tree s)
    space-operand = record {
      shown = record {
        leaves = λ k q e. row-leaf k (omega arith) e;
        branches = λ k q e. row-branch k (omega arith) e;
        kids = λ k q e. row-kids k (omega arith) e;
        inj = λ a b p q e. shown.inj a b (omega (arith, few)) (omega (arith, few)) (sym (at_row a (omega arith)) ∙ e ∙ at_row b (omega arith));
      };
      most = λ k q. row_label k (omega arith);
      values = λ k q e. v.most (high_at s k) (subst (λ (d : Diagram). mem same d Rs ≡ true) (row-leaf k (omega arith) e) (there-mem k (omega arith)));
    }

    space-leads : Leads s i
    space-leads = record {
      room = omega (arith, h.table.words, h.table.within);
      few = omega (arith, h.table.within);
      most = λ k q. row_label k (omega arith);
      high = λ k q e. (row-kids k (omega arith) e).0;
      low = λ k q e. (row-kids k (omega arith) e).1;
    }

pub ready-pairable : {plan index s heads links : List ℕ} {limit count i j : ℕ} → Ready plan index limit s heads links count → Two count i j
    → Pairable s s plan index limit i j
ready-pairable {plan} {index} {s} {heads} {links} {limit} {count} {i} {j} r t =
    let h = r.space.holds in
    let v = r.space.values in
    record {
      first = space-operand h v i t.first;
      second = space-operand h v j t.second;
      leading = record { first = space-leads h v i t.first; second = space-leads h v j t.second };
      empty = index-empty plan index limit r.words (omega (arith, r.most)) r.clean;
    }

-- rows that were formed
module _ (s₀ : List ℕ) (count : ℕ) (d : Diagram) {s heads links : List ℕ} where
  pub formed-gave : {i n : ℕ} → Formation d (onto d (diagrams_of s₀ count)) (Some (i, n)) s heads links → Gave (form d) s₀ count i n s
  formed-gave {i} {n} f =
      let r = formation-row f in
      let t = formation-tree f (onto-mem d (diagrams_of s₀ count)) in
      let o = formation-old f s₀ count (onto-keeps d (diagrams_of s₀ count)) in
      record {
        there = t.0;
        more = below count o;
        gives = form-room d (diagrams_of s₀ count) r.0 ∙ (λ j. ok (sym t.1 j, sym r.3 j));
        stays = λ k l. (o k l).1;
      }
    where
      below : (c : ℕ) → ((k : ℕ) → k < c → (k < n) × (tree s k ≡ tree s₀ k)) → c ≤ n
      below zero o = omega arith
      below (suc c) o = let q = (o c (omega arith)).0 in omega arith

  pub formed-stop : Formation d (onto d (diagrams_of s₀ count)) None s heads links → form d (diagrams_of s₀ count) ≡ refused NoSpace
  formed-stop f = form-space d (diagrams_of s₀ count) (formation-full f)

  pub formed-space : {i n : ℕ} → AtMost highest_value d → Valued (diagrams_of s₀ count) → Formation d (onto d (diagrams_of s₀ count)) (Some (i, n)) s heads links → Space s heads links n
  formed-space {i} {n} a v f = record { holds = f.holds; values = subst Valued (sym (formation-row f).3) (valued-onto d (diagrams_of s₀ count) a v) }

  pub full-space : AtMost highest_value d → Valued (diagrams_of s₀ count) → Formation d (onto d (diagrams_of s₀ count)) None s heads links → Space s heads links space_rows
  full-space a v f = record { holds = f.holds; values = subst Valued (sym f.diagrams) (valued-take space_rows (onto d (diagrams_of s₀ count)) (valued-onto d (diagrams_of s₀ count) a v)) }

  pub formed-ran : {limit i n : ℕ} {index : List ℕ} → AtMost highest_value d → Valued (diagrams_of s₀ count) → Clean index
      → Formation d (onto d (diagrams_of s₀ count)) (Some (i, n)) s heads links
      → Ran limit (form d) s₀ count (Ok (i, n)) s heads links index
  formed-ran {limit} {i} {n} a v c f = record {
    space = formed-space a v f;
    clean = c;
    row = λ j m e.
        let z : ◌≡◌ {A = ℕ × ℕ} (i, n) (j, m) = cc in
        let p : i ≡ j = ap (λ (z : ℕ × ℕ). z.0) z in
        let q : n ≡ m = ap (λ (z : ℕ × ℕ). z.1) z in
        rw (← p, ← q) (formed-gave f);
    refusal = λ w m e x. let z : ◌≡◌ {A = ℕ} 0 1 = cc in absurd (omega arith);
  }

  pub full-ran : {limit : ℕ} {index : List ℕ} → AtMost highest_value d → Valued (diagrams_of s₀ count) → Clean index
      → Formation d (onto d (diagrams_of s₀ count)) None s heads links
      → Ran limit (form d) s₀ count (Err (NoSpace, 2048)) s heads links index
  full-ran a v c f = record {
    space = full-space a v f;
    clean = c;
    row = λ j m e. let z : ◌≡◌ {A = ℕ} 0 1 = cc in absurd (omega arith);
    refusal = λ w m e x.
        let z : ◌≡◌ {A = Refusal × ℕ} (NoSpace, 2048) (w, m) = cc in
        let p : NoSpace ≡ w = ap (λ (z : Refusal × ℕ). z.0) z in
        rw (← p) (formed-stop f);
  }

-- one step after another
pub ran-bind : (m : Run Diagram) (f : Diagram → Run Diagram) {limit : ℕ} {s₀ s : List ℕ} {count i n : ℕ} {r : Result (ℕ × ℕ) (Refusal × ℕ)} {s' heads' links' index' : List ℕ}
    → Gave m s₀ count i n s → Ran limit (f (tree s i)) s n r s' heads' links' index' → Ran limit (bind m f) s₀ count r s' heads' links' index'
ran-bind m f {limit} {s₀} {s} {count} {i} {n} g q = record {
  space = q.space;
  clean = q.clean;
  row = λ j k e.
      let z = q.row j k e in
      record {
        there = z.there;
        more = omega (arith, g.more, z.more);
        gives = rw g.gives z.gives;
        stays = λ a l. z.stays a (omega (arith, g.more)) ∙ g.stays a l;
      };
  refusal = λ w k e x. rw g.gives (q.refusal w k e x);
}

pub ran-stop : (m : Run Diagram) (f : Diagram → Run Diagram) {limit : ℕ} {s₀ : List ℕ} {count n : ℕ} {w : Refusal} {s heads links index : List ℕ}
    → Ran limit m s₀ count (Err (w, n)) s heads links index → Ran limit (bind m f) s₀ count (Err (w, n)) s heads links index
ran-stop m f {limit} {s₀} {count} {n} {w} q = record {
  space = q.space;
  clean = q.clean;
  row = λ j k e. let z : ◌≡◌ {A = ℕ} 0 1 = cc in absurd (omega arith);
  refusal = λ v k e x.
      let z : ◌≡◌ {A = Refusal × ℕ} (w, n) (v, k) = cc in
      let p : w ≡ v = ap (λ (z : Refusal × ℕ). z.0) z in
      bind-refused m f (diagrams_of s₀ count) v (subst (λ (u : Refusal). Final limit u → m (diagrams_of s₀ count) ≡ refused u) p (q.refusal w n refl) x);
}

-- a refusal that is none for pairs, and one with room for all pairs
pub uncrowded-final : {limit : ℕ} (r : Result (ℕ × ℕ) (Refusal × ℕ)) (w : Refusal) (n : ℕ) → is_crowded r ≡ false → r ≡ Err (w, n) → Final limit w
uncrowded-final r w n c e p =
    let x : eqb (number_of w) (number_of Pairs) ≡ true = eq-eqb (number_of w) (number_of Pairs) (ap number_of p) in
    let y : eqb (number_of w) (number_of Pairs) ≡ false = sym (ap is_crowded e) ∙ c in
    clash x y

pub all-final : (w : Refusal) → Final most_pairs w
all-final w p = refl

-- a row that is there
pub gave-old : {s heads links : List ℕ} {count i : ℕ} → Holds s heads links count → i < count → Gave (form (tree s i)) s count i count s
gave-old {s} {heads} {links} {count} {i} h l = record {
  there = l;
  more = omega arith;
  gives = form-old (tree s i) (diagrams_of s count) (there-mem h i l) (in-room h);
  stays = λ k q. refl;
}

-- a leaf formed is the leaf put onto the rows
module _ (s₀ : List ℕ) (count : ℕ) {v : ℕ} {r : Option (ℕ × ℕ)} {s heads links : List ℕ} where
  pub leaf-onto : Formation (leaf v) (add (leaf v) (diagrams_of s₀ count)) r s heads links → Formation (leaf v) (onto (leaf v) (diagrams_of s₀ count)) r s heads links
  leaf-onto f = subst (λ (rs : List Diagram). Formation (leaf v) rs r s heads links) (add-leaf v (diagrams_of s₀ count)) f

-- answers that are known
pub row-known : {d : Diagram} {rs : List Diagram} {r : Option (ℕ × ℕ)} {i n : ℕ} {s heads links : List ℕ} → Formation d rs r s heads links → r ≡ Some (i, n)
    → Formation d rs (Some (i, n)) s heads links
row-known {d} {rs} {r} {i} {n} {s} {heads} {links} f e = subst (λ (x : Option (ℕ × ℕ)). Formation d rs x s heads links) e f

pub full-known : {d : Diagram} {rs : List Diagram} {r : Option (ℕ × ℕ)} {s heads links : List ℕ} → Formation d rs r s heads links → r ≡ None → Formation d rs None s heads links
full-known {d} {rs} {r} {s} {heads} {links} f e = subst (λ (x : Option (ℕ × ℕ)). Formation d rs x s heads links) e f

-- leaves 0 and 1 are in their range
most-more : (a b : ℕ) → a ≤ b → (d : Diagram) → AtMost a d → AtMost b d
most-more a b h (leaf v) x = omega arith
most-more a b h (branch l t f) x = (most-more a b h t x.0, most-more a b h f x.1)

pub one-most : (d : Diagram) → AtMost 1 d → AtMost highest_value d
one-most d x = most-more 1 highest_value (omega arith) d x

-- the same step, and a known answer
pub ran-cast : {limit : ℕ} {m m' : Run Diagram} {s₀ : List ℕ} {count : ℕ} {r : Result (ℕ × ℕ) (Refusal × ℕ)} {s heads links index : List ℕ} → m ≡ m'
    → Ran limit m s₀ count r s heads links index → Ran limit m' s₀ count r s heads links index
ran-cast {limit} {m} {m'} {s₀} {count} {r} {s} {heads} {links} {index} e x = subst (λ (z : Run Diagram). Ran limit z s₀ count r s heads links index) e x

pub ran-answer : {limit : ℕ} {m : Run Diagram} {s₀ : List ℕ} {count : ℕ} {r r' : Result (ℕ × ℕ) (Refusal × ℕ)} {s heads links index : List ℕ} → r ≡ r'
    → Ran limit m s₀ count r s heads links index → Ran limit m s₀ count r' s heads links index
ran-answer {limit} {m} {s₀} {count} {r} {r'} {s} {heads} {links} {index} e x = subst (λ (z : Result (ℕ × ℕ) (Refusal × ℕ)). Ran limit m s₀ count z s heads links index) e x
