-- A good diagram that stands in the space is written, then closed up: there is room for its rows.
use mathlib.Core.Path.{◌≡◌, sym, ap, subst, ◌∙◌}
use Rattle.std.proofs.lemmas.Option.{some_pair_parts}
use mathlib.Core.List.{List, ◌++◌}
use Prim.Native.Nat.{ℕ, ◌*◌, ◌≤◌}
use native.Mathlib.Omega.{arith}
use lib.ListN.{length, drop, replicate}
use borrow.Author.Tests.{le-leb, le-ltb}
use Rattle.diagram.specs.Sizes.{most_rows, space_rows, result_words}
use Rattle.diagram.specs.Diagram.{Diagram}
use Rattle.diagram.specs.Rows.{rows}
use Rattle.diagram.specs.Listing.{listing, Good}
use Rattle.diagram.specs.Validity.{tree}
use Rattle.diagram.specs.Variables.{closed}
use Rattle.rename.specs.ClosingLaws.{closed-count}
use Rattle.apply.specs.declared.Combined.TheVariants.{Done}
use Rattle.write.specs.Renaming.{listed_in}
use Rattle.write.specs.Writing as write
use Rattle.write.specs.Writing.{write_answer, WritePost}
use Rattle.apart.specs.Results.{Closable, Stands, Writable, result_answer}
use Rattle.apart.proofs.ResultLaws.{result-writable, result-closable, result-done}
use Rattle.std.specs.Prelude.{None, Option, Some}

-- a good diagram at a row of the space, with room for its listing
pub record Ready (ar : List ℕ) (d : Diagram) (s : List ℕ) (root count : ℕ) (out : List ℕ) : Type 0 where
  is : tree s root ≡ d
  good : Good ar (tree s root)
  writable : Writable ar s count root out

module _ {d : Diagram} {x : Option (ℕ × ℕ)} {s : List ℕ} {root count : ℕ} (f : Stands d x s) (e : x ≡ Some (root, count)) where
  root_is : root ≡ f.root
  root_is = (some_pair_parts root f.root count f.count (sym e ∙ f.answer)).0

  count-is : count ≡ f.count
  count-is = (some_pair_parts root f.root count f.count (sym e ∙ f.answer)).1

  tree_is : tree s root ≡ d
  tree_is = ap (tree s) root_is ∙ f.is

  pub stands-ready : {ar out : List ℕ} → Good ar d → space_rows * 3 ≤ length s → result_words ≤ length out → Ready ar d s root count out
  stands-ready {ar} g h r =
      let k = subst (Good ar) (sym tree_is) g in
      record {
        is = tree_is;
        good = k;
        writable = record {
          written = rw count-is f.written;
          words = h;
          within = rw count-is f.within;
          root-there = rw (root_is, count-is) f.there;
          regular = record { arities = k.arities; ordered = k.ordered; reduced = k.reduced; fine = k.fine };
          room = r;
        };
      }

module _ {ar s out : List ℕ} {d : Diagram} {root count : ℕ} (g : Ready ar d s root count out) where
  pub ready-writable : (n₁ n₂ : ℕ) → space_rows ≤ n₁ → space_rows ≤ n₂ → write.Writable s count root (replicate n₁ 0) (replicate n₂ 0) out
  ready-writable n₁ n₂ h k = result-writable g.writable n₁ n₂ h k

  module _ {y : Option ℕ} {marks' out' : List ℕ} (w : WritePost s root out y marks' out') where
    -- its rows are not too many
    pub ready-few : {A : Type 0} → y ≡ None → A
    unfolding write_answer
    ready-few q =
        let z : None ≡ Some (length (rows (tree s root))) = rw (le-leb (length (rows (tree s root))) most_rows g.good.few) at (sym q ∙ w.answer) in
        absurd (let u : ◌≡◌ {A = ℕ} 0 1 = cc in omega arith)

    module _ {m : ℕ} (q : y ≡ Some m) where
      pub ready-closable : Closable ar out' m
      ready-closable = result-closable g.writable w q

      done-rows : Done m 0 ≡ result_answer ar (tree s root) 0 → m ≡ length (rows (closed ar (tree s root)))
      unfolding result_answer
      done-rows a =
          let few : length (rows (closed ar (tree s root))) ≤ most_rows = omega (arith, closed-count ar (tree s root) g.good.arities g.good.fine, g.good.few) in
          let z : Done m 0 ≡ Done (length (rows (closed ar (tree s root)))) 0 = rw (le-ltb most_rows (length (rows (closed ar (tree s root)))) few) at a in
          cc

      -- the rows of its closed listing, which then stands in the result buffer, the words behind it as they were
      pub ready-done : {out'' : List ℕ} → out'' ≡ listing (closed ar (listed_in out' m)) ++ drop (m * 3) out'
          → (m ≡ length (rows (closed ar d))) × (out'' ≡ listing (closed ar d) ++ drop (length (listing (closed ar d))) out)
      ready-done u =
          let z = result-done g.writable w q 0 u in (
            done-rows z.answer ∙ ap (λ (b : Diagram). length (rows (closed ar b))) g.is,
            z.words ∙ ap (λ (b : Diagram). listing (closed ar b) ++ drop (length (listing (closed ar b))) out) g.is,
          )
