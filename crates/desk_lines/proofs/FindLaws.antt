-- Laws of a (did ..) line's action and variant, found in lent words.
use mathlib.Core.Path.{◌≡◌, refl, sym, ap, ap₂, ◌∙◌}
use mathlib.Core.Bool.{true, false}
use mathlib.Core.List.{List}
use Prim.Native.Nat.{ℕ, ◌+◌, ◌*◌, ◌<◌, ◌≤◌}
use native.Mathlib.Omega.{arith}
use lib.ListN.{length, get_or}
use Rattle.refusal.specs.declared.Refusal.TheVariants.{Name, Arity, Range}
use Rattle.words.specs.declared.Key.{Key}
use Rattle.names.specs.Keys.{keys_at, place_of}
use Rattle.names.specs.KeyLaws.{among-at, among_none}
use Rattle.names.specs.Layout.{actions_at, variants_at}
use Rattle.names.specs.ManyLaws.{get_d-many}
use Rattle.mdp.specs.Model.{Action}
use Rattle.replay.specs.Replay.{no_action}
use Rattle.session.specs.Replaying.{variant_names}
use Rattle.declare.specs.declared.Counts.{Counts}
use Rattle.declare.specs.Tables.{names_of}
use Rattle.facts.specs.declared.Tuple.{Tuple}
use Rattle.model.specs.declared.Head.{Head}
use Rattle.model.specs.Layout.{action_words, variants_of, action_at, model_of}
use Rattle.model_entry.specs.Inner.{FewVariants}
use Rattle.model_entry.specs.Building.{variants_before}
use Rattle.model_entry.specs.NameLaws.{before-few, variant-names}
use Rattle.desk_lines.specs.Lines.{Agreed}
use Rattle.desk_lines.specs.Doing.{variant_keys, Findable, Finding}
use Rattle.desk_lines.proofs.LineLaws.{line-name, line-count, line-variant, line-range, line-found}
use Rattle.std.specs.Prelude.{Err, Ok}

-- ===== Room =====

module _ {names table : List ℕ} {actions : ℕ} (t : Findable names table actions) {a : ℕ} (h : a < actions) where
  pub fewer : FewVariants table a
  fewer = record { room = t.few.room; few = omega (arith, t.few.few); each = λ i l. t.few.each i (omega arith) }

  pub before-low : {b : ℕ} → b ≡ variants_before table a → b ≤ 56
  before-low p = omega (arith, p, before-few t.few a (omega arith), t.few.few)

  pub variants-room : {b c : ℕ} → b ≡ variants_before table a → c ≡ variants_of table a → variants_at + b * 2 + c * 2 ≤ length names
  variants-room p q = omega (arith, before-low p, q, t.few.each a h, t.room)

-- the place of a key among the names of the action's variants
pub variant_found : (names table : List ℕ) (a : ℕ) (k : Key) {b c i : ℕ} → b ≡ variants_before table a → c ≡ variants_of table a
    → i ≡ place_of k (keys_at names (variants_at + b * 2) c) → i ≡ place_of k (variant_keys names table a)
variant_found names table a k p q e = e ∙ ap₂ (λ (x y : ℕ). place_of k (keys_at names (variants_at + x * 2) y)) p q

-- ===== Ways out =====

module _ (names table : List ℕ) (n : Counts) (k v : Key) (o : Tuple) {a : ℕ} (p : a ≡ place_of k (keys_at names actions_at n.actions)) where
  pub find-name : n.actions ≤ a → Finding names table n k v o (Err Name)
  unfolding names_of
  find-name h = record {
    fits = tt;
    found = λ ar listings hd l os row g w. line-name (model_of ar listings table hd) (names_of names n) l k v os (among_none names actions_at n.actions k p h);
  }

  module _ (h : a < n.actions) where
    module _ (ar listings : List ℕ) (hd : Head) (g : Agreed table n hd) where
      parameters-are : (get_or (model_of ar listings table hd).actions a no_action).count ≡ get_or table (a * action_words) 0
      unfolding model_of action_at
      parameters-are = ap (λ (x : Action). x.count) (get_d-many (action_at listings table) no_action hd.actions a (omega (arith, g.actions)))

      names-are : variant_names (names_of names n) (model_of ar listings table hd).actions a ≡ variant_keys names table a
      unfolding model_of names_of
      names-are = variant-names names listings table (names_of names n) n.earlier n.variants hd.actions a refl refl g.variants (omega (arith, g.actions))

    pub find-count : (o.count ≡ get_or table (a * action_words) 0 → ⊥) → Finding names table n k v o (Err Arity)
    unfolding names_of
    find-count f = record {
      fits = tt;
      found = λ ar listings hd l os row g w.
          line-count (model_of ar listings table hd) (names_of names n) l k v os (among-at names actions_at n.actions k p h) p (parameters-are ar listings hd g)
          (names-are ar listings hd g) (λ e. f (w.count ∙ e));
    }

    module _ (e : o.count ≡ get_or table (a * action_words) 0) {b : ℕ} (q : b ≡ place_of v (variant_keys names table a)) where
      pub find-variant : variants_of table a ≤ b → Finding names table n k v o (Err Name)
      unfolding names_of
      find-variant i = record {
        fits = tt;
        found = λ ar listings hd l os row g w.
            line-variant (model_of ar listings table hd) (names_of names n) l k v os (among-at names actions_at n.actions k p h) p (parameters-are ar listings hd g)
            (names-are ar listings hd g) (sym w.count ∙ e) (among_none names (variants_at + variants_before table a * 2) (variants_of table a) v q i);
      }

      module _ (i : b < variants_of table a) where
        pub find-range : o.within ≡ false → Finding names table n k v o (Err Range)
        unfolding names_of
        find-range f = record {
          fits = tt;
          found = λ ar listings hd l os row g w.
              line-range (model_of ar listings table hd) (names_of names n) l k v os (among-at names actions_at n.actions k p h) p (parameters-are ar listings hd g)
              (names-are ar listings hd g) (sym w.count ∙ e) (among-at names (variants_at + variants_before table a * 2) (variants_of table a) v q i) (sym w.within ∙ f);
        }

        pub find-done : o.within ≡ true → Finding names table n k v o (Ok (a, b))
        unfolding names_of
        find-done f = record {
          fits = (h, i, e, f);
          found = λ ar listings hd l os row g w.
              line-found (model_of ar listings table hd) (names_of names n) l k v os (among-at names actions_at n.actions k p h) p (parameters-are ar listings hd g)
              (names-are ar listings hd g) (sym w.count ∙ e) (among-at names (variants_at + variants_before table a * 2) (variants_of table a) v q i) (sym w.within ∙ f) q;
        }
