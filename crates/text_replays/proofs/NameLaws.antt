-- The names of a (did ..) line are those that the text declares: its action's among the accepted (action ..) lines, its variant's among the accepted (variant ..) lines of
-- that action (document 01, section 'Text'; document 02, L10).
use Rattle.std.specs.Prelude.{◌≡◌, refl, Bool, true, false, cond, ℕ, zero, suc, ◌<◌, length, get_or}
use Rattle.std.proofs.Common.{sym, ap, ◌∙◌, arith}
use Rattle.std.proofs.Math.Path.{subst}
use mathlib.Core.List.{List, [], ◌∷◌, map}
use Rattle.std.proofs.Math.ListN.{length-map}
use borrow.Author.Tests.{ltb-true, lt-ltb}
use Rattle.basics.specs.Members.{clash}
use Rattle.mdp.specs.Model.{Every}
use Rattle.words.specs.declared.Key.{Key}
use Rattle.words.specs.Keys.{key_of}
use Rattle.words.specs.Words.{IsName}
use Rattle.words.specs.KeyLaws.{name-key}
use Rattle.names.specs.Keys.{same_key, place_of, is_among}
use Rattle.names.specs.KeyLaws.{same_true, same_refl}
use Rattle.text.specs.declared.Kind.TheVariants as K
use Rattle.text.specs.Line.{Words, GoodLine}
use Rattle.text.specs.Line.Line.{line}
use Rattle.session.specs.Replaying.{did_of}
use Rattle.session.specs.Replies.{Reply}
use Rattle.text_replays.specs.Claims.{reached, did_in, has_action, has_variant, NamesPass, ActionLines, Declarations, none, action, variant, other}
use Rattle.text_replays.specs.Inner.{DeclaredBy, NoPlace}
use Rattle.text_replays.specs.Claims.{DeclarationsOf, PlaceOf, action_names, variant_names_at, NamesDid}
use Rattle.text_replays.proofs.DeclaredLaws.{text-declared}

-- ===== The place of a name =====

-- names as keys: no two have one key
found : (n : List ℕ) → IsName n → (ns : List (List ℕ)) → Every IsName ns → place_of (key_of n) (map key_of ns) < length ns → PlaceOf n ns (place_of (key_of n) (map key_of ns))
unfolding place_of
found n h [] a l = absurd (omega arith)
found n h (x ∷ ns) a l = go (same_key (key_of x) (key_of n)) refl l (found n h ns a.1)
  where
    go : (b : Bool) → same_key (key_of x) (key_of n) ≡ b → cond b 0 (suc (place_of (key_of n) (map key_of ns))) < suc (length ns)
        → (place_of (key_of n) (map key_of ns) < length ns → PlaceOf n ns (place_of (key_of n) (map key_of ns)))
        → PlaceOf n (x ∷ ns) (cond b 0 (suc (place_of (key_of n) (map key_of ns))))
    go true e k ih = record { place = omega arith; name = name-key x n a.0 h (same_true (key_of x) (key_of n) e); first = λ j z. absurd (omega arith) }
    go false e k ih = let p = ih (omega arith) in record { place = omega (arith, p.place); name = p.name; first = before p.first }
      where
        before : ((j : ℕ) → j < place_of (key_of n) (map key_of ns) → get_or ns j [] ≡ n → ⊥) → (j : ℕ) → j < suc (place_of (key_of n) (map key_of ns)) → get_or (x ∷ ns) j [] ≡ n → ⊥
        before f zero z q = clash (ap (λ (i : List ℕ). same_key (key_of i) (key_of n)) q ∙ same_refl (key_of n)) e
        before f (suc j) z q = f j (omega arith) q

-- a name that is there has a place
there : (n : List ℕ) (ns : List (List ℕ)) (i : ℕ) → i < length ns → get_or ns i [] ≡ n → place_of (key_of n) (map key_of ns) < length ns
unfolding place_of
there n [] i l e = absurd (omega arith)
there n (x ∷ ns) zero l e = rw (ap (λ (z : List ℕ). same_key (key_of z) (key_of n)) e ∙ same_refl (key_of n)) (omega arith)
there n (x ∷ ns) (suc i) l e = go (same_key (key_of x) (key_of n)) (there n ns i (omega arith) e)
  where
    go : (b : Bool) → place_of (key_of n) (map key_of ns) < length ns → cond b 0 (suc (place_of (key_of n) (map key_of ns))) < suc (length ns)
    go true h = omega arith
    go false h = omega arith

module _ (n : List ℕ) (h : IsName n) (ns : List (List ℕ)) where
  among-place : Every IsName ns → is_among (key_of n) (map key_of ns) ≡ true → PlaceOf n ns (place_of (key_of n) (map key_of ns))
  unfolding is_among
  among-place a e = found n h ns a (omega (arith, ltb-true (place_of (key_of n) (map key_of ns)) (length (map key_of ns)) e, length-map ns key_of))

  none-place : is_among (key_of n) (map key_of ns) ≡ false → NoPlace n ns
  unfolding is_among
  none-place e i l q = clash (lt-ltb (place_of (key_of n) (map key_of ns)) (length (map key_of ns)) (omega (arith, there n ns i l q, length-map ns key_of))) e

-- what lines declare are names
record Names (vs : List (List ℕ)) (xs : List ActionLines) : Type 0 where
  before : Every IsName vs
  actions : Every IsName (action_names xs)
  variants : (a : ℕ) → Every IsName (variant_names_at xs a)

declared-names : {ls : List (List ℕ)} {ys : List Reply} {vs : List (List ℕ)} {xs : List ActionLines} → Declarations ls ys vs xs → Names vs xs
declared-names none = record { before = tt; actions = tt; variants = λ a. tt }
declared-names (action {vs = vs} {xs = xs} w g e f r) = let n = declared-names r in record { before = tt; actions = (g.0.0, n.actions); variants = at n }
  where
    at : Names vs xs → (a : ℕ) → Every IsName (variant_names_at (record { action = w; variants = vs } ∷ xs) a)
    at n zero = n.before
    at n (suc a) = n.variants a
declared-names (variant w g e f r) = let n = declared-names r in record { before = (g.0.0, n.before); actions = n.actions; variants = n.variants }
declared-names (other a b r) = declared-names r

map_both : (xs : List ActionLines) → map (λ (x : ActionLines). key_of x.action.0) xs ≡ map key_of (action_names xs)
map_both [] = refl
map_both (x ∷ xs) = ap (λ (l : List Key). key_of x.action.0 ∷ l) (map_both xs)

-- ===== The names of a line =====

module _ (ls : List (List ℕ)) (xs : List ActionLines) (d : DeclarationsOf ls xs) (w : Words K.Did) (good : GoodLine (line K.Did w)) where
  abbrev place : ℕ
  place = (did_in (reached ls) w).action

  by : DeclaredBy ls xs
  by = text-declared ls xs d

  keys-are : (reached ls).names.actions ≡ map key_of (action_names xs)
  keys-are = by.actions ∙ map_both xs

  -- where names and counts pass, the action and the variant are those that the text declares under these names
  pub text-did-names : NamesPass (reached ls) w → NamesDid ls xs w
  unfolding did_of
  text-did-names n =
      let k = declared-names d in
      let names = variant_names_at xs place in
      record {
        action = subst (λ (ks : List Key). PlaceOf w.0 (action_names xs) (place_of (key_of w.0) ks)) (sym keys-are)
            (among-place w.0 good.0.0 (action_names xs) k.actions (subst (λ (ks : List Key). is_among (key_of w.0) ks ≡ true) keys-are n.action));
        variant = subst (λ (ks : List Key). PlaceOf w.1 names (place_of (key_of w.1) ks)) (sym (by.variants place))
            (among-place w.1 good.0.1 names (k.variants place)
            (subst (λ (ks : List Key). is_among (key_of w.1) ks ≡ true) (by.variants place) n.variant));
        objects = n.count ∙ by.parameters place;
      }

  -- and a name that does not pass is not there
  pub unknown-action : has_action (reached ls) w ≡ false → NoPlace w.0 (action_names xs)
  unknown-action e = none-place w.0 good.0.0 (action_names xs) (subst (λ (ks : List Key). is_among (key_of w.0) ks ≡ false) keys-are e)

  pub unknown-variant : has_variant (reached ls) w ≡ false → NoPlace w.1 (variant_names_at xs place)
  unknown-variant e =
      none-place w.1 good.0.1 (variant_names_at xs place) (subst (λ (ks : List Key). is_among (key_of w.1) ks ≡ false) (by.variants place) e)
