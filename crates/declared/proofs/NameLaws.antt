-- Keys of names: one more, and the names that they stand for.
use Rattle.std.specs.Prelude.{◌≡◌, refl, Bool, true, false, cond, List, [], ◌∷◌, ◌++◌, map, ℕ, zero, suc, ◌<◌, length, get_or}
use Rattle.std.proofs.Common.{sym, ap, subst, ◌∙◌, arith, length-append, lt-ltb}
use Rattle.std.proofs.lemmas.List.{length-map, get_or_at}
use Rattle.std.proofs.Math.ListN.{get_or-append}
use Rattle.basics.specs.Tests.{Cmp, below, equal, above, cmp}
use Rattle.basics.specs.Members.{clash}
use Rattle.words.specs.Words.{IsName}
use Rattle.words.specs.Keys.{key_of, name_of}
use Rattle.words.specs.KeyLaws.{name-of}
use Rattle.words.specs.declared.Key.{Key}
use Rattle.names.specs.Keys.{same_key, place_of, is_among}
use Rattle.names.specs.KeyLaws.{same_refl}
use Rattle.events.specs.Contents.{no_key}
use Rattle.session.specs.Session.{Names}
use Rattle.diagram_form.specs.Form.{tables_of}
use Rattle.round_trip.specs.RoundTrip.{Different, AreNames, Declared}
use Rattle.round_trip.specs.KeyNames.{KeysOf}
use Rattle.declared.specs.Inner.{NameKey, NameKeys}

pub name-is-key : (n : List ℕ) → IsName n → NameKey (key_of n)
name-is-key n h = record { named = subst IsName (sym (name-of n h)) h; key = ap key_of (name-of n h) }

-- ===== One key more =====

pub no_keys : NameKeys []
no_keys = record { each = λ i h. absurd (omega arith); differ = λ i j h k e. absurd (omega arith) }

member-place : (ks : List Key) (k : Key) (j : ℕ) → j < length ks → get_or ks j no_key ≡ k → place_of k ks < length ks
unfolding place_of
member-place [] k j h e = absurd (omega arith)
member-place (x ∷ xs) k zero h e = rw (e, same_refl k) (omega arith)
member-place (x ∷ xs) k (suc j) h e = go (same_key x k) (member-place xs k j (omega arith) e)
  where
    go : (b : Bool) → place_of k xs < length xs → cond b 0 (suc (place_of k xs)) < suc (length xs)
    go true ih = omega arith
    go false ih = omega arith

-- a key that is not among the keys is none of them
not-member : (ks : List Key) (k : Key) → is_among k ks ≡ false → (j : ℕ) → j < length ks → get_or ks j no_key ≡ k → ⊥
unfolding is_among
not-member ks k e j h q = clash (lt-ltb (place_of k ks) (length ks) (member-place ks k j h q)) e

module _ (ks : List Key) (k : Key) where
  old : (i : ℕ) → i < length ks → get_or (ks ++ (k ∷ [])) i no_key ≡ get_or ks i no_key
  old i h = get_or-append ks (k ∷ []) no_key i h

  new : (i : ℕ) → i ≡ length ks → get_or (ks ++ (k ∷ [])) i no_key ≡ k
  new i e = get_or_at ks k [] no_key i (sym e)

  pub keys-more : NameKeys ks → NameKey k → is_among k ks ≡ false → NameKeys (ks ++ (k ∷ []))
  keys-more g n a = record { each = λ i h. each i h (cmp i (length ks)); differ = λ i j h l e. differ i j h l e (cmp i (length ks)) (cmp j (length ks)) }
    where
      count : length (ks ++ (k ∷ [])) ≡ suc (length ks)
      count = omega (arith, length-append ks (k ∷ []))

      each : (i : ℕ) → i < length (ks ++ (k ∷ [])) → Cmp i (length ks) → NameKey (get_or (ks ++ (k ∷ [])) i no_key)
      each i h (below q) = subst NameKey (sym (old i q)) (g.each i q)
      each i h (equal q) = subst NameKey (sym (new i q)) n
      each i h (above q) = absurd (omega (arith, count))

      differ : (i j : ℕ) → i < length (ks ++ (k ∷ [])) → j < length (ks ++ (k ∷ [])) → get_or (ks ++ (k ∷ [])) i no_key ≡ get_or (ks ++ (k ∷ [])) j no_key
          → Cmp i (length ks) → Cmp j (length ks) → i ≡ j
      differ i j h l e (below q) (below r) = g.differ i j q r (sym (old i q) ∙ e ∙ old j r)
      differ i j h l e (below q) (equal r) = absurd (not-member ks k a i q (sym (old i q) ∙ e ∙ new j r))
      differ i j h l e (equal q) (below r) = absurd (not-member ks k a j r (sym (old j r) ∙ sym e ∙ new i q))
      differ i j h l e (equal q) (equal r) = omega arith
      differ i j h l e (above q) r = absurd (omega (arith, count))
      differ i j h l e (below q) (above r) = absurd (omega (arith, count))
      differ i j h l e (equal q) (above r) = absurd (omega (arith, count))

-- ===== The names that keys stand for =====

name-at : (ks : List Key) (i : ℕ) → i < length ks → get_or (map name_of ks) i [] ≡ name_of (get_or ks i no_key)
name-at [] i h = absurd (omega arith)
name-at (k ∷ ks) zero h = refl
name-at (k ∷ ks) (suc i) h = name-at ks i (omega arith)

keys-back : (ks : List Key) → ((i : ℕ) → i < length ks → NameKey (get_or ks i no_key)) → ks ≡ map key_of (map name_of ks)
keys-back [] g = refl
keys-back (k ∷ ks) g = λ i. sym (g 0 (omega arith)).key i ∷ keys-back ks (λ j h. g (suc j) (omega arith)) i

module _ (ks : List Key) (g : NameKeys ks) where
  names-are : AreNames (map name_of ks)
  names-are i h = let l = length-map ks name_of in subst IsName (sym (name-at ks i (omega arith))) (g.each i (omega arith)).named

  names-differ : Different (map name_of ks)
  names-differ i j h k e =
      let l = length-map ks name_of in
      let p : i < length ks = omega arith in
      let q : j < length ks = omega arith in
      let z : name_of (get_or ks i no_key) ≡ name_of (get_or ks j no_key) = sym (name-at ks i p) ∙ e ∙ name-at ks j q in
      g.differ i j p q (sym (g.each i p).key ∙ ap key_of z ∙ (g.each j q).key)

module _ (s : Names) (cs : NameKeys s.constants) (ps : NameKeys s.predicates) where
  pub keys_of : KeysOf (tables_of s.constants s.predicates) s
  unfolding tables_of
  keys_of = record { constants = keys-back s.constants cs.each; predicates = keys-back s.predicates ps.each }

  pub tables-declared : Declared (tables_of s.constants s.predicates)
  unfolding tables_of
  tables-declared = record {
    constants-named = names-are s.constants cs;
    predicates-named = names-are s.predicates ps;
    constants-differ = names-differ s.constants cs;
    predicates-differ = names-differ s.predicates ps;
  }
