-- Document 02's example of L5 and its neighbours, by computation: constants a, b, c, d are the terms 0 to 3, p is predicate 1 of arity 1,
-- q predicate 2 of the highest arity.
use Rattle.std.specs.Prelude.{◌≡◌, refl, Bool, true, false, List, [], ◌∷◌, ℕ}
use Rattle.label.specs.Limits.{most_places, equality_arity}
use Rattle.label.specs.Labels.{atom_from, packed, unpacked, predicate_of, terms_of, equates, test_of}
use Rattle.label.specs.Renamings.{placed, mapped, moved}
use Rattle.label.specs.declared.Test.{Test}
use Rattle.label.specs.declared.Test.TheVariants.{Always, Is}
use Rattle.paths.specs.Paths.{Literal}
use Rattle.contradiction.specs.Contradiction.{contradicts}

arities : List ℕ
arities = equality_arity ∷ 1 ∷ most_places ∷ []

label_in : Test → ℕ
label_in Always = 0
label_in (Is l) = l.packed

-- t = u, p(t), and q(a, b, c, d, t, u)
equality : ℕ → ℕ → Bool → Literal
equality t u b = record { label = label_in (equates t u); sign = b }

fact : ℕ → Bool → Literal
fact t b = record { label = packed (atom_from 1 (t ∷ [])); sign = b }

relation : ℕ → ℕ → Bool → Literal
relation t u b = record { label = packed (atom_from 2 (0 ∷ 1 ∷ 2 ∷ 3 ∷ t ∷ u ∷ [])); sign = b }

-- a = b, b = c, a differs from c
joined-through : contradicts arities (equality 0 1 true ∷ equality 0 2 false ∷ equality 1 2 true ∷ []) ≡ true
unfolding contradicts moved mapped placed test_of equates packed unpacked predicate_of terms_of arities label_in equality
joined-through = refl

-- a = b, c = d, a differs from d
not-joined : contradicts arities (equality 0 1 true ∷ equality 0 3 false ∷ equality 2 3 true ∷ []) ≡ false
unfolding contradicts moved mapped placed test_of equates packed unpacked predicate_of terms_of arities label_in equality
not-joined = refl

-- a = b, b = c, p(a), not p(c)
places-joined : contradicts arities (equality 0 1 true ∷ equality 1 2 true ∷ fact 0 true ∷ fact 2 false ∷ []) ≡ true
unfolding contradicts moved mapped placed test_of equates packed unpacked predicate_of terms_of arities label_in equality fact
places-joined = refl

-- a = b, p(a), not p(c)
places-apart : contradicts arities (equality 0 1 true ∷ fact 0 true ∷ fact 2 false ∷ []) ≡ false
unfolding contradicts moved mapped placed test_of equates packed unpacked predicate_of terms_of arities label_in equality fact
places-apart = refl

-- a = b, b = c, q(a, b, c, d, a, b), not q(a, b, c, d, c, a)
last-places-joined : contradicts arities (equality 0 1 true ∷ equality 1 2 true ∷ relation 0 1 true ∷ relation 2 0 false ∷ []) ≡ true
unfolding contradicts moved mapped placed test_of equates packed unpacked predicate_of terms_of arities label_in equality relation
last-places-joined = refl

-- a = b, q(a, b, c, d, a, b), not q(a, b, c, d, b, c)
last-places-apart : contradicts arities (equality 0 1 true ∷ relation 0 1 true ∷ relation 1 2 false ∷ []) ≡ false
unfolding contradicts moved mapped placed test_of equates packed unpacked predicate_of terms_of arities label_in equality relation
last-places-apart = refl
