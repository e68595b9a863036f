-- The head of (becomes (p ?a ..) DIAGRAM), word by word, comes to what its tree says.
use Rattle.std.specs.Prelude.{◌≡◌, refl, Bool, true, false, not, ◌||◌, cond, List, [], ◌∷◌, ◌++◌, map, ℕ, eqb, length}
use Rattle.std.proofs.Common.{sym, ap, ◌∙◌, append-nil, append_assoc}
use Rattle.std.proofs.lemmas.List.{length-map}
use Rattle.refusal.specs.declared.Refusal.TheVariants.{Name, Arity}
use Rattle.refusal.specs.Outcome.{Outcome, ok, refused, and_then}
use Rattle.words.specs.Keys.{key_of}
use Rattle.words.specs.declared.Key.{Key}
use Rattle.names.specs.Keys.{is_among}
use Rattle.text.specs.declared.Kind.TheVariants.{Becomes}
use Rattle.text.specs.Line.{Words, GoodWords}
use Rattle.events.specs.declared.Event.{Event}
use Rattle.events.specs.Events.{diagram_events, words_events}
use Rattle.events.specs.LineEvents.{line-events}
use Rattle.reading.specs.Head.{Head, head_arguments, argument_keys}
use Rattle.reading.specs.LineLaws.{becomes-arguments}
use Rattle.session.specs.Session.{refuse_if}
use Rattle.session.specs.Declaring.{repeated}

-- the keys of the arguments, unless one is repeated
distinct-keys : (ks : List Key) (vs : List (List ℕ)) → argument_keys ks vs ≡ cond (repeated ks (map key_of vs)) (refused Name) (ok (ks ++ map key_of vs))
unfolding repeated
distinct-keys ks [] = ap ok (sym (append-nil ks))
distinct-keys ks (v ∷ vs) = go (is_among (key_of v) ks) (distinct-keys (ks ++ (key_of v ∷ [])) vs)
  where
    more : List Key
    more = ks ++ (key_of v ∷ [])

    go : (b : Bool) → argument_keys more vs ≡ cond (repeated more (map key_of vs)) (refused Name) (ok (more ++ map key_of vs))
        → cond b (refused Name) (argument_keys more vs) ≡ cond (b || repeated more (map key_of vs)) (refused Name) (ok (ks ++ (key_of v ∷ map key_of vs)))
    go true ih = refl
    go false ih = ih ∙ ap (λ (l : List Key). cond (repeated more (map key_of vs)) (refused Name) (ok l)) (append_assoc ks (key_of v ∷ []) (map key_of vs))

-- 3 for another count than n, 2 for a repeated argument, then what follows
pub head-tree : {A : Type 0} (n : ℕ) (w : Words Becomes) → GoodWords Becomes w → (f : List Event → List Key → Outcome A)
    → and_then (head_arguments n (words_events Becomes w)) (λ h. f h.rest h.variables)
    ≡ refuse_if (not (eqb (length (map key_of w.1)) n)) Arity (refuse_if (repeated [] (map key_of w.1)) Name (f (diagram_events w.2) (map key_of w.1)))
head-tree n w g f =
    ap (λ (j : Outcome Head). and_then j (λ h. f h.rest h.variables))
    (ap (head_arguments n) (sym (line-events Becomes w g))
    ∙ becomes-arguments n w g
    ∙ ap (λ (j : Outcome (List Key)). checked (eqb (length w.1) n) j) (distinct-keys [] w.1)
    ∙ ap (λ (m : ℕ). checked (eqb m n) distinct) (sym (length-map w.1 key_of)))
    ∙ go (eqb (length (map key_of w.1)) n) (repeated [] (map key_of w.1))
  where
    keys : List Key
    keys = map key_of w.1

    distinct : Outcome (List Key)
    distinct = cond (repeated [] keys) (refused Name) (ok keys)

    checked : Bool → Outcome (List Key) → Outcome Head
    checked b j = and_then (cond b j (refused Arity)) (λ ks. ok (record { variables = ks; rest = diagram_events w.2 }))

    go : (b c : Bool) → and_then (checked b (cond c (refused Name) (ok keys))) (λ h. f h.rest h.variables)
        ≡ refuse_if (not b) Arity (refuse_if c Name (f (diagram_events w.2) keys))
    go true true = refl
    go true false = refl
    go false c = refl
