-- The head of (becomes (p ?a ..) DIAGRAM).
use Rattle.std.specs.Prelude.{◌≡◌, refl, Bool, true, false, cond, List, [], ◌∷◌, ◌++◌, map, ℕ, zero, suc, ◌+◌, length, eqb}
use Rattle.std.proofs.Common.{subst, arith, length-append, eqb-true}
use Rattle.refusal.specs.declared.Refusal.TheVariants.{Name, Arity}
use Rattle.refusal.specs.Outcome.{ok, refused}
use Rattle.words.specs.Keys.{key_of}
use Rattle.words.specs.declared.Key.{Key}
use Rattle.names.specs.Keys.{is_among}
use Rattle.events.specs.declared.Event.{Event}
use Rattle.events.specs.declared.Event.TheVariants.{Holds}
use Rattle.events.specs.Events.{variable_event}
use Rattle.reading.specs.OutcomeLaws.{apart, ok-one, chosen}
use Rattle.reading.specs.Head.{Head, arguments_from, head_arguments}

-- as many arguments as the arity says, and behind them the diagram
pub record Headed (n : ℕ) (es : List Event) (h : Head) : Type 0 where
  pub count : length h.variables ≡ n
  pub rest : h.rest ≡ es

arguments-headed : (vs : List (List ℕ)) (n : ℕ) (ks : List Key) (es : List Event) (h : Head) → length vs ≡ n
    → arguments_from n ks (map variable_event vs ++ es) ≡ ok h → Headed (length ks + n) es h
unfolding arguments_from
arguments-headed [] zero ks es h l e = subst (Headed (length ks + 0) es) (ok-one e) (record { count = omega arith; rest = refl })
arguments-headed [] (suc n) ks es h l e = absurd (omega arith)
arguments-headed (v ∷ vs) zero ks es h l e = absurd (omega arith)
arguments-headed (v ∷ vs) (suc n) ks es h l e = go (is_among (key_of v) ks) (arguments-headed vs n (ks ++ (key_of v ∷ [])) es h (omega arith)) e
  where
    go : (b : Bool) → (arguments_from n (ks ++ (key_of v ∷ [])) (map variable_event vs ++ es) ≡ ok h → Headed (length (ks ++ (key_of v ∷ [])) + n) es h)
        → cond b (refused Name) (arguments_from n (ks ++ (key_of v ∷ [])) (map variable_event vs ++ es)) ≡ ok h → Headed (length ks + suc n) es h
    go true ih z = absurd (apart z)
    go false ih z = let x = ih z in record { count = omega (arith, x.count, length-append ks (key_of v ∷ [])); rest = x.rest }

pub head-headed : (n : ℕ) (k : Key) (vs : List (List ℕ)) (es : List Event) (h : Head) → head_arguments n (Holds k (length vs) ∷ (map variable_event vs ++ es)) ≡ ok h → Headed n es h
unfolding head_arguments
head-headed n k vs es h e =
    let c = chosen (eqb (length vs) n) _ Arity h e in
    let x = arguments-headed vs n [] es h (eqb-true (length vs) n c.0) c.1 in
    record { count = omega (arith, x.count); rest = x.rest }
