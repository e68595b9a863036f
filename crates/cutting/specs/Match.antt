-- The search for a replacement of a path's variables: it tries each literal in turn and goes back when one has no match (document 01, section 'Cut').
use Rattle.std.specs.Prelude.{Bool, true, false, ◌&&◌, ◌||◌, cond, List, [], ◌∷◌, ◌++◌, ℕ, zero, suc, eqb}
use Rattle.std.specs.Bool.{beq}
use Rattle.std.proofs.Math.Option.{Option, some, none}
use Rattle.label.specs.Terms.{is_variable}
use Rattle.label.specs.Labels.{predicate_of, unpacked, terms_of}
use Rattle.paths.specs.Paths.{Literal}

-- a replacement as far as it is known: what a term becomes
abbrev pub Partial : Type 0
Partial = ℕ → Option ℕ

-- at the start: only variables are replaced, all else stays
unfoldable pub start : Partial
start t = cond (is_variable t) none (some t)

-- τ, and t becomes u
unfoldable pub assign : Partial → ℕ → ℕ → Partial
assign τ t u v = cond (eqb v t) (some u) (τ v)

abbrev pub agree : Partial → ℕ → ℕ → Option ℕ → Option Partial
agree τ t u none = some (assign τ t u)
agree τ t u (some w) = cond (eqb w u) (some τ) none

-- t is to become u
unfoldable pub bind_term : Partial → ℕ → ℕ → Option Partial
bind_term τ t u = agree τ t u (τ t)

abbrev pub then_bind : Option Partial → (Partial → Option Partial) → Option Partial
then_bind none f = none
then_bind (some τ) f = f τ

-- the terms ts are to become us
unfoldable pub bind_terms : Partial → List ℕ → List ℕ → Option Partial
unfolding bind_term assign
bind_terms τ [] [] = some τ
bind_terms τ [] (u ∷ us) = none
bind_terms τ (t ∷ ts) [] = none
bind_terms τ (t ∷ ts) (u ∷ us) = then_bind (bind_term τ t u) (λ τ'. bind_terms τ' ts us)

-- the same two terms the other way round
abbrev pub turned : List ℕ → List ℕ
turned [] = []
turned (a ∷ []) = a ∷ []
turned (a ∷ b ∷ r) = b ∷ a ∷ r

-- what terms become so that their label is that of predicate p and terms us: an equality may come either way round
abbrev pub ways : ℕ → List ℕ → List (List ℕ)
ways zero us = us ∷ turned us ∷ []
ways (suc p) us = us ∷ []

-- what the terms of a literal of predicate p and sign b become so that it is the literal m
unfoldable pub ways_to : List ℕ → ℕ → Bool → Literal → List (List ℕ)
ways_to ar p b m = cond (eqb p (predicate_of m.label) && beq b m.sign) (ways p (terms_of ar (unpacked m.label))) []

-- .. so that it is one of the literals ls
unfoldable pub ways_among : List ℕ → ℕ → Bool → List Literal → List (List ℕ)
ways_among ar p b [] = []
ways_among ar p b (m ∷ ls) = ways_to ar p b m ++ ways_among ar p b ls

abbrev pub twice : List ℕ → List (List ℕ)
twice [] = []
twice (t ∷ ts) = (t ∷ t ∷ []) ∷ twice ts

-- .. so that it is t = t true, for a term t of T
abbrev pub plain_ways : ℕ → Bool → List ℕ → List (List ℕ)
plain_ways zero true T = twice T
plain_ways zero false T = []
plain_ways (suc p) b T = []

unfoldable pub targets : List ℕ → List Literal → List ℕ → Literal → List (List ℕ)
unfolding ways_to ways_among
targets ar ls T l =
    ways_among ar (predicate_of l.label) l.sign ls ++ plain_ways (predicate_of l.label) l.sign T

abbrev pub some_of : List (List ℕ) → (List ℕ → Bool) → Bool
some_of [] f = false
some_of (us ∷ r) f = f us || some_of r f

abbrev pub go_on : Option Partial → (Partial → Bool) → Bool
go_on none f = false
go_on (some τ) f = f τ

-- whether a replacement beyond τ, by terms of T, takes each literal of qs to one of ls or to t = t true
unfoldable pub matches : List ℕ → List Literal → List ℕ → List Literal → Partial → Bool
unfolding targets bind_terms
matches ar ls T [] τ = true
matches ar ls T (l ∷ qs) τ =
    some_of (targets ar ls T l) (λ us. go_on (bind_terms τ (terms_of ar (unpacked l.label)) us) (λ τ'. matches ar ls T qs τ'))
