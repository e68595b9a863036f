-- The words of an accepted (becomes (p ?a ..) DIAGRAM): its head comes to what its tree stands for, and behind it are the words of its diagram.
use Rattle.std.specs.Prelude.{ℕ, ◌≡◌, refl, Bool, true, false, cond, List, [], ◌∷◌, ◌++◌, map, eqb, length, drop}
use Rattle.std.proofs.Common.{sym, ap, ◌∙◌, eqb-true}
use Rattle.refusal.specs.declared.Refusal.TheVariants.{Name, Arity}
use Rattle.refusal.specs.Outcome.{Outcome, ok, refused, and_then}
use Rattle.words.specs.Keys.{key_of}
use Rattle.words.specs.declared.Key.{Key}
use Rattle.text.specs.declared.Kind.TheVariants.{Becomes}
use Rattle.text.specs.Line.{Words, GoodWords, line_bytes}
use Rattle.text.specs.Line.Line.{line}
use Rattle.names.specs.Keys.{is_among}
use Rattle.events.specs.declared.Event.{Event}
use Rattle.events.specs.declared.Event.TheVariants as E
use Rattle.events.specs.Events.{first_word, variable_event, diagram_events}
use Rattle.events.specs.Front.{events_of}
use Rattle.events.specs.LineEvents.{line-events}
use Rattle.reading.specs.Head.{Head, arguments_from, head_arguments, argument_keys, head_keys}

abbrev headed : List Event → List Key → Outcome Head
headed es ks = ok (record { variables = ks; rest = es })

keys_from : (vs : List (List ℕ)) (ks : List Key) (es : List Event)
    → arguments_from (length vs) ks (map variable_event vs ++ es) ≡ and_then (argument_keys ks vs) (headed es)
unfolding arguments_from
keys_from [] ks es = refl
keys_from (v ∷ vs) ks es = go (is_among (key_of v) ks) (keys_from vs (ks ++ (key_of v ∷ [])) es)
  where
    go : (b : Bool) → arguments_from (length vs) (ks ++ (key_of v ∷ [])) (map variable_event vs ++ es) ≡ and_then (argument_keys (ks ++ (key_of v ∷ [])) vs) (headed es)
        → cond b (refused Name) (arguments_from (length vs) (ks ++ (key_of v ∷ [])) (map variable_event vs ++ es))
        ≡ and_then (cond b (refused Name) (argument_keys (ks ++ (key_of v ∷ [])) vs)) (headed es)
    go true ih = refl
    go false ih = ih

head-keys : (n : ℕ) (k : Key) (vs : List (List ℕ)) (es : List Event)
    → head_arguments n (E.Holds k (length vs) ∷ (map variable_event vs ++ es)) ≡ and_then (head_keys n vs) (headed es)
unfolding head_arguments
head-keys n k vs es = go (eqb (length vs) n) refl
  where
    go : (b : Bool) → eqb (length vs) n ≡ b
        → cond b (arguments_from n [] (map variable_event vs ++ es)) (refused Arity) ≡ and_then (cond b (argument_keys [] vs) (refused Arity)) (headed es)
    go true e =
        ap (λ m. arguments_from m [] (map variable_event vs ++ es)) (sym (eqb-true (length vs) n e)) ∙ keys_from vs [] es
    go false e = refl

pub becomes-arguments : (n : ℕ) (w : Words Becomes) → GoodWords Becomes w
    → head_arguments n (events_of (drop (first_word Becomes) (line_bytes (line Becomes w)))) ≡ and_then (head_keys n w.1) (headed (diagram_events w.2))
becomes-arguments n w g = ap (head_arguments n) (line-events Becomes w g) ∙ head-keys n (key_of w.0) w.1 (diagram_events w.2)
