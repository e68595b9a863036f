-- The words of a diagram, read one after another, come to what its tree stands for.
use Rattle.std.specs.Prelude.{ℕ, suc, ◌+◌, ◌≡◌, refl, Bool, true, false, cond, List, [], ◌∷◌, ◌++◌, map, eqb, leb, length, get_or}
use Rattle.std.proofs.Common.{sym, subst, ◌∙◌, append_assoc, append-nil, arith, eq-eqb, ne_eqb}
use Rattle.std.proofs.Math.Path.{ap}
use Rattle.refusal.specs.declared.Refusal.TheVariants.{Name, Arity, Range}
use Rattle.refusal.specs.Outcome.{Outcome, ok, refused, and_then}
use Rattle.label.specs.Limits.{equality}
use Rattle.label.specs.Labels.{atom_from, test_of}
use Rattle.label.specs.declared.Test.{Test}
use Rattle.diagram.specs.Sizes.{highest_value}
use Rattle.words.specs.Bytes.{value_of}
use Rattle.words.specs.Keys.{key_of}
use Rattle.forms.specs.Tree as T
use Rattle.forms.specs.Tree.Mark.{plain, variable, parameter, minimum}
use Rattle.forms.specs.Tree.Term.{term}
use Rattle.forms.specs.Tree.Atom.{equal, holds}
use Rattle.forms.specs.Tree.Diagram.{number as numeral, branch as conditional}
use Rattle.names.specs.Keys.{place_of, is_among}
use Rattle.events.specs.declared.Event.{Event}
use Rattle.events.specs.declared.Event.TheVariants as E
use Rattle.events.specs.Events.{term_event, atom_events, diagram_events}
use Rattle.reading.specs.Operations.{Op}
use Rattle.reading.specs.Operations.Op.{leaf_op, ask, step}
use Rattle.reading.specs.Reading.{Environment, Met, Pass, more, asked, beginning, begun, filling, term_word, number_word}
use Rattle.reading.specs.Reading.{atom_word, word, State, with-pass, read_word, read_words, written, finished, begin, reading}
use Rattle.reading.specs.OutcomeLaws.{apart}
use Rattle.reading.specs.Inner.{writing, diagram_reading}
use Rattle.reading.specs.Tree.{Reading, Result, having, resolve_term, joined, resolve_terms, testing, resolve_atom, branching, resolve_diagram, ops_of}
use Rattle.reading.specs.Tree.Reading.{number}

abbrev at : Met → Pass → State
at vs p = record { met = vs; pass = p }

-- terms

-- a term's word, where a term is due
due-word : (vs : Met) (p : Pass) (j : Outcome ℕ) → (p.due ≡ 0 → ⊥)
    → with-pass vs (term_word p j) ≡ and_then (having vs j) (λ g. ok (at g.met (asked (filling p g.value))))
unfolding term_word
due-word vs p (ok t) f = rw (ne_eqb p.due 0 f)
due-word vs p (refused r) f = refl

term-word : (σ : Environment) (vs : Met) (p : Pass) (t : T.Term) → (p.due ≡ 0 → ⊥)
    → read_word σ (at vs p) (term_event t) ≡ and_then (resolve_term σ vs t) (λ g. ok (at g.met (asked (filling p g.value))))
unfolding word
term-word σ vs p (term plain n) f = due-word vs p _ f
term-word σ vs p (term variable n) f = due-word _ p _ f
term-word σ vs p (term parameter n) f = due-word vs p _ f
term-word σ vs p (term minimum n) f = due-word _ p _ f

-- the pass after the terms that are due
abbrev given : Pass → List ℕ → Pass
given p [] = asked p
given p (t ∷ ts) = given (filling p t) ts

asked-due : (p : Pass) → (p.due ≡ 0 → ⊥) → asked p ≡ p
unfolding asked
asked-due p f = rw (ne_eqb p.due 0 f)

terms-words : (σ : Environment) (ts : List T.Term) (es : List Event) (vs : Met) (p : Pass) → p.due ≡ length ts
    → read_words σ (map term_event ts ++ es) (at vs (asked p)) ≡ and_then (resolve_terms σ vs ts) (λ g. read_words σ es (at g.met (given p g.value)))
unfolding read_words
terms-words σ [] es vs p e = refl
terms-words σ (t ∷ ts) es vs p e =
    let f : p.due ≡ 0 → ⊥ = λ z. omega arith in
    ap (λ q. and_then (read_word σ (at vs q) (term_event t)) (read_words σ (map term_event ts ++ es))) (asked-due p f)
    ∙ ap (λ j. and_then j (read_words σ (map term_event ts ++ es))) (term-word σ vs p t f)
    ∙ go (resolve_term σ vs t) (λ g. terms-words σ ts es g.met (filling p g.value) (omega arith))
  where
    inner : (u : ℕ) (k : Outcome (Result (List ℕ)))
        → and_then k (λ h. read_words σ es (at h.met (given (filling p u) h.value)))
        ≡ and_then (and_then k (joined u)) (λ h. read_words σ es (at h.met (given p h.value)))
    inner u (ok h) = refl
    inner u (refused r) = refl

    go : (j : Outcome (Result ℕ))
        → ((g : Result ℕ) → read_words σ (map term_event ts ++ es) (at g.met (asked (filling p g.value)))
        ≡ and_then (resolve_terms σ g.met ts) (λ h. read_words σ es (at h.met (given (filling p g.value) h.value))))
        → and_then (and_then j (λ g. ok (at g.met (asked (filling p g.value))))) (read_words σ (map term_event ts ++ es))
        ≡ and_then (and_then j (λ g. and_then (resolve_terms σ g.met ts) (joined g.value))) (λ h. read_words σ es (at h.met (given p h.value)))
    go (ok g) ih = ih g ∙ inner g.value (resolve_terms σ g.met ts)
    go (refused r) ih = refl

-- every resolved term has the property P, as long as the variables have the property Q, which they keep
pub record Resolving (σ : Environment) (P : ℕ → Type 0) (Q : Met → Type 0) : Type 0 where
  pub each : (vs : Met) (t : T.Term) (g : Result ℕ) → Q vs → resolve_term σ vs t ≡ ok g → P g.value × Q g.met

-- a resolved list of n terms
pub record Terms (n : ℕ) (P : ℕ → Type 0) (Q : Met → Type 0) (g : Result (List ℕ)) : Type 0 where
  pub count : length g.value ≡ n
  pub all : T.All P g.value
  pub met-still : Q g.met

module _ (σ : Environment) (P : ℕ → Type 0) (Q : Met → Type 0) (w : Resolving σ P Q) where
  pub terms-resolved : (ts : List T.Term) (vs : Met) (g : Result (List ℕ)) → Q vs → resolve_terms σ vs ts ≡ ok g → Terms (length ts) P Q g
  terms-resolved [] vs g q e =
      let z : ◌≡◌ {A = Result (List ℕ)} (record { value = []; met = vs }) g = cc in
      subst (Terms 0 P Q) z (record { count = refl; all = tt; met-still = q })
  terms-resolved (t ∷ ts) vs g q e = go (resolve_term σ vs t) (λ h. w.each vs t h q) (λ h. terms-resolved ts h.met) e
    where
      inner : (u : ℕ) → P u → (k : Outcome (Result (List ℕ))) → ((h : Result (List ℕ)) → k ≡ ok h → Terms (length ts) P Q h)
          → and_then k (joined u) ≡ ok g → Terms (suc (length ts)) P Q g
      inner u p (ok h) ih e =
          let z : ◌≡◌ {A = Result (List ℕ)} (record { value = u ∷ h.value; met = h.met }) g = cc in
          let i = ih h refl in
          subst (Terms (suc (length ts)) P Q) z (record { count = ap suc i.count; all = (p, i.all); met-still = i.met-still })
      inner u p (refused r) ih e = absurd (apart e)

      go : (j : Outcome (Result ℕ)) → ((h : Result ℕ) → j ≡ ok h → P h.value × Q h.met)
          → ((h : Result ℕ) (k : Result (List ℕ)) → Q h.met → resolve_terms σ h.met ts ≡ ok k → Terms (length ts) P Q k)
          → and_then j (λ h. and_then (resolve_terms σ h.met ts) (joined h.value)) ≡ ok g → Terms (suc (length ts)) P Q g
      go (ok h) p ih e = inner h.value (p h refl).0 (resolve_terms σ h.met ts) (λ k. ih h k (p h refl).1) e
      go (refused r) p ih e = absurd (apart e)

-- so a resolved list has a number for each term
count-resolved : (σ : Environment) (ts : List T.Term) (vs : Met) (g : Result (List ℕ)) → resolve_terms σ vs ts ≡ ok g → length g.value ≡ length ts
count-resolved σ ts vs g e =
    (terms-resolved σ (λ u. Unit {0}) (λ us. Unit {0}) (record { each = λ us t k q z. (tt, tt) }) ts vs g tt e).count

-- the atom's terms one after another, and its test
given-operations : (us : List ℕ) (p : Pass) → p.due ≡ length us
    → (given p us).operations ≡ p.operations ++ (ask (test_of (atom_from p.predicate (p.terms ++ us))) ∷ [])
unfolding asked
given-operations [] p e = rw (eq-eqb p.due 0 e, append-nil p.terms)
given-operations (t ∷ us) p e =
    given-operations us (filling p t) (omega arith)
    ∙ ap (λ ts. p.operations ++ (ask (test_of (atom_from p.predicate ts)) ∷ [])) (append_assoc p.terms (t ∷ []) us)

-- what follows a part of a line

-- the words X go on with es: by the answer j for the part, whose operations o join those before
abbrev Follows : {A : Type 0} → Environment → Outcome State → List Event → List Op → (A → List Op) → Outcome (Result A) → Type 0
Follows σ X es before o (ok g) = (p : Pass) × (p.operations ≡ before ++ o g.value) × (X ≡ read_words σ es (at g.met p))
Follows σ X es before o (refused r) = X ≡ refused r

follows_on : {A : Type 0} (σ : Environment) {X Y : Outcome State} (es : List Event) {b c : List Op} (o : A → List Op) (j : Outcome (Result A)) → X ≡ Y → b ≡ c
    → Follows σ Y es b o j → Follows σ X es c o j
follows_on σ es o (ok g) e q f = (f.0, f.1 ∙ ap (λ l. l ++ o g.value) q, e ∙ f.2)
follows_on σ es o (refused r) e q f = e ∙ f

abbrev question : Test → List Op
question t = ask t ∷ []

terms-follow : (σ : Environment) (q : ℕ) (ts : List T.Term) (es : List Event) (vs : Met) (p : Pass)
    → Follows σ (read_words σ (map term_event ts ++ es) (at vs (begun p q (length ts)))) es p.operations question (and_then (resolve_terms σ vs ts) (testing q))
unfolding begun
terms-follow σ q ts es vs p =
    follows_on σ es question (and_then (resolve_terms σ vs ts) (testing q)) (terms-words σ ts es vs (beginning p q (length ts)) refl) refl
    (go (resolve_terms σ vs ts) (count-resolved σ ts vs))
  where
    go : (j : Outcome (Result (List ℕ))) → ((g : Result (List ℕ)) → j ≡ ok g → length g.value ≡ length ts)
        → Follows σ (and_then j (λ g. read_words σ es (at g.met (given (beginning p q (length ts)) g.value)))) es p.operations question (and_then j (testing q))
    go (ok g) l =
        (given (beginning p q (length ts)) g.value, given-operations g.value (beginning p q (length ts)) (sym (l g refl)), refl)
    go (refused r) l = refl

-- an atom by its name's checks
atom-checked : (σ : Environment) (q : ℕ) (ts : List T.Term) (es : List Event) (vs : Met) (p : Pass) (b c : Bool)
    → Follows σ (and_then (with-pass vs (cond b (cond c (ok (begun p q (length ts))) (refused Arity)) (refused Name))) (read_words σ (map term_event ts ++ es)))
    es p.operations question (cond b (cond c (and_then (resolve_terms σ vs ts) (testing q)) (refused Arity)) (refused Name))
atom-checked σ q ts es vs p true true = terms-follow σ q ts es vs p
atom-checked σ q ts es vs p true false = refl
atom-checked σ q ts es vs p false c = refl

atom-follows : (σ : Environment) (a : T.Atom) (es : List Event) (vs : Met) (p : Pass)
    → Follows σ (read_words σ (atom_events a ++ es) (at vs p)) es p.operations question (resolve_atom σ vs a)
unfolding read_words word atom_word
atom-follows σ (equal a b) es vs p = terms-follow σ equality (a ∷ b ∷ []) es vs p
atom-follows σ (holds q ts) es vs p =
    let n : ℕ = place_of (key_of q) σ.predicates + 1 in
    atom-checked σ n ts es vs p (is_among (key_of q) σ.predicates) (eqb (length ts) (get_or σ.arities n 0))

-- diagrams

number-follows : (σ : Environment) (v : ℕ) (es : List Event) (vs : Met) (p : Pass) (b : Bool)
    → Follows σ (and_then (with-pass vs (cond b (ok (more p (leaf_op v))) (refused Range))) (read_words σ es)) es p.operations ops_of
    (cond b (ok (record { value = number v; met = vs })) (refused Range))
number-follows σ v es vs p true = (more p (leaf_op v), refl, refl)
number-follows σ v es vs p false = refl

step-joins : (before h f : List Op) (t : Test) → (((before ++ (ask t ∷ [])) ++ h) ++ f) ++ (step ∷ []) ≡ before ++ (ask t ∷ (h ++ (f ++ (step ∷ []))))
step-joins before h f t = simp append_assoc

events-join : (a d e es : List Event) → (a ++ (d ++ (e ++ E.Step ∷ []))) ++ es ≡ a ++ (d ++ (e ++ E.Step ∷ es))
events-join a d e es = simp append_assoc

module _ (σ : Environment) (es : List Event) (t : Test) (before : List Op) where
  -- the false part is read: the step
  false-follows : (X : Outcome State) (h : Reading) (k : Outcome (Result Reading)) → Follows σ X (E.Step ∷ es) ((before ++ (ask t ∷ [])) ++ ops_of h) ops_of k
      → Follows σ X es before ops_of (and_then k (branching t h))
  unfolding read_words word
  false-follows X h (ok g) f =
      (more f.0 step, ap (λ l. l ++ (step ∷ [])) f.1 ∙ step-joins before (ops_of h) (ops_of g.value) t, f.2)
  false-follows X h (refused r) f = f

  -- the true part is read: the false part
  true-follows : (X : Outcome State) (fs : List Event) (e : Met → Outcome (Result Reading)) (j : Outcome (Result Reading))
      → Follows σ X (fs ++ E.Step ∷ es) (before ++ (ask t ∷ [])) ops_of j
      → ((h : Result Reading) (q : Pass) → Follows σ (read_words σ (fs ++ E.Step ∷ es) (at h.met q)) (E.Step ∷ es) q.operations ops_of (e h.met))
      → Follows σ X es before ops_of (and_then j (λ h. and_then (e h.met) (branching t h.value)))
  true-follows X fs e (ok h) f ih =
      false-follows X h.value (e h.met) (follows_on σ (E.Step ∷ es) ops_of (e h.met) f.2 f.1 (ih h f.0))
  true-follows X fs e (refused r) f ih = f

-- the atom is read: the true part
test-follows : (σ : Environment) (es fs gs : List Event) (before : List Op) (X : Outcome State) (d e : Met → Outcome (Result Reading)) (j : Outcome (Result Test))
    → Follows σ X (fs ++ (gs ++ E.Step ∷ es)) before question j
    → ((g : Result Test) (q : Pass) → Follows σ (read_words σ (fs ++ (gs ++ E.Step ∷ es)) (at g.met q)) (gs ++ E.Step ∷ es) q.operations ops_of (d g.met))
    → ((h : Result Reading) (q : Pass) → Follows σ (read_words σ (gs ++ E.Step ∷ es) (at h.met q)) (E.Step ∷ es) q.operations ops_of (e h.met))
    → Follows σ X es before ops_of (and_then j (λ g. and_then (d g.met) (λ h. and_then (e h.met) (branching g.value h.value))))
test-follows σ es fs gs before X d e (ok g) f ihd ihe =
    true-follows σ es g.value before X gs e (d g.met) (follows_on σ (gs ++ E.Step ∷ es) ops_of (d g.met) f.2 f.1 (ihd g f.0)) ihe
test-follows σ es fs gs before X d e (refused r) f ihd ihe = f

diagram-follows : (σ : Environment) (d : T.Diagram) (es : List Event) (vs : Met) (p : Pass)
    → Follows σ (read_words σ (diagram_events d ++ es) (at vs p)) es p.operations ops_of (resolve_diagram σ vs d)
unfolding read_words word number_word
diagram-follows σ (numeral n) es vs p = number-follows σ (value_of n) es vs p (leb (value_of n) highest_value)
diagram-follows σ (conditional a d e) es vs p =
    let fs : List Event = diagram_events d in
    let gs : List Event = diagram_events e in
    follows_on σ es ops_of (resolve_diagram σ vs (conditional a d e)) (ap (λ l. read_words σ l (at vs p)) (events-join (atom_events a) fs gs es)) refl
    (test-follows σ es fs gs p.operations (read_words σ (atom_events a ++ (fs ++ (gs ++ E.Step ∷ es))) (at vs p)) (λ us. resolve_diagram σ us d) (λ us. resolve_diagram σ us e)
    (resolve_atom σ vs a) (atom-follows σ a (fs ++ (gs ++ E.Step ∷ es)) vs p)
    (λ g q. diagram-follows σ d (gs ++ E.Step ∷ es) g.met q)
    (λ h q. diagram-follows σ e (E.Step ∷ es) h.met q))

-- the words of a diagram come to what its tree stands for
pub reading-diagram : (σ : Environment) (d : T.Diagram) (vs : Met) → reading σ (diagram_events d) vs ≡ diagram_reading σ d vs
unfolding reading diagram_reading read_words
reading-diagram σ d vs =
    ap (λ l. and_then (read_words σ l (begin vs)) finished) (sym (append-nil (diagram_events d)))
    ∙ go (resolve_diagram σ vs d) (diagram-follows σ d [] vs (begin vs).pass)
  where
    X : Outcome State
    X = read_words σ (diagram_events d ++ []) (begin vs)

    go : (j : Outcome (Result Reading)) → Follows σ X [] [] ops_of j → and_then X finished ≡ and_then j writing
    go (ok g) f =
        ap (λ y. and_then y finished) f.2
        ∙ ap (written g.met) f.1
    go (refused r) f = ap (λ y. and_then y finished) f
