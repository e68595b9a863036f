-- The words of a diagram, resolved one after another with the variables met so far, come to what its tree says with all variables of the line.
use Rattle.std.specs.Prelude.{◌≡◌, refl, Bool, true, false, not, cond, List, [], ◌∷◌, ◌++◌, ℕ, ◌+◌, ◌≤◌, leb, eqb, length, get_or}
use Rattle.std.proofs.Common.{sym, ap, ap₂, subst, ◌∙◌, append-nil, append_assoc, arith, add-one, ltb-true, leb-true}
use Rattle.basics.specs.Prefix.{Prefix}
use Rattle.basics.specs.Tests.{and_left, and_right}
use Rattle.refusal.specs.declared.Refusal.{Refusal}
use Rattle.refusal.specs.declared.Refusal.TheVariants.{Name, Arity, Range, Unbound}
use Rattle.refusal.specs.Outcome.{Outcome, ok, refused, and_then}
use Rattle.label.specs.Limits.{equality, first_variable, variable_count, first_minimum, minimum_count}
use Rattle.label.specs.Labels.{atom_from, test_of}
use Rattle.label.specs.declared.Test.{Test}
use Rattle.diagram.specs.Sizes.{highest_value}
use Rattle.words.specs.Bytes.{value_of}
use Rattle.words.specs.Keys.{key_of}
use Rattle.words.specs.declared.Key.{Key}
use Rattle.names.specs.Keys.{place_of, is_among}
use Rattle.forms.specs.Tree as T
use Rattle.forms.specs.Tree.Mark.{plain, variable, parameter, minimum}
use Rattle.forms.specs.Tree.Term.{term}
use Rattle.forms.specs.Tree.Atom.{equal, holds}
use Rattle.forms.specs.Tree.Diagram.{number as numeral, branch as conditional}
use Rattle.reading.specs.declared.Binding.{Binding}
use Rattle.reading.specs.declared.Binding.TheVariants.{Any, None, Only}
use Rattle.reading.specs.Reading.{Environment, constant_number, parameter_number, met, Met, arguments, number_in, variable_number, minimum_number, variable_met, minimum_met, is_within}
use Rattle.reading.specs.OutcomeLaws.{Match}
use Rattle.reading.specs.OccurrenceLaws.{kept, kept_met, met-kept}
use Rattle.reading.specs.Tree.{Reading, Result, having, resolve_term, joined, resolve_terms, testing, resolve_atom, branching, resolve_diagram}
use Rattle.reading.specs.Tree.Reading.{branch}
use Rattle.session.specs.Session.{Session, refuse_if}
use Rattle.session.specs.Facts.{predicate_of}
use Rattle.session.specs.ModelLines.{names_for}
use Rattle.line_trees.specs.TreeReading.{atom_terms, diagram_terms, with_one, variables_after, term_number, term_numbers, atom_test, diagram_words}
use Rattle.line_trees.proofs.VariableLaws.{extends, number-exact, within-kept, met-numbered}

-- ===== Two answers that agree =====

match-then : {A B C D : Type 0} (P : A → B → Type 0) (Q : C → D → Type 0) (o : Outcome A) (p : Outcome B) (f : A → Outcome C) (g : B → Outcome D)
    → Match P o p → ((a : A) (b : B) → P a b → Match Q (f a) (g b)) → Match Q (and_then o f) (and_then p g)
match-then P Q (ok a) (ok b) f g m n = n a b m
match-then P Q (ok a) (refused r) f g m n = absurd m
match-then P Q (refused r) (ok b) f g m n = absurd m
match-then P Q (refused r) (refused s) f g m n = m

match-mono : {A B : Type 0} (P Q : A → B → Type 0) (o : Outcome A) (p : Outcome B) → ((a : A) (b : B) → P a b → Q a b) → Match P o p → Match Q o p
match-mono P Q (ok a) (ok b) f m = f a b m
match-mono P Q (ok a) (refused r) f m = absurd m
match-mono P Q (refused r) (ok b) f m = absurd m
match-mono P Q (refused r) (refused s) f m = m

match-test : {A B : Type 0} (P : A → B → Type 0) (b : Bool) (o : Outcome A) (p : Outcome B) (r : Refusal) → Match P o p
    → Match P (cond b o (refused r)) (refuse_if (not b) r p)
match-test P true o p r m = m
match-test P false o p r m = refl

-- ===== Word by word =====

-- S ws ts: with the variables ws met so far, the terms ts are still to come
module _ (σ : Session) (b : Binding) (ps : List Key) (vs : Met) (S : Met → List T.Term → Type 0) where
  abbrev names : Environment
  names = names_for σ.names σ.model.arities b ps

  -- the same value, where the line's variables are within the limits
  abbrev Same : {A : Type 0} → List T.Term → Result A → A → Type 0
  Same ts g x = (is_within vs ≡ true → g.value ≡ x) × S g.met ts

  same_number : (ts : List T.Term) (ws : Met) → S ws ts → (c : Bool) (x y : ℕ) (r : Refusal) → (is_within vs ≡ true → c ≡ true → x ≡ y)
      → Match (Same ts) (having ws (cond c (ok x) (refused r))) (refuse_if (not c) r (ok y))
  same_number ts ws s true x y r e = (λ few. e few refl, s)
  same_number ts ws s false x y r e = refl

  plain-same : (n : List ℕ) (ts : List T.Term) (ws : Met) → S ws ts → Match (Same ts) (resolve_term names ws (term plain n)) (term_number σ ps vs (term plain n))
  unfolding constant_number
  plain-same n ts ws s = same_number ts ws s (is_among (key_of n) σ.names.constants) _ _ Name (λ few c. refl)

  parameter-same : (n : List ℕ) (ts : List T.Term) (ws : Met) → S ws ts → Match (Same ts) (resolve_term names ws (term parameter n)) (term_number σ ps vs (term parameter n))
  unfolding parameter_number
  parameter-same n ts ws s = same_number ts ws s (is_among (key_of n) ps) _ _ Unbound (λ few c. refl)

  -- each term stands for the same number; at the end as many variables were met
  record Tracks : Type 0 where
    each : (ws : Met) (t : T.Term) (ts : List T.Term) → S ws (t ∷ ts) → Match (Same ts) (resolve_term names ws t) (term_number σ ps vs t)
    counts : (ws : Met) → S ws [] → is_within ws ≡ is_within vs

  module _ (tracks : Tracks) where
    terms-match : (ts rest : List T.Term) (ws : Met) → S ws (ts ++ rest) → Match (Same rest) (resolve_terms names ws ts) (term_numbers σ ps vs ts)
    terms-match [] rest ws s = (λ few. refl, s)
    terms-match (t ∷ ts) rest ws s =
        match-then (Same (ts ++ rest)) (Same rest) (resolve_term names ws t) (term_number σ ps vs t) _ _ (tracks.each ws t (ts ++ rest) s) (λ g x p.
        match-then (Same rest) (Same rest) (resolve_terms names g.met ts) (term_numbers σ ps vs ts) (joined g.value) (λ xs. ok (x ∷ xs))
        (terms-match ts rest g.met p.1) (λ h xs q. (λ few i. p.0 few i ∷ q.0 few i, q.1)))

    test-match : (q : ℕ) (ts rest : List T.Term) (ws : Met) → S ws (ts ++ rest)
        → Match (Same rest) (and_then (resolve_terms names ws ts) (testing q)) (and_then (term_numbers σ ps vs ts) (λ us. ok (test_of (atom_from q us))))
    test-match q ts rest ws s =
        match-then (Same rest) (Same rest) (resolve_terms names ws ts) (term_numbers σ ps vs ts) (testing q) (λ us. ok (test_of (atom_from q us))) (terms-match ts rest ws s) (λ g us p.
        (λ few. ap (λ (ns : List ℕ). test_of (atom_from q ns)) (p.0 few), p.1))

    atom-match : (a : T.Atom) (rest : List T.Term) (ws : Met) → S ws (atom_terms a ++ rest) → Match (Same rest) (resolve_atom names ws a) (atom_test σ ps vs a)
    atom-match (equal a c) rest ws s = test-match equality (a ∷ c ∷ []) rest ws s
    atom-match (holds p ts) rest ws s = subst (λ (q : ℕ). Match (Same rest) (resolved q) (atom_test σ ps vs (holds p ts))) (sym (add-one (place_of (key_of p) σ.names.predicates))) by_name
      where
        resolved : ℕ → Outcome (Result Test)
        resolved q =
            cond (is_among (key_of p) σ.names.predicates)
            (cond (eqb (length ts) (get_or σ.model.arities q 0)) (and_then (resolve_terms names ws ts) (testing q)) (refused Arity))
            (refused Name)

        by_name : Match (Same rest) (resolved (predicate_of σ.names (key_of p))) (atom_test σ ps vs (holds p ts))
        by_name =
            let q : ℕ = predicate_of σ.names (key_of p) in
            match-test (Same rest) (is_among (key_of p) σ.names.predicates) _ _ Name
            (match-test (Same rest) (eqb (length ts) (get_or σ.model.arities q 0)) _ _ Arity (test-match q ts rest ws s))

    diagram-match : (d : T.Diagram) (rest : List T.Term) (ws : Met) → S ws (diagram_terms d ++ rest) → Match (Same rest) (resolve_diagram names ws d) (diagram_words σ ps vs d)
    diagram-match (numeral n) rest ws s = match-test (Same rest) (leb (value_of n) highest_value) _ _ Range (λ few. refl, s)
    diagram-match (conditional a d e) rest ws s =
        let behind : List T.Term = (diagram_terms d ++ diagram_terms e) ++ rest in
        let last : List T.Term = diagram_terms e ++ rest in
        match-then (Same behind) (Same rest) (resolve_atom names ws a) (atom_test σ ps vs a) _ _
        (atom-match a behind ws (subst (S ws) (append_assoc (atom_terms a) (diagram_terms d ++ diagram_terms e) rest) s)) (λ t u p.
        match-then (Same last) (Same rest) (resolve_diagram names t.met d) (diagram_words σ ps vs d) _ _
        (diagram-match d last t.met (subst (S t.met) (append_assoc (diagram_terms d) (diagram_terms e) rest) p.1)) (λ h x q.
        match-then (Same rest) (Same rest) (resolve_diagram names h.met e) (diagram_words σ ps vs e) (branching t.value h.value) (λ f. ok (branch u x f))
        (diagram-match e rest h.met q.1) (λ g y r.
        (λ few i. branch (p.0 few i) (q.0 few i) (r.0 few i), r.1))))

-- ===== Which variables a line may have =====

-- the same reading where the line's variables are within the limits, and their counts against them
abbrev pub Counted : Met → Result Reading → Reading → Type 0
Counted vs g r = (is_within vs ≡ true → g.value ≡ r) × (is_within g.met ≡ is_within vs)

-- the words of d, the variables ws known before them, come to what the tree says where it may name the parameters ps and the variables vs
abbrev pub Reads : Session → Binding → List Key → Met → Met → T.Diagram → Type 0
Reads σ b ps vs ws d = Match (Counted vs) (resolve_diagram (names_for σ.names σ.model.arities b ps) ws d) (diagram_words σ ps vs d)

module _ (σ : Session) (b : Binding) (ps : List Key) (vs : Met) (S : Met → List T.Term → Type 0) (tracks : Tracks σ b ps vs S) where
  tracked : (ws : Met) (d : T.Diagram) → S ws (diagram_terms d) → Reads σ b ps vs ws d
  tracked ws d s =
      match-mono (Same σ b ps vs S []) (Counted vs) (resolve_diagram (names σ b ps vs S) ws d) (diagram_words σ ps vs d) (λ g r p. (p.0, tracks.counts g.met p.1))
      (diagram-match σ b ps vs S tracks d [] ws (subst (S ws) (sym (append-nil (diagram_terms d))) s))

-- the variables stay
abbrev Stay : Met → Met → List T.Term → Type 0
Stay vs ws ts = ws ≡ vs

stay-counts : (vs ws : Met) → ws ≡ vs → is_within ws ≡ is_within vs
stay-counts vs ws e = ap (λ (m : Met). is_within m) e

-- each kind is within its limit
variables-within : (m : Met) → is_within m ≡ true → length m.variables ≤ variable_count
variables-within m e = leb-true (length m.variables) variable_count (and_left _ _ e)

minimums-within : (m : Met) → is_within m ≡ true → length m.minimums ≤ minimum_count
minimums-within m e = leb-true (length m.minimums) minimum_count (and_right (leb (length m.variables) variable_count) _ e)

-- a weight: no variable
pub reads_none : (σ : Session) (ps : List Key) (d : T.Diagram) → Reads σ None ps (arguments []) (arguments []) d
unfolding variable_number minimum_number is_among place_of
reads_none σ ps d = tracked σ None ps (arguments []) (Stay (arguments [])) (record { each = each; counts = stay-counts (arguments []) }) (arguments []) d refl
  where
    each : (ws : Met) (t : T.Term) (ts : List T.Term) → ws ≡ arguments []
        → Match (Same σ None ps (arguments []) (Stay (arguments [])) ts) (resolve_term (names σ None ps (arguments []) (Stay (arguments []))) ws t) (term_number σ ps (arguments []) t)
    each ws (term plain n) ts e = plain-same σ None ps (arguments []) (Stay (arguments [])) n ts ws e
    each ws (term parameter n) ts e = parameter-same σ None ps (arguments []) (Stay (arguments [])) n ts ws e
    each ws (term variable n) ts e = refl
    each ws (term minimum n) ts e = refl

-- a truth diagram: only the arguments
pub reads_only : (σ : Session) (ps us : List Key) (d : T.Diagram) → Reads σ Only ps (arguments us) (arguments us) d
unfolding met variable_number minimum_number is_among place_of
reads_only σ ps us d = tracked σ Only ps vs (Stay vs) (record { each = each; counts = stay-counts vs }) vs d refl
  where
    vs : Met
    vs = arguments us

    each : (ws : Met) (t : T.Term) (ts : List T.Term) → ws ≡ vs → Match (Same σ Only ps vs (Stay vs) ts) (resolve_term (names σ Only ps vs (Stay vs)) ws t) (term_number σ ps vs t)
    each ws (term plain n) ts e = plain-same σ Only ps vs (Stay vs) n ts ws e
    each ws (term parameter n) ts e = parameter-same σ Only ps vs (Stay vs) n ts ws e
    each ws (term variable n) ts e =
        subst (λ (m : Met). Match (Same σ Only ps vs (Stay vs) ts) (resolve_term (names σ Only ps vs (Stay vs)) m (term variable n)) (term_number σ ps vs (term variable n))) (sym e)
        (same_number σ Only ps vs (Stay vs) ts vs refl (is_among (key_of n) us) (number_in first_variable us (key_of n)) (first_variable + place_of (key_of n) us) Unbound
        (λ few c. number-exact first_variable us (key_of n) (variables-within vs few) (ltb-true (place_of (key_of n) us) (length us) c)))
    each ws (term minimum n) ts e = refl

-- a reward: any variables, behind those that are known before its words; the pass keeps one more than the limit of each kind
record Meets (vs ws : Met) (ts : List T.Term) : Type 0 where
  all : Met
  keeps : ws ≡ kept_met all
  whole : vs ≡ variables_after all ts

pub reads-any : (σ : Session) (ps : List Key) (us : Met) (d : T.Diagram) → Reads σ Any ps (variables_after us (diagram_terms d)) (kept_met us) d
unfolding variable_number minimum_number
reads-any σ ps us d = tracked σ Any ps vs (Meets vs) (record { each = each; counts = counts }) (kept_met us) d (record { all = us; keeps = refl; whole = refl })
  where
    vs : Met
    vs = variables_after us (diagram_terms d)

    counts : (ws : Met) → Meets vs ws [] → is_within ws ≡ is_within vs
    counts ws m = stay-counts (kept_met m.all) ws m.keeps ∙ within-kept m.all ∙ stay-counts vs m.all (sym m.whole)

    there : (c : Bool) (x y : ℕ) (ws : Met) (ts : List T.Term) → c ≡ true → (is_within vs ≡ true → x ≡ y) → Meets vs ws ts
        → Match (Same σ Any ps vs (Meets vs) ts) (ok (record { value = x; met = ws })) (refuse_if (not c) Unbound (ok y))
    there true x y ws ts e f m = (f, m)
    there false x y ws ts e f m = absurd (let z : ◌≡◌ {A = ℕ} 0 1 = cc in omega arith)

    -- a variable of a kind: all those of the kind met before it, us those kept of them with it, later those of the line
    one : (first : ℕ) (k : Key) (all us ks later : List Key) (ws : Met) (ts : List T.Term) → us ≡ kept (with_one all k) → ks ≡ later → Prefix (with_one all k) later
        → (is_within vs ≡ true → length ks ≤ variable_count) → Meets vs ws ts
        → Match (Same σ Any ps vs (Meets vs) ts) (ok (record { value = number_in first us k; met = ws })) (refuse_if (not (is_among k ks)) Unbound (ok (first + place_of k ks)))
    one first k all us ks later ws ts next whole more within m =
        let x = met-numbered first all k later more in
        there (is_among k ks) (number_in first us k) (first + place_of k ks) ws ts (ap (is_among k) whole ∙ x.among)
        (λ few.
        ap (λ (us : List Key). number_in first us k) next
        ∙ x.number (subst (λ (us : List Key). length us ≤ variable_count) whole (within few))
        ∙ ap (λ (us : List Key). first + place_of k us) (sym whole))
        m

    each : (ws : Met) (t : T.Term) (ts : List T.Term) → Meets vs ws (t ∷ ts)
        → Match (Same σ Any ps vs (Meets vs) ts) (resolve_term (names σ Any ps vs (Meets vs)) ws t) (term_number σ ps vs t)
    each ws (term plain n) ts m = plain-same σ Any ps vs (Meets vs) n ts ws (record { all = m.all; keeps = m.keeps; whole = m.whole })
    each ws (term parameter n) ts m = parameter-same σ Any ps vs (Meets vs) n ts ws (record { all = m.all; keeps = m.keeps; whole = m.whole })
    each ws (term variable n) ts m =
        let k : Key = key_of n in
        let more : Met = record { variables = with_one m.all.variables k; minimums = m.all.minimums } in
        let next : met Any ws.variables k ≡ kept more.variables = ap (λ (us : Met). met Any us.variables k) m.keeps ∙ met-kept m.all.variables k in
        one first_variable k m.all.variables (met Any ws.variables k) vs.variables (variables_after more ts).variables (variable_met Any ws k) ts
        next (ap (λ (us : Met). us.variables) m.whole) (extends ts more).0 (variables-within vs)
        (record {
          all = more;
          keeps = ap₂ (λ (us vs : List Key). record { variables = us; minimums = vs }) next (ap (λ (us : Met). us.minimums) m.keeps);
          whole = m.whole;
        })
    each ws (term minimum n) ts m =
        let k : Key = key_of n in
        let more : Met = record { variables = m.all.variables; minimums = with_one m.all.minimums k } in
        let next : met Any ws.minimums k ≡ kept more.minimums = ap (λ (us : Met). met Any us.minimums k) m.keeps ∙ met-kept m.all.minimums k in
        one first_minimum k m.all.minimums (met Any ws.minimums k) vs.minimums (variables_after more ts).minimums (minimum_met Any ws k) ts
        next (ap (λ (us : Met). us.minimums) m.whole) (extends ts more).1 (minimums-within vs)
        (record {
          all = more;
          keeps = ap₂ (λ (us vs : List Key). record { variables = us; minimums = vs }) (ap (λ (us : Met). us.variables) m.keeps) next;
          whole = m.whole;
        })
