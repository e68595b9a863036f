-- The count of a form's bytes and brackets is that of its bytes and of its tree.
use Rattle.std.specs.Prelude.{◌≡◌, refl, Bool, true, false, cond, ◌||◌, List, [], ◌∷◌, ◌++◌, map, ℕ, ◌+◌, ◌-◌, ◌≤◌, ◌<◌, length, get_or, eqb, ltb}
use Rattle.std.proofs.Common.{sym, ap₂, arith, length-append, ltb-false, lt-ltb, le-ltb}
use Rattle.basics.specs.Tests.{Flag, is_true, is_false, flag, or-one, or-other, Cmp, below, equal, above, cmp}
use Rattle.basics.specs.Members.{clash}
use Rattle.label.specs.Limits.{first_variable, first_minimum, equality}
use Rattle.label.specs.Labels.{predicate_of, place_at, unpacked, terms_of}
use Rattle.diagram.specs.Diagram.{Diagram, leaf, branch}
use Rattle.forms.specs.Tree as T
use Rattle.forms.specs.Tree.Mark.{plain, variable, minimum}
use Rattle.forms.specs.Tree.Term.{term}
use Rattle.forms.specs.Tree.Atom.{equal as equality-of, holds}
use Rattle.text.specs.declared.Kind.TheVariants as K
use Rattle.text.specs.Line as L
use Rattle.text.specs.Line.{most_line_bytes, most_open_brackets}
use Rattle.answers.specs.Digits.{digits}
use Rattle.diagram_form.specs.Form.{Tables, variable_name, term_tree, atom_tree, form_tree, form_bytes, reward_of, term_length, terms_length, atom_length, form_length, open_brackets, is_too_long}

-- a term, kind by kind: it is written as a constant, as a variable or as a minimum variable

pub data Kinds (t : ℕ) : Type 0 where
  constant : t < first_variable → Kinds t
  maximum : first_variable ≤ t → t < first_minimum → Kinds t
  least : first_minimum ≤ t → Kinds t

pub kinds : (t : ℕ) → Kinds t
kinds t = go (cmp t first_variable) (cmp t first_minimum)
  where
    go : Cmp t first_variable → Cmp t first_minimum → Kinds t
    go (below h) k = constant h
    go (equal h) k = maximum (omega arith) (omega arith)
    go (above h) (below k) = maximum (omega arith) k
    go (above h) (equal k) = least (omega arith)
    go (above h) (above k) = least (omega arith)

pub constant-tree : (n : Tables) (t : ℕ) → t < first_variable → term_tree n t ≡ term plain (get_or n.constants t [])
unfolding term_tree
constant-tree n t h = rw (lt-ltb t first_variable h)

pub variable-tree : (n : Tables) (t : ℕ) → first_variable ≤ t → t < first_minimum → term_tree n t ≡ term variable (variable_name (t - first_variable))
unfolding term_tree
variable-tree n t h k = rw (le-ltb t first_variable h, lt-ltb t first_minimum k)

pub minimum-tree : (n : Tables) (t : ℕ) → first_minimum ≤ t → term_tree n t ≡ term minimum (variable_name (t - first_minimum))
unfolding term_tree
minimum-tree n t h = rw (le-ltb t first_variable (omega arith), le-ltb t first_minimum h)

term-length : (n : Tables) (t : ℕ) → length (T.term_bytes (term_tree n t)) ≡ term_length n t
unfolding term_tree term_length variable_name
term-length n t = go (ltb t first_variable) (ltb t first_minimum)
  where
    go : (b c : Bool)
        → length (T.term_bytes (cond b (term plain (get_or n.constants t []))
        (cond c (term variable (118 ∷ digits (t - first_variable))) (term minimum (118 ∷ digits (t - first_minimum))))))
        ≡ cond b (length (get_or n.constants t [])) (cond c (2 + length (digits (t - first_variable))) (2 + length (digits (t - first_minimum))))
    go true c = refl
    go false true = omega arith
    go false false = omega arith

terms-length : (n : Tables) (ts : List ℕ) → length (T.many_bytes T.term_bytes (map (term_tree n) ts)) ≡ terms_length n ts
unfolding terms_length
terms-length n [] = refl
terms-length n (t ∷ ts) =
    omega (arith, length-append (T.term_bytes (term_tree n t)) (T.many_bytes T.term_bytes (map (term_tree n) ts)), term-length n t, terms-length n ts)

atom-length : (ar : List ℕ) (n : Tables) (l : ℕ) → length (T.atom_bytes (atom_tree ar n l)) ≡ atom_length ar n l
unfolding atom_tree atom_length
atom-length ar n l = go (eqb (predicate_of l) equality)
  where
    a : T.Term
    a = term_tree n (place_at l 0)

    b : T.Term
    b = term_tree n (place_at l 1)

    p : List ℕ
    p = get_or n.predicates (predicate_of l - 1) []

    ts : List T.Term
    ts = map (term_tree n) (terms_of ar (unpacked l))

    go : (e : Bool) → length (T.atom_bytes (cond e (equality-of a b) (holds p ts)))
        ≡ cond e (5 + term_length n (place_at l 0) + term_length n (place_at l 1)) (2 + length p + terms_length n (terms_of ar (unpacked l)))
    go true =
        omega (
          arith,
          length-append (T.term_bytes a) (32 ∷ (T.term_bytes b ++ 41 ∷ [])),
          length-append (T.term_bytes b) (41 ∷ []),
          term-length n (place_at l 0),
          term-length n (place_at l 1),
        )
    go false =
        omega (
          arith,
          length-append p (T.many_bytes T.term_bytes ts ++ 41 ∷ []),
          length-append (T.many_bytes T.term_bytes ts) (41 ∷ []),
          terms-length n (terms_of ar (unpacked l)),
        )

-- 'would pass 4,095 bytes': the count by recursion on the diagram is the length of what is printed
pub form-length : (ar : List ℕ) (n : Tables) (d : Diagram) → length (form_bytes ar n d) ≡ form_length ar n d
unfolding form_tree form_length
form-length ar n (leaf v) = refl
form-length ar n (branch l t f) =
    let A = T.atom_bytes (atom_tree ar n l) in
    let D = form_bytes ar n t in
    let E = form_bytes ar n f in
    omega (
      arith,
      length-append A (32 ∷ (D ++ 32 ∷ (E ++ 41 ∷ []))),
      length-append D (32 ∷ (E ++ 41 ∷ [])),
      length-append E (41 ∷ []),
      atom-length ar n l,
      form-length ar n t,
      form-length ar n f,
    )

pub form-brackets : (ar : List ℕ) (n : Tables) (d : Diagram) → T.brackets (form_tree ar n d) ≡ open_brackets d
unfolding form_tree open_brackets
form-brackets ar n (leaf v) = refl
form-brackets ar n (branch l t f) = rw (form-brackets ar n t, form-brackets ar n f)

-- so for the reward line: its own bytes and its own bracket counted
pub reward-length : (ar : List ℕ) (n : Tables) (d : Diagram) → length (L.line_bytes (reward_of ar n d)) ≡ 9 + form_length ar n d
reward-length ar n d = omega (arith, length-append (form_bytes ar n d) (41 ∷ []), form-length ar n d)

-- 19 is given exactly where the line's bytes or brackets pass their limits
pub too_long : (ar : List ℕ) (n : Tables) (d : Diagram)
    → is_too_long ar n d ≡ (ltb most_line_bytes (length (L.line_bytes (reward_of ar n d))) || ltb most_open_brackets (L.open_brackets K.Reward (form_tree ar n d)))
unfolding is_too_long
too_long ar n d =
    let b : L.open_brackets K.Reward (form_tree ar n d) ≡ 1 + open_brackets d = omega (arith, form-brackets ar n d) in
    ap₂ (λ (x y : ℕ). ltb most_line_bytes x || ltb most_open_brackets y) (sym (reward-length ar n d)) (sym b)

-- where 19 is not given, the line is within its limits
pub record Within (ar : List ℕ) (n : Tables) (d : Diagram) : Type 0 where
  pub bytes : length (L.line_bytes (reward_of ar n d)) ≤ most_line_bytes
  pub brackets : L.open_brackets K.Reward (form_tree ar n d) ≤ most_open_brackets

pub not-too-long : (ar : List ℕ) (n : Tables) (d : Diagram) → is_too_long ar n d ≡ false → Within ar n d
unfolding is_too_long
not-too-long ar n d e = record {
  bytes = omega (arith, reward-length ar n d, ltb-false most_line_bytes (9 + form_length ar n d) (first (flag _)));
  brackets = omega (arith, form-brackets ar n d, ltb-false most_open_brackets (1 + open_brackets d) (second (flag _)));
}
  where
    first : Flag (ltb most_line_bytes (9 + form_length ar n d)) → ltb most_line_bytes (9 + form_length ar n d) ≡ false
    first (is_true h) = clash (or-one _ _ h) e
    first (is_false h) = h

    second : Flag (ltb most_open_brackets (1 + open_brackets d)) → ltb most_open_brackets (1 + open_brackets d) ≡ false
    second (is_true h) = clash (or-other (ltb most_line_bytes (9 + form_length ar n d)) _ h) e
    second (is_false h) = h
