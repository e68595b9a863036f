-- The line reader accepts exactly what some well-formed line writes, and answers its kind.
use Rattle.std.specs.Prelude.{◌≡◌, refl, List, [], ◌∷◌, ◌++◌, false, cond, ℕ, ◌-◌, ◌≤◌, ◌<◌, leb, eqb, length, get_or, take, drop}
use Rattle.std.proofs.Common.{sym, ap, ap₂, ◌∙◌, subst, true≢false, arith, length-append, length-drop, take-append-drop, take_all, take_at, drop_at, eqb-true, eq-eqb, le-leb, leb-true}
use Rattle.basics.specs.Tests.{Flag, is_true, is_false, flag}
use Rattle.words.specs.Inner.{name_form}
use Rattle.words.specs.WordLaws.{name-sound, name-complete}
use Rattle.words.specs.Keys.{key_of}
use Rattle.words.specs.KeyLaws.{name-key}
use Rattle.text.specs.declared.Kind.{Kind}
use Rattle.text.specs.declared.Kind.TheVariants.{Bad}
use Rattle.text.specs.Line.{most_line_bytes, most_open_brackets, is_bad, keyword, shape_of, Words, words_bytes, GoodWords, open_brackets, Line, kind_of_line, line_bytes, GoodLine}
use Rattle.text.specs.Line.Line.{line}
use Rattle.text.specs.LineForm.{kind_of, words_form, whole, named, form_kind, line_kind}
use Rattle.text.specs.KeywordLaws.{keyword-name, keyword-kind, kind-key}
use Rattle.text.specs.ShapeLaws.{ShapeOf, shape-sound, shape-complete, shape-stop}
use Rattle.std.specs.Prelude.{None, Option, Some}

-- the same by the kind of line
words-sound : (k : Kind) (s : List ℕ) (n : ℕ) → words_form k s ≡ Some n → ShapeOf (shape_of k) (take n s)
unfolding words_form
words-sound k s n e = shape-sound (shape_of k) s n e

words-complete : (k : Kind) (w : Words k) → GoodWords k w → open_brackets k w ≤ most_open_brackets
    → words_form k (words_bytes k w ++ 41 ∷ []) ≡ Some (length (words_bytes k w ++ 41 ∷ []))
unfolding words_form
words-complete k w g h = shape-complete (shape_of k) w g h

form-complete : (a W : List ℕ) (k : Kind) → name_form (a ++ W) ≡ Some (length a) → kind_of (key_of a) ≡ k → words_form k W ≡ Some (length W)
    → form_kind (a ++ W) ≡ k
unfolding form_kind
form-complete a W k p q e =
    rw (p, take_at a W (length a) refl, drop_at a W (length a) refl, q, e, eq-eqb (length W) (length (a ++ W) - length a) (omega (arith, length-append a W)))

line-there : (X : List ℕ) (k : Kind) → length (40 ∷ X) ≤ most_line_bytes → form_kind X ≡ k → line_kind (40 ∷ X) ≡ k
unfolding line_kind
line-there X k h e = rw (le-leb (length (40 ∷ X)) most_line_bytes h) e

-- a well-formed line is read as one of its kind
pub line-complete : (l : Line) → GoodLine l → line_kind (line_bytes l) ≡ kind_of_line l
line-complete (line k w) g =
    line-there (keyword k ++ (words_bytes k w ++ 41 ∷ [])) k g.2
    (form-complete (keyword k) (words_bytes k w ++ 41 ∷ []) k
    (name-complete (keyword k) (words_bytes k w ++ 41 ∷ []) (keyword-name k w) (shape-stop (shape_of k) w))
    (keyword-kind k w)
    (words-complete k w g.0 g.1))

-- the words of the kind k, and its key word before them
abbrev FormOf : List ℕ → Kind → Type 0
FormOf u k = (w : Words k) × GoodWords k w × (open_brackets k w ≤ most_open_brackets) × (u ≡ keyword k ++ (words_bytes k w ++ 41 ∷ []))

bad : {A : Type 0} (k : Kind) → Bad ≡ k → is_bad k ≡ false → A
unfolding is_bad
bad k e h = absurd (true≢false (ap is_bad e ∙ h))

form-sound : (u : List ℕ) (k : Kind) → form_kind u ≡ k → is_bad k ≡ false → FormOf u k
unfolding form_kind
form-sound u k e h = at_name (name_form u) refl e
  where
    at_name : (t : Option ℕ) → name_form u ≡ t
        → named t (λ n. whole (words_form (kind_of (key_of (take n u))) (drop n u)) (length u - n) (kind_of (key_of (take n u)))) ≡ k → FormOf u k
    at_name None p e = bad k e h
    at_name (Some n) p e = at_words (words_form (kind_of (key_of (take n u))) (drop n u)) refl e
      where
        at_words : (r : Option ℕ) → words_form (kind_of (key_of (take n u))) (drop n u) ≡ r → whole r (length u - n) (kind_of (key_of (take n u))) ≡ k → FormOf u k
        at_words None q e = bad k e h
        at_words (Some m) q e = at-end (flag (eqb m (length u - n))) e
          where
            at-end : Flag (eqb m (length u - n)) → cond (eqb m (length u - n)) (kind_of (key_of (take n u))) Bad ≡ k → FormOf u k
            at-end (is_false f) e = bad k (rw f at e) h
            at-end (is_true f) e =
                let j : kind_of (key_of (take n u)) ≡ k = rw f at e in
                let x = words-sound (kind_of (key_of (take n u))) (drop n u) m q in
                let l : take m (drop n u) ≡ drop n u = take_all m (drop n u) (omega (arith, eqb-true m (length u - n) f, length-drop n u)) in
                let y : take n u ≡ keyword (kind_of (key_of (take n u))) =
                name-key (take n u) (keyword (kind_of (key_of (take n u)))) (name-sound u p) (keyword-name (kind_of (key_of (take n u))) x.0)
                (kind-key (key_of (take n u)) (ap is_bad j ∙ h)) in
                subst (FormOf u) j
                (x.0, x.1, x.2, sym (take-append-drop n u) ∙ ap₂ (λ a b. a ++ b) y (sym l ∙ x.3))

cons-first : (s : List ℕ) (b : ℕ) → 0 < b → get_or s 0 0 ≡ b → s ≡ b ∷ drop 1 s
cons-first [] b h e = absurd (omega arith)
cons-first (a ∷ s) b h e = ap (λ x. x ∷ s) e

-- what is read as a line of the kind k is one
pub line-sound : (s : List ℕ) (k : Kind) → line_kind s ≡ k → is_bad k ≡ false → (w : Words k) × GoodLine (line k w) × (s ≡ line_bytes (line k w))
unfolding line_kind
line-sound s k e h = go (flag (leb (length s) most_line_bytes)) (flag (eqb (get_or s 0 0) 40)) e
  where
    go : Flag (leb (length s) most_line_bytes) → Flag (eqb (get_or s 0 0) 40)
        → cond (leb (length s) most_line_bytes) (cond (eqb (get_or s 0 0) 40) (form_kind (drop 1 s)) Bad) Bad ≡ k
        → (w : Words k) × GoodLine (line k w) × (s ≡ line_bytes (line k w))
    go (is_false f) b e = bad k (rw f at e) h
    go (is_true t) (is_false f) e = bad k (rw (t, f) at e) h
    go (is_true t) (is_true f) e =
        let x = form-sound (drop 1 s) k (rw (t, f) at e) h in
        let y : s ≡ line_bytes (line k x.0) = cons-first s 40 (omega arith) (eqb-true (get_or s 0 0) 40 f) ∙ ap (λ l. 40 ∷ l) x.3 in
        (x.0, (x.1, x.2, omega (arith, leb-true (length s) most_line_bytes t, ap length y)), y)
