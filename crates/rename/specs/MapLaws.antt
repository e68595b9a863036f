-- Laws of the maps that the calls write.
use Rattle.std.specs.Prelude.{◌≡◌, refl, Bool, true, false, not, cond, List, [], ◌∷◌, ◌++◌, ℕ, zero, suc, ◌+◌, ◌≤◌, ◌<◌, length, get_or, eqb, ltb, ◌⊎◌}
use Rattle.std.proofs.Common.{ap, sym, ◌∙◌, arith, length-append, eq-eqb, ne_eqb, lt-ltb, le-ltb, inl, inr}
use Rattle.std.proofs.Math.ListN.{get_or-append}
use Rattle.std.proofs.lemmas.List.{get_or_at}
use Rattle.basics.specs.Tests.{Flag, is_true, is_false, flag, Cmp, below, equal, above, cmp}
use Rattle.basics.specs.Members.{mem}
use Rattle.label.specs.Limits.{first_variable, variable_count, first_minimum, minimum_count, term_end, first_parameter, parameter_count}
use Rattle.label.specs.Callers.{TermMap}
use Rattle.label.specs.Inner.{map_of}
use Rattle.label.specs.Renamings.{rank, numbering, freeing}
use Rattle.label.proofs.RenamingLaws.{rank_below, numbering-low, numbering-variable, numbering-minimum, freeing-constant, freeing-parameter, freeing-variable, freeing-minimum}
use Rattle.diagram.specs.Diagram.{Diagram}
use Rattle.diagram.specs.Variables.{occurs, occurring, variables, minimums}
use Rattle.rename.specs.Ascending.{Ascending}
use Rattle.rename.specs.AscendingLaws.{ascending-weaken, ascending-not, rank-none}
use Rattle.rename.specs.Maps.{tabled, is_used, used_from, used_variables, used_minimums, Marks, close_at}
use Rattle.rename.specs.Calls.{Closable}
use Rattle.rename.specs.Inner.{KindsFit}
use Rattle.rename.specs.FreeingLaws.{freeing-other}

-- the laws of `tabled`: nothing else unfolds it
pub tabled-none : (f : ℕ → ℕ) → tabled f 0 ≡ []
unfolding tabled
tabled-none f = refl

pub tabled-next : (f : ℕ → ℕ) (n : ℕ) → tabled f (suc n) ≡ tabled f n ++ (f n ∷ [])
unfolding tabled
tabled-next f n = refl

pub length-tabled : (f : ℕ → ℕ) (n : ℕ) → length (tabled f n) ≡ n
length-tabled f zero = rw (tabled-none f)
length-tabled f (suc n) = rw (tabled-next f n) (omega (arith, length-append (tabled f n) (f n ∷ []), length-tabled f n))

get_d-tabled : (f : ℕ → ℕ) (n t : ℕ) → t < n → get_or (tabled f n) t 0 ≡ f t
get_d-tabled f zero t h = absurd (omega arith)
get_d-tabled f (suc n) t h = rw (tabled-next f n) (go (cmp t n) (get_d-tabled f n t))
  where
    go : Cmp t n → (t < n → get_or (tabled f n) t 0 ≡ f t) → get_or (tabled f n ++ (f n ∷ [])) t 0 ≡ f t
    go (below q) ih = get_or-append (tabled f n) (f n ∷ []) 0 t (omega (arith, length-tabled f n)) ∙ ih q
    go (equal q) ih = get_or_at (tabled f n) (f n) [] 0 t (length-tabled f n ∙ sym q) ∙ ap f (sym q)
    go (above q) ih = absurd (omega arith)

-- what a written map has for each term
pub tabled-at : (f : ℕ → ℕ) (n : ℕ) (rest : List ℕ) (t : ℕ) → t < n → get_or (tabled f n ++ rest) t 0 ≡ f t
tabled-at f n rest t h = get_or-append (tabled f n) rest 0 t (omega (arith, length-tabled f n)) ∙ get_d-tabled f n t h

pub tabled-terms : (f : ℕ → ℕ) (rest : List ℕ) → ((t : ℕ) → t < term_end → f t < term_end) → TermMap (tabled f term_end ++ rest)
tabled-terms f rest h = record {
  whole = omega (arith, length-append (tabled f term_end) rest, length-tabled f term_end);
  below = λ t k. rw (tabled-at f term_end rest t k) (h t k);
}

-- marked terms
used-ascending : (used : List ℕ) (t n : ℕ) → Ascending t (used_from used t n)
unfolding used_from
used-ascending used t zero = tt
used-ascending used t (suc n) = go (flag (is_used used t)) (used-ascending used (suc t) n)
  where
    go : Flag (is_used used t) → Ascending (suc t) (used_from used (suc t) n) → Ascending t (cond (is_used used t) (t ∷ used_from used (suc t) n) (used_from used (suc t) n))
    go (is_true p) ih = rw p (omega arith, ih)
    go (is_false p) ih = rw p (ascending-weaken t (suc t) (used_from used (suc t) n) (omega arith) ih)

-- marked terms are members, others are not
used-mem : (used : List ℕ) (t n u : ℕ) → t ≤ u → u < t + n → mem eqb u (used_from used t n) ≡ is_used used u
unfolding used_from
used-mem used t zero u h k = absurd (omega arith)
used-mem used t (suc n) u h k = go (flag (is_used used t)) (cmp t u) (used-mem used (suc t) n u)
  where
    go : Flag (is_used used t) → Cmp t u → (suc t ≤ u → u < suc t + n → mem eqb u (used_from used (suc t) n) ≡ is_used used u)
        → mem eqb u (cond (is_used used t) (t ∷ used_from used (suc t) n) (used_from used (suc t) n)) ≡ is_used used u
    go (is_true p) (below q) ih = rw (p, ne_eqb u t (omega arith)) (ih q (omega arith))
    go (is_true p) (equal q) ih = rw (p, eq-eqb u t (sym q), ← q) (sym p)
    go (is_false p) (below q) ih = rw p (ih q (omega arith))
    go (is_false p) (equal q) ih = rw (p, ← q) (ascending-not (suc t) (used_from used (suc t) n) t (used-ascending used (suc t) n) (omega arith) ∙ sym p)
    go (is_true p) (above q) ih = absurd (omega arith)
    go (is_false p) (above q) ih = absurd (omega arith)

pub used-variables-ascending : (used : List ℕ) → Ascending first_variable (used_variables used)
unfolding used_variables
used-variables-ascending used = used-ascending used first_variable variable_count

pub used-variable : (used : List ℕ) (u : ℕ) → first_variable ≤ u → u < first_minimum → mem eqb u (used_variables used) ≡ is_used used u
unfolding used_variables
used-variable used u h k = used-mem used first_variable variable_count u h k

pub used-minimums-ascending : (used : List ℕ) → Ascending first_minimum (used_minimums used)
unfolding used_minimums
used-minimums-ascending used = used-ascending used first_minimum minimum_count

pub used-minimum : (used : List ℕ) (u : ℕ) → first_minimum ≤ u → u < term_end → mem eqb u (used_minimums used) ≡ is_used used u
unfolding used_minimums
used-minimum used u h k = used-mem used first_minimum minimum_count u h k

-- one more number is below t + 1 if t is there
pub rank-next : (n : ℕ) (xs : List ℕ) (t : ℕ) → Ascending n xs → rank xs (suc t) ≡ rank xs t + cond (mem eqb t xs) 1 0
rank-next n [] t a = refl
rank-next n (x ∷ xs) t a = go (cmp x t) (rank-next (suc x) xs t a.1)
  where
    go : Cmp x t → rank xs (suc t) ≡ rank xs t + cond (mem eqb t xs) 1 0
        → cond (ltb x (suc t)) 1 0 + rank xs (suc t) ≡ cond (ltb x t) 1 0 + rank xs t + cond (mem eqb t (x ∷ xs)) 1 0
    go (below q) ih = rw (lt-ltb x (suc t) (omega arith), lt-ltb x t q, ne_eqb t x (omega arith), ih) (omega arith)
    go (equal q) ih =
        rw (
          lt-ltb x (suc t) (omega arith),
          le-ltb x t (omega arith),
          eq-eqb t x (sym q),
          rank-none (suc x) xs (suc t) a.1 (omega arith),
          rank-none (suc x) xs t a.1 (omega arith),
        )
    go (above q) ih =
        rw (
          le-ltb x (suc t) (omega arith),
          le-ltb x t (omega arith),
          ne_eqb t x (omega arith),
          ascending-not (suc x) xs t a.1 (omega arith),
          rank-none (suc x) xs (suc t) a.1 (omega arith),
          rank-none (suc x) xs t a.1 (omega arith),
        )

-- marks of a diagram's terms
pub used-occurs : (ar : List ℕ) (d : Diagram) (used : List ℕ) → Marks ar d used → (t : ℕ) → t < term_end → is_used used t ≡ occurs ar t d
unfolding is_used
used-occurs ar d used m t h = rw (m.mark t h) (go (occurs ar t d))
  where
    go : (b : Bool) → not (eqb (cond b 1 0) 0) ≡ b
    go true = refl
    go false = refl

used-occurring : (ar : List ℕ) (d : Diagram) (used : List ℕ) → Marks ar d used → (t n : ℕ) → t + n ≤ term_end → used_from used t n ≡ occurring ar d t n
unfolding used_from occurring
used-occurring ar d used m t zero h = refl
used-occurring ar d used m t (suc n) h = rw (used-occurs ar d used m t (omega arith), used-occurring ar d used m (suc t) n (omega arith))

-- the marked variables are the diagram's
pub used-variables : (ar : List ℕ) (d : Diagram) (used : List ℕ) → Marks ar d used → used_variables used ≡ variables ar d
unfolding used_variables variables
used-variables ar d used m = used-occurring ar d used m first_variable variable_count (omega arith)

pub used-minimums : (ar : List ℕ) (d : Diagram) (used : List ℕ) → Marks ar d used → used_minimums used ≡ minimums ar d
unfolding used_minimums minimums
used-minimums ar d used m = used-occurring ar d used m first_minimum minimum_count (omega arith)

-- the laws of `close_at`: nothing else unfolds it
module _ (used : List ℕ) (first minimum t : ℕ) where
  pub close-low : t < first_variable → close_at used first minimum t ≡ t
  unfolding close_at
  close-low h = rw (lt-ltb t first_variable h)

  pub close-used : first_variable ≤ t → is_used used t ≡ true → close_at used first minimum t ≡ numbering (used_variables used) (used_minimums used) first minimum t
  unfolding close_at
  close-used h e = rw (le-ltb t first_variable h, e)

  pub close-unused : first_variable ≤ t → is_used used t ≡ false → close_at used first minimum t ≡ 0
  unfolding close_at
  close-unused h e = rw (le-ltb t first_variable h, e)

  -- each kind ends where its numbers do
  close-below : first + length (used_variables used) ≤ first_minimum → minimum + length (used_minimums used) ≤ term_end → t < term_end → close_at used first minimum t < term_end
  close-below r s h = go (cmp t first_variable) (flag (is_used used t)) (cmp t first_minimum)
    where
      least : first_minimum ≤ t → is_used used t ≡ true → close_at used first minimum t < term_end
      least k e =
          omega (
            arith,
            close-used (omega arith) e,
            numbering-minimum (used_variables used) (used_minimums used) first minimum t k,
            rank_below (used_minimums used) t (used-minimum used t k h ∙ e),
          )

      high : first_variable ≤ t → Flag (is_used used t) → Cmp t first_minimum → close_at used first minimum t < term_end
      high k (is_true e) (below l) =
          omega (
            arith,
            close-used k e,
            numbering-variable (used_variables used) (used_minimums used) first minimum t k l,
            rank_below (used_variables used) t (used-variable used t k l ∙ e),
          )
      high k (is_true e) (equal l) = least (omega arith) e
      high k (is_true e) (above l) = least (omega arith) e
      high k (is_false e) l = omega (arith, close-unused k e)

      go : Cmp t first_variable → Flag (is_used used t) → Cmp t first_minimum → close_at used first minimum t < term_end
      go (below k) f l = omega (arith, close-low k)
      go (equal k) f l = high (omega arith) f l
      go (above k) f l = high (omega arith) f l

-- the written map is one of terms
pub close-terms : (used : List ℕ) (first minimum : ℕ) (map rest : List ℕ) → Closable used first minimum map → TermMap (tabled (close_at used first minimum) term_end ++ rest)
close-terms used first minimum map rest c =
    tabled-terms (close_at used first minimum) rest (λ t h. close-below used first minimum t c.room c.space h)

-- a written map has the number of each term that is no variable or is used
pub close-numbers : (used : List ℕ) (first minimum : ℕ) (rest : List ℕ) (t : ℕ) → t < term_end → (t < first_variable) ⊎ (is_used used t ≡ true)
    → map_of (tabled (close_at used first minimum) term_end ++ rest) t ≡ numbering (used_variables used) (used_minimums used) first minimum t
close-numbers used first minimum rest t h p = tabled-at (close_at used first minimum) term_end rest t h ∙ go (cmp t first_variable) p
  where
    high : first_variable ≤ t → (t < first_variable) ⊎ (is_used used t ≡ true) → close_at used first minimum t ≡ numbering (used_variables used) (used_minimums used) first minimum t
    high k (inl x) = absurd (omega arith)
    high k (inr x) = close-used used first minimum t k x

    go : Cmp t first_variable → (t < first_variable) ⊎ (is_used used t ≡ true)
        → close_at used first minimum t ≡ numbering (used_variables used) (used_minimums used) first minimum t
    go (below k) x = close-low used first minimum t k ∙ sym (numbering-low (used_variables used) (used_minimums used) first minimum t k)
    go (equal k) x = high (omega arith) x
    go (above k) x = high (omega arith) x

-- a call on the marks of a diagram's terms
pub marks-closable : (ar : List ℕ) (d : Diagram) (used : List ℕ) (first minimum : ℕ) (map : List ℕ) → Marks ar d used → term_end ≤ length map
    → KindsFit ar first minimum d → Closable used first minimum map
marks-closable ar d used first minimum map m w f = record {
  marks = m.whole;
  whole = w;
  room = rw (used-variables ar d used m) f.variables-end;
  space = rw (used-minimums ar d used m) f.minimums-end;
}

-- freeing gives a term a number below the end
pub free-below : (c t : ℕ) → c ≤ parameter_count → t < term_end → freeing c t < term_end
free-below c t m h = go (cmp t first_parameter) (cmp t (first_parameter + c)) (cmp t first_variable) (cmp t first_minimum)
  where
    high : first_variable ≤ t → Cmp t first_minimum → freeing c t < term_end
    high k (below l) = omega (arith, freeing-variable c t (omega arith) k l)
    high k (equal l) = omega (arith, freeing-minimum c t (omega arith) (omega arith))
    high k (above l) = omega (arith, freeing-minimum c t (omega arith) (omega arith))

    middle : first_parameter + c ≤ t → Cmp t first_variable → Cmp t first_minimum → freeing c t < term_end
    middle k (below l) i = omega (arith, freeing-other c t k l)
    middle k (equal l) i = high (omega arith) i
    middle k (above l) i = high (omega arith) i

    go : Cmp t first_parameter → Cmp t (first_parameter + c) → Cmp t first_variable → Cmp t first_minimum → freeing c t < term_end
    go (below k) j l i = omega (arith, freeing-constant c t k)
    go (equal k) (below j) l i = omega (arith, freeing-parameter c t (omega arith) j)
    go (above k) (below j) l i = omega (arith, freeing-parameter c t (omega arith) j)
    go (equal k) (equal j) l i = middle (omega arith) l i
    go (equal k) (above j) l i = middle (omega arith) l i
    go (above k) (equal j) l i = middle (omega arith) l i
    go (above k) (above j) l i = middle (omega arith) l i

pub free-terms : (c : ℕ) (rest : List ℕ) → c ≤ parameter_count → TermMap (tabled (freeing c) term_end ++ rest)
free-terms c rest m = tabled-terms (freeing c) rest (λ t h. free-below c t m h)
