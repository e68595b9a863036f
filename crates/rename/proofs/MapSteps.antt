-- The ways through the functions that write maps of terms, in the words of their tests and callees.
use mathlib.Core.Path.{◌≡◌, ap, sym, subst, ◌∙◌}
use mathlib.Core.Bool.{true, false, cond}
use mathlib.Core.List.{List, [], ◌∷◌, ◌++◌, append_assoc}
use Prim.Native.Nat.{ℕ, suc, ◌+◌, ◌-◌, ◌≤◌, ◌<◌}
use native.Mathlib.Numerals.{add-one}
use native.Mathlib.Omega.{arith}
use lib.ListN.{length, get_or, set, drop}
use lib.Seq.{drop-cons, set_at}
use borrow.Author.Tests.{eq-eqb, ne_eqb, lt-ltb, le-ltb}
use Rattle.basics.specs.Tests.{Cmp, below, equal, above, cmp}
use Rattle.label.specs.Limits.{first_parameter, parameter_count, first_variable, first_minimum, term_end}
use Rattle.label.specs.Renamings.{rank, numbering, freeing}
use Rattle.label.proofs.RenamingLaws.{numbering-variable, numbering-minimum, freeing-constant, freeing-parameter, freeing-variable, freeing-minimum}
use Rattle.rename.specs.AscendingLaws.{rank-none, rank_most}
use Rattle.rename.specs.Maps.{tabled, is_used, used_variables, used_minimums, close_at}
use Rattle.rename.specs.MapLaws.{tabled-none, tabled-next, length-tabled, used-variables-ascending, used-variable, used-minimums-ascending, used-minimum, rank-next}
use Rattle.rename.specs.MapLaws.{close-low, close-used, close-unused}
use Rattle.rename.specs.FreeingLaws.{freeing-other}
use Rattle.rename.specs.Calls.{Closable, Countable}
use Rattle.rename.specs.Steps.{number_at, number_after, Numbering, Filled}

is-used : (used : List ℕ) (t : ℕ) → (get_or used t 0 ≡ 0 → ⊥) → is_used used t ≡ true
unfolding is_used
is-used used t h = rw (ne_eqb (get_or used t 0) 0 h)

is-unused : (used : List ℕ) (t : ℕ) → get_or used t 0 ≡ 0 → is_used used t ≡ false
unfolding is_used
is-unused used t h = rw (eq-eqb (get_or used t 0) 0 h)

-- the number of the next used variable, kind by kind
module _ (used : List ℕ) (first minimum t : ℕ) where
  at-variable : t < first_minimum → number_at used first minimum t ≡ first + rank (used_variables used) t
  unfolding number_at
  at-variable h = rw (lt-ltb t first_minimum h)

  at-minimum : first_minimum ≤ t → number_at used first minimum t ≡ minimum + rank (used_minimums used) t
  unfolding number_at
  at-minimum h = rw (le-ltb t first_minimum h)

-- close_term
pub close-is-low : (used : List ℕ) (first minimum : ℕ) {t : ℕ} → t < first_variable → t ≡ close_at used first minimum t
close-is-low used first minimum {t} h = sym (close-low used first minimum t h)

pub close-is-unused : (used : List ℕ) (first minimum : ℕ) {t : ℕ} → first_variable ≤ t → get_or used t 0 ≡ 0 → 0 ≡ close_at used first minimum t
close-is-unused used first minimum {t} h e = sym (close-unused used first minimum t h (is-unused used t e))

module _ {used : List ℕ} {first minimum t next : ℕ} (n : Numbering used first minimum t next) where
  pub close-is-number : first_variable ≤ t → (get_or used t 0 ≡ 0 → ⊥) → next ≡ close_at used first minimum t
  close-is-number h e = n.number ∙ go (cmp t first_minimum) ∙ sym (close-used used first minimum t h (is-used used t e))
    where
      least : first_minimum ≤ t → number_at used first minimum t ≡ numbering (used_variables used) (used_minimums used) first minimum t
      least k = at-minimum used first minimum t k ∙ sym (numbering-minimum (used_variables used) (used_minimums used) first minimum t k)

      go : Cmp t first_minimum → number_at used first minimum t ≡ numbering (used_variables used) (used_minimums used) first minimum t
      go (below k) = at-variable used first minimum t k ∙ sym (numbering-variable (used_variables used) (used_minimums used) first minimum t h k)
      go (equal k) = least (omega arith)
      go (above k) = least (omega arith)

  -- number_after
  pub number-below : next ≤ term_end
  number-below = go (cmp t first_minimum)
    where
      least : first_minimum ≤ t → next ≤ term_end
      least h = omega (arith, n.number, n.space, at-minimum used first minimum t h, rank_most (used_minimums used) t)

      go : Cmp t first_minimum → next ≤ term_end
      go (below h) = omega (arith, n.number, n.room, at-variable used first minimum t h, rank_most (used_variables used) t)
      go (equal h) = least (omega arith)
      go (above h) = least (omega arith)

  pub after-low : t < first_variable → next ≡ number_after used first minimum t
  unfolding number_after
  after-low h =
      let a = used-variables-ascending used in
      omega (
        arith,
        n.number,
        at-variable used first minimum t (omega arith),
        at-variable used first minimum (suc t) (omega arith),
        rank-none first_variable (used_variables used) t a (omega arith),
        rank-none first_variable (used_variables used) (suc t) a (omega arith),
      )

  -- the minimum variables begin
  pub after_last : t + 1 ≡ first_minimum → minimum ≡ number_after used first minimum t
  unfolding number_after
  after_last h =
      omega (
        arith,
        at-minimum used first minimum (suc t) (omega arith),
        rank-none first_minimum (used_minimums used) (suc t) (used-minimums-ascending used) (omega arith),
      )

  -- one more if t is used
  step : first_variable ≤ t → (t + 1 ≡ first_minimum → ⊥) → number_after used first minimum t ≡ next + cond (is_used used t) 1 0
  unfolding number_after
  step h l = go (cmp t first_minimum)
    where
      least : first_minimum ≤ t → number_at used first minimum (suc t) ≡ next + cond (is_used used t) 1 0
      least k =
          let e : rank (used_minimums used) (suc t) ≡ rank (used_minimums used) t + cond (is_used used t) 1 0 =
          rw (← used-minimum used t k n.inside) (rank-next first_minimum (used_minimums used) t (used-minimums-ascending used)) in
          omega (arith, n.number, at-minimum used first minimum t k, at-minimum used first minimum (suc t) (omega arith))

      go : Cmp t first_minimum → number_at used first minimum (suc t) ≡ next + cond (is_used used t) 1 0
      go (below k) =
          let e : rank (used_variables used) (suc t) ≡ rank (used_variables used) t + cond (is_used used t) 1 0 =
          rw (← used-variable used t h k) (rank-next first_variable (used_variables used) t (used-variables-ascending used)) in
          omega (arith, n.number, at-variable used first minimum t k, at-variable used first minimum (suc t) (omega arith))
      go (equal k) = least (omega arith)
      go (above k) = least (omega arith)

  pub after-unused : first_variable ≤ t → (t + 1 ≡ first_minimum → ⊥) → get_or used t 0 ≡ 0 → next ≡ number_after used first minimum t
  after-unused h l e = let z : number_after used first minimum t ≡ next + 0 = rw (is-unused used t e) at (step h l) in omega arith

  pub after-used : first_variable ≤ t → (t + 1 ≡ first_minimum → ⊥) → (get_or used t 0 ≡ 0 → ⊥) → next + 1 ≡ number_after used first minimum t
  after-used h l e = let z : number_after used first minimum t ≡ next + 1 = rw (is-used used t e) at (step h l) in omega arith

-- one more word written
fill-next : (f : ℕ → ℕ) (old map : List ℕ) (n v : ℕ) → n < length old → v ≡ f n → Filled f old map n → Filled f old (set map n v) (n + 1)
fill-next f old map n v h e p =
    let x : map ≡ tabled f n ++ (get_or old n 0 ∷ drop (suc n) old) = p ∙ ap (λ z. tabled f n ++ z) (drop-cons old n 0 h) in
    rw (add-one, tabled-next f n)
    (ap (λ m. set m n v) x ∙ set_at (tabled f n) (get_or old n 0) (drop (suc n) old) v n (length-tabled f n)
    ∙ ap (λ w. tabled f n ++ (w ∷ drop (suc n) old)) e ∙ sym (append_assoc (tabled f n) (f n ∷ []) (drop (suc n) old)))

fill_start : (f : ℕ → ℕ) (old : List ℕ) → Filled f old old 0
fill_start f old = rw (tabled-none f)

-- close_map: the terms below t are written, and `next` is the number of the next used variable
pub record Closing (used : List ℕ) (first minimum : ℕ) (old map : List ℕ) (t next : ℕ) : Type 0 where
  pub within : t ≤ term_end
  pub number : next ≡ number_at used first minimum t
  pub filled : Filled (close_at used first minimum) old map t

pub closing-start : (used : List ℕ) (first minimum : ℕ) (map : List ℕ) → Closing used first minimum map map 0 first
closing-start used first minimum map = record {
  within = omega arith;
  number = omega (arith, at-variable used first minimum 0 (omega arith), rank-none first_variable (used_variables used) 0 (used-variables-ascending used) (omega arith));
  filled = fill_start (close_at used first minimum) map;
}

module _ {used : List ℕ} {first minimum : ℕ} {old map : List ℕ} {t next : ℕ} (c : Closing used first minimum old map t next) (pre : Closable used first minimum old) where
  pub closing-numbering : t < term_end → Numbering used first minimum t next
  closing-numbering h = record { marks = pre.marks; room = pre.room; space = pre.space; inside = h; number = c.number }

  pub closing-on : {v r : ℕ} → t < term_end → v ≡ close_at used first minimum t → r ≡ number_after used first minimum t
      → Closing used first minimum old (set map t v) (t + 1) r
  unfolding number_after
  closing-on {v} {r} h e q = record {
    within = omega arith;
    number = rw add-one q;
    filled = fill-next (close_at used first minimum) old map t v (omega (arith, pre.whole)) e c.filled;
  }

  pub closing_end : term_end ≤ t → map ≡ tabled (close_at used first minimum) term_end ++ drop term_end old
  closing_end h = let w = c.within in let e : t ≡ term_end = omega arith in subst (Filled (close_at used first minimum) old map) e c.filled

-- free_term
pub free-constant : (c : ℕ) {t : ℕ} → t < first_parameter → t ≡ freeing c t
free-constant c {t} h = sym (freeing-constant c t h)

pub free-parameter : (c : ℕ) {t : ℕ} → first_parameter ≤ t → t < first_parameter + c → t + (first_variable - first_parameter) ≡ freeing c t
free-parameter c {t} h k = sym (freeing-parameter c t h k)

pub free_other : (c : ℕ) {t : ℕ} → first_parameter + c ≤ t → t < first_variable → t ≡ freeing c t
free_other c {t} h k = sym (freeing-other c t h k)

pub free-variable : (c : ℕ) {t : ℕ} → first_variable ≤ t → t < first_minimum → c ≤ parameter_count → t + c ≡ freeing c t
free-variable c {t} h k m = sym (freeing-variable c t (omega arith) h k)

pub free-minimum : (c : ℕ) {t : ℕ} → first_minimum ≤ t → c ≤ parameter_count → t ≡ freeing c t
free-minimum c {t} h m = sym (freeing-minimum c t (omega arith) h)

-- free_map: the terms below t are written
pub record FreeFill (count : ℕ) (old map : List ℕ) (t : ℕ) : Type 0 where
  pub within : t ≤ term_end
  pub filled : Filled (freeing count) old map t

pub freeing-start : (count : ℕ) (map : List ℕ) → FreeFill count map map 0
freeing-start count map = record { within = omega arith; filled = fill_start (freeing count) map }

module _ {count : ℕ} {old map : List ℕ} {t : ℕ} (c : FreeFill count old map t) where
  pub freeing-on : {v : ℕ} → Countable count old → t < term_end → v ≡ freeing count t → FreeFill count old (set map t v) (t + 1)
  freeing-on {v} pre h e = record { within = omega arith; filled = fill-next (freeing count) old map t v (omega (arith, pre.whole)) e c.filled }

  pub freeing-end : term_end ≤ t → map ≡ tabled (freeing count) term_end ++ drop term_end old
  freeing-end h = let w = c.within in let e : t ≡ term_end = omega arith in subst (Filled (freeing count) old map) e c.filled
