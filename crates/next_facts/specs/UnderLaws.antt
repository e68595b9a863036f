-- The rows found place by place are those of the tuples for which the diagram gives 1.
use Rattle.std.specs.Prelude.{◌≡◌, Bool, true, false, cond, get_or, set, take, drop, ltb}
use Rattle.std.proofs.Math.Path.{refl, sym, subst}
use Rattle.std.proofs.Common.{ap, ap₂, ◌∙◌, length-set, length-append, get_or-set_same, get_or-set_other}
use mathlib.Core.List.{List, [], ◌∷◌, ◌++◌, map, append-nil, append_assoc, Memᴰ}
use Prim.Native.Nat.{ℕ, zero, suc, pred, ◌+◌, ◌-◌, ◌≤◌, ◌<◌}
use native.Mathlib.Omega.{arith}
use Rattle.std.proofs.Math.ListN.{length, length-drop, get_or-append, get_or-eq_default}
use Rattle.std.proofs.lemmas.List.{length-map}
use Rattle.std.proofs.Math.Seq.{length-take-le, get_or-take, get_or-drop, ext_get_or, get_or-append_seam}
use Rattle.std.proofs.Math.Dec.{eqb}
use borrow.Author.Tests.{eqb-true, eqb-false, eq-eqb, ne_eqb, lt-ltb, le-ltb, not-true, not-false}
use Rattle.basics.specs.Tests.{Flag, is_true, is_false, flag, Cmp, below, equal, above, cmp}
use Rattle.label.specs.Limits.{first_parameter, first_variable, constant_count, term_end, most_places}
use Rattle.diagram.specs.Words.{row_count, up_to}
use Rattle.diagram.specs.WordLaws.{get_d_map, get_d-up_to, length-up_to}
use Rattle.diagram.specs.Validity.{Valid, tree}
use Rattle.diagram.specs.Listing.{diagram_of}
use Rattle.diagram.specs.DiagramOfListing.{diagram-is, good-diagram}
use Rattle.paths.specs.PathLaws.{mem-unmap}
use Rattle.state.specs.State.{Good, meaning, value, low, fixed}
use Rattle.state.specs.Next.{inner}
use Rattle.state.specs.Max.{Tuple, none, more, gather, those, tuples}
use Rattle.state.specs.Highest.{Bound}
use Rattle.state.proofs.HighestLaws.{start_fits}
use Rattle.state.specs.Lent.{state_of, fact_row}
use Rattle.state.proofs.ValueLaws.{low-lt, low-ge, by-low}
use Rattle.regression.specs.Result.{AtMost}
use Rattle.regression.proofs.StepLaws.{eval-most}
use Rattle.regression.proofs.ResultLaws.{value-meaning}
use Rattle.reduction.proofs.ListLaws.{in-up_to}
use Rattle.reduction.proofs.CombinationLaws.{in-tuples}
use Rattle.next_facts.specs.Reach.{free, reach_in, reached}
use Rattle.next_facts.specs.ReachLaws.{reach-sound, reach-exact}
use Rattle.next_facts.specs.Filling.{first_word, first_env, objects_in, under}

-- ===== Lists =====
those-append : {A : Type 0} (q : A → Bool) (xs ys : List A) → those q (xs ++ ys) ≡ those q xs ++ those q ys
those-append q [] ys = refl
those-append {A} q (x ∷ xs) ys = go (q x) (those-append q xs ys)
  where
    go : (b : Bool) → those q (xs ++ ys) ≡ those q xs ++ those q ys
        → cond b (x ∷ those q (xs ++ ys)) (those q (xs ++ ys)) ≡ cond b (x ∷ those q xs) (those q xs) ++ those q ys
    go true e = ap (λ (l : List A). x ∷ l) e
    go false e = e

map-append' : {A B : Type 0} (f : A → B) (xs ys : List A) → map f (xs ++ ys) ≡ map f xs ++ map f ys
map-append' f [] ys = refl
map-append' {A} {B} f (x ∷ xs) ys = ap (λ (l : List B). f x ∷ l) (map-append' f xs ys)

pub those-none : {A : Type 0} (q : A → Bool) (l : List A) → ((a : A) → Memᴰ a l → q a ≡ false) → those q l ≡ []
those-none q [] h = refl
those-none q (x ∷ l) h = rw (h x (Memᴰ.head refl)) (those-none q l (λ a m. h a (Memᴰ.tail m)))

pub those-same : {A : Type 0} (q r : A → Bool) (l : List A) → ((a : A) → Memᴰ a l → q a ≡ r a) → those q l ≡ those r l
those-same q r [] h = refl
those-same {A} q r (x ∷ l) h = ap₂ (λ (b : Bool) (z : List A). cond b (x ∷ z) z) (h x (Memᴰ.head refl)) (those-same q r l (λ a m. h a (Memᴰ.tail m)))

-- the tuples with a first object more, object by object
spread-out : (q : List ℕ → Bool) (p : ℕ) (us : List ℕ) (ts : List (List ℕ)) (f : ℕ → List (List ℕ)) (xs : List ℕ)
    → ((o : ℕ) → Memᴰ o xs → f o ≡ map (fact_row p) (those q (map ((us ++ (o ∷ [])) ++◌) ts)))
    → gather f xs ≡ map (fact_row p) (those q (map (us ++◌) (gather (λ o. map (o ∷◌) ts) xs)))
spread-out q p us ts f [] h = refl
spread-out q p us ts f (o ∷ xs) h =
    ap₂ (λ (a b : List (List ℕ)). a ++ b) (h o (Memᴰ.head refl) ∙ ap (λ (l : List (List ℕ)). map (fact_row p) (those q l)) (one ts)) (spread-out q p us ts f xs (λ x m. h x (Memᴰ.tail m)))
    ∙ sym (ap (λ (l : List (List ℕ)). map (fact_row p) (those q l)) (map-append' (us ++◌) (map (o ∷◌) ts) (gather (λ o. map (o ∷◌) ts) xs))
    ∙ ap (map (fact_row p)) (those-append q (map (us ++◌) (map (o ∷◌) ts)) (map (us ++◌) (gather (λ o. map (o ∷◌) ts) xs)))
    ∙ map-append' (fact_row p) (those q (map (us ++◌) (map (o ∷◌) ts))) (those q (map (us ++◌) (gather (λ o. map (o ∷◌) ts) xs))))
  where
    one : (l : List (List ℕ)) → map ((us ++ (o ∷ [])) ++◌) l ≡ map (us ++◌) (map (o ∷◌) l)
    one [] = refl
    one (v ∷ l) = ap₂ (λ (a : List ℕ) (b : List (List ℕ)). a ∷ b) (append_assoc us (o ∷ []) v) (one l)

any-default : (xs : List ℕ) (i d e : ℕ) → i < length xs → get_or xs i d ≡ get_or xs i e
any-default [] i d e l = absurd (omega arith)
any-default (x ∷ xs) zero d e l = refl
any-default (x ∷ xs) (suc i) d e l = any-default xs i d e (omega arith)

tuple-length : {n c : ℕ} {os : List ℕ} → Tuple n c os → length os ≡ c
tuple-length none = refl
tuple-length (more h t) = ap suc (tuple-length t)

pub tuple-size : {n c : ℕ} {os : List ℕ} → Tuple n c os → length os ≡ c
tuple-size t = tuple-length t

not-one : (x : ℕ) → x ≡ 0 → eqb x 1 ≡ false
not-one x e = ne_eqb x 1 (λ y. omega arith)

-- ===== The words while places have objects =====

pub record Stage (constants os : List ℕ) (k n : ℕ) (env us : List ℕ) : Type 0 where
  pub words : length env ≡ term_end
  pub few : length us ≤ k
  pub given : (i : ℕ) → i < length us → get_or env (first_variable + i) 0 ≡ get_or us i 0
  pub small : (i : ℕ) → i < length us → get_or us i 0 < n
  pub before : (t : ℕ) → t < first_variable → get_or env t 0 ≡ first_word constants os k t
  pub behind : (t : ℕ) → first_variable + length us ≤ t → t < term_end → get_or env t 0 ≡ first_word constants os k t

pub stage-start : (constants os : List ℕ) (k n : ℕ) → Stage constants os k n (first_env constants os k) []
unfolding first_env
stage-start constants os k n = record {
  words = length-map (up_to term_end) (first_word constants os k) ∙ length-up_to term_end;
  few = omega arith;
  given = λ i h. absurd (omega arith);
  small = λ i h. absurd (omega arith);
  before = λ t h. word t (omega arith);
  behind = λ t h l. word t l;
}
  where
    word : (t : ℕ) → t < term_end → get_or (map (first_word constants os k) (up_to term_end)) t 0 ≡ first_word constants os k t
    word t h = get_d_map (first_word constants os k) (up_to term_end) t 0 0 (omega (arith, length-up_to term_end)) ∙ ap (first_word constants os k) (get_d-up_to term_end t h)

module _ {constants os : List ℕ} {k n : ℕ} {env us : List ℕ} (s : Stage constants os k n env us) where
  stage-on : (o : ℕ) → o < n → length us < k → k ≤ most_places → Stage constants os k n (set env (first_variable + length us) o) (us ++ (o ∷ []))
  stage-on o b h w =
      let e : length (us ++ (o ∷ [])) ≡ suc (length us) = length-append us (o ∷ []) ∙ omega arith in
      record {
        words = length-set env (first_variable + length us) o ∙ s.words;
        few = omega arith;
        given = λ i m. fresh i (cmp i (length us)) (omega arith);
        small = λ i m. low-one i (cmp i (length us)) (omega arith);
        before = λ t m. get_or-set_other env (first_variable + length us) t o 0 (omega arith) ∙ s.before t m;
        behind = λ t m l. get_or-set_other env (first_variable + length us) t o 0 (omega arith) ∙ s.behind t (omega arith) l;
      }
    where
      fresh : (i : ℕ) → Cmp i (length us) → i < suc (length us) → get_or (set env (first_variable + length us) o) (first_variable + i) 0 ≡ get_or (us ++ (o ∷ [])) i 0
      fresh i (below c) m = get_or-set_other env (first_variable + length us) (first_variable + i) o 0 (omega arith) ∙ s.given i c ∙ sym (get_or-append us (o ∷ []) 0 i c)
      fresh i (equal c) m =
          subst (λ (j : ℕ). get_or (set env (first_variable + length us) o) (first_variable + j) 0 ≡ get_or (us ++ (o ∷ [])) j 0) (sym c)
          (get_or-set_same env (first_variable + length us) o 0 (omega (arith, s.words)) ∙ sym (get_or-append_seam us o [] 0))
      fresh i (above c) m = absurd (omega arith)

      low-one : (i : ℕ) → Cmp i (length us) → i < suc (length us) → get_or (us ++ (o ∷ [])) i 0 < n
      low-one i (below c) m = rw (get_or-append us (o ∷ []) 0 i c) (s.small i c)
      low-one i (equal c) m = subst (λ (j : ℕ). get_or (us ++ (o ∷ [])) j 0 < n) (sym c) (rw (get_or-append_seam us o [] 0) b)
      low-one i (above c) m = absurd (omega arith)

  stage-arguments : length us ≡ k → k ≤ most_places → objects_in env first_variable k ≡ us
  unfolding objects_in
  stage-arguments e h =
      let z : length (take k (drop first_variable env)) ≡ k = length-take-le k (drop first_variable env) (omega (arith, length-drop first_variable env, s.words)) in
      ext_get_or 0 (take k (drop first_variable env)) us (z ∙ sym e) (λ i m.
      get_or-take k (drop first_variable env) i 0 (omega arith) ∙ get_or-drop first_variable env i 0 ∙ s.given i (omega arith))

-- ===== Against the state =====

module _ (ar : List ℕ) (n : ℕ) (constants facts os : List ℕ) where
  first-fixed : (k t : ℕ) → t < first_variable → first_word constants os k t ≡ fixed (state_of ar n constants facts) os t
  unfolding state_of fixed first_word
  first-fixed k t h = rw (lt-ltb t first_variable h) (by-low
      (cond (ltb t first_parameter) (get_or constants t 0) (get_or os (t - first_parameter) (get_or constants 0 0))
      ≡ low first_parameter t (low constant_count t (get_or constants t 0) 0) (get_or os (t - first_parameter) (get_or constants 0 0))) first_parameter t
      (λ l. rw (lt-ltb t first_parameter l) refl) (λ l. rw (le-ltb t first_parameter l) refl))

  first-behind : (k t : ℕ) → first_variable + k ≤ t → first_word constants os k t ≡ get_or constants 0 0
  unfolding first_word
  first-behind k t h = rw (le-ltb t first_parameter (omega arith), le-ltb t first_variable (omega arith), le-ltb (t - first_variable) k (omega arith)) refl

  first-free : (k t : ℕ) → first_variable ≤ t → t < first_variable + k → first_word constants os k t ≡ free
  unfolding first_word
  first-free k t h l = rw (le-ltb t first_parameter (omega arith), le-ltb t first_variable h, lt-ltb (t - first_variable) k (omega arith)) refl

  inner-low : (vs : List ℕ) (t : ℕ) → t < first_variable → inner (state_of ar n constants facts) os vs t ≡ fixed (state_of ar n constants facts) os t
  unfolding inner
  inner-low vs t h = low-lt first_variable t _ _ h

  pub inner-high : (vs : List ℕ) (t : ℕ) → first_variable ≤ t → inner (state_of ar n constants facts) os vs t ≡ get_or vs (t - first_variable) (get_or constants 0 0)
  unfolding inner state_of
  inner-high vs t h = low-ge first_variable t (fixed (state_of ar n constants facts) os t) (get_or vs (t - first_variable) (get_or constants 0 0)) h

  -- a completion of the words
  module _ {k : ℕ} {env us : List ℕ} (s : Stage constants os k n env us) (vs : List ℕ) (rest : List ℕ) (e : vs ≡ us ++ rest) (size : length vs ≡ k) where
    completes : (t : ℕ) → t < term_end → (get_or env t 0 ≡ free → ⊥) → inner (state_of ar n constants facts) os vs t ≡ get_or env t 0
    completes t h z = go (cmp t first_variable)
      where
        high : first_variable ≤ t → Cmp (t - first_variable) (length us) → Cmp (t - first_variable) k → get_or vs (t - first_variable) (get_or constants 0 0) ≡ get_or env t 0
        high l (below c) d =
            let i = t - first_variable in
            let q : first_variable + (t - first_variable) ≡ t = omega arith in
            ap (λ (x : List ℕ). get_or x (t - first_variable) (get_or constants 0 0)) e
            ∙ get_or-append us rest (get_or constants 0 0) (t - first_variable) c ∙ any-default us (t - first_variable) (get_or constants 0 0) 0 c
            ∙ sym (s.given (t - first_variable) c) ∙ ap (λ (x : ℕ). get_or env x 0) q
        high l (equal c) d = past l (omega arith) d
          where
            past : first_variable ≤ t → first_variable + length us ≤ t → Cmp (t - first_variable) k → get_or vs (t - first_variable) (get_or constants 0 0) ≡ get_or env t 0
            past l m (below b) = absurd (z (s.behind t m h ∙ first-free k t l (omega arith)))
            past l m (equal b) = get_or-eq_default vs (get_or constants 0 0) (omega arith) ∙ sym (s.behind t m h ∙ first-behind k t (omega arith))
            past l m (above b) = get_or-eq_default vs (get_or constants 0 0) (omega arith) ∙ sym (s.behind t m h ∙ first-behind k t (omega arith))
        high l (above c) (below b) = absurd (z (s.behind t (omega arith) h ∙ first-free k t l (omega arith)))
        high l (above c) (equal b) = get_or-eq_default vs (get_or constants 0 0) (omega arith) ∙ sym (s.behind t (omega arith) h ∙ first-behind k t (omega arith))
        high l (above c) (above b) = get_or-eq_default vs (get_or constants 0 0) (omega arith) ∙ sym (s.behind t (omega arith) h ∙ first-behind k t (omega arith))

        go : Cmp t first_variable → inner (state_of ar n constants facts) os vs t ≡ get_or env t 0
        go (below l) = inner-low vs t l ∙ sym (s.before t l ∙ first-fixed k t l)
        go (equal l) = inner-high vs t (omega arith) ∙ high (omega arith) (cmp (t - first_variable) (length us)) (cmp (t - first_variable) k)
        go (above l) = inner-high vs t (omega arith) ∙ high (omega arith) (cmp (t - first_variable) (length us)) (cmp (t - first_variable) k)

  module _ (good : Good (state_of ar n constants facts)) (bound : Bound (state_of ar n constants facts) os) (most : n ≤ free) where
    first_small : (k t : ℕ) → t < first_variable → first_word constants os k t < n
    unfolding state_of
    first_small k t h =
        let f = start_fits (state_of ar n constants facts) os good bound in
        rw (first-fixed k t h) (subst (◌< n) (f.low t h) (f.range t))

    constant-small : get_or constants 0 0 < n
    unfolding state_of
    constant-small = good.placed 0

    -- nothing is open where all places have objects
    closed_at : {k : ℕ} {env us : List ℕ} → Stage constants os k n env us → length us ≡ k → (t : ℕ) → t < term_end → get_or env t 0 ≡ free → ⊥
    closed_at {k} {env} {us} s e t h z = go (cmp t first_variable) (cmp t (first_variable + k))
      where
        high : first_variable ≤ t → Cmp t (first_variable + k) → ⊥
        high l (below c) =
            let q : first_variable + (t - first_variable) ≡ t = omega arith in
            omega (arith, most, z, s.small (t - first_variable) (omega arith), s.given (t - first_variable) (omega arith), ap (λ (x : ℕ). get_or env x 0) q)
        high l (equal c) = omega (arith, most, z, constant-small, s.behind t (omega arith) h, first-behind k t (omega arith))
        high l (above c) = omega (arith, most, z, constant-small, s.behind t (omega arith) h, first-behind k t (omega arith))

        go : Cmp t first_variable → Cmp t (first_variable + k) → ⊥
        go (below l) c = omega (arith, most, z, s.before t l, first_small k t l)
        go (equal l) c = high (omega arith) c
        go (above l) c = high (omega arith) c

    module _ (ws : List ℕ) (v : Valid ar ws) (bits : AtMost 1 (diagram_of ws)) (p k : ℕ) (few : k ≤ most_places) where
      -- the diagram gives 1
      unfoldable pub is_one : List ℕ → Bool
      unfolding value inner meaning state_of
      is_one vs = eqb (value (state_of ar n constants facts) (meaning ar (diagram_of ws)) (inner (state_of ar n constants facts) os vs)) 1

      root : (env : List ℕ) → reach_in ar facts env (tree ws (pred (row_count ws))) ≡ reach_in ar facts env (diagram_of ws)
      root env = ap (reach_in ar facts env) (sym (diagram-is ar ws v))

      left_out : {env us : List ℕ} → Stage constants os k n env us → reached ar facts ws env ≡ false → (vs rest : List ℕ) → vs ≡ us ++ rest → length vs ≡ k → is_one vs ≡ false
      unfolding reached is_one
      left_out {env} s e vs rest d size =
          let z = eqb-true _ 0 (not-false _ e) in
          let w = reach-sound ar v.arities n constants facts env (inner (state_of ar n constants facts) os vs) (completes s vs rest d size) (diagram_of ws)
          (good-diagram ar ws v).fine (sym (root env) ∙ z) in
          not-one _ w

      kept_in : {env us : List ℕ} → Stage constants os k n env us → reached ar facts ws env ≡ true → length us ≡ k → is_one us ≡ true
      unfolding reached is_one
      kept_in {env} {us} s e size =
          let z = eqb-false _ 0 (not-true _ e) in
          let w = reach-exact ar v.arities n constants facts env (inner (state_of ar n constants facts) os us) (completes s us [] (sym (append-nil us)) size)
          (closed_at s size) (diagram_of ws) (good-diagram ar ws v).fine in
          let b = eval-most 1 _ (diagram_of ws) bits in
          let m = value-meaning (state_of ar n constants facts) ar (diagram_of ws) (inner (state_of ar n constants facts) os us) in
          let r = root env in
          eq-eqb _ 1 (one _ (λ y. z (r ∙ w ∙ y)) (subst (◌≤ 1) (sym m) b))
        where
          one : (x : ℕ) → (x ≡ 0 → ⊥) → x ≤ 1 → x ≡ 1
          one x a b = omega arith

      under-no : (c : ℕ) (env : List ℕ) → reached ar facts ws env ≡ false → under ar facts ws p k n c env ≡ []
      unfolding under
      under-no zero env e = rw e refl
      under-no (suc c) env e = rw e refl

      under_one : (env : List ℕ) → reached ar facts ws env ≡ true → under ar facts ws p k n 0 env ≡ fact_row p (objects_in env first_variable k) ∷ []
      unfolding under
      under_one env e = rw e refl

      under_more : (c : ℕ) (env : List ℕ) → reached ar facts ws env ≡ true
          → under ar facts ws p k n (suc c) env ≡ gather (λ o. under ar facts ws p k n c (set env (first_variable + (k - (c + 1))) o)) (up_to n)
      unfolding under
      under_more c env e = rw e refl

      none_left : (c : ℕ) (env us : List ℕ) → Stage constants os k n env us → length us + c ≡ k → reached ar facts ws env ≡ false
          → [] ≡ map (fact_row p) (those is_one (map (us ++◌) (tuples n c)))
      none_left c env us s e f = sym (ap (map (fact_row p)) (those-none is_one (map (us ++◌) (tuples n c)) (λ vs m.
          let u = mem-unmap (us ++◌) (tuples n c) vs m in
          let t = tuple-length (in-tuples n c u.0 u.1) in
          left_out s f vs u.0 u.2 (ap length u.2 ∙ length-append us u.0 ∙ ap (length us +◌) t ∙ e))))

      one-tuple : (us : List ℕ) → is_one us ≡ true → fact_row p us ∷ [] ≡ map (fact_row p) (those is_one (map (us ++◌) (tuples n 0)))
      unfolding tuples
      one-tuple us h = rw (append-nil us, h) refl

      abbrev UnderIs : ℕ → Type 0
      UnderIs c = (env us : List ℕ) → Stage constants os k n env us → length us + c ≡ k
          → under ar facts ws p k n c env ≡ map (fact_row p) (those is_one (map (us ++◌) (tuples n c)))

      under-zero : UnderIs 0
      under-zero env us s e = go (flag (reached ar facts ws env))
        where
          go : Flag (reached ar facts ws env) → under ar facts ws p k n 0 env ≡ map (fact_row p) (those is_one (map (us ++◌) (tuples n 0)))
          go (is_false f) = under-no 0 env f ∙ none_left 0 env us s e f
          go (is_true f) =
              let z : length us ≡ k = omega arith in
              under_one env f ∙ ap (λ (xs : List ℕ). fact_row p xs ∷ []) (stage-arguments s z few) ∙ one-tuple us (kept_in s f z)

      under-suc : (c : ℕ) → UnderIs c → UnderIs (suc c)
      unfolding tuples
      under-suc c ih env us s e = go (flag (reached ar facts ws env))
        where
          next-stage : (o : ℕ) → o < n → Stage constants os k n (set env (first_variable + (k - (c + 1))) o) (us ++ (o ∷ []))
          next-stage o b =
              let z : length us ≡ k - (c + 1) = omega arith in
              subst (λ (x : ℕ). Stage constants os k n (set env (first_variable + x) o) (us ++ (o ∷ []))) z (stage-on s o b (omega arith) few)

          go : Flag (reached ar facts ws env) → under ar facts ws p k n (suc c) env ≡ map (fact_row p) (those is_one (map (us ++◌) (tuples n (suc c))))
          go (is_false f) = under-no (suc c) env f ∙ none_left (suc c) env us s e f
          go (is_true f) =
              under_more c env f
              ∙ spread-out is_one p us (tuples n c) (λ o. under ar facts ws p k n c (set env (first_variable + (k - (c + 1))) o)) (up_to n) (λ o m.
              ih (set env (first_variable + (k - (c + 1))) o) (us ++ (o ∷ [])) (next-stage o (in-up_to n o m)) (omega (arith, length-append us (o ∷ []))))

      -- the rows under a prefix are those of its tuples
      pub under-is : (c : ℕ) → UnderIs c
      under-is zero env us s e = under-zero env us s e
      under-is (suc c) env us s e = under-suc c (under-is c) env us s e

      all-tuples : (l : List (List ℕ)) → map ([] ++◌) l ≡ l
      all-tuples [] = refl
      all-tuples (x ∷ l) = ap (λ (r : List (List ℕ)). x ∷ r) (all-tuples l)

      -- all rows
      pub rows_are : under ar facts ws p k n k (first_env constants os k) ≡ map (fact_row p) (those is_one (tuples n k))
      rows_are = under-is k (first_env constants os k) [] (stage-start constants os k n) (omega arith) ∙ ap (λ (l : List (List ℕ)). map (fact_row p) (those is_one l)) (all-tuples (tuples n k))
