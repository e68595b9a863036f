-- The search forms what document 02 counts as formed, and marks the paths that win.
use Rattle.std.specs.Prelude.{◌≡◌, Bool, false, ◌&&◌, ◌||◌, cond, length, get_or}
use Rattle.std.proofs.Math.Path.{refl, sym, ap, ap₂, subst}
use Rattle.std.proofs.Common.{◌∙◌, inl, inr, arith, eq-eqb, ne_eqb, eqb-true}
use Rattle.std.proofs.Math.Bool.{true, not}
use mathlib.Core.List.Memᴰ
use mathlib.Core.List.{List, [], ◌∷◌, ◌++◌, map, reverse, append-nil, append_assoc, Memᴰ, reverse-cons}
use Prim.Native.Nat.{ℕ, zero, suc, ◌+◌, ◌≤◌, ◌<◌}
use Rattle.std.proofs.Math.ListN.{length-map}
use Rattle.std.proofs.Math.Dec.{eqb}
use Rattle.basics.specs.Tests.{Flag, is_true, is_false, flag}
use Rattle.basics.specs.Members.{mem, clash}
use Rattle.label.specs.Limits.{term_base}
use Rattle.label.specs.Renamings.{rank}
use Rattle.diagram.specs.Diagram.{Diagram}
use Rattle.diagram.specs.Words.{up_to}
use Rattle.diagram.specs.Variables.{variables}
use Rattle.rename.specs.VariableLaws.{variables-few}
use Rattle.state.specs.Max.{Tuple, none, more, gather, those, tuples}
use Rattle.paths.specs.Paths.{Literal, paths, literals}
use Rattle.paths.specs.PathLaws.{paths-are, mem-unmap}
use Rattle.paths.specs.Routes.{path_at}
use Rattle.reduction.specs.Combinations.{some_of, valuations, object_of, Ground, ground_of, opposed, consistent, grounds}
use Rattle.reduction.specs.Combinations.{facts, is_consistent, choices, combinations, formed_by, formed, before, winner, winners}
use Rattle.reduction.specs.Inner.{AtLeast}
use Rattle.reduction.proofs.ListLaws.{reverse-in}
use Rattle.reduction.proofs.CombinationLaws.{in-tuples, tuples-in, in-choices, at-least-trans, earlier, winner-in, winner-first}
use Rattle.reduce.specs.Searching.{Way, ways, sum_of, better_of, formed_on, winners_on}
use Rattle.reduce.specs.Facts.{fact_of, code_of, codes_of, choice_codes, clashing, is_clear}
use Rattle.reduce.specs.FactLaws.{opposed-clash}
use Rattle.reduce.specs.ClearLaws.{Within, Quiet, clear-quiet, clear-same, allowed, learnt, all-allowed, ways_over, ways-over, append-within}

-- ===== Lists =====
abbrev pub AllOf : {A : Type 0} → (A → Type 0) → List A → Type 0
AllOf P [] = Unit {0}
AllOf P (a ∷ l) = P a × AllOf P l

all_append : {A : Type 0} (P : A → Type 0) (l m : List A) → AllOf P l → AllOf P m → AllOf P (l ++ m)
all_append P [] m x y = y
all_append P (a ∷ l) m x y = (x.0, all_append P l m x.1 y)

all-mem : {A : Type 0} (P : A → Type 0) (l : List A) → ((a : A) → Memᴰ a l → P a) → AllOf P l
all-mem P [] h = tt
all-mem P (a ∷ l) h = (h a (Memᴰ.head refl), all-mem P l (λ b m. h b (Memᴰ.tail m)))

module _ {A B : Type 0} where
  all-gather : (P : A → Type 0) (Q : B → Type 0) (g : A → List B) (l : List A) → AllOf P l → ((a : A) → P a → AllOf Q (g a)) → AllOf Q (gather g l)
  all-gather P Q g [] x h = tt
  all-gather P Q g (a ∷ l) x h = all_append Q (g a) (gather g l) (h a x.0) (all-gather P Q g l x.1 h)

  map-append : (f : A → B) (l m : List A) → map f (l ++ m) ≡ map f l ++ map f m
  map-append f [] m = refl
  map-append f (a ∷ l) m = ap (λ (x : List B). f a ∷ x) (map-append f l m)

  sum-map : (f : B → ℕ) (g : A → B) (l : List A) → sum_of f (map g l) ≡ sum_of (λ a. f (g a)) l
  sum-map f g [] = refl
  sum-map f g (a ∷ l) = ap (λ (n : ℕ). f (g a) + n) (sum-map f g l)

  gather_cong : (P : A → Type 0) (f g : A → List B) (l : List A) → AllOf P l → ((a : A) → P a → f a ≡ g a) → gather f l ≡ gather g l
  gather_cong P f g [] x h = refl
  gather_cong P f g (a ∷ l) x h = ap₂ ◌++◌ (h a x.0) (gather_cong P f g l x.1 h)

  those-map : (p : B → Bool) (f : A → B) (l : List A) → those p (map f l) ≡ map f (those (λ a. p (f a)) l)
  those-map p f [] = refl
  those-map p f (a ∷ l) = go (p (f a)) (those-map p f l)
    where
      go : (b : Bool) → those p (map f l) ≡ map f (those (λ a. p (f a)) l) → cond b (f a ∷ those p (map f l)) (those p (map f l)) ≡ map f (cond b (a ∷ those (λ a. p (f a)) l) (those (λ a. p (f a)) l))
      go true ih = ap (λ (x : List B). f a ∷ x) ih
      go false ih = ih

module _ {A : Type 0} where
  sum-append : (f : A → ℕ) (l m : List A) → sum_of f (l ++ m) ≡ sum_of f l + sum_of f m
  sum-append f [] m = omega arith
  sum-append f (a ∷ l) m = omega (arith, sum-append f l m)

  sum-suc : (f : A → ℕ) (l : List A) → sum_of (λ a. suc (f a)) l ≡ length l + sum_of f l
  sum-suc f [] = omega arith
  sum-suc f (a ∷ l) = omega (arith, sum-suc f l)

module _ {B C : Type 0} where
  gather_append : (f : B → List C) (l m : List B) → gather f (l ++ m) ≡ gather f l ++ gather f m
  gather_append f [] m = refl
  gather_append f (b ∷ l) m = ap (λ (x : List C). f b ++ x) (gather_append f l m) ∙ sym (append_assoc (f b) (gather f l) (gather f m))

module _ {A B C : Type 0} where
  map-gather : (f : B → C) (g : A → List B) (l : List A) → map f (gather g l) ≡ gather (λ a. map f (g a)) l
  map-gather f g [] = refl
  map-gather f g (a ∷ l) = map-append f (g a) (gather g l) ∙ ap (λ (x : List C). map f (g a) ++ x) (map-gather f g l)

  gather-map : (f : B → List C) (g : A → B) (l : List A) → gather f (map g l) ≡ gather (λ a. f (g a)) l
  gather-map f g [] = refl
  gather-map f g (a ∷ l) = ap (λ (x : List C). f (g a) ++ x) (gather-map f g l)

  gather-gather : (f : B → List C) (g : A → List B) (l : List A) → gather f (gather g l) ≡ gather (λ a. gather f (g a)) l
  gather-gather f g [] = refl
  gather-gather f g (a ∷ l) = gather_append f (g a) (gather g l) ∙ ap (λ (x : List C). gather f (g a) ++ x) (gather-gather f g l)

  map-map : (f : B → C) (g : A → B) (l : List A) → map f (map g l) ≡ map (λ a. f (g a)) l
  map-map f g [] = refl
  map-map f g (a ∷ l) = ap (λ (x : List C). f (g a) ∷ x) (map-map f g l)

module _ {A B : Type 0} where
  sum-gather : (f : B → ℕ) (g : A → List B) (l : List A) → sum_of f (gather g l) ≡ sum_of (λ a. sum_of f (g a)) l
  sum-gather f g [] = refl
  sum-gather f g (a ∷ l) = sum-append f (g a) (gather g l) ∙ ap (λ (n : ℕ). sum_of f (g a) + n) (sum-gather f g l)

  gather-one : (f : A → B) (l : List A) → gather (λ a. f a ∷ []) l ≡ map f l
  gather-one f [] = refl
  gather-one f (a ∷ l) = ap (λ (x : List B). f a ∷ x) (gather-one f l)

-- numbers from k on
abbrev pub count : ℕ → ℕ → List ℕ
count k zero = []
count k (suc n) = k ∷ count (suc k) n

count-snoc : (k n : ℕ) → count k (suc n) ≡ count k n ++ ((k + n) ∷ [])
count-snoc k zero = ap (λ (x : ℕ). x ∷ []) (let e : k ≡ k + 0 = omega arith in e)
count-snoc k (suc n) = ap (λ (l : List ℕ). k ∷ l) (count-snoc (suc k) n ∙ ap (λ (x : ℕ). count (suc k) n ++ (x ∷ [])) (let e : suc k + n ≡ k + suc n = omega arith in e))

pub up-count : (n : ℕ) → up_to n ≡ count 0 n
up-count zero = refl
up-count (suc n) = ap (λ (l : List ℕ). l ++ (n ∷ [])) (up-count n) ∙ ap (λ (x : ℕ). count 0 n ++ (x ∷ [])) (let e : n ≡ 0 + n = omega arith in e) ∙ sym (count-snoc 0 n)

module _ (ar : List ℕ) (d : Diagram) where
  abbrev vs : List ℕ
  vs = variables ar d

  -- a valuation's objects fit the places of a label
  abbrev Small : List ℕ → Type 0
  Small os = (t : ℕ) → object_of vs os t < term_base

  -- ===== Consistent is clear =====
  data Told : List Ground → List ℕ → Type 0 where
    nothing : Told [] []
    further : {gs : List Ground} {xs : List ℕ} (os : List ℕ) (l : Literal) → Small os → Told gs xs → Told (ground_of ar vs os l ∷ gs) (code_of (fact_of ar vs os) l ∷ xs)

  told-append : {gs hs : List Ground} {xs ys : List ℕ} → Told gs xs → Told hs ys → Told (gs ++ hs) (xs ++ ys)
  told-append nothing u = u
  told-append (further os l s t) u = further os l s (told-append t u)

  told-path : (os : List ℕ) → Small os → (ls : List Literal) → Told (map (ground_of ar vs os) ls) (map (code_of (fact_of ar vs os)) ls)
  told-path os s [] = nothing
  told-path os s (l ∷ ls) = further os l s (told-path os s ls)

  told-facts : (us : List (List ℕ)) (ks : List ℕ) → AllOf Small us → Told (facts ar d us ks) (choice_codes ar d us ks)
  unfolding facts choice_codes grounds codes_of
  told-facts [] ks s = nothing
  told-facts (os ∷ us) [] s = nothing
  told-facts (os ∷ us) (k ∷ ks) s = told-append (told-path os s.0 (literals (path_at d k))) (told-facts us ks s.1)

  told-some : (os : List ℕ) (l : Literal) → Small os → {gs : List Ground} {xs : List ℕ} → Told gs xs
      → some_of (opposed (ground_of ar vs os l)) gs ≡ some_of (clashing (code_of (fact_of ar vs os) l)) xs
  told-some os l s nothing = refl
  told-some os l s (further us m r t) = ap₂ ◌||◌ (opposed-clash ar vs os us s r l m) (told-some os l s t)

  told-clear : {gs : List Ground} {xs : List ℕ} → Told gs xs → consistent gs ≡ is_clear xs
  unfolding consistent is_clear
  told-clear nothing = refl
  told-clear (further os l s t) = ap₂ (λ (a b : Bool). not a && b) (told-some os l s t) (told-clear t)

  -- ===== One valuation more =====
  record Pair : Type 0 where
    choice : List ℕ
    known : List ℕ

  record Related (us : List (List ℕ)) (p : Pair) : Type 0 where
    known_in : Within p.known (choice_codes ar d us p.choice)
    in-known : Within (choice_codes ar d us p.choice) p.known
    quiet : Quiet p.known

  abbrev fact : List ℕ → ℕ → ℕ
  fact os = fact_of ar vs os

  pair_of : List ℕ → Way → Pair
  pair_of ks w = record { choice = w.path ∷ ks; known = w.known }

  nexts : List ℕ → Pair → List Pair
  nexts os p = map (pair_of p.choice) (ways (fact os) d p.known 0)

  module _ (os : List ℕ) (us : List (List ℕ)) (small : AllOf Small (os ∷ us)) (p : Pair) (r : Related us p) where
    codes_at : ℕ → List ℕ
    codes_at k = codes_of (fact os) (path_at d k)

    codes-more : (k : ℕ) → choice_codes ar d (os ∷ us) (k ∷ p.choice) ≡ codes_at k ++ choice_codes ar d us p.choice
    unfolding choice_codes codes_at
    codes-more k = refl

    consistent-allowed : (k : ℕ) → is_consistent ar d (os ∷ us) (k ∷ p.choice) ≡ allowed (codes_at k) p.known
    unfolding is_consistent
    consistent-allowed k =
        told-clear (told-facts (os ∷ us) (k ∷ p.choice) small) ∙ ap is_clear (codes-more k)
        ∙ clear-same (codes_at k ++ choice_codes ar d us p.choice) (codes_at k ++ p.known)
        (append-within (codes_at k) (choice_codes ar d us p.choice) p.known r.in-known) (append-within (codes_at k) p.known (choice_codes ar d us p.choice) r.known_in)
        ∙ sym (all-allowed (codes_at k) p.known r.quiet).test

    paths-over : (k n : ℕ) → map (λ (w : Way). w.path) (ways_over (map codes_at (count k n)) p.known k) ≡ those (λ j. allowed (codes_at j) p.known) (count k n)
    paths-over k zero = refl
    paths-over k (suc n) = go (allowed (codes_at k) p.known) (paths-over (suc k) n)
      where
        go : (b : Bool) → map (λ (w : Way). w.path) (ways_over (map codes_at (count (suc k) n)) p.known (suc k)) ≡ those (λ j. allowed (codes_at j) p.known) (count (suc k) n)
            → map (λ (w : Way). w.path)
            (cond b (record { known = learnt (codes_at k) p.known; path = k } ∷ ways_over (map codes_at (count (suc k) n)) p.known (suc k))
            (ways_over (map codes_at (count (suc k) n)) p.known (suc k)))
            ≡ cond b (k ∷ those (λ j. allowed (codes_at j) p.known) (count (suc k) n)) (those (λ j. allowed (codes_at j) p.known) (count (suc k) n))
        go true ih = ap (λ (l : List ℕ). k ∷ l) ih
        go false ih = ih

    ways-are : ways (fact os) d p.known 0 ≡ ways_over (map codes_at (count 0 (length (paths d)))) p.known 0
    unfolding codes_at
    ways-are =
        ways-over (fact os) d p.known 0
        ∙ ap (λ (css : List (List ℕ)). ways_over css p.known 0)
        (ap (map (codes_of (fact os))) (paths-are d) ∙ map-map (codes_of (fact os)) (path_at d) (up_to (length (paths d)))
        ∙ ap (map (λ k. codes_of (fact os) (path_at d k))) (up-count (length (paths d))))

    nexts-choices : map (λ (q : Pair). q.choice) (nexts os p) ≡ those (is_consistent ar d (os ∷ us)) (map (λ k. k ∷ p.choice) (up_to (length (paths d))))
    unfolding nexts pair_of
    nexts-choices =
        map-map (λ (q : Pair). q.choice) (pair_of p.choice) (ways (fact os) d p.known 0)
        ∙ sym (map-map (λ k. k ∷ p.choice) (λ (w : Way). w.path) (ways (fact os) d p.known 0))
        ∙ ap (map (λ k. k ∷ p.choice)) (ap (map (λ (w : Way). w.path)) ways-are ∙ paths-over 0 (length (paths d))
        ∙ (λ i. those (λ j. (sym (consistent-allowed j)) i) (count 0 (length (paths d)))) ∙ ap (those (λ k. is_consistent ar d (os ∷ us) (k ∷ p.choice))) (sym (up-count (length (paths d)))))
        ∙ sym (those-map (is_consistent ar d (os ∷ us)) (λ k. k ∷ p.choice) (up_to (length (paths d))))

    nexts-related : AllOf (Related (os ∷ us)) (nexts os p)
    unfolding nexts pair_of
    nexts-related = subst (λ (l : List Way). AllOf (Related (os ∷ us)) (map (pair_of p.choice) l)) (sym ways-are) (each 0 (length (paths d)))
      where
        one_more : (k : ℕ) → allowed (codes_at k) p.known ≡ true → Related (os ∷ us) (record { choice = k ∷ p.choice; known = learnt (codes_at k) p.known })
        one_more k e =
            let a = all-allowed (codes_at k) p.known r.quiet in
            let c : is_clear (codes_at k ++ p.known) ≡ true = sym a.test ∙ e in
            record {
              known_in = λ x m. ap (mem eqb x) (codes-more k) ∙ append-within (codes_at k) p.known (choice_codes ar d us p.choice) r.known_in x (a.learns e x m);
              in-known = λ x m. a.keeps e x (append-within (codes_at k) (choice_codes ar d us p.choice) p.known r.in-known x (ap (mem eqb x) (sym (codes-more k)) ∙ m));
              quiet = λ x y m n. clear-quiet (codes_at k ++ p.known) c x y (a.learns e x m) (a.learns e y n);
            }

        each : (k n : ℕ) → AllOf (Related (os ∷ us)) (map (pair_of p.choice) (ways_over (map codes_at (count k n)) p.known k))
        each k zero = tt
        each k (suc n) = go (allowed (codes_at k) p.known) refl (each (suc k) n)
          where
            go : (b : Bool) → allowed (codes_at k) p.known ≡ b → AllOf (Related (os ∷ us)) (map (pair_of p.choice) (ways_over (map codes_at (count (suc k) n)) p.known (suc k)))
                → AllOf (Related (os ∷ us)) (map (pair_of p.choice)
                (cond b (record { known = learnt (codes_at k) p.known; path = k } ∷ ways_over (map codes_at (count (suc k) n)) p.known (suc k))
                (ways_over (map codes_at (count (suc k) n)) p.known (suc k))))
            go true e ih = (one_more k e, ih)
            go false e ih = ih

  -- ===== All valuations =====
  abbrev G : List ℕ → List (List ℕ) → List ℕ → List (List ℕ)
  G os us ks = those (is_consistent ar d (os ∷ us)) (map (λ k. k ∷ ks) (up_to (length (paths d))))

  next : List ℕ → List Pair → List Pair
  next os ps = gather (nexts os) ps

  choices_of : List Pair → List (List ℕ)
  choices_of ps = map (λ (p : Pair). p.choice) ps

  module _ (os : List ℕ) (us : List (List ℕ)) (small : AllOf Small (os ∷ us)) (ps : List Pair) (rs : AllOf (Related us) ps) (e : choices_of ps ≡ choices ar d us) where
    next-related : AllOf (Related (os ∷ us)) (next os ps)
    unfolding next
    next-related = all-gather (Related us) (Related (os ∷ us)) (nexts os) ps rs (λ p r. nexts-related os us small p r)

    next-choices : choices_of (next os ps) ≡ choices ar d (os ∷ us)
    unfolding next choices_of choices
    next-choices =
        map-gather (λ (p : Pair). p.choice) (nexts os) ps
        ∙ gather_cong (Related us) (λ p. map (λ (q : Pair). q.choice) (nexts os p)) (λ (p : Pair). G os us p.choice) ps rs (λ p r. nexts-choices os us small p r)
        ∙ sym (gather-map (G os us) (λ (p : Pair). p.choice) ps) ∙ ap (gather (G os us)) e

  -- one list before another, turned round
  abbrev turned : List (List ℕ) → List (List ℕ) → List (List ℕ)
  turned [] us = us
  turned (os ∷ rs) us = turned rs (os ∷ us)

  turned-reverse : (rs us : List (List ℕ)) → turned rs us ≡ reverse rs ++ us
  turned-reverse [] us = refl
  turned-reverse (os ∷ rs) us =
      turned-reverse rs (os ∷ us) ∙ sym (append_assoc (reverse rs) (os ∷ []) us) ∙ ap (λ (l : List (List ℕ)). l ++ us) (sym (reverse-cons os rs))

  formed-next : (os : List ℕ) (fs : List (ℕ → ℕ)) (known : List ℕ) → formed_on d (fact os ∷ fs) known ≡ sum_of (λ (w : Way). suc (formed_on d fs w.known)) (ways (fact os) d known 0)
  unfolding formed_on
  formed-next os fs known = refl

  formed-end : (ps : List Pair) → sum_of (λ (p : Pair). formed_on d [] p.known) ps ≡ 0
  unfolding formed_on
  formed-end [] = refl
  formed-end (p ∷ ps) = omega (arith, formed-end ps)

  sum-next : (os : List ℕ) (fs : List (ℕ → ℕ)) (ps : List Pair)
      → sum_of (λ (p : Pair). formed_on d (fact os ∷ fs) p.known) ps ≡ length (next os ps) + sum_of (λ (p : Pair). formed_on d fs p.known) (next os ps)
  unfolding next nexts pair_of
  sum-next os fs ps =
      (λ i. sum_of (λ (p : Pair). inner p i) ps)
      ∙ sym (sum-gather (λ (q : Pair). suc (formed_on d fs q.known)) (nexts os) ps)
      ∙ sum-suc (λ (q : Pair). formed_on d fs q.known) (next os ps)
    where
      inner : (p : Pair) → formed_on d (fact os ∷ fs) p.known ≡ sum_of (λ (q : Pair). suc (formed_on d fs q.known)) (nexts os p)
      inner p = formed-next os fs p.known ∙ sym (sum-map (λ (q : Pair). suc (formed_on d fs q.known)) (pair_of p.choice) (ways (fact os) d p.known 0))

  choices-length : (ps : List Pair) → length (choices_of ps) ≡ length ps
  unfolding choices_of
  choices-length ps = length-map ps (λ (p : Pair). p.choice)

  formed-more : (os : List ℕ) (us : List (List ℕ)) → formed_by ar d (os ∷ us) ≡ formed_by ar d us + length (choices ar d (os ∷ us))
  unfolding formed_by
  formed-more os us = refl

  formed-on : (rs us : List (List ℕ)) → AllOf Small rs → AllOf Small us → (ps : List Pair) → AllOf (Related us) ps → choices_of ps ≡ choices ar d us
      → formed_by ar d us + sum_of (λ (p : Pair). formed_on d (map fact rs) p.known) ps ≡ formed_by ar d (turned rs us)
  formed-on [] us s t ps r e = omega (arith, formed-end ps)
  formed-on (os ∷ rs) us s t ps r e =
      let small : AllOf Small (os ∷ us) = (s.0, t) in
      let nc = next-choices os us small ps r e in
      let ih = formed-on rs (os ∷ us) s.1 small (next os ps) (next-related os us small ps r e) nc in
      let l : length (next os ps) ≡ length (choices ar d (os ∷ us)) = sym (choices-length (next os ps)) ∙ ap length nc in
      (let z : formed_by ar d us + sum_of (λ (p : Pair). formed_on d (map fact (os ∷ rs)) p.known) ps ≡ formed_by ar d (os ∷ us) + sum_of (λ (p : Pair). formed_on d (map fact rs) p.known) (next os ps)
      = omega (arith, sum-next os (map fact rs) ps, l, formed-more os us) in z) ∙ ih

  -- ===== The winning paths =====
  abbrev m : ℕ
  m = length (paths d)

  -- the winning path of a choice, as it is found
  abbrev best_of : List ℕ → ℕ
  best_of [] = m
  best_of (k ∷ ks) = better_of d m (best_of ks) k

  winners-end : (ps : List Pair) → gather (λ (p : Pair). winners_on d m [] p.known (best_of p.choice)) ps ≡ map best_of (choices_of ps)
  unfolding winners_on choices_of
  winners-end ps = gather-one (λ (p : Pair). best_of p.choice) ps ∙ sym (map-map best_of (λ (p : Pair). p.choice) ps)

  winners-step : (os : List ℕ) (fs : List (ℕ → ℕ)) (ps : List Pair)
      → gather (λ (p : Pair). winners_on d m (fact os ∷ fs) p.known (best_of p.choice)) ps ≡ gather (λ (p : Pair). winners_on d m fs p.known (best_of p.choice)) (next os ps)
  unfolding next nexts pair_of winners_on
  winners-step os fs ps =
      (λ i. gather (λ (p : Pair). inner p i) ps)
      ∙ sym (gather-gather (λ (q : Pair). winners_on d m fs q.known (best_of q.choice)) (nexts os) ps)
    where
      inner : (p : Pair) → gather (λ (w : Way). winners_on d m fs w.known (better_of d m (best_of p.choice) w.path)) (ways (fact os) d p.known 0)
          ≡ gather (λ (q : Pair). winners_on d m fs q.known (best_of q.choice)) (nexts os p)
      inner p = sym (gather-map (λ (q : Pair). winners_on d m fs q.known (best_of q.choice)) (pair_of p.choice) (ways (fact os) d p.known 0))

  winners-on : (rs us : List (List ℕ)) → AllOf Small rs → AllOf Small us → (ps : List Pair) → AllOf (Related us) ps → choices_of ps ≡ choices ar d us
      → gather (λ (p : Pair). winners_on d m (map fact rs) p.known (best_of p.choice)) ps ≡ map best_of (choices ar d (turned rs us))
  winners-on [] us s t ps r e = winners-end ps ∙ ap (map best_of) e
  winners-on (os ∷ rs) us s t ps r e =
      let small : AllOf Small (os ∷ us) = (s.0, t) in
      winners-step os (map fact rs) ps
      ∙ winners-on rs (os ∷ us) s.1 small (next os ps) (next-related os us small ps r e) (next-choices os us small ps r e)

  -- ===== From the start =====
  start : Pair
  start = record { choice = []; known = [] }

  start-related : Related [] start
  unfolding start choice_codes
  start-related = record { known_in = λ x e. e; in-known = λ x e. e; quiet = λ x y a b c. clash a refl }

  start-choices : choices_of (start ∷ []) ≡ choices ar d []
  unfolding start choices_of choices
  start-choices = refl

  tuple-small : {n c : ℕ} {os : List ℕ} → Tuple n c os → n ≤ term_base → 0 < term_base → (k : ℕ) → get_or os k 0 < term_base
  tuple-small none h z k = z
  tuple-small (more l t) h z zero = omega arith
  tuple-small (more l t) h z (suc k) = tuple-small t h z k

  all_small : AllOf Small (valuations ar d)
  unfolding valuations object_of
  all_small = all-mem Small (tuples (length vs) (length vs)) (λ os i t. tuple-small (in-tuples (length vs) (length vs) os i) (omega (arith, variables-few ar d)) (omega arith) (rank vs t))

  alone : (x : ℕ) → 0 + (x + 0) ≡ x
  alone x = omega arith

  pub formed-is : formed ar d ≡ formed_on d (map (fact_of ar (variables ar d)) (valuations ar d)) []
  unfolding formed formed_by start
  formed-is =
      let z = formed-on (valuations ar d) [] all_small tt (start ∷ []) (start-related, tt) start-choices in
      let r = ap (formed_by ar d) (turned-reverse (valuations ar d) [] ∙ append-nil (reverse (valuations ar d))) in
      sym r ∙ sym z ∙ alone (formed_on d (map (fact_of ar (variables ar d)) (valuations ar d)) [])

  -- a winning path as it is found is the winning path
  at_least_one : (j k : ℕ) → AtLeast d j k → AtLeast d k j → j ≡ k
  at_least_one j k (inl a) (inl b) = absurd (omega arith)
  at_least_one j k (inl a) (inr b) = absurd (omega arith)
  at_least_one j k (inr a) (inl b) = absurd (omega arith)
  at_least_one j k (inr a) (inr b) = omega arith

  tuple-below : {n c : ℕ} {os : List ℕ} → Tuple n c os → (o : ℕ) → Memᴰ o os → o < n
  tuple-below none o i = absurd (Memᴰ.not-nil i)
  tuple-below (more l t) o (Memᴰ.head e) = omega arith
  tuple-below (more l t) o (Memᴰ.tail i) = tuple-below t o i

  better-first : (k : ℕ) → better_of d m m k ≡ k
  unfolding better_of
  better-first k = rw (eq-eqb m m refl)

  better-second : (w k : ℕ) → w < m → better_of d m w k ≡ cond (before d k w) k w
  unfolding better_of
  better-second w k h = rw (ne_eqb w m (λ z. omega arith))

  winner-one : (k : ℕ) → winner d (k ∷ []) ≡ k
  unfolding winner
  winner-one k = refl

  best-winner : (ks : List ℕ) (k c : ℕ) → Tuple m c (k ∷ ks) → best_of (k ∷ ks) ≡ winner d (k ∷ ks)
  best-winner [] k c t = better-first k ∙ sym (winner-one k)
  best-winner (j ∷ ks) k c (more l (more h t)) = go (best-winner ks j _ (more h t))
    where
      w : ℕ
      w = winner d (j ∷ ks)

      b : ℕ
      b = winner d (k ∷ j ∷ ks)

      a : ℕ
      a = cond (before d k w) k w

      w-in : Memᴰ w (j ∷ ks)
      w-in = winner-in d j (j ∷ ks) (Memᴰ.head refl)

      a_in : (x : Bool) → Memᴰ (cond x k w) (k ∷ j ∷ ks)
      a_in true = Memᴰ.head refl
      a_in false = Memᴰ.tail w-in

      least : Memᴰ b (k ∷ j ∷ ks) → AtLeast d a b
      least (Memᴰ.head e) = subst (AtLeast d a) (sym e) (earlier d k w).1
      least (Memᴰ.tail i) = at-least-trans d a w b (earlier d k w).0 (winner-first d (j ∷ ks) b i)

      go : best_of (j ∷ ks) ≡ w → best_of (k ∷ j ∷ ks) ≡ b
      go ih =
          ap (λ (x : ℕ). better_of d m x k) ih ∙ better-second w k (tuple-below (more h t) w w-in)
          ∙ at_least_one a b (least (winner-in d k (k ∷ j ∷ ks) (Memᴰ.head refl))) (winner-first d (k ∷ j ∷ ks) a (a_in (before d k w)))

  best-is : (ks : List ℕ) (c : ℕ) → 0 < c → Tuple m c ks → best_of ks ≡ winner d ks
  best-is [] c h none = absurd (omega arith)
  best-is (k ∷ ks) c h t = best-winner ks k c t

  map-members : {A B : Type 0} (f g : A → B) (l : List A) → ((x : A) → Memᴰ x l → f x ≡ g x) → map f l ≡ map g l
  map-members f g [] h = refl
  map-members f g (x ∷ l) h = ap₂ ◌∷◌ (h x (Memᴰ.head refl)) (map-members f g l (λ y i. h y (Memᴰ.tail i)))

  zeros : (n c : ℕ) → 0 < n → (os : List ℕ) × Tuple n c os
  zeros n zero h = ([], none)
  zeros n (suc c) h = let r = zeros n c h in (0 ∷ r.0, more h r.1)

  some-tuple : (v : ℕ) → (os : List ℕ) × Memᴰ os (tuples v v)
  some-tuple zero = ([], tuples-in 0 none)
  some-tuple (suc v) = let r = zeros (suc v) (suc v) (omega arith) in (r.0, tuples-in (suc v) r.1)

  some-length : {A : Type 0} (x : A) (l : List A) → Memᴰ x l → 0 < length l
  some-length {A = A} x [] i = elim i [ ]
  some-length x (y ∷ l) i = omega arith

  valued : 0 < length (reverse (valuations ar d))
  unfolding valuations
  valued = let r = some-tuple (length vs) in some-length r.0 (reverse (tuples (length vs) (length vs))) (reverse-in (tuples (length vs) (length vs)) r.0 r.1)

  pub winners-are : winners ar d ≡ winners_on d (length (paths d)) (map (fact_of ar (variables ar d)) (valuations ar d)) [] (length (paths d))
  unfolding winners combinations start
  winners-are =
      let z = winners-on (valuations ar d) [] all_small tt (start ∷ []) (start-related, tt) start-choices in
      let r = turned-reverse (valuations ar d) [] ∙ append-nil (reverse (valuations ar d)) in
      let us = reverse (valuations ar d) in
      sym (map-members best_of (winner d) (choices ar d us) (λ ks i. best-is ks (length us) valued (in-choices ar d us ks i).0))
      ∙ ap (λ (u : List (List ℕ)). map best_of (choices ar d u)) (sym r) ∙ sym z ∙ append-nil (winners_on d m (map fact (valuations ar d)) [] m)

  mem-member : (x : ℕ) (l : List ℕ) → mem eqb x l ≡ true → Memᴰ x l
  mem-member x [] e = clash e refl
  mem-member x (y ∷ l) e = go (flag (eqb x y)) (mem-member x l)
    where
      go : Flag (eqb x y) → (mem eqb x l ≡ true → Memᴰ x l) → Memᴰ x (y ∷ l)
      go (is_true q) ih = Memᴰ.head (eqb-true x y q)
      go (is_false q) ih = Memᴰ.tail (ih (rw q at e))

  chosen-below : (ks : List ℕ) (c : ℕ) → 0 < c → Tuple m c ks → winner d ks < m
  chosen-below [] c h none = absurd (omega arith)
  chosen-below (k ∷ ks) c h t = tuple-below t (winner d (k ∷ ks)) (winner-in d k (k ∷ ks) (Memᴰ.head refl))

  -- a winning path is one of the paths
  pub winner-below : (k : ℕ) → mem eqb k (winners ar d) ≡ true → k < length (paths d)
  unfolding winners combinations
  winner-below k e =
      let us = reverse (valuations ar d) in
      let r = mem-unmap (winner d) (choices ar d us) k (mem-member k (map (winner d) (choices ar d us)) e) in
      subst (λ (x : ℕ). x < m) (sym r.2) (chosen-below r.0 (length us) valued (in-choices ar d us r.0 r.1).0)
