-- Laws of rows written behind others.
use Rattle.std.specs.Prelude.{◌≡◌, refl, Bool, true, false, cond, List, [], ◌∷◌, ◌++◌, ℕ, zero, suc, ◌+◌, ◌*◌, ◌-◌, ◌≤◌, ◌<◌, length, take, leb}
use Rattle.std.proofs.Common.{sym, ap, ◌∙◌, append-nil, append_assoc, arith, length-append, le-leb, leb-true, leb-false}
use Rattle.std.proofs.lemmas.Bool.{lt-leb}
use Rattle.diagram.specs.Words.{up_to}
use Rattle.state.specs.Lent.{fact_words, most_facts}
use Rattle.state.specs.Max.{gather}
use Rattle.replay.specs.Replay.{flat}
use Rattle.next_facts.specs.Filling.{rows_counted, Filled}
use Rattle.std.specs.Prelude.{None, Option, Some}

-- ===== Gathered lists =====
pub gather_append : {A B : Type 0} (f : A → List B) (xs ys : List A) → gather f (xs ++ ys) ≡ gather f xs ++ gather f ys
gather_append f [] ys = refl
gather_append f (x ∷ xs) ys = ap (λ l. f x ++ l) (gather_append f xs ys) ∙ sym (append_assoc (f x) (gather f xs) (gather f ys))

-- one more
pub gather-up_to : {B : Type 0} (f : ℕ → List B) (v : ℕ) → gather f (up_to (v + 1)) ≡ gather f (up_to v) ++ f v
gather-up_to f v =
    let e : v + 1 ≡ suc v = omega arith in
    ap (λ (n : ℕ). gather f (up_to n)) e ∙ gather_append f (up_to v) (v ∷ []) ∙ ap (λ l. gather f (up_to v) ++ l) (append-nil (f v))

gather-grows : {B : Type 0} (f : ℕ → List B) (v d : ℕ) → length (gather f (up_to v)) ≤ length (gather f (up_to (v + d)))
gather-grows f v zero = let e : v + 0 ≡ v = omega arith in rw e (omega arith)
gather-grows f v (suc d) =
    let e : v + suc d ≡ v + d + 1 = omega arith in
    rw e (omega (arith, gather-grows f v d, ap length (gather-up_to f (v + d)), length-append (gather f (up_to (v + d))) (f (v + d))))

pub gather-most : {B : Type 0} (f : ℕ → List B) (v n : ℕ) → v ≤ n → length (gather f (up_to v)) ≤ length (gather f (up_to n))
gather-most f v n h = let g = gather-grows f v (n - v) in let e : v + (n - v) ≡ n = omega arith in rw e at g

-- ===== Counts =====
pub counted-rows : (m : ℕ) → m ≤ most_facts → Some m ≡ rows_counted m
unfolding rows_counted
counted-rows m h = sym (ap (λ b. cond b (Some m) None) (le-leb m most_facts h))

pub counted-many : (m : ℕ) → most_facts < m → None ≡ rows_counted m
unfolding rows_counted
counted-many m h = sym (ap (λ b. cond b (Some m) None) (lt-leb m most_facts h))

pub rows-counted : (m k : ℕ) → Some m ≡ rows_counted k → (m ≡ k) × (k ≤ most_facts)
unfolding rows_counted
rows-counted m k e = go (leb k most_facts) refl
  where
    go : (b : Bool) → leb k most_facts ≡ b → (m ≡ k) × (k ≤ most_facts)
    go true q = (let z : Some m ≡ Some k = e ∙ ap (λ b. cond b (Some k) None) q in cc, leb-true k most_facts q)
    go false q = absurd (let z : Some m ≡ None = e ∙ ap (λ b. cond b (Some k) None) q in let o : ◌≡◌ {A = ℕ} 0 1 = cc in omega arith)

pub many-counted : (k : ℕ) → None ≡ rows_counted k → most_facts < k
unfolding rows_counted
many-counted k e = go (leb k most_facts) refl
  where
    go : (b : Bool) → leb k most_facts ≡ b → most_facts < k
    go true q = absurd (let z : None ≡ Some k = e ∙ ap (λ b. cond b (Some k) None) q in let o : ◌≡◌ {A = ℕ} 0 1 = cc in omega arith)
    go false q = leb-false k most_facts q

-- ===== Rows behind rows =====
pub filled_none : (out : List ℕ) {count : ℕ} → count ≤ most_facts → Filled [] count out (Some count) out
filled_none out {count} h = record {
  answer = let e : count + 0 ≡ count = omega arith in counted-rows count h ∙ ap rows_counted (sym e);
  written = λ m e. let z : count ≡ m = cc in ap (λ (x : ℕ). take (x * fact_words) out) (sym z) ∙ sym (append-nil (take (count * fact_words) out));
}

pub filled-few : {rows : List (List ℕ)} {count m : ℕ} {out out' : List ℕ} → Filled rows count out (Some m) out' → m ≤ most_facts
filled-few {rows} {count} {m} f = let q = rows-counted m (count + length rows) f.answer in omega (arith, q.0, q.1)

module _ {rows more : List (List ℕ)} {count m : ℕ} {out₀ out out' : List ℕ} {r : Option ℕ} (f : Filled rows count out₀ (Some m) out) (g : Filled more m out r out') where
  pub filled-then : Filled (rows ++ more) count out₀ r out'
  filled-then = record {
    answer =
        let q = (rows-counted m (count + length rows) f.answer).0 in
        let e : m + length more ≡ count + length (rows ++ more) = omega (arith, length-append rows more) in
        g.answer ∙ ap rows_counted e;
    written = λ k e.
        g.written k e ∙ ap (λ (xs : List ℕ). xs ++ flat more) (f.written m refl) ∙ append_assoc (take (count * fact_words) out₀) (flat rows) (flat more)
        ∙ ap (λ (xs : List ℕ). take (count * fact_words) out₀ ++ xs) (sym (gather_append (λ row. row) rows more));
  }

-- as many rows and more
pub filled_more : {rows more : List (List ℕ)} {count : ℕ} {out out' : List ℕ} → Filled rows count out None out' → length rows ≤ length more → Filled more count out None out'
filled_more {rows} {more} {count} f h = record {
  answer = counted-many (count + length more) (omega (arith, many-counted (count + length rows) f.answer));
  written = λ m z. absurd (let o : ◌≡◌ {A = ℕ} 0 1 = cc in omega arith);
}
