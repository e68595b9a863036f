-- Laws of the table of lines, in the words of the code.
use mathlib.Core.Path.{◌≡◌, refl, ap, ap₂, sym, ◌∙◌}
use mathlib.Core.Bool.{Bool, true, false}
use mathlib.Core.List.{List, [], ◌∷◌, ◌++◌}
use Prim.Native.Nat.{ℕ, zero, suc, ◌+◌, ◌-◌, ◌*◌, ◌/◌, ◌≤◌, ◌<◌}
use native.Mathlib.Omega.{arith}
use lib.ListN.{length, get_or, set, take, drop, length-set, length-append, length-drop, get_or-append}
use lib.Seq.{get_or-set_same, get_or-set_other, get_or_at, get_or-take, get_or-drop, get_or-append-add, length-take-le, take-suc, ext_get_or}
use lib.Dec.{eqb, ltb}
use borrow.Author.Tests.{eqb-true, eq-eqb, ne_eqb, lt-ltb, le-ltb, ltb-true}
use Rattle.basics.specs.Tests.{and_left, and_right, Cmp, cmp, below, equal, above}
use Rattle.spread.specs.Spread.{Entry, entry_words}
use Rattle.count_states.specs.Table.{
  line_words,
  value_at,
  states_at,
  entry_at,
  entries_at,
  put_entry,
  is_there,
  once,
  more,
  enter,
  most_states,
  Enterable,
  Seeks,
  Shifted,
  Entered,
}

-- ===== Entries in words =====
pub entry-is : {a b x y : ℕ} → a ≡ x → b ≡ y → ◌≡◌ {A = Entry} (record { value = a; states = b }) (record { value = x; states = y })
entry-is p q = λ i. record { value = p i; states = q i }

pub length-entries : (t : List ℕ) (n : ℕ) → length (entries_at t n) ≡ n
unfolding entries_at
length-entries t zero = refl
length-entries t (suc n) = length-append (entries_at t n) (entry_at t n ∷ []) ∙ (let e = length-entries t n in omega arith)

pub entries-at : (t : List ℕ) (n i : ℕ) (d : Entry) → i < n → get_or (entries_at t n) i d ≡ entry_at t i
unfolding entries_at
entries-at t zero i d h = absurd (omega arith)
entries-at t (suc n) i d h = go (cmp i n) (entries-at t n i d)
  where
    size : length (entries_at t n) ≡ n
    size = length-entries t n

    go : Cmp i n → (i < n → get_or (entries_at t n) i d ≡ entry_at t i) → get_or (entries_at t n ++ (entry_at t n ∷ [])) i d ≡ entry_at t i
    go (below l) ih = get_or-append (entries_at t n) (entry_at t n ∷ []) d i (omega (arith, size)) ∙ ih l
    go (equal l) ih = get_or_at (entries_at t n) (entry_at t n) [] d i (size ∙ sym l) ∙ ap (entry_at t) (sym l)
    go (above l) ih = absurd (omega arith)

words_append : (es : List Entry) (e : Entry) → entry_words (es ++ (e ∷ [])) ≡ entry_words es ++ (e.value ∷ e.states ∷ [])
unfolding entry_words
words_append [] e = refl
words_append (x ∷ es) e = ap (λ z. x.value ∷ x.states ∷ z) (words_append es e)

-- the words of the first n entries
pub entries-words : (t : List ℕ) (n : ℕ) → n * line_words ≤ length t → entry_words (entries_at t n) ≡ take (n * line_words) t
unfolding entries_at entry_words entry_at
entries-words t zero h = refl
entries-words t (suc n) h =
    let k : ℕ = n * line_words in
    let e : suc n * line_words ≡ suc (suc k) = omega arith in
    let l : k < length t = omega arith in
    let m : suc k < length t = omega arith in
    let s : k + 1 ≡ suc k = omega arith in
    words_append (entries_at t n) (entry_at t n)
    ∙ ap₂ (λ z x. z ++ (get_or t k 0 ∷ x ∷ [])) (entries-words t n (omega arith)) (ap (λ z. get_or t z 0) s)
    ∙ sym (ap (λ z. take z t) e ∙ take-suc t (suc k) 0 m ∙ ap (λ z. z ++ (get_or t (suc k) 0 ∷ [])) (take-suc t k 0 l) ∙ two (take k t) (get_or t k 0) (get_or t (suc k) 0))
  where
    two : (xs : List ℕ) (a b : ℕ) → xs ++ (a ∷ []) ++ (b ∷ []) ≡ xs ++ (a ∷ b ∷ [])
    two [] a b = refl
    two (x ∷ xs) a b = ap (λ z. x ∷ z) (two xs a b)

-- ===== put_entry =====
module _ (t : List ℕ) (i v s : ℕ) where
  pub put_same : i * line_words + line_words ≤ length t → entry_at (put_entry t i v s) i ≡ record { value = v; states = s }
  unfolding put_entry entry_at
  put_same h =
      let u : List ℕ = set t (i * line_words) v in
      let w = length-set t (i * line_words) v in
      entry-is (get_or-set_other u (i * line_words + 1) (i * line_words) s 0 (λ e. omega arith) ∙ get_or-set_same t (i * line_words) v 0 (omega arith))
      (get_or-set_same u (i * line_words + 1) s 0 (omega arith))

  pub put_other : (j : ℕ) → (j ≡ i → ⊥) → entry_at (put_entry t i v s) j ≡ entry_at t j
  unfolding put_entry entry_at
  put_other j h =
      let u : List ℕ = set t (i * line_words) v in
      entry-is (get_or-set_other u (i * line_words + 1) (j * line_words) s 0 (λ e. omega arith) ∙ get_or-set_other t (i * line_words) (j * line_words) v 0 (λ e. h (omega arith)))
      (get_or-set_other u (i * line_words + 1) (j * line_words + 1) s 0 (λ e. h (omega arith)) ∙ get_or-set_other t (i * line_words) (j * line_words + 1) v 0 (λ e. omega arith))

-- ===== seek =====
pub record Seeking (t : List ℕ) (count v low high : ℕ) : Type 0 where
  pub between : low ≤ high
  pub within : high ≤ count
  pub before : (i : ℕ) → i < low → value_at t i < v
  pub from : (i : ℕ) → high ≤ i → i < count → v ≤ value_at t i

pub seek-start : (t : List ℕ) (count v : ℕ) → Seeking t count v 0 count
seek-start t count v = record { between = omega arith; within = omega arith; before = λ i h. absurd (omega arith); from = λ i h l. absurd (omega arith) }

module _ {t : List ℕ} {count v low high : ℕ} (a : Enterable t count) (s : Seeking t count v low high) {mid : ℕ} (p : low ≤ mid) (q : mid < high) where
  go-up : value_at t mid < v → Seeking t count v (mid + 1) high
  go-up e = record {
    between = omega arith;
    within = s.within;
    before = λ i h. go i h (cmp i mid);
    from = s.from;
  }
    where
      go : (i : ℕ) → i < mid + 1 → Cmp i mid → value_at t i < v
      go i h (below l) = let z = a.ascend i mid l (omega (arith, s.within)) in omega arith
      go i h (equal l) = rw l e
      go i h (above l) = absurd (omega arith)

  go-down : v ≤ value_at t mid → Seeking t count v low mid
  go-down e = record {
    between = p;
    within = omega (arith, s.within);
    before = s.before;
    from = λ i h l. go i h l (cmp mid i);
  }
    where
      go : (i : ℕ) → mid ≤ i → i < count → Cmp mid i → v ≤ value_at t i
      go i h l (below k) = let z = a.ascend mid i k l in omega arith
      go i h l (equal k) = rw (← k) e
      go i h l (above k) = absurd (omega arith)

abbrev middle : ℕ → ℕ → ℕ
middle low high = low + (high - low) / 2

module _ {t : List ℕ} {count v low high : ℕ} (a : Enterable t count) (s : Seeking t count v low high) (h : low < high) where
  pub seek-up : value_at t (middle low high) < v → Seeking t count v (middle low high + 1) high
  seek-up e = go-up a s {mid = middle low high} (omega arith) (omega arith) e

  pub seek-down : v ≤ value_at t (middle low high) → Seeking t count v low (middle low high)
  seek-down e = go-down a s {mid = middle low high} (omega arith) (omega arith) e

pub seek-end : {t : List ℕ} {count v low high : ℕ} → Seeking t count v low high → high ≤ low → Seeks t count v low
seek-end {t} {count} {v} {low} {high} s h = record {
  within = omega (arith, s.between, s.within);
  before = s.before;
  from = λ i l k. s.from i (omega arith) k;
}

-- ===== shift_up =====
pub record Shifting (t₀ : List ℕ) (at count : ℕ) (t : List ℕ) (i : ℕ) : Type 0 where
  pub size : length t ≡ length t₀
  pub low : at ≤ i
  pub top : i ≤ count
  pub still : (j : ℕ) → j ≤ i → entry_at t j ≡ entry_at t₀ j
  pub moved : (j : ℕ) → i ≤ j → j < count → entry_at t (suc j) ≡ entry_at t₀ j

pub shift-start : (t : List ℕ) (at count : ℕ) → at ≤ count → Shifting t at count t count
shift-start t at count h = record { size = refl; low = h; top = omega arith; still = λ j l. refl; moved = λ j l k. absurd (omega arith) }

module _ {t₀ t : List ℕ} {at count i : ℕ} (r : count * line_words + line_words ≤ length t₀) (s : Shifting t₀ at count t i) (h : at < i) where
  here : i - 1 + 1 ≡ i
  here = omega arith

  room : i * line_words + line_words ≤ length t
  room = omega (arith, s.top, s.size)

  pub shift-room : (i - 1 + 1) * line_words + line_words ≤ length t
  shift-room = rw here room

  pub shift-on : {t' : List ℕ} → length t' ≡ length t → t' ≡ put_entry t (i - 1 + 1) (get_or t ((i - 1) * line_words) 0) (get_or t ((i - 1) * line_words + 1) 0) → Shifting t₀ at count t' (i - 1)
  unfolding entry_at
  shift-on {t'} l e = record {
    size = l ∙ s.size;
    low = omega arith;
    top = omega (arith, s.top);
    still = λ j k. other j (λ q. omega arith) ∙ s.still j (omega arith);
    moved = λ j k m. go j k m (cmp j (i - 1));
  }
    where
      x : ℕ
      x = get_or t ((i - 1) * line_words) 0

      y : ℕ
      y = get_or t ((i - 1) * line_words + 1) 0

      there : t' ≡ put_entry t i x y
      there = e ∙ ap (λ j. put_entry t j x y) here

      other : (j : ℕ) → (j ≡ i → ⊥) → entry_at t' j ≡ entry_at t j
      other j q = ap (λ z. entry_at z j) there ∙ put_other t i x y j q

      go : (j : ℕ) → i - 1 ≤ j → j < count → Cmp j (i - 1) → entry_at t' (suc j) ≡ entry_at t₀ j
      go j k m (below q) = absurd (omega arith)
      go j k m (equal q) =
          let z : suc j ≡ i = omega arith in
          ap₂ entry_at there z ∙ put_same t i x y room ∙ ap (entry_at t) (sym q) ∙ s.still j (omega arith)
      go j k m (above q) = other (suc j) (λ z. omega arith) ∙ s.moved j (omega arith) m

pub shift-end : {t₀ t : List ℕ} {at count i : ℕ} → Shifting t₀ at count t i → i ≤ at → Shifted t₀ at count t
shift-end {t₀} {t} {at} {count} {i} s h = record {
  before = λ j l. s.still j (omega (arith, s.low));
  moved = λ j l k. s.moved j (omega arith) k;
}

-- ===== is_there =====
module _ (t : List ℕ) (count at v : ℕ) where
  pub there-past : count ≤ at → ltb at count ≡ is_there t count at v
  unfolding is_there
  there-past h = rw (le-ltb at count h)

  there-is : at < count → value_at t at ≡ v → true ≡ is_there t count at v
  unfolding is_there
  there-is h e = sym (rw (lt-ltb at count h) (eq-eqb (value_at t at) v e))

  pub there-read : at < count → eqb (value_at t at) v ≡ is_there t count at v
  unfolding is_there
  there-read h = sym (rw (lt-ltb at count h))

  pub there-true : is_there t count at v ≡ true → (at < count) × (value_at t at ≡ v)
  unfolding is_there
  there-true e = (ltb-true at count (and_left (ltb at count) _ e), eqb-true (value_at t at) v (and_right (ltb at count) _ e))

  pub there-false : is_there t count at v ≡ false → at < count → value_at t at ≡ v → ⊥
  there-false e h q = absurd (let z : ◌≡◌ {A = Bool} true false = there-is h q ∙ e in let w : ◌≡◌ {A = ℕ} 0 1 = cc in omega arith)

-- ===== enter, on lists =====
abbrev pub nothing : Entry
nothing = record { value = 0; states = 0 }

-- the value is there
enter-found : (v : ℕ) (es : List Entry) (r : ℕ) → r < length es → ((i : ℕ) → i < r → (get_or es i nothing).value < v) → (get_or es r nothing).value ≡ v
    → enter v es ≡ set es r (more (get_or es r nothing))
unfolding enter
enter-found v [] r h b e = absurd (omega arith)
enter-found v (x ∷ es) zero h b e = rw (le-ltb v x.value (omega arith), eq-eqb v x.value (sym e))
enter-found v (x ∷ es) (suc r) h b e =
    let l : x.value < v = b 0 (omega arith) in
    rw (le-ltb v x.value (omega arith), ne_eqb v x.value (λ q. omega arith)) (ap (λ z. x ∷ z) (enter-found v es r (omega arith) (λ i k. b (suc i) (omega arith)) e))

-- the value is not there
enter-new : (v : ℕ) (es : List Entry) (r : ℕ) → r ≤ length es → ((i : ℕ) → i < r → (get_or es i nothing).value < v) → (r < length es → v < (get_or es r nothing).value)
    → enter v es ≡ take r es ++ once v ∷ drop r es
unfolding enter
enter-new v [] zero h b e = refl
enter-new v [] (suc r) h b e = absurd (omega arith)
enter-new v (x ∷ es) zero h b e = rw (lt-ltb v x.value (e (omega arith)))
enter-new v (x ∷ es) (suc r) h b e =
    let l : x.value < v = b 0 (omega arith) in
    rw (le-ltb v x.value (omega arith), ne_eqb v x.value (λ q. omega arith))
    (ap (λ z. x ∷ z) (enter-new v es r (omega arith) (λ i k. b (suc i) (omega arith)) (λ k. e (omega arith))))

-- ===== enter, in words =====
module _ {t : List ℕ} {count v at : ℕ} (a : Enterable t count) (s : Seeks t count v at) where
  read : (i : ℕ) → i < count → (get_or (entries_at t count) i nothing).value ≡ value_at t i
  unfolding entry_at
  read i h = ap (λ (e : Entry). e.value) (entries-at t count i nothing h)

  earlier : (i : ℕ) → i < at → (get_or (entries_at t count) i nothing).value < v
  earlier i h = let z = read i (omega (arith, s.within)) in let w = s.before i h in omega arith

  module _ {b : Bool} (w : b ≡ is_there t count at v) where
    pub found-place : b ≡ true → at < count
    found-place e = (there-true t count at v (sym w ∙ e)).0

    pub found-states : b ≡ true → states_at t at < most_states
    found-states e = a.few at (found-place e)

    pub entered-old : {t' : List ℕ} → b ≡ true → t' ≡ put_entry t at v (get_or t (at * line_words + 1) 0 + 1) → Entered t count v count t'
    unfolding entry_at
    entered-old {t'} e q = record { entries = ext_get_or nothing (entries_at t' count) (enter v (entries_at t count)) size each }
      where
        es : List Entry
        es = entries_at t count

        here : at < count
        here = found-place e

        same : value_at t at ≡ v
        same = (there-true t count at v (sym w ∙ e)).1

        is : enter v es ≡ set es at (more (get_or es at nothing))
        is = enter-found v es at (omega (arith, here, length-entries t count)) earlier (read at here ∙ same)

        size : length (entries_at t' count) ≡ length (enter v es)
        size = length-entries t' count ∙ sym (ap length is ∙ length-set es at (more (get_or es at nothing)) ∙ length-entries t count)

        each : (i : ℕ) → i < length (entries_at t' count) → get_or (entries_at t' count) i nothing ≡ get_or (enter v es) i nothing
        each i h =
            let l : i < count = omega (arith, length-entries t' count) in
            entries-at t' count i nothing l ∙ ap (λ z. entry_at z i) q ∙ go i l (cmp i at) ∙ ap (λ z. get_or z i nothing) (sym is)
          where
            new : List ℕ
            new = put_entry t at v (get_or t (at * line_words + 1) 0 + 1)

            elsewhere : (i : ℕ) → i < count → (i ≡ at → ⊥) → entry_at new i ≡ get_or (set es at (more (get_or es at nothing))) i nothing
            elsewhere i l k =
                put_other t at v (get_or t (at * line_words + 1) 0 + 1) i k
                ∙ sym (get_or-set_other es at i (more (get_or es at nothing)) nothing k ∙ entries-at t count i nothing l)

            go : (i : ℕ) → i < count → Cmp i at → entry_at new i ≡ get_or (set es at (more (get_or es at nothing))) i nothing
            go i l (below k) = elsewhere i l (λ z. omega arith)
            go i l (above k) = elsewhere i l (λ z. omega arith)
            go i l (equal k) =
                ap (entry_at new) k
                ∙ put_same t at v (get_or t (at * line_words + 1) 0 + 1) (omega (arith, here, a.room))
                ∙ entry-is (sym same) (omega arith)
                ∙ sym (ap (λ z. get_or (set es at (more (get_or es at nothing))) z nothing) k
                ∙ get_or-set_same es at (more (get_or es at nothing)) nothing (omega (arith, here, length-entries t count))
                ∙ ap more (entries-at t count at nothing here))

    pub entered-new : {u t' : List ℕ} → b ≡ false → length u ≡ length t → Shifted t at count u → t' ≡ put_entry u at v 1 → Entered t count v (count + 1) t'
    unfolding entry_at
    entered-new {u} {t'} e k m q = record { entries = ext_get_or nothing (entries_at t' (count + 1)) (enter v (entries_at t count)) size each }
      where
        es : List Entry
        es = entries_at t count

        above-it : at < length es → v < (get_or es at nothing).value
        above-it h =
            let l : at < count = omega (arith, length-entries t count) in
            let z = read at l in
            let y = s.from at (omega arith) l in
            let x = there-false t count at v (sym w ∙ e) l in
            omega arith

        is : enter v es ≡ take at es ++ once v ∷ drop at es
        is = enter-new v es at (omega (arith, s.within, length-entries t count)) earlier above-it

        head : length (take at es) ≡ at
        head = length-take-le at es (omega (arith, s.within, length-entries t count))

        size : length (entries_at t' (count + 1)) ≡ length (enter v es)
        size =
            let x = length-append (take at es) (once v ∷ drop at es) in
            let y = length-drop at es in
            let z = length-entries t count in
            let g = s.within in
            length-entries t' (count + 1) ∙ sym (ap length is ∙ x ∙ (omega (arith, head)))

        each : (i : ℕ) → i < length (entries_at t' (count + 1)) → get_or (entries_at t' (count + 1)) i nothing ≡ get_or (enter v es) i nothing
        each i h =
            let l : i < count + 1 = omega (arith, length-entries t' (count + 1)) in
            entries-at t' (count + 1) i nothing l ∙ ap (λ z. entry_at z i) q ∙ go i l (cmp i at) ∙ ap (λ z. get_or z i nothing) (sym is)
          where
            go : (i : ℕ) → i < count + 1 → Cmp i at → entry_at (put_entry u at v 1) i ≡ get_or (take at es ++ once v ∷ drop at es) i nothing
            go i l (below g) =
                put_other u at v 1 i (λ z. omega arith)
                ∙ m.before i g
                ∙ sym (get_or-append (take at es) (once v ∷ drop at es) nothing i (omega (arith, head)) ∙ get_or-take at es i nothing g ∙ entries-at t count i nothing (omega (arith, s.within)))
            go i l (equal g) =
                ap (entry_at (put_entry u at v 1)) g ∙ put_same u at v 1 (omega (arith, a.room, s.within)) ∙ sym (get_or_at (take at es) (once v) (drop at es) nothing i (head ∙ sym g))
            go i l (above g) =
                let j : ℕ = i - at - 1 in
                let x : i ≡ suc (at + j) = omega arith in
                let y : i ≡ length (take at es) + suc j = omega (arith, head) in
                put_other u at v 1 i (λ z. omega arith)
                ∙ ap (entry_at u) x
                ∙ m.moved (at + j) (omega arith) (omega arith)
                ∙ sym (ap (λ z. get_or (take at es ++ once v ∷ drop at es) z nothing) y
                ∙ get_or-append-add (take at es) (once v ∷ drop at es) (suc j) nothing
                ∙ get_or-drop at es j nothing
                ∙ entries-at t count (at + j) nothing (omega arith))
