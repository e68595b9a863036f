-- Laws of the bytes of a block that are kept.
use mathlib.Core.Path.{◌≡◌, refl, sym, ap, subst, ◌∙◌}
use mathlib.Core.Bool.{Bool, true, false, cond}
use mathlib.Core.List.{List, [], ◌∷◌, ◌++◌}
use Prim.Native.Nat.{ℕ, suc, ◌+◌, ◌-◌, ◌≤◌, ◌<◌}
use native.Mathlib.Omega.{arith}
use native.Mathlib.Numerals.{add-one}
use borrow.Author.Tests.{le-leb, lt-leb, leb-true, leb-false, lt-ltb, le-ltb, ltb-true, ltb-false}
use lib.Dec.{leb, ltb}
use lib.ListN.{length, get_or, set, take, drop, length-drop, length-set}
use lib.Seq.{take_all, take-suc, take-suc-set, length-take-le, drop-set-lt, drop-drop, drop-cons, drop_at, take-take, take-add, paste}
use Rattle.std.proofs.lemmas.List.Edits.{take-paste}
use Rattle.texts.specs.declared.Rest.{Rest}
use Rattle.texts.specs.Ends.{line_length}
use Rattle.texts.specs.Inner.{rest_of, rest_by, Keeps}
use Rattle.texts.specs.Streaming.{line_room}

-- ===== Moved to the front =====

take-none : (s : List ℕ) → take 0 s ≡ []
take-none [] = refl
take-none (b ∷ s) = refl

pub front-pasted : (s : List ℕ) (i j n : ℕ) → j ≡ i + n → j ≤ length s → take n (paste s 0 (drop i s) (j - i)) ≡ take n (drop i s)
front-pasted s i j n e h =
    let k : j - i ≡ n = omega arith in
    let z : n ≡ 0 + n = omega arith in
    rw k (ap (λ (m : ℕ). take m (paste s 0 (drop i s) n)) z ∙ take-paste s 0 (drop i s) n (omega arith) (omega (arith, length-drop i s))
    ∙ ap (λ (t : List ℕ). t ++ take n (drop i s)) (take-none s))

-- ===== The rest of a block =====

pub rest-whole : (n : ℕ) {b : Bool} → b ≡ true → record { count = n; whole = true } ≡ rest_by n b
rest-whole n e = ap (rest_by n) (sym e)

pub rest-short : (n : ℕ) {b : Bool} → b ≡ false → n ≤ line_room → record { count = n; whole = false } ≡ rest_by n b
rest-short n e h = ap (λ (c : Bool). record { count = cond c n line_room; whole = false }) (sym (le-leb n line_room h)) ∙ ap (rest_by n) (sym e)

pub rest-cut : (n : ℕ) {b : Bool} → b ≡ false → line_room < n → record { count = line_room; whole = false } ≡ rest_by n b
rest-cut n e h = ap (λ (c : Bool). record { count = cond c n line_room; whole = false }) (sym (lt-leb n line_room h)) ∙ ap (rest_by n) (sym e)

-- what is counted is what is needed of the bytes s
count-is : (s : List ℕ) (b : Bool) → ((rest_by (length s) b).count ≡ length (cond b s (take line_room s))) × (take (rest_by (length s) b).count s ≡ cond b s (take line_room s))
count-is s true = (refl, take_all (length s) s (omega arith))
count-is s false = go (leb (length s) line_room) refl
  where
    go : (c : Bool) → leb (length s) line_room ≡ c → (cond c (length s) line_room ≡ length (take line_room s)) × (take (cond c (length s) line_room) s ≡ take line_room s)
    go true e =
        let t = take_all line_room s (leb-true (length s) line_room e) in
        (sym (ap length t), take_all (length s) s (omega arith) ∙ sym t)
    go false e = (sym (length-take-le line_room s (omega (arith, leb-false (length s) line_room e))), refl)

count-few : (n : ℕ) (b : Bool) → (rest_by n b).count ≤ n
count-few n true = omega arith
count-few n false = go (leb n line_room) refl
  where
    go : (c : Bool) → leb n line_room ≡ c → cond c n line_room ≤ n
    go true e = omega arith
    go false e = omega (arith, leb-false n line_room e)

whole_is : (n : ℕ) (b : Bool) → (rest_by n b).whole ≡ b
whole_is n true = refl
whole_is n false = refl

module _ (block : List ℕ) (place n : ℕ) (h : place ≤ n) (l : n ≤ length block) where
  part : drop place (take n block) ≡ take (n - place) (drop place block)
  part =
      let k : n ≡ place + (n - place) = omega arith in
      ap (λ (m : ℕ). drop place (take m block)) k ∙ ap (drop place) (take-add place (n - place) block)
      ∙ drop_at (take place block) (take (n - place) (drop place block)) place (length-take-le place block (omega arith))

  part-long : length (drop place (take n block)) ≡ n - place
  part-long = omega (arith, length-drop place (take n block), length-take-le n block l)

  pub keep-room : (b : Bool) {r : Rest} → r ≡ rest_by (n - place) b → place + r.count ≤ length block
  keep-room b q = omega (arith, count-few (n - place) b, ap (λ (x : Rest). x.count) q)

  pub keeps : {e : ℕ} {b : Bool} {r : Rest} {block' : List ℕ} → e ≡ place + line_length (drop place (take n block)) → b ≡ ltb e n → r ≡ rest_by (n - place) b
      → take r.count block' ≡ take r.count (drop place block) → Keeps (drop place (take n block)) r block'
  unfolding rest_of
  keeps {e} {b} {r} {block'} i j q f =
      let s : List ℕ = drop place (take n block) in
      let t : Bool = ltb (line_length s) (length s) in
      let z : r ≡ rest_by (length s) t = q ∙ (λ v. rest_by (sym part-long v) ((j ∙ test t refl) v)) in
      let c = count-is s t in
      let m : r.count ≤ n - place = omega (arith, ap (λ (x : Rest). x.count) z, count-few (length s) t, part-long) in
      record {
        is = f ∙ sym (take-take r.count (n - place) (drop place block) m) ∙ ap (take r.count) (sym part) ∙ ap (λ (x : Rest). take x.count s) z ∙ c.1;
        count = ap (λ (x : Rest). x.count) z ∙ c.0;
        whole = ap (λ (x : Rest). x.whole) z ∙ whole_is (length s) t;
      }
    where
      test : (t : Bool) → ltb (line_length (drop place (take n block))) (length (drop place (take n block))) ≡ t → ltb e n ≡ t
      test true v = lt-ltb e n (omega (arith, ltb-true (line_length (drop place (take n block))) (length (drop place (take n block))) v, part-long))
      test false v = le-ltb e n (omega (arith, ltb-false (line_length (drop place (take n block))) (length (drop place (take n block))) v, part-long))
