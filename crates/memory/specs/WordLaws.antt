-- The words of a line as a pass over its bytes meets them: the first at its place, and the others behind it.
use Rattle.std.specs.Prelude.{◌≡◌, refl, Bool, true, false, cond, List, [], ◌∷◌, ◌++◌, ℕ, ◌+◌, ◌≤◌, leb, eqb, length, get_or, drop}
use Rattle.std.proofs.Common.{sym, ap, ◌∙◌, true≢false, arith, add-zero, length-append}
use Rattle.words.specs.Bytes.{is_letter, is_digit}
use Rattle.text.specs.declared.Kind.{Kind}
use Rattle.text.specs.Line.{keyword, words_bytes}
use Rattle.events.specs.declared.Event.{Event}
use Rattle.events.specs.declared.Event.TheVariants.{Name, Variable, Parameter, Minimum, Number, Equal, Holds, Step, End}
use Rattle.events.specs.declared.Seen.{Seen}
use Rattle.events.specs.declared.Next.{Next}
use Rattle.events.specs.Events.{first_word}
use Rattle.events.specs.Inner.{next_at}
use Rattle.events.specs.Front.{is_if, atom_front, number_front, front_of, is_end, events_of}
use Rattle.events.specs.FrontLaws.{next-end, next_more, next-moves}
use Rattle.events.specs.Contents.{word_at}
use Rattle.session.specs.Replies.{words_of}
use Rattle.facts.specs.Inner.{most_bytes}
use Rattle.memory.specs.Inner.{LineOf}

-- the end takes no byte
record Rests (x : Seen) : Type 0 where
  rests : is_end x.event ≡ true → x.taken ≡ 0

pick-rests : (b : Bool) (x y : Seen) → Rests x → Rests y → Rests (cond b x y)
pick-rests true x y p q = p
pick-rests false x y p q = q

goes_on : (x : Seen) → is_end x.event ≡ false → Rests x
goes_on x e = record { rests = λ f. absurd (true≢false (sym f ∙ e)) }

atom-rests : (s : List ℕ) (i : ℕ) → Rests (atom_front s i)
unfolding atom_front
atom-rests s i = pick-rests (eqb (get_or s (i + 1) 0) 61) _ _ (goes_on _ refl) (goes_on _ refl)

number-rests : (s : List ℕ) → Rests (number_front s)
unfolding number_front
number-rests s = goes_on _ refl

front-rests : (s : List ℕ) → Rests (front_of s)
unfolding front_of
front-rests s =
    let end : Rests (record { event = End; taken = 0 }) = record { rests = λ e. refl } in
    pick-rests (leb (length s) 1) _ _ end
    (pick-rests (is_letter (get_or s 0 0)) _ _ (goes_on _ refl)
    (pick-rests (is_digit (get_or s 0 0)) _ _ (number-rests s)
    (pick-rests (eqb (get_or s 0 0) 63) _ _ (goes_on _ refl)
    (pick-rests (eqb (get_or s 0 0) 33) _ _ (goes_on _ refl)
    (pick-rests (eqb (get_or s 0 0) 37) _ _ (goes_on _ refl)
    (pick-rests (eqb (get_or s 0 0) 40) _ _ (pick-rests (is_if s) _ _ (atom-rests s 4) (atom-rests s 0))
    (pick-rests (eqb (get_or s 0 0) 41) _ _ (goes_on _ refl) end)))))))

next-rests : (s : List ℕ) (i : ℕ) → is_end (next_at s i).event ≡ true → (next_at s i).place ≡ i
unfolding next_at
next-rests s i e = ap (λ t. i + t) ((front-rests (drop i s)).rests e) ∙ add-zero i

end_is : (e : Event) → is_end e ≡ true → e ≡ End
end_is (Name k) p = absurd (true≢false (sym p))
end_is (Variable k) p = absurd (true≢false (sym p))
end_is (Parameter k) p = absurd (true≢false (sym p))
end_is (Minimum k) p = absurd (true≢false (sym p))
end_is (Number v) p = absurd (true≢false (sym p))
end_is Equal p = absurd (true≢false (sym p))
end_is (Holds k n) p = absurd (true≢false (sym p))
end_is Step p = absurd (true≢false (sym p))
end_is End p = refl

module _ (s : List ℕ) (i : ℕ) where
  -- the event at a place is the first word from there on
  pub next_word : (next_at s i).event ≡ word_at (events_of (drop i s)) 0
  next_word = go (is_end (next_at s i).event) refl
    where
      go : (b : Bool) → is_end (next_at s i).event ≡ b → (next_at s i).event ≡ word_at (events_of (drop i s)) 0
      go true e = end_is (next_at s i).event e ∙ sym (ap (λ es. word_at es 0) (next-end s i e))
      go false e = sym (ap (λ es. word_at es 0) (next_more s i e))

  -- behind it stand the others
  pub next-drops : events_of (drop (next_at s i).place s) ≡ drop 1 (events_of (drop i s))
  next-drops = go (is_end (next_at s i).event) refl
    where
      go : (b : Bool) → is_end (next_at s i).event ≡ b → events_of (drop (next_at s i).place s) ≡ drop 1 (events_of (drop i s))
      go true e = ap (λ j. events_of (drop j s)) (next-rests s i e) ∙ (next-end s i e ∙ sym (ap (drop 1) (next-end s i e)))
      go false e = sym (ap (drop 1) (next_more s i e))

first-behind : (es : List Event) → word_at (drop 1 es) 0 ≡ word_at es 1
first-behind [] = refl
first-behind (e ∷ es) = refl

second_word : (s : List ℕ) (i : ℕ) → (next_at s (next_at s i).place).event ≡ word_at (events_of (drop i s)) 1
second_word s i =
    next_word s (next_at s i).place ∙ (ap (λ es. word_at es 0) (next-drops s i) ∙ first-behind (events_of (drop i s)))

-- the same in the words of code that reads a line of the kind k: i is the place of its first word, x what stands there
module _ (k : Kind) (s : List ℕ) {i : ℕ} {x : Next} (p : i ≡ first_word k) (q : x ≡ next_at s i) where
  pub first-is : x.event ≡ word_at (words_of k s) 0
  first-is = ap (λ (y : Next). y.event) q ∙ (ap (λ j. (next_at s j).event) p ∙ next_word s (first_word k))

  starts : x.place ≡ (next_at s (first_word k)).place
  starts = ap (λ (y : Next). y.place) q ∙ ap (λ j. (next_at s j).place) p

  pub rest-is : events_of (drop x.place s) ≡ drop 1 (words_of k s)
  rest-is = ap (λ j. events_of (drop j s)) starts ∙ next-drops s (first_word k)

  pub second_is : {y : Next} → y ≡ next_at s x.place → y.event ≡ word_at (words_of k s) 1
  second_is e = ap (λ (z : Next). z.event) e ∙ (ap (λ j. (next_at s j).event) starts ∙ second_word s (first_word k))

  pub second-in : first_word k ≤ length s → x.place ≤ length s
  second-in h = omega (arith, starts, (next-moves s (first_word k) h).0)

-- a line goes on behind its key word
pub line-begins : {k : Kind} {s : List ℕ} → LineOf k s → first_word k ≤ length s
line-begins {k} {s} l =
    let w = words_bytes k l.words in
    omega (arith, ap length l.bytes, length-append (keyword k) (w ++ 41 ∷ []), length-append w (41 ∷ []))

-- and has not too many bytes
pub line-ends : {k : Kind} {s : List ℕ} → LineOf k s → length s ≤ most_bytes
line-ends {k} {s} l = omega (arith, ap length l.bytes, l.good.2)
