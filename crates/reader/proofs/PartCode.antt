-- What the code that lends a part of a table of variables needs to know: the part has the table's keys, and once it is back the table has the part's and, of the
-- other kind, its own.
use Prim.Native.Nat.{ℕ, ◌+◌, ◌-◌, ◌*◌, ◌≤◌, ◌<◌}
use mathlib.Core.Path.{◌≡◌, sym, ap, ap₂, subst, ◌∙◌}
use mathlib.Core.List.{List, [], ◌++◌}
use native.Mathlib.Omega.{arith}
use lib.ListN.{length, get_or, take, drop, length-append, length-drop, get_or-append}
use lib.Seq.{length-take-le, get_or-take, get_or-drop, drop_at}
use Rattle.words.specs.declared.Key.{Key}
use Rattle.words.specs.ByteLaws.{part-tail}
use Rattle.names.specs.ManyLaws.{many-ext}
use Rattle.names.specs.Keys.{key_at, keys_at}
use Rattle.names.specs.KeyLaws.{key-ext}
use Rattle.events.specs.declared.Event.{Event}
use Rattle.reading.specs.declared.Binding.{Binding}
use Rattle.reading.specs.declared.Kind.TheVariants.{Maximum, Minimum}
use Rattle.reading.specs.Reading.{met, Met, variable_met, minimum_met}
use Rattle.reading.specs.Occurrences.{keys_of}
use Rattle.reader.specs.declared.Known.{Known}
use Rattle.reader.specs.Gathering.{kept_first, kept_met}
use Rattle.reader.specs.Callers.{kept_count, part_words, met_in, Part, Variables, Meets, MeetsWord}

-- keys whose words are the same
keys-alike : (s t : List ℕ) (a b n : ℕ) → ((i : ℕ) → i < n * 2 → get_or t (a + i) 0 ≡ get_or s (b + i) 0) → keys_at t a n ≡ keys_at s b n
unfolding keys_at key_at
keys-alike s t a b n h = many-ext (key_at t a) (key_at s b) n (λ i l. key-ext _ _ (h (i * 2) (omega arith)) (odd i l))
  where
    odd : (i : ℕ) → i < n → get_or t (a + i * 2 + 1) 0 ≡ get_or s (b + i * 2 + 1) 0
    odd i l =
        let p : a + i * 2 + 1 ≡ a + (i * 2 + 1) = omega arith in
        let q : b + (i * 2 + 1) ≡ b + i * 2 + 1 = omega arith in
        ap (λ (j : ℕ). get_or t j 0) p ∙ h (i * 2 + 1) (omega arith) ∙ ap (λ (j : ℕ). get_or s j 0) q

-- the first words of a list
keys-front : (s t : List ℕ) (n : ℕ) → n * 2 ≤ length s → keys_at (s ++ t) 0 n ≡ keys_at s 0 n
keys-front s t n h = keys-alike s (s ++ t) 0 0 n (λ i l. get_or-append s t 0 (0 + i) (omega arith))

dropped-keys : (s : List ℕ) (p n : ℕ) → keys_at (drop p s) 0 n ≡ keys_at s p n
dropped-keys s p n = keys-alike s (drop p s) 0 p n (λ i l. ap (λ (j : ℕ). get_or (drop p s) j 0) (omega arith) ∙ get_or-drop p s i 0)

-- and those behind them
keys-behind : (s t : List ℕ) (p n : ℕ) → length s ≡ p → keys_at (s ++ t) p n ≡ keys_at t 0 n
keys-behind s t p n e =
    sym (dropped-keys (s ++ t) p n) ∙ ap (λ (u : List ℕ). keys_at u 0 n) (drop_at s t p e)

module _ (xs : List ℕ) (h : part_words * 2 ≤ length xs) where
  front-size : length (take part_words xs) ≡ part_words
  front-size = length-take-le part_words xs (omega arith)

  -- the part of the maximum variables
  pub front-part : {n : ℕ} → n ≤ kept_count → Part (take part_words xs) n
  front-part l = record { words = omega (arith, front-size); within = l }

  pub front-counts : part_words ≡ length (take part_words xs)
  front-counts = sym front-size

  front-keys : (n : ℕ) → n ≤ kept_count → keys_at (take part_words xs) 0 n ≡ keys_at xs 0 n
  front-keys n l = keys-alike xs (take part_words xs) 0 0 n (λ i m. get_or-take part_words xs (0 + i) 0 (omega arith))

  -- the part of the minimum variables
  behind-keys : (n : ℕ) → keys_at (take (length xs - part_words) (drop part_words xs)) 0 n ≡ keys_at xs part_words n
  behind-keys n =
      ap (λ (u : List ℕ). keys_at u 0 n) (part-tail part_words xs)
      ∙ dropped-keys xs part_words n

  -- each part back
  module _ {ys : List ℕ} {w : List Key} {r : ℕ} (m : Meets w r ys) where
    front-back : (n : Known) → n.minimums ≤ kept_count → length ys ≡ length (take part_words xs)
        → MeetsWord (record { variables = w; minimums = keys_at xs part_words n.minimums }) (record { variables = r; minimums = n.minimums }) (ys ++ drop part_words xs)
    front-back n l e = record {
      met =
          let size : length ys ≡ part_words = e ∙ front-size in
          ap₂ (λ (us vs : List Key). record { variables = us; minimums = vs })
          (keys-front ys (drop part_words xs) r (omega (arith, m.table.within)) ∙ m.variables)
          (keys-behind ys (drop part_words xs) part_words n.minimums size
          ∙ dropped-keys xs part_words n.minimums);
      table = record {
        words = omega (arith, e, front-size, length-append ys (drop part_words xs), length-drop part_words xs);
        variables-fit = m.table.within;
        minimums-fit = l;
      };
    }

    behind-back : (n : Known) → n.variables ≤ kept_count → length ys ≡ length (take (length xs - part_words) (drop part_words xs))
        → MeetsWord (record { variables = keys_at xs 0 n.variables; minimums = w }) (record { variables = n.variables; minimums = r })
        (take part_words xs ++ (ys ++ drop (length xs - part_words) (drop part_words xs)))
    behind-back n l e = record {
      met =
          let rest = drop (length xs - part_words) (drop part_words xs) in
          ap₂ (λ (us vs : List Key). record { variables = us; minimums = vs })
          (keys-front (take part_words xs) (ys ++ rest) n.variables (omega (arith, front-size)) ∙ front-keys n.variables l)
          (keys-behind (take part_words xs) (ys ++ rest) part_words r front-size
          ∙ keys-front ys rest r (omega (arith, m.table.words, m.table.within)) ∙ m.variables);
      table = record {
        words =
            let rest = drop (length xs - part_words) (drop part_words xs) in
            omega (arith, m.table.words, front-size, length-append (take part_words xs) (ys ++ rest), length-append ys rest);
        variables-fit = l;
        minimums-fit = m.table.within;
      };
    }

-- one variable more, of either kind

module _ (b : Binding) (xs : List ℕ) (n : Known) (k : Key) (t : Variables xs n) {ys : List ℕ} {r : ℕ} where
  pub variable-back : length ys ≡ length (take part_words xs) → Meets (met b (keys_at (take part_words xs) 0 n.variables) k) r ys
      → MeetsWord (variable_met b (met_in xs n) k) (record { variables = r; minimums = n.minimums }) (ys ++ drop part_words xs)
  variable-back e m =
      subst (λ (ks : List Key). MeetsWord (variable_met b (record { variables = ks; minimums = keys_at xs part_words n.minimums }) k) (record { variables = r; minimums = n.minimums })
      (ys ++ drop part_words xs)) (front-keys xs t.words n.variables t.variables-fit) (front-back xs t.words m n t.minimums-fit e)

  pub minimum-back : length ys ≡ length (take (length xs - part_words) (drop part_words xs)) → Meets (met b (keys_at (take (length xs - part_words) (drop part_words xs)) 0 n.minimums) k) r ys
      → MeetsWord (minimum_met b (met_in xs n) k) (record { variables = n.variables; minimums = r })
      (take part_words xs ++ (ys ++ drop (length xs - part_words) (drop part_words xs)))
  minimum-back e m =
      subst (λ (ks : List Key). MeetsWord (minimum_met b (record { variables = keys_at xs 0 n.variables; minimums = ks }) k) (record { variables = n.variables; minimums = r })
      (take part_words xs ++ (ys ++ drop (length xs - part_words) (drop part_words xs)))) (behind-keys xs t.words n.minimums) (behind-back xs t.words m n t.variables-fit e)

-- the variables of a reward that have their number first: those of one kind, then those of the other

module _ (es : List Event) (xs : List ℕ) (h : part_words * 2 ≤ length xs) {ys : List ℕ} {n : ℕ} (e : length ys ≡ length (take part_words xs))
    (m : Meets (kept_first [] (keys_of Maximum es)) n ys) where
  first_back : MeetsWord (record { variables = kept_first [] (keys_of Maximum es); minimums = keys_at xs part_words 0 }) (record { variables = n; minimums = 0 }) (ys ++ drop part_words xs)
  first_back = front-back xs h m (record { variables = n; minimums = 0 }) (omega arith) e

  pub kinds-back : {zs : List ℕ} {r : ℕ} → length zs ≡ length (take (length (ys ++ drop part_words xs) - part_words) (drop part_words (ys ++ drop part_words xs)))
      → Meets (kept_first [] (keys_of Minimum es)) r zs
      → MeetsWord (kept_met es) (record { variables = n; minimums = r })
      (take part_words (ys ++ drop part_words xs) ++ (zs ++ drop (length (ys ++ drop part_words xs) - part_words) (drop part_words (ys ++ drop part_words xs))))
  kinds-back {zs} {r} f g =
      let us : List ℕ = ys ++ drop part_words xs in
      subst (λ (ks : List Key). MeetsWord (record { variables = ks; minimums = kept_first [] (keys_of Minimum es) }) (record { variables = n; minimums = r })
      (take part_words us ++ (zs ++ drop (length us - part_words) (drop part_words us)))) (ap (λ (x : Met). x.variables) first_back.met)
      (behind-back us first_back.table.words g (record { variables = n; minimums = 0 }) m.table.within f)
