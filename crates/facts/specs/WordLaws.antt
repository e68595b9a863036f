-- Laws of a state in lent words, for those who lend them.
use Rattle.std.specs.Prelude.{◌≡◌, refl, List, length, get_or, replicate}
use Rattle.std.proofs.Common.{sym, ap, ◌∙◌, arith, eq-eqb, ne_eqb, ext_get_or}
use Rattle.std.proofs.Math.Path.{subst}
use Prim.Native.Nat.{ℕ, suc, ◌+◌, ◌*◌, ◌-◌, ◌/◌, ◌<◌, ◌≤◌, min}
use Rattle.std.proofs.lemmas.List.{length-replicate, get_or-replicate}
use Rattle.label.specs.Limits.{constant_count}
use Rattle.state.specs.Lent.{fact_words, fact_count}
use Rattle.fact_index.specs.Inner.{indexed_count, Indexed, Clean}
use Rattle.fact_index.specs.Index.{buckets}
use Rattle.fact_index.specs.IndexLaws.{clean-indexed, indexed-clean}
use Rattle.session.specs.Session.{Live as SessionLive}
use Rattle.session.specs.Facts.{cleared}
use Rattle.facts.specs.declared.Live.{Live}
use Rattle.facts.specs.Inner.{indexed_rows, FactIndex, Reindexed, Cleared, EmptyRow}
use Rattle.facts.specs.Words.{part, placed_base, facts_base, index_base, index_words, state_words, live_of, GoodLive}
use Rattle.facts.specs.PartLaws.{length_part, part_at, same-before}

-- a row of zeros has no object
pub empty-row : EmptyRow (replicate fact_words 0)
empty-row = record { size = length-replicate {A = ℕ} fact_words 0; zeros = λ j h. get_or-replicate {A = ℕ} fact_words (suc j) 0 0 (omega arith) }

pub live-ext : (x y : SessionLive) → x.objects ≡ y.objects → x.placed ≡ y.placed → x.constants ≡ y.constants → x.facts ≡ y.facts
    → x.count ≡ y.count → x.total ≡ y.total → x ≡ y
live-ext x y a b c d e f = λ i. record { objects = a i; placed = b i; constants = c i; facts = d i; count = e i; total = f i }

-- ===== A state without facts =====

zero-part : (t : List ℕ) (i : ℕ) → i + constant_count ≤ length t → ((j : ℕ) → j < i + constant_count → get_or t j 0 ≡ 0) → part t i constant_count ≡ replicate constant_count 0
zero-part t i l z =
    let m = length_part t i constant_count l in
    ext_get_or 0 (part t i constant_count) (replicate constant_count 0) (m ∙ sym (length-replicate {A = ℕ} constant_count 0))
    (λ j h. let k : j < constant_count = (rw m at h) in part_at t i constant_count j k ∙ (z (i + j) (omega arith) ∙ sym (get_or-replicate {A = ℕ} constant_count j 0 0 k)))

-- cleared words hold the cleared state of n objects
pub cleared-live : {s t : List ℕ} (n : ℕ) → state_words ≤ length s → Cleared s t facts_base → live_of t (record { objects = n; facts = 0; count = 0; total = 0 }) ≡ cleared n
unfolding live_of cleared
cleared-live {s} {t} n r c =
    let w = c.size in
    live-ext _ _ refl (zero-part t placed_base (omega arith) (λ j l. c.zeros j (omega arith))) (zero-part t 0 (omega arith) (λ j l. c.zeros j (omega arith)))
    refl refl refl

-- ===== The index of the facts =====

rows_none : (l : Live) → l.objects ≡ 0 → indexed_rows l ≡ 0
unfolding indexed_rows
rows_none l e = rw (eq-eqb l.objects 0 e)

rows_all : (l : Live) → 1 ≤ l.objects → indexed_rows l ≡ l.facts
unfolding indexed_rows
rows_all l h = rw (ne_eqb l.objects 0 (λ e. omega arith))

module _ {ar s : List ℕ} {l : Live} where
  -- before the first (objects n) it has no rows, then all
  pub index-none : l.objects ≡ 0 → Clean (part s index_base index_words) → FactIndex ar s l
  index-none e c = record { indexed = subst (Indexed ar _ _) (sym (rows_none l e)) (clean-indexed ar _ _ c) }

  pub index-clean : l.objects ≡ 0 → FactIndex ar s l → Clean (part s index_base index_words)
  index-clean e x = indexed-clean (subst (Indexed ar _ _) (rows_none l e) x.indexed)

  pub index-rows : 1 ≤ l.objects → Indexed ar (part s facts_base (l.facts * fact_words)) (part s index_base index_words) l.facts → FactIndex ar s l
  index-rows h t = record { indexed = subst (Indexed ar _ _) (sym (rows_all l h)) t }

  pub index-holds : 1 ≤ l.objects → FactIndex ar s l → Indexed ar (part s facts_base (l.facts * fact_words)) (part s index_base index_words) l.facts
  index-holds h x = subst (Indexed ar _ _) (rows_all l h) x.indexed

  -- the words of the facts and of the index stay, and how many there are
  pub index_stays : (t : List ℕ) (m : Live) → m.objects ≡ l.objects → m.facts ≡ l.facts
      → part t facts_base (l.facts * fact_words) ≡ part s facts_base (l.facts * fact_words) → part t index_base index_words ≡ part s index_base index_words
      → FactIndex ar s l → FactIndex ar t m
  unfolding indexed_rows
  index_stays t m o f p q x = record { indexed = rw (o, f, p, q) x.indexed }

-- no rows: with any arity list
pub index-quiet : {ar br s : List ℕ} {l : Live} → l.objects ≡ 0 → FactIndex ar s l → FactIndex br s l
index-quiet e x = index-none e (index-clean e x)

module _ {s : List ℕ} {l : Live} (g : GoodLive s l) where
  pub fact-count : fact_count (part s facts_base (l.facts * fact_words)) ≡ l.facts
  fact-count =
      let r = g.room in
      let h = g.facts in
      ap (λ (n : ℕ). n / fact_words) (length_part s facts_base (l.facts * fact_words) (omega arith)) ∙ (omega arith)

  -- as many rows as there are facts and links
  pub index-all : {ar : List ℕ} → 1 ≤ l.objects → FactIndex ar s l
      → Indexed ar (part s facts_base (l.facts * fact_words)) (part s index_base index_words)
      (indexed_count (part s facts_base (l.facts * fact_words)) (part s index_base index_words))
  unfolding indexed_count
  index-all {ar} h x = subst (Indexed ar _ _) few (index-holds h x)
    where
      few : l.facts ≡ min (fact_count (part s facts_base (l.facts * fact_words))) (length (part s index_base index_words) - buckets)
      few = omega (arith, fact-count, length_part s index_base index_words g.room, g.facts)

-- words of the index written: the state is the same
pub reindexed-live : {s t : List ℕ} {l : Live} → Reindexed s t → GoodLive s l → (live_of t l ≡ live_of s l) × GoodLive t l
unfolding live_of
reindexed-live {s} {t} {l} e g =
    let h = g.facts in (
      live-ext _ _ refl
          (same-before s t index_base placed_base constant_count e.front (omega arith))
          (same-before s t index_base 0 constant_count e.front (omega arith))
          (same-before s t index_base facts_base (l.facts * fact_words) e.front (omega arith))
          refl refl,
      record { room = omega (arith, g.room, e.size); objects = g.objects; facts = g.facts },
    )
