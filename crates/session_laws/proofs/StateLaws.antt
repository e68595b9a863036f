-- (objects n) and (is c o) keep a session good (document 01, section 'States and value').
use Rattle.std.specs.Prelude.{◌≡◌, refl, true, not, ◌&&◌, ◌||◌, List, [], ◌∷◌, ℕ, zero, suc, ◌≤◌, ◌<◌, get_or, set, replicate, ltb, leb, eqb}
use Rattle.std.proofs.Common.{sym, ◌∙◌, arith, ltb-true, leb-true, leb-false, lt-ltb, le-leb}
use Rattle.std.proofs.lemmas.List.{get_or-replicate}
use Rattle.std.proofs.lemmas.Bool.{not-false}
use Rattle.basics.specs.Tests.{and_left, and_right}
use Rattle.refusal.specs.declared.Refusal.TheVariants.{Name, Range}
use Rattle.label.specs.Limits.{constant_count}
use Rattle.words.specs.declared.Key.{Key}
use Rattle.names.specs.Keys.{place_of, is_among}
use Rattle.diagram.specs.WordLaws.{every-below, below-every}
use Rattle.state.specs.Lent.{fact_count, names_below, constants_below, is_state, most_objects}
use Rattle.refusal.specs.Outcome.{ok, Accepted}
use Rattle.refusal.specs.OutcomeLaws.{accepted-ok, accepted-cond}
use Rattle.session.specs.declared.Part.TheVariants.{Run}
use Rattle.session.specs.Session.{Names, Live, Session, with_live}
use Rattle.session.specs.Facts.{cleared, objects_line, placed, is_line}
use Rattle.session.specs.Good.{GoodLog, GoodSession}
use Rattle.session_laws.proofs.PlaceLaws.{model-run}

-- ===== States, taken apart and made =====

pub record Described (ar : List ℕ) (n : ℕ) (constants facts : List ℕ) : Type 0 where
  pub some : 1 ≤ n
  pub placing : (c : ℕ) → c < constant_count → get_or constants c 0 < n
  pub naming : (i : ℕ) → i < fact_count facts → names_below ar n facts i ≡ true

pub described : (ar : List ℕ) (n : ℕ) (constants facts : List ℕ) → is_state ar n constants facts ≡ true → Described ar n constants facts
unfolding is_state constants_below
described ar n constants facts e =
    let d = and_right (leb 1 n) _ e in
    record {
      some = leb-true 1 n (and_left (leb 1 n) _ e);
      placing = λ c h. ltb-true (get_or constants c 0) n (below-every constant_count (λ i. ltb (get_or constants i 0) n) c (and_left (constants_below n constants) _ d) h);
      naming = λ i h. below-every (fact_count facts) (names_below ar n facts) i (and_right (constants_below n constants) _ d) h;
    }

pub state-made : (ar : List ℕ) (n : ℕ) (constants facts : List ℕ) → Described ar n constants facts → is_state ar n constants facts ≡ true
unfolding is_state constants_below
state-made ar n constants facts d =
    rw (
      le-leb 1 n d.some,
      every-below constant_count (λ c. ltb (get_or constants c 0) n) (λ c h. lt-ltb (get_or constants c 0) n (d.placing c h)),
      every-below (fact_count facts) (names_below ar n facts) d.naming,
    )

-- another state in the run
pub live-good : (σ : Session) → GoodSession σ → σ.part ≡ Run → (l : Live)
    → (1 ≤ l.objects → is_state σ.model.arities l.objects l.constants l.facts ≡ true) → l.objects ≤ most_objects → GoodLog l → GoodSession (with_live σ l)
live-good σ g p l h m log = record {
  tables = g.tables;
  agreeing = g.agreeing;
  parts = g.parts;
  few = g.few;
  state = h;
  most = m;
  log = log;
  quiet = λ e. model-run (sym e ∙ p);
  begun = λ e. let b = g.begun e in record { some = b.some; good = b.good; value = b.value };
}

-- ===== (objects n) =====

-- count and total begin at 0
pub log-none : (l : Live) → l.count ≡ 0 → l.total ≡ 0 → GoodLog l
log-none l c t = record { count = omega arith; total = omega arith; none = λ e. t }

cleared-state : (ar : List ℕ) (n : ℕ) → 1 ≤ n → is_state ar n (cleared n).constants (cleared n).facts ≡ true
unfolding cleared
cleared-state ar n h = state-made ar n (replicate constant_count 0) [] (record {
  some = h;
  placing = λ c k. rw (get_or-replicate {A = ℕ} constant_count c 0 0 k) h;
  naming = λ i k. absurd (omega arith);
})

pub objects-kept : (P : Live → Type 0) (n : ℕ) → (n ≤ most_objects → P (cleared n)) → Accepted P (objects_line n)
unfolding objects_line
objects-kept P n h =
    accepted-cond (not (leb 1 n && leb n most_objects)) Range (ok (cleared n)) (λ d.
    accepted-ok (h (leb-true n most_objects (and_right (leb 1 n) _ (not-false (leb 1 n && leb n most_objects) d)))))

pub objects-good : (σ : Session) → GoodSession σ → σ.part ≡ Run → (n : ℕ) (l : Live) → objects_line n ≡ ok l → GoodSession (with_live σ l)
unfolding cleared
objects-good σ g p n l e =
    (objects-kept (λ m. GoodSession (with_live σ m)) n (λ m. live-good σ g p (cleared n) (cleared-state σ.model.arities n) m (log-none (cleared n) refl refl))).given l e

-- ===== (is c o) =====

set_below : (s : List ℕ) (i o n c : ℕ) → o < n → get_or s c 0 < n → get_or (set s i o) c 0 < n
set_below [] i o n c h k = k
set_below (x ∷ s) zero o n zero h k = h
set_below (x ∷ s) zero o n (suc c) h k = k
set_below (x ∷ s) (suc i) o n zero h k = k
set_below (x ∷ s) (suc i) o n (suc c) h k = set_below s i o n c h k

placed-state : (ar : List ℕ) (l : Live) (c o : ℕ) → o < l.objects → is_state ar l.objects l.constants l.facts ≡ true
    → is_state ar (placed l c o).objects (placed l c o).constants (placed l c o).facts ≡ true
unfolding placed
placed-state ar l c o h e =
    let d = described ar l.objects l.constants l.facts e in
    state-made ar l.objects (set l.constants c o) l.facts (record {
      some = d.some;
      placing = λ i k. set_below l.constants c o l.objects i h (d.placing i k);
      naming = d.naming;
    })

placed-good : (σ : Session) → GoodSession σ → σ.part ≡ Run → (c o : ℕ) → o < σ.live.objects → GoodSession (with_live σ (placed σ.live c o))
unfolding placed
placed-good σ g p c o h =
    live-good σ g p (placed σ.live c o) (λ k. placed-state σ.model.arities σ.live c o h (g.state k)) g.most
    (record { count = g.log.count; total = g.log.total; none = g.log.none })

pub is-kept : (P : Live → Type 0) (n : Names) (l : Live) (k : Key) (o : ℕ) → (o < l.objects → P (placed l (place_of k n.constants) o))
    → Accepted P (is_line n l k o)
unfolding is_line
is-kept P n l k o h =
    accepted-cond (not (is_among k n.constants) || eqb (get_or l.placed (place_of k n.constants) 0) 1) Name _ (λ d₁.
    accepted-cond (leb l.objects o) Range _ (λ d₂.
    accepted-ok (h (leb-false l.objects o d₂))))

pub is-good : (σ : Session) → GoodSession σ → σ.part ≡ Run → (k : Key) (o : ℕ) (l : Live) → is_line σ.names σ.live k o ≡ ok l → GoodSession (with_live σ l)
is-good σ g p k o l e =
    (is-kept (λ m. GoodSession (with_live σ m)) σ.names σ.live k o (placed-good σ g p (place_of k σ.names.constants) o)).given l e
