-- Laws of an action's parameters: read one after another, each among those before it or not, and copied into the table of names.
use mathlib.Core.Path.{◌≡◌, refl, sym, ap, ap₂, subst, ◌∙◌}
use mathlib.Core.Bool.{Bool, true, false}
use mathlib.Core.List.{List, [], ◌∷◌, ◌++◌, append-nil, append_assoc}
use Prim.Native.Nat.{ℕ, zero, suc, ◌+◌, ◌*◌, ◌-◌, ◌<◌, ◌≤◌}
use native.Mathlib.Omega.{arith}
use borrow.Author.Tests.{lt-ltb, le-ltb, le-leb, lt-leb}
use lib.ListN.{length, get_or, drop, length-drop, length-append, length-map}
use Rattle.label.specs.Limits.{parameter_count}
use Rattle.words.specs.declared.Key.{Key}
use Rattle.names.specs.Inner.{put_key}
use Rattle.names.specs.Keys.{key_at, keys_at, place_of, is_among}
use Rattle.names.specs.Layout.{constants_at, declared_at, actions_at, parameters_at, variants_at, name_words}
use Rattle.names.specs.KeyLaws.{key-ext, among-at, among_none, length-keys, keys-same, length-put, put-before, put-behind, keys-more}
use Rattle.names.specs.Many.{many}
use Rattle.names.specs.ManyLaws.{many_more}
use Rattle.events.specs.declared.Event.{Event}
use Rattle.events.specs.declared.Next.{Next}
use Rattle.events.specs.Inner.{next_at}
use Rattle.events.specs.Front.{is_end, events_of}
use Rattle.events.specs.FrontLaws.{next-end, next_more, next-moves, events-short}
use Rattle.events.specs.Contents.{key_in, keys_in}
use Rattle.refusal.specs.declared.Refusal.TheVariants.{Name, Space}
use Rattle.refusal.specs.Outcome.{ok}
use Rattle.mdp.specs.Model.{most_actions}
use Rattle.session.specs.Declaring.{repeated, action_line}
use Rattle.session.specs.Good.{most_variant_names}
use Rattle.declare.specs.declared.Counts.{Counts}
use Rattle.declare.specs.Inner.{Naming, Distinguished, ParametersOf, Copied}
use Rattle.declare.specs.Tables.{names_of, GoodNames}
use Rattle.declare.proofs.TableLaws.{names-ext}
use Rattle.std.specs.Prelude.{Err, None, Ok, Option, Some}

-- ===== Reading them =====

repeated-more : (vs ks : List Key) (k : Key) → is_among k vs ≡ false → repeated vs (k ∷ ks) ≡ repeated (vs ++ (k ∷ [])) ks
unfolding repeated
repeated-more vs ks k e = rw e

repeated-here : (vs ks : List Key) (k : Key) → is_among k vs ≡ true → repeated vs (k ∷ ks) ≡ true
unfolding repeated
repeated-here vs ks k e = rw e

repeated-none : (vs : List Key) → repeated vs [] ≡ false
unfolding repeated
repeated-none vs = refl

from_zero : (n : ℕ) → n ≡ 0 + n
from_zero n = omega arith

no_keys : (s : List ℕ) → keys_at s 0 0 ≡ []
unfolding keys_at many
no_keys s = refl

-- n keys, all different, up to the place; the others behind it
pub record Naming-on (line : List ℕ) (start : ℕ) (keys : List ℕ) (place n : ℕ) : Type 0 where
  pub so_far : repeated [] (keys_in (events_of (drop start line))) ≡ repeated (keys_at keys 0 n) (keys_in (events_of (drop place line)))
  pub all : keys_in (events_of (drop start line)) ≡ keys_at keys 0 n ++ keys_in (events_of (drop place line))
  pub within : place ≤ length line
  pub few : n * 2 ≤ length keys
  pub room : length (events_of (drop start line)) * 2 ≤ length keys

module _ (line : List ℕ) (start : ℕ) where
  pub parameters-start : (keys : List ℕ) → start ≤ length line → length (events_of (drop start line)) * 2 ≤ length keys → Naming-on line start keys start 0
  parameters-start keys h r = record {
    so_far = ap (λ (vs : List Key). repeated vs (keys_in (events_of (drop start line)))) (sym (no_keys keys));
    all = ap (λ (vs : List Key). vs ++ keys_in (events_of (drop start line))) (sym (no_keys keys));
    within = h;
    few = omega arith;
    room = r;
  }

  module _ (keys : List ℕ) (place n : ℕ) (c : Naming-on line start keys place n) where
    -- the names read and those that are left
    counted : length (events_of (drop start line)) ≡ n + length (events_of (drop place line))
    counted =
        sym (length-map (events_of (drop start line)) key_in)
        ∙ ap length c.all
        ∙ length-append (keys_at keys 0 n) (keys_in (events_of (drop place line)))
        ∙ ap₂ (λ (x y : ℕ). x + y) (length-keys keys 0 n) (length-map (events_of (drop place line)) key_in)

    ended : events_of (drop place line) ≡ [] → ParametersOf (keys_in (events_of (drop start line))) (Some n) keys
    ended e =
        let f = c.few in
        record {
          told = (
            c.so_far ∙ ap (λ (es : List Event). repeated (keys_at keys 0 n) (keys_in es)) e ∙ repeated-none (keys_at keys 0 n),
            sym (c.all ∙ ap (λ (es : List Event). keys_at keys 0 n ++ keys_in es) e ∙ append-nil (keys_at keys 0 n)),
            omega arith,
          );
        }

    pub parameters-out : length line ≤ place → ParametersOf (keys_in (events_of (drop start line))) (Some n) keys
    parameters-out h = ended (events-short (drop place line) (rw length-drop (omega arith)))

    pub parameters-find : 0 + n * 2 ≤ length keys
    parameters-find = omega (arith, c.few)

    module _ {x : Next} (q : x ≡ next_at line place) {b : Bool} (p : b ≡ is_end x.event) where
      pub parameters-end : b ≡ true → ParametersOf (keys_in (events_of (drop start line))) (Some n) keys
      parameters-end e = ended (next-end line place (ap (λ (y : Next). is_end y.event) (sym q) ∙ sym p ∙ e))

      module _ (e : b ≡ false) where
        ongoing : is_end (next_at line place).event ≡ false
        ongoing = ap (λ (y : Next). is_end y.event) (sym q) ∙ sym p ∙ e

        after : events_of (drop place line) ≡ x.event ∷ events_of (drop x.place line)
        after = next_more line place ongoing ∙ ap (λ (y : Next). y.event ∷ events_of (drop y.place line)) (sym q)

        pub parameters-put : n * 2 + 2 ≤ length keys
        parameters-put = omega (arith, counted, c.room, ap length after)

        pub parameters-shrink : length line - x.place < length line - place
        parameters-shrink =
            let m = next-moves line place c.within in
            let l = m.1 ongoing in
            let k = m.0 in
            rw q (omega arith)

        module _ {k : Key} (w : k ≡ key_in x.event) {i : ℕ} (z : i ≡ place_of k (keys_at keys 0 n)) where
          pub parameters-twice : i < n → ParametersOf (keys_in (events_of (drop start line))) None keys
          parameters-twice h = record {
            told =
                c.so_far ∙ ap (λ (es : List Event). repeated (keys_at keys 0 n) (keys_in es)) after
                ∙ ap (λ (j : Key). repeated (keys_at keys 0 n) (j ∷ keys_in (events_of (drop x.place line)))) (sym w)
                ∙ repeated-here (keys_at keys 0 n) (keys_in (events_of (drop x.place line))) k (among-at keys 0 n k z h);
          }

          pub parameters-on : {t : List ℕ} → n ≤ i → t ≡ put_key keys (n * 2) k → Naming-on line start t x.place (n + 1)
          parameters-on {t} h u =
              let r = c.room in
              let m = next-moves line place c.within in
              let y = ap (λ (y : Next). y.place) q in
              let g : keys_at t 0 (n + 1) ≡ keys_at keys 0 n ++ (k ∷ []) =
              ap (λ (s : List ℕ). keys_at s 0 (n + 1)) u ∙ ap (λ (j : ℕ). keys_at (put_key keys j k) 0 (n + 1)) (from_zero (n * 2))
              ∙ keys-more keys 0 n k (omega (arith, parameters-put)) in
              record {
                so_far = c.so_far ∙ ap (λ (es : List Event). repeated (keys_at keys 0 n) (keys_in es)) after
                    ∙ ap (λ (j : Key). repeated (keys_at keys 0 n) (j ∷ keys_in (events_of (drop x.place line)))) (sym w)
                    ∙ repeated-more (keys_at keys 0 n) (keys_in (events_of (drop x.place line))) k (among_none keys 0 n k z h)
                    ∙ ap (λ (vs : List Key). repeated vs (keys_in (events_of (drop x.place line)))) (sym g);
                all = c.all ∙ ap (λ (es : List Event). keys_at keys 0 n ++ keys_in es) after
                    ∙ ap (λ (j : Key). keys_at keys 0 n ++ (j ∷ keys_in (events_of (drop x.place line)))) (sym w)
                    ∙ sym (append_assoc (keys_at keys 0 n) (k ∷ []) (keys_in (events_of (drop x.place line))))
                    ∙ ap (λ (vs : List Key). vs ++ keys_in (events_of (drop x.place line))) (sym g);
                within = rw y m.0;
                few = rw (u, length-put) (omega (arith, parameters-put));
                room = rw (u, length-put) r;
              }

-- ===== Copying them =====

pub copy_start : (ks s : List ℕ) → Copied ks s s 0
unfolding keys_at many
copy_start ks s = record { size = refl; keys = refl; before = record { word = λ i h k. refl }; behind = record { word = λ i h k. refl } }

pub copy-on : (ks s t : List ℕ) (i n : ℕ) {k : Key} {u : List ℕ} → i < n → n ≤ parameter_count → name_words ≤ length s
    → Copied ks s t i → k ≡ key_at ks 0 i → u ≡ put_key t (parameters_at + i * 2) k → Copied ks s u (i + 1)
unfolding keys_at
copy-on ks s t i n {k} {u} h f r c e z =
    let w = c.size in
    rw (z, e) (record {
      size = length-put t (parameters_at + i * 2) (key_at ks 0 i) ∙ c.size;
      keys = keys-more t parameters_at i (key_at ks 0 i) (omega arith) ∙ ap (λ (vs : List Key). vs ++ (key_at ks 0 i ∷ [])) c.keys
          ∙ sym (many_more (key_at ks 0) (key_at ks 0) i (key_at ks 0 i) (λ j l. refl) refl);
      before = record { word = λ j a b. (put-before t (parameters_at + i * 2) (key_at ks 0 i) 0 parameters_at (omega arith)).word j a b ∙ c.before.word j a b };
      behind = record {
        word = λ j a b. (put-behind t (parameters_at + i * 2) (key_at ks 0 i) variants_at (most_variant_names * 2) (omega arith)).word j a b ∙ c.behind.word j a b;
      };
    })

pub put-size : (s t u : List ℕ) (i : ℕ) (k : Key) → length t ≡ length s → u ≡ put_key t i k → length u ≡ length s
put-size s t u i k e z = ap length z ∙ length-put t i k ∙ e

pub copy-room : (ks s t : List ℕ) (i n : ℕ) → Copied ks s t i → name_words ≤ length s → i < n → n ≤ parameter_count → parameters_at + i * 2 + 2 ≤ length t
copy-room ks s t i n c r h f = let w = c.size in omega arith

pub copy-end : (ks s t : List ℕ) (i n : ℕ) → Copied ks s t i → i ≤ n → n ≤ i → Copied ks s t n
copy-end ks s t i n c h k = let e : i ≡ n = omega arith in subst (Copied ks s t) e c

-- ===== (action n !p ..) =====

no-variants : (s : List ℕ) (base : ℕ) → keys_at s base 0 ≡ []
unfolding keys_at many
no-variants s base = refl

key-behind : (s : List ℕ) (base e i : ℕ) → key_at s base (e + i) ≡ key_at s (base + e * 2) i
unfolding key_at
key-behind s base e i =
    key-ext _ _ (ap (λ (x : ℕ). get_or s x 0) (omega arith)) (ap (λ (x : ℕ). get_or s x 0) (omega arith))

add-zero : (e : ℕ) → e + 0 ≡ e
add-zero e = omega arith

add-suc : (e v : ℕ) → e + suc v ≡ suc (e + v)
add-suc e v = omega arith

-- keys, and those that stand behind them
keys-behind : (s : List ℕ) (base e v : ℕ) → keys_at s base (e + v) ≡ keys_at s base e ++ keys_at s (base + e * 2) v
unfolding keys_at many
keys-behind s base e zero = ap (λ (x : ℕ). many (key_at s base) x) (add-zero e) ∙ sym (append-nil (many (key_at s base) e))
keys-behind s base e (suc v) =
    ap (λ (x : ℕ). many (key_at s base) x) (add-suc e v)
    ∙ ap₂ (λ (l : List Key) (x : Key). l ++ (x ∷ [])) (keys-behind s base e v) (key-behind s base e v)
    ∙ append_assoc (many (key_at s base) e) (many (key_at s (base + e * 2)) v) (key_at s (base + e * 2) v ∷ [])

module _ (s : List ℕ) (n : Counts) (k : Key) (ps : List Key) where
  pub action-name : {i : ℕ} → i ≡ place_of k (keys_at s actions_at n.actions) → i < n.actions → Naming (action_line (names_of s n) k ps) s (Err Name) s
  unfolding action_line names_of
  action-name p h = record { named = (rw (among-at s actions_at n.actions k p h), refl) }

  module _ {i : ℕ} (p : i ≡ place_of k (keys_at s actions_at n.actions)) (h : n.actions ≤ i) where
    pub action-twice : {t : List ℕ} {q : Option ℕ} → q ≡ None → ParametersOf ps q t → Naming (action_line (names_of s n) k ps) s (Err Name) s
    unfolding action_line names_of
    action-twice {t} {q} e d = go (subst (λ (x : Option ℕ). Distinguished ps x t) e d.told)
      where
        go : repeated [] ps ≡ true → Naming (action_line (names_of s n) k ps) s (Err Name) s
        go z = record { named = (rw (among_none s actions_at n.actions k p h, z), refl) }

    module _ {c : ℕ} {ks : List ℕ} {q : Option ℕ} (e : q ≡ Some c) (d : ParametersOf ps q ks) where
      distinct : Distinguished ps (Some c) ks
      distinct = subst (λ (x : Option ℕ). Distinguished ps x ks) e d.told

      size : length ps ≡ c
      size = ap length (sym distinct.1) ∙ length-keys ks 0 c

      pub action-parameters : parameter_count < c → Naming (action_line (names_of s n) k ps) s (Err Space) s
      unfolding action_line names_of
      action-parameters l = record { named = (rw (among_none s actions_at n.actions k p h, distinct.0, size, lt-ltb parameter_count c l), refl) }

      pub action-many : c ≤ parameter_count → most_actions ≤ n.actions → Naming (action_line (names_of s n) k ps) s (Err Space) s
      unfolding action_line names_of
      action-many l m =
          record {
            named = (
              rw (
                among_none s actions_at n.actions k p h,
                distinct.0,
                size,
                le-ltb parameter_count c l,
                length-keys s actions_at n.actions,
                le-leb most_actions n.actions m,
              ),
              refl,
            );
          }

      pub action-room : c * 2 ≤ length ks
      action-room = distinct.2

      pub action-done : {t u : List ℕ} → GoodNames s n → c ≤ parameter_count → n.actions < most_actions → t ≡ put_key s (actions_at + n.actions * 2) k → Copied ks t u c
          → Naming (action_line (names_of s n) k ps) s
          (Ok (record { constants = n.constants; predicates = n.predicates; actions = n.actions + 1; parameters = c; variants = 0; earlier = n.earlier + n.variants })) u
      unfolding action_line names_of
      action-done {t} {u} g l m z y =
          record {
            named = (
              rw (among_none s actions_at n.actions k p h, distinct.0, size, le-ltb parameter_count c l, length-keys s actions_at n.actions, lt-leb most_actions n.actions m)
                  (ap ok (names-ext _ _
                  (sym (early constants_at n.constants (let a = g.constants in omega arith) ∙ kept constants_at n.constants (let a = g.constants in omega arith)))
                  (sym (early declared_at n.predicates (let a = g.predicates in omega arith) ∙ kept declared_at n.predicates (let a = g.predicates in omega arith)))
                  (sym (early actions_at (n.actions + 1) (omega arith) ∙ ap (λ (x : List ℕ). keys_at x actions_at (n.actions + 1)) z
                  ∙ keys-more s actions_at n.actions k (let r = g.room in omega arith)))
                  (sym (y.keys ∙ distinct.1))
                  (sym (no-variants u (variants_at + (n.earlier + n.variants) * 2)))
                  (sym (late (n.earlier + n.variants) g.earlier ∙ keys-behind s variants_at n.earlier n.variants)))),
              record {
                room = rw (y.size, z, length-put) g.room;
                constants = g.constants;
                predicates = g.predicates;
                actions = omega arith;
                parameters = l;
                variants = omega arith;
                earlier = omega (arith, g.earlier);
              },
            );
          }
        where
          early : (base w : ℕ) → base + w * 2 ≤ parameters_at → keys_at u base w ≡ keys_at t base w
          early base w r = keys-same t u base w (record { word = λ j a b. y.before.word j (omega arith) (omega arith) })

          late : (w : ℕ) → w ≤ most_variant_names → keys_at u variants_at w ≡ keys_at s variants_at w
          late w r =
              keys-same t u variants_at w (record { word = λ j a b. y.behind.word j (omega arith) (omega arith) })
              ∙ ap (λ (x : List ℕ). keys_at x variants_at w) z
              ∙ keys-same s (put_key s (actions_at + n.actions * 2) k) variants_at w (put-behind s (actions_at + n.actions * 2) k variants_at (w * 2) (omega arith))

          kept : (base w : ℕ) → base + w * 2 ≤ actions_at → keys_at t base w ≡ keys_at s base w
          kept base w r = ap (λ (x : List ℕ). keys_at x base w) z
              ∙ keys-same s (put_key s (actions_at + n.actions * 2) k) base w (put-before s (actions_at + n.actions * 2) k base (w * 2) (omega arith))

pub put-room : (s t : List ℕ) (n : Counts) (i : ℕ) (k : Key) → GoodNames s n → t ≡ put_key s i k → name_words ≤ length t
put-room s t n i k g z = let r = g.room in rw (z, length-put) r

pub names-sum : {s : List ℕ} {n : Counts} → GoodNames s n → n.earlier + n.variants < 18446744073709551616
names-sum g = omega (arith, g.earlier)
