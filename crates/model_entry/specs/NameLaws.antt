-- Laws of the variants of all actions, one action's behind another's: how many there are before an action, and where their names stand (document 02, L10).
use Rattle.std.specs.Prelude.{◌≡◌, refl, List, [], ◌∷◌, ◌++◌, ℕ, zero, suc, ◌+◌, ◌*◌, ◌≤◌, ◌<◌, length, get_or, take, drop}
use Rattle.std.proofs.Common.{sym, ap, ap₂, subst, ◌∙◌, append-nil, append_assoc, arith, length-drop, length-take-le, drop-drop, get_or-take, get_or-drop, ext_get_or}
use Rattle.words.specs.declared.Key.{Key}
use Rattle.names.specs.Keys.{key_at, keys_at}
use Rattle.names.specs.KeyLaws.{key-ext, length-keys}
use Rattle.names.specs.Layout.{variants_at}
use Rattle.names.specs.Many.{many}
use Rattle.names.specs.ManyLaws.{length-many, get_d-many}
use Rattle.state.specs.Max.{sum_of}
use Rattle.state.proofs.ValueLaws.{by-low}
use Rattle.mdp.specs.Model.{Action, most_variants}
use Rattle.model.specs.declared.Head.{Head}
use Rattle.model.specs.Layout.{variant_place, variant_at, variants_of, action_at}
use Rattle.session.specs.Session.{Names}
use Rattle.session.specs.Good.{variant_count}
use Rattle.session.specs.Replaying.{variant_names_from, variant_names}
use Rattle.model_entry.specs.Inner.{FewVariants}
use Rattle.model_entry.specs.Building.{variants_before, Spanned}

-- ===== How many =====

pub variants-are : (listings table : List ℕ) (a : ℕ) → length (action_at listings table a).variants ≡ variants_of table a
unfolding action_at
variants-are listings table a = length-many (λ v. variant_at listings table (variant_place a v)) (variants_of table a)

count-last : (l : List Action) (a : Action) → variant_count (l ++ (a ∷ [])) ≡ variant_count l + length a.variants
unfolding variant_count sum_of
count-last [] a = omega arith
count-last (x ∷ l) a = omega (arith, count-last l a)

pub variants-before : (listings table : List ℕ) (n : ℕ) → variants_before table n ≡ variant_count (many (action_at listings table) n)
unfolding variant_count sum_of many
variants-before listings table zero = refl
variants-before listings table (suc n) =
    omega (arith, variants-before listings table n, variants-are listings table n, count-last (many (action_at listings table) n) (action_at listings table n))

pub spanned-few : {table : List ℕ} {h : Head} → Spanned table h → {n : ℕ} → n ≤ h.actions → FewVariants table n
spanned-few s l = record { room = s.room; few = omega (arith, s.few); each = λ i k. (s.actions i (omega arith)).few }

module _ {table : List ℕ} {n : ℕ} (f : FewVariants table n) where
  pub before-few : (a : ℕ) → a ≤ n → variants_before table a ≤ a * most_variants
  before-few zero h = omega arith
  before-few (suc a) h = omega (arith, before-few a (omega arith), f.each a h)

-- those of one action are among those of the first n
pub before-within : (table : List ℕ) (n a : ℕ) → a < n → variants_before table a + variants_of table a ≤ variants_before table n
before-within table zero a h = absurd (omega arith)
before-within table (suc n) a h = by-low (variants_before table a + variants_of table a ≤ variants_before table n + variants_of table n) n a
    (λ k. omega (arith, before-within table n a k))
    (λ k. let e : n ≡ a = omega arith in subst (λ (x : ℕ). variants_before table x + variants_of table x ≤ variants_before table n + variants_of table n) e (omega arith))

-- ===== Keys =====

key-on : (s : List ℕ) (base k i : ℕ) → key_at s base (k + i) ≡ key_at s (base + k * 2) i
unfolding key_at
key-on s base k i =
    let p : base + (k + i) * 2 ≡ base + k * 2 + i * 2 = omega arith in
    key-ext (key_at s base (k + i)) (key_at s (base + k * 2) i) (ap (λ (j : ℕ). get_or s j 0) p) (ap (λ (j : ℕ). get_or s (j + 1) 0) p)

-- n keys of a table, from the key k on
keys-part : (s : List ℕ) (base m k n : ℕ) → k + n ≤ m → take n (drop k (keys_at s base m)) ≡ keys_at s (base + k * 2) n
unfolding keys_at
keys-part s base m k n h =
    let d : Key = key_at s base 0 in
    let l : List Key = keys_at s base m in
    let e : length (take n (drop k l)) ≡ n = length-take-le n (drop k l) (omega (arith, length-drop k l, length-keys s base m)) in
    ext_get_or d (take n (drop k l)) (keys_at s (base + k * 2) n) (e ∙ sym (length-keys s (base + k * 2) n))
    (λ i q.
    let o : i < n = omega (arith, e, q) in
    get_or-take n (drop k l) i d o
    ∙ get_or-drop k l i d
    ∙ get_d-many (key_at s base) d m (k + i) (omega arith)
    ∙ key-on s base k i
    ∙ sym (get_d-many (key_at s (base + k * 2)) d n i o))

-- v keys behind e of them
keys-join : (s : List ℕ) (base e v : ℕ) → keys_at s base e ++ keys_at s (base + e * 2) v ≡ keys_at s base (e + v)
unfolding keys_at many
keys-join s base e zero = let p : e ≡ e + 0 = omega arith in append-nil (keys_at s base e) ∙ ap (keys_at s base) p
keys-join s base e (suc v) =
    let p : suc (e + v) ≡ e + suc v = omega arith in
    sym (append_assoc (keys_at s base e) (keys_at s (base + e * 2) v) (key_at s (base + e * 2) v ∷ []))
    ∙ ap₂ (λ (l : List Key) (k : Key). l ++ (k ∷ [])) (keys-join s base e v) (sym (key-on s base e v))
    ∙ ap (keys_at s base) p

-- ===== Names =====

names-within : (l m : List Action) (ks : List Key) (a : ℕ) → a < length l → variant_names_from ks (l ++ m) a ≡ variant_names_from ks l a
names-within [] m ks a h = absurd (omega arith)
names-within (x ∷ l) m ks zero h = refl
names-within (x ∷ l) m ks (suc a) h = names-within l m (drop (length x.variants) ks) a (omega arith)

names-last : (l : List Action) (x : Action) (ks : List Key) → variant_names_from ks (l ++ (x ∷ [])) (length l) ≡ take (length x.variants) (drop (variant_count l) ks)
unfolding variant_count sum_of
names-last [] x ks = refl
names-last (y ∷ l) x ks =
    names-last l x (drop (length y.variants) ks) ∙ ap (take (length x.variants)) (drop-drop (variant_count l) (length y.variants) ks)

names-from : (listings table : List ℕ) (ks : List Key) (n a : ℕ) → a < n
    → variant_names_from ks (many (action_at listings table) n) a ≡ take (variants_of table a) (drop (variants_before table a) ks)
unfolding many
names-from listings table ks zero a h = absurd (omega arith)
names-from listings table ks (suc n) a h =
    let f : ℕ → Action = action_at listings table in
    by-low (variant_names_from ks (many f n ++ (f n ∷ [])) a ≡ take (variants_of table a) (drop (variants_before table a) ks)) n a
    (λ k. names-within (many f n) (f n ∷ []) ks a (omega (arith, length-many f n)) ∙ names-from listings table ks n a k)
    (λ k.
    let e : a ≡ n = omega arith in
    ap (variant_names_from ks (many f n ++ (f n ∷ []))) (e ∙ sym (length-many f n))
    ∙ names-last (many f n) (f n) ks
    ∙ ap₂ (λ (x y : ℕ). take x (drop y ks)) (variants-are listings table n ∙ ap (variants_of table) (sym e))
    (sym (variants-before listings table n) ∙ ap (variants_before table) (sym e)))

-- the names of an action's variants, where those of all actions stand in a table; for the names of a session in words the first two equations are refl
pub variant-names : (s listings table : List ℕ) (m : Names) (e v n a : ℕ) → m.earlier ≡ keys_at s variants_at e → m.variants ≡ keys_at s (variants_at + e * 2) v
    → e + v ≡ variants_before table n → a < n
    → variant_names m (many (action_at listings table) n) a ≡ keys_at s (variants_at + variants_before table a * 2) (variants_of table a)
unfolding variant_names
variant-names s listings table m e v n a p q r h =
    ap (λ (ks : List Key). variant_names_from ks (many (action_at listings table) n) a) (ap₂ ◌++◌ p q ∙ keys-join s variants_at e v)
    ∙ names-from listings table (keys_at s variants_at (e + v)) n a h
    ∙ keys-part s variants_at (e + v) (variants_before table a) (variants_of table a) (omega (arith, r, before-within table n a h))
