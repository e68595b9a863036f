-- What the lines' functions require, from what the function of any line may rely on.
use Rattle.std.proofs.Math.Path.{◌≡◌, sym, ap₂, subst}
use Rattle.std.specs.Prelude.{refl, Bool, true, false, not, List, [], ◌∷◌, ◌++◌, length, eqb, leb}
use Rattle.std.proofs.Common.{ap, ◌∙◌, true≢false, arith, leb-true, eqb-true}
use Prim.Native.Nat.{ℕ, zero, suc, ◌+◌, ◌*◌, ◌-◌, ◌≤◌, ◌<◌}
use Rattle.refusal.specs.Outcome.{ok}
use Rattle.mdp.specs.Model.{Action, most_variants}
use Rattle.text.specs.declared.Kind.{Kind}
use Rattle.text.specs.declared.Kind.TheVariants.{Reward, Variant, Becomes}
use Rattle.names.specs.Layout.{actions_at, variants_at}
use Rattle.names.specs.KeyLaws.{length-keys}
use Rattle.session.specs.declared.Part.{Part}
use Rattle.session.specs.declared.Part.TheVariants.{Model, Run}
use Rattle.session.specs.Session.{Session}
use Rattle.session.specs.Place.{rule_of}
use Rattle.session.specs.Replies.{allowed, unless}
use Rattle.session.specs.Good.{LastAction, most_variant_names}
use Rattle.declare.specs.Tables.{names_of}
use Rattle.names.specs.Many.{many}
use Rattle.names.specs.ManyLaws.{length-many}
use Rattle.model.specs.declared.Head.{Head}
use Rattle.model.specs.Layout.{variants_of, action_at, model_of}
use Rattle.model_entry.specs.Building.{Spanned, variants_before}
use Rattle.model_entry.specs.NameLaws.{variants-are, variants-before, spanned-few, before-few}
use Rattle.memory.specs.declared.Numbers.{Numbers}
use Rattle.memory.specs.Inner.{Ready}
use Rattle.memory.specs.Memory.{Memory, memory_of, session_of, work_words}
use Rattle.diagram_lines.specs.Lines.{Lent, Listings, LastOf, RewardReady, VariantReady, BecomesReady}

-- ===== Its place =====

passes : (b : Bool) → unless b ≡ ok tt → b ≡ false
passes true e = let z : ◌≡◌ {A = ℕ} 0 1 = cc in absurd (omega arith)
passes false e = refl

some_of : (n : ℕ) → unless (not (leb 1 n)) ≡ ok tt → 0 < n
some_of n e = go (leb 1 n) refl (passes (not (leb 1 n)) e)
  where
    go : (b : Bool) → leb 1 n ≡ b → not b ≡ false → 0 < n
    go true p q = leb-true 1 n p
    go false p q = let z : ◌≡◌ {A = Bool} true false = q in absurd (let y : ◌≡◌ {A = ℕ} 0 1 = cc in omega arith)

module _ (σ : Session) where
  after-action : (p : Part) → allowed σ (rule_of Variant p) ≡ ok tt → 0 < length σ.names.actions
  unfolding allowed
  after-action Model e = some_of (length σ.names.actions) e
  after-action Run e = let z : ◌≡◌ {A = ℕ} 0 1 = cc in absurd (omega arith)

  before-reward : (p : Part) → allowed σ (rule_of Reward p) ≡ ok tt → σ.singles.reward ≡ false
  unfolding allowed
  before-reward Model e = passes σ.singles.reward e
  before-reward Run e = let z : ◌≡◌ {A = ℕ} 0 1 = cc in absurd (omega arith)

  after-variant : (p : Part) → allowed σ (rule_of Becomes p) ≡ ok tt → 0 < length σ.names.variants
  unfolding allowed
  after-variant Model e = some_of (length σ.names.variants) e
  after-variant Run e = let z : ◌≡◌ {A = ℕ} 0 1 = cc in absurd (omega arith)

-- a reward is the first
pub no-reward : {s : List ℕ} {n : Numbers} {w : Memory} → Ready Reward s n w → n.head.reward_words ≡ 0
unfolding session_of
no-reward {s} {n} {w} q = go (eqb n.head.reward_words 0) refl
  where
    go : (b : Bool) → eqb n.head.reward_words 0 ≡ b → n.head.reward_words ≡ 0
    go true e = eqb-true n.head.reward_words 0 e
    go false e = absurd (true≢false (sym (q.stored.reward ∙ ap not e) ∙ before-reward (session_of n w) n.part q.place))

-- ===== The last action =====

last_snoc : (l : List Action) (a : Action) (c v : ℕ) → LastAction (l ++ (a ∷ [])) c v → length a.variants ≡ v
last_snoc [] a c v h = h.1
last_snoc (x ∷ []) a c v h = h.1
last_snoc (x ∷ y ∷ l) a c v h = last_snoc (y ∷ l) a c v h

last-many : (listings table : List ℕ) (n c v : ℕ) → 0 < n → LastAction (many (action_at listings table) n) c v → variants_of table (n - 1) ≡ v
unfolding many
last-many listings table zero c v h e = absurd (omega arith)
last-many listings table (suc n) c v h e =
    let k : suc n - 1 ≡ n = omega arith in
    ap (variants_of table) k ∙ sym (variants-are listings table n) ∙ last_snoc (many (action_at listings table) n) (action_at listings table n) c v e

-- a variant is one of an action
last_some : (listings table : List ℕ) (n c v : ℕ) → 0 < v → LastAction (many (action_at listings table) n) c v → 0 < n
unfolding many
last_some listings table zero c v h e = absurd (omega (arith, e))
last_some listings table (suc n) c v h e = omega arith

-- where the last action has room for one variant more, so have the names of all variants
names-room : {table : List ℕ} {h : Head} {c v : ℕ} → Spanned table h → 0 < h.actions → variants_of table (h.actions - 1) ≡ v → c ≡ variants_before table h.actions
    → v < most_variants → c < most_variant_names
names-room {table} {h} {c} {v} s some last all few =
    let k : h.actions ≡ suc (h.actions - 1) = omega arith in
    let e : c ≡ variants_before table (suc (h.actions - 1)) = all ∙ ap (variants_before table) k in
    omega (arith, e, last, s.few, before-few {n = h.actions} (spanned-few s (omega arith)) (h.actions - 1) (omega arith))

-- ===== What is required =====

module _ {k : Kind} {s : List ℕ} {n : Numbers} {names ar listings table state value : List ℕ} (q : Ready k s n (memory_of names ar listings table state value)) where
  lent_of : {work : List ℕ} → work_words ≤ length work → Lent k s n names ar work
  lent_of l = record {
    line = q.line;
    vocabulary = q.stored.vocabulary;
    used = q.stored.building.spanned.used;
    work-room = omega arith;
  }

  listed_of : Listings n listings
  listed_of = record { room = q.stored.listing-room; whole = q.stored.whole }

  -- the names count as many actions as the table has, and as many variants as its last action has
  actions-are : n.counts.actions ≡ n.head.actions
  unfolding session_of names_of model_of
  actions-are = sym (length-keys names actions_at n.counts.actions) ∙ q.good.agreeing.count ∙ length-many (action_at listings table) n.head.actions

  last-is : LastAction (many (action_at listings table) n.head.actions) (length (names_of names n.counts).parameters) n.counts.variants
  unfolding session_of names_of model_of
  last-is =
      subst (LastAction (many (action_at listings table) n.head.actions) (length (names_of names n.counts).parameters))
      (length-keys names (variants_at + n.counts.earlier * 2) n.counts.variants) q.good.agreeing.last

  -- the names count as many variants as the table has
  all_are : n.counts.earlier + n.counts.variants ≡ variants_before table n.head.actions
  unfolding session_of names_of model_of
  all_are =
      ap₂ ◌+◌ (sym (length-keys names variants_at n.counts.earlier)) (sym (length-keys names (variants_at + n.counts.earlier * 2) n.counts.variants))
      ∙ q.good.agreeing.all
      ∙ sym (variants-before listings table n.head.actions)

  last_of : 0 < n.head.actions → LastOf table n
  last_of h = record {
    spanned = q.stored.building.spanned;
    some = h;
    variants = last-many listings table n.head.actions (length (names_of names n.counts).parameters) n.counts.variants h last-is;
  }

module _ {s : List ℕ} {n : Numbers} {names ar listings table state value : List ℕ} where
  pub reward-ready : {work : List ℕ} → Ready Reward s n (memory_of names ar listings table state value) → work_words ≤ length work → RewardReady s n names ar listings work
  reward-ready q l = record { lent = lent_of q l; listed = listed_of q }

  pub variant-ready : {work : List ℕ} → Ready Variant s n (memory_of names ar listings table state value) → work_words ≤ length work → VariantReady s n names ar listings table work
  unfolding session_of names_of
  variant-ready q l =
      let h = after-action (session_of n (memory_of names ar listings table state value)) n.part q.place in
      let last = last_of q (omega (arith, h, length-keys names actions_at n.counts.actions, actions-are q)) in
      record {
        lent = lent_of q l;
        listed = listed_of q;
        last = last;
        room = names-room last.spanned last.some last.variants (all_are q);
      }

  pub becomes-ready : {work : List ℕ} → Ready Becomes s n (memory_of names ar listings table state value) → work_words ≤ length work → BecomesReady s n names ar listings table work
  unfolding session_of names_of
  becomes-ready q l =
      let h = after-variant (session_of n (memory_of names ar listings table state value)) n.part q.place in
      let v : 0 < n.counts.variants = omega (arith, h, length-keys names (variants_at + n.counts.earlier * 2) n.counts.variants) in
      let a = last_some listings table n.head.actions (length (names_of names n.counts).parameters) n.counts.variants v (last-is q) in
      record { lent = lent_of q l; listed = listed_of q; opened = record { last = last_of q a; has = v } }
