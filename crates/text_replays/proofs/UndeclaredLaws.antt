-- From line to line: no fact of a predicate that is not declared is in hand, and no variant has a truth diagram for one. (true p o ..) and (becomes (p ?a ..) DIAGRAM) take
-- declared ones alone, (did ..) moves by the truth diagrams (document 01, section 'Text'; document 02, L10).
use Rattle.std.specs.Prelude.{◌≡◌, refl, Bool, not, ℕ, zero, suc, pred, ◌+◌, ◌*◌, ◌≤◌, ◌<◌, length, get_or, ltb, leb, eqb}
use Rattle.std.proofs.Common.{sym, ap, ◌∙◌, arith, length-append, get_or-append-add}
use Rattle.std.proofs.Math.Path.{subst}
use Rattle.std.proofs.Math.Bool.{true, false, cond}
use mathlib.Core.List.{List, [], ◌∷◌, ◌++◌, append-nil, append_assoc, Memᴰ}
use Rattle.std.proofs.Math.Option.{Option, some, none, map}
use Rattle.std.proofs.Math.ListN.{get_or-append}
use borrow.Author.Tests.{ltb-true, eqb-true, not-false}
use Rattle.basics.specs.Tests.{and_left, Cmp, below, equal, above, cmp, Flag, is_true, is_false, flag}
use Rattle.basics.specs.Members.{clash}
use Rattle.refusal.specs.declared.Refusal.TheVariants.{Name, Arity, Range, Truth, Space}
use Rattle.refusal.specs.Outcome.{ok, Accepted}
use Rattle.refusal.specs.OutcomeLaws.{accepted-ok, accepted-then, accepted-next, accepted-cond}
use Rattle.label.specs.Limits.{predicate_count}
use Rattle.diagram.specs.Diagram.{Diagram}
use Rattle.diagram.specs.Words.{up_to}
use Rattle.state.specs.State.{State, meaning}
use Rattle.state.specs.Next.{fact_after, next}
use Rattle.state.specs.Lent.{fact_words, fact_count, predicate_at, says_fact, said_by, state_of, all_below}
use Rattle.state.proofs.LentLaws.{some-found}
use Rattle.paths.specs.PathLaws.{mem-unmap}
use Rattle.state.specs.Max.{tuples}
use Rattle.state.specs.Max.{those}
use Rattle.reduction.proofs.ListLaws.{in-gather, in-those}
use Rattle.regression.specs.Regression.{Truths}
use Rattle.regression.specs.RegressCall.{leaf_above}
use Rattle.mdp.specs.Model.{Variant, Action, Model, Every}
use Rattle.mdp.specs.Runs.{begin}
use Rattle.mdp.specs.Bellman.{state_after}
use Rattle.replay.proofs.FactLaws.{row-length}
use Rattle.replay.specs.Replay.{rows_at, fact_rows, flat, facts_of, Did, no_variant, no_action, action_of, variant_of, in_hand as hand_of, state_next, moved_by, counted}
use Rattle.state.specs.Lent.{most_facts}
use Rattle.state.specs.Lent.{fact_row}
use Rattle.words.specs.declared.Key.{Key}
use Rattle.names.specs.Keys.{place_of, is_among}
use Rattle.text.specs.declared.Kind.{Kind}
use Rattle.text.specs.declared.Kind.TheVariants as K
use Rattle.text.specs.Line.{Words}
use Rattle.text.specs.LineForm.{line_kind}
use Rattle.events.specs.declared.Event.{Event}
use Rattle.reading.specs.declared.Binding.TheVariants.{Only}
use Rattle.reading.specs.Reading.{arguments, reading}
use Rattle.reading.specs.Head.{head_number, head_arguments}
use Rattle.build.specs.Machine.{built}
use Rattle.session.specs.declared.Part.TheVariants.{Run}
use Rattle.session.specs.Session.{Names, Live, Session, opening, with_held, refuse_if}
use Rattle.session.specs.Declaring.{constant_line, Vocabulary, predicate_line, with_vocabulary, with_total, with_discount, action_line, with_action}
use Rattle.session.specs.Facts.{cleared, objects_line, placed, is_line, is_fact, begun_again, fact_line, with_fact, predicate_of, true_line}
use Rattle.session.specs.ModelLines.{most_model_rows, names_for, rows_with, with_reward, reward_read, reward_line, add_variant, no_truths, with_variant, weight_read, variant_line}
use Rattle.session.specs.ModelLines.{with_truth_at, last_truths, last_variant, truths_now, is_some, with_truth, truth_read, becomes_line, weighed}
use Rattle.session.specs.Running.{state_in, start_line}
use Rattle.session.specs.Replaying.{did_of, replay_in, replayed, did_line}
use Rattle.session.specs.Replies.{Reply, words_of, reply}
use Rattle.session.specs.Texts.{has_bytes, Progress, replied, after_line, after_lines, beginning}
use Rattle.model_laws.proofs.ActionLaws.{every_more, every-mono}
use Rattle.model_laws.proofs.RowLaws.{number-few}
use Rattle.session_laws.proofs.StateLaws.{objects-kept, is-kept}
use Rattle.session_laws.proofs.FactLaws.{WholeRows}
use Rattle.session_laws.proofs.ReplayLaws.{did_read}
use Rattle.session_laws.proofs.RunLaws.{made_by}
use Rattle.session_laws.proofs.CaseLaws.{Cases, vocabulary_of, done-by, reply-by}
use Rattle.session_laws.proofs.MadeLaws.{constant_by, predicate-by, action-by}
use Rattle.session_laws.proofs.TextLaws.{Sound, reply-sound, text-sound}
use Rattle.text_moves.specs.Claims.{in_hand}
use Rattle.text_replays.specs.Inner.{NoneUndeclared}
use Rattle.text_replays.specs.Claims.{reached, did_in, next_of}

-- the rows of facts are of predicates up to n
abbrev RowsTo : ℕ → List ℕ → Type 0
RowsTo n facts = (i : ℕ) → i < fact_count facts → predicate_at facts i ≤ n

-- the variant has no truth diagram for a predicate above n
abbrev TruthsTo : ℕ → Variant → Type 0
TruthsTo n v = (p : ℕ) → n < p → v.truths p ≡ none

abbrev ActionsTo : ℕ → List Action → Type 0
ActionsTo n l = Every (λ (a : Action). Every (TruthsTo n) a.variants) l

record Known (n : ℕ) (l : List Action) (facts : List ℕ) : Type 0 where
  truths : ActionsTo n l
  rows : RowsTo n facts

-- n predicates are declared
abbrev KnownIn : Session → Type 0
KnownIn σ = Known (length σ.names.predicates) σ.model.actions σ.live.facts

-- ===== Rows =====

-- one row more
row-to : (n : ℕ) (facts : List ℕ) → WholeRows facts → (p : ℕ) (os : List ℕ) → p ≤ n → RowsTo n facts → RowsTo n (facts ++ fact_row p os)
unfolding predicate_at
row-to n facts whole p os few h i l = go (cmp i (fact_count facts))
  where
    count : i < suc (fact_count facts)
    count = omega (arith, length-append facts (fact_row p os), row-length p os, whole)

    go : Cmp i (fact_count facts) → get_or (facts ++ fact_row p os) (i * fact_words) 0 ≤ n
    go (below k) = rw (get_or-append facts (fact_row p os) 0 (i * fact_words) (omega (arith, whole))) (h i k)
    go (equal k) =
        let e : i * fact_words ≡ length facts + 0 = omega (arith, whole, ap (λ (j : ℕ). j * fact_words) k) in
        rw (e, get_or-append-add facts (fact_row p os) 0 0) few
    go (above k) = absurd (omega (arith, count))

-- rows of facts of predicates up to n
record Listed (n : ℕ) (rows : List (List ℕ)) : Type 0 where
  each : (row : List ℕ) → Memᴰ row rows → (p : ℕ) × (os : List ℕ) × (row ≡ fact_row p os) × (p ≤ n)

abbrev Whole : ℕ → List ℕ → Type 0
Whole n facts = WholeRows facts × RowsTo n facts

row-whole : (facts : List ℕ) → WholeRows facts → (p : ℕ) (os : List ℕ) → WholeRows (facts ++ fact_row p os)
row-whole facts whole p os = omega (arith, length-append facts (fact_row p os), row-length p os, whole)

rows-to : (n : ℕ) (rows : List (List ℕ)) → Listed n rows → (facts : List ℕ) → Whole n facts → Whole n (facts ++ flat rows)
rows-to n [] w facts h = subst (Whole n) (sym (append-nil facts)) h
rows-to n (row ∷ rows) w facts h =
    let q = w.each row (Memᴰ.head refl) in
    let p = q.0 in
    let os = q.1 in
    let one = subst (λ (x : List ℕ). Whole n (facts ++ x)) (sym q.2) (row-whole facts h.0 p os, row-to n facts h.0 p os q.3 h.1) in
    subst (Whole n) (append_assoc facts row (flat rows)) (rows-to n rows (record { each = λ x m. w.each x (Memᴰ.tail m) }) (facts ++ row) one)

abbrev NoneAbove : ℕ → State → Type 0
NoneAbove n s = (p : ℕ) (os : List ℕ) → n < p → s.fact p os ≡ false

-- the rows of a state without a fact of a predicate above n
facts-to : (n : ℕ) (ar : List ℕ) (s : State) → NoneAbove n s → RowsTo n (facts_of ar s)
unfolding facts_of fact_rows rows_at
facts-to n ar s h = (rows-to n (fact_rows ar s) (record { each = each }) [] (refl, λ i l. absurd (omega arith))).1
  where
    each : (row : List ℕ) → Memᴰ row (fact_rows ar s) → (p : ℕ) × (os : List ℕ) × (row ≡ fact_row p os) × (p ≤ n)
    each row m =
        let q = in-gather (λ p. rows_at ar s (suc p)) (up_to (pred predicate_count)) row m in
        let u = mem-unmap (fact_row (suc q.0)) (those (s.fact (suc q.0)) (tuples s.size (get_or ar (suc q.0) 0))) row q.2 in
        let i = in-those (s.fact (suc q.0)) (tuples s.size (get_or ar (suc q.0) 0)) u.0 u.1 in
        (suc q.0, u.0, u.2, few (suc q.0) u.0 i.1 (cmp (suc q.0) n))
      where
        few : (p : ℕ) (os : List ℕ) → s.fact p os ≡ true → Cmp p n → p ≤ n
        few p os t (below k) = omega arith
        few p os t (equal k) = omega arith
        few p os t (above k) = clash t (h p os k)

-- and back: no row says a fact of another predicate
said-none : (n : ℕ) (ar facts : List ℕ) → RowsTo n facts → (p : ℕ) (os : List ℕ) → n < p → said_by ar facts p os ≡ false
unfolding said_by says_fact
said-none n ar facts h p os l = go (flag (said_by ar facts p os))
  where
    go : Flag (said_by ar facts p os) → said_by ar facts p os ≡ false
    go (is_false e) = e
    go (is_true e) =
        let q = some-found (fact_count facts) (says_fact ar facts p os) e in
        let z = eqb-true (predicate_at facts q.0) p (and_left (eqb (predicate_at facts q.0) p) _ q.2) in
        let k = h q.0 q.1 in
        absurd (omega arith)

-- ===== The next state =====

every-at : {A : Type 0} (P : A → Type 0) (l : List A) (d : A) → P d → Every P l → (i : ℕ) → P (get_or l i d)
every-at P [] d h e i = h
every-at P (a ∷ l) d h e zero = e.0
every-at P (a ∷ l) d h e (suc i) = every-at P l d h e.1 i

variant-to : (n : ℕ) (m : Model) → ActionsTo n m.actions → (d : Did) → TruthsTo n (variant_of m d)
variant-to n m h d =
    every-at (TruthsTo n) (action_of m d).variants no_variant (λ p l. refl)
    (every-at (λ (a : Action). Every (TruthsTo n) a.variants) m.actions no_action tt h d.action) d.variant

next-none : (n : ℕ) (m : Model) → ActionsTo n m.actions → (s : State) → NoneAbove n s → (d : Did) → NoneAbove n (state_next m s d)
unfolding state_next state_after next
next-none n m h s k d p os l =
    ap (λ (x : Option Diagram). fact_after s d.objects (map (meaning m.arities) x) p os) (variant-to n m h d p l) ∙ k p os l

-- ===== Lines that declare =====

-- one predicate more
known_more : (n m : ℕ) → n ≤ m → (l : List Action) (facts : List ℕ) → Known n l facts → Known m l facts
known_more n m h l facts k = record {
  truths =
      every-mono (λ (a : Action). Every (TruthsTo n) a.variants) (λ (a : Action). Every (TruthsTo m) a.variants)
      (λ a. every-mono (TruthsTo n) (TruthsTo m) (λ v t p g. t p (omega arith)) a.variants) l k.truths;
  rows = λ i g. let z = k.rows i g in omega arith;
}

module _ (l : List Action) (facts : List ℕ) where
  abbrev KnownBy : Names → Type 0
  KnownBy n = Known (length n.predicates) l facts

  constant-known : (n : Names) → KnownBy n → (k : Key) (m : Names) → constant_line n k ≡ ok m → KnownBy m
  constant-known n h k m e = constant_by KnownBy n k h m e

  predicate-known : (v : Vocabulary) → KnownBy v.names → (k : Key) (a : ℕ) (w : Vocabulary) → predicate_line v k a ≡ ok w → KnownBy w.names
  predicate-known v h k a w e =
      let ps = v.names.predicates in
      predicate-by KnownBy v k a (known_more (length ps) (length (ps ++ (k ∷ []))) (omega (arith, length-append ps (k ∷ []))) l facts h) w e

  action-known : (n : Names) → KnownBy n → (k : Key) (ps : List Key) (m : Names) → action_line n k ps ≡ ok m
      → Known (length m.predicates) (l ++ (record { count = length m.parameters; variants = [] } ∷ [])) facts
  action-known n h k ps m e =
      action-by (λ z. Known (length z.predicates) (l ++ (record { count = length z.parameters; variants = [] } ∷ [])) facts) n k ps
      (record {
        truths = every_more (λ (x : Action). Every (TruthsTo (length n.predicates)) x.variants) l (record { count = length ps; variants = [] }) h.truths tt;
        rows = h.rows;
      }) m e

-- one variant more, without a truth diagram
added : (n : ℕ) (l : List Action) → ActionsTo n l → (d : Diagram) → ActionsTo n (add_variant l (record { weight = d; truths = no_truths }))
added n [] h d = tt
added n (a ∷ []) h d = (every_more (TruthsTo n) a.variants (record { weight = d; truths = no_truths }) h.0 (λ p g. refl), tt)
added n (a ∷ b ∷ l) h d = (h.0, added n (b ∷ l) h.1 d)

-- one truth diagram more, of a predicate up to n
module _ (n p : ℕ) (few : p ≤ n) (d : Diagram) where
  put : (t : Truths) → ((q : ℕ) → n < q → t q ≡ none) → (q : ℕ) → n < q → with_truth_at t p d q ≡ none
  unfolding with_truth_at
  put t h q g = go (flag (eqb q p))
    where
      go : Flag (eqb q p) → cond (eqb q p) (some d) (t q) ≡ none
      go (is_true e) = absurd (omega (arith, eqb-true q p e))
      go (is_false e) = rw e (h q g)

  put_last : (l : List Variant) → Every (TruthsTo n) l → Every (TruthsTo n) (last_truths l (λ t. with_truth_at t p d))
  put_last [] h = tt
  put_last (v ∷ []) h = (put v.truths h.0, tt)
  put_last (v ∷ u ∷ l) h = (h.0, put_last (u ∷ l) h.1)

  put-action : (l : List Action) → ActionsTo n l → ActionsTo n (last_variant l (λ t. with_truth_at t p d))
  put-action [] h = tt
  put-action (a ∷ []) h = (put_last a.variants h.0, tt)
  put-action (a ∷ b ∷ l) h = (h.0, put-action (b ∷ l) h.1)

-- (becomes (p ?a ..) DIAGRAM) is of a declared predicate
truth-below : (n : Names) (ar : List ℕ) (truths : Truths) (r : ℕ) (es : List Event) → Accepted (λ (t : ℕ × Diagram). t.0 ≤ length n.predicates) (truth_read n ar truths r es)
unfolding truth_read
truth-below n ar truths r es =
    accepted-next (head_number n.predicates es) _ (λ p h.
    accepted-cond (is_some (truths p)) Name _ (λ a.
    accepted-next (head_arguments (get_or ar p 0) es) _ (λ x b.
    accepted-next (reading (names_for n ar Only n.parameters) x.rest (arguments x.variables)) _ (λ y c.
    accepted-next (built y.operations) _ (λ d e.
    accepted-cond (leaf_above 1 d) Truth _ (λ f.
    accepted-cond (ltb most_model_rows (rows_with r d)) Space _ (λ g.
    accepted-ok (number-few n.predicates es p h))))))))

-- ===== Every line =====

module _ (σ : Session) (whole : WholeRows σ.live.facts) (w : KnownIn σ) where
  abbrev n : ℕ
  n = length σ.names.predicates

  abbrev Keeps : Kind → Reply → Type 0
  Keeps k y = KnownIn y.session

  abbrev LiveTo : Live → Type 0
  LiveTo l = Known (length σ.names.predicates) σ.model.actions l.facts

  reward-known : (es : List Event) (τ : Session) → reward_line σ es ≡ ok τ → KnownIn τ
  unfolding reward_line with_reward
  reward-known es τ e = made_by KnownIn (reward_read σ.names σ.model.arities σ.rows es) (with_reward σ) (λ d. w) τ e

  variant-known : (k : Key) (es : List Event) (τ : Session) → variant_line σ k es ≡ ok τ → KnownIn τ
  unfolding variant_line with_variant
  variant-known k es τ e =
      made_by KnownIn (weight_read σ.names σ.model.arities σ.rows k es) (with_variant σ k)
      (λ d. record { truths = added n σ.model.actions w.truths d; rows = w.rows }) τ e

  becomes-known : (es : List Event) (τ : Session) → becomes_line σ es ≡ ok τ → KnownIn τ
  unfolding becomes_line with_truth
  becomes-known es τ e =
      (accepted-then {Q = KnownIn} (truth_read σ.names σ.model.arities (truths_now σ.model.actions) σ.rows es)
      (truth-below σ.names σ.model.arities (truths_now σ.model.actions) σ.rows es) (λ t h.
      accepted-ok (record { truths = put-action n t.0 h t.1 σ.model.actions w.truths; rows = w.rows }))).given τ e

  start-known : (τ : Session) → start_line σ ≡ ok τ → KnownIn τ
  unfolding start_line
  start-known τ e = made_by KnownIn (weighed σ.model.arities σ.model.total σ.model.actions) (λ u. with_held σ Run (begin σ.model)) (λ u. w) τ e

  objects-known : (i : ℕ) (l : Live) → objects_line i ≡ ok l → LiveTo l
  unfolding cleared
  objects-known i l e = (objects-kept LiveTo i (λ h. record { truths = w.truths; rows = λ j g. absurd (omega arith) })).given l e

  is_known : (k : Key) (o : ℕ) (l : Live) → is_line σ.names σ.live k o ≡ ok l → LiveTo l
  unfolding placed
  is_known k o l e = (is-kept LiveTo σ.names σ.live k o (λ h. w)).given l e

  fact-known : (p : ℕ) (os : List ℕ) → p ≤ n → Accepted LiveTo (fact_line σ.live (fact_row p os))
  unfolding fact_line with_fact begun_again
  fact-known p os few = go (is_fact σ.live.facts (fact_row p os))
    where
      go : (b : Bool)
          → Accepted LiveTo (cond b (ok (begun_again σ.live)) (refuse_if (leb most_facts (fact_count σ.live.facts)) Space (ok (with_fact σ.live (fact_row p os)))))
      go true = accepted-ok w
      go false = accepted-cond (leb most_facts (fact_count σ.live.facts)) Space (ok (with_fact σ.live (fact_row p os))) (λ a.
          accepted-ok (record { truths = w.truths; rows = row-to n σ.live.facts whole p os few w.rows }))

  true-known : (k : Key) (os : List ℕ) (l : Live) → true_line σ.model.arities σ.names σ.live k os ≡ ok l → LiveTo l
  unfolding true_line is_among
  true-known k os l e =
      let ps = σ.names.predicates in
      (accepted-cond {P = LiveTo} (not (is_among k σ.names.predicates)) Name _ (λ a.
      accepted-cond (not (eqb (length os) (get_or σ.model.arities (predicate_of σ.names k) 0))) Arity _ (λ b.
      accepted-cond (not (all_below σ.live.objects os)) Range _ (λ c.
      fact-known (predicate_of σ.names k) os (omega (arith, ltb-true (place_of k ps) (length ps) (not-false (is_among k ps) a))))))).given l e

  hand-none : NoneAbove n (hand_of σ.model.arities (replay_in σ.live))
  unfolding hand_of state_of replay_in
  hand-none p os l = said-none n σ.model.arities σ.live.facts w.rows p os l

  did-known : (a v : Key) (os : List ℕ) (l : Live) → did_line σ.model σ.names σ.live a v os ≡ ok l → LiveTo l
  unfolding replayed counted moved_by
  did-known a v os l e =
      let d = did_of σ.model σ.names a v os in
      let s = hand_of σ.model.arities (replay_in σ.live) in
      subst LiveTo (sym ((did_read σ.model σ.names σ.live a v os).given l e).is) (record {
        truths = w.truths;
        rows = facts-to n σ.model.arities (state_next σ.model s d) (next-none n σ.model w.truths s hand-none d);
      })

  cases : (number : ℕ) (es : List Event) → Cases σ number es Keeps
  unfolding with_vocabulary with_total with_discount with_action
  cases number es = record {
    refusing = λ k r. w;
    for_constant = constant-known σ.model.actions σ.live.facts σ.names w _;
    for_predicate = predicate-known σ.model.actions σ.live.facts (vocabulary_of σ) w _ _;
    for_total = λ x e. w;
    for_discount = λ q e. w;
    for_reward = reward-known es;
    for_action = action-known σ.model.actions σ.live.facts σ.names w _ _;
    for_variant = variant-known _ _;
    for_becomes = becomes-known es;
    for_start = start-known;
    for_objects = objects-known _;
    for_is = is_known _ _;
    for_true = true-known _ _;
    for_value = λ v e. w;
    for_backup = λ h e. w;
    for_cut = λ h row edge left e d. w;
    for_reduce = λ h e. w;
    for_show = w;
    for_text = λ i e. w;
    for_best = λ x e. w;
    for_count = λ l e. w;
    for_did = did-known _ _ _;
  }

  reply-known : (number : ℕ) (s : List ℕ) → KnownIn (reply σ number s).session
  reply-known number s =
      let es = words_of (line_kind s) s in
      reply-by σ number s Keeps (λ e. w) (λ r. w) (λ a. done-by σ number es Keeps (cases number es) (line_kind s))

lines-known : (p : Progress) → Sound p.session → KnownIn p.session → (ls : List (List ℕ)) → KnownIn (after_lines p ls).session
unfolding after_lines after_line
lines-known p s h [] = h
lines-known p s h (l ∷ ls) =
    let number = suc p.lines in
    lines-known (replied p (has_bytes l) (reply p.session number l)) (reply-sound p.session s number l) (reply-known p.session s.whole h number l) ls

text-known : (ls : List (List ℕ)) → KnownIn (reached ls)
unfolding beginning opening after_lines
text-known ls = lines-known beginning (text-sound []) (record { truths = tt; rows = λ i g. absurd (omega arith) }) ls

-- behind whatever lines, and behind a move from there
pub text-undeclared : (ls : List (List ℕ)) → NoneUndeclared (reached ls) (in_hand (reached ls))
unfolding state_in state_of
text-undeclared ls p os l = let σ = reached ls in said-none (length σ.names.predicates) σ.model.arities σ.live.facts (text-known ls).rows p os l

pub next-undeclared : (ls : List (List ℕ)) (w : Words K.Did) → NoneUndeclared (reached ls) (next_of (reached ls) w)
next-undeclared ls w =
    let σ = reached ls in
    next-none (length σ.names.predicates) σ.model (text-known ls).truths (in_hand σ) (text-undeclared ls) (did_in σ w)
