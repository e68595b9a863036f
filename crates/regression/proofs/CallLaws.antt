-- Laws of the steps of a call: what an answer is, what is formed, and that forming again what is there adds nothing.
use Rattle.std.specs.Prelude.{◌≡◌, refl, Bool, true, false, cond, List, [], ℕ, ◌≤◌, ◌<◌, length, ltb}
use Rattle.std.proofs.Common.{ap, sym, ◌∙◌, subst, arith, ltb-false, le-ltb, lt-ltb}
use Rattle.refusal.specs.declared.Refusal.{Refusal}
use Rattle.refusal.specs.declared.Refusal.TheVariants.{Pairs, Value, Space}
use Rattle.refusal.specs.Outcome.{Accepted, Outcome, ok, refused, and_then}
use Rattle.refusal.specs.OutcomeLaws.{accepted-ok, accepted-then}
use Rattle.basics.specs.Members.{mem, Within}
use Rattle.basics.specs.Prefix.{Prefix, prefix_refl, prefix_trans, mem-prefix}
use Rattle.diagram.specs.Sizes.{space_rows, most_pairs}
use Rattle.diagram.specs.Diagram.{Diagram, same}
use Rattle.diagram.specs.DiagramLaws.{onto-old}
use Rattle.diagram.specs.Rows.{onto}
use Rattle.diagram.specs.Inner.{Kept}
use Rattle.diagram.specs.RowLaws.{onto-mem, onto-kept, kept-children, kept-nodup, onto-keeps}
use Rattle.apply.specs.declared.Operation.{Operation}
use Rattle.apply.specs.Apply.{apply}
use Rattle.apply.specs.Pairs.{pairs, pair_count, overflows}
use Rattle.apply.specs.Combination.{operate}
use Rattle.apply.specs.Visit.{visit}
use Rattle.apply.specs.Inner.{ClosedRows}
use Rattle.apply.specs.Formed.{formed}
use Rattle.apply.proofs.FormedLaws.{formed-visit, formed-count}
use Rattle.regression.specs.Calls.{Run, pure, bind, form, combine}

-- what a step of a call gives, in whatever space, has P
pub record Gives {A : Type 0} (P : A → Type 0) (m : Run A) : Type 0 where
  pub given : (rs : List Diagram) → Accepted (λ (r : A × List Diagram). P r.0) (m rs)

pub gives-pure : {A : Type 0} {P : A → Type 0} (a : A) → P a → Gives P (pure a)
gives-pure a p = record { given = λ rs. accepted-ok p }

pub gives-bind : {A B : Type 0} {P : A → Type 0} {Q : B → Type 0} (m : Run A) (f : A → Run B)
    → Gives P m → ((a : A) → P a → Gives Q (f a)) → Gives Q (bind m f)
gives-bind m f g k = record { given = λ rs. accepted-then (m rs) (g.given rs) (λ r p. (k r.0 p).given r.1) }

pub gives-mono : {A : Type 0} {P Q : A → Type 0} {m : Run A} → Gives P m → ((a : A) → P a → Q a) → Gives Q m
gives-mono g k = record { given = λ rs. record { given = λ r e. k r.0 ((g.given rs).given r e) } }

-- two steps that give an answer, taken apart and put together
pub record Both {A B : Type 0} (m : Run A) (f : A → Run B) (rs : List Diagram) (b : B) (us : List Diagram) : Type 0 where
  pub first : A
  pub between : List Diagram
  pub one : m rs ≡ ok (first, between)
  pub two : f first between ≡ ok (b, us)

pub both-bind : {A B : Type 0} (m : Run A) (f : A → Run B) (rs : List Diagram) (b : B) (us : List Diagram) → bind m f rs ≡ ok (b, us) → Both m f rs b us
both-bind {A} {B} m f rs b us h = go (m rs) refl h
  where
    go : (o : Outcome (A × List Diagram)) → m rs ≡ o → and_then o (λ r. f r.0 r.1) ≡ ok (b, us) → Both m f rs b us
    go (ok r) e k = record { first = r.0; between = r.1; one = e; two = k }
    go (refused r) e k = let z : ◌≡◌ {A = ℕ} 0 1 = cc in absurd (omega arith)

pub bind-both : {A B : Type 0} (m : Run A) (f : A → Run B) (rs : List Diagram) (a : A) (qs : List Diagram) → m rs ≡ ok (a, qs) → bind m f rs ≡ f a qs
bind-both m f rs a qs e = rw e

-- a step that is refused
pub bind-refused : {A B : Type 0} (m : Run A) (f : A → Run B) (rs : List Diagram) (r : Refusal) → m rs ≡ refused r → bind m f rs ≡ refused r
bind-refused m f rs r e = rw e

-- one answer, and one space, of a step that gives one
unwrapped : {A : Type 0} → A → Outcome A → A
unwrapped a (ok b) = b
unwrapped a (refused r) = a

pub same_answer : {A : Type 0} (a b : A) (rs qs : List Diagram) → ◌≡◌ {A = Outcome (A × List Diagram)} (ok (a, rs)) (ok (b, qs)) → a ≡ b
unfolding unwrapped
same_answer {A} a b rs qs e = ap (λ (o : Outcome (A × List Diagram)). (unwrapped (a, rs) o).0) e

pub same_rows : {A : Type 0} (a b : A) (rs qs : List Diagram) → ◌≡◌ {A = Outcome (A × List Diagram)} (ok (a, rs)) (ok (b, qs)) → rs ≡ qs
unfolding unwrapped
same_rows {A} a b rs qs e = ap (λ (o : Outcome (A × List Diagram)). (unwrapped (a, rs) o).1) e

-- the laws of `form` and `combine`: nothing else unfolds them
pub form-room : (d : Diagram) (rs : List Diagram) → length (onto d rs) ≤ space_rows → form d rs ≡ ok (d, onto d rs)
unfolding form
form-room d rs h = rw (le-ltb space_rows (length (onto d rs)) h)

pub form-space : (d : Diagram) (rs : List Diagram) → space_rows < length (onto d rs) → form d rs ≡ refused Space
unfolding form
form-space d rs h = rw (lt-ltb space_rows (length (onto d rs)) h)

pub form-old : (d : Diagram) (rs : List Diagram) → mem same d rs ≡ true → length rs ≤ space_rows → form d rs ≡ ok (d, rs)
form-old d rs h l = form-room d rs (rw (onto-old d rs h) l) ∙ rw (onto-old d rs h) refl

pub combine-pairs : (op : Operation) (a b : Diagram) (rs : List Diagram) → most_pairs < pair_count op a b → combine op a b rs ≡ refused Pairs
unfolding combine
combine-pairs op a b rs h = rw (lt-ltb most_pairs (pair_count op a b) h)

pub combine-value : (op : Operation) (a b : Diagram) (rs : List Diagram) → pair_count op a b ≤ most_pairs → overflows (operate op) (pairs op a b) ≡ true
    → combine op a b rs ≡ refused Value
unfolding combine
combine-value op a b rs h o = rw (le-ltb most_pairs (pair_count op a b) h, o)

pub combine-calm : (op : Operation) (a b : Diagram) (rs : List Diagram) → pair_count op a b ≤ most_pairs → overflows (operate op) (pairs op a b) ≡ false
    → combine op a b rs ≡ form (apply (operate op) a b) rs
unfolding combine
combine-calm op a b rs h o = rw (le-ltb most_pairs (pair_count op a b) h, o)

-- a step that was not refused
pub record Forms (d x : Diagram) (rs qs : List Diagram) : Type 0 where
  pub is : x ≡ d
  pub rows_are : qs ≡ onto d rs
  pub room : length (onto d rs) ≤ space_rows

pub form-forms : (d : Diagram) (rs : List Diagram) (x : Diagram) (qs : List Diagram) → form d rs ≡ ok (x, qs) → Forms d x rs qs
unfolding form
form-forms d rs x qs h = go (ltb space_rows (length (onto d rs))) refl h
  where
    go : (b : Bool) → ltb space_rows (length (onto d rs)) ≡ b → cond {A = Outcome (Diagram × List Diagram)} b (refused Space) (ok (d, onto d rs)) ≡ ok (x, qs) → Forms d x rs qs
    go true e k = let z : ◌≡◌ {A = ℕ} 0 1 = cc in absurd (omega arith)
    go false e k = record { is = sym (same_answer d x (onto d rs) qs k); rows_are = sym (same_rows d x (onto d rs) qs k); room = ltb-false _ _ e }

pub record Combines (op : Operation) (a b x : Diagram) (rs qs : List Diagram) : Type 0 where
  pub few : pair_count op a b ≤ most_pairs
  pub calm : overflows (operate op) (pairs op a b) ≡ false
  pub forms : Forms (apply (operate op) a b) x rs qs

pub combine-combines : (op : Operation) (a b : Diagram) (rs : List Diagram) (x : Diagram) (qs : List Diagram) → combine op a b rs ≡ ok (x, qs) → Combines op a b x rs qs
unfolding combine
combine-combines op a b rs x qs h = go (ltb most_pairs (pair_count op a b)) (overflows (operate op) (pairs op a b)) refl refl h
  where
    go : (p o : Bool) → ltb most_pairs (pair_count op a b) ≡ p → overflows (operate op) (pairs op a b) ≡ o
        → cond p (refused Pairs) (cond o (refused Value) (form (apply (operate op) a b) rs)) ≡ ok (x, qs) → Combines op a b x rs qs
    go true o e d k = let z : ◌≡◌ {A = ℕ} 0 1 = cc in absurd (omega arith)
    go false true e d k = let z : ◌≡◌ {A = ℕ} 0 1 = cc in absurd (omega arith)
    go false false e d k = record { few = ltb-false _ _ e; calm = d; forms = form-forms (apply (operate op) a b) rs x qs k }

pub form-gives : (d : Diagram) → Gives (λ x. x ≡ d) (form d)
form-gives d = record { given = λ rs. record { given = λ r e. (form-forms d rs r.0 r.1 e).is } }

pub combine-gives : (op : Operation) (a b : Diagram) → Gives (λ x. x ≡ apply (operate op) a b) (combine op a b)
combine-gives op a b = record { given = λ rs. record { given = λ r e. (combine-combines op a b rs r.0 r.1 e).forms.is } }

-- every pair forms its reduced diagram: the rows formed are those of the result, and they are as many
pub kept-closed : (rs : List Diagram) → Kept rs → ClosedRows rs
kept-closed rs k = record { children = λ l t f h. let c = kept-children rs l t f k h in (c.0.is_row, c.1.is_row) }

pub combine-forms : (op : Operation) (a b : Diagram) (rs : List Diagram) → Kept rs
    → (formed (operate op) rs (visit op a b []) ≡ onto (apply (operate op) a b) rs) × (length (formed (operate op) rs (pairs op a b)) ≡ length (onto (apply (operate op) a b) rs))
combine-forms op a b rs k = (formed-visit op rs a b (kept-closed rs k), formed-count op rs a b (kept-closed rs k) (kept-nodup rs k))

-- a step keeps the rows that are there, in the room of the space; and where its rows are there already it gives the same answer and adds nothing
pub record Steady {A : Type 0} (m : Run A) : Type 0 where
  pub grows : (rs : List Diagram) (a : A) (qs : List Diagram) → m rs ≡ ok (a, qs) → Prefix rs qs
  pub kept : (rs : List Diagram) (a : A) (qs : List Diagram) → m rs ≡ ok (a, qs) → Kept rs → Kept qs
  pub room : (rs : List Diagram) (a : A) (qs : List Diagram) → m rs ≡ ok (a, qs) → length rs ≤ space_rows → length qs ≤ space_rows
  pub again : (rs : List Diagram) (a : A) (qs us : List Diagram) → m rs ≡ ok (a, qs) → Within same qs us → length us ≤ space_rows → m us ≡ ok (a, us)

pub steady-pure : {A : Type 0} (a : A) → Steady (pure a)
steady-pure {A} a = record {
  grows = λ rs b qs e. subst (Prefix rs) (same_rows a b rs qs e) (prefix_refl rs);
  kept = λ rs b qs e k. subst Kept (same_rows a b rs qs e) k;
  room = λ rs b qs e l. subst (λ (x : List Diagram). length x ≤ space_rows) (same_rows a b rs qs e) l;
  again = λ rs b qs us e w l. ap (λ (x : A). ok (x, us)) (same_answer a b rs qs e);
}

pub steady-bind : {A B : Type 0} (m : Run A) (f : A → Run B) → Steady m → ((a : A) → Steady (f a)) → Steady (bind m f)
steady-bind {A} {B} m f s t = record { grows = grows; kept = kept; room = room; again = again }
  where
    grows : (rs : List Diagram) (b : B) (us : List Diagram) → bind m f rs ≡ ok (b, us) → Prefix rs us
    grows rs b us h =
        let x = both-bind m f rs b us h in
        prefix_trans (s.grows rs x.first x.between x.one) ((t x.first).grows x.between b us x.two)

    kept : (rs : List Diagram) (b : B) (us : List Diagram) → bind m f rs ≡ ok (b, us) → Kept rs → Kept us
    kept rs b us h k =
        let x = both-bind m f rs b us h in
        (t x.first).kept x.between b us x.two (s.kept rs x.first x.between x.one k)

    room : (rs : List Diagram) (b : B) (us : List Diagram) → bind m f rs ≡ ok (b, us) → length rs ≤ space_rows → length us ≤ space_rows
    room rs b us h l =
        let x = both-bind m f rs b us h in
        (t x.first).room x.between b us x.two (s.room rs x.first x.between x.one l)

    again : (rs : List Diagram) (b : B) (us ws : List Diagram) → bind m f rs ≡ ok (b, us) → Within same us ws → length ws ≤ space_rows → bind m f ws ≡ ok (b, ws)
    again rs b us ws h w l =
        let x = both-bind m f rs b us h in
        let g = (t x.first).grows x.between b us x.two in
        let e = s.again rs x.first x.between ws x.one (λ d p. w d (mem-prefix same d g p)) l in
        bind-both m f ws x.first ws e ∙ (t x.first).again x.between b us ws x.two w l

pub steady-form : (d : Diagram) → Steady (form d)
steady-form d = record {
  grows = λ rs x qs e. rw (form-forms d rs x qs e).rows_are (onto-keeps d rs);
  kept = λ rs x qs e k. rw (form-forms d rs x qs e).rows_are (onto-kept d rs k);
  room = λ rs x qs e l. rw (form-forms d rs x qs e).rows_are (form-forms d rs x qs e).room;
  again = λ rs x qs us e w l.
      let f = form-forms d rs x qs e in
      form-old d us (w d (rw f.rows_are (onto-mem d rs))) l ∙ ap (λ (y : Diagram). ok (y, us)) (sym f.is);
}

pub steady-combine : (op : Operation) (a b : Diagram) → Steady (combine op a b)
steady-combine op a b = record {
  grows = λ rs x qs e. rw (combine-combines op a b rs x qs e).forms.rows_are (onto-keeps (apply (operate op) a b) rs);
  kept = λ rs x qs e k. rw (combine-combines op a b rs x qs e).forms.rows_are (onto-kept (apply (operate op) a b) rs k);
  room = λ rs x qs e l. rw (combine-combines op a b rs x qs e).forms.rows_are (combine-combines op a b rs x qs e).forms.room;
  again = λ rs x qs us e w l.
      let c = combine-combines op a b rs x qs e in
      let f = c.forms in
      combine-calm op a b us c.few c.calm ∙ form-old (apply (operate op) a b) us (w (apply (operate op) a b) (rw f.rows_are (onto-mem (apply (operate op) a b) rs))) l
      ∙ ap (λ (y : Diagram). ok (y, us)) (sym f.is);
}
