-- Blank lines: each leaves the session as it was and prints nothing, and taking them out of a text changes no answer but the line numbers of refusals
-- (document 02, L1).
use Rattle.std.specs.Prelude.{◌≡◌, refl, Bool, true, false, ◌||◌, List, [], ◌∷◌, ◌++◌, ℕ, suc, length, drop, eqb}
use Rattle.std.proofs.Common.{sym, ap₂, ◌∙◌}
use Rattle.std.proofs.Math.Path.{ap}
use Rattle.std.proofs.Math.Bool.{cond, or-false}
use Rattle.basics.specs.Tests.{Flag, is_true, is_false, flag}
use Rattle.refusal.specs.Outcome.{Outcome, ok, refused}
use Rattle.cutting.specs.declared.Cut.{Cut}
use Rattle.cutting.specs.declared.Cut.TheVariants as C
use Rattle.cutting.specs.Cut.{diagram_answer}
use Rattle.mdp.specs.Runs.{a_backup, a_cut, a_reduce, call}
use Rattle.text.specs.declared.Kind.{Kind}
use Rattle.text.specs.declared.Kind.TheVariants as K
use Rattle.text.specs.LineForm.{line_kind}
use Rattle.events.specs.declared.Event.{Event}
use Rattle.events.specs.Contents.{key_in, number_in, word_at, keys_in, numbers_in}
use Rattle.answers.specs.declared.Answer.{Answer}
use Rattle.answers.specs.Answers.{answer_bytes}
use Rattle.session.specs.Session.{Session, opening, with_held}
use Rattle.session.specs.Place.{rule_of}
use Rattle.session.specs.Declaring.{constant_line, predicate_line, total_line, discount_line, action_line}
use Rattle.session.specs.Facts.{objects_line, is_line, true_line}
use Rattle.session.specs.ModelLines.{reward_line, variant_line, becomes_line}
use Rattle.session.specs.Running.{start_line, value_read, cut_is, form_read, best_read, count_read}
use Rattle.session.specs.Replies.{Reply, silent, answered, allowed, done, reply_to, words_of, reply}
use Rattle.session.specs.Texts.{line_feed, Lines, behind_byte, lines_of, has_bytes, Progress, reply_bytes}
use Rattle.session.specs.Texts.{after_line, after_lines, after_rest, closing, beginning, text_read, text_answers}
use Rattle.session_laws.specs.LineAnswers.{did_read}
use Rattle.session_laws.proofs.CaseLaws.{vocabulary_of}
use Rattle.session_laws.specs.TextReplies.{replies, replies_bytes, rest_bytes, unspaced, squeezed, numbers_from, under, reply_under, renumbered, Spacing}
use Rattle.session_laws.specs.FoldLaws.{text-bytes}

-- ===== One line =====

-- a blank line leaves the session as it was
pub blank-leaves : (σ : Session) (number : ℕ) → reply σ number [] ≡ silent σ
unfolding reply
blank-leaves σ number = refl

-- and prints nothing
silent-bytes : (σ : Session) → reply_bytes (silent σ) ≡ []
unfolding reply_bytes answer_bytes
silent-bytes σ = refl

-- ===== Under another number a line is answered the same, but for the number of its refusal =====

answered-under : {A : Type 0} (σ : Session) (i j : ℕ) (f g : A → Reply) (o : Outcome A) → ((a : A) → reply_under j (f a) ≡ g a)
    → reply_under j (answered σ i f o) ≡ answered σ j g o
answered-under σ i j f g (ok a) e = e a
answered-under σ i j f g (refused r) e = refl

-- a cut is answered no refusal
cut-under : (j : ℕ) (c : Cut) → under j (cut_is c) ≡ cut_is c
cut-under j (C.Done row edge left) = refl
cut-under j (C.Refused r) = refl

done-under : (σ : Session) (i j : ℕ) (k : Kind) (es : List Event) → reply_under j (done σ i k es) ≡ done σ j k es
unfolding done
done-under σ i j K.Constant es = answered-under σ i j _ _ (constant_line σ.names (key_in (word_at es 0))) (λ n. refl)
done-under σ i j K.Predicate es = answered-under σ i j _ _ (predicate_line (vocabulary_of σ) (key_in (word_at es 0)) (number_in (word_at es 1))) (λ v. refl)
done-under σ i j K.Total es = answered-under σ i j _ _ (total_line (number_in (word_at es 0))) (λ w. refl)
done-under σ i j K.Discount es = answered-under σ i j _ _ (discount_line (number_in (word_at es 0)) (number_in (word_at es 1))) (λ q. refl)
done-under σ i j K.Reward es = answered-under σ i j _ _ (reward_line σ es) (λ τ. refl)
done-under σ i j K.Action es = answered-under σ i j _ _ (action_line σ.names (key_in (word_at es 0)) (keys_in (drop 1 es))) (λ n. refl)
done-under σ i j K.Variant es = answered-under σ i j _ _ (variant_line σ (key_in (word_at es 0)) (drop 1 es)) (λ τ. refl)
done-under σ i j K.Becomes es = answered-under σ i j _ _ (becomes_line σ es) (λ τ. refl)
done-under σ i j K.Start es = answered-under σ i j _ _ (start_line σ) (λ τ. refl)
done-under σ i j K.Objects es = answered-under σ i j _ _ (objects_line (number_in (word_at es 0))) (λ l. refl)
done-under σ i j K.Is es = answered-under σ i j _ _ (is_line σ.names σ.live (key_in (word_at es 0)) (number_in (word_at es 1))) (λ l. refl)
done-under σ i j K.True es =
    answered-under σ i j _ _ (true_line σ.model.arities σ.names σ.live (key_in (word_at es 0)) (numbers_in (drop 1 es))) (λ l. refl)
done-under σ i j K.Value es = answered-under σ i j _ _ (value_read σ.model.arities σ.live σ.held.diagram) (λ v. refl)
done-under σ i j K.Backup es = answered-under σ i j _ _ (call σ.model a_backup σ.held) (λ h. refl)
done-under σ i j K.Cut es =
    answered-under σ i j _ _ (call σ.model a_cut σ.held)
    (λ h. ap (λ (a : Answer). record { session = with_held σ σ.part h; answer = a }) (cut-under j (diagram_answer σ.model.arities σ.held.diagram)))
done-under σ i j K.Show es = refl
done-under σ i j K.Reduce es = answered-under σ i j _ _ (call σ.model a_reduce σ.held) (λ h. refl)
done-under σ i j K.Text es = answered-under σ i j _ _ (form_read σ.model.arities σ.names σ.held.diagram) (λ n. refl)
done-under σ i j K.Best es = answered-under σ i j _ _ (best_read σ.model σ.live σ.held.diagram) (λ x. refl)
done-under σ i j K.Count es =
    answered-under σ i j _ _ (count_read σ.model σ.names σ.live σ.held.diagram (number_in (word_at es 0))) (λ l. refl)
done-under σ i j K.Did es = answered-under σ i j _ _ (did_read σ es) (λ l. refl)
done-under σ i j K.Bad es = refl

pub reply-under : (σ : Session) (i j : ℕ) (s : List ℕ) → reply_under j (reply σ i s) ≡ reply σ j s
unfolding reply reply_to
reply-under σ i j [] = refl
reply-under σ i j (b ∷ s) =
    let k = line_kind (b ∷ s) in
    let es = words_of k (b ∷ s) in
    answered-under σ i j _ _ (allowed σ (rule_of k σ.part)) (λ u. done-under σ i j k es)

-- so the session behind a line does not depend on its number
same-session : (σ : Session) (i j : ℕ) (s : List ℕ) → (reply σ i s).session ≡ (reply σ j s).session
same-session σ i j s = ap (λ (y : Reply). y.session) (reply-under σ i j s)

-- ===== Lines =====

-- the answers of lines are those of the lines with bytes, each refusal under its own line's number
lines-under : (σ : Session) (n m : ℕ) (ls : List (List ℕ))
    → replies_bytes (replies σ n ls) ≡ replies_bytes (renumbered (numbers_from n ls) (replies σ m (unspaced ls)))
unfolding replies replies_bytes
lines-under σ n m [] = refl
lines-under σ n m ([] ∷ ls) =
    ap₂ (λ (y : Reply) (bs : List ℕ). reply_bytes y ++ bs) (blank-leaves σ (suc n))
    (ap (λ (τ : Session). replies_bytes (replies τ (suc n) ls)) (ap (λ (y : Reply). y.session) (blank-leaves σ (suc n))))
    ∙ ap (λ (bs : List ℕ). bs ++ replies_bytes (replies σ (suc n) ls)) (silent-bytes σ)
    ∙ lines-under σ (suc n) m ls
lines-under σ n m ((b ∷ l) ∷ ls) =
    let s = b ∷ l in
    let τ = (reply σ (suc m) s).session in
    ap₂ (λ (y : Reply) (bs : List ℕ). reply_bytes y ++ bs) (sym (reply-under σ (suc m) (suc n) s))
    (ap (λ (υ : Session). replies_bytes (replies υ (suc n) ls)) (same-session σ (suc n) (suc m) s) ∙ lines-under τ (suc n) (suc m) ls)

-- two ways through a text that have come to the same session, and have met a line with bytes or have not
record Alike (p q : Progress) : Type 0 where
  session : p.session ≡ q.session
  met : p.met ≡ q.met

alike-blank : (p q : Progress) → Alike p q → Alike (after_line p []) q
unfolding after_line
alike-blank p q a = record {
  session = ap (λ (y : Reply). y.session) (blank-leaves p.session (suc p.lines)) ∙ a.session;
  met = or-false p.met ∙ a.met;
}

alike-line : (p q : Progress) (s : List ℕ) → Alike p q → Alike (after_line p s) (after_line q s)
unfolding after_line
alike-line p q s a = record {
  session = ap (λ (σ : Session). (reply σ (suc p.lines) s).session) a.session ∙ same-session q.session (suc p.lines) (suc q.lines) s;
  met = ap (λ (b : Bool). b || has_bytes s) a.met;
}

alike-lines : (p q : Progress) (ls : List (List ℕ)) → Alike p q → Alike (after_lines p ls) (after_lines q (unspaced ls))
unfolding after_lines
alike-lines p q [] a = a
alike-lines p q ([] ∷ ls) a = alike-lines (after_line p []) q ls (alike-blank p q a)
alike-lines p q ((b ∷ l) ∷ ls) a = alike-lines (after_line p (b ∷ l)) (after_line q (b ∷ l)) ls (alike-line p q (b ∷ l) a)

alike-rest : (p q : Progress) (s : List ℕ) → Alike p q → Alike (after_rest p s) (after_rest q s)
unfolding after_rest
alike-rest p q [] a = a
alike-rest p q (b ∷ s) a = record { session = a.session; met = ap (λ (c : Bool). c || true) a.met }

-- ===== A text =====

-- blank lines out, but for the first, which the bytes before may make longer
abbrev behind_first : List (List ℕ) → List (List ℕ)
behind_first [] = []
behind_first (l ∷ ls) = l ∷ unspaced ls

abbrev unspaced_all : Lines → Lines
unspaced_all t = record { whole = unspaced t.whole; rest = t.rest }

abbrev unspaced_behind : Lines → Lines
unspaced_behind t = record { whole = behind_first t.whole; rest = t.rest }

abbrev behind : ℕ → Lines → Lines
behind b t = behind_byte b t.whole t.rest

abbrev feed : Lines → Lines
feed t = record { whole = [] ∷ t.whole; rest = t.rest }

record Squeezed (s : List ℕ) : Type 0 where
  begun : lines_of (squeezed true s) ≡ unspaced_all (lines_of s)
  within : lines_of (squeezed false s) ≡ unspaced_behind (lines_of s)

byte-all : (b : ℕ) (ls : List (List ℕ)) (rest : List ℕ) → behind_byte b (behind_first ls) rest ≡ unspaced_all (behind_byte b ls rest)
byte-all b [] rest = refl
byte-all b (l ∷ ls) rest = refl

byte-behind : (b : ℕ) (ls : List (List ℕ)) (rest : List ℕ) → behind_byte b (behind_first ls) rest ≡ unspaced_behind (behind_byte b ls rest)
byte-behind b [] rest = refl
byte-behind b (l ∷ ls) rest = refl

module _ (b : ℕ) (s : List ℕ) where
  lines-feed : eqb b line_feed ≡ true → lines_of (b ∷ s) ≡ feed (lines_of s)
  unfolding lines_of
  lines-feed q = ap (λ (t : Bool). cond t (feed (lines_of s)) (behind b (lines_of s))) q

  lines-byte : eqb b line_feed ≡ false → lines_of (b ∷ s) ≡ behind b (lines_of s)
  unfolding lines_of
  lines-byte q = ap (λ (t : Bool). cond t (feed (lines_of s)) (behind b (lines_of s))) q

  squeezed-feed : (begins : Bool) → eqb b line_feed ≡ true → squeezed begins (b ∷ s) ≡ cond begins (squeezed true s) (b ∷ squeezed true s)
  squeezed-feed begins q = ap (λ (t : Bool). cond t (cond begins (squeezed true s) (b ∷ squeezed true s)) (b ∷ squeezed false s)) q

  squeezed-byte : (begins : Bool) → eqb b line_feed ≡ false → squeezed begins (b ∷ s) ≡ b ∷ squeezed false s
  squeezed-byte begins q = ap (λ (t : Bool). cond t (cond begins (squeezed true s) (b ∷ squeezed true s)) (b ∷ squeezed false s)) q

squeezed-lines : (s : List ℕ) → Squeezed s
unfolding lines_of
squeezed-lines [] = record { begun = refl; within = refl }
squeezed-lines (b ∷ s) = go (flag (eqb b line_feed)) (squeezed-lines s)
  where
    go : Flag (eqb b line_feed) → Squeezed s → Squeezed (b ∷ s)
    go (is_true q) h = record {
      begun = ap lines_of (squeezed-feed b s true q) ∙ h.begun ∙ sym (ap unspaced_all (lines-feed b s q));
      within =
          ap lines_of (squeezed-feed b s false q) ∙ lines-feed b (squeezed true s) q ∙ ap feed h.begun ∙ sym (ap unspaced_behind (lines-feed b s q));
    }
    go (is_false q) h =
        let t : lines_of (b ∷ squeezed false s) ≡ behind b (unspaced_behind (lines_of s)) = lines-byte b (squeezed false s) q ∙ ap (behind b) h.within in
        record {
          begun = ap lines_of (squeezed-byte b s true q) ∙ t ∙ byte-all b (lines_of s).whole (lines_of s).rest ∙ sym (ap unspaced_all (lines-byte b s q));
          within =
              ap lines_of (squeezed-byte b s false q) ∙ t ∙ byte-behind b (lines_of s).whole (lines_of s).rest ∙ sym (ap unspaced_behind (lines-byte b s q));
        }

plain-read : (s : List ℕ) → text_read (squeezed true s) ≡ after_rest (after_lines beginning (unspaced (lines_of s).whole)) (lines_of s).rest
unfolding text_read
plain-read s = ap (λ (t : Lines). after_rest (after_lines beginning t.whole) t.rest) (squeezed-lines s).begun

same_end : (s : List ℕ) → Alike (text_read s) (text_read (squeezed true s))
unfolding text_read
same_end s =
    let a = alike-rest _ _ (lines_of s).rest (alike-lines beginning beginning (lines_of s).whole (record { session = refl; met = refl })) in
    let e = sym (plain-read s) in
    record { session = a.session ∙ ap (λ (p : Progress). p.session) e; met = a.met ∙ ap (λ (p : Progress). p.met) e }

pub spacing : (s : List ℕ) → Spacing s (replies opening 0 (unspaced (lines_of s).whole)) (closing (text_read s).session.part (text_read s).met)
unfolding text_answers
spacing s =
    let ls = (lines_of s).whole in
    let end = closing (text_read s).session.part (text_read s).met in
    let a = same_end s in
    record {
      spaced =
          ap (λ (bs : List ℕ). bs ++ end)
          (text-bytes s ∙ ap (λ (bs : List ℕ). bs ++ rest_bytes (length ls) (lines_of s).rest) (lines-under opening 0 0 ls));
      plain =
          ap₂ (λ (bs : List ℕ) (e : List ℕ). bs ++ e)
          (text-bytes (squeezed true s)
          ∙ ap (λ (t : Lines). replies_bytes (replies opening 0 t.whole) ++ rest_bytes (length t.whole) t.rest) (squeezed-lines s).begun)
          (sym (ap₂ (λ (σ : Session) (m : Bool). closing σ.part m) a.session a.met));
    }
