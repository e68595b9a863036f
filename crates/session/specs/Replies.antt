-- What a line is answered, and the session behind it (document 01, sections 'Text', 'Refusals by trade word' and 'A run, whole'; document 02, L1, L2, L9, L10,
-- L11 and L13).
use Rattle.std.specs.Prelude.{Bool, true, not, ◌&&◌, List, [], ◌∷◌, ℕ, ◌^◌, length, get_or, drop, leb, eqb}
use Rattle.refusal.specs.declared.Refusal.{Refusal}
use Rattle.refusal.specs.declared.Refusal.TheVariants.{Form, Place, Missing}
use Rattle.diagram.specs.Rows.{rows}
use Rattle.diagram.specs.Words.{every_below}
use Rattle.refusal.specs.Outcome.{Outcome, ok, refused}
use Rattle.cutting.specs.Cut.{diagram_answer}
use Rattle.mdp.specs.Model.{Action, scale}
use Rattle.mdp.specs.Runs.{a_backup, a_cut, a_reduce, Held, call}
use Rattle.text.specs.declared.Kind.{Kind}
use Rattle.text.specs.declared.Kind.TheVariants as K
use Rattle.text.specs.LineForm.{line_kind}
use Rattle.events.specs.declared.Event.{Event}
use Rattle.events.specs.Events.{first_word}
use Rattle.events.specs.Front.{events_of}
use Rattle.events.specs.Contents.{key_in, number_in, word_at, keys_in, numbers_in}
use Rattle.best.specs.Moves.{Move}
use Rattle.spread.specs.Spread.{Entry}
use Rattle.answers.specs.declared.Answer.{Answer}
use Rattle.answers.specs.declared.Answer.TheVariants as A
use Rattle.session.specs.declared.Rule.{Rule}
use Rattle.session.specs.declared.Rule.TheVariants as R
use Rattle.session.specs.Place.{rule_of}
use Rattle.session.specs.Session.{Live, Session, with_names, with_live, with_held, refuse_if}
use Rattle.session.specs.Declaring.{constant_line, predicate_line, with_vocabulary, total_line, with_total, discount_line, with_discount, action_line, with_action}
use Rattle.session.specs.Facts.{objects_line, is_line, true_line}
use Rattle.session.specs.ModelLines.{reward_line, variant_line, becomes_line}
use Rattle.session.specs.Replaying.{did_line}
use Rattle.session.specs.Running.{start_line, value_read, backup_is, cut_is, reduce_is, form_read, best_read, best_is, count_read}

-- the session behind a line, and what the line is answered
pub record Reply : Type 0 where
  pub session : Session
  pub answer : Answer

-- ===== Its place: 5, for (best) also 20, behind 1 =====

-- every action has a variant
abbrev pub each_varied : List Action → Bool
each_varied [] = true
each_varied (a ∷ l) = leb 1 (length a.variants) && each_varied l

-- a reward, an action, and a variant of each action
abbrev pub is_whole : Session → Bool
is_whole σ = σ.singles.reward && (leb 1 (length σ.names.actions) && each_varied σ.model.actions)

-- the first n constants are placed
abbrev pub each_placed : List ℕ → ℕ → Bool
each_placed marks n = every_below n (λ c. eqb (get_or marks c 0) 1)

abbrev pub has_objects : Session → Bool
has_objects σ = leb 1 σ.live.objects

-- an accepted (objects n), and every declared constant placed
abbrev pub is_placed : Session → Bool
is_placed σ = has_objects σ && each_placed σ.live.placed (length σ.names.constants)

abbrev pub unless : Bool → Outcome (Unit {0})
unless b = refuse_if b Place (ok tt)

-- what a rule asks for is there; '20, in place of 5 where a constant or the state is missing' (document 02, L9)
unfoldable pub allowed : Session → Rule → Outcome (Unit {0})
allowed σ R.NoForm = refused Form
allowed σ R.Misplaced = refused Place
allowed σ R.Anywhere = ok tt
allowed σ R.OneTotal = unless σ.singles.total
allowed σ R.OneDiscount = unless σ.singles.discount
allowed σ R.OneReward = unless σ.singles.reward
allowed σ R.AfterAction = unless (not (leb 1 (length σ.names.actions)))
allowed σ R.AfterVariant = unless (not (leb 1 (length σ.names.variants)))
allowed σ R.WholeModel = unless (not (is_whole σ))
allowed σ R.AfterObjects = unless (not (has_objects σ))
allowed σ R.WholeState = unless (not (is_placed σ))
allowed σ R.MoveState = refuse_if (not (is_placed σ)) Missing (ok tt)
allowed σ R.Constants = unless (not (each_placed σ.live.placed (length σ.names.constants)))

-- ===== The answer =====

abbrev pub refusal : Session → ℕ → Refusal → Reply
refusal σ number r = record { session = σ; answer = A.Refused r number }

-- nothing is printed
abbrev pub silent : Session → Reply
silent τ = record { session = τ; answer = A.Nothing }

-- an accepted line is answered by f of its outcome; a refused one leaves the session as it was, whatever the line is
abbrev pub answered : {A : Type 0} → Session → ℕ → (A → Reply) → Outcome A → Reply
answered σ number f (ok a) = f a
answered σ number f (refused r) = refusal σ number r

-- a line that prints nothing unless it is refused
abbrev pub quietly : {A : Type 0} → Session → ℕ → (A → Session) → Outcome A → Reply
quietly σ number f o = answered σ number (λ a. silent (f a)) o

-- value, k, S^k
abbrev pub value_says : Session → ℕ → Outcome ℕ → Reply
value_says σ number o = answered σ number (λ v. record { session = σ; answer = A.Value v σ.held.steps (scale σ.model ^ σ.held.steps) }) o

-- a call of the run: an accepted one leaves the value diagram and k that it gives
abbrev pub call_says : Session → ℕ → (Held → Answer) → Outcome Held → Reply
call_says σ number says o = answered σ number (λ h. record { session = with_held σ σ.part h; answer = says h }) o

-- the bytes of the value as a form
abbrev pub text_says : Session → ℕ → Outcome ℕ → Reply
text_says σ number o = answered σ number (λ n. record { session = σ; answer = A.Text n }) o

-- action and objects
abbrev pub best_says : Session → ℕ → Outcome Move → Reply
best_says σ number o = answered σ number (λ x. record { session = σ; answer = best_is σ.names x }) o

-- the objects of the states counted, and how many values occur
abbrev pub count_says : Session → ℕ → ℕ → Outcome (List Entry) → Reply
count_says σ number n o = answered σ number (λ es. record { session = σ; answer = A.Count n (length es) }) o

-- count and total
abbrev pub did_says : Session → ℕ → Outcome Live → Reply
did_says σ number o = answered σ number (λ (l : Live). record { session = with_live σ l; answer = A.Did l.count l.total }) o

-- the words es of a line of the kind that stands where it may
unfoldable pub done : Session → ℕ → Kind → List Event → Reply
unfolding constant_line predicate_line total_line discount_line action_line reward_line variant_line becomes_line start_line objects_line is_line true_line
    with_vocabulary with_total with_discount with_action value_read call diagram_answer form_read best_read count_read did_line rows
done σ number K.Constant es = quietly σ number (with_names σ) (constant_line σ.names (key_in (word_at es 0)))
done σ number K.Predicate es =
    quietly σ number (with_vocabulary σ) (predicate_line (record { names = σ.names; arities = σ.model.arities }) (key_in (word_at es 0)) (number_in (word_at es 1)))
done σ number K.Total es = quietly σ number (with_total σ) (total_line (number_in (word_at es 0)))
done σ number K.Discount es = quietly σ number (with_discount σ) (discount_line (number_in (word_at es 0)) (number_in (word_at es 1)))
done σ number K.Reward es = quietly σ number (λ τ. τ) (reward_line σ es)
done σ number K.Action es = quietly σ number (with_action σ) (action_line σ.names (key_in (word_at es 0)) (keys_in (drop 1 es)))
done σ number K.Variant es = quietly σ number (λ τ. τ) (variant_line σ (key_in (word_at es 0)) (drop 1 es))
done σ number K.Becomes es = quietly σ number (λ τ. τ) (becomes_line σ es)
done σ number K.Start es = quietly σ number (λ τ. τ) (start_line σ)
done σ number K.Objects es = quietly σ number (with_live σ) (objects_line (number_in (word_at es 0)))
done σ number K.Is es = quietly σ number (with_live σ) (is_line σ.names σ.live (key_in (word_at es 0)) (number_in (word_at es 1)))
done σ number K.True es =
    quietly σ number (with_live σ) (true_line σ.model.arities σ.names σ.live (key_in (word_at es 0)) (numbers_in (drop 1 es)))
done σ number K.Value es = value_says σ number (value_read σ.model.arities σ.live σ.held.diagram)
done σ number K.Backup es = call_says σ number backup_is (call σ.model a_backup σ.held)
done σ number K.Cut es = call_says σ number (λ h. cut_is (diagram_answer σ.model.arities σ.held.diagram)) (call σ.model a_cut σ.held)
done σ number K.Show es = record { session = σ; answer = A.Show (length (rows σ.held.diagram)) }
done σ number K.Reduce es = call_says σ number reduce_is (call σ.model a_reduce σ.held)
done σ number K.Text es = text_says σ number (form_read σ.model.arities σ.names σ.held.diagram)
done σ number K.Best es = best_says σ number (best_read σ.model σ.live σ.held.diagram)
done σ number K.Count es =
    count_says σ number (number_in (word_at es 0)) (count_read σ.model σ.names σ.live σ.held.diagram (number_in (word_at es 0)))
done σ number K.Did es =
    did_says σ number (did_line σ.model σ.names σ.live (key_in (word_at es 0)) (key_in (word_at es 1)) (numbers_in (drop 2 es)))
done σ number K.Bad es = refusal σ number Form

-- behind the place
abbrev pub at_place : Session → ℕ → Outcome (Unit {0}) → Reply → Reply
at_place σ number o after = answered σ number (λ u. after) o

-- line `number` of a text is of a kind and has the words es: 1, 5 (for (best) also 20), then the line's own checks
unfoldable pub reply_to : Session → ℕ → Kind → List Event → Reply
unfolding allowed done
reply_to σ number k es = at_place σ number (allowed σ (rule_of k σ.part)) (done σ number k es)

-- the words behind the key word of a line of the kind k
abbrev pub words_of : Kind → List ℕ → List Event
words_of k s = events_of (drop (first_word k) s)

-- line `number` of a text, in bytes: 'a line of no bytes shall pass without effect' (document 02, L1)
unfoldable pub reply : Session → ℕ → List ℕ → Reply
unfolding reply_to line_kind events_of
reply σ number [] = silent σ
reply σ number (b ∷ s) = reply_to σ number (line_kind (b ∷ s)) (words_of (line_kind (b ∷ s)) (b ∷ s))
