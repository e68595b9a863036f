-- Laws of what freeing answers: one for each check, and that an accepted call takes the highest number over all tuples.
use Rattle.std.specs.Prelude.{◌≡◌, ◌⊎◌, true, false, not, ◌||◌, List, [], ◌∷◌, ℕ, zero, suc, ◌+◌, ◌-◌, ◌≤◌, ◌<◌, length, get_or, take, ltb, leb}
use Rattle.std.proofs.Math.Path.{refl, ap₂}
use Rattle.std.proofs.Common.{ap, inl, inr, arith}
use borrow.Author.Tests.{ltb-true, ltb-false, leb-true, le-ltb, lt-ltb, not-false}
use Rattle.refusal.specs.declared.Refusal.{Refusal}
use Rattle.refusal.specs.declared.Refusal.TheVariants.{Listing, Buffer, Unbound, Range, Variables}
use Rattle.refusal.specs.Outcome.{ok, refused, Accepted}
use Rattle.refusal.specs.OutcomeLaws.{accepted-cond, accepted-ok}
use Rattle.basics.specs.Tests.{and_left, and_right, Either, one, other, either, Cmp, below, equal, above, cmp}
use Rattle.basics.specs.Members.{clash}
use Rattle.label.specs.Limits.{first_parameter, parameter_count, first_variable, variable_count, first_minimum}
use Rattle.label.specs.Terms.{is_constant, is_parameter, is_variable, is_minimum, is_term}
use Rattle.label.specs.Labels.{are_arities, places_of, predicate_of, unpacked, is_label, terms_of}
use Rattle.label.specs.Inner.{Increasing, Freed as Freeable}
use Rattle.label.specs.Renamings.{mapped, renamed, freeing, EachIn}
use Rattle.label.proofs.RenamingLaws.{freeing-increasing, renamed-atom, renamed-terms}
use Rattle.label.specs.declared.Atom.{Atom}
use Rattle.diagram.specs.Sizes.{result_words, space_words}
use Rattle.diagram.specs.Diagram.{Tree, Diagram, leaf, branch, relabel}
use Rattle.diagram.specs.Words.{is_listing}
use Rattle.diagram.specs.Listing.{diagram_of}
use Rattle.diagram.specs.Listings.{is-listing-good}
use Rattle.diagram.specs.Variables.{occurs}
use Rattle.rename.specs.Freeing.{freed}
use Rattle.apply.proofs.GoodLaws.{fine-every}
use Rattle.state.specs.Max.{Tuple, max_tuples}
use Rattle.state.specs.State.{Atomic, atom, atom_of, meaning, State, Good}
use Rattle.state.specs.Terms.{Each, args, Terms, rename_atom, rename}
use Rattle.state.proofs.ValueLaws.{Terms-mono}
use Rattle.minimum.specs.Number.{Number}
use Rattle.minimum.specs.Inner.{Room}
use Rattle.minimum.proofs.OccurLaws.{occur-terms}
use Rattle.minimum.proofs.FreedLaws.{number-freed}
use Rattle.regression.specs.Parameters.{Within, Labels}
use Rattle.regression.proofs.ResultLaws.{label-terms}
use Rattle.regression.proofs.FreeingLaws.{within-freed}
use Rattle.regression.specs.RegressCall.{any_occurs, freed_outcome, free_own, free_outcome, free_answer, free_result}
use Rattle.regression.proofs.RegressCallLaws.{any-quiet, quiet-any}
use Rattle.std.specs.Prelude.{Err}

-- the terms of a label, place by place
take-each : (P : ℕ → Type 0) (n : ℕ) (ts : List ℕ) → Each P (take n ts) → (k : ℕ) → k < n → k < length ts → P (get_or ts k 0)
take-each P zero ts w k h i = absurd (omega arith)
take-each P (suc n) [] w k h i = absurd (omega arith)
take-each P (suc n) (t ∷ ts) w zero h i = w.0
take-each P (suc n) (t ∷ ts) w (suc k) h i = take-each P n ts w.1 k (omega arith) (omega arith)

pub each_in : (P : ℕ → Type 0) (ar : List ℕ) (l : ℕ) → Each P (args (atom_of ar l)) → EachIn ar P l
unfolding atom_of terms_of predicate_of unpacked
each_in P ar l w = record { on = take-each P (get_or ar (predicate_of l) 0) (places_of (unpacked l)) w }

same-predicate : (k l : ℕ) (ρ : ℕ → ℕ) (n : ℕ) → unpacked k ≡ mapped ρ n (unpacked l) → predicate_of k ≡ predicate_of l
unfolding unpacked predicate_of mapped
same-predicate k l ρ n e = ap (λ (a : Atom). a.predicate) e

-- labels renamed by a map that keeps the order of their terms say what the map makes of the terms
module _ (P : ℕ → Type 0) (ρ : ℕ → ℕ) (inc : Increasing P ρ) (ar : List ℕ) (good : are_arities ar ≡ true) where
  atom-renamed : (l : ℕ) → is_label ar l ≡ true → Each P (args (atom_of ar l)) → atom_of ar (renamed ar ρ l) ≡ rename_atom ρ (atom_of ar l)
  unfolding atom_of
  atom-renamed l h w = ap₂ atom (predicates (renamed-atom P ρ inc ar good l h (each_in P ar l w))) (renamed-terms P ρ inc ar good l h (each_in P ar l w))
    where
      predicates : unpacked (renamed ar ρ l) ≡ mapped ρ (get_or ar (predicate_of l) 0) (unpacked l) → predicate_of (renamed ar ρ l) ≡ predicate_of l
      predicates e = same-predicate (renamed ar ρ l) l ρ (get_or ar (predicate_of l) 0) e

  pub meaning-renamed : (d : Diagram) → Labels ar d → Terms P (meaning ar d) → meaning ar (relabel (renamed ar ρ) d) ≡ rename ρ (meaning ar d)
  unfolding meaning relabel rename
  meaning-renamed (leaf v) w t = refl
  meaning-renamed (branch l x y) w t =
      λ i. branch (atom-renamed l w.0 t.0 i) (meaning-renamed x w.1 t.1 i) (meaning-renamed y w.2 t.2 i)

-- the checks of freeing, in order
module _ (ar words : List ℕ) (count out_length work_length : ℕ) where
  pub free-listing : is_listing ar words ≡ false → free_outcome ar words count out_length work_length ≡ refused Listing
  unfolding free_outcome
  free-listing e = rw e

  pub free-buffer : is_listing ar words ≡ true → (ltb out_length result_words || ltb work_length space_words) ≡ true
      → free_outcome ar words count out_length work_length ≡ refused Buffer
  unfolding free_outcome
  free-buffer e h = rw (e, h)

  module _ (e : is_listing ar words ≡ true) (room : result_words ≤ out_length) (space : space_words ≤ work_length) where
    pub free-range : parameter_count < count → free_outcome ar words count out_length work_length ≡ refused Range
    unfolding free_outcome
    free-range h = rw (e, le-ltb out_length result_words room, le-ltb work_length space_words space, lt-ltb parameter_count count h)

    pub free_own_lem : count ≤ parameter_count → free_outcome ar words count out_length work_length ≡ free_own ar words count
    unfolding free_outcome
    free_own_lem h = rw (e, le-ltb out_length result_words room, le-ltb work_length space_words space, le-ltb parameter_count count h)

-- 8 is met only by variables that would pass the last: wherever these stay below the minimum variables freeing is accepted, whatever minimum variables there are
pub free-accepted : (ar : List ℕ) (c : ℕ) (d : Diagram) → c ≤ parameter_count → ((t : ℕ) → first_variable ≤ t → t < first_minimum → first_minimum ≤ t + c → occurs ar t d ≡ false)
    → freed_outcome ar c d ≡ ok (freed ar c d)
unfolding freed_outcome
free-accepted ar c d few h = rw (quiet-any ar d (first_minimum - c) c (λ u i j. h u (omega arith) (omega arith) (omega arith)))

-- without a parameter past the count 8 is left
pub own-freed : (ar words : List ℕ) (count : ℕ) → any_occurs ar (diagram_of words) (first_parameter + count) (parameter_count - count) ≡ false
    → free_own ar words count ≡ freed_outcome ar count (diagram_of words)
unfolding free_own
own-freed ar words count e = rw e

-- what an accepted call frees: no parameter past the count occurs, and no variable would pass the last of its kind
pub record IsFreed (ar : List ℕ) (count : ℕ) (d r : Diagram) : Type 0 where
  pub is : r ≡ relabel (renamed ar (freeing count)) d
  pub few : count ≤ parameter_count
  pub parameters : (t : ℕ) → first_parameter + count ≤ t → t < first_parameter + parameter_count → occurs ar t d ≡ false
  pub variables : (t : ℕ) → first_minimum ≤ t + count → t < first_minimum → occurs ar t d ≡ false
  pub means : meaning ar r ≡ rename (freeing count) (meaning ar d)
  pub room : Room count (meaning ar d)

-- a term is a constant, a parameter, a variable or a minimum variable
data Kinds (t : ℕ) : Type 0 where
  constant : t < first_parameter → Kinds t
  parameter : first_parameter ≤ t → t < first_parameter + parameter_count → Kinds t
  variable : first_variable ≤ t → t < first_minimum → Kinds t
  minimum : first_minimum ≤ t → Kinds t

kinds : (t : ℕ) → is_term t ≡ true → Kinds t
unfolding is_term is_constant is_parameter is_variable is_minimum
kinds t e = go (either (is_constant t) _ e)
  where
    last : Either (is_variable t) (is_minimum t) → Kinds t
    last (one q) = variable (leb-true first_variable t (and_left _ _ q)) (ltb-true t (first_variable + variable_count) (and_right (leb first_variable t) _ q))
    last (other q) = minimum (leb-true first_minimum t (and_left _ _ q))

    rest : Either (is_parameter t) (is_variable t || is_minimum t) → Kinds t
    rest (one q) = parameter (leb-true first_parameter t (and_left _ _ q)) (ltb-true t (first_parameter + parameter_count) (and_right (leb first_parameter t) _ q))
    rest (other q) = last (either (is_variable t) _ q)

    go : Either (is_constant t) (is_parameter t || (is_variable t || is_minimum t)) → Kinds t
    go (one q) = constant (ltb-true t first_parameter q)
    go (other q) = rest (either (is_parameter t) _ q)

terms-is_term : (ar : List ℕ) (d : Diagram) → Labels ar d → Terms (λ t. is_term t ≡ true) (meaning ar d)
unfolding meaning relabel atom_of
terms-is_term ar (leaf v) w = tt
terms-is_term ar (branch l x y) w = (label-terms ar l w.0, terms-is_term ar x w.1, terms-is_term ar y w.2)

each_two : (P Q R : ℕ → Type 0) → ((t : ℕ) → P t → Q t → R t) → (ts : List ℕ) → Each P ts → Each Q ts → Each R ts
each_two P Q R h [] x y = tt
each_two P Q R h (t ∷ ts) x y = (h t x.0 y.0, each_two P Q R h ts x.1 y.1)

terms-two : (P Q R : ℕ → Type 0) → ((t : ℕ) → P t → Q t → R t) → (d : Tree Atomic) → Terms P d → Terms Q d → Terms R d
terms-two P Q R h (leaf v) x y = tt
terms-two P Q R h (branch a t f) x y = (each_two P Q R h (args a) x.0 y.0, terms-two P Q R h t x.1 y.1, terms-two P Q R h f x.2 y.2)

module _ (ar : List ℕ) (count : ℕ) (d : Diagram) (few : count ≤ parameter_count)
    (parameters : (t : ℕ) → first_parameter + count ≤ t → t < first_parameter + parameter_count → occurs ar t d ≡ false)
    (variables : (t : ℕ) → first_minimum ≤ t + count → t < first_minimum → occurs ar t d ≡ false) where
  freeable : (t : ℕ) → is_term t ≡ true → occurs ar t d ≡ true → Freeable count t
  freeable t e o = (e, go (kinds t e) (cmp t (first_parameter + count)) (cmp (t + count) first_minimum))
    where
      go : Kinds t → Cmp t (first_parameter + count) → Cmp (t + count) first_minimum
          → (t < first_parameter + count) ⊎ ((first_variable ≤ t) × (t < first_minimum → t + count < first_minimum))
      go (constant h) x y = inl (omega arith)
      go (parameter h k) (below x) y = inl x
      go (parameter h k) (equal x) y = clash o (parameters t (omega arith) k)
      go (parameter h k) (above x) y = clash o (parameters t (omega arith) k)
      go (variable h k) x (below y) = inr (h, λ l. y)
      go (variable h k) x (equal y) = clash o (variables t (omega arith) k)
      go (variable h k) x (above y) = clash o (variables t (omega arith) k)
      go (minimum h) x y = inr (omega arith, λ l. absurd (omega arith))

  freeable-terms : Labels ar d → Terms (Freeable count) (meaning ar d)
  freeable-terms w = terms-two (λ t. is_term t ≡ true) (λ t. occurs ar t d ≡ true) (Freeable count) freeable (meaning ar d) (terms-is_term ar d w) (occur-terms ar d)

  pub meaning-freed : are_arities ar ≡ true → Labels ar d → meaning ar (relabel (renamed ar (freeing count)) d) ≡ rename (freeing count) (meaning ar d)
  meaning-freed good w = meaning-renamed (Freeable count) (freeing count) (freeing-increasing count few) ar good d w (freeable-terms w)

  pub room-freed : Labels ar d → Room count (meaning ar d)
  room-freed w = Terms-mono (Freeable count) (λ t. first_variable ≤ t → t < first_minimum → t + count < first_minimum) (λ t f. go t f.1) (meaning ar d) (freeable-terms w)
    where
      go : (t : ℕ) → (t < first_parameter + count) ⊎ ((first_variable ≤ t) × (t < first_minimum → t + count < first_minimum))
          → first_variable ≤ t → t < first_minimum → t + count < first_minimum
      go t (inl h) k l = absurd (omega arith)
      go t (inr h) k l = h.1 l

pub free-is : (ar words : List ℕ) (count out_length work_length : ℕ) → Accepted (IsFreed ar count (diagram_of words)) (free_outcome ar words count out_length work_length)
unfolding free_outcome free_own freed_outcome freed
free-is ar words count out_length work_length =
    accepted-cond (not (is_listing ar words)) Listing _ (λ l.
    accepted-cond (ltb out_length result_words || ltb work_length space_words) Buffer _ (λ b.
    accepted-cond (ltb parameter_count count) Range _ (λ c.
    accepted-cond (any_occurs ar (diagram_of words) (first_parameter + count) (parameter_count - count)) Unbound _ (λ p.
    accepted-cond (any_occurs ar (diagram_of words) (first_minimum - count) count) Variables _ (λ v.
    let few = ltb-false parameter_count count c in
    let ps : (t : ℕ) → first_parameter + count ≤ t → t < first_parameter + parameter_count → occurs ar t (diagram_of words) ≡ false =
    λ t h k. any-quiet ar (diagram_of words) (first_parameter + count) (parameter_count - count) p t h (omega arith) in
    let vs : (t : ℕ) → first_minimum ≤ t + count → t < first_minimum → occurs ar t (diagram_of words) ≡ false =
    λ t h k. any-quiet ar (diagram_of words) (first_minimum - count) count v t (omega arith) (omega arith) in
    let g = is-listing-good ar words (not-false _ l) in
    accepted-ok (record {
      is = refl;
      few = few;
      parameters = ps;
      variables = vs;
      means = meaning-freed ar count (diagram_of words) few ps vs g.arities (fine-every ar (diagram_of words) g.fine);
      room = room-freed ar count (diagram_of words) few ps vs (fine-every ar (diagram_of words) g.fine);
    }))))))

-- the number after freeing is the highest over all tuples of the number before it
pub freed-number : (ar : List ℕ) (count : ℕ) (d r : Diagram) → IsFreed ar count d r → (s : State) → Good s
    → (x : List ℕ → ℕ) → ((os : List ℕ) → Tuple s.size count os → Number s os (meaning ar d) (x os)) → Number s [] (meaning ar r) (max_tuples s.size count x)
freed-number ar count d r f s g x m = rw f.means (number-freed s g count (let h = f.few in omega arith) (meaning ar d) f.room x m)

pub freed-within : (ar : List ℕ) (count : ℕ) (d r : Diagram) → IsFreed ar count d r → Within count (meaning ar d) → Within 0 (meaning ar r)
freed-within ar count d r f w = rw f.means (within-freed count (let h = f.few in omega arith) (meaning ar d) w)

pub free-refused : (ar words : List ℕ) (count out_length work_length : ℕ) (r : Refusal) → free_outcome ar words count out_length work_length ≡ refused r
    → free_answer ar words count out_length work_length ≡ Err r
unfolding free_answer
free-refused ar words count out_length work_length r e = rw e

pub freed-refused : (ar words : List ℕ) (count work_length : ℕ) (out : List ℕ) (r : Refusal) → free_outcome ar words count (length out) work_length ≡ refused r
    → free_result ar words count work_length out ≡ out
unfolding free_result
freed-refused ar words count work_length out r e = rw e
