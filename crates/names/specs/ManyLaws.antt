-- Laws of tables: their length, their places, one more at the end.
use Rattle.std.specs.Prelude.{◌≡◌, refl, [], ◌∷◌, ◌++◌, ℕ, zero, suc, ◌+◌, ◌<◌, length, get_or}
use Rattle.std.proofs.Common.{sym, ap, ◌∙◌, ⊎_elim, eq-or-lt_of_le, le_of_suc-le-suc, add-one, arith, length-append}
use Rattle.std.proofs.Math.ListN.{get_or-append}
use Rattle.std.proofs.lemmas.List.{get_or_at}
use Rattle.names.specs.Many.{many}

pub length-many : {A : Type 0} (f : ℕ → A) (n : ℕ) → length (many f n) ≡ n
unfolding many
length-many f zero = refl
length-many f (suc n) = rw (length-append, length-many f n, add-one)

pub get_d-many : {A : Type 0} (f : ℕ → A) (d : A) (n i : ℕ) → i < n → get_or (many f n) i d ≡ f i
unfolding many
get_d-many f d zero i h = absurd (omega arith)
get_d-many f d (suc n) i h =
    ⊎_elim (λ e. get_or_at (many f n) (f n) [] d i (length-many f n ∙ sym e) ∙ ap f (sym e))
    (λ l. get_or-append (many f n) _ d i (rw length-many l) ∙ get_d-many f d n i l)
    (eq-or-lt_of_le (le_of_suc-le-suc h))

-- tables agree where their places do
pub many-ext : {A : Type 0} (f g : ℕ → A) (n : ℕ) → ((i : ℕ) → i < n → f i ≡ g i) → many f n ≡ many g n
unfolding many
many-ext f g zero h = refl
many-ext f g (suc n) h = rw (many-ext f g n (λ i l. h i (omega arith)), h n (omega arith))

-- one more at the end
pub many_more : {A : Type 0} (f g : ℕ → A) (n : ℕ) (x : A) → ((i : ℕ) → i < n → g i ≡ f i) → g n ≡ x → many g (n + 1) ≡ many f n ++ (x ∷ [])
unfolding many
many_more f g n x h e = rw (add-one n, many-ext g f n h, e)
