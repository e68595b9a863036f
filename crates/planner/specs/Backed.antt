-- What a backup requires and answers (document 01, section 'Backup').
use Rattle.std.specs.Prelude.{◌≡◌, ◌||◌, cond, List, ℕ, suc, ◌*◌, ◌^◌, ◌≤◌, length, eqb, ltb}
use Rattle.refusal.specs.Outcome.{Outcome, ok, refused, Accepted}
use Rattle.diagram.specs.Diagram.{Diagram}
use Rattle.diagram.specs.Rows.{rows}
use Rattle.diagram.specs.Listing.{Good}
use Rattle.regression.specs.RegressCall.{written_as}
use Rattle.mdp.specs.Model.{Model, scale, most_total, most_denominator}
use Rattle.mdp.specs.Backup.{highest_scale, most_steps, backup}
use Rattle.model.specs.declared.Head.{Head}
use Rattle.refusal.specs.declared.Refusal.{Refusal}
use Rattle.std.specs.Prelude.{Err, None, Ok, Option, Result, Some}

-- S = W · D, of the numbers of a model
abbrev pub scale_of : Head → ℕ
scale_of h = h.total * h.denominator

-- S^(k+1), or that it is above 10^18, or that k is 10^18
unfoldable pub power_as : ℕ → ℕ → Option ℕ
power_as s k = cond (ltb highest_scale (s ^ suc k) || eqb k most_steps) None (Some (s ^ suc k))

-- a model's numbers are in their ranges
pub record Numbers (h : Head) : Type 0 where
  pub total-some : 1 ≤ h.total
  pub total-few : h.total ≤ most_total
  pub denominator-some : 1 ≤ h.denominator
  pub denominator-few : h.denominator ≤ most_denominator

-- k, and S^k
pub record Powered (h : Head) (k power : ℕ) : Type 0 where
  pub steps : k ≤ most_steps
  pub is : power ≡ scale_of h ^ k

abbrev pub backed_as : ℕ → Outcome Diagram → Result (ℕ × ℕ) Refusal
backed_as power (ok d) = Ok ((length (rows d)), power)
backed_as power (refused r) = Err r

-- the answer of the calls of a backup, with S^(k+1), as that of the backup
abbrev pub backed_step : ℕ → Result ℕ Refusal → Result (ℕ × ℕ) Refusal
backed_step power (Ok n) = Ok (n, power)
backed_step power (Err r) = Err r

-- the answer is the new value's rows and S^(k+1), and the buffer has its listing; a refusal changes nothing. What is accepted has a listing.
pub record BackedUp (ar : List ℕ) (m : Model) (k : ℕ) (d : Diagram) (r : Result (ℕ × ℕ) Refusal) (value value' : List ℕ) : Type 0 where
  pub answer : r ≡ backed_as (scale m ^ suc k) (backup m k d)
  pub words : value' ≡ written_as (backup m k d) value
  pub good : Accepted (Good ar) (backup m k d)
