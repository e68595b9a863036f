-- Laws of the number of a literal: it stands for the literal.
use Rattle.std.specs.Prelude.{◌≡◌, refl, Bool, true, false, List, [], ◌∷◌, map, ℕ, ◌+◌, ◌*◌, ◌/◌, ◌%◌, eqb}
use Rattle.std.proofs.Common.{ap, ap₂, arith}
use Rattle.paths.specs.Paths.{Literal, Path, literals}
use Rattle.paths.specs.Inner.{bit, code_of, codes, literal_at, literals_in}

-- its half is the label, and it is odd where the test holds
pub half : (l : ℕ) (b : Bool) → (l * 2 + bit b) / 2 ≡ l
half l true = omega arith
half l false = omega arith

odd : (l : ℕ) (b : Bool) → eqb ((l * 2 + bit b) % 2) 1 ≡ b
odd l true = let e : (l * 2 + 1) % 2 ≡ 1 = omega arith in ap (λ (x : ℕ). eqb x 1) e
odd l false = let e : (l * 2 + 0) % 2 ≡ 0 = omega arith in ap (λ (x : ℕ). eqb x 1) e

literal-code : (l : Literal) → literal_at (code_of l) ≡ l
unfolding literal_at code_of
literal-code l = λ i. record { label = half l.label l.sign i; sign = odd l.label l.sign i }

literals-codes : (ls : List Literal) → map literal_at (map code_of ls) ≡ ls
literals-codes [] = refl
literals-codes (l ∷ ls) = ap₂ ◌∷◌ (literal-code l) (literals-codes ls)

pub codes-are : (p : Path) → literals_in (codes p) ≡ literals p
unfolding literals_in codes
codes-are p = literals-codes (literals p)
