-- Laws of whole lines answered one after another: with the bytes of any answer free there is always room, with none a text is filled as far as it goes.
use Rattle.std.specs.Prelude.{◌≡◌, refl, Bool, true, false, cond, List, [], ◌∷◌, ℕ, suc, ◌+◌, ◌≤◌, length, leb}
use Rattle.std.proofs.Common.{sym, ap, ◌∙◌, arith, le-leb, leb-true}
use Rattle.session.specs.Texts.{Progress, after_line}
use Rattle.texts.specs.Inner.{filled_behind}
use Rattle.texts.specs.Running.{fits, stopped, fill_lines}
use Rattle.texts.specs.Whole.{unwritten, Whole, whole_from}

-- too few bytes are free
pub whole-none : (free room : ℕ) (p : Progress) (ls : List (List ℕ)) → leb (length p.bytes + free) room ≡ false
    → whole_from free room p ls ≡ record { progress = p; left = ls; full = false }
unfolding whole_from
whole-none free room p [] e = refl
whole-none free room p (l ∷ ls) e = rw e

-- so many bytes are free: the next line is answered
pub whole-next : (free room : ℕ) (p : Progress) (l : List ℕ) (ls : List (List ℕ)) → length p.bytes + free ≤ room
    → whole_from free room p (l ∷ ls)
    ≡ cond (fits room (after_line p l).bytes) (whole_from free room (after_line p l) ls) (record { progress = unwritten p l; left = l ∷ ls; full = true })
unfolding whole_from
whole-next free room p l ls h = rw (le-leb (length p.bytes + free) room h)

-- a text is filled: its whole lines are answered as far as there is room, then its rest
pub fill-whole : (room : ℕ) (p : Progress) (ls : List (List ℕ)) (rest : List ℕ) → length p.bytes ≤ room
    → fill_lines room p ls rest ≡ filled_behind room (whole_from 0 room p ls).full (whole_from 0 room p ls).progress rest
unfolding fill_lines whole_from
fill-whole room p [] rest h = refl
fill-whole room p (l ∷ ls) rest h =
    rw (le-leb (length p.bytes + 0) room (omega arith)) (go (fits room (after_line p l).bytes) refl (λ (g : length (after_line p l).bytes ≤ room). fill-whole room (after_line p l) ls rest g))
  where
    next : Bool → Whole
    next b = cond b (whole_from 0 room (after_line p l) ls) (record { progress = unwritten p l; left = l ∷ ls; full = true })

    go : (b : Bool) → fits room (after_line p l).bytes ≡ b
        → (length (after_line p l).bytes ≤ room
        → fill_lines room (after_line p l) ls rest ≡ filled_behind room (whole_from 0 room (after_line p l) ls).full (whole_from 0 room (after_line p l) ls).progress rest)
        → cond b (fill_lines room (after_line p l) ls rest) (stopped p) ≡ filled_behind room (next b).full (next b).progress rest
    go true e ih = ih (leb-true (length (after_line p l).bytes) room e)
    go false e ih = refl

-- and no whole line is left, but where an answer had no room
pub whole-all : (room : ℕ) (p : Progress) (ls : List (List ℕ)) → length p.bytes ≤ room → (whole_from 0 room p ls).full ≡ false → (whole_from 0 room p ls).left ≡ []
unfolding whole_from
whole-all room p [] h f = refl
whole-all room p (l ∷ ls) h f =
    go (fits room (after_line p l).bytes) refl (λ (g : length (after_line p l).bytes ≤ room). whole-all room (after_line p l) ls g)
    (ap (λ (x : Whole). x.full) (sym step) ∙ f) (ap (λ (x : Whole). x.left) step)
  where
    next : Bool → Whole
    next b = cond b (whole_from 0 room (after_line p l) ls) (record { progress = unwritten p l; left = l ∷ ls; full = true })

    step : whole_from 0 room p (l ∷ ls) ≡ next (fits room (after_line p l).bytes)
    step = whole-next 0 room p l ls (omega arith)

    go : (b : Bool) → fits room (after_line p l).bytes ≡ b
        → (length (after_line p l).bytes ≤ room → (whole_from 0 room (after_line p l) ls).full ≡ false → (whole_from 0 room (after_line p l) ls).left ≡ [])
        → (next b).full ≡ false → {x : List (List ℕ)} → x ≡ (next b).left → x ≡ []
    go true e ih f g = g ∙ ih (leb-true (length (after_line p l).bytes) room e) f
    go false e ih f g = absurd (let z : ◌≡◌ {A = ℕ} 0 1 = cc in omega arith)

-- where so many bytes are free, a line is answered if there is one
whole-left : (free room : ℕ) (p : Progress) (ls : List (List ℕ)) → length (whole_from free room p ls).left ≤ length ls
unfolding whole_from
whole-left free room p [] = omega arith
whole-left free room p (l ∷ ls) = go (leb (length p.bytes + free) room) (fits room (after_line p l).bytes) (whole-left free room (after_line p l) ls)
  where
    go : (a b : Bool) → length (whole_from free room (after_line p l) ls).left ≤ length ls
        → length (cond a (cond b (whole_from free room (after_line p l) ls) (record { progress = unwritten p l; left = l ∷ ls; full = true }))
        (record { progress = p; left = l ∷ ls; full = false })).left
        ≤ suc (length ls)
    go true true ih = omega arith
    go true false ih = omega arith
    go false b ih = omega arith

pub whole-some : (free room : ℕ) (p : Progress) (l : List ℕ) (ls : List (List ℕ)) → length p.bytes + free ≤ room → (whole_from free room p (l ∷ ls)).full ≡ false
    → length (whole_from free room p (l ∷ ls)).left ≤ length ls
whole-some free room p l ls h f =
    go (fits room (after_line p l).bytes) (ap (λ (x : Whole). x.full) (sym step) ∙ f) (ap (λ (x : Whole). length x.left) step)
  where
    next : Bool → Whole
    next b = cond b (whole_from free room (after_line p l) ls) (record { progress = unwritten p l; left = l ∷ ls; full = true })

    step : whole_from free room p (l ∷ ls) ≡ next (fits room (after_line p l).bytes)
    step = whole-next free room p l ls h

    go : (b : Bool) → (next b).full ≡ false → {n : ℕ} → n ≡ length (next b).left → n ≤ length ls
    go true f e = omega (arith, whole-left free room (after_line p l) ls)
    go false f e = absurd (let z : ◌≡◌ {A = ℕ} 0 1 = cc in omega arith)
