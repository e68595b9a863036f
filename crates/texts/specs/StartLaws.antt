-- Laws of where the model's listings begin behind whole lines: line by line; only the places count that the session has.
use Rattle.std.specs.Prelude.{◌≡◌, refl, Bool, true, false, cond, not, ◌&&◌, List, [], ◌∷◌, ℕ, ◌+◌, ◌*◌, ◌≤◌, leb, length}
use Rattle.std.proofs.Common.{ap, le-leb}
use Rattle.session.specs.Session.{Session}
use Rattle.session.specs.Texts.{Progress, after_line}
use Rattle.model_entry.specs.Starts.{Slot, reward, weight, truth, SlotStarts, has_listing, has_start, starts_behind}
use Rattle.texts.specs.Running.{fits}
use Rattle.texts.specs.Whole.{unwritten, whole_from, starts_from}

-- too few bytes are free
pub starts_none : (free room : ℕ) (p : Progress) (ls : List (List ℕ)) (at : SlotStarts) → leb (length p.bytes + free) room ≡ false → starts_from free room p ls at ≡ at
unfolding starts_from
starts_none free room p [] at e = refl
starts_none free room p (l ∷ ls) at e = rw e

-- so many bytes are free: the next line is answered
pub starts-next : (free room : ℕ) (p : Progress) (l : List ℕ) (ls : List (List ℕ)) (at : SlotStarts) → length p.bytes + free ≤ room
    → starts_from free room p (l ∷ ls) at
    ≡ cond (fits room (after_line p l).bytes) (starts_from free room (after_line p l) ls (starts_behind p.session (after_line p l).session at))
    (starts_behind p.session (after_line p l).session at)
unfolding starts_from
starts-next free room p l ls at h = rw (le-leb (length p.bytes + free) room h)

-- behind one line
places-by : (σ σ' : Session) (s : Slot) (at at' : SlotStarts) → (has_listing σ s ≡ true → at s ≡ at' s) → has_listing σ' s ≡ true
    → starts_behind σ σ' at s ≡ starts_behind σ σ' at' s
unfolding starts_behind
places-by σ σ' s at at' h e = rw e (go (has_listing σ s) h)
  where
    go : (b : Bool) → (b ≡ true → at s ≡ at' s) → cond (not b) (σ.rows * 3) (at s) ≡ cond (not b) (σ.rows * 3) (at' s)
    go true h = h refl
    go false h = refl

behind-alike : (σ σ' : Session) (s : Slot) (at at' : SlotStarts) → (has_start σ s ≡ true → at s ≡ at' s) → has_start σ' s ≡ true
    → starts_behind σ σ' at s ≡ starts_behind σ σ' at' s
unfolding starts_behind has_start
behind-alike σ σ' reward at at' h e = ap (cond (has_listing σ' reward && not (has_listing σ reward)) (σ.rows * 3)) (h refl)
behind-alike σ σ' (weight a v) at at' h e = places-by σ σ' (weight a v) at at' h e
behind-alike σ σ' (truth a v p) at at' h e = places-by σ σ' (truth a v p) at at' h e

-- only the places count that the session before has
pub starts-alike : (free room : ℕ) (q : Progress) (ls : List (List ℕ)) (s : Slot) (at at' : SlotStarts) → (has_start q.session s ≡ true → at s ≡ at' s)
    → has_start (whole_from free room q ls).progress.session s ≡ true → starts_from free room q ls at s ≡ starts_from free room q ls at' s
unfolding whole_from starts_from
starts-alike free room q [] s at at' h e = h e
starts-alike free room q (l ∷ ls) s at at' h e =
    go (leb (length q.bytes + free) room) (fits room (after_line q l).bytes) e (starts-alike free room (after_line q l) ls s (next at) (next at'))
  where
    next : SlotStarts → SlotStarts
    next = starts_behind q.session (after_line q l).session

    go : (a b : Bool)
        → has_start
        (cond a (cond b (whole_from free room (after_line q l) ls) (record { progress = unwritten q l; left = l ∷ ls; full = true })) (record { progress = q; left = l ∷ ls; full = false })
        ).progress.session s
        ≡ true
        → ((has_start (after_line q l).session s ≡ true → next at s ≡ next at' s) → has_start (whole_from free room (after_line q l) ls).progress.session s ≡ true
        → starts_from free room (after_line q l) ls (next at) s ≡ starts_from free room (after_line q l) ls (next at') s)
        → cond a (cond b (starts_from free room (after_line q l) ls (next at)) (next at)) at s
        ≡ cond a (cond b (starts_from free room (after_line q l) ls (next at')) (next at')) at' s
    go true true e ih = ih (behind-alike q.session (after_line q l).session s at at' h) e
    go true false e ih = behind-alike q.session (after_line q l).session s at at' h e
    go false b e ih = h e
