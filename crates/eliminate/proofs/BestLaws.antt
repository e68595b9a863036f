-- Laws of reading tables and of the highest entry, in the words of the code.
use mathlib.Core.Path.{◌≡◌, refl, ap, ◌∙◌}
use mathlib.Core.Bool.{Bool, true, false}
use mathlib.Core.List.{List}
use Prim.Native.Nat.{ℕ, ◌+◌, ◌*◌, ◌≤◌, ◌<◌, max}
use native.Mathlib.Omega.{arith}
use native.Mathlib.Numerals.{add-one}
use lib.ListN.{length, get_or}
use Rattle.label.specs.Limits.{term_end}
use Rattle.state.specs.Max.{max_to}
use Rattle.eliminate.specs.Masks.{names_of, env_of, place_of, decoded}
use Rattle.eliminate.specs.PlaceLaws.{place-less, decoded-length}
use Rattle.eliminate.specs.Calls.{Decodable, Placeable, tells, set_at, start_at, entry_in, look_in, best_in, Entering, Looking, Moved, Best}
use Rattle.eliminate.proofs.SetLaws.{moved_none, moved-decode}

-- ===== entry =====
pub enter-place : {heads space env : List ℕ} {n i : ℕ} → Entering heads space env n i → Placeable env n (get_or heads (i * 2) 0)
unfolding set_at
enter-place e = record { some = e.some; places = e.places; range = e.range; few = e.stored.few }

pub enter-room : {heads space env : List ℕ} {n i x : ℕ} → Entering heads space env n i → x ≡ place_of n (names_of (get_or heads (i * 2) 0)) (env_of env)
    → get_or heads (i * 2 + 1) 0 + x < length space
unfolding set_at start_at
enter-room {heads} {space} {env} {n} {i} {x} e p =
    let l = place-less n (names_of (set_at heads i)) (env_of env) e.range in
    let r = e.stored.room in
    omega arith

pub enter-is : (heads space env : List ℕ) (n i : ℕ) {x : ℕ} → x ≡ place_of n (names_of (get_or heads (i * 2) 0)) (env_of env)
    → get_or space (get_or heads (i * 2 + 1) 0 + x) 0 ≡ entry_in heads space env n i
unfolding entry_in
enter-is heads space env n i e = ap (λ x. get_or space (get_or heads (i * 2 + 1) 0 + x) 0) e

-- ===== look =====
module _ {ar heads space env : List ℕ} {n l high low : ℕ} (k : Looking ar heads space env n l high low) where
  pub look-high : Entering heads space env n high
  look-high = record { stored = k.high-stored; some = k.some; places = k.asked.places; range = k.range }

  pub look-low : Entering heads space env n low
  look-low = record { stored = k.low-stored; some = k.some; places = k.asked.places; range = k.range }

pub look-true : (ar facts heads space env : List ℕ) (n l high low : ℕ) {b : Bool} {x : ℕ} → b ≡ tells ar facts env l → b ≡ true → x ≡ entry_in heads space env n high
    → x ≡ look_in ar facts heads space n l high low env
unfolding look_in
look-true ar facts heads space env n l high low e t h = rw (← e, t) h

pub look-false : (ar facts heads space env : List ℕ) (n l high low : ℕ) {b : Bool} {x : ℕ} → b ≡ tells ar facts env l → b ≡ false → x ≡ entry_in heads space env n low
    → x ≡ look_in ar facts heads space n l high low env
unfolding look_in
look-false ar facts heads space env n l high low e t h = rw (← e, t) h

-- ===== best =====
pub record Seeking (ar facts heads space env₀ : List ℕ) (n l high low set m : ℕ) (env : List ℕ) (best c : ℕ) : Type 0 where
  pub looking : Looking ar heads space env₀ n l high low
  pub end : c ≤ m
  pub moved : Moved n set env₀ env
  pub is : best ≡ best_in ar facts heads space n l high low set c env₀

pub best-start : (ar facts heads space env : List ℕ) (n l high low set m : ℕ) → Looking ar heads space env n l high low
    → Seeking ar facts heads space env n l high low set m env 0 0
unfolding best_in max_to
best-start ar facts heads space env n l high low set m k = record { looking = k; end = omega arith; moved = moved_none n set env; is = refl }

module _ {ar facts heads space env₀ env : List ℕ} {n l high low set m best c : ℕ} (s : Seeking ar facts heads space env₀ n l high low set m env best c) where
  room : term_end ≤ length env
  room = let w = s.moved.kept in let p = s.looking.asked.places in omega arith

  pub best-decodable : Decodable env n
  best-decodable = record { some = s.looking.some; places = room }

  pub best-looking : {env' : List ℕ} → env' ≡ decoded n (names_of set) c env → Looking ar heads space env' n l high low
  best-looking e = record {
    asked = record { labelled = s.looking.asked.labelled; places = let r = room in let w = ap length e in let d = decoded-length n (names_of set) c env in omega arith };
    some = s.looking.some;
    range = (moved-decode c s.looking.some room s.moved e).range s.looking.range;
    high-stored = s.looking.high-stored;
    low-stored = s.looking.low-stored;
  }

  pub best-on : {env' : List ℕ} {x b : ℕ} → c < m → env' ≡ decoded n (names_of set) c env → x ≡ look_in ar facts heads space n l high low env' → b ≡ max best x
      → Seeking ar facts heads space env₀ n l high low set m env' b (c + 1)
  unfolding best_in max_to
  best-on {env'} {x} {b} h e t z = record {
    looking = s.looking;
    end = omega arith;
    moved = moved-decode c s.looking.some room s.moved e;
    is =
        let y : x ≡ look_in ar facts heads space n l high low (decoded n (names_of set) c env₀) = t ∙ ap (look_in ar facts heads space n l high low) (e ∙ s.moved.over c) in
        rw (add-one c, z, s.is, y);
  }

  pub best-end : m ≤ c → Best ar facts heads space n l high low set m env₀ best env
  best-end h = record {
    is = let e : c ≡ m = omega (arith, s.end) in rw (← e) s.is;
    moved = s.moved;
  }
