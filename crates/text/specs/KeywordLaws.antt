-- Each kind of line has its own key word, and the key of a key word gives the kind.
use Rattle.std.specs.Prelude.{◌≡◌, refl, List, [], ◌∷◌, true, false, cond, eqb}
use Rattle.std.proofs.Common.{true≢false, arith, eqb-true}
use Rattle.basics.specs.Tests.{Flag, is_true, is_false, flag, and_left, and_right}
use Rattle.words.specs.Bytes.{is_name_byte, is_letter, is_digit, run}
use Rattle.words.specs.Words.{IsName}
use Rattle.words.specs.Keys.{little, key_of}
use Rattle.words.specs.declared.Key.{Key}
use Rattle.text.specs.declared.Kind.{Kind}
use Rattle.text.specs.declared.Kind.TheVariants as K
use Rattle.text.specs.Inner.{kinds}
use Rattle.text.specs.Line.{is_bad, keyword, Words}
use Rattle.text.specs.LineForm.{is_key, kind_in, kind_of}

-- each key word is a name, and its key gives its kind
keyword-right : (k : Kind) → Words k → IsName (keyword k) × (kind_of (key_of (keyword k)) ≡ k)
unfolding is_letter is_name_byte is_digit run kind_of key_of little is_key
keyword-right K.Constant w = ((refl, refl, omega arith), refl)
keyword-right K.Predicate w = ((refl, refl, omega arith), refl)
keyword-right K.Total w = ((refl, refl, omega arith), refl)
keyword-right K.Discount w = ((refl, refl, omega arith), refl)
keyword-right K.Reward w = ((refl, refl, omega arith), refl)
keyword-right K.Action w = ((refl, refl, omega arith), refl)
keyword-right K.Variant w = ((refl, refl, omega arith), refl)
keyword-right K.Becomes w = ((refl, refl, omega arith), refl)
keyword-right K.Start w = ((refl, refl, omega arith), refl)
keyword-right K.Objects w = ((refl, refl, omega arith), refl)
keyword-right K.Is w = ((refl, refl, omega arith), refl)
keyword-right K.True w = ((refl, refl, omega arith), refl)
keyword-right K.Value w = ((refl, refl, omega arith), refl)
keyword-right K.Backup w = ((refl, refl, omega arith), refl)
keyword-right K.Cut w = ((refl, refl, omega arith), refl)
keyword-right K.Show w = ((refl, refl, omega arith), refl)
keyword-right K.Reduce w = ((refl, refl, omega arith), refl)
keyword-right K.Text w = ((refl, refl, omega arith), refl)
keyword-right K.Best w = ((refl, refl, omega arith), refl)
keyword-right K.Count w = ((refl, refl, omega arith), refl)
keyword-right K.Did w = ((refl, refl, omega arith), refl)
keyword-right K.Bad w = absurd w

pub keyword-name : (k : Kind) → Words k → IsName (keyword k)
keyword-name k w = (keyword-right k w).0

pub keyword-kind : (k : Kind) → Words k → kind_of (key_of (keyword k)) ≡ k
keyword-kind k w = (keyword-right k w).1

key-eq : (x y : Key) → is_key x y ≡ true → x ≡ y
unfolding is_key
key-eq x y h =
    let p : x.a ≡ y.a = eqb-true x.a y.a (and_left (eqb x.a y.a) (eqb x.b y.b) h) in
    let q : x.b ≡ y.b = eqb-true x.b y.b (and_right (eqb x.a y.a) (eqb x.b y.b) h) in
    λ i. record { a = p i; b = q i }

kind-in : (ks : List Kind) (k : Key) → is_bad (kind_in ks k) ≡ false → k ≡ key_of (keyword (kind_in ks k))
unfolding is_bad
kind-in [] k e = absurd (true≢false e)
kind-in (x ∷ ks) k e = go (flag (is_key k (key_of (keyword x)))) (kind-in ks k) e
  where
    go : Flag (is_key k (key_of (keyword x)))
        → (is_bad (kind_in ks k) ≡ false → k ≡ key_of (keyword (kind_in ks k)))
        → is_bad (cond (is_key k (key_of (keyword x))) x (kind_in ks k)) ≡ false
        → k ≡ key_of (keyword (cond (is_key k (key_of (keyword x))) x (kind_in ks k)))
    go (is_true h) ih e = rw h (key-eq k (key_of (keyword x)) h)
    go (is_false h) ih e = rw h (ih (rw h at e))

-- a key with a kind is the key of its key word
pub kind-key : (k : Key) → is_bad (kind_of k) ≡ false → k ≡ key_of (keyword (kind_of k))
unfolding kind_of
kind-key k e = kind-in kinds k e
