-- The reader of each shape accepts exactly what words of that shape write, the line's closing bracket behind them.
use Rattle.std.specs.Prelude.{◌≡◌, refl, List, [], ◌∷◌, ◌++◌, false, ℕ, ◌+◌, ◌≤◌, length, get_or, take, drop}
use Rattle.std.proofs.Common.{sym, ap, ◌∙◌, subst, append_assoc, append-nil, arith, one-add, length-append}
use Rattle.words.specs.Bytes.{is_name_byte}
use Rattle.words.specs.Words.{IsName}
use Rattle.words.specs.WordLaws.{refused}
use Rattle.forms.specs.declared.Sort.{Sort}
use Rattle.forms.specs.declared.Sort.TheVariants.{Name, Variable, Parameter, Any, Number}
use Rattle.forms.specs.Form.{◌▹◌, byte, form, item_form, plain_form, diagram_form}
use Rattle.forms.specs.Tree.{Diagram, many_bytes, diagram_bytes, All, GoodDiagram, brackets}
use Rattle.forms.specs.Sound.{SoundFor, seq-byte, seq-form, start, name-sounds, number-sounds, variable-sounds, parameter-sounds, term-sounds, plain-sound, diagram-sound}
use Rattle.forms.specs.Complete.{CompleteFor, At, at-start, at_byte, at-form, space-stops, close-stops, name-completes, number-completes}
use Rattle.forms.specs.Complete.{variable-completes, parameter-completes, term-completes, plain-complete, diagram-complete}
use Rattle.text.specs.declared.Shape.{Shape}
use Rattle.text.specs.declared.Shape.TheVariants.{Nothing, One, Two, Listed, Paired, Drawn, Named, Headed, Never}
use Rattle.text.specs.Line.{most_open_brackets, variable_bytes, Item, item_bytes, GoodItem, ShapeWords, shape_bytes, GoodShape, shape_brackets}
use Rattle.text.specs.LineForm.{end_form, one_form, two_form, listed_form, paired_form, drawn_form, named_form, headed_form, shape_form}
use Rattle.std.specs.Prelude.{Option, Some}

-- from the reader to the words

-- words of the shape that are written by the l bytes, the line's closing bracket behind them
abbrev pub ShapeOf : Shape → List ℕ → Type 0
ShapeOf h l = (w : ShapeWords h) × GoodShape h w × (shape_brackets h w ≤ most_open_brackets) × (l ≡ shape_bytes h w ++ 41 ∷ [])

item-sound : (k : Sort) → SoundFor (item_bytes k) (GoodItem k) (item_form k)
item-sound Name = name-sounds
item-sound Variable = variable-sounds
item-sound Parameter = parameter-sounds
item-sound Any = term-sounds
item-sound Number = number-sounds

end-sound : (s : List ℕ) (n : ℕ) → end_form s ≡ Some n → take n s ≡ 41 ∷ []
unfolding end_form
end-sound s n e =
    let p1 = seq-byte s (Some 0) 41 (omega arith) e in
    let p0 = start s p1.1 in
    cc

one-shape : (x : List ℕ) → (([] ++ (32 ∷ [])) ++ x) ++ (41 ∷ []) ≡ 32 ∷ (x ++ 41 ∷ [])
one-shape x = refl

one-sound : (k : Sort) (s : List ℕ) (n : ℕ) → one_form k s ≡ Some n → (x : Item k) × GoodItem k x × (take n s ≡ 32 ∷ (item_bytes k x ++ 41 ∷ []))
unfolding one_form
one-sound k s n e =
    let p3 = seq-byte s _ 41 (omega arith) e in
    let p2 = seq-form s _ (item_form k) p3.1 in
    let p1 = seq-byte s (Some 0) 32 (omega arith) p2.1 in
    let p0 = start s p1.1 in
    let x = item-sound k (drop p2.0 s) p2.2 p2.3 in
    (x.0, x.1, cc (one-shape (item_bytes k x.0)))

two-shape : (a b : List ℕ) → (((([] ++ (32 ∷ [])) ++ a) ++ (32 ∷ [])) ++ b) ++ (41 ∷ []) ≡ 32 ∷ ((a ++ 32 ∷ b) ++ 41 ∷ [])
two-shape a b = simp append_assoc

two-sound : (k l : Sort) (s : List ℕ) (n : ℕ) → two_form k l s ≡ Some n
    → (x : Item k) × (y : Item l) × GoodItem k x × GoodItem l y × (take n s ≡ 32 ∷ ((item_bytes k x ++ 32 ∷ item_bytes l y) ++ 41 ∷ []))
unfolding two_form
two-sound k l s n e =
    let p5 = seq-byte s _ 41 (omega arith) e in
    let p4 = seq-form s _ (item_form l) p5.1 in
    let p3 = seq-byte s _ 32 (omega arith) p4.1 in
    let p2 = seq-form s _ (item_form k) p3.1 in
    let p1 = seq-byte s (Some 0) 32 (omega arith) p2.1 in
    let p0 = start s p1.1 in
    let x = item-sound k (drop p2.0 s) p2.2 p2.3 in
    let y = item-sound l (drop p4.0 s) p4.2 p4.3 in
    (x.0, y.0, x.1, y.1, cc (two-shape (item_bytes k x.0) (item_bytes l y.0)))

listed-sound : (k : Sort) (s : List ℕ) (n : ℕ) → listed_form k s ≡ Some n
    → (x : List ℕ) × (xs : List (Item k)) × IsName x × All (GoodItem k) xs × (take n s ≡ 32 ∷ ((x ++ many_bytes (item_bytes k) xs) ++ 41 ∷ []))
unfolding listed_form
listed-sound k s n e =
    let p2 = seq-form s _ (plain_form k) e in
    let p1 = seq-byte s (Some 0) 32 (omega arith) p2.1 in
    let p0 = start s p1.1 in
    let x = plain-sound (item_bytes k) (GoodItem k) k (item-sound k) (drop p2.0 s) p2.2 p2.3 in
    (x.0, x.1, x.2, x.3, cc (append_assoc x.0 (many_bytes (item_bytes k) x.1) (41 ∷ [])))

paired-shape : (a b v : List ℕ) → ((([] ++ (32 ∷ [])) ++ a) ++ (32 ∷ [])) ++ (b ++ (v ++ 41 ∷ [])) ≡ 32 ∷ ((a ++ 32 ∷ (b ++ v)) ++ 41 ∷ [])
paired-shape a b v = simp append_assoc

paired-sound : (k : Sort) (s : List ℕ) (n : ℕ) → paired_form k s ≡ Some n
    → (x y : List ℕ) × (xs : List (Item k)) × IsName x × IsName y × All (GoodItem k) xs
    × (take n s ≡ 32 ∷ ((x ++ 32 ∷ (y ++ many_bytes (item_bytes k) xs)) ++ 41 ∷ []))
unfolding paired_form
paired-sound k s n e =
    let p4 = seq-form s _ (plain_form k) e in
    let p3 = seq-byte s _ 32 (omega arith) p4.1 in
    let p2 = seq-form s _ (item_form Name) p3.1 in
    let p1 = seq-byte s (Some 0) 32 (omega arith) p2.1 in
    let p0 = start s p1.1 in
    let x = name-sounds (drop p2.0 s) p2.2 p2.3 in
    let y = plain-sound (item_bytes k) (GoodItem k) k (item-sound k) (drop p4.0 s) p4.2 p4.3 in
    (x.0, y.0, y.1, x.1, y.2, y.3, cc (paired-shape x.0 y.0 (many_bytes (item_bytes k) y.1)))

drawn-sound : (s : List ℕ) (n : ℕ) → drawn_form s ≡ Some n
    → (d : Diagram) × GoodDiagram d × (brackets d ≤ 63) × (take n s ≡ 32 ∷ (diagram_bytes d ++ 41 ∷ []))
unfolding drawn_form
drawn-sound s n e =
    let p3 = seq-byte s _ 41 (omega arith) e in
    let p2 = seq-form s _ (diagram_form (length s + 1) 1) p3.1 in
    let p1 = seq-byte s (Some 0) 32 (omega arith) p2.1 in
    let p0 = start s p1.1 in
    let d = diagram-sound (length s + 1) 1 (drop p2.0 s) p2.2 p2.3 in
    (d.0, d.1, d.2, cc (one-shape (diagram_bytes d.0)))

named-sound : (s : List ℕ) (n : ℕ) → named_form s ≡ Some n
    → (x : List ℕ) × (d : Diagram) × IsName x × GoodDiagram d × (brackets d ≤ 63) × (take n s ≡ 32 ∷ ((x ++ 32 ∷ diagram_bytes d) ++ 41 ∷ []))
unfolding named_form
named-sound s n e =
    let p5 = seq-byte s _ 41 (omega arith) e in
    let p4 = seq-form s _ (diagram_form (length s + 1) 1) p5.1 in
    let p3 = seq-byte s _ 32 (omega arith) p4.1 in
    let p2 = seq-form s _ (item_form Name) p3.1 in
    let p1 = seq-byte s (Some 0) 32 (omega arith) p2.1 in
    let p0 = start s p1.1 in
    let x = name-sounds (drop p2.0 s) p2.2 p2.3 in
    let d = diagram-sound (length s + 1) 1 (drop p4.0 s) p4.2 p4.3 in
    (x.0, d.0, x.1, d.1, d.2, cc (two-shape x.0 (diagram_bytes d.0)))

headed-shape : (a v d : List ℕ) → (((([] ++ (32 ∷ [])) ++ (40 ∷ [])) ++ (a ++ (v ++ 41 ∷ []))) ++ (32 ∷ []) ++ d) ++ (41 ∷ [])
    ≡ 32 ∷ 40 ∷ ((a ++ (v ++ 41 ∷ 32 ∷ d)) ++ 41 ∷ [])
headed-shape a v d = simp append_assoc

headed-sound : (s : List ℕ) (n : ℕ) → headed_form s ≡ Some n
    → (x : List ℕ) × (vs : List (List ℕ)) × (d : Diagram) × IsName x × All IsName vs × GoodDiagram d × (brackets d ≤ 63)
    × (take n s ≡ 32 ∷ 40 ∷ ((x ++ (many_bytes variable_bytes vs ++ 41 ∷ 32 ∷ diagram_bytes d)) ++ 41 ∷ []))
unfolding headed_form
headed-sound s n e =
    let p6 = seq-byte s _ 41 (omega arith) e in
    let p5 = seq-form s _ (diagram_form (length s + 1) 1) p6.1 in
    let p4 = seq-byte s _ 32 (omega arith) p5.1 in
    let p3 = seq-form s _ (plain_form Variable) p4.1 in
    let p2 = seq-byte s _ 40 (omega arith) p3.1 in
    let p1 = seq-byte s (Some 0) 32 (omega arith) p2.1 in
    let p0 = start s p1.1 in
    let x = plain-sound variable_bytes IsName Variable variable-sounds (drop p3.0 s) p3.2 p3.3 in
    let d = diagram-sound (length s + 1) 1 (drop p5.0 s) p5.2 p5.3 in
    (x.0, x.1, d.0, x.2, x.3, d.1, d.2, cc (headed-shape x.0 (many_bytes variable_bytes x.1) (diagram_bytes d.0)))

pub shape-sound : (h : Shape) (s : List ℕ) (n : ℕ) → shape_form h s ≡ Some n → ShapeOf h (take n s)
unfolding shape_form
shape-sound Nothing s n e = (tt, tt, omega arith, end-sound s n e)
shape-sound (One k) s n e = let x = one-sound k s n e in (x.0, x.1, omega arith, x.2)
shape-sound (Two k l) s n e = let x = two-sound k l s n e in ((x.0, x.1), (x.2, x.3), omega arith, x.4)
shape-sound (Listed k) s n e = let x = listed-sound k s n e in ((x.0, x.1), (x.2, x.3), omega arith, x.4)
shape-sound (Paired k) s n e = let x = paired-sound k s n e in ((x.0, x.1, x.2), (x.3, x.4, x.5), omega arith, x.6)
shape-sound Drawn s n e = let x = drawn-sound s n e in (x.0, x.1, omega (arith, x.2), x.3)
shape-sound Named s n e = let x = named-sound s n e in ((x.0, x.1), (x.2, x.3), omega (arith, x.4), x.5)
shape-sound Headed s n e = let x = headed-sound s n e in ((x.0, x.1, x.2), (x.3, x.4, x.5), omega (arith, x.6), x.7)
shape-sound Never s n e = absurd (refused e)

-- from the words to the reader

-- the reader takes all of the bytes l
abbrev Takes : (List ℕ → Option ℕ) → List ℕ → Type 0
Takes p l = p l ≡ Some (length l)

-- one form between a space and the closing bracket
one-raw : (p : List ℕ → Option ℕ) (x : List ℕ) → p (x ++ 41 ∷ []) ≡ Some (length x)
    → let s : List ℕ = 32 ∷ (x ++ 41 ∷ []) in Some 0 ▹ byte s 32 ▹ form s p ▹ byte s 41 ≡ Some (length s)
one-raw p x c = (at_byte (at-form p x (41 ∷ []) (at_byte (at-start (32 ∷ (x ++ 41 ∷ [])))) c)).took

two_back : (x y : List ℕ) → (((32 ∷ x) ++ (32 ∷ [])) ++ y) ++ (41 ∷ []) ≡ 32 ∷ (x ++ 32 ∷ (y ++ 41 ∷ []))
two_back x y = simp append_assoc

-- two forms
two-raw : (p q : List ℕ → Option ℕ) (x y : List ℕ) → p (x ++ 32 ∷ (y ++ 41 ∷ [])) ≡ Some (length x) → q (y ++ 41 ∷ []) ≡ Some (length y)
    → let s : List ℕ = 32 ∷ (x ++ 32 ∷ (y ++ 41 ∷ [])) in
    Some 0 ▹ byte s 32 ▹ form s p ▹ byte s 32 ▹ form s q ▹ byte s 41 ≡ Some (length s)
two-raw p q x y c d =
    let s : List ℕ = 32 ∷ (x ++ 32 ∷ (y ++ 41 ∷ [])) in
    let a3 = at_byte (at-form p x (32 ∷ (y ++ 41 ∷ [])) (at_byte (at-start s)) c) in
    (at_byte (at-form q y (41 ∷ []) a3 d)).took ∙ ap (λ l. Some (length l)) (two_back x y)

head-back : (x y : List ℕ) → (((32 ∷ 40 ∷ x) ++ (32 ∷ [])) ++ y) ++ (41 ∷ []) ≡ 32 ∷ 40 ∷ (x ++ 32 ∷ (y ++ 41 ∷ []))
head-back x y = simp append_assoc

-- two forms, the first behind a bracket
head-raw : (p q : List ℕ → Option ℕ) (x y : List ℕ) → p (x ++ 32 ∷ (y ++ 41 ∷ [])) ≡ Some (length x) → q (y ++ 41 ∷ []) ≡ Some (length y)
    → let s : List ℕ = 32 ∷ 40 ∷ (x ++ 32 ∷ (y ++ 41 ∷ [])) in
    Some 0 ▹ byte s 32 ▹ byte s 40 ▹ form s p ▹ byte s 32 ▹ form s q ▹ byte s 41 ≡ Some (length s)
head-raw p q x y c d =
    let s : List ℕ = 32 ∷ 40 ∷ (x ++ 32 ∷ (y ++ 41 ∷ [])) in
    let a3 = at_byte (at-form p x (32 ∷ (y ++ 41 ∷ [])) (at_byte (at_byte (at-start s))) c) in
    (at_byte (at-form q y (41 ∷ []) a3 d)).took ∙ ap (λ l. Some (length l)) (head-back x y)

pub item-complete : (k : Sort) → CompleteFor (item_bytes k) (GoodItem k) (item_form k)
item-complete Name = name-completes
item-complete Variable = variable-completes
item-complete Parameter = parameter-completes
item-complete Any = term-completes
item-complete Number = number-completes

one-complete : (k : Sort) (x : Item k) → GoodItem k x → Takes (one_form k) (32 ∷ (item_bytes k x ++ 41 ∷ []))
unfolding one_form
one-complete k x g = one-raw (item_form k) (item_bytes k x) (item-complete k x (41 ∷ []) g close-stops)

two-assoc : (x y : List ℕ) → 32 ∷ (x ++ 32 ∷ (y ++ 41 ∷ [])) ≡ 32 ∷ ((x ++ 32 ∷ y) ++ 41 ∷ [])
two-assoc x y = ap (λ l. 32 ∷ l) (sym (append_assoc x (32 ∷ y) (41 ∷ [])))

two-complete : (k l : Sort) (x : Item k) (y : Item l) → GoodItem k x → GoodItem l y
    → Takes (two_form k l) (32 ∷ ((item_bytes k x ++ 32 ∷ item_bytes l y) ++ 41 ∷ []))
unfolding two_form
two-complete k l x y g h =
    let X = item_bytes k x in
    let Y = item_bytes l y in
    subst (Takes (two_form k l)) (two-assoc X Y)
    (two-raw (item_form k) (item_form l) X Y (item-complete k x (32 ∷ (Y ++ 41 ∷ [])) g space-stops) (item-complete l y (41 ∷ []) h close-stops))

listed-raw : (k : Sort) (w : List ℕ) → Takes (plain_form k) w → Takes (listed_form k) (32 ∷ w)
unfolding listed_form ◌▹◌ byte form
listed-raw k w c = rw (c, one-add)

listed-complete : (k : Sort) (x : List ℕ) (xs : List (Item k)) → IsName x → All (GoodItem k) xs
    → Takes (listed_form k) (32 ∷ ((x ++ many_bytes (item_bytes k) xs) ++ 41 ∷ []))
listed-complete k x xs g h =
    let W = many_bytes (item_bytes k) xs in
    subst (λ l. Takes (listed_form k) (32 ∷ l)) (sym (append_assoc x W (41 ∷ [])))
    (listed-raw k (x ++ (W ++ 41 ∷ [])) (plain-complete (item_bytes k) (GoodItem k) k (item-complete k) x xs [] g h))

paired-back : (x w : List ℕ) → ((32 ∷ x) ++ (32 ∷ [])) ++ w ≡ 32 ∷ (x ++ 32 ∷ w)
paired-back x w = append_assoc (32 ∷ x) (32 ∷ []) w

-- two forms, nothing behind them
paired-raw : (p q : List ℕ → Option ℕ) (x w : List ℕ) → p (x ++ 32 ∷ w) ≡ Some (length x) → Takes q w
    → let s : List ℕ = 32 ∷ (x ++ 32 ∷ w) in Some 0 ▹ byte s 32 ▹ form s p ▹ byte s 32 ▹ form s q ≡ Some (length s)
paired-raw p q x w c d =
    let s : List ℕ = 32 ∷ (x ++ 32 ∷ w) in
    let a3 = at_byte (at-form p x (32 ∷ w) (at_byte (at-start s)) c) in
    let b3 : At s (Some 0 ▹ byte s 32 ▹ form s p ▹ byte s 32) ((32 ∷ x) ++ (32 ∷ [])) (w ++ []) =
    record { bytes = a3.bytes ∙ ap (λ l. ((32 ∷ x) ++ (32 ∷ [])) ++ l) (sym (append-nil w)); took = a3.took } in
    (at-form q w [] b3 (ap q (append-nil w) ∙ d)).took ∙ ap (λ l. Some (length l)) (paired-back x w)

paired-assoc : (x y v : List ℕ) → 32 ∷ (x ++ 32 ∷ (y ++ (v ++ 41 ∷ []))) ≡ 32 ∷ ((x ++ 32 ∷ (y ++ v)) ++ 41 ∷ [])
paired-assoc x y v = simp append_assoc

paired-complete : (k : Sort) (x y : List ℕ) (xs : List (Item k)) → IsName x → IsName y → All (GoodItem k) xs
    → Takes (paired_form k) (32 ∷ ((x ++ 32 ∷ (y ++ many_bytes (item_bytes k) xs)) ++ 41 ∷ []))
unfolding paired_form
paired-complete k x y xs g h i =
    let W = many_bytes (item_bytes k) xs in
    let Y : List ℕ = y ++ (W ++ 41 ∷ []) in
    subst (Takes (paired_form k)) (paired-assoc x y W)
    (paired-raw (item_form Name) (plain_form k) x Y (name-completes x (32 ∷ Y) g space-stops) (plain-complete (item_bytes k) (GoodItem k) k (item-complete k) y xs [] h i))

drawn-complete : (d : Diagram) → GoodDiagram d → brackets d ≤ 63 → Takes drawn_form (32 ∷ (diagram_bytes d ++ 41 ∷ []))
unfolding drawn_form
drawn-complete d g h =
    let D = diagram_bytes d in
    let s : List ℕ = 32 ∷ (D ++ 41 ∷ []) in
    one-raw (diagram_form (length s + 1) 1) D (diagram-complete d (length s + 1) 1 (41 ∷ []) g (omega arith) close-stops (omega arith))

named-complete : (x : List ℕ) (d : Diagram) → IsName x → GoodDiagram d → brackets d ≤ 63 → Takes named_form (32 ∷ ((x ++ 32 ∷ diagram_bytes d) ++ 41 ∷ []))
unfolding named_form
named-complete x d g h b =
    let D = diagram_bytes d in
    let s : List ℕ = 32 ∷ (x ++ 32 ∷ (D ++ 41 ∷ [])) in
    let l = length-append x (32 ∷ (D ++ 41 ∷ [])) in
    subst (Takes named_form) (two-assoc x D)
    (two-raw (item_form Name) (diagram_form (length s + 1) 1) x D
    (name-completes x (32 ∷ (D ++ 41 ∷ [])) g space-stops)
    (diagram-complete d (length s + 1) 1 (41 ∷ []) h (omega arith) close-stops (omega arith)))

headed-assoc : (x v d : List ℕ) → 32 ∷ 40 ∷ ((x ++ (v ++ 41 ∷ [])) ++ 32 ∷ (d ++ 41 ∷ [])) ≡ 32 ∷ 40 ∷ ((x ++ (v ++ 41 ∷ 32 ∷ d)) ++ 41 ∷ [])
headed-assoc x v d = simp append_assoc

headed-head : (x v q : List ℕ) → (x ++ (v ++ 41 ∷ [])) ++ q ≡ x ++ (v ++ 41 ∷ q)
headed-head x v q = append_assoc x (v ++ 41 ∷ []) q ∙ ap (λ l. x ++ l) (append_assoc v (41 ∷ []) q)

headed-complete : (x : List ℕ) (vs : List (List ℕ)) (d : Diagram) → IsName x → All IsName vs → GoodDiagram d → brackets d ≤ 63
    → Takes headed_form (32 ∷ 40 ∷ ((x ++ (many_bytes variable_bytes vs ++ 41 ∷ 32 ∷ diagram_bytes d)) ++ 41 ∷ []))
unfolding headed_form
headed-complete x vs d g h i b =
    let D = diagram_bytes d in
    let A = many_bytes variable_bytes vs in
    let X : List ℕ = x ++ (A ++ 41 ∷ []) in
    let q : List ℕ = 32 ∷ (D ++ 41 ∷ []) in
    let s : List ℕ = 32 ∷ 40 ∷ (X ++ q) in
    let l = length-append X q in
    subst (Takes headed_form) (headed-assoc x A D)
    (head-raw (plain_form Variable) (diagram_form (length s + 1) 1) X D
    (ap (plain_form Variable) (headed-head x A q) ∙ plain-complete variable_bytes IsName Variable variable-completes x vs q g h)
    (diagram-complete d (length s + 1) 1 (41 ∷ []) i (omega arith) close-stops (omega arith)))

end-complete : Takes end_form (41 ∷ [])
unfolding end_form
end-complete = (at_byte (at-start (41 ∷ []))).took

pub shape-complete : (h : Shape) (w : ShapeWords h) → GoodShape h w → shape_brackets h w ≤ most_open_brackets → Takes (shape_form h) (shape_bytes h w ++ 41 ∷ [])
unfolding shape_form
shape-complete Nothing w g h = end-complete
shape-complete (One k) x g h = one-complete k x g
shape-complete (Two k l) w g h = two-complete k l w.0 w.1 g.0 g.1
shape-complete (Listed k) w g h = listed-complete k w.0 w.1 g.0 g.1
shape-complete (Paired k) w g h = paired-complete k w.0 w.1 w.2 g.0 g.1 g.2
shape-complete Drawn d g h = drawn-complete d g (omega arith)
shape-complete Named w g h = named-complete w.0 w.1 g.0 g.1 (omega arith)
shape-complete Headed w g h = headed-complete w.0 w.1 w.2 g.0 g.1 g.2 (omega arith)
shape-complete Never w g h = absurd w

-- a key word is followed by a space or a bracket
pub shape-stop : (h : Shape) (w : ShapeWords h) → is_name_byte (get_or (shape_bytes h w ++ 41 ∷ []) 0 0) ≡ false
shape-stop Nothing w = close-stops
shape-stop (One k) w = space-stops
shape-stop (Two k l) w = space-stops
shape-stop (Listed k) w = space-stops
shape-stop (Paired k) w = space-stops
shape-stop Drawn w = space-stops
shape-stop Named w = space-stops
shape-stop Headed w = space-stops
shape-stop Never w = absurd w
