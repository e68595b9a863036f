-- Every session that a text reaches has names for its keys, each once, and they cover its value diagram (document 02, L2).
use Rattle.std.specs.Prelude.{List, [], ◌∷◌, map, ℕ, suc, ◌≤◌, length}
use Rattle.std.proofs.Common.{arith}
use Rattle.std.proofs.lemmas.List.{length-map}
use Rattle.label.specs.Labels.{predicate_of, unpacked, terms_of}
use Rattle.diagram.specs.Diagram.{Diagram, leaf, branch, EveryLabel}
use Rattle.rename.specs.Relabelling.{Terms}
use Rattle.state.specs.State.{atom_of}
use Rattle.state.proofs.ValueLaws.{Each-mono}
use Rattle.regression.proofs.FreeCallLaws.{each_in}
use Rattle.words.specs.Keys.{name_of}
use Rattle.session.specs.Session.{Session, opening}
use Rattle.session.specs.Replies.{reply}
use Rattle.session.specs.Texts.{has_bytes, Progress, replied, after_line, after_lines, after_rest, beginning, lines_of, text_read}
use Rattle.session_laws.proofs.TextLaws.{Sound, reply-sound, text-sound}
use Rattle.diagram_form.specs.Form.{tables_of}
use Rattle.declared.specs.Inner.{Constant, Declares, DeclaredSession}
use Rattle.declared.specs.Declares.{Named}
use Rattle.declared.proofs.NameLaws.{no_keys, keys_of, tables-declared}
use Rattle.declared.proofs.LineLaws.{reply-declared}

-- ===== What is declared is what the round trip asks =====

module _ (ar : List ℕ) (c p n m : ℕ) (constants : c ≤ n) (predicates : p ≤ m) where
  covers-constants : (d : Diagram) → Declares ar c p d → Terms ar (Constant n) d
  unfolding atom_of
  covers-constants (leaf v) w = tt
  covers-constants (branch l t f) w =
      let more = Each-mono (Constant c) (Constant n) (λ t h i. let j = h i in omega arith) (terms_of ar (unpacked l)) w.0.constants in
      (each_in (Constant n) ar l more, covers-constants t w.1, covers-constants f w.2)

  covers-predicates : (d : Diagram) → Declares ar c p d → EveryLabel (λ l. predicate_of l ≤ m) d
  covers-predicates (leaf v) w = tt
  covers-predicates (branch l t f) w = (omega (arith, w.0.predicate), covers-predicates t w.1, covers-predicates f w.2)

pub session-named : (σ : Session) → DeclaredSession σ → Named σ
unfolding tables_of
session-named σ h =
    let ar = σ.model.arities in
    let cs = σ.names.constants in
    let ps = σ.names.predicates in
    let c = length-map cs name_of in
    let p = length-map ps name_of in
    record {
      keys = keys_of σ.names h.constants h.predicates;
      declared = tables-declared σ.names h.constants h.predicates;
      covers = record {
        constants = covers-constants ar (length cs) (length ps) (length (map name_of cs)) (length (map name_of ps)) (omega arith) (omega arith) σ.held.diagram h.in-value;
        predicates = covers-predicates ar (length cs) (length ps) (length (map name_of cs)) (length (map name_of ps)) (omega arith) (omega arith) σ.held.diagram h.in-value;
      };
    }

-- ===== Along the lines of a text =====

opening-declared : DeclaredSession opening
unfolding opening
opening-declared = record { constants = no_keys; predicates = no_keys; in-reward = tt; in-actions = tt; in-value = tt }

lines-declared : (p : Progress) → Sound p.session → DeclaredSession p.session → (ls : List (List ℕ)) → DeclaredSession (after_lines p ls).session
unfolding after_lines after_line
lines-declared p s h [] = h
lines-declared p s h (l ∷ ls) =
    let number = suc p.lines in
    lines-declared (replied p (has_bytes l) (reply p.session number l)) (reply-sound p.session s number l) (reply-declared p.session s.good h number l) ls

-- bytes behind the last line feed leave the session as it was
rest-declared : (p : Progress) (s : List ℕ) → DeclaredSession p.session → DeclaredSession (after_rest p s).session
unfolding after_rest
rest-declared p [] h = h
rest-declared p (b ∷ s) h = h

pub read-declared : (s : List ℕ) → DeclaredSession (text_read s).session
unfolding text_read beginning after_lines
read-declared s =
    rest-declared (after_lines beginning (lines_of s).whole) (lines_of s).rest (lines-declared beginning (text-sound []) opening-declared (lines_of s).whole)

-- the session that any text leads to
pub text-declared : (s : List ℕ) → Named (text_read s).session
text-declared s = session-named (text_read s).session (read-declared s)
