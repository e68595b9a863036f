-- A session's numbers, the lines that it answered and whether one of them had bytes, as words, for a host that keeps them between two lines.
use Rattle.std.specs.Prelude.{Bool, true, false, cond, List, [], ◌∷◌, ℕ, eqb, get_or}
use Rattle.session.specs.declared.Part.{Part}
use Rattle.session.specs.declared.Part.TheVariants.{Model, Run}
use Rattle.memory.specs.declared.Numbers.{Numbers}

-- how many words they are
abbrev pub number_words : ℕ
number_words = 26

-- 0 for the model, 1 for the run
abbrev pub part_word : Part → ℕ
part_word Model = 0
part_word Run = 1

abbrev pub part_of : ℕ → Part
part_of v = cond (eqb v 0) Model Run

abbrev pub flag_word : Bool → ℕ
flag_word true = 1
flag_word false = 0

abbrev pub flag_of : ℕ → Bool
flag_of v = eqb v 1

-- the words in their order: part, single forms (both given), counts of names, head of the model, state with count and total of (did ..) lines, value, lines answered, whether one had bytes
abbrev pub saved_behind : ℕ → ℕ → ℕ → ℕ → Numbers → ℕ → ℕ → List ℕ
saved_behind part total discount reward n lines met =
    part
    ∷ total
    ∷ discount
    ∷ reward
    ∷ n.counts.constants
    ∷ n.counts.predicates
    ∷ n.counts.actions
    ∷ n.counts.parameters
    ∷ n.counts.variants
    ∷ n.counts.earlier
    ∷ n.head.total
    ∷ n.head.numerator
    ∷ n.head.denominator
    ∷ n.head.reward_start
    ∷ n.head.reward_words
    ∷ n.head.actions
    ∷ n.head.words
    ∷ n.live.objects
    ∷ n.live.facts
    ∷ n.live.count
    ∷ n.live.total
    ∷ n.held.rows
    ∷ n.held.steps
    ∷ n.held.power
    ∷ lines
    ∷ met
    ∷ []

unfoldable pub saved_words : Numbers → ℕ → Bool → List ℕ
saved_words n lines met =
    saved_behind (part_word n.part) (flag_word n.total) (flag_word n.discount) (flag_word n.reward) n lines (flag_word met)

-- the numbers that words say, the part given
abbrev pub numbers_in : Part → List ℕ → Numbers
numbers_in part s = record {
  part = part;
  total = flag_of (get_or s 1 0);
  discount = flag_of (get_or s 2 0);
  reward = flag_of (get_or s 3 0);
  counts = record { constants = get_or s 4 0; predicates = get_or s 5 0; actions = get_or s 6 0; parameters = get_or s 7 0; variants = get_or s 8 0; earlier = get_or s 9 0 };
  head = record {
    total = get_or s 10 0;
    numerator = get_or s 11 0;
    denominator = get_or s 12 0;
    reward_start = get_or s 13 0;
    reward_words = get_or s 14 0;
    actions = get_or s 15 0;
    words = get_or s 16 0;
  };
  live = record { objects = get_or s 17 0; facts = get_or s 18 0; count = get_or s 19 0; total = get_or s 20 0 };
  held = record { rows = get_or s 21 0; steps = get_or s 22 0; power = get_or s 23 0 };
}

unfoldable pub numbers_at : List ℕ → Numbers
numbers_at s = numbers_in (part_of (get_or s 0 0)) s

abbrev pub lines_at : List ℕ → ℕ
lines_at s = get_or s 24 0

abbrev pub met_at : List ℕ → Bool
met_at s = flag_of (get_or s 25 0)
