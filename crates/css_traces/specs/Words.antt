-- What the words of a trace's lines say.
use Rattle.std.specs.Prelude.{ℕ, ◌^◌, Bool, not, ◌&&◌, ◌||◌, ◌==◌, nat_lt, List, [], ◌∷◌, codes, drop, length, Option, Some, None, slice_index, slice_index_or, option_and_then, if◌then◌else◌}
use Rattle.std.specs.List.{list_all}
use Rattle.std.specs.Str.{bytes_eq}
use Rattle.std.specs.Str.Parse.{digits_value}
use Rattle.css_base.specs.declared.ending.FaultKind.TheVariants as kinds
use Rattle.css_base.specs.declared.ending.Stop.{Stop}
use Rattle.css_base.specs.declared.ending.Stop.TheVariants as stops
use Rattle.css_base.specs.declared.rule.Rule.{Rule}
use Rattle.css_base.specs.declared.rule.Rule.TheVariants as rules
use Rattle.css_traces.specs.Names.{is_digit, is_identifier}
use Rattle.css_traces.specs.declared.kind.Kind.{Kind}
use Rattle.css_traces.specs.declared.kind.Kind.TheVariants as heads
use Rattle.css_traces.specs.declared.kind.EntryKind.TheVariants as entries
use Rattle.css_traces.specs.declared.kind.TransferKind.TheVariants as transfers

-- One thing after the other, where there is the first.
infixl 10 ◌>>=◌
abbrev pub ◌>>=◌ : {A B : Type 0} → Option A → (A → Option B) → Option B
o >>= f = option_and_then f o

-- what stands beside a word in a table
abbrev pub value_in : {X : Type 0} → List (List ℕ × X) → (word : List ℕ) → Option X
value_in [] word = None
value_in (e ∷ table) word = if bytes_eq e.0 word then Some e.1 else value_in table word

-- the first words of lines
abbrev pub head_words : List (List ℕ × Kind)
head_words =
    (codes "trace", heads.Trace) ∷ (codes "board", heads.Board) ∷ (codes "channel", heads.Channel) ∷ (codes "end", heads.End)
    ∷ (codes "s", heads.Entry entries.Submit) ∷ (codes "t", heads.Entry entries.Take) ∷ (codes "f", heads.Entry entries.Finish)
    ∷ (codes "x", heads.Entry entries.Stop) ∷ (codes "b", heads.Entry entries.Back) ∷ (codes "w", heads.Entry entries.Starved)
    ∷ (codes "c", heads.Entry entries.Close) ∷ (codes "i", heads.Transfer transfers.Issue) ∷ (codes "o", heads.Transfer transfers.Out)
    ∷ (codes "d", heads.Transfer transfers.Finished) ∷ (codes "r", heads.Transfer transfers.Collected) ∷ []

abbrev rule_entry : List ℕ → Rule → List ℕ × Stop
rule_entry word rule = (word, stops.Rule rule)

-- the words for what stopped a task
abbrev pub stop_words : List (List ℕ × Stop)
stop_words =
    (codes "DivideByZero", stops.Fault kinds.DivideByZero) ∷ (codes "OutsideMemory", stops.Fault kinds.OutsideMemory)
    ∷ rule_entry (codes "X1") rules.StartTwice ∷ rule_entry (codes "X2") rules.FinishWithout ∷ rule_entry (codes "X3") rules.Dimension
    ∷ rule_entry (codes "X4") rules.TooLarge ∷ rule_entry (codes "X5") rules.DeadArgument ∷ rule_entry (codes "X6") rules.PartialOverlap
    ∷ rule_entry (codes "X7") rules.AliasedArguments ∷ rule_entry (codes "X8") rules.Unsynchronised ∷ rule_entry (codes "X9") rules.OutsideArguments
    ∷ rule_entry (codes "X10") rules.WroteInput ∷ rule_entry (codes "X11") rules.ReadUnwritten ∷ rule_entry (codes "X12") rules.LeftUnwritten
    ∷ rule_entry (codes "X13") rules.TaskStack ∷ rule_entry (codes "X14") rules.MainStack ∷ rule_entry (codes "X15") rules.Units
    ∷ rule_entry (codes "X16") rules.BadWait ∷ []

-- ---- numbers

-- Decimal digits, with no zero in front that isn't needed.
abbrev pub is_plain : List ℕ → Bool
is_plain word = nat_lt 0 (length word) && ((not (slice_index word 0 == 48) || length word == 1) && list_all is_digit word)

-- the number below a limit that a word writes
unfoldable pub number_below : (limit : ℕ) (word : List ℕ) → Option ℕ
number_below limit word = if is_plain word && nat_lt (digits_value 10 word) limit then Some (digits_value 10 word) else None

abbrev pub number_of : List ℕ → Option ℕ
number_of word = number_below (2 ^ 64) word

abbrev pub small_of : List ℕ → Option ℕ
small_of word = number_below (2 ^ 32) word

-- lines are counted from 1
abbrev pub from_one : Option ℕ → Option ℕ
from_one None = None
from_one (Some n) = if n == 0 then None else Some n

unfoldable pub line_number_of : List ℕ → Option ℕ
line_number_of word = from_one (small_of word)

unfoldable pub numbers_of : List (List ℕ) → Option (List ℕ)
numbers_of [] = Some []
numbers_of (word ∷ words) = do
  n ← number_of word
  ns ← numbers_of words
  Some (n ∷ ns)

-- ---- names

unfoldable pub name_of : List ℕ → Option (List ℕ)
name_of word = if is_identifier word then Some word else None

-- ---- the words behind the first

abbrev pub word_at : List (List ℕ) → ℕ → List ℕ
word_at words i = slice_index_or words i []

unfoldable pub only_number : List (List ℕ) → Option ℕ
only_number words = if length words == 1 then number_of (word_at words 0) else None

unfoldable pub only_small : List (List ℕ) → Option ℕ
only_small words = if length words == 1 then small_of (word_at words 0) else None

unfoldable pub small_and_number : List (List ℕ) → Option (ℕ × ℕ)
small_and_number words =
    if length words == 2 then (small_of (word_at words 0) >>= λ a. number_of (word_at words 1) >>= λ b. Some (a, b)) else None

unfoldable pub small_and_numbers : List (List ℕ) → Option (ℕ × List ℕ)
small_and_numbers words =
    if length words == 0 then None else (small_of (word_at words 0) >>= λ a. numbers_of (drop 1 words) >>= λ b. Some (a, b))

unfoldable pub number_and_name : List (List ℕ) → Option (ℕ × List ℕ)
number_and_name words =
    if length words == 2 then (number_of (word_at words 0) >>= λ a. name_of (word_at words 1) >>= λ b. Some (a, b)) else None
