-- The text of a trace, line by line.
use Rattle.std.specs.Prelude.{ℕ, ◌+◌, ◌<◌, ◌≤◌, ◌^◌, IsTrue, List, [], ◌∷◌, ◌++◌, codes, map}
use Rattle.std.specs.List.{flat_map, join_with_byte, AllByRecursion}
use Rattle.std.specs.Fmt.{decimal}
use Rattle.css_base.specs.declared.channel.ChannelLine.{ChannelLine}
use Rattle.css_base.specs.declared.channel.ChannelLine.TheVariants as transfers
use Rattle.css_base.specs.declared.ending.Stop.{Stop}
use Rattle.css_base.specs.declared.ending.Stop.TheVariants as stops
use Rattle.css_base.specs.declared.rule.Rule.{Rule}
use Rattle.css_base.specs.declared.rule.Rule.TheVariants as rules
use Rattle.css_base.specs.Labels.{fault_label}
use Rattle.css_traces.specs.Names.{is_identifier}
use Rattle.css_traces.specs.declared.board_line.BoardLine.{BoardLine}
use Rattle.css_traces.specs.declared.board_line.BoardLine.TheVariants as entries
use Rattle.css_traces.specs.declared.traces.Traces.{Traces}
use Rattle.css_traces.specs.declared.traces.Generation.{Generation}
use Rattle.css_traces.specs.declared.traces.ChannelPart.{ChannelPart}
use Rattle.css_traces.specs.declared.trace_line.TraceLine.{TraceLine}
use Rattle.css_traces.specs.declared.trace_line.TraceLine.TheVariants as lines

-- ---- the words of a line

abbrev pub rule_word : Rule → List ℕ
rule_word rules.StartTwice = codes "X1"
rule_word rules.FinishWithout = codes "X2"
rule_word rules.Dimension = codes "X3"
rule_word rules.TooLarge = codes "X4"
rule_word rules.DeadArgument = codes "X5"
rule_word rules.PartialOverlap = codes "X6"
rule_word rules.AliasedArguments = codes "X7"
rule_word rules.Unsynchronised = codes "X8"
rule_word rules.OutsideArguments = codes "X9"
rule_word rules.WroteInput = codes "X10"
rule_word rules.ReadUnwritten = codes "X11"
rule_word rules.LeftUnwritten = codes "X12"
rule_word rules.TaskStack = codes "X13"
rule_word rules.MainStack = codes "X14"
rule_word rules.Units = codes "X15"
rule_word rules.BadWait = codes "X16"

-- a fault's name, or a rule's number
abbrev pub stop_word : Stop → List ℕ
stop_word (stops.Fault kind) = fault_label kind
stop_word (stops.Rule rule) = rule_word rule

abbrev pub board_words : BoardLine → List (List ℕ)
board_words (entries.Submit number name) = codes "s" ∷ decimal number ∷ name ∷ []
board_words (entries.Take worker numbers) = codes "t" ∷ decimal worker ∷ map decimal numbers
board_words (entries.Finish worker number) = codes "f" ∷ decimal worker ∷ decimal number ∷ []
board_words (entries.Stop worker number line stop) = codes "x" ∷ decimal worker ∷ decimal number ∷ decimal line ∷ stop_word stop ∷ []
board_words (entries.Back worker numbers) = codes "b" ∷ decimal worker ∷ map decimal numbers
board_words (entries.Starved worker) = codes "w" ∷ decimal worker ∷ []
board_words entries.Close = codes "c" ∷ []

abbrev pub channel_words : ChannelLine → List (List ℕ)
channel_words (transfers.Issue tag length) = codes "i" ∷ decimal tag ∷ decimal length ∷ []
channel_words (transfers.Out tag) = codes "o" ∷ decimal tag ∷ []
channel_words (transfers.Finished tag) = codes "d" ∷ decimal tag ∷ []
channel_words (transfers.Collected tag) = codes "r" ∷ decimal tag ∷ []

abbrev pub line_words : TraceLine → List (List ℕ)
line_words lines.Trace = codes "trace" ∷ []
line_words (lines.Board number) = codes "board" ∷ decimal number ∷ []
line_words (lines.Entry entry) = board_words entry
line_words (lines.Channel worker) = codes "channel" ∷ decimal worker ∷ []
line_words (lines.Transfer transfer) = channel_words transfer
line_words lines.End = codes "end" ∷ []

-- One space parts the words of a line, and a newline ends it.
abbrev pub line_text : TraceLine → List ℕ
line_text line = join_with_byte 32 (line_words line) ++ codes "\n"

-- ---- the lines of a trace

abbrev pub part_lines : ChannelPart → List TraceLine
part_lines part = lines.Channel part.worker ∷ map lines.Transfer part.entries

abbrev pub generation_lines : (number : ℕ) → Generation → List TraceLine
generation_lines number g = lines.Board number ∷ map lines.Entry g.board ++ flat_map part_lines g.channels

-- Generations are numbered in order.
abbrev pub lines_from : (number : ℕ) → List Generation → List TraceLine
lines_from number [] = []
lines_from number (g ∷ generations) = generation_lines number g ++ lines_from (number + 1) generations

abbrev pub trace_lines : Traces → List TraceLine
trace_lines t = lines.Trace ∷ lines_from 0 t.generations ++ lines.End ∷ []

abbrev pub trace_text : Traces → List ℕ
trace_text t = flat_map line_text (trace_lines t)

-- ---- the ranges of numbers

abbrev pub EntryFits : BoardLine → Type 0
EntryFits (entries.Submit number name) = (number < 2 ^ 64) × IsTrue (is_identifier name)
EntryFits (entries.Take worker numbers) = (worker < 2 ^ 32) × AllByRecursion (λ n. n < 2 ^ 64) numbers
EntryFits (entries.Finish worker number) = (worker < 2 ^ 32) × (number < 2 ^ 64)
EntryFits (entries.Stop worker number line stop) = (worker < 2 ^ 32) × (number < 2 ^ 64) × (1 ≤ line) × (line < 2 ^ 32)
EntryFits (entries.Back worker numbers) = (worker < 2 ^ 32) × AllByRecursion (λ n. n < 2 ^ 64) numbers
EntryFits (entries.Starved worker) = worker < 2 ^ 32
EntryFits entries.Close = Unit {0}

abbrev pub TransferFits : ChannelLine → Type 0
TransferFits (transfers.Issue tag length) = (tag < 2 ^ 32) × (length < 2 ^ 64)
TransferFits (transfers.Out tag) = tag < 2 ^ 32
TransferFits (transfers.Finished tag) = tag < 2 ^ 32
TransferFits (transfers.Collected tag) = tag < 2 ^ 32

abbrev pub LineFits : TraceLine → Type 0
LineFits lines.Trace = Unit {0}
LineFits (lines.Board number) = number < 2 ^ 64
LineFits (lines.Entry entry) = EntryFits entry
LineFits (lines.Channel worker) = worker < 2 ^ 32
LineFits (lines.Transfer transfer) = TransferFits transfer
LineFits lines.End = Unit {0}

-- Each number is one of its type, and each name an identifier.
abbrev pub Fits : Traces → Type 0
Fits t = AllByRecursion LineFits (trace_lines t)
