-- Reading a trace's lines: what a line says, and what is read of the trace so far.
use Rattle.std.specs.Prelude.{◌≡◌, ℕ, ◌+◌, ◌==◌, List, [], ◌∷◌, ◌++◌, drop, length, Option, Some, None, Result, Ok, Err, if◌then◌else◌}
use Rattle.std.specs.List.{slice_split, flat_map, AllByRecursion}
use Rattle.css_base.specs.declared.channel.ChannelLine.{ChannelLine}
use Rattle.css_base.specs.declared.channel.ChannelLine.TheVariants as channel
use Rattle.css_traces.specs.declared.board_line.BoardLine.{BoardLine}
use Rattle.css_traces.specs.declared.board_line.BoardLine.TheVariants as board
use Rattle.css_traces.specs.declared.draft.Draft.{Draft}
use Rattle.css_traces.specs.declared.draft.Draft.TheVariants.{Start, Whole, InBoard, InChannel, Ended}
use Rattle.css_traces.specs.declared.draft.LastGeneration.{LastGeneration}
use Rattle.css_traces.specs.declared.fault.ReadError.{ReadError}
use Rattle.css_traces.specs.declared.fault.ReadError.TheVariants as errors
use Rattle.css_traces.specs.declared.kind.Kind.{Kind}
use Rattle.css_traces.specs.declared.kind.Kind.TheVariants as heads
use Rattle.css_traces.specs.declared.kind.EntryKind.{EntryKind}
use Rattle.css_traces.specs.declared.kind.EntryKind.TheVariants as entries
use Rattle.css_traces.specs.declared.kind.TransferKind.{TransferKind}
use Rattle.css_traces.specs.declared.kind.TransferKind.TheVariants as transfers
use Rattle.css_traces.specs.declared.fault.TraceFault.{TraceFault}
use Rattle.css_traces.specs.declared.fault.TraceFault.TheVariants as faults
use Rattle.css_traces.specs.declared.traces.Generation.{Generation}
use Rattle.css_traces.specs.declared.traces.Traces.{Traces}
use Rattle.css_traces.specs.declared.trace_line.TraceLine.{TraceLine}
use Rattle.css_traces.specs.declared.trace_line.TraceLine.TheVariants as lines
use Rattle.css_traces.specs.Lines.{line_text, LineFits}
use Rattle.css_traces.specs.Words.{◌>>=◌, value_in, head_words, stop_words, small_of, number_of, line_number_of, word_at, only_number, only_small, small_and_number, small_and_numbers, number_and_name}

-- ---- answers

-- A call gives what is read, unless memory ran out.
abbrev pub Gives : {X : Type 0} → Result X ReadError → Option X → Type 0
Gives (Ok x) read = read ≡ Some x
Gives (Err errors.Refused) read = read ≡ None
Gives (Err errors.NoMemory) read = Unit {0}

-- ---- a line

unfoldable pub stop_entry : List (List ℕ) → Option BoardLine
stop_entry words =
    if length words == 4
    then (small_of (word_at words 0) >>= λ worker. number_of (word_at words 1) >>= λ number. line_number_of (word_at words 2) >>= λ line.
    value_in stop_words (word_at words 3) >>= λ stop. Some (board.Stop worker number line stop))
    else None

unfoldable pub entry_of : EntryKind → (words : List (List ℕ)) → Option BoardLine
entry_of entries.Submit words = number_and_name words >>= λ p. Some (board.Submit p.0 p.1)
entry_of entries.Take words = small_and_numbers words >>= λ p. Some (board.Take p.0 p.1)
entry_of entries.Finish words = small_and_number words >>= λ p. Some (board.Finish p.0 p.1)
entry_of entries.Stop words = stop_entry words
entry_of entries.Back words = small_and_numbers words >>= λ p. Some (board.Back p.0 p.1)
entry_of entries.Starved words = only_small words >>= λ worker. Some (board.Starved worker)
entry_of entries.Close words = if length words == 0 then Some board.Close else None

unfoldable pub transfer_of : TransferKind → (words : List (List ℕ)) → Option ChannelLine
transfer_of transfers.Issue words = small_and_number words >>= λ p. Some (channel.Issue p.0 p.1)
transfer_of transfers.Out words = only_small words >>= λ tag. Some (channel.Out tag)
transfer_of transfers.Finished words = only_small words >>= λ tag. Some (channel.Finished tag)
transfer_of transfers.Collected words = only_small words >>= λ tag. Some (channel.Collected tag)

-- what a line says, by its first word and those behind it
unfoldable pub line_by : Kind → (words : List (List ℕ)) → Option TraceLine
line_by heads.Trace words = if length words == 0 then Some lines.Trace else None
line_by heads.Board words = only_number words >>= λ number. Some (lines.Board number)
line_by heads.Channel words = only_small words >>= λ worker. Some (lines.Channel worker)
line_by heads.End words = if length words == 0 then Some lines.End else None
line_by (heads.Entry kind) words = entry_of kind words >>= λ entry. Some (lines.Entry entry)
line_by (heads.Transfer kind) words = transfer_of kind words >>= λ transfer. Some (lines.Transfer transfer)

unfoldable pub line_of_words : List (List ℕ) → Option TraceLine
line_of_words words = value_in head_words (word_at words 0) >>= λ kind. line_by kind (drop 1 words)

-- what a line says, without the newline that ends it
abbrev pub line_of : List ℕ → Option TraceLine
line_of bytes = line_of_words (slice_split (λ b. b == 32) bytes)

-- ---- a trace

-- the generation that is open, with the channels that are read of it
unfoldable pub opened : Draft → Option LastGeneration
opened (InBoard generations entries) = Some (record { generations = generations; board = entries; channels = [] })
opened (InChannel generations entries channels worker transfers) =
    Some (record { generations = generations; board = entries; channels = channels ++ record { worker = worker; entries = transfers } ∷ [] })
opened _ = None

-- the generations that are read, where an open one ends
unfoldable pub closed : Draft → Option (List Generation)
closed (Whole generations) = Some generations
closed d = opened d >>= λ o. Some (o.generations ++ record { board = o.board; channels = o.channels } ∷ [])

unfoldable pub with_trace : Draft → Option Draft
with_trace Start = Some (Whole [])
with_trace _ = None

unfoldable pub with_board : Draft → (number : ℕ) → Option Draft
with_board d number = closed d >>= λ generations. if length generations == number then Some (InBoard generations []) else None

unfoldable pub with_entry : Draft → BoardLine → Option Draft
with_entry (InBoard generations entries) entry = Some (InBoard generations (entries ++ entry ∷ []))
with_entry _ entry = None

unfoldable pub with_channel : Draft → (worker : ℕ) → Option Draft
with_channel d worker = opened d >>= λ o. Some (InChannel o.generations o.board o.channels worker [])

unfoldable pub with_transfer : Draft → ChannelLine → Option Draft
with_transfer (InChannel generations entries channels worker transfers) transfer =
    Some (InChannel generations entries channels worker (transfers ++ transfer ∷ []))
with_transfer _ transfer = None

unfoldable pub with_end : Draft → Option Draft
with_end d = closed d >>= λ generations. Some (Ended generations)

-- what is read with one more line
unfoldable pub next : Draft → TraceLine → Option Draft
next d lines.Trace = with_trace d
next d (lines.Board number) = with_board d number
next d (lines.Entry entry) = with_entry d entry
next d (lines.Channel worker) = with_channel d worker
next d (lines.Transfer transfer) = with_transfer d transfer
next d lines.End = with_end d

abbrev pub after_line : Draft → (bytes : List ℕ) → Option Draft
after_line d bytes = line_of bytes >>= λ line. next d line

-- ---- a text

-- what is read with some more lines
abbrev pub run : Draft → List TraceLine → Option Draft
run d [] = Some d
run d (line ∷ others) = next d line >>= λ e. run e others

-- The text begins with some lines, which come to this draft, and the next line has this number.
pub record IsReadTo (text rest : List ℕ) (d : Draft) (line : ℕ) : Type 0 where
  pub front : List TraceLine
  pub fits : AllByRecursion LineFits front
  pub text_is : text ≡ flat_map line_text front ++ rest
  pub reads : run Start front ≡ Some d
  pub counted : line ≡ length front + 1

-- No further line follows, and this isn't the end of a trace.
pub record IsStuck (d : Draft) (rest : List ℕ) : Type 0 where
  pub no_line : (line : TraceLine) (more : List ℕ) (e : Draft) → LineFits line → rest ≡ line_text line ++ more → next d line ≡ Some e → ⊥
  pub no_end : (generations : List Generation) → rest ≡ [] → d ≡ Ended generations → ⊥

-- what a call says of a line that isn't read
abbrev pub Stops : ReadError → (line : ℕ) → TraceFault → Type 0
Stops errors.Refused line fault = fault ≡ faults.Bad line
Stops errors.NoMemory line fault = fault ≡ faults.NoMemory

-- The end of the text: a trace where all of it is read and nothing is left.
abbrev pub EndsWith : Draft → (rest : List ℕ) → (line : ℕ) → Result Traces TraceFault → Type 0
EndsWith d rest line (Ok t) = (rest ≡ []) × (d ≡ Ended t.generations)
EndsWith d rest line (Err fault) = (fault ≡ faults.Bad line) × ((generations : List Generation) → rest ≡ [] → d ≡ Ended generations → ⊥)

-- All is read, or a line is met that can't follow.
abbrev pub Reads : List ℕ → Result Traces TraceFault → Type 0
Reads text (Ok t) = (line : ℕ) × IsReadTo text [] (Ended t.generations) line
Reads text (Err (faults.Bad line)) = (d : Draft) × (rest : List ℕ) × IsReadTo text rest d line × IsStuck d rest
Reads text (Err faults.NoMemory) = Unit {0}
