-- Reading a listing's lines: what a line says, and what is read of the code so far.
use Rattle.std.specs.Prelude.{◌≡◌, ℕ, ◌+◌, ◌==◌, ◌&&◌, nat_lt, Bool, List, [], ◌∷◌, ◌++◌, drop, length, Option, Some, None, is_none, Result, Ok, Err, if◌then◌else◌}
use Rattle.std.specs.List.{slice_split, flat_map, AllByRecursion}
use Rattle.css_isa.specs.declared.code.Instr.{Instr}
use Rattle.css_isa.specs.declared.code.TaskShape.{TaskShape}
use Rattle.css_isa.specs.declared.code.Datum.{Datum}
use Rattle.css_isa.specs.declared.code.Function.{Function}
use Rattle.css_isa.specs.declared.code.Code.{Code}
use Rattle.css_isa.specs.declared.space.Width.{Width}
use Rattle.css_traces.specs.Words.{◌>>=◌, value_in, small_of, line_number_of, word_at}
use Rattle.css_listing.specs.declared.draft.Draft.{Draft}
use Rattle.css_listing.specs.declared.draft.Draft.TheVariants.{Start, InData, InFunction}
use Rattle.css_listing.specs.declared.fault.ReadError.{ReadError}
use Rattle.css_listing.specs.declared.fault.ReadError.TheVariants as errors
use Rattle.css_listing.specs.declared.fault.ListingFault.{ListingFault}
use Rattle.css_listing.specs.declared.fault.ListingFault.TheVariants as faults
use Rattle.css_listing.specs.declared.kind.Kind.{Kind}
use Rattle.css_listing.specs.declared.kind.Kind.TheVariants as heads
use Rattle.css_listing.specs.declared.listing_line.ListingLine.{ListingLine}
use Rattle.css_listing.specs.declared.listing_line.ListingLine.TheVariants as lines
use Rattle.css_listing.specs.Lines.{line_text, LineFits}
use Rattle.css_listing.specs.Words.{head_words, high_words, name_of, bytes_of, op_of, parts_of, widths_of}

-- ---- answers

-- A call gives what is read, unless memory ran out.
abbrev pub Gives : {X : Type 0} → Result X ReadError → Option X → Type 0
Gives (Ok x) read = read ≡ Some x
Gives (Err errors.Refused) read = read ≡ None
Gives (Err errors.NoMemory) read = Unit {0}

-- ---- a line, by the words behind its first

unfoldable pub head_of : List (List ℕ) → Option ListingLine
head_of words =
    if length words == 2
    then (small_of (word_at words 0) >>= λ globals_end. small_of (word_at words 1) >>= λ main. Some (lines.Head globals_end main))
    else None

unfoldable pub data_of : List (List ℕ) → Option ListingLine
data_of words =
    if length words == 2
    then (small_of (word_at words 0) >>= λ address. bytes_of (word_at words 1) >>= λ bytes.
    Some (lines.Data (record { address = address; bytes = bytes })))
    else None

unfoldable pub opens_of : List (List ℕ) → Option ListingLine
opens_of words =
    if nat_lt 1 (length words)
    then (name_of (word_at words 0) >>= λ name. small_of (word_at words 1) >>= λ frame. widths_of (drop 2 words) >>= λ params.
    Some (lines.Opens name frame params))
    else None

unfoldable pub task_of : List (List ℕ) → Option ListingLine
task_of words =
    if length words == 0 then None
    else (value_in high_words (word_at words 0) >>= λ high. parts_of (drop 1 words) >>= λ args.
    Some (lines.Task (record { high = high; args = args })))

unfoldable pub instr_of : List (List ℕ) → Option ListingLine
instr_of words =
    if length words == 0 then None
    else (line_number_of (word_at words 0) >>= λ line. op_of (drop 1 words) >>= λ op. Some (lines.Instr (record { op = op; line = line })))

unfoldable pub line_by : Kind → (words : List (List ℕ)) → Option ListingLine
line_by heads.Head words = head_of words
line_by heads.Data words = data_of words
line_by heads.Opens words = opens_of words
line_by heads.Task words = task_of words
line_by heads.Instr words = instr_of words

unfoldable pub line_of_words : List (List ℕ) → Option ListingLine
line_of_words words = value_in head_words (word_at words 0) >>= λ kind. line_by kind (drop 1 words)

-- what a line says, without the newline that ends it
abbrev pub line_of : List ℕ → Option ListingLine
line_of bytes = line_of_words (slice_split (λ b. b == 32) bytes)

-- ---- a code

-- a function without instructions that may be a task
abbrev pub opened : (name : List ℕ) (frame : ℕ) (params : List Width) → Function
opened name frame params = record { name = name; params = params; frame = frame; task = None; body = [] }

-- nothing is read of it but its first line
abbrev pub is_bare : Function → Bool
is_bare f = is_none f.task && length f.body == 0

abbrev pub as_task : Function → TaskShape → Function
as_task f s = record f { task = Some s }

abbrev pub with_instr : Function → Instr → Function
with_instr f i = record f { body = f.body ++ i ∷ [] }

unfoldable pub with_head : Draft → (globals_end main : ℕ) → Option Draft
with_head Start globals_end main = Some (InData globals_end main [])
with_head _ globals_end main = None

unfoldable pub with_data : Draft → Datum → Option Draft
with_data (InData globals_end main datums) d = Some (InData globals_end main (datums ++ d ∷ []))
with_data _ d = None

unfoldable pub with_function : Draft → Function → Option Draft
with_function Start f = None
with_function (InData globals_end main datums) f = Some (InFunction globals_end main datums [] f)
with_function (InFunction globals_end main datums functions last) f = Some (InFunction globals_end main datums (functions ++ last ∷ []) f)

unfoldable pub with_task : Draft → TaskShape → Option Draft
with_task (InFunction globals_end main datums functions last) s =
    if is_bare last then Some (InFunction globals_end main datums functions (as_task last s)) else None
with_task _ s = None

unfoldable pub with_body : Draft → Instr → Option Draft
with_body (InFunction globals_end main datums functions last) i = Some (InFunction globals_end main datums functions (with_instr last i))
with_body _ i = None

-- what is read with one more line
unfoldable pub next : Draft → ListingLine → Option Draft
next d (lines.Head globals_end main) = with_head d globals_end main
next d (lines.Data datum) = with_data d datum
next d (lines.Opens name frame params) = with_function d (opened name frame params)
next d (lines.Task s) = with_task d s
next d (lines.Instr i) = with_body d i

abbrev pub after_line : Draft → (bytes : List ℕ) → Option Draft
after_line d bytes = line_of bytes >>= λ line. next d line

-- the code whose listing ends here
unfoldable pub finished : Draft → Option Code
finished Start = None
finished (InData globals_end main datums) = Some (record { globals_end = globals_end; datums = datums; functions = []; main = main })
finished (InFunction globals_end main datums functions last) =
    Some (record { globals_end = globals_end; datums = datums; functions = functions ++ last ∷ []; main = main })

-- ---- a text

-- what is read with some more lines
abbrev pub run : Draft → List ListingLine → Option Draft
run d [] = Some d
run d (line ∷ others) = next d line >>= λ e. run e others

-- The text begins with some lines, which come to this draft, and the next line has this number.
pub record IsReadTo (text rest : List ℕ) (d : Draft) (line : ℕ) : Type 0 where
  pub front : List ListingLine
  pub fits : AllByRecursion LineFits front
  pub text_is : text ≡ flat_map line_text front ++ rest
  pub reads : run Start front ≡ Some d
  pub counted : line ≡ length front + 1

-- No further line follows, and this isn't the end of a listing.
pub record IsStuck (d : Draft) (rest : List ℕ) : Type 0 where
  pub no_line : (line : ListingLine) (more : List ℕ) (e : Draft) → LineFits line → rest ≡ line_text line ++ more → next d line ≡ Some e → ⊥
  pub no_end : (c : Code) → rest ≡ [] → finished d ≡ Some c → ⊥

-- what a call says of a line that isn't read
abbrev pub Stops : ReadError → (line : ℕ) → ListingFault → Type 0
Stops errors.Refused line fault = fault ≡ faults.Bad line
Stops errors.NoMemory line fault = fault ≡ faults.NoMemory

-- The end of the text: a code where nothing is left.
abbrev pub EndsWith : Draft → (rest : List ℕ) → (line : ℕ) → Result Code ListingFault → Type 0
EndsWith d rest line (Ok c) = (rest ≡ []) × (finished d ≡ Some c)
EndsWith d rest line (Err faults.NoMemory) = Unit {0}
EndsWith d rest line (Err (faults.Bad k)) = (k ≡ line) × ((c : Code) → rest ≡ [] → finished d ≡ Some c → ⊥)

-- All is read, or a line is met that can't follow.
abbrev pub Reads : List ℕ → Result Code ListingFault → Type 0
Reads text (Ok c) = (d : Draft) × (line : ℕ) × IsReadTo text [] d line × (finished d ≡ Some c)
Reads text (Err (faults.Bad line)) = (d : Draft) × (rest : List ℕ) × IsReadTo text rest d line × IsStuck d rest
Reads text (Err faults.NoMemory) = Unit {0}
