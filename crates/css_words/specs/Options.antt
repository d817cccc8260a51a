-- The commands, and the table of the options.
use Rattle.std.specs.Prelude.{◌≡◌, ◌^◌, ◌-◌, ℕ, List, [], ◌∷◌, codes}
use Rattle.css_words.specs.declared.command.Command.{Command}
use Rattle.css_words.specs.declared.command.Command.TheVariants.{Check, Code, Erased, Run, Sim, Graph, Make, Audit, Plan, Save, Resume}
use Rattle.css_words.specs.declared.options.OptionName.{OptionName}
use Rattle.css_words.specs.declared.options.OptionName.TheVariants.{Memory, MainUnits, TaskUnits, LocalStore, Workers, Bundle, Seed, Images, Stats, Trace, Print, TraceFile, Shared, Barrier, State}
use Rattle.css_words.specs.declared.table.OptionKind.{OptionKind}
use Rattle.css_words.specs.declared.table.OptionKind.TheVariants.{Flag, Number, File}
use Rattle.css_words.specs.declared.table.OptionRow.{OptionRow}

-- A word's or a name's bytes.
abbrev pub Text : Type 0
Text = List ℕ

abbrev pub command_name : Command → Text
command_name Check = codes "check"
command_name Code = codes "code"
command_name Erased = codes "erased"
command_name Run = codes "run"
command_name Sim = codes "sim"
command_name Graph = codes "graph"
command_name Make = codes "make"
command_name Audit = codes "audit"
command_name Plan = codes "plan"
command_name Save = codes "save"
command_name Resume = codes "resume"

-- The commands that run tasks, those that run a program, and all.
abbrev pub tasking : List Command
tasking = Run ∷ Sim ∷ Graph ∷ Make ∷ Audit ∷ Plan ∷ Save ∷ Resume ∷ []

abbrev pub running : List Command
running = Erased ∷ tasking

abbrev pub every : List Command
every = Check ∷ Code ∷ running

-- An option's name behind the two dashes, what value it takes, and the commands that it belongs to.
pub record Row : Type 0 where
  pub name : Text
  pub kind : OptionKind
  pub commands : List Command

abbrev pub entry : Text → OptionKind → List Command → Row
entry name kind commands = record { name = name; kind = kind; commands = commands }

-- The table. A number has its least and its greatest value and its default.
abbrev pub row : OptionName → Row
row Memory = entry (codes "memory") (Number 2097152 268435456 16777216) every
row MainUnits = entry (codes "main-units") (Number 1 (2 ^ 40) (2 ^ 32)) running
row TaskUnits = entry (codes "task-units") (Number 1 (2 ^ 40) (2 ^ 28)) tasking
row LocalStore = entry (codes "local-store") (Number 32768 1048576 262144) tasking
row Workers = entry (codes "workers") (Number 1 16 8) (Run ∷ Sim ∷ Make ∷ Plan ∷ Resume ∷ [])
row Bundle = entry (codes "bundle") (Number 1 8 8) (Run ∷ Sim ∷ Make ∷ Resume ∷ [])
row Seed = entry (codes "seed") (Number 0 (2 ^ 64 - 1) 1) (Sim ∷ Make ∷ Resume ∷ [])
row Images = entry (codes "images") Flag (Run ∷ Sim ∷ Resume ∷ [])
row Stats = entry (codes "stats") Flag (Run ∷ Sim ∷ [])
row Trace = entry (codes "trace") Flag (Run ∷ Sim ∷ [])
row Print = entry (codes "print") Flag (Make ∷ [])
row TraceFile = entry (codes "trace-file") File (Audit ∷ [])
row Shared = entry (codes "shared") Flag (Run ∷ [])
row Barrier = entry (codes "barrier") (Number 1 1000000 1) (Save ∷ [])
row State = entry (codes "state") File (Resume ∷ [])

abbrev pub option_name : OptionName → Text
option_name option = (row option).name

abbrev pub kind_of : OptionName → OptionKind
kind_of option = (row option).kind

abbrev pub commands_of : OptionName → List Command
commands_of option = (row option).commands

-- The code's row is this one.
pub record IsRow (r : OptionRow) (e : Row) : Type 0 where
  pub name : r.name.now ≡ e.name
  pub kind : r.kind ≡ e.kind
  pub commands : r.commands.now ≡ e.commands
