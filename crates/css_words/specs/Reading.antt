-- What a command line asks for.
use Rattle.std.specs.Prelude.{◌≡◌, ◌≤◌, ◌<◌, ◌-◌, ◌%◌, ◌^◌, ℕ, Bool, List, [], ◌∷◌, length, All, Contains, Option, Some, None, IsSome, is_some, unwrap_or, if◌then◌else◌}
use Rattle.std.specs.Str.{bytes_eq}
use Rattle.std.specs.Str.Parse.{IsNumeral, digits_value}
use Rattle.css_base.specs.declared.limits.Limits.{Limits}
use Rattle.css_base.specs.Limits.{IsInRange}
use Rattle.css_words.specs.declared.built.Built.{Built}
use Rattle.css_words.specs.declared.command.Command.{Command}
use Rattle.css_words.specs.declared.command.Command.TheVariants.{Make}
use Rattle.css_words.specs.declared.options.OptionName.{OptionName}
use Rattle.css_words.specs.declared.options.OptionName.TheVariants.{Memory, MainUnits, TaskUnits, LocalStore, Workers, Bundle, Seed, Images, Stats, Trace, Print, TraceFile, Shared, Barrier, State}
use Rattle.css_words.specs.declared.table.OptionKind.{OptionKind}
use Rattle.css_words.specs.declared.table.OptionKind.TheVariants.{Number, File}
use Rattle.css_words.specs.declared.request.Request.{Request}
use Rattle.css_words.specs.Options.{Text, command_name, option_name, kind_of, commands_of}
use Rattle.css_words.specs.Items.{Given, Says}

-- A number in a range: 1 to 20 decimal digits.
pub record IsNumber (least most : ℕ) (text : Text) : Type 0 where
  pub digits : IsNumeral 10 text
  pub short : length text ≤ 20
  pub at_least : least ≤ digits_value 10 text
  pub at_most : digits_value 10 text ≤ most

-- The value is one that an option of this kind takes.
abbrev pub IsValue : OptionKind → Text → Type 0
IsValue (Number least most default) text = IsNumber least most text
IsValue _ text = Unit {0}

-- Options are known by their names.
abbrev pub is_option : OptionName → OptionName → Bool
is_option a b = bytes_eq (option_name a) (option_name b)

-- the value that an option is given, if it is given
abbrev pub value_of : OptionName → List Given → Option Text
value_of option [] = None
value_of option (g ∷ gs) = if is_option option g.0 then Some g.1 else value_of option gs

-- The option belongs to the command, and the program has it.
pub record IsOptionOf (built : Built) (command : Command) (option : OptionName) : Type 0 where
  pub belongs : Contains (commands_of option) command
  pub is_built : Contains built.options.now option

-- No option is given twice.
abbrev pub AreOnce : List Given → Type 0
AreOnce [] = Unit {0}
AreOnce (g ∷ gs) = (value_of g.0 gs ≡ None) × AreOnce gs

-- A command wants each file that belongs to it.
abbrev pub IsFile : OptionKind → Type 0
IsFile File = Unit {0}
IsFile _ = ⊥

abbrev pub Wants : Command → OptionName → Type 0
Wants command option = IsFile (kind_of option) × Contains (commands_of option) command

-- `make` is given the number of a program, and any other command a file.
abbrev pub IsOperandOf : Command → Text → Type 0
IsOperandOf Make word = IsNumber 0 9999 word
IsOperandOf _ word = Unit {0}

-- The command may be asked for with this operand and these options.
pub record IsAllowed (built : Built) (command : Command) (operand : Text) (given : List Given) : Type 0 where
  pub is_built : Contains built.commands.now command
  pub options : All (λ g. IsOptionOf built command g.0) given
  pub once : AreOnce given
  pub values : All (λ g. IsValue (kind_of g.0) g.1) given
  pub wanted : (option : OptionName) → Wants command option → IsSome (value_of option given)
  pub of_command : IsOperandOf command operand

-- what an option's number is: that of its value, or its default
abbrev pub number_in : OptionKind → Option Text → ℕ
number_in (Number least most default) None = default
number_in (Number least most default) (Some text) = digits_value 10 text
number_in _ value = 0

-- the greatest number that an option of this kind has
abbrev pub most_of : OptionKind → ℕ
most_of (Number least most default) = most
most_of _ = 0

abbrev pub number_of : OptionName → List Given → ℕ
number_of option given = number_in (kind_of option) (value_of option given)

abbrev pub is_given : OptionName → List Given → Bool
is_given option given = is_some (value_of option given)

abbrev pub name_of : OptionName → List Given → Text
name_of option given = unwrap_or (value_of option given) []

abbrev pub file_of : Command → Text → Text
file_of Make operand = []
file_of _ operand = operand

abbrev pub program_number : Command → Text → ℕ
program_number Make operand = digits_value 10 operand
program_number _ operand = 0

-- The local store is rounded down to a multiple of 128.
abbrev pub limits_of : List Given → Limits
limits_of given = record {
  workers = number_of Workers given;
  bundle = number_of Bundle given;
  local_store = number_of LocalStore given - number_of LocalStore given % 128;
  memory = number_of Memory given;
  main_units = number_of MainUnits given;
  task_units = number_of TaskUnits given;
}

abbrev pub request_of : Command → Text → List Given → Request
request_of command operand given = record {
  command = command;
  file = file_of command operand;
  number = program_number command operand;
  limits = limits_of given;
  seed = number_of Seed given;
  images = is_given Images given;
  stats = is_given Stats given;
  trace = is_given Trace given;
  print = is_given Print given;
  trace_file = name_of TraceFile given;
  shared = is_given Shared given;
  barrier = number_of Barrier given;
  state = name_of State given;
}

-- The words ask for this, of a program of which so much is built: any word 0, then the command, then options and the
-- operand in any order.
pub record Reads (built : Built) (words : List Text) (request : Request) : Type 0 where
  pub program : Text
  pub command : Command
  pub others : List Text
  pub given : List Given
  pub operand : Text
  pub words_are : words ≡ program ∷ command_name command ∷ others
  pub says : Says others given (operand ∷ [])
  pub allowed : IsAllowed built command operand given
  pub asked : request ≡ request_of command operand given

-- The words ask for nothing.
abbrev pub AreRefused : Built → List Text → Type 0
AreRefused built words = (request : Request) → Reads built words request → ⊥

-- What holds of each request.
pub record HasBounds (request : Request) : Type 0 where
  pub limits : IsInRange request.limits
  pub number : request.number ≤ 9999
  pub seed : request.seed < 2 ^ 64
  pub barrier : (1 ≤ request.barrier) × (request.barrier ≤ 1000000)
