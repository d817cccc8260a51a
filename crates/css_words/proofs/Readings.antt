-- Words ask for at most one thing, and that has bounds.
use Rattle.std.proofs.Common.{◌≡◌, ◌≢◌, ◌∙◌, ◌<◌, ◌≤◌, ◌-◌, ◌%◌, ◌^◌, ℕ, Bool, true, false, List, [], ◌∷◌, Option, Some, None, All, IfSome, refl, sym, ap, subst, arith, lit≤, lit<}
use Rattle.std.specs.Str.Parse.{digits_value}
use Rattle.std.proofs.lemmas.List.Elements.{All-head, All-tail}
use Rattle.css_words.specs.declared.built.Built.{Built}
use Rattle.css_words.specs.declared.command.Command.{Command}
use Rattle.css_words.specs.declared.command.Command.TheVariants.{Make}
use Rattle.css_words.specs.declared.options.OptionName.{OptionName}
use Rattle.css_words.specs.declared.options.OptionName.TheVariants.{Memory, MainUnits, TaskUnits, LocalStore, Workers, Bundle, Seed, Images, Stats, Trace, Print, TraceFile, Shared, Barrier, State}
use Rattle.css_words.specs.declared.table.OptionKind.{OptionKind}
use Rattle.css_words.specs.declared.table.OptionKind.TheVariants.{Number}
use Rattle.css_words.specs.declared.request.Request.{Request}
use Rattle.css_words.specs.Options.{Text, command_name, kind_of}
use Rattle.css_words.specs.Items.{Given, Says}
use Rattle.css_words.specs.KeptWords.{SayNothing}
use Rattle.css_words.specs.Reading.{Reads, AreRefused, HasBounds, IsAllowed, IsNumber, most_of, IsOperandOf, IsValue, is_option, value_of, number_in, number_of, program_number, request_of}
use Rattle.css_words.proofs.Names.{same_command, is_option-Decides}
use Rattle.css_words.proofs.Saying.{one_saying}

abbrev head_of : List Text → Text
head_of [] = []
head_of (x ∷ xs) = x

abbrev rest_of : List Text → List Text
rest_of [] = []
rest_of (x ∷ xs) = xs

pub same_request : (c d : Command) (o p : Text) (g h : List Given) → c ≡ d → o ≡ p → g ≡ h → request_of c o g ≡ request_of d p h
same_request c d o p g h a b e = ap (λ (x : Command). request_of x o g) a ∙ (ap (λ (x : Text). request_of d x g) b ∙ ap (λ (x : List Given). request_of d p x) e)

-- the parts of words with a command
pub same_parts : (p q : Text) (c d : Command) (us vs : List Text) (g h : List Given) (o r : Text)
    → p ∷ command_name c ∷ us ≡ q ∷ command_name d ∷ vs → Says us g (o ∷ []) → Says vs h (r ∷ []) → (c ≡ d) × (o ≡ r) × (g ≡ h)
same_parts p q c d us vs g h o r same a b =
    let others : us ≡ vs = ap (λ (ws : List Text). rest_of (rest_of ws)) same in
    let said = one_saying vs g h (o ∷ []) (r ∷ []) (subst (λ (ws : List Text). Says ws g (o ∷ [])) others a) b in
    (same_command c d (ap (λ (ws : List Text). head_of (rest_of ws)) same), ap head_of said.1, said.0)

pub one_reading : (built : Built) (words : List Text) (these those : Request) → Reads built words these → Reads built words those → these ≡ those
one_reading built words these those r s =
    let same = same_parts r.program s.program r.command s.command r.others s.others r.given s.given r.operand s.operand (sym r.words_are ∙ s.words_are) r.says s.says in
    r.asked ∙ (same_request r.command s.command r.operand s.operand r.given s.given same.0 same.1 same.2 ∙ sym s.asked)

-- the value that an option is given is one of its kind
pub value_fits : (option : OptionName) (given : List Given) → All (λ g. IsValue (kind_of g.0) g.1) given → IfSome (value_of option given) (IsValue (kind_of option))
value_fits option [] h = tt
value_fits option (g ∷ gs) h = step (is_option option g.0) refl (value_fits option gs (All-tail (λ g. IsValue (kind_of g.0) g.1) g gs h))
  where
    here : is_option option g.0 ≡ true → IsValue (kind_of option) g.1
    here e = subst (λ (o : OptionName). IsValue (kind_of o) g.1) (sym ((is_option-Decides option g.0).0 e)) (All-head (λ g. IsValue (kind_of g.0) g.1) g gs h)

    step : (b : Bool) → is_option option g.0 ≡ b → IfSome (value_of option gs) (IsValue (kind_of option)) → IfSome (value_of option (g ∷ gs)) (IsValue (kind_of option))
    step true e goes_on = rw e (here e)
    step false e goes_on = rw e goes_on

number_within : (least most default : ℕ) (value : Option Text) → IfSome value (IsNumber least most) → least ≤ default → default ≤ most
    → (least ≤ number_in (Number least most default) value) × (number_in (Number least most default) value ≤ most)
number_within least most default None h low high = (low, high)
number_within least most default (Some text) h low high = (h.at_least, h.at_most)

abbrev pub AreValues : List Given → Type 0
AreValues given = All (λ g. IsValue (kind_of g.0) g.1) given

pub workers_within : (given : List Given) → AreValues given → (1 ≤ number_of Workers given) × (number_of Workers given ≤ 16)
workers_within given h = number_within 1 16 8 (value_of Workers given) (value_fits Workers given h) (lit≤ tt) (lit≤ tt)

pub bundle_within : (given : List Given) → AreValues given → (1 ≤ number_of Bundle given) × (number_of Bundle given ≤ 8)
bundle_within given h = number_within 1 8 8 (value_of Bundle given) (value_fits Bundle given h) (lit≤ tt) (lit≤ tt)

pub local_store_within : (given : List Given) → AreValues given → (32768 ≤ number_of LocalStore given) × (number_of LocalStore given ≤ 1048576)
local_store_within given h = number_within 32768 1048576 262144 (value_of LocalStore given) (value_fits LocalStore given h) (lit≤ tt) (lit≤ tt)

pub memory_within : (given : List Given) → AreValues given → (2097152 ≤ number_of Memory given) × (number_of Memory given ≤ 268435456)
memory_within given h = number_within 2097152 268435456 16777216 (value_of Memory given) (value_fits Memory given h) (lit≤ tt) (lit≤ tt)

pub main_units_within : (given : List Given) → AreValues given → (1 ≤ number_of MainUnits given) × (number_of MainUnits given ≤ (2 ^ 40))
main_units_within given h = number_within 1 (2 ^ 40) (2 ^ 32) (value_of MainUnits given) (value_fits MainUnits given h) (lit≤ tt) (lit≤ tt)

pub task_units_within : (given : List Given) → AreValues given → (1 ≤ number_of TaskUnits given) × (number_of TaskUnits given ≤ (2 ^ 40))
task_units_within given h = number_within 1 (2 ^ 40) (2 ^ 28) (value_of TaskUnits given) (value_fits TaskUnits given h) (lit≤ tt) (lit≤ tt)

pub seed_within : (given : List Given) → AreValues given → (0 ≤ number_of Seed given) × (number_of Seed given ≤ (2 ^ 64 - 1))
seed_within given h = number_within 0 (2 ^ 64 - 1) 1 (value_of Seed given) (value_fits Seed given h) (lit≤ tt) (lit≤ tt)

pub barrier_within : (given : List Given) → AreValues given → (1 ≤ number_of Barrier given) × (number_of Barrier given ≤ 1000000)
barrier_within given h = number_within 1 1000000 1 (value_of Barrier given) (value_fits Barrier given h) (lit≤ tt) (lit≤ tt)

-- rounded down to a multiple of 128
rounded : (n : ℕ) → 32768 ≤ n → n ≤ 1048576 → (32768 ≤ n - n % 128) × (n - n % 128 ≤ 1048576)
rounded n low high = (omega arith, omega arith)

multiple : (n : ℕ) → (n - n % 128) % 128 ≡ 0
multiple n = omega arith

pub number_below : (command : Command) (operand : Text) → IsOperandOf command operand → program_number command operand ≤ 9999
number_below Make operand h = h.at_most
number_below _ operand h = lit≤ tt

pub bounds_of : (command : Command) (operand : Text) (given : List Given) → AreValues given → IsOperandOf command operand → HasBounds (request_of command operand given)
bounds_of command operand given h of =
    let store = local_store_within given h in
    let seed = seed_within given h in
    record {
      limits = record {
        workers = workers_within given h;
        bundle = bundle_within given h;
        local_store = rounded (number_of LocalStore given) store.0 store.1;
        step = multiple (number_of LocalStore given);
        memory = memory_within given h;
        main_units = main_units_within given h;
        task_units = task_units_within given h;
      };
      number = number_below command operand of;
      seed = omega (arith, seed.1);
      barrier = barrier_within given h;
    }

pub readings_have_bounds : (built : Built) (words : List Text) (request : Request) → Reads built words request → HasBounds request
readings_have_bounds built words request r =
    subst HasBounds (sym r.asked) (bounds_of r.command r.operand r.given r.allowed.values r.allowed.of_command)

-- what the words are, and why they ask for nothing
pub too_few : (built : Built) (words : List Text) → ((program name : Text) (others : List Text) → words ≢ program ∷ name ∷ others) → AreRefused built words
too_few built words none request r = none r.program (command_name r.command) r.others r.words_are

module _ (built : Built) (words : List Text) (program name : Text) (others : List Text) (are : words ≡ program ∷ name ∷ others) where
  pub no_command : ((command : Command) → command_name command ≢ name) → AreRefused built words
  no_command none request r = none r.command (ap (λ (ws : List Text). head_of (rest_of ws)) (sym r.words_are ∙ are))

  pub nothing_said : SayNothing others → AreRefused built words
  nothing_said none request r =
      none r.given (r.operand ∷ []) (subst (λ (ws : List Text). Says ws r.given (r.operand ∷ [])) (ap (λ (ws : List Text). rest_of (rest_of ws)) (sym r.words_are ∙ are)) r.says)

  pub no_one_operand : (given : List Given) (operands : List Text) → Says others given operands → ((operand : Text) → operands ≢ operand ∷ []) → AreRefused built words
  no_one_operand given operands says none request r =
      let same : r.others ≡ others = ap (λ (ws : List Text). rest_of (rest_of ws)) (sym r.words_are ∙ are) in
      none r.operand (one_saying others given r.given operands (r.operand ∷ []) says (subst (λ (ws : List Text). Says ws r.given (r.operand ∷ [])) same r.says)).1

  pub not_allowed : (command : Command) (operand : Text) (given : List Given) → command_name command ≡ name → Says others given (operand ∷ [])
      → (IsAllowed built command operand given → ⊥) → AreRefused built words
  not_allowed command operand given named says refused request r =
      let words_are : words ≡ program ∷ command_name command ∷ others = are ∙ ap (λ (n : Text). program ∷ n ∷ others) (sym named) in
      let same = same_parts r.program program r.command command r.others others r.given given r.operand operand (sym r.words_are ∙ words_are) r.says says in
      refused (subst (λ (c : Command). IsAllowed built c operand given) same.0
      (subst (λ (o : Text). IsAllowed built r.command o given) same.1
      (subst (λ (g : List Given). IsAllowed built r.command r.operand g) same.2 r.allowed)))

  pub asked_for : (command : Command) (operand : Text) (given : List Given) (request : Request) → command_name command ≡ name → Says others given (operand ∷ [])
      → IsAllowed built command operand given → request ≡ request_of command operand given → Reads built words request
  asked_for command operand given request named says allowed asked = record {
    program = program;
    command = command;
    others = others;
    given = given;
    operand = operand;
    words_are = are ∙ ap (λ (n : Text). program ∷ n ∷ others) (sym named);
    says = says;
    allowed = allowed;
    asked = asked;
  }

-- a number that is given
pub number_there : (option : OptionName) (given : List Given) (least most default : ℕ) (text : Text) → kind_of option ≡ Number least most default
    → AreValues given → Some text ≡ value_of option given → IsNumber least most text
number_there option given least most default text kind h e =
    subst (λ (k : OptionKind). IsValue k text) kind (subst (λ (v : Option Text). IfSome v (IsValue (kind_of option))) (sym e) (value_fits option given h))

most_fits : (option : OptionName) → most_of (kind_of option) < 2 ^ 64
most_fits Memory = lit< tt
most_fits MainUnits = lit< tt
most_fits TaskUnits = lit< tt
most_fits LocalStore = lit< tt
most_fits Workers = lit< tt
most_fits Bundle = lit< tt
most_fits Seed = lit< tt
most_fits Images = lit< tt
most_fits Stats = lit< tt
most_fits Trace = lit< tt
most_fits Print = lit< tt
most_fits TraceFile = lit< tt
most_fits Shared = lit< tt
most_fits Barrier = lit< tt
most_fits State = lit< tt

pub number_bound : (option : OptionName) (least most default : ℕ) (text : Text) → kind_of option ≡ Number least most default → IsNumber least most text
    → digits_value 10 text ≤ most_of (kind_of option)
number_bound option least most default text kind n = subst (λ (k : OptionKind). digits_value 10 text ≤ most_of k) (sym kind) n.at_most

pub number_fits : (option : OptionName) (text : Text) → digits_value 10 text ≤ most_of (kind_of option) → digits_value 10 text < 2 ^ 64
number_fits option text h = let top = most_fits option in omega arith
