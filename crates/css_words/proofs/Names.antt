-- Names of commands and options: they differ, and none is empty or has a `=`.
use Rattle.std.proofs.Common.{◌≡◌, ◌∙◌, ◌≢◌, ℕ, Bool, true, false, not, ◌&&◌, ◌==◌, List, [], ◌∷◌, length, cond, nat_lt, bytes_eq, refl, sym, ap, subst, arith, All, Decides}
use Rattle.std.specs.List.{list_all}
use Rattle.std.proofs.lemmas.Slice.Eq.{bytes_eq-Decides}
use Rattle.css_words.specs.declared.command.Command.{Command}
use Rattle.css_words.specs.declared.command.Command.TheVariants.{Check, Code, Erased, Run, Sim, Graph, Make, Audit, Plan, Save, Resume}
use Rattle.css_words.specs.declared.options.OptionName.{OptionName}
use Rattle.css_words.specs.declared.options.OptionName.TheVariants.{Memory, MainUnits, TaskUnits, LocalStore, Workers, Bundle, Seed, Images, Stats, Trace, Print, TraceFile, Shared, Barrier, State}
use Rattle.css_words.specs.Options.{Text, command_name, option_name}
use Rattle.css_words.specs.Reading.{is_option}

-- the first of a list that has a name, and else another
abbrev first_named : {A : Type 0} → (A → Text) → A → List A → Text → A
first_named name other [] text = other
first_named name other (x ∷ xs) text = cond (bytes_eq (name x) text) x (first_named name other xs text)

abbrev pub all_options : List OptionName
all_options = Memory ∷ MainUnits ∷ TaskUnits ∷ LocalStore ∷ Workers ∷ Bundle ∷ Seed ∷ Images ∷ Stats ∷ Trace ∷ Print ∷ TraceFile ∷ Shared ∷ Barrier ∷ State ∷ []

abbrev pub all_commands : List Command
all_commands = Check ∷ Code ∷ Erased ∷ Run ∷ Sim ∷ Graph ∷ Make ∷ Audit ∷ Plan ∷ Save ∷ Resume ∷ []

abbrev option_of : Text → OptionName
option_of text = first_named option_name Memory all_options text

abbrev command_of : Text → Command
command_of text = first_named command_name Check all_commands text

option_of-name : (o : OptionName) → option_of (option_name o) ≡ o
option_of-name Memory = refl
option_of-name MainUnits = refl
option_of-name TaskUnits = refl
option_of-name LocalStore = refl
option_of-name Workers = refl
option_of-name Bundle = refl
option_of-name Seed = refl
option_of-name Images = refl
option_of-name Stats = refl
option_of-name Trace = refl
option_of-name Print = refl
option_of-name TraceFile = refl
option_of-name Shared = refl
option_of-name Barrier = refl
option_of-name State = refl

command_of-name : (c : Command) → command_of (command_name c) ≡ c
command_of-name Check = refl
command_of-name Code = refl
command_of-name Erased = refl
command_of-name Run = refl
command_of-name Sim = refl
command_of-name Graph = refl
command_of-name Make = refl
command_of-name Audit = refl
command_of-name Plan = refl
command_of-name Save = refl
command_of-name Resume = refl

pub same_option : (a b : OptionName) → option_name a ≡ option_name b → a ≡ b
same_option a b e = sym (option_of-name a) ∙ (ap option_of e ∙ option_of-name b)

pub same_command : (a b : Command) → command_name a ≡ command_name b → a ≡ b
same_command a b e = sym (command_of-name a) ∙ (ap command_of e ∙ command_of-name b)

pub is_option-Decides : (a b : OptionName) → Decides (is_option a b) (a ≡ b)
is_option-Decides a b =
    let d = bytes_eq-Decides (option_name a) (option_name b) in
    (λ t. same_option a b (d.0 t), λ e. d.1 (ap option_name e))

-- what holds of all in the list holds of each option, and of each command
pub each_option : (P : OptionName → Type 0) → All P all_options → (o : OptionName) → P o
each_option P h Memory = h 0 Memory (omega arith)
each_option P h MainUnits = h 1 MainUnits (omega arith)
each_option P h TaskUnits = h 2 TaskUnits (omega arith)
each_option P h LocalStore = h 3 LocalStore (omega arith)
each_option P h Workers = h 4 Workers (omega arith)
each_option P h Bundle = h 5 Bundle (omega arith)
each_option P h Seed = h 6 Seed (omega arith)
each_option P h Images = h 7 Images (omega arith)
each_option P h Stats = h 8 Stats (omega arith)
each_option P h Trace = h 9 Trace (omega arith)
each_option P h Print = h 10 Print (omega arith)
each_option P h TraceFile = h 11 TraceFile (omega arith)
each_option P h Shared = h 12 Shared (omega arith)
each_option P h Barrier = h 13 Barrier (omega arith)
each_option P h State = h 14 State (omega arith)

pub each_command : (P : Command → Type 0) → All P all_commands → (c : Command) → P c
each_command P h Check = h 0 Check (omega arith)
each_command P h Code = h 1 Code (omega arith)
each_command P h Erased = h 2 Erased (omega arith)
each_command P h Run = h 3 Run (omega arith)
each_command P h Sim = h 4 Sim (omega arith)
each_command P h Graph = h 5 Graph (omega arith)
each_command P h Make = h 6 Make (omega arith)
each_command P h Audit = h 7 Audit (omega arith)
each_command P h Plan = h 8 Plan (omega arith)
each_command P h Save = h 9 Save (omega arith)
each_command P h Resume = h 10 Resume (omega arith)

-- no byte of it is a `=`
abbrev pub NoEquals : List ℕ → Type 0
NoEquals [] = Unit {0}
NoEquals (b ∷ bs) = (b ≢ 61) × NoEquals bs

abbrev is_plain_name : List ℕ → Bool
is_plain_name name = nat_lt 0 (length name) && list_all (λ b. not (b == 61)) name

plain_name : (o : OptionName) → is_plain_name (option_name o) ≡ true
plain_name Memory = refl
plain_name MainUnits = refl
plain_name TaskUnits = refl
plain_name LocalStore = refl
plain_name Workers = refl
plain_name Bundle = refl
plain_name Seed = refl
plain_name Images = refl
plain_name Stats = refl
plain_name Trace = refl
plain_name Print = refl
plain_name TraceFile = refl
plain_name Shared = refl
plain_name Barrier = refl
plain_name State = refl

both : (a b : Bool) → (a && b) ≡ true → (a ≡ true) × (b ≡ true)
both true b e = (refl, e)
both false b e = cc

differs : (b : ℕ) → not (b == 61) ≡ true → b ≢ 61
differs b t e =
    let bad : not (61 == 61) ≡ true = subst (λ (x : ℕ). not (x == 61) ≡ true) e t in
    let no : false ≡ true = bad in
    cc

from_test : (bs : List ℕ) → list_all (λ b. not (b == 61)) bs ≡ true → NoEquals bs
from_test [] t = tt
from_test (b ∷ bs) t = let p = both (not (b == 61)) (list_all (λ c. not (c == 61)) bs) t in (differs b p.0, from_test bs p.1)

pub no_equals : (o : OptionName) → NoEquals (option_name o)
no_equals o = from_test (option_name o) (both (nat_lt 0 (length (option_name o))) _ (plain_name o)).1

pub named : (o : OptionName) → option_name o ≡ [] → ⊥
named o e =
    let some : nat_lt 0 (length (option_name o)) ≡ true = (both _ (list_all (λ b. not (b == 61)) (option_name o)) (plain_name o)).0 in
    let bad : nat_lt 0 0 ≡ true = subst (λ (bs : List ℕ). nat_lt 0 (length bs) ≡ true) e some in
    let no : false ≡ true = bad in
    cc
