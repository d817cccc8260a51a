-- What the words of a command line ask for.
use Rattle.std.specs.Prelude.{◌≡◌, ℕ, List, [], ◌∷◌}
use Rattle.css_words.specs.declared.built.Built.{Built}
use Rattle.css_words.specs.declared.command.Command.{Command}
use Rattle.css_words.specs.declared.command.Command.TheVariants.{Check, Erased, Run}
use Rattle.css_words.specs.declared.options.OptionName.{OptionName}
use Rattle.css_words.specs.declared.options.OptionName.TheVariants.{Memory, MainUnits, TaskUnits, LocalStore}
use Rattle.css_words.specs.declared.request.Request.{Request}
use Rattle.css_words.specs.Reading.{Reads}
use Rattle.css_words.specs.Reading as reading

-- The commands and options that a call of the program takes.
pub record Offer : Type 0 where
  pub commands : List Command
  pub options : List OptionName

abbrev pub offer_of : Built → Offer
offer_of built = record { commands = built.commands.now; options = built.options.now }

-- The commands that wait for nobody, as far as they are built, with the options for main's memory and main's units.
abbrev pub plain : Offer
plain = record { commands = Check ∷ Erased ∷ []; options = Memory ∷ MainUnits ∷ [] }

-- All commands that are built: `run` too, with the options for a task's units and for the local store.
abbrev pub whole : Offer
whole = record { commands = Check ∷ Erased ∷ Run ∷ []; options = Memory ∷ MainUnits ∷ TaskUnits ∷ LocalStore ∷ [] }

-- Of what is offered, the words ask for this.
pub record Asks (offer : Offer) (words : List (List ℕ)) (request : Request) : Type 0 where
  pub built : Built
  pub is_offered : offer_of built ≡ offer
  pub reads : Reads built words request

-- The words ask for nothing that is offered.
abbrev pub AreRefused : Offer → List (List ℕ) → Type 0
AreRefused offer words = (built : Built) → offer_of built ≡ offer → reading.AreRefused built words

-- The commands that the program serves.
abbrev pub IsServed : Command → Type 0
IsServed Check = Unit {0}
IsServed Erased = Unit {0}
IsServed Run = Unit {0}
IsServed command = ⊥
