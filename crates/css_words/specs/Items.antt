-- How a command line is spelled.
use Rattle.std.specs.Prelude.{◌≡◌, ◌≢◌, ◌⊎◌, Bool, true, false, List, [], ◌∷◌, ◌++◌, All, Option, Some, None, codes, flat_map}
use Rattle.css_words.specs.declared.options.OptionName.{OptionName}
use Rattle.css_words.specs.declared.table.OptionKind.{OptionKind}
use Rattle.css_words.specs.declared.table.OptionKind.TheVariants.{Flag}
use Rattle.css_words.specs.Options.{Text, option_name, kind_of}

-- One thing that words say: a flag; an option with its value in the next word, or behind `=`; or a word that is no option.
pub data Item : Type 0 where
  Raised : (option : OptionName) → Item
  Apart : (option : OptionName) (value : Text) → Item
  Joined : (option : OptionName) (value : Text) → Item
  Operand : (word : Text) → Item

-- the words that say it
abbrev pub spelling : Item → List Text
spelling (Raised option) = (codes "--" ++ option_name option) ∷ []
spelling (Apart option value) = (codes "--" ++ option_name option) ∷ value ∷ []
spelling (Joined option value) = (codes "--" ++ (option_name option ++ (codes "=" ++ value))) ∷ []
spelling (Operand word) = word ∷ []

abbrev pub is_flag : OptionKind → Bool
is_flag Flag = true
is_flag _ = false

-- The word doesn't begin with `-`.
abbrev pub IsPlainWord : Text → Type 0
IsPlainWord [] = Unit {0}
IsPlainWord (b ∷ bs) = b ≢ 45

-- A flag has no value, and any other option has one; a value in the next word doesn't begin with `-`; and of the words
-- that begin with `-`, only `-` alone is no option.
abbrev pub IsItem : Item → Type 0
IsItem (Raised option) = is_flag (kind_of option) ≡ true
IsItem (Apart option value) = (is_flag (kind_of option) ≡ false) × IsPlainWord value
IsItem (Joined option value) = is_flag (kind_of option) ≡ false
IsItem (Operand word) = (word ≡ codes "-") ⊎ IsPlainWord word

-- an option, and the value that it is given; a flag's is empty
abbrev pub Given : Type 0
Given = OptionName × Text

abbrev pub given_by : Item → List Given
given_by (Raised option) = (option, []) ∷ []
given_by (Apart option value) = (option, value) ∷ []
given_by (Joined option value) = (option, value) ∷ []
given_by (Operand word) = []

abbrev pub operand_by : Item → List Text
operand_by (Operand word) = word ∷ []
operand_by _ = []

-- Behind the items the words may go on with `--`. Then each word behind it is no option.
abbrev pub tail_of : Option (List Text) → List Text
tail_of None = []
tail_of (Some words) = codes "--" ∷ words

abbrev pub behind_of : Option (List Text) → List Text
behind_of None = []
behind_of (Some words) = words

-- The words say these options and these words that are no options, in order.
pub record Says (words : List Text) (given : List Given) (operands : List Text) : Type 0 where
  pub items : List Item
  pub behind : Option (List Text)
  pub are_items : All IsItem items
  pub spelled : words ≡ flat_map spelling items ++ tail_of behind
  pub given_are : given ≡ flat_map given_by items
  pub operands_are : operands ≡ flat_map operand_by items ++ behind_of behind
