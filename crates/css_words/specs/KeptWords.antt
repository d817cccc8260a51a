-- How the code keeps what words say.
use Rattle.std.specs.Prelude.{◌≡◌, List, [], ◌∷◌, ◌++◌, map, string_bytes, String}
use Rattle.css_words.specs.declared.part.Given.{Given as GivenOption}
use Rattle.css_words.specs.declared.part.Part.{Part}
use Rattle.css_words.specs.declared.part.Part.TheVariants as parts
use Rattle.css_words.specs.Options.{Text}
use Rattle.css_words.specs.Items.{Item, IsItem, Given, Says, given_by, operand_by, spelling}

abbrev pub texts : {Z : Type 0} → List (String Z) → List Text
texts words = map string_bytes words

abbrev pub pair_of : GivenOption → Given
pair_of g = (g.option, g.value.now)

abbrev pub pairs : List GivenOption → List Given
pairs given = map pair_of given

abbrev pub given_in : Part → List Given
given_in (parts.Given g) = pair_of g ∷ []
given_in (parts.Operand word) = []

abbrev pub operand_in : Part → List Text
operand_in (parts.Given g) = []
operand_in (parts.Operand word) = word.now ∷ []

-- The words begin with this item's, and the rest follows.
pub record BeginsWith (words : List Text) (item : Item) (rest : List Text) : Type 0 where
  pub is_item : IsItem item
  pub spelled : words ≡ spelling item ++ rest

-- The words begin with an item, of which the code keeps this.
pub record StandsFirst (words : List Text) (part : Part) (rest : List Text) : Type 0 where
  pub item : Item
  pub begins : BeginsWith words item rest
  pub given : given_in part ≡ given_by item
  pub operand : operand_in part ≡ operand_by item

abbrev pub NothingStandsFirst : List Text → Type 0
NothingStandsFirst words = (item : Item) (rest : List Text) → BeginsWith words item rest → ⊥

abbrev pub SayNothing : List Text → Type 0
SayNothing words = (given : List Given) (operands : List Text) → Says words given operands → ⊥
