-- What the code finds first among words.
use Rattle.std.proofs.Common.{◌≡◌, ◌∙◌, ◌⊎◌, ◌+◌, ℕ, true, false, List, [], ◌∷◌, ◌++◌, Option, Some, None, MatchOption, IsNone, codes, drop, length, refl, sym, ap, ap₂, subst}
use Rattle.std.specs.Str.Pattern.{FindsTextPrefix}
use Rattle.css_words.specs.declared.options.OptionName.{OptionName}
use Rattle.css_words.specs.declared.part.Part.{Part}
use Rattle.css_words.specs.Options.{Text, option_name, kind_of}
use Rattle.css_words.specs.Items.{Raised, Apart, Joined, Operand, IsPlainWord, is_flag}
use Rattle.css_words.specs.KeptWords.{StandsFirst, NothingStandsFirst, given_in, operand_in}
use Rattle.css_words.proofs.Names.{NoEquals}
use Rattle.css_words.proofs.Items.{no_joined_option, no_apart_option}

pub found_joined : (o : OptionName) (name value : Text) (words : List Text) (part : Part) → option_name o ≡ name → is_flag (kind_of o) ≡ false
    → given_in part ≡ (o, value) ∷ [] → operand_in part ≡ []
    → StandsFirst ((codes "--" ++ (name ++ (codes "=" ++ value))) ∷ words) part words
found_joined o name value words part e k g p = record {
  item = Joined o value;
  begins = record { is_item = k; spelled = ap (λ (n : Text). (codes "--" ++ (n ++ (codes "=" ++ value))) ∷ words) (sym e) };
  given = g;
  operand = p;
}

pub found_flag : (o : OptionName) (name : Text) (words : List Text) (part : Part) → option_name o ≡ name → is_flag (kind_of o) ≡ true
    → given_in part ≡ (o, []) ∷ [] → operand_in part ≡ []
    → StandsFirst ((codes "--" ++ name) ∷ words) part words
found_flag o name words part e k g p = record {
  item = Raised o;
  begins = record { is_item = k; spelled = ap (λ (n : Text). (codes "--" ++ n) ∷ words) (sym e) };
  given = g;
  operand = p;
}

pub found_apart : (o : OptionName) (name value : Text) (words rest : List Text) (part : Part) → option_name o ≡ name → is_flag (kind_of o) ≡ false
    → IsPlainWord value → words ≡ value ∷ rest → given_in part ≡ (o, value) ∷ [] → operand_in part ≡ []
    → StandsFirst ((codes "--" ++ name) ∷ words) part rest
found_apart o name value words rest part e k plain w g p = record {
  item = Apart o value;
  begins = record { is_item = (k, plain); spelled = ap₂ (λ (n : Text) (ws : List Text). (codes "--" ++ n) ∷ ws) (sym e) w };
  given = g;
  operand = p;
}

pub found_operand : (word : Text) (words : List Text) (part : Part) → (word ≡ codes "-") ⊎ IsPlainWord word
    → given_in part ≡ [] → operand_in part ≡ word ∷ [] → StandsFirst (word ∷ words) part words
found_operand word words part is g p = record { item = Operand word; begins = record { is_item = is; spelled = refl }; given = g; operand = p }

-- from what `strip_prefix` says
pub behind_dashes : (first body : Text) → (n : ℕ) × FindsTextPrefix (codes "--") first (Some n) × (body ≡ drop n first) × (length body + n ≡ length first)
    → first ≡ codes "--" ++ body
behind_dashes first body h = h.1.1 ∙ ap (λ (b : Text). codes "--" ++ b) (sym h.2)

module _ {F : Type 0} (part : F → Part) (rest : F → List Text) (first : Text) (words : List Text) where
  pub by_joined : (r : Option F) (name value : Text) → first ≡ codes "--" ++ (name ++ (codes "=" ++ value)) → NoEquals name
      → MatchOption r ((o : OptionName) → option_name o ≡ name → is_flag (kind_of o) ≡ false → ⊥)
      (λ found. StandsFirst ((codes "--" ++ (name ++ (codes "=" ++ value))) ∷ words) (part found) (rest found))
      → MatchOption r (NothingStandsFirst (first ∷ words)) (λ found. StandsFirst (first ∷ words) (part found) (rest found))
  by_joined None name value e n h = subst (λ (w : Text). NothingStandsFirst (w ∷ words)) (sym e) (no_joined_option name value words n h)
  by_joined (Some f) name value e n h = subst (λ (w : Text). StandsFirst (w ∷ words) (part f) (rest f)) (sym e) h

  pub by_apart : (r : Option F) (name : Text) → first ≡ codes "--" ++ name → NoEquals name
      → (IsNone r → (o : OptionName) → option_name o ≡ name → is_flag (kind_of o) ≡ true → ⊥)
      → (IsNone r → (o : OptionName) (value : Text) (others : List Text) → option_name o ≡ name → is_flag (kind_of o) ≡ false → words ≡ value ∷ others → IsPlainWord value → ⊥)
      → MatchOption r (Unit {0}) (λ found. StandsFirst ((codes "--" ++ name) ∷ words) (part found) (rest found))
      → MatchOption r (NothingStandsFirst (first ∷ words)) (λ found. StandsFirst (first ∷ words) (part found) (rest found))
  by_apart None name e n flag apart h = subst (λ (w : Text). NothingStandsFirst (w ∷ words)) (sym e) (no_apart_option name words n (flag refl) (apart refl))
  by_apart (Some f) name e n flag apart h = subst (λ (w : Text). StandsFirst (w ∷ words) (part f) (rest f)) (sym e) h
