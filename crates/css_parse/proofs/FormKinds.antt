-- The token that begins a statement of a form.
use Rattle.std.proofs.Common.{◌≡◌, ℕ, Bool, true, false, List, [], ◌∷◌, codes, Option, Some, None, bytes_eq, refl, sym, ap, ◌∙◌, if◌then◌else◌}
use Rattle.std.proofs.lemmas.Slice.Eq.{bytes_eq-Decides}
use Rattle.css_base.specs.Tokens as tokens
use Rattle.css_base.specs.Tokens.{Kind, Word, Punctuator}
use Rattle.css_parse.specs.declared.form.Form.{Form}
use Rattle.css_parse.specs.declared.form.Form.TheVariants as forms
use Rattle.css_parse.specs.Forms.{form_of, form_of_punctuator, form_of_word}

abbrev pub form_kind : Form → Kind
form_kind forms.Block = Punctuator (codes "{")
form_kind forms.If = Word (codes "if")
form_kind forms.While = Word (codes "while")
form_kind forms.Do = Word (codes "do")
form_kind forms.For = Word (codes "for")
form_kind forms.Break = Word (codes "break")
form_kind forms.Continue = Word (codes "continue")
form_kind forms.Return = Word (codes "return")

-- a choice by whether bytes are a word
chosen : (bytes word : List ℕ) (f g : Form) (others : Option Form) → form_kind f ≡ Word word → (others ≡ Some g → Word bytes ≡ form_kind g)
    → (if bytes_eq bytes word then Some f else others) ≡ Some g → Word bytes ≡ form_kind g
chosen bytes word f g others kind later h = by (bytes_eq bytes word) refl h
  where
    by : (b : Bool) → bytes_eq bytes word ≡ b → (if b then Some f else others) ≡ Some g → Word bytes ≡ form_kind g
    by true is e = (let same : f ≡ g = cc in ap Word ((bytes_eq-Decides bytes word).0 is) ∙ sym kind ∙ ap form_kind same)
    by false is e = later e

word_form : (bytes : List ℕ) (f : Form) → form_of_word bytes ≡ Some f → Word bytes ≡ form_kind f
unfolding form_of_word
word_form bytes f h =
    chosen bytes (codes "if") forms.If f _ refl
    (chosen bytes (codes "while") forms.While f _ refl
    (chosen bytes (codes "do") forms.Do f _ refl
    (chosen bytes (codes "for") forms.For f _ refl
    (chosen bytes (codes "break") forms.Break f _ refl
    (chosen bytes (codes "continue") forms.Continue f _ refl
    (chosen bytes (codes "return") forms.Return f _ refl (λ e. absurd cc))))))) h

mark_form : (bytes : List ℕ) (f : Form) → form_of_punctuator bytes ≡ Some f → Punctuator bytes ≡ form_kind f
unfolding form_of_punctuator
mark_form bytes f h = by (bytes_eq bytes (codes "{")) refl h
  where
    by : (b : Bool) → bytes_eq bytes (codes "{") ≡ b → (if b then Some forms.Block else None) ≡ Some f → Punctuator bytes ≡ form_kind f
    by true is e = (let same : forms.Block ≡ f = cc in ap Punctuator ((bytes_eq-Decides bytes (codes "{")).0 is) ∙ ap form_kind same)
    by false is e = absurd cc

pub form_is : (kind : Kind) (f : Form) → form_of kind ≡ Some f → kind ≡ form_kind f
form_is (Word bytes) f h = word_form bytes f h
form_is (Punctuator bytes) f h = mark_form bytes f h
form_is (tokens.Number type value) f h = absurd cc
form_is (tokens.Character byte) f h = absurd cc
form_is (tokens.Text bytes) f h = absurd cc
form_is (tokens.Directive words) f h = absurd cc

pub form_found : (f : Form) → form_of (form_kind f) ≡ Some f
unfolding form_of_word form_of_punctuator
form_found forms.Block = refl
form_found forms.If = refl
form_found forms.While = refl
form_found forms.Do = refl
form_found forms.For = refl
form_found forms.Break = refl
form_found forms.Continue = refl
form_found forms.Return = refl
