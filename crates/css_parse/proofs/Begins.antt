-- What an expression begins with.
use Rattle.std.proofs.Common.{◌≡◌, ◌⊎◌, ℕ, Bool, true, false, List, [], ◌∷◌, ◌++◌, codes, Option, Some, None, bytes_eq, refl, sym, ap, ◌∙◌, subst, inl, inr}
use Rattle.std.specs.List.{list_any}
use Rattle.std.proofs.lemmas.Bool.{false≢true}
use Rattle.std.proofs.lemmas.Slice.Eq.{bytes_eq-Decides}
use Rattle.css_base.specs.Tokens as tokens
use Rattle.css_base.specs.Tokens.{Kind, Word, Punctuator, Lexeme}
use Rattle.css_tree.specs.declared.scope.Scope.{Scope}
use Rattle.css_tree.specs.declared.words.Specifier.{Specifier}
use Rattle.css_tree.specs.declared.words.Specifier.TheVariants as specifiers
use Rattle.css_tree.specs.declared.operators.UnaryOperator.{UnaryOperator}
use Rattle.css_tree.specs.declared.operators.UnaryOperator.TheVariants as unaries
use Rattle.css_tree.specs.Syntax.{Expression}
use Rattle.css_tree.specs.TokenParts.{kind_at}
use Rattle.css_tree.specs.Words.{is_keyword, specifier_text}
use Rattle.css_tree.specs.Expressions as spelled
use Rattle.css_tree.specs.Expressions.{unary_text, SpellsExpression}
use Rattle.css_parse.specs.declared.form.Form.{Form}
use Rattle.css_parse.specs.declared.form.Form.TheVariants as forms
use Rattle.css_parse.specs.Fronts.{Next}
use Rattle.css_parse.specs.Forms.{form_of, form_of_punctuator}
use Rattle.css_parse.specs.Words.{next_specifier, specifier_of, specifier_spelled}
use Rattle.css_parse.specs.Readings.{IsNoNext}
use Rattle.css_parse.proofs.WordTexts.{specifier_bytes}
use Rattle.css_parse.proofs.FormKinds.{form_kind, form_is}

-- punctuators that begin no expression
abbrev pub no_starts : List (List ℕ)
no_starts = codes "{" ∷ codes "}" ∷ codes ")" ∷ codes "]" ∷ codes ";" ∷ codes "," ∷ codes "=" ∷ []

abbrev pub begins_none : List ℕ → Bool
begins_none bytes = list_any (bytes_eq bytes) no_starts

-- a token that may begin an expression: of words a name or `sizeof`
abbrev pub IsStart : Kind → Type 0
IsStart (Word bytes) = (is_keyword bytes ≡ false) ⊎ (bytes ≡ codes "sizeof")
IsStart (Punctuator bytes) = begins_none bytes ≡ false
IsStart (tokens.Directive words) = ⊥
IsStart kind = Unit {0}

pub record Begun (ts : List Lexeme) : Type 0 where
  pub token : Lexeme
  pub rest : List Lexeme
  pub parts : ts ≡ token ∷ rest
  pub is : IsStart (kind_at token)

by_one : {ts : List Lexeme} {kind : Kind} (token : Lexeme) (rest : List Lexeme) → ts ≡ token ∷ rest → kind_at token ≡ kind → IsStart kind → Begun ts
by_one token rest e is start = record { token = token; rest = rest; parts = e; is = subst IsStart (sym is) start }

by_these : {ts : List Lexeme} (us rest : List Lexeme) → ts ≡ us ++ rest → Begun us → Begun ts
by_these us rest e b = record { token = b.token; rest = b.rest ++ rest; parts = e ∙ ap (λ l. l ++ rest) b.parts; is = b.is }

unary_start : (op : UnaryOperator) → begins_none (unary_text op) ≡ false
unary_start unaries.AddressOf = refl
unary_start unaries.Dereference = refl
unary_start unaries.Plus = refl
unary_start unaries.Minus = refl
unary_start unaries.Complement = refl
unary_start unaries.Not = refl

pub begun : {scope : Scope} {k : ℕ} {ts : List Lexeme} {e : Expression} → SpellsExpression scope k ts e → Begun ts
begun (spelled.Comma us vs low line a x y) = by_these us a.0 a.1 (begun x)
begun (spelled.Assign op us vs low line a x y) = by_these us a.0 a.1 (begun x)
begun (spelled.Conditional us vs ws low line a x y z) = by_these us a.0 a.1 (begun x)
begun (spelled.Binary op us vs low line a x y) = by_these us a.0 a.1 (begun x)
begun (spelled.Cast type us vs low line a x y) = by_one a.0 a.1 a.2 a.3 refl
begun (spelled.PreIncrement us low line a x) = by_one a.0 a.1 a.2 a.3 refl
begun (spelled.PreDecrement us low line a x) = by_one a.0 a.1 a.2 a.3 refl
begun (spelled.Unary op us low line a x) = by_one a.0 a.1 a.2 a.3 (unary_start op)
begun (spelled.SizeofExpression us low line a x) = by_one a.0 a.1 a.2 a.3 (inr refl)
begun (spelled.SizeofType type us low line a x) = by_one a.0 a.1 a.2 a.3 (inr refl)
begun (spelled.Index us vs low line a x y) = by_these us a.0 a.1 (begun x)
begun (spelled.PostIncrement us low line a x) = by_these us a.0 a.1 (begun x)
begun (spelled.PostDecrement us low line a x) = by_these us a.0 a.1 (begun x)
begun (spelled.Call name us low line a named x) = by_one a.0 a.1 a.2 a.3 (inl named)
begun (spelled.Name name line a named) = by_one a.0 a.1 a.2 a.3 (inl named)
begun (spelled.Constant type value line a) = by_one a.0 a.1 a.2 a.3 tt
begun (spelled.Character byte line a) = by_one a.0 a.1 a.2 a.3 tt
begun (spelled.String bytes line a) = by_one a.0 a.1 a.2 a.3 tt
begun (spelled.Parentheses us a x) = by_one a.0 a.1 a.2 a.3 refl

-- more tokens behind
pub begun_before : {ts : List Lexeme} (rest : List Lexeme) → Begun ts → Begun (ts ++ rest)
begun_before rest b = record { token = b.token; rest = b.rest ++ rest; parts = ap (λ l. l ++ rest) b.parts; is = b.is }

-- ---- what doesn't begin one

pub not_next : {ts : List Lexeme} (kind : Kind) → Begun ts → (IsStart kind → ⊥) → IsNoNext kind ts
not_next kind b none behind n =
    let p = b.parts in
    let q = n.parts in
    let token : b.token ≡ n.token = cc in
    none (subst IsStart (ap kind_at token ∙ n.is) b.is)

keyword_specifier : (s : Specifier) → is_keyword (specifier_text s) ≡ true
unfolding is_keyword
keyword_specifier specifiers.Void = refl
keyword_specifier specifiers.Char = refl
keyword_specifier specifiers.Short = refl
keyword_specifier specifiers.Int = refl
keyword_specifier specifiers.Long = refl
keyword_specifier specifiers.Signed = refl
keyword_specifier specifiers.Unsigned = refl
keyword_specifier specifiers.Auto = refl
keyword_specifier specifiers.Const = refl
keyword_specifier specifiers.Inline = refl
keyword_specifier specifiers.Register = refl
keyword_specifier specifiers.Restrict = refl
keyword_specifier specifiers.Volatile = refl
keyword_specifier specifiers.Static = refl

sizeof_specifier : (s : Specifier) → bytes_eq (codes "sizeof") (specifier_text s) ≡ false
sizeof_specifier specifiers.Void = refl
sizeof_specifier specifiers.Char = refl
sizeof_specifier specifiers.Short = refl
sizeof_specifier specifiers.Int = refl
sizeof_specifier specifiers.Long = refl
sizeof_specifier specifiers.Signed = refl
sizeof_specifier specifiers.Unsigned = refl
sizeof_specifier specifiers.Auto = refl
sizeof_specifier specifiers.Const = refl
sizeof_specifier specifiers.Inline = refl
sizeof_specifier specifiers.Register = refl
sizeof_specifier specifiers.Restrict = refl
sizeof_specifier specifiers.Volatile = refl
sizeof_specifier specifiers.Static = refl

sizeof_same : bytes_eq (codes "sizeof") (codes "sizeof") ≡ true
sizeof_same = refl

no_word_specifier : (scope : Scope) (bytes : List ℕ) → (is_keyword bytes ≡ false) ⊎ (bytes ≡ codes "sizeof") → specifier_spelled scope bytes ≡ None
no_word_specifier scope bytes start = by (specifier_spelled scope bytes) refl
  where
    wrong : (s : Specifier) → bytes ≡ specifier_text s → (is_keyword bytes ≡ false) ⊎ (bytes ≡ codes "sizeof") → ⊥
    wrong s e (inl named) = false≢true (sym (sym (keyword_specifier s) ∙ ap is_keyword (sym e) ∙ named))
    wrong s e (inr is) = false≢true (sym (sym sizeof_same ∙ ap (bytes_eq (codes "sizeof")) (sym is ∙ e) ∙ sizeof_specifier s))

    by : (found : Option Specifier) → specifier_spelled scope bytes ≡ found → specifier_spelled scope bytes ≡ None
    by None e = e
    by (Some s) e = absurd (wrong s (specifier_bytes scope bytes s e) start)

pub no_kind_specifier : (scope : Scope) (kind : Kind) → IsStart kind → specifier_of scope kind ≡ None
no_kind_specifier scope (Word bytes) start = no_word_specifier scope bytes start
no_kind_specifier scope (Punctuator bytes) start = refl
no_kind_specifier scope (tokens.Number type value) start = refl
no_kind_specifier scope (tokens.Character byte) start = refl
no_kind_specifier scope (tokens.Text bytes) start = refl
no_kind_specifier scope (tokens.Directive words) start = absurd start

pub no_specifier_begun : (scope : Scope) (ts : List Lexeme) → Begun ts → next_specifier scope ts ≡ None
no_specifier_begun scope ts b = ap (next_specifier scope) b.parts ∙ no_kind_specifier scope (kind_at b.token) b.is

keyword_form : (f : Form) → IsStart (form_kind f) → ⊥
unfolding is_keyword
keyword_form forms.Block start = false≢true (sym start)
keyword_form forms.If (inl start) = false≢true (sym start)
keyword_form forms.If (inr start) = false≢true ((bytes_eq-Decides (codes "if") (codes "sizeof")).1 start)
keyword_form forms.While (inl start) = false≢true (sym start)
keyword_form forms.While (inr start) = false≢true ((bytes_eq-Decides (codes "while") (codes "sizeof")).1 start)
keyword_form forms.Do (inl start) = false≢true (sym start)
keyword_form forms.Do (inr start) = false≢true ((bytes_eq-Decides (codes "do") (codes "sizeof")).1 start)
keyword_form forms.For (inl start) = false≢true (sym start)
keyword_form forms.For (inr start) = false≢true ((bytes_eq-Decides (codes "for") (codes "sizeof")).1 start)
keyword_form forms.Break (inl start) = false≢true (sym start)
keyword_form forms.Break (inr start) = false≢true ((bytes_eq-Decides (codes "break") (codes "sizeof")).1 start)
keyword_form forms.Continue (inl start) = false≢true (sym start)
keyword_form forms.Continue (inr start) = false≢true ((bytes_eq-Decides (codes "continue") (codes "sizeof")).1 start)
keyword_form forms.Return (inl start) = false≢true (sym start)
keyword_form forms.Return (inr start) = false≢true ((bytes_eq-Decides (codes "return") (codes "sizeof")).1 start)

pub no_form_begun : (kind : Kind) → IsStart kind → form_of kind ≡ None
no_form_begun kind start = by (form_of kind) refl
  where
    by : (found : Option Form) → form_of kind ≡ found → form_of kind ≡ None
    by None e = e
    by (Some f) e = absurd (keyword_form f (subst IsStart (form_is kind f e) start))
