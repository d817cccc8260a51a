-- Declarations: no token of one is a directive, and tokens of the same kinds and lines spell the same.
use Rattle.std.proofs.Common.{◌≡◌, ℕ, List, [], ◌∷◌, Option, Some, None, refl, sym, ◌∙◌, subst, inl, inr}
use Rattle.css_base.specs.Tokens as tokens
use Rattle.css_base.specs.Tokens.{Lexeme}
use Rattle.css_tree.specs.declared.scope.Scope.{Scope}
use Rattle.css_tree.specs.Syntax.{Expression, Dimensions, Initialiser, Value, String, Braces, Initialisers, NoParts, MoreParts, Declarator, Declaration}
use Rattle.css_tree.specs.Declarations.{SpellsOptional, SpellsDimensions, IsStringAlone, IsOptionalComma, SpellsInitialiser, SpellsParts, SpellsFurtherParts, SpellsInitial, SpellsDeclarator, SpellsBehindCommas, SpellsBetweenCommas, SpellsDeclaration}
use Rattle.css_unmarking.proofs.Others.{Same, none_same, Done, Tokens, Sign, Named, Token, same_parts, first_same, Plain, plain_parts}
use Rattle.css_unmarking.proofs.OthersWords.{specifiers_plain, specifiers_same, stars_plain, stars_same}
use Rattle.css_unmarking.proofs.OthersExpressions.{expression_plain, expression_same}

-- ---- nothing, and lists

pub nothing_plain : (ts : List Lexeme) → ts ≡ [] → Plain ts
nothing_plain ts none = subst Plain (sym none) tt

pub nothing_same : (ts us : List Lexeme) → ts ≡ [] → Same ts us → us ≡ []
nothing_same ts us none h = none_same us (subst (λ l. Same l us) none h)

module _ {A : Type 0} (Spells : List Lexeme → A → Type 0) (plain : (ts : List Lexeme) (x : A) → Spells ts x → Plain ts) where
  behind_plain : (ts : List Lexeme) (xs : List A) → SpellsBehindCommas Spells ts xs → Plain ts
  behind_plain ts [] s = nothing_plain ts s
  behind_plain ts (x ∷ xs) (us, vs, a, s, more) = plain_parts ts (Sign (Tokens (Tokens Done))) a (plain us x s, (behind_plain vs xs more, tt))

  pub between_plain : (ts : List Lexeme) (xs : List A) → SpellsBetweenCommas Spells ts xs → Plain ts
  between_plain ts [] s = absurd s
  between_plain ts (x ∷ xs) (us, vs, a, s, more) = plain_parts ts (Tokens (Tokens Done)) a (plain us x s, (behind_plain vs xs more, tt))

module _ {A : Type 0} (Spells : List Lexeme → A → Type 0) (same : (ts : List Lexeme) (x : A) → Spells ts x → (us : List Lexeme) → Same ts us → Spells us x) where
  behind_same : (ts : List Lexeme) (xs : List A) → SpellsBehindCommas Spells ts xs → (us : List Lexeme) → Same ts us → SpellsBehindCommas Spells us xs
  behind_same ts [] s others h = nothing_same ts others s h
  behind_same ts (x ∷ xs) (us, vs, a, s, more) others h =
      let (us', p, (vs', q, b)) = same_parts ts others (Sign (Tokens (Tokens Done))) a h in
      (us', vs', b, same us x s us' p, behind_same vs xs more vs' q)

  pub between_same : (ts : List Lexeme) (xs : List A) → SpellsBetweenCommas Spells ts xs → (us : List Lexeme) → Same ts us → SpellsBetweenCommas Spells us xs
  between_same ts [] s others h = absurd s
  between_same ts (x ∷ xs) (us, vs, a, s, more) others h =
      let (us', p, (vs', q, b)) = same_parts ts others (Tokens (Tokens Done)) a h in
      (us', vs', b, same us x s us' p, behind_same vs xs more vs' q)

-- ---- declarators

pub optional_plain : (scope : Scope) (k : ℕ) (ts : List Lexeme) (value : Option Expression) → SpellsOptional scope k ts value → Plain ts
optional_plain scope k ts None s = nothing_plain ts s
optional_plain scope k ts (Some e) s = expression_plain s

pub optional_same : (scope : Scope) (k : ℕ) (ts : List Lexeme) (value : Option Expression) → SpellsOptional scope k ts value → (us : List Lexeme) → Same ts us → SpellsOptional scope k us value
optional_same scope k ts None s us h = nothing_same ts us s h
optional_same scope k ts (Some e) s us h = expression_same s us h

pub dimensions_plain : (scope : Scope) (ts : List Lexeme) (sizes : Dimensions) → SpellsDimensions scope ts sizes → Plain ts
dimensions_plain scope ts [] s = nothing_plain ts s
dimensions_plain scope ts (size ∷ sizes) (us, vs, a, s, more) =
    plain_parts ts (Sign (Tokens (Sign (Tokens Done)))) a (optional_plain scope _ us size s, (dimensions_plain scope vs sizes more, tt))

pub dimensions_same : (scope : Scope) (ts : List Lexeme) (sizes : Dimensions) → SpellsDimensions scope ts sizes → (us : List Lexeme) → Same ts us → SpellsDimensions scope us sizes
dimensions_same scope ts [] s others h = nothing_same ts others s h
dimensions_same scope ts (size ∷ sizes) (us, vs, a, s, more) others h =
    let (us', p, (vs', q, b)) = same_parts ts others (Sign (Tokens (Sign (Tokens Done)))) a h in
    (us', vs', b, optional_same scope _ us size s us' p, dimensions_same scope vs sizes more vs' q)

string_alone : (ts us : List Lexeme) → Same ts us → IsStringAlone us → IsStringAlone ts
string_alone ts us h (bytes, a) = (bytes, same_parts us ts (Token {kind = tokens.Text bytes} refl Done) a (sym h))

comma_plain : (ts : List Lexeme) → IsOptionalComma ts → Plain ts
comma_plain ts (inl none) = nothing_plain ts none
comma_plain ts (inr a) = plain_parts ts (Sign Done) a tt

comma_same : (ts : List Lexeme) → IsOptionalComma ts → (us : List Lexeme) → Same ts us → IsOptionalComma us
comma_same ts (inl none) us h = inl (nothing_same ts us none h)
comma_same ts (inr a) us h = inr (same_parts ts us (Sign Done) a h)

mutual
  initialiser_plain : (scope : Scope) (ts : List Lexeme) (i : Initialiser) → SpellsInitialiser scope ts i → Plain ts
  initialiser_plain scope ts (Value e) s = expression_plain s.0
  initialiser_plain scope ts (String line bytes) s = plain_parts ts (Token {kind = tokens.Text bytes} refl Done) s.0 tt
  initialiser_plain scope ts (Braces line all) (us, vs, a, line_is, s, comma) =
      plain_parts ts (Sign (Tokens (Tokens (Sign Done)))) a (parts_plain scope us all s, (comma_plain vs comma, tt))

  parts_plain : (scope : Scope) (ts : List Lexeme) (all : Initialisers) → SpellsParts scope ts all → Plain ts
  parts_plain scope ts NoParts s = absurd s
  parts_plain scope ts (MoreParts first others) (us, vs, a, s, more) =
      plain_parts ts (Tokens (Tokens Done)) a (initialiser_plain scope us first s, (further_parts_plain scope vs others more, tt))

  further_parts_plain : (scope : Scope) (ts : List Lexeme) (all : Initialisers) → SpellsFurtherParts scope ts all → Plain ts
  further_parts_plain scope ts NoParts s = nothing_plain ts s
  further_parts_plain scope ts (MoreParts first others) (us, vs, a, s, more) =
      plain_parts ts (Sign (Tokens (Tokens Done))) a (initialiser_plain scope us first s, (further_parts_plain scope vs others more, tt))

mutual
  initialiser_same : (scope : Scope) (ts : List Lexeme) (i : Initialiser) → SpellsInitialiser scope ts i → (us : List Lexeme) → Same ts us → SpellsInitialiser scope us i
  initialiser_same scope ts (Value e) s others h = (expression_same s.0 others h, λ alone. s.1 (string_alone ts others h alone))
  initialiser_same scope ts (String line bytes) s others h = (same_parts ts others (Token {kind = tokens.Text bytes} refl Done) s.0 h, first_same ts others h ∙ s.1)
  initialiser_same scope ts (Braces line all) (us, vs, a, line_is, s, comma) others h =
      let (us', p, (vs', q, b)) = same_parts ts others (Sign (Tokens (Tokens (Sign Done)))) a h in
      (us', vs', b, first_same ts others h ∙ line_is, parts_same scope us all s us' p, comma_same vs comma vs' q)

  parts_same : (scope : Scope) (ts : List Lexeme) (all : Initialisers) → SpellsParts scope ts all → (us : List Lexeme) → Same ts us → SpellsParts scope us all
  parts_same scope ts NoParts s others h = absurd s
  parts_same scope ts (MoreParts first further) (us, vs, a, s, more) others h =
      let (us', p, (vs', q, b)) = same_parts ts others (Tokens (Tokens Done)) a h in
      (us', vs', b, initialiser_same scope us first s us' p, further_parts_same scope vs further more vs' q)

  further_parts_same : (scope : Scope) (ts : List Lexeme) (all : Initialisers) → SpellsFurtherParts scope ts all → (us : List Lexeme) → Same ts us → SpellsFurtherParts scope us all
  further_parts_same scope ts NoParts s others h = nothing_same ts others s h
  further_parts_same scope ts (MoreParts first further) (us, vs, a, s, more) others h =
      let (us', p, (vs', q, b)) = same_parts ts others (Sign (Tokens (Tokens Done))) a h in
      (us', vs', b, initialiser_same scope us first s us' p, further_parts_same scope vs further more vs' q)

initial_plain : (scope : Scope) (ts : List Lexeme) (i : Option Initialiser) → SpellsInitial scope ts i → Plain ts
initial_plain scope ts None s = nothing_plain ts s
initial_plain scope ts (Some i) (us, a, s) = plain_parts ts (Sign (Tokens Done)) a (initialiser_plain scope us i s, tt)

initial_same : (scope : Scope) (ts : List Lexeme) (i : Option Initialiser) → SpellsInitial scope ts i → (us : List Lexeme) → Same ts us → SpellsInitial scope us i
initial_same scope ts None s others h = nothing_same ts others s h
initial_same scope ts (Some i) (us, a, s) others h =
    let (us', p, b) = same_parts ts others (Sign (Tokens Done)) a h in
    (us', b, initialiser_same scope us i s us' p)

declarator_plain : (scope : Scope) (ts : List Lexeme) (d : Declarator) → SpellsDeclarator scope ts d → Plain ts
declarator_plain scope ts d s =
    plain_parts ts (Tokens (Named (Tokens (Tokens Done)))) s.parts
    (stars_plain s.stars d.stars s.spells_stars, (dimensions_plain scope s.dimensions d.dimensions s.spells_dimensions, (initial_plain scope s.initial d.initialiser s.spells_initial, tt)))

declarator_same : (scope : Scope) (ts : List Lexeme) (d : Declarator) → SpellsDeclarator scope ts d → (us : List Lexeme) → Same ts us → SpellsDeclarator scope us d
declarator_same scope ts d s us h =
    let (stars, p, (dimensions, q, (initial, r, a))) = same_parts ts us (Tokens (Named (Tokens (Tokens Done)))) s.parts h in
    record {
      stars = stars;
      dimensions = dimensions;
      initial = initial;
      parts = a;
      line_is = first_same ts us h ∙ s.line_is;
      spells_stars = stars_same s.stars d.stars s.spells_stars stars p;
      named = s.named;
      spells_dimensions = dimensions_same scope s.dimensions d.dimensions s.spells_dimensions dimensions q;
      spells_initial = initial_same scope s.initial d.initialiser s.spells_initial initial r;
    }

-- ---- declarations

pub declaration_plain : (scope : Scope) (ts : List Lexeme) (d : Declaration) → SpellsDeclaration scope ts d → Plain ts
declaration_plain scope ts d s =
    plain_parts ts (Tokens (Tokens (Sign Done))) s.parts
    (specifiers_plain s.spells_specifiers, (between_plain (SpellsDeclarator scope) (declarator_plain scope) s.declarators d.declarators s.spells_declarators, tt))

pub declaration_same : (scope : Scope) (ts : List Lexeme) (d : Declaration) → SpellsDeclaration scope ts d → (us : List Lexeme) → Same ts us → SpellsDeclaration scope us d
declaration_same scope ts d s us h =
    let (specifiers, p, (declarators, q, a)) = same_parts ts us (Tokens (Tokens (Sign Done))) s.parts h in
    record {
      specifiers = specifiers;
      declarators = declarators;
      parts = a;
      line_is = first_same ts us h ∙ s.line_is;
      spells_specifiers = specifiers_same s.spells_specifiers specifiers p;
      spells_declarators = between_same (SpellsDeclarator scope) (declarator_same scope) s.declarators d.declarators s.spells_declarators declarators q;
    }
