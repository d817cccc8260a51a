-- Tokens that are names by themselves.
use Rattle.std.proofs.Common.{◌≡◌, ℕ, ◌<◌, ◌≤◌, List, [], ◌∷◌, ◌++◌, length, take, drop, refl, ap, ◌∙◌, subst, arith}
use Rattle.std.proofs.lemmas.List.{length-append}
use Rattle.css_base.specs.declared.token.Token.{Token}
use Rattle.css_base.specs.Tokens.{Word, Lexeme, lexeme, lexemes}
use Rattle.css_tree.specs.declared.scope.Scope.{Scope}
use Rattle.css_tree.specs.declared.scope.Scope.TheVariants as scopes
use Rattle.css_tree.specs.Syntax as tree
use Rattle.css_tree.specs.Syntax.{Expression}
use Rattle.css_tree.specs.TokenParts.{kind_at, line_of}
use Rattle.css_tree.specs.Words.{IsName}
use Rattle.css_tree.specs.Expressions as spelled
use Rattle.css_tree.specs.Expressions.{SpellsExpression}
use Rattle.css_pexpr.specs.declared.level.Level.TheVariants as levels
use Rattle.css_parse.specs.Readings.{ReadsExpression, ReadsName}

-- one token, which is this name
record IsNamed (ts : List Lexeme) (name : List ℕ) : Type 0 where
  pub token : Lexeme
  pub parts : ts ≡ token ∷ []
  pub is : kind_at token ≡ Word name
  pub named : IsName name

named : {scope : Scope} {k : ℕ} {ts : List Lexeme} {e : Expression} (line : ℕ) (name : List ℕ) → e ≡ tree.Name line name → length ts ≤ 1 → SpellsExpression scope k ts e → IsNamed ts name
named line name e short (spelled.Name own at a is) =
    let same : own ≡ name = cc in
    record { token = a.0; parts = a.2 ∙ ap (λ l. a.0 ∷ l) a.4; is = a.3 ∙ ap Word same; named = subst IsName same is }
named line name e short (spelled.Parentheses us a x) =
    let whole = ap length a.2 in
    let inner = ap length a.4.1 ∙ length-append us a.4.0 in
    let last = ap length a.4.2.2 in
    absurd (omega arith)
named line name e short (spelled.Comma us vs low at a x y) = absurd cc
named line name e short (spelled.Assign op us vs low at a x y) = absurd cc
named line name e short (spelled.Conditional us vs ws low at a x y z) = absurd cc
named line name e short (spelled.Binary op us vs low at a x y) = absurd cc
named line name e short (spelled.Cast type us vs low at a x y) = absurd cc
named line name e short (spelled.PreIncrement us low at a x) = absurd cc
named line name e short (spelled.PreDecrement us low at a x) = absurd cc
named line name e short (spelled.Unary op us low at a x) = absurd cc
named line name e short (spelled.SizeofExpression us low at a x) = absurd cc
named line name e short (spelled.SizeofType type us low at a x) = absurd cc
named line name e short (spelled.Index us vs low at a x y) = absurd cc
named line name e short (spelled.PostIncrement us low at a x) = absurd cc
named line name e short (spelled.PostDecrement us low at a x) = absurd cc
named line name e short (spelled.Call own us low at a n x) = absurd cc
named line name e short (spelled.Constant type value at a) = absurd cc
named line name e short (spelled.Character byte at a) = absurd cc
named line name e short (spelled.String bytes at a) = absurd cc

-- a token that by itself is an expression and a name
pub name_read : (ts : List Token) (line : ℕ) (name : List ℕ) {e : Expression} {rest : List Lexeme} → ReadsExpression scopes.File levels.Cond 500 (lexemes (take 1 ts)) e rest → e ≡ tree.Name line name
    → ReadsName (lexemes ts) name (lexemes (drop 1 ts))
name_read [] line name {e} {rest} r is =
    let size = ap length r.longest.parts ∙ length-append r.longest.front rest in
    let n = named line name is (omega arith) r.longest.spells in
    let some = ap length n.parts in
    absurd (omega arith)
name_read (t ∷ ts) line name {e} {rest} r is =
    let size = ap length r.longest.parts ∙ length-append r.longest.front rest in
    let n = named line name is (omega arith) r.longest.spells in
    let whole : lexeme t ∷ [] ≡ n.token ∷ rest = r.longest.parts ∙ ap (λ l. l ++ rest) n.parts in
    let token : lexeme t ≡ n.token = cc in
    record { word = record { token = lexeme t; parts = refl; is = ap kind_at token ∙ n.is }; named = n.named }

-- a name is an expression by itself
pub name_alone : (ts : List Token) {name : List ℕ} {rest : List Lexeme} → ReadsName (lexemes ts) name rest → (line : ℕ) × ReadsExpression scopes.File levels.Cond 500 (lexemes (take 1 ts)) (tree.Name line name) []
name_alone [] {name} {rest} r = (let p = r.word.parts in absurd cc)
name_alone (t ∷ ts) {name} {rest} r =
    let p = r.word.parts in
    let token : lexeme t ≡ r.word.token = cc in (
      line_of (lexeme t),
      record {
        longest = record {
          front = lexeme t ∷ [];
          parts = refl;
          spells = spelled.Name name refl (lexeme t, [], refl, ap kind_at token ∙ r.word.is, refl) r.named;
          longest = λ more behind other e b. (let size = ap length e ∙ length-append more behind in omega arith);
        };
        low = omega arith;
      },
    )

pub name_some : {ts : List Lexeme} {name : List ℕ} {rest : List Lexeme} → ReadsName ts name rest → 0 < length ts
name_some r = (let p = ap length r.word.parts in omega arith)
