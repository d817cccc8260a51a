-- Expressions: no token of one is a directive, and tokens of the same kinds and lines spell the same.
use Rattle.std.proofs.Common.{ℕ, List, refl, sym, ◌∙◌, subst}
use Rattle.css_base.specs.Tokens as tokens
use Rattle.css_base.specs.Tokens.{Lexeme}
use Rattle.css_tree.specs.declared.scope.Scope.{Scope}
use Rattle.css_tree.specs.Syntax.{Expression, Expressions}
use Rattle.css_tree.specs.Expressions.{SpellsExpression, Comma, Assign, Conditional, Binary, Cast, PreIncrement, PreDecrement, Unary, SizeofExpression, SizeofType, Index, PostIncrement, PostDecrement, Call, Name, Constant, Character, String, Parentheses, SpellsArguments, NoArguments, Arguments, SpellsFurther, NoFurther, Further}
use Rattle.css_unmarking.proofs.Others.{Same, none_same, same_split, Done, Tokens, Sign, Named, Token, same_parts, first_same, Plain, plain_parts}
use Rattle.css_unmarking.proofs.OthersWords.{type_plain, type_same}

mutual
  pub expression_plain : {scope : Scope} {k : ℕ} {ts : List Lexeme} {e : Expression} → SpellsExpression scope k ts e → Plain ts
  expression_plain {ts = ts} (Comma us vs low line a x y) = plain_parts ts (Tokens (Sign (Tokens Done))) a (expression_plain x, (expression_plain y, tt))
  expression_plain {ts = ts} (Assign op us vs low line a x y) = plain_parts ts (Tokens (Sign (Tokens Done))) a (expression_plain x, (expression_plain y, tt))
  expression_plain {ts = ts} (Conditional us vs ws low line a x y z) =
      plain_parts ts (Tokens (Sign (Tokens (Sign (Tokens Done))))) a (expression_plain x, (expression_plain y, (expression_plain z, tt)))
  expression_plain {ts = ts} (Binary op us vs low line a x y) = plain_parts ts (Tokens (Sign (Tokens Done))) a (expression_plain x, (expression_plain y, tt))
  expression_plain {ts = ts} (Cast type us vs low line a t x) = plain_parts ts (Sign (Tokens (Sign (Tokens Done)))) a (type_plain t, (expression_plain x, tt))
  expression_plain {ts = ts} (PreIncrement us low line a x) = plain_parts ts (Sign (Tokens Done)) a (expression_plain x, tt)
  expression_plain {ts = ts} (PreDecrement us low line a x) = plain_parts ts (Sign (Tokens Done)) a (expression_plain x, tt)
  expression_plain {ts = ts} (Unary op us low line a x) = plain_parts ts (Sign (Tokens Done)) a (expression_plain x, tt)
  expression_plain {ts = ts} (SizeofExpression us low line a x) = plain_parts ts (Named (Tokens Done)) a (expression_plain x, tt)
  expression_plain {ts = ts} (SizeofType type us low line a t) = plain_parts ts (Named (Sign (Tokens (Sign Done)))) a (type_plain t, tt)
  expression_plain {ts = ts} (Index us vs low line a x y) = plain_parts ts (Tokens (Sign (Tokens (Sign Done)))) a (expression_plain x, (expression_plain y, tt))
  expression_plain {ts = ts} (PostIncrement us low line a x) = plain_parts ts (Tokens (Sign Done)) a (expression_plain x, tt)
  expression_plain {ts = ts} (PostDecrement us low line a x) = plain_parts ts (Tokens (Sign Done)) a (expression_plain x, tt)
  expression_plain {ts = ts} (Call name us low line a named all) = plain_parts ts (Named (Sign (Tokens (Sign Done)))) a (arguments_plain all, tt)
  expression_plain {ts = ts} (Name name line a named) = plain_parts ts (Named Done) a tt
  expression_plain {ts = ts} (Constant type value line a) = plain_parts ts (Token {kind = tokens.Number type value} refl Done) a tt
  expression_plain {ts = ts} (Character byte line a) = plain_parts ts (Token {kind = tokens.Character byte} refl Done) a tt
  expression_plain {ts = ts} (String bytes line a) = plain_parts ts (Token {kind = tokens.Text bytes} refl Done) a tt
  expression_plain {ts = ts} (Parentheses us a x) = plain_parts ts (Sign (Tokens (Sign Done))) a (expression_plain x, tt)

  arguments_plain : {scope : Scope} {ts : List Lexeme} {all : Expressions} → SpellsArguments scope ts all → Plain ts
  arguments_plain (NoArguments none) = subst Plain (sym none) tt
  arguments_plain {ts = ts} (Arguments us vs parts x more) = plain_parts ts (Tokens (Tokens Done)) (vs, parts, refl) (expression_plain x, (further_plain more, tt))

  further_plain : {scope : Scope} {ts : List Lexeme} {all : Expressions} → SpellsFurther scope ts all → Plain ts
  further_plain (NoFurther none) = subst Plain (sym none) tt
  further_plain {ts = ts} (Further us vs a x more) = plain_parts ts (Sign (Tokens (Tokens Done))) a (expression_plain x, (further_plain more, tt))

mutual
  pub expression_same : {scope : Scope} {k : ℕ} {ts : List Lexeme} {e : Expression} → SpellsExpression scope k ts e → (us : List Lexeme) → Same ts us → SpellsExpression scope k us e
  expression_same {ts = ts} (Comma us vs low line a x y) others h =
      let (us', p, (vs', q, b)) = same_parts ts others (Tokens (Sign (Tokens Done))) a h in
      Comma us' vs' low (first_same ts others h ∙ line) b (expression_same x us' p) (expression_same y vs' q)
  expression_same {ts = ts} (Assign op us vs low line a x y) others h =
      let (us', p, (vs', q, b)) = same_parts ts others (Tokens (Sign (Tokens Done))) a h in
      Assign op us' vs' low (first_same ts others h ∙ line) b (expression_same x us' p) (expression_same y vs' q)
  expression_same {ts = ts} (Conditional us vs ws low line a x y z) others h =
      let (us', p, (vs', q, (ws', r, b))) = same_parts ts others (Tokens (Sign (Tokens (Sign (Tokens Done))))) a h in
      Conditional us' vs' ws' low (first_same ts others h ∙ line) b (expression_same x us' p) (expression_same y vs' q) (expression_same z ws' r)
  expression_same {ts = ts} (Binary op us vs low line a x y) others h =
      let (us', p, (vs', q, b)) = same_parts ts others (Tokens (Sign (Tokens Done))) a h in
      Binary op us' vs' low (first_same ts others h ∙ line) b (expression_same x us' p) (expression_same y vs' q)
  expression_same {ts = ts} (Cast type us vs low line a t x) others h =
      let (us', p, (vs', q, b)) = same_parts ts others (Sign (Tokens (Sign (Tokens Done)))) a h in
      Cast type us' vs' low (first_same ts others h ∙ line) b (type_same t us' p) (expression_same x vs' q)
  expression_same {ts = ts} (PreIncrement us low line a x) others h =
      let (us', p, b) = same_parts ts others (Sign (Tokens Done)) a h in
      PreIncrement us' low (first_same ts others h ∙ line) b (expression_same x us' p)
  expression_same {ts = ts} (PreDecrement us low line a x) others h =
      let (us', p, b) = same_parts ts others (Sign (Tokens Done)) a h in
      PreDecrement us' low (first_same ts others h ∙ line) b (expression_same x us' p)
  expression_same {ts = ts} (Unary op us low line a x) others h =
      let (us', p, b) = same_parts ts others (Sign (Tokens Done)) a h in
      Unary op us' low (first_same ts others h ∙ line) b (expression_same x us' p)
  expression_same {ts = ts} (SizeofExpression us low line a x) others h =
      let (us', p, b) = same_parts ts others (Named (Tokens Done)) a h in
      SizeofExpression us' low (first_same ts others h ∙ line) b (expression_same x us' p)
  expression_same {ts = ts} (SizeofType type us low line a t) others h =
      let (us', p, b) = same_parts ts others (Named (Sign (Tokens (Sign Done)))) a h in
      SizeofType type us' low (first_same ts others h ∙ line) b (type_same t us' p)
  expression_same {ts = ts} (Index us vs low line a x y) others h =
      let (us', p, (vs', q, b)) = same_parts ts others (Tokens (Sign (Tokens (Sign Done)))) a h in
      Index us' vs' low (first_same ts others h ∙ line) b (expression_same x us' p) (expression_same y vs' q)
  expression_same {ts = ts} (PostIncrement us low line a x) others h =
      let (us', p, b) = same_parts ts others (Tokens (Sign Done)) a h in
      PostIncrement us' low (first_same ts others h ∙ line) b (expression_same x us' p)
  expression_same {ts = ts} (PostDecrement us low line a x) others h =
      let (us', p, b) = same_parts ts others (Tokens (Sign Done)) a h in
      PostDecrement us' low (first_same ts others h ∙ line) b (expression_same x us' p)
  expression_same {ts = ts} (Call name us low line a named all) others h =
      let (us', p, b) = same_parts ts others (Named (Sign (Tokens (Sign Done)))) a h in
      Call name us' low (first_same ts others h ∙ line) b named (arguments_same all us' p)
  expression_same {ts = ts} (Name name line a named) others h = Name name (first_same ts others h ∙ line) (same_parts ts others (Named Done) a h) named
  expression_same {ts = ts} (Constant type value line a) others h =
      Constant type value (first_same ts others h ∙ line) (same_parts ts others (Token {kind = tokens.Number type value} refl Done) a h)
  expression_same {ts = ts} (Character byte line a) others h =
      Character byte (first_same ts others h ∙ line) (same_parts ts others (Token {kind = tokens.Character byte} refl Done) a h)
  expression_same {ts = ts} (String bytes line a) others h =
      String bytes (first_same ts others h ∙ line) (same_parts ts others (Token {kind = tokens.Text bytes} refl Done) a h)
  expression_same {ts = ts} (Parentheses us a x) others h =
      let (us', p, b) = same_parts ts others (Sign (Tokens (Sign Done))) a h in
      Parentheses us' b (expression_same x us' p)

  arguments_same : {scope : Scope} {ts : List Lexeme} {all : Expressions} → SpellsArguments scope ts all → (us : List Lexeme) → Same ts us → SpellsArguments scope us all
  arguments_same (NoArguments none) others h = NoArguments (none_same others (subst (λ l. Same l others) none h))
  arguments_same (Arguments us vs parts x more) others h =
      let split = same_split us vs others (subst (λ l. Same l others) parts h) in
      Arguments split.front split.back split.are (expression_same x split.front split.first) (further_same more split.back split.second)

  further_same : {scope : Scope} {ts : List Lexeme} {all : Expressions} → SpellsFurther scope ts all → (us : List Lexeme) → Same ts us → SpellsFurther scope us all
  further_same (NoFurther none) others h = NoFurther (none_same others (subst (λ l. Same l others) none h))
  further_same {ts = ts} (Further us vs a x more) others h =
      let (us', p, (vs', q, b)) = same_parts ts others (Sign (Tokens (Tokens Done))) a h in
      Further us' vs' b (expression_same x us' p) (further_same more vs' q)
