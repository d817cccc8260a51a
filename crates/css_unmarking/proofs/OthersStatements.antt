-- The tokens of a statement that aren't directives spell it without its marks.
use Rattle.std.proofs.Common.{◌≡◌, ℕ, List, [], ◌∷◌, ◌++◌, Option, refl, sym, ap, ◌∙◌, subst}
use Rattle.css_base.specs.Tokens.{Lexeme}
use Rattle.css_tree.specs.declared.scope.Scope.{Scope}
use Rattle.css_tree.specs.Syntax.{Expression, Declaration, Mark, ForStart, DeclareFirst, EvaluateFirst, Statement, Block, Evaluate, If, IfElse, While, Do, For, Break, Continue, Return, Declared, Marked, Stated, Entries, NoEntries, MoreEntries}
use Rattle.css_tree.specs.Expressions.{SpellsExpression}
use Rattle.css_tree.specs.Declarations.{SpellsOptional, SpellsDeclaration}
use Rattle.css_tree.specs.Statements.{takes_else, SpellsMark, SpellsForStart, SpellsStatement, SpellsEntries}
use Rattle.css_tree.specs.Marks.{unmarked_statement, unmarked_entries}
use Rattle.css_lex.specs.WithoutDirectives.{is_directive_kind, without_directives}
use Rattle.css_unmarking.proofs.Others.{Same, none_same, Done, Tokens, Sign, Named, AreOthers, taken, others_same, others_parts, starts, first_others}
use Rattle.css_unmarking.proofs.OthersExpressions.{expression_plain, expression_same}
use Rattle.css_unmarking.proofs.OthersDeclarations.{optional_plain, optional_same, declaration_plain, declaration_same}

-- ---- what holds no directive

expression_others : (scope : Scope) (k : ℕ) (ts : List Lexeme) (e : Expression) → SpellsExpression scope k ts e → (us : List Lexeme) → AreOthers ts us → SpellsExpression scope k us e
expression_others scope k ts e s us h = expression_same s us (others_same ts us (expression_plain s) h)

optional_others : (scope : Scope) (k : ℕ) (ts : List Lexeme) (value : Option Expression) → SpellsOptional scope k ts value → (us : List Lexeme) → AreOthers ts us → SpellsOptional scope k us value
optional_others scope k ts value s us h = optional_same scope k ts value s us (others_same ts us (optional_plain scope k ts value s) h)

pub declaration_others : (scope : Scope) (ts : List Lexeme) (d : Declaration) → SpellsDeclaration scope ts d → (us : List Lexeme) → AreOthers ts us → SpellsDeclaration scope us d
declaration_others scope ts d s us h = declaration_same scope ts d s us (others_same ts us (declaration_plain scope ts d s) h)

-- ---- marks

pub nothing_left : (ts us : List Lexeme) → ts ≡ [] → AreOthers ts us → us ≡ []
nothing_left ts us none h = none_same us (subst (λ l. AreOthers l us) none h)

pub mark_gone : (ts us : List Lexeme) (m : Mark) → SpellsMark ts m → AreOthers ts us → us ≡ []
mark_gone ts us m s h =
    let (t, rest, e, is, none) = s.is in
    none_same us (subst (λ l. Same l us) (ap without_directives (e ∙ ap (λ l. t ∷ l) none) ∙ taken t [] (ap is_directive_kind is)) h)

-- ---- statements

same_else : (s : Statement) → takes_else (unmarked_statement s) ≡ takes_else s
same_else (Block line _) = refl
same_else (Evaluate line value) = refl
same_else (If line e s) = refl
same_else (IfElse line e s other) = same_else other
same_else (While line e s) = same_else s
same_else (Do line s e) = refl
same_else (For line start condition step s) = same_else s
same_else (Break line) = refl
same_else (Continue line) = refl
same_else (Return line value) = refl

start_others : (ts : List Lexeme) (start : ForStart) → SpellsForStart ts start → (us : List Lexeme) → AreOthers ts us → SpellsForStart us start
start_others ts (DeclareFirst d) s others h = declaration_others _ ts d s others h
start_others ts (EvaluateFirst value) (us, a, s) others h =
    let (us', p, b) = others_parts ts others (Tokens (Sign Done)) a h in
    (us', b, optional_others _ _ us value s us' p)

mutual
  pub statement_others : (ts : List Lexeme) (s : Statement) → SpellsStatement ts s → (us : List Lexeme) → AreOthers ts us → SpellsStatement us (unmarked_statement s)
  statement_others ts (Block line entries) (us, a, line_is, s) others h =
      let (us', p, b) = others_parts ts others (Sign (Tokens (Sign Done))) a h in
      (us', b, first_others ts others (starts ts (Sign (Tokens (Sign Done))) a tt) h ∙ line_is, entries_others us entries s us' p)
  statement_others ts (Evaluate line value) (us, a, line_is, s) others h =
      let (us', p, b) = others_parts ts others (Tokens (Sign Done)) a h in
      (us', b, first_others ts others (starts ts (Tokens (Sign Done)) a (optional_plain _ _ us value s, tt)) h ∙ line_is, optional_others _ _ us value s us' p)
  statement_others ts (If line e inner) (us, vs, a, line_is, x, s) others h =
      let (us', p, (vs', q, b)) = others_parts ts others (Named (Sign (Tokens (Sign (Tokens Done))))) a h in
      (us', vs', b, first_others ts others (starts ts (Named (Sign (Tokens (Sign (Tokens Done))))) a tt) h ∙ line_is, expression_others _ _ us e x us' p, statement_others vs inner s vs' q)
  statement_others ts (IfElse line e inner other) (us, vs, ws, a, line_is, x, s, none, z) others h =
      let (us', p, (vs', q, (ws', r, b))) = others_parts ts others (Named (Sign (Tokens (Sign (Tokens (Named (Tokens Done))))))) a h in (
        us',
        vs',
        ws',
        b,
        first_others ts others (starts ts (Named (Sign (Tokens (Sign (Tokens (Named (Tokens Done))))))) a tt) h ∙ line_is,
        expression_others _ _ us e x us' p,
        statement_others vs inner s vs' q,
        same_else inner ∙ none,
        statement_others ws other z ws' r,
      )
  statement_others ts (While line e inner) (us, vs, a, line_is, x, s) others h =
      let (us', p, (vs', q, b)) = others_parts ts others (Named (Sign (Tokens (Sign (Tokens Done))))) a h in
      (us', vs', b, first_others ts others (starts ts (Named (Sign (Tokens (Sign (Tokens Done))))) a tt) h ∙ line_is, expression_others _ _ us e x us' p, statement_others vs inner s vs' q)
  statement_others ts (Do line inner e) (us, vs, a, line_is, s, x) others h =
      let (us', p, (vs', q, b)) = others_parts ts others (Named (Tokens (Named (Sign (Tokens (Sign (Sign Done))))))) a h in
      (us', vs', b, first_others ts others (starts ts (Named (Tokens (Named (Sign (Tokens (Sign (Sign Done))))))) a tt) h ∙ line_is, statement_others us inner s us' p, expression_others _ _ vs e x vs' q)
  statement_others ts (For line start condition step inner) (us, vs, ws, xs, a, line_is, f, c, g, s) others h =
      let (us', p, (vs', q, (ws', r, (xs', t, b)))) = others_parts ts others (Named (Sign (Tokens (Tokens (Sign (Tokens (Sign (Tokens Done)))))))) a h in (
        us',
        vs',
        ws',
        xs',
        b,
        first_others ts others (starts ts (Named (Sign (Tokens (Tokens (Sign (Tokens (Sign (Tokens Done)))))))) a tt) h ∙ line_is,
        start_others us start f us' p,
        optional_others _ _ vs condition c vs' q,
        optional_others _ _ ws step g ws' r,
        statement_others xs inner s xs' t,
      )
  statement_others ts (Break line) (a, line_is) others h = (others_parts ts others (Named (Sign Done)) a h, first_others ts others (starts ts (Named (Sign Done)) a tt) h ∙ line_is)
  statement_others ts (Continue line) (a, line_is) others h = (others_parts ts others (Named (Sign Done)) a h, first_others ts others (starts ts (Named (Sign Done)) a tt) h ∙ line_is)
  statement_others ts (Return line value) (us, a, line_is, s) others h =
      let (us', p, b) = others_parts ts others (Named (Tokens (Sign Done))) a h in
      (us', b, first_others ts others (starts ts (Named (Tokens (Sign Done))) a tt) h ∙ line_is, optional_others _ _ us value s us' p)

  pub entries_others : (ts : List Lexeme) (entries : Entries) → SpellsEntries ts entries → (us : List Lexeme) → AreOthers ts us → SpellsEntries us (unmarked_entries entries)
  entries_others ts NoEntries s others h = nothing_left ts others s h
  entries_others ts (MoreEntries (Declared d) further) (us, vs, a, s, more) others h =
      let (us', p, (vs', q, b)) = others_parts ts others (Tokens (Tokens Done)) a h in
      (us', vs', b, declaration_others _ us d s us' p, entries_others vs further more vs' q)
  entries_others ts (MoreEntries (Marked m) further) (us, vs, a, s, more) others h =
      let (us', p, (vs', q, (rest, e, is))) = others_parts ts others (Tokens (Tokens Done)) a h in
      subst (λ l. SpellsEntries l (unmarked_entries further)) (sym (e ∙ ap (λ l. l ++ rest) (mark_gone us us' m s p) ∙ is)) (entries_others vs further more vs' q)
  entries_others ts (MoreEntries (Stated inner) further) (us, vs, a, s, more) others h =
      let (us', p, (vs', q, b)) = others_parts ts others (Tokens (Tokens Done)) a h in
      (us', vs', b, statement_others us inner s us' p, entries_others vs further more vs' q)
