-- Statements that are spelled are read.
use Rattle.std.proofs.Common.{◌≡◌, ◌⊎◌, ℕ, ◌+◌, ◌-◌, ◌<◌, ◌≤◌, max, Bool, true, false, List, [], ◌∷◌, ◌++◌, length, map, codes, Option, Some, None, bytes_eq, refl, sym, ap, ◌∙◌, subst, inl, inr, arith, append_assoc}
use Rattle.std.proofs.lemmas.Bool.{false≢true}
use Rattle.std.proofs.lemmas.Slice.Eq.{bytes_eq-Decides}
use Rattle.css_base.specs.Tokens as tokens
use Rattle.css_base.specs.Tokens.{Kind, Word, Punctuator, Lexeme}
use Rattle.css_tree.specs.declared.scope.Scope.{Scope}
use Rattle.css_tree.specs.declared.scope.Scope.TheVariants as scopes
use Rattle.css_tree.specs.declared.words.Specifier.{Specifier}
use Rattle.css_tree.specs.declared.words.Specifier.TheVariants as specifiers
use Rattle.css_tree.specs.Syntax as tree
use Rattle.css_tree.specs.Syntax.{Expression, Declaration, Mark, ForStart, DeclareFirst, EvaluateFirst, Statement, Entry, Entries, NoEntries, MoreEntries}
use Rattle.css_tree.specs.TokenParts.{kind_at, line_of, kinds, first_line, One, These, mark, word, Are}
use Rattle.css_tree.specs.Words.{is_keyword, specifier_kind, SpellsSpecifiers}
use Rattle.css_tree.specs.Expressions.{SpellsExpression}
use Rattle.css_tree.specs.Declarations.{SpellsOptional, SpellsDeclaration}
use Rattle.css_tree.specs.Statements.{takes_else, SpellsMark, SpellsForStart, SpellsStatement, SpellsEntries, SpellsEntry}
use Rattle.css_tree.specs.Heights.{height, height_of_declaration, height_of_start, height_of_optional, height_of_statement, height_of_entry, height_of_entries}
use Rattle.css_pexpr.specs.declared.level.Level.TheVariants as levels
use Rattle.css_pexpr.specs.Longest.{level_number}
use Rattle.css_parse.specs.declared.form.Form.{Form}
use Rattle.css_parse.specs.declared.form.Form.TheVariants as forms
use Rattle.css_parse.specs.Fronts.{Next}
use Rattle.css_parse.specs.Forms.{form_of, form_of_punctuator}
use Rattle.css_parse.specs.Words.{next_specifier, specifier_of, block_specifier, ReadsSpecifiers}
use Rattle.css_parse.specs.Readings as reads
use Rattle.css_parse.specs.Readings.{IsNoNext, ReadsOptional, ReadsCondition, ReadsDeclaration, ReadsMark, ReadsForStart, ReadsForHead, ReadsStatement, ReadsForm, ReadsEntries, ReadsEntry}
use Rattle.css_parse.proofs.FrontTokens.{one_kind, differ, differ_word}
use Rattle.css_parse.proofs.FormKinds.{form_kind, form_found}
use Rattle.css_parse.proofs.WordTexts.{specifier_read}
use Rattle.css_parse.proofs.Walks.{IsStop}
use Rattle.css_parse.proofs.Begins.{IsStart, Begun, begun, begun_before, not_next, no_specifier_begun, no_kind_specifier, no_form_begun}
use Rattle.css_parse.proofs.CompleteDeclaration.{next_is, other_next, specifiers_read, optional_read, condition_read, declarators_read, first_line_front, no_specifier_first}

-- ---- declarations

some_behind : (us : List Lexeme) (t : Lexeme) (vs : List Lexeme) → 0 < length (us ++ t ∷ vs)
some_behind [] t vs = omega arith
some_behind (u ∷ us) t vs = omega arith

pub declaration_read : (scope : Scope) (most : ℕ) (ts : List Lexeme) (d : Declaration) (rest : List Lexeme) → SpellsDeclaration scope ts d → height_of_declaration d ≤ most → ReadsDeclaration scope most (ts ++ rest) d rest
declaration_read scope most ts d rest s low = by s.parts
  where
    by : Are ts (These s.specifiers ∷ These s.declarators ∷ mark (codes ";") ∷ []) → ReadsDeclaration scope most (ts ++ rest) d rest
    by (r1, e1, (r2, e2, (c, r3, e3, is, e4))) =
        let inner : ts ≡ s.specifiers ++ (s.declarators ++ c ∷ []) = e1 ∙ ap (λ l. s.specifiers ++ l) (e2 ∙ ap (λ l. s.declarators ++ l) (e3 ∙ ap (λ l. c ∷ l) e4)) in
        let behind = s.declarators ++ c ∷ rest in
        let whole : ts ++ rest ≡ s.specifiers ++ behind = ap (λ l. l ++ rest) inner ∙ append_assoc s.specifiers (s.declarators ++ c ∷ []) rest ∙ ap (λ l. s.specifiers ++ l) (append_assoc s.declarators (c ∷ []) rest) in
        let some : 0 < length ts = subst (λ l. 0 < length l) (sym (inner ∙ sym (append_assoc s.specifiers s.declarators (c ∷ [])))) (some_behind (s.specifiers ++ s.declarators) c []) in
        record {
          behind = behind;
          some = omega arith;
          line_is = first_line_front ts rest some ∙ s.line_is;
          reads_specifiers = subst (λ l. ReadsSpecifiers scope l d.specifiers behind) (sym whole) (specifiers_read behind s.spells_specifiers (no_specifier_first scope s.declarators d.declarators (c ∷ rest) s.spells_declarators));
          reads_declarators = declarators_read scope (most - 1) s.declarators d.declarators c rest is s.spells_declarators (omega arith);
        }

pub mark_read : (ts : List Lexeme) (m : Mark) (rest : List Lexeme) → SpellsMark ts m → ReadsMark (ts ++ rest) m rest
mark_read ts m rest s = by s.is
  where
    by : Are ts (One (tokens.Directive m.words) ∷ []) → ReadsMark (ts ++ rest) m rest
    by (t, r, e, is, none) =
        let whole : ts ≡ t ∷ [] = e ∙ ap (λ l. t ∷ l) none in
        record { next = record { token = t; parts = ap (λ l. l ++ rest) whole; is = is }; line_is = ap (λ l. first_line (l ++ rest)) whole ∙ sym (ap first_line whole) ∙ s.line_is }

-- a specifier is next
pub record SpecifierFirst (ts : List Lexeme) : Type 0 where
  pub token : Lexeme
  pub rest : List Lexeme
  pub parts : ts ≡ token ∷ rest
  pub specifier : Specifier
  pub is : kind_at token ≡ specifier_kind specifier

pub specifiers_first : (scope : Scope) (us : List Lexeme) (all : List Specifier) (rest : List Lexeme) → 0 < length all → kinds us ≡ map specifier_kind all → SpecifierFirst (us ++ rest)
specifiers_first scope us [] rest some e = absurd (omega arith)
specifiers_first scope [] (s ∷ all) rest some e = absurd cc
specifiers_first scope (u ∷ us) (s ∷ all) rest some e = record { token = u; rest = us ++ rest; parts = refl; specifier = s; is = cc }

declaration_first : (scope : Scope) (ts : List Lexeme) (d : Declaration) (rest : List Lexeme) → SpellsDeclaration scope ts d → SpecifierFirst (ts ++ rest)
declaration_first scope ts d rest s = by s.parts
  where
    by : Are ts (These s.specifiers ∷ These s.declarators ∷ mark (codes ";") ∷ []) → SpecifierFirst (ts ++ rest)
    by (r1, e1, a) =
        let x = specifiers_first scope s.specifiers d.specifiers (r1 ++ rest) s.spells_specifiers.some s.spells_specifiers.words in
        subst SpecifierFirst (sym (ap (λ l. l ++ rest) e1 ∙ append_assoc s.specifiers r1 rest)) x

specifier_no_else : (ts : List Lexeme) → SpecifierFirst ts → IsNoNext (Word (codes "else")) ts
specifier_no_else ts x behind n = differs x.specifier (sym x.is ∙ (let p = x.parts in let q = n.parts in let token : x.token ≡ n.token = cc in ap kind_at token ∙ n.is))
  where
    differs : (s : Specifier) → specifier_kind s ≡ Word (codes "else") → ⊥
    differs specifiers.Void e = differ_word (codes "void") (codes "else") refl e
    differs specifiers.Char e = differ_word (codes "char") (codes "else") refl e
    differs specifiers.Short e = differ_word (codes "short") (codes "else") refl e
    differs specifiers.Int e = differ_word (codes "int") (codes "else") refl e
    differs specifiers.Long e = differ_word (codes "long") (codes "else") refl e
    differs specifiers.Signed e = differ_word (codes "signed") (codes "else") refl e
    differs specifiers.Unsigned e = differ_word (codes "unsigned") (codes "else") refl e
    differs specifiers.Auto e = differ_word (codes "auto") (codes "else") refl e
    differs specifiers.Const e = differ_word (codes "const") (codes "else") refl e
    differs specifiers.Inline e = differ_word (codes "inline") (codes "else") refl e
    differs specifiers.Register e = differ_word (codes "register") (codes "else") refl e
    differs specifiers.Restrict e = differ_word (codes "restrict") (codes "else") refl e
    differs specifiers.Volatile e = differ_word (codes "volatile") (codes "else") refl e
    differs specifiers.Static e = differ_word (codes "static") (codes "else") refl e

semicolon_form : form_of (Punctuator (codes ";")) ≡ None
unfolding form_of_punctuator
semicolon_form = refl

specifier_no_brace : (ts : List Lexeme) → SpecifierFirst ts → IsNoNext (Punctuator (codes "}")) ts
specifier_no_brace ts x behind n = (let p = x.parts in let q = n.parts in let token : x.token ≡ n.token = cc in let both : specifier_kind x.specifier ≡ Punctuator (codes "}") = sym x.is ∙ ap kind_at token ∙ n.is in absurd cc)

-- ---- what a statement begins with

-- the first token of a statement: of a form, a semicolon or an expression's
pub data StatementStart : Kind → Type 0 where
  OfForm : {kind : Kind} (f : Form) → kind ≡ form_kind f → StatementStart kind
  OfNothing : {kind : Kind} → kind ≡ Punctuator (codes ";") → StatementStart kind
  OfExpression : {kind : Kind} → IsStart kind → StatementStart kind

pub record StatementFirst (ts : List Lexeme) : Type 0 where
  pub token : Lexeme
  pub rest : List Lexeme
  pub parts : ts ≡ token ∷ rest
  pub is : StatementStart (kind_at token)

optional_first : (value : Option Expression) (us ts : List Lexeme) → SpellsOptional scopes.Block (level_number levels.Expr) us value → (t : Lexeme) (rest : List Lexeme) → ts ≡ us ++ t ∷ rest → kind_at t ≡ Punctuator (codes ";") → StatementFirst ts
optional_first None us ts s t rest e is = record { token = t; rest = rest; parts = e ∙ ap (λ l. l ++ t ∷ rest) s; is = OfNothing is }
optional_first (Some x) us ts s t rest e is = (let b = begun s in record { token = b.token; rest = b.rest ++ t ∷ rest; parts = e ∙ ap (λ l. l ++ t ∷ rest) b.parts; is = OfExpression b.is })

pub statement_first : (ts : List Lexeme) (s : Statement) → SpellsStatement ts s → StatementFirst ts
statement_first ts (tree.Block line all) (us, (t, r, e, is, a), l, n) = record { token = t; rest = r; parts = e; is = OfForm forms.Block is }
statement_first ts (tree.Evaluate line value) (us, (r, e, (t, r2, e2, is, none)), line_is, s) = optional_first value us ts s t r2 (e ∙ ap (λ l. us ++ l) e2) is
statement_first ts (tree.If line x s) (us, vs, (t, r, e, is, a), l, m, n) = record { token = t; rest = r; parts = e; is = OfForm forms.If is }
statement_first ts (tree.IfElse line x s other) (us, vs, ws, (t, r, e, is, a), l, m, n, p, q) = record { token = t; rest = r; parts = e; is = OfForm forms.If is }
statement_first ts (tree.While line x s) (us, vs, (t, r, e, is, a), l, m, n) = record { token = t; rest = r; parts = e; is = OfForm forms.While is }
statement_first ts (tree.Do line s x) (us, vs, (t, r, e, is, a), l, m, n) = record { token = t; rest = r; parts = e; is = OfForm forms.Do is }
statement_first ts (tree.For line start condition step s) (us, vs, ws, xs, (t, r, e, is, a), l, m, n, p, q) = record { token = t; rest = r; parts = e; is = OfForm forms.For is }
statement_first ts (tree.Break line) ((t, r, e, is, a), h) = record { token = t; rest = r; parts = e; is = OfForm forms.Break is }
statement_first ts (tree.Continue line) ((t, r, e, is, a), h) = record { token = t; rest = r; parts = e; is = OfForm forms.Continue is }
statement_first ts (tree.Return line value) (us, (t, r, e, is, a), l, n) = record { token = t; rest = r; parts = e; is = OfForm forms.Return is }

form_no_else : (f : Form) → form_kind f ≡ Word (codes "else") → ⊥
form_no_else forms.Block e = absurd cc
form_no_else forms.If e = differ_word (codes "if") (codes "else") refl e
form_no_else forms.While e = differ_word (codes "while") (codes "else") refl e
form_no_else forms.Do e = differ_word (codes "do") (codes "else") refl e
form_no_else forms.For e = differ_word (codes "for") (codes "else") refl e
form_no_else forms.Break e = differ_word (codes "break") (codes "else") refl e
form_no_else forms.Continue e = differ_word (codes "continue") (codes "else") refl e
form_no_else forms.Return e = differ_word (codes "return") (codes "else") refl e

else_starts_none : IsStart (Word (codes "else")) → ⊥
unfolding is_keyword
else_starts_none (inl e) = false≢true (sym e)
else_starts_none (inr e) = false≢true ((bytes_eq-Decides (codes "else") (codes "sizeof")).1 e)

start_no_else : {kind : Kind} → StatementStart kind → kind ≡ Word (codes "else") → ⊥
start_no_else (OfForm f e) is = form_no_else f (sym e ∙ is)
start_no_else (OfNothing e) is = (let both : Punctuator (codes ";") ≡ Word (codes "else") = sym e ∙ is in absurd cc)
start_no_else (OfExpression s) is = else_starts_none (subst IsStart is s)

statement_no_else : (ts rest : List Lexeme) → StatementFirst ts → IsNoNext (Word (codes "else")) (ts ++ rest)
statement_no_else ts rest x behind n =
    start_no_else x.is (let p = ap (λ l. l ++ rest) x.parts in let q = n.parts in let token : x.token ≡ n.token = cc in ap kind_at token ∙ n.is)

-- neither a closing brace nor a directive nor a specifier is a statement's first token
start_no_brace : {kind : Kind} → StatementStart kind → kind ≡ Punctuator (codes "}") → ⊥
start_no_brace (OfForm f e) is = form_no_brace f (sym e ∙ is)
  where
    form_no_brace : (f : Form) → form_kind f ≡ Punctuator (codes "}") → ⊥
    form_no_brace forms.Block e = differ (codes "{") (codes "}") refl e
    form_no_brace forms.If e = absurd cc
    form_no_brace forms.While e = absurd cc
    form_no_brace forms.Do e = absurd cc
    form_no_brace forms.For e = absurd cc
    form_no_brace forms.Break e = absurd cc
    form_no_brace forms.Continue e = absurd cc
    form_no_brace forms.Return e = absurd cc
start_no_brace (OfNothing e) is = differ (codes ";") (codes "}") refl (sym e ∙ is)
start_no_brace (OfExpression s) is = false≢true (sym (subst IsStart is s))

start_no_directive : {kind : Kind} {words : _} → StatementStart kind → kind ≡ tokens.Directive words → ⊥
start_no_directive (OfForm f e) is = form_no_directive f (sym e ∙ is)
  where
    form_no_directive : (f : Form) {words : _} → form_kind f ≡ tokens.Directive words → ⊥
    form_no_directive forms.Block e = absurd cc
    form_no_directive forms.If e = absurd cc
    form_no_directive forms.While e = absurd cc
    form_no_directive forms.Do e = absurd cc
    form_no_directive forms.For e = absurd cc
    form_no_directive forms.Break e = absurd cc
    form_no_directive forms.Continue e = absurd cc
    form_no_directive forms.Return e = absurd cc
start_no_directive {words = words} (OfNothing e) is = (let both : Punctuator (codes ";") ≡ tokens.Directive words = sym e ∙ is in absurd cc)
start_no_directive (OfExpression s) is = subst IsStart is s

form_no_specifier : (f : Form) → specifier_of scopes.Block (form_kind f) ≡ None
unfolding block_specifier
form_no_specifier forms.Block = refl
form_no_specifier forms.If = refl
form_no_specifier forms.While = refl
form_no_specifier forms.Do = refl
form_no_specifier forms.For = refl
form_no_specifier forms.Break = refl
form_no_specifier forms.Continue = refl
form_no_specifier forms.Return = refl

start_no_specifier : {kind : Kind} → StatementStart kind → specifier_of scopes.Block kind ≡ None
start_no_specifier (OfForm f e) = ap (specifier_of scopes.Block) e ∙ form_no_specifier f
start_no_specifier (OfNothing e) = ap (specifier_of scopes.Block) e
start_no_specifier {kind} (OfExpression s) = no_kind_specifier scopes.Block kind s

-- an expression statement is of no form
start_no_form : (value : Option Expression) (us ts : List Lexeme) (s : SpellsOptional scopes.Block (level_number levels.Expr) us value) (t : Lexeme) (inner : ts ≡ us ++ t ∷ []) (is : kind_at t ≡ Punctuator (codes ";"))
    → form_of (kind_at (optional_first value us ts s t [] inner is).token) ≡ None
unfolding optional_first
start_no_form None us ts s t inner is = ap form_of is ∙ semicolon_form
start_no_form (Some x) us ts s t inner is = no_form_begun (kind_at (begun s).token) (begun s).is

-- ---- the head of a `for`

start_read : (most : ℕ) (ts : List Lexeme) (start : ForStart) (rest : List Lexeme) → SpellsForStart ts start → height_of_start start ≤ most → ReadsForStart most (ts ++ rest) start rest
start_read most ts (DeclareFirst d) rest s low = declaration_read scopes.Block most ts d rest s low
start_read most ts (EvaluateFirst value) rest (us, (r, e, (t, r2, e2, is, none)), s) low =
    let inner : ts ≡ us ++ t ∷ [] = e ∙ ap (λ l. us ++ l) (e2 ∙ ap (λ l. t ∷ l) none) in
    let whole : ts ++ rest ≡ us ++ t ∷ rest = ap (λ l. l ++ rest) inner ∙ append_assoc us (t ∷ []) rest in
    let first = optional_first value us ts s t [] inner is in
    let no_specifier : next_specifier scopes.Block (ts ++ rest) ≡ None = ap (λ l. next_specifier scopes.Block (l ++ rest)) first.parts ∙ start_no_specifier first.is in
    (no_specifier, subst (λ l. ReadsOptional scopes.Block levels.Expr (codes ";") most l value rest) (sym whole) (optional_read scopes.Block levels.Expr (codes ";") most us value t rest is refl (λ start. false≢true (sym start)) s low))

-- ---- statements

formed : (most : ℕ) (ts rest : List Lexeme) (s : Statement) (f : Form) (t : Lexeme) (behind : List Lexeme) (line : ℕ) → 0 < most → ts ++ rest ≡ t ∷ behind → kind_at t ≡ form_kind f → line_of t ≡ line → ReadsForm f (most - 1) line behind s rest
    → ReadsStatement most (ts ++ rest) s rest
formed most ts rest s f t behind line some whole is line_is r =
    reads.Formed t behind f some whole (ap form_of is ∙ form_found f) (subst (λ n. ReadsForm f (most - 1) n behind s rest) (sym line_is) r)

mutual
  pub statement_read : (most : ℕ) (ts : List Lexeme) (s : Statement) (rest : List Lexeme) → (takes_else s ≡ true → IsNoNext (Word (codes "else")) rest) → SpellsStatement ts s → height_of_statement s ≤ most → ReadsStatement most (ts ++ rest) s rest
  statement_read most ts (tree.Block line entries) rest none (us, (t, r, e, is, (r2, e2, (c, r3, e3, closes, last))), line_is, s) low =
      let whole : ts ++ rest ≡ t ∷ (us ++ c ∷ rest) = ap (λ l. l ++ rest) (e ∙ ap (λ l. t ∷ l) (e2 ∙ ap (λ l. us ++ l) (e3 ∙ ap (λ l. c ∷ l) last))) ∙ ap (λ l. t ∷ l) (append_assoc us (c ∷ []) rest) in
      formed most ts rest (tree.Block line entries) forms.Block t (us ++ c ∷ rest) line (omega arith) whole is (sym (ap first_line e) ∙ line_is)
      (reads.Block (entries_read (most - 1) us entries c rest closes s (omega arith)))
  statement_read most ts (tree.Evaluate line value) rest none (us, (r, e, (t, r2, e2, is, last)), line_is, s) low =
      let inner : ts ≡ us ++ t ∷ [] = e ∙ ap (λ l. us ++ l) (e2 ∙ ap (λ l. t ∷ l) last) in
      let whole : ts ++ rest ≡ us ++ t ∷ rest = ap (λ l. l ++ rest) inner ∙ append_assoc us (t ∷ []) rest in
      let first = optional_first value us ts s t [] inner is in
      reads.Evaluated first.token (first.rest ++ rest) (omega arith) (ap (λ l. l ++ rest) first.parts) (sym line_is ∙ ap first_line first.parts) (start_no_form value us ts s t inner is)
      (subst (λ l. ReadsOptional scopes.Block levels.Expr (codes ";") (most - 1) l value rest) (sym whole) (optional_read scopes.Block levels.Expr (codes ";") (most - 1) us value t rest is refl (λ start. false≢true (sym start)) s (omega arith)))
  statement_read most ts (tree.If line x s) rest none (us, vs, (t, r, e, is, (o, r2, e2, opens, (r3, e3, (c, r4, e4, closes, last)))), line_is, cs, ss) low =
      let whole : ts ++ rest ≡ t ∷ (o ∷ (us ++ c ∷ (vs ++ rest))) = ap (λ l. l ++ rest) (e ∙ ap (λ l. t ∷ l) (e2 ∙ ap (λ l. o ∷ l) (e3 ∙ ap (λ l. us ++ l) (e4 ∙ ap (λ l. c ∷ l) last)))) ∙ ap (λ l. t ∷ (o ∷ l)) (append_assoc us (c ∷ vs) rest) in
      formed most ts rest (tree.If line x s) forms.If t (o ∷ (us ++ c ∷ (vs ++ rest))) line (omega arith) whole is (sym (ap first_line e) ∙ line_is)
      (reads.If (vs ++ rest) (condition_read o c (vs ++ rest) opens closes cs (omega arith)) (statement_read (most - 1) vs s rest (λ h. none refl) ss (omega arith)) (none refl))
  statement_read most ts (tree.IfElse line x s other) rest none (us, vs, ws, (t, r, e, is, (o, r2, e2, opens, (r3, e3, (c, r4, e4, closes, (r5, e5, (w, r6, e6, else_is, last)))))), line_is, cs, ss, takes, os) low =
      let whole : ts ++ rest ≡ t ∷ (o ∷ (us ++ c ∷ (vs ++ w ∷ (ws ++ rest)))) =
      ap (λ l. l ++ rest) (e ∙ ap (λ l. t ∷ l) (e2 ∙ ap (λ l. o ∷ l) (e3 ∙ ap (λ l. us ++ l) (e4 ∙ ap (λ l. c ∷ l) (e5 ∙ ap (λ l. vs ++ l) (e6 ∙ ap (λ l. w ∷ l) last)))))) ∙ ap (λ l. t ∷ (o ∷ l)) (append_assoc us (c ∷ (vs ++ w ∷ ws)) rest ∙ ap (λ l. us ++ c ∷ l) (append_assoc vs (w ∷ ws) rest)) in
      formed most ts rest (tree.IfElse line x s other) forms.If t (o ∷ (us ++ c ∷ (vs ++ w ∷ (ws ++ rest)))) line (omega arith) whole is (sym (ap first_line e) ∙ line_is)
      (reads.IfElse (vs ++ w ∷ (ws ++ rest)) (w ∷ (ws ++ rest)) (ws ++ rest) (condition_read o c (vs ++ w ∷ (ws ++ rest)) opens closes cs (omega arith))
      (statement_read (most - 1) vs s (w ∷ (ws ++ rest)) (λ h. absurd (false≢true (sym (sym h ∙ takes)))) ss (omega arith)) (next_is w _ else_is) (statement_read (most - 1) ws other rest none os (omega arith)))
  statement_read most ts (tree.While line x s) rest none (us, vs, (t, r, e, is, (o, r2, e2, opens, (r3, e3, (c, r4, e4, closes, last)))), line_is, cs, ss) low =
      let whole : ts ++ rest ≡ t ∷ (o ∷ (us ++ c ∷ (vs ++ rest))) = ap (λ l. l ++ rest) (e ∙ ap (λ l. t ∷ l) (e2 ∙ ap (λ l. o ∷ l) (e3 ∙ ap (λ l. us ++ l) (e4 ∙ ap (λ l. c ∷ l) last)))) ∙ ap (λ l. t ∷ (o ∷ l)) (append_assoc us (c ∷ vs) rest) in
      formed most ts rest (tree.While line x s) forms.While t (o ∷ (us ++ c ∷ (vs ++ rest))) line (omega arith) whole is (sym (ap first_line e) ∙ line_is)
      (reads.While (vs ++ rest) (condition_read o c (vs ++ rest) opens closes cs (omega arith)) (statement_read (most - 1) vs s rest none ss (omega arith)))
  statement_read most ts (tree.Do line s x) rest none (us, vs, (t, r, e, is, (r2, e2, (w, r3, e3, while_is, (o, r4, e4, opens, (r5, e5, (c, r6, e6, closes, (z, r7, e7, ends, last))))))), line_is, ss, cs) low =
      let whole : ts ++ rest ≡ t ∷ (us ++ w ∷ (o ∷ (vs ++ c ∷ (z ∷ rest)))) =
      ap (λ l. l ++ rest) (e ∙ ap (λ l. t ∷ l) (e2 ∙ ap (λ l. us ++ l) (e3 ∙ ap (λ l. w ∷ l) (e4 ∙ ap (λ l. o ∷ l) (e5 ∙ ap (λ l. vs ++ l) (e6 ∙ ap (λ l. c ∷ l) (e7 ∙ ap (λ l. z ∷ l) last)))))))
      ∙ ap (λ l. t ∷ l) (append_assoc us (w ∷ (o ∷ (vs ++ c ∷ (z ∷ [])))) rest ∙ ap (λ l. us ++ w ∷ (o ∷ l)) (append_assoc vs (c ∷ (z ∷ [])) rest)) in
      formed most ts rest (tree.Do line s x) forms.Do t (us ++ w ∷ (o ∷ (vs ++ c ∷ (z ∷ rest)))) line (omega arith) whole is (sym (ap first_line e) ∙ line_is)
      (reads.Do (w ∷ (o ∷ (vs ++ c ∷ (z ∷ rest)))) (o ∷ (vs ++ c ∷ (z ∷ rest))) (z ∷ rest)
      (statement_read (most - 1) us s (w ∷ (o ∷ (vs ++ c ∷ (z ∷ rest)))) (λ h. other_next w _ (Word (codes "else")) while_is (differ_word (codes "while") (codes "else") refl)) ss (omega arith)) (next_is w _ while_is)
      (condition_read o c (z ∷ rest) opens closes cs (omega arith)) (next_is z rest ends))
  statement_read most ts (tree.For line start condition step s) rest none (us, vs, ws, xs, (t, r, e, is, (o, r2, e2, opens, (r3, e3, (r4, e4, (m, r5, e5, mid, (r6, e6, (c, r7, e7, closes, last))))))), line_is, hs, cs, ps, ss) low =
      let whole : ts ++ rest ≡ t ∷ (o ∷ (us ++ (vs ++ m ∷ (ws ++ c ∷ (xs ++ rest))))) =
      ap (λ l. l ++ rest) (e ∙ ap (λ l. t ∷ l) (e2 ∙ ap (λ l. o ∷ l) (e3 ∙ ap (λ l. us ++ l) (e4 ∙ ap (λ l. vs ++ l) (e5 ∙ ap (λ l. m ∷ l) (e6 ∙ ap (λ l. ws ++ l) (e7 ∙ ap (λ l. c ∷ l) last)))))))
      ∙ ap (λ l. t ∷ (o ∷ l)) (append_assoc us (vs ++ m ∷ (ws ++ c ∷ xs)) rest ∙ ap (λ l. us ++ l) (append_assoc vs (m ∷ (ws ++ c ∷ xs)) rest ∙ ap (λ l. vs ++ m ∷ l) (append_assoc ws (c ∷ xs) rest))) in
      formed most ts rest (tree.For line start condition step s) forms.For t (o ∷ (us ++ (vs ++ m ∷ (ws ++ c ∷ (xs ++ rest))))) line (omega arith) whole is (sym (ap first_line e) ∙ line_is)
      (reads.For (xs ++ rest) (record {
        inside = us ++ (vs ++ m ∷ (ws ++ c ∷ (xs ++ rest)));
        second = vs ++ m ∷ (ws ++ c ∷ (xs ++ rest));
        third = ws ++ c ∷ (xs ++ rest);
        opens = next_is o _ opens;
        reads_start = start_read (most - 1) us start (vs ++ m ∷ (ws ++ c ∷ (xs ++ rest))) hs (omega arith);
        reads_condition = optional_read scopes.Block levels.Expr (codes ";") (most - 1) vs condition m (ws ++ c ∷ (xs ++ rest)) mid refl (λ start. false≢true (sym start)) cs (omega arith);
        reads_step = optional_read scopes.Block levels.Expr (codes ")") (most - 1) ws step c (xs ++ rest) closes refl (λ start. false≢true (sym start)) ps (omega arith);
      }) (statement_read (most - 1) xs s rest none ss (omega arith)))
  statement_read most ts (tree.Break line) rest none ((t, r, e, is, (z, r2, e2, ends, last)), line_is) low =
      formed most ts rest (tree.Break line) forms.Break t (z ∷ rest) line (omega arith) (ap (λ l. l ++ rest) (e ∙ ap (λ l. t ∷ l) (e2 ∙ ap (λ l. z ∷ l) last))) is (sym (ap first_line e) ∙ line_is) (reads.Break (next_is z rest ends))
  statement_read most ts (tree.Continue line) rest none ((t, r, e, is, (z, r2, e2, ends, last)), line_is) low =
      formed most ts rest (tree.Continue line) forms.Continue t (z ∷ rest) line (omega arith) (ap (λ l. l ++ rest) (e ∙ ap (λ l. t ∷ l) (e2 ∙ ap (λ l. z ∷ l) last))) is (sym (ap first_line e) ∙ line_is) (reads.Continue (next_is z rest ends))
  statement_read most ts (tree.Return line value) rest none (us, (t, r, e, is, (r2, e2, (z, r3, e3, ends, last))), line_is, s) low =
      formed most ts rest (tree.Return line value) forms.Return t (us ++ z ∷ rest) line (omega arith) (ap (λ l. l ++ rest) (e ∙ ap (λ l. t ∷ l) (e2 ∙ ap (λ l. us ++ l) (e3 ∙ ap (λ l. z ∷ l) last))) ∙ ap (λ l. t ∷ l) (append_assoc us (z ∷ []) rest)) is (sym (ap first_line e) ∙ line_is)
      (reads.Return (optional_read scopes.Block levels.Expr (codes ";") (most - 1) us value z rest ends refl (λ start. false≢true (sym start)) s (omega arith)))

  pub entries_read : (most : ℕ) (us : List Lexeme) (es : Entries) (c : Lexeme) (rest : List Lexeme) → kind_at c ≡ Punctuator (codes "}") → SpellsEntries us es → height_of_entries es ≤ most → ReadsEntries most (us ++ c ∷ rest) es rest
  entries_read most us NoEntries c rest closes s low = subst (λ l. ReadsEntries most (l ++ c ∷ rest) NoEntries rest) (sym s) (reads.Closed (next_is c rest closes))
  entries_read most us (MoreEntries (tree.Declared d) others) c rest closes (xs, ys, (r, e, e2), s, more) low =
      let behind = ys ++ c ∷ rest in
      let whole : us ++ c ∷ rest ≡ xs ++ behind = ap (λ l. l ++ c ∷ rest) (e ∙ ap (λ l. xs ++ l) e2) ∙ append_assoc xs ys (c ∷ rest) in
      let first = declaration_first scopes.Block xs d behind s in
      subst (λ l. ReadsEntries most l (MoreEntries (tree.Declared d) others) rest) (sym whole)
      (reads.More behind (specifier_no_brace (xs ++ behind) first) (reads.DeclaredIn (declaration_read scopes.Block most xs d behind s (omega arith))) (entries_read most ys others c rest closes more (omega arith)))
  entries_read most us (MoreEntries (tree.Marked m) others) c rest closes (xs, ys, (r, e, e2), s, more) low =
      let behind = ys ++ c ∷ rest in
      let whole : us ++ c ∷ rest ≡ xs ++ behind = ap (λ l. l ++ c ∷ rest) (e ∙ ap (λ l. xs ++ l) e2) ∙ append_assoc xs ys (c ∷ rest) in
      let here = mark_read xs m behind s in
      subst (λ l. ReadsEntries most l (MoreEntries (tree.Marked m) others) rest) (sym whole)
      (reads.More behind (λ z n. (let k = one_kind here.next n in absurd cc)) (reads.MarkIn here) (entries_read most ys others c rest closes more (omega arith)))
  entries_read most us (MoreEntries (tree.Stated s) others) c rest closes (xs, ys, (r, e, e2), ss, more) low =
      let behind = ys ++ c ∷ rest in
      let whole : us ++ c ∷ rest ≡ xs ++ behind = ap (λ l. l ++ c ∷ rest) (e ∙ ap (λ l. xs ++ l) e2) ∙ append_assoc xs ys (c ∷ rest) in
      let first = statement_first xs s ss in
      let begins = ap (λ l. l ++ behind) first.parts in
      subst (λ l. ReadsEntries most l (MoreEntries (tree.Stated s) others) rest) (sym whole)
      (reads.More behind (λ z n. start_no_brace first.is (let q = n.parts in let token : first.token ≡ n.token = cc in ap kind_at token ∙ n.is))
      (reads.StatedIn (λ m z n. start_no_directive first.is (let q = n.next.parts in let token : first.token ≡ n.next.token = cc in ap kind_at token ∙ n.next.is)) (ap (next_specifier scopes.Block) begins ∙ start_no_specifier first.is)
      (statement_read most xs s behind (λ h. entries_no_else ys others c rest closes more) ss (omega arith))) (entries_read most ys others c rest closes more (omega arith)))

  -- no entry begins with `else`
  entries_no_else : (us : List Lexeme) (es : Entries) (c : Lexeme) (rest : List Lexeme) → kind_at c ≡ Punctuator (codes "}") → SpellsEntries us es → IsNoNext (Word (codes "else")) (us ++ c ∷ rest)
  entries_no_else us NoEntries c rest closes s = subst (λ l. IsNoNext (Word (codes "else")) (l ++ c ∷ rest)) (sym s) (other_next c rest (Word (codes "else")) closes (λ k. absurd cc))
  entries_no_else us (MoreEntries first others) c rest closes (xs, ys, (r, e, e2), s, more) =
      subst (IsNoNext (Word (codes "else"))) (sym (ap (λ l. l ++ c ∷ rest) (e ∙ ap (λ l. xs ++ l) e2) ∙ append_assoc xs ys (c ∷ rest))) (entry_no_else xs first (ys ++ c ∷ rest) s)

  entry_no_else : (xs : List Lexeme) (e : Entry) (rest : List Lexeme) → SpellsEntry xs e → IsNoNext (Word (codes "else")) (xs ++ rest)
  entry_no_else xs (tree.Declared d) rest s = specifier_no_else (xs ++ rest) (declaration_first scopes.Block xs d rest s)
  entry_no_else xs (tree.Marked m) rest s = (λ z n. (let k = one_kind (mark_read xs m rest s).next n in absurd cc))
  entry_no_else xs (tree.Stated s) rest ss = statement_no_else xs rest (statement_first xs s ss)
