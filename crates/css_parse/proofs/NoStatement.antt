-- What isn't read where a part of it isn't: statements and what else stands in blocks.
use Rattle.std.proofs.Common.{◌≡◌, ◌↔◌, ℕ, ◌-◌, ◌<◌, ◌≤◌, List, [], ◌∷◌, length, codes, Bool, false, IsTrue, Option, Some, None, refl, sym, ap, ◌∙◌, subst, arith}
use Rattle.std.proofs.lemmas.Bool.{false≢true}
use Rattle.css_base.specs.Tokens as tokens
use Rattle.css_base.specs.Tokens.{Kind, Word, Punctuator, Lexeme, Lexemes}
use Rattle.css_tree.specs.declared.scope.Scope.TheVariants as scopes
use Rattle.css_tree.specs.Syntax.{Expression, Declaration, Mark, ForStart, DeclareFirst, EvaluateFirst, Statement, Entry, Entries}
use Rattle.css_tree.specs.TokenParts.{kind_at, line_of, first_line}
use Rattle.css_pexpr.specs.declared.level.Level.TheVariants as levels
use Rattle.css_parse.specs.declared.form.Form.{Form}
use Rattle.css_parse.specs.declared.form.Form.TheVariants as forms
use Rattle.css_parse.specs.Fronts.{Next}
use Rattle.css_parse.specs.Forms.{form_of}
use Rattle.css_parse.specs.Words.{next_specifier}
use Rattle.css_parse.specs.Readings as reads
use Rattle.css_parse.specs.Readings.{IsNoNext, ReadsOptional, ReadsCondition, ReadsDeclaration, ReadsMark, ReadsForStart, ReadsForHead, ReadsStatement, ReadsForm, ReadsEntries, ReadsEntry}
use Rattle.css_parse.proofs.FrontTokens.{one_next}
use Rattle.css_parse.proofs.OneDeclaration.{one_optional, one_condition}
use Rattle.css_parse.proofs.OneStatement.{some_specifier, no_mark_declared, one_start, one_for_head, one_statement}

-- ---- statements

pub statement_some : {most : ℕ} {ts rest : List Lexeme} {s : Statement} → ReadsStatement most ts s rest → ts ≡ [] → ⊥
statement_some (reads.Formed t behind f low is form r) none = (let e : [] ≡ t ∷ behind = sym none ∙ is in cc)
statement_some (reads.Evaluated t behind low is line form r) none = (let e : [] ≡ t ∷ behind = sym none ∙ is in cc)

pub statement_level : {most : ℕ} {ts rest : List Lexeme} {s : Statement} → ReadsStatement most ts s rest → 0 < most
statement_level (reads.Formed t behind f low is form r) = low
statement_level (reads.Evaluated t behind low is line form r) = low

pub no_formed : {most : ℕ} {ts behind rest : List Lexeme} {s : Statement} {t : Lexeme} {f : Form} → ts ≡ t ∷ behind → form_of (kind_at t) ≡ Some f
    → ((other : Statement) (next : List Lexeme) → ReadsForm f (most - 1) (line_of t) behind other next → ⊥) → ReadsStatement most ts s rest → ⊥
no_formed {most} {ts} {behind} {rest} {s} {t} {f} at is none (reads.Formed u more g low at' is' r) =
    let token : u ≡ t = (let e : u ∷ more ≡ t ∷ behind = sym at' ∙ at in cc) in
    let others : more ≡ behind = (let e : u ∷ more ≡ t ∷ behind = sym at' ∙ at in cc) in
    let same : g ≡ f = (let e : Some g ≡ Some f = sym is' ∙ ap (λ x. form_of (kind_at x)) token ∙ is in cc) in
    none s rest (subst (λ x. ReadsForm x (most - 1) (line_of t) behind s rest) same (subst (λ x. ReadsForm g (most - 1) (line_of x) behind s rest) token (subst (λ l. ReadsForm g (most - 1) (line_of u) l s rest) others r)))
no_formed {most} {ts} {behind} {rest} {s} {t} {f} at is none (reads.Evaluated u more low at' line is' r) =
    let token : u ≡ t = (let e : u ∷ more ≡ t ∷ behind = sym at' ∙ at in cc) in
    absurd (let e : None ≡ Some f = sym is' ∙ ap (λ x. form_of (kind_at x)) token ∙ is in cc)

pub no_evaluated : {most : ℕ} {ts behind rest : List Lexeme} {s : Statement} {t : Lexeme} → ts ≡ t ∷ behind → form_of (kind_at t) ≡ None
    → ((value : Option Expression) (next : List Lexeme) → ReadsOptional scopes.Block levels.Expr (codes ";") (most - 1) ts value next → ⊥) → ReadsStatement most ts s rest → ⊥
no_evaluated {behind = behind} {t = t} at is none (reads.Formed u more g low at' is' r) =
    let token : u ≡ t = (let e : u ∷ more ≡ t ∷ behind = sym at' ∙ at in cc) in
    absurd (let e : None ≡ Some g = sym is ∙ ap (λ x. form_of (kind_at x)) (sym token) ∙ is' in cc)
no_evaluated {rest = rest} at is none (reads.Evaluated {value = value} u more low at' line is' r) = none value rest r

pub no_block : {most line : ℕ} {ts rest : List Lexeme} {s : Statement} → ((entries : Entries) (next : List Lexeme) → ReadsEntries most ts entries next → ⊥) → ReadsForm forms.Block most line ts s rest → ⊥
no_block {rest = rest} none (reads.Block {entries = entries} r) = none entries rest r

pub no_if : {most line : ℕ} {ts rest : List Lexeme} {s : Statement} → ((e : Expression) (next : List Lexeme) → ReadsCondition most ts e next → ⊥) → ReadsForm forms.If most line ts s rest → ⊥
no_if none (reads.If {e = e} behind c r not) = none e behind c
no_if none (reads.IfElse {e = e} behind middle next c r w z) = none e behind c

pub no_if_first : {most line : ℕ} {ts behind rest : List Lexeme} {s : Statement} {e : Expression} → ReadsCondition most ts e behind
    → ((inner : Statement) (next : List Lexeme) → ReadsStatement most behind inner next → ⊥) → ReadsForm forms.If most line ts s rest → ⊥
no_if_first {most} {rest = rest} c none (reads.If {s = inner} behind' c' r not) = none inner rest (subst (λ l. ReadsStatement most l inner rest) (one_condition c' c).1 r)
no_if_first {most} c none (reads.IfElse {s = inner} behind' middle next c' r w z) = none inner middle (subst (λ l. ReadsStatement most l inner middle) (one_condition c' c).1 r)

pub no_else : {most line : ℕ} {ts behind middle next rest : List Lexeme} {s inner : Statement} {e : Expression} → ReadsCondition most ts e behind → ReadsStatement most behind inner middle → Next (Word (codes "else")) middle next
    → ((other : Statement) (end : List Lexeme) → ReadsStatement most next other end → ⊥) → ReadsForm forms.If most line ts s rest → ⊥
no_else {most} {next = next} {rest = rest} c r w none (reads.If {s = inner'} behind' c' r' not) =
    let same = one_statement (subst (λ l. ReadsStatement most l inner' rest) (one_condition c' c).1 r') r in
    not next (subst (λ l. Next (Word (codes "else")) l next) (sym same.1) w)
no_else {most} {rest = rest} c r w none (reads.IfElse {s = inner'} {other = other} behind' middle' next' c' r' w' z) =
    let same = one_statement (subst (λ l. ReadsStatement most l inner' middle') (one_condition c' c).1 r') r in
    none other rest (subst (λ l. ReadsStatement most l other rest) (one_next (subst (λ l. Next (Word (codes "else")) l next') same.1 w') w) z)

pub no_while : {most line : ℕ} {ts rest : List Lexeme} {s : Statement} → ((e : Expression) (next : List Lexeme) → ReadsCondition most ts e next → ⊥) → ReadsForm forms.While most line ts s rest → ⊥
no_while none (reads.While {e = e} behind c r) = none e behind c

pub no_while_body : {most line : ℕ} {ts behind rest : List Lexeme} {s : Statement} {e : Expression} → ReadsCondition most ts e behind
    → ((inner : Statement) (next : List Lexeme) → ReadsStatement most behind inner next → ⊥) → ReadsForm forms.While most line ts s rest → ⊥
no_while_body {most} {rest = rest} c none (reads.While {s = inner} behind' c' r) = none inner rest (subst (λ l. ReadsStatement most l inner rest) (one_condition c' c).1 r)

pub no_do : {most line : ℕ} {ts rest : List Lexeme} {s : Statement} → ((inner : Statement) (next : List Lexeme) → ReadsStatement most ts inner next → ⊥) → ReadsForm forms.Do most line ts s rest → ⊥
no_do none (reads.Do {s = inner} behind next last r w c n) = none inner behind r

pub no_do_while : {most line : ℕ} {ts behind rest : List Lexeme} {s inner : Statement} → ReadsStatement most ts inner behind → IsNoNext (Word (codes "while")) behind → ReadsForm forms.Do most line ts s rest → ⊥
no_do_while r none (reads.Do behind' next last r' w c n) = none next (subst (λ l. Next (Word (codes "while")) l next) (one_statement r' r).1 w)

pub no_do_condition : {most line : ℕ} {ts behind next rest : List Lexeme} {s inner : Statement} → ReadsStatement most ts inner behind → Next (Word (codes "while")) behind next
    → ((e : Expression) (last : List Lexeme) → ReadsCondition most next e last → ⊥) → ReadsForm forms.Do most line ts s rest → ⊥
no_do_condition {most} r w none (reads.Do {e = e} behind' next' last r' w' c n) =
    none e last (subst (λ l. ReadsCondition most l e last) (one_next (subst (λ l. Next (Word (codes "while")) l next') (one_statement r' r).1 w') w) c)

pub no_do_end : {most line : ℕ} {ts behind next last rest : List Lexeme} {s inner : Statement} {e : Expression} → ReadsStatement most ts inner behind → Next (Word (codes "while")) behind next
    → ReadsCondition most next e last → IsNoNext (Punctuator (codes ";")) last → ReadsForm forms.Do most line ts s rest → ⊥
no_do_end {most} {rest = rest} r w c none (reads.Do {e = e'} behind' next' last' r' w' c' n) =
    let word = one_next (subst (λ l. Next (Word (codes "while")) l next') (one_statement r' r).1 w') w in
    none rest (subst (λ l. Next (Punctuator (codes ";")) l rest) (one_condition (subst (λ l. ReadsCondition most l e' last') word c') c).1 n)

pub no_for : {most line : ℕ} {ts rest : List Lexeme} {s : Statement} → ((start : ForStart) (condition step : Option Expression) (next : List Lexeme) → ReadsForHead most ts start condition step next → ⊥) → ReadsForm forms.For most line ts s rest → ⊥
no_for none (reads.For {start = start} {condition = condition} {step = step} behind h r) = none start condition step behind h

pub no_for_body : {most line : ℕ} {ts behind rest : List Lexeme} {s : Statement} {start : ForStart} {condition step : Option Expression} → ReadsForHead most ts start condition step behind
    → ((inner : Statement) (next : List Lexeme) → ReadsStatement most behind inner next → ⊥) → ReadsForm forms.For most line ts s rest → ⊥
no_for_body {most} {rest = rest} h none (reads.For {s = inner} behind' h' r) = none inner rest (subst (λ l. ReadsStatement most l inner rest) (one_for_head h' h).3 r)

pub no_break : {most line : ℕ} {ts rest : List Lexeme} {s : Statement} → IsNoNext (Punctuator (codes ";")) ts → ReadsForm forms.Break most line ts s rest → ⊥
no_break {rest = rest} none (reads.Break n) = none rest n

pub no_continue : {most line : ℕ} {ts rest : List Lexeme} {s : Statement} → IsNoNext (Punctuator (codes ";")) ts → ReadsForm forms.Continue most line ts s rest → ⊥
no_continue {rest = rest} none (reads.Continue n) = none rest n

pub no_return : {most line : ℕ} {ts rest : List Lexeme} {s : Statement} → ((value : Option Expression) (next : List Lexeme) → ReadsOptional scopes.Block levels.Expr (codes ";") most ts value next → ⊥) → ReadsForm forms.Return most line ts s rest → ⊥
no_return {rest = rest} none (reads.Return {value = value} r) = none value rest r

-- ---- the head of a `for`

pub no_start : (most : ℕ) (ts : List Lexeme) (start : ForStart) (rest : List Lexeme) → next_specifier scopes.Block ts ≡ None
    → ((value : Option Expression) (next : List Lexeme) → ReadsOptional scopes.Block levels.Expr (codes ";") most ts value next → ⊥) → ReadsForStart most ts start rest → ⊥
no_start most ts (DeclareFirst d) rest is none r = some_specifier r is
no_start most ts (EvaluateFirst value) rest is none r = none value rest r.1

pub no_declared_start : (most : ℕ) (ts : List Lexeme) (start : ForStart) (rest : List Lexeme) → (next_specifier scopes.Block ts ≡ None → ⊥)
    → ((d : Declaration) (next : List Lexeme) → ReadsDeclaration scopes.Block most ts d next → ⊥) → ReadsForStart most ts start rest → ⊥
no_declared_start most ts (DeclareFirst d) rest some none r = none d rest r
no_declared_start most ts (EvaluateFirst value) rest some none r = some r.0

pub no_for_start : {most : ℕ} {ts inside rest : List Lexeme} {start : ForStart} {condition step : Option Expression} → Next (Punctuator (codes "(")) ts inside
    → ((other : ForStart) (next : List Lexeme) → ReadsForStart most inside other next → ⊥) → ReadsForHead most ts start condition step rest → ⊥
no_for_start {most} {start = start} n none h = none start h.second (subst (λ l. ReadsForStart most l start h.second) (one_next h.opens n) h.reads_start)

pub no_for_condition : {most : ℕ} {ts inside rest : List Lexeme} {start : ForStart} {condition step : Option Expression} (other : ForStart) (second : List Lexeme) → Next (Punctuator (codes "(")) ts inside → ReadsForStart most inside other second
    → ((value : Option Expression) (next : List Lexeme) → ReadsOptional scopes.Block levels.Expr (codes ";") most second value next → ⊥) → ReadsForHead most ts start condition step rest → ⊥
no_for_condition {most} {inside = inside} {start = start} {condition} other second n s none h =
    let begun = one_start most inside start other (subst (λ l. ReadsForStart most l start h.second) (one_next h.opens n) h.reads_start) s in
    none condition h.third (subst (λ l. ReadsOptional scopes.Block levels.Expr (codes ";") most l condition h.third) begun.1 h.reads_condition)

pub no_for_step : {most : ℕ} {ts inside rest : List Lexeme} {start : ForStart} {condition step : Option Expression} (other : ForStart) (second : List Lexeme) (value : Option Expression) (third : List Lexeme) → Next (Punctuator (codes "(")) ts inside → ReadsForStart most inside other second
    → ReadsOptional scopes.Block levels.Expr (codes ";") most second value third → ((x : Option Expression) (next : List Lexeme) → ReadsOptional scopes.Block levels.Expr (codes ")") most third x next → ⊥)
    → ReadsForHead most ts start condition step rest → ⊥
no_for_step {most} {inside = inside} {rest = rest} {start = start} {condition} {step} other second value third n s c none h =
    let begun = one_start most inside start other (subst (λ l. ReadsForStart most l start h.second) (one_next h.opens n) h.reads_start) s in
    let tested = one_optional scopes.Block levels.Expr (codes ";") most second condition value (subst (λ l. ReadsOptional scopes.Block levels.Expr (codes ";") most l condition h.third) begun.1 h.reads_condition) c in
    none step rest (subst (λ l. ReadsOptional scopes.Block levels.Expr (codes ")") most l step rest) tested.1 h.reads_step)

-- ---- what stands in blocks

abbrev pub IsNoMark : List Lexeme → Type 0
IsNoMark ts = (m : Mark) (behind : List Lexeme) → ReadsMark ts m behind → ⊥

pub no_declared : {most : ℕ} {ts rest : List Lexeme} {e : Entry} → IsNoMark ts → (next_specifier scopes.Block ts ≡ None → ⊥)
    → ((d : Declaration) (next : List Lexeme) → ReadsDeclaration scopes.Block most ts d next → ⊥) → ReadsEntry most ts e rest → ⊥
no_declared {rest = rest} unmarked some none (reads.MarkIn {m = m} r) = unmarked m rest r
no_declared {rest = rest} unmarked some none (reads.DeclaredIn {d = d} r) = none d rest r
no_declared unmarked some none (reads.StatedIn not is r) = some is

pub no_stated : {most : ℕ} {ts rest : List Lexeme} {e : Entry} → IsNoMark ts → next_specifier scopes.Block ts ≡ None
    → ((s : Statement) (next : List Lexeme) → ReadsStatement most ts s next → ⊥) → ReadsEntry most ts e rest → ⊥
no_stated {rest = rest} unmarked is none (reads.MarkIn {m = m} r) = unmarked m rest r
no_stated unmarked is none (reads.DeclaredIn r) = some_specifier r is
no_stated {rest = rest} unmarked is none (reads.StatedIn {s = s} not is' r) = none s rest r

-- whether a directive is next, by the first token
pub mark_next : (b : Bool) (t : Lexeme) (ts behind : List Lexeme) → ts ≡ t ∷ behind → (IsTrue b ↔ ((words : Lexemes) × (kind_at t ≡ tokens.Directive words)))
    → IsTrue b ↔ ((m : Mark) × (rest : List Lexeme) × ReadsMark ts m rest)
mark_next b t ts behind at h = (
  λ e. (let w = h.0 e in (record { line = line_of t; words = w.0 }, behind, record { next = record { token = t; parts = at; is = w.1 }; line_is = ap first_line at })),
  λ x. (let n = x.2.next in let p = n.parts in let token : n.token ≡ t = cc in h.1 (x.0.words, ap kind_at (sym token) ∙ n.is)),
)

pub no_mark_next : (ts : List Lexeme) → ts ≡ [] → IsTrue false ↔ ((m : Mark) × (rest : List Lexeme) × ReadsMark ts m rest)
no_mark_next ts none = (λ e. absurd (false≢true e), λ x. absurd (let n = x.2.next in let p = n.parts in let e : [] ≡ n.token ∷ x.1 = sym none ∙ p in cc))
