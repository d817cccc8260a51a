-- Statements are read in one way.
use Rattle.std.proofs.Common.{◌≡◌, ℕ, ◌-◌, ◌<◌, ◌≤◌, List, [], ◌∷◌, ◌++◌, length, codes, Option, Some, None, refl, sym, ap, ap₂, ◌∙◌, subst, arith}
use Rattle.css_base.specs.Tokens as tokens
use Rattle.css_base.specs.Tokens.{Kind, Word, Punctuator, Lexeme, Lexemes}
use Rattle.css_tree.specs.declared.scope.Scope.TheVariants as scopes
use Rattle.css_tree.specs.declared.words.Specifier.{Specifier}
use Rattle.css_tree.specs.Syntax as tree
use Rattle.css_tree.specs.Syntax.{Expression, Declaration, Mark, ForStart, DeclareFirst, EvaluateFirst, Statement, Entry, Entries, MoreEntries}
use Rattle.css_tree.specs.TokenParts.{kind_at, line_of, first_line}
use Rattle.css_pexpr.specs.declared.level.Level.TheVariants as levels
use Rattle.css_parse.specs.declared.form.Form.{Form}
use Rattle.css_parse.specs.Fronts.{Next}
use Rattle.css_parse.specs.Forms.{form_of}
use Rattle.css_parse.specs.Words.{next_specifier, specifier_of, TakesSpecifiers, ReadsSpecifiers}
use Rattle.css_parse.specs.Readings as reads
use Rattle.css_parse.specs.Readings.{IsNoNext, ReadsOptional, ReadsCondition, ReadsDeclaration, ReadsMark, ReadsForStart, ReadsForHead, ReadsStatement, ReadsForm, ReadsEntries, ReadsEntry}
use Rattle.css_parse.proofs.FrontTokens.{one_next, one_kind}
use Rattle.css_parse.proofs.OneDeclaration.{no_specifier, one_optional, one_condition, one_declaration}

-- a declaration begins with a specifier
pub some_specifier : {ts rest : List Lexeme} {d : Declaration} {most : ℕ} → ReadsDeclaration scopes.Block most ts d rest → next_specifier scopes.Block ts ≡ None → ⊥
some_specifier {ts} {d = d} a none = by d.specifiers a.behind a.reads_specifiers.some a.reads_specifiers.takes
  where
    by : (all : List Specifier) (behind : List Lexeme) → 0 < length all → TakesSpecifiers scopes.Block ts all behind → ⊥
    by [] behind some takes = absurd (omega arith)
    by (s ∷ all) rest some (behind, is, more) = no_specifier is none

-- and so no directive does
pub no_mark_declared : {ts us vs : List Lexeme} {d : Declaration} {m : Mark} {most : ℕ} → ReadsDeclaration scopes.Block most ts d us → ReadsMark ts m vs → ⊥
no_mark_declared a b =
    let n = b.next in
    let p = n.parts in
    some_specifier a (ap (next_specifier scopes.Block) p ∙ ap (specifier_of scopes.Block) n.is)

abbrev make_mark : ℕ → Lexemes → Mark
make_mark line words = record { line = line; words = words }

pub one_mark : {ts us vs : List Lexeme} {m n : Mark} → ReadsMark ts m us → ReadsMark ts n vs → (m ≡ n) × (us ≡ vs)
one_mark {ts} {us} {vs} {m} {n} a b =
    let kinds : tokens.Directive m.words ≡ tokens.Directive n.words = one_kind a.next b.next in
    let words : m.words ≡ n.words = cc in
    let line : m.line ≡ n.line = sym a.line_is ∙ b.line_is in
    (ap (λ x. make_mark x m.words) line ∙ ap (λ x. make_mark n.line x) words, one_next a.next (subst (λ w. Next (tokens.Directive w) ts vs) (sym words) b.next))

pub one_start : (most : ℕ) (ts : List Lexeme) (x y : ForStart) {us vs : List Lexeme} → ReadsForStart most ts x us → ReadsForStart most ts y vs → (x ≡ y) × (us ≡ vs)
one_start most ts (DeclareFirst c) (DeclareFirst d) a b = let same = one_declaration a b in (ap DeclareFirst same.0, same.1)
one_start most ts (DeclareFirst c) (EvaluateFirst y) a b = absurd (some_specifier a b.0)
one_start most ts (EvaluateFirst x) (DeclareFirst d) a b = absurd (some_specifier b a.0)
one_start most ts (EvaluateFirst x) (EvaluateFirst y) a b =
    let same = one_optional scopes.Block levels.Expr (codes ";") most ts x y a.1 b.1 in
    (ap EvaluateFirst same.0, same.1)

pub one_for_head : {most : ℕ} {ts us vs : List Lexeme} {x y : ForStart} {c d s t : Option Expression} → ReadsForHead most ts x c s us → ReadsForHead most ts y d t vs → (x ≡ y) × (c ≡ d) × (s ≡ t) × (us ≡ vs)
one_for_head {most} {vs = vs} {x} {y} {c} {d} {s} {t} a b =
    let start = one_start most a.inside x y a.reads_start (subst (λ l. ReadsForStart most l y b.second) (one_next b.opens a.opens) b.reads_start) in
    let condition = one_optional scopes.Block levels.Expr (codes ";") most a.second c d a.reads_condition
    (subst (λ l. ReadsOptional scopes.Block levels.Expr (codes ";") most l d b.third) (sym start.1) b.reads_condition) in
    let step = one_optional scopes.Block levels.Expr (codes ")") most a.third s t a.reads_step
    (subst (λ l. ReadsOptional scopes.Block levels.Expr (codes ")") most l t vs) (sym condition.1) b.reads_step) in
    (start.0, condition.0, step.0, step.1)

mutual
  pub one_statement : {most : ℕ} {ts us vs : List Lexeme} {x y : Statement} → ReadsStatement most ts x us → ReadsStatement most ts y vs → (x ≡ y) × (us ≡ vs)
  one_statement {most} (reads.Formed t behind f some parts is r) (reads.Formed {rest = vs} {s = y} t' behind' f' some' parts' is' r') =
      let token : t' ≡ t = cc in
      let rest : behind' ≡ behind = cc in
      let both : Some f' ≡ Some f = sym is' ∙ ap (λ z. form_of (kind_at z)) token ∙ is in
      let form : f' ≡ f = cc in
      one_form f r (subst (λ g. ReadsForm g (most - 1) (line_of t) behind y vs) form
      (subst (λ z. ReadsForm f' (most - 1) (line_of z) behind y vs) token (subst (λ l. ReadsForm f' (most - 1) (line_of t') l y vs) rest r')))
  one_statement (reads.Formed t behind f some parts is r) (reads.Evaluated t' behind' some' parts' line none v) =
      let token : t ≡ t' = cc in
      absurd (let wrong : Some f ≡ None = sym is ∙ ap (λ z. form_of (kind_at z)) token ∙ none in cc)
  one_statement (reads.Evaluated t' behind' some' parts' line none v) (reads.Formed t behind f some parts is r) =
      let token : t ≡ t' = cc in
      absurd (let wrong : Some f ≡ None = sym is ∙ ap (λ z. form_of (kind_at z)) token ∙ none in cc)
  one_statement {most} {ts} (reads.Evaluated {value = x} t behind {line = m} some parts line none v) (reads.Evaluated {value = y} t' behind' {line = k} some' parts' line' none' v') =
      let token : t ≡ t' = cc in
      let same = one_optional scopes.Block levels.Expr (codes ";") (most - 1) ts x y v v' in
      let lines : m ≡ k = line ∙ ap line_of token ∙ sym line' in
      (ap₂ tree.Evaluate lines same.0, same.1)

  pub one_form : {most line : ℕ} {ts us vs : List Lexeme} {x y : Statement} (f : Form) → ReadsForm f most line ts x us → ReadsForm f most line ts y vs → (x ≡ y) × (us ≡ vs)
  one_form {line = line} f (reads.Block r) (reads.Block r') = let same = one_entries r r' in (ap (tree.Block line) same.0, same.1)
  one_form {most} {line} f (reads.If behind c r none) (reads.If {rest = vs} {s = s'} behind' c' r' none') =
      let p = one_condition c c' in
      let q = one_statement r (subst (λ l. ReadsStatement most l s' vs) (sym p.1) r') in
      (ap₂ (tree.If line) p.0 q.0, q.1)
  one_form {most} {line} f (reads.If behind c r none) (reads.IfElse {s = s'} behind' middle' next' c' r' n' o') =
      let p = one_condition c c' in
      let q = one_statement r (subst (λ l. ReadsStatement most l s' middle') (sym p.1) r') in
      absurd (none next' (subst (λ l. Next (Word (codes "else")) l next') (sym q.1) n'))
  one_form {most} {line} f (reads.IfElse behind middle next c r n w) (reads.If {rest = vs} {s = s'} behind' c' r' none) =
      let p = one_condition c c' in
      let q = one_statement r (subst (λ l. ReadsStatement most l s' vs) (sym p.1) r') in
      absurd (none next (subst (λ l. Next (Word (codes "else")) l next) q.1 n))
  one_form {most} {line} f (reads.IfElse {e = e} {s = s} {other = o} behind middle next c r n w) (reads.IfElse {rest = vs} {e = e'} {s = s'} {other = o'} behind' middle' next' c' r' n' w') =
      let p = one_condition c c' in
      let q = one_statement r (subst (λ l. ReadsStatement most l s' middle') (sym p.1) r') in
      let k = one_next (subst (λ l. Next (Word (codes "else")) l next) q.1 n) n' in
      let z = one_statement w (subst (λ l. ReadsStatement most l o' vs) (sym k) w') in
      let a : e ≡ e' = p.0 in
      let b : s ≡ s' = q.0 in
      let d : o ≡ o' = z.0 in
      (cc, z.1)
  one_form {most} {line} f (reads.While behind c r) (reads.While {rest = vs} {s = s'} behind' c' r') =
      let p = one_condition c c' in
      let q = one_statement r (subst (λ l. ReadsStatement most l s' vs) (sym p.1) r') in
      (ap₂ (tree.While line) p.0 q.0, q.1)
  one_form {most} {line} f (reads.Do {rest = us} {e = e} behind next last r n c z) (reads.Do {rest = vs} {e = e'} behind' next' last' r' n' c' z') =
      let q = one_statement r r' in
      let k = one_next (subst (λ l. Next (Word (codes "while")) l next) q.1 n) n' in
      let p = one_condition c (subst (λ l. ReadsCondition most l e' last') (sym k) c') in
      (ap₂ (tree.Do line) q.0 p.0, one_next (subst (λ l. Next (Punctuator (codes ";")) l us) p.1 z) z')
  one_form {most} {line} f (reads.For {start = x} {condition = c} {step = d} {s = s} behind h r) (reads.For {rest = vs} {start = x'} {condition = c'} {step = d'} {s = s'} behind' h' r') =
      let p = one_for_head h h' in
      let q = one_statement r (subst (λ l. ReadsStatement most l s' vs) (sym p.3) r') in
      let a : x ≡ x' = p.0 in
      let b : c ≡ c' = p.1 in
      let e : d ≡ d' = p.2 in
      let g : s ≡ s' = q.0 in
      (cc, q.1)
  one_form f (reads.Break n) (reads.Break n') = (refl, one_next n n')
  one_form f (reads.Continue n) (reads.Continue n') = (refl, one_next n n')
  one_form {most} {line} {ts} f (reads.Return {value = x} v) (reads.Return {value = y} v') =
      let same = one_optional scopes.Block levels.Expr (codes ";") most ts x y v v' in
      (ap (tree.Return line) same.0, same.1)

  pub one_entries : {most : ℕ} {ts us vs : List Lexeme} {x y : Entries} → ReadsEntries most ts x us → ReadsEntries most ts y vs → (x ≡ y) × (us ≡ vs)
  one_entries (reads.Closed n) (reads.Closed n') = (refl, one_next n n')
  one_entries {us = us} (reads.Closed n) (reads.More behind none r more) = absurd (none us n)
  one_entries {vs = vs} (reads.More behind none r more) (reads.Closed n) = absurd (none vs n)
  one_entries {most} (reads.More behind none r more) (reads.More {rest = vs} {others = ys} behind' none' r' more') =
      let first = one_entry r r' in
      let others = one_entries more (subst (λ l. ReadsEntries most l ys vs) (sym first.1) more') in
      (ap₂ MoreEntries first.0 others.0, others.1)

  pub one_entry : {most : ℕ} {ts us vs : List Lexeme} {x y : Entry} → ReadsEntry most ts x us → ReadsEntry most ts y vs → (x ≡ y) × (us ≡ vs)
  one_entry (reads.MarkIn m) (reads.MarkIn n) = let same = one_mark m n in (ap tree.Marked same.0, same.1)
  one_entry (reads.MarkIn m) (reads.DeclaredIn d) = absurd (no_mark_declared d m)
  one_entry {us = us} (reads.MarkIn m) (reads.StatedIn none words r) = absurd (none _ us m)
  one_entry (reads.DeclaredIn d) (reads.MarkIn m) = absurd (no_mark_declared d m)
  one_entry (reads.DeclaredIn c) (reads.DeclaredIn d) = let same = one_declaration c d in (ap tree.Declared same.0, same.1)
  one_entry (reads.DeclaredIn d) (reads.StatedIn none words r) = absurd (some_specifier d words)
  one_entry {vs = vs} (reads.StatedIn none words r) (reads.MarkIn m) = absurd (none _ vs m)
  one_entry (reads.StatedIn none words r) (reads.DeclaredIn d) = absurd (some_specifier d words)
  one_entry (reads.StatedIn none words r) (reads.StatedIn none' words' r') = let same = one_statement r r' in (ap tree.Stated same.0, same.1)
