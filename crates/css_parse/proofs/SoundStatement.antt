-- Statements that are read are spelled.
use Rattle.std.proofs.Common.{◌≡◌, ℕ, ◌+◌, ◌-◌, ◌<◌, ◌≤◌, max, Bool, true, false, List, [], ◌∷◌, ◌++◌, length, codes, Option, Some, None, refl, sym, ap, ◌∙◌, subst, inl, inr, arith, append_assoc, append-nil}
use Rattle.css_base.specs.Tokens as tokens
use Rattle.css_base.specs.Tokens.{Kind, Word, Punctuator, Lexeme}
use Rattle.css_tree.specs.declared.scope.Scope.TheVariants as scopes
use Rattle.css_tree.specs.Syntax as tree
use Rattle.css_tree.specs.Syntax.{Expression, Declaration, Mark, ForStart, DeclareFirst, EvaluateFirst, Statement, Entry, Entries, NoEntries, MoreEntries}
use Rattle.css_tree.specs.TokenParts.{kind_at, line_of, first_line}
use Rattle.css_tree.specs.Statements.{takes_else, SpellsMark, SpellsForStart, SpellsStatement, SpellsEntries, SpellsEntry}
use Rattle.css_tree.specs.Heights.{height_of_start, height_of_optional, height_of_statement, height_of_entry, height_of_entries}
use Rattle.css_pexpr.specs.declared.level.Level.TheVariants as levels
use Rattle.css_parse.specs.declared.form.Form.{Form}
use Rattle.css_parse.specs.declared.form.Form.TheVariants as forms
use Rattle.css_parse.specs.Fronts.{Next}
use Rattle.css_parse.specs.Forms.{form_of}
use Rattle.css_parse.specs.Readings as reads
use Rattle.css_parse.specs.Readings.{ReadsMark, ReadsForStart, ReadsForHead, ReadsStatement, ReadsForm, ReadsEntries, ReadsEntry}
use Rattle.css_parse.proofs.FormKinds.{form_kind, form_is}
use Rattle.css_parse.proofs.SoundDeclaration.{Cut, led, followed, none_before, one_before, last_one, front_line, optional_spelled, condition_spelled, declaration_spelled}

-- a statement that was read before an `else` doesn't take it
mutual
  pub takes_no_else : {most : ℕ} {ts rest after : List Lexeme} {s : Statement} → ReadsStatement most ts s rest → Next (Word (codes "else")) rest after → takes_else s ≡ false
  takes_no_else (reads.Formed t behind f some parts is r) n = form_takes_no_else f r n
  takes_no_else (reads.Evaluated t behind some parts line none v) n = refl

  form_takes_no_else : {most line : ℕ} {ts rest after : List Lexeme} {s : Statement} (f : Form) → ReadsForm f most line ts s rest → Next (Word (codes "else")) rest after → takes_else s ≡ false
  form_takes_no_else f (reads.Block r) n = refl
  form_takes_no_else {after = after} f (reads.If behind c r none) n = absurd (none after n)
  form_takes_no_else f (reads.IfElse behind middle next c r word w) n = takes_no_else w n
  form_takes_no_else f (reads.While behind c r) n = takes_no_else r n
  form_takes_no_else f (reads.Do behind next last r word c z) n = refl
  form_takes_no_else f (reads.For behind h r) n = takes_no_else r n
  form_takes_no_else f (reads.Break e) n = refl
  form_takes_no_else f (reads.Continue e) n = refl
  form_takes_no_else f (reads.Return v) n = refl

pub record MarkBefore (ts : List Lexeme) (m : Mark) (rest : List Lexeme) : Type 0 where
  pub front : List Lexeme
  pub parts : Cut ts front (rest)
  pub spells : SpellsMark front m

pub mark_spelled : {ts rest : List Lexeme} {m : Mark} → ReadsMark ts m rest → MarkBefore ts m rest
mark_spelled {ts} r =
    let n = r.next in
    record { front = n.token ∷ []; parts = one_before n.parts; spells = record { is = (n.token, [], refl, n.is, refl); line_is = sym (ap first_line n.parts) ∙ r.line_is } }

record StartBefore (most : ℕ) (ts : List Lexeme) (start : ForStart) (rest : List Lexeme) : Type 0 where
  pub front : List Lexeme
  pub parts : Cut ts front (rest)
  pub spells : SpellsForStart front start
  pub low : height_of_start start ≤ most

start_spelled : (most : ℕ) (ts : List Lexeme) (start : ForStart) {rest : List Lexeme} → ReadsForStart most ts start rest → StartBefore most ts start rest
start_spelled most ts (DeclareFirst d) r = (let x = declaration_spelled r in record { front = x.front; parts = x.parts; spells = x.spells; low = x.low })
start_spelled most ts (EvaluateFirst value) r =
    let x = optional_spelled scopes.Block levels.Expr (codes ";") most ts value r.1 in
    record {
      front = x.front ++ x.token ∷ [];
      parts = followed x.parts (last_one x.token);
      spells = (x.front, (_, refl, (x.token, [], refl, x.is, refl)), x.spells);
      low = x.low;
    }

pub record StatementBefore (most : ℕ) (ts : List Lexeme) (s : Statement) (rest : List Lexeme) : Type 0 where
  pub front : List Lexeme
  pub parts : Cut ts front (rest)
  pub spells : SpellsStatement front s
  pub low : height_of_statement s ≤ most

-- a statement behind its first token
record FormBefore (f : Form) (most line : ℕ) (ts : List Lexeme) (s : Statement) (rest : List Lexeme) : Type 0 where
  pub front : List Lexeme
  pub parts : Cut ts front (rest)
  pub spells : (t : Lexeme) → kind_at t ≡ form_kind f → line_of t ≡ line → SpellsStatement (t ∷ front) s
  pub low : height_of_statement s ≤ 1 + most

pub record EntriesBefore (most : ℕ) (ts : List Lexeme) (entries : Entries) (rest : List Lexeme) : Type 0 where
  pub front : List Lexeme
  pub token : Lexeme
  pub parts : Cut ts front (token ∷ rest)
  pub is : kind_at token ≡ Punctuator (codes "}")
  pub spells : SpellsEntries front entries
  pub low : height_of_entries entries ≤ most

record EntryBefore (most : ℕ) (ts : List Lexeme) (e : Entry) (rest : List Lexeme) : Type 0 where
  pub front : List Lexeme
  pub parts : Cut ts front (rest)
  pub spells : SpellsEntry front e
  pub low : height_of_entry e ≤ most

mutual
  pub statement_spelled : {most : ℕ} {ts rest : List Lexeme} {s : Statement} → ReadsStatement most ts s rest → StatementBefore most ts s rest
  statement_spelled (reads.Formed t behind f some parts is r) =
      let x = form_spelled f r in
      let low = x.low in
      record { front = t ∷ x.front; parts = led t parts x.parts; spells = x.spells t (form_is (kind_at t) f is) refl; low = omega arith }
  statement_spelled {most} {ts} {rest} (reads.Evaluated {value = value} t behind some parts line none v) =
      let x = optional_spelled scopes.Block levels.Expr (codes ";") (most - 1) ts value v in
      let low = x.low in
      let front = x.front ++ x.token ∷ [] in
      let all : Cut ts front rest = followed x.parts (last_one x.token) in
      record {
        front = front;
        parts = all;
        spells = (x.front, (_, refl, (x.token, [], refl, x.is, refl)), front_line all (some_last x.front x.token) (ap first_line parts ∙ sym line), x.spells);
        low = omega arith;
      }
    where
      some_last : (us : List Lexeme) (t : Lexeme) → 0 < length (us ++ t ∷ [])
      some_last [] t = omega arith
      some_last (u ∷ us) t = omega arith

  form_spelled : {most line : ℕ} {ts rest : List Lexeme} {s : Statement} (f : Form) → ReadsForm f most line ts s rest → FormBefore f most line ts s rest
  form_spelled f (reads.Block r) =
      let x = entries_spelled r in
      let low = x.low in
      record {
        front = x.front ++ x.token ∷ [];
        parts = followed x.parts (last_one x.token);
        spells = λ t kind line. (x.front, (t, _, refl, kind, (_, refl, (x.token, [], refl, x.is, refl))), line, x.spells);
        low = omega arith;
      }
  form_spelled f (reads.If behind c r none) =
      let x = condition_spelled c in
      let y = statement_spelled r in
      let a = x.low in
      let b = y.low in
      record {
        front = x.opening ∷ (x.front ++ x.closing ∷ y.front);
        parts = led x.opening x.first (followed x.parts (led x.closing refl y.parts));
        spells = λ t kind line.
            (x.front, y.front, (t, _, refl, kind, (x.opening, _, refl, x.opens, (_, refl, (x.closing, _, refl, x.closes, refl)))), line, x.spells, y.spells);
        low = omega arith;
      }
  form_spelled f (reads.IfElse behind middle next c r n w) =
      let x = condition_spelled c in
      let y = statement_spelled r in
      let z = statement_spelled w in
      let a = x.low in
      let b = y.low in
      let d = z.low in
      record {
        front = x.opening ∷ (x.front ++ x.closing ∷ (y.front ++ n.token ∷ z.front));
        parts = led x.opening x.first (followed x.parts (led x.closing refl (followed y.parts (led n.token n.parts z.parts))));
        spells = λ t kind line.
            (x.front, y.front, z.front, (t, _, refl, kind, (x.opening, _, refl, x.opens, (_, refl, (x.closing, _, refl, x.closes, (_, refl, (n.token, _, refl, n.is, refl)))))), line, x.spells, y.spells, takes_no_else r n, z.spells);
        low = omega arith;
      }
  form_spelled f (reads.While behind c r) =
      let x = condition_spelled c in
      let y = statement_spelled r in
      let a = x.low in
      let b = y.low in
      record {
        front = x.opening ∷ (x.front ++ x.closing ∷ y.front);
        parts = led x.opening x.first (followed x.parts (led x.closing refl y.parts));
        spells = λ t kind line.
            (x.front, y.front, (t, _, refl, kind, (x.opening, _, refl, x.opens, (_, refl, (x.closing, _, refl, x.closes, refl)))), line, x.spells, y.spells);
        low = omega arith;
      }
  form_spelled f (reads.Do behind next last r n c e) =
      let y = statement_spelled r in
      let x = condition_spelled c in
      let a = x.low in
      let b = y.low in
      record {
        front = y.front ++ n.token ∷ (x.opening ∷ (x.front ++ x.closing ∷ (e.token ∷ [])));
        parts = followed y.parts (led n.token n.parts (led x.opening x.first (followed x.parts (led x.closing refl (one_before e.parts)))));
        spells = λ t kind line.
            (y.front, x.front, (t, _, refl, kind, (_, refl, (n.token, _, refl, n.is, (x.opening, _, refl, x.opens, (_, refl, (x.closing, _, refl, x.closes, (e.token, [], refl, e.is, refl))))))), line, y.spells, x.spells);
        low = omega arith;
      }
  form_spelled {most} f (reads.For {start = start} {condition = condition} {step = step} behind h r) =
      let i = start_spelled most h.inside start h.reads_start in
      let j = optional_spelled scopes.Block levels.Expr (codes ";") most h.second condition h.reads_condition in
      let k = optional_spelled scopes.Block levels.Expr (codes ")") most h.third step h.reads_step in
      let y = statement_spelled r in
      let n = h.opens in
      let a = i.low in
      let b = j.low in
      let d = k.low in
      let e = y.low in
      record {
        front = n.token ∷ (i.front ++ (j.front ++ j.token ∷ (k.front ++ k.token ∷ y.front)));
        parts = led n.token n.parts (followed i.parts (followed j.parts (led j.token refl (followed k.parts (led k.token refl y.parts)))));
        spells = λ t kind line.
            (i.front, j.front, k.front, y.front, (t, _, refl, kind, (n.token, _, refl, n.is, (_, refl, (_, refl, (j.token, _, refl, j.is, (_, refl, (k.token, _, refl, k.is, refl))))))), line, i.spells, j.spells, k.spells, y.spells);
        low = omega arith;
      }
  form_spelled f (reads.Break n) = record {
    front = n.token ∷ [];
    parts = one_before n.parts;
    spells = λ t kind line. ((t, _, refl, kind, (n.token, [], refl, n.is, refl)), line);
    low = omega arith;
  }
  form_spelled f (reads.Continue n) = record {
    front = n.token ∷ [];
    parts = one_before n.parts;
    spells = λ t kind line. ((t, _, refl, kind, (n.token, [], refl, n.is, refl)), line);
    low = omega arith;
  }
  form_spelled {most} {ts = ts} f (reads.Return {value = value} v) =
      let x = optional_spelled scopes.Block levels.Expr (codes ";") most ts value v in
      let low = x.low in
      record {
        front = x.front ++ x.token ∷ [];
        parts = followed x.parts (last_one x.token);
        spells = λ t kind line. (x.front, (t, _, refl, kind, (_, refl, (x.token, [], refl, x.is, refl))), line, x.spells);
        low = omega arith;
      }

  pub entries_spelled : {most : ℕ} {ts rest : List Lexeme} {es : Entries} → ReadsEntries most ts es rest → EntriesBefore most ts es rest
  entries_spelled (reads.Closed n) = record { front = []; token = n.token; parts = none_before n.parts; is = n.is; spells = refl; low = omega arith }
  entries_spelled (reads.More behind none r more) =
      let x = entry_spelled r in
      let y = entries_spelled more in
      let a = x.low in
      let b = y.low in
      record {
        front = x.front ++ y.front;
        token = y.token;
        parts = followed x.parts y.parts;
        is = y.is;
        spells = (x.front, y.front, (_, refl, refl), x.spells, y.spells);
        low = omega arith;
      }

  entry_spelled : {most : ℕ} {ts rest : List Lexeme} {e : Entry} → ReadsEntry most ts e rest → EntryBefore most ts e rest
  entry_spelled (reads.MarkIn m) = (let x = mark_spelled m in record { front = x.front; parts = x.parts; spells = x.spells; low = omega arith })
  entry_spelled (reads.DeclaredIn d) = (let x = declaration_spelled d in record { front = x.front; parts = x.parts; spells = x.spells; low = x.low })
  entry_spelled (reads.StatedIn none words r) = (let x = statement_spelled r in record { front = x.front; parts = x.parts; spells = x.spells; low = x.low })
