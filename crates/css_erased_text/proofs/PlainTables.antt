-- No directive is in a macro, nor among the tokens that replace one.
use Rattle.std.proofs.Common.{◌≡◌, ℕ, zero, suc, Bool, true, false, cond, List, [], ◌∷◌, Option, Some, None, refl, sym, ◌∙◌, subst, All}
use Rattle.std.specs.Prelude.{flat_map, filter_map, bytes_eq, codes}
use Rattle.std.specs.Option.{option_flatten}
use Rattle.std.specs.List.{cons_option}
use Rattle.std.proofs.lemmas.Bool.{cond_both}
use Rattle.std.proofs.lemmas.List.Elements.{All-nil, All-cons, All-head, All-tail, All-append, All-from_recursion}
use Rattle.css_base.specs.Tokens.{Kind, Word, Number, Character, Text, Punctuator, Directive}
use Rattle.css_lexemes.specs.declared.line_kind.LineKind.{LineKind}
use Rattle.css_lexemes.specs.declared.line_kind.LineKind.TheVariants as kinds
use Rattle.css_lexemes.specs.Source.{bytes_of}
use Rattle.css_lexemes.specs.Lexemes.{Piece}
use Rattle.css_macros.specs.Macros.{Macro, Table, macro_of, undefined, defined, may_define, IsNoDirective, replaced, replacement, null_tokens, end_of_file_tokens, predefined_macro, predefined_macros}
use Rattle.css_lex.specs.Reading.{Definition, kind_of_piece, definition_of, undefined_of, with_definition, without_name, table_by}
use Rattle.css_macros.proofs.Definitions.{insert-lookup}
use Rattle.css_macros.proofs.Frames.{undefined-lookup}
use Rattle.css_lex.proofs.NamedWords.{name_is}

abbrev pub ArePlain : List Kind → Type 0
ArePlain kinds = All IsNoDirective kinds

-- The macros of the table have no directives.
abbrev pub IsPlainTable : Table → Type 0
IsPlainTable table = (name : List ℕ) (m : Macro) → macro_of table name ≡ Some m → ArePlain m.tokens

none_plain : ArePlain []
none_plain = All-nil IsNoDirective

one_plain : (kind : Kind) → IsNoDirective kind → ArePlain (kind ∷ [])
one_plain kind plain = All-cons IsNoDirective kind [] plain none_plain

one_macro : (m n : Macro) → Some m ≡ Some n → m ≡ n
one_macro m n e = cc

-- The table behind a definition or an end of one.
defined_plain : (table : Table) (name : List ℕ) (tokens : List Kind) → IsPlainTable table → ArePlain tokens → IsPlainTable (defined table name tokens)
defined_plain table name tokens plain new other m is =
    by (bytes_eq name other) (sym (insert-lookup table name other (Some this)) ∙ is)
  where
    this : Macro
    this = record { tokens = tokens; predefined = false }

    by : (same : Bool) → cond same (Some this) (macro_of table other) ≡ Some m → ArePlain m.tokens
    by true e = subst (λ (n : Macro). ArePlain n.tokens) (one_macro this m e) new
    by false e = plain other m e

undefined_plain : (table : Table) (name : List ℕ) → IsPlainTable table → IsPlainTable (undefined table name)
undefined_plain table name plain other m is = by (bytes_eq name other) (sym (undefined-lookup table name other) ∙ is)
  where
    by : (same : Bool) → cond same None (macro_of table other) ≡ Some m → ArePlain m.tokens
    by true e = absurd cc
    by false e = plain other m e

-- The predefined macros.
null_plain : ArePlain null_tokens
null_plain = All-from_recursion IsNoDirective null_tokens (tt, (tt, (tt, (tt, (tt, (tt, (tt, tt)))))))

end_plain : ArePlain end_of_file_tokens
end_plain = All-from_recursion IsNoDirective end_of_file_tokens (tt, (tt, (tt, (tt, tt))))

pub predefined_plain : IsPlainTable predefined_macros
predefined_plain name m is = by (bytes_eq name (codes "NULL")) (bytes_eq name (codes "EOF")) is
  where
    by : (a b : Bool) → option_flatten (cond a (Some (predefined_macro null_tokens)) (cond b (Some (predefined_macro end_of_file_tokens)) None)) ≡ Some m → ArePlain m.tokens
    by true b e = subst (λ (n : Macro). ArePlain n.tokens) (one_macro (record { tokens = null_tokens; predefined = true }) m e) null_plain
    by false true e = subst (λ (n : Macro). ArePlain n.tokens) (one_macro (record { tokens = end_of_file_tokens; predefined = true }) m e) end_plain
    by false false e = absurd cc

-- What pieces stand for.
found_plain : (found : Option Kind) (kinds : List Kind) → ((kind : Kind) → found ≡ Some kind → IsNoDirective kind) → ArePlain kinds → ArePlain (cons_option found kinds)
found_plain None kinds one rest = rest
found_plain (Some kind) kinds one rest = All-cons IsNoDirective kind kinds (one kind refl) rest

pub piece_plain : (p : Piece) (kind : Kind) → kind_of_piece p ≡ Some kind → IsNoDirective kind
piece_plain p kind is = (name_is p.shape (bytes_of p.bytes) kind is).1

pieces_plain : (pieces : List Piece) → ArePlain (filter_map kind_of_piece pieces)
pieces_plain [] = none_plain
pieces_plain (p ∷ pieces) = found_plain (kind_of_piece p) (filter_map kind_of_piece pieces) (piece_plain p) (pieces_plain pieces)

with_definition_plain : (table : Table) (found : Option Definition) → IsPlainTable table → IsPlainTable (with_definition table found)
with_definition_plain table None plain = plain
with_definition_plain table (Some d) plain =
    let tokens = filter_map kind_of_piece d.body in
    cond_both (may_define table d.name tokens) (defined table d.name tokens) table IsPlainTable (λ e. defined_plain table d.name tokens plain (pieces_plain d.body)) (λ e. plain)

without_name_plain : (table : Table) (found : Option (List ℕ)) → IsPlainTable table → IsPlainTable (without_name table found)
without_name_plain table None plain = plain
without_name_plain table (Some name) plain = undefined_plain table name plain

pub table_plain : (kind : LineKind) (table : Table) (pieces : List Piece) → IsPlainTable table → IsPlainTable (table_by kind table pieces)
table_plain kinds.Text table pieces plain = plain
table_plain kinds.Null table pieces plain = plain
table_plain kinds.Include table pieces plain = plain
table_plain kinds.Define table pieces plain = with_definition_plain table (definition_of pieces) plain
table_plain kinds.Undef table pieces plain = without_name_plain table (undefined_of pieces) plain
table_plain kinds.Css table pieces plain = plain
table_plain kinds.Pragma table pieces plain = plain
table_plain kinds.Unknown table pieces plain = plain

-- What replaces a token.
all_plain : (f : Kind → List Kind) → ((kind : Kind) → IsNoDirective kind → ArePlain (f kind)) → (tokens : List Kind) → ArePlain tokens → ArePlain (flat_map f tokens)
all_plain f each [] all = none_plain
all_plain f each (k ∷ tokens) all =
    All-append IsNoDirective (f k) (flat_map f tokens) (each k (All-head IsNoDirective k tokens all)) (all_plain f each tokens (All-tail IsNoDirective k tokens all))

by_macro : (levels : ℕ) (table : Table) (name : List ℕ) (found : Option Macro) → ((m : Macro) → found ≡ Some m → ArePlain m.tokens)
    → ((kind : Kind) → IsNoDirective kind → ArePlain (replaced levels (undefined table name) kind))
    → ArePlain (elim found [ None ↦ Word name ∷ [] | Some m ↦ flat_map (λ k. replaced levels (undefined table name) k) m.tokens ])
by_macro levels table name None plain each = one_plain (Word name) tt
by_macro levels table name (Some m) plain each = all_plain (λ k. replaced levels (undefined table name) k) each m.tokens (plain m refl)

replaced_plain : (levels : ℕ) (table : Table) (kind : Kind) → IsPlainTable table → IsNoDirective kind → ArePlain (replaced levels table kind)
replaced_plain zero table kind plain one = one_plain kind one
replaced_plain (suc levels) table (Word name) plain one =
    by_macro levels table name (macro_of table name) (plain name) (λ k p. replaced_plain levels (undefined table name) k (undefined_plain table name plain) p)
replaced_plain (suc levels) table (Number type value) plain one = one_plain (Number type value) tt
replaced_plain (suc levels) table (Character byte) plain one = one_plain (Character byte) tt
replaced_plain (suc levels) table (Text bytes) plain one = one_plain (Text bytes) tt
replaced_plain (suc levels) table (Punctuator bytes) plain one = one_plain (Punctuator bytes) tt
replaced_plain (suc levels) table (Directive words) plain one = absurd one

pub replacement_plain : (table : Table) (kind : Kind) → IsPlainTable table → IsNoDirective kind → ArePlain (replacement table kind)
replacement_plain table kind plain one = replaced_plain _ table kind plain one
