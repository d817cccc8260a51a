-- Macros without parameters (C99 6.10.3): the table of their names, and replacement (C99 6.10.3.4).
use Rattle.std.specs.Prelude.{ℕ, suc, ◌+◌, Bool, true, false, ◌&&◌, ◌||◌, List, [], ◌∷◌, length, flat_map, sum_by, codes, bytes_eq, ◌==◌, Option, Some, None}
use Rattle.std.specs.Option.{option_flatten}
use Rattle.std.specs.Map.{lookup, set_value}
use Rattle.indexmap.specs.IndexMap.{insert_entry}
use Rattle.css_base.specs.declared.int_type.IntType.{IntType}
use Rattle.css_base.specs.declared.int_type.IntType.TheVariants as types
use Rattle.css_base.specs.Tokens.{Kind, Word, Number, Character, Text, Punctuator, Directive}

-- A macro: what replaces its name, and whether it is predefined.
pub record Macro : Type 0 where
  pub tokens : List Kind
  pub predefined : Bool

-- The names that were defined before a place of the text, each once, with the macro that the name still is there.
abbrev pub Table : Type 0
Table = List (List ℕ × Option Macro)

abbrev pub predefined_macro : List Kind → Option Macro
predefined_macro tokens = Some (record { tokens = tokens; predefined = true })

-- `((void *)0)`
abbrev pub null_tokens : List Kind
null_tokens =
    Punctuator (codes "(") ∷ Punctuator (codes "(") ∷ Word (codes "void") ∷ Punctuator (codes "*") ∷ Punctuator (codes ")")
    ∷ Number types.Int 0 ∷ Punctuator (codes ")") ∷ []

-- `(-1)`
abbrev pub end_of_file_tokens : List Kind
end_of_file_tokens = Punctuator (codes "(") ∷ Punctuator (codes "-") ∷ Number types.Int 1 ∷ Punctuator (codes ")") ∷ []

-- The macros that are there at the text's beginning.
abbrev pub predefined_macros : Table
predefined_macros = (codes "NULL", predefined_macro null_tokens) ∷ (codes "EOF", predefined_macro end_of_file_tokens) ∷ []

-- The macro of a name, if there is one.
abbrev pub macro_of : Table → List ℕ → Option Macro
macro_of table name = option_flatten (lookup (bytes_eq name) table)

-- The table without the macro of a name (C99 6.10.3.5).
abbrev pub undefined : Table → List ℕ → Table
undefined table name = set_value (bytes_eq name) table None

-- The table with this macro as the one of its name.
abbrev pub defined : Table → List ℕ → List Kind → Table
defined table name tokens = insert_entry bytes_eq table name (Some (record { tokens = tokens; predefined = false }))

abbrev pub type_number : IntType → ℕ
type_number types.UChar = 0
type_number types.SChar = 1
type_number types.Short = 2
type_number types.UShort = 3
type_number types.Int = 4
type_number types.UInt = 5
type_number types.Long = 6
type_number types.ULong = 7
type_number types.LongLong = 8
type_number types.ULongLong = 9

-- Two tokens of a macro are the same: of one kind with one value, however they are spelled.
abbrev pub same_kind : Kind → Kind → Bool
same_kind (Word a) (Word b) = bytes_eq a b
same_kind (Number s a) (Number t b) = (type_number s == type_number t) && (a == b)
same_kind (Character a) (Character b) = a == b
same_kind (Text a) (Text b) = bytes_eq a b
same_kind (Punctuator a) (Punctuator b) = bytes_eq a b
same_kind _ _ = false

abbrev pub same_kinds : List Kind → List Kind → Bool
same_kinds [] [] = true
same_kinds (a ∷ these) (b ∷ those) = same_kind a b && same_kinds these those
same_kinds _ _ = false

-- A token that isn't a directive: any that a line but a directive's spells.
abbrev pub IsNoDirective : Kind → Type 0
IsNoDirective (Directive words) = ⊥
IsNoDirective _ = Unit {0}

-- A name may be defined with these tokens: it isn't defined, is predefined, or is defined with the same tokens (C99 6.10.3
-- paragraph 2).
abbrev pub may_define : Table → List ℕ → List Kind → Bool
may_define table name tokens = elim (macro_of table name) [ None ↦ true | Some m ↦ m.predefined || same_kinds m.tokens tokens ]

-- What replaces a token: the tokens of its macro, each replaced in turn as if that macro weren't defined; a token that is no
-- macro's name stays. Each level leaves one macro fewer, so that a table's length is levels enough.
abbrev pub replaced : (levels : ℕ) → Table → Kind → List Kind
replaced (suc levels) table (Word name) =
    elim (macro_of table name) [
      | None ↦ Word name ∷ []
      | Some m ↦ flat_map (λ k. replaced levels (undefined table name) k) m.tokens
    ]
replaced levels table kind = kind ∷ []

-- How many names are replaced where a token is, itself included.
abbrev pub names_replaced : (levels : ℕ) → Table → Kind → ℕ
names_replaced (suc levels) table (Word name) =
    elim (macro_of table name) [
      | None ↦ 0
      | Some m ↦ 1 + sum_by (λ k. names_replaced levels (undefined table name) k) m.tokens
    ]
names_replaced levels table kind = 0

-- What replaces a token of the text.
abbrev pub replacement : Table → Kind → List Kind
replacement table kind = replaced (length table) table kind

abbrev pub replacement_names : Table → Kind → ℕ
replacement_names table kind = names_replaced (length table) table kind
