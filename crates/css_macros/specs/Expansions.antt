-- Macros that are being replaced, the outermost first, and what is left of the replacement.
use Rattle.std.specs.Prelude.{◌≡◌, ◌≢◌, ℕ, ◌+◌, ◌-◌, ◌*◌, Bool, ◌||◌, ◌&&◌, List, [], ◌∷◌, ◌++◌, length, map, flat_map, sum_by, bytes_eq, None, IsTrue, ◌==◌, nat_eq}
use Rattle.std.specs.List.{list_any, list_all}
use Rattle.std.specs.HashSet.{contains}
use Rattle.css_base.specs.Tokens.{Kind, Lexeme, At}
use Rattle.css_macros.specs.Macros.{Table, macro_of, undefined, replacement, replacement_names}
use Rattle.css_macros.specs.Numbers.{word_at, stands_for}
use Rattle.css_macros.specs.NumberedWords.{words_of}
use Rattle.css_macros.specs.ListedTokens.{listed_kind, listed_kinds, is_listed}
use Rattle.css_macros.specs.MacroTables.{table_of}
use Rattle.css_macros.specs.declared.expansion.Frame.{Frame}
use Rattle.css_macros.specs.declared.expansion.Expansion.{Expansion}
use Rattle.css_macros.specs.declared.expansion.Span.{Span}
use Rattle.css_macros.specs.declared.counts.Counts.{Counts}
use Rattle.css_macros.specs.declared.listed_token.ListedToken.{ListedToken}
use Rattle.css_macros.specs.declared.macros.Macros.{Macros}

-- Tokens that stand at one place.
abbrev pub placed : Span → List Kind → List Lexeme
placed span kinds = map (λ k. At k span.line span.place span.end) kinds

-- A number is among those that are hidden.
abbrev pub is_among : Expansion → ℕ → Bool
is_among e number = contains nat_eq e.hidden number

-- A number is that of a macro that is being replaced.
abbrev pub is_open : List Frame → ℕ → Bool
is_open frames number = list_any (λ f. f.number == number) frames

-- The name of a macro that is being replaced.
abbrev pub name_of : List (List ℕ) → Frame → List ℕ
name_of words f = word_at words f.number

-- A name is that of a macro that is being replaced.
abbrev pub is_hidden : List (List ℕ) → List Frame → List ℕ → Bool
is_hidden words frames name = list_any (λ f. bytes_eq (name_of words f) name) frames

-- The table without the macros that are being replaced.
abbrev pub shown : List (List ℕ) → Table → List Frame → Table
shown words table [] = table
shown words table (f ∷ frames) = shown words (undefined table (name_of words f)) frames

-- Each macro was shown by the table without those around it.
abbrev pub IsStack : List (List ℕ) → Table → List Frame → Type 0
IsStack words table [] = Unit {0}
IsStack words table (f ∷ frames) = (macro_of table (name_of words f) ≢ None) × IsStack words (undefined table (name_of words f)) frames

-- A macro's number stands for its name, and its tokens' words have the numbers that stand beside them.
abbrev pub is_frame : List (List ℕ) → Frame → Bool
is_frame words f = stands_for words f.number (name_of words f) && list_all (is_listed words) f.rest.now

-- The names of the macros that are being replaced are hidden, and no others.
pub record IsExpansion (macros : Macros) (e : Expansion) : Type 0 where
  pub stack : IsStack (words_of macros.words) (table_of macros) e.frames.items
  pub numbered : IsTrue (list_all (is_frame (words_of macros.words)) e.frames.items)
  pub hides : (number : ℕ) → is_among e number ≡ is_open e.frames.items number

-- One more number is hidden.
abbrev pub Hides : Expansion → Expansion → ℕ → Type 0
Hides old new number = (other : ℕ) → is_among new other ≡ ((number == other) || is_among old other)

-- The table without the macros of an expansion.
abbrev pub shown_by : Macros → Expansion → Table
shown_by macros e = shown (words_of macros.words) (table_of macros) e.frames.items

-- No macro replaces a token.
abbrev pub IsNoMacro : Table → Kind → Type 0
IsNoMacro table kind = (replacement table kind ≡ kind ∷ []) × (replacement_names table kind ≡ 0)

-- This macro of a table replaces a token.
pub record Replaces (words : List (List ℕ)) (table : Table) (kind : Kind) (f : Frame) : Type 0 where
  pub there : macro_of table (name_of words f) ≢ None
  pub numbered : IsTrue (is_frame words f)
  pub tokens : replacement table kind ≡ flat_map (λ k. replacement (undefined table (name_of words f)) k) (listed_kinds f.rest.now)
  pub names : replacement_names table kind ≡ 1 + sum_by (λ k. replacement_names (undefined table (name_of words f)) k) (listed_kinds f.rest.now)

-- This macro replaces a token of an expansion.
abbrev pub IsMacro : Macros → Expansion → Kind → Frame → Type 0
IsMacro macros e kind f = Replaces (words_of macros.words) (shown_by macros e) kind f

-- What replaces the tokens that are still to be read, the innermost first.
abbrev pub left : List (List ℕ) → Table → List Frame → List Kind
left words table [] = []
left words table (f ∷ frames) =
    let inner = undefined table (name_of words f) in
    left words inner frames ++ flat_map (λ k. replacement inner k) (listed_kinds f.rest.now)

-- How many names are still to be replaced.
abbrev pub names_left : List (List ℕ) → Table → List Frame → ℕ
names_left words table [] = 0
names_left words table (f ∷ frames) =
    let inner = undefined table (name_of words f) in
    names_left words inner frames + sum_by (λ k. replacement_names inner k) (listed_kinds f.rest.now)

-- The most steps that can be left: each one counts a token, counts a name and adds a macro, or ends a macro.
abbrev pub steps_left : Counts → Expansion → ℕ
steps_left counts e = (1000000 - counts.tokens) + 2 * (1000000 - counts.names) + length e.frames.items

-- What is left of an expansion, and how many names are still to be replaced.
abbrev pub tokens_to_come : Macros → Expansion → List Kind
tokens_to_come macros e = left (words_of macros.words) (table_of macros) e.frames.items

abbrev pub names_to_come : Macros → Expansion → ℕ
names_to_come macros e = names_left (words_of macros.words) (table_of macros) e.frames.items

-- What replaces a token of an expansion, and how many names are replaced there.
abbrev pub tokens_given : Macros → Expansion → ListedToken → List Kind
tokens_given macros e token = replacement (shown_by macros e) (listed_kind token)

abbrev pub names_given : Macros → Expansion → ListedToken → ℕ
names_given macros e token = replacement_names (shown_by macros e) (listed_kind token)
