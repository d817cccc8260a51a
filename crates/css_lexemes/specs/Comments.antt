-- Comments (C99 6.4.9) become a space each; strings and character constants (C99 6.4.4.4, 6.4.5) stay as they are.
use Rattle.std.specs.Prelude.{ℕ, zero, suc, ◌+◌, ◌-◌, min, Bool, true, false, not, ◌&&◌, ◌||◌, List, [], ◌∷◌, ◌++◌, length, drop, take_while, codes, ◌==◌, if◌then◌else◌}
use Rattle.css_lexemes.specs.declared.line_kind.LineKind.{LineKind}
use Rattle.css_lexemes.specs.declared.line_kind.LineKind.TheVariants as kinds
use Rattle.css_lexemes.specs.declared.source.SourceByte.{SourceByte}
use Rattle.css_lexemes.specs.Source.{begins_with, bytes_of}
use Rattle.css_lexemes.specs.LineKinds.{line_kind}

-- How many bytes stand in front of the first place at which these bytes stand; all of them where they stand nowhere.
abbrev pub length_before : List ℕ → List ℕ → ℕ
length_before bytes [] = 0
length_before bytes (b ∷ text) = if begins_with bytes (b ∷ text) then 0 else 1 + length_before bytes text

-- The length of the comment that the text begins with, 0 where it begins with none. A comment that isn't ended goes on to
-- the end of the text.
abbrev pub comment_length : List ℕ → ℕ
comment_length text =
    if begins_with (codes "/*") text then min (length text) (4 + length_before (codes "*/") (drop 2 text))
    else (if begins_with (codes "//") text then length_before (codes "\n") text else 0)

-- A quote of a character constant or of a string.
abbrev pub is_quote : ℕ → Bool
is_quote b = (b == 39) || (b == 34)

-- The length of what is left of a constant that ends with this quote, and of the line where the constant isn't ended. A
-- backslash takes from the byte behind it what it means (`escaped`).
abbrev pub constant_rest : (quote : ℕ) (escaped : Bool) (text : List ℕ) → ℕ
constant_rest quote escaped [] = 0
constant_rest quote escaped (b ∷ text) =
    let rest = constant_rest quote ((b == 92) && not escaped) text in
    if b == 10 then 0 else (if (b == quote) && not escaped then 1 else 1 + rest)

-- The length of the string or character constant that the text begins with, 0 where it begins with none.
abbrev pub constant_length : List ℕ → ℕ
constant_length [] = 0
constant_length (b ∷ text) = if is_quote b then 1 + constant_rest b false text else 0

abbrev pub is_passed_over : LineKind → Bool
is_passed_over kinds.Include = true
is_passed_over kinds.Pragma = true
is_passed_over _ = false

-- What stands before the first quote.
abbrev pub unquoted : List ℕ → List ℕ
unquoted bytes = take_while (λ b. not (is_quote b)) bytes

-- A line of which this stands in front of a quote is passed over unread, so that there is no constant. What stands before
-- the line's first quote tells.
abbrev pub passes_over : List ℕ → Bool
passes_over front = is_passed_over (line_kind (unquoted front))

-- What a logical line shows up to behind a byte: a newline begins a line.
abbrev pub front_behind : List ℕ → ℕ → List ℕ
front_behind front b = if b == 10 then [] else front ++ b ∷ []

-- The length of the constant that stands behind this front of its line, 0 where none stands there.
abbrev pub constant_behind : (front text : List ℕ) → ℕ
constant_behind front text = if passes_over front then 0 else constant_length text

-- The bytes of a text with a space, at the place where the comment begins, in place of each comment. Its first bytes
-- belong to a comment (`hidden`) or to a constant (`kept`), and its logical line shows `front` before it.
abbrev pub uncommented : (front : List ℕ) (hidden kept : ℕ) (text : List SourceByte) → List SourceByte
uncommented front hidden kept [] = []
uncommented front (suc hidden) kept (c ∷ text) = uncommented front hidden kept text
uncommented front zero (suc kept) (c ∷ text) = c ∷ uncommented (front_behind front c.byte) 0 kept text
uncommented front zero zero (c ∷ text) =
    elim (comment_length (bytes_of (c ∷ text))) [
      | zero ↦ c ∷ uncommented (front_behind front c.byte) 0 (constant_behind front (bytes_of (c ∷ text)) - 1) text
      | suc n ↦ record { byte = 32; place = c.place } ∷ uncommented (front_behind front 32) n 0 text
    ]
