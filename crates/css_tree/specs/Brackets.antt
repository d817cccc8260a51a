-- Open brackets.
use Rattle.std.specs.Prelude.{◌≡◌, ℕ, ◌+◌, ◌-◌, ◌≤◌, List, [], ◌∷◌, ◌++◌, fold, codes, Bool, false, if◌then◌else◌, bytes_eq}
use Rattle.std.specs.List.{list_any}
use Rattle.css_base.specs.Tokens.{Kind, Punctuator, Lexeme}
use Rattle.css_tree.specs.TokenParts.{kinds}

-- a punctuator that is one of these
abbrev pub is_one_of : List (List ℕ) → Kind → Bool
is_one_of texts (Punctuator bytes) = list_any (bytes_eq bytes) texts
is_one_of texts _ = false

abbrev pub opens : Kind → Bool
opens kind = is_one_of (codes "(" ∷ codes "[" ∷ codes "{" ∷ []) kind

abbrev pub closes : Kind → Bool
closes kind = is_one_of (codes ")" ∷ codes "]" ∷ codes "}" ∷ []) kind

-- How many brackets are open behind a token, where so many were before it: a closing bracket of any kind closes the last open
-- one, if there is one.
unfoldable pub open_behind : ℕ → Kind → ℕ
open_behind n kind = if opens kind then n + 1 else (if closes kind then n - 1 else n)

-- how many brackets are open behind these tokens, where so many were before them
abbrev pub left_open : ℕ → List Lexeme → ℕ
left_open n ts = fold open_behind n (kinds ts)

-- No prefix of the tokens leaves more than 200 brackets open.
abbrev pub IsShallow : List Lexeme → Type 0
IsShallow ts = (front rest : List Lexeme) → ts ≡ front ++ rest → left_open 0 front ≤ 200

-- The tokens leave open what was open before them, however much that was: each bracket of theirs is closed among them, and
-- they close no other.
abbrev pub IsBalanced : List Lexeme → Type 0
IsBalanced ts = (n : ℕ) → left_open n ts ≡ n
