-- What is known of a logical line before its end.
use Rattle.std.specs.Prelude.{◌≡◌, ℕ, Bool, List, ◌++◌, Option}
use Rattle.std.specs.Option.{ForSome, ForNone}
use Rattle.css_lexemes.specs.Comments.{unquoted, passes_over}

-- The line shows no quote yet, or shows one, and is known to be passed over or not.
abbrev pub IsKnown : (front : List ℕ) → Option Bool → Type 0
IsKnown front known =
    ForNone known (unquoted front ≡ front)
    × ForSome known (λ unread. ((more : List ℕ) → unquoted (front ++ more) ≡ unquoted front) × (unread ≡ passes_over front))
