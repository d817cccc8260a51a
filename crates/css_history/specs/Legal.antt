-- The legal histories of a board.
use Rattle.std.specs.Prelude.{List}
use Rattle.css_seen.specs.Legal as entrywise
use Rattle.css_history.specs.declared.entry.Entry.{Entry}
use Rattle.css_history.specs.declared.fixed.Fixed.{Fixed}
use Rattle.css_history.specs.Terms.{Terms, terms_of}
use Rattle.css_history.specs.Rules.{Follows}
use Rattle.css_history.specs.Bodies.{IsOwn}

-- the entry may follow by the board's rules, and ends that it tells are those of the tasks' bodies
pub record MayFollow (b : Terms) (log : List Entry) (e : Entry) : Type 0 where
  pub follows : Follows b.first log e
  pub own : IsOwn b log e

-- each entry may follow those before it
abbrev pub Legal : Terms → List Entry → Type 0
Legal b log = entrywise.Legal (MayFollow b) log

abbrev pub IsLegal : Fixed → List Entry → Type 0
IsLegal f log = Legal (terms_of f) log
