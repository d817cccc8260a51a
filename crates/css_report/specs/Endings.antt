-- The lines of a run's ending and of a static rule.
use Rattle.std.specs.Prelude.{ℕ, List, ◌++◌, codes}
use Rattle.std.specs.Fmt.{decimal, signed_decimal}
use Rattle.css_base.specs.declared.static_fault.StaticName.{StaticName}
use Rattle.css_base.specs.declared.ending.Ending.{Ending}
use Rattle.css_base.specs.declared.ending.Ending.TheVariants as endings
use Rattle.css_base.specs.declared.ending.Stop.{Stop}
use Rattle.css_base.specs.declared.ending.Stop.TheVariants as stops
use Rattle.css_base.specs.declared.ending.Who.{Who}
use Rattle.css_base.specs.declared.ending.Who.TheVariants as whose
use Rattle.css_base.specs.Labels.{static_label, rule_label, fault_label}

-- The report of a static rule that is broken, in a line.
abbrev pub static_line : StaticName → ℕ → List ℕ
static_line name line = codes "static " ++ static_label name ++ codes " line " ++ decimal line ++ codes "\n"

-- Whose event a stop is.
abbrev pub who_words : Who → List ℕ
who_words whose.Main = codes "main"
who_words (whose.Task number) = codes "task " ++ decimal number

abbrev pub stop_words : Stop → List ℕ
stop_words (stops.Fault kind) = codes "fault " ++ fault_label kind
stop_words (stops.Rule rule) = codes "rule " ++ rule_label rule

-- The report of an ending.
abbrev pub ending_line : Ending → List ℕ
ending_line (endings.Result result) = codes "result " ++ signed_decimal result ++ codes "\n"
ending_line (endings.Stopped s line w) = stop_words s ++ codes " line " ++ decimal line ++ codes " " ++ who_words w ++ codes "\n"
