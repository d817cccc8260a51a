-- Refusals to issue a group.
use Rattle.css_tags.specs.declared.channel.IssueRefused.{IssueRefused}
use Rattle.css_tags.specs.declared.channel.IssueRefused.TheVariants.{Busy, NoMemory}
use Rattle.css_tags.specs.Groups.{Underway}

-- the group that a refusal hands back
abbrev pub group_of : IssueRefused → Underway
group_of (Busy group) = group
group_of (NoMemory group) = group

abbrev pub IsBusy : IssueRefused → Type 0
IsBusy (Busy group) = Unit {0}
IsBusy (NoMemory group) = ⊥
