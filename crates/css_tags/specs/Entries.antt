-- The entries of a channel's history.
use Rattle.std.specs.Prelude.{ℕ}
use Rattle.css_base.specs.declared.channel.ChannelLine.{ChannelLine}
use Rattle.css_base.specs.declared.channel.ChannelLine.TheVariants as lines
use Rattle.css_tags.specs.declared.entry.Step.{Step}
use Rattle.css_tags.specs.declared.entry.Step.TheVariants.{Issue, Out, Finished, Collected}
use Rattle.css_tags.specs.Plans.{Plan, bytes_in}

-- a step of a tag: the seat of the one that made it, and the plan of the tag's group
pub record Entry : Type 0 where
  pub step : Step
  pub tag : ℕ
  pub seat : ℕ
  pub plan : Plan

-- the worker's seat is 0, and the mover's is 1
abbrev pub issue : ℕ → Plan → Entry
issue tag plan = record { step = Issue; tag = tag; seat = 0; plan = plan }

abbrev pub out : ℕ → Plan → Entry
out tag plan = record { step = Out; tag = tag; seat = 1; plan = plan }

abbrev pub finish : ℕ → Plan → Entry
finish tag plan = record { step = Finished; tag = tag; seat = 1; plan = plan }

abbrev pub collect : ℕ → Plan → Entry
collect tag plan = record { step = Collected; tag = tag; seat = 0; plan = plan }

-- what a trace shows of an entry
abbrev pub line_of_step : Step → ℕ → Plan → ChannelLine
line_of_step Issue tag plan = lines.Issue tag (bytes_in plan)
line_of_step Out tag plan = lines.Out tag
line_of_step Finished tag plan = lines.Finished tag
line_of_step Collected tag plan = lines.Collected tag

abbrev pub line_of : Entry → ChannelLine
line_of entry = line_of_step entry.step entry.tag entry.plan
