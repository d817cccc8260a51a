use Rattle.css_unmarking.proofs.StringsPrograms.{program_apart}
use Rattle.css_unmarking.proofs.laws.no_parted_strings.Goals as goal

pub returns : goal.returns
returns c = program_apart
