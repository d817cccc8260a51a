-- What the code's values stand for.
use Rattle.css_types.specs.declared.words.Base.{Base}
use Rattle.css_types.specs.declared.words.Base.TheVariants as bases
use Rattle.css_types.specs.declared.words.Counts as counting
use Rattle.css_types.specs.declared.constants.Constant as constants
use Rattle.css_types.specs.Constants.{Constant, Varies, Faults, Known}
use Rattle.css_types.specs.Types.{CType, Void, Integer, Counts}

abbrev pub base : Base → CType
base bases.Void = Void
base (bases.Integer t) = Integer t

abbrev pub counts : counting.Counts → Counts
counts c = record { voids = c.voids; chars = c.chars; shorts = c.shorts; ints = c.ints; longs = c.longs; signeds = c.signeds; unsigneds = c.unsigneds }

abbrev pub constant : constants.Constant → Constant
constant constants.TheVariants.Varies = Varies
constant constants.TheVariants.Faults = Faults
constant (constants.TheVariants.Known v) = Known v
