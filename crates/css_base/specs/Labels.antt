-- Numbers and names of rules and faults, as reports have them.
use Rattle.std.specs.Prelude.{ℕ, List, codes}
use Rattle.css_base.specs.declared.rule.Rule.{Rule}
use Rattle.css_base.specs.declared.rule.Rule.TheVariants as rules
use Rattle.css_base.specs.declared.static_fault.StaticName.{StaticName}
use Rattle.css_base.specs.declared.static_fault.StaticName.TheVariants as statics
use Rattle.css_base.specs.declared.ending.FaultKind.{FaultKind}
use Rattle.css_base.specs.declared.ending.FaultKind.TheVariants as faults

abbrev pub rule_label : Rule → List ℕ
rule_label rules.StartTwice = codes "X1 StartTwice"
rule_label rules.FinishWithout = codes "X2 FinishWithout"
rule_label rules.Dimension = codes "X3 Dimension"
rule_label rules.TooLarge = codes "X4 TooLarge"
rule_label rules.DeadArgument = codes "X5 DeadArgument"
rule_label rules.PartialOverlap = codes "X6 PartialOverlap"
rule_label rules.AliasedArguments = codes "X7 AliasedArguments"
rule_label rules.Unsynchronised = codes "X8 Unsynchronised"
rule_label rules.OutsideArguments = codes "X9 OutsideArguments"
rule_label rules.WroteInput = codes "X10 WroteInput"
rule_label rules.ReadUnwritten = codes "X11 ReadUnwritten"
rule_label rules.LeftUnwritten = codes "X12 LeftUnwritten"
rule_label rules.TaskStack = codes "X13 TaskStack"
rule_label rules.MainStack = codes "X14 MainStack"
rule_label rules.Units = codes "X15 Units"
rule_label rules.BadWait = codes "X16 BadWait"

abbrev pub static_label : StaticName → List ℕ
static_label statics.NotBuilt = codes "S0 NotBuilt"
static_label statics.TooLong = codes "S1 TooLong"
static_label statics.BadByte = codes "S2 BadByte"
static_label statics.BadToken = codes "S3 BadToken"
static_label statics.BadMacro = codes "S4 BadMacro"
static_label statics.Syntax = codes "S5 Syntax"
static_label statics.TooDeep = codes "S6 TooDeep"
static_label statics.NoMain = codes "S7 NoMain"
static_label statics.Redeclared = codes "S8 Redeclared"
static_label statics.Undeclared = codes "S9 Undeclared"
static_label statics.TypeMismatch = codes "S10 TypeMismatch"
static_label statics.NotAnObject = codes "S11 NotAnObject"
static_label statics.BadConstant = codes "S12 BadConstant"
static_label statics.BadFormat = codes "S13 BadFormat"
static_label statics.BadDirective = codes "S14 BadDirective"
static_label statics.Unsupported = codes "S15 Unsupported"
static_label statics.NoDirection = codes "S16 NoDirection"
static_label statics.BadClause = codes "S17 BadClause"
static_label statics.TaskGlobal = codes "S18 TaskGlobal"
static_label statics.TaskOutside = codes "S19 TaskOutside"
static_label statics.NestedTask = codes "S20 NestedTask"
static_label statics.NotVoid = codes "S21 NotVoid"
static_label statics.TooManyArguments = codes "S22 TooManyArguments"
static_label statics.SideEffect = codes "S23 SideEffect"
static_label statics.TooBig = codes "S24 TooBig"

abbrev pub fault_label : FaultKind → List ℕ
fault_label faults.DivideByZero = codes "DivideByZero"
fault_label faults.OutsideMemory = codes "OutsideMemory"
