use Rattle.css_isa.specs.Code.{code_of}
use Rattle.css_machine_whole_tests.specs.Codes.{IsReady}
use Rattle.css_machine_whole_tests.proofs.codes.events.Given as goal

abbrev pub invariant-loop-answer : goal.invariant-loop-answer
invariant-loop-answer l = IsReady (code_of l.code) l.ram.place l.machine
