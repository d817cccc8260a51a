-- Machines that take an answer.
use Rattle.std.proofs.Common.{◌≡◌, sym, subst}
use Rattle.css_vm.specs.declared.machine.Due.TheVariants as due
use Rattle.css_vm.specs.Machine.{IsOwed}
use Rattle.css_vm.specs.Due.{Machine, TakesAnswer}

pub takes_value : (m : Machine) → m.due ≡ due.Value → IsOwed m.state → TakesAnswer m.due m.state
takes_value m is owed = subst (λ d. TakesAnswer d m.state) (sym is) owed

pub takes_signal : (m : Machine) → m.due ≡ due.Signal → TakesAnswer m.due m.state
takes_signal m is = subst (λ d. TakesAnswer d m.state) (sym is) tt
