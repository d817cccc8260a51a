use Rattle.std.proofs.Common.{arith}
use Rattle.css_record.specs.Windows.{window}
use Rattle.css_record.proofs.Windows.{length_in_span}
use Rattle.css_record.proofs.window.Window.length.Goals as goal

pub overflow_mul-result : goal.overflow_mul-result
overflow_mul-result c = omega (arith, length_in_span (window c.args.self.now) c.requires)
