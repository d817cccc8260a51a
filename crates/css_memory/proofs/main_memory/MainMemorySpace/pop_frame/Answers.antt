use Rattle.std.proofs.Common.{◌≡◌, subst, arith}
use Rattle.std.proofs.lemmas.List.{length-drop}
use Rattle.css_semantics.specs.Dialogue.{Leave, Says}
use Rattle.css_semantics.specs.Memory.{stack_place}
use Rattle.css_semantics.specs.Flat.{memory_reply}
use Rattle.css_memory.specs.Main.{Main}
use Rattle.css_memory.specs.Kept.{kept}
use Rattle.css_memory.specs.Held.{parts}
use Rattle.css_memory.proofs.Replies.{leaves}
use Rattle.css_memory.proofs.main_memory.MainMemorySpace.pop_frame.Goals as goal

pub returns-clause-says : goal.returns-clause-says
returns-clause-says c =
    let m = c.self.inside in
    let long = length-drop m.start m.high.items in (
      0,
      subst (λ (s : Main). memory_reply s.memory (Leave (stack_place s.memory) c.args.size) ≡ Says 0) c.self.view_is
          (leaves (kept (parts m) m.calls m.most_calls) c.args.size (omega (arith, long)) (omega (arith, long)) (omega arith)),
    )
