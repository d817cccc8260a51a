use Rattle.std.proofs.lemmas.List.{take_rest}
use Rattle.css_io.proofs.Told.{Gives-next}
use Rattle.css_io.proofs.mem_source.MemSourceSource.read.Goals as goal

pub returns-clause-gives : goal.returns-clause-gives
returns-clause-gives c =
    let inside = c.self.inside in
    let copied = rw (take_rest, c.deref.ensures.value) at c.copy_front-count.ensures.copied in
    rw (← c.self.view_is) (Gives-next inside.bytes.items c.copy_front-count.new.part inside.taken c.copy_front-count.result copied)
