use Rattle.css_board.proofs.ends.has_ready_inputs.Goals as goal

pub returns : goal.returns
returns c = (record { rec = c.task_of.result.0.now; given = c.task_of.result.1.now }, c.task_of.ensures.submit, rw c.as_slice.ensures.value at c.are_ready.ensures)
