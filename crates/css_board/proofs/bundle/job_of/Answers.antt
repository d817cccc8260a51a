use Rattle.css_board.proofs.bundle.job_of.Goals as goal

pub returns : goal.returns
returns c = record {
  submit = record { rec = c.task_of.result.0.now; given = c.task_of.result.1.now };
  is_submit = c.task_of.ensures.submit;
  rec = c.in_ok-rec.ensures {u = tt};
  inputs = rw (c.as_slice.ensures, c.as_slice-2.ensures.value) at (c.in_ok-inputs.ensures {u = tt});
}
