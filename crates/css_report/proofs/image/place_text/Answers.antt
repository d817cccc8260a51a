use Rattle.std.proofs.Common.{◌∙◌, sym}
use Rattle.css_report.proofs.Texts.{wait_words}
use Rattle.css_report.proofs.image.place_text.Goals as goal

pub returns-in_ok-format-in-Wait : goal.returns-in_ok-format-in-Wait
returns-in_ok-format-in-Wait c =
    rw c.in-Wait.is (rw (← c.number-line.ensures.value) (c.in_ok-format-in-Wait.ensures.ok ∙ sym (wait_words c.number-line.result c.args.head.now.address)))
