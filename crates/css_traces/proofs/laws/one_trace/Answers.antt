use Rattle.css_traces.proofs.Texts as texts
use Rattle.css_traces.proofs.laws.one_trace.Goals as goal

pub returns : goal.returns
returns c = texts.one_trace
