use Rattle.css_memory.proofs.FlatStates as states
use Rattle.css_memory.proofs.laws.flat_world_has_main_memory.Goals as goal

pub returns-clause-replies : goal.returns-clause-replies
returns-clause-replies c = states.replies

pub returns-clause-learns : goal.returns-clause-learns
returns-clause-learns c = states.learns
