use Rattle.std.proofs.Common.{refl, ◌≡◌, ◌<◌, ℕ, ◌+◌, List, ◌∷◌, [], ◌++◌, length, get_or, take, map, ap, sym, ◌∙◌}
use Rattle.std.proofs.lemmas.List.{take_more}
use Rattle.css_graph.specs.Nodes.{at_number, in_state, one_less_missing, in_state_by, less_by}
use Rattle.css_graph.proofs.Updates.{state_start, state_more}
use Rattle.css_graph.proofs.agenda.Agenda.set_states.Goals as goal

pub loop-number-init : goal.loop-number-init
loop-number-init c = record { nodes = sym (state_start c.args.state c.args.self.now.nodes); bound = refl }

pub loop-number-preserved : goal.loop-number-preserved
loop-number-preserved c =
    let i = c.loop-number.number-index in
    let ns = c.args.numbers.now in
    let xs = c.args.self.now.nodes in
    let inv = c.loop-number.invariant in
    let l : i < length ns = c.loop-number-test.true in
    record {
      nodes = c.set_state.ensures.nodes ∙ ap (at_number (get_or ns i 0) (in_state c.args.state)) inv.nodes ∙ state_more c.args.state (take i ns) (get_or ns i 0) xs
          ∙ ap (λ (ms : List ℕ). map (in_state_by c.args.state ms) xs) (sym (take_more ns i 0 l));
      bound = c.set_state.ensures.bound ∙ inv.bound;
    }
