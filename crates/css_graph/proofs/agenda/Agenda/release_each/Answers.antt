use Rattle.std.proofs.Common.{refl, ◌≡◌, ◌<◌, ℕ, ◌+◌, List, ◌∷◌, [], ◌++◌, length, get_or, take, map, ap, sym, ◌∙◌}
use Rattle.std.proofs.lemmas.List.{take_more}
use Rattle.css_graph.specs.Nodes.{at_number, in_state, one_less_missing, in_state_by, less_by}
use Rattle.css_graph.proofs.Updates.{less_start, less_more}
use Rattle.css_graph.proofs.agenda.Agenda.release_each.Goals as goal

pub loop-number-init : goal.loop-number-init
loop-number-init c = record { nodes = sym (less_start c.args.self.now.nodes); bound = refl }

pub loop-number-preserved : goal.loop-number-preserved
loop-number-preserved c =
    let i = c.loop-number.number-index in
    let ns = c.args.numbers.now in
    let xs = c.args.self.now.nodes in
    let inv = c.loop-number.invariant in
    let l : i < length ns = c.loop-number-test.true in
    record {
      nodes = c.release.ensures.nodes ∙ ap (at_number (get_or ns i 0) one_less_missing) inv.nodes ∙ less_more (take i ns) (get_or ns i 0) xs
          ∙ ap (λ (ms : List ℕ). map (less_by ms) xs) (sym (take_more ns i 0 l));
      bound = c.release.ensures.bound ∙ inv.bound;
    }
