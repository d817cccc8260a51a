use Rattle.std.proofs.Common.{◌∙◌, ℕ, List, ◌++◌, codes, decimal, get_or, ap, sym}
use Rattle.css_report.proofs.Edges.{edges_more}
use Rattle.css_report.proofs.graph.put_edges.Goals as goal

pub loop-producer-preserved : goal.loop-producer-preserved
loop-producer-preserved c =
    let producers = c.args.producers.now in
    let i = c.loop-producer.producer-index in
    let line : List ℕ = codes "edge " ++ (decimal (get_or producers i 0) ++ (codes " " ++ (decimal c.args.number ++ codes "\n"))) in
    c.in_ok-extend_from_slice.ensures.items
    ∙ ap (λ (bs : List ℕ). c.loop-producer.text.items ++ bs) (c.as_bytes.ensures.value ∙ c.in_ok-line.ensures.ok)
    ∙ ap (λ (bs : List ℕ). bs ++ line) c.loop-producer.invariant
    ∙ sym (edges_more c.args.text.now.items c.args.number producers i c.loop-producer-test.true)
