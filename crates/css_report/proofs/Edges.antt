-- The edges of a task, one after the other.
use Rattle.std.proofs.Common.{◌≡◌, ◌∙◌, ℕ, ◌+◌, ◌<◌, List, [], ◌∷◌, ◌++◌, length, take, get_or, flat_map, codes, decimal, append_assoc, sym, ap}
use Rattle.std.proofs.lemmas.Grind.{take_at_read}
use Rattle.std.proofs.lemmas.List.{append-nil}
use Rattle.std.proofs.lemmas.List.Concat.{flat_map-append}
use Rattle.css_report.specs.Graphs.{edge_line}
use Rattle.css_report.proofs.Texts.{edge_words}

more : (number : ℕ) (ps : List ℕ) (i : ℕ) → i < length ps
    → flat_map (edge_line number) (take (i + 1) ps) ≡ flat_map (edge_line number) (take i ps) ++ edge_line number (get_or ps i 0)
more number ps i w =
    ap (λ (qs : List ℕ). flat_map (edge_line number) qs) (take_at_read ps i 0 w).1
    ∙ flat_map-append (edge_line number) (take i ps) (get_or ps i 0 ∷ [])
    ∙ ap (λ (bs : List ℕ). flat_map (edge_line number) (take i ps) ++ bs) (append-nil (edge_line number (get_or ps i 0)))

pub edges_more : (text : List ℕ) (number : ℕ) (ps : List ℕ) (i : ℕ) → i < length ps
    → text ++ flat_map (edge_line number) (take (i + 1) ps)
    ≡ (text ++ flat_map (edge_line number) (take i ps)) ++ (codes "edge " ++ (decimal (get_or ps i 0) ++ (codes " " ++ (decimal number ++ codes "\n"))))
edges_more text number ps i w =
    ap (λ (bs : List ℕ). text ++ bs) (more number ps i w)
    ∙ sym (append_assoc text (flat_map (edge_line number) (take i ps)) (edge_line number (get_or ps i 0)))
    ∙ ap (λ (bs : List ℕ). (text ++ flat_map (edge_line number) (take i ps)) ++ bs) (edge_words number (get_or ps i 0))
