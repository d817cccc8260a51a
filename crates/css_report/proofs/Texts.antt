-- Lines by their words, the first one outermost: what `format` writes.
use Rattle.std.proofs.Common.{◌≡◌, ◌∙◌, ℕ, List, ◌++◌, codes, decimal, append_assoc, refl, sym, ap}
use Rattle.css_record.specs.declared.image.ImageKind.TheVariants as kinds
use Rattle.css_report.specs.Graphs.{edge_line}
use Rattle.css_report.specs.Images.{words_of}
use Rattle.css_report.specs.Stats.{Stats, sums_words, stats_line}

three : (a b c : List ℕ) → (a ++ b) ++ c ≡ a ++ (b ++ c)
three a b c = append_assoc a b c

four : (a b c d : List ℕ) → ((a ++ b) ++ c) ++ d ≡ a ++ (b ++ (c ++ d))
four a b c d = simp append_assoc refl

eight : (a b c d e f g h : List ℕ) → ((((((a ++ b) ++ c) ++ d) ++ e) ++ f) ++ g) ++ h ≡ a ++ (b ++ (c ++ (d ++ (e ++ (f ++ (g ++ h))))))
eight a b c d e f g h = simp append_assoc refl

pub wait_words : (line address : ℕ) → words_of kinds.Wait line address ≡ codes "wait line " ++ (decimal line ++ (codes " address " ++ decimal address))
wait_words line address = ap (λ (bs : List ℕ). codes "wait line " ++ bs) (three (decimal line) (codes " address ") (decimal address))

pub edge_words : (number p : ℕ) → edge_line number p ≡ codes "edge " ++ (decimal p ++ (codes " " ++ (decimal number ++ codes "\n")))
edge_words number p = ap (λ (bs : List ℕ). codes "edge " ++ bs) (four (decimal p) (codes " ") (decimal number) (codes "\n"))

pub stats_words : (s : Stats) (sums : List ℕ) → sums ≡ sums_words s.reads s.writes s.pieces
    → stats_line s ≡ codes "stats tasks " ++ (decimal s.tasks ++ (codes " " ++ (sums ++ (codes " renamed " ++ (decimal s.renamed ++ (codes " depth " ++ (decimal s.depth ++ codes "\n")))))))
stats_words s sums is =
    ap (λ (ws : List ℕ). codes "stats tasks " ++ decimal s.tasks ++ codes " " ++ ws ++ codes " renamed " ++ decimal s.renamed ++ codes " depth " ++ decimal s.depth ++ codes "\n") (sym is)
    ∙ ap (λ (bs : List ℕ). codes "stats tasks " ++ bs)
    (eight (decimal s.tasks) (codes " ") sums (codes " renamed ") (decimal s.renamed) (codes " depth ") (decimal s.depth) (codes "\n"))
