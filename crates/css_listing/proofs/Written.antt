-- Words of a line as they are written, one behind the other.
use Rattle.std.proofs.Common.{◌≡◌, ◌∙◌, ℕ, List, [], ◌∷◌, ◌++◌, codes, sym, ap}
use Rattle.std.specs.List.{flat_map, join_with_byte}
use Rattle.std.proofs.lemmas.List.{append-nil, append_assoc}

-- words behind a word
pub behind : (word : List ℕ) (ws : List (List ℕ)) → join_with_byte 32 (word ∷ ws) ≡ word ++ flat_map (λ w. 32 ∷ w) ws
behind word [] = sym (append-nil word)
behind word (w ∷ ws) = ap (λ (bs : List ℕ). word ++ 32 ∷ bs) (behind w ws)

regroup : (old a b c d : List ℕ) → (((old ++ a) ++ b) ++ c) ++ d ≡ old ++ (a ++ ((b ++ c) ++ d))
regroup old a b c d = simp append_assoc

pub task_line : (old high : List ℕ) (ws : List (List ℕ))
    → (((old ++ codes "task ") ++ high) ++ flat_map (λ w. 32 ∷ w) ws) ++ 10 ∷ [] ≡ old ++ (join_with_byte 32 (codes "task" ∷ high ∷ ws) ++ codes "\n")
task_line old high ws =
    regroup old (codes "task ") high (flat_map (λ w. 32 ∷ w) ws) (10 ∷ [])
    ∙ ap (λ (bs : List ℕ). old ++ (codes "task " ++ (bs ++ 10 ∷ []))) (sym (behind high ws))

regroup_more : (old a b c d e : List ℕ) → ((((old ++ a) ++ b) ++ c) ++ d) ++ e ≡ old ++ (a ++ ((b ++ (c ++ d)) ++ e))
regroup_more old a b c d e = simp append_assoc

pub function_line : (old name frame : List ℕ) (ws : List (List ℕ))
    → ((((old ++ codes "function ") ++ name) ++ (32 ∷ frame)) ++ flat_map (λ w. 32 ∷ w) ws) ++ 10 ∷ []
    ≡ old ++ (join_with_byte 32 (codes "function" ∷ name ∷ frame ∷ ws) ++ codes "\n")
function_line old name frame ws =
    regroup_more old (codes "function ") name (32 ∷ frame) (flat_map (λ w. 32 ∷ w) ws) (10 ∷ [])
    ∙ ap (λ (bs : List ℕ). old ++ (codes "function " ++ ((name ++ 32 ∷ bs) ++ 10 ∷ []))) (sym (behind frame ws))
