-- Told bytes over several calls.
use Rattle.std.proofs.Common.{◌≡◌, List, [], ◌++◌, ℕ, ◌+◌, Option, Some, None, IfSome, refl, sym, ap, ◌∙◌, subst, take, drop}
use Rattle.std.proofs.Math.Seq.{take-add}
use Rattle.std.proofs.lemmas.List.{append_assoc, take-append-drop, drop-drop}
use Rattle.css_io.specs.Outside.{Appends, AppendsPrefix, Gives}

-- two calls that append, one after the other
pub Appends-more : (before between after : Option (List ℕ)) (first second : List ℕ) → Appends before between first → Appends between after second → Appends before after (first ++ second)
Appends-more None between after first second one two = tt
Appends-more (Some had) between after first second one two =
    let step : Appends (Some (had ++ first)) after second = subst (λ (w : Option (List ℕ)). Appends w after second) one two in
    rw (← append_assoc had first second) step

-- a call that appends the next bytes of these
pub Appends-next : (before between after : Option (List ℕ)) (bytes : List ℕ) (at count : ℕ) → Appends before between (take at bytes) → Appends between after (take count (drop at bytes)) → Appends before after (take (at + count) bytes)
Appends-next before between after bytes at count one two =
    rw (take-add at count bytes) (Appends-more before between after (take at bytes) (take count (drop at bytes)) one two)

-- the first bytes of these are a prefix of them
pub AppendsPrefix-from_take : (before after : Option (List ℕ)) (bytes : List ℕ) (at : ℕ) → Appends before after (take at bytes) → AppendsPrefix before after bytes
AppendsPrefix-from_take before after bytes at appended = (take at bytes, drop at bytes, sym (take-append-drop at bytes), appended)

-- a call that gives the next bytes of these
pub Gives-next : (bytes part : List ℕ) (taken count : ℕ) → take count part ≡ take count (drop taken bytes) → Gives (Some (drop taken bytes)) (Some (drop (taken + count) bytes)) (take count part)
Gives-next bytes part taken count same =
    (drop (taken + count) bytes, refl, rw (same, ← drop-drop count taken bytes) (sym (take-append-drop count (drop taken bytes))))

-- a call that gives nothing
pub Gives-nothing : (told : Option (List ℕ)) → Gives told told []
Gives-nothing None = tt
Gives-nothing (Some had) = (had, refl, refl)

-- two calls that give, one after the other
pub Gives-more : (before between after : Option (List ℕ)) (first second : List ℕ) → Gives before between first → Gives between after second → Gives before after (first ++ second)
Gives-more None between after first second one two = tt
Gives-more (Some had) between after first second one two =
    let step : Gives (Some one.0) after second = subst (λ (w : Option (List ℕ)). Gives w after second) one.1 two in
    (step.0, step.1, one.2 ∙ ap (λ (l : List ℕ). first ++ l) step.2 ∙ sym (append_assoc first second step.0))

-- calls that give the first bytes, and then one that gives none at the end
gives_all : (had first rest part : List ℕ) (after : Option (List ℕ)) → had ≡ first ++ rest → rest ≡ [] → Gives (Some rest) after (take 0 part) → (first ++ take 0 part ≡ had) × (after ≡ Some [])
gives_all had first rest part after split end two =
    (ap (λ (l : List ℕ). first ++ l) (sym end) ∙ sym split, two.1 ∙ ap Some (sym two.2 ∙ end))

pub Gives-all : (before between after : Option (List ℕ)) (first part : List ℕ) (count : ℕ) → count ≡ 0 → Gives before between first → IfSome between (λ left. left ≡ []) → Gives between after (take count part) → IfSome before (λ left. (first ++ take count part ≡ left) × (after ≡ Some []))
Gives-all None between after first part count none one end two = tt
Gives-all (Some had) between after first part count none one end two =
    let rest = one.0 in
    let at_end = subst (λ (told : Option (List ℕ)). IfSome told (λ left. left ≡ [])) one.1 end in
    let last = subst (λ (told : Option (List ℕ)). Gives told after (take count part)) one.1 two in
    let last_none = subst (λ (n : ℕ). Gives (Some rest) after (take n part)) none last in
    rw none (gives_all had first rest part after one.2 at_end last_none)
