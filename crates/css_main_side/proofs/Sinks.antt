-- What a sink got in several calls.
use Rattle.std.proofs.Common.{ℕ, ◌≤◌, List, [], ◌++◌, Option, Some, None, refl, sym, ap, ◌∙◌, append_assoc}
use Rattle.std.proofs.lemmas.List.{append-nil}
use Rattle.css_io.specs.Outside.{Appends, AppendsPrefix}
use Rattle.css_io.proofs.Told.{Appends-more}
use Rattle.css_io.proofs.Faults.{Rose-after}
use Rattle.css_base.specs.declared.ending.Ending.{Ending}
use Rattle.css_main_side.specs.declared.ran.Ran.{Ran}
use Rattle.css_main_side.specs.declared.ran.Ran.TheVariants as rans
use Rattle.css_io.specs.Changes.{change, Got}
use Rattle.css_main_side.specs.Ran.{RanAs}

-- an object that is as it was got nothing
pub Appends-nothing : (told : Option (List ℕ)) → Appends told told []
Appends-nothing None = tt
Appends-nothing (Some had) = ap (λ bytes. Some bytes) (sym (append-nil had))

-- nothing is a prefix of all
pub AppendsPrefix-nothing : (told : Option (List ℕ)) (bytes : List ℕ) → AppendsPrefix told told bytes
AppendsPrefix-nothing told bytes = ([], bytes, refl, Appends-nothing told)

-- all is a prefix of itself
pub AppendsPrefix-whole : (before after : Option (List ℕ)) (bytes : List ℕ) → Appends before after bytes → AppendsPrefix before after bytes
AppendsPrefix-whole before after bytes got = (bytes, [], sym (append-nil bytes), got)

-- a prefix of a front is a prefix of all
pub AppendsPrefix-front : (before after : Option (List ℕ)) (bytes more : List ℕ) → AppendsPrefix before after bytes → AppendsPrefix before after (bytes ++ more)
AppendsPrefix-front before after bytes more (front, rest, parts, got) =
    (front, rest ++ more, ap (λ b. b ++ more) parts ∙ append_assoc front rest more, got)

-- a front, and then a prefix of the rest
pub AppendsPrefix-more : (before between after : Option (List ℕ)) (bytes more : List ℕ) → Appends before between bytes → AppendsPrefix between after more → AppendsPrefix before after (bytes ++ more)
AppendsPrefix-more before between after bytes more one (front, rest, parts, got) =
    (bytes ++ front, rest, ap (λ b. bytes ++ b) parts ∙ sym (append_assoc bytes front rest), Appends-more before between after bytes front one got)

-- the end of a run, after what the sink got before
pub RanAs-more : {S : Type 0} (written : S → Option (List ℕ)) (faults : S → ℕ) (old between new : S) (ending : Ending) (bytes more : List ℕ) (ran : Ran)
    → Got (change written faults old between) bytes → faults old ≤ faults between
    → RanAs ending more (change written faults between new) ran → RanAs ending (bytes ++ more) (change written faults old new) ran
RanAs-more written faults old between new ending bytes more (rans.Ended e) got rise (is, last) =
    (is, Appends-more (written old) (written between) (written new) bytes more got last)
RanAs-more written faults old between new ending bytes more rans.WriteFault got rise (failed, last) =
    (Rose-after (faults old) (faults between) (faults new) rise failed, AppendsPrefix-more (written old) (written between) (written new) bytes more got last)
RanAs-more written faults old between new ending bytes more rans.NoMemory got rise last =
    AppendsPrefix-more (written old) (written between) (written new) bytes more got last
