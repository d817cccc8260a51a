-- What a run of main gave, as its call answers it.
use Rattle.std.specs.Prelude.{◌≡◌, ℕ, List}
use Rattle.css_base.specs.declared.ending.Ending.{Ending}
use Rattle.css_io.specs.Changes.{Change, HasFailed, Got, GotPrefix}
use Rattle.css_main_side.specs.declared.ran.Ran.{Ran}
use Rattle.css_main_side.specs.declared.ran.Ran.TheVariants as rans

-- Of a run with this ending and output: the ending and all the output, or a prefix of it where the sink failed or there was no
-- memory.
abbrev pub RanAs : Ending → List ℕ → Change → Ran → Type 0
RanAs ending bytes c (rans.Ended e) = (e ≡ ending) × Got c bytes
RanAs ending bytes c rans.WriteFault = HasFailed c × GotPrefix c bytes
RanAs ending bytes c rans.NoMemory = GotPrefix c bytes

-- The run fails before its ending is known: it gave a prefix of these bytes, or of more.
abbrev pub Fails : List ℕ → Change → Ran → Type 0
Fails bytes c (rans.Ended e) = ⊥
Fails bytes c rans.WriteFault = HasFailed c × GotPrefix c bytes
Fails bytes c rans.NoMemory = GotPrefix c bytes
