-- What a sink got in a call.
use Rattle.std.specs.Prelude.{ℕ, List, Option}
use Rattle.css_io.specs.Outside.{Rose, Appends, AppendsPrefix}

-- What a sink tells of a call: the bytes that it had and has, and its counts of faults.
pub record Change : Type 0 where
  pub before : Option (List ℕ)
  pub after : Option (List ℕ)
  pub faults_before : ℕ
  pub faults_after : ℕ

abbrev pub change : {S : Type 0} → (S → Option (List ℕ)) → (S → ℕ) → S → S → Change
change written faults old new =
    record { before = written old; after = written new; faults_before = faults old; faults_after = faults new }

-- the count of faults rose
abbrev pub HasFailed : Change → Type 0
HasFailed c = Rose c.faults_before c.faults_after

-- got exactly these bytes
abbrev pub Got : Change → List ℕ → Type 0
Got c bytes = Appends c.before c.after bytes

-- got a prefix of these bytes
abbrev pub GotPrefix : Change → List ℕ → Type 0
GotPrefix c bytes = AppendsPrefix c.before c.after bytes
