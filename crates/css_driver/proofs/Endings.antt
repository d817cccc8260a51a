-- Each way in which a call of the program ends.
use Rattle.std.proofs.Common.{◌≡◌, ℕ, refl}
use Rattle.css_driver.specs.Answer.{Answer, no_memory}
use Rattle.css_io.specs.Changes.{Change, HasFailed, Got, GotPrefix}
use Rattle.css_driver.specs.Ends.{IsCut, OutFailed, ReportFailed, NoMemoryFailed, Ends, Whole, Cut, Starved, Finishes, Written, CutLine}

-- want of memory is reported, and the output is a prefix
pub ends_no_memory : (IsOne : Answer → Type 0) (out report : Change) (status : ℕ) → ((a : Answer) → IsOne a → GotPrefix out a.out)
    → Finishes report no_memory 8 status → Ends IsOne out report status
ends_no_memory IsOne out report status prefix (Written is got) = Starved is prefix got
ends_no_memory IsOne out report status prefix (CutLine is failed got) = Cut is (NoMemoryFailed failed prefix got)

-- the answer is reported, and its output is all there
pub ends_answer : (IsOne : Answer → Type 0) (out report : Change) (status : ℕ) (a : Answer) → IsOne a → Got out a.out
    → Finishes report a.report a.status status → Ends IsOne out report status
ends_answer IsOne out report status a one got_out (Written is got) = Whole a one is got_out got
ends_answer IsOne out report status a one got_out (CutLine is failed got) = Cut is (ReportFailed failed a one got_out got)

-- the output failed, and nothing is reported
pub ends_out_failed : (IsOne : Answer → Type 0) (out report : Change) → HasFailed out → (a : Answer) → IsOne a → GotPrefix out a.out
    → report.after ≡ report.before → report.faults_after ≡ report.faults_before → Ends IsOne out report 7
ends_out_failed IsOne out report failed a one prefix same none = Cut refl (OutFailed failed a one prefix same none)

-- from some answers to others: each of these is one of those, and each of those is one of these
module _ (IsOne IsOther : Answer → Type 0) (out report : Change) (to : (a : Answer) → IsOne a → IsOther a) (back : (a : Answer) → IsOther a → IsOne a) where
  IsCut-map : IsCut IsOne out report → IsCut IsOther out report
  IsCut-map (OutFailed failed a one got same none) = OutFailed failed a (to a one) got same none
  IsCut-map (ReportFailed failed a one got_out got) = ReportFailed failed a (to a one) got_out got
  IsCut-map (NoMemoryFailed failed prefix got) = NoMemoryFailed failed (λ a other. prefix a (back a other)) got

  pub Ends-map : (status : ℕ) → Ends IsOne out report status → Ends IsOther out report status
  Ends-map status (Whole a one is got_out got_report) = Whole a (to a one) is got_out got_report
  Ends-map status (Cut is cut) = Cut is (IsCut-map cut)
  Ends-map status (Starved is prefix got) = Starved is (λ a other. prefix a (back a other)) got
