-- How a call of the program ends, for its sinks.
use Rattle.std.specs.Prelude.{◌≡◌, ℕ, ◌⊎◌, List, ◌++◌, Option, IfSome}
use Rattle.css_io.specs.Outside.{Rose}
use Rattle.css_io.specs.Changes.{Change, HasFailed, Got, GotPrefix}
use Rattle.css_words.specs.declared.request.Request.{Request}
use Rattle.css_driver.specs.Request.{Offer, Asks}
use Rattle.css_driver.specs.Answer.{Answer, IsAnswer, no_memory, read_fault}

-- What a failing sink leaves. `out` failed: it got a prefix, and the report, whose count didn't rise, nothing, since no line stands in a
-- report before the output's end. Or the report failed in the answer's line: `out` got all of the answer's. Or the report failed in
-- the line for want of memory: `out` got a prefix.
pub data IsCut (IsOne : Answer → Type 0) (out report : Change) : Type 0 where
  OutFailed : HasFailed out → (a : Answer) → IsOne a → GotPrefix out a.out → report.after ≡ report.before
      → report.faults_after ≡ report.faults_before → IsCut IsOne out report
  ReportFailed : HasFailed report → (a : Answer) → IsOne a → Got out a.out → GotPrefix report a.report → IsCut IsOne out report
  NoMemoryFailed : HasFailed report → ((a : Answer) → IsOne a → GotPrefix out a.out) → GotPrefix report no_memory → IsCut IsOne out report

-- The call answers one of the answers whole, or it is cut short by a sink (7), or by want of memory (8): `out` then got a prefix of
-- what the answer has, and the report the line for want of memory alone.
pub data Ends (IsOne : Answer → Type 0) (out report : Change) (status : ℕ) : Type 0 where
  Whole : (a : Answer) → IsOne a → status ≡ a.status → Got out a.out → Got report a.report → Ends IsOne out report status
  Cut : status ≡ 7 → IsCut IsOne out report → Ends IsOne out report status
  Starved : status ≡ 8 → ((a : Answer) → IsOne a → GotPrefix out a.out) → Got report no_memory → Ends IsOne out report status

-- Writing a line ends a call with a status, or with 7 where the sink fails.
pub data Finishes (c : Change) (line : List ℕ) (status result : ℕ) : Type 0 where
  Written : result ≡ status → Got c line → Finishes c line status result
  CutLine : result ≡ 7 → HasFailed c → GotPrefix c line → Finishes c line status result

-- A text is that of the file that the words name, as far as the shelf tells it.
abbrev pub IsText : Offer → List (List ℕ) → (List ℕ → Option (List ℕ)) → List ℕ → Type 0
IsText offer words told text = (request : Request) → Asks offer words request → IfSome (told request.file) (λ bytes. text ≡ bytes)

-- The shelf's count for the file rose.
pub record ShelfFailed (offer : Offer) (words : List (List ℕ)) (before after : List ℕ → ℕ) : Type 0 where
  pub request : Request
  pub asks : Asks offer words request
  pub rose : Rose (before request.file) (after request.file)

-- All ways in which a call of the program ends.
pub data CallEnds (offer : Offer) (words : List (List ℕ)) (told : List ℕ → Option (List ℕ)) (before after : List ℕ → ℕ) (out report : Change) (status : ℕ) : Type 0 where
  Answered : (text : List ℕ) → IsText offer words told text → Ends (IsAnswer offer words text) out report status → CallEnds offer words told before after out report status
  Unread : ShelfFailed offer words before after → out.after ≡ out.before → Finishes report read_fault 6 status → CallEnds offer words told before after out report status
  Unheard : out.after ≡ out.before → Finishes report no_memory 8 status → CallEnds offer words told before after out report status

-- Cut short by a sink: in the answer to a text; or the file couldn't be read, and the report failed in the line for that; or there was
-- no memory to read the words, and the report failed in the line for that.
pub data IsCutShort (offer : Offer) (words : List (List ℕ)) (told : List ℕ → Option (List ℕ)) (before after : List ℕ → ℕ) (out report : Change) : Type 0 where
  InAnswer : (text : List ℕ) → IsText offer words told text → IsCut (IsAnswer offer words text) out report → IsCutShort offer words told before after out report
  InReadFault : ShelfFailed offer words before after → out.after ≡ out.before → HasFailed report → GotPrefix report read_fault
      → IsCutShort offer words told before after out report
  InNoMemory : out.after ≡ out.before → HasFailed report → GotPrefix report no_memory → IsCutShort offer words told before after out report

-- Cut short by want of memory: the report got the line for it alone, and `out` a prefix of what the answer has, or nothing where there
-- was no memory to read the words.
pub record IsStarved (offer : Offer) (words : List (List ℕ)) (told : List ℕ → Option (List ℕ)) (out report : Change) : Type 0 where
  pub got_report : Got report no_memory
  pub got_out : (out.after ≡ out.before)
      ⊎ ((text : List ℕ) × IsText offer words told text × ((a : Answer) → IsAnswer offer words text a → GotPrefix out a.out))

-- The answer, whole.
pub record IsWhole (offer : Offer) (words : List (List ℕ)) (told : List ℕ → Option (List ℕ)) (out report : Change) (status : ℕ) : Type 0 where
  pub text : List ℕ
  pub answer : Answer
  pub is_text : IsText offer words told text
  pub is_answer : IsAnswer offer words text answer
  pub status_is : status ≡ answer.status
  pub got_out : Got out answer.out
  pub got_report : Got report answer.report

-- No count of faults rose.
pub record IsSmooth (offer : Offer) (words : List (List ℕ)) (before after : List ℕ → ℕ) (out report : Change) : Type 0 where
  pub no_shelf : ¬ ShelfFailed offer words before after
  pub no_out : ¬ HasFailed out
  pub no_report : ¬ HasFailed report
