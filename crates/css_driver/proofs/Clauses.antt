-- What the ways in which a call ends say of its status.
use Rattle.std.proofs.Common.{◌≡◌, ℕ, ◌<◌, ◌≤◌, ◌⊎◌, inl, inr, List, Option, Some, refl, sym, ap, ◌∙◌, subst, arith}
use Rattle.std.specs.Prelude.{IfSome}
use Rattle.css_base.specs.declared.static_fault.StaticFault.{StaticFault}
use Rattle.css_words.specs.declared.request.Request.{Request}
use Rattle.css_driver.specs.Request.{Offer, Asks, AreRefused}
use Rattle.css_report.specs.Endings.{static_line}
use Rattle.css_driver.specs.Answer.{Answer, IsRefusedBy, IsTextAnswer, Refused, Given, IsAnswer, WordsRefused, Asked, words_refused, read_fault, refusal}
use Rattle.css_io.specs.Changes.{Change, HasFailed, Got, GotPrefix}
use Rattle.css_driver.specs.Ends.{IsCut, OutFailed, ReportFailed, NoMemoryFailed, Whole, Cut, Starved, Finishes, Written, CutLine, IsText, ShelfFailed, CallEnds, Answered, Unread, Unheard, IsWhole, IsCutShort, InAnswer, InReadFault, InNoMemory, IsStarved, IsSmooth}
use Rattle.css_driver.proofs.Commands.{given_status}
use Rattle.css_driver.proofs.OneAnswer.{OnlyOneAnswer, answer_status, text_answer_status}
use Rattle.css_driver.proofs.Runs.{IsRunStatus}

not_two : (status : ℕ) → (status ≡ 3) ⊎ IsRunStatus status → status ≡ 2 → ⊥
not_two status (inl three) two = omega arith
not_two status (inr (inl low)) two = omega arith
not_two status (inr (inr high)) two = omega (arith, high.0)

not_three : (status : ℕ) → IsRunStatus status → status ≡ 3 → ⊥
not_three status (inl low) three = omega arith
not_three status (inr high) three = omega (arith, high.0)

module _ (offer : Offer) (words : List (List ℕ)) where
  -- an answer with status 2 is that to words that are refused
  refused_answer : (text : List ℕ) (a : Answer) → IsAnswer offer words text a → a.status ≡ 2 → AreRefused offer words × (a.report ≡ words_refused)
  refused_answer text a (WordsRefused refused is) two = (refused, ap (λ (x : Answer). x.report) is)
  refused_answer text a (Asked request asks answer) two = absurd (not_two a.status (text_answer_status request text a answer) two)

  -- an answer with status 3 is that to a text that is refused
  static_answer : (text : List ℕ) (a : Answer) → IsAnswer offer words text a → a.status ≡ 3
      → (request : Request) × (fault : StaticFault) × Asks offer words request × IsRefusedBy request.command text fault × (a.report ≡ static_line fault.name fault.line)
  static_answer text a (WordsRefused refused is) three = absurd (let two : a.status ≡ 2 = ap (λ (x : Answer). x.status) is in omega arith)
  static_answer text a (Asked request asks (Refused fault refused is)) three = (request, fault, asks, refused, ap (λ (x : Answer). x.report) is)
  static_answer text a (Asked request asks (Given one)) three = absurd (not_three a.status (given_status request.command request.limits text a one) three)

  -- the text that the shelf tells is the file's
  pub told_text : (told : List ℕ → Option (List ℕ)) (request : Request) (text other : List ℕ) → Asks offer words request → told request.file ≡ Some text → IsText offer words told other → other ≡ text
  told_text told request text other asks is is_text =
      let P : Option (List ℕ) → Type 0 = λ f. IfSome f (λ bytes. other ≡ bytes) in
      subst P is (is_text request asks)

-- a call is cut short where a sink failed
one_failed : (IsOne : Answer → Type 0) {out report : Change} → IsCut IsOne out report → HasFailed out ⊎ HasFailed report
one_failed IsOne (OutFailed failed a one got same none) = inl failed
one_failed IsOne (ReportFailed failed a one got_out got) = inr failed
one_failed IsOne (NoMemoryFailed failed prefix got) = inr failed

module _ (offer : Offer) (words : List (List ℕ)) (told : List ℕ → Option (List ℕ)) (before after : List ℕ → ℕ) (out report : Change) (status : ℕ) where
  pub at_two : CallEnds offer words told before after out report status → status ≡ 2 → AreRefused offer words × Got report words_refused
  at_two (Answered text is (Whole a one same got_out got)) two =
      let refused = refused_answer offer words text a one (sym same ∙ two) in
      (refused.0, subst (λ b. Got report b) refused.1 got)
  at_two (Answered text is (Cut seven cut)) two = absurd (omega arith)
  at_two (Answered text is (Starved eight prefix got)) two = absurd (omega arith)
  at_two (Unread failed same (Written six got)) two = absurd (omega arith)
  at_two (Unread failed same (CutLine seven report_failed got)) two = absurd (omega arith)
  at_two (Unheard same (Written eight got)) two = absurd (omega arith)
  at_two (Unheard same (CutLine seven report_failed got)) two = absurd (omega arith)

  pub at_three : CallEnds offer words told before after out report status → status ≡ 3
      → (request : Request) × (text : List ℕ) × (fault : StaticFault) × Asks offer words request × IsText offer words told text × IsRefusedBy request.command text fault
      × Got report (static_line fault.name fault.line)
  at_three (Answered text is (Whole a one same got_out got)) three =
      let refused = static_answer offer words text a one (sym same ∙ three) in
      (refused.0, text, refused.1, refused.2, is, refused.3, subst (λ b. Got report b) refused.4 got)
  at_three (Answered text is (Cut seven cut)) three = absurd (omega arith)
  at_three (Answered text is (Starved eight prefix got)) three = absurd (omega arith)
  at_three (Unread failed same (Written six got)) three = absurd (omega arith)
  at_three (Unread failed same (CutLine seven report_failed got)) three = absurd (omega arith)
  at_three (Unheard same (Written eight got)) three = absurd (omega arith)
  at_three (Unheard same (CutLine seven report_failed got)) three = absurd (omega arith)

  pub at_six : CallEnds offer words told before after out report status → status ≡ 6
      → ShelfFailed offer words before after × (out.after ≡ out.before) × Got report read_fault
  at_six (Answered text is (Whole a one same got_out got)) six = absurd (omega (arith, answer_status offer words text a one))
  at_six (Answered text is (Cut seven cut)) six = absurd (omega arith)
  at_six (Answered text is (Starved eight prefix got)) six = absurd (omega arith)
  at_six (Unread failed same (Written six' got)) six = (failed, same, got)
  at_six (Unread failed same (CutLine seven report_failed got)) six = absurd (omega arith)
  at_six (Unheard same (Written eight got)) six = absurd (omega arith)
  at_six (Unheard same (CutLine seven report_failed got)) six = absurd (omega arith)

  pub at_seven : CallEnds offer words told before after out report status → status ≡ 7
      → (HasFailed out ⊎ HasFailed report) × IsCutShort offer words told before after out report
  at_seven (Answered text is (Whole a one same got_out got)) seven = absurd (omega (arith, answer_status offer words text a one))
  at_seven (Answered text is (Cut seven' cut)) seven = (one_failed (IsAnswer offer words text) cut, InAnswer text is cut)
  at_seven (Answered text is (Starved eight prefix got)) seven = absurd (omega arith)
  at_seven (Unread failed same (Written six got)) seven = absurd (omega arith)
  at_seven (Unread failed same (CutLine seven' report_failed got)) seven = (inr report_failed, InReadFault failed same report_failed got)
  at_seven (Unheard same (Written eight got)) seven = absurd (omega arith)
  at_seven (Unheard same (CutLine seven' report_failed got)) seven = (inr report_failed, InNoMemory same report_failed got)

  pub at_eight : CallEnds offer words told before after out report status → status ≡ 8 → IsStarved offer words told out report
  at_eight (Answered text is (Whole a one same got_out got)) eight = absurd (omega (arith, answer_status offer words text a one))
  at_eight (Answered text is (Cut seven cut)) eight = absurd (omega arith)
  at_eight (Answered text is (Starved eight' prefix got)) eight = record { got_report = got; got_out = inr (text, is, prefix) }
  at_eight (Unread failed same (Written six got)) eight = absurd (omega arith)
  at_eight (Unread failed same (CutLine seven report_failed got)) eight = absurd (omega arith)
  at_eight (Unheard same (Written eight' got)) eight = record { got_report = got; got_out = inl same }
  at_eight (Unheard same (CutLine seven report_failed got)) eight = absurd (omega arith)

  pub below_six : CallEnds offer words told before after out report status → status < 6 → IsWhole offer words told out report status
  below_six (Answered text is (Whole a one same got_out got)) low =
      record { text = text; answer = a; is_text = is; is_answer = one; status_is = same; got_out = got_out; got_report = got }
  below_six (Answered text is (Cut seven cut)) low = absurd (omega arith)
  below_six (Answered text is (Starved eight prefix got)) low = absurd (omega arith)
  below_six (Unread failed same (Written six got)) low = absurd (omega arith)
  below_six (Unread failed same (CutLine seven report_failed got)) low = absurd (omega arith)
  below_six (Unheard same (Written eight got)) low = absurd (omega arith)
  below_six (Unheard same (CutLine seven report_failed got)) low = absurd (omega arith)

  pub at_most_eight : CallEnds offer words told before after out report status → status ≤ 8
  at_most_eight (Answered text is (Whole a one same got_out got)) = omega (arith, answer_status offer words text a one)
  at_most_eight (Answered text is (Cut seven cut)) = omega arith
  at_most_eight (Answered text is (Starved eight prefix got)) = omega arith
  at_most_eight (Unread failed same (Written six got)) = omega arith
  at_most_eight (Unread failed same (CutLine seven report_failed got)) = omega arith
  at_most_eight (Unheard same (Written eight got)) = omega arith
  at_most_eight (Unheard same (CutLine seven report_failed got)) = omega arith

  -- where a text is asked for that has an answer, the status is that answer's, or one of a call that is cut short
  answer_only : OnlyOneAnswer → CallEnds offer words told before after out report status → (request : Request) (text : List ℕ) (a : Answer) → Asks offer words request → told request.file ≡ Some text
      → IsTextAnswer request text a → (status ≡ a.status) ⊎ (6 ≤ status)
  answer_only only (Answered other is (Whole b one same got_out got)) request text a asks told_is answer =
      let one' = subst (λ t. IsAnswer offer words t b) (told_text offer words told request text other asks told_is is) one in
      inl (same ∙ ap (λ (x : Answer). x.status) (only offer words text b a one' (Asked request asks answer)))
  answer_only only (Answered other is (Cut seven cut)) request text a asks told_is answer = inr (omega arith)
  answer_only only (Answered other is (Starved eight prefix got)) request text a asks told_is answer = inr (omega arith)
  answer_only only (Unread failed same (Written six got)) request text a asks told_is answer = inr (omega arith)
  answer_only only (Unread failed same (CutLine seven report_failed got)) request text a asks told_is answer = inr (omega arith)
  answer_only only (Unheard same (Written eight got)) request text a asks told_is answer = inr (omega arith)
  answer_only only (Unheard same (CutLine seven report_failed got)) request text a asks told_is answer = inr (omega arith)

  pub refused_only : OnlyOneAnswer → CallEnds offer words told before after out report status → (request : Request) (text : List ℕ) (fault : StaticFault) → Asks offer words request → told request.file ≡ Some text
      → IsRefusedBy request.command text fault → (status ≡ 3) ⊎ (6 ≤ status)
  refused_only only ends request text fault asks told_is refused =
      answer_only only ends request text (refusal fault) asks told_is (Refused fault refused refl)

  pub smooth_status : OnlyOneAnswer → CallEnds offer words told before after out report status → IsSmooth offer words before after out report
      → (request : Request) (text : List ℕ) (a : Answer) → Asks offer words request → told request.file ≡ Some text → IsTextAnswer request text a → (status ≡ a.status) ⊎ (status ≡ 8)
  smooth_status only (Answered other is (Whole b one same got_out got)) smooth request text a asks told_is answer =
      let one' = subst (λ t. IsAnswer offer words t b) (told_text offer words told request text other asks told_is is) one in
      inl (same ∙ ap (λ (x : Answer). x.status) (only offer words text b a one' (Asked request asks answer)))
  smooth_status only (Answered other is (Cut seven (OutFailed failed b one got same none))) smooth request text a asks told_is answer = absurd (smooth.no_out failed)
  smooth_status only (Answered other is (Cut seven (ReportFailed failed b one got_out got))) smooth request text a asks told_is answer = absurd (smooth.no_report failed)
  smooth_status only (Answered other is (Cut seven (NoMemoryFailed failed prefix got))) smooth request text a asks told_is answer = absurd (smooth.no_report failed)
  smooth_status only (Answered other is (Starved eight prefix got)) smooth request text a asks told_is answer = inr eight
  smooth_status only (Unread failed same finishes) smooth request text a asks told_is answer = absurd (smooth.no_shelf failed)
  smooth_status only (Unheard same (Written eight got)) smooth request text a asks told_is answer = inr eight
  smooth_status only (Unheard same (CutLine seven failed got)) smooth request text a asks told_is answer = absurd (smooth.no_report failed)
