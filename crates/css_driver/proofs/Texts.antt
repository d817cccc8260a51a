-- The answers of a text of which no more than one byte past the longest need be there.
use Rattle.std.proofs.Common.{◌≡◌, ℕ, ◌<◌, ◌≤◌, ◌⊎◌, inl, inr, List, [], length, take, Option, Some, None, refl, sym, ◌∙◌, subst, arith}
use Rattle.std.specs.Prelude.{IfSome}
use Rattle.std.proofs.lemmas.Bool.{cases_lt}
use Rattle.std.proofs.lemmas.List.{take_all, length-take-le}
use Rattle.css_base.specs.declared.limits.Limits.{Limits}
use Rattle.css_base.specs.declared.static_fault.StaticFault.{StaticFault}
use Rattle.css_io.specs.Changes.{Change, Got, GotPrefix}
use Rattle.css_main_side.proofs.Sinks.{Appends-nothing, AppendsPrefix-nothing}
use Rattle.css_words.specs.declared.command.Command.{Command}
use Rattle.css_words.specs.declared.request.Request.{Request}
use Rattle.css_driver.specs.Request.{Offer, Asks, AreRefused}
use Rattle.css_report.specs.Endings.{static_line}
use Rattle.css_driver.specs.Answer.{Answer, IsProgramAnswer, IsTextAnswer, Refused, Given, IsAnswer, WordsRefused, Asked, IsRefusedBy, refusal, too_long, words_refused, no_memory}
use Rattle.css_driver.specs.Ends.{Ends, Finishes, IsText, CallEnds, Answered}
use Rattle.css_driver.proofs.Commands.{long_refused_by}
use Rattle.css_driver.proofs.Endings.{Ends-map, ends_answer, ends_no_memory}
use Rattle.css_driver.proofs.OneAnswer.{OneTextAnswer, answer_given}
use Rattle.css_driver.proofs.Words.{asks_nothing, one_request}

-- a sink that is as it was got nothing, which is a prefix of all
pub got_nothing : (c : Change) → c.after ≡ c.before → Got c []
got_nothing c same = subst (λ told. Got (record c { after = told }) []) (sym same) (Appends-nothing c.before)

pub got_no_prefix : (c : Change) → c.after ≡ c.before → (bytes : List ℕ) → GotPrefix c bytes
got_no_prefix c same bytes = subst (λ told. GotPrefix (record c { after = told }) bytes) (sym same) (AppendsPrefix-nothing c.before bytes)

-- ---- the answers of a text

module _ (only : OneTextAnswer) (request : Request) (out report : Change) (status : ℕ) where
  -- without memory a text has no answer, and all that was written is a prefix
  pub text_starved : (text : List ℕ) → out.after ≡ out.before → Finishes report no_memory 8 status → Ends (IsTextAnswer request text) out report status
  text_starved text same finishes = ends_no_memory (IsTextAnswer request text) out report status (λ a one. got_no_prefix out same a.out) finishes

  -- an answer without output is reported
  pub text_reported : (text : List ℕ) (a : Answer) → IsTextAnswer request text a → a.out ≡ [] → out.after ≡ out.before → Finishes report a.report a.status status
      → Ends (IsTextAnswer request text) out report status
  text_reported text a one silent same =
      ends_answer (IsTextAnswer request text) out report status a one
      (subst (λ bytes. Got out bytes) (sym silent) (got_nothing out same))

  -- a text that is refused is reported so, or there is no memory for the line
  pub text_refused : (text : List ℕ) (fault : StaticFault) → IsRefusedBy request.command text fault → out.after ≡ out.before
      → Finishes report (static_line fault.name fault.line) 3 status ⊎ Finishes report no_memory 8 status → Ends (IsTextAnswer request text) out report status
  text_refused text fault refused same (inl finishes) = text_reported text (refusal fault) (Refused fault refused refl) refl same finishes
  text_refused text fault refused same (inr starved) = text_starved text same starved

  -- the same of a text that a command refuses, which the request is for
  pub refused_as : (text : List ℕ) (fault : StaticFault) (command : Command) → request.command ≡ command → IsRefusedBy command text fault → out.after ≡ out.before
      → Finishes report (static_line fault.name fault.line) 3 status ⊎ Finishes report no_memory 8 status → Ends (IsTextAnswer request text) out report status
  refused_as text fault command is refused = text_refused text fault (subst (λ c. IsRefusedBy c text fault) (sym is) refused)

  -- a text that is too long has one answer
  long_answer : (text : List ℕ) → 4194304 < length text → IsTextAnswer request text (refusal too_long)
  long_answer text long = Refused too_long (long_refused_by request.command text long) refl

  to_long : (text other : List ℕ) → 4194304 < length text → 4194304 < length other → (a : Answer) → IsTextAnswer request text a → IsTextAnswer request other a
  to_long text other long also a one =
      subst (λ x. IsTextAnswer request other x) (only request text (refusal too_long) a (long_answer text long) one) (long_answer other also)

  -- a call that ends as what a command gives for a text that it doesn't refuse ends as the text asks
  module _ (text : List ℕ) (command : Command) (is : request.command ≡ command) (limits : Limits) (limits_are : request.limits ≡ limits) (IsOne : Limits → Answer → Type 0) where
    given_back : ((a : Answer) → IsProgramAnswer command request.limits text a → IsOne request.limits a) → ((fault : StaticFault) → IsRefusedBy command text fault → ⊥)
        → (a : Answer) → IsTextAnswer request text a → IsOne request.limits a
    given_back back read a (Refused fault refused same) = absurd (read fault (subst (λ c. IsRefusedBy c text fault) is refused))
    given_back back read a (Given one) = back a (subst (λ c. IsProgramAnswer c request.limits text a) is one)

    pub given_as : ((a : Answer) → IsOne request.limits a → IsProgramAnswer command request.limits text a)
        → ((a : Answer) → IsProgramAnswer command request.limits text a → IsOne request.limits a)
        → ((fault : StaticFault) → IsRefusedBy command text fault → ⊥) → Ends (IsOne limits) out report status → Ends (IsTextAnswer request text) out report status
    given_as to back read ends =
        Ends-map (IsOne request.limits) (IsTextAnswer request text) out report (λ a one. answer_given request text command a is (to a one)) (given_back back read) status
        (subst (λ l. Ends (IsOne l) out report status) (sym limits_are) ends)

  -- a call that ends as the first bytes of a text ask, one more than the longest has, ends as the text asks
  module _ (limit : ℕ) (limit_is : limit ≡ 4194305) (all : List ℕ) where
    ends_long : 4194304 < length all → Ends (IsTextAnswer request (take limit all)) out report status → Ends (IsTextAnswer request all) out report status
    ends_long long =
        let first : 4194304 < length (take limit all) = (let e = length-take-le limit all (omega (arith, limit_is)) in omega (arith, limit_is, e)) in
        Ends-map (IsTextAnswer request (take limit all)) (IsTextAnswer request all) out report (to_long (take limit all) all first long) (to_long all (take limit all) long first) status

    ends_short : length all ≤ 4194304 → Ends (IsTextAnswer request (take limit all)) out report status → Ends (IsTextAnswer request all) out report status
    ends_short short = subst (λ t. Ends (IsTextAnswer request t) out report status) (take_all limit all (omega (arith, limit_is)))

    pub ends_taken : Ends (IsTextAnswer request (take limit all)) out report status → Ends (IsTextAnswer request all) out report status
    ends_taken ends = elim (cases_lt 4194304 (length all)) [ inl long ↦ ends_long long ends | inr short ↦ ends_short short ends ]

-- ---- the answers of words

module _ (offer : Offer) (words : List (List ℕ)) (told : List ℕ → Option (List ℕ)) where
  -- the text of the file that words name is the shelf's
  pub is_text : (request : Request) (text : List ℕ) → Asks offer words request → IfSome (told request.file) (λ bytes. text ≡ bytes) → IsText offer words told text
  is_text request text asks is other also =
      subst (λ (r : Request). IfSome (told r.file) (λ bytes. text ≡ bytes)) (one_request offer words request other asks also) is

  module _ (before after : List ℕ → ℕ) (out report : Change) (status : ℕ) where
    module _ (request : Request) (asks : Asks offer words request) where
      -- the words' answers are those of the text
      text_answer : (text : List ℕ) (a : Answer) → IsAnswer offer words text a → IsTextAnswer request text a
      text_answer text a (WordsRefused refused is) = absurd (asks_nothing offer words request refused asks)
      text_answer text a (Asked other also is) = subst (λ (r : Request). IsTextAnswer r text a) (one_request offer words other request also asks) is

      ends_asked : (text : List ℕ) → Ends (IsTextAnswer request text) out report status → Ends (IsAnswer offer words text) out report status
      ends_asked text = Ends-map (IsTextAnswer request text) (IsAnswer offer words text) out report (λ a is. Asked request asks is) (text_answer text) status

      module _ (only : OneTextAnswer) (limit : ℕ) (text : List ℕ) where
        answered_from : limit ≡ 4194305 → (file : Option (List ℕ)) → told request.file ≡ file → IfSome file (λ all. text ≡ take limit all)
            → Ends (IsTextAnswer request text) out report status → CallEnds offer words told before after out report status
        answered_from limit_is None same is ends =
            let P : Option (List ℕ) → Type 0 = λ f. IfSome f (λ bytes. text ≡ bytes) in
            Answered text (is_text request text asks (subst P (sym same) tt)) (ends_asked text ends)
        answered_from limit_is (Some all) same is ends =
            let P : Option (List ℕ) → Type 0 = λ f. IfSome f (λ bytes. all ≡ bytes) in
            Answered all (is_text request all asks (subst P (sym same) refl))
            (ends_asked all
            (ends_taken only request out report status limit limit_is all (subst (λ t. Ends (IsTextAnswer request t) out report status) is ends)))

        -- a call that ends as the bytes that were read ask, up to one past the longest text, ends as the words ask
        pub answered : IfSome (told request.file) (λ all. text ≡ take limit all) → limit ≡ 4194305
            → Ends (IsTextAnswer request text) out report status → CallEnds offer words told before after out report status
        answered is limit_is ends = answered_from limit_is (told request.file) refl is ends

      -- a call that ends as each text asks ends as the words ask
      pub answered_any : ((text : List ℕ) → Ends (IsTextAnswer request text) out report status) → CallEnds offer words told before after out report status
      answered_any ends =
          let some = told_any (told request.file) in
          Answered some.0 (is_text request some.0 asks some.1) (ends_asked some.0 (ends some.0))
        where
          told_any : (file : Option (List ℕ)) → (text : List ℕ) × IfSome file (λ bytes. text ≡ bytes)
          told_any None = ([], tt)
          told_any (Some all) = (all, refl)

    -- where the words are refused, the line for it ends the call
    pub ends_refused : AreRefused offer words → out.after ≡ out.before → Finishes report words_refused 2 status → CallEnds offer words told before after out report status
    ends_refused refused same finishes =
        let a : Answer = record { out = []; report = words_refused; status = 2 } in
        Answered [] (λ request asks. absurd (asks_nothing offer words request refused asks))
        (ends_answer (IsAnswer offer words []) out report status a (WordsRefused refused refl) (got_nothing out same) finishes)
