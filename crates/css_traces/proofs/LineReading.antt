-- A line that is read is the line that was written, and a line that was written is read again.
use Rattle.std.proofs.Common.{◌≡◌, ◌∙◌, ◌<◌, ◌^◌, ℕ, true, eqb, leb, ◌&&◌, ◌||◌, List, [], ◌∷◌, length, map, get_or, codes, Some, refl, sym, ap, subst, inl, inr, arith, IsTrue}
use Rattle.std.specs.List.{list_all, AllByRecursion, join_with_byte, slice_split}
use Rattle.std.specs.Fmt.{decimal}
use Rattle.std.proofs.lemmas.Bool.{and_parts, or_cases, leb-true, eqb-true, lt-ltb}
use Rattle.std.proofs.lemmas.Option.{same_Some}
use Rattle.std.proofs.lemmas.List.Splits.{join_with_byte-slice_split}
use Rattle.css_base.specs.declared.channel.ChannelLine.{ChannelLine}
use Rattle.css_base.specs.declared.channel.ChannelLine.TheVariants as channel
use Rattle.css_base.specs.declared.ending.Stop.{Stop}
use Rattle.css_base.specs.declared.ending.Stop.TheVariants as stops
use Rattle.css_base.specs.declared.ending.FaultKind.TheVariants as faults
use Rattle.css_base.specs.declared.rule.Rule.TheVariants as rules_of
use Rattle.css_traces.specs.declared.board_line.BoardLine.{BoardLine}
use Rattle.css_traces.specs.declared.board_line.BoardLine.TheVariants as board
use Rattle.css_traces.specs.declared.kind.Kind.{Kind}
use Rattle.css_traces.specs.declared.kind.Kind.TheVariants as heads
use Rattle.css_traces.specs.declared.kind.EntryKind.{EntryKind}
use Rattle.css_traces.specs.declared.kind.EntryKind.TheVariants as entries
use Rattle.css_traces.specs.declared.kind.TransferKind.{TransferKind}
use Rattle.css_traces.specs.declared.kind.TransferKind.TheVariants as transfers
use Rattle.css_traces.specs.declared.trace_line.TraceLine.{TraceLine}
use Rattle.css_traces.specs.declared.trace_line.TraceLine.TheVariants as lines
use Rattle.css_traces.specs.Names.{is_letter, is_digit, is_word_byte, is_identifier}
use Rattle.css_traces.specs.Lines.{stop_word, board_words, channel_words, line_words, EntryFits, TransferFits, LineFits}
use Rattle.css_traces.specs.Words.{◌>>=◌, value_in, head_words, stop_words, small_of, number_of, line_number_of, word_at, only_number, only_small, small_and_number, small_and_numbers, number_and_name}
use Rattle.css_traces.specs.Reading.{stop_entry, entry_of, transfer_of, line_by, line_of_words, line_of}
use Rattle.css_traces.proofs.Answers.{bind_some, passed}
use Rattle.css_traces.proofs.Numerals.{is_solid, all_weaker, solid_decimal, number_takes, number_again}
use Rattle.css_traces.proofs.Parted.{IsSolid, IsInLine, split_joined, joined_in_line}
use Rattle.css_traces.proofs.Said.{within_64, within_32, value_takes, stop_takes, stop_again, no_word, four_words, only_number_takes, only_number_again, only_small_takes, only_small_again, small_and_number_takes, small_and_number_again, small_and_numbers_takes, small_and_numbers_again, number_and_name_takes, number_and_name_again, line_number_takes, line_number_again}

-- ---- first words

abbrev entry_word : EntryKind → List ℕ
entry_word entries.Submit = codes "s"
entry_word entries.Take = codes "t"
entry_word entries.Finish = codes "f"
entry_word entries.Stop = codes "x"
entry_word entries.Back = codes "b"
entry_word entries.Starved = codes "w"
entry_word entries.Close = codes "c"

abbrev transfer_word : TransferKind → List ℕ
transfer_word transfers.Issue = codes "i"
transfer_word transfers.Out = codes "o"
transfer_word transfers.Finished = codes "d"
transfer_word transfers.Collected = codes "r"

abbrev head_word : Kind → List ℕ
head_word heads.Trace = codes "trace"
head_word heads.Board = codes "board"
head_word heads.Channel = codes "channel"
head_word heads.End = codes "end"
head_word (heads.Entry kind) = entry_word kind
head_word (heads.Transfer kind) = transfer_word kind

head_takes : (word : List ℕ) (k : Kind) → value_in head_words word ≡ Some k → head_word k ≡ word
head_takes = value_takes head_word head_words (refl, (refl, (refl, (refl, (refl, (refl, (refl, (refl, (refl, (refl, (refl, (refl, (refl, (refl, (refl, tt)))))))))))))))

-- ---- entries of boards

stop_entry_takes : (ws : List (List ℕ)) (entry : BoardLine) → stop_entry ws ≡ Some entry → (board_words entry ≡ codes "x" ∷ ws) × EntryFits entry
unfolding stop_entry
stop_entry_takes ws entry e =
    let g = passed (eqb (length ws) 4) (small_of (word_at ws 0) >>= λ worker. number_of (word_at ws 1) >>= λ number. line_number_of (word_at ws 2) >>= λ line.
    value_in stop_words (word_at ws 3) >>= λ stop. Some (board.Stop worker number line stop)) entry e in
    let a = bind_some (small_of (word_at ws 0)) (λ worker. number_of (word_at ws 1) >>= λ number. line_number_of (word_at ws 2) >>= λ line.
    value_in stop_words (word_at ws 3) >>= λ stop. Some (board.Stop worker number line stop)) entry g.1 in
    let b = bind_some (number_of (word_at ws 1)) (λ number. line_number_of (word_at ws 2) >>= λ line.
    value_in stop_words (word_at ws 3) >>= λ stop. Some (board.Stop a.0 number line stop)) entry a.2 in
    let c = bind_some (line_number_of (word_at ws 2)) (λ line. value_in stop_words (word_at ws 3) >>= λ stop. Some (board.Stop a.0 b.0 line stop)) entry b.2 in
    let d = bind_some (value_in stop_words (word_at ws 3)) (λ stop. Some (board.Stop a.0 b.0 c.0 stop)) entry c.2 in
    let t = number_takes (2 ^ 32) (word_at ws 0) a.0 within_32 a.1 in
    let u = number_takes (2 ^ 64) (word_at ws 1) b.0 within_64 b.1 in
    let v = line_number_takes (word_at ws 2) c.0 c.1 in
    let w = stop_takes (word_at ws 3) d.0 d.1 in
    let made : BoardLine = board.Stop a.0 b.0 c.0 d.0 in
    let whole : decimal a.0 ∷ decimal b.0 ∷ decimal c.0 ∷ stop_word d.0 ∷ [] ≡ ws = rw (t.0, u.0, v.0, w) (sym (four_words ws g.0)) in
    subst (λ (x : BoardLine). (board_words x ≡ codes "x" ∷ ws) × EntryFits x) (same_Some made entry d.2)
    (ap (λ (us : List (List ℕ)). codes "x" ∷ us) whole, (t.1, u.1, v.1.0, v.1.1))

entry_takes : (kind : EntryKind) (ws : List (List ℕ)) (entry : BoardLine) → entry_of kind ws ≡ Some entry → (board_words entry ≡ entry_word kind ∷ ws) × EntryFits entry
unfolding entry_of
entry_takes entries.Submit ws entry e =
    let a = bind_some (number_and_name ws) (λ p. Some (board.Submit p.0 p.1)) entry e in
    let t = number_and_name_takes ws a.0 a.1 in
    subst (λ (x : BoardLine). (board_words x ≡ codes "s" ∷ ws) × EntryFits x) (same_Some (board.Submit a.0.0 a.0.1) entry a.2) (ap (λ (us : List (List ℕ)). codes "s" ∷ us) t.0, t.1)
entry_takes entries.Take ws entry e =
    let a = bind_some (small_and_numbers ws) (λ p. Some (board.Take p.0 p.1)) entry e in
    let t = small_and_numbers_takes ws a.0 a.1 in
    subst (λ (x : BoardLine). (board_words x ≡ codes "t" ∷ ws) × EntryFits x) (same_Some (board.Take a.0.0 a.0.1) entry a.2) (ap (λ (us : List (List ℕ)). codes "t" ∷ us) t.0, t.1)
entry_takes entries.Finish ws entry e =
    let a = bind_some (small_and_number ws) (λ p. Some (board.Finish p.0 p.1)) entry e in
    let t = small_and_number_takes ws a.0 a.1 in
    subst (λ (x : BoardLine). (board_words x ≡ codes "f" ∷ ws) × EntryFits x) (same_Some (board.Finish a.0.0 a.0.1) entry a.2) (ap (λ (us : List (List ℕ)). codes "f" ∷ us) t.0, t.1)
entry_takes entries.Stop ws entry e = stop_entry_takes ws entry e
entry_takes entries.Back ws entry e =
    let a = bind_some (small_and_numbers ws) (λ p. Some (board.Back p.0 p.1)) entry e in
    let t = small_and_numbers_takes ws a.0 a.1 in
    subst (λ (x : BoardLine). (board_words x ≡ codes "b" ∷ ws) × EntryFits x) (same_Some (board.Back a.0.0 a.0.1) entry a.2) (ap (λ (us : List (List ℕ)). codes "b" ∷ us) t.0, t.1)
entry_takes entries.Starved ws entry e =
    let a = bind_some (only_small ws) (λ worker. Some (board.Starved worker)) entry e in
    let t = only_small_takes ws a.0 a.1 in
    subst (λ (x : BoardLine). (board_words x ≡ codes "w" ∷ ws) × EntryFits x) (same_Some (board.Starved a.0) entry a.2) (ap (λ (us : List (List ℕ)). codes "w" ∷ us) t.0, t.1)
entry_takes entries.Close ws entry e =
    let g = passed (eqb (length ws) 0) (Some board.Close) entry e in
    subst (λ (x : BoardLine). (board_words x ≡ codes "c" ∷ ws) × EntryFits x) (same_Some board.Close entry g.1) (ap (λ (us : List (List ℕ)). codes "c" ∷ us) (sym (no_word ws g.0)), tt)

transfer_takes : (kind : TransferKind) (ws : List (List ℕ)) (transfer : ChannelLine) → transfer_of kind ws ≡ Some transfer
    → (channel_words transfer ≡ transfer_word kind ∷ ws) × TransferFits transfer
unfolding transfer_of
transfer_takes transfers.Issue ws transfer e =
    let a = bind_some (small_and_number ws) (λ p. Some (channel.Issue p.0 p.1)) transfer e in
    let t = small_and_number_takes ws a.0 a.1 in
    subst (λ (x : ChannelLine). (channel_words x ≡ codes "i" ∷ ws) × TransferFits x) (same_Some (channel.Issue a.0.0 a.0.1) transfer a.2) (ap (λ (us : List (List ℕ)). codes "i" ∷ us) t.0, t.1)
transfer_takes transfers.Out ws transfer e =
    let a = bind_some (only_small ws) (λ tag. Some (channel.Out tag)) transfer e in
    let t = only_small_takes ws a.0 a.1 in
    subst (λ (x : ChannelLine). (channel_words x ≡ codes "o" ∷ ws) × TransferFits x) (same_Some (channel.Out a.0) transfer a.2) (ap (λ (us : List (List ℕ)). codes "o" ∷ us) t.0, t.1)
transfer_takes transfers.Finished ws transfer e =
    let a = bind_some (only_small ws) (λ tag. Some (channel.Finished tag)) transfer e in
    let t = only_small_takes ws a.0 a.1 in
    subst (λ (x : ChannelLine). (channel_words x ≡ codes "d" ∷ ws) × TransferFits x) (same_Some (channel.Finished a.0) transfer a.2) (ap (λ (us : List (List ℕ)). codes "d" ∷ us) t.0, t.1)
transfer_takes transfers.Collected ws transfer e =
    let a = bind_some (only_small ws) (λ tag. Some (channel.Collected tag)) transfer e in
    let t = only_small_takes ws a.0 a.1 in
    subst (λ (x : ChannelLine). (channel_words x ≡ codes "r" ∷ ws) × TransferFits x) (same_Some (channel.Collected a.0) transfer a.2) (ap (λ (us : List (List ℕ)). codes "r" ∷ us) t.0, t.1)

-- ---- lines

by_takes : (kind : Kind) (ws : List (List ℕ)) (line : TraceLine) → line_by kind ws ≡ Some line → (line_words line ≡ head_word kind ∷ ws) × LineFits line
unfolding line_by
by_takes heads.Trace ws line e =
    let g = passed (eqb (length ws) 0) (Some lines.Trace) line e in
    subst (λ (x : TraceLine). (line_words x ≡ codes "trace" ∷ ws) × LineFits x) (same_Some lines.Trace line g.1) (ap (λ (us : List (List ℕ)). codes "trace" ∷ us) (sym (no_word ws g.0)), tt)
by_takes heads.Board ws line e =
    let a = bind_some (only_number ws) (λ number. Some (lines.Board number)) line e in
    let t = only_number_takes ws a.0 a.1 in
    subst (λ (x : TraceLine). (line_words x ≡ codes "board" ∷ ws) × LineFits x) (same_Some (lines.Board a.0) line a.2) (ap (λ (us : List (List ℕ)). codes "board" ∷ us) t.0, t.1)
by_takes heads.Channel ws line e =
    let a = bind_some (only_small ws) (λ worker. Some (lines.Channel worker)) line e in
    let t = only_small_takes ws a.0 a.1 in
    subst (λ (x : TraceLine). (line_words x ≡ codes "channel" ∷ ws) × LineFits x) (same_Some (lines.Channel a.0) line a.2) (ap (λ (us : List (List ℕ)). codes "channel" ∷ us) t.0, t.1)
by_takes heads.End ws line e =
    let g = passed (eqb (length ws) 0) (Some lines.End) line e in
    subst (λ (x : TraceLine). (line_words x ≡ codes "end" ∷ ws) × LineFits x) (same_Some lines.End line g.1) (ap (λ (us : List (List ℕ)). codes "end" ∷ us) (sym (no_word ws g.0)), tt)
by_takes (heads.Entry kind) ws line e =
    let a = bind_some (entry_of kind ws) (λ entry. Some (lines.Entry entry)) line e in
    subst (λ (x : TraceLine). (line_words x ≡ entry_word kind ∷ ws) × LineFits x) (same_Some (lines.Entry a.0) line a.2) (entry_takes kind ws a.0 a.1)
by_takes (heads.Transfer kind) ws line e =
    let a = bind_some (transfer_of kind ws) (λ transfer. Some (lines.Transfer transfer)) line e in
    subst (λ (x : TraceLine). (line_words x ≡ transfer_word kind ∷ ws) × LineFits x) (same_Some (lines.Transfer a.0) line a.2) (transfer_takes kind ws a.0 a.1)

words_take : (ws : List (List ℕ)) (line : TraceLine) → line_of_words ws ≡ Some line → (line_words line ≡ ws) × LineFits line
unfolding line_of_words
words_take [] line e = absurd cc
words_take (w ∷ ws) line e =
    let a = bind_some (value_in head_words w) (λ kind. line_by kind ws) line e in
    let t = by_takes a.0 ws line a.2 in
    (t.0 ∙ ap (λ (first : List ℕ). first ∷ ws) (head_takes w a.0 a.1), t.1)

-- What is read of a line is the line.
pub line_takes : (bytes : List ℕ) (line : TraceLine) → line_of bytes ≡ Some line → (join_with_byte 32 (line_words line) ≡ bytes) × LineFits line
line_takes bytes line e =
    let t = words_take (slice_split (λ b. eqb b 32) bytes) line e in
    (ap (join_with_byte 32) t.0 ∙ join_with_byte-slice_split 32 bytes, t.1)

-- ---- written lines

words_again : (line : TraceLine) → LineFits line → line_of_words (line_words line) ≡ Some line
unfolding line_of_words line_by entry_of transfer_of stop_entry
words_again lines.Trace h = refl
words_again (lines.Board number) h = rw (only_number_again number h) refl
words_again (lines.Entry (board.Submit number name)) h = rw (number_and_name_again number name h.0 h.1) refl
words_again (lines.Entry (board.Take worker numbers)) h = rw (small_and_numbers_again worker numbers h.0 h.1) refl
words_again (lines.Entry (board.Finish worker number)) h = rw (small_and_number_again worker number h.0 h.1) refl
words_again (lines.Entry (board.Stop worker number line stop)) h =
    rw (number_again (2 ^ 32) worker h.0 within_32, number_again (2 ^ 64) number h.1 within_64, line_number_again line h.2 h.3, stop_again stop) refl
words_again (lines.Entry (board.Back worker numbers)) h = rw (small_and_numbers_again worker numbers h.0 h.1) refl
words_again (lines.Entry (board.Starved worker)) h = rw (only_small_again worker h) refl
words_again (lines.Entry board.Close) h = refl
words_again (lines.Channel worker) h = rw (only_small_again worker h) refl
words_again (lines.Transfer (channel.Issue tag length)) h = rw (small_and_number_again tag length h.0 h.1) refl
words_again (lines.Transfer (channel.Out tag)) h = rw (only_small_again tag h) refl
words_again (lines.Transfer (channel.Finished tag)) h = rw (only_small_again tag h) refl
words_again (lines.Transfer (channel.Collected tag)) h = rw (only_small_again tag h) refl
words_again lines.End h = refl

-- ---- bytes of lines

word_byte_solid : (b : ℕ) → is_word_byte b ≡ true → is_solid b ≡ true
word_byte_solid b h =
    lt-ltb 32 b (elim (or_cases (is_letter b) (is_digit b) h) [
      | inl letter ↦ elim (or_cases ((leb 97 b && leb b 122) || (leb 65 b && leb b 90)) (eqb b 95) letter) [
        | inl either ↦ elim (or_cases (leb 97 b && leb b 122) (leb 65 b && leb b 90) either) [
          | inl small ↦ omega (arith, leb-true 97 b (and_parts (leb 97 b) (leb b 122) small).0)
          | inr great ↦ omega (arith, leb-true 65 b (and_parts (leb 65 b) (leb b 90) great).0)
        ]
        | inr underscore ↦ omega (arith, eqb-true b 95 underscore)
      ]
      | inr digit ↦ omega (arith, leb-true 48 b (and_parts (leb 48 b) (leb b 57) digit).0)
    ])

solid_name : (name : List ℕ) → IsTrue (is_identifier name) → IsSolid name
solid_name name h =
    all_weaker is_word_byte is_solid word_byte_solid name (and_parts (is_letter (get_or name 0 0)) (list_all is_word_byte name) h).1

solid_stop : (s : Stop) → IsSolid (stop_word s)
solid_stop (stops.Fault faults.DivideByZero) = refl
solid_stop (stops.Fault faults.OutsideMemory) = refl
solid_stop (stops.Rule rules_of.StartTwice) = refl
solid_stop (stops.Rule rules_of.FinishWithout) = refl
solid_stop (stops.Rule rules_of.Dimension) = refl
solid_stop (stops.Rule rules_of.TooLarge) = refl
solid_stop (stops.Rule rules_of.DeadArgument) = refl
solid_stop (stops.Rule rules_of.PartialOverlap) = refl
solid_stop (stops.Rule rules_of.AliasedArguments) = refl
solid_stop (stops.Rule rules_of.Unsynchronised) = refl
solid_stop (stops.Rule rules_of.OutsideArguments) = refl
solid_stop (stops.Rule rules_of.WroteInput) = refl
solid_stop (stops.Rule rules_of.ReadUnwritten) = refl
solid_stop (stops.Rule rules_of.LeftUnwritten) = refl
solid_stop (stops.Rule rules_of.TaskStack) = refl
solid_stop (stops.Rule rules_of.MainStack) = refl
solid_stop (stops.Rule rules_of.Units) = refl
solid_stop (stops.Rule rules_of.BadWait) = refl

small : (n : ℕ) → n < 2 ^ 32 → IsSolid (decimal n)
small n h = solid_decimal n (omega (arith, h))

solid_numbers : (ns : List ℕ) → AllByRecursion (λ n. n < 2 ^ 64) ns → AllByRecursion IsSolid (map decimal ns)
solid_numbers [] h = tt
solid_numbers (n ∷ ns) h = (solid_decimal n h.0, solid_numbers ns h.1)

-- A line has a first word, and all its words are solid.
record IsOfWords (line : TraceLine) : Type 0 where
  first : List ℕ
  others : List (List ℕ)
  are : line_words line ≡ first ∷ others
  solid_first : IsSolid first
  solid_others : AllByRecursion IsSolid others

of_words : (line : TraceLine) → LineFits line → IsOfWords line
of_words lines.Trace h = record { first = codes "trace"; others = []; are = refl; solid_first = refl; solid_others = tt }
of_words (lines.Board number) h = record { first = codes "board"; others = decimal number ∷ []; are = refl; solid_first = refl; solid_others = (solid_decimal number h, tt) }
of_words (lines.Entry (board.Submit number name)) h =
    record { first = codes "s"; others = decimal number ∷ name ∷ []; are = refl; solid_first = refl; solid_others = (solid_decimal number h.0, (solid_name name h.1, tt)) }
of_words (lines.Entry (board.Take worker numbers)) h =
    record { first = codes "t"; others = decimal worker ∷ map decimal numbers; are = refl; solid_first = refl; solid_others = (small worker h.0, solid_numbers numbers h.1) }
of_words (lines.Entry (board.Finish worker number)) h =
    record { first = codes "f"; others = decimal worker ∷ decimal number ∷ []; are = refl; solid_first = refl; solid_others = (small worker h.0, (solid_decimal number h.1, tt)) }
of_words (lines.Entry (board.Stop worker number line stop)) h =
    record {
      first = codes "x";
      others = decimal worker ∷ decimal number ∷ decimal line ∷ stop_word stop ∷ [];
      are = refl;
      solid_first = refl;
      solid_others = (small worker h.0, (solid_decimal number h.1, (small line h.3, (solid_stop stop, tt))));
    }
of_words (lines.Entry (board.Back worker numbers)) h =
    record { first = codes "b"; others = decimal worker ∷ map decimal numbers; are = refl; solid_first = refl; solid_others = (small worker h.0, solid_numbers numbers h.1) }
of_words (lines.Entry (board.Starved worker)) h = record { first = codes "w"; others = decimal worker ∷ []; are = refl; solid_first = refl; solid_others = (small worker h, tt) }
of_words (lines.Entry board.Close) h = record { first = codes "c"; others = []; are = refl; solid_first = refl; solid_others = tt }
of_words (lines.Channel worker) h = record { first = codes "channel"; others = decimal worker ∷ []; are = refl; solid_first = refl; solid_others = (small worker h, tt) }
of_words (lines.Transfer (channel.Issue tag length)) h =
    record { first = codes "i"; others = decimal tag ∷ decimal length ∷ []; are = refl; solid_first = refl; solid_others = (small tag h.0, (solid_decimal length h.1, tt)) }
of_words (lines.Transfer (channel.Out tag)) h = record { first = codes "o"; others = decimal tag ∷ []; are = refl; solid_first = refl; solid_others = (small tag h, tt) }
of_words (lines.Transfer (channel.Finished tag)) h = record { first = codes "d"; others = decimal tag ∷ []; are = refl; solid_first = refl; solid_others = (small tag h, tt) }
of_words (lines.Transfer (channel.Collected tag)) h = record { first = codes "r"; others = decimal tag ∷ []; are = refl; solid_first = refl; solid_others = (small tag h, tt) }
of_words lines.End h = record { first = codes "end"; others = []; are = refl; solid_first = refl; solid_others = tt }

-- the bytes of a line, without the newline
abbrev pub line_bytes : TraceLine → List ℕ
line_bytes line = join_with_byte 32 (line_words line)

-- A line that was written is read again.
pub line_again : (line : TraceLine) → LineFits line → line_of (line_bytes line) ≡ Some line
line_again line h =
    let w = of_words line h in
    let parted : slice_split (λ b. eqb b 32) (line_bytes line) ≡ line_words line =
    ap (λ (ws : List (List ℕ)). slice_split (λ b. eqb b 32) (join_with_byte 32 ws)) w.are ∙ split_joined w.first w.others w.solid_first w.solid_others ∙ sym w.are in
    ap line_of_words parted ∙ words_again line h

-- It has no newline in it.
pub line_in_line : (line : TraceLine) → LineFits line → IsInLine (line_bytes line)
line_in_line line h =
    let w = of_words line h in
    subst (λ (ws : List (List ℕ)). IsInLine (join_with_byte 32 ws)) (sym w.are) (joined_in_line w.first w.others w.solid_first w.solid_others)
