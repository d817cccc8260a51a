-- What is read line by line, and the lines that it stands for.
use Rattle.std.proofs.Common.{◌≡◌, ◌∙◌, ℕ, suc, ◌+◌, Bool, true, cond, eqb, List, [], ◌∷◌, ◌++◌, length, map, Option, Some, None, refl, sym, ap, arith, add-zero}
use Rattle.std.specs.List.{flat_map, AllByRecursion}
use Rattle.std.proofs.lemmas.Bool.{eqb-true, eq-eqb}
use Rattle.std.proofs.lemmas.Option.{same_Some}
use Rattle.std.proofs.lemmas.List.{append-nil, append_assoc, map_push, length_push}
use Rattle.std.proofs.lemmas.List.Concat.{flat_map-append}
use Rattle.css_base.specs.declared.channel.ChannelLine.{ChannelLine}
use Rattle.css_traces.specs.declared.board_line.BoardLine.{BoardLine}
use Rattle.css_traces.specs.declared.draft.Draft.{Draft}
use Rattle.css_traces.specs.declared.draft.Draft.TheVariants.{Start, Whole, InBoard, InChannel, Ended}
use Rattle.css_traces.specs.declared.draft.LastGeneration.{LastGeneration}
use Rattle.css_traces.specs.declared.traces.Traces.{Traces}
use Rattle.css_traces.specs.declared.traces.Generation.{Generation}
use Rattle.css_traces.specs.declared.traces.ChannelPart.{ChannelPart}
use Rattle.css_traces.specs.declared.trace_line.TraceLine.{TraceLine}
use Rattle.css_traces.specs.declared.trace_line.TraceLine.TheVariants as lines
use Rattle.css_traces.specs.Lines.{part_lines, generation_lines, lines_from, trace_lines, LineFits}
use Rattle.css_traces.specs.Words.{◌>>=◌}
use Rattle.css_traces.specs.Reading.{opened, closed, with_trace, with_board, with_entry, with_channel, with_transfer, with_end, next, run}
use Rattle.css_traces.proofs.Answers.{bind_some, passed}

abbrev generation : List BoardLine → List ChannelPart → Generation
generation entries channels = record { board = entries; channels = channels }

abbrev part : ℕ → List ChannelLine → ChannelPart
part worker transfers = record { worker = worker; entries = transfers }

abbrev open_of : List Generation → List BoardLine → List ChannelPart → LastGeneration
open_of gs entries channels = record { generations = gs; board = entries; channels = channels }

-- the lines of whole generations and of one that is open
abbrev with_open : List Generation → List BoardLine → List ChannelPart → List TraceLine
with_open gs entries channels = lines.Trace ∷ (lines_from 0 gs ++ generation_lines (length gs) (generation entries channels))

-- the lines that a draft stands for
abbrev pub draft_lines : Draft → List TraceLine
draft_lines Start = []
draft_lines (Whole gs) = lines.Trace ∷ lines_from 0 gs
draft_lines (InBoard gs entries) = with_open gs entries []
draft_lines (InChannel gs entries channels worker transfers) = with_open gs entries (channels ++ part worker transfers ∷ [])
draft_lines (Ended gs) = lines.Trace ∷ (lines_from 0 gs ++ lines.End ∷ [])

lines_from_push : (n : ℕ) (gs : List Generation) (g : Generation) → lines_from n (gs ++ g ∷ []) ≡ lines_from n gs ++ generation_lines (n + length gs) g
lines_from_push n [] g = append-nil (generation_lines n g) ∙ ap (λ (k : ℕ). generation_lines k g) (sym (add-zero n))
lines_from_push n (h ∷ gs) g =
    let place : n + 1 + length gs ≡ n + suc (length gs) = omega arith in
    ap (λ (ls : List TraceLine). generation_lines n h ++ ls) (lines_from_push (n + 1) gs g)
    ∙ sym (append_assoc (generation_lines n h) (lines_from (n + 1) gs) (generation_lines (n + 1 + length gs) g))
    ∙ ap (λ (k : ℕ). (generation_lines n h ++ lines_from (n + 1) gs) ++ generation_lines k g) place

opened_lines : (d : Draft) (o : LastGeneration) → opened d ≡ Some o → draft_lines d ≡ with_open o.generations o.board o.channels
unfolding opened
opened_lines Start o e = absurd cc
opened_lines (Whole gs) o e = absurd cc
opened_lines (InBoard gs entries) o e = ap (λ (p : LastGeneration). with_open p.generations p.board p.channels) (same_Some (open_of gs entries []) o e)
opened_lines (InChannel gs entries channels worker transfers) o e =
    ap (λ (p : LastGeneration). with_open p.generations p.board p.channels) (same_Some (open_of gs entries (channels ++ part worker transfers ∷ [])) o e)
opened_lines (Ended gs) o e = absurd cc

abbrev closed_by : LastGeneration → List Generation
closed_by o = o.generations ++ generation o.board o.channels ∷ []

open_lines : (d : Draft) (gs : List Generation) → (opened d >>= λ o. Some (closed_by o)) ≡ Some gs → draft_lines d ≡ lines.Trace ∷ lines_from 0 gs
open_lines d gs e =
    let a = bind_some (opened d) (λ o. Some (closed_by o)) gs e in
    let whole : lines_from 0 (closed_by a.0) ≡ lines_from 0 a.0.generations ++ generation_lines (length a.0.generations) (generation a.0.board a.0.channels) =
    lines_from_push 0 a.0.generations (generation a.0.board a.0.channels)
    ∙ ap (λ (k : ℕ). lines_from 0 a.0.generations ++ generation_lines k (generation a.0.board a.0.channels)) (omega arith) in
    opened_lines d a.0 a.1 ∙ ap (λ (ls : List TraceLine). lines.Trace ∷ ls) (sym whole)
    ∙ ap (λ (hs : List Generation). lines.Trace ∷ lines_from 0 hs) (same_Some (closed_by a.0) gs a.2)

pub closed_lines : (d : Draft) (gs : List Generation) → closed d ≡ Some gs → draft_lines d ≡ lines.Trace ∷ lines_from 0 gs
unfolding closed
closed_lines Start gs e = open_lines Start gs e
closed_lines (Whole hs) gs e = ap (λ (ks : List Generation). lines.Trace ∷ lines_from 0 ks) (same_Some hs gs e)
closed_lines (InBoard hs entries) gs e = open_lines (InBoard hs entries) gs e
closed_lines (InChannel hs entries channels worker transfers) gs e = open_lines (InChannel hs entries channels worker transfers) gs e
closed_lines (Ended hs) gs e = open_lines (Ended hs) gs e

-- ---- one more line

abbrev Adds : Draft → TraceLine → Draft → Type 0
Adds d line e = draft_lines e ≡ draft_lines d ++ line ∷ []

trace_adds : (d e : Draft) → with_trace d ≡ Some e → Adds d lines.Trace e
unfolding with_trace
trace_adds Start e h = ap draft_lines (sym (same_Some (Whole []) e h))
trace_adds (Whole gs) e h = absurd cc
trace_adds (InBoard gs entries) e h = absurd cc
trace_adds (InChannel gs entries channels worker transfers) e h = absurd cc
trace_adds (Ended gs) e h = absurd cc

board_adds : (d : Draft) (number : ℕ) (e : Draft) → with_board d number ≡ Some e → Adds d (lines.Board number) e
unfolding with_board
board_adds d number e h =
    let a = bind_some (closed d) (λ gs. cond (eqb (length gs) number) (Some (InBoard gs [])) None) e h in
    let g = passed (eqb (length a.0) number) (Some (InBoard a.0 [])) e a.2 in
    let counted : length a.0 ≡ number = eqb-true (length a.0) number g.0 in
    ap draft_lines (sym (same_Some (InBoard a.0 []) e g.1))
    ∙ ap (λ (k : ℕ). lines.Trace ∷ (lines_from 0 a.0 ++ lines.Board k ∷ [])) counted
    ∙ ap (λ (ls : List TraceLine). ls ++ lines.Board number ∷ []) (sym (closed_lines d a.0 a.1))

end_adds : (d e : Draft) → with_end d ≡ Some e → Adds d lines.End e
unfolding with_end
end_adds d e h =
    let a = bind_some (closed d) (λ gs. Some (Ended gs)) e h in
    ap draft_lines (sym (same_Some (Ended a.0) e a.2)) ∙ ap (λ (ls : List TraceLine). ls ++ lines.End ∷ []) (sym (closed_lines d a.0 a.1))

regroup : (a b c d : List TraceLine) → a ++ (b ++ (c ++ d)) ≡ (a ++ (b ++ c)) ++ d
regroup a b c d = simp append_assoc

with_entry_lines : (gs : List Generation) (entries : List BoardLine) (entry : BoardLine)
    → with_open gs (entries ++ entry ∷ []) [] ≡ with_open gs entries [] ++ lines.Entry entry ∷ []
with_entry_lines gs entries entry =
    let one : map lines.Entry (entries ++ entry ∷ []) ++ [] ≡ (map lines.Entry entries ++ []) ++ lines.Entry entry ∷ [] =
    append-nil (map lines.Entry (entries ++ entry ∷ [])) ∙ map_push lines.Entry entries entry
    ∙ ap (λ (ls : List TraceLine). ls ++ lines.Entry entry ∷ []) (sym (append-nil (map lines.Entry entries))) in
    ap (λ (ls : List TraceLine). lines.Trace ∷ (lines_from 0 gs ++ lines.Board (length gs) ∷ ls)) one
    ∙ ap (λ (ls : List TraceLine). lines.Trace ∷ ls) (sym (append_assoc (lines_from 0 gs) (lines.Board (length gs) ∷ (map lines.Entry entries ++ [])) (lines.Entry entry ∷ [])))

entry_adds : (d : Draft) (entry : BoardLine) (e : Draft) → with_entry d entry ≡ Some e → Adds d (lines.Entry entry) e
unfolding with_entry
entry_adds Start entry e h = absurd cc
entry_adds (Whole gs) entry e h = absurd cc
entry_adds (InBoard gs entries) entry e h = ap draft_lines (sym (same_Some (InBoard gs (entries ++ entry ∷ [])) e h)) ∙ with_entry_lines gs entries entry
entry_adds (InChannel gs entries channels worker transfers) entry e h = absurd cc
entry_adds (Ended gs) entry e h = absurd cc

-- what a change of the last channels adds
parts_add : (gs : List Generation) (entries : List BoardLine) (old new : List ChannelPart) (more : List TraceLine)
    → flat_map part_lines new ≡ flat_map part_lines old ++ more → with_open gs entries new ≡ with_open gs entries old ++ more
parts_add gs entries old new more e =
    ap (λ (ls : List TraceLine). lines.Trace ∷ (lines_from 0 gs ++ ((lines.Board (length gs) ∷ map lines.Entry entries) ++ ls))) e
    ∙ ap (λ (ls : List TraceLine). lines.Trace ∷ ls) (regroup (lines_from 0 gs) (lines.Board (length gs) ∷ map lines.Entry entries) (flat_map part_lines old) more)

channel_adds : (d : Draft) (worker : ℕ) (e : Draft) → with_channel d worker ≡ Some e → Adds d (lines.Channel worker) e
unfolding with_channel
channel_adds d worker e h =
    let a = bind_some (opened d) (λ o. Some (InChannel o.generations o.board o.channels worker [])) e h in
    let o = a.0 in
    ap draft_lines (sym (same_Some (InChannel o.generations o.board o.channels worker []) e a.2))
    ∙ parts_add o.generations o.board o.channels (o.channels ++ part worker [] ∷ []) (lines.Channel worker ∷ []) (flat_map-append part_lines o.channels (part worker [] ∷ []))
    ∙ ap (λ (ls : List TraceLine). ls ++ lines.Channel worker ∷ []) (sym (opened_lines d o a.1))

with_transfer_lines : (channels : List ChannelPart) (worker : ℕ) (transfers : List ChannelLine) (transfer : ChannelLine)
    → flat_map part_lines (channels ++ part worker (transfers ++ transfer ∷ []) ∷ []) ≡ flat_map part_lines (channels ++ part worker transfers ∷ []) ++ lines.Transfer transfer ∷ []
with_transfer_lines channels worker transfers transfer =
    let one : map lines.Transfer (transfers ++ transfer ∷ []) ++ [] ≡ (map lines.Transfer transfers ++ []) ++ lines.Transfer transfer ∷ [] =
    append-nil (map lines.Transfer (transfers ++ transfer ∷ [])) ∙ map_push lines.Transfer transfers transfer
    ∙ ap (λ (ls : List TraceLine). ls ++ lines.Transfer transfer ∷ []) (sym (append-nil (map lines.Transfer transfers))) in
    flat_map-append part_lines channels (part worker (transfers ++ transfer ∷ []) ∷ [])
    ∙ ap (λ (ls : List TraceLine). flat_map part_lines channels ++ lines.Channel worker ∷ ls) one
    ∙ sym (append_assoc (flat_map part_lines channels) (lines.Channel worker ∷ (map lines.Transfer transfers ++ [])) (lines.Transfer transfer ∷ []))
    ∙ ap (λ (ls : List TraceLine). ls ++ lines.Transfer transfer ∷ []) (sym (flat_map-append part_lines channels (part worker transfers ∷ [])))

transfer_adds : (d : Draft) (transfer : ChannelLine) (e : Draft) → with_transfer d transfer ≡ Some e → Adds d (lines.Transfer transfer) e
unfolding with_transfer
transfer_adds Start transfer e h = absurd cc
transfer_adds (Whole gs) transfer e h = absurd cc
transfer_adds (InBoard gs entries) transfer e h = absurd cc
transfer_adds (InChannel gs entries channels worker transfers) transfer e h =
    ap draft_lines (sym (same_Some (InChannel gs entries channels worker (transfers ++ transfer ∷ [])) e h))
    ∙ parts_add gs entries (channels ++ part worker transfers ∷ []) (channels ++ part worker (transfers ++ transfer ∷ []) ∷ []) (lines.Transfer transfer ∷ [])
    (with_transfer_lines channels worker transfers transfer)
transfer_adds (Ended gs) transfer e h = absurd cc

next_adds : (d : Draft) (line : TraceLine) (e : Draft) → next d line ≡ Some e → Adds d line e
unfolding next
next_adds d lines.Trace e h = trace_adds d e h
next_adds d (lines.Board number) e h = board_adds d number e h
next_adds d (lines.Entry entry) e h = entry_adds d entry e h
next_adds d (lines.Channel worker) e h = channel_adds d worker e h
next_adds d (lines.Transfer transfer) e h = transfer_adds d transfer e h
next_adds d lines.End e h = end_adds d e h

-- What is read of some lines stands for them.
pub run_adds : (ls : List TraceLine) (d e : Draft) → run d ls ≡ Some e → draft_lines e ≡ draft_lines d ++ ls
run_adds [] d e h = ap draft_lines (sym (same_Some d e h)) ∙ sym (append-nil (draft_lines d))
run_adds (line ∷ ls) d e h =
    let a = bind_some (next d line) (λ f. run f ls) e h in
    run_adds ls a.0 e a.2 ∙ ap (λ (ms : List TraceLine). ms ++ ls) (next_adds d line a.0 a.1) ∙ append_assoc (draft_lines d) (line ∷ []) ls

pub run_then : (xs ys : List TraceLine) (d e : Draft) → run d xs ≡ Some e → run d (xs ++ ys) ≡ run e ys
run_then [] ys d e h = ap (λ (f : Draft). run f ys) (same_Some d e h)
run_then (x ∷ xs) ys d e h =
    let a = bind_some (next d x) (λ f. run f xs) e h in
    ap (λ (o : Option Draft). o >>= λ f. run f (xs ++ ys)) a.1 ∙ run_then xs ys a.0 e a.2

-- ---- a trace's lines are read

entries_run : (more : List BoardLine) (gs : List Generation) (entries : List BoardLine) → run (InBoard gs entries) (map lines.Entry more) ≡ Some (InBoard gs (entries ++ more))
unfolding next with_entry
entries_run [] gs entries = ap (λ (es : List BoardLine). Some (InBoard gs es)) (sym (append-nil entries))
entries_run (x ∷ more) gs entries =
    entries_run more gs (entries ++ x ∷ []) ∙ ap (λ (es : List BoardLine). Some (InBoard gs es)) (append_assoc entries (x ∷ []) more)

transfers_run : (more : List ChannelLine) (gs : List Generation) (entries : List BoardLine) (channels : List ChannelPart) (worker : ℕ) (transfers : List ChannelLine)
    → run (InChannel gs entries channels worker transfers) (map lines.Transfer more) ≡ Some (InChannel gs entries channels worker (transfers ++ more))
unfolding next with_transfer
transfers_run [] gs entries channels worker transfers = ap (λ (ts : List ChannelLine). Some (InChannel gs entries channels worker ts)) (sym (append-nil transfers))
transfers_run (x ∷ more) gs entries channels worker transfers =
    transfers_run more gs entries channels worker (transfers ++ x ∷ []) ∙ ap (λ (ts : List ChannelLine). Some (InChannel gs entries channels worker ts)) (append_assoc transfers (x ∷ []) more)

-- the lines come to a draft whose open generation is this one
abbrev OpensTo : Draft → List TraceLine → LastGeneration → Type 0
OpensTo d ls o = (e : Draft) × (run d ls ≡ Some e) × (opened e ≡ Some o)

abbrev more_parts : LastGeneration → List ChannelPart → LastGeneration
more_parts o ps = open_of o.generations o.board (o.channels ++ ps)

part_runs : (p : ChannelPart) (d : Draft) (o : LastGeneration) → opened d ≡ Some o → OpensTo d (part_lines p) (more_parts o (p ∷ []))
unfolding next with_channel opened
part_runs p d o h =
    let first : next d (lines.Channel p.worker) ≡ Some (InChannel o.generations o.board o.channels p.worker []) =
    ap (λ (x : Option LastGeneration). x >>= λ q. Some (InChannel q.generations q.board q.channels p.worker [])) h in
    let whole : run d (part_lines p) ≡ Some (InChannel o.generations o.board o.channels p.worker p.entries) =
    ap (λ (x : Option Draft). x >>= λ f. run f (map lines.Transfer p.entries)) first ∙ transfers_run p.entries o.generations o.board o.channels p.worker [] in
    (InChannel o.generations o.board o.channels p.worker p.entries, whole, refl)

parts_run : (ps : List ChannelPart) (d : Draft) (o : LastGeneration) → opened d ≡ Some o → OpensTo d (flat_map part_lines ps) (more_parts o ps)
parts_run [] d o h = (d, refl, h ∙ ap (λ (cs : List ChannelPart). Some (open_of o.generations o.board cs)) (sym (append-nil o.channels)))
parts_run (p ∷ ps) d o h =
    let one = part_runs p d o h in
    let rest = parts_run ps one.0 (more_parts o (p ∷ [])) one.2 in (
      rest.0,
      run_then (part_lines p) (flat_map part_lines ps) d one.0 one.1 ∙ rest.1,
      rest.2 ∙ ap (λ (cs : List ChannelPart). Some (open_of o.generations o.board cs)) (append_assoc o.channels (p ∷ []) ps),
    )

pub closed_from_opened : (d : Draft) (o : LastGeneration) → opened d ≡ Some o → closed d ≡ Some (closed_by o)
unfolding opened closed
closed_from_opened Start o h = absurd cc
closed_from_opened (Whole gs) o h = absurd cc
closed_from_opened (InBoard gs entries) o h = ap (λ (x : Option LastGeneration). x >>= λ q. Some (closed_by q)) h
closed_from_opened (InChannel gs entries channels worker transfers) o h = ap (λ (x : Option LastGeneration). x >>= λ q. Some (closed_by q)) h
closed_from_opened (Ended gs) o h = absurd cc

abbrev ClosesTo : Draft → List TraceLine → List Generation → Type 0
ClosesTo d ls gs = (e : Draft) × (run d ls ≡ Some e) × (closed e ≡ Some gs)

generation_runs : (g : Generation) (d : Draft) (gs : List Generation) → closed d ≡ Some gs → ClosesTo d (generation_lines (length gs) g) (gs ++ g ∷ [])
unfolding next with_board opened
generation_runs g d gs h =
    let counted : eqb (length gs) (length gs) ≡ true = eq-eqb (length gs) (length gs) refl in
    let first : next d (lines.Board (length gs)) ≡ Some (InBoard gs []) =
    ap (λ (x : Option (List Generation)). x >>= λ hs. cond (eqb (length hs) (length gs)) (Some (InBoard hs [])) None) h
    ∙ ap (λ (b : Bool). cond b (Some (InBoard gs [])) None) counted in
    let board : run d (lines.Board (length gs) ∷ map lines.Entry g.board) ≡ Some (InBoard gs g.board) =
    ap (λ (x : Option Draft). x >>= λ f. run f (map lines.Entry g.board)) first ∙ entries_run g.board gs [] in
    let parts = parts_run g.channels (InBoard gs g.board) (open_of gs g.board []) refl in (
      parts.0,
      run_then (lines.Board (length gs) ∷ map lines.Entry g.board) (flat_map part_lines g.channels) d (InBoard gs g.board) board ∙ parts.1,
      closed_from_opened parts.0 (open_of gs g.board g.channels) parts.2,
    )

generations_run : (more : List Generation) (d : Draft) (gs : List Generation) → closed d ≡ Some gs → ClosesTo d (lines_from (length gs) more) (gs ++ more)
generations_run [] d gs h = (d, refl, h ∙ ap (λ (hs : List Generation). Some hs) (sym (append-nil gs)))
generations_run (g ∷ more) d gs h =
    let one = generation_runs g d gs h in
    let rest = generations_run more one.0 (gs ++ g ∷ []) one.2 in
    let numbered : lines_from (length gs + 1) more ≡ lines_from (length (gs ++ g ∷ [])) more = ap (λ (k : ℕ). lines_from k more) (sym (length_push gs g)) in (
      rest.0,
      ap (λ (ls : List TraceLine). run d (generation_lines (length gs) g ++ ls)) numbered
          ∙ run_then (generation_lines (length gs) g) (lines_from (length (gs ++ g ∷ [])) more) d one.0 one.1 ∙ rest.1,
      rest.2 ∙ ap (λ (hs : List Generation). Some hs) (append_assoc gs (g ∷ []) more),
    )

-- A trace's lines are read as the trace.
pub trace_runs : (t : Traces) → run Start (trace_lines t) ≡ Some (Ended t.generations)
unfolding next with_trace with_end closed
trace_runs t =
    let all = generations_run t.generations (Whole []) [] refl in
    let last : run all.0 (lines.End ∷ []) ≡ Some (Ended t.generations) =
    ap (λ (x : Option (List Generation)). (x >>= λ gs. Some (Ended gs)) >>= λ f. run f []) all.2 in
    run_then (lines_from 0 t.generations) (lines.End ∷ []) (Whole []) all.0 all.1 ∙ last

-- ---- a draft's lines begin a trace

-- some lines behind which make a trace
pub record Ends (d : Draft) : Type 0 where
  pub t : Traces
  pub others : List TraceLine
  pub fits : AllByRecursion LineFits others
  pub lines : trace_lines t ≡ draft_lines d ++ others

closed_ends : (d : Draft) (gs : List Generation) → closed d ≡ Some gs → Ends d
closed_ends d gs h = record {
  t = record { generations = gs };
  others = lines.End ∷ [];
  fits = (tt, tt);
  lines = ap (λ (ls : List TraceLine). ls ++ lines.End ∷ []) (sym (closed_lines d gs h));
}

pub draft_ends : (d : Draft) → Ends d
unfolding opened closed
draft_ends Start = record { t = record { generations = [] }; others = lines.Trace ∷ lines.End ∷ []; fits = (tt, (tt, tt)); lines = refl }
draft_ends (Whole gs) = closed_ends (Whole gs) gs refl
draft_ends (InBoard gs entries) = closed_ends (InBoard gs entries) (gs ++ generation entries [] ∷ []) refl
draft_ends (InChannel gs entries channels worker transfers) =
    closed_ends (InChannel gs entries channels worker transfers) (gs ++ generation entries (channels ++ part worker transfers ∷ []) ∷ []) refl
draft_ends (Ended gs) = record { t = record { generations = gs }; others = []; fits = tt; lines = sym (append-nil (trace_lines (record { generations = gs }))) }
