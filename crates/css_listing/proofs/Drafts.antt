-- What is read of a code so far stands for lines of its listing.
use Rattle.std.proofs.Common.{◌≡◌, ◌∙◌, ℕ, true, eqb, List, [], ◌∷◌, ◌++◌, length, map, Option, Some, None, is_none, refl, sym, ap, ap₂, arith}
use Rattle.std.specs.List.{flat_map, AllByRecursion}
use Rattle.std.proofs.lemmas.Bool.{and_parts, eqb-true}
use Rattle.std.proofs.lemmas.Option.{same_Some}
use Rattle.std.proofs.lemmas.List.{append-nil, append_assoc, map_push, nil_from_length}
use Rattle.std.proofs.lemmas.List.Concat.{flat_map-append}
use Rattle.css_isa.specs.declared.code.Instr.{Instr}
use Rattle.css_isa.specs.declared.code.TaskShape.{TaskShape}
use Rattle.css_isa.specs.declared.code.Datum.{Datum}
use Rattle.css_isa.specs.declared.code.Function.{Function}
use Rattle.css_isa.specs.declared.code.Code.{Code}
use Rattle.css_isa.specs.declared.space.Width.{Width}
use Rattle.css_traces.specs.Words.{◌>>=◌}
use Rattle.css_traces.proofs.Answers.{bind_some, passed}
use Rattle.css_listing.specs.declared.draft.Draft.{Draft}
use Rattle.css_listing.specs.declared.draft.Draft.TheVariants.{Start, InData, InFunction}
use Rattle.css_listing.specs.declared.listing_line.ListingLine.{ListingLine}
use Rattle.css_listing.specs.declared.listing_line.ListingLine.TheVariants as lines
use Rattle.css_listing.specs.Lines.{task_lines, function_lines, code_lines, LineFits}
use Rattle.css_listing.specs.Reading.{opened, is_bare, as_task, with_instr, with_head, with_data, with_function, with_task, with_body, next, run, finished}

abbrev all_lines : List Function → List ListingLine
all_lines fs = flat_map function_lines fs

abbrev pub draft_lines : Draft → List ListingLine
draft_lines Start = []
draft_lines (InData globals_end main datums) = lines.Head globals_end main ∷ map lines.Data datums
draft_lines (InFunction globals_end main datums functions last) =
    lines.Head globals_end main ∷ map lines.Data datums ++ (all_lines functions ++ function_lines last)

one_more : (fs : List Function) (f : Function) → all_lines (fs ++ f ∷ []) ≡ all_lines fs ++ function_lines f
one_more fs f = flat_map-append function_lines fs (f ∷ []) ∙ ap (λ (ls : List ListingLine). all_lines fs ++ ls) (append-nil (function_lines f))

-- ---- one more line

abbrev Adds : Draft → ListingLine → Draft → Type 0
Adds d line e = draft_lines e ≡ draft_lines d ++ line ∷ []

head_adds : (d : Draft) (globals_end main : ℕ) (e : Draft) → with_head d globals_end main ≡ Some e → Adds d (lines.Head globals_end main) e
unfolding with_head
head_adds Start globals_end main e h = ap draft_lines (sym (same_Some (InData globals_end main []) e h))
head_adds (InData g m ds) globals_end main e h = absurd cc
head_adds (InFunction g m ds fs last) globals_end main e h = absurd cc

data_adds : (d : Draft) (datum : Datum) (e : Draft) → with_data d datum ≡ Some e → Adds d (lines.Data datum) e
unfolding with_data
data_adds Start datum e h = absurd cc
data_adds (InData g m ds) datum e h =
    ap draft_lines (sym (same_Some (InData g m (ds ++ datum ∷ [])) e h)) ∙ ap (λ (ls : List ListingLine). lines.Head g m ∷ ls) (map_push lines.Data ds datum)
data_adds (InFunction g m ds fs last) datum e h = absurd cc

regroup : (a b c d : List ListingLine) → a ++ (b ++ (c ++ d)) ≡ (a ++ (b ++ c)) ++ d
regroup a b c d = simp append_assoc

function_adds : (d : Draft) (f : Function) (line : ListingLine) (e : Draft) → function_lines f ≡ line ∷ [] → with_function d f ≡ Some e → Adds d line e
unfolding with_function
function_adds Start f line e one h = absurd cc
function_adds (InData g m ds) f line e one h =
    ap draft_lines (sym (same_Some (InFunction g m ds [] f) e h)) ∙ ap (λ (ls : List ListingLine). lines.Head g m ∷ map lines.Data ds ++ ls) one
function_adds (InFunction g m ds fs last) f line e one h =
    ap draft_lines (sym (same_Some (InFunction g m ds (fs ++ last ∷ []) f) e h))
    ∙ ap (λ (ls : List ListingLine). lines.Head g m ∷ map lines.Data ds ++ (ls ++ function_lines f)) (one_more fs last)
    ∙ ap (λ (ls : List ListingLine). lines.Head g m ∷ map lines.Data ds ++ ((all_lines fs ++ function_lines last) ++ ls)) one
    ∙ ap (λ (ls : List ListingLine). lines.Head g m ∷ ls) (sym (append_assoc (map lines.Data ds) (all_lines fs ++ function_lines last) (line ∷ [])))

-- a change of the last function
last_adds : (g m : ℕ) (ds : List Datum) (fs : List Function) (old new : Function) (line : ListingLine) → function_lines new ≡ function_lines old ++ line ∷ []
    → draft_lines (InFunction g m ds fs new) ≡ draft_lines (InFunction g m ds fs old) ++ line ∷ []
last_adds g m ds fs old new line e =
    ap (λ (ls : List ListingLine). lines.Head g m ∷ map lines.Data ds ++ (all_lines fs ++ ls)) e
    ∙ ap (λ (ls : List ListingLine). lines.Head g m ∷ ls) (regroup (map lines.Data ds) (all_lines fs) (function_lines old) (line ∷ []))

none_there : (o : Option TaskShape) → is_none o ≡ true → o ≡ None
none_there None e = refl
none_there (Some s) e = absurd cc

bare_lines : (f : Function) → is_bare f ≡ true → function_lines f ≡ lines.Opens f.name f.frame f.params ∷ []
bare_lines f bare =
    let p = and_parts (is_none f.task) (eqb (length f.body) 0) bare in
    ap₂ (λ (o : Option TaskShape) (is : List Instr). lines.Opens f.name f.frame f.params ∷ task_lines o ++ map lines.Instr is)
    (none_there f.task p.0) (nil_from_length f.body (eqb-true (length f.body) 0 p.1))

task_of_bare : (f : Function) (s : TaskShape) → is_bare f ≡ true → function_lines (as_task f s) ≡ function_lines f ++ lines.Task s ∷ []
task_of_bare f s bare =
    let p = and_parts (is_none f.task) (eqb (length f.body) 0) bare in
    ap (λ (is : List Instr). lines.Opens f.name f.frame f.params ∷ lines.Task s ∷ map lines.Instr is) (nil_from_length f.body (eqb-true (length f.body) 0 p.1))
    ∙ ap (λ (ls : List ListingLine). ls ++ lines.Task s ∷ []) (sym (bare_lines f bare))

task_adds : (d : Draft) (s : TaskShape) (e : Draft) → with_task d s ≡ Some e → Adds d (lines.Task s) e
unfolding with_task
task_adds Start s e h = absurd cc
task_adds (InData g m ds) s e h = absurd cc
task_adds (InFunction g m ds fs last) s e h =
    let p = passed (is_bare last) (Some (InFunction g m ds fs (as_task last s))) e h in
    ap draft_lines (sym (same_Some (InFunction g m ds fs (as_task last s)) e p.1)) ∙ last_adds g m ds fs last (as_task last s) (lines.Task s) (task_of_bare last s p.0)

more_body : (f : Function) (i : Instr) → function_lines (with_instr f i) ≡ function_lines f ++ lines.Instr i ∷ []
more_body f i =
    ap (λ (ls : List ListingLine). lines.Opens f.name f.frame f.params ∷ task_lines f.task ++ ls) (map_push lines.Instr f.body i)
    ∙ ap (λ (ls : List ListingLine). lines.Opens f.name f.frame f.params ∷ ls) (sym (append_assoc (task_lines f.task) (map lines.Instr f.body) (lines.Instr i ∷ [])))

body_adds : (d : Draft) (i : Instr) (e : Draft) → with_body d i ≡ Some e → Adds d (lines.Instr i) e
unfolding with_body
body_adds Start i e h = absurd cc
body_adds (InData g m ds) i e h = absurd cc
body_adds (InFunction g m ds fs last) i e h =
    ap draft_lines (sym (same_Some (InFunction g m ds fs (with_instr last i)) e h)) ∙ last_adds g m ds fs last (with_instr last i) (lines.Instr i) (more_body last i)

next_adds : (d : Draft) (line : ListingLine) (e : Draft) → next d line ≡ Some e → Adds d line e
unfolding next
next_adds d (lines.Head globals_end main) e h = head_adds d globals_end main e h
next_adds d (lines.Data datum) e h = data_adds d datum e h
next_adds d (lines.Opens name frame params) e h = function_adds d (opened name frame params) (lines.Opens name frame params) e refl h
next_adds d (lines.Task s) e h = task_adds d s e h
next_adds d (lines.Instr i) e h = body_adds d i e h

-- What is read of some lines stands for them.
pub run_adds : (ls : List ListingLine) (d e : Draft) → run d ls ≡ Some e → draft_lines e ≡ draft_lines d ++ ls
run_adds [] d e h = ap draft_lines (sym (same_Some d e h)) ∙ sym (append-nil (draft_lines d))
run_adds (line ∷ ls) d e h =
    let a = bind_some (next d line) (λ f. run f ls) e h in
    run_adds ls a.0 e a.2 ∙ ap (λ (ms : List ListingLine). ms ++ ls) (next_adds d line a.0 a.1) ∙ append_assoc (draft_lines d) (line ∷ []) ls

pub run_then : (xs ys : List ListingLine) (d e : Draft) → run d xs ≡ Some e → run d (xs ++ ys) ≡ run e ys
run_then [] ys d e h = ap (λ (f : Draft). run f ys) (same_Some d e h)
run_then (x ∷ xs) ys d e h =
    let a = bind_some (next d x) (λ f. run f xs) e h in
    ap (λ (o : Option Draft). o >>= λ f. run f (xs ++ ys)) a.1 ∙ run_then xs ys a.0 e a.2

-- ---- a code's lines are read

datums_run : (more : List Datum) (g m : ℕ) (ds : List Datum) → run (InData g m ds) (map lines.Data more) ≡ Some (InData g m (ds ++ more))
unfolding next with_data
datums_run [] g m ds = ap (λ (es : List Datum). Some (InData g m es)) (sym (append-nil ds))
datums_run (x ∷ more) g m ds = datums_run more g m (ds ++ x ∷ []) ∙ ap (λ (es : List Datum). Some (InData g m es)) (append_assoc ds (x ∷ []) more)

abbrev with_bodies : Function → List Instr → Function
with_bodies f is = record f { body = f.body ++ is }

bodies_run : (more : List Instr) (g m : ℕ) (ds : List Datum) (fs : List Function) (last : Function)
    → run (InFunction g m ds fs last) (map lines.Instr more) ≡ Some (InFunction g m ds fs (with_bodies last more))
unfolding next with_body
bodies_run [] g m ds fs last = ap (λ (is : List Instr). Some (InFunction g m ds fs (record last { body = is }))) (sym (append-nil last.body))
bodies_run (x ∷ more) g m ds fs last =
    bodies_run more g m ds fs (with_instr last x) ∙ ap (λ (is : List Instr). Some (InFunction g m ds fs (record last { body = is }))) (append_assoc last.body (x ∷ []) more)

abbrev of_parts : (name : List ℕ) (frame : ℕ) (params : List Width) → Option TaskShape → List Instr → Function
of_parts name frame params task body = record { name = name; params = params; frame = frame; task = task; body = body }

rest_runs : (task : Option TaskShape) (g m : ℕ) (ds : List Datum) (fs : List Function) (f : Function)
    → run (InFunction g m ds fs (opened f.name f.frame f.params)) (task_lines task ++ map lines.Instr f.body) ≡ Some (InFunction g m ds fs (of_parts f.name f.frame f.params task f.body))
unfolding next with_task
rest_runs None g m ds fs f = bodies_run f.body g m ds fs (opened f.name f.frame f.params)
rest_runs (Some s) g m ds fs f = bodies_run f.body g m ds fs (as_task (opened f.name f.frame f.params) s)

-- a code with one function more
abbrev plus : Code → List Function → Code
plus c fs = record c { functions = c.functions ++ fs }

-- the lines come to a draft that ends as this code
abbrev ClosesTo : Draft → List ListingLine → Code → Type 0
ClosesTo d ls c = (e : Draft) × (run d ls ≡ Some e) × (finished e ≡ Some c)

function_runs : (f : Function) (d : Draft) (c : Code) → finished d ≡ Some c → ClosesTo d (function_lines f) (plus c (f ∷ []))
unfolding next with_function finished
function_runs f Start c h = absurd cc
function_runs f (InData g m ds) c h =
    let is : record { globals_end = g; datums = ds; functions = []; main = m } ≡ c = same_Some _ c h in
    (InFunction g m ds [] f, rest_runs f.task g m ds [] f, ap (λ (x : Code). Some (plus x (f ∷ []))) is)
function_runs f (InFunction g m ds fs last) c h =
    let is : record { globals_end = g; datums = ds; functions = fs ++ last ∷ []; main = m } ≡ c = same_Some _ c h in
    (InFunction g m ds (fs ++ last ∷ []) f, rest_runs f.task g m ds (fs ++ last ∷ []) f, ap (λ (x : Code). Some (plus x (f ∷ []))) is)

functions_run : (more : List Function) (d : Draft) (c : Code) → finished d ≡ Some c → ClosesTo d (all_lines more) (plus c more)
functions_run [] d c h = (d, refl, h ∙ ap (λ (fs : List Function). Some (record c { functions = fs })) (sym (append-nil c.functions)))
functions_run (f ∷ more) d c h =
    let one = function_runs f d c h in
    let rest = functions_run more one.0 (plus c (f ∷ [])) one.2 in (
      rest.0,
      run_then (function_lines f) (all_lines more) d one.0 one.1 ∙ rest.1,
      rest.2 ∙ ap (λ (fs : List Function). Some (record c { functions = fs })) (append_assoc c.functions (f ∷ []) more),
    )

-- A code's lines are read as the code.
pub code_runs : (c : Code) → ClosesTo Start (code_lines c) c
unfolding next with_head finished
code_runs c =
    let datums = datums_run c.datums c.globals_end c.main [] in
    let all = functions_run c.functions (InData c.globals_end c.main c.datums) (record { globals_end = c.globals_end; datums = c.datums; functions = []; main = c.main }) refl in
    (all.0, run_then (map lines.Data c.datums) (all_lines c.functions) (InData c.globals_end c.main []) (InData c.globals_end c.main c.datums) datums ∙ all.1, all.2)

-- ---- a draft's lines begin a listing

pub finished_lines : (d : Draft) (c : Code) → finished d ≡ Some c → code_lines c ≡ draft_lines d
unfolding finished
finished_lines Start c h = absurd cc
finished_lines (InData g m ds) c h =
    ap code_lines (sym (same_Some _ c h)) ∙ ap (λ (ls : List ListingLine). lines.Head g m ∷ ls) (append-nil (map lines.Data ds))
finished_lines (InFunction g m ds fs last) c h =
    ap code_lines (sym (same_Some _ c h)) ∙ ap (λ (ls : List ListingLine). lines.Head g m ∷ map lines.Data ds ++ ls) (one_more fs last)

-- some lines behind which make a listing
pub record Ends (d : Draft) : Type 0 where
  pub c : Code
  pub others : List ListingLine
  pub fits : AllByRecursion LineFits others
  pub lines : code_lines c ≡ draft_lines d ++ others

ended : (d : Draft) (c : Code) → finished d ≡ Some c → Ends d
ended d c h = record { c = c; others = []; fits = tt; lines = finished_lines d c h ∙ sym (append-nil (draft_lines d)) }

pub draft_ends : (d : Draft) → Ends d
unfolding finished
draft_ends Start = record { c = record { globals_end = 0; datums = []; functions = []; main = 0 }; others = lines.Head 0 0 ∷ []; fits = ((omega arith, omega arith), tt); lines = refl }
draft_ends (InData g m ds) = ended (InData g m ds) _ refl
draft_ends (InFunction g m ds fs last) = ended (InFunction g m ds fs last) _ refl
