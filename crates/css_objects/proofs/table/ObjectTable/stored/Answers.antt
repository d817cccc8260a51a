use Rattle.std.proofs.Common.{◌+◌, length, MatchOption, subst, arith}
use Rattle.css_objects.specs.Found.{NoneMeets, IsLastMeeting, IsGreatestMeeting, TakesAtMost}
use Rattle.css_objects.specs.Table.{Table, IsTable, windows}
use Rattle.css_objects.proofs.Tables.{one_search}
use Rattle.css_objects.proofs.Stores.{untouched_nothing, found_none, found_row_taken, found_block_taken, row_unwritten, taken_left, taken_rest, untouched_rest}
use Rattle.css_objects.proofs.table.ObjectTable.stored.Goals as goal

pub returns-then-count-eq0-clause-taken : goal.returns-then-count-eq0-clause-taken
returns-then-count-eq0-clause-taken g c =
    rw c.if-count-eq0.true (untouched_nothing c.args.self.now c.args.address)

pub returns-then-count-eq0-clause-rest : goal.returns-then-count-eq0-clause-rest
returns-then-count-eq0-clause-rest g c =
    untouched_rest c.args.self.now c.args.address c.args.count c.args.self.now (returns-then-count-eq0-clause-taken g c)

pub returns-in_err-f-clause-taken : goal.returns-in_err-f-clause-taken
returns-in_err-f-clause-taken g c =
    let t = c.args.self.now in
    let p = c.self.inside in
    let is : IsTable t.rows t.blocks p.written = subst (λ (x : Table). IsTable x.rows x.blocks p.written) c.self.view_is c.self.invariant in
    let row : MatchOption c.last_row_meeting-row.result (NoneMeets (windows t.rows) c.args.address (c.args.address + c.args.count)) (IsLastMeeting (windows t.rows) c.args.address (c.args.address + c.args.count)) =
    subst (λ (x : Table). MatchOption c.last_row_meeting-row.result (NoneMeets (windows x.rows) c.args.address (c.args.address + c.args.count)) (IsLastMeeting (windows x.rows) c.args.address (c.args.address + c.args.count))) c.self.view_is
    (rw (c.from-from.ensures, c.from.ensures) at c.last_row_meeting-row.ensures.found) in
    let block : MatchOption c.last_block_meeting-block.result (NoneMeets (windows t.blocks) c.args.address (c.args.address + c.args.count)) (IsGreatestMeeting (windows t.blocks) c.args.address (c.args.address + c.args.count)) =
    subst (λ (x : Table). MatchOption c.last_block_meeting-block.result (NoneMeets (windows x.blocks) c.args.address (c.args.address + c.args.count)) (IsGreatestMeeting (windows x.blocks) c.args.address (c.args.address + c.args.count))) c.self.view_is
    (rw (c.from-from.ensures, c.from.ensures) at c.last_block_meeting-block.ensures.found) in
    rw c.from_residual.ensures
    (found_none c.args.address c.args.count (omega arith) t.rows t.blocks p.written is c.requires.allowed c.last_row_meeting-row.result c.last_block_meeting-block.result row block c.in_err-f.ensures)

pub returns-in_err-f-clause-rest : goal.returns-in_err-f-clause-rest
returns-in_err-f-clause-rest g c =
    let t = c.args.self.now in
    let p = c.self.inside in
    let is : IsTable t.rows t.blocks p.written = subst (λ (x : Table). IsTable x.rows x.blocks p.written) c.self.view_is c.self.invariant in
    let row : MatchOption c.last_row_meeting-row.result (NoneMeets (windows t.rows) c.args.address (c.args.address + c.args.count)) (IsLastMeeting (windows t.rows) c.args.address (c.args.address + c.args.count)) =
    subst (λ (x : Table). MatchOption c.last_row_meeting-row.result (NoneMeets (windows x.rows) c.args.address (c.args.address + c.args.count)) (IsLastMeeting (windows x.rows) c.args.address (c.args.address + c.args.count))) c.self.view_is
    (rw (c.from-from.ensures, c.from.ensures) at c.last_row_meeting-row.ensures.found) in
    let block : MatchOption c.last_block_meeting-block.result (NoneMeets (windows t.blocks) c.args.address (c.args.address + c.args.count)) (IsGreatestMeeting (windows t.blocks) c.args.address (c.args.address + c.args.count)) =
    subst (λ (x : Table). MatchOption c.last_block_meeting-block.result (NoneMeets (windows x.blocks) c.args.address (c.args.address + c.args.count)) (IsGreatestMeeting (windows x.blocks) c.args.address (c.args.address + c.args.count))) c.self.view_is
    (rw (c.from-from.ensures, c.from.ensures) at c.last_block_meeting-block.ensures.found) in
    rw c.from_residual.ensures
    (untouched_rest t c.args.address c.args.count t
    (found_none c.args.address c.args.count (omega arith) t.rows t.blocks p.written is c.requires.allowed c.last_row_meeting-row.result c.last_block_meeting-block.result row block c.in_err-f.ensures))

pub returns-in_err-f-clause-cost : goal.returns-in_err-f-clause-cost
returns-in_err-f-clause-cost g c =
    let t = c.self.inside in
    subst (λ (x : Table). TakesAtMost (length x.rows) (length x.blocks) 1 c.args.steps.now c.last_block_meeting-block.new.steps) c.self.view_is
    (one_search (length t.rows) (length t.rows) (length t.blocks) c.args.steps.now c.last_row_meeting-row.new.steps c.last_block_meeting-block.new.steps (omega arith)
    c.last_row_meeting-row.ensures.cost c.last_block_meeting-block.ensures.cost)

pub take_row-requires-clause-unwritten : goal.take_row-requires-clause-unwritten
take_row-requires-clause-unwritten g c =
    let t = c.args.self.now in
    let p = c.self.inside in
    let is : IsTable t.rows t.blocks p.written = subst (λ (x : Table). IsTable x.rows x.blocks p.written) c.self.view_is c.self.invariant in
    let row : MatchOption c.last_row_meeting-row.result (NoneMeets (windows t.rows) c.args.address (c.args.address + c.args.count)) (IsLastMeeting (windows t.rows) c.args.address (c.args.address + c.args.count)) =
    subst (λ (x : Table). MatchOption c.last_row_meeting-row.result (NoneMeets (windows x.rows) c.args.address (c.args.address + c.args.count)) (IsLastMeeting (windows x.rows) c.args.address (c.args.address + c.args.count))) c.self.view_is
    (rw (c.from-from.ensures, c.from.ensures) at c.last_row_meeting-row.ensures.found) in
    let block : MatchOption c.last_block_meeting-block.result (NoneMeets (windows t.blocks) c.args.address (c.args.address + c.args.count)) (IsGreatestMeeting (windows t.blocks) c.args.address (c.args.address + c.args.count)) =
    subst (λ (x : Table). MatchOption c.last_block_meeting-block.result (NoneMeets (windows x.blocks) c.args.address (c.args.address + c.args.count)) (IsGreatestMeeting (windows x.blocks) c.args.address (c.args.address + c.args.count))) c.self.view_is
    (rw (c.from-from.ensures, c.from.ensures) at c.last_block_meeting-block.ensures.found) in
    row_unwritten c.args.address c.args.count (omega arith) t.rows t.blocks p.written is c.requires.allowed c.last_row_meeting-row.result c.last_block_meeting-block.result row block
    c.in-Row.f (rw c.in-Row.is at c.in_ok-f.ensures)

pub returns-in-Row-clause-taken : goal.returns-in-Row-clause-taken
returns-in-Row-clause-taken g c =
    let t = c.args.self.now in
    let p = c.self.inside in
    let is : IsTable t.rows t.blocks p.written = subst (λ (x : Table). IsTable x.rows x.blocks p.written) c.self.view_is c.self.invariant in
    let row : MatchOption c.last_row_meeting-row.result (NoneMeets (windows t.rows) c.args.address (c.args.address + c.args.count)) (IsLastMeeting (windows t.rows) c.args.address (c.args.address + c.args.count)) =
    subst (λ (x : Table). MatchOption c.last_row_meeting-row.result (NoneMeets (windows x.rows) c.args.address (c.args.address + c.args.count)) (IsLastMeeting (windows x.rows) c.args.address (c.args.address + c.args.count))) c.self.view_is
    (rw (c.from-from.ensures, c.from.ensures) at c.last_row_meeting-row.ensures.found) in
    let block : MatchOption c.last_block_meeting-block.result (NoneMeets (windows t.blocks) c.args.address (c.args.address + c.args.count)) (IsGreatestMeeting (windows t.blocks) c.args.address (c.args.address + c.args.count)) =
    subst (λ (x : Table). MatchOption c.last_block_meeting-block.result (NoneMeets (windows x.blocks) c.args.address (c.args.address + c.args.count)) (IsGreatestMeeting (windows x.blocks) c.args.address (c.args.address + c.args.count))) c.self.view_is
    (rw (c.from-from.ensures, c.from.ensures) at c.last_block_meeting-block.ensures.found) in
    found_row_taken c.args.address c.args.count (omega arith) t.rows t.blocks p.written is c.requires.allowed c.last_row_meeting-row.result c.last_block_meeting-block.result row block
    c.in-Row.f c.take_row.new.self (rw c.in-Row.is at c.in_ok-f.ensures) c.take_row.ensures.rows c.take_row.ensures.blocks

pub returns-in-Row-clause-left : goal.returns-in-Row-clause-left
returns-in-Row-clause-left g c = taken_left c.args.self.now c.args.address c.args.count c.take_row.new.self c.in-Row.f.window (returns-in-Row-clause-taken g c)

pub returns-in-Row-clause-rest : goal.returns-in-Row-clause-rest
returns-in-Row-clause-rest g c = taken_rest c.args.self.now c.args.address c.args.count c.take_row.new.self c.in-Row.f.window (returns-in-Row-clause-taken g c)

pub returns-in-Row-clause-cost : goal.returns-in-Row-clause-cost
returns-in-Row-clause-cost g c =
    let t = c.self.inside in
    subst (λ (x : Table). TakesAtMost (length x.rows) (length x.blocks) 1 c.args.steps.now c.last_block_meeting-block.new.steps) c.self.view_is
    (one_search (length t.rows) (length t.rows) (length t.blocks) c.args.steps.now c.last_row_meeting-row.new.steps c.last_block_meeting-block.new.steps (omega arith)
    c.last_row_meeting-row.ensures.cost c.last_block_meeting-block.ensures.cost)

pub returns-in-Block-clause-taken : goal.returns-in-Block-clause-taken
returns-in-Block-clause-taken g c =
    let t = c.args.self.now in
    let p = c.self.inside in
    let is : IsTable t.rows t.blocks p.written = subst (λ (x : Table). IsTable x.rows x.blocks p.written) c.self.view_is c.self.invariant in
    let row : MatchOption c.last_row_meeting-row.result (NoneMeets (windows t.rows) c.args.address (c.args.address + c.args.count)) (IsLastMeeting (windows t.rows) c.args.address (c.args.address + c.args.count)) =
    subst (λ (x : Table). MatchOption c.last_row_meeting-row.result (NoneMeets (windows x.rows) c.args.address (c.args.address + c.args.count)) (IsLastMeeting (windows x.rows) c.args.address (c.args.address + c.args.count))) c.self.view_is
    (rw (c.from-from.ensures, c.from.ensures) at c.last_row_meeting-row.ensures.found) in
    let block : MatchOption c.last_block_meeting-block.result (NoneMeets (windows t.blocks) c.args.address (c.args.address + c.args.count)) (IsGreatestMeeting (windows t.blocks) c.args.address (c.args.address + c.args.count)) =
    subst (λ (x : Table). MatchOption c.last_block_meeting-block.result (NoneMeets (windows x.blocks) c.args.address (c.args.address + c.args.count)) (IsGreatestMeeting (windows x.blocks) c.args.address (c.args.address + c.args.count))) c.self.view_is
    (rw (c.from-from.ensures, c.from.ensures) at c.last_block_meeting-block.ensures.found) in
    found_block_taken c.args.address c.args.count (omega arith) t.rows t.blocks p.written is c.requires.allowed c.last_row_meeting-row.result c.last_block_meeting-block.result row block
    c.in-Block.f c.take_block.new.self (rw c.in-Block.is at c.in_ok-f.ensures) c.take_block.ensures.rows c.take_block.ensures.blocks

pub returns-in-Block-clause-left : goal.returns-in-Block-clause-left
returns-in-Block-clause-left g c = taken_left c.args.self.now c.args.address c.args.count c.take_block.new.self c.in-Block.f.window (returns-in-Block-clause-taken g c)

pub returns-in-Block-clause-rest : goal.returns-in-Block-clause-rest
returns-in-Block-clause-rest g c = taken_rest c.args.self.now c.args.address c.args.count c.take_block.new.self c.in-Block.f.window (returns-in-Block-clause-taken g c)

pub returns-in-Block-clause-cost : goal.returns-in-Block-clause-cost
returns-in-Block-clause-cost g c =
    let t = c.self.inside in
    subst (λ (x : Table). TakesAtMost (length x.rows) (length x.blocks) 1 c.args.steps.now c.last_block_meeting-block.new.steps) c.self.view_is
    (one_search (length t.rows) (length t.rows) (length t.blocks) c.args.steps.now c.last_row_meeting-row.new.steps c.last_block_meeting-block.new.steps (omega arith)
    c.last_row_meeting-row.ensures.cost c.last_block_meeting-block.ensures.cost)
