use Rattle.std.proofs.Common.{◌≡◌, ◌<◌, true≢false, length, sym, ap, subst, arith, inl, inr}
use Rattle.std.proofs.lemmas.Bool.{cases_lt}
use Rattle.std.proofs.lemmas.Option.{slice_get_within}
use Rattle.css_type_table.specs.Lists.{Lists, StandsAt, IsOnce, lists_of}
use Rattle.css_type_table.proofs.Lists.{lists_once, length-lists_of}
use Rattle.css_type_table.proofs.rows.Rows.at.Goals as goal

pub returns-in-Some-clause-found : goal.returns-in-Some-clause-found
returns-in-Some-clause-found c =
    subst (λ (ls : Lists). StandsAt ls c.args.number c.in-Some.row.now) c.self.view_is
    (c.self.invariant.stand c.args.number c.in-Some.row.now (sym c.in-Some.ensures.key))

pub returns-in-Some-clause-within : goal.returns-in-Some-clause-within
returns-in-Some-clause-within c =
    let below : c.args.number < length c.self.inside.rows.keys = slice_get_within c.self.inside.rows.keys c.args.number c.in-Some.row.now (sym c.in-Some.ensures.key) in
    let view : length (lists_of c.self.inside.rows.keys) ≡ length c.args.self.now = ap length c.self.view_is in
    omega (arith, below, view, length-lists_of c.self.inside.rows.keys)

pub returns-in-Some-clause-once : goal.returns-in-Some-clause-once
returns-in-Some-clause-once c = subst IsOnce c.self.view_is (lists_once c.self.inside.rows.keys c.self.invariant)

pub returns-in-None-clause-none : goal.returns-in-None-clause-none
returns-in-None-clause-none c =
    let view : length (lists_of c.self.inside.rows.keys) ≡ length c.args.self.now = ap length c.self.view_is in
    elim (cases_lt c.args.number (length c.self.inside.rows.keys)) [
      | inl below ↦ absurd (true≢false (sym (c.in-None.ensures.found.1 below)))
      | inr past ↦ omega (arith, past, view, length-lists_of c.self.inside.rows.keys)
    ]

pub returns-in-None-clause-once : goal.returns-in-None-clause-once
returns-in-None-clause-once c = subst IsOnce c.self.view_is (lists_once c.self.inside.rows.keys c.self.invariant)
