use Rattle.std.proofs.Common.{◌≡◌, ◌<◌, ◌*◌, [], ◌∷◌, length, get_or, slice_get, sym, ap, subst, ◌∙◌, arith}
use Rattle.std.proofs.lemmas.Option.{slice_get_within}
use Rattle.css_type_table.specs.Lists.{Lists, AreRows, IsRow, elements_of, list_at, lists_of}
use Rattle.css_type_table.proofs.Lists.{row_eq, row_same, row_self, AreRows-insert, insert_kept, insert_longer, insert_list, length-lists_of}
use Rattle.css_type_table.proofs.rows.Rows.number_of.Goals as goal

pub invariant_of-self-2 : goal.invariant_of-self-2
invariant_of-self-2 c =
    let keys = c.self.inside.rows.keys in
    let room : length keys < 4294967295 = omega (arith, c.if-len.false, c.len.ensures.len) in
    let rest : IsRow (lists_of keys) c.args.row.rest = subst (λ (ls : Lists). IsRow ls c.args.row.rest) (sym c.self.view_is) c.requires.rest in
    let elements : c.args.row.elements ≡ c.args.row.count * elements_of (list_at (lists_of keys) c.args.row.rest) =
    subst (λ (ls : Lists). c.args.row.elements ≡ c.args.row.count * elements_of (list_at ls c.args.row.rest)) (sym c.self.view_is) c.requires.elements in
    subst AreRows (sym c.in_ok-number.ensures.keys)
    (AreRows-insert row_eq row_same row_self keys c.args.row c.self.invariant room rest elements c.requires.some c.requires.few)

pub returns-clause-list : goal.returns-clause-list
returns-clause-list c =
    let keys = c.self.inside.rows.keys in
    let room : length keys < 4294967295 = omega (arith, c.if-len.false, c.len.ensures.len) in
    let rest : IsRow (lists_of keys) c.args.row.rest = subst (λ (ls : Lists). IsRow ls c.args.row.rest) (sym c.self.view_is) c.requires.rest in
    let elements : c.args.row.elements ≡ c.args.row.count * elements_of (list_at (lists_of keys) c.args.row.rest) =
    subst (λ (ls : Lists). c.args.row.elements ≡ c.args.row.count * elements_of (list_at ls c.args.row.rest)) (sym c.self.view_is) c.requires.elements in
    let stored = c.in_ok-number.ensures.stored in
    ap (λ ks. get_or (lists_of ks) c.in_ok-number.number []) c.in_ok-number.ensures.keys
    ∙ insert_list row_eq row_same row_self keys c.args.row c.self.invariant room rest elements c.requires.some c.requires.few
    c.in_ok-number.number stored.0 (ap (λ ks. slice_get ks c.in_ok-number.number) (sym c.in_ok-number.ensures.keys) ∙ stored.1) stored.2
    ∙ ap (λ (ls : Lists). c.args.row.count ∷ list_at ls c.args.row.rest) c.self.view_is

pub returns-clause-within : goal.returns-clause-within
returns-clause-within c =
    let stored = c.in_ok-number.ensures.stored in
    let below = slice_get_within c.insert_full.new.self.keys c.in_ok-number.number stored.0 stored.1 in
    omega (arith, below, length-lists_of c.insert_full.new.self.keys)

pub returns-clause-kept : goal.returns-clause-kept
returns-clause-kept c = λ n within.
    let keys = c.self.inside.rows.keys in
    let room : length keys < 4294967295 = omega (arith, c.if-len.false, c.len.ensures.len) in
    let rest : IsRow (lists_of keys) c.args.row.rest = subst (λ (ls : Lists). IsRow ls c.args.row.rest) (sym c.self.view_is) c.requires.rest in
    let elements : c.args.row.elements ≡ c.args.row.count * elements_of (list_at (lists_of keys) c.args.row.rest) =
    subst (λ (ls : Lists). c.args.row.elements ≡ c.args.row.count * elements_of (list_at ls c.args.row.rest)) (sym c.self.view_is) c.requires.elements in
    let view : length (lists_of keys) ≡ length c.args.self.now = ap length c.self.view_is in
    let below : n < length keys = omega (arith, within, view, length-lists_of keys) in
    ap (λ ks. get_or (lists_of ks) n []) c.in_ok-number.ensures.keys
    ∙ insert_kept row_eq row_same row_self keys c.args.row c.self.invariant room rest elements c.requires.some c.requires.few n below
    ∙ ap (λ (ls : Lists). get_or ls n []) c.self.view_is

pub returns-clause-longer : goal.returns-clause-longer
returns-clause-longer c =
    let keys = c.self.inside.rows.keys in
    let room : length keys < 4294967295 = omega (arith, c.if-len.false, c.len.ensures.len) in
    let rest : IsRow (lists_of keys) c.args.row.rest = subst (λ (ls : Lists). IsRow ls c.args.row.rest) (sym c.self.view_is) c.requires.rest in
    let elements : c.args.row.elements ≡ c.args.row.count * elements_of (list_at (lists_of keys) c.args.row.rest) =
    subst (λ (ls : Lists). c.args.row.elements ≡ c.args.row.count * elements_of (list_at ls c.args.row.rest)) (sym c.self.view_is) c.requires.elements in
    let view : length (lists_of keys) ≡ length c.args.self.now = ap length c.self.view_is in
    let more = insert_longer row_eq row_same row_self keys c.args.row c.self.invariant room rest elements c.requires.some c.requires.few in
    let same : length c.insert_full.new.self.keys ≡ _ = ap length c.in_ok-number.ensures.keys in
    omega (arith, more, same, view, length-lists_of keys, length-lists_of c.insert_full.new.self.keys)
