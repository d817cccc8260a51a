-- All that is owed of expressions on the cells that they find, for calls of tasks too.
use Rattle.std.proofs.Common.{◌≡◌, ℕ, suc, ◌+◌, ◌-◌, ◌≤◌, Bool, true, false, if◌then◌else◌, List, [], ◌∷◌, ◌++◌, map, length, Option, Some, None, option_map, IsTrue, refl, sym, ap, ◌∙◌, subst, arith}
use Rattle.std.specs.Prelude.{slice_get, All}
use Rattle.std.proofs.lemmas.Option.{same_Some, slice_get-map}
use Rattle.css_base.specs.declared.int_type.IntType.{IntType}
use Rattle.css_base.specs.declared.int_type.IntType.TheVariants.{UInt}
use Rattle.css_semantics.specs.Dialogue.{Mode, Plain, Waiting, Measuring}
use Rattle.css_core.specs.Core.{Expression, Number, And, Expressions, Empty, More, Part, Scalar, Window, Task, Function}
use Rattle.css_core.specs.Expressions.{is_true}
use Rattle.css_core.specs.Quiet.{is_quiet}
use Rattle.css_core.specs.Typed.{Signature, signature, HasType, IsTyped, count_of, AreDimensions, ArePartsOf, IsTypedFunction}
use Rattle.css_isa.specs.Code.{Code, Routine, all_dimensions}
use Rattle.css_isa.specs.declared.code.Op.TheVariants as ops
use Rattle.css_isa.specs.declared.code.Mark.TheVariants as marks
use Rattle.css_blocks.specs.declared.part.Way.{Way}
use Rattle.css_blocks.specs.Pieces.{Piece, Do, Exit, Invoke, Submit, Ways, at_way, row}
use Rattle.css_blocks.specs.Finds.{Level, level, behind, Finds}
use Rattle.css_gen_expr.specs.declared.aim.Aim.TheVariants.{Used, Tested, Unused}
use Rattle.css_gen_expr.specs.Expressions.{is_turned, sides, side, pieces_of, all_pieces}
use Rattle.css_gen_expr.specs.Tests as tests
use Rattle.css_gen_expr.specs.Calls as code
use Rattle.css_gen_expr.specs.Calls.{shape_of_part, shape_of, no_call, measured, called_as, task_of}
use Rattle.css_gen_expr.specs.Standing.{Stands, HasFunctions, FindTheirCells}
use Rattle.css_gen_expr.proofs.Heights.{Leads, both_lead}
use Rattle.css_gen_expr.proofs.Memory.{For}
use Rattle.css_gen_expr.proofs.Calls.{computed_is_quiet}
use Rattle.css_gen_expr.proofs.Conditions.{parts_typed}
use Rattle.css_gen_expr.proofs.Finding

not_there : {s : Signature} → None ≡ Some s → ⊥
not_there e = cc

module _ (target : Code) (fs : List Function) (has : HasFunctions target fs) (typed : All (IsTypedFunction (map signature fs)) fs) (ls : Ways Level) (line : ℕ) where
  abbrev signatures : List Signature
  signatures = map signature fs

  -- ---- dimensions

  abbrev Lead : Mode → List Piece → ℕ → ℕ → Type 0
  Lead mode = Leads target ls mode

  module _ (types : List IntType) where
    no_calls : For (Measuring []) false → (k : ℕ) (s : Signature) → slice_get signatures k ≡ Some s → (h : ℕ) → Lead (Measuring []) [] (length s.parameters + h) (suc h)
    no_calls f k s e h = cc

    room : (above h : ℕ) → length types ≤ above → above ≤ h → Finding.Room target ls (Measuring []) signatures no_call types line no_calls above h
    room above h given there = record { given = given; there = there }

    dims_typed : (es : Expressions) → AreDimensions signatures types es → Finding.AllTyped target ls (Measuring []) signatures no_call types line no_calls es
    dims_typed Empty h = tt
    dims_typed (More e others) h = ((h.0.0, h.0.1), dims_typed others h.2)

    dims_quiet : (es : Expressions) → AreDimensions signatures types es → Finding.AllFor target ls (Measuring []) signatures no_call types line no_calls es
    dims_quiet Empty h = tt
    dims_quiet (More e others) h = (computed_is_quiet e h.1, dims_quiet others h.2)

    measured_lead : (parts : List Part) (kinds : List IntType) → ArePartsOf signatures types kinds parts → (above h : ℕ) → length types ≤ above → above ≤ h → Lead (Measuring []) (measured signatures line above parts) h (all_dimensions (map shape_of_part parts) + h)
    measured_lead [] [] are above h given there = record { finds = tt; leaves = ap (λ k. level k (Measuring [])) (let none : h ≡ 0 + h = omega arith in none) }
    measured_lead (Scalar ∷ parts) (t ∷ kinds) are above h given there =
        let same : all_dimensions (map shape_of_part parts) + h ≡ 0 + all_dimensions (map shape_of_part parts) + h = omega arith in
        subst (Lead (Measuring []) (measured signatures line above parts) h) same (measured_lead parts kinds are above h given there)
    measured_lead (Window direction element is_strided dims ∷ parts) (t ∷ kinds) are above h given there =
        let more : all_dimensions (map shape_of_part parts) + (count_of dims + h) ≡ count_of dims + all_dimensions (map shape_of_part parts) + h = omega arith in
        let rest = measured signatures line (above + count_of dims) parts in
        both_lead target ls (Measuring []) (all_pieces signatures no_call line above dims) rest h (count_of dims + h) (count_of dims + all_dimensions (map shape_of_part parts) + h)
        (Finding.all_lead target ls (Measuring []) signatures no_call types line no_calls dims (Finding.all_found target ls (Measuring []) signatures no_call types line no_calls dims) (dims_typed dims are.3) (dims_quiet dims are.3) above h (room above h given there))
        (subst (Lead (Measuring []) rest (count_of dims + h)) more (measured_lead parts kinds are.4 (above + count_of dims) (count_of dims + h) (omega (arith, given)) (omega (arith, there))))
    measured_lead [] (t ∷ kinds) are above h given there = absurd are
    measured_lead (part ∷ parts) [] are above h given there = absurd are

  -- ---- calls

  module _ (k : ℕ) (f : Function) (found : slice_get fs k ≡ Some f) (h : ℕ) where
    abbrev count : ℕ
    count = length f.parameters

    routine : Routine
    routine = (has.there k f found).0

    invoke_leads : Lead Plain (Invoke line k count ∷ []) (count + h) (suc h)
    invoke_leads =
        let r = has.there k f found in
        record {
          finds = (((r.0, r.1, r.2), omega arith, refl), tt);
          leaves = ap (λ x. level x Plain) (let one : count + h - count + 1 ≡ suc h = omega arith in one);
        }

    module _ (task : Task) (is : f.task ≡ Some task) where
      abbrev dims : ℕ
      dims = all_dimensions (map shape_of_part task.parts)

      submit_leads : Lead Plain (Submit line k count dims ∷ []) (dims + (count + h)) (suc h)
      submit_leads =
          let r = has.there k f found in
          record {
            finds = (((r.0, shape_of task, r.1, r.2, r.3 ∙ ap (option_map shape_of) is, refl), omega arith), tt);
            leaves = ap (λ x. level x Plain) (let one : dims + (count + h) - (count + dims) + 1 ≡ suc h = omega arith in one);
          }

      abbrev made : List Piece
      made = Do line (ops.Mark marks.InDimension) ∷ (measured signatures line count task.parts ++ Do line (ops.Mark marks.Outside) ∷ Submit line k count (all_dimensions (shape_of task).arguments) ∷ [])

      behind_both : (ps qs : List Piece) (l : Level) → behind target (row (ps ++ qs)) l ≡ behind target (row qs) (behind target (row ps) l)
      behind_both [] qs l = refl
      behind_both (p ∷ ps) qs l = behind_both ps qs (behind target p l)

      finds_both : (ps qs : List Piece) (l : Level) → Finds target ls (row ps) l → Finds target ls (row qs) (behind target (row ps) l) → Finds target ls (row (ps ++ qs)) l
      finds_both [] qs l first second = second
      finds_both (p ∷ ps) qs l first second = (first.0, finds_both ps qs (behind target p l) first.1 second)

      made_leads : Stands target ls (row made) (level (count + h) Plain) (level (suc h) Plain)
      made_leads =
          let ps = measured signatures line count task.parts in
          let qs = Do line (ops.Mark marks.Outside) ∷ Submit line k count dims ∷ [] in
          let inside = measured_lead f.parameters task.parts f.parameters (parts_typed fs typed k f task found is) count (count + h) (omega arith) (omega arith) in
          let rest : Finds target ls (row qs) (level (dims + (count + h)) (Measuring [])) = ((refl, omega arith, tt), submit_leads.finds) in
          record {
            finds = ((refl, omega arith, tt), finds_both ps qs (level (count + h) (Measuring [])) inside.finds (subst (Finds target ls (row qs)) (sym inside.leaves) rest));
            leaves = behind_both ps qs (level (count + h) (Measuring [])) ∙ ap (behind target (row qs)) inside.leaves ∙ submit_leads.leaves;
          }

      task_leads : Lead Plain (called_as signatures line k count (Some task)) (count + h) (suc h)
      task_leads =
          let lower : level (count + h + 1 - 1) Plain ≡ level (count + h) Plain = ap (λ x. level x Plain) (let same : count + h + 1 - 1 ≡ count + h = omega arith in same) in
          let plain = row (Invoke line k count ∷ []) in
          let first = subst (Finds target ls (row made)) (sym lower) made_leads.finds in
          let second = subst (Finds target ls plain) (sym lower) invoke_leads.finds in
          let first_leaves = ap (behind target (row made)) lower ∙ made_leads.leaves in
          let second_leaves = ap (behind target plain) lower ∙ invoke_leads.leaves in
          record {
            finds = ((refl, omega arith, tt), ((omega arith, first, second, second_leaves ∙ sym first_leaves), tt));
            leaves = first_leaves;
          }

    called_lead : (o : Option Task) → f.task ≡ o → Lead Plain (called_as signatures line k count o) (count + h) (suc h)
    called_lead None is = invoke_leads
    called_lead (Some task) is = task_leads task is

  calls_lead : (k : ℕ) (s : Signature) → slice_get signatures k ≡ Some s → (h : ℕ) → Lead Plain (code.called fs line k (length s.parameters)) (length s.parameters + h) (suc h)
  calls_lead k s found h = by (slice_get fs k) refl
    where
      by : (o : Option Function) → slice_get fs k ≡ o → Lead Plain (code.called fs line k (length s.parameters)) (length s.parameters + h) (suc h)
      by None e = absurd (not_there (sym (ap (option_map signature) e) ∙ sym (slice_get-map signature fs k) ∙ found))
      by (Some f) e =
          let same = same_Some (signature f) s (sym (ap (option_map signature) e) ∙ sym (slice_get-map signature fs k) ∙ found) in
          subst (λ s. Lead Plain (code.called fs line k (length s.parameters)) (length s.parameters + h) (suc h)) same
          (subst (λ o. Lead Plain (called_as signatures line k (length f.parameters) (task_of o)) (length f.parameters + h) (suc h)) (sym e) (called_lead k f e h f.task refl))

  -- ---- expressions

  plain_room : (h : ℕ) → Finding.Room target ls Plain signatures (code.called fs) [] line (λ f k s e h. calls_lead k s e h) 0 h
  plain_room h = record { given = omega arith; there = omega arith }

  abbrev at_end : List Piece → ℕ → Level → Type 0
  at_end ps h m = Stands target ls (row ps) (level h Plain) m

  as_stands : (ps : List Piece) (h k : ℕ) → Lead Plain ps h k → Stands target ls (row ps) (level h Plain) (level k Plain)
  as_stands ps h k leads = record { finds = leads.finds; leaves = leads.leaves }

  given_lead : (e : Expression) → IsTyped signatures e → (h : ℕ) → Lead Plain (code.value fs line e) h (suc h)
  given_lead e is h = Finding.found target ls Plain signatures (code.called fs) [] line (λ f k s e h. calls_lead k s e h) e Used 0 h is.0 is.1 tt (plain_room h)

  dropped_lead : (e : Expression) → IsTyped signatures e → (h : ℕ) → Lead Plain (code.unused fs line e) h h
  dropped_lead e is h = Finding.found target ls Plain signatures (code.called fs) [] line (λ f k s e h. calls_lead k s e h) e Unused 0 h is.0 is.1 tt (plain_room h)

  tested_lead : (e : Expression) → IsTyped signatures e → (h : ℕ) → Lead Plain (pieces_of signatures (code.called fs) Tested line 0 e) h (suc h)
  tested_lead e is h = Finding.found target ls Plain signatures (code.called fs) [] line (λ f k s e h. calls_lead k s e h) e Tested 0 h is.0 is.1 tt (plain_room h)

  waited_lead : (e : Expression) → HasType signatures [] e UInt → IsTrue (is_quiet e) → (h : ℕ) → Lead Waiting (code.value fs line e) h (suc h)
  waited_lead e typed_e quiet h = Finding.found target ls Waiting signatures (code.called fs) [] line (λ f k s e h. cc) e Used 0 h UInt typed_e quiet (record { given = omega arith; there = omega arith })

  -- behind a test
  behind_row : (ps qs : List Piece) (l : Level) → behind target (row (ps ++ qs)) l ≡ behind target (row qs) (behind target (row ps) l)
  behind_row [] qs l = refl
  behind_row (p ∷ ps) qs l = behind_row ps qs (behind target p l)

  finds_row : (ps qs : List Piece) (l : Level) → Finds target ls (row ps) l → Finds target ls (row qs) (behind target (row ps) l) → Finds target ls (row (ps ++ qs)) l
  finds_row [] qs l first second = second
  finds_row (p ∷ ps) qs l first second = (first.0, finds_row ps qs (behind target p l) first.1 second)

  behind_test : (e : Expression) → IsTyped signatures e → (p : Piece) (h : ℕ) (m : Level) → Finds target ls p (level (suc h) Plain) → behind target p (level (suc h) Plain) ≡ m
      → Stands target ls (row (pieces_of signatures (code.called fs) Tested line 0 e ++ p ∷ [])) (level h Plain) m
  behind_test e is p h m finds leaves =
      let ps = pieces_of signatures (code.called fs) Tested line 0 e in
      let test = tested_lead e is h in
      record {
        finds = finds_row ps (p ∷ []) (level h Plain) test.finds (subst (Finds target ls (row (p ∷ []))) (sym test.leaves) (finds, tt));
        leaves = behind_row ps (p ∷ []) (level h Plain) ∙ ap (behind target (row (p ∷ []))) test.leaves ∙ leaves;
      }

  lower : (h : ℕ) → level (suc h - 1) Plain ≡ level h Plain
  lower h = ap (λ x. level x Plain) (omega arith)

  chosen : (turned : Bool) (p q : Piece) (h : ℕ) (m : Level) → Stands target ls p (level h Plain) m → Stands target ls q (level h Plain) m → Stands target ls (sides turned line p q) (level (suc h) Plain) m
  chosen turned p q h m first second = by turned
    where
      finds : (p : Piece) → Stands target ls p (level h Plain) m → Finds target ls p (level (suc h - 1) Plain)
      finds p stands = subst (Finds target ls p) (sym (lower h)) stands.finds

      leaves : (p : Piece) → Stands target ls p (level h Plain) m → behind target p (level (suc h - 1) Plain) ≡ m
      leaves p stands = ap (behind target p) (lower h) ∙ stands.leaves

      by : (turned : Bool) → Stands target ls (sides turned line p q) (level (suc h) Plain) m
      by false = record { finds = (omega arith, finds p first, finds q second, leaves q second ∙ sym (leaves p first)); leaves = leaves p first }
      by true = record { finds = (omega arith, finds q second, finds p first, leaves p first ∙ sym (leaves q second)); leaves = leaves q second }

  done_where : (turned : Bool) (p : Piece) (h : ℕ) → Stands target ls p (level h Plain) (level h Plain) → Stands target ls (side turned line p) (level (suc h) Plain) (level h Plain)
  done_where turned p h stands = by turned
    where
      finds : Finds target ls p (level (suc h - 1) Plain)
      finds = subst (Finds target ls p) (sym (lower h)) stands.finds

      leaves : behind target p (level (suc h - 1) Plain) ≡ level h Plain
      leaves = ap (behind target p) (lower h) ∙ stands.leaves

      by : (turned : Bool) → Stands target ls (side turned line p) (level (suc h) Plain) (level h Plain)
      by false = record { finds = (omega arith, finds, leaves ∙ sym (lower h)); leaves = lower h }
      by true = record { finds = (omega arith, tt, finds, leaves ∙ sym (lower h)); leaves = lower h }

  does_plainly : (e : Expression) → IsTyped signatures e → (p : Piece) (h : ℕ) → Stands target ls p (level h Plain) (level h Plain)
      → Stands target ls (row (pieces_of signatures (code.called fs) Tested line 0 e ++ side (is_turned e) line p ∷ [])) (level h Plain) (level h Plain)
  does_plainly e is p h stands = let last = done_where (is_turned e) p h stands in behind_test e is (side (is_turned e) line p) h (level h Plain) last.finds last.leaves

  does : (e : Expression) → IsTyped signatures e → (p : Piece) (h : ℕ) → Stands target ls p (level h Plain) (level h Plain) → Stands target ls (row (code.when fs line e p)) (level h Plain) (level h Plain)
  does (And a b) is p h stands = does a is.1.1 (row (code.when fs line b p)) h (does b is.1.2 p h stands)
  does e is p h stands = does_plainly e is p h stands

  left : (turned : Bool) (way : Way) (h : ℕ) → at_way ls way ≡ level h Plain → Stands target ls (tests.leaves turned line way) (level (suc h) Plain) (level h Plain)
  left false way h out = record { finds = (omega arith, out ∙ sym (lower h)); leaves = lower h }
  left true way h out = record { finds = (omega arith, out ∙ sym (lower h), refl); leaves = lower h }

  parts_plainly : (way : Way) (e : Expression) → IsTyped signatures e → (h : ℕ) → at_way ls way ≡ level h Plain
      → Stands target ls (row (pieces_of signatures (code.called fs) Tested line 0 e ++ tests.leaves (is_turned e) line way ∷ [])) (level h Plain) (level h Plain)
  parts_plainly way e is h out = let last = left (is_turned e) way h out in behind_test e is (tests.leaves (is_turned e) line way) h (level h Plain) last.finds last.leaves

  parts : (way : Way) (e : Expression) → IsTyped signatures e → (h : ℕ) → at_way ls way ≡ level h Plain → Stands target ls (row (code.unless fs line way e)) (level h Plain) (level h Plain)
  parts way (Number v) is h out = by (is_true v)
    where
      by : (b : Bool) → Stands target ls (row (if b then [] else Exit line way ∷ [])) (level h Plain) (level h Plain)
      by true = record { finds = tt; leaves = refl }
      by false = record { finds = (out, tt); leaves = refl }
  parts way (And a b) is h out =
      let first = parts way a is.1.1 h out in
      let second = parts way b is.1.2 h out in
      record {
        finds = finds_row (code.unless fs line way a) (code.unless fs line way b) (level h Plain) first.finds (subst (Finds target ls (row (code.unless fs line way b))) (sym first.leaves) second.finds);
        leaves = behind_row (code.unless fs line way a) (code.unless fs line way b) (level h Plain) ∙ ap (behind target (row (code.unless fs line way b))) first.leaves ∙ second.leaves;
      }
  parts way e is h out = parts_plainly way e is h out

pub find_their_cells : (target : Code) (fs : List Function) → HasFunctions target fs → All (IsTypedFunction (map signature fs)) fs → FindTheirCells target fs
find_their_cells target fs has typed = record {
  gives = λ line e is ls h. as_stands target fs has typed ls line (code.value fs line e) h (suc h) (given_lead target fs has typed ls line e is h);
  waited = λ line e is quiet ls h. let leads = waited_lead target fs has typed ls line e is quiet h in record { finds = leads.finds; leaves = leads.leaves };
  drops = λ line e is ls h. as_stands target fs has typed ls line (code.unused fs line e) h h (dropped_lead target fs has typed ls line e is h);
  chooses = λ line e is p q ls h m first second. let last = chosen target fs has typed ls line (is_turned e) p q h m first second in behind_test target fs has typed ls line e is (sides (is_turned e) line p q) h m last.finds last.leaves;
  does = λ line e is p ls h stands. does target fs has typed ls line e is p h stands;
  parts = λ line way e is ls h out. parts target fs has typed ls line way e is h out;
}
