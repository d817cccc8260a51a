-- Emitted pieces of an expression's code are the expression's code.
use Rattle.std.proofs.Common.{◌≡◌, ℕ, ◌+◌, pos, List, [], ◌∷◌, ◌++◌, length, refl, ap, sym, ◌∙◌, subst, arith, append_assoc}
use Rattle.std.specs.Prelude.{slice_set}
use Rattle.std.proofs.Math.Seq.{set-append_seam}
use Rattle.css_num.specs.declared.operators.UnOp.{UnOp}
use Rattle.css_num.specs.declared.operators.BinOp.{BinOp}
use Rattle.css_vm.specs.declared.code.Instr.{Instr}
use Rattle.css_vm.specs.declared.code.Op.{Op}
use Rattle.css_vm.specs.declared.code.Op.TheVariants as ops
use Rattle.css_small.specs.Tree.{Expression, Element, Unary, Binary, And, Or}
use Rattle.css_small_code.specs.Code.{in_line, truth_code, index_code, pointer_code, unary_code, binary_code, expression_code, assignment_code, element_code, element_assignment_code}
use Rattle.css_small_code.specs.Meaning.{place_of}
use Rattle.css_small_code.proofs.Lines.{Emits, emits-length, emits_both}

-- Behind a list an instruction and more: another instruction is written in its place.
pub written_back : (old mid new more : List Instr) (i j : Instr) → mid ≡ old ++ i ∷ [] → new ≡ mid ++ more → slice_set new (length old) j ≡ old ++ j ∷ more
written_back old mid new more i j one two =
    let whole : new ≡ old ++ i ∷ more = two ∙ ap (λ is. is ++ more) one ∙ append_assoc old (i ∷ []) more in
    ap (λ is. slice_set is (length old) j) whole ∙ set-append_seam old i more j

-- another operator at a place
abbrev pub patched : ℕ → List Instr → ℕ → Op → List Instr
patched line code place op = slice_set code place (record { op = op; line = line })

module _ (line : ℕ) where
  -- an expression's code behind a list
  abbrev Follows : List Instr → List Instr → Expression → Type 0
  Follows old new e = new ≡ old ++ in_line line (expression_code e (length old))

  emits : {old new : List Instr} (all : List Op) → new ≡ old ++ in_line line all → Emits line old new all
  emits all e = record { items = e }

  pub unary_emitted : (old mid new : List Instr) (whole e : Expression) (op : UnOp) (behind : List Op) → whole ≡ Unary op e → Follows old mid e → behind ≡ unary_code op → new ≡ mid ++ in_line line behind → Follows old new whole
  unary_emitted old mid new whole e op behind is operand same last =
      let code = expression_code e (length old) in
      let all = emits_both (emits code operand) (emits (unary_code op) (last ∙ ap (λ b. mid ++ in_line line b) same)) in
      subst (Follows old new) (sym is) all.items

  -- the address of an element
  pub element_emitted : (old pointed valued new : List Instr) (e : Expression) → pointed ≡ old ++ in_line line pointer_code → Follows pointed valued e → new ≡ valued ++ in_line line index_code → new ≡ old ++ in_line line (element_code e (length old))
  element_emitted old pointed valued new e first index last =
      let one = emits pointer_code first in
      let all = emits_both (emits_both one (emits (expression_code e (length pointed)) index)) (emits index_code last) in
      let with_place = λ (p : ℕ). new ≡ old ++ in_line line (pointer_code ++ expression_code e p ++ index_code) in
      subst with_place (emits-length one) all.items

  pub load_emitted : (old placed new : List Instr) (whole e : Expression) → whole ≡ Element e → placed ≡ old ++ in_line line (element_code e (length old)) → new ≡ placed ++ in_line line (ops.Load32s ∷ []) → Follows old new whole
  load_emitted old placed new whole e is first last =
      let all = emits_both (emits (element_code e (length old)) first) (emits (ops.Load32s ∷ []) last) in
      subst (Follows old new) (sym is) all.items

  pub element_assignment_emitted : (old placed valued new : List Instr) (i e : Expression) → placed ≡ old ++ in_line line (element_code i (length old)) → Follows placed valued e → new ≡ valued ++ in_line line (ops.Store32 ∷ ops.Drop ∷ []) → new ≡ old ++ in_line line (element_assignment_code i e (length old))
  element_assignment_emitted old placed valued new i e first value last =
      let place = element_code i (length old) in
      let behind = ops.Store32 ∷ ops.Drop ∷ [] in
      let one = emits place first in
      let all = emits_both (emits_both one (emits (expression_code e (length placed)) value)) (emits behind last) in
      let with_place = λ (p : ℕ). new ≡ old ++ in_line line (place ++ expression_code e p ++ behind) in
      subst with_place (emits-length one) all.items

  pub binary_emitted : (old left right new : List Instr) (whole a b : Expression) (op : BinOp) (behind : List Op) → whole ≡ Binary op a b → Follows old left a → Follows left right b → behind ≡ binary_code op → new ≡ right ++ in_line line behind → Follows old new whole
  binary_emitted old left right new whole a b op behind is first second same last =
      let ca = expression_code a (length old) in
      let one = emits ca first in
      let place : length left ≡ length old + length ca = emits-length one in
      let two = emits_both one (emits (expression_code b (length left)) second) in
      let all = emits_both two (emits (binary_code op) (last ∙ ap (λ b. right ++ in_line line b) same)) in
      let whole_at = λ (at : ℕ). new ≡ old ++ in_line line (ca ++ expression_code b at ++ binary_code op) in
      subst (Follows old new) (sym is) (subst whole_at place all.items)

  -- behind a list one instruction, which is patched, and more
  patch : (old mid new : List Instr) (first op : Op) (more : List Op) → mid ≡ old ++ in_line line (first ∷ []) → new ≡ mid ++ in_line line more → Emits line old (patched line new (length old) op) (op ∷ more)
  patch old mid new first op more one two =
      let i : Instr = record { op = first; line = line } in
      let j : Instr = record { op = op; line = line } in
      record { items = written_back old mid new (in_line line more) i j one two }

  pub and_emitted : (old left test right new : List Instr) (whole a b : Expression) (at : ℕ) → whole ≡ And a b → Follows old left a → at ≡ length left → test ≡ left ++ in_line line (ops.Jumpz 0 ∷ []) → Follows test right b →
      (let no = length right + 3 in new ≡ patched line right at (ops.Jumpz no) ++ in_line line (truth_code ++ ops.Jump (no + 1) ∷ ops.Push (pos 0) ∷ [])) → Follows old new whole
  and_emitted old left test right new whole a b at is first place hole second last =
      let ca = expression_code a (length old) in
      let cb = expression_code b (length test) in
      let no = length right + 3 in
      let one = emits ca first in
      let tested = emits (ops.Jumpz 0 ∷ []) hole in
      let end = truth_code ++ ops.Jump (no + 1) ∷ ops.Push (pos 0) ∷ [] in
      let last' : new ≡ patched line right (length left) (ops.Jumpz no) ++ in_line line end = last ∙ ap (λ p. patched line right p (ops.Jumpz no) ++ in_line line end) place in
      let all = emits_both (emits_both one (patch left test right (ops.Jumpz 0) (ops.Jumpz no) cb hole second)) (emits end last') in
      let regrouped = all.items ∙ ap (λ is. old ++ in_line line is) (sym (append_assoc (ca ++ ops.Jumpz no ∷ cb) truth_code (ops.Jump (no + 1) ∷ ops.Push (pos 0) ∷ []))) in
      let place_b : length test ≡ length old + length ca + 1 = omega (arith, emits-length one, emits-length tested) in
      let place_no : no ≡ length old + length ca + 1 + length cb + 3 = omega (arith, place_b, emits-length (emits cb second)) in
      let with_no = λ (n : ℕ). new ≡ old ++ in_line line (ca ++ ops.Jumpz n ∷ cb ++ truth_code ++ ops.Jump (n + 1) ∷ ops.Push (pos 0) ∷ []) in
      let with_b = λ (p : ℕ). let c = expression_code b p in let n = length old + length ca + 1 + length c + 3 in new ≡ old ++ in_line line (ca ++ ops.Jumpz n ∷ c ++ truth_code ++ ops.Jump (n + 1) ∷ ops.Push (pos 0) ∷ []) in
      subst (Follows old new) (sym is) (subst with_b place_b (subst with_no place_no regrouped))

  pub or_emitted : (old left mid right new : List Instr) (whole a b : Expression) (at : ℕ) → whole ≡ Or a b → Follows old left a → at ≡ length left + 2 → mid ≡ left ++ in_line line (ops.Jumpz (length left + 3) ∷ ops.Push (pos 1) ∷ ops.Jump 0 ∷ []) → Follows mid right b →
      new ≡ patched line right at (ops.Jump (length right + 2)) ++ in_line line truth_code → Follows old new whole
  or_emitted old left mid right new whole a b at is first place holes second last =
      let ca = expression_code a (length old) in
      let cb = expression_code b (length mid) in
      let jump = length left + 3 in
      let end = length right + 2 in
      let start = ops.Jumpz jump ∷ ops.Push (pos 1) ∷ [] in
      let front = left ++ in_line line start in
      let one = emits ca first in
      let started : Emits line left front start = record { items = refl } in
      let held : mid ≡ front ++ in_line line (ops.Jump 0 ∷ []) = holes ∙ sym (append_assoc left (in_line line start) (in_line line (ops.Jump 0 ∷ []))) in
      let place' : at ≡ length front = omega (arith, place, emits-length started) in
      let last' : new ≡ patched line right (length front) (ops.Jump end) ++ in_line line truth_code = last ∙ ap (λ p. patched line right p (ops.Jump end) ++ in_line line truth_code) place' in
      let jumps = emits_both started (patch front mid right (ops.Jump 0) (ops.Jump end) cb held second) in
      let all = emits_both (emits_both one jumps) (emits truth_code last') in
      let length_mid : length mid ≡ length left + 3 = emits-length (emits (ops.Jumpz jump ∷ ops.Push (pos 1) ∷ ops.Jump 0 ∷ []) holes) in
      let place_second : length left + 3 ≡ length old + length ca + 3 = omega (arith, emits-length one) in
      let place_end : end ≡ length mid + length cb + 2 = omega (arith, emits-length (emits cb second)) in
      let with_end = λ (n : ℕ). new ≡ old ++ in_line line (ca ++ ops.Jumpz jump ∷ ops.Push (pos 1) ∷ ops.Jump n ∷ cb ++ truth_code) in
      let with_mid = λ (p : ℕ). let c = expression_code b p in new ≡ old ++ in_line line (ca ++ ops.Jumpz jump ∷ ops.Push (pos 1) ∷ ops.Jump (p + length c + 2) ∷ c ++ truth_code) in
      let with_second = λ (p : ℕ). let c = expression_code b p in new ≡ old ++ in_line line (ca ++ ops.Jumpz p ∷ ops.Push (pos 1) ∷ ops.Jump (p + length c + 2) ∷ c ++ truth_code) in
      subst (Follows old new) (sym is) (subst with_second place_second (subst with_mid length_mid (subst with_end place_end all.items)))

  -- an expression's code and more behind it
  pub ended : (old mid new : List Instr) (e : Expression) (behind : List Op) → Follows old mid e → new ≡ mid ++ in_line line behind → new ≡ old ++ in_line line (expression_code e (length old) ++ behind)
  ended old mid new e behind first last = let all = emits_both (emits (expression_code e (length old)) first) (emits behind last) in all.items

  pub assignment_emitted : (old framed valued new : List Instr) (e : Expression) (k at : ℕ) → at ≡ place_of k → framed ≡ old ++ in_line line (ops.Frame at ∷ []) → Follows framed valued e → new ≡ valued ++ in_line line (ops.Store32 ∷ ops.Drop ∷ []) → new ≡ old ++ in_line line (assignment_code k e (length old))
  assignment_emitted old framed valued new e k at is first value last =
      let one = emits (ops.Frame at ∷ []) first in
      let behind = ops.Store32 ∷ ops.Drop ∷ [] in
      let all = emits_both one (emits_both (emits (expression_code e (length framed)) value) (emits behind last)) in
      let with_frame = λ (f : ℕ). new ≡ old ++ in_line line (ops.Frame f ∷ (expression_code e (length framed) ++ behind)) in
      let with_place = λ (p : ℕ). new ≡ old ++ in_line line (ops.Frame (place_of k) ∷ (expression_code e p ++ behind)) in
      subst with_place (emits-length one) (subst with_frame is all.items)
