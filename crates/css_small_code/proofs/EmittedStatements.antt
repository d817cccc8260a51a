-- Emitted pieces of the code of `if` and `while` are their code: each test's jump is written back once its place is known.
use Rattle.std.proofs.Common.{◌≡◌, ℕ, ◌+◌, List, [], ◌∷◌, ◌++◌, length, ap, sym, ◌∙◌, subst, arith, append_assoc, length-append}
use Rattle.std.specs.Prelude.{slice_set}
use Rattle.css_vm.specs.declared.code.Instr.{Instr}
use Rattle.css_vm.specs.declared.code.Op.{Op}
use Rattle.css_vm.specs.declared.code.Op.TheVariants as ops
use Rattle.css_small.specs.Tree.{Expression, Statement, If, IfElse, While, Function}
use Rattle.css_small_code.specs.Code.{in_line, expression_code, statement_code}
use Rattle.css_small_code.proofs.Lines.{in_line-append, length-in_line}
use Rattle.css_small_code.proofs.Emitted.{written_back, patched}

-- the list with these instructions behind it is as long as both
length_behind : (old new more : List Instr) → new ≡ old ++ more → length new ≡ length old + length more
length_behind old new more e = ap length e ∙ length-append old more

module _ (functions : List Function) (line : ℕ) where
  length_line : (old new : List Instr) (all : List Op) → new ≡ old ++ in_line line all → length new ≡ length old + length all
  length_line old new all e = length_behind old new (in_line line all) e ∙ ap (λ n. length old + n) (length-in_line line all)

  -- Behind a list operators of a line with a hole at their end, and more: an operator is written into the hole.
  filled : (old tested whole : List Instr) (front : List Op) (hole op : Op) (place : ℕ) (more : List Instr) → tested ≡ old ++ in_line line (front ++ hole ∷ []) → place + 1 ≡ length tested → whole ≡ tested ++ more →
      patched line whole place op ≡ old ++ (in_line line (front ++ op ∷ []) ++ more)
  filled old tested whole front hole op place more one at two =
      let i : Instr = record { op = hole; line = line } in
      let j : Instr = record { op = op; line = line } in
      let ops_front = in_line line front in
      let held = old ++ ops_front in
      let mid : tested ≡ held ++ i ∷ [] = one ∙ ap (λ is. old ++ is) (in_line-append line front (hole ∷ [])) ∙ sym (append_assoc old ops_front (i ∷ [])) in
      let here : place ≡ length held = omega (arith, at, length_behind held tested (i ∷ []) mid) in
      ap (λ p. slice_set whole p j) here
      ∙ written_back held tested whole more i j mid two
      ∙ append_assoc old ops_front (j ∷ more)
      ∙ ap (λ is. old ++ is) (sym (append_assoc ops_front (j ∷ []) more))
      ∙ ap (λ is. old ++ (is ++ more)) (sym (in_line-append line front (op ∷ [])))

  -- behind a list the condition of a test, and a jump that is still to lead on
  abbrev Tests : List Instr → List Instr → Expression → Type 0
  Tests old tested e = tested ≡ old ++ in_line line (expression_code e (length old) ++ ops.Jumpz 0 ∷ [])

  -- and a statement's code
  abbrev Follows : List Instr → List Instr → Statement → Type 0
  Follows old new s = new ≡ old ++ statement_code functions s (length old)

  length_tested : (old tested : List Instr) (e : Expression) → Tests old tested e → length tested ≡ length old + length (expression_code e (length old)) + 1
  length_tested old tested e h =
      let ce = expression_code e (length old) in
      omega (arith, length_line old tested (ce ++ ops.Jumpz 0 ∷ []) h, length-append ce (ops.Jumpz 0 ∷ []))

  pub if_emitted : (old tested mid new : List Instr) (e : Expression) (s : Statement) (test : ℕ) → Tests old tested e → test + 1 ≡ length tested → Follows tested mid s → new ≡ patched line mid test (ops.Jumpz (length mid)) → Follows old new (If line e s)
  if_emitted old tested mid new e s test first at second last =
      let ce = expression_code e (length old) in
      let cs = statement_code functions s (length tested) in
      let made : new ≡ old ++ (in_line line (ce ++ ops.Jumpz (length mid) ∷ []) ++ cs) =
      last ∙ filled old tested mid ce (ops.Jumpz 0) (ops.Jumpz (length mid)) test cs first at second in
      let with_end = λ (n : ℕ). new ≡ old ++ (in_line line (ce ++ ops.Jumpz n ∷ []) ++ cs) in
      let with_first = λ (p : ℕ). let c = statement_code functions s p in new ≡ old ++ (in_line line (ce ++ ops.Jumpz (p + length c) ∷ []) ++ c) in
      subst with_first (length_tested old tested e first) (subst with_end (length_behind tested mid cs second) made)

  pub if_else_emitted : (old tested mid over all new : List Instr) (e : Expression) (s other : Statement) (test jump : ℕ) → Tests old tested e → test + 1 ≡ length tested → Follows tested mid s → jump ≡ length mid →
      over ≡ patched line mid test (ops.Jumpz (length mid + 1)) ++ in_line line (ops.Jump 0 ∷ []) → Follows over all other → new ≡ patched line all jump (ops.Jump (length all)) → Follows old new (IfElse line e s other)
  if_else_emitted old tested mid over all new e s other test jump first at second at' third fourth last =
      let ce = expression_code e (length old) in
      let cs = statement_code functions s (length tested) in
      let co = statement_code functions other (length over) in
      let to = length mid + 1 in
      let head = in_line line (ce ++ ops.Jumpz to ∷ []) in
      let two = old ++ (head ++ cs) in
      let skip = in_line line (ops.Jump (length all) ∷ []) in
      let filled_test = filled old tested mid ce (ops.Jumpz 0) (ops.Jumpz to) test cs first at second in
      let over_is : over ≡ two ++ in_line line (ops.Jump 0 ∷ []) = third ∙ ap (λ is. is ++ in_line line (ops.Jump 0 ∷ [])) filled_test in
      let length_mid : length mid ≡ length tested + length cs = length_behind tested mid cs second in
      let length_head : length head ≡ length ce + 1 = omega (arith, length-in_line line (ce ++ ops.Jumpz to ∷ []), length-append ce (ops.Jumpz to ∷ [])) in
      let length_two : length two ≡ length mid = omega (arith, length_mid, length_tested old tested e first, length-append old (head ++ cs), length-append head cs, length_head) in
      let length_over : length over ≡ to = omega (arith, length_two, length_line two over (ops.Jump 0 ∷ []) over_is) in
      let made : new ≡ two ++ (skip ++ co) = last ∙ filled two over all [] (ops.Jump 0) (ops.Jump (length all)) jump co over_is (omega (arith, at', length_over)) fourth in
      let grouped : new ≡ old ++ (head ++ cs ++ skip ++ co) = made ∙ append_assoc old (head ++ cs) (skip ++ co) ∙ ap (λ is. old ++ is) (sym (append_assoc (head ++ cs) skip co)) in
      let with_all = λ (n : ℕ). new ≡ old ++ (head ++ cs ++ in_line line (ops.Jump n ∷ []) ++ co) in
      let with_over = λ (p : ℕ). let c = statement_code functions other p in new ≡ old ++ (head ++ cs ++ in_line line (ops.Jump (p + length c) ∷ []) ++ c) in
      let with_to = λ (p : ℕ). let c = statement_code functions other p in new ≡ old ++ (in_line line (ce ++ ops.Jumpz p ∷ []) ++ cs ++ in_line line (ops.Jump (p + length c) ∷ []) ++ c) in
      let with_first = λ (q : ℕ). let b = statement_code functions s q in let p = q + length b + 1 in let c = statement_code functions other p in new ≡ old ++ (in_line line (ce ++ ops.Jumpz p ∷ []) ++ b ++ in_line line (ops.Jump (p + length c) ∷ []) ++ c) in
      subst with_first (length_tested old tested e first)
      (subst with_to (ap (λ n. n + 1) length_mid) (subst with_over length_over (subst with_all (length_behind over all co fourth) grouped)))

  pub while_emitted : (old tested turned mid all new : List Instr) (e : Expression) (s : Statement) (again test : ℕ) → again ≡ length old → Tests old tested e → test + 1 ≡ length tested → turned ≡ tested ++ in_line line (ops.Turn ∷ []) → Follows turned mid s →
      all ≡ mid ++ in_line line (ops.Jump again ∷ []) → new ≡ patched line all test (ops.Jumpz (length all)) → Follows old new (While line e s)
  while_emitted old tested turned mid all new e s again test here first at second third fourth last =
      let ce = expression_code e (length old) in
      let cs = statement_code functions s (length turned) in
      let turn = in_line line (ops.Turn ∷ []) in
      let back = in_line line (ops.Jump again ∷ []) in
      let to = length all in
      let head = in_line line (ce ++ ops.Jumpz to ∷ []) in
      let all_is : all ≡ tested ++ (turn ++ cs ++ back) =
      fourth ∙ ap (λ is. is ++ back) (third ∙ ap (λ is. is ++ cs) second ∙ append_assoc tested turn cs) ∙ append_assoc tested (turn ++ cs) back in
      let made : new ≡ old ++ (head ++ (turn ++ cs ++ back)) = last ∙ filled old tested all ce (ops.Jumpz 0) (ops.Jumpz to) test (turn ++ cs ++ back) first at all_is in
      let both : head ++ turn ≡ in_line line (ce ++ ops.Jumpz to ∷ ops.Turn ∷ []) =
      sym (in_line-append line (ce ++ ops.Jumpz to ∷ []) (ops.Turn ∷ [])) ∙ ap (in_line line) (append_assoc ce (ops.Jumpz to ∷ []) (ops.Turn ∷ [])) in
      let regrouped : head ++ (turn ++ cs ++ back) ≡ in_line line (ce ++ ops.Jumpz to ∷ ops.Turn ∷ []) ++ cs ++ back =
      sym (append_assoc head (turn ++ cs) back) ∙ ap (λ is. is ++ back) (sym (append_assoc head turn cs)) ∙ ap (λ is. is ++ cs ++ back) both in
      let grouped = made ∙ ap (λ is. old ++ is) regrouped in
      let length_turned : length turned ≡ length old + length ce + 2 = omega (arith, length_line tested turned (ops.Turn ∷ []) second, length_tested old tested e first) in
      let length_all : to ≡ length turned + length cs + 1 = omega (arith, length_line mid all (ops.Jump again ∷ []) fourth, length_behind turned mid cs third) in
      let with_all = λ (n : ℕ). new ≡ old ++ (in_line line (ce ++ ops.Jumpz n ∷ ops.Turn ∷ []) ++ cs ++ back) in
      let with_again = λ (n : ℕ). new ≡ old ++ (in_line line (ce ++ ops.Jumpz (length turned + length cs + 1) ∷ ops.Turn ∷ []) ++ cs ++ in_line line (ops.Jump n ∷ [])) in
      let with_turned = λ (p : ℕ). let c = statement_code functions s p in new ≡ old ++ (in_line line (ce ++ ops.Jumpz (p + length c + 1) ∷ ops.Turn ∷ []) ++ c ++ in_line line (ops.Jump (length old) ∷ [])) in
      subst with_turned length_turned (subst with_again here (subst with_all length_all grouped))
