-- A program's code has the program's dialogue, and each of its functions alone has its own.
use Rattle.std.proofs.Common.{◌≡◌, ℕ, ℤ, pos, Bool, true, false, nat_eq, List, [], ◌∷◌, ◌++◌, length, Some, refl, sym, ap, ◌∙◌, subst}
use Rattle.std.specs.Prelude.{slice_get}
use Rattle.std.proofs.lemmas.Bool.{eqb-true}
use Rattle.css_base.specs.declared.int_type.IntType.TheVariants.{Int}
use Rattle.css_num.specs.Types.{IsInRange}
use Rattle.css_semantics.specs.Dialogue.{Leave, Returns, End, Tape, World, Outcome, Goes, then_do, ask}
use Rattle.css_vm.specs.declared.code.Instr.{Instr}
use Rattle.css_vm.specs.declared.code.Op.TheVariants as ops
use Rattle.css_vm.specs.Code.{Routine, Code, first_line}
use Rattle.css_vm.specs.Cells.{cell_of}
use Rattle.css_vm.specs.Machine as machine
use Rattle.css_vm.specs.Machine.{Halt, Finished, Begin, At, On, on_function, entered, beginning, entry_line, main_ends, body_ends, go_on, exec, target}
use Rattle.css_small.specs.Tree.{Function, Program}
use Rattle.css_small.specs.Numbers.{IsNumbered, HasNumbers}
use Rattle.css_small_code.specs.Code.{statements_code, end_code, function_code, main_code, program_code}
use Rattle.css_small_code.specs.Meaning.{frame_of, Exit, applied, calls, finished, left, main_left, source, alone}
use Rattle.css_small_code.specs.Correct.{SameDialogue, Codes}
use Rattle.css_small_code.proofs.Runs.{Landing, Runs, runs_done, runs_step, runs_as, runs_asks, runs_then, runs_known, runs_ending, then_assoc}
use Rattle.css_small_code.proofs.Ends.{whole, Finishes, same_dialogue}
use Rattle.css_small_code.proofs.Places.{mapped_at, last_at, holds_at}
use Rattle.css_small_code.proofs.Stands.{Stands}
use Rattle.css_small_code.proofs.Steps.{Running, From, runs_quiet}
use Rattle.css_small_code.proofs.Exits.{Exiting, activation_at}
use Rattle.css_small_code.proofs.FirstLines.{entry_if}
use Rattle.css_small_code.proofs.Calls.{body_stands, body_runs, applied_runs, function_runs, calls_run}
use Rattle.css_small_code.proofs.CellsMemory.{int_of-cell}
use Rattle.css_small_code.proofs.Sound.{plans_of, is_sound}
use Rattle.css_small_code.proofs.Results.{ExitsInt, main_exits}

-- ---- the entry

-- code with the entry's code before it begins in the function's line
starts_if : (within : Bool) (line : ℕ) (body : ℕ → List Instr) (last : List Instr) → (within ≡ true → first_line (body 0 ++ last) ≡ line) → first_line (entry_if within line ++ body (length (entry_if within line)) ++ last) ≡ line
starts_if true line body last h = h refl
starts_if false line body last h = refl

starts_in : (fs : List Function) (f : Function) → first_line (main_code fs f).body ≡ f.line
starts_in fs f =
    let first = first_line (statements_code fs f.body 0 ++ end_code f.end) in
    starts_if (nat_eq first f.line) f.line (statements_code fs f.body) (end_code f.end) (eqb-true first f.line)

module _ (w : World) (code : Code) (here : Running code) where
  -- the entry's code does nothing
  entry_runs : {A : Type 0} {n : ℕ} {land : Landing Halt A} {o : Outcome A} (within : Bool) (line : ℕ) (t : Tape) → Stands here.routine.body 0 (entry_if within line) → Runs n (From w code here (length (entry_if within line)) [] t) land o → Runs n (From w code here 0 [] t) land o
  entry_runs true line t h r = r
  entry_runs false line t h r =
      runs_quiet w code here line (ops.Push (pos 0)) 1 (0 ∷ []) h.0 refl (runs_quiet w code here line ops.Drop 2 [] h.1.0 refl r)

-- ---- the first function

module _ (w : World) (code : Code) where
  -- the machine begins with a function, follows it, and ends as is said
  begins_runs : {S : Type 0} (number : ℕ) (r : Routine) (cells : List ℕ) (line n : ℕ) (o : Outcome Exit) (ends : Halt → Tape → Outcome S) → slice_get code.functions number ≡ Some r →
      Runs n (λ k. then_do (entered w r cells line []) (λ base t. exec w code k (At (activation_at w code number false [] r base) [] 0 []) t)) (Exiting w code number false [] r) o →
      Runs n (whole w code (Begin number cells line) ends) (λ k exit t. ends (Finished (cell_of exit.value) exit.base exit.line) t) o
  begins_runs number r cells line n o ends found runs =
      let enters = entered w r cells line [] in
      let after = λ (base : ℕ) (t : Tape). Goes (On (At (activation_at w code number false [] r base) [] 0 [])) t in
      runs_ending ends (runs_step (λ k. then_do enters (λ base t. exec w code k (At (activation_at w code number false [] r base) [] 0 []) t))
      (λ k. ap (λ g. then_do (on_function g [] (λ f. beginning w number f cells line [])) (go_on (exec w code k))) found ∙ then_assoc enters after (go_on (exec w code k))) runs)

-- ---- a function alone

module _ (p : Program) (numbers : HasNumbers p) (w : World) where
  abbrev code : Code
  code = program_code p

  there : (k : ℕ) (f : Function) → slice_get p.functions k ≡ Some f → slice_get code.functions k ≡ Some (function_code f)
  there = mapped_at function_code (main_code p.functions p.main) p.functions

  main_there : slice_get code.functions code.main ≡ Some (main_code p.functions p.main)
  main_there = last_at function_code (main_code p.functions p.main) p.functions

  -- what is known of a function that is there
  known_at : (k : ℕ) (f : Function) → slice_get p.functions k ≡ Some f → IsNumbered 0 f
  known_at k f found = (holds_at (λ f. (f.parameters ≡ 1) × IsNumbered 0 f) p.functions k f numbers.functions found).1

  -- the last actions of a function alone
  alone_ends_runs : (n k frame : ℕ) (exit : Exit) (t : Tape) → machine.frame_of (slice_get code.functions k) ≡ frame → Runs n (λ j. body_ends w (machine.frame_of (slice_get code.functions k)) (Finished (cell_of exit.value) exit.base exit.line) t) (Finishes cell_of)
      (then_do (left w frame exit t) (λ r t'. then_do (ask w Returns exit.line t') (λ r' t''. Goes exit.value t'')))
  alone_ends_runs n k frame exit t same =
      let v = exit.value in
      let last = λ (t' : Tape). then_do (ask w Returns exit.line t') (λ r t''. Goes (Some (cell_of v)) t'') in
      runs_as (λ j. then_do (left w frame exit t) (λ r t'. last t')) (λ j. ap (λ size. body_ends w size (Finished (cell_of v) exit.base exit.line) t) same)
      (runs_then (runs_asks {land = λ j r t'. last t'} (left w frame exit t) (λ j. refl)) (λ r t'.
      runs_then (runs_asks {land = λ j r t''. Goes (Some (cell_of v)) t''} (ask w Returns exit.line t') (λ j. refl)) (λ r' t''. runs_done n (Finishes cell_of) v t'')))

  alone_runs : (k : ℕ) (f : Function) (argument line n : ℕ) → slice_get p.functions k ≡ Some f → Runs n (machine.alone w code k (argument ∷ []) line) (Finishes cell_of) (alone w n f (argument ∷ []) line)
  alone_runs k f argument line n found =
      let ends = body_ends w (machine.frame_of (slice_get code.functions k)) in
      let frame = ap machine.frame_of (there k f found) in
      let call = calls w [] n in
      let begun = begins_runs w code k (function_code f) (argument ∷ []) line n (applied w call n f (argument ∷ []) line []) ends (there k f found)
      (function_runs w code p.functions numbers.functions there k false [] f call n argument argument line [] found (known_at k f found) refl) in
      runs_then begun (λ exit t. alone_ends_runs n k (frame_of f) exit t frame)

  -- ---- main

  -- main's last actions
  main_ends_runs : (n frame : ℕ) (exit : Exit) (t : Tape) → IsInRange Int exit.value → Runs n (λ k. main_ends w frame (Finished (cell_of exit.value) exit.base exit.line) t) (Finishes (λ v. v)) (main_left w frame exit t)
  main_ends_runs n frame exit t int =
      let v = exit.value in
      let line = exit.line in
      let last = λ (u : ℤ) (t' : Tape). then_do (ask w (End u) line t') (λ r t''. Goes (Some u) t'') in
      let leaves = λ (u : ℤ) (t' : Tape). then_do (ask w (Leave exit.base frame) line t') (λ r t''. last u t'') in
      runs_as (λ k. then_do (finished w line t) (λ r t'. leaves v t')) (λ k. ap (λ u. then_do (finished w line t) (λ r t'. leaves u t')) (int_of-cell v int))
      (runs_then (runs_asks {land = λ k r t'. leaves v t'} (finished w line t) (λ k. refl)) (λ r t'.
      runs_then (runs_asks {land = λ k r t''. last v t''} (left w frame exit t') (λ k. refl)) (λ r' t''.
      runs_then (runs_asks {land = λ k r t3. Goes (Some v) t3} (ask w (End v) line t'') (λ k. refl)) (λ r'' t3. runs_done n (Finishes (λ v. v)) v t3))))

  main_runs : (n : ℕ) → Runs n (target w code) (Finishes (λ v. v)) (source w n p)
  main_runs n =
      let f = p.main in
      let r = main_code p.functions f in
      let found = slice_get code.functions code.main in
      let call = calls w p.functions n in
      let starts : entry_line found ≡ f.line = ap entry_line main_there ∙ starts_in p.functions f in
      let frame : machine.frame_of found ≡ frame_of f = ap machine.frame_of main_there in
      let within = nat_eq (first_line (statements_code p.functions f.body 0 ++ end_code f.end)) f.line in
      let entry = entry_if within f.line in
      let parts = body_stands p.functions f entry in
      let begins = λ (line k : ℕ). then_do (entered w r [] line []) (λ base t. exec w code k (At (activation_at w code code.main false [] r base) [] 0 []) t) in
      let runs = applied_runs w code code.main false [] r f call n [] [] f.line [] refl (λ base t. refl) (λ base t.
      let here : Running code = record { activation = activation_at w code code.main false [] r base; callers = []; routine = r; found = main_there } in
      entry_runs w code here within f.line t parts.0 (body_runs w code here p.functions f call n (length entry) t numbers.main.2 parts.1 parts.2 (calls_run w code p.functions numbers.functions there n here))) in
      let exits = Exiting w code code.main false [] r in
      let o = applied w call n f [] f.line [] in
      let begun = begins_runs w code code.main r [] (entry_line found) n o (main_ends w (machine.frame_of found)) main_there (subst (λ line. Runs n (begins line) exits o) (sym starts) runs) in
      runs_known ExitsInt (main_exits w call n (length p.functions) f f.line [] numbers.main.2) begun (λ exit t int.
      runs_as (λ k. main_ends w (frame_of f) (Finished (cell_of exit.value) exit.base exit.line) t) (λ k. ap (λ size. main_ends w size (Finished (cell_of exit.value) exit.base exit.line) t) frame)
      (main_ends_runs n (frame_of f) exit t int))

-- ---- the program

module _ (p : Program) (numbers : HasNumbers p) where
  main_same : (w : World) → SameDialogue (λ fuel. source w fuel p) (target w (program_code p)) (λ v. v)
  main_same w =
      let code = program_code p in
      let found = slice_get code.functions code.main in
      same_dialogue w code (Begin code.main [] (entry_line found)) (main_ends w (machine.frame_of found)) (λ fuel. source w fuel p) (λ v. v) (main_runs p numbers w)

  alone_same : (w : World) (k : ℕ) (f : Function) (argument line : ℕ) → slice_get p.functions k ≡ Some f → SameDialogue (λ fuel. alone w fuel f (argument ∷ []) line) (machine.alone w (program_code p) k (argument ∷ []) line) cell_of
  alone_same w k f argument line found =
      let code = program_code p in
      same_dialogue w code (Begin k (argument ∷ []) line) (body_ends w (machine.frame_of (slice_get code.functions k))) (λ fuel. alone w fuel f (argument ∷ []) line) cell_of (λ n. alone_runs p numbers w k f argument line n found)

  pub codes : Codes (program_code p) p
  codes = record { sound = (plans_of p, is_sound p numbers); main = main_same; functions = alone_same }
