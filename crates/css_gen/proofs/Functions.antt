-- Functions, calls and programs of the core mean what their structured code does.
use Rattle.std.proofs.Common.{◌≡◌, ℕ, zero, suc, ◌+◌, ◌%◌, ◌^◌, ℤ, pos, Bool, true, false, not, ◌||◌, if◌then◌else◌, List, [], ◌∷◌, map, length, Option, Some, None, is_none, option_map, refl, sym, ap, ◌∙◌, subst, IfSome}
use Rattle.std.specs.Prelude.{slice_get, nat_eq}
use Rattle.css_base.specs.declared.int_type.IntType.{IntType}
use Rattle.css_num.specs.Conversion.{representation}
use Rattle.css_semantics.specs.Dialogue.{Argument, Enter, Leave, Store, Calls, Returns, World, Tape, Outcome, Goes, Stops, Tired, then_do, Plain, ask}
use Rattle.css_semantics.specs.Tasks.{makes_tasks}
use Rattle.css_core.specs.Core as core
use Rattle.css_core.specs.Core.{Expression, Task}
use Rattle.css_core.specs.Typed.{Signature, signature, IsTaskOf, IsTypedFunction, IsTypedProgram}
use Rattle.css_core.specs.Expressions.{Calling, bytes_of}
use Rattle.css_core.specs.Statements.{Flow, Next, Broke, Continued, Returned, meanings}
use Rattle.css_core.specs.Functions as source
use Rattle.css_core.specs.Functions.{Exit, exit_by, plain_call, pointers, task_body, called_as, spent_as}
use Rattle.css_core.proofs.Leaving.{Comes}
use Rattle.css_core.proofs.InRange.{typed_at}
use Rattle.css_core.proofs.TaskValues.{EndsWithZero, zero_applied}
use Rattle.css_isa.specs.Code as coded
use Rattle.css_isa.specs.Code.{pointers_of, narrowed_to, all_dimensions}
use Rattle.css_isa.specs.Cells.{cell_of}
use Rattle.css_isa.specs.Steps as machine
use Rattle.css_isa.specs.Steps.{Halt, Finished, Stuck, entered}
use Rattle.css_blocks.specs.declared.part.Way.{Way}
use Rattle.css_blocks.specs.Pieces.{Piece}
use Rattle.css_blocks.specs.Meaning as meaning
use Rattle.css_blocks.specs.Meaning.{Exits, means}
use Rattle.css_blocks.specs.Layout.{Function, Program, routine_of}
use Rattle.css_blocks.specs.Programs as blocks
use Rattle.css_blocks.specs.Programs.{returned, gone, calls_of}
use Rattle.css_gen_expr.specs.Calls.{given, Agrees, width_of, shape_of, shape_of_part}
use Rattle.css_gen_expr.proofs.Cells.{same_bytes}
use Rattle.css_gen.proofs.Values.{scalar_of-cell}
use Rattle.css_gen.specs.Statements.{pieces_of, exits_of}

-- ---- outcomes

-- where a value has a property, what comes behind it may use that
pub then_where : {A B : Type 0} (P : A → Type 0) (o : Outcome A) {f g : A → Tape → Outcome B} → Comes P o → ((a : A) (t : Tape) → P a → f a t ≡ g a t) → then_do o f ≡ then_do o g
then_where P (Goes a t) h e = e a t h
then_where P (Stops why t) h e = refl

-- ---- functions

-- how a function ends
abbrev pub halt_of : Exit → Halt
halt_of exit = Finished (cell_of exit.value) exit.base exit.line

same_halt : (base end : ℕ) (flow : Flow) → returned end base (exits_of flow) ≡ halt_of (exit_by base end flow)
same_halt base end Next = refl
same_halt base end Broke = refl
same_halt base end Continued = refl
same_halt base end (Returned v line) = refl

module _ (w : World) where
  stores_mean : (place : ℕ) (types : List IntType) (vs : List ℤ) (line : ℕ) (t : Tape) → machine.stores w place (map width_of types) (map cell_of vs) line t ≡ source.stores w place types vs line t
  stores_mean place [] vs line t = refl
  stores_mean place (kind ∷ types) [] line t = refl
  stores_mean place (kind ∷ types) (v ∷ vs) line t =
      ap (λ bs. then_do (ask w (Store (place % 2 ^ 32) bs) line t) (λ r t'. machine.stores w (place + 8) (map width_of types) (map cell_of vs) line t')) (same_bytes kind v)
      ∙ behind (ask w (Store (place % 2 ^ 32) (bytes_of kind v)) line t) (stores_mean (place + 8) types vs line)
    where
      behind : (o : Outcome ℕ) → ((t : Tape) → machine.stores w (place + 8) (map width_of types) (map cell_of vs) line t ≡ source.stores w (place + 8) types vs line t)
          → then_do o (λ r t'. machine.stores w (place + 8) (map width_of types) (map cell_of vs) line t') ≡ then_do o (λ r t'. source.stores w (place + 8) types vs line t')
      behind (Goes r t') same = same t'
      behind (Stops why t') same = refl

  -- a function whose piece has its body's meaning
  module _ (calls : meaning.Calls) (call : Calling) (n : ℕ) (f : core.Function) (g : Function) (frame : g.frame ≡ f.frame) (parameters : g.parameters ≡ map width_of f.parameters) (end : g.end ≡ f.end)
      (runs : (base : ℕ) (t : Tape) → means w calls n base g.body Plain [] t ≡ then_do (meanings w call base n f.body t) (λ flow t'. Goes (exits_of flow) t')) where
    body_ends : (base : ℕ) (o : Outcome Flow) → then_do (then_do o (λ flow t'. Goes (exits_of flow) t')) (λ e t'. Goes (returned g.end base e) t') ≡ then_do (then_do o (λ flow t'. Goes (exit_by base f.end flow) t')) (λ e t'. Goes (halt_of e) t')
    body_ends base (Goes flow t') = ap (λ l. Goes (returned l base (exits_of flow)) t') end ∙ ap (λ h. Goes h t') (same_halt base f.end flow)
    body_ends base (Stops why t') = refl

    stored : (base : ℕ) (o : Outcome ℕ) → then_do (then_do o (λ r t'. Goes base t')) (λ b t'. then_do (means w calls n b g.body Plain [] t') (λ e t''. Goes (returned g.end b e) t''))
        ≡ then_do (then_do o (λ r t'. then_do (meanings w call base n f.body t') (λ flow t''. Goes (exit_by base f.end flow) t''))) (λ e t'. Goes (halt_of e) t')
    stored base (Goes r t') = ap (λ o. then_do o (λ e t''. Goes (returned g.end base e) t'')) (runs base t') ∙ body_ends base (meanings w call base n f.body t')
    stored base (Stops why t') = refl

    pub applied_means : (vs : List ℤ) (line : ℕ) (t : Tape) → blocks.applied w calls n g (map cell_of vs) line t ≡ then_do (source.applied w call n f vs line t) (λ e t'. Goes (halt_of e) t')
    applied_means vs line t =
        ap (λ size. then_do (then_do (ask w (Enter size) line t) (λ base t'. then_do (machine.stores w base g.parameters (map cell_of vs) line t') (λ r t''. Goes base t''))) (λ b t'. then_do (means w calls n b g.body Plain [] t') (λ e t''. Goes (returned g.end b e) t''))) frame
        ∙ ap (λ ps. then_do (then_do (ask w (Enter f.frame) line t) (λ base t'. then_do (machine.stores w base ps (map cell_of vs) line t') (λ r t''. Goes base t''))) (λ b t'. then_do (means w calls n b g.body Plain [] t') (λ e t''. Goes (returned g.end b e) t''))) parameters
        ∙ entering (ask w (Enter f.frame) line t)
      where
        entering : (o : Outcome ℕ) → then_do (then_do o (λ base t'. then_do (machine.stores w base (map width_of f.parameters) (map cell_of vs) line t') (λ r t''. Goes base t''))) (λ b t'. then_do (means w calls n b g.body Plain [] t') (λ e t''. Goes (returned g.end b e) t''))
            ≡ then_do (then_do o (λ base t'. then_do (source.stores w base f.parameters vs line t') (λ r t''. then_do (meanings w call base n f.body t'') (λ flow t'''. Goes (exit_by base f.end flow) t''')))) (λ e t'. Goes (halt_of e) t')
        entering (Goes base t') =
            ap (λ o. then_do (then_do o (λ r t''. Goes base t'')) (λ b t''. then_do (means w calls n b g.body Plain [] t'') (λ e t'''. Goes (returned g.end b e) t'''))) (stores_mean base f.parameters vs line t')
            ∙ stored base (source.stores w base f.parameters vs line t')
        entering (Stops why t') = refl

    -- a plain call
    leaves_plain : (o : Outcome Exit) → then_do (then_do o (λ e t'. Goes (halt_of e) t')) (gone w g.frame false) ≡ then_do (then_do o (source.left w f.frame)) given
    leaves_plain (Goes e t') = ap (λ size. then_do (then_do {B = ℕ} (ask w (Leave e.base size) e.line t') (λ r t''. Goes 0 t'')) (λ r t''. Goes (Some (cell_of e.value)) t'')) frame ∙ by (ask w (Leave e.base f.frame) e.line t')
      where
        by : (o : Outcome ℕ) → then_do (then_do {B = ℕ} o (λ r t''. Goes 0 t'')) (λ r t''. Goes (Some (cell_of e.value)) t'') ≡ then_do (then_do o (λ r t''. Goes e.value t'')) given
        by (Goes r t'') = refl
        by (Stops why t'') = refl
    leaves_plain (Stops why t') = refl

    pub plain_means : (vs : List ℤ) (line : ℕ) (t : Tape) → then_do (blocks.applied w calls n g (map cell_of vs) line t) (gone w g.frame false) ≡ then_do (plain_call w call n f vs line t) given
    plain_means vs line t = ap (λ o. then_do o (gone w g.frame false)) (applied_means vs line t) ∙ leaves_plain (source.applied w call n f vs line t)

    -- a task's body, whose value is 0
    leaves_task : (o : Outcome Exit) → Comes EndsWithZero o
        → then_do (then_do o (λ e t'. Goes (halt_of e) t')) (gone w g.frame true) ≡ then_do (then_do o (λ e t'. then_do (source.left w f.frame e t') (λ v t''. then_do (ask w Returns e.line t'') (λ r t'''. Goes v t''')))) given
    leaves_task (Goes e t') zeroed =
        ap (λ size. then_do (then_do (ask w (Leave e.base size) e.line t') (λ r t''. ask w Returns e.line t'')) (λ r t''. Goes (Some 0) t'')) frame
        ∙ by (ask w (Leave e.base f.frame) e.line t')
      where
        told_back : (o : Outcome ℕ) → then_do o (λ r t''. Goes (Some 0) t'') ≡ then_do (then_do o (λ r t''. Goes e.value t'')) given
        told_back (Goes r t'') = ap (λ v. Goes (Some (cell_of v)) t'') (sym zeroed)
        told_back (Stops why t'') = refl

        by : (o : Outcome ℕ) → then_do (then_do o (λ r t''. ask w Returns e.line t'')) (λ r t''. Goes (Some 0) t'') ≡ then_do (then_do (then_do o (λ r t''. Goes e.value t'')) (λ v t''. then_do (ask w Returns e.line t'') (λ r t'''. Goes v t'''))) given
        by (Goes r t'') = told_back (ask w Returns e.line t'')
        by (Stops why t'') = refl
    leaves_task (Stops why t') zeroed = refl

    pub task_means : ((vs : List ℤ) (line : ℕ) (t : Tape) → Comes EndsWithZero (source.applied w call n f vs line t)) → (vs : List ℤ) (line reply : ℕ) (t : Tape)
        → blocks.behind_call w calls n g (map cell_of vs) line reply t ≡ then_do (task_body w call n f vs line reply t) given
    task_means zeroed vs line zero t = by (ask w Returns line t)
      where
        by : (o : Outcome ℕ) → then_do o (λ r t'. Goes (Some 0) t') ≡ then_do (then_do o (λ r t'. Goes (pos 0) t')) given
        by (Goes r t') = refl
        by (Stops why t') = refl
    task_means zeroed vs line (suc reply) t = ap (λ o. then_do o (gone w g.frame true)) (applied_means vs line t) ∙ leaves_task (source.applied w call n f vs line t) (zeroed vs line t)

-- ---- calls of tasks

-- what a task is given, and who calls it
scalars_same : (types : List IntType) (parts : List core.Part) (vs : List ℤ)
    → coded.scalars_of (map shape_of_part parts) (narrowed_to (map width_of types) (map cell_of vs)) ≡ source.scalars types parts vs
scalars_same [] [] vs = refl
scalars_same [] (core.Scalar ∷ parts) vs = refl
scalars_same [] (core.Window direction element is_strided dimensions ∷ parts) vs = refl
scalars_same (t ∷ types) [] [] = refl
scalars_same (t ∷ types) [] (v ∷ vs) = refl
scalars_same (t ∷ types) (core.Scalar ∷ parts) [] = refl
scalars_same (t ∷ types) (core.Window direction element is_strided dimensions ∷ parts) [] = refl
scalars_same (t ∷ types) (core.Scalar ∷ parts) (v ∷ vs) =
    ap (λ x. x ∷ coded.scalars_of (map shape_of_part parts) (narrowed_to (map width_of types) (map cell_of vs))) (scalar_of-cell t v)
    ∙ ap (λ xs. representation t v ∷ xs) (scalars_same types parts vs)
scalars_same (t ∷ types) (core.Window direction element is_strided dimensions ∷ parts) (v ∷ vs) = scalars_same types parts vs

-- a function that was made of one of the core
pub record IsMade (f : core.Function) (g : Function) : Type 0 where
  pub frame : g.frame ≡ f.frame
  pub parameters : g.parameters ≡ map width_of f.parameters
  pub task : g.task ≡ option_map shape_of f.task
  pub end : g.end ≡ f.end

same_call : (k : ℕ) (f : core.Function) (g : Function) (made : IsMade f g) (task : Task) (vs : List ℤ) (ds : List ℕ) (base : ℕ)
    → coded.call_of k (routine_of g) (shape_of task) (map cell_of vs) ds base
    ≡ source.call_of k f task vs base (pointers_of (shape_of task).arguments (narrowed_to (map width_of f.parameters) (map cell_of vs)) ds)
same_call k f g made task vs ds base =
    let cells = map cell_of vs in
    let shapes = (shape_of task).arguments in
    ap (λ ps. record {
      function = k;
      scalars = coded.scalars_of shapes (narrowed_to ps cells);
      arguments = pointers_of shapes (narrowed_to ps cells) ds;
      stack_place = base;
      is_high = task.high;
    }) made.parameters
    ∙ ap (λ xs. record {
      function = k;
      scalars = xs;
      arguments = pointers_of shapes (narrowed_to (map width_of f.parameters) cells) ds;
      stack_place = base;
      is_high = task.high;
    }) (scalars_same f.parameters task.parts vs)

-- ---- one more call

module _ (w : World) (fs : List core.Function) (gs : List Function)
    (made : (k : ℕ) (f : core.Function) → slice_get fs k ≡ Some f → (g : Function) × (slice_get gs k ≡ Some g) × IsMade f g)
    (typed : (f : core.Function) (k : ℕ) → slice_get fs k ≡ Some f → IsTypedFunction (map signature fs) f)
    (runs : (n : ℕ) → Agrees w fs (source.calls w fs n) (calls_of w gs n) → (k : ℕ) (f : core.Function) (g : Function) → slice_get fs k ≡ Some f → slice_get gs k ≡ Some g
    → (base : ℕ) (t : Tape) → means w (calls_of w gs n) n base g.body Plain [] t ≡ then_do (meanings w (source.calls w fs n) base n f.body t) (λ flow t'. Goes (exits_of flow) t'))
  where
    -- what is done behind a task's windows, by a call of a function, where the fuel isn't spent
    abbrev told_as : (n k : ℕ) (f : core.Function) → Option Task → (vs : List ℤ) (base line : ℕ) → List Argument → Tape → Outcome ℤ
    told_as n k f None vs base line arguments t = Goes (pos 0) t
    told_as n k f (Some task) vs base line arguments t =
        then_do (ask w (Calls (source.call_of k f task vs base arguments)) line t) (task_body w (source.calls w fs n) n f vs line)

    abbrev told_by : (n k : ℕ) → Option core.Function → (vs : List ℤ) (base line : ℕ) → List Argument → Tape → Outcome ℤ
    told_by n k None vs base line arguments t = Goes (pos 0) t
    told_by n k (Some f) vs base line arguments t = told_as n k f f.task vs base line arguments t

    module _ (n : ℕ) (below : Agrees w fs (source.calls w fs n) (calls_of w gs n)) where
      abbrev call : Calling
      call = source.calls w fs n

      plain_called : (k : ℕ) (f : core.Function) → slice_get fs k ≡ Some f → (task : Option Task) → (vs : List ℤ) (base line : ℕ) (t : Tape) → (is_none task || not (makes_tasks t)) ≡ true
          → called_as w call n k f task vs base line t ≡ plain_call w call n f vs line t
      plain_called k f e None vs base line t h = refl
      plain_called k f e (Some task) vs base line t h = by (makes_tasks t) h
        where
          by : (b : Bool) → not b ≡ true → (if b then source.task_call w call n k f task vs base line t else plain_call w call n f vs line t) ≡ plain_call w call n f vs line t
          by false h = refl
          by true h = cc

      plain_agrees : (k : ℕ) (f : core.Function) → slice_get fs k ≡ Some f → (vs : List ℤ) (base line : ℕ) (t : Tape) → (is_none f.task || not (makes_tasks t)) ≡ true
          → (calls_of w gs (suc n)).call k (map cell_of vs) line t ≡ then_do (source.calls w fs (suc n) k vs base line t) given
      plain_agrees k f e vs base line t h =
          let g = (made k f e).0 in
          let is = (made k f e).2 in
          ap (λ o. blocks.called w (calls_of w gs n) n o (map cell_of vs) line t) (made k f e).1
          ∙ plain_means w (calls_of w gs n) call n f g is.frame is.parameters is.end (runs n below k f g e (made k f e).1) vs line t
          ∙ ap (λ o. then_do o given) (sym (ap (λ o. source.called w call n k o vs base line t) e ∙ plain_called k f e f.task vs base line t h))

      measured_agrees : (k : ℕ) (f : core.Function) (task : Task) → slice_get fs k ≡ Some f → f.task ≡ Some task → (vs : List ℤ) (base line : ℕ) (t : Tape) → makes_tasks t ≡ true
          → source.calls w fs (suc n) k vs base line t ≡ then_do (pointers w vs line task.parts vs t) (told_by n k (slice_get fs k) vs base line)
      measured_agrees k f task e is vs base line t h =
          ap (λ o. source.called w call n k o vs base line t) e
          ∙ ap (λ o. called_as w call n k f o vs base line t) is
          ∙ ap (λ b. if b then source.task_call w call n k f task vs base line t else plain_call w call n f vs line t) h
          ∙ sym (ap (λ o. then_do (pointers w vs line task.parts vs t) (told_by n k o vs base line)) e
          ∙ ap (λ o. then_do (pointers w vs line task.parts vs t) (told_as n k f o vs base line)) is)

      submits_agree : (k : ℕ) (f : core.Function) (task : Task) → slice_get fs k ≡ Some f → f.task ≡ Some task → (vs : List ℤ) (ds : List ℕ) (base line : ℕ) (t : Tape)
          → (calls_of w gs (suc n)).submit k (map cell_of vs) ds base line t
          ≡ then_do (told_by n k (slice_get fs k) vs base line (pointers_of (shape_of task).arguments (narrowed_to (map width_of f.parameters) (map cell_of vs)) ds) t) given
      submits_agree k f task e is vs ds base line t =
          let g = (made k f e).0 in
          let same = (made k f e).2 in
          let cells = map cell_of vs in
          let arguments = pointers_of (shape_of task).arguments (narrowed_to (map width_of f.parameters) cells) ds in
          let fine = typed f k e in
          ap (λ o. blocks.submitted w (calls_of w gs n) n k o cells ds base line t) (made k f e).1
          ∙ ap (λ s. blocks.submitted_as w (calls_of w gs n) n k g s cells ds base line t) (same.task ∙ ap (option_map shape_of) is)
          ∙ ap (λ c. then_do (ask w (Calls c) line t) (blocks.behind_call w (calls_of w gs n) n g cells line)) (same_call k f g same task vs ds base)
          ∙ behind g same fine (made k f e).1 (ask w (Calls (source.call_of k f task vs base arguments)) line t)
          ∙ sym (ap (λ o. then_do (told_by n k o vs base line arguments t) given) e ∙ ap (λ o. then_do (told_as n k f o vs base line arguments t) given) is)
        where
          behind : (g : Function) → IsMade f g → IsTypedFunction (map signature fs) f → slice_get gs k ≡ Some g → (o : Outcome ℕ)
              → then_do o (blocks.behind_call w (calls_of w gs n) n g (map cell_of vs) line) ≡ then_do (then_do o (task_body w call n f vs line)) given
          behind g same fine there (Goes reply t') =
              task_means w (calls_of w gs n) call n f g same.frame same.parameters same.end (runs n below k f g e there)
              (zero_applied w (map signature fs) call n f task fine (subst (IsTaskOf (map signature fs) f) is fine.task)) vs line reply t'
          behind g same fine there (Stops why t') = refl

    -- ---- whatever the fuel

    spent_plain : (f : core.Function) (task : Option Task) (vs : List ℤ) (line : ℕ) (t : Tape) → (is_none task || not (makes_tasks t)) ≡ true → spent_as w task vs line t ≡ Stops Tired t
    spent_plain f None vs line t h = refl
    spent_plain f (Some task) vs line t h = by (makes_tasks t) h
      where
        by : (b : Bool) → not b ≡ true → (if b then then_do {B = ℤ} (pointers w vs line task.parts vs t) (λ arguments t'. Stops Tired t') else Stops Tired t) ≡ Stops Tired t
        by false h = refl
        by true h = cc

    spent_agrees : Agrees w fs (source.calls w fs 0) (calls_of w gs 0)
    spent_agrees = record {
      plain = λ k f e vs len base line t h. ap (λ o. then_do o given) (sym (ap (λ o. source.spent w o vs line t) e ∙ spent_plain f f.task vs line t h));
      told = λ k vs base line arguments t. Stops Tired t;
      measured = λ k f task e is vs base line t h. ap (λ o. source.spent w o vs line t) e ∙ ap (λ o. spent_as w o vs line t) is
          ∙ ap (λ b. if b then then_do (pointers w vs line task.parts vs t) (λ arguments t'. Stops Tired t') else Stops Tired t) h;
      submits = λ k f task e is vs len ds base line t. refl;
    }

    pub agrees : (n : ℕ) → Agrees w fs (source.calls w fs n) (calls_of w gs n)
    agrees zero = spent_agrees
    agrees (suc n) = record {
      plain = λ k f e vs len base line t h. plain_agrees n (agrees n) k f e vs base line t h;
      told = λ k vs base line arguments t. told_by n k (slice_get fs k) vs base line arguments t;
      measured = measured_agrees n (agrees n);
      submits = λ k f task e is vs len ds base line t. submits_agree n (agrees n) k f task e is vs ds base line t;
    }
