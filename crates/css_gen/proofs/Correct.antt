-- The code of a typed program means the program.
use Rattle.std.proofs.Common.{◌≡◌, ℕ, ◌+◌, Bool, true, false, if◌then◌else◌, List, map, length, Option, Some, option_map, slice_get, refl, sym, ap, ◌∙◌, subst, arith}
use Rattle.std.specs.Prelude.{nat_eq}
use Rattle.std.proofs.lemmas.Option.{slice_get-map}
use Rattle.std.proofs.lemmas.List.{length-map}
use Rattle.css_semantics.specs.Dialogue.{World}
use Rattle.css_core.specs.Core as core
use Rattle.css_core.specs.Typed.{IsTypedProgram}
use Rattle.css_isa.specs.Code.{Code, Routine}
use Rattle.css_blocks.specs.Pieces.{both}
use Rattle.css_blocks.specs.Layout.{Function, routine_of, code_of}
use Rattle.css_blocks.specs.Finds.{ground, AreFound, Fit}
use Rattle.css_blocks.proofs.Programs.{behaves}
use Rattle.css_blocks.proofs.Worked.{same_as}
use Rattle.css_gen_expr.specs.Calls.{width_of, shape_of}
use Rattle.css_gen_expr.proofs.Standing.{find_their_cells}
use Rattle.css_gen_expr.specs.Standing.{Stands, HasFunctions, FindTheirCells}
use Rattle.css_gen.specs.Statements.{pieces_of}
use Rattle.css_gen.specs.Functions.{function_of, opened, program_of}
use Rattle.css_gen.specs.Codes.{Codes}
use Rattle.css_gen.proofs.Programs.{built, came_from, made_of, typed_function, source_means, alone_means}
use Rattle.css_gen.proofs.Bodies.{bodies_mean}
use Rattle.css_gen.proofs.Finding.{pieces_stand}

-- a function's piece finds its cells, and main's behind an instruction that does nothing
found_of : (code : Code) (fs : List core.Function) (main k : ℕ) (name : List ℕ) (f : core.Function) → Stands code (both ground) (pieces_of fs f.end f.body) ground ground → AreFound code (built fs main k name f).body
found_of code fs main k name f is = by (nat_eq main k)
  where
    by : (b : Bool) → AreFound code (if b then opened fs f.line (function_of fs name f) else function_of fs name f).body
    by true = record { finds = (((refl, omega arith, tt), ((refl, omega arith, tt), tt)), is.finds); ends = is.leaves }
    by false = record { finds = is.finds; ends = is.leaves }

module _ (names : List (List ℕ)) (p : core.Program) (typed : IsTypedProgram p) where
  has_functions : HasFunctions (code_of (program_of names p)) p.functions
  has_functions = record {
    there = λ k f at.
        let made = made_of names p typed k f at in (
          routine_of made.0,
          slice_get-map routine_of (program_of names p).functions k ∙ ap (option_map routine_of) made.1,
          ap length made.2.parameters ∙ length-map f.parameters width_of,
          made.2.task,
        );
  }

  find : FindTheirCells (code_of (program_of names p)) p.functions
  find = find_their_cells (code_of (program_of names p)) p.functions has_functions typed.functions

  pub fits : Fit (program_of names p)
  fits k g at =
      let r = came_from p.functions p.main names p.functions k g at in
      let is = typed_function names p typed r.0 k r.1 in
      subst (λ x. AreFound (code_of (program_of names p)) x.body) r.2.1
      (found_of (code_of (program_of names p)) p.functions p.main (0 + k) r.2.0 r.0
      (pieces_stand (code_of (program_of names p)) p.functions find r.0.result false r.0.end r.0.body is.body (both ground) tt))

  pub codes : Codes p (code_of (program_of names p))
  codes = record {
    main = λ w. same_as (source_means names p typed w (bodies_mean w names p typed)) ((behaves (program_of names p) fits).main w);
    bodies = λ w k f at values len line. same_as (alone_means names p typed w (bodies_mean w names p typed) k f at values line) ((behaves (program_of names p) fits).bodies w k (map _ values) line);
  }
