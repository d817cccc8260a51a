-- The functions of a history's tasks have names.
use Rattle.std.proofs.Common.{◌≡◌, ℕ, List, length, All, arith}
use Rattle.std.proofs.lemmas.Option.{slice_get_within}
use Rattle.std.proofs.lemmas.List.Elements.{All-push}
use Rattle.css_seen.proofs.Lasting.{of_legal}
use Rattle.css_history.specs.declared.entry.Entry.{Entry}
use Rattle.css_history.specs.declared.entry.Entry.TheVariants as entries
use Rattle.css_history.specs.Terms.{Terms}
use Rattle.css_history.specs.Histories.{maker}
use Rattle.css_history.specs.Legal.{MayFollow, Legal}
use Rattle.css_board.specs.Lines.{IsNamed}

module _ (b : Terms) (names : List (List ℕ)) (all : length names ≡ length b.code.functions) where
  one_named : (log : List Entry) (e : Entry) → MayFollow b log e → IsNamed names e
  one_named log (entries.Submit rec given) may = omega (arith, all, slice_get_within b.code.functions rec.function may.own.fits.routine may.own.fits.function)
  one_named log (entries.Take w numbers) may = tt
  one_named log (entries.Finish w n outs) may = tt
  one_named log (entries.Stop w n stop line) may = tt
  one_named log (entries.Back w numbers) may = tt
  one_named log (entries.Starved w) may = tt
  one_named log entries.Close may = tt

  pub all_named : (log : List Entry) → Legal b log → All (IsNamed names) log
  all_named log legal = of_legal maker (MayFollow b) (All (IsNamed names)) (λ k d below. absurd (omega (arith, below))) (λ log e was may are. All-push (IsNamed names) log e are (one_named log e may)) log legal
