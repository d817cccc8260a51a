use Rattle.std.proofs.Common.{[], All, get_or, refl, subst}
use Rattle.std.proofs.lemmas.List.{take_all}
use Rattle.std.proofs.lemmas.Option.{slice_get-get_or}
use Rattle.css_record.specs.declared.version.VersionName.TheVariants as names
use Rattle.css_history.specs.Rules.{IsReady}
use Rattle.css_board.proofs.Jobs.{more_ready}
use Rattle.css_board.proofs.ends.are_ready.Goals as goal

pub loop-version-preserved : goal.loop-version-preserved
loop-version-preserved c =
    let k = c.loop-version.version-index in
    let v = get_or c.args.versions.now k (names.Given 0) in
    more_ready (IsReady c.args.history.now []) c.args.versions.now k v (slice_get-get_or c.args.versions.now k (names.Given 0) c.loop-version-test.true) c.loop-version.invariant (c.is_ready.ensures.0 c.if-not-is_ready.false)

pub returns : goal.returns
returns c = (
  (λ yes. subst (All (IsReady c.args.history.now [])) (take_all c.loop-version.version-index c.args.versions.now c.loop-version-test.false) c.loop-version.invariant),
  (λ all. refl),
)
