-- What is submitted later leaves ends and values as they are.
use Rattle.std.proofs.Common.{ℕ, List, Contains}
use Rattle.css_record.specs.declared.version.VersionName.{VersionName}
use Rattle.css_vm.specs.Code.{Code}
use Rattle.css_task.specs.Alone.{End}
use Rattle.css_yard.specs.Values.{Submit, Ends, IsValue, AreValues, Alone, Given, Made, NoMore, More}

module _ (code : Code) (units : ℕ) (submits more : List Submit) (all : (s : Submit) → Contains submits s → Contains more s) where
  mutual
    pub ends_later : {number : ℕ} {end : End} → Ends code units submits number end → Ends code units more number end
    ends_later (Alone s inputs has is values alone) = Alone s inputs (all s has) is (values_later values) alone

    pub value_later : {given : List (List ℕ)} {version : VersionName} {bytes : List ℕ} → IsValue code units submits given version bytes → IsValue code units more given version bytes
    value_later (Given place is) = Given place is
    value_later (Made task out outs ends is) = Made task out outs (ends_later ends) is

    pub values_later : {given : List (List ℕ)} {versions : List VersionName} {values : List (List ℕ)} → AreValues code units submits given versions values → AreValues code units more given versions values
    values_later NoMore = NoMore
    values_later (More value values) = More (value_later value) (values_later values)
