-- What is known at an error that is passed on.
use Rattle.std.proofs.Common.{◌≡◌, Bool, true, false, is_some, Option, Some, None, IfSome, IfNone, Result, Ok, Err, IfOk, IfErr, IsErrOf, IsErrAnd, refl, sym, ap, ◌∙◌}
use Rattle.css_parse.specs.declared.unspelled.Unspelled.{Unspelled}
use Rattle.css_parse.specs.declared.unspelled.Unspelled.TheVariants.{NotSpelled, NoMemory}

-- an error that is passed on is NotSpelled where it was
pub passed : {T : Type 0} {A : Type 0} (r : Result T Unspelled) (x : Unspelled) → IsErrAnd r (λ e. e ≡ x) → IsErrOf r NotSpelled → IsErrOf {T = A} (Err x) NotSpelled
passed (Ok v) x h k = absurd h
passed (Err e) x h k = let same : e ≡ NotSpelled = cc in ap Err (sym h ∙ same)

-- an error that is passed on and was NoMemory isn't NotSpelled
pub passed_memory : {T : Type 0} (r : Result T Unspelled) (x : Unspelled) → IsErrAnd r (λ e. e ≡ x) → IsErrOf r NotSpelled → x ≡ NoMemory → ⊥
passed_memory (Ok v) x h k m = absurd h
passed_memory (Err e) x h k m = let same : e ≡ NotSpelled = cc in let other : NoMemory ≡ NotSpelled = sym m ∙ sym h ∙ same in cc

pub no_memory : {T : Type 0} (r : Result T Unspelled) → r ≡ Err NoMemory → IsErrOf r NotSpelled → ⊥
no_memory r e k = absurd cc

-- an error that isn't NotSpelled
pub memory_only : (x : Unspelled) → (x ≡ NotSpelled → ⊥) → x ≡ NoMemory
memory_only NotSpelled not = absurd (not refl)
memory_only NoMemory not = refl

pub err_memory : {T : Type 0} (r : Result T Unspelled) (x : Unspelled) → IsErrAnd r (λ e. e ≡ x) → x ≡ NoMemory → IfErr r (λ e. e ≡ NoMemory)
err_memory (Ok v) x h m = absurd h
err_memory (Err e) x h m = h ∙ m

pub IfNone-weaker : {T P Q : Type 0} (o : Option T) → (P → Q) → IfNone o P → IfNone o Q
IfNone-weaker None weaker h = weaker h
IfNone-weaker (Some x) weaker h = tt

pub not_some : {T : Type 0} (o : Option T) (b : Bool) → b ≡ is_some o → b ≡ false → o ≡ None
not_some None b is none = refl
not_some (Some x) b is none = absurd (let e : true ≡ false = sym is ∙ none in cc)

pub some_not : {T : Type 0} (o : Option T) (b : Bool) → b ≡ is_some o → b ≡ true → o ≡ None → ⊥
some_not None b is some none = (let e : false ≡ true = sym is ∙ some in cc)
some_not (Some x) b is some none = cc
