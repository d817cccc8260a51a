use Rattle.std.proofs.Common.{◌≡◌, codes, Bool, true, false, IsTrue, ◌↔◌, Option, Some, None, IfNone, refl, arith}
use Rattle.css_base.specs.Tokens.{Word, Punctuator}
use Rattle.css_small.proofs.TaskWords.{other_words, other_at, other_length}
use Rattle.css_small.proofs.functions.task_of.Goals as goal
use Rattle.css_small.proofs.functions.task_of.Goals.{else-is_word-via-then-is_word+then-is_word-2+then-is_mark+else-is_mark-2, else-is_word-via-then-is_word+then-is_word-2+else-is_mark, else-is_word-via-then-is_word+else-is_word-2, else-is_word-via-else-is_word}

weaker : {A P Q : Type 0} (o : Option A) → (P → Q) → IfNone o P → IfNone o Q
weaker None f h = f h
weaker (Some x) f h = tt

other : {P : Type 0} (b : Bool) → (IsTrue b ↔ P) → b ≡ false → P → ⊥
other true same is_false p = absurd (let e : true ≡ false = is_false in cc)
other false same is_false p = absurd (let e : false ≡ true = same.1 p in cc)

pub returns-then-words-ne5-clause-none : goal.returns-then-words-ne5-clause-none
returns-then-words-ne5-clause-none c = other_words _ (λ parameter same. let five = other_length c.args.words.now parameter same in omega arith)

pub returns-then-is_mark-2-clause-none : goal.returns-then-is_mark-2-clause-none
returns-then-is_mark-2-clause-none c =
    let ts = c.args.words.now in
    weaker c.word_of.result
    (λ none. other_words _ (λ parameter same. other_at ts 3 c.parameter-item.result (Word parameter) (omega arith) c.parameter-item.is (none parameter) parameter refl same))
    c.word_of.ensures.none

pub returns-else-is_word-clause-none : goal.returns-else-is_word-clause-none
returns-else-is_word-clause-none c =
    let ts = c.args.words.now in
    other_words _ (λ parameter same.
    elim c.else-is_word.branch [
      | else-is_word-via-then-is_word+then-is_word-2+then-is_mark+else-is_mark-2 w ↦
          other_at ts 4 c.closes-item.result (Punctuator (codes ")")) (omega arith) c.closes-item.is (other _ w.is_mark-then-is_mark.ensures w.if-is_mark-2.false) parameter refl same
      | else-is_word-via-then-is_word+then-is_word-2+else-is_mark w ↦
          other_at ts 2 c.opens-item.result (Punctuator (codes "(")) (omega arith) c.opens-item.is (other _ w.is_mark.ensures w.if-is_mark.false) parameter refl same
      | else-is_word-via-then-is_word+else-is_word-2 w ↦
          other_at ts 1 c.second-item.result (Word (codes "inout")) (omega arith) c.second-item.is (other _ w.is_word-then-is_word.ensures w.if-is_word-2.false) parameter refl same
      | else-is_word-via-else-is_word w ↦
          other_at ts 0 c.first-item.result (Word (codes "task")) (omega arith) c.first-item.is (other _ c.is_word.ensures w.if-is_word.false) parameter refl same
    ])
