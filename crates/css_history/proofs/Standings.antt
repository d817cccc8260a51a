-- Who holds a task, in legal histories; and that a task's end is its last standing.
use Rattle.std.proofs.Common.{◌≡◌, ◌≢◌, ◌⊎◌, ℕ, ◌+◌, ◌==◌, ◌||◌, Bool, true, false, true≢false, cond, List, [], ◌∷◌, ◌++◌, refl, ap, sym, ◌∙◌, subst, inl, inr, arith}
use Rattle.std.proofs.lemmas.Bool.{cases_Bool, eqb-true, eq-eqb}
use Rattle.css_task.specs.Alone.{End, Outs, Halted}
use Rattle.css_graph.specs.Tasks.{is_among}
use Rattle.css_graph.proofs.Takeable.{among_append}
use Rattle.css_seen.specs.Facts.{Lasts}
use Rattle.css_seen.proofs.Lasting.{of_legal}
use Rattle.css_history.specs.declared.entry.Entry.{Entry}
use Rattle.css_history.specs.declared.entry.Entry.TheVariants as entries
use Rattle.css_history.specs.Terms.{Terms}
use Rattle.css_history.specs.Histories.{maker, Standing, Waiting, Held, Ended, named, comes, standing, without, holding, held}
use Rattle.css_history.specs.Rules.{MayTake, MayEnd}
use Rattle.css_history.specs.Legal.{MayFollow, Legal}
use Rattle.css_history.proofs.Bools.{or_either, among_one, among_without}
use Rattle.css_history.proofs.Histories.{not_named, is_named, held_more}

one_less : (v w : ℕ) → v + 1 ≡ w + 1 → v ≡ w
one_less v w e = omega (arith, e)

-- what a worker holds stands so
abbrev pub HeldAre : List Entry → Type 0
HeldAre log = (w n : ℕ) → is_among (held w log) n ≡ true → standing n log ≡ Held w

-- what is taken waits
pub taken_waits : (log : List Entry) (before numbers : List ℕ) (n : ℕ) → MayTake log before numbers → is_among numbers n ≡ true → standing n log ≡ Waiting
taken_waits log before [] n may e = absurd (true≢false (sym e))
taken_waits log before (m ∷ numbers) n may e = elim (or_either (m == n) (is_among numbers n) e) [
  | inl here ↦ subst (λ (k : ℕ). standing k log ≡ Waiting) (eqb-true m n here) may.0.waits
  | inr there ↦ taken_waits log (before ++ m ∷ []) numbers n may.1 there
]

-- what an entry names waited, or its maker held it
abbrev pub WasOpen : List Entry → Entry → ℕ → Type 0
WasOpen log e n = (standing n log ≡ Waiting) ⊎ ((w : ℕ) × (maker e ≡ w + 1) × (standing n log ≡ Held w))

module _ (b : Terms) where
  ended_one : (log : List Entry) (w m n : ℕ) → HeldAre log → MayEnd log w m → is_among (m ∷ []) n ≡ true → standing n log ≡ Held w
  ended_one log w m n are may e = subst (λ (k : ℕ). standing k log ≡ Held w) (among_one m n e) (are w m may.mine)

  pub was_open : (log : List Entry) (e : Entry) (n : ℕ) → HeldAre log → MayFollow b log e → is_among (named e) n ≡ true → WasOpen log e n
  was_open log (entries.Submit rec given) n are may e = absurd (true≢false (sym e))
  was_open log (entries.Take w numbers) n are may e = inl (taken_waits log [] numbers n may.follows e)
  was_open log (entries.Finish w m outs) n are may e = inr (w, refl, ended_one log w m n are may.follows e)
  was_open log (entries.Stop w m stop line) n are may e = inr (w, refl, ended_one log w m n are may.follows e)
  was_open log (entries.Back w numbers) n are may e = inr (w, refl, are w n (subst (λ l. is_among l n ≡ true) may.follows e))
  was_open log (entries.Starved w) n are may e = absurd (true≢false (sym e))
  was_open log entries.Close n are may e = absurd (true≢false (sym e))

  same_worker : (v w : ℕ) → Held v ≡ Held w → v ≡ w
  same_worker v w e = cc

  -- what a worker holds isn't named by another's entry
  pub not_by_others : (log : List Entry) (e : Entry) (w n : ℕ) → HeldAre log → MayFollow b log e → maker e ≢ w + 1 → standing n log ≡ Held w → is_among (named e) n ≡ false
  not_by_others log e w n are may apart is = elim (cases_Bool (is_among (named e) n)) [
    | inl names ↦ elim (was_open log e n are may names) [
      | inl waits ↦ absurd (cc)
      | inr (v, by, theirs) ↦ absurd (apart (by ∙ ap (λ (m : ℕ). m + 1) (same_worker v w (sym theirs ∙ is))))
    ]
    | inr none ↦ none
  ]

  kept : (log : List Entry) (e : Entry) (w n : ℕ) → is_among (named e) n ≡ false → standing n log ≡ Held w → standing n (log ++ e ∷ []) ≡ Held w
  kept log e w n none is = not_named log e n none ∙ is

  -- a task that its worker ended
  own_end : (log : List Entry) (e : Entry) (v w m n : ℕ) → HeldAre log → MayFollow b log e → named e ≡ m ∷ [] → maker e ≡ v + 1 → is_among (cond (v == w) (without m (held w log)) (held w log)) n ≡ true → standing n (log ++ e ∷ []) ≡ Held w
  own_end log e v w m n are may names by mine = elim (cases_Bool (v == w)) [
    | inl same ↦
        let parts = among_without m n (held w log) (rw same at mine) in
        elim (cases_Bool (is_among (named e) n)) [
          | inl here ↦ absurd (parts.0 (among_one m n (subst (λ l. is_among l n ≡ true) names here)))
          | inr none ↦ kept log e w n none (are w n parts.1)
        ]
    | inr apart ↦
        let is = are w n (rw apart at mine) in
        let other : maker e ≢ w + 1 = λ h. true≢false (sym (eq-eqb v w (one_less v w (sym by ∙ h))) ∙ apart) in
        kept log e w n (not_by_others log e w n are may other is) is
  ]

  held_step : Lasts maker (MayFollow b) HeldAre
  held_step log (entries.Submit rec given) was may are w n mine =
      kept log (entries.Submit rec given) w n refl (are w n (subst (λ l. is_among l n ≡ true) (held_more w log (entries.Submit rec given)) mine))
  held_step log (entries.Starved v) was may are w n mine =
      kept log (entries.Starved v) w n refl (are w n (subst (λ l. is_among l n ≡ true) (held_more w log (entries.Starved v)) mine))
  held_step log entries.Close was may are w n mine =
      kept log entries.Close w n refl (are w n (subst (λ l. is_among l n ≡ true) (held_more w log entries.Close) mine))
  held_step log (entries.Take v numbers) was may are w n mine =
      let e : Entry = entries.Take v numbers in
      let now : is_among (cond (v == w) (held w log ++ numbers) (held w log)) n ≡ true = subst (λ l. is_among l n ≡ true) (held_more w log e) mine in
      elim (cases_Bool (is_among numbers n)) [
        | inl new ↦ elim (cases_Bool (v == w)) [
          | inl same ↦ is_named log e n new ∙ ap Held (eqb-true v w same)
          | inr apart ↦
              let old : standing n log ≡ Held w = are w n (rw apart at now) in
              let waits : standing n log ≡ Waiting = taken_waits log [] numbers n may.follows new in
              absurd (cc)
        ]
        | inr none ↦ kept log e w n none (are w n (elim (cases_Bool (v == w)) [
          | inl same ↦
              let both : is_among (held w log ++ numbers) n ≡ true = rw same at now in
              elim (or_either (is_among (held w log) n) (is_among numbers n) (sym (among_append (held w log) numbers n) ∙ both)) [
                | inl old ↦ old
                | inr new ↦ absurd (true≢false (sym new ∙ none))
              ]
          | inr apart ↦ rw apart at now
        ]))
      ]
  held_step log (entries.Finish v m outs) was may are w n mine =
      own_end log (entries.Finish v m outs) v w m n are may refl refl (subst (λ l. is_among l n ≡ true) (held_more w log (entries.Finish v m outs)) mine)
  held_step log (entries.Stop v m stop line) was may are w n mine =
      own_end log (entries.Stop v m stop line) v w m n are may refl refl (subst (λ l. is_among l n ≡ true) (held_more w log (entries.Stop v m stop line)) mine)
  held_step log (entries.Back v numbers) was may are w n mine =
      let e : Entry = entries.Back v numbers in
      let now : is_among (cond (v == w) [] (held w log)) n ≡ true = subst (λ l. is_among l n ≡ true) (held_more w log e) mine in
      elim (cases_Bool (v == w)) [
        | inl same ↦ let none : is_among [] n ≡ true = rw same at now in absurd (true≢false (sym none))
        | inr apart ↦
            let is = are w n (rw apart at now) in
            let other : maker e ≢ w + 1 = λ h. true≢false (sym (eq-eqb v w (one_less v w h)) ∙ apart) in
            kept log e w n (not_by_others log e w n are may other is) is
      ]

  pub held_are : (log : List Entry) → Legal b log → HeldAre log
  held_are log legal = of_legal maker (MayFollow b) HeldAre (λ w n e. absurd (true≢false (sym e))) held_step log legal

  -- a task that has ended stands so for good
  pub ended_lasts : (n : ℕ) (end : End) → Lasts maker (MayFollow b) (λ log. standing n log ≡ Ended end)
  ended_lasts n end log e was may is = elim (cases_Bool (is_among (named e) n)) [
    | inl names ↦ elim (was_open log e n (held_are log was) may names) [
      | inl waits ↦ absurd (cc)
      | inr (w, by, theirs) ↦ absurd (cc)
    ]
    | inr none ↦ not_named log e n none ∙ is
  ]
