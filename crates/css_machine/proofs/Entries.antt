-- Arguments that are stored one after another, and entries.
use Rattle.std.proofs.Common.{◌≡◌, ℕ, suc, ◌+◌, ◌*◌, ◌%◌, ◌^◌, ◌<◌, List, [], ◌∷◌, length, map, drop, get_or, refl, ap, ◌∙◌, drop_of_length-le, drop-cons, arith}
use Rattle.css_base.specs.declared.ending.Stop.{Stop}
use Rattle.css_semantics.specs.Dialogue.{Action, Enter, Store, Reply, Says, Tape, World, Outcome, Goes, Plain, then_do, ask_in}
use Rattle.css_semantics.specs.Memory.{big_endian_bytes}
use Rattle.css_isa.specs.declared.space.Width.{Width}
use Rattle.css_isa.specs.Code.{Routine}
use Rattle.css_isa.specs.Steps.{stores, entered}
use Rattle.css_isa.specs.Spaces.{bytes_of, IsRefusal}
use Rattle.css_machine.specs.Events.{Along, stops_in}
use Rattle.css_machine.specs.Steps.{StoresAll, StopsStoring, Enters, StopsEntering}
use Rattle.css_machine.proofs.Requests.{stops_then, along_map, along_then, along_none, along_says_then, along_refused_then}

-- the rest of a list, from an index on
pub drop_next : {X : Type 0} (xs : List X) (i : ℕ) (d : X) → i < length xs → drop i xs ≡ get_or xs i d ∷ drop (i + 1) xs
drop_next xs i d within =
    let one : suc i ≡ i + 1 = omega arith in
    drop-cons xs i d within ∙ ap (λ k. get_or xs i d ∷ drop k xs) one

-- what is left to store behind the first parameters
abbrev pub stores_from : World → (base : ℕ) → List Width → List ℕ → (line i : ℕ) → Tape → Outcome ℕ
stores_from w base params arguments line i tape = stores w (base + 8 * i) (map bytes_of (drop i params)) (drop i arguments) line tape

-- so far, what is stored and what is left are all that is to be stored
abbrev pub StoresUpTo : (base : ℕ) → List Width → List ℕ → (line i : ℕ) → World → Tape → Tape → Type 0
StoresUpTo base params arguments line i w tape later = stores w base (map bytes_of params) arguments line tape ≡ stores_from w base params arguments line i later

abbrev pub StoresSoFar : {S : Type 0} → (S → Action → Reply) → (S → Action → S) → (base : ℕ) → List Width → List ℕ → S → (i : ℕ) → S → Type 0
StoresSoFar reply learn base params arguments space i space' = (line : ℕ) → Along reply learn space space' (StoresUpTo base params arguments line i)

module _ {S : Type 0} (reply : S → Action → Reply) (learn : S → Action → S) (base : ℕ) (params : List Width) (arguments : List ℕ) (space : S) where
  pub stores_none : StoresSoFar reply learn base params arguments space 0 space
  stores_none line = along_none reply learn space (StoresUpTo base params arguments line 0)
      (λ w tape. let none : base + 8 * 0 ≡ base = omega arith in rw none refl)

  module _ (i : ℕ) (space' : S) (so_far : StoresSoFar reply learn base params arguments space i space') (address value : ℕ) (width : Width) (at : address ≡ (base + 8 * i) % 2 ^ 32)
      (width-is : drop i params ≡ width ∷ drop (i + 1) params) (value-is : drop i arguments ≡ value ∷ drop (i + 1) arguments) where
    -- the next argument is the next that is stored
    next_store : (w : World) (line : ℕ) (tape : Tape) → stores_from w base params arguments line i tape ≡ then_do (ask_in w Plain (Store address (big_endian_bytes (bytes_of width) value)) line tape) (λ r t. stores_from w base params arguments line (i + 1) t)
    next_store w line tape =
        let further : base + 8 * (i + 1) ≡ base + 8 * i + 8 = omega arith in
        rw (width-is, value-is, at, further) refl

    pub stores_more : (r : ℕ) → reply space' (Store address (big_endian_bytes (bytes_of width) value)) ≡ Says r → StoresSoFar reply learn base params arguments space (i + 1) (learn space' (Store address (big_endian_bytes (bytes_of width) value)))
    stores_more r says line =
        along_then reply learn (StoresUpTo base params arguments line i)
        (λ w tape later. then_do (ask_in w Plain (Store address (big_endian_bytes (bytes_of width) value)) line tape) (λ r t. stores_from w base params arguments line (i + 1) t) ≡ stores_from w base params arguments line (i + 1) later)
        (StoresUpTo base params arguments line (i + 1))
        (λ w tape here there one two. one ∙ next_store w line here ∙ two)
        (so_far line)
        (along_says_then reply learn space' Plain (Store address (big_endian_bytes (bytes_of width) value)) line refl (λ w r t. stores_from w base params arguments line (i + 1) t) r says)

    pub stores_stop : (stop : Stop) → IsRefusal (reply space' (Store address (big_endian_bytes (bytes_of width) value))) stop → StopsStoring reply learn base (map bytes_of params) arguments space stop
    stores_stop stop refusal = λ line.
        let refused = along_refused_then reply learn space' Plain (Store address (big_endian_bytes (bytes_of width) value)) line refl (λ w r t. stores_from w base params arguments line (i + 1) t) stop refusal in (
          refused.0,
          along_then reply learn (StoresUpTo base params arguments line i)
              (λ w tape later. then_do (ask_in w Plain (Store address (big_endian_bytes (bytes_of width) value)) line tape) (λ r t. stores_from w base params arguments line (i + 1) t) ≡ stops_in w Plain stop line later)
              (λ w tape later. stores w base (map bytes_of params) arguments line tape ≡ stops_in w Plain stop line later)
              (λ w tape here there one two. one ∙ next_store w line here ∙ two)
              (so_far line) refused.1,
        )

  pub stores_all : (count : ℕ) (space' : S) → count ≡ length params → StoresSoFar reply learn base params arguments space count space' → StoresAll reply learn base (map bytes_of params) arguments space space'
  stores_all count space' all so_far = λ line.
      along_map reply learn (StoresUpTo base params arguments line count) (λ w tape later. stores w base (map bytes_of params) arguments line tape ≡ Goes 0 later)
      (λ w tape later e.
      let none : drop count params ≡ [] = drop_of_length-le params (omega arith) in
      e ∙ rw none refl)
      (so_far line)

-- ---- entries

module _ {S : Type 0} (reply : S → Action → Reply) (learn : S → Action → S) (f : Routine) (arguments : List ℕ) (space : S) where
  abbrev behind_frame : (line : ℕ) → World → ℕ → Tape → Outcome ℕ
  behind_frame line w base tape = then_do (stores w base f.parameters arguments line tape) (λ r t. Goes base t)

  pub enters : (base : ℕ) (space' : S) → reply space (Enter f.frame) ≡ Says base → StoresAll reply learn base f.parameters arguments (learn space (Enter f.frame)) space' → Enters reply learn f arguments space base space'
  enters base space' says stored = λ line.
      along_then reply learn (λ w tape later. entered w f arguments line tape ≡ behind_frame line w base later) (λ w tape later. stores w base f.parameters arguments line tape ≡ Goes 0 later)
      (λ w tape later. entered w f arguments line tape ≡ Goes base later)
      (λ w tape here there one two. one ∙ ap (λ o. then_do o (λ r t. Goes base t)) two)
      (along_says_then reply learn space Plain (Enter f.frame) line refl (behind_frame line) base says) (stored line)

  pub stops_at_store : (base : ℕ) (stop : Stop) → reply space (Enter f.frame) ≡ Says base → StopsStoring reply learn base f.parameters arguments (learn space (Enter f.frame)) stop → StopsEntering reply learn f arguments space stop
  stops_at_store base stop says stops = λ line.
      let stopped = stops line in (
        stopped.0,
        along_then reply learn (λ w tape later. entered w f arguments line tape ≡ behind_frame line w base later) (λ w tape later. stores w base f.parameters arguments line tape ≡ stops_in w Plain stop line later)
            (λ w tape later. entered w f arguments line tape ≡ stops_in w Plain stop line later)
            (λ w tape here there one two. one ∙ ap (λ o. then_do o (λ r t. Goes base t)) two ∙ stops_then w Plain stop line there (λ r t. Goes base t))
            (along_says_then reply learn space Plain (Enter f.frame) line refl (behind_frame line) base says) stopped.1,
      )

  pub stops_at_frame : (stop : Stop) → IsRefusal (reply space (Enter f.frame)) stop → StopsEntering reply learn f arguments space stop
  stops_at_frame stop refusal = λ line. along_refused_then reply learn space Plain (Enter f.frame) line refl (behind_frame line) stop refusal
