-- What replaces a token while macros are being replaced.
use Rattle.std.proofs.Common.{◌≡◌, ◌≢◌, ℕ, zero, suc, ◌+◌, Bool, true, false, cond, ◌||◌, ◌==◌, nat_eq, List, [], ◌∷◌, ◌++◌, length, flat_map, sum_by, Some, None, refl, ap, sym, ◌∙◌, subst, arith, append_assoc}
use Rattle.std.specs.List.{list_all}
use Rattle.std.specs.HashSet.{contains}
use Rattle.std.proofs.lemmas.Bool.{and_parts, and_from, eqb-true}
use Rattle.std.proofs.lemmas.List.{nil_from_length, append-nil}
use Rattle.std.proofs.lemmas.List.Sums.{sum_by-cons}
use Rattle.css_base.specs.declared.int_type.IntType.{IntType}
use Rattle.css_base.specs.Tokens.{Kind, Word, Number, Character, Text, Punctuator}
use Rattle.css_macros.specs.Macros.{Table, macro_of, undefined, replaced, names_replaced, replacement, replacement_names}
use Rattle.css_macros.specs.MacroTokens.{plain_kind}
use Rattle.css_macros.specs.Numbers.{number_in, word_at, stands_for}
use Rattle.css_macros.specs.NumberedWords.{words_of}
use Rattle.css_macros.specs.ListedTokens.{listed_kind, listed_kinds, is_number_of, is_listed}
use Rattle.css_macros.specs.Entries.{macro_value}
use Rattle.css_macros.specs.MacroTables.{table_of}
use Rattle.css_macros.specs.Expansions.{is_among, is_open, is_hidden, name_of, is_frame, shown, shown_by, left, names_left, IsStack, IsExpansion, Hides, IsNoMacro, Replaces}
use Rattle.css_macros.specs.declared.expansion.Frame.{Frame}
use Rattle.css_macros.specs.declared.expansion.Expansion.{Expansion}
use Rattle.css_macros.specs.declared.listed_token.ListedToken.{ListedToken}
use Rattle.css_macros.specs.declared.macro_token.MacroToken.{MacroToken}
use Rattle.css_macros.specs.declared.macro_token.MacroToken.TheVariants as code
use Rattle.css_macros.specs.declared.macros.Definition.{Definition}
use Rattle.css_macros.specs.declared.macros.Macros.{Macros}
use Rattle.css_macros.proofs.Numbering.{number_is, number_known, number_word}
use Rattle.css_macros.proofs.Levels.{replacement-macro, replacement_names-macro, replacement-none, replacement_names-none}
use Rattle.css_macros.proofs.Frames.{shown-lookup, shown-snoc, open-snoc, frame_number, hidden-open, frames-push, frames-parts, stack-push, stack-pop, stack-top, top-shown, left-snoc, names_left-snoc}

pub no_macro : (table : Table) (name : List ℕ) → macro_of table name ≡ None → IsNoMacro table (Word name)
no_macro table name none = (replacement-none table name none, replacement_names-none table name none)

-- A hidden name stays.
pub hidden-stays : (words : List (List ℕ)) (table : Table) (frames : List Frame) (name : List ℕ)
    → is_hidden words frames name ≡ true → IsNoMacro (shown words table frames) (Word name)
hidden-stays words table frames name hidden =
    no_macro (shown words table frames) name (shown-lookup words table frames name ∙ ap (λ v. cond v None (macro_of table name)) hidden)

-- A name that is no macro stays.
pub unknown-stays : (words : List (List ℕ)) (table : Table) (frames : List Frame) (name : List ℕ)
    → is_hidden words frames name ≡ false → macro_of table name ≡ None → IsNoMacro (shown words table frames) (Word name)
unknown-stays words table frames name apart none =
    no_macro (shown words table frames) name (shown-lookup words table frames name ∙ ap (λ v. cond v None (macro_of table name)) apart ∙ none)

number-stays : (levels : ℕ) (table : Table) (type : IntType) (value : ℕ)
    → (replaced levels table (Number type value) ≡ Number type value ∷ []) × (names_replaced levels table (Number type value) ≡ 0)
number-stays zero table type value = (refl, refl)
number-stays (suc levels) table type value = (refl, refl)

character-stays : (levels : ℕ) (table : Table) (byte : ℕ) → (replaced levels table (Character byte) ≡ Character byte ∷ []) × (names_replaced levels table (Character byte) ≡ 0)
character-stays zero table byte = (refl, refl)
character-stays (suc levels) table byte = (refl, refl)

text-stays : (levels : ℕ) (table : Table) (bytes : List ℕ) → (replaced levels table (Text bytes) ≡ Text bytes ∷ []) × (names_replaced levels table (Text bytes) ≡ 0)
text-stays zero table bytes = (refl, refl)
text-stays (suc levels) table bytes = (refl, refl)

punctuator-stays : (levels : ℕ) (table : Table) (bytes : List ℕ)
    → (replaced levels table (Punctuator bytes) ≡ Punctuator bytes ∷ []) × (names_replaced levels table (Punctuator bytes) ≡ 0)
punctuator-stays zero table bytes = (refl, refl)
punctuator-stays (suc levels) table bytes = (refl, refl)

-- A token without a number stays.
pub other-stays : (words : List (List ℕ)) (table : Table) (token : MacroToken) → is_number_of words token None ≡ true → IsNoMacro table (plain_kind token)
other-stays words table (code.Word bytes) known = cc
other-stays words table (code.Number type value) known = number-stays (length table) table type value
other-stays words table (code.Character byte) known = character-stays (length table) table byte
other-stays words table (code.Text bytes) known = text-stays (length table) table bytes
other-stays words table (code.Punctuator bytes) known = punctuator-stays (length table) table bytes

-- A token with a number is that number's word.
pub listed_word : (words : List (List ℕ)) (token : MacroToken) (n : ℕ) → is_number_of words token (Some n) ≡ true
    → (plain_kind token ≡ Word (word_at words n)) × (number_in words (word_at words n) ≡ Some n)
listed_word words (code.Word bytes) n known =
    let number = number_is n (number_in words bytes) known in
    let word = number_word words bytes n number in
    (ap Word (sym word), ap (number_in words) word ∙ number)
listed_word words (code.Number type value) n known = cc
listed_word words (code.Character byte) n known = cc
listed_word words (code.Text bytes) n known = cc
listed_word words (code.Punctuator bytes) n known = cc

-- Another name is replaced by its macro.
pub macro-replaces : (words : List (List ℕ)) (table : Table) (frames : List Frame) (n : ℕ) (d : Definition) (f : Frame)
    → number_in words (word_at words n) ≡ Some n → is_hidden words frames (word_at words n) ≡ false
    → macro_of table (word_at words n) ≡ Some (macro_value d) → list_all (is_listed words) d.tokens.items ≡ true
    → f.number ≡ n → f.rest.now ≡ d.tokens.items → Replaces words (shown words table frames) (Word (word_at words n)) f
macro-replaces words table frames n d f number apart found listed numbered rest =
    let name : List ℕ = word_at words n in
    let here : macro_of (shown words table frames) name ≡ Some (macro_value d) =
    shown-lookup words table frames name ∙ ap (λ v. cond v None (macro_of table name)) apart ∙ found in
    rw (numbered, rest) (record {
      there = λ none. cc;
      numbered = and_from (stands_for words n name) (list_all (is_listed words) d.tokens.items) (number_known n (number_in words name) number) listed;
      tokens = replacement-macro (shown words table frames) name (macro_value d) here;
      names = replacement_names-macro (shown words table frames) name (macro_value d) here;
    })

-- Once a token's macro is being replaced, what is left has the macro's tokens in the token's place.
pub entering : (words : List (List ℕ)) (table : Table) (kind : Kind) (frames : List Frame) (f : Frame) → Replaces words (shown words table frames) kind f
    → left words table (frames ++ f ∷ []) ≡ replacement (shown words table frames) kind ++ left words table frames
entering words table kind frames f m = left-snoc words table frames f ∙ ap (λ out. out ++ left words table frames) (sym m.tokens)

pub entering-names : (words : List (List ℕ)) (table : Table) (kind : Kind) (frames : List Frame) (f : Frame) → Replaces words (shown words table frames) kind f
    → 1 + names_left words table (frames ++ f ∷ []) ≡ replacement_names (shown words table frames) kind + names_left words table frames
entering-names words table kind frames f m = let snoc = names_left-snoc words table frames f in let names = m.names in omega arith

-- Its name is hidden from then on.
pub entered : (macros : Macros) (kind : Kind) (old new : Expansion) (f : Frame) → Replaces (words_of macros.words) (shown_by macros old) kind f
    → IsExpansion macros old → new.frames.items ≡ old.frames.items ++ f ∷ [] → Hides old new f.number → IsExpansion macros new
entered macros kind old new f m is frames hides =
    let words = words_of macros.words in
    record {
      stack = rw frames (stack-push words (table_of macros) old.frames.items f is.stack m.there);
      numbered = frames-push words old.frames.items new.frames.items f frames is.numbered m.numbered;
      hides = λ n.
          hides n ∙ ap (λ v. (f.number == n) || v) (is.hides n) ∙ sym (open-snoc old.frames.items f n) ∙ ap (λ fs. is_open fs n) (sym frames);
    }

-- A frame's next token comes before what else is left.
pub advancing : (words : List (List ℕ)) (table : Table) (frames : List Frame) (f g : Frame) (token : ListedToken) → g.number ≡ f.number → f.rest.now ≡ token ∷ g.rest.now
    → left words table (frames ++ f ∷ []) ≡ replacement (shown words table (frames ++ g ∷ [])) (listed_kind token) ++ left words table (frames ++ g ∷ [])
advancing words table frames f g token named rest =
    let inner : Table = undefined (shown words table frames) (name_of words f) in
    let same : undefined (shown words table frames) (name_of words g) ≡ inner = ap (λ n. undefined (shown words table frames) (word_at words n)) named in
    let first : List Kind = replacement inner (listed_kind token) in
    let others : List Kind = flat_map (λ k. replacement inner k) (listed_kinds g.rest.now) in
    left-snoc words table frames f
    ∙ ap (λ ts. flat_map (λ k. replacement inner k) (listed_kinds ts) ++ left words table frames) rest
    ∙ append_assoc first others (left words table frames)
    ∙ ap (λ out. first ++ out)
    (ap (λ t. flat_map (λ k. replacement t k) (listed_kinds g.rest.now) ++ left words table frames) (sym same) ∙ sym (left-snoc words table frames g))
    ∙ ap (λ t. replacement t (listed_kind token) ++ left words table (frames ++ g ∷ [])) (sym same ∙ sym (shown-snoc words table frames g))

pub advancing-names : (words : List (List ℕ)) (table : Table) (frames : List Frame) (f g : Frame) (token : ListedToken) → g.number ≡ f.number → f.rest.now ≡ token ∷ g.rest.now
    → names_left words table (frames ++ f ∷ [])
    ≡ replacement_names (shown words table (frames ++ g ∷ [])) (listed_kind token) + names_left words table (frames ++ g ∷ [])
advancing-names words table frames f g token named rest =
    let inner : Table = undefined (shown words table frames) (name_of words f) in
    let same : undefined (shown words table frames) (name_of words g) ≡ inner = ap (λ n. undefined (shown words table frames) (word_at words n)) named in
    let before = names_left-snoc words table frames f ∙ ap (λ ts. sum_by (λ k. replacement_names inner k) (listed_kinds ts) + names_left words table frames) rest in
    let cons = sum_by-cons (λ k. replacement_names inner k) (listed_kind token) (listed_kinds g.rest.now) in
    let after = names_left-snoc words table frames g ∙ ap (λ t. sum_by (λ k. replacement_names t k) (listed_kinds g.rest.now) + names_left words table frames) same in
    let first = ap (λ t. replacement_names t (listed_kind token)) (shown-snoc words table frames g ∙ same) in
    omega arith

-- The next token is listed, and so are those behind it.
pub next_listed : (macros : Macros) (frames : List Frame) (f g : Frame) (old : Expansion) (token : ListedToken) → g.number ≡ f.number → f.rest.now ≡ token ∷ g.rest.now
    → IsExpansion macros old → old.frames.items ≡ frames ++ f ∷ []
    → (is_listed (words_of macros.words) token ≡ true) × (is_frame (words_of macros.words) g ≡ true)
next_listed macros frames f g old token named rest is before =
    let words = words_of macros.words in
    let known = (frames-parts words old.frames.items frames f before is.numbered).1 in
    let parts = and_parts (stands_for words f.number (name_of words f)) (list_all (is_listed words) f.rest.now) known in
    let tokens = and_parts (is_listed words token) (list_all (is_listed words) g.rest.now) (ap (list_all (is_listed words)) (sym rest) ∙ parts.1) in (
      tokens.0,
      and_from (stands_for words g.number (name_of words g)) (list_all (is_listed words) g.rest.now)
          (ap (λ n. stands_for words n (word_at words n)) named ∙ parts.0) tokens.1,
    )

-- Nothing is hidden or shown by that.
pub advanced : (macros : Macros) (frames : List Frame) (f g : Frame) (old new : Expansion) (token : ListedToken) → g.number ≡ f.number → f.rest.now ≡ token ∷ g.rest.now
    → IsExpansion macros old → old.frames.items ≡ frames ++ f ∷ [] → new.frames.items ≡ frames ++ g ∷ [] → new.hidden ≡ old.hidden → IsExpansion macros new
advanced macros frames f g old new token named rest is before after hidden =
    let words = words_of macros.words in
    let table = table_of macros in
    let stack : IsStack words table (frames ++ f ∷ []) = rw before at is.stack in
    let there : macro_of (shown words table frames) (name_of words g) ≢ None = rw named (stack-top words table frames f stack) in
    record {
      stack = rw after (stack-push words table frames g (stack-pop words table frames f stack) there);
      numbered = frames-push words frames new.frames.items g after (frames-parts words old.frames.items frames f before is.numbered).0
          (next_listed macros frames f g old token named rest is before).1;
      hides = λ n.
          ap (λ s. contains nat_eq s n) hidden ∙ is.hides n ∙ ap (λ fs. is_open fs n) before
          ∙ open-snoc frames f n ∙ ap (λ m. (m == n) || is_open frames n) (sym named)
          ∙ sym (open-snoc frames g n) ∙ ap (λ fs. is_open fs n) (sym after);
    }

-- A frame with no more tokens leaves nothing.
pub ending : (words : List (List ℕ)) (table : Table) (frames : List Frame) (f : Frame) → length f.rest.now ≡ 0 → left words table (frames ++ f ∷ []) ≡ left words table frames
ending words table frames f none =
    left-snoc words table frames f
    ∙ ap (λ ts. flat_map (λ k. replacement (undefined (shown words table frames) (name_of words f)) k) (listed_kinds ts) ++ left words table frames) (nil_from_length f.rest.now none)

pub ending-names : (words : List (List ℕ)) (table : Table) (frames : List Frame) (f : Frame) → length f.rest.now ≡ 0 → names_left words table (frames ++ f ∷ []) ≡ names_left words table frames
ending-names words table frames f none =
    names_left-snoc words table frames f
    ∙ ap (λ ts. sum_by (λ k. replacement_names (undefined (shown words table frames) (name_of words f)) k) (listed_kinds ts) + names_left words table frames)
    (nil_from_length f.rest.now none)
    ∙ omega arith

-- Its name is hidden no more.
pub ended : (macros : Macros) (frames : List Frame) (f : Frame) (old new : Expansion) → IsExpansion macros old
    → old.frames.items ≡ frames ++ f ∷ [] → new.frames.items ≡ frames
    → ((n : ℕ) → is_among new n ≡ cond (f.number == n) false (is_among old n)) → IsExpansion macros new
ended macros frames f old new is before after removed =
    let words = words_of macros.words in
    let table = table_of macros in
    let stack : IsStack words table (frames ++ f ∷ []) = rw before at is.stack in
    let parts = frames-parts words old.frames.items frames f before is.numbered in
    let apart : is_open frames f.number ≡ false =
    sym (hidden-open words frames (name_of words f) f.number parts.0 (frame_number words f parts.1)) ∙ top-shown words table frames f stack in
    let hides : (n : ℕ) → is_among new n ≡ is_open new.frames.items n = λ n.
    let P : Bool → Type 0 = λ v. (f.number == n) ≡ v → cond v false (v || is_open frames n) ≡ is_open frames n in
    let here : P true = λ same. sym apart ∙ ap (λ m. is_open frames m) (eqb-true f.number n same) in
    let cases : (v : Bool) → P v = λ v. elim v as P [ true ↦ here | false ↦ λ same. refl ] in
    removed n
    ∙ ap (λ v. cond (f.number == n) false v) (is.hides n ∙ ap (λ fs. is_open fs n) before ∙ open-snoc frames f n)
    ∙ cases (f.number == n) refl ∙ ap (λ fs. is_open fs n) (sym after) in
    record { stack = rw after (stack-pop words table frames f stack); numbered = rw after parts.0; hides = hides }

-- A macro that is replaced with no other around it.
pub beginning : (words : List (List ℕ)) (table : Table) (name : List ℕ) (frames : List Frame) (f : Frame)
    → Replaces words table (Word name) f → frames ≡ f ∷ []
    → (left words table frames ≡ replacement table (Word name)) × (1 + names_left words table frames ≡ replacement_names table (Word name))
beginning words table name frames f m one =
    let tokens = ap (λ fs. left words table fs) one ∙ entering words table (Word name) [] f m ∙ append-nil (replacement table (Word name)) in
    let names = ap (λ fs. 1 + names_left words table fs) one ∙ entering-names words table (Word name) [] f m ∙ omega arith in
    (tokens, names)

-- Only its name is hidden then.
pub begun : (macros : Macros) (name : List ℕ) (old new : Expansion) (f : Frame)
    → Replaces (words_of macros.words) (table_of macros) (Word name) f → old.frames.items ≡ [] → ((n : ℕ) → is_among old n ≡ false)
    → new.frames.items ≡ old.frames.items ++ f ∷ [] → Hides old new f.number → IsExpansion macros new
begun macros name old new f m empty none frames hides =
    let words = words_of macros.words in
    let table = table_of macros in
    let before : IsExpansion macros old = record {
      stack = rw empty tt;
      numbered = ap (list_all (is_frame words)) empty;
      hides = λ n. none n ∙ ap (λ fs. is_open fs n) (sym empty);
    } in
    entered macros (Word name) old new f (subst (λ fs. Replaces words (shown words table fs) (Word name) f) (sym empty) m) before frames hides
