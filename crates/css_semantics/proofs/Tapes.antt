-- Tapes that grow, and steps that follow one another.
use Rattle.std.proofs.Common.{◌≡◌, ℕ, List, [], ◌∷◌, ◌++◌, refl, sym, ap, ◌∙◌, append_assoc}
use Rattle.std.proofs.lemmas.List.{append-nil}
use Rattle.css_semantics.specs.Dialogue.{Action, Item, Tape, Reply, Says, Fails, Refuses, World, Outcome, Goes, Stops, tape_of, then_do, replied, ask, tell, item, output, written_by}

-- ---- what follows an outcome

-- two continuations, grouped either way
pub then_assoc : {A B C : Type 0} (o : Outcome A) (f : A → Tape → Outcome B) (g : B → Tape → Outcome C) → then_do (then_do o f) g ≡ then_do o (λ a t. then_do (f a t) g)
then_assoc (Goes a t) f g = refl
then_assoc (Stops why t) f g = refl

-- to go on with the value alone changes nothing
pub then_goes : {A : Type 0} (o : Outcome A) → then_do o Goes ≡ o
then_goes (Goes a t) = refl
then_goes (Stops why t) = refl

-- ---- tapes that grow

-- a tape with newer items in front
pub record Extends (before after : Tape) : Type 0 where
  pub news : List Item
  pub is : after ≡ news ++ before

pub extends_same : (t : Tape) → Extends t t
extends_same t = record { news = []; is = refl }

pub extends_more : {before between after : Tape} → Extends before between → Extends between after → Extends before after
extends_more {before} {between} {after} one two =
    record { news = two.news ++ one.news; is = two.is ∙ ap (λ t. two.news ++ t) one.is ∙ sym (append_assoc two.news one.news before) }

pub extends_item : (i : Item) (t : Tape) → Extends t (i ∷ t)
extends_item i t = record { news = i ∷ []; is = refl }

-- a reply does the item, or the item and a fault, or nothing
replied-extends : (r : Reply) (i : Item) (t : Tape) → Extends t (tape_of (replied r i t))
replied-extends (Says value) i t = extends_item i t
replied-extends Fails i t = extends_more (extends_item i t) (extends_item _ (i ∷ t))
replied-extends (Refuses rule) i t = extends_same t

pub ask-extends : (w : World) (a : Action) (line : ℕ) (t : Tape) → Extends t (tape_of (ask w a line t))
ask-extends w a line t = replied-extends (w t (item a line)) (item a line) t

pub then-extends : {A B : Type 0} (t : Tape) (o : Outcome A) (go : A → Tape → Outcome B) → Extends t (tape_of o)
    → ((a : A) (t' : Tape) → Extends t' (tape_of (go a t'))) → Extends t (tape_of (then_do o go))
then-extends t (Goes value t') go first later = extends_more first (later value t')
then-extends t (Stops why t') go first later = first

pub tell-extends : {A : Type 0} (w : World) (a : Action) (line : ℕ) (value : A) (t : Tape) → Extends t (tape_of (tell w a line value t))
tell-extends w a line value t = then-extends t (ask w a line t) (λ r t'. Goes value t') (ask-extends w a line t) (λ r t'. extends_same t')

-- ---- what a tape writes

-- what a tape writes that grew
pub output-append : (news before : Tape) → output (news ++ before) ≡ output before ++ output news
output-append [] before = sym (append-nil (output before))
output-append (i ∷ news) before =
    ap (λ bytes. bytes ++ written_by i.action) (output-append news before) ∙ append_assoc (output before) (output news) (written_by i.action)

pub output-extends : {before after : Tape} (e : Extends before after) → output after ≡ output before ++ output e.news
output-extends {before} {after} e = ap output e.is ∙ output-append e.news before
