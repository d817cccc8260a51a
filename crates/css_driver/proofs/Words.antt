-- What words ask for that are read.
use Rattle.std.proofs.Common.{◌≡◌, ℕ, zero, suc, ◌<◌, List, refl, sym, ap, ◌∙◌, subst, arith}
use Rattle.std.specs.Prelude.{Contains}
use Rattle.std.proofs.lemmas.List.Elements.{All-weaker}
use Rattle.css_words.specs.declared.built.Built.{Built}
use Rattle.css_words.specs.declared.command.Command.{Command}
use Rattle.css_words.specs.declared.options.OptionName.{OptionName}
use Rattle.css_words.specs.declared.request.Request.{Request}
use Rattle.css_words.specs.Items.{Given}
use Rattle.css_words.specs.Reading.{Reads, IsAllowed, IsOptionOf}
use Rattle.css_words.specs.Reading as reading
use Rattle.css_words.proofs.Readings.{one_reading}
use Rattle.css_driver.specs.Request.{Offer, offer_of, plain, whole, Asks, AreRefused, IsServed}

-- two programs that offer the same read words alike
module _ (one other : Built) (same : offer_of one ≡ offer_of other) where
  same_option : (command : Command) (option : OptionName) → IsOptionOf one command option → IsOptionOf other command option
  same_option command option of =
      record { belongs = of.belongs; is_built = subst (λ (o : Offer). Contains o.options option) same of.is_built }

  same_allowed : (command : Command) (operand : List ℕ) (given : List Given) → IsAllowed one command operand given → IsAllowed other command operand given
  same_allowed command operand given allowed =
      record {
        is_built = subst (λ (o : Offer). Contains o.commands command) same allowed.is_built;
        options = All-weaker (λ g. IsOptionOf one command g.0) (λ g. IsOptionOf other command g.0) (λ g of. same_option command g.0 of) given allowed.options;
        once = allowed.once;
        values = allowed.values;
        wanted = allowed.wanted;
        of_command = allowed.of_command;
      }

  same_reading : (words : List (List ℕ)) (request : Request) → Reads one words request → Reads other words request
  same_reading words request reads =
      record {
        program = reads.program;
        command = reads.command;
        others = reads.others;
        given = reads.given;
        operand = reads.operand;
        words_are = reads.words_are;
        says = reads.says;
        allowed = same_allowed reads.command reads.operand reads.given reads.allowed;
        asked = reads.asked;
      }

-- words with a reading ask for it
pub asks_read : (words : List (List ℕ)) (built : Built) (request : Request) → Reads built words request → Asks (offer_of built) words request
asks_read words built request reads = record { built = built; is_offered = refl; reads = reads }

-- words without a reading ask for nothing
pub refused_unread : (words : List (List ℕ)) (built : Built) → reading.AreRefused built words → AreRefused (offer_of built) words
refused_unread words built refused other is request reads = refused request (same_reading other built is words request reads)

-- what is read is served, where all that is offered is
pub read_served : (words : List (List ℕ)) (built : Built) (request : Request) → ((order : Command) → Contains built.commands.now order → IsServed order) → Reads built words request
    → IsServed request.command
read_served words built request served reads =
    subst IsServed (sym (ap (λ (r : Request). r.command) reads.asked)) (served reads.command reads.allowed.is_built)

module _ (offer : Offer) (words : List (List ℕ)) where
  -- words that are refused ask for nothing
  pub asks_nothing : (request : Request) → AreRefused offer words → Asks offer words request → ⊥
  asks_nothing request refused asks = refused asks.built asks.is_offered request asks.reads

  -- words ask for one thing
  pub one_request : (request other : Request) → Asks offer words request → Asks offer words other → request ≡ other
  one_request request other one two =
      one_reading one.built words request other one.reads
      (same_reading two.built one.built (two.is_offered ∙ sym one.is_offered) words other two.reads)

-- ---- what is offered is served

pub plain_served : (order : Command) → Contains plain.commands order → IsServed order
plain_served order (zero, below, is) = subst IsServed is tt
plain_served order (suc zero, below, is) = subst IsServed is tt
plain_served order (suc (suc k), below, is) = absurd (let last : suc (suc k) < 2 = below in omega arith)

pub whole_served : (order : Command) → Contains whole.commands order → IsServed order
whole_served order (zero, below, is) = subst IsServed is tt
whole_served order (suc zero, below, is) = subst IsServed is tt
whole_served order (suc (suc zero), below, is) = subst IsServed is tt
whole_served order (suc (suc (suc k)), below, is) = absurd (let last : suc (suc (suc k)) < 3 = below in omega arith)

-- so what words ask for of all that is built is served
pub asks_served : (words : List (List ℕ)) (request : Request) → Asks whole words request → IsServed request.command
asks_served words request asks =
    read_served words asks.built request (λ order has. whole_served order (subst (λ (o : Offer). Contains o.commands order) asks.is_offered has)) asks.reads
