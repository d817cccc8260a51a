-- A small memory of which each byte is live: its frames stand one below the other, and aren't set to zero.
use Rattle.std.specs.Prelude.{ℕ, ◌+◌, ◌-◌, nat_le, if◌then◌else◌, List, length, take, drop}
use Rattle.css_base.specs.declared.rule.Rule.TheVariants.{MainStack}
use Rattle.css_semantics.specs.Dialogue.{Action, Enter, Leave, Load, Store, Reply, Says, Fails, Refuses}
use Rattle.css_semantics.specs.Memory.{big_endian, overlaid}

-- its bytes from address 0 on, and where its frames begin
pub record Seen : Type 0 where
  pub bytes : List ℕ
  pub place : ℕ

abbrev pub ram_place : Seen → ℕ
ram_place m = m.place

abbrev pub ram_reply : Seen → Action → Reply
ram_reply m (Enter size) = if nat_le size m.place then Says (m.place - size) else Refuses MainStack
ram_reply m (Leave base size) = if nat_le (m.place + size) (length m.bytes) then Says 0 else Fails
ram_reply m (Load address width) = if nat_le (address + width) (length m.bytes) then Says (big_endian (take width (drop address m.bytes))) else Fails
ram_reply m (Store address bytes) = if nat_le (address + length bytes) (length m.bytes) then Says 0 else Fails
ram_reply m _ = Says 0

abbrev pub ram_learn : Seen → Action → Seen
ram_learn m (Enter size) = record { bytes = m.bytes; place = m.place - size }
ram_learn m (Leave base size) = record { bytes = m.bytes; place = m.place + size }
ram_learn m (Store address bytes) = record { bytes = overlaid 0 m.bytes address bytes; place = m.place }
ram_learn m _ = m
