-- The host's reader after each of its calls: the stream stays, and the state goes by the rules.
use Rattle.std.specs.Prelude.{ℕ}
use Rattle.rules.specs.Reader.{read, reset_at}
use Rattle.read_ph1bits.specs.declared.Ph1Bits.{Ph1Bits}

-- After a read of n bits.
abbrev pub stepped : Ph1Bits → ℕ → Ph1Bits
stepped r n = record { «data» = r.«data»; state = (read r.«data».now r.state n).bits }

-- After a reset to p.
abbrev pub moved : Ph1Bits → ℕ → Ph1Bits
moved r p = record { «data» = r.«data»; state = reset_at r.state p }
