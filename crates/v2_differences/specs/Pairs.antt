-- Two differences of one length.
use Rattle.std.specs.Prelude.{ℕ, List, ℤ}
use Rattle.rules.specs.Reader.{read_signed}
use Rattle.rules.specs.declared.reader.Bits.{Bits}
use Rattle.rules.specs.declared.reader.Taken.{Taken}

-- One read after another.
unfoldable pub signed_pair : List ℕ → ℕ → Bits → Taken (ℤ × ℤ)
signed_pair s n b =
    let x = read_signed s b n in
    let y = read_signed s x.bits n in
    record { value = (x.value, y.value); bits = y.bits }
