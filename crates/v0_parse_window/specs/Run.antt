-- A run: blocks by position one after another, as long as each one's lengths are short and the stream has room for a block.
use Rattle.std.specs.Prelude.{ℕ, zero, suc, ◌+◌, ◌-◌, ◌*◌, Bool, cond, ◌&&◌, List, length, nat_le}
use Rattle.rules.specs.V0.{head}
use Rattle.rules.specs.declared.reader.Bits.{Bits}
use Rattle.rules.specs.declared.v0.V0Row.{V0Row}
use Rattle.read_window.specs.Window.{standing_in}
use Rattle.v0_parse.specs.Block.{whole_block}
use Rattle.v0_parse_window.specs.ByWindow.{last_start, short}

-- The last bit of the stream that a block of a run may begin at, the run beginning at a state.
abbrev pub last_bit : List ℕ → Bits → ℕ
last_bit s b = (b.pos - 12) * 8 + last_start (length s - (b.pos - 12))

-- Whether a run goes on with the block that a row's state stands before: it begins no later than at `last`, and its lengths are short.
unfoldable pub goes_on : List ℕ → ℕ → V0Row → Bool
goes_on s last st = nat_le (st.bits.pos * 8 - st.bits.count) last && short (head s st).row.lengths

-- How many blocks the run has, of n that lie within the row.
unfoldable pub run_length : List ℕ → ℕ → ℕ → V0Row → ℕ
run_length s last zero st = 0
run_length s last (suc n) st = cond (goes_on s last st) (suc (run_length s last n (whole_block s st).row)) 0

-- The same where the run begins, which asks for short lengths before it and for a state that stands in the stream.
unfoldable pub blocks_of_run : List ℕ → ℕ → V0Row → ℕ
blocks_of_run s n st = cond (short st.lengths && standing_in s st.bits 80) (run_length s (last_bit s st.bits) n st) 0
