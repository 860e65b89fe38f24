-- What phase one makes of a block.
use Rattle.std.specs.Prelude.{ℕ, ◌*◌, ◌≡◌, cond, List, set}
use Rattle.rules.specs.V0.{order}
use Rattle.rules.specs.Phases.{store_samples}
use Rattle.rules.specs.declared.v0.V0Row.{V0Row}
use Rattle.v0_parse.specs.Block.{whole_block}

-- Block k of a row of w samples, from a row's state to the next: its residuals in their places, and its direction's byte.
pub record Parsed (s : List ℕ) (st : V0Row) (w k : ℕ) (out dirs : List ℕ) (st' : V0Row) (out' dirs' : List ℕ) : Type 0 where
  pub state : st' ≡ (whole_block s st).row
  pub residuals : out' ≡ store_samples 0 w (k * 16) order (whole_block s st).residuals out
  pub directions : dirs' ≡ set dirs k (cond (whole_block s st).up 1 0)
