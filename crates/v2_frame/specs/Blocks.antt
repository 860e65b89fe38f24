-- What a frame and a block need, what a block answers and leaves in the sixteen samples that it is lent, and a row's number.
use Rattle.std.specs.Prelude.{ℕ, ◌≤◌, ◌⊎◌, ◌≡◌, cond, eqb, List, length, Result, Ok, Err}
use Rattle.rules.specs.Limits.{most_side}
use Rattle.rules.specs.declared.answer.Answer.{Answer}
use Rattle.rules.specs.declared.answer.Size.{Size}
use Rattle.rules.specs.declared.v2.V2Hdr.{V2Hdr}
use Rattle.rules.specs.declared.v2.V2Row.{V2Row}
use Rattle.rules.specs.declared.answer.Refusal.TheVariants as Refusal
use Rattle.rules.specs.declared.reader.Taken.{Taken}
use Rattle.rules.specs.Refusals.{refusal_number}
use Rattle.rules.specs.V2.{V2Block, Next, EarlyMotion, Outside, LongDifference, Row}
use Rattle.v2_frame.specs.declared.block.Refused.{Refused}
use Rattle.rules.specs.Frame.{cells}
use Rattle.rules.specs.Ranges.{ScaleAt}
use Rattle.v2_cells.specs.declared.V2Place.{V2Place}
use Rattle.v2_cells.specs.Places.{Inside}

-- A header, a place in a frame of n samples, and a row's state, within the limits.
pub record Ready (h : V2Hdr) (n : ℕ) (at : V2Place) (st : V2Row) : Type 0 where
  pub depth : h.depth ≤ 16
  pub inside : Inside n at
  pub motion : st.motion ≤ 7
  pub scale : ScaleAt at.col st.scale

-- What a frame is lent: a size within the limits, its samples, and a map of the whole frame or an empty one.
pub record FrameLent (size : Size) (out map : List ℕ) : Type 0 where
  pub width : size.width ≤ most_side
  pub height : size.height ≤ most_side
  pub samples_lent : length out ≡ cells size
  pub map_lent : (length map ≡ cells size) ⊎ (length map ≡ 0)

-- A block's outcome as the code answers it.
abbrev pub block_result : V2Block → Result (Taken V2Row) Refused
block_result (Next b st) = Ok (record { value = st; bits = b })
block_result (EarlyMotion b) = Err (record { refusal = Refusal.EarlyMotion; bits = b })
block_result (Outside b) = Err (record { refusal = Refusal.Outside; bits = b })
block_result (LongDifference b) = Err (record { refusal = Refusal.LongDifference; bits = b })

-- The new samples after a block that goes on, the old ones after a refusal.
abbrev pub written : Result (Taken V2Row) Refused → List ℕ → List ℕ → List ℕ
written (Ok x) new old = new
written (Err e) new old = old

-- What is answered at a block of a row: its refusal's number, or 0, the row, and how many words were missing by then.
abbrev pub block_answer : Result (Taken V2Row) Refused → ℕ → Answer
block_answer (Ok next) row = record { number = 0; row = row; filler = next.bits.filler }
block_answer (Err refused) row = record { number = refusal_number refused.refusal; row = row; filler = refused.bits.filler }

-- A row's number in its frame: its own refusal; else 8 where a word was missing by its end, or 0.
abbrev pub row_number : Row → ℕ
row_number q = cond (eqb q.number 0) (cond (eqb q.bits.filler 0) 0 8) q.number
