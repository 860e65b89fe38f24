-- The worked examples that are proved (docs/RULES.md, "Proved examples"), as one list. `proofs/Examples.antt` proves the one claim,
-- that in each what the rules give is what is stated.
use Rattle.std.specs.Prelude.{ℕ, suc, List, [], ◌∷◌, ◌++◌, ℤ, pos, negsuc, replicate}
use Rattle.std.proofs.Math.Option.{some}
use Rattle.rules.specs.declared.answer.Size.{Size}
use Rattle.rules.specs.declared.reader.Got.{Got}
use Rattle.rules.specs.declared.v2.V2Hdr.{V2Hdr}
use Rattle.rules.specs.Reader.{fresh, read, fields, read_signed}
use Rattle.rules.specs.Frame.{tabulate}
use Rattle.rules.specs.V0 as V0
use Rattle.rules.specs.V2 as V2
use Rattle.rules.specs.Map as Map
use Rattle.rules.specs.Answer as Answer

-- What the rules give, and what is stated.
pub record Example : Type 0 where
  pub given : List ℕ
  pub stated : List ℕ

abbrev size : ℕ → ℕ → Size
size w h = record { width = w; height = h }

-- A number's sign, 1 below 0, and its magnitude.
abbrev of_ℤ : ℤ → List ℕ
of_ℤ (pos n) = 0 ∷ n ∷ []
of_ℤ (negsuc n) = 1 ∷ suc n ∷ []

-- The read of one bit of three bytes.
abbrev one_of_three : ℕ → ℕ → ℕ → Got
one_of_three x y z = read (x ∷ y ∷ z ∷ []) (fresh 0) 1

-- The stream of the job's example, with offsets 0 and 4.
abbrev job_stream : List ℕ
job_stream = 0x00 ∷ 0x00 ∷ 0x00 ∷ 0x80 ∷ 0x18 ∷ 0x20 ∷ 0xA0 ∷ 0x7F ∷ 0x00 ∷ 0x00 ∷ 0x70 ∷ 0x00 ∷ []

-- A stream whose last sample is spill, with offsets 0 and 8.
abbrev spill_stream : List ℕ
spill_stream =
    0x18 ∷ 0x20 ∷ 0xA0 ∷ 0x7F ∷ 0x00 ∷ 0x00 ∷ 0x70 ∷ 0x00 ∷ 0x08 ∷ 0x00 ∷ 0xA0 ∷ 0xFF ∷ 0x00 ∷ 0x00 ∷ 0x00 ∷ 0x00 ∷ []

-- One sample and no bytes.
abbrev one_by_one : Answer.Ask
one_by_one = record { decoder = Answer.direct; stream = []; offsets = 0 ∷ []; size = size 1 1 }

abbrev one_lent : Answer.Lent
one_lent = record { samples = 1; map = some 1; scratch = 0 }

abbrev no_bytes : V2Hdr
no_bytes = (V2.header []).value

-- The block in row 0, column 0 at a depth, with options 7, where every remembered length is 0. Its first bit is 0, which gives
-- motion 7 by option 2, and then comes flag 2.
abbrev one_less : ℕ → ℕ
one_less depth =
    V2.number
    (V2.read_block (0x00 ∷ 0x00 ∷ 0x00 ∷ 0x40 ∷ []) (record { depth = depth; options = 7; initial = 0 }) 646 0 0
    (fresh 0) V2.fresh_row (replicate 3 (replicate 2 0))).outcome

-- A header of depth 8.
abbrev depth_8 : V2Hdr
depth_8 = record { depth = 8; options = 0; initial = 0 }

-- The list, over old samples a, b, c and d, and three bytes x, y and z. A depth is 1 to 16, as the header's 4 bits give it.
unfoldable pub examples : ℕ → ℕ → ℕ → ℕ → ℕ → ℕ → ℕ → List Example
examples a b c d x y z =
    record { given = (fields (0x78 ∷ 0x56 ∷ 0x34 ∷ 0x12 ∷ []) (4 ∷ 4 ∷ 4 ∷ []) (fresh 0)).values; stated = 1 ∷ 2 ∷ 3 ∷ [] }
    ∷ record {
      given = (one_of_three x y z).value ∷ (one_of_three x y z).bits.filler ∷ (one_of_three x y z).bits.pos ∷ [];
      stated = 1 ∷ 1 ∷ 4 ∷ [];
    }
    ∷ record { given = V0.decoded job_stream (0 ∷ 4 ∷ []) (size 2 2) (7 ∷ 8 ∷ 9 ∷ 10 ∷ []); stated = 7 ∷ 131 ∷ 8 ∷ 126 ∷ [] }
    ∷ record { given = Map.v0_map job_stream (0 ∷ 4 ∷ []) (size 2 2); stated = 1 ∷ 0 ∷ 1 ∷ 0 ∷ [] }
    ∷ record {
      given = V0.decoded spill_stream (0 ∷ 8 ∷ []) (size 2 2) (a ∷ b ∷ c ∷ d ∷ []);
      stated = 131 ∷ 132 ∷ 126 ∷ 128 ∷ [];
    }
    ∷ record { given = Map.v0_map spill_stream (0 ∷ 8 ∷ []) (size 2 2); stated = 0 ∷ 0 ∷ 0 ∷ 0 ∷ [] }
    ∷ record {
      given = (Answer.answer one_by_one one_lent).number
          ∷ (Answer.answer one_by_one one_lent).row
          ∷ (Answer.answer one_by_one one_lent).filler
          ∷ Answer.samples_after one_by_one one_lent (a ∷ []) ++ Answer.map_after one_by_one one_lent (0 ∷ []);
      stated = 0 ∷ 0 ∷ 1 ∷ a ∷ 3 ∷ [];
    }
    ∷ record { given = no_bytes.depth ∷ no_bytes.options ∷ no_bytes.initial ∷ []; stated = 16 ∷ 15 ∷ 16_383 ∷ [] }
    ∷ record { given = of_ℤ (read_signed (0 ∷ 0 ∷ 0 ∷ 0b1000_0000 ∷ []) (fresh 0) 4).value; stated = 1 ∷ 8 ∷ [] }
    ∷ record {
      given = (V2.sample_kind (V2.top depth_8)).adjust (pos 2) (pos 3) 100
          ∷ (V2.sample_kind (V2.top depth_8)).adjust (pos 2) (pos 3) 250
          ∷ (V2.sample_kind (V2.top depth_8)).adjust (negsuc 1) (negsuc 1) 3
          ∷ [];
      stated = 117 ∷ 255 ∷ 7 ∷ [];
    }
    ∷ record { given = (V2.sample_kind (V2.top depth_8)).average 4 7 ∷ []; stated = 6 ∷ [] }
    ∷ record { given = tabulate 16 1 one_less; stated = replicate 16 7 }
    ∷ []

-- Beside them the job program's example: its input, and the text "done", "0: 0* 131", "1: 0* 126".
abbrev pub job_input : List ℕ
job_input =
    0x53 ∷ 0x4D ∷ 0x52 ∷ 0x01 ∷ 0x00 ∷ 0x02 ∷ 0x00 ∷ 0x02 ∷ 0x00 ∷ 0x00 ∷ 0x00 ∷ 0x00 ∷ 0x00 ∷ 0x04 ∷ 0x00 ∷ 0x00 ∷ 0x00
    ∷ job_stream

abbrev pub job_output : List ℕ
job_output =
    (100 ∷ 111 ∷ 110 ∷ 101 ∷ 10 ∷ [])
    ++ (48 ∷ 58 ∷ 32 ∷ 48 ∷ 42 ∷ 32 ∷ 49 ∷ 51 ∷ 49 ∷ 10 ∷ [])
    ++ (49 ∷ 58 ∷ 32 ∷ 48 ∷ 42 ∷ 32 ∷ 49 ∷ 50 ∷ 54 ∷ 10 ∷ [])
