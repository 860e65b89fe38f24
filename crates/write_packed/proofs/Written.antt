-- What the writer makes of the samples meant is taken, whatever follows its offsets.
use Prim.Native.Nat.{ℕ, ◌<◌, ◌≤◌}
use mathlib.Core.Bool.{false}
use mathlib.Core.Path.{◌≡◌}
use mathlib.Core.List.{List, [], ◌++◌, append-nil}
use native.Mathlib.Omega.{arith}
use lib.IntN.{ℤ, pos, negsuc}
use lib.ListN.{length, take, length-append}
use lib.Seq.{length-take-le}
use Rattle.rules.specs.Limits.{most_side, sample_bound}
use Rattle.rules.specs.declared.answer.Size.{Size}
use Rattle.rules.specs.declared.reader.Bits.{Bits}
use Rattle.rules.specs.declared.v0.V0Head.{V0Head}
use Rattle.rules.specs.Frame.{cells}
use Rattle.rules.specs.V0.{predictor, blocks_in, sample_kind, exchange}
use Rattle.rules.specs.Ranges.{Between, not_above}
use Rattle.rules.specs.Answer.{done}
use Rattle.rules.proofs.Cells.{All, all_map}
use Rattle.rules.proofs.Missing.{frame_none}
use Rattle.rules.proofs.V0Blocks.{EachInRow, each_block_map}
use Rattle.rules_clean.proofs.Verdicts.{Clean}
use Rattle.write_rules.specs.Writer.{residuals, stream_for, offsets_for}
use Rattle.write_rules.proofs.Rows.{offsets_length}
use Rattle.write_rules.proofs.V0Written.{UpTo16, WrittenBlock}
use Rattle.write_rules.proofs.V0RoundTrip.{Holds, written_holds, stream_bytes}
use Rattle.write_packed.specs.Proposal.{Proposal, answer}
use Rattle.write_packed.proofs.Exactly.{Accepted, accepted_done}

-- ── A stream that holds a frame is clean ──

upto_between : (l : ℤ) → UpTo16 l → Between 0 16 l
upto_between (pos n) h = not_above n h
upto_between (negsuc n) h = absurd h

pub holds_clean : (s offsets : List ℕ) (z : Size) (f : List ℕ) → Holds s offsets z f → Clean s offsets z
holds_clean s offsets z f h =
    record {
      downward = λ row early l. of row (λ h b. h.up ≡ false) (λ h b q. q.level) l;
      lengths = λ row l. of row (λ h b. All (Between 0 16) h.row.lengths) (λ h b q. all_map UpTo16 (Between 0 16) upto_between q.lengths) l;
      no_filler = frame_none s offsets z h.no_filler;
    }
  where
    of : (row : ℕ) (P : V0Head → Bits → Type 0) → ((h : V0Head) (b : Bits) → WrittenBlock h b → P h b) → row < z.height → EachInRow P s offsets z row
    of row P g l = each_block_map s _ (predictor z row) WrittenBlock P g (blocks_in z.width) 0 _ (h.blocks row l)

-- ── The writer's own ──

module _ (z : Size) (wide : z.width ≤ most_side) (high : z.height ≤ most_side) (meant : List ℕ) (enough : cells z ≤ length meant)
    (dim : All (λ a. a < sample_bound) (take (cells z) meant)) (others : List ℕ) where
  abbrev f : List ℕ
  f = take (cells z) meant

  -- Its stream, and its offsets with anything after them.
  abbrev pub written : Proposal
  written = record { stream = stream_for z f; offsets = offsets_for z f ++ others; size = z; meant = meant }

  long : length f ≡ cells z
  long = length-take-le (cells z) meant enough

  holds : Holds (stream_for z f) (offsets_for z f ++ others) z f
  holds = rw (append-nil (stream_for z f)) at (written_holds z f long dim [] others (rw (append-nil (stream_for z f)) (stream_bytes z f wide high)))

  rows : z.height ≤ length (offsets_for z f ++ others)
  unfolding offsets_for
  rows = omega (arith, length-append (offsets_for z f) others, offsets_length (residuals z.width (exchange sample_kind z f)) z.height 0 0)

  module _ (scratch : List ℕ) (room : cells z ≤ length scratch) where
    accepted : Accepted written scratch
    accepted =
        record {
          begun = record {
            wide = wide;
            high = high;
            meant_enough = enough;
            dim = dim;
            scratch_enough = room;
            offsets_enough = rows;
            clean = holds_clean _ _ z f holds;
            no_longer = omega arith;
          };
          frame = holds.direct_back (take (cells z) scratch) (length-take-le (cells z) scratch room);
        }

    pub written_accepted : answer written scratch ≡ done
    written_accepted = accepted_done written scratch accepted
