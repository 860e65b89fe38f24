-- No earlier frame reaches a sample that is marked 0: the claim of the eight entry points.
--
-- Promised. Take every two lists of calls of the entry points, of any decoders, with or without a map, refused ones among them,
-- each list on one sample buffer: a call is lent the buffer, or the part of it that starts at its first sample, as the call before
-- left it, and nobody else writes it. If the last calls of the two lists are alike in decoder, stream, offsets, size and the
-- lengths of what they are lent, and both end with done or 5 to 8, then (a) their answers are equal, with the count of missing
-- words; (b) the first N bytes of a map that either is lent are the rules', which stream, offsets and size alone set, so they are
-- equal too, whole; by the first part of its byte a sample is marked 0 or 1: (c) every one of the first N samples that is marked 0
-- is equal; (d) in V0 a sample marked 1 is the sample that its call found at one position plus an amount, modulo 65,536, both set
-- by stream, offsets and size alone, and the position is below N.
-- A call in bands that is done counts as the two-phase call that it equals, by whatever cut and list of steps; the rules' marks are
-- that call's. A call for clean frames that is done counts as the direct call that it equals.
-- Free. How long the lists are and what came before; what the buffers first held; what maps and scratch hold at entry.
-- Not promised. Samples marked 1 in V2, what lies past N, and calls that end with 1 to 4, 11, 12 or 17 to 19, which change
-- nothing.
--
-- A call that has returned is what was handed in, what came out, and what the function's own contract, as `src/` states it, says of
-- them (`Learnt`); that the code meets those contracts is each function's theorem `met`. `razvolk/proofs/Promises.antt` holds the claim
-- beside those theorems of the exports, whose calls are calls of the entry points.
use mathlib.Core.Path.{◌≡◌, refl}
use mathlib.Core.List.{List, []}
use mathlib.Core.Option.{none, some}
use Prim.Native.Nat.{ℕ}
use contract.Lifetimes.{Lfts}
use borrow.Fn.Kinds.{ParamKind, ResultKind, Dens, Out, res_t, ended_of}
use denote.Triple.Clauses.{AtExit}
use Rattle.rules.specs.Answer.{ask, buffers}
use Rattle.rules.specs.Answer as Answer
use Rattle.rules.proofs.Isolation.{Returned, Step, decodes}
use Rattle.rules.proofs.Isolation as Rules
use Rattle.samsung.proofs.direct.decode_v0_reference.Kinds as direct-kinds
use Rattle.samsung.proofs.direct.decode_v0_reference.Reads as direct-reads
use Rattle.samsung.proofs.direct.decode_v0_reference_map.Kinds as direct-map-kinds
use Rattle.samsung.proofs.direct.decode_v0_reference_map.Reads as direct-map-reads
use Rattle.samsung.proofs.two_phase.decode_v0.Kinds as phases-kinds
use Rattle.samsung.proofs.two_phase.decode_v0.Reads as phases-reads
use Rattle.rules_bands.specs.Call as Bands
use Rattle.rules_bands.proofs.Lists as Bands-lists
use Rattle.samsung.proofs.in_bands.decode_v0_bands.Kinds as bands-kinds
use Rattle.samsung.proofs.in_bands.decode_v0_bands.Reads as bands-reads
use Rattle.rules_clean.proofs.Lists as Clean-lists
use Rattle.samsung.proofs.clean.decode_v0_clean.Kinds as clean-kinds
use Rattle.samsung.proofs.clean.decode_v0_clean.Reads as clean-reads
use Rattle.samsung.proofs.clean.decode_v0_clean_map.Kinds as clean-map-kinds
use Rattle.samsung.proofs.clean.decode_v0_clean_map.Reads as clean-map-reads
use Rattle.samsung.proofs.v2_entries.decode_v2.Kinds as v2-kinds
use Rattle.samsung.proofs.v2_entries.decode_v2.Reads as v2-reads
use Rattle.samsung.proofs.v2_entries.decode_v2_map.Kinds as v2-map-kinds
use Rattle.samsung.proofs.v2_entries.decode_v2_map.Reads as v2-map-reads

-- ── The statement ──

-- A call that has returned, of a function whose contract says `Learnt` of it.
pub record Made {n : ℕ} (ps : List (ParamKind n)) (r : ResultKind n) (Learnt : Out n ps r) : Type 0 where
  pub κs : Lfts n
  pub args : Dens κs ps
  pub result : (res_t r κs).Denot
  pub exit : AtExit (ended_of n ps r) κs
  pub learnt : Learnt κs args result exit

-- A call of one of the five entry points whose contracts are the plain rules.
pub data Call : Type 0 where
  direct : Made direct-kinds.ps direct-kinds.r direct-reads.Learnt → Call
  direct_map : Made direct-map-kinds.ps direct-map-kinds.r direct-map-reads.Learnt → Call
  two_phase : Made phases-kinds.ps phases-kinds.r phases-reads.Learnt → Call
  v2 : Made v2-kinds.ps v2-kinds.r v2-reads.Learnt → Call
  v2_map : Made v2-map-kinds.ps v2-map-kinds.r v2-map-reads.Learnt → Call

-- What a call asked, found, answered and left: its arguments, its result and its parameters at exit. Its contract says that these
-- go by the rules.
unfoldable pub returned : Call → Returned
returned (direct c) =
    record {
      ask = ask Answer.direct c.args.0.now c.args.1.0.now c.args.1.1.0 c.args.1.1.1.0;
      found = buffers c.args.1.1.1.1.0.now none none;
      answered = c.result;
      left = buffers c.exit.1.1.1.1.0.now none none;
      yields = c.learnt;
    }
returned (direct_map c) =
    record {
      ask = ask Answer.direct c.args.0.now c.args.1.0.now c.args.1.1.0 c.args.1.1.1.0;
      found = buffers c.args.1.1.1.1.0.now (some c.args.1.1.1.1.1.0.now) none;
      answered = c.result;
      left = buffers c.exit.1.1.1.1.0.now (some c.exit.1.1.1.1.1.0.now) none;
      yields = c.learnt;
    }
returned (two_phase c) =
    record {
      ask = ask Answer.two_phase c.args.0.now c.args.1.0.now c.args.1.1.0 c.args.1.1.1.0;
      found = buffers c.args.1.1.1.1.0.now none (some c.args.1.1.1.1.1.0.now);
      answered = c.result;
      left = buffers c.exit.1.1.1.1.0.now none (some c.exit.1.1.1.1.1.0.now);
      yields = c.learnt;
    }
returned (v2 c) =
    record {
      ask = ask Answer.v2 c.args.0.now [] c.args.1.0 c.args.1.1.0;
      found = buffers c.args.1.1.1.0.now none none;
      answered = c.result;
      left = buffers c.exit.1.1.1.0.now none none;
      yields = c.learnt;
    }
returned (v2_map c) =
    record {
      ask = ask Answer.v2 c.args.0.now [] c.args.1.0 c.args.1.1.0;
      found = buffers c.args.1.1.1.0.now (some c.args.1.1.1.1.0.now) none;
      answered = c.result;
      left = buffers c.exit.1.1.1.0.now (some c.exit.1.1.1.1.0.now) none;
      yields = c.learnt;
    }

-- A call of the entry point in bands: what it was handed, and what its contract says of it.
abbrev pub Banded : Type 0
Banded = Made bands-kinds.ps bands-kinds.r bands-reads.Learnt

abbrev pub called : Banded → Bands.Call
called c =
    Bands.call c.args.0.now c.args.1.0.now c.args.1.1.0 c.args.1.1.1.0 c.args.1.1.1.1.0.now
    c.args.1.1.1.1.1.0.now c.args.1.1.1.1.1.1.0 c.args.1.1.1.1.1.1.1.0 c.args.1.1.1.1.1.1.1.1.0.now

abbrev pub yielded : (c : Banded) → Bands.Yields (called c) c.result c.exit.1.1.1.1.0.now c.exit.1.1.1.1.1.0.now
yielded c = c.learnt

-- A call of one of the two entry points for clean frames, and what its contract says of it.
pub data Cleaned : Type 0 where
  clean : Made clean-kinds.ps clean-kinds.r clean-reads.Learnt → Cleaned
  clean_map : Made clean-map-kinds.ps clean-map-kinds.r clean-map-reads.Learnt → Cleaned

unfoldable pub checked : Cleaned → Clean-lists.Checked
checked (clean c) =
    record {
      ask = ask Answer.direct c.args.0.now c.args.1.0.now c.args.1.1.0 c.args.1.1.1.0;
      direct = refl;
      samples = c.args.1.1.1.1.0.now;
      map = none;
      answered = c.result;
      left = c.exit.1.1.1.1.0.now;
      left_map = none;
      yields = c.learnt;
    }
checked (clean_map c) =
    record {
      ask = ask Answer.direct c.args.0.now c.args.1.0.now c.args.1.1.0 c.args.1.1.1.0;
      direct = refl;
      samples = c.args.1.1.1.1.0.now;
      map = some c.args.1.1.1.1.1.0.now;
      answered = c.result;
      left = c.exit.1.1.1.1.0.now;
      left_map = some c.exit.1.1.1.1.1.0.now;
      yields = c.learnt;
    }

-- A call of one of the eight entry points, and what it does to the sample buffer.
pub data Entry : Type 0 where
  plain : Call → Entry
  in_bands : Banded → Entry
  for_clean : Cleaned → Entry

unfoldable pub step : Entry → Step
step (plain c) = decodes (returned c)
step (in_bands c) = Bands-lists.step (called c) c.result _ _ (yielded c)
step (for_clean c) = Clean-lists.step (checked c)

-- A last call: of the plain ones any, in bands and for clean frames one that is done.
pub data Last : Type 0 where
  last : Call → Last
  last_in_bands : (c : Banded) → c.result.number ≡ 0 → Last
  last_clean : (c : Cleaned) → (checked c).answered.number ≡ 0 → Last

unfoldable pub ended : Last → Returned
ended (last c) = returned c
ended (last_in_bands c e) = Bands-lists.returned (called c) c.result _ _ (yielded c) e
ended (last_clean c e) = Clean-lists.returned (checked c) e

-- The claim: of every two lists of calls of the entry points.
abbrev pub Isolation : Type 0
Isolation = Rules.Isolation step ended

pub isolation : Isolation
isolation = Rules.isolation step ended
