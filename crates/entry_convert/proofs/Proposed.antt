-- The claim on what an outside optimiser packed, of the entries: a call of `check_packed` that has returned is done exactly of the
-- proposals that are to be taken, and of what a call of `write_v0` made; what it took is decoded back by every V0 decoder's call.
use Rattle.samsung.proofs.Isolation.{Made, ended, checked}
use Rattle.write_rules.specs.Calls.{call}
use Rattle.write_packed.specs.Proposal.{proposal}
use Rattle.write_packed.proofs.Returned.{Checked, Wrote, Claim, claim}
use Rattle.entry_convert.proofs.proposal.check_packed.Kinds as check-kinds
use Rattle.entry_convert.proofs.proposal.check_packed.Reads as check-reads
use Rattle.entry_frames.proofs.writer.write_v0.Kinds as write-kinds
use Rattle.entry_frames.proofs.writer.write_v0.Reads as write-reads

-- A call of the check, and one of the writer, each by its arguments, its result and what it left.
abbrev pub Checks : Type 0
Checks = Made check-kinds.ps check-kinds.r check-reads.Learnt

unfoldable pub checks : Checks → Checked
checks c =
    record {
      proposal = proposal c.args.0.now c.args.1.0.now c.args.1.1.0 c.args.1.1.1.0 c.args.1.1.1.1.0.now;
      scratch = c.args.1.1.1.1.1.0.now;
      answered = c.result;
      left = c.exit.1.1.1.1.1.0.now;
      yields = c.learnt;
    }

abbrev pub Writes : Type 0
Writes = Made write-kinds.ps write-kinds.r write-reads.Learnt

unfoldable pub writes : Writes → Wrote
writes w =
    record {
      call = call w.args.0.now w.args.1.0 w.args.1.1.0 w.args.1.1.1.0.now w.args.1.1.1.1.0.now;
      answered = w.result;
      stream = w.exit.1.1.1.0.now;
      offsets = w.exit.1.1.1.1.0.now;
      yields = w.learnt;
    }

abbrev pub Packed : Type 0
Packed = Claim checks writes ended checked

pub packed : Packed
packed = claim checks writes ended checked
