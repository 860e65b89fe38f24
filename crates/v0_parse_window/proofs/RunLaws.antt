-- How many blocks a run has, by position: what each way out of a loop over them decides, and what a turn leaves.
use Rattle.std.proofs.Common.{◌≡◌, ℕ, zero, suc, ◌+◌, ◌-◌, ◌*◌, ◌<◌, ◌≤◌, true, false, List, ℤ, sym, refl, ap, ◌∙◌, arith, le-leb}
use borrow.Author.Tests.{lt-leb}
use Rattle.rules.specs.V0.{head}
use Rattle.rules.specs.declared.v0.V0Row.{V0Row}
use Rattle.read_window.specs.Window.{state_at}
use Rattle.v0_parse.specs.Block.{whole_block}
use Rattle.v0_parse_window.specs.ByWindow.{HeadAt, Ends, short}
use Rattle.v0_parse_window.specs.Run.{goes_on, run_length}
use Rattle.v0_parse_window.specs.declared.WindowHead.{WindowHead}
use Rattle.v0_parse_window.proofs.GroupLaws.{block_read}

-- A run that doesn't go on is at its end, also where no block is left.
run_ends : (s : List ℕ) (last n : ℕ) (st : V0Row) → goes_on s last st ≡ false → run_length s last n st ≡ 0
unfolding run_length
run_ends s last zero st e = refl
run_ends s last (suc n) st e = rw e

run_goes_on : (s : List ℕ) (last n : ℕ) (st : V0Row) → goes_on s last st ≡ true → run_length s last (suc n) st ≡ suc (run_length s last n (whole_block s st).row)
unfolding run_length
run_goes_on s last n st e = rw e

pub run_over : (s : List ℕ) (last : ℕ) (st : V0Row) → run_length s last 0 st ≡ 0
unfolding run_length
run_over s last st = refl

-- The row's state before bit q, by lengths ls, f words having been missing; no block begins after bit `last`.
module _ (s : List ℕ) (base f last : ℕ) (q : ℕ) (ls : List ℤ) where
  abbrev here : V0Row
  here = record { lengths = ls; bits = state_at s base q f }

  bit_is : here.bits.pos * 8 - here.bits.count ≡ base * 8 + q
  bit_is = omega arith

  -- It begins too late.
  pub run_late : (n : ℕ) → last < q → run_length s (base * 8 + last) n here ≡ 0
  unfolding goes_on
  run_late n late = run_ends s (base * 8 + last) n here (rw (bit_is, lt-leb (base * 8 + q) (base * 8 + last) (omega arith)))

  module _ (h : WindowHead) (at : HeadAt s base q ls h) where
    lengths_are : (head s here).row.lengths ≡ h.lengths
    lengths_are = ap (λ x. x.row.lengths) (at.reads f)

    -- Its lengths are long.
    pub run_long : (n : ℕ) → q ≤ last → short h.lengths ≡ false → run_length s (base * 8 + last) n here ≡ 0
    unfolding goes_on
    run_long n soon e = run_ends s (base * 8 + last) n here (rw (bit_is, le-leb (base * 8 + q) (base * 8 + last) (omega arith), lengths_are, e))

    -- It goes on with a block that ends before bit p.
    pub run_more : (n p : ℕ) → q ≤ last → short h.lengths ≡ true → Ends s base h p
        → run_length s (base * 8 + last) (suc n) here ≡ suc (run_length s (base * 8 + last) n (record { lengths = h.lengths; bits = state_at s base p f }))
    unfolding goes_on
    run_more n p soon e ends =
        run_goes_on s (base * 8 + last) n here (rw (bit_is, le-leb (base * 8 + q) (base * 8 + last) (omega arith), lengths_are, e))
        ∙ ap (λ x. suc (run_length s (base * 8 + last) n x.row)) (sym (block_read {st = here} refl at ends))
