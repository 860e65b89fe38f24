-- Both ways of `refill` leave enough, and one cut of what it leaves is the read.
use Rattle.std.proofs.Common.{◌≡◌, ℕ, ◌+◌, ◌-◌, ◌*◌, ◌%◌, ◌^◌, ◌<◌, ◌≤◌, min, List, ◌∙◌, arith}
use Rattle.rules.specs.Reader.{fetched, read_as, is_missing, counted, held, first_bits}
use Rattle.rules.proofs.ReaderLaws.{held_small, read_held, read_next, read_capped}
use Rattle.rules.specs.declared.reader.Bits.{Bits}
use Rattle.std.specs.Prelude.{Option}
use Rattle.read_bits.specs.Refilled.{joined_with, Enough, Whole}
use Rattle.read_bits.specs.declared.Refilled.{Refilled}

pub joined_is : (b : Bits) (h v n p : ℕ) → p ≡ (b.pos + 4) % 2 ^ 64
    → record { words = b.word * 2 ^ 32 + v; bits = record { pos = p; word = v; count = h + 32; filler = n } } ≡ joined_with b h v n
joined_is b h v n p e = rw e

module _ (s : List ℕ) (b : Bits) (k h : ℕ) (few : k ≤ 32) (is : h ≡ held b) where
  pub enough_held : k ≤ h → Enough s b k (record { words = b.word; bits = record { pos = b.pos; word = b.word; count = h; filler = b.filler } })
  enough_held l =
      let m : min k 32 ≡ k = omega arith in
      record {
        enough = l;
        few = omega (arith, held_small b);
        reads = read_held s b k (omega arith) ∙ rw (m, is);
        whole = λ e. absurd (omega (arith, is));
      }

  pub enough_next : (w : Option ℕ) (n : ℕ) (r : Refilled) → h < k → w ≡ fetched s b.pos → read_as w < 2 ^ 32 → n ≡ counted b.filler (is_missing w)
      → r ≡ joined_with b h (read_as w) n → Enough s b k r
  enough_next w n r l ew lw en er =
      let m : min k 32 ≡ k = omega arith in
      rw er
      (record {
        enough = omega (arith, held_small b);
        few = omega arith;
        reads = read_next s b k (omega arith) ∙ rw (m, en, ew, is);
        whole = λ e. rw ew at lw;
      })

pub read_cut : (s : List ℕ) (b : Bits) (n k : ℕ) (r : Refilled) (v : ℕ) → k ≡ min n 32 → Enough s b k r → v ≡ first_bits r.words r.bits.count k
    → Whole s b n (record { value = v; bits = record { pos = r.bits.pos; word = r.bits.word; count = (r.bits.count - k) % 32; filler = r.bits.filler } })
read_cut s b n k r v ek e ev =
    let c : (r.bits.count - k) % 32 ≡ r.bits.count - k = omega (arith, e.few, e.enough) in
    record { reads = rw (← read_capped s b n, ← ek, e.reads, ev, c); whole = rw ek at e.whole }
