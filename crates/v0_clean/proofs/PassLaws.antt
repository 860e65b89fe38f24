-- Residuals that are passed over: where the reader stands after them is told by their bits alone, whatever they are. So nothing is
-- asked of their words but that they are there.
use mathlib.Core.Path.{◌≡◌, sym, ap, ◌∙◌}
use mathlib.Core.List.{List, [], ◌∷◌}
use Prim.Native.Nat.{ℕ, ◌+◌, ◌*◌, ◌/◌, ◌^◌, ◌≤◌, ◌<◌}
use native.Mathlib.Omega.{arith}
use lib.IntN.{ℤ, pos}
use lib.ListN.{length, get_or}
use Rattle.rules.specs.Phases.{residuals}
use Rattle.rules.specs.V0.{head, order, length_of, length_bits}
use Rattle.rules.specs.declared.reader.Bits.{Bits}
use Rattle.rules.specs.declared.v0.V0Row.{V0Row}
use Rattle.rules.specs.declared.v0.V0Head.{V0Head}
use Rattle.rules.proofs.ReaderLaws.{read_residual_is}
use Rattle.read_window.specs.Window.{state_at}
use Rattle.read_window.proofs.WindowLaws.{leaves}
use Rattle.v0_parse.specs.Block.{with_residuals, whole_block}
use Rattle.v0_parse_window.specs.ByWindow.{HeadAt, head_of, Ahead, Plans, residuals_ahead}
use Rattle.v0_parse_window.specs.declared.WindowHead.{WindowHead}
use Rattle.v0_parse_window.specs.declared.Plan.{Plan}
use Rattle.v0_parse.proofs.BlockLaws.{bits_few_enough}
use Rattle.v0_parse_window.proofs.GroupLaws.{few}

-- ── Residuals ──

-- The bits of the residuals of some samples together.
unfoldable bits_of : List ℤ → List ℕ → ℕ
bits_of ls [] = 0
bits_of ls (c ∷ cs) = length_bits (length_of ls c) + bits_of ls cs

residuals_leave : (s : List ℕ) (ls : List ℤ) (cs : List ℕ) (base q f : ℕ) → 0 < q → base + (q + bits_of ls cs + 31) / 32 * 4 ≤ length s
    → base + (q + bits_of ls cs + 31) / 32 * 4 + 4 < 2 ^ 64 → (residuals s ls cs (state_at s base q f)).bits ≡ state_at s base (q + bits_of ls cs) f
unfolding bits_of residuals
residuals_leave s ls [] base q f some there far = let e : q + 0 ≡ q = omega arith in rw e
residuals_leave s ls (c ∷ cs) base q f some there far =
    let n : ℕ = length_bits (length_of ls c) in
    let fit : n ≤ 32 = bits_few_enough (length_of ls c) in
    let e : q + (n + bits_of ls cs) ≡ q + n + bits_of ls cs = omega arith in
    ap (λ b. (residuals s ls cs b).bits) (ap (λ g. g.bits) (read_residual_is s (state_at s base q f) n) ∙ leaves s base q n f some fit (omega arith) (omega arith))
    ∙ residuals_leave s ls cs base (q + n) f (omega arith) (omega arith) (omega arith)
    ∙ ap (λ (x : ℕ). state_at s base x f) (sym e)

-- Each length is that of four samples.
four_each : (ls : List ℤ) → bits_of ls order
    ≡ 4 * (length_bits (get_or ls 0 (pos 0)) + length_bits (get_or ls 1 (pos 0)) + length_bits (get_or ls 2 (pos 0)) + length_bits (get_or ls 3 (pos 0)))
unfolding bits_of length_of
four_each ls = omega arith

-- ── The block ──

-- There is room for the record after them.
pub plan_ahead : {s : List ℕ} {base : ℕ} {h : WindowHead} {p : Plan} → Ahead s base h.q residuals_ahead → Plans h p → Ahead s base p.end 31
plan_ahead x y = let n = few y in let e = y.ends in record { late = omega (arith, x.late); soon = omega (arith, x.soon); there = omega (arith, x.there); far = omega (arith, x.far) }

-- A head by position, and the record as many bits after it as the residuals have: what the record that reads the block leaves.
pub passed : {s : List ℕ} {base q f : ℕ} {st : V0Row} {h : WindowHead} {p : Plan} {after : Bits} → st.bits ≡ state_at s base q f → HeadAt s base q st.lengths h
    → Ahead s base h.q residuals_ahead → Plans h p → after ≡ state_at s base p.end f
    → ◌≡◌ {A = V0Head} (record { up = h.up; row = record { lengths = h.lengths; bits = after } }) (record { up = (whole_block s st).up; row = (whole_block s st).row })
unfolding whole_block with_residuals
passed {s} {base} {q} {f} {st} {h} {p} eb at ahead x ea =
    let n = few x in
    let there : base * 8 + h.q + residuals_ahead ≤ length s * 8 = ahead.there in
    let far : base * 8 + h.q + residuals_ahead < 2 ^ 67 = ahead.far in
    let late : 64 < h.q = ahead.late in
    let read : head_of s base f h ≡ head s st = sym (at.reads f) ∙ ap (λ (z : Bits). head s (record { lengths = st.lengths; bits = z })) (sym eb) in
    let bits : bits_of h.lengths order ≡ 4 * (p.n0 + p.n1 + p.n2 + p.n3) = four_each h.lengths ∙ rw (x.is₀, x.is₁, x.is₂, x.is₃) in
    let end : p.end ≡ h.q + bits_of h.lengths order = omega (arith, x.ends, bits) in
    rw (ea, ← read, residuals_leave s h.lengths order base h.q f (omega arith) (omega (arith, bits)) (omega (arith, bits)), end)
