-- The code's tests are the definition's, in their order.
use mathlib.Core.Path.{◌≡◌, sym, ap, ◌∙◌}
use mathlib.Core.Bool.{◌&&◌}
use Prim.Native.Nat.{◌-◌, ◌/◌, ◌%◌, min, max}
use native.Mathlib.Omega.{arith}
use lib.Dec.{leb, eqb}
use borrow.Author.Tests.{le-leb, lt-leb}
use Rattle.rules_bands.specs.Bands.{fits}
use Rattle.rules_bands.proofs.CheckLaws.{and_then, and_else}
use Rattle.rules_bands.proofs.Cut.fits.Goals as goal
use Rattle.rules_bands.proofs.Cut.fits.Goals.{then-self-ge1, else-self-ge1, then-self-eq0, else-self-eq0}

pub returns-then-self-ge1-2 : goal.returns-then-self-ge1-2
unfolding fits
returns-then-self-ge1-2 c =
    let a = c.args.self in
    let one : c.if-self-ge1.value ≡ (leb 1 a.block_width && eqb (a.block_width % 16) 0) = elim c.if-self-ge1.branch
    [ then-self-ge1 w ↦ and_then (le-leb 1 a.block_width w.if-self-ge1.true) w.value-is | else-self-ge1 w ↦ and_else _ (lt-leb 1 a.block_width w.if-self-ge1.false) w.value-is ] in
    let two : c.if-self-eq0.value ≡ (leb 1 a.block_width && eqb (a.block_width % 16) 0 && leb 1 a.bands) = elim c.if-self-eq0.branch
    [ then-self-eq0 w ↦ and_then (sym one ∙ w.if-self-eq0.true) w.value-is | else-self-eq0 w ↦ and_else _ (sym one ∙ w.if-self-eq0.false) (w.value-is ∙ one) ] in
    let most : c.min.result ≡ min 64 (max 1 ((a.size.height - 2) / 2)) = omega (arith, c.min.ensures, c.max.ensures, c.late_rows-half.ensures) in
    and_then (sym two ∙ c.if-self-ge1-2.true) (ap (leb a.bands) most)

pub returns-else-self-ge1-2 : goal.returns-else-self-ge1-2
unfolding fits
returns-else-self-ge1-2 c =
    let a = c.args.self in
    let one : c.if-self-ge1.value ≡ (leb 1 a.block_width && eqb (a.block_width % 16) 0) = elim c.if-self-ge1.branch
    [ then-self-ge1 w ↦ and_then (le-leb 1 a.block_width w.if-self-ge1.true) w.value-is | else-self-ge1 w ↦ and_else _ (lt-leb 1 a.block_width w.if-self-ge1.false) w.value-is ] in
    let two : c.if-self-eq0.value ≡ (leb 1 a.block_width && eqb (a.block_width % 16) 0 && leb 1 a.bands) = elim c.if-self-eq0.branch
    [ then-self-eq0 w ↦ and_then (sym one ∙ w.if-self-eq0.true) w.value-is | else-self-eq0 w ↦ and_else _ (sym one ∙ w.if-self-eq0.false) (w.value-is ∙ one) ] in
    and_else _ (sym two ∙ c.if-self-ge1-2.false) two
