-- A byte that is there is filled; past the end there is none.
use mathlib.Core.Path.{refl}
use native.Mathlib.Omega.{arith}
use Rattle.frame_map.proofs.MapLaws.{one_filled, none_filled}
use Rattle.frame_map.proofs.fill_byte.Goals as goal

pub returns-then-place-map : goal.returns-then-place-map
returns-then-place-map c = one_filled _ _ _ refl

pub returns-else-place-map : goal.returns-else-place-map
returns-else-place-map c = none_filled _ _ (omega arith)
