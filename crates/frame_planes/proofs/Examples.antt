-- The worked examples hold, by computing.
use mathlib.Core.Path.{◌≡◌, refl}
use mathlib.Core.List.{map, flatten, flat_map}
use Rattle.frame_planes.specs.Planes.{evens, rows, by_columns, to_planes, weave, woven, rows_back, from_planes}
use Rattle.frame_planes.specs.Examples.{examples}

pub to_planes_hold : map (λ e. to_planes e.size e.frame) examples ≡ map (λ e. e.planes) examples
unfolding examples flat_map evens rows by_columns to_planes
to_planes_hold = refl

pub from_planes_hold : map (λ e. from_planes e.size e.planes) examples ≡ map (λ e. e.frame) examples
unfolding examples flatten weave woven rows_back
from_planes_hold = refl
