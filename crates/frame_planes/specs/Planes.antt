-- Colour planes: a frame's samples rearranged so that equal colours lie together. First all samples of even rows and even columns,
-- then those of even rows and odd columns, then odd and even, then odd and odd, each in reading order and without gaps. Rows and
-- columns are counted from 0. The way back takes every sample to where it was. What a sample is, is left open: none is looked at.
use Rattle.std.specs.Prelude.{ℕ, zero, suc, ◌+◌, ◌*◌, ◌/◌, take, drop}
use mathlib.Core.List.{List, [], ◌∷◌, ◌++◌, flatten, flat_map}
use Rattle.rules.specs.declared.answer.Size.{Size}

-- ── To planes ──

-- A list's elements at even places, and those at odd ones.
unfoldable pub evens : {A : Type 0} → List A → List A
evens [] = []
evens (a ∷ []) = a ∷ []
evens (a ∷ b ∷ l) = a ∷ evens l

abbrev pub odds : {A : Type 0} → List A → List A
odds l = evens (drop 1 l)

-- The first n rows of w samples.
unfoldable pub rows : {A : Type 0} → ℕ → ℕ → List A → List (List A)
rows w zero l = []
rows w (suc n) l = take w l ∷ rows w n (drop w l)

abbrev pub rows_of : {A : Type 0} → Size → List A → List (List A)
rows_of z f = rows z.width z.height f

-- Of some rows the even columns, row after row, and then the odd ones.
unfoldable pub by_columns : {A : Type 0} → List (List A) → List A
by_columns rs = flat_map evens rs ++ flat_map odds rs

-- The even rows by columns, and then the odd ones.
unfoldable pub to_planes : {A : Type 0} → Size → List A → List A
to_planes z f = by_columns (evens (rows_of z f)) ++ by_columns (odds (rows_of z f))

-- ── The way back ──

-- How many of n are even, and how many odd, counted from 0.
abbrev pub even_count : ℕ → ℕ
even_count n = (n + 1) / 2

abbrev pub odd_count : ℕ → ℕ
odd_count n = n / 2

-- The elements of two lists in turn.
unfoldable pub weave : {A : Type 0} → List A → List A → List A
weave [] bs = bs
weave (a ∷ as') [] = a ∷ as'
weave (a ∷ as') (b ∷ bs) = a ∷ b ∷ weave as' bs

-- n rows, whose even columns are e by e in one list, and whose odd ones o by o in another.
unfoldable pub woven : {A : Type 0} → ℕ → ℕ → ℕ → List A → List A → List (List A)
woven e o zero p q = []
woven e o (suc n) p q = weave (take e p) (take o q) ∷ woven e o n (drop e p) (drop o q)

-- n rows of w samples out of two planes that follow each other.
abbrev pub from_columns : {A : Type 0} → ℕ → ℕ → List A → List (List A)
from_columns w n p = woven (even_count w) (odd_count w) n p (drop (n * even_count w) p)

-- The frame's rows: the even ones out of the first two planes, the odd ones out of the others.
unfoldable pub rows_back : {A : Type 0} → Size → List A → List (List A)
rows_back z p =
    let n = even_count z.height in
    weave (from_columns z.width n p) (from_columns z.width (odd_count z.height) (drop (n * z.width) p))

abbrev pub from_planes : {A : Type 0} → Size → List A → List A
from_planes z p = flatten (rows_back z p)
