-- Late rows lie within the frame, and their directions within the scratch.
use Rattle.std.proofs.Common.{◌≡◌, ℕ, ◌+◌, ◌-◌, ◌*◌, ◌<◌, ◌≤◌, mul-le-mul_right, mul_comm, arith}

pub row_within : (w h r m : ℕ) → r + 2 < h → m ≡ w * h → (r + 2) * w + w ≤ m
row_within w h r m l e =
    let q : (r + 3) * w ≤ h * w = mul-le-mul_right w (omega arith) in
    omega (arith, mul_comm w h)

pub directions_within : (n h r m : ℕ) → r + 2 < h → n * (h - 2) ≤ m → r * n + n ≤ m
directions_within n h r m l e =
    let q : (r + 1) * n ≤ (h - 2) * n = mul-le-mul_right n (omega arith) in
    omega (arith, mul_comm n (h - 2))
