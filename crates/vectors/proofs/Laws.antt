-- A size that fits.
use Prim.Native.Nat.{ℕ, ◌+◌, ◌*◌, ◌≤◌, ◌<◌}
use native.Mathlib.Omega.{arith}
use native.Mathlib.Nat.{mul-le-mul_right}
use borrow.Author.Rules.{Fits-under}
use mir.Val.{Fits}
use mir.Syntax.{w64}

pub kept_fits : (optima slot : ℕ) → optima ≤ 1024 → slot ≤ 4162 → Fits w64 ((optima + 2) * slot)
kept_fits optima slot a b =
    let o : optima + 2 ≤ 1026 = omega arith in
    let m : (optima + 2) * slot ≤ 1026 * slot = mul-le-mul_right slot o in
    let c : (optima + 2) * slot < 0x10_0000_0000 = omega arith in
    Fits-under w64 ((optima + 2) * slot) 0x10_0000_0000 c tt
