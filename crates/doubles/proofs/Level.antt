-- Doubles that are one number, as 0.0 and -0.0 are: they are compared alike, and subtracted alike up to the zero that comes out.
use mathlib.Core.Path.{◌≡◌, refl, sym}
use mathlib.Core.Bool.{Bool, true, false, not}
use native.Mathlib.Omega.{arith}
use lib.Dec.{T}
use lib.Ieee as Ieee
use lib.Ieee.{Float, Format, nan, inf, fin}
use lib.Ieee.Bits.{is_true}
use lib.Ieee.Scale.{finite}
use Rattle.doubles.proofs.Order.{Le, eq→EQ, EQ→eq, eq→le, le→LE, le_trans_float, not_le→lt, lt→not_le}
use Rattle.doubles.proofs.Sub.{finite_real, sub_mono}

pub eq_sym : (x y : Float) → T (Ieee.eq x y) → T (Ieee.eq y x)
unfolding Ieee.eq
eq_sym nan y h = absurd h
eq_sym (inf s) nan h = absurd h
eq_sym (inf true) (inf true) h = h
eq_sym (inf true) (inf false) h = absurd h
eq_sym (inf false) (inf true) h = absurd h
eq_sym (inf false) (inf false) h = h
eq_sym (inf s) (fin t n d) h = absurd h
eq_sym (fin s m e) nan h = absurd h
eq_sym (fin s m e) (inf t) h = absurd h
eq_sym (fin s m e) (fin t n d) h = EQ→eq t n d s m e (let q = eq→EQ s m e t n d h in sym q)

pub both_ways : (a b : Bool) → (T a → T b) → (T b → T a) → a ≡ b
both_ways true true f g = refl
both_ways true false f g = absurd (f tt)
both_ways false true f g = absurd (g tt)
both_ways false false f g = refl

-- finite, and neither is below the other
pub record Level (x y : Float) : Type 0 where
  pub left : T (finite x)
  pub right : T (finite y)
  pub up : T (Ieee.le x y)
  pub down : T (Ieee.le y x)

level_flip : {x y : Float} → Level x y → Level y x
level_flip h = record { left = h.right; right = h.left; up = h.down; down = h.up }

equals_finite : (x y : Float) → T (finite x) → T (Ieee.eq x y) → T (finite y)
unfolding Ieee.eq
equals_finite nan y p h = absurd p
equals_finite (inf s) y p h = absurd p
equals_finite (fin s m e) nan p h = absurd h
equals_finite (fin s m e) (inf t) p h = absurd h
equals_finite (fin s m e) (fin t n d) p h = tt

-- what equals a finite one is level with it
pub level : (x y : Float) → T (finite x) → T (Ieee.eq x y) → Level x y
level x y p h = record { left = p; right = equals_finite x y p h; up = eq→le x y h; down = eq→le y x (eq_sym x y h) }

-- and what is level is equal
pub level_eq : (x y : Float) → Level x y → Ieee.eq x y ≡ true
unfolding Ieee.eq
level_eq nan y h = absurd h.left
level_eq (inf s) y h = absurd h.left
level_eq (fin s m e) nan h = absurd h.right
level_eq (fin s m e) (inf t) h = absurd h.right
level_eq (fin s m e) (fin t n d) h =
    let a : Le (fin s m e) (fin t n d) = le→LE s m e t n d h.up in
    let c : Le (fin t n d) (fin s m e) = le→LE t n d s m e h.down in
    is_true (Ieee.eq (fin s m e) (fin t n d)) (EQ→eq s m e t n d (omega arith))

refuted : (b : Bool) → T (not b) → T b → ⊥
refuted true h k = h
refuted false h k = k

refutes : (b : Bool) → (T b → ⊥) → T (not b)
refutes true h = h tt
refutes false h = tt

lower_too : (x y x' y' : Float) → Level x x' → Level y y' → T (Ieee.lt x y) → T (Ieee.lt x' y')
lower_too x y x' y' h k l =
    not_le→lt x' y' (finite_real x' h.right) (finite_real y' k.right)
    (refutes (Ieee.le y' x') (λ q. refuted (Ieee.le y x) (lt→not_le x y l) (le_trans_float y y' x k.up (le_trans_float y' x' x q h.down))))

-- compared alike
pub below_alike : {x y x' y' : Float} → Level x x' → Level y y' → Ieee.lt x y ≡ Ieee.lt x' y'
below_alike {x} {y} {x'} {y'} h k =
    both_ways (Ieee.lt x y) (Ieee.lt x' y') (lower_too x y x' y' h k) (lower_too x' y' x y (level_flip h) (level_flip k))

within_too : (f : Format) (w x y x' y' : Float) → Level x x' → Level y y' → T (Ieee.le (Ieee.sub f x y) w) → T (Ieee.le (Ieee.sub f x' y') w)
within_too f w x y x' y' h k l =
    le_trans_float (Ieee.sub f x' y') (Ieee.sub f x y) w (sub_mono f x' x y' y h.right h.left k.right k.left h.down k.up) l

-- and subtracted alike
pub sub_alike : (f : Format) (w : Float) {x y x' y' : Float} → Level x x' → Level y y' → Ieee.le (Ieee.sub f x y) w ≡ Ieee.le (Ieee.sub f x' y') w
sub_alike f w {x} {y} {x'} {y'} h k =
    both_ways (Ieee.le (Ieee.sub f x y) w) (Ieee.le (Ieee.sub f x' y') w) (within_too f w x y x' y' h k) (within_too f w x' y' x y (level_flip h) (level_flip k))
