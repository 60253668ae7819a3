-- The refusals of a crop by their numbers, and what a result refuses: 0 where nothing is refused.
use Rattle.std.specs.Prelude.{ℕ, Result, Ok, Err}
use Rattle.spell.specs.declared.CropRefusal.{CropRefusal}
use Rattle.spell.specs.declared.CropRefusal.TheVariants.{Crop, Room}

abbrev pub number_of : CropRefusal → ℕ
number_of Crop = 41
number_of Room = 37

abbrev pub refusal_of : {A : Type 0} → Result A CropRefusal → ℕ
refusal_of (Ok a) = 0
refusal_of (Err e) = number_of e
