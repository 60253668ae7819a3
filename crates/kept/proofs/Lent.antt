-- The spare lent to a writer of an assignment, and the evaluation recorded: what a loop over evaluations cites.
use mathlib.Core.Path.{◌≡◌}
use Rattle.std.specs.declared.option.Option.{Option}
use Rattle.std.specs.declared.option.Option.TheVariants.{Some}
use mathlib.Core.List.{List}
use Prim.Native.Nat.{ℕ, ◌+◌, ◌*◌, ◌≤◌}
use lib.ListN.{length}
use lib.Ieee.{Float}
use borrow.Rule.Slice.PartMut.{put_mid, mid_of}
use Rattle.evaluate.specs.Segments.{Assignment}
use Rattle.evaluate.specs.Words.{encode}
use Rattle.evaluate.specs.Check.{over}
use Rattle.search.specs.Keep.{Kept, Evaluated, score_of, same_evaluated, keep_one}
use Rattle.search.specs.Rooms.{pad_to}
use Rattle.slots.specs.Inner.{put_slot}
use Rattle.kept.specs.Inner.{Left, Recorded, Keeps}
use Rattle.kept.specs.declared.Holding.{Holding}
use Rattle.kept.proofs.Spare.{written}
use Rattle.kept.proofs.Rooms.{keeps_one, keeps_left}

-- ---- n words from the spare on are lent

module _ {v m : ℕ} {k : Kept Evaluated} {b : Option Holding} {xs : List ℕ} {ss : List Float} (n : ℕ) (h : Keeps v m k b xs ss) (wide : v ≤ n) (room : (m + 1) * v + n ≤ length xs) where
  module _ {ys : List ℕ} (a : Assignment) (l : length (encode a) ≤ v) (wrote : ys ≡ over (encode a) (mid_of ((m + 1) * v) n xs)) where
    is-slot : put_mid ((m + 1) * v) n xs ys ≡ put_slot v xs (m + 1) (pad_to v (encode a))
    is-slot = written v m n xs (encode a) ys h.ready.spare l wide room wrote

    module _ {width score : Float} {zs : List ℕ} {ts : List Float} {r : Holding} (done : Recorded v m width score b (put_mid ((m + 1) * v) n xs ys) ss zs ts r) where
      over_slot : Recorded v m width score b (put_slot v xs (m + 1) (pad_to v (encode a))) ss zs ts r
      over_slot = rw is-slot at done

      -- what is kept is what one more evaluation keeps
      pub lent_keeps : Keeps v m (keep_one score_of same_evaluated m width k (record { assignment = a; score = score })) (Some r) zs ts
      lent_keeps = keeps_one a h l over_slot

      pub lent_left : Left v m xs ss zs ts
      lent_left = keeps_left a h l over_slot
