-- The sum of the first elements of a list, each asked by its index: `(0..n).map(..).sum()`.
use Rattle.std.proofs.Common.{ℕ, zero, suc, ◌+◌, ◌<◌, ◌≤◌, ◌≡◌, ◌∙◌, sym, List, length, get_or, take, drop, map, arith, drop-cons, add-one, add-zero, zero-add, add_assoc}
use Rattle.std.specs.List.{range_with_len, fold, sum as sum_all}
use Rattle.std.specs.Iterator.{Drains}
use Rattle.std.specs.Iterator.Runs.{EachRunFrom}
use Rattle.std.specs.Iterator.Adapters.{map_source, map_callee}
use Rattle.std.specs.Fn.{Called}
use Rattle.std.specs.Bool.{⊤}
use Rattle.std.specs.declared.iter.Map.{Map}
use Rattle.std.specs.declared.ops.Range.{Range}
use Rattle.std.proofs.iter.Yields.{nat_range_steps}
use Rattle.std.proofs.lemmas.Iterator.{YieldsList, maps, YieldsList-from_range, YieldsList-from_map}
use Rattle.std.proofs.lemmas.Iterator.Consumers.{sum_from_yields_List, fits_from_yields_list}
use denote.Param.Members.{Mut}
use Rattle.ground.specs.Lists.{sum}
use Rattle.ground.proofs.ListLaws.{sum_take_le}

from : (l : List ℕ) (n a b : ℕ) → a + n ≤ length l → fold (λ s x. s + x) b (map (λ i. get_or l i 0) (range_with_len a n)) ≡ b + sum (take n (drop a l))
unfolding sum
from l zero a b h = sym (add-zero b)
from l (suc n) a b h =
    let rest : fold (λ s x. s + x) (b + get_or l a 0) (map (λ i. get_or l i 0) (range_with_len (suc a) n)) ≡ b + get_or l a 0 + sum (take n (drop (suc a) l)) = from l n (suc a) (b + get_or l a 0) (omega arith) in
    rw (drop-cons l a 0 (omega arith)) (simp add-one (rest ∙ add_assoc b (get_or l a 0) (sum (take n (drop (suc a) l)))))

module _ {F : Type 0} {g : Mut F (ℕ × Unit {0}) ℕ} {s : Map (Range ℕ) F} {f : F} (l : List ℕ) (n : ℕ) (low : n ≤ length l) (source : map_source s ≡ record { start = 0; end = n }) (callee : map_callee s ≡ f)
    (asks : (i r : ℕ) (q : F) → Called g f (i, tt) r q → (q ≡ f) × (r ≡ get_or l i 0)) where
  road : YieldsList (maps nat_range_steps g) (λ r. r) s (map (λ i. get_or l i 0) (range_with_len 0 n))
  road = YieldsList-from_map g (λ i. get_or l i 0) (YieldsList-from_range 0 n n source (omega arith)) callee asks

  all_of_them : sum_all (map (λ i. get_or l i 0) (range_with_len 0 n)) ≡ sum (take n l)
  all_of_them = from l n 0 0 (omega arith) ∙ zero-add (sum (take n l))

  pub first_fit : (top : ℕ) → sum l < top → EachRunFrom (maps nat_range_steps g) s (λ p. fold (λ a x. a + x) 0 p.items < top)
  first_fit top h =
      let a = all_of_them in
      let b = sum_take_le l n in
      fits_from_yields_list s top road (omega arith)

  pub first_sum : (r : ℕ) → (xs : List ℕ) × (⊤ → Drains (maps nat_range_steps g) s xs) × (r ≡ fold (λ a x. a + x) 0 xs) → r ≡ sum (take n l)
  first_sum r ran = sum_from_yields_List s r ran road ∙ all_of_them
