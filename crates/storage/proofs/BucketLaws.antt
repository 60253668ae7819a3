-- Laws of the binary searches over records.
use Prim.Native.Nat.{ℕ, zero, suc, ◌+◌, ◌-◌, ◌≤◌, ◌<◌}
use native.Mathlib.Omega.{arith}
use mathlib.Core.Path.{◌≡◌, refl, sym, ap, ◌∙◌}
use mathlib.Core.Bool.{Bool, true, false}
use mathlib.Core.List.{List, [], ◌∷◌}
use lib.ListN.{length, take, drop, get_or, length-drop}
use lib.Seq.{length-take-le}
use Rattle.ground.specs.Lists.{each, count, one_more_if}
use Rattle.ground.proofs.ListLaws.{each_length, each_from, Falls, Cut, point_counts, rising_falls}
use Rattle.storage.specs.Records.{padded, port_of, no_port}
use Rattle.storage.specs.Orders.{word_order, record_lt, word_below, word_up_to}
use Rattle.storage.specs.Inner.{Offset, Sorted}
use Rattle.storage.specs.declared.Port.{Port}
use Rattle.std.specs.declared.cmp.Ordering.{Ordering}
use Rattle.std.specs.Ordering.{is_lt, is_le}
use Rattle.storage.proofs.OrderLaws.{padded_order, record_chain, below_before, below_up_to, lt_is, le_is}

-- what was read of record i's word
module _ (s : List ℕ) (base n k i at : ℕ) (w : List ℕ) (o : Ordering) (off : Offset s base n k i at) (lt : i < n) (long : length w ≡ k) (e : o ≡ word_order (take (length w) (drop at s)) w) where
  order_is : word_order (get_or (each (port_of k) (k + 17) n (drop base s)) i no_port).word (padded w k) ≡ o
  unfolding port_of
  order_is =
      let here : get_or (each (port_of k) (k + 17) n (drop base s)) i no_port ≡ port_of k (drop at s) = each_from (port_of k) (k + 17) no_port n s base i lt ∙ rw off.place in
      let letters : length (take k (drop at s)) ≡ k = length-take-le k (drop at s) (rw length-drop (omega (arith, off.room))) in
      ap (λ (p : Port). word_order p.word (padded w k)) here ∙ padded_order (take k (drop at s)) w k letters long ∙ sym (e ∙ rw long)

  pub below_told : (r : Bool) → r ≡ is_lt o → r ≡ word_below (padded w k) (get_or (each (port_of k) (k + 17) n (drop base s)) i no_port)
  unfolding word_below
  below_told r f = f ∙ lt_is o ∙ rw order_is

  pub up_to_told : (r : Bool) → r ≡ is_le o → r ≡ word_up_to (padded w k) (get_or (each (port_of k) (k + 17) n (drop base s)) i no_port)
  unfolding word_up_to
  up_to_told r f = f ∙ le_is o ∙ rw order_is

pub records_length : (s : List ℕ) (base n k : ℕ) → length (each (port_of k) (k + 17) n (drop base s)) ≡ n
records_length s base n k = each_length (port_of k) (k + 17) no_port n (drop base s)

-- where a search by halves ends, among rising records
pub sorted_point : (s : List ℕ) (base n k : ℕ) (f : Port → Bool) (lo hi r : ℕ) → Sorted s base n k → ((p q : Port) → record_lt p q ≡ true → f q ≡ true → f p ≡ true)
    → Cut f (each (port_of k) (k + 17) n (drop base s)) no_port n lo hi → (lo ≤ r) × (r ≤ hi)
    → (lo < r → true ≡ f (get_or (each (port_of k) (k + 17) n (drop base s)) (r - 1) no_port)) → (r < hi → false ≡ f (get_or (each (port_of k) (k + 17) n (drop base s)) r no_port))
    → r ≡ count f (each (port_of k) (k + 17) n (drop base s))
sorted_point s base n k f lo hi r sorted back so room last first =
    let falls = rising_falls record_lt record_chain no_port f back (each (port_of k) (k + 17) n (drop base s)) sorted.rise in
    point_counts f (each (port_of k) (k + 17) n (drop base s)) no_port n lo hi r falls so (records_length s base n k) room last first

-- ---- a search that begins where those with a lower word end

no_true : false ≡ true → ⊥
no_true e = let z : ◌≡◌ {A = ℕ} 0 1 = ap bit e in omega arith
  where
    bit : Bool → ℕ
    bit true = 1
    bit false = 0

count_few : {A : Type 0} (f : A → Bool) (l : List A) → count f l ≤ length l
unfolding count
count_few f [] = omega arith
count_few f (x ∷ l) = go (f x) (count_few f l)
  where
    go : (t : Bool) → count f l ≤ length l → one_more_if t (count f l) ≤ suc (length l)
    go true h = omega arith
    go false h = omega arith

count_next : {A : Type 0} (f : A → Bool) (x : A) (l : List A) (d : A) → Falls f (x ∷ l) d → (p : ℕ) (t : Bool) → f x ≡ t → p < one_more_if t (count f l) → ((q : ℕ) → q < count f l → f (get_or l q d) ≡ true)
    → f (get_or (x ∷ l) p d) ≡ true
count_next f x l d falls zero true e h ih = e
count_next f x l d falls (suc p) true e h ih = ih p (omega arith)
count_next f x l d falls p false e h ih = let few = count_few f l in let z : f x ≡ true = falls 0 (suc p) (omega arith) (omega arith) (ih p h) in let y : false ≡ true = sym e ∙ z in absurd (no_true y)

-- those that the test counts stand first
count_low : {A : Type 0} (f : A → Bool) (l : List A) (d : A) → Falls f l d → (p : ℕ) → p < count f l → f (get_or l p d) ≡ true
unfolding count
count_low f [] d falls p h = absurd (omega arith)
count_low f (x ∷ l) d falls p h = count_next f x l d falls p (f x) refl h (λ q k. count_low f l d (λ a b i j e. falls (suc a) (suc b) (omega arith) (omega arith) e) q k)

module _ (s : List ℕ) (base n k : ℕ) (w : List ℕ) (sorted : Sorted s base n k) where
  pub upper_start : (lo : ℕ) → lo ≡ count (word_below w) (each (port_of k) (k + 17) n (drop base s)) → Cut (word_up_to w) (each (port_of k) (k + 17) n (drop base s)) no_port n lo n
  upper_start lo e =
      let few = count_few (word_below w) (each (port_of k) (k + 17) n (drop base s)) in
      let long = records_length s base n k in
      let low = count_low (word_below w) (each (port_of k) (k + 17) n (drop base s)) no_port (rising_falls record_lt record_chain no_port (word_below w) (below_before w) (each (port_of k) (k + 17) n (drop base s)) sorted.rise) in
      record {
        order = omega arith;
        within = omega arith;
        lower = λ p h. below_up_to w (get_or (each (port_of k) (k + 17) n (drop base s)) p no_port) (low p (omega arith));
        rest = λ q h m. absurd (omega arith);
      }

-- a turn that looks at any place between
module _ (s : List ℕ) (base n k : ℕ) (f : Port → Bool) (lo hi at : ℕ) (r : Bool) (sorted : Sorted s base n k) (back : (p q : Port) → record_lt p q ≡ true → f q ≡ true → f p ≡ true) (from : lo ≤ at) (lt : at < hi)
    (so : Cut f (each (port_of k) (k + 17) n (drop base s)) no_port n lo hi) (test : r ≡ f (get_or (each (port_of k) (k + 17) n (drop base s)) at no_port)) where
  falls_at : Falls f (each (port_of k) (k + 17) n (drop base s)) no_port
  falls_at = rising_falls record_lt record_chain no_port f back (each (port_of k) (k + 17) n (drop base s)) sorted.rise

  pub probe_up : r ≡ true → Cut f (each (port_of k) (k + 17) n (drop base s)) no_port n (at + 1) hi
  probe_up e =
      let w = so.within in
      let long = records_length s base n k in
      record { order = omega arith; within = so.within; lower = λ p h. falls_at p at (omega arith) (omega arith) (sym test ∙ e); rest = so.rest }

  pub probe_down : r ≡ false → Cut f (each (port_of k) (k + 17) n (drop base s)) no_port n lo at
  probe_down e =
      let w = so.within in
      record { order = from; within = omega arith; lower = so.lower; rest = λ q h m. go q h m (f (get_or (each (port_of k) (k + 17) n (drop base s)) q no_port)) refl }
    where
      go : (q : ℕ) → at ≤ q → q < n → (t : Bool) → f (get_or (each (port_of k) (k + 17) n (drop base s)) q no_port) ≡ t → f (get_or (each (port_of k) (k + 17) n (drop base s)) q no_port) ≡ false
      go q h m true g = let long = records_length s base n k in absurd (no_true (sym (sym test ∙ e) ∙ falls_at at q h (omega arith) g))
      go q h m false g = g
