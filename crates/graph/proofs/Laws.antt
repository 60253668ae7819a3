use Prim.Native.Nat.{ℕ, ◌≤◌, ◌<◌}
use native.Mathlib.Omega.{arith}
use mathlib.Core.Path.{◌≡◌, refl, sym, ap, ◌∙◌}
use mathlib.Core.Bool.{Bool, true, false, ◌&&◌}
use mathlib.Core.List.{List}
use lib.Dec.{eqb}
use lib.ListN.{length}
use borrow.Author.Tests.{eqb-true}
use Rattle.ground.specs.Lists.{sum, all}
use Rattle.ground.proofs.ListLaws.{both}
use Rattle.image.specs.declared.Header.{Header}
use Rattle.image.specs.declared.PanelRefusal.{PanelRefusal}
use Rattle.image.specs.declared.PanelRefusal.TheVariants.{Short, Counts, Layout, Lanes, Families, Records, Order, Listing}
use Rattle.std.specs.declared.result.Result.{Result}
use Rattle.std.specs.declared.result.Result.TheVariants.{Ok, Err}
use Rattle.image.specs.Header.{header_of, opened, or_refuse, refusal_number, sound1, sound2, sound3}
use Rattle.image.specs.Image.{entries, counts}
use Rattle.image.specs.Inner.{Framed, Counted, Grouped}
use Rattle.image.proofs.Laws.{framed_of}
use Rattle.families.specs.Families.{sound5a, sound5b, sound5}
use Rattle.families.proofs.Laws.{grouped_told}
use Rattle.panel.specs.Refusals.{length_ok, sound4, sound6, sound7, sound8, sound_records, own_rows, lanes_rising, hub_rising}
use Rattle.panel.specs.Inner.{Ordered, Accepted}
use Rattle.graph.specs.Check.{later, ports_checked, after_open, checked}

-- a test that passed is true of the chain's rest; one that failed gives its number
pick_good : (b : Bool) (n : PanelRefusal) (o : Result Header PanelRefusal) (h : Header) → or_refuse b n o ≡ Ok h → (b ≡ true) × (o ≡ Ok h)
pick_good true n o h e = (refl, e)
pick_good false n o h e = let z : ◌≡◌ {A = ℕ} 0 1 = cc in absurd (omega arith)

pub header_is : (s : List ℕ) (h : Header) → opened s ≡ Ok h → h ≡ header_of s
unfolding opened
header_is s h e =
    let (a, f) = pick_good (sound1 s) Short (or_refuse (sound2 (header_of s)) Counts (or_refuse (sound3 (header_of s) (length s)) Layout (Ok (header_of s)))) h e in
    let (b, g) = pick_good (sound2 (header_of s)) Counts (or_refuse (sound3 (header_of s) (length s)) Layout (Ok (header_of s))) h f in
    let (c, k) = pick_good (sound3 (header_of s) (length s)) Layout (Ok (header_of s)) h g in
    cc

pub framed_good : (s : List ℕ) (h : Header) → opened s ≡ Ok h → Framed s h
unfolding opened
framed_good s h e =
    let (a, f) = pick_good (sound1 s) Short (or_refuse (sound2 (header_of s)) Counts (or_refuse (sound3 (header_of s) (length s)) Layout (Ok (header_of s)))) h e in
    let (b, g) = pick_good (sound2 (header_of s)) Counts (or_refuse (sound3 (header_of s) (length s)) Layout (Ok (header_of s))) h f in
    let (c, k) = pick_good (sound3 (header_of s) (length s)) Layout (Ok (header_of s)) h g in
    let q = header_is s h e in
    framed_of s h q (ap sound2 q ∙ b) (ap (λ (x : Header). sound3 x (length s)) q ∙ c)

pub framed_told : (s : List ℕ) (h : Header) → Ok h ≡ opened s → Framed s h
framed_told s h e = framed_good s h (sym e)

module _ (s : List ℕ) (h : Header) (a : Bool) (ea : a ≡ sound4 h s) where
  pub refused_4 : a ≡ false → Err Lanes ≡ later h s
  unfolding later
  refused_4 t = rw (← ea, t)

  module _ (ta : a ≡ true) where
    pub counted_told : Framed s h → Counted s h
    unfolding sound4
    counted_told framed = record { framed = framed; total = eqb-true (sum (counts h s)) h.ports (both (all length_ok (entries h s)) (eqb (sum (counts h s)) h.ports) (sym ea ∙ ta)).1 }

    module _ (b : Bool) (eb : b ≡ sound5 h s) where
      pub refused_5 : b ≡ false → Err Families ≡ later h s
      unfolding later
      refused_5 t = rw (← ea, ta, ← eb, t)

      pub ports_told : (r : Result Header PanelRefusal) → b ≡ true → r ≡ ports_checked h s → r ≡ later h s
      unfolding later
      ports_told r t e = e ∙ rw (← ea, ta, ← eb, t)

module _ (s : List ℕ) (h : Header) (c : Bool) (ec : c ≡ sound6 h s) where
  pub refused_6 : c ≡ false → Err Records ≡ ports_checked h s
  unfolding ports_checked
  refused_6 t = rw (← ec, t)

  module _ (tc : c ≡ true) (d : Bool) (ed : d ≡ sound7 h s) where
    pub refused_7 : d ≡ false → Err Order ≡ ports_checked h s
    unfolding ports_checked
    refused_7 t = rw (← ec, tc, ← ed, t)

    module _ (td : d ≡ true) where
      pub ordered_told : Counted s h → Ordered s h
      unfolding sound6 sound7
      ordered_told counted =
          let m = (both (sound_records h s h.lane_ports_at && sound_records h s h.hub_at) (own_rows h s) (sym ec ∙ tc)).0 in
          record {
            counted = counted;
            rows = (both (lanes_rising h s) (hub_rising h s) (sym ed ∙ td)).0;
            named = (both (sound_records h s h.lane_ports_at) (sound_records h s h.hub_at) m).1;
          }

      module _ (e : Bool) (ee : e ≡ sound8 h s) where
        pub refused_8 : e ≡ false → Err Listing ≡ ports_checked h s
        unfolding ports_checked
        refused_8 t = rw (← ec, tc, ← ed, td, ← ee, t)

        pub good_told : e ≡ true → Ok h ≡ ports_checked h s
        unfolding ports_checked
        good_told t = rw (← ec, tc, ← ed, td, ← ee, t)

pub check_good : (s : List ℕ) (h : Header) (q : Result Header PanelRefusal) → Ok h ≡ opened s → q ≡ later h s → q ≡ checked s
unfolding checked
check_good s h q e f = f ∙ rw (← e)

pub check_refused : (s : List ℕ) (e : PanelRefusal) → Err e ≡ opened s → Err e ≡ checked s
unfolding checked
check_refused s e f = rw (← f)

grouped_of : (s : List ℕ) (h : Header) → Framed s h → sound5 h s ≡ true → Grouped s h
unfolding sound5
grouped_of s h framed e = grouped_told s h (sound5a h s) framed refl (both (sound5a h s) (sound5b h s) e).0

build : (s : List ℕ) (h : Header) → Framed s h → later h s ≡ Ok h → Accepted s h
unfolding later ports_checked sound4 sound6 sound7
build s h framed f =
    let (a, f5) = pick_good (sound4 h s) Lanes (or_refuse (sound5 h s) Families (or_refuse (sound6 h s) Records (or_refuse (sound7 h s) Order (or_refuse (sound8 h s) Listing (Ok h))))) h f in
    let (b, f6) = pick_good (sound5 h s) Families (or_refuse (sound6 h s) Records (or_refuse (sound7 h s) Order (or_refuse (sound8 h s) Listing (Ok h)))) h f5 in
    let (c, f7) = pick_good (sound6 h s) Records (or_refuse (sound7 h s) Order (or_refuse (sound8 h s) Listing (Ok h))) h f6 in
    let (d, f8) = pick_good (sound7 h s) Order (or_refuse (sound8 h s) Listing (Ok h)) h f7 in
    let (g, f9) = pick_good (sound8 h s) Listing (Ok h) h f8 in
    let (ls, cs) = both (all length_ok (entries h s)) (eqb (sum (counts h s)) h.ports) a in
    let (rs, os) = both (sound_records h s h.lane_ports_at && sound_records h s h.hub_at) (own_rows h s) c in
    let (lr, hr) = both (sound_records h s h.lane_ports_at) (sound_records h s h.hub_at) rs in
    let (ro, hu) = both (lanes_rising h s) (hub_rising h s) d in
    record {
      counted = record { framed = framed; total = eqb-true (sum (counts h s)) h.ports cs };
      grouped = grouped_of s h framed b;
      lengths = ls;
      familied = b;
      lane_records = lr;
      hub_records = hr;
      own = os;
      rows = ro;
      hub_rises = hu;
      listing = g;
    }

same : (s : List ℕ) (h x : Header) → later x s ≡ Ok h → x ≡ h
unfolding later ports_checked
same s h x f =
    let (a, f5) = pick_good (sound4 x s) Lanes (or_refuse (sound5 x s) Families (or_refuse (sound6 x s) Records (or_refuse (sound7 x s) Order (or_refuse (sound8 x s) Listing (Ok x))))) h f in
    let (b, f6) = pick_good (sound5 x s) Families (or_refuse (sound6 x s) Records (or_refuse (sound7 x s) Order (or_refuse (sound8 x s) Listing (Ok x)))) h f5 in
    let (c, f7) = pick_good (sound6 x s) Records (or_refuse (sound7 x s) Order (or_refuse (sound8 x s) Listing (Ok x))) h f6 in
    let (d, f8) = pick_good (sound7 x s) Order (or_refuse (sound8 x s) Listing (Ok x)) h f7 in
    let (g, f9) = pick_good (sound8 x s) Listing (Ok x) h f8 in
    cc

-- what an answer `Ok h` says
pub accepted_of : (s : List ℕ) (h : Header) → checked s ≡ Ok h → Accepted s h
unfolding checked
accepted_of s h e = go (opened s) refl e
  where
    go : (o : Result Header PanelRefusal) → opened s ≡ o → after_open o s ≡ Ok h → Accepted s h
    go (Err n) p f = let z : ◌≡◌ {A = ℕ} 0 1 = cc in absurd (omega arith)
    go (Ok x) p f =
        let q = same s h x f in
        build s h (framed_good s h (p ∙ ap Ok q)) (ap (λ (y : Header). later y s) (sym q) ∙ f)

pub accepted_told : (s : List ℕ) (h : Header) → Ok h ≡ checked s → Accepted s h
accepted_told s h e = accepted_of s h (sym e)

-- ---- the numbers of refusals

pub refusal_some : (e : PanelRefusal) → 0 < refusal_number e
refusal_some Short = omega arith
refusal_some Counts = omega arith
refusal_some Layout = omega arith
refusal_some Lanes = omega arith
refusal_some Families = omega arith
refusal_some Records = omega arith
refusal_some Order = omega arith
refusal_some Listing = omega arith

pub refusal_few : (e : PanelRefusal) → refusal_number e ≤ 8
refusal_few Short = omega arith
refusal_few Counts = omega arith
refusal_few Layout = omega arith
refusal_few Lanes = omega arith
refusal_few Families = omega arith
refusal_few Records = omega arith
refusal_few Order = omega arith
refusal_few Listing = omega arith
