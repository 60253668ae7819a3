-- Laws of the port at a cut and of the bucket.
use Prim.Native.Nat.{ℕ, ◌+◌, ◌-◌, ◌≤◌, ◌<◌, ◌^◌}
use native.Mathlib.Omega.{arith}
use mathlib.Core.Path.{◌≡◌, refl, ap, ◌∙◌}
use mathlib.Core.Bool.{Bool, true, false, ◌&&◌}
use mathlib.Core.List.{List, []}
use lib.Dec.{ltb}
use lib.ListN.{length, drop, get_or}
use borrow.Author.Tests.{lt-ltb, le-ltb, eq-eqb, ne_eqb}
use Rattle.ground.specs.Lists.{each, keep, count, cons_if}
use Rattle.ground.proofs.ListLaws.{keep_at, keep_nothing}
use Rattle.storage.specs.Records.{port_of, no_port, padded, record_size, cut_offset, stands_at}
use Rattle.storage.specs.Orders.{place_of, place, place_before, bucket_of}
use Rattle.storage.specs.Inner.{Sorted}
use Rattle.storage.specs.declared.Port.{Port}
use Rattle.storage.specs.declared.Members.{Members}
use Rattle.storage.proofs.Laws.{stands_place}
use Rattle.image.specs.declared.Header.{Header}
use Rattle.image.specs.declared.Lane.{Lane}
use Rattle.image.specs.declared.PanelRefusal.{PanelRefusal}
use Rattle.std.specs.declared.option.Option.{Option}
use Rattle.std.specs.declared.option.Option.TheVariants.{None, Some}
use Rattle.std.specs.declared.result.Result.{Result}
use Rattle.std.specs.declared.result.Result.TheVariants.{Ok, Err}
use Rattle.image.specs.Image.{ports_of, hub}
use Rattle.image.specs.Inner.{Framed, Stands}
use Rattle.image.specs.Panel.{panel_of}
use Rattle.image.proofs.Laws.{panel_ports, panel_hub, panel_k, row_length, hub_stands}
use Rattle.panel.specs.Inner.{Accepted}
use Rattle.panel.specs.Refusals.{hub_rising}
use Rattle.panel.proofs.Laws.{row_rises, lane_rises, lane_port_small}
use Rattle.graph.specs.Check.{checked}
use Rattle.graph.specs.Lookups.{found, ports_at, port_in, port_answer, bucket_answer}
use Rattle.graph.specs.declared.PortRefusal.{PortRefusal}
use Rattle.graph.specs.declared.PortRefusal.TheVariants.{Unsound, NoLane}
use Rattle.graph.specs.declared.BucketRefusal.{BucketRefusal}
use Rattle.graph.specs.declared.BucketRefusal.TheVariants.{BadPanel, BadWord}

-- the lane's list that the code reads is the panel's
ports_are : (s : List ℕ) (h : Header) (n cut : ℕ) (reverse : Bool) → Framed s h → n < h.lanes → ports_at (panel_of s) n cut reverse ≡ keep (stands_at h.k cut reverse) (ports_of h s n)
unfolding ports_at
ports_are s h n cut reverse f lt = rw (panel_ports s h n f lt, panel_k s h f)

module _ (s : List ℕ) (h : Header) (l : Lane) (cut shift : ℕ) (reverse : Bool) (acc : Accepted s h) (stands : Stands s h l) (es : shift ≡ cut_offset h.k reverse) where
  here : ports_at (panel_of s) l.number cut reverse ≡ keep (stands_at h.k cut reverse) (ports_of h s l.number)
  here = ports_are s h l.number cut reverse acc.counted.framed stands.lane

  -- a cut nearer to the lane's start than any port's
  pub port_short : cut < shift → None ≡ found (ports_at (panel_of s) l.number cut reverse)
  port_short lt =
      let none : ports_at (panel_of s) l.number cut reverse ≡ [] = here ∙ keep_nothing (stands_at h.k cut reverse) (λ p. go p (stands_at h.k cut reverse p) refl) (ports_of h s l.number) in
      rw none
    where
      go : (p : Port) (t : Bool) → stands_at h.k cut reverse p ≡ t → stands_at h.k cut reverse p ≡ false
      go p true q = let there = (stands_place h.k cut reverse p q).0 in absurd (omega arith)
      go p false q = q

  module _ (i : ℕ) (le : shift ≤ cut) (at : i ≡ count (place_before (cut - shift) reverse) (ports_of h s l.number)) where
    alike : (p : Port) → stands_at h.k cut reverse p ≡ true → place p ≡ place_of (cut - shift) reverse
    alike p q =
        let (there, turned) = stands_place h.k cut reverse p q in
        let e : p.anchor ≡ cut - shift = omega arith in
        rw (← e, ← turned)

    before_is : (p : Port) → place_before (cut - shift) reverse p ≡ ltb (place p) (place_of (cut - shift) reverse)
    unfolding place_before
    before_is p = refl

    kept : ports_at (panel_of s) l.number cut reverse ≡ cons_if (ltb i (length (ports_of h s l.number)) && stands_at h.k cut reverse (get_or (ports_of h s l.number) i no_port)) (get_or (ports_of h s l.number) i no_port) []
    kept =
        here
        ∙ rw at (keep_at place no_port (stands_at h.k cut reverse) (place_before (cut - shift) reverse) (place_of (cut - shift) reverse) alike before_is (ports_of h s l.number)
        (lane_rises (ports_of h s l.number) (row_rises s h l stands acc.rows)))

    pub port_past : l.count ≤ i → None ≡ found (ports_at (panel_of s) l.number cut reverse)
    port_past past =
        let n = row_length s h l stands in
        let none : length (ports_of h s l.number) ≤ i = omega arith in
        rw (kept, le-ltb i (length (ports_of h s l.number)) none)

    module _ (p : Port) (b : Bool) (lt : i < l.count) (is : p ≡ get_or (ports_of h s l.number) i no_port) (test : b ≡ stands_at h.k cut reverse p) where
      one : ports_at (panel_of s) l.number cut reverse ≡ cons_if b p []
      one =
          let n = row_length s h l stands in
          let room : i < length (ports_of h s l.number) = omega arith in
          kept ∙ rw (lt-ltb i (length (ports_of h s l.number)) room, ← is, ← test)

      pub port_here : b ≡ true → Some p ≡ found (ports_at (panel_of s) l.number cut reverse)
      port_here t = rw (one, t)

      pub port_other : b ≡ false → None ≡ found (ports_at (panel_of s) l.number cut reverse)
      port_other t = rw (one, t)

pub port_fits : (s : List ℕ) (h : Header) (l : Lane) (i : ℕ) (p : Port) → Accepted s h → Stands s h l → i < l.count → p ≡ get_or (ports_of h s l.number) i no_port → p.anchor + h.k < 2 ^ 64
port_fits s h l i p acc st lt is = let m = lane_port_small s h l i p acc st lt is in omega arith

module _ (s : List ℕ) (h : Header) (lane cut : ℕ) (reverse : Bool) where
  pub lane_found : (l : Lane) (r : Option Port) → lane < h.lanes → l.number ≡ lane → r ≡ found (ports_at (panel_of s) l.number cut reverse) → Ok r ≡ port_in h (panel_of s) lane cut reverse
  lane_found l r lt e q = ap Ok q ∙ rw (lt-ltb lane h.lanes lt, e)

  pub lane_missing : h.lanes ≤ lane → Err NoLane ≡ port_in h (panel_of s) lane cut reverse
  lane_missing le = rw (le-ltb lane h.lanes le)

  pub port_good : (r : Result (Option Port) PortRefusal) → Ok h ≡ checked s → r ≡ port_in h (panel_of s) lane cut reverse → r ≡ port_answer s lane cut reverse
  unfolding port_answer
  port_good r e q = q ∙ rw (← e)

pub port_refused : (s : List ℕ) (lane cut : ℕ) (n : PanelRefusal) (reverse : Bool) (e : PortRefusal) → Err n ≡ checked s → e ≡ Unsound n → Err e ≡ port_answer s lane cut reverse
unfolding port_answer
port_refused s lane cut n reverse e f q = ap Err q ∙ rw (← f)

-- ---- buckets

pub hub_sorted : (s : List ℕ) (h : Header) → Accepted s h → Sorted s h.hub_at h.ports h.k
unfolding hub_rising hub
hub_sorted s h acc = record { stand = hub_stands s h acc.counted.framed; rise = acc.hub_rises }

pub bucket_is : (s : List ℕ) (h : Header) (w : List ℕ) (b : Members) → Accepted s h → b ≡ bucket_of (padded w h.k) (each (port_of h.k) (record_size h.k) h.ports (drop h.hub_at s))
    → b ≡ bucket_of (padded w h.k) (panel_of s).hub
unfolding hub
bucket_is s h w b acc e = e ∙ rw (panel_hub s h acc.counted.framed)

module _ (s : List ℕ) (h : Header) (w : List ℕ) (e : Ok h ≡ checked s) where
  pub bucket_good : (b : Members) → length w ≡ h.k → b ≡ bucket_of (padded w h.k) (panel_of s).hub → Ok b ≡ bucket_answer s w
  unfolding bucket_answer
  bucket_good b l q = rw (← e, eq-eqb (length w) h.k l, q)

  pub bucket_word : (length w ≡ h.k → ⊥) → Err BadWord ≡ bucket_answer s w
  unfolding bucket_answer
  bucket_word n = rw (← e, ne_eqb (length w) h.k n)

pub bucket_refused : (s : List ℕ) (n : PanelRefusal) (w : List ℕ) (e : BucketRefusal) → Err n ≡ checked s → e ≡ BadPanel n → Err e ≡ bucket_answer s w
unfolding bucket_answer
bucket_refused s n w e f q = ap Err q ∙ rw (← f)
