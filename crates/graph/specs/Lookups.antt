-- The port at a cut and the hub bucket (01, "Ports and buckets"; refusals 9 and 10).
use Rattle.std.specs.Prelude.{ℕ, Bool, ◌≡◌, ltb, eqb, length}
use mathlib.Core.List.{List, [], ◌∷◌, Memᴰ}
use Rattle.ground.specs.Lists.{pick, keep}
use Rattle.storage.specs.Records.{cut_of, padded, stands_at}
use Rattle.storage.specs.Orders.{bucket_of}
use Rattle.storage.specs.declared.Port.{Port}
use Rattle.storage.specs.declared.Members.{Members}
use Rattle.image.specs.declared.Header.{Header}
use Rattle.image.specs.declared.PanelRefusal.{PanelRefusal}
use Rattle.image.specs.Header.{refusal_number}
use Rattle.std.specs.declared.option.Option.{Option}
use Rattle.std.specs.declared.option.Option.TheVariants.{None, Some}
use Rattle.std.specs.declared.result.Result.{Result}
use Rattle.std.specs.declared.result.Result.TheVariants.{Ok, Err}
use Rattle.image.specs.Panel.{Panel, panel_of, lane_at}
use Rattle.graph.specs.Check.{checked}
use Rattle.graph.specs.declared.PortRefusal.{PortRefusal}
use Rattle.graph.specs.declared.PortRefusal.TheVariants.{Unsound, NoLane}
use Rattle.graph.specs.declared.BucketRefusal.{BucketRefusal}
use Rattle.graph.specs.declared.BucketRefusal.TheVariants.{BadPanel, BadWord}

-- "the record of that lane with this cut and orientation"
pub record PortAt (p : Panel) (lane cut : ℕ) (reverse : Bool) (q : Port) : Type 0 where
  pub among : Memᴰ q (lane_at p lane).ports
  pub cut_is : cut_of q p.k ≡ cut
  pub turn_is : q.reverse ≡ reverse

-- the same as a list: in an accepted panel one record or none
unfoldable pub ports_at : Panel → ℕ → ℕ → Bool → List Port
ports_at p lane cut reverse = keep (stands_at p.k cut reverse) (lane_at p lane).ports

-- no port exactly when the lane declares none
abbrev pub found : List Port → Option Port
found [] = None
found (q ∷ qs) = Some q

-- 9: no such lane
abbrev pub port_in : Header → Panel → ℕ → ℕ → Bool → Result (Option Port) PortRefusal
port_in h p lane cut reverse = pick (ltb lane h.lanes) (Ok (found (ports_at p lane cut reverse))) (Err NoLane)

abbrev pub port_by : Result Header PanelRefusal → List ℕ → ℕ → ℕ → Bool → Result (Option Port) PortRefusal
port_by (Ok h) s lane cut reverse = port_in h (panel_of s) lane cut reverse
port_by (Err e) s lane cut reverse = Err (Unsound e)

-- the answer of the port at a cut: 1 to 8 first
unfoldable pub port_answer : List ℕ → ℕ → ℕ → Bool → Result (Option Port) PortRefusal
port_answer s lane cut reverse = port_by (checked s) s lane cut reverse

-- 01's number of a refusal of it
abbrev pub port_refusal : PortRefusal → ℕ
port_refusal (Unsound e) = refusal_number e
port_refusal NoLane = 9

-- "lo counts the global records with a lower word, hi those with a lower or equal one": of a padded word
abbrev pub bucket_lo : Panel → List ℕ → ℕ
bucket_lo p w = (bucket_of w p.hub).lo

abbrev pub bucket_hi : Panel → List ℕ → ℕ
bucket_hi p w = (bucket_of w p.hub).hi

-- 10: a word that has not k bytes
abbrev pub bucket_in : Header → Panel → List ℕ → Result Members BucketRefusal
bucket_in h p word = pick (eqb (length word) h.k) (Ok (bucket_of (padded word h.k) p.hub)) (Err BadWord)

abbrev pub bucket_by : Result Header PanelRefusal → List ℕ → List ℕ → Result Members BucketRefusal
bucket_by (Ok h) s word = bucket_in h (panel_of s) word
bucket_by (Err e) s word = Err (BadPanel e)

-- the answer of the hub bucket: 1 to 8 first
unfoldable pub bucket_answer : List ℕ → List ℕ → Result Members BucketRefusal
bucket_answer s word = bucket_by (checked s) s word

-- 01's number of a refusal of it
abbrev pub bucket_refusal : BucketRefusal → ℕ
bucket_refusal (BadPanel e) = refusal_number e
bucket_refusal BadWord = 10
