-- The replies of the exported calls: 01's number and values for each case of an answer. The place of 1 to 10 is 0; fields that an answer does not use are 0.
use Rattle.std.specs.Prelude.{ℕ, replicate}
use Rattle.storage.specs.declared.Port.{Port}
use Rattle.storage.specs.declared.Members.{Members}
use Rattle.image.specs.declared.Header.{Header}
use Rattle.image.specs.declared.PanelRefusal.{PanelRefusal}
use Rattle.graph.specs.declared.PortRefusal.{PortRefusal}
use Rattle.graph.specs.declared.BucketRefusal.{BucketRefusal}
use Rattle.graph.specs.Check.{refusal_of}
use Rattle.graph.specs.Lookups.{port_refusal, bucket_refusal}
use Rattle.std.specs.declared.option.Option.{Option}
use Rattle.std.specs.declared.option.Option.TheVariants.{None, Some}
use Rattle.std.specs.declared.result.Result.{Result}
use Rattle.std.specs.declared.result.Result.TheVariants.{Ok, Err}
use Rattle.evaluate.specs.declared.Refusal.{Refusal}
use Rattle.panel_routes.specs.declared.PanelReply.{PanelReply}
use Rattle.panel_routes.specs.declared.PortReply.{PortReply}
use Rattle.panel_routes.specs.declared.BucketReply.{BucketReply}

abbrev pub panel_reply : Result Header PanelRefusal → PanelReply
panel_reply o = record { refusal = refusal_of o; place = 0 }

-- an answer without a port: found 0, the anchor 0 and the word all zeros
abbrev pub no_port : ℕ → PortReply
no_port n = record { refusal = n; place = 0; found = 0; anchor = 0; word = replicate 32 0 }

-- found 1: the port stands beside
abbrev pub found_port : Port → PortReply
found_port p = record { refusal = 0; place = 0; found = 1; anchor = p.anchor; word = p.word }

abbrev pub port_reply : Result (Option Port) PortRefusal → PortReply
port_reply (Ok (Some p)) = found_port p
port_reply (Ok None) = no_port 0
port_reply (Err e) = no_port (port_refusal e)

abbrev pub bucket_reply : Result Members BucketRefusal → BucketReply
bucket_reply (Ok b) = record { refusal = 0; place = 0; lo = b.lo; hi = b.hi }
bucket_reply (Err e) = record { refusal = bucket_refusal e; place = 0; lo = 0; hi = 0 }

abbrev pub letters_reply : Refusal → PanelReply
letters_reply r = record { refusal = r.number; place = r.place }
