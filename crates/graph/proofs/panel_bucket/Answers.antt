use borrow.Author.Rules.{rules}
use Rattle.graph.proofs.LookupLaws.{bucket_is, hub_sorted}
use Rattle.graph.proofs.panel_bucket.Goals as goal

pub bucket-requires : goal.bucket-requires
bucket-requires c = search (rules, hub_sorted)

pub returns : goal.returns
returns c = search bucket_is
