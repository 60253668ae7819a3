use Rattle.bed.proofs.Calls.{named_long, named_ready, named_written}
use Rattle.bed.proofs.write_named.Goals as goal

pub write_text-requires : goal.write_text-requires
write_text-requires c =
    let a = c.requires.0 in
    let q = c.in_ok-check_given.ensures in
    (named_long _ _ _ a q, rw c.requires.1 (named_ready _ _ _ a q))

pub returns : goal.returns
returns c = named_written _ _ _ _ _ c.requires.0 c.in_ok-check_given.ensures c.write_text.ensures
