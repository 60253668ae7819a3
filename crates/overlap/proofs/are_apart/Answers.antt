use borrow.Author.Rules.{rules}
use Rattle.std.proofs.Common.{refl}
use Rattle.overlap.proofs.ChainLaws.{all_linked_again, all_linked_ends, all_linked_fails, all_linked_here, all_linked_route, all_linked_start}
use Rattle.overlap.proofs.are_apart.Goals as goal

pub loop-init : goal.loop-init
loop-init c = all_linked_start c.requires.0 refl refl refl refl

pub count_at-left-requires : goal.count_at-left-requires
count_at-left-requires c = search all_linked_route

pub link_route-requires : goal.link_route-requires
link_route-requires c = search (rules, all_linked_here)

pub returns-then-not-link_route : goal.returns-then-not-link_route
returns-then-not-link_route c = search all_linked_fails

pub loop-preserved : goal.loop-preserved
loop-preserved c = search all_linked_again

pub returns : goal.returns
returns c = search all_linked_ends
