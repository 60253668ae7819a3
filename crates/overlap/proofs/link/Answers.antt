use borrow.Author.Rules.{rules}
use Rattle.std.proofs.Common.{refl, arith}
use Rattle.overlap.proofs.ChainLaws.{head_fits, link_clear, link_met, head_within}
use Rattle.overlap.proofs.link.Goals as goal

pub is_clear-requires : goal.is_clear-requires
is_clear-requires c = search (rules, head_fits, head_within)

pub returns-then-not-is_clear : goal.returns-then-not-is_clear
returns-then-not-is_clear c =
    link_met _ _ _ _ _ _ c.requires.0 c.requires.1 (omega (arith, c.requires)) _ c.segment_at-s.ensures _ _ c.chain_of-b.ensures.0 refl _ _ refl refl
    _ c.is_clear.ensures c.if-not-is_clear.true

pub returns : goal.returns
returns c =
    link_clear _ _ _ _ _ _ c.requires.0 c.requires.1 (omega (arith, c.requires)) _ c.segment_at-s.ensures _ _ c.chain_of-b.ensures.0 refl _ _ refl refl
    _ c.is_clear.ensures _ _ c.min.ensures c.max.ensures c.if-not-is_clear.false
