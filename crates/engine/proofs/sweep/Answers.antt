use borrow.Author.Rules.{rules}
use native.Mathlib.Omega.{arith}
use Rattle.landings.proofs.Laws.{known_none}
use Rattle.engine.proofs.sweep.Goals as goal

pub sweep_families-requires : goal.sweep_families-requires
sweep_families-requires c = let w = c.requires.1 in let n = c.requires.2 in (c.requires.0, c.lane_starts-starts.ensures, known_none _ _ _ c.no_memo-memo.ensures, record { pieces = search rules; scratch = search rules; within = omega arith; written = omega arith })
