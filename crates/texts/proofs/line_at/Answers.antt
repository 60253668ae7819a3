use Rattle.std.proofs.Common.{sym, ◌∙◌}
use mathlib.Core.Bool.{true≢false}
use Rattle.texts.proofs.LineLaws.{line_row, line_told}
use Rattle.texts.proofs.line_at.Goals as goal

pub unreachable-requires : goal.unreachable-requires
unreachable-requires c = true≢false (sym (line_row c.requires.0 _ c.requires.1 c.place_of-e.ensures) ∙ c.in_default.ensures)

pub returns : goal.returns
returns c = line_told c.requires.0 _ c.requires.1 c.place_of-e.ensures _ c.in-Some.ensures.1 c.lane_of.ensures
