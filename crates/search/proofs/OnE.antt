-- For the reader: the unbudgeted walk of panel E, and P7 in the words of "budgets suffice": four evaluations do, three do not.
use Prim.Native.Nat.{ℕ, ◌<◌}
use native.Mathlib.Omega.{arith}
use native.Mathlib.Bridge.{le_by_compare, IsLe}
use mathlib.Core.Path.{refl}
use Rattle.ground.specs.Lists.{each, split, sum, all, count, numbers_from}
use Rattle.storage.specs.Bytes.{little, number}
use Rattle.storage.specs.Records.{port_of}
use Rattle.storage.specs.Orders.{word_order, bucket_of, word_below, word_up_to}
use Rattle.image.specs.Header.{header_of}
use Rattle.image.specs.Image.{entry_of, entries, counts, path_counts, paths, lane_ports, hub, families}
use Rattle.image.specs.Panel.{zip_lanes, panel_by, panel_of}
use Rattle.graph.specs.PanelE.{panel_e}
use Rattle.search.specs.declared.SearchBudget.{SearchBudget}
use Rattle.search.specs.Budget.{zero_score}
use Rattle.search.specs.Walk.{enter, terminal_task, member_task, port_unit, hub_unit, unit_of}
use Rattle.search.specs.Run.{units, natives_of, outset, deepest, Unbudgeted, Suffices}

-- 20 units after seeding
unfoldable pub unbudgeted_E : Unbudgeted (panel_of panel_e)
unfolding little number each split sum all count numbers_from port_of word_order bucket_of word_below word_up_to header_of entry_of entries counts path_counts paths lane_ports hub families zip_lanes panel_by panel_of panel_e enter terminal_task member_task port_unit hub_unit unit_of units natives_of outset
unbudgeted_E = record { steps = 20; final = _; ends = refl }

-- the default budget with so many evaluations
abbrev allowing : ℕ → SearchBudget
allowing n = record { max_work = 100000; max_evaluations = n; max_frontier = 32; max_optima = 8; tie_width = zero_score }

pub four_suffice : Suffices (panel_of panel_e) (allowing 4) unbudgeted_E
unfolding unbudgeted_E deepest IsLe
four_suffice = record { work = le_by_compare 21 100000 tt; evaluations = omega arith; frontier = le_by_compare 3 32 tt }

pub three_do_not : Suffices (panel_of panel_e) (allowing 3) unbudgeted_E → ⊥
unfolding unbudgeted_E
three_do_not h = let few : ◌<◌ 3 3 = h.evaluations in omega arith
