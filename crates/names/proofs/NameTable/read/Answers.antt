use Rattle.names.proofs.Laws.{table_count, table_open, table_names, table_twice, table_read}
use Rattle.names.proofs.NameTable.read.Goals as goal
use Rattle.names.proofs.NameTable.read.Goals.{else-count-lanes-via-then-count-lanes+then-starts-lanes+then-are_names+else-chain_names, else-count-lanes-via-then-count-lanes+then-starts-lanes+else-are_names, else-count-lanes-via-then-count-lanes+else-starts-lanes, else-count-lanes-via-else-count-lanes}

pub invariant_of-result : goal.invariant_of-result
invariant_of-result c = record { read = search table_read }

pub returns-else-count-lanes : goal.returns-else-count-lanes
returns-else-count-lanes c =
    elim c.else-count-lanes.branch [
      | else-count-lanes-via-then-count-lanes+then-starts-lanes+then-are_names+else-chain_names w ↦ search table_twice
      | else-count-lanes-via-then-count-lanes+then-starts-lanes+else-are_names w ↦ search table_names
      | else-count-lanes-via-then-count-lanes+else-starts-lanes w ↦ search table_open
      | else-count-lanes-via-else-count-lanes w ↦ search table_count
    ]
