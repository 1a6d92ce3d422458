-- The call load, of a whole fleet file.
use Rattle.std.specs.Prelude.{ℕ, Option, List}
use Rattle.refusals.specs.Verdict.{Verdict, ◌⊳◌}
use Rattle.records.specs.File.{records_of, file_verdict}
use Rattle.fleet.specs.declared.Tick.{Tick}
use Rattle.fleet.specs.declared.Fleet.{Fleet}
use Rattle.fleet.specs.declared.Called.{Called}
use Rattle.fleet.specs.Table.{fleet_of, settled, shut}

unfoldable pub load_verdict : Option Tick → List ℕ → Verdict
load_verdict tick file = shut tick ⊳ file_verdict file

-- the fleet of a file's records
unfoldable pub loaded : List ℕ → Fleet
loaded file = fleet_of (records_of file)

unfoldable pub load_call : Fleet → List ℕ → Called
load_call fleet file = settled (load_verdict fleet.tick file) fleet (loaded file)
