use Rattle.toml.proofs.Views.{view-Table}
use Rattle.manifest_file.proofs.written.table_value.Goals as goal

pub returns : goal.returns
returns c = view-Table c.args.members
