use Rattle.toml.proofs.Views.{view-Array}
use Rattle.manifest_file.proofs.written.array_value.Goals as goal

pub returns : goal.returns
returns c = view-Array c.args.list
