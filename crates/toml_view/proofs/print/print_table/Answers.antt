use Rattle.std.proofs.Common.{ap, ◌∙◌}
use Rattle.toml.specs.View.{table_view}
use Rattle.toml_view.specs.Document.{viewed}
use Rattle.toml_view.proofs.Documents.{viewed_printed}
use Rattle.toml_view.proofs.print.print_table.Goals as goal

pub returns-in-Ok-clause-read : goal.returns-in-Ok-clause-read
returns-in-Ok-clause-read c =
    ap viewed c.bytes_of.ensures ∙ viewed_printed c.in-Ok.text (table_view c.args.table.now) c.requires c.in-Ok.ensures.reads_back
