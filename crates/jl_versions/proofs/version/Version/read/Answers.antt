-- What the machine tells is what `read` says.
use Rattle.jl_versions.proofs.Knows.{told_ok, told_only, told_bad, told_meant}
use Rattle.jl_versions.proofs.version.Version.read.Goals as goal

pub returns-clause-ok : goal.returns-clause-ok
returns-clause-ok c = told_ok c.args.text.now _ (rw c.as_bytes.ensures.value at c.read_bytes.ensures)

pub returns-clause-only : goal.returns-clause-only
returns-clause-only c = told_only c.args.text.now _ (rw c.as_bytes.ensures.value at c.read_bytes.ensures)

pub returns-clause-bad : goal.returns-clause-bad
returns-clause-bad c = told_bad c.args.text.now _ (rw c.as_bytes.ensures.value at c.read_bytes.ensures)

pub returns-clause-meant : goal.returns-clause-meant
returns-clause-meant c = told_meant c.args.text.now _ (rw c.as_bytes.ensures.value at c.read_bytes.ensures)
