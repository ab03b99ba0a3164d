-- The text is printed part by part, and the text of a version reads as it.
use Rattle.jl_versions.proofs.Labels.{parts_read}
use Rattle.jl_versions.proofs.version.Version.print.Goals as goal

pub returns-clause-reads : goal.returns-clause-reads
returns-clause-reads c =
    parts_read c.args.self.now _ _ _ c.in_ok-text.ensures.text c.in_ok-push_label.ensures.ok c.in_ok-push_label-2.ensures.ok
    (record { major = c.print_numbers.ensures.major; minor = c.print_numbers.ensures.minor; patch = c.print_numbers.ensures.patch; pre = c.in_ok-push_label.ensures.labels; build = c.in_ok-push_label-2.ensures.labels })
