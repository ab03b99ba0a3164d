use Rattle.std.proofs.Common.{◌≤◌, Err, true≢false, sym, ap, ◌∙◌, subst}
use Rattle.toml.specs.Data.{members_have_valid_dates}
use Rattle.toml_view.specs.Document.{nesting, nesting_limit}
use Rattle.manifest_file.specs.Said.{said}
use Rattle.manifest_writing.proofs.Nests.{written_nests, written_dated}
use Rattle.manifest_writing.proofs.text.manifest_text.Goals as goal

pub print_table-requires : goal.print_table-requires
print_table-requires c = subst (λ members. nesting members ≤ nesting_limit) (sym c.in_ok-table.ensures.written) (written_nests (said c.args.manifest.now))

-- no date stands in the table
pub unreachable-requires : goal.unreachable-requires
unreachable-requires c =
    true≢false (sym (written_dated (said c.args.manifest.now)) ∙ ap members_have_valid_dates (sym c.in_ok-table.ensures.written) ∙ c.in-Err-BadDate.ensures.date.0 (ap Err c.in-Err-BadDate.field-0-is))
