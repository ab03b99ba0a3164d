-- the words so far are added, and those to come are left
use Rattle.std.proofs.Common.{◌≡◌, drop}
use Rattle.toml.specs.View.{table_view}
use Rattle.project_file.specs.Said.{said as said_project}
use Rattle.manifest_file.specs.Said.{said as said_manifest}
use Rattle.project_changes.specs.Words.{with_words}
use Rattle.project_changes.proofs.adding.add_words.Given as goal

abbrev pub invariant-loop-word : goal.invariant-loop-word
invariant-loop-word l = record {
  told : with_words l.catalog (said_manifest l.manifest) (said_project l.fn.project) l.words ≡ with_words l.catalog (said_manifest l.manifest) (said_project l.after) (drop l.word-index l.words);
  rest : table_view l.after.rest ≡ table_view l.fn.project.rest;
}
