use Rattle.std.proofs.Common.{ap, ◌∙◌, rules}
use Rattle.std.proofs.lemmas.Map.Made.{filter_same_pairs}
use Rattle.toml.specs.View.{members_view, table_view}
use Rattle.project_file.specs.Keys.{names_none}
use Rattle.project_file.proofs.Rests.{is_kept, unnamed-view, names_none-unnamed, nesting-unnamed}
use Rattle.project_file.proofs.reading.without_named.Goals as goal

pub returns-clause-rest : goal.returns-clause-rest
returns-clause-rest c =
    ap members_view (filter_same_pairs _ is_kept _ (λ k v b w f' t. search rules) _ _ c.retain.ensures.filtered) ∙ unnamed-view c.args.table.entries

pub returns-clause-plain : goal.returns-clause-plain
returns-clause-plain c = ap names_none (returns-clause-rest c) ∙ names_none-unnamed (table_view c.args.table)

pub returns-clause-nested : goal.returns-clause-nested
returns-clause-nested c = nesting-unnamed (table_view c.args.table) (table_view c.retain.new.self) (returns-clause-rest c)
