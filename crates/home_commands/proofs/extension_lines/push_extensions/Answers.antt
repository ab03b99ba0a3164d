-- The set has the identifiers of the stanzas.
use Rattle.std.proofs.Common.{◌≡◌, ◌++◌, ℕ, List, OnOk, map, ap, ◌∙◌, subst, string_bytes}
use Rattle.manifest_file.specs.Said.{said_stanza}
use Rattle.manifest_file.specs.Steps.{has_id}
use Rattle.extension_rules.specs.Rules.{is_id_among}
use Rattle.home_commands.specs.ExtensionLines.{has_stanza, lines_by}
use Rattle.home_commands.proofs.extension_lines.push_extensions.Goals as goal

pub returns : goal.returns
returns c =
    let same : has_id c.in_ok-has.has ≡ has_stanza (map said_stanza c.args.stanzas.now) =
    λ i (q : List ℕ). (c.in_ok-has.ensures q ∙ ap (λ ids. is_id_among ids q) (c.items.ensures ∙ c.in_ok-ids.ensures)) i in
    subst (λ has. OnOk c.push_by.result (string_bytes c.push_by.new.text ≡ string_bytes c.args.text.now ++ lines_by has (map said_stanza c.args.stanzas.now))) same c.push_by.ensures
