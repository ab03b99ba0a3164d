use Rattle.std.proofs.Common.{List, map, arith}
use Rattle.std.proofs.lemmas.List.{length-map}
use Rattle.compat_spec.specs.declared.part.Part.{Part}
use Rattle.compat_spec.specs.Meaning.{specifier_holds}
use Rattle.offer_terms.specs.Offered.{Id}
use Rattle.offer_terms.specs.Demanded.{spec_entry}
use Rattle.selection_check.specs.Opening.{AllowsOf}
use Rattle.selection_check.proofs.OpenLemmas.{first_more, mapped_at, project_shut}
use Rattle.selection_check.proofs.opening.shut_project.Goals as goal

pub loop-entry-preserved : goal.loop-entry-preserved
loop-entry-preserved c =
    let inv = c.loop-entry.invariant in
    record {
      narrows = first_more c.args.book.now c.args.table.now c.loop-entry.table c.shut.new.table (λ (e : Id × List Part). AllowsOf e.0 (specifier_holds e.1)) (map spec_entry c.args.entries.now) c.loop-entry.entry-index (spec_entry c.entry-item.result) inv.narrows
          (mapped_at spec_entry c.args.entries.now c.loop-entry.entry-index c.entry-item.result (omega arith) c.entry-item.is) c.shut.ensures.narrows;
      made = c.shut.ensures.made;
    }

pub returns-clause-narrows : goal.returns-clause-narrows
returns-clause-narrows c =
    project_shut c.args.book.now c.args.table.now c.loop-entry.table (map spec_entry c.args.entries.now) c.loop-entry.entry-index c.loop-entry.invariant.narrows
    (omega (arith, c.loop-entry-test.false, length-map c.args.entries.now spec_entry))
