use Rattle.std.proofs.Common.{sym, ◌∙◌, arith}
use Rattle.depot_hash.specs.Walks.{can_run}
use Rattle.depot_hash.proofs.Entering.{unplain_adds, shut_adds, file_adds, folder_adds, folder_refused, walk_refused, walk_on}
use Rattle.depot_hash.proofs.folders.+walk.Goals as goal

pub at_folder-returns-then-eq-clause-told : goal.at_folder-returns-then-eq-clause-told
at_folder-returns-then-eq-clause-told g t c =
    shut_adds (g.S.Store.files c.args.store.now) c.args.depth c.args.path.now c.args.name.now (can_run c.args.execs.now) c.args.found.now (rw c.as_str.ensures at (sym c.eq.ensures ∙ c.if-eq.true)) c.requires.no_file

pub at_folder-returns-in-Ok-clause-told : goal.at_folder-returns-in-Ok-clause-told
at_folder-returns-in-Ok-clause-told g t c =
    folder_adds (g.S.Store.files c.args.store.now) c.args.depth c.args.path.now c.args.name.now (can_run c.args.execs.now) c.in-Ok-Some.names.items c.in-Ok.inner c.args.found.now c.add_folder.new.found c.add_folder.result
    c.requires.plain (rw c.as_str.ensures at (sym c.eq.ensures ∙ c.if-eq.false))
    (rw c.in-Ok-Some.field-0-is at c.in-Ok-Some.ensures.found) (rw c.in-Ok-Some.field-0-is at c.in-Ok-Some.ensures.order)
    (rw (c.in-Ok-Some.ensures.files, c.items.ensures) at c.in-Ok.ensures.told) c.add_folder.ensures.told

pub at_folder-returns-in-Ok-Some-clause-told : goal.at_folder-returns-in-Ok-Some-clause-told
at_folder-returns-in-Ok-Some-clause-told g t c =
    folder_refused (g.S.Store.files c.args.store.now) c.args.depth c.args.path.now c.args.name.now (can_run c.args.execs.now) c.in-Ok-Some.names.items c.args.found.now c.args.found.now c.in-Err-enter.fault
    c.requires.plain (rw c.as_str.ensures at (sym c.eq.ensures ∙ c.if-eq.false))
    (rw c.in-Ok-Some.field-0-is at c.in-Ok-Some.ensures.found) (rw c.in-Ok-Some.field-0-is at c.in-Ok-Some.ensures.order)
    (rw (c.in-Ok-Some.ensures.files, c.items.ensures) at c.in-Err-enter.ensures.told)

pub at_name-returns-then-not-is_plain-clause-told : goal.at_name-returns-then-not-is_plain-clause-told
at_name-returns-then-not-is_plain-clause-told g t c =
    unplain_adds (g.S.Store.files c.args.store.now) c.args.depth c.args.folder.now c.args.name.now (can_run c.args.execs.now) c.args.found.now (rw c.as_str.ensures at (sym c.is_plain.ensures ∙ c.if-not-is_plain.true))

pub at_name-returns-in-Ok-Some-clause-told : goal.at_name-returns-in-Ok-Some-clause-told
at_name-returns-in-Ok-Some-clause-told g t c =
    file_adds (g.S.Store.files c.args.store.now) c.args.depth c.args.folder.now c.in_ok-path.path c.args.name.now c.in-Ok-Some.bytes.items (can_run c.args.execs.now) c.args.found.now c.add_file.new.found c.add_file.result
    (rw c.as_str.ensures at (sym c.is_plain.ensures ∙ c.if-not-is_plain.false)) (rw c.as_str-2.ensures at c.in_ok-path.ensures)
    (rw c.in-Ok-Some.field-0-is at c.in-Ok-Some.ensures.found) (rw c.items.ensures at c.add_file.ensures.told)

pub at_name-returns-in-Ok-Some-clause-fault : goal.at_name-returns-in-Ok-Some-clause-fault
at_name-returns-in-Ok-Some-clause-fault g t c = c.add_file.ensures.fault _ _

pub entries_in-returns-in-Err-clause-told : goal.entries_in-returns-in-Err-clause-told
entries_in-returns-in-Err-clause-told g t c =
    walk_refused (g.S.Store.files c.args.store.now) c.loop-name.found.files c.args.files c.args.depth c.loop-name.name-index c.args.folder.now (can_run c.args.execs.now) c.args.names.now c.name-item.result c.loop-name.found.entries.items c.in-Err.fault
    c.loop-name-test.true c.name-item.is c.loop-name.invariant.told (rw c.loop-name.invariant.files at c.in-Err.ensures.told)

pub entries_in-loop-name-preserved : goal.entries_in-loop-name-preserved
entries_in-loop-name-preserved g t c = record {
  told =
      walk_on (g.S.Store.files c.args.store.now) c.args.files c.args.depth c.loop-name.name-index c.args.folder.now (can_run c.args.execs.now) c.args.names.now c.name-item.result c.loop-name.found c.at_name.new.found
      c.loop-name-test.true c.name-item.is c.loop-name.invariant.told (rw c.loop-name.invariant.files at c.in-Ok.ensures.told);
  files = c.in-Ok.ensures.files ∙ c.loop-name.invariant.files;
  later = omega (arith, c.in-Ok.ensures.later, c.loop-name.invariant.later);
  other = c.in-Ok.ensures.other ∙ c.loop-name.invariant.other;
}
