use Rattle.std.proofs.Common.{◌≡◌, ◌∷◌, arith}
use Rattle.std.proofs.lemmas.Grind.{common_steps}
use Rattle.package_tables.proofs.Walks.{TomlEntry}
use Rattle.package_tables.proofs.Marks.{marks-next, marks-refused}
use Rattle.package_tables.proofs.versions.all_marks.Goals as goal

pub versions-preserved : goal.versions-preserved
versions-preserved c =
    let (can, finite, (done, put, same)) = c.versions.invariant in
    let e : TomlEntry = (c.in-Some.key.now, c.in-Some.value.now) in
    let iter : c.versions.key-iterator ≡ e ∷ c.next.new.self = grind (arith, common_steps) in
    (tt, tt, marks-next done c.versions.marks.entries c.put_version.new.marks.entries c.versions.key-iterator c.next.new.self e c.as_str.result.now _ put iter c.as_str.ensures.value c.in-Ok.ensures.put same)

pub returns-in-Err-clause-err : goal.returns-in-Err-clause-err
returns-in-Err-clause-err c =
    let (can, finite, (done, put, same)) = c.versions.invariant in
    let e : TomlEntry = (c.in-Some.key.now, c.in-Some.value.now) in
    let iter : c.versions.key-iterator ≡ e ∷ c.next.new.self = grind (arith, common_steps) in
    marks-refused c.in-Err.stop done c.versions.marks.entries c.versions.key-iterator c.next.new.self e c.as_str.result.now _ put iter c.as_str.ensures.value c.in-Err.ensures.put same
