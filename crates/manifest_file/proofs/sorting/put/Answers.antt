use Rattle.std.proofs.Common.{ap, ◌∙◌}
use Rattle.std.specs.Ordering.{nat_cmp}
use Rattle.std.specs.Cmp.Lexicographic.{slice_cmp}
use Rattle.std.specs.FinMap.Entries.{put}
use Rattle.manifest_file.specs.Sorting.{pairs_of}
use Rattle.manifest_file.proofs.Sorts.{pairs_of-insert}
use Rattle.manifest_file.proofs.sorting.put.Goals as goal

pub returns : goal.returns
returns c =
    ap pairs_of c.in_ok-insert.ensures.entries
    ∙ pairs_of-insert c.args.map.now.entries c.in_ok-key.key c.args.id
    ∙ ap (λ name. put (slice_cmp nat_cmp) name c.args.id (pairs_of c.args.map.now.entries)) c.in_ok-key.ensures.ok
