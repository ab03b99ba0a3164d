use Rattle.std.proofs.Common.{◌≡◌, IfOk, map, ap, ◌∙◌, sym, subst, arith}
use Rattle.pkg_world.specs.Held.{sure_files}
use Rattle.world_maker.specs.Laid.{file_of, HasExactly, AreParted, ArePlain}
use Rattle.world_maker.specs.World.{world}
use Rattle.world_maker.proofs.Parted.{world_parted}
use Rattle.world_maker.proofs.Plain.{world_plain}
use Rattle.world_maker.proofs.world.make_world.Goals as goal

pub lay_all-requires-clause-parted : goal.lay_all-requires-clause-parted
lay_all-requires-clause-parted c =
    let same : map file_of c.deref.result.now ≡ world c.args.number = ap (map file_of) c.deref.ensures.value ∙ c.in_ok-files.ensures in
    subst AreParted (sym same) (world_parted c.args.number 300 (omega arith))

pub lay_all-requires-clause-plain : goal.lay_all-requires-clause-plain
lay_all-requires-clause-plain c =
    let same : map file_of c.deref.result.now ≡ world c.args.number = ap (map file_of) c.deref.ensures.value ∙ c.in_ok-files.ensures in
    subst ArePlain (sym same) (world_plain c.args.number 300)

pub returns : goal.returns
returns c =
    let same : map file_of c.deref.result.now ≡ world c.args.number = ap (map file_of) c.deref.ensures.value ∙ c.in_ok-files.ensures in
    subst (λ files. IfOk c.lay_all.result (λ store. HasExactly files (sure_files store))) same c.lay_all.ensures
