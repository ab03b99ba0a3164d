use Rattle.std.proofs.Common.{◌≡◌, ◌+◌, ◌<◌, ◌∷◌, ◌++◌, [], map, take, length, get_or, subst, sym, ap, ◌∙◌}
use Rattle.std.proofs.Math.Seq.{take-length}
use Rattle.std.proofs.lemmas.List.{take_more}
use Rattle.std.specs.List.{AllByRecursion}
use Rattle.pkg_world.specs.Held.{sure_files}
use Rattle.world_maker.specs.Laid.{file_of, HasExactly, DoPart, IsPlain}
use Rattle.world_maker.specs.World.{Tabled}
use Rattle.world_maker.proofs.Apart.{one_more, free, parted_at, deep_at, plain_at, none_yet, mapped_at, mapped_inside, all_mapped}
use Rattle.world_maker.proofs.laying.lay_all.Goals as goal

pub files-init : goal.files-init
files-init c = subst (HasExactly []) (sym c.in_ok-store.ensures) none_yet

pub lay-requires-clause-free : goal.lay-requires-clause-free
lay-requires-clause-free c =
    let files = map file_of c.args.files.now in
    let i = c.files.file-index in
    let new = file_of c.file-item.result in
    let inside = mapped_inside c.args.files.now i c.files-test.true in
    let here : get_or files i new ≡ new = mapped_at c.args.files.now i c.file-item.result c.file-item.is in
    free c.writing_sets_one_path.ensures.blocked new (sure_files c.files.store) (take i files)
    (subst (λ (file : Tabled). 0 < length file.path) here (deep_at files i new c.requires.parted inside))
    (subst (λ (file : Tabled). AllByRecursion (λ other. DoPart other.path file.path) (take i files)) here (parted_at files i new c.requires.parted inside))
    c.files.invariant

pub lay-requires-clause-plain : goal.lay-requires-clause-plain
lay-requires-clause-plain c =
    let files = map file_of c.args.files.now in
    let i = c.files.file-index in
    let new = file_of c.file-item.result in
    let here : get_or files i new ≡ new = mapped_at c.args.files.now i c.file-item.result c.file-item.is in
    subst (λ (file : Tabled). IsPlain file.members) here (plain_at files i new c.requires.plain (mapped_inside c.args.files.now i c.files-test.true))

pub files-preserved : goal.files-preserved
files-preserved c =
    let files = map file_of c.args.files.now in
    let i = c.files.file-index in
    let new = file_of c.file-item.result in
    let inside = mapped_inside c.args.files.now i c.files-test.true in
    let here : get_or files i new ≡ new = mapped_at c.args.files.now i c.file-item.result c.file-item.is in
    let parts = subst (λ (file : Tabled). AllByRecursion (λ other. DoPart other.path file.path) (take i files)) here (parted_at files i new c.requires.parted inside) in
    let lays = c.in_ok-lay.ensures in
    let sets = c.writing_sets_one_path.ensures.sets new.path lays.text (sure_files c.files.store) (sure_files c.lay.new.store) lays.put_there in
    let more : take (i + 1) files ≡ take i files ++ new ∷ [] = take_more files i new inside ∙ ap (λ file. take i files ++ file ∷ []) here in
    subst (λ those. HasExactly those (sure_files c.lay.new.store)) (sym more) (one_more new lays.text (sure_files c.files.store) (sure_files c.lay.new.store) (take i files) sets lays.reads parts c.files.invariant)

pub returns : goal.returns
returns c =
    let files = map file_of c.args.files.now in
    let whole : c.files.file-index ≡ length files = all_mapped c.args.files.now c.files.file-index c.files.auto.file-index-end c.files-test.false in
    subst (λ those. HasExactly those (sure_files c.files.store)) (ap (λ n. take n files) whole ∙ take-length files) c.files.invariant
