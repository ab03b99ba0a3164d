use Rattle.std.proofs.Common.{◌≡◌, [], ◌∷◌, ◌++◌, true, codes, map, sym, subst, ◌∙◌}
use Rattle.pkg_world.specs.Path.{is_plain}
use Rattle.world_maker.specs.Laid.{file_of}
use Rattle.world_maker.specs.Texts.{name}
use Rattle.world_maker.specs.World.{registry, filed}
use Rattle.world_maker.proofs.Parted.{name_plain}
use Rattle.world_maker.proofs.Pushed.{four}
use Rattle.world_maker.proofs.files.push_package.Goals as goal

pub child-requires : goal.child-requires
child-requires c = subst (λ part. is_plain part ≡ true) (sym (c.as_str.ensures.value ∙ c.in_ok-name.ensures)) (name_plain c.args.«package»)

pub returns : goal.returns
returns c =
    let folder : c.in_ok-folder.folder ≡ registry ++ name c.args.«package» ∷ [] =
    c.in_ok-folder.ensures ∙ (λ i. c.requires.folder i ++ (c.as_str.ensures.value ∙ c.in_ok-name.ensures) i ∷ []) in
    four (map file_of c.args.files.now.items) (map file_of c.push_file.new.files.items) (map file_of c.push_file-2.new.files.items) (map file_of c.push_file-3.new.files.items) (map file_of c.push_file-4.new.files.items)
    _ _ _ _ _ _ _ _ c.in_ok-push_file.ensures c.in_ok-push_file-2.ensures c.in_ok-push_file-3.ensures c.in_ok-push_file-4.ensures
    (λ i. filed (folder i) (codes "Package.toml") (c.in_ok-package_table.ensures i))
    (λ i. filed (folder i) (codes "Versions.toml") (c.in_ok-versions_table.ensures i))
    (λ i. filed (folder i) (codes "Deps.toml") (c.in_ok-deps_table.ensures i))
    (λ i. filed (folder i) (codes "Compat.toml") (c.in_ok-compat_table.ensures i))
