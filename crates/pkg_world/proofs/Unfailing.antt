-- A call that owes no rise of its count has not failed.
use Rattle.std.proofs.Common.{◌≡◌, ℕ, false, refl, arith}
use Rattle.pkg_world.specs.declared.store.ReadAnswer.{ReadAnswer}
use Rattle.pkg_world.specs.declared.store.ReadAnswer.TheVariants.{Bytes as ReadBytes, Missing as ReadMissing, Folder as ReadFolder, Failed as ReadFailed, Memory as ReadMemory}
use Rattle.pkg_world.specs.declared.store.KindAnswer.{KindAnswer}
use Rattle.pkg_world.specs.declared.store.KindAnswer.TheVariants.{File as KindFile, Folder as KindFolder, Missing as KindMissing, Failed as KindFailed, Memory as KindMemory}
use Rattle.pkg_world.specs.declared.store.ListAnswer.{ListAnswer}
use Rattle.pkg_world.specs.declared.store.ListAnswer.TheVariants.{Names as ListNames, Missing as ListMissing, File as ListFile, Failed as ListFailed, Memory as ListMemory}
use Rattle.pkg_world.specs.declared.store.WriteAnswer.{WriteAnswer}
use Rattle.pkg_world.specs.declared.store.WriteAnswer.TheVariants.{Done as WriteDone, Blocked as WriteBlocked, Failed as WriteFailed, Memory as WriteMemory}
use Rattle.pkg_world.specs.Outside.{Rose, ReadFaultRose, KindFaultRose, ListFaultRose, WriteFaultRose}
use Rattle.pkg_world.specs.Held.{read_failed, kind_failed, list_failed, write_failed}

never : Rose 0 0 → ⊥
never h = absurd (omega (arith, h))

pub sure_read : (r : ReadAnswer) → ((before now : ℕ) → ReadFaultRose r before now) → read_failed r ≡ false
sure_read (ReadBytes b) h = refl
sure_read ReadMissing h = refl
sure_read ReadFolder h = refl
sure_read ReadFailed h = absurd (never (h 0 0))
sure_read ReadMemory h = refl

pub sure_kind : (r : KindAnswer) → ((before now : ℕ) → KindFaultRose r before now) → kind_failed r ≡ false
sure_kind KindFile h = refl
sure_kind KindFolder h = refl
sure_kind KindMissing h = refl
sure_kind KindFailed h = absurd (never (h 0 0))
sure_kind KindMemory h = refl

pub sure_list : (r : ListAnswer) → ((before now : ℕ) → ListFaultRose r before now) → list_failed r ≡ false
sure_list (ListNames n) h = refl
sure_list ListMissing h = refl
sure_list ListFile h = refl
sure_list ListFailed h = absurd (never (h 0 0))
sure_list ListMemory h = refl

pub sure_write : (r : WriteAnswer) → ((before now : ℕ) → WriteFaultRose r before now) → write_failed r ≡ false
sure_write WriteDone h = refl
sure_write WriteBlocked h = refl
sure_write WriteFailed h = absurd (never (h 0 0))
sure_write WriteMemory h = refl
