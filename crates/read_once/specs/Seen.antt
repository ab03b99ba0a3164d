-- What a store has answered, and when that is true of its files.
use Rattle.std.specs.Prelude.{◌≡◌, ℕ, true, List, Option, Some, None, option_map, IsSome, if◌then◌else◌, refl}
use Rattle.std.specs.BTreeMap.{get_by_text}
use Rattle.std.specs.Coded.{Coded, Coded-set, coded_ℕ, coded_list, coded_option, code_by, Π_prop}
use Rattle.std.specs.Str.{bytes_eq}
use Rattle.pkg_world.specs.Outside.{ReadGives, ReadFaultRose}
use Rattle.pkg_world.specs.Path.{Path, are_plain, path_text}
use Rattle.pkg_world.specs.Tree.{Files, Content, bytes, a_folder, nothing, holds}
use Rattle.pkg_world.specs.declared.store.ReadAnswer.{ReadAnswer}
use Rattle.pkg_world.specs.declared.store.ReadAnswer.TheVariants.{Bytes as ReadBytes, Missing as ReadMissing, Folder as ReadFolder, Failed as ReadFailed, Memory as ReadMemory}
use Rattle.read_once.specs.declared.seen.Found.{Found}
use Rattle.read_once.specs.declared.seen.Found.TheVariants.{Bytes, Missing, Folder}
use Rattle.read_once.specs.declared.seen.Seen.{Seen}

-- what a path holds that was answered so
abbrev pub content_of : Found → Content
content_of (Bytes b) = bytes b.items
content_of Missing = nothing
content_of Folder = a_folder

-- what is remembered of a path
abbrev pub seen_at : Seen → Path → Option Content
seen_at seen path = option_map content_of (get_by_text seen.found (path_text path))

-- what was answered is remembered; nothing is said of a call that failed, or that had no memory
abbrev pub Remembers : ReadAnswer → Option Content → Type 0
Remembers (ReadBytes b) found = found ≡ Some (bytes b.items)
Remembers ReadMissing found = found ≡ Some nothing
Remembers ReadFolder found = found ≡ Some a_folder
Remembers ReadFailed found = Unit {0}
Remembers ReadMemory found = Unit {0}

-- what was remembered still is, and as it was
abbrev pub StaysIn : Seen → Seen → Type 0
StaysIn old new = (path : Path) → IsSome (seen_at old path) → seen_at new path ≡ seen_at old path

-- one path's content is remembered, and all else stays; paths go by their texts
abbrev pub Keeps : Path → Content → Seen → Seen → Type 0
Keeps path there old new = (other : Path) → seen_at new other ≡ (if bytes_eq (path_text path) (path_text other) then Some there else seen_at old other)

-- an answer that is remembered, once more; want of memory says nothing
abbrev pub IsRepeated : Option Content → ReadAnswer → Type 0
IsRepeated None answer = ⊥
IsRepeated (Some there) answer = ReadGives there answer × ((before now : ℕ) → ReadFaultRose answer before now)

-- where files are told, what is remembered is what they hold
abbrev pub IsTrueOf : Option Files → Seen → Type 0
IsTrueOf told seen = (all : Files) → told ≡ Some all → (path : Path) → are_plain path ≡ true → (there : Content) → seen_at seen path ≡ Some there → holds path all ≡ there

abbrev unfolded : Content → Option (Option (List ℕ))
unfolded (bytes b) = Some (Some b)
unfolded a_folder = Some None
unfolded nothing = None

abbrev folded : Option (Option (List ℕ)) → Content
folded (Some (Some b)) = bytes b
folded (Some None) = a_folder
folded None = nothing

folded-unfolded : (there : Content) → folded (unfolded there) ≡ there
folded-unfolded (bytes b) = refl
folded-unfolded a_folder = refl
folded-unfolded nothing = refl

content_code : Coded Content
content_code = code_by (Option (Option (List ℕ))) (coded_option (coded_option (coded_list coded_ℕ))) unfolded folded folded-unfolded

pub IsTrueOf-prop : (told : Option Files) (seen : Seen) → IsProp (IsTrueOf told seen)
IsTrueOf-prop told seen = Π_prop (λ all. Π_prop (λ is. Π_prop (λ path. Π_prop (λ plain. Π_prop (λ there. Π_prop (λ remembered. Coded-set content_code _ _))))))
