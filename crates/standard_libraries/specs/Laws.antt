-- What counts of several folders of one identifier, in the subject's words.
use Rattle.std.specs.Prelude.{◌≡◌, ℕ, List, find}
use Rattle.std.specs.Str.{bytes_eq}
use Rattle.standard_libraries.specs.Libraries.{library_with_id, by_id}
use Rattle.standard_libraries.specs.SaidLibrary.{SaidLibrary}

-- the library of an identifier is the first that has it, in the order of the folders
abbrev pub FirstFolderCounts : Type 0
FirstFolderCounts = (found : List SaidLibrary) (id : List ℕ) → library_with_id (by_id found) id ≡ find (λ library. bytes_eq id library.uuid) found
