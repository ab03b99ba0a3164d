-- The first folder of an identifier counts.
use Rattle.std.proofs.Common.{◌≡◌, ℕ, List, [], find, Option, Some, None, option_map, refl, ◌∙◌}
use Rattle.std.specs.Cmp.Lexicographic.{nat_list_cmp_total}
use Rattle.std.proofs.lemmas.Map.Text.{is_eq-slice_cmp}
use Rattle.registry_tables.proofs.Ordered.{found-firsts}
use Rattle.standard_libraries.specs.Laws.{FirstFolderCounts}
use Rattle.standard_libraries.specs.Libraries.{by_bytes}
use Rattle.standard_libraries.specs.SaidLibrary.{SaidLibrary}

same_item : {A : Type 0} (o : Option A) → option_map (λ x. x) o ≡ o
same_item None = refl
same_item (Some x) = refl

pub first-folder : FirstFolderCounts
first-folder found id =
    found-firsts by_bytes nat_list_cmp_total (λ (library : SaidLibrary). library.uuid) (λ (library : SaidLibrary). library) id [] found ∙ same_item _ ∙ (λ k. find (λ library. is_eq-slice_cmp id library.uuid k) found)
