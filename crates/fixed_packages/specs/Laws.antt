-- What counts of several that are fixed, in the subject's words.
use Rattle.std.specs.Prelude.{◌≡◌, ℕ, List, find}
use Rattle.std.specs.Option.{option_or}
use Rattle.std.specs.BTreeMap.{is_at}
use Rattle.package_tables.specs.Row.{by_bytes, value_of}
use Rattle.project_file.specs.Said as project
use Rattle.fixed_packages.specs.Candidates.{ids_of, id_in}
use Rattle.fixed_packages.specs.FixedPackages.{by_id}
use Rattle.fixed_packages.specs.declared.candidate.Candidate.{Candidate}

-- a name has the identifier that `deps` gives it, else `weakdeps`, else `extras`
abbrev pub DepsBeforeWeakBeforeExtras : Type 0
DepsBeforeWeakBeforeExtras = (said : project.Said) (name : List ℕ)
    → id_in (ids_of said) name ≡ option_or (value_of name said.deps) (option_or (value_of name said.weakdeps) (value_of name said.extras))

-- of an identifier the first candidate counts
abbrev pub FirstCandidateCounts : Type 0
FirstCandidateCounts = (found : List Candidate) (id : List ℕ) → value_of id (by_id found) ≡ find (λ candidate. is_at (by_bytes id) candidate.uuid) found
