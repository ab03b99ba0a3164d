-- What a file's bytes have as their table, from what reading them told.
use Rattle.std.proofs.Common.{◌≡◌, ◌≤◌, ℕ, nat_le, arith, String, string_bytes, true, false, List, Option, Some, None, Ok, Err, inl, inr}
use Rattle.std.proofs.lemmas.Bool.{cases_Bool, le-leb}
use Rattle.std.proofs.lemmas.Str.{is_utf8-from_IsUtf8, IsUtf8-from_is_utf8, IsUtf8-string_bytes}
use Rattle.std.specs.Str.{IsUtf8, is_utf8}
use Rattle.std.specs.declared.alloc.Global.{Global}
use Rattle.toml.specs.Data.{Members, members_depth}
use Rattle.toml.specs.Parse.{parse_document}
use Rattle.toml_view.specs.Document.{document_of, nesting, nesting_limit, viewed, viewed_document, bad_toml, deep}

document-text : (bytes : List ℕ) (found : Option Members) → IsUtf8 bytes → parse_document bytes ≡ found → document_of bytes ≡ found
document-text bytes found text parsed = rw (is_utf8-from_IsUtf8 bytes text) parsed

document-none : (bytes : List ℕ) → (IsUtf8 bytes → parse_document bytes ≡ None) → document_of bytes ≡ None
document-none bytes refused =
    elim (cases_Bool (is_utf8 bytes)) [
      | inl text ↦ rw text (refused (IsUtf8-from_is_utf8 bytes text))
      | inr other ↦ rw other
    ]

at_document : (bytes : List ℕ) (found : Option Members) → document_of bytes ≡ found → viewed bytes ≡ viewed_document found
at_document bytes found same = rw same

pub viewed_ok : (bytes : List ℕ) (members : Members) → IsUtf8 bytes → parse_document bytes ≡ Some members → nat_le (nesting members) nesting_limit ≡ true → viewed bytes ≡ Ok members
viewed_ok bytes members text parsed within = rw (at_document bytes (Some members) (document-text bytes (Some members) text parsed), within)

pub viewed_deep : (bytes : List ℕ) (members : Members) → IsUtf8 bytes → parse_document bytes ≡ Some members → nat_le (nesting members) nesting_limit ≡ false → viewed bytes ≡ Err deep
viewed_deep bytes members text parsed past = rw (at_document bytes (Some members) (document-text bytes (Some members) text parsed), past)

pub viewed_bad : (bytes : List ℕ) → (IsUtf8 bytes → parse_document bytes ≡ None) → viewed bytes ≡ Err bad_toml
viewed_bad bytes refused = rw (at_document bytes None (document-none bytes refused))

-- a printed table reads again
pub viewed_printed : (text : String Global) (members : Members) → nesting members ≤ nesting_limit
    → (members_depth members ≤ 80 → parse_document (string_bytes text) ≡ Some members) → viewed (string_bytes text) ≡ Ok members
viewed_printed text members within parsed =
    let room : members_depth members ≤ 80 = omega arith in
    viewed_ok (string_bytes text) members (IsUtf8-string_bytes text) (parsed room) (le-leb (nesting members) nesting_limit within)
