-- What `check` is due to answer: whether what the manifest says is valid for the offers of the files and the demand of the
-- project, and then the package that can be raised; or, where a file is named, whether the log that it tells shows that no
-- selection is feasible. (Pkg, Compatibility; the order and the lines are own rules.)
--     IsDue files place proof answer     this answer is due
-- The refusals come in this order: the project file and then the manifest, which must both be there; the files of the catalog;
-- Julia's version, and then what is to be fetched; the tables of the packages that are reached from the roots and, where no
-- file is named, from what the manifest selects, roots without a source, and too many packages; the limits of the instance that
-- stands for the book and the demand. Then the verdict, where it isn't good, or the named file and its log.
use Rattle.std.specs.Prelude.{◌≡◌, ℕ, true, List, [], slice_get, Option, Some, None, option_map, Result, Ok, Err}
use Rattle.std.specs.Map.{keys_of}
use Rattle.jl_versions.specs.declared.version.Version.{Version}
use Rattle.pkg_world.specs.Each.{then_ok}
use Rattle.pkg_world.specs.Path.{Path}
use Rattle.pkg_world.specs.Tree.{Files, holds, file_bytes}
use Rattle.pkg_world.specs.declared.place.Place.{Place}
use Rattle.offer_terms.specs.Offered.{Id, Offers, Selected}
use Rattle.offer_terms.specs.Booked.{Packed, package_at, book_offers}
use Rattle.offer_terms.specs.Demanded.{Wanted}
use Rattle.offer_terms.specs.Feasible.{IsValid, CanRaise}
use Rattle.offer_catalog.specs.SaidCatalog.{SaidCatalog}
use Rattle.offer_catalog.specs.Selected.{selected_by}
use Rattle.offer_book.specs.Scope.{scope}
use Rattle.offer_book.specs.AllOffers.{all_offers}
use Rattle.selection_check.specs.Raises.{IsLeastRaise}
use Rattle.selection_check.specs.Verdicts.{IsFirstBreach}
use Rattle.selection_check.specs.declared.verdict.Verdict.{Verdict}
use Rattle.pkg_commands.specs.Commands.{resolve}
use Rattle.command_answers.specs.declared.status.Difference.TheVariants.{Broken}
use Rattle.command_answers.specs.declared.status.Status.{Status}
use Rattle.command_answers.specs.declared.status.Status.TheVariants.{Differs}
use Rattle.project_phases.specs.Phases.{Opened, opened_in, edited_as, booked_in}
use Rattle.log_check.specs.Limited.{IsJudgedBy}
use Rattle.check_command.specs.Lines.{good_text}
use Rattle.log_check.specs.LogDue.{IsLogJudged}
use Rattle.check_command.specs.declared.claim.Claim as code
use Rattle.check_command.specs.declared.claim.Claim.TheVariants.{Valid, Refuted}

-- ---- what is judged, or the first refusal

-- what is claimed: that what the manifest selects is valid, or that the log of a file shows that no selection is feasible
pub data Claim : Type 0 where
  claims_valid : Selected → Claim
  claims_none : Path → Claim

-- a claim without the room of its lists
abbrev pub seen_claim : code.Claim → Claim
seen_claim (Valid selection) = claims_valid selection.items
seen_claim (Refuted path) = claims_none path

-- beside the offers of all packages, the demand, and the book, by which packages are numbered
pub record Judged : Type 0 where
  pub offers : Offers
  pub wanted : Wanted
  pub book : List Packed
  pub claim : Claim

abbrev pub claim_of : Option Path → Opened → Claim
claim_of None it = claims_valid (selected_by it.catalog it.project.uuid it.manifest)
claim_of (Some path) it = claims_none path

-- the packages that are gathered beside the roots: those that the manifest selects, where that is what is judged
abbrev pub extra_of : Claim → List Id
extra_of (claims_valid s) = keys_of s
extra_of (claims_none path) = []

abbrev pub judged_of : Offers → Wanted → Claim → List Packed → Judged
judged_of offers w claim book = record { offers = offers; wanted = w; book = book; claim = claim }

abbrev pub with_demand : Files → SaidCatalog → Claim → Wanted → Result Judged Status
with_demand files catalog claim w = then_ok (booked_in files catalog w (extra_of claim)) (λ book. Ok (judged_of (all_offers files catalog (scope w)) w claim book))

abbrev pub with_claim : Files → Place → Claim → Opened → Result Judged Status
with_claim files place claim it = then_ok (edited_as resolve place it) (λ edit. with_demand files it.catalog claim edit.demand)

abbrev pub with_opened : Files → Place → Option Path → Opened → Result Judged Status
with_opened files place proof it = with_claim files place (claim_of proof it) it

abbrev pub checked_in : Files → Place → Option Path → Result Judged Status
checked_in files place proof = then_ok (opened_in true files place) (with_opened files place proof)

-- the same by what a book offers
abbrev pub judged_by : List Packed → Wanted → Claim → Judged
judged_by book w claim = judged_of (book_offers book) w claim book

-- ---- the answer on what the manifest selects

-- the package of a number and the version of its offer in a place
abbrev pub raised_to : List Packed → ℕ → ℕ → Option (Id × Version)
raised_to book p j = option_map (λ x. ((package_at book p).uuid, x.version)) (slice_get (package_at book p).offers j)

-- the least package that can be raised alone, and its least such offer
pub record IsFirstRaise (it : Judged) (s : Selected) (raise : Id × Version) : Type 0 where
  pub number : ℕ
  pub place : ℕ
  pub least : IsLeastRaise it.book it.wanted s number place
  pub named : raised_to it.book number place ≡ Some raise
  pub can : CanRaise it.offers it.wanted s raise.0 raise.1

abbrev pub IsRaise : Judged → Selected → Option (Id × Version) → Type 0
IsRaise it s None = (u : Id) (v : Version) → CanRaise it.offers it.wanted s u v → ⊥
IsRaise it s (Some raise) = IsFirstRaise it s raise

-- a valid selection is good
pub record IsGood (it : Judged) (s : Selected) (text : List ℕ) : Type 0 where
  pub valid : IsValid it.offers it.wanted s
  pub raise : Option (Id × Version)
  pub raises : IsRaise it s raise
  pub told : text ≡ good_text raise

-- any other breaks a clause, and the first one that it breaks is told
pub record IsBroken (it : Judged) (s : Selected) (status : Status) : Type 0 where
  pub invalid : IsValid it.offers it.wanted s → ⊥
  pub verdict : Verdict
  pub first : IsFirstBreach it.book it.wanted s verdict
  pub told : status ≡ Differs (Broken verdict)

-- the first clause that a selection breaks, which isn't valid by what a book offers
pub record IsBreach (book : List Packed) (w : Wanted) (s : Selected) (verdict : Verdict) : Type 0 where
  pub first : IsFirstBreach book w s verdict
  pub invalid : IsValid (book_offers book) w s → ⊥

abbrev pub IsSelectionJudged : Judged → Selected → Result (List ℕ) Status → Type 0
IsSelectionJudged it s answer = IsJudgedBy it.book it.wanted (IsGood it s) (IsBroken it s) answer

-- ---- the answer

abbrev pub IsClaimJudged : Files → Judged → Claim → Result (List ℕ) Status → Type 0
IsClaimJudged files it (claims_valid s) answer = IsSelectionJudged it s answer
IsClaimJudged files it (claims_none path) answer = IsLogJudged it.offers it.wanted it.book path (file_bytes (holds path files)) answer

abbrev pub IsJudgement : Files → Judged → Result (List ℕ) Status → Type 0
IsJudgement files it answer = IsClaimJudged files it it.claim answer

abbrev pub IsAnswerOn : Files → Result Judged Status → Result (List ℕ) Status → Type 0
IsAnswerOn files (Ok it) answer = IsJudgement files it answer
IsAnswerOn files (Err refusal) answer = answer ≡ Err refusal

abbrev pub IsDue : Files → Place → Option Path → Result (List ℕ) Status → Type 0
IsDue files place proof answer = IsAnswerOn files (checked_in files place proof) answer
