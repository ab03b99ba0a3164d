-- What is judged by a book that was gathered is due by the offers of all packages.
use Rattle.std.proofs.Common.{◌≡◌, ℕ, List, Option, Some, None, Result, Ok, Err, inl, inr}
use Rattle.jl_versions.specs.declared.version.Version.{Version}
use Rattle.pkg_world.specs.Tree.{Files, holds, file_bytes}
use Rattle.offer_terms.specs.Offered.{Id, Selected, cut_to}
use Rattle.offer_terms.specs.Booked.{Packed, book_offers}
use Rattle.offer_terms.specs.Demanded.{Wanted}
use Rattle.offer_terms.specs.Feasible.{IsValid}
use Rattle.offer_catalog.specs.SaidCatalog.{SaidCatalog}
use Rattle.offer_book.specs.Scope.{scope}
use Rattle.offer_book.specs.AllOffers.{all_offers}
use Rattle.offer_book.specs.Gathered.{gathered}
use Rattle.offer_book.specs.Laws.{ValidAlike, RaisedAlike, FeasibleInBook, is_in}
use Rattle.refutation_log.specs.declared.node.Node.{Node}
use Rattle.command_answers.specs.declared.status.Status.{Status}
use Rattle.check_command.specs.CheckDue.{Claim, claims_valid, claims_none, Judged, extra_of, judged_of, judged_by, IsRaise, IsGood, IsBroken, IsSelectionJudged, IsJudgement}
use Rattle.log_check.specs.LogDue.{IsRefuted, IsProved, IsLogJudged}

module _ (valid_law : ValidAlike) (raised_law : RaisedAlike) (cut_law : FeasibleInBook) (files : Files) (catalog : SaidCatalog) (w : Wanted) (extra : List Id) (book : List Packed)
    (gathers : gathered files catalog (scope w) extra ≡ Ok book) where
  abbrev over_all : Claim → Judged
  over_all claim = judged_of (all_offers files catalog (scope w)) w claim book

  raises : (s : Selected) → IsValid (all_offers files catalog (scope w)) w s → (raise : Option (Id × Version)) → IsRaise (judged_by book w (claims_valid s)) s raise
      → IsRaise (over_all (claims_valid s)) s raise
  raises s valid None none = λ u v can. none u v ((raised_law files catalog w extra book s u v gathers valid).1 can)
  raises s valid (Some to) first = record {
    number = first.number;
    place = first.place;
    least = first.least;
    named = first.named;
    can = (raised_law files catalog w extra book s to.0 to.1 gathers valid).0 first.can;
  }

  good : (s : Selected) (text : List ℕ) → IsGood (judged_by book w (claims_valid s)) s text → IsGood (over_all (claims_valid s)) s text
  good s text is =
      let valid = (valid_law files catalog w extra book s gathers).0 is.valid in
      record { valid = valid; raise = is.raise; raises = raises s valid is.raise is.raises; told = is.told }

  broken : (s : Selected) (status : Status) → IsBroken (judged_by book w (claims_valid s)) s status → IsBroken (over_all (claims_valid s)) s status
  broken s status is = record {
    invalid = λ valid. is.invalid ((valid_law files catalog w extra book s gathers).1 valid);
    verdict = is.verdict;
    first = is.first;
    told = is.told;
  }

  selection : (s : Selected) (answer : Result (List ℕ) Status) → IsSelectionJudged (judged_by book w (claims_valid s)) s answer → IsSelectionJudged (over_all (claims_valid s)) s answer
  selection s (Ok text) (fits, is) = (fits, good s text is)
  selection s (Err status) (inl past) = inl past
  selection s (Err status) (inr (fits, is)) = inr (fits, broken s status is)

  refuted : (log : List Node) (line : List ℕ) → IsRefuted (book_offers book) w book log line → IsRefuted (all_offers files catalog (scope w)) w book log line
  refuted log line is = record {
    certified = is.certified;
    none = λ s feasible. is.none (cut_to (is_in book) s) (cut_law files catalog w extra book s gathers feasible);
    told = is.told;
  }

  proved : (file : Option (List ℕ)) (line : List ℕ) → IsProved (book_offers book) w book file line → IsProved (all_offers files catalog (scope w)) w book file line
  proved None line is = is
  proved (Some text) line is = record { log = is.log; read = is.read; refuted = refuted is.log line is.refuted }

  by_log : (path : List (List ℕ)) (file : Option (List ℕ)) (answer : Result (List ℕ) Status) → IsLogJudged (book_offers book) w book path file answer
      → IsLogJudged (all_offers files catalog (scope w)) w book path file answer
  by_log path file (Ok line) (fits, is) = (fits, proved file line is)
  by_log path file (Err status) is = is

  judged : (claim : Claim) (answer : Result (List ℕ) Status) → IsJudgement files (judged_by book w claim) answer → IsJudgement files (over_all claim) answer
  judged (claims_valid s) answer is = selection s answer is
  judged (claims_none path) answer is = by_log path (file_bytes (holds path files)) answer is

pub due : ValidAlike → RaisedAlike → FeasibleInBook → (files : Files) (catalog : SaidCatalog) (w : Wanted) (claim : Claim) (book : List Packed) (answer : Result (List ℕ) Status)
    → gathered files catalog (scope w) (extra_of claim) ≡ Ok book → IsJudgement files (judged_by book w claim) answer
    → IsJudgement files (judged_of (all_offers files catalog (scope w)) w claim book) answer
due valid_law raised_law cut_law files catalog w claim book answer gathers is = judged valid_law raised_law cut_law files catalog w (extra_of claim) book gathers claim answer is
