-- What is due on a log where the phases before it are not refused.
use Rattle.std.proofs.Common.{◌≡◌, ℕ, true, List, Option, Some, None, Result, Ok, Err, refl, ap, subst, inl, inr, arith}
use Rattle.pkg_world.specs.Each.{then_ok}
use Rattle.pkg_world.specs.Path.{Path}
use Rattle.pkg_world.specs.Tree.{Files, holds, file_bytes}
use Rattle.pkg_world.specs.declared.place.Place.{Place}
use Rattle.pkg_world.specs.declared.cause.LimitKind.{LimitKind}
use Rattle.pkg_world.specs.declared.cause.LimitKind.TheVariants.{Packages, States, Bits, Cells, TreeDepth, TreeFiles}
use Rattle.offer_terms.specs.Demanded.{Wanted}
use Rattle.offer_terms.specs.Booked.{Packed}
use Rattle.offer_catalog.specs.SaidCatalog.{SaidCatalog}
use Rattle.offer_book.specs.Scope.{scope}
use Rattle.offer_book.specs.AllOffers.{all_offers}
use Rattle.pkg_commands.specs.Commands.{resolve}
use Rattle.version_graph.specs.declared.fault.GraphFault.TheVariants as instance
use Rattle.book_graph.specs.Laws.{SumsAreOne}
use Rattle.book_graph.specs.Limits.{IsPast, Fits}
use Rattle.refutation_log.specs.declared.node.Node.{Node}
use Rattle.log_text.specs.Laws.{TextOfOne}
use Rattle.log_text.specs.Text.{IsTextOf}
use Rattle.command_answers.specs.declared.status.Status.{Status}
use Rattle.project_phases.specs.Phases.{opened_in, edited_as, booked_in}
use Rattle.check_command.specs.CheckDue.{Claim, claims_none, Judged, judged_of, checked_in, with_opened, with_demand, IsClaimJudged, IsAnswerOn, IsDue}
use Rattle.check_command.specs.Laws.{HasNone}
use Rattle.log_check.specs.LogDue.{refuted_line, Certifies, IsProved, IsLogJudged}

-- what is judged claims what was asked
abbrev Claims : Claim → Result Judged Status → Type 0
Claims claim (Ok it) = it.claim ≡ claim
Claims claim (Err refusal) = Unit {0}

then_claims : {S : Type 0} (claim : Claim) (phase : Result S Status) (next : S → Result Judged Status) → ((value : S) → Claims claim (next value)) → Claims claim (then_ok phase next)
then_claims claim (Ok value) next each = each value
then_claims claim (Err refusal) next each = tt

demand_claims : (files : Files) (catalog : SaidCatalog) (claim : Claim) (w : Wanted) → Claims claim (with_demand files catalog claim w)
demand_claims files catalog claim w =
    then_claims claim (booked_in files catalog w _) (λ book. let r : Result Judged Status = Ok (judged_of (all_offers files catalog (scope w)) w claim book) in r) (λ book. refl)

checked_claims : (files : Files) (place : Place) (path : Path) → Claims (claims_none path) (checked_in files place (Some path))
checked_claims files place path =
    then_claims (claims_none path) (opened_in true files place) (with_opened files place (Some path))
    (λ it. then_claims (claims_none path) (edited_as resolve place it) (λ edit. with_demand files it.catalog (claims_none path) edit.demand)
    (λ edit. demand_claims files it.catalog (claims_none path) edit.demand))

differ : {A B : Type 0} (a : A) (b : B) → Ok a ≡ Err b → ⊥
differ a b h = cc

by_file : (files : Files) (place : Place) (path : Path) (line : List ℕ) (it : Judged) → checked_in files place (Some path) ≡ Ok it → (file : Option (List ℕ))
    → file_bytes (holds path files) ≡ file → IsProved it.offers it.wanted it.book file line → HasNone files place path
by_file files place path line it is None there proved = absurd proved
by_file files place path line it is (Some text) there proved = record {
  it = it;
  judged = is;
  none = proved.refuted.none;
  text = text;
  file = there;
  log = proved.log;
  read = proved.read;
  certified = proved.refuted.certified;
}

none_of : (files : Files) (place : Place) (path : Path) (line : List ℕ) (judged : Result Judged Status) → checked_in files place (Some path) ≡ judged → Claims (claims_none path) judged
    → IsAnswerOn files judged (Ok line) → HasNone files place path
none_of files place path line (Ok it) is claims due =
    let here : IsClaimJudged files it (claims_none path) (Ok line) = subst (λ claim. IsClaimJudged files it claim (Ok line)) claims due in
    by_file files place path line it is (file_bytes (holds path files)) refl here.1
none_of files place path line (Err refusal) is claims due = absurd (differ line refusal due)

pub refuted_none : (files : Files) (place : Place) (path : Path) (line : List ℕ) → IsDue files place (Some path) (Ok line) → HasNone files place path
refuted_none files place path line due = none_of files place path line (checked_in files place (Some path)) refl (checked_claims files place path) due

-- ---- a certificate is refuted

-- where no limit is passed, none is
within : SumsAreOne → (book : List Packed) (w : Wanted) → Fits book w → (kind : LimitKind) (count : ℕ) → IsPast book w (instance.Limit kind count) → ⊥
within law book w fits Packages count past = let few = fits.few in omega (arith, few, past.0)
within law book w fits States count past = let small = fits.small in omega (arith, small, past.1)
within law book w fits Bits count past =
    let same = (law book w past.1.graph fits.sums.graph past.1.stands fits.sums.stands).0 in
    let over = past.1.says.0 in
    let under = fits.sums.says.0 in
    omega (arith, same, over, under)
within law book w fits Cells count past =
    let same = (law book w past.1.graph fits.sums.graph past.1.stands fits.sums.stands).1 in
    let over = past.1.says.1 in
    let under = fits.sums.says.1 in
    omega (arith, same, over, under)
within law book w fits TreeDepth count past = past
within law book w fits TreeFiles count past = past

module _ (sums_law : SumsAreOne) (text_law : TextOfOne) (it : Judged) (path : Path) (text : List ℕ) (log : List Node) (fits : Fits it.book it.wanted) (read : IsTextOf text log)
    (certified : Certifies it.book it.wanted log) where
  alone : (answer : Result (List ℕ) Status) → IsLogJudged it.offers it.wanted it.book path (Some text) answer → answer ≡ Ok refuted_line
  alone (Ok line) (small, proof) = ap Ok proof.refuted.told
  alone (Err status) (inl past) = absurd (within sums_law it.book it.wanted fits past.kind past.count past.past)
  alone (Err status) (inr (small, inl bad)) = absurd (bad.bad.refused (log, read))
  alone (Err status) (inr (small, inr other)) =
      absurd (other.unrefuted.uncertified (subst (Certifies it.book it.wanted) (text_law text log other.log read other.read) certified))

pub certified_refuted : SumsAreOne → TextOfOne → (files : Files) (place : Place) (path : Path) (it : Judged) (text : List ℕ) (log : List Node) (answer : Result (List ℕ) Status)
    → checked_in files place (Some path) ≡ Ok it → Fits it.book it.wanted → file_bytes (holds path files) ≡ Some text → IsTextOf text log → Certifies it.book it.wanted log
    → IsDue files place (Some path) answer → answer ≡ Ok refuted_line
certified_refuted sums_law text_law files place path it text log answer is fits there read certified due =
    let judged : IsAnswerOn files (Ok it) answer = subst (λ r. IsAnswerOn files r answer) is due in
    let claims : it.claim ≡ claims_none path = subst (Claims (claims_none path)) is (checked_claims files place path) in
    let here : IsClaimJudged files it (claims_none path) answer = subst (λ claim. IsClaimJudged files it claim answer) claims judged in
    let by_text : IsLogJudged it.offers it.wanted it.book path (Some text) answer =
    subst (λ file. IsLogJudged it.offers it.wanted it.book path file answer) there here in
    alone sums_law text_law it path text log fits read certified answer by_text
