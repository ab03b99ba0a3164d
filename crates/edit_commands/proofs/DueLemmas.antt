-- What is found by a book that was gathered is due by the offers of all packages.
use Rattle.std.proofs.Common.{◌≡◌, ℕ, true, List, [], Result, Ok, Err, subst}
use Rattle.std.specs.Prelude.{Contains}
use Rattle.pkg_world.specs.Tree.{Files}
use Rattle.offer_terms.specs.Offered.{Text, Id, Offering, Selected, cut_to}
use Rattle.offer_terms.specs.Booked.{Packed, book_offers}
use Rattle.offer_terms.specs.Demanded.{Wanted}
use Rattle.offer_terms.specs.Feasible.{IsValid}
use Rattle.offer_catalog.specs.SaidCatalog.{SaidCatalog}
use Rattle.offer_book.specs.Scope.{scope}
use Rattle.offer_book.specs.AllOffers.{all_offers}
use Rattle.offer_book.specs.Gathered.{gathered}
use Rattle.offer_book.specs.Laws.{IsReached, is_in, BookOffersAreAll, NumbersAreReached, FeasibleInBook, ValidAlike, RaisedAlike}
use Rattle.pkg_world.specs.Listing.{Listing}
use Rattle.refutation_log.specs.declared.node.Node.{Node}
use Rattle.instance_search.specs.declared.answer.Answer.TheVariants.{Empty, Spent}
use Rattle.book_graph.specs.StandsFor.{IsBook, Covers}
use Rattle.resolve_core.specs.Resolved.{IsAnswer}
use Rattle.resolve_core.specs.Laws.{ResolvedIsBest, UnsatisfiableIsNone, GivenUpIsSpent}
use Rattle.pkg_commands.specs.Edit.{Edited}
use Rattle.command_answers.specs.Endings.{SaidWrite, SaidEnding}
use Rattle.command_answers.specs.declared.status.Status.{Status}
use Rattle.command_answers.specs.declared.status.Status.TheVariants.{Ok as StatusOk, BadWords, MissingFile, BadFile, NeedsFetch, NoIdentity, NoSource, Unsatisfiable, GaveUp, ReadFault, WriteFault, Blocked, UnknownName, UnknownPackage, AmbiguousName, Limit, Differs, NotInProject, NotInManifest, NotPinned, NotAProject, NameTaken, WrongJulia, NotBuilt, Memory, SinkFault}
use Rattle.edit_commands.specs.EditDue.{Posed, question_of, posed_of, IsFoundEnding, IsFoundNone, IsFoundTold, IsStopped, IsFound, IsEnding, IsNone, IsSpent, IsToldNone, IsTold, IsRefusal, IsAnswerTo}
use Rattle.edit_commands.specs.declared.options.Options.{Options}

module _ (offers_law : BookOffersAreAll) (numbers_law : NumbersAreReached) (valid_law : ValidAlike) (raised_law : RaisedAlike) (cut_law : FeasibleInBook)
    (best_law : ResolvedIsBest) (none_law : UnsatisfiableIsNone) (spent_law : GivenUpIsSpent)
    (files : Files) (catalog : SaidCatalog) (edit : Edited) (book : List Packed) (gathers : gathered files catalog (scope edit.demand) [] ≡ Ok book) (sound : IsBook book)
    (o : Options) where
  abbrev w : Wanted
  w = edit.demand

  abbrev over_all : Posed
  over_all = posed_of files catalog edit book

  reached : (u : Id) → is_in book u ≡ true → IsReached (all_offers files catalog (scope w)) (scope w) [] u
  reached u here = (numbers_law files catalog (scope w) [] book u gathers).0 here

  numbered : (u : Id) → IsReached (all_offers files catalog (scope w)) (scope w) [] u → is_in book u ≡ true
  numbered u there = (numbers_law files catalog (scope w) [] book u gathers).1 there

  offered : (u : Id) (x : Offering) → is_in book u ≡ true → Contains (book_offers book u) x → Contains (all_offers files catalog (scope w) u) x
  offered u x here there = subst (λ xs. Contains xs x) (offers_law files catalog (scope w) [] book u gathers here) there

  leads : (u : Id) (x : Offering) (d : Text × Id) → is_in book u ≡ true → Contains (book_offers book u) x → Contains x.deps d
      → IsReached (all_offers files catalog (scope w)) (scope w) [] d.1
  leads u x d here there dep = record { in_each = λ set closed. closed.needs u x d ((reached u here).in_each set closed) (offered u x here there) dep }

  -- the book holds the roots, and what its offers depend on
  covers : Covers book w
  covers = record {
    roots = λ r there. numbered r.1 (record { in_each = λ set closed. closed.roots r there });
    needs = λ u x d here there dep other. numbered d.1 (leads u x d here there dep);
  }

  ending : (line : List ℕ) (writes : List SaidWrite) → IsFoundEnding (question_of edit catalog.home book) o line writes → IsEnding over_all o line writes
  ending line writes found =
      let s : Selected = found.resolved.selection.items in
      let best = best_law book w o.budget found.resolved sound covers found.tells.resolves in
      let valid : IsValid (all_offers files catalog (scope w)) w s = (valid_law files catalog w [] book s gathers).0 best.0 in
      record {
        resolved = found.resolved;
        tells = found.tells;
        valid = valid;
        best = λ u v can. best.1 u v ((raised_law files catalog w [] book s u v gathers valid).1 can);
      }

  none : (log : Listing Node) → IsAnswer book w o.budget (Empty log) → IsNone over_all o log
  none log answer =
      let law = none_law book w o.budget log sound answer in
      record {
        answer = answer;
        certificate = law.1;
        none = λ s feasible. law.0 (cut_to (is_in book) s) (cut_law files catalog w [] book s gathers feasible);
      }

  spent : (log : Listing Node) → IsAnswer book w o.budget (Spent log) → IsSpent over_all o log
  spent log answer =
      let law = spent_law book w o.budget log answer in
      record { answer = answer; spent = law.0; below = law.1 }

  refusal : (status : Status) → IsStopped (question_of edit catalog.home book) o status → IsRefusal over_all o status
  refusal StatusOk h = h
  refusal (BadWords word) h = h
  refusal (MissingFile at) h = h
  refusal (BadFile at cause) h = h
  refusal (NeedsFetch name) h = h
  refusal (NoIdentity name) h = h
  refusal (NoSource uuid) h = h
  refusal (Unsatisfiable log) h = (none log h.0, h.1)
  refusal (GaveUp log) h = spent log h
  refusal (ReadFault at) h = h
  refusal (WriteFault at) h = h
  refusal (Blocked at) h = h
  refusal (UnknownName name) h = h
  refusal (UnknownPackage uuid) h = h
  refusal (AmbiguousName first second) h = h
  refusal (Limit kind count) h = h
  refusal (Differs difference) h = h
  refusal (NotInProject name) h = h
  refusal (NotInManifest name) h = h
  refusal (NotPinned name) h = h
  refusal (NotAProject path) h = h
  refusal (NameTaken uuid) h = h
  refusal (WrongJulia text) h = h
  refusal (NotBuilt word) h = h
  refusal Memory h = h
  refusal SinkFault h = h

  told_none : (status : Status) (writes : List SaidWrite) → IsFoundNone (question_of edit catalog.home book) o status writes → IsToldNone over_all o status writes
  told_none StatusOk writes h = h
  told_none (BadWords word) writes h = h
  told_none (MissingFile at) writes h = h
  told_none (BadFile at cause) writes h = h
  told_none (NeedsFetch name) writes h = h
  told_none (NoIdentity name) writes h = h
  told_none (NoSource uuid) writes h = h
  told_none (Unsatisfiable log) writes h = (none log h.0, h.1)
  told_none (GaveUp log) writes h = h
  told_none (ReadFault at) writes h = h
  told_none (WriteFault at) writes h = h
  told_none (Blocked at) writes h = h
  told_none (UnknownName name) writes h = h
  told_none (UnknownPackage uuid) writes h = h
  told_none (AmbiguousName first second) writes h = h
  told_none (Limit kind count) writes h = h
  told_none (Differs difference) writes h = h
  told_none (NotInProject name) writes h = h
  told_none (NotInManifest name) writes h = h
  told_none (NotPinned name) writes h = h
  told_none (NotAProject path) writes h = h
  told_none (NameTaken uuid) writes h = h
  told_none (WrongJulia text) writes h = h
  told_none (NotBuilt word) writes h = h
  told_none Memory writes h = h
  told_none SinkFault writes h = h

  told : (it : Result (List ℕ) Status) (writes : List SaidWrite) → IsFoundTold (question_of edit catalog.home book) o it writes → IsTold over_all o it writes
  told (Ok line) writes h = ending line writes h
  told (Err status) writes h = told_none status writes h

  pub due : (answer : Result SaidEnding Status) → IsFound (question_of edit catalog.home book) o answer → IsAnswerTo over_all o answer
  due (Ok e) h = told e.told e.writes h
  due (Err status) h = refusal status h
