-- The machine of Stages knows the version texts, and what follows for `read`.
use Rattle.std.proofs.Common.{◌≡◌, ◌↔◌, ℕ, false, List, [], ◌∷◌, ◌++◌, Some, None, Result, Ok, Err, refl, ap, sym, ◌∙◌, subst, inl, inr}
use Rattle.std.specs.Option.{option_and_then}
use Rattle.std.specs.Result.{IfOk, IfErr, MatchResult}
use Rattle.std.specs.List.{list_all}
use Rattle.std.proofs.lemmas.Bool.{cond-false, and_right}
use Rattle.std.proofs.lemmas.List.Folds.{list_all-append}
use Rattle.std.proofs.lemmas.Option.{none-some, same_Some}
use Rattle.jl_versions.specs.Machine.{run, Accepts, IsFirstBadOf, stopped_first_bad, unended_first_bad, ended_meant, unended_meant, stopped_meant}
use Rattle.jl_versions.specs.FirstBad.{Ends, value_meant, place_meant}
use Rattle.jl_versions.specs.Words.{is_digit}
use Rattle.jl_versions.specs.Pieces.{ident_of}
use Rattle.jl_versions.specs.Stages.{step, finish, labelled}
use Rattle.jl_versions.specs.Stops.{Tells}
use Rattle.jl_versions.specs.Meant.{version_meant, RefusesAt}
use Rattle.jl_versions.specs.Grammar.{Reads, IsVersionText}
use Rattle.jl_versions.specs.Refusals.{Refuses}
use Rattle.jl_versions.specs.declared.fault.VersionFault.{VersionFault}
use Rattle.jl_versions.specs.declared.fault.VersionFault.TheVariants.{BadVersion, Memory}
use Rattle.jl_versions.specs.declared.ident.Ident.{Ident}
use Rattle.jl_versions.specs.declared.ident.Ident.TheVariants.{Word}
use Rattle.jl_versions.specs.declared.version.Version.{Version}
use Rattle.jl_versions.specs.declared.reader.Stage.{Stage}
use Rattle.jl_versions.specs.declared.reader.Stage.TheVariants.{Fresh, Figures, Label}
use Rattle.jl_versions.specs.declared.reader.Earlier.TheVariants.{Nothing}
use Rattle.jl_versions.proofs.Gives.{give, give_is_run, went}
use Rattle.jl_versions.proofs.GrammarRuns.{reads_gives}
use Rattle.jl_versions.proofs.RunsGrammar.{gives_reads}

-- the stage is one at which a version text may end
pub IsEnd : Stage → Type 0
IsEnd stage = (v : Version) × (finish stage ≡ Some v)

-- a run to an end is a version's text
pub ended_reads : (text : List ℕ) (stage : Stage) (v : Version) → run step Fresh text ≡ Some stage → finish stage ≡ Some v → Reads text v
ended_reads text stage v stands ends = gives_reads text v (give_is_run Fresh text ∙ ap (option_and_then finish) stands ∙ ends)

-- what a text that the machine has gone through means is what its end gives
pub reads_ended : (text : List ℕ) (stage : Stage) (v : Version) → run step Fresh text ≡ Some stage → Reads text v → finish stage ≡ Some v
reads_ended text stage v stands means = sym (give_is_run Fresh text ∙ ap (option_and_then finish) stands) ∙ reads_gives text v means

-- a letter makes any bytes a word
word_by_letter : (piece : List ℕ) → (i : Ident) × (ident_of (piece ++ 97 ∷ []) ≡ Some i)
unfolding ident_of
word_by_letter [] = (Word (97 ∷ []), refl)
word_by_letter (b ∷ bs) = (Word (b ∷ bs ++ 97 ∷ []), cond-false _ _ _ (list_all-append is_digit (b ∷ bs) (97 ∷ []) ∙ and_right (list_all is_digit (b ∷ bs)) false refl))

-- each stage can go on to an end
completes : (stage : Stage) → (rest : List ℕ) × (t : Stage) × (run step stage rest ≡ Some t) × IsEnd t
unfolding step finish IsEnd
completes Fresh = (48 ∷ [], Figures Nothing (Some 0), refl, (_, refl))
completes (Figures earlier None) = (48 ∷ [], Figures earlier (Some 0), refl, (_, refl))
completes (Figures earlier (Some n)) = ([], Figures earlier (Some n), refl, (_, refl))
completes (Label triple pre done piece) =
    let (i, spelled) = word_by_letter piece in
    (97 ∷ [], Label triple pre done (piece ++ 97 ∷ []), refl, (labelled triple pre (done ++ i ∷ []), ap (option_and_then (λ k. Some (labelled triple pre (done ++ k ∷ [])))) spelled))

pub knows : Accepts step Fresh IsEnd IsVersionText
unfolding IsEnd
knows = record {
  from = λ text means. from text means.0 (reads_gives text means.0 means.1);
  to = λ text stage stands end. (end.0, ended_reads text stage end.0 stands end.1);
  completes = λ front stage stands. completes stage;
}
  where
    from : (text : List ℕ) (v : Version) → give Fresh text ≡ Some v → (s : Stage) × (run step Fresh text ≡ Some s) × IsEnd s
    from text v given = let (s, stands, ends) = went finish (run step Fresh text) v (sym (give_is_run Fresh text) ∙ given) in (s, stands, (v, ends))

-- ---- what the machine tells, in the words of `read`

pub told_ok : (text : List ℕ) (r : Result Version VersionFault) → Tells text r → IfOk r (Reads text)
told_ok text (Ok v) (stage, stands, ends) = ended_reads text stage v stands ends
told_ok text (Err fault) told = tt

pub told_bad : (text : List ℕ) (r : Result Version VersionFault) → Tells text r → IfErr r (Refuses text)
unfolding IsEnd
told_bad text (Ok v) told = tt
told_bad text (Err Memory) told = tt
told_bad text (Err (BadVersion place)) (inl stop) = stopped_first_bad knows text place stop.stage stop.inside stop.stands stop.stops
told_bad text (Err (BadVersion place)) (inr open_end) =
    subst (IsFirstBadOf IsVersionText text) (sym open_end.at_end)
    (unended_first_bad knows text open_end.stage open_end.stands (λ end. none-some end.0 (sym open_end.unended ∙ end.1)))

pub told_only : (text : List ℕ) (r : Result Version VersionFault) → Tells text r → (v : Version) → Reads text v → MatchResult r (λ found. found ≡ v) (λ fault. fault ≡ Memory)
told_only text (Ok found) (stage, stands, ends) v means = same_Some _ _ (sym ends ∙ reads_ended text stage v stands means)
told_only text (Err Memory) told v means = refl
told_only text (Err (BadVersion place)) told v means =
    let refusal : IsFirstBadOf IsVersionText text place = told_bad text (Err (BadVersion place)) told in
    absurd (refusal.refused (v, means))

pub told_meant : (text : List ℕ) (r : Result Version VersionFault) → Tells text r → MatchResult r (λ v. version_meant text ≡ Ok v) (RefusesAt (version_meant text))
unfolding version_meant
told_meant text (Ok v) (stage, stands, ends) = ended_meant step finish Fresh stage text v stands ends
told_meant text (Err Memory) told = tt
told_meant text (Err (BadVersion place)) (inl stop) = stopped_meant step finish Fresh stop.stage text place stop.inside stop.stands stop.stops
told_meant text (Err (BadVersion place)) (inr open_end) =
    unended_meant step finish Fresh open_end.stage text open_end.stands open_end.unended ∙ ap Err (sym open_end.at_end)

-- what the grammar reads is what the text means
pub reads_meant : (text : List ℕ) (v : Version) → Reads text v → version_meant text ≡ Ok v
unfolding version_meant
reads_meant text v means = let (stage, stands, end) = knows.from text (v, means) in ended_meant step finish Fresh stage text v stands (reads_ended text stage v stands means)

-- ---- what the function of texts means is the grammar's

end_stages : Ends finish IsEnd
unfolding IsEnd
end_stages = record { to = λ stage v e. (v, e); not_at = λ stage none end. none-some end.0 (sym none ∙ end.1) }

-- a version exactly where the text reads as it
pub version_is_read : (text : List ℕ) (v : Version) → (version_meant text ≡ Ok v) ↔ Reads text v
unfolding version_meant
version_is_read text v = (
  λ e. gives_reads text v (give_is_run Fresh text ∙ (value_meant step finish Fresh text v).0 e),
  λ means. (value_meant step finish Fresh text v).1 (sym (give_is_run Fresh text) ∙ reads_gives text v means),
)

-- a place exactly where it is the first bad one
pub place_is_first_bad : (text : List ℕ) (place : ℕ) → (version_meant text ≡ Err place) ↔ IsFirstBadOf IsVersionText text place
unfolding version_meant
place_is_first_bad text place = place_meant finish end_stages knows text place
