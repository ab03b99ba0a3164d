-- A specifier that is read byte by byte is that of its text.
use Rattle.std.proofs.Common.{length, ◌≡◌, ℕ, false, eqb, List, [], ◌∷◌, ◌++◌, map, Option, Some, None, refl, sym, ap, subst, ◌∙◌, inl, inr, append_assoc}
use Rattle.std.specs.Prelude.{IsSome}
use Rattle.std.proofs.lemmas.Bool.Decides.{eqb_tells}
use Rattle.compat_spec.specs.declared.numbers.Begun.TheVariants.{Nothing, AfterMajor, AfterMinor}
use Rattle.compat_spec.specs.declared.numbers.Reading.TheVariants.{Awaiting, Digits}
use Rattle.compat_spec.specs.declared.part.Part.{Part}
use Rattle.compat_spec.specs.declared.part.Stage.{Stage}
use Rattle.compat_spec.specs.declared.part.Stage.TheVariants.{Before, Greater, Wide, Wider, Signed, Within, Spaced, Hyphen, Done}
use Rattle.compat_spec.specs.Pieces.{◌>>=◌, all_some}
use Rattle.compat_spec.specs.NumberMachine.{numbers_step}
use Rattle.compat_spec.specs.PartMachine.{part_step, part_end}
use Rattle.compat_spec.specs.SpecMachine.{Progress, progress, specifier_step, specifier_end, specifier_start}
use Rattle.compat_spec.specs.Specifiers.{part_of, specifier_of, IsSpecifier}
use Rattle.jl_versions.specs.Machine.{run, Accepts, IsFirstBadOf, unended_first_bad}
use Rattle.compat_spec.proofs.Cuts.{before, behind, pieces_are, bind_through}
use Rattle.compat_spec.proofs.PartReads.{part_from, part_from-step, part_from-end}
use Rattle.compat_spec.proofs.Machines.{Follows, follows_run, follows_accepts, no_end}

-- the parts with one before them, and those that follow
with_others : List Part → List ℕ → Part → Option (List Part)
with_others parts bytes part = all_some (map part_of (behind 44 bytes)) >>= λ others. Some (parts ++ part ∷ others)

-- the parts of a text of which the bytes before these have been read
specifier_from : Progress → List ℕ → Option (List Part)
specifier_from now bytes = part_from now.stage (before 44 bytes) >>= λ part. with_others now.parts bytes part

specifier_is : (text : List ℕ) → specifier_of text ≡ specifier_from specifier_start text
unfolding specifier_of specifier_from with_others part_from
specifier_is text = ap (λ ps. all_some (map part_of ps)) (pieces_are 44 text)

ends : (now : Progress) → specifier_from now [] ≡ specifier_end now
unfolding specifier_from with_others
ends now = ap (λ (o : Option Part). o >>= λ part. Some (now.parts ++ part ∷ [])) (part_from-end now.stage)

regrouped : (o : Option Part) (os : Option (List Part)) (parts : List Part) (part : Part)
    → ((o >>= λ x. os >>= λ xs. Some (x ∷ xs)) >>= λ others. Some (parts ++ part ∷ others)) ≡ (o >>= λ x. os >>= λ xs. Some ((parts ++ part ∷ []) ++ x ∷ xs))
regrouped None os parts part = refl
regrouped (Some x) None parts part = refl
regrouped (Some x) (Some xs) parts part = ap (λ (ps : List Part). Some ps) (sym (append_assoc parts (part ∷ []) (x ∷ xs)))

abbrev Goes : Progress → List ℕ → ℕ → Type 0
Goes now bytes b = specifier_from now (b ∷ bytes) ≡ (specifier_step now b >>= λ after. specifier_from after bytes)

at_comma : (now : Progress) (bytes : List ℕ) → Goes now bytes 44
unfolding specifier_from with_others specifier_step part_from
at_comma now bytes =
    ap (λ (o : Option Part). o >>= λ part. all_some (map part_of (before 44 bytes ∷ behind 44 bytes)) >>= λ others. Some (now.parts ++ part ∷ others)) (part_from-end now.stage)
    ∙ next (part_end now.stage)
  where
    next : (o : Option Part) → (o >>= λ part. all_some (map part_of (before 44 bytes ∷ behind 44 bytes)) >>= λ others. Some (now.parts ++ part ∷ others))
        ≡ ((o >>= λ part. Some (progress (now.parts ++ part ∷ []) Before)) >>= λ after. specifier_from after bytes)
    next None = refl
    next (Some part) = regrouped (part_of (before 44 bytes)) (all_some (map part_of (behind 44 bytes))) now.parts part

at_other : (now : Progress) (b : ℕ) (bytes : List ℕ) → eqb b 44 ≡ false → Goes now bytes b
unfolding specifier_from with_others specifier_step
at_other now b bytes other =
    rw other (ap (λ (o : Option Part). o >>= with_others now.parts bytes) (part_from-step now.stage b (before 44 bytes))
    ∙ bind_through (part_step now.stage b) (λ after. part_from after (before 44 bytes)) (with_others now.parts bytes) (λ after. progress now.parts after) (λ after. specifier_from after bytes) (λ after. refl))

goes : (now : Progress) (b : ℕ) (bytes : List ℕ) → Goes now bytes b
goes now b bytes =
    elim (eqb_tells b 44) [
      | inl e ↦ subst (Goes now bytes) (sym e.1) (at_comma now bytes)
      | inr e ↦ at_other now b bytes e.0
    ]

-- each stage goes on to the end of a part
completed : (parts : List Part) (stage : Stage) → (rest : List ℕ) × IsSome (run specifier_step (progress parts stage) rest >>= specifier_end)
unfolding specifier_step part_step part_end numbers_step
completed parts Before = (48 ∷ [], refl)
completed parts Greater = (61 ∷ 48 ∷ [], refl)
completed parts Wide = (137 ∷ 165 ∷ 48 ∷ [], refl)
completed parts Wider = (165 ∷ 48 ∷ [], refl)
completed parts (Signed lead) = (48 ∷ [], refl)
completed parts (Within lead (Awaiting Nothing)) = (48 ∷ [], refl)
completed parts (Within lead (Awaiting (AfterMajor a))) = (48 ∷ [], refl)
completed parts (Within lead (Awaiting (AfterMinor a b))) = (48 ∷ [], refl)
completed parts (Within lead (Digits Nothing n)) = ([], refl)
completed parts (Within lead (Digits (AfterMajor a) n)) = ([], refl)
completed parts (Within lead (Digits (AfterMinor a b) n)) = ([], refl)
completed parts (Spaced low) = ([], refl)
completed parts (Hyphen low) = (32 ∷ 48 ∷ [], refl)
completed parts (Done part) = ([], refl)

follows : Follows specifier_step specifier_end specifier_from
follows = record { ends = ends; goes = goes; completes = λ now. completed now.parts now.stage }

pub specifier_reads : (text : List ℕ) → specifier_of text ≡ (run specifier_step specifier_start text >>= specifier_end)
specifier_reads text = specifier_is text ∙ follows_run specifier_step specifier_end specifier_from follows text specifier_start

pub specifier_accepts : Accepts specifier_step specifier_start (λ now. IsSome (specifier_end now)) IsSpecifier
specifier_accepts = follows_accepts specifier_step specifier_end specifier_from follows specifier_start specifier_of specifier_is

-- ---- at a text's end

pub specifier_ends : (text : List ℕ) (parts new : List Part) (stage : Stage) (part : Part) → run specifier_step specifier_start text ≡ Some (progress parts stage)
    → Some part ≡ part_end stage → new ≡ parts ++ part ∷ [] → specifier_of text ≡ Some new
specifier_ends text parts new stage part stands end grown =
    specifier_reads text ∙ ap (λ (o : Option Progress). o >>= specifier_end) stands ∙ ap (λ (o : Option Part). o >>= λ last. Some (parts ++ last ∷ [])) (sym end) ∙ ap (λ (ps : List Part). Some ps) (sym grown)

pub specifier_unended : (text : List ℕ) (parts : List Part) (stage : Stage) → run specifier_step specifier_start text ≡ Some (progress parts stage)
    → None ≡ part_end stage → IsFirstBadOf IsSpecifier text (length text)
specifier_unended text parts stage stands end =
    unended_first_bad specifier_accepts text (progress parts stage) stands (no_end (specifier_end (progress parts stage)) (ap (λ (o : Option Part). o >>= λ last. Some (parts ++ last ∷ [])) (sym end)))

-- ---- at an end of the machine

pub part_ended : (parts new : List Part) (stage : Stage) (part : Part) → Some part ≡ part_end stage → new ≡ parts ++ part ∷ [] → specifier_end (progress parts stage) ≡ Some new
part_ended parts new stage part end grown = ap (λ (o : Option Part). o >>= λ last. Some (parts ++ last ∷ [])) (sym end) ∙ ap (λ (ps : List Part). Some ps) (sym grown)

pub part_unended : (parts : List Part) (stage : Stage) → None ≡ part_end stage → specifier_end (progress parts stage) ≡ None
part_unended parts stage end = ap (λ (o : Option Part). o >>= λ last. Some (parts ++ last ∷ [])) (sym end)
