-- A range that is read byte by byte is that of its text.
use Rattle.std.proofs.Common.{◌≡◌, ℕ, false, eqb, List, [], ◌∷◌, length, Option, Some, None, refl, sym, ap, subst, ◌∙◌, inl, inr}
use Rattle.std.specs.Prelude.{IsSome, codes}
use Rattle.std.proofs.lemmas.Bool.{cond-false}
use Rattle.std.proofs.lemmas.Bool.Decides.{eqb_tells}
use Rattle.compat_spec.specs.declared.numbers.Numbers.{Numbers}
use Rattle.compat_spec.specs.declared.numbers.Begun.TheVariants.{Nothing, AfterMajor, AfterMinor}
use Rattle.compat_spec.specs.declared.numbers.Reading.{Reading}
use Rattle.compat_spec.specs.declared.numbers.Reading.TheVariants.{Awaiting, Digits}
use Rattle.compat_spec.specs.declared.range.Bound.{Bound}
use Rattle.compat_spec.specs.declared.range.Bound.TheVariants.{Any, Of}
use Rattle.compat_spec.specs.declared.range.Piece.{Piece}
use Rattle.compat_spec.specs.declared.range.Piece.TheVariants.{Open, Within, Closed}
use Rattle.compat_spec.specs.declared.range.Side.{Side}
use Rattle.compat_spec.specs.declared.range.Side.TheVariants.{Lower, Upper}
use Rattle.compat_spec.specs.declared.range.Stage.{Stage}
use Rattle.compat_spec.specs.Pieces.{◌>>=◌, filled, words, is_text}
use Rattle.compat_spec.specs.Numbers.{numbers_of}
use Rattle.compat_spec.specs.NumberMachine.{numbers_step, numbers_end}
use Rattle.compat_spec.specs.PartMachine.{awaiting}
use Rattle.compat_spec.specs.Ranges.{Bounds, bounds, bound_in, bounds_of, range_of, IsRange}
use Rattle.compat_spec.specs.RangeMachine.{within_step, open_step, piece_byte, piece_step, piece_end, stage, hyphen_step, range_step, closed, range_end, range_start}
use Rattle.jl_versions.specs.Machine.{run, Accepts, IsFirstBadOf, unended_first_bad}
use Rattle.compat_spec.proofs.Cuts.{before, behind, pieces_are, words_are, words_begin, bind_none, bind_through}
use Rattle.compat_spec.proofs.NumberReads.{numbers_from, numbers_from-end, numbers_from-step, numbers_of-v, numbers_of-plain, numbers_of-none}
use Rattle.compat_spec.proofs.Machines.{Follows, follows_run, follows_accepts, no_end}

-- ---- one bound

-- a bound after which there are no more words
unfoldable pub lone : Bound → List (List ℕ) → Option Bound
lone bound [] = Some bound
lone bound (word ∷ others) = None

-- the bound of a text of which the bytes before these have been read
unfoldable pub bound_from : Piece → List ℕ → Option Bound
bound_from Open bytes = bound_in (words bytes)
bound_from (Within reading) bytes = numbers_from reading (before 32 bytes) >>= λ numbers. lone (Of numbers) (filled (behind 32 bytes))
bound_from (Closed bound) bytes = lone bound (words bytes)

abbrev Goes : Piece → List ℕ → ℕ → Type 0
Goes piece bytes b = bound_from piece (b ∷ bytes) ≡ (piece_step piece b >>= λ after. bound_from after bytes)

bound_in-numbers : (word : List ℕ) (others : List (List ℕ)) → is_text (codes "*") word ≡ false → bound_in (word ∷ others) ≡ (numbers_of word >>= λ numbers. lone (Of numbers) others)
unfolding bound_in lone
bound_in-numbers word [] star = rw star refl
bound_in-numbers word (more ∷ others) star = sym (bind_none Bound (numbers_of word))

star_alone : (others : List (List ℕ)) → bound_in ((42 ∷ []) ∷ others) ≡ lone Any others
unfolding bound_in lone
star_alone [] = refl
star_alone (more ∷ others) = refl

star_then : (first : List ℕ) (others : List (List ℕ)) → bound_in ((42 ∷ first) ∷ filled others) ≡ lone Any (filled (first ∷ others))
unfolding lone
star_then [] others = star_alone (filled others)
star_then (b ∷ bytes) others =
    bound_in-numbers (42 ∷ b ∷ bytes) (filled others) refl ∙ rw (numbers_of-none 42 (b ∷ bytes) refl refl refl) refl

abbrev NumbersGo : List ℕ → ℕ → Option Piece → Type 0
NumbersGo bytes b step = (numbers_of (b ∷ before 32 bytes) >>= λ numbers. lone (Of numbers) (filled (behind 32 bytes))) ≡ (step >>= λ after. bound_from after bytes)

within_goes : (reading : Reading) (b : ℕ) (bytes : List ℕ)
    → (numbers_from reading (b ∷ before 32 bytes) >>= λ numbers. lone (Of numbers) (filled (behind 32 bytes))) ≡ (within_step reading b >>= λ after. bound_from after bytes)
unfolding bound_from
within_goes reading b bytes =
    ap (λ (o : Option Numbers). o >>= λ numbers. lone (Of numbers) (filled (behind 32 bytes))) (numbers_from-step reading b (before 32 bytes))
    ∙ bind_through (numbers_step reading b) (λ after. numbers_from after (before 32 bytes)) (λ numbers. lone (Of numbers) (filled (behind 32 bytes))) (λ after. Within after) (λ after. bound_from after bytes) (λ after. refl)

at_v : (bytes : List ℕ) → NumbersGo bytes 118 (Some (Within awaiting))
unfolding bound_from
at_v bytes = rw (numbers_of-v (before 32 bytes)) refl

at_number : (b : ℕ) (bytes : List ℕ) → eqb b 118 ≡ false → NumbersGo bytes b (within_step awaiting b)
at_number b bytes v = rw (numbers_of-plain b (before 32 bytes) v) (within_goes awaiting b bytes)

abbrev Begins : List ℕ → ℕ → Type 0
Begins bytes b = bound_in (words (b ∷ bytes)) ≡ (open_step b >>= λ after. bound_from after bytes)

begins_star : (bytes : List ℕ) → Begins bytes 42
unfolding bound_from
begins_star bytes = rw (words_begin 42 bytes refl, words_are bytes) (star_then (before 32 bytes) (behind 32 bytes))

begins_v : (bytes : List ℕ) → Begins bytes 118
begins_v bytes = ap bound_in (words_begin 118 bytes refl) ∙ bound_in-numbers (118 ∷ before 32 bytes) (filled (behind 32 bytes)) refl ∙ at_v bytes

begins_other : (b : ℕ) (bytes : List ℕ) → eqb b 32 ≡ false → eqb b 42 ≡ false → eqb b 118 ≡ false → Begins bytes b
begins_other b bytes space star v =
    rw (star, v) (ap bound_in (words_begin b bytes space) ∙ bound_in-numbers (b ∷ before 32 bytes) (filled (behind 32 bytes)) (rw star refl) ∙ at_number b bytes v)

begins : (b : ℕ) (bytes : List ℕ) → eqb b 32 ≡ false → Begins bytes b
begins b bytes space =
    elim (eqb_tells b 42) [
      | inl e ↦ subst (Begins bytes) (sym e.1) (begins_star bytes)
      | inr star ↦ elim (eqb_tells b 118) [
        | inl e ↦ subst (Begins bytes) (sym e.1) (begins_v bytes)
        | inr v ↦ begins_other b bytes space star.0 v.0
      ]
    ]

end_then_space : (o : Option Numbers) (bytes : List ℕ) → (o >>= λ numbers. lone (Of numbers) (words bytes)) ≡ ((o >>= λ numbers. Some (Closed (Of numbers))) >>= λ after. bound_from after bytes)
unfolding bound_from
end_then_space None bytes = refl
end_then_space (Some numbers) bytes = refl

at_space : (piece : Piece) (bytes : List ℕ) → Goes piece bytes 32
unfolding bound_from piece_step
at_space Open bytes = refl
at_space (Within reading) bytes = rw (numbers_from-end reading, ← words_are bytes) (end_then_space (numbers_end reading) bytes)
at_space (Closed bound) bytes = refl

lone-none : (bound : Bound) (word : List ℕ) (others : List (List ℕ)) → lone bound (word ∷ others) ≡ None
unfolding lone
lone-none bound word others = refl

at_byte : (piece : Piece) (b : ℕ) (bytes : List ℕ) → eqb b 32 ≡ false → bound_from piece (b ∷ bytes) ≡ (piece_byte piece b >>= λ after. bound_from after bytes)
unfolding bound_from
at_byte Open b bytes space = begins b bytes space
at_byte (Within reading) b bytes space = rw space (within_goes reading b bytes)
at_byte (Closed bound) b bytes space = rw (words_begin b bytes space) (lone-none bound (b ∷ before 32 bytes) (filled (behind 32 bytes)))

no_space : (piece : Piece) (b : ℕ) → eqb b 32 ≡ false → piece_step piece b ≡ piece_byte piece b
unfolding piece_step
no_space piece b e = cond-false _ _ _ e

bound_from-step : (piece : Piece) (b : ℕ) (bytes : List ℕ) → Goes piece bytes b
bound_from-step piece b bytes =
    elim (eqb_tells b 32) [
      | inl e ↦ subst (Goes piece bytes) (sym e.1) (at_space piece bytes)
      | inr e ↦ at_byte piece b bytes e.0 ∙ ap (λ (o : Option Piece). o >>= λ after. bound_from after bytes) (sym (no_space piece b e.0))
    ]

made : (o : Option Numbers) → (o >>= λ numbers. lone (Of numbers) []) ≡ (o >>= λ numbers. Some (Of numbers))
unfolding lone
made None = refl
made (Some numbers) = refl

bound_from-end : (piece : Piece) → bound_from piece [] ≡ piece_end piece
unfolding bound_from piece_end bound_in lone
bound_from-end Open = refl
bound_from-end (Within reading) = rw (numbers_from-end reading) (made (numbers_end reading))
bound_from-end (Closed bound) = refl

-- ---- the two bounds

-- what the pieces behind a bound make of it
unfoldable pub with_upper : Side → List (List ℕ) → Bound → Option Bounds
with_upper Lower [] bound = Some (bounds bound bound)
with_upper Lower (high ∷ []) bound = bound_in (words high) >>= λ upper. Some (bounds bound upper)
with_upper Lower _ bound = None
with_upper (Upper low) [] bound = Some (bounds low bound)
with_upper (Upper low) (more ∷ others) bound = None

-- the bounds of a text of which the bytes before these have been read
range_from : Stage → List ℕ → Option Bounds
range_from now bytes = bound_from now.piece (before 45 bytes) >>= with_upper now.side (behind 45 bytes)

by_pieces : (low : List ℕ) (others : List (List ℕ)) → bounds_of (low ∷ others) ≡ (bound_in (words low) >>= with_upper Lower others)
unfolding with_upper
by_pieces low [] = refl
by_pieces low (high ∷ []) = refl
by_pieces low (high ∷ more ∷ others) = sym (bind_none Bounds (bound_in (words low)))

range_is : (text : List ℕ) → range_of text ≡ range_from range_start text
unfolding range_of range_from bound_from
range_is text = ap bounds_of (pieces_are 45 text) ∙ by_pieces (before 45 text) (behind 45 text)

at_end : (side : Side) (o : Option Bound) → (o >>= with_upper side []) ≡ (o >>= λ bound. Some (closed side bound))
unfolding with_upper
at_end side None = refl
at_end Lower (Some bound) = refl
at_end (Upper low) (Some bound) = refl

ends : (now : Stage) → range_from now [] ≡ range_end now
unfolding range_from range_end
ends now = ap (λ (o : Option Bound). o >>= with_upper now.side []) (bound_from-end now.piece) ∙ at_end now.side (piece_end now.piece)

abbrev RangeGoes : Stage → List ℕ → ℕ → Type 0
RangeGoes now bytes b = range_from now (b ∷ bytes) ≡ (range_step now b >>= λ after. range_from after bytes)

-- the upper bound is the last
upper_last : (low : Bound) (o : Option Bound) (others : List (List ℕ)) (high : List ℕ) → o ≡ bound_in (words high) → with_upper Lower (high ∷ others) low ≡ (o >>= with_upper (Upper low) others)
unfolding with_upper
upper_last low None [] high e = rw (← e) refl
upper_last low (Some upper) [] high e = rw (← e) refl
upper_last low None (more ∷ others) high e = refl
upper_last low (Some upper) (more ∷ others) high e = refl

then_hyphen : (side : Side) (o : Option Bound) (bytes : List ℕ)
    → (o >>= with_upper side (before 45 bytes ∷ behind 45 bytes)) ≡ ((o >>= λ bound. hyphen_step side bound) >>= λ after. range_from after bytes)
unfolding range_from bound_from with_upper
then_hyphen side None bytes = refl
then_hyphen Lower (Some bound) bytes = upper_last bound (bound_in (words (before 45 bytes))) (behind 45 bytes) (before 45 bytes) refl
then_hyphen (Upper low) (Some bound) bytes = refl

at_hyphen : (now : Stage) (bytes : List ℕ) → RangeGoes now bytes 45
unfolding range_from range_step
at_hyphen now bytes =
    ap (λ (o : Option Bound). o >>= with_upper now.side (before 45 bytes ∷ behind 45 bytes)) (bound_from-end now.piece)
    ∙ then_hyphen now.side (piece_end now.piece) bytes

at_other : (now : Stage) (b : ℕ) (bytes : List ℕ) → eqb b 45 ≡ false → RangeGoes now bytes b
unfolding range_from range_step
at_other now b bytes other =
    rw other (ap (λ (o : Option Bound). o >>= with_upper now.side (behind 45 bytes)) (bound_from-step now.piece b (before 45 bytes))
    ∙ bind_through (piece_step now.piece b) (λ after. bound_from after (before 45 bytes)) (with_upper now.side (behind 45 bytes)) (λ after. stage now.side after) (λ after. range_from after bytes) (λ after. refl))

goes : (now : Stage) (b : ℕ) (bytes : List ℕ) → RangeGoes now bytes b
goes now b bytes =
    elim (eqb_tells b 45) [
      | inl e ↦ subst (RangeGoes now bytes) (sym e.1) (at_hyphen now bytes)
      | inr e ↦ at_other now b bytes e.0
    ]

completed : (side : Side) (piece : Piece) → (rest : List ℕ) × IsSome (run range_step (stage side piece) rest >>= range_end)
unfolding range_step range_end piece_step piece_end numbers_step
completed side Open = (42 ∷ [], refl)
completed side (Within (Awaiting Nothing)) = (48 ∷ [], refl)
completed side (Within (Awaiting (AfterMajor a))) = (48 ∷ [], refl)
completed side (Within (Awaiting (AfterMinor a b))) = (48 ∷ [], refl)
completed side (Within (Digits Nothing n)) = ([], refl)
completed side (Within (Digits (AfterMajor a) n)) = ([], refl)
completed side (Within (Digits (AfterMinor a b) n)) = ([], refl)
completed side (Closed bound) = ([], refl)

follows : Follows range_step range_end range_from
follows = record { ends = ends; goes = goes; completes = λ now. completed now.side now.piece }

pub range_reads : (text : List ℕ) → range_of text ≡ (run range_step range_start text >>= range_end)
range_reads text = range_is text ∙ follows_run range_step range_end range_from follows text range_start

pub range_accepts : Accepts range_step range_start (λ now. IsSome (range_end now)) IsRange
range_accepts = follows_accepts range_step range_end range_from follows range_start range_of range_is

-- ---- at a text's end

pub range_ends : (text : List ℕ) (now : Stage) (o : Option Bounds) → run range_step range_start text ≡ Some now → range_end now ≡ o → range_of text ≡ o
range_ends text now o stands end = range_reads text ∙ ap (λ (s : Option Stage). s >>= range_end) stands ∙ end

pub range_unended : (text : List ℕ) (now : Stage) → run range_step range_start text ≡ Some now → range_end now ≡ None → IsFirstBadOf IsRange text (length text)
range_unended text now stands end = unended_first_bad range_accepts text now stands (no_end (range_end now) end)
