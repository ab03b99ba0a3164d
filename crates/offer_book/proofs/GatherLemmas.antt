-- What the calls that gather a book tell.
use Rattle.std.proofs.Common.{◌≡◌, ℕ, suc, ◌+◌, ◌-◌, ◌<◌, ◌≤◌, Bool, true, false, true≢false, List, ◌∷◌, ◌++◌, [], map, length, Option, Some, None, is_some, IfSome, option_map, Result, Ok, Err, IfErr, OnOk, MatchResult, refl, sym, ap, ◌∙◌, subst, arith}
use Rattle.std.specs.Prelude.{slice_get}
use Rattle.std.proofs.lemmas.Option.{slice_get_past}
use Rattle.pkg_world.specs.Each.{then_ok}
use Rattle.pkg_world.specs.Tree.{Files}
use Rattle.registry_tables.specs.Answers.{Read, missing, bad}
use Rattle.offer_terms.specs.Offered.{Text, Id}
use Rattle.offer_terms.specs.Booked.{Packed, package_at}
use Rattle.offer_catalog.specs.Answers.{Refuses as ReadRefuses, ReadFaultRose}
use Rattle.offer_catalog.specs.SaidCatalog.{SaidCatalog}
use Rattle.offer_catalog.specs.declared.fault.BookFault.{BookFault}
use Rattle.offer_catalog.specs.declared.fault.BookFault.TheVariants.{ReadFault, MissingFile, BadFile, UnknownPackage, Limit, Memory}
use Rattle.offer_book.specs.Scope.{Scope}
use Rattle.offer_book.specs.AllOffers.{Found}
use Rattle.offer_book.specs.Gathered.{BookRefusal, unusable, unknown, too_many, most_packages, unknown_root, passes, within_limit, with_sources, book_of, Refuses}
use Rattle.offer_book.specs.Numbers.{Mentions, Reached, mention_all, deps_offered, packed_as, with_package, read_next, step, walk}
use Rattle.offer_book.specs.Made.{reaching, AreFirst, GoesOn, IsOfWhole}
use Rattle.offer_book.proofs.StepLemmas.{some-within, step-none, step-some, walk-still, walk-step}

-- ---- refusals

-- what refuses a reading refuses all that goes on from it
pub refused-on : {S T : Type 0} (fault : BookFault) (reading : Read S) (next : S → Read T) → ReadRefuses reading fault → ReadRefuses (then_ok reading next) fault
refused-on (ReadFault path) reading next h = tt
refused-on (MissingFile path) reading next h = ap (λ r. then_ok r next) h
refused-on (BadFile path cause) reading next h = ap (λ r. then_ok r next) h
refused-on (UnknownPackage uuid) reading next h = absurd h
refused-on (Limit kind count) reading next h = absurd h
refused-on Memory reading next h = tt

pub refused-as : {T : Type 0} (fault : BookFault) (one other : Read T) → one ≡ other → ReadRefuses one fault → ReadRefuses other fault
refused-as fault one other same h = subst (λ r. ReadRefuses r fault) same h

-- and the book
pub refused-book : (fault : BookFault) (catalog : SaidCatalog) (scope : Scope) (reading : Read Reached) → ReadRefuses reading fault → Refuses (book_of catalog scope reading) fault
refused-book (ReadFault path) catalog scope reading h = tt
refused-book (MissingFile path) catalog scope reading h = ap (book_of catalog scope) h
refused-book (BadFile path cause) catalog scope reading h = ap (book_of catalog scope) h
refused-book (UnknownPackage uuid) catalog scope reading h = absurd h
refused-book (Limit kind count) catalog scope reading h = absurd h
refused-book Memory catalog scope reading h = tt

pub told-refused : (files : Option Files) (fault : BookFault) (catalog : SaidCatalog) (scope : Scope) (reading : Files → Read Reached) → IfSome files (λ all. ReadRefuses (reading all) fault)
    → IfSome files (λ all. Refuses (book_of catalog scope (reading all)) fault)
told-refused None fault catalog scope reading h = tt
told-refused (Some all) fault catalog scope reading h = refused-book fault catalog scope (reading all) h

-- ---- a book that was read whole

abbrev Answers : Result (List Packed) BookRefusal → Result (List Packed) BookFault → Type 0
Answers due answer = MatchResult answer (λ book. due ≡ Ok book) (Refuses due)

pub told-whole : (files : Option Files) (catalog : SaidCatalog) (scope : Scope) (reading : Files → Read Reached) (reached : Reached) (answer : Result (List Packed) BookFault)
    → IfSome files (λ all. reading all ≡ Ok reached)
    → MatchResult answer (λ book. with_sources reached (unknown_root catalog scope) ≡ Ok book) (Refuses (with_sources reached (unknown_root catalog scope)))
    → IfSome files (λ all. MatchResult answer (λ book. book_of catalog scope (reading all) ≡ Ok book) (Refuses (book_of catalog scope (reading all))))
told-whole None catalog scope reading reached answer read whole = tt
told-whole (Some all) catalog scope reading reached answer read whole = subst (λ due. Answers due answer) (sym (ap (book_of catalog scope) read)) whole

pub known-roots : (reached : Reached) (root : Option (Text × Id)) (answer : Result (List Packed) BookFault) → root ≡ None
    → MatchResult answer (λ book. within_limit reached (passes reached) ≡ Ok book) (Refuses (within_limit reached (passes reached)))
    → MatchResult answer (λ book. with_sources reached root ≡ Ok book) (Refuses (with_sources reached root))
known-roots reached root answer known h = subst (λ due. Answers due answer) (sym (ap (with_sources reached) known)) h

whole-rose : (fault : BookFault) (before now : ℕ) → IsOfWhole fault → ReadFaultRose before now fault
whole-rose (ReadFault path) before now h = absurd h
whole-rose (MissingFile path) before now h = tt
whole-rose (BadFile path cause) before now h = tt
whole-rose (UnknownPackage uuid) before now h = tt
whole-rose (Limit kind count) before now h = tt
whole-rose Memory before now h = tt

pub whole-faults : {T : Type 0} (answer : Result T BookFault) (before now : ℕ) → IfErr answer IsOfWhole → IfErr answer (ReadFaultRose before now)
whole-faults (Ok value) before now h = tt
whole-faults (Err fault) before now h = whole-rose fault before now h

-- ---- a root without a source, and the limit

pub root-unknown : (reached : Reached) (root : Option (Text × Id)) (uuid : Id) → Some uuid ≡ option_map (λ one. one.1) root → with_sources reached root ≡ Err (unknown uuid)
root-unknown reached None uuid is = cc
root-unknown reached (Some root) uuid is = let same : uuid ≡ root.1 = cc in ap (λ u. Err (unknown u)) (sym same)

pub roots-known : (root : Option (Text × Id)) → None ≡ option_map (λ (one : Text × Id). one.1) root → root ≡ None
roots-known None is = refl
roots-known (Some root) is = cc

pub many-pass : (reached : Reached) → 4096 < length reached.mentions → passes reached ≡ true
unfolding most_packages
many-pass reached many = some-within reached.mentions 4096 many

pub few-pass-not : (reached : Reached) → length reached.mentions ≤ 4096 → passes reached ≡ false
unfolding most_packages
few-pass-not reached few = ap is_some (slice_get_past reached.mentions 4096 few)

-- ---- one package more

pub told-packed : (files : Option Files) (read : Files → Read (Option Found)) (m : Id × Text) (book new : List Packed) (found : Option Found) → IfSome files (λ all. read all ≡ Ok found)
    → new ≡ book ++ packed_as m found ∷ [] → IfSome files (λ all. then_ok (read all) (λ it. Ok (book ++ packed_as m it ∷ [])) ≡ Ok new)
told-packed None read m book new found read_so is = tt
told-packed (Some all) read m book new found read_so is = ap (λ r. then_ok r (λ it. Ok (book ++ packed_as m it ∷ []))) read_so ∙ ap Ok (sym is)

pub packed-refused : (files : Option Files) (fault : BookFault) (read : Files → Read (Option Found)) (m : Id × Text) (book : List Packed) → IfSome files (λ all. ReadRefuses (read all) fault)
    → IfSome files (λ all. ReadRefuses (then_ok (read all) (λ it. Ok (book ++ packed_as m it ∷ []))) fault)
packed-refused None fault read m book h = tt
packed-refused (Some all) fault read m book h = refused-on fault (read all) (λ it. Ok (book ++ packed_as m it ∷ [])) h

-- ---- the next package, and all of them

pub told-next : (files : Option Files) (read : Files → Id → Read (Option Found)) (m : Id × Text) (ms new : Mentions) (book more : List Packed) (n : ℕ) → length book ≡ n → slice_get ms n ≡ Some m
    → IfSome files (λ all. then_ok (read all m.0) (λ found. Ok (book ++ packed_as m found ∷ [])) ≡ Ok more) → new ≡ mention_all ms (deps_offered (package_at more n).offers)
    → IfSome files (λ all. step (read all) (reaching ms book) ≡ Ok (reaching new more))
told-next None read m ms new book more n count there packed mentioned = tt
told-next (Some all) read m ms new book more n count there packed mentioned = step-some (read all) m ms new book more n count there packed mentioned

-- what refuses the next package's reading refuses the step
step-next : (read : Id → Read (Option Found)) (m : Id × Text) (ms : Mentions) (book : List Packed) (n : ℕ) → length book ≡ n → slice_get ms n ≡ Some m
    → then_ok (read m.0) (λ found. Ok (with_package (reaching ms book) (packed_as m found))) ≡ step read (reaching ms book)
step-next read m ms book n count there = sym (ap (read_next read (reaching ms book)) (ap (slice_get ms) count ∙ there))

refused-first : {S T R : Type 0} (fault : BookFault) (reading : Read S) (one : S → T) (other : S → R) → ReadRefuses (then_ok reading (λ x. Ok (one x))) fault → ReadRefuses (then_ok reading (λ x. Ok (other x))) fault
refused-first (ReadFault path) reading one other h = tt
refused-first (MissingFile path) (Ok x) one other h = cc
refused-first (MissingFile path) (Err refused) one other h = let same : refused ≡ missing path = cc in ap Err same
refused-first (BadFile path cause) (Ok x) one other h = cc
refused-first (BadFile path cause) (Err refused) one other h = let same : refused ≡ bad path cause = cc in ap Err same
refused-first (UnknownPackage uuid) reading one other h = absurd h
refused-first (Limit kind count) reading one other h = absurd h
refused-first Memory reading one other h = tt

pub next-refused : (files : Option Files) (fault : BookFault) (read : Files → Id → Read (Option Found)) (m : Id × Text) (ms : Mentions) (book : List Packed) (n : ℕ) → length book ≡ n → slice_get ms n ≡ Some m
    → IfSome files (λ all. ReadRefuses (then_ok (read all m.0) (λ found. Ok (book ++ packed_as m found ∷ []))) fault) → IfSome files (λ all. ReadRefuses (step (read all) (reaching ms book)) fault)
next-refused None fault read m ms book n count there h = tt
next-refused (Some all) fault read m ms book n count there h =
    refused-as fault _ _ (step-next (read all) m ms book n count there)
    (refused-first fault (read all m.0) (λ found. book ++ packed_as m found ∷ []) (λ found. with_package (reaching ms book) (packed_as m found)) h)

pub told-none : (files : Option Files) (read : Files → Id → Read (Option Found)) (ms : Mentions) (book : List Packed) (n : ℕ) → length book ≡ n → slice_get ms n ≡ None
    → IfSome files (λ all. step (read all) (reaching ms book) ≡ Ok (reaching ms book))
told-none None read ms book n count none = tt
told-none (Some all) read ms book n count none = step-none (read all) ms book n count none

-- one more was read
pub told-more : (files : Option Files) (read : Files → Id → Read (Option Found)) (whole : Files → Read Reached) (left less : ℕ) (r next : Reached) → left ≡ suc less
    → IfSome files (λ all. whole all ≡ walk (read all) left r) → IfSome files (λ all. step (read all) r ≡ Ok next) → IfSome files (λ all. whole all ≡ walk (read all) less next)
told-more None read whole left less r next one before stepped = tt
told-more (Some all) read whole left less r next one before stepped = before ∙ walk-step (read all) left less r next one stepped

-- there was no more
pub told-end : (files : Option Files) (read : Files → Id → Read (Option Found)) (whole : Files → Read Reached) (left less : ℕ) (r : Reached) (ms : Mentions) (book : List Packed) → left ≡ suc less
    → slice_get ms (length book) ≡ None → IfSome files (λ all. whole all ≡ walk (read all) left r) → IfSome files (λ all. step (read all) r ≡ Ok (reaching ms book))
    → IfSome files (λ all. whole all ≡ Ok (reaching ms book))
told-end None read whole left less r ms book one none before stepped = tt
told-end (Some all) read whole left less r ms book one none before stepped =
    before ∙ walk-step (read all) left less r (reaching ms book) one stepped ∙ walk-still (read all) less ms book none

-- a refusal on the way is that of the whole
walk-refused : (fault : BookFault) (read : Id → Read (Option Found)) (left less : ℕ) (r : Reached) → left ≡ suc less → ReadRefuses (step read r) fault → ReadRefuses (walk read left r) fault
walk-refused fault read left less r one h = refused-as fault (walk read (suc less) r) (walk read left r) (ap (λ n. walk read n r) (sym one)) (refused-on fault (step read r) (walk read less) h)

pub told-stop : (files : Option Files) (fault : BookFault) (read : Files → Id → Read (Option Found)) (whole : Files → Read Reached) (left less : ℕ) (r : Reached) → left ≡ suc less
    → IfSome files (λ all. whole all ≡ walk (read all) left r) → IfSome files (λ all. ReadRefuses (step (read all) r) fault) → IfSome files (λ all. ReadRefuses (whole all) fault)
told-stop None fault read whole left less r one before h = tt
told-stop (Some all) fault read whole left less r one before h = refused-as fault (walk (read all) left r) (whole all) (sym before) (walk-refused fault (read all) left less r one h)

-- as many were read as there are numbers
pub told-full : (files : Option Files) (read : Files → Id → Read (Option Found)) (whole : Files → Read Reached) (left : ℕ) (r : Reached) → left ≡ 0
    → IfSome files (λ all. whole all ≡ walk (read all) left r) → IfSome files (λ all. whole all ≡ Ok r)
told-full None read whole left r none before = tt
told-full (Some all) read whole left r none before = before ∙ ap (λ n. walk (read all) n r) none

pub most-left : (n : ℕ) → n < 4096 → most_packages - n ≡ suc (most_packages - (n + 1))
unfolding most_packages
most-left n few = omega (arith, few)

pub none-left : (n : ℕ) → 4096 ≤ n → most_packages - n ≡ 0
unfolding most_packages
none-left n all = omega (arith, all)

pub all-left : (n : ℕ) → n ≡ 0 → most_packages ≡ most_packages - n
all-left n none = omega (arith, none)

-- ---- what the reading begins with

pub told-begun : (files : Option Files) (read : Files → Id → Read (Option Found)) (ms first : Mentions) (book : List Packed) (answer : Result (Unit {0}) BookFault) (last : Reached) → ms ≡ first → book ≡ []
    → IfSome files (λ all. MatchResult answer (λ _. walk (read all) most_packages (reaching ms book) ≡ Ok last) (ReadRefuses (walk (read all) most_packages (reaching ms book))))
    → IfSome files (λ all. MatchResult answer (λ _. walk (read all) most_packages (reaching first []) ≡ Ok last) (ReadRefuses (walk (read all) most_packages (reaching first []))))
told-begun files read ms first book answer last begins empty h =
    subst (λ (r : Reached). IfSome files (λ all. MatchResult answer (λ _. walk (read all) most_packages r ≡ Ok last) (ReadRefuses (walk (read all) most_packages r)))) (λ i. reaching (begins i) (empty i)) h

-- ---- whether there was one more

pub went-on : (number : ℕ) (ms : Mentions) (book : List Packed) (more : Bool) → GoesOn number ms book more → more ≡ true → (length book ≡ number + 1) × AreFirst book ms
went-on number ms book true goes is = goes
went-on number ms book false goes is = absurd (true≢false (sym is))

pub came-to-end : (number : ℕ) (ms : Mentions) (book : List Packed) (more : Bool) → GoesOn number ms book more → more ≡ false → slice_get ms (length book) ≡ None
came-to-end number ms book true goes is = absurd (true≢false is)
came-to-end number ms book false goes is = goes
