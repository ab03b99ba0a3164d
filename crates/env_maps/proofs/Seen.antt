-- Dependencies among some of them, and among two lists of them.
use Rattle.std.proofs.Common.{◌≡◌, ℕ, Bool, true, false, if◌then◌else◌, List, [], ◌∷◌, ◌++◌, Some, None, refl, sym, ap, ◌∙◌}
use Rattle.std.proofs.lemmas.Slice.Eq.{bytes_eq-Decides}
use Rattle.std.specs.List.{filter}
use Rattle.std.specs.Str.{bytes_eq}
use Rattle.project_places.specs.Active.{or_next}
use Rattle.env_maps.specs.ByName.{is_among}
use Rattle.env_maps.specs.Contexts.{Uses, seen_by}
use Rattle.env_maps.specs.Maps.{dep_of}

append_next : (name key uuid : List ℕ) (xs ys : List (List ℕ × List ℕ)) (same : Bool) → dep_of name (xs ++ ys) ≡ or_next (dep_of name xs) (dep_of name ys)
    → (if same then Some (record { uuid = Some uuid; name = name }) else dep_of name (xs ++ ys)) ≡ or_next (if same then Some (record { uuid = Some uuid; name = name }) else dep_of name xs) (dep_of name ys)
append_next name key uuid xs ys true rest = refl
append_next name key uuid xs ys false rest = rest

pub dep_append : (name : List ℕ) (xs ys : List (List ℕ × List ℕ)) → dep_of name (xs ++ ys) ≡ or_next (dep_of name xs) (dep_of name ys)
dep_append name [] ys = refl
dep_append name ((key, uuid) ∷ xs) ys = append_next name key uuid xs ys (bytes_eq key name) (dep_append name xs ys)

none_either : (name : List ℕ) (b : Bool) → dep_of name [] ≡ (if b then dep_of name [] else None)
none_either name true = refl
none_either name false = refl

-- the triggers among some dependencies
abbrev kept_among : List (List ℕ) → List (List ℕ × List ℕ) → List (List ℕ × List ℕ)
kept_among triggers xs = filter (λ dep. is_among dep.0 triggers) xs

same_among : (key name : List ℕ) (triggers : List (List ℕ)) → bytes_eq key name ≡ true → is_among name triggers ≡ is_among key triggers
same_among key name triggers e = ap (λ n. is_among n triggers) (sym ((bytes_eq-Decides key name).0 e))

filter_next : (name key uuid : List ℕ) (triggers : List (List ℕ)) (xs : List (List ℕ × List ℕ)) (kept same : Bool) → bytes_eq key name ≡ same → is_among key triggers ≡ kept
    → dep_of name (kept_among triggers xs) ≡ (if is_among name triggers then dep_of name xs else None)
    → dep_of name (if kept then (key, uuid) ∷ kept_among triggers xs else kept_among triggers xs)
    ≡ (if is_among name triggers then (if same then Some (record { uuid = Some uuid; name = name }) else dep_of name xs) else None)
filter_next name key uuid triggers xs true true e f rest = rw (e, same_among key name triggers e ∙ f) refl
filter_next name key uuid triggers xs true false e f rest = rw e rest
filter_next name key uuid triggers xs false true e f rest = rest ∙ (rw (same_among key name triggers e ∙ f) refl)
filter_next name key uuid triggers xs false false e f rest = rest

pub dep_filter : (name : List ℕ) (triggers : List (List ℕ)) (xs : List (List ℕ × List ℕ))
    → dep_of name (filter (λ dep. is_among dep.0 triggers) xs) ≡ (if is_among name triggers then dep_of name xs else None)
dep_filter name triggers [] = none_either name (is_among name triggers)
dep_filter name triggers ((key, uuid) ∷ xs) =
    filter_next name key uuid triggers xs (is_among key triggers) (bytes_eq key name) refl refl (dep_filter name triggers xs)

-- what an extension sees under another name than its parent's
seen_next : (name parent uuid : List ℕ) (uses : Uses) (triggers : List (List ℕ)) (same : Bool) → same ≡ false
    → (if same then Some (record { uuid = Some uuid; name = name }) else dep_of name (kept_among triggers uses.weakdeps ++ uses.deps))
    ≡ or_next (if is_among name triggers then dep_of name uses.weakdeps else None) (dep_of name uses.deps)
seen_next name parent uuid uses triggers true e = let no-way : ⊥ = cc in absurd no-way
seen_next name parent uuid uses triggers false e =
    dep_append name (kept_among triggers uses.weakdeps) uses.deps ∙ ap (λ found. or_next found (dep_of name uses.deps)) (dep_filter name triggers uses.weakdeps)

pub seen_other : (name parent uuid : List ℕ) (uses : Uses) (triggers : List (List ℕ)) → bytes_eq parent name ≡ false
    → dep_of name (seen_by uuid parent uses triggers) ≡ or_next (if is_among name triggers then dep_of name uses.weakdeps else None) (dep_of name uses.deps)
seen_other name parent uuid uses triggers other = seen_next name parent uuid uses triggers (bytes_eq parent name) other
