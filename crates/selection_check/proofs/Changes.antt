-- A selection in which one package has another version.
use Rattle.std.proofs.Common.{◌≡◌, false, cond, Some, is_some, IsSome, bytes_eq, option_and_then, refl, sym, ap, ◌∙◌, subst, inl, inr}
use Rattle.std.specs.Cmp.Lexicographic.{nat_list_eq_equiv}
use Rattle.std.specs.Map.{keys_of}
use Rattle.std.proofs.lemmas.Map.{keys-set_value, lookup-set_value}
use Rattle.std.proofs.lemmas.Map.Made.{IsSome-lookup_same_keys}
use Rattle.jl_versions.specs.declared.version.Version.{Version}
use Rattle.offer_terms.specs.ById.{AreRising}
use Rattle.offer_terms.specs.Offered.{Id, Offering, Offers, Selected, version_in, offer_at, taken, with_version}
use Rattle.selection_check.proofs.Ranks.{id_case, id_itself, same_id}

pub changed_keys : (s : Selected) (u : Id) (v : Version) → AreRising (keys_of s) → AreRising (keys_of (with_version s u v))
changed_keys s u v once = subst AreRising (sym (keys-set_value (bytes_eq u) s v)) once

pub still_selected : (s : Selected) (u : Id) (v : Version) (t : Id) → IsSome (version_in s t) → IsSome (version_in (with_version s u v) t)
still_selected s u v t = (IsSome-lookup_same_keys (bytes_eq t) (with_version s u v) s (keys-set_value (bytes_eq u) s v)).1

module _ (s : Selected) (u : Id) (v old : Version) (there : version_in s u ≡ Some old) where
  changed_at : (t : Id) → version_in (with_version s u v) t ≡ cond (bytes_eq u t) (Some v) (version_in s t)
  changed_at t = lookup-set_value nat_list_eq_equiv (bytes_eq u) (λ x y is. ap (λ k. bytes_eq k y) (same_id u x is)) t v s (ap is_some there)

  pub changed_here : version_in (with_version s u v) u ≡ Some v
  changed_here = changed_at u ∙ ap (λ b. cond b (Some v) (version_in s u)) (id_itself u u refl)

  pub changed_apart : (t : Id) → (t ≡ u → ⊥) → version_in (with_version s u v) t ≡ version_in s t
  changed_apart t ne =
      let apart : bytes_eq u t ≡ false = elim (id_case u t) [ inl here ↦ absurd (ne (sym here.0)) | inr a ↦ a.1 ] in
      changed_at t ∙ ap (λ b. cond b (Some v) (version_in s t)) apart

  module _ (o : Offers) where
    pub taken_here : (x : Offering) → offer_at o u v ≡ Some x → taken o (with_version s u v) u ≡ Some x
    taken_here x is = ap (option_and_then (offer_at o u)) changed_here ∙ is

    pub taken_apart : (t : Id) → (t ≡ u → ⊥) → taken o (with_version s u v) t ≡ taken o s t
    taken_apart t ne = ap (option_and_then (offer_at o t)) (changed_apart t ne)
