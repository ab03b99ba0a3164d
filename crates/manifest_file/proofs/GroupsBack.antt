-- Stanzas in groups read back.
use Rattle.std.proofs.Common.{rules, ◌≡◌, ℕ, Bool, true, false, ◌&&◌, if◌then◌else◌, List, [], ◌∷◌, ◌++◌, map, Option, Some, None, codes, option_map, Ok, Less, Equal, Greater, Ordering, refl, ap, sym, ◌∙◌}
use Rattle.std.specs.Str.{bytes_eq}
use Rattle.std.specs.Ordering.{nat_cmp, is_lt, is_eq}
use Rattle.std.specs.Cmp.Lexicographic.{slice_cmp}
use Rattle.std.specs.FinMap.Entries.{below_all}
use Rattle.std.proofs.lemmas.Map.Text.{is_eq-slice_cmp}
use Rattle.std.proofs.lemmas.Slice.Eq.{bytes_eq-Decides}
use Rattle.toml.specs.Data.{Data, string, Members, get_member}
use Rattle.toml_view.specs.Causes.{then_read}
use Rattle.toml_view.specs.Reading.{version_at, or_empty, at, chained, mapped, opt, opt_at, need, need_at, table_at, list_of, each}
use Rattle.pkg_world.specs.ByName.{is_by_name}
use Rattle.manifest_file.specs.Chains.{files}
use Rattle.manifest_file.specs.Entries.{entry_of}
use Rattle.manifest_file.specs.Format.{format_of}
use Rattle.manifest_file.specs.Saying.{SaidStanza, Said, Groups, flat, uuids_of, first_again, all_read, bearers_of, bearers_in, stanzas_named, stanza_of, unless_same, of_file, manifest_of}
use Rattle.manifest_file.specs.Written as spec
use Rattle.manifest_file.specs.Written.{one_more, bearers_among, joined, grouped}
use Rattle.manifest_file.specs.ReadsBack.{VersionBack, StanzaBack, StanzasBack, StandOnce}
use Rattle.manifest_file.specs.declared.bearers.Bearers.{Bearers}
use Rattle.manifest_file.specs.declared.bearers.Bearers.TheVariants.{Nobody, One}
use Rattle.manifest_file.specs.declared.entry.Entry.{Entry}
use Rattle.manifest_file.proofs.Groups.{Group, grouped_ordered}
use Rattle.manifest_file.proofs.Orders.{keyed_is}
use Rattle.manifest_file.proofs.ValuesBack.{version_back}
use Rattle.manifest_file.proofs.StanzasBack.{entry_said, list_back, stanzas_resolved, found, get_found, or_else, or_none}

left_true : (a b : Bool) → (a && b) ≡ true → a ≡ true
left_true true b e = refl
left_true false b e = e

right_true : (a b : Bool) → (a && b) ≡ true → b ≡ true
right_true true b e = e
right_true false b e = cc

abbrev GroupsBack : (List ℕ → Bearers) → List Group → Type 0
GroupsBack bearers [] = Unit {0}
GroupsBack bearers (g ∷ gs) = StanzasBack bearers g.1 × GroupsBack bearers gs

joined_back : (bearers : List ℕ → Bearers) (s : SaidStanza) (gs : List Group) → StanzaBack bearers s → GroupsBack bearers gs → GroupsBack bearers (joined s gs)
joined_back bearers s [] one back = ((one, tt), tt)
joined_back bearers s (g ∷ gs) one back = go (bytes_eq s.name g.0)
  where
    go : (b : Bool) → GroupsBack bearers (if b then (s.name, s ∷ g.1) ∷ gs else (s.name, s ∷ []) ∷ g ∷ gs)
    go true = ((one, back.0), back.1)
    go false = ((one, tt), back)

grouped_back : (bearers : List ℕ → Bearers) (ss : List SaidStanza) → StanzasBack bearers ss → GroupsBack bearers (grouped ss)
grouped_back bearers [] back = tt
grouped_back bearers (s ∷ ss) back = joined_back bearers s (grouped ss) back.0 (grouped_back bearers ss back.1)

module _ (bearers : List ℕ → Bearers) where
  -- groups as they are read
  abbrev group_said : Group → List ℕ × List Entry
  group_said g = (g.0, map (entry_said bearers) g.1)

  abbrev groups_said : List Group → Groups
  groups_said gs = map group_said gs

  groups_back : (gs : List Group) → GroupsBack bearers gs → each (list_of entry_of) (spec.members_opt (map (spec.group_put bearers) gs)) ≡ Ok (groups_said gs)
  groups_back [] back = refl
  groups_back (g ∷ gs) back =
      ap (λ r. chained (λ v. mapped (λ vs. (g.0, v) ∷ vs) (each (list_of entry_of) (spec.members_opt (map (spec.group_put bearers) gs)))) (at g.0 r)) (list_back bearers g.1 back.0)
      ∙ ap (mapped (λ vs. group_said g ∷ vs)) (groups_back gs back.1)

  -- the stanzas of groups are those that were grouped
  flat_joined : (s : SaidStanza) (gs : List Group) → flat (groups_said (joined s gs)) ≡ (s.name, entry_said bearers s) ∷ flat (groups_said gs)
  flat_joined s [] = refl
  flat_joined s (g ∷ gs) = go (bytes_eq s.name g.0) refl
    where
      go : (b : Bool) → bytes_eq s.name g.0 ≡ b
          → flat (groups_said (if b then (s.name, s ∷ g.1) ∷ gs else (s.name, s ∷ []) ∷ g ∷ gs)) ≡ (s.name, entry_said bearers s) ∷ flat (groups_said (g ∷ gs))
      go true e =
          let same : s.name ≡ g.0 = search (rules, bytes_eq-Decides) in
          ap (λ n. (s.name, entry_said bearers s) ∷ (map (λ entry. (n, entry)) (map (entry_said bearers) g.1) ++ flat (groups_said gs))) same
      go false e = refl

  flat_grouped : (ss : List SaidStanza) → flat (groups_said (grouped ss)) ≡ map (λ s. (s.name, entry_said bearers s)) ss
  flat_grouped [] = refl
  flat_grouped (s ∷ ss) = flat_joined s (grouped ss) ∙ ap (λ es. (s.name, entry_said bearers s) ∷ es) (flat_grouped ss)

  uuids_joined : (s : SaidStanza) (gs : List Group) → uuids_of (groups_said (joined s gs)) ≡ s.uuid ∷ uuids_of (groups_said gs)
  uuids_joined s [] = refl
  uuids_joined s (g ∷ gs) = go (bytes_eq s.name g.0)
    where
      go : (b : Bool) → uuids_of (groups_said (if b then (s.name, s ∷ g.1) ∷ gs else (s.name, s ∷ []) ∷ g ∷ gs)) ≡ s.uuid ∷ uuids_of (groups_said (g ∷ gs))
      go true = refl
      go false = refl

  uuids_grouped : (ss : List SaidStanza) → uuids_of (groups_said (grouped ss)) ≡ map (λ s. s.uuid) ss
  uuids_grouped [] = refl
  uuids_grouped (s ∷ ss) = uuids_joined s (grouped ss) ∙ ap (λ ids. s.uuid ∷ ids) (uuids_grouped ss)

  -- ---- who bears a name

  less_not_eq : (o : Ordering) → is_lt o ≡ true → is_eq o ≡ false
  less_not_eq Less h = refl
  less_not_eq Equal h = cc
  less_not_eq Greater h = cc

  -- a name below all names of groups is none of them
  nobody_below : (name : List ℕ) (gs : List Group) → below_all (slice_cmp nat_cmp) name gs ≡ true → bearers_in (groups_said gs) name ≡ Nobody
  nobody_below name [] h = refl
  nobody_below name (g ∷ gs) h =
      let apart : bytes_eq name g.0 ≡ false = sym (is_eq-slice_cmp name g.0) ∙ less_not_eq (slice_cmp nat_cmp name g.0) (left_true (is_lt (slice_cmp nat_cmp name g.0)) (below_all (slice_cmp nat_cmp) name gs) h) in
      let other : bytes_eq g.0 name ≡ false = search (rules, bytes_eq-Decides) in
      ap (λ b. bearers_of (if b then map (entry_said bearers) g.1 else stanzas_named (groups_said gs) name)) other
      ∙ nobody_below name gs (right_true (is_lt (slice_cmp nat_cmp name g.0)) (below_all (slice_cmp nat_cmp) name gs) h)

  one_of : (s : SaidStanza) (es : List Entry) → bearers_of (entry_said bearers s ∷ es) ≡ one_more s.uuid (bearers_of es)
  one_of s [] = refl
  one_of s (e ∷ []) = refl
  one_of s (e ∷ f ∷ es) = refl

  abbrev with_one : SaidStanza → List ℕ → Bearers → Bearers
  with_one s q rest = if bytes_eq s.name q then one_more s.uuid rest else rest

  bearers_joined : (s : SaidStanza) (gs : List Group) (q : List ℕ) → is_by_name (joined s gs) ≡ true → bearers_in (groups_said (joined s gs)) q ≡ with_one s q (bearers_in (groups_said gs) q)
  bearers_joined s [] q ordered = pick (bytes_eq s.name q)
    where
      pick : (b : Bool) → bearers_of (if b then entry_said bearers s ∷ [] else []) ≡ (if b then One s.uuid else Nobody)
      pick true = refl
      pick false = refl
  bearers_joined s (g ∷ gs) q ordered = go (bytes_eq s.name g.0) refl ordered
    where
      same_name : (b : Bool) (rest : List Entry)
          → bearers_of (if b then entry_said bearers s ∷ map (entry_said bearers) g.1 else rest)
          ≡ (if b then one_more s.uuid (bearers_of (if b then map (entry_said bearers) g.1 else rest)) else bearers_of (if b then map (entry_said bearers) g.1 else rest))
      same_name true rest = one_of s (map (entry_said bearers) g.1)
      same_name false rest = refl

      new_name : (b : Bool) (rest : List Entry) → (b ≡ true → bearers_of rest ≡ Nobody)
          → bearers_of (if b then entry_said bearers s ∷ [] else rest) ≡ (if b then one_more s.uuid (bearers_of rest) else bearers_of rest)
      new_name true rest none = sym (ap (one_more s.uuid) (none refl))
      new_name false rest none = refl

      go : (b : Bool) → bytes_eq s.name g.0 ≡ b → is_by_name (if b then (s.name, s ∷ g.1) ∷ gs else (s.name, s ∷ []) ∷ g ∷ gs) ≡ true
          → bearers_in (groups_said (if b then (s.name, s ∷ g.1) ∷ gs else (s.name, s ∷ []) ∷ g ∷ gs)) q ≡ with_one s q (bearers_in (groups_said (g ∷ gs)) q)
      go true e h =
          let same : s.name ≡ g.0 = search (rules, bytes_eq-Decides) in
          same_name (bytes_eq s.name q) (stanzas_named (groups_said gs) q)
          ∙ ap (λ n. with_one s q (bearers_of (if bytes_eq n q then map (entry_said bearers) g.1 else stanzas_named (groups_said gs) q))) same
      go false e h =
          new_name (bytes_eq s.name q) (stanzas_named (groups_said (g ∷ gs)) q)
          (λ here. let at_name : s.name ≡ q = search (rules, bytes_eq-Decides) in
          ap (bearers_in (groups_said (g ∷ gs))) (sym at_name) ∙ nobody_below s.name (g ∷ gs) (left_true (below_all (slice_cmp nat_cmp) s.name (g ∷ gs)) (is_by_name (g ∷ gs)) h))

  bearers_grouped : (ss : List SaidStanza) (q : List ℕ) → spec.are_by_name ss ≡ true → bearers_in (groups_said (grouped ss)) q ≡ bearers_among ss q
  bearers_grouped [] q ordered = refl
  bearers_grouped (s ∷ ss) q ordered =
      bearers_joined s (grouped ss) q (grouped_ordered (s ∷ ss) ordered)
      ∙ ap (with_one s q) (bearers_grouped ss q (right_true (spec.is_not_above s.name ss) (spec.are_by_name ss) ordered))

-- ---- a manifest

pub written_back : (m : Said) → spec.are_by_name m.stanzas ≡ true → StandOnce m.stanzas → VersionBack m.julia_version → StanzasBack (bearers_among m.stanzas) m.stanzas
    → manifest_of (spec.written m) ≡ Ok m
written_back m ordered once version back =
    ap of_file (keyed_is ms ∙ (λ i. files (deps_b i) (julia_b i) (format_b i)))
    ∙ ap (λ o. unless_same o (then_read (all_read (stanza_of (bearers_in groups)) (flat groups)) (λ ss. Ok (record { julia_version = m.julia_version; stanzas = ss })))) same_none
    ∙ (λ i. then_read (all_read (stanza_of (bearers_are i)) (flat_grouped bearers m.stanzas i)) (λ ss. Ok (record { julia_version = m.julia_version; stanzas = ss })))
    ∙ ap (λ r. then_read r (λ ss. Ok (record { julia_version = m.julia_version; stanzas = ss }))) (stanzas_resolved bearers m.stanzas back)
  where
    bearers : List ℕ → Bearers
    bearers = bearers_among m.stanzas

    puts : spec.Puts
    puts =
        (codes "deps", Some (spec.stanzas_data bearers m.stanzas))
        ∷ (codes "julia_version", option_map spec.version_data m.julia_version)
        ∷ (codes "manifest_format", Some (string (codes "2.0")))
        ∷ []

    ms : Members
    ms = spec.written m

    groups : Groups
    groups = groups_said bearers (grouped m.stanzas)

    here : (key : List ℕ) (value : Option Data) → found key puts ≡ or_else value None → get_member key ms ≡ value
    here key value e = get_found key puts ∙ e ∙ or_none value

    deps_b : table_at (list_of entry_of) (codes "deps") ms ≡ Ok groups
    deps_b = ap (λ r. mapped or_empty (mapped (λ v. Some v) (at (codes "deps") r))) (groups_back bearers (grouped m.stanzas) (grouped_back bearers m.stanzas back))

    julia_b : opt version_at (codes "julia_version") ms ≡ Ok m.julia_version
    julia_b = ap (opt_at version_at (codes "julia_version")) (here (codes "julia_version") (option_map spec.version_data m.julia_version) refl) ∙ version_back (codes "julia_version") m.julia_version version

    format_b : need format_of (codes "manifest_format") ms ≡ Ok tt
    format_b = ap (need_at format_of (codes "manifest_format")) (here (codes "manifest_format") (Some (string (codes "2.0"))) refl)

    same_none : first_again (λ q. false) (uuids_of groups) ≡ None
    same_none = ap (first_again (λ q. false)) (uuids_grouped bearers m.stanzas) ∙ once

    bearers_are : bearers_in groups ≡ bearers
    bearers_are = λ i q. bearers_grouped bearers m.stanzas q ordered i
