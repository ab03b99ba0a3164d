-- The table of a project reads as the project.
use Rattle.std.proofs.Common.{◌≡◌, ℕ, ◌≤◌, Bool, true, false, ◌&&◌, cond, List, [], ◌∷◌, Option, Some, None, Result, Ok, codes, refl, ap, sym, ◌∙◌, subst, inl, inr, arith}
use Rattle.std.proofs.lemmas.Bool.{cases_Bool, and_parts}
use Rattle.std.specs.Option.{IfSome}
use Rattle.toml.specs.Data.{Data, depth, Members, members_depth, get_member, same_key, has_valid_dates, members_have_valid_dates}
use Rattle.toml_view.specs.Reading.{opt_at, text_of, uuid_of, texts_of, version_at}
use Rattle.toml_view.specs.declared.refusal.Refusal.{Refusal}
use Rattle.jl_versions.specs.declared.version.Version.{Version}
use Rattle.project_file.specs.declared.source.Source.{Source}
use Rattle.project_file.specs.Spelled.{Spelled, spec_of}
use Rattle.project_file.specs.Places.{text_in, source_of}
use Rattle.project_file.specs.Keys.{is_named, unnamed, names_none}
use Rattle.project_file.specs.Said.{Said}
use Rattle.project_file.specs.Projects.{project_of, uuid_in, version_in, ids_in, extensions_in, compat_in, sources_in}
use Rattle.project_file.specs.Putting.{put_some, each_at, Puts, PutsBack, PutsMiddle, PutsFront}
use Rattle.project_file.specs.Chain.{fronts, middles, backs, front_of, middle_of, back_of, in_turn, project_chain}
use Rattle.project_file.proofs.Members.{keys_equal, get_put, get_put-other, unnamed_put, unnamed_plain, get_plain, depth_put, dated_put, dated_unnamed}
use Rattle.project_file.proofs.Orders.{project_in_order}

-- ---- several puts, the last one first

abbrev Pairs : Type 0
Pairs = List (List ℕ × Option Data)

abbrev put_all : Pairs → Members → Members
put_all [] ms = ms
put_all (p ∷ pairs) ms = put_some p.0 p.1 (put_all pairs ms)

abbrev or_else : Option Data → Option Data → Option Data
or_else None other = other
or_else (Some value) other = Some value

abbrev found : List ℕ → Pairs → Option Data
found key [] = None
found key (p ∷ pairs) = cond (same_key key p.0) (or_else p.1 (found key pairs)) (found key pairs)

or_none : (o : Option Data) → or_else o None ≡ o
or_none None = refl
or_none (Some value) = refl

get_put_some-same : (key other : List ℕ) (value : Option Data) (ms : Members) (rest : Option Data) → same_key key other ≡ true → get_member key ms ≡ rest
    → get_member key (put_some other value ms) ≡ or_else value rest
get_put_some-same key other None ms rest same e = e
get_put_some-same key other (Some value) ms rest same e = ap (λ k. get_member key (put_some k (Some value) ms)) (sym (keys_equal key other same)) ∙ get_put key value ms

get_put_some-other : (key other : List ℕ) (value : Option Data) (ms : Members) → same_key key other ≡ false → get_member key (put_some other value ms) ≡ get_member key ms
get_put_some-other key other None ms apart = refl
get_put_some-other key other (Some value) ms apart = get_put-other key other value ms apart

get_put_all : (key : List ℕ) (pairs : Pairs) (ms : Members) → get_member key ms ≡ None → get_member key (put_all pairs ms) ≡ found key pairs
get_put_all key [] ms none = none
get_put_all key (p ∷ pairs) ms none =
    elim (cases_Bool (same_key key p.0)) [
      | inl same ↦ get_put_some-same key p.0 p.1 (put_all pairs ms) (found key pairs) same (get_put_all key pairs ms none) ∙ sym (chosen same)
      | inr apart ↦ get_put_some-other key p.0 p.1 (put_all pairs ms) apart ∙ get_put_all key pairs ms none ∙ sym (passed apart)
    ]
  where
    chosen : same_key key p.0 ≡ true → found key (p ∷ pairs) ≡ or_else p.1 (found key pairs)
    chosen same = ap (λ b. cond b (or_else p.1 (found key pairs)) (found key pairs)) same

    passed : same_key key p.0 ≡ false → found key (p ∷ pairs) ≡ found key pairs
    passed apart = ap (λ b. cond b (or_else p.1 (found key pairs)) (found key pairs)) apart

abbrev all_named : Pairs → Bool
all_named [] = true
all_named (p ∷ pairs) = is_named p.0 && all_named pairs

unnamed_put_some : (key : List ℕ) (value : Option Data) (ms : Members) → is_named key ≡ true → unnamed (put_some key value ms) ≡ unnamed ms
unnamed_put_some key None ms named = refl
unnamed_put_some key (Some value) ms named = unnamed_put key value ms named

unnamed_put_all : (pairs : Pairs) (ms : Members) → all_named pairs ≡ true → unnamed (put_all pairs ms) ≡ unnamed ms
unnamed_put_all [] ms named = refl
unnamed_put_all (p ∷ pairs) ms named =
    let (here, rest) = and_parts (is_named p.0) (all_named pairs) named in
    unnamed_put_some p.0 p.1 (put_all pairs ms) here ∙ unnamed_put_all pairs ms rest

-- what was put at a key is read there
read_back : {T : Type 0} (read : Option Data → Result T Refusal) (key : List ℕ) (meant : T) (value : Option Data) (pairs : Pairs) (rest new : Members)
    → new ≡ put_all pairs rest → get_member key rest ≡ None → found key pairs ≡ or_else value None → read value ≡ Ok meant → read (get_member key new) ≡ Ok meant
read_back read key meant value pairs rest new whole none there reads =
    ap (λ ms. read (get_member key ms)) whole ∙ ap read (get_put_all key pairs rest none ∙ there ∙ or_none value) ∙ reads

-- ---- how deep

puts_depth : {T : Type 0} {read : Option Data → Result T Refusal} {key : List ℕ} {meant : T} {old new : Members} → Puts read key meant old new → members_depth old ≤ 63 → members_depth new ≤ 63
puts_depth {key = key} {old = old} {new = new} puts within = deep puts.value puts.flat puts.put_there
  where
    deep : (value : Option Data) → IfSome value (λ v. depth v ≤ 2) → new ≡ put_some key value old → members_depth new ≤ 63
    deep None flat there = subst (λ ms. members_depth ms ≤ 63) (sym there) within
    deep (Some value) flat there = subst (λ ms. members_depth ms ≤ 63) (sym there) (depth_put key value old 63 (omega (arith, flat)) within)

pub back_depth : {uuid : Option (List ℕ)} {version : Option Version} {weakdeps : List (List ℕ × List ℕ)} {old new : Members} → PutsBack uuid version weakdeps old new
    → members_depth old ≤ 63 → members_depth new ≤ 63
back_depth puts within = puts_depth puts.uuid_put (puts_depth puts.version_put (puts_depth puts.weakdeps_put within))

pub middle_depth : {manifest name : Option (List ℕ)} {sources : List (List ℕ × Source)} {old new : Members} → PutsMiddle manifest name sources old new
    → members_depth old ≤ 63 → members_depth new ≤ 63
middle_depth puts within = puts_depth puts.manifest_put (puts_depth puts.name_put (puts_depth puts.sources_put within))

pub front_depth : {compat : List (List ℕ × Spelled)} {deps : List (List ℕ × List ℕ)} {extensions : List (List ℕ × List (List ℕ))} {extras : List (List ℕ × List ℕ)} {old new : Members}
    → PutsFront compat deps extensions extras old new → members_depth old ≤ 63 → members_depth new ≤ 63
front_depth puts within = puts_depth puts.compat_put (puts_depth puts.deps_put (puts_depth puts.extensions_put (puts_depth puts.extras_put within)))

-- ---- which dates

puts_dated : {T : Type 0} {read : Option Data → Result T Refusal} {key : List ℕ} {meant : T} {old new : Members} → Puts read key meant old new → members_have_valid_dates old ≡ true → members_have_valid_dates new ≡ true
puts_dated {key = key} {old = old} {new = new} puts within = well puts.value puts.dated puts.put_there
  where
    well : (value : Option Data) → IfSome value (λ v. has_valid_dates v ≡ true) → new ≡ put_some key value old → members_have_valid_dates new ≡ true
    well None dated there = ap members_have_valid_dates there ∙ within
    well (Some value) dated there = ap members_have_valid_dates there ∙ dated_put key value old dated within

puts_unnamed : {T : Type 0} {read : Option Data → Result T Refusal} {key : List ℕ} {meant : T} {old new : Members} → Puts read key meant old new → is_named key ≡ true → unnamed new ≡ unnamed old
puts_unnamed {key = key} {old = old} puts named = ap unnamed puts.put_there ∙ unnamed_put_some key puts.value old named

both_dated : (a b : Bool) → (a ≡ true → b ≡ true) → (b ≡ true → a ≡ true) → b ≡ a
both_dated true true to from = refl
both_dated true false to from = to refl
both_dated false true to from = sym (from refl)
both_dated false false to from = refl

-- ---- a project

module _ (name manifest uuid : Option (List ℕ)) (version : Option Version) (deps weakdeps extras : List (List ℕ × List ℕ)) (extensions : List (List ℕ × List (List ℕ)))
    (compat : List (List ℕ × Spelled)) (sources : List (List ℕ × Source)) (rest : Members) where
  abbrev pub project : Said
  project =
      record {
        name = name;
        uuid = uuid;
        version = version;
        deps = deps;
        weakdeps = weakdeps;
        extensions = extensions;
        compat = compat;
        extras = extras;
        sources = sources;
        manifest = manifest;
        rest = rest;
      }

  pub printed : (m1 m2 m3 : Members) → PutsBack uuid version weakdeps rest m1 → PutsMiddle manifest name sources m1 m2 → PutsFront compat deps extensions extras m2 m3
      → names_none rest ≡ true → project_of m3 ≡ Ok project
  unfolding project_chain front_of middle_of back_of is_named
  printed m1 m2 m3 back middle front none =
      let pairs : Pairs =
      (codes "compat", front.compat_put.value) ∷ (codes "deps", front.deps_put.value) ∷ (codes "extensions", front.extensions_put.value) ∷ (codes "extras", front.extras_put.value)
      ∷ (codes "manifest", middle.manifest_put.value) ∷ (codes "name", middle.name_put.value) ∷ (codes "sources", middle.sources_put.value)
      ∷ (codes "uuid", back.uuid_put.value) ∷ (codes "version", back.version_put.value) ∷ (codes "weakdeps", back.weakdeps_put.value) ∷ [] in
      let whole : m3 ≡ put_all pairs rest =
      front.compat_put.put_there ∙ ap (put_some (codes "compat") front.compat_put.value) (front.deps_put.put_there
      ∙ ap (put_some (codes "deps") front.deps_put.value) (front.extensions_put.put_there ∙ ap (put_some (codes "extensions") front.extensions_put.value) (front.extras_put.put_there
      ∙ ap (put_some (codes "extras") front.extras_put.value) (middle.manifest_put.put_there ∙ ap (put_some (codes "manifest") middle.manifest_put.value) (middle.name_put.put_there
      ∙ ap (put_some (codes "name") middle.name_put.value) (middle.sources_put.put_there ∙ ap (put_some (codes "sources") middle.sources_put.value) (back.uuid_put.put_there
      ∙ ap (put_some (codes "uuid") back.uuid_put.value) (back.version_put.put_there ∙ ap (put_some (codes "version") back.version_put.value) back.weakdeps_put.put_there)))))))) in
      let compat_back : compat_in m3 ≡ Ok compat =
      read_back (each_at spec_of (codes "compat")) (codes "compat") compat front.compat_put.value pairs rest m3 whole (get_plain (codes "compat") rest refl none) refl front.compat_put.reads in
      let deps_back : ids_in (codes "deps") m3 ≡ Ok deps =
      read_back (each_at uuid_of (codes "deps")) (codes "deps") deps front.deps_put.value pairs rest m3 whole (get_plain (codes "deps") rest refl none) refl front.deps_put.reads in
      let extensions_back : extensions_in m3 ≡ Ok extensions =
      read_back (each_at texts_of (codes "extensions")) (codes "extensions") extensions front.extensions_put.value pairs rest m3 whole (get_plain (codes "extensions") rest refl none) refl front.extensions_put.reads in
      let extras_back : ids_in (codes "extras") m3 ≡ Ok extras =
      read_back (each_at uuid_of (codes "extras")) (codes "extras") extras front.extras_put.value pairs rest m3 whole (get_plain (codes "extras") rest refl none) refl front.extras_put.reads in
      let manifest_back : text_in (codes "manifest") m3 ≡ Ok manifest =
      read_back (opt_at text_of (codes "manifest")) (codes "manifest") manifest middle.manifest_put.value pairs rest m3 whole (get_plain (codes "manifest") rest refl none) refl middle.manifest_put.reads in
      let name_back : text_in (codes "name") m3 ≡ Ok name =
      read_back (opt_at text_of (codes "name")) (codes "name") name middle.name_put.value pairs rest m3 whole (get_plain (codes "name") rest refl none) refl middle.name_put.reads in
      let sources_back : sources_in m3 ≡ Ok sources =
      read_back (each_at source_of (codes "sources")) (codes "sources") sources middle.sources_put.value pairs rest m3 whole (get_plain (codes "sources") rest refl none) refl middle.sources_put.reads in
      let uuid_back : uuid_in m3 ≡ Ok uuid =
      read_back (opt_at uuid_of (codes "uuid")) (codes "uuid") uuid back.uuid_put.value pairs rest m3 whole (get_plain (codes "uuid") rest refl none) refl back.uuid_put.reads in
      let version_back : version_in m3 ≡ Ok version =
      read_back (opt_at version_at (codes "version")) (codes "version") version back.version_put.value pairs rest m3 whole (get_plain (codes "version") rest refl none) refl back.version_put.reads in
      let weakdeps_back : ids_in (codes "weakdeps") m3 ≡ Ok weakdeps =
      read_back (each_at uuid_of (codes "weakdeps")) (codes "weakdeps") weakdeps back.weakdeps_put.value pairs rest m3 whole (get_plain (codes "weakdeps") rest refl none) refl back.weakdeps_put.reads in
      let rest_back : unnamed m3 ≡ rest = ap unnamed whole ∙ unnamed_put_all pairs rest refl ∙ unnamed_plain rest none in
      sym (project_in_order m3)
      ∙ (λ i. in_turn (fronts (compat_back i) (deps_back i) (extensions_back i) (extras_back i)) (middles (manifest_back i) (name_back i) (sources_back i))
      (backs (uuid_back i) (version_back i) (weakdeps_back i)) (rest_back i))

-- the dates of the table are those of the rest
pub dates_stay : {uuid : Option (List ℕ)} {version : Option Version} {weakdeps : List (List ℕ × List ℕ)} {manifest name : Option (List ℕ)} {sources : List (List ℕ × Source)}
    {compat : List (List ℕ × Spelled)} {deps : List (List ℕ × List ℕ)} {extensions : List (List ℕ × List (List ℕ))} {extras : List (List ℕ × List ℕ)} {rest m1 m2 m3 : Members}
    → PutsBack uuid version weakdeps rest m1 → PutsMiddle manifest name sources m1 m2 → PutsFront compat deps extensions extras m2 m3
    → names_none rest ≡ true → members_have_valid_dates m3 ≡ members_have_valid_dates rest
unfolding is_named
dates_stay {rest = rest} {m3 = m3} back middle front none =
    let left : unnamed m3 ≡ rest =
    puts_unnamed front.compat_put refl ∙ puts_unnamed front.deps_put refl ∙ puts_unnamed front.extensions_put refl ∙ puts_unnamed front.extras_put refl
    ∙ puts_unnamed middle.manifest_put refl ∙ puts_unnamed middle.name_put refl ∙ puts_unnamed middle.sources_put refl
    ∙ puts_unnamed back.uuid_put refl ∙ puts_unnamed back.version_put refl ∙ puts_unnamed back.weakdeps_put refl ∙ unnamed_plain rest none in
    both_dated (members_have_valid_dates rest) (members_have_valid_dates m3)
    (λ dated. puts_dated front.compat_put (puts_dated front.deps_put (puts_dated front.extensions_put (puts_dated front.extras_put
    (puts_dated middle.manifest_put (puts_dated middle.name_put (puts_dated middle.sources_put
    (puts_dated back.uuid_put (puts_dated back.version_put (puts_dated back.weakdeps_put dated))))))))))
    (λ dated. sym (ap members_have_valid_dates left) ∙ dated_unnamed m3 dated)
