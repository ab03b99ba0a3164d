-- What the steps with maps of texts cite.
use Rattle.std.specs.Prelude.{ℕ, List, map, String, string_bytes, unwrap_or}
use Rattle.std.specs.BTreeMap.{BTreeMap, get_by_text}
use Rattle.std.specs.declared.alloc.Global.{Global}
use Rattle.manifest_file.specs.declared.bearers.Bearers.{Bearers}
use Rattle.manifest_file.specs.declared.bearers.Bearers.TheVariants.{Nobody}

-- the entries of a map by their texts
abbrev pub pairs_of : {X : Type 0} → List (String Global × X) → List (List ℕ × X)
pairs_of es = map (λ e. (string_bytes e.0, e.1)) es

-- who bears a name, by an index
abbrev pub bearers_by : BTreeMap (String Global) Bearers → List ℕ → Bearers
bearers_by index name = unwrap_or (get_by_text index name) Nobody
