use Rattle.std.proofs.Common.{◌≡◌, ◌≤◌, drop, IfSome, string_bytes}
use Rattle.depot_hash.specs.Installed.{first_there, below_depots, folder_text}
use Rattle.depot_hash.proofs.packages.below.Given as goal

abbrev pub invariant-loop-depot : goal.invariant-loop-depot
invariant-loop-depot g l = record {
  text : string_bytes l.text ≡ folder_text l.fn.name l.fn.slug;
  told : IfSome (g.S.Store.files l.fn.store) (λ all. first_there all (below_depots l.depot-items l.fn.name l.fn.slug) ≡ first_there all (below_depots (drop l.depot-index l.depot-items) l.fn.name l.fn.slug));
  files : g.S.Store.files l.store ≡ g.S.Store.files l.fn.store;
  later : g.S.Store.read_faults l.fn.store ≤ g.S.Store.read_faults l.store;
  other : g.S.Store.write_faults l.store ≡ g.S.Store.write_faults l.fn.store;
}
