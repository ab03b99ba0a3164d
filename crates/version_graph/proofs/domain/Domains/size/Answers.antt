use Rattle.std.proofs.Common.{◌∙◌, sym, arith}
use Rattle.version_graph.specs.Domain.{has, row, size_of}
use Rattle.version_graph.proofs.RowLemmas.{none_true, some_true, size_read}
use Rattle.version_graph.proofs.domain.Domains.size.Goals as goal

pub returns-clause-count : goal.returns-clause-count
returns-clause-count c = size_read c.self.inside.rows.items c.args.self.now c.self.inside.sizes.items c.args.p c.index.result.now c.self.view_is c.self.invariant c.requires c.index.ensures

pub returns-clause-none : goal.returns-clause-none
unfolding has size_of
returns-clause-none c e i =
    none_true (row c.args.self.now c.args.p)
    (sym (size_read c.self.inside.rows.items c.args.self.now c.self.inside.sizes.items c.args.p c.index.result.now c.self.view_is c.self.invariant c.requires c.index.ensures) ∙ e) i

pub returns-clause-some : goal.returns-clause-some
unfolding has size_of
returns-clause-some c h =
    some_true (row c.args.self.now c.args.p)
    (omega (arith, size_read c.self.inside.rows.items c.args.self.now c.self.inside.sizes.items c.args.p c.index.result.now c.self.view_is c.self.invariant c.requires c.index.ensures, h))
