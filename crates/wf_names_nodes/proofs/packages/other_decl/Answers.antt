use Rattle.wf_named.specs.NamedParts.{named_package}
use Rattle.wf_names_resolve.proofs.Growth.{ok_still}
use Rattle.wf_names_nodes.proofs.PackageLemmas.{ok_equal_more, no_others, only_statuses, only_structs, only_methods}
use Rattle.wf_names_nodes.proofs.packages.other_decl.Goals as goal
use Rattle.wf_names_rules.specs.Declarations.{declared_in}

pub returns-in-Status-clause-added : goal.returns-in-Status-clause-added
returns-in-Status-clause-added c = rw c.in-Status.is (ok_equal_more c.put_status.result _ _ _ (only_statuses (named_package c.args.nodes.now) _) c.put_status.ensures)

pub returns-in-Status-clause-known : goal.returns-in-Status-clause-known
returns-in-Status-clause-known c = ok_still c.put_status.result _ c.requires.constants

pub returns-in-Const-clause-added : goal.returns-in-Const-clause-added
returns-in-Const-clause-added c = rw c.in-Const.is (no_others (declared_in c.args.parsed.now) (named_package c.args.nodes.now))

pub returns-in-Struct-clause-added : goal.returns-in-Struct-clause-added
returns-in-Struct-clause-added c =
    rw c.in-Struct.is (ok_equal_more c.next_struct.result _ _ _ (only_structs (named_package c.args.nodes.now) _) (rw c.as_slice.ensures at c.next_struct.ensures.added))

pub returns-in-Method-clause-added : goal.returns-in-Method-clause-added
returns-in-Method-clause-added c =
    rw c.in-Method.is (ok_equal_more c.next_method.result _ _ _ (only_methods (named_package c.args.nodes.now) _) (rw c.as_slice-in-Method.ensures at c.next_method.ensures.added))

pub next_method-requires-clause-next : goal.next_method-requires-clause-next
next_method-requires-clause-next c = rw c.as_slice-in-Method.ensures (rw c.in-Method.is at c.requires.next)
