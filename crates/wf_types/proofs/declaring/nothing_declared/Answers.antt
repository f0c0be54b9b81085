use Rattle.std.proofs.Common.{refl}
use Rattle.wf_types.specs.DeclaredNodes.{declared_nodes}
use Rattle.wf_types.proofs.declaring.nothing_declared.Goals as goal

pub returns : goal.returns
unfolding declared_nodes
returns c =
    rw (c.in_ok-statuses.ensures, c.in_ok-texts.ensures, c.new.ensures, c.new-2.ensures, c.new-3.ensures, c.new-4.ensures, c.new-5.ensures, c.new-6.ensures, c.new-7.ensures, c.new-8.ensures, c.new-9.ensures, c.new-10.ensures, c.new-11.ensures)
    refl
