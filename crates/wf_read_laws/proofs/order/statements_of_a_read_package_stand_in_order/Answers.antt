use Rattle.wf_read_laws.proofs.ReadPackages.{read_packages_stand_in_order}
use Rattle.wf_read_laws.proofs.order.statements_of_a_read_package_stand_in_order.Goals as goal

pub returns : goal.returns
returns c = read_packages_stand_in_order
