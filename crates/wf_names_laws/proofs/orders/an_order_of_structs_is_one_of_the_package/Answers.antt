use Rattle.std.specs.Prelude.{[]}
use Rattle.wf_names_laws.proofs.StructOrders.{no-struct-cycle, struct-order-stands}
use Rattle.wf_names_laws.proofs.orders.an_order_of_structs_is_one_of_the_package.Goals as goal

pub returns-clause-cycle : goal.returns-clause-cycle
returns-clause-cycle c texts decls rows kept made cycle = no-struct-cycle [] texts decls [] [] kept rows made.len made.same cycle

pub returns-clause-front : goal.returns-clause-front
returns-clause-front c name texts decls order struct_order rows kept made ordered = struct-order-stands name texts decls order struct_order kept rows made.len made.same ordered
