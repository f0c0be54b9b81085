use Rattle.wf_names_laws.proofs.FrontLemmas.{order-long, order-front}
use Rattle.wf_names_laws.proofs.orders.an_order_of_calls_is_one_of_the_package.Goals as goal

pub returns : goal.returns
returns c = record {
  whole = λ name texts decls order struct_order rows made ordered. order-long texts decls name order struct_order rows made ordered;
  front = λ name texts decls order struct_order rows made ordered opens. order-front texts decls name order struct_order rows made ordered opens;
}
