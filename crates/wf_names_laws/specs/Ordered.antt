-- Orders of the methods and of the structs of a resolved package.
use Rattle.std.specs.Prelude.{◌≡◌, true, [], length, nat_eq}
use Rattle.wf_named.specs.NamedTree.{NamedPackageTree}
use Rattle.wf_named.specs.WellNamed.{calls_in_front, has_struct_order}

-- The order has as many numbers as there are methods, and each method calls only those before it; and so have the structs.
pub record HasOrder (p : NamedPackageTree) : Type 0 where
  pub long : nat_eq (length p.order) (length p.methods) ≡ true
  pub in_front : calls_in_front p [] p.order ≡ true
  pub structs : has_struct_order p ≡ true
