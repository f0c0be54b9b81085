use Rattle.std.proofs.Common.{◌≡◌, drop}
use Rattle.std.specs.List.{list_all}
use Rattle.c_form_exprs.specs.Callable.{is_numeric_type}
use Rattle.c_form_exprs.proofs.callable.takes_numbers.Given as goal

abbrev pub invariant-loop-param : goal.invariant-loop-param
invariant-loop-param l = list_all (λ p. is_numeric_type p.kind) (drop l.param-index l.params) ≡ list_all (λ p. is_numeric_type p.kind) l.params
